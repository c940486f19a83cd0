-- For nothing_is_ready_where_none_was_found.
-- The poll of a run: where it finds a future it looks again behind that, or calls its own waker.
use Rattle.std.proofs.Common.{◌≡◌, ◌≢◌, ◌⊎◌, ◌∙◌, inl, inr, ⊎_elim, ℕ, zero, suc, ◌+◌, List, [], ◌∷◌, ◌++◌, length, Bool, true}
use Rattle.std.proofs.Common.{false, eqb, refl, sym, ap, subst, arith}
use Rattle.std.{proofs.lemmas.List.reverse-append, specs.Prelude.Some, specs.Prelude.None, specs.Prelude.reverse}
use Rattle.executor_parts.specs.Marks.{other}
use Rattle.executor_model.specs.{World.queue_of, World.run_of, ActsOfSleepers.found_by, Doing.act, Weights.weigh}
use Rattle.executor_model.proofs.{Quiet.Calls.is_end, Steps.Reached.Reached}
use Rattle.executor_laws.proofs.{Types.TickOrRun, Types.UserOp, Types.Hint, Fewness.AnySteps.beside_of}
use Rattle.executor_laws.proofs.{Placement.OwnReady.reached-on, Seeking.SeekStacks.Lands.on, Seeking.SeekStacks.Lands.over}
use Rattle.executor_laws.proofs.Types.{Step, Begin, Go, UserEnd, Mark, Call, Reply, Kind, Hold, ListOp, Look, First, Second, Move, Op}
use Rattle.executor_laws.proofs.Types.{RunOp, RunPoll, Section, SleeperOp, Sleeping, Steal, StealOp, Then, TickOp}
use Rattle.executor_model.specs.declared.step.Step.TheVariants.{Answer}
use Rattle.executor_model.specs.ActsOfRuns.{asleep, behind, counted_by, found, free_places, reschedule_by, run_by, run_found}
use Rattle.executor_model.specs.ActsOfRuns.{search_common_by, search_own_by, share, source_of, steal_by, steal_length_by, steal_put_by}
use Rattle.executor_model.specs.ActsOfRuns.{put_refused, steal_take_by, stolen}
use Rattle.executor_model.specs.World.{Asleep, Awake, Done, Ended, Left, Listed, New, Stage, Ticker, World, own_of, put_own}
use Rattle.executor_model.specs.Steps.{Machine, accepts, poll_run, react, refusal, run, stack, start, step, stepped, top, waits}
use Rattle.executor_laws.specs.PendingPolls.{CommonHadNone, IsAnswered, OtherHadNone, RunFoundNone, RunsLookFirst, Walked, run_poll}
use Rattle.executor_model.proofs.Steps.Lists.{weigh-append, weigh-reverse}
use Rattle.executor_laws.proofs.Seeking.SeekStacks.{Comes, Follows, Lands, Next, answered-long, begins-so, own_part, seek}
use Rattle.executor_laws.proofs.Seeking.SeekStacks.Next.{goes_on, had}
use Rattle.executor_model.specs.declared.event.Answer.TheVariants as answer

-- it looks on; its own queue has none; one of the executor's queues has none either, and it looks at that of this mark; or none
-- of the three has one
data Far : Type 0 where
  before : Far
  at_common : Far
  second : Mark → Far
  at_list : Far

-- a steal behind which it runs what it has found
abbrev Running : Then → Type 0
Running (Then.Found f) = Unit {0}
Running (Then.StealPlain f) = Unit {0}
Running (Then.Run f) = Unit {0}
Running (Then.Walk at left) = ⊥

module _ (p : ℕ) (x : RunPoll) (old : List Op) where
  abbrev Steals : Steal → Type 0
  Steals s = (s.poll ≡ x) × Running s.then

  abbrev Control : Far → Op → Type 0
  Control before (Op.List (ListOp.LockWrite (Section.Register y))) = y ≡ x
  Control before (Op.List (ListOp.LockWrite (Section.Unregister r a))) = a ≡ Reply.Ready
  Control before (Op.List (ListOp.Write (Section.Register y))) = y ≡ x
  Control before (Op.List (ListOp.Write (Section.Unregister r a))) = a ≡ Reply.Ready
  Control before (Op.Run (RunOp.Reschedule r a)) = a ≡ Reply.Ready
  Control before (Op.Run (RunOp.WakeOwn y)) = y ≡ x
  Control before (Op.User (UserOp.PollOwn y)) = y ≡ x
  Control before (Op.Tick (TickOp.Search s)) = s ≡ asleep x
  Control before (Op.Steal (StealOp.Length s)) = Steals s
  Control before (Op.Steal (StealOp.OwnLength s n)) = Steals s
  Control before (Op.Steal (StealOp.Take s more)) = Steals s
  Control before (Op.Steal (StealOp.Put s more f)) = Steals s
  Control before (Op.End a held) = a ≢ Reply.Pending
  Control at_common (Op.Run (RunOp.TakeTurn y)) = y ≡ x
  Control at_common (Op.Run (RunOp.SearchCommon y (First m))) = y ≡ x
  Control (second m) (Op.Run (RunOp.SearchCommon y look)) = (y ≡ x) × (look ≡ Second m)
  Control at_list (Op.List (ListOp.LockRead y)) = y ≡ x
  Control _ _ = ⊥

  abbrev Has : Far → List Step → Machine → Type 0
  Has before ts s = RunFoundNone x p ts s
  Has at_common ts s = CommonHadNone x p ts s ⊎ RunFoundNone x p ts s
  Has (second m) ts s = OtherHadNone m x p ts s ⊎ RunFoundNone x p ts s
  Has at_list ts s = Walked x p ts s

  abbrev Goes : Far → Machine → Step → Done → Type 0
  Goes i s u d = Next p old Far Control Has i s u d

  abbrev Again : Done → Type 0
  Again d = Comes p old Far Control before d

  -- with these things to do first
  behind-again : (ops : List Op) (d : Done) → weigh beside_of ops ≡ 0 → Again d → Again (behind ops d)
  behind-again ops d z k = record {
    control = k.control;
    side = k.side ++ reverse ops;
    is = reverse-append ops d.next ∙ ap (λ (os : List Op). os ++ reverse ops) k.is;
    kind = k.kind;
    light = omega (arith, z, k.light, weigh-append beside_of k.side (reverse ops), weigh-reverse beside_of ops);
  }

  -- what it has found is run

  run-again : (b : Bool) (w : World) (y : RunPoll) (f : ℕ) → y ≡ x → Again (run_by b w y f)
  run-again true w y f k = record { control = _; side = _; is = refl; kind = k; light = refl }
  run-again false w y f k = record { control = _; side = _; is = refl; kind = ap asleep k; light = refl }

  run-found-again : (w : World) (y : RunPoll) (f : ℕ) → y ≡ x → Again (run_found w y f)
  run-found-again w y f k = run-again (eqb ((run_of w y.run).taken + 1) 200) w y f k

  counted-again : (b : Bool) (w : World) (y : RunPoll) (f : ℕ) → y ≡ x → Again (counted_by b w y f)
  counted-again true w y f k = record { control = _; side = _; is = refl; kind = (k, tt); light = refl }
  counted-again false w y f k = run-found-again _ y f k

  light-found : (place : Ticker) (r : ℕ) →
      weigh beside_of (found_by place (TickOrRun.Run r) (Op.Sleeper SleeperOp.ExchangeFlag ∷ [])) ≡ 0
  light-found Awake r = refl
  light-found (Asleep n) r = refl
  light-found Left r = refl

  found-again : (w : World) (y : RunPoll) (f : ℕ) → y ≡ x → Again (found w y f)
  found-again w y f k = behind-again
      (found_by (run_of w y.run).place (TickOrRun.Run y.run) (Op.Sleeper SleeperOp.ExchangeFlag ∷ []))
      (counted_by (eqb ((run_of w y.run).counted + 1) 64) w y f) (light-found (run_of w y.run).place y.run)
      (counted-again (eqb ((run_of w y.run).counted + 1) 64) w y f k)

  -- a steal goes on, or has ended

  stolen-again : (t : Then) (w : World) (y : RunPoll) → y ≡ x → Running t → Again (stolen t w y)
  stolen-again (Then.Found f) w y k r = found-again w y f k
  stolen-again (Then.StealPlain f) w y k r = record { control = _; side = _; is = refl; kind = (k, tt); light = refl }
  stolen-again (Then.Run f) w y k r = run-found-again w y f k
  stolen-again (Then.Walk at left) w y k r = absurd r

  length-again : (n : ℕ) (w : World) (s : Steal) → Steals s → Again (steal_length_by n w s)
  length-again zero w s k = stolen-again s.then w s.poll k.0 k.1
  length-again (suc n) w s k = record { control = _; side = _; is = refl; kind = k; light = refl }

  steal-again : (n : ℕ) (w : World) (s : Steal) → Steals s → Again (steal_by n w s)
  steal-again zero w s k = stolen-again s.then w s.poll k.0 k.1
  steal-again (suc n) w s k = record { control = _; side = _; is = refl; kind = k; light = refl }

  take-again : (q : List ℕ) (w : World) (s : Steal) (more : ℕ) → Steals s → Again (steal_take_by q w s more)
  take-again [] w s more k = stolen-again s.then w s.poll k.0 k.1
  take-again (f ∷ rest) w s more k = record { control = _; side = _; is = refl; kind = k; light = refl }

  refused-again : (t : Then) (w : World) (y : RunPoll) (f : ℕ) → y ≡ x → Running t → Again (put_refused t w y f)
  refused-again (Then.Walk at left) w y f k r = absurd r
  refused-again t w y f k r = behind-again (Op.Move Move.DropRunnable f ∷ []) (stolen t w y) refl (stolen-again t w y k r)

  put-again : (b : Bool) (w : World) (s : Steal) (more f : ℕ) → Steals s → Again (steal_put_by b p w s more f)
  put-again true w s more f k = steal-again more _ s k
  put-again false w s more f k = refused-again s.then w s.poll f k.0 k.1

  -- its own future was ready

  not-pending : (a : Reply) → a ≡ Reply.Ready → a ≢ Reply.Pending
  not-pending a k = λ e. let no : Reply.Ready ≡ Reply.Pending = sym k ∙ e in cc

  reschedules : (q : List ℕ) (w : World) (r : ℕ) (a : Reply) → a ≡ Reply.Ready → Again (reschedule_by q w r a)
  reschedules [] w r a k = record { control = _; side = _; is = refl; kind = not-pending a k; light = refl }
  reschedules (f ∷ rest) w r a k = record { control = _; side = _; is = refl; kind = k; light = refl }

  -- a step of its own

  -- it goes on as it did before
  goes-before : (s : Machine) (u : Step) (d : Done) → Again d → Goes before s u d
  goes-before s u d k = goes_on before k (λ ts z. inr (inr z))

  looks-own : (s : Machine) (h : Hint) → refusal s (Go p h) ≡ None →
      top (stack s p) ≡ Some (Op.Tick (TickOp.Search (asleep x))) →
      (q : List ℕ) → own_of s.world x.run ≡ q → Goes before s (Go p h) (search_own_by q s.world x)
  looks-own s h e o [] i = goes_on at_common (record { control = _; side = _; is = refl; kind = refl; light = refl })
      (λ ts z. ⊎_elim
      (λ (y : CommonHadNone x p ts (stepped s (step s (Go p h)))). inl (
        record {
          looks = record { hint = h; is = refl; possible = e; next = o };
          none = i;
        },
        y,
      ))
      (λ (y : RunFoundNone x p ts (stepped s (step s (Go p h)))). inr (inr y)) z)
  looks-own s h e o (f ∷ rest) i = goes-before s (Go p h) _ (found-again (put_own s.world x.run rest) x f refl)

  later-common : (s : Machine) (u : Step) (ts : List Step) → Has at_common ts (stepped s (step s u)) → Has at_common (u ∷ ts) s
  later-common s u ts (inl z) = inl (inr z)
  later-common s u ts (inr z) = inr (inr (inr z))

  later-second : (m : Mark) (s : Machine) (u : Step) (ts : List Step) → Has (second m) ts (stepped s (step s u)) →
      Has (second m) (u ∷ ts) s
  later-second m s u ts (inl z) = inl (inr z)
  later-second m s u ts (inr z) = inr (inr (inr z))

  -- where its first look finds none
  first-none : (m : Mark) (s : Machine) (h : Hint) → refusal s (Go p h) ≡ None →
      top (stack s p) ≡ Some (Op.Run (RunOp.SearchCommon x (First m))) → (queue_of s.world m).items ≡ [] → (ts : List Step) →
      Has (second (other m)) ts (stepped s (step s (Go p h))) → Has at_common (Go p h ∷ ts) s
  first-none m s h e o i ts (inl z) =
      inl (inl (m, record { looks = record { hint = h; is = refl; possible = e; next = o }; none = i }, z))
  first-none m s h e o i ts (inr z) = inr (inr (inr z))

  looks-first : (m : Mark) (s : Machine) (h : Hint) → refusal s (Go p h) ≡ None →
      top (stack s p) ≡ Some (Op.Run (RunOp.SearchCommon x (First m))) → (q : List ℕ) → (queue_of s.world m).items ≡ q →
      Goes at_common s (Go p h) (search_common_by q s.world x (First m))
  looks-first m s h e o [] i = goes_on (second (other m))
      (record { control = _; side = _; is = refl; kind = (refl, refl); light = refl }) (first-none m s h e o i)
  looks-first m s h e o (f ∷ rest) i = goes_on before
      (record { control = _; side = _; is = refl; kind = (refl, tt); light = refl }) (λ ts z. inr (inr (inr z)))

  looks-second : (m : Mark) (s : Machine) (h : Hint) → refusal s (Go p h) ≡ None →
      top (stack s p) ≡ Some (Op.Run (RunOp.SearchCommon x (Second m))) → (q : List ℕ) → (queue_of s.world m).items ≡ q →
      Goes (second m) s (Go p h) (search_common_by q s.world x (Second m))
  looks-second m s h e o [] i = goes_on at_list (record { control = _; side = _; is = refl; kind = refl; light = refl })
      (λ ts z. inl (inl (
        record {
          looks = record { hint = h; is = refl; possible = e; next = o };
          none = i;
        },
        z,
      )))
  looks-second m s h e o (f ∷ rest) i = goes_on before
      (record { control = _; side = _; is = refl; kind = (refl, tt); light = refl }) (λ ts z. inr (inr (inr z)))

  acts-before : (s : Machine) (h : Hint) (c : Op) → refusal s (Go p h) ≡ None → top (stack s p) ≡ Some c →
      waits c ≡ false → is_end c ≡ false → Control before c → Goes before s (Go p h) (act p h c s.world)
  acts-before s h (Op.List (ListOp.LockWrite (Section.Register y))) e o w n k =
      goes-before s (Go p h) _ (record { control = _; side = _; is = refl; kind = k; light = refl })
  acts-before s h (Op.List (ListOp.LockWrite (Section.Unregister r a))) e o w n k =
      goes-before s (Go p h) _ (record { control = _; side = _; is = refl; kind = k; light = refl })
  acts-before s h (Op.List (ListOp.Write (Section.Register y))) e o w n k =
      goes-before s (Go p h) _ (record { control = _; side = _; is = refl; kind = k; light = refl })
  acts-before s h (Op.List (ListOp.Write (Section.Unregister r a))) e o w n k =
      goes-before s (Go p h) _ (record { control = _; side = _; is = refl; kind = k; light = refl })
  acts-before s h (Op.Run (RunOp.Reschedule r a)) e o w n k =
      goes-before s (Go p h) _ (reschedules (own_of s.world r) s.world r a k)
  acts-before s h (Op.Run (RunOp.WakeOwn y)) e o w n k = had (λ ts. inr (inl (record {
    hint = h;
    is = refl;
    possible = e;
    next = o ∙ ap (λ (v : RunPoll). Some (Op.Run (RunOp.WakeOwn v))) k;
  })))
  acts-before s h (Op.User (UserOp.PollOwn y)) e o w n k = absurd (cc)
  acts-before s h (Op.Tick (TickOp.Search y)) e o w n k =
      subst (λ (v : Sleeping). Goes before s (Go p h) (act p h (Op.Tick (TickOp.Search v)) s.world)) (sym k)
      (looks-own s h e (o ∙ ap (λ (v : Sleeping). Some (Op.Tick (TickOp.Search v))) k) (own_of s.world x.run) refl)
  acts-before s h (Op.Steal (StealOp.Length y)) e o w n k =
      goes-before s (Go p h) _ (length-again (length (source_of s.world y.from)) s.world y k)
  acts-before s h (Op.Steal (StealOp.OwnLength y m)) e o w n k =
      goes-before s (Go p h) _ (steal-again (share m (free_places s.world y.poll.run)) s.world y k)
  acts-before s h (Op.Steal (StealOp.Take y more)) e o w n k =
      goes-before s (Go p h) _ (take-again (source_of s.world y.from) s.world y more k)
  acts-before s h (Op.Steal (StealOp.Put y more f)) e o w n k = goes-before s (Go p h) _ (put-again _ s.world y more f k)
  acts-before s h (Op.End a held) e o w n k = absurd (cc)
  acts-before s h _ e o w n k = absurd k

  acts : (i : Far) (s : Machine) (h : Hint) (c : Op) → refusal s (Go p h) ≡ None → top (stack s p) ≡ Some c →
      waits c ≡ false → is_end c ≡ false → Control i c → Goes i s (Go p h) (act p h c s.world)
  acts before s h c e o w n k = acts-before s h c e o w n k
  acts at_common s h (Op.Run (RunOp.TakeTurn y)) e o w n k =
      goes_on at_common (record { control = _; side = _; is = refl; kind = k; light = refl }) (later-common s (Go p h))
  acts at_common s h (Op.Run (RunOp.SearchCommon y (First m))) e o w n k =
      subst (λ (v : RunPoll). Goes at_common s (Go p h) (act p h (Op.Run (RunOp.SearchCommon v (First m))) s.world)) (sym k)
      (looks-first m s h e (o ∙ ap (λ (v : RunPoll). Some (Op.Run (RunOp.SearchCommon v (First m)))) k)
      (queue_of s.world m).items refl)
  acts at_common s h _ e o w n k = absurd k
  acts (second m) s h (Op.Run (RunOp.SearchCommon y look)) e o w n k =
      subst (λ (v : RunPoll × Look). Goes (second m) s (Go p h) (act p h (Op.Run (RunOp.SearchCommon v.0 v.1)) s.world))
      (λ i. (sym k.0 i, sym k.1 i))
      (looks-second m s h e (o ∙ (λ i. Some (Op.Run (RunOp.SearchCommon (k.0 i) (k.1 i)))))
      (queue_of s.world m).items refl)
  acts (second m) s h _ e o w n k = absurd k
  acts at_list s h (Op.List (ListOp.LockRead y)) e o w n k = had (λ ts. inl (record {
    hint = h;
    is = refl;
    possible = e;
    next = o ∙ ap (λ (v : RunPoll). Some (Op.List (ListOp.LockRead v))) k;
  }))
  acts at_list s h _ e o w n k = absurd k

  own-reacts : (s : Machine) (u : UserEnd) (y : RunPoll) → accepts (Op.User (UserOp.PollOwn y)) u ≡ true → y ≡ x →
      Goes before s (Answer p u) (react p (Op.User (UserOp.PollOwn y)) u s.world)
  own-reacts s (UserEnd.Polled answer.Pending) y v k = goes-before s _ _
      (record { control = _; side = _; is = refl; kind = ap asleep k; light = refl })
  own-reacts s (UserEnd.Polled answer.Ready) y v k = goes-before s _ _
      (record { control = _; side = _; is = refl; kind = refl; light = refl })
  own-reacts s UserEnd.Done y v k = absurd (cc)

  reacts-before : (s : Machine) (u : UserEnd) (c : Op) → accepts c u ≡ true → Control before c →
      Goes before s (Answer p u) (react p c u s.world)
  reacts-before s u (Op.User (UserOp.PollOwn y)) v k = own-reacts s u y v k
  reacts-before s u (Op.User (UserOp.Poll f)) v k = absurd k
  reacts-before s u (Op.User (UserOp.BeginDrop f)) v k = absurd k
  reacts-before s u (Op.User (UserOp.Drop f)) v k = absurd k
  reacts-before s u (Op.User (UserOp.BeginDropOutput f)) v k = absurd k
  reacts-before s u (Op.User (UserOp.DropOutput f)) v k = absurd k
  reacts-before s u (Op.User (UserOp.CallOutside y)) v k = absurd k
  reacts-before s u (Op.User (UserOp.DropOwn r)) v k = absurd k
  reacts-before s u _ v k = absurd (cc)

  reacts : (i : Far) (s : Machine) (u : UserEnd) (c : Op) → accepts c u ≡ true → Control i c →
      Goes i s (Answer p u) (react p c u s.world)
  reacts before s u c v k = reacts-before s u c v k
  reacts at_common s u (Op.Run o) v k = absurd (cc)
  reacts at_common s u _ v k = absurd k
  reacts (second m) s u (Op.Run o) v k = absurd (cc)
  reacts (second m) s u _ v k = absurd k
  reacts at_list s u (Op.List (ListOp.LockRead y)) v k = absurd (cc)
  reacts at_list s u _ v k = absurd k

  later : (i : Far) (s : Machine) (u : Step) (ts : List Step) → Has i ts (stepped s (step s u)) → Has i (u ∷ ts) s
  later before s u ts z = inr (inr z)
  later at_common s u ts z = later-common s u ts z
  later (second m) s u ts z = later-second m s u ts z
  later at_list s u ts z = inr z

  ends : (i : Far) (a : Reply) (held : Hold) → Control i (Op.End a held) → a ≢ Reply.Pending
  ends before a held k = k
  ends at_common a held k = absurd k
  ends (second m) a held k = absurd k
  ends at_list a held k = absurd k

  follows : Follows p old Far Control Has
  follows = record { later = later; acts = acts; reacts = reacts; ends = ends }

  run-sought : (ts : List Step) (s : Machine) → Reached s → Lands p old Far Control before (own_part p s) →
      IsAnswered Reply.Pending p old ts s → RunFoundNone x p ts s
  run-sought ts s y (on h) a = seek p old Far Control Has follows ts s y before h a
  run-sought ts s y (over r held v k w l) a = absurd (omega (arith, answered-long Reply.Pending p old ts s a, l))

  begins : (t : Stage) (d : Done) → d.next ≡ poll_run t x → Again d
  begins New d e = record { control = _; side = []; is = ap (λ (os : List Op). reverse os) e; kind = refl; light = refl }
  begins Listed d e = record { control = _; side = []; is = ap (λ (os : List Op). reverse os) e; kind = refl; light = refl }
  begins Ended d e = record {
    control = _;
    side = [];
    is = ap (λ (os : List Op). reverse os) e;
    kind = λ i. let no : Reply.Finished ≡ Reply.Pending = i in cc;
    light = refl;
  }

sought : (s : Machine) → Reached s → RunsLookFirst s
sought s y p r b e ts a =
    let x : RunPoll = run_poll p r b s in
    run-sought p x (stack s p) ts (stepped s (step s (Begin p (Call.PollRun r b))))
    (reached-on s (Begin p (Call.PollRun r b) ∷ []) y)
    (begins-so p Far (Control p x (stack s p)) before s (Call.PollRun r b) e
    (begins p x (stack s p) (run_of s.world r).stage _ refl)) a

pub runs-look-first : (limit : ℕ) (kind : Kind) (parties : ℕ) (steps : List Step) →
    RunsLookFirst (run steps (start limit kind parties))
runs-look-first limit kind parties steps = sought (run steps (start limit kind parties))
    (record { limit = limit; kind = kind; parties = parties; steps = steps; is = refl })
