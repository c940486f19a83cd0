-- Ends of users' codes happen, and calls of runs.
use Rattle.std.proofs.Common.{◌≡◌, ℕ, suc, ◌+◌, ◌*◌, ◌<◌, Bool, true, false, List, [], ◌∷◌, ◌++◌, length, Option, Some, None}
use Rattle.std.proofs.Common.{append_assoc, refl, sym, ap, subst, ◌∙◌, arith}
use Rattle.queue_steps.specs.ClosableQueue.{most_accepted}
use Rattle.solo.specs.declared.names.SoloWaker.{SoloWaker}
use Rattle.solo.specs.declared.owed.Lent.{Lent}
use Rattle.solo.specs.declared.owed.Owed.{Owed}
use Rattle.solo.specs.declared.solo.Solo.{Solo}
use Rattle.solo.specs.OwnQueues.{count_of as count_of_own}
use Rattle.solo.specs.Runs as runs
use Rattle.solo.specs.Solo as solo
use Rattle.plain_scheduler.specs.State.{Answer, Answers, AtOnce, Choice, Close, Closed, Code, Drop, DropOwn, Drops, End, Event, Gave}
use Rattle.plain_scheduler.specs.State.{Granted, Later}
use Rattle.plain_scheduler.specs.State.{Lose, Loses, Plain, Poll, PollOwn, Refusal, Run, Taker, Tick, Try, Yes}
use Rattle.plain_scheduler.specs.Lists.{or}
use Rattle.plain_scheduler.specs.Calls as plain
use Rattle.plain_scheduler.specs.Calls.{Call, is_granted}
use Rattle.solo_laws.specs.Alike.{calls, lets_go}
use Rattle.solo_laws.specs.Busy.{busy_in}
use Rattle.solo_laws.specs.Courses.{Makes, ends_closed, ends_given, gives, loses, makes_no_run, makes_run, over_dropped, over_polled}
use Rattle.solo_laws.specs.Courses.{own_ready, pends, run_dropped, run_leaves, run_looks, run_polled}
use Rattle.solo_laws.specs.Dropping.{after_drop}
use Rattle.solo_laws.specs.Making.{EachPolledBy, Happens, IsKnown, MayEnd, MayPend, PolledBy, PolledIf, PolledIn, WakersAreKnown, left_in}
use Rattle.solo_laws.specs.Owner.{Owner}
use Rattle.solo_laws.specs.Road.{HasLife, is_in}
use Rattle.solo_laws.specs.RunGoing.{Dropping, IsEnding, Losing, Polling, Stage, code_at, drop_ends, in_try, loss_ends, poll_ends}
use Rattle.solo_laws.specs.Shown.{call_shows, drop_shows, loses_or, rings, rings_of, rings_without}
use Rattle.solo_laws.specs.Tabled.{goes_on}
use Rattle.solo_laws.proofs.Showing.Courses.{Known}
use Rattle.solo_laws.proofs.Happening.Choosing.{fewer, is_made, wish}
use Rattle.solo_laws.proofs.Happening.Searching.{search_happens}
use Rattle.solo_laws.proofs.Happening.Ticks.{is_acted}
use Rattle.solo_laws.proofs.Happening.Ends.{after_lives, calls_lives, has, known_as, left_lives, more, pends_lives, run_drops_it, run_goes}
use Rattle.solo_laws.proofs.Happening.Ends.{run_loses_it, runner_of}

module _ {F T X : Type 0} (its : ℕ → Lent) (future : F) (owner : Owner) (s : Solo F T X) (p : Plain T (SoloWaker X))
    (known : Known its owner s p) (refusal : Refusal) (first second name : ℕ) where
  abbrev wished : Call T (SoloWaker X) → Type 0
  wished call = Happens its owner s p (wish its future owner s p known.stands refusal first second name call)

  abbrev most : ℕ
  most = suc (length p.lying)

  -- a code in which a run runs what it took
  module _ (stage : Stage T (SoloWaker X)) (r : ℕ) (w : SoloWaker X) (rest : List (Code T (SoloWaker X)))
      (is : p.inside ≡ code_at stage (Run r w) ∷ rest) (call : Call T (SoloWaker X)) (ends : IsEnding stage call) (y : Solo F T X)
      (life : HasLife 5 y.lines) (w_known : IsKnown its owner s p w) where
    abbrev Tried : List (Event T (SoloWaker X)) → Type 0
    Tried all = (c : Choice) → Makes its c s (in_try stage rest p) call all y

    goes : (shown : List (Event T (SoloWaker X))) → Tried (shown ++ Answers Yes ∷ []) → wished call
    goes shown how = run_goes its future owner s p known refusal first second name stage r w rest is call ends y life w_known shown how

    drops_it : (shown : List (Event T (SoloWaker X))) (f : ℕ) → Tried (shown ++ Drops f ∷ []) → wished call
    drops_it shown f how =
        run_drops_it its future owner s p known refusal first second name stage r w rest is call ends y life w_known shown f how

    loses_it : (shown : List (Event T (SoloWaker X))) (v : T) → Tried (shown ++ Loses v ∷ []) → wished call
    loses_it shown v how =
        run_loses_it its future owner s p known refusal first second name stage r w rest is call ends y life w_known shown v how

  -- the poll of a future ends
  pend_happens : (f : ℕ) (by : Taker (SoloWaker X)) (rest : List (Code T (SoloWaker X))) → p.inside ≡ Poll f by ∷ rest
      → PolledBy (IsKnown its owner s p) by → HasLife 9 s.lines → wished plain.Pends
  pend_happens f Try rest is w_known life =
      is_made its future owner s p known.stands refusal first second name refusal plain.Pends _ _
      (pends f Try rest future refl is (fewer 2 9 s.lines (omega arith) life)) refl tt
  pend_happens f (Tick t w) rest is w_known life =
      is_made its future owner s p known.stands refusal first second name refusal plain.Pends _ _
      (pends f (Tick t w) rest future refl is (fewer 2 9 s.lines (omega arith) life)) refl tt
  pend_happens f (Run r w) rest is w_known life = by out.rest refl
    where
      out : Owed F T X
      out = solo.settle_pending_answer (its f) future s

      y : Solo F T X
      y = solo.settled_pending (its f) future s

      lives : HasLife 5 (solo.settled_pending (its f) future s).lines
      lives = pends_lives 5 (its f) future s (fewer 8 9 s.lines (omega arith) life)

      shows : (o : Option Lent) → List (Event T (SoloWaker X))
      shows o = or o (λ lent. Drops lent.task.number ∷ []) (rings out.sleeper ++ Answers Yes ∷ [])

      how : (o : Option Lent) → out.rest ≡ o → (c : Choice) → Makes its c s (in_try (Polling f) rest p) plain.Pends (shows o) y
      how o none c =
          subst (λ es. Makes its c s (in_try (Polling f) rest p) plain.Pends es y) (ap shows none)
          (pends f Try rest future refl refl (fewer 2 9 s.lines (omega arith) life))

      by : (o : Option Lent) → out.rest ≡ o → wished plain.Pends
      by None none = goes (Polling f) r w rest is plain.Pends (poll_ends f) y lives w_known (rings out.sleeper) (how None none)
      by (Some lent) some =
          drops_it (Polling f) r w rest is plain.Pends (poll_ends f) y lives w_known [] lent.task.number (how (Some lent) some)

  -- that of a run's own, and it searches
  own_pend_happens : (r : ℕ) (w : SoloWaker X) (rest : List (Code T (SoloWaker X))) → p.inside ≡ PollOwn r w ∷ rest
      → IsKnown its owner s p w → HasLife 9 s.lines → wished plain.Pends
  own_pend_happens r w rest is w_known life =
      let runner = runner_of its future owner s p known refusal first second name r in
      let out = record p { inside = rest } in
      let it =
      search_happens its owner runner w s refusal first second out most
      (known_as its future owner s p known refusal first second name s out w refl w_known) (omega arith)
      (fewer 5 9 s.lines (omega arith) life) in
      record {
        choice = it.choice;
        shown = it.so.shown;
        now = it.so.now;
        after = it.so.after;
        acts =
            run_looks runner w rest it.so.shown it.so.now it.so.after (has its future owner s p known refusal first second name r)
            (is ∙ ap (λ k. PollOwn k w ∷ rest) (sym (known.tallied.number r))) it.so.how;
        tells = more its future owner s p known refusal first second name it.choice.tells it.tells_so;
        refused = it.so.heeds;
        starts = it.so.starts;
        named_so = tt;
        room = tt;
      }

  -- the innermost one has a waker that is known
  innermost : WakersAreKnown its owner s p → (code : Code T (SoloWaker X)) (rest : List (Code T (SoloWaker X)))
      → p.inside ≡ code ∷ rest → PolledIn (IsKnown its owner s p) code
  innermost all code rest is = (subst (EachPolledBy (IsKnown its owner s p)) is all).0

  pub pends_happen : WakersAreKnown its owner s p → MayPend its owner s p p.inside → HasLife 9 s.lines → wished plain.Pends
  pends_happen all may life = by p.inside refl may
    where
      by : (cs : List (Code T (SoloWaker X))) → p.inside ≡ cs → MayPend its owner s p cs → wished plain.Pends
      by [] is may = absurd may
      by (Poll f taker ∷ rest) is may = pend_happens f taker rest is (innermost all (Poll f taker) rest is) life
      by (Drop f end taker ∷ rest) is may = absurd may
      by (Lose awaiter taker ∷ rest) is may = absurd may
      by (PollOwn r w ∷ rest) is may = own_pend_happens r w rest is (innermost all (PollOwn r w) rest is) life
      by (DropOwn r answer ∷ rest) is may = absurd may
      by (Close fs all ∷ rest) is may = absurd may

  pub gives_happen : (v : T) → MayPend its owner s p p.inside → wished (plain.EndsWith v)
  gives_happen v may = by p.inside refl may
    where
      by : (cs : List (Code T (SoloWaker X))) → p.inside ≡ cs → MayPend its owner s p cs → wished (plain.EndsWith v)
      by [] is may = absurd may
      by (Poll f taker ∷ rest) is may =
          is_made its future owner s p known.stands refusal first second name refusal (plain.EndsWith v) _ s (gives f taker rest v is)
          refl tt
      by (Drop f end taker ∷ rest) is may = absurd may
      by (Lose awaiter taker ∷ rest) is may = absurd may
      by (PollOwn r w ∷ rest) is may =
          is_acted its future owner s p known.stands refusal first second name refusal (plain.EndsWith v) _ owner s
          (own_ready r w v rest is) refl tt tt tt
      by (DropOwn r answer ∷ rest) is may = absurd may
      by (Close fs all ∷ rest) is may = absurd may

  -- the drop of a future ends, of one that gave its output, or whose task is closed
  module _ (f : ℕ) (rest : List (Code T (SoloWaker X))) (life : HasLife 15 s.lines) where
    -- what is owed then, and what is left
    module _ (end : End T) (owed : Owed F T X) (z : Solo F T X) (less : HasLife 11 z.lines)
        (how : (c : Choice)
        → Makes its c s (in_try (Dropping f end) rest p) plain.Ends (drop_shows Try owed z) (after_drop owed z)) where
      run_drop_happens : (r : ℕ) (w : SoloWaker X) → p.inside ≡ Drop f end (Run r w) ∷ rest → IsKnown its owner s p w → wished plain.Ends
      run_drop_happens r w is w_known = by owed.output refl
        where
          lives : HasLife 5 (after_drop owed z).lines
          lives = after_lives owed z less

          shows : Option T → List (Event T (SoloWaker X))
          shows o = rings owed.sleeper ++ loses_or o (rings_without owed.old z ++ call_shows owed.awaiter (Some Try) (lets_go owed.old z))

          tries : (o : Option T) → owed.output ≡ o → (c : Choice)
              → Makes its c s (in_try (Dropping f end) rest p) plain.Ends (shows o) (after_drop owed z)
          tries o is c =
              subst (λ es. Makes its c s (in_try (Dropping f end) rest p) plain.Ends es (after_drop owed z)) (ap shows is)
              (how c)

          last : (a b e : List (Event T (SoloWaker X))) (d : Event T (SoloWaker X)) → a ++ (b ++ (e ++ d ∷ [])) ≡ (a ++ (b ++ e)) ++ d ∷ []
          last a b e d = sym (append_assoc a (b ++ e) (d ∷ []) ∙ ap (λ es. a ++ es) (append_assoc b e (d ∷ [])))

          by : (o : Option T) → owed.output ≡ o → wished plain.Ends
          by (Some v) some =
              loses_it (Dropping f end) r w rest is plain.Ends (drop_ends f end) (after_drop owed z) lives w_known (rings owed.sleeper) v
              (tries (Some v) some)
          by None none =
              goes (Dropping f end) r w rest is plain.Ends (drop_ends f end) (after_drop owed z) lives w_known
              (rings owed.sleeper ++ (rings_without owed.old z ++ rings_of owed.awaiter (lets_go owed.old z)))
              (λ c. subst (λ es. Makes its c s (in_try (Dropping f end) rest p) plain.Ends es (after_drop owed z))
              (last (rings owed.sleeper) (rings_without owed.old z) (rings_of owed.awaiter (lets_go owed.old z)) (Answers Yes))
              (tries None none c))

    drop_happens : (end : End T) (by : Taker (SoloWaker X)) → p.inside ≡ Drop f end by ∷ rest → PolledBy (IsKnown its owner s p) by
        → wished plain.Ends
    drop_happens Closed Try is w_known =
        is_made its future owner s p known.stands refusal first second name refusal plain.Ends _ _
        (ends_closed f Try rest refl is (fewer 8 15 s.lines (omega arith) life)) refl tt
    drop_happens Closed (Tick t w) is w_known =
        is_made its future owner s p known.stands refusal first second name refusal plain.Ends _ _
        (ends_closed f (Tick t w) rest refl is (fewer 8 15 s.lines (omega arith) life)) refl tt
    drop_happens Closed (Run r w) is w_known =
        run_drop_happens Closed (solo.finish_answer (its f) s) (solo.finished (its f) s)
        (left_lives 11 (its f).place s (fewer 14 15 s.lines (omega arith) life))
        (λ c. ends_closed f Try rest refl refl (fewer 8 15 s.lines (omega arith) life)) r w is w_known
    drop_happens (Gave v) Try is w_known =
        is_made its future owner s p known.stands refusal first second name refusal plain.Ends _ _
        (ends_given f v Try rest refl is (fewer 8 15 s.lines (omega arith) life)) refl tt
    drop_happens (Gave v) (Tick t w) is w_known =
        is_made its future owner s p known.stands refusal first second name refusal plain.Ends _ _
        (ends_given f v (Tick t w) rest refl is (fewer 8 15 s.lines (omega arith) life)) refl tt
    drop_happens (Gave v) (Run r w) is w_known =
        run_drop_happens (Gave v) (solo.settle_ready_answer (its f) v s) (solo.settled_ready (its f) v s)
        (left_lives 11 (its f).place s (fewer 14 15 s.lines (omega arith) life))
        (λ c. ends_given f v Try rest refl refl (fewer 8 15 s.lines (omega arith) life)) r w is w_known

  -- and that of an output
  loss_happens : (awaiter : Option (SoloWaker X)) (by : Option (Taker (SoloWaker X))) (rest : List (Code T (SoloWaker X)))
      → p.inside ≡ Lose awaiter by ∷ rest → PolledIf (IsKnown its owner s p) by → HasLife 15 s.lines → wished plain.Ends
  loss_happens awaiter None rest is w_known life =
      is_made its future owner s p known.stands refusal first second name refusal plain.Ends _ _
      (loses awaiter None rest refl is (fewer 2 15 s.lines (omega arith) life)) refl tt
  loss_happens awaiter (Some Try) rest is w_known life =
      is_made its future owner s p known.stands refusal first second name refusal plain.Ends _ _
      (loses awaiter (Some Try) rest refl is (fewer 2 15 s.lines (omega arith) life)) refl tt
  loss_happens awaiter (Some (Tick t w)) rest is w_known life =
      is_made its future owner s p known.stands refusal first second name refusal plain.Ends _ _
      (loses awaiter (Some (Tick t w)) rest refl is (fewer 2 15 s.lines (omega arith) life)) refl tt
  loss_happens awaiter (Some (Run r w)) rest is w_known life =
      goes (Losing awaiter) r w rest is plain.Ends (loss_ends awaiter) (calls awaiter s)
      (calls_lives 5 awaiter s (fewer 8 15 s.lines (omega arith) life)) w_known (rings_of awaiter s)
      (λ c. loses awaiter (Some Try) rest refl refl (fewer 2 15 s.lines (omega arith) life))

  leave_happens : (r : ℕ) (answer : Answer T) (rest : List (Code T (SoloWaker X))) → p.inside ≡ DropOwn r answer ∷ rest
      → HasLife (3 * count_of_own r s.runs + 15) s.lines → wished plain.Ends
  leave_happens r answer rest is life =
      let runner = runner_of its future owner s p known refusal first second name r in
      is_acted its future owner s p known.stands refusal first second name refusal plain.Ends _ owner _
      (run_leaves runner answer rest (is ∙ ap (λ k. DropOwn k answer ∷ rest) (sym (known.tallied.number r)))
      (subst (λ k. HasLife (3 * count_of_own k s.runs + 5) s.lines) (sym (known.tallied.number r))
      (fewer (3 * count_of_own r s.runs + 5) (3 * count_of_own r s.runs + 15) s.lines (omega arith) life))) refl tt tt tt

  pub ends_happen : WakersAreKnown its owner s p → MayEnd its owner s p p.inside → HasLife (3 * left_in its owner s p p.inside + 15)
      s.lines → wished plain.Ends
  ends_happen all may life = by p.inside refl may
    where
      enough : HasLife 15 s.lines
      enough = fewer 15 (3 * left_in its owner s p p.inside + 15) s.lines (omega arith) life

      by : (cs : List (Code T (SoloWaker X))) → p.inside ≡ cs → MayEnd its owner s p cs → wished plain.Ends
      by [] is may = absurd may
      by (Poll f taker ∷ rest) is may = absurd may
      by (Drop f end taker ∷ rest) is may = drop_happens f rest enough end taker is (innermost all (Drop f end taker) rest is)
      by (Lose awaiter taker ∷ rest) is may = loss_happens awaiter taker rest is (innermost all (Lose awaiter taker) rest is) enough
      by (PollOwn r w ∷ rest) is may = absurd may
      by (DropOwn r answer ∷ rest) is may =
          leave_happens r answer rest is
          (subst (λ cs. HasLife (3 * left_in its owner s p cs + 15) s.lines) is life)
      by (Close fs all ∷ rest) is may = absurd may

  -- a run is made, polled, or dropped
  pub new_run_happens : length p.runs < most_accepted → wished plain.NewRun
  new_run_happens few = by refusal refl
    where
      no_run : is_granted refusal ≡ false → wished plain.NewRun
      no_run refused =
          is_acted its future owner s p known.stands refusal first second name refusal plain.NewRun _ owner s (makes_no_run refused) refl tt
          tt tt

      by : (r : Refusal) → refusal ≡ r → wished plain.NewRun
      by Granted is =
          is_acted its future owner s p known.stands refusal first second name refusal plain.NewRun _ owner (runs.made s)
          (makes_run is few) refl tt tt tt
      by AtOnce is = no_run (ap (λ r. is_granted r) is)
      by Later is = no_run (ap (λ r. is_granted r) is)

  pub poll_run_happens : (r : ℕ) (w : SoloWaker X) → is_in r (busy_in p.inside) ≡ false → wished (plain.PollRun r w)
  poll_run_happens r w free = by (goes_on r p) refl
    where
      by : (b : Bool) → goes_on r p ≡ b → wished (plain.PollRun r w)
      by true going =
          is_acted its future owner s p known.stands refusal first second name refusal (plain.PollRun r w) _ owner _
          (run_polled (runs.new_runner r) w going free) refl tt tt tt
      by false over =
          is_acted its future owner s p known.stands refusal first second name refusal (plain.PollRun r w) _ owner s
          (over_polled r w over) refl tt tt tt

  pub drop_run_happens : (r : ℕ) → is_in r (busy_in p.inside) ≡ false → wished (plain.DropRun r)
  drop_run_happens r free = by (goes_on r p) refl
    where
      by : (b : Bool) → goes_on r p ≡ b → wished (plain.DropRun r)
      by true going =
          is_acted its future owner s p known.stands refusal first second name refusal (plain.DropRun r) _ owner s
          (run_dropped r going free) refl tt tt tt
      by false over =
          is_acted its future owner s p known.stands refusal first second name refusal (plain.DropRun r) _ owner s
          (over_dropped r over) refl tt tt tt
