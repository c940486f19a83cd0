-- For runs_reach_futures, kept_futures_are_in_reach and dropped_runs_leave_common_futures.
-- What a run that is polled does with its own queue: it takes what is first there, and puts behind.
use Rattle.std.proofs.Common.{◌≡◌, ◌≢◌, ◌⊎◌, ◌∙◌, inl, inr, ⊎_elim, ℕ, zero, suc, ◌<◌, ◌≤◌, List, [], ◌∷◌, ◌++◌, length}
use Rattle.std.proofs.Common.{get_or, get_or-set_same, get_or-set_other, Bool, true, false, eqb, refl, sym, ap, subst, arith}
use Rattle.std.proofs.Common.{append_assoc}
use Rattle.std.proofs.lemmas.List.{reverse-append}
use Rattle.std.specs.Prelude.{Option, Some, None, reverse}
use Rattle.executor_parts.specs.Marks.{first_of, other}
use Rattle.executor_parts.specs.Sleepers.{waker_at}
use Rattle.executor_laws.proofs.Types.{Look, Plain, Urgent, First, Second, Move, Reply, Event, Hold, ListOp, Op, Polled, RunOp}
use Rattle.executor_laws.proofs.Types.{RunPoll, TickOrRun, SleeperOp, Sleeping, Source, Common, Own, Steal, StealOp, Then, TickOp, Waker}
use Rattle.executor_laws.proofs.Types.{Task, Outside, Hint, UserEnd}
use Rattle.executor_model.specs.Acts.{turned, mark_in, followed}
use Rattle.executor_model.specs.World.{queue_of, Done, Left, Asleep, Ticker, Awake, World, log, own_of, place_of, put_own}
use Rattle.executor_model.specs.ActsOfRuns.{asleep, behind, call_by_reference, counted_by, counted_to, found, kept_by, look_own_by}
use Rattle.executor_model.specs.ActsOfRuns.{next_place, put_refused, queue_at, run_by, search_common_by, search_own_by}
use Rattle.executor_model.specs.ActsOfRuns.{steal_by, steal_length_by}
use Rattle.executor_model.specs.ActsOfRuns.{steal_put_by, steal_take_by, stolen, walk, without_first}
use Rattle.executor_model.specs.ActsOfSleepers.{copy_sleeper_by, found_by, sleep_again_by, sleep_anew_by, fall_asleep_by, sleep_listed_by}
use Rattle.executor_model.specs.ActsOfSleepers.{sleeper_goes}
use Rattle.executor_model.specs.Doing.{act, search_by_who, steal_act}
use Rattle.executor_model.specs.Steps.{accepts, react, waits}
use Rattle.executor_model.specs.Trace.{Trace}
use Rattle.executor_model.specs.Weights.{same, weigh}
use Rattle.executor_model.proofs.{Steps.Lists.same_cases, Steps.Lists.weigh-append, Steps.Lists.weigh-reverse}
use Rattle.executor_model.proofs.{Steps.SleepersNext.goes-unseen, OwnQueues.UsingRuns.idle-common, OwnQueues.UsingRuns.idle-stolen}
use Rattle.executor_model.proofs.{OwnQueues.UsingWorlds.idle-act, OwnQueues.UsingWorlds.idle-copy_sleeper, OwnQueues.UsingWorlds.idle-sleep}
use Rattle.executor_laws.proofs.Reach.LoneMoves.{Inner, inner-act, inner-react, stray_of}
use Rattle.executor_laws.proofs.RunReach.RunLeaves.{own-act, own-react, within}
use Rattle.executor_laws.proofs.RunReach.RunFinds.{Heads, heads-found, without-gone}

-- things to do beside what the run itself does

abbrev pub side_of : Op → ℕ
side_of (Op.List ListOp.UnlockRead) = 0
side_of o = stray_of o

pub side-kind : (o : Op) → side_of o ≡ 0 → (o ≡ Op.List ListOp.UnlockRead) ⊎ (stray_of o ≡ 0)
side-kind (Op.List ListOp.UnlockRead) z = inl refl
side-kind _ z = inr z

side-few : (o : Op) → side_of o ≤ stray_of o
side-few (Op.List ListOp.UnlockRead) = omega arith
side-few _ = omega arith

light-side : (os : List Op) → weigh stray_of os ≡ 0 → weigh side_of os ≡ 0
light-side [] z = refl
light-side (o ∷ os) z = omega (arith, z, side-few o, light-side os (omega (arith, z)))

-- they leave the own queues alone
pub record Aside (w : World) (d : Done) : Type 0 where
  pub light : weigh side_of d.next ≡ 0
  pub own : d.world.own ≡ w.own
  pub gone : d.world.gone ≡ w.gone

pub aside-act : (p : ℕ) (h : Hint) (o : Op) (w : World) → waits o ≡ false → side_of o ≡ 0 →
    Aside w (act p h o w)
aside-act p h o w n z = by (side-kind o z)
  where
    by : (o ≡ Op.List ListOp.UnlockRead) ⊎ (stray_of o ≡ 0) → Aside w (act p h o w)
    by (inl e) = subst (λ (x : Op). Aside w (act p h x w)) (sym e) (record { light = refl; own = refl; gone = refl })
    by (inr x) =
        let i : Inner w (act p h o w) = inner-act p h o w n x in
        record {
          light = light-side (act p h o w).next i.plain;
          own = own-act p h o w x;
          gone = i.there;
        }

pub aside-react : (p : ℕ) (o : Op) (u : UserEnd) (w : World) → accepts o u ≡ true → side_of o ≡ 0 →
    Aside w (react p o u w)
aside-react p o u w a z = by (side-kind o z)
  where
    by : (o ≡ Op.List ListOp.UnlockRead) ⊎ (stray_of o ≡ 0) → Aside w (react p o u w)
    by (inl e) = let no : accepts (Op.List ListOp.UnlockRead) u ≡ true = sym (ap (λ (x : Op). accepts x u) e) ∙ a in
        absurd (cc)
    by (inr x) =
        let i : Inner w (react p o u w) = inner-react p o u w a x in
        record { light = light-side (react p o u w).next i.plain; own = own-react p o u w; gone = i.there }

-- what run q itself does

abbrev pub NotOwn : ℕ → Source → Type 0
NotOwn q (Common mark) = true ≡ true
NotOwn q (Own n) = n ≢ q

abbrev pub steal_of : StealOp → Steal
steal_of (StealOp.Length s) = s
steal_of (StealOp.OwnLength s n) = s
steal_of (StealOp.Take s more) = s
steal_of (StealOp.Put s more f) = s

abbrev pub Control : ℕ → Op → Type 0
Control q (Op.Tick (TickOp.Search s)) = s.who ≡ TickOrRun.Run q
Control q (Op.Tick (TickOp.CopyWaker s)) = s.who ≡ TickOrRun.Run q
Control q (Op.Tick (TickOp.FallAsleep s)) = s.who ≡ TickOrRun.Run q
Control q (Op.Run (RunOp.TakeTurn x)) = x.run ≡ q
Control q (Op.Run (RunOp.SearchCommon x look)) = x.run ≡ q
Control q (Op.Run (RunOp.LookOwn x at left)) = x.run ≡ q
Control q (Op.Run (RunOp.WakeOwn x)) = x.run ≡ q
Control q (Op.List (ListOp.LockRead x)) = x.run ≡ q
Control q (Op.Steal o) = ((steal_of o).poll.run ≡ q) × NotOwn q (steal_of o).from
Control q (Op.End a held) = true ≡ true
Control q _ = ⊥

pub no-user : (q : ℕ) (o : Op) (u : UserEnd) → Control q o → accepts o u ≡ true → ⊥
no-user q (Op.User o) u k a = k
no-user q _ u k a = absurd (cc)

-- it goes on with one thing of its own, below the others
pub record Holds (q : ℕ) (next : List Op) : Type 0 where
  pub control : Op
  pub side : List Op
  pub is : reverse next ≡ control ∷ side
  pub kind : Control q control
  pub light : weigh side_of side ≡ 0

holds-one : (q : ℕ) (c : Op) → Control q c → Holds q (c ∷ [])
holds-one q c k = record { control = c; side = []; is = refl; kind = k; light = refl }

holds-behind : (q : ℕ) (ops next : List Op) → weigh side_of ops ≡ 0 → Holds q next → Holds q (ops ++ next)
holds-behind q ops next z h = record {
  control = h.control;
  side = h.side ++ reverse ops;
  is = reverse-append ops next ∙ ap (λ (os : List Op). os ++ reverse ops) h.is;
  kind = h.kind;
  light = omega (arith, z, h.light, weigh-append side_of h.side (reverse ops), weigh-reverse side_of ops);
}

holds-run_by : (q : ℕ) (b : Bool) (w : World) (x : RunPoll) (f : ℕ) → x.run ≡ q → Holds q (run_by b w x f).next
holds-run_by q true w x f e =
    holds-behind q (Op.Move Move.TakeUp f ∷ []) (Op.Run (RunOp.WakeOwn x) ∷ []) refl
    (holds-one q (Op.Run (RunOp.WakeOwn x)) e)
holds-run_by q false w x f e =
    holds-behind q (Op.Move Move.TakeUp f ∷ []) (Op.Tick (TickOp.Search (asleep x)) ∷ []) refl
    (holds-one q (Op.Tick (TickOp.Search (asleep x))) (ap TickOrRun.Run e))

holds-counted_by : (q : ℕ) (b : Bool) (w : World) (x : RunPoll) (f : ℕ) → x.run ≡ q → Holds q (counted_by b w x f).next
holds-counted_by q true w x f e =
    holds-one q (Op.Steal (StealOp.Length (record { poll = x; from = Common Urgent; then = Then.StealPlain f }))) (e, refl)
holds-counted_by q false w x f e = holds-run_by q _ (counted_to w x.run _) x f e

found-side : (x : Ticker) (who : TickOrRun) → weigh side_of (found_by x who (Op.Sleeper SleeperOp.ExchangeFlag ∷ [])) ≡ 0
found-side Awake who = refl
found-side (Asleep n) who = refl
found-side Left who = refl

holds-found : (q : ℕ) (w : World) (x : RunPoll) (f : ℕ) → x.run ≡ q → Holds q (found w x f).next
holds-found q w x f e =
    holds-behind q (found_by _ (TickOrRun.Run x.run) (Op.Sleeper SleeperOp.ExchangeFlag ∷ [])) (counted_by _ w x f).next
    (found-side _ (TickOrRun.Run x.run)) (holds-counted_by q _ w x f e)

holds-stolen : (q : ℕ) (t : Then) (w : World) (x : RunPoll) → x.run ≡ q → Holds q (stolen t w x).next
holds-stolen q (Then.Found f) w x e = holds-found q w x f e
holds-stolen q (Then.StealPlain f) w x e =
    holds-one q (Op.Steal (StealOp.Length (record { poll = x; from = Common Plain; then = Then.Run f }))) (e, refl)
holds-stolen q (Then.Run f) w x e = holds-run_by q _ w x f e
holds-stolen q (Then.Walk at left) w x e = holds-one q (Op.Run (RunOp.LookOwn x at left)) e

other-queue : (n m q : ℕ) → m ≡ q → eqb n m ≡ false → n ≢ q
other-queue n m q e b k = ⊎_elim
    (λ (x : (same n m ≡ 1) × (eqb n m ≡ true) × (n ≡ m)). let no : true ≡ false = sym x.1 ∙ b in absurd (cc))
    (λ (x : (same n m ≡ 0) × (eqb n m ≡ false) × (n ≢ m)). x.2 (k ∙ sym e))
    (same_cases n m)

holds-walk : (q : ℕ) (x : RunPoll) (qs : List ℕ) (at left : ℕ) → x.run ≡ q → Holds q (walk x qs at left)
holds-walk q x qs at zero e =
    holds-behind q (Op.List ListOp.UnlockRead ∷ []) (Op.Tick (TickOp.CopyWaker (asleep x)) ∷ []) refl
    (holds-one q (Op.Tick (TickOp.CopyWaker (asleep x))) (ap TickOrRun.Run e))
holds-walk q x qs at (suc left) e =
    by (eqb (queue_at qs at) x.run) (other-queue (queue_at qs at) x.run q e)
    (holds-walk q x qs (next_place qs at) left e)
  where
    by : (b : Bool) → (b ≡ false → queue_at qs at ≢ q) → Holds q (walk x qs (next_place qs at) left) →
        Holds q (let h : List Op = elim b [
          | true ↦ walk x qs (next_place qs at) left
          | false ↦ Op.Steal (StealOp.Length (record {
            poll = x;
            from = Own (queue_at qs at);
            then = Then.Walk (next_place qs at) left;
          })) ∷ []
        ] in h)
    by true k a = a
    by false k a = holds-one q (Op.Steal (StealOp.Length (record {
      poll = x;
      from = Own (queue_at qs at);
      then = Then.Walk (next_place qs at) left;
    }))) (e, k refl)

-- f stands in the own queue of q, behind at most n others

pub record Tracked (q f n : ℕ) (w : World) : Type 0 where
  pub front : List ℕ
  pub later : List ℕ
  pub is : own_of w q ≡ front ++ f ∷ later
  pub few : length front ≤ n

pub same-own : (q f n : ℕ) (w v : World) → v.own ≡ w.own → Tracked q f n w → Tracked q f n v
same-own q f n w v e k = record {
  front = k.front;
  later = k.later;
  is = ap (λ (qs : List (List ℕ)). get_or qs q []) e ∙ k.is;
  few = k.few;
}

not-empty : (front later : List ℕ) (f : ℕ) → front ++ f ∷ later ≡ [] → ⊥
not-empty [] later f e = absurd (cc)
not-empty (g ∷ front) later f e = absurd (cc)

first-there : (front later : List ℕ) (f h : ℕ) (rest : List ℕ) → h ∷ rest ≡ front ++ f ∷ later → (n m : ℕ) →
    length front ≤ n → ((l : ℕ) → suc l ≤ n → l ≤ m) →
    (h ≡ f) ⊎ ((xs : List ℕ) × (rest ≡ xs ++ f ∷ later) × (length xs ≤ m))
first-there [] later f h rest e n m l k = inl (cc)
first-there (g ∷ front) later f h rest e n m l k =
    let q : rest ≡ front ++ f ∷ later = cc in inr (front, q, k (length front) (omega (arith, l)))

-- what is first in the queue is taken: that is f, or f comes nearer
headed : (q f n m h : ℕ) (rest : List ℕ) (w : World) → own_of w q ≡ h ∷ rest → ((l : ℕ) → suc l ≤ n → l ≤ m) →
    Tracked q f n w → (h ≡ f) ⊎ Tracked q f m (put_own w q rest)
headed q f n m h rest w e j k = ⊎_elim
    (λ (x : h ≡ f). inl x)
    (λ (x : (xs : List ℕ) × (rest ≡ xs ++ f ∷ k.later) × (length xs ≤ m)). inr (record {
      front = x.0;
      later = k.later;
      is = get_or-set_same w.own q rest [] (within w.own q h rest e) ∙ x.1;
      few = x.2;
    }))
    (first-there k.front k.later f h rest (sym e ∙ k.is) n m k.few j)

-- what the run does is one of these: it goes on, and f stands there; it has ended; or it has f in hand
pub data Goes (q f n : ℕ) (t : Trace) (g : Bool) (d : Done) : Type 0 where
  on : Holds q d.next → Tracked q f n d.world → Goes q f n t g d
  ends : d.next ≡ [] → Tracked q f n d.world → Goes q f n t g d
  finds : Heads f t g d → Goes q f n t g d
  finds_behind : (x : Done) → d ≡ behind (Op.List ListOp.UnlockRead ∷ []) x → Heads f t g x → Goes q f n t g d

pub record After (q f n : ℕ) (w : World) (d : Done) : Type 0 where
  pub goes : Goes q f n w.trace w.gone d
  pub gone : d.world.gone ≡ w.gone

pub after-own : (q f n m : ℕ) (xs : List ℕ) (w : World) (x : RunPoll) → x.run ≡ q → own_of w x.run ≡ xs →
    ((l : ℕ) → suc l ≤ n → l ≤ m) → Tracked q f n w → After q f m w (search_own_by xs w x)
after-own q f n m [] w x e o j k =
    absurd (not-empty k.front k.later f (sym k.is ∙ (ap (λ (r : ℕ). own_of w r) (sym e) ∙ o)))
after-own q f n m (h ∷ rest) w x e o j k =
    record {
      goes = ⊎_elim
          (λ (y : h ≡ f). finds (subst (λ (g : ℕ). Heads f w.trace w.gone (found (put_own w x.run rest) x g)) (sym y)
          (heads-found f (put_own w x.run rest) x)))
          (λ (y : Tracked x.run f m (put_own w x.run rest)). on (holds-found q (put_own w x.run rest) x h e)
          (same-own q f m (put_own w x.run rest) (found (put_own w x.run rest) x h).world
          (idle-stolen (Then.Found h) (put_own w x.run rest) x).own
          (subst (λ (r : ℕ). Tracked r f m (put_own w x.run rest)) e y)))
          (headed x.run f n m h rest w o j (subst (λ (r : ℕ). Tracked r f n w) (sym e) k));
      gone = (idle-stolen (Then.Found h) (put_own w x.run rest) x).gone;
    }

after-look : (q f n : ℕ) (xs : List ℕ) (w : World) (x : RunPoll) (at left : ℕ) → x.run ≡ q → own_of w x.run ≡ xs →
    Tracked q f n w → After q f n w (look_own_by xs w x at left)
after-look q f n [] w x at left e o k =
    absurd (not-empty k.front k.later f (sym k.is ∙ (ap (λ (r : ℕ). own_of w r) (sym e) ∙ o)))
after-look q f n (h ∷ rest) w x at left e o k = record {
  goes = ⊎_elim
      (λ (y : h ≡ f). finds_behind (found (put_own w x.run rest) x h) refl
      (subst (λ (g : ℕ). Heads f w.trace w.gone (found (put_own w x.run rest) x g)) (sym y)
      (heads-found f (put_own w x.run rest) x)))
      (λ (y : Tracked x.run f n (put_own w x.run rest)).
      on (holds-behind q (Op.List ListOp.UnlockRead ∷ []) (found (put_own w x.run rest) x h).next refl
      (holds-found q (put_own w x.run rest) x h e))
      (same-own q f n (put_own w x.run rest) (found (put_own w x.run rest) x h).world
      (idle-stolen (Then.Found h) (put_own w x.run rest) x).own
      (subst (λ (r : ℕ). Tracked r f n (put_own w x.run rest)) e y)))
      (headed x.run f n n h rest w o (λ l i. omega (arith, i)) (subst (λ (r : ℕ). Tracked r f n w) (sym e) k));
  gone = (idle-stolen (Then.Found h) (put_own w x.run rest) x).gone;
}

after-stolen : (q f n : ℕ) (t : Then) (w : World) (x : RunPoll) → x.run ≡ q → Tracked q f n w →
    After q f n w (stolen t w x)
after-stolen q f n t w x e k = record {
  goes = on (holds-stolen q t w x e) (same-own q f n w (stolen t w x).world (idle-stolen t w x).own k);
  gone = (idle-stolen t w x).gone;
}

after-length : (q f n l : ℕ) (w : World) (s : Steal) → (s.poll.run ≡ q) × NotOwn q s.from → Tracked q f n w →
    After q f n w (steal_length_by l w s)
after-length q f n zero w s e k = after-stolen q f n s.then w s.poll e.0 k
after-length q f n (suc l) w s e k =
    record { goes = on (holds-one q (Op.Steal (StealOp.OwnLength s (suc l))) e) k; gone = refl }

after-steal_by : (q f n l : ℕ) (w : World) (s : Steal) → (s.poll.run ≡ q) × NotOwn q s.from → Tracked q f n w →
    After q f n w (steal_by l w s)
after-steal_by q f n zero w s e k = after-stolen q f n s.then w s.poll e.0 k
after-steal_by q f n (suc l) w s e k =
    record { goes = on (holds-one q (Op.Steal (StealOp.Take s l)) e) k; gone = refl }

tracked-without : (q f n : ℕ) (x : Source) (w : World) (rest : List ℕ) → NotOwn q x → Tracked q f n w →
    Tracked q f n (without_first w x rest)
tracked-without q f n (Common mark) w rest e k = same-own q f n w (without_first w (Common mark) rest) refl k
tracked-without q f n (Own m) w rest e k = record {
  front = k.front;
  later = k.later;
  is = get_or-set_other w.own m q rest [] (λ z. e (sym z)) ∙ k.is;
  few = k.few;
}

after-take : (q f n : ℕ) (xs : List ℕ) (w : World) (s : Steal) (more : ℕ) → (s.poll.run ≡ q) × NotOwn q s.from →
    Tracked q f n w → After q f n w (steal_take_by xs w s more)
after-take q f n [] w s more e k = after-stolen q f n s.then w s.poll e.0 k
after-take q f n (h ∷ rest) w s more e k = record {
  goes = on (holds-one q (Op.Steal (StealOp.Put s more h)) e) (tracked-without q f n s.from w rest e.1 k);
  gone = without-gone s.from w rest;
}

there-within : (qs : List (List ℕ)) (q f : ℕ) (front later : List ℕ) → get_or qs q [] ≡ front ++ f ∷ later →
    q < length qs
there-within qs q f [] later e = within qs q f later e
there-within qs q f (g ∷ front) later e = within qs q g (front ++ f ∷ later) e

tracked-put : (q f n r p h : ℕ) (w : World) → r ≡ q → Tracked q f n w → Tracked q f n (kept_by p w r h)
tracked-put q f n r p h w e k = subst (λ (x : ℕ). Tracked q f n (kept_by p w x h)) (sym e) (record {
  front = k.front;
  later = k.later ++ h ∷ [];
  is = get_or-set_same w.own q (own_of w q ++ h ∷ []) [] (there-within w.own q f k.front k.later k.is)
      ∙ (ap (λ (xs : List ℕ). xs ++ h ∷ []) k.is ∙ append_assoc k.front (f ∷ k.later) (h ∷ []));
  few = k.few;
})

after-refused : (q f n : ℕ) (t : Then) (w : World) (x : RunPoll) (h : ℕ) → x.run ≡ q → Tracked q f n w →
    After q f n w (put_refused t w x h)
after-refused q f n (Then.Walk at left) w x h e k = record {
  goes = on (holds-behind q (Op.List ListOp.UnlockRead ∷ Op.Move Move.DropRunnable h ∷ [])
      (Op.Tick (TickOp.Search (asleep x)) ∷ []) refl
      (holds-one q (Op.Tick (TickOp.Search (asleep x))) (ap TickOrRun.Run e))) k;
  gone = refl;
}
after-refused q f n t w x h e k = record {
  goes = on (holds-behind q (Op.Move Move.DropRunnable h ∷ []) (stolen t w x).next refl (holds-stolen q t w x e))
      (same-own q f n w (stolen t w x).world (idle-stolen t w x).own k);
  gone = (idle-stolen t w x).gone;
}

after-put : (q f n : ℕ) (b : Bool) (p : ℕ) (w : World) (s : Steal) (more h : ℕ) →
    (s.poll.run ≡ q) × NotOwn q s.from → Tracked q f n w → After q f n w (steal_put_by b p w s more h)
after-put q f n true p w s more h e k = by more
  where
    v : Tracked q f n (kept_by p w s.poll.run h)
    v = tracked-put q f n s.poll.run p h w e.0 k

    by : (l : ℕ) → After q f n w (steal_by l (kept_by p w s.poll.run h) s)
    by zero = record {
      goes = on (holds-stolen q s.then (kept_by p w s.poll.run h) s.poll e.0)
          (same-own q f n (kept_by p w s.poll.run h) (stolen s.then (kept_by p w s.poll.run h) s.poll).world
          (idle-stolen s.then (kept_by p w s.poll.run h) s.poll).own v);
      gone = (idle-stolen s.then (kept_by p w s.poll.run h) s.poll).gone;
    }
    by (suc l) = record { goes = on (holds-one q (Op.Steal (StealOp.Take s l)) e) v; gone = refl }
after-put q f n false p w s more h e k = after-refused q f n s.then w s.poll h e.0 k

after-steal : (q f n p : ℕ) (o : StealOp) (w : World) → Control q (Op.Steal o) → Tracked q f n w →
    After q f n w (steal_act p o w)
after-steal q f n p (StealOp.Length s) w e k = after-length q f n _ w s e k
after-steal q f n p (StealOp.OwnLength s l) w e k = after-steal_by q f n _ w s e k
after-steal q f n p (StealOp.Take s more) w e k = after-take q f n _ w s more e k
after-steal q f n p (StealOp.Put s more h) w e k = after-put q f n _ p w s more h e k

after-copy : (q f n : ℕ) (b : Bool) (w : World) (s : Sleeping) → s.who ≡ TickOrRun.Run q → Tracked q f n w →
    After q f n w (copy_sleeper_by b w s)
after-copy q f n true w s e k = record { goes = on (holds-one q _ refl) k; gone = refl }
after-copy q f n false w s e k = record {
  goes = on (holds-one q (Op.Tick (TickOp.FallAsleep s)) e)
      (same-own q f n w (copy_sleeper_by false w s).world (idle-copy_sleeper false w s).own k);
  gone = (idle-copy_sleeper false w s).gone;
}

holds-anew : (q : ℕ) (b : Bool) (w : World) (s : Sleeping) → s.who ≡ TickOrRun.Run q → Holds q (sleep_anew_by b w s).next
holds-anew q true w s e = holds-one q (Op.Tick (TickOp.Search s)) e
holds-anew q false w s e =
    holds-behind q (Op.Sleeper (SleeperOp.CallSleeper s) ∷ []) _ refl (holds-one q _ refl)

holds-listed : (q : ℕ) (b : Bool) (w : World) (m : ℕ) (s : Sleeping) → s.who ≡ TickOrRun.Run q →
    Holds q (sleep_listed_by b w m s).next
holds-listed q true w m s e = holds-one q (Op.Tick (TickOp.Search s)) e
holds-listed q false w m s e =
    holds-behind q (Op.Sleeper (SleeperOp.CallSleeper s) ∷ []) _ refl (holds-one q _ refl)

holds-again : (q : ℕ) (o : Option ℕ) (w : World) (m : ℕ) (s : Sleeping) → s.who ≡ TickOrRun.Run q →
    Holds q (sleep_again_by o w m s).next
holds-again q (Some at) w m s e =
    holds-behind q (sleeper_goes (waker_at (Some at) w.sleepers.wakers)) _
    (light-side (sleeper_goes (waker_at (Some at) w.sleepers.wakers))
    (goes-unseen stray_of (λ g. refl) (waker_at (Some at) w.sleepers.wakers))) (holds-one q _ refl)
holds-again q None w m s e = holds-listed q _ w m s e

holds-sleep : (q : ℕ) (x : Ticker) (w : World) (s : Sleeping) → s.who ≡ TickOrRun.Run q → Holds q (fall_asleep_by x w s).next
holds-sleep q Awake w s e = holds-anew q _ w s e
holds-sleep q (Asleep m) w s e = holds-again q _ w m s e
holds-sleep q Left w s e =
    holds-behind q (Op.Sleeper (SleeperOp.CallSleeper s) ∷ []) _ refl (holds-one q _ refl)

holds-common : (look : Look) (q : ℕ) (xs : List ℕ) (w : World) (x : RunPoll) → x.run ≡ q → Holds q (search_common_by xs w x look).next
holds-common (First mark) q [] w x e = holds-one q (Op.Run (RunOp.SearchCommon x (Second (other mark)))) e
holds-common (Second mark) q [] w x e = holds-one q (Op.List (ListOp.LockRead x)) e
holds-common look q (f ∷ xs) w x e =
    holds-one q (Op.Steal (StealOp.Length (record { poll = x; from = Common (mark_in look); then = Then.Found f })))
    (e, refl)

after-called : (q f n p : ℕ) (h : Hint) (a : Waker) (w v : World) (r : ℕ) → v.own ≡ w.own → v.gone ≡ w.gone →
    Tracked q f n w →
    After q f n w (followed (call_by_reference p v a) (Op.End Reply.Pending (Hold.Run r) ∷ []))
after-called q f n p h (Task g) w v r o z k = record {
  goes = on
      (holds-behind q (act p h (Op.Move Move.WakeByReference g) v).next _
      (light-side (act p h (Op.Move Move.WakeByReference g) v).next
      (inner-act p h (Op.Move Move.WakeByReference g) v refl refl).plain)
      (holds-one q (Op.End Reply.Pending (Hold.Run r)) refl))
      (same-own q f n w (act p h (Op.Move Move.WakeByReference g) v).world
      ((idle-act p h (Op.Move Move.WakeByReference g) v refl).own ∙ o) k);
  gone = (idle-act p h (Op.Move Move.WakeByReference g) v refl).gone ∙ z;
}
after-called q f n p h (Outside y) w v r o z k = record {
  goes = on
      (holds-behind q ((call_by_reference p v (Outside y)).next) (Op.End Reply.Pending (Hold.Run r) ∷ []) refl
      (holds-one q (Op.End Reply.Pending (Hold.Run r)) refl))
      (same-own q f n w v o k);
  gone = z;
}

pub after-control : (q f n p : ℕ) (h : Hint) (c : Op) (w : World) → Control q c → Tracked q f n w →
    After q f n w (act p h c w)
after-control q f n p h (Op.Tick (TickOp.Search s)) w e k =
    subst (λ (who : TickOrRun). After q f n w (search_by_who who p w s)) (sym e)
    (after-own q f n n (own_of w q) w (record { run = q; waker = s.waker; poll = s.poll }) refl refl
    (λ l i. omega (arith, i)) k)
after-control q f n p h (Op.Tick (TickOp.CopyWaker s)) w e k = after-copy q f n _ w s e k
after-control q f n p h (Op.Tick (TickOp.FallAsleep s)) w e k = record {
  goes = on (holds-sleep q (place_of w s.who) w s e)
      (same-own q f n w (fall_asleep_by (place_of w s.who) w s).world (idle-sleep (place_of w s.who) w s).own k);
  gone = (idle-sleep (place_of w s.who) w s).gone;
}
after-control q f n p h (Op.Run (RunOp.TakeTurn x)) w e k = record {
  goes = on (holds-one q (Op.Run (RunOp.SearchCommon x (First (first_of w.urgent_turns)))) e)
      (same-own q f n w (turned p w) refl k);
  gone = refl;
}
after-control q f n p h (Op.Run (RunOp.SearchCommon x look)) w e k = record {
  goes = on (holds-common look q (queue_of w (mark_in look)).items w x e)
      (same-own q f n w (search_common_by (queue_of w (mark_in look)).items w x look).world
      (idle-common look (queue_of w (mark_in look)).items w x).own k);
  gone = (idle-common look (queue_of w (mark_in look)).items w x).gone;
}
after-control q f n p h (Op.Run (RunOp.LookOwn x at left)) w e k =
    after-look q f n (own_of w x.run) w x at left e refl k
after-control q f n p h (Op.Run (RunOp.WakeOwn x)) w e k =
    after-called q f n p h x.waker w (log w (Event.WakerCalled p (Polled.Run x.run) x.poll x.waker)) x.run refl refl k
after-control q f n p h (Op.List (ListOp.LockRead x)) w e k =
    record { goes = on (holds-walk q x w.listed _ (length w.listed) e) (same-own q f n w _ refl k); gone = refl }
after-control q f n p h (Op.Steal o) w e k = after-steal q f n p o w e k
after-control q f n p h (Op.End a held) w e k =
    record { goes = ends refl (same-own q f n w (log w (Event.CallEnded p a)) refl k); gone = refl }
after-control q f n p h _ w e k = absurd e
