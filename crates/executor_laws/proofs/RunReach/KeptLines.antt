-- For kept_futures_come_first.
-- What a run that is polled does takes the first of its own queue in hand, while one stands there, and puts others behind.
use Rattle.std.proofs.Common.{◌≡◌, ◌≢◌, ◌∙◌, ⊎_elim, ℕ, zero, suc, List, [], ◌∷◌, ◌++◌, length, set, get_or}
use Rattle.std.proofs.Common.{Bool, true, false, eqb, refl, sym, ap, subst, arith, append-nil, append_assoc, get_or-set_same}
use Rattle.std.proofs.Common.{get_or-set_other}
use Rattle.std.proofs.lemmas.List.{reverse-append}
use Rattle.std.specs.Prelude.{Option, Some, None, reverse}
use Rattle.executor_parts.specs.Marks.{first_of, other}
use Rattle.executor_parts.specs.Sleepers.{waker_at}
use Rattle.executor_laws.proofs.Types.{Look, Plain, Urgent, First, Second, Move, Reply, Event, Hold, ListOp, Op, Polled, RunOp}
use Rattle.executor_laws.proofs.Types.{RunPoll, Sleeping, SleeperOp, Source, Common, Own, Steal, StealOp, Then, TickOp, TickOrRun, UserOp}
use Rattle.executor_laws.proofs.Types.{Waker, Task, Outside, Hint}
use Rattle.executor_model.specs.Acts.{turned, mark_in, copied, followed}
use Rattle.executor_model.specs.World.{queue_of, Asleep, Awake, Done, Left, Ticker, World, done, log, own_of, place_of, put_own, run_of}
use Rattle.executor_model.specs.ActsOfRuns.{asleep, call_by_reference, counted_by, counted_to, found, kept_by, look_own_by}
use Rattle.executor_model.specs.ActsOfRuns.{next_place, put_refused}
use Rattle.executor_model.specs.ActsOfRuns.{queue_at, run_by, search_common_by, search_own_by, steal_by, steal_length_by, steal_put_by}
use Rattle.executor_model.specs.ActsOfRuns.{steal_take_by, stolen, wake_own, walk, without_first}
use Rattle.executor_model.specs.ActsOfSleepers.{copy_sleeper_by, fall_asleep_by, found_by, sleep_again_by, sleep_anew_by, sleep_listed_by}
use Rattle.executor_model.specs.ActsOfSleepers.{sleeper_goes}
use Rattle.executor_model.specs.Doing.{act, search_by_who, steal_act}
use Rattle.executor_model.specs.Weights.{same, weigh}
use Rattle.executor_model.proofs.Steps.Lists.{same_cases, weigh-append, weigh-reverse}
use Rattle.executor_model.proofs.Steps.SleepersNext.{goes-unseen}
use Rattle.executor_laws.proofs.{Fewness.FewSides.ups, Fewness.FewSides.ups-act, RunReach.RunLeaves.within, RunReach.RunSteps.Aside}
use Rattle.executor_laws.proofs.{RunReach.RunSteps.Control, RunReach.RunSteps.NotOwn, RunReach.RunSteps.aside-act}
use Rattle.executor_laws.proofs.{RunReach.RunSteps.side_of, RunReach.RunSteps.steal_of, RunReach.TakenUp.up_of}

-- what is in hand, or about to be taken up

abbrev pub hand_then : Then → List ℕ
hand_then (Then.Found f) = f ∷ []
hand_then (Then.StealPlain f) = f ∷ []
hand_then (Then.Run f) = f ∷ []
hand_then (Then.Walk at left) = []

abbrev pub hand_of : Op → List ℕ
hand_of (Op.Steal o) = hand_then (steal_of o).then
hand_of _ = []

-- the last of these comes first
abbrev pub ups_in : List Op → List ℕ
ups_in [] = []
ups_in (o ∷ os) = ups_in os ++ up_of o

pub ups_in-append : (xs ys : List Op) → ups_in (xs ++ ys) ≡ ups_in ys ++ ups_in xs
ups_in-append [] ys = sym (append-nil (ups_in ys))
ups_in-append (x ∷ xs) ys =
    ap (λ (ns : List ℕ). ns ++ up_of x) (ups_in-append xs ys) ∙ append_assoc (ups_in ys) (ups_in xs) (up_of x)

no-up : (o : Op) → ups o ≡ 0 → up_of o ≡ []
no-up (Op.Move Move.TakeUp f) z = absurd (omega (arith, z))
no-up _ z = refl

pub no-ups : (os : List Op) → weigh ups os ≡ 0 → ups_in os ≡ []
no-ups [] z = refl
no-ups (o ∷ os) z = ap (λ (ns : List ℕ). ns ++ up_of o) (no-ups os (omega (arith, z))) ∙ no-up o (omega (arith, z))

pub no-ups-back : (os : List Op) → weigh ups os ≡ 0 → ups_in (reverse os) ≡ []
no-ups-back os z = no-ups (reverse os) (omega (arith, z, weigh-reverse ups os))

-- run q goes on with one thing, below others, and what it has in hand, and behind it its own queue, begins with these
pub record Lines (q : ℕ) (front : List ℕ) (d : Done) : Type 0 where
  pub control : Op
  pub side : List Op
  pub is : reverse d.next ≡ control ∷ side
  pub kind : Control q control
  pub light : weigh side_of side ≡ 0
  pub more : List ℕ
  pub line : ups_in side ++ (hand_of control ++ own_of d.world q) ≡ front ++ more

one : (q : ℕ) (v : World) (c : Op) → Control q c → Lines q (hand_of c ++ own_of v q) (done v (c ∷ []))
one q v c k =
    record { control = c; side = []; is = refl; kind = k; light = refl; more = []; line = sym (append-nil (hand_of c ++ own_of v q)) }

behind-ops : (q : ℕ) (front : List ℕ) (ops : List Op) (d : Done) → weigh side_of ops ≡ 0 → weigh ups ops ≡ 0 → Lines q front d →
    Lines q front (done d.world (ops ++ d.next))
behind-ops q front ops d z u h = record {
  control = h.control;
  side = h.side ++ reverse ops;
  is = reverse-append ops d.next ∙ ap (λ (os : List Op). os ++ reverse ops) h.is;
  kind = h.kind;
  light = omega (arith, z, h.light, weigh-append side_of h.side (reverse ops), weigh-reverse side_of ops);
  more = h.more;
  line = ap (λ (ns : List ℕ). ns ++ (hand_of h.control ++ own_of d.world q))
      (ups_in-append h.side (reverse ops) ∙ ap (λ (ns : List ℕ). ns ++ ups_in h.side) (no-ups-back ops u)) ∙ h.line;
}

-- less is asked for
fewer : (q : ℕ) (front extra : List ℕ) (d : Done) → Lines q (front ++ extra) d → Lines q front d
fewer q front extra d h = record {
  control = h.control;
  side = h.side;
  is = h.is;
  kind = h.kind;
  light = h.light;
  more = extra ++ h.more;
  line = h.line ∙ append_assoc front extra h.more;
}

fronts : (q : ℕ) (xs ys : List ℕ) (d : Done) → xs ≡ ys → Lines q xs d → Lines q ys d
fronts q xs ys d e h = subst (λ (ns : List ℕ). Lines q ns d) e h

-- what is found is in hand

lines-run_by : (b : Bool) (w : World) (x : RunPoll) (f : ℕ) → Lines x.run (f ∷ own_of w x.run) (run_by b w x f)
lines-run_by true w x f = record {
  control = Op.Run (RunOp.WakeOwn x);
  side = Op.Move Move.TakeUp f ∷ [];
  is = refl;
  kind = refl;
  light = refl;
  more = [];
  line = sym (append-nil (f ∷ own_of w x.run));
}
lines-run_by false w x f = record {
  control = Op.Tick (TickOp.Search (asleep x));
  side = Op.Move Move.TakeUp f ∷ [];
  is = refl;
  kind = refl;
  light = refl;
  more = [];
  line = sym (append-nil (f ∷ own_of w x.run));
}

lines-counted : (b : Bool) (w : World) (x : RunPoll) (f : ℕ) → Lines x.run (f ∷ own_of w x.run) (counted_by b w x f)
lines-counted true w x f = one x.run (counted_to w x.run 0)
    (Op.Steal (StealOp.Length (record { poll = x; from = Common Urgent; then = Then.StealPlain f }))) (refl, refl)
lines-counted false w x f = lines-run_by _ (counted_to w x.run _) x f

pub found-side : (x : Ticker) (who : TickOrRun) → (weigh side_of (found_by x who (Op.Sleeper SleeperOp.ExchangeFlag ∷ [])) ≡ 0)
    × (weigh ups (found_by x who (Op.Sleeper SleeperOp.ExchangeFlag ∷ [])) ≡ 0)
found-side Awake who = (refl, refl)
found-side (Asleep n) who = (refl, refl)
found-side Left who = (refl, refl)

lines-found : (w : World) (x : RunPoll) (f : ℕ) → Lines x.run (f ∷ own_of w x.run) (found w x f)
lines-found w x f =
    let s : _ = found-side (run_of w x.run).place (TickOrRun.Run x.run) in
    behind-ops x.run (f ∷ own_of w x.run) (found_by _ (TickOrRun.Run x.run) (Op.Sleeper SleeperOp.ExchangeFlag ∷ []))
    (counted_by _ w x f) s.0 s.1 (lines-counted _ w x f)

lines-stolen : (t : Then) (w : World) (x : RunPoll) → Lines x.run (hand_then t ++ own_of w x.run) (stolen t w x)
lines-stolen (Then.Found f) w x = lines-found w x f
lines-stolen (Then.StealPlain f) w x =
    one x.run w (Op.Steal (StealOp.Length (record { poll = x; from = Common Plain; then = Then.Run f }))) (refl, refl)
lines-stolen (Then.Run f) w x = lines-run_by _ w x f
lines-stolen (Then.Walk at left) w x = one x.run w (Op.Run (RunOp.LookOwn x at left)) refl

-- a steal

abbrev front_of : World → Steal → List ℕ
front_of w s = hand_then s.then ++ own_of w s.poll.run

lines-length : (n : ℕ) (w : World) (s : Steal) → NotOwn s.poll.run s.from → Lines s.poll.run (front_of w s) (steal_length_by n w s)
lines-length zero w s k = lines-stolen s.then w s.poll
lines-length (suc n) w s k = one s.poll.run w (Op.Steal (StealOp.OwnLength s (suc n))) (refl, k)

lines-steal_by : (n : ℕ) (w : World) (s : Steal) → NotOwn s.poll.run s.from → Lines s.poll.run (front_of w s) (steal_by n w s)
lines-steal_by zero w s k = lines-stolen s.then w s.poll
lines-steal_by (suc n) w s k = one s.poll.run w (Op.Steal (StealOp.Take s n)) (refl, k)

own-without : (q : ℕ) (x : Source) (w : World) (rest : List ℕ) → NotOwn q x → own_of (without_first w x rest) q ≡ own_of w q
own-without q (Common mark) w rest k = refl
own-without q (Own n) w rest k = get_or-set_other w.own n q rest [] (λ e. k (sym e))

lines-take : (xs : List ℕ) (w : World) (s : Steal) (more : ℕ) → NotOwn s.poll.run s.from →
    Lines s.poll.run (front_of w s) (steal_take_by xs w s more)
lines-take [] w s more k = lines-stolen s.then w s.poll
lines-take (f ∷ rest) w s more k =
    let v : World = without_first w s.from rest in
    fronts s.poll.run (front_of v s) (front_of w s) (done v (Op.Steal (StealOp.Put s more f) ∷ []))
    (ap (λ (ns : List ℕ). hand_then s.then ++ ns) (own-without s.poll.run s.from w rest k))
    (one s.poll.run v (Op.Steal (StealOp.Put s more f)) (refl, k))

lines-refused : (t : Then) (w : World) (x : RunPoll) (f : ℕ) → Lines x.run (hand_then t ++ own_of w x.run) (put_refused t w x f)
lines-refused (Then.Walk at left) w x f =
    behind-ops x.run (own_of w x.run) (Op.List ListOp.UnlockRead ∷ Op.Move Move.DropRunnable f ∷ [])
    (done w (Op.Tick (TickOp.Search (asleep x)) ∷ [])) refl refl (one x.run w (Op.Tick (TickOp.Search (asleep x))) refl)
lines-refused t w x f =
    behind-ops x.run (hand_then t ++ own_of w x.run) (Op.Move Move.DropRunnable f ∷ []) (stolen t w x) refl refl
    (lines-stolen t w x)

put-behind : (qs : List (List ℕ)) (q f : ℕ) →
    (extra : List ℕ) × (get_or (set qs q (get_or qs q [] ++ f ∷ [])) q [] ≡ get_or qs q [] ++ extra)
put-behind [] q f = ([], refl)
put-behind (x ∷ qs) zero f = (f ∷ [], refl)
put-behind (x ∷ qs) (suc q) f = put-behind qs q f

lines-put : (b : Bool) (p : ℕ) (w : World) (s : Steal) (more f : ℕ) → NotOwn s.poll.run s.from →
    Lines s.poll.run (front_of w s) (steal_put_by b p w s more f)
lines-put true p w s more f k =
    let v : World = kept_by p w s.poll.run f in
    let e : _ = put-behind w.own s.poll.run f in
    fewer s.poll.run (front_of w s) e.0 (steal_by more v s)
    (fronts s.poll.run (front_of v s) (front_of w s ++ e.0) (steal_by more v s)
    (ap (λ (ns : List ℕ). hand_then s.then ++ ns) e.1 ∙ sym (append_assoc (hand_then s.then) (own_of w s.poll.run) e.0))
    (lines-steal_by more v s k))
lines-put false p w s more f k = lines-refused s.then w s.poll f

lines-steal : (p : ℕ) (o : StealOp) (w : World) → NotOwn (steal_of o).poll.run (steal_of o).from →
    Lines (steal_of o).poll.run (front_of w (steal_of o)) (steal_act p o w)
lines-steal p (StealOp.Length s) w k = lines-length _ w s k
lines-steal p (StealOp.OwnLength s n) w k = lines-steal_by _ w s k
lines-steal p (StealOp.Take s more) w k = lines-take _ w s more k
lines-steal p (StealOp.Put s more f) w k = lines-put _ p w s more f k

-- searches

lines-first : (w : World) (x : RunPoll) (f : ℕ) (rest : List ℕ) → own_of w x.run ≡ f ∷ rest →
    Lines x.run (own_of w x.run) (found (put_own w x.run rest) x f)
lines-first w x f rest e =
    let v : World = put_own w x.run rest in
    fronts x.run (f ∷ own_of v x.run) (own_of w x.run) (found v x f)
    (ap (λ (ns : List ℕ). f ∷ ns) (get_or-set_same w.own x.run rest [] (within w.own x.run f rest e)) ∙ sym e)
    (lines-found v x f)

lines-own : (xs : List ℕ) (w : World) (x : RunPoll) → own_of w x.run ≡ xs → Lines x.run (own_of w x.run) (search_own_by xs w x)
lines-own [] w x e = one x.run w (Op.Run (RunOp.TakeTurn x)) refl
lines-own (f ∷ rest) w x e = lines-first w x f rest e

-- its own queue is empty then
lines-common : (look : Look) (xs : List ℕ) (w : World) (x : RunPoll) → own_of w x.run ≡ [] →
    Lines x.run (own_of w x.run) (search_common_by xs w x look)
lines-common (First mark) [] w x e = one x.run w (Op.Run (RunOp.SearchCommon x (Second (other mark)))) refl
lines-common (Second mark) [] w x e = one x.run w (Op.List (ListOp.LockRead x)) refl
lines-common look (f ∷ rest) w x e =
    let c : Op = Op.Steal (StealOp.Length (record { poll = x; from = Common (mark_in look); then = Then.Found f })) in
    let v : World = (search_common_by (f ∷ rest) w x look).world in
    record {
      control = c;
      side = [];
      is = refl;
      kind = (refl, refl);
      light = refl;
      more = f ∷ own_of w x.run;
      line = sym (ap (λ (ns : List ℕ). ns ++ f ∷ own_of w x.run) e);
    }

pub another-queue : (n m : ℕ) → eqb n m ≡ false → n ≢ m
another-queue n m b k = ⊎_elim
    (λ (x : (same n m ≡ 1) × (eqb n m ≡ true) × (n ≡ m)). let no : true ≡ false = sym x.1 ∙ b in absurd (cc))
    (λ (x : (same n m ≡ 0) × (eqb n m ≡ false) × (n ≢ m)). x.2 k)
    (same_cases n m)

lines-walk : (v : World) (x : RunPoll) (qs : List ℕ) (at left : ℕ) → Lines x.run (own_of v x.run) (done v (walk x qs at left))
lines-walk v x qs at zero =
    behind-ops x.run (own_of v x.run) (Op.List ListOp.UnlockRead ∷ []) (done v (Op.Tick (TickOp.CopyWaker (asleep x)) ∷ []))
    refl refl (one x.run v (Op.Tick (TickOp.CopyWaker (asleep x))) refl)
lines-walk v x qs at (suc left) =
    by (eqb (queue_at qs at) x.run) (another-queue (queue_at qs at) x.run) (lines-walk v x qs (next_place qs at) left)
  where
    by : (b : Bool) → (b ≡ false → queue_at qs at ≢ x.run) →
        Lines x.run (own_of v x.run) (done v (walk x qs (next_place qs at) left)) →
        Lines x.run (own_of v x.run) (done v (let os : List Op = elim b [
          | true ↦ walk x qs (next_place qs at) left
          | false ↦ Op.Steal (StealOp.Length (record {
            poll = x;
            from = Own (queue_at qs at);
            then = Then.Walk (next_place qs at) left;
          })) ∷ []
        ] in os))
    by true k a = a
    by false k a = one x.run v (Op.Steal (StealOp.Length (record {
      poll = x;
      from = Own (queue_at qs at);
      then = Then.Walk (next_place qs at) left;
    }))) (refl, k refl)

lines-look : (xs : List ℕ) (w : World) (x : RunPoll) (at left : ℕ) → own_of w x.run ≡ xs →
    Lines x.run (own_of w x.run) (look_own_by xs w x at left)
lines-look [] w x at left e = lines-walk w x w.listed at left
lines-look (f ∷ rest) w x at left e =
    behind-ops x.run (own_of w x.run) (Op.List ListOp.UnlockRead ∷ []) (found (put_own w x.run rest) x f) refl refl
    (lines-first w x f rest e)

-- falling asleep

copied-own : (w : World) (a : Waker) → (copied w a).own ≡ w.own
copied-own w (Task g) = refl
copied-own w (Outside x) = refl

lines-copy : (q : ℕ) (b : Bool) (w : World) (s : Sleeping) → s.who ≡ TickOrRun.Run q →
    Lines q (own_of w q) (copy_sleeper_by b w s)
lines-copy q true w s e = one q w _ refl
lines-copy q false w s e =
    fronts q (own_of (copied w s.waker) q) (own_of w q) (copy_sleeper_by false w s)
    (ap (λ (qs : List (List ℕ)). get_or qs q []) (copied-own w s.waker))
    (one q (copied w s.waker) (Op.Tick (TickOp.FallAsleep s)) e)

lines-nowhere : (q : ℕ) (w : World) (s : Sleeping) (c : Op) → Control q c → hand_of c ≡ [] →
    Lines q (own_of w q) (done w (Op.Sleeper (SleeperOp.CallSleeper s) ∷ c ∷ []))
lines-nowhere q w s c k h = behind-ops q (own_of w q) (Op.Sleeper (SleeperOp.CallSleeper s) ∷ []) (done w (c ∷ [])) refl refl
    (fronts q (hand_of c ++ own_of w q) (own_of w q) (done w (c ∷ [])) (ap (λ (ns : List ℕ). ns ++ own_of w q) h) (one q w c k))

lines-anew : (q : ℕ) (b : Bool) (w : World) (s : Sleeping) → s.who ≡ TickOrRun.Run q → Lines q (own_of w q) (sleep_anew_by b w s)
lines-anew q true w s e = one q (sleep_anew_by true w s).world (Op.Tick (TickOp.Search s)) e
lines-anew q false w s e = lines-nowhere q w s _ refl refl

lines-listed : (q : ℕ) (b : Bool) (w : World) (m : ℕ) (s : Sleeping) → s.who ≡ TickOrRun.Run q →
    Lines q (own_of w q) (sleep_listed_by b w m s)
lines-listed q true w m s e = one q (sleep_listed_by true w m s).world (Op.Tick (TickOp.Search s)) e
lines-listed q false w m s e = lines-nowhere q w s _ refl refl

lines-again : (q : ℕ) (o : Option ℕ) (w : World) (m : ℕ) (s : Sleeping) → s.who ≡ TickOrRun.Run q →
    Lines q (own_of w q) (sleep_again_by o w m s)
lines-again q (Some at) w m s e =
    behind-ops q (own_of w q) (sleeper_goes (waker_at (Some at) w.sleepers.wakers)) (done (sleep_again_by (Some at) w m s).world _)
    (goes-unseen side_of (λ g. refl) (waker_at (Some at) w.sleepers.wakers))
    (goes-unseen ups (λ g. refl) (waker_at (Some at) w.sleepers.wakers))
    (one q (sleep_again_by (Some at) w m s).world _ refl)
lines-again q None w m s e = lines-listed q _ w m s e

lines-sleep : (q : ℕ) (x : Ticker) (w : World) (s : Sleeping) → s.who ≡ TickOrRun.Run q → Lines q (own_of w q) (fall_asleep_by x w s)
lines-sleep q Awake w s e = lines-anew q _ w s e
lines-sleep q (Asleep m) w s e = lines-again q _ w m s e
lines-sleep q Left w s e = lines-nowhere q w s _ refl refl

-- it calls its own waker
lines-wake : (p : ℕ) (h : Hint) (w : World) (x : RunPoll) (q : ℕ) → Lines q (own_of w q) (wake_own p w x)
lines-wake p h w x q = by x.waker
  where
    by : (a : Waker) → Lines q (own_of w q)
        (followed (call_by_reference p (log w (Event.WakerCalled p (Polled.Run x.run) x.poll x.waker)) a)
        (Op.End Reply.Pending (Hold.Run x.run) ∷ []))
    by (Task g) =
        let u : World = log w (Event.WakerCalled p (Polled.Run x.run) x.poll x.waker) in
        let d : Done = act p h (Op.Move Move.WakeByReference g) u in
        let a : Aside u d = aside-act p h (Op.Move Move.WakeByReference g) u refl refl in
        behind-ops q (own_of w q) d.next (done d.world (Op.End Reply.Pending (Hold.Run x.run) ∷ []))
        a.light (ups-act p h (Op.Move Move.WakeByReference g) u refl refl)
        (fronts q (own_of d.world q) (own_of w q) (done d.world (Op.End Reply.Pending (Hold.Run x.run) ∷ []))
        (ap (λ (qs : List (List ℕ)). get_or qs q []) a.own)
        (one q d.world (Op.End Reply.Pending (Hold.Run x.run)) refl))
    by (Outside y) = behind-ops q (own_of w q) (Op.User (UserOp.CallOutside y) ∷ [])
        (done (log w (Event.WakerCalled p (Polled.Run x.run) x.poll x.waker)) (Op.End Reply.Pending (Hold.Run x.run) ∷ [])) refl refl
        (one q (log w (Event.WakerCalled p (Polled.Run x.run) x.poll x.waker)) (Op.End Reply.Pending (Hold.Run x.run)) refl)

-- it goes on so, or it has ended
pub data Goes (q : ℕ) (front : List ℕ) (d : Done) : Type 0 where
  on : Lines q front d → Goes q front d
  over : d.next ≡ [] → own_of d.world q ≡ front → Goes q front d

pub lines-act : (q p : ℕ) (h : Hint) (c : Op) (w : World) → Control q c →
    ((x : RunPoll) (look : Look) → c ≡ Op.Run (RunOp.SearchCommon x look) → own_of w x.run ≡ []) →
    Goes q (hand_of c ++ own_of w q) (act p h c w)
lines-act q p h (Op.Tick (TickOp.Search s)) w e k =
    subst (λ (who : TickOrRun). Goes q (own_of w q) (search_by_who who p w s)) (sym e)
    (on (lines-own (own_of w q) w (record { run = q; waker = s.waker; poll = s.poll }) refl))
lines-act q p h (Op.Tick (TickOp.CopyWaker s)) w e k = on (lines-copy q _ w s e)
lines-act q p h (Op.Tick (TickOp.FallAsleep s)) w e k = on (lines-sleep q (place_of w s.who) w s e)
lines-act q p h (Op.Run (RunOp.TakeTurn x)) w e k =
    subst (λ (n : ℕ). Goes n (own_of w n) (act p h (Op.Run (RunOp.TakeTurn x)) w)) e
    (on (one x.run (turned p w) (Op.Run (RunOp.SearchCommon x (First (first_of w.urgent_turns)))) refl))
lines-act q p h (Op.Run (RunOp.SearchCommon x look)) w e k =
    subst (λ (n : ℕ). Goes n (own_of w n) (act p h (Op.Run (RunOp.SearchCommon x look)) w)) e
    (on (lines-common look (queue_of w (mark_in look)).items w x (k x look refl)))
lines-act q p h (Op.Run (RunOp.LookOwn x at left)) w e k =
    subst (λ (n : ℕ). Goes n (own_of w n) (act p h (Op.Run (RunOp.LookOwn x at left)) w)) e
    (on (lines-look (own_of w x.run) w x at left refl))
lines-act q p h (Op.Run (RunOp.WakeOwn x)) w e k = on (lines-wake p h w x q)
lines-act q p h (Op.List (ListOp.LockRead x)) w e k =
    subst (λ (n : ℕ). Goes n (own_of w n) (act p h (Op.List (ListOp.LockRead x)) w)) e
    (on (lines-walk (act p h (Op.List (ListOp.LockRead x)) w).world x w.listed _ (length w.listed)))
lines-act q p h (Op.Steal o) w e k =
    subst (λ (n : ℕ). Goes n (hand_then (steal_of o).then ++ own_of w n) (act p h (Op.Steal o) w)) e.0
    (on (lines-steal p o w (subst (λ (n : ℕ). NotOwn n (steal_of o).from) (sym e.0) e.1)))
lines-act q p h (Op.End a held) w e k = over refl refl
lines-act q p h _ w e k = absurd e
