-- For runs_reach_futures, kept_futures_are_in_reach and dropped_runs_leave_common_futures.
-- What is left of the call that drops a run, while what the run kept goes into the executor's queue.
use Rattle.std.proofs.Common.{◌≡◌, ◌⊎◌, ◌∙◌, inl, inr, ℕ, zero, suc, ◌+◌, ◌<◌, ◌≤◌, List, [], ◌∷◌, ◌++◌, length}
use Rattle.std.proofs.Common.{get_or, get_or-set_same, Bool, true, false, ◌&&◌, not, refl, sym, ap, subst, arith}
use Rattle.std.proofs.lemmas.Bool.Decides.{nat_tests}
use Rattle.std.specs.Prelude.{Option, Some, None, reverse, nat_lt, is_none}
use Rattle.executor_parts.specs.Sleepers.{waker_of}
use Rattle.executor_laws.proofs.Types.{Mark, Reply, Answer, Hold, Op, QueueOp, RunOp, TickOrRun, SleeperOp, TickOp, UserOp, WakerOp, Hint}
use Rattle.executor_laws.proofs.Types.{UserEnd}
use Rattle.executor_model.specs.{Acts.append_by, ActsOfRuns.reschedule_by, ActsOfSleepers.leave_sleepers_by, ActsOfSleepers.sleeper_goes}
use Rattle.executor_model.specs.{ActsOfSleepers.tell_and_return, Doing.act, Sound.times, Steps.Part, Steps.end_of, Steps.onto, Steps.part}
use Rattle.executor_model.specs.{Steps.react, Steps.settled, Steps.settled_by, Steps.top, Weights.weigh, World.Done, World.Left}
use Rattle.executor_model.specs.{World.Asleep, World.Ticker, World.Awake, World.World, World.own_of, World.queued_in}
use Rattle.executor_model.proofs.{Steps.Lists.weigh-append, Steps.Lists.weigh-reverse, Steps.QueuesByMark.times-last}
use Rattle.executor_model.proofs.{Steps.SleepersNext.goes-unseen, Table.Spawning.top-last, OwnQueues.UsingWorlds.idle-act}
use Rattle.executor_laws.proofs.{Reach.LoneMoves.Inner, Reach.LoneMoves.more-queued, Reach.LoneMoves.stray_of, Reach.LoneSteps.Last}
use Rattle.executor_laws.proofs.{Reach.LoneSteps.from-end, RunReach.RunFinds.light-no-end, RunReach.RunFinds.top-of}
use Rattle.executor_laws.proofs.{RunReach.RunWalks.both-light, RunReach.RunWalks.light}

-- own queues, and what leaves them alone

-- a side thing that is done
pub own-act : (p : ℕ) (h : Hint) (o : Op) (w : World) → stray_of o ≡ 0 → (act p h o w).world.own ≡ w.own
own-act p h (Op.Tick (TickOp.Search s)) w z = absurd (omega (arith, z))
own-act p h (Op.Tick (TickOp.Look s look)) w z = absurd (omega (arith, z))
own-act p h (Op.Tick (TickOp.CopyWaker s)) w z = absurd (omega (arith, z))
own-act p h (Op.Tick (TickOp.FallAsleep s)) w z = absurd (omega (arith, z))
own-act p h (Op.User (UserOp.PollOwn x)) w z = absurd (omega (arith, z))
own-act p h (Op.Waker (WakerOp.CopyWaker f held)) w z = absurd (omega (arith, z))
own-act p h (Op.List o) w z = absurd (omega (arith, z))
own-act p h (Op.Steal o) w z = absurd (omega (arith, z))
own-act p h (Op.Run RunOp.ReturnRoom) w z = refl
own-act p h (Op.Run o) w z = absurd (omega (arith, z))
own-act p h (Op.End a held) w z = absurd (omega (arith, z))
own-act p h o w z = (idle-act p h o w refl).own

pub own-react : (p : ℕ) (o : Op) (u : UserEnd) (w : World) → (react p o u w).world.own ≡ w.own
own-react p (Op.User (UserOp.Poll f)) (UserEnd.Polled Answer.Pending) w = refl
own-react p (Op.User (UserOp.Poll f)) (UserEnd.Polled Answer.Ready) w = refl
own-react p (Op.User (UserOp.Poll f)) UserEnd.Done w = refl
own-react p (Op.User (UserOp.PollOwn x)) (UserEnd.Polled Answer.Pending) w = refl
own-react p (Op.User (UserOp.PollOwn x)) (UserEnd.Polled Answer.Ready) w = refl
own-react p (Op.User (UserOp.PollOwn x)) UserEnd.Done w = refl
own-react p _ u w = refl

pub within : (qs : List (List ℕ)) (r g : ℕ) (rest : List ℕ) → get_or qs r [] ≡ g ∷ rest → r < length qs
within [] r g rest e = absurd (cc)
within (q ∷ qs) zero g rest e = omega arith
within (q ∷ qs) (suc r) g rest e = omega (arith, within qs r g rest e)

-- f stands in the executor's queue no less often
pub more-stands : (f : ℕ) (w : World) (d : Done) → Inner w d → times f (queued_in w) ≤ times f (queued_in d.world)
more-stands f w d i = omega (arith, more-queued f w d i)

-- what is left of the call, its last thing on top: the queue of run r is to be emptied, and f stands there or in the
-- executor's queue; or that is done, and f stands in the executor's queue
pub data Remains (r f : ℕ) (w : World) (os : List Op) : Type 0 where
  back : (a : Reply) (rest : List ℕ) (side : List Op) → os ≡ Op.Run (RunOp.Reschedule r a) ∷ side →
      weigh stray_of side ≡ 0 → own_of w r ≡ rest → 1 ≤ times f (queued_in w) + times f rest → Remains r f w os
  puts : (a : Reply) (g : ℕ) (rest : List ℕ) → os ≡ Op.Run (RunOp.Reschedule r a) ∷ Op.Queue (QueueOp.Append g) ∷ [] →
      own_of w r ≡ rest → 1 ≤ times f (queued_in w) + times f (g ∷ rest) → Remains r f w os
  leaves : (a : Reply) (held : Hold) (who : TickOrRun) → os ≡ Op.End a held ∷ Op.Tick (TickOp.Leave who) ∷ [] →
      1 ≤ times f (queued_in w) → Remains r f w os
  ends : (a : Reply) (held : Hold) (below : List Op) (o : Op) → os ≡ Op.End a held ∷ (below ++ o ∷ []) →
      weigh stray_of (below ++ o ∷ []) ≡ 0 → 1 ≤ times f (queued_in w) → Remains r f w os
  over : os ≡ [] → 1 ≤ times f (queued_in w) → Remains r f w os

abbrev pub Rests : ℕ → ℕ → Part → Type 0
Rests r f x = Remains r f x.world x.todo

-- only side things and the end are left
pub to-end : (p r f : ℕ) (a : Reply) (held : Hold) (w : World) (side : List Op) → weigh stray_of side ≡ 0 →
    1 ≤ times f (queued_in w) → Rests r f (settled p w (Op.End a held ∷ side))
to-end p r f a held w side z k = go (from-end side)
  where
    go : (side ≡ []) ⊎ Last side → Rests r f (settled p w (Op.End a held ∷ side))
    go (inl e) = subst (λ (os : List Op). Rests r f (settled p w (Op.End a held ∷ os))) (sym e) (over refl k)
    go (inr l) =
        let b : _ = light side l.below l.last l.is z in
        let q : settled p w (Op.End a held ∷ (l.below ++ l.last ∷ [])) ≡
        part w (Op.End a held ∷ (l.below ++ l.last ∷ [])) =
        ap (λ (v : Option Reply). settled_by v p w (Op.End a held ∷ (l.below ++ l.last ∷ [])))
        (ap end_of (top-last (Op.End a held ∷ l.below) l.last) ∙ light-no-end l.last b.1) in
        subst (λ (os : List Op). Rests r f (settled p w (Op.End a held ∷ os))) (sym l.is)
        (subst (Rests r f) (sym q) (ends a held l.below l.last refl
        (subst (λ (os : List Op). weigh stray_of os ≡ 0) l.is z) k))

-- the queue is emptied further
pub from-queue : (p r f : ℕ) (a : Reply) (w : World) (xs rest : List ℕ) → own_of w r ≡ rest → xs ≡ rest →
    1 ≤ times f (queued_in w) + times f rest → Rests r f (onto p (reschedule_by xs w r a) [])
from-queue p r f a w [] rest o e k =
    leaves a (Hold.Run r) (TickOrRun.Run r) refl (omega (arith, k, ap (times f) (sym e)))
from-queue p r f a w (g ∷ xs) rest o e k =
    puts a g xs refl (get_or-set_same w.own r xs [] (within w.own r g xs (o ∙ sym e)))
    (omega (arith, k, ap (times f) (sym e)))

-- the run leaves the sleepers
pub from-leaving : (p r f : ℕ) (a : Reply) (held : Hold) (x : Ticker) (w : World) (who : TickOrRun) →
    1 ≤ times f (queued_in w) → Rests r f (onto p (leave_sleepers_by x w who) (Op.End a held ∷ []))
from-leaving p r f a held Awake w who k = over refl k
from-leaving p r f a held Left w who k = over refl k
from-leaving p r f a held (Asleep n) w who k =
    to-end p r f a held (leave_sleepers_by (Asleep n) w who).world (reverse (leave_sleepers_by (Asleep n) w who).next)
    (weigh-reverse stray_of (leave_sleepers_by (Asleep n) w who).next ∙ omega (
      arith,
      weigh-append stray_of (sleeper_goes (waker_of n w.sleepers.wakers))
          (tell_and_return (is_none (waker_of n w.sleepers.wakers))),
      goes-unseen stray_of (λ g. refl) (waker_of n w.sleepers.wakers),
      tells (is_none (waker_of n w.sleepers.wakers)),
    )) k
  where
    tells : (b : Bool) → weigh stray_of (tell_and_return b) ≡ 0
    tells true = refl
    tells false = refl

-- a Runnable is appended
pub from-append : (p r f g : ℕ) (a : Reply) (b : Bool) (w : World) (mark : Mark) (rest : List ℕ) → b ≡ true → own_of w r ≡ rest →
    1 ≤ times f (queued_in w) + times f (g ∷ rest) →
    Rests r f (onto p (append_by b w mark g) (Op.Run (RunOp.Reschedule r a) ∷ []))
from-append p r f g a true w mark rest e o k =
    back a rest (Op.Sleeper SleeperOp.ExchangeFlag ∷ []) refl refl o
    (omega (arith, k, times-last f g mark w.queues))
from-append p r f g a false w mark rest e o k = absurd (cc)

pub has-room : (c : Bool) (n m : ℕ) → c ≡ false → n < m → (not c && nat_lt n m) ≡ true
has-room true n m e l = absurd (cc)
has-room false n m e l = grind (arith, nat_tests)

pub not-true : (b : Bool) → (b ≡ true → ⊥) → b ≡ false
not-true true k = absurd (k refl)
not-true false k = refl

settled-gone : (o : Option Reply) (p : ℕ) (w : World) (os : List Op) → (settled_by o p w os).world.gone ≡ w.gone
settled-gone None p w os = refl
settled-gone (Some a) p w os = refl

pub gone-onto : (p : ℕ) (d : Done) (below : List Op) → (onto p d below).world.gone ≡ d.world.gone
gone-onto p d below = settled-gone (end_of (top (below ++ reverse d.next))) p d.world (below ++ reverse d.next)

pub gone-reschedule : (xs : List ℕ) (w : World) (r : ℕ) (a : Reply) → (reschedule_by xs w r a).world.gone ≡ w.gone
gone-reschedule [] w r a = refl
gone-reschedule (g ∷ xs) w r a = refl

-- what is left to do where side things were done
pub back-again : (p r f : ℕ) (a : Reply) (d : Done) (below : List Op) (rest : List ℕ) → weigh stray_of below ≡ 0 →
    weigh stray_of d.next ≡ 0 → own_of d.world r ≡ rest → 1 ≤ times f (queued_in d.world) + times f rest →
    Rests r f (onto p d (Op.Run (RunOp.Reschedule r a) ∷ below))
back-again p r f a d below rest z x o k =
    let light-all : weigh stray_of (below ++ reverse d.next) ≡ 0 =
    both-light below (reverse d.next) z (weigh-reverse stray_of d.next ∙ x) in
    let q : onto p d (Op.Run (RunOp.Reschedule r a) ∷ below) ≡
    part d.world (Op.Run (RunOp.Reschedule r a) ∷ (below ++ reverse d.next)) =
    ap (λ (v : Option Reply). settled_by v p d.world (Op.Run (RunOp.Reschedule r a) ∷ (below ++ reverse d.next)))
    (top-of (Op.Run (RunOp.Reschedule r a) ∷ []) (below ++ reverse d.next) refl light-all) in
    subst (Rests r f) (sym q) (back a rest (below ++ reverse d.next) refl light-all o k)
