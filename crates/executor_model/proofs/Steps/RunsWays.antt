-- For all laws.
-- What each thing that a run does keeps, where it is kept by what moves Runnables and no more, by the event that one is
-- kept, and by the call of the run's own waker.
use Rattle.std.proofs.Common.{◌≡◌, ℕ, ◌<◌, List, [], ◌∷◌, length, Bool, true, false, ltb, refl, arith}
use Rattle.executor_model.proofs.Types.{Move, Reply, ListOp, Op, QueueOp, RunOp, RunPoll, TickOrRun, Sleeping, Steal, StealOp, TickOp}
use Rattle.executor_model.specs.ActsOfRuns.{take_turn_of_run, free_places, kept_by, put_refused, reschedule_by, search_own}
use Rattle.executor_model.specs.Doing.{list_act, run_act, steal_act}
use Rattle.executor_model.specs.{ActsOfRuns.steal_put_by, ActsOfRuns.wake_own, Weights.weigh, World.World, World.Done}
use Rattle.executor_model.proofs.Steps.RunsMoves.{Moves, moves-common, moves-length, moves-list, moves-look, moves-make_room}
use Rattle.executor_model.proofs.Steps.RunsMoves.{moves-own, moves-own_length, moves-reschedule}
use Rattle.executor_model.proofs.Steps.RunsNext.{BlindToRuns, common-blind, list-blind, look-blind, more-blind, room-blind}
use Rattle.executor_model.proofs.Steps.RunsNext.{length-blind, refused-blind, search_run-blind, take-blind}
use Rattle.executor_model.proofs.{Types.UserOp, Types.Hint, Steps.RunsCounting.known-run, Steps.RunsMoves.moves-return_room}
use Rattle.executor_model.proofs.{Steps.RunsMoves.moves-take, Steps.RunsPlain.AllPlain, Steps.RunsPlain.blind-plain}

-- a count that sees nothing of a run, its leaving and the drop of its own future too
pub record Unseeing (v : Op → ℕ) : Type 0 where
  pub blind : BlindToRuns v
  pub append : (f : ℕ) → v (Op.Queue (QueueOp.Append f)) ≡ 0
  pub leave : (r : ℕ) → v (Op.Tick (TickOp.Leave (TickOrRun.Run r))) ≡ 0
  pub drop : (r : ℕ) → v (Op.User (UserOp.DropOwn r)) ≡ 0

abbrev pub AllOfRuns : List Op → Type 0
AllOfRuns os = (v : Op → ℕ) → Unseeing v → weigh v os ≡ 0

-- and nothing of a Runnable's drop
abbrev pub AllOrDropped : List Op → Type 0
AllOrDropped os = (v : Op → ℕ) → Unseeing v → ((f : ℕ) → v (Op.Move Move.DropRunnable f) ≡ 0) → weigh v os ≡ 0

pub or-dropped : (os : List Op) → AllOfRuns os → AllOrDropped os
or-dropped os a v u z = a v u

pub refused-dropped : (s : Steal) (w : World) (f : ℕ) → AllOrDropped (put_refused s.then w s.poll f).next
refused-dropped s w f v u z = refused-blind v u.blind z s.then w s.poll f

pub plain-of-runs : (os : List Op) → AllOrDropped os → AllPlain os
plain-of-runs os a v z = a v (record {
  blind = blind-plain v z;
  append = λ f. z (Op.Queue (QueueOp.Append f)) refl;
  leave = λ r. z (Op.Tick (TickOp.Leave (TickOrRun.Run r))) refl;
  drop = λ r. z (Op.User (UserOp.DropOwn r)) refl;
}) (λ f. z (Op.Move Move.DropRunnable f) refl)

after-reschedule : (q : List ℕ) (w : World) (r : ℕ) (a : Reply) → AllOfRuns (reschedule_by q w r a).next
after-reschedule [] w r a v u = omega (arith, u.leave r, u.blind.end a r)
after-reschedule (f ∷ rest) w r a v u = omega (arith, u.append f, u.blind.run (RunOp.Reschedule r a))

module _
    (P : World → List Op → Done → Type 0)
    (moves : (w : World) (old : List Op) (d : Done) → AllOfRuns old → AllOfRuns d.next → Moves w old d → P w old d)
    (keeps : (p : ℕ) (w : World) (s : Steal) (more f : ℕ) (d : Done) → s.poll.run < length w.own →
    P (kept_by p w s.poll.run f) (Op.Steal (StealOp.OwnLength s 0) ∷ []) d →
    P w (Op.Steal (StealOp.Put s more f) ∷ []) d)
  where
    step-steal : (o : StealOp) → AllOfRuns (Op.Steal o ∷ [])
    step-steal o v u = omega (arith, u.blind.steal o)

    step-run : (o : RunOp) → AllOfRuns (Op.Run o ∷ [])
    step-run o v u = omega (arith, u.blind.run o)

    -- where a full own queue gives one back, it is to be dropped
    abbrev Refuses : Type 0
    Refuses = (w : World) (s : Steal) (more f : ℕ) → ltb 0 (free_places w s.poll.run) ≡ false →
        P w (Op.Steal (StealOp.Put s more f) ∷ []) (put_refused s.then w s.poll f)

    by-put : Refuses → (b : Bool) (p : ℕ) (w : World) (s : Steal) (more f : ℕ) → ltb 0 (free_places w s.poll.run) ≡ b →
        P w (Op.Steal (StealOp.Put s more f) ∷ []) (steal_put_by b p w s more f)
    by-put refuses true p w s more f e =
        keeps p w s more f _ (known-run w s.poll.run e)
        (moves (kept_by p w s.poll.run f) _ _ (step-steal (StealOp.OwnLength s 0))
        (λ v u. more-blind v u.blind more (kept_by p w s.poll.run f) s)
        (moves-own_length more 0 (kept_by p w s.poll.run f) s))
    by-put refuses false p w s more f e = refuses w s more f e

    pub by-steal : Refuses → (p : ℕ) (o : StealOp) (w : World) → P w (Op.Steal o ∷ []) (steal_act p o w)
    by-steal refuses p (StealOp.Length s) w =
        moves w _ _ (step-steal (StealOp.Length s)) (λ v u. length-blind v u.blind _ w s) (moves-length _ w s)
    by-steal refuses p (StealOp.OwnLength s n) w =
        moves w _ _ (step-steal (StealOp.OwnLength s n)) (λ v u. more-blind v u.blind _ w s) (moves-own_length _ n w s)
    by-steal refuses p (StealOp.Take s more) w =
        moves w _ _ (step-steal (StealOp.Take s more)) (λ v u. take-blind v u.blind _ w s more)
        (moves-take s.from _ w s.poll s.then more refl)
    by-steal refuses p (StealOp.Put s more f) w = by-put refuses _ p w s more f refl

    pub by-list : (h : Hint) (o : ListOp) (w : World) → P w (Op.List o ∷ []) (list_act h o w)
    by-list h o w = moves w _ _ (λ v u. omega (arith, u.blind.list o)) (λ v u. list-blind v u.blind h o w)
        (moves-list h o w)

    -- a run looks at its own queue
    pub by-search : (w : World) (r : ℕ) (s : Sleeping) → s.who ≡ TickOrRun.Run r →
        P w (Op.Tick (TickOp.Search s) ∷ []) (search_own w (record { run = r; waker = s.waker; poll = s.poll }))
    by-search w r s e =
        moves w _ _ (λ v u. omega (arith, u.blind.search s)) (λ v u. search_run-blind v u.blind w _)
        (moves-own _ w s r e refl)

    pub by-run : (p : ℕ) (h : Hint) (o : RunOp) (w : World) →
        ((x : RunPoll) → o ≡ RunOp.WakeOwn x → P w (Op.Run (RunOp.WakeOwn x) ∷ []) (wake_own p w x)) →
        ((x : RunPoll) → P w (Op.Run (RunOp.TakeTurn x) ∷ []) (take_turn_of_run p w x)) →
        P w (Op.Run o ∷ []) (run_act p h o w)
    by-run p h RunOp.MakeRoom w k t =
        moves w _ _ (step-run RunOp.MakeRoom) (λ v u. room-blind v u.blind h.refused w) (moves-make_room h.refused w)
    by-run p h RunOp.ReturnRoom w k t = moves w _ _ (step-run RunOp.ReturnRoom) (λ v u. refl) (moves-return_room w)
    by-run p h (RunOp.TakeTurn x) w k t = t x
    by-run p h (RunOp.SearchCommon x look) w k t =
        moves w _ _ (step-run (RunOp.SearchCommon x look)) (λ v u. common-blind v u.blind look _ w x) (moves-common look _ w x refl)
    by-run p h (RunOp.LookOwn x at left) w k t =
        moves w _ _ (step-run (RunOp.LookOwn x at left)) (λ v u. look-blind v u.blind _ w x at left)
        (moves-look _ w x at left refl)
    by-run p h (RunOp.WakeOwn x) w k t = k x refl
    by-run p h (RunOp.Reschedule r a) w k t = moves w _ _ (step-run (RunOp.Reschedule r a)) (after-reschedule _ w r a)
        (moves-reschedule _ w r a refl)
