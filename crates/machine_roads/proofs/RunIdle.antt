-- A run's search where nothing is due: it looks at its own queue, at the executor's both and round the list, and comes to the copy of its
-- waker.
use Rattle.std.proofs.Common.{◌≡◌, ℕ, zero, suc, ◌+◌, ◌-◌, ◌%◌, ◌==◌, ◌++◌, Bool, true, false, List, [], ◌∷◌, length, refl, ap, subst, ◌∙◌}
use Rattle.executor_parts.specs.Marks.{first_of, other}
use Rattle.executor_model.specs.declared.event.Event.TheVariants as event
use Rattle.executor_model.specs.declared.op.ListOp.TheVariants as list_op
use Rattle.executor_model.specs.declared.op.Look.TheVariants as look
use Rattle.executor_model.specs.declared.op.Op.{Op}
use Rattle.executor_model.specs.declared.op.Op.TheVariants as op
use Rattle.executor_model.specs.declared.op.RunOp.TheVariants as run_op
use Rattle.executor_model.specs.declared.op.RunPoll.{RunPoll}
use Rattle.executor_model.specs.declared.op.Source.TheVariants.{Own}
use Rattle.executor_model.specs.declared.op.Steal.{Steal}
use Rattle.executor_model.specs.declared.op.StealOp.TheVariants as steal_op
use Rattle.executor_model.specs.declared.op.Then.TheVariants as then
use Rattle.executor_model.specs.declared.op.TickOp.TheVariants as tick_op
use Rattle.executor_model.specs.declared.op.TickOrRun.TheVariants as tick_or_run
use Rattle.executor_model.specs.declared.op.Waker.{Waker}
use Rattle.executor_model.specs.Acts.{turned}
use Rattle.executor_model.specs.ActsOfRuns.{asleep, look_own_by, next_place, queue_at, search_common_by, search_own_by, steal_length_by}
use Rattle.executor_model.specs.ActsOfRuns.{walk}
use Rattle.executor_model.specs.World.{Done, Lock, World, own_of}
use Rattle.plain_scheduler.specs.State.{Choice, Due, Plain}
use Rattle.plain_scheduler.specs.Moves.{is_common, is_kept}
use Rattle.machine_roads.specs.View.{Output}
use Rattle.machine_roads.specs.Road.{Follows, futures_in}
use Rattle.machine_roads.specs.Alone.{is_resting}
use Rattle.machine_roads.proofs.Bedding.{Idles}
use Rattle.machine_roads.proofs.Changing.{logs}
use Rattle.machine_roads.proofs.Stepping.{Way, next}
use Rattle.machine_roads.proofs.Unseen.{locked, turns}

-- nothing is due
abbrev pub IsQuiet : List Due → Type 0
IsQuiet due = due ≡ []

module _ (p : ℕ) (below : List Op) (under : is_resting below ≡ true) (end : Done) (rests : is_resting end.next ≡ true) (c : Choice)
    (x : RunPoll) where
  abbrev r : ℕ
  r = x.run

  module _ (q : Plain Output Waker) (quiet : IsQuiet q.due) where
    own_none : (w : World) → Follows w q → (k : ℕ) → own_of w k ≡ []
    own_none w follows k = follows.kept k ∙ ap (futures_in (is_kept k)) quiet

    -- round the list, whatever stands there
    walks_none : (qs : List ℕ) (left at : ℕ) (w : World) → Follows w q → w.listed ≡ qs → Way p end w (walk x qs at left ++ below)
        → Way p end w (op.List list_op.UnlockRead ∷ op.Tick (tick_op.CopyWaker (asleep x)) ∷ below)
    walks_none qs zero at w follows listed way = way
    walks_none qs (suc left) at w follows listed way =
        by (λ way. walks_none qs left (next_place qs at) w follows listed way) (queue_at qs at == r) way
      where
        by : (Way p end w (walk x qs (next_place qs at) left ++ below)
            → Way p end w (op.List list_op.UnlockRead ∷ op.Tick (tick_op.CopyWaker (asleep x)) ∷ below))
            → (b : Bool)
            → Way p end w (elim b [
              | true ↦ walk x qs (next_place qs at) left
              | false ↦ op.Steal (steal_op.Length (record {
                poll = x;
                from = Own (queue_at qs at);
                then = then.Walk (next_place qs at) left;
              })) ∷ []
            ] ++ below)
            → Way p end w (op.List list_op.UnlockRead ∷ op.Tick (tick_op.CopyWaker (asleep x)) ∷ below)
        by again true way = again way
        by again false way =
            let k = queue_at qs at in
            let steal : Steal = record { poll = x; from = Own k; then = then.Walk (next_place qs at) left } in
            let one = next p end rests (op.Steal (steal_op.Length steal)) w below refl way in
            let two : Way p end w (op.Run (run_op.LookOwn x (next_place qs at) left) ∷ below) =
            subst (λ fs. Way p end (steal_length_by (length fs) w steal).world ((steal_length_by (length fs) w steal).next ++ below))
            (own_none w follows k) one.way in
            let three = next p end rests (op.Run (run_op.LookOwn x (next_place qs at) left)) w below refl two in
            let four : Way p end w (walk x w.listed (next_place qs at) left ++ below) =
            subst
            (λ fs. let d = look_own_by fs w x (next_place qs at) left in Way p end d.world (d.next ++ below))
            (own_none w follows r) three.way in
            again (subst (λ ks. Way p end w (walk x ks (next_place qs at) left ++ below)) listed four)

    pub run_finds_none : (w : World) → Follows w q → Way p end w (op.Tick (tick_op.Search (asleep x)) ∷ below)
        → Idles p below under end rests c (tick_or_run.Run x.run) x.waker x.poll w q
    run_finds_none w follows way =
        let m = first_of w.urgent_turns in
        let w1 = turned p w in
        let follows1 : Follows w1 q =
        logs (record w { urgent_turns = w1.urgent_turns }) q (turns w1.urgent_turns w q follows) (event.Looked p m) refl in
        let one = next p end rests (op.Tick (tick_op.Search (asleep x))) w below refl way in
        let two : Way p end w (op.Run (run_op.TakeTurn x) ∷ below) =
        subst (λ fs. Way p end (search_own_by fs w x).world ((search_own_by fs w x).next ++ below)) (own_none w follows r) one.way in
        let three = next p end rests (op.Run (run_op.TakeTurn x)) w below refl two in
        let four = next p end rests (op.Run (run_op.SearchCommon x (look.First m))) w1 below refl three.way in
        let five : Way p end w1 (op.Run (run_op.SearchCommon x (look.Second (other m))) ∷ below) =
        subst
        (λ fs. Way p end (search_common_by fs w1 x (look.First m)).world ((search_common_by fs w1 x (look.First m)).next ++ below))
        (follows1.common m ∙ ap (futures_in (is_common m)) quiet) four.way in
        let six = next p end rests (op.Run (run_op.SearchCommon x (look.Second (other m)))) w1 below refl five in
        let seven : Way p end w1 (op.List (list_op.LockRead x) ∷ below) =
        subst
        (λ fs. Way p end (search_common_by fs w1 x (look.Second (other m))).world
        ((search_common_by fs w1 x (look.Second (other m))).next ++ below))
        (follows1.common (other m) ∙ ap (futures_in (is_common (other m))) quiet) six.way in
        let eight = next p end rests (op.List (list_op.LockRead x)) w1 below refl seven in
        let l : Lock = record w1.lock { readers = w1.lock.readers + 1 } in
        let w2 : World = record w1 { lock = l } in
        let follows2 : Follows w2 q = locked l w1 q follows1 in
        let nine =
        walks_none w2.listed (length w2.listed) (eight.hint.start % length w2.listed) w2 follows2 refl eight.way in
        let ten = next p end rests (op.List list_op.UnlockRead) w2 (op.Tick (tick_op.CopyWaker (asleep x)) ∷ below) refl nine in
        let l3 : Lock = record w2.lock { readers = w2.lock.readers - 1 } in
        record {
          world = record w2 { lock = l3 };
          follows = locked l3 w2 q follows2;
          place = refl;
          wakers = refl;
          took = record { turn = refl; counted = λ k. refl; listed = refl };
          way = ten.way;
        }
