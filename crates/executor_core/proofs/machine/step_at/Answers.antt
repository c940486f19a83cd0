use Rattle.std.proofs.Common.{◌≡◌, List, Vec, Global, ◌∙◌, sym, ap, subst, arith, inl, inr, refl}
use Rattle.executor_model.specs.declared.op.Op.{Op}
use Rattle.executor_model.specs.Good.{Fits}
use Rattle.executor_model.specs.Steps.{part_refusal}
use Rattle.executor_core.specs.Reached.{IsReached}
use Rattle.executor_core.specs.Views.{world_of}
use Rattle.executor_core.proofs.Lifting.{items, state, absent, refused, refusal_is, stays, went, needed, goes}
use Rattle.executor_core.proofs.Reaching.{is_good, goes_on}
use Rattle.executor_core.proofs.machine.step_at.Goals as goal

pub returns-then-p-len-clause-err : goal.returns-then-p-len-clause-err
returns-then-p-len-clause-err c = (
  refl,
  inl (absent (world_of c.args.store.now) c.args.parties.now.items c.args.step (omega (
    arith,
    c.party_of-p.ensures,
  ))),
)

pub returns-in-Some-clause-err : goal.returns-in-Some-clause-err
returns-in-Some-clause-err c =
    let same : part_refusal (world_of c.args.store.now) (items c.args.parties.now.items) c.index.result.now.items
    c.args.step
    ≡ c.part_refusal.result = ap (λ (x : List (Vec Op Global)
    × List Op). part_refusal (world_of c.args.store.now) (items x.0) x.1 c.args.step) (λ i. (
      sym c.as_slice.ensures.value i,
      sym c.as_slice-2.ensures.value i,
    )) ∙ sym c.part_refusal.ensures in (
      refl,
      inl (refused (world_of c.args.store.now) c.args.parties.now.items c.party_of-p.result c.args.step
          c.index.result.now
          c.in-Some.error c.party_of-p.ensures (omega arith) c.index.ensures (same ∙ c.in-Some.is)),
    )

pub returns-then-is_err-clause-reached : goal.returns-then-is_err-clause-reached
returns-then-is_err-clause-reached c =
    subst IsReached (sym (stays (world_of c.args.store.now) (world_of c.make_room.new.store)
    c.args.parties.now.items c.party_of-p.result c.index_mut-todo.result.now c.reserve.new.self (omega arith)
    c.index_mut-todo.ensures.value c.reserve.ensures.items c.make_room.ensures.same)) c.requires

pub returns-then-is_err-clause-err : goal.returns-then-is_err-clause-err
returns-then-is_err-clause-err c =
    let same : part_refusal (world_of c.args.store.now) (items c.args.parties.now.items) c.index.result.now.items
    c.args.step
    ≡ c.part_refusal.result = ap (λ (x : List (Vec Op Global)
    × List Op). part_refusal (world_of c.args.store.now) (items x.0) x.1 c.args.step) (λ i. (
      sym c.as_slice.ensures.value i,
      sym c.as_slice-2.ensures.value i,
    )) ∙ sym c.part_refusal.ensures in (
      stays (world_of c.args.store.now) (world_of c.make_room.new.store) c.args.parties.now.items c.party_of-p.result
          c.index_mut-todo.result.now c.reserve.new.self (omega arith) c.index_mut-todo.ensures.value
          c.reserve.ensures.items
          c.make_room.ensures.same,
      inr (
        refl,
        refusal_is (world_of c.args.store.now) c.args.parties.now.items c.party_of-p.result
            c.args.step c.index.result.now c.party_of-p.ensures (omega arith) c.index.ensures ∙ same ∙ c.in-None.is,
      ),
    )

pub take_part-requires-clause-needs : goal.take_part-requires-clause-needs
take_part-requires-clause-needs c = λ o t. needed (world_of c.args.store.now) (world_of c.make_room.new.store)
    c.args.parties.now.items
    c.party_of-p.result c.index_mut-todo.result.now c.reserve.new.self o (omega arith) c.index_mut-todo.ensures.value
    c.reserve.ensures.items c.make_room.ensures.same (is_good _ c.requires) t

pub returns-clause-reached : goal.returns-clause-reached
returns-clause-reached c =
    let same : part_refusal (world_of c.args.store.now) (items c.args.parties.now.items) c.index.result.now.items
    c.args.step
    ≡ c.part_refusal.result = ap (λ (x : List (Vec Op Global)
    × List Op). part_refusal (world_of c.args.store.now) (items x.0) x.1 c.args.step) (λ i. (
      sym c.as_slice.ensures.value i,
      sym c.as_slice-2.ensures.value i,
    )) ∙ sym c.part_refusal.ensures in
    goes_on (state (world_of c.args.store.now) c.args.parties.now.items) _ c.args.step
    (refusal_is (world_of c.args.store.now) c.args.parties.now.items c.party_of-p.result c.args.step c.index.result.now
    c.party_of-p.ensures (omega arith) c.index.ensures ∙ same
    ∙ c.in-None.is) (went (world_of c.args.store.now) (world_of c.make_room.new.store) (world_of c.take_part.new.store)
    c.args.parties.now.items c.party_of-p.result c.args.step c.index_mut-todo.result.now c.reserve.new.self
    c.take_part.new.todo
    c.party_of-p.ensures (omega arith) c.index_mut-todo.ensures.value c.reserve.ensures.items c.make_room.ensures.same
    c.take_part.ensures) c.requires

pub returns-clause-ok : goal.returns-clause-ok
returns-clause-ok c =
    let same : part_refusal (world_of c.args.store.now) (items c.args.parties.now.items) c.index.result.now.items
    c.args.step
    ≡ c.part_refusal.result = ap (λ (x : List (Vec Op Global)
    × List Op). part_refusal (world_of c.args.store.now) (items x.0) x.1 c.args.step) (λ i. (
      sym c.as_slice.ensures.value i,
      sym c.as_slice-2.ensures.value i,
    )) ∙ sym c.part_refusal.ensures in
    goes (state (world_of c.args.store.now) c.args.parties.now.items) _ c.args.step
    (refusal_is (world_of c.args.store.now) c.args.parties.now.items c.party_of-p.result c.args.step c.index.result.now
    c.party_of-p.ensures (omega arith) c.index.ensures ∙ same
    ∙ c.in-None.is) (went (world_of c.args.store.now) (world_of c.make_room.new.store) (world_of c.take_part.new.store)
    c.args.parties.now.items c.party_of-p.result c.args.step c.index_mut-todo.result.now c.reserve.new.self
    c.take_part.new.todo
    c.party_of-p.ensures (omega arith) c.index_mut-todo.ensures.value c.reserve.ensures.items c.make_room.ensures.same
    c.take_part.ensures)

pub take_part-requires-clause-fits : goal.take_part-requires-clause-fits
take_part-requires-clause-fits c = subst Fits (sym c.make_room.ensures.same) (is_good _ c.requires).fits
