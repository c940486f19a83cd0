-- What a call changes doesn't depend on what the schedule function was told before, and the call adds what its owner is told.
use Rattle.std.proofs.Common.{◌≡◌, Bool, List, [], ◌∷◌, ◌++◌, refl, sym, ap, ◌∙◌, arith, append_assoc, append-nil}
use Rattle.std.proofs.lemmas.Bool.Decides.{nat_tests}
use Rattle.task_moves.specs.declared.local_task.answers.Back.TheVariants.{Ready, Pending}
use Rattle.task_moves.specs.AbstractTask as abstract
use Rattle.task_moves.specs.AbstractTask.{AbstractTask}
use Rattle.task_moves.specs.LocalTask.{told, info_of}
use Rattle.task_moves.specs.Calls.{Call, Owner, heard, after, after_all, owner_after, owner_after_all, IsAbstractTask}
use Rattle.task_moves.specs.Calls.Call.{Start, Settle, Retract, Finish, Wake, Hold, Release, Cancel, Detach, Poll}

-- a task that was told of before, and what it was told
abbrev with_infos : {T A : Type 0} → List Bool → AbstractTask T A → AbstractTask T A
with_infos before t = record t { infos = before ++ t.infos }

-- what the owner of a task has of it
abbrev owner_of : {T A : Type 0} → AbstractTask T A → Owner T A
owner_of t = record { task = told t; infos = t.infos }

module _ {F T A : Type 0} where
  follows : (call : Call F T A) (before : List Bool) (t : AbstractTask T A) → t.infos ≡ [] → after call (with_infos before t) ≡ with_infos before (after call t)
  follows Start before t e = grind (arith, nat_tests)
  follows (Settle (Ready v)) before t e = grind (arith, nat_tests)
  follows (Settle (Pending f)) before t e = grind (arith, nat_tests, append_assoc)
  follows Retract before t e = grind (arith, nat_tests)
  follows Finish before t e = grind (arith, nat_tests)
  follows Wake before t e = grind (arith, nat_tests, append_assoc)
  follows Hold before t e = grind (arith, nat_tests)
  follows Release before t e = grind (arith, nat_tests, append_assoc)
  follows Cancel before t e = grind (arith, nat_tests, append_assoc)
  follows Detach before t e = grind (arith, nat_tests, append_assoc)
  follows (Poll w) before t e = grind (arith, nat_tests)

  heard_is : (call : Call F T A) (t : AbstractTask T A) → t.infos ≡ [] → heard (info_of t (after call t)) ≡ (after call t).infos
  heard_is Start t e = grind (arith, nat_tests)
  heard_is (Settle (Ready v)) t e = grind (arith, nat_tests)
  heard_is (Settle (Pending f)) t e = grind (arith, nat_tests)
  heard_is Retract t e = grind (arith, nat_tests)
  heard_is Finish t e = grind (arith, nat_tests)
  heard_is Wake t e = grind (arith, nat_tests)
  heard_is Hold t e = grind (arith, nat_tests)
  heard_is Release t e = grind (arith, nat_tests)
  heard_is Cancel t e = grind (arith, nat_tests)
  heard_is Detach t e = grind (arith, nat_tests)
  heard_is (Poll w) t e = grind (arith, nat_tests)

  all : (calls : List (Call F T A)) (before : List Bool) (t : AbstractTask T A) → t.infos ≡ [] →
      owner_after_all calls (record { task = t; infos = before }) ≡ owner_of (after_all calls (with_infos before t))
  all [] before t e = grind (arith, append-nil)
  all (call ∷ calls) before t e =
      let next : AbstractTask T A = after call t in
      let heard_too : owner_after call (record { task = t; infos = before }) ≡ record { task = told next; infos = before ++ next.infos }
      = λ i. record { task = told next; infos = before ++ heard_is call t e i } in
      let as_before : with_infos (before ++ next.infos) (told next) ≡ with_infos before next
      = λ i. record next { infos = append-nil (before ++ next.infos) i } in
      ap (owner_after_all calls) heard_too
      ∙ all calls (before ++ next.infos) (told next) refl
      ∙ ap (λ (u : AbstractTask T A). owner_of (after_all calls u)) (as_before ∙ sym (follows call before t e))

  pub is_abstract_task : IsAbstractTask F T A
  is_abstract_task =
      record {
        task = λ calls. ap (λ (o : Owner T A). o.task) (all calls [] (abstract.spawned 0) refl);
        infos = λ calls. ap (λ (o : Owner T A). o.infos) (all calls [] (abstract.spawned 0) refl);
      }
