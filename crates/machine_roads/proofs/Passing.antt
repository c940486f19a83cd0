-- What comes behind the poll or the drop of a future that was taken, whoever took it: what takes goes on, or more user code comes.
use Rattle.std.proofs.Common.{◌≡◌, ℕ, ◌≤◌, true, List, ◌∷◌, length, slice_get, Option, Some, None, sym, ap, subst, ◌∙◌}
use Rattle.executor_model.specs.declared.op.Op.{Op}
use Rattle.executor_model.specs.declared.op.Waker.{Waker}
use Rattle.executor_model.specs.World.{Done}
use Rattle.plain_scheduler.specs.State.{Choice, Plain, Running, Taker}
use Rattle.plain_scheduler.specs.Lists.{or}
use Rattle.plain_scheduler.specs.Takes as plain_takes
use Rattle.machine_roads.specs.View.{Output, wakes}
use Rattle.machine_roads.specs.Road.{Follows}
use Rattle.machine_roads.specs.Alone.{is_resting}
use Rattle.machine_roads.specs.Dropped.{Drops, answered}
use Rattle.machine_roads.specs.Stopped.{Finally, of_last, of_tick, of_try}
use Rattle.machine_roads.proofs.Moved.{Then}
use Rattle.machine_roads.proofs.RunsStay.{RunsStay}
use Rattle.machine_roads.proofs.Standing.{Answered, Stays, StaysSo}
use Rattle.machine_roads.proofs.Trying.{final_inside, finally_so}

-- a choice that tells so
abbrev pub telling : ℕ → Choice → Choice
telling n d = record d { tells = n }

module _ (p : ℕ) (taker : Taker Waker) (final : Op) (below : List Op) (q : Plain Output Waker) (n : ℕ) (end : Done)
    (new : Choice → Plain Output Waker) (behind : Choice → Option (Plain Output Waker)) where
  -- only what takes is left to do; so the plain scheduler stands before it goes on, which it does by any choice that tells alike
  pub record Passes : Type 0 where
    pub before : Plain Output Waker
    pub so : Then p end (final ∷ below) before
    pub fit : length before.lying ≤ n
    pub inside : before.inside ≡ q.inside
    pub stay : RunsStay q before
    pub is : (d : Choice) → new (telling n d) ≡ plain_takes.next wakes (telling n d) taker before
    pub at : (d : Choice) → behind (telling n d) ≡ Some before

  pub data GoesBy (So : Plain Output Waker → Type 0) : Type 0 where
    passed : Passes → GoesBy So
    stood : ((d : Choice) → So (new (telling n d))) → ((d : Choice) → RunsStay q (new (telling n d)))
        → ((d : Choice) → behind (telling n d) ≡ None) → GoesBy So

pub finally_stays : (taker : Taker Waker) (final : Op) (q r : Plain Output Waker) → RunsStay q r → Finally q taker final
    → Finally r taker final
finally_stays taker final q r stay of_try = of_try
finally_stays taker final q r stay (of_tick t a) = of_tick t a
finally_stays taker final q r stay (of_last x last) =
    of_last x (ap (λ (runs : List Running). or (slice_get runs x.run) (λ run. run.taken) 0) stay.runs ∙ last)

-- a try or a tick is answered then, and so is a run with its 200th
module _ (p : ℕ) (below : List Op) (under : is_resting below ≡ true) (end : Done) (rests : is_resting end.next ≡ true)
    (taker : Taker Waker) (final : Op) (q : Plain Output Waker) (it : Finally q taker final) (c : Choice)
    (new : Choice → Plain Output Waker) (behind : Choice → Option (Plain Output Waker)) where
  pub passes_end : Passes p taker final below q c.tells end new behind
      → (end.next ≡ below) × Follows end.world (new c) × ((new c).inside ≡ q.inside)
  passes_end so =
      let last = finally_stays taker final q so.before so.stay it in
      let e = finally_so p below under end rests taker final c so.so.world so.before last so.fit so.so.follows so.so.way in
      let is : new c ≡ plain_takes.next wakes c taker so.before = so.is c in (
        e.0,
        subst (Follows end.world) (sym is) e.1,
        ap (λ (q : Plain Output Waker). q.inside) is ∙ (final_inside taker final c so.before last ∙ so.inside),
      )

  pub stays_by : GoesBy p taker final below q c.tells end new behind (StaysSo taker final below q end)
      → StaysSo taker final below q end (new c)
  stays_by (stood so stay none) = so c
  stays_by (passed so) =
      let e = passes_end so in
      record {
        stays =
            subst (λ codes. Stays taker final below q.inside end.world end.next codes) (sym e.2)
            (subst (λ os. Stays taker final below q.inside end.world os q.inside) (sym e.0) Answered);
        follows = e.1;
      }

  pub drops_by : (f : ℕ) → GoesBy p taker final below q c.tells end new behind (Drops taker final below f q end)
      → Drops taker final below f q end (new c)
  drops_by f (stood so stay none) = so c
  drops_by f (passed so) = let e = passes_end so in answered e.0 e.2 e.1
