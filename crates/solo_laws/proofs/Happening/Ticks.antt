-- Calls of ticks happen.
use Rattle.std.proofs.Common.{◌≡◌, ℕ, Bool, true, false, List, length, Option, Some, None, refl, ap, subst}
use Rattle.std.proofs.Common.{arith}
use Rattle.solo.specs.declared.names.Task.{Task}
use Rattle.solo.specs.declared.names.SoloWaker.{SoloWaker}
use Rattle.solo.specs.declared.names.SoloWaker.TheVariants.{Task as OfTask, Outside}
use Rattle.solo.specs.declared.owed.Lent.{Lent}
use Rattle.solo.specs.declared.solo.Solo.{Solo}
use Rattle.solo.specs.Solo as solo
use Rattle.solo.specs.Ticks as ticks
use Rattle.plain_scheduler.specs.State.{ATick, AtOnce, Choice, Event, Granted, Later, Plain, Refusal}
use Rattle.plain_scheduler.specs.Calls as plain
use Rattle.plain_scheduler.specs.Calls.{Call, is_granted}
use Rattle.solo_laws.specs.Courses.{Acts, makes_no_tick, makes_tick, tick_leaves, tick_lies_refused, tick_refused, tick_rests, tick_takes}
use Rattle.solo_laws.specs.Making.{ActsFrom, TakesRoom, NamesTick, Happens, IsKnown, acted_as, may_copy, rest_refusal}
use Rattle.solo_laws.specs.Numbered.{ticker_of}
use Rattle.solo_laws.specs.Owner.{Owner, has_tick, with_tick}
use Rattle.solo_laws.specs.Road.{HasLife, IsNamed}
use Rattle.solo_laws.specs.Tabled.{Stands, named}
use Rattle.solo_laws.specs.Ticking.{looks_again, slept_answer, slept_once}
use Rattle.solo_laws.proofs.Happening.Choosing.{choosing, fewer, one_more, wish}

-- who isn't refused has a copy, and another where it looks again; who is refused later has one, and looks again
pub granted_so : (a b d : Bool) (r : Refusal) → rest_refusal a b d r ≡ Granted → (a ≡ true) × (b ≡ true → d ≡ true)
granted_so false b d r is = absurd cc
granted_so true b d AtOnce is = absurd cc
granted_so true false d Granted is = (refl, λ again. absurd cc)
granted_so true false d Later is = (refl, λ again. absurd cc)
granted_so true true false Granted is = absurd cc
granted_so true true false Later is = absurd cc
granted_so true true true r is = (refl, λ again. refl)

pub later_so : (a b d : Bool) (r : Refusal) → rest_refusal a b d r ≡ Later → (a ≡ true) × (b ≡ true)
later_so false b d r is = absurd cc
later_so true b d AtOnce is = absurd cc
later_so true false d Granted is = absurd cc
later_so true false d Later is = absurd cc
later_so true true d r is = (refl, refl)

module _ {F T X : Type 0} (its : ℕ → Lent) (owner : Owner) (s z : Solo F T X) (p : Plain T (SoloWaker X)) where
  abbrev task_in : Task → SoloWaker X → Task
  task_in t (OfTask u) = u
  task_in t (Outside w) = t

  pub names : (w : SoloWaker X) → IsKnown its owner s p w → (u : Task) → w ≡ OfTask u → IsNamed (named its) (length p.futures) u
  names (Outside v) known u is = absurd cc
  names (OfTask t) known u is = subst (IsNamed (named its) (length p.futures)) (ap (task_in t) is) known

  -- what is known of a waker is so of the task whose it is
  pub can_copy : (again : Bool) (w : SoloWaker X) → IsKnown its owner s p w → may_copy w s ≡ true
      → (again ≡ true → may_copy w z ≡ true) → (u : Task) → w ≡ OfTask u
      → IsNamed (named its) (length p.futures) u × (solo.may_hold u s ≡ true) × (again ≡ true → solo.may_hold u z ≡ true)
  can_copy again (Outside v) known one two u is = absurd cc
  can_copy again (OfTask t) known one two u is =
      subst
      (λ u. IsNamed (named its) (length p.futures) u × (solo.may_hold u s ≡ true) × (again ≡ true → solo.may_hold u z ≡ true))
      (ap (task_in t) is)
      (known, one, two)

module _ {F T X : Type 0} (its : ℕ → Lent) (future : F) (owner : Owner) (s : Solo F T X) (p : Plain T (SoloWaker X))
    (both : Stands its s p) (refusal : Refusal) (first second name : ℕ) where
  abbrev wished : Call T (SoloWaker X) → Type 0
  wished call = Happens its owner s p (wish its future owner s p both refusal first second name call)

  abbrev given_so : Refusal → Choice
  given_so given = choosing its future owner s p both refusal first second name given

  pub is_acted : (given : Refusal) (call : Call T (SoloWaker X)) (shown : List (Event T (SoloWaker X))) (now : Owner) (z : Solo F T X)
      (how : Acts its owner (given_so given) s p call shown now z)
      → given ≡ acted_as its (given_so given) s p owner call shown now z refusal how
      → ActsFrom its (given_so given) s p first second owner call shown now z how
      → NamesTick its (given_so given) s p name owner call shown now z how
      → TakesRoom its (given_so given) s p owner call shown now z how → wished call
  is_acted given call shown now z how heeds starts names_it room = record {
    choice = given_so given;
    shown = shown;
    now = now;
    after = z;
    acts = how;
    tells = one_more its future owner s p both refusal first second name (length p.lying);
    refused = heeds;
    starts = starts;
    named_so = names_it;
    room = room;
  }

  pub new_tick_happens : has_tick name owner ≡ false → wished plain.NewTick
  new_tick_happens new = by refusal refl
    where
      no_tick : is_granted refusal ≡ false → wished plain.NewTick
      no_tick refused = is_acted refusal plain.NewTick _ owner s (makes_no_tick refused) refl tt tt tt

      by : (r : Refusal) → refusal ≡ r → wished plain.NewTick
      by Granted is = is_acted refusal plain.NewTick _ (with_tick name owner) (ticks.roomy s) (makes_tick name new is) refl tt refl tt
      by AtOnce is = no_tick (ap (λ r. is_granted r) is)
      by Later is = no_tick (ap (λ r. is_granted r) is)

  pub drop_tick_happens : (t : ℕ) → has_tick t owner ≡ true → HasLife 5 s.lines → wished (plain.DropTick t)
  drop_tick_happens t lives life =
      is_acted refusal (plain.DropTick t) _ _ _ (tick_leaves t lives life) refl tt tt tt

  pub poll_tick_happens : (t : ℕ) (w : SoloWaker X) → has_tick t owner ≡ true → IsKnown its owner s p w → HasLife 6 s.lines
      → wished (plain.PollTick t w)
  poll_tick_happens t w lives known life = by (solo.sought s) refl
    where
      one : Bool
      one = may_copy w s

      again : Bool
      again = looks_again (slept_answer (ticker_of owner.number (ATick t) p.lying) w s).look

      two : Bool
      two = may_copy w (slept_once (ticker_of owner.number (ATick t) p.lying) w s)

      none_found : solo.sought s ≡ None → (r : Refusal) → rest_refusal one again two refusal ≡ r → wished (plain.PollTick t w)
      none_found none Granted is =
          let ticker = ticker_of owner.number (ATick t) p.lying in
          let can = granted_so one again two refusal is in
          is_acted (rest_refusal one again two refusal) (plain.PollTick t w) _ _ _
          (tick_rests t w lives none refl is
          (λ u of. (let it = can_copy its owner s (slept_once ticker w s) p again w known can.0 can.1 u of in (it.0, (it.1, it.2))))
          (omega arith) (fewer 2 6 s.lines (omega arith) life)) refl tt tt tt
      none_found none AtOnce is =
          is_acted (rest_refusal one again two refusal) (plain.PollTick t w) _ owner _ (tick_refused t w lives none refl is) refl tt tt tt
      none_found none Later is =
          let ticker = ticker_of owner.number (ATick t) p.lying in
          let can = later_so one again two refusal is in
          is_acted (rest_refusal one again two refusal) (plain.PollTick t w) _ _ _
          (tick_lies_refused t w lives none refl is
          (λ u of. (let it = can_copy its owner s s p false w known can.0 (λ no. absurd cc) u of in (it.0, it.1)))
          can.1 (omega arith) (fewer 2 6 s.lines (omega arith) life)) refl tt tt tt

      by : (o : Option Task) → solo.sought s ≡ o → wished (plain.PollTick t w)
      by (Some task) found =
          is_acted refusal (plain.PollTick t w) _ owner _
          (tick_takes t w task lives found refl (fewer 5 6 s.lines (omega arith) life)) refl tt tt tt
      by None none = none_found none (rest_refusal one again two refusal) refl
