-- There are as many rooms as ticks and runs that live, and each that lies is one of them: so one that lives, and doesn't lie, has its
-- room.
use Rattle.std.proofs.Common.{◌≡◌, ℕ, suc, ◌+◌, ◌-◌, ◌<◌, ◌≤◌, ◌==◌, nat_lt, cond, not, Bool, true, false, List, [], ◌∷◌, ◌++◌, length}
use Rattle.std.proofs.Common.{find, Option, Some, None, is_some, refl, sym, ap, subst, ◌∙◌, arith}
use Rattle.std.proofs.lemmas.Bool.Decides.{nat_tests}
use Rattle.std.proofs.lemmas.List.Edits.{length-remove, length-swap}
use Rattle.std.specs.List.{swap}
use Rattle.solo.specs.declared.names.SoloWaker.{SoloWaker}
use Rattle.solo.specs.declared.own_queues.Own.{Own}
use Rattle.solo.specs.declared.owed.Lent.{Lent}
use Rattle.solo.specs.declared.solo.Solo.{Solo}
use Rattle.solo.specs.Cells.{choose}
use Rattle.solo.specs.OwnQueues as own
use Rattle.plain_scheduler.specs.State.{ARun, ATick, Lying, Plain, Who}
use Rattle.plain_scheduler.specs.Lists.{without}
use Rattle.plain_scheduler.specs.Moves.{is_who, lies}
use Rattle.solo_laws.specs.Numbered.{IsNumbered, numbers as numbers_of}
use Rattle.solo_laws.specs.Owner.{HasRoom}
use Rattle.solo_laws.specs.Road.{apart, is_in}
use Rattle.solo_laws.specs.Tabled.{Stands}
use Rattle.solo_laws.proofs.Following.Cells.{same_number}
use Rattle.solo_laws.proofs.Following.Crowding.{a_run_of, a_tick_of, both_kinds, both_long, each_once, is_among, lie_once, no_more, whos}
use Rattle.solo_laws.proofs.Following.Due.{and_true, clash, equal, later, not_false}
use Rattle.solo_laws.proofs.Following.GettingUp.{apart_first}
use Rattle.solo_laws.proofs.Following.Listed.{has_own, its_place}
use Rattle.solo_laws.proofs.Following.Listing.{listed_queue}
use Rattle.solo_laws.proofs.Following.Lists.{got_below, length_map}
use Rattle.solo_laws.proofs.Following.Numbers.{found_none, same_who, turn}
use Rattle.solo_laws.proofs.Following.OwnKept.{one_less}
use Rattle.solo_laws.proofs.Following.Owns.{closed_other, first_queue, numbers}

-- a run has its own queue where its number is one of theirs
pub own_numbered : (r : ℕ) (o : own.OwnQueuesValue) → is_in r (numbers o.queues) ≡ has_own r o
own_numbered r o = by o.queues
  where
    by : (qs : List Own) → is_in r (numbers qs) ≡ is_some (own.queue_of r qs)
    by [] = refl
    by (q ∷ qs) = one (r == q.number) refl (by qs) ∙ sym (ap is_some (first_queue r q qs))
      where
        one : (b : Bool) → (r == q.number) ≡ b → is_in r (numbers qs) ≡ is_some (own.queue_of r qs)
            → cond b true (is_in r (numbers qs)) ≡ is_some (cond (q.number == r) (Some q.queue) (own.queue_of r qs))
        one true same rest =
            sym (ap (λ b. is_some (cond b (Some q.queue) (own.queue_of r qs))) (equal q.number r (sym (same_number r q.number same))))
        one false other rest = rest ∙ sym (ap (λ b. is_some (cond b (Some q.queue) (own.queue_of r qs))) (turn r q.number other))

abbrev pub lives : List ℕ → own.OwnQueuesValue → Who → Bool
lives ts o (ATick t) = is_in t ts
lives ts o (ARun r) = is_in r (numbers o.queues)

-- they are among those that live
living_among : (ts : List ℕ) (o : own.OwnQueuesValue) (v : Who) → lives ts o v ≡ true
    → is_among v (both_kinds ts (numbers o.queues)) ≡ true
living_among ts o (ATick t) is = a_tick_of t ts (numbers o.queues) is
living_among ts o (ARun r) is = a_run_of r ts (numbers o.queues) is

long_living : (ts : List ℕ) (o : own.OwnQueuesValue) → length (both_kinds ts (numbers o.queues)) ≡ length ts + length o.queues
long_living ts o = both_long ts (numbers o.queues) ∙ ap (λ n. length ts + n) (length_map (λ (q : Own). q.number) o.queues)

-- whoever goes gives its room back
gone_rooms : (count rooms left : ℕ) → rooms ≡ suc left → count ≤ left → one_less count rooms ≡ left
gone_rooms count rooms left is few =
    ap (λ b. choose b (rooms - 1) rooms) (below (omega (arith, is, few))) ∙ omega (arith, is)
  where
    below : count < rooms → nat_lt count rooms ≡ true
    below less = grind (arith, nat_tests)

module _ {F T X : Type 0} where
  pub record Housed (ts : List ℕ) (s : Solo F T X) (p : Plain T (SoloWaker X)) : Type 0 where
    pub rooms : s.sleepers.rooms ≡ length ts + length s.runs.queues
    pub living : (v : Who) → is_among v (whos p.lying) ≡ true → lives ts s.runs v ≡ true

  module _ (its : ℕ → Lent) (number : Who → ℕ) (ts : List ℕ) (s : Solo F T X) (p : Plain T (SoloWaker X)) (both : Stands its s p)
      (n : IsNumbered number s.sleepers p.lying) where
    once : each_once (whos p.lying) ≡ true
    once = lie_once number p.lying (apart_first (numbers_of number p.lying) s.sleepers.free n.once)

    -- no more sleep than live
    pub within : (o : own.OwnQueuesValue) → ((v : Who) → is_among v (whos p.lying) ≡ true → lives ts o v ≡ true)
        → s.sleepers.count ≤ length ts + length o.queues
    within o living =
        let count = both.0.asleep.count in
        let few =
        no_more (whos p.lying) (both_kinds ts (numbers o.queues)) once (λ v is. living_among ts o v (living v is)) in
        let long = length_map (λ (l : Lying (SoloWaker X)). l.who) p.lying in
        let all = long_living ts o in
        omega (arith, count, few, long, all)

    pub has_room : Housed ts s p → (who : Who) → lives ts s.runs who ≡ true → HasRoom who s p
    has_room h who alive none =
        let o = s.runs in
        let alone = found_none who p.lying none in
        let few =
        no_more (who ∷ whos p.lying) (both_kinds ts (numbers o.queues))
        (and_true (not (is_among who (whos p.lying))) (each_once (whos p.lying)) (not_false (is_among who (whos p.lying)) alone) once)
        (λ v is. living_among ts o v (either v (is_who v who) refl is)) in
        let count = both.0.asleep.count in
        let long = length_map (λ (l : Lying (SoloWaker X)). l.who) p.lying in
        let all = long_living ts o in
        let rooms = h.rooms in
        is_below s.sleepers.count s.sleepers.rooms (omega (arith, few, count, long, all, rooms))
      where
        either : (v : Who) (b : Bool) → is_who v who ≡ b → cond b true (is_among v (whos p.lying)) ≡ true → lives ts s.runs v ≡ true
        either v true same is = ap (lives ts s.runs) (same_who v who same) ∙ alive
        either v false other is = h.living v is

        is_below : (a b : ℕ) → a < b → nat_lt a b ≡ true
        is_below a b is = grind (arith, nat_tests)

  -- the own queues have the same numbers, and there are as many rooms
  pub still_housed : (ts : List ℕ) (s z : Solo F T X) (p q : Plain T (SoloWaker X)) → numbers z.runs.queues ≡ numbers s.runs.queues
      → z.sleepers.rooms ≡ s.sleepers.rooms → ((v : Who) → is_among v (whos q.lying) ≡ true → lives ts s.runs v ≡ true)
      → Housed ts s p → Housed ts z q
  still_housed ts s z p q same as_many living h =
      let long : length z.runs.queues ≡ length s.runs.queues =
      sym (length_map (λ (q : Own). q.number) z.runs.queues)
      ∙ (ap (λ (ns : List ℕ). length ns) same ∙ length_map (λ (q : Own). q.number) s.runs.queues) in
      record {
        rooms = as_many ∙ (h.rooms ∙ ap (λ n. length ts + n) (sym long));
        living = λ v is. lives_still v (living v is);
      }
    where
      lives_still : (v : Who) → lives ts s.runs v ≡ true → lives ts z.runs v ≡ true
      lives_still (ATick t) is = is
      lives_still (ARun r) is = ap (is_in r) same ∙ is

  -- one more room, for a tick
  pub tick_housed : (t : ℕ) (ts : List ℕ) (s z : Solo F T X) (p q : Plain T (SoloWaker X)) → z.runs ≡ s.runs
      → z.sleepers.rooms ≡ s.sleepers.rooms + 1 → whos q.lying ≡ whos p.lying → Housed ts s p → Housed (t ∷ ts) z q
  tick_housed t ts s z p q same more lie h =
      let rooms = h.rooms in
      let long = ap (λ (o : own.OwnQueuesValue). length o.queues) same in
      record {
        rooms = omega (arith, more, rooms, long);
        living = λ v is. by v (h.living v (sym (ap (is_among v) lie) ∙ is));
      }
    where
      by : (v : Who) → lives ts s.runs v ≡ true → lives (t ∷ ts) z.runs v ≡ true
      by (ATick u) is = later (u == t) (is_in u ts) is
      by (ARun r) is = ap (λ (o : own.OwnQueuesValue). is_in r (numbers o.queues)) same ∙ is

  -- or for a run
  pub run_housed : (ts : List ℕ) (s z : Solo F T X) (p q : Plain T (SoloWaker X)) → z.runs ≡ own.opened s.runs
      → z.sleepers.rooms ≡ s.sleepers.rooms + 1 → whos q.lying ≡ whos p.lying → Housed ts s p → Housed ts z q
  run_housed ts s z p q same more lie h =
      let rooms = h.rooms in
      let qs = s.runs.queues in
      let long : length z.runs.queues ≡ suc (length qs) = ap (λ (o : own.OwnQueuesValue). length o.queues) same ∙ longer qs in
      record {
        rooms = omega (arith, more, rooms, long);
        living = λ v is. by v (h.living v (sym (ap (is_among v) lie) ∙ is));
      }
    where
      new : Own
      new = record { number = s.runs.made; queue = [] }

      longer : (qs : List Own) → length (qs ++ new ∷ []) ≡ suc (length qs)
      longer [] = refl
      longer (q ∷ qs) = ap suc (longer qs)

      still : (r : ℕ) (qs : List Own) → is_in r (numbers qs) ≡ true → is_in r (numbers (qs ++ new ∷ [])) ≡ true
      still r [] is = absurd cc
      still r (q ∷ qs) is = each (r == q.number) is (still r qs)
        where
          each : (b : Bool) → cond b true (is_in r (numbers qs)) ≡ true
              → (is_in r (numbers qs) ≡ true → is_in r (numbers (qs ++ new ∷ [])) ≡ true)
              → cond b true (is_in r (numbers (qs ++ new ∷ []))) ≡ true
          each true is rest = refl
          each false is rest = rest is

      by : (v : Who) → lives ts s.runs v ≡ true → lives ts z.runs v ≡ true
      by (ATick u) is = is
      by (ARun r) is = ap (λ (o : own.OwnQueuesValue). is_in r (numbers o.queues)) same ∙ still r s.runs.queues is

  -- others look at the own queue of a run that is polled
  pub begun_housed : (r : ℕ) (ts : List ℕ) (s z : Solo F T X) (p q : Plain T (SoloWaker X))
      → apart (numbers s.runs.queues) ≡ true → z.runs ≡ own.listed r s.runs
      → z.sleepers.rooms ≡ s.sleepers.rooms → whos q.lying ≡ whos p.lying → Housed ts s p → Housed ts z q
  begun_housed r ts s z p q apart_so same as_many lie h =
      let rooms = h.rooms in
      let long : length z.runs.queues ≡ length s.runs.queues =
      ap (λ (o : own.OwnQueuesValue). length o.queues) same ∙ as_long (own.place_of r s.runs.queues) in
      record {
        rooms = omega (arith, as_many, rooms, long);
        living = λ v is. by v (h.living v (sym (ap (is_among v) lie) ∙ is));
      }
    where
      as_long : (at : Option ℕ) → length (own.listed_at at s.runs).queues ≡ length s.runs.queues
      as_long None = refl
      as_long (Some at) = one (nat_lt at s.runs.listed)
        where
          one : (b : Bool) → length (choose b s.runs (record s.runs {
            queues = swap s.runs.queues s.runs.listed at;
            listed = s.runs.listed + 1;
          })).queues ≡ length s.runs.queues
          one true = refl
          one false = length-swap s.runs.queues s.runs.listed at

      by : (v : Who) → lives ts s.runs v ≡ true → lives ts z.runs v ≡ true
      by (ATick u) is = is
      by (ARun k) is =
          own_numbered k z.runs
          ∙ (ap (λ (o : own.OwnQueuesValue). has_own k o) same
          ∙ (ap is_some (listed_queue r s.runs apart_so k) ∙ (sym (own_numbered k s.runs) ∙ is)))

  module _ (its : ℕ → Lent) (number : Who → ℕ) (ts : List ℕ) (s z : Solo F T X) (p q : Plain T (SoloWaker X)) (both : Stands its z q)
      (n : IsNumbered number z.sleepers q.lying) (h : Housed ts s p)
      (living : (v : Who) → is_among v (whos q.lying) ≡ true → lives ts s.runs v ≡ true)
      (less : z.sleepers.rooms ≡ one_less z.sleepers.count s.sleepers.rooms) where
    pub tick_gone : (t : ℕ) → is_in t ts ≡ true → find (lies (ATick t)) q.lying ≡ None → z.runs ≡ s.runs
        → Housed (without (λ u. t == u) ts) z q
    tick_gone t has gone same =
        let rooms = h.rooms in
        let long = ap (λ (o : own.OwnQueuesValue). length o.queues) same in
        let fewer = shorter ts has in
        let alive = λ (v : Who) (is : is_among v (whos q.lying) ≡ true). by v is (living v is) in
        record {
          rooms =
              less ∙ gone_rooms z.sleepers.count s.sleepers.rooms (length (without (λ u. t == u) ts) + length z.runs.queues)
              (omega (arith, rooms, long, fewer)) (within its number (without (λ u. t == u) ts) z q both n z.runs alive);
          living = alive;
        }
      where
        shorter : (ts : List ℕ) → is_in t ts ≡ true → suc (length (without (λ u. t == u) ts)) ≡ length ts
        shorter [] is = absurd cc
        shorter (u ∷ us) is = one (t == u) is (shorter us)
          where
            one : (b : Bool) → cond b true (is_in t us) ≡ true
                → (is_in t us ≡ true → suc (length (without (λ u. t == u) us)) ≡ length us)
                → suc (length (cond b us (u ∷ without (λ u. t == u) us))) ≡ suc (length us)
            one true is rest = refl
            one false is rest = ap suc (rest is)

        stays : (v : ℕ) → (v == t) ≡ false → (ts : List ℕ) → is_in v ts ≡ true → is_in v (without (λ u. t == u) ts) ≡ true
        stays v other [] is = absurd cc
        stays v other (u ∷ us) is = one (t == u) refl (v == u) refl is (stays v other us)
          where
            one : (b : Bool) → (t == u) ≡ b → (k : Bool) → (v == u) ≡ k → cond k true (is_in v us) ≡ true
                → (is_in v us ≡ true → is_in v (without (λ u. t == u) us) ≡ true)
                → is_in v (cond b us (u ∷ without (λ u. t == u) us)) ≡ true
            one true same true it is rest =
                absurd (clash other (equal v t (same_number v u it ∙ sym (same_number t u same))))
            one true same false away is rest = is
            one false off true it is rest = ap (λ b. cond b true (is_in v (without (λ u. t == u) us))) it
            one false off false away is rest =
                ap (λ b. cond b true (is_in v (without (λ u. t == u) us))) away ∙ rest is

        by : (v : Who) → is_among v (whos q.lying) ≡ true → lives ts s.runs v ≡ true → lives (without (λ u. t == u) ts) z.runs v ≡ true
        by (ATick u) lying is = stays u (unlike (u == t) refl) ts is
          where
            unlike : (b : Bool) → (u == t) ≡ b → b ≡ false
            unlike true one =
                absurd (clash (found_none (ATick t) q.lying gone)
                (subst (λ n. is_among (ATick n) (whos q.lying) ≡ true) (same_number u t one) lying))
            unlike false other = refl
        by (ARun r) lying is = ap (λ (o : own.OwnQueuesValue). is_in r (numbers o.queues)) same ∙ is

    pub run_gone : (r : ℕ) → is_in r (numbers s.runs.queues) ≡ true → find (lies (ARun r)) q.lying ≡ None
        → z.runs ≡ own.closed r s.runs → Housed ts z q
    run_gone r has gone same =
        let rooms = h.rooms in
        let long = ap (λ (o : own.OwnQueuesValue). length o.queues) same in
        let fewer = shorter (own.place_of r s.runs.queues) refl (sym (own_numbered r s.runs) ∙ has) in
        let alive = λ (v : Who) (is : is_among v (whos q.lying) ≡ true). by v is (living v is) in
        record {
          rooms =
              less ∙ gone_rooms z.sleepers.count s.sleepers.rooms (length ts + length z.runs.queues)
              (omega (arith, rooms, long, fewer)) (within its number ts z q both n z.runs alive);
          living = alive;
        }
      where
        shorter : (at : Option ℕ) → own.place_of r s.runs.queues ≡ at → is_some (own.queue_at at s.runs.queues) ≡ true
            → length (own.closed_at at s.runs).queues + 1 ≡ length s.runs.queues
        shorter None is some = absurd cc
        shorter (Some at) is some =
            let it = its_place r at s.runs.queues is in
            length-remove s.runs.queues at (got_below s.runs.queues at it.0 it.1)

        by : (v : Who) → is_among v (whos q.lying) ≡ true → lives ts s.runs v ≡ true → lives ts z.runs v ≡ true
        by (ATick u) lying is = is
        by (ARun k) lying is =
            own_numbered k z.runs
            ∙ (ap (λ (o : own.OwnQueuesValue). has_own k o) same
            ∙ (ap is_some (closed_other r k s.runs (unlike (k == r) refl)) ∙ (sym (own_numbered k s.runs) ∙ is)))
          where
            unlike : (b : Bool) → (k == r) ≡ b → b ≡ false
            unlike true one =
                absurd (clash (found_none (ARun r) q.lying gone)
                (subst (λ n. is_among (ARun n) (whos q.lying) ≡ true) (same_number k r one) lying))
            unlike false other = refl
