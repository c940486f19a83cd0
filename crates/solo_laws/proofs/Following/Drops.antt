-- The end of a drop is that of the plain scheduler, and shows what its owner is owed.
use Rattle.std.proofs.Common.{◌≡◌, ℕ, ◌≤◌, ◌==◌, cond, not, ◌&&◌, Bool, true, false, List, ◌∷◌, length, Option, Some, None}
use Rattle.std.proofs.Common.{refl, sym, ap, subst, ◌∙◌}
use Rattle.task_moves.specs.LocalTask.{is_home}
use Rattle.solo.specs.declared.names.Task.{Task}
use Rattle.solo.specs.declared.names.SoloWaker.{SoloWaker}
use Rattle.solo.specs.declared.owed.Lent.{Lent}
use Rattle.solo.specs.declared.solo.Solo.{Solo}
use Rattle.solo.specs.Cells.{Kept, asked}
use Rattle.solo.specs.Cells as cells
use Rattle.solo.specs.Solo as solo
use Rattle.plain_scheduler.specs.State.{Choice, Plain, Code, Drop as DropCode, Taker, Closed, Gave}
use Rattle.plain_scheduler.specs.Takes as takes
use Rattle.plain_scheduler.specs.Calls as calls
use Rattle.solo_laws.specs.Alike.{takes_one}
use Rattle.solo_laws.specs.Dropping.{GivenDropsAlike, ClosedDropsAlike, after_drop}
use Rattle.solo_laws.specs.Shown.{DroppedAs}
use Rattle.solo_laws.specs.Shown.{ClosedDropsShown, GivenDropsShown}
use Rattle.solo_laws.specs.Road.{HasLife, is_in, apart, lents, drops, awaiters, wakes}
use Rattle.solo_laws.specs.Tabled.{Stands, named}
use Rattle.solo_laws.proofs.Following.Due.{clash, both_true, not_true, equal, later}
use Rattle.solo_laws.proofs.Following.Inside.{lent_dropping}
use Rattle.solo_laws.proofs.Following.Cells.{found, of_found, asks_found, same_number}
use Rattle.solo_laws.proofs.Following.Dropping as dropping
use Rattle.solo_laws.proofs.Following.Ended.{closed_so, closed_shows, given_so, given_shows, hand_lent, hand_dropping}
use Rattle.solo_laws.proofs.Following.Finishing.{lent_away, dropping_away, dropping_not_lent}

module _ {F T X : Type 0} (its : ℕ → Lent) (s : Solo F T X) (p : Plain T (SoloWaker X)) (both : Stands its s p) where
  abbrev name : ℕ → Task
  name = named its

  -- what is in hand isn't at home
  hand_away : (q : Kept T X → Bool) (f : ℕ) → asked q false (name f) s.cells ≡ true
      → ((v : Kept T X) → q v ≡ true → is_home v.future ≡ false)
      → (v : Kept T X) → found (name f) s.cells ≡ Some v → is_home v.future ≡ true → ⊥
  hand_away q f is away v here home =
      clash (away v (sym (ap (of_found q false) here) ∙ (sym (asks_found q false (name f) s.cells) ∙ is))) home

  first_in : (f : ℕ) (ns : List ℕ) → cond (f == f) true (is_in f ns) ≡ true
  first_in f ns = ap (λ b. cond b true (is_in f ns)) (equal f f refl)

  -- of numbers that are apart the others aren't the first
  others : (f : ℕ) (ns : List ℕ) → (not (is_in f ns) && apart ns) ≡ true → (j : ℕ) → is_in j ns ≡ true → (f == j) ≡ false
  others f ns once j has = by (f == j) refl
    where
      by : (b : Bool) → (f == j) ≡ b → b ≡ false
      by false same = refl
      by true same =
          absurd (clash (not_true (is_in f ns) (both_true (not (is_in f ns)) (apart ns) once).0)
          (subst (λ n. is_in n ns ≡ true) (sym (same_number f j same)) has))

  apart_ones : (q : Kept T X → Bool) (f : ℕ) → asked q false (name f) s.cells ≡ true
      → (k : Kept T X → Bool) → ((v : Kept T X) → q v ≡ true → k v ≡ false) → (j : ℕ)
      → asked k false (name j) s.cells ≡ true → (f == j) ≡ false
  apart_ones q f is k never j has = by (f == j) refl
    where
      none : (o : Option (Kept T X)) → of_found q false o ≡ true → of_found k false o ≡ true → ⊥
      none None is has = absurd cc
      none (Some v) is has = clash (never v is) has

      by : (b : Bool) → (f == j) ≡ b → b ≡ false
      by false same = refl
      by true same =
          absurd (none (found (name f) s.cells) (sym (asks_found q false (name f) s.cells) ∙ is)
          (sym (asks_found k false (name f) s.cells)
          ∙ subst (λ n. asked k false (name n) s.cells ≡ true) (sym (same_number f j same)) has))

  closed_drops : (c : Choice) (f : ℕ) (taker : Taker (SoloWaker X)) → takes_one taker ≡ true → (rest : List (Code T (SoloWaker X)))
      → p.inside ≡ DropCode f Closed taker ∷ rest → length p.lying ≤ c.tells → HasLife 8 s.lines
      → Stands its (after_drop (solo.finish_answer (its f) s) (solo.finished (its f) s)) (calls.does wakes c calls.Call.Ends p)
      × DroppedAs its s p c taker (solo.finish_answer (its f) s) (solo.finished (its f) s)
  closed_drops c f taker one rest stands_in many life =
      let mine : is_in f (drops p.inside) ≡ true = ap (λ cs. is_in f (drops cs)) stands_in ∙ first_in f (drops rest) in
      let has = both.0.inside.dropping f mine in
      let once : (not (is_in f (drops rest)) && apart (drops rest)) ≡ true =
      sym (ap (λ cs. apart (drops cs)) stands_in) ∙ both.0.inside.dropping_once in
      let away = hand_away cells.is_dropping f has.1 dropping_away in
      let lent : (j : ℕ) → is_in j (lents rest) ≡ true → (is_in j (lents p.inside) ≡ true) × ((f == j) ≡ false) =
      λ j is.
      let it : is_in j (lents p.inside) ≡ true = ap (λ cs. is_in j (lents cs)) stands_in ∙ is in
      (it, apart_ones cells.is_dropping f has.1 cells.is_lent dropping_not_lent j (both.0.inside.lent j it).1) in
      let drop : (j : ℕ) → is_in j (drops rest) ≡ true → (is_in j (drops p.inside) ≡ true) × ((f == j) ≡ false) =
      λ j is.
      (ap (λ cs. is_in j (drops cs)) stands_in ∙ later (j == f) (is_in j (drops rest)) is, others f (drops rest) once j is) in
      let lent_once : apart (lents rest) ≡ true = sym (ap (λ cs. apart (lents cs)) stands_in) ∙ both.0.inside.lent_once in
      let dropping_once : apart (drops rest) ≡ true = (both_true (not (is_in f (drops rest))) (apart (drops rest)) once).1 in
      let callers : awaiters rest ≡ awaiters p.inside = sym (ap (λ cs. awaiters cs) stands_in) in
      let hand =
      hand_dropping its s p both.0 both.1 c f (both.1.dropping f mine) has.0 away many life rest lent drop lent_once dropping_once
      callers taker one mine in
      let does : calls.does wakes c calls.Call.Ends p ≡ takes.dropped wakes c f Closed taker (record p { inside = rest }) =
      ap (λ cs. calls.innermost wakes c cs (calls.ends wakes c) p) stands_in in (
        subst (Stands its (after_drop (solo.finish_answer (its f) s) (solo.finished (its f) s))) (sym does)
            (closed_so its s p both.0 both.1 c f (both.1.dropping f mine) has.0 away many life rest lent drop lent_once dropping_once
            callers taker one hand),
        record {
          seen =
              ap (λ (q : Plain T (SoloWaker X)). q.events) does
              ∙ closed_shows its s p both.0 both.1 c f (both.1.dropping f mine) has.0 away many life rest lent drop lent_once
              dropping_once callers taker one hand;
          future = dropping.gone_future its s p both.0 both.1 c f (both.1.dropping f mine) has.0 away;
        },
      )

  pub closed_drops_alike : ClosedDropsAlike its s p
  closed_drops_alike c f taker one rest stands_in many life = (closed_drops c f taker one rest stands_in many life).0

  pub closed_drops_shown : ClosedDropsShown its s p
  closed_drops_shown c f taker one rest stands_in many life = (closed_drops c f taker one rest stands_in many life).1

  given_drops : (c : Choice) (f : ℕ) (v : T) (taker : Taker (SoloWaker X)) → takes_one taker ≡ true
      → (rest : List (Code T (SoloWaker X))) → p.inside ≡ DropCode f (Gave v) taker ∷ rest → length p.lying ≤ c.tells → HasLife 8 s.lines
      → Stands its (after_drop (solo.settle_ready_answer (its f) v s) (solo.settled_ready (its f) v s))
      (calls.does wakes c calls.Call.Ends p)
      × DroppedAs its s p c taker (solo.settle_ready_answer (its f) v s) (solo.settled_ready (its f) v s)
  given_drops c f v taker one rest stands_in many life =
      let mine : is_in f (lents p.inside) ≡ true = ap (λ cs. is_in f (lents cs)) stands_in ∙ first_in f (lents rest) in
      let has = both.0.inside.lent f mine in
      let once : (not (is_in f (lents rest)) && apart (lents rest)) ≡ true =
      sym (ap (λ cs. apart (lents cs)) stands_in) ∙ both.0.inside.lent_once in
      let away = hand_away cells.is_lent f has.1 lent_away in
      let lent : (j : ℕ) → is_in j (lents rest) ≡ true → (is_in j (lents p.inside) ≡ true) × ((f == j) ≡ false) =
      λ j is.
      (ap (λ cs. is_in j (lents cs)) stands_in ∙ later (j == f) (is_in j (lents rest)) is, others f (lents rest) once j is) in
      let drop : (j : ℕ) → is_in j (drops rest) ≡ true → (is_in j (drops p.inside) ≡ true) × ((f == j) ≡ false) =
      λ j is.
      let it : is_in j (drops p.inside) ≡ true = ap (λ cs. is_in j (drops cs)) stands_in ∙ is in
      (it, apart_ones cells.is_lent f has.1 cells.is_dropping (λ v is. lent_dropping v.future is) j (both.0.inside.dropping j it).1) in
      let lent_once : apart (lents rest) ≡ true = (both_true (not (is_in f (lents rest))) (apart (lents rest)) once).1 in
      let dropping_once : apart (drops rest) ≡ true =
      sym (ap (λ cs. apart (drops cs)) stands_in) ∙ both.0.inside.dropping_once in
      let callers : awaiters rest ≡ awaiters p.inside = sym (ap (λ cs. awaiters cs) stands_in) in
      let hand =
      hand_lent its s p both.0 both.1 c f (both.1.lent f mine) has.0 away many life rest lent drop lent_once dropping_once callers taker one
      mine in
      let does : calls.does wakes c calls.Call.Ends p ≡ takes.dropped wakes c f (Gave v) taker (record p { inside = rest }) =
      ap (λ cs. calls.innermost wakes c cs (calls.ends wakes c) p) stands_in in (
        subst (Stands its (after_drop (solo.settle_ready_answer (its f) v s) (solo.settled_ready (its f) v s))) (sym does)
            (given_so its s p both.0 both.1 c f (both.1.lent f mine) has.0 away many life rest lent drop lent_once dropping_once
            callers taker one v hand),
        record {
          seen =
              ap (λ (q : Plain T (SoloWaker X)). q.events) does
              ∙ given_shows its s p both.0 both.1 c f (both.1.lent f mine) has.0 away many life rest lent drop lent_once dropping_once
              callers taker one v hand;
          future = dropping.gone_future its s p both.0 both.1 c f (both.1.lent f mine) has.0 away;
        },
      )

  pub given_drops_alike : GivenDropsAlike its s p
  given_drops_alike c f v taker one rest stands_in many life = (given_drops c f v taker one rest stands_in many life).0

  pub given_drops_shown : GivenDropsShown its s p
  given_drops_shown c f v taker one rest stands_in many life = (given_drops c f v taker one rest stands_in many life).1
