-- Where no future is urgent it takes all futures in order.
use Rattle.std.proofs.lemmas.Bool.Decides.{nat_tests}
use Rattle.std.proofs.Common.{arith}
use Rattle.std.proofs.Common.{◌≡◌, ℕ, ◌&&◌, is_some, cond, filter, map, Bool, true, false, List, [], ◌∷◌, ◌++◌, Option, Some}
use Rattle.std.proofs.Common.{None, slice_get, refl, sym, ap, ◌∙◌}
use Rattle.executor_parts.specs.declared.mark.Mark.{Mark}
use Rattle.executor_parts.specs.declared.mark.Mark.TheVariants.{Plain as PlainMark, Urgent}
use Rattle.executor_parts.specs.Marks.{same_mark}
use Rattle.plain_scheduler.specs.State.{Choice, Due, Future, Plain}
use Rattle.plain_scheduler.specs.Lists.{any, or}
use Rattle.plain_scheduler.specs.Moves.{is_common, is_kept}
use Rattle.plain_scheduler.specs.Calls.{Call, course, does, new}
use Rattle.plain_laws.specs.Order.{InWholeOrder, IsAlone, all_came, all_came_with, all_taken, is_kept_of, is_others, is_unkept, is_urgent}
use Rattle.plain_laws.specs.Order.{leaves_to, line, of_mark, takes_alone, took, whole_line}
use Rattle.plain_laws.proofs.Words.{Each, at, both_true, nothing_behind}
use Rattle.plain_laws.proofs.Lines.{future_of}
use Rattle.plain_laws.proofs.Marked.{IsMarked, Marked, are_marked, has_mark}
use Rattle.plain_laws.proofs.InOrder.{one_so}
use Rattle.plain_laws.proofs.Waits.{two_so}

-- two tests that say the same of each
filter_as : {X : Type 0} (P : X → Type 0) (t s : X → Bool) → ((x : X) → P x → t x ≡ s x) → (xs : List X) → Each P xs
    → filter t xs ≡ filter s xs
filter_as P t s same [] all = refl
filter_as P t s same (x ∷ xs) all =
    ap (λ b. cond b (x ∷ filter t xs) (filter t xs)) (same x all.0)
    ∙ ap (λ l. cond (s x) (x ∷ l) l) (filter_as P t s same xs all.1)

both_so : (b : Bool) (d : Due) → d.mark ≡ PlainMark → (b && same_mark PlainMark d.mark) ≡ b
both_so b d is = grind (arith, nat_tests)

module _ {T A : Type 0} where
  abbrev pub ArePlain : List (Future T A) → Type 0
  ArePlain fs = (j : ℕ) (m : Mark) → at has_mark fs j ≡ Some m → m ≡ PlainMark

  pub are_plain : (fs : List (Future T A)) → any is_urgent fs ≡ false → ArePlain fs
  are_plain [] none j m is = absurd cc
  are_plain (x ∷ fs) none j m is = by (same_mark Urgent x.mark) refl none (are_plain fs) j is
    where
      by : (b : Bool) → same_mark Urgent x.mark ≡ b → cond b true (any is_urgent fs) ≡ false → (any is_urgent fs ≡ false → ArePlain fs)
          → (j : ℕ) → at has_mark (x ∷ fs) j ≡ Some m → m ≡ PlainMark
      by b so none rest j is = grind (arith, nat_tests)

  of_all : (q : Plain T A) → ArePlain q.futures → (fs : List ℕ) → of_mark PlainMark q fs ≡ fs
  of_all q plain [] = refl
  of_all q plain (f ∷ fs) =
      ap (λ m. cond (same_mark PlainMark m) (f ∷ of_mark PlainMark q fs) (of_mark PlainMark q fs))
      (by (slice_get q.futures f) (plain f))
      ∙ ap (λ l. f ∷ l) (of_all q plain fs)
    where
      by : (o : Option (Future T A)) → ((m : Mark) → or o (λ x. Some x.mark) None ≡ Some m → m ≡ PlainMark)
          → or o (λ x. x.mark) PlainMark ≡ PlainMark
      by None is = refl
      by (Some x) is = is x.mark refl

  pub unkept_so : (q : Plain T A) → Marked q → ArePlain q.futures → filter (is_common PlainMark) q.due ≡ filter is_unkept q.due
  unkept_so q marked plain = grind (arith, nat_tests, filter_as, IsMarked, both_so)

  line_all : (r : ℕ) (q : Plain T A) → Marked q → ArePlain q.futures → line PlainMark r q.due ≡ whole_line r q.due
  line_all r q marked plain =
      ap (λ l. map future_of (l ++ filter (is_common PlainMark) q.due))
      (filter_as (IsMarked q) (is_kept_of PlainMark r) (is_kept r) (λ d is. both_so (is_kept r d) d (plain d.future d.mark is)) q.due
      marked.due)
      ∙ ap (λ l. map future_of (filter (is_kept r) q.due ++ l)) (unkept_so q marked plain)

  module _ (r : ℕ) (wakes : A → Option ℕ) where
    -- marks stay, so that those are plain at first that are at the end
    pub were_plain : (cs : List (Choice × Call T A)) (p : Plain T A) → Marked p → is_some (slice_get p.runs r) ≡ true
        → any (is_others r) p.due ≡ false → takes_alone wakes r cs p ≡ true → ArePlain (course wakes cs p).futures → ArePlain p.futures
    were_plain [] p marked there alone may plain = plain
    were_plain (c ∷ cs) p marked there alone may plain =
        let q = does wakes c.0 c.1 p in
        let both = both_true (leaves_to r c.1 p.inside) (takes_alone wakes r cs q) may in
        let s = one_so r wakes c.0 c.1 p marked there alone both.0 in
        let behind = were_plain cs q s.marked s.is_there s.alone both.1 plain in
        λ j m is. behind j m (s.stays j m is)

    in_order_from : (cs : List (Choice × Call T A)) (p : Plain T A) → Marked p → is_some (slice_get p.runs r) ≡ true
        → any (is_others r) p.due ≡ false → takes_alone wakes r cs p ≡ true → ArePlain (course wakes cs p).futures
        → all_taken wakes r cs p ++ whole_line r (course wakes cs p).due ≡ whole_line r p.due ++ all_came wakes r cs p
    in_order_from [] p marked there alone may plain = sym (nothing_behind (whole_line r p.due))
    in_order_from (c ∷ cs) p marked there alone may plain =
        let q = does wakes c.0 c.1 p in
        let both = both_true (leaves_to r c.1 p.inside) (takes_alone wakes r cs q) may in
        let s = one_so r wakes c.0 c.1 p marked there alone both.0 in
        let behind = were_plain cs q s.marked s.is_there s.alone both.1 plain in
        let before = were_plain (c ∷ cs) p marked there alone may plain in
        let is : took r p q ++ whole_line r q.due ≡ whole_line r p.due ++ (s.lines PlainMark).0 =
        ap (λ l. l ++ whole_line r q.due) (sym (of_all q behind (took r p q)))
        ∙ (ap (λ l. of_mark PlainMark q (took r p q) ++ l) (sym (line_all r q s.marked behind))
        ∙ ((s.lines PlainMark).1 ∙ ap (λ l. l ++ (s.lines PlainMark).0) (line_all r p marked before))) in
        two_so (took r p q) (all_taken wakes r cs q) (whole_line r q.due) (whole_line r (course wakes cs q).due) (whole_line r p.due)
        (s.lines PlainMark).0 (all_came wakes r cs q) (all_came_with r p q)
        (in_order_from cs q s.marked s.is_there s.alone both.1 plain) is refl

    pub all_in_order : (limit : ℕ) (is_static : Bool) (before cs : List (Choice × Call T A))
        → IsAlone wakes r cs (course wakes before (new limit is_static))
        → InWholeOrder wakes r cs (course wakes before (new limit is_static))
    all_in_order limit is_static before cs alone = grind (arith, nat_tests, in_order_from, are_marked, are_plain)
