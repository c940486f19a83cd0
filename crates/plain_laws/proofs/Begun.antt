-- Only a run that was polled and isn't over keeps futures.
use Rattle.std.proofs.lemmas.Bool.Decides.{nat_tests}
use Rattle.std.proofs.Common.{◌≡◌, ℕ, zero, suc, ◌+◌, fold, ◌==◌, not, count_by, cond, filter, Bool, true, false, List, [], ◌∷◌, length}
use Rattle.std.proofs.Common.{find, Option, Some, None, slice_get, slice_set, refl, sym, subst, ap, ◌∙◌, arith}
use Rattle.plain_scheduler.specs.State.{ARun, Answer, Choice, Close as Closing, Code, Drop, DropOwn, Due, Lose, Plain, Poll, PollOwn}
use Rattle.plain_scheduler.specs.Lists.{any, on, or, repeat, without}
use Rattle.plain_scheduler.specs.Moves.{answers, appended, given_back, is_kept, mark, runs, tell}
use Rattle.plain_scheduler.specs.Calls as calls
use Rattle.plain_scheduler.specs.Calls.{Call, course, does, new}
use Rattle.plain_laws.specs.Order.{IsOnlyBegun, all_go_idle, goes_idle, is_of_run, is_others, is_over, polls, was_polled}
use Rattle.plain_laws.proofs.Words.{both_true, filter_both, filter_found, nothing_behind, same_number}
use Rattle.plain_laws.proofs.Walk.{Keeps, Lasts, leaves_good, on_good, tell_good}
use Rattle.plain_laws.proofs.Idle.{Idle, call_idle, none_in}
use Rattle.plain_laws.proofs.Over.{GoesOn, IsNoEnd, call_on}

-- how many pass a test
module _ {X : Type 0} (t : X → Bool) where
  folded : (a : ℕ) (xs : List X) → fold (λ a x. a + cond (t x) 1 0) a xs ≡ a + length (filter t xs)
  folded a [] = with_none a
    where
      with_none : (a : ℕ) → a ≡ a + 0
      with_none a = omega arith
  folded a (x ∷ xs) = folded (a + cond (t x) 1 0) xs ∙ by (t x)
    where
      no_more : (a l : ℕ) → (a + 0) + l ≡ a + l
      no_more a l = omega arith

      by : (b : Bool) → (a + cond b 1 0) + length (filter t xs) ≡ a + length (cond b (x ∷ filter t xs) (filter t xs))
      by b = grind (arith, nat_tests)

  pub counted_so : (xs : List X) → count_by t xs ≡ length (filter t xs)
  counted_so xs = folded 0 xs ∙ plain (length (filter t xs))
    where
      plain : (n : ℕ) → 0 + n ≡ n
      plain n = omega arith

  none_left : (xs : List X) → length (filter t xs) ≡ 0 → any t xs ≡ false
  none_left [] is = refl
  none_left (x ∷ xs) is = by (t x) (none_left xs) is
    where
      never : (n : ℕ) → suc n ≡ 0 → true ≡ false
      never n is = absurd (omega (arith, is))

      by : (b : Bool) → (length (filter t xs) ≡ 0 → any t xs ≡ false) → length (cond b (x ∷ filter t xs) (filter t xs)) ≡ 0
          → cond b true (any t xs) ≡ false
      by b rest is = grind (arith, nat_tests)

  pub none_there : (xs : List X) → find t xs ≡ None → filter t xs ≡ []
  none_there [] is = refl
  none_there (x ∷ xs) is = by (t x) (none_there xs) is
    where
      by : (b : Bool) → (find t xs ≡ None → filter t xs ≡ []) → cond b (Some x) (find t xs) ≡ None
          → cond b (x ∷ filter t xs) (filter t xs) ≡ []
      by b rest is = grind (arith, nat_tests)

clash : (b : Bool) → b ≡ true → b ≡ false → ⊥
clash b one two = grind (arith, nat_tests)

-- none but r keeps any, if no other does
none_others : (r : ℕ) (due : List Due) → ((k : ℕ) → (r == k) ≡ false → any (is_kept k) due ≡ false) → any (is_others r) due ≡ false
none_others r [] none = refl
none_others r (d ∷ due) none =
    ap (λ b. cond b true (any (is_others r) due)) (by d.keeper (λ k away. (none_in (is_kept k) d due (none k away)).0))
    ∙ none_others r due (λ k away. (none_in (is_kept k) d due (none k away)).1)
  where
    by : (o : Option ℕ) → ((k : ℕ) → (r == k) ≡ false → or o (λ j. k == j) false ≡ false) → or o (λ k. not (r == k)) false ≡ false
    by o none = grind (arith, nat_tests)

less : (a n : ℕ) → suc a ≡ suc n → a ≡ n
less a n is = omega (arith, is)

never_zero : (n : ℕ) → 0 ≡ suc n → ⊥
never_zero n is = omega (arith, is)

module _ {T A : Type 0} (k : ℕ) where
  -- it keeps so many
  record Keeping (n : ℕ) (p : Plain T A) : Type 0 where
    pub codes : any (is_of_run k) p.inside ≡ false
    pub many : length (filter (is_kept k) p.due) ≡ n

  keeping_appended : (n f : ℕ) → Keeps (Keeping n) (appended f)
  keeping_appended n f p good =
      record {
        codes = good.codes;
        many =
            ap length (filter_both (is_kept k) p.due (record { future = f; mark = mark f p; keeper = None } ∷ [])
            ∙ nothing_behind (filter (is_kept k) p.due))
            ∙ good.many;
      }

  keeping_lasts : (n : ℕ) → Lasts (Keeping n)
  keeping_lasts n =
      record {
        alike =
            λ p q one two three four good. record {
              codes = subst (λ codes. any (is_of_run k) codes ≡ false) four good.codes;
              many = subst (λ due. length (filter (is_kept k) due) ≡ n) two good.many;
            };
        changes =
            λ h same f p good.
            on_good (Keeping n) (slice_get p.futures f) (λ x p. record p { futures = slice_set p.futures f (h x) })
            (λ x p good. record { codes = good.codes; many = good.many }) p good;
        appends = λ f p is good. keeping_appended n f p good;
        accepts = λ x p good. record { codes = good.codes; many = good.many };
        makes = λ x p good. record { codes = good.codes; many = good.many };
      }

  one_given : (n : ℕ) (p : Plain T A) → Keeping (suc n) p → Keeping n (given_back k p)
  one_given n p good = by (find (is_kept k) p.due) refl
    where
      by : (o : Option Due) → find (is_kept k) p.due ≡ o
          → Keeping n (on o (λ d p. appended d.future (record p { due = without (is_kept k) p.due })) p)
      by None is = absurd (never_zero n (sym (ap length (none_there (is_kept k) p.due is)) ∙ good.many))
      by (Some d) is =
          keeping_appended n d.future (record p { due = without (is_kept k) p.due })
          (record {
            codes = good.codes;
            many =
                less (length (filter (is_kept k) (without (is_kept k) p.due))) n
                (sym (ap length (filter_found (is_kept k) p.due d is)) ∙ good.many);
          })

  module _ (wakes : A → Option ℕ) (c : Choice) where
    all_given : (n : ℕ) (p : Plain T A) → Keeping n p → Keeping 0 (repeat n (λ p. tell wakes c (given_back k p)) p)
    all_given zero p good = good
    all_given (suc n) p good =
        all_given n (tell wakes c (given_back k p))
        (tell_good (Keeping n) (keeping_lasts n) wakes c (given_back k p) (one_given n p good))

    -- a run that goes keeps none
    gone_clears : (p : Plain T A) → any (is_of_run k) p.inside ≡ false → Keeping 0 (calls.gone wakes c k p)
    gone_clears p none =
        let n = length (filter (is_kept k) p.due) in
        let q = runs (λ run. record run { is_over = true }) k p in
        let at_first : Keeping n p = record { codes = none; many = refl } in
        let over : Keeping n q =
        on_good (Keeping n) (slice_get p.runs k) (λ run p. record p { runs = slice_set p.runs k (record run { is_over = true }) })
        (λ run p good. record { codes = good.codes; many = good.many }) p at_first in
        leaves_good (Keeping 0) (keeping_lasts 0) wakes c (ARun k)
        (repeat (count_by (is_kept k) p.due) (λ p. tell wakes c (given_back k p)) q)
        (subst (λ i. Keeping 0 (repeat i (λ p. tell wakes c (given_back k p)) q)) (sym (counted_so (is_kept k) p.due)) (all_given n q over))

    goes_clear : (answer : Answer T) (p : Plain T A) → any (is_of_run k) p.inside ≡ false → Idle k (answers answer (calls.gone wakes c k p))
    goes_clear answer p none = grind (arith, nat_tests, p, gone_clears, none_left)

  on_so : (p : Plain T A) → is_over k p ≡ false → GoesOn k p
  on_so p is = grind (arith, nat_tests)

  not_over : (p : Plain T A) → GoesOn k p → is_over k p ≡ false
  not_over p is = grind (arith, nat_tests)

  abbrev IdleOver : Plain T A → Type 0
  IdleOver p = is_over k p ≡ true → Idle k p

module _ (T A : Type 0) (k : ℕ) (wakes : A → Option ℕ) (c : Choice) where
  -- a call behind which it goes on
  still : (call : Call T A) (p : Plain T A) → IsNoEnd T A k wakes c call p.inside → is_over k p ≡ false → IdleOver k (does wakes c call p)
  still call p is on_now = grind (arith, nat_tests, p, clash, not_over, call_on, on_so)

  drop_ends : (p : Plain T A) (codes : List (Code T A)) → p.inside ≡ codes → goes_idle {T = T} {A = A} calls.Ends codes ≡ true
      → is_over k p ≡ false → IdleOver k (does wakes c calls.Ends p)
  drop_ends p [] is idle on_now = still calls.Ends p (subst (λ codes. IsNoEnd T A k wakes c calls.Ends codes) (sym is) tt) on_now
  drop_ends p (DropOwn j answer ∷ rest) is idle on_now = by (k == j) refl
    where
      not_any : (b : Bool) → not b ≡ true → b ≡ false
      not_any b it_is = grind (arith, nat_tests)

      by : (b : Bool) → (k == j) ≡ b → IdleOver k (does wakes c calls.Ends p)
      by true so =
          λ over.
          subst (λ codes. Idle k (calls.innermost wakes c codes (calls.ends wakes c) p)) (sym is)
          (subst (λ i. Idle k (answers answer (calls.gone wakes c i (record p { inside = rest })))) (same_number k j so)
          (goes_clear k wakes c answer (record p { inside = rest })
          (subst (λ i. any (is_of_run i) rest ≡ false) (sym (same_number k j so)) (not_any (any (is_of_run j) rest) idle))))
      by false so = still calls.Ends p (subst (λ codes. IsNoEnd T A k wakes c calls.Ends codes) (sym is) so) on_now
  drop_ends p (Poll f by ∷ rest) is idle on_now =
      still calls.Ends p (subst (λ codes. IsNoEnd T A k wakes c calls.Ends codes) (sym is) tt) on_now
  drop_ends p (Drop f end by ∷ rest) is idle on_now =
      still calls.Ends p (subst (λ codes. IsNoEnd T A k wakes c calls.Ends codes) (sym is) tt) on_now
  drop_ends p (Lose awaiter by ∷ rest) is idle on_now =
      still calls.Ends p (subst (λ codes. IsNoEnd T A k wakes c calls.Ends codes) (sym is) tt) on_now
  drop_ends p (PollOwn j w ∷ rest) is idle on_now =
      still calls.Ends p (subst (λ codes. IsNoEnd T A k wakes c calls.Ends codes) (sym is) tt) on_now
  drop_ends p (Closing fs all ∷ rest) is idle on_now =
      still calls.Ends p (subst (λ codes. IsNoEnd T A k wakes c calls.Ends codes) (sym is) tt) on_now

  goes_on : (call : Call T A) (p : Plain T A) → goes_idle call p.inside ≡ true → is_over k p ≡ false → IdleOver k (does wakes c call p)
  goes_on calls.Ends p idle on_now = drop_ends p p.inside refl idle on_now
  goes_on calls.TryTick p idle on_now = still calls.TryTick p tt on_now
  goes_on call p idle on_now = still call p tt on_now

  pub next_over : (call : Call T A) (p : Plain T A) → goes_idle call p.inside ≡ true → IdleOver k p → IdleOver k (does wakes c call p)
  next_over call p idle before = by (is_over k p) refl
    where
      by : (b : Bool) → is_over k p ≡ b → IdleOver k (does wakes c call p)
      by b is = grind (arith, nat_tests, call_idle, p, goes_on)

module _ {T A : Type 0} (wakes : A → Option ℕ) where
  never_polled : (k : ℕ) (cs : List (Choice × Call T A)) (p : Plain T A) → was_polled k cs ≡ false → Idle k p → Idle k (course wakes cs p)
  never_polled k [] p none idle = idle
  never_polled k (c ∷ cs) p none idle =
      let both = none_in (λ (c : Choice × Call T A). polls k c.1) c cs none in
      never_polled k cs (does wakes c.0 c.1 p) both.1
      (call_idle T A k wakes c.0 c.1 p (λ polled. absurd (clash (polls k c.1) polled both.0)) idle)

  idle_over : (k : ℕ) (cs : List (Choice × Call T A)) (p : Plain T A) → all_go_idle wakes cs p ≡ true
      → IdleOver k p → IdleOver k (course wakes cs p)
  idle_over k [] p idle before = before
  idle_over k (c ∷ cs) p idle before =
      let both = both_true (goes_idle c.1 p.inside) (all_go_idle wakes cs (does wakes c.0 c.1 p)) idle in
      idle_over k cs (does wakes c.0 c.1 p) both.1 (next_over T A k wakes c.0 c.1 p both.0 before)

  pub only_one : (limit : ℕ) (is_static : Bool) (before : List (Choice × Call T A)) (r : ℕ)
      → all_go_idle wakes before (new limit is_static) ≡ true → IsOnlyBegun wakes r before (new limit is_static)
      → any (is_others r) (course wakes before (new limit is_static)).due ≡ false
  only_one limit is_static before r idle only =
      none_others r (course wakes before (new limit is_static)).due (λ k away. by k away (was_polled k before) refl)
    where
      p : Plain T A
      p = course wakes before (new limit is_static)

      fresh : (k : ℕ) → Idle k (new {T = T} {A = A} limit is_static)
      fresh k = grind (arith, nat_tests)

      is_r : (k : ℕ) → (r == k) ≡ false → k ≡ r → ⊥
      is_r k away same = grind (arith, nat_tests)

      over_too : (k : ℕ) → (r == k) ≡ false → was_polled k before ≡ true → (b : Bool)
          → is_over k (course wakes before (new limit is_static)) ≡ b
          → any (is_kept k) (course wakes before (new limit is_static)).due ≡ false
      over_too k away polled b so = grind (arith, nat_tests, idle_over, fresh, is_r)

      by : (k : ℕ) → (r == k) ≡ false → (b : Bool) → was_polled k before ≡ b
          → any (is_kept k) (course wakes before (new limit is_static)).due ≡ false
      by k away b is = grind (arith, nat_tests, never_polled, fresh, over_too)
