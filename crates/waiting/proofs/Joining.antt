-- A new waiter is the last of them. Who isn't among them was notified.
use Rattle.std.proofs.Common.{◌≡◌, ℕ, ◌+◌, true, eqb, List, [], ◌∷◌, ◌++◌, length, Some, None, Option, refl}
use Rattle.std.proofs.Common.{sym, ap, ◌∙◌, subst, arith}
use Rattle.std.proofs.Math.Seq.{set-append_seam}
use Rattle.std.proofs.lemmas.Bool.Decides.{nat_tests}
use Rattle.std.specs.List.{slice_get, slice_set}
use Rattle.waiting.proofs.Finding.{further}
use Rattle.waiting.specs.Permits.{Permits, HasFound, HasFoundAt, HasPassedOn, HasRedeemed, joined}
use Rattle.waiting.specs.Waiters.{Waiters, HasLooked, listened, position_of, waker_in}
use Rattle.waiting.specs.declared.permits.Found.{Found}
use Rattle.waiting.specs.declared.waiters.Listening.{Listening}
use Rattle.waiting.specs.declared.waiters.Looked.{Looked}
use Rattle.waiting.specs.declared.waiters.Looked.TheVariants.{Waits, Told}

module _ {W : Type 0} where
  pub last_found : (number : ℕ) (w : W) (es : List (ℕ × W)) → position_of number (es ++ (number, w) ∷ []) ≡ Some (length es)
  last_found number w [] = let t : eqb number number ≡ true = grind (arith, nat_tests) in rw t refl
  last_found number w (e ∷ es) = further number (length es) e (es ++ (number, w) ∷ []) (last_found number w es)

  pub last_got : (e : W) (es : List W) → slice_get (es ++ e ∷ []) (length es) ≡ Some e
  last_got e [] = refl
  last_got e (first ∷ es) = last_got e es

module _ {K : Type 0} where
  -- one waits, the last of all, with this waker
  abbrev pub HasJoined : Option K → Waiters K → Waiters K → Looked K → Type 0
  HasJoined waker old new (Waits listening before) =
      (new ≡ record { next = old.next + 1; waiting = old.waiting ++ (old.next, waker) ∷ [] })
      × (listening.number ≡ old.next) × (before ≡ None)
  HasJoined waker old new (Told _ _) = ⊥

  -- a waiter that looks once it listens isn't notified yet
  pub has_joined :
      (waker : Option K) (old new : Waiters K) (result : Looked K)
      → HasLooked old.next waker (listened old) new result → HasJoined waker old new result
  has_joined waker old new (Waits listening before) looked =
      let found : Some (looked.0) ≡ Some (length old.waiting) = sym looked.1 ∙ last_found old.next None old.waiting in
      let at : looked.0 ≡ length old.waiting = cc in
      let got : slice_get (old.waiting ++ (old.next, None) ∷ []) (looked.0) ≡ Some (old.next, None) =
      rw at (last_got (old.next, None) old.waiting) in
      let all : slice_set (old.waiting ++ (old.next, None) ∷ []) (looked.0) (old.next, waker) ≡ old.waiting ++ (old.next, waker) ∷ [] =
      rw at (set-append_seam old.waiting (old.next, None) [] (old.next, waker)) in (
        looked.4 ∙ ap (λ (l : List (ℕ × Option K)). record { next = old.next + 1; waiting = l }) all,
        looked.3,
        sym looked.2 ∙ ap waker_in got,
      )
  has_joined waker old new (Told call back) looked =
      let found : None ≡ Some (length old.waiting) = sym looked.0 ∙ last_found old.next None old.waiting in cc

  -- the same, of one that has just listened
  pub joins_at :
      (waker : Option K) (number : ℕ) (old mid new : Waiters K) (result : Looked K)
      → number ≡ old.next → mid ≡ listened old → HasLooked number waker mid new result → HasJoined waker old new result
  joins_at waker number old mid new result same listens looked =
      let l : HasLooked number waker (listened old) new result =
      subst (λ (w : Waiters K). HasLooked number waker w new result) listens looked in
      has_joined waker old new result (subst (λ (n : ℕ). HasLooked n waker (listened old) new result) same l)

  -- permits in which one joined those who wait
  pub joins :
      (waker : Option K) (old inside : Permits K) (new : Waiters K) (listening : Listening) (before : Option K)
      → inside ≡ old → HasJoined waker inside.waiters new (Waits listening before)
      → (record inside { waiters = new } ≡ joined waker old) × (listening.number ≡ old.waiters.next) × (before ≡ None)
  joins waker old inside new listening before same last = (
    ap (λ (w : Waiters K). record inside { waiters = w }) last.0 ∙ ap (λ (p : Permits K). joined waker p) same,
    last.1 ∙ ap (λ (p : Permits K). p.waiters.next) same,
    last.2,
  )

  -- a waiter that isn't in the list takes what was promised
  pub finds_told :
      (number : ℕ) (waker back : Option K) (old inside new : Permits K) (left : Waiters K) (result : Found K)
      → inside ≡ old → position_of number inside.waiters.waiting ≡ None → left ≡ inside.waiters → back ≡ waker
      → HasRedeemed inside.promised back (record inside { waiters = left }) new result → HasFound number waker old new result
  finds_told number waker back old inside new left result same none stays given redeemed =
      let here : HasRedeemed inside.promised back inside new result =
      subst (λ (w : Waiters K). HasRedeemed inside.promised back (record inside { waiters = w }) new result) stays redeemed in
      let mine : HasRedeemed inside.promised waker inside new result =
      subst (λ (w : Option K). HasRedeemed inside.promised w inside new result) given here in
      let whole : HasRedeemed old.promised waker old new result =
      subst (λ (p : Permits K). HasRedeemed p.promised waker p new result) same mine in
      let missing : position_of number old.waiters.waiting ≡ None =
      subst (λ (p : Permits K). position_of number p.waiters.waiting ≡ None) same none in
      subst (λ (o : Option ℕ). HasFoundAt o number waker old new result) (sym missing) whole

  -- what was promised to a waiter that isn't in the list goes on
  pub goes_on :
      (number : ℕ) (waker : Option K) (old inside new : Permits K) (left : Waiters K)
      → inside ≡ old → position_of number inside.waiters.waiting ≡ None → left ≡ inside.waiters
      → HasPassedOn inside.promised (record inside { waiters = left }) new waker
      → (position_of number old.waiters.waiting ≡ None) × HasPassedOn old.promised old new waker
  goes_on number waker old inside new left same none stays passed =
      let here : HasPassedOn inside.promised inside new waker =
      subst (λ (w : Waiters K). HasPassedOn inside.promised (record inside { waiters = w }) new waker) stays passed in (
        subst (λ (p : Permits K). position_of number p.waiters.waiting ≡ None) same none,
        subst (λ (p : Permits K). HasPassedOn p.promised p new waker) same here,
      )
