-- A party appends no more items than it has begun pushes; and one fewer, where one of them was refused full.
use Rattle.std.proofs.lemmas.Bool.Decides.{nat_tests}
use Rattle.std.proofs.Common.{◌≡◌, ℕ, ◌+◌, ◌≤◌, List, [], ◌∷◌, ◌++◌, true, false, Option, Some, None, Ok, Err}
use Rattle.std.proofs.Common.{IsSome, IfSome, inl, inr, ◌==◌, sym, ap, ◌∙◌, subst, eq-eqb, ne_eqb, arith}
use mathlib.Core.Logic.{dite}
use native.Mathlib.Decide.{ℕ_discrete}
use Rattle.queue_steps.specs.declared.errors.PushError.TheVariants.{Full}
use Rattle.queue_steps.specs.ClosableQueue.{appended, taken}
use Rattle.queue_steps.specs.Calls.{Call, Push, ForcePush, Len, Answer, Pushed}
use Rattle.queue_steps.specs.Calls.{ForcePushed, LenIs}
use Rattle.queue_laws.specs.Moments.{Moment, Begins, Does, Displaces, Arrives, Ends, Sight, Scene, Progress, AtSome, MayAnswer, MayEnd}
use Rattle.queue_laws.specs.Moments.{with_call, sees, Happens, Run}
use Rattle.queue_laws.specs.FreePlaces.{who_appends, who_pushes, AppendsAlone, one_of, appended_by, pushes_of}
use Rattle.queue_laws.proofs.FreePlaces.{AppendsOwn, cut, alone_cut, by_both}

-- whether two parties are one, as both tests say it
data Parties (p r : ℕ) : Type 0 where
  One : p ≡ r → (p == r) ≡ true → (r == p) ≡ true → Parties p r
  Two : (p == r) ≡ false → (r == p) ≡ false → Parties p r

parties : (p r : ℕ) → Parties p r
parties p r = dite (ℕ_discrete p r) (λ e. One e (eq-eqb p r e) (eq-eqb r p (sym e)))
    (λ other. Two (ne_eqb p r other) (grind (arith, nat_tests)))

is_none : (p r : ℕ) → (r == p) ≡ false → one_of p (Some r) ≡ 0
is_none p r e = grind (arith, nat_tests)

module _ {T : Type 0} where
  abbrev pushing : Call T → ℕ
  pushing (Push x) = 1
  pushing (ForcePush x) = 1
  pushing _ = 0

  abbrev refusing : Answer T → ℕ
  refusing (Pushed (Err e)) = 1
  refusing (ForcePushed (Err e)) = 1
  refusing _ = 0

  -- one where a push may still append, or was refused
  abbrev owes : Call T → Option (Answer T) → ℕ
  owes call None = pushing call
  owes call (Some a) = refusing a

  abbrev owes_in : Option (Progress T) → ℕ
  owes_in None = 0
  owes_in (Some c) = owes c.call c.answer

  abbrev coming_of : ℕ → Option (ℕ × T) → ℕ
  coming_of p None = 0
  coming_of p (Some i) = one_of p (Some i.0)

  -- party p has appended a items, and begun b pushes
  abbrev Counts : ℕ → ℕ → ℕ → Scene T → Type 0
  Counts p a b s = a + (owes_in (s.calls p) + coming_of p s.sight.incoming) ≤ b

  sees_owes : (x : Sight T) (o : Option (Progress T)) → owes_in (sees x o) ≡ owes_in o
  sees_owes x o = grind (arith, nat_tests)

  no_more : (p r : ℕ) (a : Answer T) → (r == p) ≡ false → one_of p (who_appends (Does r a)) ≡ 0
  no_more p r a e = grind (arith, nat_tests)

  module _ (p : ℕ) (r : ℕ) where
    mine : (calls : ℕ → Option (Progress T)) (c : Option (Progress T)) → (p == r) ≡ true → with_call calls r c p ≡ c
    mine calls c e = grind (arith, nat_tests)

    others : (calls : ℕ → Option (Progress T)) (c : Option (Progress T)) → (p == r) ≡ false
        → with_call calls r c p ≡ calls p
    others calls c e = grind (arith, nat_tests)

    begins : (a b : ℕ) (s s' : Scene T) (call : Call T) → Happens s (Begins r call) s' → Counts p a b s
        → Counts p (a + 0) (b + one_of p (who_pushes (Begins r call))) s'
    begins a b s s' call (none, e) h =
        subst (Counts p (a + 0) (b + one_of p (who_pushes (Begins r call)))) (sym e) (by (parties p r))
      where
        c : Progress T
        c = record { call = call; seen = s.sight ∷ []; answer = None }

        by : Parties p r
            → a + 0 + (owes_in (with_call s.calls r (Some c) p) + coming_of p s.sight.incoming)
            ≤ b + one_of p (who_pushes (Begins r call))
        by h0 = grind (arith, nat_tests)

    does : (a b : ℕ) (s s' : Scene T) (told : Answer T) → AppendsOwn p (Does r told) → Happens s (Does r told) s'
        → Counts p a b s
        → Counts p (a + one_of p (who_appends (Does r told))) (b + 0) s'
    does a b s s' told own (c, is, none, (q, did, beside, e)) h =
        subst (Counts p (a + one_of p (who_appends (Does r told))) (b + 0)) (sym e) (by (parties p r))
      where
        x : Sight T
        x = record s.sight { queue = q }

        c' : Progress T
        c' = record c { answer = Some told }

        by : Parties p r
            → a + one_of p (who_appends (Does r told))
            + (owes_in (sees x (with_call s.calls r (Some c') p)) + coming_of p s.sight.incoming)
            ≤ b + 0
        by h0 = grind (arith, nat_tests)

    displaces : (a b : ℕ) (s s' : Scene T) (y : T) → Happens s (Displaces r y) s' → Counts p a b s
        → Counts p (a + 0) (b + 0) s'
    displaces a b s s' y (c, x, is, none, of, inc, full, unspent, at, first, e) h =
        subst (Counts p (a + 0) (b + 0)) (sym e) (by (parties p r))
      where
        z : Sight T
        z = record { queue = taken s.sight.queue; incoming = Some (r, x) }

        c' : Progress T
        c' = record c { answer = Some (ForcePushed (Ok (Some y))) }

        by : Parties p r → a + 0 + (owes_in (sees z (with_call s.calls r (Some c') p)) + one_of p (Some r)) ≤ b + 0
        by h0 = grind (arith, nat_tests)

    arrives : (a b : ℕ) (s s' : Scene T) → Happens s (Arrives r) s' → Counts p a b s
        → Counts p (a + one_of p (Some r)) (b + 0) s'
    arrives a b s s' (x, inc, e) h =
        let z : Sight T = record { queue = appended s.sight.queue x; incoming = None } in
        let now = sees_owes z (s.calls p) in let was = ap (coming_of p) inc in
        subst (Counts p (a + one_of p (Some r)) (b + 0)) (sym e) (omega (arith, now, was, h))

    ends : (a b : ℕ) (s s' : Scene T) (told : Answer T) → Happens s (Ends r told) s' → Counts p a b s
        → Counts p (a + 0) (b + 0) s'
    ends a b s s' told (c, is, may, from, e) h = subst (Counts p (a + 0) (b + 0)) (sym e) (by (parties p r))
      where
        by : Parties p r → a + 0 + (owes_in (with_call s.calls r None p) + coming_of p s.sight.incoming) ≤ b + 0
        by h0 = grind (arith, nat_tests)

  happens : (p a b : ℕ) (s s' : Scene T) (m : Moment T) → AppendsOwn p m → Happens s m s' → Counts p a b s
      → Counts p (a + one_of p (who_appends m)) (b + one_of p (who_pushes m)) s'
  happens p a b s s' (Begins r call) own e h = begins p r a b s s' call e h
  happens p a b s s' (Does r told) own e h = does p r a b s s' told own e h
  happens p a b s s' (Displaces r y) own e h = displaces p r a b s s' y e h
  happens p a b s s' (Arrives r) own e h = arrives p r a b s s' e h
  happens p a b s s' (Ends r told) own e h = ends p r a b s s' told e h

  runs_on : (p a b : ℕ) (s s' : Scene T) (ms : List (Moment T)) → AppendsAlone p ms → Run s ms s' → Counts p a b s
      → Counts p (a + appended_by p ms) (b + pushes_of p ms) s'
  runs_on p a b s s' [] own e h = subst (Counts p (a + 0) (b + 0)) (sym e) (omega (arith, h))
  runs_on p a b s s' (m ∷ ms) own (mid, first, rest) h =
      let next = happens p a b s mid m own.0 first h in
      let z = runs_on p (a + one_of p (who_appends m)) (b + one_of p (who_pushes m)) mid s' ms own.1 rest next in omega (arith, z)

  seen_push : (call : Call T) (x : T) (xs : List (Sight T)) → AtSome (MayAnswer call (Pushed (Err (Full x)))) xs
      → pushing call ≡ 1
  seen_push call x [] z = elim z [ ]
  seen_push call x (s ∷ ss) (inl at) = grind (arith, nat_tests)
  seen_push call x (s ∷ ss) (inr later) = seen_push call x ss later

  refused : (p a b : ℕ) (x : T) (s s' : Scene T) → Happens s (Ends p (Pushed (Err (Full x)))) s' → Counts p a b s → a + 1 ≤ b
  refused p a b x s s' (c, is, may, from, e) h = let one = ap owes_in is ∙ by_answer c.answer may in omega (arith, one, h)
    where
      by_answer : (o : Option (Answer T)) → MayEnd c o (Pushed (Err (Full x))) → owes c.call o ≡ 1
      by_answer o at = grind (arith, nat_tests, seen_push, x)

  -- whose item is on its way in is in a call
  abbrev InCall : Scene T → Type 0
  InCall s = IfSome s.sight.incoming (λ i. IsSome (s.calls i.0))

  stays_in_call : (s s' : Scene T) (m : Moment T) → Happens s m s' → InCall s → InCall s'
  stays_in_call s s' (Begins r call) (none, e) h = grind (arith, nat_tests)
  stays_in_call s s' (Does r a) (c, is, none, (q, did, beside, e)) h = grind (arith, nat_tests)
  stays_in_call s s' (Displaces r y) (c, x, is, none, of, inc, full, unspent, at, first, e) h = grind (arith, nat_tests)
  stays_in_call s s' (Arrives r) (x, inc, e) h = subst InCall (sym e) tt
  stays_in_call s s' (Ends r a) (c, is, may, from, e) h = grind (arith, nat_tests)

  pub run_stays_in_call : (s s' : Scene T) (ms : List (Moment T)) → Run s ms s' → InCall s → InCall s'
  run_stays_in_call s s' [] e h = subst InCall (sym e) h
  run_stays_in_call s s' (m ∷ ms) (mid, first, rest) h = run_stays_in_call mid s' ms rest (stays_in_call s mid m first h)

  none_coming : (p : ℕ) (s : Scene T) → s.calls p ≡ None → (o : Option (ℕ × T)) → IfSome o (λ i. IsSome (s.calls i.0))
      → coming_of p o ≡ 0
  none_coming p s none o h = grind (arith, nat_tests)

  by_both_pushes : (p : ℕ) (xs ys : List (Moment T)) → pushes_of p (xs ++ ys) ≡ pushes_of p xs + pushes_of p ys
  by_both_pushes p [] ys = omega arith
  by_both_pushes p (x ∷ xs) ys = let z = by_both_pushes p xs ys in omega (arith, z)

  -- from where p asks for the length
  pub fewer_appended : (p k : ℕ) (x : T) (s s' : Scene T) (during since after : List (Moment T)) → InCall s
      → AppendsAlone p (during ++ since)
      → Run s (Begins p Len ∷ during ++ Ends p (LenIs k) ∷ (since ++ (Ends p (Pushed (Err (Full x))) ∷ after))) s'
      → appended_by p (during ++ since) + 1 ≤ pushes_of p (during ++ since)
  fewer_appended p k x s s' during since after in_call own (asked, begun, rest) =
      let both = alone_cut p during since own in
      let looking = cut asked s' during (Ends p (LenIs k) ∷ (since ++ (Ends p (Pushed (Err (Full x))) ∷ after))) rest in
      let looked : Scene T = looking.0 in let told : Scene T = looking.2.0 in
      let ending = cut told s' since (Ends p (Pushed (Err (Full x))) ∷ after) looking.2.2 in
      let none = ap owes_in begun.0 in let no = none_coming p s begun.0 s.sight.incoming in_call in
      let first : Counts p 0 0 s = omega (arith, none, no) in
      let at_asked = happens p 0 0 s asked (Begins p Len) tt begun first in
      let at_looked = runs_on p (0 + 0) (0 + 0) asked looked during both.0 looking.1 at_asked in
      let at_told = happens p _ _ looked told (Ends p (LenIs k)) tt looking.2.1 at_looked in
      let at_end = runs_on p _ _ told ending.0 since both.1 ending.1 at_told in
      let le = refused p _ _ x ending.0 ending.2.0 ending.2.1 at_end in
      let a = by_both p during since in let b = by_both_pushes p during since in omega (arith, le, a, b)
