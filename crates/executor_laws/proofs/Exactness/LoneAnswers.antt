-- For ticks_are_exact, calls_at_rest_are_exact and lone_calls_are_exact.
-- Whole calls that a party makes alone are answered as it is.
use Rattle.std.proofs.Common.{◌≡◌, ◌⊎◌, ℕ, ◌<◌, List, [], ◌∷◌, ◌++◌, length, set, true, ltb, refl, sym, ap, ◌∙◌, subst, inl}
use Rattle.std.proofs.Common.{inr, ⊎_elim, arith, Ok, get_or-set_same}
use Rattle.std.{proofs.Math.ListN.length-set, proofs.lemmas.Bool.Decides.nat_tests, specs.Prelude.Some, specs.Prelude.None}
use Rattle.executor_parts.specs.Marks.{first_of}
use Rattle.executor_laws.proofs.Types.{Call, Reply, Event, Kind, Op, TableOp, Hint, Step, Begin, Go}
use Rattle.executor_model.specs.declared.step.Step.TheVariants.{Answer}
use Rattle.executor_model.specs.Steps.{Machine, stack, top, answer_refusal, onto, part_after, with_part, after, refusal, run}
use Rattle.executor_model.specs.Emptiness.{AllDropped, AnswersAlone, IsAtRest, IsQuietEmptinessExact, asks_alone}
use Rattle.executor_model.specs.{Steps.start, Keeper.IsCommon, Acts.look_at_table, Executions.run_all, World.log}
use Rattle.executor_laws.specs.LoneAnswers.{IsAnswered, IsLoneEmptinessExact, IsLoneTickExact}
use Rattle.executor_laws.specs.{LoneEnds.are_onward_of, LoneEnds.IsLoneCall, Reach.TakesCommon}
use Rattle.executor_model.proofs.Steps.Reached.{Reached, run-first, run-then, run-of, reached-more, good-here, deep-here}
use Rattle.executor_model.proofs.{Emptiness.Quieting.quiet-emptiness, Quiet.Resting.rests}
use Rattle.executor_laws.proofs.Reach.LoneTicks.{left-true, in-range, of-party, after-is, no-more}
use Rattle.executor_laws.proofs.Reach.Spots.{AllEmpty, Spot, spot}
use Rattle.executor_laws.proofs.Reach.Searching.{First, first-taken, none-found}
use Rattle.executor_laws.proofs.Reach.Reaching.{spot-common, takes-common}
use Rattle.executor_laws.proofs.{Reach.Reached.bonded-here, Reach.Reached.heard-here, Placement.Placing.idle}

-- a call has one answer

abbrev ends-in : Event → List Event → Event
ends-in d [] = d
ends-in d (e ∷ es) = ends-in e es

ends-push : (d e : Event) (es : List Event) → ends-in d (es ++ e ∷ []) ≡ e
ends-push d e [] = refl
ends-push d e (x ∷ xs) = ends-push x e xs

ends-after : (d e : Event) (xs ys : List Event) → ends-in d (xs ++ (ys ++ e ∷ [])) ≡ e
ends-after d e [] ys = ends-push d e ys
ends-after d e (x ∷ xs) ys = ends-after x e xs ys

one-answer : (p : ℕ) (c : Call) (a b : Reply) (s new : Machine) → IsAnswered p c a s new → IsAnswered p c b s new →
    ◌≡◌ {A = Event} (Event.CallEnded p a) (Event.CallEnded p b)
one-answer p c a b s new x y =
    sym (ends-after (Event.DropBegun 0) (Event.CallEnded p a) s.world.trace (Event.CallBegun p c ∷ x.0))
    ∙ (ap (ends-in (Event.DropBegun 0)) (sym x.1 ∙ y.1)
    ∙ ends-after (Event.DropBegun 0) (Event.CallEnded p b) s.world.trace (Event.CallBegun p c ∷ y.0))

-- ticks

module _ (s : Machine) (r : Reached s) (rest : IsAtRest s) (p : ℕ) (steps : List Step) (new : Machine)
    (k : IsLoneCall p Call.TryTick steps s new) where
  nothing : AllEmpty s.world → IsAnswered p Call.TryTick Reply.No s new
  nothing e = (Event.Looked p (first_of s.world.urgent_turns) ∷ [], none-found s r rest p steps new k e)

  something : Spot s.world → IsAnswered p Call.TryTick Reply.Yes s new
  something x = let t : First x.mark x.future p Call.TryTick Reply.Yes s new =
      first-taken s r rest p Call.TryTick Reply.Yes refl steps new k x in (t.meanwhile, t.events)

  tick-answered : IsAnswered p Call.TryTick Reply.Yes s new ⊎ IsAnswered p Call.TryTick Reply.No s new
  tick-answered = ⊎_elim
      (λ (e : AllEmpty s.world). inr (nothing e))
      (λ (x : Spot s.world). inl (something x))
      (spot s.world)

  tick-none : ((f : ℕ) → ¬ IsCommon f s.world.trace) → IsAnswered p Call.TryTick Reply.No s new
  tick-none z = ⊎_elim
      (λ (e : AllEmpty s.world). nothing e)
      (λ (x : Spot s.world). absurd (z x.future (spot-common s r rest x)))
      (spot s.world)

  tick-only : IsAnswered p Call.TryTick Reply.No s new → (f : ℕ) → ¬ IsCommon f s.world.trace
  tick-only a f c =
      let t : TakesCommon p Call.TryTick Reply.Yes s new = takes-common s r rest f c p Call.TryTick Reply.Yes refl steps
      new k in
      let no : ◌≡◌ {A = Event} (Event.CallEnded p Reply.Yes) (Event.CallEnded p Reply.No) =
      one-answer p Call.TryTick Reply.Yes Reply.No s new (t.meanwhile, t.events) a in
      absurd (cc)

-- emptiness

abbrev looking : Machine → ℕ → Machine
looking s p = record {
  world = log s.world (Event.CallBegun p Call.IsEmpty);
  parties = set s.parties p
      (Op.Table TableOp.LookAtTable ∷ []);
}

-- the machine after the look
abbrev looked : Machine → ℕ → Machine
looked s p = with_part (looking s p) p (onto p (look_at_table (looking s p).world) [])

module _ (s : Machine) (r : Reached s) (rest : IsAtRest s) (p : ℕ) (steps : List Step) (new : Machine)
    (k : IsLoneCall p Call.IsEmpty steps s new) where
  idles : (q : ℕ) → stack s q ≡ []
  idles q = idle s (good-here s r) (heard-here s r) (deep-here s r) (bonded-here s r) rest q

  new-idle : stack new p ≡ []
  new-idle = rests new (deep-here new (reached-more (Begin p Call.IsEmpty ∷ steps) s new r k.made)) k.ended p

  possible : refusal s (Begin p Call.IsEmpty) ≡ None
  possible = (run-first (Begin p Call.IsEmpty) steps s new k.made).0

  in-parties : p < length s.parties
  in-parties = let b : ltb p (length s.parties) ≡ true = (in-range _ _ possible).0 in grind (arith, nat_tests)

  begins : after s (Begin p Call.IsEmpty) ≡ looking s p
  begins = ap (λ (os : List Op). with_part s p (part_after s.world os (Begin p Call.IsEmpty))) (idles p)

  on-looking : run_all steps (looking s p) ≡ Ok new
  on-looking = sym (ap (λ (m : Machine). run_all steps m) begins)
      ∙ (run-first (Begin p Call.IsEmpty) steps s new k.made).1

  looks-first : stack (looking s p) p ≡ Op.Table TableOp.LookAtTable ∷ []
  looks-first = get_or-set_same s.parties p (Op.Table TableOp.LookAtTable ∷ []) [] in-parties

  looked-idle : stack (looked s p) p ≡ []
  looked-idle = get_or-set_same (looking s p).parties p [] [] (omega (
    arith,
    in-parties,
    length-set s.parties p (Op.Table TableOp.LookAtTable ∷ []),
  ))

  -- it looks, and that is all that it does
  abbrev Looks : Type 0
  Looks = (h : Hint) × (run_all (asks_alone p h) s ≡ Ok new)

  looks : (ts : List Step) → are_onward_of p ts ≡ true → run_all ts (looking s p) ≡ Ok new → Looks
  looks [] on e =
      let same : looking s p ≡ new = cc in
      let no : ◌≡◌ {A = List Op} (Op.Table TableOp.LookAtTable ∷ []) [] = sym looks-first
      ∙ (ap (λ (m : Machine). stack m p) same ∙ new-idle) in absurd (cc)
  looks (Begin q c ∷ ts) on e = absurd (cc)
  looks (Go q h ∷ ts) on e =
      let b : _ = left-true _ (are_onward_of p ts) on in
      let j : _ = run-first (Go q h) ts (looking s p) new e in
      let m : _ = of-party p (looking s p) (Go q h) b.0 j.0 in
      let gone : after (looking s p) (Go q h) ≡ looked s p =
      after-is p (looking s p) (Go q h) m.0
      ∙ (ap (λ (os : List Op). with_part (looking s p) p (part_after (looking s p).world os (Go q h))) looks-first
      ∙ ap (λ (i : ℕ). with_part (looking s p) p
      (part_after (looking s p).world (Op.Table TableOp.LookAtTable ∷ []) (Go i h))) m.0) in
      let last : looked s p ≡ new =
      no-more p ts (looked s p) new looked-idle b.1 (sym (ap (λ (x : Machine). run_all ts x) gone) ∙ j.1) in
      let mine : refusal (looking s p) (Go p h) ≡ None =
      subst (λ (i : ℕ). refusal (looking s p) (Go i h) ≡ None) m.0 j.0 in
      let there : after (looking s p) (Go p h) ≡ new = ap (λ (i : ℕ). after (looking s p) (Go i h)) (sym m.0)
      ∙ (gone ∙ last) in
      let goes : run_all (Go p h ∷ []) (looking s p) ≡ Ok new =
      run-then (Go p h) [] (looking s p) new mine (ap Ok there) in (
        h,
        run-then (Begin p Call.IsEmpty) (Go p h ∷ []) s new possible
            (ap (λ (x : Machine). run_all (Go p h ∷ []) x) begins ∙ goes),
      )
  looks (Answer q u ∷ ts) on e =
      let b : _ = left-true _ (are_onward_of p ts) on in
      let j : _ = run-first (Answer q u) ts (looking s p) new e in
      let m : _ = of-party p (looking s p) (Answer q u) b.0 j.0 in
      let no : answer_refusal (Some (Op.Table TableOp.LookAtTable)) u ≡ None =
      sym (ap (λ (os : List Op). answer_refusal (top os) u) looks-first) ∙ m.2 in absurd (cc)

  found : Looks
  found = looks steps k.alone on-looking

  exact : IsQuietEmptinessExact s
  exact = quiet-emptiness s (good-here s r) (heard-here s r).placed (deep-here s r)

  answers-so : (a : Reply) → AnswersAlone s p found.0 a → IsAnswered p Call.IsEmpty a s new
  answers-so a e = ([], sym (ap (λ (m : Machine). m.world.trace) (run-of (asks_alone p found.0) s new found.1)) ∙ e)

  emptiness-answered : IsAnswered p Call.IsEmpty Reply.Yes s new ⊎ IsAnswered p Call.IsEmpty Reply.No s new
  emptiness-answered =
      ⊎_elim (λ e. inl (answers-so Reply.Yes e)) (λ e. inr (answers-so Reply.No e))
      (exact.answered rest p found.0 in-parties)

  emptiness-always : AllDropped s.world.trace → IsAnswered p Call.IsEmpty Reply.Yes s new
  emptiness-always d = answers-so Reply.Yes (exact.always rest p found.0 in-parties d)

  emptiness-only : IsAnswered p Call.IsEmpty Reply.Yes s new → AllDropped s.world.trace
  emptiness-only a = ⊎_elim
      (λ e. exact.only rest p found.0 in-parties e)
      (λ e. let no : ◌≡◌ {A = Event} (Event.CallEnded p Reply.Yes)
      (Event.CallEnded p Reply.No) = one-answer p Call.IsEmpty Reply.Yes Reply.No s new a (answers-so Reply.No e) in
      absurd (cc))
      (exact.answered rest p found.0 in-parties)

lone-tick : (s : Machine) → Reached s → IsLoneTickExact s
lone-tick s r = record {
  answered = λ rest p steps new k. tick-answered s r rest p steps new k;
  no = λ rest p steps new k.
      (λ a. tick-only s r rest p steps new k a, λ z. tick-none s r rest p steps new k z);
}

lone-emptiness : (s : Machine) → Reached s → IsLoneEmptinessExact s
lone-emptiness s r = record {
  answered = λ rest p steps new k. emptiness-answered s r rest p steps new k;
  yes = λ rest p steps new k.
      (λ a. emptiness-only s r rest p steps new k a, λ d. emptiness-always s r rest p steps new k d);
}

pub lone-ticks : (limit : ℕ) (kind : Kind) (parties : ℕ) (steps : List Step) → IsLoneTickExact (run steps (start limit kind parties))
lone-ticks limit kind parties steps =
    lone-tick (run steps (start limit kind parties)) (record { limit = limit; kind = kind; parties = parties; steps = steps; is = refl })

pub lone-emptinesses : (limit : ℕ) (kind : Kind) (parties : ℕ) (steps : List Step) →
    IsLoneEmptinessExact (run steps (start limit kind parties))
lone-emptinesses limit kind parties steps =
    lone-emptiness (run steps (start limit kind parties))
    (record { limit = limit; kind = kind; parties = parties; steps = steps; is = refl })
