-- For keepers_are_called.
-- What a thing to do may leave of the own queues, of who has a kept future in hand, and of the runs that are over.
use Rattle.std.proofs.Common.{◌≡◌, ◌≢◌, ◌⊎◌, ◌∙◌, ℕ, ◌+◌, ◌<◌, ◌≤◌, List, [], ◌∷◌, ◌++◌, length, get_or, Bool, true, false}
use Rattle.std.proofs.Common.{◌||◌, eqb, refl, sym, ap, subst, inl, inr, ⊎_elim, arith}
use Rattle.std.{proofs.lemmas.Bool.Decides.nat_tests, specs.Prelude.not, specs.Prelude.nat_lt}
use Rattle.executor_model.specs.World.{World, Done, own_of, run_of}
use Rattle.executor_model.specs.{Doing.act, Sound.times, Trace.Trace, Trace.has, Weights.same, Weights.weigh}
use Rattle.executor_model.proofs.OwnQueues.UsingWorlds.{Idle, idle-act, is_past}
use Rattle.executor_model.proofs.OwnQueues.Using.{is_for_runs, mild-next}
use Rattle.executor_model.proofs.{Steps.Lists.same_cases, Polls.Dueness.is_last}
use Rattle.executor_laws.proofs.Keepers.KeptTrace.{Parted, has-both, or-true}
use Rattle.executor_laws.proofs.Keepers.KeptWeights.{load_of, mild-quits, quits_of, readies_of}
use Rattle.executor_laws.proofs.{Types.Event, Types.Op, Types.TickOrRun, Types.UserOp, Types.Hint, Wakeups.StandsSeats.Seated}

-- future f was ready or dropped
abbrev pub Gone : ℕ → Trace → Type 0
Gone f es = has (is_last f) es ≡ true

-- run r was made, and is over
abbrev pub IsPast : World → ℕ → Type 0
IsPast w r = (r < length w.runs) × (is_past (run_of w r) ≡ true)

-- what old leads to
pub record Leads (w : World) (old : List Op) (d : Done) : Type 0 where
  -- a run that was made stays so, and one that is over stays over
  pub count : length w.runs ≤ length d.world.runs
  pub past : (r : ℕ) → IsPast w r → IsPast d.world r
  -- who is over was so before, or will be answered that it is ready, or is being dropped
  pub fresh : (r : ℕ) → IsPast d.world r → IsPast w r ⊎ ((1 ≤ weigh (readies_of r) d.next) ⊎ Parted r d.world.trace)
  pub readies : (r : ℕ) → weigh (readies_of r) old ≤ weigh (readies_of r) d.next
  -- who leaves is over
  pub quits : (r : ℕ) → (weigh (quits_of r) d.next ≤ weigh (quits_of r) old) ⊎ IsPast d.world r
  -- what stood in an own queue stands there, or somebody has it in hand
  pub load : (f r : ℕ) →
      (times f (own_of w r) + weigh (load_of f) old ≤ times f (own_of d.world r) + weigh (load_of f) d.next)
      ⊎ (Gone f d.world.trace ⊎ IsPast w r)

-- where nothing of the runs changes but what stands in their queues

pub not-same : (a b : Bool) → not a ≡ not b → a ≡ b
not-same true true e = refl
not-same false false e = refl
not-same true false e = absurd (cc)
not-same false true e = absurd (cc)

pub past-seated : (w v : World) → ((t : TickOrRun) → Seated t w v) → (r : ℕ) → is_past (run_of v r) ≡ is_past (run_of w r)
past-seated w v s r =
    let d : (run_of v r).dropped ≡ (run_of w r).dropped = not-same _ _ (s (TickOrRun.Run r)).lives in
    λ i. d i || (s (TickOrRun.Run r)).over i

pub count-made : (n m : ℕ) → nat_lt n n ≡ nat_lt n m → m ≤ n
count-made n m e = grind (arith, nat_tests)

pub count-seated : (w v : World) → ((t : TickOrRun) → Seated t w v) → length v.runs ≡ length w.runs
count-seated w v s = omega (
  arith,
  count-made (length v.runs) (length w.runs) (s (TickOrRun.Run (length v.runs))).made,
  count-made (length w.runs) (length v.runs) (sym (s (TickOrRun.Run (length w.runs))).made),
)

pub steady : (w : World) (old : List Op) (d : Done) → ((r : ℕ) → is_past (run_of d.world r) ≡ is_past (run_of w r)) →
    length d.world.runs ≡ length w.runs → ((r : ℕ) → weigh (readies_of r) old ≡ 0) →
    ((r : ℕ) → weigh (quits_of r) d.next ≡ 0) →
    ((f r : ℕ) → times f (own_of w r) + weigh (load_of f) old ≤ times f (own_of d.world r) + weigh (load_of f) d.next) →
    Leads w old d
steady w old d p c z q l = record {
  count = omega (arith, c);
  past = λ r e. (omega (arith, e.0, c), p r ∙ e.1);
  fresh = λ r e. inl (omega (arith, e.0, c), sym (p r) ∙ e.1);
  readies = λ r. omega (arith, z r);
  quits = λ r. inl (omega (arith, q r));
  load = λ f r. inl (l f r);
}

pub of-idle : (w : World) (old : List Op) (d : Done) → Idle w d.world → ((r : ℕ) → weigh (readies_of r) old ≡ 0) →
    ((r : ℕ) → weigh (quits_of r) d.next ≡ 0) →
    ((f : ℕ) → weigh (load_of f) old ≤ weigh (load_of f) d.next) → Leads w old d
of-idle w old d i z q l = steady w old d i.past i.count z q
    (λ f r. omega (arith, l f, ap (λ (qs : List (List ℕ)). times f (get_or qs r [])) i.own))

-- what uses no run

plain-readies : (r : ℕ) (o : Op) → is_for_runs o ≡ false → readies_of r o ≡ 0
plain-readies r (Op.Run o) e = absurd (cc)
plain-readies r (Op.End a held) e = absurd (cc)
plain-readies r _ e = refl

gone-now : (f : ℕ) (p : ℕ) (es : Trace) → Gone f (es ++ Event.Dropped p f ∷ [])
gone-now f p es = has-both (is_last f) es (Event.Dropped p f ∷ [])
    ∙ (ap (λ (b : Bool). has (is_last f) es || (b || false)) (let z : eqb f f ≡ true = grind (arith, nat_tests) in z)
    ∙ or-true (has (is_last f) es))

-- the drop of a future begins
pub keeps-drop : (p : ℕ) (h : Hint) (g : ℕ) (w : World) →
    Leads w (Op.User (UserOp.BeginDrop g) ∷ []) (act p h (Op.User (UserOp.BeginDrop g)) w)
keeps-drop p h g w = record {
  count = omega arith;
  past = λ r e. e;
  fresh = λ r e. inl e;
  readies = λ r. omega arith;
  quits = λ r. inl (omega arith);
  load = λ f r. ⊎_elim
      (λ (x : (same f g ≡ 1) × (eqb f g ≡ true) × (f ≡ g)).
      inr (inl (subst (λ (n : ℕ). Gone f (w.trace ++ Event.Dropped p n ∷ [])) x.2 (gone-now f p w.trace))))
      (λ (x : (same f g ≡ 0) × (eqb f g ≡ false) × (f ≢ g)). inl (omega (arith, x.0)))
      (same_cases f g);
}

load-plain : (f : ℕ) (p : ℕ) (h : Hint) (o : Op) (w : World) → is_for_runs o ≡ false → load_of f o ≡ 0 →
    weigh (load_of f) (o ∷ []) ≤ weigh (load_of f) (act p h o w).next
load-plain f p h o w n z = omega (arith, z)

pub keeps-plain : (p : ℕ) (h : Hint) (o : Op) (w : World) → is_for_runs o ≡ false → ((f : ℕ) → load_of f o ≡ 0) →
    Leads w (o ∷ []) (act p h o w)
keeps-plain p h o w n z = of-idle w (o ∷ []) (act p h o w) (idle-act p h o w n)
    (λ r. omega (arith, plain-readies r o n)) (λ r. mild-next (quits_of r) (mild-quits r) p h o w n)
    (λ f. load-plain f p h o w n (z f))
