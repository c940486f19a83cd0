-- For keepers_are_called.
-- Where a task is taken up, its future is polled or will be dropped.
use Rattle.std.proofs.Common.{◌≡◌, ◌≢◌, ◌⊎◌, ◌∙◌, ℕ, ◌<◌, ◌≤◌, List, [], ◌∷◌, ◌++◌, length, get_or, set, append-nil, Bool, true}
use Rattle.std.proofs.Common.{false, not, eqb, refl, sym, ap, subst, inl, inr, ⊎_elim, arith}
use Rattle.std.specs.Prelude.{Some, reverse, slice_get}
use Rattle.executor_model.specs.{Carried.drop_ops, Carried.owed_ops, Doing.act, Rows.drops_of, Rows.settling_of, Sound.Over}
use Rattle.executor_model.specs.{Sound.phase, Sound.times, Steps.Machine, Steps.stack, Trace.Trace, Weights.same, Weights.weigh}
use Rattle.executor_model.specs.{Weights.weigh_all, World.Done, World.log_if, World.among, World.task}
use Rattle.executor_model.proofs.Steps.Lists.{same_cases, same_is, weigh_all-below, weigh_all-push}
use Rattle.executor_model.proofs.OwnQueues.UsingWorlds.{Idle, idle-act}
use Rattle.executor_model.proofs.{Polls.Dueness.over-last, Polls.Dueness.is_over, Polls.AskingExecutions.Heard}
use Rattle.executor_model.proofs.{Steps.Lift.split, Steps.Lift.unsettled, OwnQueues.OwnRooms.Roomy, OwnQueues.Using.mild-next}
use Rattle.executor_laws.proofs.Keepers.KeptTrace.{Keeps, Kept, Parted, keeps-one, one-other, parted-more}
use Rattle.executor_laws.proofs.Keepers.KeptTrace.Kept.{now, before}
use Rattle.executor_laws.proofs.Keepers.KeptWeights.{drops-load, load_of, mild-quits, quits_of, readies_of}
use Rattle.executor_laws.proofs.Keepers.KeptHere.{Here, Keeping, gone-more}
use Rattle.executor_laws.proofs.Keepers.KeptLeads.{Gone, IsPast}
use Rattle.executor_laws.proofs.{Types.Move, Types.Event, Types.Op, Types.Hint, Wakeups.StandsSteps.Standing}
use Rattle.task_moves.specs.Moves as moves

-- a task is taken up

module _ (s : Machine) (p : ℕ) (g : ℕ) (rest : List Op) (h : Hint) (l : p < length s.parties)
    (e : stack s p ≡ rest ++ reverse (Op.Move Move.TakeUp g ∷ [])) (k : Keeping s) where
  abbrev taken : Done
  taken = act p h (Op.Move Move.TakeUp g) s.world

  idle-taken : Idle s.world taken.world
  idle-taken = idle-act p h (Op.Move Move.TakeUp g) s.world refl

  past-taken : (r : ℕ) → IsPast s.world r → IsPast taken.world r
  past-taken r x = (omega (arith, x.0, idle-taken.count), idle-taken.past r ∙ x.1)

  past-was : (r : ℕ) → IsPast taken.world r → IsPast s.world r
  past-was r x = (omega (arith, x.0, idle-taken.count), sym (idle-taken.past r) ∙ x.1)

  none-quits : (r : ℕ) → weigh (quits_of r) taken.next ≡ 0
  none-quits r = mild-next (quits_of r) (mild-quits r) p h (Op.Move Move.TakeUp g) s.world refl

  -- of another future
  other-taken : (f r place : ℕ) → same f g ≡ 0 → (more : Trace) → taken.world.trace ≡ s.world.trace ++ more →
      Keeps f r place s.world.trace →
      (r < length taken.world.runs)
      × Here f r taken.world (weigh_all (load_of f) (set s.parties p (rest ++ reverse taken.next)))
  other-taken f r place z more i x = let y : _ = k.keeps f r place x in (omega (arith, y.0, idle-taken.count), by y.1)
    where
      by : Here f r s.world (weigh_all (load_of f) s.parties) →
          Here f r taken.world (weigh_all (load_of f) (set s.parties p (rest ++ reverse taken.next)))
      by (inl w) = inl (omega (
        arith,
        w,
        z,
        split (load_of f) s.parties p (Op.Move Move.TakeUp g ∷ []) rest l e,
        weigh_all-push (load_of f) s.parties p rest taken.next l,
        ap (λ (qs : List (List ℕ)). times f (get_or qs r [])) idle-taken.own,
      ))
      by (inr (inl w)) = inr (inl (gone-more f s.world taken.world more i w))
      by (inr (inr w)) = inr (inr (past-taken r w))

  pub keeping-taken : Standing (unsettled s p rest taken) → Heard (unsettled s p rest taken) →
      Roomy (unsettled s p rest taken) → Keeping (unsettled s p rest taken)
  keeping-taken a b c = by (task s.world g).closed refl
    where
      leaves : (r : ℕ) → 1 ≤ weigh_all (quits_of r) (set s.parties p (rest ++ reverse taken.next)) →
          IsPast taken.world r
      leaves r z = past-taken r (k.leaves r (omega (
        arith,
        z,
        none-quits r,
        split (quits_of r) s.parties p (Op.Move Move.TakeUp g ∷ []) rest l e,
        weigh_all-push (quits_of r) s.parties p rest taken.next l,
      )))

      parted : (more : Trace) → taken.world.trace ≡ s.world.trace ++ more →
          ((r n q f : ℕ) → slice_get more n ≢ Some (Event.Kept q f r)) → (r : ℕ) → IsPast taken.world r →
          Parted r taken.world.trace
          ⊎ (1 ≤ weigh_all (readies_of r) (set s.parties p (rest ++ reverse taken.next)))
      parted more i none r z = ⊎_elim
          (λ (y : Parted r s.world.trace). inl (subst (Parted r) (sym i)
          (parted-more r s.world.trace more (none r) y)))
          (λ (y : 1 ≤ weigh_all (readies_of r) s.parties). inr (omega (
            arith,
            y,
            split (readies_of r) s.parties p (Op.Move Move.TakeUp g ∷ []) rest l e,
            weigh_all-push (readies_of r) s.parties p rest taken.next l,
          )))
          (k.parted r (past-was r z))

      -- it is open, and polled
      polled : (task s.world g).closed ≡ false → taken.world.trace ≡ s.world.trace ++ Event.PollBegun p g ∷ []
      polled q = ap (λ (t : Bool). (log_if (not t) s.world (Event.PollBegun p g)).trace) q

      -- it is closed, and will be dropped
      unpolled : (task s.world g).closed ≡ true → taken.world.trace ≡ s.world.trace
      unpolled q = ap (λ (t : Bool). (log_if (not t) s.world (Event.PollBegun p g)).trace) q

      settles : (task s.world g).closed ≡ true → 1 ≤ weigh (settling_of g) taken.next
      settles q = subst (λ (t : Bool). 1 ≤ weigh (settling_of g)
          (owed_ops (among g (log_if (not t) s.world (Event.PollBegun p g)).table) g
          (moves.take_up_by t (task s.world g)).owed)) (sym q) (one (among g s.world.table))
        where
          one : (there : Bool) →
              1 ≤ weigh (settling_of g) (drop_ops there g ++ [] ++ [] ++ (Op.Move Move.SettleClosed g ∷ []) ++ [])
          one true = grind (arith, same_is)
          one false = grind (arith, same_is)

      dropped : (f : ℕ) → f ≡ g → (task s.world g).closed ≡ true →
          (1 ≤ weigh_all (load_of f) (set s.parties p (rest ++ reverse taken.next))) ⊎ Gone f taken.world.trace
      dropped f i q = ⊎_elim
          (λ (y : 1 ≤ weigh_all (drops_of f) (set s.parties p (rest ++ reverse taken.next))). inl (omega (
            arith,
            y,
            weigh_all-below (drops_of f) (load_of f) (drops-load f) (set s.parties p (rest ++ reverse taken.next)),
          )))
          (λ (y : phase f taken.world.trace ≡ Over). inr (over-last f taken.world.trace (ap is_over y)))
          ((b.asked f).settled (omega (
            arith,
            settles q,
            ap (λ (n : ℕ). weigh (settling_of n) taken.next) i,
            weigh_all-push (settling_of f) s.parties p rest taken.next l,
          )))

      keeps-closed : (task s.world g).closed ≡ true → (f r place : ℕ) → Keeps f r place taken.world.trace →
          (r < length taken.world.runs)
          × Here f r taken.world (weigh_all (load_of f) (set s.parties p (rest ++ reverse taken.next)))
      keeps-closed q f r place x =
          let y : Keeps f r place s.world.trace = subst (Keeps f r place) (unpolled q) x in
          ⊎_elim
          (λ (z : (same f g ≡ 1) × (eqb f g ≡ true) × (f ≡ g)).
          let i : _ = k.keeps f r place y in (
            omega (arith, i.0, idle-taken.count),
            ⊎_elim
                (λ (j : 1 ≤ weigh_all (load_of f) (set s.parties p (rest ++ reverse taken.next))).
                inl (omega (arith, j)))
                (λ (j : Gone f taken.world.trace). inr (inl j)) (dropped f z.2 q),
          ))
          (λ (z : (same f g ≡ 0) × (eqb f g ≡ false) × (f ≢ g)).
          other-taken f r place z.0 [] (unpolled q ∙ sym (append-nil s.world.trace)) y)
          (same_cases f g)

      keeps-open : (task s.world g).closed ≡ false → (f r place : ℕ) → Keeps f r place taken.world.trace →
          (r < length taken.world.runs)
          × Here f r taken.world (weigh_all (load_of f) (set s.parties p (rest ++ reverse taken.next)))
      keeps-open q f r place x = on (keeps-one f r place s.world.trace (Event.PollBegun p g)
          (subst (Keeps f r place) (polled q) x))
        where
          on : Kept f r place s.world.trace (Event.PollBegun p g) → (r < length taken.world.runs)
              × Here f r taken.world (weigh_all (load_of f) (set s.parties p (rest ++ reverse taken.next)))
          on (now n i) = absurd (cc)
          on (before y i j) = other-taken f r place (⊎_elim
              (λ (z : (same f g ≡ 1) × (eqb f g ≡ true) × (f ≡ g)). absurd
              (let no : true ≡ false = sym z.1 ∙ j in cc))
              (λ (z : (same f g ≡ 0) × (eqb f g ≡ false) × (f ≢ g)). z.0)
              (same_cases f g)) (Event.PollBegun p g ∷ []) (polled q) y

      by : (t : Bool) → (task s.world g).closed ≡ t → Keeping (unsettled s p rest taken)
      by true q = record {
        standing = a;
        heard = b;
        roomy = c;
        leaves = leaves;
        parted = parted [] (unpolled q ∙ sym (append-nil s.world.trace)) (λ r n m f z. absurd (cc));
        keeps = keeps-closed q;
      }
      by false q = record {
        standing = a;
        heard = b;
        roomy = c;
        leaves = leaves;
        parted = parted (Event.PollBegun p g ∷ []) (polled q)
            (λ r. one-other r (Event.PollBegun p g) (λ m f z. absurd (cc)));
        keeps = keeps-open q;
      }
