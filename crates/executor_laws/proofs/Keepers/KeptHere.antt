-- For keepers_are_called.
-- Where a future is that a run kept last, and what each step leaves of that where nothing is polled and nothing
-- comes into an own queue.
use Rattle.std.proofs.Common.{◌≡◌, ◌≢◌, ◌⊎◌, ◌∙◌, ℕ, ◌+◌, ◌<◌, ◌≤◌, List, [], ◌∷◌, ◌++◌, length, set, take, refl, sym, ap}
use Rattle.std.proofs.Common.{subst, inl, inr, ⊎_elim, arith}
use Rattle.std.specs.Prelude.{Some, reverse, slice_get}
use Rattle.executor_model.specs.{Sound.times, Steps.Machine, Steps.stack, Trace.Trace, Trace.has, Weights.weigh}
use Rattle.executor_model.specs.{Weights.weigh_all, World.World, World.Done, World.own_of}
use Rattle.executor_model.proofs.Steps.Lift.{split, unsettled}
use Rattle.executor_model.proofs.{Polls.AskingExecutions.Heard, Steps.Lists.weigh_all-push, OwnQueues.OwnRooms.Roomy}
use Rattle.executor_model.proofs.{Polls.Dueness.is_last, Steps.Tests.or-left}
use Rattle.executor_laws.proofs.Keepers.KeptLeads.{Gone, IsPast, Leads}
use Rattle.executor_laws.proofs.Keepers.KeptTrace.{Keeps, Parted, has-both, keeps-before, none-kept, parted-more}
use Rattle.executor_laws.proofs.Keepers.KeptWeights.{load_of, quits_of, readies_of}
use Rattle.executor_laws.proofs.{Types.Event, Types.Op, Keepers.KeptGrown.Grown, Wakeups.StandsSteps.Standing}

-- it is where it was kept, or on its way, or gone, or the run is over
abbrev pub Here : ℕ → ℕ → World → ℕ → Type 0
Here f r w n = (1 ≤ times f (own_of w r) + n) ⊎ (Gone f w.trace ⊎ IsPast w r)

pub record Keeping (s : Machine) : Type 0 where
  pub standing : Standing s
  pub heard : Heard s
  pub roomy : Roomy s
  pub leaves : (r : ℕ) → 1 ≤ weigh_all (quits_of r) s.parties → IsPast s.world r
  pub parted : (r : ℕ) → IsPast s.world r → Parted r s.world.trace ⊎ (1 ≤ weigh_all (readies_of r) s.parties)
  pub keeps : (f r place : ℕ) → Keeps f r place s.world.trace →
      (r < length s.world.runs) × Here f r s.world (weigh_all (load_of f) s.parties)

pub take-whole : (es : Trace) → take (length es) es ≡ es
take-whole [] = refl
take-whole (e ∷ es) = ap (λ (xs : Trace). e ∷ xs) (take-whole es)

pub gone-more : (f : ℕ) (w v : World) → (more : Trace) → v.trace ≡ w.trace ++ more → Gone f w.trace → Gone f v.trace
gone-more f w v more e g = ap (has (is_last f)) e ∙ (has-both (is_last f) w.trace more ∙ or-left _ _ g)

-- a step that leads on, by what is added to the trace

module _ (s : Machine) (p : ℕ) (old rest : List Op) (d : Done) (l : p < length s.parties)
    (e : stack s p ≡ rest ++ reverse old) (k : Keeping s) where
  abbrev after : List (List Op)
  after = set s.parties p (rest ++ reverse d.next)

  abbrev others : List (List Op)
  others = set s.parties p rest

  was : (v : Op → ℕ) → weigh_all v s.parties ≡ weigh v old + weigh_all v others
  was v = split v s.parties p old rest l e

  now_is : (v : Op → ℕ) → weigh_all v after ≡ weigh v d.next + weigh_all v others
  now_is v = weigh_all-push v s.parties p rest d.next l

  module _ (c : Leads s.world old d) where
    leaves-on : (r : ℕ) → 1 ≤ weigh_all (quits_of r) after → IsPast d.world r
    leaves-on r z = ⊎_elim
        (λ (x : weigh (quits_of r) d.next ≤ weigh (quits_of r) old).
        c.past r (k.leaves r (omega (arith, z, x, was (quits_of r), now_is (quits_of r)))))
        (λ (x : IsPast d.world r). x)
        (c.quits r)

    parted-on : (more : Trace) → d.world.trace ≡ s.world.trace ++ more →
        ((r : ℕ) → IsPast s.world r → (n q f : ℕ) → slice_get more n ≢ Some (Event.Kept q f r)) → (r : ℕ) →
        IsPast d.world r → Parted r d.world.trace ⊎ (1 ≤ weigh_all (readies_of r) after)
    parted-on more i none r z = by (c.fresh r z)
      where
        by : IsPast s.world r ⊎ ((1 ≤ weigh (readies_of r) d.next) ⊎ Parted r d.world.trace) →
            Parted r d.world.trace ⊎ (1 ≤ weigh_all (readies_of r) after)
        by (inl x) = ⊎_elim
            (λ (y : Parted r s.world.trace). inl (subst (Parted r) (sym i) (parted-more r s.world.trace more
            (none r x) y)))
            (λ (y : 1 ≤ weigh_all (readies_of r) s.parties).
            inr (omega (arith, y, c.readies r, was (readies_of r), now_is (readies_of r))))
            (k.parted r x)
        by (inr (inl x)) = inr (omega (arith, x, now_is (readies_of r)))
        by (inr (inr x)) = inl x

    -- it was kept before
    here-on : (more : Trace) → d.world.trace ≡ s.world.trace ++ more → (f r place : ℕ) →
        Keeps f r place s.world.trace →
        (r < length d.world.runs) × Here f r d.world (weigh_all (load_of f) after)
    here-on more i f r place x = let y : _ = k.keeps f r place x in (omega (arith, y.0, c.count), by y.1)
      where
        by : Here f r s.world (weigh_all (load_of f) s.parties) → Here f r d.world (weigh_all (load_of f) after)
        by (inl z) = ⊎_elim
            (λ (q : times f (own_of s.world r) + weigh (load_of f) old
            ≤ times f (own_of d.world r) + weigh (load_of f) d.next).
            inl (omega (arith, z, q, was (load_of f), now_is (load_of f))))
            (λ (q : Gone f d.world.trace ⊎ IsPast s.world r). ⊎_elim (λ (g : Gone f d.world.trace). inr (inl g))
            (λ (g : IsPast s.world r). inr (inr (c.past r g))) q)
            (c.load f r)
        by (inr (inl z)) = inr (inl (gone-more f s.world d.world more i z))
        by (inr (inr z)) = inr (inr (c.past r z))

    -- nothing comes into an own queue, and nothing is polled
    pub keeping-on : Grown s.world d.world → Standing (unsettled s p rest d) → Heard (unsettled s p rest d) →
        Roomy (unsettled s p rest d) → Keeping (unsettled s p rest d)
    keeping-on g a b r = record {
      standing = a;
      heard = b;
      roomy = r;
      leaves = leaves-on;
      parted = parted-on g.more g.is (λ q x n o f. none-kept q g.more g.none n o f);
      keeps = λ f q place x. here-on g.more g.is f q place
          (keeps-before f q place s.world.trace g.more g.none (subst (Keeps f q place) g.is x));
    }
