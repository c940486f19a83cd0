-- For some_standing_is_called.
-- Each call that ends keeps what holds of each tick and run.
use Rattle.std.proofs.Common.{◌≡◌, ◌≢◌, ◌∙◌, ℕ, zero, suc, ◌+◌, ◌≤◌, List, [], ◌∷◌, ◌++◌, Bool, true, false, ◌&&◌, cond, eqb}
use Rattle.std.proofs.Common.{refl, sym, ap, subst, arith}
use Rattle.std.proofs.lemmas.Bool.Decides.{nat_tests}
use Rattle.executor_laws.proofs.Types.{Reply, Event, Hold, Op, TickOrRun}
use Rattle.executor_model.specs.World.{World, log}
use Rattle.executor_laws.proofs.Wakeups.Stands.{View, view, Doing, with_doing, Footing, Stands, Mark, with-nothing, asks_of}
use Rattle.executor_laws.proofs.Wakeups.StandsNothing.{nothing-of}
use Rattle.executor_laws.proofs.Wakeups.StandsOwn.{Ended as EndedSo, own-within, own-apart, own-ended}
use Rattle.executor_laws.proofs.Wakeups.Watched.{Watched, is_pending, is_refusal, ended_in, watched, watched-push}

-- the end of a call

-- how the end of a call of party p is heard
pub data EndWatched (p : ℕ) (a : Reply) (h h2 : Watched) : Type 0 where
  -- it is the poll that is open
  own : h.asking ≡ true → h.party ≡ p → h.inner ≡ 0 →
      h2 ≡ record h { asking = false; pending = is_pending a; refused = is_refusal a } →
      EndWatched p a h h2
  -- it is inside of that
  within : (n : ℕ) → h.asking ≡ true → h.party ≡ p → h.inner ≡ suc n → h2 ≡ record h { inner = n } → EndWatched p a h h2
  -- it is neither
  apart : (h.asking ≡ true → h.party ≢ p) → h2 ≡ h → EndWatched p a h h2

pub watched-end : (t : TickOrRun) (p : ℕ) (a : Reply) (es : List Event) →
    EndWatched p a (watched t es) (watched t (es ++ Event.CallEnded p a ∷ []))
watched-end t p a es = go (watched t es).asking (eqb (watched t es).party p) (watched t es).inner refl refl refl
  where
    q : (b c : Bool) (n : ℕ) → (watched t es).asking ≡ b → eqb (watched t es).party p ≡ c → (watched t es).inner ≡ n →
        watched t (es ++ Event.CallEnded p a ∷ []) ≡ cond (b && c) (ended_in n a (watched t es)) (watched t es)
    q b c n x y z = watched-push t es (Event.CallEnded p a)
        ∙ (ap (λ (d : Bool). cond (d && eqb (watched t es).party p) (ended_in (watched t es).inner a (watched t es))
        (watched t es)) x
        ∙ (ap (λ (d : Bool). cond (b && d) (ended_in (watched t es).inner a (watched t es)) (watched t es)) y
        ∙ ap (λ (d : ℕ). cond (b && c) (ended_in d a (watched t es)) (watched t es)) z))

    go : (b c : Bool) (n : ℕ) → (watched t es).asking ≡ b → eqb (watched t es).party p ≡ c → (watched t es).inner ≡ n →
        EndWatched p a (watched t es) (watched t (es ++ Event.CallEnded p a ∷ []))
    go true true zero x y z = own x (grind (arith, nat_tests)) z (q true true zero x y z)
    go true true (suc n) x y z = within n x (grind (arith, nat_tests)) z (q true true (suc n) x y z)
    go true false n x y z = apart (λ k. let no : (watched t es).party ≢ p = grind (arith, nat_tests) in no)
        (q true false n x y z)
    go false c n x y z = apart (λ k. let no : true ≡ false = sym k ∙ x in absurd (cc)) (q false c n x y z)

-- the mark as the trace and what is to do have it
abbrev pub marked : View → Doing → Mark
marked v x = record {
  asking = v.seen.asking;
  party = v.seen.party;
  inner = v.seen.inner;
  asks = x.early +
      (x.pends + (x.refused + x.found));
}

-- the end of the poll that is open is what its party does
pub record Meets (t : TickOrRun) (p : ℕ) (a : Reply) (held : Hold) (h : Watched) : Type 0 where
  pub ends : h.asking ≡ true → h.party ≡ p → h.inner ≡ 0 → 1 ≤ asks_of t (Op.End a held)
  pub ended : 1 ≤ asks_of t (Op.End a held) → (h.asking ≡ true) × (h.party ≡ p) × (h.inner ≡ 0)

zero-or : (n : ℕ) → (1 ≤ n → ⊥) → n ≡ 0
zero-or zero k = refl
zero-or (suc n) k = absurd (k (omega arith))

module _ (t : TickOrRun) (p : ℕ) (a : Reply) (held : Hold) (w : World) (r : Doing) (m : Mark)
    (meets : Meets t p a held (watched t w.trace))
    (f : Footing (with_doing t (Op.End a held ∷ []) r) r)
    (h : Stands (view t w) (with_doing t (Op.End a held ∷ []) r) m) where
  abbrev last : World
  last = log w (Event.CallEnded p a)

  abbrev After : Type 0
  After = Stands (view t last) (with_doing t [] r) (marked (view t last) (with_doing t [] r))

  after-by : (s : Watched) → watched t last.trace ≡ s → EndedSo t a held (view t w) r m f h s → After
  after-by s e k = subst (λ (x : Watched × Doing). Stands (record (view t w) { seen = x.0 }) (with_doing t [] r)
      (marked (record (view t w) { seen = x.0 }) x.1))
      (λ i. (sym e i, sym (with-nothing t [] r (nothing-of t [] refl)) i)) k

  pub stands-end : EndWatched p a (watched t w.trace) (watched t last.trace) → After
  stands-end (own x q z e) = after-by _ e (own-ended a t held (view t w) r m (meets.ends x q z) f h)
  stands-end (within n x q z e) =
      after-by _ e (own-within t a held (view t w) r m f h n
      (zero-or _ (λ k. let y : _ = meets.ended k in absurd (omega (arith, y.2, z)))))
  stands-end (apart x e) =
      after-by _ e (own-apart t a held (view t w) r m f h
      (zero-or _ (λ k. let y : _ = meets.ended k in absurd (x y.0 y.1))))
