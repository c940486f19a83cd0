-- For calls_do_what_they_say.
-- What each thing that is done adds to the trace: what its own party does, and no beginning or end of a call.
pub use Rattle.executor_model.proofs.Quiet.Calls.{is_end}
use Rattle.std.proofs.Common.{◌≡◌, ◌≢◌, ℕ, [], ◌∷◌, ◌++◌, Bool, true, false, ◌||◌, refl, sym, ap, ◌∙◌, append-nil, arith}
use Rattle.std.{proofs.lemmas.Bool.Decides.nat_tests, proofs.lemmas.List.append_assoc, specs.Prelude.Option}
use Rattle.executor_model.proofs.Types.{Call, Event, Op, Waker, Hint, UserEnd}
use Rattle.executor_model.specs.Steps.{begun, react}
use Rattle.executor_model.specs.{World.World, Doing.act, Trace.Trace, Trace.has, Deeds.doer, Deeds.is_by}
use Rattle.executor_model.proofs.Steps.Tests.{left-false, or-false, right-false}
use Rattle.executor_model.proofs.Steps.Parts.{Parts, Stay, Tells, Begins, Answers, by-begun, by-react}
use Rattle.executor_model.proofs.{Steps.TraceMore.has-append, Steps.ByParts.by-act, Steps.Parts.Answers.answered}
use Rattle.executor_model.proofs.{Steps.Parts.Begins.drop_begun, Steps.Parts.Tells.ended}

abbrev pub begins_one : Event → Bool
begins_one (Event.CallBegun p c) = true
begins_one _ = false

abbrev pub ends_one : Event → Bool
ends_one (Event.CallEnded p r) = true
ends_one _ = false

abbrev pub is_of_call : Event → Bool
is_of_call e = begins_one e || ends_one e

-- the trace of v is that of w and more that party p did, in which no call begins or ends
pub record Grows (p : ℕ) (w v : World) : Type 0 where
  pub more : Trace
  pub is : v.trace ≡ w.trace ++ more
  pub none_begins : has begins_one more ≡ false
  pub none_ends : has ends_one more ≡ false
  pub own : (q : ℕ) → q ≢ p → has (is_by q) more ≡ false

grows-same : {p : ℕ} (w v : World) → v.trace ≡ w.trace → Grows p w v
grows-same w v e =
    record { more = []; is = e ∙ sym (append-nil w.trace); none_begins = refl; none_ends = refl; own = λ q n. refl }

-- what p did nobody else did
pub not-by : (p q : ℕ) (e : Event) → doer e ≡ p → q ≢ p → is_by q e ≡ false
not-by p q e d n = grind (arith, nat_tests)

grows-log : {p : ℕ} (w v : World) (e : Event) → v.trace ≡ w.trace ++ e ∷ [] → is_of_call e ≡ false → doer e ≡ p →
    Grows p w v
grows-log {p} w v e t n d =
    record {
      more = e ∷ [];
      is = t;
      none_begins = or-false (begins_one e) (left-false (begins_one e) (ends_one e) n);
      none_ends = or-false (ends_one e) (right-false (begins_one e) (ends_one e) n);
      own = λ q k. or-false
          (is_by q e) (not-by p q e d k);
    }

grows-and : {p : ℕ} (w v u : World) → Grows p w v → Grows p v u → Grows p w u
grows-and w v u a b = record {
  more = a.more ++ b.more;
  is = b.is ∙ (ap (λ (xs : Trace). xs ++ b.more) a.is ∙ append_assoc w.trace a.more b.more);
  none_begins = has-append begins_one a.more b.more a.none_begins b.none_begins;
  none_ends = has-append ends_one a.more b.more a.none_ends b.none_ends;
  own = λ q k. has-append (is_by q) a.more b.more (a.own q k) (b.own q k);
}

-- so it grows by each part
deeds : {p : ℕ} {T : Event → Type 0} (z a b c : Bool) → ((e : Event) → T e → (is_of_call e ≡ false) × (doer e ≡ p)) →
    Parts (Grows p) T z a b c
deeds z a b c k = record {
  aside = λ w v e. grows-same w v (ap (λ (x : Stay). x.trace) (sym e));
  both = λ w v x m n. grows-and w v x m n;
  moved = λ w f s. grows-same w _ refl;
  stored = λ w f x. grows-same w _ refl;
  placed = λ w f x y. grows-same w _ refl;
  kept = λ w ws y. grows-same w _ refl;
  turned = λ w n y. grows-same w _ refl;
  listed = λ w x ts ls ks y. grows-same w _ refl;
  entered = λ w s m y. grows-same w _ refl;
  tells = λ w e t. grows-log w _ e refl (k e t).0 (k e t).1;
}

-- each thing to do, but for the end of a call

deed-told : {p : ℕ} {o : Op} {e : Event} → Tells p o e → is_end o ≡ false → (is_of_call e ≡ false) × (doer e ≡ p)
deed-told (ended a held) n = absurd (cc)
deed-told _ n = (refl, refl)

deed-begun : {p : ℕ} {c : Call} {e : Event} → Begins p c e → (is_of_call e ≡ false) × (doer e ≡ p)
deed-begun drop_begun = (refl, refl)
deed-begun _ = (refl, refl)

deed-answered : {p : ℕ} {o : Op} {e : Event} → Answers p o e → (is_of_call e ≡ false) × (doer e ≡ p)
deed-answered (answered f a) = (refl, refl)

pub grows-act : (p : ℕ) (h : Hint) (o : Op) (w : World) → is_end o ≡ false → Grows p w (act p h o w).world
grows-act p h o w n = by-act (Grows p) p h o w (deeds _ _ _ _ (λ e t. deed-told t n))

pub grows-react : (p : ℕ) (o : Op) (u : UserEnd) (w : World) → Grows p w (react p o u w).world
grows-react p o u w = by-react (Grows p) p o u w (deeds _ _ _ _ (λ e t. deed-answered t))

pub grows-begun : (p : ℕ) (w : World) (here : Option Waker) (c : Call) → Grows p w (begun p w here c).world
grows-begun p w here c = by-begun (Grows p) p w here c (deeds _ _ _ _ (λ e t. deed-begun t))
