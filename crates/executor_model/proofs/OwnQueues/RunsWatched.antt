-- For own_queues_agree.
-- What a trace tells of a run's last poll, read from left to right.
use Rattle.std.proofs.Common.{◌≡◌, ◌⊎◌, ◌∙◌, inl, inr, ⊎_elim, ℕ, zero, suc, ◌+◌, ◌<◌, [], ◌∷◌, ◌++◌, length, drop, Bool, true}
use Rattle.std.proofs.Common.{false, ◌&&◌, ◌||◌, eqb, cond, refl, sym, ap, subst, arith, append-nil}
use Rattle.std.specs.Prelude.{Option, Some, slice_get}
use Rattle.std.{proofs.lemmas.Bool.Decides.nat_tests, proofs.lemmas.List.append_assoc, proofs.lemmas.List.length-append}
use Rattle.executor_model.proofs.Types.{Event, Polled, TickOrRun, Waker}
use Rattle.executor_model.specs.Standing.{CallsItself, calls_poll, polls_sleeper}
use Rattle.executor_model.specs.{AwaiterKept.since, Trace.Trace, Trace.has}

pub record Watched : Type 0 where
  -- it was polled; where its last poll stands, and whose it is; and whether the waker of that was called since
  pub polled : Bool
  pub poll : ℕ
  pub party : ℕ
  pub called : Bool

abbrev pub unwatched : Watched
unwatched = record { polled = false; poll = 0; party = 0; called = false }

-- the event at place n
abbrev pub watches : ℕ → ℕ → Event → Watched → Watched
watches r n (Event.RunPolled p q) s = cond (eqb r q) (record { polled = true; poll = n; party = p; called = false }) s
watches r n (Event.WakerCalled p (Polled.Run q) k a) s = record s { called = s.called || (eqb r q && eqb s.poll k) }
watches r n _ s = s

abbrev pub watched_from : ℕ → ℕ → Watched → Trace → Watched
watched_from r n s [] = s
watched_from r n s (e ∷ es) = watched_from r (suc n) (watches r n e s) es

unfoldable pub watched : ℕ → Trace → Watched
watched r es = watched_from r 0 unwatched es

watched_from-push : (r n : ℕ) (s : Watched) (es : Trace) (e : Event) →
    watched_from r n s (es ++ e ∷ []) ≡ watches r (n + length es) e (watched_from r n s es)
watched_from-push r n s [] e = ap (λ (m : ℕ). watches r m e s) (let z : n ≡ n + 0 = omega arith in z)
watched_from-push r n s (x ∷ es) e = watched_from-push r (suc n) (watches r n x s) es e
    ∙ ap (λ (m : ℕ). watches r m e (watched_from r (suc n) (watches r n x s) es))
    (let z : suc n + length es ≡ n + suc (length es) = omega arith in z)

pub watched-push : (r : ℕ) (es : Trace) (e : Event) → watched r (es ++ e ∷ []) ≡ watches r (length es) e (watched r es)
unfolding watched
watched-push r es e = watched_from-push r 0 unwatched es e
    ∙ ap (λ (m : ℕ). watches r m e (watched_from r 0 unwatched es))
    (let z : 0 + length es ≡ length es = omega arith in z)

pub watched-none : (r : ℕ) → watched r [] ≡ unwatched
unfolding watched
watched-none r = refl

-- it is so: what is read is what the trace says
record Reads (r : ℕ) (es : Trace) (s : Watched) : Type 0 where
  pub within : s.polled ≡ true → s.poll < length es
  pub polled : s.polled ≡ true → slice_get es s.poll ≡ Some (Event.RunPolled s.party r)
  pub last : s.polled ≡ true → has (polls_sleeper (TickOrRun.Run r)) (since s.poll es) ≡ false
  pub called : s.polled ≡ true → s.called ≡ true → has (calls_poll (TickOrRun.Run r) s.poll) (since s.poll es) ≡ true

get-old : (es : Trace) (k : ℕ) (x : Event) → k < length es → slice_get (es ++ x ∷ []) k ≡ slice_get es k
get-old [] k x h = absurd (omega (arith, h))
get-old (e ∷ es) zero x h = refl
get-old (e ∷ es) (suc k) x h = get-old es k x (omega (arith, h))

get-new : (es : Trace) (x : Event) → slice_get (es ++ x ∷ []) (length es) ≡ Some x
get-new [] x = refl
get-new (e ∷ es) x = get-new es x

since-old : (es : Trace) (k : ℕ) (x : Event) → k < length es → drop (k + 1) (es ++ x ∷ []) ≡ drop (k + 1) es ++ x ∷ []
since-old es k x h = subst (λ (n : ℕ). drop n (es ++ x ∷ []) ≡ drop n es ++ x ∷ [])
    (let z : suc k ≡ k + 1 = omega arith in z) (go es k h)
  where
    go : (ys : Trace) (j : ℕ) → j < length ys → drop (suc j) (ys ++ x ∷ []) ≡ drop (suc j) ys ++ x ∷ []
    go [] j l = absurd (omega (arith, l))
    go (y ∷ ys) zero l = refl
    go (y ∷ ys) (suc j) l = go ys j (omega (arith, l))

since-new : (es : Trace) (x : Event) → drop (length es + 1) (es ++ x ∷ []) ≡ []
since-new es x = subst (λ (n : ℕ). drop n (es ++ x ∷ []) ≡ [])
    (let z : suc (length es) ≡ length es + 1 = omega arith in z)
    (go es)
  where
    go : (ys : Trace) → drop (suc (length ys)) (ys ++ x ∷ []) ≡ []
    go [] = refl
    go (y ∷ ys) = go ys

has-push : (test : Event → Bool) (es : Trace) (x : Event) → has test (es ++ x ∷ []) ≡ (has test es || test x)
has-push test [] x = by (test x)
  where
    by : (b : Bool) → (b || false) ≡ b
    by true = refl
    by false = refl
has-push test (e ∷ es) x = ap (λ (b : Bool). test e || b) (has-push test es x) ∙ by (test e) (has test es) (test x)
  where
    by : (a b c : Bool) → (a || (b || c)) ≡ ((a || b) || c)
    by true b c = refl
    by false b c = refl

-- an event that is no poll of it
reads-more : (r : ℕ) (es : Trace) (e : Event) (s : Watched) (c : Bool) → polls_sleeper (TickOrRun.Run r) e ≡ false →
    (c ≡ true → (s.called ≡ true) ⊎ (calls_poll (TickOrRun.Run r) s.poll e ≡ true)) → Reads r es s →
    Reads r (es ++ e ∷ []) (record s { called = c })
reads-more r es e s c n k h = record {
  within = λ p. omega (arith, h.within p, length-append es (e ∷ []));
  polled = λ p. get-old es s.poll e (h.within p) ∙ h.polled p;
  last = λ p. ap (has (polls_sleeper (TickOrRun.Run r))) (since-old es s.poll e (h.within p))
      ∙ has-push (polls_sleeper (TickOrRun.Run r)) (since s.poll es) e
      ∙ neither _ _ (h.last p) n;
  called = λ p q. ap (has (calls_poll (TickOrRun.Run r) s.poll)) (since-old es s.poll e (h.within p))
      ∙ has-push (calls_poll (TickOrRun.Run r) s.poll) (since s.poll es) e
      ∙ ⊎_elim (λ (z : s.called ≡ true). either _ _ (inl (h.called p z)))
      (λ (z : calls_poll (TickOrRun.Run r) s.poll e ≡ true). either _ _ (inr z)) (k q);
}
  where
    neither : (a b : Bool) → a ≡ false → b ≡ false → (a || b) ≡ false
    neither a b x y = rw (x, y) refl

    either : (a b : Bool) → (a ≡ true) ⊎ (b ≡ true) → (a || b) ≡ true
    either true b x = refl
    either false b (inl x) = absurd (cc)
    either false b (inr x) = x

-- a poll of it
reads-polled : (r : ℕ) (es : Trace) (p q : ℕ) (s : Watched) → eqb r q ≡ true →
    Reads r (es ++ Event.RunPolled p q ∷ []) (record { polled = true; poll = length es; party = p; called = false })
reads-polled r es p q s e =
    let i : r ≡ q = grind (arith, nat_tests) in record {
      within = λ z. omega (arith, length-append es (Event.RunPolled p q ∷ []));
      polled = λ z. get-new es (Event.RunPolled p q) ∙
          ap (λ (k : ℕ). let o : Option Event = Some (Event.RunPolled p k) in o) (sym i);
      last = λ z. ap (has (polls_sleeper (TickOrRun.Run r))) (since-new es (Event.RunPolled p q));
      called = λ z c. let no : false ≡ true = c in absurd (cc);
    }

-- an event that is nothing to it
reads-other : (r : ℕ) (es : Trace) (e : Event) (s : Watched) → polls_sleeper (TickOrRun.Run r) e ≡ false → Reads r es s →
    Reads r (es ++ e ∷ []) s
reads-other r es e s n h = reads-more r es e s s.called n (λ q. inl q) h

or-cases : (a b : Bool) → (a || b) ≡ true → (a ≡ true) ⊎ (b ≡ true)
or-cases true b e = inl refl
or-cases false b e = inr e

reads-called : (r : ℕ) (es : Trace) (p q k : ℕ) (a : Waker) (s : Watched) → Reads r es s →
    Reads r (es ++ Event.WakerCalled p (Polled.Run q) k a ∷ [])
    (record s { called = s.called || (eqb r q && eqb s.poll k) })
reads-called r es p q k a s h =
    reads-more r es (Event.WakerCalled p (Polled.Run q) k a) s (s.called || (eqb r q && eqb s.poll k)) refl
    (or-cases s.called (eqb r q && eqb s.poll k)) h

reads-push : (r : ℕ) (es : Trace) (e : Event) (s : Watched) → Reads r es s →
    Reads r (es ++ e ∷ []) (watches r (length es) e s)
reads-push r es (Event.RunPolled p q) s h = by (eqb r q) refl
  where
    by : (b : Bool) → eqb r q ≡ b → Reads r (es ++ Event.RunPolled p q ∷ [])
        (cond b (record { polled = true; poll = length es; party = p; called = false }) s)
    by true t = reads-polled r es p q s t
    by false t = reads-other r es (Event.RunPolled p q) s t h
reads-push r es (Event.WakerCalled p (Polled.Run q) k a) s h = reads-called r es p q k a s h
reads-push r es (Event.WakerCalled p (Polled.Tick q) k a) s h = reads-other r es _ s refl h
reads-push r es (Event.WakerCalled p (Polled.Handle q) k a) s h = reads-other r es _ s refl h
reads-push r es (Event.CallBegun p c) s h = reads-other r es _ s refl h
reads-push r es (Event.CallEnded p c) s h = reads-other r es _ s refl h
reads-push r es (Event.Accepted p c) s h = reads-other r es _ s refl h
reads-push r es (Event.PollBegun p c) s h = reads-other r es _ s refl h
reads-push r es (Event.Answered p c a) s h = reads-other r es _ s refl h
reads-push r es (Event.Woken p c) s h = reads-other r es _ s refl h
reads-push r es (Event.Cancelled p c) s h = reads-other r es _ s refl h
reads-push r es (Event.Detached p c) s h = reads-other r es _ s refl h
reads-push r es (Event.LastWaker p c) s h = reads-other r es _ s refl h
reads-push r es (Event.Leaked p c) s h = reads-other r es _ s refl h
reads-push r es (Event.Dropped p c) s h = reads-other r es _ s refl h
reads-push r es (Event.OutputDropped p c) s h = reads-other r es _ s refl h
reads-push r es (Event.OutputGiven p c) s h = reads-other r es _ s refl h
reads-push r es (Event.HandlePolled p c) s h = reads-other r es _ s refl h
reads-push r es (Event.TickPolled p c) s h = reads-other r es _ s refl h
reads-push r es (Event.TickDropped p c) s h = reads-other r es _ s refl h
reads-push r es (Event.RunDropped p c) s h = reads-other r es _ s refl h
reads-push r es (Event.Kept p c q) s h = reads-other r es _ s refl h
reads-push r es (Event.Looked p m) s h = reads-other r es _ s refl h
reads-push r es (Event.DropBegun p) s h = reads-other r es _ s refl h
reads-push r es (Event.DropEnded p) s h = reads-other r es _ s refl h

reads-from : (r : ℕ) (es rest : Trace) → Reads r es (watched r es) → Reads r (es ++ rest) (watched r (es ++ rest))
reads-from r es [] h = subst (λ (t : Trace). Reads r t (watched r t)) (sym (append-nil es)) h
reads-from r es (e ∷ rest) h =
    subst (λ (t : Trace). Reads r t (watched r t)) (append_assoc es (e ∷ []) rest)
    (reads-from r (es ++ e ∷ []) rest
    (subst (Reads r (es ++ e ∷ [])) (sym (watched-push r es e)) (reads-push r es e (watched r es) h)))

reads-none : (r : ℕ) → Reads r [] unwatched
reads-none r = record {
  within = λ z. absurd (cc);
  polled = λ z. absurd (cc);
  last = λ z. absurd (cc);
  called = λ z. absurd (cc);
}

reads : (r : ℕ) (es : Trace) → Reads r es (watched r es)
reads r es = reads-from r [] es (subst (Reads r []) (sym (watched-none r)) (reads-none r))

-- where its last poll's waker is read as called, it calls itself
pub calls-itself : (r : ℕ) (es : Trace) → (watched r es).polled ≡ true → (watched r es).called ≡ true → CallsItself r es
calls-itself r es p c = let h = reads r es in record {
  party = (watched r es).party;
  poll = (watched r es).poll;
  polled = record { polled = h.polled p; last = h.last p };
  called = h.called p c;
}
