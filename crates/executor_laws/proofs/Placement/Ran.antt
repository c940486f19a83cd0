-- For due_futures_stand_with_their_keepers.
-- What holds of each run at every moment, and how the trace tells of its drop and of its end.
use Rattle.std.proofs.Common.{◌≡◌, ◌⊎◌, ◌∙◌, ⊎_elim, ℕ, ◌<◌, ◌≤◌, [], ◌∷◌, ◌++◌, length, Bool, true, false, ◌||◌, eqb, refl}
use Rattle.std.proofs.Common.{sym, ap, arith}
use Rattle.std.{proofs.lemmas.Bool.Decides.nat_tests, specs.Prelude.Some, specs.Prelude.slice_get}
use Rattle.executor_laws.proofs.Types.{Reply, Event, TickOrRun}
use Rattle.executor_model.specs.{AwaiterKept.EndsWith, AwaiterKept.since, Keeper.AnswersReady, Keeper.is_run_drop}
use Rattle.executor_model.specs.{Standing.polls_sleeper, Trace.Trace, Trace.has, World.World, World.Ended, World.run_of}
use Rattle.executor_model.proofs.OwnQueues.UsingWorlds.{is_over_stage, is_past}
use Rattle.executor_model.proofs.Steps.TraceGrows.{is_ordinary}
use Rattle.executor_model.proofs.{Steps.Pushes.any-push, Steps.TraceMore.over-more, Steps.Tests.or-right}
use Rattle.executor_laws.proofs.Placement.Endings.{ends-before, ends-later}
use Rattle.executor_laws.proofs.Placement.Opens.{IsOpen, get-old, get-push, get-within, since-new}

-- whatever came into run r's own queue, its own future was ready since
abbrev pub AllReady : ℕ → Trace → Type 0
AllReady r es = (place p f : ℕ) → slice_get es place ≡ Some (Event.Kept p f r) → AnswersReady r place es

-- a poll of run r was answered that its own future is ready only where this holds
abbrev pub ReadyOnly : ℕ → Trace → Bool → Type 0
ReadyOnly r es b =
    (p k : ℕ) → slice_get es k ≡ Some (Event.RunPolled p r) → EndsWith p Reply.Ready (since k es) → b ≡ true

pub record Ran (w : World) (r offs drops readies : ℕ) : Type 0 where
  pub past : has (is_run_drop r) w.trace ≡ true → is_past (run_of w r) ≡ true
  pub unborn : length w.runs ≤ r →
      (has (is_run_drop r) w.trace ≡ false) × (has (polls_sleeper (TickOrRun.Run r)) w.trace ≡ false)
  pub off : 1 ≤ offs → (run_of w r).stage ≡ Ended
  pub dropping : 1 ≤ drops → has (is_run_drop r) w.trace ≡ true
  pub ended : (run_of w r).stage ≡ Ended →
      (has (is_run_drop r) w.trace ≡ true) ⊎ ((1 ≤ readies) ⊎ AllReady r w.trace)
  pub answered : ReadyOnly r w.trace (is_over_stage (run_of w r).stage)

-- one more event

or-false : (a b : Bool) → b ≡ false → (a || b) ≡ a
or-false true b e = refl
or-false false b e = e

pub has-same : (t : Event → Bool) (es : Trace) (e : Event) → t e ≡ false → has t (es ++ e ∷ []) ≡ has t es
has-same t es e z = any-push t t es e ∙ or-false (has t es) (t e) z

pub has-now : (t : Event → Bool) (es : Trace) (e : Event) → t e ≡ true → has t (es ++ e ∷ []) ≡ true
has-now t es e z = any-push t t es e ∙ or-right (has t es) (t e) z

-- something comes into run r's own queue
abbrev pub keeps_in : ℕ → Event → Bool
keeps_in r (Event.Kept p f q) = eqb r q
keeps_in r _ = false

abbrev pub ends_some : Event → Bool
ends_some (Event.CallEnded p a) = true
ends_some _ = false

pub answers-later : (r place : ℕ) (es : Trace) (e : Event) → AnswersReady r place es → AnswersReady r place (es ++ e ∷ [])
answers-later r place es e h =
    let l : h.poll < length es = get-within es h.poll _ h.polled in
    let n = ends-later h.party h.poll Reply.Ready es e l h.ready in record {
      party = h.party;
      poll = h.poll;
      polled = get-old es h.poll e l ∙ h.polled;
      ready = n.0;
      later = omega (arith, h.later, n.1);
    }

pub ready-push : (r : ℕ) (es : Trace) (e : Event) → keeps_in r e ≡ false → AllReady r es → AllReady r (es ++ e ∷ [])
ready-push r es e z h place p f g = ⊎_elim
    (λ (x : (place < length es) × (slice_get es place ≡ Some (Event.Kept p f r))).
    answers-later r place es e (h place p f x.1))
    (λ (x : (place ≡ length es) × (e ≡ Event.Kept p f r)). absurd (none (ap (keeps_in r) (sym x.1) ∙ z)))
    (get-push es place e (Event.Kept p f r) g)
  where
    none : eqb r r ≡ false → ⊥
    none q = let y : eqb r r ≡ true = grind (arith, nat_tests) in let no : true ≡ false = sym y ∙ q in cc

-- a call that isn't ended by it
pub only-push : (r : ℕ) (es : Trace) (e : Event) (S : Bool) → ends_some e ≡ false → ReadyOnly r es S →
    ReadyOnly r (es ++ e ∷ []) S
only-push r es e S z h p k g n = ⊎_elim
    (λ (x : (k < length es) × (slice_get es k ≡ Some (Event.RunPolled p r))). ⊎_elim
    (λ (y : EndsWith p Reply.Ready (since k es)). h p k x.1 y)
    (λ (y : (e ≡ Event.CallEnded p Reply.Ready) × IsOpen p k 0 es).
    absurd (let no : true ≡ false = ap ends_some (sym y.0) ∙ z in cc))
    (ends-before p k Reply.Ready es e x.0 n))
    (λ (x : (k ≡ length es) × (e ≡ Event.RunPolled p r)). absurd (new k x.0 n))
    (get-push es k e (Event.RunPolled p r) g)
  where
    new : (m : ℕ) → m ≡ length es → EndsWith p Reply.Ready (since m (es ++ e ∷ [])) → ⊥
    new m q y = let no : slice_get (let t : Trace = [] in t) y.place ≡ Some (Event.CallEnded p Reply.Ready) =
        ap (λ (t : Trace). slice_get t y.place) (sym (ap (λ (i : ℕ). since i (es ++ e ∷ [])) q ∙ since-new es e))
        ∙ y.here in cc

-- what tells of a run or of what came into its own queue, and the end of a call
abbrev pub is_of_runs : Event → Bool
is_of_runs (Event.CallEnded p a) = true
is_of_runs (Event.RunPolled p r) = true
is_of_runs (Event.RunDropped p r) = true
is_of_runs (Event.Kept p f r) = true
is_of_runs _ = false

pub ordinary-runs : (e : Event) → is_ordinary e ≡ true → is_of_runs e ≡ false
ordinary-runs (Event.CallBegun p c) z = absurd (cc)
ordinary-runs (Event.CallEnded p a) z = absurd (cc)
ordinary-runs (Event.PollBegun p f) z = absurd (cc)
ordinary-runs (Event.RunPolled p r) z = absurd (cc)
ordinary-runs (Event.RunDropped p r) z = absurd (cc)
ordinary-runs (Event.Kept p f r) z = absurd (cc)
ordinary-runs _ z = refl

no-drop : (r : ℕ) (e : Event) → is_of_runs e ≡ false → is_run_drop r e ≡ false
no-drop r (Event.RunDropped p q) z = absurd (cc)
no-drop r _ z = refl

no-poll : (r : ℕ) (e : Event) → is_of_runs e ≡ false → polls_sleeper (TickOrRun.Run r) e ≡ false
no-poll r (Event.RunPolled p q) z = absurd (cc)
no-poll r _ z = refl

no-keep : (r : ℕ) (e : Event) → is_of_runs e ≡ false → keeps_in r e ≡ false
no-keep r (Event.Kept p f q) z = absurd (cc)
no-keep r _ z = refl

no-end : (e : Event) → is_of_runs e ≡ false → ends_some e ≡ false
no-end (Event.CallEnded p a) z = absurd (cc)
no-end _ z = refl

-- such a trace tells the same of the runs
pub record Alike (r : ℕ) (es now : Trace) : Type 0 where
  pub drops : has (is_run_drop r) now ≡ has (is_run_drop r) es
  pub polls : has (polls_sleeper (TickOrRun.Run r)) now ≡ has (polls_sleeper (TickOrRun.Run r)) es
  pub ready : AllReady r es → AllReady r now
  pub only : (S : Bool) → ReadyOnly r es S → ReadyOnly r now S

pub alike-one : (r : ℕ) (es now : Trace) (e : Event) → is_of_runs e ≡ false → Alike r es now → Alike r es (now ++ e ∷ [])
alike-one r es now e z h = record {
  drops = has-same (is_run_drop r) now e (no-drop r e z) ∙ h.drops;
  polls = has-same (polls_sleeper (TickOrRun.Run r)) now e (no-poll r e z) ∙ h.polls;
  ready = λ a. ready-push r now e (no-keep r e z) (h.ready a);
  only = λ S a. only-push r now e S (no-end e z) (h.only S a);
}

pub alike-more : (r : ℕ) (es more : Trace) → has is_of_runs more ≡ false → Alike r es (es ++ more)
alike-more r es more z =
    over-more (Alike r es) is_of_runs (λ now e k h. alike-one r es now e k h) es more z
    (record { drops = refl; polls = refl; ready = λ a. a; only = λ S a. a })
