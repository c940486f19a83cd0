-- A closed queue stays closed, one from which a pop was told so gives no more, and one close at most closes it.
use Rattle.std.proofs.lemmas.Bool.Decides.{nat_tests}
use Rattle.std.proofs.Common.{arith}
use Rattle.std.proofs.Common.{◌≡◌, ℕ, List, [], ◌∷◌, ◌++◌, Bool, true, None, Ok, Err}
use Rattle.std.proofs.Common.{refl, ap, ◌∙◌, subst}
use Rattle.queue_steps.specs.declared.errors.PopError.TheVariants.{Closed as ClosedToPop}
use Rattle.queue_steps.specs.ClosableQueue.{ClosableQueue}
use Rattle.queue_steps.specs.Replies.{TurnsAway}
use Rattle.queue_steps.specs.Calls.{Call, Answer}
use Rattle.queue_steps.specs.Calls.{Popped, Acts}
use Rattle.queue_laws.specs.Moments.{Moment, Begins, Does, Displaces, Ends, Sight, Scene, Happens, Run}
use Rattle.queue_laws.specs.Moments.{MayBeside}
use Rattle.queue_laws.specs.Traces.{AnswersLater}
use Rattle.queue_laws.specs.Order.{left_in}
use Rattle.queue_laws.specs.Closing.{TellsClosed, TellsOpen, StaysClosed, GivesNoMore}
use Rattle.queue_laws.proofs.Later.{Lasts, not_later, not_displaced, stays_so, is_so_after}
use Rattle.queue_laws.proofs.FreePlaces.{cut}

module _ {T : Type 0} where
  abbrev pub IsShut : ClosableQueue T → Type 0
  IsShut q = q.closed ≡ true

  turned : (q q' : ClosableQueue T) → TurnsAway q q' → IsShut q'
  turned q q' h2 = grind (arith, nat_tests)

  abbrev pub shut_in : Scene T → Bool
  shut_in s = s.sight.queue.closed

  pub acts_shut : (q q' : ClosableQueue T) (call : Call T) (a : Answer T) → Acts q call a q' → IsShut q → IsShut q'
  acts_shut q q' call a h h5 = grind (arith, nat_tests)

  pub told_shut : (q q' : ClosableQueue T) (call : Call T) (a : Answer T) → Acts q call a q' → TellsClosed a → IsShut q'
  told_shut q q' call a d h = grind (arith, nat_tests)

  pub never_open : (q q' : ClosableQueue T) (call : Call T) (a : Answer T) → Acts q call a q' → IsShut q → TellsOpen a → ⊥
  never_open q q' call a d h o = grind (arith, nat_tests)

  lasts_shut : (s s' : Scene T) (m : Moment T) → Happens s m s' → IsShut s.sight.queue → IsShut s'.sight.queue
  lasts_shut s s' m h3 h = grind (arith, nat_tests)

  runs_shut : (s s' : Scene T) (ms : List (Moment T)) → Run s ms s' → IsShut s.sight.queue → IsShut s'.sight.queue
  runs_shut s s' [] e h = ap shut_in e ∙ h
  runs_shut s s' (m ∷ ms) (mid, first, rest) h = runs_shut mid s' ms rest (lasts_shut s mid m first h)

  -- no call acts as on an open queue
  pub open_no_more : (s s' : Scene T) (q : ℕ) (b : Answer T) (since after : List (Moment T)) → IsShut s.sight.queue
      → Run s (since ++ Does q b ∷ after) s' → TellsOpen b → ⊥
  open_no_more s s' q b since after h run isnt = grind (arith, nat_tests, cut, never_open, runs_shut)

  is_shut : Lasts T
  is_shut = record {
    Is = λ x. IsShut x.queue;
    Tells = TellsClosed;
    Never = TellsOpen;
    lasts = lasts_shut;
    tells = λ x q call a did beside tells. told_shut x.queue q call a did tells;
    tells_none = λ y h. h;
    never = λ x q call a did so tells. grind (arith, nat_tests);
    not_open = λ x so open_then. let z = open_then.0 in cc;
  }

  -- Of a call that begins later, as a law says it.
  apart : (l : Lasts T) (s s' : Scene T) (ms : List (Moment T)) → ((p : ℕ) → s.calls p ≡ None) → Run s ms s' → (a b : Answer T)
      → AnswersLater ms a b → l.Tells a → l.Never b → ⊥
  apart l s s' ms away run a b at tells isnt =
      let later : List (Moment T) = Begins at.second at.call ∷ (at.during ++ (Ends at.second b ∷ at.after)) in
      let k = is_so_after l s s' at.before (at.since ++ later) at.first a away
      (grind (arith, nat_tests)) tells in
      let parts = cut k.0 s' at.since later k.2 in
      not_later l at.second at.call parts.0 s' at.during at.after b isnt (stays_so l k.0 parts.0 at.since parts.1 k.1) parts.2

  pub stays_closed : (s s' : Scene T) (ms : List (Moment T)) → ((p : ℕ) → s.calls p ≡ None) → Run s ms s' → StaysClosed ms
  unfolding is_shut
  stays_closed s s' ms away run = record {
    moments = λ p q a b before since after is tells isnt.
        let k = is_so_after is_shut s s' before (since ++ (Does q b ∷ after)) p a away
        (subst (λ (ms : List (Moment T)). Run s ms s') is run) tells in
        open_no_more k.0 s' q b since after k.1 k.2 isnt;
    displaced = λ p q a call y before since during after is tells.
        let later : List (Moment T) = Begins q call ∷ (during ++ (Displaces q y ∷ after)) in
        let k = is_so_after is_shut s s' before (since ++ later) p a away (subst (λ (ms : List (Moment T)). Run s ms s') is run) tells in
        let parts = cut k.0 s' since later k.2 in
        not_displaced is_shut q call parts.0 s' during after y (stays_so is_shut k.0 parts.0 since parts.1 k.1) parts.2;
    calls = λ a b at tells isnt. apart is_shut s s' ms away run a b at tells isnt;
  }

  -- closed, and nothing in it nor on its way in
  abbrev Drained : Sight T → Type 0
  Drained x = (x.queue.closed ≡ true) × (x.queue.items ≡ []) × (x.incoming ≡ None)

  lasts_drained : (s s' : Scene T) (m : Moment T) → Happens s m s' → Drained s.sight → Drained s'.sight
  lasts_drained s s' m h3 h = grind (arith, nat_tests)

  abbrev TellsDrained : Answer T → Type 0
  TellsDrained (Popped (Err ClosedToPop)) = Unit {0}
  TellsDrained _ = ⊥

  abbrev GivesItem : Answer T → Type 0
  GivesItem (Popped (Ok x)) = Unit {0}
  GivesItem _ = ⊥

  told_drained : (x : Sight T) (q : ClosableQueue T) (call : Call T) (a : Answer T) → Acts x.queue call a q → MayBeside x.incoming a
      → TellsDrained a → Drained (record x { queue = q })
  told_drained x q call a d beside tells = grind (arith, nat_tests)

  is_drained : Lasts T
  is_drained = record {
    Is = Drained;
    Tells = TellsDrained;
    Never = GivesItem;
    lasts = lasts_drained;
    tells = told_drained;
    tells_none = λ y h. h;
    never = λ x q call a did so gives. grind (arith, nat_tests);
    not_open = λ x so open_then. grind (arith, nat_tests);
  }

  nothing_leaves : (s s' : Scene T) (ms : List (Moment T)) → Run s ms s' → Drained s.sight → left_in ms ≡ []
  nothing_leaves s s' [] e h = refl
  nothing_leaves s s' (m ∷ ms) (mid, first, rest) h = let r = nothing_leaves mid s' ms rest (lasts_drained s mid m first h) in grind (arith, nat_tests, r)

  pub gives_no_more : (s s' : Scene T) (ms : List (Moment T)) → ((p : ℕ) → s.calls p ≡ None) → Run s ms s' → GivesNoMore ms
  unfolding is_drained
  gives_no_more s s' ms away run = record {
    moments = λ p before after is.
        let k = is_so_after is_drained s s' before after p (Popped (Err ClosedToPop)) away
        (subst (λ (ms : List (Moment T)). Run s ms s') is run) tt in
        nothing_leaves k.0 s' after k.2 k.1;
    calls = λ x at. apart is_drained s s' ms away run (Popped (Err ClosedToPop)) (Popped (Ok x)) at tt tt;
  }
