-- A list of calls that ends with the drop of an executor leads to states alike, and what is seen is what was shown.
use Rattle.std.proofs.Common.{◌≡◌, ℕ, ◌≤◌, true, List, [], ◌∷◌, ◌++◌, length, Option, Some, None}
use Rattle.std.proofs.Common.{append-nil, refl, sym, ap, subst, ◌∙◌}
use Rattle.solo.specs.declared.names.SoloWaker.{SoloWaker}
use Rattle.solo.specs.declared.owed.Lent.{Lent}
use Rattle.solo.specs.declared.owed.Owed.{Owed}
use Rattle.solo.specs.declared.solo.Solo.{Solo}
use Rattle.solo.specs.Closing as closing
use Rattle.plain_scheduler.specs.State.{Event, Drops, Answers, Done, Choice, Plain}
use Rattle.plain_scheduler.specs.Lists.{or}
use Rattle.plain_scheduler.specs.Calls.{Call, DropExecutor, Ends, living_from, does, course}
use Rattle.plain_scheduler.specs.Calls as calls
use Rattle.solo_laws.specs.Closing.{IsClosing, IsClosed, Finishes, GoesOn, Drains, nothing_more, one_more, used, use_shows}
use Rattle.solo_laws.specs.Courses.{Makes, spawns, refuses, takes, looks, wakes, uses, releases, copies, polls, cancels, detaches}
use Rattle.solo_laws.specs.Courses.{drops_handle, leaks, pends, gives, ends_given, ends_closed, loses}
use Rattle.solo_laws.specs.LastCalls.{is_on_task, Meanwhile, on_task, drops_output, After, over, and_then, Closes, meanwhile, next_drop}
use Rattle.solo_laws.specs.LastCalls.{last_drop, LastCalls, first_drop, no_drop}
use Rattle.solo_laws.specs.NoneLost.{NoneIsLost}
use Rattle.solo_laws.specs.Road.{wakes as wakes_of}
use Rattle.solo_laws.specs.Tabled.{Stands}
use Rattle.solo_laws.proofs.Following.AtHome.{all_there}
use Rattle.solo_laws.proofs.Following.Freeing.{closes_alike, goes_on_alike}
use Rattle.solo_laws.proofs.Following.Sparing as sparing
use Rattle.solo_laws.proofs.Following.Sparing.{Spares}
use Rattle.solo_laws.proofs.Following.InClose as within
use Rattle.solo_laws.proofs.Following.AfterPolls.{calls_after_close}
use Rattle.solo_laws.proofs.Showing.Telling.{step}
use Rattle.solo_laws.proofs.Showing.AfterClose as after
use Rattle.solo_laws.proofs.Showing.Calling as calling
use Rattle.solo_laws.proofs.Showing.Polling.{handles_shown}

-- what is drained, and shown by that, is one
module _ {F T X : Type 0} where
  one_owed : (o : Option (Owed F T X)) (a b : Owed F T X) → o ≡ Some a → o ≡ Some b → a ≡ b
  one_owed o a b is so = ap (λ o. or o (λ x. x) a) (sym is ∙ so)

  drains_same : (s y z : Solo F T X) (shown others : List (Event T (SoloWaker X))) → Drains s shown y → Drains s others z
      → (y ≡ z) × (shown ≡ others)
  drains_same s y z shown others (nothing_more s' none) (nothing_more s'' gone) = (refl, refl)
  drains_same s y z shown others (nothing_more s' none) (one_more s'' z' owed rest is no_future no_output on) =
      let never : ◌≡◌ {A = Option (Owed F T X)} None (Some owed) = sym none ∙ is in absurd cc
  drains_same s y z shown others (one_more s' y' owed rest is no_future no_output on) (nothing_more s'' none) =
      let never : ◌≡◌ {A = Option (Owed F T X)} None (Some owed) = sym none ∙ is in absurd cc
  drains_same s y z shown others (one_more s' y' owed rest is no_future no_output on) (one_more s'' z' his more so none nor there) =
      let one : owed ≡ his = one_owed (closing.drain_answer s') owed his is so in
      let it =
      drains_same (used owed (closing.drained s')) y' z' rest more on
      (subst (λ o. Drains (used o (closing.drained s')) more z') (sym one) there) in
      (it.0, ap (λ es. use_shows owed (closing.drained s') ++ es) it.1 ∙ ap (λ o. use_shows o (closing.drained s') ++ more) one)

module _ {F T X : Type 0} (its : ℕ → Lent) where
  -- what is called meanwhile
  module _ (all gone left : List ℕ) where
    abbrev InClose : Choice → Call T (SoloWaker X) → Plain T (SoloWaker X) → List (Event T (SoloWaker X)) → Solo F T X → Type 0
    InClose c call p shown z =
        IsClosing its all gone left z (does wakes_of c call p) × ((does wakes_of c call p).events ≡ p.events ++ shown)

    module _ (s : Solo F T X) (p : Plain T (SoloWaker X)) (r : IsClosing its all gone left s p) where
      seen_in : (op : Plain T (SoloWaker X) → Plain T (SoloWaker X)) → Spares op → (shown : List (Event T (SoloWaker X)))
          → (op r.whole).events ≡ r.whole.events ++ shown → (op p).events ≡ p.events ++ shown
      seen_in op spares shown seen = sparing.seen_same p r.whole r.same op spares shown shown seen refl

    on_task_alike : (c : Choice) (s z : Solo F T X) (p : Plain T (SoloWaker X)) (call : Call T (SoloWaker X))
        (shown : List (Event T (SoloWaker X))) → IsClosing its all gone left s p → length p.lying ≤ c.tells → is_on_task call ≡ true
        → Makes its c s p call shown z → InClose c call p shown z
    on_task_alike c s z p call shown r many on (spawns mark future spawned z' how is granted life few) = absurd cc
    on_task_alike c s z p call shown r many on (refuses mark future refused z' how fits) = absurd cc
    on_task_alike c s z p call shown r many on (takes first life) = absurd cc
    on_task_alike c s z p call shown r many on looks = absurd cc
    on_task_alike c s z p call shown r many on (wakes f at life) = (
      (within.calls_in_close its all gone left s p r).0 c f at many life,
      seen_in s p r (does wakes_of c (calls.Call.Wake f)) (within.wake_spared c f) _
          (calling.wakes_shown its s r.whole r.follows c f (within.below its all gone left s p r f at)
          (within.few its all gone left s p r c many) life),
    )
    on_task_alike c s z p call shown r many on (uses f at life) = (
      (within.calls_in_close its all gone left s p r).2 c f at many life,
      seen_in s p r (does wakes_of c (calls.Call.Use f)) (within.use_spared c f) _
          (calling.uses_shown its s r.whole r.follows c f (within.below its all gone left s p r f at)
          (within.few its all gone left s p r c many) life),
    )
    on_task_alike c s z p call shown r many on (releases f at life) = (
      (within.calls_in_close its all gone left s p r).1 c f at many life,
      seen_in s p r (does wakes_of c (calls.Call.Release f)) (within.release_spared c f) _
          (calling.releases_shown its s r.whole r.follows c f (within.below its all gone left s p r f at)
          (within.few its all gone left s p r c many) life),
    )
    on_task_alike c s z p call shown r many on (copies f at says) = (
      (within.calls_in_close its all gone left s p r).3 c f at says,
      seen_in s p r (does wakes_of c (calls.Call.Copy f)) (within.copy_spared c f) _
          (calling.copies_shown its s r.whole r.follows c f says),
    )
    on_task_alike c s z p call shown r many on (polls f w at handle names life) = (
      (within.calls_in_close its all gone left s p r).6 c f w at handle names many life,
      seen_in s p r (does wakes_of c (calls.Call.PollHandle f w)) (within.handled_spared c f w) _
          (handles_shown its s r.whole r.follows c f w (within.below its all gone left s p r f at)
          (within.handle_in its all gone left s p r f handle) (within.names_in its all gone left s p r w c names)
          (within.few its all gone left s p r c many) life),
    )
    on_task_alike c s z p call shown r many on (cancels f at life) = (
      (within.calls_in_close its all gone left s p r).4 c f at many life,
      seen_in s p r (does wakes_of c (calls.Call.Cancel f)) (within.cancelled_spared c f) _
          (calling.cancels_shown its s r.whole r.follows c f (within.below its all gone left s p r f at)
          (within.few its all gone left s p r c many) life),
    )
    on_task_alike c s z p call shown r many on (detaches f at life) = (
      (within.calls_in_close its all gone left s p r).5 c f at many life,
      seen_in s p r (does wakes_of c (calls.Call.Detach f)) (within.detach_spared c f) _
          (calling.detaches_shown its s r.whole r.follows c f (within.below its all gone left s p r f at)
          (within.few its all gone left s p r c many) life),
    )
    on_task_alike c s z p call shown r many on (drops_handle f at life) = (
      (within.calls_in_close its all gone left s p r).7 c f at many life,
      seen_in s p r (does wakes_of c (calls.Call.DropHandle f)) (within.handle_drop_spared c f) _
          (calling.handle_drops_shown its s r.whole r.follows c f (within.below its all gone left s p r f at)
          (within.few its all gone left s p r c many) life),
    )
    on_task_alike c s z p call shown r many on (leaks owned life) = absurd cc
    on_task_alike c s z p call shown r many on (pends f by rest future one stands_in life) = absurd cc
    on_task_alike c s z p call shown r many on (gives f by rest v stands_in) = absurd cc
    on_task_alike c s z p call shown r many on (ends_given f v by rest one stands_in life) = absurd cc
    on_task_alike c s z p call shown r many on (ends_closed f by rest one stands_in life) = absurd cc
    on_task_alike c s z p call shown r many on (loses awaiter by rest one stands_in life) = absurd cc

    pub meanwhile_alike : (c : Choice) (s z : Solo F T X) (p : Plain T (SoloWaker X)) (call : Call T (SoloWaker X))
        (shown : List (Event T (SoloWaker X))) → IsClosing its all gone left s p → length p.lying ≤ c.tells
        → Meanwhile its c s p call shown z → InClose c call p shown z
    meanwhile_alike c s z p call shown r many (on_task call' shown' z' on how) = on_task_alike c s z' p call' shown' r many on how
    meanwhile_alike c s z p call shown r many (drops_output awaiter by rest one stands_in life) = (
      (within.calls_in_close its all gone left s p r).8 c awaiter by rest one stands_in many life,
      within.loses_seen its all gone left s p r c awaiter by rest one stands_in many life,
    )

  -- what is called once all is done
  abbrev AfterClose : Choice → Call T (SoloWaker X) → Plain T (SoloWaker X) → List (Event T (SoloWaker X)) → Solo F T X → Type 0
  AfterClose c call p shown z = IsClosed its z (does wakes_of c call p) × ((does wakes_of c call p).events ≡ p.events ++ shown)

  after_on_task : (c : Choice) (s z : Solo F T X) (p : Plain T (SoloWaker X)) (call : Call T (SoloWaker X))
      (shown : List (Event T (SoloWaker X))) → IsClosed its s p → length p.lying ≤ c.tells → is_on_task call ≡ true
      → Makes its c s p call shown z → AfterClose c call p shown z
  after_on_task c s z p call shown r many on (spawns mark future spawned z' how is granted life few) = absurd cc
  after_on_task c s z p call shown r many on (refuses mark future refused z' how fits) = absurd cc
  after_on_task c s z p call shown r many on (takes first life) = absurd cc
  after_on_task c s z p call shown r many on looks = absurd cc
  after_on_task c s z p call shown r many on (wakes f at life) =
      ((calls_after_close its s p r).0 c f at many life, after.wakes_seen its s p r c f at many life)
  after_on_task c s z p call shown r many on (uses f at life) =
      ((calls_after_close its s p r).2 c f at many life, after.uses_seen its s p r c f at many life)
  after_on_task c s z p call shown r many on (releases f at life) =
      ((calls_after_close its s p r).1 c f at many life, after.releases_seen its s p r c f at many life)
  after_on_task c s z p call shown r many on (copies f at says) =
      ((calls_after_close its s p r).3 c f at says, after.copies_seen its s p r c f says)
  after_on_task c s z p call shown r many on (polls f w at handle names life) = (
    (calls_after_close its s p r).6 c f w at handle names many life,
    after.polls_seen its s p r c f w at handle names many life,
  )
  after_on_task c s z p call shown r many on (cancels f at life) =
      ((calls_after_close its s p r).4 c f at many life, after.cancels_seen its s p r c f at many life)
  after_on_task c s z p call shown r many on (detaches f at life) =
      ((calls_after_close its s p r).5 c f at many life, after.detaches_seen its s p r c f at many life)
  after_on_task c s z p call shown r many on (drops_handle f at life) =
      ((calls_after_close its s p r).7 c f at many life, after.handle_drops_seen its s p r c f at many life)
  after_on_task c s z p call shown r many on (leaks owned life) = absurd cc
  after_on_task c s z p call shown r many on (pends f by rest future one stands_in life) = absurd cc
  after_on_task c s z p call shown r many on (gives f by rest v stands_in) = absurd cc
  after_on_task c s z p call shown r many on (ends_given f v by rest one stands_in life) = absurd cc
  after_on_task c s z p call shown r many on (ends_closed f by rest one stands_in life) = absurd cc
  after_on_task c s z p call shown r many on (loses awaiter by rest one stands_in life) = absurd cc

  pub after_alike : (c : Choice) (s z : Solo F T X) (p : Plain T (SoloWaker X)) (call : Call T (SoloWaker X))
      (shown : List (Event T (SoloWaker X))) → IsClosed its s p → length p.lying ≤ c.tells → Meanwhile its c s p call shown z
      → AfterClose c call p shown z
  after_alike c s z p call shown r many (on_task call' shown' z' on how) = after_on_task c s z' p call' shown' r many on how
  after_alike c s z p call shown r many (drops_output awaiter by rest one stands_in life) = (
    (calls_after_close its s p r).8 c awaiter by rest one stands_in many life,
    after.losses_seen its s p r c awaiter by rest one stands_in many life,
  )

  rest_alike : (list : List (Choice × Call T (SoloWaker X))) (s z : Solo F T X) (p : Plain T (SoloWaker X))
      (shown : List (Event T (SoloWaker X))) → IsClosed its s p → After its list s p shown z
      → IsClosed its z (course wakes_of list p) × ((course wakes_of list p).events ≡ p.events ++ shown)
  rest_alike list s z p shown r (over s' p') = (r, sym (append-nil p'.events))
  rest_alike list s z p shown r (and_then c call rest s' y z' p' first others many how on) =
      let one = after_alike c s' y p' call first r many how in
      let then_so = rest_alike rest y z' (does wakes_of c call p') others one.0 on in
      (then_so.0, step p'.events first others one.1 then_so.1)

  pub close_alike : (all : List ℕ) (list : List (Choice × Call T (SoloWaker X))) (gone left : List ℕ) (s z : Solo F T X)
      (p : Plain T (SoloWaker X)) (shown : List (Event T (SoloWaker X))) → IsClosing its all gone left s p
      → Closes its all gone left list s p shown z
      → IsClosed its z (course wakes_of list p) × ((course wakes_of list p).events ≡ p.events ++ shown)
  close_alike all list gone left s z p shown r (meanwhile gone' left' c call rest s' y z' p' first others many how on) =
      let one = meanwhile_alike all gone' left' c s' y p' call first r many how in
      let then_so = close_alike all rest gone' left' y z' (does wakes_of c call p') others one.0 on in
      (then_so.0, step p'.events first others one.1 then_so.1)
  close_alike all list gone left s z p shown r (next_drop gone' f left' c rest inside s' z' p' others is many life on) =
      let it = goes_on_alike its c s' p' all gone' (f ∷ left') inside r is many life in
      let then_so = close_alike all rest (gone' ++ f ∷ []) left' (closing.drained s') z' (does wakes_of c Ends p') others it.stands on in
      (then_so.0, step p'.events (Drops f ∷ []) others it.seen then_so.1)
  close_alike all list gone left s z p shown r (last_drop gone' c rest inside s' y z' p' more others is many life how on) =
      let it = goes_on_alike its c s' p' all gone' [] inside r is many life in
      let same = drains_same s' it.last y it.shown more it.drains how in
      let closed : IsClosed its y (does wakes_of c Ends p') =
      subst (λ (z : Solo F T X). IsClosed its z (does wakes_of c Ends p')) same.0 it.closed in
      let then_so = rest_alike rest y z' (does wakes_of c Ends p') others closed on in (
        then_so.0,
        step p'.events (more ++ Answers Done ∷ []) others
            (it.seen ∙ ap (λ es. p'.events ++ (es ++ Answers Done ∷ [])) same.1) then_so.1,
      )

  -- from where both stand alike
  pub last_calls_alike : (list : List (Choice × Call T (SoloWaker X))) (s z : Solo F T X) (p : Plain T (SoloWaker X))
      (shown : List (Event T (SoloWaker X))) → Stands its s p → NoneIsLost p → LastCalls its s p list shown z
      → IsClosed its z (course wakes_of list p) × ((course wakes_of list p).events ≡ p.events ++ shown)
  last_calls_alike list s z p shown so all (first_drop c f left rest z' others living ready on) =
      let it : GoesOn its (closing.closed s) p (does wakes_of c DropExecutor p) (f ∷ left) [] (f ∷ left) =
      subst (λ fs. GoesOn its (closing.closed s) p (does wakes_of c DropExecutor p) fs [] fs) living
      (closes_alike its c s p so ready.owned (all_there its s p so all ready.unpolled ready.undropped) ready.few ready.life) in
      let then_so =
      close_alike (f ∷ left) rest (f ∷ []) left (closing.drained (closing.closed s)) z' (does wakes_of c DropExecutor p) others
      it.stands on in
      (then_so.0, step p.events (Drops f ∷ []) others it.seen then_so.1)
  last_calls_alike list s z p shown so all (no_drop c rest y z' more others living ready how on) =
      let it : Finishes its (closing.closed s) p (does wakes_of c DropExecutor p) =
      subst (λ fs. GoesOn its (closing.closed s) p (does wakes_of c DropExecutor p) fs [] fs) living
      (closes_alike its c s p so ready.owned (all_there its s p so all ready.unpolled ready.undropped) ready.few ready.life) in
      let same = drains_same (closing.closed s) it.last y it.shown more it.drains how in
      let closed : IsClosed its y (does wakes_of c DropExecutor p) =
      subst (λ (z : Solo F T X). IsClosed its z (does wakes_of c DropExecutor p)) same.0 it.closed in
      let then_so = rest_alike rest y z' (does wakes_of c DropExecutor p) others closed on in (
        then_so.0,
        step p.events (more ++ Answers Done ∷ []) others
            (it.seen ∙ ap (λ es. p.events ++ (es ++ Answers Done ∷ [])) same.1) then_so.1,
      )
