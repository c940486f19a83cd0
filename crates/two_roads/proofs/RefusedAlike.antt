-- A call that is refused memory as was wished is so as in the act that it is, where copies of tasks' wakers are.
use Rattle.std.proofs.Common.{◌≡◌, ℕ, ◌<◌, ◌≤◌, ◌^◌, nat_lt, cond, Bool, true, false, List, length, map, slice_get, Option, Some, None}
use Rattle.std.proofs.Common.{refl}
use Rattle.std.proofs.Common.{sym, ap, subst, ◌∙◌, arith}
use Rattle.executor_model.specs.declared.op.Waker.{Waker}
use Rattle.executor_model.specs.Steps.{Machine}
use Rattle.task_moves.specs.AbstractTask as abstract
use Rattle.task_moves.specs.AbstractTask.{AbstractTask}
use Rattle.task_moves.specs.LocalTask.{references_of, token_by}
use Rattle.solo.specs.declared.names.SoloWaker.{SoloWaker}
use Rattle.solo.specs.declared.names.SoloWaker.TheVariants.{Task as OfTask, Outside}
use Rattle.solo.specs.declared.owed.Lent.{Lent}
use Rattle.solo.specs.declared.solo.Solo.{Solo}
use Rattle.solo.specs.Cells as cells
use Rattle.solo.specs.Cells.{Kept}
use Rattle.solo.specs.Solo as solo
use Rattle.plain_scheduler.specs.Lists.{on}
use Rattle.plain_scheduler.specs.State.{Answers, AtOnce, Cancelled, Choice, Event, Future, Gives, Granted, Made, NoMemory, Pending, Plain}
use Rattle.plain_scheduler.specs.State.{Refusal}
use Rattle.plain_scheduler.specs.Moves.{answers, copied as copied_once, put, task, tell}
use Rattle.plain_scheduler.specs.Moves as moves
use Rattle.plain_scheduler.specs.Calls as calls
use Rattle.plain_scheduler.specs.Calls.{Call, does, is_granted}
use Rattle.machine_roads.specs.Road.{uncalled}
use Rattle.machine_roads.specs.Seeing.{heard_in, shown as shown_alike}
use Rattle.machine_roads.specs.View.{Output, wakes as wakes_in}
use Rattle.machine_roads.specs.Within.{Act, ActsBy, IsMade, start_in}
use Rattle.solo_laws.specs.Courses.{Acts, Makes, cancels, copies, detaches, drops_handle, ends_closed, ends_given, gives, leaks, looks}
use Rattle.solo_laws.specs.Courses.{loses}
use Rattle.solo_laws.specs.Courses.{makes, pends, polls, refuses, releases, run_drops, run_goes_on, run_loses, spawns, takes, uses, wakes}
use Rattle.solo_laws.specs.Heeding.{Fits}
use Rattle.solo_laws.specs.Making.{acted_as, copy_refusal, made_as}
use Rattle.solo_laws.specs.Owner.{Owner}
use Rattle.solo_laws.specs.Road.{Follows, IsOver, TaskIs, wakes as wakes_of}
use Rattle.solo_laws.specs.RunGoing.{drop_ends, loss_ends, poll_ends}
use Rattle.solo_laws.specs.Tabled.{named}
use Rattle.solo_laws.proofs.Following.Cells.{asks_found, found, of_found}
use Rattle.solo_laws.proofs.Following.Changing.{task_is}
use Rattle.solo_laws.proofs.Following.Lists.{get_below}
use Rattle.solo_laws.proofs.Happening.Refused.{acts_heed}
use Rattle.solo_laws.proofs.Showing.Courses.{Known}
use Rattle.two_roads.specs.Refusing.{asks_memory, ends_refused, refused_in, refused_so}
use Rattle.two_roads.specs.Wishing.{RefusesAlike}
use Rattle.two_roads.proofs.Acted.{seen_so}
use Rattle.two_roads.proofs.Meant.{one_made}
use Rattle.two_roads.proofs.Refusing.{Lie, last_is, same_test}

-- a waker is copied, or a handle polled
abbrev pub copies_waker : {T A : Type 0} → Call T A → Bool
copies_waker (calls.Copy f) = true
copies_waker (calls.PollHandle f w) = true
copies_waker call = false

-- what is so refused is refused at once
abbrev pub IsOnce : Refusal → Type 0
IsOnce r = r ≡ copy_refusal (is_granted r)

module _ (d : Choice) (q : Plain Output Waker) where
  abbrev lie : Plain Output Waker → ℕ
  lie p = length (uncalled p.lying)

  abbrev seen : Plain Output Waker → Refusal
  seen r = refused_so (ends_refused r.events) (nat_lt (lie q) (lie r))

  granted_once : (r : Plain Output Waker) → ends_refused r.events ≡ false → IsOnce (seen r)
  granted_once r not_so =
      let is : seen r ≡ Granted = ap (λ b. refused_so b (nat_lt (lie q) (lie r))) not_so in
      is ∙ ap (λ x. copy_refusal (is_granted x)) (sym is)

  refused_once : IsOnce (seen (answers NoMemory q))
  refused_once =
      let is : seen (answers NoMemory q) ≡ AtOnce =
      ap (λ b. refused_so b (nat_lt (lie q) (lie q))) (last_is q.events (Answers NoMemory))
      ∙ ap (λ b. refused_so true b) (same_test (lie q)) in
      is ∙ ap (λ x. copy_refusal (is_granted x)) (sym is)

  either : (made : Plain Output Waker) → ends_refused made.events ≡ false → (b : Bool) → IsOnce (seen (cond b made (answers NoMemory q)))
  either made not_so true = granted_once made not_so
  either made not_so false = refused_once

  polled_once : (f : ℕ) (w : Waker) (o : abstract.Polled Output) → IsOnce (seen (calls.handle_by wakes_in d f w o q))
  polled_once f w (abstract.Polled.Output v) =
      granted_once (calls.handle_by wakes_in d f w (abstract.Polled.Output v) q)
      (last_is (put f (abstract.poll w (task f q)).task q).events (Answers (Gives v)))
  polled_once f w abstract.Polled.Cancelled = granted_once (answers Cancelled q) (last_is q.events (Answers Cancelled))
  polled_once f w abstract.Polled.Waits =
      either (calls.registered wakes_in d f w (copied_once wakes_in w q))
      (last_is
      (on (abstract.poll w (task f (copied_once wakes_in w q))).let_go (moves.let_go wakes_in (tell wakes_in d))
      (put f (abstract.poll w (task f (copied_once wakes_in w q))).task (copied_once wakes_in w q))).events
      (Answers Pending)) (is_granted d.refusal)

  once : (made : Call Output Waker) → copies_waker made ≡ true → IsOnce (seen (does wakes_in d made q))
  once (calls.Copy f) asked =
      let z = put f (abstract.copy (task f q)) q in
      either (answers Made z) (last_is z.events (Answers Made)) (is_granted d.refusal)
  once (calls.PollHandle f w) asked = polled_once f w (abstract.polled (task f q))
  once call asked = absurd cc

-- so it is in an act
pub once_in : (s : Machine) (a : Act) (q r : Plain Output Waker) → ActsBy s a.party a.first q r a.left.world (start_in s a)
    → Lie s.world q → heard_in a.left.world.trace ≡ map shown_alike r.events → Lie a.left.world r
    → (made : Call Output Waker) → IsMade s a.party a.first made → copies_waker made ≡ true → IsOnce (refused_in s a)
once_in s a q r by lie_there sees lie_then made is asked =
    let same : by.made ≡ made = one_made s a.party a.first by.made made by.is is in
    subst IsOnce (sym (seen_so s a q r lie_there sees lie_then))
    (subst (λ (z : Plain Output Waker). IsOnce (seen by.choice q z)) (ap (λ m. does wakes_in by.choice m q) (sym same) ∙ by.so)
    (once by.choice q made asked))

copied_alike : (s : Machine) (a : Act) (c : Choice) (b : Bool) → c.refusal ≡ copy_refusal b → is_granted (refused_in s a) ≡ b
    → IsOnce (refused_in s a) → c.refusal ≡ refused_in s a
copied_alike s a c b is alike once = is ∙ sym (once ∙ ap (λ b. copy_refusal b) alike)

-- a task that has references is there, and has as many in the executor as in the plain scheduler
module _ {F T X : Type 0} (its : ℕ → Lent) (y : Solo F T X) (p : Plain T (SoloWaker X)) (r : Follows (named its) y p) where
  held_so : (f : ℕ) → f < length p.futures → 0 < references_of (task f p)
      → solo.may_hold (named its f) y ≡ nat_lt (references_of (task f p)) (2 ^ 40)
  held_so f at held =
      let x = get_below p.futures f at in
      by x.0 x.1 (found (named its f) y.cells) refl (subst (TaskIs (found (named its f) y.cells)) x.1 (r.tasks f at))
    where
      none_left : (t : AbstractTask T (SoloWaker X)) → IsOver t → 0 < references_of t → ⊥
      none_left t over held =
          let none = over.wakers in
          let idle : token_by t.phase ≡ 0 = ap (λ phase. token_by phase) over.phase in
          absurd (omega (arith, none, idle, held))

      by : (x : Future T (SoloWaker X)) → slice_get p.futures f ≡ Some x → (o : Option (Kept T X)) → found (named its f) y.cells ≡ o
          → TaskIs o (Some x) → solo.may_hold (named its f) y ≡ nat_lt (references_of (task f p)) (2 ^ 40)
      by x is None none over =
          absurd (none_left x.task over (subst (λ (t : AbstractTask T (SoloWaker X)). 0 < references_of t) (task_is f p x is) held))
      by x is (Some v) some of =
          asks_found cells.may_hold false (named its f) y.cells
          ∙ (ap (of_found cells.may_hold false) some
          ∙ ap (λ (t : AbstractTask T (SoloWaker X)). nat_lt (references_of t) (2 ^ 40)) (of.task ∙ sym (task_is f p x is)))

module _ {F T X : Type 0} (its : ℕ → Lent) (s : Machine) (a : Act) (c : Choice) (x : Refusal) (same : x ≡ refused_in s a) (owner : Owner)
    (y : Solo F T X) (p : Plain T (SoloWaker X)) (known : Known its owner y p) (many : length p.lying ≤ c.tells) where
  made_alike : (call : Call T (SoloWaker X)) (shown : List (Event T (SoloWaker X))) (z : Solo F T X)
      (how : Makes its c y p call shown z) → c.refusal ≡ made_as its owner c y p call shown z x how → RefusesAlike its s a c p call
      → (copies_waker call ≡ true → IsOnce (refused_in s a)) → asks_memory wakes_of c p call ≡ true → c.refusal ≡ refused_in s a
  made_alike call shown z (spawns mark future spawned z' so name granted life few) is alike once asks = is ∙ same
  made_alike call shown z (refuses mark future refused z' so want) is alike once asks = is ∙ same
  made_alike call shown z (takes first life) is alike once asks = is ∙ same
  made_alike call shown z looks is alike once asks = is ∙ same
  made_alike call shown z (wakes f at life) is alike once asks = is ∙ same
  made_alike call shown z (uses f at life) is alike once asks = is ∙ same
  made_alike call shown z (releases f at life) is alike once asks = is ∙ same
  made_alike call shown z (copies f at so) is alike once asks =
      copied_alike s a c (solo.may_hold (named its f) y) is (alike.1 ∙ sym (held_so its y p known.stands.0 f at alike.0)) (once refl)
  made_alike call shown z (polls f (OfTask t) at handle names life) is alike once asks =
      let of = (names t refl).0 in
      let both = alike asks in
      let held : solo.may_hold t y ≡ nat_lt (references_of (task t.number p)) (2 ^ 40) =
      ap (λ u. solo.may_hold u y) (sym of.1) ∙ held_so its y p known.stands.0 t.number of.0 both.0 in
      copied_alike s a c (solo.may_hold t y) is (both.1 ∙ sym held) (once refl)
  made_alike call shown z (polls f (Outside v) at handle names life) is alike once asks = is ∙ same
  made_alike call shown z (cancels f at life) is alike once asks = is ∙ same
  made_alike call shown z (detaches f at life) is alike once asks = is ∙ same
  made_alike call shown z (drops_handle f at life) is alike once asks = is ∙ same
  made_alike call shown z (leaks owned life) is alike once asks = is ∙ same
  made_alike call shown z (pends f by rest future one inside life) is alike once asks = is ∙ same
  made_alike call shown z (gives f by rest v inside) is alike once asks = is ∙ same
  made_alike call shown z (ends_given f v by rest one inside life) is alike once asks = is ∙ same
  made_alike call shown z (ends_closed f by rest one inside life) is alike once asks = is ∙ same
  made_alike call shown z (loses awaiter by rest one inside life) is alike once asks = is ∙ same

  -- where nothing but memory refuses it
  fits_alike : (call : Call T (SoloWaker X)) (shown : List (Event T (SoloWaker X))) (now : Owner) (z : Solo F T X)
      (how : Acts its owner c y p call shown now z) → c.refusal ≡ acted_as its c y p owner call shown now z x how
      → Fits its c p (refused_in s a) call → c.refusal ≡ refused_in s a
  fits_alike call shown now z how is fits =
      acts_heed its owner c y p known many x call shown now z how is (subst (λ r. Fits its c p r call) (sym same) fits) ∙ same

  by_call : (call : Call T (SoloWaker X)) (shown : List (Event T (SoloWaker X))) (now : Owner) (z : Solo F T X)
      (how : Acts its owner c y p call shown now z) → c.refusal ≡ acted_as its c y p owner call shown now z x how
      → RefusesAlike its s a c p call → asks_memory wakes_of c p call ≡ true → copies_waker call ≡ false → c.refusal ≡ refused_in s a
  by_call (calls.Copy f) shown now z how is alike asks aside = absurd cc
  by_call (calls.PollHandle f w) shown now z how is alike asks aside = absurd cc
  by_call call shown now z how is alike asks aside = fits_alike call shown now z how is alike

  -- a call that copies a waker is made so, and no run goes on in it
  copied : (call : Call T (SoloWaker X)) (shown : List (Event T (SoloWaker X))) (now : Owner) (z : Solo F T X)
      (how : Acts its owner c y p call shown now z) → c.refusal ≡ acted_as its c y p owner call shown now z x how
      → RefusesAlike its s a c p call → (copies_waker call ≡ true → IsOnce (refused_in s a)) → asks_memory wakes_of c p call ≡ true
      → copies_waker call ≡ true → c.refusal ≡ refused_in s a
  copied call shown now z (makes call' shown' z' how) is alike once asks on = made_alike call' shown' z' how is alike once asks
  copied call shown now z (run_goes_on stage runner w rest call' before others now' y' z' its_runner inside (poll_ends f) made more) is
      alike once asks on =
      absurd cc
  copied call shown now z (run_goes_on stage runner w rest call' before others now' y' z' its_runner inside (drop_ends f end) made more)
      is alike once asks on =
      absurd cc
  copied call shown now z (run_goes_on stage runner w rest call' before others now' y' z' its_runner inside (loss_ends awaiter) made more)
      is alike once asks on =
      absurd cc
  copied call shown now z (run_drops stage r w rest call' before f z' inside ending made) is alike once asks on = is ∙ same
  copied call shown now z (run_loses stage r w rest call' before v z' inside ending made) is alike once asks on = is ∙ same
  copied call shown now z how is alike once asks on = absurd cc

  pub refused_alike : (call : Call T (SoloWaker X)) (shown : List (Event T (SoloWaker X))) (now : Owner) (z : Solo F T X)
      (how : Acts its owner c y p call shown now z) → c.refusal ≡ acted_as its c y p owner call shown now z x how
      → RefusesAlike its s a c p call → (copies_waker call ≡ true → IsOnce (refused_in s a)) → asks_memory wakes_of c p call ≡ true
      → c.refusal ≡ refused_in s a
  refused_alike call shown now z how is alike once asks = by (copies_waker call) refl
    where
      by : (b : Bool) → copies_waker call ≡ b → c.refusal ≡ refused_in s a
      by true on = copied call shown now z how is alike once asks on
      by false aside = by_call call shown now z how is alike asks aside
