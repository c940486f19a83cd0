-- A poll of a handle shows its answer, and what the drop of the waker that was left before hands out.
use Rattle.std.proofs.Common.{◌≡◌, ℕ, ◌<◌, ◌≤◌, if◌then◌else◌, Bool, true, false, List, [], ◌∷◌, ◌++◌, length}
use Rattle.std.proofs.Common.{refl, sym, ap, subst, ◌∙◌}
use Rattle.task_moves.specs.AbstractTask as abstract
use Rattle.task_moves.specs.LocalTask as local
use Rattle.task_moves.specs.declared.local_task.answers.Polled.TheVariants.{Closed as ClosedPoll}
use Rattle.solo.specs.declared.names.Task.{Task}
use Rattle.solo.specs.declared.names.SoloWaker.{SoloWaker}
use Rattle.solo.specs.declared.names.SoloWaker.TheVariants.{Task as OfTask, Outside}
use Rattle.solo.specs.declared.owed.Lent.{Lent}
use Rattle.solo.specs.declared.solo.Solo.{Solo}
use Rattle.solo.specs.Cells.{choose}
use Rattle.solo.specs.Cells as cells
use Rattle.solo.specs.Solo as solo
use Rattle.plain_scheduler.specs.State.{Event, Choice, Plain, Answers, Pending, Gives, NoMemory}
use Rattle.plain_scheduler.specs.Lists.{on}
use Rattle.plain_scheduler.specs.Moves.{task, put, tell, copied, let_go}
use Rattle.plain_scheduler.specs.Calls as calls
use Rattle.solo_laws.specs.Alike.{copies, replaced_by}
use Rattle.solo_laws.specs.Road.{IsNamed, Follows, HasLife, wakes as wakes_of}
use Rattle.solo_laws.specs.Shown.{polled_as, rings_without, poll_shows, HandlesShown}
use Rattle.solo_laws.specs.Tabled.{named}
use Rattle.solo_laws.proofs.Following.Cells.{of_found, asks_found}
use Rattle.solo_laws.proofs.Following.Frames.{put_still, copied_still}
use Rattle.solo_laws.proofs.Following.Handling as handling
use Rattle.solo_laws.proofs.Following.Calling.{has, waits_is, copies_it, copied_asks}
use Rattle.solo_laws.proofs.Showing.Telling.{step, put_events}
use Rattle.solo_laws.proofs.Showing.Calling.{lets_go_show}

module _ {T X : Type 0} where
  pub copied_events : (w : SoloWaker X) (p : Plain T (SoloWaker X)) → (copied wakes_of w p).events ≡ p.events
  copied_events (OfTask t) p = put_events t.number (abstract.copy (task t.number p)) p
  copied_events (Outside w) p = refl

module _ {F T X : Type 0} (name : ℕ → Task) (s : Solo F T X) (p : Plain T (SoloWaker X)) (r : Follows name s p) where
  -- what the executor answers
  answer_is : (f : ℕ) (w : SoloWaker X) → f < length p.futures → (task f p).handle ≡ true → (e : abstract.Polled T)
      → abstract.polled (task f p) ≡ e → solo.poll_answer (name f) w s ≡ local.poll_answer_by e w (task f p)
  answer_is f w at handle e is =
      let v = has name s p r f at handle in
      asks_found (cells.poll_answer w) (ClosedPoll w) (name f) s.cells
      ∙ (ap (of_found (cells.poll_answer w) (ClosedPoll w)) v.1
      ∙ (ap (λ t. choose t.handle (local.poll_answer w t) (ClosedPoll w)) v.2
      ∙ (ap (λ b. choose b (local.poll_answer w (task f p)) (ClosedPoll w)) handle
      ∙ ap (λ e. local.poll_answer_by e w (task f p)) is)))

  -- one that has to wait, whose waker was copied
  registers_show : (c : Choice) (f : ℕ) (w : SoloWaker X) → f < length p.futures → (task f p).handle ≡ true
      → abstract.polled (task f p) ≡ abstract.Polled.Waits
      → ((t : Task) → w ≡ OfTask t → IsNamed name (length p.futures) t)
      → length p.lying ≤ c.tells → HasLife 2 s.lines
      → (calls.registered wakes_of c f w p).events
      ≡ p.events ++ (rings_without (replaced_by (solo.poll_answer (name f) w s)) (solo.polled (name f) w s) ++ Answers Pending ∷ [])
  registers_show c f w at handle waits named many life =
      let q = put f (abstract.poll w (task f p)).task p in
      let still = put_still c f (abstract.poll w (task f p)).task p in
      let left = (abstract.poll w (task f p)).let_go in
      let old : left ≡ (task f p).awaiter = ap (λ e. (abstract.poll_by e w (task f p)).let_go) waits in
      let z = solo.polled (name f) w s in
      let answer : replaced_by (solo.poll_answer (name f) w s) ≡ left =
      ap replaced_by (answer_is f w at handle abstract.Polled.Waits waits) ∙ sym old in
      let goes : (on left (let_go wakes_of (tell wakes_of c)) q).events ≡ q.events ++ rings_without left z =
      lets_go_show name c z q (handling.polled name s p r w f at handle named)
      (subst (λ n. n ≤ c.tells) (sym still.lying) many) life left
      (λ t is. subst (λ n. IsNamed name n t) (sym still.futures) (r.awaiters f t (sym old ∙ is))) in
      step p.events (rings_without (replaced_by (solo.poll_answer (name f) w s)) z) (Answers Pending ∷ [])
      (goes
      ∙ (ap (λ es. es ++ rings_without left z) (put_events f (abstract.poll w (task f p)).task p)
      ∙ ap (λ o. p.events ++ rings_without o z) (sym answer)))
      refl

module _ {F T X : Type 0} (its : ℕ → Lent) (s : Solo F T X) (p : Plain T (SoloWaker X)) (r : Follows (named its) s p) where
  abbrev name : ℕ → Task
  name = named its

  abbrev waiting : ℕ → SoloWaker X → Bool → List (Event T (SoloWaker X))
  waiting f w granted =
      let z = copies w s in
      choose granted (rings_without (replaced_by (solo.poll_answer (name f) w z)) (solo.polled (name f) w z) ++ Answers Pending ∷ [])
      (Answers NoMemory ∷ [])

  pub handles_shown : HandlesShown its s p
  handles_shown c f w at handle names many life = by (abstract.polled (task f p)) refl
    where
      must : (e : abstract.Polled T) → abstract.polled (task f p) ≡ e → solo.must_wait (name f) s ≡ local.waits_by e
      must e is = waits_is name s p r f at handle ∙ ap local.waits_by is

      answers : (e : abstract.Polled T) → abstract.polled (task f p) ≡ e → local.waits_by e ≡ false
          → poll_shows (calls.is_granted c.refusal) (name f) w s ≡ Answers (polled_as (local.poll_answer_by e w (task f p))) ∷ []
      answers e is none =
          ap (λ b. choose b (waiting f w (calls.is_granted c.refusal)) (Answers (polled_as (solo.poll_answer (name f) w s)) ∷ []))
          (must e is ∙ none)
          ∙ ap (λ a. Answers (polled_as a) ∷ []) (answer_is name s p r f w at handle e is)

      waits : abstract.polled (task f p) ≡ abstract.Polled.Waits → (b : Bool)
          → ((t : Task) → w ≡ OfTask t → IsNamed name (length p.futures) t × (b ≡ solo.may_hold t s))
          → (if b then calls.registered wakes_of c f w (copied wakes_of w p)
          else record p { events = p.events ++ Answers NoMemory ∷ [] }).events
          ≡ p.events ++ waiting f w b
      waits is false names = refl
      waits is true names =
          let q = copied wakes_of w p in
          let still = copied_still c w p in
          registers_show name (copies w s) q (copies_it name c s p r w names) c f w
          (subst (λ n. f < n) (sym still.futures) at)
          (copied_asks (λ t. t.handle) (λ t. refl) w f p ∙ handle)
          (copied_asks (λ t. abstract.polled t) (λ t. refl) w f p ∙ is)
          (λ t here. subst (λ n. IsNamed name n t) (sym still.futures) (names t here).0)
          (subst (λ n. n ≤ c.tells) (sym still.lying) many)
          (copies_live w)
          ∙ ap (λ es. es ++ waiting f w true) (copied_events w p)
        where
          copies_live : (w : SoloWaker X) → HasLife 2 (copies w s).lines
          copies_live (OfTask t) = life
          copies_live (Outside x) = life

      by : (e : abstract.Polled T) → abstract.polled (task f p) ≡ e
          → (calls.handle_by wakes_of c f w e p).events ≡ p.events ++ poll_shows (calls.is_granted c.refusal) (name f) w s
      by (abstract.Polled.Output v) is =
          ap (λ es. es ++ Answers (Gives v) ∷ []) (put_events f (abstract.poll w (task f p)).task p)
          ∙ ap (λ es. p.events ++ es) (sym (answers (abstract.Polled.Output v) is refl))
      by abstract.Polled.Cancelled is = ap (λ es. p.events ++ es) (sym (answers abstract.Polled.Cancelled is refl))
      by abstract.Polled.Waits is =
          waits is (calls.is_granted c.refusal) names
          ∙ ap (λ b. p.events ++ choose b (waiting f w (calls.is_granted c.refusal))
          (Answers (polled_as (solo.poll_answer (name f) w s)) ∷ []))
          (sym (must abstract.Polled.Waits is))
