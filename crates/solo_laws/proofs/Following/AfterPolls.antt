-- A poll of a handle, its drop, and the end of an output's drop, once a close has come to its end.
use Rattle.std.proofs.Common.{◌≡◌, ℕ, ◌<◌, ◌≤◌, if◌then◌else◌, Bool, true, false, List, [], ◌∷◌, ◌++◌, length, Option, Some, refl}
use Rattle.std.proofs.Common.{sym, ap, subst, ◌∙◌}
use Rattle.task_moves.specs.AbstractTask as abstract
use Rattle.task_moves.specs.AbstractTask.{AbstractTask}
use Rattle.task_moves.specs.LocalTask as local
use Rattle.task_moves.specs.declared.local_task.answers.Polled.TheVariants.{Closed as ClosedPoll}
use Rattle.solo.specs.declared.names.Task.{Task}
use Rattle.solo.specs.declared.names.SoloWaker.{SoloWaker}
use Rattle.solo.specs.declared.names.SoloWaker.TheVariants.{Task as OfTask, Outside}
use Rattle.solo.specs.declared.owed.Lent.{Lent}
use Rattle.solo.specs.declared.solo.Solo.{Solo}
use Rattle.solo.specs.Cells.{choose}
use Rattle.solo.specs.Cells as cells
use Rattle.solo.specs.Solo as solo
use Rattle.plain_scheduler.specs.State.{Event, Choice, Plain, Lose, Answers, Pending, NoMemory}
use Rattle.plain_scheduler.specs.Lists.{on}
use Rattle.plain_scheduler.specs.Moves.{task, put, tell, called, let_go, copied}
use Rattle.plain_scheduler.specs.Calls as calls
use Rattle.solo_laws.specs.Alike.{HandlesAlike, HandleDropsAlike, calls as calls_it, copies, cancelled, handle_polled, registered}
use Rattle.solo_laws.specs.Alike.{replaced_by}
use Rattle.solo_laws.specs.Closing.{IsClosed, CallsAfterClose, LosesIn, opened, waits}
use Rattle.solo_laws.specs.Road.{Follows, IsNamed, wakes}
use Rattle.solo_laws.specs.Shown.{ended_in, polled_as, poll_shows, rings_without}
use Rattle.solo_laws.specs.Tabled.{named}
use Rattle.solo_laws.proofs.Following.Cells.{of_found, asks_found}
use Rattle.solo_laws.proofs.Following.Frames.{copied_still, put_still}
use Rattle.solo_laws.proofs.Following.Lives.{three_fewer, cancelled_lives}
use Rattle.solo_laws.proofs.Following.Losing as losing
use Rattle.solo_laws.proofs.Following.Seeing.{seen}
use Rattle.solo_laws.proofs.Following.Handling as handling
use Rattle.solo_laws.proofs.Following.Calling as calling
use Rattle.solo_laws.proofs.Following.Calling.{Named}
use Rattle.solo_laws.proofs.Following.Calming.{IsCalm}
use Rattle.solo_laws.proofs.Following.Retracting as retracting
use Rattle.solo_laws.proofs.Following.InClose as within
use Rattle.solo_laws.proofs.Following.AfterClose as after
use Rattle.solo_laws.proofs.Following.AfterClose.{Rests, rests_then, rests_put, rests_calls, rests_lets_go, poll_waits, lets_go_opened}
use Rattle.solo_laws.proofs.Following.AfterClose.{rings_without_opened}

must : {T : Type 0} (e : abstract.Polled T) → local.waits_by e ≡ true → e ≡ abstract.Polled.Waits
must (abstract.Polled.Output v) is = absurd cc
must abstract.Polled.Cancelled is = absurd cc
must abstract.Polled.Waits is = refl

module _ {F T X : Type 0} (its : ℕ → Lent) (s : Solo F T X) (p : Plain T (SoloWaker X)) (r : IsClosed its s p) where
  abbrev w : Plain T (SoloWaker X)
  w = r.whole

  abbrev name : ℕ → Task
  name = named its

  module _ (c : Choice) (f : ℕ) (v : SoloWaker X) (at : f < length w.futures) (handle : (task f w).handle ≡ true)
      (many : length w.lying ≤ c.tells) where
    abbrev t : Task
    t = name f

    -- with a copy of its waker it has to wait
    module _ (waiting : abstract.polled (task f w) ≡ abstract.Polled.Waits)
        (names : (u : Task) → v ≡ OfTask u → IsNamed name (length w.futures) u × (true ≡ solo.may_hold u s)) where
      abbrev z : Solo F T X
      z = copies v s

      abbrev q : Plain T (SoloWaker X)
      q = copied wakes v w

      copies_open : copies v (opened s) ≡ opened z
      copies_open = by v
        where
          by : (v : SoloWaker X) → copies v (opened s) ≡ opened (copies v s)
          by (OfTask u) = refl
          by (Outside x) = refl

      follows_q : Follows name (opened z) q
      follows_q = subst (λ z. Follows name z q) copies_open (calling.copies_it name c (opened s) w r.follows v names)

      long_q : length q.futures ≡ length w.futures
      long_q = (copied_still c v w).futures

      at_q : f < length q.futures
      at_q = subst (λ n. f < n) (sym long_q) at

      handle_q : (task f q).handle ≡ true
      handle_q = calling.copied_asks (λ t. t.handle) (λ t. refl) v f w ∙ handle

      waits_q : abstract.polled (task f q) ≡ abstract.Polled.Waits
      waits_q = calling.copied_asks (λ t. abstract.polled t) (λ t. refl) v f w ∙ waiting

      named_q : (u : Task) → v ≡ OfTask u → IsNamed name (length q.futures) u
      named_q u is = subst (λ n. IsNamed name n u) (sym long_q) (names u is).0

      abbrev now : Plain T (SoloWaker X)
      now = put f (abstract.poll v (task f q)).task q

      follows_now : Follows name (opened (solo.polled t v z)) now
      follows_now = handling.polled name (opened z) q follows_q v f at_q handle_q named_q

      -- the waker that was left before
      abbrev old : Option (SoloWaker X)
      old = replaced_by (solo.poll_answer t v z)

      old_is : old ≡ (task f q).awaiter
      old_is =
          let k = calling.has name (opened z) q follows_q f at_q handle_q in
          ap replaced_by (asks_found (cells.poll_answer v) (ClosedPoll v) t z.cells
          ∙ (ap (of_found (cells.poll_answer v) (ClosedPoll v)) k.1
          ∙ (ap (λ t. choose t.handle (local.poll_answer v t) (ClosedPoll v)) k.2
          ∙ (ap (λ b. choose b (local.poll_answer v (task f q)) (ClosedPoll v)) handle_q
          ∙ ap (λ e. local.poll_answer_by e v (task f q)) waits_q))))

      let_go_is : (abstract.poll v (task f q)).let_go ≡ (task f q).awaiter
      let_go_is = ap (λ e. (abstract.poll_by e v (task f q)).let_go) waits_q

      rests_q : Rests w q
      rests_q = after.rests_copied v w

      rests_now : Rests w now
      rests_now =
          rests_then w q now rests_q (rests_put f (abstract.poll v (task f q)).task q (λ is. poll_waits v (task f q) is))

      theirs : (u : Task) → (task f q).awaiter ≡ Some (OfTask u) → IsNamed name (length q.futures) u
      theirs u is = follows_q.awaiters f u is

      calm_at : (u : Task) → IsNamed name (length q.futures) u → waits (task u.number now) ≡ false
      calm_at u is = rests_now.1 u.number (r.calm u.number (subst (λ n. u.number < n) long_q is.0))

      registers_open : registered t v (copies v (opened s)) ≡ opened (registered t v z)
      registers_open =
          ap (λ z. registered t v z) copies_open
          ∙ lets_go_opened name (solo.polled t v z) now follows_now old
          (λ u is. subst (λ n. IsNamed name n u) (sym ((put_still c f (abstract.poll v (task f q)).task q).futures))
          (theirs u (sym old_is ∙ is)))
          (λ u is. calm_at u (theirs u (sym old_is ∙ is)))

      old_rings : rings_without (replaced_by (solo.poll_answer t v (copies v (opened s)))) (solo.polled t v (copies v (opened s)))
          ≡ rings_without old (solo.polled t v z)
      old_rings =
          ap (λ y. rings_without (replaced_by (solo.poll_answer t v y)) (solo.polled t v y)) copies_open
          ∙ rings_without_opened name (solo.polled t v z) now follows_now old
          (λ u is. subst (λ n. IsNamed name n u) (sym ((put_still c f (abstract.poll v (task f q)).task q).futures))
          (theirs u (sym old_is ∙ is)))
          (λ u is. calm_at u (theirs u (sym old_is ∙ is)))

      rests_registered : Rests w (calls.registered wakes c f v q)
      rests_registered =
          rests_then w now (on (abstract.poll v (task f q)).let_go (let_go wakes (tell wakes c)) now) rests_now
          (rests_lets_go (tell wakes c) (abstract.poll v (task f q)).let_go now (λ u is. calm_at u (theirs u (sym let_go_is ∙ is))))

    -- a poll, with or without a copy
    opens : (granted : Bool)
        → ((u : Task) → v ≡ OfTask u → IsNamed name (length w.futures) u × (granted ≡ solo.may_hold u s))
        → handle_polled granted t v (opened s) ≡ opened (handle_polled granted t v s)
    opens granted names = by (solo.must_wait t s) refl granted names
      where
        by : (b : Bool) → solo.must_wait t s ≡ b → (granted : Bool)
            → ((u : Task) → v ≡ OfTask u → IsNamed name (length w.futures) u × (granted ≡ solo.may_hold u s))
            → choose b (choose granted (registered t v (copies v (opened s))) (opened s)) (solo.polled t v (opened s))
            ≡ opened (choose b (choose granted (registered t v (copies v s)) s) (solo.polled t v s))
        by false is granted names = refl
        by true is false names = refl
        by true is true names =
            registers_open
            (must (abstract.polled (task f w)) (sym (calling.waits_is name (opened s) w r.follows f at handle) ∙ is)) names

    -- which shows the same
    pub poll_same : (granted : Bool)
        → ((u : Task) → v ≡ OfTask u → IsNamed name (length w.futures) u × (granted ≡ solo.may_hold u s))
        → poll_shows granted t v (opened s) ≡ poll_shows granted t v s
    poll_same granted names = by (solo.must_wait t s) refl granted names
      where
        answers : List (Event T (SoloWaker X))
        answers = Answers (polled_as (solo.poll_answer t v s)) ∷ []

        waiting : Bool → Solo F T X → List (Event T (SoloWaker X))
        waiting granted s =
            let z = copies v s in
            choose granted (rings_without (replaced_by (solo.poll_answer t v z)) (solo.polled t v z) ++ Answers Pending ∷ [])
            (Answers NoMemory ∷ [])

        by : (b : Bool) → solo.must_wait t s ≡ b → (granted : Bool)
            → ((u : Task) → v ≡ OfTask u → IsNamed name (length w.futures) u × (granted ≡ solo.may_hold u s))
            → choose b (waiting granted (opened s)) answers ≡ choose b (waiting granted s) answers
        by false is granted names = refl
        by true is false names = refl
        by true is true names =
            ap (λ es. es ++ Answers Pending ∷ [])
            (old_rings (must (abstract.polled (task f w)) (sym (calling.waits_is name (opened s) w r.follows f at handle) ∙ is)) names)

    rests_handled : ((u : Task) → v ≡ OfTask u → IsNamed name (length w.futures) u × (calls.is_granted c.refusal ≡ solo.may_hold u s))
        → Rests w (calls.does wakes c (calls.Call.PollHandle f v) w)
    rests_handled names = by (abstract.polled (task f w)) refl
      where
        granted_by : abstract.polled (task f w) ≡ abstract.Polled.Waits → (b : Bool)
            → ((u : Task) → v ≡ OfTask u → IsNamed name (length w.futures) u × (b ≡ solo.may_hold u s))
            → Rests w (if b then calls.registered wakes c f v (copied wakes v w)
            else record w { events = w.events ++ Answers NoMemory ∷ [] })
        granted_by is false names = (refl, λ g so. so, refl)
        granted_by is true names = rests_registered is names

        by : (e : abstract.Polled T) → abstract.polled (task f w) ≡ e → Rests w (calls.handle_by wakes c f v e w)
        by (abstract.Polled.Output o) is = rests_put f (abstract.poll v (task f w)).task w (λ so. poll_waits v (task f w) so)
        by abstract.Polled.Cancelled is = (refl, λ g so. so, refl)
        by abstract.Polled.Waits is = granted_by is (calls.is_granted c.refusal) names

  handles_after : HandlesAlike name (IsClosed its) s p
  handles_after c f v at handle names many life =
      let here = after.below its s p r f at in
      let handled = after.handle_in its s p r f handle in
      let fewer = after.few its s p r c many in
      let theirs : (u : Task) → v ≡ OfTask u → IsNamed name (length w.futures) u × (calls.is_granted c.refusal ≡ solo.may_hold u s) =
      λ u is. (subst (λ n. IsNamed name n u) (after.long its s p r) (names u is).0, (names u is).1) in
      after.goes_after its s p r (calls.does wakes c (calls.Call.PollHandle f v)) (within.handled_spared c f v)
      (handle_polled (calls.is_granted c.refusal) (name f) v s)
      (subst (λ z. Follows name z (calls.does wakes c (calls.Call.PollHandle f v) w))
      (opens c f v here handled fewer (calls.is_granted c.refusal) theirs)
      (calling.handles_alike name (opened s) w r.follows c f v here handled theirs fewer (after.open_lives its s p r 2 life)))
      (rests_handled c f v here handled fewer theirs)

  -- a handle that goes cancels and detaches
  handle_drops_after : HandleDropsAlike name (IsClosed its) s p
  handle_drops_after c f at many life =
      let still = calling.cancel_still c f p in
      after.detaches_after its (cancelled (name f) s) (calls.cancel wakes c f p)
      (after.cancel_first its s p r c f at many (three_fewer 5 s.lines life)) c f
      (subst (λ n. f < n) (sym still.futures) at)
      (subst (λ n. n ≤ c.tells) (sym still.lying) many)
      (calling.calls_lives (solo.cancel_answer (name f) s).awaiter (solo.cancelled (name f) s) (cancelled_lives 5 (name f) s life))

  -- once an output is dropped who awaits its task is called
  loses_after : LosesIn its s p (IsClosed its)
  loses_after c awaiter by rest one is many life =
      let inside_is : w.inside ≡ Lose awaiter by ∷ rest = sym (ap (λ (z : Plain T (SoloWaker X)). z.inside) r.same) ∙ is in
      let out = losing.lost name (length w.futures) s.cells w.inside rest r.follows.inside awaiter by inside_is in
      let y : Plain T (SoloWaker X) = record w { inside = rest } in
      let follows : Follows name (opened s) y = seen name (opened s) w w.events rest out.0 r.follows in
      let calm : IsCalm y awaiter = λ u so. r.calm u.number (out.1 u so).0 in
      let q : Plain T (SoloWaker X) = on awaiter (called wakes (tell wakes c)) y in
      let called_so : Follows name (opened (calls_it awaiter s)) q =
      subst (λ z. Follows name z q) (retracting.calls_opened name s y follows awaiter out.1 calm)
      (calling.calls_alike name c (opened s) y follows (after.few its s p r c many) (after.open_lives its s p r 2 life) awaiter out.1) in
      subst (λ q. IsClosed its (calls_it awaiter s) q) (sym (within.lost_is c awaiter by rest one p is))
      (after.goes_after its s p r (within.lost c awaiter by rest) (within.lost_spared c awaiter by rest) (calls_it awaiter s)
      (seen name (opened (calls_it awaiter s)) q (q.events ++ Answers (ended_in by) ∷ []) q.inside called_so.inside called_so)
      (rests_calls (tell wakes c) awaiter y calm))

  pub calls_after_close : CallsAfterClose its s p
  calls_after_close = (
    after.wakes_after its s p r,
    after.releases_after its s p r,
    after.uses_after its s p r,
    after.copies_after its s p r,
    after.cancels_after its s p r,
    after.detaches_after its s p r,
    handles_after,
    handle_drops_after,
    loses_after,
  )
