-- What is called on tasks once a close has come to its end shows what the plain scheduler sees.
use Rattle.std.proofs.Common.{◌≡◌, ℕ, ◌<◌, ◌≤◌, if◌then◌else◌, Bool, true, false, List, [], ◌∷◌, ◌++◌, length, Option, None}
use Rattle.std.proofs.Common.{is_some, refl}
use Rattle.std.proofs.Common.{sym, ap, subst, ◌∙◌}
use Rattle.solo.specs.declared.names.Task.{Task}
use Rattle.solo.specs.declared.names.SoloWaker.{SoloWaker}
use Rattle.solo.specs.declared.names.SoloWaker.TheVariants.{Task as OfTask}
use Rattle.solo.specs.declared.owed.Lent.{Lent}
use Rattle.solo.specs.declared.solo.Solo.{Solo}
use Rattle.solo.specs.Cells.{choose, asked}
use Rattle.solo.specs.Cells as cells
use Rattle.solo.specs.Solo as solo
use Rattle.solo.specs.Turns as turns
use Rattle.plain_scheduler.specs.State.{Event, Answers, Done, Made, NoMemory, Granted, AtOnce, Choice, Code, Lose, Taker, Plain}
use Rattle.plain_scheduler.specs.Moves.{task}
use Rattle.plain_scheduler.specs.Calls as calls
use Rattle.solo_laws.specs.Alike.{cancelled}
use Rattle.solo_laws.specs.Closing.{IsClosed, opened}
use Rattle.solo_laws.specs.Dropping.{ends_one}
use Rattle.solo_laws.specs.Road.{HasLife, IsNamed, wakes}
use Rattle.solo_laws.specs.Shown.{rings, rings_of, loses_or, cancel_shows, detach_shows, poll_shows, call_shows}
use Rattle.solo_laws.specs.Shown.{ended_in}
use Rattle.solo_laws.specs.Tabled.{named}
use Rattle.solo_laws.proofs.Following.Lives.{three_fewer}
use Rattle.solo_laws.proofs.Following.Losing as losing
use Rattle.solo_laws.proofs.Following.Seeing.{seen}
use Rattle.solo_laws.proofs.Following.Calling as calling
use Rattle.solo_laws.proofs.Following.Retracting as retracting
use Rattle.solo_laws.proofs.Following.Sparing as sparing
use Rattle.solo_laws.proofs.Following.Sparing.{Spares}
use Rattle.solo_laws.proofs.Following.InClose as within
use Rattle.solo_laws.proofs.Following.AfterClose as after
use Rattle.solo_laws.proofs.Following.AfterPolls as polls
use Rattle.solo_laws.proofs.Showing.Telling.{step}
use Rattle.solo_laws.proofs.Showing.Calling as showing
use Rattle.solo_laws.proofs.Showing.Polling.{handles_shown}

module _ {F T X : Type 0} (its : ℕ → Lent) (s : Solo F T X) (p : Plain T (SoloWaker X)) (r : IsClosed its s p) where
  abbrev w : Plain T (SoloWaker X)
  w = r.whole

  abbrev name : ℕ → Task
  name = named its

  -- what both see of what the executor with open queues shows
  seen_after : (op : Plain T (SoloWaker X) → Plain T (SoloWaker X)) → Spares op → (shown others : List (Event T (SoloWaker X)))
      → (op w).events ≡ w.events ++ others → others ≡ shown → (op p).events ≡ p.events ++ shown
  seen_after op spares shown others seen is = sparing.seen_same p w r.same op spares shown others seen is

  -- nobody is told where nothing is queued
  silent : (b : Bool) → b ≡ false → (t : Task) (y z : Solo F T X) (others : List (Event T (SoloWaker X)))
      → rings (turns.schedule_if_answer b t y).sleeper ++ others ≡ rings (turns.schedule_if_answer b t z).sleeper ++ others
  silent b none t y z others =
      ap (λ b. rings (turns.schedule_if_answer b t y).sleeper ++ others) none
      ∙ sym (ap (λ b. rings (turns.schedule_if_answer b t z).sleeper ++ others) none)

  module _ (c : Choice) (f : ℕ) (at : f < length p.futures) (many : length p.lying ≤ c.tells) where
    abbrev t : Task
    t = name f

    here : f < length w.futures
    here = after.below its s p r f at

    fewer : length w.lying ≤ c.tells
    fewer = after.few its s p r c many

    pub wakes_seen : HasLife 2 s.lines
        → (calls.does wakes c (calls.Call.Wake f) p).events ≡ p.events ++ (rings (solo.wake_answer t s).sleeper ++ Answers Done ∷ [])
    wakes_seen life =
        seen_after (calls.does wakes c (calls.Call.Wake f)) (within.wake_spared c f) _ _
        (showing.wakes_shown its (opened s) w r.follows c f here fewer (after.open_lives its s p r 2 life))
        (silent (asked cells.wake_queues false t s.cells) (after.wake_none its s p r f here) t (turns.turned cells.woken t (opened s))
        (turns.turned cells.woken t s) (Answers Done ∷ []))

    pub releases_seen : HasLife 2 s.lines
        → (calls.does wakes c (calls.Call.Release f) p).events ≡ p.events ++ (rings (solo.release_answer t s).sleeper ++ Answers Done ∷ [])
    releases_seen life =
        seen_after (calls.does wakes c (calls.Call.Release f)) (within.release_spared c f) _ _
        (showing.releases_shown its (opened s) w r.follows c f here fewer (after.open_lives its s p r 2 life))
        (silent (asked cells.release_queues false t s.cells) (after.release_none its s p r f here) t
        (turns.turned cells.released t (opened s)) (turns.turned cells.released t s) (Answers Done ∷ []))

    pub uses_seen : HasLife 2 s.lines
        → (calls.does wakes c (calls.Call.Use f) p).events
        ≡ p.events ++ (rings (solo.wake_and_release_answer t s).sleeper ++ Answers Done ∷ [])
    uses_seen life =
        seen_after (calls.does wakes c (calls.Call.Use f)) (within.use_spared c f) _ _
        (showing.uses_shown its (opened s) w r.follows c f here fewer (after.open_lives its s p r 2 life))
        (silent (solo.wakes_or_closes t s) (after.use_none its s p r f here) t
        (turns.turned cells.released t (turns.turned cells.woken t (opened s)))
        (turns.turned cells.released t (turns.turned cells.woken t s)) (Answers Done ∷ []))

    detach_same : detach_shows t (opened s) ≡ detach_shows t s
    detach_same =
        silent (is_some (asked cells.detach_queues None t s.cells)) (after.detach_none its s p r f here) t
        (turns.turned cells.detached t (opened s)) (turns.turned cells.detached t s)
        (loses_or (asked cells.detach_drops None t s.cells) (Answers Done ∷ []))

    pub detaches_seen : HasLife 2 s.lines
        → (calls.does wakes c (calls.Call.Detach f) p).events ≡ p.events ++ detach_shows t s
    detaches_seen life =
        seen_after (calls.does wakes c (calls.Call.Detach f)) (within.detach_spared c f) _ _
        (showing.detaches_shown its (opened s) w r.follows c f here fewer (after.open_lives its s p r 2 life)) detach_same

    cancel_same : HasLife 5 s.lines → (others : List (Event T (SoloWaker X)))
        → cancel_shows t (opened s) others ≡ cancel_shows t s others
    cancel_same life others =
        let who = asked cells.cancel_calls None t s.cells in
        let no = after.no_queue its s p r c f at many life in
        silent (is_some (asked cells.cancel_queues None t s.cells)) no t (turns.turned cells.cancelled t (opened s))
        (turns.turned cells.cancelled t s) (rings_of who (solo.cancelled t (opened s)) ++ others)
        ∙ ap (λ es. rings (solo.cancel_answer t s).sleeper ++ (es ++ others))
        (ap (λ z. rings_of who z) (after.first_opens its s p r c f at many life) ∙ after.who_rings its s p r c f at many life)

    pub cancels_seen : HasLife 5 s.lines
        → (calls.does wakes c (calls.Call.Cancel f) p).events ≡ p.events ++ cancel_shows t s (Answers Done ∷ [])
    cancels_seen life =
        seen_after (calls.does wakes c (calls.Call.Cancel f)) (within.cancelled_spared c f) _ _
        (showing.cancels_shown its (opened s) w r.follows c f here fewer (after.open_lives its s p r 5 life))
        (cancel_same life (Answers Done ∷ []))

  pub copies_seen : (c : Choice) (f : ℕ) → c.refusal ≡ (if solo.may_hold (name f) s then Granted else AtOnce)
      → (calls.does wakes c (calls.Call.Copy f) p).events
      ≡ p.events ++ Answers (if solo.may_hold (name f) s then Made else NoMemory) ∷ []
  copies_seen c f says =
      seen_after (calls.does wakes c (calls.Call.Copy f)) (within.copy_spared c f) _ _
      (showing.copies_shown its (opened s) w r.follows c f says) refl

  pub polls_seen : (c : Choice) (f : ℕ) (v : SoloWaker X) → f < length p.futures → (task f p).handle ≡ true
      → ((u : Task) → v ≡ OfTask u → IsNamed name (length p.futures) u × (calls.is_granted c.refusal ≡ solo.may_hold u s))
      → length p.lying ≤ c.tells → HasLife 2 s.lines
      → (calls.does wakes c (calls.Call.PollHandle f v) p).events ≡ p.events ++ poll_shows (calls.is_granted c.refusal) (name f) v s
  polls_seen c f v at handle names many life =
      let here = after.below its s p r f at in
      let handled = after.handle_in its s p r f handle in
      let fewer = after.few its s p r c many in
      let theirs : (u : Task) → v ≡ OfTask u → IsNamed name (length w.futures) u × (calls.is_granted c.refusal ≡ solo.may_hold u s) =
      λ u is. (subst (λ n. IsNamed name n u) (after.long its s p r) (names u is).0, (names u is).1) in
      seen_after (calls.does wakes c (calls.Call.PollHandle f v)) (within.handled_spared c f v) _ _
      (handles_shown its (opened s) w r.follows c f v here handled theirs fewer (after.open_lives its s p r 2 life))
      (polls.poll_same its s p r c f v here handled fewer (calls.is_granted c.refusal) theirs)

  pub losses_seen : (c : Choice) (awaiter : Option (SoloWaker X)) (by : Option (Taker (SoloWaker X)))
      (rest : List (Code T (SoloWaker X))) → ends_one by ≡ true → p.inside ≡ Lose awaiter by ∷ rest → length p.lying ≤ c.tells
      → HasLife 2 s.lines → (calls.does wakes c calls.Call.Ends p).events ≡ p.events ++ call_shows awaiter by s
  losses_seen c awaiter by rest one is many life =
      let inside_is : w.inside ≡ Lose awaiter by ∷ rest = sym (ap (λ (z : Plain T (SoloWaker X)). z.inside) r.same) ∙ is in
      let out = losing.lost name (length w.futures) s.cells w.inside rest r.follows.inside awaiter by inside_is in
      let y : Plain T (SoloWaker X) = record w { inside = rest } in
      let follows = seen name (opened s) w w.events rest out.0 r.follows in
      ap (λ (q : Plain T (SoloWaker X)). q.events) (within.lost_is c awaiter by rest one p is)
      ∙ seen_after (within.lost c awaiter by rest) (within.lost_spared c awaiter by rest) (call_shows awaiter by s)
      (call_shows awaiter by (opened s))
      (step w.events (rings_of awaiter (opened s)) (Answers (ended_in by) ∷ [])
      (showing.calls_show name c (opened s) y follows (after.few its s p r c many) (after.open_lives its s p r 2 life) awaiter out.1) refl)
      (ap (λ es. es ++ Answers (ended_in by) ∷ [])
      (retracting.rings_opened name s y follows awaiter out.1 (λ u so. r.calm u.number (out.1 u so).0)))

-- a handle that goes
module _ {F T X : Type 0} (its : ℕ → Lent) (s : Solo F T X) (p : Plain T (SoloWaker X)) (r : IsClosed its s p) where
  pub handle_drops_seen : (c : Choice) (f : ℕ) → f < length p.futures → length p.lying ≤ c.tells → HasLife 8 s.lines
      → (calls.does wakes c (calls.Call.DropHandle f) p).events
      ≡ p.events ++ cancel_shows (named its f) s (detach_shows (named its f) (cancelled (named its f) s))
  handle_drops_seen c f at many life =
      let t = named its f in
      let fewer_life : HasLife 5 s.lines = three_fewer 5 s.lines life in
      let still = calling.cancel_still c f p in
      let then_closed = after.cancel_first its s p r c f at many fewer_life in
      let at_q = subst (λ n. f < n) (sym still.futures) at in
      let many_q = subst (λ n. n ≤ c.tells) (sym still.lying) many in
      seen_after its s p r (calls.does wakes c (calls.Call.DropHandle f)) (within.handle_drop_spared c f) _ _
      (showing.handle_drops_shown its (opened s) r.whole r.follows c f (after.below its s p r f at) (after.few its s p r c many)
      (after.open_lives its s p r 8 life))
      (ap (λ z. cancel_shows t (opened s) (detach_shows t z)) (after.opens its s p r c f at many fewer_life)
      ∙ (ap (λ es. cancel_shows t (opened s) es)
      (detach_same its (cancelled t s) (calls.cancel wakes c f p) then_closed c f at_q many_q)
      ∙ cancel_same its s p r c f at many fewer_life (detach_shows t (cancelled t s))))
