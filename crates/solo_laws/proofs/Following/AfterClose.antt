-- What is called on tasks once a close has come to its end leaves both alike: no task is queued by that.
use Rattle.std.proofs.Common.{◌≡◌, ℕ, ◌<◌, ◌≤◌, ◌&&◌, not, if◌then◌else◌, Bool, true, false, [], ◌∷◌, ◌++◌, length, Option}
use Rattle.std.proofs.Common.{Some, None, is_some, refl, sym, ap, subst, ◌∙◌}
use Rattle.executor_parts.specs.declared.mark.Mark.TheVariants.{Plain as PlainMark, Urgent}
use Rattle.task_moves.specs.AbstractTask as abstract
use Rattle.task_moves.specs.AbstractTask.{AbstractTask, Phase, Idle, Queued, Polling, PollingWoken, Finished}
use Rattle.task_moves.specs.LocalTask.{info_of}
use Rattle.solo.specs.declared.names.Task.{Task}
use Rattle.solo.specs.declared.names.SoloWaker.{SoloWaker}
use Rattle.solo.specs.declared.names.SoloWaker.TheVariants.{Task as OfTask, Outside}
use Rattle.solo.specs.declared.owed.Lent.{Lent}
use Rattle.solo.specs.declared.solo.Solo.{Solo}
use Rattle.solo.specs.Cells.{Kept, choose, asked}
use Rattle.solo.specs.Cells as cells
use Rattle.solo.specs.Solo as solo
use Rattle.solo.specs.Turns as turns
use Rattle.plain_scheduler.specs.State.{Choice, Plain, Lose, Loses, Answers, Made, NoMemory, Done}
use Rattle.plain_scheduler.specs.Lists.{on, or}
use Rattle.plain_scheduler.specs.Moves.{task, put, tell, appended, becomes, called, let_go, copied}
use Rattle.plain_scheduler.specs.Calls as calls
use Rattle.solo_laws.specs.Alike.{WakesAlike, ReleasesAlike, UsesAlike, CopiesAlike, CancelsAlike, DetachesAlike, calls as calls_it}
use Rattle.solo_laws.specs.Alike.{lets_go}
use Rattle.solo_laws.specs.Alike.{cancelled}
use Rattle.solo_laws.specs.Closing.{IsClosed, opened, waits}
use Rattle.solo_laws.specs.Road.{Follows, HasLife, IsNamed, wakes}
use Rattle.solo_laws.specs.Shown.{rings, rings_of, rings_without}
use Rattle.solo_laws.specs.Tabled.{named}
use Rattle.solo_laws.proofs.Loosening.{woken_waits, released_waits, release_tells, none_told}
use Rattle.solo_laws.proofs.Following.Tasks.{IsChange, wakes as wake_changes, releases, uses, cancels, detaches}
use Rattle.solo_laws.proofs.Following.Lives.{three_fewer}
use Rattle.solo_laws.proofs.Following.Using.{Fits, asks, put_due, put_long, wake_and_release, woken_fits, released_fits, used_fits}
use Rattle.solo_laws.proofs.Following.Using.{used_kept}
use Rattle.solo_laws.proofs.Following.Using.{use_queues, cancelled_fits, detached_fits}
use Rattle.solo_laws.proofs.Following.Quiet.{both_ask}
use Rattle.solo_laws.proofs.Following.Waking as waking
use Rattle.solo_laws.proofs.Following.Waking.{is_there}
use Rattle.solo_laws.proofs.Following.Handling as handling
use Rattle.solo_laws.proofs.Following.Calling as calling
use Rattle.solo_laws.proofs.Following.Calling.{Named}
use Rattle.solo_laws.proofs.Following.Calming.{Calm, IsCalm, put_calm, quietly, calls_quietly, woken_infos, use_tells}
use Rattle.solo_laws.proofs.Following.Retracting as retracting
use Rattle.solo_laws.proofs.Following.Sparing as sparing
use Rattle.solo_laws.proofs.Following.Sparing.{Spares}
use Rattle.solo_laws.proofs.Following.InClose as within

module _ {T A : Type 0} where
  abbrev of : Phase → Bool → AbstractTask T A → AbstractTask T A
  of phase closed t = record t { phase = phase; closed = closed }

  -- a cancel and a detach queue none that waits for no wake, and it goes on so
  cancel_quiet : (phase : Phase) (closed : Bool) (t : AbstractTask T A) → (abstract.is_idle phase && not closed) ≡ false
      → ((abstract.cancel (of phase closed t)).task.infos ≡ t.infos) × (waits (abstract.cancel (of phase closed t)).task ≡ false)
  cancel_quiet Idle true t is = (refl, refl)
  cancel_quiet Idle false t is = absurd cc
  cancel_quiet Queued true t is = (refl, refl)
  cancel_quiet Queued false t is = (refl, refl)
  cancel_quiet Polling true t is = (refl, refl)
  cancel_quiet Polling false t is = (refl, refl)
  cancel_quiet PollingWoken true t is = (refl, refl)
  cancel_quiet PollingWoken false t is = (refl, refl)
  cancel_quiet Finished true t is = (refl, refl)
  cancel_quiet Finished false t is = (refl, refl)

  detach_quiet : (phase : Phase) (closed : Bool) (t : AbstractTask T A) → (abstract.is_idle phase && not closed) ≡ false
      → ((abstract.detach (of phase closed t)).task.infos ≡ t.infos) × (waits (abstract.detach (of phase closed t)).task ≡ false)
  detach_quiet Idle true t is = (refl, refl)
  detach_quiet Idle false t is = absurd cc
  detach_quiet Queued closed t is = (refl, refl)
  detach_quiet Polling closed t is = (refl, refl)
  detach_quiet PollingWoken closed t is = (refl, refl)
  detach_quiet Finished closed t is = (refl, refl)

  cancel_tells : (t : AbstractTask T A) → waits t ≡ false → is_some (info_of t (abstract.cancel t).task) ≡ false
  cancel_tells t is = none_told t (abstract.cancel t).task (cancel_quiet t.phase t.closed t is).0

  cancel_waits : (t : AbstractTask T A) → waits t ≡ false → waits (abstract.cancel t).task ≡ false
  cancel_waits t is = (cancel_quiet t.phase t.closed t is).1

  detach_tells : (t : AbstractTask T A) → waits t ≡ false → is_some (info_of t (abstract.detach t).task) ≡ false
  detach_tells t is = none_told t (abstract.detach t).task (detach_quiet t.phase t.closed t is).0

  detach_waits : (t : AbstractTask T A) → waits t ≡ false → waits (abstract.detach t).task ≡ false
  detach_waits t is = (detach_quiet t.phase t.closed t is).1

  wake_tells : (t : AbstractTask T A) → waits t ≡ false → is_some (info_of t (abstract.wake t)) ≡ false
  wake_tells t is = none_told t (abstract.wake t) (woken_infos t.phase t.closed t is)

  pub poll_waits : (w : A) (t : AbstractTask T A) → waits t ≡ false → waits (abstract.poll w t).task ≡ false
  poll_waits w t is = by (abstract.polled t)
    where
      never : (b : Bool) → (b && false) ≡ false
      never true = refl
      never false = refl

      by : (e : abstract.Polled T) → waits (abstract.poll_by e w t).task ≡ false
      by (abstract.Polled.Output v) = never (abstract.is_idle t.phase)
      by abstract.Polled.Cancelled = is
      by abstract.Polled.Waits = is

module _ {T X : Type 0} where
  -- as many futures, as much due, and whoever waited for no wake doesn't
  abbrev pub Rests : Plain T (SoloWaker X) → Plain T (SoloWaker X) → Type 0
  Rests p q = (length q.futures ≡ length p.futures) × Calm p q × (q.due ≡ p.due)

  pub rests_then : (p q z : Plain T (SoloWaker X)) → Rests p q → Rests q z → Rests p z
  rests_then p q z a b = (b.0 ∙ a.0, λ f is. b.1 f (a.1 f is), b.2 ∙ a.2)

  pub rests_put : (f : ℕ) (new : AbstractTask T (SoloWaker X)) (p : Plain T (SoloWaker X)) → (waits (task f p) ≡ false → waits new ≡ false)
      → Rests p (put f new p)
  rests_put f new p keeps = (put_long f new p, put_calm f new p keeps, put_due f new p)

  rests_quietly : (o : Option (SoloWaker X)) (p : Plain T (SoloWaker X)) → Rests p (on o quietly p)
  rests_quietly None p = (refl, λ f is. is, refl)
  rests_quietly (Some (OfTask t)) p =
      rests_put t.number (wake_and_release (task t.number p)) p
      (λ is. released_waits (abstract.wake (task t.number p)) (woken_waits (task t.number p)))
  rests_quietly (Some (Outside w)) p = (refl, λ f is. is, refl)

  pub rests_calls : (more : Plain T (SoloWaker X) → Plain T (SoloWaker X)) (o : Option (SoloWaker X)) (p : Plain T (SoloWaker X))
      → IsCalm p o → Rests p (on o (called wakes more) p)
  rests_calls more o p calm = subst (Rests p) (sym (calls_quietly more o p calm)) (rests_quietly o p)

  module _ (more : Plain T (SoloWaker X) → Plain T (SoloWaker X)) (h : AbstractTask T (SoloWaker X) → AbstractTask T (SoloWaker X))
      (f : ℕ) (p : Plain T (SoloWaker X)) (tells : is_some (info_of (task f p) (h (task f p))) ≡ false) where
    becomes_put : becomes wakes more f (h (task f p)) p ≡ put f (h (task f p)) p
    becomes_put = ap (λ b. if b then more (appended f (put f (h (task f p)) p)) else put f (h (task f p)) p) tells

    rests_becomes : (waits (task f p) ≡ false → waits (h (task f p)) ≡ false) → Rests p (becomes wakes more f (h (task f p)) p)
    rests_becomes keeps = subst (Rests p) (sym becomes_put) (rests_put f (h (task f p)) p keeps)

  pub rests_copied : (w : SoloWaker X) (p : Plain T (SoloWaker X)) → Rests p (copied wakes w p)
  rests_copied (OfTask t) p = rests_put t.number (abstract.copy (task t.number p)) p (λ is. is)
  rests_copied (Outside w) p = (refl, λ f is. is, refl)

  -- a waker that goes
  pub rests_lets_go : (more : Plain T (SoloWaker X) → Plain T (SoloWaker X)) (o : Option (SoloWaker X)) (p : Plain T (SoloWaker X))
      → IsCalm p o → Rests p (on o (let_go wakes more) p)
  rests_lets_go more None p calm = (refl, λ f is. is, refl)
  rests_lets_go more (Some (OfTask t)) p calm =
      rests_becomes more abstract.release t.number p (release_tells (task t.number p) (calm t refl))
      (λ is. released_waits (task t.number p) is)
  rests_lets_go more (Some (Outside w)) p calm = (refl, λ f is. is, refl)

-- or is let go
module _ {F T X : Type 0} (name : ℕ → Task) (s : Solo F T X) (q : Plain T (SoloWaker X)) (r : Follows name (opened s) q) where
  no_release : (t : Task) → IsNamed name (length q.futures) t → waits (task t.number q) ≡ false
      → asked cells.release_queues false t s.cells ≡ false
  no_release t it calm =
      subst (λ u. asked cells.release_queues false u s.cells ≡ false) it.1
      (asks None name cells.released cells.release_queues abstract.release releases released_fits t.number (opened s) q it.0 r
      ∙ release_tells (task t.number q) calm)

  pub lets_go_opened : (o : Option (SoloWaker X)) → Named name (length q.futures) o → IsCalm q o
      → lets_go o (opened s) ≡ opened (lets_go o s)
  lets_go_opened None named calm = refl
  lets_go_opened (Some (Outside w)) named calm = refl
  lets_go_opened (Some (OfTask t)) named calm =
      let none = no_release t (named t refl) (calm t refl) in
      ap (λ b. turns.swept t (turns.scheduled_if b t (turns.turned cells.released t (opened s)))) none
      ∙ sym (ap (λ b. opened (turns.swept t (turns.scheduled_if b t (turns.turned cells.released t s)))) none)

  pub rings_without_opened : (o : Option (SoloWaker X)) → Named name (length q.futures) o → IsCalm q o
      → rings_without o (opened s) ≡ rings_without o s
  rings_without_opened None named calm = refl
  rings_without_opened (Some (Outside w)) named calm = refl
  rings_without_opened (Some (OfTask t)) named calm =
      let none = no_release t (named t refl) (calm t refl) in
      ap (λ b. rings (turns.schedule_if_answer b t (turns.turned cells.released t (opened s))).sleeper) none
      ∙ sym (ap (λ b. rings (turns.schedule_if_answer b t (turns.turned cells.released t s)).sleeper) none)

module _ {F T X : Type 0} (its : ℕ → Lent) (s : Solo F T X) (p : Plain T (SoloWaker X)) (r : IsClosed its s p) where
  abbrev w : Plain T (SoloWaker X)
  w = r.whole

  abbrev name : ℕ → Task
  name = named its

  pub long : length p.futures ≡ length w.futures
  long = sparing.long p w r.same

  pub below : (f : ℕ) → f < length p.futures → f < length w.futures
  below f at = subst (λ n. f < n) long at

  pub few : (c : Choice) → length p.lying ≤ c.tells → length w.lying ≤ c.tells
  few c many = sparing.few p w r.same c.tells many

  pub handle_in : (f : ℕ) → (task f p).handle ≡ true → (task f w).handle ≡ true
  handle_in f handle = sparing.handle_in p w r.same f handle

  pub open_lives : (n : ℕ) → HasLife n s.lines → HasLife n (opened s).lines
  open_lives n life PlainMark = life PlainMark
  open_lives n life Urgent = life Urgent

  pub goes_after : (op : Plain T (SoloWaker X) → Plain T (SoloWaker X)) → Spares op → (z : Solo F T X) → Follows name (opened z) (op w)
      → Rests w (op w) → IsClosed its z (op p)
  goes_after op spares z follows rests = record {
    whole = op w;
    same = sym (spares p) ∙ (ap op r.same ∙ spares w);
    follows = follows;
    calm = λ f at. rests.1 f (r.calm f (subst (λ n. f < n) rests.0 at));
    due = rests.2 ∙ r.due;
  }

  -- no task is queued by a change of its state
  none : (g : Kept T X → Kept T X) (q : Kept T X → Bool) (h : AbstractTask T (SoloWaker X) → AbstractTask T (SoloWaker X))
      → IsChange h → Fits g q h → ((t : AbstractTask T (SoloWaker X)) → waits t ≡ false → is_some (info_of t (h t)) ≡ false)
      → (f : ℕ) → f < length w.futures → asked q false (name f) s.cells ≡ false
  none g q h is fits tells f at = asks None name g q h is fits f (opened s) w at r.follows ∙ tells (task f w) (r.calm f at)

  pub wake_none : (f : ℕ) → f < length w.futures → asked cells.wake_queues false (name f) s.cells ≡ false
  wake_none f at = none cells.woken cells.wake_queues abstract.wake wake_changes woken_fits wake_tells f at

  pub release_none : (f : ℕ) → f < length w.futures → asked cells.release_queues false (name f) s.cells ≡ false
  release_none f at = none cells.released cells.release_queues abstract.release releases released_fits release_tells f at

  pub use_none : (f : ℕ) → f < length w.futures → solo.wakes_or_closes (name f) s ≡ false
  use_none f at = both_ask (name f) s ∙ none used_kept use_queues wake_and_release uses used_fits use_tells f at

  pub detach_none : (f : ℕ) → f < length w.futures → is_some (asked cells.detach_queues None (name f) s.cells) ≡ false
  detach_none f at =
      sym (is_there cells.detach_queues (name f) s.cells)
      ∙ none cells.detached (λ v. is_some (cells.detach_queues v)) (λ t. (abstract.detach t).task) detaches detached_fits detach_tells f at

  pub wakes_after : WakesAlike name (IsClosed its) s p
  wakes_after c f at many life =
      let here = below f at in
      let t = name f in
      let no = wake_none f here in
      goes_after (calls.does wakes c (calls.Call.Wake f)) (within.wake_spared c f) (solo.woken t s)
      (subst (λ z. Follows name z (calls.does wakes c (calls.Call.Wake f) w))
      (ap (λ b. turns.scheduled_if b t (turns.turned cells.woken t (opened s))) no
      ∙ sym (ap (λ b. opened (turns.scheduled_if b t (turns.turned cells.woken t s))) no))
      (waking.wakes_alike name (opened s) w r.follows c f here (few c many) (open_lives 2 life)))
      (rests_becomes (tell wakes c) abstract.wake f w (wake_tells (task f w) (r.calm f here)) (λ so. woken_waits (task f w)))

  pub releases_after : ReleasesAlike name (IsClosed its) s p
  releases_after c f at many life =
      let here = below f at in
      let t = name f in
      let no = release_none f here in
      goes_after (calls.does wakes c (calls.Call.Release f)) (within.release_spared c f) (solo.released t s)
      (subst (λ z. Follows name z (calls.does wakes c (calls.Call.Release f) w))
      (ap (λ b. turns.swept t (turns.scheduled_if b t (turns.turned cells.released t (opened s)))) no
      ∙ sym (ap (λ b. opened (turns.swept t (turns.scheduled_if b t (turns.turned cells.released t s)))) no))
      (waking.releases_alike name (opened s) w r.follows c f here (few c many) (open_lives 2 life)))
      (rests_becomes (tell wakes c) abstract.release f w (release_tells (task f w) (r.calm f here)) (λ so. released_waits (task f w) so))

  pub uses_after : UsesAlike name (IsClosed its) s p
  uses_after c f at many life =
      let here = below f at in
      let t = name f in
      let no = use_none f here in
      goes_after (calls.does wakes c (calls.Call.Use f)) (within.use_spared c f) (solo.woken_and_released t s)
      (subst (λ z. Follows name z (calls.does wakes c (calls.Call.Use f) w))
      (ap (λ b. turns.swept t (turns.scheduled_if b t (turns.turned cells.released t (turns.turned cells.woken t (opened s))))) no
      ∙ sym (ap (λ b. opened (turns.swept t (turns.scheduled_if b t (turns.turned cells.released t (turns.turned cells.woken t s))))) no))
      (waking.uses_alike name (opened s) w r.follows c f here (few c many) (open_lives 2 life)))
      (rests_becomes (tell wakes c) wake_and_release f w (use_tells (task f w) (r.calm f here))
      (λ so. released_waits (abstract.wake (task f w)) (woken_waits (task f w))))

  pub copies_after : CopiesAlike name (IsClosed its) s p
  copies_after c f at says =
      goes_after (calls.does wakes c (calls.Call.Copy f)) (within.copy_spared c f) (solo.held (name f) s)
      (handling.copies_alike name (opened s) w r.follows c f (below f at) says)
      (by (calls.is_granted c.refusal))
    where
      by : (b : Bool) → Rests w (if b then (let q = put f (abstract.copy (task f w)) w in
          record q { events = q.events ++ Answers Made ∷ [] }) else record w { events = w.events ++ Answers NoMemory ∷ [] })
      by true = rests_put f (abstract.copy (task f w)) w (λ is. is)
      by false = (refl, λ g is. is, refl)

  -- a cancel, and the call of who awaits the task
  module _ (c : Choice) (f : ℕ) (at : f < length p.futures) (many : length p.lying ≤ c.tells) (life : HasLife 5 s.lines) where
    abbrev t : Task
    t = name f

    here : f < length w.futures
    here = below f at

    abbrev q : Plain T (SoloWaker X)
    q = becomes wakes (tell wakes c) f (abstract.cancel (task f w)).task w

    abbrev who : Option (SoloWaker X)
    who = (abstract.cancel (task f w)).called

    pub no_queue : is_some (asked cells.cancel_queues None t s.cells) ≡ false
    no_queue =
        sym (is_there cells.cancel_queues t s.cells)
        ∙ none cells.cancelled (λ v. is_some (cells.cancel_queues v)) (λ t. (abstract.cancel t).task) cancels cancelled_fits
        cancel_tells f here

    pub first_opens : solo.cancelled t (opened s) ≡ opened (solo.cancelled t s)
    first_opens =
        ap (λ b. turns.scheduled_if b t (turns.turned cells.cancelled t (opened s))) no_queue
        ∙ sym (ap (λ b. opened (turns.scheduled_if b t (turns.turned cells.cancelled t s))) no_queue)

    rests_q : Rests w q
    rests_q =
        rests_becomes (tell wakes c) (λ t. (abstract.cancel t).task) f w (cancel_tells (task f w) (r.calm f here))
        (λ so. cancel_waits (task f w) so)

    follows_q : Follows name (opened (solo.cancelled t s)) q
    follows_q =
        subst (λ z. Follows name z q) first_opens
        (waking.cancelled None name c f (opened s) w here r.follows (few c many) (open_lives 2 (three_fewer 2 s.lines life)))

    theirs : (u : Task) → who ≡ Some (OfTask u) → IsNamed name (length w.futures) u
    theirs u is = calling.cancel_named name (opened s) w r.follows f u is

    calm_who : IsCalm q who
    calm_who u is = rests_q.1 u.number (r.calm u.number (theirs u is).0)

    who_is : asked cells.cancel_calls None t s.cells ≡ who
    who_is = calling.cancel_awaiter name (opened s) w r.follows f here

    pub opens : cancelled t (opened s) ≡ opened (cancelled t s)
    opens =
        ap (calls_it (asked cells.cancel_calls None t s.cells)) first_opens
        ∙ retracting.calls_opened name (solo.cancelled t s) q follows_q (asked cells.cancel_calls None t s.cells)
        (λ u is. subst (λ n. IsNamed name n u) (sym rests_q.0) (theirs u (sym who_is ∙ is)))
        (λ u is. calm_who u (sym who_is ∙ is))

    pub who_rings : rings_of (asked cells.cancel_calls None t s.cells) (opened (solo.cancelled t s))
        ≡ rings_of (asked cells.cancel_calls None t s.cells) (solo.cancelled t s)
    who_rings =
        retracting.rings_opened name (solo.cancelled t s) q follows_q (asked cells.cancel_calls None t s.cells)
        (λ u is. subst (λ n. IsNamed name n u) (sym rests_q.0) (theirs u (sym who_is ∙ is)))
        (λ u is. calm_who u (sym who_is ∙ is))

    rests_cancel : Rests w (calls.cancel wakes c f w)
    rests_cancel = rests_then w q (calls.cancel wakes c f w) rests_q (rests_calls (tell wakes c) who q calm_who)

    cancel_so : IsClosed its (cancelled t s) (calls.does wakes c (calls.Call.Cancel f) p)
    cancel_so =
        goes_after (calls.does wakes c (calls.Call.Cancel f)) (within.cancelled_spared c f) (cancelled t s)
        (subst (λ z. Follows name z (calls.does wakes c (calls.Call.Cancel f) w)) opens
        (calling.cancels_alike name (opened s) w r.follows c f here (few c many) (open_lives 5 life)))
        rests_cancel

    pub cancel_first : IsClosed its (cancelled t s) (calls.cancel wakes c f p)
    cancel_first =
        goes_after (calls.cancel wakes c f) (within.cancel_spared c f) (cancelled t s)
        (subst (λ z. Follows name z (calls.cancel wakes c f w)) opens
        (calling.cancels name (opened s) w r.follows c f here (few c many) (open_lives 5 life)))
        rests_cancel

  pub cancels_after : CancelsAlike name (IsClosed its) s p
  cancels_after c f at many life = cancel_so c f at many life

  pub detaches_after : DetachesAlike name (IsClosed its) s p
  detaches_after c f at many life =
      let here = below f at in
      let t = name f in
      let no = detach_none f here in
      let q = becomes wakes (tell wakes c) f (abstract.detach (task f w)).task w in
      goes_after (calls.does wakes c (calls.Call.Detach f)) (within.detach_spared c f) (solo.detached t s)
      (subst (λ z. Follows name z (calls.does wakes c (calls.Call.Detach f) w))
      (ap (λ b. turns.swept t (turns.scheduled_if b t (turns.turned cells.detached t (opened s)))) no
      ∙ sym (ap (λ b. opened (turns.swept t (turns.scheduled_if b t (turns.turned cells.detached t s)))) no))
      (handling.detaches_alike name (opened s) w r.follows c f here (few c many) (open_lives 2 life)))
      (by (abstract.detach (task f w)).dropped (put f (task f q) q)
      (rests_then w q (put f (task f q) q)
      (rests_becomes (tell wakes c) (λ t. (abstract.detach t).task) f w (detach_tells (task f w) (r.calm f here))
      (λ so. detach_waits (task f w) so))
      (rests_put f (task f q) q (λ so. so))))
    where
      by : (o : Option T) (z : Plain T (SoloWaker X)) → Rests w z
          → Rests w (or o (λ v. record z { events = z.events ++ Loses v ∷ []; inside = Lose None None ∷ z.inside })
          (record z { events = z.events ++ Answers Done ∷ [] }))
      by None z is = is
      by (Some v) z is = is
