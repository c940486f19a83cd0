-- A poll of a handle: what it finds, and the waker that it leaves where it has to wait.
use Rattle.std.proofs.Common.{◌≡◌, ℕ, ◌+◌, ◌<◌, ◌++◌, ◌||◌, Bool, true, false, List, [], ◌∷◌, length, Option}
use Rattle.std.proofs.Common.{Some, None, is_some, slice_set, if◌then◌else◌, refl, sym, ap, subst, ◌∙◌}
use Rattle.std.proofs.lemmas.List.{get_or-set_same, set-get_or}
use Rattle.task_moves.specs.declared.moves.owed.Answer.TheVariants as answer
use Rattle.task_moves.specs.declared.moves.owed.Moved.{Moved}
use Rattle.task_moves.specs.declared.moves.state.State.{State}
use Rattle.task_moves.specs.AbstractTask as abstract
use Rattle.task_moves.specs.AbstractTask.{AbstractTask, Phase, Idle, Queued, Polling, PollingWoken, Finished}
use Rattle.task_moves.specs.AbstractTask.Polled.{Output as OutputOf, Cancelled as IsCancelled, Waits}
use Rattle.task_moves.specs.LocalTask.{info_of, told}
use Rattle.task_moves.specs.Moves as moves
use Rattle.executor_model.specs.declared.call.Reply.TheVariants as reply
use Rattle.executor_model.specs.declared.op.Hold.TheVariants as hold
use Rattle.executor_model.specs.declared.op.Awaiter.{Awaiter}
use Rattle.executor_model.specs.declared.op.HandleOp.TheVariants as handle_op
use Rattle.executor_model.specs.declared.op.Op.{Op}
use Rattle.executor_model.specs.declared.op.Op.TheVariants as op
use Rattle.executor_model.specs.declared.op.Waker.{Waker}
use Rattle.executor_model.specs.declared.op.Waker.TheVariants.{Task, Outside}
use Rattle.executor_model.specs.Acts.{copied, end_register_by, let_go, look_again_by, register_by, waker_goes}
use Rattle.executor_model.specs.World.{World, Done, awaiter_of, blank, put_awaiter}
use Rattle.executor_model.specs.World as world
use Rattle.plain_scheduler.specs.State.{Plain}
use Rattle.plain_scheduler.specs.Lists.{on}
use Rattle.plain_scheduler.specs.Moves.{appended, put, release, task}
use Rattle.plain_scheduler.specs.Moves as plain
use Rattle.machine_roads.specs.View.{Output, view, wakes, waker_in}
use Rattle.machine_roads.specs.Road.{Follows}
use Rattle.machine_roads.specs.Alone.{is_resting, CanCopy}
use Rattle.machine_roads.proofs.Changing.{puts, settles}
use Rattle.machine_roads.proofs.Lists.{clash, set_twice}
use Rattle.machine_roads.proofs.Moving.{copies_alike, state}
use Rattle.machine_roads.proofs.Moved.{Then, Tells, fits, releases_so}
use Rattle.machine_roads.proofs.Puts.{put_asks}
use Rattle.machine_roads.proofs.Stepping.{Way, next}
use Rattle.machine_roads.proofs.Used.{released_polled}

-- what a poll finds, by closed, going and completed
abbrev pub found : Bool → Bool → Bool → abstract.Polled Output
found true true completed = Waits
found true false completed = IsCancelled
found false going false = Waits
found false going true = OutputOf tt

found_by : (c x s r h a g n : Bool) (k : ℕ) (w : Option Waker) → (c ≡ true → (s || r) ≡ false)
    → abstract.polled (view (state s r c x h a g n k) w) ≡ found x (s || r) c
found_by true true true r h a g n k w calm = absurd (clash (calm refl) refl)
found_by true true false true h a g n k w calm = absurd (clash (calm refl) refl)
found_by true true false false h a g n k w calm = refl
found_by true false s r h a g n k w calm = refl
found_by false true true true h a g n k w calm = refl
found_by false true true false h a g n k w calm = refl
found_by false true false true h a g n k w calm = refl
found_by false true false false h a g n k w calm = refl
found_by false false true true h a g n k w calm = refl
found_by false false true false h a g n k w calm = refl
found_by false false false true h a g n k w calm = refl
found_by false false false false h a g n k w calm = refl

pub found_is : (s : State) (w : Option Waker) → (s.completed ≡ true → moves.is_going s ≡ false)
    → abstract.polled (view s w) ≡ found s.closed (moves.is_going s) s.completed
found_is s w calm =
    found_by s.completed s.closed s.scheduled s.running s.handle s.awaiter s.registering s.notifying s.references w calm

-- who had to wait has to wait still as it looks again
again_by : (c x s r h a g n : Bool) (k : ℕ) (w : Option Waker) → abstract.polled (view (state s r c x h a g n k) w) ≡ Waits
    → moves.look_again (state s r c x h a g n k)
    ≡ moves.moved (state s r c x h a g n k) (record moves.nothing { answer = Some answer.Pending })
again_by true true s r h a g n k w waits = absurd cc
again_by true false s r h a g n k w waits = absurd cc
again_by false true true r h a g n k w waits = refl
again_by false true false true h a g n k w waits = refl
again_by false true false false h a g n k w waits = absurd cc
again_by false false s r h a g n k w waits = refl

again_is : (s : State) (w : Option Waker) → abstract.polled (view s w) ≡ Waits
    → moves.look_again s ≡ moves.moved s (record moves.nothing { answer = Some answer.Pending })
again_is s w waits =
    again_by s.completed s.closed s.scheduled s.running s.handle s.awaiter s.registering s.notifying s.references w waits

-- and finds no answer at first
waits_poll_by : (c x s r h a g n : Bool) (k : ℕ) (w : Option Waker) → abstract.polled (view (state s r c x h a g n k) w) ≡ Waits
    → (moves.poll (state s r c x h a g n k)).owed.answer ≡ None
waits_poll_by true true s r h a g n k w waits = absurd cc
waits_poll_by true false s r h a g n k w waits = absurd cc
waits_poll_by false true true r h a g n k w waits = refl
waits_poll_by false true false true h a g n k w waits = refl
waits_poll_by false true false false h a g n k w waits = absurd cc
waits_poll_by false false s r h a g n k w waits = refl

pub waits_poll : (s : State) (w : Option Waker) → abstract.polled (view s w) ≡ Waits → (moves.poll s).owed.answer ≡ None
waits_poll s w waits =
    waits_poll_by s.completed s.closed s.scheduled s.running s.handle s.awaiter s.registering s.notifying s.references w waits

waits_open : (o : Option Output) (phase : Phase) → abstract.polled_by o phase ≡ Waits → abstract.is_over phase ≡ false
waits_open (Some v) phase waits = absurd cc
waits_open None Idle waits = refl
waits_open None Queued waits = refl
waits_open None Polling waits = refl
waits_open None PollingWoken waits = refl
waits_open None Finished waits = absurd cc

-- a copy of a waker, of a task or from outside
pub copies_so : (a : Waker) (w : World) (q : Plain Output Waker) → Follows w q → CanCopy w a
    → Follows (copied w a) (plain.copied wakes a q)
copies_so (Outside x) w q follows can = follows
copies_so (Task g) w q follows can =
    let s = world.task w g in
    let stored = follows.stored g can.0 in
    puts w q follows g can.0 (record s { references = s.references + 1 }) (abstract.copy (task g q))
    (copies_alike s (waker_in (awaiter_of w g)) can.1 ∙ ap (λ t. told (abstract.copy t)) (sym (follows.tasks g can.0)))
    (record { awaiter = stored.awaiter; registering = stored.registering; notifying = stored.notifying })
    (follows.calm g can.0)

pub copied_polled : (a : Waker) (f : ℕ) (q : Plain Output Waker)
    → abstract.polled (task f (plain.copied wakes a q)) ≡ abstract.polled (task f q)
copied_polled (Outside x) f q = refl
copied_polled (Task g) f q = put_asks (λ t. abstract.polled t) f g (abstract.copy (task g q)) q refl

module _ (p : ℕ) (end : Done) (rests : is_resting end.next ≡ true) where
  -- the waker is stored, and the one that was left before goes
  pub record Stored (f : ℕ) (a : Waker) (w : World) (os : List Op) (q : Plain Output Waker) : Type 0 where
    pub at : f < length w.tasks
    pub world : World
    pub follows : Follows world (put f (record (task f q) { awaiter = Some a }) q)
    pub way : Way p end world ((let_go (awaiter_of w f) ++ op.Handle (handle_op.LookAgain f) ∷ []) ++ os)

  pub stores : (f : ℕ) (a : Waker) (k : ℕ) (w : World) (os : List Op) (q : Plain Output Waker) → Follows w q
      → abstract.polled (task f q) ≡ Waits → Way p end w (op.Handle (handle_op.Register f a k) ∷ os) → Stored f a w os q
  stores f a k w os q follows waits way =
      let one = next p end rests (op.Handle (handle_op.Register f a k)) w os refl way in
      let at : f < length w.tasks = one.has in
      let s = world.task w f in
      let stored = follows.stored f at in
      let first : World = world.put w f (moves.register_by false s).state in
      let two =
      next p end rests (op.Handle (handle_op.EndRegister f a k)) first os refl
      (subst (λ b. Way p end (register_by b w f a k).world ((register_by b w f a k).next ++ os)) stored.notifying one.way) in
      let here : world.task first f ≡ (moves.register_by false s).state =
      get_or-set_same w.tasks f (moves.register_by false s).state blank at in
      let calm : (world.task first f).notifying ≡ false = ap (λ (s : State). s.notifying) here ∙ stored.notifying in
      let last : State = record s { awaiter = true; registering = false } in
      let kept : Awaiter = record { waker = a; poll = k } in
      let tk : task f q ≡ view s (waker_in (awaiter_of w f)) = follows.tasks f at in
      let same : put_awaiter (world.put first f (moves.end_register_by false (world.task first f)).state) f (Some kept)
      ≡ put_awaiter (world.put w f last) f (Some kept) =
      ap (λ t. put_awaiter (world.put first f (moves.end_register_by false t).state) f (Some kept)) here
      ∙ ap (λ ts. record w { tasks = ts; awaiters = slice_set w.awaiters f (Some kept) })
      (set_twice w.tasks f (moves.register_by false s).state last) in
      record {
        at = at;
        world = put_awaiter (world.put w f last) f (Some kept);
        follows =
            settles w q follows f at last (Some kept) (record (task f q) { awaiter = Some a })
            (ap (λ (t : AbstractTask Output Waker). told (record t { awaiter = Some a })) (sym tk))
            (record { awaiter = refl; registering = refl; notifying = stored.notifying })
            (λ over. absurd (clash (waits_open (task f q).output (task f q).phase waits) over));
        way =
            subst (λ w. Way p end w ((let_go (awaiter_of first f) ++ op.Handle (handle_op.LookAgain f) ∷ []) ++ os)) same
            (subst
            (λ b. Way p end (end_register_by b first f a k).world ((end_register_by b first f a k).next ++ os))
            calm two.way);
      }

  -- and then it looks again, and has to wait
  pub looks_again : (f : ℕ) (w : World) (os : List Op) (q : Plain Output Waker) → Follows w q
      → abstract.polled (task f q) ≡ Waits → Way p end w (op.Handle (handle_op.LookAgain f) ∷ os)
      → Way p end w (op.End reply.Pending (hold.Handle f) ∷ os)
  looks_again f w os q follows waits way =
      let one = next p end rests (op.Handle (handle_op.LookAgain f)) w os refl way in
      let at : f < length w.tasks = one.has in
      let s = world.task w f in
      let still =
      again_is s (waker_in (awaiter_of w f)) (sym (ap (λ (t : AbstractTask Output Waker). abstract.polled t) (follows.tasks f at))
      ∙ waits) in
      subst (λ ts. Way p end (record w { tasks = ts }) (op.End reply.Pending (hold.Handle f) ∷ os)) (set-get_or w.tasks f blank)
      (subst
      (λ (m : Moved). Way p end (look_again_by m.owed.answer p w f m).world ((look_again_by m.owed.answer p w f m).next ++ os))
      still one.way)

  module _ (more : Plain Output Waker → Plain Output Waker) (P : Plain Output Waker → Type 0) (teller : Tells p end more P) where
    pub lets_go_so : (o : Option Awaiter) (w : World) (os : List Op) (q : Plain Output Waker) → Follows w q → P q
        → Way p end w (let_go o ++ os) → Then p end os (on (waker_in o) (plain.let_go wakes more) q)
    lets_go_so None w os q follows fit way = record { world = w; follows = follows; way = way }
    lets_go_so (Some a) w os q follows fit way = by a.waker way
      where
        by : (x : Waker) → Way p end w (waker_goes x ++ os) → Then p end os (plain.let_go wakes more x q)
        by (Task g) way = releases_so p end rests more P teller g w os q follows fit way
        by (Outside x) way = record { world = w; follows = follows; way = way }

    pub let_go_fits : (o : Option Waker) (q : Plain Output Waker) → P q → P (on o (plain.let_go wakes more) q)
    let_go_fits None q fit = fit
    let_go_fits (Some (Outside x)) q fit = fit
    let_go_fits (Some (Task g)) q fit = fits p end rests more P teller g (abstract.release (task g q)) q fit

    -- what a poll finds it finds still
    pub let_go_polled : (o : Option Waker) (f : ℕ) (q : Plain Output Waker)
        → abstract.polled (task f (on o (plain.let_go wakes more) q)) ≡ abstract.polled (task f q)
    let_go_polled None f q = refl
    let_go_polled (Some (Outside x)) f q = refl
    let_go_polled (Some (Task g)) f q = by (is_some (info_of (task g q) (abstract.release (task g q))))
      where
        put_so : abstract.polled (task f (put g (abstract.release (task g q)) q)) ≡ abstract.polled (task f q)
        put_so = put_asks (λ t. abstract.polled t) f g (abstract.release (task g q)) q (released_polled (task g q))

        by : (b : Bool)
            → abstract.polled (task f (if b then more (appended g (put g (abstract.release (task g q)) q))
            else put g (abstract.release (task g q)) q)) ≡ abstract.polled (task f q)
        by true = teller.polls f (appended g (put g (abstract.release (task g q)) q)) ∙ put_so
        by false = put_so
