-- Lone calls where no task waits for a wake, as once the executor's drop has ended: nothing comes into a queue.
use Rattle.std.proofs.Common.{◌≡◌, ℕ, ◌<◌, ◌++◌, true, false, List, [], ◌∷◌, length, Some, None, is_some}
use Rattle.std.proofs.Common.{refl, sym, ap, subst, ◌∙◌}
use Rattle.task_moves.specs.declared.moves.owed.Move.TheVariants as move
use Rattle.task_moves.specs.AbstractTask as abstract
use Rattle.task_moves.specs.AbstractTask.{AbstractTask}
use Rattle.task_moves.specs.LocalTask.{info_of, told}
use Rattle.task_moves.specs.Moves as moves
use Rattle.executor_model.specs.declared.call.Call.{Call}
use Rattle.executor_model.specs.declared.call.Call.TheVariants as call
use Rattle.executor_model.specs.declared.call.Reply.TheVariants as reply
use Rattle.executor_model.specs.declared.event.Event.TheVariants as event
use Rattle.executor_model.specs.declared.op.Hold.TheVariants as hold
use Rattle.executor_model.specs.declared.op.Op.{Op}
use Rattle.executor_model.specs.declared.op.Op.TheVariants as op
use Rattle.executor_model.specs.declared.op.Waker.{Waker}
use Rattle.executor_model.specs.declared.step.Step.{Step}
use Rattle.executor_model.specs.Acts.{move_task}
use Rattle.executor_model.specs.Quiet.{IsQuiet}
use Rattle.executor_model.specs.Steps.{Machine, kept, used_up, with_future}
use Rattle.executor_model.specs.World.{World, Done, among, awaiter_of, done, log}
use Rattle.executor_model.specs.World as world
use Rattle.executor_model.proofs.Steps.Reached.{Reached}
use Rattle.executor_laws.specs.LoneEnds.{IsLoneCall}
use Rattle.plain_scheduler.specs.State.{Choice, Plain, Done as DoneAnswer}
use Rattle.plain_scheduler.specs.Moves.{answers, put, task, tell}
use Rattle.plain_scheduler.specs.Calls.{does, Release, Use, Wake}
use Rattle.machine_roads.specs.View.{Output, view, waker_in, wakes}
use Rattle.machine_roads.specs.Moving.{IsMove}
use Rattle.machine_roads.specs.Road.{Follows}
use Rattle.machine_roads.specs.Alone.{alone, is_resting, HasIn}
use Rattle.machine_roads.specs.Alike.{begins, upon}
use Rattle.machine_roads.specs.Lone.{EachLoneAlike, NoneWaits}
use Rattle.machine_roads.specs.Behind.{LoneUsesBehind, LoneWakerGoesBehind, LoneWakesBehind}
use Rattle.machine_roads.proofs.Calm.{wake_calm}
use Rattle.machine_roads.proofs.Changing.{logs}
use Rattle.machine_roads.proofs.LoneCalls.{each}
use Rattle.machine_roads.proofs.LoneCloses.{IsAny, walks}
use Rattle.machine_roads.proofs.LoneRuns.{ends_so, lone_calls_rest_of}
use Rattle.machine_roads.proofs.Marks.{queue_if, woken_owes, woken_stored}
use Rattle.machine_roads.proofs.Moved.{MovedSo, moved_so}
use Rattle.machine_roads.proofs.Moving.{wakes_alike}
use Rattle.machine_roads.proofs.Nobody.{calm_infos, put_none, release_calmly, released_waits, used_calmly, used_so, wake_calmly}
use Rattle.machine_roads.proofs.Nobody.{woken_waits}
use Rattle.machine_roads.proofs.Rousing.{ends_in, releases_in}
use Rattle.machine_roads.proofs.Stepping.{WayOf, next_of}
use Rattle.machine_roads.proofs.Sweeping.{uses_in}
use Rattle.machine_roads.proofs.Tying.{AtEnd, LeadsSoOf}
use Rattle.machine_roads.proofs.Unseen.{kept_so}
use Rattle.machine_roads.proofs.Used.{none_told}

-- a wake by a waker that stays
wakes_in : (p : ℕ) (end : Done) → is_resting end.next ≡ true → (f : ℕ) (w : World) (os : List Op) (r : Plain Output Waker) → Follows w r
    → NoneWaits r → f < length w.tasks
    → WayOf HasIn p end (move_task move.WakeByReference p w f).world ((move_task move.WakeByReference p w f).next ++ os)
    → MovedSo (WayOf HasIn p end) w os (put f (abstract.wake (task f r)) r)
wakes_in p end rests f w os r follows none at way =
    let s = world.task w f in
    let a = waker_in (awaiter_of w f) in
    let al : IsMove (moves.wake_by_reference s) s a (abstract.wake (view s a)) = (wakes_alike s a).0 in
    let t : AbstractTask Output Waker = task f r in
    let tk : t ≡ view s a = follows.tasks f at in
    let m =
    moved_so (WayOf HasIn p end) p move.WakeByReference f w os r (abstract.wake t) refl (λ q g. refl) follows at
    (al.task ∙ ap (λ t. told (abstract.wake t)) (sym tk)) (woken_stored (awaiter_of w f) s (follows.stored f at))
    (wake_calm t (follows.calm f at)) way in
    let off : is_some (moves.wake_by_reference s).owed.schedule ≡ false =
    al.queues
    ∙ (sym (ap (λ t. is_some (info_of t (abstract.wake t))) tk) ∙ none_told t (abstract.wake t) (calm_infos t (none f))) in
    record {
      world = m.world;
      follows = m.follows;
      queues = m.queues;
      own = m.own;
      table = m.table;
      way =
          subst (λ ops. WayOf HasIn p end m.world (ops ++ os))
          (woken_owes (among f w.table) f s ∙ ap (λ b. queue_if b f) off) m.way;
    }

module _ (s : Machine) (reached : Reached s) (q : Plain Output Waker) (quiet : IsQuiet s.world.trace) (follows : Follows s.world q) where
  goes_so : (p : ℕ) (c : Call) (steps : List Step) (new : Machine) (P : World → Type 0)
      → LeadsSoOf HasIn p (upon [] (begins p None c s.world)) (AtEnd P) → IsLoneCall p c steps s new → P new.world
  goes_so p c steps new P leads lone =
      ends_so p P new (lone_calls_rest_of HasIn IsAny walks s reached p c steps new (AtEnd P) quiet tt leads lone)

  begun_so : (p : ℕ) (c : Call) → Follows (log s.world (event.CallBegun p c)) q
  begun_so p c = logs s.world q follows (event.CallBegun p c) refl

  use_follows : (p k f : ℕ) (c : Choice) (steps : List Step) → NoneWaits q → kept s.world k ≡ Some f → (new : Machine)
      → IsLoneCall p (call.Wake k) steps s new → Follows new.world (does wakes c (Use f) q)
  use_follows p k f c steps none is new lone =
      let w1 = log s.world (event.CallBegun p (call.Wake k)) in
      let w2 = used_up w1 k in
      let os = op.End reply.Done hold.Nothing ∷ [] in
      let P : World → Type 0 = λ v. Follows v (does wakes c (Use f) q) in
      goes_so p (call.Wake k) steps new P
      (subst (λ o. LeadsSoOf HasIn p (upon [] (with_future w1 o (λ f. done w2 (op.Move move.Wake f ∷ os)))) (AtEnd P)) (sym is)
      (λ hints has rests.
      let end = alone p hints (done w2 (op.Move move.Wake f ∷ os)) in
      let step =
      next_of HasIn p end rests (op.Move move.Wake f) w2 os refl (record { hints = hints; has = has; is = refl }) in
      let u =
      uses_in p end rests f w2 os q (kept_so w2.wakers w1 q (begun_so p (call.Wake k))) none step.has.0 step.way in
      subst (λ z. (end.next ≡ []) × Follows end.world (answers DoneAnswer z)) (sym (used_calmly (tell wakes c) f q none))
      (ends_in p end rests u.world (used_so f q) hold.Nothing u.follows u.way)))
      lone

  wake_follows : (p k f : ℕ) (c : Choice) (steps : List Step) → NoneWaits q → kept s.world k ≡ Some f → (new : Machine)
      → IsLoneCall p (call.WakeByRef k) steps s new → Follows new.world (does wakes c (Wake f) q)
  wake_follows p k f c steps none is new lone =
      let w1 = log s.world (event.CallBegun p (call.WakeByRef k)) in
      let os = op.End reply.Done (hold.Waker k) ∷ [] in
      let P : World → Type 0 = λ v. Follows v (does wakes c (Wake f) q) in
      goes_so p (call.WakeByRef k) steps new P
      (subst (λ o. LeadsSoOf HasIn p (upon [] (with_future w1 o (λ f. done w1 (op.Move move.WakeByReference f ∷ os)))) (AtEnd P)) (sym is)
      (λ hints has rests.
      let end = alone p hints (done w1 (op.Move move.WakeByReference f ∷ os)) in
      let step =
      next_of HasIn p end rests (op.Move move.WakeByReference f) w1 os refl (record { hints = hints; has = has; is = refl }) in
      let u = wakes_in p end rests f w1 os q (begun_so p (call.WakeByRef k)) none step.has.0 step.way in
      subst (λ z. (end.next ≡ []) × Follows end.world (answers DoneAnswer z)) (sym (wake_calmly (tell wakes c) f q (none f)))
      (ends_in p end rests u.world (put f (abstract.wake (task f q)) q) (hold.Waker k) u.follows u.way)))
      lone

  going_follows : (p k f : ℕ) (c : Choice) (steps : List Step) → NoneWaits q → kept s.world k ≡ Some f → (new : Machine)
      → IsLoneCall p (call.DropWaker k) steps s new → Follows new.world (does wakes c (Release f) q)
  going_follows p k f c steps none is new lone =
      let w1 = log s.world (event.CallBegun p (call.DropWaker k)) in
      let w2 = used_up w1 k in
      let os = op.End reply.Done hold.Nothing ∷ [] in
      let P : World → Type 0 = λ v. Follows v (does wakes c (Release f) q) in
      goes_so p (call.DropWaker k) steps new P
      (subst (λ o. LeadsSoOf HasIn p (upon [] (with_future w1 o (λ f. done w2 (op.Move move.Release f ∷ os)))) (AtEnd P)) (sym is)
      (λ hints has rests.
      let end = alone p hints (done w2 (op.Move move.Release f ∷ os)) in
      let u =
      releases_in p end rests f w2 os q (kept_so w2.wakers w1 q (begun_so p (call.DropWaker k))) (none f)
      (record { hints = hints; has = has; is = refl }) in
      subst (λ z. (end.next ≡ []) × Follows end.world (answers DoneAnswer z)) (sym (release_calmly (tell wakes c) f q (none f)))
      (ends_in p end rests u.world (put f (abstract.release (task f q)) q) hold.Nothing u.follows u.way)))
      lone

  pub uses_behind_so : LoneUsesBehind s q
  uses_behind_so p k f c steps none is new lone =
      let t : AbstractTask Output Waker = task f q in (
        use_follows p k f c steps none is new lone,
        subst (λ z. NoneWaits z) (sym (used_calmly (tell wakes c) f q none))
            (put_none f (abstract.release (abstract.wake t)) q (released_waits (abstract.wake t) (woken_waits t)) none),
      )

  pub wakes_behind_so : LoneWakesBehind s q
  wakes_behind_so p k f c steps none is new lone =
      let t : AbstractTask Output Waker = task f q in (
        wake_follows p k f c steps none is new lone,
        subst (λ z. NoneWaits z) (sym (wake_calmly (tell wakes c) f q (none f))) (put_none f (abstract.wake t) q (woken_waits t) none),
      )

  pub goes_behind_so : LoneWakerGoesBehind s q
  goes_behind_so p k f c steps none is new lone =
      let t : AbstractTask Output Waker = task f q in (
        going_follows p k f c steps none is new lone,
        subst (λ z. NoneWaits z) (sym (release_calmly (tell wakes c) f q (none f)))
            (put_none f (abstract.release t) q (released_waits t (none f)) none),
      )

pub lone_uses_behind : EachLoneAlike LoneUsesBehind
lone_uses_behind = each LoneUsesBehind uses_behind_so

pub lone_wakes_behind : EachLoneAlike LoneWakesBehind
lone_wakes_behind = each LoneWakesBehind wakes_behind_so

pub lone_waker_goes_behind : EachLoneAlike LoneWakerGoesBehind
lone_waker_goes_behind = each LoneWakerGoesBehind goes_behind_so
