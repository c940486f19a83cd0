-- Lone calls of wakers and handles where no task waits for a wake go on as before the executor's drop.
use Rattle.std.proofs.Common.{◌≡◌, ℕ, ◌≤◌, ◌++◌, true, false, List, [], ◌∷◌, length, Option, None}
use Rattle.std.proofs.Common.{refl, sym, ap, subst, ◌∙◌, arith}
use Rattle.std.proofs.lemmas.Option.{slice_get_past}
use Rattle.executor_model.specs.declared.call.Call.{Call}
use Rattle.executor_model.specs.declared.call.Call.TheVariants as call
use Rattle.executor_model.specs.declared.event.Event.TheVariants as event
use Rattle.executor_model.specs.declared.op.HandleOp.TheVariants as handle_op
use Rattle.executor_model.specs.declared.op.Hold.TheVariants as hold
use Rattle.executor_model.specs.declared.op.Op.{Op}
use Rattle.executor_model.specs.declared.op.Op.TheVariants as op
use Rattle.executor_model.specs.declared.op.UserOp.TheVariants as user_op
use Rattle.executor_model.specs.declared.op.Waker.{Waker}
use Rattle.executor_model.specs.declared.op.WakerOp.TheVariants as waker_op
use Rattle.executor_model.specs.declared.step.Hint.{Hint}
use Rattle.executor_model.specs.declared.step.Step.{Step}
use Rattle.executor_model.specs.declared.step.Step.TheVariants.{Begin}
use Rattle.executor_model.specs.Quiet.{IsQuiet}
use Rattle.executor_model.specs.Steps.{Machine, is_on_executor, react, waker_of, with_future}
use Rattle.executor_model.specs.World.{World, Done, done, log}
use Rattle.executor_model.proofs.Steps.Reached.{Reached, reached-more}
use Rattle.executor_laws.specs.LoneEnds.{IsLoneCall}
use Rattle.plain_scheduler.specs.State.{Choice, Future, Plain}
use Rattle.plain_scheduler.specs.Lists.{or}
use Rattle.plain_scheduler.specs.Moves.{no_task, task}
use Rattle.plain_scheduler.specs.Calls.{does, Cancel, Copy, Detach, DropHandle, Ends, PollHandle}
use Rattle.machine_roads.specs.View.{Output, wakes}
use Rattle.machine_roads.specs.Road.{Follows}
use Rattle.machine_roads.specs.Alone.{alone, is_resting, Has, HasAllOf}
use Rattle.machine_roads.specs.Alike.{begins, upon}
use Rattle.machine_roads.specs.Losing.{ComesToLose, StopsLosing, left_of}
use Rattle.machine_roads.specs.Lone.{EachLoneAlike, NoneWaits, waits_for}
use Rattle.machine_roads.specs.Behind.{LeadsBehind, LoneCallIsBehind, LoneCancelsBehind, LoneCopiesBehind, LoneDetachLosesBehind}
use Rattle.machine_roads.specs.Behind.{LoneDetachesBehind, LoneGoesWithOutputBehind, LoneHandleGoesBehind, LoneHandlePollsBehind}
use Rattle.machine_roads.specs.Behind.{LoneHandleWaitsBehind}
use Rattle.machine_roads.proofs.Calling.{cancels, copies_kept, detaches, handle_goes}
use Rattle.machine_roads.proofs.Having.{has_unless}
use Rattle.machine_roads.proofs.Lists.{Before, Last, Past, Where, cons_is, where_is}
use Rattle.machine_roads.proofs.LoneCalls.{each, looks_on}
use Rattle.machine_roads.proofs.LoneCloses.{IsAny}
use Rattle.machine_roads.proofs.LoneLosing.{loss_leads}
use Rattle.machine_roads.proofs.LoneRuns.{Inside, Rests, Walks, Whole, goes_on_of, lone_calls_rest_of, of_top}
use Rattle.machine_roads.proofs.LoneTold.{lone_calls_told_of, lone_calls_told_twice_of}
use Rattle.machine_roads.proofs.Losing.{detaches_to_lose, goes_to_lose}
use Rattle.machine_roads.proofs.PollCalls.{polls}
use Rattle.machine_roads.proofs.Tying.{AtEnd, Leads, LeadsSo, LeadsSoOf}
use Rattle.machine_roads.proofs.Waits.{HasOfTasks, NoTaskWaits, are_append, are_of_tasks, begins_calmly, calmly, never_open}

-- none waits of the one's tasks where none of the other's does
pub none_in : (w : World) (q : Plain Output Waker) → Follows w q → NoneWaits q → NoTaskWaits w
none_in w q follows none f at = sym (ap waits_for (follows.tasks f at)) ∙ none f

pub none_past : (w : World) (q : Plain Output Waker) → Follows w q → (f : ℕ) → length w.tasks ≤ f → waits_for (task f q) ≡ false
none_past w q follows f above =
    ap (λ (o : Option (Future Output Waker)). waits_for (or o (λ future. future.task) no_task))
    (slice_get_past q.futures f (subst (λ n. n ≤ f) follows.many above))

pub none_of : (w : World) (q : Plain Output Waker) → Follows w q → NoTaskWaits w → NoneWaits q
none_of w q follows none f = by (where_is (length w.tasks) f)
  where
    by : Where (length w.tasks) f → waits_for (task f q) ≡ false
    by (Before at) = ap waits_for (follows.tasks f at) ∙ none f at
    by (Last is) = none_past w q follows f (omega (arith, is))
    by (Past above) = none_past w q follows f (omega (arith, above))

-- such things to do have what is asked of them in each machine
pub of_tasks : Walks HasOfTasks IsAny
of_tasks = record {
  easy = record { ends = λ w r held os fit. tt; outside = λ w x os fit. tt };
  gives =
      of_top HasOfTasks IsAny
      (λ s p reached there any o is fit. has_unless s p reached there o (λ asks. absurd (never_open o fit asks)) is);
  back = λ ts s new reached made any. tt;
}

-- where it comes to, no task waits
pub record Still (R : Done → Type 0) (d : Done) : Type 0 where
  pub so : R d
  pub none : NoTaskWaits d.world

pub still_at : (p : ℕ) (R : Done → Type 0) (hints : List Hint) (w : World) (os : List Op) → NoTaskWaits w → are_of_tasks os ≡ true
    → (HasAllOf Has p hints (done w os) → R (alone p hints (done w os))) → HasAllOf HasOfTasks p hints (done w os)
    → Still R (alone p hints (done w os))
still_at p R hints w os none fits so has =
    let k = calmly p hints w os none fits has in record { so = so k.has; none = k.none }

pub still_ends : (p : ℕ) (P : World → Type 0) (new : Machine) → Rests p (Still (AtEnd P)) new → P new.world × NoTaskWaits new.world
still_ends p P new (Whole x) = (x.so.1, x.none)
still_ends p P new (Inside x) = let none : x.first ∷ x.rest ≡ [] = x.so.so.0 in absurd cc

module _ (s : Machine) (reached : Reached s) (q : Plain Output Waker) (quiet : IsQuiet s.world.trace) (follows : Follows s.world q)
    (none : NoneWaits q) (p : ℕ) (c : Call) (off : is_on_executor c ≡ false) where
  abbrev first : Done
  first = begins p None c s.world

  still_first : (R : Done → Type 0) (hints : List Hint)
      → (HasAllOf Has p hints (upon [] first) → is_resting (alone p hints (upon [] first)).next ≡ true
      → R (alone p hints (upon [] first)))
      → HasAllOf HasOfTasks p hints (upon [] first) → is_resting (alone p hints (upon [] first)).next ≡ true
      → Still R (alone p hints (upon [] first))
  still_first R hints so has rests =
      let b = begins_calmly p c (log s.world (event.CallBegun p c)) off (none_in s.world q follows none) in
      still_at p R hints first.world (first.next ++ []) b.world (are_append first.next [] b.fits refl) (λ has. so has rests) has

  pub rests_behind : (R : Done → Type 0) (steps : List Step) (new : Machine) → LeadsSo p (upon [] first) R
      → IsLoneCall p c steps s new → Rests p (Still R) new
  rests_behind R steps new leads lone =
      lone_calls_rest_of HasOfTasks IsAny of_tasks s reached p c steps new (Still R) quiet tt
      (λ hints has rests. still_first R hints (λ has rests. leads hints has rests) has rests) lone

  pub ends_behind : (P : World → Type 0) (steps : List Step) (new : Machine) → Leads p (upon [] first) P
      → IsLoneCall p c steps s new → P new.world × NoTaskWaits new.world
  ends_behind P steps new leads lone = still_ends p P new (rests_behind (AtEnd P) steps new leads lone)

  abbrev Behind : Plain Output Waker → Machine → Type 0
  Behind r new = Follows new.world r × NoneWaits r

  behind_of : (r : Plain Output Waker) (new : Machine) → Follows new.world r × NoTaskWaits new.world → Behind r new
  behind_of r new both = (both.0, none_of new.world r both.0 both.1)

  pub leads_behind : (r : Plain Output Waker) (steps : List Step) → Leads p (upon [] first) (λ w. Follows w r)
      → LeadsBehind s p c steps r
  leads_behind r steps leads new lone = behind_of r new (ends_behind (λ w. Follows w r) steps new leads lone)

  -- the output of a handle that goes is dropped
  pub loses_calmly : (f : ℕ) (r : Plain Output Waker) (d : Choice) (steps : List Step) → ComesToLose p f [] first q r → (new : Machine)
      → IsLoneCall p c steps s new → Follows new.world (does wakes d Ends r) × NoTaskWaits new.world
  loses_calmly f r d steps comes new lone =
      by (rests_behind (λ e. StopsLosing f [] q e r) steps new comes lone)
    where
      by : Rests p (Still (λ e. StopsLosing f [] q e r)) new
          → Follows new.world (does wakes d Ends r) × NoTaskWaits new.world
      by (Whole x) =
          let nothing : [] ≡ op.User (user_op.DropOutput f) ∷ (left_of f ++ []) = x.so.left in
          absurd cc
      by (Inside x) =
          let m = x.machine in
          let os = left_of f ++ [] in
          let both = cons_is x.first (op.User (user_op.DropOutput f)) x.rest os x.so.so.left in
          let P : World → Type 0 = λ w. Follows w (does wakes d Ends r) in
          let S : Done → Type 0 = Still (AtEnd P) in
          let leads : LeadsSoOf HasOfTasks p (done m.world os) S =
          λ hints has rests.
          still_at p (AtEnd P) hints m.world os x.so.none refl
          (λ has. loss_leads p f q r d (done m.world (x.first ∷ x.rest)) x.so.so hints has rests) has in
          let now : LeadsSoOf HasOfTasks p (done (react p x.first x.end m.world).world ((react p x.first x.end m.world).next ++ x.rest)) S =
          subst (λ o. LeadsSoOf HasOfTasks p (done (react p o x.end m.world).world ((react p o x.end m.world).next ++ x.rest)) S)
          (sym both.0) (subst (λ os. LeadsSoOf HasOfTasks p (done m.world os) S) (sym both.1) leads) in
          still_ends p P new
          (goes_on_of HasOfTasks IsAny of_tasks p (Still (λ e. StopsLosing f [] q e r)) S new tt
          (reached-more (Begin p c ∷ steps) s new reached lone.made) lone.ended x now)

  pub loses_behind : (f : ℕ) (r : Plain Output Waker) (d : Choice) (steps : List Step) → ComesToLose p f [] first q r
      → LeadsBehind s p c steps (does wakes d Ends r)
  loses_behind f r d steps comes new lone = behind_of (does wakes d Ends r) new (loses_calmly f r d steps comes new lone)

pub lone_call_is_behind : EachLoneAlike LoneCallIsBehind
lone_call_is_behind = each LoneCallIsBehind (λ s reached q quiet follows p c steps r none off leaves.
    leads_behind s reached q quiet follows none p c off r steps (λ hints has rests. leaves hints tt has rests))

pub lone_copies_behind : EachLoneAlike LoneCopiesBehind
lone_copies_behind = each LoneCopiesBehind (λ s reached q quiet follows p k f c h steps none is granted new lone.
    let r : Plain Output Waker = does wakes c (Copy f) q in
    let w = log s.world (event.CallBegun p (call.Copy k)) in
    let P : World → Type 0 = λ w. Follows w r in
    behind_of s reached q quiet follows none p (call.Copy k) refl r new
    (still_ends p P new
    (lone_calls_told_of HasOfTasks IsAny of_tasks p (Still (AtEnd P)) s reached (call.Copy k) h
    (op.Waker (waker_op.CopyWaker f (hold.Waker k))) steps new quiet tt
    (ap (λ o. (with_future w o (λ f. done w (op.Waker (waker_op.CopyWaker f (hold.Waker k)) ∷ []))).next) is)
    refl refl
    (λ hints has rests. still_first s reached q quiet follows none p (call.Copy k) refl (AtEnd P) (h ∷ hints)
    (λ has rests. copies_kept p [] refl None s.world q follows c k f is (h ∷ hints) granted has rests) has rests)
    lone)))

pub lone_cancels_behind : EachLoneAlike LoneCancelsBehind
lone_cancels_behind = each LoneCancelsBehind (λ s reached q quiet follows p f c steps none many.
    leads_behind s reached q quiet follows none p (call.Cancel f) refl (does wakes c (Cancel f) q) steps
    (λ hints has rests. cancels p [] refl None s.world q follows c f many hints tt has rests))

pub lone_detaches_behind : EachLoneAlike LoneDetachesBehind
lone_detaches_behind = each LoneDetachesBehind (λ s reached q quiet follows p f c steps none unset many.
    leads_behind s reached q quiet follows none p (call.Detach f) refl (does wakes c (Detach f) q) steps
    (λ hints has rests. detaches p [] refl None s.world q follows c f unset many hints tt has rests))

pub lone_handle_goes_behind : EachLoneAlike LoneHandleGoesBehind
lone_handle_goes_behind = each LoneHandleGoesBehind (λ s reached q quiet follows p f c steps none unset many.
    leads_behind s reached q quiet follows none p (call.DropHandle f) refl (does wakes c (DropHandle f) q) steps
    (λ hints has rests. handle_goes p [] refl None s.world q follows c f unset many hints tt has rests))

pub lone_detach_loses_behind : EachLoneAlike LoneDetachLosesBehind
lone_detach_loses_behind = each LoneDetachLosesBehind (λ s reached q quiet follows p f c d steps none some.
    loses_behind s reached q quiet follows none p (call.Detach f) refl f (does wakes c (Detach f) q) d steps
    (detaches_to_lose p None [] s.world q refl follows c f some))

pub lone_goes_with_output_behind : EachLoneAlike LoneGoesWithOutputBehind
lone_goes_with_output_behind = each LoneGoesWithOutputBehind (λ s reached q quiet follows p f c d steps none some.
    loses_behind s reached q quiet follows none p (call.DropHandle f) refl f (does wakes c (DropHandle f) q) d steps
    (goes_to_lose p None [] s.world q refl follows c f some))

pub lone_polls_behind : EachLoneAlike LoneHandlePollsBehind
lone_polls_behind = each LoneHandlePollsBehind (λ s reached q quiet follows p f c b steps none found many.
    leads_behind s reached q quiet follows none p (call.PollHandle f b) refl (does wakes c (PollHandle f (waker_of None b)) q) steps
    (λ hints has rests. polls p None [] s.world q refl follows c f b many hints (λ waits. absurd (found waits)) has rests))

pub lone_waits_behind : EachLoneAlike LoneHandleWaitsBehind
lone_waits_behind = each LoneHandleWaitsBehind (λ s reached q quiet follows p f c b g h steps none waits many granted new lone.
    let a = waker_of None b in
    let r : Plain Output Waker = does wakes c (PollHandle f a) q in
    let P : World → Type 0 = λ w. Follows w r in
    behind_of s reached q quiet follows none p (call.PollHandle f b) refl r new
    (still_ends p P new
    (lone_calls_told_twice_of HasOfTasks IsAny of_tasks p (Still (AtEnd P)) s reached (call.PollHandle f b) g h
    (op.Handle (handle_op.Look f a)) (op.Handle (handle_op.CopyAwaiter f a)) steps new quiet tt refl refl refl
    (looks_on p f a s.world (log s.world (event.CallBegun p (call.PollHandle f b))) q follows waits refl) (λ w. refl) refl
    (λ hints has rests. still_first s reached q quiet follows none p (call.PollHandle f b) refl (AtEnd P) (g ∷ h ∷ hints)
    (λ has rests. polls p None [] s.world q refl follows c f b many (g ∷ h ∷ hints) (λ is. granted) has rests) has rests)
    lone)))
