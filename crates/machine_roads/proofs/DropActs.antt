-- Acts from the executor's drop on leave both alike at each moment at which a party rests.
use Rattle.std.proofs.Common.{◌≡◌, ℕ, ◌<◌, ◌==◌, ◌++◌, nat_lt, Bool, true, false, List, [], ◌∷◌, length}
use Rattle.std.proofs.Common.{Option, Some, None, Ok, refl, sym, ap, subst, ◌∙◌}
use Rattle.std.specs.Prelude.{reverse}
use Rattle.executor_model.specs.declared.call.Call.{Call}
use Rattle.executor_model.specs.declared.call.Call.TheVariants as call
use Rattle.executor_model.specs.declared.event.Event.TheVariants as event
use Rattle.executor_model.specs.declared.call.Reply.TheVariants as reply
use Rattle.executor_model.specs.declared.op.Hold.TheVariants as hold
use Rattle.executor_model.specs.declared.op.Op.{Op}
use Rattle.executor_model.specs.declared.op.Op.TheVariants as op
use Rattle.executor_model.specs.declared.op.UserOp.TheVariants as user_op
use Rattle.executor_model.specs.declared.op.Waker.{Waker}
use Rattle.executor_model.specs.declared.step.Hint.{Hint}
use Rattle.executor_model.specs.declared.step.Step.{Step}
use Rattle.executor_model.specs.declared.step.Step.TheVariants.{Answer, Begin, Go}
use Rattle.executor_model.specs.declared.step.StepError.TheVariants.{NoSuch, WrongAnswer}
use Rattle.executor_model.specs.declared.step.UserEnd.{UserEnd}
use Rattle.executor_model.specs.declared.step.UserEnd.TheVariants.{Done as IsDone, Polled}
use Rattle.executor_model.specs.Acts.{closing_ops}
use Rattle.executor_model.specs.Executions.{run_all}
use Rattle.executor_model.specs.Queues.{queue_in}
use Rattle.executor_model.specs.Quiet.{IsQuiet}
use Rattle.executor_model.specs.Steps.{Machine, accepts, after, answer_refusal, is_on_executor}
use Rattle.executor_model.specs.Steps.{mine, part_refusal, party_of, refusal, stack, top}
use Rattle.executor_model.specs.World.{Done, World, done, log}
use Rattle.executor_model.proofs.Quiet.Resting.{rests}
use Rattle.executor_model.proofs.Steps.Reached.{Reached, deep-here, reached-more, run-first}
use Rattle.executor_model.proofs.Steps.Stepping.{refusal-there}
use Rattle.executor_laws.proofs.Termination.LoneEnds.{OthersRest, still-rest}
use Rattle.plain_scheduler.specs.State.{Choice, Close, Code, Granted, Lose, Plain, Refusal}
use Rattle.plain_scheduler.specs.Calls as plain
use Rattle.plain_scheduler.specs.Calls.{close, does}
use Rattle.plain_scheduler.specs.Searches.{searches_inside}
use Rattle.machine_roads.specs.View.{Output, wakes}
use Rattle.machine_roads.specs.Road.{Follows, waking_in}
use Rattle.machine_roads.specs.Alone.{alone, is_resting, HasAll, HasFirst, HasIn}
use Rattle.machine_roads.specs.Alike.{begins, upon}
use Rattle.machine_roads.specs.Closing.{ComesOn, IsInDrop, loses}
use Rattle.machine_roads.specs.Course.{IsCall}
use Rattle.machine_roads.specs.InLoss.{AreLosing, IsCallInLoss, StopsInLoss, loss_codes, loss_ops, without_handles}
use Rattle.machine_roads.specs.Losing.{left_of}
use Rattle.machine_roads.specs.Lone.{EachLoneAlike, NoneWaits}
use Rattle.machine_roads.specs.Within.{Act, IsCallIn, begins as begins_by, ends as ends_by, rests_after, standing, start_in}
use Rattle.machine_roads.specs.DropActs.{AreDropActs, AreLosingInDrop, DropActAlike, DropActsAlike, StandsDropping, behind, drops}
use Rattle.machine_roads.specs.DropActs.{left_to_close}
use Rattle.machine_roads.proofs.ActBegins.{choice_in, chosen_in, enough}
use Rattle.machine_roads.proofs.Acts.{goes_rest, no_go_resting, taken_over}
use Rattle.machine_roads.proofs.AloneKeeps.{due}
use Rattle.machine_roads.proofs.Beside.{begins_does, go_append, rest_goes}
use Rattle.machine_roads.proofs.CallsBehind.{Still, none_in, none_of, of_tasks, still_at}
use Rattle.machine_roads.proofs.Counted.{counts}
use Rattle.machine_roads.proofs.CourseBehind.{before_drop, drop_begun, still_gone}
use Rattle.machine_roads.proofs.LossActs.{spares_all}
use Rattle.machine_roads.proofs.InDrop.{comes_on, drop_goes_on}
use Rattle.machine_roads.proofs.InLoss.{calls_in_loss, loses_in_loss, loss_ends_in_loss}
use Rattle.machine_roads.proofs.LossInDrop.{call_ends, call_loses, drop_ends_so}
use Rattle.machine_roads.proofs.Unseen.{stands_in}
use Rattle.machine_roads.proofs.InDrop.{stays_inside}
use Rattle.machine_roads.proofs.Inside.{ends_inside}
use Rattle.machine_roads.proofs.LaterAnew.{granted_anew, off_anew}
use Rattle.machine_roads.proofs.Lists.{clash}
use Rattle.machine_roads.proofs.LoneCalls.{each}
use Rattle.machine_roads.proofs.LoneCloses.{Closing, IsAny, drop_leads_so, walks}
use Rattle.machine_roads.proofs.LoneRuns.{passed, within}
use Rattle.machine_roads.proofs.LoneTicks.{may_begin, there_all}
use Rattle.machine_roads.proofs.DropPlaces.{are_losses, handles_back, handles_there, loss_rests, queues_through, rests_so, stands_on}
use Rattle.machine_roads.proofs.DropPlaces.{still_left}
use Rattle.machine_roads.proofs.Named.{Named, named}
use Rattle.machine_roads.proofs.OpenCalls.{AreOpen, HasOpen, of_calls, open_all}
use Rattle.machine_roads.proofs.Seeking.{seeks}
use Rattle.machine_roads.proofs.Tying.{LeadsSoOf, none_of as none_left, top_of}
use Rattle.machine_roads.proofs.Chosen.{ChoosesAnyhow}
use Rattle.machine_roads.proofs.Unsearched.{ActsAnyhow, ended_so, loss_so, off_so}
use Rattle.machine_roads.proofs.Waits.{HasOfTasks, NoTaskWaits, are_append, begins_calmly}
use Rattle.machine_roads.proofs.Walked.{answer_leads_of, begun_leads_of, no_answer}

module _ (s : Machine) (reached : Reached s) (p : ℕ) (there : p < length s.parties) (gone : s.world.gone ≡ true)
    (q : Plain Output Waker) (new : Machine) where
  abbrev Reaches : Step → Done → Type 0
  Reaches t e = (r : Plain Output Waker) × ActsAnyhow s p t q r e.world × StandsDropping e r

  abbrev choice : Refusal → Choice
  choice r = choice_in s q r

  abbrev granted : Choice
  granted = choice Granted

  abbrev its : Option Op
  its = top (stack s p)

  acts : (c : Call) (x : plain.Call Output Waker) (r : Refusal) → IsCallIn (mine its) s.world c x
      → is_on_executor c ≡ false → (os : List Op) → is_resting os ≡ true → (hints : List Hint)
      → ActsAnyhow s p (Begin p c) q (does wakes (choice r) x q) (alone p hints (upon os (begins p None c s.world))).world
  acts c x r is off os under hints = λ start. record {
    choice = choice r;
    made = x;
    chosen = chosen_in s q r;
    is = begins_by c x is;
    so = refl;
    anew = off_anew q (does wakes (choice r) x q) (mine its) s.world c (choice r) x is off;
    chooses = off_so (mine its) s.world (choice r) q p hints c off os under x is None start;
  }

  end_acts : (v : World) → ChoosesAnyhow s.world v plain.Ends q granted
      → ActsAnyhow s p (Answer p IsDone) q (does wakes granted plain.Ends q) v
  end_acts v chooses = λ start. record {
    choice = granted;
    made = plain.Ends;
    chosen = (chosen_in s q Granted).tells;
    is = ends_by;
    so = refl;
    anew = granted_anew q (does wakes granted plain.Ends q) granted plain.Ends refl;
    chooses = chooses start;
  }

  close_none : (fs ws : List ℕ) → due counts (closing_ops fs ws ++ op.End reply.Done hold.Nothing ∷ []) ≡ 0
  close_none (f ∷ fs) ws = refl
  close_none [] (f ∷ ws) = refl
  close_none [] [] = refl

  close_light : (fs ws : List ℕ) → due seeks (closing_ops fs ws ++ op.End reply.Done hold.Nothing ∷ []) ≡ 0
  close_light (f ∷ fs) ws = refl
  close_light [] (f ∷ ws) = refl
  close_light [] [] = refl

  -- the executor's calls are refused
  no_executors : (c : Call) → refusal s (Begin p c) ≡ None → is_on_executor c ≡ true → ⊥
  no_executors c may on = clash (before_drop s.world s.parties its c on (may_begin s p c may)) gone

  one_named : (c : Call) → refusal s (Begin p c) ≡ None → mine its ≡ None → is_on_executor c ≡ false → Named s.world c
  one_named c may none off = named s.world s.parties its none c off (there_all s.world s.parties its c (may_begin s p c may))

  is_in : (c : Call) (x : plain.Call Output Waker) → mine its ≡ None → IsCallIn None s.world c x → IsCallIn (mine its) s.world c x
  is_in c x none is = subst (λ here. IsCallIn here s.world c x) (sym none) is

  not_off : (c : Call) → refusal s (Begin p c) ≡ None → is_on_executor c ≡ false
  not_off c may = by (is_on_executor c) refl
    where
      by : (b : Bool) → is_on_executor c ≡ b → is_on_executor c ≡ false
      by false off = off
      by true on = absurd (no_executors c may on)

  poll_none : (gs : List ℕ) (o : Op) (os : List Op) → mine (Some o) ≡ None → reverse (stack s p) ≡ loss_ops gs (o ∷ os) → mine its ≡ None
  poll_none [] o os none is = ap (λ o. mine o) (top_of (stack s p) o os is).0 ∙ none
  poll_none (g ∷ gs) o os none is =
      ap (λ o. mine o) (top_of (stack s p) (op.User (user_op.DropOutput g)) (left_of g ++ loss_ops gs (o ∷ os)) is).0

  called_in : (c : Call) → refusal s (Begin p c) ≡ None → (gs : List ℕ) (os : List Op) → reverse (stack s p) ≡ loss_ops gs os
      → (x : plain.Call Output Waker) → IsCall s.world c x → IsCallInLoss gs s.world c x
  called_in c may gs os next x is = record {
    off = not_off c may;
    spared = spares_all s reached p there gs os next its c (there_all s.world s.parties its c (may_begin s p c may));
    is = is;
  }

  -- in the drop of a future, and in those of outputs inside of it
  module _ (gs : List ℕ) (f : ℕ) (fs all : List ℕ)
      (next : reverse (stack s p) ≡ loss_ops gs (op.User (user_op.Drop f) ∷ left_to_close fs s.world))
      (is : AreLosingInDrop s.world gs fs all q) where
    abbrev below : List Op
    below = reverse (stack s p)

    under : is_resting below ≡ true
    under = ap is_resting next ∙ loss_rests gs (op.User (user_op.Drop f) ∷ left_to_close fs s.world) refl

    no_poll : mine its ≡ None
    no_poll = poll_none gs (op.User (user_op.Drop f)) (left_to_close fs s.world) refl next

    opened : AreOpen s.world
    opened m = ap (λ qs. (queue_in m qs).closed) (sym (queues_through gs s.world)) ∙ is.left.opened m

    stands_still : (hs : List ℕ) (e : Done) (z : Plain Output Waker)
        → e.next ≡ loss_ops hs (op.User (user_op.Drop f) ∷ left_to_close fs s.world) → AreLosingInDrop e.world hs fs all z
        → StandsDropping e z
    stands_still hs e z at so = drops hs f fs all (at ∙ ap (loss_ops hs) (still_left f fs all gs hs s.world e.world q z is so)) so

    call_in_drop : (c : Call) (ts : List Step) → rests_after p ts (after s (Begin p c)) ≡ true → run_all (Begin p c ∷ ts) s ≡ Ok new
        → Reaches (Begin p c) (standing new p)
    call_in_drop c ts rests made =
        let may = (run-first (Begin p c) ts s new made).0 in
        let off = not_off c may in
        let x = one_named c may no_poll off in
        let it = called_in c may gs (op.User (user_op.Drop f) ∷ left_to_close fs s.world) next x.made x.is in
        begun_leads_of (HasFirst HasOpen) IsAny of_calls p (Reaches (Begin p c)) new tt c ts s reached there
        (subst (λ here. LeadsSoOf HasOpen p (upon below (begins p here c s.world)) (Reaches (Begin p c))) (sym no_poll) (leads off x it))
        rests made
      where
        leads : is_on_executor c ≡ false → (x : Named s.world c) → IsCallInLoss gs s.world c x.made
            → LeadsSoOf HasOpen p (upon below (begins p None c s.world)) (Reaches (Begin p c))
        leads off x it hints has rests =
            let d = begins p None c s.world in
            let b = begins_does (λ f. true) [] [] [] p c s.world off (λ f at waits. refl) in
            let all_has : HasAll p hints (upon below d) =
            open_all p hints d.world (d.next ++ below) (λ m. b.shut m ∙ opened m) (go_append d.next below b.fits (rest_goes below under))
            has in
            by (loses x.made q) refl all_has
          where
            by : (b : Bool) → loses x.made q ≡ b → HasAll p hints (upon below (begins p None c s.world))
                → Reaches (Begin p c) (alone p hints (upon below (begins p None c s.world)))
            by false keeps all_has =
                let e = alone p hints (upon below (begins p None c s.world)) in
                let o = call_ends p gs below s.world fs all q granted hints under is c x.made it all_has rests keeps in
                let z : Plain Output Waker = does wakes (choice o.0) x.made q in (
                  z,
                  acts c x.made o.0 (is_in c x.made no_poll x.within_none) off below under hints,
                  stands_still gs e z (o.1 ∙ next) o.2,
                )
            by true goes all_has =
                let e = alone p hints (upon below (begins p None c s.world)) in
                let o = call_loses p gs below s.world fs all q granted hints under is c x.made it all_has rests goes in
                let g : ℕ = o.0 in
                let z : Plain Output Waker = does wakes granted x.made q in (
                  z,
                  acts c x.made Granted (is_in c x.made no_poll x.within_none) off below under hints,
                  stands_still (g ∷ gs) e z (o.1 ∙ ap (λ os. op.User (user_op.DropOutput g) ∷ (left_of g ++ os)) next) o.2,
                )

  module _ (f : ℕ) (fs all : List ℕ) (next : reverse (stack s p) ≡ op.User (user_op.Drop f) ∷ left_to_close fs s.world)
      (is : IsInDrop s.world fs all [] q) where
    -- the drop of the future ends
    drop_ends : (u : UserEnd) (ts : List Step) → accepts (op.User (user_op.Drop f)) u ≡ true
        → rests_after p ts (after s (Answer p u)) ≡ true → run_all (Answer p u ∷ ts) s ≡ Ok new → Reaches (Answer p u) (standing new p)
    drop_ends IsDone ts on rests made =
        answer_leads_of (HasFirst HasIn) IsAny walks p (Reaches (Answer p IsDone)) new tt IsDone (op.User (user_op.Drop f))
        (left_to_close fs s.world) ts s reached there next
        (λ hints has rests. (
          does wakes granted plain.Ends q,
          end_acts (alone p hints (done s.world (left_to_close fs s.world))).world
              (ended_so p hints s.world (left_to_close fs s.world) (close_none fs s.world.waking) (close_light fs s.world.waking) granted q
              (ap (λ codes. searches_inside wakes granted plain.Ends codes q) is.inside)),
          stands_on fs all (does wakes granted plain.Ends q) (alone p hints (done s.world (left_to_close fs s.world)))
              (drop_goes_on p s.world fs all [] q granted hints is has rests),
        ))
        rests made
    drop_ends (Polled a) ts on rests made = absurd cc

  -- the drop of an output in there ends
  module _ (g : ℕ) (gs : List ℕ) (f : ℕ) (fs all : List ℕ)
      (next : reverse (stack s p) ≡ loss_ops (g ∷ gs) (op.User (user_op.Drop f) ∷ left_to_close fs s.world))
      (is : AreLosingInDrop s.world (g ∷ gs) fs all q) where
    abbrev left : List Op
    left = loss_ops gs (op.User (user_op.Drop f) ∷ left_to_close fs s.world)

    loss_ends : (u : UserEnd) (ts : List Step) → accepts (op.User (user_op.DropOutput g)) u ≡ true
        → rests_after p ts (after s (Answer p u)) ≡ true → run_all (Answer p u ∷ ts) s ≡ Ok new → Reaches (Answer p u) (standing new p)
    loss_ends IsDone ts on rests made =
        let os = left_of g ++ left in
        let under = loss_rests gs (op.User (user_op.Drop f) ∷ left_to_close fs s.world) refl in
        answer_leads_of (HasFirst HasOpen) IsAny of_calls p (Reaches (Answer p IsDone)) new tt IsDone
        (op.User (user_op.DropOutput g)) os ts s reached
        there next
        (λ hints has rests.
        let e = alone p hints (done s.world os) in
        let all_has : HasAll p hints (done s.world os) =
        open_all p hints s.world os (opened (g ∷ gs) f fs all next is) (go_append (left_of g) left refl (rest_goes left under)) has in
        let o = drop_ends_so p gs left s.world fs all q granted hints under g is all_has rests in (
          does wakes granted plain.Ends q,
          end_acts e.world
              (loss_so p hints s.world g left under granted q None (loss_codes gs [] ++ Close fs all ∷ []) is.left.inside),
          stands_still (g ∷ gs) f fs all next is gs e (does wakes granted plain.Ends q) o.0 o.1,
        ))
        rests made
    loss_ends (Polled a) ts on rests made = absurd cc

  -- behind the executor's drop
  module _ (gs : List ℕ) (none : NoneWaits q) (stops : StopsInLoss gs [] [] (standing s p) q) where
    abbrev owed : List Op
    owed = loss_ops gs []

    under_behind : is_resting owed ≡ true
    under_behind = loss_rests gs [] refl

    calm : NoTaskWaits s.world
    calm = handles_back gs s.world stops.losing.shut (none_in (without_handles gs s.world) q stops.losing.follows none)

    no_poll_behind : (hs : List ℕ) → reverse (stack s p) ≡ loss_ops hs [] → mine its ≡ None
    no_poll_behind [] next = ap (λ xs. mine (top xs)) (none_left (stack s p) next)
    no_poll_behind (h ∷ hs) next =
        ap (λ o. mine o) (top_of (stack s p) (op.User (user_op.DropOutput h)) (left_of h ++ loss_ops hs []) next).0

    stands_behind : (hs : List ℕ) (e : Done) (z : Plain Output Waker) → e.next ≡ loss_ops hs [] → z.inside ≡ loss_codes hs []
        → AreLosing e.world hs z → NoTaskWaits e.world → StandsDropping e z
    stands_behind hs e z next inside losing still =
        behind hs (none_of (without_handles hs e.world) z losing.follows (handles_there hs e.world losing.shut still))
        (record { left = next; inside = inside; losing = losing })

    call_behind : (c : Call) (ts : List Step) → rests_after p ts (after s (Begin p c)) ≡ true → run_all (Begin p c ∷ ts) s ≡ Ok new
        → Reaches (Begin p c) (standing new p)
    call_behind c ts rests made =
        let may = (run-first (Begin p c) ts s new made).0 in
        let off = not_off c may in
        let unpolled = no_poll_behind gs stops.left in
        let x = one_named c may unpolled off in
        let it = called_in c may gs [] stops.left x.made x.is in
        begun_leads_of (HasFirst HasOfTasks) IsAny of_tasks p (Reaches (Begin p c)) new tt c ts s reached there
        (subst (λ os. LeadsSoOf HasOfTasks p (upon os (begins p (mine its) c s.world)) (Reaches (Begin p c))) (sym stops.left)
        (subst (λ here. LeadsSoOf HasOfTasks p (upon owed (begins p here c s.world)) (Reaches (Begin p c))) (sym unpolled)
        (leads unpolled x it)))
        rests made
      where
        leads : mine its ≡ None → (x : Named s.world c) → IsCallInLoss gs s.world c x.made
            → LeadsSoOf HasOfTasks p (upon owed (begins p None c s.world)) (Reaches (Begin p c))
        leads unpolled x it hints has rests = by (loses x.made q) refl
          where
            e : Done
            e = alone p hints (upon owed (begins p None c s.world))

            so_far : (R : Done → Type 0)
                → (HasAll p hints (upon owed (begins p None c s.world)) → R (alone p hints (upon owed (begins p None c s.world))))
                → Still R (alone p hints (upon owed (begins p None c s.world)))
            so_far R so =
                let d = begins p None c s.world in
                let b = begins_calmly p c (log s.world (event.CallBegun p c)) it.off calm in
                still_at p R hints d.world (d.next ++ owed) b.world (are_append d.next owed b.fits (are_losses gs)) (λ has. so has) has

            by : (b : Bool) → loses x.made q ≡ b → Reaches (Begin p c) (alone p hints (upon owed (begins p None c s.world)))
            by false keeps =
                let k =
                so_far
                (λ e. (r : Refusal) × (e.next ≡ owed) × AreLosing e.world gs (does wakes (record granted { refusal = r }) x.made q))
                (λ has.
                calls_in_loss p gs owed s.world q granted hints c x.made under_behind stops.losing it keeps (enough (length q.lying)) has
                rests) in
                let r : Refusal = k.so.0 in
                let z : Plain Output Waker = does wakes (choice r) x.made q in (
                  z,
                  acts c x.made r (is_in c x.made unpolled x.within_none) it.off owed under_behind hints,
                  stands_behind gs (alone p hints (upon owed (begins p None c s.world))) z k.so.1
                      (stays_inside s.world c x.made (choice r) q it.off x.is keeps ∙ stops.inside) k.so.2 k.none,
                )
            by true goes =
                let z : Plain Output Waker = does wakes granted x.made q in
                let k =
                so_far
                (λ e. (f : ℕ) × (e.next ≡ op.User (user_op.DropOutput f) ∷ (left_of f ++ owed)) × (z.inside ≡ Lose None None ∷ q.inside)
                × AreLosing e.world (f ∷ gs) z)
                (λ has. loses_in_loss p gs owed s.world q granted hints c x.made under_behind stops.losing it goes has rests) in
                let f : ℕ = k.so.0 in (
                  z,
                  acts c x.made Granted (is_in c x.made unpolled x.within_none) it.off owed under_behind hints,
                  stands_behind (f ∷ gs) (alone p hints (upon owed (begins p None c s.world))) z k.so.1
                      (k.so.2 ∙ ap (λ codes. Lose None None ∷ codes) stops.inside) k.so.3 k.none,
                )

  -- the drop of an output there ends
  module _ (g : ℕ) (gs : List ℕ) (none : NoneWaits q) (stops : StopsInLoss (g ∷ gs) [] [] (standing s p) q) where
    loss_ends_behind : (u : UserEnd) (ts : List Step) → accepts (op.User (user_op.DropOutput g)) u ≡ true
        → rests_after p ts (after s (Answer p u)) ≡ true → run_all (Answer p u ∷ ts) s ≡ Ok new → Reaches (Answer p u) (standing new p)
    loss_ends_behind IsDone ts on rests made =
        let os = left_of g ++ loss_ops gs [] in
        let inside : List (Code Output Waker) = loss_codes gs [] in
        let q0 : Plain Output Waker = record q { inside = inside } in
        let q1 : Plain Output Waker = record q { inside = Lose None None ∷ inside } in
        let same : q1 ≡ q = ap (λ (codes : List (Code Output Waker)). record q { inside = codes }) (sym stops.inside) in
        let it : AreLosing s.world (g ∷ gs) q0 =
        record {
          shut = stops.losing.shut;
          follows =
              stands_in inside (without_handles (g ∷ gs) s.world) q stops.losing.follows (sym (ap (λ codes. waking_in codes) stops.inside));
        } in
        answer_leads_of (HasFirst HasOfTasks) IsAny of_tasks p (Reaches (Answer p IsDone)) new tt IsDone
        (op.User (user_op.DropOutput g)) os ts s
        reached there stops.left
        (λ hints has rests.
        let e = alone p hints (done s.world os) in
        let z : Plain Output Waker = does wakes granted plain.Ends q1 in
        let k =
        still_at p (λ e. (e.next ≡ loss_ops gs []) × AreLosing e.world gs z) hints s.world os (calm (g ∷ gs) none stops) (are_losses gs)
        (λ has. loss_ends_in_loss p gs (loss_ops gs []) s.world q0 granted hints g (loss_rests gs [] refl) it has rests) has in (
          does wakes granted plain.Ends q,
          end_acts e.world
              (loss_so p hints s.world g (loss_ops gs []) (loss_rests gs [] refl) granted q None (loss_codes gs []) stops.inside),
          subst (λ y. StandsDropping e (does wakes granted plain.Ends y)) same
              (stands_behind (g ∷ gs) none stops gs e z k.so.0 (ends_inside granted q1 inside refl) k.so.1 k.none),
        ))
        rests made
    loss_ends_behind (Polled a) ts on rests made = absurd cc

  -- each act
  module _ (so : StandsDropping (standing s p) q) where
    accepted : (o : Op) (os : List Op) (u : UserEnd) → reverse (stack s p) ≡ o ∷ os → refusal s (Answer p u) ≡ None → accepts o u ≡ true
    accepted o os u is may =
        passed (accepts o u) WrongAnswer None
        (sym (ap (λ t. answer_refusal t u) (top_of (stack s p) o os is).0) ∙ (sym (refusal-there s (Answer p u) there) ∙ may))

    call_begins : (c : Call) (ts : List Step) → rests_after p ts (after s (Begin p c)) ≡ true → run_all (Begin p c ∷ ts) s ≡ Ok new
        → Reaches (Begin p c) (standing new p)
    call_begins c ts rests made = by so
      where
        by : StandsDropping (standing s p) q → Reaches (Begin p c) (standing new p)
        by (drops gs f fs all next is) = call_in_drop gs f fs all next is c ts rests made
        by (behind gs none stops) = call_behind gs none stops c ts rests made

    code_ends : (u : UserEnd) (ts : List Step) → rests_after p ts (after s (Answer p u)) ≡ true → run_all (Answer p u ∷ ts) s ≡ Ok new
        → Reaches (Answer p u) (standing new p)
    code_ends u ts rests made = by so
      where
        may : refusal s (Answer p u) ≡ None
        may = (run-first (Answer p u) ts s new made).0

        by : StandsDropping (standing s p) q → Reaches (Answer p u) (standing new p)
        by (drops [] f fs all next is) =
            drop_ends f fs all next is.left u ts (accepted (op.User (user_op.Drop f)) (left_to_close fs s.world) u next may) rests made
        by (drops (g ∷ gs) f fs all next is) =
            loss_ends g gs f fs all next is u ts
            (accepted (op.User (user_op.DropOutput g))
            (left_of g ++ loss_ops gs (op.User (user_op.Drop f) ∷ left_to_close fs s.world)) u next may)
            rests made
        by (behind [] none stops) = absurd (no_answer s p there u stops.left may)
        by (behind (g ∷ gs) none stops) =
            loss_ends_behind g gs none stops u ts
            (accepted (op.User (user_op.DropOutput g)) (left_of g ++ loss_ops gs []) u stops.left may) rests made

    one_act : (t : Step) (ts : List Step) → party_of t ≡ p → rests_after p ts (after s t) ≡ true → run_all (t ∷ ts) s ≡ Ok new
        → Reaches t (standing new p)
    one_act (Begin r c) ts its rests made =
        subst (λ n. Reaches (Begin n c) (standing new p)) (sym its)
        (call_begins c ts
        (subst (λ n. rests_after p ts (after s (Begin n c)) ≡ true) its rests)
        (subst (λ n. run_all (Begin n c ∷ ts) s ≡ Ok new) its made))
    one_act (Go r h) ts its rests made =
        absurd
        (no_go_resting s p there h (reverse (stack s p)) refl (rests_so (standing s p) q so)
        (subst (λ n. refusal s (Go n h) ≡ None) its (run-first (Go r h) ts s new made).0))
    one_act (Answer r u) ts its rests made =
        subst (λ n. Reaches (Answer n u) (standing new p)) (sym its)
        (code_ends u ts (subst (λ n. rests_after p ts (after s (Answer n u)) ≡ true) its rests)
        (subst (λ n. run_all (Answer n u ∷ ts) s ≡ Ok new) its made))

-- a party that acts is there
acts_there : (s : Machine) (p : ℕ) (t : Step) → party_of t ≡ p → refusal s t ≡ None → p < length s.parties
acts_there s p t its may =
    subst (λ n. n < length s.parties) its
    (within (party_of t) (length s.parties)
    (passed (nat_lt (party_of t) (length s.parties)) NoSuch (part_refusal s.world s.parties (stack s (party_of t)) t) may))

drop_lists : (acts : List Act) (s : Machine) → Reached s → (p : ℕ) → OthersRest p s → s.world.gone ≡ true → (q : Plain Output Waker)
    → StandsDropping (standing s p) q → AreDropActs s acts → DropActAlike s q acts
drop_lists [] s reached p others gone q so are = tt
drop_lists (a ∷ acts) s reached p others gone q so are =
    let it = are.0 in
    let k = run-first a.first a.steps s a.left it.made in
    let next = reached-more (a.first ∷ a.steps) s a.left reached it.made in
    let there = acts_there s a.party a.first it.its k.0 in
    let now = subst (λ e. StandsDropping e q) (taken_over s p a.party others it.others (p == a.party) refl) so in
    let one = one_act s reached a.party there gone q a.left now a.first a.steps it.its it.rests it.made in (
      one.0,
      one.1 (start_in s a),
      one.2,
      drop_lists acts a.left next a.party (goes_rest a.steps (after s a.first) a.left a.party it.rests k.1
          (still-rest a.party s a.first it.its it.others)) (still_gone (a.first ∷ a.steps) s a.left reached it.made gone) one.0 one.2 are.1,
    )

pub drop_acts_so : (s : Machine) → Reached s → (q : Plain Output Waker) → IsQuiet s.world.trace → Follows s.world q → DropActsAlike s q
drop_acts_so s reached q quiet follows a acts d nowhere it first are =
    let p = a.party in
    let x = call.DropExecutor in
    let made = subst (λ t. run_all (t ∷ a.steps) s ≡ Ok a.left) first it.made in
    let resting = subst (λ t. rests_after p a.steps (after s t) ≡ true) first it.rests in
    let k = run-first (Begin p x) a.steps s a.left made in
    let there = acts_there s p (Begin p x) refl k.0 in
    let none : stack s p ≡ [] = rests s (deep-here s reached) quiet p in
    let fs = s.world.table in
    let z : Plain Output Waker = does wakes d plain.DropExecutor q in
    let R : Done → Type 0 = λ e. StandsDropping e z in
    let leads : LeadsSoOf HasIn p (upon [] (begins p None x s.world)) R =
    λ hints has rests.
    let e = alone p hints (upon [] (begins p None x s.world)) in
    let so : Closing d fs q.inside fs q e = drop_leads_so s reached q quiet follows p d nowhere (may_begin s p x k.0) hints has rests in
    stands_on fs fs z e
    (subst (λ codes. ComesOn fs fs codes z e) nowhere
    (subst (λ all. ComesOn fs fs q.inside (close wakes d all all q) e) follows.table (comes_on d fs q.inside fs q e refl so))) in
    let stands =
    begun_leads_of (HasFirst HasIn) IsAny walks p R a.left tt x a.steps s reached there
    (subst (λ xs. LeadsSoOf HasIn p (upon (reverse xs) (begins p (mine (top xs)) x s.world)) R) (sym none) leads) resting made in (
      stands,
      drop_lists acts a.left (reached-more (Begin p x ∷ a.steps) s a.left reached made) p
          (goes_rest a.steps (after s (Begin p x)) a.left p resting k.1 (still-rest p s (Begin p x) refl it.others))
          (drop_begun s reached p a.steps a.left made) z stands are,
    )

pub drop_acts : EachLoneAlike DropActsAlike
drop_acts = each DropActsAlike drop_acts_so
