-- Lone calls by which a handle goes with its output: they come to the output's drop, and go on from its end.
use Rattle.std.proofs.Common.{◌≡◌, ℕ, ◌++◌, false, List, [], ◌∷◌, None, refl, sym, ap, subst}
use Rattle.executor_model.specs.declared.call.Call.{Call}
use Rattle.executor_model.specs.declared.call.Call.TheVariants as call
use Rattle.executor_model.specs.declared.op.Op.TheVariants as op
use Rattle.executor_model.specs.declared.op.UserOp.TheVariants as user_op
use Rattle.executor_model.specs.declared.op.Waker.{Waker}
use Rattle.executor_model.specs.declared.step.Step.{Step}
use Rattle.executor_model.specs.declared.step.Step.TheVariants.{Answer, Begin}
use Rattle.executor_model.specs.Quiet.{IsQuiet}
use Rattle.executor_model.specs.Steps.{Machine, after, react}
use Rattle.executor_model.specs.World.{Done, done}
use Rattle.executor_model.proofs.Quiet.Resting.{rests}
use Rattle.executor_model.proofs.Steps.Reached.{Reached, deep-here, reached-more, run-first}
use Rattle.executor_laws.specs.LoneEnds.{IsLoneCall}
use Rattle.plain_scheduler.specs.State.{Choice, Code, Lose, Plain}
use Rattle.plain_scheduler.specs.Calls.{does, Detach, DropHandle, Ends}
use Rattle.machine_roads.specs.View.{Output, wakes}
use Rattle.machine_roads.specs.Road.{Follows, waking_in}
use Rattle.machine_roads.specs.Alike.{begins}
use Rattle.machine_roads.specs.Losing.{ComesToLose, IsLosing, StopsLosing, left_of, without_handle}
use Rattle.machine_roads.specs.Lone.{EachLoneAlike, LeadsTo, LoneDetachLoses, LoneGoesWithOutput}
use Rattle.machine_roads.proofs.Lists.{cons_is}
use Rattle.machine_roads.proofs.LoneCalls.{each}
use Rattle.machine_roads.proofs.LoneRuns.{Inside, Rests, Whole, all_steps, lone_calls_rest, onward}
use Rattle.machine_roads.proofs.Losing.{detaches_to_lose, goes_to_lose, loses_alike}
use Rattle.machine_roads.proofs.Unseen.{stands_in}
use Rattle.machine_roads.proofs.Tying.{AtEnd, Goes, Leads, answers}

-- once the output is dropped it comes to the end
pub loss_leads : (p f : ℕ) (q r : Plain Output Waker) (d : Choice) (e : Done) → StopsLosing f [] q e r
    → Leads p (done e.world (left_of f ++ [])) (λ w. Follows w (does wakes d Ends r))
loss_leads p f q r d e so =
    let before : Plain Output Waker = record r { inside = q.inside } in
    let losing : IsLosing e.world f before =
    record {
      known = so.losing.known;
      closed = so.losing.closed;
      follows = stands_in q.inside (without_handle f e.world) r so.losing.follows (sym (ap (λ codes. waking_in codes) so.inside));
    } in
    let same : record before { inside = Lose None None ∷ q.inside } ≡ r =
    ap (λ (codes : List (Code Output Waker)). record r { inside = codes }) (sym so.inside) in
    subst (λ z. Leads p (done e.world (left_of f ++ [])) (λ w. Follows w (does wakes d Ends z))) same
    (λ hints all rests. loses_alike p f [] e.world before d refl losing hints tt all rests)

-- from the output's drop on, to the end
from_loss : (s new : Machine) → Reached s → (p f : ℕ) (c : Call) (steps : List Step) (q r : Plain Output Waker) (d : Choice)
    → new.world.gone ≡ false → IsLoneCall p c steps s new → Reached new → Rests p (λ e. StopsLosing f [] q e r) new
    → Follows new.world (does wakes d Ends r)
from_loss s new reached p f c steps q r d later lone last (Whole so) =
    let none : [] ≡ op.User (user_op.DropOutput f) ∷ (left_of f ++ []) = so.left in
    absurd cc
from_loss s new reached p f c steps q r d later lone last (Inside x) =
    let m = x.machine in
    let both = cons_is x.first (op.User (user_op.DropOutput f)) x.rest (left_of f ++ []) x.so.left in
    let first = both.0 in
    let k = run-first (Answer p x.end) x.steps m new x.made in
    let leads : Leads p (done m.world x.rest) (λ w. Follows w (does wakes d Ends r)) =
    subst (λ os. Leads p (done m.world os) (λ w. Follows w (does wakes d Ends r))) (sym both.1)
    (loss_leads p f q r d (done m.world (x.first ∷ x.rest)) x.so) in
    let goes : Goes p m (after m (Answer p x.end)) (done m.world x.rest) =
    subst (λ (e : Done). Goes p m (after m (Answer p x.end)) (done e.world (e.next ++ x.rest)))
    (ap (λ o. react p o x.end m.world) first) (answers p m x.there x.first x.rest x.is x.end) in
    let o =
    onward p (AtEnd (λ w. Follows w (does wakes d Ends r))) m new x.reached x.there later (Answer p x.end) x.steps
    (done m.world x.rest) goes leads k.0 k.1 in
    all_steps p (λ w. Follows w (does wakes d Ends r)) x.steps o.machine new o.todo o.reached o.there later o.is o.leads x.follow
    o.made (rests new (deep-here new last) lone.ended p)

pub loses_so : (s : Machine) → Reached s → (p f : ℕ) (c : Call) (steps : List Step) (q r : Plain Output Waker) (d : Choice)
    → IsQuiet s.world.trace → ComesToLose p f [] (begins p None c s.world) q r → LeadsTo s p c steps (does wakes d Ends r)
loses_so s reached p f c steps q r d quiet comes new later lone =
    from_loss s new reached p f c steps q r d later lone (reached-more (Begin p c ∷ steps) s new reached lone.made)
    (lone_calls_rest s reached p c steps new (λ e. StopsLosing f [] q e r) quiet later comes lone)

pub detach_loses_so : (s : Machine) → Reached s → (q : Plain Output Waker) → IsQuiet s.world.trace → Follows s.world q
    → LoneDetachLoses s q
detach_loses_so s reached q quiet follows p f c d steps some =
    loses_so s reached p f (call.Detach f) steps q (does wakes c (Detach f) q) d quiet
    (detaches_to_lose p None [] s.world q refl follows c f some)

pub lone_detach_loses : EachLoneAlike LoneDetachLoses
lone_detach_loses = each LoneDetachLoses detach_loses_so

pub goes_with_output_so : (s : Machine) → Reached s → (q : Plain Output Waker) → IsQuiet s.world.trace → Follows s.world q
    → LoneGoesWithOutput s q
goes_with_output_so s reached q quiet follows p f c d steps some =
    loses_so s reached p f (call.DropHandle f) steps q (does wakes c (DropHandle f) q) d quiet
    (goes_to_lose p None [] s.world q refl follows c f some)

pub lone_goes_with_output : EachLoneAlike LoneGoesWithOutput
lone_goes_with_output = each LoneGoesWithOutput goes_with_output_so
