-- The executor's drop as a lone call: each future is dropped, in the order of acceptance, by user code that ends, and behind the last
-- drop all the rest is done.
use Rattle.std.proofs.Common.{◌≡◌, ℕ, ◌-◌, ◌+◌, ◌≤◌, ◌<◌, ◌++◌, Bool, true, false, List, [], ◌∷◌, length, take}
use Rattle.std.proofs.Common.{Option, Some, None, slice_get, slice_set, refl, sym, ap, subst, ◌∙◌, arith, append-nil, append_assoc}
use Rattle.std.specs.Prelude.{filter, map}
use Rattle.executor_parts.specs.declared.mark.Mark.TheVariants.{Plain as PlainMark, Urgent}
use Rattle.task_moves.specs.AbstractTask as abstract
use Rattle.executor_model.specs.declared.call.Call.TheVariants as call
use Rattle.executor_model.specs.declared.event.Event.TheVariants as event
use Rattle.executor_model.specs.declared.op.ClosingOp.TheVariants as closing_op
use Rattle.executor_model.specs.declared.op.Op.TheVariants as op
use Rattle.executor_model.specs.declared.op.UserOp.TheVariants as user_op
use Rattle.executor_model.specs.declared.op.Waker.{Waker}
use Rattle.executor_model.specs.declared.step.Step.{Step}
use Rattle.executor_model.specs.declared.step.Step.TheVariants.{Begin}
use Rattle.executor_model.specs.Acts.{closing_ops, drop_next_by}
use Rattle.executor_model.specs.Quiet.{IsQuiet}
use Rattle.executor_model.specs.Steps.{Machine, react, stack, top, begin_refusal}
use Rattle.executor_model.specs.World.{World, Done, done, log, own_of, without}
use Rattle.executor_model.proofs.Steps.Reached.{Reached, reached-more, run-first}
use Rattle.executor_laws.specs.LoneEnds.{IsLoneCall}
use Rattle.plain_scheduler.specs.State.{Choice, Close, Code, Drops, Due, Future, Plain}
use Rattle.plain_scheduler.specs.Lists.{each, on}
use Rattle.plain_scheduler.specs.Moves.{is_common, put, see, task}
use Rattle.plain_scheduler.specs.Calls.{close, closed, freed, swept, Ends}
use Rattle.machine_roads.specs.View.{Output, wakes}
use Rattle.machine_roads.specs.Road.{Follows, waking_in}
use Rattle.machine_roads.specs.Alone.{alone, is_resting, HasIn}
use Rattle.machine_roads.specs.Alike.{begins, upon}
use Rattle.machine_roads.specs.Lone.{EachLoneAlike, Ended, LoneDropEnds, NoneWaits, ends as ends_with, over, waits_for}
use Rattle.machine_roads.proofs.Aside.{called_inside}
use Rattle.machine_roads.proofs.Calling.{idles}
use Rattle.machine_roads.proofs.Changing.{logs, sees}
use Rattle.machine_roads.proofs.Dropped.{gone_at, gone_task, marked, marks}
use Rattle.machine_roads.proofs.Having.{has_in}
use Rattle.machine_roads.proofs.Leaking.{freed_inside}
use Rattle.machine_roads.proofs.Lists.{cons_is, equal}
use Rattle.machine_roads.proofs.LoneCalls.{each as each_alike}
use Rattle.machine_roads.proofs.LoneRuns.{Inside, Rests, Walks, Whole, goes_on_of, lone_calls_rest_of, of_top}
use Rattle.machine_roads.proofs.LoneTicks.{may_begin}
use Rattle.machine_roads.proofs.Nobody.{WaitAmong, each_freed, each_mapped, each_waits, freed_so, swept_none}
use Rattle.machine_roads.proofs.Puts.{put_by}
use Rattle.machine_roads.proofs.Rousing.{AreOpen}
use Rattle.machine_roads.proofs.Stepping.{WayOf, next_of}
use Rattle.machine_roads.proofs.Sweeping.{closes_all, ending}
use Rattle.machine_roads.proofs.Tying.{LeadsSoOf}
use Rattle.machine_roads.proofs.Unborrowed.{both_open, may_drop, nobody_lies, nothing_kept, nothing_leaves, waiting_entered}
use Rattle.machine_roads.proofs.Unseen.{closing_so}

length_more : (xs ys : List ℕ) → length (xs ++ ys) ≡ length xs + length ys
length_more [] ys = omega arith
length_more (x ∷ xs) ys = omega (arith, length_more xs ys)

take_front : (xs ys : List ℕ) → take (length (xs ++ ys) - length ys) (xs ++ ys) ≡ xs
take_front xs ys = ap (λ n. take n (xs ++ ys)) (so_many (length (xs ++ ys)) (length xs) (length ys) (length_more xs ys)) ∙ front xs
  where
    so_many : (n x y : ℕ) → n ≡ x + y → n - y ≡ x
    so_many n x y is = omega (arith, is)

    front : (xs : List ℕ) → take (length xs) (xs ++ ys) ≡ xs
    front [] = refl
    front (x ∷ xs) = ap (λ zs. x ∷ zs) (front xs)

-- a future is dropped
abbrev pub gone_of : ℕ → Plain Output Waker → Plain Output Waker
gone_of f q = see (Drops f) (marked f q)

module _ (f : ℕ) (q : Plain Output Waker) where
  marked_by : {B : Type 0} (ask : Plain Output Waker → B) → ((fs : List (Future Output Waker)) → ask (record q { futures = fs }) ≡ ask q)
      → ask (marked f q) ≡ ask q
  marked_by ask same = by (slice_get q.futures f)
    where
      by : (o : Option (Future Output Waker)) → ask (on o (λ x p. gone_at f x p) q) ≡ ask q
      by None = refl
      by (Some x) = same (slice_set q.futures f (record x { is_dropped = true }))

  marked_in : (here there : List (Code Output Waker))
      → record (marked f (record q { inside = here })) { inside = there } ≡ record (marked f q) { inside = there }
  marked_in here there = by (slice_get q.futures f)
    where
      by : (o : Option (Future Output Waker))
          → record (on o (λ x p. gone_at f x p) (record q { inside = here })) { inside = there }
          ≡ record (on o (λ x p. gone_at f x p) q) { inside = there }
      by None = refl
      by (Some x) = refl

  marked_task : (g : ℕ) → task g (marked f q) ≡ task g q
  marked_task g = by (slice_get q.futures f) refl
    where
      by : (o : Option (Future Output Waker)) → slice_get q.futures f ≡ o → task g (on o (λ x p. gone_at f x p) q) ≡ task g q
      by None is = refl
      by (Some x) is = gone_task f g q x is

-- it leaves the code in which calls stand
closed_inside : (c : Choice) (fs : List ℕ) (q : Plain Output Waker) → (each fs (closed wakes c) q).inside ≡ q.inside
closed_inside c [] q = refl
closed_inside c (f ∷ fs) q =
    let t = task f q in
    closed_inside c fs (closed wakes c f q)
    ∙ (called_inside c (abstract.drop_runnable t).called (put f (abstract.drop_runnable t).task q)
    ∙ put_by (λ p. p.inside) f (abstract.drop_runnable t).task q (λ fs. refl))

pub swept_inside : (c : Choice) (all : List ℕ) (q : Plain Output Waker) → (swept wakes c (each all (freed wakes c) q)).inside ≡ q.inside
swept_inside c all q =
    let z : Plain Output Waker = each all (freed wakes c) q in
    by (filter (is_common Urgent) z.due ++ filter (is_common PlainMark) z.due) (record z { due = [] }) ∙ freed_inside c all q
  where
    by : (ds : List Due) (z : Plain Output Waker) → (each ds (λ d. closed wakes c d.future) z).inside ≡ z.inside
    by ds z =
        ap (λ (z : Plain Output Waker). z.inside) (each_mapped (λ (d : Due). d.future) ds (closed wakes c) z)
        ∙ closed_inside c (map (λ (d : Due). d.future) ds) z

-- of those that the drop has taken out these are still to be dropped
pub record IsClosing (w : World) (fs all : List ℕ) (codes : List (Code Output Waker)) (q : Plain Output Waker) : Type 0 where
  pub leaving : w.leaving ≡ fs
  pub table : w.table ≡ []
  pub parts : all ≡ w.waking ++ fs
  pub inside : q.inside ≡ codes
  pub follows : Follows (record w { table = fs }) (record q { inside = Close fs all ∷ codes })
  pub nowhere : waking_in codes ≡ []
  pub nobody : q.lying ≡ []
  pub opened : AreOpen w
  pub unkept : (r : ℕ) → own_of w r ≡ []
  pub among_them : WaitAmong all q

-- all is done, or the call stands in the drop of the next one
abbrev pub Closing : Choice → List ℕ → List (Code Output Waker) → List ℕ → Plain Output Waker → Done → Type 0
Closing c all codes [] q end =
    (end.next ≡ []) × Follows end.world (close wakes c [] all q) × NoneWaits (close wakes c [] all q)
Closing c all codes (f ∷ rest) q end =
    (end.next ≡ op.User (user_op.Drop f) ∷ (closing_ops rest end.world.waking ++ ending))
    × IsClosing end.world rest all codes (gone_of f q)

module _ (p : ℕ) (end : Done) (rests : is_resting end.next ≡ true) (c : Choice) (all : List ℕ) (codes : List (Code Output Waker)) where
  pub goes_close : (fs : List ℕ) (w : World) (q : Plain Output Waker) → IsClosing w fs all codes q
      → WayOf HasIn p end w (closing_ops fs w.waking ++ ending) → Closing c all codes fs q end
  goes_close [] w q is way =
      let whole : w.waking ≡ all = sym (is.parts ∙ append-nil w.waking) in
      let follows : Follows w (record q { inside = Close [] all ∷ q.inside }) =
      subst (λ codes. Follows w (record q { inside = Close [] all ∷ codes })) (sym is.inside)
      (subst (λ t. Follows (record w { table = t }) (record q { inside = Close [] all ∷ codes })) (sym is.table) is.follows) in
      let r =
      closes_all p end rests c all w q follows (ap (λ codes. waking_in codes) is.inside ∙ is.nowhere) is.nobody is.opened is.table
      is.unkept is.among_them (subst (λ ws. WayOf HasIn p end w (closing_ops [] ws ++ ending)) whole way) in (
        r.0,
        r.1,
        subst (λ z. NoneWaits (swept wakes c z)) (sym (each_freed c all q is.nobody))
            (swept_none c (each all freed_so q) (each_waits all q is.among_them)),
      )
  goes_close (f ∷ rest) w q is way =
      let e = event.Dropped p f in
      let waking : List ℕ = w.waking ++ f ∷ [] in
      let out : List Bool = slice_set w.inside f false in
      let w1 : World = log (record w { leaving = rest; waking = waking; inside = out }) e in
      let os = op.User (user_op.Drop f) ∷ (closing_ops rest waking ++ ending) in
      let step = next_of HasIn p end rests (op.Closing closing_op.DropNext) w ending refl way in
      let at : f < length w.tasks = step.has f rest is.leaving in
      let now : WayOf HasIn p end w1 os =
      subst (λ fs. WayOf HasIn p end (drop_next_by p w fs).world ((drop_next_by p w fs).next ++ ending)) is.leaving step.way in
      let stop : done w1 os ≡ end = sym (idles p now.hints os w1 refl) ∙ now.is in
      let parts : all ≡ waking ++ rest = is.parts ∙ sym (append_assoc w.waking (f ∷ []) rest) in
      let here : List (Code Output Waker) = Close (f ∷ rest) all ∷ codes in
      let there : List (Code Output Waker) = Close rest all ∷ codes in
      let w0 : World = record w { table = f ∷ rest } in
      let m = marks f w0 (record q { inside = here }) is.follows at in
      let first : Follows (record w { table = rest }) (marked f (record q { inside = here })) =
      subst
      (λ b. Follows (record w { table = elim b [ true ↦ rest | false ↦ f ∷ without f rest ] }) (marked f (record q { inside = here })))
      (equal f f refl) m.follows in
      let woken : waking ≡ waking_in there =
      sym (ap (λ (all : List ℕ). take (length all - length rest) all) parts ∙ take_front waking rest) in
      let second =
      closing_so w.gone rest waking out there (record w { table = rest }) (marked f (record q { inside = here })) first woken in
      let third : Follows (record w1 { table = rest }) (see (Drops f) (record (marked f q) { inside = there })) =
      subst (λ z. Follows (record w1 { table = rest }) (see (Drops f) z)) (marked_in f q here there)
      (sees (record w { table = rest; leaving = rest; waking = waking; inside = out })
      (record (marked f (record q { inside = here })) { inside = there }) second e (Drops f) refl) in
      subst (λ (d : Done). Closing c all codes (f ∷ rest) q d) stop (
        refl,
        record {
          leaving = refl;
          table = is.table;
          parts = parts;
          inside = marked_by f q (λ q. q.inside) (λ fs. refl) ∙ is.inside;
          follows = third;
          nowhere = is.nowhere;
          nobody = marked_by f q (λ q. q.lying) (λ fs. refl) ∙ is.nobody;
          opened = is.opened;
          unkept = is.unkept;
          among_them = λ g waits. is.among_them g (sym (ap waits_for (marked_task f q g)) ∙ waits);
        },
      )

-- a machine of any kind
abbrev pub IsAny : Machine → Type 0
IsAny s = Unit {0}

pub walks : Walks HasIn IsAny
walks = record {
  easy = record { ends = λ w r held os. tt; outside = λ w x os. tt };
  gives = of_top HasIn IsAny (λ s p reached there any o is. has_in s p reached there o is);
  back = λ ts s new reached made any. tt;
}

module _ (p : ℕ) (new : Machine) (last : Reached new) (quiet : IsQuiet new.world.trace) (c : Choice) (all : List ℕ)
    (codes : List (Code Output Waker)) where
  abbrev Result : Plain Output Waker → Type 0
  Result r = (z : Plain Output Waker) × Ended r z × (z.inside ≡ codes) × Follows new.world z × NoneWaits z

  from_close : (fs : List ℕ) (q : Plain Output Waker) → q.inside ≡ codes → Rests p (λ e. Closing c all codes fs q e) new
      → Result (close wakes c fs all q)
  from_close [] q same (Whole so) = (close wakes c [] all q, over (close wakes c [] all q), swept_inside c all q ∙ same, so.1, so.2)
  from_close [] q same (Inside x) = let none : x.first ∷ x.rest ≡ [] = x.so.0 in absurd cc
  from_close (f ∷ rest) q same (Whole so) =
      let none : [] ≡ op.User (user_op.Drop f) ∷ (closing_ops rest new.world.waking ++ ending) = so.0 in absurd cc
  from_close (f ∷ rest) q same (Inside x) =
      let m = x.machine in
      let os = closing_ops rest m.world.waking ++ ending in
      let both = cons_is x.first (op.User (user_op.Drop f)) x.rest os x.so.0 in
      let q1 : Plain Output Waker = gone_of f q in
      let R : Done → Type 0 = λ e. Closing c all codes (f ∷ rest) q e in
      let S : Done → Type 0 = λ e. Closing c all codes rest q1 e in
      let leads : LeadsSoOf HasIn p (done m.world os) S =
      λ hints has rests.
      goes_close p (alone p hints (done m.world os)) rests c all codes rest m.world q1 x.so.1
      (record { hints = hints; has = has; is = refl }) in
      let now : LeadsSoOf HasIn p (done (react p x.first x.end m.world).world ((react p x.first x.end m.world).next ++ x.rest)) S =
      subst (λ o. LeadsSoOf HasIn p (done (react p o x.end m.world).world ((react p o x.end m.world).next ++ x.rest)) S) (sym both.0)
      (subst (λ os. LeadsSoOf HasIn p (done m.world os) S) (sym both.1) leads) in
      let r = from_close rest q1 x.so.1.inside (goes_on_of HasIn IsAny walks p R S new tt last quiet x now) in
      let y : Plain Output Waker = close wakes c (f ∷ rest) all q in
      let few : length y.lying ≤ c.tells = subst (λ ls. length ls ≤ c.tells) (sym x.so.1.nobody) (least c.tells) in
      (r.0, ends_with c Ends y r.0 refl few r.1, r.2, r.3, r.4)
    where
      least : (n : ℕ) → 0 ≤ n
      least n = omega arith

-- where the call rests first
pub drop_leads_so : (s : Machine) → Reached s → (q : Plain Output Waker) → IsQuiet s.world.trace → Follows s.world q → (p : ℕ) (c : Choice)
    → q.inside ≡ [] → begin_refusal s.world s.parties (top (stack s p)) call.DropExecutor ≡ None
    → LeadsSoOf HasIn p (upon [] (begins p None call.DropExecutor s.world)) (λ e. Closing c s.world.table q.inside s.world.table q e)
drop_leads_so s reached q quiet follows p c none may =
    let w = s.world in
    let free = may_drop w s.parties (top (stack s p)) may in
    let all = w.table in
    let begun = log w (event.CallBegun p call.DropExecutor) in
    let w0 = log (record begun { gone = true }) (event.DropBegun p) in
    let w1 : World = record w0 { table = w0.leaving; leaving = w0.table } in
    let codes : List (Code Output Waker) = Close all all ∷ q.inside in
    let nowhere : waking_in q.inside ≡ [] = ap (λ codes. waking_in codes) none in
    let unwoken : w.waking ≡ [] = follows.waking ∙ nowhere in
    let first : Follows (record w1 { table = all }) (record q { inside = codes }) =
    logs (record begun { gone = true; leaving = w.table }) (record q { inside = codes })
    (closing_so true w.table w.waking w.inside codes begun q (logs w q follows (event.CallBegun p call.DropExecutor) refl)
    (unwoken ∙ sym (take_front [] all))) (event.DropBegun p) refl in
    let starts : IsClosing w1 all all q.inside q =
    record {
      leaving = refl;
      table = nothing_leaves s reached quiet free;
      parts = sym (ap (λ ws. ws ++ all) unwoken);
      inside = refl;
      follows = first;
      nowhere = nowhere;
      nobody = nobody_lies s reached quiet free q follows;
      opened = both_open s reached quiet free;
      unkept = nothing_kept s reached quiet free;
      among_them = waiting_entered s reached quiet free q follows;
    } in
    λ hints has rests.
    let end = alone p hints (done w0 (op.Closing closing_op.TakeOut ∷ ending)) in
    let step =
    next_of HasIn p end rests (op.Closing closing_op.TakeOut) w0 ending refl (record { hints = hints; has = has; is = refl }) in
    goes_close p end rests c all q.inside all w1 q starts step.way

pub drop_rests_so : (s : Machine) → Reached s → (q : Plain Output Waker) → IsQuiet s.world.trace → Follows s.world q → (p : ℕ) (c : Choice)
    (steps : List Step) → q.inside ≡ [] → (new : Machine) → IsLoneCall p call.DropExecutor steps s new
    → Rests p (λ e. Closing c s.world.table q.inside s.world.table q e) new
drop_rests_so s reached q quiet follows p c steps none new lone =
    lone_calls_rest_of HasIn IsAny walks s reached p call.DropExecutor steps new (λ e. Closing c s.world.table q.inside s.world.table q e)
    quiet tt
    (drop_leads_so s reached q quiet follows p c none
    (may_begin s p call.DropExecutor (run-first (Begin p call.DropExecutor) steps s new lone.made).0))
    lone

pub drop_ends_so : (s : Machine) → Reached s → (q : Plain Output Waker) → IsQuiet s.world.trace → Follows s.world q → LoneDropEnds s q
drop_ends_so s reached q quiet follows p c steps none new lone =
    let all = s.world.table in
    let r =
    from_close p new (reached-more (Begin p call.DropExecutor ∷ steps) s new reached lone.made) lone.ended c all q.inside all q refl
    (drop_rests_so s reached q quiet follows p c steps none new lone) in
    (r.0, subst (λ fs. Ended (close wakes c fs fs q) r.0) follows.table r.1, r.2, r.3, r.4)

pub lone_drop_ends : EachLoneAlike LoneDropEnds
lone_drop_ends = each_alike LoneDropEnds drop_ends_so
