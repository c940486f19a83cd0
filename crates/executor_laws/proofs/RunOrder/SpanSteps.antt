-- For runs_take_futures_in_order.
-- One step of a party on what is on top of its stack, and steps that take no future from any queue.
use Rattle.std.proofs.Common.{◌≡◌, ◌∙◌, ⊎_elim, ℕ, ◌<◌, List, [], ◌∷◌, ◌++◌, drop, false, length, true, refl, sym, ap, arith}
use Rattle.std.proofs.Common.{append-nil, append_assoc}
use Rattle.std.proofs.Math.Seq.{drop-append_seam}
use Rattle.std.proofs.lemmas.List.{drop_all}
use Rattle.std.specs.Prelude.{None, Option, Some, reverse}
use Rattle.queue_steps.specs.ClosableQueue.{ClosableQueue, shut, taken}
use Rattle.executor_laws.proofs.Types.{Mark, Op, QueueOp, Hint, Step, Begin, Go, UserEnd}
use Rattle.executor_model.specs.{declared.step.Step.TheVariants.Answer, Doing.act, Queues.Queues, Queues.queue_in, Steps.Machine}
use Rattle.executor_model.specs.{Steps.accepts, Steps.answer_refusal, Steps.go_refusal, Steps.gone_on, Steps.onto, Steps.part_after}
use Rattle.executor_model.specs.{Steps.react, Steps.refusal, Steps.run, Steps.stack, Steps.step, Steps.stepped, Steps.top, Steps.waits}
use Rattle.executor_model.specs.{Steps.with_part, World.Done, World.World, World.own_of, World.queue_of}
use Rattle.executor_laws.specs.{KeptFirst.taken_by, LoneEnds.is_onward_of, RunOrder.TakeNothing, RunOrder.joined, RunOrder.joins}
use Rattle.executor_laws.proofs.{Promptness.Turns.below-is, Promptness.Turns.next-is, Queueings.Queueing.Turns, Queueings.Queueing.put-at}
use Rattle.executor_laws.proofs.{Queueings.Queueing.settles, Queueings.Queueing.Turns.less, Queueings.Queueing.Turns.more}
use Rattle.executor_laws.proofs.{Queueings.Queueing.Turns.same, Queueings.Queueing.Turns.shuts, Reach.LoneSteps.answers}
use Rattle.executor_laws.proofs.{Reach.LoneSteps.goes, Reach.LoneTicks.OfParty, Reach.LoneTicks.after-is, Reach.LoneTicks.of-party}
use Rattle.executor_laws.proofs.{RunReach.TakenUp.go-takes, RunReach.TakenUp.up_of}
use Rattle.executor_model.proofs.Table.Spawning.{top-last}

-- what a step puts behind what stood in one of the executor's queues

pub onto-queues : (p : ℕ) (d : Done) (below : List Op) → (onto p d below).world.queues ≡ d.world.queues
onto-queues p d below = settles p d.world (below ++ reverse d.next) _

-- nothing joins a queue that is as it was, or that the first is taken from

pub joins-none : (xs ys : List ℕ) → ys ≡ xs → drop (length xs) ys ≡ []
joins-none xs ys e = ap (drop (length xs)) e ∙ drop_all (length xs) xs (omega arith)

first-gone : (xs : List ℕ) → drop (length xs) (drop 1 xs) ≡ []
first-gone [] = refl
first-gone (x ∷ xs) = drop_all (length (x ∷ xs)) xs (omega arith)

pub nothing-joins : (m : Mark) (w : World) (o : Op) (new : Queues) → Turns w o new →
    ((f : ℕ) → o ≡ Op.Queue (QueueOp.Append f) → ⊥) → drop (length (queue_of w m).items) (queue_in m new).items ≡ []
nothing-joins m w o new (same e) k = joins-none _ _ (ap (λ (qs : Queues). (queue_in m qs).items) e)
nothing-joins m w o new (more f x c e) k = absurd (k f x)
nothing-joins m w o new (less n f rest i e) k = ⊎_elim
    (λ x. ap (λ (qs : Queues). drop (length (queue_of w m).items) (queue_in m qs).items) e
    ∙ (ap (λ (q : ClosableQueue ℕ). drop (length (queue_of w m).items) q.items) x.1
    ∙ (ap (λ (i : Mark). drop (length (queue_of w m).items) (taken (queue_of w i)).items) x.0
    ∙ first-gone (queue_of w m).items)))
    (λ x. joins-none _ _ (ap (λ (qs : Queues). (queue_in m qs).items) e ∙ ap (λ (q : ClosableQueue ℕ). q.items) x))
    (put-at m n (taken (queue_of w n)) w.queues)
nothing-joins m w o new (shuts n e) k = ⊎_elim
    (λ x. joins-none _ _ (ap (λ (qs : Queues). (queue_in m qs).items) e
    ∙ (ap (λ (q : ClosableQueue ℕ). q.items) x.1 ∙ ap (λ (i : Mark). (shut (queue_of w i)).items) x.0)))
    (λ x. joins-none _ _ (ap (λ (qs : Queues). (queue_in m qs).items) e ∙ ap (λ (q : ClosableQueue ℕ). q.items) x))
    (put-at m n (shut (queue_of w n)) w.queues)

-- the next step of party p: it does what is on top, or user code answers there
pub data OneStep (p : ℕ) (s : Machine) (below : List Op) (o : Op) (t : Step) : Type 0 where
  acted : (h : Hint) → t ≡ Go p h → waits o ≡ false →
      stepped s (step s t) ≡ with_part s p (onto p (act p h o s.world) below) → taken_by t (top (stack s p)) ≡ up_of o →
      p < length s.parties → OneStep p s below o t
  answered : (u : UserEnd) → t ≡ Answer p u → accepts o u ≡ true →
      stepped s (step s t) ≡ with_part s p (onto p (react p o u s.world) below) → taken_by t (top (stack s p)) ≡ [] →
      p < length s.parties → OneStep p s below o t

pub one-step : (p : ℕ) (s : Machine) (below : List Op) (o : Op) (t : Step) → stack s p ≡ below ++ o ∷ [] →
    is_onward_of p t ≡ true → refusal s t ≡ None → OneStep p s below o t
one-step p s below o (Begin q c) e on r = absurd (cc)
one-step p s below o (Go q h) e on r =
    let m : OfParty p s (Go q h) = of-party p s (Go q h) on r in
    let top-is : top (stack s p) ≡ Some o = ap top e ∙ top-last below o in
    let b : _ = below-is (stack s p) below o e in
    let gone : part_after s.world (stack s p) (Go q h) ≡ onto p (act p h o s.world) below =
    ap (λ (i : ℕ). part_after s.world (stack s p) (Go i h)) m.0
    ∙ (ap (λ (x : Option Op). gone_on p s.world (stack s p) x (λ v. act p h v s.world)) top-is
    ∙ ap (onto p (act p h o s.world)) b) in
    acted h (ap (λ (i : ℕ). Go i h) m.0) (goes s.world o (sym (ap (go_refusal s.world) top-is) ∙ m.2))
    (next-is s (Go q h) r ∙ (after-is p s (Go q h) m.0 ∙ ap (with_part s p) gone))
    (ap (taken_by (Go q h)) top-is ∙ go-takes q h o) m.1
one-step p s below o (Answer q u) e on r =
    let m : OfParty p s (Answer q u) = of-party p s (Answer q u) on r in
    let top-is : top (stack s p) ≡ Some o = ap top e ∙ top-last below o in
    let b : _ = below-is (stack s p) below o e in
    let gone : part_after s.world (stack s p) (Answer q u) ≡ onto p (react p o u s.world) below =
    ap (λ (i : ℕ). part_after s.world (stack s p) (Answer i u)) m.0
    ∙ (ap (λ (x : Option Op). gone_on p s.world (stack s p) x (λ v. react p v u s.world)) top-is
    ∙ ap (onto p (react p o u s.world)) b) in
    answered u (ap (λ (i : ℕ). Answer i u) m.0)
    (answers o u (sym (ap (λ (x : Option Op). answer_refusal x u) top-is) ∙ m.2))
    (next-is s (Answer q u) r ∙ (after-is p s (Answer q u) m.0 ∙ ap (with_part s p) gone))
    refl m.1

-- what such a step puts behind a queue
pub step-joins : (m : Mark) (p : ℕ) (s : Machine) (below : List Op) (t : Step) (d : Done) →
    stepped s (step s t) ≡ with_part s p (onto p d below) →
    joins m t s ≡ drop (length (queue_of s.world m).items) (queue_of d.world m).items
step-joins m p s below t d j =
    ap (λ (v : Machine). drop (length (queue_of s.world m).items) (queue_of v.world m).items) j
    ∙ ap (λ (qs : Queues). drop (length (queue_of s.world m).items) (queue_in m qs).items) (onto-queues p d below)

-- steps that take nothing
pub record Left (m : Mark) (ts : List Step) (s : Machine) : Type 0 where
  pub own : (q : ℕ) → own_of (run ts s).world q ≡ own_of s.world q
  pub queue : (queue_of (run ts s).world m).items ≡ (queue_of s.world m).items ++ joined m ts s

pub left-there : (m : Mark) (ts : List Step) (s : Machine) → TakeNothing ts s → Left m ts s
left-there m [] s k = record { own = λ q. refl; queue = sym (append-nil (queue_of s.world m).items) }
left-there m (t ∷ ts) s k =
    let next : Machine = stepped s (step s t) in
    let xs : List ℕ = (queue_of s.world m).items in
    let added : List ℕ = (k.0.queues m).0 in
    let is : (queue_of next.world m).items ≡ xs ++ added = (k.0.queues m).1 in
    let joins-are : joins m t s ≡ added = ap (drop (length xs)) is ∙ drop-append_seam xs added in
    let later : Left m ts next = left-there m ts next k.1 in
    record {
      own = λ q. later.own q ∙ k.0.own q;
      queue = later.queue
          ∙ (ap (λ (ns : List ℕ). ns ++ joined m ts next) (is ∙ ap (λ (ns : List ℕ). xs ++ ns) (sym joins-are))
          ∙ append_assoc xs (joins m t s) (joined m ts next));
    }
