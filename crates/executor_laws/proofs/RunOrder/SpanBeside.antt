-- For runs_take_futures_in_order.
-- The other runs' own queues stay empty, and what is done beside leaves the line as it is but for what it queues.
use Rattle.std.proofs.Common.{◌≡◌, ◌⊎◌, ◌∙◌, inl, inr, ⊎_elim, ℕ, List, [], ◌∷◌, ◌++◌, get_or}
use Rattle.std.proofs.Common.{true, false, refl, sym, ap, subst, append-nil}
use Rattle.std.specs.Prelude.{Option, Some, None, reverse}
use Rattle.std.proofs.Common.{◌≢◌, eqb, get_or-set_other}
use Rattle.executor_laws.proofs.Types.{Reply, ListOp, Op, Hint, UserEnd, Mark}
use Rattle.executor_model.specs.{Doing.act, Doing.list_act, Steps.accepts, Steps.end_of, Steps.onto, Steps.react, Steps.settled_by}
use Rattle.executor_model.specs.{Weights.weigh, World.Done, World.World, World.own_of, Queues.Queues, Queues.queue_in, Weights.same}
use Rattle.executor_model.specs.{World.put_own, World.queue_of, Steps.waits, Steps.top}
use Rattle.executor_model.proofs.{OwnQueues.RunsAside.Coat, OwnQueues.RunsDone.Deed, OwnQueues.RunsDone.deed-act, OwnQueues.RunsAside.coat}
use Rattle.executor_model.proofs.{OwnQueues.RunsAside.hull_of, Steps.Lists.same_cases}
use Rattle.executor_laws.proofs.RunReach.RunSteps.{Aside, Control, aside-act, aside-react, side_of, side-kind}
use Rattle.executor_laws.proofs.Reach.LoneMoves.{Inner, inner-act, stray_of}
use Rattle.executor_laws.proofs.Queueings.Queueing.{reacts}

-- no own queue but that of run q has anything

abbrev pub NoneBeside : ℕ → World → Type 0
NoneBeside q w = (n : ℕ) → n ≢ q → own_of w n ≡ []

pub own-same : (q : ℕ) (w v : World) → v.own ≡ w.own → NoneBeside q w → NoneBeside q v
own-same q w v e k = λ n i. ap (λ (qs : List (List ℕ)). get_or qs n []) e ∙ k n i

coat-own : (w v : World) → coat w ≡ coat v → v.own ≡ w.own
coat-own w v e = sym (ap (λ (c : Coat). (hull_of c).own) e)

put-beside : (q : ℕ) (w : World) (xs : List ℕ) → NoneBeside q w → NoneBeside q (put_own w q xs)
put-beside q w xs k = λ n i. get_or-set_other w.own q n xs [] i ∙ k n i

takes-beside : (q r f : ℕ) (rest : List ℕ) (w : World) → own_of w r ≡ f ∷ rest → NoneBeside q w → NoneBeside q (put_own w r rest)
takes-beside q r f rest w e k = ⊎_elim
    (λ (x : (same r q ≡ 1) × (eqb r q ≡ true) × (r ≡ q)).
    subst (λ (i : ℕ). NoneBeside q (put_own w i rest)) (sym x.2) (put-beside q w rest k))
    (λ (x : (same r q ≡ 0) × (eqb r q ≡ false) × (r ≢ q)).
    let no : f ∷ rest ≡ [] = sym e ∙ k r x.2 in absurd (cc))
    (same_cases r q)

list-beside : (q : ℕ) (h : Hint) (o : ListOp) (w : World) → Control q (Op.List o) → NoneBeside q w →
    NoneBeside q (list_act h o w).world
list-beside q h (ListOp.LockRead x) w e k = k
list-beside q h _ w e k = absurd e

deed-beside : (q : ℕ) (w : World) (o : Op) (d : Done) → Control q o → NoneBeside q w → Deed w o d → NoneBeside q d.world
deed-beside q w o d z k (Deed.keeps e l) = own-same q w d.world (coat-own w d.world e) k
deed-beside q w o d z k (Deed.takes r f rest i e l) =
    own-same q (put_own w r rest) d.world (coat-own (put_own w r rest) d.world e) (takes-beside q r f rest w i k)
deed-beside q w o d z k (Deed.lacks r i e l) = own-same q w d.world (coat-own w d.world e) k
deed-beside q w o d z k (Deed.shares s n i l e more) = own-same q w d.world (coat-own w d.world e) k
deed-beside q w o d z k (Deed.grows s i f e more) =
    let v : World = put_own w s.poll.run (own_of w s.poll.run ++ f ∷ []) in
    own-same q v d.world (coat-own v d.world e)
    (subst (λ (r : ℕ). NoneBeside q (put_own w r (own_of w s.poll.run ++ f ∷ []))) (sym z.0)
    (put-beside q w (own_of w s.poll.run ++ f ∷ []) k))
deed-beside q w o d z k (Deed.wakes p x e l) = own-same q w d.world (coat-own w d.world e) k
deed-beside q w o d z k (Deed.lists h l) = list-beside q h l w z k

pub beside-act : (q p : ℕ) (h : Hint) (c : Op) (w : World) → Control q c → NoneBeside q w → NoneBeside q (act p h c w).world
beside-act q p h c w z k = deed-beside q w c (act p h c w) z k (deed-act p h c w)

pub onto-own : (p : ℕ) (d : Done) (below : List Op) → (onto p d below).world.own ≡ d.world.own
onto-own p d below = by (end_of (top (below ++ reverse d.next)))
  where
    by : (o : Option Reply) → (settled_by o p d.world (below ++ reverse d.next)).world.own ≡ d.world.own
    by None = refl
    by (Some a) = refl

-- what is done beside puts these behind the queue of a mark

pub record Beside (m : Mark) (w : World) (d : Done) : Type 0 where
  pub light : weigh side_of d.next ≡ 0
  pub own : d.world.own ≡ w.own
  pub added : List ℕ
  pub queue : (queue_of d.world m).items ≡ (queue_of w m).items ++ added

pub side-act : (m : Mark) (p : ℕ) (h : Hint) (o : Op) (w : World) → waits o ≡ false → side_of o ≡ 0 → Beside m w (act p h o w)
side-act m p h o w n z = by (side-kind o z)
  where
    a : Aside w (act p h o w)
    a = aside-act p h o w n z

    by : (o ≡ Op.List ListOp.UnlockRead) ⊎ (stray_of o ≡ 0) → Beside m w (act p h o w)
    by (inl e) = record {
      light = a.light;
      own = a.own;
      added = [];
      queue = ap (λ (x : Op). (queue_of (act p h x w).world m).items) e ∙ sym (append-nil (queue_of w m).items);
    }
    by (inr x) =
        let i : Inner w (act p h o w) = inner-act p h o w n x in
        record { light = a.light; own = a.own; added = i.added m; queue = i.queue m }

pub side-react : (m : Mark) (p : ℕ) (o : Op) (u : UserEnd) (w : World) → accepts o u ≡ true → side_of o ≡ 0 →
    Beside m w (react p o u w)
side-react m p o u w n z =
    let a : Aside w (react p o u w) = aside-react p o u w n z in
    record {
      light = a.light;
      own = a.own;
      added = [];
      queue = ap (λ (qs : Queues). (queue_in m qs).items) (reacts p o u w) ∙ sym (append-nil (queue_of w m).items);
    }
