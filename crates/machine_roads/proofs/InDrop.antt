-- In the drop of a future in the executor's drop calls of wakers and handles leave both alike, and the executor's drop goes on behind it.
use Rattle.std.proofs.Common.{◌≡◌, ℕ, ◌<◌, ◌≤◌, ◌==◌, ◌++◌, Bool, true, false, List, [], ◌∷◌, length, Option, Some, None}
use Rattle.std.proofs.Common.{is_some, refl, sym, ap, subst, ◌∙◌, arith, get_or-set_same, get_or-set_other}
use Rattle.executor_parts.specs.declared.mark.Mark.{Mark}
use Rattle.task_moves.specs.declared.moves.state.State.{State}
use Rattle.executor_model.specs.declared.call.Call.{Call}
use Rattle.executor_model.specs.declared.call.Call.TheVariants as call
use Rattle.executor_model.specs.declared.call.Reply.TheVariants as reply
use Rattle.executor_model.specs.declared.op.Hold.TheVariants as hold
use Rattle.executor_model.specs.declared.op.Op.{Op}
use Rattle.executor_model.specs.declared.op.Op.TheVariants as op
use Rattle.executor_model.specs.declared.op.UserOp.TheVariants as user_op
use Rattle.executor_model.specs.declared.op.Waker.{Waker}
use Rattle.executor_model.specs.declared.step.Hint.{Hint}
use Rattle.executor_model.specs.Acts.{closing_ops}
use Rattle.executor_model.specs.declared.kind.Kind.TheVariants.{Owned}
use Rattle.executor_model.specs.Steps.{Machine, is_on_executor, start, waker_of}
use Rattle.executor_model.specs.World.{Done, World, among, blank, done, own_of, put, queue_of}
use Rattle.executor_model.specs.World as world
use Rattle.plain_scheduler.specs.State.{Choice, Close, Code, Lose, Plain, Refusal}
use Rattle.plain_scheduler.specs.Moves.{task, tell}
use Rattle.plain_scheduler.specs.Calls as plain
use Rattle.plain_scheduler.specs.Calls.{close, does, innermost, DropExecutor, Ends}
use Rattle.machine_roads.specs.View.{Output, wakes}
use Rattle.machine_roads.specs.Road.{Follows, waking_in}
use Rattle.machine_roads.specs.Alone.{alone, is_resting, HasAll}
use Rattle.machine_roads.specs.Alike.{begins, refuses_first, refuses_second, upon}
use Rattle.machine_roads.specs.Losing.{IsLosing, StopsLosing, left_of, lost, without_handle}
use Rattle.machine_roads.specs.Lone.{EachLoneAlike, waits_for}
use Rattle.machine_roads.specs.Course.{IsCall, cancel, copy, detach, drop_handle, poll_handle, release, use_waker, wake}
use Rattle.machine_roads.specs.Closing.{CallsInDrop, ComesOn, DropGoesOn, IsInDropBelow, IsLosingInDropBelow, LoneDropRests, LosesInDrop}
use Rattle.machine_roads.specs.InLoss.{handle_in}
use Rattle.machine_roads.specs.Closing.{LossEndsInDrop}
use Rattle.machine_roads.specs.Closing.{called, loses}
use Rattle.machine_roads.proofs.Beside.{Along, along, calls_beside, rest_goes, go_append}
use Rattle.machine_roads.proofs.Calling.{cancels, copies_kept, detaches, handle_goes, uses_alike, waker_goes, wakes_kept}
use Rattle.machine_roads.proofs.CallsBehind.{none_past}
use Rattle.machine_roads.proofs.Cancelling.{cancel_output}
use Rattle.machine_roads.proofs.Exchanging.{loudly}
use Rattle.machine_roads.proofs.Inside.{cancel_inside, copy_inside, detach_inside, ends_inside, handle_inside, poll_inside}
use Rattle.machine_roads.proofs.Inside.{release_inside, use_inside, wake_inside}
use Rattle.machine_roads.proofs.Lists.{Before, Last, Past, Where, apart_of, clash, length_set, same_of, where_is}
use Rattle.machine_roads.proofs.LoneCalls.{each}
use Rattle.machine_roads.proofs.LoneCloses.{Closing, IsClosing, drop_rests_so, gone_of, goes_close, swept_inside}
use Rattle.machine_roads.proofs.LoneRuns.{Inside, Rests, Whole}
use Rattle.machine_roads.proofs.LoneTakes.{first_rest}
use Rattle.machine_roads.proofs.Losing.{detaches_to_lose, goes_to_lose, loses_alike}
use Rattle.machine_roads.proofs.OneCall.{granted_as, refused_as}
use Rattle.machine_roads.proofs.PollCalls.{polls}
use Rattle.machine_roads.proofs.Tableless.{OnlyWait, beside, beside_done, put_only}
use Rattle.machine_roads.proofs.Unseen.{stands_in}
use Rattle.machine_roads.proofs.Waits.{waits_in}

none_there : (o : Option Output) → is_some o ≡ false → o ≡ None
none_there None is = refl
none_there (Some v) is = absurd cc

no_more : {B : Type 0} (xs : List B) → length xs ≡ 0 → xs ≡ []
no_more [] is = refl
no_more (x ∷ xs) is = absurd cc

least : (n : ℕ) → 0 ≤ n
least n = omega arith

cancelled_output : (d : Choice) (f : ℕ) (q : Plain Output Waker) → (task f (plain.cancel wakes d f q)).output ≡ (task f q).output
cancelled_output d f q =
    cancel_output (tell wakes d)
    (loudly 0 (done (start 0 Owned 0).world []) refl d).outputs f q

-- the code in which calls stand is as before
pub stays_inside : (w : World) (c : Call) (x : plain.Call Output Waker) (d : Choice) (q : Plain Output Waker) → is_on_executor c ≡ false
    → IsCall w c x → loses x q ≡ false → (does wakes d x q).inside ≡ q.inside
stays_inside w c x d q off (use_waker k f is) stays = use_inside d q f
stays_inside w c x d q off (wake k f is) stays = wake_inside d q f
stays_inside w c x d q off (copy k f is) stays = copy_inside d q f
stays_inside w c x d q off (release k f is) stays = release_inside d q f
stays_inside w c x d q off (poll_handle f b) stays = poll_inside d q f (waker_of None b)
stays_inside w c x d q off (cancel f) stays = cancel_inside d q f
stays_inside w c x d q off (detach f) stays = detach_inside d q f None (none_there (task f q).output stays)
stays_inside w c x d q off (drop_handle f) stays =
    handle_inside d q f None (cancelled_output d f q ∙ none_there (task f q).output stays)
stays_inside w c x d q off is stays = absurd cc

-- where both stand alike but for the table, they do so behind the call
module _ (p : ℕ) (below : List Op) (under : is_resting below ≡ true) (w : World) (fs : List ℕ) (q : Plain Output Waker)
    (follows : Follows (record w { table = fs }) q) (d : Choice) (many : length q.lying ≤ d.tells) where
  abbrev v : World
  v = record w { table = fs }

  pub call_so : (c : Call) (x : plain.Call Output Waker) → is_on_executor c ≡ false → IsCall w c x → loses x q ≡ false → (hints : List Hint)
      → HasAll p hints (upon below (begins p None c v)) → is_resting (called p hints below c v).next ≡ true
      → (r : Refusal) × ((called p hints below c v).next ≡ below)
      × Follows (called p hints below c v).world (does wakes (record d { refusal = r }) x q)
  call_so c x off (use_waker k f is) stays hints has rests =
      let e = uses_alike p below under None v q follows d k f is many hints tt has rests in (d.refusal, e.0, e.1)
  call_so c x off (wake k f is) stays hints has rests =
      let e = wakes_kept p below under None v q follows d k f is many hints tt has rests in (d.refusal, e.0, e.1)
  call_so c x off (copy k f is) stays hints has rests =
      let b = refuses_first hints (world.task v f) in
      let e = copies_kept p below under None v q follows (record d { refusal = refused_as b }) k f is hints (granted_as b) has rests in
      (refused_as b, e.0, e.1)
  call_so c x off (release k f is) stays hints has rests =
      let e = waker_goes p below under None v q follows d k f is many hints tt has rests in (d.refusal, e.0, e.1)
  call_so c x off (poll_handle f b) stays hints has rests =
      let n = refuses_second hints v (waker_of None b) in
      let e =
      polls p None below v q under follows (record d { refusal = refused_as n }) f b many hints (λ waits. granted_as n) has rests in
      (refused_as n, e.0, e.1)
  call_so c x off (cancel f) stays hints has rests =
      let e = cancels p below under None v q follows d f many hints tt has rests in (d.refusal, e.0, e.1)
  call_so c x off (detach f) stays hints has rests =
      let e = detaches p below under None v q follows d f (none_there (task f q).output stays) many hints tt has rests in
      (d.refusal, e.0, e.1)
  call_so c x off (drop_handle f) stays hints has rests =
      let e = handle_goes p below under None v q follows d f (none_there (task f q).output stays) many hints tt has rests in
      (d.refusal, e.0, e.1)
  call_so c x off is stays hints has rests = absurd cc

  pub lose_of : (c : Call) (x : plain.Call Output Waker) → is_on_executor c ≡ false → IsCall w c x → loses x q ≡ true → (hints : List Hint)
      → HasAll p hints (upon below (begins p None c v)) → is_resting (called p hints below c v).next ≡ true
      → (f : ℕ) × (handle_in c ≡ Some f) × StopsLosing f below q (called p hints below c v) (does wakes d x q)
  lose_of c x off (detach f) some hints has rests =
      (f, refl, detaches_to_lose p None below v q under follows d f some hints has rests)
  lose_of c x off (drop_handle f) some hints has rests =
      (f, refl, goes_to_lose p None below v q under follows d f some hints has rests)
  lose_of c x off is some hints has rests = absurd cc

  pub lose_so : (c : Call) (x : plain.Call Output Waker) → is_on_executor c ≡ false → IsCall w c x → loses x q ≡ true → (hints : List Hint)
      → HasAll p hints (upon below (begins p None c v)) → is_resting (called p hints below c v).next ≡ true
      → (f : ℕ) × StopsLosing f below q (called p hints below c v) (does wakes d x q)
  lose_so c x off is some hints has rests = let so = lose_of c x off is some hints has rests in (so.0, so.2)

module _ (over : List (Code Output Waker)) (fs all : List ℕ) (codes : List (Code Output Waker)) where
  abbrev Among : ℕ → Bool
  Among f = among f all

  abbrev Only : World → Type 0
  Only w = OnlyWait Among fs fs [] w

  only_in : (w : World) (q : Plain Output Waker) → IsInDropBelow over w fs all codes q → Only w
  only_in w q is f at waits = is.waiting f (ap waits_for (is.follows.tasks f at) ∙ waits)

  -- both stand in the drop still
  after_call : (w v : World) (q z : Plain Output Waker) → IsInDropBelow over w fs all codes q → v.table ≡ w.table → v.leaving ≡ w.leaving
      → v.own ≡ w.own → ((m : Mark) → (queue_of v m).closed ≡ (queue_of w m).closed) → v.sleepers.count ≡ w.sleepers.count
      → Only v → z.inside ≡ q.inside → Follows (record v { table = fs; leaving = w.leaving; own = w.own }) z
      → IsInDropBelow over v fs all codes z
  after_call w v q z is table leaving own shut count only inside road = record {
    table = table ∙ is.table;
    leaving = leaving ∙ is.leaving;
    parts =
        is.parts
        ∙ ap (λ ws. ws ++ fs) (is.follows.waking ∙ (ap (λ codes. waking_in codes) (sym inside) ∙ sym follows.waking));
    inside = inside ∙ is.inside;
    nowhere = is.nowhere;
    follows = follows;
    nobody = no_more z.lying (sym follows.count ∙ (count ∙ (is.follows.count ∙ ap length is.nobody)));
    opened = λ m. shut m ∙ is.opened m;
    unkept = λ r. ap (λ own. own_of (record w { own = own }) r) own ∙ is.unkept r;
    waiting = λ f waits. by f waits (where_is (length v.tasks) f);
  }
    where
      follows : Follows (record v { table = fs }) z
      follows =
          subst (λ own. Follows (record v { table = fs; own = own }) z) (sym own)
          (subst (λ l. Follows (record v { table = fs; leaving = l; own = w.own }) z) (sym leaving) road)

      by : (f : ℕ) → waits_for (task f z) ≡ true → Where (length v.tasks) f → among f all ≡ true
      by f waits (Before at) = only f at (sym (ap waits_for (follows.tasks f at)) ∙ waits)
      by f waits (Last is) = absurd (clash (none_past (record v { table = fs }) z follows f (omega (arith, is))) waits)
      by f waits (Past above) = absurd (clash (none_past (record v { table = fs }) z follows f (omega (arith, above))) waits)

  module _ (p : ℕ) (below : List Op) (under : is_resting below ≡ true) (w : World) (q : Plain Output Waker)
      (is : IsInDropBelow over w fs all codes q) (d : Choice) (hints : List Hint) where
    few : length q.lying ≤ d.tells
    few = subst (λ ls. length ls ≤ d.tells) (sym is.nobody) (least d.tells)

    module _ (c : Call) (x : plain.Call Output Waker) (off : is_on_executor c ≡ false) (made : IsCall w c x)
        (has : HasAll p hints (upon below (begins p None c w))) (rests : is_resting (called p hints below c w).next ≡ true) where
      abbrev e : Done
      e = called p hints below c w

      there : Along Among fs w.leaving w.own p hints w (upon below (begins p None c (record w { table = fs })))
          (upon below (begins p None c w))
      there = calls_beside Among fs w.leaving w.own p c w below hints off under (only_in w q is) has

      kept_so : e ≡ beside_done Among w.table w.leaving w.own e
      kept_so = (calls_beside Among w.table w.leaving w.own p c w below hints off under (only_in w q is) has).same

      same : called p hints below c (record w { table = fs }) ≡ beside_done Among fs w.leaving w.own e
      same = there.same

      rests_there : is_resting (called p hints below c (record w { table = fs })).next ≡ true
      rests_there = ap (λ (e : Done). is_resting e.next) same ∙ rests

      pub call_in : loses x q ≡ false
          → (r : Refusal) × (e.next ≡ below) × IsInDropBelow over e.world fs all codes (does wakes (record d { refusal = r }) x q)
      call_in stays =
          let road = call_so p below under w fs q is.follows d few c x off made stays hints there.has rests_there in
          let z : Plain Output Waker = does wakes (record d { refusal = road.0 }) x q in (
            road.0,
            sym (ap (λ (e : Done). e.next) same) ∙ road.1,
            after_call w e.world q z is (ap (λ (e : Done). e.world.table) kept_so) (ap (λ (e : Done). e.world.leaving) kept_so)
                (ap (λ (e : Done). e.world.own) kept_so) there.shut there.count there.only
                (stays_inside w c x (record d { refusal = road.0 }) q off made stays)
                (subst (λ (e : Done). Follows e.world z) same road.2),
          )

      pub lose_in : loses x q ≡ true
          → (f : ℕ) × (handle_in c ≡ Some f) × (e.next ≡ op.User (user_op.DropOutput f) ∷ (left_of f ++ below))
          × ((does wakes d x q).inside ≡ Lose None None ∷ q.inside)
          × IsLosingInDropBelow over e.world f fs all codes (record (does wakes d x q) { inside = q.inside })
      lose_in some =
          let road = lose_of p below under w fs q is.follows d few c x off made some hints there.has rests_there in
          let f : ℕ = road.0 in
          let z : Plain Output Waker = does wakes d x q in
          let stops : StopsLosing f below q (beside_done Among fs w.leaving w.own e) z =
          subst (λ (e : Done). StopsLosing f below q e z) same road.2 in
          let y : Plain Output Waker = record z { inside = q.inside } in (
            f,
            road.1,
            stops.left,
            stops.inside,
            record {
              known = stops.losing.known;
              closed = stops.losing.closed;
              left =
                  after_call w (without_handle f e.world) q y is (ap (λ (e : Done). e.world.table) kept_so)
                  (ap (λ (e : Done). e.world.leaving) kept_so) (ap (λ (e : Done). e.world.own) kept_so) there.shut there.count
                  (put_only Among fs fs [] e.world f (record (world.task e.world f) { handle = false }) there.only stops.losing.known
                  (λ is. is))
                  refl
                  (stands_in q.inside (without_handle f (beside Among fs w.leaving w.own e.world)) z stops.losing.follows
                  (sym (ap (λ codes. waking_in codes) stops.inside)));
            },
          )

pub calls_in_drop : CallsInDrop
calls_in_drop p below w fs all codes q c x d hints under is off made stays has rests =
    call_in [] fs all codes p below under w q is d hints c x off made has rests stays

pub loses_in_drop : LosesInDrop
loses_in_drop p below w fs all codes q c x d hints under is off made some has rests =
    let so = lose_in [] fs all codes p below under w q is d hints c x off made has rests some in (so.0, so.2, so.3, so.4)

-- the drop of the output ends
only_back : (over : List (Code Output Waker)) (fs all : List ℕ) (codes : List (Code Output Waker)) (f : ℕ) (w : World) → f < length w.tasks
    → Only over fs all codes (without_handle f w) → Only over fs all codes w
only_back over fs all codes f w known only g at waits = by (f == g) refl
  where
    s : State
    s = record (world.task w f) { handle = false }

    still : (g : ℕ) → g < length w.tasks → waits_in (world.task (put w f s) g) ≡ true → among g all ≡ true
    still g at = only g (subst (λ n. g < n) (sym (length_set w.tasks f s)) at)

    by : (b : Bool) → (f == g) ≡ b → among g all ≡ true
    by true same =
        subst (λ g. waits_in (world.task w g) ≡ true → among g all ≡ true) (same_of f g same)
        (λ waits. still f known (ap waits_in (get_or-set_same w.tasks f s blank known) ∙ waits)) waits
    by false apart =
        still g at (ap waits_in (get_or-set_other w.tasks f g s blank (λ same. apart_of f g apart (sym same))) ∙ waits)

pub loss_ends_below : (over : List (Code Output Waker)) (p f : ℕ) (below : List Op) (w : World) (fs all : List ℕ)
    (codes : List (Code Output Waker)) (q : Plain Output Waker) (d : Choice) (hints : List Hint) → is_resting below ≡ true
    → IsLosingInDropBelow over w f fs all codes q → HasAll p hints (upon below (lost p f w))
    → is_resting (alone p hints (upon below (lost p f w))).next ≡ true
    → ((alone p hints (upon below (lost p f w))).next ≡ below)
    × IsInDropBelow over (alone p hints (upon below (lost p f w))).world fs all codes
    (does wakes d Ends (record q { inside = Lose None None ∷ q.inside }))
loss_ends_below over p f below w fs all codes q d hints under is has rests =
    let w1 = without_handle f w in
    let os = left_of f ++ below in
    let v : World = record w { table = fs } in
    let only = only_back over fs all codes f w is.known (only_in over fs all codes w1 q is.left) in
    let goes = go_append (left_of f) below refl (rest_goes below under) in
    let there : Along (Among over fs all codes) fs w.leaving w.own p hints w (done v os) (done w os) =
    along (Among over fs all codes) fs w.leaving w.own p hints w os only goes has in
    let e : Done = alone p hints (done w os) in
    let kept_so : e ≡ beside_done (Among over fs all codes) w.table w.leaving w.own e =
    (along (Among over fs all codes) w.table w.leaving w.own p hints w os only goes has).same in
    let losing : IsLosing v f q = record { known = is.known; closed = is.closed; follows = is.left.follows } in
    let y : Plain Output Waker = record q { inside = Lose None None ∷ q.inside } in
    let z : Plain Output Waker = does wakes d Ends y in
    let road =
    loses_alike p f below v q d under losing hints tt there.has (ap (λ (e : Done). is_resting e.next) there.same ∙ rests) in (
      sym (ap (λ (e : Done). e.next) there.same) ∙ road.0,
      after_call over fs all codes w1 e.world q z is.left (ap (λ (e : Done). e.world.table) kept_so)
          (ap (λ (e : Done). e.world.leaving) kept_so) (ap (λ (e : Done). e.world.own) kept_so) there.shut there.count there.only
          (ends_inside d y q.inside refl) (subst (λ (e : Done). Follows e.world z) there.same road.1),
    )

pub loss_ends_in_drop : LossEndsInDrop
loss_ends_in_drop p f below w fs all codes q d hints under is has rests =
    loss_ends_below [] p f below w fs all codes q d hints under is has rests

-- it has come on so
pub comes_on : (d : Choice) (all : List ℕ) (codes : List (Code Output Waker)) (fs : List ℕ) (q : Plain Output Waker) (e : Done)
    → q.inside ≡ codes → Closing d all codes fs q e → ComesOn fs all codes (close wakes d fs all q) e
comes_on d all codes [] q e inside so = (so.0, swept_inside d all q ∙ inside, so.1, so.2)
comes_on d all codes (f ∷ rest) q e inside so = (
  so.0,
  record {
    table = so.1.table;
    leaving = so.1.leaving;
    parts = so.1.parts;
    inside = ap (λ codes. Close rest all ∷ codes) so.1.inside;
    nowhere = so.1.nowhere;
    follows =
        subst (λ codes. Follows (record e.world { table = rest }) (record (gone_of f q) { inside = Close rest all ∷ codes }))
        (sym so.1.inside) so.1.follows;
    nobody = so.1.nobody;
    opened = so.1.opened;
    unkept = so.1.unkept;
    waiting = so.1.among_them;
  },
)

-- the drop of the future ends
pub drop_goes_on : DropGoesOn
drop_goes_on p w fs all codes q d hints is has rests =
    let q1 : Plain Output Waker = record q { inside = codes } in
    let os = closing_ops fs w.waking ++ op.End reply.Done hold.Nothing ∷ [] in
    let e : Done = alone p hints (done w os) in
    let from : IsClosing w fs all codes q1 =
    record {
      leaving = is.leaving;
      table = is.table;
      parts = is.parts;
      inside = refl;
      follows = subst (λ inside. Follows (record w { table = fs }) (record q { inside = inside })) is.inside is.follows;
      nowhere = is.nowhere;
      nobody = is.nobody;
      opened = is.opened;
      unkept = is.unkept;
      among_them = is.waiting;
    } in
    let ends_so : does wakes d Ends q ≡ close wakes d fs all q1 =
    ap (λ inside. (innermost wakes d inside (plain.ends wakes d) q)) is.inside in
    subst (λ z. ComesOn fs all codes z e) (sym ends_so)
    (comes_on d all codes fs q1 e refl (goes_close p e rests d all codes fs w q1 from (record { hints = hints; has = has; is = refl })))

-- a lone drop of the executor comes to the drop of the first future so
pub lone_drop_rests : EachLoneAlike LoneDropRests
lone_drop_rests = each LoneDropRests (λ s reached q quiet follows p c steps none new lone.
    let fs = s.world.table in
    let R : Done → Type 0 = λ e. ComesOn fs fs q.inside (does wakes c DropExecutor q) e in
    first_rest s new reached p call.DropExecutor steps R lone
    (rests_as p (λ e. Closing c fs q.inside fs q e) R new
    (λ e so. subst (λ all. ComesOn fs fs q.inside (close wakes c all all q) e) follows.table (comes_on c fs q.inside fs q e refl so))
    (drop_rests_so s reached q quiet follows p c steps none new lone)))
  where
    rests_as : (p : ℕ) (R S : Done → Type 0) (new : Machine) → ((e : Done) → R e → S e) → Rests p R new → Rests p S new
    rests_as p R S new all (Whole so) = Whole (all (done new.world []) so)
    rests_as p R S new all (Inside x) = Inside (record {
      machine = x.machine;
      first = x.first;
      rest = x.rest;
      end = x.end;
      steps = x.steps;
      reached = x.reached;
      there = x.there;
      is = x.is;
      so = all (done x.machine.world (x.first ∷ x.rest)) x.so;
      accepted = x.accepted;
      made = x.made;
      follow = x.follow;
    })
