-- A steal: of a queue so many come to the run's own one as are there, but no more than have a place.
use Rattle.std.proofs.Common.{◌≡◌, ℕ, zero, suc, ◌+◌, ◌-◌, ◌/◌, ◌≤◌, ◌<◌, ◌==◌, ◌++◌, cond, nat_lt, Bool, true, false, List, [], ◌∷◌}
use Rattle.std.proofs.Common.{length, Some, count_by, drop, take, append-nil, refl, sym, ap, subst, ◌∙◌, arith}
use Rattle.std.proofs.lemmas.List.{get_or-set_other, get_or-set_same}
use Rattle.std.proofs.lemmas.Bool.Decides.{nat_tests}
use Rattle.executor_model.specs.declared.event.Event.TheVariants as event
use Rattle.executor_model.specs.declared.op.Op.{Op}
use Rattle.executor_model.specs.declared.op.Op.TheVariants as op
use Rattle.executor_model.specs.declared.op.RunPoll.{RunPoll}
use Rattle.executor_model.specs.declared.op.Source.{Source}
use Rattle.executor_model.specs.declared.op.Source.TheVariants.{Common, Own}
use Rattle.executor_model.specs.declared.op.Steal.{Steal}
use Rattle.executor_model.specs.declared.op.StealOp.TheVariants as steal_op
use Rattle.executor_model.specs.declared.op.Then.{Then}
use Rattle.executor_model.specs.declared.op.Waker.{Waker}
use Rattle.executor_model.specs.ActsOfRuns.{free_places, kept_by, own_places, share, source_of, steal_by, steal_length_by, steal_put_by}
use Rattle.executor_model.specs.ActsOfRuns.{steal_take_by, stolen, without_first}
use Rattle.executor_model.specs.World.{Done, World, own_of, put_own}
use Rattle.plain_scheduler.specs.State.{Due, Plain}
use Rattle.plain_scheduler.specs.Lists.{repeat, without}
use Rattle.plain_scheduler.specs.Moves.{is_common, is_kept}
use Rattle.machine_roads.specs.View.{Output}
use Rattle.machine_roads.specs.Road.{Follows, futures_in}
use Rattle.machine_roads.specs.Alone.{is_resting}
use Rattle.machine_roads.proofs.Adding.{with_due}
use Rattle.machine_roads.proofs.Changing.{futures_last, logs}
use Rattle.machine_roads.proofs.Due.{First, others}
use Rattle.machine_roads.proofs.Keeping.{HasPlaces, IsAway, count_is, kept_as, kept_due, one_kept}
use Rattle.machine_roads.proofs.Lain.{below_test}
use Rattle.machine_roads.proofs.Lists.{apart_of, equal, length_set, same_of, turned}
use Rattle.machine_roads.proofs.RunsGone.{takes_own}
use Rattle.machine_roads.proofs.Stepping.{Way, next}
use Rattle.machine_roads.proofs.Trying.{takes_first}

-- which due futures stand in this queue
abbrev pub class_of : Source → Due → Bool
class_of (Common m) = is_common m
class_of (Own k) = is_kept k

pub source_is : (from : Source) (w : World) (q : Plain Output Waker) → Follows w q → source_of w from ≡ futures_in (class_of from) q.due
source_is (Common m) w q follows = follows.common m
source_is (Own k) w q follows = follows.kept k

-- its first is taken
takes_source : (from : Source) (w : World) (q : Plain Output Waker) (f : ℕ) (rest : List ℕ) → Follows w q → source_of w from ≡ f ∷ rest
    → First (class_of from) q.due f rest × Follows (without_first w from rest) (with_due (without (class_of from) q.due) q)
takes_source (Common m) w q f rest follows is = takes_first m w q f rest follows is
takes_source (Own k) w q f rest follows is = takes_own k w q f rest follows is

source_runs : (from : Source) (w : World) (rest : List ℕ) → (without_first w from rest).runs ≡ w.runs
source_runs (Common m) w rest = refl
source_runs (Own k) w rest = refl

source_listed : (from : Source) (w : World) (rest : List ℕ) → (without_first w from rest).listed ≡ w.listed
source_listed (Common m) w rest = refl
source_listed (Own k) w rest = refl

source_turn : (from : Source) (w : World) (rest : List ℕ) → (without_first w from rest).urgent_turns ≡ w.urgent_turns
source_turn (Common m) w rest = refl
source_turn (Own k) w rest = refl

source_long : (from : Source) (w : World) (rest : List ℕ) → length (without_first w from rest).own ≡ length w.own
source_long (Common m) w rest = refl
source_long (Own k) w rest = length_set w.own k rest

-- one comes last in a run's own queue
keeps_last : (r f : ℕ) (d : Due) (w : World) (q : Plain Output Waker) → d.future ≡ f → Follows w q → r < length w.own
    → Follows (put_own w r (own_of w r ++ f ∷ [])) (with_due (q.due ++ record d { keeper = Some r } ∷ []) q)
keeps_last r f d w q is follows at = record {
  limit = follows.limit;
  kind = follows.kind;
  many = follows.many;
  places = follows.places;
  marked = follows.marked;
  tasks = follows.tasks;
  stored = follows.stored;
  marks = follows.marks;
  calm = follows.calm;
  table = follows.table;
  common = λ m.
      follows.common m
      ∙ sym (futures_last (is_common m) q.due (record d { keeper = Some r }) ∙ append-nil (futures_in (is_common m) q.due));
  kept = λ k. queue k (r == k) refl;
  wakers = follows.wakers;
  count = follows.count;
  flag = follows.flag;
  asleep = follows.asleep;
  numbered = follows.numbered;
  runs = follows.runs;
  waking = follows.waking;
  seen = follows.seen;
}
  where
    its_last : (k : ℕ) (b : Bool) → (k == r) ≡ b
        → futures_in (is_kept k) (q.due ++ record d { keeper = Some r } ∷ [])
        ≡ futures_in (is_kept k) q.due ++ cond b (d.future ∷ []) []
    its_last k b same =
        futures_last (is_kept k) q.due (record d { keeper = Some r })
        ∙ ap (λ b. futures_in (is_kept k) q.due ++ cond b (d.future ∷ []) []) same

    queue : (k : ℕ) (b : Bool) → (r == k) ≡ b
        → own_of (put_own w r (own_of w r ++ f ∷ [])) k ≡ futures_in (is_kept k) (q.due ++ record d { keeper = Some r } ∷ [])
    queue k true same =
        subst
        (λ k. own_of (put_own w r (own_of w r ++ f ∷ [])) k ≡ futures_in (is_kept k) (q.due ++ record d { keeper = Some r } ∷ []))
        (same_of r k same)
        (get_or-set_same w.own r (own_of w r ++ f ∷ []) [] at
        ∙ (ap (λ fs. fs ++ f ∷ []) (follows.kept r)
        ∙ (ap (λ f. futures_in (is_kept r) q.due ++ f ∷ []) (sym is) ∙ sym (its_last r true (equal r r refl)))))
    queue k false apart =
        get_or-set_other w.own r k (own_of w r ++ f ∷ []) [] (λ same. apart_of r k apart (sym same))
        ∙ (follows.kept k ∙ sym (its_last k false (turned r k apart) ∙ append-nil (futures_in (is_kept k) q.due)))

-- where a place is free
free_some : (w : World) (r : ℕ) → r < length w.own → length (own_of w r) < 512 → nat_lt 0 (free_places w r) ≡ true
free_some w r at few =
    ap (λ b. nat_lt 0 (cond b 512 0 - length (own_of w r))) (below_test r (length w.own) at) ∙ positive (length (own_of w r)) few
  where
    positive : (n : ℕ) → n < 512 → nat_lt 0 (512 - n) ≡ true
    positive n few = below_test 0 (512 - n) (omega (arith, few))

free_few : (w : World) (r : ℕ) → r < length w.own → free_places w r ≡ 512 - length (own_of w r)
free_few w r at = ap (λ b. cond b 512 0 - length (own_of w r)) (below_test r (length w.own) at)

-- who has places there is one of those with an own queue
places_there : (w : World) (r more : ℕ) → length (own_of w r) + suc more ≤ own_places w r
    → (r < length w.own) × (length (own_of w r) + suc more ≤ 512)
places_there w r more room = by (nat_lt r (length w.own)) refl room
  where
    below : (n m : ℕ) → nat_lt n m ≡ true → n < m
    below n m is = grind (arith, nat_tests)

    by : (b : Bool) → nat_lt r (length w.own) ≡ b → length (own_of w r) + suc more ≤ cond b 512 0
        → (r < length w.own) × (length (own_of w r) + suc more ≤ 512)
    by true is room = (below r (length w.own) is, room)
    by false is room = absurd (omega (arith, room))

-- a share is of those that are there, and where one is there, and a place, one is in it
share_most : (n free : ℕ) → share n free ≤ n
share_most n free = by (nat_lt ((n + 1) / 2) free) refl
  where
    by : (b : Bool) → nat_lt ((n + 1) / 2) free ≡ b → cond b ((n + 1) / 2) free ≤ n
    by true few = omega arith
    by false few = grind (arith, nat_tests)

share_none : (free : ℕ) → share 0 free ≡ 0
share_none free = zero_of (share 0 free) (share_most 0 free)
  where
    zero_of : (n : ℕ) → n ≤ 0 → n ≡ 0
    zero_of n few = omega (arith, few)

pub share_some : (n free : ℕ) → 1 ≤ n → 1 ≤ free → 1 ≤ share n free
share_some n free some places = by (nat_lt ((n + 1) / 2) free)
  where
    by : (b : Bool) → 1 ≤ cond b ((n + 1) / 2) free
    by true = omega (arith, some)
    by false = omega (arith, places)

module _ (p : ℕ) (end : Done) (rests : is_resting end.next ≡ true) (x : RunPoll) (below : List Op) (from : Source)
    (away : IsAway x.run (class_of from)) (after : Then) where
  abbrev r : ℕ
  r = x.run

  abbrev its : Steal
  its = record { poll = x; from = from; then = after }

  abbrev keep : List Due → List Due
  keep ds = kept_due r (class_of from) ds

  -- so many come: half of those that are there, as far as there are places
  abbrev pub shared : Plain Output Waker → ℕ
  shared q = share (count_by (class_of from) q.due) (512 - count_by (is_kept r) q.due)

  -- so many have come, and this is what the steal is followed by
  pub record Came (many : ℕ) (w : World) (q : Plain Output Waker) : Type 0 where
    pub world : World
    pub follows : Follows world (with_due (repeat many keep q.due) q)
    pub most : many ≤ length (futures_in (class_of from) q.due)
    pub few : HasPlaces r many q.due
    pub runs : world.runs ≡ w.runs
    pub listed : world.listed ≡ w.listed
    pub turn : world.urgent_turns ≡ w.urgent_turns
    pub long : length world.own ≡ length w.own
    pub way : Way p end (stolen after world x).world ((stolen after world x).next ++ below)

  none_come : (w : World) (q : Plain Output Waker) → Follows w q → Way p end (stolen after w x).world ((stolen after w x).next ++ below)
      → Came 0 w q
  none_come w q follows way = record {
    world = w;
    follows = follows;
    most = omega arith;
    few = λ some. absurd (omega (arith, some));
    runs = refl;
    listed = refl;
    turn = refl;
    long = refl;
    way = way;
  }

  -- it takes and puts
  takes_by : (more : ℕ)
      → ((w : World) (q : Plain Output Waker) → Follows w q → more ≤ length (futures_in (class_of from) q.due)
      → Way p end (steal_by more w its).world ((steal_by more w its).next ++ below) → Came more w q)
      → (w : World) (q : Plain Output Waker) → Follows w q → suc more ≤ length (futures_in (class_of from) q.due)
      → Way p end w (op.Steal (steal_op.Take its more) ∷ below) → Came (suc more) w q
  takes_by more goes_on w q follows there way =
      let step = next p end rests (op.Steal (steal_op.Take its more)) w below refl way in
      by (source_of w from) refl (places_there w r more step.has) step.way
    where
      by : (fs : List ℕ) → source_of w from ≡ fs → (r < length w.own) × (length (own_of w r) + suc more ≤ 512)
          → Way p end (steal_take_by fs w its more).world ((steal_take_by fs w its more).next ++ below) → Came (suc more) w q
      by [] is room way = absurd (omega (arith, there, ap length (sym (source_is from w q follows) ∙ is)))
      by (f ∷ rest) is room way =
          let t = takes_source from w q f rest follows is in
          let w0 = without_first w from rest in
          let left : List Due = without (class_of from) q.due in
          let q0 : Plain Output Waker = with_due left q in
          let at0 : r < length w0.own = subst (λ n. r < n) (sym (source_long from w rest)) room.0 in
          let mine : length (own_of w0 r) ≡ length (own_of w r) =
          ap length (t.1.kept r ∙ (others (class_of from) (is_kept r) q.due away.own ∙ sym (follows.kept r))) in
          let w1 = kept_by p w0 r f in
          let two = next p end rests (op.Steal (steal_op.Put its more f)) w0 below refl way in
          let now : Way p end (steal_by more w1 its).world ((steal_by more w1 its).next ++ below) =
          subst (λ b. Way p end (steal_put_by b p w0 its more f).world ((steal_put_by b p w0 its more f).next ++ below))
          (free_some w0 r at0 (omega (arith, mine, room.1))) two.way in
          let free : count_by (is_kept r) q.due < 512 =
          omega (arith, room.1, ap length (follows.kept r), count_is (is_kept r) q.due) in
          let here : futures_in (class_of from) q.due ≡ f ∷ rest = sym (source_is from w q follows) ∙ is in
          let es : List Due = keep q.due in
          let follows1 : Follows w1 (with_due es q) =
          subst (λ ds. Follows w1 (with_due ds q)) (sym (kept_as r (class_of from) away q.due f rest t.0 free))
          (logs (put_own w0 r (own_of w0 r ++ f ∷ []))
          (with_due (left ++ record t.0.due_one { keeper = Some r } ∷ []) q)
          (keeps_last r f t.0.due_one w0 q0 t.0.is t.1 at0) (event.Kept p f r) refl) in
          let one = one_kept r (class_of from) away q.due f rest here free in
          let come : length (futures_in (is_kept r) es) ≡ length (futures_in (is_kept r) q.due ++ f ∷ []) =
          ap length (one.come ∙ ap (λ fs. futures_in (is_kept r) q.due ++ take 1 fs) here) in
          let gone : length (futures_in (class_of from) es) ≡ length rest = ap length (one.left ∙ ap (drop 1) here) in
          let long = longer (futures_in (is_kept r) q.due) f in
          let rest_of = goes_on w1 (with_due es q) follows1 (omega (arith, there, gone, ap length here)) now in
          record {
            world = rest_of.world;
            follows = rest_of.follows;
            most = there;
            few = λ some. places more rest_of.few come long free;
            runs = rest_of.runs ∙ source_runs from w rest;
            listed = rest_of.listed ∙ source_listed from w rest;
            turn = rest_of.turn ∙ source_turn from w rest;
            long = rest_of.long ∙ (length_set w0.own r (own_of w0 r ++ f ∷ []) ∙ source_long from w rest);
            way = rest_of.way;
          }
        where
          longer : (xs : List ℕ) (f : ℕ) → length (xs ++ f ∷ []) ≡ length xs + 1
          longer [] f = omega arith
          longer (x ∷ xs) f = omega (arith, longer xs f)

          places : (many : ℕ) → HasPlaces r many (keep q.due)
              → length (futures_in (is_kept r) (keep q.due)) ≡ length (futures_in (is_kept r) q.due ++ f ∷ [])
              → length (futures_in (is_kept r) q.due ++ f ∷ []) ≡ length (futures_in (is_kept r) q.due) + 1
              → count_by (is_kept r) q.due < 512 → length (futures_in (is_kept r) q.due) + suc many ≤ 512
          places zero few come long free = omega (arith, free, count_is (is_kept r) q.due)
          places (suc many) few come long free = omega (arith, few (omega arith), come, long)

  takes : (more : ℕ) (w : World) (q : Plain Output Waker) → Follows w q → suc more ≤ length (futures_in (class_of from) q.due)
      → Way p end w (op.Steal (steal_op.Take its more) ∷ below) → Came (suc more) w q
  takes zero w q follows there way = takes_by zero (λ w1 q1 follows some way. none_come w1 q1 follows way) w q follows there way
  takes (suc more) w q follows there way =
      takes_by (suc more) (λ w1 q1 follows some way. takes more w1 q1 follows some way) w q follows there way

  -- from its beginning
  pub steals : (w : World) (q : Plain Output Waker) → Follows w q → Way p end w (op.Steal (steal_op.Length its) ∷ below)
      → Came (shared q) w q
  steals w q follows way =
      let step = next p end rests (op.Steal (steal_op.Length its)) w below refl way in
      by (length (source_of w from)) refl step.has step.way
    where
      there : length (source_of w from) ≡ count_by (class_of from) q.due
      there = ap length (source_is from w q follows) ∙ sym (count_is (class_of from) q.due)

      came : (many k : ℕ) → share (suc k) (free_places w r) ≡ many → length (source_of w from) ≡ suc k
          → Way p end (steal_by many w its).world ((steal_by many w its).next ++ below) → Came many w q
      came zero k is long way = none_come w q follows way
      came (suc more) k is long way =
          takes more w q follows
          (omega (arith, is, share_most (suc k) (free_places w r), long, ap length (source_is from w q follows))) way

      by : (n : ℕ) → length (source_of w from) ≡ n → r < length w.own
          → Way p end (steal_length_by n w its).world ((steal_length_by n w its).next ++ below) → Came (shared q) w q
      by zero is at way =
          subst (λ n. Came n w q)
          (sym (ap (λ n. share n (512 - count_by (is_kept r) q.due)) (sym there ∙ is) ∙ share_none (512 - count_by (is_kept r) q.due)))
          (none_come w q follows way)
      by (suc n) is at way =
          let free : free_places w r ≡ 512 - count_by (is_kept r) q.due =
          free_few w r at ∙ ap (λ n. 512 - n) (ap length (follows.kept r) ∙ sym (count_is (is_kept r) q.due)) in
          subst (λ n. Came n w q)
          (ap (λ free. share (suc n) free) free ∙ ap (λ n. share n (512 - count_by (is_kept r) q.due)) (sym is ∙ there))
          (came (share (suc n) (free_places w r)) n refl is
          (next p end rests (op.Steal (steal_op.OwnLength its (suc n))) w below refl way).way)
