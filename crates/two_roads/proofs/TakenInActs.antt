-- A run of the step machine takes what the plain scheduler's takes, in order.
use Rattle.std.proofs.Common.{◌≡◌, ℕ, ◌<◌, ◌==◌, ◌&&◌, nat_lt, cond, Bool, true, false, List, [], ◌∷◌, ◌++◌, length, map, filter, not}
use Rattle.std.proofs.Common.{drop, is_some, slice_get, refl, sym, ap, subst, ◌∙◌}
use Rattle.executor_parts.specs.declared.mark.Mark.{Mark}
use Rattle.executor_parts.specs.declared.mark.Mark.TheVariants.{Plain as PlainMark}
use Rattle.executor_parts.specs.Marks.{same_mark}
use Rattle.executor_model.specs.declared.kind.Kind.{Kind}
use Rattle.executor_model.specs.declared.op.Waker.{Waker}
use Rattle.executor_model.specs.Steps.{Machine, is_static_kind, start}
use Rattle.executor_model.specs.World.{World, mark_of, own_of}
use Rattle.plain_scheduler.specs.State.{Answer, Answers, Calls, Cancelled, Choice, Done, Drops, Due, Event, Finished, Full, Gives, Loses}
use Rattle.plain_scheduler.specs.State.{Made, No}
use Rattle.plain_scheduler.specs.State.{NoMemory, Pending, Plain, Polls, Ready, Running, Yes}
use Rattle.plain_scheduler.specs.Lists.{any}
use Rattle.plain_scheduler.specs.Moves.{is_common, is_kept}
use Rattle.plain_scheduler.specs.Calls.{Call, course, does, new}
use Rattle.plain_laws.specs.Order.{InOrder, InWholeOrder, IsAlone, IsOnlyBegun, all_came, all_came_with, all_taken, begun_by}
use Rattle.plain_laws.specs.Order.{came, came_with, count, is_kept_of, is_others, is_over, is_unkept, is_urgent, last_begun, leaves_to}
use Rattle.plain_laws.specs.Order.{line}
use Rattle.plain_laws.specs.Order.{of_mark, taken, takes_alone, took, whole_line}
use Rattle.plain_laws.proofs.Words.{Each, both_true, filter_none, map_both, none_as}
use Rattle.plain_laws.proofs.Lines.{kept_by_other}
use Rattle.plain_laws.proofs.Begun.{only_one}
use Rattle.plain_laws.proofs.Marked.{IsMarked, Marked, are_marked, mark_of as its_mark}
use Rattle.plain_laws.proofs.InOrder.{in_order, one_so}
use Rattle.plain_laws.proofs.Altogether.{ArePlain, all_in_order, are_plain, unkept_so, were_plain}
use Rattle.machine_roads.specs.Choosing.{has_counted}
use Rattle.machine_roads.specs.DropActs.{plain_behind}
use Rattle.machine_roads.specs.Road.{Follows, counted_anew, run_view}
use Rattle.machine_roads.specs.Seeing.{heard_in, shown as shown_alike}
use Rattle.machine_roads.specs.View.{Output, wakes}
use Rattle.machine_roads.specs.Within.{Act, ActAlike, AreActs, standing}
use Rattle.machine_roads.proofs.Runs.{over_is}
use Rattle.solo_laws.proofs.Following.Lists.{length_map}
use Rattle.two_roads.specs.Acting.{acts_by, left_of}
use Rattle.two_roads.specs.ActsInOrder.{IsAloneInActs, IsOnlyBegunInActs, all_wait_in, come_in, line_of_all, line_of_mark, taken_in}
use Rattle.two_roads.specs.ActsInOrder.{taken_with, wait_in}
use Rattle.two_roads.proofs.Both.{course_of_both}
use Rattle.two_roads.proofs.CountsMore.{counts_more}
use Rattle.two_roads.proofs.GoesIdle.{all_idle}
use Rattle.two_roads.proofs.InDrop.{acts_come}
use Rattle.two_roads.proofs.Inner.{seen_in}
use Rattle.two_roads.proofs.WaitingTasks.{others_none, there_below}

-- the trace tells alike of polls and drops
begun_so : (e : Event Output Waker) → begun_by (shown_alike e) ≡ begun_by e
begun_so (Polls f) = refl
begun_so (Drops f) = refl
begun_so (Loses v) = refl
begun_so (Calls w) = refl
begun_so (Answers a) = by a
  where
    by : (a : Answer Output) → begun_by (shown_alike (Answers a)) ≡ []
    by Made = refl
    by Full = refl
    by NoMemory = refl
    by Yes = refl
    by No = refl
    by Pending = refl
    by Ready = refl
    by (Gives v) = refl
    by Cancelled = refl
    by Finished = refl
    by Done = refl

last_so : (es : List (Event Output Waker)) → last_begun (map shown_alike es) ≡ last_begun es
last_so [] = refl
last_so (e ∷ []) = begun_so e
last_so (e ∷ f ∷ es) = last_so (f ∷ es)

-- what waits in the machine, where both stand alike
module _ (w : World) (p : Plain Output Waker) (so : Follows w p) where
  abbrev future_of : Due → ℕ
  future_of d = d.future

  of_mark_so : (m : Mark) (r : ℕ) (ds : List Due) → Each (IsMarked p) ds
      → filter (λ f. same_mark m (mark_of w f)) (map future_of (filter (is_kept r) ds)) ≡ map future_of (filter (is_kept_of m r) ds)
  of_mark_so m r [] all = refl
  of_mark_so m r (d ∷ ds) all = by (is_kept r d) (of_mark_so m r ds all.1)
    where
      is_its : ℕ → Bool
      is_its f = same_mark m (mark_of w f)

      mine : (b : Bool) → filter is_its (map future_of (filter (is_kept r) ds)) ≡ map future_of (filter (is_kept_of m r) ds)
          → cond b (d.future ∷ filter is_its (map future_of (filter (is_kept r) ds)))
          (filter is_its (map future_of (filter (is_kept r) ds)))
          ≡ map future_of (cond b (d ∷ filter (is_kept_of m r) ds) (filter (is_kept_of m r) ds))
      mine true rest = ap (λ l. d.future ∷ l) rest
      mine false rest = rest

      by : (b : Bool) → filter is_its (map future_of (filter (is_kept r) ds)) ≡ map future_of (filter (is_kept_of m r) ds)
          → filter is_its (map future_of (cond b (d ∷ filter (is_kept r) ds) (filter (is_kept r) ds)))
          ≡ map future_of (cond (b && same_mark m d.mark) (d ∷ filter (is_kept_of m r) ds) (filter (is_kept_of m r) ds))
      by true rest =
          ap (λ k. cond (same_mark m k) (d.future ∷ filter is_its (map future_of (filter (is_kept r) ds)))
          (filter is_its (map future_of (filter (is_kept r) ds)))) (sym (so.marks d.future) ∙ its_mark d.future p d.mark all.0)
          ∙ mine (same_mark m d.mark) rest
      by false rest = rest

  pub wait_so : Marked p → (m : Mark) (r : ℕ) → wait_in m r w ≡ line m r p.due
  wait_so marked m r =
      ap (λ l. filter (λ f. same_mark m (mark_of w f)) (own_of w r) ++ l) (so.common m)
      ∙ (ap (λ l. filter (λ f. same_mark m (mark_of w f)) l ++ map future_of (filter (is_common m) p.due)) (so.kept r)
      ∙ (ap (λ l. l ++ map future_of (filter (is_common m) p.due)) (of_mark_so m r p.due marked.due)
      ∙ sym (map_both future_of (filter (is_kept_of m r) p.due) (filter (is_common m) p.due))))

  pub all_wait_so : filter (is_common PlainMark) p.due ≡ filter is_unkept p.due → (r : ℕ) → all_wait_in r w ≡ whole_line r p.due
  all_wait_so plain r =
      ap (λ l. own_of w r ++ l) (so.common PlainMark ∙ ap (map future_of) plain)
      ∙ (ap (λ l. l ++ map future_of (filter is_unkept p.due)) (so.kept r)
      ∙ sym (map_both future_of (filter (is_kept r) p.due) (filter is_unkept p.due)))

  kept_nothing : (k : ℕ) → own_of w k ≡ [] → filter (is_kept k) p.due ≡ []
  kept_nothing k none = empty (filter (is_kept k) p.due) (sym (so.kept k) ∙ none)
    where
      empty : (ds : List Due) → map future_of ds ≡ [] → ds ≡ []
      empty [] is = refl
      empty (d ∷ ds) is = absurd cc

  pub alone_so : (r : ℕ) → ((k : ℕ) → (r == k) ≡ false → own_of w k ≡ []) → any (is_others r) p.due ≡ false
  alone_so r none = others_none r p.due (λ k away. kept_nothing k (none k away))

  pub there_so : (r : ℕ) → r < length w.runs → is_some (slice_get p.runs r) ≡ true
  there_so r below =
      there_below p.runs r
      (subst (λ n. r < n)
      (sym (length_map run_view w.runs) ∙ (ap (λ (rs : List Running). length rs) so.runs ∙ length_map counted_anew p.runs)) below)

turned_round : (b : Bool) (xs : List ℕ) → cond (not b) [] xs ≡ cond b xs []
turned_round true xs = refl
turned_round false xs = refl

-- what is taken in acts, of what is looked at, is what the plain scheduler takes in its calls
module _ (r : ℕ) where
  -- where the run is there and alone takes
  abbrev TakesOn : Plain Output Waker → List (Choice × Call Output Waker) → Type 0
  TakesOn p cs =
      Marked p × (is_some (slice_get p.runs r) ≡ true) × (any (is_others r) p.due ≡ false) × (takes_alone wakes r cs p ≡ true)

  goes_on : (s : Machine) (q : Plain Output Waker) (a : Act) (acts : List Act) (go : ActAlike s q (a ∷ acts))
      → TakesOn q (acts_by s q (a ∷ acts) go) → TakesOn go.0 (acts_by a.left go.0 acts go.3)
  goes_on s q a acts go on =
      let cs = acts_by a.left go.0 acts go.3 in
      let both = both_true (leaves_to r go.1.made q.inside) (takes_alone wakes r cs (does wakes go.1.choice go.1.made q)) on.3 in
      let one = one_so r wakes go.1.choice go.1.made q on.0 on.1 on.2 both.0 in
      subst (λ z. TakesOn z cs) go.1.so (one.marked, one.is_there, one.alone, both.1)

  module _ (of : Plain Output Waker → List ℕ → List ℕ) where
    abbrev takes_in : List (Choice × Call Output Waker) → Plain Output Waker → List ℕ
    takes_in [] p = []
    takes_in (c ∷ cs) p = of (does wakes c.0 c.1 p) (took r p (does wakes c.0 c.1 p)) ++ takes_in cs (does wakes c.0 c.1 p)

    taken_one : (s : Machine) (q : Plain Output Waker) (a : Act) (acts : List Act) (go : ActAlike s q (a ∷ acts))
        → is_some (slice_get q.runs r) ≡ true → taken_with r of s.world a.left.world go.0 ≡ of go.0 (took r q go.0)
    taken_one s q a acts go there =
        let z = go.0 in
        let it = go.1 in
        let more : (has_counted s.world r == has_counted a.left.world r) ≡ not (nat_lt (count r q) (count r z)) =
        subst (λ z. (has_counted s.world r == has_counted a.left.world r) ≡ not (nat_lt (count r q) (count r z))) it.so
        (counts_more wakes it.choice r it.made q (has_counted s.world) there (has_counted a.left.world r) (it.chooses.counted r)) in
        ap (λ b. of z (cond b [] (last_begun (heard_in a.left.world.trace)))) more
        ∙ (ap (of z) (turned_round (nat_lt (count r q) (count r z)) (last_begun (heard_in a.left.world.trace)))
        ∙ ap (λ l. of z (cond (nat_lt (count r q) (count r z)) l []))
        (ap (λ es. last_begun es) (seen_in (standing a.left a.party) z go.2) ∙ last_so z.events))

    taken_in_so : (s : Machine) (q : Plain Output Waker) (acts : List Act) (go : ActAlike s q acts) → TakesOn q (acts_by s q acts go)
        → taken_in r of s q acts go ≡ takes_in (acts_by s q acts go) q
    taken_in_so s q [] go on = refl
    taken_in_so s q (a ∷ acts) go on =
        ap (λ l. l ++ taken_in r of a.left go.0 acts go.3) (taken_one s q a acts go on.1)
        ∙ (ap (λ l. of go.0 (took r q go.0) ++ l) (taken_in_so a.left go.0 acts go.3 (goes_on s q a acts go on))
        ∙ subst (λ z. of go.0 (took r q go.0) ++ takes_in (acts_by a.left go.0 acts go.3) go.0
        ≡ of z (took r q z) ++ takes_in (acts_by a.left go.0 acts go.3) z) (sym go.1.so) refl)

    module _ (waiting : Plain Output Waker → List ℕ) where
      abbrev came_one : Plain Output Waker → Plain Output Waker → List ℕ
      came_one p q = drop (length (waiting p)) (of q (took r p q) ++ waiting q)

      abbrev comes_in : List (Choice × Call Output Waker) → Plain Output Waker → List ℕ
      comes_in [] p = []
      comes_in (c ∷ cs) p = came_one p (does wakes c.0 c.1 p) ++ comes_in cs (does wakes c.0 c.1 p)

      come_in_so : (s : Machine) (q : Plain Output Waker) (acts : List Act) (go : ActAlike s q acts) → TakesOn q (acts_by s q acts go)
          → come_in r of waiting s q acts go ≡ comes_in (acts_by s q acts go) q
      come_in_so s q [] go on = refl
      come_in_so s q (a ∷ acts) go on =
          ap (λ l. drop (length (waiting q)) (l ++ waiting go.0) ++ come_in r of waiting a.left go.0 acts go.3)
          (taken_one s q a acts go on.1)
          ∙ (ap (λ l. came_one q go.0 ++ l) (come_in_so a.left go.0 acts go.3 (goes_on s q a acts go on))
          ∙ subst (λ z. came_one q go.0 ++ comes_in (acts_by a.left go.0 acts go.3) go.0
          ≡ came_one q z ++ comes_in (acts_by a.left go.0 acts go.3) z) (sym go.1.so) refl)

abbrev every : Plain Output Waker → List ℕ → List ℕ
every q fs = fs

module _ (r : ℕ) where
  taken_same : (m : Mark) (cs : List (Choice × Call Output Waker)) (p : Plain Output Waker)
      → takes_in r (of_mark m) cs p ≡ taken wakes m r cs p
  taken_same m [] p = refl
  taken_same m (c ∷ cs) p =
      ap (λ l. of_mark m (does wakes c.0 c.1 p) (took r p (does wakes c.0 c.1 p)) ++ l) (taken_same m cs (does wakes c.0 c.1 p))

  came_same : (m : Mark) (cs : List (Choice × Call Output Waker)) (p : Plain Output Waker)
      → comes_in r (of_mark m) (line_of_mark m r) cs p ≡ came wakes m r cs p
  came_same m [] p = refl
  came_same m (c ∷ cs) p = ap (λ l. came_with m r p (does wakes c.0 c.1 p) ++ l) (came_same m cs (does wakes c.0 c.1 p))

  all_taken_same : (cs : List (Choice × Call Output Waker)) (p : Plain Output Waker) → takes_in r every cs p ≡ all_taken wakes r cs p
  all_taken_same [] p = refl
  all_taken_same (c ∷ cs) p = ap (λ l. took r p (does wakes c.0 c.1 p) ++ l) (all_taken_same cs (does wakes c.0 c.1 p))

  all_came_same : (cs : List (Choice × Call Output Waker)) (p : Plain Output Waker)
      → comes_in r every (line_of_all r) cs p ≡ all_came wakes r cs p
  all_came_same [] p = refl
  all_came_same (c ∷ cs) p = ap (λ l. all_came_with r p (does wakes c.0 c.1 p) ++ l) (all_came_same cs (does wakes c.0 c.1 p))

module _ (limit : ℕ) (kind : Kind) (parties : ℕ) (before acts : List Act)
    (go : ActAlike (start limit kind parties) (new limit (is_static_kind kind)) before)
    (on : ActAlike (left_of (start limit kind parties) before)
    (plain_behind before (start limit kind parties) (new limit (is_static_kind kind)) go) acts) (r : ℕ)
    (alone : IsAloneInActs r (left_of (start limit kind parties) before)
    (plain_behind before (start limit kind parties) (new limit (is_static_kind kind)) go) acts on)
    (begins : Follows (left_of (start limit kind parties) before).world
    (plain_behind before (start limit kind parties) (new limit (is_static_kind kind)) go))
    (ends : Follows (left_of (left_of (start limit kind parties) before) acts).world
    (plain_behind acts (left_of (start limit kind parties) before)
    (plain_behind before (start limit kind parties) (new limit (is_static_kind kind)) go) on)) where
  abbrev first : Plain Output Waker
  first = new limit (is_static_kind kind)

  abbrev s : Machine
  s = left_of (start limit kind parties) before

  abbrev q : Plain Output Waker
  q = plain_behind before (start limit kind parties) first go

  abbrev z : Plain Output Waker
  z = plain_behind acts s q on

  abbrev calls_before : List (Choice × Call Output Waker)
  calls_before = acts_by (start limit kind parties) first before go

  abbrev calls : List (Choice × Call Output Waker)
  calls = acts_by s q acts on

  q_is : course wakes calls_before first ≡ q
  q_is = acts_come before (start limit kind parties) first go

  z_is : course wakes calls q ≡ z
  z_is = acts_come acts s q on

  marked : Marked q
  marked = subst (λ p. Marked p) q_is (are_marked wakes limit (is_static_kind kind) calls_before)

  marked_then : Marked z
  marked_then =
      subst (λ p. Marked p) (course_of_both wakes calls_before calls first ∙ (ap (λ p. course wakes calls p) q_is ∙ z_is))
      (are_marked wakes limit (is_static_kind kind) (calls_before ++ calls))

  is_alone : IsAlone wakes r calls q
  is_alone =
      record {
        is_there = there_so s.world q begins r alone.is_made;
        keeps_alone = alone_so s.world q begins r alone.others;
        takes_alone = alone.takes_alone;
      }

  takes_on : TakesOn r q calls
  takes_on = (marked, is_alone.is_there, is_alone.keeps_alone, is_alone.takes_alone)

  pub acts_in_order : (m : Mark)
      → taken_in r (of_mark m) s q acts on ++ wait_in m r (left_of s acts).world
      ≡ wait_in m r s.world ++ come_in r (of_mark m) (line_of_mark m r) s q acts on
  acts_in_order m =
      ap (λ l. l ++ wait_in m r (left_of s acts).world) (taken_in_so r (of_mark m) s q acts on takes_on ∙ taken_same r m calls q)
      ∙ (ap (λ l. taken wakes m r calls q ++ l)
      (wait_so (left_of s acts).world z ends marked_then m r ∙ ap (λ (p : Plain Output Waker). line m r p.due) (sym z_is))
      ∙ (subst (λ p. IsAlone wakes r calls p → InOrder wakes r calls p) q_is
      (λ so. in_order r wakes limit (is_static_kind kind) calls_before calls so) is_alone m
      ∙ (ap (λ l. l ++ came wakes m r calls q) (sym (wait_so s.world q begins marked m r))
      ∙ ap (λ l. wait_in m r s.world ++ l)
      (sym (come_in_so r (of_mark m) (line_of_mark m r) s q acts on takes_on ∙ came_same r m calls q)))))

  pub all_acts_in_order : any is_urgent z.futures ≡ false
      → taken_in r every s q acts on ++ all_wait_in r (left_of s acts).world
      ≡ all_wait_in r s.world ++ come_in r every (line_of_all r) s q acts on
  all_acts_in_order none =
      let plain_then = are_plain z.futures none in
      let plain_now =
      were_plain r wakes calls q marked is_alone.is_there is_alone.keeps_alone is_alone.takes_alone
      (subst (λ (p : Plain Output Waker). ArePlain p.futures) (sym z_is) plain_then) in
      ap (λ l. l ++ all_wait_in r (left_of s acts).world) (taken_in_so r every s q acts on takes_on ∙ all_taken_same r calls q)
      ∙ (ap (λ l. all_taken wakes r calls q ++ l)
      (all_wait_so (left_of s acts).world z ends (unkept_so z marked_then plain_then) r
      ∙ ap (λ (p : Plain Output Waker). whole_line r p.due) (sym z_is))
      ∙ (subst (λ p. IsAlone wakes r calls p → InWholeOrder wakes r calls p) q_is
      (λ so. all_in_order r wakes limit (is_static_kind kind) calls_before calls so) is_alone
      (subst (λ (p : Plain Output Waker). any is_urgent p.futures ≡ false) (sym z_is) none)
      ∙ (ap (λ l. l ++ all_came wakes r calls q) (sym (all_wait_so s.world q begins (unkept_so q marked plain_now) r))
      ∙ ap (λ l. all_wait_in r s.world ++ l)
      (sym (come_in_so r every (line_of_all r) s q acts on takes_on ∙ all_came_same r calls q)))))

-- and nothing stands in the own queue of another run where one alone is begun
pub none_begun : (limit : ℕ) (kind : Kind) (parties : ℕ) (before : List Act) → AreActs (start limit kind parties) before
    → (go : ActAlike (start limit kind parties) (new limit (is_static_kind kind)) before) (r : ℕ)
    → IsOnlyBegunInActs r (acts_by (start limit kind parties) (new limit (is_static_kind kind)) before go)
    (left_of (start limit kind parties) before).world
    → Follows (left_of (start limit kind parties) before).world
    (plain_behind before (start limit kind parties) (new limit (is_static_kind kind)) go)
    → (k : ℕ) → (r == k) ≡ false → own_of (left_of (start limit kind parties) before).world k ≡ []
none_begun limit kind parties before are go r only follows k away =
    let first : Plain Output Waker = new limit (is_static_kind kind) in
    let cs = acts_by (start limit kind parties) first before go in
    let q = plain_behind before (start limit kind parties) first go in
    let come = acts_come before (start limit kind parties) first go in
    let begun : IsOnlyBegun wakes r cs first =
    λ j polled going.
    only j polled
    (sym (over_is (left_of (start limit kind parties) before).world.runs q.runs follows.runs j)
    ∙ (sym (ap (λ (p : Plain Output Waker). is_over j p) come) ∙ going)) in
    let none : any (is_others r) q.due ≡ false =
    subst (λ (p : Plain Output Waker). any (is_others r) p.due ≡ false) come
    (only_one wakes limit (is_static_kind kind) cs r (all_idle limit kind parties before are go) begun) in
    follows.kept k
    ∙ ap (map (λ (d : Due). d.future))
    (filter_none (is_kept k) (is_kept k) (λ d is. is) q.due
    (none_as (is_others r) (is_kept k) (kept_by_other r k (ap not away)) q.due none))
