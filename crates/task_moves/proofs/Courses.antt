-- Every course of one task keeps what its marks and its count say of what the parties have in hand.
use Rattle.std.proofs.Common.{◌≡◌, ℕ, ◌+◌, ◌^◌, ◌<◌, ◌≤◌, Bool, true, false, List, [], ◌∷◌, refl, arith}
use Rattle.std.proofs.lemmas.List.Sums.{sum_by-cons}
use Rattle.std.proofs.lemmas.Bool.Decides.{nat_tests}
use Rattle.std.specs.Prelude.{None, ◌||◌, ◌&&◌, not, count_by, cond, if◌then◌else◌}
use Rattle.std.specs.List.{list_any}
use Rattle.task_moves.specs.declared.moves.state.State.{State}
use Rattle.task_moves.specs.declared.moves.owed.Move.{Move}
use Rattle.task_moves.specs.declared.moves.owed.Move.TheVariants.{Release, GiveUp, EndPending}
use Rattle.task_moves.specs.Moves as moves
use Rattle.task_moves.specs.Moves.{is_going, most_references}
use Rattle.task_moves.specs.Course.{Hands, Made, Course, unfinished, is_possible, made_by, step, step_by, beginning, course_from}
use Rattle.task_moves.specs.Laws.{is_poll, is_end, is_ready, is_given, is_output_dropped, is_open_wake, is_open_pending, sets_scheduled, is_woken_since_poll, PollsComeBefore, WakesAreOwed, HasPollsAskedFor, GivesOutputOnce}
use Rattle.task_moves.proofs.Cases.{by_move}

pub record Holds (s : State) (h : Hands) : Type 0 where
  pub counted : s.references ≡ h.wakers + unfinished h
  pub one : unfinished h ≤ 1
  pub few : h.wakers ≤ most_references
  pub handle : s.handle ≡ h.handle
  pub going : is_going s ≡ true → 1 ≤ h.runnables + h.polls + h.closings + h.endings
  pub resting : is_going s ≡ false → h.runnables + h.polls + h.closings + h.endings ≡ 0
  pub waiting : 1 ≤ h.runnables → s.running ≡ false
  pub polling : 1 ≤ h.polls → s.running ≡ true
  pub closing : 1 ≤ h.closings → s.running ≡ false
  pub ending : 1 ≤ h.endings → s.running ≡ true
  pub closed : 1 ≤ h.closings + h.endings → s.closed ≡ true
  pub unfinished_is : 1 ≤ h.runnables + h.polls + h.closings + h.endings → s.completed ≡ false
  pub over : 1 ≤ h.givings → (s.completed || s.closed) ≡ true
  pub unkept : s.handle ≡ false → s.completed ≡ true → s.closed ≡ true

-- where a move is possible, it keeps this
holds-made : (kind : Move) (c : Course) → is_possible kind c.hands ≡ true → Holds c.state c.hands →
    let d = made_by kind (moves.after kind c.state) c in Holds d.state d.hands
holds-made = by_move _
    (λ c p h. grind (arith, nat_tests))
    (λ c p h. grind (arith, nat_tests))
    (λ c p h. grind (arith, nat_tests))
    (λ c p h. grind (arith, nat_tests))
    (λ c p h. grind (arith, nat_tests))
    (λ c p h. grind (arith, nat_tests))
    (λ c p h. grind (arith, nat_tests))
    (λ c p h. grind (arith, nat_tests))
    (λ c p h. grind (arith, nat_tests))
    (λ c p h. grind (arith, nat_tests))
    (λ c p h. grind (arith, nat_tests))
    (λ c p h. grind (arith, nat_tests))
    (λ c p h. grind (arith, nat_tests))
    (λ c p h. grind (arith, nat_tests))
    (λ c p h. grind (arith, nat_tests))
    (λ c p h. grind (arith, nat_tests))
    (λ c p h. grind (arith, nat_tests))
    (λ c p h. grind (arith, nat_tests))
    (λ c p h. grind (arith, nat_tests))

-- what the numbers of polls, of wakes of the open task, of outputs and of those that went, and whether it was woken since its
-- last poll and whether its future has ended, say of the marks
pub record Tells (s : State) (polls wakes readies given dropped : ℕ) (woken ended : Bool) : Type 0 where
  pub asked : polls + cond (s.scheduled && not s.closed) 1 0 ≤ wakes + 1
  pub fresh : s.running ≡ true → s.closed ≡ false → s.scheduled ≡ woken
  pub over : ended ≡ true → (s.completed || s.closed) ≡ true
  pub ready : readies ≡ cond s.completed 1 0
  pub kept : given + dropped + cond (s.completed && not s.closed) 1 0 ≡ readies

-- the move that is made
abbrev pub made_of : Move → Course → Made
made_of kind c = let m = moves.after kind c.state in record { kind = kind; before = c.state; after = m.state; owed = m.owed }

tells-made : (kind : Move) (c : Course) (p w r g d : ℕ) (v e : Bool) → is_possible kind c.hands ≡ true → Holds c.state c.hands → Tells c.state p w r g d v e →
    let m = made_of kind c in
    Tells m.after (cond (is_poll m) 1 0 + p) (cond (is_open_wake m) 1 0 + w) (cond (is_ready m) 1 0 + r) (cond (is_given m) 1 0 + g) (cond (is_output_dropped m) 1 0 + d) (not (is_poll m) && (sets_scheduled m || v)) (is_end m || e)
tells-made = by_move _
    (λ c p w r g d v e q h t. grind (arith, nat_tests))
    (λ c p w r g d v e q h t. grind (arith, nat_tests))
    (λ c p w r g d v e q h t. grind (arith, nat_tests))
    (λ c p w r g d v e q h t. grind (arith, nat_tests))
    (λ c p w r g d v e q h t. grind (arith, nat_tests))
    (λ c p w r g d v e q h t. grind (arith, nat_tests))
    (λ c p w r g d v e q h t. grind (arith, nat_tests))
    (λ c p w r g d v e q h t. grind (arith, nat_tests))
    (λ c p w r g d v e q h t. grind (arith, nat_tests))
    (λ c p w r g d v e q h t. grind (arith, nat_tests))
    (λ c p w r g d v e q h t. grind (arith, nat_tests))
    (λ c p w r g d v e q h t. grind (arith, nat_tests))
    (λ c p w r g d v e q h t. grind (arith, nat_tests))
    (λ c p w r g d v e q h t. grind (arith, nat_tests))
    (λ c p w r g d v e q h t. grind (arith, nat_tests))
    (λ c p w r g d v e q h t. grind (arith, nat_tests))
    (λ c p w r g d v e q h t. grind (arith, nat_tests))
    (λ c p w r g d v e q h t. grind (arith, nat_tests))
    (λ c p w r g d v e q h t. grind (arith, nat_tests))

-- a poll begins before any end
before-made : (kind : Move) (c : Course) (e : Bool) → Holds c.state c.hands → (e ≡ true → (c.state.completed || c.state.closed) ≡ true) →
    is_possible kind c.hands ≡ true → is_poll (made_of kind c) ≡ true → e ≡ false
before-made = by_move _
    (λ c e h t p q. grind (arith, nat_tests))
    (λ c e h t p q. grind (arith, nat_tests))
    (λ c e h t p q. grind (arith, nat_tests))
    (λ c e h t p q. grind (arith, nat_tests))
    (λ c e h t p q. grind (arith, nat_tests))
    (λ c e h t p q. grind (arith, nat_tests))
    (λ c e h t p q. grind (arith, nat_tests))
    (λ c e h t p q. grind (arith, nat_tests))
    (λ c e h t p q. grind (arith, nat_tests))
    (λ c e h t p q. grind (arith, nat_tests))
    (λ c e h t p q. grind (arith, nat_tests))
    (λ c e h t p q. grind (arith, nat_tests))
    (λ c e h t p q. grind (arith, nat_tests))
    (λ c e h t p q. grind (arith, nat_tests))
    (λ c e h t p q. grind (arith, nat_tests))
    (λ c e h t p q. grind (arith, nat_tests))
    (λ c e h t p q. grind (arith, nat_tests))
    (λ c e h t p q. grind (arith, nat_tests))
    (λ c e h t p q. grind (arith, nat_tests))

-- a wake that sets the mark owes one Runnable, or leaves it to the run
wake-made : (kind : Move) (c : Course) → let m = made_of kind c in sets_scheduled m ≡ true → m.owed.schedule ≡ (if m.before.running then None else moves.schedule false)
wake-made = by_move _
    (λ c q. grind (arith, nat_tests))
    (λ c q. grind (arith, nat_tests))
    (λ c q. grind (arith, nat_tests))
    (λ c q. grind (arith, nat_tests))
    (λ c q. grind (arith, nat_tests))
    (λ c q. grind (arith, nat_tests))
    (λ c q. grind (arith, nat_tests))
    (λ c q. grind (arith, nat_tests))
    (λ c q. grind (arith, nat_tests))
    (λ c q. grind (arith, nat_tests))
    (λ c q. grind (arith, nat_tests))
    (λ c q. grind (arith, nat_tests))
    (λ c q. grind (arith, nat_tests))
    (λ c q. grind (arith, nat_tests))
    (λ c q. grind (arith, nat_tests))
    (λ c q. grind (arith, nat_tests))
    (λ c q. grind (arith, nat_tests))
    (λ c q. grind (arith, nat_tests))
    (λ c q. grind (arith, nat_tests))

-- the end of a poll owes one exactly where there was such a wake
pending-made : (kind : Move) (c : Course) (v : Bool) → Holds c.state c.hands → (c.state.running ≡ true → c.state.closed ≡ false → c.state.scheduled ≡ v) → is_possible kind c.hands ≡ true →
    let m = made_of kind c in is_open_pending m ≡ true → m.owed.schedule ≡ (if v then moves.schedule true else None)
pending-made = by_move _
    (λ c v h t p q. grind (arith, nat_tests))
    (λ c v h t p q. grind (arith, nat_tests))
    (λ c v h t p q. grind (arith, nat_tests))
    (λ c v h t p q. grind (arith, nat_tests))
    (λ c v h t p q. grind (arith, nat_tests))
    (λ c v h t p q. grind (arith, nat_tests))
    (λ c v h t p q. grind (arith, nat_tests))
    (λ c v h t p q. grind (arith, nat_tests))
    (λ c v h t p q. grind (arith, nat_tests))
    (λ c v h t p q. grind (arith, nat_tests))
    (λ c v h t p q. grind (arith, nat_tests))
    (λ c v h t p q. grind (arith, nat_tests))
    (λ c v h t p q. grind (arith, nat_tests))
    (λ c v h t p q. grind (arith, nat_tests))
    (λ c v h t p q. grind (arith, nat_tests))
    (λ c v h t p q. grind (arith, nat_tests))
    (λ c v h t p q. grind (arith, nat_tests))
    (λ c v h t p q. grind (arith, nat_tests))
    (λ c v h t p q. grind (arith, nat_tests))

-- what holds of every course
pub record Good (c : Course) : Type 0 where
  pub holds : Holds c.state c.hands
  pub tells : Tells c.state (count_by is_poll c.made) (count_by is_open_wake c.made) (count_by is_ready c.made) (count_by is_given c.made) (count_by is_output_dropped c.made) (is_woken_since_poll c.made) (list_any is_end c.made)
  pub before : PollsComeBefore c.made
  pub owed : WakesAreOwed c.made

count-cons : (test : Made → Bool) (m : Made) (earlier : List Made) → count_by test (m ∷ earlier) ≡ cond (test m) 1 0 + count_by test earlier
count-cons test m earlier = sum_by-cons _ m earlier

tells-step : (kind : Move) (c : Course) → is_possible kind c.hands ≡ true → Good c →
    let d = made_by kind (moves.after kind c.state) c in
    Tells d.state (count_by is_poll d.made) (count_by is_open_wake d.made) (count_by is_ready d.made) (count_by is_given d.made) (count_by is_output_dropped d.made) (is_woken_since_poll d.made) (list_any is_end d.made)
tells-step kind c p g =
    let m = made_of kind c in
    rw (count-cons is_poll m c.made, count-cons is_open_wake m c.made, count-cons is_ready m c.made, count-cons is_given m c.made, count-cons is_output_dropped m c.made)
    (tells-made kind c _ _ _ _ _ _ _ p g.holds g.tells)

good-step_by : (b : Bool) (kind : Move) (c : Course) → is_possible kind c.hands ≡ b → Good c → Good (step_by b kind c)
good-step_by true kind c p g =
    record {
      holds = holds-made kind c p g.holds;
      tells = tells-step kind c p g;
      before = (λ q. before-made kind c _ g.holds g.tells.over p q, g.before);
      owed = (λ q. wake-made kind c q, (λ q. pending-made kind c _ g.holds g.tells.fresh p q, g.owed));
    }
good-step_by false kind c p g = g

good_from : (kinds : List Move) (c : Course) → Good c → Good (course_from kinds c)
good_from [] c g = g
good_from (kind ∷ kinds) c g = good_from kinds (step kind c) (good-step_by _ kind c refl g)

good_beginning : Good beginning
good_beginning = record { holds = grind (arith, nat_tests); tells = grind (arith, nat_tests); before = tt; owed = tt }

pub good : (kinds : List Move) → Good (course_from kinds beginning)
good kinds = good_from kinds beginning good_beginning

pub small : {s : State} {h : Hands} → Holds s h → s.references ≤ 2 ^ 40 + 1
small h = grind arith

pub asked : {c : Course} → Good c → HasPollsAskedFor c
asked g = grind (arith, nat_tests)

pub output_once : {c : Course} → Good c → GivesOutputOnce c
output_once g = record { one = grind (arith, nat_tests); once = grind (arith, nat_tests); all = λ e. grind (arith, nat_tests) }

-- what the code of the moves asks of its caller
pub few : {s : State} {h : Hands} → Holds s h → s.references < 2 ^ 63
few h = grind arith

pub holds_reference : (kind : Move) {s : State} {h : Hands} → is_possible kind h ≡ true → Holds s h → moves.HoldsReference kind s
holds_reference Release p h = grind (arith, nat_tests)
holds_reference GiveUp p h = grind (arith, nat_tests)
holds_reference EndPending p h = grind (arith, nat_tests)
holds_reference _ p h = tt
