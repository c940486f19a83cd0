-- An act and a call that say so of what they choose take alike, and leave counts and turns in step.
use Rattle.std.proofs.Common.{◌≡◌, ℕ, zero, suc, ◌+◌, ◌^◌, ◌%◌, ◌==◌, ◌≤◌, Bool, true, false, List, [], ◌∷◌, map, Some, length, refl, sym}
use Rattle.std.proofs.Common.{ap, subst, ◌∙◌}
use Rattle.std.proofs.Common.{arith}
use Rattle.std.proofs.lemmas.Bool.Decides.{nat_tests}
use Rattle.executor_parts.specs.Marks.{first_of, turn_after}
use Rattle.executor_parts.specs.declared.mark.Mark.TheVariants.{Plain as PlainMark, Urgent}
use Rattle.executor_model.specs.declared.op.Waker.{Waker}
use Rattle.executor_model.specs.Steps.{Machine}
use Rattle.solo.specs.declared.names.SoloWaker.{SoloWaker}
use Rattle.solo.specs.declared.solo.Solo.{Solo}
use Rattle.solo.specs.Cells.{choose}
use Rattle.solo.specs.Lines.{mark_of_turn}
use Rattle.plain_scheduler.specs.State.{Choice, Close, Code, Drop, DropOwn, Lose, Plain, Poll, PollOwn, Refusal}
use Rattle.plain_scheduler.specs.Calls as calls
use Rattle.plain_scheduler.specs.Calls.{Call}
use Rattle.plain_scheduler.specs.Searches.{Search, finds, searches}
use Rattle.plain_scheduler.specs.Turns.{turned_in, turns_of}
use Rattle.plain_scheduler.specs.Usual.{IsKeptByOthers, RobsAsUsual, first_keeper, from_start, order_by, order_in, turned}
use Rattle.plain_laws.specs.Searches.{looks_first}
use Rattle.plain_laws.proofs.Searching.{tell_it}
use Rattle.machine_roads.specs.View.{Output, wakes as wakes_in}
use Rattle.machine_roads.specs.Within.{Act, start_in}
use Rattle.solo_laws.specs.Counting.{counts_of}
use Rattle.solo_laws.specs.Ordering.{order_of}
use Rattle.solo_laws.specs.Owner.{Owner}
use Rattle.solo_laws.specs.Road.{wakes}
use Rattle.two_roads.specs.Refusing.{asks_memory, refused_in}
use Rattle.two_roads.specs.Renaming.{CallsAlike, SearchesAlike, call_as, code_as, renamed}
use Rattle.two_roads.specs.Together.{nothing, numbered}
use Rattle.two_roads.proofs.Both.{wakes_so}
use Rattle.two_roads.proofs.Calling.{setting}
use Rattle.two_roads.proofs.InTurn.{counted_too, counts_alike, searches_alike, turns_as, turns_too, usual_too}
use Rattle.two_roads.proofs.Moving.{Setting}
use Rattle.two_roads.proofs.Says.{ActSays, CallSays, has_counted}
use Rattle.two_roads.proofs.Sought.{search_as}

-- of eight turns the last looks at the plain queue first
abbrev pub IsInStep : ℕ → ℕ → Type 0
IsInStep n t = n + t % 8 ≡ 7

in_step_after : (n t : ℕ) → IsInStep n t → IsInStep (turn_after n) ((t + 1) % 2 ^ 64)
in_step_after zero t is = omega (arith, is)
in_step_after (suc n) t is = omega (arith, is)

still_in_step : (k n t : ℕ) → IsInStep n t → IsInStep (turned k n) (turned_in k t)
still_in_step zero n t is = is
still_in_step (suc k) n t is = still_in_step k (turn_after n) ((t + 1) % 2 ^ 64) (in_step_after n t is)

same_mark : (n r : ℕ) → n + r ≡ 7 → choose (r == 7) PlainMark Urgent ≡ first_of n
same_mark zero r is =
    let last : (r == 7) ≡ true = grind (arith, nat_tests, is) in ap (λ (b : Bool). choose b PlainMark Urgent) last
same_mark (suc n) r is =
    let other : (r == 7) ≡ false = grind (arith, nat_tests, is) in ap (λ (b : Bool). choose b PlainMark Urgent) other

-- where the turns are in step, and each run has counted as many
module _ {F T X : Type 0} (number : X → ℕ) (s : Machine) (a : Act) (c d : Choice) (before behind : Owner) (y z : Solo F T X)
    (call : Call T (SoloWaker X)) (p : Plain T (SoloWaker X)) (tells : length p.lying ≤ c.tells) (tells_so : length p.lying ≤ d.tells)
    (theirs : ActSays s a d (call_as nothing (numbered number) call) (renamed nothing (numbered number) p))
    (its : CallSays c before behind y z call p) (step : IsInStep s.world.urgent_turns y.lines.turn)
    (same : (k : ℕ) → has_counted s.world k ≡ counts_of before k) (ordered : s.world.listed ≡ order_of y) where
  abbrev call_there : Call Output Waker
  call_there = call_as nothing (numbered number) call

  abbrev there : Plain Output Waker
  there = renamed nothing (numbered number) p

  -- both by what one refusal is
  abbrev by_refusal : Refusal → Setting T Output (SoloWaker X) Waker
  by_refusal r =
      setting nothing (numbered number) wakes wakes_in (wakes_so number) (record c { refusal = r }) (record d { refusal = r }) p tells
      tells_so refl

  least : (n : ℕ) → n ≤ n
  least n = omega arith

  marks : mark_of_turn y.lines.turn ≡ first_of s.world.urgent_turns
  marks = same_mark s.world.urgent_turns (y.lines.turn % 8) step

  -- the executor's run looks for whom it robs from where the machine's does
  abbrev pub RobsFrom : Type 0
  RobsFrom =
      (x : Search T (SoloWaker X)) → searches wakes c call p ≡ Some x → finds x ≡ true → IsKeptByOthers x.run x.at.due
      → RobsAsUsual wakes c (order_of y) (start_in s a) x

  searched : RobsFrom → SearchesAlike c d wakes p call
  searched robs x is found =
      let k : Setting T Output (SoloWaker X) Waker = by_refusal c.refusal in
      let one =
      searches_alike k call p (least (length p.lying)) (mark_of_turn y.lines.turn) (first_of s.world.urgent_turns) marks
      (counts_of before) (has_counted s.world) same
      (usual_too wakes c c.refusal (mark_of_turn y.lines.turn) (counts_of before) call p its.usual)
      (usual_too wakes_in d c.refusal (first_of s.world.urgent_turns) (has_counted s.world) call_there there theirs.usual)
      (λ x is is_there found kept.
      robs x (tell_it wakes c (record c { refusal = c.refusal }) call p refl ∙ is) found kept kept
      ∙ (ap (λ order. first_keeper (from_start (start_in s a) order) x.at.due) (sym ordered)
      ∙ sym
      (theirs.robs (search_as k x) (tell_it wakes_in d (record d { refusal = c.refusal }) call_there there refl ∙ is_there) found kept)))
      x (tell_it wakes (record c { refusal = c.refusal }) c call p refl ∙ is) found in
      record { keeps = one.keeps; first = one.first; robs = one.robs; moves = one.moves }

  pub takes_alike : RobsFrom → CallsAlike c d wakes p call
  takes_alike robs = by call refl
    where
      looks : (o : Call T (SoloWaker X)) → call ≡ o → looks_first o ≡ true → c.first ≡ d.first
      looks o is first =
          let here : looks_first call ≡ true = ap (λ (o : Call T (SoloWaker X)). looks_first o) is ∙ first in
          let far : looks_first call_there ≡ true =
          ap (λ (o : Call T (SoloWaker X)). looks_first (call_as nothing (numbered number) o)) is ∙ looks_there o first in
          its.first here ∙ (marks ∙ sym (theirs.first far))
        where
          looks_there : (o : Call T (SoloWaker X)) → looks_first o ≡ true → looks_first (call_as nothing (numbered number) o) ≡ true
          looks_there calls.TryTick first = refl
          looks_there (calls.PollTick t w) first = refl
          looks_there o first = absurd cc

      by : (o : Call T (SoloWaker X)) → call ≡ o → CallsAlike c d wakes p o
      by calls.TryTick is = λ both. looks calls.TryTick is refl
      by (calls.PollTick t w) is = λ both. looks (calls.PollTick t w) is refl
      by calls.Pends is = subst (λ o. SearchesAlike c d wakes p o) is (searched robs)
      by calls.Ends is = subst (λ o. SearchesAlike c d wakes p o) is (searched robs)
      by _ is = tt

  pub counts_next : (k : ℕ) → has_counted a.left.world k ≡ counts_of behind k
  counts_next k =
      theirs.counted k
      ∙ (sym (counted_too wakes_in d c.refusal (has_counted s.world) call_there there k)
      ∙ (counts_alike (by_refusal c.refusal) call p (least (length p.lying)) (counts_of before) (has_counted s.world) same k
      ∙ (counted_too wakes c c.refusal (counts_of before) call p k ∙ sym (its.counted k))))

  pub turns_next : (asks_memory wakes c p call ≡ true → c.refusal ≡ refused_in s a) → IsInStep a.left.world.urgent_turns z.lines.turn
  turns_next refused =
      ap (λ n. n + z.lines.turn % 8) (theirs.turned ∙ ap (λ n. turned n s.world.urgent_turns) as_many)
      ∙ (ap (λ n. turned many s.world.urgent_turns + n % 8) its.turned ∙ still_in_step many s.world.urgent_turns y.lines.turn step)
    where
      many : ℕ
      many = turns_of wakes c call p

      by : (b : Bool) → asks_memory wakes c p call ≡ b → turns_of wakes (record c { refusal = refused_in s a }) call p ≡ many
      by true asks =
          ap (λ r. turns_of wakes (record c { refusal = r }) call p) (sym (refused asks))
      by false asks = turns_too wakes c (refused_in s a) call p asks

      as_many : turns_of wakes_in (record d { refusal = refused_in s a }) call_there there ≡ many
      as_many = turns_as (by_refusal (refused_in s a)) call p (least (length p.lying)) ∙ by (asks_memory wakes c p call) refl

  pub order_next : a.left.world.listed ≡ order_by call_there there s.world.listed → order_of z ≡ order_by call p (order_of y)
      → a.left.world.listed ≡ order_of z
  order_next one two = one ∙ (orders_as call ∙ (ap (order_by call p) ordered ∙ sym two))
    where
      order_in_as : (codes : List (Code T (SoloWaker X))) (order : List ℕ)
          → order_in (map (code_as nothing (numbered number)) codes) order ≡ order_in codes order
      order_in_as [] order = refl
      order_in_as (Poll f by ∷ codes) order = refl
      order_in_as (Drop f end by ∷ codes) order = refl
      order_in_as (Lose awaiter by ∷ codes) order = refl
      order_in_as (PollOwn r w ∷ codes) order = refl
      order_in_as (DropOwn r answer ∷ codes) order = refl
      order_in_as (Close fs all ∷ codes) order = refl

      orders_as : (call : Call T (SoloWaker X))
          → order_by (call_as nothing (numbered number) call) there s.world.listed ≡ order_by call p s.world.listed
      orders_as (calls.PollRun r w) = refl
      orders_as calls.Ends = order_in_as p.inside s.world.listed
      orders_as _ = refl
