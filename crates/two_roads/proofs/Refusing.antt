-- What memory refuses in a call is seen in what the call answers and in who lies behind it.
use Rattle.std.proofs.Common.{◌≡◌, ℕ, ◌<◌, nat_lt, cond, not, Bool, true, false, List, [], ◌∷◌, ◌++◌, length, map, Option, Some, None}
use Rattle.std.proofs.Common.{find, is_some, slice_get, slice_set, refl, sym, ap, subst, ◌∙◌, arith}
use Rattle.std.proofs.lemmas.Bool.Decides.{nat_tests}
use Rattle.executor_parts.specs.declared.mark.Mark.{Mark}
use Rattle.executor_parts.specs.declared.mark.Mark.TheVariants.{Plain as PlainMark, Urgent}
use Rattle.executor_model.specs.declared.op.Waker.{Waker}
use Rattle.executor_model.specs.World.{Done, World}
use Rattle.task_moves.specs.AbstractTask as abstract
use Rattle.task_moves.specs.AbstractTask.{AbstractTask}
use Rattle.plain_scheduler.specs.State.{Answers, ARun, ATick, AtOnce, Choice, Code, Due, Event, Full}
use Rattle.plain_scheduler.specs.State.{Later, Lying, Made, NoMemory, Pending, Plain, Refusal, Run, Running}
use Rattle.plain_scheduler.specs.State.{Tick}
use Rattle.plain_scheduler.specs.State.{Granted, Who}
use Rattle.plain_scheduler.specs.Lists.{any, on, or, without}
use Rattle.plain_scheduler.specs.Moves.{answers, appended, chosen, copied, is_common, looks, put, runs, task, tell}
use Rattle.plain_scheduler.specs.Moves as moves
use Rattle.plain_scheduler.specs.Takes as takes
use Rattle.plain_scheduler.specs.Calls as calls
use Rattle.plain_scheduler.specs.Calls.{Call, does, is_granted, living_from}
use Rattle.plain_scheduler.specs.Searches.{Search, finds, searches}
use Rattle.plain_scheduler.specs.Searches.{searches_inside}
use Rattle.plain_scheduler.specs.Turns.{turns_of}
use Rattle.plain_scheduler.specs.Usual.{run_turns, vain_turns}
use Rattle.executor_parts.specs.Sleepers.{Sleepers}
use Rattle.executor_model.specs.declared.op.Sleeping.{Sleeping}
use Rattle.machine_roads.specs.Dropped.{answered, loses, without_run}
use Rattle.machine_roads.specs.DropActs.{StandsDropping, behind, drops}
use Rattle.machine_roads.specs.Forgotten.{unawaited, without_awaiter}
use Rattle.machine_roads.specs.InLoss.{without_handles}
use Rattle.machine_roads.specs.Refused.{IsLaterAnew, OneMoreLies, in_vain}
use Rattle.machine_roads.specs.Road.{Follows, sleeper, uncalled}
use Rattle.machine_roads.specs.View.{Output, wakes as wakes_in}
use Rattle.machine_roads.specs.Within.{StandsAlike, alike, dropping, forgetting, forgotten, going, losing, untaken}
use Rattle.machine_roads.proofs.InLoss.{sleepers_through}
use Rattle.machine_roads.proofs.Puts.{put_by}
use Rattle.machine_roads.proofs.RunLies.{none_due}
use Rattle.machine_roads.proofs.Silent.{none_told, vain_at}
use Rattle.machine_roads.proofs.TickPolls.{nothing_is}
use Rattle.plain_laws.proofs.Searching.{closes_none, ends_none, gives_none, pends_none, searching}
use Rattle.plain_laws.proofs.TakesDue.{chosen_found}
use Rattle.two_roads.specs.Refusing.{asks_memory, ends_refused, has_to_wait, refused_so}
use Rattle.two_roads.specs.Renaming.{call_as, is_refusal}
use Rattle.two_roads.proofs.Moving.{Few, Setting, now, task_alike}
use Rattle.two_roads.proofs.Sought.{Sought, both_search, none_searches, sought_alike}
use Rattle.two_roads.proofs.Tasks.{polled_as, asks_so as polled_so}
use Rattle.two_roads.proofs.Words.{length_map}

module _ {T A : Type 0} where
  pub last_is : (es : List (Event T A)) (e : Event T A) → ends_refused (es ++ e ∷ []) ≡ is_refusal e
  last_is [] e = refl
  last_is (x ∷ []) e = refl
  last_is (x ∷ y ∷ ys) e = last_is (y ∷ ys) e

  pub map_last : {U B : Type 0} (f : Event T A → Event U B) → ((e : Event T A) → is_refusal (f e) ≡ is_refusal e)
      → (es : List (Event T A)) → ends_refused (map f es) ≡ ends_refused es
  map_last f is [] = refl
  map_last f is (x ∷ []) = is x
  map_last f is (x ∷ y ∷ ys) = map_last f is (y ∷ ys)

granted_so : (b m : Bool) → is_granted (refused_so b m) ≡ not b
granted_so false m = refl
granted_so true false = refl
granted_so true true = refl

pub more_test : (n m : ℕ) → n < m → nat_lt n m ≡ true
more_test n m is = grind (arith, nat_tests)

pub same_test : (n : ℕ) → nat_lt n n ≡ false
same_test n = grind (arith, nat_tests)

-- the same but for the names of outputs and wakers
module _ {T U A B : Type 0} (k : Setting T U A B) where
  found_as : (o : Option (Search T A)) (o_as : Option (Search U B)) → Sought k o o_as
      → or o_as (λ x. not (finds x)) false ≡ or o (λ x. not (finds x)) false
  found_as o o_as none_searches = refl
  found_as o o_as (both_search x few) = refl

  vain_as : (call : Call T A) (p : Plain T A) → Few k p
      → in_vain k.wakes_as k.other (call_as k.output k.waker call) (now k p) ≡ in_vain k.wakes k.choice call p
  vain_as call p few =
      found_as (searches k.wakes k.choice call p) (searches k.wakes_as k.other (call_as k.output k.waker call) (now k p))
      (sought_alike k call p few)

  pub asks_so : (call : Call T A) (p : Plain T A) → Few k p
      → asks_memory k.wakes_as k.other (now k p) (call_as k.output k.waker call) ≡ asks_memory k.wakes k.choice p call
  asks_so (calls.PollHandle f w) p few =
      ap has_to_wait
      (sym (polled_so k.output k.waker (task f p) ∙ ap (λ (t : AbstractTask U B). abstract.polled t) (task_alike k f p)))
      ∙ by (abstract.polled (task f p))
    where
      by : (o : abstract.Polled T) → has_to_wait (polled_as k.output k.waker o) ≡ has_to_wait o
      by (abstract.Polled.Output v) = refl
      by abstract.Polled.Cancelled = refl
      by abstract.Polled.Waits = refl
  asks_so calls.Pends p few = vain_as calls.Pends p few
  asks_so calls.Ends p few = vain_as calls.Ends p few
  asks_so call p few = refl

-- a call that asks for memory
module _ (d : Choice) (x : Refusal) where
  abbrev e : Choice
  e = record d { refusal = x }

  abbrev lie : Plain Output Waker → ℕ
  lie p = length (uncalled p.lying)

  -- what is refused is read off both
  abbrev IsSeen : Plain Output Waker → Plain Output Waker → Type 0
  IsSeen q r = x ≡ refused_so (ends_refused r.events) (nat_lt (lie q) (lie r))

  by_grant : (q made refused : Plain Output Waker) → ends_refused made.events ≡ false → ends_refused refused.events ≡ true → (b : Bool)
      → IsSeen q (cond b made refused) → cond (is_granted x) made refused ≡ cond b made refused
  by_grant q made refused not_so so true is =
      ap (λ g. cond g made refused)
      (ap is_granted is ∙ (granted_so (ends_refused made.events) (nat_lt (lie q) (lie made)) ∙ ap not not_so))
  by_grant q made refused not_so so false is =
      ap (λ g. cond g made refused)
      (ap is_granted is ∙ (granted_so (ends_refused refused.events) (nat_lt (lie q) (lie refused)) ∙ ap not so))

  -- where both end so
  grants : (q z : Plain Output Waker) (b : Bool) → IsSeen q (cond b (answers Made z) (answers NoMemory q))
      → cond (is_granted x) (answers Made z) (answers NoMemory q) ≡ cond b (answers Made z) (answers NoMemory q)
  grants q z b is =
      by_grant q (answers Made z) (answers NoMemory q) (last_is z.events (Answers Made)) (last_is q.events (Answers NoMemory)) b is

  spawned : (m : Mark) (q : Plain Output Waker) → IsSeen q (does wakes_in d (calls.Spawn m) q)
      → does wakes_in e (calls.Spawn m) q ≡ does wakes_in d (calls.Spawn m) q
  spawned m q is = by (nat_lt (length (living_from 0 q.futures)) q.limit) is
    where
      z : Plain Output Waker
      z = tell wakes_in d (appended (length q.futures) (calls.entered wakes_in d m q))

      by : (b : Bool) → IsSeen q (cond b (cond (is_granted d.refusal) (answers Made z) (answers NoMemory q)) (answers Full q))
          → cond b (cond (is_granted x) (answers Made z) (answers NoMemory q)) (answers Full q)
          ≡ cond b (cond (is_granted d.refusal) (answers Made z) (answers NoMemory q)) (answers Full q)
      by true is = grants q z (is_granted d.refusal) is
      by false is = refl

  polled : (f : ℕ) (w : Waker) (q : Plain Output Waker) (o : abstract.Polled Output) → IsSeen q (calls.handle_by wakes_in d f w o q)
      → calls.handle_by wakes_in e f w o q ≡ calls.handle_by wakes_in d f w o q
  polled f w q (abstract.Polled.Output v) is = refl
  polled f w q abstract.Polled.Cancelled is = refl
  polled f w q abstract.Polled.Waits is =
      by_grant q (calls.registered wakes_in d f w (copied wakes_in w q)) (answers NoMemory q)
      (last_is
      (on (abstract.poll w (task f (copied wakes_in w q))).let_go (moves.let_go wakes_in (tell wakes_in d))
      (put f (abstract.poll w (task f (copied wakes_in w q))).task (copied wakes_in w q))).events
      (Answers Pending))
      (last_is q.events (Answers NoMemory)) (is_granted d.refusal) is

  -- who finds nothing
  seen_at : (who : Who) (w : Waker) (q : Plain Output Waker) (r : Refusal) → (r ≡ Later → OneMoreLies q (takes.rests wakes_in d r who w q))
      → IsSeen q (takes.rests wakes_in d r who w q) → x ≡ r
  seen_at who w q r anew is = is ∙ seen r anew
    where
      lain : Plain Output Waker
      lain = takes.lies_down wakes_in d who w q

      seen : (r : Refusal) → (r ≡ Later → OneMoreLies q (takes.rests wakes_in d r who w q))
          → refused_so (ends_refused (takes.rests wakes_in d r who w q).events)
          (nat_lt (lie q) (lie (takes.rests wakes_in d r who w q)))
          ≡ r
      seen Granted anew = ap (λ b. refused_so b (nat_lt (lie q) (lie lain))) (last_is lain.events (Answers Pending))
      seen AtOnce anew =
          ap (λ b. refused_so b (nat_lt (lie q) (lie q))) (last_is q.events (Answers NoMemory))
          ∙ ap (λ b. refused_so true b) (same_test (lie q))
      seen Later anew =
          ap (λ b. refused_so b (nat_lt (lie q) (lie lain))) (last_is lain.events (Answers NoMemory))
          ∙ ap (λ b. refused_so true b) (more_test (lie q) (lie lain) (anew refl))

  rested : (who : Who) (w : Waker) (q : Plain Output Waker) (r : Refusal) → (r ≡ Later → OneMoreLies q (takes.rests wakes_in d r who w q))
      → IsSeen q (takes.rests wakes_in d r who w q) → takes.rests wakes_in e x who w q ≡ takes.rests wakes_in d r who w q
  rested who w q r anew is = ap (λ r. takes.rests wakes_in d r who w q) (seen_at who w q r anew is)

  abbrev took : ℕ → Waker → Plain Output Waker → Refusal → Option Due → Plain Output Waker
  took t w q r o =
      or o
      (λ due. takes.takes wakes_in d (Tick t w) due (record q { due = without (chosen (looks d (Tick t w)) q.due) q.due }))
      (takes.rests wakes_in d r (ATick t) w q)

  ticked : (t : ℕ) (w : Waker) (q : Plain Output Waker) → IsLaterAnew d (calls.PollTick t w) q
      (does wakes_in d (calls.PollTick t w) q)
      → IsSeen q (does wakes_in d (calls.PollTick t w) q)
      → does wakes_in e (calls.PollTick t w) q ≡ does wakes_in d (calls.PollTick t w) q
  ticked t w q anew is = by (find (chosen (looks d (Tick t w)) q.due) q.due) anew is
    where
      by : (o : Option Due) → (d.refusal ≡ Later → OneMoreLies q (took t w q d.refusal o)) → IsSeen q (took t w q d.refusal o)
          → took t w q x o ≡ took t w q d.refusal o
      by None anew is = rested (ATick t) w q d.refusal anew is
      by (Some due) anew is = refl

  -- a run that searches in vain rests, and those lie there that lay before the call
  none_taken : (c : Choice) (r : ℕ) (w : Waker) (q : Plain Output Waker) → q.due ≡ []
      → takes.take wakes_in c (Run r w) q ≡ takes.rests wakes_in c c.refusal (ARun r) w q
  none_taken c r w q none =
      ap
      (λ (ds : List Due). or (find (chosen (looks c (Run r w)) q.due) ds)
      (λ due. takes.takes wakes_in c (Run r w) due (record q { due = without (chosen (looks c (Run r w)) q.due) q.due }))
      (takes.rests wakes_in c c.refusal (ARun r) w q)) none

  module _ (call : Call Output Waker) (q : Plain Output Waker) (y : Search Output Waker) (at : searches wakes_in d call q ≡ Some y)
      (none : finds y ≡ false) (anew : d.refusal ≡ Later → OneMoreLies q (does wakes_in d call q))
      (is : IsSeen q (does wakes_in d call q)) where
    rests_as : (c : Choice) → searches wakes_in c call q ≡ Some y
        → does wakes_in c call q ≡ takes.rests wakes_in c c.refusal (ARun y.run) y.waker y.at
    rests_as c at =
        searching wakes_in c call q y at ∙ none_taken c y.run y.waker y.at (none_due y.at.due none)

    same_lie : lie q ≡ lie y.at
    same_lie = ap (λ (ls : List (Lying Waker)). length (uncalled ls)) (sym (none_told wakes_in d call q y at none))

    anew_there : d.refusal ≡ Later → OneMoreLies y.at (takes.rests wakes_in d d.refusal (ARun y.run) y.waker y.at)
    anew_there later =
        subst (λ n. n < lie (takes.rests wakes_in d d.refusal (ARun y.run) y.waker y.at)) same_lie
        (subst (λ z. OneMoreLies q z) (rests_as d at) (anew later))

    seen_there : IsSeen y.at (takes.rests wakes_in d d.refusal (ARun y.run) y.waker y.at)
    seen_there =
        let z = takes.rests wakes_in d d.refusal (ARun y.run) y.waker y.at in
        subst (λ n. x ≡ refused_so (ends_refused z.events) (nat_lt n (lie z))) same_lie
        (subst (λ z. IsSeen q z) (rests_as d at) is)

    vain_seen : x ≡ d.refusal
    vain_seen = seen_at (ARun y.run) y.waker y.at d.refusal anew_there seen_there

    vain_same : does wakes_in e call q ≡ does wakes_in d call q
    vain_same =
        rests_as e at
        ∙ (rested (ARun y.run) y.waker y.at d.refusal anew_there seen_there ∙ sym (rests_as d at))

  looked : (call : Call Output Waker) (q : Plain Output Waker) → in_vain wakes_in d call q ≡ true
      → (d.refusal ≡ Later → OneMoreLies q (does wakes_in d call q)) → IsSeen q (does wakes_in d call q)
      → does wakes_in e call q ≡ does wakes_in d call q
  looked call q vain anew is =
      let y = vain_at (searches wakes_in d call q) vain in vain_same call q y.at y.is y.none anew is

  searched : (call : Call Output Waker) (q : Plain Output Waker) → in_vain wakes_in d call q ≡ true
      → (d.refusal ≡ Later → OneMoreLies q (does wakes_in d call q)) → IsSeen q (does wakes_in d call q)
      → or (searches wakes_in e call q) (run_turns x) 0 ≡ or (searches wakes_in d call q) (run_turns d.refusal) 0
  searched call q vain anew is =
      let y = vain_at (searches wakes_in d call q) vain in
      ap (λ r. or (searches wakes_in d call q) (run_turns r) 0) (vain_seen call q y.at y.is y.none anew is)

  pub seen_refused : (call : Call Output Waker) (q : Plain Output Waker) → asks_memory wakes_in d q call ≡ true
      → IsLaterAnew d call q (does wakes_in d call q) → IsSeen q (does wakes_in d call q)
      → does wakes_in e call q ≡ does wakes_in d call q
  seen_refused (calls.Spawn m) q asks anew is = spawned m q is
  seen_refused (calls.Copy f) q asks anew is = grants q (put f (abstract.copy (task f q)) q) (is_granted d.refusal) is
  seen_refused (calls.PollHandle f w) q asks anew is = polled f w q (abstract.polled (task f q)) is
  seen_refused calls.NewTick q asks anew is = grants q q (is_granted d.refusal) is
  seen_refused (calls.PollTick t w) q asks anew is = ticked t w q anew is
  seen_refused calls.NewRun q asks anew is =
      grants q (record q { runs = q.runs ++ record { taken = 0; is_over = false } ∷ [] }) (is_granted d.refusal) is
  seen_refused calls.Pends q asks anew is = looked calls.Pends q asks (anew asks) is
  seen_refused calls.Ends q asks anew is = looked calls.Ends q asks (anew asks) is
  seen_refused call q asks anew is = absurd cc

  -- so many turns are then taken by what is seen as by what was refused
  pub turns_seen : (call : Call Output Waker) (q : Plain Output Waker) → asks_memory wakes_in d q call ≡ true
      → IsLaterAnew d call q (does wakes_in d call q) → IsSeen q (does wakes_in d call q)
      → turns_of wakes_in e call q ≡ turns_of wakes_in d call q
  turns_seen (calls.PollTick t w) q asks anew is = by (any (is_common PlainMark) q.due) refl (any (is_common Urgent) q.due) refl
    where
      of : Bool → Bool → Refusal → ℕ
      of a b r = cond a 1 (cond b 1 (vain_turns r (ATick t) q.lying))

      by : (a : Bool) → any (is_common PlainMark) q.due ≡ a → (b : Bool) → any (is_common Urgent) q.due ≡ b
          → of (any (is_common PlainMark) q.due) (any (is_common Urgent) q.due) x
          ≡ of (any (is_common PlainMark) q.due) (any (is_common Urgent) q.due) d.refusal
      by true one b two = ap (λ a. of a (any (is_common Urgent) q.due) x) one ∙ sym
          (ap (λ a. of a (any (is_common Urgent) q.due) d.refusal) one)
      by false one true two = ap (λ a. of a (any (is_common Urgent) q.due) x) one ∙ (ap (λ b. of false b x) two
          ∙ sym (ap (λ a. of a (any (is_common Urgent) q.due) d.refusal) one ∙ ap (λ b. of false b d.refusal) two))
      by false one false two =
          let none : (m : Mark) → any (is_common m) q.due ≡ false = neither one two in
          let rests = nothing_is d t w d.refusal q none in
          ap (λ r. of (any (is_common PlainMark) q.due) (any (is_common Urgent) q.due) r)
          (seen_at (ATick t) w q d.refusal (subst (λ z. d.refusal ≡ Later → OneMoreLies q z) rests anew)
          (subst (λ z. IsSeen q z) rests is))
        where
          neither : any (is_common PlainMark) q.due ≡ false → any (is_common Urgent) q.due ≡ false → (m : Mark)
              → any (is_common m) q.due ≡ false
          neither one two PlainMark = one
          neither one two Urgent = two
  turns_seen calls.Pends q asks anew is = searched calls.Pends q asks (anew asks) is
  turns_seen calls.Ends q asks anew is = searched calls.Ends q asks (anew asks) is
  turns_seen calls.TryTick q asks anew is = refl
  turns_seen call q asks anew is = by q.inside
    where
      by : (codes : List (Code Output Waker))
          → or (searches_inside wakes_in e call codes q) (run_turns x) 0 ≡ or (searches_inside wakes_in d call codes q)
          (run_turns d.refusal) 0
      by [] = refl
      by (code ∷ codes) = refl

-- to one that asks for none it is nothing
abbrev otherwise : Choice → Refusal → Choice
otherwise c x = record c { refusal = x }

module _ {T A : Type 0} (wakes : A → Option ℕ) (c : Choice) (x : Refusal) where
  -- a run that finds one
  found_same : (call : Call T A) (p : Plain T A) (y : Search T A) → searches wakes c call p ≡ Some y → finds y ≡ true
      → does wakes (otherwise c x) call p ≡ does wakes c call p
  found_same call p y is found =
      searching wakes (otherwise c x) call p y is
      ∙ (by (find test y.at.due) (chosen_found y.run c y.at.due found) ∙ sym (searching wakes c call p y is))
    where
      test : Due → Bool
      test = chosen (looks c (Run y.run y.waker)) y.at.due

      taken : Choice → Option Due → Plain T A
      taken d o =
          or o (λ due. takes.takes wakes d (Run y.run y.waker) due (record y.at { due = without test y.at.due }))
          (takes.nothing wakes d (Run y.run y.waker) y.at)

      by : (o : Option Due) → is_some o ≡ true → taken (otherwise c x) o ≡ taken c o
      by None is = absurd cc
      by (Some due) is = refl

  -- code that ends
  ended : (call : Call T A) (p : Plain T A) → in_vain wakes c call p ≡ false
      → (searches wakes c call p ≡ None → does wakes (otherwise c x) call p ≡ does wakes c call p)
      → does wakes (otherwise c x) call p ≡ does wakes c call p
  ended call p asks none = by (searches wakes c call p) refl asks
    where
      some : (y : Search T A) → searches wakes c call p ≡ Some y → (b : Bool) → finds y ≡ b → not b ≡ false
          → does wakes (otherwise c x) call p ≡ does wakes c call p
      some y is true found asks = found_same call p y is found
      some y is false found asks = absurd cc

      by : (o : Option (Search T A)) → searches wakes c call p ≡ o → or o (λ x. not (finds x)) false ≡ false
          → does wakes (otherwise c x) call p ≡ does wakes c call p
      by None is asks = none is
      by (Some y) is asks = some y is (finds y) refl asks

  pub unasked : (call : Call T A) (p : Plain T A) → asks_memory wakes c p call ≡ false
      → does wakes (otherwise c x) call p ≡ does wakes c call p
  unasked calls.TryTick p asks = refl
  unasked calls.IsEmpty p asks = refl
  unasked (calls.Wake f) p asks = refl
  unasked (calls.Use f) p asks = refl
  unasked (calls.Release f) p asks = refl
  unasked (calls.PollHandle f w) p asks = by (abstract.polled (task f p)) asks
    where
      by : (o : abstract.Polled T) → has_to_wait o ≡ false → calls.handle_by wakes (otherwise c x) f w o p ≡ calls.handle_by wakes c f w o p
      by (abstract.Polled.Output v) asks = refl
      by abstract.Polled.Cancelled asks = refl
      by abstract.Polled.Waits asks = absurd cc
  unasked (calls.Cancel f) p asks = refl
  unasked (calls.Detach f) p asks = refl
  unasked (calls.DropHandle f) p asks = refl
  unasked (calls.DropTick t) p asks = refl
  unasked (calls.PollRun r w) p asks = refl
  unasked (calls.DropRun r) p asks = refl
  unasked calls.Leak p asks = refl
  unasked calls.DropExecutor p asks = closes_none wakes c (otherwise c x) (living_from 0 p.futures) (living_from 0 p.futures) p
  unasked calls.Pends p asks = ended calls.Pends p asks (λ none. pends_none wakes c (otherwise c x) p.inside p none)
  unasked (calls.EndsWith v) p asks = gives_none wakes c (otherwise c x) v p.inside p
  unasked calls.Ends p asks = ended calls.Ends p asks (λ none. ends_none wakes c (otherwise c x) p.inside p none)
  unasked call p asks = absurd cc

-- wherever a party rests, the wakers of those that sleep are those of who lies and wasn't called
abbrev pub Lie : World → Plain Output Waker → Type 0
Lie w q = length w.sleepers.wakers ≡ length (uncalled q.lying)

lie_of : (w : World) (q : Plain Output Waker) → Follows w q → Lie w q
lie_of w q follows = sym (length_map sleeper w.sleepers.wakers) ∙ ap (λ ls. length ls) follows.wakers

runs_lie : (h : Running → Running) (r : ℕ) (q : Plain Output Waker) → (runs h r q).lying ≡ q.lying
runs_lie h r q = by (slice_get q.runs r)
  where
    by : (o : Option Running) → (on o (λ run p. record p { runs = slice_set p.runs r (h run) }) q).lying ≡ q.lying
    by None = refl
    by (Some run) = refl

lie_without : (fs : List ℕ) (w : World) (q : Plain Output Waker) → Follows (without_handles fs w) q → Lie w q
lie_without fs w q follows =
    ap (λ (ss : Sleepers Sleeping). length ss.wakers) (sym (sleepers_through fs w)) ∙ lie_of (without_handles fs w) q follows

pub lie_in : (e : Done) (q : Plain Output Waker) → StandsAlike e q → Lie e.world q
lie_in e q (alike nested follows) = lie_of e.world q follows
lie_in e q (losing f fs below codes nested stops) = lie_without (f ∷ fs) e.world q stops.losing.follows
lie_in e q (going r fs below codes nested stops) =
    lie_without fs e.world (runs (λ run. record run { is_over = true }) r q) stops.losing.follows
    ∙ ap (λ ls. length (uncalled ls)) (runs_lie (λ run. record run { is_over = true }) r q)
lie_in e q (dropping taker final below f b it nested (answered next inside follows)) = lie_of e.world q follows
lie_in e q (dropping taker final below f b it nested (loses awaiter next inside ending)) = lie_of (without_run f e.world) q ending.follows
lie_in e q (untaken taker final below f awaiter g gs codes it nested stops) =
    lie_without (g ∷ gs) (without_run f e.world) q stops.stands.follows.follows
lie_in e q (forgetting taker final below f b it nested stops) =
    lie_of (without_awaiter f e.world) (unawaited f q) stops.forgotten.follows
    ∙ put_by (λ p. length (uncalled p.lying)) f (record (task f q) { awaiter = None }) q (λ fs. refl)
lie_in e q (forgotten taker final below f g gs codes it nested stops) =
    lie_without (g ∷ gs) (without_awaiter f e.world) (unawaited f q) stops.stands.follows.follows
    ∙ put_by (λ p. length (uncalled p.lying)) f (record (task f q) { awaiter = None }) q (λ fs. refl)

pub lie_in_drop : (e : Done) (q : Plain Output Waker) → StandsDropping e q → Lie e.world q
lie_in_drop e q (drops gs f fs all next stands) =
    ap (λ (ss : Sleepers Sleeping). length ss.wakers) (sym (sleepers_through gs e.world))
    ∙ lie_of (record (without_handles gs e.world) { table = fs }) q stands.left.follows
lie_in_drop e q (behind gs waits stops) = lie_without gs e.world q stops.losing.follows
