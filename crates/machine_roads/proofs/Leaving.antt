-- A tick or run gets up, or leaves the sleepers: its waker goes, or one that was called tells another in its place.
use Rattle.std.proofs.Common.{◌≡◌, ℕ, ◌≤◌, ◌++◌, not, true, false, List, ◌∷◌, length, Option, Some, None}
use Rattle.std.proofs.Common.{is_some, if◌then◌else◌, refl, sym, ap, subst, ◌∙◌, arith}
use Rattle.std.specs.Prelude.{is_none}
use Rattle.executor_parts.specs.Sleepers.{waker_of, woken_up}
use Rattle.task_moves.specs.AbstractTask as abstract
use Rattle.executor_model.specs.declared.op.Op.{Op}
use Rattle.executor_model.specs.declared.op.Op.TheVariants as op
use Rattle.executor_model.specs.declared.op.RunOp.TheVariants as run_op
use Rattle.executor_model.specs.declared.op.Sleeping.{Sleeping}
use Rattle.executor_model.specs.declared.op.TickOp.TheVariants as tick_op
use Rattle.executor_model.specs.declared.op.TickOrRun.{TickOrRun}
use Rattle.executor_model.specs.declared.op.Waker.{Waker}
use Rattle.executor_model.specs.declared.op.Waker.TheVariants.{Task, Outside}
use Rattle.executor_model.specs.ActsOfSleepers.{found_by, given_back, leave_sleepers_by, sleeper_goes, tell_and_return, wake_up_by}
use Rattle.executor_model.specs.SleepersAgree.{sleeps}
use Rattle.executor_model.specs.World.{Asleep, Awake, Done, Left, Ticker, World, place_of, runs_with, ticks_with}
use Rattle.plain_scheduler.specs.State.{Choice, Lying, Plain, Who}
use Rattle.plain_scheduler.specs.Lists.{any, on, without}
use Rattle.plain_scheduler.specs.Moves.{is_called, leaves, let_go, lies, task, tell, up}
use Rattle.machine_roads.specs.View.{Output, wakes}
use Rattle.machine_roads.specs.Road.{Follows, place_in, who_of}
use Rattle.machine_roads.specs.Alone.{is_resting, Has, SleepsAlone}
use Rattle.machine_roads.proofs.Aside.{goes_inside}
use Rattle.machine_roads.proofs.Exchanging.{loudly}
use Rattle.machine_roads.proofs.Lain.{Lies, Up, asleep_up, lies_anew, none_found, numbered_up, one_lies, ups, waker_by}
use Rattle.machine_roads.proofs.Moved.{Then, fits as stays_fit}
use Rattle.machine_roads.proofs.Numbers.{Rests, asleep_set, down, place_is, placed_view, rests_if, sleeps_set, up as is_up}
use Rattle.machine_roads.proofs.Polling.{lets_go_so}
use Rattle.machine_roads.proofs.Stepping.{StepOf, Way, next}
use Rattle.machine_roads.proofs.Unseen.{ran, returned}

-- a waker of one that slept is let go
pub sleeper_goes_so : (p : ℕ) (end : Done) (rests : is_resting end.next ≡ true) (c : Choice) (o : Option Sleeping) (w : World)
    (os : List Op) (q : Plain Output Waker) → Follows w q → length q.lying ≤ c.tells → Way p end w (sleeper_goes o ++ os)
    → Then p end os (on (waker_by o) (let_go wakes (tell wakes c)) q)
sleeper_goes_so p end rests c None w os q follows fit way = record { world = w; follows = follows; way = way }
sleeper_goes_so p end rests c (Some s) w os q follows fit way =
    lets_go_so p end rests (tell wakes c) (λ q. length q.lying ≤ c.tells) (loudly p end rests c)
    (Some (record { waker = s.waker; poll = s.poll })) w os q follows fit way

module _ (p : ℕ) (end : Done) (rests : is_resting end.next ≡ true) (c : Choice) (it : TickOrRun) where
  abbrev who : Who
  who = who_of it

  abbrev more : Plain Output Waker → Plain Output Waker
  more = tell wakes c

  abbrev fits : Plain Output Waker → Type 0
  fits q = length q.lying ≤ c.tells

  abbrev leaving : Option (Lying Waker) → Plain Output Waker → Plain Output Waker
  leaving o q = on o (λ l p. if is_called l then tell wakes c (up wakes c who p) else up wakes c who p) q

  -- one that didn't lie
  goes_up : (w : World) (os : List Op) (q : Plain Output Waker) → Follows w q → sleeps (place_of w it) ≡ 0
      → any (lies who) q.lying ≡ false
      → Way p end (leave_sleepers_by (place_of w it) w it).world ((leave_sleepers_by (place_of w it) w it).next ++ os)
      → Then p end os (leaves wakes c who q)
  goes_up w os q follows still none way =
      subst (Then p end os) (sym (ap (λ o. leaving o q) (none_found (lies who) q.lying none))) (by (place_of w it) still way)
    where
      up_still : sleeps (place_in w.ticks w.runs it) ≡ 0
      up_still = ap sleeps (sym (place_is w it)) ∙ still

      gone : Follows (record w { ticks = ticks_with w.ticks it Left; runs = runs_with w.runs it Left }) q
      gone =
          ran (ticks_with w.ticks it Left) (runs_with w.runs it Left) w.listed q.runs w q follows
          (sleeps_set w.ticks w.runs it Left up_still refl) (asleep_set w.ticks w.runs it Left up_still)
          (placed_view w.runs it Left ∙ follows.runs)

      by : (x : Ticker) → sleeps x ≡ 0 → Way p end (leave_sleepers_by x w it).world ((leave_sleepers_by x w it).next ++ os)
          → Then p end os q
      by Awake awake way =
          record {
            world = (leave_sleepers_by Awake w it).world;
            follows =
                returned (ticks_with w.ticks it Left)
                (record w { ticks = ticks_with w.ticks it Left; runs = runs_with w.runs it Left }) q gone (λ x. refl) (λ x n is. is);
            way = way;
          }
      by Left awake way = record { world = w; follows = follows; way = way }
      by (Asleep n) awake way = absurd (omega (arith, awake))

  module _ (w : World) (os : List Op) (q : Plain Output Waker) (follows : Follows w q) (fit : fits q) (n : ℕ)
      (is : place_of w it ≡ Asleep n) (k : Lies who q.lying) (u : Up n who w q) where
    abbrev q1 : Plain Output Waker
    q1 = record q { lying = without (lies who) q.lying }

    abbrev w1 : World
    w1 = (leave_sleepers_by (Asleep n) w it).world

    follows1 : Follows w1 q1
    follows1 =
        lies_anew w q (woken_up n w.sleepers) (without (lies who) q.lying) (ticks_with w.ticks it Left) (runs_with w.runs it Left)
        follows u.wakers u.count (asleep_up n it w q follows k is Left refl) (numbered_up n it w q follows k is Left refl u)
        (placed_view w.runs it Left)

    fit1 : fits q1
    fit1 = omega (arith, u.fewer, fit)

    abbrev rest : List Op
    rest = op.Run run_op.ReturnRoom ∷ os

    -- its waker is let go, or another is told
    abbrev left_by : Option Waker → Plain Output Waker
    left_by o = if not (is_some o) then more q1 else on o (let_go wakes more) q1

    lets_or_tells : (o : Option Sleeping) → Way p end w1 ((sleeper_goes o ++ tell_and_return (is_none o)) ++ os)
        → Then p end rest (left_by (waker_by o))
    lets_or_tells None way = (loudly p end rests c).tells w1 rest q1 fit1 follows1 way
    lets_or_tells (Some s) way = by s.waker way
      where
        by : (x : Waker) → Way p end w1 ((sleeper_goes (Some (record s { waker = x })) ++ tell_and_return false) ++ os)
            → Then p end rest (let_go wakes more x q1)
        by (Task g) way = sleeper_goes_so p end rests c (Some (record s { waker = Task g })) w1 rest q1 follows1 fit1 way
        by (Outside x) way = sleeper_goes_so p end rests c (Some (record s { waker = Outside x })) w1 rest q1 follows1 fit1 way

    leaves_is : leaves wakes c who q ≡ left_by u.one.waker
    leaves_is =
        ap (λ (o : Option (Lying Waker)). leaving o q) u.found
        ∙ (ap (λ z. if is_called u.one then tell wakes c z else z)
        (ap (λ (o : Option (Lying Waker)). on o (λ l p. on l.waker (let_go wakes more) (record p {
          lying = without (lies who) p.lying;
        })) q) u.found)
        ∙ by u.one.waker)
      where
        by : (o : Option Waker)
            → (if not (is_some o) then more (on o (let_go wakes more) q1) else on o (let_go wakes more) q1) ≡ left_by o
        by None = refl
        by (Some x) = refl

    goes_down : Way p end w1 ((leave_sleepers_by (Asleep n) w it).next ++ os) → Then p end os (leaves wakes c who q)
    goes_down way =
        let g = lets_or_tells (waker_of n w.sleepers.wakers) way in
        let s = next p end rests (op.Run run_op.ReturnRoom) g.world os refl g.way in
        let z = left_by (waker_by (waker_of n w.sleepers.wakers)) in
        subst (Then p end os) (ap left_by u.goes ∙ sym leaves_is)
        (record {
          world = record g.world { sleepers = given_back g.world.sleepers };
          follows = returned g.world.ticks g.world z g.follows (λ x. refl) (λ x n is. is);
          way = s.way;
        })

  pub leaves_on : (w : World) (os : List Op) (q : Plain Output Waker) → Follows w q → fits q
      → Way p end w (op.Tick (tick_op.Leave it) ∷ os) → Then p end os (leaves wakes c who q)
  leaves_on w os q follows fit way = by (rests_if it w q follows (λ n is. step.has))
    where
      step : StepOf Has p end (op.Tick (tick_op.Leave it)) w os
      step = next p end rests (op.Tick (tick_op.Leave it)) w os refl way

      by : Rests w q it → Then p end os (leaves wakes c who q)
      by (is_up awake none) = goes_up w os q follows awake none step.way
      by (down n is named one) =
          goes_down w os q follows fit n is (one_lies who q.lying one) (ups n who w q follows named one)
          (subst (λ x. Way p end (leave_sleepers_by x w it).world ((leave_sleepers_by x w it).next ++ os)) is step.way)

  -- one that has found something gets up
  pub record GotUp (os : List Op) (q : Plain Output Waker) : Type 0 where
    pub so_up : Then p end os (up wakes c who q)
    pub fit_up : fits (up wakes c who q)
    pub inside_up : (up wakes c who q).inside ≡ q.inside

  abbrev rising : Option (Lying Waker) → Plain Output Waker → Plain Output Waker
  rising o q = on o (λ l p. on l.waker (let_go wakes more) (record p { lying = without (lies who) p.lying })) q

  let_go_fits : (o : Option Waker) (q : Plain Output Waker) → fits q → fits (on o (let_go wakes more) q)
  let_go_fits None q fit = fit
  let_go_fits (Some (Outside x)) q fit = fit
  let_go_fits (Some (Task g)) q fit = stays_fit p end rests more fits (loudly p end rests c) g (abstract.release (task g q)) q fit

  rises : (w : World) (os : List Op) (q : Plain Output Waker) → Follows w q → fits q → Rests w q it
      → Way p end w (found_by (place_of w it) it os) → GotUp os q
  rises w os q follows fit (is_up awake none) way =
      let same : up wakes c who q ≡ q = ap (λ o. rising o q) (none_found (lies who) q.lying none) in
      record {
        so_up = subst (Then p end os) (sym same) (record { world = w; follows = follows; way = by (place_of w it) awake way });
        fit_up = subst fits (sym same) fit;
        inside_up = ap (λ (q : Plain Output Waker). q.inside) same;
      }
    where
      by : (x : Ticker) → sleeps x ≡ 0 → Way p end w (found_by x it os) → Way p end w os
      by Awake awake way = way
      by Left awake way = way
      by (Asleep n) awake way = absurd (omega (arith, awake))
  rises w os q follows fit (down n is named one) way =
      let u = ups n who w q follows named one in
      let wakes_up = op.Tick (tick_op.WakeUp it) in
      let asleep : Way p end w (wakes_up ∷ os) = subst (λ x. Way p end w (found_by x it os)) is way in
      let step = next p end rests wakes_up w os refl asleep in
      let w2 = (wake_up_by (Asleep n) w it).world in
      let now : Way p end w2 ((wake_up_by (Asleep n) w it).next ++ os) =
      subst (λ x. Way p end (wake_up_by x w it).world ((wake_up_by x w it).next ++ os)) is step.way in
      let q2 : Plain Output Waker = record q { lying = without (lies who) q.lying } in
      let follows2 : Follows w2 q2 =
      lies_anew w q (woken_up n w.sleepers) (without (lies who) q.lying) (ticks_with w.ticks it Awake) (runs_with w.runs it Awake)
      follows u.wakers u.count (asleep_up n it w q follows (one_lies who q.lying one) is Awake refl)
      (numbered_up n it w q follows (one_lies who q.lying one) is Awake refl u) (placed_view w.runs it Awake) in
      let fit2 : fits q2 = omega (arith, u.fewer, fit) in
      let g = sleeper_goes_so p end rests c (waker_of n w.sleepers.wakers) w2 os q2 follows2 fit2 now in
      let o : Option Waker = waker_by (waker_of n w.sleepers.wakers) in
      let same : up wakes c who q ≡ on o (let_go wakes more) q2 =
      ap (λ o. rising o q) u.found ∙ ap (λ o. on o (let_go wakes more) q2) (sym u.goes) in
      record {
        so_up = subst (Then p end os) (sym same) g;
        fit_up = subst fits (sym same) (let_go_fits o q2 fit2);
        inside_up = ap (λ (q : Plain Output Waker). q.inside) same ∙ goes_inside c o q2;
      }

  pub gets_up : (w : World) (os : List Op) (q : Plain Output Waker) → Follows w q → fits q
      → Way p end w (found_by (place_of w it) it os) → GotUp os q
  gets_up w os q follows fit way = rises w os q follows fit (rests_if it w q follows only) way
    where
      wakes_up : Op
      wakes_up = op.Tick (tick_op.WakeUp it)

      only : (n : ℕ) → place_of w it ≡ Asleep n → SleepsAlone w it
      only n is =
          (next p end rests wakes_up w os refl (subst (λ x. Way p end w (found_by x it os)) is way)).has
