-- The owner's ticks stay the machine's that live.
use Rattle.std.proofs.Common.{◌≡◌, ℕ, zero, suc, ◌==◌, ◌&&◌, ◌++◌, not, if◌then◌else◌, Bool, true, false, List, [], ◌∷◌, length, get_or}
use Rattle.std.proofs.Common.{refl, sym, ap, ◌∙◌, arith}
use Rattle.std.proofs.lemmas.Bool.Decides.{nat_tests}
use Rattle.executor_model.specs.declared.op.Waker.{Waker}
use Rattle.executor_model.specs.Steps.{Machine, lives}
use Rattle.executor_model.specs.World.{Awake, Left, Ticker, World, tick_of}
use Rattle.solo.specs.declared.names.SoloWaker.{SoloWaker}
use Rattle.solo.specs.declared.runs.Runner.{Runner}
use Rattle.solo.specs.declared.solo.Solo.{Solo}
use Rattle.plain_scheduler.specs.State.{ATick, Answers, Choice, Event, Granted, Made, NoMemory, Plain}
use Rattle.plain_scheduler.specs.Lists.{without}
use Rattle.plain_scheduler.specs.Calls as calls
use Rattle.plain_scheduler.specs.Calls.{Call, is_granted}
use Rattle.machine_roads.specs.Seeing.{heard_in}
use Rattle.machine_roads.specs.View.{Output}
use Rattle.machine_roads.specs.Within.{Act}
use Rattle.machine_roads.proofs.Lists.{same_of}
use Rattle.machine_roads.proofs.LoneRuns.{both_true}
use Rattle.machine_roads.proofs.TicksBehind.{MadeTick, TicksBy}
use Rattle.machine_roads.proofs.TicksLiving.{LivesSo}
use Rattle.solo_laws.specs.Courses as courses
use Rattle.solo_laws.specs.Courses.{Acts, Makes}
use Rattle.solo_laws.specs.Making.{NamesTick, acted_as, by_number}
use Rattle.solo_laws.specs.Owner.{Owner, has_tick, renumbered}
use Rattle.solo_laws.specs.Road.{apart, is_in}
use Rattle.solo_laws.specs.Ticking.{number_after}
use Rattle.solo_laws.specs.RunGoing.{IsEnding, RunsOn, Searches, Stage, drop_ends, gives_way, loss_ends, poll_ends, is_refused}
use Rattle.solo_laws.specs.RunGoing.{lies_refused, looks_on, rests, robs_another, takes_common}
use Rattle.solo_laws.specs.RunGoing.{takes_own}
use Rattle.two_roads.specs.Happening.{call_by}
use Rattle.two_roads.specs.Refusing.{ends_refused, refused_in, refused_so}
use Rattle.two_roads.specs.Renaming.{is_refusal}
use Rattle.two_roads.proofs.Refusing.{last_is}

-- one of a list in which each is once goes
both_same : (t u v : ℕ) → (t == v) ≡ true → (u == v) ≡ (u == t)
both_same t u v is = ap (λ n. u == n) (sym (same_of t v is))

off_in : (u v : ℕ) (vs : List ℕ) → is_in v vs ≡ false → (u == v) ≡ true → is_in u vs ≡ false
off_in u v vs off is = ap (λ n. is_in n vs) (same_of u v is) ∙ off

not_true : (b : Bool) → not b ≡ true → b ≡ false
not_true false is = refl
not_true true is = absurd cc

without_in : (t u : ℕ) (vs : List ℕ) → apart vs ≡ true
    → is_in u (without (λ v. t == v) vs) ≡ (if u == t then false else is_in u vs)
without_in t u [] once = by (u == t)
  where
    by : (b : Bool) → false ≡ (if b then false else false)
    by true = refl
    by false = refl
without_in t u (v ∷ vs) once = by (t == v) refl (u == t) refl (without_in t u vs two.1)
  where
    two : (not (is_in v vs) ≡ true) × (apart vs ≡ true)
    two = both_true (not (is_in v vs)) (apart vs) once

    by : (b : Bool) → (t == v) ≡ b → (e : Bool) → (u == t) ≡ e
        → is_in u (without (λ v. t == v) vs) ≡ (if u == t then false else is_in u vs)
        → is_in u (if b then vs else v ∷ without (λ v. t == v) vs) ≡ (if e then false else (if u == v then true else is_in u vs))
    by true here true same rest = off_in u v vs (not_true (is_in v vs) two.0) (both_same t u v here ∙ same)
    by true here false other rest =
        ap (λ b. if b then true else is_in u vs) (sym (both_same t u v here ∙ other))
    by false apart_it true same rest =
        ap (λ b. if b then true else is_in u (without (λ v. t == v) vs)) (ap (λ n. n == v) (same_of u t same) ∙ apart_it)
        ∙ (rest ∙ ap (λ b. if b then false else is_in u vs) same)
    by false apart_it false other rest =
        ap (λ b. if u == v then true else b) (rest ∙ ap (λ b. if b then false else is_in u vs) other)

fewer_in : (t u : ℕ) (vs : List ℕ) → is_in u vs ≡ false → is_in u (without (λ v. t == v) vs) ≡ false
fewer_in t u [] off = refl
fewer_in t u (v ∷ vs) off = by (u == v) refl (t == v) off (fewer_in t u vs)
  where
    by : (e : Bool) → (u == v) ≡ e → (b : Bool) → (if e then true else is_in u vs) ≡ false
        → (is_in u vs ≡ false → is_in u (without (λ v. t == v) vs) ≡ false)
        → is_in u (if b then vs else v ∷ without (λ v. t == v) vs) ≡ false
    by true is b off rest = absurd cc
    by false is true off rest = off
    by false is false off rest = ap (λ b. if b then true else is_in u (without (λ v. t == v) vs)) is ∙ rest off

apart_without : (t : ℕ) (vs : List ℕ) → apart vs ≡ true → apart (without (λ v. t == v) vs) ≡ true
apart_without t [] once = refl
apart_without t (v ∷ vs) once = by (t == v) (apart_without t vs two.1)
  where
    two : (not (is_in v vs) ≡ true) × (apart vs ≡ true)
    two = both_true (not (is_in v vs)) (apart vs) once

    by : (b : Bool) → apart (without (λ v. t == v) vs) ≡ true → apart (if b then vs else v ∷ without (λ v. t == v) vs) ≡ true
    by true rest = two.1
    by false rest =
        ap (λ b. not b && apart (without (λ v. t == v) vs)) (fewer_in t v vs (not_true (is_in v vs) two.0)) ∙ rest

-- one more
suc_suc : (n m : ℕ) → (suc n == suc m) ≡ (n == m)
suc_suc n m = grind (arith, nat_tests)

suc_zero : (n : ℕ) → (suc n == zero) ≡ false
suc_zero n = grind (arith, nat_tests)

zero_suc : (n : ℕ) → (zero == suc n) ≡ false
zero_suc n = grind (arith, nat_tests)

pushed : (xs : List Ticker) (u : ℕ)
    → lives (get_or (xs ++ Awake ∷ []) u Left) ≡ (if u == length xs then true else lives (get_or xs u Left))
pushed [] zero = refl
pushed [] (suc u) = ap (λ b. if b then true else false) (sym (suc_zero u))
pushed (x ∷ xs) zero = ap (λ b. if b then true else lives x) (sym (zero_suc (length xs)))
pushed (x ∷ xs) (suc u) = pushed xs u ∙ ap (λ b. if b then true else lives (get_or xs u Left)) (sym (suc_suc u (length xs)))

granted_so : (b m : Bool) → refused_so b m ≡ Granted → b ≡ false
granted_so false m is = refl
granted_so true false is = absurd cc
granted_so true true is = absurd cc

refused_is : (b m : Bool) → is_granted (refused_so b m) ≡ false → b ≡ true
refused_is true m is = refl
refused_is false m is = absurd cc

-- whether it was refused is what the trace ends with
answered_by : (w v : World) (so : MadeTick w v) → ends_refused (heard_in v.trace) ≡ so.refused
answered_by w v so =
    ap (λ es. ends_refused es) so.answered
    ∙ (last_is (heard_in w.trace) (Answers (if so.refused then NoMemory else Made)) ∙ by so.refused)
  where
    by : (b : Bool) → is_refusal {T = Output} {A = Waker} (Answers (if b then NoMemory else Made)) ≡ b
    by true = refl
    by false = refl

module _ {F T X : Type 0} (s : Machine) (a : Act) (owner : Owner) (y : Solo F T X) (p : Plain T (SoloWaker X)) (c : Choice)
    (ticks : (t : ℕ) → has_tick t owner ≡ lives (tick_of s.world t)) (once : apart owner.ticks ≡ true) where
  abbrev Behind : Owner → Type 0
  Behind now = ((t : ℕ) → has_tick t now ≡ lives (tick_of a.left.world t)) × (apart now.ticks ≡ true)

  searched : (runner : Runner) (w : SoloWaker X) (u : Solo F T X) (q : Plain T (SoloWaker X)) (shown : List (Event T (SoloWaker X)))
      (now : Owner) (z : Solo F T X) → Searches by_number owner c runner w u q shown now z → now.ticks ≡ owner.ticks
  searched runner w u q shown now z (takes_own start task first keeps life) = refl
  searched runner w u q shown now z (takes_common start task first found turn keeps life) = refl
  searched runner w u q shown now z (robs_another start task first found turn walks robs moves keeps life) = refl
  searched runner w u q shown now z (rests first second missed turn granted names more life) = refl
  searched runner w u q shown now z (is_refused start missed turn refused) = refl
  searched runner w u q shown now z (lies_refused first second missed turn refused names again more life) = refl

  ran : (runner : Runner) (w : SoloWaker X) (u : Solo F T X) (q : Plain T (SoloWaker X)) (shown : List (Event T (SoloWaker X)))
      (now : Owner) (z : Solo F T X) → RunsOn by_number owner c runner w u q shown now z → now.ticks ≡ owner.ticks
  ran runner w u q shown now z (looks_on shown' now' z' less how) = searched runner w u q shown' now' z' how
  ran runner w u q shown now z (gives_way enough names life) = refl

  abbrev alters_owner : Call T (SoloWaker X) → Bool
  alters_owner calls.NewTick = true
  alters_owner (calls.DropTick t) = true
  alters_owner call = false

  -- as the machine's act says
  abbrev pub OfTicks : Call T (SoloWaker X) → Type 0
  OfTicks calls.NewTick = MadeTick s.world a.left.world
  OfTicks (calls.DropTick t) = (u : ℕ) → lives (tick_of a.left.world u) ≡ (if u == t then false else lives (tick_of s.world u))
  OfTicks call = LivesSo s.world a.left.world

  same_of_ticks : (call : Call T (SoloWaker X)) → alters_owner call ≡ false → OfTicks call → LivesSo s.world a.left.world
  same_of_ticks calls.NewTick off so = absurd cc
  same_of_ticks (calls.DropTick t) off so = absurd cc
  same_of_ticks call off so = so

  makes_still : (call : Call T (SoloWaker X)) (shown : List (Event T (SoloWaker X))) (z : Solo F T X)
      → Makes by_number c y p call shown z → alters_owner call ≡ false
  makes_still call shown z (courses.takes first life) = refl
  makes_still call shown z _ = refl

  ends_still : (st : Stage T (SoloWaker X)) (call : Call T (SoloWaker X)) → IsEnding st call → alters_owner call ≡ false
  ends_still st call (poll_ends f) = refl
  ends_still st call (drop_ends f end) = refl
  ends_still st call (loss_ends awaiter) = refl

  -- where the owner has the same
  kept : (call : Call T (SoloWaker X)) → alters_owner call ≡ false → OfTicks call → (now : Owner) → now.ticks ≡ owner.ticks → Behind now
  kept call off so now same = (
    λ t. ap (λ ts. is_in t ts) same ∙ (ticks t ∙ sym (same_of_ticks call off so t)),
    ap apart same ∙ once,
  )

  abbrev name : ℕ
  name = length s.world.ticks

  made : (t : ℕ) → has_tick t owner ≡ false → t ≡ name → MadeTick s.world a.left.world → refused_in s a ≡ Granted
      → Behind (record owner { ticks = t ∷ owner.ticks })
  made t new is so granted = (
    λ u.
        ap (λ n. if u == n then true else has_tick u owner) is
        ∙ (ap (λ b. if u == name then true else b) (ticks u)
        ∙ (sym (pushed s.world.ticks u)
        ∙ sym (so.live u ∙ ap (λ b. lives (get_or (if b then s.world.ticks else s.world.ticks ++ Awake ∷ []) u Left)) off))),
    ap (λ b. not b && apart owner.ticks) new ∙ once,
  )
    where
      off : so.refused ≡ false
      off =
          sym (answered_by s.world a.left.world so) ∙ granted_so (ends_refused (heard_in a.left.world.trace)) _ granted

  unmade : MadeTick s.world a.left.world → is_granted (refused_in s a) ≡ false → Behind owner
  unmade so refused = (
    λ u. ticks u
        ∙ sym (so.live u ∙ ap (λ b. lives (get_or (if b then s.world.ticks else s.world.ticks ++ Awake ∷ []) u Left)) on),
    once,
  )
    where
      on : so.refused ≡ true
      on = sym (answered_by s.world a.left.world so) ∙ refused_is (ends_refused (heard_in a.left.world.trace)) _ refused

  pub behind : (call : Call T (SoloWaker X)) (shown : List (Event T (SoloWaker X))) (now : Owner) (z : Solo F T X)
      (acts : Acts by_number owner c y p call shown now z)
      → c.refusal ≡ acted_as by_number c y p owner call shown now z (refused_in s a) acts
      → NamesTick by_number c y p name owner call shown now z acts → OfTicks call → Behind now
  behind call shown now z (courses.makes call' shown' z' how) is named so = kept call' (makes_still call' shown' z' how) so owner refl
  behind call shown now z (courses.makes_tick t new granted) is named so = made t new named so (sym is ∙ granted)
  behind call shown now z (courses.makes_no_tick refused) is named so = unmade so (ap is_granted (sym is) ∙ refused)
  behind call shown now z (courses.tick_leaves t lives' life) is named so = (
    λ u.
        without_in t u owner.ticks once
        ∙ (ap (λ b. if u == t then false else b) (ticks u) ∙ sym (so u)),
    apart_without t owner.ticks once,
  )
  behind call shown now z (courses.run_looks runner w rest shown' now' z' mine at how) is named so =
      kept calls.Pends refl so now' (searched runner w y (record p { inside = rest }) shown' now' z' how)
  behind call shown now z (courses.run_goes_on stage runner w rest call' first others now' u z' mine at ends how on) is named so =
      kept call' (ends_still stage call' ends) so now' (ran runner w u _ others now' z' on)
  behind call shown now z (courses.run_drops stage r w rest call' first f z' at ends how) is named so =
      kept call' (ends_still stage call' ends) so owner refl
  behind call shown now z (courses.run_loses stage r w rest call' first v z' at ends how) is named so =
      kept call' (ends_still stage call' ends) so owner refl
  behind call shown now z (courses.tick_takes t w task lives' found first life) is named so = kept (calls.PollTick t w) refl so owner refl
  behind call shown now z (courses.tick_rests t w lives' found first granted names more life) is named so =
      kept (calls.PollTick t w) refl so (renumbered (number_after (ATick t) owner.number y p) owner) refl
  behind call shown now z (courses.tick_refused t w lives' found first refused) is named so =
      kept (calls.PollTick t w) refl so owner refl
  behind call shown now z (courses.tick_lies_refused t w lives' found first refused names again more life) is named so =
      kept (calls.PollTick t w) refl so (renumbered (number_after (ATick t) owner.number y p) owner) refl
  behind call shown now z (courses.makes_run granted few) is named so = kept calls.NewRun refl so owner refl
  behind call shown now z (courses.makes_no_run refused) is named so = kept calls.NewRun refl so owner refl
  behind call shown now z (courses.run_polled runner w goes free) is named so = kept (calls.PollRun runner.number w) refl so owner refl
  behind call shown now z (courses.over_polled r w over) is named so = kept (calls.PollRun r w) refl so owner refl
  behind call shown now z (courses.own_ready r w v rest at) is named so = kept (calls.EndsWith v) refl so owner refl
  behind call shown now z (courses.run_dropped r goes free) is named so = kept (calls.DropRun r) refl so owner refl
  behind call shown now z (courses.over_dropped r over) is named so = kept (calls.DropRun r) refl so owner refl
  behind call shown now z (courses.run_leaves runner answer rest at life) is named so = kept calls.Ends refl so owner refl

  module _ (value : T) (outside : ℕ → X) where
    pub of_ticks : (x : Call Output Waker) → TicksBy x s.world a.left.world → OfTicks (call_by value outside x)
    of_ticks calls.NewTick so = so
    of_ticks (calls.DropTick t) so = so
    of_ticks x so = so
