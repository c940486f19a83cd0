-- For lone_ticks_take_by_their_turn.
-- A tick that is tried alone takes the first future of the queue that its turn names.
use Rattle.std.proofs.Common.{◌≡◌, ◌∙◌, ⊎_elim, ℕ, ◌+◌, ◌≤◌, List, [], ◌∷◌, Bool, true, false, ◌||◌, cond}
use Rattle.std.proofs.Common.{refl, sym, ap, arith}
use Rattle.executor_parts.specs.Marks.{first_of, other, same_mark}
use Rattle.executor_laws.proofs.Types.{Mark, Plain, Urgent, Call, Reply, Kind, Step}
use Rattle.executor_model.specs.{Emptiness.IsAtRest, Keeper.IsCommon, Sound.times, Steps.Machine, Steps.run, Steps.start, Trace.Trace}
use Rattle.executor_model.specs.{Trace.has, World.mark_of, World.queue_of}
use Rattle.executor_model.proofs.Steps.Reached.{Reached}
use Rattle.executor_laws.specs.{Looks.TakesByItsTurn, Looks.TakesFirst, Reach.IsLoneTick, Reach.names, Reach.since, Reach.takes}
use Rattle.executor_laws.proofs.{Exactness.Ticking.first-times, Reach.Marked.marked-here, Reach.Reaching.common-spot}
use Rattle.executor_laws.proofs.{Reach.Reaching.found-events, Reach.Reaching.has-around, Reach.Reaching.in-queue, Reach.Reaching.one-turn}
use Rattle.executor_laws.proofs.{Reach.Reaching.since-is, Reach.Reaching.spot-common, Reach.Spots.Spot, Reach.Spots.named}
use Rattle.executor_laws.proofs.{Reach.Searching.First, Reach.Searching.first-taken}

-- what is told is counted
counted : (m : Mark) (es : Trace) → has (names m) es ≡ true → 1 ≤ named m es
counted m [] e = absurd (cc)
counted m (e ∷ es) k = by (names m e) (λ q. counted m es q) k
  where
    by : (b : Bool) → (has (names m) es ≡ true → 1 ≤ named m es) → (b || has (names m) es) ≡ true →
        1 ≤ cond b 1 0 + named m es
    by true h q = omega arith
    by false h q = omega (arith, h q)

same-one : (m n : Mark) → 1 ≤ cond (same_mark m n) 1 0 → m ≡ n
same-one Plain Plain k = refl
same-one Urgent Urgent k = refl
same-one Plain Urgent k = absurd (omega (arith, k))
same-one Urgent Plain k = absurd (omega (arith, k))

module _ (s : Machine) (r : Reached s) (rest : IsAtRest s) (p : ℕ) (steps : List Step) (new : Machine)
    (k : IsLoneTick p steps s new) (m : Mark) (told : has (names m) (since s new) ≡ true) (f : ℕ)
    (c : IsCommon f s.world.trace) (e : mark_of s.world f ≡ m) where
  x : Spot s.world
  x = common-spot s r rest f c

  taken : First x.mark x.future p Call.TryTick Reply.Yes s new
  taken = first-taken s r rest p Call.TryTick Reply.Yes refl steps new k x

  abbrev events : Trace
  events = (found-events x.mark x.future p Call.TryTick Reply.Yes s new taken).grown

  since-told : since s new ≡ events
  since-told = since-is s new (found-events x.mark x.future p Call.TryTick Reply.Yes s new taken)

  turn : m ≡ first_of s.world.urgent_turns
  turn = same-one m (first_of s.world.urgent_turns) (omega (
    arith,
    counted m events (ap (has (names m)) (sym since-told) ∙ told),
    one-turn x.mark x.future p Call.TryTick Reply.Yes s new taken m,
  ))

  -- its queue isn't empty, since f stands there
  there : x.mark ≡ m
  there = ⊎_elim
      (λ (y : x.mark ≡ first_of s.world.urgent_turns). y ∙ sym turn)
      (λ (y : (x.mark ≡ other (first_of s.world.urgent_turns)) × ((queue_of s.world (first_of s.world.urgent_turns)).items ≡ [])).
      absurd (omega (
        arith,
        in-queue s r rest m f c e,
        ap (λ (n : Mark). times f (queue_of s.world n).items) turn,
        ap (times f) y.1,
      )))
      x.turn

  takes-first : TakesFirst m s new
  takes-first = record {
    future = x.future;
    rest = x.rest;
    first = ap (λ (n : Mark). (queue_of s.world n).items) (sym there) ∙ x.is;
    marked = marked-here s r m x.future (omega (
      arith,
      ap (λ (n : Mark). times x.future (queue_of s.world n).items) (sym there),
      ap (times x.future) x.is,
      first-times x.future x.rest,
    ));
    common = spot-common s r rest x;
    taken = ap (has (takes x.future)) since-told
        ∙ has-around x.future p Call.TryTick Reply.Yes taken.meanwhile taken.taken;
  }

pub takes-by-its-turn : (limit : ℕ) (kind : Kind) (parties : ℕ) (steps : List Step) →
    TakesByItsTurn (run steps (start limit kind parties))
takes-by-its-turn limit kind parties steps = λ rest p ts new k m told f c e. takes-first
    (run steps (start limit kind parties))
    (record { limit = limit; kind = kind; parties = parties; steps = steps; is = refl }) rest p ts new k m told f c e
