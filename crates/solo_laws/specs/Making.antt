-- Which calls the owner of an executor may make where that and the plain scheduler stand alike, and that each of them happens.
use Rattle.std.specs.Prelude.{◌≡◌, ℕ, ◌+◌, ◌*◌, ◌<◌, Bool, true, false, if◌then◌else◌, List, [], ◌∷◌, length}
use Rattle.std.specs.Prelude.{◌++◌, Option, Some, None}
use Rattle.queue_steps.specs.ClosableQueue.{most_accepted}
use Rattle.slab.specs.Slab.{get, HasRoomFor}
use Rattle.executor_parts.specs.Places.{entry_at}
use Rattle.solo.specs.declared.names.SoloWaker.{SoloWaker}
use Rattle.solo.specs.declared.names.SoloWaker.TheVariants.{Task as OfTask, Outside}
use Rattle.solo.specs.declared.owed.Lent.{Lent}
use Rattle.solo.specs.declared.runs.Runner.{Runner}
use Rattle.solo.specs.declared.solo.Solo.{Solo}
use Rattle.solo.specs.OwnQueues.{count_of as count_of_own}
use Rattle.solo.specs.Solo as solo
use Rattle.plain_scheduler.specs.State.{ARun, ATick, AtOnce, Choice, Code, Drop, DropOwn, Event, Granted, Later, Lose, Plain, Poll, PollOwn}
use Rattle.plain_scheduler.specs.State.{Refusal, Run, Taker}
use Rattle.plain_scheduler.specs.Moves.{task}
use Rattle.plain_scheduler.specs.Calls.{Call, Cancel, Copy, Detach, DropExecutor, DropHandle, DropRun, DropTick, Ends, EndsWith, IsEmpty}
use Rattle.plain_scheduler.specs.Calls.{Leak, NewRun, NewTick, Pends, PollHandle, PollRun, PollTick, Release, Spawn, TryTick, Use, Wake}
use Rattle.plain_scheduler.specs.Calls.{does, is_granted}
use Rattle.solo_laws.specs.Busy.{busy_in}
use Rattle.solo_laws.specs.Courses.{Acts, Leads, Makes, copies, makes, makes_tick, polls, run_goes_on, run_looks, tick_lies_refused}
use Rattle.solo_laws.specs.Courses.{leads, spawns, stays, tick_refused, tick_rests}
use Rattle.solo_laws.specs.Heeding.{Fits}
use Rattle.solo_laws.specs.Numbered.{ticker_of}
use Rattle.solo_laws.specs.Owner.{Owner, has_tick}
use Rattle.solo_laws.specs.Road.{HasLife, IsNamed, is_in, wakes}
use Rattle.solo_laws.specs.RunGoing.{RunsOn, Searches, gives_way, in_try, is_refused, lies_refused, looks_on, rests}
use Rattle.solo_laws.specs.RunGoing.{Stage, robs_another, takes_common, takes_own}
use Rattle.solo_laws.specs.RunResting.{sleep_answer, slept_from}
use Rattle.solo_laws.specs.Tabled.{named}
use Rattle.solo_laws.specs.Ticking.{looks_again, slept_answer, slept_once}

-- what users and the world decide of a call: which it is, whether memory is refused, from which starting words a run's two searches
-- walk, and under which name a tick is made
pub record Wish (T A : Type 0) : Type 0 where
  pub call : Call T A
  pub refusal : Refusal
  pub first : ℕ
  pub second : ℕ
  pub name : ℕ

-- a copy of its waker that can't be had is refused to whoever finds nothing, and one for a second look only where it looks again
abbrev pub rest_refusal : Bool → Bool → Bool → Refusal → Refusal
rest_refusal false again second refusal = AtOnce
rest_refusal true again second AtOnce = AtOnce
rest_refusal true false second refusal = Granted
rest_refusal true true false refusal = Later
rest_refusal true true true refusal = refusal

abbrev pub copy_refusal : Bool → Refusal
copy_refusal may = if may then Granted else AtOnce

module _ {F T X : Type 0} where
  -- a task's waker is copied where the task has fewer references than it may
  abbrev pub may_copy : SoloWaker X → Solo F T X → Bool
  may_copy (OfTask t) s = solo.may_hold t s
  may_copy (Outside w) s = true

module _ {F T X : Type 0} (its : ℕ → Lent) (owner : Owner) (c : Choice) (s : Solo F T X) (p : Plain T (SoloWaker X)) where
  -- what is refused to a poll of a tick, or of a run, that finds nothing
  abbrev pub tick_refusal : ℕ → SoloWaker X → Refusal → Refusal
  tick_refusal t w refusal =
      let ticker = ticker_of owner.number (ATick t) p.lying in
      rest_refusal (may_copy w s) (looks_again (slept_answer ticker w s).look) (may_copy w (slept_once ticker w s)) refusal

  abbrev pub run_refusal : Runner → SoloWaker X → ℕ → Refusal → Refusal
  run_refusal runner w start refusal =
      let r = runner.number in
      let ticker = ticker_of owner.number (ARun r) p.lying in
      rest_refusal (may_copy w s) (looks_again (sleep_answer r start ticker w s).look) (may_copy w (slept_from r start ticker w s)) refusal

  -- what is refused where memory refuses this
  abbrev pub made_as : (call : Call T (SoloWaker X)) (shown : List (Event T (SoloWaker X))) (z : Solo F T X)
      → Refusal → Makes its c s p call shown z → Refusal
  made_as call shown z refusal (copies f at is) = copy_refusal (solo.may_hold (named its f) s)
  made_as call shown z refusal (polls f (OfTask t) at handle names life) = copy_refusal (solo.may_hold t s)
  made_as call shown z refusal how = refusal

  module _ (runner : Runner) (w : SoloWaker X) where
    abbrev pub searched_as : (shown : List (Event T (SoloWaker X))) (now : Owner) (z : Solo F T X) → Refusal
        → Searches its owner c runner w s p shown now z → Refusal
    searched_as shown now z refusal (rests first second none turn granted names more life) = run_refusal runner w first refusal
    searched_as shown now z refusal (is_refused start none turn refused) = run_refusal runner w start refusal
    searched_as shown now z refusal (lies_refused first second none turn refused names again more life) =
        run_refusal runner w first refusal
    searched_as shown now z refusal how = refusal

    abbrev pub ran_as : (shown : List (Event T (SoloWaker X))) (now : Owner) (z : Solo F T X) → Refusal
        → RunsOn its owner c runner w s p shown now z → Refusal
    ran_as shown now z refusal (looks_on shown' now' z' less how) = searched_as shown' now' z' refusal how
    ran_as shown now z refusal (gives_way enough names life) = refusal

    -- its walks begin at these words
    abbrev pub WalksFrom : ℕ → ℕ → (shown : List (Event T (SoloWaker X))) (now : Owner) (z : Solo F T X)
        → Searches its owner c runner w s p shown now z → Type 0
    WalksFrom one two shown now z (takes_own start found first keeps life) = start ≡ one
    WalksFrom one two shown now z (takes_common start found none first turn keeps life) = start ≡ one
    WalksFrom one two shown now z (robs_another start found none nothing turn walks robs moves keeps life) = start ≡ one
    WalksFrom one two shown now z (rests first second none turn granted names more life) = (first ≡ one) × (second ≡ two)
    WalksFrom one two shown now z (is_refused start none turn refused) = start ≡ one
    WalksFrom one two shown now z (lies_refused first second none turn refused names again more life) = (first ≡ one) × (second ≡ two)

    abbrev pub RunsFrom : ℕ → ℕ → (shown : List (Event T (SoloWaker X))) (now : Owner) (z : Solo F T X)
        → RunsOn its owner c runner w s p shown now z → Type 0
    RunsFrom one two shown now z (looks_on shown' now' z' less how) = WalksFrom one two shown' now' z' how
    RunsFrom one two shown now z (gives_way enough names life) = Unit {0}

module _ {F T X : Type 0} (its : ℕ → Lent) (c : Choice) (s : Solo F T X) (p : Plain T (SoloWaker X)) where
  -- as a run goes on behind what it took
  abbrev pub behind : Stage T (SoloWaker X) → List (Code T (SoloWaker X)) → Call T (SoloWaker X) → List (Event T (SoloWaker X))
      → Plain T (SoloWaker X)
  behind stage rest call shown = record (does wakes c call (in_try stage rest p)) { events = p.events ++ shown }

  abbrev pub acted_as : (owner : Owner) (call : Call T (SoloWaker X)) (shown : List (Event T (SoloWaker X))) (now : Owner) (z : Solo F T X)
      → Refusal → Acts its owner c s p call shown now z → Refusal
  acted_as owner call shown now z refusal (makes call' shown' z' how) = made_as its owner c s p call' shown' z' refusal how
  acted_as owner call shown now z refusal (tick_rests t w lives none first granted names more life) =
      tick_refusal its owner c s p t w refusal
  acted_as owner call shown now z refusal (tick_refused t w lives none first refused) = tick_refusal its owner c s p t w refusal
  acted_as owner call shown now z refusal (tick_lies_refused t w lives none first refused names again more life) =
      tick_refusal its owner c s p t w refusal
  acted_as owner call shown now z refusal (run_looks runner w rest shown' now' z' its_runner is how) =
      searched_as its owner c s (record p { inside = rest }) runner w shown' now' z' refusal how
  acted_as owner call shown now z refusal (run_goes_on stage runner w rest call' before others now' y z' its_runner is ends made on) =
      ran_as its owner c y (behind stage rest call' before) runner w others now' z' refusal on
  acted_as owner call shown now z refusal how = refusal

  abbrev pub ActsFrom : ℕ → ℕ → (owner : Owner) (call : Call T (SoloWaker X)) (shown : List (Event T (SoloWaker X))) (now : Owner)
      (z : Solo F T X) → Acts its owner c s p call shown now z → Type 0
  ActsFrom one two owner call shown now z (run_looks runner w rest shown' now' z' its_runner is how) =
      WalksFrom its owner c s (record p { inside = rest }) runner w one two shown' now' z' how
  ActsFrom one two owner call shown now z (run_goes_on stage runner w rest call' before others now' y z' its_runner is ends made on) =
      RunsFrom its owner c y (behind stage rest call' before) runner w one two others now' z' on
  ActsFrom one two owner call shown now z how = Unit {0}

  -- a tick that is made has this name
  abbrev pub NamesTick : ℕ → (owner : Owner) (call : Call T (SoloWaker X)) (shown : List (Event T (SoloWaker X))) (now : Owner)
      (z : Solo F T X) → Acts its owner c s p call shown now z → Type 0
  NamesTick name owner call shown now z (makes_tick t new granted) = t ≡ name
  NamesTick name owner call shown now z how = Unit {0}

  -- a future that comes takes the last room in the table
  abbrev pub Enters : (call : Call T (SoloWaker X)) (shown : List (Event T (SoloWaker X))) (z : Solo F T X)
      → Makes its c s p call shown z → Type 0
  Enters call shown z (spawns mark future spawned z' so is granted life few) = z'.table.has_room ≡ false
  Enters call shown z how = Unit {0}

  abbrev pub TakesRoom : (owner : Owner) (call : Call T (SoloWaker X)) (shown : List (Event T (SoloWaker X))) (now : Owner)
      (z : Solo F T X) → Acts its owner c s p call shown now z → Type 0
  TakesRoom owner call shown now z (makes call' shown' z' how) = Enters call' shown' z' how
  TakesRoom owner call shown now z how = Unit {0}

-- how many tasks a call queues at most, where there are so many futures, and so many stand in the own queue of a run that goes
abbrev pub queues_at_most : {T A : Type 0} → ℕ → ℕ → Call T A → ℕ
queues_at_most futures own IsEmpty = 0
queues_at_most futures own (Copy f) = 0
queues_at_most futures own NewTick = 0
queues_at_most futures own (PollRun r w) = 0
queues_at_most futures own (DropRun r) = 0
queues_at_most futures own (EndsWith v) = 0
queues_at_most futures own NewRun = 0
queues_at_most futures own (DropTick t) = 5
queues_at_most futures own (PollTick t w) = 6
queues_at_most futures own (Cancel f) = 6
queues_at_most futures own (DropHandle f) = 9
queues_at_most futures own Pends = 9
queues_at_most futures own Ends = 3 * own + 15
queues_at_most futures own Leak = 6 * futures
queues_at_most futures own call = 3

-- a spawn lets one future come
abbrev pub comes : {T A : Type 0} → Call T A → ℕ
comes (Spawn mark) = 1
comes call = 0

-- in the own queue of a new run 512 at most stand as it goes
abbrev pub gives_back : {T A : Type 0} → Call T A → ℕ
gives_back NewRun = 3 * 512
gives_back call = 0

-- this is so of the waker by which a run is polled, in each user's code
module _ {A : Type 0} (Is : A → Type 0) where
  abbrev pub PolledBy : Taker A → Type 0
  PolledBy (Run r w) = Is w
  PolledBy by = Unit {0}

  abbrev pub PolledIf : Option (Taker A) → Type 0
  PolledIf (Some by) = PolledBy by
  PolledIf None = Unit {0}

module _ {T A : Type 0} (Is : A → Type 0) where
  abbrev pub PolledIn : Code T A → Type 0
  PolledIn (Poll f by) = PolledBy Is by
  PolledIn (Drop f end by) = PolledBy Is by
  PolledIn (Lose awaiter by) = PolledIf Is by
  PolledIn (PollOwn r w) = Is w
  PolledIn code = Unit {0}

  abbrev pub EachPolledBy : List (Code T A) → Type 0
  EachPolledBy [] = Unit {0}
  EachPolledBy (code ∷ codes) = PolledIn code × EachPolledBy codes

module _ {F T X : Type 0} (its : ℕ → Lent) (owner : Owner) (s : Solo F T X) (p : Plain T (SoloWaker X)) where
  -- a task's waker is that of a future that came
  abbrev pub IsKnown : SoloWaker X → Type 0
  IsKnown (OfTask t) = IsNamed (named its) (length p.futures) t
  IsKnown (Outside w) = Unit {0}

  -- so are those by which runs are polled, in each user's code
  abbrev pub WakersAreKnown : Type 0
  WakersAreKnown = EachPolledBy IsKnown p.inside

  -- a user's code is there to end: the poll of a future, or of a run's own; or a drop
  abbrev pub MayPend : List (Code T (SoloWaker X)) → Type 0
  MayPend (Poll f by ∷ rest) = Unit {0}
  MayPend (PollOwn r w ∷ rest) = Unit {0}
  MayPend codes = ⊥

  abbrev pub MayEnd : List (Code T (SoloWaker X)) → Type 0
  MayEnd (Drop f end by ∷ rest) = Unit {0}
  MayEnd (Lose awaiter by ∷ rest) = Unit {0}
  MayEnd (DropOwn r answer ∷ rest) = Unit {0}
  MayEnd codes = ⊥

  -- one more future takes memory, and so may be refused it
  abbrev pub HasNoRoom : Type 0
  HasNoRoom = s.table.has_room ≡ true → HasRoomFor s.cells.slab 1 → ⊥

  -- a call is on what is there: a future that came, a handle that isn't dropped, a tick that was made, a run on which no call is; and
  -- a tick that is made has a name of its own
  abbrev pub Allows : Refusal → ℕ → Call T (SoloWaker X) → Type 0
  Allows refusal name (Spawn mark) = is_granted refusal ≡ false → HasNoRoom
  Allows refusal name TryTick = Unit {0}
  Allows refusal name IsEmpty = Unit {0}
  Allows refusal name (Wake f) = f < length p.futures
  Allows refusal name (Use f) = f < length p.futures
  Allows refusal name (Copy f) = f < length p.futures
  Allows refusal name (Release f) = f < length p.futures
  Allows refusal name (PollHandle f w) = (f < length p.futures) × ((task f p).handle ≡ true) × IsKnown w
  Allows refusal name (Cancel f) = f < length p.futures
  Allows refusal name (Detach f) = f < length p.futures
  Allows refusal name (DropHandle f) = f < length p.futures
  Allows refusal name NewTick = has_tick name owner ≡ false
  Allows refusal name (PollTick t w) = (has_tick t owner ≡ true) × IsKnown w
  Allows refusal name (DropTick t) = has_tick t owner ≡ true
  Allows refusal name NewRun = Unit {0}
  Allows refusal name (PollRun r w) = (is_in r (busy_in p.inside) ≡ false) × IsKnown w
  Allows refusal name (DropRun r) = is_in r (busy_in p.inside) ≡ false
  Allows refusal name Leak = p.is_static ≡ false
  Allows refusal name DropExecutor = ⊥
  Allows refusal name Pends = MayPend p.inside
  Allows refusal name (EndsWith v) = MayPend p.inside
  Allows refusal name Ends = MayEnd p.inside

  -- so many stand in the own queue of a run that goes
  abbrev pub left_in : List (Code T (SoloWaker X)) → ℕ
  left_in (DropOwn r answer ∷ rest) = count_of_own r s.runs
  left_in codes = 0

  -- a future that comes, or a run, has a number
  abbrev pub HasNumber : Call T (SoloWaker X) → Type 0
  HasNumber (Spawn mark) = length p.futures < most_accepted
  HasNumber NewRun = length p.runs < most_accepted
  HasNumber call = Unit {0}

  -- a call may be made, and neither a queue nor a number comes to its end
  pub record MayCall (x : Wish T (SoloWaker X)) : Type 0 where
    pub allowed : Allows x.refusal x.name x.call
    pub life : HasLife (queues_at_most (length s.table.entries) (left_in p.inside) x.call) s.lines
    pub number : HasNumber x.call

  -- and happens: the executor's owner does something for it, as is decided; and whoever lay down last is told
  pub record Happens (x : Wish T (SoloWaker X)) : Type 0 where
    pub choice : Choice
    pub shown : List (Event T (SoloWaker X))
    pub now : Owner
    pub after : Solo F T X
    pub acts : Acts its owner choice s p x.call shown now after
    pub tells : length p.lying < choice.tells
    pub refused : choice.refusal ≡ acted_as its choice s p owner x.call shown now after x.refusal acts
    pub starts : ActsFrom its choice s p x.first x.second owner x.call shown now after acts
    pub named_so : NamesTick its choice s p x.name owner x.call shown now after acts
    pub room : TakesRoom its choice s p owner x.call shown now after acts

  -- the next future's name is free: no task has its key, and no entry that of its place
  pub record NextIsFree : Type 0 where
    pub number : (named its (length p.futures)).number ≡ length p.futures
    pub key : get s.cells.slab (named its (length p.futures)).key ≡ None
    pub place : entry_at (its (length p.futures)).place.key s.table.entries ≡ None

-- each future's number is the key of its task, and of its place
abbrev pub by_number : ℕ → Lent
by_number f = record { task = record { key = f; number = f }; place = record { key = f; stamp = 0 } }

-- how many tasks a list of calls queues at most, where so many futures came before it: each call, and each new run as it goes
abbrev pub queued_by : {T A : Type 0} → ℕ → List (Wish T A) → ℕ
queued_by came [] = 0
queued_by came (x ∷ xs) = queues_at_most came 0 x.call + gives_back x.call + queued_by (came + comes x.call) xs

-- each call is the one that was wished, and memory is refused as was decided
abbrev pub AreWished : {T A : Type 0} → List (Wish T A) → List (Choice × Call T A) → Type 0
AreWished [] [] = Unit {0}
AreWished (x ∷ xs) (c ∷ cs) = (c.1 ≡ x.call) × (c.0.refusal ≡ x.refusal) × AreWished xs cs
AreWished xs cs = ⊥

module _ {F T X : Type 0} (its : ℕ → Lent) where
  -- each of these calls may be made where those before it have led, whatever was chosen in them
  abbrev pub MayGo : List (Wish T (SoloWaker X)) → Owner → Solo F T X → Plain T (SoloWaker X) → Type 0
  MayGo [] owner s p = Unit {0}
  MayGo (x ∷ xs) owner s p =
      Allows its owner s p x.refusal x.name x.call
      × ((it : Happens its owner s p x) → MayGo xs it.now it.after (does wakes it.choice x.call p))

  -- and nothing but memory refuses them
  abbrev pub MayHeed : List (Wish T (SoloWaker X)) → Owner → Solo F T X → Plain T (SoloWaker X) → Type 0
  MayHeed [] owner s p = Unit {0}
  MayHeed (x ∷ xs) owner s p =
      (it : Happens its owner s p x)
      → Fits its it.choice p x.refusal x.call × MayHeed xs it.now it.after (does wakes it.choice x.call p)

  -- a list of calls is of those, each as it is decided
  abbrev pub AsWished : List (Wish T (SoloWaker X)) → (calls : List (Choice × Call T (SoloWaker X))) (owner : Owner) (s : Solo F T X)
      (p : Plain T (SoloWaker X)) (shown : List (Event T (SoloWaker X))) (now : Owner) (z : Solo F T X)
      → Leads its calls owner s p shown now z → Type 0
  AsWished [] calls owner s p shown now z (stays owner' s' p') = Unit {0}
  AsWished (x ∷ xs) calls owner s p shown now z (leads c call rest before mid after s' y z' p' one others tells acts on) =
      (call ≡ x.call) × (c.refusal ≡ acted_as its c s' p' before call one mid y x.refusal acts)
      × ActsFrom its c s' p' x.first x.second before call one mid y acts × NamesTick its c s' p' x.name before call one mid y acts
      × AsWished xs rest mid y (does wakes c call p') others after z' on
  AsWished xs calls owner s p shown now z how = ⊥

  pub record Goes (xs : List (Wish T (SoloWaker X))) (owner : Owner) (s : Solo F T X) (p : Plain T (SoloWaker X)) : Type 0 where
    pub calls : List (Choice × Call T (SoloWaker X))
    pub shown : List (Event T (SoloWaker X))
    pub now : Owner
    pub after : Solo F T X
    pub leads : Leads its calls owner s p shown now after
    pub wished : AsWished xs calls owner s p shown now after leads
    pub heeds : MayHeed xs owner s p → AreWished xs calls
