-- The calls of an executor's owner, where the machine's parties may begin them.
use Rattle.std.specs.Prelude.{◌≡◌, ◌⊎◌, ℕ, Bool, true, false, List, [], ◌∷◌, Some}
use Rattle.executor_model.specs.declared.call.Call.{Call as MachineCall}
use Rattle.executor_model.specs.declared.call.Call.TheVariants.{DropExecutor as DropsExecutor}
use Rattle.executor_model.specs.declared.step.Step.{Step}
use Rattle.executor_model.specs.declared.step.Step.TheVariants.{Begin}
use Rattle.executor_model.specs.Quiet.{IsQuiet}
use Rattle.executor_model.specs.Steps.{Machine}
use Rattle.solo.specs.declared.names.SoloWaker.{SoloWaker}
use Rattle.solo.specs.declared.owed.Lent.{Lent}
use Rattle.solo.specs.declared.solo.Solo.{Solo}
use Rattle.plain_scheduler.specs.State.{AtOnce, Choice, Event, Granted, Plain}
use Rattle.plain_scheduler.specs.Calls.{Call, DropExecutor, does}
use Rattle.plain_scheduler.specs.Searches.{Search, finds, searches}
use Rattle.plain_scheduler.specs.Usual.{IsKeptByOthers}
use Rattle.machine_roads.specs.Seeing.{heard_in}
use Rattle.machine_roads.specs.DropActs.{AreDropActs}
use Rattle.machine_roads.specs.Within.{Act, AreActs, IsAct, IsMade}
use Rattle.solo_laws.specs.Courses.{Acts, Leads, leads, stays}
use Rattle.solo_laws.specs.Making.{ActsFrom}
use Rattle.solo_laws.specs.Owner.{Owner}
use Rattle.solo_laws.specs.Road.{wakes}
use Rattle.two_roads.specs.Acting.{AreOfSteps, IsOfStep, left_of}
use Rattle.two_roads.specs.Refusing.{asks_memory}
use Rattle.two_roads.specs.Renaming.{call_as}
use Rattle.two_roads.specs.Together.{as_heard, nothing, numbered}
use Rattle.lone_machine.specs.Commands.{IsOnWay, MayBegin}
use Rattle.lone_machine.specs.Reading.{IsRead}
use Rattle.lone_machine.specs.Rooms.{IsRoomyAct}
use Rattle.lone_machine.specs.Wanting.{AsksFirst, IsCalm}

module _ {T X : Type 0} (number : X → ℕ) where
  -- a party may begin this call, or end user code so
  pub record Begins (s : Machine) (call : Call T (SoloWaker X)) : Type 0 where
    pub party : ℕ
    pub first : Step
    pub may : MayBegin s party first
    pub on_way : IsOnWay s party first
    pub made : IsMade s party first (call_as nothing (numbered number) call)

  -- an act begins so
  pub record IsBegun (s : Machine) {call : Call T (SoloWaker X)} (b : Begins s call) (a : Act) : Type 0 where
    pub act : IsAct s a
    pub party : a.party ≡ b.party
    pub first : a.first ≡ b.first

  -- memory in a call's act: none is refused, and no task comes to have 2^40 references; or the call asks for some at once, and is refused
  -- it. Once any was refused, a call that asks for some begins where the trace tells of no want of it last
  pub data Memory (s : Machine) (calm : Bool) (word : ℕ) (c : Choice) (p : Plain T (SoloWaker X)) (call : Call T (SoloWaker X))
      (b : Begins s call) : Type 0 where
    enough : ((a : Act) → IsBegun s b a → IsRoomyAct s a) → (asks_memory wakes c p call ≡ true → c.refusal ≡ Granted)
        → (asks_memory wakes c p call ≡ true → calm ≡ false → IsCalm s) → Memory s calm word c p call b
    wanting : (k : MachineCall) → b.first ≡ Begin b.party k → AsksFirst s.world k
        → (asks_memory wakes c p call ≡ true → c.refusal ≡ AtOnce) → word ≡ 0 → Memory s calm word c p call b

  -- none was refused yet
  abbrev pub calm_after : (s : Machine) (calm : Bool) (word : ℕ) (c : Choice) (p : Plain T (SoloWaker X)) (call : Call T (SoloWaker X))
      (b : Begins s call) → Memory s calm word c p call b → Bool
  calm_after s calm word c p call b (enough roomy granted heard) = calm
  calm_after s calm word c p call b (wanting k first asks refused first_word) = false

  module _ {F : Type 0} (its : ℕ → Lent) where
    -- a call of the owner's may be an act: a party may begin it; and where a run robs another in it, it looks for whom from this word on,
    -- which is 0, or the list of queues is read in each act that begins so
    pub record MayAct (s : Machine) (calm : Bool) (before now : Owner) (c : Choice) (y m : Solo F T X) (p : Plain T (SoloWaker X))
        (call : Call T (SoloWaker X)) (shown : List (Event T (SoloWaker X))) (how : Acts its before c y p call shown now m) : Type 0 where
      pub begins : Begins s call
      pub word : ℕ
      pub memory : Memory s calm word c p call begins
      pub walks : (x : Search T (SoloWaker X)) → searches wakes c call p ≡ Some x → finds x ≡ true → IsKeptByOthers x.run x.at.due
          → ((word ≡ 0) ⊎ ((a : Act) → IsBegun s begins a → IsRead s a))
          × ((second : ℕ) × ActsFrom its c y p word second before call shown now m how)

    -- and so may each, wherever acts that are those before it have led; and where all have led it is so
    abbrev pub MayBeActs : (Bool → Machine → Type 0) → Bool → Machine → {cs : List (Choice × Call T (SoloWaker X))} {before after : Owner}
        {y z : Solo F T X} {p : Plain T (SoloWaker X)} {shown : List (Event T (SoloWaker X))} → Leads its cs before y p shown after z
        → Type 0
    MayBeActs Then calm s (stays owner y p) = Then calm s
    MayBeActs Then calm s (leads c call rest before now after y m z p shown others many how on) =
        (may : MayAct s calm before now c y m p call shown how)
        × ((a : Act) → IsBegun s may.begins a → IsOfStep number s a p c call
        → MayBeActs Then (calm_after s calm may.word c p call may.begins may.memory) a.left on)

    -- acts of the machine are these calls, and its trace tells of what they show
    pub record AreActed (s : Machine) {cs : List (Choice × Call T (SoloWaker X))} {before after : Owner} {y z : Solo F T X}
        {p : Plain T (SoloWaker X)} {shown : List (Event T (SoloWaker X))} (led : Leads its cs before y p shown after z) : Type 0 where
      pub acts : List Act
      pub are : AreActs s acts
      pub of : AreOfSteps number s acts led
      pub told : heard_in (left_of s acts).world.trace ≡ as_heard number shown

  -- a call made in the executor's drop or behind it, or an end of user code there
  pub record MayEnd (s : Machine) (calm : Bool) (c : Choice) (p : Plain T (SoloWaker X)) (call : Call T (SoloWaker X)) : Type 0 where
    pub party : ℕ
    pub first : Step
    pub may : MayBegin s party first
    pub made : IsMade s party first (call_as nothing (numbered number) call)
    pub roomy : (a : Act) → IsAct s a → a.party ≡ party → a.first ≡ first → IsRoomyAct s a
    pub granted : asks_memory wakes c p call ≡ true → c.refusal ≡ Granted
    pub heard : asks_memory wakes c p call ≡ true → calm ≡ false → IsCalm s

  abbrev pub MayBeEnds : Bool → Machine → Plain T (SoloWaker X) → List (Choice × Call T (SoloWaker X)) → Type 0
  MayBeEnds calm s p [] = Unit {0}
  MayBeEnds calm s p (x ∷ xs) =
      (may : MayEnd s calm x.0 p x.1)
      × ((a : Act) → IsAct s a → a.party ≡ may.party → a.first ≡ may.first → IsOfStep number s a p x.0 x.1
      → MayBeEnds calm a.left (does wakes x.0 x.1 p) xs)

  -- where no call is in progress a party may drop the executor, and the calls behind that may be acts
  pub record MayDrop (p : Plain T (SoloWaker X)) (ends : List (Choice × Call T (SoloWaker X))) (calm : Bool) (s : Machine) : Type 0 where
    pub quiet : IsQuiet s.world.trace
    pub party : ℕ
    pub may : MayBegin s party (Begin party DropsExecutor)
    pub roomy : (a : Act) → IsAct s a → a.party ≡ party → a.first ≡ Begin party DropsExecutor → IsRoomyAct s a
    pub choice : Choice
    pub rest : List (Choice × Call T (SoloWaker X))
    pub are : ends ≡ (choice, DropExecutor) ∷ rest
    pub later : (a : Act) → IsAct s a → a.party ≡ party → a.first ≡ Begin party DropsExecutor
        → MayBeEnds calm a.left (does wakes choice DropExecutor p) rest

-- acts of the machine up to the executor's drop, and those of that drop and behind it, and what its trace tells of
pub record EndSo {T X : Type 0} (number : X → ℕ) (s : Machine) (shown : List (Event T (SoloWaker X))) : Type 0 where
  pub acts : List Act
  pub are : AreActs s acts
  pub drop : Act
  pub is : IsAct (left_of s acts) drop
  pub begins : drop.first ≡ Begin drop.party DropsExecutor
  pub later : List Act
  pub they : AreDropActs drop.left later
  pub told : heard_in (left_of drop.left later).world.trace ≡ as_heard number shown
