-- The rule of a task's word: what holds of the words, the slots and all views, between any two steps.
use Rattle.std.specs.Prelude.{◌≡◌, ℕ, ◌+◌, ◌^◌, ◌≤◌, List, [], ◌∷◌, Bool, true, false, Option, Some, None, is_some}
use mathlib.Core.Option.{some, none}
use mathlib.Core.Option as maybe
use lib.ListN.{get_elem?}
use Rattle.atomic_table.specs.Table as table
use Rattle.task_moves.specs.declared.moves.state.State.{State}
use Rattle.task_moves.specs.Moves as moves
use Rattle.task_word.specs.declared.rule.View.{View}
use Rattle.task_word.specs.declared.rule.Hold.{Hold}
use Rattle.task_word.specs.declared.rule.Hold.TheVariants.{Reference, Leaving, Handle, Made, Queued, Running, Closing, Ending, Filling, Spending, Registering, HandleNotifying, RunNotifying, Emptying}
use Rattle.task_word.specs.declared.rule.Content.{Content}
use Rattle.task_word.specs.declared.rule.Content.TheVariants.{Future, Output, Awaiter}
use Rattle.task_word.specs.Word.{bit, pack}

-- what a slot has
abbrev pub Slot : Type 0 → Type 0 → Type 0 → Type 0
Slot F T W = Option (Content F T W)

-- where the future or the output is: the task is idle; a Runnable rests in the word; a seat has the Runnable; a seat has
-- the slot; the output waits for the handle; it is gone
pub data Body (F T : Type 0) : Type 0 where
  idle : F → Body F T
  resting : F → Body F T
  queued : F → ℕ → Body F T
  taken : Hold → ℕ → Body F T
  kept : T → Body F T
  gone : Body F T

-- where the awaiter is: in its slot, where there is one; or its slot is out with a seat
pub data Post (W : Type 0) : Type 0 where
  lies : Option W → Post W
  held : Hold → ℕ → Post W

-- from this many references on no copy is made
abbrev pub most : ℕ
most = 2 ^ 40

-- the state of a cell that is taken for a task, but has none yet: it is closed, so that nobody wakes it
abbrev pub filling : State
filling = record moves.made { closed = true; handle = false; references = 0 }

-- the state of a cell with no task
abbrev pub vacant : State
vacant = record moves.made { scheduled = false; closed = true; handle = false; references = 0 }

-- the reference that such a seat has, and whether it has the handle
abbrev pub weight : Hold → ℕ
weight Reference = 1
weight Leaving = 1
weight Made = 1
weight Queued = 1
weight Running = 1
weight Closing = 1
weight Ending = 1
weight RunNotifying = 1
weight _ = 0

abbrev pub handle_weight : Hold → ℕ
handle_weight Handle = 1
handle_weight Made = 1
handle_weight Spending = 1
handle_weight Registering = 1
handle_weight HandleNotifying = 1
handle_weight _ = 0

-- what of these the views count, where neither the body nor the post does
abbrev pub reference_of : Hold → ℕ
reference_of Reference = 1
reference_of Leaving = 1
reference_of _ = 0

abbrev pub handle_of : Hold → ℕ
handle_of Handle = 1
handle_of Made = 1
handle_of _ = 0

module _ {F T W : Type 0} where
  -- a slot is home exactly where nobody holds it
  abbrev pub home : Body F T → maybe.Option (Slot F T W)
  home (idle f) = some (Some (Future f))
  home (resting f) = some (Some (Future f))
  home (queued f j) = some (Some (Future f))
  home (taken hold j) = none
  home (kept t) = some (Some (Output t))
  home gone = some None

  abbrev pub home_awaiter : Post W → maybe.Option (Slot F T W)
  home_awaiter (lies (Some w)) = some (Some (Awaiter w))
  home_awaiter (lies None) = some None
  home_awaiter (held hold j) = none

module _ {F T : Type 0} where
  -- a Runnable and a run have a reference of their own
  abbrev pub going : Body F T → ℕ
  going (idle f) = 0
  going (resting f) = 1
  going (queued f j) = 1
  going (taken hold j) = weight hold
  going (kept t) = 0
  going gone = 0

  -- who takes the output has the handle
  abbrev pub spending : Body F T → ℕ
  spending (taken hold j) = handle_weight hold
  spending (idle f) = 0
  spending (resting f) = 0
  spending (queued f j) = 0
  spending (kept t) = 0
  spending gone = 0

  -- the reference that may be there beyond the limit of copies
  abbrev pub room : Body F T → ℕ
  room (idle f) = 0
  room (resting f) = 1
  room (queued f j) = 1
  room (taken hold j) = 1
  room (kept t) = 1
  room gone = 1

module _ {W : Type 0} where
  -- who is at the awaiter has the handle, or a run's reference
  abbrev pub calling : Post W → ℕ
  calling (lies a) = 0
  calling (held hold j) = weight hold

  abbrev pub handling : Post W → ℕ
  handling (lies a) = 0
  handling (held hold j) = handle_weight hold

-- the marks of a task whose future or output a seat has in hand
abbrev pub FitsHold : Hold → State → Type 0
FitsHold Running s = (s.running ≡ true) × (s.completed ≡ false)
FitsHold Closing s = (s.scheduled ≡ true) × (s.running ≡ false) × (s.completed ≡ false) × (s.closed ≡ true)
FitsHold Ending s = (s.running ≡ true) × (s.completed ≡ false) × (s.closed ≡ true)
FitsHold Filling s = s ≡ filling
FitsHold Spending s = (s.scheduled ≡ false) × (s.running ≡ false) × (s.completed ≡ true) × (s.closed ≡ true)
FitsHold _ s = ⊥

module _ {F T : Type 0} where
  abbrev pub Fits : Body F T → State → Bool → Type 0
  Fits (idle f) s rests = (s.scheduled ≡ false) × (s.running ≡ false) × (s.completed ≡ false) × (s.closed ≡ false) × (rests ≡ false)
  Fits (resting f) s rests = (s.scheduled ≡ true) × (s.running ≡ false) × (s.completed ≡ false) × (rests ≡ true)
  Fits (queued f j) s rests = (s.scheduled ≡ true) × (s.running ≡ false) × (s.completed ≡ false) × (rests ≡ false)
  Fits (taken hold j) s rests = FitsHold hold s × (rests ≡ false)
  Fits (kept t) s rests = (s.scheduled ≡ false) × (s.running ≡ false) × (s.completed ≡ true) × (s.closed ≡ false) × (s.handle ≡ true) × (rests ≡ false)
  Fits gone s rests = (s.scheduled ≡ false) × (s.running ≡ false) × (s.closed ≡ true) × (rests ≡ false)

module _ {W : Type 0} where
  -- by the marks of an awaiter, of who registers and of who notifies
  abbrev pub FitsPost : Post W → Bool → Bool → Bool → Type 0
  FitsPost (lies a) awaiter registering notifying = (awaiter ≡ is_some a) × (registering ≡ false) × (notifying ≡ false)
  FitsPost (held Registering j) awaiter registering notifying = registering ≡ true
  FitsPost (held HandleNotifying j) awaiter registering notifying = (registering ≡ false) × (notifying ≡ true)
  FitsPost (held RunNotifying j) awaiter registering notifying = (registering ≡ false) × (notifying ≡ true)
  FitsPost (held Emptying j) awaiter registering notifying = (awaiter ≡ true) × (registering ≡ false) × (notifying ≡ false)
  FitsPost (held _ j) awaiter registering notifying = ⊥

  -- a cell is emptied of its awaiter once nobody can reach the task any more
  abbrev pub Emptied : Post W → State → Type 0
  Emptied (held Emptying j) s = (s.references ≡ 0) × (s.handle ≡ false) × (s.closed ≡ true)
  Emptied _ s = Unit {0}

module _ {F T : Type 0} where
  -- what a seat j knows of the body: so at most one has a right to it
  abbrev pub Knows : Body F T → ℕ → Hold → Type 0
  Knows body j Made = (f : F) × (body ≡ queued f j)
  Knows body j Queued = (f : F) × (body ≡ queued f j)
  Knows body j Running = body ≡ taken Running j
  Knows body j Closing = body ≡ taken Closing j
  Knows body j Ending = body ≡ taken Ending j
  Knows body j Filling = body ≡ taken Filling j
  Knows body j Spending = body ≡ taken Spending j
  Knows body j _ = Unit {0}

module _ {W : Type 0} where
  abbrev pub KnowsPost : Post W → ℕ → Hold → Type 0
  KnowsPost post j Registering = post ≡ held Registering j
  KnowsPost post j HandleNotifying = post ≡ held HandleNotifying j
  KnowsPost post j RunNotifying = post ≡ held RunNotifying j
  KnowsPost post j Emptying = post ≡ held Emptying j
  KnowsPost post j _ = Unit {0}

-- what is left of a run is there only once the task is over
abbrev pub KnowsState : State → Hold → Type 0
KnowsState s Leaving = moves.is_over s ≡ true
KnowsState s RunNotifying = moves.is_over s ≡ true
KnowsState s _ = Unit {0}

-- the references and the handle in the views
abbrev pub total : List View → ℕ
total [] = 0
total (v ∷ vs) = reference_of v.hold + total vs

abbrev pub handles : List View → ℕ
handles [] = 0
handles (v ∷ vs) = handle_of v.hold + handles vs

-- word 0 is this state, word 1 the references of stored wakers, and word 2 whether the handle is stored
pub record Holds {F T W : Type 0} (st : State) (rests : Bool) (s : table.State (Slot F T W) View) : Type 0 where
  pub stored : ℕ
  pub parked : ℕ
  pub body : Body F T
  pub post : Post W
  pub fits : Fits body st rests
  pub bounded : st.references ≤ most + room body
  pub fits_post : FitsPost post st.awaiter st.registering st.notifying
  pub emptied : Emptied post st
  pub word : s.words ≡ pack st rests ∷ stored ∷ parked ∷ []
  pub references : st.references ≡ total s.views + stored + going body + calling post
  pub handle : bit st.handle ≡ handles s.views + parked + spending body + handling post
  pub place : s.homes ≡ home body ∷ home_awaiter post ∷ []
  pub each_seat : (j : ℕ) (d : View) → get_elem? s.views j ≡ some d → Knows body j d.hold × KnowsPost post j d.hold × KnowsState st d.hold

pub record Cell {F T W : Type 0} (s : table.State (Slot F T W) View) : Type 0 where
  pub state : State
  pub rests : Bool
  pub holds : Holds state rests s
