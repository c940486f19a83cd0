-- Memory is refused as was wished, where nothing else refuses a call.
use Rattle.std.proofs.Common.{◌≡◌, ℕ, ◌+◌, ◌<◌, ◌^◌, nat_lt, Bool, true, false}
use Rattle.std.proofs.Common.{slice_get, length, Option, Some, None, refl, sym, ap, subst, ◌∙◌, arith}
use Rattle.std.proofs.lemmas.Bool.Decides.{nat_tests}
use Rattle.executor_parts.specs.Sleepers.{listed as listed_anew, position_of}
use Rattle.task_moves.specs.AbstractTask as abstract
use Rattle.task_moves.specs.AbstractTask.{AbstractTask}
use Rattle.task_moves.specs.LocalTask.{references_of, token_by, with_task}
use Rattle.solo.specs.declared.names.SoloWaker.{SoloWaker}
use Rattle.solo.specs.declared.names.SoloWaker.TheVariants.{Task as OfTask, Outside}
use Rattle.solo.specs.declared.owed.Lent.{Lent}
use Rattle.solo.specs.declared.solo.Solo.{Solo}
use Rattle.solo.specs.declared.ticks.Look.TheVariants.{Again}
use Rattle.solo.specs.declared.ticks.Ticker.{Ticker}
use Rattle.solo.specs.declared.ticks.Ticker.TheVariants.{Asleep, Awake}
use Rattle.solo.specs.Cells.{Kept, choose}
use Rattle.solo.specs.Cells as cells
use Rattle.solo.specs.Lines.{is_empty}
use Rattle.solo.specs.Solo as solo
use Rattle.solo.specs.Ticks as ticks
use Rattle.plain_scheduler.specs.State.{AtOnce, Future, Granted, Later, Plain, Refusal}
use Rattle.plain_scheduler.specs.Moves.{task}
use Rattle.solo_laws.specs.Alike.{copies}
use Rattle.solo_laws.specs.Heeding.{CanBeCopied, IsCopied}
use Rattle.solo_laws.specs.Making.{may_copy, rest_refusal}
use Rattle.solo_laws.specs.Road.{Follows, IsOver, TaskIs}
use Rattle.solo_laws.specs.Tabled.{named}
use Rattle.solo_laws.specs.Ticking.{looks_again, slept_once}
use Rattle.solo_laws.proofs.Following.Cells.{asks_found, changed_found, found, found_here, of_found}
use Rattle.solo_laws.proofs.Following.Changing.{task_is}
use Rattle.solo_laws.proofs.Following.Lists.{get_below}

-- whoever has a first copy, and a second where that is asked for, is refused what memory refuses
pub granted_heeds : (a b d : Bool) (r : Refusal) → a ≡ true → (r ≡ Later → b ≡ true) → rest_refusal a b d r ≡ Granted → r ≡ Granted
granted_heeds false b d r one fits is = absurd cc
granted_heeds true false d Granted one fits is = refl
granted_heeds true false d AtOnce one fits is = absurd cc
granted_heeds true false d Later one fits is = (let it : false ≡ true = fits refl in absurd cc)
granted_heeds true true false Granted one fits is = absurd cc
granted_heeds true true false AtOnce one fits is = absurd cc
granted_heeds true true false Later one fits is = absurd cc
granted_heeds true true true Granted one fits is = refl
granted_heeds true true true AtOnce one fits is = absurd cc
granted_heeds true true true Later one fits is = absurd cc

pub refused_heeds : (a b d : Bool) (r : Refusal) → a ≡ true → rest_refusal a b d r ≡ AtOnce → r ≡ AtOnce
refused_heeds false b d r one is = absurd cc
refused_heeds true b d AtOnce one is = refl
refused_heeds true false d Granted one is = absurd cc
refused_heeds true false d Later one is = absurd cc
refused_heeds true true false Granted one is = absurd cc
refused_heeds true true false Later one is = absurd cc
refused_heeds true true true Granted one is = absurd cc
refused_heeds true true true Later one is = absurd cc

pub later_heeds : (a b d : Bool) (r : Refusal) → a ≡ true → b ≡ true → d ≡ true → rest_refusal a b d r ≡ Later → r ≡ Later
later_heeds false b d r one again two is = absurd cc
later_heeds true false d r one again two is = absurd cc
later_heeds true true false r one again two is = absurd cc
later_heeds true true true Granted one again two is = absurd cc
later_heeds true true true AtOnce one again two is = absurd cc
later_heeds true true true Later one again two is = refl

below : (n k m : ℕ) → n + k + 1 < m → nat_lt (n + k) m ≡ true
below n k m less = grind (arith, nat_tests)

below_more : (n k m : ℕ) → n + k + 1 < m → nat_lt (n + 1 + k) m ≡ true
below_more n k m less = grind (arith, nat_tests)

module _ {T X : Type 0} where
  -- of a task with two references fewer than it may have
  copied_once : (v : Kept T X) (t : AbstractTask T (SoloWaker X)) → v.task ≡ t → references_of t + 1 < 2 ^ 40 → cells.may_hold v ≡ true
  copied_once v t same less =
      ap (λ (t : AbstractTask T (SoloWaker X)). nat_lt (references_of t) (2 ^ 40)) same ∙ below t.wakers (token_by t.phase) (2 ^ 40) less

  copied_twice : (v : Kept T X) (t : AbstractTask T (SoloWaker X)) → v.task ≡ t → references_of t + 1 < 2 ^ 40
      → cells.may_hold (cells.held v) ≡ true
  copied_twice v t same less =
      ap (λ b. cells.may_hold (choose b (with_task v (abstract.copy v.task)) v)) (copied_once v t same less)
      ∙ (ap (λ (t : AbstractTask T (SoloWaker X)). nat_lt (references_of (abstract.copy t)) (2 ^ 40)) same
      ∙ below_more t.wakers (token_by t.phase) (2 ^ 40) less)

module _ {F T X : Type 0} (its : ℕ → Lent) (s : Solo F T X) (p : Plain T (SoloWaker X)) (r : Follows (named its) s p) where
  -- it is there, as the plain scheduler has it
  pub here : (f : ℕ) → f < length p.futures → 0 < references_of (task f p)
      → (v : Kept T X) × (found (named its f) s.cells ≡ Some v) × (v.task ≡ task f p)
  here f came some =
      let x = get_below p.futures f came in
      by x.0 x.1 (found (named its f) s.cells) refl (subst (TaskIs (found (named its f) s.cells)) x.1 (r.tasks f came))
    where
      none_left : (t : AbstractTask T (SoloWaker X)) → IsOver t → 0 < references_of t → ⊥
      none_left t over less =
          let none = over.wakers in
          let idle : token_by t.phase ≡ 0 = ap (λ phase. token_by phase) over.phase in
          absurd (omega (arith, none, idle, less))

      by : (x : Future T (SoloWaker X)) → slice_get p.futures f ≡ Some x → (o : Option (Kept T X)) → found (named its f) s.cells ≡ o
          → TaskIs o (Some x) → (v : Kept T X) × (found (named its f) s.cells ≡ Some v) × (v.task ≡ task f p)
      by x is None none over =
          absurd (none_left x.task over (subst (λ (t : AbstractTask T (SoloWaker X)). 0 < references_of t) (task_is f p x is) some))
      by x is (Some v) there of = (v, there, of.task ∙ sym (task_is f p x is))

  -- it may be copied where it has fewer references than it may
  pub may_hold_by : (f : ℕ) → f < length p.futures → 0 < references_of (task f p)
      → solo.may_hold (named its f) s ≡ nat_lt (references_of (task f p)) (2 ^ 40)
  may_hold_by f came some =
      let it = here f came some in
      asks_found cells.may_hold false (named its f) s.cells
      ∙ (ap (of_found cells.may_hold false) it.1
      ∙ ap (λ (t : AbstractTask T (SoloWaker X)). nat_lt (references_of t) (2 ^ 40)) it.2)

  pub may_once : (f : ℕ) → CanBeCopied its p f → solo.may_hold (named its f) s ≡ true
  may_once f can =
      let it = here f can.0 can.1 in
      asks_found cells.may_hold false (named its f) s.cells
      ∙ (ap (of_found cells.may_hold false) it.1 ∙ copied_once it.0 (task f p) it.2 can.2)

  may_twice : (f : ℕ) → CanBeCopied its p f → (z : Solo F T X) → z.cells ≡ cells.changed cells.held (named its f) s.cells
      → solo.may_hold (named its f) z ≡ true
  may_twice f can z same =
      let it = here f can.0 can.1 in
      ap (λ cs. cells.asked cells.may_hold false (named its f) cs) same
      ∙ (asks_found cells.may_hold false (named its f) (cells.changed cells.held (named its f) s.cells)
      ∙ (ap (of_found cells.may_hold false) (found_here cells.held (named its f) s.cells)
      ∙ (ap (λ o. of_found cells.may_hold false (changed_found cells.held o)) it.1 ∙ copied_twice it.0 (task f p) it.2 can.2)))

  pub copy_once : (w : SoloWaker X) → IsCopied its p w → may_copy w s ≡ true
  copy_once (Outside x) can = refl
  copy_once (OfTask t) can = subst (λ t. solo.may_hold t s ≡ true) can.0.1 (may_once t.number can.1)

  pub copy_twice : (w : SoloWaker X) → IsCopied its p w → (z : Solo F T X) → z.cells ≡ (copies w s).cells → may_copy w z ≡ true
  copy_twice (Outside x) can z same = refl
  copy_twice (OfTask t) can z same =
      subst (λ u. solo.may_hold u z ≡ true) can.0.1
      (may_twice t.number can.1 z (same ∙ ap (λ u. cells.changed cells.held u s.cells) (sym can.0.1)))

-- who looks again has let no waker go
module _ {F T X : Type 0} where
  asleep_cells : (ticker : Ticker) (w : SoloWaker X) (y : Solo F T X) → looks_again (ticks.slept_answer ticker w y).look ≡ true
      → (ticks.slept ticker w y).cells ≡ y.cells
  asleep_cells (Awake room) w y again = by (is_empty y.lines) (nat_lt y.sleepers.count y.sleepers.rooms)
    where
      by : (b c : Bool) → (choose b (ticks.lain_anew c w y) y).cells ≡ y.cells
      by true true = refl
      by true false = refl
      by false c = refl
  asleep_cells (Asleep sleeper) w y again =
      by (is_empty y.lines) (position_of sleeper.number y.sleepers.wakers) again
    where
      by : (b : Bool) (at : Option ℕ)
          → looks_again (choose b (ticks.sleep_again_answer at sleeper w y)
          (ticks.look_answer (Asleep sleeper) Again None (Some w) y)).look ≡ true
          → (choose b (ticks.lain_again at sleeper.number w y) y).cells ≡ y.cells
      by false at again = refl
      by true (Some at) again = absurd cc
      by true None again = short (ticks.is_short y)
        where
          short : (c : Bool) → (choose c (ticks.stored (listed_anew sleeper.number w y.sleepers) y) y).cells ≡ y.cells
          short true = refl
          short false = refl

  popped_copies : (w : SoloWaker X) (s : Solo F T X) → (copies w (solo.popped s)).cells ≡ (copies w s).cells
  popped_copies (OfTask t) s = refl
  popped_copies (Outside x) s = refl

  pub once_cells : (ticker : Ticker) (w : SoloWaker X) (s : Solo F T X)
      → looks_again (ticks.slept_answer ticker w (copies w (solo.popped s))).look ≡ true → (slept_once ticker w s).cells ≡
      (copies w s).cells
  once_cells ticker w s again = asleep_cells ticker w (copies w (solo.popped s)) again ∙ popped_copies w s
