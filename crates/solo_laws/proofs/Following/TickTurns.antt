-- How many turns a tick's poll takes in the executor of one owner: one where it finds a future, else those of a search in vain.
use Rattle.std.proofs.Common.{◌≡◌, ◌≤◌, ◌+◌, ◌^◌, ◌%◌, ℕ, suc, List, [], ◌∷◌, Bool, true, false, Option, Some, None, length, find, is_some}
use Rattle.std.proofs.Common.{refl, sym, ap, ◌∙◌, arith, if◌then◌else◌}
use Rattle.executor_parts.specs.Marks.{other}
use Rattle.executor_parts.specs.declared.mark.Mark.{Mark}
use Rattle.executor_parts.specs.declared.mark.Mark.TheVariants.{Plain as PlainMark, Urgent}
use Rattle.solo.specs.declared.names.Task.{Task}
use Rattle.solo.specs.declared.names.SoloWaker.{SoloWaker}
use Rattle.solo.specs.declared.names.SoloWaker.TheVariants.{Task as OfTask}
use Rattle.solo.specs.declared.owed.Lent.{Lent}
use Rattle.solo.specs.declared.solo.Solo.{Solo}
use Rattle.solo.specs.declared.ticks.Ticker.{Ticker}
use Rattle.solo.specs.Lines.{mark_of_turn}
use Rattle.solo.specs.Solo as solo
use Rattle.solo.specs.Ticks as ticks
use Rattle.plain_scheduler.specs.State.{ATick, AtOnce, Choice, Due, Granted, Later, Plain, Refusal, Who}
use Rattle.plain_scheduler.specs.Lists.{any}
use Rattle.plain_scheduler.specs.Moves.{chosen as chosen_of, is_common}
use Rattle.plain_scheduler.specs.Turns.{tick_turns, turned_in}
use Rattle.plain_scheduler.specs.Usual.{vain_turns}
use Rattle.solo_laws.specs.Numbered.{IsNumbered, ticker_of}
use Rattle.solo_laws.specs.Owner.{HasRoom}
use Rattle.solo_laws.specs.Road.{HasLife, IsNamed, tests}
use Rattle.solo_laws.specs.Tabled.{Stands, named}
use Rattle.solo_laws.specs.Ticking.{looks_again, rested, slept_answer, slept_once}
use Rattle.solo_laws.proofs.Lines.{searched_empty}
use Rattle.solo_laws.proofs.Turning.{found_at, searched_turn}
use Rattle.solo_laws.proofs.Following.Bases as bases
use Rattle.solo_laws.proofs.Following.Due.{clash}
use Rattle.solo_laws.proofs.Following.Frames.{still}
use Rattle.solo_laws.proofs.Following.Resting.{Standing}
use Rattle.solo_laws.proofs.Following.Tabling.{tabled}
use Rattle.solo_laws.proofs.Following.Taking.{found_any}
use Rattle.solo_laws.proofs.Following.Trying as trying
use Rattle.solo_laws.proofs.Following.VainTurns.{later_vain, refused_vain, rested_vain}

find_same : (t u : Due → Bool) (due : List Due) → ((d : Due) → t d ≡ u d) → find t due ≡ find u due
find_same t u [] same = refl
find_same t u (d ∷ ds) same =
    ap (λ b. if b then Some d else find t ds) (same d) ∙ ap (λ o. if u d then Some d else o) (find_same t u ds same)

find_never : (due : List Due) → find (λ d. false) due ≡ None
find_never [] = refl
find_never (d ∷ ds) = find_never ds

both_marks : (m x : Mark) (due : List Due) → any (is_common m) due ≡ false → any (is_common (other m)) due ≡ false
    → any (is_common x) due ≡ false
both_marks PlainMark PlainMark due none nor = none
both_marks PlainMark Urgent due none nor = nor
both_marks Urgent PlainMark due none nor = nor
both_marks Urgent Urgent due none nor = none

-- where nothing without a keeper is due a search finds none, and else it does
pub none_common : (m : Mark) (due : List Due) → any (is_common PlainMark) due ≡ false → any (is_common Urgent) due ≡ false
    → find (chosen_of (tests m) due) due ≡ None
none_common m due none nor =
    find_same (chosen_of (tests m) due) (λ d. false) due
    (λ d. ap (λ b. if b then is_common m d else (if any (is_common (other m)) due then is_common (other m) d else false)) (of m)
    ∙ ap (λ b. if b then is_common (other m) d else false) (of (other m)))
    ∙ find_never due
  where
    of : (m : Mark) → any (is_common m) due ≡ false
    of PlainMark = none
    of Urgent = nor

pub none_found_common : (m x : Mark) (due : List Due) → find (chosen_of (tests m) due) due ≡ None → any (is_common x) due ≡ false
none_found_common m x due is = by (any (is_common m) due) refl (any (is_common (other m)) due) refl
  where
    by : (b : Bool) → any (is_common m) due ≡ b → (e : Bool) → any (is_common (other m)) due ≡ e → any (is_common x) due ≡ false
    by true one e two =
        absurd
        (clash
        (found_any (is_common m) due
        ∙ ap (λ (o : Option Due). is_some o) (sym (find_same (chosen_of (tests m) due) (is_common m) due
        (λ d. ap (λ b. if b then is_common m d else (if any (is_common (other m)) due then is_common (other m) d else false)) one)) ∙ is))
        one)
    by false one true two =
        absurd
        (clash
        (found_any (is_common (other m)) due
        ∙ ap (λ (o : Option Due). is_some o) (sym (find_same (chosen_of (tests m) due) (is_common (other m)) due
        (λ d. ap (λ b. if b then is_common m d else (if any (is_common (other m)) due then is_common (other m) d else false)) one
        ∙ ap (λ b. if b then is_common (other m) d else false) two)) ∙ is))
        two)
    by false one false two = both_marks m x due one two

module _ {F T X : Type 0} (its : ℕ → Lent) (number : Who → ℕ) (s : Solo F T X) (p : Plain T (SoloWaker X)) (both : Stands its s p)
    (n : IsNumbered number s.sleepers p.lying) (c : Choice) (t : ℕ) (w : SoloWaker X) (turn : c.first ≡ mark_of_turn s.lines.turn) where
  abbrev ticker : Ticker
  ticker = ticker_of number (ATick t) p.lying

  abbrev by_marks : Refusal → Bool → Bool → ℕ
  by_marks r plain urgent = if plain then 1 else (if urgent then 1 else vain_turns r (ATick t) p.lying)

  -- it finds one
  pub taken_turns : (task : Task) → solo.sought s ≡ Some task
      → (ticks.found ticker task (solo.popped s)).lines.turn ≡ turned_in (tick_turns c.refusal t p) s.lines.turn
  taken_turns task some =
      found_at ((s.lines.turn + 1) % 2 ^ 64) ticker task (solo.popped s) (searched_turn s.lines)
      ∙ ap (λ k. turned_in k s.lines.turn) (sym (one (any (is_common PlainMark) p.due) refl (any (is_common Urgent) p.due) refl))
    where
      one : (b : Bool) → any (is_common PlainMark) p.due ≡ b → (e : Bool) → any (is_common Urgent) p.due ≡ e
          → by_marks c.refusal b e ≡ 1
      one true none e nor = refl
      one false none true nor = refl
      one false none false nor =
          let no : ◌≡◌ {A = Option Task} (Some task) None =
          sym some ∙ (trying.nothing (named its) c s p turn both.0 (none_common c.first p.due none nor)).0 in absurd cc

  -- it finds none: no future without a keeper is due
  pub none_sought : solo.sought s ≡ None → find (trying.test (named its) c s p turn both.0) p.due ≡ None
  none_sought none = by (find (trying.test (named its) c s p turn both.0) p.due) refl
    where
      by : (o : Option Due) → find (trying.test (named its) c s p turn both.0) p.due ≡ o → o ≡ None
      by None is = refl
      by (Some d) is =
          let some = trying.something (named its) c s p turn both.0 d is in
          let no : ◌≡◌ {A = Option Task} None (Some (named its d.future)) = sym none ∙ some.0 in absurd cc

  vain : (r : Refusal) → solo.sought s ≡ None → vain_turns r (ATick t) p.lying ≡ tick_turns r t p
  vain r none =
      let is = none_sought none in
      sym (ap (λ b. by_marks r b (any (is_common Urgent) p.due)) (none_found_common c.first PlainMark p.due is)
      ∙ ap (by_marks r false) (none_found_common c.first Urgent p.due is))

  in_vain : (r : Refusal) (z : Solo F T X) → solo.sought s ≡ None → c.refusal ≡ r
      → z.lines.turn ≡ turned_in (vain_turns r (ATick t) p.lying) s.lines.turn
      → z.lines.turn ≡ turned_in (tick_turns c.refusal t p) s.lines.turn
  in_vain r z none refused is =
      is ∙ ap (λ k. turned_in k s.lines.turn) (vain r none ∙ ap (λ r. tick_turns r t p) (sym refused))

  -- it is refused memory at once
  pub refused_turns : solo.sought s ≡ None → c.refusal ≡ AtOnce
      → (solo.popped s).lines.turn ≡ turned_in (tick_turns c.refusal t p) s.lines.turn
  refused_turns none refused = in_vain AtOnce (solo.popped s) none refused (refused_vain (ATick t) p.lying s)

  module _ (none : solo.sought s ≡ None) (room : HasRoom (ATick t) s p)
      (names : (u : Task) → w ≡ OfTask u → IsNamed (named its) (length p.futures) u × (solo.may_hold u s ≡ true))
      (many : suc (length p.lying) ≤ c.tells) (life : HasLife 2 s.lines) where
    fewer : length p.lying ≤ c.tells
    fewer = omega (arith, many)

    so : Standing its c (ATick t) w number (solo.popped s) p
    so = record {
      follows = (trying.nothing (named its) c s p turn both.0 (none_sought none)).1;
      tabled = tabled its c s (solo.popped s) p p (bases.same s) (still c p) both.1;
      numbered = n;
      none = searched_empty s.lines none;
    }

    lives : HasLife 2 (solo.popped s).lines
    lives = trying.lives (named its) c s p turn both.0 2 life

    -- it lies, or lies down and searches again
    pub rested_turns : c.refusal ≡ Granted
        → (rested ticker w s).lines.turn ≡ turned_in (tick_turns c.refusal t p) s.lines.turn
    rested_turns granted =
        in_vain Granted (rested ticker w s) none granted (rested_vain its number s p c (ATick t) w so names fewer lives room)

    -- it lies down, searches again, and is refused memory
    pub later_turns : c.refusal ≡ Later → looks_again (slept_answer ticker w s).look ≡ true
        → (solo.popped (slept_once ticker w s)).lines.turn ≡ turned_in (tick_turns c.refusal t p) s.lines.turn
    later_turns refused looks =
        in_vain Later (solo.popped (slept_once ticker w s)) none refused
        (later_vain its number s p c (ATick t) w so names fewer lives room looks)
