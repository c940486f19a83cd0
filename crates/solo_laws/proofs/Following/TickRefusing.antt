-- A tick that is refused a copy of its waker is as it was, or lies, where the plain scheduler's is; one that isn't made changes nothing.
use Rattle.std.proofs.Common.{◌≡◌, ℕ, suc, ◌≤◌, nat_lt, if◌then◌else◌, true, false, List, [], ◌∷◌, ◌++◌, length, map, find}
use Rattle.std.proofs.Common.{Option, Some, None, refl, sym, ap, subst, ◌∙◌, arith}
use Rattle.executor_parts.specs.Sleepers.{next_number}
use Rattle.solo.specs.declared.names.Task.{Task}
use Rattle.solo.specs.declared.names.SoloWaker.{SoloWaker}
use Rattle.solo.specs.declared.names.SoloWaker.TheVariants.{Task as OfTask}
use Rattle.solo.specs.declared.owed.Lent.{Lent}
use Rattle.solo.specs.declared.solo.Solo.{Solo}
use Rattle.solo.specs.declared.ticks.Ticked.{Ticked}
use Rattle.solo.specs.declared.ticks.Ticker.{Ticker}
use Rattle.solo.specs.declared.ticks.Ticker.TheVariants.{Awake, Asleep}
use Rattle.solo.specs.Lines.{mark_of_turn}
use Rattle.solo.specs.Solo as solo
use Rattle.solo.specs.Ticks as ticks
use Rattle.plain_scheduler.specs.State.{Due, Who, ATick, Answers, Made, NoMemory, Lying, Choice, Plain, Tick}
use Rattle.plain_scheduler.specs.Lists.{any, or, without}
use Rattle.plain_scheduler.specs.Moves.{answers, copied, is_who, lies}
use Rattle.plain_scheduler.specs.Takes as takes
use Rattle.plain_scheduler.specs.Calls as calls
use Rattle.solo_laws.specs.Alike.{copies}
use Rattle.solo_laws.specs.Numbered.{IsNumbered}
use Rattle.solo_laws.specs.Road.{HasLife, IsNamed, wakes}
use Rattle.solo_laws.specs.Tabled.{Stands, named}
use Rattle.solo_laws.specs.Ticking.{IsRefused, LiesRefused, TicksAreUnmade, TicksAreRefused, TicksLieRefused, numbered_by, looks_again}
use Rattle.solo_laws.specs.Ticking.{slept_answer, slept_once}
use Rattle.solo_laws.proofs.Lines.{searched_empty}
use Rattle.solo_laws.proofs.Following.Due.{clash}
use Rattle.solo_laws.proofs.Following.Bases as bases
use Rattle.solo_laws.proofs.Following.Frames.{still}
use Rattle.solo_laws.proofs.Following.Losing.{sees}
use Rattle.solo_laws.proofs.Following.LyingDown.{lain, lain_found}
use Rattle.solo_laws.proofs.Following.Numbers.{found_none, without_none}
use Rattle.solo_laws.proofs.Following.Resting as resting
use Rattle.solo_laws.proofs.Following.Resting.{Standing, copied_lying, copies_sleepers, slept_under}
use Rattle.solo_laws.proofs.Following.Tabling.{tabled}
use Rattle.solo_laws.proofs.Following.Trying as trying
use Rattle.solo_laws.proofs.Showing.Polling.{copied_events}

module _ {F T X : Type 0} (its : ℕ → Lent) (number : Who → ℕ) (s : Solo F T X) (p : Plain T (SoloWaker X)) (c : Choice) where
  pub refuses : (new : Who → ℕ) (z : Solo F T X) (q : Plain T (SoloWaker X)) → Stands its z q → IsNumbered new z.sleepers q.lying
      → q.events ≡ p.events → IsRefused its number s p new z (answers NoMemory q)
  refuses new z q both numbered seen = record {
    stands = sees its c z q NoMemory both;
    numbered = numbered;
    seen = ap (λ es. es ++ Answers NoMemory ∷ []) seen;
  }

  module _ (who : Who) (w : SoloWaker X) (so : Standing its c who w number (solo.popped s) p)
      (names : (u : Task) → w ≡ OfTask u → IsNamed (named its) (length p.futures) u × (solo.may_hold u s ≡ true))
      (many : suc (length p.lying) ≤ c.tells) (life : HasLife 2 (solo.popped s).lines) where
    fewer : length p.lying ≤ c.tells
    fewer = omega (arith, many)

    abbrev q : Plain T (SoloWaker X)
    q = copied wakes w p

    -- it lies, and has looked again
    lies_on : (new : Who → ℕ) (ticker : Ticker) (z : Solo F T X) (ls : List (Lying (SoloWaker X)))
        → Standing its c who w new z (record q { lying = ls ++ lain who w ∷ [] })
        → any (is_who who) (map (λ (l : Lying (SoloWaker X)). l.who) ls) ≡ false
        → slept_once ticker w s ≡ z → (slept_answer ticker w s).ticker ≡ slept_under (new who)
        → ((v : Who) → is_who who v ≡ false → new v ≡ number v)
        → LiesRefused its number s p who new (slept_answer ticker w s) (solo.popped (slept_once ticker w s))
        (answers NoMemory (record q { lying = ls ++ lain who w ∷ [] }))
    lies_on new ticker z ls stands gone is its_ticker others =
        let lies_now : Plain T (SoloWaker X) = record q { lying = ls ++ lain who w ∷ [] } in
        let on = resting.popped_so its c who w new z lies_now stands in
        record {
          refused =
              subst (λ (z : Solo F T X). IsRefused its number s p new (solo.popped z) (answers NoMemory lies_now)) (sym is)
              (refuses new (solo.popped z) lies_now (on.follows, on.tabled) on.numbered (copied_events w p));
          ticker =
              its_ticker
              ∙ sym (ap (λ o. or o (λ l. Asleep (record { number = new who })) (Awake ticks.its_room)) (lain_found who w ls gone));
          others = others;
        }

    anew : find (lies who) p.lying ≡ None → nat_lt s.sleepers.count s.sleepers.rooms ≡ true
        → LiesRefused its number s p who (numbered_by who (next_number (copies w (solo.popped s)).sleepers) number)
        (slept_answer (Awake ticks.its_room) w s) (solo.popped (slept_once (Awake ticks.its_room) w s))
        (answers NoMemory (takes.lain wakes c who w q))
    anew none room =
        let none_q : find (lies who) q.lying ≡ None = ap (find (lies who)) (copied_lying w p) ∙ none in
        let no_who = found_none who q.lying none_q in
        let new = resting.new its c who w number (solo.popped s) p so names fewer life none_q room in
        let y = copies w (solo.popped s) in
        let z : Solo F T X = ticks.stored (resting.asleep its c who w number (solo.popped s) p so names fewer life none_q room) y in
        subst (λ ls. LiesRefused its number s p who new (slept_answer (Awake ticks.its_room) w s)
        (solo.popped (slept_once (Awake ticks.its_room) w s)) (answers NoMemory (record q { lying = ls ++ lain who w ∷ [] })))
        (sym (without_none who q.lying none_q))
        (lies_on new (Awake ticks.its_room) z q.lying
        (resting.anew_so its c who w number (solo.popped s) p so names fewer life none_q room) no_who
        (resting.anew_is its c who w number (solo.popped s) p so names fewer life none_q room)
        (ap (λ (out : Ticked F X). out.ticker) (resting.anew_answer its c who w number (solo.popped s) p so names fewer life none_q room)
        ∙ resting.its_number its c who w number (solo.popped s) p so names fewer life none_q room)
        (λ v apart. ap (λ b. if b then next_number y.sleepers else number v) apart))

    module _ (l : Lying (SoloWaker X)) (is : find (lies who) p.lying ≡ Some l) where
      is_q : find (lies who) q.lying ≡ Some l
      is_q = ap (find (lies who)) (copied_lying w p) ∙ is

      called : l.waker ≡ None
          → LiesRefused its number s p who number (slept_answer (slept_under (number who)) w s)
          (solo.popped (slept_once (slept_under (number who)) w s)) (answers NoMemory (takes.lain wakes c who w q))
      called none =
          let y = copies w (solo.popped s) in
          let z : Solo F T X = ticks.stored (resting.more its c who w number (solo.popped s) p so names fewer life l is_q none) y in
          lies_on number (slept_under (number who)) z (without (lies who) q.lying)
          (resting.later_so its c who w number (solo.popped s) p so names fewer life l is_q none)
          (resting.others_gone its c who w number (solo.popped s) p so names fewer life l is_q none)
          (resting.later_is its c who w number (solo.popped s) p so names fewer life l is_q none)
          (ap (λ (out : Ticked F X). out.ticker)
          (resting.later_answer its c who w number (solo.popped s) p so names fewer life l is_q none))
          (λ v apart. refl)

      -- one that wasn't called doesn't look again
      never : (old : SoloWaker X) → l.waker ≡ Some old → looks_again (slept_answer (slept_under (number who)) w s).look ≡ true → ⊥
      never old has again =
          clash (ap (λ (out : Ticked F X). looks_again out.look)
          (resting.answer_is its c who w number (solo.popped s) p so names fewer life l is_q old has)) again

    abbrev pub Refused : Option (Lying (SoloWaker X)) → Plain T (SoloWaker X) → Type 0
    Refused o q =
        let ticker = or o (λ l. slept_under (number who)) (Awake ticks.its_room) in
        LiesRefused its number s p who (or o (λ l. number) (numbered_by who (next_number s.sleepers) number))
        (slept_answer ticker w s) (solo.popped (slept_once ticker w s)) q

    abbrev laid_by : Option (Lying (SoloWaker X)) → Plain T (SoloWaker X)
    laid_by o =
        or o (λ l. or l.waker (λ old. takes.lain_again wakes c who w old q) (takes.lain wakes c who w q)) (takes.lain wakes c who w q)

    -- one that finds nothing lies, and is refused the copy for its second look
    pub lies_refused : (o : Option (Lying (SoloWaker X))) → find (lies who) p.lying ≡ o
        → (o ≡ None → nat_lt s.sleepers.count s.sleepers.rooms ≡ true)
        → looks_again (slept_answer (or o (λ l. slept_under (number who)) (Awake ticks.its_room)) w s).look ≡ true
        → Refused o (answers NoMemory (laid_by o))
    lies_refused None is room again =
        subst
        (λ sl. LiesRefused its number s p who (numbered_by who (next_number sl) number)
        (slept_answer (Awake ticks.its_room) w s) (solo.popped (slept_once (Awake ticks.its_room) w s)) (answers NoMemory (laid_by None)))
        (copies_sleepers w (solo.popped s)) (anew is (room refl))
    lies_refused (Some l) is room again = waker l.waker refl
      where
        waker : (a : Option (SoloWaker X)) → l.waker ≡ a
            → Refused (Some l) (answers NoMemory (or a (λ old. takes.lain_again wakes c who w old q) (takes.lain wakes c who w q)))
        waker None has = called l is has
        waker (Some old) has = absurd (never l is old has again)

module _ {F T X : Type 0} (its : ℕ → Lent) (number : Who → ℕ) (s : Solo F T X) (p : Plain T (SoloWaker X)) (both : Stands its s p)
    (n : IsNumbered number s.sleepers p.lying) where
  pub ticks_unmade : TicksAreUnmade its number s p
  ticks_unmade c refused =
      subst (λ b. IsRefused its number s p number s (if b then answers Made p else answers NoMemory p)) (sym refused)
      (refuses its number s p c number s p both n refl)

  -- nothing is found
  module _ (c : Choice) (t : ℕ) (w : SoloWaker X) (none : solo.sought s ≡ None) (turn : c.first ≡ mark_of_turn s.lines.turn) where
    nothing_due : find (trying.test (named its) c s p turn both.0) p.due ≡ None
    nothing_due = by (find (trying.test (named its) c s p turn both.0) p.due) refl
      where
        by : (o : Option Due) → find (trying.test (named its) c s p turn both.0) p.due ≡ o → o ≡ None
        by None is = refl
        by (Some d) is =
            let some = trying.something (named its) c s p turn both.0 d is in
            let both_are : ◌≡◌ {A = Option Task} None (Some (named its d.future)) = sym none ∙ some.0 in
            absurd cc

    poll_is : calls.does wakes c (calls.Call.PollTick t w) p ≡ takes.rests wakes c c.refusal (ATick t) w p
    poll_is =
        ap (λ o. or o (λ d. takes.takes wakes c (Tick t w) d
        (record p { due = without (trying.test (named its) c s p turn both.0) p.due })) (takes.nothing wakes c (Tick t w) p)) nothing_due

    so : Standing its c (ATick t) w number (solo.popped s) p
    so = record {
      follows = (trying.nothing (named its) c s p turn both.0 nothing_due).1;
      tabled = tabled its c s (solo.popped s) p p (bases.same s) (still c p) both.1;
      numbered = n;
      none = searched_empty s.lines none;
    }

  pub ticks_refused : TicksAreRefused its number s p
  ticks_refused c t w none turn refused =
      let at = so c t w none turn in
      subst (λ q. IsRefused its number s p number (solo.popped s) q)
      (sym (poll_is c t w none turn ∙ ap (λ r. takes.rests wakes c r (ATick t) w p) refused))
      (refuses its number s p c number (solo.popped s) p (at.follows, at.tabled) at.numbered refl)

  pub ticks_lie_refused : TicksLieRefused its number s p
  ticks_lie_refused c t w none turn refused room names again many life =
      let at = so c t w none turn in
      let lives = trying.lives (named its) c s p turn both.0 2 life in
      subst (λ q. Refused its number s p c (ATick t) w at names many lives (find (lies (ATick t)) p.lying) q)
      (sym (poll_is c t w none turn ∙ ap (λ r. takes.rests wakes c r (ATick t) w p) refused))
      (lies_refused its number s p c (ATick t) w at names many lives (find (lies (ATick t)) p.lying) refl room again)
