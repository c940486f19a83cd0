-- A tick that finds nothing lies down where the plain scheduler's does, by a number of its own.
use Rattle.std.proofs.Common.{◌≡◌, ℕ, suc, ◌≤◌, nat_lt, if◌then◌else◌, Bool, true, false, List, [], ◌∷◌, ◌++◌, length, map, find}
use Rattle.std.proofs.Common.{Option, Some, None}
use Rattle.std.proofs.Common.{append-nil, refl, sym, ap, subst, ◌∙◌, arith}
use Rattle.solo.specs.declared.names.Task.{Task}
use Rattle.solo.specs.declared.names.SoloWaker.{SoloWaker}
use Rattle.solo.specs.declared.names.SoloWaker.TheVariants.{Task as OfTask}
use Rattle.solo.specs.declared.owed.Lent.{Lent}
use Rattle.solo.specs.declared.solo.Solo.{Solo}
use Rattle.executor_parts.specs.Sleepers.{next_number}
use Rattle.solo.specs.declared.ticks.Look.TheVariants.{Nothing}
use Rattle.solo.specs.declared.ticks.Ticked.{Ticked}
use Rattle.solo.specs.declared.ticks.Ticker.TheVariants.{Awake, Asleep}
use Rattle.solo.specs.Cells.{choose}
use Rattle.solo.specs.Solo as solo
use Rattle.solo.specs.Ticks as ticks
use Rattle.plain_scheduler.specs.State.{Due, Who, ATick, Answers, Pending, Lying, Choice, Plain, Tick}
use Rattle.plain_scheduler.specs.Lists.{any, or, without}
use Rattle.plain_scheduler.specs.Moves.{answers, copied, is_who, lies}
use Rattle.plain_scheduler.specs.Takes as takes
use Rattle.solo_laws.specs.Alike.{copies, lets_go}
use Rattle.solo_laws.specs.Numbered.{IsNumbered}
use Rattle.solo_laws.specs.Road.{HasLife, IsNamed, wakes}
use Rattle.solo_laws.specs.Shown.{rings}
use Rattle.solo_laws.specs.Tabled.{Stands, named}
use Rattle.solo_laws.specs.Ticking.{IsAtRest, TicksRest, numbered_by, looks_again, rest_answer, rested, slept_answer, slept_once}
use Rattle.solo_laws.proofs.Lines.{searched_empty}
use Rattle.solo_laws.proofs.Following.Bases as bases
use Rattle.solo_laws.proofs.Following.Frames.{still, copied_still}
use Rattle.solo_laws.proofs.Following.Losing.{sees}
use Rattle.solo_laws.proofs.Following.GettingUp.{long_last}
use Rattle.solo_laws.proofs.Following.LyingDown.{lain, lain_found}
use Rattle.solo_laws.proofs.Following.Numbers.{awake_whos, found_lies, found_none, lies_found, without_none}
use Rattle.solo_laws.proofs.Following.Resting as resting
use Rattle.solo_laws.proofs.Following.Resting.{Standing, copied_lying, copies_lines, copies_sleepers, slept_under}
use Rattle.solo_laws.proofs.Following.Tabling.{tabled}
use Rattle.solo_laws.proofs.Following.Trying as trying
use Rattle.solo_laws.proofs.Showing.Polling.{copied_events}
use Rattle.solo_laws.proofs.Showing.Telling.{step}

shorter : {A : Type 0} (who : Who) (ls : List (Lying A)) → length (without (lies who) ls) ≤ length ls
shorter who [] = omega arith
shorter who (m ∷ ms) = by (lies who m) (shorter who ms)
  where
    by : (b : Bool) → length (without (lies who) ms) ≤ length ms
        → length (if b then ms else m ∷ without (lies who) ms) ≤ suc (length ms)
    by true it = omega arith
    by false it = omega (arith, it)

no_fewer : {A : Type 0} (ls ms : List (Lying A)) → ms ≡ ls → length ms ≤ length ls
no_fewer ls ms same = subst (λ ns. length ns ≤ length ls) (sym same) (not_less (length ls))
  where
    not_less : (n : ℕ) → n ≤ n
    not_less n = omega arith

module _ {F T X : Type 0} (its : ℕ → Lent) (number : Who → ℕ) (s : Solo F T X) (p : Plain T (SoloWaker X)) (c : Choice) (who : Who)
    (w : SoloWaker X) where
  -- it lies, and the poll is answered
  finish : (new : Who → ℕ) (out : Ticked F X) (z : Solo F T X) (q : Plain T (SoloWaker X)) → Stands its z q
      → IsNumbered new z.sleepers q.lying → out.ticker ≡ slept_under (new who)
      → any (is_who who) (map (λ (l : Lying (SoloWaker X)). l.who) q.lying) ≡ true
      → ((v : Who) → is_who who v ≡ false → new v ≡ number v) → q.events ≡ p.events ++ rings out.sleeper
      → IsAtRest its number s p who new out z (answers Pending q)
  finish new out z q stands numbered ticker there others seen =
      let l = lies_found who q.lying there in
      record {
        stands = sees its c z q Pending stands;
        numbered = numbered;
        ticker =
            ticker ∙ sym (ap (λ o. or o (λ l. Asleep (record { number = new who })) (Awake ticks.its_room)) l.1);
        others = others;
        seen = step p.events (rings out.sleeper) (Answers Pending ∷ []) seen refl;
      }

  at_rest : (new : Who → ℕ) (out it : Ticked F X) (z y : Solo F T X) (q : Plain T (SoloWaker X)) → out ≡ it → z ≡ y
      → IsAtRest its number s p who new it y q → IsAtRest its number s p who new out z q
  at_rest new out it z y q same_out same_z is =
      subst (λ out. IsAtRest its number s p who new out z q) (sym same_out)
      (subst (λ z. IsAtRest its number s p who new it z q) (sym same_z) is)

  fewer_left : (ls : List (Lying (SoloWaker X))) → length ls ≤ length p.lying → length (without (lies who) ls) ≤ length p.lying
  fewer_left ls few = let it = shorter who ls in omega (arith, it, few)

  module _ (so : Standing its c who w number (solo.popped s) p)
      (names : (u : Task) → w ≡ OfTask u → IsNamed (named its) (length p.futures) u × (solo.may_hold u s ≡ true))
      (many : suc (length p.lying) ≤ c.tells) (life : HasLife 2 (solo.popped s).lines) where
    fewer : length p.lying ≤ c.tells
    fewer = omega (arith, many)

    abbrev q : Plain T (SoloWaker X)
    q = copied wakes w p

    long_q : length q.futures ≡ length p.futures
    long_q = (copied_still c w p).futures

    -- what the second look needs
    names_again : (z : Solo F T X) → ((u : Task) → w ≡ OfTask u → solo.may_hold u z ≡ true) → (u : Task) → w ≡ OfTask u
        → IsNamed (named its) (length q.futures) u × (solo.may_hold u z ≡ true)
    names_again z holds u is = (subst (λ k. IsNamed (named its) k u) (sym long_q) (names u is).0, holds u is)

    one_more : (ls : List (Lying (SoloWaker X))) → length ls ≤ length p.lying → length (ls ++ lain who w ∷ []) ≤ c.tells
    one_more ls few = let it = long_last ls (lain who w) in omega (arith, it, few, many)

    lives_y : HasLife 2 (copies w (solo.popped s)).lines
    lives_y = subst (λ l. HasLife 2 l) (sym (copies_lines w (solo.popped s))) life

    quiet_q : q.events ≡ p.events
    quiet_q = copied_events w p

    lain_lies : (ls : List (Lying (SoloWaker X))) → any (is_who who) (map (λ (l : Lying (SoloWaker X)). l.who) ls) ≡ false
        → any (is_who who) (map (λ (l : Lying (SoloWaker X)). l.who) (ls ++ lain who w ∷ [])) ≡ true
    lain_lies ls none = found_lies who (ls ++ lain who w ∷ []) (lain who w) (lain_found who w ls none)

    -- anew
    anew : find (lies who) p.lying ≡ None → nat_lt s.sleepers.count s.sleepers.rooms ≡ true
        → ((u : Task) → w ≡ OfTask u → looks_again (slept_answer (Awake ticks.its_room) w s).look ≡ true
        → solo.may_hold u (slept_once (Awake ticks.its_room) w s) ≡ true)
        → IsAtRest its number s p who (numbered_by who (next_number (copies w (solo.popped s)).sleepers) number)
        (rest_answer (Awake ticks.its_room) w s) (rested (Awake ticks.its_room) w s) (answers Pending (takes.lain wakes c who w q))
    anew none room holds =
        let none_q : find (lies who) q.lying ≡ None = ap (find (lies who)) (copied_lying w p) ∙ none in
        let no_who = found_none who q.lying none_q in
        let new = resting.new its c who w number (solo.popped s) p so names fewer life none_q room in
        let is = resting.anew_is its c who w number (solo.popped s) p so names fewer life none_q room in
        let answer = resting.anew_answer its c who w number (solo.popped s) p so names fewer life none_q room in
        let y = copies w (solo.popped s) in
        let z : Solo F T X = ticks.stored (resting.asleep its c who w number (solo.popped s) p so names fewer life none_q room) y in
        let under = resting.its_number its c who w number (solo.popped s) p so names fewer life none_q room in
        let again =
        resting.twice its c who w new z q q.lying
        (resting.anew_so its c who w number (solo.popped s) p so names fewer life none_q room) no_who
        (names_again z (λ u same.
        subst (λ z. solo.may_hold u z ≡ true) is (holds u same (ap (λ (out : Ticked F X). looks_again out.look) answer))))
        (one_more q.lying (no_fewer p.lying q.lying (copied_lying w p))) lives_y in
        let old = slept_once (Awake ticks.its_room) w s in
        let rested_is : rested (Awake ticks.its_room) w s ≡ ticks.slept (slept_under (new who)) w (copies w (solo.popped z)) =
        ap (λ (out : Ticked F X). choose (looks_again out.look) (slept_once out.ticker w old) old) answer
        ∙ (ap (λ z. slept_once (ticks.new_sleeper y) w z) is ∙ ap (λ ticker. slept_once ticker w z) under) in
        let answer_is : rest_answer (Awake ticks.its_room) w s
        ≡ ticks.slept_answer (slept_under (new who)) w (copies w (solo.popped z)) =
        ap (λ (out : Ticked F X). choose (looks_again out.look) (slept_answer out.ticker w old) out) answer
        ∙ (ap (λ z. slept_answer (ticks.new_sleeper y) w z) is ∙ ap (λ ticker. slept_answer ticker w z) under) in
        at_rest new (rest_answer (Awake ticks.its_room) w s)
        (ticks.slept_answer (slept_under (new who)) w (copies w (solo.popped z))) (rested (Awake ticks.its_room) w s)
        (ticks.slept (slept_under (new who)) w (copies w (solo.popped z))) (answers Pending (takes.lain wakes c who w q))
        answer_is rested_is
        (subst (λ ls. IsAtRest its number s p who new
        (ticks.slept_answer (slept_under (new who)) w (copies w (solo.popped z)))
        (ticks.slept (slept_under (new who)) w (copies w (solo.popped z)))
        (answers Pending (record q { lying = ls ++ lain who w ∷ [] })))
        (sym (without_none who q.lying none_q))
        (finish new (ticks.slept_answer (slept_under (new who)) w (copies w (solo.popped z)))
        (ticks.slept (slept_under (new who)) w (copies w (solo.popped z)))
        (record q { lying = q.lying ++ lain who w ∷ [] }) again.stands again.numbered again.ticker (lain_lies q.lying no_who)
        (λ v apart. ap (λ b. if b then next_number y.sleepers else number v) apart)
        (quiet_q ∙ (sym (append-nil p.events) ∙ ap (λ es. p.events ++ es) (sym again.quiet)))))

    -- again, once it was called
    module _ (l : Lying (SoloWaker X)) (is : find (lies who) p.lying ≡ Some l) where
      is_q : find (lies who) q.lying ≡ Some l
      is_q = ap (find (lies who)) (copied_lying w p) ∙ is

      called : l.waker ≡ None
          → ((u : Task) → w ≡ OfTask u → looks_again (slept_answer (slept_under (number who)) w s).look ≡ true
          → solo.may_hold u (slept_once (slept_under (number who)) w s) ≡ true)
          → IsAtRest its number s p who number (rest_answer (slept_under (number who)) w s)
          (rested (slept_under (number who)) w s) (answers Pending (takes.lain wakes c who w q))
      called none holds =
          let is_now = resting.later_is its c who w number (solo.popped s) p so names fewer life l is_q none in
          let answer = resting.later_answer its c who w number (solo.popped s) p so names fewer life l is_q none in
          let y = copies w (solo.popped s) in
          let z : Solo F T X = ticks.stored (resting.more its c who w number (solo.popped s) p so names fewer life l is_q none) y in
          let gone = resting.others_gone its c who w number (solo.popped s) p so names fewer life l is_q none in
          let left : List (Lying (SoloWaker X)) = without (lies who) q.lying in
          let again =
          resting.twice its c who w number z q left
          (resting.later_so its c who w number (solo.popped s) p so names fewer life l is_q none) gone
          (names_again z (λ u same.
          subst (λ z. solo.may_hold u z ≡ true) is_now (holds u same (ap (λ (out : Ticked F X). looks_again out.look) answer))))
          (one_more left (fewer_left q.lying (no_fewer p.lying q.lying (copied_lying w p)))) lives_y in
          let old = slept_once (slept_under (number who)) w s in
          let rested_is : rested (slept_under (number who)) w s ≡ ticks.slept (slept_under (number who)) w (copies w (solo.popped z)) =
          ap (λ (out : Ticked F X). choose (looks_again out.look) (slept_once out.ticker w old) old) answer
          ∙ ap (λ z. slept_once (slept_under (number who)) w z) is_now in
          let answer_is : rest_answer (slept_under (number who)) w s
          ≡ ticks.slept_answer (slept_under (number who)) w (copies w (solo.popped z)) =
          ap (λ (out : Ticked F X). choose (looks_again out.look) (slept_answer out.ticker w old) out) answer
          ∙ ap (λ z. slept_answer (slept_under (number who)) w z) is_now in
          at_rest number (rest_answer (slept_under (number who)) w s)
          (ticks.slept_answer (slept_under (number who)) w (copies w (solo.popped z))) (rested (slept_under (number who)) w s)
          (ticks.slept (slept_under (number who)) w (copies w (solo.popped z))) (answers Pending (takes.lain wakes c who w q))
          answer_is rested_is
          (finish number (ticks.slept_answer (slept_under (number who)) w (copies w (solo.popped z)))
          (ticks.slept (slept_under (number who)) w (copies w (solo.popped z)))
          (record q { lying = left ++ lain who w ∷ [] }) again.stands again.numbered again.ticker (lain_lies left gone)
          (λ v apart. refl)
          (quiet_q ∙ (sym (append-nil p.events) ∙ ap (λ es. p.events ++ es) (sym again.quiet))))

      -- or with another waker
      waited : (old : SoloWaker X) → l.waker ≡ Some old
          → IsAtRest its number s p who number (rest_answer (slept_under (number who)) w s)
          (rested (slept_under (number who)) w s) (answers Pending (takes.lain_again wakes c who w old q))
      waited old has =
          let is_now = resting.now_is its c who w number (solo.popped s) p so names fewer life l is_q old has in
          let answer = resting.answer_is its c who w number (solo.popped s) p so names fewer life l is_q old has in
          let replaced = resting.replaced its c who w number (solo.popped s) p so names fewer life l is_q old has in
          let z = lets_go (Some old) replaced in
          let gone = resting.gone its c who w number (solo.popped s) p so names fewer life l is_q old has in
          let still_laid = resting.still_gone its c who w number (solo.popped s) p so names fewer life l is_q old has in
          let first = slept_once (slept_under (number who)) w s in
          let out : Ticked F X = ticks.look_answer (slept_under (number who)) Nothing (Some old) None replaced in
          let rested_is : rested (slept_under (number who)) w s ≡ z =
          ap (λ (out : Ticked F X). choose (looks_again out.look) (slept_once out.ticker w first) first) answer ∙ is_now in
          let answer_is : rest_answer (slept_under (number who)) w s ≡ out =
          ap (λ (out : Ticked F X). choose (looks_again out.look) (slept_answer out.ticker w first) out) answer in
          at_rest number (rest_answer (slept_under (number who)) w s) out (rested (slept_under (number who)) w s) z
          (answers Pending gone) answer_is rested_is
          (finish number out z gone
          (resting.stands its c who w number (solo.popped s) p so names fewer life l is_q old has)
          (resting.numbers its c who w number (solo.popped s) p so names fewer life l is_q old has) refl
          (ap (any (is_who who)) (still_laid.whos ∙ awake_whos who w q.lying) ∙ found_lies who q.lying l is_q)
          (λ v apart. refl)
          (resting.seen its c who w number (solo.popped s) p so names fewer life l is_q old has))

module _ {F T X : Type 0} (its : ℕ → Lent) (number : Who → ℕ) (s : Solo F T X) (p : Plain T (SoloWaker X)) where
  abbrev Rests : Who → SoloWaker X → Option (Lying (SoloWaker X)) → Plain T (SoloWaker X) → Type 0
  Rests who w o q =
      let ticker = or o (λ l. slept_under (number who)) (Awake ticks.its_room) in
      IsAtRest its number s p who (or o (λ l. number) (numbered_by who (next_number s.sleepers) number)) (rest_answer ticker w s)
      (rested ticker w s) q

  abbrev laid_by : Choice → Who → SoloWaker X → Option (Lying (SoloWaker X)) → Plain T (SoloWaker X)
  laid_by c who w o =
      let q = copied wakes w p in
      or o (λ l. or l.waker (λ old. takes.lain_again wakes c who w old q) (takes.lain wakes c who w q)) (takes.lain wakes c who w q)

  -- whoever it is, where a search has found nothing
  module _ (c : Choice) (who : Who) (w : SoloWaker X) (many : suc (length p.lying) ≤ c.tells)
      (so : Standing its c who w number (solo.popped s) p)
      (lives : HasLife 2 (solo.popped s).lines)
      (names : (u : Task) → w ≡ OfTask u → IsNamed (named its) (length p.futures) u × (solo.may_hold u s ≡ true)) where
    pub lies_down : (o : Option (Lying (SoloWaker X))) → find (lies who) p.lying ≡ o
        → (o ≡ None → nat_lt s.sleepers.count s.sleepers.rooms ≡ true)
        → ((u : Task) → w ≡ OfTask u
        → looks_again (slept_answer (or o (λ l. slept_under (number who)) (Awake ticks.its_room)) w s).look ≡ true
        → solo.may_hold u (slept_once (or o (λ l. slept_under (number who)) (Awake ticks.its_room)) w s) ≡ true)
        → Rests who w o (answers Pending (laid_by c who w o))
    lies_down None is room holds =
        subst
        (λ sl. IsAtRest its number s p who (numbered_by who (next_number sl) number) (rest_answer (Awake ticks.its_room) w s)
        (rested (Awake ticks.its_room) w s) (answers Pending (laid_by c who w None)))
        (copies_sleepers w (solo.popped s))
        (anew its number s p c who w so names many lives is (room refl) holds)
    lies_down (Some l) is room holds = waker l.waker refl
      where
        waker : (a : Option (SoloWaker X)) → l.waker ≡ a
            → Rests who w (Some l)
            (answers Pending (or a (λ old. takes.lain_again wakes c who w old (copied wakes w p))
            (takes.lain wakes c who w (copied wakes w p))))
        waker None has = called its number s p c who w so names many lives l is has holds
        waker (Some old) has = waited its number s p c who w so names many lives l is old has

module _ {F T X : Type 0} (its : ℕ → Lent) (number : Who → ℕ) (s : Solo F T X) (p : Plain T (SoloWaker X)) (both : Stands its s p)
    (n : IsNumbered number s.sleepers p.lying) where
  pub ticks_rest : TicksRest its number s p
  ticks_rest c t w none turn granted room names many life = by (find (trying.test (named its) c s p turn both.0) p.due) refl
    where
      by : (o : Option Due) → find (trying.test (named its) c s p turn both.0) p.due ≡ o
          → Rests its number s p (ATick t) w (find (lies (ATick t)) p.lying)
          (or o (λ d. takes.takes wakes c (Tick t w) d (record p { due = without (trying.test (named its) c s p turn both.0) p.due }))
          (takes.nothing wakes c (Tick t w) p))
      by (Some d) is =
          let some = trying.something (named its) c s p turn both.0 d is in
          let both_are : ◌≡◌ {A = Option Task} None (Some (named its d.future)) = sym none ∙ some.0 in
          absurd cc
      by None is =
          let nothing = trying.nothing (named its) c s p turn both.0 is in
          let so : Standing its c (ATick t) w number (solo.popped s) p =
          record {
            follows = nothing.1;
            tabled = tabled its c s (solo.popped s) p p (bases.same s) (still c p) both.1;
            numbered = n;
            none = searched_empty s.lines none;
          } in
          let lives : HasLife 2 (solo.popped s).lines = trying.lives (named its) c s p turn both.0 2 life in
          subst (λ r. Rests its number s p (ATick t) w (find (lies (ATick t)) p.lying) (takes.rests wakes c r (ATick t) w p)) (sym granted)
          (lies_down its number s p c (ATick t) w many so lives (λ u same. ((names u same).0, (names u same).1.0))
          (find (lies (ATick t)) p.lying) refl room (λ u same. (names u same).1.1))
