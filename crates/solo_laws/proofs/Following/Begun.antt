-- A take of the executor is a try of the plain scheduler: what a search finds leaves its queue, a sleeper is told, and its run
-- begins. So is the end of a poll that gave no output.
use Rattle.std.proofs.Common.{◌≡◌, ℕ, ◌<◌, ◌≤◌, ◌&&◌, not, if◌then◌else◌, Bool, true, false, List, [], ◌∷◌, ◌++◌, length, find, Option}
use Rattle.std.proofs.Common.{Some, None, is_some, refl, sym, ap, subst, ◌∙◌}
use Rattle.executor_parts.specs.declared.places.EntryPlace.{EntryPlace}
use Rattle.executor_parts.specs.declared.mark.Mark.{Mark}
use Rattle.executor_parts.specs.Marks.{other, same_mark}
use Rattle.task_moves.specs.AbstractTask as abstract
use Rattle.task_moves.specs.AbstractTask.PendingEnd.{Drops as EndDrops, Queues as EndQueues, Forgets as EndForgets, Rests as EndRests}
use Rattle.solo.specs.declared.names.SoloWaker.{SoloWaker}
use Rattle.solo.specs.declared.owed.Lent.{Lent}
use Rattle.solo.specs.declared.cells.Cells.{Cells}
use Rattle.solo.specs.declared.solo.Solo.{Solo}
use Rattle.solo.specs.Cells.{Kept, asked}
use Rattle.solo.specs.Cells as cells
use Rattle.solo.specs.Lines.{mark_of_turn}
use Rattle.solo.specs.Solo as solo
use Rattle.solo.specs.Turns as turns
use Rattle.plain_scheduler.specs.State.{Due, Choice, Plain, Code, Taker, Try, Poll, Drops, No}
use Rattle.plain_scheduler.specs.Lists.{any, or, without}
use Rattle.plain_scheduler.specs.Moves.{task, put, tell, becomes, chosen, is_common, is_kept, is_run}
use Rattle.plain_scheduler.specs.Takes as takes
use Rattle.plain_scheduler.specs.Calls as calls
use Rattle.solo_laws.specs.Alike.{takes_one}
use Rattle.solo_laws.specs.Road.{FollowsBut, HasLife, tests, is_in, lents, stands, wakes}
use Rattle.solo_laws.specs.Tabled.{IsTable, Stands, named, home_of, is_dropped}
use Rattle.solo_laws.proofs.Following.Due.{found_stands}
use Rattle.solo_laws.proofs.Following.Cells.{found, of_found, asks_found, changed_found, found_here}
use Rattle.solo_laws.proofs.Following.Homes.{home_in, lent_home, home_changed_at}
use Rattle.solo_laws.proofs.Following.Changing.{kept, task_is}
use Rattle.solo_laws.proofs.Following.Telling.{told}
use Rattle.solo_laws.proofs.Following.Trying as trying
use Rattle.solo_laws.proofs.Following.Ending as ending
use Rattle.solo_laws.proofs.Following.Ending.{is_back, kept_so, ended_is}
use Rattle.solo_laws.proofs.Following.Frames.{chain, put_still, becomes_still, tell_still, seen_still}
use Rattle.solo_laws.proofs.Following.Bases as bases
use Rattle.solo_laws.proofs.Following.Tabling.{tabled, due_lives, begins, run_tabled, taken_still, one_closed, left, live, gives_tabled}
use Rattle.solo_laws.proofs.Following.Tabling as tabling
use Rattle.solo_laws.proofs.Following.Losing.{sees, goes_on}

-- one without a keeper is kept by nobody
pub common_free : (m : Mark) (r : ℕ) (d : Due) → is_common m d ≡ true → is_kept r d ≡ false
common_free m r d is = by d.keeper is
  where
    by : (o : Option ℕ) → (not (is_some o) && same_mark m d.mark) ≡ true → is_run r o ≡ false
    by None is = refl
    by (Some k) is = absurd cc

pub chosen_free : (m : Mark) (due : List Due) (r : ℕ) (d : Due) → chosen (tests m) due d ≡ true → is_kept r d ≡ false
chosen_free m due r d is = by (any (is_common m) due) (any (is_common (other m)) due) is
  where
    by : (a b : Bool) → (if a then is_common m d else (if b then is_common (other m) d else false)) ≡ true → is_kept r d ≡ false
    by true b is = common_free m r d is
    by false true is = common_free (other m) r d is
    by false false is = absurd cc

module _ {F T X : Type 0} (its : ℕ → Lent) (c : Choice) where
  -- the run of one that is ready begins in both
  pub begun_both : (f : ℕ) (by : Taker (SoloWaker X)) (s : Solo F T X) (p : Plain T (SoloWaker X)) → Stands its s p
      → f < length p.futures → stands f p.due ≡ false → asked cells.may_start false (named its f) s.cells ≡ true
      → is_dropped f p ≡ false → Stands its (turns.begun (named its f) s) (takes.run wakes c f by p)
  begun_both f by s p both below gone ready live = (
    trying.begun (named its) c f by s p below gone ready both.0,
    run_tabled its c f by (turns.begun (named its f) s) p live (begins its c s p both.0 both.1 f live below ready),
  )

  module _ (s : Solo F T X) (p : Plain T (SoloWaker X)) (both : Stands its s p) where
    pub takes_alike : c.first ≡ mark_of_turn s.lines.turn → length p.lying ≤ c.tells → HasLife 1 s.lines
        → Stands its (solo.taken s) (calls.does wakes c calls.Call.TryTick p)
    takes_alike turn many life = by (find test p.due) refl
      where
        test : Due → Bool
        test = trying.test (named its) c s p turn both.0

        left : Plain T (SoloWaker X)
        left = record p { due = without test p.due }

        lives : HasLife 1 (solo.popped s).lines
        lives = trying.lives (named its) c s p turn both.0 1 life

        by : (o : Option Due) → find test p.due ≡ o
            → Stands its (solo.taken s) (or o (λ d. takes.takes wakes c Try d left) (takes.nothing wakes c Try p))
        by None is =
            let none = trying.nothing (named its) c s p turn both.0 is in
            subst (λ o. Stands its (solo.taken_by o (solo.popped s)) (takes.nothing wakes c Try p)) (sym none.0)
            (sees its c (solo.popped s) p No (none.1, tabled its c s (solo.popped s) p p (bases.same s) (seen_still c p p.events) both.1))
        by (Some d) is =
            let some = trying.something (named its) c s p turn both.0 d is in
            let z = turns.told (solo.popped s) in
            let q = tell wakes c left in
            let told_both : FollowsBut (Some d) (named its) z q =
            told (Some d) (named its) c (solo.popped s) left many some.1 lives in
            let stays = chain c (taken_still its c s p both.0 both.1 test (λ r d is. chosen_free c.first p.due r d is))
            (tell_still c left) in
            let can = trying.aside_ready (named its) d z q told_both in
            let both_now : Stands its z q = (
              trying.forget (named its) d z q told_both,
              tabled its c s z p q (bases.told_base s (solo.popped s) (bases.same s)) stays both.1,
            ) in
            subst (λ o. Stands its (solo.taken_by o (solo.popped s)) (takes.takes wakes c Try d left)) (sym some.0)
            (begun_both d.future Try z q both_now
            can.0 can.2 can.1 (stays.dropped d.future ∙ due_lives its c s p both.0 both.1 d.future (found_stands test p.due d is)))

  -- the end of a poll
  module _ (s : Solo F T X) (p : Plain T (SoloWaker X)) (both : Stands its s p) (f : ℕ) (by : Taker (SoloWaker X))
      (rest : List (Code T (SoloWaker X))) (stands_in : p.inside ≡ Poll f by ∷ rest) where
    pub gives_both : (v : T) → Stands its s (calls.does wakes c (calls.Call.EndsWith v) p)
    gives_both v = (
      ending.gives (named its) s p both.0 c f by rest stands_in v,
      gives_tabled its c s p both.0 both.1 f by rest stands_in v,
    )

    abbrev out : Plain T (SoloWaker X)
    out = record p { inside = rest }

    out_both : Stands its s out
    out_both = (ending.all (named its) s p both.0 c f by rest stands_in, left its c s p both.0 both.1 f by rest stands_in)

    below : f < length p.futures
    below = (ending.lent_here (named its) s p both.0 c f by rest stands_in).0

    lent : asked cells.is_lent false (named its f) s.cells ≡ true
    lent = (ending.lent_here (named its) s p both.0 c f by rest stands_in).1

    lives_on : is_dropped f p ≡ false
    lives_on = live its c s p both.0 both.1 f by rest stands_in

    abbrev end : abstract.PendingEnd
    end = abstract.pending_end (task f out)

    abbrev now : Cells T X
    now = cells.changed (cells.ended_pending (its f).place) (named its f) s.cells

    abbrev It : Type 0
    It = (v : Kept T X) × (found (named its f) s.cells ≡ Some v) × (cells.is_lent v ≡ true)
        × (found (named its f) now ≡ Some (kept_so (its f).place end v))

    it : It
    it =
        let k = kept None (named its) cells.is_lent f s out out_both.0 below lent in (
          k.0,
          k.2,
          k.4,
          found_here (cells.ended_pending (its f).place) (named its f) s.cells
              ∙ (ap (changed_found (cells.ended_pending (its f).place)) k.2
              ∙ ap (λ v. Some v) (ended_is (its f).place end k.0 k.4
              (ap (λ t. abstract.pending_end t) (k.5.task ∙ sym (task_is f out k.1 k.3))))),
        )

    home_then : home_of (named its f) now ≡ home_in (kept_so (its f).place end it.0)
    home_then = asks_found home_in None (named its f) now ∙ ap (of_found home_in None) it.3

    home_before : home_of (named its f) s.cells ≡ None
    home_before =
        asks_found home_in None (named its f) s.cells ∙ (ap (of_found home_in None) it.1 ∙ lent_home it.0.future it.2)

    not_lent : is_in f (lents rest) ≡ false
    not_lent = ending.not_lent (named its) s p both.0 c f by rest stands_in

    module _ (future : F) where
      abbrev settled : Solo F T X
      settled = solo.settled_pending (its f) future s

      answer : solo.after_poll (its f) s ≡ cells.pending_by end
      answer = ending.answer (named its) s p both.0 c f by rest stands_in (its f) refl

      abbrev turned : Solo F T X
      turned = turns.turned (cells.ended_pending (its f).place) (named its f) s

      none : (e : abstract.PendingEnd) → is_back e ≡ false → home_in (kept_so (its f).place e it.0) ≡ None
      none EndDrops is = refl
      none EndForgets is = refl
      none EndQueues is = absurd cc
      none EndRests is = absurd cc

      some : (e : abstract.PendingEnd) → is_back e ≡ true → home_in (kept_so (its f).place e it.0) ≡ Some (its f).place
      some EndDrops is = absurd cc
      some EndForgets is = absurd cc
      some EndQueues is = refl
      some EndRests is = refl

      -- it is to be dropped
      drops_both : is_back end ≡ false → Stands its (solo.pending_by (cells.pending_by end) (its f) future turned)
          (calls.pending_by wakes c end f by out)
      drops_both is = (
        ending.goes (named its) s out out_both.0 c f (its f).place future below lent not_lent lives_on by end refl is,
        by_end end is,
      )
        where
          base : bases.Base s turned
          base =
              bases.celled s s now
              (home_changed_at (cells.ended_pending (its f).place) (named its f) s.cells
              (home_then ∙ (none end is ∙ sym home_before)))
              (bases.same s)

          by_end : (e : abstract.PendingEnd) → is_back e ≡ false
              → IsTable its (solo.pending_by (cells.pending_by e) (its f) future turned) (calls.pending_by wakes c e f by out)
          by_end EndDrops is =
              one_closed its c turned out (out.events ++ Drops f ∷ []) f by lives_on
              (tabled its c s turned out out base (seen_still c out out.events) out_both.1)
          by_end EndForgets is =
              let new = record (task f out) { phase = abstract.Phase.Finished; closed = true } in
              let a = put f new out in
              let stays = put_still c f new out in
              one_closed its c turned a (a.events ++ Drops f ∷ []) f by (stays.dropped f ∙ lives_on)
              (tabled its c s turned out a base stays out_both.1)
          by_end EndQueues is = absurd cc
          by_end EndRests is = absurd cc

      -- it is back
      pub stays_both : is_back end ≡ true → length p.lying ≤ c.tells → HasLife 2 s.lines
          → Stands its (solo.pending_by (cells.pending_by end) (its f) future turned)
          (becomes wakes (tell wakes c) f (abstract.end_pending (task f out)).task out)
      stays_both is many life = (
        ending.rests (named its) s out out_both.0 c f (its f).place future below lent not_lent lives_on many life end refl is,
        tabled its c (solo.put_back (its f) future turned) (solo.pending_by (cells.pending_by end) (its f) future turned) out
            (becomes wakes (tell wakes c) f (abstract.end_pending (task f out)).task out) (base end is)
            (becomes_still c (tell wakes c) (tell_still c) f (abstract.end_pending (task f out)).task out) back,
      )
        where
          there : home_of (named its f) now ≡ Some (its f).place
          there = home_then ∙ some end is

          its_own : (place : EntryPlace) → home_of (named its f) now ≡ Some place → place ≡ (its f).place
          its_own place home = same (sym home ∙ there)
            where
              same : {q : EntryPlace} → ◌≡◌ {A = Option EntryPlace} (Some place) (Some q) → place ≡ q
              same is = ap (λ o. or o (λ q. q) place) is

          back : IsTable its (solo.put_back (its f) future turned) out
          back =
              tabling.set_tabled its c s out out_both.0 out_both.1 f lives_on below (cells.ended_pending (its f).place)
              (Some future) its_own
              (ap (λ (o : Option EntryPlace). is_some o) there)

          base : (e : abstract.PendingEnd) → is_back e ≡ true
              → bases.Base (solo.put_back (its f) future turned) (solo.pending_by (cells.pending_by e) (its f) future turned)
          base EndDrops is = absurd cc
          base EndForgets is = absurd cc
          base EndRests is = bases.same (solo.put_back (its f) future turned)
          base EndQueues is =
              bases.scheduled_base (solo.put_back (its f) future turned) (named its f) (solo.put_back (its f) future turned)
              (bases.same (solo.put_back (its f) future turned))

      pub pends_both : takes_one by ≡ true → length p.lying ≤ c.tells → HasLife 2 s.lines
          → Stands its settled (calls.does wakes c calls.Call.Pends p)
      pends_both one many life =
          subst (λ cs. Stands its settled (calls.innermost wakes c cs (calls.pends wakes c) p)) (sym stands_in)
          (subst (λ a. Stands its (solo.pending_by a (its f) future turned) (calls.pending_by wakes c end f by out)) (sym answer)
          (either (is_back end) refl))
        where
          goes : (e : abstract.PendingEnd) → is_back e ≡ true → calls.pending_by wakes c e f by out
              ≡ takes.next wakes c by (becomes wakes (tell wakes c) f (abstract.end_pending (task f out)).task out)
          goes EndDrops is = absurd cc
          goes EndForgets is = absurd cc
          goes EndQueues is = refl
          goes EndRests is = refl

          either : (b : Bool) → is_back end ≡ b
              → Stands its (solo.pending_by (cells.pending_by end) (its f) future turned) (calls.pending_by wakes c end f by out)
          either false is = drops_both is
          either true is =
              subst (Stands its (solo.pending_by (cells.pending_by end) (its f) future turned)) (sym (goes end is))
              (goes_on its c (solo.pending_by (cells.pending_by end) (its f) future turned)
              (becomes wakes (tell wakes c) f (abstract.end_pending (task f out)).task out) (Some by) one (stays_both is many life))
