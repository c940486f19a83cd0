-- A take shows the sleeper that it hands out, and then the future, which is polled or dropped; so does the end of its poll.
use Rattle.std.proofs.Common.{◌≡◌, ℕ, ◌<◌, not, if◌then◌else◌, Bool, true, false, [], ◌∷◌, ◌++◌, length, find, Option, Some}
use Rattle.std.proofs.Common.{None, is_some, refl, sym, ap, subst, ◌∙◌}
use Rattle.executor_parts.specs.Places.{entry_in, future_of}
use Rattle.task_moves.specs.AbstractTask as abstract
use Rattle.task_moves.specs.declared.local_task.answers.Start.TheVariants.{Poll as StartPoll, Drop as StartDrop}
use Rattle.solo.specs.declared.names.Task.{Task}
use Rattle.solo.specs.declared.names.SoloWaker.{SoloWaker}
use Rattle.solo.specs.declared.owed.Lent.{Lent}
use Rattle.solo.specs.declared.owed.Found.{Found}
use Rattle.solo.specs.declared.solo.Solo.{Solo}
use Rattle.solo.specs.Cells.{asked}
use Rattle.solo.specs.Cells as cells
use Rattle.solo.specs.Solo as solo
use Rattle.solo.specs.Turns as turns
use Rattle.plain_scheduler.specs.State.{Due, Choice, Plain, Taker, Try, Poll, Drop, Closed, Polls, Drops}
use Rattle.plain_scheduler.specs.Lists.{or, without}
use Rattle.plain_scheduler.specs.Moves.{task, put, tell, enters, see}
use Rattle.plain_scheduler.specs.Takes as takes
use Rattle.plain_scheduler.specs.Calls as calls
use Rattle.solo_laws.specs.Road.{FollowsBut, HasLife, wakes}
use Rattle.solo_laws.specs.Shown.{rings, found_as, code_of, is_handed, lent_as, TakesShown}
use Rattle.solo_laws.specs.Tabled.{Stands, named, home_by, home_of, at_home, is_dropped}
use Rattle.solo_laws.proofs.Following.Due.{found_stands}
use Rattle.solo_laws.proofs.Following.Cells.{of_found, asks_found}
use Rattle.solo_laws.proofs.Following.Homes.{home_in}
use Rattle.solo_laws.proofs.Following.Leaving.{leaves}
use Rattle.solo_laws.proofs.Following.Using.{put_inside}
use Rattle.solo_laws.proofs.Following.Telling.{told}
use Rattle.solo_laws.proofs.Following.Trying as trying
use Rattle.solo_laws.proofs.Following.Frames.{chain, tell_still}
use Rattle.solo_laws.proofs.Following.Bases as bases
use Rattle.solo_laws.proofs.Following.Tabling.{tabled, due_lives, taken_still, lives_at, its_task, at_place, starts}
use Rattle.solo_laws.proofs.Following.Begun.{chosen_free}
use Rattle.solo_laws.proofs.Showing.Telling.{step, put_events, told_shows}

module _ {F : Type 0} where
  its_own : (o : Option F) → is_some o ≡ true → (y : F) × (o ≡ Some y)
  its_own (Some y) is = (y, refl)
  its_own None is = absurd cc

module _ {F T X : Type 0} (its : ℕ → Lent) (c : Choice) where
  -- of what was found, where this was so before
  abbrev pub So : Taker (SoloWaker X) → Plain T (SoloWaker X) → Found F → Plain T (SoloWaker X) → Type 0
  So taker p found q =
      (q.events ≡ p.events ++ found_as found) × (q.inside ≡ code_of taker found ++ p.inside) × (is_handed found ≡ true)
      × lent_as its found

  -- one that is ready is handed out, to be polled or dropped
  module _ (s : Solo F T X) (p : Plain T (SoloWaker X)) (both : Stands its s p) (f : ℕ) (live : is_dropped f p ≡ false)
      (below : f < length p.futures) (ready : asked cells.may_start false (named its f) s.cells ≡ true) where
    its_place : home_of (named its f) s.cells ≡ Some (its f).place
    its_place =
        let v = its_task its c s p both.0 both.1 f live below ready in
        asks_found home_in None (named its f) s.cells
        ∙ (ap (of_found home_in None) v.1 ∙ ap (λ place. home_by place) (at_place its c s p both.0 both.1 f live below ready))

    its_future : (y : F) × (future_of (entry_in (its f).place s.table.entries) ≡ Some y)
    its_future =
        let e =
        leaves its (not p.is_static) (at_home its s.cells) f s.table.entries (calls.living_from 0 p.futures) both.1.rows both.1.keys_apart
        (lives_at p f live below) in
        let y = its_own e.0.future (e.4 ∙ ap (λ o. is_some o) its_place) in
        (y.0, ap (λ o. future_of o) e.1 ∙ y.1)

    number : (named its f).number ≡ f
    number = both.0.numbered f below

    pub begun_shows : (taker : Taker (SoloWaker X)) → So taker p (turns.begin_answer (named its f) s) (takes.run wakes c f taker p)
    begun_shows taker =
        subst (λ o. So taker p (turns.found_by (named its f) o s) (takes.run wakes c f taker p))
        (sym (starts its c s p both.0 both.1 f live below ready
        ∙ ap (λ t. Some (if t.closed then StartDrop (its f).place else StartPoll (its f).place))
        (its_task its c s p both.0 both.1 f live below ready).3))
        (by (task f p).closed)
      where
        by : (b : Bool)
            → So taker p (turns.found_by (named its f) (Some (if b then StartDrop (its f).place else StartPoll (its f).place)) s)
            (if b then takes.dropping wakes c f Closed taker p
            else enters (Poll f taker) (see (Polls f) (put f (abstract.begin_run (task f p)) p)))
        by true =
            subst (λ o. So taker p (turns.drop_found (named its f) (its f).place o) (takes.dropping wakes c f Closed taker p))
            (sym its_future.1) (
              ap (λ n. p.events ++ Drops n ∷ []) (sym number),
              ap (λ n. Drop n Closed taker ∷ p.inside) (sym number),
              refl,
              ap its (sym number),
            )
        by false =
            let q = put f (abstract.begin_run (task f p)) p in
            subst (λ o. So taker p (turns.poll_found (named its f) (its f).place o) (enters (Poll f taker) (see (Polls f) q)))
            (sym its_future.1) (
              ap (λ es. es ++ Polls f ∷ []) (put_events f (abstract.begin_run (task f p)) p)
                  ∙ ap (λ n. p.events ++ Polls n ∷ []) (sym number),
              ap (λ cs. Poll f taker ∷ cs) (put_inside f (abstract.begin_run (task f p)) p)
                  ∙ ap (λ n. Poll n taker ∷ p.inside) (sym number),
              refl,
              ap its (sym number),
            )

module _ {F T X : Type 0} (its : ℕ → Lent) (s : Solo F T X) (p : Plain T (SoloWaker X)) (both : Stands its s p) where
  abbrev Taken : Option Task → Plain T (SoloWaker X) → Type 0
  Taken o q =
      let out = solo.take_answer_by o (solo.popped s) in
      (q.events ≡ p.events ++ (rings out.sleeper ++ found_as out.found)) × (q.inside ≡ code_of Try out.found ++ p.inside)
      × lent_as its out.found

  pub takes_shown : TakesShown its s p
  takes_shown c turn many life =
      let it = by (find test p.due) refl in
      record { seen = it.0; inside = it.1; lent = it.2 }
    where
      test : Due → Bool
      test = trying.test (named its) c s p turn both.0

      left : Plain T (SoloWaker X)
      left = record p { due = without test p.due }

      lives : HasLife 1 (solo.popped s).lines
      lives = trying.lives (named its) c s p turn both.0 1 life

      by : (o : Option Due) → find test p.due ≡ o
          → Taken (solo.sought s) (or o (λ d. takes.takes wakes c Try d left) (takes.nothing wakes c Try p))
      by None is =
          let none = trying.nothing (named its) c s p turn both.0 is in
          subst (λ o. Taken o (takes.nothing wakes c Try p)) (sym none.0) (refl, refl, tt)
      by (Some d) is =
          let some = trying.something (named its) c s p turn both.0 d is in
          let z = turns.told (solo.popped s) in
          let q = tell wakes c left in
          let told_both : FollowsBut (Some d) (named its) z q =
          told (Some d) (named its) c (solo.popped s) left many some.1 lives in
          let still = tell_still c left in
          let stays = chain c (taken_still its c s p both.0 both.1 test (λ r d is. chosen_free c.first p.due r d is)) still in
          let can = trying.aside_ready (named its) d z q told_both in
          let stand : Stands its z q = (
            trying.forget (named its) d z q told_both,
            tabled its c s z p q (bases.told_base s (solo.popped s) (bases.same s)) stays both.1,
          ) in
          let begun =
          begun_shows its c z q stand d.future
          (stays.dropped d.future ∙ due_lives its c s p both.0 both.1 d.future (found_stands test p.due d is)) can.0 can.1 Try in
          subst (λ o. Taken o (takes.takes wakes c Try d left)) (sym some.0) (
            step p.events (rings (turns.told_waker (solo.popped s))) (found_as (turns.begin_answer (named its d.future) z))
                (told_shows (Some d) (named its) c (solo.popped s) left many some.1) begun.0,
            begun.1 ∙ ap (λ cs. code_of Try (turns.begin_answer (named its d.future) z) ++ cs) still.inside,
            begun.3,
          )
