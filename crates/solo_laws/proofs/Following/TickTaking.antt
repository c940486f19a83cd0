-- A tick that finds a task takes it, where the plain scheduler does.
use Rattle.std.proofs.Common.{◌≡◌, ℕ, ◌≤◌, if◌then◌else◌, Bool, true, false, List, ◌++◌, length, map, find, Option, Some, None}
use Rattle.std.proofs.Common.{append-nil}
use Rattle.std.proofs.Common.{refl, sym, ap, subst, ◌∙◌}
use Rattle.task_moves.specs.AbstractTask as abstract
use Rattle.task_moves.specs.declared.local_task.answers.Start.{Start}
use Rattle.task_moves.specs.declared.local_task.answers.Start.TheVariants.{Poll as StartPoll, Drop as StartDrop}
use Rattle.executor_parts.specs.declared.places.EntryPlace.{EntryPlace}
use Rattle.solo.specs.declared.names.Task.{Task}
use Rattle.solo.specs.declared.names.SoloWaker.{SoloWaker}
use Rattle.solo.specs.declared.owed.Lent.{Lent}
use Rattle.solo.specs.declared.solo.Solo.{Solo}
use Rattle.solo.specs.declared.ticks.Ticker.TheVariants.{Awake, Asleep}
use Rattle.solo.specs.Cells.{asked}
use Rattle.solo.specs.Cells as cells
use Rattle.solo.specs.Solo as solo
use Rattle.solo.specs.Ticks as ticks
use Rattle.solo.specs.Turns as turns
use Rattle.plain_scheduler.specs.State.{Event, Due, Who, ATick, Lying, Choice, Plain, Taker, Tick, Closed, Poll, Polls}
use Rattle.plain_scheduler.specs.Lists.{any, or, without}
use Rattle.plain_scheduler.specs.Moves.{enters, is_who, put, see, task, tell, up}
use Rattle.plain_scheduler.specs.Takes as takes
use Rattle.solo_laws.specs.Numbered.{IsNumbered, ticker_of}
use Rattle.solo_laws.specs.Road.{FollowsBut, HasLife, wakes}
use Rattle.solo_laws.specs.Shown.{rings, found_as, code_of}
use Rattle.solo_laws.specs.Tabled.{IsTable, Stands, named, is_dropped}
use Rattle.solo_laws.specs.Ticking.{IsTaken, TicksTake}
use Rattle.solo_laws.proofs.Following.Bases as bases
use Rattle.solo_laws.proofs.Following.Begun.{begun_both, chosen_free}
use Rattle.solo_laws.proofs.Following.Due.{found_stands}
use Rattle.solo_laws.proofs.Following.Frames.{tell_still}
use Rattle.solo_laws.proofs.Following.GettingUp.{numbered_still}
use Rattle.solo_laws.proofs.Following.Lines.{younger}
use Rattle.solo_laws.proofs.Following.Numbers.{not_found}
use Rattle.solo_laws.proofs.Following.Rising.{risen}
use Rattle.solo_laws.proofs.Following.Tabling.{tabled, due_lives, taken_still}
use Rattle.solo_laws.proofs.Following.Telling.{told, tells_none}
use Rattle.solo_laws.proofs.Following.Trying as trying
use Rattle.solo_laws.proofs.Following.Using.{put_lying}
use Rattle.solo_laws.proofs.Showing.Taking.{begun_shows}
use Rattle.solo_laws.proofs.Showing.Telling.{step, told_shows}

module _ {F T X : Type 0} where
  -- a run that begins leaves who sleeps and who lies
  pub begun_sleepers : (t : Task) (s : Solo F T X) → (turns.begun t s).sleepers ≡ s.sleepers
  begun_sleepers t s = by (asked cells.start_answer None t s.cells)
    where
      by : (o : Option (Start EntryPlace)) → (turns.out_of o (turns.turned cells.started t s)).sleepers ≡ s.sleepers
      by None = refl
      by (Some (StartPoll place)) = refl
      by (Some (StartDrop place)) = refl

module _ {T X : Type 0} where
  pub run_lying : (c : Choice) (f : ℕ) (taker : Taker (SoloWaker X)) (q : Plain T (SoloWaker X))
      → (takes.run wakes c f taker q).lying ≡ q.lying
  run_lying c f taker q = by (task f q).closed
    where
      by : (b : Bool) → (if b then takes.dropping wakes c f Closed taker q
          else enters (Poll f taker) (see (Polls f) (put f (abstract.begin_run (task f q)) q))).lying ≡ q.lying
      by true = refl
      by false = put_lying f (abstract.begin_run (task f q)) q

-- a sleeper is told, where the drop of a waker has told none
module _ {F T X : Type 0} (name : ℕ → Task) (c : Choice) (aside : Option Due) (z : Solo F T X) (q : Plain T (SoloWaker X))
    (follows : FollowsBut aside name z q) (few : length q.lying ≤ c.tells) (life : HasLife 2 z.lines) where
  pub record Told (o : Option X) : Type 0 where
    pub so : FollowsBut aside name (ticks.told_unless o z) (tell wakes c q)
    pub base : bases.Base z (ticks.told_unless o z)
    pub seen : (es : List (Event T (SoloWaker X))) → q.events ≡ es ++ rings o
        → (tell wakes c q).events ≡ es ++ rings (ticks.tell_unless_answer o z)

  pub tells : (o : Option X) → ((w : X) → o ≡ Some w → z.notified ≡ true) → Told o
  tells None noted = record {
    so = told aside name c z q few follows (younger 1 z.lines life);
    base = bases.told_base z z (bases.same z);
    seen = λ es is.
        told_shows aside name c z q few follows ∙ ap (λ xs. xs ++ rings (turns.told_waker z)) (is ∙ append-nil es);
  }
  tells (Some w) noted =
      let same : tell wakes c q ≡ q = tells_none c q.lying q refl (sym follows.asleep.flag ∙ noted w refl) in
      record {
        so = subst (FollowsBut aside name z) (sym same) follows;
        base = bases.same z;
        seen = λ es is. ap (λ (q : Plain T (SoloWaker X)). q.events) same ∙ is;
      }

module _ {F T X : Type 0} (its : ℕ → Lent) (number : Who → ℕ) (s : Solo F T X) (p : Plain T (SoloWaker X)) (both : Stands its s p)
    (n : IsNumbered number s.sleepers p.lying) where
  pub ticks_take : TicksTake its number s p
  ticks_take c t w task has turn many life = by (find test p.due) refl
    where
      test : Due → Bool
      test = trying.test (named its) c s p turn both.0

      left : Plain T (SoloWaker X)
      left = record p { due = without test p.due }

      by : (o : Option Due) → find test p.due ≡ o
          → IsTaken its number s p (ATick t) (Tick t w)
          (ticks.found_answer (ticker_of number (ATick t) p.lying) None task (solo.popped s))
          (ticks.found (ticker_of number (ATick t) p.lying) task (solo.popped s))
          (or o (λ d. takes.takes wakes c (Tick t w) d left) (takes.nothing wakes c (Tick t w) p))
      by None is =
          let none = trying.nothing (named its) c s p turn both.0 is in
          let both_are : ◌≡◌ {A = Option Task} None (Some task) = sym none.0 ∙ has in
          absurd cc
      by (Some d) is =
          let some = trying.something (named its) c s p turn both.0 d is in
          let lives : HasLife 5 (solo.popped s).lines = trying.lives (named its) c s p turn both.0 5 life in
          let u = risen its number c (Some d) (solo.popped s) left some.1 n many lives (ATick t) in
          let ticker = ticker_of number (ATick t) p.lying in
          let dropped = ticks.wake_up_answer ticker (solo.popped s) in
          let y = ticks.woke_up ticker (solo.popped s) in
          let a = up wakes c (ATick t) left in
          let told_so = tells (named its) c (Some d) y a u.follows u.few u.life dropped.told.sleeper u.told in
          let z = ticks.told_unless dropped.told.sleeper y in
          let q = tell wakes c a in
          let still = tell_still c a in
          let was = taken_still its c s p both.0 both.1 test (λ r d is. chosen_free c.first p.due r d is) in
          let popped_tabled : IsTable its (solo.popped s) left = tabled its c s (solo.popped s) p left (bases.same s) was both.1 in
          let can = trying.aside_ready (named its) d z q told_so.so in
          let live : is_dropped d.future q ≡ false =
          still.dropped d.future
          ∙ (u.still.dropped d.future ∙ due_lives its c s p both.0 both.1 d.future (found_stands test p.due d is)) in
          let stand : Stands its z q =
          (trying.forget (named its) d z q told_so.so, tabled its c y z a q told_so.base still (u.tabled popped_tabled)) in
          let begun = begun_shows its c z q stand d.future live can.0 can.1 (Tick t w) in
          let found = turns.begin_answer (named its d.future) z in
          let new = takes.run wakes c d.future (Tick t w) q in
          let lying : new.lying ≡ q.lying = run_lying c d.future (Tick t w) q in
          let sleepers = begun_sleepers (named its d.future) z in
          let numbered : IsNumbered number z.sleepers q.lying =
          numbered_still c (named its) number y z a q (Some d) u.numbered told_so.base.5 still u.few told_so.so in
          subst
          (λ task. IsTaken its number s p (ATick t) (Tick t w) (ticks.found_answer ticker None task (solo.popped s))
          (ticks.found ticker task (solo.popped s)) new)
          (same_task (named its d.future) task (sym some.0 ∙ has))
          (record {
            stands = begun_both its c d.future (Tick t w) z q stand can.0 can.2 can.1 live;
            numbered =
                subst (λ sl. IsNumbered number sl new.lying) (sym sleepers)
                (subst (λ ls. IsNumbered number z.sleepers ls) (sym lying) numbered);
            awake =
                sym (ap (λ o. or o (λ l. Asleep (record { number = number (ATick t) })) (Awake ticks.its_room))
                (not_found (ATick t) new.lying
                (ap (λ ls. any (is_who (ATick t)) (map (λ (l : Lying (SoloWaker X)). l.who) ls)) lying
                ∙ (ap (any (is_who (ATick t))) still.whos ∙ u.gone))));
            seen =
                step p.events (rings (ticks.tell_unless_answer dropped.told.sleeper y)) (found_as found)
                (told_so.seen p.events u.seen) begun.0;
            inside = begun.1 ∙ ap (λ cs. code_of (Tick t w) found ++ cs) (still.inside ∙ u.still.inside);
            handed = begun.2;
            lent = begun.3;
          })
        where
          same_task : (a b : Task) → ◌≡◌ {A = Option Task} (Some a) (Some b) → a ≡ b
          same_task a b same = ap (λ o. or o (λ x. x) a) same
