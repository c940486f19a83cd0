-- The end of a poll shows the sleeper that it hands out, or the future, which is dropped.
use Rattle.std.proofs.Common.{◌≡◌, ℕ, ◌<◌, ◌≤◌, not, if◌then◌else◌, Bool, true, false, List, [], ◌∷◌, ◌++◌, length, Some, None}
use Rattle.std.proofs.Common.{is_some, slice_get, refl, sym, ap, subst, ◌∙◌}
use Rattle.executor_parts.specs.Places.{displaced}
use Rattle.task_moves.specs.AbstractTask as abstract
use Rattle.task_moves.specs.AbstractTask.{Finished, Idle}
use Rattle.task_moves.specs.AbstractTask.PendingEnd.{Drops as EndDrops, Queues as EndQueues, Forgets as EndForgets, Rests as EndRests}
use Rattle.task_moves.specs.LocalTask.{info_of, info_from}
use Rattle.solo.specs.declared.names.Task.{Task}
use Rattle.solo.specs.declared.names.SoloWaker.{SoloWaker}
use Rattle.solo.specs.declared.owed.Lent.{Lent}
use Rattle.solo.specs.declared.owed.Owed.{Owed}
use Rattle.solo.specs.declared.owed.Told.{Told}
use Rattle.solo.specs.declared.solo.Solo.{Solo}
use Rattle.solo.specs.Cells.{choose, asked}
use Rattle.solo.specs.Cells as cells
use Rattle.solo.specs.Solo as solo
use Rattle.solo.specs.Turns as turns
use Rattle.plain_scheduler.specs.State.{Choice, Plain, Code, Taker, Try, Tick, Run, Poll, Drops, Answers}
use Rattle.plain_scheduler.specs.Moves.{task, put, appended, tell, becomes}
use Rattle.plain_scheduler.specs.Takes as takes
use Rattle.plain_scheduler.specs.Calls as calls
use Rattle.solo_laws.specs.Alike.{takes_one}
use Rattle.solo_laws.specs.Road.{Follows, HasLife, is_in, lents, wakes}
use Rattle.solo_laws.specs.Shown.{rings, answer_in, end_shows, PendedAs, PendsShown, GivesShown}
use Rattle.solo_laws.specs.Tabled.{Stands, named, home_of, at_home, is_dropped}
use Rattle.solo_laws.proofs.Following.Cells.{of_found, asks_found}
use Rattle.solo_laws.proofs.Following.Homes.{home_in, lent_home}
use Rattle.solo_laws.proofs.Following.Leaving.{leaves}
use Rattle.solo_laws.proofs.Following.Tasks.{none_told}
use Rattle.solo_laws.proofs.Following.Changing.{kept}
use Rattle.solo_laws.proofs.Following.Ending as ending
use Rattle.solo_laws.proofs.Following.Tabling.{live, lives_at}
use Rattle.solo_laws.proofs.Showing.Telling.{step, put_events, told_shows}

module _ {T X : Type 0} (c : Choice) where
  -- a try, or a poll of a tick, is answered
  pub next_events : (by : Taker (SoloWaker X)) → takes_one by ≡ true → (q : Plain T (SoloWaker X))
      → (takes.next wakes c by q).events ≡ q.events ++ Answers (answer_in by) ∷ []
  next_events Try one q = refl
  next_events (Tick t w) one q = refl
  next_events (Run r w) one q = absurd cc

module _ {F T X : Type 0} (its : ℕ → Lent) (s : Solo F T X) (p : Plain T (SoloWaker X)) (both : Stands its s p) (c : Choice) (f : ℕ)
    (by : Taker (SoloWaker X)) (rest : List (Code T (SoloWaker X))) (future : F) (stands_in : p.inside ≡ Poll f by ∷ rest)
    (one : takes_one by ≡ true) (many : length p.lying ≤ c.tells) (life : HasLife 2 s.lines) where
  abbrev out : Plain T (SoloWaker X)
  out = record p { inside = rest }

  follows : Follows (named its) s out
  follows = ending.all (named its) s p both.0 c f by rest stands_in

  below : f < length p.futures
  below = (ending.lent_here (named its) s p both.0 c f by rest stands_in).0

  lent : asked cells.is_lent false (named its f) s.cells ≡ true
  lent = (ending.lent_here (named its) s p both.0 c f by rest stands_in).1

  not_lent : is_in f (lents rest) ≡ false
  not_lent = ending.not_lent (named its) s p both.0 c f by rest stands_in

  lives : is_dropped f p ≡ false
  lives = live its c s p both.0 both.1 f by rest stands_in

  number : (named its f).number ≡ f
  number = both.0.numbered f below

  abbrev turned : Solo F T X
  turned = turns.turned (cells.ended_pending (its f).place) (named its f) s

  -- its entry has no future meanwhile
  home_before : home_of (named its f) s.cells ≡ None
  home_before =
      let k = kept None (named its) cells.is_lent f s out follows below lent in
      asks_found home_in None (named its f) s.cells ∙ (ap (of_found home_in None) k.2 ∙ lent_home k.0.future k.4)

  over_none : is_some (solo.over (its f) future turned) ≡ false
  over_none =
      let e =
      leaves its (not p.is_static) (at_home its s.cells) f s.table.entries (calls.living_from 0 p.futures) both.1.rows both.1.keys_apart
      (lives_at p f lives below) in
      ap (λ o. is_some (displaced future o)) e.1 ∙ (e.4 ∙ ap (λ o. is_some o) home_before)

  abbrev So : Owed F T X → Plain T (SoloWaker X) → Type 0
  So owed q = (q.events ≡ p.events ++ end_shows by owed) × (is_some owed.future ≡ is_some owed.rest)

  abbrev goes_on : abstract.PendingEnd → Plain T (SoloWaker X)
  goes_on e =
      let new = (abstract.end_pending_by e (task f out)).task in
      if is_some (info_of (task f out) new) then tell wakes c (appended f (put f new out)) else put f new out

  abbrev told_if : Task → Solo F T X → Bool → Told X
  told_if t z b =
      choose
      b
      (record { sleeper = turns.told_waker (turns.lined t z); returned = None })
      (record { sleeper = None; returned = Some t })

  so_by : (e : abstract.PendingEnd) → abstract.pending_end (task f out) ≡ e
      → So (solo.pending_answer_by (cells.pending_by e) (its f) future turned) (calls.pending_by wakes c e f by out)
  so_by EndDrops is = (ap (λ n. p.events ++ Drops n ∷ []) (sym number), refl)
  so_by EndForgets is = (
    ap (λ es. es ++ Drops f ∷ []) (put_events f (record (task f out) { phase = Finished; closed = true }) out)
        ∙ ap (λ n. p.events ++ Drops n ∷ []) (sym number),
    refl,
  )
  so_by EndRests is = (
    next_events c by one (becomes wakes (tell wakes c) f (abstract.end_pending (task f out)).task out)
        ∙ ap (λ es. es ++ Answers (answer_in by) ∷ [])
        (subst (λ e. (goes_on e).events ≡ p.events) (sym is)
        (subst
        (λ b. (let new = record (task f out) { phase = Idle } in
        if b then tell wakes c (appended f (put f new out)) else put f new out).events ≡ p.events)
        (sym (none_told (task f out)))
        (put_events f (record (task f out) { phase = Idle }) out))),
    over_none,
  )
  so_by EndQueues is =
      let there = solo.put_back (its f) future turned in
      let new = abstract.queue true (task f out) in
      let q = appended f (put f new out) in
      let lined =
      ending.lines_it (named its) s out follows c f (its f).place future below lent not_lent lives EndQueues is life refl in
      let few =
      ending.few (named its) s out follows c f (its f).place future below lent not_lent lives EndQueues is many in
      let told : (tell wakes c q).events ≡ p.events ++ rings (turns.schedule_answer (named its f) there).sleeper =
      told_shows None (named its) c (turns.lined (named its f) there) q few lined.1
      ∙ (ap (λ es. es ++ rings (turns.told_waker (turns.lined (named its f) there))) (put_events f new out)
      ∙ ap (λ b. p.events ++ rings (told_if (named its f) there b).sleeper) (sym lined.0)) in
      let infos = ending.infos (named its) s out follows c f (its f).place future below lent not_lent lives in (
        step p.events (rings (turns.schedule_answer (named its f) there).sleeper) (Answers (answer_in by) ∷ [])
            (subst (λ e. (goes_on e).events ≡ p.events ++ rings (turns.schedule_answer (named its f) there).sleeper) (sym is)
            (subst
            (λ b. (if b then tell wakes c q else put f new out).events
            ≡ p.events ++ rings (turns.schedule_answer (named its f) there).sleeper)
            (sym (ap (λ (infos : List Bool). is_some (info_from (slice_get (infos ++ true ∷ []) (length infos)))) infos))
            told))
            (next_events c by one (becomes wakes (tell wakes c) f (abstract.end_pending (task f out)).task out)),
        over_none,
      )

  so : So (solo.settle_pending_answer (its f) future s) (calls.does wakes c calls.Call.Pends p)
  so =
      subst
      (λ cs. So (solo.settle_pending_answer (its f) future s) (calls.innermost wakes c cs (calls.pends wakes c) p))
      (sym stands_in)
      (subst
      (λ a. So (solo.pending_answer_by a (its f) future turned)
      (calls.pending_by wakes c (abstract.pending_end (task f out)) f by out))
      (sym (ending.answer (named its) s p both.0 c f by rest stands_in (its f) refl))
      (so_by (abstract.pending_end (task f out)) refl))

  pub pended : PendedAs its s p c f by future
  pended = record { seen = so.0; hands = so.1 }

module _ {F T X : Type 0} (its : ℕ → Lent) (s : Solo F T X) (p : Plain T (SoloWaker X)) (both : Stands its s p) where
  pub pends_shown : PendsShown its s p
  pends_shown c f by one rest future stands_in many life = pended its s p both c f by rest future stands_in one many life

  pub gives_shown : GivesShown its s p
  gives_shown c f by rest v stands_in =
      subst
      (λ cs. (calls.innermost wakes c cs (calls.gives wakes c v) p).events ≡ p.events ++ Drops f ∷ [])
      (sym stands_in)
      refl
