-- How many futures a run has taken is nothing to the executor; and one that has taken 200 lets others go first.
use Rattle.std.proofs.Common.{◌≡◌, ℕ, ◌+◌, ◌≤◌, ◌==◌, not, if◌then◌else◌, Bool, true, false, List, [], ◌∷◌, ◌++◌, length, filter}
use Rattle.std.proofs.Common.{Option, Some, None, slice_get, slice_set, refl, sym, ap, subst, ◌∙◌}
use Rattle.solo.specs.declared.names.Task.{Task}
use Rattle.solo.specs.declared.names.SoloWaker.{SoloWaker}
use Rattle.solo.specs.declared.names.SoloWaker.TheVariants.{Task as OfTask, Outside}
use Rattle.solo.specs.declared.owed.Lent.{Lent}
use Rattle.solo.specs.declared.solo.Solo.{Solo}
use Rattle.solo.specs.Solo as solo
use Rattle.plain_scheduler.specs.State.{Answers, Calls, Choice, Done, Event, Pending, Plain, Run, Running}
use Rattle.plain_scheduler.specs.Lists.{on, or}
use Rattle.plain_scheduler.specs.Moves.{answers, is_kept, tell}
use Rattle.plain_scheduler.specs.Moves as moves
use Rattle.plain_scheduler.specs.Takes as takes
use Rattle.solo_laws.specs.Road.{HasLife, IsNamed, wakes}
use Rattle.solo_laws.specs.RunTaking.{RunsGiveWay, wake_shows, woken_by}
use Rattle.solo_laws.specs.Shown.{rings}
use Rattle.solo_laws.specs.Tabled.{Stands, named, own_of}
use Rattle.solo_laws.proofs.Following.Bases as bases
use Rattle.solo_laws.proofs.Following.Both.{wakes_alike}
use Rattle.solo_laws.proofs.Following.Cells.{same_number}
use Rattle.solo_laws.proofs.Following.Frames.{seen_still}
use Rattle.solo_laws.proofs.Following.Lists.{length_set, set_other, set_same}
use Rattle.solo_laws.proofs.Following.Seeing.{seen}
use Rattle.solo_laws.proofs.Following.Tabling.{tabled}
use Rattle.solo_laws.proofs.Showing.Telling.{step, woken_shows}

abbrev pub taken_more : Running → Running
taken_more run = record run { taken = run.taken + 1 }

abbrev pub taken_none : Running → Running
taken_none run = record run { taken = 0 }

-- a run is changed, and is over or goes on as before
module _ {F T X : Type 0} (its : ℕ → Lent) (h : Running → Running) (still : (run : Running) → (h run).is_over ≡ run.is_over) (r : ℕ)
    (s : Solo F T X) (p : Plain T (SoloWaker X)) (both : Stands its s p) where
  pub runs_both : Stands its s (moves.runs h r p)
  runs_both = by (slice_get p.runs r) refl
    where
      by : (o : Option Running) → slice_get p.runs r ≡ o
          → Stands its s (on o (λ run p. record p { runs = slice_set p.runs r (h run) }) p)
      by None is = both
      by (Some run) is =
          let f = both.0 in
          let t = both.1 in (
            record {
              numbered = f.numbered;
              tasks = f.tasks;
              within = f.within;
              queued = f.queued;
              once = f.once;
              ready = f.ready;
              asleep = f.asleep;
              awaiters = f.awaiters;
              inside = f.inside;
            },
            record {
              rows = t.rows;
              homes = t.homes;
              keys_apart = t.keys_apart;
              limit = t.limit;
              accepted = t.accepted;
              kind = t.kind;
              lent = t.lent;
              dropping = t.dropping;
              made = t.made ∙ sym (length_set p.runs r (h run));
              queues = λ j. t.queues j ∙ ap (λ b. own_of its b (filter (is_kept j) p.due)) (sym (same (r == j) j refl));
              kept = λ j over. t.kept j (sym (same (r == j) j refl) ∙ over);
              numbers_apart = t.numbers_apart;
              going = t.going;
              leaving = t.leaving;
              leaving_open = t.leaving_open;
              leaving_limit = t.leaving_limit;
              few = t.few;
              unleaked = t.unleaked;
            },
          )
        where
          goes : Option Running → Bool
          goes o = or o (λ run. not run.is_over) false

          same : (b : Bool) (j : ℕ) → (r == j) ≡ b → goes (slice_get (slice_set p.runs r (h run)) j) ≡ goes (slice_get p.runs j)
          same true j one =
              sym (ap (λ n. goes (slice_get (slice_set p.runs r (h run)) n)) (same_number r j one))
              ∙ (ap goes (set_same p.runs r (h run) run is)
              ∙ (ap not (still run) ∙ (sym (ap goes is) ∙ ap (λ n. goes (slice_get p.runs n)) (same_number r j one))))
          same false j other = ap goes (set_other p.runs r j (h run) other)

pub runs_is : {T A : Type 0} (h : Running → Running) (r : ℕ) (p : Plain T A)
    → moves.runs h r p ≡ record p { runs = (moves.runs h r p).runs }
runs_is {T} {A} h r p = by (slice_get p.runs r)
  where
    one : Option Running → Plain T A
    one o = on o (λ run p. record p { runs = slice_set p.runs r (h run) }) p

    by : (o : Option Running) → one o ≡ record p { runs = (one o).runs }
    by None = refl
    by (Some run) = refl

module _ {F T X : Type 0} (its : ℕ → Lent) (c : Choice) where
  -- what was seen is nothing to both
  pub other_events : (s : Solo F T X) (p : Plain T (SoloWaker X)) (events : List (Event T (SoloWaker X))) → Stands its s p
      → Stands its s (record p { events = events })
  other_events s p events both = (
    seen (named its) s p events p.inside both.0.inside both.0,
    tabled its c s s p (record p { events = events }) (bases.same s) (seen_still c p events) both.1,
  )

  module _ (s : Solo F T X) (p : Plain T (SoloWaker X)) (both : Stands its s p) (many : length p.lying ≤ c.tells)
      (life : HasLife 2 s.lines) where
    abbrev Woken : SoloWaker X → Plain T (SoloWaker X) → Type 0
    Woken w q = Stands its (woken_by w s) q × (q.events ≡ p.events ++ (wake_shows w s ++ Answers Pending ∷ []))

    -- it calls its own waker, and is pending
    woken : (w : SoloWaker X) → ((t : Task) → w ≡ OfTask t → IsNamed (named its) (length p.futures) t)
        → Woken w (answers Pending (or (wakes w) (λ f. moves.wake wakes (tell wakes c) f p) (moves.see (Calls w) p)))
    woken (Outside w) names = (
      other_events s p ((p.events ++ Calls (Outside w) ∷ []) ++ Answers Pending ∷ []) both,
      step p.events (Calls (Outside w) ∷ []) (Answers Pending ∷ []) refl refl,
    )
    woken (OfTask t) names =
        let it = names t refl in
        let q = moves.wake wakes (tell wakes c) t.number p in
        let all : Stands its (solo.woken (named its t.number) s) (answers Done q) = wakes_alike its s p both c t.number it.0 many life in
        let shows : (answers Pending q).events
        ≡ p.events ++ (rings (solo.wake_answer (named its t.number) s).sleeper ++ Answers Pending ∷ []) =
        step p.events (rings (solo.wake_answer (named its t.number) s).sleeper) (Answers Pending ∷ [])
        (woken_shows None (named its) c t.number s p it.0 both.0 many life) refl in
        subst (λ u. Woken (OfTask u) (answers Pending q)) it.1
        (other_events (solo.woken (named its t.number) s) (answers Done q) (q.events ++ Answers Pending ∷ []) all, shows)

module _ {F T X : Type 0} (its : ℕ → Lent) (s : Solo F T X) (p : Plain T (SoloWaker X)) (both : Stands its s p) where
  pub runs_give_way : RunsGiveWay its s p
  runs_give_way c r w enough names many life =
      let q = moves.runs taken_none r p in
      let is : q ≡ record p { runs = q.runs } = runs_is taken_none r p in
      let it =
      woken its c s (record p { runs = q.runs }) (subst (Stands its s) is (runs_both its taken_none (λ run. refl) r s p both)) many life w
      names in
      subst
      (λ b. (let z = if b then takes.take wakes c (Run r w) p else takes.gives_way wakes c r w p in
      Stands its (woken_by w s) z × (z.events ≡ p.events ++ (wake_shows w s ++ Answers Pending ∷ [])))) (sym enough)
      (subst
      (λ q. (let z = answers Pending (or (wakes w) (λ f. moves.wake wakes (tell wakes c) f q) (moves.see (Calls w) q)) in
      Stands its (woken_by w s) z × (z.events ≡ p.events ++ (wake_shows w s ++ Answers Pending ∷ [])))) (sym is) it)
