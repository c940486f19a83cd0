-- A run is polled, or dropped: its own future is polled, or dropped, first.
use Rattle.std.proofs.Common.{◌≡◌, ℕ, not, if◌then◌else◌, Bool, true, false, List, [], ◌∷◌, length, filter, Option, Some, None}
use Rattle.std.proofs.Common.{is_some, slice_get, append-nil, refl, sym, ap, subst, ◌∙◌}
use Rattle.solo.specs.declared.names.SoloWaker.{SoloWaker}
use Rattle.solo.specs.declared.owed.Lent.{Lent}
use Rattle.solo.specs.declared.runs.Runner.{Runner}
use Rattle.solo.specs.declared.solo.Solo.{Solo}
use Rattle.solo.specs.Runs as runs
use Rattle.plain_scheduler.specs.State.{Answer, Answers, Choice, Code, Done, DropOwn, Finished, Plain, PollOwn, Ready, Running}
use Rattle.plain_scheduler.specs.State.{Who}
use Rattle.plain_scheduler.specs.Lists.{or}
use Rattle.plain_scheduler.specs.Moves.{answers, enters, is_kept}
use Rattle.plain_scheduler.specs.Calls as calls
use Rattle.solo_laws.specs.Numbered.{IsNumbered}
use Rattle.solo_laws.specs.Road.{awaiters, drops, is_in, lents, wakes}
use Rattle.solo_laws.specs.Running.{OversAreDropped, OversArePolled, OwnsAreReady, Reaches, RunsAreDropped, RunsArePolled}
use Rattle.solo_laws.specs.Tabled.{Stands, goes_on, named, own_of}
use Rattle.solo_laws.proofs.Following.Listed.{has_own}
use Rattle.solo_laws.proofs.Following.Inside.{same_inside}
use Rattle.solo_laws.proofs.Following.Listing.{listed_apart, listed_made, listed_queue}
use Rattle.solo_laws.proofs.Following.Losing.{sees}
use Rattle.solo_laws.proofs.Following.Seeing.{seen}
use Rattle.solo_laws.proofs.Following.Tabling.{handed}

-- one is over that doesn't go on
ended : (o : Option Running) → or o (λ run. run.is_over) true ≡ not (or o (λ run. not run.is_over) false)
ended None = refl
ended (Some run) = by run.is_over
  where
    by : (b : Bool) → b ≡ not (not b)
    by true = refl
    by false = refl

module _ {F T X : Type 0} (its : ℕ → Lent) (s : Solo F T X) (p : Plain T (SoloWaker X)) (both : Stands its s p) where
  -- other users' codes have the same in hand
  pub same_hands : (c : Choice) (now : List (Code T (SoloWaker X))) → lents now ≡ lents p.inside → drops now ≡ drops p.inside
      → awaiters now ≡ awaiters p.inside → Stands its s (record p { inside = now })
  same_hands c now lent dropped waits = (
    seen (named its) s p p.events now
        (same_inside (named its) (length p.futures) s.cells p.inside now both.0.inside lent dropped waits) both.0,
    handed its c s p p.events now
        (λ f has. both.1.lent f (sym (ap (is_in f) lent) ∙ has)) (λ f has. both.1.dropping f (sym (ap (is_in f) dropped) ∙ has)) both.1,
  )

  -- a run that has its own queue goes on
  pub going_there : (r : ℕ) → has_own r s.runs ≡ true → goes_on r p ≡ true
  going_there r has = by (goes_on r p) (sym (ap (λ q. is_some q) (both.1.queues r)) ∙ has)
    where
      by : (b : Bool) → is_some (own_of its b (filter (is_kept r) p.due)) ≡ true → b ≡ true
      by true has = refl
      by false has = absurd cc

  -- others look at a run's own queue
  begun_both : (runner : Runner) → Stands its (runs.begun runner s) p
  begun_both runner =
      let f = both.0 in
      let t = both.1 in (
        record {
          numbered = f.numbered;
          tasks = f.tasks;
          within = f.within;
          queued = f.queued;
          once = f.once;
          ready = f.ready;
          asleep = f.asleep;
          awaiters = f.awaiters;
          inside = f.inside;
        },
        record {
          rows = t.rows;
          homes = t.homes;
          keys_apart = t.keys_apart;
          limit = t.limit;
          accepted = t.accepted;
          kind = t.kind;
          lent = t.lent;
          dropping = t.dropping;
          made = listed_made runner.number s.runs t.numbers_apart ∙ t.made;
          queues = λ r. listed_queue runner.number s.runs t.numbers_apart r ∙ t.queues r;
          kept = t.kept;
          numbers_apart = listed_apart runner.number s.runs t.numbers_apart;
          going = t.going;
          leaving = t.leaving;
          leaving_open = t.leaving_open;
          leaving_limit = t.leaving_limit;
          few = t.few;
          unleaked = t.unleaked;
        },
      )

module _ {F T X : Type 0} (its : ℕ → Lent) (number : Who → ℕ) (s : Solo F T X) (p : Plain T (SoloWaker X)) (both : Stands its s p)
    (n : IsNumbered number s.sleepers p.lying) where
  -- a user's code with nothing in hand is entered
  entered : (c : Choice) (z : Solo F T X) → Stands its z p → IsNumbered number z.sleepers p.lying → (code : Code T (SoloWaker X))
      → lents (code ∷ p.inside) ≡ lents p.inside → drops (code ∷ p.inside) ≡ drops p.inside
      → awaiters (code ∷ p.inside) ≡ awaiters p.inside
      → Reaches its number s p (code ∷ p.inside) [] z (enters code p)
  entered c z stands numbered code lent dropped waits = record {
    stands = same_hands its z p stands c (code ∷ p.inside) lent dropped waits;
    numbered = numbered;
    inside_is = refl;
    seen = sym (append-nil p.events);
  }

  answered : (c : Choice) (answer : Answer T) → Reaches its number s p p.inside (Answers answer ∷ []) s (answers answer p)
  answered c answer = record { stands = sees its c s p answer both; numbered = n; inside_is = refl; seen = refl }

  going_on : (r : ℕ) → goes_on r p ≡ true → or (slice_get p.runs r) (λ run. run.is_over) true ≡ false
  going_on r going = ended (slice_get p.runs r) ∙ ap not going

  gone_by : (r : ℕ) → goes_on r p ≡ false → or (slice_get p.runs r) (λ run. run.is_over) true ≡ true
  gone_by r over = ended (slice_get p.runs r) ∙ ap not over

  pub runs_polled : RunsArePolled its number s p
  runs_polled c runner w going =
      subst
      (λ b. Reaches its number s p (PollOwn runner.number w ∷ p.inside) [] (runs.begun runner s)
      (if b then answers Finished p else enters (PollOwn runner.number w) p)) (sym (going_on runner.number going))
      (entered c (runs.begun runner s) (begun_both its s p both runner) n (PollOwn runner.number w) refl refl refl)

  pub overs_polled : OversArePolled its number s p
  overs_polled c r w over =
      subst
      (λ b. Reaches its number s p p.inside (Answers Finished ∷ []) s (if b then answers Finished p else enters (PollOwn r w) p))
      (sym (gone_by r over)) (answered c Finished)

  pub runs_dropped : RunsAreDropped its number s p
  runs_dropped c r going =
      subst
      (λ b. Reaches its number s p (DropOwn r Done ∷ p.inside) [] s (if b then answers Done p else enters (DropOwn r Done) p))
      (sym (going_on r going)) (entered c s both n (DropOwn r Done) refl refl refl)

  pub overs_dropped : OversAreDropped its number s p
  overs_dropped c r over =
      subst
      (λ b. Reaches its number s p p.inside (Answers Done ∷ []) s (if b then answers Done p else enters (DropOwn r Done) p))
      (sym (gone_by r over)) (answered c Done)

  pub owns_ready : OwnsAreReady its number s p
  owns_ready c r w v rest stands_in =
      subst
      (λ cs. Reaches its number s p (DropOwn r Ready ∷ rest) [] s (calls.innermost wakes c cs (calls.gives wakes c v) p))
      (sym stands_in)
      (record {
        stands =
            same_hands its s p both c (DropOwn r Ready ∷ rest) (sym (ap (λ cs. lents cs) stands_in))
            (sym (ap (λ cs. drops cs) stands_in)) (sym (ap (λ cs. awaiters cs) stands_in));
        numbered = n;
        inside_is = refl;
        seen = sym (append-nil p.events);
      })
