-- A run that is made has an own queue, in which there is none: so both have one run more.
use Rattle.std.proofs.Common.{◌≡◌, ℕ, ◌+◌, ◌<◌, ◌==◌, cond, not, if◌then◌else◌, Bool, true, false, List, [], ◌∷◌, ◌++◌}
use Rattle.std.proofs.Common.{length, filter, Option, Some, None, slice_get, refl, sym, ap, subst, ◌∙◌, arith}
use Rattle.std.proofs.lemmas.Bool.Decides.{nat_tests}
use Rattle.queue_steps.specs.ClosableQueue.{most_accepted}
use Rattle.solo.specs.declared.names.Task.{Task}
use Rattle.solo.specs.declared.names.SoloWaker.{SoloWaker}
use Rattle.solo.specs.declared.owed.Lent.{Lent}
use Rattle.solo.specs.declared.solo.Solo.{Solo}
use Rattle.solo.specs.OwnQueues as own
use Rattle.solo.specs.Runs as runs
use Rattle.plain_scheduler.specs.State.{Who, Made, NoMemory, Choice, Running, Plain}
use Rattle.plain_scheduler.specs.Lists.{or}
use Rattle.plain_scheduler.specs.Moves.{answers, is_kept}
use Rattle.plain_scheduler.specs.Calls.{is_granted}
use Rattle.solo_laws.specs.Numbered.{IsNumbered}
use Rattle.solo_laws.specs.Road.{Follows}
use Rattle.solo_laws.specs.Running.{RunsBegin, RunsAreUnmade}
use Rattle.solo_laws.specs.Tabled.{Stands, IsTable, named, goes_on, own_of}
use Rattle.solo_laws.specs.Ticking.{IsMade, IsRefused}
use Rattle.solo_laws.proofs.Following.Adding.{get_last, long_last}
use Rattle.solo_laws.proofs.Following.Cells.{same_number}
use Rattle.solo_laws.proofs.Following.Losing.{sees}
use Rattle.solo_laws.proofs.Following.Owns.{last_queue, opened_apart}
use Rattle.solo_laws.proofs.Following.TickLeaving.{roomed_stands, roomed_numbered}
use Rattle.solo_laws.proofs.Following.TickRefusing.{refuses}

itself_or : (o : Option (List Task)) → or o (λ tasks. Some tasks) None ≡ o
itself_or None = refl
itself_or (Some tasks) = refl

turn : (n m : ℕ) → (n == m) ≡ (m == n)
turn n m = by (m == n) refl
  where
    by : (b : Bool) → (m == n) ≡ b → (n == m) ≡ b
    by true is = grind (arith, nat_tests)
    by false is = grind (arith, nat_tests)

module _ {F T X : Type 0} (its : ℕ → Lent) (number : Who → ℕ) (s : Solo F T X) (p : Plain T (SoloWaker X)) (both : Stands its s p)
    (n : IsNumbered number s.sleepers p.lying) where
  abbrev coming : Running
  coming = record { taken = 0; is_over = false }

  abbrev after : Plain T (SoloWaker X)
  after = record p { runs = p.runs ++ coming ∷ [] }

  abbrev many : ℕ
  many = length p.runs

  going : (r : ℕ) → goes_on r after ≡ cond (r == many) true (goes_on r p)
  going r =
      ap (λ (o : Option Running). or o (λ run. not run.is_over) false) (get_last p.runs coming r) ∙ by (r == many)
    where
      by : (b : Bool) → or (cond b (Some coming) (slice_get p.runs r)) (λ run. not run.is_over) false ≡ cond b true (goes_on r p)
      by true = refl
      by false = refl

  past : goes_on many p ≡ false
  past = by p.runs
    where
      by : (rs : List Running) → or (slice_get rs (length rs)) (λ run. not run.is_over) false ≡ false
      by [] = refl
      by (x ∷ xs) = by xs

  -- no run of this number has kept any
  none_kept : filter (is_kept many) p.due ≡ []
  none_kept = both.1.kept many past

  queues : (r : ℕ) → own.queue_of r (own.opened s.runs).queues ≡ own_of its (goes_on r after) (filter (is_kept r) p.due)
  queues r =
      last_queue r (record { number = s.runs.made; queue = [] }) s.runs.queues
      ∙ (ap (λ o. or o (λ tasks. Some tasks) (cond (s.runs.made == r) (Some []) None)) (both.1.queues r)
      ∙ (ap (λ k. or (own_of its (goes_on r p) (filter (is_kept r) p.due)) (λ tasks. Some tasks) (cond (k == r) (Some []) None)) both.1.made
      ∙ (ap (λ b. or (own_of its (goes_on r p) (filter (is_kept r) p.due)) (λ tasks. Some tasks) (cond b (Some []) None)) (turn many r)
      ∙ (by (r == many) refl
      ∙ ap (λ b. own_of its b (filter (is_kept r) p.due)) (sym (going r))))))
    where
      by : (b : Bool) → (r == many) ≡ b
          → or (own_of its (goes_on r p) (filter (is_kept r) p.due)) (λ tasks. Some tasks) (cond b (Some []) None)
          ≡ own_of its (cond b true (goes_on r p)) (filter (is_kept r) p.due)
      by false is = itself_or (own_of its (goes_on r p) (filter (is_kept r) p.due))
      by true is =
          let one : r ≡ many = same_number r many is in
          ap (λ k. or (own_of its (goes_on k p) (filter (is_kept k) p.due)) (λ tasks. Some tasks) (Some [])) one
          ∙ (ap (λ b. or (own_of its b (filter (is_kept many) p.due)) (λ tasks. Some tasks) (Some [])) past
          ∙ (sym (ap (own_of its true) none_kept) ∙ ap (λ k. own_of its true (filter (is_kept k) p.due)) (sym one)))

  kept : (r : ℕ) → goes_on r after ≡ false → filter (is_kept r) p.due ≡ []
  kept r over = by (r == many) (sym (going r) ∙ over)
    where
      by : (b : Bool) → cond b true (goes_on r p) ≡ false → filter (is_kept r) p.due ≡ []
      by true is = absurd cc
      by false is = both.1.kept r is

  module _ (few : many < most_accepted) where
    counts : (m : ℕ) → m < most_accepted → own.one_more m ≡ m + 1
    counts m few = omega (arith, few)

    follows : Follows (named its) (runs.made s) after
    follows =
        let r = (roomed_stands its number s p both n (s.sleepers.rooms + 1)).0 in
        record {
          numbered = r.numbered;
          tasks = r.tasks;
          within = r.within;
          queued = r.queued;
          once = r.once;
          ready = r.ready;
          asleep = r.asleep;
          awaiters = r.awaiters;
          inside = r.inside;
        }

    tabled : IsTable its (runs.made s) after
    tabled =
        let t = both.1 in
        record {
          rows = t.rows;
          homes = t.homes;
          keys_apart = t.keys_apart;
          limit = t.limit;
          accepted = t.accepted;
          kind = t.kind;
          lent = t.lent;
          dropping = t.dropping;
          made = ap own.one_more t.made ∙ (counts many few ∙ sym (long_last p.runs coming));
          queues = queues;
          kept = kept;
          numbers_apart =
              opened_apart (record { number = s.runs.made; queue = [] }) s.runs.queues t.numbers_apart
              (t.queues s.runs.made
              ∙ (ap (λ k. own_of its (goes_on k p) (filter (is_kept k) p.due)) t.made
              ∙ ap (λ b. own_of its b (filter (is_kept many) p.due)) past));
          going = t.going;
          leaving = t.leaving;
          leaving_open = t.leaving_open;
          leaving_limit = t.leaving_limit;
          few = t.few;
          unleaked = t.unleaked;
        }

  made_by : (c : Choice) → many < most_accepted → IsMade its number s p (runs.made s) (answers Made after)
  made_by c few = record {
    stands = sees its c (runs.made s) after Made (follows few, tabled few);
    numbered = roomed_numbered its number s p both n (s.sleepers.rooms + 1);
    seen = refl;
  }

  pub runs_begin : RunsBegin its number s p
  runs_begin c granted few = (
    subst (λ r. IsMade its number s p (runs.made s) (if is_granted r then answers Made after else answers NoMemory p)) (sym granted)
        (made_by c few),
    both.1.made,
  )

  pub runs_unmade : RunsAreUnmade its number s p
  runs_unmade c refused =
      subst (λ b. IsRefused its number s p number s (if b then answers Made after else answers NoMemory p)) (sym refused)
      (refuses its number s p c number s p both n refl)
