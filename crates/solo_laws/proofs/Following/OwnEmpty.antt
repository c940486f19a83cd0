-- A search of an own queue in which there is none leaves both as they were.
use Rattle.std.proofs.Common.{◌≡◌, ℕ, true, false, List, [], ◌∷◌, drop, filter, None, is_some, slice_get, refl, sym, ap, ◌∙◌}
use Rattle.solo.specs.declared.names.SoloWaker.{SoloWaker}
use Rattle.solo.specs.declared.owed.Lent.{Lent}
use Rattle.solo.specs.declared.solo.Solo.{Solo}
use Rattle.solo.specs.OwnQueues as own
use Rattle.solo.specs.Steals as steals
use Rattle.plain_scheduler.specs.State.{Due, Plain}
use Rattle.plain_scheduler.specs.Lists.{any}
use Rattle.plain_scheduler.specs.Moves.{is_kept}
use Rattle.solo_laws.specs.Road.{apart}
use Rattle.solo_laws.specs.Tabled.{Stands, goes_on, own_of}
use Rattle.solo_laws.proofs.Following.Lines.{find_first}
use Rattle.solo_laws.proofs.Following.Owns.{changed_made, changed_numbers}
use Rattle.solo_laws.proofs.Following.Stealing.{own_left}
use Rattle.solo_laws.proofs.Following.Taking.{found_any, without_none}

module _ {F T X : Type 0} (its : ℕ → Lent) (s : Solo F T X) (p : Plain T (SoloWaker X)) (both : Stands its s p) (r : ℕ) where
  -- its own queue is empty
  pub none_kept : goes_on r p ≡ true → own.first_of r s.runs ≡ None → any (is_kept r) p.due ≡ false
  none_kept going first =
      found_any (is_kept r) p.due
      ∙ ap (λ o. is_some o)
      (find_first (is_kept r) p.due
      ∙ by (filter (is_kept r) p.due)
      (sym (ap own.first_in (both.1.queues r ∙ ap (λ b. own_of its b (filter (is_kept r) p.due)) going)) ∙ first))
    where
      by : (ds : List Due) → own.first_in (own_of its true ds) ≡ None → slice_get ds 0 ≡ None
      by [] none = refl
      by (d ∷ ds) none = absurd cc

  pub popped_both : any (is_kept r) p.due ≡ false → Stands its (steals.own_popped r s) p
  popped_both none =
      let f = both.0 in
      let t = both.1 in (
        record {
          numbered = f.numbered;
          tasks = f.tasks;
          within = f.within;
          queued = f.queued;
          once = f.once;
          ready = f.ready;
          asleep = f.asleep;
          awaiters = f.awaiters;
          inside = f.inside;
        },
        record {
          rows = t.rows;
          homes = t.homes;
          keys_apart = t.keys_apart;
          limit = t.limit;
          accepted = t.accepted;
          kind = t.kind;
          lent = t.lent;
          dropping = t.dropping;
          made = changed_made (λ ts. drop 1 ts) r s.runs ∙ t.made;
          queues = λ j.
              own_left its s p t r j
              ∙ ap (λ ds. own_of its (goes_on j p) (filter (is_kept j) ds)) (without_none (is_kept r) p.due none);
          kept = t.kept;
          numbers_apart = ap apart (changed_numbers (λ ts. drop 1 ts) r s.runs) ∙ t.numbers_apart;
          going = t.going;
          leaving = t.leaving;
          leaving_open = t.leaving_open;
          leaving_limit = t.leaving_limit;
          few = t.few;
          unleaked = t.unleaked;
        },
      )
