-- Lists of calls happen: each future's name is free as it comes.
use Rattle.std.proofs.Common.{◌≡◌, ℕ, suc, ◌+◌, ◌*◌, if◌then◌else◌, ◌<◌, ◌≤◌, ◌==◌, cond, not, Bool, true, false, List, [], ◌∷◌, ◌++◌}
use Rattle.std.proofs.Common.{length}
use Rattle.std.proofs.Common.{map, Option, Some}
use Rattle.std.proofs.Common.{None, slice_index_or, refl, sym, ap, subst, arith}
use Rattle.std.proofs.lemmas.Bool.Decides.{nat_tests}
use Rattle.queue_steps.specs.ClosableQueue.{count_of_new, most_accepted}
use Rattle.executor_parts.specs.declared.mark.Mark.{Mark}
use Rattle.executor_parts.specs.declared.mark.Mark.TheVariants.{Plain as PlainMark, Urgent}
use Rattle.executor_parts.specs.Places.{Entry, entry_at}
use Rattle.solo.specs.declared.names.Kind.{Kind}
use Rattle.solo.specs.declared.names.Task.{Task}
use Rattle.solo.specs.declared.names.SoloWaker.{SoloWaker}
use Rattle.solo.specs.declared.names.SoloWaker.TheVariants.{Task as OfTask, Outside}
use Rattle.solo.specs.declared.solo.Solo.{Solo}
use Rattle.solo.specs.Lines.{line_of, new_lines}
use Rattle.solo.specs.Solo.{IsNew, counts}
use Rattle.plain_scheduler.specs.State.{Choice, Plain, Who}
use Rattle.plain_scheduler.specs.Calls.{Call, Ends, Leak, NewRun, PollRun, Spawn, does, living_from, new}
use Rattle.solo_laws.specs.Courses.{Leads, leads, stays}
use Rattle.solo_laws.specs.Heeding.{Fits}
use Rattle.solo_laws.specs.Making.{Allows, Goes, Happens, IsKnown, MayCall, MayGo, NextIsFree, WakersAreKnown, Wish, by_number, left_in}
use Rattle.solo_laws.specs.Making.{HasNumber, comes, gives_back, queued_by, queues_at_most}
use Rattle.solo_laws.specs.Owner.{Owner, new_owner}
use Rattle.solo_laws.specs.Road.{HasLife, count_of, is_in, wakes}
use Rattle.solo_laws.specs.Tabled.{Row, row, row_of}
use Rattle.solo_laws.proofs.Following.Due.{equal}
use Rattle.solo_laws.proofs.Following.Leaving.{heads, tails}
use Rattle.solo_laws.proofs.Following.Rows.{living_below}
use Rattle.solo_laws.proofs.Showing.Courses.{Known, leads_alike, new_known}
use Rattle.solo_laws.proofs.Happening.Choosing.{fewer}
use Rattle.solo_laws.proofs.Happening.Goers.{goers}
use Rattle.solo_laws.proofs.Happening.Lasting.{acts_live, drop_pays, few_entries}
use Rattle.solo_laws.proofs.Happening.Behind.{telling}
use Rattle.solo_laws.proofs.Happening.Each.{happens}
use Rattle.solo_laws.proofs.Happening.Free.{acts_vacant}
use Rattle.solo_laws.proofs.Happening.Growing.{begins, call_grows}
use Rattle.solo_laws.proofs.Happening.Places.{FewKept, none_kept}
use Rattle.solo_laws.proofs.Happening.Refused.{acts_heed}
use Rattle.solo_laws.proofs.Happening.Vacant.{IsVacant}
use Rattle.solo_laws.proofs.Happening.Wakers.{PollsBy, call_all, more_all}

-- no entry has a key that no living future has as its number
none_has : {F : Type 0} (n : ℕ) (es : List (Entry F (Option Task))) (held : Bool) (home : ℕ → Bool) (fs : List ℕ)
    → map row es ≡ map (row_of by_number held home) fs → ((f : ℕ) → is_in f fs ≡ true → f < n) → entry_at n es ≡ None
none_has n [] held home fs rows below = refl
none_has n (e ∷ es) held home [] rows below = absurd cc
none_has {F} n (e ∷ es) held home (f ∷ fs) rows below =
    by (n == e.key) refl
    (none_has n es held home fs (tails (row e) (row_of by_number held home f) (map row es) (map (row_of by_number held home) fs) rows)
    (λ j has. below j (later j (j == f) has)))
  where
    key_is : e.key ≡ f
    key_is = ap (λ (r : Row). r.0.key) (heads (row e) (row_of by_number held home f) (map row es) (map (row_of by_number held home) fs)
        rows)

    later : (j : ℕ) (b : Bool) → is_in j fs ≡ true → cond b true (is_in j fs) ≡ true
    later j true has = refl
    later j false has = has

    first : cond (f == f) true (is_in f fs) ≡ true
    first = ap (λ b. cond b true (is_in f fs)) (equal f f refl)

    apart : (n k : ℕ) → k < n → (n == k) ≡ true → ⊥
    apart n k less same = absurd (grind (arith, nat_tests))

    by : (b : Bool) → (n == e.key) ≡ b → entry_at n es ≡ None
        → ◌≡◌ {A = Option (Entry F (Option Task))} (elim b [ true ↦ Some e | false ↦ entry_at n es ]) None
    by true same rest = absurd (apart n e.key (subst (λ k. k < n) (sym key_is) (below f first)) same)
    by false other rest = rest

-- new queues have accepted none
pub none_yet : (limit n : ℕ) → n ≤ most_accepted → (mark : Mark) → count_of (line_of mark (new_lines limit)).accepted + n ≤ most_accepted
none_yet limit n most mark = which mark (by (limit == 1))
  where
    by : (b : Bool) → count_of (if b then None else Some 0) + n ≤ most_accepted
    by true = omega (arith, most)
    by false = omega (arith, most)

    which : (mark : Mark) → count_of (count_of_new limit) + n ≤ most_accepted
        → count_of (line_of mark (new_lines limit)).accepted + n ≤ most_accepted
    which PlainMark is = is
    which Urgent is = is

-- a future that comes is counted, and a run
pub counts_futures : {T X : Type 0} (came : ℕ) (call : Call T (SoloWaker X)) → comes call ≤ queues_at_most came 0 call
counts_futures came (Spawn mark) = omega arith
counts_futures came call = omega arith

pub none_yet_came : {T X : Type 0} (came : ℕ) (call : Call T (SoloWaker X)) → queues_at_most 0 0 call ≤ queues_at_most came 0 call
none_yet_came came Leak = omega arith
none_yet_came came call = omega arith

pub counts_runs : {T X : Type 0} (call : Call T (SoloWaker X)) → begins call ≤ gives_back call
counts_runs NewRun = omega arith
counts_runs call = omega arith

module _ {F T X : Type 0} where
  pub next_free : (owner : Owner) (s : Solo F T X) (p : Plain T (SoloWaker X)) → Known by_number owner s p
      → IsVacant (length p.futures) s.cells → NextIsFree by_number owner s p
  next_free owner s p known vacant = record {
    number = refl;
    key = vacant (length p.futures) (omega arith);
    place =
        none_has (length p.futures) s.table.entries (not p.is_static) _ (living_from 0 p.futures) known.stands.1.rows
        (λ f has. (let it = living_below p.futures 0 f has in omega (arith, it)));
  }

  -- runs are polled by known wakers still
  pub still_known : (owner : Owner) (s : Solo F T X) (p : Plain T (SoloWaker X)) (now : Owner) (z : Solo F T X) (c : Choice)
      (x : Wish T (SoloWaker X)) → Allows by_number owner s p x.refusal x.name x.call → WakersAreKnown by_number owner s p
      → WakersAreKnown by_number now z (does wakes c x.call p)
  still_known owner s p now z c x may all =
      let q = does wakes c x.call p in
      more_all (IsKnown by_number owner s p) (IsKnown by_number now z q) (still (call_grows c x.call p).futures) q.inside
      (call_all c (IsKnown by_number owner s p) x.call p (polls x.call may) all)
    where
      still : length p.futures ≤ length (does wakes c x.call p).futures → (w : SoloWaker X) → IsKnown by_number owner s p w
          → IsKnown by_number now z (does wakes c x.call p) w
      still more (Outside w) its = tt
      still more (OfTask t) its = (let below = its.0 in omega (arith, below, more), its.1)

      polls : (call : Call T (SoloWaker X)) → Allows by_number owner s p x.refusal x.name call
          → PollsBy c (IsKnown by_number owner s p) call
      polls (PollRun r w) its = its.1
      polls call its = tt

  -- what a call queues is counted, and what the runs that go on may give back
  pub pays : (came : ℕ) (owner : Owner) (s : Solo F T X) (p : Plain T (SoloWaker X)) → Known by_number owner s p → FewKept p.due
      → (c : Choice) (call : Call T (SoloWaker X))
      → queues_at_most came (left_in by_number owner s p p.inside) call + 3 * 512 * goers (does wakes c call p).runs
      ≤ queues_at_most came 0 call + gives_back call + 3 * 512 * goers p.runs
  pays came owner s p known kept c call = by call (call_grows c call p).going
    where
      by : (call : Call T (SoloWaker X)) → goers (does wakes c call p).runs ≤ goers p.runs + begins call
          → queues_at_most came (left_in by_number owner s p p.inside) call + 3 * 512 * goers (does wakes c call p).runs
          ≤ queues_at_most came 0 call + gives_back call + 3 * 512 * goers p.runs
      by Ends less = (let paid = drop_pays by_number s p known.stands c owner kept in omega (arith, paid))
      by NewRun less = omega (arith, less)
      by call less = omega (arith, less)

  -- what a call may queue may come, where so many more may
  pub has_life : (came k : ℕ) (owner : Owner) (s : Solo F T X) (p : Plain T (SoloWaker X)) → Known by_number owner s p
      → FewKept p.due → length p.futures ≤ came → (c : Choice) (call : Call T (SoloWaker X))
      → queues_at_most came 0 call + gives_back call ≤ k → HasLife (k + 3 * 512 * goers p.runs) s.lines
      → HasLife (queues_at_most (length s.table.entries) (left_in by_number owner s p p.inside) call) s.lines
  has_life came k owner s p known kept before c call most life =
      fewer (queues_at_most (length s.table.entries) (left_in by_number owner s p p.inside) call) (k + 3 * 512 * goers p.runs) s.lines
      (enough call most (pays came owner s p known kept c call)) life
    where
      enough : (call : Call T (SoloWaker X)) → queues_at_most came 0 call + gives_back call ≤ k
          → queues_at_most came (left_in by_number owner s p p.inside) call + 3 * 512 * goers (does wakes c call p).runs
          ≤ queues_at_most came 0 call + gives_back call + 3 * 512 * goers p.runs
          → queues_at_most (length s.table.entries) (left_in by_number owner s p p.inside) call ≤ k + 3 * 512 * goers p.runs
      enough Leak most paid = (let few = few_entries by_number s p known.stands in omega (arith, few, before, most))
      enough call most paid = omega (arith, most, paid)

  pub has_number : (k : ℕ) (owner : Owner) (s : Solo F T X) (p : Plain T (SoloWaker X)) (call : Call T (SoloWaker X))
      → queues_at_most 0 0 call + gives_back call ≤ k → length p.futures + k ≤ most_accepted → length p.runs + k ≤ most_accepted
      → HasNumber by_number owner s p call
  has_number k owner s p (Spawn mark) most futures runs = omega (arith, futures, most)
  has_number k owner s p NewRun most futures runs = omega (arith, runs, most)
  has_number k owner s p call most futures runs = tt

  may_call : (came n k : ℕ) (owner : Owner) (s : Solo F T X) (p : Plain T (SoloWaker X)) → Known by_number owner s p
      → FewKept p.due → length p.futures ≤ came → (c : Choice) (x : Wish T (SoloWaker X))
      → Allows by_number owner s p x.refusal x.name x.call → k ≡ queues_at_most came 0 x.call + gives_back x.call + n
      → HasLife (k + 3 * 512 * goers p.runs) s.lines → length p.futures + k ≤ most_accepted → length p.runs + k ≤ most_accepted
      → MayCall by_number owner s p x
  may_call came n k owner s p known kept before c x may is life futures runs = record {
    allowed = may;
    life = has_life came k owner s p known kept before c x.call (omega (arith, is)) life;
    number = has_number k owner s p x.call (let least = none_yet_came came x.call in omega (arith, is, least)) futures runs;
  }

  -- memory is refused as was wished, where nothing else refuses a call
  heeds_so : (owner : Owner) (s : Solo F T X) (p : Plain T (SoloWaker X)) → Known by_number owner s p → (x : Wish T (SoloWaker X))
      (it : Happens by_number owner s p x) → length p.lying ≤ it.choice.tells → Fits by_number it.choice p x.refusal x.call
      → it.choice.refusal ≡ x.refusal
  heeds_so owner s p known x it many fit =
      acts_heed by_number owner it.choice s p known many x.refusal x.call it.shown it.now it.after it.acts it.refused fit

  go : (came : ℕ) (future : F) (xs : List (Wish T (SoloWaker X))) (owner : Owner) (s : Solo F T X) (p : Plain T (SoloWaker X))
      → Known by_number owner s p → IsVacant (length p.futures) s.cells → WakersAreKnown by_number owner s p
      → FewKept p.due → length p.futures ≤ came → HasLife (queued_by came xs + 3 * 512 * goers p.runs) s.lines
      → length p.futures + queued_by came xs ≤ most_accepted
      → length p.runs + queued_by came xs ≤ most_accepted → MayGo by_number xs owner s p → Goes by_number xs owner s p
  go came future [] owner s p known vacant all kept before life futures runs may = record {
    calls = [];
    shown = [];
    now = owner;
    after = s;
    leads = stays owner s p;
    wished = tt;
    heeds = λ fits. tt;
  }
  go came future (x ∷ xs) owner s p known vacant all kept before life futures runs may =
      let now_came = came + comes x.call in
      let rest_of = queued_by (came + comes x.call) xs in
      let it = happens by_number future owner s p known (next_free owner s p known vacant) all x
      (may_call came rest_of (queued_by came (x ∷ xs)) owner s p known kept before (telling (suc (length p.lying))) x may.0 refl life
      futures runs) in
      let q = does wakes it.choice x.call p in
      let grows = call_grows it.choice x.call p in
      let many : length p.lying ≤ it.choice.tells = (let more = it.tells in omega (arith, more)) in
      let one : Leads by_number ((it.choice, x.call) ∷ []) owner s p (it.shown ++ []) it.now it.after =
      leads it.choice x.call [] owner it.now it.now s it.after it.after p it.shown [] many it.acts (stays it.now it.after q) in
      let known_on =
      (leads_alike by_number ((it.choice, x.call) ∷ []) owner it.now s it.after p (it.shown ++ []) known one).0 in
      let entries : length s.table.entries ≤ came = (let few = few_entries by_number s p known.stands in omega (arith, few, before)) in
      let one_future = counts_futures came x.call in
      let one_run = counts_runs x.call in
      let paid = pays came owner s p known kept it.choice x.call in
      let rest =
      go now_came future xs it.now it.after q known_on (acts_vacant owner it.choice s p it.now it.after x.call it.shown known many vacant
      it.acts)
      (still_known owner s p it.now it.after it.choice x may.0 all)
      (grows.kept kept) (let most = grows.most_futures in omega (arith, most, before))
      (acts_live by_number owner it.choice s p (rest_of + 3 * 512 * goers q.runs) (queued_by came (x ∷ xs) + 3 * 512 * goers p.runs) came
      (left_in by_number owner s p p.inside) entries (omega arith) life it.now it.after x.call it.shown it.acts (omega (arith, paid)))
      (let most = grows.most_futures in omega (arith, most, futures, one_future))
      (let most = grows.most_runs in omega (arith, most, runs, one_run))
      (may.1 it) in
      record {
        calls = (it.choice, x.call) ∷ rest.calls;
        shown = it.shown ++ rest.shown;
        now = rest.now;
        after = rest.after;
        leads =
            leads it.choice x.call rest.calls owner it.now rest.now s it.after rest.after p it.shown rest.shown many it.acts rest.leads;
        wished = (refl, it.refused, it.starts, it.named_so, rest.wished);
        heeds = λ fits.
            (refl, heeds_so owner s p known x it many (fits it).0, rest.heeds (fits it).1);
      }

  pub lists_happen : (future : F) (limit : ℕ) (kind : Kind) (is_static : Bool) (first : Solo F T X) (number : Who → ℕ)
      (xs : List (Wish T (SoloWaker X))) → IsNew limit kind first → counts kind ≡ not is_static
      → queued_by 0 xs ≤ most_accepted → MayGo by_number xs (new_owner number) first (new limit is_static)
      → Goes by_number xs (new_owner number) first (new limit is_static)
  lists_happen future limit kind is_static first number xs is counted most may =
      go 0 future xs (new_owner number) first (new limit is_static) (new_known by_number number limit kind is_static first is counted)
      (λ k above. ap (λ slots. slice_index_or slots k None) is.cells) tt none_kept (omega arith)
      (subst (HasLife (queued_by 0 xs + 0)) (sym is.lines) (none_yet limit (queued_by 0 xs + 0) (omega (arith, most))))
      (omega (arith, most))
      (omega (arith, most)) may
