-- In lists of calls of an executor of one owner no run goes while it is polled; so no other keeps a future where only one is begun.
use Rattle.std.proofs.Common.{◌≡◌, ℕ, ◌==◌, cond, not, Bool, true, false, List, [], ◌∷◌, ◌++◌, filter, Option, Some, None, is_some}
use Rattle.std.proofs.Common.{slice_get, refl, ap, ◌∙◌}
use Rattle.solo.specs.declared.names.Kind.{Kind}
use Rattle.solo.specs.declared.names.SoloWaker.{SoloWaker}
use Rattle.solo.specs.declared.owed.Lent.{Lent}
use Rattle.solo.specs.declared.solo.Solo.{Solo}
use Rattle.solo.specs.OwnQueues.{first_in, first_of, queue_of}
use Rattle.solo.specs.Solo.{IsNew, counts}
use Rattle.plain_scheduler.specs.State.{Choice, Close, Code, Drop, DropOwn, Event, Lose, Plain, Poll, PollOwn, Run, Running, Taker, Tick}
use Rattle.plain_scheduler.specs.State.{Try, Who}
use Rattle.plain_scheduler.specs.Lists.{any, or}
use Rattle.plain_scheduler.specs.Moves.{is_kept}
use Rattle.plain_scheduler.specs.Calls as calls
use Rattle.plain_scheduler.specs.Calls.{Call, course, does, new}
use Rattle.plain_laws.specs.Order.{IsOnlyBegun, all_go_idle, goes_idle, is_of_run, is_others, is_over, is_taker}
use Rattle.plain_laws.proofs.Words.{both_so, both_true, filter_none, none_as}
use Rattle.plain_laws.proofs.Lines.{kept_by_other}
use Rattle.plain_laws.proofs.Begun.{only_one}
use Rattle.solo_laws.specs.Busy.{busy_in, run_of}
use Rattle.solo_laws.specs.Courses.{Leads, leads, stays}
use Rattle.solo_laws.specs.Owner.{Owner, new_owner}
use Rattle.solo_laws.specs.Road.{apart, is_in, wakes}
use Rattle.solo_laws.specs.Tabled.{Stands, goes_on, own_of}
use Rattle.solo_laws.proofs.Following.Due.{neither}
use Rattle.solo_laws.proofs.Following.Polled.{Apart}
use Rattle.solo_laws.proofs.Showing.Courses.{Known, leads_alike, new_known}
use Rattle.two_roads.specs.InOrder.{IsOnlyBegunIn}

true_not : (b : Bool) → not b ≡ true → b ≡ false
true_not true is = absurd cc
true_not false is = refl

module _ {A : Type 0} where
  not_by : (k : ℕ) (by : Taker A) (ns : List ℕ) → is_in k (run_of by ++ ns) ≡ false → (is_taker k by ≡ false) × (is_in k ns ≡ false)
  not_by k Try ns none = (refl, none)
  not_by k (Tick t w) ns none = (refl, none)
  not_by k (Run j w) ns none = neither (k == j) (is_in k ns) none

module _ {T A : Type 0} where
  -- a run that is in no code
  no_code : (k : ℕ) (codes : List (Code T A)) → is_in k (busy_in codes) ≡ false → any (is_of_run k) codes ≡ false
  no_code k [] none = refl
  no_code k (Poll f by ∷ rest) none =
      let both = not_by k by (busy_in rest) none in
      ap (λ b. cond b true (any (is_of_run k) rest)) both.0 ∙ no_code k rest both.1
  no_code k (Drop f end by ∷ rest) none =
      let both = not_by k by (busy_in rest) none in
      ap (λ b. cond b true (any (is_of_run k) rest)) both.0 ∙ no_code k rest both.1
  no_code k (Lose awaiter None ∷ rest) none = no_code k rest none
  no_code k (Lose awaiter (Some by) ∷ rest) none =
      let both = not_by k by (busy_in rest) none in
      ap (λ b. cond b true (any (is_of_run k) rest)) both.0 ∙ no_code k rest both.1
  no_code k (PollOwn j w ∷ rest) none =
      let both = neither (k == j) (is_in k (busy_in rest)) none in
      ap (λ b. cond b true (any (is_of_run k) rest)) both.0 ∙ no_code k rest both.1
  no_code k (DropOwn j answer ∷ rest) none = no_code k rest (neither (k == j) (is_in k (busy_in rest)) none).1
  no_code k (Close fs all ∷ rest) none = no_code k rest none

  drop_idle : (codes : List (Code T A)) → Apart (busy_in codes) → goes_idle calls.Ends codes ≡ true
  drop_idle [] once = refl
  drop_idle (Poll f by ∷ rest) once = refl
  drop_idle (Drop f end by ∷ rest) once = refl
  drop_idle (Lose awaiter by ∷ rest) once = refl
  drop_idle (PollOwn j w ∷ rest) once = refl
  drop_idle (Close fs all ∷ rest) once = refl
  drop_idle (DropOwn k answer ∷ rest) once =
      ap not (no_code k rest (true_not (is_in k (busy_in rest)) (both_true (not (is_in k (busy_in rest))) (apart (busy_in rest)) once).0))

  call_idle : (call : Call T A) (codes : List (Code T A)) → Apart (busy_in codes) → goes_idle call codes ≡ true
  call_idle calls.Ends codes once = drop_idle codes once
  call_idle calls.TryTick codes once = refl
  call_idle _ codes once = refl

module _ {F T X : Type 0} (its : ℕ → Lent) where
  all_idle : (cs : List (Choice × Call T (SoloWaker X))) (before after : Owner) (s z : Solo F T X) (p : Plain T (SoloWaker X))
      (shown : List (Event T (SoloWaker X))) → Known its before s p → Leads its cs before s p shown after z
      → all_go_idle wakes cs p ≡ true
  all_idle cs before after s z p shown known (stays owner s' p') = refl
  all_idle cs before after s z p shown known (leads c call rest begun now later s' y z' p' some others many acts how) =
      let q = does wakes c call p' in
      let one =
      leads_alike its ((c, call) ∷ []) begun now s' y p' (some ++ []) known
      (leads c call [] begun now now s' y y p' some [] many acts (stays now y q)) in
      both_so (goes_idle call p'.inside) (all_go_idle wakes rest q) (call_idle call p'.inside known.once)
      (all_idle rest now later y z' q others one.0 how)

  begun_so : (s : Solo F T X) (p : Plain T (SoloWaker X)) → Stands its s p → (k : ℕ) → is_over k p ≡ false
      → is_some (queue_of k s.runs.queues) ≡ true
  begun_so s p so k not_over =
      ap (λ o. is_some o) (so.1.queues k)
      ∙ ap (λ b. is_some (own_of its b (filter (is_kept k) p.due))) (going (slice_get p.runs k) not_over)
    where
      flips : (b : Bool) → b ≡ false → not b ≡ true
      flips true is = absurd cc
      flips false is = refl

      going : (o : Option Running) → or o (λ run. run.is_over) true ≡ false → or o (λ run. not run.is_over) false ≡ true
      going None is = absurd cc
      going (Some run) is = flips run.is_over is

  no_task : (s : Solo F T X) (p : Plain T (SoloWaker X)) → Stands its s p → (k : ℕ) → filter (is_kept k) p.due ≡ []
      → first_of k s.runs ≡ None
  no_task s p so k none =
      ap first_in (so.1.queues k) ∙ (ap (λ ds. first_in (own_of its (goes_on k p) ds)) none ∙ by (goes_on k p))
    where
      by : (b : Bool) → first_in (own_of its b []) ≡ None
      by true = refl
      by false = refl

  pub only_begun : (limit : ℕ) (kind : Kind) (is_static : Bool) (cs : List (Choice × Call T (SoloWaker X))) (first middle : Solo F T X)
      (shown : List (Event T (SoloWaker X))) (number : Who → ℕ) (before : Owner) (r : ℕ) → IsNew limit kind first
      → counts kind ≡ not is_static → Leads its cs (new_owner number) first (new limit is_static) shown before middle
      → IsOnlyBegunIn r cs middle → (k : ℕ) → (r == k) ≡ false → first_of k middle.runs ≡ None
  only_begun limit kind is_static cs first middle shown number before r is_new counted led only k away =
      let p : Plain T (SoloWaker X) = course wakes cs (new limit is_static) in
      let new_one = new_known its number limit kind is_static first is_new counted in
      let known = leads_alike its cs (new_owner number) before first middle (new limit is_static) shown new_one led in
      let stands = known.0.stands in
      let begun : IsOnlyBegun wakes r cs (new limit is_static) =
      λ j polled not_over. only j polled (begun_so middle p stands j not_over) in
      let none =
      only_one wakes limit is_static cs r
      (all_idle cs (new_owner number) before first middle (new limit is_static) shown new_one led) begun in
      no_task middle p stands k
      (filter_none (is_kept k) (is_kept k) (λ d is. is) p.due
      (none_as (is_others r) (is_kept k) (kept_by_other r k (ap not away)) p.due none))
