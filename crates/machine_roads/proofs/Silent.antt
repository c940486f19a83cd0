-- Who is told is told of a future that is queued: where nothing is due as a run comes to its search, those lie that lay before the call.
use Rattle.std.proofs.Common.{◌≡◌, ℕ, ◌-◌, nat_lt, min, cond, Bool, true, false, not, List, [], ◌∷◌, ◌++◌, length, Option, Some, None}
use Rattle.std.proofs.Common.{is_some, slice_get, slice_set, if◌then◌else◌, refl, ap, subst, ◌∙◌}
use Rattle.task_moves.specs.AbstractTask as abstract
use Rattle.task_moves.specs.AbstractTask.{AbstractTask, Left}
use Rattle.task_moves.specs.LocalTask.{info_of, told}
use Rattle.plain_scheduler.specs.State.{Calls, Choice, Close, Code, Drop, DropOwn, Due, End, Future, Lose, Lying, Plain, Poll, PollOwn, Run}
use Rattle.plain_scheduler.specs.State.{Taker, Tick, Try}
use Rattle.plain_scheduler.specs.Lists.{any, on, or}
use Rattle.plain_scheduler.specs.Moves.{appended, changed, is_called, is_due, put, see, task}
use Rattle.plain_scheduler.specs.Moves as moves
use Rattle.plain_scheduler.specs.Takes as takes
use Rattle.plain_scheduler.specs.Calls as calls
use Rattle.plain_scheduler.specs.Searches.{Search, behind_drop, behind_loss, behind_out, behind_pending, finds, searches, searches_behind}
use Rattle.plain_scheduler.specs.Searches.{searches_inside, searches_of}
use Rattle.machine_roads.proofs.Lists.{clash}

one_more : (ds : List Due) (d : Due) → any is_due (ds ++ d ∷ []) ≡ true
one_more [] d = refl
one_more (x ∷ ds) d = refl

module _ {T A : Type 0} where
  abbrev some_due : Plain T A → Bool
  some_due p = any is_due p.due

  -- what is due stays so, and where nothing is nobody was told
  record Silent (p q : Plain T A) : Type 0 where
    stays : some_due p ≡ true → some_due q ≡ true
    still : some_due q ≡ false → q.lying ≡ p.lying

  silent_on : (p q s : Plain T A) → Silent p q → Silent q s → Silent p s
  silent_on p q s one two = record {
    stays = λ is. two.stays (one.stays is);
    still = λ none. two.still none ∙ one.still (before (some_due q) refl none);
  }
    where
      before : (b : Bool) → some_due q ≡ b → some_due s ≡ false → b ≡ false
      before true is none = absurd (clash none (two.stays is))
      before false is none = refl

  nothing : (p q : Plain T A) → q.due ≡ p.due → q.lying ≡ p.lying → Silent p q
  nothing p q due lying = record { stays = λ is. ap (λ ds. any is_due ds) due ∙ is; still = λ none. lying }

  changed_silent : (h : Future T A → Future T A) (f : ℕ) (p : Plain T A) → Silent p (changed h f p)
  changed_silent h f p = by (slice_get p.futures f)
    where
      by : (o : Option (Future T A)) → Silent p (on o (λ x p. record p { futures = slice_set p.futures f (h x) }) p)
      by None = nothing p p refl refl
      by (Some x) = nothing p (record p { futures = slice_set p.futures f (h x) }) refl refl

  put_silent : (f : ℕ) (new : AbstractTask T A) (p : Plain T A) → Silent p (put f new p)
  put_silent f new p = changed_silent (λ x. record x { task = told new }) f p

  module _ (wakes : A → Option ℕ) where
    -- what is due stays so, whatever is done once a task is queued
    abbrev Keeps : (Plain T A → Plain T A) → Type 0
    Keeps more = (p : Plain T A) → some_due p ≡ true → some_due (more p) ≡ true

    module _ (more : Plain T A → Plain T A) (keeps : Keeps more) where
      becomes_silent : (f : ℕ) (new : AbstractTask T A) (p : Plain T A) → Silent p (moves.becomes wakes more f new p)
      becomes_silent f new p = by (is_some (info_of (task f p) new))
        where
          z : Plain T A
          z = appended f (put f new p)

          queued : some_due (more z) ≡ true
          queued = keeps z (one_more (put f new p).due _)

          by : (b : Bool) → Silent p (if b then more z else put f new p)
          by true = record { stays = λ is. queued; still = λ none. absurd (clash none queued) }
          by false = put_silent f new p

      called_silent : (o : Option A) (p : Plain T A) → Silent p (on o (moves.called wakes more) p)
      called_silent None p = nothing p p refl refl
      called_silent (Some a) p = by (wakes a)
        where
          by : (o : Option ℕ) → Silent p (or o (λ f. moves.used wakes more f p) (see (Calls a) p))
          by None = nothing p (see (Calls a) p) refl refl
          by (Some f) = becomes_silent f (abstract.release (abstract.wake (task f p))) p

      goes_silent : (o : Option A) (p : Plain T A) → Silent p (on o (moves.let_go wakes more) p)
      goes_silent None p = nothing p p refl refl
      goes_silent (Some a) p = by (wakes a)
        where
          by : (o : Option ℕ) → Silent p (on o (moves.release wakes more) p)
          by None = nothing p p refl refl
          by (Some f) = becomes_silent f (abstract.release (task f p)) p

    tell_keeps : (c : Choice) → Keeps (moves.tell wakes c)
    tell_keeps c p some = by (any is_called p.lying)
      where
        at : ℕ
        at = min c.tells (length p.lying - 1)

        one : (o : Option (Lying A))
            → some_due (on o (λ l p. on l.waker (moves.called wakes (λ s. s)) (record p {
              lying = slice_set p.lying at (record l { waker = None });
            })) p)
            ≡ true
        one None = some
        one (Some l) =
            (called_silent (λ s. s) (λ p is. is) l.waker (record p { lying = slice_set p.lying at (record l { waker = None }) })).stays some

        by : (b : Bool) → some_due (if b then p else moves.told_at wakes at p) ≡ true
        by true = some
        by false = one (slice_get p.lying at)

    module _ (c : Choice) where
      abbrev tell : Plain T A → Plain T A
      tell p = moves.tell wakes c p

      given_up_silent : (f : ℕ) (p : Plain T A) → Silent p (takes.given_up wakes c f p)
      given_up_silent f p = by p.is_static
        where
          by : (b : Bool) → Silent p (if b then p else moves.release wakes tell f p)
          by true = nothing p p refl refl
          by false = becomes_silent tell (tell_keeps c) f (abstract.release (task f p)) p

      loss_silent : (awaiter : Option A) (p : Plain T A) → Silent p (behind_loss wakes c awaiter p)
      loss_silent awaiter p = called_silent tell (tell_keeps c) awaiter p

      of_next : (by : Taker A) (p q : Plain T A) (x : Search T A) → Silent p q → searches_of wakes c by q ≡ Some x → Silent p x.at
      of_next Try p q x silent is = absurd cc
      of_next (Tick t w) p q x silent is = absurd cc
      of_next (Run r w) p q x silent is = split (nat_lt (or (slice_get q.runs r) (λ run. run.taken) 0) 200) is
        where
          split : (b : Bool) → cond b (Some (record { run = r; waker = w; at = q })) None ≡ Some x → Silent p x.at
          split true is = subst (Silent p) (ap (λ (o : Option (Search T A)). or o (λ x. x.at) q) is) silent
          split false is = absurd cc

      of_task : (f : ℕ) (by : Taker A) (p : Plain T A) (x : Search T A)
          → searches_of wakes c by (moves.becomes wakes tell f (abstract.end_pending (task f p)).task p) ≡ Some x → Silent p x.at
      of_task f by p x is =
          let new = (abstract.end_pending (task f p)).task in
          of_next by p (moves.becomes wakes tell f new p) x (becomes_silent tell (tell_keeps c) f new p) is

      of_pending : (e : abstract.PendingEnd) (f : ℕ) (by : Taker A) (p : Plain T A) (x : Search T A)
          → searches_behind wakes c by (behind_pending wakes c e f p) ≡ Some x → Silent p x.at
      of_pending abstract.PendingEnd.Drops f by p x is = absurd cc
      of_pending abstract.PendingEnd.Forgets f by p x is = absurd cc
      of_pending abstract.PendingEnd.Queues f by p x is = of_task f by p x is
      of_pending abstract.PendingEnd.Rests f by p x is = of_task f by p x is

      of_out : (left : Left T A) (by : Taker A) (p q : Plain T A) (x : Search T A) → Silent p q
          → searches_behind wakes c by (behind_out wakes c left q) ≡ Some x → Silent p x.at
      of_out left by p q x silent is = split left.dropped is
        where
          gone : Plain T A
          gone = on left.let_go (moves.let_go wakes tell) q

          lost : Plain T A
          lost = behind_loss wakes c left.called gone

          split : (o : Option T) → searches_behind wakes c by (or o (λ v. None) (Some lost)) ≡ Some x → Silent p x.at
          split (Some v) is = absurd cc
          split None is =
              of_next by p lost x
              (silent_on p q lost silent
              (silent_on q gone lost (goes_silent tell (tell_keeps c) left.let_go q) (loss_silent left.called gone))) is

      of_drop : (f : ℕ) (end : End T) (by : Taker A) (p : Plain T A) (x : Search T A)
          → searches_behind wakes c by (behind_drop wakes c f end p) ≡ Some x → Silent p x.at
      of_drop f end by p x is =
          let z = changed (λ future. record future { is_dropped = true }) f p in
          let q = takes.given_up wakes c f z in
          let left = takes.left_by wakes c end (task f q) in
          of_out left by p (put f left.task q) x
          (silent_on p q (put f left.task q)
          (silent_on p z q (changed_silent (λ future. record future { is_dropped = true }) f p) (given_up_silent f z))
          (put_silent f left.task q)) is

      inside_silent : (codes : List (Code T A)) (p q : Plain T A) → Silent (record p { inside = codes }) q → Silent p q
      inside_silent codes p q silent = record { stays = λ is. silent.stays is; still = λ none. silent.still none }

      pends_in : (codes : List (Code T A)) (p : Plain T A) (x : Search T A) → searches_inside wakes c calls.Pends codes p ≡ Some x
          → Silent p x.at
      pends_in [] p x is = absurd cc
      pends_in (PollOwn r w ∷ rest) p x is =
          subst (Silent p) (ap (λ (o : Option (Search T A)). or o (λ x. x.at) (record p { inside = rest })) is)
          (nothing p (record p { inside = rest }) refl refl)
      pends_in (Poll f by ∷ rest) p x is =
          let p0 : Plain T A = record p { inside = rest } in
          inside_silent rest p x.at (of_pending (abstract.pending_end (task f p0)) f by p0 x is)
      pends_in (Drop f end by ∷ rest) p x is = absurd cc
      pends_in (Lose awaiter by ∷ rest) p x is = absurd cc
      pends_in (DropOwn r answer ∷ rest) p x is = absurd cc
      pends_in (Close fs all ∷ rest) p x is = absurd cc

      ends_in : (codes : List (Code T A)) (p : Plain T A) (x : Search T A) → searches_inside wakes c calls.Ends codes p ≡ Some x
          → Silent p x.at
      ends_in [] p x is = absurd cc
      ends_in (Drop f end by ∷ rest) p x is = inside_silent rest p x.at (of_drop f end by (record p { inside = rest }) x is)
      ends_in (Lose awaiter (Some by) ∷ rest) p x is =
          let p0 : Plain T A = record p { inside = rest } in
          inside_silent rest p x.at (of_next by p0 (behind_loss wakes c awaiter p0) x (loss_silent awaiter p0) is)
      ends_in (Lose awaiter None ∷ rest) p x is = absurd cc
      ends_in (PollOwn r w ∷ rest) p x is = absurd cc
      ends_in (Poll f by ∷ rest) p x is = absurd cc
      ends_in (DropOwn r answer ∷ rest) p x is = absurd cc
      ends_in (Close fs all ∷ rest) p x is = absurd cc

      to_search : (call : calls.Call T A) (p : Plain T A) (x : Search T A) → searches wakes c call p ≡ Some x → Silent p x.at
      to_search calls.Pends p x is = pends_in p.inside p x is
      to_search calls.Ends p x is = ends_in p.inside p x is
      to_search call p x is = absurd (none p.inside is)
        where
          none : (codes : List (Code T A)) → searches_inside wakes c call codes p ≡ Some x → ⊥
          none [] is = cc
          none (code ∷ rest) is = cc

      pub none_told : (call : calls.Call T A) (p : Plain T A) (x : Search T A) → searches wakes c call p ≡ Some x → finds x ≡ false
          → x.at.lying ≡ p.lying
      none_told call p x is none = (to_search call p x is).still none

-- a search that finds nothing
pub record InVain {T A : Type 0} (o : Option (Search T A)) : Type 0 where
  pub at : Search T A
  pub is : o ≡ Some at
  pub none : finds at ≡ false

pub vain_at : {T A : Type 0} → (o : Option (Search T A)) → or o (λ x. not (finds x)) false ≡ true → InVain o
vain_at None vain = absurd cc
vain_at (Some x) vain = by (finds x) refl vain
  where
    by : (b : Bool) → finds x ≡ b → not b ≡ true → InVain (Some x)
    by true is vain = absurd cc
    by false is vain = record { at = x; is = refl; none = is }
