-- What lasts over whatever the plain scheduler does behind a take and before the next.
use Rattle.std.proofs.lemmas.Bool.Decides.{nat_tests}
use Rattle.std.proofs.Common.{arith}
use Rattle.std.proofs.Common.{◌≡◌, ℕ, zero, suc, is_some, cond, Bool, true, false, List, [], ◌∷◌, ◌++◌, find}
use Rattle.std.proofs.Common.{Option, Some, None, slice_get, slice_set, refl, ap}
use Rattle.task_moves.specs.AbstractTask as abstract
use Rattle.task_moves.specs.AbstractTask.{AbstractTask}
use Rattle.task_moves.specs.LocalTask.{info_of, told}
use Rattle.plain_scheduler.specs.State.{Answer, Calls, Choice, Future, Lying, Pending}
use Rattle.plain_scheduler.specs.State.{Plain, Refusal, Running, Taker, Who}
use Rattle.plain_scheduler.specs.Lists.{each, on, or, repeat, without}
use Rattle.plain_scheduler.specs.Moves.{answers, appended, becomes, called, changed, copied, leaves, let_go, lies, no_task}
use Rattle.plain_scheduler.specs.Moves.{put, release, runs, see, task, tell, told_at, up, used, wake}
use Rattle.plain_scheduler.specs.Takes as takes
use Rattle.plain_scheduler.specs.Calls as calls
use Rattle.plain_laws.proofs.Words.{set_there}

pub is_some_so : {X : Type 0} (o : Option X) (x : X) → o ≡ Some x → is_some o ≡ true
is_some_so o x is = ap is_some is

module _ {T A : Type 0} where
  -- it lasts as long as futures, due ones, runs and the calls in progress are the same, and where a task changes, a future that is
  -- there is appended, one is accepted, or a run is made
  pub record Lasts (Good : Plain T A → Type 0) : Type 0 where
    pub alike : (p q : Plain T A) → p.futures ≡ q.futures → p.due ≡ q.due → p.runs ≡ q.runs → p.inside ≡ q.inside → Good p → Good q
    pub changes : (h : Future T A → Future T A) → ((x : Future T A) → (h x).mark ≡ x.mark) → (f : ℕ) (p : Plain T A) → Good p
        → Good (changed h f p)
    pub appends : (f : ℕ) (p : Plain T A) → is_some (slice_get p.futures f) ≡ true → Good p → Good (appended f p)
    pub accepts : (x : Future T A) (p : Plain T A) → Good p → Good (record p { futures = p.futures ++ x ∷ [] })
    pub makes : (x : Running) (p : Plain T A) → Good p → Good (record p { runs = p.runs ++ x ∷ [] })

  pub if_so : (Good : Plain T A → Type 0) (b : Bool) (x y : Plain T A) → Good x → Good y → Good (cond b x y)
  if_so Good b x y one two = grind (arith, nat_tests)

  -- an absent task is queued by nothing
  abbrev pub IsQuiet : (AbstractTask T A → AbstractTask T A) → Type 0
  IsQuiet op = is_some (info_of (no_task {T = T} {A = A}) (op no_task)) ≡ false

  module _ (Good : Plain T A → Type 0) where
    abbrev pub Keeps : (Plain T A → Plain T A) → Type 0
    Keeps f = (p : Plain T A) → Good p → Good (f p)

    pub on_good : {X : Type 0} (o : Option X) (f : X → Plain T A → Plain T A) → ((x : X) → Keeps (f x)) → Keeps (on o f)
    on_good o f keeps = grind (arith, nat_tests)

    pub or_good : {X : Type 0} (o : Option X) (y : Plain T A) (f : X → Plain T A) → Good y → ((x : X) → Good (f x)) → Good (or o f y)
    or_good o y f one two = grind (arith, nat_tests)

    pub each_good : {X : Type 0} (xs : List X) (f : X → Plain T A → Plain T A) → ((x : X) → Keeps (f x)) → Keeps (each xs f)
    each_good [] f keeps p good = good
    each_good (x ∷ xs) f keeps p good = each_good xs f keeps (f x p) (keeps x p good)

    pub repeat_good : (n : ℕ) (f : Plain T A → Plain T A) → Keeps f → Keeps (repeat n f)
    repeat_good zero f keeps p good = good
    repeat_good (suc n) f keeps p good = repeat_good n f keeps (f p) (keeps p good)

  module _ (Good : Plain T A → Type 0) (lasts : Lasts Good) (wakes : A → Option ℕ) where
    pub put_good : (f : ℕ) (new : AbstractTask T A) → Keeps Good (put f new)
    put_good f new = grind (arith, nat_tests)

    -- one that becomes queued is there
    is_there : (op : AbstractTask T A → AbstractTask T A) → IsQuiet op → (f : ℕ) (new : AbstractTask T A) (p : Plain T A)
        → is_some (info_of (task f p) (op (task f p))) ≡ true → is_some (slice_get (put f new p).futures f) ≡ true
    is_there op quiet f new p is = by (slice_get p.futures f) refl is
      where
        by : (o : Option (Future T A)) → slice_get p.futures f ≡ o
            → is_some (info_of (or o (λ x. x.task) no_task) (op (or o (λ x. x.task) no_task))) ≡ true
            → is_some
            (slice_get (on o (λ x p. record p { futures = slice_set p.futures f (record x { task = told new }) }) p).futures f) ≡ true
        by o so is = grind (arith, nat_tests, set_there)

    module _ (more : Plain T A → Plain T A) (keep : Keeps Good more) where
      pub becomes_good : (op : AbstractTask T A → AbstractTask T A) → IsQuiet op → (f : ℕ) (p : Plain T A) → Good p
          → Good (becomes wakes more f (op (task f p)) p)
      becomes_good op quiet f p good = by (is_some (info_of (task f p) (op (task f p)))) refl
        where
          by : (b : Bool) → is_some (info_of (task f p) (op (task f p))) ≡ b
              → Good (cond b (more (appended f (put f (op (task f p)) p))) (put f (op (task f p)) p))
          by b is = grind (arith, nat_tests, is_there, put_good)

      pub wake_good : (f : ℕ) → Keeps Good (wake wakes more f)
      wake_good f p good = becomes_good abstract.wake refl f p good

      pub release_good : (f : ℕ) → Keeps Good (release wakes more f)
      release_good f p good = becomes_good abstract.release refl f p good

      pub used_good : (f : ℕ) → Keeps Good (used wakes more f)
      used_good f p good = becomes_good (λ t. abstract.release (abstract.wake t)) refl f p good

      called_good : (w : A) → Keeps Good (called wakes more w)
      called_good w = grind (arith, nat_tests, or_good, used_good)

      let_go_good : (w : A) → Keeps Good (let_go wakes more w)
      let_go_good w = grind (arith, nat_tests, on_good, release_good)

    pub copied_good : (w : A) → Keeps Good (copied wakes w)
    copied_good w = grind (arith, nat_tests)

    module _ (c : Choice) where
      abbrev pub tells : Plain T A → Plain T A
      tells p = tell wakes c p

      told_good : (i : ℕ) → Keeps Good (told_at wakes i)
      told_good i p good =
          on_good Good (slice_get p.lying i)
          (λ l p. on l.waker (called wakes (λ s. s)) (record p { lying = slice_set p.lying i (record l { waker = None }) }))
          (λ l p good.
          let p1 : Plain T A = record p { lying = slice_set p.lying i (record l { waker = None }) } in
          on_good Good l.waker (called wakes (λ s. s)) (called_good (λ s. s) (λ p good. good)) p1
          (lasts.alike p p1 refl refl refl refl good))
          p good

      pub tell_good : Keeps Good tells
      tell_good = grind (arith, nat_tests, if_so, told_good)

      pub goes_good : (o : Option A) → Keeps Good (λ p. on o (let_go wakes tells) p)
      goes_good o = grind (arith, nat_tests, on_good, let_go_good, tell_good)

      pub calls_good : (o : Option A) → Keeps Good (λ p. on o (called wakes tells) p)
      calls_good o = grind (arith, nat_tests, on_good, called_good, tell_good)

      pub up_good : (who : Who) → Keeps Good (up wakes c who)
      up_good who p good =
          on_good Good (find (lies who) p.lying)
          (λ l p. on l.waker (let_go wakes tells) (record p { lying = without (lies who) p.lying }))
          (λ l p good.
          let p1 : Plain T A = record p { lying = without (lies who) p.lying } in
          goes_good l.waker p1 (lasts.alike p p1 refl refl refl refl good))
          p good

      pub leaves_good : (who : Who) → Keeps Good (leaves wakes c who)
      leaves_good who = grind (arith, nat_tests, on_good, up_good, if_so, tell_good)

      -- it lies
      lies_good : (who : Who) (w : A) → Keeps Good (takes.lies_down wakes c who w)
      lies_good who w p good = by (find (lies who) p.lying)
        where
          q : Plain T A
          q = copied wakes w p

          anew : Good (takes.lain wakes c who w q)
          anew = grind (arith, nat_tests)

          waking : (o : Option A) → Good (or o (λ old. takes.lain_again wakes c who w old q) (takes.lain wakes c who w q))
          waking o = grind (arith, nat_tests, anew, q, let_go_good, tell_good, copied_good)

          by : (o : Option (Lying A))
              → Good
              (or o (λ l. or l.waker (λ old. takes.lain_again wakes c who w old q) (takes.lain wakes c who w q))
              (takes.lain wakes c who w q))
          by None = anew
          by (Some l) = waking l.waker

      pub says : (a : Answer T) → Keeps Good (answers a)
      says a = grind (arith, nat_tests)

      rests_good : (r : Refusal) (who : Who) (w : A) → Keeps Good (takes.rests wakes c r who w)
      rests_good r who w = grind (arith, nat_tests, says, lies_good)

      pub nothing_good : (by : Taker A) → Keeps Good (takes.nothing wakes c by)
      nothing_good by = grind (arith, nat_tests, says, rests_good)

      pub given_up_good : (f : ℕ) → Keeps Good (takes.given_up wakes c f)
      given_up_good f p good = if_so Good p.is_static p (release wakes tells f p) good (release_good tells tell_good f p good)

      pub gives_way_good : (k : ℕ) (w : A) (p : Plain T A) → Good (runs (λ run. record run { taken = 0 }) k p)
          → Good (takes.gives_way wakes c k w p)
      gives_way_good k w p good =
          let q = runs (λ run. record run { taken = 0 }) k p in
          says Pending (or (wakes w) (λ f. wake wakes tells f q) (see (Calls w) q))
          (or_good Good (wakes w) (see (Calls w) q) (λ f. wake wakes tells f q) (lasts.alike q (see (Calls w) q) refl refl refl refl good)
          (λ f. wake_good tells tell_good f q good))

      pub freed_good : (f : ℕ) → Keeps Good (calls.freed wakes c f)
      freed_good f p good = release_good tells tell_good f (wake wakes tells f p) (wake_good tells tell_good f p good)

      pub closed_good : (f : ℕ) → Keeps Good (calls.closed wakes c f)
      closed_good f = grind (arith, nat_tests, calls_good, put_good)
