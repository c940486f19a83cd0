-- Where each future is spawned plain, each that is due is plain.
use Rattle.std.proofs.Common.{◌≡◌, ℕ, zero, suc, ◌+◌, ◌-◌, ◌==◌, ◌&&◌, not, is_some, nat_lt, min, count_by, cond, Bool, true, false}
use Rattle.std.proofs.Common.{List, [], ◌∷◌, ◌++◌, length, map, find, subst, Option, Some, None, slice_get, slice_set, refl, ap, ◌∙◌}
use Rattle.executor_parts.specs.declared.mark.Mark.{Mark}
use Rattle.executor_parts.specs.declared.mark.Mark.TheVariants.{Plain as PlainMark, Urgent}
use Rattle.executor_parts.specs.Marks.{same_mark}
use Rattle.task_moves.specs.AbstractTask as abstract
use Rattle.task_moves.specs.AbstractTask.{AbstractTask, Left}
use Rattle.task_moves.specs.LocalTask.{info_of, told}
use Rattle.plain_scheduler.specs.State.{Answer, ARun, ATick, AtOnce, Calls, Choice, Closed, Done}
use Rattle.plain_scheduler.specs.State.{Due, End, Future, Granted, Later, Lose, Loses, Lying}
use Rattle.plain_scheduler.specs.State.{No, NoMemory, Pending, Plain, Poll, Polls, Ready, Refusal, Run, Running, Taker, Tick}
use Rattle.plain_scheduler.specs.State.{Try, Who, Yes}
use Rattle.plain_scheduler.specs.Lists.{any, each, on, or, repeat, without}
use Rattle.plain_scheduler.specs.Moves.{answers, appended, becomes, called, changed, chosen, copied, enters, given_back, is_common, is_kept}
use Rattle.plain_scheduler.specs.Moves.{is_called, keeps, leaves, let_go, lies, looks, mark, moved, put, release, runs, see, task, tell}
use Rattle.plain_scheduler.specs.Moves.{told_at}
use Rattle.plain_scheduler.specs.Moves.{up, used, wake}
use Rattle.plain_scheduler.specs.Takes as takes

pub both_true : (a b : Bool) → (a && b) ≡ true → (a ≡ true) × (b ≡ true)
both_true true b is = (refl, is)
both_true false b is = absurd cc

module _ {X : Type 0} (its : X → Mark) where
  abbrev pub AllPlain : List X → Type 0
  AllPlain [] = Unit {0}
  AllPlain (x ∷ xs) = (its x ≡ PlainMark) × AllPlain xs

  plain_both : (xs ys : List X) → AllPlain xs → AllPlain ys → AllPlain (xs ++ ys)
  plain_both [] ys one two = two
  plain_both (x ∷ xs) ys one two = (one.0, plain_both xs ys one.1 two)

  pub plain_last : (xs : List X) (x : X) → AllPlain xs → its x ≡ PlainMark → AllPlain (xs ++ x ∷ [])
  plain_last xs x all is = plain_both xs (x ∷ []) all (is, tt)

  plain_without : (test : X → Bool) (xs : List X) → AllPlain xs → AllPlain (without test xs)
  plain_without test [] all = tt
  plain_without test (x ∷ xs) all = by (test x) (plain_without test xs all.1)
    where
      by : (b : Bool) → AllPlain (without test xs) → AllPlain (cond b xs (x ∷ without test xs))
      by true rest = all.1
      by false rest = (all.0, rest)

  plain_set : (xs : List X) (i : ℕ) (x : X) → AllPlain xs → its x ≡ PlainMark → AllPlain (slice_set xs i x)
  plain_set [] i x all is = tt
  plain_set (y ∷ ys) zero x all is = (is, all.1)
  plain_set (y ∷ ys) (suc i) x all is = (all.0, plain_set ys i x all.1 is)

  abbrev plain_if : Option X → Type 0
  plain_if None = Unit {0}
  plain_if (Some x) = its x ≡ PlainMark

  plain_at : (xs : List X) (i : ℕ) → AllPlain xs → plain_if (slice_get xs i)
  plain_at [] i all = tt
  plain_at (x ∷ xs) zero all = all.0
  plain_at (x ∷ xs) (suc i) all = plain_at xs i all.1

  plain_found : (test : X → Bool) (xs : List X) → AllPlain xs → plain_if (find test xs)
  plain_found test [] all = tt
  plain_found test (x ∷ xs) all = by (test x) (plain_found test xs all.1)
    where
      by : (b : Bool) → plain_if (find test xs) → plain_if (cond b (Some x) (find test xs))
      by true rest = all.0
      by false rest = rest

pub none_urgent : (due : List Due) → AllPlain (λ (d : Due). d.mark) due → any (is_common Urgent) due ≡ false
none_urgent [] all = refl
none_urgent (d ∷ ds) all =
    ap (λ b. cond (not (is_some d.keeper) && same_mark Urgent b) true (any (is_common Urgent) ds)) all.0
    ∙ by (not (is_some d.keeper)) (none_urgent ds all.1)
  where
    by : (b : Bool) → any (is_common Urgent) ds ≡ false → cond (b && false) true (any (is_common Urgent) ds) ≡ false
    by true none = none
    by false none = none

module _ {T A : Type 0} where
  -- each accepted future is plain, and so is each that is due
  pub record IsPlain (p : Plain T A) : Type 0 where
    pub futures : AllPlain (λ (x : Future T A). x.mark) p.futures
    pub due : AllPlain (λ (d : Due). d.mark) p.due

  abbrev Keeps : (Plain T A → Plain T A) → Type 0
  Keeps f = (p : Plain T A) → IsPlain p → IsPlain (f p)

  pub if_plain : (b : Bool) (x y : Plain T A) → IsPlain x → IsPlain y → IsPlain (cond b x y)
  if_plain true x y one two = one
  if_plain false x y one two = two

  on_plain : {X : Type 0} (o : Option X) (f : X → Plain T A → Plain T A) → ((x : X) → Keeps (f x)) → Keeps (on o f)
  on_plain None f keeps p plain = plain
  on_plain (Some x) f keeps p plain = keeps x p plain

  or_plain : {X : Type 0} (o : Option X) (y : Plain T A) (f : X → Plain T A) → IsPlain y → ((x : X) → IsPlain (f x)) → IsPlain (or o f y)
  or_plain None y f one two = one
  or_plain (Some x) y f one two = two x

  pub each_plain : {X : Type 0} (xs : List X) (f : X → Plain T A → Plain T A) → ((x : X) → Keeps (f x)) → Keeps (each xs f)
  each_plain [] f keeps p plain = plain
  each_plain (x ∷ xs) f keeps p plain = each_plain xs f keeps (f x p) (keeps x p plain)

  pub repeat_plain : (n : ℕ) (f : Plain T A → Plain T A) → Keeps f → Keeps (repeat n f)
  repeat_plain zero f keeps p plain = plain
  repeat_plain (suc n) f keeps p plain = repeat_plain n f keeps (f p) (keeps p plain)

  mark_plain : (f : ℕ) (p : Plain T A) → IsPlain p → mark f p ≡ PlainMark
  mark_plain f p plain = by (slice_get p.futures f) (plain_at (λ (x : Future T A). x.mark) p.futures f plain.futures)
    where
      by : (o : Option (Future T A)) → plain_if (λ (x : Future T A). x.mark) o → or o (λ x. x.mark) PlainMark ≡ PlainMark
      by None is = refl
      by (Some x) is = is

  pub changed_plain : (h : Future T A → Future T A) → ((x : Future T A) → (h x).mark ≡ x.mark) → (f : ℕ) → Keeps (changed h f)
  changed_plain h same f p plain = by (slice_get p.futures f) (plain_at (λ (x : Future T A). x.mark) p.futures f plain.futures)
    where
      by : (o : Option (Future T A)) → plain_if (λ (x : Future T A). x.mark) o
          → IsPlain (on o (λ x p. record p { futures = slice_set p.futures f (h x) }) p)
      by None is = plain
      by (Some x) is = record {
        futures = plain_set (λ (x : Future T A). x.mark) p.futures f (h x) plain.futures (same x ∙ is);
        due = plain.due;
      }

  pub put_plain : (f : ℕ) (new : AbstractTask T A) → Keeps (put f new)
  put_plain f new p plain = changed_plain (λ x. record x { task = told new }) (λ x. refl) f p plain

  pub runs_plain : (h : Running → Running) (r : ℕ) → Keeps (runs h r)
  runs_plain h r p plain =
      on_plain (slice_get p.runs r) (λ run p. record p { runs = slice_set p.runs r (h run) })
      (λ run p plain. record { futures = plain.futures; due = plain.due }) p plain

  pub due_plain : (p : Plain T A) → IsPlain p → (due : List Due) → AllPlain (λ (d : Due). d.mark) due → IsPlain (record p { due = due })
  due_plain p plain due all = record { futures = plain.futures; due = all }

  pub appended_plain : (f : ℕ) → Keeps (appended f)
  appended_plain f p plain =
      due_plain p plain (p.due ++ record { future = f; mark = mark f p; keeper = None } ∷ [])
      (plain_last (λ (d : Due). d.mark) p.due (record { future = f; mark = mark f p; keeper = None }) plain.due (mark_plain f p plain))

  pub given_back_plain : (r : ℕ) → Keeps (given_back r)
  given_back_plain r p plain =
      on_plain (find (is_kept r) p.due) (λ d p. appended d.future (record p { due = without (is_kept r) p.due }))
      (λ d p plain.
      appended_plain d.future (record p { due = without (is_kept r) p.due })
      (due_plain p plain (without (is_kept r) p.due) (plain_without (λ (d : Due). d.mark) (is_kept r) p.due plain.due)))
      p plain

  moved_plain : (r : ℕ) (test : Due → Bool) → Keeps (moved r test)
  moved_plain r test p plain = by (find test p.due) (plain_found (λ (d : Due). d.mark) test p.due plain.due)
    where
      by : (o : Option Due) → plain_if (λ (d : Due). d.mark) o
          → IsPlain (on o (λ d p. record p { due = without test p.due ++ record d { keeper = Some r } ∷ [] }) p)
      by None is = plain
      by (Some d) is =
          due_plain p plain (without test p.due ++ record d { keeper = Some r } ∷ [])
          (plain_last (λ (d : Due). d.mark) (without test p.due) (record d { keeper = Some r })
          (plain_without (λ (d : Due). d.mark) test p.due plain.due) is)

  keeps_plain : (r : ℕ) (test : Due → Bool) → Keeps (keeps r test)
  keeps_plain r test p plain =
      if_plain (nat_lt (count_by (is_kept r) p.due) 512) (moved r test p) p
      (moved_plain r test p plain) plain

  pub same_plain : (p q : Plain T A) → p.futures ≡ q.futures → p.due ≡ q.due → IsPlain p → IsPlain q
  same_plain p q futures due plain = record {
    futures = subst (AllPlain (λ (x : Future T A). x.mark)) futures plain.futures;
    due = subst (AllPlain (λ (d : Due). d.mark)) due plain.due;
  }

  module _ (wakes : A → Option ℕ) where
    module _ (more : Plain T A → Plain T A) (keep : Keeps more) where
      pub becomes_plain : (f : ℕ) (new : AbstractTask T A) → Keeps (becomes wakes more f new)
      becomes_plain f new p plain =
          let z = put_plain f new p plain in
          if_plain (is_some (info_of (task f p) new)) (more (appended f (put f new p))) (put f new p)
          (keep (appended f (put f new p)) (appended_plain f (put f new p) z)) z

      called_plain : (w : A) → Keeps (called wakes more w)
      called_plain w p plain =
          or_plain (wakes w) (see (Calls w) p) (λ f. used wakes more f p)
          (same_plain p (see (Calls w) p) refl refl plain)
          (λ f. becomes_plain f (abstract.release (abstract.wake (task f p))) p plain)

      let_go_plain : (w : A) → Keeps (let_go wakes more w)
      let_go_plain w p plain =
          on_plain (wakes w) (release wakes more) (λ f p plain. becomes_plain f (abstract.release (task f p)) p plain) p plain

    pub copied_plain : (w : A) → Keeps (copied wakes w)
    copied_plain w p plain =
        on_plain (wakes w) (λ f p. put f (abstract.copy (task f p)) p) (λ f p plain. put_plain f (abstract.copy (task f p)) p plain) p plain

    module _ (c : Choice) where
      abbrev pub tells : Plain T A → Plain T A
      tells p = tell wakes c p

      told_plain : (at : ℕ) → Keeps (told_at wakes at)
      told_plain at p plain =
          on_plain (slice_get p.lying at)
          (λ l p. on l.waker (called wakes (λ s. s)) (record p { lying = slice_set p.lying at (record l { waker = None }) }))
          (λ l p plain.
          let p1 : Plain T A = record p { lying = slice_set p.lying at (record l { waker = None }) } in
          on_plain l.waker (called wakes (λ s. s)) (called_plain (λ s. s) (λ p plain. plain)) p1 (same_plain p p1 refl refl plain))
          p plain

      pub tell_plain : Keeps tells
      tell_plain p plain =
          let at = min c.tells (length p.lying - 1) in
          if_plain (any is_called p.lying) p (told_at wakes at p) plain (told_plain at p plain)

      pub goes_plain : (o : Option A) → Keeps (λ p. on o (let_go wakes tells) p)
      goes_plain o p plain = on_plain o (let_go wakes tells) (let_go_plain tells tell_plain) p plain

      pub calls_plain : (o : Option A) → Keeps (λ p. on o (called wakes tells) p)
      calls_plain o p plain = on_plain o (called wakes tells) (called_plain tells tell_plain) p plain

      up_plain : (who : Who) → Keeps (up wakes c who)
      up_plain who p plain =
          on_plain (find (lies who) p.lying)
          (λ l p. on l.waker (let_go wakes tells) (record p { lying = without (lies who) p.lying }))
          (λ l p plain.
          let p1 : Plain T A = record p { lying = without (lies who) p.lying } in
          goes_plain l.waker p1 (same_plain p p1 refl refl plain))
          p plain

      pub leaves_plain : (who : Who) → Keeps (leaves wakes c who)
      leaves_plain who p plain =
          on_plain (find (lies who) p.lying) (λ l p. cond (is_called l) (tells (up wakes c who p)) (up wakes c who p))
          (λ l p plain.
          let z = up_plain who p plain in
          if_plain (is_called l) (tells (up wakes c who p)) (up wakes c who p) (tell_plain (up wakes c who p) z) z)
          p plain

      -- takes
      run_plain : (f : ℕ) (by : Taker A) → Keeps (takes.run wakes c f by)
      run_plain f by p plain =
          let q : Plain T A = put f (abstract.begin_run (task f p)) p in
          if_plain (task f p).closed (takes.dropping wakes c f Closed by p)
          (enters (Poll f by) (see (Polls f) q))
          (same_plain p (takes.dropping wakes c f Closed by p) refl refl plain)
          (same_plain q (enters (Poll f by) (see (Polls f) q)) refl refl
          (put_plain f (abstract.begin_run (task f p)) p plain))

      takes_plain : (by : Taker A) (d : Due) → Keeps (takes.takes wakes c by d)
      takes_plain Try d p plain = run_plain d.future Try (tells p) (tell_plain p plain)
      takes_plain (Tick t w) d p plain =
          run_plain d.future (Tick t w) (tells (up wakes c (ATick t) p)) (tell_plain (up wakes c (ATick t) p) (up_plain (ATick t) p plain))
      takes_plain (Run r w) d p plain =
          let p1 = takes.robbed wakes c r d.keeper p in
          let p2 = up wakes c (ARun r) p1 in
          let p3 = tells p2 in
          let p4 = takes.kept wakes c r p3 in
          run_plain d.future (Run r w) (takes.counted wakes c r p4)
          (runs_plain (λ run. record run { taken = run.taken + 1 }) r p4
          (each_plain c.keeps (λ mark. keeps r (is_common mark)) (λ mark. keeps_plain r (is_common mark)) p3
          (tell_plain p2 (up_plain (ARun r) p1
          (on_plain d.keeper (λ k p. cond (r == k) p (repeat c.moves (keeps r (is_kept k)) p))
          (λ k p plain.
          if_plain (r == k) p (repeat c.moves (keeps r (is_kept k)) p) plain
          (repeat_plain c.moves (keeps r (is_kept k)) (keeps_plain r (is_kept k)) p plain))
          p plain)))))

      -- it lies
      lies_plain : (who : Who) (w : A) → Keeps (takes.lies_down wakes c who w)
      lies_plain who w p plain = by (find (lies who) p.lying)
        where
          q : Plain T A
          q = copied wakes w p

          anew : IsPlain (takes.lain wakes c who w q)
          anew = same_plain q (takes.lain wakes c who w q) refl refl (copied_plain w p plain)

          waking : (o : Option A) → IsPlain (or o (λ old. takes.lain_again wakes c who w old q) (takes.lain wakes c who w q))
          waking None = anew
          waking (Some old) =
              let q1 : Plain T A = record q { lying = map (λ l. cond (lies who l) (record l { waker = Some w }) l) q.lying } in
              let_go_plain tells tell_plain old q1 (same_plain q q1 refl refl (copied_plain w p plain))

          by : (o : Option (Lying A))
              → IsPlain
              (or o (λ l. or l.waker (λ old. takes.lain_again wakes c who w old q) (takes.lain wakes c who w q))
              (takes.lain wakes c who w q))
          by None = anew
          by (Some l) = waking l.waker

      pub says : (a : Answer T) → Keeps (answers a)
      says a p plain = same_plain p (answers a p) refl refl plain

      rests_plain : (r : Refusal) (who : Who) (w : A) → Keeps (takes.rests wakes c r who w)
      rests_plain Granted who w p plain = says Pending (takes.lies_down wakes c who w p) (lies_plain who w p plain)
      rests_plain AtOnce who w p plain = says NoMemory p plain
      rests_plain Later who w p plain = says NoMemory (takes.lies_down wakes c who w p) (lies_plain who w p plain)

      nothing_plain : (by : Taker A) → Keeps (takes.nothing wakes c by)
      nothing_plain Try p plain = says No p plain
      nothing_plain (Tick t w) p plain = rests_plain c.refusal (ATick t) w p plain
      nothing_plain (Run r w) p plain = rests_plain c.refusal (ARun r) w p plain

      pub take_plain : (by : Taker A) → Keeps (takes.take wakes c by)
      take_plain by p plain =
          let test = chosen (looks c by) p.due in
          let p1 : Plain T A = record p { due = without test p.due } in
          or_plain (find test p.due) (takes.nothing wakes c by p) (λ d. takes.takes wakes c by d p1) (nothing_plain by p plain)
          (λ d. takes_plain by d p1 (due_plain p plain (without test p.due) (plain_without (λ (d : Due). d.mark) test p.due plain.due)))

      -- what goes on behind a future
      gives_way_plain : (r : ℕ) (w : A) → Keeps (takes.gives_way wakes c r w)
      gives_way_plain r w p plain =
          let q = runs (λ run. record run { taken = 0 }) r p in
          let z = runs_plain (λ run. record run { taken = 0 }) r p plain in
          says Pending (or (wakes w) (λ f. wake wakes tells f q) (see (Calls w) q))
          (or_plain (wakes w) (see (Calls w) q) (λ f. wake wakes tells f q) (same_plain q (see (Calls w) q) refl refl z)
          (λ f. becomes_plain tells tell_plain f (abstract.wake (task f q)) q z))

      pub next_plain : (by : Taker A) → Keeps (takes.next wakes c by)
      next_plain Try p plain = says Yes p plain
      next_plain (Tick t w) p plain = says Ready p plain
      next_plain (Run r w) p plain =
          if_plain (nat_lt (or (slice_get p.runs r) (λ run. run.taken) 0) 200) (takes.take wakes c (Run r w) p)
          (takes.gives_way wakes c r w p) (take_plain (Run r w) p plain) (gives_way_plain r w p plain)

      pub lost_plain : (awaiter : Option A) (by : Option (Taker A)) → Keeps (takes.lost wakes c awaiter by)
      lost_plain awaiter by p plain =
          let q = on awaiter (called wakes tells) p in
          let z = calls_plain awaiter p plain in
          or_plain by (answers Done q) (λ taker. takes.next wakes c taker q) (says Done q z) (λ taker. next_plain taker q z)

      out_plain : (l : Left T A) (by : Option (Taker A)) → Keeps (takes.out wakes c l by)
      out_plain l by p plain =
          let q = on l.let_go (let_go wakes tells) p in
          or_plain l.dropped (takes.lost wakes c l.called by q) (λ v. enters (Lose l.called by) (see (Loses v) p))
          (lost_plain l.called by q (goes_plain l.let_go p plain))
          (λ v. same_plain p (enters (Lose l.called by) (see (Loses v) p)) refl refl plain)

      pub ended_plain : (f : ℕ) (l : Left T A) (by : Option (Taker A)) → Keeps (takes.ended wakes c f l by)
      ended_plain f l by p plain = out_plain l by (put f l.task p) (put_plain f l.task p plain)

      pub dropped_plain : (f : ℕ) (end : End T) (by : Taker A) → Keeps (takes.dropped wakes c f end by)
      dropped_plain f end by p plain =
          let p1 = changed (λ future. record future { is_dropped = true }) f p in
          let z1 = changed_plain (λ future. record future { is_dropped = true }) (λ x. refl) f p plain in
          let q = takes.given_up wakes c f p1 in
          ended_plain f (takes.left_by wakes c end (task f q)) (Some by) q
          (if_plain p1.is_static p1 (release wakes tells f p1) z1
          (becomes_plain tells tell_plain f (abstract.release (task f p1)) p1 z1))
