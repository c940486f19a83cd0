-- What calls of wakers and of other handles do on the plain scheduler is the same whether somebody awaits a closed task whose future is
-- dropped or not.
use Rattle.std.proofs.Common.{◌≡◌, ℕ, ◌-◌, ◌==◌, ◌&&◌, ◌||◌, not, cond, Bool, true, false, List, [], ◌∷◌, ◌++◌, length, Option, Some, None}
use Rattle.std.proofs.Common.{is_some, slice_get, slice_set, if◌then◌else◌, refl, sym, ap, subst, ◌∙◌, min}
use Rattle.executor_parts.specs.declared.mark.Mark.TheVariants.{Plain as PlainMark}
use Rattle.task_moves.specs.AbstractTask as abstract
use Rattle.task_moves.specs.AbstractTask.{AbstractTask, Finished}
use Rattle.task_moves.specs.LocalTask.{info_from, info_of, told}
use Rattle.executor_model.specs.declared.op.Waker.{Waker}
use Rattle.plain_scheduler.specs.State.{Calls, Choice, Done as DoneAnswer, Future, Lose, Loses, Lying, Plain}
use Rattle.plain_scheduler.specs.Lists.{any, on, or}
use Rattle.plain_scheduler.specs.Moves.{answers, appended, becomes, called, enters, is_called, mark, no_task, put, release, see, task}
use Rattle.plain_scheduler.specs.Moves.{tell, told_at, used, wake}
use Rattle.plain_scheduler.specs.Takes as plain_takes
use Rattle.plain_scheduler.specs.Calls as plain
use Rattle.machine_roads.specs.View.{Output, wakes}
use Rattle.machine_roads.proofs.Puts.{mark_is, put_at, put_is, task_is, with_task}
use Rattle.machine_roads.proofs.Lists.{apart_of, same_of, set_apart, set_other, set_same, set_twice, turned}
use Rattle.machine_roads.proofs.Lying.{called_one}

abbrev pub hidden : AbstractTask Output Waker → AbstractTask Output Waker
hidden t = record t { awaiter = None }

past_end : {A : Type 0} (xs : List A) → slice_get xs (length xs) ≡ None
past_end [] = refl
past_end (x ∷ xs) = past_end xs

module _ (f : ℕ) (awaiter : Option Waker) where
  abbrev pub bare : Future Output Waker → Plain Output Waker → Plain Output Waker
  bare x q = record q { futures = slice_set q.futures f (with_task (hidden x.task) x) }

  -- there it is awaited by nobody
  pub record Bare (there here : Plain Output Waker) : Type 0 where
    pub future : Future Output Waker
    pub at : slice_get here.futures f ≡ Some future
    pub phase : future.task.phase ≡ Finished
    pub closed : future.task.closed ≡ true
    pub awaited : future.task.awaiter ≡ awaiter
    pub is : there ≡ bare future here

  module _ (p q : Plain Output Waker) (b : Bare p q) where
    abbrev x : Future Output Waker
    x = b.future

    other_at : (g : ℕ) → (f == g) ≡ false → slice_get (bare x q).futures g ≡ slice_get q.futures g
    other_at g apart = set_other q.futures f g (with_task (hidden x.task) x) apart

    pub task_other : (g : ℕ) → (f == g) ≡ false → task g p ≡ task g q
    task_other g apart =
        ap (λ z. task g z) b.is ∙ ap (λ (o : Option (Future Output Waker)). or o (λ future. future.task) no_task) (other_at g apart)

    pub put_other : (g : ℕ) (new : AbstractTask Output Waker) → (f == g) ≡ false → Bare (put g new p) (put g new q)
    put_other g new apart = by (slice_get q.futures g) refl
      where
        by : (o : Option (Future Output Waker)) → slice_get q.futures g ≡ o → Bare (put g new p) (put g new q)
        by None is =
            let here : put g new q ≡ q = ap (λ (o : Option (Future Output Waker)). on o (λ z p. put_at g new z p) q) is in
            let there : put g new (bare x q) ≡ bare x q =
            ap (λ (o : Option (Future Output Waker)). on o (λ z p. put_at g new z p) (bare x q)) (other_at g apart ∙ is) in
            subst (λ z. Bare (put g new p) z) (sym here)
            (record {
              future = x;
              at = b.at;
              phase = b.phase;
              closed = b.closed;
              awaited = b.awaited;
              is = ap (λ z. put g new z) b.is ∙ there;
            })
        by (Some y) is =
            subst (λ z. Bare (put g new p) z) (sym (put_is g new q y is))
            (record {
              future = x;
              at = set_other q.futures g f (with_task new y) (turned f g apart) ∙ b.at;
              phase = b.phase;
              closed = b.closed;
              awaited = b.awaited;
              is =
                  ap (λ z. put g new z) b.is
                  ∙ (put_is g new (bare x q) y (other_at g apart ∙ is)
                  ∙ ap (λ fs. record q { futures = fs })
                  (set_apart q.futures f g (with_task (hidden x.task) x) (with_task new y) (apart_of f g apart)));
            })

    -- of that task only its wakers are counted
    put_own : (n : ℕ) → Bare (put f (record (task f p) { wakers = n }) p) (put f (record (task f q) { wakers = n }) q)
    put_own n =
        let t : AbstractTask Output Waker = record x.task { wakers = n } in
        let here : put f (record (task f q) { wakers = n }) q ≡ put_at f t x q =
        ap (λ (y : AbstractTask Output Waker). put f (record y { wakers = n }) q) (task_is f q x b.at) ∙ put_is f t q x b.at in
        let X : Future Output Waker = with_task (hidden x.task) x in
        let at_there : slice_get (bare x q).futures f ≡ Some X = set_same q.futures f X x b.at in
        let u : AbstractTask Output Waker = record (told (hidden x.task)) { wakers = n } in
        let there : put f (record (task f p) { wakers = n }) p ≡ put_at f u X (bare x q) =
        ap (λ z. put f (record (task f z) { wakers = n }) z) b.is
        ∙ (ap (λ (y : AbstractTask Output Waker). put f (record y { wakers = n }) (bare x q)) (task_is f (bare x q) X at_there)
        ∙ put_is f u (bare x q) X at_there) in
        subst (λ z. Bare (put f (record (task f p) { wakers = n }) p) z) (sym here)
        (record {
          future = with_task t x;
          at = set_same q.futures f (with_task t x) x b.at;
          phase = b.phase;
          closed = b.closed;
          awaited = b.awaited;
          is =
              there
              ∙ (ap (λ fs. record q { futures = fs }) (set_twice q.futures f X (with_task u X))
              ∙ sym (ap (λ fs. record q { futures = fs })
              (set_twice q.futures f (with_task t x) (with_task (hidden (with_task t x).task) (with_task t x)))));
        })

    mark_so : (g : ℕ) → mark g p ≡ mark g q
    mark_so g = ap (λ z. mark g z) b.is ∙ by (f == g) refl
      where
        by : (c : Bool) → (f == g) ≡ c → mark g (bare x q) ≡ mark g q
        by true same =
            let X : Future Output Waker = with_task (hidden x.task) x in
            subst (λ g. mark g (bare x q) ≡ mark g q) (same_of f g same)
            (mark_is f (bare x q) X (set_same q.futures f X x b.at) ∙ sym (mark_is f q x b.at))
        by false apart =
            ap (λ (o : Option (Future Output Waker)). or o (λ future. future.mark) PlainMark) (other_at g apart)

    -- what leaves the tasks
    pub aside : (F : Plain Output Waker → Plain Output Waker) → F (bare x q) ≡ bare x (F q) → (F q).futures ≡ q.futures → Bare (F p) (F q)
    aside F so same = record {
      future = x;
      at = ap (λ fs. slice_get fs f) same ∙ b.at;
      phase = b.phase;
      closed = b.closed;
      awaited = b.awaited;
      is = ap F b.is ∙ so;
    }

    append_so : (g : ℕ) → Bare (appended g p) (appended g q)
    append_so g = record {
      future = x;
      at = b.at;
      phase = b.phase;
      closed = b.closed;
      awaited = b.awaited;
      is =
          ap (λ m. record p { due = p.due ++ record { future = g; mark = m; keeper = None } ∷ [] }) (mark_so g)
          ∙ ap (λ (z : Plain Output Waker). record z { due = z.due ++ record { future = g; mark = mark g q; keeper = None } ∷ [] }) b.is;
    }

    own_is : (task f p).wakers ≡ (task f q).wakers
    own_is =
        let X : Future Output Waker = with_task (hidden x.task) x in
        ap (λ z. (task f z).wakers) b.is
        ∙ (ap (λ (t : AbstractTask Output Waker). t.wakers) (task_is f (bare x q) X (set_same q.futures f X x b.at))
        ∙ sym (ap (λ (t : AbstractTask Output Waker). t.wakers) (task_is f q x b.at)))

    pub there_over : ((task f p).phase ≡ Finished) × ((task f p).closed ≡ true)
    there_over =
        let X : Future Output Waker = with_task (hidden x.task) x in
        let is : task f p ≡ told (hidden x.task) =
        ap (λ z. task f z) b.is ∙ task_is f (bare x q) X (set_same q.futures f X x b.at) in
        (ap (λ (t : AbstractTask Output Waker). t.phase) is ∙ b.phase, ap (λ (t : AbstractTask Output Waker). t.closed) is ∙ b.closed)

    pub here_over : ((task f q).phase ≡ Finished) × ((task f q).closed ≡ true)
    here_over =
        let is = task_is f q x b.at in
        (ap (λ (t : AbstractTask Output Waker). t.phase) is ∙ b.phase, ap (λ (t : AbstractTask Output Waker). t.closed) is ∙ b.closed)

  abbrev pub Keeps : (Plain Output Waker → Plain Output Waker) → Type 0
  Keeps more = (p q : Plain Output Waker) → Bare p q → Bare (more p) (more q)

  -- a change by which of a closed task whose future is dropped only the wakers are counted
  record Counts (h : AbstractTask Output Waker → AbstractTask Output Waker) : Type 0 where
    many : ℕ → ℕ
    so : (t : AbstractTask Output Waker) → t.phase ≡ Finished → t.closed ≡ true → h t ≡ record t { wakers = many t.wakers }

  own_put : (h : AbstractTask Output Waker → AbstractTask Output Waker) (c : Counts h) (more : Plain Output Waker → Plain Output Waker)
      (z : Plain Output Waker) → (task f z).phase ≡ Finished → (task f z).closed ≡ true
      → becomes wakes more f (h (task f z)) z ≡ put f (record (task f z) { wakers = c.many (task f z).wakers }) z
  own_put h c more z phase closed =
      let t : AbstractTask Output Waker = task f z in
      let new : AbstractTask Output Waker = record t { wakers = c.many t.wakers } in
      ap (λ y. becomes wakes more f y z) (c.so t phase closed)
      ∙ ap (λ (o : Option Bool). if is_some (info_from o) then more (appended f (put f new z)) else put f new z) (past_end t.infos)

  pub becomes_apart : (h : AbstractTask Output Waker → AbstractTask Output Waker) (more : Plain Output Waker → Plain Output Waker)
      → Keeps more → (g : ℕ) → (f == g) ≡ false → Keeps (λ z. becomes wakes more g (h (task g z)) z)
  becomes_apart h more keeps g apart p q b =
      subst (λ t. Bare (if is_some (info_of t (h t)) then more (appended g (put g (h t) p)) else put g (h t) p)
      (becomes wakes more g (h (task g q)) q)) (sym (task_other p q b g apart)) (whether (is_some (info_of (task g q) (h (task g q)))))
    where
      new : AbstractTask Output Waker
      new = h (task g q)

      whether : (e : Bool) → Bare (if e then more (appended g (put g new p)) else put g new p)
          (if e then more (appended g (put g new q)) else put g new q)
      whether true =
          let m = put_other p q b g new apart in
          keeps (appended g (put g new p)) (appended g (put g new q)) (append_so (put g new p) (put g new q) m g)
      whether false = put_other p q b g new apart

  becomes_so : (h : AbstractTask Output Waker → AbstractTask Output Waker) → Counts h → (more : Plain Output Waker → Plain Output Waker)
      → Keeps more → (g : ℕ) → Keeps (λ z. becomes wakes more g (h (task g z)) z)
  becomes_so h c more keeps g p q b = by (f == g) refl
    where
      by : (e : Bool) → (f == g) ≡ e → Bare (becomes wakes more g (h (task g p)) p) (becomes wakes more g (h (task g q)) q)
      by true same =
          let there = there_over p q b in
          let here = here_over p q b in
          subst (λ g. Bare (becomes wakes more g (h (task g p)) p) (becomes wakes more g (h (task g q)) q)) (same_of f g same)
          (subst (λ z. Bare z (becomes wakes more f (h (task f q)) q))
          (sym (own_put h c more p there.0 there.1
          ∙ ap (λ n. put f (record (task f p) { wakers = c.many n }) p) (own_is p q b)))
          (subst (λ z. Bare (put f (record (task f p) { wakers = c.many (task f q).wakers }) p) z)
          (sym (own_put h c more q here.0 here.1)) (put_own p q b (c.many (task f q).wakers))))
      by false apart = becomes_apart h more keeps g apart p q b

  -- wakes and wakers that go
  wake_is : (t : AbstractTask Output Waker) → t.closed ≡ true → abstract.wake t ≡ t
  wake_is t closed = ap (λ b. if b then t else abstract.wake_open t.phase t) closed

  release_is : (t : AbstractTask Output Waker) → t.phase ≡ Finished → abstract.release t ≡ record t { wakers = t.wakers - 1 }
  release_is t phase =
      let u : AbstractTask Output Waker = record t { wakers = t.wakers - 1 } in
      ap (λ ph. if abstract.is_idle ph && (not t.closed && (not t.handle && (t.wakers - 1 == 0))) then abstract.close u else u) phase

  wake_counts : Counts (λ t. abstract.wake t)
  wake_counts = record { many = λ n. n; so = λ t phase closed. wake_is t closed }

  release_counts : Counts (λ t. abstract.release t)
  release_counts = record { many = λ n. n - 1; so = λ t phase closed. release_is t phase }

  use_counts : Counts (λ t. abstract.release (abstract.wake t))
  use_counts =
      record { many = λ n. n - 1; so = λ t phase closed. ap (λ t. abstract.release t) (wake_is t closed) ∙ release_is t phase }

  cancel_counts : Counts (λ t. (abstract.cancel t).task)
  cancel_counts = record {
    many = λ n. n;
    so = λ t phase closed.
        ap (λ b. (if b || abstract.is_over t.phase then abstract.left t
        else record {
          task = record (abstract.close t) { awaiter = None };
          called = t.awaiter;
          dropped = None;
          let_go = None;
        }).task) closed;
  }

  called_keeps : (more : Plain Output Waker → Plain Output Waker) → Keeps more → (a : Waker) → Keeps (called wakes more a)
  called_keeps more keeps a p q b = by (wakes a)
    where
      by : (o : Option ℕ) → Bare (or o (λ g. used wakes more g p) (see (Calls a) p)) (or o (λ g. used wakes more g q) (see (Calls a) q))
      by None = aside p q b (see (Calls a)) refl refl
      by (Some g) = becomes_so (λ t. abstract.release (abstract.wake t)) use_counts more keeps g p q b

  tell_keeps : (c : Choice) → Keeps (tell wakes c)
  tell_keeps c p q b = subst (λ z. Bare (tell wakes c z) (tell wakes c q)) (sym b.is) (by (any is_called q.lying))
    where
      y : Future Output Waker
      y = b.future

      with_lying : (ls : List (Lying Waker)) → Bare (record (bare y q) { lying = ls }) (record q { lying = ls })
      with_lying ls = record { future = y; at = b.at; phase = b.phase; closed = b.closed; awaited = b.awaited; is = refl }

      waker : (ls : List (Lying Waker)) (o : Option Waker)
          → Bare (on o (called wakes (λ s. s)) (record (bare y q) { lying = ls })) (on o (called wakes (λ s. s)) (record q { lying = ls }))
      waker ls None = with_lying ls
      waker ls (Some a) =
          called_keeps (λ s. s) (λ p q b. b) a (record (bare y q) { lying = ls }) (record q { lying = ls }) (with_lying ls)

      one : (i : ℕ) (o : Option (Lying Waker))
          → Bare
          (on o (λ l p. on l.waker (called wakes (λ s. s)) (record p { lying = slice_set p.lying i (called_one l) })) (bare y q))
          (on o (λ l p. on l.waker (called wakes (λ s. s)) (record p { lying = slice_set p.lying i (called_one l) })) q)
      one i None = with_lying q.lying
      one i (Some l) = waker (slice_set q.lying i (called_one l)) l.waker

      by : (e : Bool)
          → Bare (cond e (bare y q) (told_at wakes (min c.tells (length q.lying - 1)) (bare y q)))
          (cond e q (told_at wakes (min c.tells (length q.lying - 1)) q))
      by true = with_lying q.lying
      by false = one (min c.tells (length q.lying - 1)) (slice_get q.lying (min c.tells (length q.lying - 1)))

  -- handles that go, of other tasks
  module _ (c : Choice) (g : ℕ) (apart : (f == g) ≡ false) where
    calls_keep : (o : Option Waker) → Keeps (λ z. on o (called wakes (tell wakes c)) z)
    calls_keep None p q b = b
    calls_keep (Some a) p q b = called_keeps (tell wakes c) (tell_keeps c) a p q b

    pub cancel_keeps : Keeps (plain.cancel wakes c g)
    cancel_keeps p q b =
        subst
        (λ t. Bare (on (abstract.cancel t).called (called wakes (tell wakes c))
        (becomes wakes (tell wakes c) g (abstract.cancel (task g p)).task p))
        (plain.cancel wakes c g q)) (sym (task_other p q b g apart))
        (calls_keep (abstract.cancel (task g q)).called (becomes wakes (tell wakes c) g (abstract.cancel (task g p)).task p)
        (becomes wakes (tell wakes c) g (abstract.cancel (task g q)).task q)
        (becomes_apart (λ t. (abstract.cancel t).task) (tell wakes c) (tell_keeps c) g apart p q b))

    out_keeps : (o : Option Output)
        → Keeps (λ z. or o (λ v. enters (Lose None None) (see (Loses v) z)) (plain_takes.lost wakes c None None z))
    out_keeps None p q b = aside p q b (answers DoneAnswer) refl refl
    out_keeps (Some v) p q b = aside p q b (λ z. enters (Lose None None) (see (Loses v) z)) refl refl

    pub detach_keeps : Keeps (plain.detach wakes c g)
    detach_keeps p q b =
        let y : Plain Output Waker = becomes wakes (tell wakes c) g (abstract.detach (task g p)).task p in
        let z : Plain Output Waker = becomes wakes (tell wakes c) g (abstract.detach (task g q)).task q in
        let m : Bare y z = becomes_apart (λ t. (abstract.detach t).task) (tell wakes c) (tell_keeps c) g apart p q b in
        let n : Bare (put g (task g y) y) (put g (task g z) z) =
        subst (λ t. Bare (put g t y) (put g (task g z) z)) (sym (task_other y z m g apart)) (put_other y z m g (task g z) apart) in
        subst (λ t. Bare (or (abstract.detach t).dropped (λ v. enters (Lose None None) (see (Loses v) (put g (task g y) y)))
        (plain_takes.lost wakes c None None (put g (task g y) y))) (plain.detach wakes c g q)) (sym (task_other p q b g apart))
        (out_keeps (abstract.detach (task g q)).dropped (put g (task g y) y) (put g (task g z) z) n)

  pub uses_keep : (c : Choice) (g : ℕ) → Keeps (λ z. used wakes (tell wakes c) g z)
  uses_keep c g = becomes_so (λ t. abstract.release (abstract.wake t)) use_counts (tell wakes c) (tell_keeps c) g

  pub wakes_keep : (c : Choice) (g : ℕ) → Keeps (λ z. wake wakes (tell wakes c) g z)
  wakes_keep c g = becomes_so (λ t. abstract.wake t) wake_counts (tell wakes c) (tell_keeps c) g

  pub releases_keep : (c : Choice) (g : ℕ) → Keeps (λ z. release wakes (tell wakes c) g z)
  releases_keep c g = becomes_so (λ t. abstract.release t) release_counts (tell wakes c) (tell_keeps c) g
