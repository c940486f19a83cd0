-- What the plain scheduler does step by step is what that with other names does, where as many may lie as both choices tell.
use Rattle.std.proofs.Common.{◌≡◌, ℕ, zero, suc, ◌-◌, ◌≤◌, min, not, is_some, nat_lt, count_by, cond, Bool, true, false, List, [], ◌∷◌}
use Rattle.std.proofs.Common.{◌++◌}
use Rattle.std.proofs.Common.{length, map, find, Option, Some, None, slice_get, slice_set, refl, sym, ap, subst, ◌∙◌}
use Rattle.std.specs.Option.{option_map}
use Rattle.std.proofs.lemmas.Option.{slice_get-map}
use Rattle.executor_parts.specs.declared.mark.Mark.TheVariants.{Plain as PlainMark}
use Rattle.task_moves.specs.AbstractTask as abstract
use Rattle.task_moves.specs.AbstractTask.{AbstractTask}
use Rattle.task_moves.specs.LocalTask.{info_of, told}
use Rattle.plain_scheduler.specs.State.{Calls, Choice, Code, Due, Event, Future, Lying, Plain, Running, Who}
use Rattle.plain_scheduler.specs.Lists.{any, each, on, or, repeat, without}
use Rattle.plain_scheduler.specs.Moves.{appended, becomes, called, changed, copied, enters, given_back, is_called, is_kept, keeps}
use Rattle.plain_scheduler.specs.Moves.{leaves, let_go, lies, mark, moved, no_task, put, release, runs, see, task, tell, told_at, up}
use Rattle.plain_scheduler.specs.Moves.{used, wake}
use Rattle.two_roads.specs.Renaming.{code_as, event_as, future_as, lying_as, renamed, task_as}
use Rattle.two_roads.proofs.Words.{any_map, at_most, fewer_without, find_map, last_at, length_map, length_set, map_append, set_map}
use Rattle.two_roads.proofs.Words.{without_map}
use Rattle.two_roads.proofs.Tasks.{releases_so, uses_so, wakes_so}

-- the names, what is chosen here and there, and how many may lie
pub record Setting (T U A B : Type 0) : Type 0 where
  pub output : T → U
  pub waker : A → B
  pub wakes : A → Option ℕ
  pub wakes_as : B → Option ℕ
  pub same : (a : A) → wakes_as (waker a) ≡ wakes a
  pub choice : Choice
  pub other : Choice
  pub many : ℕ
  pub low : many ≤ choice.tells
  pub low_as : many ≤ other.tells
  pub refusal : choice.refusal ≡ other.refusal

module _ {T U A B : Type 0} (k : Setting T U A B) where
  abbrev pub its_task : AbstractTask T A → AbstractTask U B
  its_task t = task_as k.output k.waker t

  abbrev future : Future T A → Future U B
  future x = future_as k.output k.waker x

  abbrev lain : Lying A → Lying B
  lain l = lying_as k.waker l

  abbrev pub now : Plain T A → Plain U B
  now p = renamed k.output k.waker p

  abbrev pub Few : Plain T A → Type 0
  Few p = length p.lying ≤ k.many

  -- the one is the other but for names, and no more lie
  pub record Alike (x : Plain T A) (y : Plain U B) : Type 0 where
    pub same : now x ≡ y
    pub few : Few x

  abbrev pub Goes : (Plain T A → Plain T A) → (Plain U B → Plain U B) → Type 0
  Goes f g = (p : Plain T A) → Few p → Alike (f p) (g (now p))

  pub stays : (p : Plain T A) → Few p → Alike p (now p)
  stays p few = record { same = refl; few = few }

  pub andthen : {x : Plain T A} {y : Plain U B} (f : Plain T A → Plain T A) (g : Plain U B → Plain U B) → Alike x y → Goes f g
      → Alike (f x) (g y)
  andthen {x = x} f g one next =
      let z = next x one.few in record { same = z.same ∙ ap g one.same; few = z.few }

  pub if_alike : (b : Bool) {x x2 : Plain T A} {y y2 : Plain U B} → Alike x y → Alike x2 y2 → Alike (cond b x x2) (cond b y y2)
  if_alike true one two = one
  if_alike false one two = two

  -- of what is there on both sides
  pub on_alike : {X Y : Type 0} (g : X → Y) (o : Option X) (o_as : Option Y) → o_as ≡ option_map g o
      → (f : X → Plain T A → Plain T A) (f_as : Y → Plain U B → Plain U B) (p : Plain T A) → Few p
      → ((x : X) → Alike (f x p) (f_as (g x) (now p))) → Alike (on o f p) (on o_as f_as (now p))
  on_alike {X = X} g o o_as is f f_as p few both = subst (λ o_as. Alike (on o f p) (on o_as f_as (now p))) (sym is) (by o)
    where
      by : (o : Option X) → Alike (on o f p) (on (option_map g o) f_as (now p))
      by None = stays p few
      by (Some x) = both x

  pub on_here : {X : Type 0} (o : Option X) (f : X → Plain T A → Plain T A) (f_as : X → Plain U B → Plain U B) (p : Plain T A) → Few p
      → ((x : X) → Alike (f x p) (f_as x (now p))) → Alike (on o f p) (on o f_as (now p))
  on_here None f f_as p few both = stays p few
  on_here (Some x) f f_as p few both = both x

  pub each_alike : {X : Type 0} (xs : List X) (f : X → Plain T A → Plain T A) (f_as : X → Plain U B → Plain U B)
      → ((x : X) → Goes (f x) (f_as x)) → (p : Plain T A) (q : Plain U B) → Alike p q → Alike (each xs f p) (each xs f_as q)
  each_alike [] f f_as both p q one = one
  each_alike (x ∷ xs) f f_as both p q one =
      each_alike xs f f_as both (f x p) (f_as x q) (andthen (f x) (f_as x) one (both x))

  pub repeat_alike : (n : ℕ) (f : Plain T A → Plain T A) (f_as : Plain U B → Plain U B) → Goes f f_as → (p : Plain T A)
      (q : Plain U B) → Alike p q → Alike (repeat n f p) (repeat n f_as q)
  repeat_alike zero f f_as both p q one = one
  repeat_alike (suc n) f f_as both p q one =
      repeat_alike n f f_as both (f p) (f_as q) (andthen f f_as one both)

  -- what is seen and entered
  pub see_alike : (e : Event T A) → Goes (see e) (see (event_as k.output k.waker e))
  see_alike e p few = record {
    same = ap (λ es. record (now p) { events = es }) (map_append (event_as k.output k.waker) p.events (e ∷ []));
    few = few;
  }

  pub enters_alike : (code : Code T A) → Goes (enters code) (enters (code_as k.output k.waker code))
  enters_alike code p few = record { same = refl; few = few }

  -- tasks and marks by number
  pub task_alike : (f : ℕ) (p : Plain T A) → its_task (task f p) ≡ task f (now p)
  task_alike f p =
      by (slice_get p.futures f)
      ∙ sym (ap (λ (o : Option (Future U B)). or o (λ x. x.task) no_task) (slice_get-map future p.futures f))
    where
      by : (o : Option (Future T A)) → its_task (or o (λ x. x.task) no_task) ≡ or (option_map future o) (λ x. x.task) no_task
      by None = refl
      by (Some x) = refl

  mark_alike : (f : ℕ) (p : Plain T A) → mark f p ≡ mark f (now p)
  mark_alike f p =
      by (slice_get p.futures f)
      ∙ sym (ap (λ (o : Option (Future U B)). or o (λ x. x.mark) PlainMark) (slice_get-map future p.futures f))
    where
      by : (o : Option (Future T A)) → or o (λ x. x.mark) PlainMark ≡ or (option_map future o) (λ x. x.mark) PlainMark
      by None = refl
      by (Some x) = refl

  pub changed_alike : (h : Future T A → Future T A) (h_as : Future U B → Future U B) → ((x : Future T A) → future (h x) ≡ h_as (future x))
      → (f : ℕ) → Goes (changed h f) (changed h_as f)
  changed_alike h h_as is f p few =
      on_alike future (slice_get p.futures f) (slice_get (map future p.futures) f) (slice_get-map future p.futures f)
      (λ x p. record p { futures = slice_set p.futures f (h x) })
      (λ x p. record p { futures = slice_set p.futures f (h_as x) }) p few
      (λ x. record {
        same =
            ap (λ fs. record (now p) { futures = fs })
            (set_map future p.futures f (h x) ∙ ap (λ y. slice_set (map future p.futures) f y) (is x));
        few = few;
      })

  pub put_alike : (f : ℕ) (new : AbstractTask T A) → Goes (put f new) (put f (its_task new))
  put_alike f new p few =
      changed_alike (λ x. record x { task = told new }) (λ x. record x { task = told (its_task new) }) (λ x. refl) f p few

  pub put_so : (f : ℕ) (new : AbstractTask T A) (new_as : AbstractTask U B) → its_task new ≡ new_as → Goes (put f new) (put f new_as)
  put_so f new new_as is p few = subst (λ z. Alike (put f new p) (put f z (now p))) is (put_alike f new p few)

  pub runs_alike : (h : Running → Running) (r : ℕ) → Goes (runs h r) (runs h r)
  runs_alike h r p few =
      on_here (slice_get p.runs r) (λ run p. record p { runs = slice_set p.runs r (h run) })
      (λ run p. record p { runs = slice_set p.runs r (h run) }) p few (λ run. record { same = refl; few = few })

  pub appended_alike : (f : ℕ) → Goes (appended f) (appended f)
  appended_alike f p few = record {
    same =
        ap (λ m. record (now p) { due = p.due ++ record { future = f; mark = m; keeper = None } ∷ [] }) (mark_alike f p);
    few = few;
  }

  pub given_back_alike : (r : ℕ) → Goes (given_back r) (given_back r)
  given_back_alike r p few =
      on_here (find (is_kept r) p.due) (λ d p. appended d.future (record p { due = without (is_kept r) p.due }))
      (λ d p. appended d.future (record p { due = without (is_kept r) p.due })) p few
      (λ d. appended_alike d.future (record p { due = without (is_kept r) p.due }) few)

  moved_alike : (r : ℕ) (test : Due → Bool) → Goes (moved r test) (moved r test)
  moved_alike r test p few =
      on_here (find test p.due) (λ d p. record p { due = without test p.due ++ record d { keeper = Some r } ∷ [] })
      (λ d p. record p { due = without test p.due ++ record d { keeper = Some r } ∷ [] }) p few
      (λ d. record { same = refl; few = few })

  pub keeps_alike : (r : ℕ) (test : Due → Bool) → Goes (keeps r test) (keeps r test)
  keeps_alike r test p few = if_alike (nat_lt (count_by (is_kept r) p.due) 512) (moved_alike r test p few) (stays p few)

  -- a task becomes another
  module _ (more : Plain T A → Plain T A) (more_as : Plain U B → Plain U B) (goes : Goes more more_as) where
    becomes_now : (f : ℕ) (new : AbstractTask T A)
        → Goes (becomes k.wakes more f new) (becomes k.wakes_as more_as f (its_task new))
    becomes_now f new p few =
        let one = put_alike f new p few in
        subst
        (λ old. Alike (becomes k.wakes more f new p)
        (cond (is_some (info_of old (its_task new))) (more_as (appended f (put f (its_task new) (now p))))
        (put f (its_task new) (now p))))
        (task_alike f p)
        (if_alike (is_some (info_of (task f p) new))
        (andthen more more_as (andthen (appended f) (appended f) one (appended_alike f)) goes) one)

    pub becomes_alike : (f : ℕ) (new : AbstractTask T A) (new_as : AbstractTask U B) → its_task new ≡ new_as
        → Goes (becomes k.wakes more f new) (becomes k.wakes_as more_as f new_as)
    becomes_alike f new new_as is p few =
        subst (λ z. Alike (becomes k.wakes more f new p) (becomes k.wakes_as more_as f z (now p))) is (becomes_now f new p few)

    pub wake_alike : (f : ℕ) → Goes (wake k.wakes more f) (wake k.wakes_as more_as f)
    wake_alike f p few =
        becomes_alike f (abstract.wake (task f p)) (abstract.wake (task f (now p)))
        (wakes_so k.output k.waker (task f p) ∙ ap (λ (t : AbstractTask U B). abstract.wake t) (task_alike f p)) p few

    pub release_alike : (f : ℕ) → Goes (release k.wakes more f) (release k.wakes_as more_as f)
    release_alike f p few =
        becomes_alike f (abstract.release (task f p)) (abstract.release (task f (now p)))
        (releases_so k.output k.waker (task f p) ∙ ap (λ (t : AbstractTask U B). abstract.release t) (task_alike f p)) p few

    pub used_alike : (f : ℕ) → Goes (used k.wakes more f) (used k.wakes_as more_as f)
    used_alike f p few =
        becomes_alike f (abstract.release (abstract.wake (task f p))) (abstract.release (abstract.wake (task f (now p))))
        (uses_so k.output k.waker (task f p)
        ∙ ap (λ (t : AbstractTask U B). abstract.release (abstract.wake t)) (task_alike f p))
        p few

    pub called_alike : (w : A) → Goes (called k.wakes more w) (called k.wakes_as more_as (k.waker w))
    called_alike w p few =
        subst
        (λ o. Alike (called k.wakes more w p)
        (or o (λ f. used k.wakes_as more_as f (now p)) (see (Calls (k.waker w)) (now p))))
        (sym (k.same w)) (by (k.wakes w))
      where
        by : (o : Option ℕ)
            → Alike (or o (λ f. used k.wakes more f p) (see (Calls w) p))
            (or o (λ f. used k.wakes_as more_as f (now p)) (see (Calls (k.waker w)) (now p)))
        by None = see_alike (Calls w) p few
        by (Some f) = used_alike f p few

    pub let_go_alike : (w : A) → Goes (let_go k.wakes more w) (let_go k.wakes_as more_as (k.waker w))
    let_go_alike w p few =
        subst (λ o. Alike (let_go k.wakes more w p) (on o (release k.wakes_as more_as) (now p))) (sym (k.same w))
        (on_here (k.wakes w) (release k.wakes more) (release k.wakes_as more_as) p few (λ f. release_alike f p few))

  pub copied_alike : (w : A) → Goes (copied k.wakes w) (copied k.wakes_as (k.waker w))
  copied_alike w p few =
      subst (λ o. Alike (copied k.wakes w p) (on o (λ f p. put f (abstract.copy (task f p)) p) (now p))) (sym (k.same w))
      (on_here (k.wakes w) (λ f p. put f (abstract.copy (task f p)) p) (λ f p. put f (abstract.copy (task f p)) p) p few
      (λ f. put_so f (abstract.copy (task f p)) (abstract.copy (task f (now p)))
      (ap (λ (t : AbstractTask U B). abstract.copy t) (task_alike f p)) p few))

  -- who lies
  called_so : (l : Lying A) → is_called (lain l) ≡ is_called l
  called_so l = by l.waker
    where
      by : (o : Option A) → not (is_some (option_map k.waker o)) ≡ not (is_some o)
      by None = refl
      by (Some w) = refl

  told_alike : (at : ℕ) → Goes (told_at k.wakes at) (told_at k.wakes_as at)
  told_alike at p few =
      on_alike lain (slice_get p.lying at) (slice_get (map lain p.lying) at) (slice_get-map lain p.lying at)
      (λ l p. on l.waker (called k.wakes (λ s. s)) (record p { lying = slice_set p.lying at (record l { waker = None }) }))
      (λ l p. on l.waker (called k.wakes_as (λ s. s)) (record p { lying = slice_set p.lying at (record l { waker = None }) })) p few
      (λ l.
      let l1 : Lying A = record l { waker = None } in
      let p1 : Plain T A = record p { lying = slice_set p.lying at l1 } in
      let few1 : Few p1 = subst (λ n. n ≤ k.many) (sym (length_set p.lying at l1)) few in
      subst
      (λ ls. Alike (on l.waker (called k.wakes (λ s. s)) p1)
      (on (option_map k.waker l.waker) (called k.wakes_as (λ s. s)) (record (now p) { lying = ls })))
      (set_map lain p.lying at l1)
      (on_alike k.waker l.waker (option_map k.waker l.waker) refl (called k.wakes (λ s. s)) (called k.wakes_as (λ s. s)) p1 few1
      (λ w. called_alike (λ s. s) (λ s. s) stays w p1 few1)))

  pub tell_alike : Goes (tell k.wakes k.choice) (tell k.wakes_as k.other)
  tell_alike p few =
      let n = length p.lying in
      let its : min k.choice.tells (n - 1) ≡ min k.other.tells (length (map lain p.lying) - 1) =
      last_at k.choice.tells n (at_most n k.many k.choice.tells few k.low)
      ∙ (sym (last_at k.other.tells n (at_most n k.many k.other.tells few k.low_as))
      ∙ ap (λ n. min k.other.tells (n - 1)) (sym (length_map lain p.lying))) in
      subst
      (λ b. Alike (tell k.wakes k.choice p)
      (cond b (now p) (told_at k.wakes_as (min k.other.tells (length (map lain p.lying) - 1)) (now p))))
      (sym (any_map lain is_called is_called called_so p.lying))
      (subst (λ i. Alike (tell k.wakes k.choice p) (cond (any is_called p.lying) (now p) (told_at k.wakes_as i (now p)))) its
      (if_alike (any is_called p.lying) (stays p few) (told_alike (min k.choice.tells (n - 1)) p few)))

  pub goes_alike : (w : A) → Goes (let_go k.wakes (tell k.wakes k.choice) w) (let_go k.wakes_as (tell k.wakes_as k.other) (k.waker w))
  goes_alike w p few = let_go_alike (tell k.wakes k.choice) (tell k.wakes_as k.other) tell_alike w p few

  pub fewer : (test : Lying A → Bool) (p : Plain T A) → Few p → length (without test p.lying) ≤ k.many
  fewer test p few = at_most (length (without test p.lying)) (length p.lying) k.many (fewer_without test p.lying) few

  pub up_alike : (who : Who) → Goes (up k.wakes k.choice who) (up k.wakes_as k.other who)
  up_alike who p few =
      on_alike lain (find (lies who) p.lying) (find (lies who) (map lain p.lying)) (find_map lain (lies who) (lies who) (λ l. refl) p.lying)
      (λ l p. on l.waker (let_go k.wakes (tell k.wakes k.choice)) (record p { lying = without (lies who) p.lying }))
      (λ l p. on l.waker (let_go k.wakes_as (tell k.wakes_as k.other)) (record p { lying = without (lies who) p.lying })) p few
      (λ l.
      let p1 : Plain T A = record p { lying = without (lies who) p.lying } in
      let few1 : Few p1 = fewer (lies who) p few in
      subst
      (λ ls. Alike (on l.waker (let_go k.wakes (tell k.wakes k.choice)) p1)
      (on (option_map k.waker l.waker) (let_go k.wakes_as (tell k.wakes_as k.other)) (record (now p) { lying = ls })))
      (without_map lain (lies who) (lies who) (λ l. refl) p.lying)
      (on_alike k.waker l.waker (option_map k.waker l.waker) refl (let_go k.wakes (tell k.wakes k.choice))
      (let_go k.wakes_as (tell k.wakes_as k.other)) p1 few1 (λ w. goes_alike w p1 few1)))

  pub leaves_alike : (who : Who) → Goes (leaves k.wakes k.choice who) (leaves k.wakes_as k.other who)
  leaves_alike who p few =
      on_alike lain (find (lies who) p.lying) (find (lies who) (map lain p.lying)) (find_map lain (lies who) (lies who) (λ l. refl) p.lying)
      (λ l p. cond (is_called l) (tell k.wakes k.choice (up k.wakes k.choice who p)) (up k.wakes k.choice who p))
      (λ l p. cond (is_called l) (tell k.wakes_as k.other (up k.wakes_as k.other who p)) (up k.wakes_as k.other who p)) p few
      (λ l.
      let one = up_alike who p few in
      subst
      (λ b. Alike (cond (is_called l) (tell k.wakes k.choice (up k.wakes k.choice who p)) (up k.wakes k.choice who p))
      (cond b (tell k.wakes_as k.other (up k.wakes_as k.other who (now p))) (up k.wakes_as k.other who (now p))))
      (sym (called_so l))
      (if_alike (is_called l) (andthen (tell k.wakes k.choice) (tell k.wakes_as k.other) one tell_alike) one))
