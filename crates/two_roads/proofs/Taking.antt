-- And so it is with a future that is taken, with what becomes of it, and with what then goes on.
use Rattle.std.proofs.Common.{◌≡◌, ℕ, suc, ◌+◌, ◌==◌, ◌≤◌, nat_lt, cond, Bool, true, false, List, [], ◌∷◌, ◌++◌, length}
use Rattle.std.proofs.Common.{map, find}
use Rattle.std.proofs.Common.{Option, Some, None, slice_get, refl, sym, ap, subst, ◌∙◌}
use Rattle.std.specs.Option.{option_map}
use Rattle.task_moves.specs.AbstractTask as abstract
use Rattle.task_moves.specs.AbstractTask.{AbstractTask, Left}
use Rattle.plain_scheduler.specs.State.{Answer, Answers, ARun, ATick, AtOnce, Calls, Choice, Closed, Done, Drop, Drops, Due, End, Event}
use Rattle.plain_scheduler.specs.State.{Gave}
use Rattle.plain_scheduler.specs.State.{Granted, Later, Lose, Loses, Lying, No, NoMemory, Pending, Plain, Poll, Polls, Ready, Refusal}
use Rattle.plain_scheduler.specs.State.{Run}
use Rattle.plain_scheduler.specs.State.{Taker, Tick, Try, Who, Yes}
use Rattle.plain_scheduler.specs.Lists.{any, each, on, or, repeat, without}
use Rattle.plain_scheduler.specs.Moves.{answers, called, chosen, copied, enters, is_common, is_due, is_kept, keeps, let_go, lies}
use Rattle.plain_scheduler.specs.Moves.{looks, put}
use Rattle.plain_scheduler.specs.Moves.{runs, see, task, tell, up, wake}
use Rattle.plain_scheduler.specs.Takes as takes
use Rattle.machine_roads.proofs.RunLies.{none_due}
use Rattle.two_roads.specs.Renaming.{FirstAlike, TakesSo}
use Rattle.two_roads.specs.Renaming.{answer_as, end_as, event_as, lying_as, taker_as}
use Rattle.two_roads.proofs.Looking.{looked, looks_alike}
use Rattle.two_roads.proofs.Words.{find_map, map_append, without_map}
use Rattle.two_roads.proofs.Tasks.{begins_so, finishes_so, left_as, ready_so}
use Rattle.two_roads.proofs.Moving.{Alike, Few, Goes, Setting, andthen, called_alike, changed_alike, copied_alike, each_alike}
use Rattle.two_roads.proofs.Moving.{enters_alike}
use Rattle.two_roads.proofs.Moving.{goes_alike, if_alike, its_task, keeps_alike, now, on_alike, put_alike, put_so}
use Rattle.two_roads.proofs.Moving.{release_alike, repeat_alike, runs_alike, see_alike, stays, task_alike, tell_alike, up_alike}
use Rattle.two_roads.proofs.Moving.{wake_alike}

abbrev pub is_try_or_tick : {A : Type 0} → Taker A → Bool
is_try_or_tick (Run r w) = false
is_try_or_tick by = true

-- of a run both choose the same, in each call
pub record RunsAlike (c d : Choice) : Type 0 where
  pub first : c.first ≡ d.first
  pub keeps : c.keeps ≡ d.keeps
  pub robs : c.robs ≡ d.robs
  pub moves : c.moves ≡ d.moves

module _ {T U A B : Type 0} (k : Setting T U A B) where
  abbrev c : Choice
  c = k.choice

  abbrev d : Choice
  d = k.other

  abbrev lain_as : Lying A → Lying B
  lain_as l = lying_as k.waker l

  abbrev pub taker : Taker A → Taker B
  taker by = taker_as k.waker by

  abbrev pub tells : Plain T A → Plain T A
  tells p = tell k.wakes k.choice p

  abbrev pub tells_as : Plain U B → Plain U B
  tells_as p = tell k.wakes_as k.other p

  -- at the end of a call one more may lie
  abbrev pub Same : Plain T A → Plain U B → Type 0
  Same x y = now k x ≡ y

  pub stays_same : (p : Plain T A) → Same p (now k p)
  stays_same p = refl

  pub into : {x : Plain T A} {y : Plain U B} (f : Plain T A → Plain T A) (g : Plain U B → Plain U B) → Alike k x y
      → ((p : Plain T A) → Few k p → Same (f p) (g (now k p))) → Same (f x) (g y)
  into {x = x} f g one next = next x one.few ∙ ap g one.same

  pub if_same : (b : Bool) (x x2 : Plain T A) (y y2 : Plain U B) → Same x y → Same x2 y2 → Same (cond b x x2) (cond b y y2)
  if_same true x x2 y y2 one two = one
  if_same false x x2 y y2 one two = two

  pub see_same : (e : Event T A) (x : Plain T A) (y : Plain U B) → Same x y → Same (see e x) (see (event_as k.output k.waker e) y)
  see_same e x y is =
      ap (λ es. record (now k x) { events = es }) (map_append (event_as k.output k.waker) x.events (e ∷ []))
      ∙ ap (λ (q : Plain U B). see (event_as k.output k.waker e) q) is

  pub answers_same : (a : Answer T) (x : Plain T A) (y : Plain U B) → Same x y → Same (answers a x) (answers (answer_as k.output a) y)
  answers_same a x y is = see_same (Answers a) x y is

  -- the task's run begins
  pub dropping_alike : (f : ℕ) (end : End T) (by : Taker A)
      → Goes k (takes.dropping k.wakes c f end by) (takes.dropping k.wakes_as d f (end_as k.output end) (taker by))
  dropping_alike f end by p few =
      andthen k (enters (Drop f end by)) (enters (Drop f (end_as k.output end) (taker by)))
      (see_alike k (Drops f) p few) (enters_alike k (Drop f end by))

  run_alike : (f : ℕ) (by : Taker A) → Goes k (takes.run k.wakes c f by) (takes.run k.wakes_as d f (taker by))
  run_alike f by p few =
      subst
      (λ (t : AbstractTask U B). Alike k (takes.run k.wakes c f by p)
      (cond t.closed (takes.dropping k.wakes_as d f Closed (taker by) (now k p))
      (enters (Poll f (taker by)) (see (Polls f) (put f (abstract.begin_run t) (now k p))))))
      (task_alike k f p)
      (if_alike k (task f p).closed (dropping_alike f Closed by p few)
      (andthen k (enters (Poll f by)) (enters (Poll f (taker by)))
      (andthen k (see (Polls f)) (see (Polls f))
      (put_so k f (abstract.begin_run (task f p)) (abstract.begin_run (its_task k (task f p))) (begins_so k.output k.waker (task f p)) p
      few)
      (see_alike k (Polls f)))
      (enters_alike k (Poll f by))))

  -- so many more it moves only where it robs another
  abbrev pub MovesAlike : ℕ → Option ℕ → Type 0
  MovesAlike r keeper = (one : ℕ) → keeper ≡ Some one → (r == one) ≡ false → c.moves ≡ d.moves

  pub robbed_alike : (r : ℕ) (keeper : Option ℕ) → MovesAlike r keeper
      → Goes k (takes.robbed k.wakes c r keeper) (takes.robbed k.wakes_as d r keeper)
  robbed_alike r None run p few = stays k p few
  robbed_alike r (Some one) run p few = by (r == one) refl
    where
      by : (b : Bool) → (r == one) ≡ b
          → Alike k (cond b p (repeat c.moves (keeps r (is_kept one)) p))
          (cond b (now k p) (repeat d.moves (keeps r (is_kept one)) (now k p)))
      by true own = stays k p few
      by false apart =
          subst (λ n. Alike k (repeat c.moves (keeps r (is_kept one)) p) (repeat n (keeps r (is_kept one)) (now k p))) (run one refl apart)
          (repeat_alike k c.moves (keeps r (is_kept one)) (keeps r (is_kept one)) (keeps_alike k r (is_kept one)) p (now k p)
          (stays k p few))

  kept_alike : c.keeps ≡ d.keeps → (r : ℕ) → Goes k (takes.kept k.wakes c r) (takes.kept k.wakes_as d r)
  kept_alike same r p few =
      subst (λ ms. Alike k (takes.kept k.wakes c r p) (each ms (λ mark. keeps r (is_common mark)) (now k p))) same
      (each_alike k c.keeps (λ mark. keeps r (is_common mark)) (λ mark. keeps r (is_common mark))
      (λ mark. keeps_alike k r (is_common mark)) p (now k p) (stays k p few))

  -- what a run that takes this one asks for
  abbrev KeepsAlike : Taker A → Due → Type 0
  KeepsAlike (Run r w) due = (c.keeps ≡ d.keeps) × MovesAlike r due.keeper
  KeepsAlike by due = Unit {0}

  takes_alike : (by : Taker A) (due : Due) → KeepsAlike by due
      → Goes k (takes.takes k.wakes c by due) (takes.takes k.wakes_as d (taker by) due)
  takes_alike Try due on p few =
      andthen k (takes.run k.wakes c due.future Try) (takes.run k.wakes_as d due.future Try) (tell_alike k p few)
      (run_alike due.future Try)
  takes_alike (Tick t w) due on p few =
      andthen k (takes.run k.wakes c due.future (Tick t w)) (takes.run k.wakes_as d due.future (Tick t (k.waker w)))
      (andthen k tells tells_as (up_alike k (ATick t) p few) (tell_alike k))
      (run_alike due.future (Tick t w))
  takes_alike (Run r w) due on p few =
      andthen k (takes.run k.wakes c due.future (Run r w)) (takes.run k.wakes_as d due.future (Run r (k.waker w)))
      (andthen k (takes.counted k.wakes c r) (takes.counted k.wakes_as d r)
      (andthen k (takes.kept k.wakes c r) (takes.kept k.wakes_as d r)
      (andthen k tells tells_as
      (andthen k (up k.wakes c (ARun r)) (up k.wakes_as d (ARun r)) (robbed_alike r due.keeper on.1 p few) (up_alike k (ARun r)))
      (tell_alike k))
      (kept_alike on.0 r))
      (runs_alike k (λ run. record run { taken = run.taken + 1 }) r))
      (run_alike due.future (Run r w))

  -- it lies
  lain_same : (who : Who) (w : A) (p : Plain T A)
      → Same (takes.lain k.wakes c who w p) (takes.lain k.wakes_as d who (k.waker w) (now k p))
  lain_same who w p =
      ap (λ ls. record (now k p) { lying = ls })
      (map_append lain_as (without (lies who) p.lying) (record { who = who; waker = Some w } ∷ [])
      ∙ ap (λ ls. ls ++ record { who = who; waker = Some (k.waker w) } ∷ [])
      (without_map lain_as (lies who) (lies who) (λ l. refl) p.lying))

  lain_again_same : (who : Who) (w old : A) (p : Plain T A) → Few k p
      → Same (takes.lain_again k.wakes c who w old p) (takes.lain_again k.wakes_as d who (k.waker w) (k.waker old) (now k p))
  lain_again_same who w old p few =
      let p1 : Plain T A = record p { lying = map (λ l. cond (lies who l) (record l { waker = Some w }) l) p.lying } in
      (goes_alike k old p1 (subst (λ n. n ≤ k.many) (sym (long p.lying)) few)).same
      ∙ ap (λ ls. let_go k.wakes_as tells_as (k.waker old) (record (now k p) { lying = ls })) (again p.lying)
    where
      long : (ls : List (Lying A)) → length (map (λ l. cond (lies who l) (record l { waker = Some w }) l) ls) ≡ length ls
      long [] = refl
      long (l ∷ ls) = ap suc (long ls)

      one : (l : Lying A) (b : Bool)
          → lain_as (cond b (record l { waker = Some w }) l) ≡ cond b (record (lain_as l) { waker = Some (k.waker w) }) (lain_as l)
      one l true = refl
      one l false = refl

      again : (ls : List (Lying A))
          → map lain_as (map (λ l. cond (lies who l) (record l { waker = Some w }) l) ls)
          ≡ map (λ l. cond (lies who l) (record l { waker = Some (k.waker w) }) l) (map lain_as ls)
      again [] = refl
      again (l ∷ ls) =
          ap (λ x. x ∷ map lain_as (map (λ l. cond (lies who l) (record l { waker = Some w }) l) ls)) (one l (lies who l))
          ∙ ap (λ xs. cond (lies who l) (record (lain_as l) { waker = Some (k.waker w) }) (lain_as l) ∷ xs) (again ls)

  lies_down_same : (who : Who) (w : A) (p : Plain T A) → Few k p
      → Same (takes.lies_down k.wakes c who w p) (takes.lies_down k.wakes_as d who (k.waker w) (now k p))
  lies_down_same who w p few =
      subst
      (λ o. Same (takes.lies_down k.wakes c who w p)
      (or o (λ l. or l.waker (λ old. takes.lain_again k.wakes_as d who (k.waker w) old q_as) (takes.lain k.wakes_as d who (k.waker w) q_as))
      (takes.lain k.wakes_as d who (k.waker w) q_as)))
      (sym (find_map lain_as (lies who) (lies who) (λ l. refl) p.lying))
      (by (find (lies who) p.lying))
    where
      q : Plain T A
      q = copied k.wakes w p

      q_as : Plain U B
      q_as = copied k.wakes_as (k.waker w) (now k p)

      anew : Same (takes.lain k.wakes c who w q) (takes.lain k.wakes_as d who (k.waker w) q_as)
      anew =
          into (takes.lain k.wakes c who w) (takes.lain k.wakes_as d who (k.waker w)) (copied_alike k w p few)
          (λ p few. lain_same who w p)

      waking : (o : Option A)
          → Same (or o (λ old. takes.lain_again k.wakes c who w old q) (takes.lain k.wakes c who w q))
          (or (option_map k.waker o) (λ old. takes.lain_again k.wakes_as d who (k.waker w) old q_as)
          (takes.lain k.wakes_as d who (k.waker w) q_as))
      waking None = anew
      waking (Some old) =
          into (takes.lain_again k.wakes c who w old) (takes.lain_again k.wakes_as d who (k.waker w) (k.waker old))
          (copied_alike k w p few) (lain_again_same who w old)

      by : (o : Option (Lying A))
          → Same
          (or o (λ l. or l.waker (λ old. takes.lain_again k.wakes c who w old q) (takes.lain k.wakes c who w q))
          (takes.lain k.wakes c who w q))
          (or (option_map lain_as o)
          (λ l. or l.waker (λ old. takes.lain_again k.wakes_as d who (k.waker w) old q_as) (takes.lain k.wakes_as d who (k.waker w) q_as))
          (takes.lain k.wakes_as d who (k.waker w) q_as))
      by None = anew
      by (Some l) = waking l.waker

  rests_same : (r : Refusal) (who : Who) (w : A) (p : Plain T A) → Few k p
      → Same (takes.rests k.wakes c r who w p) (takes.rests k.wakes_as d r who (k.waker w) (now k p))
  rests_same Granted who w p few =
      answers_same Pending (takes.lies_down k.wakes c who w p) (takes.lies_down k.wakes_as d who (k.waker w) (now k p))
      (lies_down_same who w p few)
  rests_same AtOnce who w p few = answers_same NoMemory p (now k p) (stays_same p)
  rests_same Later who w p few =
      answers_same NoMemory (takes.lies_down k.wakes c who w p) (takes.lies_down k.wakes_as d who (k.waker w) (now k p))
      (lies_down_same who w p few)

  rests_so : (who : Who) (w : A) (p : Plain T A) → Few k p
      → Same (takes.rests k.wakes c c.refusal who w p) (takes.rests k.wakes_as d d.refusal who (k.waker w) (now k p))
  rests_so who w p few =
      subst (λ r. Same (takes.rests k.wakes c c.refusal who w p) (takes.rests k.wakes_as d r who (k.waker w) (now k p))) k.refusal
      (rests_same c.refusal who w p few)

  nothing_same : (by : Taker A) (p : Plain T A) → Few k p
      → Same (takes.nothing k.wakes c by p) (takes.nothing k.wakes_as d (taker by) (now k p))
  nothing_same Try p few = answers_same No p (now k p) (stays_same p)
  nothing_same (Tick t w) p few = rests_so (ATick t) w p few
  nothing_same (Run r w) p few = rests_so (ARun r) w p few

  take_so : (by : Taker A) (p : Plain T A) → chosen (looks c by) p.due ≡ chosen (looks d (taker by)) p.due
      → ((due : Due) → find (chosen (looks c by) p.due) p.due ≡ Some due → KeepsAlike by due) → Few k p
      → Same (takes.take k.wakes c by p) (takes.take k.wakes_as d (taker by) (now k p))
  take_so by p looked on_so few =
      subst
      (λ test. Same (takes.take k.wakes c by p)
      (or (find test p.due)
      (λ due. takes.takes k.wakes_as d (taker by) due (record (now k p) { due = without test p.due }))
      (takes.nothing k.wakes_as d (taker by) (now k p))))
      looked (found (find test p.due) refl)
    where
      test : Due → Bool
      test = chosen (looks c by) p.due

      found : (o : Option Due) → find test p.due ≡ o
          → Same
          (or o (λ due. takes.takes k.wakes c by due (record p { due = without test p.due })) (takes.nothing k.wakes c by p))
          (or o (λ due. takes.takes k.wakes_as d (taker by) due (record (now k p) { due = without test p.due }))
          (takes.nothing k.wakes_as d (taker by) (now k p)))
      found None is = nothing_same by p few
      found (Some due) is = (takes_alike by due (on_so due is) (record p { due = without test p.due }) few).same

  -- where nothing is due, no choice matters
  none_taken : (by : Taker A) (p : Plain T A) → p.due ≡ [] → Few k p
      → Same (takes.take k.wakes c by p) (takes.take k.wakes_as d (taker by) (now k p))
  none_taken by p none few =
      subst
      (λ (ds : List Due). Same
      (or (find (chosen (looks c by) ds) ds)
      (λ due. takes.takes k.wakes c by due (record p { due = without (chosen (looks c by) ds) ds })) (takes.nothing k.wakes c by p))
      (or (find (chosen (looks d (taker by)) ds) ds)
      (λ due. takes.takes k.wakes_as d (taker by) due (record (now k p) { due = without (chosen (looks d (taker by)) ds) ds }))
      (takes.nothing k.wakes_as d (taker by) (now k p))))
      (sym none) (nothing_same by p few)

  run_taken : (r : ℕ) (w : A) (p : Plain T A) → TakesSo c d r p.due → Few k p
      → Same (takes.take k.wakes c (Run r w) p) (takes.take k.wakes_as d (Run r (k.waker w)) (now k p))
  run_taken r w p so few =
      let both = looked c d r p.due so.first so.robs in
      take_so (Run r w) p both.0
      (λ due found. (so.keeps, λ one keeper apart. let last = both.1 due found one keeper apart in so.moves last.0 last.1)) few

  pub take_first : (by : Taker A) → is_try_or_tick by ≡ true → (p : Plain T A) → FirstAlike c d p.due → Few k p
      → Same (takes.take k.wakes c by p) (takes.take k.wakes_as d (taker by) (now k p))
  take_first Try is p alike few = take_so Try p (looks_alike c.first d.first p.due alike) (λ due found. tt) few
  take_first (Tick t w) is p alike few = take_so (Tick t w) p (looks_alike c.first d.first p.due alike) (λ due found. tt) few
  take_first (Run r w) is p alike few = absurd cc

  -- a run, where any is due
  pub take_run : (r : ℕ) (w : A) (p : Plain T A) → (any is_due p.due ≡ true → TakesSo c d r p.due) → Few k p
      → Same (takes.take k.wakes c (Run r w) p) (takes.take k.wakes_as d (Run r (k.waker w)) (now k p))
  take_run r w p alike few = by (any is_due p.due) refl
    where
      by : (b : Bool) → any is_due p.due ≡ b
          → Same (takes.take k.wakes c (Run r w) p) (takes.take k.wakes_as d (Run r (k.waker w)) (now k p))
      by true some = run_taken r w p (alike some) few
      by false none = none_taken (Run r w) p (none_due p.due none) few

  -- what goes on after a future
  gives_way_same : (r : ℕ) (w : A) (p : Plain T A) → Few k p
      → Same (takes.gives_way k.wakes c r w p) (takes.gives_way k.wakes_as d r (k.waker w) (now k p))
  gives_way_same r w p few =
      answers_same Pending
      (or (k.wakes w) (λ f. wake k.wakes tells f q) (see (Calls w) q))
      (or (k.wakes_as (k.waker w)) (λ f. wake k.wakes_as tells_as f q_as) (see (Calls (k.waker w)) q_as))
      (into called_so called_as (runs_alike k (λ run. record run { taken = 0 }) r p few) (λ p few.
      subst (λ o. Same (called_so p) (or o (λ f. wake k.wakes_as tells_as f (now k p)) (see (Calls (k.waker w)) (now k p))))
      (sym (k.same w)) (by p few (k.wakes w))))
    where
      q : Plain T A
      q = runs (λ run. record run { taken = 0 }) r p

      q_as : Plain U B
      q_as = runs (λ run. record run { taken = 0 }) r (now k p)

      called_so : Plain T A → Plain T A
      called_so p = or (k.wakes w) (λ f. wake k.wakes tells f p) (see (Calls w) p)

      called_as : Plain U B → Plain U B
      called_as p = or (k.wakes_as (k.waker w)) (λ f. wake k.wakes_as tells_as f p) (see (Calls (k.waker w)) p)

      by : (p : Plain T A) → Few k p → (o : Option ℕ)
          → Same (or o (λ f. wake k.wakes tells f p) (see (Calls w) p))
          (or o (λ f. wake k.wakes_as tells_as f (now k p)) (see (Calls (k.waker w)) (now k p)))
      by p few None = (see_alike k (Calls w) p few).same
      by p few (Some f) = (wake_alike k tells tells_as (tell_alike k) f p few).same

  pub next_same : RunsAlike c d → (by : Taker A) (p : Plain T A) → Few k p
      → Same (takes.next k.wakes c by p) (takes.next k.wakes_as d (taker by) (now k p))
  next_same on Try p few = answers_same Yes p (now k p) (stays_same p)
  next_same on (Tick t w) p few = answers_same Ready p (now k p) (stays_same p)
  next_same on (Run r w) p few =
      if_same (nat_lt (or (slice_get p.runs r) (λ run. run.taken) 0) 200) (takes.take k.wakes c (Run r w) p)
      (takes.gives_way k.wakes c r w p) (takes.take k.wakes_as d (Run r (k.waker w)) (now k p))
      (takes.gives_way k.wakes_as d r (k.waker w) (now k p)) (take_run r w p (λ some. so) few) (gives_way_same r w p few)
    where
      so : TakesSo c d r p.due
      so = record { keeps = on.keeps; first = λ mine both. on.first; robs = λ mine none. on.robs; moves = λ mine none. on.moves }

  pub lost_same : RunsAlike c d → (awaiter : Option A) (by : Option (Taker A)) (p : Plain T A) → Few k p
      → Same (takes.lost k.wakes c awaiter by p)
      (takes.lost k.wakes_as d (option_map k.waker awaiter) (option_map (taker_as k.waker) by) (now k p))
  lost_same alike awaiter by p few =
      into (goes_on by) (goes_as (option_map (taker_as k.waker) by))
      (on_alike k k.waker awaiter (option_map k.waker awaiter) refl (called k.wakes tells) (called k.wakes_as tells_as) p few
      (λ w. called_alike k tells tells_as (tell_alike k) w p few))
      (next_if by)
    where
      goes_on : Option (Taker A) → Plain T A → Plain T A
      goes_on by q = or by (λ taker. takes.next k.wakes c taker q) (answers Done q)

      goes_as : Option (Taker B) → Plain U B → Plain U B
      goes_as by q = or by (λ taker. takes.next k.wakes_as d taker q) (answers Done q)

      next_if : (by : Option (Taker A)) (p : Plain T A) → Few k p
          → Same (goes_on by p) (goes_as (option_map (taker_as k.waker) by) (now k p))
      next_if None p few = answers_same Done p (now k p) (stays_same p)
      next_if (Some by) p few = next_same alike by p few

  -- what goes out of a task
  abbrev pub left : Left T A → Left U B
  left l = left_as k.output k.waker l

  out_same : RunsAlike c d → (l : Left T A) (by : Option (Taker A)) (p : Plain T A) → Few k p
      → Same (takes.out k.wakes c l by p) (takes.out k.wakes_as d (left l) (option_map (taker_as k.waker) by) (now k p))
  out_same alike l by p few = dropped l.dropped
    where
      goes : Option A → Plain T A → Plain T A
      goes o p = on o (let_go k.wakes tells) p

      goes_as : Option B → Plain U B → Plain U B
      goes_as o p = on o (let_go k.wakes_as tells_as) p

      dropped : (o : Option T)
          → Same (or o (λ v. enters (Lose l.called by) (see (Loses v) p)) (takes.lost k.wakes c l.called by (goes l.let_go p)))
          (or (option_map k.output o)
          (λ v. enters (Lose (option_map k.waker l.called) (option_map (taker_as k.waker) by)) (see (Loses v) (now k p)))
          (takes.lost k.wakes_as d (option_map k.waker l.called) (option_map (taker_as k.waker) by)
          (goes_as (option_map k.waker l.let_go) (now k p))))
      dropped None =
          into (takes.lost k.wakes c l.called by)
          (takes.lost k.wakes_as d (option_map k.waker l.called) (option_map (taker_as k.waker) by))
          (on_alike k k.waker l.let_go (option_map k.waker l.let_go) refl (let_go k.wakes tells) (let_go k.wakes_as tells_as) p few
          (λ w. goes_alike k w p few))
          (lost_same alike l.called by)
      dropped (Some v) =
          (andthen k (enters (Lose l.called by)) (enters (Lose (option_map k.waker l.called) (option_map (taker_as k.waker) by)))
          (see_alike k (Loses v) p few) (enters_alike k (Lose l.called by))).same

  pub ended_same : RunsAlike c d → (f : ℕ) (l : Left T A) (l_as : Left U B) → left l ≡ l_as → (by : Option (Taker A)) (p : Plain T A)
      → Few k p
      → Same (takes.ended k.wakes c f l by p) (takes.ended k.wakes_as d f l_as (option_map (taker_as k.waker) by) (now k p))
  ended_same alike f l l_as is by p few =
      subst
      (λ l_as. Same (takes.ended k.wakes c f l by p)
      (takes.ended k.wakes_as d f l_as (option_map (taker_as k.waker) by) (now k p)))
      is
      (into (takes.out k.wakes c l by) (takes.out k.wakes_as d (left l) (option_map (taker_as k.waker) by))
      (put_alike k f l.task p few) (out_same alike l by))

  pub given_up_alike : (f : ℕ) → Goes k (takes.given_up k.wakes c f) (takes.given_up k.wakes_as d f)
  given_up_alike f p few =
      if_alike k p.is_static (stays k p few) (release_alike k tells tells_as (tell_alike k) f p few)

  pub left_so : (end : End T) (t : AbstractTask T A)
      → left (takes.left_by k.wakes c end t) ≡ takes.left_by k.wakes_as d (end_as k.output end) (its_task k t)
  left_so Closed t = finishes_so k.output k.waker t
  left_so (Gave v) t = ready_so k.output k.waker v t

  pub dropped_same : RunsAlike c d → (f : ℕ) (end : End T) (by : Taker A) (p : Plain T A) → Few k p
      → Same (takes.dropped k.wakes c f end by p) (takes.dropped k.wakes_as d f (end_as k.output end) (taker by) (now k p))
  dropped_same alike f end by p few =
      into
      (λ q. takes.ended k.wakes c f (takes.left_by k.wakes c end (task f q)) (Some by) q)
      (λ q. takes.ended k.wakes_as d f (takes.left_by k.wakes_as d (end_as k.output end) (task f q)) (Some (taker by)) q)
      (andthen k (takes.given_up k.wakes c f) (takes.given_up k.wakes_as d f)
      (changed_alike k (λ future. record future { is_dropped = true }) (λ future. record future { is_dropped = true }) (λ x. refl) f p few)
      (given_up_alike f))
      (λ q few.
      ended_same alike f (takes.left_by k.wakes c end (task f q))
      (takes.left_by k.wakes_as d (end_as k.output end) (task f (now k q)))
      (left_so end (task f q)
      ∙ ap (λ (t : AbstractTask U B). takes.left_by k.wakes_as d (end_as k.output end) t) (task_alike k f q))
      (Some by) q few)
