-- No call takes a future back; a spawn lets one come at most, and one run a call that makes one; and a run keeps 512 at most.
use Rattle.std.proofs.Common.{◌≡◌, ℕ, ◌+◌, ◌≤◌, nat_lt, if◌then◌else◌, Bool, true, false, List, [], ◌∷◌, ◌++◌}
use Rattle.std.proofs.Common.{length, refl, sym, ap, subst, ◌∙◌, arith}
use Rattle.executor_parts.specs.declared.mark.Mark.{Mark}
use Rattle.task_moves.specs.AbstractTask as abstract
use Rattle.task_moves.specs.AbstractTask.{AbstractTask}
use Rattle.solo.specs.declared.names.SoloWaker.{SoloWaker}
use Rattle.plain_scheduler.specs.State.{ATick, Choice, Done, DropOwn, Due, Finished, Full, Future, Made, NoMemory, Plain, PollOwn, Running}
use Rattle.plain_scheduler.specs.State.{Tick, Try}
use Rattle.plain_scheduler.specs.Lists.{each}
use Rattle.plain_scheduler.specs.Moves.{answers, appended, becomes, enters, release, task, tell, wake}
use Rattle.plain_scheduler.specs.Moves as moves
use Rattle.plain_scheduler.specs.Calls as plain
use Rattle.plain_scheduler.specs.Calls.{Call, does, is_granted, living_from}
use Rattle.solo_laws.specs.Making.{comes}
use Rattle.solo_laws.specs.Road.{wakes}
use Rattle.solo_laws.proofs.Following.Adding.{long_last}
use Rattle.solo_laws.proofs.Following.Both.{handled_still}
use Rattle.solo_laws.proofs.Following.Calling.{cancel_still}
use Rattle.solo_laws.proofs.Following.Frames.{appended_still, tell_still}
use Rattle.solo_laws.proofs.Happening.Goers.{goers, one_goer, same_goers}
use Rattle.solo_laws.proofs.Happening.Places.{FewKept}
use Rattle.solo_laws.proofs.Happening.Long.{Long, ◌∘◌, becomes_long, close_long, copy_long, detach_long, each_long, ends_long, freed_long}
use Rattle.solo_laws.proofs.Happening.Long.{gives_long, leaves_long, new_tick_long, of_still, over_long, pends_long, take_long}

same_long : (n m : ℕ) → m ≡ n → n ≤ m
same_long n m is = omega (arith, is)

most_more : (n m k : ℕ) → m ≡ n → m ≤ n + k
most_more n m k is = omega (arith, is)

one_less : (n m : ℕ) → m ≡ n + 1 → n ≤ m
one_less n m is = omega (arith, is)

one_more : (n m : ℕ) → m ≡ n + 1 → m ≤ n + 1
one_more n m is = omega (arith, is)

module _ {T X : Type 0} where
  -- a new run is one more
  abbrev pub begins : Call T (SoloWaker X) → ℕ
  begins Call.NewRun = 1
  begins call = 0

  -- none goes, and so many come at most
  pub record Grows (call : Call T (SoloWaker X)) (p q : Plain T (SoloWaker X)) : Type 0 where
    pub futures : length p.futures ≤ length q.futures
    pub most_futures : length q.futures ≤ length p.futures + comes call
    pub most_runs : length q.runs ≤ length p.runs + begins call
    pub going : goers q.runs ≤ goers p.runs + begins call
    pub kept : FewKept p.due → FewKept q.due

  of_long : (call : Call T (SoloWaker X)) (p q : Plain T (SoloWaker X)) → Long p q → Grows call p q
  of_long call p q l = record {
    futures = same_long (length p.futures) (length q.futures) l.futures;
    most_futures = most_more (length p.futures) (length q.futures) (comes call) l.futures;
    most_runs = most_more (length p.runs) (length q.runs) (begins call) l.runs;
    going = (let less = l.going in omega (arith, less));
    kept = l.kept;
  }

module _ {T X : Type 0} (c : Choice) where
  -- a spawn that isn't refused lets one come
  pub spawn_long : (mark : Mark) (p : Plain T (SoloWaker X)) → nat_lt (length (living_from 0 p.futures)) p.limit ≡ true
      → is_granted c.refusal ≡ true → length (does wakes c (Call.Spawn mark) p).futures ≡ length p.futures + 1
  spawn_long mark p room granted =
      let q = appended (length p.futures) (plain.entered wakes c mark p) in
      ap
      (λ b. length (if b then (if is_granted c.refusal then answers Made (tell wakes c q) else answers NoMemory p)
      else answers Full p).futures) room
      ∙ (ap (λ g. length (if g then answers Made (tell wakes c q) else answers NoMemory p).futures) granted
      ∙ ((tell_still c q).futures ∙ long_last p.futures _))

  spawn_grows : (mark : Mark) (p : Plain T (SoloWaker X)) → Grows (Call.Spawn mark) p (does wakes c (Call.Spawn mark) p)
  spawn_grows mark p = by (nat_lt (length (living_from 0 p.futures)) p.limit) (is_granted c.refusal)
    where
      come : Plain T (SoloWaker X)
      come = appended (length p.futures) (plain.entered wakes c mark p)

      long : length (tell wakes c (appended (length p.futures) (plain.entered wakes c mark p))).futures ≡ length p.futures + 1
      long = (tell_still c (appended (length p.futures) (plain.entered wakes c mark p))).futures ∙ long_last p.futures _

      same : (q : Plain T (SoloWaker X)) → q.futures ≡ p.futures → q.runs ≡ p.runs → q.due ≡ p.due → Grows (Call.Spawn mark) p q
      same q futures runs due =
          of_long (Call.Spawn mark) p q (record {
            futures = ap (λ (fs : List (Future T (SoloWaker X))). length fs) futures;
            runs = ap (λ (rs : List Running). length rs) runs;
            going = same_goers _ _ runs;
            kept = λ few. subst FewKept (sym due) few;
          })

      by : (b g : Bool)
          → Grows (Call.Spawn mark) p (if b then (if g then answers Made
          (tell wakes c (appended (length p.futures) (plain.entered wakes c mark p)))
          else answers NoMemory p) else answers Full p)
      by true true =
          let q = tell wakes c (appended (length p.futures) (plain.entered wakes c mark p)) in
          let still = tell_still c (appended (length p.futures) (plain.entered wakes c mark p)) in
          record {
            futures = one_less (length p.futures) (length q.futures) long;
            most_futures = one_more (length p.futures) (length q.futures) long;
            most_runs = most_more (length p.runs) (length q.runs) 0 (ap (λ (rs : List Running). length rs) still.runs);
            going = (let less = same_goers _ _ still.runs in omega (arith, less));
            kept =
                λ few r.
                subst (λ (ds : List Due). length ds ≤ 512)
                (sym (still.kept r ∙ (appended_still c (length p.futures) (plain.entered wakes c mark p)).kept r)) (few r);
          }
      by true false = same (answers NoMemory p) refl refl refl
      by false g = same (answers Full p) refl refl refl

  new_run_grows : (p : Plain T (SoloWaker X)) → Grows Call.NewRun p (does wakes c Call.NewRun p)
  new_run_grows p = by (is_granted c.refusal)
    where
      by : (g : Bool)
          → Grows Call.NewRun p (if g then answers Made (record p { runs = p.runs ++ record { taken = 0; is_over = false } ∷ [] })
          else answers NoMemory p)
      by true = record {
        futures = omega arith;
        most_futures = omega arith;
        most_runs = one_more (length p.runs) _ (long_last p.runs _);
        going = (let more = one_goer p.runs (record { taken = 0; is_over = false }) in omega (arith, more));
        kept = λ few. few;
      }
      by false = of_long Call.NewRun p (answers NoMemory p) (record { futures = refl; runs = refl; going = omega arith; kept = λ few. few })

  answered : (q p : Plain T (SoloWaker X)) → Long p q → Long p (answers Done q)
  answered q p l = l

  becomes_answers : (f : ℕ) (new : AbstractTask T (SoloWaker X)) (p : Plain T (SoloWaker X))
      → Long p (answers Done (becomes wakes (tell wakes c) f new p))
  becomes_answers f new p = answered (becomes wakes (tell wakes c) f new p) p (becomes_long c f new p)

  pub call_grows : (call : Call T (SoloWaker X)) (p : Plain T (SoloWaker X)) → Grows call p (does wakes c call p)
  call_grows (Call.Spawn mark) p = spawn_grows mark p
  call_grows Call.TryTick p = of_long Call.TryTick p (does wakes c Call.TryTick p) (take_long c Try p)
  call_grows Call.IsEmpty p = of_long Call.IsEmpty p (does wakes c Call.IsEmpty p)
      (record { futures = refl; runs = refl; going = omega arith; kept = λ few. few })
  call_grows (Call.Wake f) p = of_long (Call.Wake f) p (does wakes c (Call.Wake f) p) (becomes_answers f (abstract.wake (task f p)) p)
  call_grows (Call.Use f) p = of_long (Call.Use f) p (does wakes c (Call.Use f) p)
      (becomes_answers f (abstract.release (abstract.wake (task f p))) p)
  call_grows (Call.Copy f) p = of_long (Call.Copy f) p (does wakes c (Call.Copy f) p) (copy_long c f p)
  call_grows (Call.Release f) p = of_long (Call.Release f) p (does wakes c (Call.Release f) p)
      (becomes_answers f (abstract.release (task f p)) p)
  call_grows (Call.PollHandle f w) p = of_long (Call.PollHandle f w) p (does wakes c (Call.PollHandle f w) p)
      (of_still c (handled_still c p f w (abstract.polled (task f p))))
  call_grows (Call.Cancel f) p = of_long (Call.Cancel f) p (does wakes c (Call.Cancel f) p)
      (answered (plain.cancel wakes c f p) p (of_still c (cancel_still c f p)))
  call_grows (Call.Detach f) p = of_long (Call.Detach f) p (does wakes c (Call.Detach f) p) (detach_long c f p)
  call_grows (Call.DropHandle f) p = of_long (Call.DropHandle f) p (does wakes c (Call.DropHandle f) p)
      (detach_long c f (plain.cancel wakes c f p) ∘ of_still c (cancel_still c f p))
  call_grows Call.NewTick p = of_long Call.NewTick p (does wakes c Call.NewTick p) (new_tick_long c p)
  call_grows (Call.PollTick t w) p = of_long (Call.PollTick t w) p (does wakes c (Call.PollTick t w) p) (take_long c (Tick t w) p)
  call_grows (Call.DropTick t) p = of_long (Call.DropTick t) p (does wakes c (Call.DropTick t) p)
      (answered (moves.leaves wakes c (ATick t) p) p (leaves_long c (ATick t) p))
  call_grows Call.NewRun p = new_run_grows p
  call_grows (Call.PollRun r w) p =
      of_long (Call.PollRun r w) p (does wakes c (Call.PollRun r w) p)
      (over_long c r (answers Finished p) (enters (PollOwn r w) p) p
      (record { futures = refl; runs = refl; going = omega arith; kept = λ few. few })
      (record { futures = refl; runs = refl; going = omega arith; kept = λ few. few }))
  call_grows (Call.DropRun r) p =
      of_long (Call.DropRun r) p (does wakes c (Call.DropRun r) p)
      (over_long c r (answers Done p) (enters (DropOwn r Done) p) p
      (record { futures = refl; runs = refl; going = omega arith; kept = λ few. few })
      (record { futures = refl; runs = refl; going = omega arith; kept = λ few. few }))
  call_grows Call.Leak p =
      let q = each (living_from 0 p.futures) (plain.freed wakes c) (record p { is_static = true }) in
      let it = each_long c (living_from 0 p.futures) (plain.freed wakes c) (freed_long c) (record p { is_static = true }) in
      of_long Call.Leak p (does wakes c Call.Leak p) (record { futures = it.futures; runs = it.runs; going = it.going; kept = it.kept })
  call_grows Call.DropExecutor p = of_long Call.DropExecutor p (does wakes c Call.DropExecutor p)
      (close_long c (living_from 0 p.futures) (living_from 0 p.futures) p)
  call_grows Call.Pends p = of_long Call.Pends p (does wakes c Call.Pends p) (pends_long c p)
  call_grows (Call.EndsWith v) p = of_long (Call.EndsWith v) p (does wakes c (Call.EndsWith v) p) (gives_long c v p)
  call_grows Call.Ends p = of_long Call.Ends p (does wakes c Call.Ends p) (ends_long c p)
