-- What lasts so is behind each call, where it is behind each take that the call may come to.
use Rattle.std.proofs.lemmas.Bool.Decides.{nat_tests}
use Rattle.std.proofs.Common.{arith}
use Rattle.std.proofs.Common.{◌≡◌, ℕ, nat_lt, cond, true, false, List, [], ◌∷◌, ◌++◌, length, Option, Some, None, slice_get, refl}
use Rattle.executor_parts.specs.declared.mark.Mark.{Mark}
use Rattle.task_moves.specs.AbstractTask as abstract
use Rattle.task_moves.specs.AbstractTask.{AbstractTask, Left}
use Rattle.plain_scheduler.specs.State.{Answer, ATick, Choice, Close as Closing, Closed, Code, Done, Drop, DropOwn, Drops, End}
use Rattle.plain_scheduler.specs.State.{Finished, Full, Future, Gave, Lose, Loses, Made, No, NoMemory, Plain, Poll}
use Rattle.plain_scheduler.specs.State.{PollOwn, Ready, Run, Taker, Tick, Try, Yes}
use Rattle.plain_scheduler.specs.Lists.{on, or}
use Rattle.plain_scheduler.specs.Moves.{answers, appended, becomes, changed, enters, leaves, let_go, put, release}
use Rattle.plain_scheduler.specs.Moves.{see, task, tell, used, wake}
use Rattle.plain_scheduler.specs.Takes as takes
use Rattle.plain_scheduler.specs.Calls as calls
use Rattle.plain_scheduler.specs.Calls.{Call, does, is_granted, living_from}
use Rattle.plain_laws.proofs.Words.{last_there}
use Rattle.plain_laws.proofs.Walk.{Lasts, becomes_good, calls_good, copied_good, each_good, freed_good, given_up_good, goes_good, if_so}
use Rattle.plain_laws.proofs.Walk.{is_some_so, leaves_good, put_good, release_good, tell_good, used_good, wake_good}

-- a try or tick that has taken one takes none behind that
abbrev pub MayNextOf : {A : Type 0} → (Taker A → Type 0) → Taker A → Type 0
MayNextOf May Try = Unit {0}
MayNextOf May (Tick t w) = Unit {0}
MayNextOf May (Run k w) = May (Run k w)

abbrev pub MayByOf : {A : Type 0} → (Taker A → Type 0) → Option (Taker A) → Type 0
MayByOf May None = Unit {0}
MayByOf May (Some by) = MayNextOf May by

-- what may be taken, and by whom; which user code may begin
pub record Ways {T A : Type 0} (wakes : A → Option ℕ) (c : Choice) (Good After : Plain T A → Type 0) : Type 1 where
  pub lasts : Lasts Good
  pub stops : (p : Plain T A) → Good p → After p
  pub May : Taker A → Type 0
  pub take : (by : Taker A) → May by → (p : Plain T A) → Good p → After (takes.take wakes c by p)
  pub gives_way : (k : ℕ) (w : A) → May (Run k w) → (p : Plain T A) → Good p → After (takes.gives_way wakes c k w p)
  pub MayEnter : Code T A → Type 0
  pub enter : (code : Code T A) → MayEnter code → (p : Plain T A) → Good p → Good (enters code p)
  pub drops : (f : ℕ) (end : End T) (by : Taker A) → MayNextOf May by → MayEnter (Drop f end by)
  pub loses : (awaiter : Option A) (by : Option (Taker A)) → MayByOf May by → MayEnter (Lose awaiter by)
  pub drops_own : (k : ℕ) (answer : Answer T) → MayEnter (DropOwn k answer)
  pub pops : (code : Code T A) (rest : List (Code T A)) (p : Plain T A) → p.inside ≡ code ∷ rest → Good p
      → Good (record p { inside = rest })
  pub MayGo : ℕ → Type 0
  pub gone : (k : ℕ) → MayGo k → (p : Plain T A) → Good p → Good (calls.gone wakes c k p)
  pub MayClose : Type 0
  pub close : MayClose → (fs all : List ℕ) (p : Plain T A) → Good p → After (calls.close wakes c fs all p)

module _ {T A : Type 0} (wakes : A → Option ℕ) (c : Choice) (Good After : Plain T A → Type 0) (ways : Ways wakes c Good After) where
  abbrev tells_so : Plain T A → Plain T A
  tells_so p = tell wakes c p

  abbrev pub MayNext : Taker A → Type 0
  MayNext by = MayNextOf ways.May by

  abbrev pub MayBy : Option (Taker A) → Type 0
  MayBy by = MayByOf ways.May by

  abbrev pub MayCode : Code T A → Type 0
  MayCode (Poll f by) = MayNext by
  MayCode (Drop f end by) = MayNext by
  MayCode (Lose awaiter by) = MayBy by
  MayCode (PollOwn k w) = ways.May (Run k w)
  MayCode (DropOwn k answer) = ways.MayGo k
  MayCode (Closing fs all) = ways.MayClose

  -- a poll's end is none of a drop
  abbrev pub MayStop : Code T A → Type 0
  MayStop (DropOwn k answer) = Unit {0}
  MayStop code = MayCode code

  abbrev pub MayInside : (Code T A → Type 0) → List (Code T A) → Type 0
  MayInside may [] = Unit {0}
  MayInside may (code ∷ rest) = may code

  abbrev pub MayCall : Call T A → Plain T A → Type 0
  MayCall calls.TryTick p = ways.May Try
  MayCall (calls.PollTick t w) p = ways.May (Tick t w)
  MayCall (calls.PollRun k w) p = or (slice_get p.runs k) (λ run. run.is_over) true ≡ false → ways.MayEnter (PollOwn k w)
  MayCall calls.DropExecutor p = ways.MayClose
  MayCall calls.Pends p = MayInside MayStop p.inside
  MayCall (calls.EndsWith v) p = MayInside MayStop p.inside
  MayCall calls.Ends p = MayInside MayCode p.inside
  MayCall _ p = Unit {0}

  abbrev Leads : (Plain T A → Plain T A) → Type 0
  Leads f = (p : Plain T A) → Good p → After (f p)

  same_good : (p q : Plain T A) → p.futures ≡ q.futures → p.due ≡ q.due → p.runs ≡ q.runs → p.inside ≡ q.inside → Good p → Good q
  same_good p q one two three four good = grind (arith, nat_tests)

  -- a drop begins
  dropping_so : (f : ℕ) (end : End T) (by : Taker A) → MayNext by → Leads (takes.dropping wakes c f end by)
  dropping_so f end by may p good =
      ways.stops (takes.dropping wakes c f end by p)
      (ways.enter (Drop f end by) (ways.drops f end by may) (see (Drops f) p)
      (same_good p (see (Drops f) p) refl refl refl refl good))

  -- an answer ends it
  says_so : (a : Answer T) → Leads (answers a)
  says_so a = grind (arith, nat_tests)

  next_so : (by : Taker A) → MayNext by → Leads (takes.next wakes c by)
  next_so Try may p good = says_so Yes p good
  next_so (Tick t w) may p good = says_so Ready p good
  next_so (Run k w) may p good =
      if_so After (nat_lt (or (slice_get p.runs k) (λ run. run.taken) 0) 200) (takes.take wakes c (Run k w) p)
      (takes.gives_way wakes c k w p) (ways.take (Run k w) may p good) (ways.gives_way k w may p good)

  lost_so : (awaiter : Option A) (by : Option (Taker A)) → MayBy by → Leads (takes.lost wakes c awaiter by)
  lost_so awaiter by may = grind (arith, nat_tests, says_so, calls_good, by, next_so)

  out_so : (l : Left T A) (by : Option (Taker A)) → MayBy by → Leads (takes.out wakes c l by)
  out_so l by may p good = out l.dropped
    where
      q : Plain T A
      q = on l.let_go (let_go wakes tells_so) p

      out : (o : Option T) → After (or o (λ v. enters (Lose l.called by) (see (Loses v) p)) (takes.lost wakes c l.called by q))
      out None = lost_so l.called by may q (goes_good Good ways.lasts wakes c l.let_go p good)
      out (Some v) =
          ways.stops (enters (Lose l.called by) (see (Loses v) p))
          (ways.enter (Lose l.called by) (ways.loses l.called by may) (see (Loses v) p)
          (same_good p (see (Loses v) p) refl refl refl refl good))

  ended_so : (f : ℕ) (l : Left T A) (by : Option (Taker A)) → MayBy by → Leads (takes.ended wakes c f l by)
  ended_so f l by may = grind (arith, nat_tests, by, out_so, put_good)

  dropped_so : (f : ℕ) (end : End T) (by : Taker A) → MayNext by → Leads (takes.dropped wakes c f end by)
  dropped_so f end by may p good =
      let p1 = changed (λ future. record future { is_dropped = true }) f p in
      let q = takes.given_up wakes c f p1 in
      ended_so f (takes.left_by wakes c end (task f q)) (Some by) may q
      (given_up_good Good ways.lasts wakes c f p1
      (ways.lasts.changes (λ future. record future { is_dropped = true }) (λ x. refl) f p good))

  -- calls
  granted_so : (x p : Plain T A) → After x → Good p → After (cond (is_granted c.refusal) x (answers NoMemory p))
  granted_so x p one good = grind (arith, nat_tests)

  spawn_so : (m : Mark) → Leads (calls.spawn wakes c m)
  spawn_so m p good =
      let x : Future T A =
      record { task = abstract.spawned (cond p.is_static 0 1); mark = m; is_dropped = false } in
      let p1 : Plain T A = record p { futures = p.futures ++ x ∷ [] } in
      let p2 = appended (length p.futures) p1 in
      let z : Good p2 =
      ways.lasts.appends (length p.futures) p1 (is_some_so (slice_get p1.futures (length p.futures)) x (last_there p.futures x))
      (ways.lasts.accepts x p good) in
      if_so After (nat_lt (length (living_from 0 p.futures)) p.limit)
      (cond (is_granted c.refusal) (answers Made (tells_so p2)) (answers NoMemory p)) (answers Full p)
      (granted_so (answers Made (tells_so p2)) p
      (says_so Made (tells_so p2) (tell_good Good ways.lasts wakes c p2 z)) good)
      (says_so Full p good)

  registered_so : (f : ℕ) (w : A) → Leads (calls.registered wakes c f w)
  registered_so f w = grind (arith, nat_tests, says_so, goes_good, put_good)

  handle_so : (f : ℕ) (w : A) (e : abstract.Polled T) → Leads (calls.handle_by wakes c f w e)
  handle_so f w e = grind (arith, nat_tests, says_so, put_good, granted_so, registered_so, copied_good)

  cancel_good : (f : ℕ) (p : Plain T A) → Good p → Good (calls.cancel wakes c f p)
  cancel_good f p good =
      let l = abstract.cancel (task f p) in
      calls_good Good ways.lasts wakes c l.called (becomes wakes tells_so f l.task p)
      (becomes_good Good ways.lasts wakes tells_so (tell_good Good ways.lasts wakes c) (λ t. (abstract.cancel t).task) refl f p good)

  detach_so : (f : ℕ) → Leads (calls.detach wakes c f)
  detach_so f p good =
      let l = abstract.detach (task f p) in
      let q = becomes wakes tells_so f l.task p in
      ended_so f (record l { task = task f q }) None tt q
      (becomes_good Good ways.lasts wakes tells_so (tell_good Good ways.lasts wakes c) (λ t. (abstract.detach t).task) refl f p good)

  pending_so : (e : abstract.PendingEnd) (f : ℕ) (by : Taker A) → MayNext by → Leads (calls.pending_by wakes c e f by)
  pending_so abstract.PendingEnd.Drops f by may p good = dropping_so f Closed by may p good
  pending_so abstract.PendingEnd.Forgets f by may p good =
      dropping_so f Closed by may (put f (record (task f p) { phase = abstract.Phase.Finished; closed = true }) p)
      (put_good Good ways.lasts wakes f (record (task f p) { phase = abstract.Phase.Finished; closed = true }) p good)
  pending_so abstract.PendingEnd.Queues f by may p good =
      next_so by may (becomes wakes tells_so f (abstract.end_pending (task f p)).task p)
      (becomes_good Good ways.lasts wakes tells_so (tell_good Good ways.lasts wakes c) (λ t. (abstract.end_pending t).task) refl f p good)
  pending_so abstract.PendingEnd.Rests f by may p good =
      next_so by may (becomes wakes tells_so f (abstract.end_pending (task f p)).task p)
      (becomes_good Good ways.lasts wakes tells_so (tell_good Good ways.lasts wakes c) (λ t. (abstract.end_pending t).task) refl f p good)

  pends_so : (code : Code T A) → MayStop code → Leads (calls.pends wakes c code)
  pends_so (Poll f by) may p good = pending_so (abstract.pending_end (task f p)) f by may p good
  pends_so (PollOwn k w) may p good = ways.take (Run k w) may p good
  pends_so (Drop f end by) may p good = ways.stops p good
  pends_so (Lose awaiter by) may p good = ways.stops p good
  pends_so (DropOwn k answer) may p good = ways.stops p good
  pends_so (Closing fs all) may p good = ways.stops p good

  gives_so : (v : T) (code : Code T A) → MayStop code → Leads (calls.gives wakes c v code)
  gives_so v (Poll f by) may p good = dropping_so f (Gave v) by may p good
  gives_so v (PollOwn k w) may p good =
      ways.stops (enters (DropOwn k Ready) p) (ways.enter (DropOwn k Ready) (ways.drops_own k Ready) p good)
  gives_so v (Drop f end by) may p good = ways.stops p good
  gives_so v (Lose awaiter by) may p good = ways.stops p good
  gives_so v (DropOwn k answer) may p good = ways.stops p good
  gives_so v (Closing fs all) may p good = ways.stops p good

  ends_so : (code : Code T A) → MayCode code → Leads (calls.ends wakes c code)
  ends_so (Drop f end by) may p good = dropped_so f end by may p good
  ends_so (Lose awaiter by) may p good = lost_so awaiter by may p good
  ends_so (DropOwn k answer) may p good = says_so answer (calls.gone wakes c k p) (ways.gone k may p good)
  ends_so (Closing fs all) may p good = ways.close may fs all p good
  ends_so (Poll f by) may p good = ways.stops p good
  ends_so (PollOwn k w) may p good = ways.stops p good

  innermost_so : (end : Code T A → Plain T A → Plain T A) (May : Code T A → Type 0) → ((code : Code T A) → May code → Leads (end code))
      → (codes : List (Code T A)) → (p : Plain T A) → p.inside ≡ codes → MayInside May codes → Good p
      → After (calls.innermost wakes c codes end p)
  innermost_so end May leads codes p is may good = grind (arith, nat_tests)

  over_so : (k : ℕ) (a : Answer T) (code : Code T A) (p : Plain T A)
      → (or (slice_get p.runs k) (λ run. run.is_over) true ≡ false → ways.MayEnter code) → Good p
      → After (cond (or (slice_get p.runs k) (λ run. run.is_over) true) (answers a p) (enters code p))
  over_so k a code p may good = grind (arith, nat_tests)

  pub call_so : (call : Call T A) (p : Plain T A) → MayCall call p → Good p → After (does wakes c call p)
  call_so (calls.Spawn m) p may good = spawn_so m p good
  call_so calls.TryTick p may good = ways.take Try may p good
  call_so calls.IsEmpty p may good = says_so (cond (calls.is_none (living_from 0 p.futures)) Yes No) p good
  call_so (calls.Wake f) p may good =
      says_so Done (wake wakes tells_so f p)
      (wake_good Good ways.lasts wakes tells_so (tell_good Good ways.lasts wakes c) f p good)
  call_so (calls.Use f) p may good =
      says_so Done (used wakes tells_so f p)
      (used_good Good ways.lasts wakes tells_so (tell_good Good ways.lasts wakes c) f p good)
  call_so (calls.Copy f) p may good =
      let q = put f (abstract.copy (task f p)) p in
      granted_so (answers Made q) p (says_so Made q (put_good Good ways.lasts wakes f (abstract.copy (task f p)) p good)) good
  call_so (calls.Release f) p may good =
      says_so Done (release wakes tells_so f p)
      (release_good Good ways.lasts wakes tells_so (tell_good Good ways.lasts wakes c) f p good)
  call_so (calls.PollHandle f w) p may good = handle_so f w (abstract.polled (task f p)) p good
  call_so (calls.Cancel f) p may good = says_so Done (calls.cancel wakes c f p) (cancel_good f p good)
  call_so (calls.Detach f) p may good = detach_so f p good
  call_so (calls.DropHandle f) p may good = detach_so f (calls.cancel wakes c f p) (cancel_good f p good)
  call_so calls.NewTick p may good = granted_so (answers Made p) p (says_so Made p good) good
  call_so (calls.PollTick t w) p may good = ways.take (Tick t w) may p good
  call_so (calls.DropTick t) p may good =
      says_so Done (leaves wakes c (ATick t) p) (leaves_good Good ways.lasts wakes c (ATick t) p good)
  call_so calls.NewRun p may good =
      let q : Plain T A = record p { runs = p.runs ++ record { taken = 0; is_over = false } ∷ [] } in
      granted_so (answers Made q) p
      (says_so Made q (ways.lasts.makes (record { taken = 0; is_over = false }) p good)) good
  call_so (calls.PollRun k w) p may good = over_so k Finished (PollOwn k w) p may good
  call_so (calls.DropRun k) p may good = over_so k Done (DropOwn k Done) p (λ is. ways.drops_own k Done) good
  call_so calls.Leak p may good =
      let q : Plain T A = record p { is_static = true } in
      says_so Done (calls.leak wakes c p)
      (each_good Good (living_from 0 p.futures) (calls.freed wakes c) (freed_good Good ways.lasts wakes c) q
      (same_good p q refl refl refl refl good))
  call_so calls.DropExecutor p may good = ways.close may (living_from 0 p.futures) (living_from 0 p.futures) p good
  call_so calls.Pends p may good = innermost_so (calls.pends wakes c) MayStop pends_so p.inside p refl may good
  call_so (calls.EndsWith v) p may good = innermost_so (calls.gives wakes c v) MayStop (gives_so v) p.inside p refl may good
  call_so calls.Ends p may good = innermost_so (calls.ends wakes c) MayCode ends_so p.inside p refl may good
