-- Between two calls on the plain scheduler each run has taken fewer than 200 since it last let others go first: behind its 200th it does.
use Rattle.std.proofs.Common.{◌≡◌, ℕ, zero, suc, ◌==◌, nat_lt, Bool, true, false, List, [], ◌∷◌, ◌++◌, Option, Some, None}
use Rattle.std.proofs.Common.{slice_get, if◌then◌else◌, refl, sym, ap, subst, ◌∙◌, arith}
use Rattle.std.specs.Prelude.{count_by, find}
use Rattle.std.proofs.lemmas.Bool.Decides.{nat_tests}
use Rattle.task_moves.specs.AbstractTask as abstract
use Rattle.task_moves.specs.AbstractTask.{AbstractTask}
use Rattle.executor_model.specs.declared.op.Waker.{Waker}
use Rattle.plain_scheduler.specs.State.{ARun, ATick, Calls, Choice, Close, Closed, Code, Drop, DropOwn, Due, End}
use Rattle.plain_scheduler.specs.State.{Done, Lose, Loses, Pending, Plain, Poll, PollOwn, Polls, Run, Running, Taker, Tick, Try}
use Rattle.plain_scheduler.specs.Lists.{on, or, repeat, without}
use Rattle.plain_scheduler.specs.Moves.{answers, appended, becomes, called, chosen, enters, given_back, is_common, is_kept, keeps, leaves}
use Rattle.plain_scheduler.specs.Moves.{let_go, looks, put, see, task, tell, up}
use Rattle.plain_scheduler.specs.Moves as plain
use Rattle.plain_scheduler.specs.Takes as plain_takes
use Rattle.plain_scheduler.specs.Calls as calls
use Rattle.plain_scheduler.specs.Calls.{does}
use Rattle.machine_roads.specs.View.{Output, wakes}
use Rattle.machine_roads.specs.Lone.{is_end}
use Rattle.machine_roads.proofs.Aside.{becomes_keeps, goes_keeps, leaves_keeps, put_keeps, rests_keeps}
use Rattle.machine_roads.proofs.Aside.{up_keeps}
use Rattle.machine_roads.proofs.Lists.{clash, same_of}
use Rattle.machine_roads.proofs.Runs.{changed, changed_rest, ended_run, one_more, runs_is}
use Rattle.machine_roads.proofs.RunApart.{Sight, aside, called_sight, each_sight, given_up_sight, keeps_sight, repeats_sight, robbed_sight}
use Rattle.machine_roads.proofs.RunApart.{sight, tell_sight}

abbrev pub few : List Running → ℕ → Bool
few rs r = or (slice_get rs r) (λ run. nat_lt run.taken 200) true

abbrev pub AllFew : List Running → Type 0
AllFew rs = (r : ℕ) → or (slice_get rs r) (λ run. nat_lt run.taken 200) true ≡ true

-- but one
abbrev FewBut : List Running → ℕ → Type 0
FewBut rs k = (r : ℕ) → (r == k) ≡ false → few rs r ≡ true

-- who stands in the code of what it took may have taken its 200th
abbrev ByTaker : Taker Waker → List Running → Type 0
ByTaker (Run r a) rs = FewBut rs r
ByTaker (Tick t a) rs = AllFew rs
ByTaker Try rs = AllFew rs

abbrev InCode : Code Output Waker → List Running → Type 0
InCode (Poll f by) rs = ByTaker by rs
InCode (Drop f why by) rs = ByTaker by rs
InCode (Lose awaiter (Some by)) rs = ByTaker by rs
InCode (Lose awaiter None) rs = AllFew rs
InCode (PollOwn r a) rs = AllFew rs
InCode (DropOwn r x) rs = AllFew rs
InCode (Close fs all) rs = ⊥

-- in no code, or in one
abbrev pub InCodes : List (Code Output Waker) → List Running → Type 0
InCodes [] rs = AllFew rs
InCodes (code ∷ codes) rs = InCode code rs × (codes ≡ [])

abbrev pub Counts : Plain Output Waker → Type 0
Counts q = InCodes q.inside q.runs

-- lists of runs, of which one changes

module _ (h : Running → Running) where
  other_few : (rs : List Running) (r k : ℕ) → (k == r) ≡ false → few (changed h r rs) k ≡ few rs k
  other_few [] r k apart = refl
  other_few (x ∷ xs) zero zero apart = absurd (clash apart refl)
  other_few (x ∷ xs) zero (suc k) apart = refl
  other_few (x ∷ xs) (suc r) zero apart = ap (λ rs. few rs zero) (changed_rest h x xs r)
  other_few (x ∷ xs) (suc r) (suc k) apart = ap (λ rs. few rs (suc k)) (changed_rest h x xs r) ∙ other_few xs r k (below apart)
    where
      below : (suc k == suc r) ≡ false → (k == r) ≡ false
      below is = grind (arith, nat_tests)

  one_few : ((run : Running) → nat_lt (h run).taken 200 ≡ true) → (rs : List Running) (r : ℕ) → few (changed h r rs) r ≡ true
  one_few now [] r = refl
  one_few now (x ∷ xs) zero = now x
  one_few now (x ∷ xs) (suc r) = ap (λ rs. few rs (suc r)) (changed_rest h x xs r) ∙ one_few now xs r

  same_few : ((run : Running) → (h run).taken ≡ run.taken) → (rs : List Running) (r k : ℕ) → few (changed h r rs) k ≡ few rs k
  same_few same [] r k = refl
  same_few same (x ∷ xs) zero zero = ap (λ n. nat_lt n 200) (same x)
  same_few same (x ∷ xs) zero (suc k) = refl
  same_few same (x ∷ xs) (suc r) zero = ap (λ rs. few rs zero) (changed_rest h x xs r)
  same_few same (x ∷ xs) (suc r) (suc k) = ap (λ rs. few rs (suc k)) (changed_rest h x xs r) ∙ same_few same xs r k

few_now : (rs : List Running) (r : ℕ) → nat_lt (or (slice_get rs r) (λ run. run.taken) 0) 200 ≡ true → few rs r ≡ true
few_now rs r is = by (slice_get rs r) is
  where
    by : (o : Option Running) → nat_lt (or o (λ run. run.taken) 0) 200 ≡ true → or o (λ run. nat_lt run.taken 200) true ≡ true
    by None is = refl
    by (Some run) is = is

all_now : (rs : List Running) (r : ℕ) → FewBut rs r → few rs r ≡ true → AllFew rs
all_now rs r others now k = by (k == r) refl
  where
    by : (b : Bool) → (k == r) ≡ b → few rs k ≡ true
    by true here = ap (few rs) (same_of k r here) ∙ now
    by false apart = others k apart

pub pushed : (rs : List Running) → AllFew rs → AllFew (rs ++ record { taken = 0; is_over = false } ∷ [])
pushed rs all r = by rs r (all r)
  where
    by : (rs : List Running) (r : ℕ) → few rs r ≡ true → few (rs ++ record { taken = 0; is_over = false } ∷ []) r ≡ true
    by [] zero is = refl
    by [] (suc r) is = refl
    by (x ∷ xs) zero is = is
    by (x ∷ xs) (suc r) is = by xs r is

-- at rest before
pub record AtRest (q : Plain Output Waker) : Type 0 where
  pub nowhere : q.inside ≡ []
  pub all : AllFew q.runs

pub rest_same : (q r : Plain Output Waker) → sight r ≡ sight q → AtRest q → AtRest r
rest_same q r same rest = record {
  nowhere = ap (λ (s : Sight). s.inside) same ∙ rest.nowhere;
  all = subst (λ (s : Sight). AllFew s.runs) (sym same) rest.all;
}

pub counts_same : (q r : Plain Output Waker) → sight r ≡ sight q → Counts q → Counts r
counts_same q r same counts = subst (λ (s : Sight). InCodes s.inside s.runs) (sym same) counts

pub counts_at : (q : Plain Output Waker) → AtRest q → Counts q
counts_at q rest = subst (λ codes. InCodes codes q.runs) (sym rest.nowhere) rest.all

module _ (c : Choice) where
  runs_taken : (f : ℕ) (by : Taker Waker) (q : Plain Output Waker) → q.inside ≡ [] → ByTaker by q.runs
      → Counts (plain_takes.run wakes c f by q)
  runs_taken f by q nowhere few = begins (task f q).closed
    where
      new : AbstractTask Output Waker
      new = abstract.begin_run (task f q)

      same : sight (put f new q) ≡ sight q
      same = put_keeps sight aside f new q

      begins : (b : Bool)
          → Counts (if b then plain_takes.dropping wakes c f Closed by q else enters (Poll f by) (see (Polls f) (put f new q)))
      begins true = (few, nowhere)
      begins false = (subst (λ (s : Sight). ByTaker by s.runs) (sym same) few, ap (λ (s : Sight). s.inside) same ∙ nowhere)

  takes_one : (by : Taker Waker) (d : Due) (q : Plain Output Waker) → AtRest q → Counts (plain_takes.takes wakes c by d q)
  takes_one Try d q rest =
      let z = tell wakes c q in
      let r = rest_same q z (tell_sight c q) rest in
      runs_taken d.future Try z r.nowhere r.all
  takes_one (Tick t a) d q rest =
      let z = tell wakes c (up wakes c (ATick t) q) in
      let r = rest_same q z (tell_sight c (up wakes c (ATick t) q) ∙ up_keeps sight aside c (ATick t) q) rest in
      runs_taken d.future (Tick t a) z r.nowhere r.all
  takes_one (Run r a) d q rest =
      let q1 = plain_takes.robbed wakes c r d.keeper q in
      let q2 = tell wakes c (up wakes c (ARun r) q1) in
      let q3 = plain_takes.kept wakes c r q2 in
      let same : sight q3 ≡ sight q =
      each_sight c c.keeps (λ mark. keeps r (is_common mark)) (λ mark z. keeps_sight c r (is_common mark) z) q2
      ∙ (tell_sight c (up wakes c (ARun r) q1) ∙ (up_keeps sight aside c (ARun r) q1 ∙ robbed_sight c r d.keeper q)) in
      let k = rest_same q q3 same rest in
      subst (λ z. Counts (plain_takes.run wakes c d.future (Run r a) z)) (sym (runs_is one_more r q3))
      (runs_taken d.future (Run r a) (record q3 { runs = changed one_more r q3.runs }) k.nowhere
      (λ j apart. other_few one_more q3.runs r j apart ∙ k.all j))

  takes_nothing : (by : Taker Waker) (q : Plain Output Waker) → AtRest q → Counts (plain_takes.nothing wakes c by q)
  takes_nothing Try q rest = counts_at q rest
  takes_nothing (Tick t a) q rest =
      counts_same q (plain_takes.nothing wakes c (Tick t a) q) (rests_keeps sight aside c c.refusal (ATick t) a q) (counts_at q rest)
  takes_nothing (Run r a) q rest =
      counts_same q (plain_takes.nothing wakes c (Run r a) q) (rests_keeps sight aside c c.refusal (ARun r) a q) (counts_at q rest)

  pub takes : (by : Taker Waker) (q : Plain Output Waker) → AtRest q → Counts (plain_takes.take wakes c by q)
  takes by q rest = found (find test q.due)
    where
      test : Due → Bool
      test = chosen (looks c by) q.due

      found : (o : Option Due)
          → Counts (or o (λ d. plain_takes.takes wakes c by d (record q { due = without test q.due })) (plain_takes.nothing wakes c by q))
      found None = takes_nothing by q rest
      found (Some d) =
          takes_one by d (record q { due = without test q.due }) (record { nowhere = rest.nowhere; all = rest.all })

  -- what takes goes on
  next : (by : Taker Waker) (q : Plain Output Waker) → q.inside ≡ [] → ByTaker by q.runs → Counts (plain_takes.next wakes c by q)
  next Try q nowhere few = counts_at q (record { nowhere = nowhere; all = few })
  next (Tick t a) q nowhere few = counts_at q (record { nowhere = nowhere; all = few })
  next (Run r a) q nowhere few = by (nat_lt (or (slice_get q.runs r) (λ run. run.taken) 0) 200) refl
    where
      h : Running → Running
      h run = record run { taken = 0 }

      q1 : Plain Output Waker
      q1 = record q { runs = changed h r q.runs }

      woken : (o : Option ℕ)
          → sight (or o (λ f. plain.wake wakes (tell wakes c) f q1) (see (Calls a) q1)) ≡ sight q1
      woken None = refl
      woken (Some f) = becomes_keeps sight aside c f (abstract.wake (task f q1)) q1

      zeroed : AtRest q1
      zeroed = record {
        nowhere = nowhere;
        all = all_now (changed h r q.runs) r (λ k apart. other_few h q.runs r k apart ∙ few k apart) (one_few h (λ run. refl) q.runs r);
      }

      by : (x : Bool) → nat_lt (or (slice_get q.runs r) (λ run. run.taken) 0) 200 ≡ x
          → Counts (if x then plain_takes.take wakes c (Run r a) q else plain_takes.gives_way wakes c r a q)
      by true now = takes (Run r a) q (record { nowhere = nowhere; all = all_now q.runs r few (few_now q.runs r now) })
      by false last =
          subst (λ z. Counts (answers Pending (or (wakes a) (λ f. plain.wake wakes (tell wakes c) f z) (see (Calls a) z))))
          (sym (runs_is h r q))
          (counts_same q1 (or (wakes a) (λ f. plain.wake wakes (tell wakes c) f q1) (see (Calls a) q1)) (woken (wakes a))
          (counts_at q1 zeroed))

  -- by a taker, or by none
  abbrev ByOne : Option (Taker Waker) → List Running → Type 0
  ByOne None rs = AllFew rs
  ByOne (Some by) rs = ByTaker by rs

  lost : (awaiter : Option Waker) (by : Option (Taker Waker)) (q : Plain Output Waker) → q.inside ≡ [] → ByOne by q.runs
      → Counts (plain_takes.lost wakes c awaiter by q)
  lost awaiter by q nowhere few = goes by few
    where
      z : Plain Output Waker
      z = on awaiter (called wakes (tell wakes c)) q

      same : sight z ≡ sight q
      same = called_sight c awaiter q

      goes : (by : Option (Taker Waker)) → ByOne by q.runs → Counts (or by (λ taker. plain_takes.next wakes c taker z) (answers Done z))
      goes None few = counts_same q z same (counts_at q (record { nowhere = nowhere; all = few }))
      goes (Some taker) few =
          next taker z (ap (λ (s : Sight). s.inside) same ∙ nowhere) (subst (λ (s : Sight). ByTaker taker s.runs) (sym same) few)

  out : (left : abstract.Left Output Waker) (by : Option (Taker Waker)) (q : Plain Output Waker) → q.inside ≡ [] → ByOne by q.runs
      → Counts (plain_takes.out wakes c left by q)
  out left by q nowhere few = goes left.dropped
    where
      z : Plain Output Waker
      z = on left.let_go (let_go wakes (tell wakes c)) q

      same : sight z ≡ sight q
      same = goes_keeps sight aside c left.let_go q

      in_loss : (by : Option (Taker Waker)) → ByOne by q.runs → InCode (Lose left.called by) q.runs
      in_loss None few = few
      in_loss (Some taker) few = few

      goes : (o : Option Output)
          → Counts (or o (λ v. enters (Lose left.called by) (see (Loses v) q)) (plain_takes.lost wakes c left.called by z))
      goes None =
          lost left.called by z (ap (λ (s : Sight). s.inside) same ∙ nowhere) (subst (λ (s : Sight). ByOne by s.runs) (sym same) few)
      goes (Some v) = (in_loss by few, nowhere)

  pub ended_by : (f : ℕ) (left : abstract.Left Output Waker) (by : Option (Taker Waker)) (q : Plain Output Waker) → q.inside ≡ []
      → ByOne by q.runs → Counts (plain_takes.ended wakes c f left by q)
  ended_by f left by q nowhere few =
      let same = put_keeps sight aside f left.task q in
      out left by (put f left.task q) (ap (λ (s : Sight). s.inside) same ∙ nowhere)
      (subst (λ (s : Sight). ByOne by s.runs) (sym same) few)

  -- a future is dropped, and the scheduler's waker goes
  dropped : (f : ℕ) (why : End Output) (by : Taker Waker) (q : Plain Output Waker) → q.inside ≡ [] → ByTaker by q.runs
      → Counts (plain_takes.dropped wakes c f why by q)
  dropped f why by q nowhere few =
      let z = plain_takes.given_up wakes c f (plain.changed (λ future. record future { is_dropped = true }) f q) in
      let same : sight z ≡ sight q = given_up_sight c f q in
      ended_by f (plain_takes.left_by wakes c why (task f z)) (Some by) z (ap (λ (s : Sight). s.inside) same ∙ nowhere)
      (subst (λ (s : Sight). ByTaker by s.runs) (sym same) few)

  pended : (e : abstract.PendingEnd) (f : ℕ) (by : Taker Waker) (q : Plain Output Waker) → q.inside ≡ [] → ByTaker by q.runs
      → Counts (calls.pending_by wakes c e f by q)
  pended abstract.PendingEnd.Drops f by q nowhere few = (few, nowhere)
  pended abstract.PendingEnd.Forgets f by q nowhere few =
      let new : AbstractTask Output Waker = record (task f q) { phase = abstract.Phase.Finished; closed = true } in
      let same = put_keeps sight aside f new q in
      (subst (λ (s : Sight). ByTaker by s.runs) (sym same) few, ap (λ (s : Sight). s.inside) same ∙ nowhere)
  pended abstract.PendingEnd.Rests f by q nowhere few = goes_on (abstract.end_pending (task f q)).task
    where
      goes_on : (new : AbstractTask Output Waker) → Counts (plain_takes.next wakes c by (becomes wakes (tell wakes c) f new q))
      goes_on new =
          let same = becomes_keeps sight aside c f new q in
          next by (becomes wakes (tell wakes c) f new q) (ap (λ (s : Sight). s.inside) same ∙ nowhere)
          (subst (λ (s : Sight). ByTaker by s.runs) (sym same) few)
  pended abstract.PendingEnd.Queues f by q nowhere few = goes_on (abstract.end_pending (task f q)).task
    where
      goes_on : (new : AbstractTask Output Waker) → Counts (plain_takes.next wakes c by (becomes wakes (tell wakes c) f new q))
      goes_on new =
          let same = becomes_keeps sight aside c f new q in
          next by (becomes wakes (tell wakes c) f new q) (ap (λ (s : Sight). s.inside) same ∙ nowhere)
          (subst (λ (s : Sight). ByTaker by s.runs) (sym same) few)

  -- a run goes
  gone : (r : ℕ) (q : Plain Output Waker) → AtRest q → Counts (calls.gone wakes c r q)
  gone r q rest =
      let q1 : Plain Output Waker = record q { runs = changed ended_run r q.runs } in
      let h : Plain Output Waker → Plain Output Waker = λ p. tell wakes c (given_back r p) in
      let n = count_by (is_kept r) q.due in
      let same : sight (leaves wakes c (ARun r) (repeat n h q1)) ≡ sight q1 =
      leaves_keeps sight aside c (ARun r) (repeat n h q1) ∙ repeats_sight c n h (λ p. tell_sight c (given_back r p) ∙ back p) q1 in
      subst (λ z. Counts (leaves wakes c (ARun r) (repeat n h z))) (sym (runs_is ended_run r q))
      (counts_same q1 (leaves wakes c (ARun r) (repeat n h q1)) same
      (counts_at q1 (record { nowhere = rest.nowhere; all = λ k. same_few ended_run (λ run. refl) q.runs r k ∙ rest.all k })))
    where
      back : (p : Plain Output Waker) → sight (given_back r p) ≡ sight p
      back p = by (find (is_kept r) p.due)
        where
          by : (o : Option Due) → sight (on o (λ d p. appended d.future (record p { due = without (is_kept r) p.due })) p) ≡ sight p
          by None = refl
          by (Some d) = refl

  -- user code ends
  pends : (code : Code Output Waker) (codes : List (Code Output Waker)) (q : Plain Output Waker) → q.inside ≡ [] → InCode code q.runs
      → is_end (code ∷ codes) calls.Pends ≡ true → Counts (calls.pends wakes c code q)
  pends (Poll f by) codes q nowhere few fit = pended (abstract.pending_end (task f q)) f by q nowhere few
  pends (PollOwn r a) codes q nowhere few fit = takes (Run r a) q (record { nowhere = nowhere; all = few })
  pends code codes q nowhere few fit = absurd cc

  gives : (v : Output) (code : Code Output Waker) (codes : List (Code Output Waker)) (q : Plain Output Waker) → q.inside ≡ []
      → InCode code q.runs → is_end (code ∷ codes) (calls.EndsWith v) ≡ true → Counts (calls.gives wakes c v code q)
  gives v (Poll f by) codes q nowhere few fit = (few, nowhere)
  gives v (PollOwn r a) codes q nowhere few fit = (few, nowhere)
  gives v code codes q nowhere few fit = absurd cc

  ends_in : (code : Code Output Waker) (codes : List (Code Output Waker)) (q : Plain Output Waker) → q.inside ≡ []
      → InCode code q.runs → is_end (code ∷ codes) calls.Ends ≡ true → Counts (calls.ends wakes c code q)
  ends_in (Drop f why by) codes q nowhere few fit = dropped f why by q nowhere few
  ends_in (Lose awaiter None) codes q nowhere few fit = lost awaiter None q nowhere few
  ends_in (Lose awaiter (Some by)) codes q nowhere few fit = lost awaiter (Some by) q nowhere few
  ends_in (DropOwn r x) codes q nowhere few fit =
      let z = calls.gone wakes c r q in
      counts_same z (answers x z) refl (gone r q (record { nowhere = nowhere; all = few }))
  ends_in (Close fs all) codes q nowhere few fit = absurd few
  ends_in code codes q nowhere few fit = absurd cc

  pub code_ends : (e : calls.Call Output Waker) (q : Plain Output Waker) → is_end q.inside e ≡ true → Counts q → Counts (does wakes c e q)
  code_ends calls.Pends q fit few = by q.inside fit few
    where
      by : (codes : List (Code Output Waker)) → is_end codes calls.Pends ≡ true → InCodes codes q.runs
          → Counts (calls.innermost wakes c codes (calls.pends wakes c) q)
      by [] fit few = absurd cc
      by (code ∷ codes) fit few = pends code codes (record q { inside = codes }) few.1 few.0 fit
  code_ends (calls.EndsWith v) q fit few = by q.inside fit few
    where
      by : (codes : List (Code Output Waker)) → is_end codes (calls.EndsWith v) ≡ true → InCodes codes q.runs
          → Counts (calls.innermost wakes c codes (calls.gives wakes c v) q)
      by [] fit few = absurd cc
      by (code ∷ codes) fit few = gives v code codes (record q { inside = codes }) few.1 few.0 fit
  code_ends calls.Ends q fit few = by q.inside fit few
    where
      by : (codes : List (Code Output Waker)) → is_end codes calls.Ends ≡ true → InCodes codes q.runs
          → Counts (calls.innermost wakes c codes (calls.ends wakes c) q)
      by [] fit few = absurd cc
      by (code ∷ codes) fit few = ends_in code codes (record q { inside = codes }) few.1 few.0 fit
  code_ends e q fit few = by q.inside fit
    where
      by : (codes : List (Code Output Waker)) → is_end codes e ≡ true → Counts (does wakes c e q)
      by [] fit = absurd cc
      by (Poll f taker ∷ codes) fit = absurd cc
      by (PollOwn r a ∷ codes) fit = absurd cc
      by (Drop f why taker ∷ codes) fit = absurd cc
      by (Lose awaiter taker ∷ codes) fit = absurd cc
      by (DropOwn r x ∷ codes) fit = absurd cc
      by (Close fs all ∷ codes) fit = absurd cc
