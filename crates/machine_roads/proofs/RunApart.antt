-- What a code that ends does to runs in the plain scheduler: to others than the one that took, nothing; and that one has taken fewer than
-- 200 once its poll has ended.
use Rattle.std.proofs.Common.{◌≡◌, ◌⊎◌, ℕ, zero, suc, ◌==◌, nat_lt, Bool, true, false, List, [], ◌∷◌, ◌++◌, length, Option, Some, None}
use Rattle.std.proofs.Common.{inl, inr, ⊎_elim, slice_get, slice_set, if◌then◌else◌, refl, sym, ap, subst, ◌∙◌, arith}
use Rattle.std.specs.Prelude.{count_by, find}
use Rattle.std.proofs.lemmas.Bool.Decides.{nat_tests}
use Rattle.task_moves.specs.AbstractTask as abstract
use Rattle.task_moves.specs.AbstractTask.{AbstractTask}
use Rattle.executor_model.specs.declared.op.Waker.{Waker}
use Rattle.plain_scheduler.specs.State.{ARun, ATick, Calls, Choice, Closed, Code, Drop, Drops, Due, End, Future, Gave}
use Rattle.plain_scheduler.specs.State.{Lose, Loses, Plain, Poll, Polls, Run, Running, Taker, Tick, Try}
use Rattle.plain_scheduler.specs.Lists.{each, on, or, repeat, without}
use Rattle.plain_scheduler.specs.Moves.{appended, becomes, called, chosen, enters, given_back, is_common, is_kept, keeps, leaves}
use Rattle.plain_scheduler.specs.Moves.{let_go, looks, moved, put, see, task, tell, up}
use Rattle.plain_scheduler.specs.Moves as plain
use Rattle.plain_scheduler.specs.Takes as plain_takes
use Rattle.plain_scheduler.specs.Calls as calls
use Rattle.machine_roads.specs.View.{Output, wakes}
use Rattle.machine_roads.specs.Stopped.{taken_by}
use Rattle.machine_roads.proofs.Aside.{IsAside, becomes_keeps, called_with, goes_keeps, leaves_keeps, put_keeps, rests_keeps}
use Rattle.machine_roads.proofs.Aside.{tell_keeps, up_keeps}
use Rattle.machine_roads.proofs.Lists.{same_of, set_other, set_same}
use Rattle.machine_roads.proofs.Runs.{changed, ended_run, one_more, runs_is}

turned_round : (n m : ℕ) → (n == m) ≡ false → (m == n) ≡ false
turned_round n m is = grind (arith, nat_tests)

-- the code in which it stands, and the runs
pub record Sight : Type 0 where
  pub inside : List (Code Output Waker)
  pub runs : List Running

abbrev pub sight : Plain Output Waker → Sight
sight q = record { inside = q.inside; runs = q.runs }

pub aside : IsAside sight
aside = record { futures = λ q fs. refl; due = λ q f. refl; lying = λ q ls. refl; seen = λ q e. refl }

module _ (c : Choice) where
  pub keeps_sight : (r : ℕ) (test : Due → Bool) (q : Plain Output Waker) → sight (keeps r test q) ≡ sight q
  keeps_sight r test q = by (nat_lt (count_by (is_kept r) q.due) 512)
    where
      taken : (o : Option Due)
          → sight (on o (λ d p. record p { due = without test p.due ++ record d { keeper = Some r } ∷ [] }) q) ≡ sight q
      taken None = refl
      taken (Some d) = refl

      by : (b : Bool) → sight (if b then moved r test q else q) ≡ sight q
      by true = taken (find test q.due)
      by false = refl

  pub repeats_sight : (n : ℕ) (h : Plain Output Waker → Plain Output Waker) → ((q : Plain Output Waker) → sight (h q) ≡ sight q)
      → (q : Plain Output Waker) → sight (repeat n h q) ≡ sight q
  repeats_sight zero h keep q = refl
  repeats_sight (suc n) h keep q = repeats_sight n h keep (h q) ∙ keep q

  pub each_sight : {B : Type 0} (bs : List B) (h : B → Plain Output Waker → Plain Output Waker)
      → ((b : B) (q : Plain Output Waker) → sight (h b q) ≡ sight q) → (q : Plain Output Waker) → sight (each bs h q) ≡ sight q
  each_sight [] h keep q = refl
  each_sight (b ∷ bs) h keep q = each_sight bs h keep (h b q) ∙ keep b q

  pub robbed_sight : (r : ℕ) (keeper : Option ℕ) (q : Plain Output Waker) → sight (plain_takes.robbed wakes c r keeper q) ≡ sight q
  robbed_sight r None q = refl
  robbed_sight r (Some k) q = by (r == k)
    where
      by : (b : Bool) → sight (if b then q else repeat c.moves (keeps r (is_kept k)) q) ≡ sight q
      by true = refl
      by false = repeats_sight c.moves (keeps r (is_kept k)) (keeps_sight r (is_kept k)) q

  pub tell_sight : (q : Plain Output Waker) → sight (tell wakes c q) ≡ sight q
  tell_sight q = tell_keeps sight aside c q

  pub given_up_sight : (f : ℕ) (q : Plain Output Waker)
      → sight (plain_takes.given_up wakes c f (plain.changed (λ future. record future { is_dropped = true }) f q)) ≡ sight q
  given_up_sight f q = by marked.is_static ∙ was (slice_get q.futures f)
    where
      marked : Plain Output Waker
      marked = plain.changed (λ future. record future { is_dropped = true }) f q

      by : (b : Bool) → sight (if b then marked else plain.release wakes (tell wakes c) f marked) ≡ sight marked
      by true = refl
      by false = becomes_keeps sight aside c f (abstract.release (task f marked)) marked

      was : (o : Option (Future Output Waker))
          → sight (on o (λ future p. record p { futures = slice_set p.futures f (record future { is_dropped = true }) }) q) ≡ sight q
      was None = refl
      was (Some x) = refl

  -- one that takes counts one more, and stands in one code more, or took nothing
  abbrev pub taking : Taker Waker → List Running → List Running
  taking (Run r a) rs = changed one_more r rs
  taking by rs = rs

  pub record Took (by : Taker Waker) (q z : Plain Output Waker) : Type 0 where
    pub inside : length z.inside ≡ suc (length q.inside)
    pub runs : z.runs ≡ taking by q.runs

  begins : (f : ℕ) (by : Taker Waker) (q : Plain Output Waker)
      → (length (plain_takes.run wakes c f by q).inside ≡ suc (length q.inside)) × ((plain_takes.run wakes c f by q).runs ≡ q.runs)
  begins f by q = goes (task f q).closed
    where
      new : AbstractTask Output Waker
      new = abstract.begin_run (task f q)

      goes : (b : Bool)
          → (length (if b then plain_takes.dropping wakes c f Closed by q
          else enters (Poll f by) (see (Polls f) (put f new q))).inside ≡ suc (length q.inside))
          × ((if b then plain_takes.dropping wakes c f Closed by q
          else enters (Poll f by) (see (Polls f) (put f new q))).runs ≡ q.runs)
      goes true = (refl, refl)
      goes false =
          let same = put_keeps sight aside f new q in (ap (λ (s : Sight). suc (length s.inside)) same, ap (λ (s : Sight). s.runs) same)

  takes_by : (by : Taker Waker) (d : Due) (q : Plain Output Waker) → Took by q (plain_takes.takes wakes c by d q)
  takes_by Try d q =
      let z = tell wakes c q in
      let g = begins d.future Try z in
      let same = tell_sight q in
      record { inside = g.0 ∙ ap (λ (s : Sight). suc (length s.inside)) same; runs = g.1 ∙ ap (λ (s : Sight). s.runs) same }
  takes_by (Tick t a) d q =
      let z = tell wakes c (up wakes c (ATick t) q) in
      let g = begins d.future (Tick t a) z in
      let same = tell_sight (up wakes c (ATick t) q) ∙ up_keeps sight aside c (ATick t) q in
      record { inside = g.0 ∙ ap (λ (s : Sight). suc (length s.inside)) same; runs = g.1 ∙ ap (λ (s : Sight). s.runs) same }
  takes_by (Run r a) d q =
      let q1 = plain_takes.robbed wakes c r d.keeper q in
      let q2 = tell wakes c (up wakes c (ARun r) q1) in
      let q3 = plain_takes.kept wakes c r q2 in
      let same : sight q3 ≡ sight q =
      each_sight c.keeps (λ mark. keeps r (is_common mark)) (λ mark z. keeps_sight r (is_common mark) z) q2
      ∙ (tell_sight (up wakes c (ARun r) q1) ∙ (up_keeps sight aside c (ARun r) q1 ∙ robbed_sight r d.keeper q)) in
      let g = begins d.future (Run r a) (plain_takes.counted wakes c r q3) in
      let counted = runs_is one_more r q3 in
      record {
        inside = g.0
            ∙ (ap (λ (z : Plain Output Waker). suc (length z.inside)) counted ∙ ap (λ (s : Sight). suc (length s.inside)) same);
        runs = g.1
            ∙ (ap (λ (z : Plain Output Waker). z.runs) counted ∙ ap (λ (s : Sight). changed one_more r s.runs) same);
      }

  nothing_by : (by : Taker Waker) (q : Plain Output Waker) → sight (plain_takes.nothing wakes c by q) ≡ sight q
  nothing_by Try q = refl
  nothing_by (Tick t a) q = rests_keeps sight aside c c.refusal (ATick t) a q
  nothing_by (Run r a) q = rests_keeps sight aside c c.refusal (ARun r) a q

  abbrev Goes : Taker Waker → Plain Output Waker → Plain Output Waker → Type 0
  Goes by q z = Took by q z ⊎ (sight z ≡ sight q)

  pub take_by : (by : Taker Waker) (q : Plain Output Waker)
      → Took by q (plain_takes.take wakes c by q) ⊎ (sight (plain_takes.take wakes c by q) ≡ sight q)
  take_by by q = found (find test q.due)
    where
      test : Due → Bool
      test = chosen (looks c by) q.due

      found : (o : Option Due)
          → Goes by q (or o (λ d. plain_takes.takes wakes c by d (record q { due = without test q.due }))
          (plain_takes.nothing wakes c by q))
      found None = inr (nothing_by by q)
      found (Some d) =
          let g = takes_by by d (record q { due = without test q.due }) in inl (record { inside = g.inside; runs = g.runs })

-- what of one run stays
module _ (k : ℕ) where
  -- it isn't the one that takes
  abbrev pub Spares : Taker Waker → Type 0
  Spares (Run r a) = (k == r) ≡ false
  Spares by = Unit {0}

  abbrev pub its_run : List Running → Option Running
  its_run rs = slice_get rs k

  changed_other : (h : Running → Running) (r : ℕ) (rs : List Running) → (k == r) ≡ false → its_run (changed h r rs) ≡ its_run rs
  changed_other h r rs apart = by (slice_get rs r)
    where
      by : (o : Option Running) → its_run (or o (λ run. slice_set rs r (h run)) rs) ≡ its_run rs
      by None = refl
      by (Some run) = set_other rs r k (h run) (turned_round k r apart)

  taking_other : (c : Choice) (by : Taker Waker) (rs : List Running) → Spares by → its_run (taking c by rs) ≡ its_run rs
  taking_other c Try rs apart = refl
  taking_other c (Tick t a) rs apart = refl
  taking_other c (Run r a) rs apart = changed_other one_more r rs apart

  pub take_spares : (c : Choice) (by : Taker Waker) (q : Plain Output Waker) → Spares by
      → its_run (plain_takes.take wakes c by q).runs ≡ its_run q.runs
  take_spares c by q apart =
      ⊎_elim (λ (g : Took c by q (plain_takes.take wakes c by q)). ap its_run g.runs ∙ taking_other c by q.runs apart)
      (λ (same : sight (plain_takes.take wakes c by q) ≡ sight q). ap (λ (s : Sight). its_run s.runs) same)
      (take_by c by q)

-- the run that took goes on, or lets others go first: it stands in a code more, or its poll has ended, and it has taken fewer than 200
abbrev pub afresh : Running → Running
afresh run = record run { taken = 0 }

abbrev pub Fewer : ℕ → Plain Output Waker → Plain Output Waker → Type 0
Fewer r q z = (length z.inside ≡ suc (length q.inside)) ⊎ (nat_lt (taken_by r z) 200 ≡ true)

zeroed : (rs : List Running) (r : ℕ) → or (slice_get (changed afresh r rs) r) (λ run. run.taken) 0 ≡ 0
zeroed rs r = by (slice_get rs r) refl
  where
    by : (o : Option Running) → slice_get rs r ≡ o
        → or (slice_get (or o (λ run. slice_set rs r (afresh run)) rs) r) (λ run. run.taken) 0 ≡ 0
    by None is = ap (λ (o : Option Running). or o (λ run. run.taken) 0) is
    by (Some run) is = ap (λ (o : Option Running). or o (λ run. run.taken) 0) (set_same rs r (afresh run) run is)

module _ (c : Choice) where
  woken_sight : (a : Waker) (q : Plain Output Waker)
      → sight (or (wakes a) (λ f. plain.wake wakes (tell wakes c) f q) (see (Calls a) q)) ≡ sight q
  woken_sight a q = by (wakes a)
    where
      by : (o : Option ℕ) → sight (or o (λ f. plain.wake wakes (tell wakes c) f q) (see (Calls a) q)) ≡ sight q
      by None = refl
      by (Some f) = becomes_keeps sight aside c f (abstract.wake (task f q)) q

  gives_way_sight : (r : ℕ) (a : Waker) (q : Plain Output Waker)
      → sight (plain_takes.gives_way wakes c r a q) ≡ sight (record q { runs = changed afresh r q.runs })
  gives_way_sight r a q =
      let q1 : Plain Output Waker = record q { runs = changed afresh r q.runs } in
      ap (λ (z : Plain Output Waker). sight (or (wakes a) (λ f. plain.wake wakes (tell wakes c) f z) (see (Calls a) z)))
      (runs_is afresh r q)
      ∙ woken_sight a q1

  next_spares : (k : ℕ) (by : Taker Waker) (q : Plain Output Waker) → Spares k by
      → its_run k (plain_takes.next wakes c by q).runs ≡ its_run k q.runs
  next_spares k Try q apart = refl
  next_spares k (Tick t a) q apart = refl
  next_spares k (Run r a) q apart = by (nat_lt (or (slice_get q.runs r) (λ run. run.taken) 0) 200)
    where
      by : (b : Bool)
          → its_run k (if b then plain_takes.take wakes c (Run r a) q else plain_takes.gives_way wakes c r a q).runs ≡ its_run k q.runs
      by true = take_spares k c (Run r a) q apart
      by false = ap (λ (s : Sight). its_run k s.runs) (gives_way_sight r a q) ∙ changed_other k afresh r q.runs apart

  pub take_own : (r : ℕ) (a : Waker) (q : Plain Output Waker) → nat_lt (taken_by r q) 200 ≡ true
      → Fewer r q (plain_takes.take wakes c (Run r a) q)
  take_own r a q few =
      ⊎_elim (λ (g : Took c (Run r a) q (plain_takes.take wakes c (Run r a) q)). inl g.inside)
      (λ (same : sight (plain_takes.take wakes c (Run r a) q) ≡ sight q).
      inr (ap (λ (s : Sight). nat_lt (or (slice_get s.runs r) (λ run. run.taken) 0) 200) same ∙ few))
      (take_by c (Run r a) q)

  next_own : (r : ℕ) (a : Waker) (q : Plain Output Waker) → Fewer r q (plain_takes.next wakes c (Run r a) q)
  next_own r a q = by (nat_lt (taken_by r q) 200) refl
    where
      by : (b : Bool) → nat_lt (taken_by r q) 200 ≡ b
          → Fewer r q (if b then plain_takes.take wakes c (Run r a) q else plain_takes.gives_way wakes c r a q)
      by true few = take_own r a q few
      by false last =
          inr
          (ap (λ (s : Sight). nat_lt (or (slice_get s.runs r) (λ run. run.taken) 0) 200) (gives_way_sight r a q)
          ∙ ap (λ n. nat_lt n 200) (zeroed q.runs r))

  -- behind what keeps both
  fewer_from : (r : ℕ) (q y z : Plain Output Waker) → sight y ≡ sight q → Fewer r y z → Fewer r q z
  fewer_from r q y z same few =
      ⊎_elim (λ (more : length z.inside ≡ suc (length y.inside)). inl (more ∙ ap (λ (s : Sight). suc (length s.inside)) same))
      (λ (is : nat_lt (taken_by r z) 200 ≡ true). inr is) few

  -- what a code that ends leads to, where it is behind a taker: this holds of what lets the taker go on, and of what enters more code
  pub record Ends (by : Taker Waker) (q z : Plain Output Waker) : Type 0 where
    pub spares : (k : ℕ) → Spares k by → its_run k z.runs ≡ its_run k q.runs
    pub own : (r : ℕ) (a : Waker) → by ≡ Run r a → Fewer r q z

  goes_on : (by : Taker Waker) (q y : Plain Output Waker) → sight y ≡ sight q → Ends by q (plain_takes.next wakes c by y)
  goes_on by q y same = record {
    spares = λ k apart. next_spares k by y apart ∙ ap (λ (s : Sight). its_run k s.runs) same;
    own = λ r a is.
        fewer_from r q y (plain_takes.next wakes c by y) same
        (subst (λ t. Fewer r y (plain_takes.next wakes c t y)) (sym is) (next_own r a y));
  }

  enters_more : (by : Taker Waker) (code : Code Output Waker) (q y : Plain Output Waker) → sight y ≡ sight q → Ends by q (enters code y)
  enters_more by code q y same = record {
    spares = λ k apart. ap (λ (s : Sight). its_run k s.runs) same;
    own = λ r a is. inl (ap (λ (s : Sight). suc (length s.inside)) same);
  }

  pub called_sight : (o : Option Waker) (q : Plain Output Waker) → sight (on o (called wakes (tell wakes c)) q) ≡ sight q
  called_sight None q = refl
  called_sight (Some a) q = called_with sight aside (tell wakes c) (tell_sight c) a q

  lost_ends : (awaiter : Option Waker) (by : Taker Waker) (q y : Plain Output Waker) → sight y ≡ sight q
      → Ends by q (plain_takes.lost wakes c awaiter (Some by) y)
  lost_ends awaiter by q y same =
      goes_on by q (on awaiter (called wakes (tell wakes c)) y) (called_sight awaiter y ∙ same)

  ended_ends : (f : ℕ) (left : abstract.Left Output Waker) (by : Taker Waker) (q y : Plain Output Waker) → sight y ≡ sight q
      → Ends by q (plain_takes.ended wakes c f left (Some by) y)
  ended_ends f left by q y same = goes left.dropped
    where
      y1 : Plain Output Waker
      y1 = put f left.task y

      here : sight y1 ≡ sight q
      here = put_keeps sight aside f left.task y ∙ same

      goes : (o : Option Output)
          → Ends by q (or o (λ v. enters (Lose left.called (Some by)) (see (Loses v) y1))
          (plain_takes.lost wakes c left.called (Some by) (on left.let_go (let_go wakes (tell wakes c)) y1)))
      goes None =
          lost_ends left.called by q (on left.let_go (let_go wakes (tell wakes c)) y1) (goes_keeps sight aside c left.let_go y1 ∙ here)
      goes (Some v) = enters_more by (Lose left.called (Some by)) q (see (Loses v) y1) here

  dropped_ends : (f : ℕ) (why : End Output) (by : Taker Waker) (q : Plain Output Waker) → Ends by q (plain_takes.dropped wakes c f why by q)
  dropped_ends f why by q =
      let y = plain_takes.given_up wakes c f (plain.changed (λ future. record future { is_dropped = true }) f q) in
      ended_ends f (plain_takes.left_by wakes c why (task f y)) by q y (given_up_sight c f q)

  pended_ends : (e : abstract.PendingEnd) (f : ℕ) (by : Taker Waker) (q : Plain Output Waker) → Ends by q
      (calls.pending_by wakes c e f by q)
  pended_ends abstract.PendingEnd.Drops f by q = enters_more by (Drop f Closed by) q (see (Drops f) q) refl
  pended_ends abstract.PendingEnd.Forgets f by q =
      let new : AbstractTask Output Waker = record (task f q) { phase = abstract.Phase.Finished; closed = true } in
      enters_more by (Drop f Closed by) q (see (Drops f) (put f new q)) (put_keeps sight aside f new q)
  pended_ends abstract.PendingEnd.Rests f by q =
      goes_on by q (becomes wakes (tell wakes c) f (abstract.end_pending (task f q)).task q)
      (becomes_keeps sight aside c f (abstract.end_pending (task f q)).task q)
  pended_ends abstract.PendingEnd.Queues f by q =
      goes_on by q (becomes wakes (tell wakes c) f (abstract.end_pending (task f q)).task q)
      (becomes_keeps sight aside c f (abstract.end_pending (task f q)).task q)

  -- the ends of codes
  module _ (by : Taker Waker) (q : Plain Output Waker) where
    pub pends_ends : (f : ℕ) → Ends by q (calls.pends wakes c (Poll f by) q)
    pends_ends f = pended_ends (abstract.pending_end (task f q)) f by q

    pub gives_ends : (f : ℕ) (v : Output) → Ends by q (calls.gives wakes c v (Poll f by) q)
    gives_ends f v = enters_more by (Drop f (Gave v) by) q (see (Drops f) q) refl

    pub drop_ends : (f : ℕ) (why : End Output) → Ends by q (calls.ends wakes c (Drop f why by) q)
    drop_ends f why = dropped_ends f why by q

    pub loss_ends : (awaiter : Option Waker) → Ends by q (calls.ends wakes c (Lose awaiter (Some by)) q)
    loss_ends awaiter = lost_ends awaiter by q q refl

  -- an output whose handle goes is dropped
  pub losing_sight : (q : Plain Output Waker) → sight (calls.ends wakes c (Lose None None) q) ≡ sight q
  losing_sight q = refl

  -- a run goes
  given_back_sight : (r : ℕ) (p : Plain Output Waker) → sight (given_back r p) ≡ sight p
  given_back_sight r p = by (find (is_kept r) p.due)
    where
      by : (o : Option Due) → sight (on o (λ d p. appended d.future (record p { due = without (is_kept r) p.due })) p) ≡ sight p
      by None = refl
      by (Some d) = refl

  gone_sight : (r : ℕ) (q : Plain Output Waker) → sight (calls.gone wakes c r q) ≡ sight (record q { runs = changed ended_run r q.runs })
  gone_sight r q =
      let q1 : Plain Output Waker = record q { runs = changed ended_run r q.runs } in
      let h : Plain Output Waker → Plain Output Waker = λ p. tell wakes c (given_back r p) in
      let n = count_by (is_kept r) q.due in
      ap (λ z. sight (leaves wakes c (ARun r) (repeat n h z))) (runs_is ended_run r q)
      ∙ (leaves_keeps sight aside c (ARun r) (repeat n h q1)
      ∙ repeats_sight c n h (λ p. tell_sight c (given_back r p) ∙ given_back_sight r p) q1)

  pub gone_spares : (k r : ℕ) (q : Plain Output Waker) → (k == r) ≡ false
      → its_run k (calls.gone wakes c r q).runs ≡ its_run k q.runs
  gone_spares k r q apart = ap (λ (s : Sight). its_run k s.runs) (gone_sight r q) ∙ changed_other k ended_run r q.runs apart

  pub gone_taken : (k r : ℕ) (q : Plain Output Waker) → taken_by k (calls.gone wakes c r q) ≡ taken_by k q
  gone_taken k r q =
      ap (λ (s : Sight). or (slice_get s.runs k) (λ run. run.taken) 0) (gone_sight r q) ∙ still (k == r) refl
    where
      still : (b : Bool) → (k == r) ≡ b
          → or (slice_get (changed ended_run r q.runs) k) (λ run. run.taken) 0 ≡ or (slice_get q.runs k) (λ run. run.taken) 0
      still false apart = ap (λ (o : Option Running). or o (λ run. run.taken) 0) (changed_other k ended_run r q.runs apart)
      still true here =
          subst (λ k. or (slice_get (changed ended_run r q.runs) k) (λ run. run.taken) 0 ≡ or (slice_get q.runs k) (λ run. run.taken) 0)
          (sym (same_of k r here)) (by (slice_get q.runs r) refl)
        where
          by : (o : Option Running) → slice_get q.runs r ≡ o
              → or (slice_get (or o (λ run. slice_set q.runs r (ended_run run)) q.runs) r) (λ run. run.taken) 0
              ≡ or (slice_get q.runs r) (λ run. run.taken) 0
          by None is = refl
          by (Some run) is =
              ap (λ (o : Option Running). or o (λ run. run.taken) 0) (set_same q.runs r (ended_run run) run is)
              ∙ ap (λ (o : Option Running). or o (λ run. run.taken) 0) (sym is)

  -- the poll of a run's own future ends without an output
  number : Taker Waker → ℕ
  number (Run r a) = r
  number by = 0

  pub take_ends : (r : ℕ) (a : Waker) (q : Plain Output Waker) → nat_lt (taken_by r q) 200 ≡ true
      → Ends (Run r a) q (plain_takes.take wakes c (Run r a) q)
  unfolding number
  take_ends r a q few = record {
    spares = λ k apart. take_spares k c (Run r a) q apart;
    own = λ k b is. subst (λ k. Fewer k q (plain_takes.take wakes c (Run r a) q)) (ap number is) (take_own r a q few);
  }
