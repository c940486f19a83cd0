-- Who lies was there before, or is whoever was polled.
use Rattle.std.proofs.Common.{◌≡◌, ℕ, zero, suc, ◌+◌, ◌==◌, nat_lt, cond, if◌then◌else◌, Bool, true, false, List, [], ◌∷◌, ◌++◌}
use Rattle.std.proofs.Common.{find, count_by, map, Option, Some, None, slice_get, slice_set, refl, sym, ap, ◌∙◌}
use Rattle.task_moves.specs.AbstractTask as abstract
use Rattle.solo.specs.declared.names.SoloWaker.{SoloWaker}
use Rattle.plain_scheduler.specs.State.{AtOnce, ARun, ATick, Calls, Choice, Due, Granted, Later, Lying, Plain, Refusal, Run, Running}
use Rattle.plain_scheduler.specs.State.{Taker, Tick, Try, Who}
use Rattle.plain_scheduler.specs.Lists.{each, on, or, repeat, without}
use Rattle.plain_scheduler.specs.Moves.{appended, chosen, copied, given_back, is_called, is_common, is_kept, is_who, keeps, leaves}
use Rattle.plain_scheduler.specs.Moves.{let_go, lies, looks, see, tell, up, wake}
use Rattle.plain_scheduler.specs.Moves as moves
use Rattle.plain_scheduler.specs.Takes as takes
use Rattle.plain_scheduler.specs.Calls as calls
use Rattle.solo_laws.specs.Road.{wakes}
use Rattle.solo_laws.proofs.Following.Crowding.{is_among, whos}
use Rattle.solo_laws.proofs.Following.Due.{later}
use Rattle.solo_laws.proofs.Following.Frames.{becomes_still, copied_still, let_go_still, tell_still}
use Rattle.solo_laws.proofs.Following.Numbers.{awake_whos, same_who}
use Rattle.solo_laws.proofs.Following.TickTaking.{run_lying}

module _ {A : Type 0} where
  fewer_lie : (test : Lying A → Bool) (v : Who) (ls : List (Lying A))
      → is_among v (whos (without test ls)) ≡ true → is_among v (whos ls) ≡ true
  fewer_lie test v [] is = absurd cc
  fewer_lie test v (l ∷ ls) is = by (test l) is (fewer_lie test v ls)
    where
      here : (k : Bool) → cond k true (is_among v (whos (without test ls))) ≡ true
          → (is_among v (whos (without test ls)) ≡ true → is_among v (whos ls) ≡ true) → cond k true (is_among v (whos ls)) ≡ true
      here true is rest = refl
      here false is rest = rest is

      by : (b : Bool) → is_among v (whos (cond b ls (l ∷ without test ls))) ≡ true
          → (is_among v (whos (without test ls)) ≡ true → is_among v (whos ls) ≡ true)
          → cond (is_who v l.who) true (is_among v (whos ls)) ≡ true
      by true is rest = later (is_who v l.who) (is_among v (whos ls)) is
      by false is rest = here (is_who v l.who) is rest

  -- each that lies is one of these
  module _ (among : Who → Bool) where
    abbrev pub Lie : List (Lying A) → Type 0
    Lie ls = (v : Who) → is_among v (whos ls) ≡ true → among v ≡ true

    pub same_lie : (ls ms : List (Lying A)) → whos ms ≡ whos ls → Lie ls → Lie ms
    same_lie ls ms is all v has = all v (sym (ap (is_among v) is) ∙ has)

    less_lie : (test : Lying A → Bool) (ls : List (Lying A)) → Lie ls → Lie (without test ls)
    less_lie test ls all v has = all v (fewer_lie test v ls has)

    more_in : (l : Lying A) (v : Who) → (is_who v l.who ≡ true → among v ≡ true) → (ls : List (Lying A))
        → (is_among v (whos ls) ≡ true → among v ≡ true) → is_among v (whos (ls ++ l ∷ [])) ≡ true → among v ≡ true
    more_in l v it [] all has = by (is_who v l.who) has it
      where
        by : (b : Bool) → cond b true false ≡ true → (b ≡ true → among v ≡ true) → among v ≡ true
        by true has it = it refl
        by false has it = absurd cc
    more_in l v it (m ∷ ms) all has = by (is_who v m.who) has all (more_in l v it ms)
      where
        by : (b : Bool) → cond b true (is_among v (whos (ms ++ l ∷ []))) ≡ true
            → (cond b true (is_among v (whos ms)) ≡ true → among v ≡ true)
            → ((is_among v (whos ms) ≡ true → among v ≡ true) → is_among v (whos (ms ++ l ∷ [])) ≡ true → among v ≡ true)
            → among v ≡ true
        by true has all rest = all refl
        by false has all rest = rest all has

    more_lie : (l : Lying A) → among l.who ≡ true → (ls : List (Lying A)) → Lie ls → Lie (ls ++ l ∷ [])
    more_lie l it ls all v has = more_in l v (λ same. ap among (same_who v l.who same) ∙ it) ls (all v) has

    -- whoever takes
    abbrev pub IsOne : Taker A → Type 0
    IsOne Try = true ≡ true
    IsOne (Tick t w) = among (ATick t) ≡ true
    IsOne (Run r w) = among (ARun r) ≡ true

module _ {T X : Type 0} (c : Choice) where
  abbrev loud : Plain T (SoloWaker X) → Plain T (SoloWaker X)
  loud p = tell wakes c p

  -- who lies stays as it is
  abbrev pub Lain : (Plain T (SoloWaker X) → Plain T (SoloWaker X)) → Type 0
  Lain does = (p : Plain T (SoloWaker X)) → whos (does p).lying ≡ whos p.lying

  keeps_lain : (r : ℕ) (test : Due → Bool) → Lain (keeps r test)
  keeps_lain r test p = by (nat_lt (count_by (is_kept r) p.due) 512) (find test p.due)
    where
      by : (b : Bool) (o : Option Due)
          → whos (if b then on o (λ d p. record p { due = without test p.due ++ record d { keeper = Some r } ∷ [] }) p else p).lying
          ≡ whos p.lying
      by true None = refl
      by true (Some d) = refl
      by false o = refl

  repeat_lain : (n : ℕ) (does : Plain T (SoloWaker X) → Plain T (SoloWaker X)) → Lain does → Lain (repeat n does)
  repeat_lain zero does same p = refl
  repeat_lain (suc n) does same p = repeat_lain n does same (does p) ∙ same p

  each_lain : {B : Type 0} (does : B → Plain T (SoloWaker X) → Plain T (SoloWaker X)) → ((b : B) → Lain (does b)) → (bs : List B)
      → Lain (each bs does)
  each_lain does same [] p = refl
  each_lain does same (b ∷ bs) p = each_lain does same bs (does b p) ∙ same b p

  robbed_lain : (r : ℕ) (keeper : Option ℕ) → Lain (takes.robbed wakes c r keeper)
  robbed_lain r None p = refl
  robbed_lain r (Some k) p = by (r == k)
    where
      by : (b : Bool) → whos (if b then p else repeat c.moves (keeps r (is_kept k)) p).lying ≡ whos p.lying
      by true = refl
      by false = repeat_lain c.moves (keeps r (is_kept k)) (keeps_lain r (is_kept k)) p

  runs_lain : (h : Running → Running) (r : ℕ) → Lain (moves.runs h r)
  runs_lain h r p = by (slice_get p.runs r)
    where
      by : (o : Option Running) → whos (on o (λ run p. record p { runs = slice_set p.runs r (h run) }) p).lying ≡ whos p.lying
      by None = refl
      by (Some run) = refl

  given_back_lain : (r : ℕ) → Lain (given_back r)
  given_back_lain r p = by (find (is_kept r) p.due)
    where
      by : (o : Option Due)
          → whos (on o (λ d p. appended d.future (record p { due = without (is_kept r) p.due })) p).lying ≡ whos p.lying
      by None = refl
      by (Some d) = refl

  lets_go_lain : (o : Option (SoloWaker X)) → Lain (on o (let_go wakes loud))
  lets_go_lain None p = refl
  lets_go_lain (Some w) p = (let_go_still c loud (tell_still c) w p).whos

  gives_way_lain : (r : ℕ) (w : SoloWaker X) → Lain (takes.gives_way wakes c r w)
  gives_way_lain r w p = by (wakes w)
    where
      q : Plain T (SoloWaker X)
      q = moves.runs (λ run. record run { taken = 0 }) r p

      is : whos q.lying ≡ whos p.lying
      is = runs_lain (λ run. record run { taken = 0 }) r p

      by : (o : Option ℕ) → whos (or o (λ f. wake wakes loud f q) (see (Calls w) q)).lying ≡ whos p.lying
      by None = is
      by (Some f) = (becomes_still c loud (tell_still c) f (abstract.wake (moves.task f q)) q).whos ∙ is

  -- each that lies is one of these
  module _ (among : Who → Bool) where
    abbrev All : Plain T (SoloWaker X) → Type 0
    All p = Lie among p.lying

    abbrev Keeps : (Plain T (SoloWaker X) → Plain T (SoloWaker X)) → Type 0
    Keeps does = (p : Plain T (SoloWaker X)) → All p → All (does p)

    of_lain : (does : Plain T (SoloWaker X) → Plain T (SoloWaker X)) → Lain does → Keeps does
    of_lain does is p all = same_lie among p.lying (does p).lying (is p) all

    tell_lie : Keeps loud
    tell_lie p all = same_lie among p.lying (loud p).lying (tell_still c p).whos all

    up_lie : (who : Who) → Keeps (up wakes c who)
    up_lie who p all = by (find (lies who) p.lying)
      where
        by : (o : Option (Lying (SoloWaker X)))
            → All (on o (λ l p. on l.waker (let_go wakes loud) (record p { lying = without (lies who) p.lying })) p)
        by None = all
        by (Some l) =
            of_lain (on l.waker (let_go wakes loud)) (lets_go_lain l.waker) (record p { lying = without (lies who) p.lying })
            (less_lie among (lies who) p.lying all)

    pub leaves_lie : (who : Who) → Keeps (leaves wakes c who)
    leaves_lie who p all = by (find (lies who) p.lying)
      where
        either : (b : Bool) → All (if b then loud (up wakes c who p) else up wakes c who p)
        either true = tell_lie (up wakes c who p) (up_lie who p all)
        either false = up_lie who p all

        by : (o : Option (Lying (SoloWaker X)))
            → All (on o (λ l p. if is_called l then tell wakes c (up wakes c who p) else up wakes c who p) p)
        by None = all
        by (Some l) = either (is_called l)

    -- who lies down is one of them
    lies_down_lie : (who : Who) → among who ≡ true → (w : SoloWaker X) → Keeps (takes.lies_down wakes c who w)
    lies_down_lie who it w p all = by (find (lies who) p.lying)
      where
        q : Plain T (SoloWaker X)
        q = copied wakes w p

        q_all : All q
        q_all = same_lie among p.lying q.lying (copied_still c w p).whos all

        lain_all : All (takes.lain wakes c who w q)
        lain_all =
            more_lie among (record { who = who; waker = Some w }) it (without (lies who) q.lying) (less_lie among (lies who) q.lying q_all)

        waker : (o : Option (SoloWaker X))
            → All (or o (λ old. takes.lain_again wakes c who w old q) (takes.lain wakes c who w q))
        waker None = lain_all
        waker (Some old) =
            let z = record q { lying = map (λ l. if lies who l then record l { waker = Some w } else l) q.lying } in
            of_lain (on (Some old) (let_go wakes loud)) (lets_go_lain (Some old)) z
            (same_lie among q.lying z.lying (awake_whos who w q.lying) q_all)

        by : (o : Option (Lying (SoloWaker X)))
            → All (or o (λ l. or l.waker (λ old. takes.lain_again wakes c who w old q) (takes.lain wakes c who w q))
            (takes.lain wakes c who w q))
        by None = lain_all
        by (Some l) = waker l.waker

    rests_lie : (refusal : Refusal) (who : Who) → among who ≡ true → (w : SoloWaker X) → Keeps (takes.rests wakes c refusal who w)
    rests_lie Granted who it w p all = lies_down_lie who it w p all
    rests_lie AtOnce who it w p all = all
    rests_lie Later who it w p all = lies_down_lie who it w p all

    nothing_lie : (by : Taker (SoloWaker X)) → IsOne among by → Keeps (takes.nothing wakes c by)
    nothing_lie Try it p all = all
    nothing_lie (Tick t w) it p all = rests_lie c.refusal (ATick t) it w p all
    nothing_lie (Run r w) it p all = rests_lie c.refusal (ARun r) it w p all

    run_lie : (f : ℕ) (by : Taker (SoloWaker X)) → Keeps (takes.run wakes c f by)
    run_lie f by p all = same_lie among p.lying (takes.run wakes c f by p).lying (ap whos (run_lying c f by p)) all

    takes_lie : (by : Taker (SoloWaker X)) (d : Due) → Keeps (takes.takes wakes c by d)
    takes_lie Try d p all = run_lie d.future Try (loud p) (tell_lie p all)
    takes_lie (Tick t w) d p all =
        let q = up wakes c (ATick t) p in
        run_lie d.future (Tick t w) (loud q) (tell_lie q (up_lie (ATick t) p all))
    takes_lie (Run r w) d p all =
        let a = takes.robbed wakes c r d.keeper p in
        let b = up wakes c (ARun r) a in
        let e = takes.kept wakes c r (loud b) in
        run_lie d.future (Run r w) (takes.counted wakes c r e)
        (of_lain (takes.counted wakes c r) (runs_lain (λ run. record run { taken = run.taken + 1 }) r) e
        (of_lain (takes.kept wakes c r)
        (λ p. each_lain (λ mark. keeps r (is_common mark)) (λ mark. keeps_lain r (is_common mark)) c.keeps p)
        (loud b)
        (tell_lie b (up_lie (ARun r) a (of_lain (takes.robbed wakes c r d.keeper) (robbed_lain r d.keeper) p all)))))

    pub take_lie : (by : Taker (SoloWaker X)) → IsOne among by → Keeps (takes.take wakes c by)
    take_lie by it p all = by_found (find test p.due)
      where
        test : Due → Bool
        test = chosen (looks c by) p.due

        left : Plain T (SoloWaker X)
        left = record p { due = without test p.due }

        by_found : (o : Option Due) → All (or o (λ d. takes.takes wakes c by d left) (takes.nothing wakes c by p))
        by_found None = nothing_lie by it p all
        by_found (Some d) = takes_lie by d left all

    pub next_lie : (r : ℕ) (w : SoloWaker X) → among (ARun r) ≡ true → Keeps (takes.next wakes c (Run r w))
    next_lie r w it p all = by (nat_lt (or (slice_get p.runs r) (λ run. run.taken) 0) 200)
      where
        by : (b : Bool) → All (if b then takes.take wakes c (Run r w) p else takes.gives_way wakes c r w p)
        by true = take_lie (Run r w) it p all
        by false = of_lain (takes.gives_way wakes c r w) (gives_way_lain r w) p all

    -- a run that goes
    pub gone_lie : (r : ℕ) → Keeps (calls.gone wakes c r)
    gone_lie r p all =
        let over : Running → Running = λ run. record run { is_over = true } in
        let back : Plain T (SoloWaker X) → Plain T (SoloWaker X) = λ p. loud (given_back r p) in
        let q = moves.runs over r p in
        let n = count_by (is_kept r) p.due in
        leaves_lie (ARun r) (repeat n back q)
        (of_lain (repeat n back) (repeat_lain n back (λ p. (tell_still c (given_back r p)).whos ∙ given_back_lain r p)) q
        (of_lain (moves.runs over r) (runs_lain over r) p all))
