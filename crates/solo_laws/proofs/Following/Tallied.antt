-- What the owner of an executor knows of each run's count is what the plain scheduler's run has taken.
use Rattle.std.proofs.Common.{◌≡◌, ℕ, ◌<◌, ◌==◌, nat_lt, not, if◌then◌else◌, Bool, true, false, List, [], ◌∷◌, ◌++◌, length}
use Rattle.std.proofs.Common.{find, Option, Some, None, slice_get, refl, sym, ap, subst, ◌∙◌, arith}
use Rattle.std.proofs.lemmas.Bool.Decides.{nat_tests}
use Rattle.task_moves.specs.AbstractTask as abstract
use Rattle.solo.specs.declared.names.SoloWaker.{SoloWaker}
use Rattle.solo.specs.declared.owed.Found.{Found}
use Rattle.solo.specs.declared.owed.Found.TheVariants.{Poll as FoundPoll, Drop as FoundDrop, Gone, Nothing}
use Rattle.solo.specs.declared.runs.Runner.{Runner}
use Rattle.solo.specs.Runs as runs
use Rattle.plain_scheduler.specs.State.{ARun, Choice, Closed, Code, Drops, Due, Event, Plain, Poll, Polls, Run, Taker}
use Rattle.plain_scheduler.specs.Lists.{or, without}
use Rattle.plain_scheduler.specs.Moves.{chosen, enters, looks, put, see, task}
use Rattle.plain_scheduler.specs.Moves as moves
use Rattle.plain_scheduler.specs.Takes as takes
use Rattle.solo_laws.specs.Busy.{run_of}
use Rattle.solo_laws.specs.Owner.{HasRunner, Owner, given_way, taken_by_run}
use Rattle.solo_laws.specs.Road.{is_in, wakes}
use Rattle.solo_laws.specs.RunGoing.{taken_by}
use Rattle.solo_laws.specs.Shown.{code_of, is_handed}
use Rattle.solo_laws.specs.Tabled.{goes_on}
use Rattle.solo_laws.proofs.Following.Cells.{same_number}
use Rattle.solo_laws.proofs.Following.CodesKept.{gives_way_calm, nothing_calm}
use Rattle.solo_laws.proofs.Following.Counting.{nothing_still, others_count, runs_count, runs_count_anew, way_counts}
use Rattle.solo_laws.proofs.Following.Due.{neither}
use Rattle.solo_laws.proofs.Following.RunEnding.{is_answer, same_last, unlike}
use Rattle.solo_laws.proofs.Following.Takings.{takings}

-- since it last let others go first
abbrev pub since : ℕ → ℕ
since n = if nat_lt n 200 then n else 0

module _ {T X : Type 0} where
  pub record Tallied (runner : ℕ → Runner) (way : ℕ → Bool) (p : Plain T (SoloWaker X)) : Type 0 where
    pub number : (r : ℕ) → (runner r).number ≡ r
    pub taken : (r : ℕ) → (runner r).taken ≡ since (taken_by r p)
    pub gives_way : (r : ℕ) → nat_lt (taken_by r p) 200 ≡ not (way r)
    -- one that has no future in hand has taken fewer than 200
    pub calm : (r : ℕ) → is_in r (takings p.inside) ≡ false → nat_lt (taken_by r p) 200 ≡ true

  -- as a run's code has ended, in which it may have taken 200
  pub record Between (runner : ℕ → Runner) (way : ℕ → Bool) (r : ℕ) (p : Plain T (SoloWaker X)) : Type 0 where
    pub number : (k : ℕ) → (runner k).number ≡ k
    pub taken : (k : ℕ) → (runner k).taken ≡ since (taken_by k p)
    pub gives_way : (k : ℕ) → nat_lt (taken_by k p) 200 ≡ not (way k)
    pub calm : (k : ℕ) → (k == r) ≡ false → is_in k (takings p.inside) ≡ false → nat_lt (taken_by k p) 200 ≡ true

  pub still_tallied : (runner : ℕ → Runner) (way : ℕ → Bool) (p q : Plain T (SoloWaker X))
      → ((r : ℕ) → taken_by r q ≡ taken_by r p) → takings q.inside ≡ takings p.inside → Tallied runner way p → Tallied runner way q
  still_tallied runner way p q same takings_are t = record {
    number = t.number;
    taken = λ r. t.taken r ∙ ap since (sym (same r));
    gives_way = λ r. ap (λ n. nat_lt n 200) (same r) ∙ t.gives_way r;
    calm = λ r none. ap (λ n. nat_lt n 200) (same r) ∙ t.calm r (sym (ap (is_in r) takings_are) ∙ none);
  }

  -- it takes none
  pub rest_tallied : (runner : ℕ → Runner) (way : ℕ → Bool) (r : ℕ) (p q : Plain T (SoloWaker X))
      → ((k : ℕ) → taken_by k q ≡ taken_by k p) → takings q.inside ≡ takings p.inside → Between runner way r p
      → nat_lt (taken_by r p) 200 ≡ true → Tallied runner way q
  rest_tallied runner way r p q same takings_are t less = record {
    number = t.number;
    taken = λ k. t.taken k ∙ ap since (sym (same k));
    gives_way = λ k. ap (λ n. nat_lt n 200) (same k) ∙ t.gives_way k;
    calm = λ k none. ap (λ n. nat_lt n 200) (same k) ∙ by k (k == r) refl (sym (ap (is_in k) takings_are) ∙ none);
  }
    where
      by : (k : ℕ) (b : Bool) → (k == r) ≡ b → is_in k (takings p.inside) ≡ false → nat_lt (taken_by k p) 200 ≡ true
      by k true one none = ap (λ n. nat_lt (taken_by n p) 200) (same_number k r one) ∙ less
      by k false away none = t.calm k away none

  longer : (by : Taker (SoloWaker X)) {F : Type 0} (found : Found F) (cs : List (Code T (SoloWaker X))) → is_handed found ≡ true
      → cs ≡ code_of by found ++ cs → ⊥
  longer by (FoundPoll lent future) cs handed is = let long = ap (λ (cs : List (Code T (SoloWaker X))). length cs) is in omega (arith, long)
  longer by (FoundDrop lent future) cs handed is = let long = ap (λ (cs : List (Code T (SoloWaker X))). length cs) is in omega (arith, long)
  longer by Gone cs handed is = absurd cc
  longer by Nothing cs handed is = absurd cc

  more_takings : (by : Taker (SoloWaker X)) {F : Type 0} (found : Found F) (cs : List (Code T (SoloWaker X))) → is_handed found ≡ true
      → takings (code_of by found ++ cs) ≡ run_of by ++ takings cs
  more_takings by (FoundPoll lent future) cs handed = refl
  more_takings by (FoundDrop lent future) cs handed = refl
  more_takings by Gone cs handed = absurd cc
  more_takings by Nothing cs handed = absurd cc

module _ {T X : Type 0} (c : Choice) (runner : Runner) (w : SoloWaker X) (owner : Owner) (p : Plain T (SoloWaker X))
    (t : Between owner.runner owner.gives_way runner.number p) where
  abbrev r : ℕ
  r = runner.number

  abbrev q : Plain T (SoloWaker X)
  q = takes.take wakes c (Run r w) p

  abbrev finds : Option Due
  finds = find (chosen (looks c (Run r w)) p.due) p.due

  abbrev left : Plain T (SoloWaker X)
  left = record p { due = without (chosen (looks c (Run r w)) p.due) p.due }

  -- a future is handed out only where one is taken
  took : {F : Type 0} (found : Found F) → is_handed found ≡ true → q.inside ≡ code_of (Run r w) found ++ p.inside
      → (d : Due) × (finds ≡ Some d)
  took found handed inside = by finds refl
    where
      by : (o : Option Due) → finds ≡ o → (d : Due) × (finds ≡ Some d)
      by (Some d) is = (d, is)
      by None is =
          absurd (longer (Run r w) found p.inside handed
          (sym (nothing_calm c (Run r w) p)
          ∙ (sym (ap (λ o. (or o (λ d. takes.takes wakes c (Run r w) d left) (takes.nothing wakes c (Run r w) p)).inside) is) ∙ inside)))

  pub take_tallied : HasRunner runner owner → goes_on r p ≡ true → nat_lt (taken_by r p) 200 ≡ true → {F : Type 0} (found : Found F)
      → is_handed found ≡ true → q.inside ≡ code_of (Run r w) found ++ p.inside
      → Tallied (taken_by_run runner owner).runner (taken_by_run runner owner).gives_way q
  take_tallied has going less found handed inside =
      let taken = took found handed inside in
      let counted : runner.taken ≡ taken_by r p =
      sym (ap (λ (x : Runner). x.taken) has) ∙ (t.taken r ∙ ap (λ b. if b then taken_by r p else 0) less) in
      let counts = runs_count c p r w runner going (below runner.taken (ap (λ n. nat_lt n 200) counted ∙ less)) counted taken.0 taken.1 in
      let others = λ (k : ℕ) (away : (k == r) ≡ false). other taken.0 taken.1 k away in
      record {
        number = λ k. its_number k (k == r) refl;
        taken = λ k. its_count counts.2 others k (k == r) refl;
        gives_way = λ k. its_way counts.1 others k (k == r) refl;
        calm = λ k none.
            let out = neither (k == r) (is_in k (takings p.inside))
            (sym (ap (is_in k) (ap (λ cs. takings cs) inside ∙ more_takings (Run r w) found p.inside handed)) ∙ none) in
            ap (λ n. nat_lt n 200) (others k out.0) ∙ t.calm k out.0 out.1;
      }
    where
      below : (n : ℕ) → nat_lt n 200 ≡ true → n < 200
      below n is = grind (arith, nat_tests)

      other : (d : Due) → finds ≡ Some d → (k : ℕ) → (k == r) ≡ false → taken_by k q ≡ taken_by k p
      other d is k away =
          ap (λ o. taken_by k (or o (λ d. takes.takes wakes c (Run r w) d left) (takes.nothing wakes c (Run r w) p))) is
          ∙ others_count c r k away w d left

      its_number : (k : ℕ) (b : Bool) → (k == r) ≡ b
          → (if b then runs.taken (runs.counted runner) else owner.runner k).number ≡ k
      its_number k true one = sym (same_number k r one)
      its_number k false away = t.number k

      its_count : (runs.taken (runs.counted runner)).taken ≡ since (taken_by r q)
          → ((k : ℕ) → (k == r) ≡ false → taken_by k q ≡ taken_by k p) → (k : ℕ) (b : Bool) → (k == r) ≡ b
          → (if b then runs.taken (runs.counted runner) else owner.runner k).taken ≡ since (taken_by k q)
      its_count now others k true one = now ∙ ap (λ n. since (taken_by n q)) (sym (same_number k r one))
      its_count now others k false away = t.taken k ∙ ap since (sym (others k away))

      its_way : nat_lt (taken_by r q) 200 ≡ not (runs.gives_way runner) → ((k : ℕ) → (k == r) ≡ false → taken_by k q ≡ taken_by k p)
          → (k : ℕ) (b : Bool) → (k == r) ≡ b
          → nat_lt (taken_by k q) 200 ≡ not (if b then runs.gives_way runner else owner.gives_way k)
      its_way now others k true one = ap (λ n. nat_lt (taken_by n q) 200) (same_number k r one) ∙ now
      its_way now others k false away = ap (λ n. nat_lt n 200) (others k away) ∙ t.gives_way k

  -- an answer is seen last only where none is taken
  missed : (es : List (Event T (SoloWaker X))) (e : Event T (SoloWaker X)) → is_answer e ≡ true → q.events ≡ es ++ e ∷ [] → finds ≡ None
  missed es e answers seen = by finds refl
    where
      last : (f : ℕ) (z : Plain T (SoloWaker X)) → (takes.run wakes c f (Run r w) z).events ≡ es ++ e ∷ [] → ⊥
      last f z is = by_closed (task f z).closed is
        where
          by_closed : (b : Bool)
              → (if b
              then takes.dropping wakes c f Closed (Run r w) z
              else enters (Poll f (Run r w)) (see (Polls f) (put f (abstract.begin_run (task f z)) z))).events ≡ es ++ e ∷ [] → ⊥
          by_closed true is = unlike e (Drops f) answers refl (sym (same_last z.events es (Drops f) e is).1)
          by_closed false is =
              unlike e (Polls f) answers refl (sym (same_last (put f (abstract.begin_run (task f z)) z).events es (Polls f) e is).1)

      by : (o : Option Due) → finds ≡ o → finds ≡ None
      by None is = is
      by (Some d) is =
          absurd (last d.future
          (takes.counted wakes c r
          (takes.kept wakes c r (takes.tell wakes c (moves.up wakes c (ARun r) (takes.robbed wakes c r d.keeper left)))))
          (sym (ap (λ o. (or o (λ d. takes.takes wakes c (Run r w) d left) (takes.nothing wakes c (Run r w) p)).events) is) ∙ seen))

  pub rests_tallied : nat_lt (taken_by r p) 200 ≡ true → (es : List (Event T (SoloWaker X))) (e : Event T (SoloWaker X))
      → is_answer e ≡ true → q.events ≡ es ++ e ∷ [] → Tallied owner.runner owner.gives_way q
  rests_tallied less es e answers seen =
      let none = missed es e answers seen in
      subst (λ o. Tallied owner.runner owner.gives_way (or o (λ d. takes.takes wakes c (Run r w) d left)
      (takes.nothing wakes c (Run r w) p))) (sym none)
      (rest_tallied owner.runner owner.gives_way r p (takes.nothing wakes c (Run r w) p)
      (λ k. ap (λ rs. or (slice_get rs k) (λ run. run.taken) 0) (nothing_still c (Run r w) p))
      (ap (λ cs. takings cs) (nothing_calm c (Run r w) p)) t less)

  -- it lets others go first
  pub way_tallied : goes_on r p ≡ true → nat_lt (taken_by r p) 200 ≡ false
      → Tallied (given_way r owner).runner (given_way r owner).gives_way (takes.gives_way wakes c r w p)
  way_tallied going enough = record {
    number = t.number;
    taken = λ k. its_count k (k == r) refl;
    gives_way = λ k. its_way k (k == r) refl;
    calm = λ k none. quiet k (k == r) refl (sym (ap (λ cs. is_in k (takings cs)) (gives_way_calm c r w p)) ∙ none);
  }
    where
      z : Plain T (SoloWaker X)
      z = takes.gives_way wakes c r w p

      anew : taken_by r z ≡ 0
      anew = runs_count_anew c p r w going

      its_count : (k : ℕ) (b : Bool) → (k == r) ≡ b → (owner.runner k).taken ≡ since (taken_by k z)
      its_count k true one =
          let same = same_number k r one in
          ap (λ n. (owner.runner n).taken) same
          ∙ (t.taken r ∙ (ap (λ b. if b then taken_by r p else 0) enough ∙ sym (ap (λ n. since (taken_by n z)) same ∙ ap since anew)))
      its_count k false away = t.taken k ∙ ap since (sym (way_counts c r k away w p))

      its_way : (k : ℕ) (b : Bool) → (k == r) ≡ b → nat_lt (taken_by k z) 200 ≡ not (if b then false else owner.gives_way k)
      its_way k true one = ap (λ n. nat_lt (taken_by n z) 200) (same_number k r one) ∙ ap (λ n. nat_lt n 200) anew
      its_way k false away = ap (λ n. nat_lt n 200) (way_counts c r k away w p) ∙ t.gives_way k

      quiet : (k : ℕ) (b : Bool) → (k == r) ≡ b → is_in k (takings p.inside) ≡ false → nat_lt (taken_by k z) 200 ≡ true
      quiet k true one none = ap (λ n. nat_lt (taken_by n z) 200) (same_number k r one) ∙ ap (λ n. nat_lt n 200) anew
      quiet k false away none = ap (λ n. nat_lt n 200) (way_counts c r k away w p) ∙ t.calm k away none
