-- After each call what an owner knows of each run's count is what the plain scheduler's run has taken.
use Rattle.std.proofs.Common.{◌≡◌, ℕ, ◌≤◌, ◌==◌, nat_lt, not, if◌then◌else◌, Bool, true, false, List, [], ◌∷◌, ◌++◌, length, find, Option}
use Rattle.std.proofs.Common.{Some, None, slice_get, append_assoc, refl, sym, ap, subst, ◌∙◌}
use Rattle.task_moves.specs.AbstractTask as abstract
use Rattle.solo.specs.declared.names.SoloWaker.{SoloWaker}
use Rattle.solo.specs.declared.owed.Lent.{Lent}
use Rattle.solo.specs.declared.runs.Runner.{Runner}
use Rattle.solo.specs.declared.solo.Solo.{Solo}
use Rattle.plain_scheduler.specs.State.{Answer, Answers, ARun, ATick, Choice, Closed, Code, Done, DropOwn, Due, Event, Finished}
use Rattle.plain_scheduler.specs.State.{Made, NoMemory, Pending, Plain, Poll, PollOwn, Polls, Ready, Run, Running, Taker, Tick, Try, Yes}
use Rattle.plain_scheduler.specs.Lists.{or, without}
use Rattle.plain_scheduler.specs.Moves.{answers, chosen, enters, looks, put, see, task, tell, up}
use Rattle.plain_scheduler.specs.Moves as moves
use Rattle.plain_scheduler.specs.Takes as takes
use Rattle.plain_scheduler.specs.Calls as plain
use Rattle.plain_scheduler.specs.Calls.{Call, does}
use Rattle.solo_laws.specs.Busy.{busy_in, run_of}
use Rattle.solo_laws.specs.Numbered.{IsNumbered}
use Rattle.solo_laws.specs.Owner.{HasRoom, HasRunner, Owner}
use Rattle.solo_laws.specs.Road.{apart, is_in, wakes as wakes_of}
use Rattle.solo_laws.specs.RunGoing.{Dropping, IsEnding, Losing, Polling, RunsOn, Searches, Stage, code_at, gives_way, in_try}
use Rattle.solo_laws.specs.RunGoing.{is_refused, lies_refused, looks_on, rests, robs_another, taken_by, takes_common, takes_own}
use Rattle.solo_laws.specs.RunResting.{EachListed}
use Rattle.solo_laws.specs.Tabled.{Stands, goes_on}
use Rattle.solo_laws.proofs.Following.CodesKept.{gone_calm, leaves_calm, nothing_calm, tell_calm, up_calm}
use Rattle.solo_laws.proofs.Following.Counting.{gone_counts, leaves_still, made_counts, nothing_still, takes_still}
use Rattle.solo_laws.proofs.Following.Due.{both_true, not_true}
use Rattle.solo_laws.proofs.Following.Polled.{Apart}
use Rattle.solo_laws.proofs.Following.RunEnding.{EndsAs, ends_as, is_answer, is_over, same_last, stays_in, unlike}
use Rattle.solo_laws.proofs.Following.RunGoing.{polled_both, searches_alike}
use Rattle.solo_laws.proofs.Following.RunSearching.{runs_take_common}
use Rattle.solo_laws.proofs.Following.RunTaking.{runs_take_own}
use Rattle.solo_laws.proofs.Following.RunWalking.{runs_take_kept}
use Rattle.solo_laws.proofs.Following.Takings.{not_taking, takings}
use Rattle.solo_laws.proofs.Following.Tallied.{Between, Tallied, since, rests_tallied, still_tallied, take_tallied, way_tallied}
use Rattle.solo_laws.proofs.Following.Using.{put_inside}

module _ {F T X : Type 0} (its : ℕ → Lent) (owner : Owner) (c : Choice) (runner : Runner) (has : HasRunner runner owner)
    (w : SoloWaker X) (s : Solo F T X) (p : Plain T (SoloWaker X)) (both : Stands its s p) (n : IsNumbered owner.number s.sleepers p.lying)
    (all : EachListed s.runs) (many : length p.lying ≤ c.tells) (going : goes_on runner.number p ≡ true)
    (room : HasRoom (ARun runner.number) s p) (t : Between owner.runner owner.gives_way runner.number p) where
  abbrev r : ℕ
  r = runner.number

  abbrev its_poll : Plain T (SoloWaker X)
  its_poll = record p { inside = PollOwn r w ∷ p.inside }

  its_poll_both : Stands its s its_poll
  its_poll_both = polled_both its owner c runner w s p both n all many

  abbrev After : Owner → Type 0
  After now = Tallied now.runner now.gives_way (takes.take wakes_of c (Run r w) p)

  lies_so : nat_lt (taken_by r p) 200 ≡ true → (shown : List (Event T (SoloWaker X))) (answer : Answer T)
      → (takes.take wakes_of c (Run r w) p).events ≡ p.events ++ (shown ++ Answers answer ∷ []) → After owner
  lies_so less shown answer seen =
      rests_tallied c runner w owner p t less (p.events ++ shown) (Answers answer) refl
      (seen ∙ sym (append_assoc p.events shown (Answers answer ∷ [])))

  -- it takes one, or none
  pub searches_tallied : nat_lt (taken_by r p) 200 ≡ true → (shown : List (Event T (SoloWaker X))) (now : Owner) (z : Solo F T X)
      → Searches its owner c runner w s p shown now z → After now
  searches_tallied less shown now z (takes_own start task first keeps_are life) =
      let it =
      runs_take_own its owner.number s its_poll its_poll_both n c runner w p.inside start task refl going first keeps_are many life in
      take_tallied c runner w owner p t has going less _ it.handed it.inside
  searches_tallied less shown now z (takes_common start task first found turn keeps_are life) =
      let it =
      runs_take_common its owner.number s its_poll its_poll_both n c runner w p.inside start task refl going first found turn keeps_are many
      life in
      take_tallied c runner w owner p t has going less _ it.handed it.inside
  searches_tallied less shown now z (robs_another start task first found turn finds robs moves keeps_are life) =
      let it =
      runs_take_kept its owner.number s its_poll its_poll_both n c runner w p.inside start task refl going first found turn finds robs moves
      keeps_are many life in
      take_tallied c runner w owner p t has going less _ it.handed it.inside
  searches_tallied less shown now z (rests first second missed turn granted names more life) =
      let it =
      searches_alike its owner c runner w s p both n all many going room shown now z
      (rests first second missed turn granted names more life) in
      lies_so less _ Pending it.0.1
  searches_tallied less shown now z (is_refused start missed turn refused) =
      let it =
      searches_alike its owner c runner w s p both n all many going room shown now z (is_refused start missed turn refused) in
      lies_so less [] NoMemory it.0.1
  searches_tallied less shown now z (lies_refused first second missed turn refused names again more life) =
      let it =
      searches_alike its owner c runner w s p both n all many going room shown now z
      (lies_refused first second missed turn refused names again more life) in
      lies_so less [] NoMemory it.0.1

  -- it looks for another, or lets others go first
  pub runs_on_tallied : (shown : List (Event T (SoloWaker X))) (now : Owner) (z : Solo F T X)
      → RunsOn its owner c runner w s p shown now z → Tallied now.runner now.gives_way (takes.next wakes_of c (Run r w) p)
  runs_on_tallied shown now z (looks_on shown' now' z' goes how) =
      let less = t.gives_way r ∙ ap not goes in
      subst
      (λ b. Tallied now'.runner now'.gives_way (if b then takes.take wakes_of c (Run r w) p else takes.gives_way wakes_of c r w p))
      (sym less)
      (searches_tallied less shown' now' z' how)
  runs_on_tallied shown now z (gives_way enough names life) =
      let full = t.gives_way r ∙ ap not enough in
      subst
      (λ b. Tallied now.runner now.gives_way (if b then takes.take wakes_of c (Run r w) p else takes.gives_way wakes_of c r w p)) (sym full)
      (way_tallied c runner w owner p t going full)

module _ {T X : Type 0} where
  -- by whom it is taken
  pub stage_takings : (by : Taker (SoloWaker X)) (stage : Stage T (SoloWaker X)) (cs : List (Code T (SoloWaker X)))
      → takings (code_at stage by ∷ cs) ≡ run_of by ++ takings cs
  stage_takings by (Polling f) cs = refl
  stage_takings by (Dropping f end) cs = refl
  stage_takings by (Losing awaiter) cs = refl

  module _ (runner : ℕ → Runner) (way : ℕ → Bool) (c : Choice) where
    abbrev So : Plain T (SoloWaker X) → Type 0
    So p = Tallied runner way p

    pub answers_so : (a : Answer T) (p : Plain T (SoloWaker X)) → So p → So (answers a p)
    answers_so a p t = still_tallied runner way p (answers a p) (λ k. refl) refl t

    either_so : (b : Bool) (p q : Plain T (SoloWaker X)) → So p → So q → So (if b then p else q)
    either_so true p q one two = one
    either_so false p q one two = two

    pub of_same : (p q : Plain T (SoloWaker X)) → q.runs ≡ p.runs → takings q.inside ≡ takings p.inside → So p → So q
    of_same p q same takings_are t =
        still_tallied runner way p q (λ k. ap (λ rs. or (slice_get rs k) (λ run. run.taken) 0) same) takings_are t

    run_takings : (f t : ℕ) (w : SoloWaker X) (q : Plain T (SoloWaker X))
        → takings (takes.run wakes_of c f (Tick t w) q).inside ≡ takings q.inside
    run_takings f t w q = by (task f q).closed
      where
        by : (b : Bool)
            → takings (if b
            then takes.dropping wakes_of c f Closed (Tick t w) q
            else enters (Poll f (Tick t w)) (see (Polls f) (put f (abstract.begin_run (task f q)) q))).inside ≡ takings q.inside
        by true = refl
        by false = ap (λ cs. takings cs) (put_inside f (abstract.begin_run (task f q)) q)

    -- a tick takes one, or none
    pub tick_so : (t : ℕ) (w : SoloWaker X) (p : Plain T (SoloWaker X)) → So p → So (does wakes_of c (Call.PollTick t w) p)
    tick_so t w p is = by_found (find (chosen (looks c (Tick t w)) p.due) p.due)
      where
        left : Plain T (SoloWaker X)
        left = record p { due = without (chosen (looks c (Tick t w)) p.due) p.due }

        by_found : (o : Option Due)
            → So (or o (λ d. takes.takes wakes_of c (Tick t w) d left) (takes.nothing wakes_of c (Tick t w) p))
        by_found None =
            of_same p (takes.nothing wakes_of c (Tick t w) p) (nothing_still c (Tick t w) p)
            (ap (λ cs. takings cs) (nothing_calm c (Tick t w) p)) is
        by_found (Some d) =
            let a = up wakes_of c (ATick t) left in
            of_same p (takes.takes wakes_of c (Tick t w) d left) (takes_still c t w d left)
            (run_takings d.future t w (tell wakes_of c a) ∙ ap (λ cs. takings cs) (tell_calm c a ∙ up_calm c (ATick t) left)) is

    pub leaves_so : (t : ℕ) (p : Plain T (SoloWaker X)) → So p → So (does wakes_of c (Call.DropTick t) p)
    leaves_so t p is =
        let q = moves.leaves wakes_of c (ATick t) p in
        answers_so Done q (of_same p q (leaves_still c (ATick t) p) (ap (λ cs. takings cs) (leaves_calm c (ATick t) p)) is)

    pub new_tick_so : (p : Plain T (SoloWaker X)) → So p → So (does wakes_of c Call.NewTick p)
    new_tick_so p is =
        either_so (plain.is_granted c.refusal) (answers Made p) (answers NoMemory p) (answers_so Made p is) (answers_so NoMemory p is)

    pub new_run_so : (p : Plain T (SoloWaker X)) → So p → So (does wakes_of c Call.NewRun p)
    new_run_so p is =
        let q = record p { runs = p.runs ++ record { taken = 0; is_over = false } ∷ [] } in
        either_so (plain.is_granted c.refusal) (answers Made q) (answers NoMemory p)
        (answers_so Made q (still_tallied runner way p q (λ k. made_counts c k p) refl is)) (answers_so NoMemory p is)

    -- the poll of a run begins, and its drop
    pub poll_so : (r : ℕ) (w : SoloWaker X) (p : Plain T (SoloWaker X)) → So p → So (does wakes_of c (Call.PollRun r w) p)
    poll_so r w p is =
        either_so (or (slice_get p.runs r) (λ run. run.is_over) true) (answers Finished p) (enters (PollOwn r w) p)
        (answers_so Finished p is)
        (of_same p (enters (PollOwn r w) p) refl refl is)

    pub drop_so : (r : ℕ) (p : Plain T (SoloWaker X)) → So p → So (does wakes_of c (Call.DropRun r) p)
    drop_so r p is =
        either_so (or (slice_get p.runs r) (λ run. run.is_over) true) (answers Done p) (enters (DropOwn r Done) p) (answers_so Done p is)
        (of_same p (enters (DropOwn r Done) p) refl refl is)

    pub ready_so : (r : ℕ) (w : SoloWaker X) (v : T) (rest : List (Code T (SoloWaker X))) (p : Plain T (SoloWaker X))
        → p.inside ≡ PollOwn r w ∷ rest → So p → So (does wakes_of c (Call.EndsWith v) p)
    ready_so r w v rest p is t =
        subst (λ cs. So (plain.innermost wakes_of c cs (plain.gives wakes_of c v) p)) (sym is)
        (of_same p (enters (DropOwn r Ready) (record p { inside = rest })) refl (sym (ap (λ cs. takings cs) is)) t)

    pub goes_so : (r : ℕ) (answer : Answer T) (rest : List (Code T (SoloWaker X))) (p : Plain T (SoloWaker X))
        → p.inside ≡ DropOwn r answer ∷ rest → So p → So (does wakes_of c Call.Ends p)
    goes_so r answer rest p is t =
        let out = record p { inside = rest } in
        let q = plain.gone wakes_of c r out in
        subst (λ cs. So (plain.innermost wakes_of c cs (plain.ends wakes_of c) p)) (sym is)
        (answers_so answer q
        (still_tallied runner way p q (λ k. gone_counts c r k out)
        (ap (λ cs. takings cs) (gone_calm c r out) ∙ sym (ap (λ cs. takings cs) is))
        t))

  -- between the codes of a run
  pub between : (runner : ℕ → Runner) (way : ℕ → Bool) (r : ℕ) (p q : Plain T (SoloWaker X)) → q.runs ≡ p.runs
      → ((k : ℕ) → (k == r) ≡ false → is_in k (takings q.inside) ≡ false → is_in k (takings p.inside) ≡ false)
      → Tallied runner way p → Between runner way r q
  between runner way r p q same others t =
      let count = λ (k : ℕ). ap (λ rs. or (slice_get rs k) (λ (run : Running). run.taken) 0) same in
      record {
        number = t.number;
        taken = λ k. t.taken k ∙ ap since (sym (count k));
        gives_way = λ k. ap (λ n. nat_lt n 200) (count k) ∙ t.gives_way k;
        calm = λ k away none. ap (λ n. nat_lt n 200) (count k) ∙ t.calm k (others k away none);
      }

  -- a run that is polled has no future in hand
  pub empty_handed : (runner : ℕ → Runner) (way : ℕ → Bool) (r : ℕ) (w : SoloWaker X) (rest : List (Code T (SoloWaker X)))
      (p : Plain T (SoloWaker X)) → p.inside ≡ PollOwn r w ∷ rest → Apart (busy_in p.inside) → Tallied runner way p
      → nat_lt (taken_by r p) 200 ≡ true
  empty_handed runner way r w rest p is apart_so t =
      let two = both_true (not (is_in r (busy_in rest))) (apart (busy_in rest)) (sym (ap (λ cs. apart (busy_in cs)) is) ∙ apart_so) in
      t.calm r
      (ap (λ cs. is_in r (takings cs)) is ∙ not_taking r rest (not_true (is_in r (busy_in rest)) two.0))

  -- the poll or drop of one that a run took goes on with that
  module _ (c : Choice) (r : ℕ) (w : SoloWaker X) (rest : List (Code T (SoloWaker X))) (stage : Stage T (SoloWaker X))
      (call : Call T (SoloWaker X)) (p : Plain T (SoloWaker X)) (is : p.inside ≡ code_at stage (Run r w) ∷ rest)
      (ends : IsEnding stage call) where
    abbrev a : Plain T (SoloWaker X)
    a = does wakes_of c call (in_try stage rest p)

    abbrev b : Plain T (SoloWaker X)
    b = does wakes_of c call p

    pub its_takings : takings p.inside ≡ r ∷ takings rest
    its_takings = ap (λ cs. takings cs) is ∙ stage_takings (Run r w) stage rest

    pub stays_so : (shown : List (Event T (SoloWaker X))) (e : Event T (SoloWaker X)) → is_answer e ≡ false
        → a.events ≡ p.events ++ (shown ++ e ∷ []) → a.runs ≡ p.runs → takings a.inside ≡ takings (in_try stage rest p).inside
        → (b.runs ≡ p.runs) × (takings b.inside ≡ takings p.inside)
    stays_so shown e unanswered seen same takings_are = by (ends_as c r w p rest stage call ends is)
      where
        seen_so : a.events ≡ (p.events ++ shown) ++ e ∷ []
        seen_so = seen ∙ sym (append_assoc p.events shown (e ∷ []))

        by : EndsAs c r w a b → (b.runs ≡ p.runs) × (takings b.inside ≡ takings p.inside)
        by (is_over q one two) =
            absurd (unlike (Answers Yes) e refl unanswered
            (same_last q.events (p.events ++ shown) (Answers Yes) e
            (sym (ap (λ (q : Plain T (SoloWaker X)). q.events) one) ∙ seen_so)).1)
        by (stays_in stage' q events e' not_so last one two) = (
          ap (λ (q : Plain T (SoloWaker X)). q.runs) two ∙ (sym (ap (λ (q : Plain T (SoloWaker X)). q.runs) one) ∙ same),
          ap (λ (q : Plain T (SoloWaker X)). takings q.inside) two
              ∙ (stage_takings (Run r w) stage' q.inside
              ∙ (ap (λ ns. r ∷ ns)
              (sym (stage_takings Try stage' q.inside)
              ∙ (sym (ap (λ (q : Plain T (SoloWaker X)). takings q.inside) one) ∙ (takings_are ∙ stage_takings Try stage rest)))
              ∙ sym its_takings)),
        )
