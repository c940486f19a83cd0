-- A run goes on, in both: once its own future is pending, and each time that it is done with one that it took.
use Rattle.std.proofs.Common.{◌≡◌, ℕ, ◌≤◌, if◌then◌else◌, nat_lt, not, true, List, [], ◌∷◌, ◌++◌, length, refl, sym, ap, subst, ◌∙◌}
use Rattle.solo.specs.declared.names.Task.{Task}
use Rattle.solo.specs.declared.names.SoloWaker.{SoloWaker}
use Rattle.solo.specs.declared.names.SoloWaker.TheVariants.{Task as OfTask, Outside}
use Rattle.solo.specs.declared.owed.Lent.{Lent}
use Rattle.solo.specs.declared.runs.Runner.{Runner}
use Rattle.solo.specs.declared.solo.Solo.{Solo}
use Rattle.solo.specs.Solo as solo
use Rattle.plain_scheduler.specs.State.{Answers, ARun, Calls, Choice, Done, Event, Pending, Plain, PollOwn, Run, Who}
use Rattle.plain_scheduler.specs.Lists.{or}
use Rattle.plain_scheduler.specs.Moves.{answers, see, tell, wake}
use Rattle.plain_scheduler.specs.Moves as moves
use Rattle.plain_scheduler.specs.Takes as takes
use Rattle.plain_scheduler.specs.Calls.{Call}
use Rattle.solo_laws.specs.Courses.{wakes as wakes_it}
use Rattle.solo_laws.specs.Numbered.{IsNumbered}
use Rattle.solo_laws.specs.Owner.{HasRoom, Owner}
use Rattle.solo_laws.specs.Road.{HasLife, IsNamed, wakes}
use Rattle.solo_laws.specs.RunGoing.{RunsOn, Searches, taken_by, gives_way, is_refused, lies_refused, looks_on, rests, robs_another}
use Rattle.solo_laws.specs.RunGoing.{takes_common, takes_own}
use Rattle.solo_laws.specs.RunResting.{EachListed}
use Rattle.solo_laws.specs.RunTaking.{woken_by}
use Rattle.solo_laws.specs.Shown.{rings}
use Rattle.solo_laws.specs.Tabled.{Stands, goes_on, named}
use Rattle.solo_laws.proofs.Following.Both.{wakes_alike}
use Rattle.solo_laws.proofs.Following.Counted.{runs_both, runs_give_way, runs_is, taken_none}
use Rattle.solo_laws.proofs.Following.Keeping.{makes_numbered}
use Rattle.solo_laws.proofs.Following.RunPolling.{same_hands}
use Rattle.solo_laws.proofs.Following.RunRefusing.{runs_lie_refused, runs_refused}
use Rattle.solo_laws.proofs.Following.RunResting.{runs_rest}
use Rattle.solo_laws.proofs.Following.RunSearching.{runs_take_common}
use Rattle.solo_laws.proofs.Following.RunTaking.{runs_take_own}
use Rattle.solo_laws.proofs.Following.RunWalking.{runs_take_kept}

module _ {F T X : Type 0} (its : ℕ → Lent) where
  -- both stand so, and this is seen
  abbrev pub Reached : Plain T (SoloWaker X) → List (Event T (SoloWaker X)) → (Who → ℕ) → Solo F T X → Plain T (SoloWaker X) → Type 0
  Reached p shown now z q = (Stands its z q × (q.events ≡ p.events ++ shown)) × IsNumbered now z.sleepers q.lying

  module _ (owner : Owner) (c : Choice) (runner : Runner) (w : SoloWaker X) (s : Solo F T X) (p : Plain T (SoloWaker X))
      (both : Stands its s p) (n : IsNumbered owner.number s.sleepers p.lying) (all : EachListed s.runs)
      (many : length p.lying ≤ c.tells) where
    abbrev r : ℕ
    r = runner.number

    -- as its own future is polled
    abbrev pub polled : Plain T (SoloWaker X)
    polled = record p { inside = PollOwn r w ∷ p.inside }

    pub polled_both : Stands its s polled
    polled_both = same_hands its s p both c (PollOwn r w ∷ p.inside) refl refl refl

    pub searches_alike : goes_on r p ≡ true → HasRoom (ARun r) s p → (shown : List (Event T (SoloWaker X))) (now : Owner) (z : Solo F T X)
        → Searches its owner c runner w s p shown now z → Reached p shown now.number z (takes.take wakes c (Run r w) p)
    searches_alike going room shown now z (takes_own start task first keeps life) =
        let it = runs_take_own its owner.number s polled polled_both n c runner w p.inside start task refl going first keeps many life in
        ((it.stands, it.seen), it.numbered)
    searches_alike going room shown now z (takes_common start task first found turn keeps life) =
        let it =
        runs_take_common its owner.number s polled polled_both n c runner w p.inside start task refl going first found turn keeps many
        life in
        ((it.stands, it.seen), it.numbered)
    searches_alike going room shown now z (robs_another start task first found turn finds robs moves keeps life) =
        let it =
        runs_take_kept its owner.number s polled polled_both n c runner w p.inside start task refl going first found turn finds robs moves
        keeps
        many life in
        ((it.stands, it.seen), it.numbered)
    searches_alike going room shown now z (rests first second missed turn granted names more life) =
        let it =
        runs_rest its owner.number s polled polled_both n all c r w p.inside first second refl going missed turn granted room names more
        life in
        ((it.stands, it.seen), it.numbered)
    searches_alike going room shown now z (is_refused start missed turn refused) =
        let it = runs_refused its owner.number s polled polled_both n all c r w p.inside start refl going missed turn refused in
        ((it.stands, it.seen), it.numbered)
    searches_alike going room shown now z (lies_refused first second missed turn refused names again more life) =
        let it =
        (runs_lie_refused its owner.number s polled polled_both n all c r w p.inside first second refl going missed turn refused room names
        again
        more life).refused in
        ((it.stands, it.seen), it.numbered)

    -- whoever sleeps has its number still
    way_numbered : ((t : Task) → w ≡ OfTask t → IsNamed (named its) (length p.futures) t) → HasLife 2 s.lines
        → IsNumbered owner.number (woken_by w s).sleepers (takes.gives_way wakes c r w p).lying
    way_numbered names life = subst Numbered (sym is) (by w names)
      where
        q : Plain T (SoloWaker X)
        q = moves.runs taken_none r p

        u : Plain T (SoloWaker X)
        u = record p { runs = q.runs }

        is : q ≡ u
        is = runs_is taken_none r p

        after : SoloWaker X → Plain T (SoloWaker X) → Plain T (SoloWaker X)
        after v q = answers Pending (or (wakes v) (λ f. wake wakes (tell wakes c) f q) (see (Calls v) q))

        Numbered : Plain T (SoloWaker X) → Type 0
        Numbered q = IsNumbered owner.number (woken_by w s).sleepers (after w q).lying

        u_both : Stands its s u
        u_both = subst (Stands its s) is (runs_both its taken_none (λ run. refl) r s p both)

        by : (v : SoloWaker X) → ((t : Task) → v ≡ OfTask t → IsNamed (named its) (length p.futures) t)
            → IsNumbered owner.number (woken_by v s).sleepers (after v u).lying
        by (Outside x) names = n
        by (OfTask t) names =
            let it = names t refl in
            subst (λ t. IsNumbered owner.number (solo.woken t s).sleepers (after (OfTask t) u).lying) it.1
            (subst (λ m. IsNumbered owner.number (solo.woken (named its t.number) s).sleepers
            (answers Pending (wake wakes (tell wakes c) m u)).lying) (sym (ap (λ (t : Task). t.number) it.1))
            (makes_numbered its c s u owner.number (Call.Wake t.number)
            (rings (solo.wake_answer (named its t.number) s).sleeper ++ Answers Done ∷ []) (solo.woken (named its t.number) s)
            (wakes_it t.number it.0 life) n many (wakes_alike its s u u_both c t.number it.0 many life)))

    pub runs_on_alike : goes_on r p ≡ true → HasRoom (ARun r) s p → nat_lt (taken_by r p) 200 ≡ not (owner.gives_way r)
        → (shown : List (Event T (SoloWaker X))) (now : Owner) (z : Solo F T X)
        → RunsOn its owner c runner w s p shown now z → Reached p shown now.number z (takes.next wakes c (Run r w) p)
    runs_on_alike going room way shown now z (looks_on shown' now' z' less how) =
        subst
        (λ b. Reached p shown' now'.number z' (if b then takes.take wakes c (Run r w) p else takes.gives_way wakes c r w p))
        (sym (way ∙ ap not less))
        (searches_alike going room shown' now' z' how)
    runs_on_alike going room way shown now z (gives_way enough names life) = (
      runs_give_way its s p both c r w (way ∙ ap not enough) names many life,
      subst
          (λ b. IsNumbered owner.number (woken_by w s).sleepers
          (if b then takes.take wakes c (Run r w) p else takes.gives_way wakes c r w p).lying) (sym (way ∙ ap not enough))
          (way_numbered names life),
    )
