-- A run that searches takes one, or lies down, or is refused: there is what its owner does.
use Rattle.std.proofs.Common.{◌≡◌, ℕ, suc, ◌≤◌, Bool, true, false, List, [], ◌++◌, length, Option, Some, None, refl, ap}
use Rattle.std.proofs.Common.{◌∙◌, arith}
use Rattle.executor_parts.specs.declared.mark.Mark.{Mark}
use Rattle.solo.specs.declared.names.Task.{Task}
use Rattle.solo.specs.declared.names.SoloWaker.{SoloWaker}
use Rattle.solo.specs.declared.owed.Lent.{Lent}
use Rattle.solo.specs.declared.runs.Runner.{Runner}
use Rattle.solo.specs.declared.solo.Solo.{Solo}
use Rattle.solo.specs.declared.steals.Source.TheVariants.{Common}
use Rattle.solo.specs.declared.ticks.Ticker.{Ticker}
use Rattle.solo.specs.Lines.{mark_of_turn, search_answer}
use Rattle.solo.specs.OwnQueues.{first_of}
use Rattle.solo.specs.Runs as runs
use Rattle.solo.specs.Solo as solo
use Rattle.solo.specs.Steals as steals
use Rattle.plain_scheduler.specs.State.{ARun, AtOnce, Choice, Event, Granted, Later, Plain, Refusal}
use Rattle.solo_laws.specs.Making.{IsKnown, RunsFrom, WalksFrom, may_copy, ran_as, rest_refusal, searched_as}
use Rattle.solo_laws.specs.Numbered.{ticker_of}
use Rattle.solo_laws.specs.Owner.{Owner}
use Rattle.solo_laws.specs.Road.{HasLife}
use Rattle.solo_laws.specs.RunGoing.{RunsOn, Searches, gives_way, is_refused, lies_refused, looks_on, rests, robs_another, takes_common}
use Rattle.solo_laws.specs.RunGoing.{takes_own}
use Rattle.solo_laws.specs.RunResting.{sleep_answer, slept_from}
use Rattle.solo_laws.specs.RunTaking.{searched_further}
use Rattle.solo_laws.specs.Stealing.{share_of, so_many, stolen_marks}
use Rattle.solo_laws.specs.Ticking.{looks_again}
use Rattle.solo_laws.specs.Walking.{robbed, robs_more, searched_none}
use Rattle.solo_laws.proofs.Happening.Choosing.{fewer}
use Rattle.solo_laws.proofs.Happening.Ticks.{can_copy, granted_so, later_so, names}

-- some choice that tells so, with which it is so
pub record SomeChoice (tells : ℕ) (So : Choice → Type 0) : Type 0 where
  pub choice : Choice
  pub tells_so : choice.tells ≡ tells
  pub so : So choice

module _ {F T X : Type 0} (its : ℕ → Lent) (owner : Owner) (runner : Runner) (w : SoloWaker X) (s : Solo F T X) (refusal : Refusal)
    (first second : ℕ) where
  -- with this choice
  pub record IsSought (c : Choice) (p : Plain T (SoloWaker X)) : Type 0 where
    pub shown : List (Event T (SoloWaker X))
    pub now : Owner
    pub after : Solo F T X
    pub how : Searches its owner c runner w s p shown now after
    pub heeds : c.refusal ≡ searched_as its owner c s p runner w shown now after refusal how
    pub starts : WalksFrom its owner c s p runner w first second shown now after how

  pub record IsRunOn (c : Choice) (p : Plain T (SoloWaker X)) : Type 0 where
    pub shown : List (Event T (SoloWaker X))
    pub now : Owner
    pub after : Solo F T X
    pub how : RunsOn its owner c runner w s p shown now after
    pub heeds : c.refusal ≡ ran_as its owner c s p runner w shown now after refusal how
    pub starts : RunsFrom its owner c s p runner w first second shown now after how

  abbrev r : ℕ
  r = runner.number

  module _ (p : Plain T (SoloWaker X)) (tells : ℕ) (known : IsKnown its owner s p w) (few : suc (length p.lying) ≤ tells)
      (life : HasLife 5 s.lines) where
    abbrev ticker : Ticker
    ticker = ticker_of owner.number (ARun r) p.lying

    abbrev choosing : List Mark → ℕ → ℕ → Refusal → Choice
    choosing keeps robs moves given =
        record { first = mark_of_turn s.lines.turn; keeps = keeps; robs = robs; moves = moves; tells = tells; refusal = given }

    abbrev again : Bool
    again = looks_again (sleep_answer r first ticker w s).look

    abbrev given : Refusal
    given = rest_refusal (may_copy w s) again (may_copy w (slept_from r first ticker w s)) refusal

    missed : first_of r s.runs ≡ None → solo.sought s ≡ None → (steals.whole_round r first (searched_none r s)).0 ≡ None
        → (steals.seek_answer r first s).task ≡ None
    missed own common walk =
        ap (λ o. (steals.seek_answer_by o r first (steals.own_popped r s)).task) own
        ∙ (ap (λ o. (steals.further_answer_by o r first (searched_none r s)).task) common ∙ walk)

    lies : (steals.seek_answer r first s).task ≡ None → (g : Refusal) → given ≡ g → SomeChoice tells (λ c. IsSought c p)
    lies none Granted is =
        let can = granted_so (may_copy w s) again (may_copy w (slept_from r first ticker w s)) refusal is in
        record {
          choice = choosing [] 0 0 given;
          tells_so = refl;
          so = record {
            shown = _;
            now = _;
            after = _;
            how =
                rests first second none refl is (can_copy its owner s (slept_from r first ticker w s) p again w known can.0 can.1)
                few (fewer 2 5 s.lines (omega arith) life);
            heeds = refl;
            starts = (refl, refl);
          };
        }
    lies none AtOnce is = record {
      choice = choosing [] 0 0 given;
      tells_so = refl;
      so = record { shown = _; now = owner; after = _; how = is_refused first none refl is; heeds = refl; starts = refl };
    }
    lies none Later is =
        let can = later_so (may_copy w s) again (may_copy w (slept_from r first ticker w s)) refusal is in
        record {
          choice = choosing [] 0 0 given;
          tells_so = refl;
          so = record {
            shown = _;
            now = _;
            after = _;
            how =
                lies_refused first second none refl is
                (λ u of. (let it = can_copy its owner s s p false w known can.0 (λ no. absurd cc) u of in (it.0, it.1)))
                can.1 few (fewer 2 5 s.lines (omega arith) life);
            heeds = refl;
            starts = (refl, refl);
          };
        }

    pub search_happens : SomeChoice tells (λ c. IsSought c p)
    search_happens = own (first_of r s.runs) refl
      where
        walk : first_of r s.runs ≡ None → solo.sought s ≡ None → (o : Option Task)
            → (steals.whole_round r first (searched_none r s)).0 ≡ o → SomeChoice tells (λ c. IsSought c p)
        walk alone nothing None none = lies (missed alone nothing none) given refl
        walk alone nothing (Some task) found =
            let y = searched_none r s in
            let z = steals.walked r first y in
            record {
              choice =
                  choosing (stolen_marks (runs.is_steal_due runner) r (runs.told ticker z)) (robbed r first y).0 (robs_more r first y)
                  refusal;
              tells_so = refl;
              so = record {
                shown = _;
                now = _;
                after = _;
                how = robs_another first task alone nothing refl found refl refl refl life;
                heeds = refl;
                starts = refl;
              };
            }

        common : first_of r s.runs ≡ None → (o : Option Task) → solo.sought s ≡ o → SomeChoice tells (λ c. IsSought c p)
        common alone None none = walk alone none (steals.whole_round r first (searched_none r s)).0 refl
        common alone (Some task) found =
            let mark = (search_answer s.lines).mark in
            record {
              choice =
                  choosing
                  (so_many (share_of (Common mark) r (solo.popped (steals.own_popped r s))) mark
                  ++ stolen_marks (runs.is_steal_due runner) r (runs.told ticker (searched_further r s))) 0 0 refusal;
              tells_so = refl;
              so = record {
                shown = _;
                now = _;
                after = _;
                how = takes_common first task alone found refl refl life;
                heeds = refl;
                starts = refl;
              };
            }

        own : (o : Option Task) → first_of r s.runs ≡ o → SomeChoice tells (λ c. IsSought c p)
        own None none = common none (solo.sought s) refl
        own (Some task) found = record {
          choice = choosing (stolen_marks (runs.is_steal_due runner) r (runs.told ticker (steals.own_popped r s))) 0 0 refusal;
          tells_so = refl;
          so = record {
            shown = _;
            now = _;
            after = _;
            how = takes_own first task found refl life;
            heeds = refl;
            starts = refl;
          };
        }

    pub run_on_happens : SomeChoice tells (λ c. IsRunOn c p)
    run_on_happens = by (owner.gives_way r) refl
      where
        by : (b : Bool) → owner.gives_way r ≡ b → SomeChoice tells (λ c. IsRunOn c p)
        by false less =
            let it = search_happens in
            record {
              choice = it.choice;
              tells_so = it.tells_so;
              so = record {
                shown = it.so.shown;
                now = it.so.now;
                after = it.so.after;
                how = looks_on it.so.shown it.so.now it.so.after less it.so.how;
                heeds = it.so.heeds;
                starts = it.so.starts;
              };
            }
        by true enough = record {
          choice = choosing [] 0 0 refusal;
          tells_so = refl;
          so = record {
            shown = _;
            now = _;
            after = _;
            how = gives_way enough (names its owner s s p w known) (fewer 2 5 s.lines (omega arith) life);
            heeds = refl;
            starts = tt;
          };
        }
