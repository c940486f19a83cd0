-- The ends of codes in which a party stands in calls one inside another, by kinds of code: where its call rests next, both stand alike.
use Rattle.std.proofs.Common.{◌≡◌, ℕ, suc, ◌<◌, ◌≤◌, ◌++◌, Bool, true, false, List, [], ◌∷◌, length, Option, Some, None, is_some}
use Rattle.std.proofs.Common.{refl, sym, ap, subst, ◌∙◌, arith}
use Rattle.std.specs.Prelude.{reverse}
use Rattle.task_moves.specs.declared.moves.owed.Move.{Move}
use Rattle.task_moves.specs.declared.moves.owed.Move.TheVariants as move
use Rattle.executor_model.specs.declared.event.Answer.TheVariants as answer
use Rattle.executor_model.specs.declared.op.HandleOp.TheVariants as handle_op
use Rattle.executor_model.specs.declared.op.Op.{Op}
use Rattle.executor_model.specs.declared.op.Op.TheVariants as op
use Rattle.executor_model.specs.declared.op.TableOp.TheVariants as table_op
use Rattle.executor_model.specs.declared.op.UserOp.TheVariants as user_op
use Rattle.executor_model.specs.declared.op.Waker.{Waker}
use Rattle.executor_model.specs.declared.step.Step.TheVariants.{Answer}
use Rattle.executor_model.specs.declared.step.Hint.{Hint}
use Rattle.executor_model.specs.declared.step.StepError.TheVariants.{WrongAnswer}
use Rattle.executor_model.specs.declared.step.UserEnd.{UserEnd}
use Rattle.executor_model.specs.declared.step.UserEnd.TheVariants as end
use Rattle.executor_model.specs.Acts.{is_last_waker}
use Rattle.executor_model.specs.Rows.{running_of}
use Rattle.executor_model.specs.Steps.{Machine, accepts, answer_refusal, react, refusal, stack}
use Rattle.executor_model.specs.World.{Done, World, done, task}
use Rattle.executor_model.specs.Weights.{weigh}
use Rattle.executor_model.proofs.OwnQueues.Using.{emptying_of, polling_of}
use Rattle.executor_model.proofs.Steps.Reached.{Reached}
use Rattle.executor_model.proofs.Steps.Stepping.{refusal-there}
use Rattle.executor_laws.proofs.Termination.LoneEnds.{OthersRest}
use Rattle.plain_scheduler.specs.State.{Choice, Closed, Code, Drop, End, Granted, Lose, Plain, Poll}
use Rattle.plain_scheduler.specs.State.{Taker}
use Rattle.plain_scheduler.specs.Lists.{on}
use Rattle.plain_scheduler.specs.Moves.{is_kept}
use Rattle.plain_scheduler.specs.Searches.{searches, searches_behind}
use Rattle.plain_scheduler.specs.Moves as plain
use Rattle.plain_scheduler.specs.Calls as plain_calls
use Rattle.plain_scheduler.specs.Calls.{does, Ends, EndsWith, Pends}
use Rattle.machine_roads.specs.View.{Output, wakes}
use Rattle.machine_roads.specs.Road.{Follows, futures_in, waking_in}
use Rattle.machine_roads.specs.Alone.{HasAll, alone, is_resting}
use Rattle.machine_roads.specs.Choosing.{Chooses}
use Rattle.machine_roads.specs.Dropped.{Drops, IsEnding, rest_of, without_run}
use Rattle.machine_roads.specs.Forgotten.{IsForgotten, IsLastPoll, StopsForgetting, unawaited, without_awaiter}
use Rattle.machine_roads.specs.Refused.{IsLaterAnew}
use Rattle.machine_roads.specs.Searching.{goes_on_by, start_of}
use Rattle.machine_roads.specs.Stopped.{Finally, IsInPoll, given, of_last, of_tick, of_try, pended}
use Rattle.machine_roads.specs.Within.{ActsBy, IsMade, Nested, alike, ends, gives, pends}
use Rattle.machine_roads.specs.Within.{GoesOnBy, by_run, by_tick, by_try}
use Rattle.machine_roads.proofs.Endings.{ending_as, forgotten_as, unawaited_in}
use Rattle.machine_roads.proofs.ActBegins.{choice_in, enough, more_by_one}
use Rattle.machine_roads.proofs.ActLands.{FactsOf, Lands, Tells, drops_lands, forgets_lands, goes_lands}
use Rattle.machine_roads.proofs.ActLands.{stays_lands}
use Rattle.machine_roads.proofs.AloneKeeps.{due}
use Rattle.machine_roads.proofs.Chosen.{found_so, later_so, looks_first, searches_so, still_so}
use Rattle.machine_roads.proofs.Counting.{Alike, Counted, StandsSo, leaves, like, over_in, some_op}
use Rattle.machine_roads.proofs.GoingStill.{behind_pended, dropped_still, forgets_still, forgotten_still, lost_still, pended_still}
use Rattle.machine_roads.proofs.Having.{same_self}
use Rattle.machine_roads.proofs.Inmost.{IsDropOf, is_going, is_taken, rests_in}
use Rattle.machine_roads.proofs.LaterAnew.{LiesThere, ends_anew, granted_anew}
use Rattle.machine_roads.proofs.Lists.{clash}
use Rattle.machine_roads.proofs.LoneRuns.{passed}
use Rattle.machine_roads.proofs.Passing.{Passes, telling}
use Rattle.machine_roads.proofs.Pending.{gives_so}
use Rattle.machine_roads.proofs.Puts.{put_by}
use Rattle.machine_roads.proofs.RunApart.{drop_ends, gives_ends, loss_ends, pends_ends}
use Rattle.machine_roads.proofs.RunEnding.{behind_dropped, behind_lost}
use Rattle.machine_roads.proofs.RunHere.{Above, final_none, going_here, left_here, none_empty, off_left, used_once}
use Rattle.machine_roads.proofs.RunsOn.{Searched, search_at}
use Rattle.machine_roads.proofs.Standing.{IsGoing, IsTaken, StaysSo}
use Rattle.machine_roads.proofs.Stepping.{Way}
use Rattle.machine_roads.proofs.Still.{Still, alone_still, due_resting, reacts_still, still_on, stirs}
use Rattle.machine_roads.proofs.Tying.{LeadsSo, top_of}
use Rattle.machine_roads.proofs.Unsearched.{ActsAnyhow}
use Rattle.machine_roads.proofs.Unseen.{stands_in}

module _ (s : Machine) (reached : Reached s) (p : ℕ) (there : p < length s.parties) (open_still : s.world.gone ≡ false)
    (others : OthersRest p s) (q : Plain Output Waker) (counted : Counted (reverse (stack s p)) q.runs) where
  abbrev pub c1 : Choice
  c1 = choice_in s q Granted

  many : length q.lying ≤ suc (length q.lying)
  many = enough (length q.lying)

  pub room : length q.lying < suc (length q.lying)
  room = more_by_one (length q.lying)

  abbrev pub Comes : ℕ → UserEnd → Done → Type 0
  Comes start u e = (r : Plain Output Waker) × ActsBy s p (Answer p u) q r e.world start × StandsSo e r

  -- whatever it is told from here on: from where it then reads the list of queues
  abbrev pub LeadsTo : UserEnd → Done → Type 0
  LeadsTo u d =
      (hints : List Hint) → HasAll p hints d → is_resting (alone p hints d).next ≡ true → Comes (start_of p hints d) u (alone p hints d)

  abbrev pub Leads : UserEnd → Op → List Op → Type 0
  Leads u o os = LeadsTo u (done (react p o u s.world).world ((react p o u s.world).next ++ os))

  -- from wherever
  pub leads_anyhow : (u : UserEnd) (d : Done)
      → LeadsSo p d (λ e. (r : Plain Output Waker) × ActsAnyhow s p (Answer p u) q r e.world × StandsSo e r) → LeadsTo u d
  leads_anyhow u d leads hints all rests =
      let g = leads hints all rests in
      (g.0, g.1 (start_of p hints d), g.2)

  -- it ends so
  pub record EndsSo (u : UserEnd) : Type 0 where
    pub first : Op
    pub rest : List Op
    pub is : reverse (stack s p) ≡ first ∷ rest
    pub leads : Leads u first rest

  pub accepted : (u : UserEnd) (o : Op) (os : List Op) → refusal s (Answer p u) ≡ None → reverse (stack s p) ≡ o ∷ os
      → accepts o u ≡ true
  accepted u o os may is =
      passed (accepts o u) WrongAnswer None
      (sym (ap (λ t. answer_refusal t u) (top_of (stack s p) o os is).0) ∙ (sym (refusal-there s (Answer p u) there) ∙ may))

  pub came_by : (start : ℕ) (u : UserEnd) (x : plain_calls.Call Output Waker) → IsMade s p (Answer p u) x → (e : Done) (d : Choice)
      → d.tells ≡ c1.tells → IsLaterAnew d x q (does wakes d x q) → Chooses start s.world e.world d x q
      → StandsSo e (does wakes d x q) → Comes start u e
  came_by start u x is e d tells anew chooses so = (
    does wakes d x q,
    record {
      choice = d;
      made = x;
      chosen = subst (λ n. length q.lying < n) (sym tells) room;
      is = is;
      so = refl;
      anew = anew;
      chooses = chooses;
    },
    so,
  )

  module _ (below : List Op) (inside : List (Code Output Waker)) (nested : Nested below inside) where
    pub under : is_resting below ≡ true
    under = rests_in below inside nested

    abbrev pub outer : Plain Output Waker
    outer = record q { inside = inside }

    -- as the plain scheduler stands in this code
    abbrev inner : Code Output Waker → Plain Output Waker
    inner code = record q { inside = code ∷ inside }

    same : (code : Code Output Waker) → q.inside ≡ code ∷ inside → inner code ≡ q
    same code at = ap (λ (codes : List (Code Output Waker)). record q { inside = codes }) (sym at)

    pub follows0 : (code : Code Output Waker) → q.inside ≡ code ∷ inside → waking_in (code ∷ inside) ≡ waking_in inside → (w : World)
        → Follows w q → Follows w outer
    follows0 code at quiet w follows = stands_in inside w q follows (sym (ap (λ codes. waking_in codes) at ∙ quiet))

    -- so it chooses, and where it searches in vain it is refused memory so
    abbrev pub Says : ℕ → plain_calls.Call Output Waker → Code Output Waker → Done → Choice → Type 0
    Says start x code e d = Chooses start s.world e.world d x (inner code) × LiesThere (inner code) (does wakes d x (inner code)) d x

    -- the call has ended, and no run has changed
    pub back : (start : ℕ) (u : UserEnd) (x : plain_calls.Call Output Waker) → IsMade s p (Answer p u) x → (code : Code Output Waker)
        → q.inside ≡ code ∷ inside → (e : Done) → Chooses start s.world e.world c1 x (inner code) → e.next ≡ below
        → (does wakes c1 x (inner code)).inside ≡ inside
        → Counted below (does wakes c1 x (inner code)).runs → Follows e.world (does wakes c1 x (inner code)) → Comes start u e
    back start u x is code at e chooses next stays count follows =
        let z = does wakes c1 x (inner code) in
        came_by start u x is e c1 refl (granted_anew q (does wakes c1 x q) c1 x refl)
        (subst (λ y. Chooses start s.world e.world c1 x y) (same code at) chooses)
        (subst (λ y. StandsSo e (does wakes c1 x y)) (same code at)
        (record {
          alike = alike (subst (λ os. Nested os z.inside) (sym next) (subst (λ codes. Nested below codes) (sym stays) nested)) follows;
          counted = subst (λ os. Counted os z.runs) (sym next) count;
        }))

    -- where it lands, by a choice that tells alike
    pub lands_so : (start : ℕ) (u : UserEnd) (x : plain_calls.Call Output Waker) → IsMade s p (Answer p u) x → (code : Code Output Waker)
        → q.inside ≡ code ∷ inside → (e : Done) (rests : is_resting e.next ≡ true)
        → Lands p below outer nested under c1 room e rests (λ d. does wakes d x (inner code)) (Says start x code e) → Comes start u e
    lands_so start u x is_made code at e rests lands =
        let d = lands.choice in
        let says =
        subst (λ y. Chooses start s.world e.world d x y × LiesThere y (does wakes d x y) d x) (same code at) lands.says in
        came_by start u x is_made e d lands.tells (ends_anew q (does wakes d x q) s p (Answer p u) d x refl is_made says.1) says.0
        (subst (λ y. StandsSo e (does wakes d x y)) (same code at) lands.stands)

    -- of no search nothing is said
    pub none_says : (start : ℕ) (x : plain_calls.Call Output Waker) (code : Code Output Waker) (e : Done) → looks_first x ≡ false
        → searches wakes c1 x (inner code) ≡ None → Still s.world e.world → Says start x code e c1
    none_says start x code e other none still = (
      still_so s.world e.world x (inner code) c1 other none still.counted still.turn start,
      λ y is vain later. absurd (clash (ap is_some none) (ap is_some is)),
    )

    -- of a search it is
    pub found_says : (start : ℕ) (x : plain_calls.Call Output Waker) (code : Code Output Waker) (e : Done) (d : Choice) (w : World)
        (r : ℕ) (a : Waker) (b : Plain Output Waker) → Still s.world w → searches wakes d x (inner code) ≡ Some (search_at r a b)
        → Searched start r a w b d e.world (does wakes d x (inner code)) → Says start x code e d
    found_says start x code e d w r a b still is so = (
      found_so s.world e.world x (inner code) d start w r a b (does wakes d x (inner code)) still is so,
      λ y its vain later. later_so s.world e.world x (inner code) d start w r a b (does wakes d x (inner code)) is so y its vain later,
    )

    pub count_at : (os xs : List Op) → reverse (stack s p) ≡ os → Alike os xs → Counted xs q.runs
    count_at os xs is alike_so = like os xs q.runs alike_so (subst (λ os. Counted os q.runs) is counted)

    module _ (taker : Taker Waker) (final : Op) (it : GoesOnBy taker final) (os : List Op) (is : reverse (stack s p) ≡ os)
        (above : Above os (final ∷ below)) where
      count : Counted (final ∷ below) q.runs
      count =
          like os (final ∷ below) q.runs (record { last = λ r. sym (above.alike.last r); left = λ r. sym (above.alike.left r) })
          (subst (λ os. Counted os q.runs) is counted)

      -- no run is emptied
      quiet : (k : ℕ) → some_op (leaves k) os ≡ false → weigh (emptying_of k) os ≡ 0
      quiet k off =
          let two = off_left (leaves k final) (some_op (leaves k) below) (sym (above.alike.left k) ∙ off) in
          omega (arith, above.emptied k, (final_none k taker final it).0, none_empty k below inside nested two.1)

      -- what is so of a run that takes, by what holds of the machine
      facts_by : (v : World) (y : Plain Output Waker) → Follows v y → v.runs ≡ s.world.runs → v.own ≡ s.world.own → y.runs ≡ q.runs
          → y.due ≡ q.due → FactsOf below outer taker final it
      facts_by v y follows runs own same_runs same_due = by taker final it above
        where
          by : (taker : Taker Waker) (final : Op) (it : GoesOnBy taker final) → Above os (final ∷ below) → FactsOf below outer taker final
              it
          by taker final by_try above = tt
          by taker final (by_tick t a) above = tt
          by taker final (by_run x last) above = record {
            unused = omega (arith, used_once s reached p there os is x.run, above.used x.run, uses last);
            going = ap (λ rs. over_in x.run rs) (sym same_runs)
                ∙ going_here s reached p there os is y v follows runs own x.run (omega (arith, above.polled x.run, polls last));
            left = λ k over.
                ap (λ ds. futures_in (is_kept k) ds) (sym same_due)
                ∙ left_here s reached p there os is y v follows runs own others quiet
                (subst (Counted os) (sym same_runs) (subst (λ os. Counted os q.runs) is counted)) k
                (ap (λ rs. over_in k rs) same_runs ∙ over);
          }
            where
              uses : (last : Bool) → running_of x.run (goes_on_by x last) ≡ 1
              uses true = same_self x.run
              uses false = same_self x.run

              polls : (last : Bool) → polling_of x.run (goes_on_by x last) ≡ 1
              polls true = same_self x.run
              polls false = same_self x.run

      facts : (v : World) → Follows v q → v.runs ≡ s.world.runs → v.own ≡ s.world.own → FactsOf below outer taker final it
      facts v follows runs own = facts_by v q follows runs own refl refl

      -- where the call comes to, by a choice that tells alike
      came : (start : ℕ) (u : UserEnd) (x : plain_calls.Call Output Waker) → IsMade s p (Answer p u) x → (code : Code Output Waker)
          → q.inside ≡ code ∷ inside → (e : Done) (rests : is_resting e.next ≡ true)
          → Lands p below outer nested under c1 room e rests (λ d. does wakes d x (inner code)) (Says start x code e) → Comes start u e
      came start u x is_made code at e rests lands = lands_so start u x is_made code at e rests lands

      -- where a run searches behind, it chooses so; and where none does nothing is counted
      tells_so : (start : ℕ) (x : plain_calls.Call Output Waker) (code : Code Output Waker) (e : Done) (rests : is_resting e.next ≡ true)
          → looks_first x ≡ false → (behind : Choice → Option (Plain Output Waker))
          → ((d : Choice) → searches wakes (telling c1.tells d) x (inner code)
          ≡ searches_behind wakes (telling c1.tells d) taker (behind (telling c1.tells d)))
          → (pass : Passes p taker final below outer c1.tells e (λ d. does wakes d x (inner code)) behind) → Still s.world pass.so.world
          → Tells p below outer nested under c1 room e rests (λ d. does wakes d x (inner code)) (Says start x code e) start taker final
          pass.so.world pass.before
      tells_so start x code e rests other behind goes pass still = record {
        searched = λ r a is d so.
            let c = telling c1.tells d in
            found_says start x code e c pass.so.world r a pass.before still
            (goes d ∙ (ap (searches_behind wakes c taker) (pass.at d) ∙ searches_so c r a pass.before taker is so.few)) so;
        unsearched = λ it none.
            none_says start x code e other (goes c1 ∙ (ap (searches_behind wakes c1 taker) (pass.at c1) ∙ none))
            (still_on s.world pass.so.world e.world still (on taker final it pass.so.way));
      }
        where
          stays_on : (final : Op) → due stirs (final ∷ below) ≡ 0 → Way p e pass.so.world (final ∷ below) → Still pass.so.world e.world
          stays_on final none way =
              subst (λ (d : Done). Still pass.so.world d.world) way.is (alone_still p way.hints pass.so.world (final ∷ below) none)

          on : (taker : Taker Waker) (final : Op) → Finally outer taker final → Way p e pass.so.world (final ∷ below)
              → Still pass.so.world e.world
          on taker final of_try way = stays_on final (omega (arith, due_resting below under)) way
          on taker final (of_tick t a) way = stays_on final (omega (arith, due_resting below under)) way
          on taker final (of_last x last) way = stays_on final (omega (arith, due_resting below under)) way

      -- a poll
      pub from_poll : (f : ℕ) → os ≡ op.User (user_op.Poll f) ∷ final ∷ below → q.inside ≡ Poll f taker ∷ inside
          → Follows s.world q → (u : UserEnd) → accepts (op.User (user_op.Poll f)) u ≡ true
          → Leads u (op.User (user_op.Poll f)) (final ∷ below)
      from_poll f first at follows (end.Polled answer.Pending) ok =
          by (is_last_waker move.EndPending (task s.world f)) refl
        where
          taken : IsTaken s.world f
          taken = is_taken s p reached there open_still f (final ∷ below) (is ∙ first)

          here : Follows s.world outer
          here = follows0 (Poll f taker) at refl s.world follows

          its : FactsOf below outer taker final it
          its = facts s.world follows refl refl

          will : Choice → Plain Output Waker
          will d = does wakes d Pends (inner (Poll f taker))

          behind : Choice → Option (Plain Output Waker)
          behind d = behind_pended p below under s.world taker final outer c1 [] f d

          unsearched : (start : ℕ) (e : Done) → behind c1 ≡ None → Still s.world e.world → Says start Pends (Poll f taker) e c1
          unsearched start e none still =
              none_says start Pends (Poll f taker) e refl (ap (searches_behind wakes c1 taker) none) still

          by : (b : Bool) → is_last_waker move.EndPending (task s.world f) ≡ b
              → Leads (end.Polled answer.Pending) (op.User (user_op.Poll f)) (final ∷ below)
          by false left = λ hints all rests.
              let in_poll : IsInPoll s.world f =
              record { known = taken.known; polled = taken.polled; entered = taken.entered; reached = left } in
              let n = start_of p hints (pended p f final below s.world) in
              let e = alone p hints (pended p f final below s.world) in
              came n (end.Polled answer.Pending) Pends pends (Poll f taker) at e rests
              (goes_lands p below outer nested under c1 room e rests will (Says n Pends (Poll f taker) e) taker final it count its
              (λ d. pends_ends d taker outer f) n (Still s.world) behind (StaysSo taker final below outer e)
              (tells_so n Pends (Poll f taker) e rests refl behind (λ d. refl))
              (λ stays runs none still.
              stays_lands p below outer nested under c1 room e rests will (Says n Pends (Poll f taker) e) taker final it count its
              (λ d. pends_ends d taker outer f) c1 refl stays runs.runs (unsearched n e none still))
              (pended_still p below under s.world taker final outer c1 hints f here in_poll many all rests))
          by true last = λ hints all rests.
              let last_poll : IsLastPoll s.world f =
              record { known = taken.known; polled = taken.polled; entered = taken.entered; last = last } in
              let n = start_of p hints (pended p f final below s.world) in
              let e = alone p hints (pended p f final below s.world) in
              came n (end.Polled answer.Pending) Pends pends (Poll f taker) at e rests
              (goes_lands p below outer nested under c1 room e rests will (Says n Pends (Poll f taker) e) taker final it count its
              (λ d. pends_ends d taker outer f) n (Still s.world) behind (StopsForgetting taker final below f outer e)
              (tells_so n Pends (Poll f taker) e rests refl behind (λ d. refl))
              (λ stops runs none still.
              forgets_lands p below outer nested under c1 room e rests will (Says n Pends (Poll f taker) e) taker final it count its
              (λ d. pends_ends d taker outer f) f c1 refl stops runs.runs (unsearched n e none still))
              (forgets_still p below under s.world taker final outer c1 hints f here last_poll all rests))
      from_poll f first at follows (end.Polled answer.Ready) ok = λ hints all rests.
          let taken : IsTaken s.world f = is_taken s p reached there open_still f (final ∷ below) (is ∙ first) in
          let n = start_of p hints (given p f final below s.world) in
          let e = alone p hints (given p f final below s.world) in
          came n (end.Polled answer.Ready) (EndsWith tt) gives (Poll f taker) at e rests
          (stays_lands p below outer nested under c1 room e rests (λ d. does wakes d (EndsWith tt) (inner (Poll f taker)))
          (Says n (EndsWith tt) (Poll f taker) e) taker final it count
          (facts s.world follows refl refl) (λ d. gives_ends d taker outer f tt) c1 refl
          ((gives_so p below s.world outer under (follows0 (Poll f taker) at refl s.world follows) taker final f c1 hints all rests).0
          taken)
          refl
          (none_says n (EndsWith tt) (Poll f taker) e refl refl
          (still_on s.world (given p f final below s.world).world e.world
          (reacts_still p (op.User (user_op.Poll f)) (end.Polled answer.Ready) s.world)
          (alone_still p hints (given p f final below s.world).world (given p f final below s.world).next refl))))
      from_poll f first at follows u ok = absurd cc

      -- the drop of a future
      pub from_drop : (f : ℕ) (m : Move) (why : End Output) → IsDropOf m why
          → os ≡ op.User (user_op.Drop f) ∷ op.Table (table_op.LeaveTable f) ∷ op.Move m f ∷ final ∷ below
          → q.inside ≡ Drop f why taker ∷ inside → Follows s.world q → (u : UserEnd) → accepts (op.User (user_op.Drop f)) u ≡ true
          → Leads u (op.User (user_op.Drop f)) (op.Table (table_op.LeaveTable f) ∷ op.Move m f ∷ final ∷ below)
      from_drop f m why how first at follows end.Done ok = λ hints all rests.
          let going : IsGoing s.world f m why = is_going s p reached there open_still f m why (final ∷ below) how (is ∙ first) in
          let n = start_of p hints (done s.world (op.Table (table_op.LeaveTable f) ∷ op.Move m f ∷ final ∷ below)) in
          let e = alone p hints (done s.world (op.Table (table_op.LeaveTable f) ∷ op.Move m f ∷ final ∷ below)) in
          let its = facts s.world follows refl refl in
          let code = Drop f why taker in
          let says = Says n Ends code e in
          let behind = behind_dropped f why outer in
          came n end.Done Ends ends code at e rests
          (goes_lands p below outer nested under c1 room e rests (λ d. does wakes d Ends (inner code)) says taker final it count its
          (λ d. drop_ends d taker outer f why) n (Still s.world) behind (Drops taker final below f outer e)
          (tells_so n Ends code e rests refl behind (λ d. refl))
          (λ drops runs none still.
          drops_lands p below outer nested under c1 room e rests (λ d. does wakes d Ends (inner code)) says taker final it count its
          (λ d. drop_ends d taker outer f why) f c1 refl drops runs.runs
          (none_says n Ends code e refl (ap (searches_behind wakes c1 taker) none) still))
          (dropped_still p below under s.world taker final outer c1 hints (follows0 code at refl s.world follows) f m why going.known
          going.entered going.ends many all rests))
      from_drop f m why how first at follows u ok = absurd cc

      -- the drop of an output that nobody can take
      pub from_loss : (f : ℕ) (awaiter : Option Waker) → q.inside ≡ Lose awaiter (Some taker) ∷ inside → IsEnding s.world f awaiter q
          → (u : UserEnd) → accepts (op.User (user_op.DropOutput f)) u ≡ true
          → Leads u (op.User (user_op.DropOutput f)) (rest_of (task s.world f).awaiter f final ++ below)
      from_loss f awaiter at ending end.Done ok = λ hints all rests.
          let ending0 : IsEnding s.world f awaiter outer =
          ending_as ending (follows0 (Lose awaiter (Some taker)) at refl (without_run f s.world) ending.follows) in
          let n = start_of p hints (done s.world (rest_of (task s.world f).awaiter f final ++ below)) in
          let e = alone p hints (done s.world (rest_of (task s.world f).awaiter f final ++ below)) in
          let code = Lose awaiter (Some taker) in
          let behind = behind_lost awaiter outer in
          came n end.Done Ends ends code at e rests
          (goes_lands p below outer nested under c1 room e rests (λ d. does wakes d Ends (inner code)) (Says n Ends code e) taker final it
          count (facts (without_run f s.world) ending.follows refl refl) (λ d. loss_ends d taker outer awaiter) n (Still s.world) behind
          (λ z. ⊥) (tells_so n Ends code e rests refl behind (λ d. refl)) (λ stops runs none still. absurd stops)
          (lost_still p below under s.world taker final outer c1 hints f awaiter ending0 many all rests))
      from_loss f awaiter at ending u ok = absurd cc

      facts_forgotten : (f : ℕ) → IsForgotten s.world f q → FactsOf below outer taker final it
      facts_forgotten f it_is =
          let new = record (plain.task f q) { awaiter = None } in
          facts_by (without_awaiter f s.world) (unawaited f q) it_is.follows refl refl (put_by (λ p. p.runs) f new q (λ fs. refl))
          (put_by (λ p. p.due) f new q (λ fs. refl))

      -- the drop of a future that nobody could wake
      pub from_forgotten : (f : ℕ) → q.inside ≡ Drop f Closed taker ∷ inside → IsForgotten s.world f q → (u : UserEnd)
          → accepts (op.User (user_op.Drop f)) u ≡ true
          → Leads u (op.User (user_op.Drop f)) (op.Table (table_op.LeaveTable f) ∷ op.Handle (handle_op.LetGo f) ∷ final ∷ below)
      from_forgotten f at it_is end.Done ok = λ hints all rests.
          let forgotten0 : IsForgotten s.world f outer =
          forgotten_as inside it_is
          (unawaited_in f inside (without_awaiter f s.world) q it_is.follows (sym (ap (λ codes. waking_in codes) at))) in
          let first = done s.world (op.Table (table_op.LeaveTable f) ∷ op.Handle (handle_op.LetGo f) ∷ final ∷ below) in
          let n = start_of p hints first in
          let e = alone p hints first in
          let code = Drop f Closed taker in
          let behind = behind_dropped f Closed outer in
          came n end.Done Ends ends code at e rests
          (goes_lands p below outer nested under c1 room e rests (λ d. does wakes d Ends (inner code)) (Says n Ends code e) taker final it
          count
          (facts_forgotten f it_is) (λ d. drop_ends d taker outer f Closed) n (Still s.world) behind
          (λ z. ⊥) (tells_so n Ends code e rests refl behind (λ d. refl)) (λ stops runs none still. absurd stops)
          (forgotten_still p below under s.world taker final outer c1 hints f forgotten0 many all rests))
      from_forgotten f at it_is u ok = absurd cc
