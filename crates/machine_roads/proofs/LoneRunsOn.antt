-- A lone poll of a run, with the ends of all the code that it comes to from its first take on: it takes on until it has taken 200 and lets
-- others go first, or lies down where nothing is due.
use Rattle.std.proofs.Common.{◌≡◌, ℕ, zero, suc, ◌+◌, ◌≤◌, ◌<◌, ◌++◌, Bool, true, false, List, [], ◌∷◌, length}
use Rattle.task_moves.specs.declared.moves.owed.Move.{Move}
use Rattle.task_moves.specs.declared.moves.owed.Move.TheVariants as move
use Rattle.executor_model.specs.declared.event.Answer.TheVariants as answer
use Rattle.executor_model.specs.declared.op.HandleOp.TheVariants as handle_op
use Rattle.executor_model.specs.declared.op.Op.{Op}
use Rattle.executor_model.specs.declared.op.Op.TheVariants as op
use Rattle.executor_model.specs.declared.op.TableOp.TheVariants as table_op
use Rattle.executor_model.specs.declared.op.UserOp.TheVariants as user_op
use Rattle.executor_model.specs.declared.op.Waker.{Waker}
use Rattle.executor_model.specs.declared.step.UserEnd.{UserEnd}
use Rattle.executor_model.specs.declared.step.UserEnd.TheVariants as end
use Rattle.executor_model.specs.Acts.{is_last_waker}
use Rattle.executor_model.specs.Quiet.{IsQuiet}
use Rattle.executor_model.specs.World.{World, Done, done, task}
use Rattle.executor_model.specs.World as world
use Rattle.plain_scheduler.specs.Calls as plain_calls
use Rattle.machine_roads.specs.View.{Output, wakes}
use Rattle.machine_roads.specs.Road.{Follows, waking_in}
use Rattle.machine_roads.specs.Alone.{alone, is_resting, Has}
use Rattle.machine_roads.specs.Dropped.{Drops, IsEnding, answered, loses, rest_of, without_run}
use Rattle.machine_roads.specs.Forgotten.{IsForgotten, IsLastPoll, without_awaiter}
use Rattle.machine_roads.proofs.Endings.{ending_as, forgotten_as, unawaited_in}
use Rattle.machine_roads.proofs.Forgetting.{Forgets, forgets_by, forgets_with, forgotten_by}
use Rattle.machine_roads.proofs.Lists.{cons_is}
use Rattle.machine_roads.proofs.Standing.{Answered, Behind, InDrop, InPoll, IsGoing, IsTaken, Stands, StandsSo, Stays, StaysSo}
use Rattle.machine_roads.proofs.Unseen.{stands_in}
use Rattle.std.proofs.Common.{Option, Some, refl, sym, ap, subst, ◌∙◌, arith}
use Rattle.executor_model.specs.declared.op.RunPoll.{RunPoll}
use Rattle.executor_model.specs.Steps.{Machine, accepts, react}
use Rattle.executor_model.proofs.Steps.Reached.{Reached}
use Rattle.plain_scheduler.specs.State.{Choice, Closed, Code, Drop, End, Lose, Plain, Poll, Run, Taker}
use Rattle.plain_scheduler.specs.Calls.{does, Ends, EndsWith, Pends}
use Rattle.machine_roads.specs.Lone.{Ended, ends as ends_with, is_end, over}
use Rattle.machine_roads.specs.Searching.{goes_on_by}
use Rattle.machine_roads.specs.Stopped.{IsInPoll}
use Rattle.machine_roads.proofs.LoneRuns.{InCode, Inside, IsBefore, Rests, Whole, before, goes_on_of}
use Rattle.machine_roads.proofs.Passing.{GoesBy, passed, stood, telling}
use Rattle.machine_roads.proofs.Pending.{gives_so, pends_by}
use Rattle.machine_roads.proofs.RunEnding.{behind_dropped, behind_lost, dropped_by, drops_with, loses_with, lost_by}
use Rattle.machine_roads.proofs.RunsOn.{After, Between, anyhow, between_stays, ends, goes_on as runs_on, takes}
use Rattle.machine_roads.proofs.Tying.{LeadsSo}

-- the same but for the code in which it stands
between_inside : (r : ℕ) (last : Bool) (t : ℕ) (q : Plain Output Waker) (codes : List (Code Output Waker)) → Between r last t q
    → Between r last t (record q { inside = codes })
between_inside r last t q codes so =
    record { taken = so.taken; most = so.most; early = so.early; going = so.going; left = so.left }

-- it rests there, and more is so of that
again : (p : ℕ) (new : Machine) (R S : Done → Type 0) (y : InCode p R new) → S (done y.machine.world (y.first ∷ y.rest))
    → InCode p S new
again p new R S y so = record {
  machine = y.machine;
  first = y.first;
  rest = y.rest;
  end = y.end;
  steps = y.steps;
  reached = y.reached;
  there = y.there;
  is = y.is;
  so = so;
  accepted = y.accepted;
  made = y.made;
  follow = y.follow;
}

module _ (p : ℕ) (new : Machine) (later : new.world.gone ≡ false) (at_last : Reached new) (quiet : IsQuiet new.world.trace)
    (c : Choice) (codes : List (Code Output Waker)) (x : RunPoll) where
  abbrev pub taker : Taker Waker
  taker = Run x.run x.waker

  abbrev pub Result : Plain Output Waker → Type 0
  Result r = (z : Plain Output Waker) × Ended r z × (z.inside ≡ codes) × Follows new.world z

  -- who lies down last is told, also where one more lies down
  abbrev pub tells_for : Plain Output Waker → ℕ
  tells_for r = suc (length r.lying)

  least : (r : Plain Output Waker) → length r.lying ≤ tells_for r
  least r = omega arith

  most : (r : Plain Output Waker) → length r.lying < tells_for r
  most r = omega arith

  more_tells : (r : Plain Output Waker) (m : ℕ) → m ≡ tells_for r → length r.lying ≤ m
  more_tells r m is = omega (arith, is)

  ends_here : (r : Plain Output Waker) → r.inside ≡ codes → Follows new.world r → Result r
  ends_here r inside follows = (r, over r, inside, follows)

  -- one code more has ended
  once_more : (d : Choice) (e : plain_calls.Call Output Waker) (r : Plain Output Waker) → is_end r.inside e ≡ true → d.tells ≡ tells_for r
      → Result (does wakes d e r) → Result r
  once_more d e r it told so = (so.0, ends_with d e r so.0 it (more_tells r d.tells told) so.1, so.2, so.3)

  -- from the end of user code on
  goes_on : (R S : Done → Type 0) (y : InCode p R new)
      → LeadsSo p (done (react p y.first y.end y.machine.world).world ((react p y.first y.end y.machine.world).next ++ y.rest)) S
      → Rests p S new
  goes_on R S y leads = goes_on_of Has IsBefore before p R S new later at_last quiet y leads

  -- behind what it took it goes on so, one more taken
  abbrev pub GoesOnTo : ℕ → Type 0
  GoesOnTo t =
      (l : Bool) (b r : Plain Output Waker) → b.inside ≡ codes → Between x.run l t r
      → Rests p (λ e. StandsSo taker (goes_on_by x l) [] b e r) new → Result r

  module _ (t : ℕ) (last : Bool) (on : GoesOnTo (suc t)) where
    abbrev final : Op
    final = goes_on_by x last

    abbrev Now : Plain Output Waker → Type 0
    Now r = Between x.run last t r

    -- it has taken the next one, has let others go first, or has lain down
    pub from_after : (e : plain_calls.Call Output Waker) (r : Plain Output Waker) → is_end r.inside e ≡ true
        → (b : Plain Output Waker) → b.inside ≡ codes
        → Rests p (λ d. After p x [] b (tells_for r) t d (λ d. does wakes d e r) anyhow) new → Result r
    from_after e r it b same (Whole so) = by so
      where
        by : After p x [] b (tells_for r) t (done new.world []) (λ d. does wakes d e r) anyhow → Result r
        by (takes d l stands now said) =
            let d1 = telling (tells_for r) d in
            once_more d1 e r it refl (on l b (does wakes d1 e r) same now (Whole stands))
        by (ends d next follows inside said) =
            let d1 = telling (tells_for r) d in
            once_more d1 e r it refl (ends_here (does wakes d1 e r) (inside ∙ same) follows)
    from_after e r it b same (Inside y) = by y.so
      where
        by : After p x [] b (tells_for r) t (done y.machine.world (y.first ∷ y.rest)) (λ d. does wakes d e r) anyhow → Result r
        by (takes d l stands now said) =
            let d1 = telling (tells_for r) d in
            once_more d1 e r it refl
            (on l b (does wakes d1 e r) same now
            (Inside (again p new (λ d. After p x [] b (tells_for r) t d (λ d. does wakes d e r) anyhow)
            (λ d. StandsSo taker (goes_on_by x l) [] b d (does wakes d1 e r)) y stands)))
        by (ends d next follows inside said) = absurd cc

    -- or more user code has come before that
    data Left (So : Plain Output Waker → Done → Type 0) (b : Plain Output Waker) (n : ℕ) (will : Choice → Plain Output Waker) (e : Done)
        : Type 0 where
      goes : After p x [] b n t e will anyhow → Left So b n will e
      still : So (will (telling n c)) e → Now (will (telling n c)) → Left So b n will e

    left_by : (So : Plain Output Waker → Done → Type 0) (b : Plain Output Waker) (n : ℕ) (will : Choice → Plain Output Waker) (e : Done)
        → is_resting e.next ≡ true → length b.lying < n → Now b → (behind : Choice → Option (Plain Output Waker))
        → GoesBy p taker final [] b n e will behind (λ z. So z e) → Left So b n will e
    left_by So b n will e rests fit now behind (passed so) =
        goes (runs_on p x [] b n t e will anyhow refl rests c behind last fit now so (λ d said. tt) (λ it none. tt))
    left_by So b n will e rests fit now behind (stood so stays none) =
        still (so c) (between_stays x.run last t b (will (telling n c)) (stays c) now)

    from_left : (So : Plain Output Waker → Done → Type 0) (e : plain_calls.Call Output Waker) (r : Plain Output Waker)
        → is_end r.inside e ≡ true → (b : Plain Output Waker) → b.inside ≡ codes
        → ((z : Plain Output Waker) → Now z → Rests p (λ d. So z d) new → Result z)
        → Rests p (λ d. Left So b (tells_for r) (λ d. does wakes d e r) d) new → Result r
    from_left So e r it b same more (Whole so) = by so
      where
        by : Left So b (tells_for r) (λ d. does wakes d e r) (done new.world []) → Result r
        by (goes so) = from_after e r it b same (Whole so)
        by (still so now) =
            let d1 = telling (tells_for r) c in
            once_more d1 e r it refl (more (does wakes d1 e r) now (Whole so))
    from_left So e r it b same more (Inside y) = by y.so
      where
        R : Done → Type 0
        R d = Left So b (tells_for r) (λ d. does wakes d e r) d

        by : Left So b (tells_for r) (λ d. does wakes d e r) (done y.machine.world (y.first ∷ y.rest)) → Result r
        by (goes so) =
            from_after e r it b same
            (Inside (again p new R (λ d. After p x [] b (tells_for r) t d (λ d. does wakes d e r) anyhow) y so))
        by (still so now) =
            let d1 = telling (tells_for r) c in
            once_more d1 e r it refl (more (does wakes d1 e r) now (Inside (again p new R (λ d. So (does wakes d1 e r) d) y so)))

    -- the drop of an output ends
    from_loss : (f : ℕ) (b r : Plain Output Waker) → b.inside ≡ codes → Now r → Rests p (λ e. Drops taker final [] f b e r) new → Result r
    from_loss f b r same now (Whole (answered next inside follows)) = ends_here r (inside ∙ same) follows
    from_loss f b r same now (Whole (loses awaiter next inside ending)) = absurd cc
    from_loss f b r same now (Inside y) = by y.so
      where
        by : Drops taker final [] f b (done y.machine.world (y.first ∷ y.rest)) r → Result r
        by (answered next inside follows) = absurd cc
        by (loses awaiter next inside ending) =
            let m = y.machine in
            let os = rest_of (task m.world f).awaiter f final ++ [] in
            let both = cons_is y.first (op.User (user_op.DropOutput f)) y.rest os next in
            let outer : Plain Output Waker = record r { inside = codes } in
            let inner : Plain Output Waker = record r { inside = Lose awaiter (Some taker) ∷ codes } in
            let n = tells_for r in
            let c1 = telling n c in
            let is : inner ≡ r =
            ap (λ (codes : List (Code Output Waker)). record r { inside = codes })
            (ap (λ (codes : List (Code Output Waker)). Lose awaiter (Some taker) ∷ codes) (sym same) ∙ sym inside) in
            let ending0 : IsEnding m.world f awaiter outer =
            ending_as ending (stands_in codes (without_run f m.world) r ending.follows
            (sym (ap (λ codes. waking_in codes) inside ∙ ap (λ codes. waking_in codes) same))) in
            let S : Done → Type 0 = λ e. After p x [] outer n t e (λ d. does wakes d Ends inner) anyhow in
            let leads : LeadsSo p (done m.world os) S =
            λ hints all rests.
            runs_on p x [] outer n t (alone p hints (done m.world os)) (loses_with taker awaiter outer) anyhow refl rests c
            (behind_lost awaiter outer) last (most outer) (between_inside x.run last t r codes now)
            (lost_by taker final p f [] m.world outer awaiter c1 ending0 (least outer) hints all rests) (λ d said. tt) (λ it none. tt) in
            let here : LeadsSo p (done (react p y.first y.end m.world).world ((react p y.first y.end m.world).next ++ y.rest)) S =
            subst (λ o. LeadsSo p (done (react p o y.end m.world).world ((react p o y.end m.world).next ++ y.rest)) S) (sym both.0)
            (subst (λ os. LeadsSo p (done m.world os) S) (sym both.1) leads) in
            subst Result is (from_after Ends inner refl outer refl (goes_on (λ e. Drops taker final [] f b e r) S y here))

    -- so does the drop of a future
    from_drop : (R : Done → Type 0) (y : InCode p R new) (f : ℕ) (mv : Move) (why : End Output) → IsGoing y.machine.world f mv why
        → y.first ∷ y.rest ≡ op.User (user_op.Drop f) ∷ op.Table (table_op.LeaveTable f) ∷ op.Move mv f ∷ final ∷ []
        → (r : Plain Output Waker) → r.inside ≡ Drop f why taker ∷ codes → Now r → Follows y.machine.world r → Result r
    from_drop R y f mv why going next r inside now follows =
        let m = y.machine in
        let os = op.Table (table_op.LeaveTable f) ∷ op.Move mv f ∷ final ∷ [] in
        let both = cons_is y.first (op.User (user_op.Drop f)) y.rest os next in
        let outer : Plain Output Waker = record r { inside = codes } in
        let inner : Plain Output Waker = record r { inside = Drop f why taker ∷ codes } in
        let n = tells_for r in
        let is : inner ≡ r = ap (λ (codes : List (Code Output Waker)). record r { inside = codes }) (sym inside) in
        let So : Plain Output Waker → Done → Type 0 = λ z d. Drops taker final [] f outer d z in
        let S : Done → Type 0 = λ e. Left So outer n (λ d. does wakes d Ends inner) e in
        let leads : LeadsSo p (done m.world os) S =
        λ hints all rests.
        left_by So outer n (drops_with taker f why outer) (alone p hints (done m.world os)) rests (most outer)
        (between_inside x.run last t r codes now) (behind_dropped f why outer)
        (dropped_by p [] m.world outer refl (stands_in codes m.world r follows (sym (ap (λ codes. waking_in codes) inside))) taker final
        f mv why going.known going.entered going.ends (telling n c) (least outer) hints all rests) in
        let here : LeadsSo p (done (react p y.first y.end m.world).world ((react p y.first y.end m.world).next ++ y.rest)) S =
        subst (λ o. LeadsSo p (done (react p o y.end m.world).world ((react p o y.end m.world).next ++ y.rest)) S) (sym both.0)
        (subst (λ os. LeadsSo p (done m.world os) S) (sym both.1) leads) in
        subst Result is
        (from_left So Ends inner refl outer refl (λ z now rests. from_loss f outer z refl now rests) (goes_on R S y here))

    -- so does the drop of a future that nobody could wake any more
    from_forgotten : (f : ℕ) (b r : Plain Output Waker) → b.inside ≡ codes → Now b → Rests p (λ e. Forgets taker final [] f b e r) new
        → Result r
    from_forgotten f b r same now (Whole so) =
        let no : [] ≡ op.User (user_op.Drop f) ∷ op.Table (table_op.LeaveTable f) ∷ op.Handle (handle_op.LetGo f) ∷ final ∷ [] =
        so.stops.left in
        absurd cc
    from_forgotten f b r same now (Inside y) =
        let m = y.machine in
        let os = op.Table (table_op.LeaveTable f) ∷ op.Handle (handle_op.LetGo f) ∷ final ∷ [] in
        let both = cons_is y.first (op.User (user_op.Drop f)) y.rest os y.so.stops.left in
        let outer : Plain Output Waker = record r { inside = codes } in
        let inner : Plain Output Waker = record r { inside = Drop f Closed taker ∷ codes } in
        let n = tells_for r in
        let is : inner ≡ r =
        ap (λ (codes : List (Code Output Waker)). record r { inside = codes })
        (ap (λ (codes : List (Code Output Waker)). Drop f Closed taker ∷ codes) (sym same) ∙ sym y.so.stops.inside) in
        let it_is = y.so.stops.forgotten in
        let forgotten0 : IsForgotten m.world f outer =
        forgotten_as codes it_is
        (unawaited_in f codes (without_awaiter f m.world) r it_is.follows
        (sym (ap (λ codes. waking_in codes) y.so.stops.inside ∙ ap (λ codes. waking_in codes) same))) in
        let S : Done → Type 0 = λ e. After p x [] outer n t e (λ d. does wakes d Ends inner) anyhow in
        let leads : LeadsSo p (done m.world os) S =
        λ hints all rests.
        runs_on p x [] outer n t (alone p hints (done m.world os)) (forgets_with taker f outer) anyhow refl rests c
        (behind_dropped f Closed outer) last (most outer) (between_inside x.run last t r codes
        (between_stays x.run last t b r y.so.stay now))
        (forgotten_by taker final p f [] m.world outer (telling n c) forgotten0 (least outer) hints all rests) (λ d said. tt)
        (λ it none. tt) in
        let here : LeadsSo p (done (react p y.first y.end m.world).world ((react p y.first y.end m.world).next ++ y.rest)) S =
        subst (λ o. LeadsSo p (done (react p o y.end m.world).world ((react p o y.end m.world).next ++ y.rest)) S) (sym both.0)
        (subst (λ os. LeadsSo p (done m.world os) S) (sym both.1) leads) in
        subst Result is (from_after Ends inner refl outer refl (goes_on (λ e. Forgets taker final [] f b e r) S y here))

    -- behind a poll
    at_end : (inside : List (Code Output Waker)) (w : World) (os : List Op) (now : List (Code Output Waker))
        → Stays taker final [] inside w os now → os ≡ [] → now ≡ inside
    at_end inside w os now Answered none = refl
    at_end inside w os now (InDrop f mv why going) none = absurd cc

    in_drop : (R : Done → Type 0) (y : InCode p R new) (r : Plain Output Waker) → Now r → Follows y.machine.world r → (os : List Op)
        (is : List (Code Output Waker)) → Stays taker final [] codes y.machine.world os is → y.first ∷ y.rest ≡ os → r.inside ≡ is
        → Result r
    in_drop R y r now follows os is Answered next inside = absurd cc
    in_drop R y r now follows os is (InDrop f mv why going) next inside = from_drop R y f mv why going next r inside now follows

    from_stays : (b r : Plain Output Waker) → b.inside ≡ codes → Now r → Rests p (λ e. StaysSo taker final [] b e r) new → Result r
    from_stays b r same now (Whole so) =
        ends_here r (at_end b.inside new.world [] r.inside so.stays refl ∙ same) so.follows
    from_stays b r same now (Inside y) =
        in_drop (λ e. StaysSo taker final [] b e r) y r now y.so.follows (y.first ∷ y.rest) r.inside
        (subst (λ codes. Stays taker final [] codes y.machine.world (y.first ∷ y.rest) r.inside) same y.so.stays) refl refl

    -- in a poll
    from_poll : (R : Done → Type 0) (y : InCode p R new) (f : ℕ) → IsTaken y.machine.world f
        → y.first ∷ y.rest ≡ op.User (user_op.Poll f) ∷ final ∷ []
        → (r : Plain Output Waker) → r.inside ≡ Poll f taker ∷ codes → Now r → Follows y.machine.world r → Result r
    from_poll R y f taken next r inside now follows =
        subst Result is (by y.end refl (ap (λ o. accepts o y.end) (sym both.0) ∙ y.accepted))
      where
        both : (y.first ≡ op.User (user_op.Poll f)) × (y.rest ≡ final ∷ [])
        both = cons_is y.first (op.User (user_op.Poll f)) y.rest (final ∷ []) next

        outer : Plain Output Waker
        outer = record r { inside = codes }

        inner : Plain Output Waker
        inner = record r { inside = Poll f taker ∷ codes }

        is : inner ≡ r
        is = ap (λ (codes : List (Code Output Waker)). record r { inside = codes }) (sym inside)

        follows0 : Follows y.machine.world outer
        follows0 = stands_in codes y.machine.world r follows (sym (ap (λ codes. waking_in codes) inside))

        now0 : Now outer
        now0 = between_inside x.run last t r codes now

        n : ℕ
        n = tells_for r

        c1 : Choice
        c1 = telling n c

        here : (e : UserEnd) (S : Done → Type 0) → y.end ≡ e
            → LeadsSo p (done (react p (op.User (user_op.Poll f)) e y.machine.world).world
            ((react p (op.User (user_op.Poll f)) e y.machine.world).next ++ (final ∷ []))) S
            → LeadsSo p (done (react p y.first y.end y.machine.world).world ((react p y.first y.end y.machine.world).next ++ y.rest)) S
        here e S at leads =
            subst (λ e. LeadsSo p (done (react p y.first e y.machine.world).world ((react p y.first e y.machine.world).next ++ y.rest)) S)
            (sym at)
            (subst (λ o. LeadsSo p (done (react p o e y.machine.world).world ((react p o e y.machine.world).next ++ y.rest)) S)
            (sym both.0)
            (subst
            (λ os. LeadsSo p (done (react p (op.User (user_op.Poll f)) e y.machine.world).world
            ((react p (op.User (user_op.Poll f)) e y.machine.world).next ++ os)) S)
            (sym both.1) leads))

        by : (e : UserEnd) → y.end ≡ e → accepts (op.User (user_op.Poll f)) e ≡ true → Result inner
        by (end.Polled answer.Pending) at ok = pends (is_last_waker move.EndPending (world.task y.machine.world f)) refl
          where
            pends : (b : Bool) → is_last_waker move.EndPending (world.task y.machine.world f) ≡ b → Result inner
            pends false reached =
                let So : Plain Output Waker → Done → Type 0 = λ z d. StaysSo taker final [] outer d z in
                let S : Done → Type 0 = λ e. Left So outer n (λ d. does wakes d Pends inner) e in
                let in_poll : IsInPoll y.machine.world f =
                record { known = taken.known; polled = taken.polled; entered = taken.entered; reached = reached } in
                from_left So Pends inner refl outer refl (λ z now rests. from_stays outer z refl now rests)
                (goes_on R S y (here (end.Polled answer.Pending) S at
                (λ hints all rests.
                left_by So outer n (λ d. does wakes d Pends inner) _ rests (most outer) now0 _
                (pends_by p [] y.machine.world outer refl follows0 taker final f in_poll c1 (least outer) hints all rests))))
            pends true last_one =
                let S : Done → Type 0 = λ e. Forgets taker final [] f outer e (does wakes c1 Pends inner) in
                let last_poll : IsLastPoll y.machine.world f =
                record { known = taken.known; polled = taken.polled; entered = taken.entered; last = last_one } in
                once_more c1 Pends inner refl refl
                (from_forgotten f outer (does wakes c1 Pends inner) refl now0
                (goes_on R S y (here (end.Polled answer.Pending) S at
                (λ hints all rests. forgets_by p [] y.machine.world outer refl follows0 taker final f last_poll c1 hints all rests))))
        by (end.Polled answer.Ready) at ok =
            let S : Done → Type 0 = λ e. StaysSo taker final [] outer e (does wakes c1 (EndsWith tt) inner) in
            let new_one = does wakes c1 (EndsWith tt) inner in
            once_more c1 (EndsWith tt) inner refl refl
            (from_stays outer new_one refl
            (between_stays x.run last t outer new_one (record { runs = refl; kept = λ k. refl; lying = refl }) now0)
            (goes_on R S y (here (end.Polled answer.Ready) S at
            (λ hints all rests. (gives_so p [] y.machine.world outer refl follows0 taker final f c1 hints all rests).0 taken))))
        by e at ok = absurd cc

    -- from where it rests first
    stands_at_end : (inside : List (Code Output Waker)) (w : World) (os : List Op) (now : List (Code Output Waker))
        → Stands taker final [] inside w os now → os ≡ [] → now ≡ inside
    stands_at_end inside w os now (InPoll f taken) none = absurd cc
    stands_at_end inside w os now (Behind xs ys stays) none = at_end inside w os now stays none

    in_code : (R : Done → Type 0) (y : InCode p R new) (r : Plain Output Waker) → Now r → Follows y.machine.world r
        → (os : List Op) (is : List (Code Output Waker)) → Stands taker final [] codes y.machine.world os is → y.first ∷ y.rest ≡ os
        → r.inside ≡ is → Result r
    in_code R y r now follows os is (InPoll f taken) next inside = from_poll R y f taken next r inside now follows
    in_code R y r now follows os is (Behind xs ys stays) next inside = in_drop R y r now follows os is stays next inside

    pub from_take : (b r : Plain Output Waker) → b.inside ≡ codes → Now r → Rests p (λ e. StandsSo taker final [] b e r) new → Result r
    from_take b r same now (Whole so) =
        ends_here r (stands_at_end b.inside new.world [] r.inside so.stands refl ∙ same) so.follows
    from_take b r same now (Inside y) =
        in_code (λ e. StandsSo taker final [] b e r) y r now y.so.follows (y.first ∷ y.rest) r.inside
        (subst (λ codes. Stands taker final [] codes y.machine.world (y.first ∷ y.rest) r.inside) same y.so.stands) refl refl

  -- so many more it may take
  pub takes_on : (n t : ℕ) → t + n ≡ 200 → GoesOnTo t
  takes_on zero t few l b r same now rests =
      from_take t l (λ l b r same more rests. absurd (omega (arith, few, more.most))) b r same now rests
  takes_on (suc n) t few l b r same now rests =
      from_take t l (takes_on n (suc t) (omega (arith, few))) b r same now rests
