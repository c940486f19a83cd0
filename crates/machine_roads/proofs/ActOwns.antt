-- The ends of the code of a run's own future, of its poll and of its drop: where the call rests next, both stand alike.
use Rattle.std.proofs.Common.{◌≡◌, ℕ, suc, ◌<◌, ◌≤◌, ◌++◌, Bool, true, false, List, ◌∷◌, length}
use Rattle.std.proofs.Common.{◌==◌, ◌||◌, nat_lt, if◌then◌else◌, refl, sym, ap, subst, ◌∙◌, arith}
use Rattle.std.specs.Prelude.{reverse}
use Rattle.executor_model.specs.declared.event.Answer.TheVariants as answer
use Rattle.executor_model.specs.declared.call.Reply.TheVariants as reply
use Rattle.executor_model.specs.declared.op.ListOp.TheVariants as list_op
use Rattle.executor_model.specs.declared.op.Op.{Op}
use Rattle.executor_model.specs.declared.op.Op.TheVariants as op
use Rattle.executor_model.specs.declared.op.RunOp.TheVariants as run_op
use Rattle.executor_model.specs.declared.op.RunPoll.{RunPoll}
use Rattle.executor_model.specs.declared.op.Section.TheVariants as section
use Rattle.executor_model.specs.declared.op.TickOp.TheVariants as tick_op
use Rattle.executor_model.specs.declared.op.UserOp.TheVariants as user_op
use Rattle.executor_model.specs.declared.op.Waker.{Waker}
use Rattle.executor_model.specs.declared.step.Step.TheVariants.{Answer}
use Rattle.executor_model.specs.declared.step.Hint.{Hint}
use Rattle.executor_model.specs.declared.step.UserEnd.{UserEnd}
use Rattle.executor_model.specs.declared.step.UserEnd.TheVariants as end
use Rattle.executor_model.specs.ActsOfRuns.{asleep}
use Rattle.executor_model.specs.Rows.{running_of}
use Rattle.executor_model.specs.Steps.{Machine, accepts, react, stack}
use Rattle.executor_model.specs.World.{Done, done}
use Rattle.executor_model.specs.Weights.{weigh}
use Rattle.executor_model.proofs.Steps.Reached.{Reached}
use Rattle.executor_laws.proofs.Termination.LoneEnds.{OthersRest}
use Rattle.plain_scheduler.specs.State.{Choice, Code, DropOwn, Granted, Plain, PollOwn, Ready}
use Rattle.plain_scheduler.specs.State.{Done as DoneAnswer, Run}
use Rattle.plain_scheduler.specs.Lists.{or}
use Rattle.plain_scheduler.specs.Takes as plain_takes
use Rattle.plain_scheduler.specs.Moves as plain
use Rattle.plain_scheduler.specs.Calls as plain_calls
use Rattle.plain_scheduler.specs.Calls.{does, Ends, EndsWith, Pends}
use Rattle.machine_roads.specs.View.{Output, wakes}
use Rattle.machine_roads.specs.Road.{Follows, waking_in}
use Rattle.machine_roads.specs.Alone.{HasAll, alone, is_resting}
use Rattle.machine_roads.specs.Choosing.{Chooses}
use Rattle.machine_roads.specs.Searching.{goes_on_by, start_of}
use Rattle.machine_roads.specs.Within.{ActsBy, Nested, alike, ends, gives, pends}
use Rattle.machine_roads.specs.Within.{IsLeaving, drops_own, listed, unlisted}
use Rattle.machine_roads.proofs.ActBegins.{choice_in, enough}
use Rattle.machine_roads.proofs.ActLands.{Facts, after_lands, between}
use Rattle.machine_roads.proofs.ActCodes.{LeadsTo, back, came_by, count_at, follows0, found_says, lands_so, room as its_room}
use Rattle.machine_roads.proofs.ActCodes.{under as rests_under}
use Rattle.machine_roads.proofs.AloneKeeps.{due, due_resting}
use Rattle.machine_roads.proofs.Calling.{idles}
use Rattle.machine_roads.proofs.Chosen.{still_so}
use Rattle.machine_roads.proofs.Counted.{CountsSo, alone_counts, counts}
use Rattle.machine_roads.proofs.Counting.{Counted, StandsSo, Taken, lasts, leaves, none_last, none_left, over_in, some_op}
use Rattle.machine_roads.proofs.Counting.{taken_in}
use Rattle.machine_roads.proofs.Having.{same_self}
use Rattle.machine_roads.proofs.LaterAnew.{LiesThere}
use Rattle.machine_roads.proofs.Lists.{clash, same_of}
use Rattle.machine_roads.proofs.OwnGoes.{own_went}
use Rattle.machine_roads.proofs.OwnPolls.{own_goes}
use Rattle.machine_roads.proofs.Passing.{telling}
use Rattle.machine_roads.proofs.RunApart.{gone_spares, gone_taken, take_ends}
use Rattle.machine_roads.proofs.RunHere.{going_here, left_here, none_empty, used_once}
use Rattle.machine_roads.proofs.Runs.{changed, ended_run, runs_is}
use Rattle.machine_roads.proofs.RunsOn.{goes_from}
use Rattle.machine_roads.proofs.Seeking.{alone_turn, seeks}
use Rattle.machine_roads.proofs.Still.{still_here}
use Rattle.machine_roads.proofs.Unseen.{stands_in}

module _ (s : Machine) (reached : Reached s) (p : ℕ) (there : p < length s.parties) (open_still : s.world.gone ≡ false)
    (others : OthersRest p s) (q : Plain Output Waker) (counted : Counted (reverse (stack s p)) q.runs)
    (below : List Op) (inside : List (Code Output Waker)) (nested : Nested below inside) where
  abbrev c1 : Choice
  c1 = choice_in s q Granted

  many : length q.lying ≤ suc (length q.lying)
  many = enough (length q.lying)

  abbrev room : length q.lying < suc (length q.lying)
  room = its_room s reached p there open_still others q counted

  abbrev under : is_resting below ≡ true
  under = rests_under s reached p there open_still others q counted below inside nested

  abbrev Comes : ℕ → UserEnd → Done → Type 0
  Comes start u e = (r : Plain Output Waker) × ActsBy s p (Answer p u) q r e.world start × StandsSo e r

  abbrev Leads : UserEnd → Op → List Op → Type 0
  Leads u o os =
      LeadsTo s reached p there open_still others q counted u (done (react p o u s.world).world ((react p o u s.world).next ++ os))

  abbrev outer : Plain Output Waker
  outer = record q { inside = inside }

  abbrev inner : Code Output Waker → Plain Output Waker
  inner code = record q { inside = code ∷ inside }

  same : (code : Code Output Waker) → q.inside ≡ code ∷ inside → inner code ≡ q
  same code at = ap (λ (codes : List (Code Output Waker)). record q { inside = codes }) (sym at)

  abbrev Says : ℕ → plain_calls.Call Output Waker → Code Output Waker → Done → Choice → Type 0
  Says start x code e d = Chooses start s.world e.world d x (inner code) × LiesThere (inner code) (does wakes d x (inner code)) d x

  -- the poll of a run's own future: with an output, or without
  pub from_own_poll : (x : RunPoll) → reverse (stack s p) ≡ op.User (user_op.PollOwn x) ∷ below → q.inside ≡ PollOwn x.run x.waker ∷
      inside
      → Follows s.world q → (u : UserEnd) → accepts (op.User (user_op.PollOwn x)) u ≡ true
      → Leads u (op.User (user_op.PollOwn x)) below
  from_own_poll x is at follows (end.Polled answer.Ready) ok = λ hints all rests.
      let os = op.User (user_op.DropOwn x.run) ∷ op.List (list_op.LockWrite (section.Unregister x.run reply.Ready)) ∷ below in
      let n = start_of p hints (done s.world os) in
      let e = alone p hints (done s.world os) in
      let stays : done s.world os ≡ e = sym (idles p hints os s.world refl) in
      let z : Plain Output Waker = inner (DropOwn x.run Ready) in
      came_by s reached p there open_still others q counted n (end.Polled answer.Ready) (EndsWith tt) gives e c1 refl tt
      (subst (λ y. Chooses n s.world e.world c1 (EndsWith tt) y) (same (PollOwn x.run x.waker) at)
      (still_so s.world e.world (EndsWith tt) (inner (PollOwn x.run x.waker)) c1 refl refl
      (subst (λ (d : Done). CountsSo s.world d.world) stays (λ k. refl))
      (ap (λ (d : Done). d.world.urgent_turns) (sym stays)) n))
      (subst (λ y. StandsSo e (does wakes c1 (EndsWith tt) y)) (same (PollOwn x.run x.waker) at)
      (subst (λ (d : Done). StandsSo d z) stays
      (record {
        alike = alike (drops_own x.run below inside nested)
            (stands_in (DropOwn x.run Ready ∷ inside) s.world q follows (sym (ap (λ codes. waking_in codes) at)));
        counted = record {
          taken = count0.taken;
          going = λ r is_left. goes r (r == x.run) refl is_left;
        };
      })))
    where
      xs : List Op
      xs = op.User (user_op.PollOwn x) ∷ below

      count0 : Counted below q.runs
      count0 = count_at s reached p there open_still others q counted below inside nested (op.User (user_op.PollOwn x) ∷ below) below is
          (record { last = λ r. refl; left = λ r. refl })

      polled : over_in x.run q.runs ≡ false
      polled =
          going_here s reached p there (op.User (user_op.PollOwn x) ∷ below) is q s.world follows refl refl x.run
          (omega (arith, same_self x.run))

      goes : (r : ℕ) (b : Bool) → (r == x.run) ≡ b → ((r == x.run) || some_op (leaves r) below) ≡ true → over_in r q.runs ≡ false
      goes r true here is_left = ap (λ k. over_in k q.runs) (same_of r x.run here) ∙ polled
      goes r false apart is_left = count0.going r (ap (λ b. b || some_op (leaves r) below) (sym apart) ∙ is_left)
  from_own_poll x is at follows (end.Polled answer.Pending) ok = λ hints all rests. by hints all rests
    where
      xs : List Op
      xs = op.User (user_op.PollOwn x) ∷ below

      count : Counted (goes_on_by x false ∷ below) q.runs
      count = count_at s reached p there open_still others q counted below inside nested xs (goes_on_by x false ∷ below) is
          (record { last = λ r. refl; left = λ r. refl })

      unused : weigh (running_of x.run) below ≡ 0
      unused = omega (arith, used_once s reached p there xs is x.run, same_self x.run)

      few : nat_lt (taken_in x.run q.runs) 200 ≡ true
      few = subst (λ b. Taken b (taken_in x.run q.runs)) (none_last x.run below unused) (count.taken x.run)

      facts0 : Facts below outer x
      facts0 = record {
        unused = unused;
        going = going_here s reached p there xs is q s.world follows refl refl x.run (omega (arith, same_self x.run));
        left = left_here s reached p there xs is q s.world follows refl refl others
            (λ k off. omega (arith, none_empty k below inside nested off)) (subst (λ os. Counted os q.runs) is counted);
      }

      search : Done
      search = done s.world (op.Tick (tick_op.Search (asleep x)) ∷ below)

      will : Choice → Plain Output Waker
      will d = does wakes d Pends (inner (PollOwn x.run x.waker))

      -- where something is due it takes, and else it lies down, or is refused memory
      by : (hints : List Hint) → HasAll p hints search → is_resting (alone p hints search).next ≡ true
          → Comes (start_of p hints search) (end.Polled answer.Pending) (alone p hints search)
      by hints all rests =
          let n = start_of p hints search in
          let e = alone p hints search in
          let lands =
          after_lands p below outer nested under c1 room e rests will (Says n Pends (PollOwn x.run x.waker) e) x false count facts0
          (λ d. take_ends d x.run x.waker outer few) (taken_in x.run q.runs)
          (goes_from p x below outer c1.tells (taken_in x.run q.runs) e will (Says n Pends (PollOwn x.run x.waker) e) under rests c1 n
          s.world outer
          (follows0 s reached p there open_still others q counted below inside nested (PollOwn x.run x.waker) at refl s.world follows) room
          (between p below outer nested under c1 room e rests will (Says n Pends (PollOwn x.run x.waker) e) x false count facts0) refl
          (record { way = record { hints = hints; has = all; is = refl }; starts = refl })
          (λ d. sym (ap (λ b. if b then plain_takes.take wakes (telling c1.tells d) (Run x.run x.waker) outer
          else plain_takes.gives_way wakes (telling c1.tells d) x.run x.waker outer) few))
          (λ d so.
          found_says s reached p there open_still others q counted below inside nested n Pends (PollOwn x.run x.waker) e
          (telling c1.tells d) s.world x.run x.waker outer (still_here s.world) refl so)) in
          lands_so s reached p there open_still others q counted below inside nested n (end.Polled answer.Pending) Pends pends
          (PollOwn x.run x.waker) at e rests lands
  from_own_poll x is at follows u ok = absurd cc

  -- a run has gone: what others have taken stays
  gone_count : (r : ℕ) → weigh (running_of r) below ≡ 0 → ((k : ℕ) → Taken (some_op (lasts k) below) (taken_in k q.runs))
      → ((k : ℕ) → (k == r) ≡ false → some_op (leaves k) below ≡ true → over_in k q.runs ≡ false)
      → Counted below (plain_calls.gone wakes c1 r outer).runs
  gone_count r unused taken going = record {
    taken = λ k. subst (Taken (some_op (lasts k) below)) (sym (gone_taken c1 k r outer)) (taken k);
    going = λ k is_left. goes k (k == r) refl is_left;
  }
    where
      goes : (k : ℕ) (b : Bool) → (k == r) ≡ b → some_op (leaves k) below ≡ true
          → over_in k (plain_calls.gone wakes c1 r outer).runs ≡ false
      goes k true here is_left =
          absurd (clash (ap (λ k. some_op (leaves k) below) (same_of k r here) ∙ none_left r below unused) is_left)
      goes k false apart is_left =
          ap (λ o. or o (λ run. run.is_over) true) (gone_spares c1 k r outer apart) ∙ going k apart is_left

  -- and its drop
  pub from_own_drop : (r : ℕ)
      → reverse (stack s p) ≡ op.User (user_op.DropOwn r) ∷ op.List (list_op.LockWrite (section.Unregister r reply.Ready)) ∷ below
      → q.inside ≡ DropOwn r Ready ∷ inside → Follows s.world q → (u : UserEnd) → accepts (op.User (user_op.DropOwn r)) u ≡ true
      → Leads u (op.User (user_op.DropOwn r)) (op.List (list_op.LockWrite (section.Unregister r reply.Ready)) ∷ below)
  from_own_drop r is at follows end.Done ok = λ hints all rests.
      let xs = op.User (user_op.DropOwn r) ∷ op.List (list_op.LockWrite (section.Unregister r reply.Ready)) ∷ below in
      let first = done s.world (op.List (list_op.LockWrite (section.Unregister r reply.Ready)) ∷ below) in
      let e = alone p hints first in
      let counted0 : Counted xs q.runs = subst (λ os. Counted os q.runs) is counted in
      let so =
      own_goes p below under s.world outer (follows0 s reached p there open_still others q counted below inside nested (DropOwn r Ready) at
      refl s.world follows) c1 many r hints all rests in
      back s reached p there open_still others q counted below inside nested (start_of p hints first) end.Done Ends ends
      (DropOwn r Ready) at e
      (still_so s.world e.world Ends (inner (DropOwn r Ready)) c1 refl refl
      (alone_counts p hints s.world (op.List (list_op.LockWrite (section.Unregister r reply.Ready)) ∷ below)
      (omega (arith, due_resting counts below under)))
      (alone_turn p hints s.world (op.List (list_op.LockWrite (section.Unregister r reply.Ready)) ∷ below)
      (omega (arith, due_resting seeks below under))) (start_of p hints first)) so.0 so.2
      (gone_count r (omega (arith, used_once s reached p there xs is r, same_self r)) counted0.taken
      (λ k apart is_left. counted0.going k (ap (λ b. b || some_op (leaves k) below) apart ∙ is_left))) so.1
  from_own_drop r is at follows u ok = absurd cc

  -- so is that of a run that goes
  pub from_going : (r : ℕ) (rest : Op) → IsLeaving r rest → reverse (stack s p) ≡ op.User (user_op.DropOwn r) ∷ rest ∷ below
      → q.inside ≡ DropOwn r DoneAnswer ∷ inside → Follows s.world (plain.runs ended_run r q)
      → (u : UserEnd) → accepts (op.User (user_op.DropOwn r)) u ≡ true → Leads u (op.User (user_op.DropOwn r)) (rest ∷ below)
  from_going r rest leaving is at follows end.Done ok = λ hints all rests.
      let first = done s.world (rest ∷ below) in
      let e = alone p hints first in
      let so =
      own_went p below under s.world outer r rest leaving
      (stands_in inside s.world (record q { runs = changed ended_run r q.runs }) (subst (Follows s.world) (runs_is ended_run r q) follows)
      (sym (ap (λ codes. waking_in codes) at))) c1 many hints all rests in
      back s reached p there open_still others q counted below inside nested (start_of p hints first) end.Done Ends ends
      (DropOwn r DoneAnswer) at e
      (still_so s.world e.world Ends (inner (DropOwn r DoneAnswer)) c1 refl refl (counts_on rest leaving hints)
      (alone_turn p hints s.world (rest ∷ below) (light_on rest leaving)) (start_of p hints first)) so.0 so.2 (by rest leaving is) so.1
    where
      counts_on : (rest : Op) → IsLeaving r rest → (hints : List Hint)
          → CountsSo s.world (alone p hints (done s.world (rest ∷ below))).world
      counts_on rest unlisted hints =
          alone_counts p hints s.world (op.Run (run_op.Reschedule r reply.Done) ∷ below)
          (omega (arith, due_resting counts below under))
      counts_on rest listed hints =
          alone_counts p hints s.world (op.List (list_op.LockWrite (section.Unregister r reply.Done)) ∷ below)
          (omega (arith, due_resting counts below under))

      light_on : (rest : Op) → IsLeaving r rest → due seeks (rest ∷ below) ≡ 0
      light_on rest unlisted = omega (arith, due_resting seeks below under)
      light_on rest listed = omega (arith, due_resting seeks below under)

      by : (rest : Op) → IsLeaving r rest → reverse (stack s p) ≡ op.User (user_op.DropOwn r) ∷ rest ∷ below
          → Counted below (plain_calls.gone wakes c1 r outer).runs
      by rest unlisted is =
          let xs = op.User (user_op.DropOwn r) ∷ op.Run (run_op.Reschedule r reply.Done) ∷ below in
          let counted0 : Counted xs q.runs = subst (λ os. Counted os q.runs) is counted in
          gone_count r (omega (arith, used_once s reached p there xs is r, same_self r)) counted0.taken
          (λ k apart is_left. counted0.going k is_left)
      by rest listed is =
          let xs = op.User (user_op.DropOwn r) ∷ op.List (list_op.LockWrite (section.Unregister r reply.Done)) ∷ below in
          let counted0 : Counted xs q.runs = subst (λ os. Counted os q.runs) is counted in
          gone_count r (omega (arith, used_once s reached p there xs is r, same_self r)) counted0.taken
          (λ k apart is_left. counted0.going k (ap (λ b. b || some_op (leaves k) below) apart ∙ is_left))
  from_going r rest leaving is at follows u ok = absurd cc
