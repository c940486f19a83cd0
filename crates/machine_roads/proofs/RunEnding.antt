-- A try or a tick goes on behind the drop of the future that it took.
use Rattle.std.proofs.Common.{◌≡◌, ℕ, ◌-◌, ◌≤◌, ◌<◌, ◌++◌, ◌||◌, not, Bool, true, false, List, [], ◌∷◌, length, Option, Some, None}
use Rattle.std.proofs.Common.{slice_set, if◌then◌else◌, refl, sym, ap, subst, ◌∙◌, arith}
use Rattle.std.proofs.lemmas.List.{get_or-set_same}
use Rattle.task_moves.specs.declared.moves.owed.Move.{Move}
use Rattle.task_moves.specs.declared.moves.owed.Move.TheVariants as move
use Rattle.task_moves.specs.declared.moves.state.State.{State}
use Rattle.task_moves.specs.AbstractTask as abstract
use Rattle.task_moves.specs.AbstractTask.{AbstractTask}
use Rattle.task_moves.specs.LocalTask.{told}
use Rattle.task_moves.specs.Moves as moves
use Rattle.executor_model.specs.declared.event.Event.TheVariants as event
use Rattle.executor_model.specs.declared.op.Op.{Op}
use Rattle.executor_model.specs.declared.op.Op.TheVariants as op
use Rattle.executor_model.specs.declared.op.TableOp.TheVariants as table_op
use Rattle.executor_model.specs.declared.op.UserOp.TheVariants as user_op
use Rattle.executor_model.specs.declared.op.Waker.{Waker}
use Rattle.executor_model.specs.declared.step.Hint.{Hint}
use Rattle.executor_model.specs.Acts.{is_last_waker, is_told, move_by, stands_alone, told_of}
use Rattle.executor_model.specs.Carried.{awaiter_ops, output_ops, owed_ops}
use Rattle.executor_model.specs.World.{World, Done, done, among, awaiter_of, blank, log, put_awaiter}
use Rattle.executor_model.specs.World as world
use Rattle.plain_scheduler.specs.State.{Choice, Closed, Drop, End, Gave, Lose, Loses, Plain, Taker}
use Rattle.plain_scheduler.specs.Lists.{on, or}
use Rattle.plain_scheduler.specs.Moves.{called, enters, let_go, put, see, task, tell}
use Rattle.plain_scheduler.specs.Takes as plain_takes
use Rattle.plain_scheduler.specs.Searches.{behind_drop, behind_loss, behind_out}
use Rattle.plain_scheduler.specs.Calls.{does, Ends}
use Rattle.machine_roads.specs.View.{Output, view, wakes, waker_in}
use Rattle.machine_roads.specs.Moving.{IsPolled, IsQueued}
use Rattle.machine_roads.specs.Road.{Follows}
use Rattle.machine_roads.specs.Alone.{alone, is_resting, HasAll}
use Rattle.machine_roads.specs.Alike.{upon}
use Rattle.machine_roads.specs.Dropped.{Drops, DropsAlikeInTake, EndsBy, IsEnding, LosesAlikeInTake, answered, given, loses, polled, queued}
use Rattle.machine_roads.specs.Dropped.{dropped, lost, rest_of, without_run}
use Rattle.machine_roads.proofs.Aside.{called_inside}
use Rattle.machine_roads.proofs.Changing.{sees, settles}
use Rattle.machine_roads.proofs.Dropped.{leaves, marked}
use Rattle.machine_roads.proofs.Ending.{ending_fits, ending_so}
use Rattle.machine_roads.proofs.Lists.{length_set, set_twice}
use Rattle.machine_roads.proofs.Moving.{state}
use Rattle.machine_roads.proofs.Passing.{GoesBy, Passes, drops_by, passed, passes_end, stood, telling}
use Rattle.machine_roads.proofs.Puts.{put_by, put_lying}
use Rattle.machine_roads.proofs.RunsStay.{RunsStay, called_stays, given_up_stays, put_stays, stay_on}
use Rattle.machine_roads.proofs.Stepping.{Way, next}
use Rattle.machine_roads.proofs.Trying.{stops_at}
use Rattle.machine_roads.proofs.Unseen.{stands_in}

-- what the end of a run leaves and owes
record RunEnds (c : Choice) (s : State) (m : Move) (why : End Output) (aw : Option Waker) : Type 0 where
  stands : stands_alone m ≡ true
  unheard : is_told m s ≡ false
  no_last : is_last_waker m s ≡ false
  view_is : view (record (moves.after m s).state { references = (moves.after m s).state.references - 1; awaiter = false }) None
      ≡ told (plain_takes.left_by wakes c why (view s aw)).task
  called_is : (plain_takes.left_by wakes c why (view s aw)).called ≡ aw
  let_go_is : (plain_takes.left_by wakes c why (view s aw)).let_go ≡ None
  dropped_is : (plain_takes.left_by wakes c why (view s aw)).dropped ≡ (if (moves.after m s).owed.drop_output then Some tt else None)
  nobody : (plain_takes.left_by wakes c why (view s aw)).task.awaiter ≡ None
  owes : (there : Bool) (f : ℕ) → owed_ops there f (moves.after m s).owed
      ≡ output_ops (moves.after m s).owed.drop_output f ++ (awaiter_ops f (moves.notify_if s.awaiter) ++ op.Move move.GiveUp f ∷ [])
  over : moves.is_over (moves.after m s).state ≡ true
  still : moves.is_going (moves.after m s).state ≡ false
  counted : 1 ≤ (moves.after m s).state.references
  awaiter : (moves.after m s).state.awaiter ≡ s.awaiter
  registering : (moves.after m s).state.registering ≡ s.registering
  notifying : (moves.after m s).state.notifying ≡ s.notifying

gone_less : (k : ℕ) → k - 1 - 0 ≡ k - 1
gone_less k = omega arith

owed_by : (there : Bool) (f : ℕ) (b a : Bool)
    → owed_ops there f (record (moves.settled a) { drop_output = b })
    ≡ output_ops b f ++ (awaiter_ops f (moves.notify_if a) ++ op.Move move.GiveUp f ∷ [])
owed_by there f true true = refl
owed_by there f true false = refl
owed_by there f false true = refl
owed_by there f false false = refl

module _ (c : Choice) (w : Option Waker) where
  -- which marks it leaves
  abbrev lefts : State → Move → End Output → AbstractTask Output Waker
  lefts s m why = told (plain_takes.left_by wakes c why (view s w)).task

  queued_run : (s r d x h a g n : Bool) (k : ℕ) → IsQueued (state s r d x h a g n k) → x ≡ true
      → RunEnds c (state s r d x h a g n k) move.SettleClosed Closed w
  queued_run true false false true h a g n k is closed = record {
    stands = refl;
    unheard = refl;
    no_last = refl;
    view_is = ap (λ m. record (lefts (state true false false true h a g n k) move.SettleClosed Closed) { wakers = m }) (gone_less k);
    called_is = refl;
    let_go_is = refl;
    dropped_is = refl;
    nobody = refl;
    owes = λ there f. owed_by there f false a;
    over = refl;
    still = refl;
    counted = is.counted;
    awaiter = refl;
    registering = refl;
    notifying = refl;
  }
  queued_run true false false false h a g n k is closed = absurd cc
  queued_run false r d x h a g n k is closed = let no : false ≡ true = is.scheduled in absurd cc
  queued_run true true d x h a g n k is closed = let no : true ≡ false = is.running in absurd cc
  queued_run true false true x h a g n k is closed = let no : true ≡ false = is.completed in absurd cc

  polled_open : (s h a g n : Bool) (k : ℕ) → 1 ≤ k → RunEnds c (state s true false true h a g n k) move.EndClosed Closed w
  polled_open true h a g n k some = record {
    stands = refl;
    unheard = refl;
    no_last = refl;
    view_is = ap (λ m. record (lefts (state true true false true h a g n k) move.EndClosed Closed) { wakers = m }) (gone_less k);
    called_is = refl;
    let_go_is = refl;
    dropped_is = refl;
    nobody = refl;
    owes = λ there f. owed_by there f false a;
    over = refl;
    still = refl;
    counted = some;
    awaiter = refl;
    registering = refl;
    notifying = refl;
  }
  polled_open false h a g n k some = record {
    stands = refl;
    unheard = refl;
    no_last = refl;
    view_is = ap (λ m. record (lefts (state false true false true h a g n k) move.EndClosed Closed) { wakers = m }) (gone_less k);
    called_is = refl;
    let_go_is = refl;
    dropped_is = refl;
    nobody = refl;
    owes = λ there f. owed_by there f false a;
    over = refl;
    still = refl;
    counted = some;
    awaiter = refl;
    registering = refl;
    notifying = refl;
  }

  polled_run : (s r d x h a g n : Bool) (k : ℕ) → IsPolled (state s r d x h a g n k) → x ≡ true
      → RunEnds c (state s r d x h a g n k) move.EndClosed Closed w
  polled_run s true false true h a g n k is closed = polled_open s h a g n k is.counted
  polled_run s true false false h a g n k is closed = absurd cc
  polled_run s false d x h a g n k is closed = let no : false ≡ true = is.running in absurd cc
  polled_run s true true x h a g n k is closed = let no : true ≡ false = is.completed in absurd cc

  -- where the view is so, the rest is
  given_by : (s x h a g n : Bool) (k : ℕ) → 1 ≤ k
      → view (record (moves.end_ready (state s true false x h a g n k)).state { references = k - 1; awaiter = false }) None
      ≡ lefts (state s true false x h a g n k) move.EndReady (Gave tt)
      → (plain_takes.left_by wakes c (Gave tt) (view (state s true false x h a g n k) w)).dropped
      ≡ (if x || not h then Some tt else None)
      → RunEnds c (state s true false x h a g n k) move.EndReady (Gave tt) w
  given_by s x h a g n k some is lost = record {
    stands = refl;
    unheard = refl;
    no_last = refl;
    view_is = is;
    called_is = refl;
    let_go_is = refl;
    dropped_is = lost;
    nobody = refl;
    owes = λ there f. owed_by there f (x || not h) a;
    over = refl;
    still = refl;
    counted = some;
    awaiter = refl;
    registering = refl;
    notifying = refl;
  }

  given_open : (s x h a g n : Bool) (k : ℕ) → 1 ≤ k → RunEnds c (state s true false x h a g n k) move.EndReady (Gave tt) w
  given_open true true true a g n k some =
      given_by true true true a g n k some
      (ap (λ m. record (lefts (state true true false true true a g n k) move.EndReady (Gave tt)) { wakers = m }) (gone_less k)) refl
  given_open true true false a g n k some =
      given_by true true false a g n k some
      (ap (λ m. record (lefts (state true true false true false a g n k) move.EndReady (Gave tt)) { wakers = m }) (gone_less k)) refl
  given_open true false true a g n k some =
      given_by true false true a g n k some
      (ap (λ m. record (lefts (state true true false false true a g n k) move.EndReady (Gave tt)) { wakers = m }) (gone_less k)) refl
  given_open true false false a g n k some =
      given_by true false false a g n k some
      (ap (λ m. record (lefts (state true true false false false a g n k) move.EndReady (Gave tt)) { wakers = m }) (gone_less k)) refl
  given_open false true true a g n k some =
      given_by false true true a g n k some
      (ap (λ m. record (lefts (state false true false true true a g n k) move.EndReady (Gave tt)) { wakers = m }) (gone_less k)) refl
  given_open false true false a g n k some =
      given_by false true false a g n k some
      (ap (λ m. record (lefts (state false true false true false a g n k) move.EndReady (Gave tt)) { wakers = m }) (gone_less k)) refl
  given_open false false true a g n k some =
      given_by false false true a g n k some
      (ap (λ m. record (lefts (state false true false false true a g n k) move.EndReady (Gave tt)) { wakers = m }) (gone_less k)) refl
  given_open false false false a g n k some =
      given_by false false false a g n k some
      (ap (λ m. record (lefts (state false true false false false a g n k) move.EndReady (Gave tt)) { wakers = m }) (gone_less k)) refl

  given_run : (s r d x h a g n : Bool) (k : ℕ) → IsPolled (state s r d x h a g n k)
      → RunEnds c (state s r d x h a g n k) move.EndReady (Gave tt) w
  given_run s true false x h a g n k is = given_open s x h a g n k is.counted
  given_run s false d x h a g n k is = let no : false ≡ true = is.running in absurd cc
  given_run s true true x h a g n k is = let no : true ≡ false = is.completed in absurd cc

  run_ends : (s : State) (m : Move) (why : End Output) → EndsBy s m why → RunEnds c s m why w
  run_ends s m why (queued is closed) =
      queued_run s.scheduled s.running s.completed s.closed s.handle s.awaiter s.registering s.notifying s.references is closed
  run_ends s m why (polled is closed) =
      polled_run s.scheduled s.running s.completed s.closed s.handle s.awaiter s.registering s.notifying s.references is closed
  run_ends s m why (given is) =
      given_run s.scheduled s.running s.completed s.closed s.handle s.awaiter s.registering s.notifying s.references is

-- what goes out of a task whose run ends
goes_out : (taker : Taker Waker) (c : Choice) (l : abstract.Left Output Waker) (z : Plain Output Waker) (a : Option Waker)
    (d : Option Output)
    → l.called ≡ a → l.let_go ≡ None → l.dropped ≡ d
    → plain_takes.out wakes c l (Some taker) z
    ≡ or d (λ v. enters (Lose a (Some taker)) (see (Loses v) z)) (plain_takes.next wakes c taker (on a (called wakes (tell wakes c)) z))
goes_out taker c l z a d called_is let_go_is dropped_is =
    ap (λ (d : Option Output). or d (λ v. enters (Lose l.called (Some taker)) (see (Loses v) z))
    (plain_takes.lost wakes c l.called (Some taker) (on l.let_go (let_go wakes (tell wakes c)) z))) dropped_is
    ∙ (ap (λ (o : Option Waker). or d (λ v. enters (Lose l.called (Some taker)) (see (Loses v) z))
    (plain_takes.lost wakes c l.called (Some taker) (on o (let_go wakes (tell wakes c)) z))) let_go_is
    ∙ ap (λ (a : Option Waker). or d (λ v. enters (Lose a (Some taker)) (see (Loses v) z)) (plain_takes.lost wakes c a (Some taker) z))
    called_is)

-- and what is behind that
behind_goes : (c : Choice) (l : abstract.Left Output Waker) (z : Plain Output Waker) (a : Option Waker) (d : Option Output)
    → l.called ≡ a → l.let_go ≡ None → l.dropped ≡ d
    → behind_out wakes c l z ≡ or d (λ v. None) (Some (on a (called wakes (tell wakes c)) z))
behind_goes c l z a d called_is let_go_is dropped_is =
    let goes : Option Waker → Option Waker → Plain Output Waker = λ a o. behind_loss wakes c a (on o (let_go wakes (tell wakes c)) z) in
    ap (λ (d : Option Output). or d (λ v. None) (Some (goes l.called l.let_go))) dropped_is
    ∙ (ap (λ (o : Option Waker). or d (λ v. None) (Some (goes l.called o))) let_go_is
    ∙ ap (λ (a : Option Waker). or d (λ v. None) (Some (goes a None))) called_is)

module _ (p : ℕ) (below : List Op) (under : is_resting below ≡ true) (end : Done) (rests : is_resting end.next ≡ true) (c : Choice)
    (taker : Taker Waker) (final : Op) (f : ℕ) (w : World) (q : Plain Output Waker)
    (many : length q.lying ≤ c.tells) (follows : Follows w q) (at : f < length w.tasks)
    (m : Move) (why : End Output) (ends : EndsBy (world.task w f) m why) where
  abbrev s : State
  s = world.task w f

  abbrev aw : Option Waker
  aw = waker_in (awaiter_of w f)

  abbrev s3 : State
  s3 = (moves.after m s).state

  abbrev w3 : World
  w3 = world.put w f s3

  abbrev l : abstract.Left Output Waker
  l = plain_takes.left_by wakes c why (task f q)

  abbrev z : Plain Output Waker
  z = put f l.task q

  e : RunEnds c s m why aw
  e = run_ends c aw s m why ends

  left_is : l ≡ plain_takes.left_by wakes c why (view s aw)
  left_is = ap (plain_takes.left_by wakes c why) (follows.tasks f at)

  ending : IsEnding w3 f aw z
  ending =
      let here : world.task w3 f ≡ s3 = get_or-set_same w.tasks f s3 blank at in
      let stored = follows.stored f at in
      let s4 : State = record s3 { references = s3.references - 1; awaiter = false } in
      let settled : Follows (put_awaiter (world.put w f s4) f None) z =
      settles w q follows f at s4 None l.task
      (e.view_is ∙ ap (λ (l : abstract.Left Output Waker). told l.task) (sym left_is))
      (record { awaiter = refl; registering = e.registering ∙ stored.registering; notifying = e.notifying ∙ stored.notifying })
      (λ over. ap (λ (l : abstract.Left Output Waker). l.task.awaiter) left_is ∙ e.nobody) in
      let same : put_awaiter (world.put w f s4) f None ≡ without_run f w3 =
      sym (ap (λ (s : State). put_awaiter (world.put w3 f (record s { references = s.references - 1; awaiter = false })) f None) here
      ∙ ap (λ ts. record w { tasks = ts; awaiters = slice_set w.awaiters f None }) (set_twice w.tasks f s3 s4)) in
      record {
        known = subst (λ n. f < n) (sym (length_set w.tasks f s3)) at;
        over = ap moves.is_over here ∙ e.over;
        still = ap moves.is_going here ∙ e.still;
        counted = subst (λ (s : State). 1 ≤ s.references) (sym here) e.counted;
        stored = record {
          awaiter = ap (λ (s : State). s.awaiter) here ∙ (e.awaiter ∙ stored.awaiter);
          registering = ap (λ (s : State). s.registering) here ∙ (e.registering ∙ stored.registering);
          notifying = ap (λ (s : State). s.notifying) here ∙ (e.notifying ∙ stored.notifying);
        };
        awaited = refl;
        follows = subst (λ w. Follows w z) same settled;
      }

  awaited_is : (world.task w3 f).awaiter ≡ s.awaiter
  awaited_is = ap (λ (s : State). s.awaiter) (get_or-set_same w.tasks f s3 blank at) ∙ e.awaiter

  abbrev os : List Op
  os = final ∷ below

  abbrev to_do : List Op
  to_do = (awaiter_ops f (moves.notify_if s.awaiter) ++ op.Move move.GiveUp f ∷ []) ++ os

  to_do_is : to_do ≡ rest_of (world.task w3 f).awaiter f final ++ below
  to_do_is = by s.awaiter ∙ ap (λ b. rest_of b f final ++ below) (sym awaited_is)
    where
      by : (b : Bool) → (awaiter_ops f (moves.notify_if b) ++ op.Move move.GiveUp f ∷ []) ++ os ≡ rest_of b f final ++ below
      by true = refl
      by false = refl

  -- the move is made
  owes_so : Way p end w (op.Move m f ∷ os) → Way p end w3 ((output_ops (moves.after m s).owed.drop_output f
      ++ (awaiter_ops f (moves.notify_if s.awaiter) ++ op.Move move.GiveUp f ∷ [])) ++ os)
  owes_so way =
      let step = next p end rests (op.Move m f) w os refl way in
      let one : Way p end (move_by true m p w f).world ((move_by true m p w f).next ++ os) =
      subst (λ b. Way p end (move_by b m p w f).world ((move_by b m p w f).next ++ os)) e.stands step.way in
      let two : Way p end (world.put (told_of false (is_told m s) m p w f) f s3)
      (owed_ops (among f (told_of false (is_told m s) m p w f).table) f (moves.after m s).owed ++ os) =
      subst
      (λ b. Way p end (world.put (told_of b (is_told m s) m p w f) f s3)
      (owed_ops (among f (told_of b (is_told m s) m p w f).table) f (moves.after m s).owed ++ os)) e.no_last one in
      let three : Way p end w3 (owed_ops (among f w.table) f (moves.after m s).owed ++ os) =
      subst
      (λ b. Way p end (world.put (told_of false b m p w f) f s3)
      (owed_ops (among f (told_of false b m p w f).table) f (moves.after m s).owed ++ os)) e.unheard two in
      subst (λ ops. Way p end w3 (ops ++ os)) (e.owes (among f w.table) f) three

  -- where its output is dropped
  abbrev losing : Plain Output Waker
  losing = enters (Lose aw (Some taker)) (see (Loses tt) z)

  abbrev pub EndsOut : Type 0
  EndsOut =
      GoesBy p taker final below q c.tells end (λ d. plain_takes.ended wakes d f l (Some taker) q) (λ d. behind_out wakes d l z)
      (Drops taker final below f q end)

  pub runs_out : Way p end w (op.Move m f ∷ os) → EndsOut
  runs_out way =
      by (moves.after m s).owed.drop_output
      (ap (λ (l : abstract.Left Output Waker). l.dropped) left_is ∙ e.dropped_is)
      (owes_so way)
    where
      z_inside : z.inside ≡ q.inside
      z_inside = put_by (λ p. p.inside) f l.task q (λ fs. refl)

      called_so : l.called ≡ aw
      called_so = ap (λ (l : abstract.Left Output Waker). l.called) left_is ∙ e.called_is

      let_go_so : l.let_go ≡ None
      let_go_so = ap (λ (l : abstract.Left Output Waker). l.let_go) left_is ∙ e.let_go_is

      by : (b : Bool) → l.dropped ≡ (if b then Some tt else None)
          → Way p end w3 ((output_ops b f ++ (awaiter_ops f (moves.notify_if s.awaiter) ++ op.Move move.GiveUp f ∷ [])) ++ os)
          → EndsOut
      by false none way =
          let many1 : length z.lying ≤ c.tells = subst (λ ls. length ls ≤ c.tells) (sym (put_lying f l.task q)) many in
          passed
          (record {
            before = on aw (called wakes (tell wakes c)) z;
            so = ending_so p below end rests c final f w3 z aw many1 ending (subst (Way p end w3) to_do_is way);
            fit = ending_fits p below end rests c final f w3 z aw many1 ending;
            inside = called_inside c aw z ∙ z_inside;
            stay = stay_on q z (on aw (called wakes (tell wakes c)) z) (put_stays f l.task q) (called_stays c aw z);
            is = λ d. goes_out taker (telling c.tells d) l z aw None called_so let_go_so none;
            at = λ d. behind_goes (telling c.tells d) l z aw None called_so let_go_so none;
          })
      by true some way =
          let v = event.OutputDropped p f in
          let step = next p end rests (op.User (user_op.BeginDropOutput f)) w3 to_do refl way in
          let w4 = log w3 v in
          let stop : done w4 (op.User (user_op.DropOutput f) ∷ to_do) ≡ end =
          stops_at p below under end rests (op.User (user_op.DropOutput f) ∷ to_do) w4 refl step.way in
          let q4 : Plain Output Waker = see (Loses tt) z in
          let there : Drops taker final below f q end losing =
          subst (λ (d : Done). Drops taker final below f q d losing) stop
          (loses aw (ap (λ ops. op.User (user_op.DropOutput f) ∷ ops) to_do_is)
          (ap (λ codes. Lose aw (Some taker) ∷ codes) z_inside)
          (record {
            known = ending.known;
            over = ending.over;
            still = ending.still;
            counted = ending.counted;
            stored = ending.stored;
            awaited = ending.awaited;
            follows =
                stands_in (Lose aw (Some taker) ∷ q4.inside) (log (without_run f w3) v) q4
                (sees (without_run f w3) z ending.follows v (Loses tt) refl) refl;
          })) in
          stood (λ d. subst (Drops taker final below f q end)
          (sym (goes_out taker (telling c.tells d) l z aw (Some tt) called_so let_go_so some)) there)
          (λ d. subst (RunsStay q) (sym (goes_out taker (telling c.tells d) l z aw (Some tt) called_so let_go_so some))
          (record { runs = (put_stays f l.task q).runs; kept = (put_stays f l.task q).kept; lying = (put_stays f l.task q).lying }))
          (λ d. behind_goes (telling c.tells d) l z aw (Some tt) called_so let_go_so some)

-- of another plain scheduler whose code is the same
module _ (p : ℕ) (taker : Taker Waker) (final : Op) (below : List Op) (f n : ℕ) (end : Done) (q after : Plain Output Waker)
    (same : after.inside ≡ q.inside) (stay : RunsStay q after) where
  moved_one : (new : Plain Output Waker) → Drops taker final below f after end new → Drops taker final below f q end new
  moved_one new (answered next inside follows) = answered next (inside ∙ same) follows
  moved_one new (loses awaiter next inside ending) =
      loses awaiter next (inside ∙ ap (λ codes. Lose awaiter (Some taker) ∷ codes) same) ending

  moved_on : (new old : Choice → Plain Output Waker) → ((d : Choice) → new (telling n d) ≡ old (telling n d))
      → (behind was : Choice → Option (Plain Output Waker)) → ((d : Choice) → behind (telling n d) ≡ was (telling n d))
      → GoesBy p taker final below after n end old was (Drops taker final below f after end)
      → GoesBy p taker final below q n end new behind (Drops taker final below f q end)
  moved_on new old alike behind was alike_behind (passed so) =
      passed
      (record {
        before = so.before;
        so = so.so;
        fit = so.fit;
        inside = so.inside ∙ same;
        stay = stay_on q after so.before stay so.stay;
        is = λ d. alike d ∙ so.is d;
        at = λ d. alike_behind d ∙ so.at d;
      })
  moved_on new old alike behind was alike_behind (stood so stays none) =
      stood (λ d. subst (Drops taker final below f q end) (sym (alike d)) (moved_one (old (telling n d)) (so d)))
      (λ d. subst (RunsStay q) (sym (alike d)) (stay_on q after (old (telling n d)) stay (stays d)))
      (λ d. alike_behind d ∙ none d)

-- the drop of the future ends
abbrev pub drops_with : (taker : Taker Waker) (f : ℕ) (why : End Output) → Plain Output Waker → Choice → Plain Output Waker
drops_with taker f why q d = does wakes d Ends (record q { inside = Drop f why taker ∷ q.inside })

abbrev pub behind_dropped : (f : ℕ) (why : End Output) → Plain Output Waker → Choice → Option (Plain Output Waker)
behind_dropped f why q d = behind_drop wakes d f why q

pub dropped_by : (p : ℕ) (below : List Op) (w : World) (q : Plain Output Waker) → is_resting below ≡ true
    → Follows w q → (taker : Taker Waker) (final : Op) (f : ℕ) (m : Move) (why : End Output) → f < length w.tasks
    → among f w.table ≡ true → EndsBy (world.task w f) m why
    → (c : Choice) → length q.lying ≤ c.tells → (hints : List Hint) → HasAll p hints (upon below (dropped m final p f w))
    → is_resting (alone p hints (upon below (dropped m final p f w))).next ≡ true
    → GoesBy p taker final below q c.tells (alone p hints (upon below (dropped m final p f w))) (drops_with taker f why q)
    (behind_dropped f why q) (Drops taker final below f q (alone p hints (upon below (dropped m final p f w))))
dropped_by p below w q under follows taker final f m why at there ends c many hints has rests =
    let os = op.Move m f ∷ (final ∷ below) in
    let end = alone p hints (done w (op.Table (table_op.LeaveTable f) ∷ os)) in
    let start : Way p end w (op.Table (table_op.LeaveTable f) ∷ os) = record { hints = hints; has = has; is = refl } in
    let left = leaves p end rests c f w q follows at m why ends os there start in
    let after = plain_takes.given_up wakes c f (marked f q) in
    moved_on p taker final below f c.tells end q after left.inside (given_up_stays c f q) (drops_with taker f why q)
    (λ d. plain_takes.ended wakes d f (plain_takes.left_by wakes c why (task f after)) (Some taker) after) (λ d. refl)
    (behind_dropped f why q)
    (λ d. let l = plain_takes.left_by wakes c why (task f after) in behind_out wakes d l (put f l.task after)) (λ d. refl)
    (runs_out p below under end rests c taker final f left.now after (subst (λ ls. length ls ≤ c.tells) (sym left.lying) many)
    left.stands left.known m why left.run left.way)

pub drops : (p : ℕ) (here : Option Waker) (below : List Op) (w : World) (q : Plain Output Waker) → is_resting below ≡ true
    → Follows w q → DropsAlikeInTake p here below w q
drops p here below w q under follows taker final it f m why at there ends c many hints has rests =
    drops_by p below under (alone p hints (upon below (dropped m final p f w))) rests taker final q it c (drops_with taker f why q)
    (behind_dropped f why q) f
    (dropped_by p below w q under follows taker final f m why at there ends c many hints has rests)

-- the drop of the output ends
abbrev pub loses_with : (taker : Taker Waker) (awaiter : Option Waker) → Plain Output Waker → Choice → Plain Output Waker
loses_with taker awaiter q d = does wakes d Ends (record q { inside = Lose awaiter (Some taker) ∷ q.inside })

abbrev pub behind_lost : (awaiter : Option Waker) → Plain Output Waker → Choice → Option (Plain Output Waker)
behind_lost awaiter q d = Some (behind_loss wakes d awaiter q)

pub lost_by : (taker : Taker Waker) (final : Op) (p f : ℕ) (below : List Op) (w : World) (q : Plain Output Waker)
    (awaiter : Option Waker) (c : Choice) → IsEnding w f awaiter q → length q.lying ≤ c.tells → (hints : List Hint)
    → HasAll p hints (upon below (lost final p f w)) → is_resting (alone p hints (upon below (lost final p f w))).next ≡ true
    → Passes p taker final below q c.tells (alone p hints (upon below (lost final p f w))) (loses_with taker awaiter q)
    (behind_lost awaiter q)
lost_by taker final p f below w q awaiter c ending many hints has rests =
    let end = alone p hints (done w (rest_of (world.task w f).awaiter f final ++ below)) in
    record {
      before = on awaiter (called wakes (tell wakes c)) q;
      so = ending_so p below end rests c final f w q awaiter many ending (record { hints = hints; has = has; is = refl });
      fit = ending_fits p below end rests c final f w q awaiter many ending;
      inside = called_inside c awaiter q;
      stay = called_stays c awaiter q;
      is = λ d. refl;
      at = λ d. refl;
    }

pub loses_in_take : LosesAlikeInTake
loses_in_take taker final p f below w q awaiter c it under ending many hints unit has rests =
    let e =
    passes_end p below under (alone p hints (upon below (lost final p f w))) rests taker final q it c (loses_with taker awaiter q)
    (behind_lost awaiter q) (lost_by taker final p f below w q awaiter c ending many hints has rests) in
    (e.0, e.1)
