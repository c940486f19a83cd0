-- Calls of wakers and handles go to their end beside another table as they do.
use Rattle.std.proofs.Common.{◌≡◌, ℕ, ◌++◌, ◌&&◌, ◌||◌, not, Bool, true, false, List, [], ◌∷◌, Option, Some, None}
use Rattle.std.proofs.Common.{refl, sym, ap, subst, ◌∙◌}
use Rattle.executor_parts.specs.declared.mark.Mark.{Mark}
use Rattle.task_moves.specs.declared.moves.owed.Move.TheVariants as move
use Rattle.executor_model.specs.declared.call.Call.{Call}
use Rattle.executor_model.specs.declared.call.Call.TheVariants as call
use Rattle.executor_model.specs.declared.call.Reply.TheVariants as reply
use Rattle.executor_model.specs.declared.event.Event.TheVariants as event
use Rattle.executor_model.specs.declared.op.HandleOp.TheVariants as handle_op
use Rattle.executor_model.specs.declared.op.Hold.TheVariants as hold
use Rattle.executor_model.specs.declared.op.Op.{Op}
use Rattle.executor_model.specs.declared.op.Op.TheVariants as op
use Rattle.executor_model.specs.declared.op.QueueOp.TheVariants as queue_op
use Rattle.executor_model.specs.declared.op.SleeperOp.TheVariants as sleeper_op
use Rattle.executor_model.specs.declared.op.Waker.{Waker}
use Rattle.executor_model.specs.declared.op.Waker.TheVariants.{Task, Outside}
use Rattle.executor_model.specs.declared.op.WakerOp.TheVariants as waker_op
use Rattle.executor_model.specs.declared.step.Hint.{Hint}
use Rattle.executor_model.specs.Doing.{act}
use Rattle.executor_model.specs.Good.{IsKnownWaker}
use Rattle.executor_model.specs.Steps.{is_on_executor, kept, used_up, waits, with_future}
use Rattle.executor_model.specs.World.{World, Done, done, log, queue_of}
use Rattle.machine_roads.specs.Alike.{begins, upon}
use Rattle.machine_roads.specs.Alone.{alone, answered_by, is_outside, is_resting, one_by, Has, HasAllOf}
use Rattle.machine_roads.proofs.LoneRuns.{both_true}
use Rattle.machine_roads.proofs.Loose.{are_of_calls, is_of_call}
use Rattle.machine_roads.proofs.Tableless.{Does, OnlyWait, act_does, beside, beside_done}

-- user code has to answer, or a thing of such a call is to be done and then so on
abbrev pub may_go : List Op → Bool
may_go [] = true
may_go (o ∷ os) = is_resting (o ∷ os) || (is_of_call o && may_go os)

pub second : (a b : Bool) → b ≡ true → (a || b) ≡ true
second true b is = refl
second false b is = is

pub of_two : (a b : Bool) → a ≡ false → (a || b) ≡ true → b ≡ true
of_two true b off is = absurd cc
of_two false b off is = is

pub rest_goes : (os : List Op) → is_resting os ≡ true → may_go os ≡ true
rest_goes [] is = refl
rest_goes (o ∷ os) is = ap (λ b. b || (is_of_call o && may_go os)) is

pub go_append : (xs os : List Op) → are_of_calls xs ≡ true → may_go os ≡ true → may_go (xs ++ os) ≡ true
go_append [] os fits goes = goes
go_append (x ∷ xs) os fits goes =
    let both = both_true (is_of_call x) (are_of_calls xs) fits in
    second (is_resting (x ∷ (xs ++ os))) (is_of_call x && may_go (xs ++ os))
    (ap (λ b. b && may_go (xs ++ os)) both.0 ∙ go_append xs os both.1 goes)

module _ (A : ℕ → Bool) (t l : List ℕ) (own : List (List ℕ)) where
  has_beside : (o : Op) (w : World) → is_of_call o ≡ true → Has w o → Has (beside A t l own w) o
  has_beside (op.Move move.WakeByReference f) w is has = has
  has_beside (op.Move move.Wake f) w is has = has
  has_beside (op.Move move.Release f) w is has = has
  has_beside (op.Move move.Cancel f) w is has = has
  has_beside (op.Move move.Detach f) w is has = has
  has_beside (op.Queue (queue_op.Append f)) w is has = has
  has_beside (op.Sleeper sleeper_op.ExchangeFlag) w is has = has
  has_beside (op.Sleeper sleeper_op.HandOut) w is has = has
  has_beside (op.Sleeper (sleeper_op.CallSleeper x)) w is has = known x.waker has
    where
      known : (a : Waker) → IsKnownWaker w a → IsKnownWaker (beside A t l own w) a
      known (Task g) at = at
      known (Outside x) at = tt
  has_beside (op.Handle (handle_op.Look f a)) w is has = has
  has_beside (op.Handle (handle_op.CopyAwaiter f (Task g))) w is has = has
  has_beside (op.Handle (handle_op.CopyAwaiter f (Outside x))) w is has = has
  has_beside (op.Handle (handle_op.Register f a k)) w is has = has
  has_beside (op.Handle (handle_op.EndRegister f a k)) w is has = has
  has_beside (op.Handle (handle_op.LookAgain f)) w is has = has
  has_beside (op.Handle (handle_op.Notify f mine)) w is has = has
  has_beside (op.Handle (handle_op.EndNotify f mine)) w is has = has
  has_beside (op.Handle (handle_op.LetGo f)) w is has = has
  has_beside (op.Waker (waker_op.CopyWaker f held)) w is has = has
  has_beside (op.Waker (waker_op.CallAwaiter f (Task g) k)) w is has = has
  has_beside (op.Waker (waker_op.CallAwaiter f (Outside x) k)) w is has = has
  has_beside (op.User o) w is has = tt
  has_beside (op.End r held) w is has = tt
  has_beside o w is has = absurd cc

  pub has_user : (o : Op) (w : World) → waits o ≡ true → Has w o
  has_user (op.User o) w is = tt
  has_user o w is = absurd cc

  -- all that is done from here to a rest
  pub record Along (p : ℕ) (hints : List Hint) (w : World) (there here : Done) : Type 0 where
    pub has : HasAllOf Has p hints there
    pub same : alone p hints there ≡ beside_done A t l own (alone p hints here)
    pub shut : (m : Mark) → (queue_of (alone p hints here).world m).closed ≡ (queue_of w m).closed
    pub count : (alone p hints here).world.sleepers.count ≡ w.sleepers.count
    pub only : OnlyWait A t l own (alone p hints here).world

  abbrev pub Goes : ℕ → List Hint → World → List Op → Type 0
  Goes p hints w os = Along p hints w (done (beside A t l own w) os) (done w os)

  module _ (p : ℕ) (hs : List Hint)
      (rest : (w : World) (os : List Op) → OnlyWait A t l own w → may_go os ≡ true → HasAllOf Has p hs (done w os) → Goes p hs w os) where
    one_along : (b c : Bool) (h : Hint) (w : World) (o : Op) (os : List Op) → waits o ≡ b → is_outside o ≡ c → OnlyWait A t l own w
        → may_go (o ∷ os) ≡ true → Has w o → HasAllOf Has p hs (one_by b p h o w os)
        → Along p hs w (one_by b p h o (beside A t l own w) os) (one_by b p h o w os)
    one_along false c h w o os free out all goes here has =
        let both = both_true (is_of_call o) (may_go os)
        (of_two (is_resting (o ∷ os)) (is_of_call o && may_go os) (ap (λ b. b && not (is_outside o)) free) goes) in
        let d = act p h o w in
        let e = act_does A t l own p w all h o both.0 free here in
        let r = rest d.world (d.next ++ os) e.only (go_append d.next os e.fits both.1) has in
        subst (λ (x : Done). Along p hs w (done x.world (x.next ++ os)) (done d.world (d.next ++ os))) (sym e.same)
        (record {
          has = r.has;
          same = r.same;
          shut = λ m. r.shut m ∙ e.shut m;
          count = r.count ∙ e.count;
          only = r.only;
        })
    one_along true true h w o os held out all goes here has =
        let both = both_true (is_of_call o) (may_go os)
        (of_two (is_resting (o ∷ os)) (is_of_call o && may_go os)
        (ap (λ b. b && not (is_outside o)) held ∙ ap not out) goes) in
        subst (λ b. Along p hs w (done (beside A t l own w) (answered_by b o os)) (done w (answered_by b o os))) (sym out)
        (rest w os all both.1 (subst (λ b. HasAllOf Has p hs (done w (answered_by b o os))) out has))
    one_along true false h w o os held out all goes here has =
        subst (λ b. Along p hs w (done (beside A t l own w) (answered_by b o os)) (done w (answered_by b o os))) (sym out)
        (rest w (o ∷ os) all goes (subst (λ b. HasAllOf Has p hs (done w (answered_by b o os))) out has))

  first_has : (o : Op) (os : List Op) (w : World) → may_go (o ∷ os) ≡ true → Has w o → Has (beside A t l own w) o
  first_has o os w goes has = by (waits o) refl
    where
      by : (b : Bool) → waits o ≡ b → Has (beside A t l own w) o
      by true held = has_user o (beside A t l own w) held
      by false free =
          has_beside o w
          (both_true (is_of_call o) (may_go os)
          (of_two (is_resting (o ∷ os)) (is_of_call o && may_go os) (ap (λ b. b && not (is_outside o)) free) goes)).0 has

  pub along : (p : ℕ) (hints : List Hint) (w : World) (os : List Op) → OnlyWait A t l own w → may_go os ≡ true
      → HasAllOf Has p hints (done w os) → Goes p hints w os
  along p [] w os all goes has = record { has = tt; same = refl; shut = λ m. refl; count = refl; only = all }
  along p (h ∷ hs) w [] all goes has =
      let r = along p hs w [] all refl has.1 in
      record { has = (tt, r.has); same = r.same; shut = r.shut; count = r.count; only = r.only }
  along p (h ∷ hs) w (o ∷ os) all goes has =
      let r =
      one_along p hs (λ w os all goes has. along p hs w os all goes has) (waits o) (is_outside o) h w o os refl refl all goes has.0
      has.1 in
      record { has = (first_has o os w goes has.0, r.has); same = r.same; shut = r.shut; count = r.count; only = r.only }

  -- and so such a call begins
  future_does : (w v : World) (o : Option ℕ) (here there : ℕ → Done) → OnlyWait A t l own v → v.sleepers.count ≡ w.sleepers.count
      → ((m : Mark) → (queue_of v m).closed ≡ (queue_of w m).closed) → ((f : ℕ) → Does A t l own w (there f) (here f))
      → Does A t l own w (with_future (beside A t l own v) o there) (with_future v o here)
  future_does w v None here there all count shut does =
      record { same = refl; shut = shut; count = count; only = all; fits = refl }
  future_does w v (Some f) here there all count shut does = does f

  pub begins_does : (p : ℕ) (c : Call) (w : World) → is_on_executor c ≡ false → OnlyWait A t l own w
      → Does A t l own w (begins p None c (beside A t l own w)) (begins p None c w)
  begins_does p (call.Wake k) w off all =
      let v = log w (event.CallBegun p (call.Wake k)) in
      let os : ℕ → List Op = λ f. op.Move move.Wake f ∷ op.End reply.Done hold.Nothing ∷ [] in
      future_does w v (kept w k) (λ f. done (used_up v k) (os f)) (λ f. done (used_up (beside A t l own v) k) (os f)) all refl (λ m. refl)
      (λ f. record { same = refl; shut = λ m. refl; count = refl; only = all; fits = refl })
  begins_does p (call.WakeByRef k) w off all =
      let v = log w (event.CallBegun p (call.WakeByRef k)) in
      let os : ℕ → List Op = λ f. op.Move move.WakeByReference f ∷ op.End reply.Done (hold.Waker k) ∷ [] in
      future_does w v (kept w k) (λ f. done v (os f)) (λ f. done (beside A t l own v) (os f)) all refl (λ m. refl)
      (λ f. record { same = refl; shut = λ m. refl; count = refl; only = all; fits = refl })
  begins_does p (call.Copy k) w off all =
      let v = log w (event.CallBegun p (call.Copy k)) in
      let os : ℕ → List Op = λ f. op.Waker (waker_op.CopyWaker f (hold.Waker k)) ∷ [] in
      future_does w v (kept w k) (λ f. done v (os f)) (λ f. done (beside A t l own v) (os f)) all refl (λ m. refl)
      (λ f. record { same = refl; shut = λ m. refl; count = refl; only = all; fits = refl })
  begins_does p (call.DropWaker k) w off all =
      let v = log w (event.CallBegun p (call.DropWaker k)) in
      let os : ℕ → List Op = λ f. op.Move move.Release f ∷ op.End reply.Done hold.Nothing ∷ [] in
      future_does w v (kept w k) (λ f. done (used_up v k) (os f)) (λ f. done (used_up (beside A t l own v) k) (os f)) all refl (λ m. refl)
      (λ f. record { same = refl; shut = λ m. refl; count = refl; only = all; fits = refl })
  begins_does p call.Keep w off all = record { same = refl; shut = λ m. refl; count = refl; only = all; fits = refl }
  begins_does p call.WakeSelf w off all = record { same = refl; shut = λ m. refl; count = refl; only = all; fits = refl }
  begins_does p (call.PollHandle f b) w off all = record { same = refl; shut = λ m. refl; count = refl; only = all; fits = refl }
  begins_does p (call.Cancel f) w off all = record { same = refl; shut = λ m. refl; count = refl; only = all; fits = refl }
  begins_does p (call.Detach f) w off all = record { same = refl; shut = λ m. refl; count = refl; only = all; fits = refl }
  begins_does p (call.DropHandle f) w off all = record { same = refl; shut = λ m. refl; count = refl; only = all; fits = refl }
  begins_does p c w off all = absurd cc

  -- so it goes whole, above what lies below it
  pub calls_beside : (p : ℕ) (c : Call) (w : World) (below : List Op) (hints : List Hint) → is_on_executor c ≡ false
      → is_resting below ≡ true → OnlyWait A t l own w → HasAllOf Has p hints (upon below (begins p None c w))
      → Along p hints w (upon below (begins p None c (beside A t l own w))) (upon below (begins p None c w))
  calls_beside p c w below hints off under all has =
      let d = begins p None c w in
      let e = begins_does p c w off all in
      let r = along p hints d.world (d.next ++ below) e.only (go_append d.next below e.fits (rest_goes below under)) has in
      subst (λ (x : Done). Along p hints w (upon below x) (upon below d)) (sym e.same)
      (record {
        has = r.has;
        same = r.same;
        shut = λ m. r.shut m ∙ e.shut m;
        count = r.count ∙ e.count;
        only = r.only;
      })
