-- An act that copies a task's waker is refused memory where the task has as many references as it may.
use Rattle.std.proofs.Common.{◌≡◌, ◌<◌, ◌||◌, ◌++◌, not, ℕ, List, [], ◌∷◌, Bool, true, false, nat_lt, length, Option, Some, None, Ok}
use Rattle.std.proofs.Common.{refl, sym, ap, ◌∙◌, subst, append-nil}
use Rattle.std.specs.Prelude.{reverse}
use Rattle.task_moves.specs.declared.moves.owed.Answer.{Answer}
use Rattle.task_moves.specs.declared.moves.owed.Moved.{Moved}
use Rattle.task_moves.specs.Moves.{most_references}
use Rattle.task_moves.specs.Moves as moves
use Rattle.executor_model.specs.declared.call.By.{By}
use Rattle.executor_model.specs.declared.call.Call.{Call}
use Rattle.executor_model.specs.declared.call.Call.TheVariants as call
use Rattle.executor_model.specs.declared.call.Reply.TheVariants as reply
use Rattle.executor_model.specs.declared.event.Event.TheVariants as event
use Rattle.executor_model.specs.declared.op.HandleOp.TheVariants as handle_op
use Rattle.executor_model.specs.declared.op.Hold.{Hold}
use Rattle.executor_model.specs.declared.op.Hold.TheVariants as hold
use Rattle.executor_model.specs.declared.op.Op.{Op}
use Rattle.executor_model.specs.declared.op.Op.TheVariants as op
use Rattle.executor_model.specs.declared.op.Waker.{Waker}
use Rattle.executor_model.specs.declared.op.Waker.TheVariants.{Task, Outside}
use Rattle.executor_model.specs.declared.op.WakerOp.TheVariants as waker_op
use Rattle.executor_model.specs.declared.step.Hint.{Hint}
use Rattle.executor_model.specs.declared.step.Step.{Step}
use Rattle.executor_model.specs.declared.step.Step.TheVariants.{Begin}
use Rattle.executor_model.specs.Acts.{copy_awaiter_by, copy_by, is_refused, look_by}
use Rattle.executor_model.specs.Executions.{run_all}
use Rattle.executor_model.specs.Steps.{Machine, after, begun, mine, stack, top, waker_of, with_future}
use Rattle.executor_model.specs.World.{Done, World, done, log, task}
use Rattle.executor_model.proofs.Steps.Reached.{Reached}
use Rattle.plain_scheduler.specs.State as state
use Rattle.plain_scheduler.specs.State.{Plain}
use Rattle.plain_scheduler.specs.Calls as plain
use Rattle.machine_roads.specs.Alike.{upon}
use Rattle.machine_roads.specs.Alone.{alone, is_resting}
use Rattle.machine_roads.specs.Seeing.{heard_in}
use Rattle.machine_roads.specs.View.{Output}
use Rattle.machine_roads.specs.Within as within
use Rattle.machine_roads.specs.Within.{Act, IsAct, IsCallIn, IsMade, StandsAlike, rests_after, standing}
use Rattle.machine_roads.proofs.Calling.{idles}
use Rattle.machine_roads.proofs.Lists.{clash}
use Rattle.machine_roads.proofs.StandsHere.{rests_alike}
use Rattle.machine_roads.proofs.TicksBehind.{began, heard_more, there_of}

-- the answer says so
abbrev pub EndsRefused : World → World → Type 0
EndsRefused w v = heard_in v.trace ≡ heard_in w.trace ++ state.Answers state.NoMemory ∷ []

-- one reference more isn't to be had
abbrev pub IsFull : World → ℕ → Type 0
IsFull w f = nat_lt (task w f).references most_references ≡ false

abbrev pub CopiesBy : plain.Call Output Waker → World → World → Type 0
CopiesBy (plain.Copy f) w v = IsFull w f → EndsRefused w v
CopiesBy (plain.PollHandle f (Task g)) w v = (moves.poll (task w f)).owed.answer ≡ None → IsFull w g → EndsRefused w v
CopiesBy x w v = Unit {0}

full : (a b : Bool) → b ≡ false → (a || not b) ≡ true
full true b is = refl
full false b is = ap not is

module _ (s : Machine) (reached : Reached s) (p : ℕ) (q : Plain Output Waker) (stands : StandsAlike (standing s p) q) (new : Machine) where
  abbrev below : List Op
  below = reverse (stack s p)

  under : is_resting below ≡ true
  under = rests_alike (standing s p) q stands

  abbrev here : Option Waker
  here = mine (top (stack s p))

  module _ (c : Call) where
    abbrev w : World
    w = log s.world (event.CallBegun p c)

    abbrev Refuses : Done → Type 0
    Refuses d = (hints : List Hint) → is_resting (alone p hints d).next ≡ true → EndsRefused s.world (alone p hints d).world

    told : EndsRefused s.world (log w (event.CallEnded p reply.NoMemory))
    told =
        heard_more w.trace (event.CallEnded p reply.NoMemory)
        ∙ ap (λ xs. xs ++ state.Answers state.NoMemory ∷ [])
        (heard_more s.world.trace (event.CallBegun p c) ∙ append-nil (heard_in s.world.trace))

    -- the call ends so
    ended : (held : Hold) → Refuses (done w (op.End reply.NoMemory held ∷ below))
    ended held [] over = absurd (clash refl over)
    ended held (h ∷ hs) over =
        subst (λ (d : Done). EndsRefused s.world d.world) (sym (idles p hs below (log w (event.CallEnded p reply.NoMemory)) under)) told

    copied : (f : ℕ) (held : Hold) → IsFull s.world f → Refuses (done w (op.Waker (waker_op.CopyWaker f held) ∷ below))
    copied f held most [] over = absurd (clash refl over)
    copied f held most (h ∷ hs) over = by (is_refused h (task w f)) (full h.refused (nat_lt (task w f).references most_references) most)
        over
      where
        by : (b : Bool) → b ≡ true → is_resting (alone p hs (done (copy_by b w f held).world ((copy_by b w f held).next ++ below))).next ≡
            true
            → EndsRefused s.world (alone p hs (done (copy_by b w f held).world ((copy_by b w f held).next ++ below))).world
        by true is over = ended held hs over
        by false is over = absurd cc

    awaiter : (f g : ℕ) → IsFull s.world g → Refuses (done w (op.Handle (handle_op.CopyAwaiter f (Task g)) ∷ below))
    awaiter f g most [] over = absurd (clash refl over)
    awaiter f g most (h ∷ hs) over =
        by (is_refused h (task w g)) (full h.refused (nat_lt (task w g).references most_references) most) over
      where
        by : (b : Bool) → b ≡ true
            → is_resting (alone p hs (done (copy_awaiter_by b p w f (Task g)).world
            ((copy_awaiter_by b p w f (Task g)).next ++ below))).next
            ≡ true
            → EndsRefused s.world
            (alone p hs (done (copy_awaiter_by b p w f (Task g)).world ((copy_awaiter_by b p w f (Task g)).next ++ below))).world
        by true is over = ended (hold.Handle f) hs over
        by false is over = absurd cc

    waits : (f g : ℕ) → (moves.poll (task s.world f)).owed.answer ≡ None → IsFull s.world g
        → Refuses (done w (op.Handle (handle_op.Look f (Task g)) ∷ below))
    waits f g none most [] over = absurd (clash refl over)
    waits f g none most (h ∷ hs) over = looks (moves.poll (task w f)).owed.answer none over
      where
        m : Moved
        m = moves.poll (task w f)

        looks : (o : Option Answer) → o ≡ None
            → is_resting (alone p hs (done (look_by o p w f (Task g) m).world ((look_by o p w f (Task g) m).next ++ below))).next ≡ true
            → EndsRefused s.world
            (alone p hs (done (look_by o p w f (Task g) m).world ((look_by o p w f (Task g) m).next ++ below))).world
        looks None is over = awaiter f g most hs over
        looks (Some x) is over = absurd cc

    -- whatever the call comes to is what is begun
    leads : (d : Done) → begun p w here c ≡ d → Refuses (upon below d) → (ts : List Step) → p < length s.parties
        → rests_after p ts (after s (Begin p c)) ≡ true → run_all (Begin p c ∷ ts) s ≡ Ok new → EndsRefused s.world new.world
    leads d is refuses ts there rests made =
        began s reached p q stands new (EndsRefused s.world) c ts there rests made (subst (λ d. Refuses (upon below d)) (sym is) refuses)

  polled : (f : ℕ) (b : By) (a : Waker) → waker_of here b ≡ a → (ts : List Step) → p < length s.parties
      → rests_after p ts (after s (Begin p (call.PollHandle f b))) ≡ true → run_all (Begin p (call.PollHandle f b) ∷ ts) s ≡ Ok new
      → CopiesBy (plain.PollHandle f a) s.world new.world
  polled f b (Outside x) is ts there rests made = tt
  polled f b (Task g) is ts there rests made = λ none most.
      let c = call.PollHandle f b in
      leads c (done (log s.world (event.CallBegun p c)) (op.Handle (handle_op.Look f (Task g)) ∷ []))
      (ap (λ a. done (log s.world (event.CallBegun p c)) (op.Handle (handle_op.Look f a) ∷ [])) is)
      (waits c f g none most) ts there rests made

  by_call : (c : Call) (ts : List Step) (x : plain.Call Output Waker) → IsCallIn here s.world c x → p < length s.parties
      → rests_after p ts (after s (Begin p c)) ≡ true → run_all (Begin p c ∷ ts) s ≡ Ok new → CopiesBy x s.world new.world
  by_call c ts x (within.copy k f is) there rests made = λ most.
      let w = log s.world (event.CallBegun p c) in
      leads c (done w (op.Waker (waker_op.CopyWaker f (hold.Waker k)) ∷ []))
      (ap (λ o. with_future w o (λ f. done w (op.Waker (waker_op.CopyWaker f (hold.Waker k)) ∷ []))) is)
      (copied c f (hold.Waker k) most) ts there rests made
  by_call c ts x (within.keep f is) there rests made = λ most.
      let w = log s.world (event.CallBegun p c) in
      leads c (done w (op.Waker (waker_op.CopyWaker f hold.Nothing) ∷ []))
      (ap (λ o. with_future w o (λ f. done w (op.Waker (waker_op.CopyWaker f hold.Nothing) ∷ []))) is)
      (copied c f hold.Nothing most) ts there rests made
  by_call c ts x (within.poll_handle f b) there rests made = polled f b (waker_of here b) refl ts there rests made
  by_call c ts x _ there rests made = tt

  one : (t : Step) (ts : List Step) (x : plain.Call Output Waker) → IsMade s p t x → rests_after p ts (after s t) ≡ true
      → run_all (t ∷ ts) s ≡ Ok new → CopiesBy x s.world new.world
  one t ts x (within.begins c y is) rests made = by_call c ts y is (there_of s reached p q stands new t ts refl made) rests made
  one t ts x within.pends rests made = tt
  one t ts x within.gives rests made = tt
  one t ts x within.ends rests made = tt

pub act_copies : (s : Machine) → Reached s → (q : Plain Output Waker) (a : Act) (x : plain.Call Output Waker)
    → StandsAlike (standing s a.party) q → IsAct s a → IsMade s a.party a.first x → CopiesBy x s.world a.left.world
act_copies s reached q a x stands is made = one s reached a.party q stands a.left a.first a.steps x made is.rests is.made
