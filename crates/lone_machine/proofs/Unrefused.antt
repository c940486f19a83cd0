-- An act whose steps are refused nothing is answered no want of memory, where each task has room for one reference more.
use Rattle.std.proofs.Common.{◌≡◌, ◌⊎◌, ℕ, ◌<◌, ◌||◌, Bool, true, false, List, [], ◌∷◌, ◌++◌}
use Rattle.std.proofs.Common.{suc, None, Ok, if◌then◌else◌, length, refl, sym, ap, subst, ◌∙◌, inl, inr, ⊎_elim, arith, append_assoc}
use Rattle.std.proofs.Common.{get_or-set_same, append-nil}
use Rattle.std.specs.Prelude.{reverse}
use Rattle.std.specs.List.{list_any}
use Rattle.std.proofs.lemmas.List.Folds.{list_any-append}
use Rattle.executor_model.specs.declared.call.Call.{Call as MachineCall}
use Rattle.executor_model.specs.declared.call.Reply.{Reply}
use Rattle.executor_model.specs.declared.call.Reply.TheVariants as reply
use Rattle.executor_model.specs.declared.event.Event.{Event}
use Rattle.executor_model.specs.declared.event.Event.TheVariants as event
use Rattle.executor_model.specs.declared.op.HandleOp.TheVariants as handle_op
use Rattle.executor_model.specs.declared.op.Op.{Op}
use Rattle.executor_model.specs.declared.op.Op.TheVariants as op
use Rattle.executor_model.specs.declared.op.TickOp.TheVariants as tick_op
use Rattle.executor_model.specs.declared.op.Polled.{Polled}
use Rattle.executor_model.specs.declared.op.Hold.{Hold}
use Rattle.executor_model.specs.declared.op.Waker.{Waker}
use Rattle.executor_model.specs.declared.op.Waker.TheVariants.{Outside, Task}
use Rattle.executor_model.specs.declared.op.WakerOp.TheVariants as waker_op
use Rattle.executor_model.specs.declared.step.Hint.{Hint}
use Rattle.executor_model.specs.declared.step.Step.{Step}
use Rattle.executor_model.specs.declared.step.Step.TheVariants.{Answer, Begin, Go}
use Rattle.executor_model.specs.declared.step.UserEnd.{UserEnd}
use Rattle.executor_model.specs.declared.step.UserEnd.TheVariants.{Done as Over}
use Rattle.executor_model.specs.Doing.{act}
use Rattle.executor_model.specs.Refusals.{CopiesOneTooMany, IsFull, ends_for_want, is_no_memory}
use Rattle.executor_model.specs.Steps.{Machine, after, begun, mine, onto, party_of, react, refusal, stack, top}
use Rattle.executor_model.specs.Trace.{Trace, has}
use Rattle.executor_model.specs.World.{Done, World, done, log}
use Rattle.executor_model.proofs.Memory.Refusing.{want-is-told-of}
use Rattle.executor_model.proofs.Steps.Deeds.{ends_one, grows-act, grows-begun, grows-react, is_end}
use Rattle.executor_model.proofs.Steps.Tests.{left-false, right-false}
use Rattle.executor_model.proofs.SpawnWants.Tops.{flipped}
use Rattle.machine_roads.specs.Seeing.{answer_of, heard, heard_in}
use Rattle.machine_roads.specs.View.{Output}
use Rattle.machine_roads.proofs.LoneRuns.{made_is}
use Rattle.machine_roads.proofs.Walked.{no_answer, no_go}
use Rattle.machine_roads.specs.Within.{Act, IsAct, calls_outside}
use Rattle.executor_laws.proofs.Termination.LoneEnds.{still-party}
use Rattle.machine_roads.proofs.Tying.{Goes, answers, ended, goes, settles}
use Rattle.plain_scheduler.specs.State.{Answers, Calls, Drops, Loses, Polls}
use Rattle.two_roads.specs.Refusing.{ends_refused}
use Rattle.two_roads.specs.Renaming.{is_refusal}
use Rattle.two_roads.proofs.Refusing.{last_is}
use Rattle.lone_machine.specs.Rooms.{IsRoomy, IsRoomyAct, IsRoomyAlong}
use Rattle.lone_machine.specs.Commands.{AreTold}
use Rattle.lone_machine.proofs.Going.{there_of}
use Rattle.executor_model.specs.Executions.{run_all}
use Rattle.executor_model.proofs.Steps.Reached.{run-first}

-- what a trace tells of last is no want of memory

abbrev pub wants : Trace → Bool
wants t = ends_refused (heard_in t)

pub heard_more : (t u : Trace) → heard_in (t ++ u) ≡ heard_in t ++ heard_in u
heard_more [] u = refl
heard_more (e ∷ t) u = ap (λ es. heard e ++ es) (heard_more t u) ∙ sym (append_assoc (heard e) (heard_in t) (heard_in u))

-- one event more, which ends no call for want of memory
abbrev is_want : Event → Bool
is_want (event.CallEnded p r) = is_no_memory r
is_want _ = false

with_one : (t : Trace) (e : Event) → is_want e ≡ false → wants t ≡ false → wants (t ++ e ∷ []) ≡ false
with_one t e not_so none = ap ends_refused (heard_more t (e ∷ [])) ∙ by e not_so
  where
    silent : ends_refused (heard_in t ++ []) ≡ false
    silent = ap ends_refused (append-nil (heard_in t)) ∙ none

    no_want : (r : Reply) → is_no_memory r ≡ false → is_refusal {T = Output} {A = Waker} (Answers (answer_of r)) ≡ false
    no_want reply.NoMemory is = absurd cc
    no_want _ is = refl

    outside : (a : Waker) (p k : ℕ) (of : Polled) → ends_refused (heard_in t ++ (heard (event.WakerCalled p of k a) ++ [])) ≡ false
    outside (Task g) p k of = silent
    outside (Outside x) p k of = last_is (heard_in t) (Calls (Outside x))

    by : (e : Event) → is_want e ≡ false → ends_refused (heard_in t ++ (heard e ++ [])) ≡ false
    by (event.CallEnded p r) is = last_is (heard_in t) (Answers (answer_of r)) ∙ no_want r is
    by (event.PollBegun p f) is = last_is (heard_in t) (Polls f)
    by (event.Dropped p f) is = last_is (heard_in t) (Drops f)
    by (event.OutputDropped p f) is = last_is (heard_in t) (Loses tt)
    by (event.WakerCalled p of k a) is = outside a p k of
    by _ is = silent

ends_none : (e : Event) → ends_one e ≡ false → is_want e ≡ false
ends_none (event.CallEnded p r) is = absurd cc
ends_none _ is = refl

with_more : (u t : Trace) → has ends_one u ≡ false → wants t ≡ false → wants (t ++ u) ≡ false
with_more [] t no_end none = ap wants (append-nil t) ∙ none
with_more (e ∷ u) t no_end none =
    ap wants (sym (append_assoc t (e ∷ []) u))
    ∙ with_more u (t ++ e ∷ []) (right-false (ends_one e) (has ends_one u) no_end)
    (with_one t e (ends_none e (left-false (ends_one e) (has ends_one u) no_end)) none)

-- a party has nothing to do that ends a call for want of memory, and, where this is so, the trace doesn't end so

pub record IsClean (So : Type 0) (w : World) (os : List Op) : Type 0 where
  pub ops : list_any ends_for_want os ≡ false
  pub trace : So → wants w.trace ≡ false

first_off : (a b : Bool) → (a || b) ≡ false → a ≡ false
first_off a b is = left-false a b is

-- and so once a call ends where its end is all that is left of it
clean_ended : (So : Type 0) (p : ℕ) (w : World) (os : List Op) → IsClean So w os → IsClean So (ended p w os).world (ended p w os).next
clean_ended So p w [] k = k
clean_ended So p w (op.End r held ∷ os) k = record {
  ops = right-false (is_no_memory r) (list_any ends_for_want os) k.ops;
  trace = λ so. with_one w.trace (event.CallEnded p r) (left-false (is_no_memory r) (list_any ends_for_want os) k.ops) (k.trace so);
}
clean_ended So p w (o ∷ os) k = k

put_clean : (next os : List Op) → list_any ends_for_want next ≡ false → list_any ends_for_want os ≡ false
    → list_any ends_for_want (next ++ os) ≡ false
put_clean next os one two =
    list_any-append ends_for_want next os
    ∙ (ap (λ b. b || list_any ends_for_want os) one ∙ two)

-- a step leaves it so
clean_by : (So : Type 0) (p : ℕ) (s new : Machine) (d : Done) → Goes p s new d → IsClean So d.world d.next
    → IsClean So new.world (reverse (stack new p))
clean_by So p s new d g k =
    let e = clean_ended So p d.world d.next k in
    record {
      ops = ap (list_any ends_for_want) g.todo ∙ e.ops;
      trace = λ so. ap (λ (w : World). wants w.trace) g.world ∙ e.trace so;
    }

not_full : (o : Op) (s : Machine) → IsRoomy s → CopiesOneTooMany o s.world → ⊥
not_full (op.Waker (waker_op.CopyWaker f held)) s room many = omega (arith, room f, many)
not_full (op.Handle (handle_op.CopyAwaiter f (Task g))) s room many = omega (arith, room g, many)
not_full (op.Handle (handle_op.CopyAwaiter f (Outside x))) s room many = absurd cc
not_full (op.Tick (tick_op.CopyWaker k)) s room many = by k.waker many
  where
    by : (a : Waker) → IsFull a s.world → ⊥
    by (Task g) many = omega (arith, room g, many)
    by (Outside x) many = absurd cc
not_full _ s room many = absurd cc

abbrev IsEnd : Op → Type 0
IsEnd o = (r : Reply) × (held : Hold) × (o ≡ op.End r held)

end_or : (o : Op) → (is_end o ≡ false) ⊎ IsEnd o
end_or (op.End r held) = inr (r, held, refl)
end_or _ = inl refl

-- what is done is refused nothing
act_clean : (So : Type 0) (p : ℕ) (h : Hint) (o : Op) (os : List Op) (s : Machine) → h.refused ≡ false → IsRoomy s
    → IsClean So s.world (o ∷ os) → IsClean So (act p h o s.world).world ((act p h o s.world).next ++ os)
act_clean So p h o os s granted room k = by (end_or o)
  where
    off : ends_for_want o ≡ false
    off = left-false (ends_for_want o) (list_any ends_for_want os) k.ops

    rest : list_any ends_for_want os ≡ false
    rest = right-false (ends_for_want o) (list_any ends_for_want os) k.ops

    clash : (b : Bool) → list_any ends_for_want (act p h o s.world).next ≡ b → b ≡ false
    clash false is = refl
    clash true is =
        absurd (⊎_elim (λ (r : h.refused ≡ true). none (sym granted ∙ r)) (λ (m : CopiesOneTooMany o s.world). not_full o s room m)
        ((want-is-told-of s.world p).goes_on h o off is))
      where
        none : false ≡ true → ⊥
        none is = cc

    ops : list_any ends_for_want ((act p h o s.world).next ++ os) ≡ false
    ops =
        let b = list_any ends_for_want (act p h o s.world).next in
        put_clean (act p h o s.world).next os (clash b refl) rest

    by : (is_end o ≡ false) ⊎ IsEnd o → IsClean So (act p h o s.world).world ((act p h o s.world).next ++ os)
    by (inr (r, held, is)) =
        record {
          ops = ops;
          trace =
              λ so.
              subst (λ o. wants (act p h o s.world).world.trace ≡ false) (sym is)
              (with_one s.world.trace (event.CallEnded p r) (ap ends_for_want (sym is) ∙ off) (k.trace so));
        }
    by (inl going) =
        let g = grows-act p h o s.world going in
        record { ops = ops; trace = λ so. ap wants g.is ∙ with_more g.more s.world.trace g.none_ends (k.trace so) }

-- user code ends
react_clean : (So : Type 0) (p : ℕ) (o : Op) (e : UserEnd) (os : List Op) (w : World) → IsClean So w (o ∷ os)
    → IsClean So (react p o e w).world ((react p o e w).next ++ os)
react_clean So p o e os w k =
    let g = grows-react p o e w in
    record {
      ops =
          put_clean (react p o e w).next os ((want-is-told-of w p).follows o e)
          (right-false (ends_for_want o) (list_any ends_for_want os) k.ops);
      trace = λ so. ap wants g.is ∙ with_more g.more w.trace g.none_ends (k.trace so);
    }

-- a call begins
begin_clean : (So : Type 0) (p : ℕ) (c : MachineCall) (s : Machine) → p < length s.parties → IsClean So s.world (reverse (stack s p))
    → IsClean So (after s (Begin p c)).world (reverse (stack (after s (Begin p c)) p))
begin_clean So p c s there k =
    let w = log s.world (event.CallBegun p c) in
    let here = mine (top (stack s p)) in
    let d : Done = begun p w here c in
    let below = reverse (stack s p) in
    let g = grows-begun p w here c in
    let e = settles p d.world (stack s p ++ reverse d.next) (d.next ++ below) (flipped (stack s p) d.next) in
    let todo : reverse (stack (after s (Begin p c)) p) ≡ (ended p d.world (d.next ++ below)).next =
    ap (λ (ys : List Op). reverse ys) (get_or-set_same s.parties p (onto p d (stack s p)).todo [] there) ∙ e.todo in
    clean_by So p s (after s (Begin p c)) (done d.world (d.next ++ below)) (record { world = e.world; todo = todo })
    (record {
      ops = put_clean d.next below ((want-is-told-of w p).begins here c) k.ops;
      trace =
          λ so.
          ap wants g.is
          ∙ with_more g.more w.trace g.none_ends (with_one s.world.trace (event.CallBegun p c) refl (k.trace so));
    })

-- where what is to be done is clean, so is what lies at a place
abbrev pub Clean : Type 0 → ℕ → Machine → Type 0
Clean So p s = IsClean So s.world (reverse (stack s p))

module _ (So : Type 0) (p : ℕ) (s : Machine) (there : p < length s.parties) where
  pub go_clean : (h : Hint) (o : Op) (os : List Op) → reverse (stack s p) ≡ o ∷ os → h.refused ≡ false → IsRoomy s → Clean So p s
      → Clean So p (after s (Go p h))
  go_clean h o os is granted room k =
      clean_by So p s (after s (Go p h)) (done (act p h o s.world).world ((act p h o s.world).next ++ os)) (goes p s there o os is h)
      (act_clean So p h o os s granted room (subst (IsClean So s.world) is k))

  pub answer_clean : (e : UserEnd) (o : Op) (os : List Op) → reverse (stack s p) ≡ o ∷ os → Clean So p s → Clean So p (after s (Answer p e))
  answer_clean e o os is k =
      clean_by So p s (after s (Answer p e)) (done (react p o e s.world).world ((react p o e s.world).next ++ os))
      (answers p s there o os is e) (react_clean So p o e os s.world (subst (IsClean So s.world) is k))

-- so it is along steps that are refused nothing
along_clean : (So : Type 0) (p : ℕ) (told : ℕ → Hint) → ((n : ℕ) → (told n).refused ≡ false) → (ts : List Step) (s left : Machine)
    → p < length s.parties → AreTold p told s ts → run_all ts s ≡ Ok left → IsRoomyAlong ts s → Clean So p s → Clean So p left
along_clean So p told granted [] s left there as_told made room k = subst (λ (m : Machine). Clean So p m) (made_is s left made) k
along_clean So p told granted (t ∷ ts) s left there as_told made room k =
    let one = run-first t ts s left made in
    along_clean So p (λ n. told (suc n)) (λ n. granted (suc n)) ts (after s t) left (still-party p s t there) as_told.1 one.1 room.1
    (by (calls_outside (top (stack s p))) refl (reverse (stack s p)) refl)
  where
    first : refusal s t ≡ None
    first = (run-first t ts s left made).0

    step : Bool → Step
    step b = if b then Answer p Over else Go p (told 0)

    as_it : (b : Bool) → calls_outside (top (stack s p)) ≡ b → t ≡ step b
    as_it b is = as_told.0 ∙ ap (λ b. if b then Answer p Over else Go p (told 0)) is

    by : (b : Bool) → calls_outside (top (stack s p)) ≡ b → (os : List Op) → reverse (stack s p) ≡ os → Clean So p (after s t)
    by true out [] none =
        absurd (no_answer s p there Over none (subst (λ t. refusal s t ≡ None) (as_it true out) first))
    by false out [] none =
        absurd (no_go s p there (told 0) none (subst (λ t. refusal s t ≡ None) (as_it false out) first))
    by true out (o ∷ os) is =
        subst (λ t. Clean So p (after s t)) (sym (as_it true out)) (answer_clean So p s there Over o os is k)
    by false out (o ∷ os) is =
        subst (λ t. Clean So p (after s t)) (sym (as_it false out)) (go_clean So p s there (told 0) o os is (granted 0) room.0 k)

-- and in an act
ends_clean : (So : Type 0) (s : Machine) (p : ℕ) (e : UserEnd) → p < length s.parties → refusal s (Answer p e) ≡ None → Clean So p s
    → Clean So p (after s (Answer p e))
ends_clean So s p e there may k = by (reverse (stack s p)) refl
  where
    by : (os : List Op) → reverse (stack s p) ≡ os → Clean So p (after s (Answer p e))
    by [] none = absurd (no_answer s p there e none may)
    by (o ∷ os) is = answer_clean So p s there e o os is k

-- a call begins with it, or user code ends
abbrev pub is_first : Step → Bool
is_first (Begin p c) = true
is_first (Go p h) = false
is_first (Answer p e) = true

first_clean : (So : Type 0) (t : Step) (s : Machine) → is_first t ≡ true → party_of t < length s.parties → refusal s t ≡ None
    → Clean So (party_of t) s
    → Clean So (party_of t) (after s t)
first_clean So (Begin p c) s first there may k = begin_clean So p c s there k
first_clean So (Go p h) s first there may k = absurd cc
first_clean So (Answer p e) s first there may k = ends_clean So s p e there may k

pub act_is_clean : (So : Type 0) (s : Machine) (a : Act) (told : ℕ → Hint) → ((n : ℕ) → (told n).refused ≡ false) → is_first a.first ≡ true
    → IsAct s a → AreTold a.party told (after s a.first) a.steps → IsRoomyAct s a → Clean So a.party s → Clean So a.party a.left
act_is_clean So s a told granted first it as_told room k =
    let one = run-first a.first a.steps s a.left it.made in
    let there : party_of a.first < length s.parties = there_of s a.first one.0 in
    let began : Clean So (party_of a.first) (after s a.first) =
    first_clean So a.first s first there one.0 (subst (λ p. Clean So p s) (sym it.its) k) in
    along_clean So a.party told granted a.steps (after s a.first) a.left
    (still-party a.party s a.first (subst (λ p. p < length s.parties) it.its there)) as_told one.1 room.1
    (subst (λ p. Clean So p (after s a.first)) it.its began)
