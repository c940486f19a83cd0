-- For what_is_made_is_new.
-- The making of a tick takes one step, and that of a run a few, one of which makes it; the party tells of nothing before the
-- answer.
use Rattle.std.proofs.Common.{◌≡◌, ◌∙◌, inl, inr, ℕ, ◌<◌, List, [], ◌∷◌, ◌++◌, length, Bool, true, false, ltb, append-nil, refl}
use Rattle.std.proofs.Common.{sym, ap, arith, get_or-set_same, Result}
use Rattle.std.specs.Prelude.{Option, None, reverse}
use Rattle.std.{proofs.lemmas.Bool.Decides.nat_tests, proofs.lemmas.List.append_assoc}
use Rattle.executor_laws.proofs.Types.{StepError, NoSuch, Call, Reply, Event, Kind, Hold, ListOp, Op, RunOp, Section, TickOp}
use Rattle.executor_model.specs.Steps.{Machine, Part, after, below_top, onto, part, party_of, refusal, run, settled, stack}
use Rattle.executor_model.specs.Steps.{start, step, stepped, unless, waits, with_part}
use Rattle.executor_model.specs.ActsOfRuns.{make_room_by, make_run_by}
use Rattle.executor_model.specs.{ActsOfSleepers.make_tick_by, Deeds.deeds, Doing.act, Trace.Trace, World.World, World.log}
use Rattle.executor_laws.specs.Makings.{IsMadeSo, MadeIsMade, MakesRun, MakesTick}
use Rattle.executor_model.proofs.{Steps.Reached.Reached, Steps.Stepping.step-made}
use Rattle.executor_laws.proofs.Promptness.Turns.{Turn, below-is, ends-so, first-is, goes-on, none-yet, turn}
use Rattle.executor_laws.proofs.Placement.OwnReady.{ran-here, reached-on}
use Rattle.executor_laws.proofs.{Types.Hint, Types.Step, Types.Begin, Promptness.Prompting.deeds-own}
use Rattle.executor_laws.proofs.{Promptness.TicksMade.next-unasked, Promptness.Turns.Turn.rests, Promptness.Turns.Turn.goes}

-- the next thing of p is the end of its call
module _ (p : ℕ) where
  ended-next : (s : Machine) (t : Step) (ts : List Step) (a : Reply) (e : Event) (later : Trace) (w : World) →
      (stepped s (step s t)).world ≡ log w (Event.CallEnded p a) → w.trace ≡ s.world.trace →
      deeds p (run ts (stepped s (step s t))).world.trace ≡ deeds p s.world.trace ++ e ∷ later → e ≡ Event.CallEnded p a
  ended-next s t ts a e later w i j k = sym (first-is p ts (stepped s (step s t)) (deeds p s.world.trace) later
      (Event.CallEnded p a) e
      (ap (λ (v : World). deeds p v.trace) i
      ∙ (deeds-own p w.trace (Event.CallEnded p a) refl
      ∙ ap (λ (es : Trace). deeds p es ++ Event.CallEnded p a ∷ []) j)) k)

  on-next : (s : Machine) (t : Step) (ts : List Step) (e : Event) (later : Trace) →
      deeds p (stepped s (step s t)).world.trace ≡ deeds p s.world.trace →
      deeds p (run ts (stepped s (step s t))).world.trace ≡ deeds p s.world.trace ++ e ∷ later →
      deeds p (run ts (stepped s (step s t))).world.trace ≡ deeds p (stepped s (step s t)).world.trace ++ e ∷ later
  on-next s t ts e later i k = k ∙ ap (λ (es : Trace). es ++ e ∷ later) (sym i)

  -- a tick

  abbrev tick_call : Op
  tick_call = Op.Tick TickOp.MakeTick

  tick-made : (b : Bool) (s : Machine) (t : Step) (ts : List Step) (base : List Op) (e : Event) (later : Trace) → Reached s →
      party_of t ≡ p →
      (stepped s (step s t)).world ≡ (onto p (make_tick_by b s.world) base).world →
      deeds p (run ts (stepped s (step s t))).world.trace ≡ deeds p s.world.trace ++ e ∷ later →
      IsMadeSo MakesTick p e (t ∷ ts) s
  tick-made true s t ts base e later here j w k = inr (ended-next s t ts Reply.NoMemory e later s.world
      (w ∙ ends-so p s.world base Reply.NoMemory Hold.Executor) refl k)
  tick-made false s t ts base e later here j w k =
      let v : World = (make_tick_by false s.world).world in
      let i : (stepped s (step s t)).world ≡ log v (Event.CallEnded p Reply.Made) =
      w ∙ ends-so p v base Reply.Made Hold.Executor in
      inl (
        ended-next s t ts Reply.Made e later v i refl k,
        inl (
          j,
          record {
            ticks = ap (λ (u : World). u.ticks) i;
            unpolled = next-unasked s here;
          },
        ),
      )

  -- so it is from a later step on
  abbrev Again : (World → World → Type 0) → List Step → Machine → List Op → Op → Event → Trace → Type 0
  Again M ts s base o e later = stack s p ≡ base ++ o ∷ [] →
      deeds p (run ts s).world.trace ≡ deeds p s.world.trace ++ e ∷ later → IsMadeSo M p e ts s

  tick-so : (ts : List Step) (s : Machine) (base : List Op) (e : Event) (later : Trace) → Reached s →
      stack s p ≡ base ++ tick_call ∷ [] →
      deeds p (run ts s).world.trace ≡ deeds p s.world.trace ++ e ∷ later → IsMadeSo MakesTick p e ts s
  tick-so [] s base e later here i k = absurd (none-yet (deeds p s.world.trace) later e k)
  tick-so (t ∷ ts) s base e later here i k =
      by (λ q x. tick-so ts (stepped s (step s t)) base e later (reached-on s (t ∷ []) here) q x)
      (turn s t p base tick_call i refl)
    where
      skip : IsMadeSo MakesTick p e ts (stepped s (step s t)) → IsMadeSo MakesTick p e (t ∷ ts) s
      skip (inl x) = inl (x.0, inr x.1)
      skip (inr x) = inr x

      by : Again MakesTick ts (stepped s (step s t)) base tick_call e later → Turn s t p tick_call →
          IsMadeSo MakesTick p e (t ∷ ts) s
      by again (rests d q) = skip (again (q ∙ i) (on-next s t ts e later d k))
      by again (goes h j w q) = tick-made h.refused s t ts base e later here j
          (w ∙ ap (λ (os : List Op). (onto p (make_tick_by h.refused s.world) os).world)
          (below-is (stack s p) base tick_call i)) k

  -- a run

  -- what is done without a word
  abbrev Calm : Op → Type 0
  Calm o = (h : Hint) (w : World) → ((act p h o w).next ≡ []) × ((act p h o w).world.trace ≡ w.trace)

  calm-unlock : Calm (Op.List ListOp.UnlockWrite)
  calm-unlock h w = (refl, refl)

  calm-room : Calm (Op.Run RunOp.ReturnRoom)
  calm-room h w = (refl, refl)

  after-calm : (s : Machine) (base : List Op) (o : Op) (h : Hint) → Calm o → stack s p ≡ base ++ o ∷ [] →
      onto p (act p h o s.world) (below_top (stack s p)) ≡ settled p (act p h o s.world).world base
  after-calm s base o h c i = ap (settled p (act p h o s.world).world)
      (ap (λ (os : List Op). below_top (stack s p) ++ reverse os) (c h s.world).0
      ∙ (append-nil (below_top (stack s p)) ∙ below-is (stack s p) base o i))

  abbrev Answered : Reply → List Step → Machine → List Op → Event → Trace → Type 0
  Answered a ts s os e later = stack s p ≡ os → deeds p (run ts s).world.trace ≡ deeds p s.world.trace ++ e ∷ later →
      e ≡ Event.CallEnded p a

  -- behind that the call ends
  ends-next : (a : Reply) (o : Op) → Calm o → waits o ≡ false → (ts : List Step) (s : Machine) (base : List Op) (held : Hold)
      (e : Event) (later : Trace) → stack s p ≡ (base ++ Op.End a held ∷ []) ++ o ∷ [] →
      deeds p (run ts s).world.trace ≡ deeds p s.world.trace ++ e ∷ later → e ≡ Event.CallEnded p a
  ends-next a o c n [] s base held e later i k = absurd (none-yet (deeds p s.world.trace) later e k)
  ends-next a o c n (t ∷ ts) s base held e later i k =
      by (λ q x. ends-next a o c n ts (stepped s (step s t)) base held e later q x)
      (turn s t p (base ++ Op.End a held ∷ []) o i n)
    where
      by : Answered a ts (stepped s (step s t)) ((base ++ Op.End a held ∷ []) ++ o ∷ []) e later → Turn s t p o →
          e ≡ Event.CallEnded p a
      by again (rests d q) = again (q ∙ i) (on-next s t ts e later d k)
      by again (goes h j w q) =
          let v : World = (act p h o s.world).world in
          ended-next s t ts a e later v
          (w ∙ (ap (λ (x : Part). x.world) (after-calm s (base ++ Op.End a held ∷ []) o h c i) ∙ ends-so p v base a held))
          (c h s.world).1 k

  -- memory is wanted, and the room that was taken is given back first
  wants-next : (ts : List Step) (s : Machine) (base : List Op) (held : Hold) (e : Event) (later : Trace) →
      stack s p ≡ ((base ++ Op.End Reply.NoMemory held ∷ []) ++ Op.Run RunOp.ReturnRoom ∷ []) ++ Op.List ListOp.UnlockWrite ∷ [] →
      deeds p (run ts s).world.trace ≡ deeds p s.world.trace ++ e ∷ later → e ≡ Event.CallEnded p Reply.NoMemory
  wants-next [] s base held e later i k = absurd (none-yet (deeds p s.world.trace) later e k)
  wants-next (t ∷ ts) s base held e later i k =
      by (λ q x. wants-next ts (stepped s (step s t)) base held e later q x) (turn s t p _ (Op.List ListOp.UnlockWrite) i refl)
    where
      rest : List Op
      rest = base ++ Op.End Reply.NoMemory held ∷ []

      by : Answered Reply.NoMemory ts (stepped s (step s t))
          ((rest ++ Op.Run RunOp.ReturnRoom ∷ []) ++ Op.List ListOp.UnlockWrite ∷ []) e later →
          Turn s t p (Op.List ListOp.UnlockWrite) → e ≡ Event.CallEnded p Reply.NoMemory
      by again (rests d q) = again (q ∙ i) (on-next s t ts e later d k)
      by again (goes h j w q) =
          let v : World = (act p h (Op.List ListOp.UnlockWrite) s.world).world in
          let x : onto p (act p h (Op.List ListOp.UnlockWrite) s.world) (below_top (stack s p))
          ≡ part v (rest ++ Op.Run RunOp.ReturnRoom ∷ []) =
          after-calm s (rest ++ Op.Run RunOp.ReturnRoom ∷ []) (Op.List ListOp.UnlockWrite) h calm-unlock i
          ∙ goes-on p v rest (Op.Run RunOp.ReturnRoom) refl in
          ends-next Reply.NoMemory (Op.Run RunOp.ReturnRoom) calm-room refl ts (stepped s (step s t)) base held e later
          (q ∙ ap (λ (y : Part). y.todo) x)
          (on-next s t ts e later (ap (λ (y : World). deeds p y.trace) (w ∙ ap (λ (y : Part). y.world) x)) k)

  -- the step that makes it
  run-made : (b : Bool) (s : Machine) (t : Step) (ts : List Step) (base : List Op) (e : Event) (later : Trace) → Reached s →
      party_of t ≡ p → (stepped s (step s t)).world ≡ (onto p (make_run_by b s.world) base).world →
      stack (stepped s (step s t)) p ≡ (onto p (make_run_by b s.world) base).todo →
      deeds p (run ts (stepped s (step s t))).world.trace ≡ deeds p s.world.trace ++ e ∷ later →
      IsMadeSo MakesRun p e (t ∷ ts) s
  run-made true s t ts base e later here j w q k =
      let end : Op = Op.End Reply.NoMemory Hold.Executor in
      let x : onto p (make_run_by true s.world) base
      ≡ part s.world (((base ++ end ∷ []) ++ Op.Run RunOp.ReturnRoom ∷ []) ++ Op.List ListOp.UnlockWrite ∷ []) =
      ap (settled p s.world)
      (sym (append_assoc base (end ∷ []) (Op.Run RunOp.ReturnRoom ∷ Op.List ListOp.UnlockWrite ∷ []))
      ∙ sym (append_assoc (base ++ end ∷ []) (Op.Run RunOp.ReturnRoom ∷ []) (Op.List ListOp.UnlockWrite ∷ [])))
      ∙ goes-on p s.world ((base ++ end ∷ []) ++ Op.Run RunOp.ReturnRoom ∷ []) (Op.List ListOp.UnlockWrite) refl in
      inr (wants-next ts (stepped s (step s t)) base Hold.Executor e later (q ∙ ap (λ (y : Part). y.todo) x)
      (on-next s t ts e later (ap (λ (y : World). deeds p y.trace) (w ∙ ap (λ (y : Part). y.world) x)) k))
  run-made false s t ts base e later here j w q k =
      let v : World = (make_run_by false s.world).world in
      let end : Op = Op.End Reply.Made (Hold.Run (length s.world.runs)) in
      let x : onto p (make_run_by false s.world) base ≡ part v ((base ++ end ∷ []) ++ Op.List ListOp.UnlockWrite ∷ []) =
      ap (settled p v) (sym (append_assoc base (end ∷ []) (Op.List ListOp.UnlockWrite ∷ [])))
      ∙ goes-on p v (base ++ end ∷ []) (Op.List ListOp.UnlockWrite) refl in
      let i : (stepped s (step s t)).world ≡ v = w ∙ ap (λ (y : Part). y.world) x in
      inl (
        ends-next Reply.Made (Op.List ListOp.UnlockWrite) calm-unlock refl ts (stepped s (step s t)) base
            (Hold.Run (length s.world.runs)) e later (q ∙ ap (λ (y : Part). y.todo) x)
            (on-next s t ts e later (ap (λ (y : World). deeds p y.trace) i) k),
        inl (
          j,
          record {
            runs = ap (λ (y : World). y.runs) i;
            own = ap (λ (y : World). y.own) i;
            unpolled = ((ran-here s here (length s.world.runs)).unborn (omega arith)).1;
          },
        ),
      )

  skip : (t : Step) (ts : List Step) (s : Machine) (e : Event) → IsMadeSo MakesRun p e ts (stepped s (step s t)) →
      IsMadeSo MakesRun p e (t ∷ ts) s
  skip t ts s e (inl x) = inl (x.0, inr x.1)
  skip t ts s e (inr x) = inr x

  run-writes : (ts : List Step) (s : Machine) (base : List Op) (e : Event) (later : Trace) → Reached s →
      stack s p ≡ base ++ Op.List (ListOp.Write Section.MakeRun) ∷ [] →
      deeds p (run ts s).world.trace ≡ deeds p s.world.trace ++ e ∷ later → IsMadeSo MakesRun p e ts s
  run-writes [] s base e later here i k = absurd (none-yet (deeds p s.world.trace) later e k)
  run-writes (t ∷ ts) s base e later here i k =
      by (λ q x. run-writes ts (stepped s (step s t)) base e later (reached-on s (t ∷ []) here) q x)
      (turn s t p base (Op.List (ListOp.Write Section.MakeRun)) i refl)
    where
      by : Again MakesRun ts (stepped s (step s t)) base (Op.List (ListOp.Write Section.MakeRun)) e later →
          Turn s t p (Op.List (ListOp.Write Section.MakeRun)) → IsMadeSo MakesRun p e (t ∷ ts) s
      by again (rests d q) = skip t ts s e (again (q ∙ i) (on-next s t ts e later d k))
      by again (goes h j w q) =
          let x : onto p (make_run_by h.refused s.world) (below_top (stack s p)) ≡ onto p (make_run_by h.refused s.world) base =
          ap (onto p (make_run_by h.refused s.world)) (below-is (stack s p) base _ i) in
          run-made h.refused s t ts base e later here j (w ∙ ap (λ (y : Part). y.world) x) (q ∙ ap (λ (y : Part). y.todo) x) k

  run-locks : (ts : List Step) (s : Machine) (base : List Op) (e : Event) (later : Trace) → Reached s →
      stack s p ≡ base ++ Op.List (ListOp.LockWrite Section.MakeRun) ∷ [] →
      deeds p (run ts s).world.trace ≡ deeds p s.world.trace ++ e ∷ later → IsMadeSo MakesRun p e ts s
  run-locks [] s base e later here i k = absurd (none-yet (deeds p s.world.trace) later e k)
  run-locks (t ∷ ts) s base e later here i k =
      by (λ q x. run-locks ts (stepped s (step s t)) base e later (reached-on s (t ∷ []) here) q x)
      (turn s t p base (Op.List (ListOp.LockWrite Section.MakeRun)) i refl)
    where
      by : Again MakesRun ts (stepped s (step s t)) base (Op.List (ListOp.LockWrite Section.MakeRun)) e later →
          Turn s t p (Op.List (ListOp.LockWrite Section.MakeRun)) → IsMadeSo MakesRun p e (t ∷ ts) s
      by again (rests d q) = skip t ts s e (again (q ∙ i) (on-next s t ts e later d k))
      by again (goes h j w q) =
          let o : Op = Op.List (ListOp.LockWrite Section.MakeRun) in
          let v : World = (act p h o s.world).world in
          let x : onto p (act p h o s.world) (below_top (stack s p)) ≡ part v (base ++ Op.List (ListOp.Write Section.MakeRun) ∷ []) =
          ap (onto p (act p h o s.world)) (below-is (stack s p) base o i)
          ∙ goes-on p v base (Op.List (ListOp.Write Section.MakeRun)) refl in
          skip t ts s e (run-writes ts (stepped s (step s t)) base e later (reached-on s (t ∷ []) here)
          (q ∙ ap (λ (y : Part). y.todo) x)
          (on-next s t ts e later (ap (λ (y : World). deeds p y.trace) (w ∙ ap (λ (y : Part). y.world) x)) k))

  room-made : (b : Bool) (s : Machine) (t : Step) (ts : List Step) (base : List Op) (e : Event) (later : Trace) → Reached s →
      (stepped s (step s t)).world ≡ (onto p (make_room_by b s.world) base).world →
      stack (stepped s (step s t)) p ≡ (onto p (make_room_by b s.world) base).todo →
      deeds p (run ts (stepped s (step s t))).world.trace ≡ deeds p s.world.trace ++ e ∷ later →
      IsMadeSo MakesRun p e (t ∷ ts) s
  room-made true s t ts base e later here w q k = inr (ended-next s t ts Reply.NoMemory e later s.world
      (w ∙ ends-so p s.world base Reply.NoMemory Hold.Executor) refl k)
  room-made false s t ts base e later here w q k =
      let v : World = (make_room_by false s.world).world in
      let x : onto p (make_room_by false s.world) base ≡ part v (base ++ Op.List (ListOp.LockWrite Section.MakeRun) ∷ []) =
      goes-on p v base (Op.List (ListOp.LockWrite Section.MakeRun)) refl in
      skip t ts s e (run-locks ts (stepped s (step s t)) base e later (reached-on s (t ∷ []) here)
      (q ∙ ap (λ (y : Part). y.todo) x)
      (on-next s t ts e later (ap (λ (y : World). deeds p y.trace) (w ∙ ap (λ (y : Part). y.world) x)) k))

  run-so : (ts : List Step) (s : Machine) (base : List Op) (e : Event) (later : Trace) → Reached s →
      stack s p ≡ base ++ Op.Run RunOp.MakeRoom ∷ [] →
      deeds p (run ts s).world.trace ≡ deeds p s.world.trace ++ e ∷ later → IsMadeSo MakesRun p e ts s
  run-so [] s base e later here i k = absurd (none-yet (deeds p s.world.trace) later e k)
  run-so (t ∷ ts) s base e later here i k =
      by (λ q x. run-so ts (stepped s (step s t)) base e later (reached-on s (t ∷ []) here) q x)
      (turn s t p base (Op.Run RunOp.MakeRoom) i refl)
    where
      by : Again MakesRun ts (stepped s (step s t)) base (Op.Run RunOp.MakeRoom) e later →
          Turn s t p (Op.Run RunOp.MakeRoom) → IsMadeSo MakesRun p e (t ∷ ts) s
      by again (rests d q) = skip t ts s e (again (q ∙ i) (on-next s t ts e later d k))
      by again (goes h j w q) =
          let x : onto p (make_room_by h.refused s.world) (below_top (stack s p)) ≡ onto p (make_room_by h.refused s.world) base =
          ap (onto p (make_room_by h.refused s.world)) (below-is (stack s p) base _ i) in
          room-made h.refused s t ts base e later here (w ∙ ap (λ (y : Part). y.world) x) (q ∙ ap (λ (y : Part). y.todo) x) k

-- the call begins

there : (b : Bool) (k : Option StepError) → unless b NoSuch k ≡ None → b ≡ true
there true k e = refl
there false k e = absurd (cc)

module _ (s : Machine) (p : ℕ) (c : Call) (o : Op) (n : refusal s (Begin p c) ≡ None)
    (first : after s (Begin p c) ≡ with_part s p (settled p (log s.world (Event.CallBegun p c)) (stack s p ++ o ∷ [])))
    (open_op : settled p (log s.world (Event.CallBegun p c)) (stack s p ++ o ∷ [])
    ≡ part (log s.world (Event.CallBegun p c)) (stack s p ++ o ∷ [])) where
  abbrev new : Machine
  new = stepped s (step s (Begin p c))

  new-is : new ≡ with_part s p (part (log s.world (Event.CallBegun p c)) (stack s p ++ o ∷ []))
  new-is = ap (λ (r : Result Machine StepError). stepped s r) (step-made s (Begin p c) n)
      ∙ (first ∙ ap (with_part s p) open_op)

  in-parties : p < length s.parties
  in-parties = let b : ltb p (length s.parties) ≡ true = there (ltb p (length s.parties)) _ n in grind (arith, nat_tests)

  todo-is : stack new p ≡ stack s p ++ o ∷ []
  todo-is = ap (λ (m : Machine). stack m p) new-is ∙ get_or-set_same s.parties p (stack s p ++ o ∷ []) [] in-parties

  told-is : deeds p new.world.trace ≡ deeds p s.world.trace ++ Event.CallBegun p c ∷ []
  told-is = ap (λ (m : Machine). deeds p m.world.trace) new-is ∙ deeds-own p s.world.trace (Event.CallBegun p c) refl

  since-is : (steps : List Step) (e : Event) (later : Trace) →
      deeds p (run steps new).world.trace ≡ deeds p s.world.trace ++ Event.CallBegun p c ∷ e ∷ later →
      deeds p (run steps new).world.trace ≡ deeds p new.world.trace ++ e ∷ later
  since-is steps e later k = k ∙ (sym (append_assoc (deeds p s.world.trace) (Event.CallBegun p c ∷ []) (e ∷ later))
      ∙ ap (λ (es : Trace). es ++ e ∷ later) (sym told-is))

made-so : (s : Machine) → Reached s → MadeIsMade s
made-so s here = record {
  tick = λ p n steps e later k.
      let o : Op = Op.Tick TickOp.MakeTick in
      let x = goes-on p (log s.world (Event.CallBegun p Call.NewTick)) (stack s p) o refl in
      tick-so p steps (stepped s (step s (Begin p Call.NewTick))) (stack s p) e later (reached-on s (Begin p Call.NewTick ∷ []) here)
      (todo-is s p Call.NewTick o n refl x) (since-is s p Call.NewTick o n refl x steps e later k);
  run = λ p n steps e later k.
      let o : Op = Op.Run RunOp.MakeRoom in
      let x = goes-on p (log s.world (Event.CallBegun p Call.NewRun)) (stack s p) o refl in
      run-so p steps (stepped s (step s (Begin p Call.NewRun))) (stack s p) e later (reached-on s (Begin p Call.NewRun ∷ []) here)
      (todo-is s p Call.NewRun o n refl x) (since-is s p Call.NewRun o n refl x steps e later k);
}

pub made-is-made : (limit : ℕ) (kind : Kind) (parties : ℕ) (steps : List Step) → MadeIsMade (run steps (start limit kind parties))
made-is-made limit kind parties steps = made-so (run steps (start limit kind parties))
    (record { limit = limit; kind = kind; parties = parties; steps = steps; is = refl })
