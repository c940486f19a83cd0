-- For copies_are_counted.
-- What the step of a copy does, and which steps change the kept wakers.
use Rattle.std.proofs.Common.{◌≡◌, ◌⊎◌, ◌∙◌, ℕ, suc, ◌-◌, ◌<◌, ◌≤◌, List, [], ◌∷◌, ◌++◌, length, set, Bool, true, false, not}
use Rattle.std.proofs.Common.{get_or, refl, sym, ap, arith, inl, inr, ⊎_elim, get_or-set_same}
use Rattle.std.specs.Prelude.{Option, Some, None, nat_lt, reverse}
use Rattle.std.{proofs.lemmas.Bool.Decides.nat_tests, proofs.lemmas.List.get_or_past}
use Rattle.task_moves.specs.Moves.{is_last, is_over, most_references}
use Rattle.executor_model.proofs.Types.{Mark, State, Move, Call, Reply, Event, ClosingOp, Hold, Op, TableOp, Waker, WakerOp}
use Rattle.executor_model.proofs.Types.{Hint, Go, StepError, NoSuch}
use Rattle.executor_model.specs.Steps.{Machine, below_top, begun, end_of, future_of, go_refusal, gone_on, is_some, kept, onto}
use Rattle.executor_model.specs.Acts.{copy_by, drop_next_by, enter_by, is_last_waker, is_refused, is_told, told_of}
use Rattle.executor_model.specs.Steps.{refusal, settled, settled_by, stack, step, step_by, stepped, top, unless, with_future}
use Rattle.executor_model.specs.World.{Done, World, blank, log, task}
use Rattle.executor_model.specs.{CopiesMean.AddsNone, CopiesMean.AddsOne, Doing.act}
use Rattle.executor_model.proofs.Steps.Placing.{Spots, places, same-spots}
use Rattle.executor_model.proofs.{Steps.Tests.right-false, Table.Spawning.in-range, Table.Spawning.top-last}
use Rattle.task_moves.specs.Moves as moves

-- the party goes on with what is on top

pub gone-world : (s : Machine) (p : ℕ) (h : Hint) (o : Op) → top (stack s p) ≡ Some o → go_refusal s.world (Some o) ≡ None →
    (stepped s (step s (Go p h))).world ≡ (onto p (act p h o s.world) (below_top (stack s p))).world
unfolding step
gone-world s p h o e k =
    let l : p < length s.parties = in-range s p o e in
    let r : refusal s (Go p h) ≡ None =
    ap (λ (b : Bool). unless b NoSuch (go_refusal s.world (top (stack s p))))
    (let z : nat_lt p (length s.parties) ≡ true = grind (arith, nat_tests) in z) ∙ (ap (go_refusal s.world) e ∙ k) in
    ap (λ (x : Option StepError). (stepped s (step_by x s (Go p h))).world) r
    ∙ ap (λ (v : Option Op). (gone_on p s.world (stack s p) v (λ x. act p h x s.world)).world) e

-- how a copy is answered
abbrev pub copy_reply : Bool → Reply
copy_reply true = Reply.NoMemory
copy_reply false = Reply.Made

ended-world : (p : ℕ) (w : World) (os : List Op) (a : Reply) (held : Hold) → top os ≡ Some (Op.End a held) →
    (settled p w os).world ≡ log w (Event.CallEnded p a)
ended-world p w os a held e = ap (λ (x : Option Op). (settled_by (end_of x) p w os).world) e

copied-world : (b : Bool) (p : ℕ) (w : World) (f : ℕ) (held : Hold) (rest : List Op) →
    (onto p (copy_by b w f held) rest).world ≡ log (copy_by b w f held).world (Event.CallEnded p (copy_reply b))
copied-world true p w f held rest = ended-world p w (rest ++ Op.End Reply.NoMemory held ∷ []) Reply.NoMemory held
    (top-last rest (Op.End Reply.NoMemory held))
copied-world false p w f held rest =
    ended-world p (copy_by false w f held).world (rest ++ Op.End Reply.Made held ∷ []) Reply.Made held
    (top-last rest (Op.End Reply.Made held))

pub copy-world : (s : Machine) (p : ℕ) (h : Hint) (f : ℕ) (held : Hold) →
    top (stack s p) ≡ Some (Op.Waker (WakerOp.CopyWaker f held)) →
    (stepped s (step s (Go p h))).world ≡ log (copy_by (is_refused h (task s.world f)) s.world f held).world
    (Event.CallEnded p (copy_reply (is_refused h (task s.world f))))
copy-world s p h f held e = gone-world s p h (Op.Waker (WakerOp.CopyWaker f held)) e refl
    ∙ copied-world (is_refused h (task s.world f)) p s.world f held (below_top (stack s p))

-- a copy that is made, and one that is refused

few-references : (b : Bool) (n : ℕ) → not b ≡ false → nat_lt n most_references ≡ b → n < most_references
few-references b n e z = grind (arith, nat_tests)

pub adds-one : (w : World) (h : Hint) (f : ℕ) (held : Hold) (a : Reply) (p : ℕ) → is_refused h (task w f) ≡ false →
    AddsOne w (log (copy_by false w f held).world (Event.CallEnded p a))
adds-one w h f held a p e =
    let z : not (nat_lt (task w f).references most_references) ≡ false = right-false h.refused _ e in
    record {
      future = f;
      few = few-references _ (task w f).references z refl;
      wakers = refl;
      tasks = refl;
    }

pub adds-none : (w : World) (h : Hint) (f : ℕ) (held : Hold) (a : Reply) (p : ℕ) → is_refused h (task w f) ≡ true →
    AddsNone h.refused w (log (copy_by true w f held).world (Event.CallEnded p a))
adds-none w h f held a p e = record { wakers = refl; tasks = refl; cause = by h.refused refl }
  where
    many : (n : ℕ) → not (nat_lt n most_references) ≡ true → most_references ≤ n
    many n z = grind (arith, nat_tests)

    by : (b : Bool) → h.refused ≡ b → (b ≡ true) ⊎ ((g : ℕ) × (most_references ≤ (task w g).references))
    by true z = inl refl
    by false z = inr (
      f,
      many (task w f).references (sym (ap (λ (c : Bool). let r : Bool =
          or_by c (not (nat_lt (task w f).references most_references)) in r) z) ∙ e),
    )
      where
        or_by : Bool → Bool → Bool
        or_by true c = true
        or_by false c = c

-- which wakers are kept

settled-wakers : (o : Option Reply) (p : ℕ) (w : World) (os : List Op) → (settled_by o p w os).world.wakers ≡ w.wakers
settled-wakers None p w os = refl
settled-wakers (Some a) p w os = refl

pub onto-wakers : (p : ℕ) (d : Done) (rest : List Op) → (onto p d rest).world.wakers ≡ d.world.wakers
onto-wakers p d rest = settled-wakers (end_of (top (rest ++ reverse d.next))) p d.world (rest ++ reverse d.next)

abbrev pub is_copying : Op → Bool
is_copying (Op.Waker (WakerOp.CopyWaker f held)) = true
is_copying _ = false

enter-wakers : (b c : Bool) (mark : Mark) (p : ℕ) (w : World) → (enter_by b c mark p w).world.wakers ≡ w.wakers
enter-wakers true c mark p w = refl
enter-wakers false true mark p w = refl
enter-wakers false false mark p w = refl

next-wakers : (q : List ℕ) (p : ℕ) (w : World) → (drop_next_by p w q).world.wakers ≡ w.wakers
next-wakers [] p w = refl
next-wakers (f ∷ rest) p w = refl

act-by : (b : Bool) (p : ℕ) (h : Hint) (o : Op) (w : World) → places o ≡ b → is_copying o ≡ false →
    (act p h o w).world.wakers ≡ w.wakers
act-by false p h o w e n = sym (ap (λ (x : Spots). x.wakers) (same-spots p h o w e))
act-by true p h (Op.Table (TableOp.Enter mark)) w e n = enter-wakers _ _ _ p w
act-by true p h (Op.Table (TableOp.TakeToPoll f)) w e n = refl
act-by true p h (Op.Table (TableOp.PutBack f)) w e n = refl
act-by true p h (Op.Table (TableOp.TakeToDrop f)) w e n = refl
act-by true p h (Op.Waker (WakerOp.CopyWaker f held)) w e n = absurd (cc)
act-by true p h (Op.Closing ClosingOp.DropNext) w e n = next-wakers _ p w
act-by true p h _ w e n = absurd (cc)

pub act-wakers : (p : ℕ) (h : Hint) (o : Op) (w : World) → is_copying o ≡ false → (act p h o w).world.wakers ≡ w.wakers
act-wakers p h o w n = act-by (places o) p h o w refl n

with-same : (w v : World) (o : Option ℕ) (d : ℕ → Done) → v.wakers ≡ w.wakers →
    ((f : ℕ) → (d f).world.wakers ≡ w.wakers) → (with_future v o d).world.wakers ≡ w.wakers
with-same w v None d e k = e
with-same w v (Some f) d e k = k f

abbrev pub uses : Call → Bool
uses (Call.Wake k) = true
uses (Call.DropWaker k) = true
uses _ = false

pub begun-wakers : (p : ℕ) (w : World) (here : Option Waker) (c : Call) → uses c ≡ false →
    (begun p (log w (Event.CallBegun p c)) here c).world.wakers ≡ w.wakers
begun-wakers p w here (Call.Wake j) n = absurd (cc)
begun-wakers p w here (Call.WakeByRef j) n = with-same w _ (kept w j) _ refl (λ f. refl)
begun-wakers p w here (Call.Copy j) n = with-same w _ (kept w j) _ refl (λ f. refl)
begun-wakers p w here (Call.DropWaker j) n = absurd (cc)
begun-wakers p w here Call.Keep n = with-same w _ (future_of here) _ refl (λ f. refl)
begun-wakers p w here Call.WakeSelf n = with-same w _ (future_of here) _ refl (λ f. refl)
begun-wakers p w here _ n = refl

pub with-used : (w v : World) (k : ℕ) (o : Option ℕ) (d : ℕ → Done) → is_some o ≡ true →
    ((f : ℕ) → (d f).world.wakers ≡ set w.wakers k None) → (with_future v o d).world.wakers ≡ set w.wakers k None
with-used w v k None d e z = absurd (cc)
with-used w v k (Some f) d e z = z f

-- a reference that goes

told-tasks : (l b : Bool) (p : ℕ) (w : World) (f : ℕ) → (told_of l b Move.Release p w f).tasks ≡ w.tasks
told-tasks true true p w f = refl
told-tasks true false p w f = refl
told-tasks false true p w f = refl
told-tasks false false p w f = refl

settled-tasks : (o : Option Reply) (p : ℕ) (w : World) (os : List Op) → (settled_by o p w os).world.tasks ≡ w.tasks
settled-tasks None p w os = refl
settled-tasks (Some a) p w os = refl

onto-tasks : (p : ℕ) (d : Done) (rest : List Op) → (onto p d rest).world.tasks ≡ d.world.tasks
onto-tasks p d rest = settled-tasks (end_of (top (rest ++ reverse d.next))) p d.world (rest ++ reverse d.next)

less : (b c : Bool) (x : State) (n : ℕ) → b ≡ false → x.references ≡ suc n → (moves.release_by b c x).state.references ≡ n
less true c x n e k = absurd (cc)
less false c x n e k = let z : x.references - 1 ≡ n = omega (arith, k) in z

there-is : (w : World) (f n : ℕ) → (task w f).references ≡ suc n → f < length w.tasks
there-is w f n e = ⊎_elim (λ (l : f < length w.tasks). l)
    (λ (l : length w.tasks ≤ f).
    absurd (omega (arith, e, ap (λ (x : State). x.references) (get_or_past w.tasks f blank l))))
    (or-past f (length w.tasks))
  where
    or-past : (a b : ℕ) → (a < b) ⊎ (b ≤ a)
    or-past a b = grind arith

pub released-one : (s : Machine) (p f n : ℕ) (h : Hint) → top (stack s p) ≡ Some (Op.Move Move.Release f) →
    (task s.world f).references ≡ suc n → is_last (task s.world f) ≡ false →
    (task (stepped s (step s (Go p h))).world f).references ≡ n
released-one s p f n h e k z =
    let w : World = s.world in
    let d : Done = act p h (Op.Move Move.Release f) w in
    let x : State = (moves.release (task w f)).state in
    let now : (stepped s (step s (Go p h))).world.tasks ≡ set w.tasks f x =
    ap (λ (v : World). v.tasks) (gone-world s p h (Op.Move Move.Release f) e refl)
    ∙ (onto-tasks p d (below_top (stack s p))
    ∙ ap (λ (ts : List State). set ts f x)
    (told-tasks (is_last_waker Move.Release (task w f)) (is_told Move.Release (task w f)) p w f)) in
    ap (λ (ts : List State). (get_or ts f blank).references) now
    ∙ (ap (λ (y : State). y.references) (get_or-set_same w.tasks f x blank (there-is w f n k))
    ∙ less (is_last (task w f)) (is_over (task w f)) (task w f) n z k)
