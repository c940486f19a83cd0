-- For keepers_are_called.
-- Each thing that is done adds to the trace, and but for a step of a steal and the taking up of a task neither a poll
-- of a future nor one that comes into an own queue.
use Rattle.std.proofs.Common.{◌≡◌, ℕ, [], ◌∷◌, ◌++◌, Bool, true, false, refl}
use Rattle.std.specs.Prelude.{Option}
use Rattle.executor_laws.proofs.Types.{Move, Call, Event, Op, StealOp, Waker, Hint, UserEnd}
use Rattle.executor_model.specs.{Doing.act, Steps.accepts, Steps.begun, Steps.react, World.World, World.log}
use Rattle.executor_model.proofs.Steps.TraceGrows.{Allows, AllowsCall, Grows, grows-act, grows-and, grows-begun, grows-one}
use Rattle.executor_model.proofs.Steps.TraceGrows.{grows-react, is_ordinary}

-- a future comes into an own queue, or is polled
abbrev pub stirs : Event → Bool
stirs (Event.Kept p f r) = true
stirs (Event.PollBegun p f) = true
stirs _ = false

pub ordinary-stirs : (e : Event) → is_ordinary e ≡ true → stirs e ≡ false
ordinary-stirs (Event.Kept p f r) z = absurd (cc)
ordinary-stirs (Event.PollBegun p f) z = absurd (cc)
ordinary-stirs _ z = refl

-- the trace has these events more, none of which is such
abbrev pub Grown : World → World → Type 0
Grown w v = Grows stirs ordinary-stirs w v

pub grown-log : (w v : World) (e : Event) → stirs e ≡ false → v.trace ≡ w.trace ++ e ∷ [] → Grown w v
grown-log w v e z q = grows-one stirs ordinary-stirs w v e z q

-- what isn't a step of a steal that puts one into an own queue, nor the taking up of a task
abbrev pub stirs_op : Op → Bool
stirs_op (Op.Move Move.TakeUp f) = true
stirs_op (Op.Steal (StealOp.Put s more f)) = true
stirs_op _ = false

pub grown-act : (p : ℕ) (h : Hint) (o : Op) (w : World) → stirs_op o ≡ false → Grown w (act p h o w).world
grown-act p h o w z = grows-act stirs ordinary-stirs p h o w (allows o z)
  where
    allows : (x : Op) → stirs_op x ≡ false → Allows stirs ordinary-stirs p x
    allows (Op.Move Move.TakeUp f) n = absurd (cc)
    allows (Op.Steal (StealOp.Put s more f)) n = absurd (cc)
    allows (Op.End a held) n = refl
    allows _ n = tt

pub grown-react : (p : ℕ) (o : Op) (u : UserEnd) (w : World) → accepts o u ≡ true → Grown w (react p o u w).world
grown-react p o u w a = grows-react stirs ordinary-stirs p o u w a

pub grown-begun : (p : ℕ) (w : World) (here : Option Waker) (c : Call) →
    Grown w (begun p (log w (Event.CallBegun p c)) here c).world
grown-begun p w here c =
    let v = log w (Event.CallBegun p c) in
    grows-and stirs ordinary-stirs w v (begun p v here c).world (grown-log w v (Event.CallBegun p c) refl refl)
    (grows-begun stirs ordinary-stirs p v here c (allows c))
  where
    allows : (x : Call) → AllowsCall stirs ordinary-stirs p x
    allows (Call.PollRun q b) = refl
    allows (Call.DropRun q) = refl
    allows _ = tt
