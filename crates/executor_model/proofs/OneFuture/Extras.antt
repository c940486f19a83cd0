-- For all laws of one future.
-- What the parties have still to do with a future beside what specs/Rows counts: with its entry, its output, its handle
-- and the drop of the executor. Columns of the view of one future (proofs/OneFuture/Views).
use Rattle.std.proofs.Common.{◌≡◌, ℕ, ◌+◌, List, [], ◌++◌, arith}
use Rattle.executor_model.proofs.Types.{Op, ClosingOp, HandleOp, RunOp, TickOrRun, TickOp, UserOp, Move}
use Rattle.executor_model.specs.{Rows.appends_of, Rows.leaves_of, Weights.same, Weights.weigh, Weights.weigh_all}
use Rattle.executor_model.proofs.Steps.Lists.{weigh-append}

-- what is only done after the drop of the executor has emptied the table
abbrev pub closing_of : Op → ℕ
closing_of (Op.Move Move.DropRunnable f) = 1
closing_of (Op.Closing ClosingOp.DropNext) = 1
closing_of (Op.Closing ClosingOp.WakeNext) = 1
closing_of (Op.Closing (ClosingOp.Close mark)) = 1
closing_of (Op.Closing (ClosingOp.Drain mark)) = 1
closing_of _ = 0

-- and after it has dropped all futures that it found there
abbrev pub waking_of : Op → ℕ
waking_of (Op.Move Move.DropRunnable f) = 1
waking_of (Op.Closing ClosingOp.WakeNext) = 1
waking_of (Op.Closing (ClosingOp.Close mark)) = 1
waking_of (Op.Closing (ClosingOp.Drain mark)) = 1
waking_of _ = 0

-- outputs of g that are to be dropped
abbrev pub outs_of : ℕ → Op → ℕ
outs_of g (Op.User (UserOp.BeginDropOutput f)) = same g f
outs_of g _ = 0

abbrev pub detaches_of : ℕ → Op → ℕ
detaches_of g (Op.Move Move.Detach f) = same g f
detaches_of g _ = 0

-- who will look whether the awaiter is to be called
abbrev pub telling_of : ℕ → Op → ℕ
telling_of g (Op.Handle (HandleOp.Notify f mine)) = same g f
telling_of g (Op.Handle (HandleOp.LookAgain f)) = same g f
telling_of g _ = 0

-- who takes it out
abbrev pub taking_of : ℕ → Op → ℕ
taking_of g (Op.Handle (HandleOp.EndNotify f mine)) = same g f
taking_of g _ = 0

-- who stores it
abbrev pub storing_of : ℕ → Op → ℕ
storing_of g (Op.Handle (HandleOp.EndRegister f a k)) = same g f
storing_of g _ = 0

-- who searches is a run
abbrev pub runs_of_who : TickOrRun → ℕ
runs_of_who (TickOrRun.Run r) = 1
runs_of_who (TickOrRun.Tick t) = 0

abbrev pub runs_of_run : RunOp → ℕ
runs_of_run (RunOp.WakeOwn x) = 0
runs_of_run _ = 1

-- what a run does, but for the call of its own waker
abbrev pub runs_of : Op → ℕ
runs_of (Op.Steal o) = 1
runs_of (Op.List o) = 1
runs_of (Op.Run o) = runs_of_run o
runs_of (Op.Tick (TickOp.Search s)) = runs_of_who s.who
runs_of (Op.Tick (TickOp.Look s look)) = runs_of_who s.who
runs_of _ = 0

pub record Extra : Type 0 where
  pub leaves : ℕ
  pub closing : ℕ
  pub waking : ℕ
  pub outs : ℕ
  pub detaches : ℕ
  pub telling : ℕ
  pub taking : ℕ
  pub storing : ℕ
  pub appends : ℕ
  pub runs : ℕ

abbrev pub extras : ℕ → List Op → Extra
extras g os = record {
  leaves = weigh (leaves_of g) os;
  closing = weigh closing_of os;
  waking = weigh waking_of os;
  outs = weigh (outs_of g) os;
  detaches = weigh (detaches_of g) os;
  telling = weigh (telling_of g) os;
  taking = weigh (taking_of g) os;
  storing = weigh (storing_of g) os;
  appends = weigh (appends_of g) os;
  runs = weigh runs_of os;
}

abbrev pub no_extra : Extra
no_extra = extras 0 []

abbrev pub plus_extra : Extra → Extra → Extra
plus_extra a b = record {
  leaves = a.leaves + b.leaves;
  closing = a.closing + b.closing;
  waking = a.waking + b.waking;
  outs = a.outs + b.outs;
  detaches = a.detaches + b.detaches;
  telling = a.telling + b.telling;
  taking = a.taking + b.taking;
  storing = a.storing + b.storing;
  appends = a.appends + b.appends;
  runs = a.runs + b.runs;
}

abbrev pub with_extra : ℕ → List Op → Extra → Extra
with_extra g os r = plus_extra (extras g os) r

abbrev pub extra : ℕ → List (List Op) → Extra
extra g ss = record {
  leaves = weigh_all (leaves_of g) ss;
  closing = weigh_all closing_of ss;
  waking = weigh_all waking_of ss;
  outs = weigh_all (outs_of g) ss;
  detaches = weigh_all (detaches_of g) ss;
  telling = weigh_all (telling_of g) ss;
  taking = weigh_all (taking_of g) ss;
  storing = weigh_all (storing_of g) ss;
  appends = weigh_all (appends_of g) ss;
  runs = weigh_all runs_of ss;
}

pub extras-append : (g : ℕ) (xs ys : List Op) → extras g (xs ++ ys) ≡ plus_extra (extras g xs) (extras g ys)
extras-append g xs ys = λ t. record {
  leaves = weigh-append (leaves_of g) xs ys t;
  closing = weigh-append closing_of xs ys t;
  waking = weigh-append waking_of xs ys t;
  outs = weigh-append (outs_of g) xs ys t;
  detaches = weigh-append (detaches_of g) xs ys t;
  telling = weigh-append (telling_of g) xs ys t;
  taking = weigh-append (taking_of g) xs ys t;
  storing = weigh-append (storing_of g) xs ys t;
  appends = weigh-append (appends_of g) xs ys t;
  runs = weigh-append runs_of xs ys t;
}

assoc : (v : Op → ℕ) (xs ys : List Op) (n : ℕ) → weigh v (xs ++ ys) + n ≡ weigh v xs + (weigh v ys + n)
assoc v xs ys n = omega (arith, weigh-append v xs ys)

pub with_extra-append : (g : ℕ) (xs ys : List Op) (r : Extra) →
    with_extra g (xs ++ ys) r ≡ with_extra g xs (with_extra g ys r)
with_extra-append g xs ys r = λ t. record {
  leaves = assoc (leaves_of g) xs ys r.leaves t;
  closing = assoc closing_of xs ys r.closing t;
  waking = assoc waking_of xs ys r.waking t;
  outs = assoc (outs_of g) xs ys r.outs t;
  detaches = assoc (detaches_of g) xs ys r.detaches t;
  telling = assoc (telling_of g) xs ys r.telling t;
  taking = assoc (taking_of g) xs ys r.taking t;
  storing = assoc (storing_of g) xs ys r.storing t;
  appends = assoc (appends_of g) xs ys r.appends t;
  runs = assoc runs_of xs ys r.runs t;
}

-- what holds of each count holds of all of them

pub extra-none : (g : ℕ) (ss : List (List Op)) → ((v : Op → ℕ) → weigh_all v ss ≡ 0) → extra g ss ≡ no_extra
extra-none g ss a = λ t. record {
  leaves = a (leaves_of g) t;
  closing = a closing_of t;
  waking = a waking_of t;
  outs = a (outs_of g) t;
  detaches = a (detaches_of g) t;
  telling = a (telling_of g) t;
  taking = a (taking_of g) t;
  storing = a (storing_of g) t;
  appends = a (appends_of g) t;
  runs = a runs_of t;
}

pub extra-by : (g : ℕ) (ss ts : List (List Op)) (os : List Op) →
    ((v : Op → ℕ) → weigh_all v ss ≡ weigh v os + weigh_all v ts) → extra g ss ≡ with_extra g os (extra g ts)
extra-by g ss ts os a = λ t. record {
  leaves = a (leaves_of g) t;
  closing = a closing_of t;
  waking = a waking_of t;
  outs = a (outs_of g) t;
  detaches = a (detaches_of g) t;
  telling = a (telling_of g) t;
  taking = a (taking_of g) t;
  storing = a (storing_of g) t;
  appends = a (appends_of g) t;
  runs = a runs_of t;
}

-- what an operation counts for here, but for its entry, appends and what runs do
abbrev pub extra_row : ℕ → Op → Extra
extra_row g o = record no_extra {
  closing = closing_of o;
  waking = waking_of o;
  outs = outs_of g o;
  detaches = detaches_of g o;
  telling = telling_of g o;
  taking = taking_of g o;
  storing = storing_of g o;
}
