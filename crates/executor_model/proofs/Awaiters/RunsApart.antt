-- For awaiters_are_kept.
-- What a run does is no part of a poll of a handle.
use Rattle.std.proofs.Common.{◌≡◌, ℕ, ◌+◌, List, [], refl, ap}
use Rattle.std.proofs.Math.Path.{fun_ext}
use Rattle.executor_model.proofs.Types.{Hold, Op, Reply, SleeperOp}
use Rattle.executor_model.specs.{Rows.Row, Rows.handling_of, Weights.weigh}
use Rattle.executor_model.proofs.Awaiters.Awaited.{Awaiting, with_awaiting, again_of, calls_of, detaches_of, fresh_of}
use Rattle.executor_model.proofs.Awaiters.Awaited.{lending_of, looks_of, mine_of, notices_of, notifying_of, over_of, storing_of}
use Rattle.executor_model.proofs.Awaiters.Awaited.{strays_of, waits_of}
use Rattle.executor_model.proofs.Steps.RunsWays.{AllOrDropped, Unseeing, plain-of-runs}

-- of such a poll, what none of the answers counts for
record Parts : Type 0 where
  looks : ℕ
  fresh : ℕ
  storing : ℕ
  again : ℕ
  notices : ℕ
  notifying : ℕ
  mine : ℕ
  detaches : ℕ
  lending : ℕ
  strays : ℕ → ℕ
  calls : ℕ → ℕ

abbrev parts : ℕ → Op → Parts
parts g o = record {
  looks = looks_of g o;
  fresh = fresh_of g o;
  storing = storing_of g o;
  again = again_of g o;
  notices = notices_of g o;
  notifying = notifying_of g o;
  mine = mine_of g o;
  detaches = detaches_of g o;
  lending = lending_of g o;
  strays = λ k. strays_of g k o;
  calls = λ k. calls_of g k o;
}

abbrev no_parts : Parts
no_parts = parts 0 (Op.Sleeper SleeperOp.ExchangeFlag)

unseen : (part : Parts → ℕ) (g : ℕ) → part no_parts ≡ 0 → Unseeing (λ o. part (parts g o))
unseen part g z = record {
  blind = record {
    exchange = z;
    search = λ s. z;
    copy = λ s. z;
    up = λ who. z;
    made = λ r. z;
    take_up = λ f. z;
    steal = λ o. z;
    list = λ o. z;
    run = λ o. z;
    poll = λ x. z;
    end = λ a r. z;
  };
  append = λ f. z;
  leave = λ r. z;
  drop = λ r. z;
}

waits-executor : (g : ℕ) (a : Reply) → waits_of g (Op.End a Hold.Executor) ≡ 0
waits-executor g Reply.Pending = refl
waits-executor g _ = refl

waits-run : (g : ℕ) (a : Reply) (r : ℕ) → waits_of g (Op.End a (Hold.Run r)) ≡ 0
waits-run g Reply.Pending q = refl
waits-run g _ q = refl

unseen-waits : (g : ℕ) → Unseeing (waits_of g)
unseen-waits g = record {
  blind = record {
    exchange = refl;
    search = λ s. refl;
    copy = λ s. refl;
    up = λ who. refl;
    made = waits-executor g;
    take_up = λ f. refl;
    steal = λ o. refl;
    list = λ o. refl;
    run = λ o. refl;
    poll = λ x. refl;
    end = waits-run g;
  };
  append = λ f. refl;
  leave = λ r. refl;
  drop = λ r. refl;
}

over-executor : (g : ℕ) (a : Reply) → over_of g (Op.End a Hold.Executor) ≡ 0
over-executor g Reply.Ready = refl
over-executor g Reply.Cancelled = refl
over-executor g _ = refl

over-run : (g : ℕ) (a : Reply) (r : ℕ) → over_of g (Op.End a (Hold.Run r)) ≡ 0
over-run g Reply.Ready q = refl
over-run g Reply.Cancelled q = refl
over-run g _ q = refl

unseen-over : (g : ℕ) → Unseeing (over_of g)
unseen-over g = record {
  blind = record {
    exchange = refl;
    search = λ s. refl;
    copy = λ s. refl;
    up = λ who. refl;
    made = over-executor g;
    take_up = λ f. refl;
    steal = λ o. refl;
    list = λ o. refl;
    run = λ o. refl;
    poll = λ x. refl;
    end = over-run g;
  };
  append = λ f. refl;
  leave = λ r. refl;
  drop = λ r. refl;
}

-- these are no part of a poll of a handle
pub record Away (g : ℕ) (os : List Op) : Type 0 where
  pub handling : weigh (handling_of g) os ≡ 0
  pub looks : weigh (looks_of g) os ≡ 0
  pub fresh : weigh (fresh_of g) os ≡ 0
  pub storing : weigh (storing_of g) os ≡ 0
  pub again : weigh (again_of g) os ≡ 0
  pub waits : weigh (waits_of g) os ≡ 0
  pub over : weigh (over_of g) os ≡ 0
  pub notices : weigh (notices_of g) os ≡ 0
  pub notifying : weigh (notifying_of g) os ≡ 0
  pub mine : weigh (mine_of g) os ≡ 0
  pub detaches : weigh (detaches_of g) os ≡ 0
  pub lending : weigh (lending_of g) os ≡ 0
  pub strays : (k : ℕ) → weigh (strays_of g k) os ≡ 0
  pub calls : (k : ℕ) → weigh (calls_of g k) os ≡ 0

pub away : (g : ℕ) (os : List Op) → AllOrDropped os → Away g os
away g os a = record {
  handling = plain-of-runs os a (handling_of g) (λ o e. ap (λ (x : Row). x.handling g) e);
  looks = a (looks_of g) (unseen (λ x. x.looks) g refl) (λ f. refl);
  fresh = a (fresh_of g) (unseen (λ x. x.fresh) g refl) (λ f. refl);
  storing = a (storing_of g) (unseen (λ x. x.storing) g refl) (λ f. refl);
  again = a (again_of g) (unseen (λ x. x.again) g refl) (λ f. refl);
  waits = a (waits_of g) (unseen-waits g) (λ f. refl);
  over = a (over_of g) (unseen-over g) (λ f. refl);
  notices = a (notices_of g) (unseen (λ x. x.notices) g refl) (λ f. refl);
  notifying = a (notifying_of g) (unseen (λ x. x.notifying) g refl) (λ f. refl);
  mine = a (mine_of g) (unseen (λ x. x.mine) g refl) (λ f. refl);
  detaches = a (detaches_of g) (unseen (λ x. x.detaches) g refl) (λ f. refl);
  lending = a (lending_of g) (unseen (λ x. x.lending) g refl) (λ f. refl);
  strays = λ k. a (strays_of g k) (unseen (λ x. x.strays k) g refl) (λ f. refl);
  calls = λ k. a (calls_of g k) (unseen (λ x. x.calls k) g refl) (λ f. refl);
}

-- so the polls of the handle are as they were
pub same-awaiting : (g : ℕ) (os : List Op) (y : Awaiting) → Away g os → with_awaiting g os y ≡ with_awaiting g [] y
same-awaiting g os y a =
    let strays : (λ k. weigh (strays_of g k) os + y.strays k) ≡ (λ k. 0 + y.strays k) =
    fun_ext (λ k. ap (λ n. n + y.strays k) (a.strays k)) in
    let calls : (λ k. weigh (calls_of g k) os + y.calls k) ≡ (λ k. 0 + y.calls k) =
    fun_ext (λ k. ap (λ n. n + y.calls k) (a.calls k)) in
    rw (
      a.handling,
      a.looks,
      a.fresh,
      a.storing,
      a.again,
      a.waits,
      a.over,
      a.notices,
      a.notifying,
      a.mine,
      a.detaches,
      a.lending,
      strays,
      calls,
    )
    refl
