-- For own_queues_agree and awaiters_are_kept.
-- A run is in one call at most, and nobody polls it any more once it is ready or dropped; what stands then in its own
-- queue is on its way to the executor's.
use Rattle.std.proofs.Common.{◌≡◌, ◌⊎◌, ℕ, ◌+◌, ◌≤◌, List, [], ◌∷◌, length, true, false, refl, sym, ◌∙◌, inl, inr, ⊎_elim}
use Rattle.std.proofs.Common.{arith}
use Rattle.executor_model.specs.World.{World, Done, own_of, run_of}
use Rattle.executor_model.specs.{Doing.act, Rows.running_of, Weights.same, Weights.weigh, Weights.weigh_all}
use Rattle.executor_model.proofs.OwnQueues.Using.{Mild, emptying_of, is_for_runs, lending_of, mild-lending, mild-next}
use Rattle.executor_model.proofs.OwnQueues.Using.{mild-polling, mild-running, polling_of}
use Rattle.executor_model.proofs.{Types.Op, Types.RunPoll, Types.Hint, OwnQueues.UsingRuns.Part, OwnQueues.UsingRuns.Lessens}
use Rattle.executor_model.proofs.{OwnQueues.UsingRuns.lessens, OwnQueues.UsingWorlds.Idle, OwnQueues.UsingWorlds.is_past}

pub record Counts : Type 0 where
  pub uses : ℕ
  pub polls : ℕ
  pub empties : ℕ
  pub lends : ℕ

abbrev pub with_counts : ℕ → List Op → Counts → Counts
with_counts r os x = record {
  uses = weigh (running_of r) os + x.uses;
  polls = weigh (polling_of r) os + x.polls;
  empties = weigh (emptying_of r) os + x.empties;
  lends = weigh (lending_of r) os + x.lends;
}

abbrev pub counts : ℕ → List (List Op) → Counts
counts r ss = record {
  uses = weigh_all (running_of r) ss;
  polls = weigh_all (polling_of r) ss;
  empties = weigh_all (emptying_of r) ss;
  lends = weigh_all (lending_of r) ss;
}

pub record Used (w : World) (r : ℕ) (x : Counts) : Type 0 where
  pub once : x.uses ≤ 1
  pub unborn : length w.runs ≤ r → x.uses ≡ 0
  pub unlent : x.lends ≡ 0
  pub polled : 1 ≤ x.polls → is_past (run_of w r) ≡ false
  pub emptied : is_past (run_of w r) ≡ true → (own_of w r ≡ []) ⊎ (1 ≤ x.empties)
  pub gone : w.gone ≡ true → is_past (run_of w r) ≡ true

-- beside what else is to do
abbrev pub KeepsUsed : World → List Op → Done → Type 0
KeepsUsed w old d = (r : ℕ) (x : Counts) → x.polls ≤ x.uses → x.empties ≤ x.uses → Used w r (with_counts r old x) →
    Used d.world r (with_counts r d.next x)

-- what follows uses the run no more than what was done, and goes on to empty its queue
pub record Within (r : ℕ) (old next : List Op) : Type 0 where
  pub uses : weigh (running_of r) next ≤ weigh (running_of r) old
  pub polls : weigh (polling_of r) next ≤ weigh (polling_of r) old
  pub empties : weigh (emptying_of r) old ≤ weigh (emptying_of r) next
  pub lends : weigh (lending_of r) next ≡ 0

pub used-here : (w : World) (old : List Op) (d : Done) (r : ℕ) (x : Counts) → is_past (run_of d.world r) ≡ is_past
    (run_of w r) →
    length w.runs ≤ length d.world.runs → d.world.gone ≡ w.gone →
    (own_of w r ≡ [] → own_of d.world r ≡ []) ⊎ (1 ≤ weigh (polling_of r) old) → Within r old d.next →
    Used w r (with_counts r old x) → Used d.world r (with_counts r d.next x)
used-here w old d r x past count gone own k h = record {
  once = omega (arith, h.once, k.uses);
  unborn = λ e. omega (arith, h.unborn (omega (arith, e, count)), k.uses);
  unlent = omega (arith, h.unlent, k.lends);
  polled = λ e. past ∙ h.polled (omega (arith, e, k.polls));
  emptied = λ e. ⊎_elim
      (λ (o : own_of w r ≡ [] → own_of d.world r ≡ []). ⊎_elim (λ (y : own_of w r ≡ []). inl (o y))
      (λ (y : 1 ≤ weigh (emptying_of r) old + x.empties). inr (omega (arith, y, k.empties))) (h.emptied (sym past ∙ e)))
      (λ (o : 1 ≤ weigh (polling_of r) old).
      let no : true ≡ false = sym e ∙ (past ∙ h.polled (omega (arith, o))) in absurd (cc))
      own;
  gone = λ e. past ∙ h.gone (sym gone ∙ e);
}

pub used-stays : (w : World) (old : List Op) (d : Done) → Lessens w d.world → ((r : ℕ) → Within r old d.next) →
    KeepsUsed w old d
used-stays w old d l k r x a b h =
    used-here w old d r x (l.past r) (omega (arith, l.count)) l.gone (inl (l.own r)) (k r) h

pub used-idle : (w : World) (old : List Op) (d : Done) → Idle w d.world → ((r : ℕ) → Within r old d.next) →
    KeepsUsed w old d
used-idle w old d i k = used-stays w old d (lessens w d.world i) k

-- what uses no run

not-emptying : (r : ℕ) (o : Op) → is_for_runs o ≡ false → emptying_of r o ≡ 0
not-emptying r (Op.List o) n = absurd (cc)
not-emptying r (Op.Run o) n = absurd (cc)
not-emptying r _ n = refl

pub within-act : (r p : ℕ) (h : Hint) (o : Op) (w : World) → is_for_runs o ≡ false → Within r (o ∷ [])
    (act p h o w).next
within-act r p h o w n = record {
  uses = omega (arith, mild-next (running_of r) (mild-running r) p h o w n);
  polls = omega (arith, mild-next (polling_of r) (mild-polling r) p h o w n);
  empties = omega (arith, not-emptying r o n);
  lends = mild-next (lending_of r) (mild-lending r) p h o w n;
}

-- the parts of a poll of a run

part-running : (r : ℕ) (x : RunPoll) → Part (running_of r) x (same r x.run)
part-running r x = record {
  search = refl;
  copy = refl;
  begin = λ from t. refl;
  own_length = λ from t m. refl;
  take = λ from t m. refl;
  put = λ from t m f. refl;
  turn = refl;
  common = λ look. refl;
  look = λ at left. refl;
  own = refl;
  lock = refl;
}

part-polling : (r : ℕ) (x : RunPoll) → Part (polling_of r) x (same r x.run)
part-polling r x = record {
  search = refl;
  copy = refl;
  begin = λ from t. refl;
  own_length = λ from t m. refl;
  take = λ from t m. refl;
  put = λ from t m f. refl;
  turn = refl;
  common = λ look. refl;
  look = λ at left. refl;
  own = refl;
  lock = refl;
}

part-lending : (r : ℕ) (x : RunPoll) → Part (lending_of r) x 0
part-lending r x = record {
  search = refl;
  copy = refl;
  begin = λ from t. refl;
  own_length = λ from t m. refl;
  take = λ from t m. refl;
  put = λ from t m f. refl;
  turn = refl;
  common = λ look. refl;
  look = λ at left. refl;
  own = refl;
  lock = refl;
}

-- a part of a poll that leads to another part of it
abbrev Counted : RunPoll → List Op → Type 0
Counted x next = (v : Op → ℕ) (n : ℕ) → Mild v → Part v x n → weigh v next ≡ n

pub within-part : (r : ℕ) (x : RunPoll) (o : Op) (next : List Op) → running_of r o ≡ same r x.run →
    polling_of r o ≡ same r x.run → emptying_of r o ≡ 0 → Counted x next → Within r (o ∷ []) next
within-part r x o next a b e c = record {
  uses = omega (arith, a, c (running_of r) (same r x.run) (mild-running r) (part-running r x));
  polls = omega (arith, b, c (polling_of r) (same r x.run) (mild-polling r) (part-polling r x));
  empties = omega (arith, e);
  lends = c (lending_of r) 0 (mild-lending r) (part-lending r x);
}
