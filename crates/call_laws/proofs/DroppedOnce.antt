-- For own_futures_are_dropped_once.
-- So it is behind each step, and each list of steps.
use Rattle.std.proofs.Common.{◌≡◌, ◌∙◌, inl, inr, ⊎_elim, ℕ, zero, suc, ◌+◌, ◌<◌, ◌≤◌, List, [], ◌∷◌, ◌++◌, length, set}
use Rattle.std.proofs.Common.{Bool, true, false, ◌||◌, cond, ltb, refl, sym, ap, subst, arith, append-nil}
use Rattle.std.proofs.lemmas.Bool.Decides.{nat_tests}
use Rattle.std.specs.Prelude.{Option, Some, None, reverse}
use Rattle.executor_model.specs.Doing.{act}
use Rattle.executor_model.specs.Steps.{after, unless}
use Rattle.executor_model.specs.Steps.{Machine, answer_refusal, begin_refusal, below_top, end_of, go_refusal}
use Rattle.executor_model.specs.Steps.{gone_on, onto, react, refusal}
use Rattle.executor_model.specs.Steps.{run, settled_by, stack, start, step, step_by, stepped, top, with_part}
use Rattle.executor_model.specs.Weights.{weigh, weigh_all}
use Rattle.executor_model.specs.declared.step.Step.TheVariants.{Answer}
use Rattle.executor_model.specs.World.{Done, Ended, World}
use Rattle.executor_model.specs.World.{run_of}
use Rattle.executor_model.proofs.OwnQueues.UsingSteps.{AllUsed, all-used}
use Rattle.executor_model.proofs.OwnQueues.UsingWorlds.{is_over_stage, is_past}
use Rattle.executor_model.proofs.Steps.Lift.{none_refused, topped, weigh_all-idle}
use Rattle.executor_model.proofs.Steps.Lists.{weigh-append, weigh_all-set}
use Rattle.executor_model.proofs.Steps.Reached.{Reached}
use Rattle.executor_laws.proofs.Placement.OwnReady.{reached-on}
use Rattle.executor_laws.proofs.Reach.LoneSteps.{answers}
use Rattle.executor_laws.proofs.Reach.LoneTicks.{in-range}
use Rattle.call_laws.proofs.DroppingOwn.{is-party}
use Rattle.call_laws.proofs.Types.{Begin, Call, Go, NoSuch, Hint, Hold, Kind, Op, Reply}
use Rattle.call_laws.proofs.Types.{Step, StepError, UserEnd, UserOp}
use Rattle.call_laws.specs.OwnDrops.{OwnIsDroppedOnce, dropping_own, ends_own_drop, is_own_drop, own_drops}
use Rattle.call_laws.proofs.OwnBalance.{Balanced, Turn, balance, dropping, le-or, unlisting, unlisting_of}
use Rattle.call_laws.proofs.OwnTurns.{act-turn, begun-turn, begun_here, ends_now, react-turn}

-- where a call ends, its end is no part of it

weighs-end : (v : Op → ℕ) (s : Machine) (p : ℕ) (os : List Op) (a : Reply) (held : Hold) → p < length s.parties →
    v (Op.End a held) ≡ 0 → top os ≡ Some (Op.End a held) →
    weigh_all v (set s.parties p (below_top os)) ≡ weigh_all v (set s.parties p os)
weighs-end v s p os a held l z e = omega (
  arith,
  weigh_all-set v s.parties p os l,
  weigh_all-set v s.parties p (below_top os) l,
  ap (weigh v) (topped os (Op.End a held) e),
  weigh-append v (below_top os) (Op.End a held ∷ []),
  z,
)

balanced-end : (k r : ℕ) (s : Machine) (p : ℕ) (os : List Op) (w : World) (o : Option Op) → p < length s.parties → top os ≡ o →
    Balanced k r (record { world = w; parties = set s.parties p os }) → Balanced k r (with_part s p (settled_by (end_of o) p w os))
balanced-end k r s p os w None l e h = h
balanced-end k r s p os w (Some (Op.End a held)) l e h =
    let x = weighs-end (dropping_own r) s p os a held l refl e in
    let y = weighs-end (unlisting_of r) s p os a held l refl e in
    record {
      full = λ i z. omega (
        arith,
        x,
        h.full i (⊎_elim (λ (q : is_past (run_of w r) ≡ true). inl q)
            (λ (q : 1 ≤ weigh_all (unlisting_of r) (set s.parties p (below_top os))). inr (omega (arith, q, y))) z),
      );
      none = λ i z. omega (arith, x, h.none i (omega (arith, y, z)));
      unborn = λ i. omega (arith, x, h.unborn i);
    }
balanced-end k r s p os w (Some _) l e h = h

module _ (k r : ℕ) (s : Machine) (used : AllUsed s) (h : Balanced k r s) where
  settles : (n p : ℕ) (old rest : List Op) (d : Done) → p < length s.parties → stack s p ≡ rest ++ reverse old →
      Turn r n s d.world old d.next → Balanced (k + n) r (with_part s p (onto p d rest))
  settles n p old rest d l e t = balanced-end (k + n) r s p (rest ++ reverse d.next) d.world _ l refl
      (balance k n r s p old rest d used l e h t)

  goes : (p : ℕ) (t : Hint) (o : Option Op) → p < length s.parties → top (stack s p) ≡ o → go_refusal s.world o ≡ None →
      Balanced (k + 0) r (with_part s p (gone_on p s.world (stack s p) o (λ x. act p t x s.world)))
  goes p t None l e n = absurd (cc)
  goes p t (Some o) l e n =
      settles 0 p (o ∷ []) (below_top (stack s p)) (act p t o s.world) l (topped (stack s p) o e) (act-turn r s p t o)

  answers-so : (p : ℕ) (u : UserEnd) (o : Option Op) → p < length s.parties → top (stack s p) ≡ o → answer_refusal o u ≡ None →
      Balanced (k + ends_now r s p u o) r (with_part s p (gone_on p s.world (stack s p) o (λ x. react p x u s.world)))
  answers-so p u None l e n = absurd (cc)
  answers-so p u (Some o) l e n =
      let q : stack s p ≡ below_top (stack s p) ++ reverse (o ∷ []) = topped (stack s p) o e in
      settles (ends_now r s p u (Some o)) p (o ∷ []) (below_top (stack s p)) (react p o u s.world) l q
      (react-turn r s p o u (answers o u n) used (below_top (stack s p)) l q)

  begins-so : (p : ℕ) (c : Call) → p < length s.parties → begin_refusal s.world s.parties (top (stack s p)) c ≡ None →
      Balanced (k + 0) r (with_part s p (onto p (begun_here r s p c) (stack s p)))
  begins-so p c l n = settles 0 p [] (stack s p) (begun_here r s p c) l (sym (append-nil (stack s p)))
      (begun-turn r s p c (none_refused s.world s.parties (top (stack s p)) c n).1)

  ends-is : (p : ℕ) (u : UserEnd) → cond {A = ℕ} (ends_own_drop r s (Answer p u)) 1 0 ≡ ends_now r s p u (top (stack s p))
  ends-is p UserEnd.Done = refl
  ends-is p (UserEnd.Polled a) = refl

  taken : (t : Step) → refusal s t ≡ None → Balanced (k + cond (ends_own_drop r s t) 1 0) r (after s t)
  taken (Begin p c) e = begins-so p c (let b : ltb p (length s.parties) ≡ true = (in-range _ _ e).0 in grind (arith, nat_tests))
      (in-range _ _ e).1
  taken (Go p t) e = goes p t (top (stack s p))
      (let b : ltb p (length s.parties) ≡ true = (in-range _ _ e).0 in grind (arith, nat_tests)) refl (in-range _ _ e).1
  taken (Answer p u) e = subst (λ (n : ℕ). Balanced (k + n) r (after s (Answer p u))) (sym (ends-is p u))
      (answers-so p u (top (stack s p))
      (let b : ltb p (length s.parties) ≡ true = (in-range _ _ e).0 in grind (arith, nat_tests)) refl (in-range _ _ e).1)

  -- what ends such a drop isn't refused
  ends-free : (t : Step) → ends_own_drop r s t ≡ true → refusal s t ≡ None
  ends-free (Answer p UserEnd.Done) e = by (top (stack s p)) refl e
    where
      by : (o : Option Op) → top (stack s p) ≡ o → is_own_drop r o ≡ true → refusal s (Answer p UserEnd.Done) ≡ None
      by (Some (Op.User (UserOp.DropOwn q))) i z =
          let l : p < length s.parties = is-party s p (Op.User (UserOp.DropOwn q)) i in
          let b : ltb p (length s.parties) ≡ true = grind (arith, nat_tests) in
          ap (λ (c : Bool). unless c NoSuch (answer_refusal (top (stack s p)) UserEnd.Done)) b
          ∙ ap (λ (x : Option Op). answer_refusal x UserEnd.Done) i
      by (Some _) i z = absurd (cc)
      by None i z = absurd (cc)
  ends-free _ e = absurd (cc)

  stepped-by : (t : Step) (q : Option StepError) → refusal s t ≡ q →
      Balanced (k + cond (ends_own_drop r s t) 1 0) r (stepped s (step_by q s t))
  stepped-by t None e = taken t e
  stepped-by t (Some error) e = by (ends_own_drop r s t) refl
    where
      by : (b : Bool) → ends_own_drop r s t ≡ b → Balanced (k + cond b 1 0) r s
      by false z = subst (λ (n : ℕ). Balanced n r s) (let i : k ≡ k + 0 = omega arith in i) h
      by true z = absurd (let no : Some error ≡ None = sym e ∙ ends-free t z in cc)

  one-step : (t : Step) → Balanced (k + cond (ends_own_drop r s t) 1 0) r (stepped s (step s t))
  unfolding step
  one-step t = stepped-by t (refusal s t) refl

used-here : (s : Machine) → Reached s → AllUsed s
used-here s x = subst AllUsed (sym x.is) (all-used x.limit x.kind x.parties x.steps)

all-steps : (ts : List Step) (k r : ℕ) (s : Machine) → Reached s → Balanced k r s → Balanced (k + own_drops r ts s) r (run ts s)
all-steps [] k r s x h = subst (λ (n : ℕ). Balanced n r s) (let i : k ≡ k + 0 = omega arith in i) h
all-steps (t ∷ ts) k r s x h =
    subst (λ (n : ℕ). Balanced n r (run ts (stepped s (step s t))))
    (let i : k + cond (ends_own_drop r s t) 1 0 + own_drops r ts (stepped s (step s t))
    ≡ k + (cond (ends_own_drop r s t) 1 0 + own_drops r ts (stepped s (step s t))) = omega arith in i)
    (all-steps ts (k + cond (ends_own_drop r s t) 1 0) r (stepped s (step s t)) (reached-on s (t ∷ []) x)
    (one-step k r s (used-here s x) h t))

at-first : (limit : ℕ) (kind : Kind) (n r : ℕ) → Balanced 0 r (start limit kind n)
at-first limit kind n r = record {
  full = λ i x. absurd (omega (arith, i));
  none = λ x y. absurd (let no : true ≡ false = x in cc);
  unborn = λ i. omega (arith, weigh_all-idle (dropping_own r) n);
}

pub dropped-once : (limit : ℕ) (kind : Kind) (parties : ℕ) (steps : List Step) (r : ℕ) → OwnIsDroppedOnce limit kind parties steps r
dropped-once limit kind parties steps r =
    let first : Machine = start limit kind parties in
    let s : Machine = run steps first in
    let h : Balanced (own_drops r steps first) r s = subst (λ (n : ℕ). Balanced n r s)
    (let i : 0 + own_drops r steps first ≡ own_drops r steps first = omega arith in i)
    (all-steps steps 0 r first
    (record { limit = limit; kind = kind; parties = parties; steps = []; is = refl }) (at-first limit kind parties r)) in
    record {
      at_most = most (own_drops r steps first) s h;
      once = λ i x. h.full i (inl (⊎_elim
          (λ (y : (run_of s.world r).stage ≡ Ended). λ t. or-over (run_of s.world r).dropped (is_over_stage (run_of s.world r).stage)
          (ap is_over_stage y) t)
          (λ (y : (run_of s.world r).dropped ≡ true). λ t. y t || is_over_stage (run_of s.world r).stage) x));
    }
  where
    or-over : (a b : Bool) → b ≡ true → (a || b) ≡ true
    or-over true b e = refl
    or-over false b e = e

    most : (k : ℕ) (s : Machine) → Balanced k r s → k + dropping r s ≤ 1
    most k s h = ⊎_elim
        (λ (i : r < length s.world.runs). by i (is_past (run_of s.world r)) (unlisting r s) refl refl)
        (λ (i : length s.world.runs ≤ r). omega (arith, h.unborn i))
        (le-or r (length s.world.runs))
      where
        by : r < length s.world.runs → (b : Bool) (n : ℕ) → is_past (run_of s.world r) ≡ b → unlisting r s ≡ n → k + dropping r s ≤ 1
        by i true n x y = omega (arith, h.full i (inl x))
        by i false (suc n) x y = omega (arith, h.full i (inr (omega (arith, y))))
        by i false zero x y = omega (arith, h.none x y)
