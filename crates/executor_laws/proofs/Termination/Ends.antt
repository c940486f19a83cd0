-- For calls_end and lone_calls_end.
-- Calls end: each step that begins none lowers the steps that remain, and a party that has something to do can go on.
use Rattle.std.proofs.Common.{◌≡◌, ℕ, ◌+◌, ◌*◌, ◌<◌, ◌≤◌, List, [], ◌∷◌, ◌++◌, length, set, Bool, true, false, ◌&&◌, ◌||◌}
use Rattle.std.proofs.Common.{get_or, not, ltb, refl, ap, ⊎_elim, arith, Ok, Err, Result}
use Rattle.std.specs.Prelude.{Option, Some, None, reverse}
use Rattle.std.{proofs.Math.Nat.add-mul, proofs.lemmas.Bool.Decides.nat_tests, proofs.lemmas.Nat.mul-le}
use Rattle.task_moves.specs.Moves.{is_over}
use Rattle.executor_laws.proofs.Types.{UserEnd, Event, Kind, Op, UserOp, Move, Hint, Step, Begin, Go, StepError, NoSuch}
use Rattle.executor_model.specs.declared.step.Step.TheVariants.{Answer}
use Rattle.executor_model.specs.Steps.{Machine, stack, top, below_top, waits, go_refusal, answer_refusal, accepts, unless}
use Rattle.executor_model.specs.Steps.{refusal, react, end_of, settled_by, gone_on, with_part, after, step_by, step, run, start}
use Rattle.executor_model.specs.Rows.{closing_of, running_of, settling_of}
use Rattle.executor_model.specs.{World.World, World.Done, World.task, Doing.act, Weights.weigh, Weights.weigh_all, Good.Good}
use Rattle.executor_model.specs.{Good.Needs, OwnQueues.IsUsedOnce, Executions.run_all}
use Rattle.executor_laws.specs.Remaining.{steps_kept, remaining, is_onward, are_onward, LowersRemaining, EachStepLowers}
use Rattle.executor_laws.specs.Remaining.{EndsWithin, EachListEnds, queues_of, steps_left}
use Rattle.executor_laws.specs.Costs.{left_by, registers_of, steps_of, walk_of}
use Rattle.executor_model.proofs.Steps.Lists.{same_is, weigh_all-push, weigh_all-set, weigh-append}
use Rattle.executor_model.proofs.OwnQueues.RunsAside.{apart-act, is_run, unseen}
use Rattle.executor_model.proofs.Steps.Reached.{Reached, good-here, reached-step}
use Rattle.executor_model.proofs.{Steps.Needing.needs, Steps.Lift.split, Steps.Lift.topped}
use Rattle.executor_laws.proofs.Termination.Beside.{Beside, beside-act, beside-react, left-all, left-others}
use Rattle.executor_laws.proofs.Termination.SpendingGroups.{Settles, spends-act, spends-react}
use Rattle.executor_laws.proofs.Termination.SpendingRuns.{CanPay, Pays, pays-list, pays-run, pays-steal, unleft, unwalked}
use Rattle.executor_laws.proofs.Termination.Reached.{can-pay, used-here}
use Rattle.executor_laws.proofs.Termination.SpendingRuns.Pays.{spends, walks}
use Rattle.executor_laws.proofs.{Types.WrongAnswer, Termination.Spending.kept-log, Termination.PayingTicks.pays-tick}
use Rattle.executor_model.specs.declared.event.Answer.TheVariants as answer

-- the end of a call takes no more

fewer-settled : (v : Op → ℕ) (s : Machine) (p : ℕ) (w : World) (os : List Op) (o : Option Op) → p < length s.parties →
    top os ≡ o → weigh_all v (with_part s p (settled_by (end_of o) p w os)).parties ≤ weigh_all v (set s.parties p os)
fewer-settled v s p w os None l e = omega arith
fewer-settled v s p w os (Some (Op.End a held)) l e = omega (
  arith,
  weigh_all-set v s.parties p os l,
  weigh_all-set v s.parties p (below_top os) l,
  ap (weigh v) (topped os (Op.End a held) e),
  weigh-append v (below_top os) (Op.End a held ∷ []),
)
fewer-settled v s p w os (Some _) l e = omega arith

kept-settled : (p : ℕ) (w : World) (os : List Op) (o : Option Op) →
    steps_kept (settled_by (end_of o) p w os).world ≡ steps_kept w
kept-settled p w os None = refl
kept-settled p w os (Some (Op.End a held)) = kept-log w (Event.CallEnded p a)
kept-settled p w os (Some _) = refl

own-settled : (p : ℕ) (w : World) (os : List Op) (o : Option Op) →
    (settled_by (end_of o) p w os).world.own ≡ w.own
own-settled p w os None = refl
own-settled p w os (Some (Op.End a held)) = refl
own-settled p w os (Some _) = refl

listed-settled : (p : ℕ) (w : World) (os : List Op) (o : Option Op) →
    (settled_by (end_of o) p w os).world.listed ≡ w.listed
listed-settled p w os None = refl
listed-settled p w os (Some (Op.End a held)) = refl
listed-settled p w os (Some _) = refl

-- a number that is a product and a rest gets lower

lower-by : (a b c d q r : ℕ) → b + 1 ≤ a → d ≤ c → r < q + c → b * d + r < a * c + q
lower-by a b c d q r h i j = omega (
  arith,
  j,
  mul-le b d b c (omega arith) i,
  mul-le (b + 1) c a c h (omega arith),
  add-mul b 1 c,
  (let one : 1 * c ≡ c = omega arith in one),
)

same-by : (a b c d q r : ℕ) → b ≤ a → d ≤ c → r < q → b * d + r < a * c + q
same-by a b c d q r h i j = omega (arith, j, mul-le b d a c h i)

module _ (s : Machine) (p : ℕ) (o : Op) (d : Done) (l : p < length s.parties) (e : top (stack s p) ≡ Some o)
    (b : Beside s.world o d) (once : (r : ℕ) → IsUsedOnce s r) where
  abbrev os : List Op
  os = below_top (stack s p) ++ reverse d.next

  abbrev others : List (List Op)
  others = set s.parties p (below_top (stack s p))

  abbrev now : Machine
  now = with_part s p (settled_by (end_of (top os)) p d.world os)

  before : (v : Op → ℕ) → weigh_all v s.parties ≡ v o + weigh_all v others
  before v = omega (arith, split v s.parties p (o ∷ []) (below_top (stack s p)) l (topped _ o e))

  behind : (v : Op → ℕ) → weigh_all v now.parties ≤ weigh v d.next + weigh_all v others
  behind v = omega (
    arith,
    fewer-settled v s p d.world os _ l refl,
    weigh_all-push v s.parties p (below_top (stack s p)) d.next l,
  )

  fewer-queues : queues_of now ≤ queues_of s
  fewer-queues = omega (
    arith,
    b.queues,
    before registers_of,
    behind registers_of,
    ap (λ (xs : List ℕ). length xs) (listed-settled p d.world os (top os)),
  )

  fewer-left : weigh_all (left_by now.world) now.parties
      ≤ weigh (left_by d.world) d.next + weigh_all (left_by s.world) others
  fewer-left = omega (
    arith,
    left-all d.world now.world now.parties
        (λ r n. omega (arith, ap (λ (qs : List (List ℕ)). length (get_or qs r [])) (own-settled p d.world os (top os)))),
    behind (left_by d.world),
    left-others s.world o d others b (λ r. omega (arith, once r, before (running_of r))),
  )

  less-onto : Pays s.world o d → remaining now < remaining s
  less-onto (spends h k) = lower-by (steps_left s) (steps_left now) (1100 * (queues_of s + 1))
      (1100 * (queues_of now + 1)) (weigh_all walk_of s.parties) (weigh_all walk_of now.parties)
      (omega (
        arith,
        h,
        kept-settled p d.world os (top os),
        before steps_of,
        behind steps_of,
        before (left_by s.world),
        fewer-left,
      ))
      (omega (arith, fewer-queues))
      (omega (arith, k, before walk_of, behind walk_of))
  less-onto (walks h k) = same-by (steps_left s) (steps_left now) (1100 * (queues_of s + 1))
      (1100 * (queues_of now + 1)) (weigh_all walk_of s.parties) (weigh_all walk_of now.parties)
      (omega (
        arith,
        h,
        kept-settled p d.world os (top os),
        before steps_of,
        behind steps_of,
        before (left_by s.world),
        fewer-left,
      ))
      (omega (arith, fewer-queues))
      (omega (arith, k, before walk_of, behind walk_of))

pub goes : (w : World) (o : Op) → go_refusal w (Some o) ≡ None → waits o ≡ false
goes w o k = by (waits o) _ k
  where
    by : (b : Bool) (r : Option StepError) → unless (not b) WrongAnswer r ≡ None → b ≡ false
    by true r q = absurd (cc)
    by false r q = refl

pub answers : (o : Op) (e : UserEnd) → answer_refusal (Some o) e ≡ None → accepts o e ≡ true
answers o e k = by (accepts o e) k
  where
    by : (b : Bool) → unless b WrongAnswer None ≡ None → b ≡ true
    by true q = refl
    by false q = absurd (cc)

-- a task that a run or a closing call settles last of all is over
settled-over : (s : Machine) (p f : ℕ) (o : Op) → p < length s.parties → top (stack s p) ≡ Some o → Good s →
    1 ≤ closing_of f o + settling_of f o → is_over (task s.world f) ≡ true
settled-over s p f o l e good k =
    let t : stack s p ≡ below_top (stack s p) ++ o ∷ [] = topped (stack s p) o e in
    ⊎_elim
    (λ (x : (task s.world f).closed ≡ true). over-closed (task s.world f).completed (task s.world f).closed x)
    (λ (x : (task s.world f).completed ≡ true). ap (λ (b : Bool). b || (task s.world f).closed) x)
    ((good.sound f).ends (omega (
      arith,
      k,
      split (closing_of f) s.parties p (o ∷ []) (below_top (stack s p)) l t,
      split (settling_of f) s.parties p (o ∷ []) (below_top (stack s p)) l t,
    )))
  where
    over-closed : (c x : Bool) → x ≡ true → (c || x) ≡ true
    over-closed true x e = refl
    over-closed false x e = e

settles : (s : Machine) (p : ℕ) (o : Op) → p < length s.parties → top (stack s p) ≡ Some o → Good s → Settles s.world o
settles s p (Op.Move Move.SettleClosed f) l e good =
    settled-over s p f (Op.Move Move.SettleClosed f) l e good (grind (arith, same_is))
settles s p (Op.Move Move.EndClosed f) l e good =
    settled-over s p f (Op.Move Move.EndClosed f) l e good (grind (arith, same_is))
settles s p _ l e good = tt

-- what speaks of no run pays a step, and begins no walk
pays-apart : (p : ℕ) (h : Hint) (o : Op) (w : World) → is_run o ≡ false → waits o ≡ false → Needs w o → Settles w o →
    Pays w o (act p h o w)
pays-apart p h o w r n l k =
    let d : Done = act p h o w in
    let x = apart-act p h o w r in
    spends (omega (arith, spends-act p h o w n r l k, unseen (left_by d.world) (unleft d.world) d.next x.runs))
    (omega (arith, unseen walk_of unwalked d.next x.runs))

pays-by : (p : ℕ) (h : Hint) (o : Op) (w : World) (b : Bool) → is_run o ≡ b → waits o ≡ false → Needs w o →
    Settles w o → CanPay w o → Pays w o (act p h o w)
pays-by p h o w false r n l k c = pays-apart p h o w r n l k
pays-by p h (Op.Tick o) w true r n l k c = pays-tick p h o w l c
pays-by p h (Op.List o) w true r n l k c = pays-list h o w c
pays-by p h (Op.Steal o) w true r n l k c = pays-steal p o w c
pays-by p h (Op.Run o) w true r n l k c = pays-run p h o w l c
pays-by p h (Op.User (UserOp.PollOwn x)) w true r n l k c = absurd (cc)
pays-by p h _ w true r n l k c = absurd (cc)

pays-react : (p : ℕ) (o : Op) (u : UserEnd) (w : World) → accepts o u ≡ true → Pays w o (react p o u w)
pays-react p (Op.User (UserOp.Poll f)) (UserEnd.Polled answer.Pending) w a =
    spends (omega (arith, spends-react p (Op.User (UserOp.Poll f)) (UserEnd.Polled answer.Pending) w a)) (omega arith)
pays-react p (Op.User (UserOp.Poll f)) (UserEnd.Polled answer.Ready) w a =
    spends (omega (arith, spends-react p (Op.User (UserOp.Poll f)) (UserEnd.Polled answer.Ready) w a)) (omega arith)
pays-react p (Op.User (UserOp.Drop f)) UserEnd.Done w a = spends (omega arith) (omega arith)
pays-react p (Op.User (UserOp.DropOutput f)) UserEnd.Done w a = spends (omega arith) (omega arith)
pays-react p (Op.User (UserOp.CallOutside x)) UserEnd.Done w a = spends (omega arith) (omega arith)
pays-react p (Op.User (UserOp.PollOwn x)) (UserEnd.Polled answer.Pending) w a = spends (omega arith) (omega arith)
pays-react p (Op.User (UserOp.PollOwn x)) (UserEnd.Polled answer.Ready) w a = spends (omega arith) (omega arith)
pays-react p (Op.User (UserOp.DropOwn r)) UserEnd.Done w a = spends (omega arith) (omega arith)
pays-react p _ _ w a = absurd (cc)

less-go : (s : Machine) (p : ℕ) (h : Hint) (o : Option Op) → Reached s → p < length s.parties → top (stack s p) ≡ o →
    go_refusal s.world o ≡ None →
    remaining (with_part s p (gone_on p s.world (stack s p) o (λ x. act p h x s.world))) < remaining s
less-go s p h None i l e k = absurd (cc)
less-go s p h (Some o) i l e k =
    let good : Good s = good-here s i in
    less-onto s p o (act p h o s.world) l e (beside-act p h o s.world) (used-here s i)
    (pays-by p h o s.world (is_run o) refl (goes s.world o k) (needs s p o l e good) (settles s p o l e good)
    (can-pay s p o l e i))

less-answer : (s : Machine) (p : ℕ) (u : UserEnd) (o : Option Op) → Reached s → p < length s.parties →
    top (stack s p) ≡ o →
    answer_refusal o u ≡ None → remaining (with_part s p (gone_on p s.world (stack s p) o (λ x. react p x u s.world)))
    < remaining s
less-answer s p u None i l e k = absurd (cc)
less-answer s p u (Some o) i l e k =
    less-onto s p o (react p o u s.world) l e (beside-react p o u s.world (answers o u k)) (used-here s i)
    (pays-react p o u s.world (answers o u k))

there : (b : Bool) (r : Option StepError) → unless b NoSuch r ≡ None → (b ≡ true) × (r ≡ None)
there true r e = (refl, e)
there false r e = absurd (cc)

pub lowers : (s : Machine) → Reached s → (t : Step) → LowersRemaining s t
lowers s i (Begin p c) o k = absurd (cc)
lowers s i (Go p h) o k =
    let x : _ = there (ltb p (length s.parties)) (go_refusal s.world (top (stack s p))) k in
    less-go s p h _ i (grind (arith, nat_tests)) refl x.1
lowers s i (Answer p u) o k =
    let x : _ = there (ltb p (length s.parties)) (answer_refusal (top (stack s p)) u) k in
    less-answer s p u _ i (grind (arith, nat_tests)) refl x.1

both : (a b : Bool) → (a && b) ≡ true → (a ≡ true) × (b ≡ true)
both true b e = (refl, e)
both false b e = absurd (cc)

ends-by : (r : Option StepError) (s : Machine) (t : Step) (ts : List Step) (new : Machine) → Reached s →
    refusal s t ≡ r →
    are_onward (t ∷ ts) ≡ true →
    ◌≡◌ {A = Result Machine StepError} (elim (step_by r s t) [ Ok next ↦ run_all ts next | Err error ↦ Err error ])
    (Ok new) →
    ((next : Machine) → Reached next → EndsWithin next ts) → length (t ∷ ts) ≤ remaining s
ends-by (Some error) s t ts new r k o q more = absurd (cc)
ends-by None s t ts new r k o q more = omega (
  arith,
  lowers s r t (both (is_onward t) (are_onward ts) o).0 k,
  more (after s t) (reached-step s t k r) new (both (is_onward t) (are_onward ts) o).1 q,
)

pub ends : (ts : List Step) (s : Machine) → Reached s → EndsWithin s ts
unfolding step
ends [] s r new o e = omega arith
ends (t ∷ ts) s r new o e = ends-by (refusal s t) s t ts new r refl o e (λ next i. ends ts next i)

-- of each machine that steps of a new one lead to

here : (limit : ℕ) (kind : Kind) (parties : ℕ) (steps : List Step) → Reached (run steps (start limit kind parties))
here limit kind parties steps = record { limit = limit; kind = kind; parties = parties; steps = steps; is = refl }

pub every-step-lowers : (limit : ℕ) (kind : Kind) (parties : ℕ) (steps : List Step) → EachStepLowers (run steps (start limit kind parties))
every-step-lowers limit kind parties steps t =
    lowers (run steps (start limit kind parties)) (here limit kind parties steps) t

pub every-list-ends : (limit : ℕ) (kind : Kind) (parties : ℕ) (steps : List Step) → EachListEnds (run steps (start limit kind parties))
every-list-ends limit kind parties steps ts = ends ts (run steps (start limit kind parties)) (here limit kind parties steps)
