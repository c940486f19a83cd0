-- For all laws.
-- A step leaves a good machine good.
pub use Rattle.executor_model.proofs.Steps.Growing.{KeepsHere, pend-none, push-pend, split, split-pend}
pub use Rattle.executor_model.proofs.Steps.Begins.{first-true, handle-known, kept-used, none_refused, open_executor, unborrowed}
pub use Rattle.executor_model.proofs.Steps.Begins.{unused}
use Rattle.std.proofs.Common.{◌≡◌, ℕ, zero, suc, ◌+◌, ◌-◌, ◌<◌, List, [], ◌∷◌, ◌++◌, length, set, get_or, take, Bool, true}
use Rattle.std.proofs.Common.{false, ltb, refl, sym, ap, ◌∙◌, subst, arith, append-nil, get_or-set_same}
use Rattle.std.specs.Prelude.{Option, Some, None, slice_get, reverse}
use Rattle.std.{proofs.Math.ListN.length-set, proofs.lemmas.Bool.Decides.nat_tests}
use Rattle.executor_model.proofs.Types.{Kind, Call, Event, Waker, Task, Op, UserOp, Hint, Step, Begin, Go, StepError, NoSuch}
use Rattle.executor_model.specs.declared.step.Step.TheVariants.{Answer}
use Rattle.executor_model.specs.Steps.{Machine, stack, top, below_top, mine, unless, begin_refusal, answer_refusal, accepts}
use Rattle.executor_model.specs.Steps.{party_of, part_refusal, refusal, begun, react, end_of, settled_by, onto, gone_on}
use Rattle.executor_model.specs.Steps.{part_after, with_part, after, step_by, step, stepped, run, idle, start}
use Rattle.executor_model.specs.{World.World, World.Done, World.done, World.log, Doing.act, Weights.weigh, Weights.weigh_all}
use Rattle.executor_model.specs.{Weights.waker_past, Sound.Sound, Sound.pend, Good.Good, Rows.past_of}
use Rattle.executor_model.proofs.Counts.CountingHandles.{sound-pending, sound-ready}
use Rattle.executor_model.proofs.{Types.WrongAnswer, Types.UserEnd, Steps.Lists.weigh_all-push, Counts.Counting.Keeps}
use Rattle.executor_model.proofs.{Counts.SoundAll.sound-act, Counts.Fitting.Grown, Counts.Fitting.Grows}
use Rattle.executor_model.proofs.{Counts.FittingActs.grows-act, Counts.FittingSound.fits-sound, OneFuture.Views.none}
use Rattle.executor_model.proofs.{Steps.Growing.more-all, Steps.Begins.begins, Steps.Begins.sound-begun}
use Rattle.executor_model.specs.declared.event.Answer.TheVariants as answer

-- the machine, with this for p to do on top of the rest
abbrev pub unsettled : Machine → ℕ → List Op → Done → Machine
unsettled s p rest d = record { world = d.world; parties = set s.parties p (rest ++ reverse d.next) }

good-unsettled : (s : Machine) (p : ℕ) (old rest : List Op) (d : Done) → p < length s.parties →
    stack s p ≡ rest ++ reverse old → KeepsHere s.world old d (set s.parties p rest) → Grows s.world old d → Good s →
    Good (unsettled s p rest d)
good-unsettled s p old rest d h e keeps grows good =
    let n = length s.world.tasks in
    let z : weigh_all (past_of n) s.parties ≡ weigh (past_of n) old + weigh_all (past_of n) (set s.parties p rest) =
    split (past_of n) s.parties p old rest h e in
    let g : Grown s.world d = grows good.fits (omega (arith, z, good.ops)) in
    let m = length d.world.tasks in
    let sound : (f : ℕ) → Sound d.world f (pend f (set s.parties p (rest ++ reverse d.next))) = λ f.
    subst (Sound d.world f) (sym (push-pend f s.parties p rest d.next h))
    (keeps f (subst (Sound s.world f) (split-pend f s.parties p old rest h e) (good.sound f))) in
    record {
      fits = fits-sound d.world (λ f. pend f (set s.parties p (rest ++ reverse d.next))) sound g.fits;
      ops =
          omega (
            arith,
            weigh_all-push (past_of m) s.parties p rest d.next h,
            g.next,
            more-all n m g.more (set s.parties p rest) (omega (arith, z, good.ops)),
          );
      sound = sound;
    }

-- the end of a call is one thing more

abbrev pub no_hint : Hint
no_hint = record { refused = false; same = false; start = 0 }

last_split : (n : ℕ) (os : List Op) (o : Op) → length os ≡ suc n → slice_get os n ≡ Some o → os ≡ take n os ++ o ∷ []
last_split n [] o l e = absurd (omega arith)
last_split zero (x ∷ []) o l e = let q : x ≡ o = cc in ap (λ (y : Op). y ∷ []) q
last_split zero (x ∷ y ∷ ys) o l e = absurd (omega arith)
last_split (suc n) (x ∷ ys) o l e = ap (λ (zs : List Op). x ∷ zs) (last_split n ys o (omega arith) e)

pub topped : (os : List Op) (o : Op) → top os ≡ Some o → os ≡ below_top os ++ o ∷ []
topped [] o e = absurd (cc)
topped (x ∷ xs) o e = last_split (length (x ∷ xs) - 1) (x ∷ xs) o (omega arith) e

set-set : (ss : List (List Op)) (p : ℕ) (x y : List Op) → set (set ss p x) p y ≡ set ss p y
set-set [] p x y = refl
set-set (s ∷ ss) zero x y = refl
set-set (s ∷ ss) (suc p) x y = ap (λ (l : List (List Op)). s ∷ l) (set-set ss p x y)

good-end : (s : Machine) (p : ℕ) (os : List Op) (w : World) (o : Option Op) → p < length s.parties → top os ≡ o →
    Good (record { world = w; parties = set s.parties p os }) → Good (with_part s p (settled_by (end_of o) p w os))
good-end s p os w None h e good = good
good-end s p os w (Some (Op.End a held)) h e good =
    let t : Machine = record { world = w; parties = set s.parties p os } in
    let l : p < length t.parties = omega (arith, h, length-set s.parties p os) in
    let q : stack t p ≡ below_top os ++ reverse (Op.End a held ∷ []) = get_or-set_same s.parties p os [] h
    ∙ topped os (Op.End a held) e in
    let d : Done = done (log w (Event.CallEnded p a)) [] in
    let k : Good (unsettled t p (below_top os) d) =
    good-unsettled t p (Op.End a held ∷ []) (below_top os) d l q
    (λ g. sound-act p no_hint (Op.End a held) w good.fits.awaiting good.fits.waking refl g _)
    (grows-act p no_hint (Op.End a held) w) good in
    subst (λ (ss : List (List Op)). Good (record { world = log w (Event.CallEnded p a); parties = ss }))
    (ap (set (set s.parties p os) p) (append-nil (below_top os)) ∙ set-set s.parties p os (below_top os)) k
good-end s p os w (Some _) h e good = good

pub set-own : (ss : List (List Op)) (p : ℕ) → p < length ss → set ss p (get_or ss p []) ≡ ss
set-own [] p h = refl
set-own (s ∷ ss) zero h = refl
set-own (s ∷ ss) (suc p) h = ap (λ (l : List (List Op)). s ∷ l) (set-own ss p (omega (arith, h)))

pub good-onto : (s : Machine) (p : ℕ) (old rest : List Op) (d : Done) → p < length s.parties →
    stack s p ≡ rest ++ reverse old → KeepsHere s.world old d (set s.parties p rest) → Grows s.world old d → Good s →
    Good (with_part s p (onto p d rest))
good-onto s p old rest d h e keeps grows good =
    good-end s p (rest ++ reverse d.next) d.world _ h refl (good-unsettled s p old rest d h e keeps grows good)

-- the step of a party that goes on

good-go : (s : Machine) (p : ℕ) (h : Hint) (o : Option Op) → p < length s.parties → top (stack s p) ≡ o → Good s →
    Good (with_part s p (gone_on p s.world (stack s p) o (λ x. act p h x s.world)))
good-go s p h None l e good = subst (λ (ss : List (List Op)). Good (record { world = s.world; parties = ss }))
    (sym (set-own s.parties p l)) good
good-go s p h (Some o) l e good =
    let q : stack s p ≡ below_top (stack s p) ++ reverse (o ∷ []) = topped _ o e in
    let z : weigh (past_of (length s.world.tasks)) (o ∷ []) ≡ 0 =
    omega (arith, good.ops, split (past_of (length s.world.tasks)) s.parties p (o ∷ []) (below_top (stack s p)) l q) in
    good-onto s p (o ∷ []) (below_top (stack s p)) (act p h o s.world) l q
    (λ g. sound-act p h o s.world good.fits.awaiting good.fits.waking z g _) (grows-act p h o s.world) good

-- the end of user code

grows-react : (p : ℕ) (o : Op) (e : UserEnd) (w : World) → accepts o e ≡ true → Grows w (o ∷ []) (react p o e w)
grows-react p (Op.User (UserOp.Poll f)) (UserEnd.Polled answer.Pending) w a h k = grind arith
grows-react p (Op.User (UserOp.Poll f)) (UserEnd.Polled answer.Ready) w a h k = grind arith
grows-react p (Op.User (UserOp.Drop f)) UserEnd.Done w a h k = grind arith
grows-react p (Op.User (UserOp.DropOutput f)) UserEnd.Done w a h k = grind arith
grows-react p (Op.User (UserOp.CallOutside x)) UserEnd.Done w a h k = grind arith
grows-react p (Op.User (UserOp.PollOwn x)) (UserEnd.Polled answer.Pending) w a h k = grind arith
grows-react p (Op.User (UserOp.PollOwn x)) (UserEnd.Polled answer.Ready) w a h k = grind arith
grows-react p (Op.User (UserOp.DropOwn r)) UserEnd.Done w a h k = grind arith
grows-react p _ _ w a h k = absurd (cc)

keeps-react : (p : ℕ) (o : Op) (e : UserEnd) (w : World) → accepts o e ≡ true → Keeps w (o ∷ []) (react p o e w)
keeps-react p (Op.User (UserOp.Poll f)) (UserEnd.Polled answer.Pending) w a g r h = sound-pending p w f g r h
keeps-react p (Op.User (UserOp.Poll f)) (UserEnd.Polled answer.Ready) w a g r h = sound-ready p w f g r h
keeps-react p (Op.User (UserOp.Drop f)) UserEnd.Done w a g r h = h
keeps-react p (Op.User (UserOp.DropOutput f)) UserEnd.Done w a g r h = h
keeps-react p (Op.User (UserOp.CallOutside x)) UserEnd.Done w a g r h = h
keeps-react p (Op.User (UserOp.PollOwn x)) (UserEnd.Polled answer.Pending) w a g r h = h
keeps-react p (Op.User (UserOp.PollOwn x)) (UserEnd.Polled answer.Ready) w a g r h = h
keeps-react p (Op.User (UserOp.DropOwn r)) UserEnd.Done w a g s h = h
keeps-react p _ _ w a g r h = absurd (cc)

accepted : (b : Bool) → unless b WrongAnswer None ≡ None → b ≡ true
accepted true e = refl
accepted false e = absurd (cc)

good-answer : (s : Machine) (p : ℕ) (e : UserEnd) (o : Option Op) → p < length s.parties → top (stack s p) ≡ o →
    answer_refusal o e ≡ None → Good s →
    Good (with_part s p (gone_on p s.world (stack s p) o (λ x. react p x e s.world)))
good-answer s p e None l q n good = absurd (cc)
good-answer s p e (Some o) l q n good =
    let a : accepts o e ≡ true = accepted (accepts o e) n in
    good-onto s p (o ∷ []) (below_top (stack s p)) (react p o e s.world) l (topped _ o q)
    (λ g. keeps-react p o e s.world a g _) (grows-react p o e s.world a) good

here-known : (s : Machine) (p : ℕ) (o : Option Op) → p < length s.parties → top (stack s p) ≡ o → Good s → (a : Waker) →
    mine o ≡ Some a → waker_past (length s.world.tasks) a ≡ 0
here-known s p (Some (Op.User (UserOp.PollOwn x))) h e good a q =
    let same_one : x.waker ≡ a = cc in
    rw (sym same_one) (omega (
      arith,
      good.ops,
      split (past_of (length s.world.tasks)) s.parties p (Op.User (UserOp.PollOwn x) ∷ [])
          (below_top (stack s p)) h (topped _ (Op.User (UserOp.PollOwn x)) e),
    ))
here-known s p (Some (Op.User (UserOp.Poll f))) h e good a q =
    let same_one : Task f ≡ a = cc in
    rw (sym same_one) (omega (
      arith,
      good.ops,
      split (past_of (length s.world.tasks)) s.parties p (Op.User (UserOp.Poll f) ∷ [])
          (below_top (stack s p)) h (topped _ (Op.User (UserOp.Poll f)) e),
    ))
here-known s p (Some _) h e good a q = absurd (cc)
here-known s p None h e good a q = absurd (cc)

good-begin : (s : Machine) (p : ℕ) (c : Call) → p < length s.parties →
    begin_refusal s.world s.parties (top (stack s p)) c ≡ None → Good s →
    Good (with_part s p (part_after s.world (stack s p) (Begin p c)))
good-begin s p c l n good =
    let f : _ = none_refused s.world s.parties (top (stack s p)) c n in
    let own : set s.parties p (stack s p) ≡ s.parties = set-own s.parties p l in
    good-onto s p [] (stack s p) (begun p (log s.world (Event.CallBegun p c)) (mine (top (stack s p))) c) l
    (sym (append-nil (stack s p)))
    (sound-begun s.world p s.parties (set s.parties p (stack s p)) (mine (top (stack s p))) c
    (λ v. omega (arith, ap (weigh_all v) own)) f.2 f.4 (unused c s.world s.parties f.3))
    (begins s.world p s.parties (top (stack s p)) (mine (top (stack s p))) c
    (here-known s p (top (stack s p)) l refl good) f.1) good

-- every step

good-part : (s : Machine) (t : Step) → party_of t < length s.parties →
    part_refusal s.world s.parties (stack s (party_of t)) t ≡ None → Good s → Good (after s t)
good-part s (Begin p c) l n good = good-begin s p c l n good
good-part s (Go p h) l n good = good-go s p h (top (stack s p)) l refl good
good-part s (Answer p e) l n good = good-answer s p e (top (stack s p)) l refl n good

there : (b : Bool) (r : Option StepError) → unless b NoSuch r ≡ None → (b ≡ true) × (r ≡ None)
there true r e = (refl, e)
there false r e = absurd (cc)

-- what a step that is possible leads to is good
pub good-after : (s : Machine) (t : Step) → refusal s t ≡ None → Good s → Good (after s t)
good-after s t e good =
    let x : _ = there (ltb (party_of t) (length s.parties)) (part_refusal s.world s.parties (stack s (party_of t)) t)
    e in
    good-part s t (grind (arith, nat_tests)) x.1 good

good-result : (s : Machine) (t : Step) (r : Option StepError) → refusal s t ≡ r → Good s →
    Good (stepped s (step_by r s t))
good-result s t (Some e) q good = good
good-result s t None q good = good-after s t q good

pub good-stepped : (s : Machine) (t : Step) → Good s → Good (stepped s (step s t))
unfolding step
good-stepped s t good = good-result s t (refusal s t) refl good

pub good-run : (ts : List Step) (s : Machine) → Good s → Good (run ts s)
good-run [] s good = good
good-run (t ∷ ts) s good = good-run ts (stepped s (step s t)) (good-stepped s t good)

pub weigh_all-idle : (v : Op → ℕ) (n : ℕ) → weigh_all v (idle n) ≡ 0
weigh_all-idle v zero = refl
weigh_all-idle v (suc n) = omega (arith, weigh_all-idle v n)

pub good-start : (limit : ℕ) (kind : Kind) (n : ℕ) → Good (start limit kind n)
good-start limit kind n = record {
  fits = record {
    queue = refl;
    own = refl;
    table = refl;
    leaving = refl;
    waking = refl;
    wakers = refl;
    awaiters = refl;
    sleepers = refl;
    awaiting = refl;
    inside = refl;
  };
  ops = weigh_all-idle (past_of 0) n;
  sound = λ g. subst (Sound (start limit kind n).world g) (sym (pend-none g (idle n) (λ v. weigh_all-idle v n)))
      (none_sound limit kind g);
}
  where
    none_sound : (limit : ℕ) (kind : Kind) (g : ℕ) → Sound (start limit kind 0).world g none
    none_sound limit kind g = grind arith

pub good : (limit : ℕ) (kind : Kind) (n : ℕ) (ts : List Step) → Good (run ts (start limit kind n))
good limit kind n ts = good-run ts (start limit kind n) (good-start limit kind n)
