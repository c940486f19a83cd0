-- For runs_are_finished_at_once.
-- A step that tells that a run is finished is the beginning of a poll of a run that has ended.
use Rattle.std.proofs.Common.{◌≡◌, ℕ, ◌<◌, List, [], ◌∷◌, ◌++◌, length, Bool, true, false, ◌||◌, ltb, refl, sym, ap, subst}
use Rattle.std.proofs.lemmas.List.{append_assoc, append_cancel_left}
use Rattle.std.specs.Prelude.{Option, Some, None, reverse}
use Rattle.std.{proofs.Common.arith, proofs.Common.◌∙◌, proofs.Common.append-nil, proofs.lemmas.Bool.Decides.nat_tests}
use Rattle.executor_model.proofs.Types.{By, Call, Reply, Event, Kind, Hold, Op, Hint, Step, StepError}
use Rattle.executor_model.specs.Steps.{Machine, Part, begun, below_top, end_of, gone_on, mine, onto, part_after, part_refusal}
use Rattle.executor_model.specs.Steps.{party_of, react, refusal, run, settled_by, stack, start, step, step_by, stepped, top}
use Rattle.executor_model.specs.FinishedRuns.{FinishedAtOnce, says_finished}
use Rattle.executor_model.specs.World.{World, Ended, Done, done, log, run_of}
use Rattle.executor_model.specs.{Doing.act, Steps.unless, Trace.Trace, Trace.has, Weights.weigh, Weights.weigh_all}
use Rattle.executor_model.proofs.Steps.Deeds.{ends_one, grows-act, grows-begun, grows-react}
use Rattle.executor_model.proofs.Steps.Lists.{weigh-append, weigh-reverse, weigh_all-set}
use Rattle.executor_model.proofs.Promises.FinishedActs.{Leads, begins, fin, fin-act, fin-react, fin_reply}
use Rattle.executor_model.proofs.{Quiet.Calls.is_end, Steps.Lift.topped, Steps.Lift.weigh_all-idle, Steps.TraceMore.has-append}
use Rattle.executor_model.proofs.{Table.Spawning.top-last, Promises.FinishedActs.Leads.none, Promises.FinishedActs.Leads.over}

-- what is told

not-both : (b : Bool) → b ≡ true → b ≡ false → ⊥
not-both true e f = absurd (cc)
not-both false e f = absurd (cc)

no-end : (e : Event) → ends_one e ≡ false → says_finished e ≡ false
no-end (Event.CallEnded p r) z = absurd (cc)
no-end _ z = refl

none-said : (es : Trace) → has ends_one es ≡ false → has says_finished es ≡ false
none-said [] z = refl
none-said (e ∷ es) z = by (ends_one e) refl z (none-said es)
  where
    by : (b : Bool) → ends_one e ≡ b → (b || has ends_one es) ≡ false →
        (has ends_one es ≡ false → has says_finished es ≡ false) → (says_finished e || has says_finished es) ≡ false
    by true q k n = absurd (cc)
    by false q k n = ap (λ (x : Bool). x || has says_finished es) (no-end e q) ∙ n k

said-other : (p : ℕ) (a : Reply) → fin_reply a ≡ 0 → says_finished (Event.CallEnded p a) ≡ false
said-other p Reply.Finished z = absurd (omega (arith, z))
said-other p _ z = refl

record Quietly (w v : World) : Type 0 where
  pub more : Trace
  pub is : v.trace ≡ w.trace ++ more
  pub unsaid : has says_finished more ≡ false

quiet-act : (p : ℕ) (h : Hint) (o : Op) (w : World) (b : Bool) → is_end o ≡ b → fin o ≡ 0 → Quietly w (act p h o w).world
quiet-act p h o w false n z =
    let g = grows-act p h o w n in record { more = g.more; is = g.is; unsaid = none-said g.more g.none_ends }
quiet-act p h (Op.End a held) w true n z = record {
  more = Event.CallEnded p a ∷ [];
  is = refl;
  unsaid = ap (λ (x : Bool). x || false) (said-other p a z);
}
quiet-act p h _ w true n z = absurd (cc)

-- a step: its party has nothing of the kind to do behind it, and no such answer is told of
record Settles (w : World) (l : Part) : Type 0 where
  pub todo : weigh fin l.todo ≡ 0
  pub quiet : Quietly w l.world

first-of : (os : List Op) (o : Op) → top os ≡ Some o → weigh fin os ≡ 0 → fin o ≡ 0
first-of os o e z = omega (arith, z, ap (weigh fin) (topped os o e), weigh-append fin (below_top os) (o ∷ []))

below-of : (os : List Op) (o : Op) → top os ≡ Some o → weigh fin os ≡ 0 → weigh fin (below_top os) ≡ 0
below-of os o e z = omega (arith, z, ap (weigh fin) (topped os o e), weigh-append fin (below_top os) (o ∷ []))

ends-calmly : (o : Option Op) (p : ℕ) (w v : World) (os : List Op) → top os ≡ o → weigh fin os ≡ 0 → Quietly w v →
    Settles w (settled_by (end_of o) p v os)
ends-calmly (Some (Op.End a held)) p w v os e z q = record {
  todo = below-of os (Op.End a held) e z;
  quiet = record {
    more = q.more ++ Event.CallEnded p a ∷ [];
    is = ap (λ (es : Trace). es ++ Event.CallEnded p a ∷ []) q.is ∙ append_assoc w.trace q.more (Event.CallEnded p a ∷ []);
    unsaid = has-append says_finished q.more (Event.CallEnded p a ∷ []) q.unsaid
        (ap (λ (x : Bool). x || false) (said-other p a (first-of os (Op.End a held) e z)));
  };
}
ends-calmly None p w v os e z q = record { todo = z; quiet = q }
ends-calmly (Some _) p w v os e z q = record { todo = z; quiet = q }

onto-settles : (p : ℕ) (w : World) (d : Done) (rest : List Op) → weigh fin rest ≡ 0 → weigh fin d.next ≡ 0 → Quietly w d.world →
    Settles w (onto p d rest)
onto-settles p w d rest a b q = ends-calmly (top (rest ++ reverse d.next)) p w d.world (rest ++ reverse d.next) refl
    (omega (arith, a, b, weigh-append fin rest (reverse d.next), weigh-reverse fin d.next)) q

same-quiet : (w : World) → Quietly w w
same-quiet w = record { more = []; is = sym (append-nil w.trace); unsaid = refl }

on-settles : (p : ℕ) (w : World) (os : List Op) (o : Option Op) (d : Op → Done) → top os ≡ o → weigh fin os ≡ 0 →
    ((x : Op) → fin x ≡ 0 → (weigh fin (d x).next ≡ 0) × Quietly w (d x).world) → Settles w (gone_on p w os o d)
on-settles p w os None d e z k = record { todo = z; quiet = same-quiet w }
on-settles p w os (Some x) d e z k =
    let y = k x (first-of os x e z) in onto-settles p w (d x) (below_top os) (below-of os x e z) y.0 y.1

-- or a poll of a run that has ended begins
abbrev AtOnce : World → Step → Type 0
AtOnce w t = (p : ℕ) × ((r : ℕ) × ((b : By) × ((t ≡ Step.Begin p (Call.PollRun r b)) × ((run_of w r).stage ≡ Ended))))

data Moved (w : World) (t : Step) (l : Part) : Type 0 where
  calmly : Settles w l → Moved w t l
  ended : weigh fin l.todo ≡ 0 → AtOnce w t → Moved w t l

top-of : (os : List Op) (r : ℕ) (held : Hold) (p : ℕ) (w : World) → weigh fin os ≡ 0 →
    weigh fin (onto p (done w (Op.End Reply.Finished held ∷ [])) os).todo ≡ 0
top-of os r held p w z =
    let x : Op = Op.End Reply.Finished held in
    let e : top (os ++ x ∷ []) ≡ Some x = top-last os x in
    ap (λ (o : Option Op). weigh fin (settled_by (end_of o) p w (os ++ x ∷ [])).todo) e
    ∙ omega (
      arith,
      z,
      ap (weigh fin) (topped (os ++ x ∷ []) x e),
      weigh-append fin (below_top (os ++ x ∷ [])) (x ∷ []),
      weigh-append fin os (x ∷ []),
    )

moves-on : (w : World) (os : List Op) (t : Step) → weigh fin os ≡ 0 → Moved w t (part_after w os t)
moves-on w os (Step.Go p h) z = calmly (on-settles p w os (top os) (λ o. act p h o w) refl z
    (λ x k. (fin-act p h x w k, quiet-act p h x w (is_end x) refl k)))
moves-on w os (Step.Answer p u) z = calmly (on-settles p w os (top os) (λ o. react p o u w) refl z
    (λ x k. (
      fin-react p x u w,
      (let g = grows-react p x u w in
          record { more = g.more; is = g.is; unsaid = none-said g.more g.none_ends }),
    )))
moves-on w os (Step.Begin p c) z = by (begins p w (mine (top os)) c)
  where
    d : Done
    d = begun p (log w (Event.CallBegun p c)) (mine (top os)) c

    quiet : Quietly w d.world
    quiet = let g = grows-begun p (log w (Event.CallBegun p c)) (mine (top os)) c in record {
      more = Event.CallBegun p c ∷ g.more;
      is = g.is ∙ append_assoc w.trace (Event.CallBegun p c ∷ []) g.more;
      unsaid = none-said g.more g.none_ends;
    }

    by : Leads w c d.next → Moved w (Step.Begin p c) (onto p d os)
    by (none k) = calmly (onto-settles p w d os z k quiet)
    by (over r b i e n) = ended
        (subst (λ (ns : List Op). weigh fin (onto p (done d.world ns) os).todo ≡ 0) (sym n)
        (top-of os r (Hold.Run r) p d.world z))
        (p, (r, (b, (ap (λ (x : Call). Step.Begin p x) i, e))))

-- so it is in each machine to which steps lead

abbrev NoneLeft : Machine → Type 0
NoneLeft s = weigh_all fin s.parties ≡ 0

there : (b : Bool) (r : Option StepError) → unless b StepError.NoSuch r ≡ None → (b ≡ true) × (r ≡ None)
there true r e = (refl, e)
there false r e = absurd (cc)

stack-none : (s : Machine) (p : ℕ) → p < length s.parties → NoneLeft s → weigh fin (stack s p) ≡ 0
stack-none s p l z = omega (arith, z, weigh_all-set fin s.parties p [] l)

todo-none : (w : World) (t : Step) (x : Part) → Moved w t x → weigh fin x.todo ≡ 0
todo-none w t x (calmly a) = a.todo
todo-none w t x (ended a k) = a

step-none : (s : Machine) (t : Step) (r : Option StepError) → refusal s t ≡ r → NoneLeft s → NoneLeft (stepped s (step_by r s t))
step-none s t (Some error) q z = z
step-none s t None q z =
    let p : ℕ = party_of t in
    let k : _ = there (ltb p (length s.parties)) (part_refusal s.world s.parties (stack s p) t) q in
    let l : p < length s.parties = grind (arith, nat_tests) in
    let x : Part = part_after s.world (stack s p) t in
    omega (
      arith,
      z,
      weigh_all-set fin s.parties p x.todo l,
      todo-none s.world t x (moves-on s.world (stack s p) t (stack-none s p l z)),
    )

stepped-none : (s : Machine) (t : Step) → NoneLeft s → NoneLeft (stepped s (step s t))
unfolding step
stepped-none s t z = step-none s t (refusal s t) refl z

run-none : (ts : List Step) (s : Machine) → NoneLeft s → NoneLeft (run ts s)
run-none [] s z = z
run-none (t ∷ ts) s z = run-none ts (stepped s (step s t)) (stepped-none s t z)

told-part : (w : World) (t : Step) (x : Part) → Moved w t x → (more : Trace) → x.world.trace ≡ w.trace ++ more →
    has says_finished more ≡ true → AtOnce w t
told-part w t x (calmly a) more e h =
    let i : a.quiet.more ≡ more = append_cancel_left w.trace a.quiet.more more (sym a.quiet.is ∙ e) in
    absurd (not-both (has says_finished more) h (ap (has says_finished) (sym i) ∙ a.quiet.unsaid))
told-part w t x (ended a k) more e h = k

told-by : (s : Machine) (t : Step) (r : Option StepError) → refusal s t ≡ r → NoneLeft s → (more : Trace) →
    (stepped s (step_by r s t)).world.trace ≡ s.world.trace ++ more → has says_finished more ≡ true → AtOnce s.world t
told-by s t (Some error) q z more e h =
    let i : [] ≡ more = append_cancel_left s.world.trace [] more (append-nil s.world.trace ∙ e) in
    absurd (not-both (has says_finished more) h (ap (has says_finished) (sym i)))
told-by s t None q z more e h =
    let p : ℕ = party_of t in
    let k : _ = there (ltb p (length s.parties)) (part_refusal s.world s.parties (stack s p) t) q in
    let l : p < length s.parties = grind (arith, nat_tests) in
    told-part s.world t (part_after s.world (stack s p) t) (moves-on s.world (stack s p) t (stack-none s p l z)) more e h

finished-told : (s : Machine) → NoneLeft s → FinishedAtOnce s
unfolding step
finished-told s z t more e h = told-by s t (refusal s t) refl z more e h

pub finished-at-once : (limit : ℕ) (kind : Kind) (parties : ℕ) (steps : List Step) →
    FinishedAtOnce (run steps (start limit kind parties))
finished-at-once limit kind parties ts = finished-told (run ts (start limit kind parties))
    (run-none ts (start limit kind parties) (weigh_all-idle fin parties))
