-- For queues_are_by_mark and arrival_order_needs_fewer_ticks.
-- Each of the executor's queues has futures of its mark alone, and no future's mark changes.
use Rattle.std.proofs.Common.{◌≡◌, ◌≢◌, ◌∙◌, ⊎_elim, ℕ, zero, suc, ◌<◌, ◌≤◌, List, [], ◌∷◌, ◌++◌, length}
use Rattle.std.proofs.Common.{get_or, drop, Bool, true, false, eqb, ltb, refl, sym, ap, subst, arith, length-append, Ok}
use Rattle.std.proofs.lemmas.Bool.Decides.{nat_tests}
use Rattle.std.proofs.lemmas.List.{get_or_past}
use Rattle.std.specs.Prelude.{All, Option, Some, None, Result}
use Rattle.queue_steps.specs.ClosableQueue.{ClosableQueue}
use Rattle.executor_laws.proofs.Types.{Mark, Plain, Urgent, Reply, Event, Kind, Op, QueueOp, TableOp, Hint, Step, StepError}
use Rattle.executor_model.specs.{Acts.enter_by, Acts.entered, Doing.act, Executions.run_all, Good.Good, Good.pasts, Rows.past_of}
use Rattle.executor_model.specs.{Sound.times, Steps.Machine, Steps.after, Steps.answer_refusal, Steps.begun, Steps.below_top, Steps.gone_on}
use Rattle.executor_model.specs.{Steps.mine, Steps.part_after, Steps.part_refusal, Steps.react, Steps.refusal, Steps.run, Steps.settled_by}
use Rattle.executor_model.specs.{Steps.stack, Steps.start, Steps.step, Steps.stepped, Steps.top, Weights.past, Weights.same, Weights.weigh}
use Rattle.executor_model.specs.{Weights.weigh_all, World.World, World.Done, World.log, World.mark_of, World.queue_of, World.queued_in}
use Rattle.executor_model.proofs.{Steps.Lift.topped, Steps.Lists.past_is, Steps.Lists.same_cases, Steps.Lists.times-append}
use Rattle.executor_model.proofs.{Steps.Lists.weigh-append, Steps.Lists.weigh_all-set, Steps.Marking.Entries, Steps.Marking.entries}
use Rattle.executor_model.proofs.{Steps.Marking.lists, Steps.Marking.same-begun, Steps.Marking.same-entries, Steps.Marking.same-react}
use Rattle.executor_model.proofs.{Steps.QueuesByMark.times-one, Steps.Reached.Reached, Steps.Reached.good-here, Steps.Reached.run-first}
use Rattle.executor_model.proofs.{Steps.Stepping.step-made, Steps.Stepping.step-refused}
use Rattle.executor_laws.proofs.{Placement.OwnReady.reached-on, Placement.OwnReady.there, Queueings.Queueing.Steps}
use Rattle.executor_laws.proofs.{Queueings.Queueing.by-step, Queueings.Queueing.Steps.as-was, Queueings.Queueing.Steps.longer}
use Rattle.executor_laws.proofs.{Queueings.Queueing.Steps.shorter, Queueings.Queueing.Steps.shut-by, Reach.LoneSteps.answers}

-- the marks and the number of tasks stay, or both grow by one
pub data Grown (w v : World) : Type 0 where
  kept : entries w ≡ entries v → Grown w v
  one : (m : Mark) → v.marks ≡ w.marks ++ m ∷ [] → length v.tasks ≡ suc (length w.tasks) → Grown w v

grown-enter : (b c : Bool) (m : Mark) (p : ℕ) (w : World) → Grown w (enter_by b c m p w).world
grown-enter true c m p w = kept refl
grown-enter false true m p w = kept refl
grown-enter false false m p w = one m refl (omega (arith, length-append w.tasks (entered w.is_static ∷ [])))

grown-act : (b : Bool) (p : ℕ) (h : Hint) (o : Op) (w : World) → lists o ≡ b → Grown w (act p h o w).world
grown-act false p h o w n = kept (same-entries p h o w n)
grown-act true p h (Op.Table (TableOp.Enter m)) w n = grown-enter _ _ m p w
grown-act true p h _ w n = absurd (cc)

grown-settled : (w v : World) (o : Option Reply) (p : ℕ) (os : List Op) → Grown w v → Grown w (settled_by o p v os).world
grown-settled w v None p os g = g
grown-settled w v (Some a) p os (kept e) = kept e
grown-settled w v (Some a) p os (one m e l) = one m e l

grown-went : (w : World) (os : List Op) (p : ℕ) (d : Op → Done) (o : Option Op) →
    ((x : Op) → o ≡ Some x → Grown w (d x).world) → Grown w (gone_on p w os o d).world
grown-went w os p d None k = kept refl
grown-went w os p d (Some x) k = grown-settled w (d x).world _ p _ (k x refl)

grown-part : (w : World) (ss : List (List Op)) (os : List Op) (t : Step) → part_refusal w ss os t ≡ None →
    Grown w (part_after w os t).world
grown-part w ss os (Step.Begin p c) e =
    grown-settled w (begun p (log w (Event.CallBegun p c)) (mine (top os)) c).world _ p _
    (kept (same-begun p (log w (Event.CallBegun p c)) (mine (top os)) c))
grown-part w ss os (Step.Go p h) e =
    grown-went w os p (λ x. act p h x w) (top os) (λ x i. grown-act (lists x) p h x w refl)
grown-part w ss os (Step.Answer p u) e = grown-went w os p (λ x. react p x u w) (top os)
    (λ x i. kept (same-react p x u w (answers x u (sym (ap (λ (o : Option Op). answer_refusal o u) i) ∙ e))))

pub grown-after : (s : Machine) (t : Step) → refusal s t ≡ None → Grown s.world (after s t).world
grown-after s t e = grown-part s.world s.parties (stack s _) t (there _ _ e).1

pub grown-step : (s : Machine) (t : Step) → Grown s.world (stepped s (step s t)).world
grown-step s t = go (refusal s t) refl
  where
    go : (r : Option StepError) → refusal s t ≡ r → Grown s.world (stepped s (step s t)).world
    go None e = subst (λ (x : Result Machine StepError). Grown s.world (stepped s x).world) (sym (step-made s t e))
        (grown-after s t e)
    go (Some error) e = subst (λ (x : Result Machine StepError). Grown s.world (stepped s x).world)
        (sym (step-refused s t error e)) (kept refl)

-- the mark of a future that is there stays

get-first : (xs ys : List Mark) (f : ℕ) → f < length xs → get_or (xs ++ ys) f Plain ≡ get_or xs f Plain
get-first [] ys f l = absurd (omega (arith, l))
get-first (x ∷ xs) ys zero l = refl
get-first (x ∷ xs) ys (suc f) l = get-first xs ys f (omega (arith, l))

pub mark-stays : (w v : World) (f : ℕ) → Grown w v → f < length w.marks → mark_of v f ≡ mark_of w f
mark-stays w v f (kept e) l = ap (λ (x : Entries). get_or x.marks f Plain) (sym e)
mark-stays w v f (one m e k) l = ap (λ (ms : List Mark). get_or ms f Plain) e ∙ get-first w.marks (m ∷ []) f l

-- what is queued is known

known-in : (n f : ℕ) (xs : List ℕ) → pasts n xs ≡ 0 → 1 ≤ times f xs → f < n
known-in n f [] z k = absurd (omega (arith, k))
known-in n f (g ∷ xs) z k = ⊎_elim
    (λ (x : (same f g ≡ 1) × (eqb f g ≡ true) × (f ≡ g)).
    let y : past n g ≡ 0 = omega (arith, z) in
    subst (λ (i : ℕ). i < n) (sym x.2) (grind (arith, past_is)))
    (λ (x : (same f g ≡ 0) × (eqb f g ≡ false) × (f ≢ g)). known-in n f xs (omega (arith, z)) (omega (arith, k, x.0)))
    (same_cases f g)

known-top : (n : ℕ) (s : Machine) (p g : ℕ) → weigh_all (past_of n) s.parties ≡ 0 →
    top (stack s p) ≡ Some (Op.Queue (QueueOp.Append g)) → past n g ≡ 0
known-top n s p g z e = by (ltb p (length s.parties)) refl
  where
    by : (b : Bool) → ltb p (length s.parties) ≡ b → past n g ≡ 0
    by true q =
        let l : p < length s.parties = grind (arith, nat_tests) in
        omega (
          arith,
          z,
          weigh_all-set (past_of n) s.parties p [] l,
          ap (weigh (past_of n)) (topped (stack s p) (Op.Queue (QueueOp.Append g)) e),
          weigh-append (past_of n) (below_top (stack s p)) (Op.Queue (QueueOp.Append g) ∷ []),
        )
    by false q =
        let l : length s.parties ≤ p = grind (arith, nat_tests) in
        let none : top (let os : List Op = [] in os) ≡ Some (Op.Queue (QueueOp.Append g)) =
        sym (ap top (get_or_past s.parties p [] l)) ∙ e in absurd (cc)

pub record Marked (s : Machine) : Type 0 where
  pub known : length s.world.marks ≡ length s.world.tasks
  pub queued : (m : Mark) (f : ℕ) → 1 ≤ times f (queue_of s.world m).items → mark_of s.world f ≡ m

module _ (s : Machine) (fine : Good s) (h : Marked s) (m : Mark) (f : ℕ) where
  abbrev There : Type 0
  There = (mark_of s.world f ≡ m) × (f < length s.world.marks)

  was-there : 1 ≤ times f (queue_of s.world m).items → There
  was-there k = (
    h.queued m f k,
    (let l : f < length s.world.tasks = known-in (length s.world.tasks) f (queued_in s.world) fine.fits.queue
        (omega (arith, k, times-one f m s.world.queues)) in omega (arith, l, h.known)),
  )

  less-first : (xs : List ℕ) → times f (drop 1 xs) ≤ times f xs
  less-first [] = omega arith
  less-first (x ∷ xs) = omega arith

  by-steps : (new : ClosableQueue ℕ) → Steps m s new → 1 ≤ times f new.items → There
  by-steps new (as-was e) k = was-there (omega (arith, k, ap (λ (q : ClosableQueue ℕ). times f q.items) e))
  by-steps new (longer p g i j c e) k = ⊎_elim
      (λ (x : (same f g ≡ 1) × (eqb f g ≡ true) × (f ≡ g)).
      let l : past (length s.world.tasks) g ≡ 0 = known-top (length s.world.tasks) s p g fine.ops i in
      let n : g < length s.world.tasks = grind (arith, past_is) in (
        ap (mark_of s.world) x.2 ∙ j,
        (let y : f < length s.world.tasks = subst (λ (z : ℕ). z < length s.world.tasks) (sym x.2) n in
            omega (arith, y, h.known)),
      ))
      (λ (x : (same f g ≡ 0) × (eqb f g ≡ false) × (f ≢ g)). was-there (omega (
        arith,
        k,
        x.0,
        ap (λ (q : ClosableQueue ℕ). times f q.items) e,
        times-append f (queue_of s.world m).items (g ∷ []),
      )))
      (same_cases f g)
  by-steps new (shorter g xs i e) k = was-there (omega (
    arith,
    k,
    ap (λ (q : ClosableQueue ℕ). times f q.items) e,
    less-first (queue_of s.world m).items,
  ))
  by-steps new (shut-by e) k = was-there (omega (arith, k, ap (λ (q : ClosableQueue ℕ). times f q.items) e))

still-known : (w v : World) → length w.marks ≡ length w.tasks → Grown w v → length v.marks ≡ length v.tasks
still-known w v k (kept e) =
    ap (λ (x : Entries). length x.marks) (sym e) ∙ (k ∙ ap (λ (x : Entries). x.count) e)
still-known w v k (one m e l) = omega (arith, ap length e, l, k, length-append w.marks (m ∷ []))

marked-step : (s : Machine) → Good s → (t : Step) → Marked s → Marked (stepped s (step s t))
marked-step s fine t h = record {
  known = still-known s.world (stepped s (step s t)).world h.known (grown-step s t);
  queued = λ m f k.
      (let x : (mark_of s.world f ≡ m) × (f < length s.world.marks) =
      by-steps s fine h m f (queue_of (stepped s (step s t)).world m) (by-step m s t) k in
      mark-stays s.world (stepped s (step s t)).world f (grown-step s t) x.1 ∙ x.0);
}

marked-run : (ts : List Step) (s : Machine) → Reached s → Marked s → Marked (run ts s)
marked-run [] s r h = h
marked-run (t ∷ ts) s r h =
    marked-run ts (stepped s (step s t)) (reached-on s (t ∷ []) r) (marked-step s (good-here s r) t h)

none-yet : (limit : ℕ) (kind : Kind) (parties : ℕ) (m : Mark) (f : ℕ) →
    1 ≤ times f (queue_of (start limit kind parties).world m).items → ⊥
none-yet limit kind parties Plain f k = omega (arith, k)
none-yet limit kind parties Urgent f k = omega (arith, k)

pub marked : (limit : ℕ) (kind : Kind) (parties : ℕ) (steps : List Step) → Marked (run steps (start limit kind parties))
marked limit kind parties steps = marked-run steps (start limit kind parties)
    (record { limit = limit; kind = kind; parties = parties; steps = []; is = refl }) (record {
      known = refl;
      queued = λ m f k. absurd (none-yet limit kind parties m f k);
    })

pub marked-here : (s : Machine) → Reached s → (m : Mark) (f : ℕ) → 1 ≤ times f (queue_of s.world m).items →
    mark_of s.world f ≡ m
marked-here s r = (subst Marked (sym r.is) (marked r.limit r.kind r.parties r.steps)).queued

pub there-marked : (s : Machine) → Reached s → (m : Mark) (f : ℕ) → 1 ≤ times f (queue_of s.world m).items →
    (mark_of s.world f ≡ m) × (f < length s.world.marks)
there-marked s r m f k = was-there s (good-here s r) (subst Marked (sym r.is) (marked r.limit r.kind r.parties r.steps)) m f k

-- where all are plain at the end, they were all plain before

all-first : (ms more : List Mark) → All (λ m. m ≡ Plain) (ms ++ more) → All (λ m. m ≡ Plain) ms
all-first ms more k f d l = by (k f d (omega (arith, l, length-append ms more))) (same-first ms more f d l)
  where
    same-first : (xs ys : List Mark) (i : ℕ) (d : Mark) → i < length xs → get_or (xs ++ ys) i d ≡ get_or xs i d
    same-first [] ys i d l = absurd (omega (arith, l))
    same-first (x ∷ xs) ys zero d l = refl
    same-first (x ∷ xs) ys (suc i) d l = same-first xs ys i d (omega (arith, l))

    by : get_or (ms ++ more) f d ≡ Plain → get_or (ms ++ more) f d ≡ get_or ms f d → get_or ms f d ≡ Plain
    by a b = sym b ∙ a

all-grown : (w v : World) → Grown w v → All (λ m. m ≡ Plain) v.marks → All (λ m. m ≡ Plain) w.marks
all-grown w v (kept e) k = subst (λ (x : Entries). All (λ m. m ≡ Plain) x.marks) (sym e) k
all-grown w v (one m e l) k = all-first w.marks (m ∷ []) (subst (λ (ms : List Mark). All (λ m. m ≡ Plain) ms) e k)

pub all-before : (s next : Machine) (ts : List Step) → run_all ts s ≡ Ok next → All (λ m. m ≡ Plain) next.world.marks →
    All (λ m. m ≡ Plain) s.world.marks
all-before s next [] e k = (let same : s ≡ next = cc in subst (λ (x : Machine). All (λ m. m ≡ Plain) x.world.marks) (sym same) k)
all-before s next (t ∷ ts) e k =
    let x : _ = run-first t ts s next e in
    all-grown s.world (after s t).world (grown-after s t x.0) (all-before (after s t) next ts x.1 k)
