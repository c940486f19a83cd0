-- For own_queues_agree.
-- The list of queues holds that of each run that is listed once, and no other.
use Rattle.std.proofs.Common.{◌≡◌, ◌≢◌, ◌∙◌, ℕ, zero, suc, ◌+◌, ◌<◌, ◌≤◌, List, [], ◌∷◌, ◌++◌, length, get_or, set, Bool, true}
use Rattle.std.proofs.Common.{false, eqb, refl, sym, ap, subst, ⊎_elim, arith, get_or-set_same, get_or-set_other}
use Rattle.std.proofs.lemmas.Bool.Decides.{nat_tests}
use Rattle.executor_model.proofs.Types.{Kind, Event, ListOp, Op, Section, Hint, Step}
use Rattle.executor_model.specs.Steps.{Machine, begun, mine, react, run, stack, start, top}
use Rattle.executor_model.specs.World.{World, Stage, New, Listed, Ended, Done, log, own_of, put_own, run_of, without}
use Rattle.executor_model.specs.{Doing.list_act, OwnQueues.ListAgrees, OwnQueues.is_listed, Sound.times, Weights.same}
use Rattle.executor_model.proofs.OwnQueues.OwnCounts.{counts-begun, counts-react}
use Rattle.executor_model.proofs.OwnQueues.RunsAside.{Hull, hull, hull_of, stages, stages-at, stages-push, stages-set}
use Rattle.executor_model.proofs.OwnQueues.RunsDone.{Deed, keeps, takes, lacks, shares, grows, wakes, lists, deed-act}
use Rattle.executor_model.proofs.Steps.Ways.{Way, acted, reacted, called, along}
use Rattle.executor_model.proofs.{Steps.Lift.good-start, Steps.Lists.same_cases, Steps.Lists.times-append}
use Rattle.executor_model.specs.ActsOfRuns as runs

abbrev IsListedWell : List Stage → List ℕ → ℕ → Type 0
IsListedWell ss ls r = times r ls ≡ is_listed (get_or ss r Ended)

-- a run comes into the list, and goes from it

is_run_there : (ss : List Stage) (q : ℕ) → get_or ss q Ended ≡ New → q < length ss
is_run_there [] q e = absurd (cc)
is_run_there (s ∷ ss) zero e = omega arith
is_run_there (s ∷ ss) (suc q) e = omega (arith, is_run_there ss q e)

comes : (ss : List Stage) (ls : List ℕ) (q r : ℕ) → get_or ss q Ended ≡ New → IsListedWell ss ls r →
    IsListedWell (set ss q Listed) (ls ++ q ∷ []) r
comes ss ls q r e h = ⊎_elim
    (λ (x : (same r q ≡ 1) × (eqb r q ≡ true) × (r ≡ q)).
    let was : is_listed (get_or ss r Ended) ≡ 0 = ap (λ (k : ℕ). is_listed (get_or ss k Ended)) x.2 ∙ ap is_listed e in
    let now : is_listed (get_or (set ss q Listed) r Ended) ≡ 1 =
    ap (λ (k : ℕ). is_listed (get_or (set ss q Listed) k Ended)) x.2
    ∙ ap is_listed (get_or-set_same ss q Listed Ended (is_run_there ss q e)) in
    omega (arith, times-append r ls (q ∷ []), x.0, h, was, now))
    (λ (x : (same r q ≡ 0) × (eqb r q ≡ false) × (r ≢ q)).
    omega (arith, times-append r ls (q ∷ []), x.0, h, ap is_listed (get_or-set_other ss q r Listed Ended x.2)))
    (same_cases r q)

none-left : (q : ℕ) (xs : List ℕ) → times q xs ≤ 1 → times q (without q xs) ≡ 0
none-left q [] l = refl
none-left q (x ∷ xs) l = by (eqb q x) refl (λ k. none-left q xs k)
  where
    by : (b : Bool) → eqb q x ≡ b → (times q xs ≤ 1 → times q (without q xs) ≡ 0) →
        times q (let ys : List ℕ = elim b [ true ↦ xs | false ↦ x ∷ without q xs ] in ys) ≡ 0
    by true e f = ⊎_elim
        (λ (z : (same q x ≡ 1) × (eqb q x ≡ true) × (q ≡ x)). omega (arith, l, z.0))
        (λ (z : (same q x ≡ 0) × (eqb q x ≡ false) × (q ≢ x)). absurd (let no : false ≡ true = sym z.1 ∙ e in cc))
        (same_cases q x)
    by false e f = ⊎_elim
        (λ (z : (same q x ≡ 1) × (eqb q x ≡ true) × (q ≡ x)). absurd (let no : false ≡ true = sym e ∙ z.1 in cc))
        (λ (z : (same q x ≡ 0) × (eqb q x ≡ false) × (q ≢ x)). omega (arith, z.0, f (omega (arith, l, z.0))))
        (same_cases q x)

others-stay : (r q : ℕ) (xs : List ℕ) → r ≢ q → times r (without q xs) ≡ times r xs
others-stay r q [] n = refl
others-stay r q (x ∷ xs) n = by (eqb q x) refl (others-stay r q xs n)
  where
    by : (b : Bool) → eqb q x ≡ b → times r (without q xs) ≡ times r xs →
        times r (let ys : List ℕ = elim b [ true ↦ xs | false ↦ x ∷ without q xs ] in ys) ≡ same r x + times r xs
    by true e f = let i : q ≡ x = grind (arith, nat_tests) in ⊎_elim
        (λ (z : (same r x ≡ 1) × (eqb r x ≡ true) × (r ≡ x)). absurd (n (z.2 ∙ sym i)))
        (λ (z : (same r x ≡ 0) × (eqb r x ≡ false) × (r ≢ x)). omega (arith, z.0))
        (same_cases r x)
    by false e f = omega (arith, f)

set-ended : (ss : List Stage) (q : ℕ) → get_or (set ss q Ended) q Ended ≡ Ended
set-ended [] q = refl
set-ended (s ∷ ss) zero = refl
set-ended (s ∷ ss) (suc q) = set-ended ss q

listed-few : (s : Stage) → is_listed s ≤ 1
listed-few New = omega arith
listed-few Listed = omega arith
listed-few Ended = omega arith

goes : (ss : List Stage) (ls : List ℕ) (q r : ℕ) → IsListedWell ss ls r → IsListedWell (set ss q Ended) (without q ls) r
goes ss ls q r h = ⊎_elim
    (λ (x : (same r q ≡ 1) × (eqb r q ≡ true) × (r ≡ q)).
    let now : is_listed (get_or (set ss q Ended) r Ended) ≡ 0 =
    ap (λ (k : ℕ). is_listed (get_or (set ss q Ended) k Ended)) x.2 ∙ ap is_listed (set-ended ss q) in
    let few : times q ls ≤ 1 = subst (λ (k : ℕ). times k ls ≤ 1) x.2
    (omega (arith, h, listed-few (get_or ss r Ended))) in
    omega (arith, ap (λ (k : ℕ). times k (without q ls)) x.2, none-left q ls few, now))
    (λ (x : (same r q ≡ 0) × (eqb r q ≡ false) × (r ≢ q)).
    omega (arith, others-stay r q ls x.2, h, ap is_listed (get_or-set_other ss q r Ended Ended x.2)))
    (same_cases r q)

made : (ss : List Stage) (r : ℕ) → is_listed (get_or (ss ++ New ∷ []) r Ended) ≡ is_listed (get_or ss r Ended)
made [] zero = refl
made [] (suc r) = refl
made (s ∷ ss) zero = refl
made (s ∷ ss) (suc r) = made ss r

-- each thing that is done

abbrev IsWell : World → ℕ → Type 0
IsWell w r = IsListedWell (stages w.runs) w.listed r

abbrev KeepsListed : World → World → Type 0
KeepsListed w v = (r : ℕ) → IsWell w r → IsWell v r

still : (w v : World) → hull w ≡ hull v → KeepsListed w v
still w v e r h = subst (λ (x : Hull). IsListedWell x.stages x.listed r) e h

listed-make : (b : Bool) (w : World) → KeepsListed w (runs.make_run_by b w).world
listed-make true w = still w w refl
listed-make false w = λ r h. subst (λ (ss : List Stage). IsListedWell ss w.listed r) (sym (stages-push w.runs))
    (omega (arith, h, made (stages w.runs) r))

listed-register : (t : Stage) (w : World) (q : ℕ) → (run_of w q).stage ≡ t → KeepsListed w (runs.registered t w q)
listed-register New w q e = λ r h. subst (λ (ss : List Stage). IsListedWell ss (w.listed ++ q ∷ []) r)
    (sym (stages-set w.runs q (record (run_of w q) { stage = Listed })))
    (comes (stages w.runs) w.listed q r (stages-at w.runs q ∙ e) h)
listed-register Listed w q e = still w w refl
listed-register Ended w q e = still w w refl

listed-list : (h : Hint) (o : ListOp) (w : World) → KeepsListed w (list_act h o w).world
listed-list h (ListOp.Write Section.MakeRun) w = listed-make h.refused w
listed-list h (ListOp.Write (Section.Register x)) w = listed-register _ w x.run refl
listed-list h (ListOp.Write (Section.Unregister q a)) w = λ r k.
    subst (λ (ss : List Stage). IsListedWell ss (without q w.listed) r)
    (sym (stages-set w.runs q (record (run_of w q) { stage = Ended }))) (goes (stages w.runs) w.listed q r k)
listed-list h _ w = λ r k. k

listed-deed : (w : World) (o : Op) (d : Done) → Deed w o d → KeepsListed w d.world
listed-deed w o d (keeps e l) = still w d.world (ap hull_of e)
listed-deed w o d (takes q f rest i e l) = still (put_own w q rest) d.world (ap hull_of e)
listed-deed w o d (lacks q i e l) = still w d.world (ap hull_of e)
listed-deed w o d (shares s i k b e m) = still w d.world (ap hull_of e)
listed-deed w o d (grows s k f e m) = still (put_own w s.poll.run (own_of w s.poll.run ++ f ∷ [])) d.world (ap hull_of e)
listed-deed w o d (wakes p x e z) = still w d.world (ap hull_of e)
listed-deed w o d (lists h l) = listed-list h l w

-- every step

abbrev pub ListsAgree : Machine → Type 0
ListsAgree s = (r : ℕ) → IsWell s.world r

listed-way : (s : Machine) (p : ℕ) (old rest : List Op) (d : Done) → Way s p old rest d → KeepsListed s.world d.world
listed-way s p old rest d (acted h o q z) = rw z (listed-deed s.world o _ (deed-act p h o s.world))
listed-way s p old rest d (reacted o u a q z) =
    rw z (still s.world (react p o u s.world).world (counts-react 0 p o u s.world a).hull)
listed-way s p old rest d (called c q r n z) =
    rw z (still s.world (begun p (log s.world (Event.CallBegun p c)) (mine (top (stack s p))) c).world
    (counts-begun 0 p s.world (mine (top (stack s p))) c).hull)

pub lists-agree : (limit : ℕ) (kind : Kind) (n : ℕ) (ts : List Step) (r : ℕ) → ListAgrees (run ts (start limit kind n)) r
lists-agree limit kind n ts r =
    let s = run ts (start limit kind n) in
    let k : IsWell s.world r = along ListsAgree
    (λ s p old rest d good l e way k q. listed-way s p old rest d way q (k q))
    (λ s p a held below l e k q. k q) ts (start limit kind n) (good-start limit kind n) (λ q. refl) r in
    omega (arith, k, ap is_listed (stages-at s.world.runs r))
