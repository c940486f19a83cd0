-- Lone calls of which the first things to do are told these hints.
use Rattle.std.proofs.Common.{◌≡◌, ℕ, ◌<◌, ◌==◌, ◌++◌, nat_lt, true, false, List, [], ◌∷◌, length}
use Rattle.std.proofs.Common.{Some, None, Ok, sym, ap, subst, ◌∙◌, append-nil, get_or-set_same}
use Rattle.std.{proofs.Math.ListN.length-set}
use Rattle.std.specs.Prelude.{reverse}
use Rattle.executor_model.specs.declared.call.Call.{Call}
use Rattle.executor_model.specs.declared.event.Event.TheVariants as event
use Rattle.executor_model.specs.declared.op.Op.{Op}
use Rattle.executor_model.specs.declared.step.Hint.{Hint}
use Rattle.executor_model.specs.declared.step.Step.{Step}
use Rattle.executor_model.specs.declared.step.Step.TheVariants.{Begin, Go}
use Rattle.executor_model.specs.declared.step.StepError.TheVariants.{NoSuch}
use Rattle.executor_model.specs.Doing.{act}
use Rattle.executor_model.specs.Executions.{run_all}
use Rattle.executor_model.specs.Quiet.{IsQuiet}
use Rattle.executor_model.specs.Steps.{Machine, Part, after, begun, mine, onto}
use Rattle.executor_model.specs.Steps.{end_of, part_refusal, refusal, settled, settled_by, stack, top}
use Rattle.executor_model.specs.Steps.{waits}
use Rattle.executor_model.specs.Trace.{has}
use Rattle.executor_model.specs.World.{World, Done, done, log}
use Rattle.executor_model.proofs.Quiet.Resting.{rests}
use Rattle.executor_model.proofs.Steps.Reached.{Reached, deep-here, reached-more, reached-step, run-first}
use Rattle.executor_model.proofs.SpawnWants.Tops.{flipped}
use Rattle.executor_laws.specs.LoneEnds.{IsLoneCall, are_onward_of}
use Rattle.machine_roads.specs.Alone.{alone, is_resting, one_by, Has, HasAllOf}
use Rattle.machine_roads.specs.Alike.{begins, upon}
use Rattle.machine_roads.proofs.LoneRuns.{IsBefore, Rests, Walks, before, both_true, ends_so, onward_of, passed, rests_of, within}
use Rattle.machine_roads.proofs.Tying.{AtEnd, LeadsSoOf, ended, goes}
use Rattle.machine_roads.proofs.Tying.{top_of}

-- where a call begins with one thing to do, which is told this hint
abbrev pub FirstLeadsOf : (World → Op → Type 0) → ℕ → Hint → Done → (Done → Type 0) → Type 0
FirstLeadsOf Asked p h d R =
    (hints : List Hint) → HasAllOf Asked p (h ∷ hints) d → is_resting (alone p (h ∷ hints) d).next ≡ true → R (alone p (h ∷ hints) d)

abbrev pub FirstLeads : ℕ → Hint → Done → (World → Type 0) → Type 0
FirstLeads p h d P = FirstLeadsOf Has p h d (AtEnd P)

-- and where that leads to one thing more, which is told another hint
abbrev pub SecondLeadsOf : (World → Op → Type 0) → ℕ → Hint → Hint → Done → (Done → Type 0) → Type 0
SecondLeadsOf Asked p g h d R =
    (hints : List Hint) → HasAllOf Asked p (g ∷ h ∷ hints) d → is_resting (alone p (g ∷ h ∷ hints) d).next ≡ true
    → R (alone p (g ∷ h ∷ hints) d)

abbrev pub SecondLeads : ℕ → Hint → Hint → Done → (World → Type 0) → Type 0
SecondLeads p g h d P = SecondLeadsOf Has p g h d (AtEnd P)

-- a call has begun, where there is one thing to do
pub record Begun (s : Machine) (p : ℕ) (c : Call) (o : Op) : Type 0 where
  pub reached : Reached (after s (Begin p c))
  pub there : p < length (after s (Begin p c)).parties
  pub world : (after s (Begin p c)).world ≡ (begins p None c s.world).world
  pub todo : reverse (stack (after s (Begin p c)) p) ≡ o ∷ []

pub begun_so : (s : Machine) → Reached s → (p : ℕ) (c : Call) (o : Op) → IsQuiet s.world.trace → refusal s (Begin p c) ≡ None
    → (begins p None c s.world).next ≡ o ∷ [] → end_of (Some o) ≡ None → Begun s p c o
begun_so s reached p c o quiet may first unended =
    let there : p < length s.parties =
    within p (length s.parties)
    (passed (nat_lt p (length s.parties)) NoSuch (part_refusal s.world s.parties (stack s p) (Begin p c)) may) in
    let none : stack s p ≡ [] = rests s (deep-here s reached) quiet p in
    let d : Done = begins p None c s.world in
    let part : onto p (begun p (log s.world (event.CallBegun p c)) (mine (top (stack s p))) c) (stack s p) ≡ onto p d (stack s p) =
    ap (λ xs. onto p (begun p (log s.world (event.CallBegun p c)) (mine (top xs)) c) (stack s p)) none in
    let turned : reverse (stack s p ++ reverse d.next) ≡ o ∷ [] =
    flipped (stack s p) d.next ∙ (ap (λ xs. d.next ++ reverse xs) none ∙ (append-nil d.next ∙ first)) in
    let t = top_of (stack s p ++ reverse d.next) o [] turned in
    let whole : settled p d.world (stack s p ++ reverse d.next) ≡ part_of d.world (stack s p ++ reverse d.next) =
    ap (λ x. settled_by (end_of x) p d.world (stack s p ++ reverse d.next)) t.0
    ∙ ap (λ r. settled_by r p d.world (stack s p ++ reverse d.next)) unended in
    record {
      reached = reached-step s (Begin p c) may reached;
      there = subst (λ n. p < n) (sym (length-set s.parties p _)) there;
      world = ap (λ (l : Part). l.world) part ∙ ap (λ (l : Part). l.world) whole;
      todo =
          ap (λ (ys : List Op). reverse ys)
          (get_or-set_same s.parties p
          (onto p (begun p (log s.world (event.CallBegun p c)) (mine (top (stack s p))) c) (stack s p)).todo [] there
          ∙ (ap (λ (l : Part). l.todo) part ∙ ap (λ (l : Part). l.todo) whole))
          ∙ turned;
    }
  where
    part_of : World → List Op → Part
    part_of w os = record { world = w; todo = os }

-- from a moment at which there is one thing to do
module _ (Asked : World → Op → Type 0) (Fine : Machine → Type 0) (walks : Walks Asked Fine) (p : ℕ) (R : Done → Type 0) where
  first_on : (h : Hint) (o : Op) (w : World) (os : List Op) → waits o ≡ false → Asked w o
      → FirstLeadsOf Asked p h (done w (o ∷ os)) R → LeadsSoOf Asked p (done (act p h o w).world ((act p h o w).next ++ os)) R
  first_on h o w os free has leads hints all rests =
      subst
      (λ b. HasAllOf Asked p hints (one_by b p h o w os) → is_resting (alone p hints (one_by b p h o w os)).next ≡ true
      → R (alone p hints (one_by b p h o w os)))
      free
      (λ all rests. leads hints (has, all) rests)
      all rests

  second_on : (g h : Hint) (o : Op) (w : World) (os : List Op) → waits o ≡ false → Asked w o
      → SecondLeadsOf Asked p g h (done w (o ∷ os)) R
      → FirstLeadsOf Asked p h (done (act p g o w).world ((act p g o w).next ++ os)) R
  second_on g h o w os free has leads hints all rests =
      subst
      (λ b. HasAllOf Asked p (h ∷ hints) (one_by b p g o w os) → is_resting (alone p (h ∷ hints) (one_by b p g o w os)).next ≡ true
      → R (alone p (h ∷ hints) (one_by b p g o w os)))
      free
      (λ all rests. leads hints (has, all) rests)
      all rests

  told_from : (now new : Machine) → Reached now → p < length now.parties → (h : Hint) (o : Op) (steps : List Step) → Fine new
      → reverse (stack now p) ≡ o ∷ [] → waits o ≡ false → FirstLeadsOf Asked p h (done now.world (o ∷ [])) R
      → are_onward_of p (Go p h ∷ steps) ≡ true → run_all (Go p h ∷ steps) now ≡ Ok new → stack new p ≡ [] → Rests p R new
  told_from now new reached there h o steps later todo free leads on made empty =
      let k = run-first (Go p h) steps now new made in
      let has = walks.gives now p reached there (walks.back (Go p h ∷ steps) now new reached made later) (o ∷ []) todo in
      let m =
      onward_of Asked Fine walks p R now new reached there later (Go p h) steps
      (done (act p h o now.world).world ((act p h o now.world).next ++ [])) (goes p now there o [] todo h)
      (first_on h o now.world [] free has leads) k.0 k.1 in
      rests_of Asked Fine walks p R steps m.machine new m.todo m.reached m.there later m.is m.leads
      (both_true (p == p) (are_onward_of p steps) on).1 m.made empty

  pub lone_calls_told_of : (s : Machine) → Reached s → (c : Call) (h : Hint) (o : Op) (steps : List Step) (new : Machine)
      → IsQuiet s.world.trace → Fine new → (begins p None c s.world).next ≡ o ∷ [] → end_of (Some o) ≡ None → waits o ≡ false
      → FirstLeadsOf Asked p h (upon [] (begins p None c s.world)) R → IsLoneCall p c (Go p h ∷ steps) s new → Rests p R new
  lone_calls_told_of s reached c h o steps new quiet later first unended free leads lone =
      let k = run-first (Begin p c) (Go p h ∷ steps) s new lone.made in
      let b = begun_so s reached p c o quiet k.0 first unended in
      let d : Done = begins p None c s.world in
      told_from (after s (Begin p c)) new b.reached b.there h o steps later b.todo free
      (subst (λ w. FirstLeadsOf Asked p h (done w (o ∷ [])) R) (sym b.world)
      (subst (λ os. FirstLeadsOf Asked p h (done d.world os) R) (append-nil d.next ∙ first) leads))
      lone.alone k.1
      (rests new (deep-here new (reached-more (Begin p c ∷ Go p h ∷ steps) s new reached lone.made)) lone.ended p)

  pub lone_calls_told_twice_of : (s : Machine) → Reached s → (c : Call) (g h : Hint) (o x : Op) (steps : List Step) (new : Machine)
      → IsQuiet s.world.trace → Fine new → (begins p None c s.world).next ≡ o ∷ [] → end_of (Some o) ≡ None → waits o ≡ false
      → (act p g o (begins p None c s.world).world).next ++ [] ≡ x ∷ []
      → ((w : World) → ended p w (x ∷ []) ≡ done w (x ∷ [])) → waits x ≡ false
      → SecondLeadsOf Asked p g h (upon [] (begins p None c s.world)) R → IsLoneCall p c (Go p g ∷ Go p h ∷ steps) s new
      → Rests p R new
  lone_calls_told_twice_of s reached c g h o x steps new quiet later first unended free then_x unended_x free_x leads lone =
      let k = run-first (Begin p c) (Go p g ∷ Go p h ∷ steps) s new lone.made in
      let b = begun_so s reached p c o quiet k.0 first unended in
      let d : Done = begins p None c s.world in
      let now = after s (Begin p c) in
      let k2 = run-first (Go p g) (Go p h ∷ steps) now new k.1 in
      let has = walks.gives now p b.reached b.there (walks.back (Go p g ∷ Go p h ∷ steps) now new b.reached k.1 later) (o ∷ []) b.todo in
      let m = goes p now b.there o [] b.todo g in
      let e : Done = done (act p g o now.world).world ((act p g o now.world).next ++ []) in
      let to_x : e.next ≡ x ∷ [] = ap (λ w. (act p g o w).next ++ []) b.world ∙ then_x in
      let same : ended p e.world e.next ≡ e =
      ap (ended p e.world) to_x ∙ (unended_x e.world ∙ ap (λ os. done e.world os) (sym to_x)) in
      let leads_now : SecondLeadsOf Asked p g h (done now.world (o ∷ [])) R =
      subst (λ w. SecondLeadsOf Asked p g h (done w (o ∷ [])) R) (sym b.world)
      (subst (λ os. SecondLeadsOf Asked p g h (done d.world os) R) (append-nil d.next ∙ first) leads) in
      let next = after now (Go p g) in
      let world : next.world ≡ e.world = m.world ∙ ap (λ (y : Done). y.world) same in
      let todo : reverse (stack next p) ≡ x ∷ [] = m.todo ∙ (ap (λ (y : Done). y.next) same ∙ to_x) in
      told_from next new (reached-step now (Go p g) k2.0 b.reached)
      (subst (λ n. p < n) (sym (length-set now.parties p _)) b.there) h x steps later todo free_x
      (subst (λ w. FirstLeadsOf Asked p h (done w (x ∷ [])) R) (sym world)
      (subst (λ os. FirstLeadsOf Asked p h (done e.world os) R) to_x (second_on g h o now.world [] free has leads_now)))
      (both_true (p == p) (are_onward_of p (Go p h ∷ steps)) lone.alone).1 k2.1
      (rests new (deep-here new (reached-more (Begin p c ∷ Go p g ∷ Go p h ∷ steps) s new reached lone.made)) lone.ended p)

pub lone_calls_told : (s : Machine) → Reached s → (p : ℕ) (c : Call) (h : Hint) (o : Op) (steps : List Step) (new : Machine)
    (P : World → Type 0) → IsQuiet s.world.trace → new.world.gone ≡ false
    → (begins p None c s.world).next ≡ o ∷ [] → end_of (Some o) ≡ None → waits o ≡ false
    → FirstLeads p h (upon [] (begins p None c s.world)) P → IsLoneCall p c (Go p h ∷ steps) s new → P new.world
lone_calls_told s reached p c h o steps new P quiet later first unended free leads lone =
    ends_so p P new
    (lone_calls_told_of Has IsBefore before p (AtEnd P) s reached c h o steps new quiet later first unended free leads lone)

pub lone_calls_told_twice : (s : Machine) → Reached s → (p : ℕ) (c : Call) (g h : Hint) (o x : Op) (steps : List Step)
    (new : Machine) (P : World → Type 0) → IsQuiet s.world.trace → new.world.gone ≡ false
    → (begins p None c s.world).next ≡ o ∷ [] → end_of (Some o) ≡ None → waits o ≡ false
    → (act p g o (begins p None c s.world).world).next ++ [] ≡ x ∷ []
    → ((w : World) → ended p w (x ∷ []) ≡ done w (x ∷ [])) → waits x ≡ false
    → SecondLeads p g h (upon [] (begins p None c s.world)) P → IsLoneCall p c (Go p g ∷ Go p h ∷ steps) s new → P new.world
lone_calls_told_twice s reached p c g h o x steps new P quiet later first unended free then_x unended_x free_x leads lone =
    ends_so p P new
    (lone_calls_told_twice_of Has IsBefore before p (AtEnd P) s reached c g h o x steps new quiet later first unended free then_x
    unended_x free_x leads lone)
