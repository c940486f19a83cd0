-- A lone call of a machine leaves it where its party, alone, leaves its world.
use Rattle.std.proofs.Common.{◌≡◌, ℕ, ◌<◌, ◌++◌, ◌&&◌, ◌||◌, not, nat_lt, Bool, true, false, List, [], ◌∷◌, length}
use Rattle.std.proofs.Common.{Option, Some, None, Result, Ok, Err, refl, sym, ap, subst, ◌∙◌, arith, append-nil, get_or-set_same}
use Rattle.std.{proofs.Math.ListN.length-set}
use Rattle.std.specs.Prelude.{reverse}
use Rattle.std.proofs.lemmas.Bool.Decides.{nat_tests}
use Rattle.executor_model.specs.declared.call.Call.{Call}
use Rattle.executor_model.specs.declared.event.Event.{Event}
use Rattle.executor_model.specs.declared.event.Event.TheVariants as event
use Rattle.executor_model.specs.declared.op.Op.{Op}
use Rattle.executor_model.specs.declared.op.Op.TheVariants as op
use Rattle.executor_model.specs.declared.op.UserOp.TheVariants as user_op
use Rattle.executor_model.specs.declared.step.Hint.{Hint}
use Rattle.executor_model.specs.declared.step.Step.{Step}
use Rattle.executor_model.specs.declared.step.Step.TheVariants.{Begin, Go, Answer}
use Rattle.executor_model.specs.declared.step.StepError.{StepError}
use Rattle.executor_model.specs.declared.step.StepError.TheVariants.{Idle, NoSuch, WrongAnswer, Waits}
use Rattle.executor_model.specs.declared.step.UserEnd.{UserEnd}
use Rattle.executor_model.specs.Doing.{act}
use Rattle.executor_model.specs.Executions.{run_all}
use Rattle.executor_model.specs.Quiet.{IsQuiet}
use Rattle.executor_model.specs.Steps.{Machine, Part, accepts, after, answer_refusal, begun, go_refusal, is_locked_out, mine, onto}
use Rattle.executor_model.specs.Steps.{part_refusal, react, refusal, run, stack, stepped, top}
use Rattle.executor_model.specs.Steps.{unless, waits}
use Rattle.executor_model.specs.Trace.{Trace, has, is_drop_begun}
use Rattle.executor_model.specs.World.{World, Done, done, log}
use Rattle.executor_model.proofs.OneFuture.Telling.{begun-has}
use Rattle.executor_model.proofs.Quiet.Resting.{rests}
use Rattle.executor_model.proofs.Steps.Reached.{Reached, deep-here, reached-more, reached-step, run-first}
use Rattle.executor_model.proofs.Steps.Stepping.{refusal-there, step-made}
use Rattle.executor_model.proofs.Steps.TraceSteps.{run-continues}
use Rattle.executor_model.proofs.SpawnWants.Tops.{flipped}
use Rattle.executor_laws.specs.LoneEnds.{IsLoneCall, are_onward_of, is_onward_of}
use Rattle.machine_roads.specs.Alone.{is_resting, Has, HasFirst}
use Rattle.machine_roads.specs.Alike.{begins, upon}
use Rattle.machine_roads.specs.Road.{Follows}
use Rattle.machine_roads.specs.Lone.{LoneCallIsAlone}
use Rattle.machine_roads.proofs.Lists.{clash, same_of}
use Rattle.machine_roads.proofs.Having.{has_here, heard_here}
use Rattle.machine_roads.proofs.Tying.{AtEnd, Goes, IsEasy, Leads, LeadsSo, LeadsSoOf, answers, ended, goes, leads_ended}
use Rattle.machine_roads.proofs.Tying.{leads_on, leads_outside, leads_rest, none_of, settles, top_of}

pub made_is : (s new : Machine) → ◌≡◌ {A = Result Machine StepError} (Ok s) (Ok new) → s ≡ new
made_is s new is = ap (λ (r : Result Machine StepError). by r) is
  where
    by : Result Machine StepError → Machine
    by (Ok m) = m
    by (Err e) = s

-- what ran leads where all that is possible does
run_is : (ts : List Step) (s new : Machine) → run_all ts s ≡ Ok new → run ts s ≡ new
run_is [] s new made = made_is s new made
run_is (t ∷ ts) s new made =
    let k = run-first t ts s new made in
    ap (λ (r : Result Machine StepError). run ts (stepped s r)) (step-made s t k.0) ∙ run_is ts (after s t) new k.1

or_true : (a b : Bool) → b ≡ true → (a || b) ≡ true
or_true true b is = refl
or_true false b is = is

has_before : (test : Event → Bool) (xs ys : Trace) → has test xs ≡ true → has test (xs ++ ys) ≡ true
has_before test [] ys is = absurd cc
has_before test (x ∷ xs) ys is = by (test x) (has_before test xs ys) is
  where
    by : (b : Bool) → (has test xs ≡ true → has test (xs ++ ys) ≡ true) → (b || has test xs) ≡ true
        → (b || has test (xs ++ ys)) ≡ true
    by true rest is = refl
    by false rest is = rest is

pub tells : (m : Machine) → Reached m → has is_drop_begun m.world.trace ≡ m.world.gone
tells m reached = sym (begun-has 0 m.world.trace) ∙ ((heard_here m reached).placed.leaves 0).begun

-- the executor's drop that hasn't begun later hasn't begun before
pub gone_before : (ts : List Step) (s new : Machine) → Reached s → run_all ts s ≡ Ok new → new.world.gone ≡ false
    → s.world.gone ≡ false
gone_before ts s new reached made later = by (has is_drop_begun s.world.trace) refl
  where
    more : (more : Trace) × (new.world.trace ≡ s.world.trace ++ more)
    more =
        let k = run-continues ts s in
        (k.0, ap (λ (m : Machine). m.world.trace) (sym (run_is ts s new made)) ∙ k.1)

    by : (b : Bool) → has is_drop_begun s.world.trace ≡ b → s.world.gone ≡ false
    by false is = sym (tells s reached) ∙ is
    by true is =
        absurd (clash later (sym (tells new (reached-more ts s new reached made))
        ∙ (ap (has is_drop_begun) more.1 ∙ has_before is_drop_begun s.world.trace more.0 is)))

pub passed : (b : Bool) (e : StepError) (later : Option StepError) → unless b e later ≡ None → b ≡ true
passed true e later is = refl
passed false e later is = absurd cc

pub not_true : (b : Bool) → not b ≡ true → b ≡ false
not_true true is = absurd cc
not_true false is = refl

pub both_true : (a b : Bool) → (a && b) ≡ true → (a ≡ true) × (b ≡ true)
both_true true b is = (refl, is)
both_true false b is = absurd cc

-- in a machine of this kind each thing to do has what is asked of it, and so it is in those before
pub record WalksBy (P : World → List Op → Type 0) (Fine : Machine → Type 0) : Type 0 where
  pub easy : IsEasy P
  pub gives : (s : Machine) (p : ℕ) → Reached s → p < length s.parties → Fine s → (os : List Op) → reverse (stack s p) ≡ os
      → P s.world os
  pub back : (ts : List Step) (s new : Machine) → Reached s → run_all ts s ≡ Ok new → Fine new → Fine s

abbrev pub Walks : (World → Op → Type 0) → (Machine → Type 0) → Type 0
Walks Asked Fine = WalksBy (HasFirst Asked) Fine

-- where it is asked of the first one
pub of_top : (Asked : World → Op → Type 0) (Fine : Machine → Type 0)
    → ((s : Machine) (p : ℕ) → Reached s → p < length s.parties → Fine s → (o : Op) → top (stack s p) ≡ Some o → Asked s.world o)
    → (s : Machine) (p : ℕ) → Reached s → p < length s.parties → Fine s → (os : List Op) → reverse (stack s p) ≡ os
    → HasFirst Asked s.world os
of_top Asked Fine gives s p reached there fine [] is = tt
of_top Asked Fine gives s p reached there fine (o ∷ os) is = gives s p reached there fine o (top_of (stack s p) o os is).0

-- where the executor's drop hasn't begun
abbrev pub IsBefore : Machine → Type 0
IsBefore s = s.world.gone ≡ false

pub before : Walks Has IsBefore
before = record {
  easy = record { ends = λ w r held os. tt; outside = λ w x os. tt };
  gives = of_top Has IsBefore (λ s p reached there open_still o is. has_here s p reached there o open_still is);
  back = gone_before;
}

module _ (p : ℕ) (R : Done → Type 0) where
  -- it rests in user code, which ends so, and goes on
  pub record InCode (new : Machine) : Type 0 where
    pub machine : Machine
    pub first : Op
    pub rest : List Op
    pub end : UserEnd
    pub steps : List Step
    pub reached : Reached machine
    pub there : p < length machine.parties
    pub is : reverse (stack machine p) ≡ first ∷ rest
    pub so : R (done machine.world (first ∷ rest))
    pub accepted : accepts first end ≡ true
    pub made : run_all (Answer p end ∷ steps) machine ≡ Ok new
    pub follow : are_onward_of p steps ≡ true

  -- where it rests first: at its end, or in user code
  pub data Rests (new : Machine) : Type 0 where
    Whole : R (done new.world []) → Rests new
    Inside : InCode new → Rests new

module _ (Asked : World → Op → Type 0) (Fine : Machine → Type 0) (walks : Walks Asked Fine) (p : ℕ) (R : Done → Type 0) where
  -- one step, and what is then left of it
  pub record OnwardOf (new : Machine) (ts : List Step) : Type 0 where
    pub machine : Machine
    pub todo : List Op
    pub reached : Reached machine
    pub there : p < length machine.parties
    pub is : reverse (stack machine p) ≡ todo
    pub leads : LeadsSoOf Asked p (done machine.world todo) R
    pub made : run_all ts machine ≡ Ok new

  data Comes (new : Machine) (ts : List Step) : Type 0 where
    Further : OnwardOf new ts → Comes new ts
    Stands : InCode p R new → Comes new ts

  module _ (s new : Machine) (reached : Reached s) (there : p < length s.parties) (later : Fine new) where
    still_there : (t : Step) → p < length (after s t).parties
    still_there t = subst (λ n. p < n) (sym (length-set s.parties _ _)) there

    pub onward_of : (t : Step) (ts : List Step) (d : Done) → Goes p s (after s t) d → LeadsSoOf Asked p (done d.world d.next) R
        → refusal s t ≡ None → run_all ts (after s t) ≡ Ok new → OnwardOf new ts
    onward_of t ts d goes leads may made = record {
      machine = after s t;
      todo = (ended p d.world d.next).next;
      reached = reached-step s t may reached;
      there = still_there t;
      is = goes.todo;
      leads =
          subst (λ w. LeadsSoOf Asked p (done w (ended p d.world d.next).next) R) (sym goes.world)
          (leads_ended (HasFirst Asked) walks.easy p R d.world d.next leads);
      made = made;
    }

    idle : (t : Step) → is_onward_of p t ≡ true → reverse (stack s p) ≡ [] → refusal s t ≡ None → ⊥
    idle (Begin q c) on none may = absurd cc
    idle (Go q h) on none may =
        let no : ◌≡◌ {A = Option StepError} (Some Idle) None =
        sym (ap (λ xs. go_refusal s.world (top xs)) (none_of (stack s p) none))
        ∙ (sym (refusal-there s (Go p h) there) ∙ (ap (λ n. refusal s (Go n h)) (same_of p q on) ∙ may)) in
        cc
    idle (Answer q e) on none may =
        let no : ◌≡◌ {A = Option StepError} (Some Idle) None =
        sym (ap (λ xs. answer_refusal (top xs) e) (none_of (stack s p) none))
        ∙ (sym (refusal-there s (Answer p e) there) ∙ (ap (λ n. refusal s (Answer n e)) (same_of p q on) ∙ may)) in
        cc

    module _ (o : Op) (os : List Op) (is : reverse (stack s p) ≡ o ∷ os) (leads : LeadsSoOf Asked p (done s.world (o ∷ os)) R)
        (ts : List Step) where
      by_go : (h : Hint) → refusal s (Go p h) ≡ None → run_all ts (after s (Go p h)) ≡ Ok new → Fine s
          → OnwardOf new ts
      by_go h may made open_still =
          let its_top = (top_of (stack s p) o os is).0 in
          let goes_on : unless (not (waits o)) WrongAnswer (unless (not (is_locked_out s.world.lock o)) Waits None) ≡ None =
          sym (ap (go_refusal s.world) its_top) ∙ (sym (refusal-there s (Go p h) there) ∙ may) in
          let free =
          not_true (waits o)
          (passed (not (waits o)) WrongAnswer (unless (not (is_locked_out s.world.lock o)) Waits None) goes_on) in
          onward_of (Go p h) ts (done (act p h o s.world).world ((act p h o s.world).next ++ os)) (goes p s there o os is h)
          (leads_on (HasFirst Asked) walks.easy p R h o s.world os free (walks.gives s p reached there open_still (o ∷ os) is) leads) may
          made

      by_answer : (e : UserEnd) → are_onward_of p ts ≡ true → run_all (Answer p e ∷ ts) s ≡ Ok new → refusal s (Answer p e) ≡ None
          → run_all ts (after s (Answer p e)) ≡ Ok new → Comes new ts
      by_answer e follow whole may made =
          let its_top = (top_of (stack s p) o os is).0 in
          let accepted = passed (accepts o e) WrongAnswer None
          (sym (ap (λ t. answer_refusal t e) its_top) ∙ (sym (refusal-there s (Answer p e) there) ∙ may)) in
          by o refl accepted
        where
          in_here : (o_is : Op) → o ≡ o_is → accepts o_is e ≡ true → is_resting (o_is ∷ os) ≡ true → Comes new ts
          in_here o_is same ok resting = Stands (record {
            machine = s;
            first = o;
            rest = os;
            end = e;
            steps = ts;
            reached = reached;
            there = there;
            is = is;
            so = leads_rest (HasFirst Asked) walks.easy p R s.world (o ∷ os) (ap (λ x. is_resting (x ∷ os)) same ∙ resting) leads;
            accepted = ap (λ x. accepts x e) same ∙ ok;
            made = whole;
            follow = follow;
          })

          by : (o_is : Op) → o ≡ o_is → accepts o_is e ≡ true → Comes new ts
          by (op.User (user_op.CallOutside x)) same ok =
              Further (onward_of (Answer p e) ts (done s.world os)
              (subst (λ (d : Done). Goes p s (after s (Answer p e)) (done d.world (d.next ++ os)))
              (ap (λ x. react p x e s.world) same) (answers p s there o os is e))
              (leads_outside (HasFirst Asked) walks.easy p R x s.world os
              (subst (λ x. LeadsSoOf Asked p (done s.world (x ∷ os)) R) same leads)) may
              made)
          by (op.User (user_op.Poll f)) same ok = in_here (op.User (user_op.Poll f)) same ok refl
          by (op.User (user_op.Drop f)) same ok = in_here (op.User (user_op.Drop f)) same ok refl
          by (op.User (user_op.DropOutput f)) same ok = in_here (op.User (user_op.DropOutput f)) same ok refl
          by (op.User (user_op.PollOwn x)) same ok = in_here (op.User (user_op.PollOwn x)) same ok refl
          by (op.User (user_op.DropOwn r)) same ok = in_here (op.User (user_op.DropOwn r)) same ok refl
          by o_is same ok = absurd cc

  step_by : (t : Step) (ts : List Step) (s new : Machine) (os : List Op) → Reached s → p < length s.parties
      → Fine new → reverse (stack s p) ≡ os → LeadsSoOf Asked p (done s.world os) R → is_onward_of p t ≡ true
      → are_onward_of p ts ≡ true → run_all (t ∷ ts) s ≡ Ok new → Comes new ts
  step_by t ts s new [] reached there later is leads on_it follow made =
      absurd (idle s new reached there later t on_it is (run-first t ts s new made).0)
  step_by (Begin q c) ts s new (o ∷ os) reached there later is leads on_it follow made = absurd cc
  step_by (Go q h) ts s new (o ∷ os) reached there later is leads on_it follow made =
      let k = run-first (Go p h) ts s new (subst (λ n. run_all (Go n h ∷ ts) s ≡ Ok new) (sym (same_of p q on_it)) made) in
      Further (by_go s new reached there later o os is leads ts h k.0 k.1 (walks.back (Go q h ∷ ts) s new reached made later))
  step_by (Answer q e) ts s new (o ∷ os) reached there later is leads on_it follow made =
      let whole = subst (λ n. run_all (Answer n e ∷ ts) s ≡ Ok new) (sym (same_of p q on_it)) made in
      let k = run-first (Answer p e) ts s new whole in
      by_answer s new reached there later o os is leads ts e follow whole k.0 k.1

  rest_by : (new : Machine) (ts : List Step) → (OnwardOf new ts → Rests p R new) → Comes new ts → Rests p R new
  rest_by new ts goes (Further m) = goes m
  rest_by new ts goes (Stands x) = Inside x

  pub rests_of : (ts : List Step) (s new : Machine) (os : List Op) → Reached s → p < length s.parties → Fine new
      → reverse (stack s p) ≡ os → LeadsSoOf Asked p (done s.world os) R → are_onward_of p ts ≡ true → run_all ts s ≡ Ok new
      → stack new p ≡ [] → Rests p R new
  rests_of [] s new os reached there later is leads follow made empty =
      let same = made_is s new made in
      let none : os ≡ [] = sym is ∙ ap (λ (m : Machine). reverse (stack m p)) same ∙ ap (λ (ys : List Op). reverse ys) empty in
      Whole
      (subst (λ (m : Machine). R (done m.world [])) same
      (subst (λ xs. R (done s.world xs)) none (leads_rest (HasFirst Asked) walks.easy p R s.world os (ap is_resting none) leads)))
  rests_of (t ∷ ts) s new os reached there later is leads follow made empty =
      let two = both_true (is_onward_of p t) (are_onward_of p ts) follow in
      rest_by new ts
      (λ m. rests_of ts m.machine new m.todo m.reached m.there later m.is m.leads two.1 m.made empty)
      (step_by t ts s new os reached there later is leads two.0 two.1 made)

-- from the end of user code on
pub goes_on_of : (Asked : World → Op → Type 0) (Fine : Machine → Type 0) → Walks Asked Fine → (p : ℕ) (R S : Done → Type 0)
    (new : Machine) → Fine new → Reached new → IsQuiet new.world.trace → (x : InCode p R new)
    → LeadsSoOf Asked p (done (react p x.first x.end x.machine.world).world ((react p x.first x.end x.machine.world).next ++ x.rest)) S
    → Rests p S new
goes_on_of Asked Fine walks p R S new later last quiet x leads =
    let m = x.machine in
    let k = run-first (Answer p x.end) x.steps m new x.made in
    let o =
    onward_of Asked Fine walks p S m new x.reached x.there later (Answer p x.end) x.steps
    (done (react p x.first x.end m.world).world ((react p x.first x.end m.world).next ++ x.rest))
    (answers p m x.there x.first x.rest x.is x.end) leads k.0 k.1 in
    rests_of Asked Fine walks p S x.steps o.machine new o.todo o.reached o.there later o.is o.leads x.follow o.made
    (rests new (deep-here new last) quiet p)

module _ (p : ℕ) (R : Done → Type 0) where
  pub onward : (s new : Machine) → Reached s → p < length s.parties → new.world.gone ≡ false → (t : Step) (ts : List Step) (d : Done)
      → Goes p s (after s t) d → LeadsSo p (done d.world d.next) R → refusal s t ≡ None → run_all ts (after s t) ≡ Ok new
      → OnwardOf Has IsBefore before p R new ts
  onward s new reached there later t ts d goes leads may made =
      onward_of Has IsBefore before p R s new reached there later t ts d goes leads may made

  pub all_rests : (ts : List Step) (s new : Machine) (os : List Op) → Reached s → p < length s.parties → new.world.gone ≡ false
      → reverse (stack s p) ≡ os → LeadsSo p (done s.world os) R → are_onward_of p ts ≡ true → run_all ts s ≡ Ok new
      → stack new p ≡ [] → Rests p R new
  all_rests ts s new os reached there later is leads follow made empty =
      rests_of Has IsBefore before p R ts s new os reached there later is leads follow made empty

-- a call that rests at its end alone has ended
pub ends_so : (p : ℕ) (P : World → Type 0) (new : Machine) → Rests p (AtEnd P) new → P new.world
ends_so p P new (Whole so) = so.1
ends_so p P new (Inside x) = let none : x.first ∷ x.rest ≡ [] = x.so.0 in absurd cc

pub all_steps : (p : ℕ) (P : World → Type 0) (ts : List Step) (s new : Machine) (os : List Op) → Reached s → p < length s.parties
    → new.world.gone ≡ false → reverse (stack s p) ≡ os → Leads p (done s.world os) P → are_onward_of p ts ≡ true
    → run_all ts s ≡ Ok new → stack new p ≡ [] → P new.world
all_steps p P ts s new os reached there later is leads follow made empty =
    ends_so p P new (all_rests p (AtEnd P) ts s new os reached there later is leads follow made empty)

pub within : (n m : ℕ) → nat_lt n m ≡ true → n < m
within n m is = grind (arith, nat_tests)

upon_nothing : (d : Done) → upon [] d ≡ d
upon_nothing d = ap (λ os. done d.world os) (append-nil d.next)

pub lone_calls_rest_of : (Asked : World → Op → Type 0) (Fine : Machine → Type 0) → Walks Asked Fine → (s : Machine) → Reached s
    → (p : ℕ) (c : Call) (steps : List Step) (new : Machine) (R : Done → Type 0)
    → IsQuiet s.world.trace → Fine new → LeadsSoOf Asked p (upon [] (begins p None c s.world)) R
    → IsLoneCall p c steps s new → Rests p R new
lone_calls_rest_of Asked Fine walks s reached p c steps new R quiet later leaves lone =
    let k = run-first (Begin p c) steps s new lone.made in
    let there : p < length s.parties =
    within p (length s.parties)
    (passed (nat_lt p (length s.parties)) NoSuch (part_refusal s.world s.parties (stack s p) (Begin p c)) k.0) in
    let none : stack s p ≡ [] = rests s (deep-here s reached) quiet p in
    let d : Done = begins p None c s.world in
    let part : onto p (begun p (log s.world (event.CallBegun p c)) (mine (top (stack s p))) c) (stack s p) ≡ onto p d (stack s p) =
    ap (λ xs. onto p (begun p (log s.world (event.CallBegun p c)) (mine (top xs)) c) (stack s p)) none in
    let turned : reverse (stack s p ++ reverse d.next) ≡ d.next =
    flipped (stack s p) d.next ∙ (ap (λ xs. d.next ++ reverse xs) none ∙ append-nil d.next) in
    let e = settles p d.world (stack s p ++ reverse d.next) d.next turned in
    let first = after s (Begin p c) in
    let world : first.world ≡ (ended p d.world d.next).world = ap (λ (l : Part). l.world) part ∙ e.world in
    let todo : reverse (stack first p) ≡ (ended p d.world d.next).next =
    ap (λ (ys : List Op). reverse ys)
    (get_or-set_same s.parties p
    (onto p (begun p (log s.world (event.CallBegun p c)) (mine (top (stack s p))) c) (stack s p)).todo [] there
    ∙ ap (λ (l : Part). l.todo) part)
    ∙ e.todo in
    rests_of Asked Fine walks p R steps first new (ended p d.world d.next).next (reached-step s (Begin p c) k.0 reached)
    (subst (λ n. p < n) (sym (length-set s.parties p _)) there) later todo
    (subst (λ w. LeadsSoOf Asked p (done w (ended p d.world d.next).next) R) (sym world)
    (leads_ended (HasFirst Asked) walks.easy p R d.world d.next (subst (λ d. LeadsSoOf Asked p d R) (upon_nothing d) leaves)))
    lone.alone k.1 (rests new (deep-here new (reached-more (Begin p c ∷ steps) s new reached lone.made)) lone.ended p)

pub lone_calls_rest : (s : Machine) → Reached s → (p : ℕ) (c : Call) (steps : List Step) (new : Machine) (R : Done → Type 0)
    → IsQuiet s.world.trace → new.world.gone ≡ false → LeadsSo p (upon [] (begins p None c s.world)) R
    → IsLoneCall p c steps s new → Rests p R new
lone_calls_rest s reached p c steps new R quiet later leaves lone =
    lone_calls_rest_of Has IsBefore before s reached p c steps new R quiet later leaves lone

pub lone_calls_so : (s : Machine) → Reached s → (p : ℕ) (c : Call) (steps : List Step) (new : Machine) (P : World → Type 0)
    → IsQuiet s.world.trace → new.world.gone ≡ false → Leads p (upon [] (begins p None c s.world)) P
    → IsLoneCall p c steps s new → P new.world
lone_calls_so s reached p c steps new P quiet later leaves lone =
    ends_so p P new (lone_calls_rest s reached p c steps new (AtEnd P) quiet later leaves lone)

pub lone_calls : (s : Machine) → Reached s → LoneCallIsAlone s
lone_calls s reached p c steps new q quiet later leaves lone =
    lone_calls_so s reached p c steps new (λ w. Follows w q) quiet later (λ hints all rests. leaves hints tt all rests) lone
