-- A call of a waker or a handle that begins in the drop of an output that owes something, and the end of that drop, also of such drops one
-- inside another: where the party rests next both stand alike, as they do by what is known of such calls and ends.
use Rattle.std.proofs.Common.{◌≡◌, ℕ, ◌<◌, ◌≤◌, ◌==◌, ◌++◌, not, Bool, true, false, List, [], ◌∷◌, length, Option, Some, None}
use Rattle.std.proofs.Common.{refl, sym, ap, subst, ◌∙◌, arith}
use Rattle.std.specs.Prelude.{reverse}
use Rattle.std.proofs.lemmas.Bool.Decides.{nat_tests}
use Rattle.executor_model.specs.declared.call.Call.{Call}
use Rattle.executor_model.specs.declared.call.Call.TheVariants as call
use Rattle.executor_model.specs.declared.op.Op.{Op}
use Rattle.executor_model.specs.declared.op.Op.TheVariants as op
use Rattle.executor_model.specs.declared.op.UserOp.TheVariants as user_op
use Rattle.executor_model.specs.declared.op.Waker.{Waker}
use Rattle.executor_model.specs.declared.step.Hint.{Hint}
use Rattle.executor_model.specs.declared.step.Step.TheVariants.{Answer, Begin}
use Rattle.executor_model.specs.declared.step.UserEnd.{UserEnd}
use Rattle.executor_model.specs.declared.step.UserEnd.TheVariants as end
use Rattle.executor_model.specs.Rows.{handling_of}
use Rattle.executor_model.specs.Steps.{Machine, accepts, begin_refusal, has_all, has_handle, is_known, is_on_executor, is_unused, mine}
use Rattle.executor_model.specs.Steps.{react, stack, top, waker_of}
use Rattle.executor_model.specs.Weights.{same, weigh, weigh_all}
use Rattle.executor_model.specs.World.{Done, World, among, done, task}
use Rattle.executor_model.proofs.Steps.Lists.{same_is}
use Rattle.executor_model.proofs.Steps.Reached.{Reached}
use Rattle.plain_scheduler.specs.State.{Choice, Code, Granted, Lose, Plain, Refusal}
use Rattle.plain_scheduler.specs.Calls as plain
use Rattle.plain_scheduler.specs.Calls.{does, Ends}
use Rattle.machine_roads.specs.View.{Output, wakes}
use Rattle.machine_roads.specs.Alone.{alone, is_resting, HasAllBy}
use Rattle.machine_roads.specs.Alike.{begins, upon}
use Rattle.machine_roads.specs.Closing.{called, loses}
use Rattle.machine_roads.specs.Course.{IsCall, cancel, copy, detach, drop_handle, poll_handle, release, use_waker, wake}
use Rattle.machine_roads.specs.InLoss.{handle_in, loss_codes, loss_ops, spares}
use Rattle.machine_roads.specs.Losing.{left_of}
use Rattle.machine_roads.specs.Within.{IsCallIn, StandsAlike, alike, begins as begins_by}
use Rattle.machine_roads.specs.Within.{ends as ends_by}
use Rattle.machine_roads.proofs.ActBegins.{choice_in, chosen_in}
use Rattle.machine_roads.proofs.Counting.{Counted, StandsSo, like}
use Rattle.machine_roads.proofs.Inmost.{whole}
use Rattle.machine_roads.proofs.Inside.{ends_inside}
use Rattle.machine_roads.proofs.LaterAnew.{granted_anew, off_anew}
use Rattle.machine_roads.proofs.LoneRuns.{both_true}
use Rattle.machine_roads.proofs.LoneTicks.{there_all}
use Rattle.machine_roads.proofs.Named.{Named, named}
use Rattle.machine_roads.proofs.RunsBeside.{cancel_runs, copy_runs, detach_runs, handle_runs, poll_runs, release_runs, use_runs, wake_runs}
use Rattle.machine_roads.proofs.Tying.{LeadsBy, top_of}
use Rattle.machine_roads.proofs.Unsearched.{ActsAnyhow, loss_so, off_so}

-- the handles that go are in use
one_use : (r k : ℕ) → (r == k) ≡ true → 1 ≤ same r k
one_use r k is = grind (arith, same_is, nat_tests)

none_used : (n : ℕ) → (n == 0) ≡ true → n ≡ 0
none_used n is = grind (arith, nat_tests)

unused_spares : (g : ℕ) (fs : List ℕ) (below : List Op) → weigh (handling_of g) (loss_ops fs below) ≡ 0 → not (among g fs) ≡ true
unused_spares g [] below none = refl
unused_spares g (f ∷ fs) below none = by (unused_spares g fs below (omega (arith, none))) (g == f) refl
  where
    by : not (among g fs) ≡ true → (b : Bool) → (g == f) ≡ b → not (among g (f ∷ fs)) ≡ true
    by others true here = absurd (omega (arith, none, one_use g f here))
    by others false apart = ap (λ b. not (elim b [ true ↦ true | false ↦ among g fs ])) apart ∙ others

module _ (s : Machine) (reached : Reached s) (p : ℕ) (there : p < length s.parties) (fs : List ℕ) (below : List Op)
    (is : reverse (stack s p) ≡ loss_ops fs below) where
  apart_from : (g : ℕ) → has_handle s.world s.parties g ≡ true → not (among g fs) ≡ true
  apart_from g has =
      let unused = none_used (weigh_all (handling_of g) s.parties)
      (both_true ((task s.world g).handle) (is_unused (handling_of g) s.parties) has).1 in
      unused_spares g fs below (omega (arith, unused, whole s p reached there (loss_ops fs below) is (handling_of g)))

  pub spares_all : (o : Option Op) (c : Call) → has_all s.world s.parties o c ≡ true → spares fs (handle_in c) ≡ true
  spares_all o (call.PollHandle g b) has =
      apart_from g (both_true (has_handle s.world s.parties g) (is_known o b) has).0
  spares_all o (call.Cancel g) has = apart_from g has
  spares_all o (call.Detach g) has = apart_from g has
  spares_all o (call.DropHandle g) has = apart_from g has
  spares_all o c has = refl

-- no run changes
pub stays_runs : (w : World) (c : Call) (x : plain.Call Output Waker) (d : Choice) (q : Plain Output Waker) → is_on_executor c ≡ false
    → IsCall w c x → (does wakes d x q).runs ≡ q.runs
stays_runs w c x d q off (use_waker k f is) = use_runs d q f
stays_runs w c x d q off (wake k f is) = wake_runs d q f
stays_runs w c x d q off (copy k f is) = copy_runs d q f
stays_runs w c x d q off (release k f is) = release_runs d q f
stays_runs w c x d q off (poll_handle f b) = poll_runs d q f (waker_of None b)
stays_runs w c x d q off (cancel f) = cancel_runs d q f
stays_runs w c x d q off (detach f) = detach_runs d q f
stays_runs w c x d q off (drop_handle f) = handle_runs d q f
stays_runs w c x d q off is = absurd cc

-- it doesn't stand in a poll
pub no_poll_at : (s : Machine) (p : ℕ) (o : Op) (os : List Op) → mine (Some o) ≡ None → reverse (stack s p) ≡ o ∷ os
    → mine (top (stack s p)) ≡ None
no_poll_at s p o os none next = ap (λ o. mine o) (top_of (stack s p) o os next).0 ∙ none

pub all_rest : (base : List Op) → is_resting base ≡ true → (hs : List ℕ) → is_resting (loss_ops hs base) ≡ true
all_rest base under [] = under
all_rest base under (h ∷ hs) = refl

-- a call that begins there, and the end of the innermost drop, go so
abbrev pub BeginsSo : (World → List Op → Type 0) → Machine → ℕ → Plain Output Waker → Call → Type 0
BeginsSo P s p q c =
    LeadsBy P p (upon (reverse (stack s p)) (begins p (mine (top (stack s p))) c s.world))
    (λ e. (r : Plain Output Waker) × ActsAnyhow s p (Begin p c) q r e.world × StandsSo e r)

abbrev pub EndsSo : (World → List Op → Type 0) → Machine → ℕ → Plain Output Waker → ℕ → List Op → UserEnd → Type 0
EndsSo P s p q g os u =
    LeadsBy P p (done (react p (op.User (user_op.DropOutput g)) u s.world).world
    ((react p (op.User (user_op.DropOutput g)) u s.world).next ++ (left_of g ++ os)))
    (λ e. (r : Plain Output Waker) × ActsAnyhow s p (Answer p u) q r e.world × StandsSo e r)

-- such drops, above what lies below them; how both stand there; what is asked of all that is left to do; which calls lose an output, and
-- what else is asked of a call
module _ (s : Machine) (p : ℕ) (q : Plain Output Waker) (gs : List ℕ) (base : List Op) (codes : List (Code Output Waker))
    (Stands : World → List ℕ → Plain Output Waker → Type 0) (P : World → List Op → Type 0) (lost : plain.Call Output Waker → Bool)
    (Fits : Call → plain.Call Output Waker → Type 0) where
  abbrev os : List Op
  os = loss_ops gs base

  abbrev its : Option Op
  its = top (stack s p)

  abbrev choice : Refusal → Choice
  choice r = choice_in s q r

  abbrev Of : Bool → (Call → plain.Call Output Waker → Done → Type 0) → Type 0
  Of b So =
      (c : Call) (x : plain.Call Output Waker) → is_on_executor c ≡ false → spares gs (handle_in c) ≡ true → IsCall s.world c x → Fits c x
      → (hints : List Hint) → HasAllBy P p hints (upon os (begins p None c s.world)) → is_resting (called p hints os c s.world).next ≡ true
      → lost x ≡ b → So c x (called p hints os c s.world)

  -- a call that loses nothing, and one that does
  abbrev pub CallsStay : Type 0
  CallsStay =
      Of false (λ c x e. (r : Refusal) × (e.next ≡ os) × ((does wakes (choice r) x q).inside ≡ q.inside)
      × Stands e.world gs (does wakes (choice r) x q))

  abbrev pub CallsLose : Type 0
  CallsLose =
      Of true (λ c x e. (g : ℕ) × (e.next ≡ loss_ops (g ∷ gs) base)
      × ((does wakes (choice Granted) x q).inside ≡ Lose None None ∷ q.inside)
      × Stands e.world (g ∷ gs) (does wakes (choice Granted) x q))

  -- the end of the innermost drop
  abbrev pub CodesEnd : Type 0
  CodesEnd =
      (g : ℕ) (hs : List ℕ) → gs ≡ g ∷ hs → (hints : List Hint) → let d = done s.world (left_of g ++ loss_ops hs base) in
      HasAllBy P p hints d → is_resting (alone p hints d).next ≡ true
      → ((alone p hints d).next ≡ loss_ops hs base)
      × Stands (alone p hints d).world hs (does wakes (choice Granted) Ends (record q { inside = Lose None None ∷ loss_codes hs codes }))

  module _ (next : reverse (stack s p) ≡ loss_ops gs base) (at : q.inside ≡ loss_codes gs codes) (no_poll : mine (top (stack s p)) ≡ None)
      (under : is_resting base ≡ true) (counted : Counted (reverse (stack s p)) q.runs)
      (place : (hs : List ℕ) (e : Done) (z : Plain Output Waker) → e.next ≡ loss_ops hs base → z.inside ≡ loss_codes hs codes
      → Stands e.world hs z → StandsAlike e z) where
    count : Counted os q.runs
    count = subst (λ xs. Counted xs q.runs) next counted

    -- a call
    abbrev Comes : Call → Done → Type 0
    Comes c e = (r : Plain Output Waker) × ActsAnyhow s p (Begin p c) q r e.world × StandsSo e r

    module _ (stays : CallsStay) (loses : CallsLose) (c : Call) (off : is_on_executor c ≡ false) (n : Named s.world c)
        (spared : spares gs (handle_in c) ≡ true) (fits : Fits c n.made) (hints : List Hint)
        (has : HasAllBy P p hints (upon os (begins p None c s.world))) (rests : is_resting (called p hints os c s.world).next ≡ true) where
      abbrev e : Done
      e = called p hints os c s.world

      acts : (r : Refusal) → ActsAnyhow s p (Begin p c) q (does wakes (choice r) n.made q) e.world
      acts r = λ start. record {
        choice = choice r;
        made = n.made;
        chosen = chosen_in s q r;
        is = begins_by c n.made (subst (λ here. IsCallIn here s.world c n.made) (sym no_poll) n.within_none);
        so = refl;
        anew = off_anew q (does wakes (choice r) n.made q) None s.world c (choice r) n.made n.within_none off;
        chooses = off_so None s.world (choice r) q p hints c off os (all_rest base under gs) n.made n.within_none None start;
      }

      runs_so : (r : Refusal) → Counted os (does wakes (choice r) n.made q).runs
      runs_so r = subst (Counted os) (sym (stays_runs s.world c n.made (choice r) q off n.is)) count

      comes : (b : Bool) → lost n.made ≡ b → Comes c e
      comes false none =
          let so = stays c n.made off spared n.is fits hints has rests none in
          let z : Plain Output Waker = does wakes (choice so.0) n.made q in (
            z,
            acts so.0,
            record {
              alike = place gs e z so.1 (so.2 ∙ at) so.3;
              counted = subst (λ xs. Counted xs z.runs) (sym so.1) (runs_so so.0);
            },
          )
      comes true some =
          let so = loses c n.made off spared n.is fits hints has rests some in
          let g : ℕ = so.0 in
          let z : Plain Output Waker = does wakes (choice Granted) n.made q in (
            z,
            acts Granted,
            record {
              alike = place (g ∷ gs) e z so.1 (so.2 ∙ ap (λ codes. Lose None None ∷ codes) at) so.3;
              counted =
                  subst (λ xs. Counted xs z.runs) (sym so.1)
                  (like os (loss_ops (g ∷ gs) base) z.runs (record { last = λ r. refl; left = λ r. refl }) (runs_so Granted));
            },
          )

    pub loss_begins : CallsStay → CallsLose → Reached s → p < length s.parties → (c : Call) → is_on_executor c ≡ false
        → begin_refusal s.world s.parties its c ≡ None
        → ((x : plain.Call Output Waker) → IsCall s.world c x → has_all s.world s.parties its c ≡ true → Fits c x) → BeginsSo P s p q c
    loss_begins stays loses reached there c off may fits =
        let all = there_all s.world s.parties its c may in
        let spared = spares_all s reached p there gs base next its c all in
        let n = named s.world s.parties its no_poll c off all in
        subst (λ xs. LeadsBy P p (upon xs (begins p (mine its) c s.world)) (Comes c)) (sym next)
        (subst (λ here. LeadsBy P p (upon os (begins p here c s.world)) (Comes c)) (sym no_poll)
        (λ hints has rests. comes stays loses c off n spared (fits n.made n.is all) hints has rests (lost n.made) refl))

    -- the innermost drop ends
    pub loss_ends : CodesEnd → (g : ℕ) (hs : List ℕ) → gs ≡ g ∷ hs → (u : UserEnd) → accepts (op.User (user_op.DropOutput g)) u ≡ true
        → EndsSo P s p q g (loss_ops hs base) u
    loss_ends ends g hs is end.Done ok = λ hints has rests.
        let inside = loss_codes hs codes in
        let q1 : Plain Output Waker = record q { inside = Lose None None ∷ inside } in
        let first : q.inside ≡ Lose None None ∷ inside = at ∙ ap (λ gs. loss_codes gs codes) is in
        let same : q1 ≡ q = ap (λ codes. record q { inside = codes }) (sym first) in
        let e : Done = alone p hints (done s.world (left_of g ++ loss_ops hs base)) in
        let so = ends g hs is hints has rests in
        let z : Plain Output Waker = does wakes (choice Granted) Ends q1 in
        let left : Counted (loss_ops hs base) q.runs =
        like (loss_ops (g ∷ hs) base) (loss_ops hs base) q.runs (record { last = λ r. refl; left = λ r. refl })
        (subst (λ gs. Counted (loss_ops gs base) q.runs) is count) in (
          does wakes (choice Granted) Ends q,
          λ start. record {
            choice = choice Granted;
            made = Ends;
            chosen = (chosen_in s q Granted).tells;
            is = ends_by;
            so = refl;
            anew = granted_anew q (does wakes (choice Granted) Ends q) (choice Granted) Ends refl;
            chooses = loss_so p hints s.world g (loss_ops hs base) (all_rest base under hs) (choice Granted) q None inside first start;
          },
          subst (λ y. StandsSo e (does wakes (choice Granted) Ends y)) same
              (record {
                alike = place hs e z so.0 (ends_inside (choice Granted) q1 inside refl) so.1;
                counted = subst (λ xs. Counted xs z.runs) (sym so.0) left;
              }),
        )
    loss_ends ends g hs is u ok = absurd cc
