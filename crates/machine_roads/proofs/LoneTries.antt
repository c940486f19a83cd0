-- A lone try, and a lone poll of a tick, with the ends of all the code that they come to: a poll, the drop of a future, and that of
-- an output.
use Rattle.std.proofs.Common.{◌≡◌, ℕ, ◌≤◌, ◌++◌, Bool, true, false, List, [], ◌∷◌, length}
use Rattle.std.proofs.Common.{Some, None, refl, sym, ap, subst, ◌∙◌, arith}
use Rattle.task_moves.specs.declared.moves.owed.Move.{Move}
use Rattle.task_moves.specs.declared.moves.owed.Move.TheVariants as move
use Rattle.executor_model.specs.declared.call.Call.TheVariants as call
use Rattle.executor_model.specs.declared.call.Reply.TheVariants as reply
use Rattle.executor_model.specs.declared.event.Answer.TheVariants as answer
use Rattle.executor_model.specs.declared.op.HandleOp.TheVariants as handle_op
use Rattle.executor_model.specs.declared.op.Hold.TheVariants as hold
use Rattle.executor_model.specs.declared.op.Op.{Op}
use Rattle.executor_model.specs.declared.op.Op.TheVariants as op
use Rattle.executor_model.specs.declared.op.TableOp.TheVariants as table_op
use Rattle.executor_model.specs.declared.op.UserOp.TheVariants as user_op
use Rattle.executor_model.specs.declared.op.Waker.{Waker}
use Rattle.executor_model.specs.declared.step.Step.TheVariants.{Begin}
use Rattle.executor_model.specs.declared.step.UserEnd.{UserEnd}
use Rattle.executor_model.specs.declared.step.UserEnd.TheVariants as end
use Rattle.executor_model.specs.Acts.{is_last_waker}
use Rattle.executor_model.specs.Quiet.{IsQuiet}
use Rattle.executor_model.specs.Steps.{Machine, accepts, react, waker_of}
use Rattle.executor_model.specs.World.{World, Done, done, task}
use Rattle.executor_model.specs.World as world
use Rattle.executor_model.proofs.Steps.Reached.{Reached, reached-more, run-first}
use Rattle.plain_scheduler.specs.State.{Choice, Closed, Code, Drop, End, Lose, Plain, Poll, Refusal, Taker, Tick, Try}
use Rattle.plain_scheduler.specs.Calls as plain_calls
use Rattle.plain_scheduler.specs.Calls.{does, Ends, EndsWith, Pends, PollTick, TryTick}
use Rattle.machine_roads.specs.View.{Output, wakes}
use Rattle.machine_roads.specs.Road.{Follows, waking_in}
use Rattle.machine_roads.specs.Alone.{alone, Has}
use Rattle.machine_roads.specs.Dropped.{Drops, IsEnding, answered, loses, rest_of, without_run}
use Rattle.machine_roads.specs.Forgotten.{IsForgotten, IsLastPoll, StopsForgetting, without_awaiter}
use Rattle.machine_roads.specs.Lone.{EachLoneAlike, Ended, LoneTicksEnd, LoneTriesEnd, ends as ends_with, is_end, over}
use Rattle.machine_roads.specs.Stopped.{Finally, IsInPoll, of_tick, of_try}
use Rattle.machine_roads.proofs.Endings.{ending_as, forgotten_as, unawaited_in}
use Rattle.machine_roads.proofs.Forgetting.{forgets_so, forgets_with, forgotten_by}
use Rattle.machine_roads.proofs.Lists.{cons_is}
use Rattle.machine_roads.proofs.LoneCalls.{each}
use Rattle.machine_roads.proofs.LoneRuns.{InCode, Inside, IsBefore, Rests, Whole, before, ends_so, goes_on_of, lone_calls_rest}
use Rattle.machine_roads.proofs.LoneTicks.{can_poll, may_begin}
use Rattle.machine_roads.proofs.LyingDown.{polls_tick_so}
use Rattle.machine_roads.proofs.Passing.{passes_end}
use Rattle.machine_roads.proofs.Pending.{gives_so, pends_so}
use Rattle.machine_roads.proofs.RunEnding.{behind_dropped, behind_lost, drops, loses_with, lost_by}
use Rattle.machine_roads.proofs.Standing.{Answered, Behind, InDrop, InPoll, IsGoing, IsTaken, Stands, StandsSo, Stays, StaysSo}
use Rattle.machine_roads.proofs.Trying.{tries_so, yes}
use Rattle.machine_roads.proofs.Tying.{AtEnd, Leads, LeadsSo}
use Rattle.machine_roads.proofs.Unseen.{stands_in}

module _ (p : ℕ) (new : Machine) (later : new.world.gone ≡ false) (last : Reached new) (quiet : IsQuiet new.world.trace)
    (c : Choice) (codes : List (Code Output Waker)) (taker : Taker Waker) (final : Op)
    (it : (q : Plain Output Waker) → Finally q taker final) where
  -- the user code that is left ends so
  abbrev Result : Plain Output Waker → Type 0
  Result r = (z : Plain Output Waker) × Ended r z × (z.inside ≡ codes) × Follows new.world z

  abbrev telling : Plain Output Waker → Choice
  telling r = record c { tells = length r.lying }

  -- from the end of user code on
  goes_on : (R S : Done → Type 0) (x : InCode p R new)
      → LeadsSo p (done (react p x.first x.end x.machine.world).world ((react p x.first x.end x.machine.world).next ++ x.rest)) S
      → Rests p S new
  goes_on R S x leads = goes_on_of Has IsBefore before p R S new later last quiet x leads

  least : (n : ℕ) → n ≤ n
  least n = omega arith

  -- one code more has ended
  once_more : (e : plain_calls.Call Output Waker) (r : Plain Output Waker) → is_end r.inside e ≡ true
      → Result (does wakes (telling r) e r) → Result r
  once_more e r it so = (so.0, ends_with (telling r) e r so.0 it (least (length r.lying)) so.1, so.2, so.3)

  -- so the call leaves both
  record Leaves (z : Plain Output Waker) (w : World) : Type 0 where
    follows : Follows w z
    inside : z.inside ≡ codes

  -- the drop of an output ends, and so does the call
  from_loss : (f : ℕ) (b r : Plain Output Waker) → b.inside ≡ codes → Rests p (λ e. Drops taker final [] f b e r) new → Result r
  from_loss f b r same (Whole (answered next inside follows)) = (r, over r, inside ∙ same, follows)
  from_loss f b r same (Whole (loses awaiter next inside ending)) = absurd cc
  from_loss f b r same (Inside x) = by x.so
    where
      by : Drops taker final [] f b (done x.machine.world (x.first ∷ x.rest)) r → Result r
      by (answered next inside follows) = absurd cc
      by (loses awaiter next inside ending) =
          let m = x.machine in
          let both =
          cons_is x.first (op.User (user_op.DropOutput f)) x.rest (rest_of (task m.world f).awaiter f final ++ []) next in
          let outer : Plain Output Waker = record r { inside = codes } in
          let inner : Plain Output Waker = record r { inside = Lose awaiter (Some taker) ∷ codes } in
          let c1 = telling r in
          let is : inner ≡ r =
          ap (λ (codes : List (Code Output Waker)). record r { inside = codes })
          (ap (λ (codes : List (Code Output Waker)). Lose awaiter (Some taker) ∷ codes) (sym same) ∙ sym inside) in
          let ending0 : IsEnding m.world f awaiter outer =
          ending_as ending (stands_in codes (without_run f m.world) r ending.follows
          (sym (ap (λ codes. waking_in codes) inside ∙ ap (λ codes. waking_in codes) same))) in
          let P : World → Type 0 = Leaves (does wakes c1 Ends inner) in
          let os = rest_of (task m.world f).awaiter f final ++ [] in
          let leads : Leads p (done m.world os) P =
          λ hints all rests.
          let e =
          passes_end p [] refl (alone p hints (done m.world os)) rests taker final outer (it outer) c1 (loses_with taker awaiter outer)
          (behind_lost awaiter outer) (lost_by taker final p f [] m.world outer awaiter c1 ending0 (least (length r.lying)) hints all
          rests) in
          (e.0, record { follows = e.1; inside = e.2 }) in
          let now : Leads p (done (react p x.first x.end m.world).world ((react p x.first x.end m.world).next ++ x.rest)) P =
          subst (λ o. Leads p (done (react p o x.end m.world).world ((react p o x.end m.world).next ++ x.rest)) P) (sym both.0)
          (subst (λ os. Leads p (done m.world os) P) (sym both.1) leads) in
          let ended = ends_so p P new (goes_on (λ e. Drops taker final [] f b e r) (AtEnd P) x now) in
          subst Result is
          (once_more Ends inner refl (does wakes c1 Ends inner, over (does wakes c1 Ends inner), ended.inside, ended.follows))

  -- so does the drop of a future
  from_drop : (R : Done → Type 0) (x : InCode p R new) (f : ℕ) (mv : Move) (why : End Output) → IsGoing x.machine.world f mv why
      → x.first ∷ x.rest ≡ op.User (user_op.Drop f) ∷ op.Table (table_op.LeaveTable f) ∷ op.Move mv f ∷ final ∷ []
      → (r : Plain Output Waker) → r.inside ≡ Drop f why taker ∷ codes → Follows x.machine.world r → Result r
  from_drop R x f mv why going next r inside follows =
      let m = x.machine in
      let os = op.Table (table_op.LeaveTable f) ∷ op.Move mv f ∷ final ∷ [] in
      let both = cons_is x.first (op.User (user_op.Drop f)) x.rest os next in
      let outer : Plain Output Waker = record r { inside = codes } in
      let inner : Plain Output Waker = record r { inside = Drop f why taker ∷ codes } in
      let c1 = telling r in
      let is : inner ≡ r = ap (λ (codes : List (Code Output Waker)). record r { inside = codes }) (sym inside) in
      let S : Done → Type 0 = λ e. Drops taker final [] f outer e (does wakes c1 Ends inner) in
      let leads : LeadsSo p (done m.world os) S =
      λ hints all rests.
      drops p None [] m.world outer refl (stands_in codes m.world r follows (sym (ap (λ codes. waking_in codes) inside))) taker final
      (it outer)
      f mv why going.known going.entered going.ends c1 (least (length r.lying)) hints all rests in
      let now : LeadsSo p (done (react p x.first x.end m.world).world ((react p x.first x.end m.world).next ++ x.rest)) S =
      subst (λ o. LeadsSo p (done (react p o x.end m.world).world ((react p o x.end m.world).next ++ x.rest)) S) (sym both.0)
      (subst (λ os. LeadsSo p (done m.world os) S) (sym both.1) leads) in
      subst Result is (once_more Ends inner refl (from_loss f outer (does wakes c1 Ends inner) refl (goes_on R S x now)))

  -- so does the drop of a future that nobody could wake any more
  from_forgotten : (f : ℕ) (b r : Plain Output Waker) → b.inside ≡ codes → Rests p (λ e. StopsForgetting taker final [] f b e r) new
      → Result r
  from_forgotten f b r same (Whole so) =
      let no : [] ≡ op.User (user_op.Drop f) ∷ op.Table (table_op.LeaveTable f) ∷ op.Handle (handle_op.LetGo f) ∷ final ∷ [] =
      so.left in
      absurd cc
  from_forgotten f b r same (Inside x) =
      let m = x.machine in
      let os = op.Table (table_op.LeaveTable f) ∷ op.Handle (handle_op.LetGo f) ∷ final ∷ [] in
      let both = cons_is x.first (op.User (user_op.Drop f)) x.rest os x.so.left in
      let outer : Plain Output Waker = record r { inside = codes } in
      let inner : Plain Output Waker = record r { inside = Drop f Closed taker ∷ codes } in
      let c1 = telling r in
      let is : inner ≡ r =
      ap (λ (codes : List (Code Output Waker)). record r { inside = codes })
      (ap (λ (codes : List (Code Output Waker)). Drop f Closed taker ∷ codes) (sym same) ∙ sym x.so.inside) in
      let it_is = x.so.forgotten in
      let forgotten0 : IsForgotten m.world f outer =
      forgotten_as codes it_is
      (unawaited_in f codes (without_awaiter f m.world) r it_is.follows
      (sym (ap (λ codes. waking_in codes) x.so.inside ∙ ap (λ codes. waking_in codes) same))) in
      let P : World → Type 0 = Leaves (does wakes c1 Ends inner) in
      let leads : Leads p (done m.world os) P =
      λ hints all rests.
      let e =
      passes_end p [] refl (alone p hints (done m.world os)) rests taker final outer (it outer) c1 (forgets_with taker f outer)
      (behind_dropped f Closed outer) (forgotten_by taker final p f [] m.world outer c1 forgotten0 (least (length r.lying)) hints all
      rests) in
      (e.0, record { follows = e.1; inside = e.2 }) in
      let now : Leads p (done (react p x.first x.end m.world).world ((react p x.first x.end m.world).next ++ x.rest)) P =
      subst (λ o. Leads p (done (react p o x.end m.world).world ((react p o x.end m.world).next ++ x.rest)) P) (sym both.0)
      (subst (λ os. Leads p (done m.world os) P) (sym both.1) leads) in
      let ended = ends_so p P new (goes_on (λ e. StopsForgetting taker final [] f b e r) (AtEnd P) x now) in
      subst Result is
      (once_more Ends inner refl
      (does wakes c1 Ends inner, over (does wakes c1 Ends inner), ended.inside, ended.follows))

  -- behind a poll
  at_end : (inside : List (Code Output Waker)) (w : World) (os : List Op) (now : List (Code Output Waker))
      → Stays taker final [] inside w os now → os ≡ [] → now ≡ inside
  at_end inside w os now Answered none = refl
  at_end inside w os now (InDrop f mv why going) none = absurd cc

  in_drop : (R : Done → Type 0) (x : InCode p R new) (r : Plain Output Waker) → Follows x.machine.world r → (os : List Op)
      (now : List (Code Output Waker)) → Stays taker final [] codes x.machine.world os now → x.first ∷ x.rest ≡ os → r.inside ≡ now
      → Result r
  in_drop R x r follows os now Answered next inside = absurd cc
  in_drop R x r follows os now (InDrop f mv why going) next inside = from_drop R x f mv why going next r inside follows

  from_stays : (b r : Plain Output Waker) → b.inside ≡ codes → Rests p (λ e. StaysSo taker final [] b e r) new → Result r
  from_stays b r same (Whole so) =
      (r, over r, at_end b.inside new.world [] r.inside so.stays refl ∙ same, so.follows)
  from_stays b r same (Inside x) =
      in_drop (λ e. StaysSo taker final [] b e r) x r x.so.follows (x.first ∷ x.rest) r.inside
      (subst (λ codes. Stays taker final [] codes x.machine.world (x.first ∷ x.rest) r.inside) same x.so.stays) refl refl

  -- in a poll
  from_poll : (R : Done → Type 0) (x : InCode p R new) (f : ℕ) → IsTaken x.machine.world f
      → x.first ∷ x.rest ≡ op.User (user_op.Poll f) ∷ final ∷ []
      → (r : Plain Output Waker) → r.inside ≡ Poll f taker ∷ codes → Follows x.machine.world r → Result r
  from_poll R x f taken next r inside follows =
      subst Result is (by x.end refl (ap (λ o. accepts o x.end) (sym both.0) ∙ x.accepted))
    where
      both : (x.first ≡ op.User (user_op.Poll f)) × (x.rest ≡ final ∷ [])
      both = cons_is x.first (op.User (user_op.Poll f)) x.rest (final ∷ []) next

      outer : Plain Output Waker
      outer = record r { inside = codes }

      inner : Plain Output Waker
      inner = record r { inside = Poll f taker ∷ codes }

      is : inner ≡ r
      is = ap (λ (codes : List (Code Output Waker)). record r { inside = codes }) (sym inside)

      follows0 : Follows x.machine.world outer
      follows0 = stands_in codes x.machine.world r follows (sym (ap (λ codes. waking_in codes) inside))

      now : (e : UserEnd) (S : Done → Type 0) → x.end ≡ e
          → LeadsSo p (done (react p (op.User (user_op.Poll f)) e x.machine.world).world
          ((react p (op.User (user_op.Poll f)) e x.machine.world).next ++ (final ∷ []))) S
          → LeadsSo p (done (react p x.first x.end x.machine.world).world ((react p x.first x.end x.machine.world).next ++ x.rest)) S
      now e S at leads =
          subst (λ e. LeadsSo p (done (react p x.first e x.machine.world).world ((react p x.first e x.machine.world).next ++ x.rest)) S)
          (sym at)
          (subst (λ o. LeadsSo p (done (react p o e x.machine.world).world ((react p o e x.machine.world).next ++ x.rest)) S)
          (sym both.0)
          (subst
          (λ os. LeadsSo p (done (react p (op.User (user_op.Poll f)) e x.machine.world).world
          ((react p (op.User (user_op.Poll f)) e x.machine.world).next ++ os)) S)
          (sym both.1) leads))

      by : (e : UserEnd) → x.end ≡ e → accepts (op.User (user_op.Poll f)) e ≡ true → Result inner
      by (end.Polled answer.Pending) at ok = pends (is_last_waker move.EndPending (world.task x.machine.world f)) refl
        where
          c1 : Choice
          c1 = telling inner

          pends : (b : Bool) → is_last_waker move.EndPending (world.task x.machine.world f) ≡ b → Result inner
          pends false reached =
              let S : Done → Type 0 = λ e. StaysSo taker final [] outer e (does wakes c1 Pends inner) in
              let in_poll : IsInPoll x.machine.world f =
              record { known = taken.known; polled = taken.polled; entered = taken.entered; reached = reached } in
              once_more Pends inner refl
              (from_stays outer (does wakes c1 Pends inner) refl
              (goes_on R S x (now (end.Polled answer.Pending) S at
              (λ hints all rests.
              pends_so p [] x.machine.world outer refl follows0 taker final (it outer) f in_poll c1 (least (length r.lying)) hints all
              rests))))
          pends true last =
              let S : Done → Type 0 = λ e. StopsForgetting taker final [] f outer e (does wakes c1 Pends inner) in
              let last_poll : IsLastPoll x.machine.world f =
              record { known = taken.known; polled = taken.polled; entered = taken.entered; last = last } in
              once_more Pends inner refl
              (from_forgotten f outer (does wakes c1 Pends inner) refl
              (goes_on R S x (now (end.Polled answer.Pending) S at
              (λ hints all rests. forgets_so p None [] x.machine.world outer refl follows0 taker final f last_poll c1 hints all rests))))
      by (end.Polled answer.Ready) at ok =
          let c1 = telling inner in
          let S : Done → Type 0 = λ e. StaysSo taker final [] outer e (does wakes c1 (EndsWith tt) inner) in
          once_more (EndsWith tt) inner refl
          (from_stays outer (does wakes c1 (EndsWith tt) inner) refl
          (goes_on R S x (now (end.Polled answer.Ready) S at
          (λ hints all rests. (gives_so p [] x.machine.world outer refl follows0 taker final f c1 hints all rests).0 taken))))
      by e at ok = absurd cc

  -- from where the call rests first
  stands_at_end : (inside : List (Code Output Waker)) (w : World) (os : List Op) (now : List (Code Output Waker))
      → Stands taker final [] inside w os now → os ≡ [] → now ≡ inside
  stands_at_end inside w os now (InPoll f taken) none = absurd cc
  stands_at_end inside w os now (Behind xs ys stays) none = at_end inside w os now stays none

  in_code : (R : Done → Type 0) (x : InCode p R new) (r : Plain Output Waker) → Follows x.machine.world r
      → (os : List Op) (now : List (Code Output Waker)) → Stands taker final [] codes x.machine.world os now → x.first ∷ x.rest ≡ os
      → r.inside ≡ now → Result r
  in_code R x r follows os now (InPoll f taken) next inside = from_poll R x f taken next r inside follows
  in_code R x r follows os now (Behind xs ys stays) next inside = in_drop R x r follows os now stays next inside

  pub from_take : (q r : Plain Output Waker) → q.inside ≡ codes → Rests p (λ e. StandsSo taker final [] q e r) new
      → Result r
  from_take q r same (Whole so) =
      (r, over r, stands_at_end q.inside new.world [] r.inside so.stands refl ∙ same, so.follows)
  from_take q r same (Inside x) =
      in_code (λ e. StandsSo taker final [] q e r) x r x.so.follows (x.first ∷ x.rest) r.inside
      (subst (λ codes. Stands taker final [] codes x.machine.world (x.first ∷ x.rest) r.inside) same x.so.stands) refl refl

pub tries_end_so : (s : Machine) → Reached s → (q : Plain Output Waker) → IsQuiet s.world.trace → Follows s.world q → LoneTriesEnd s q
tries_end_so s reached q quiet follows p c steps first many new later lone =
    from_take p new later (reached-more (Begin p call.TryTick ∷ steps) s new reached lone.made) lone.ended c q.inside Try yes
    (λ q. of_try) q (does wakes c TryTick q) refl
    (lone_calls_rest s reached p call.TryTick steps new (λ e. StandsSo Try yes [] q e (does wakes c TryTick q)) quiet later
    (λ hints all rests. tries_so p [] s.world q refl follows c first many hints all rests) lone)

pub lone_tries_end : EachLoneAlike LoneTriesEnd
lone_tries_end = each LoneTriesEnd tries_end_so

-- where it rests, and which memory was refused on the way
told_rests : (p : ℕ) (new : Machine) (S : Refusal → Done → Type 0) → Rests p (λ e. (r : Refusal) × S r e) new
    → (r : Refusal) × Rests p (S r) new
told_rests p new S (Whole so) = (so.0, Whole so.1)
told_rests p new S (Inside x) = (
  x.so.0,
  Inside
      (record {
        machine = x.machine;
        first = x.first;
        rest = x.rest;
        end = x.end;
        steps = x.steps;
        reached = x.reached;
        there = x.there;
        is = x.is;
        so = x.so.1;
        accepted = x.accepted;
        made = x.made;
        follow = x.follow;
      }),
)

pub ticks_end_so : (s : Machine) → Reached s → (q : Plain Output Waker) → IsQuiet s.world.trace → Follows s.world q → LoneTicksEnd s q
ticks_end_so s reached q quiet follows p t c b steps first room new later lone =
    let a = waker_of None b in
    let final = op.End reply.Ready (hold.Tick t) in
    let z : Refusal → Plain Output Waker = λ r. does wakes (record c { refusal = r }) (PollTick t a) q in
    let S : Refusal → Done → Type 0 = λ r e. StandsSo (Tick t a) final [] q e (z r) in
    let rested =
    told_rests p new S
    (lone_calls_rest s reached p (call.PollTick t b) steps new (λ e. (r : Refusal) × S r e) quiet later
    (λ hints all rests.
    let so =
    polls_tick_so p None [] s.world q refl follows c t b first room
    (can_poll s reached p t b (may_begin s p (call.PollTick t b) (run-first (Begin p (call.PollTick t b)) steps s new lone.made).0))
    hints all rests in
    (so.0, so.1)) lone) in
    let r = rested.0 in
    let end =
    from_take p new later (reached-more (Begin p (call.PollTick t b) ∷ steps) s new reached lone.made) lone.ended c q.inside (Tick t a)
    final (λ q. of_tick t a) q (z r) refl rested.1 in
    (r, end.0, end.1, end.2, end.3)

pub lone_ticks_end : EachLoneAlike LoneTicksEnd
lone_ticks_end = each LoneTicksEnd ticks_end_so
