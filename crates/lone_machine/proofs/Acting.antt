-- The calls of an executor's owner are acts of the machine, call by call.
use Rattle.std.proofs.Common.{◌≡◌, ℕ, ◌==◌, ◌++◌, nat_lt, Bool, true, false, if◌then◌else◌, List, [], ◌∷◌, length, not}
use Rattle.std.proofs.Common.{◌⊎◌, ◌||◌, inl, inr, ⊎_elim, suc, ◌<◌, Ok, refl, sym, ap, subst, ◌∙◌}
use Rattle.std.specs.Prelude.{reverse}
use Rattle.std.specs.List.{list_any}
use Rattle.executor_model.specs.declared.kind.Kind.{Kind as MachineKind}
use Rattle.executor_model.specs.declared.step.Hint.{Hint}
use Rattle.executor_model.specs.declared.step.Step.{Step}
use Rattle.executor_model.specs.declared.step.Step.TheVariants.{Answer, Begin, Go}
use Rattle.executor_model.specs.declared.call.Call.TheVariants.{DropExecutor as DropsExecutor}
use Rattle.executor_model.specs.declared.op.Waker.{Waker}
use Rattle.machine_roads.specs.View.{Output}
use Rattle.executor_model.specs.Quiet.{IsQuiet}
use Rattle.solo_laws.specs.LastCalls.{LastCalls}
use Rattle.machine_roads.specs.Seeing.{heard_in}
use Rattle.two_roads.specs.Together.{as_heard}
use Rattle.machine_roads.specs.DropActs.{AreDropActs, left_by}
use Rattle.two_roads.proofs.InStepToEnd.{steps_end_together}
use Rattle.executor_model.specs.declared.step.UserEnd.TheVariants.{Done as Over}
use Rattle.executor_model.specs.Refusals.{ends_for_want}
use Rattle.executor_model.specs.Steps.{Machine, after as after_step, is_static_kind, stack, start, top}
use Rattle.executor_model.proofs.Quiet.Resting.{rests}
use Rattle.executor_model.proofs.Steps.Reached.{Reached, deep-here, reached-more, run-first}
use Rattle.solo.specs.declared.names.Kind.{Kind}
use Rattle.solo.specs.declared.names.SoloWaker.{SoloWaker}
use Rattle.solo.specs.declared.owed.Lent.{Lent}
use Rattle.solo.specs.declared.solo.Solo.{Solo}
use Rattle.solo.specs.Solo.{IsNew, counts}
use Rattle.plain_scheduler.specs.State.{Answers, AtOnce, Choice, Event, Granted, NoMemory, Plain, Who}
use Rattle.plain_scheduler.specs.Calls.{Call, DropExecutor, course, does, new}
use Rattle.machine_roads.specs.Searching.{named_by, reads_list, start_at}
use Rattle.machine_roads.specs.Within.{Act, AreActs, IsAct, IsMade, begins, calls_outside, ends, gives, goes_on, pends, rests_after}
use Rattle.machine_roads.specs.Within.{start_in}
use Rattle.machine_roads.proofs.Acts.{goes_rest}
use Rattle.machine_roads.proofs.LoneRuns.{both_true, made_is}
use Rattle.machine_roads.specs.Alone.{is_resting}
use Rattle.executor_model.specs.Executions.{run_all}
use Rattle.executor_parts.specs.Sleepers.{Sleepers}
use Rattle.executor_model.specs.declared.op.Sleeping.{Sleeping}
use Rattle.executor_model.specs.World.{World}
use Rattle.executor_model.specs.declared.call.Call.{Call as MachineCall}
use Rattle.executor_model.specs.declared.call.Reply.TheVariants as reply
use Rattle.executor_model.specs.declared.event.Event.TheVariants as event
use Rattle.executor_model.specs.declared.op.Op.{Op}
use Rattle.machine_roads.proofs.Lists.{apart_of, same_of}
use Rattle.solo_laws.specs.Making.{ActsFrom}
use Rattle.solo_laws.specs.Courses.{Leads, leads, stays}
use Rattle.solo_laws.specs.Owner.{Owner, new_owner}
use Rattle.solo_laws.specs.Road.{wakes}
use Rattle.two_roads.specs.Acting.{AreEndsOfSteps, AreOfSteps, EndOfSteps, left_of, IsOfStep, WalksAlike}
use Rattle.two_roads.specs.Refusing.{asks_memory, ends_refused, refused_in, refused_so}
use Rattle.two_roads.proofs.Refusing.{last_is, same_test}
use Rattle.two_roads.specs.Renaming.{call_as}
use Rattle.two_roads.specs.Together.{nothing, numbered}
use Rattle.two_roads.proofs.InStep.{rest_still, steps_together}
use Rattle.lone_machine.specs.Calling.{AreActed, Begins, EndSo, Memory, MayBeActs, MayBeEnds, MayDrop, calm_after, enough, wanting}
use Rattle.lone_machine.specs.Commands.{AreTold, IsOnWay, MayBegin, IsOfCommand}
use Rattle.lone_machine.specs.Reading.{IsRead, reads_in}
use Rattle.machine_roads.proofs.Tying.{top_of}
use Rattle.executor_model.specs.declared.op.Op.TheVariants as op
use Rattle.executor_model.specs.declared.op.ListOp.TheVariants as list_op
use Rattle.lone_machine.specs.Calling.{IsBegun}
use Rattle.lone_machine.specs.Rooms.{IsRoomyAct}
use Rattle.lone_machine.proofs.Going.{act_of, there_of}
use Rattle.lone_machine.proofs.Refused.{begun_refused, unwilling}
use Rattle.lone_machine.specs.Wanting.{AsksFirst, IsCalm}
use Rattle.lone_machine.proofs.Unrefused.{heard_more, act_is_clean, is_first, wants}

-- what refuses nothing, and names this word
abbrev willing : ℕ → ℕ → Hint
willing word n = record { refused = false; same = false; start = word }

-- the list is read, so that no outside waker is called
reads_no_code : (s : Machine) (p : ℕ) → reads_list (reverse (stack s p)) ≡ true → calls_outside (top (stack s p)) ≡ false
reads_no_code s p reads = by (reverse (stack s p)) refl reads
  where
    by : (os : List Op) → reverse (stack s p) ≡ os → reads_list os ≡ true → calls_outside (top (stack s p)) ≡ false
    by [] is reads = absurd cc
    by (op.List (list_op.LockRead x) ∷ os) is reads =
        ap (λ o. calls_outside o) (top_of (stack s p) (op.List (list_op.LockRead x)) os is).0
    by (o ∷ os) is reads = absurd cc

-- who is told so reads the list of queues from there on
starts_at_word : (word p : ℕ) (told : ℕ → Hint) → ((n : ℕ) → (told n).start ≡ word) → (ts : List Step) (s : Machine)
    → AreTold p told s ts → (word ≡ 0) ⊎ (reads_in p s ts ≡ true) → start_at p s ts ≡ word
starts_at_word word p told names [] s as_told (inl none) = sym none
starts_at_word word p told names [] s as_told (inr reads) = absurd cc
starts_at_word word p told names (t ∷ ts) s as_told why =
    by (reads_list (reverse (stack s p))) refl
    (starts_at_word word p (λ n. told (suc n)) (λ n. names (suc n)) ts (after_step s t) as_told.1)
  where
    step : Bool → Step
    step b = if b then Answer p Over else Go p (told 0)

    later : reads_list (reverse (stack s p)) ≡ false → (word ≡ 0) ⊎ (reads_in p (after_step s t) ts ≡ true)
    later unread =
        ⊎_elim (λ (z : word ≡ 0). inl z)
        (λ (r : reads_in p s (t ∷ ts) ≡ true). inr (sym (ap (λ b. b || reads_in p (after_step s t) ts) unread) ∙ r)) why

    by : (a : Bool) → reads_list (reverse (stack s p)) ≡ a
        → ((word ≡ 0) ⊎ (reads_in p (after_step s t) ts ≡ true) → start_at p (after_step s t) ts ≡ word)
        → (if a then named_by t else start_at p (after_step s t) ts) ≡ word
    by true reads rest = ap named_by (as_told.0 ∙ ap step (reads_no_code s p reads)) ∙ names 0
    by false unread rest = rest (later unread)

-- a party rests at the end of an act
rests_then : (p : ℕ) (ts : List Step) (s new : Machine) → rests_after p ts s ≡ true → run_all ts s ≡ Ok new
    → is_resting (reverse (stack new p)) ≡ true
rests_then p [] s new rests made = ap (λ (m : Machine). is_resting (reverse (stack m p))) (sym (made_is s new made)) ∙ rests
rests_then p (t ∷ ts) s new rests made =
    rests_then p ts (after_step s t) new (both_true (goes_on p s t) (rests_after p ts (after_step s t)) rests).1
    (run-first t ts s new made).1

-- each party rests, and its things to do are clean; and where none was refused yet, the trace tells of no want of memory last
pub record AllClean (calm : Bool) (s : Machine) : Type 0 where
  pub ops : (p : ℕ) → list_any ends_for_want (reverse (stack s p)) ≡ false
  pub rest : (p : ℕ) → is_resting (reverse (stack s p)) ≡ true
  pub trace : calm ≡ true → IsCalm s

-- as long as nobody else does anything
each_party : (test : List Op → Bool) (b : Bool) (s : Machine) (p : ℕ) → test [] ≡ b → ((q : ℕ) → ¬ (q ≡ p) → stack s q ≡ [])
    → test (reverse (stack s p)) ≡ b → (q : ℕ) → test (reverse (stack s q)) ≡ b
each_party test b s p none others here q = by (q == p) refl
  where
    by : (c : Bool) → (q == p) ≡ c → test (reverse (stack s q)) ≡ b
    by true is = ap (λ n. test (reverse (stack s n))) (same_of q p is) ∙ here
    by false is = ap (λ os. test (reverse os)) (others q (apart_of q p is)) ∙ none

-- an act that begins so, and reads the list from this word on
pub record Acted (s : Machine) (word p : ℕ) (t : Step) : Type 0 where
  pub act : Act
  pub is : IsAct s act
  pub party : act.party ≡ p
  pub first : act.first ≡ t
  pub starts : (word ≡ 0) ⊎ IsRead s act → start_in s act ≡ word
  pub reached : Reached act.left

-- in which nothing is refused
pub record Willing (s : Machine) (calm : Bool) (word p : ℕ) (t : Step) : Type 0 where
  pub acted : Acted s word p t
  pub granted : IsCalm s → refused_in s acted.act ≡ Granted
  pub clean : AllClean calm acted.act.left

others_left : (s : Machine) (a : Act) → IsAct s a → (q : ℕ) → ¬ (q ≡ a.party) → stack a.left q ≡ []
others_left s a is =
    goes_rest a.steps (after_step s a.first) a.left a.party is.rests (run-first a.first a.steps s a.left is.made).1
    (rest_still a.party s a.first is.its is.others)

told_as : (s : Machine) (p : ℕ) (t : Step) (told : ℕ → Hint) (a : Act)
    → IsOfCommand s (record { party = p; first = t; told = told }) a → AreTold a.party told (after_step s a.first) a.steps
told_as s p t told a of =
    subst (λ n. AreTold n told (after_step s a.first) a.steps) (sym of.party)
    (subst (λ t. AreTold p told (after_step s t) a.steps) (sym of.first) of.told)

abbrev acted_by : (s : Machine) → Reached s → (word p : ℕ) (t : Step) (told : ℕ → Hint) → ((n : ℕ) → (told n).start ≡ word) → (a : Act)
    → IsAct s a → IsOfCommand s (record { party = p; first = t; told = told }) a → Acted s word p t
acted_by s reached word p t told names a is of =
    record {
      act = a;
      is = is;
      party = of.party;
      first = of.first;
      starts = starts_at_word word a.party told names a.steps (after_step s a.first) (told_as s p t told a of);
      reached = reached-more (a.first ∷ a.steps) s a.left reached is.made;
    }

rests_left : (s : Machine) (a : Act) → IsAct s a → (q : ℕ) → is_resting (reverse (stack a.left q)) ≡ true
rests_left s a is =
    each_party is_resting true a.left a.party refl (others_left s a is)
    (rests_then a.party a.steps (after_step s a.first) a.left is.rests (run-first a.first a.steps s a.left is.made).1)

will : (s : Machine) (calm : Bool) (word : ℕ) → Reached s → AllClean calm s → (p : ℕ) (t : Step) → is_first t ≡ true → MayBegin s p t
    → ((a : Act) → IsAct s a → a.party ≡ p → a.first ≡ t → IsRoomyAct s a) → Willing s calm word p t
will s calm word reached clean p t first may roomy =
    let it = act_of s reached (record { party = p; first = t; told = willing word }) may in by it.0 it.1 it.2
  where
    by : (a : Act) → IsAct s a → IsOfCommand s (record { party = p; first = t; told = willing word }) a → Willing s calm word p t
    by a is of =
        let left =
        act_is_clean (IsCalm s) s a (willing word) (λ n. refl) (ap is_first of.first ∙ first) is (told_as s p t (willing word) a of)
        (roomy a is of.party of.first) (record { ops = clean.ops a.party; trace = λ so. so }) in
        record {
          acted = acted_by s reached word p t (willing word) (λ n. refl) a is of;
          granted =
              λ so.
              ap (λ b. refused_so b (nat_lt (length s.world.sleepers.wakers) (length a.left.world.sleepers.wakers))) (left.trace so);
          clean =
              record {
                ops = each_party (list_any ends_for_want) false a.left a.party refl (others_left s a is) left.ops;
                rest = rests_left s a is;
                trace = λ yet. left.trace (clean.trace yet);
              };
        }

-- in which memory is refused at once
pub record Unwilling (s : Machine) (p : ℕ) (t : Step) : Type 0 where
  pub acted : Acted s 0 p t
  pub refused : refused_in s acted.act ≡ AtOnce
  pub clean : AllClean false acted.act.left

wont : (s : Machine) (calm : Bool) → Reached s → AllClean calm s → (p : ℕ) (c : MachineCall) (x : Call Output Waker)
    → IsMade s p (Begin p c) x → AsksFirst s.world c → MayBegin s p (Begin p c) → Unwilling s p (Begin p c)
wont s calm reached clean p c x made asks may =
    let it = act_of s reached (record { party = p; first = Begin p c; told = unwilling }) may in by it.0 it.1 it.2
  where
    there : p < length s.parties
    there = there_of s (Begin p c) may.possible

    by : (a : Act) → IsAct s a → IsOfCommand s (record { party = p; first = Begin p c; told = unwilling }) a
        → Unwilling s p (Begin p c)
    by a is of =
        let ran : run_all a.steps (after_step s (Begin p c)) ≡ Ok a.left =
        subst (λ t. run_all a.steps (after_step s t) ≡ Ok a.left) of.first (run-first a.first a.steps s a.left is.made).1 in
        let rests_so : rests_after p a.steps (after_step s (Begin p c)) ≡ true =
        subst (λ t. rests_after p a.steps (after_step s t) ≡ true) of.first
        (subst (λ n. rests_after n a.steps (after_step s a.first) ≡ true) of.party is.rests) in
        let k = begun_refused s a.left p c x a.steps there (clean.rest p) made asks of.told rests_so ran in
        let w = k.world in
        let told : wants a.left.world.trace ≡ true =
        ap (λ (w : World). wants w.trace) k.refused.world
        ∙ (ap ends_refused (heard_more w.trace (event.CallEnded p reply.NoMemory ∷ [])) ∙ last_is (heard_in w.trace) (Answers NoMemory)) in
        record {
          acted = acted_by s reached 0 p (Begin p c) unwilling (λ n. refl) a is of;
          refused =
              ap (λ b. refused_so b (nat_lt (length s.world.sleepers.wakers) (length a.left.world.sleepers.wakers))) told
              ∙ (ap (λ (w : World). refused_so true (nat_lt (length s.world.sleepers.wakers) (length w.sleepers.wakers))) k.refused.world
              ∙ (ap (λ (z : Sleepers Sleeping). refused_so true (nat_lt (length s.world.sleepers.wakers) (length z.wakers))) k.sleepers
              ∙ ap (λ b. refused_so true b) (same_test (length s.world.sleepers.wakers))));
          clean =
              record {
                ops =
                    each_party (list_any ends_for_want) false a.left p refl
                    (λ q apart. others_left s a is q (λ same. apart (same ∙ of.party)))
                    (ap (list_any ends_for_want) k.refused.todo ∙ clean.ops p);
                rest = rests_left s a is;
                trace = λ yet. absurd cc;
              };
        }

made_first : (s : Machine) (p : ℕ) (t : Step) (x : Call Output Waker) → IsMade s p t x → is_first t ≡ true
made_first s p t x (begins c x' is) = refl
made_first s p t x pends = refl
made_first s p t x gives = refl
made_first s p t x ends = refl

made_by : (s : Machine) (p q : ℕ) (t u : Step) (x : Call Output Waker) → q ≡ p → u ≡ t → IsMade s p t x → IsMade s q u x
made_by s p q t u x party first made =
    subst (λ n. IsMade s n u x) (sym party) (subst (λ t. IsMade s p t x) (sym first) made)

way_by : (s : Machine) (p q : ℕ) (t u : Step) → q ≡ p → u ≡ t → IsOnWay s p t → IsOnWay s q u
way_by s p q t u party first way =
    subst (λ n. IsOnWay s n u) (sym party) (subst (λ t. IsOnWay s p t) (sym first) way)

-- none was refused yet, or the trace tells of none last
is_calm : (s : Machine) (calm : Bool) → AllClean calm s → (calm ≡ false → IsCalm s) → IsCalm s
is_calm s true clean heard = clean.trace refl
is_calm s false clean heard = heard refl

module _ {T X : Type 0} (number : X → ℕ) where
  -- an act of the call
  record Made (s : Machine) (calm : Bool) (word : ℕ) (c : Choice) (p : Plain T (SoloWaker X)) (call : Call T (SoloWaker X))
      (b : Begins number s call) : Type 0 where
    acted : Acted s word b.party b.first
    refused : asks_memory wakes c p call ≡ true → c.refusal ≡ refused_in s acted.act
    clean : AllClean calm acted.act.left

  made_so : (s : Machine) (calm : Bool) (word : ℕ) → Reached s → AllClean calm s → (c : Choice) (p : Plain T (SoloWaker X))
      (call : Call T (SoloWaker X)) (b : Begins number s call) (memory : Memory number s calm word c p call b)
      → Made s (calm_after number s calm word c p call b memory) word c p call b
  made_so s calm word reached clean c p call b (enough roomy granted heard) =
      let x = call_as nothing (numbered number) call in
      let k =
      will s calm word reached clean b.party b.first (made_first s b.party b.first x b.made) b.may
      (λ a is party first. roomy a (record { act = is; party = party; first = first })) in
      record {
        acted = k.acted;
        refused = λ asks. granted asks ∙ sym (k.granted (is_calm s calm clean (heard asks)));
        clean = k.clean;
      }
  made_so s calm word reached clean c p call b (wanting k first asks refused none) =
      let x = call_as nothing (numbered number) call in
      let w =
      wont s calm reached clean b.party k x (subst (λ t. IsMade s b.party t x) first b.made) asks
      (subst (λ t. MayBegin s b.party t) first b.may) in
      record {
        acted =
            record {
              act = w.acted.act;
              is = w.acted.is;
              party = w.acted.party;
              first = w.acted.first ∙ sym first;
              starts = λ why. w.acted.starts (inl refl) ∙ sym none;
              reached = w.acted.reached;
            };
        refused = λ asks_it. refused asks_it ∙ sym w.refused;
        clean = w.clean;
      }

module _ {F T X : Type 0} (number : X → ℕ) (its : ℕ → Lent) (Then : Bool → Machine → Type 0) where
  -- the calls are acts from here on
  pub record From (s : Machine) {cs : List (Choice × Call T (SoloWaker X))} {before after : Owner} {y z : Solo F T X}
      {p : Plain T (SoloWaker X)} {shown : List (Event T (SoloWaker X))} (led : Leads its cs before y p shown after z) : Type 0 where
    pub acts : List Act
    pub are : AreActs s acts
    pub of : AreOfSteps number s acts led
    pub reached : Reached (left_of s acts)
    pub calm : Bool
    pub clean : AllClean calm (left_of s acts)
    pub so : Then calm (left_of s acts)

  from : (cs : List (Choice × Call T (SoloWaker X))) (before after : Owner) (y z : Solo F T X) (p : Plain T (SoloWaker X))
      (shown : List (Event T (SoloWaker X))) (led : Leads its cs before y p shown after z) (calm : Bool) (s : Machine) → Reached s
      → AllClean calm s → MayBeActs number its Then calm s led → From s led
  from cs before after y z p shown (stays owner y' p') calm s reached clean may =
      record { acts = []; are = tt; of = tt; reached = reached; calm = calm; clean = clean; so = may }
  from cs before after y z p shown (leads c call rest b now e u m v r some others many how on) calm s reached clean may =
      let can = may.0 in
      let begin = can.begins in
      let x = call_as nothing (numbered number) call in
      let k = made_so number s calm can.word reached clean c r call begin can.memory in
      let a = k.acted.act in
      let step : IsOfStep number s a r c call =
      record { made = made_by s begin.party a.party begin.first a.first x k.acted.party k.acted.first begin.made; refused = k.refused } in
      let its_act : IsBegun number s begin a =
      record { act = k.acted.is; party = k.acted.party; first = k.acted.first } in
      let walks : WalksAlike number s a how =
      λ x found due kept.
      let w = can.walks x found due kept in
      subst (λ n. (second : ℕ) × ActsFrom its c u r n second b call some now m how)
      (sym
      (k.acted.starts
      (⊎_elim (λ (z : can.word ≡ 0). inl z) (λ (r : (a : Act) → IsBegun number s begin a → IsRead s a). inr (r a its_act)) w.0)))
      w.1 in
      let more =
      from rest now e m v (does wakes c call r) others on (calm_after number s calm can.word c r call begin can.memory) a.left
      k.acted.reached k.clean (may.1 a its_act step) in
      record {
        acts = a ∷ more.acts;
        are = (k.acted.is, way_by s begin.party a.party begin.first a.first k.acted.party k.acted.first begin.on_way, more.are);
        of = (step, walks, more.of);
        reached = more.reached;
        calm = more.calm;
        clean = more.clean;
        so = more.so;
      }

  -- from a new machine on
  pub from_new : (limit : ℕ) (kind : MachineKind) (parties : ℕ) (cs : List (Choice × Call T (SoloWaker X)))
      (first last : Solo F T X) (shown : List (Event T (SoloWaker X))) (before : Who → ℕ) (after : Owner)
      → (led : Leads its cs (new_owner before) first (new limit (is_static_kind kind)) shown after last)
      → MayBeActs number its Then true (start limit kind parties) led → From (start limit kind parties) led
  from_new limit kind parties cs first last shown before after led may =
      let s = start limit kind parties in
      let reached : Reached s = record { limit = limit; kind = kind; parties = parties; steps = []; is = refl } in
      let empty : (n : ℕ) → stack s n ≡ [] = rests s (deep-here s reached) (λ party. refl) in
      let clean : AllClean true s =
      record {
        ops = λ n. ap (λ os. list_any ends_for_want (reverse os)) (empty n);
        rest = λ n. ap (λ os. is_resting (reverse os)) (empty n);
        trace = λ yet. refl;
      } in
      from cs (new_owner before) after first last (new limit (is_static_kind kind)) shown led true s reached clean may

same_left : (acts : List Act) (s : Machine) → left_by s acts ≡ left_of s acts
same_left [] s = refl
same_left (a ∷ acts) s = same_left acts a.left

module _ {T X : Type 0} (number : X → ℕ) where
  -- the calls in the executor's drop and behind it
  record Ends (s : Machine) (p : Plain T (SoloWaker X)) (xs : List (Choice × Call T (SoloWaker X))) : Type 0 where
    acts : List Act
    are : AreDropActs s acts
    of : AreEndsOfSteps number s acts p xs

  ends_from : (xs : List (Choice × Call T (SoloWaker X))) (calm : Bool) (s : Machine) (p : Plain T (SoloWaker X)) → Reached s
      → AllClean calm s → MayBeEnds number calm s p xs → Ends s p xs
  ends_from [] calm s p reached clean may = record { acts = []; are = tt; of = tt }
  ends_from (x ∷ xs) calm s p reached clean may =
      let can = may.0 in
      let call = call_as nothing (numbered number) x.1 in
      let k =
      will s calm 0 reached clean can.party can.first (made_first s can.party can.first call can.made) can.may can.roomy in
      let a = k.acted.act in
      let step : IsOfStep number s a p x.0 x.1 =
      record {
        made = made_by s can.party a.party can.first a.first call k.acted.party k.acted.first can.made;
        refused = λ asks. can.granted asks ∙ sym (k.granted (is_calm s calm clean (can.heard asks)));
      } in
      let more =
      ends_from xs calm a.left (does wakes x.0 x.1 p) k.acted.reached k.clean
      (may.1 a k.acted.is k.acted.party k.acted.first step) in
      record { acts = a ∷ more.acts; are = (k.acted.is, more.are); of = (step, more.of) }

module _ {F T X : Type 0} (number : X → ℕ) (its : ℕ → Lent) (limit : ℕ) (kind : MachineKind) (solo_kind : Kind) (parties : ℕ)
    (cs : List (Choice × Call T (SoloWaker X))) where
  pub acted : (first last : Solo F T X) (shown : List (Event T (SoloWaker X))) (before : Who → ℕ) (after : Owner)
      → IsNew limit solo_kind first → counts solo_kind ≡ not (is_static_kind kind)
      → (led : Leads its cs (new_owner before) first (new limit (is_static_kind kind)) shown after last)
      → MayBeActs number its (λ calm s. Unit {0}) true (start limit kind parties) led → AreActed number its (start limit kind parties) led
  acted first last shown before after is_new counted led may =
      let k = from_new number its (λ calm s. Unit {0}) limit kind parties cs first last shown before after led may in
      record {
        acts = k.acts;
        are = k.are;
        of = k.of;
        told =
            (steps_together its number limit kind solo_kind parties k.acts cs first last shown before after k.are is_new counted led
            k.of).1;
      }

  pub ended : (first middle last : Solo F T X) (shown others : List (Event T (SoloWaker X))) (before : Who → ℕ) (after : Owner)
      (last_ones : List (Choice × Call T (SoloWaker X))) → IsNew limit solo_kind first → counts solo_kind ≡ not (is_static_kind kind)
      → (led : Leads its cs (new_owner before) first (new limit (is_static_kind kind)) shown after middle)
      → LastCalls its middle (course wakes cs (new limit (is_static_kind kind))) last_ones others last
      → MayBeActs number its (MayDrop number (course wakes cs (new limit (is_static_kind kind))) last_ones) true
      (start limit kind parties) led
      → EndSo number (start limit kind parties) (shown ++ others)
  ended first middle last shown others before after last_ones is_new counted led drops may =
      let p = course wakes cs (new limit (is_static_kind kind)) in
      let k = from_new number its (MayDrop number p last_ones) limit kind parties cs first middle shown before after led may in
      let s = left_of (start limit kind parties) k.acts in
      let d = k.so in
      let w = will s k.calm 0 k.reached k.clean d.party (Begin d.party DropsExecutor) refl d.may d.roomy in
      let a = w.acted.act in
      let more =
      ends_from number d.rest k.calm a.left (does wakes d.choice DropExecutor p) w.acted.reached w.clean
      (d.later a w.acted.is w.acted.party w.acted.first) in
      let starts : a.first ≡ Begin a.party DropsExecutor =
      w.acted.first ∙ ap (λ n. Begin n DropsExecutor) (sym w.acted.party) in
      record {
        acts = k.acts;
        are = k.are;
        drop = a;
        is = w.acted.is;
        begins = starts;
        later = more.acts;
        they = more.are;
        told =
            by k.acts k.are a w.acted.is starts more.acts more.are d.quiet k.of
            (subst (EndOfSteps number a more.acts p) (sym d.are) (refl, more.of));
      }
    where
      by : (acts : List Act) → AreActs (start limit kind parties) acts → (a : Act) → IsAct (left_of (start limit kind parties) acts) a
          → a.first ≡ Begin a.party DropsExecutor → (later : List Act) → AreDropActs a.left later
          → IsQuiet (left_of (start limit kind parties) acts).world.trace → AreOfSteps number (start limit kind parties) acts led
          → EndOfSteps number a later (course wakes cs (new limit (is_static_kind kind))) last_ones
          → heard_in (left_of a.left later).world.trace ≡ as_heard number (shown ++ others)
      by acts are a is starts later they quiet of ends_of =
          (steps_end_together its number limit kind solo_kind parties acts a later cs last_ones first middle last shown others before after
          are (subst (λ (m : Machine). IsQuiet m.world.trace) (sym (same_left acts (start limit kind parties))) quiet)
          (subst (λ m. IsAct m a) (sym (same_left acts (start limit kind parties))) is) starts they is_new counted led drops of ends_of).1
