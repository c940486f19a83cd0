-- For the_closing_drop_keeps_the_order and the_closing_drop_wakes_in_order.
-- The table has the futures in the order of acceptance, so the executor's drop, which goes through it, drops them so; and a
-- leak wakes them so.
use Rattle.std.proofs.Common.{◌≡◌, ◌⊎◌, ℕ, ◌+◌, ◌<◌, ◌≤◌, List, [], ◌∷◌, ◌++◌, length, Bool, true, false, not, inl, inr, ◌&&◌}
use Rattle.std.proofs.Common.{◌||◌, cond, eqb, zero, suc, ⊎_elim, refl, sym, ap, ◌∙◌, subst, arith, append-nil}
use Rattle.std.{specs.Prelude.fold, specs.Prelude.reverse, proofs.lemmas.List.append_assoc}
use Rattle.executor_model.proofs.Types.{Mark, Move, Call, Reply, Event, Kind, ClosingOp, Hold, Op, RunOp, SleeperOp, TableOp}
use Rattle.executor_model.proofs.Types.{UserOp, WakerOp, Hint, Step}
use Rattle.executor_model.specs.Acts.{closing_ops, drop_next_by, enter_by, leak_next_by, leak_out_by, leave_by, move_by}
use Rattle.executor_model.specs.ClosingOrder.{Ascends, DropsInOrder, accepted_in, dropped_in, dropped_since}
use Rattle.executor_model.specs.Rows.{borrowing_of, drops_of, leaves_of, ousting_of}
use Rattle.executor_model.specs.Steps.{Machine, begun, is_on_executor, mine, react, run, stack, start, top}
use Rattle.executor_model.specs.Trace.{Trace, has, is_accepted, is_drop_begun}
use Rattle.executor_model.specs.{Acts.wake_next_by, Doing.act, Good.Good, Sound.times, Weights.same, Weights.weigh}
use Rattle.executor_model.specs.{Weights.weigh_all, World.World, World.Done, World.done, World.log, World.task}
use Rattle.executor_model.proofs.OneFuture.Effects.Effect.{passes, turns, refuses, enters, unlists, drops, takes_out}
use Rattle.executor_model.proofs.Steps.Hushed.{Hushed, Hushes, hushed-act, hushed-called, hushed-leak_next, hushed-react}
use Rattle.executor_model.proofs.Table.Ascending.{accepted-append, accepted-same, ascends-left, ascends-push, ascends-without}
use Rattle.executor_model.proofs.Table.Ascending.{hushed-order, nothing-there, since-append, since-late, since-none, since-same}
use Rattle.executor_model.proofs.OneFuture.Effects.Effect.{drops_next, leaks_out, leaks}
use Rattle.executor_model.proofs.OneFuture.EffectsWays.{Effects, effects-way}
use Rattle.executor_model.proofs.OneFuture.EffectsWays.Effects.{does, pends, readies, closes}
use Rattle.executor_model.proofs.OneFuture.Telling.{accepted-counts, begun-has, same-cond}
use Rattle.executor_model.proofs.Steps.Asides.{Aside, aside-entry, aside-leaking, aside-owed}
use Rattle.executor_model.proofs.Steps.Lift.{good-start, none_refused, unsettled}
use Rattle.executor_model.proofs.Steps.Listing.{Entries, entries, entries-move, lists, same-begun, same-entries, same-react}
use Rattle.executor_model.proofs.Steps.Lists.{same_cases, weigh-append, weigh_all-push}
use Rattle.executor_model.proofs.Steps.Ways.Way.{acted, called, reacted}
use Rattle.executor_model.proofs.Table.LeavingExecutions.{Placed, placed-ends, placed-moves, placed-start}
use Rattle.executor_model.proofs.{OneFuture.Effects.Effect, OneFuture.Extras.no_extra, OneFuture.Stories.story}
use Rattle.executor_model.proofs.{OneFuture.Views.none, Steps.Growing.split, Steps.Hushed.hushed-wake_next, Steps.Ways.Way}
use Rattle.executor_model.proofs.{Steps.Ways.along, Table.Ascending.tells_order, Table.Leaking.static-effects}
use Rattle.task_moves.specs.Moves as moves

-- nothing leads to the taking out of the table but the beginning of the executor's drop

no-oust : (m : Move) (f : ℕ) → ousting_of (Op.Move m f) ≡ 0
no-oust Move.Wake f = refl
no-oust _ f = refl

ousts-aside : Aside ousting_of
ousts-aside = record {
  move = no-oust;
  append = λ f. refl;
  poll = λ f. refl;
  drop = λ f. refl;
  output = λ f. refl;
  notify = λ f mine. refl;
  call = λ f a k. refl;
  goes = λ f. refl;
}

ousts-closing : (ls ws : List ℕ) → weigh ousting_of (closing_ops ls ws) ≡ 0
ousts-closing [] [] = refl
ousts-closing [] (x ∷ ws) = refl
ousts-closing (x ∷ ls) ws = refl

ousts-effect : (w : World) (old : List Op) (d : Done) → Effect w old d → weigh ousting_of d.next ≤ weigh ousting_of old
ousts-effect w old d (passes s c) = omega (arith, (s 0 none no_extra).passes.ousting)
ousts-effect w old _ (turns d m p f v rest i j k s a e) =
    let own : weigh ousting_of (move_by true m p v f).next ≡ 0 =
    aside-owed ousting_of ousts-aside f _ (moves.after m (task v f)).owed in
    omega (
      arith,
      own,
      (s 0 none no_extra).passes.ousting,
      no-oust m f,
      ap (weigh ousting_of) e,
      weigh-append ousting_of (move_by true m p v f).next rest,
    )
ousts-effect w old d (refuses f e) = omega arith
ousts-effect w old d (enters mark p e) = omega arith
ousts-effect w old _ (unlists f e) = omega (arith, aside-entry ousting_of ousts-aside w.is_static f)
ousts-effect w old d (drops p f) = omega arith
ousts-effect w old d takes_out = omega (arith, ousts-closing w.table w.waking)
ousts-effect w old d (drops_next p f rest e) = omega (arith, ousts-closing rest (w.waking ++ f ∷ []))
ousts-effect w old d (leaks_out s n) = omega (arith, aside-leaking ousting_of refl (w.waking ++ w.table))
ousts-effect w old _ (leaks d p f e a) = ousts-effect w (Op.Closing ClosingOp.LeakNext ∷ []) d e

ousts : (w : World) (ss : List (List Op)) (old : List Op) (d : Done) → Effects w ss old d →
    (weigh ousting_of d.next ≤ weigh ousting_of old) ⊎ (w.gone ≡ false)
ousts w ss old d (does x) = inl (ousts-effect w old d x)
ousts w ss old d (pends p f) = inl (omega arith)
ousts w ss old d (readies p f) = inl (omega arith)
ousts w ss old d (closes p n u) = inr n

same-self : (f : ℕ) → same f f ≡ 1
same-self f = grind (arith, same_cases)

-- at every moment

pub record Ordered (s : Machine) : Type 0 where
  pub placed : Placed s
  pub accepted : Ascends (accepted_in s.world.trace)
  pub table : Ascends s.world.table
  pub closing : Ascends (dropped_since s.world.trace ++ s.world.leaving)
  pub first : 1 ≤ weigh_all ousting_of s.parties → dropped_since s.world.trace ≡ []
  pub waits : Ascends (s.world.waking ++ s.world.leaving)
  -- a machine that isn't static has no leak
  pub unwoken : s.world.is_static ≡ false → dropped_since s.world.trace ≡ [] → s.world.waking ≡ []

some-last : (xs : List ℕ) (f : ℕ) → xs ++ f ∷ [] ≡ [] → ⊥
some-last [] f e = absurd (cc)
some-last (x ∷ xs) f e = absurd (cc)

-- how many times a future was accepted
accepted-from : (g n : ℕ) (es : Trace) →
    n + times g (accepted_in es) ≡ fold (λ a x. a + cond (is_accepted g x) 1 0) n es
accepted-from g n [] = omega arith
accepted-from g n (Event.Accepted p f ∷ es) =
    omega (arith, accepted-from g (n + cond (eqb g f) 1 0) es, same-cond g f)
accepted-from g n (_ ∷ es) = omega (arith, accepted-from g (n + 0) es)

times-accepted : (g : ℕ) (es : Trace) → times g (accepted_in es) ≡ (story g es).accepted
times-accepted g es = omega (arith, accepted-from g 0 es, accepted-counts g es)

under : (n g a t : ℕ) → (n ≤ g → a ≡ 0) → t ≤ a → 1 ≤ t → g < n
under n g a t k l m = grind arith

-- what is told and what stands in both lists behind a thing that is done
module _ (s : Machine) (fine : Good s) (h : Ordered s) where
  record After (v : World) : Type 0 where
    pub accepted : Ascends (accepted_in v.trace)
    pub table : Ascends v.table
    pub closing : Ascends (dropped_since v.trace ++ v.leaving)
    pub first : (s.world.gone ≡ false) ⊎ (1 ≤ weigh_all ousting_of s.parties) → dropped_since v.trace ≡ []
    pub waits : Ascends (v.waking ++ v.leaving)
    pub unwoken : s.world.is_static ≡ false → v.is_static ≡ false → dropped_since v.trace ≡ [] → v.waking ≡ []

  begun-is : has is_drop_begun s.world.trace ≡ s.world.gone
  begun-is = sym (begun-has 0 s.world.trace) ∙ (h.placed.leaves 0).begun

  was : (s.world.gone ≡ false) ⊎ (1 ≤ weigh_all ousting_of s.parties) → dropped_since s.world.trace ≡ []
  was (inl n) = since-none s.world.trace (begun-is ∙ n)
  was (inr l) = h.first l

  -- where nothing changes
  stays : (v : World) → entries s.world ≡ entries v → Hushed tells_order hushed-order s.world v → After v
  stays v e k = record {
    accepted = subst Ascends (sym (ap accepted_in k.is ∙ accepted-same s.world.trace k.more k.none)) h.accepted;
    table = subst Ascends (ap (λ (x : Entries). x.table) e) h.table;
    closing = subst (λ (xs : List ℕ). Ascends (xs ++ v.leaving))
        (sym (ap dropped_since k.is ∙ since-same s.world.trace k.more k.none))
        (subst (λ (xs : List ℕ). Ascends (dropped_since s.world.trace ++ xs))
        (ap (λ (x : Entries). x.leaving) e) h.closing);
    first = λ x. ap dropped_since k.is ∙ (since-same s.world.trace k.more k.none ∙ was x);
    waits = subst (λ (x : Entries). Ascends (x.waking ++ x.leaving)) e h.waits;
    unwoken = λ i j z. sym (ap (λ (x : Entries). x.waking) e)
        ∙ h.unwoken i (sym (ap dropped_since k.is ∙ since-same s.world.trace k.more k.none) ∙ z);
  }

  -- a future is taken in

  pub same-late : (e : Event) → dropped_in (e ∷ []) ≡ [] → dropped_since (e ∷ []) ≡ [] →
      dropped_since (s.world.trace ++ e ∷ []) ≡ dropped_since s.world.trace
  same-late e a b = by (has is_drop_begun s.world.trace) refl
    where
      by : (c : Bool) → has is_drop_begun s.world.trace ≡ c →
          dropped_since (s.world.trace ++ e ∷ []) ≡ dropped_since s.world.trace
      by true q = since-append s.world.trace (e ∷ []) q
          ∙ (ap (λ (xs : List ℕ). dropped_since s.world.trace ++ xs) a ∙ append-nil (dropped_since s.world.trace))
      by false q = since-late s.world.trace (e ∷ []) q ∙ (b ∙ sym (since-none s.world.trace q))

  known : (g : ℕ) → 1 ≤ times g (accepted_in s.world.trace) → g < length s.world.tasks
  known g l = under (length s.world.tasks) g (story g s.world.trace).accepted _ (h.placed.leaves g).fresh
      (omega (arith, times-accepted g s.world.trace)) l

  entered : s.world.gone ≡ false → (g : ℕ) → 1 ≤ times g s.world.table → g < length s.world.tasks
  entered n g l = under (length s.world.tasks) g (story g s.world.trace).accepted _ (h.placed.leaves g).fresh
      (omega (arith, (h.placed.leaves g).table (inl n), (h.placed.leaves g).behind)) l

  unchanged : After s.world
  unchanged = stays s.world refl (record { more = []; is = sym (append-nil s.world.trace); none = refl })

  after-enter : (b c : Bool) (mark : Mark) (p : ℕ) → s.world.gone ≡ false → After (enter_by b c mark p s.world).world
  after-enter true c mark p n = unchanged
  after-enter false true mark p n = unchanged
  after-enter false false mark p n =
      let e : Event = Event.Accepted p (length s.world.tasks) in record {
        accepted = subst Ascends (sym (accepted-append s.world.trace (e ∷ [])))
            (ascends-push (accepted_in s.world.trace) (length s.world.tasks) known h.accepted);
        table = ascends-push s.world.table (length s.world.tasks) (entered n) h.table;
        closing = subst (λ (xs : List ℕ). Ascends (xs ++ s.world.leaving)) (sym (same-late e refl refl)) h.closing;
        first = λ x. same-late e refl refl ∙ was x;
        waits = h.waits;
        unwoken = λ i j z. h.unwoken i (sym (same-late e refl refl) ∙ z);
      }

  -- an entry is taken out
  after-leave : (b : Bool) (f : ℕ) → After (leave_by b s.world f).world
  after-leave true f = record {
    accepted = h.accepted;
    table = ascends-without f s.world.table h.table;
    closing = h.closing;
    first = was;
    waits = h.waits;
    unwoken = λ i j z. h.unwoken i z;
  }
  after-leave false f = unchanged

  -- a future's drop begins, where the executor's hasn't
  after-drop : (p f : ℕ) → s.world.gone ≡ false → After (log s.world (Event.Dropped p f))
  after-drop p f n =
      let e : Event = Event.Dropped p f in
      let q : has is_drop_begun s.world.trace ≡ false = begun-is ∙ n in
      let z : dropped_since (s.world.trace ++ e ∷ []) ≡ dropped_since s.world.trace =
      since-late s.world.trace (e ∷ []) q ∙ sym (since-none s.world.trace q) in record {
        accepted = subst Ascends (sym (accepted-append s.world.trace (e ∷ []) ∙ append-nil (accepted_in s.world.trace)))
            h.accepted;
        table = h.table;
        closing = subst (λ (xs : List ℕ). Ascends (xs ++ s.world.leaving)) (sym z) h.closing;
        first = λ x. z ∙ was x;
        waits = h.waits;
        unwoken = λ i j k. h.unwoken i (sym z ∙ k);
      }

  -- the table is taken out
  after-out : 1 ≤ weigh_all ousting_of s.parties →
      After (record s.world { table = s.world.leaving; leaving = s.world.table })
  after-out l =
      let none : s.world.leaving ≡ [] = nothing-there s.world.leaving (λ g. (h.placed.leaves g).before l) in
      let gone : s.world.gone ≡ true = (fine.sound 0).ousted (omega (arith, l)) in
      let owned : s.world.is_static ≡ false = (fine.sound 0).owned gone in record {
        accepted = h.accepted;
        table = subst Ascends (sym none) tt;
        closing = subst (λ (xs : List ℕ). Ascends (xs ++ s.world.table)) (sym (h.first l)) h.table;
        first = was;
        waits = subst (λ (xs : List ℕ). Ascends (xs ++ s.world.table)) (sym (h.unwoken owned (h.first l))) h.table;
        unwoken = λ i j z. h.unwoken i z;
      }

  -- the next is dropped
  after-next : (p : ℕ) (ls : List ℕ) → s.world.leaving ≡ ls → After (drop_next_by p s.world ls).world
  after-next p [] e = unchanged
  after-next p (f ∷ rest) e =
      let there : 1 ≤ times f s.world.leaving = omega (arith, ap (times f) e, same-self f) in
      let gone : s.world.gone ≡ true = (fine.sound f).ousted (omega (arith, there)) in
      let new : Event = Event.Dropped p f in
      let z : dropped_since (s.world.trace ++ new ∷ []) ≡ dropped_since s.world.trace ++ f ∷ [] =
      since-append s.world.trace (new ∷ []) (begun-is ∙ gone) in record {
        accepted = subst Ascends (sym (accepted-append s.world.trace (new ∷ []) ∙ append-nil (accepted_in s.world.trace)))
            h.accepted;
        table = h.table;
        closing = subst (λ (xs : List ℕ). Ascends (xs ++ rest)) (sym z)
            (subst Ascends (sym (append_assoc (dropped_since s.world.trace) (f ∷ []) rest))
            (subst (λ (xs : List ℕ). Ascends (dropped_since s.world.trace ++ xs)) e h.closing));
        first = λ x. absurd (⊎_elim
            (λ (n : s.world.gone ≡ false). let no : true ≡ false = sym gone ∙ n in let r : ⊥ = absurd (cc) in r)
            (λ (l : 1 ≤ weigh_all ousting_of s.parties).
            let r : ⊥ = absurd (omega (arith, there, (h.placed.leaves f).before l)) in r) x);
        waits = subst Ascends (sym (append_assoc s.world.waking (f ∷ []) rest))
            (subst (λ (xs : List ℕ). Ascends (s.world.waking ++ xs)) e h.waits);
        unwoken = λ i j k. absurd (some-last (dropped_since s.world.trace) f (sym z ∙ k));
      }

  -- the first of those that are to be woken goes
  after-woken : (f : ℕ) (rest : List ℕ) (now : World) → s.world.waking ≡ f ∷ rest →
      entries (record s.world { waking = rest }) ≡ entries now → Hushed tells_order hushed-order s.world now → After now
  after-woken f rest now e same_lists k =
      let z : dropped_since now.trace ≡ dropped_since s.world.trace =
      ap dropped_since k.is ∙ since-same s.world.trace k.more k.none in record {
        accepted = subst Ascends (sym (ap accepted_in k.is ∙ accepted-same s.world.trace k.more k.none)) h.accepted;
        table = subst Ascends (ap (λ (x : Entries). x.table) same_lists) h.table;
        closing = subst (λ (xs : List ℕ). Ascends (xs ++ now.leaving)) (sym z)
            (subst (λ (xs : List ℕ). Ascends (dropped_since s.world.trace ++ xs))
            (ap (λ (x : Entries). x.leaving) same_lists) h.closing);
        first = λ x. z ∙ was x;
        waits = subst (λ (x : Entries). Ascends (x.waking ++ x.leaving)) same_lists
            (subst (λ (xs : List ℕ). Ascends (xs ++ s.world.leaving)) e h.waits).1;
        unwoken = λ i j y. let no : f ∷ rest ≡ [] = sym e ∙ h.unwoken i (sym z ∙ y) in absurd (cc);
      }

  after-wake : (p : ℕ) (ls : List ℕ) → s.world.waking ≡ ls → After (wake_next_by p s.world ls).world
  after-wake p [] e = unchanged
  after-wake p (f ∷ rest) e =
      after-woken f rest (wake_next_by p s.world (f ∷ rest)).world e
      (entries-move true Move.Wake p (record s.world { waking = rest }) f)
      (hushed-wake_next tells_order hushed-order p s.world (f ∷ rest))

  after-leak_next : (b : Bool) (p : ℕ) (ls : List ℕ) → s.world.waking ≡ ls → After (leak_next_by b p s.world ls).world
  after-leak_next true p ls e = unchanged
  after-leak_next false p [] e = unchanged
  after-leak_next false p (f ∷ rest) e =
      after-woken f rest (leak_next_by false p s.world (f ∷ rest)).world e
      (entries-move true Move.Wake p (record s.world { waking = rest }) f)
      (hushed-leak_next tells_order hushed-order false p s.world (f ∷ rest))

  -- all are to be woken that have an entry
  after-leak_out : (i n : Bool) → s.world.is_static ≡ i → s.world.gone ≡ n → After (leak_out_by (i || n) s.world).world
  after-leak_out true n i g = unchanged
  after-leak_out false true i g = unchanged
  after-leak_out false false i g =
      let awake : s.world.waking ≡ [] = h.unwoken i (was (inl g)) in
      let none : s.world.leaving ≡ [] = nothing-there s.world.leaving (λ k. not-ousted s.world.gone k g
      (λ (l : 1 ≤ times k s.world.leaving). (fine.sound k).ousted (omega (arith, l)))) in record {
        accepted = h.accepted;
        table = h.table;
        closing = h.closing;
        first = was;
        waits = subst (λ (xs : List ℕ). Ascends ((xs ++ s.world.table) ++ s.world.leaving)) (sym awake)
            (subst (λ (xs : List ℕ). Ascends (s.world.table ++ xs)) (sym none)
            (subst Ascends (sym (append-nil s.world.table)) h.table));
        unwoken = λ x y z. absurd (cc);
      }
    where
      not-ousted : (b : Bool) (k : ℕ) → b ≡ false → (1 ≤ times k s.world.leaving → b ≡ true) → times k s.world.leaving ≡ 0
      not-ousted b k z m = by (times k s.world.leaving) m
        where
          by : (n : ℕ) → (1 ≤ n → b ≡ true) → n ≡ 0
          by zero q = refl
          by (suc n) q = let no : true ≡ false = sym (q (omega arith)) ∙ z in absurd (cc)

  -- the executor's drop begins
  after-begun : (p : ℕ) → s.world.gone ≡ false →
      After (log (record (log s.world (Event.CallBegun p Call.DropExecutor)) { gone = true }) (Event.DropBegun p))
  after-begun p n =
      let a : Trace = Event.CallBegun p Call.DropExecutor ∷ [] in
      let more : Trace = Event.CallBegun p Call.DropExecutor ∷ Event.DropBegun p ∷ [] in
      let q : has is_drop_begun s.world.trace ≡ false = begun-is ∙ n in
      let i : (s.world.trace ++ a) ++ Event.DropBegun p ∷ [] ≡ s.world.trace ++ more =
      append_assoc s.world.trace a (Event.DropBegun p ∷ []) in
      let z : dropped_since ((s.world.trace ++ a) ++ Event.DropBegun p ∷ []) ≡ [] =
      ap dropped_since i ∙ since-late s.world.trace more q in record {
        accepted = subst Ascends (sym (ap accepted_in i
            ∙ (accepted-append s.world.trace more ∙ append-nil (accepted_in s.world.trace)))) h.accepted;
        table = h.table;
        closing = subst (λ (xs : List ℕ). Ascends (xs ++ s.world.leaving)) (since-none s.world.trace q ∙ sym z) h.closing;
        first = λ x. z;
        waits = h.waits;
        unwoken = λ i j k. h.unwoken i (since-none s.world.trace q);
      }

  -- each thing that is done

  module _ (p : ℕ) (rest : List Op) (l : p < length s.parties) where
    open-still : (o : Op) → stack s p ≡ rest ++ reverse (o ∷ []) → 1 ≤ borrowing_of o → s.world.gone ≡ false
    open-still o e n = by s.world.gone (fine.sound 0).lent
      where
        by : (b : Bool) → (b ≡ true → weigh_all borrowing_of s.parties ≡ 0) → b ≡ false
        by false k = refl
        by true k = absurd (omega (arith, k refl, n, split borrowing_of s.parties p (o ∷ []) rest l e))

    open-drop : (f : ℕ) → stack s p ≡ rest ++ reverse (Op.User (UserOp.BeginDrop f) ∷ []) → s.world.gone ≡ false
    open-drop f e = by s.world.gone (h.placed.leaves f).still
      where
        by : (b : Bool) → (b ≡ true → weigh_all (drops_of f) s.parties + weigh_all (leaves_of f) s.parties ≡ 0) → b ≡ false
        by false k = refl
        by true k = absurd (omega (
          arith,
          k refl,
          same-self f,
          split (drops_of f) s.parties p (Op.User (UserOp.BeginDrop f) ∷ []) rest l e,
        ))

    plain : (t : Hint) (o : Op) → lists o ≡ false → Hushes tells_order hushed-order p o → After (act p t o s.world).world
    plain t o n z = stays (act p t o s.world).world (same-entries p t o s.world n)
        (hushed-act tells_order hushed-order p t o s.world z)

    after-act : (t : Hint) (o : Op) → stack s p ≡ rest ++ reverse (o ∷ []) → After (act p t o s.world).world
    after-act t (Op.Table (TableOp.Enter mark)) e = after-enter _ _ _ p (open-still (Op.Table (TableOp.Enter mark)) e (omega arith))
    after-act t (Op.Table (TableOp.LeaveTable f)) e = after-leave _ f
    after-act t (Op.Closing ClosingOp.TakeOut) e =
        after-out (omega (arith, split ousting_of s.parties p (Op.Closing ClosingOp.TakeOut ∷ []) rest l e))
    after-act t (Op.Closing ClosingOp.DropNext) e = after-next p s.world.leaving refl
    after-act t (Op.Closing ClosingOp.WakeNext) e = after-wake p s.world.waking refl
    after-act t (Op.Closing ClosingOp.LeakOut) e = after-leak_out s.world.is_static s.world.gone refl refl
    after-act t (Op.Closing ClosingOp.LeakNext) e = after-leak_next _ p s.world.waking refl
    after-act t (Op.User (UserOp.BeginDrop f)) e = after-drop p f (open-drop f e)
    after-act t (Op.Waker (WakerOp.CallAwaiter f a k)) e = plain t (Op.Waker (WakerOp.CallAwaiter f a k)) refl refl
    after-act t (Op.Sleeper (SleeperOp.CallSleeper x)) e = plain t (Op.Sleeper (SleeperOp.CallSleeper x)) refl refl
    after-act t (Op.Run (RunOp.WakeOwn x)) e = plain t (Op.Run (RunOp.WakeOwn x)) refl refl
    after-act t o e = plain t o refl tt

    after-call : (c : Call) → not (s.world.gone && is_on_executor c) ≡ true →
        After (begun p (log s.world (Event.CallBegun p c)) (mine (top (stack s p))) c).world
    after-call Call.DropExecutor n = after-begun p (by s.world.gone n)
      where
        by : (b : Bool) → not (b && true) ≡ true → b ≡ false
        by false k = refl
        by true k = absurd (cc)
    after-call c n = stays (begun p (log s.world (Event.CallBegun p c)) (mine (top (stack s p))) c).world
        (same-begun p (log s.world (Event.CallBegun p c)) (mine (top (stack s p))) c)
        (hushed-called tells_order hushed-order p s.world (mine (top (stack s p))) c tt)

    after-way : (old : List Op) (d : Done) → stack s p ≡ rest ++ reverse old → Way s p old rest d → After d.world
    after-way old d e (acted t o q z) =
        subst (λ (x : Done). After x.world) (sym z)
        (after-act t o (subst (λ (os : List Op). stack s p ≡ rest ++ reverse os) q e))
    after-way old d e (reacted o u a q z) =
        subst (λ (x : Done). After x.world) (sym z) (stays (react p o u s.world).world (same-react p o u s.world a)
        (hushed-react tells_order hushed-order p o u s.world))
    after-way old d e (called c q r n z) =
        subst (λ (y : Done). After y.world) (sym z) (after-call c (none_refused s.world s.parties (top (stack s p)) c n).2)

pub ordered-moves : (s : Machine) (p : ℕ) (old rest : List Op) (d : Done) → Good s → p < length s.parties →
    stack s p ≡ rest ++ reverse old → Way s p old rest d → Ordered s → Ordered (unsettled s p rest d)
ordered-moves s p old rest d fine l e way h =
    let a = after-way s fine h p rest l old d e way in
    let now = weigh_all-push ousting_of s.parties p rest d.next l in
    let before = split ousting_of s.parties p old rest l e in record {
      placed = placed-moves s p old rest d fine l e way h.placed;
      accepted = a.accepted;
      table = a.table;
      closing = a.closing;
      waits = a.waits;
      unwoken = λ i k. a.unwoken (owned-before i) i k;
      first = λ n. a.first (⊎_elim
          (λ (x : weigh ousting_of d.next ≤ weigh ousting_of old).
          let y : (s.world.gone ≡ false) ⊎ (1 ≤ weigh_all ousting_of s.parties) = inr (omega (arith, x, n, now, before)) in y)
          (λ (x : s.world.gone ≡ false). let y : (s.world.gone ≡ false) ⊎ (1 ≤ weigh_all ousting_of s.parties) = inl x in y)
          (ousts s.world s.parties old d (effects-way s p old rest d fine l e way)));
    }
  where
    owned-before : d.world.is_static ≡ false → s.world.is_static ≡ false
    owned-before i = ⊎_elim (λ (x : d.world.is_static ≡ s.world.is_static). sym x ∙ i)
        (λ (x : (s.world.is_static ≡ false) × (old ≡ Op.Closing ClosingOp.LeakOut ∷ [])). x.0)
        (static-effects s.world s.parties old d (effects-way s p old rest d fine l e way))

pub ordered-ends : (s : Machine) (p : ℕ) (a : Reply) (held : Hold) (below : List Op) → p < length s.parties →
    stack s p ≡ below ++ reverse (Op.End a held ∷ []) → Ordered s →
    Ordered (unsettled s p below (done (log s.world (Event.CallEnded p a)) []))
ordered-ends s p a held below l e h =
    let es : Trace = s.world.trace in
    let end : Trace = Event.CallEnded p a ∷ [] in
    let now = weigh_all-push ousting_of s.parties p below [] l in
    let before = split ousting_of s.parties p (Op.End a held ∷ []) below l e in record {
      placed = placed-ends s p a held below l e h.placed;
      accepted = subst Ascends (sym (accepted-same es end refl)) h.accepted;
      table = h.table;
      closing = subst (λ (xs : List ℕ). Ascends (xs ++ s.world.leaving)) (sym (since-same es end refl)) h.closing;
      first = λ n. since-same es end refl ∙ h.first (omega (arith, n, now, before));
      waits = h.waits;
      unwoken = λ i z. h.unwoken i (sym (since-same es end refl) ∙ z);
    }

pub ordered-start : (limit : ℕ) (kind : Kind) (n : ℕ) → Ordered (start limit kind n)
ordered-start limit kind n = record {
  placed = placed-start limit kind n;
  accepted = tt;
  table = tt;
  closing = tt;
  first = λ x. refl;
  waits = tt;
  unwoken = λ i x. refl;
}

pub ordered : (limit : ℕ) (kind : Kind) (parties : ℕ) (steps : List Step) → Ordered (run steps (start limit kind parties))
ordered limit kind parties steps = along Ordered ordered-moves ordered-ends steps (start limit kind parties)
    (good-start limit kind parties) (ordered-start limit kind parties)

pub drops-in-order : (limit : ℕ) (kind : Kind) (parties : ℕ) (steps : List Step) →
    DropsInOrder (run steps (start limit kind parties))
drops-in-order limit kind parties steps = let h = ordered limit kind parties steps in record {
  accepted = h.accepted;
  dropped = ascends-left (dropped_since (run steps (start limit kind parties)).world.trace) _ h.closing;
}
