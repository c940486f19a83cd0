-- For spawns_are_limited.
-- What holds between two steps and in the middle of one (proofs/Promises/SpawnAnswers), each step keeps; and no more futures
-- are undropped than the limit.
use Rattle.std.proofs.Common.{◌≡◌, ◌⊎◌, ℕ, zero, suc, ◌+◌, ◌<◌, ◌≤◌, List, [], ◌∷◌, ◌++◌, length, Bool, true, false, cond, not}
use Rattle.std.proofs.Common.{inl, inr, ⊎_elim, refl, subst, sym, ap, ◌∙◌, get_or-set_same, arith}
use Rattle.std.specs.Prelude.{Option, Some, None, nat_lt, reverse}
use Rattle.std.{proofs.lemmas.Bool.Decides.nat_tests, proofs.lemmas.List.append_assoc}
use Rattle.executor_model.proofs.Types.{Mark, Kind, Call, Reply, Event, Hold, Op, TableOp, Waker, Hint, Step}
use Rattle.executor_model.specs.declared.event.Answer.TheVariants.{Pending, Ready}
use Rattle.executor_model.specs.SpawnsMean.{AreMany, FullFrom, SpawnsAreLimited, TookPlace, WasUndropped}
use Rattle.executor_model.specs.Steps.{Machine, begun, end_of, mine, react, run, stack, start, top}
use Rattle.executor_model.specs.Trace.{Trace, has, is_accepted, is_dropped}
use Rattle.executor_model.specs.World.{World, Done, done, log, task}
use Rattle.executor_model.specs.{Acts.enter_by, Acts.is_last_waker, Acts.is_told, Doing.act, Entries.Remains, Good.Good}
use Rattle.executor_model.specs.{Rows.borrowing_of, Rows.leaves_of, Sound.times, Weights.same, Weights.weigh, Weights.weigh_all}
use Rattle.executor_model.proofs.OneFuture.Effects.Effect.{passes, turns, refuses, enters, unlists, drops, takes_out}
use Rattle.executor_model.proofs.Promises.SpawnAnswers.{Between, Serves, Told, Within, full-ended, full-misfit, full-more}
use Rattle.executor_model.proofs.OneFuture.Effects.Effect.{drops_next, leaks, leaks_out}
use Rattle.executor_model.proofs.OneFuture.EffectsWays.Effects.{does, pends, readies, closes}
use Rattle.executor_model.proofs.OneFuture.Stories.{Story, hears, no-longer, story, story_from, untold}
use Rattle.executor_model.proofs.OneFuture.Telling.{accepted-counts, fallen-counts, same-standing}
use Rattle.executor_model.proofs.Promises.Dropping.{droppings-end, droppings-moves, droppings-start, is-being-dropped}
use Rattle.executor_model.proofs.Promises.SpawnAnswers.{full-react, full_of, is_enter, serves-call, spawn-next}
use Rattle.executor_model.proofs.Quiet.CallsDone.{fit-begun, held-ends, held-moves, held-start}
use Rattle.executor_model.proofs.Steps.Deeds.{grows-act, grows-begun, grows-react}
use Rattle.executor_model.proofs.Steps.Lift.{good-start, split, unsettled, weigh_all-idle}
use Rattle.executor_model.proofs.Table.Entering.{counts, counts-none, table-agrees}
use Rattle.executor_model.proofs.{OneFuture.Effects.Effect, OneFuture.EffectsWays.Effects, OneFuture.EffectsWays.effects-way}
use Rattle.executor_model.proofs.{OneFuture.Extras.no_extra, OneFuture.MoveViews.told-world, OneFuture.Views.none}
use Rattle.executor_model.proofs.{Promises.CallPromises.misfit, Promises.CallPromises.spawns, Quiet.Calls.is_end}
use Rattle.executor_model.proofs.{Steps.Lists.weigh-below, Steps.Lists.weigh_all-push, Steps.Settled.along-settled}
use Rattle.executor_model.proofs.{Steps.Ways.Way, Steps.Ways.Way.acted, Steps.Ways.Way.called, Steps.Ways.Way.reacted}
use Rattle.executor_model.proofs.{Table.LeavingExecutions.Placed, Table.Spawning.has-table-by, Table.Spawning.top-last}

-- the limit stays

limit-effect : (w : World) (old : List Op) (d : Done) → Effect w old d → d.world.limit ≡ w.limit
limit-effect w old d (passes s c) = (s 0 none no_extra).stays.limit
limit-effect w old _ (turns d m p f v more i j k s a e) =
    ap (λ (x : World). x.limit) a ∙ (ap (λ (x : World). x.limit) (told-world (is_last_waker m (task v f)) (is_told m (task v f)) m p v f)
    ∙ (s 0 none no_extra).stays.limit)
limit-effect w old d (refuses f e) = refl
limit-effect w old d (enters mark p e) = refl
limit-effect w old d (unlists f e) = refl
limit-effect w old d (drops p f) = refl
limit-effect w old d takes_out = refl
limit-effect w old d (drops_next p f rest e) = refl
limit-effect w old d (leaks_out s n) = refl
limit-effect w old _ (leaks d p f e a) = limit-effect w _ d e

limit-effects : (w : World) (ss : List (List Op)) (old : List Op) (d : Done) → Effects w ss old d →
    d.world.limit ≡ w.limit
limit-effects w ss old d (does x) = limit-effect w old d x
limit-effects w ss old d (pends p f) = refl
limit-effects w ss old d (readies p f) = refl
limit-effects w ss old d (closes p n u) = refl

-- where a spawn asks for a place

took-place : (s : Machine) (f : ℕ) → Remains f s → (1 ≤ weigh_all (leaves_of f) s.parties →
    TookPlace s.world.trace f) → TookPlace s.world.trace f
took-place s f m k = ⊎_elim
    (λ (x : has (is_dropped f) s.world.trace ≡ false). record { accepted = m.accepted; remained = inl x })
    (λ (x : 1 ≤ weigh_all (leaves_of f) s.parties). k x) m.remains

full-now : (n : ℕ) (s : Machine) (p : ℕ) (mark : Mark) (rest : List Op) → Good s → p < length s.parties →
    stack s p ≡ rest ++ reverse (Op.Table (TableOp.Enter mark) ∷ []) → Between n s →
    not (nat_lt (length s.world.table) s.world.limit) ≡ true → AreMany n (TookPlace s.world.trace)
full-now n s p mark rest fine l e k b =
    let placed : Placed s = k.held.placed in
    let uses : 1 ≤ weigh_all borrowing_of s.parties =
    omega (arith, split borrowing_of s.parties p (Op.Table (TableOp.Enter mark) ∷ []) rest l e) in
    let full : s.world.limit ≤ length s.world.table = grind (arith, nat_tests, b) in
    record {
      futures = s.world.table;
      different = λ f. (table-agrees s f fine placed).once;
      kind = λ f i.
          let m : Remains f s = (table-agrees s f fine placed).only (has-table-by s fine placed uses) i in
          took-place s f m (λ x. record { accepted = m.accepted; remained = inr (is-being-dropped s f k.droppings x) });
      many = omega (arith, full, k.limit);
    }

called-next : (p : ℕ) (w : World) (here : Option Waker) (c : Call) → weigh full_of (begun p w here c).next ≡ 0
called-next p w here c = by (spawns c) refl
  where
    spawned : (c : Call) → spawns c ≡ true → weigh full_of (begun p w here c).next ≡ 0
    spawned (Call.Spawn mark) e = refl
    spawned _ e = absurd (cc)

    by : (b : Bool) → spawns c ≡ b → weigh full_of (begun p w here c).next ≡ 0
    by true e = spawned c e
    by false e = omega (arith, weigh-below full_of (misfit c) (full-misfit c e) (begun p w here c).next, fit-begun p w here c)

-- each move

module _ (n : ℕ) (s : Machine) (p : ℕ) (old rest : List Op) (fine : Good s) (l : p < length s.parties)
    (e : stack s p ≡ rest ++ reverse old) (k : Between n s) where
  none-more : (d : Done) → weigh full_of d.next ≡ 0 → weigh_all full_of (unsettled s p rest d).parties ≡ 0
  none-more d z = omega (
    arith,
    z,
    k.none,
    weigh_all-push full_of s.parties p rest d.next l,
    split full_of s.parties p old rest l e,
  )

  -- what is kept anyhow, and this
  within : (d : Done) → Way s p old rest d → FullFrom n [] d.world.trace →
      (weigh_all full_of (unsettled s p rest d).parties ≡ 0) ⊎ Told n (unsettled s p rest d) p →
      Within n (unsettled s p rest d) p
  within d way a b = record {
    held = held-moves s p old rest d fine l e way k.held;
    droppings = droppings-moves s p old rest d fine l e way k.droppings;
    limit = limit-effects s.world s.parties old d (effects-way s p old rest d fine l e way) ∙ k.limit;
    full = a;
    answer = b;
  }

  entered : (b c : Bool) (mark : Mark) → not (nat_lt (length s.world.table) s.world.limit) ≡ b →
      old ≡ Op.Table (TableOp.Enter mark) ∷ [] →
      (weigh_all full_of (unsettled s p rest (enter_by b c mark p s.world)).parties ≡ 0)
      ⊎ Told n (unsettled s p rest (enter_by b c mark p s.world)) p
  entered true c mark z q = inr (record {
    below = rest;
    held = Hold.Executor;
    is = get_or-set_same s.parties p (rest ++ Op.End Reply.Full Hold.Executor ∷ []) [] l;
    one = omega (
      arith,
      k.none,
      weigh_all-push full_of s.parties p rest (Op.End Reply.Full Hold.Executor ∷ []) l,
      split full_of s.parties p old rest l e,
      ap (weigh full_of) q,
    );
    many = full-now n s p mark rest fine l (subst (λ (os : List Op). stack s p ≡ rest ++ reverse os) q e) k z;
  })
  entered false true mark z q = inl (none-more (enter_by false true mark p s.world) refl)
  entered false false mark z q = inl (none-more (enter_by false false mark p s.world) refl)

  answer-acted : (h : Hint) (o : Op) (b : Bool) → is_enter o ≡ b → is_end o ≡ false → old ≡ o ∷ [] → Serves o →
      (weigh_all full_of (unsettled s p rest (act p h o s.world)).parties ≡ 0)
      ⊎ Told n (unsettled s p rest (act p h o s.world)) p
  answer-acted h o false i u q x = inl (none-more (act p h o s.world)
      (spawn-next (spawns x.call) x.call refl p h o s.world u x.fits i))
  answer-acted h (Op.Table (TableOp.Enter mark)) true i u q x = entered _ _ mark refl q
  answer-acted h _ true i u q x = absurd (cc)

  by-act : (h : Hint) (o : Op) (b : Bool) → is_end o ≡ b → old ≡ o ∷ [] →
      Way s p old rest (act p h o s.world) → Within n (unsettled s p rest (act p h o s.world)) p
  by-act h o false i q way =
      let g = grows-act p h o s.world i in
      within (act p h o s.world) way
      (subst (FullFrom n []) (sym g.is) (full-more n s.world.trace g.more k.full g.none_ends))
      (answer-acted h o (is_enter o) refl i q
      (serves-call s p o rest (subst (λ (os : List Op). stack s p ≡ rest ++ reverse os) q e) k.held))
  by-act h (Op.End a held) true i q way =
      within (done (log s.world (Event.CallEnded p a)) []) way
      (full-ended n s.world.trace p a k.full (λ r. absurd (omega (
        arith,
        k.none,
        split full_of s.parties p old rest l e,
        ap (weigh full_of) q,
        ap (λ (x : Reply). full_of (Op.End x held)) r,
      ))))
      (inl (none-more (done (log s.world (Event.CallEnded p a)) []) refl))
  by-act h _ true i q way = absurd (cc)

  within-moves : (d : Done) → Way s p old rest d → Within n (unsettled s p rest d) p
  within-moves d (acted h o q z) =
      subst (λ (x : Done). Within n (unsettled s p rest x) p) (sym z)
      (by-act h o (is_end o) refl q (acted h o q refl))
  within-moves d (reacted o u a q z) =
      let g = grows-react p o u s.world in
      let y : Within n (unsettled s p rest (react p o u s.world)) p =
      within (react p o u s.world) (reacted o u a q refl)
      (subst (FullFrom n []) (sym g.is) (full-more n s.world.trace g.more k.full g.none_ends))
      (inl (none-more (react p o u s.world) (full-react p o u s.world a))) in
      subst (λ (x : Done). Within n (unsettled s p rest x) p) (sym z) y
  within-moves d (called c q r i z) =
      let w : World = log s.world (Event.CallBegun p c) in
      let here : Option Waker = mine (top (stack s p)) in
      let g = grows-begun p w here c in
      let y : Within n (unsettled s p rest (begun p w here c)) p =
      within (begun p w here c) (called c q r i refl)
      (subst (FullFrom n []) (sym (g.is ∙ append_assoc s.world.trace (Event.CallBegun p c ∷ []) g.more))
      (full-more n s.world.trace (Event.CallBegun p c ∷ g.more) k.full g.none_ends))
      (inl (none-more (begun p w here c) (called-next p w here c))) in
      subst (λ (x : Done). Within n (unsettled s p rest x) p) (sym z) y

-- the end of a call

last-one : (xs ys : List Op) (a b : Op) → xs ++ a ∷ [] ≡ ys ++ b ∷ [] → a ≡ b
last-one xs ys a b e =
    let q : Some a ≡ Some b = sym (top-last xs a) ∙ (ap top e ∙ top-last ys b) in cc

within-ends : (n : ℕ) (s : Machine) (p : ℕ) (a : Reply) (held : Hold) (below : List Op) → p < length s.parties →
    stack s p ≡ below ++ reverse (Op.End a held ∷ []) → Within n s p →
    Between n (unsettled s p below (done (log s.world (Event.CallEnded p a)) []))
within-ends n s p a held below l e k =
    let x : weigh_all full_of s.parties ≡ full_of (Op.End a held) + 0
    + weigh_all full_of (unsettled s p below (done (log s.world (Event.CallEnded p a)) [])).parties =
    omega (arith, split full_of s.parties p (Op.End a held ∷ []) below l e, weigh_all-push full_of s.parties p below [] l) in
    record {
      held = held-ends s p a held below l e k.held;
      droppings = droppings-end s p a held below l e k.droppings;
      limit = k.limit;
      full = full-ended n s.world.trace p a k.full (λ r. ⊎_elim
          (λ (z : weigh_all full_of s.parties ≡ 0).
          absurd (omega (arith, z, x, ap (λ (y : Reply). full_of (Op.End y held)) r)))
          (λ (t : Told n s p). t.many) k.answer);
      none = ⊎_elim
          (λ (z : weigh_all full_of s.parties ≡ 0). omega (arith, z, x))
          (λ (t : Told n s p).
          let q : Op.End a held ≡ Op.End Reply.Full t.held = last-one below t.below _ _ (sym e ∙ t.is) in
          omega (arith, t.one, x, ap full_of q)) k.answer;
    }

within-stays : (n : ℕ) (s : Machine) (p : ℕ) → p < length s.parties → end_of (top (stack s p)) ≡ None → Within n s p →
    Between n s
within-stays n s p l e k = record {
  held = k.held;
  droppings = k.droppings;
  limit = k.limit;
  full = k.full;
  none = ⊎_elim (λ (z : weigh_all full_of s.parties ≡ 0). z)
      (λ (t : Told n s p).
      let no : Some Reply.Full ≡ None =
      sym (ap (λ (os : List Op). end_of (top os)) t.is
      ∙ ap end_of (top-last t.below (Op.End Reply.Full t.held))) ∙ e in absurd (cc)) k.answer;
}

between-start : (limit : ℕ) (kind : Kind) (n : ℕ) → Between limit (start limit kind n)
between-start limit kind n = record {
  held = held-start limit kind n;
  droppings = droppings-start limit kind n;
  limit = refl;
  full = tt;
  none = weigh_all-idle full_of n;
}

between : (limit : ℕ) (kind : Kind) (n : ℕ) (ts : List Step) → Between limit (run ts (start limit kind n))
between limit kind n ts = along-settled (Between limit) (Within limit)
    (λ s p old rest d fine l e way k. within-moves limit s p old rest fine l e k d way) (within-ends limit)
    (within-stays limit) ts (start limit kind n) (good-start limit kind n) (between-start limit kind n)

-- never more than the limit

early-one : (g : ℕ) (e : Event) (s : Story) → s.early ≤ s.fallen → (hears g e s).early ≤ (hears g e s).fallen
early-one g (Event.Dropped p f) s h = by s.begun
  where
    by : (b : Bool) → s.early + cond b 0 (same g f) ≤ s.fallen + same g f
    by true = omega (arith, h)
    by false = omega (arith, h)
early-one g (Event.Answered p f Ready) s h = h
early-one g (Event.Answered p f Pending) s h = h
early-one g _ s h = h

early-from : (g : ℕ) (s : Story) (es : Trace) → s.early ≤ s.fallen → (story_from g s es).early ≤ (story_from g s es).fallen
early-from g s [] h = h
early-from g s (e ∷ es) h = early-from g (hears g e s) es (early-one g e s h)

early-below : (g : ℕ) (es : Trace) → (story g es).early ≤ (story g es).fallen
unfolding story
early-below g es = early-from g untold es (omega arith)

never-more : (s : Machine) → Placed s → ¬ AreMany (suc s.world.limit) (WasUndropped s.world.trace)
never-more s h m =
    let n : length m.futures ≤ length (story 0 s.world.trace).standing =
    no-longer m.futures (story 0 s.world.trace).standing stands in
    omega (arith, n, (h.leaves 0).few, m.many)
  where
    stands : (g : ℕ) → times g m.futures ≤ times g (story 0 s.world.trace).standing
    stands g = by (times g m.futures) refl
      where
        by : (k : ℕ) → times g m.futures ≡ k → times g m.futures ≤ times g (story 0 s.world.trace).standing
        by zero q = omega (arith, q)
        by (suc k) q =
            let x : WasUndropped s.world.trace g = m.kind g (omega (arith, q)) in
            omega (
              arith,
              m.different g,
              (h.leaves g).lasting,
              early-below g s.world.trace,
              counts (is_accepted g) s.world.trace _ (accepted-counts g s.world.trace) x.accepted,
              counts-none (is_dropped g) s.world.trace _ (fallen-counts g s.world.trace) x.undropped,
              ap (times g) (same-standing g 0 s.world.trace),
            )

pub spawns-limited : (limit : ℕ) (kind : Kind) (parties : ℕ) (steps : List Step) → SpawnsAreLimited (run steps (start limit kind parties))
spawns-limited limit kind parties steps =
    let k : Between limit (run steps (start limit kind parties)) = between limit kind parties steps in
    record {
      full = subst (λ (n : ℕ). FullFrom n [] (run steps (start limit kind parties)).world.trace) (sym k.limit) k.full;
      few = never-more (run steps (start limit kind parties)) k.held.placed;
    }
