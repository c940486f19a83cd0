-- For due_futures_stand_with_their_keepers.
-- The beginning and the end of a call keep what holds of each run at every moment; so each step does.
use Rattle.std.proofs.Common.{◌≡◌, ◌≢◌, ◌⊎◌, ◌∙◌, inl, inr, ⊎_elim, ℕ, zero, suc, ◌+◌, ◌<◌, ◌≤◌, List, [], ◌∷◌, ◌++◌, length}
use Rattle.std.proofs.Common.{drop, set, get_or, true, false, eqb, refl, sym, ap, subst, arith, get_or-set_same}
use Rattle.std.proofs.lemmas.List.{get_or_past, length-drop}
use Rattle.std.specs.Prelude.{Option, Some, None, reverse, slice_get}
use Rattle.std.{proofs.Common.get_or-set_other, proofs.lemmas.Bool.Decides.nat_tests}
use Rattle.executor_laws.proofs.Types.{By, Call, Reply, Event, Hold, Op, TickOrRun, Waker}
use Rattle.executor_model.specs.Steps.{Machine, begun, is_there, stack}
use Rattle.executor_model.specs.World.{World, Ended, Run, done, log, no_run, run_of}
use Rattle.executor_model.specs.{AwaiterKept.EndsWith, AwaiterKept.since, Keeper.AnswersReady, Keeper.is_run_drop}
use Rattle.executor_model.specs.{Standing.polls_sleeper, Trace.Trace, Trace.has, Weights.same, Weights.weigh_all}
use Rattle.executor_model.proofs.Steps.Lift.{split, unsettled}
use Rattle.executor_model.proofs.Steps.Lists.{same_cases, same_is, weigh_all-push}
use Rattle.executor_model.proofs.OwnQueues.UsingWorlds.{count-set, is_over_stage, is_past}
use Rattle.executor_laws.proofs.Placement.Leavings.{Leaves, dropping_of, drops_run, leaves-none, none-begun, drop-leaves}
use Rattle.executor_laws.proofs.Placement.Answering.{answers_of, other_of, readying_of}
use Rattle.executor_laws.proofs.Placement.Endings.{ends-before, ends-here}
use Rattle.executor_laws.proofs.Placement.Frames.{Frames, Framed, Fits, framed-end, here}
use Rattle.executor_laws.proofs.Placement.Opened.{at, poll_at, run_in, told}
use Rattle.executor_laws.proofs.Placement.Opens.{IsOpen, Open, get-old, get-push, le-or, opens}
use Rattle.executor_laws.proofs.Placement.Ran.{Alike, AllReady, has-now, has-same, only-push, ready-push, alike-one}
use Rattle.executor_laws.proofs.{Placement.Leavings.off_of, Placement.Running.RanIn, Placement.Running.ran-within}

-- the end of a call

-- the innermost call of party p was a poll of run r, by the place at which that is told of
record Polls (p r : ℕ) (es : Trace) : Type 0 where
  pub place : ℕ
  pub polled : slice_get es place ≡ Some (Event.RunPolled p r)
  pub still : IsOpen p place 0 es

off-is : (r : ℕ) (a : Reply) (held : Hold) → readying_of r (Op.End a held) ≡ off_of r (Op.End a held)
off-is r Reply.Ready (Hold.Run q) = refl
off-is r Reply.Ready _ = refl
off-is r _ held = refl

answers-end : (r : ℕ) (held : Hold) → answers_of r (Op.End Reply.Ready held) + other_of (Op.End Reply.Ready held)
    ≡ readying_of r (Op.End Reply.Ready held)
answers-end r held = omega arith

module _ (s : Machine) (p : ℕ) (a : Reply) (held : Hold) (below : List Op) (l : p < length s.parties)
    (e : stack s p ≡ below ++ reverse (Op.End a held ∷ [])) (frames : Frames s) where
  abbrev es : Trace
  es = s.world.trace

  abbrev x : Event
  x = Event.CallEnded p a

  abbrev frame : (c : Open) × (opens p es ≡ c ∷ drop 1 (opens p es)) × Fits (Op.End a held) c ×
      Framed (reverse below) (drop 1 (opens p es))
  frame = framed-end a held (reverse below) (opens p es) (here s p (Op.End a held ∷ []) below l e frames)

  -- what is answered that a run's own future is ready is a poll of that
  polls-by : (r : ℕ) (b : Reply) (c : Open) → opens p es ≡ c ∷ drop 1 (opens p es) → Fits (Op.End b held) c →
      1 ≤ readying_of r (Op.End b held) → Polls p r es
  polls-by r b None q f z = absurd (omega (arith, f r, z))
  polls-by r Reply.Ready (Some y) q f z =
      let i : r ≡ y.0 = same-run r y.0 held z (omega (arith, f, answers-end y.0 held)) in
      let t = told p es 0 r y.1
      (ap (λ (cs : List Open). at cs 0) q ∙ ap (λ (n : ℕ). poll_at n y.1) (sym i)) in
      record { place = y.1; polled = t.0; still = t.1 }
    where
      both : (m n q : ℕ) → 1 ≤ same m q → 1 ≤ same n q → m ≡ n
      both m n q u v = grind (arith, same_is)

      same-run : (m n : ℕ) (k : Hold) → 1 ≤ readying_of m (Op.End Reply.Ready k) →
          1 ≤ readying_of n (Op.End Reply.Ready k) → m ≡ n
      same-run m n (Hold.Run q) u v = both m n q u v
      same-run m n _ u v = absurd (omega (arith, u))
  polls-by r _ (Some y) q f z = absurd (omega (arith, z))

  -- a poll of run r that ends so now
  ends-run : (r k : ℕ) (b : Reply) (c : Open) → opens p es ≡ c ∷ drop 1 (opens p es) → Fits (Op.End b held) c →
      b ≡ Reply.Ready → slice_get es k ≡ Some (Event.RunPolled p r) → IsOpen p k 0 es →
      1 ≤ off_of r (Op.End b held)
  ends-run r k b c q f z g o =
      let there : at (opens p es) 0 ≡ poll_at r k = frames.tells p 0 r k g o in
      let top : Some c ≡ poll_at r k = sym (ap (λ (cs : List Open). at cs 0) q) ∙ there in
      by b c top f z
    where
      by : (b : Reply) (c : Open) → Some c ≡ poll_at r k → Fits (Op.End b held) c → b ≡ Reply.Ready →
          1 ≤ off_of r (Op.End b held)
      by b None t f z = let no : ◌≡◌ {A = Option Open} (Some None) (poll_at r k) = t in absurd (cc)
      by b (Some y) t f z =
          let i : y.0 ≡ r = ap run_in t in
          let fits : 1 ≤ answers_of r (Op.End Reply.Ready held) + other_of (Op.End Reply.Ready held) =
          subst (λ (n : ℕ). 1 ≤ answers_of n (Op.End Reply.Ready held) + other_of (Op.End Reply.Ready held)) i
          (subst (λ (v : Reply). 1 ≤ answers_of y.0 (Op.End v held) + other_of (Op.End v held)) z f) in
          subst (λ (v : Reply). 1 ≤ off_of r (Op.End v held)) (sym z)
          (omega (arith, fits, answers-end r held, off-is r Reply.Ready held))

  module _ (r : ℕ) (h : RanIn s r) where
    abbrev others : List (List Op)
    others = set s.parties p below

    ready-now : 1 ≤ readying_of r (Op.End a held) → AllReady r (es ++ x ∷ [])
    ready-now z place q f g = ⊎_elim
        (λ (y : (place < length es) × (slice_get es place ≡ Some (Event.Kept q f r))). by a (polls-by r a frame.0 frame.1
        frame.2 z) (is-ready a held z) y.0)
        (λ (y : (place ≡ length es) × (x ≡ Event.Kept q f r)). absurd (let no : x ≡ Event.Kept q f r = y.1 in cc))
        (get-push es place x (Event.Kept q f r) g)
      where
        is-ready : (b : Reply) (k : Hold) → 1 ≤ readying_of r (Op.End b k) → b ≡ Reply.Ready
        is-ready Reply.Ready k z = refl
        is-ready _ k z = absurd (omega (arith, z))

        by : (b : Reply) → Polls p r es → b ≡ Reply.Ready → place < length es →
            AnswersReady r place (es ++ Event.CallEnded p b ∷ [])
        by b y q m =
            let n = ends-here p y.place Reply.Ready es y.still in
            subst (λ (v : Reply). AnswersReady r place (es ++ Event.CallEnded p v ∷ [])) (sym q)
            (record {
              party = p;
              poll = y.place;
              polled = get-old es y.place (Event.CallEnded p Reply.Ready) y.still.within ∙ y.polled;
              ready = n.0;
              later = omega (arith, m, n.1, length-drop (y.place + 1) es, y.still.within);
            })

    pub ran-end : RanIn (unsettled s p below (done (log s.world x) [])) r
    ran-end = record {
      past = λ z. h.past (sym (has-same (is_run_drop r) es x refl) ∙ z);
      unborn = λ z. (let y = h.unborn z in (
        has-same (is_run_drop r) es x refl ∙ y.0,
        has-same (polls_sleeper (TickOrRun.Run r)) es x refl ∙ y.1,
      ));
      off = λ z. h.off (omega (
        arith,
        z,
        split (off_of r) s.parties p (Op.End a held ∷ []) below l e,
        weigh_all-push (off_of r) s.parties p below [] l,
      ));
      dropping = λ z. has-same (is_run_drop r) es x refl ∙ h.dropping (omega (
        arith,
        z,
        split (dropping_of r) s.parties p (Op.End a held ∷ []) below l e,
        weigh_all-push (dropping_of r) s.parties p below [] l,
      ));
      ended = λ z. ⊎_elim
          (λ (y : has (is_run_drop r) es ≡ true). inl (has-same (is_run_drop r) es x refl ∙ y))
          (λ (y : (1 ≤ weigh_all (readying_of r) s.parties) ⊎ AllReady r es). inr (⊎_elim
          (λ (u : 1 ≤ weigh_all (readying_of r) s.parties). still u)
          (λ (u : AllReady r es). inr (ready-push r es x refl u))
          y))
          (h.ended z);
      answered = λ q k g n. ⊎_elim
          (λ (y : (k < length es) × (slice_get es k ≡ Some (Event.RunPolled q r))). ⊎_elim
          (λ (u : EndsWith q Reply.Ready (since k es)). h.answered q k y.1 u)
          (λ (u : (x ≡ Event.CallEnded q Reply.Ready) × IsOpen q k 0 es). ap is_over_stage (now q k u.0 y.1 u.1))
          (ends-before q k Reply.Ready es x y.0 n))
          (λ (y : (k ≡ length es) × (x ≡ Event.RunPolled q r)). absurd (let no : x ≡ Event.RunPolled q r = y.1 in cc))
          (get-push es k x (Event.RunPolled q r) g);
    }
      where
        still : 1 ≤ weigh_all (readying_of r) s.parties →
            (1 ≤ weigh_all (readying_of r) (set s.parties p (below ++ reverse []))) ⊎ AllReady r (es ++ x ∷ [])
        still u = ⊎_elim
            (λ (v : weigh_all (readying_of r) others ≡ 0). inr (ready-now (omega (
              arith,
              u,
              v,
              split (readying_of r) s.parties p (Op.End a held ∷ []) below l e,
            ))))
            (λ (v : 1 ≤ weigh_all (readying_of r) others).
            inl (omega (arith, v, weigh_all-push (readying_of r) s.parties p below [] l)))
            (zero-or (weigh_all (readying_of r) others))
          where
            zero-or : (n : ℕ) → (n ≡ 0) ⊎ (1 ≤ n)
            zero-or zero = inl refl
            zero-or (suc n) = inr (omega arith)

        now : (q k : ℕ) → x ≡ Event.CallEnded q Reply.Ready → slice_get es k ≡ Some (Event.RunPolled q r) →
            IsOpen q k 0 es → (run_of s.world r).stage ≡ Ended
        now q k y g o =
            let party : q ≡ p = (let z : x ≡ Event.CallEnded q Reply.Ready = y in cc) in
            let ready : a ≡ Reply.Ready = (let z : x ≡ Event.CallEnded q Reply.Ready = y in cc) in
            h.off (omega (
              arith,
              ends-run r k a frame.0 frame.1 frame.2 ready
                  (g ∙ ap (λ (n : ℕ). let v : Option Event = Some (Event.RunPolled n r) in v) party)
                  (subst (λ (n : ℕ). IsOpen n k 0 es) party o),
              split (off_of r) s.parties p (Op.End a held ∷ []) below l e,
            ))

-- the beginning of a call

polled-alike : (r p q : ℕ) (es : Trace) → eqb r q ≡ false → Alike r es (es ++ Event.RunPolled p q ∷ [])
polled-alike r p q es z = record {
  drops = has-same (is_run_drop r) es (Event.RunPolled p q) refl;
  polls = has-same (polls_sleeper (TickOrRun.Run r)) es (Event.RunPolled p q) z;
  ready = ready-push r es (Event.RunPolled p q) refl;
  only = λ S. only-push r es (Event.RunPolled p q) S refl;
}

dropped-alike : (r p q : ℕ) (es : Trace) → eqb r q ≡ false → Alike r es (es ++ Event.RunDropped p q ∷ [])
dropped-alike r p q es z = record {
  drops = has-same (is_run_drop r) es (Event.RunDropped p q) z;
  polls = has-same (polls_sleeper (TickOrRun.Run r)) es (Event.RunDropped p q) refl;
  ready = ready-push r es (Event.RunDropped p q) refl;
  only = λ S. only-push r es (Event.RunDropped p q) S refl;
}

and-alike : (r : ℕ) (xs ys zs : Trace) → Alike r xs ys → Alike r ys zs → Alike r xs zs
and-alike r xs ys zs a b = record {
  drops = b.drops ∙ a.drops;
  polls = b.polls ∙ a.polls;
  ready = λ x. b.ready (a.ready x);
  only = λ S x. b.only S (a.only S x);
}

begun-alike : (r p : ℕ) (c : Call) (es : Trace) → Alike r es (es ++ Event.CallBegun p c ∷ [])
begun-alike r p c es = alike-one r es es (Event.CallBegun p c) refl
    (record { drops = refl; polls = refl; ready = λ x. x; only = λ S x. x })

known-run : (w : World) (q : ℕ) → is_there (run_of w q) ≡ true → length w.runs ≤ q → ⊥
known-run w q e l = let no : false ≡ true = sym (ap is_there (get_or_past w.runs q no_run l)) ∙ e in cc

module _ (s : Machine) (p : ℕ) (rest : List Op) (r : ℕ) (l : p < length s.parties) (e : stack s p ≡ rest ++ reverse [])
    (h : RanIn s r) where
  pub ran-call : (c : Call) (o : Option Waker) → drops_run c ≡ false →
      (run_of (begun p (log s.world (Event.CallBegun p c)) o c).world r) ≡ run_of s.world r →
      length (begun p (log s.world (Event.CallBegun p c)) o c).world.runs ≡ length s.world.runs →
      Alike r (s.world.trace ++ Event.CallBegun p c ∷ []) (begun p (log s.world (Event.CallBegun p c)) o c).world.trace →
      RanIn (unsettled s p rest (begun p (log s.world (Event.CallBegun p c)) o c)) r
  ran-call c o z run count t =
      let d = begun p (log s.world (Event.CallBegun p c)) o c in
      ran-within s p [] rest d r l e h (ap (λ (x : Run). x.stage) run) (ap is_past run) count
      (and-alike r s.world.trace (s.world.trace ++ Event.CallBegun p c ∷ []) d.world.trace
      (begun-alike r p c s.world.trace) t)
      (leaves-none r [] d.next refl (none-begun r p (log s.world (Event.CallBegun p c)) o c z))

  -- a poll of run q
  pub ran-poll : (q : ℕ) (b : By) (o : Option Waker) → is_there (run_of s.world q) ≡ true →
      RanIn (unsettled s p rest (begun p (log s.world (Event.CallBegun p (Call.PollRun q b))) o (Call.PollRun q b))) r
  ran-poll q b o there = ⊎_elim
      (λ (y : (same r q ≡ 1) × (eqb r q ≡ true) × (r ≡ q)). own y.2)
      (λ (y : (same r q ≡ 0) × (eqb r q ≡ false) × (r ≢ q)).
      ran-call (Call.PollRun q b) o refl refl refl
      (polled-alike r p q (s.world.trace ++ Event.CallBegun p (Call.PollRun q b) ∷ []) y.1))
      (same_cases r q)
    where
      c : Call
      c = Call.PollRun q b

      own : r ≡ q → RanIn (unsettled s p rest (begun p (log s.world (Event.CallBegun p (Call.PollRun q b))) o
          (Call.PollRun q b))) r
      own i =
          let es = s.world.trace ++ Event.CallBegun p (Call.PollRun q b) ∷ [] in
          let x = Event.RunPolled p q in
          let d = begun p (log s.world (Event.CallBegun p (Call.PollRun q b))) o (Call.PollRun q b) in
          let a : Alike r s.world.trace es = begun-alike r p (Call.PollRun q b) s.world.trace in
          let k : Leaves r [] d.next = leaves-none r [] d.next refl
          (none-begun r p (log s.world (Event.CallBegun p (Call.PollRun q b))) o (Call.PollRun q b) refl) in
          let drops : has (is_run_drop r) (es ++ x ∷ []) ≡ has (is_run_drop r) s.world.trace =
          has-same (is_run_drop r) es x refl ∙ a.drops in record {
            past = λ z. h.past (sym drops ∙ z);
            unborn = λ z. absurd (known-run s.world q there (omega (arith, z, i)));
            off = λ z. h.off (omega (
              arith,
              z,
              k.off,
              split (off_of r) s.parties p [] rest l e,
              weigh_all-push (off_of r) s.parties p rest d.next l,
            ));
            dropping = λ z. drops ∙ h.dropping (omega (
              arith,
              z,
              k.dropping,
              split (dropping_of r) s.parties p [] rest l e,
              weigh_all-push (dropping_of r) s.parties p rest d.next l,
            ));
            ended = λ z. ⊎_elim
                (λ (y : has (is_run_drop r) s.world.trace ≡ true). inl (drops ∙ y))
                (λ (y : (1 ≤ weigh_all (readying_of r) s.parties) ⊎ AllReady r s.world.trace). inr (⊎_elim
                (λ (u : 1 ≤ weigh_all (readying_of r) s.parties). inl (omega (
                  arith,
                  u,
                  split (readying_of r) s.parties p [] rest l e,
                  weigh_all-push (readying_of r) s.parties p rest d.next l,
                )))
                (λ (u : AllReady r s.world.trace). inr (ready-push r es x refl (a.ready u)))
                y))
                (h.ended z);
            answered = only-push r es x (is_over_stage (run_of s.world r).stage) refl
                (a.only (is_over_stage (run_of s.world r).stage) h.answered);
          }

  -- the drop of run q
  pub ran-drop : (q : ℕ) (o : Option Waker) → is_there (run_of s.world q) ≡ true →
      RanIn (unsettled s p rest (begun p (log s.world (Event.CallBegun p (Call.DropRun q))) o (Call.DropRun q))) r
  ran-drop q o there = ⊎_elim
      (λ (y : (same r q ≡ 1) × (eqb r q ≡ true) × (r ≡ q)). own y.2)
      (λ (y : (same r q ≡ 0) × (eqb r q ≡ false) × (r ≢ q)). other y.0 y.1 y.2)
      (same_cases r q)
    where
      v : World
      v = log s.world (Event.CallBegun p (Call.DropRun q))

      known : q < length s.world.runs
      known = ⊎_elim (λ (y : length s.world.runs ≤ q). absurd (known-run s.world q there y))
          (λ (y : suc q ≤ length s.world.runs). omega (arith, y)) (le-or (length s.world.runs) q)

      other : same r q ≡ 0 → eqb r q ≡ false → r ≢ q →
          RanIn (unsettled s p rest (begun p (log s.world (Event.CallBegun p (Call.DropRun q))) o (Call.DropRun q))) r
      other z y n =
          let c = Call.DropRun q in
          let d = begun p (log s.world (Event.CallBegun p c)) o c in
          let es = s.world.trace ++ Event.CallBegun p c ∷ [] in
          let run : run_of d.world r ≡ run_of s.world r =
          get_or-set_other s.world.runs q r (record (run_of s.world q) { dropped = true }) no_run n in
          let k = drop-leaves r (run_of s.world q).stage q in
          ran-within s p [] rest d r l e h (ap (λ (x : Run). x.stage) run) (ap is_past run)
          (count-set s.world.runs q (record (run_of s.world q) { dropped = true }))
          (and-alike r s.world.trace es (es ++ Event.RunDropped p q ∷ []) (begun-alike r p c s.world.trace)
          (dropped-alike r p q es y))
          (record { off = omega (arith, k.0); dropping = omega (arith, k.1, z); readying = omega arith })

      own : r ≡ q → RanIn (unsettled s p rest (begun p (log s.world (Event.CallBegun p (Call.DropRun q))) o
          (Call.DropRun q))) r
      own i =
          let c = Call.DropRun q in
          let d = begun p (log s.world (Event.CallBegun p c)) o c in
          let es = s.world.trace ++ Event.CallBegun p c ∷ [] in
          let x = Event.RunDropped p q in
          let a : Alike r s.world.trace es = begun-alike r p c s.world.trace in
          let run : run_of d.world r ≡ record (run_of s.world q) { dropped = true } =
          ap (λ (n : ℕ). get_or (set s.world.runs q (record (run_of s.world q) { dropped = true })) n no_run) i
          ∙ get_or-set_same s.world.runs q (record (run_of s.world q) { dropped = true }) no_run known in
          let stage : (run_of d.world r).stage ≡ (run_of s.world r).stage =
          ap (λ (y : Run). y.stage) run ∙ ap (λ (n : ℕ). (run_of s.world n).stage) (sym i) in
          let k = drop-leaves r (run_of s.world q).stage q in
          let now : has (is_run_drop r) (es ++ x ∷ []) ≡ true =
          has-now (is_run_drop r) es x (let z : eqb r q ≡ true = grind (arith, nat_tests) in z) in record {
            past = λ z. ap is_past run;
            unborn = λ z. absurd (known-run s.world q there (omega (
              arith,
              z,
              i,
              count-set s.world.runs q (record (run_of s.world q) { dropped = true }),
            )));
            off = λ z. stage ∙ h.off (omega (
              arith,
              z,
              k.0,
              split (off_of r) s.parties p [] rest l e,
              weigh_all-push (off_of r) s.parties p rest d.next l,
            ));
            dropping = λ z. now;
            ended = λ z. inl now;
            answered = only-push r es x (is_over_stage (run_of d.world r).stage) refl
                (a.only (is_over_stage (run_of d.world r).stage)
                (λ m n g y. ap is_over_stage stage ∙ h.answered m n g y));
          }
