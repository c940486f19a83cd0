-- A task that is over, and that nobody can reach, goes.
use Rattle.std.proofs.Common.{◌≡◌, ◌≢◌, ℕ, ◌+◌, ◌<◌, ◌==◌, ◌&&◌, ◌||◌, not, Bool, true, false, Option, Some, None, [], is_some, length}
use Rattle.std.proofs.Common.{slice_get, slice_set, IsSome, refl, sym, ap, subst, ◌∙◌, arith}
use Rattle.std.proofs.lemmas.Bool.Decides.{nat_tests}
use Rattle.slab.specs.Slab.{get, Updates}
use Rattle.slab.proofs.SlabLemmas.{Updates-set, ContainsKey-within}
use Rattle.task_moves.specs.AbstractTask as abstract
use Rattle.task_moves.specs.AbstractTask.{AbstractTask, Phase, Idle, Queued, Polling, PollingWoken, Finished}
use Rattle.task_moves.specs.LocalTask.{is_gone, is_home, is_queued, is_unreachable, references_of, token_by}
use Rattle.solo.specs.declared.names.Task.{Task}
use Rattle.solo.specs.declared.names.SoloWaker.{SoloWaker}
use Rattle.solo.specs.declared.cells.Cell.{Cell}
use Rattle.solo.specs.declared.cells.Cells.{Cells}
use Rattle.solo.specs.declared.solo.Solo.{Solo}
use Rattle.solo.specs.Cells.{Kept, choose, asked_by, asked}
use Rattle.solo.specs.Cells as cells
use Rattle.solo.specs.Turns as turns
use Rattle.plain_scheduler.specs.State.{Due, Future, Plain}
use Rattle.solo_laws.specs.Road.{TaskIs, IsTaskOf, IsOver, FollowsBut, is_done}
use Rattle.solo_laws.proofs.Following.Due.{clash, both_true, not_true}
use Rattle.solo_laws.proofs.Following.Cells.{same_number, found, of_found, asks_found}
use Rattle.solo_laws.proofs.Following.Inside.{home_stays, lent_stays, dropping_stays}
use Rattle.solo_laws.proofs.Following.Changing.{kept}

none_of : {B : Type 0} (o : Option B) → not (is_some o) ≡ true → o ≡ None
none_of None is = refl
none_of (Some b) is = absurd cc

finished : (phase : Phase) → abstract.is_over phase ≡ true → phase ≡ Finished
finished Finished is = refl
finished Idle is = absurd cc
finished Queued is = absurd cc
finished Polling is = absurd cc
finished PollingWoken is = absurd cc

closed_by : {B : Type 0} (closed : Bool) (o : Option B) → o ≡ None → (closed || is_some o) ≡ true → closed ≡ true
closed_by true o none is = refl
closed_by false None none is = is
closed_by false (Some b) none is = absurd cc

module _ {T A : Type 0} where
  -- out of reach and done it is over
  over_of : (t : AbstractTask T A) → (is_unreachable t && (not (is_some t.output) && not (is_some t.awaiter))) ≡ true
      → is_done t ≡ true → t.infos ≡ [] → IsOver t
  over_of t is done told =
      let a = both_true (is_unreachable t) (not (is_some t.output) && not (is_some t.awaiter)) is in
      let b = both_true (references_of t == 0) (not t.handle) a.0 in
      let c = both_true (not (is_some t.output)) (not (is_some t.awaiter)) a.1 in
      let d = both_true (abstract.is_over t.phase) (t.closed || is_some t.output) done in
      let none : t.wakers + token_by t.phase ≡ 0 = same_number (references_of t) 0 b.0 in
      record {
        phase = finished t.phase d.0;
        closed = closed_by t.closed t.output (none_of t.output c.0) d.1;
        handle = not_true t.handle b.1;
        wakers = omega (arith, none);
        output = none_of t.output c.0;
        awaiter = none_of t.awaiter c.1;
        infos = told;
      }

module _ {T X : Type 0} (t : Task) where
  -- the cells without this one
  abbrev pub cleared : Cells T X → Cells T X
  cleared s = record { slab = record s.slab { slots = slice_set s.slab.slots t.key None; vacant_key = t.key } }

  full_by : (q : Kept T X → Bool) (o : Option (Cell T X)) → asked_by q false t o ≡ true → IsSome o
  full_by q None is = absurd cc
  full_by q (Some c) is = refl

  pub updates : (q : Kept T X → Bool) (s : Cells T X) → asked q false t s ≡ true → Updates s.slab (cleared s).slab t.key None
  updates q s is =
      Updates-set s.slab (cleared s).slab t.key None (ContainsKey-within s.slab t.key (full_by q (get s.slab t.key) is)) refl

  cleared_here : (q : Kept T X → Bool) (s : Cells T X) → asked q false t s ≡ true → found t (cleared s) ≡ None
  cleared_here q s is = ap (asked_by Some None t) ((updates q s is).changed)

  module _ (u : Task) (apart : (t.number == u.number) ≡ false) where
    -- a cell of this number has none of the other
    missing : (q : Kept T X → Bool) (o : Option (Cell T X)) → asked_by q false t o ≡ true → asked_by Some None u o ≡ None
    missing q None is = refl
    missing q (Some c) is = by (c.number == t.number) (c.number == u.number) refl refl is
      where
        turn : (n m k : ℕ) → (n == m) ≡ true → (n == k) ≡ true → (m == k) ≡ true
        turn n m k one two = grind (arith, nat_tests)

        by : (a b : Bool) → (c.number == t.number) ≡ a → (c.number == u.number) ≡ b → choose a (q c.task) false ≡ true
            → choose b (Some c.task) None ≡ None
        by true true one two is = absurd (clash apart (turn c.number t.number u.number one two))
        by a false one two is = refl
        by false true one two is = absurd cc

    cleared_there : (q : Kept T X → Bool) (s : Cells T X) → asked q false t s ≡ true → found u (cleared s) ≡ found u s
    cleared_there q s is = by (t.key == u.key) refl
      where
        by : (b : Bool) → (t.key == u.key) ≡ b → found u (cleared s) ≡ found u s
        by true same =
            let one : t.key ≡ u.key = same_number t.key u.key same in
            ap (asked_by Some None u) (sym (ap (get (cleared s).slab) one) ∙ (updates q s is).changed)
            ∙ sym (ap (λ k. asked_by Some None u (get s.slab k)) (sym one) ∙ missing q (get s.slab t.key) is)
        by false same =
            let two : u.key ≢ t.key = λ one. absurd (grind (arith, nat_tests)) in
            ap (asked_by Some None u) ((updates q s is).others u.key two)

module _ {T X : Type 0} where
  spent_over : (v : Kept T X) (x : Future T (SoloWaker X)) → IsTaskOf v x → cells.is_spent v ≡ true → IsOver x.task
  spent_over v x of is =
      let two = both_true (is_gone v.future) (is_unreachable v.task &&
      (not (is_some v.task.output) && not (is_some v.task.awaiter))) is in
      over_of x.task
      (subst (λ (t : AbstractTask T (SoloWaker X)). (is_unreachable t && (not (is_some t.output) && not (is_some t.awaiter)))
      ≡ true) of.task two.1)
      (of.done two.0) of.told

module _ {F T X : Type 0} (aside : Option Due) (name : ℕ → Task) where
  pub swept : (f : ℕ) (s : Solo F T X) (p : Plain T (SoloWaker X)) → f < length p.futures → FollowsBut aside name s p
      → FollowsBut aside name (turns.swept (name f) s) p
  swept f s p at r = by (asked cells.is_spent false (name f) s.cells) refl
    where
      goes : asked cells.is_spent false (name f) s.cells ≡ true
          → FollowsBut aside name (record s { cells = cleared (name f) s.cells }) p
      goes is = record {
        numbered = r.numbered;
        tasks = λ j below. tasks (f == j) j below refl;
        within = r.within;
        queued = r.queued;
        once = r.once;
        ready = λ j due.
            let can = r.ready j due in (
              can.0,
              spared cells.may_start
                  (λ v is gone. clash (home_stays v.future (both_true (is_home v.future) (is_queued v.task.phase) is).0) gone)
                  (f == j) j can.0
                  can.1 refl,
            );
        asleep = r.asleep;
        awaiters = r.awaiters;
        inside = record {
          lent = λ j has.
              let can = r.inside.lent j has in
              (can.0, spared cells.is_lent (λ v is gone. clash (lent_stays v.future is) gone) (f == j) j can.0 can.1 refl);
          dropping = λ j has.
              let can = r.inside.dropping j has in (
                can.0,
                spared cells.is_dropping (λ v is gone. clash (dropping_stays v.future is) gone)
                    (f == j) j can.0 can.1 refl,
              );
          lent_once = r.inside.lent_once;
          dropping_once = r.inside.dropping_once;
          callers = r.inside.callers;
        };
      }
        where
          apart : (j : ℕ) → j < length p.futures → (f == j) ≡ false → ((name f).number == (name j).number) ≡ false
          apart j below same = ap (λ n. n == (name j).number) (r.numbered f at) ∙ (ap (λ n. f == n) (r.numbered j below) ∙ same)

          tasks : (b : Bool) (j : ℕ) → j < length p.futures → (f == j) ≡ b
              → TaskIs (found (name j) (cleared (name f) s.cells)) (slice_get p.futures j)
          tasks true j below same =
              let k = kept aside name cells.is_spent f s p r at is in
              subst (λ j. TaskIs (found (name j) (cleared (name f) s.cells)) (slice_get p.futures j)) (same_number f j same)
              (subst (λ o. TaskIs o (slice_get p.futures f)) (sym (cleared_here (name f) cells.is_spent s.cells is))
              (subst (λ o. TaskIs None o) (sym k.3) (spent_over k.0 k.1 k.5 k.4)))
          tasks false j below same =
              subst (λ o. TaskIs o (slice_get p.futures j))
              (sym (cleared_there (name f) (name j) (apart j below same) cells.is_spent s.cells is))
              (r.tasks j below)

          -- of one whose future isn't gone all stays so
          spared : (q : Kept T X → Bool) → ((v : Kept T X) → q v ≡ true → is_gone v.future ≡ true → ⊥) → (b : Bool) (j : ℕ)
              → j < length p.futures
              → asked q false (name j) s.cells ≡ true → (f == j) ≡ b → asked q false (name j) (cleared (name f) s.cells) ≡ true
          spared q stays true j below can same =
              let one : f ≡ j = same_number f j same in
              let here : asked q false (name f) s.cells ≡ true = subst (λ n. asked q false (name n) s.cells ≡ true)
              (sym one) can in
              let k = kept aside name cells.is_spent f s p r at is in
              let so : q k.0 ≡ true = sym (ap (of_found q false) k.2) ∙ (sym (asks_found q false (name f) s.cells) ∙ here) in
              absurd (stays k.0 so
              (both_true (is_gone k.0.future) (is_unreachable k.0.task &&
              (not (is_some k.0.task.output) && not (is_some k.0.task.awaiter))) k.4).0)
          spared q stays false j below can same =
              asks_found q false (name j) (cleared (name f) s.cells)
              ∙ (ap (of_found q false) (cleared_there (name f) (name j) (apart j below same) cells.is_spent s.cells is)
              ∙ (sym (asks_found q false (name j) s.cells) ∙ can))

      by : (b : Bool) → asked cells.is_spent false (name f) s.cells ≡ b → FollowsBut aside name (turns.swept (name f) s) p
      by true is =
          subst (λ b. FollowsBut aside name (record s { cells = choose b (cleared (name f) s.cells) s.cells }) p) (sym is)
          (goes is)
      by false is = subst (λ b. FollowsBut aside name (record s { cells = choose b (cleared (name f) s.cells) s.cells }) p)
          (sym is) r
