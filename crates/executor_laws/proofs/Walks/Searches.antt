-- For runs_find_due_futures.
-- A run that walks finds a future in a queue that isn't empty.
use Rattle.std.proofs.Common.{◌≡◌, ◌≢◌, ◌⊎◌, ◌∙◌, ⊎_elim, ℕ, zero, suc, ◌+◌, ◌/◌, ◌%◌, ◌<◌, ◌≤◌, List, [], ◌∷◌, ◌++◌, length}
use Rattle.std.proofs.Common.{get_or-set_same, get_or-set_other, Bool, true, false, cond, refl, sym, ap, subst, arith}
use Rattle.std.proofs.Common.{append-nil}
use Rattle.std.proofs.Math.Nat.{mod-lt}
use Rattle.std.proofs.lemmas.Bool.Decides.{nat_tests}
use Rattle.std.proofs.lemmas.List.{reverse-append}
use Rattle.std.specs.Prelude.{Option, nat_lt, reverse}
use Rattle.executor_laws.proofs.Types.{Reply, Event, ListOp, Op, RunOp, RunPoll, StealOp, Hint}
use Rattle.executor_model.specs.{ActsOfRuns.behind, ActsOfRuns.free_places, ActsOfRuns.found, ActsOfRuns.kept_by, ActsOfRuns.look_own_by}
use Rattle.executor_model.specs.{ActsOfRuns.lock_read, ActsOfRuns.own_places, ActsOfRuns.share, ActsOfRuns.steal_by}
use Rattle.executor_model.specs.{ActsOfRuns.steal_length_by, ActsOfRuns.steal_put_by, ActsOfRuns.steal_take_by, ActsOfRuns.walk, Due.IsDue}
use Rattle.executor_model.specs.{Sound.times, Steps.Part, Steps.end_of, Steps.onto, Steps.part, Steps.settled_by, Steps.top, Trace.Trace}
use Rattle.executor_model.specs.{World.Done, World.World, World.done, World.own_of, World.put_own, WalksRound.theft}
use Rattle.executor_model.proofs.Table.Spawning.{top-last}
use Rattle.executor_model.proofs.WalksRound.Ahead.{Ahead, InList, WalksOn, all-ahead, in-list, walks-on}
use Rattle.executor_laws.proofs.RunReach.RunFinds.{Heading, Heads, heads-found}

-- another queue, which isn't empty
abbrev pub Full : RunPoll → World → ℕ → Type 0
Full x w q = (q ≢ x.run) × (1 ≤ length (own_of w q))

-- what stands first in a queue was due before
abbrev pub Dues : Trace → World → Type 0
Dues before w = (q g : ℕ) (rest : List ℕ) → own_of w q ≡ g ∷ rest → IsDue g before

-- what the run is about to do, which is all that it has to do
pub data Seeking (before : Trace) (x : RunPoll) (w : World) (os : List Op) : Type 0 where
  locks : (q : ℕ) → os ≡ Op.List (ListOp.LockRead x) ∷ [] → own_of w x.run ≡ [] → Dues before w →
      1 ≤ times q w.listed → Full x w q → Seeking before x w os
  looks : (at left : ℕ) → os ≡ Op.Run (RunOp.LookOwn x at left) ∷ [] → own_of w x.run ≡ [] → Dues before w →
      Ahead (Full x w) w.listed at left → Seeking before x w os
  lengths : (q at left : ℕ) → os ≡ Op.Steal (StealOp.Length (theft x q at left)) ∷ [] → own_of w x.run ≡ [] →
      Dues before w → q ≢ x.run → Full x w q ⊎ Ahead (Full x w) w.listed at left → Seeking before x w os
  counts : (q at left n g : ℕ) (rest : List ℕ) → os ≡ Op.Steal (StealOp.OwnLength (theft x q at left) (suc n)) ∷ [] →
      own_of w x.run ≡ [] → own_of w q ≡ g ∷ rest → q ≢ x.run → IsDue g before → Seeking before x w os
  takes : (q at left more g : ℕ) (rest : List ℕ) → os ≡ Op.Steal (StealOp.Take (theft x q at left) more) ∷ [] →
      own_of w x.run ≡ [] → own_of w q ≡ g ∷ rest → q ≢ x.run → IsDue g before → Seeking before x w os
  puts : (q at left more g : ℕ) → os ≡ Op.Steal (StealOp.Put (theft x q at left) more g) ∷ [] →
      own_of w x.run ≡ [] → q ≢ x.run → IsDue g before → Seeking before x w os
  more_takes : (q at left more g : ℕ) (xs : List ℕ) → os ≡ Op.Steal (StealOp.Take (theft x q at left) more) ∷ [] →
      own_of w x.run ≡ g ∷ xs → q ≢ x.run → IsDue g before → Seeking before x w os
  more_puts : (q at left more h g : ℕ) (xs : List ℕ) → os ≡ Op.Steal (StealOp.Put (theft x q at left) more h) ∷ [] →
      own_of w x.run ≡ g ∷ xs → q ≢ x.run → IsDue g before → Seeking before x w os
  finds : (at left g : ℕ) (xs : List ℕ) → os ≡ Op.Run (RunOp.LookOwn x at left) ∷ [] → own_of w x.run ≡ g ∷ xs →
      IsDue g before → Seeking before x w os
  unlocks : (g : ℕ) (hs : List Op) → os ≡ hs ++ Op.List ListOp.UnlockRead ∷ [] → Heading g hs → IsDue g before →
      Seeking before x w os

-- and then
pub record Next (before : Trace) (x : RunPoll) (w : World) (l : Part) : Type 0 where
  pub seeks : Seeking before x l.world l.todo
  pub events : Trace
  pub trace : l.world.trace ≡ w.trace ++ events
  pub there : l.world.gone ≡ w.gone

module _ (before : Trace) (x : RunPoll) where
  same-trace : (w v : World) (os : List Op) → v.trace ≡ w.trace → v.gone ≡ w.gone → Seeking before x v os →
      Next before x w (part v os)
  same-trace w v os e g k =
      record { seeks = k; events = []; trace = e ∙ sym (append-nil w.trace); there = g }

  -- the walk goes on
  next-walk : (p at left : ℕ) (w v : World) → v.trace ≡ w.trace → v.gone ≡ w.gone → own_of v x.run ≡ [] →
      Dues before v → Ahead (Full x v) v.listed at left →
      Next before x w (onto p (done v (walk x v.listed at left)) [])
  next-walk p at left w v e g o u k =
      let y : WalksOn (Full x v) x v.listed (walk x v.listed at left) =
      walks-on (Full x v) x v.listed (λ q z. z.0) at left k in
      subst (λ (os : List Op). Next before x w (onto p (done v os) [])) (sym y.is)
      (same-trace w v (Op.Steal (StealOp.Length (theft x y.queue y.at y.left)) ∷ []) e g
      (lengths y.queue y.at y.left refl o u y.other y.ahead))

  pub next-locks : (p q : ℕ) (h : Hint) (w : World) → own_of w x.run ≡ [] → Dues before w → 1 ≤ times q w.listed →
      Full x w q → Next before x w (onto p (lock_read h w x) [])
  next-locks p q h w o u z f =
      let v : World = (lock_read h w x).world in
      let i : InList q w.listed = in-list q w.listed z in
      let l : h.start % length w.listed < length w.listed = mod-lt h.start (omega (arith, i.within)) in
      next-walk p (h.start % length w.listed) (length w.listed) w v refl refl o u
      (all-ahead (Full x v) w.listed i.place (subst (Full x v) (sym i.is) f) i.within (h.start % length w.listed) l)

  pub next-looks : (p at left : ℕ) (w : World) → own_of w x.run ≡ [] → Dues before w →
      Ahead (Full x w) w.listed at left → Next before x w (onto p (look_own_by (own_of w x.run) w x at left) [])
  next-looks p at left w o u k =
      subst (λ (xs : List ℕ). Next before x w (onto p (look_own_by xs w x at left) [])) (sym o)
      (next-walk p at left w w refl refl o u k)

  pub next-lengths : (p q at left : ℕ) (w : World) → own_of w x.run ≡ [] → Dues before w → q ≢ x.run →
      Full x w q ⊎ Ahead (Full x w) w.listed at left →
      Next before x w (onto p (steal_length_by (length (own_of w q)) w (theft x q at left)) [])
  next-lengths p q at left w o u n k = by (own_of w q) refl
    where
      ahead : own_of w q ≡ [] → Ahead (Full x w) w.listed at left
      ahead e = ⊎_elim
          (λ (z : Full x w q). absurd (omega (arith, z.1, ap (λ (xs : List ℕ). length xs) e)))
          (λ (z : Ahead (Full x w) w.listed at left). z) k

      by : (xs : List ℕ) → own_of w q ≡ xs →
          Next before x w (onto p (steal_length_by (length xs) w (theft x q at left)) [])
      by [] e = same-trace w w (Op.Run (RunOp.LookOwn x at left) ∷ []) refl refl (looks at left refl o u (ahead e))
      by (g ∷ rest) e =
          same-trace w w (Op.Steal (StealOp.OwnLength (theft x q at left) (suc (length rest))) ∷ []) refl refl
          (counts q at left (length rest) g rest refl o e n (u q g rest e))

  -- about half of it is taken, where a place is free
  share-some : (n free : ℕ) → 1 ≤ n → 1 ≤ free → (k : ℕ) × (share n free ≡ suc k)
  share-some n free a b = some (share n free) (by (nat_lt ((n + 1) / 2) free))
    where
      by : (c : Bool) → 1 ≤ cond c ((n + 1) / 2) free
      by true = omega (arith, a)
      by false = omega (arith, b)

      some : (m : ℕ) → 1 ≤ m → (k : ℕ) × (m ≡ suc k)
      some zero z = absurd (omega (arith, z))
      some (suc k) z = (k, refl)

  places : (w : World) → x.run < length w.own → own_places w x.run ≡ 512
  places w l =
      let b : nat_lt x.run (length w.own) ≡ true = grind (arith, nat_tests) in
      ap {B = ℕ} (λ (c : Bool). cond c 512 0) b

  pub next-counts : (p q at left n g : ℕ) (rest : List ℕ) (w : World) → x.run < length w.own → own_of w x.run ≡ [] →
      own_of w q ≡ g ∷ rest → q ≢ x.run → IsDue g before →
      Next before x w (onto p (steal_by (share (suc n) (free_places w x.run)) w (theft x q at left)) [])
  next-counts p q at left n g rest w l o e m due =
      let free : 1 ≤ free_places w x.run = omega (arith, places w l, ap (λ (xs : List ℕ). length xs) o) in
      let k : _ = share-some (suc n) (free_places w x.run) (omega arith) free in
      subst (λ (i : ℕ). Next before x w (onto p (steal_by i w (theft x q at left)) [])) (sym k.1)
      (same-trace w w (Op.Steal (StealOp.Take (theft x q at left) k.0) ∷ []) refl refl
      (takes q at left k.0 g rest refl o e m due))

  pub next-takes : (p q at left more g : ℕ) (rest : List ℕ) (w : World) → own_of w x.run ≡ [] →
      own_of w q ≡ g ∷ rest → q ≢ x.run → IsDue g before →
      Next before x w (onto p (steal_take_by (own_of w q) w (theft x q at left) more) [])
  next-takes p q at left more g rest w o e m due =
      subst (λ (xs : List ℕ). Next before x w (onto p (steal_take_by xs w (theft x q at left) more) [])) (sym e)
      (same-trace w (put_own w q rest) (Op.Steal (StealOp.Put (theft x q at left) more g) ∷ []) refl refl
      (puts q at left more g refl (get_or-set_other w.own q x.run rest [] (λ z. m (sym z)) ∙ o) m due))

  -- more is taken, or the own queue is looked at
  next-steals : (p q at left more g : ℕ) (xs : List ℕ) (w v : World) (es : Trace) → v.trace ≡ w.trace ++ es →
      v.gone ≡ w.gone → own_of v x.run ≡ g ∷ xs → q ≢ x.run → IsDue g before →
      Next before x w (onto p (steal_by more v (theft x q at left)) [])
  next-steals p q at left zero g xs w v es e y o m due = record {
    seeks = finds at left g xs refl o due;
    events = es;
    trace = e;
    there = y;
  }
  next-steals p q at left (suc more) g xs w v es e y o m due = record {
    seeks = more_takes q at left more g xs refl o m due;
    events = es;
    trace = e;
    there = y;
  }

  pub next-puts : (p q at left more g : ℕ) (b : Bool) (w : World) → b ≡ true → x.run < length w.own →
      own_of w x.run ≡ [] → q ≢ x.run → IsDue g before →
      Next before x w (onto p (steal_put_by b p w (theft x q at left) more g) [])
  next-puts p q at left more g false w b l o m due = absurd (cc)
  next-puts p q at left more g true w b l o m due =
      next-steals p q at left more g [] w (kept_by p w x.run g) (Event.Kept p g x.run ∷ []) refl refl
      (get_or-set_same w.own x.run (own_of w x.run ++ g ∷ []) [] l ∙ ap (λ (xs : List ℕ). xs ++ g ∷ []) o) m due

  pub next-more_takes : (p q at left more g : ℕ) (xs : List ℕ) (w : World) → own_of w x.run ≡ g ∷ xs → q ≢ x.run →
      IsDue g before → Next before x w (onto p (steal_take_by (own_of w q) w (theft x q at left) more) [])
  next-more_takes p q at left more g xs w o m due = by (own_of w q)
    where
      by : (ys : List ℕ) → Next before x w (onto p (steal_take_by ys w (theft x q at left) more) [])
      by [] = same-trace w w (Op.Run (RunOp.LookOwn x at left) ∷ []) refl refl (finds at left g xs refl o due)
      by (h ∷ rest) =
          same-trace w (put_own w q rest) (Op.Steal (StealOp.Put (theft x q at left) more h) ∷ []) refl refl
          (more_puts q at left more h g xs refl (get_or-set_other w.own q x.run rest [] (λ z. m (sym z)) ∙ o) m due)

  pub next-more_puts : (p q at left more h g : ℕ) (xs : List ℕ) (b : Bool) (w : World) → b ≡ true →
      x.run < length w.own → own_of w x.run ≡ g ∷ xs → q ≢ x.run → IsDue g before →
      Next before x w (onto p (steal_put_by b p w (theft x q at left) more h) [])
  next-more_puts p q at left more h g xs false w b l o m due = absurd (cc)
  next-more_puts p q at left more h g xs true w b l o m due =
      next-steals p q at left more g (xs ++ h ∷ []) w (kept_by p w x.run h) (Event.Kept p h x.run ∷ []) refl refl
      (get_or-set_same w.own x.run (own_of w x.run ++ h ∷ []) [] l ∙ ap (λ (ys : List ℕ). ys ++ h ∷ []) o) m due

  -- what is found in the walk is run once the list's lock is given back
  next-behind : (p g : ℕ) (w : World) (z : Done) → Heads g w.trace w.gone z → IsDue g before →
      Next before x w (onto p (behind (Op.List ListOp.UnlockRead ∷ []) z) [])
  next-behind p g w z heads due =
      let turned : reverse (Op.List ListOp.UnlockRead ∷ z.next) ≡ reverse z.next ++ Op.List ListOp.UnlockRead ∷ [] =
      reverse-append (Op.List ListOp.UnlockRead ∷ []) z.next in
      let still : settled_by (end_of (top (reverse z.next ++ Op.List ListOp.UnlockRead ∷ []))) p z.world
      (reverse z.next ++ Op.List ListOp.UnlockRead ∷ [])
      ≡ part z.world (reverse z.next ++ Op.List ListOp.UnlockRead ∷ []) =
      ap (λ (v : Option Reply). settled_by v p z.world (reverse z.next ++ Op.List ListOp.UnlockRead ∷ []))
      (ap end_of (top-last (reverse z.next) (Op.List ListOp.UnlockRead))) in
      subst (λ (os : List Op). Next before x w (settled_by (end_of (top os)) p z.world os)) (sym turned)
      (subst (Next before x w) (sym still) (record {
        seeks = unlocks g (reverse z.next) refl heads.heading due;
        events = heads.events;
        trace = heads.trace;
        there = heads.there;
      }))

  pub next-finds : (p at left g : ℕ) (xs : List ℕ) (w : World) → own_of w x.run ≡ g ∷ xs → IsDue g before →
      Next before x w (onto p (look_own_by (own_of w x.run) w x at left) [])
  next-finds p at left g xs w o due =
      subst (λ (ys : List ℕ). Next before x w (onto p (look_own_by ys w x at left) [])) (sym o)
      (next-behind p g w (found (put_own w x.run xs) x g) (heads-found g (put_own w x.run xs) x) due)
