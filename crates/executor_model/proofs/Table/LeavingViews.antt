-- For table_and_queue_agree, no_append_is_refused_full, the_limit_is_exact, drops_come_once, early_drops_have_causes
-- and closing_drops_each_future_once.
-- What holds of each future and its place in the table (proofs/Table/Leaving): kept by each move of its task, and by things
-- that pass, on its view.
use Rattle.std.proofs.Common.{◌≡◌, ◌⊎◌, ℕ, ◌<◌, ◌≤◌, Bool, true, false, ◌&&◌, ◌||◌, not, eqb, inl, inr, refl, arith}
use Rattle.std.{specs.Prelude.Some, specs.Prelude.nat_le, proofs.lemmas.Bool.Decides.nat_tests}
use Rattle.task_moves.specs.Moves.{moved}
use Rattle.executor_model.specs.{Acts.stands_alone, Sound.Pend, Sound.times}
use Rattle.executor_model.proofs.OneFuture.Extras.{Extra, plus_extra}
use Rattle.executor_model.proofs.OneFuture.Passes.{Passes, Shuts, Stays}
use Rattle.executor_model.proofs.OneFuture.Views.{Seen, before, after, extra_owed, lasts, of_owed, plus, tells_if}
use Rattle.executor_model.proofs.Steps.Marks.{IsOpen, IsUnheld, idle, is-open, last-handle, last-one, unheld, unmarked}
use Rattle.executor_model.proofs.{Types.Moved, Types.Move, Table.Leaving.Base, Table.Leaving.Entered, OneFuture.MoveViews.Alike}
use Rattle.task_moves.specs.Moves as moves

pub base-passes : (x y : Seen) → Passes x y → Base x → Base y
base-passes x y s h = grind arith

pub entered-passes : (x y : Seen) → Passes x y → Stays x y → Shuts x y → Entered x → Entered y
entered-passes x y s q u h = grind arith

pub entered-loose : (x : Seen) (p q : Pend) (a b : Extra) → Alike p q a b → Entered (record x { pend = p; extra = a }) →
    Entered (record x { pend = q; extra = b })
entered-loose x p q a b l h = grind arith

-- by what they find: more splits than a tactic makes by itself

abbrev turned : Bool → Bool → Move → Seen → Moved → Seen
turned l b m x d = record (lasts l (tells_if b m x)) {
  state = d.state;
  pend = plus (of_owed 1 (nat_le 1 x.table) d.owed) x.pend;
  extra = plus_extra (extra_owed 1 d.owed) x.extra;
}

abbrev releasing : Moved → Moved
releasing d = moved d.state (record d.owed { next = Some Move.Release })

abbrev Turns : Bool → Bool → Move → Seen → Moved → Type 0
Turns l b m x d = x.number < x.tasks → Base (before m x) → Entered (before m x) → Entered (turned l b m x d)

-- an open future that nobody is about to end has an entry, which has a waker where the executor is owned
has-waker : (x : Seen) → Base x → Entered x → x.number < x.tasks → x.state.closed ≡ false → x.state.completed ≡ false →
    x.pend.ready ≡ 0 → x.gone ≡ false → x.is_static ≡ false → 1 ≤ x.tabled
has-waker x b h i c d r g e =
    let t : x.tabled ≡ x.table = b.tabled e in
    let s : 1 ≤ times x.number x.story.standing = standing (h.unclosed i c d) r in
    omega (arith, t, s, h.stay g, h.table (inl g))
  where
    standing : {n m : ℕ} → (1 ≤ n) ⊎ (1 ≤ m) → m ≡ 0 → 1 ≤ n
    standing (inl y) z = y
    standing (inr y) z = absurd (omega (arith, y, z))

static-else : (b : Bool) → (b ≡ false → ⊥) → b ≡ true
static-else true h = refl
static-else false h = absurd (h refl)

entered-woken : (o b c : Bool) (x : Seen) → (moves.is_over x.state || x.state.scheduled) ≡ b → x.state.running ≡ c →
    Turns false o Move.WakeByReference x (moves.wake_by_reference_by b c x.state)
entered-woken true true c x e q i a h = grind arith
entered-woken false true c x e q i a h = grind arith
entered-woken true false true x e q i a h = grind (arith, nat_tests)
entered-woken false false true x e q i a h = grind (arith, nat_tests)
entered-woken true false false x e q i a h = let k = unmarked x.state e in grind arith
entered-woken false false false x e q i a h = let k = unmarked x.state e in grind arith

entered-woken_by : (o b c : Bool) (x : Seen) → (moves.is_over x.state || x.state.scheduled) ≡ b → x.state.running ≡ c →
    Turns false o Move.Wake x (releasing (moves.wake_by_reference_by b c x.state))
entered-woken_by true true c x e q i a h = grind arith
entered-woken_by false true c x e q i a h = grind arith
entered-woken_by true false true x e q i a h = grind (arith, nat_tests)
entered-woken_by false false true x e q i a h = grind (arith, nat_tests)
entered-woken_by true false false x e q i a h = let k = unmarked x.state e in grind arith
entered-woken_by false false false x e q i a h = let k = unmarked x.state e in grind arith

entered-released : (b c : Bool) (x : Seen) → moves.is_last x.state ≡ b → moves.is_over x.state ≡ c →
    Turns (b && not c) false Move.Release x (moves.release_by b c x.state)
entered-released true true x e q i a h = let n = last-one x.state e in grind (arith, nat_tests)
entered-released true false x e q i a h =
    let n : x.state.references ≡ 1 = last-one x.state e in
    let k : IsOpen x.state = is-open x.state q in
    let d : x.story.detached ≡ true = h.unhandled i (last-handle x.state e) in
    let s : x.gone ≡ false → x.is_static ≡ true = (λ g. static-else x.is_static (λ z. omega (
      arith,
      n,
      a.counted,
      has-waker (before Move.Release x) a h i k.1 k.0 (omega (arith, n, a.counted)) g z,
    ))) in
    grind (arith, nat_tests)
entered-released false c x e q i a h = grind arith

entered-take_up : (b : Bool) (x : Seen) → x.state.closed ≡ b →
    Turns false (not b) Move.TakeUp x (moves.take_up_by b x.state)
entered-take_up true x e i a h = grind (arith, nat_tests)
entered-take_up false x e i a h = grind (arith, nat_tests)

entered-settle_closed : (x : Seen) → Turns false false Move.SettleClosed x (moves.settle_closed x.state)
entered-settle_closed x i a h = grind (arith, nat_tests)

entered-give_up : (b : Bool) (x : Seen) → moves.is_last x.state ≡ b →
    Turns false false Move.GiveUp x (moves.give_up_by b x.state)
entered-give_up true x e i a h = grind (arith, nat_tests)
entered-give_up false x e i a h = grind (arith, nat_tests)

entered-end_ready : (x : Seen) → Turns false false Move.EndReady x (moves.end_ready x.state)
entered-end_ready x i a h = grind (arith, nat_tests)

entered-pended : (b c d : Bool) (x : Seen) → x.state.closed ≡ b → x.state.scheduled ≡ c → moves.is_last x.state ≡ d →
    Turns (not b && (not c && d)) false Move.EndPending x (moves.end_pending_by b c d x.state)
entered-pended true c d x e q r i a h = grind (arith, nat_tests)
entered-pended false true d x e q r i a h = grind (arith, nat_tests)
entered-pended false false true x e q r i a h =
    let n : x.state.references ≡ 1 = last-one x.state r in
    let o : x.state.completed ≡ false = a.live (omega arith) in
    let d : x.story.detached ≡ true = h.unhandled i (last-handle x.state r) in
    let s : x.gone ≡ false → x.is_static ≡ true = (λ g. static-else x.is_static (λ z. omega (
      arith,
      n,
      a.counted,
      a.one,
      has-waker (before Move.EndPending x) a h i e o (omega (arith, a.one)) g z,
    ))) in
    grind (arith, nat_tests)
entered-pended false false false x e q r i a h = grind (arith, nat_tests)

entered-end_closed : (x : Seen) → Turns false false Move.EndClosed x (moves.end_closed x.state)
entered-end_closed x i a h = grind (arith, nat_tests)

entered-drop_runnable : (x : Seen) → Turns false false Move.DropRunnable x (moves.drop_runnable x.state)
entered-drop_runnable x i a h = grind (arith, nat_tests)

entered-cancelled : (b c : Bool) (x : Seen) → moves.is_over x.state ≡ b → moves.is_going x.state ≡ c →
    Turns false (not b) Move.Cancel x (moves.cancel_by b c x.state)
entered-cancelled true c x e q i a h = grind arith
entered-cancelled false true x e q i a h = let k = is-open x.state e in grind (arith, nat_tests)
entered-cancelled false false x e q i a h = let k = idle x.state e q in grind (arith, nat_tests)

entered-detached : (b c : Bool) (x : Seen) → (x.state.completed && not x.state.closed) ≡ b →
    (eqb x.state.references 0 && not x.state.closed) ≡ c →
    Turns (not b && c) (not b) Move.Detach x (moves.detach_by b c x.state)
entered-detached true c x e q i a h = grind (arith, nat_tests)
entered-detached false true x e q i a h =
    let k : IsUnheld x.state = unheld x.state e q in
    let s : x.gone ≡ false → x.is_static ≡ true = (λ g. static-else x.is_static (λ z. omega (
      arith,
      k.0,
      a.counted,
      has-waker (before Move.Detach x) a h i k.1.0 k.1.1 (omega (arith, k.0, a.counted)) g z,
    ))) in
    grind (arith, nat_tests)
entered-detached false false x e q i a h = grind arith

pub entered-moved : (m : Move) (x : Seen) → x.number < x.tasks → stands_alone m ≡ true → Base (before m x) →
    Entered (before m x) → Entered (after m x)
entered-moved Move.WakeByReference x i n b h = entered-woken _ _ _ x refl refl i b h
entered-moved Move.Wake x i n b h = entered-woken_by _ _ _ x refl refl i b h
entered-moved Move.Release x i n b h = entered-released _ _ x refl refl i b h
entered-moved Move.TakeUp x i n b h = entered-take_up _ x refl i b h
entered-moved Move.SettleClosed x i n b h = entered-settle_closed x i b h
entered-moved Move.GiveUp x i n b h = entered-give_up _ x refl i b h
entered-moved Move.EndReady x i n b h = entered-end_ready x i b h
entered-moved Move.EndPending x i n b h = entered-pended _ _ _ x refl refl refl i b h
entered-moved Move.EndClosed x i n b h = entered-end_closed x i b h
entered-moved Move.DropRunnable x i n b h = entered-drop_runnable x i b h
entered-moved Move.Cancel x i n b h = entered-cancelled _ _ x refl refl i b h
entered-moved Move.Detach x i n b h = entered-detached _ _ x refl refl i b h
entered-moved _ x i n b h = absurd (cc)
