-- Where nobody lies it is nothing to tell; and where no task waits for a wake, a waker that is called queues nothing.
use Rattle.std.proofs.Common.{◌≡◌, ℕ, ◌-◌, ◌==◌, ◌&&◌, not, Bool, true, false, List, [], ◌∷◌, ◌++◌, map}
use Rattle.std.proofs.Common.{Option, Some, None, is_some, slice_get, if◌then◌else◌, refl, sym, ap, subst, ◌∙◌}
use Rattle.std.specs.Prelude.{filter}
use Rattle.executor_parts.specs.declared.mark.Mark.TheVariants.{Plain as PlainMark, Urgent}
use Rattle.task_moves.specs.AbstractTask as abstract
use Rattle.task_moves.specs.AbstractTask.{AbstractTask, Phase, Idle, Queued, Polling, PollingWoken, Finished}
use Rattle.task_moves.specs.LocalTask.{info_of}
use Rattle.executor_model.specs.declared.op.Waker.{Waker}
use Rattle.executor_model.specs.World.{among}
use Rattle.plain_scheduler.specs.State.{Calls, Choice, Due, Future, Plain}
use Rattle.plain_scheduler.specs.Lists.{each, on, or}
use Rattle.plain_scheduler.specs.Moves.{appended, becomes, called, is_common, no_task, put, release, see, task, tell, used, wake}
use Rattle.plain_scheduler.specs.Calls.{closed, freed, swept}
use Rattle.machine_roads.specs.View.{Output, wakes}
use Rattle.machine_roads.specs.Road.{futures_in, is_told}
use Rattle.machine_roads.specs.Lone.{NoneWaits, waits_for}
use Rattle.machine_roads.proofs.Lists.{clash, map_append, same_of, turned}
use Rattle.machine_roads.proofs.Puts.{put_at, put_lying, task_past, task_put}
use Rattle.machine_roads.proofs.Telling.{tells_none}
use Rattle.machine_roads.proofs.Used.{lower, none_told}

tell_nobody : (c : Choice) (q : Plain Output Waker) → q.lying ≡ [] → tell wakes c q ≡ q
tell_nobody c q none = tells_none c q (ap is_told none)

becomes_nobody : (c : Choice) (f : ℕ) (new : AbstractTask Output Waker) (q : Plain Output Waker) → q.lying ≡ []
    → becomes wakes (tell wakes c) f new q ≡ becomes wakes (λ s. s) f new q
becomes_nobody c f new q none = by (is_some (info_of (task f q) new))
  where
    by : (b : Bool)
        → (if b then tell wakes c (appended f (put f new q)) else put f new q) ≡ (if b then appended f (put f new q) else put f new q)
    by true = tell_nobody c (appended f (put f new q)) (put_lying f new q ∙ none)
    by false = refl

becomes_lying : (f : ℕ) (new : AbstractTask Output Waker) (q : Plain Output Waker) → (becomes wakes (λ s. s) f new q).lying ≡ q.lying
becomes_lying f new q = by (is_some (info_of (task f q) new))
  where
    by : (b : Bool) → (if b then appended f (put f new q) else put f new q).lying ≡ q.lying
    by true = put_lying f new q
    by false = put_lying f new q

-- a future that is woken by a waker that goes
abbrev pub freed_so : ℕ → Plain Output Waker → Plain Output Waker
freed_so f q = release wakes (λ s. s) f (wake wakes (λ s. s) f q)

pub freed_lying : (f : ℕ) (q : Plain Output Waker) → (freed_so f q).lying ≡ q.lying
freed_lying f q =
    let z : Plain Output Waker = wake wakes (λ s. s) f q in
    becomes_lying f (abstract.release (task f z)) z ∙ becomes_lying f (abstract.wake (task f q)) q

freed_nobody : (c : Choice) (f : ℕ) (q : Plain Output Waker) → q.lying ≡ [] → freed wakes c f q ≡ freed_so f q
freed_nobody c f q none =
    let z : Plain Output Waker = wake wakes (λ s. s) f q in
    ap (release wakes (tell wakes c) f) (becomes_nobody c f (abstract.wake (task f q)) q none)
    ∙ becomes_nobody c f (abstract.release (task f z)) z (becomes_lying f (abstract.wake (task f q)) q ∙ none)

pub each_freed : (c : Choice) (ws : List ℕ) (q : Plain Output Waker) → q.lying ≡ [] → each ws (freed wakes c) q ≡ each ws freed_so q
each_freed c [] q none = refl
each_freed c (w ∷ ws) q none =
    ap (each ws (freed wakes c)) (freed_nobody c w q none) ∙ each_freed c ws (freed_so w q) (freed_lying w q ∙ none)

pub each_lying : (ws : List ℕ) (q : Plain Output Waker) → (each ws freed_so q).lying ≡ q.lying
each_lying [] q = refl
each_lying (w ∷ ws) q = each_lying ws (freed_so w q) ∙ freed_lying w q

never : (b : Bool) → (b && false) ≡ false
never true = refl
never false = refl

both_off : (a b c : Bool) → (a && b) ≡ false → (a && (b && c)) ≡ false
both_off true true c is = absurd cc
both_off true false c is = refl
both_off false b c is = refl

module _ (t : AbstractTask Output Waker) where
  pub woken_waits : waits_for (abstract.wake t) ≡ false
  woken_waits = by t.closed t.phase refl refl
    where
      by : (closed : Bool) (phase : Phase) → t.closed ≡ closed → t.phase ≡ phase
          → waits_for (if closed then t else abstract.wake_open phase t) ≡ false
      by true phase is at = ap (λ b. abstract.is_idle t.phase && not b) is ∙ never (abstract.is_idle t.phase)
      by false Idle is at = refl
      by false Queued is at = ap (λ phase. abstract.is_idle phase && not t.closed) at
      by false Polling is at = refl
      by false PollingWoken is at = ap (λ phase. abstract.is_idle phase && not t.closed) at
      by false Finished is at = ap (λ phase. abstract.is_idle phase && not t.closed) at

  pub calm_infos : waits_for t ≡ false → (abstract.wake t).infos ≡ t.infos
  calm_infos calm = by t.closed t.phase refl refl
    where
      by : (closed : Bool) (phase : Phase) → t.closed ≡ closed → t.phase ≡ phase
          → (if closed then t else abstract.wake_open phase t).infos ≡ t.infos
      by true phase is at = refl
      by false Idle is at =
          absurd (clash calm (ap (λ phase. abstract.is_idle phase && not t.closed) at ∙ ap (λ b. not b) is))
      by false Queued is at = refl
      by false Polling is at = refl
      by false PollingWoken is at = refl
      by false Finished is at = refl

  pub calm_release : waits_for t ≡ false → abstract.release t ≡ lower t
  calm_release calm =
      ap (λ b. if b then abstract.close (lower t) else lower t)
      (both_off (abstract.is_idle t.phase) (not t.closed) (not t.handle && (t.wakers - 1 == 0)) calm)

  pub released_waits : waits_for t ≡ false → waits_for (abstract.release t) ≡ false
  released_waits calm = ap waits_for (calm_release calm) ∙ calm

  pub told_waits : is_some (info_of t (abstract.wake t)) ≡ true → waits_for t ≡ true
  told_waits is = by (waits_for t) refl
    where
      by : (b : Bool) → waits_for t ≡ b → waits_for t ≡ true
      by true so = so
      by false calm = absurd (clash (none_told t (abstract.wake t) (calm_infos calm)) is)

  -- called by a waker that goes
  pub used_infos : waits_for t ≡ false → (abstract.release (abstract.wake t)).infos ≡ t.infos
  used_infos calm =
      ap (λ (t : AbstractTask Output Waker). t.infos) (calm_release_of (abstract.wake t) woken_waits) ∙ calm_infos calm
    where
      calm_release_of : (u : AbstractTask Output Waker) → waits_for u ≡ false → abstract.release u ≡ lower u
      calm_release_of u off =
          ap (λ b. if b then abstract.close (lower u) else lower u)
          (both_off (abstract.is_idle u.phase) (not u.closed) (not u.handle && (u.wakers - 1 == 0)) off)

-- which tasks wait where one becomes another
module _ (g : ℕ) (new : AbstractTask Output Waker) (q : Plain Output Waker) where
  put_past : (f : ℕ) → (g == f) ≡ false → task f (put g new q) ≡ task f q
  put_past f apart = by (slice_get q.futures g) refl
    where
      by : (o : Option (Future Output Waker)) → slice_get q.futures g ≡ o → task f (on o (λ x p. put_at g new x p) q) ≡ task f q
      by None is = refl
      by (Some x) is = task_past g f new q x apart

  put_here : waits_for new ≡ false → waits_for (task g (put g new q)) ≡ false
  put_here calm = by (slice_get q.futures g) refl
    where
      by : (o : Option (Future Output Waker)) → slice_get q.futures g ≡ o → waits_for (task g (on o (λ x p. put_at g new x p) q)) ≡ false
      by None is = ap (λ (o : Option (Future Output Waker)). waits_for (or o (λ future. future.task) no_task)) is
      by (Some x) is = ap waits_for (task_put g new q x is) ∙ calm

  pub put_waits : waits_for new ≡ false → (f : ℕ) → waits_for (task f (put g new q)) ≡ true
      → (waits_for (task f q) ≡ true) × ((g == f) ≡ false)
  put_waits calm f is = by (g == f) refl
    where
      by : (b : Bool) → (g == f) ≡ b → (waits_for (task f q) ≡ true) × ((g == f) ≡ false)
      by false apart = (sym (ap waits_for (put_past f apart)) ∙ is, apart)
      by true same =
          absurd (clash (put_here calm) (subst (λ f. waits_for (task f (put g new q)) ≡ true) (sym (same_of g f same)) is))

  pub becomes_here : waits_for new ≡ false → waits_for (task g (becomes wakes (λ s. s) g new q)) ≡ false
  becomes_here calm = by (is_some (info_of (task g q) new))
    where
      by : (b : Bool) → waits_for (task g (if b then appended g (put g new q) else put g new q)) ≡ false
      by true = put_here calm
      by false = put_here calm

  becomes_waits : waits_for new ≡ false → (f : ℕ) → waits_for (task f (becomes wakes (λ s. s) g new q)) ≡ true
      → (waits_for (task f q) ≡ true) × ((g == f) ≡ false)
  becomes_waits calm f is = by (is_some (info_of (task g q) new)) is
    where
      by : (b : Bool) → waits_for (task f (if b then appended g (put g new q) else put g new q)) ≡ true
          → (waits_for (task f q) ≡ true) × ((g == f) ≡ false)
      by true is = put_waits calm f is
      by false is = put_waits calm f is

-- only these wait
abbrev pub WaitAmong : List ℕ → Plain Output Waker → Type 0
WaitAmong ws q = (f : ℕ) → waits_for (task f q) ≡ true → among f ws ≡ true

freed_waits : (g : ℕ) (ws : List ℕ) (q : Plain Output Waker) → WaitAmong (g ∷ ws) q → WaitAmong ws (freed_so g q)
freed_waits g ws q all f is =
    let z : Plain Output Waker = wake wakes (λ s. s) g q in
    let here : waits_for (task g z) ≡ false = becomes_here g (abstract.wake (task g q)) q (woken_waits (task g q)) in
    let one = becomes_waits g (abstract.release (task g z)) z (released_waits (task g z) here) f is in
    let two = becomes_waits g (abstract.wake (task g q)) q (woken_waits (task g q)) f one.0 in
    sym (ap (λ b. elim b [ true ↦ true | false ↦ among f ws ]) (turned g f two.1)) ∙ all f two.0

pub each_waits : (ws : List ℕ) (q : Plain Output Waker) → WaitAmong ws q → NoneWaits (each ws freed_so q)
each_waits [] q all f = by (waits_for (task f q)) refl
  where
    by : (b : Bool) → waits_for (task f q) ≡ b → waits_for (task f q) ≡ false
    by false off = off
    by true on = absurd (clash refl (all f on))
each_waits (w ∷ ws) q all f = each_waits ws (freed_so w q) (freed_waits w ws q all) f

-- a waker is called where none waits
abbrev pub used_so : ℕ → Plain Output Waker → Plain Output Waker
used_so g q = put g (abstract.release (abstract.wake (task g q))) q

abbrev pub call_so : Waker → Plain Output Waker → Plain Output Waker
call_so a q = or (wakes a) (λ g. used_so g q) (see (Calls a) q)

pub release_calmly : (more : Plain Output Waker → Plain Output Waker) (f : ℕ) (q : Plain Output Waker) → waits_for (task f q) ≡ false
    → release wakes more f q ≡ put f (abstract.release (task f q)) q
release_calmly more f q calm =
    let new = abstract.release (task f q) in
    ap (λ b. if b then more (appended f (put f new q)) else put f new q)
    (none_told (task f q) new (ap (λ (t : AbstractTask Output Waker). t.infos) (calm_release (task f q) calm)))

pub wake_calmly : (more : Plain Output Waker → Plain Output Waker) (f : ℕ) (q : Plain Output Waker) → waits_for (task f q) ≡ false
    → wake wakes more f q ≡ put f (abstract.wake (task f q)) q
wake_calmly more f q calm =
    let new = abstract.wake (task f q) in
    ap (λ b. if b then more (appended f (put f new q)) else put f new q) (none_told (task f q) new (calm_infos (task f q) calm))

pub used_calmly : (more : Plain Output Waker → Plain Output Waker) (g : ℕ) (q : Plain Output Waker) → NoneWaits q
    → used wakes more g q ≡ used_so g q
used_calmly more g q none =
    let new = abstract.release (abstract.wake (task g q)) in
    ap (λ b. if b then more (appended g (put g new q)) else put g new q) (none_told (task g q) new (used_infos (task g q) (none g)))

pub called_calmly : (more : Plain Output Waker → Plain Output Waker) (a : Waker) (q : Plain Output Waker) → NoneWaits q
    → called wakes more a q ≡ call_so a q
called_calmly more a q none = by (wakes a)
  where
    by : (o : Option ℕ) → or o (λ g. used wakes more g q) (see (Calls a) q) ≡ or o (λ g. used_so g q) (see (Calls a) q)
    by None = refl
    by (Some g) = used_calmly more g q none

pub put_none : (g : ℕ) (new : AbstractTask Output Waker) (q : Plain Output Waker) → waits_for new ≡ false → NoneWaits q
    → NoneWaits (put g new q)
put_none g new q calm none f = by (waits_for (task f (put g new q))) refl
  where
    by : (b : Bool) → waits_for (task f (put g new q)) ≡ b → waits_for (task f (put g new q)) ≡ false
    by false off = off
    by true on = absurd (clash (none f) (put_waits g new q calm f on).0)

pub call_none : (a : Waker) (q : Plain Output Waker) → NoneWaits q → NoneWaits (call_so a q)
call_none a q none = by (wakes a)
  where
    by : (o : Option ℕ) → NoneWaits (or o (λ g. used_so g q) (see (Calls a) q))
    by None = none
    by (Some g) =
        put_none g (abstract.release (abstract.wake (task g q))) q
        (released_waits (abstract.wake (task g q)) (woken_waits (task g q))) none

-- a task is closed, and who awaits it is called
abbrev pub last_of : ℕ → Plain Output Waker → AbstractTask Output Waker
last_of f q = (abstract.drop_runnable (task f q)).task

abbrev pub closed_so : ℕ → Plain Output Waker → Plain Output Waker
closed_so f q = on (task f q).awaiter call_so (put f (last_of f q) q)

pub last_none : (f : ℕ) (q : Plain Output Waker) → NoneWaits q → NoneWaits (put f (last_of f q) q)
last_none f q none = put_none f (last_of f q) q refl none

pub on_none : (o : Option Waker) (q : Plain Output Waker) → NoneWaits q → NoneWaits (on o call_so q)
on_none None q none = none
on_none (Some a) q none = call_none a q none

closed_calmly : (c : Choice) (f : ℕ) (q : Plain Output Waker) → NoneWaits q → closed wakes c f q ≡ closed_so f q
closed_calmly c f q none = by (task f q).awaiter
  where
    by : (o : Option Waker) → on o (called wakes (tell wakes c)) (put f (last_of f q) q) ≡ on o call_so (put f (last_of f q) q)
    by None = refl
    by (Some a) = called_calmly (tell wakes c) a (put f (last_of f q) q) (last_none f q none)

pub closed_none : (f : ℕ) (q : Plain Output Waker) → NoneWaits q → NoneWaits (closed_so f q)
closed_none f q none = on_none (task f q).awaiter (put f (last_of f q) q) (last_none f q none)

pub each_closed : (c : Choice) (fs : List ℕ) (q : Plain Output Waker) → NoneWaits q
    → (each fs (closed wakes c) q ≡ each fs closed_so q) × NoneWaits (each fs closed_so q)
each_closed c [] q none = (refl, none)
each_closed c (f ∷ fs) q none =
    let rest = each_closed c fs (closed_so f q) (closed_none f q none) in
    (ap (each fs (closed wakes c)) (closed_calmly c f q none) ∙ rest.0, rest.1)

-- what is due is nothing to that
module _ (ds : List Due) where
  put_due : (g : ℕ) (new : AbstractTask Output Waker) (q : Plain Output Waker)
      → put g new (record q { due = ds }) ≡ record (put g new q) { due = ds }
  put_due g new q = by (slice_get q.futures g)
    where
      by : (o : Option (Future Output Waker))
          → on o (λ x p. put_at g new x p) (record q { due = ds }) ≡ record (on o (λ x p. put_at g new x p) q) { due = ds }
      by None = refl
      by (Some x) = refl

  call_due : (a : Waker) (q : Plain Output Waker) → call_so a (record q { due = ds }) ≡ record (call_so a q) { due = ds }
  call_due a q = by (wakes a)
    where
      by : (o : Option ℕ)
          → or o (λ g. used_so g (record q { due = ds })) (see (Calls a) (record q { due = ds }))
          ≡ record (or o (λ g. used_so g q) (see (Calls a) q)) { due = ds }
      by None = refl
      by (Some g) = put_due g (abstract.release (abstract.wake (task g q))) q

  pub closed_due : (f : ℕ) (q : Plain Output Waker) → closed_so f (record q { due = ds }) ≡ record (closed_so f q) { due = ds }
  closed_due f q = by (task f q).awaiter
    where
      by : (o : Option Waker)
          → on o call_so (put f (last_of f q) (record q { due = ds })) ≡ record (on o call_so (put f (last_of f q) q)) { due = ds }
      by None = put_due f (last_of f q) q
      by (Some a) = ap (call_so a) (put_due f (last_of f q) q) ∙ call_due a (put f (last_of f q) q)

  pub each_due : (fs : List ℕ) (q : Plain Output Waker)
      → each fs closed_so (record q { due = ds }) ≡ record (each fs closed_so q) { due = ds }
  each_due [] q = refl
  each_due (f ∷ fs) q = ap (each fs closed_so) (closed_due f q) ∙ each_due fs (closed_so f q)

-- one after the other
pub each_more : {B S : Type 0} (xs ys : List B) (go : B → S → S) (s : S) → each (xs ++ ys) go s ≡ each ys go (each xs go s)
each_more [] ys go s = refl
each_more (x ∷ xs) ys go s = each_more xs ys go (go x s)

pub each_mapped : {B C S : Type 0} (of : B → C) (xs : List B) (go : C → S → S) (s : S)
    → each xs (λ x. go (of x)) s ≡ each (map of xs) go s
each_mapped of [] go s = refl
each_mapped of (x ∷ xs) go s = each_mapped of xs go (go (of x) s)

-- what stands in the queues is dropped
module _ (c : Choice) (q : Plain Output Waker) (none : NoneWaits q) where
  abbrev urgents : List ℕ
  urgents = futures_in (is_common Urgent) q.due

  abbrev plains : List ℕ
  plains = futures_in (is_common PlainMark) q.due

  abbrev last_by : List Due → Plain Output Waker
  last_by ds = each plains closed_so (record (each urgents closed_so q) { due = ds })

  pub swept_calmly : (ds : List Due) → record (last_by ds) { due = [] } ≡ swept wakes c q
  swept_calmly ds =
      ap (λ (z : Plain Output Waker). record z { due = [] }) (each_due ds plains (each urgents closed_so q))
      ∙ (sym (each_due [] plains (each urgents closed_so q))
      ∙ (ap (each plains closed_so) (sym (each_due [] urgents q))
      ∙ (sym (each_closed c plains (each urgents closed_so bare) (each_closed c urgents bare none).1).0
      ∙ (ap (each plains close_one) (sym (each_closed c urgents bare none).0)
      ∙ (sym (each_more urgents plains close_one bare)
      ∙ (ap (λ fs. each fs close_one bare)
      (sym (map_append of_due (filter (is_common Urgent) q.due) (filter (is_common PlainMark) q.due)))
      ∙ sym (each_mapped of_due both close_one bare)))))))
    where
      bare : Plain Output Waker
      bare = record q { due = [] }

      close_one : ℕ → Plain Output Waker → Plain Output Waker
      close_one = closed wakes c

      of_due : Due → ℕ
      of_due d = d.future

      both : List Due
      both = filter (is_common Urgent) q.due ++ filter (is_common PlainMark) q.due

  pub swept_none : NoneWaits (swept wakes c q)
  swept_none =
      subst (λ z. NoneWaits z) (swept_calmly q.due)
      (each_closed c plains (record (each urgents closed_so q) { due = q.due }) (each_closed c urgents q none).1).1
