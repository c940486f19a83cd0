-- A task that was woken is queued by no release of its wakers, whoever is woken or goes in between.
use Rattle.std.proofs.Common.{◌≡◌, ◌≢◌, ℕ, ◌-◌, ◌==◌, ◌&&◌, not, Bool, true, false, if◌then◌else◌, List, length, Option, Some, None}
use Rattle.std.proofs.Common.{slice_get, slice_set, is_some, IsSome, refl, sym, ap, ◌∙◌, arith}
use Rattle.std.proofs.lemmas.Bool.Decides.{nat_tests}
use Rattle.std.proofs.lemmas.Option.{slice_get_past}
use Rattle.slab.specs.Slab.{Slab, get, with_value, Updates}
use Rattle.slab.proofs.SlabLemmas.{Updates-with_value, Updates-set, ContainsKey-within}
use Rattle.task_moves.specs.AbstractTask as abstract
use Rattle.task_moves.specs.AbstractTask.{AbstractTask, Phase, Idle, Queued, Polling, PollingWoken, Finished, is_idle}
use Rattle.task_moves.specs.LocalTask.{info_of, info_from, with_task}
use Rattle.solo.specs.declared.names.Task.{Task}
use Rattle.solo.specs.declared.cells.Cell.{Cell}
use Rattle.solo.specs.declared.cells.Cells.{Cells}
use Rattle.solo.specs.Cells.{Kept, choose, changed_by, changed, asked_by, asked, tidied}
use Rattle.solo.specs.Cells as cells

module _ {T A : Type 0} where
  -- it waits for a wake, and is open
  abbrev pub waits : AbstractTask T A → Bool
  waits t = is_idle t.phase && not t.closed

  woken_by : (p : Phase) (c : Bool) (t : AbstractTask T A) → waits (abstract.wake (record t { phase = p; closed = c })) ≡ false
  woken_by Idle true t = refl
  woken_by Idle false t = refl
  woken_by Queued true t = refl
  woken_by Queued false t = refl
  woken_by Polling true t = refl
  woken_by Polling false t = refl
  woken_by PollingWoken true t = refl
  woken_by PollingWoken false t = refl
  woken_by Finished true t = refl
  woken_by Finished false t = refl

  pub woken_waits : (t : AbstractTask T A) → waits (abstract.wake t) ≡ false
  woken_waits t = woken_by t.phase t.closed t

  released_by : (idle closed : Bool) (rest : Bool) (t : AbstractTask T A) → (idle && not closed) ≡ false
      → (if idle && (not closed && rest) then abstract.close t else t) ≡ t
  released_by true true rest t is = refl
  released_by true false rest t is = absurd cc
  released_by false closed rest t is = refl

  -- nothing is closed by the release of a waker, where it doesn't wait
  released_is : (t : AbstractTask T A) → waits t ≡ false → abstract.release t ≡ record t { wakers = t.wakers - 1 }
  released_is t is =
      released_by (is_idle t.phase) t.closed (not t.handle && (t.wakers - 1 == 0)) (record t { wakers = t.wakers - 1 }) is

  pub released_waits : (t : AbstractTask T A) → waits t ≡ false → waits (abstract.release t) ≡ false
  released_waits t is = ap waits (released_is t is) ∙ is

  pub none_told : (t u : AbstractTask T A) → u.infos ≡ t.infos → is_some (info_of t u) ≡ false
  none_told t u same =
      let past : slice_get u.infos (length t.infos) ≡ None =
      slice_get_past u.infos (length t.infos) (let long = ap (λ (infos : List Bool). length infos) same in omega (arith, long)) in
      ap (λ (found : Option Bool). is_some (info_from found)) past

  pub release_tells : (t : AbstractTask T A) → waits t ≡ false → is_some (info_of t (abstract.release t)) ≡ false
  release_tells t is = none_told t (abstract.release t) (ap (λ (u : AbstractTask T A). u.infos) (released_is t is))

and_false : (b c : Bool) → c ≡ false → (b && c) ≡ false
and_false true c is = is
and_false false c is = refl

module _ {T X : Type 0} where
  -- the task of a name waits for a wake, and is open
  abbrev pub Waits : Kept T X → Bool
  Waits v = waits v.task

  pub woken_rests : (v : Kept T X) → Waits (cells.woken v) ≡ false
  woken_rests v = woken_waits v.task

  released_rests_by : (b : Bool) (v : Kept T X) → Waits v ≡ false → Waits (choose b (with_task v (abstract.release v.task)) v) ≡ false
  released_rests_by true v is = released_waits v.task is
  released_rests_by false v is = is

  pub released_rests : (v : Kept T X) → Waits v ≡ false → Waits (cells.released v) ≡ false
  released_rests v is = released_rests_by (cells.has_waker v) v is

  release_queues_not : (v : Kept T X) → Waits v ≡ false → cells.release_queues v ≡ false
  release_queues_not v is =
      and_false (cells.has_waker v) (is_some (info_of v.task (abstract.release v.task))) (release_tells v.task is)

  -- the task of this name, if it is there, doesn't wait for a wake
  abbrev pub Rests : Task → Cells T X → Type 0
  Rests task s = asked Waits false task s ≡ false

  queues_not_by : (b : Bool) (v : Kept T X) → choose b (Waits v) false ≡ false → choose b (cells.release_queues v) false ≡ false
  queues_not_by true v is = release_queues_not v is
  queues_not_by false v is = refl

  queues_not_in : (task : Task) (found : Option (Cell T X)) → asked_by Waits false task found ≡ false
      → asked_by cells.release_queues false task found ≡ false
  queues_not_in task None is = refl
  queues_not_in task (Some c) is = queues_not_by (c.number == task.number) c.task is

  -- no release queues it
  pub queues_not : (task : Task) (s : Cells T X) → Rests task s → asked cells.release_queues false task s ≡ false
  queues_not task s rests = queues_not_in task (get s.slab task.key) rests

  changed_cell_by : (f : Kept T X → Kept T X) → ((v : Kept T X) → Waits v ≡ false → Waits (f v) ≡ false) → (mine his : Bool) (v : Kept T X)
      → choose mine (Waits v) false ≡ false → choose mine (Waits (choose his (f v) v)) false ≡ false
  changed_cell_by f keeps true true v is = keeps v is
  changed_cell_by f keeps true false v is = is
  changed_cell_by f keeps false his v is = refl

  woken_cell_by : (mine : Bool) (v : Kept T X) → choose mine (Waits (choose mine (cells.woken v) v)) false ≡ false
  woken_cell_by true v = woken_rests v
  woken_cell_by false v = refl

  some_there : (found : Option (Cell T X)) (c : Cell T X) → found ≡ Some c → IsSome found
  some_there (Some d) c is = refl
  some_there None c is = absurd cc

  pub with_cell : (s : Slab (Cell T X)) (key : ℕ) (c d : Cell T X) → get s key ≡ Some c
      → Updates s (with_value s key d) key (Some d)
  with_cell s key c d is = Updates-with_value s key d (some_there (get s key) c is)

  changed_at : (f : Kept T X → Kept T X) → ((v : Kept T X) → Waits v ≡ false → Waits (f v) ≡ false) → (task other : Task)
      (found : Option (Cell T X)) (s : Slab (Cell T X)) (same : Bool) → get s other.key ≡ found → (task.key == other.key) ≡ same
      → asked_by Waits false task (get s task.key) ≡ false
      → asked_by Waits false task (get (changed_by f other found s) task.key) ≡ false
  changed_at f keeps task other None s same is key rests = rests
  changed_at f keeps task other (Some c) s true is key rests =
      let one : task.key ≡ other.key = grind (arith, nat_tests) in
      let d : Cell T X = record c { task = choose (c.number == other.number) (f c.task) c.task } in
      let now : get (with_value s other.key d) task.key ≡ Some d =
      ap (get (with_value s other.key d)) one ∙ (with_cell s other.key c d is).changed in
      let was : asked_by Waits false task (Some c) ≡ false =
      sym (ap (asked_by Waits false task) (ap (get s) one ∙ is)) ∙ rests in
      ap (asked_by Waits false task) now ∙ changed_cell_by f keeps (c.number == task.number) (c.number == other.number) c.task was
  changed_at f keeps task other (Some c) s false is key rests =
      let two : task.key ≢ other.key = λ one. absurd (grind (arith, nat_tests)) in
      let d : Cell T X = record c { task = choose (c.number == other.number) (f c.task) c.task } in
      ap (asked_by Waits false task) ((with_cell s other.key c d is).others task.key two) ∙ rests

  -- whoever changes so, it goes on resting
  changed_rests : (f : Kept T X → Kept T X) → ((v : Kept T X) → Waits v ≡ false → Waits (f v) ≡ false) → (task other : Task)
      (s : Cells T X) → Rests task s → Rests task (changed f other s)
  changed_rests f keeps task other s rests =
      changed_at f keeps task other (get s.slab other.key) s.slab (task.key == other.key) refl refl rests

  pub others_woken : (task other : Task) (s : Cells T X) → Rests task s → Rests task (changed cells.woken other s)
  others_woken task other s rests = changed_rests cells.woken (λ v _. woken_rests v) task other s rests

  pub others_released : (task other : Task) (s : Cells T X) → Rests task s → Rests task (changed cells.released other s)
  others_released task other s rests = changed_rests cells.released released_rests task other s rests

  itself_in : (task : Task) (found : Option (Cell T X)) (s : Slab (Cell T X)) → get s task.key ≡ found
      → asked_by Waits false task (get (changed_by cells.woken task found s) task.key) ≡ false
  itself_in task None s is = ap (asked_by Waits false task) is
  itself_in task (Some c) s is =
      let d : Cell T X = record c { task = choose (c.number == task.number) (cells.woken c.task) c.task } in
      ap (asked_by Waits false task) (with_cell s task.key c d is).changed ∙ woken_cell_by (c.number == task.number) c.task

  pub itself_woken : (task : Task) (s : Cells T X) → Rests task (changed cells.woken task s)
  itself_woken task s = itself_in task (get s.slab task.key) s.slab refl

  pub without_cell : (s new : Slab (Cell T X)) (key : ℕ) (found : Option (Cell T X)) (other : Task) → get s key ≡ found
      → asked_by cells.is_spent false other found ≡ true → new.slots ≡ slice_set s.slots key None → Updates s new key None
  without_cell s new key None other is spent slots = absurd cc
  without_cell s new key (Some c) other is spent slots =
      Updates-set s new key None (ContainsKey-within s key (some_there (get s key) c is)) slots

  gone_at : (same : Bool) (task other : Task) (s new : Slab (Cell T X)) → (task.key == other.key) ≡ same → Updates s new other.key None
      → asked_by Waits false task (get s task.key) ≡ false → asked_by Waits false task (get new task.key) ≡ false
  gone_at true task other s new key gone rests =
      let one : task.key ≡ other.key = grind (arith, nat_tests) in
      ap (asked_by Waits false task) (ap (get new) one ∙ gone.changed)
  gone_at false task other s new key gone rests =
      let two : task.key ≢ other.key = λ one. absurd (grind (arith, nat_tests)) in
      ap (asked_by Waits false task) (gone.others task.key two) ∙ rests

  tidied_by : (spent : Bool) (task other : Task) (s : Cells T X) → asked cells.is_spent false other s ≡ spent → Rests task s
      → Rests task (choose spent
      (record { slab = record s.slab { slots = slice_set s.slab.slots other.key None; vacant_key = other.key } })
      s)
  tidied_by true task other s is rests =
      let new : Slab (Cell T X) = record s.slab { slots = slice_set s.slab.slots other.key None; vacant_key = other.key } in
      gone_at (task.key == other.key) task other s.slab new refl
      (without_cell s.slab new other.key (get s.slab other.key) other refl is refl) rests
  tidied_by false task other s is rests = rests

  pub others_tidied : (task other : Task) (s : Cells T X) → Rests task s → Rests task (tidied other s)
  others_tidied task other s rests = tidied_by (asked cells.is_spent false other s) task other s refl rests
