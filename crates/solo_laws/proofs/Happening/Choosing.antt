-- What there is to choose in a call, and that a call of a task, a spawn or a try happens so.
use Rattle.std.proofs.Common.{◌≡◌, ◌≢◌, ℕ, zero, suc, ◌*◌, ◌<◌, ◌≤◌, nat_lt, Bool, true, false, List, [], ◌∷◌, ◌++◌}
use Rattle.std.proofs.Common.{length, Option, Some, None, Ok, slice_index_or, refl, sym, ap, subst, ◌∙◌, arith}
use Rattle.std.proofs.lemmas.Bool.Decides.{nat_tests}
use Rattle.queue_steps.specs.ClosableQueue.{most_accepted}
use Rattle.executor_parts.specs.declared.mark.Mark.{Mark}
use Rattle.solo.specs.declared.names.Task.{Task}
use Rattle.solo.specs.declared.names.SoloWaker.{SoloWaker}
use Rattle.solo.specs.declared.names.SoloWaker.TheVariants.{Task as OfTask, Outside}
use Rattle.solo.specs.declared.cells.Cell.{Cell}
use Rattle.solo.specs.declared.cells.Cells.{Cells}
use Rattle.solo.specs.declared.owed.Lent.{Lent}
use Rattle.solo.specs.declared.owed.Spawned.{Spawned}
use Rattle.solo.specs.declared.owed.SpawnError.TheVariants.{Full, NoMemory}
use Rattle.solo.specs.declared.solo.Solo.{Solo}
use Rattle.solo.specs.Cells as cells
use Rattle.solo.specs.Lines.{LinesValue, mark_of_turn}
use Rattle.solo.specs.OwnQueues as own
use Rattle.solo.specs.Table.{Accepts, TableValue, counted_waker, new_entry}
use Rattle.solo.specs.Solo as solo
use Rattle.solo.specs.Turns as turns
use Rattle.plain_scheduler.specs.State.{AtOnce, Choice, Event, Granted, Later, Plain, Refusal}
use Rattle.plain_scheduler.specs.Moves.{task}
use Rattle.plain_scheduler.specs.Calls as plain
use Rattle.plain_scheduler.specs.Calls.{Call, is_granted}
use Rattle.solo_laws.specs.Courses.{Makes, cancels, copies, detaches, drops_handle, leaks, looks, makes, polls, refuses, releases, spawns}
use Rattle.solo_laws.specs.Courses.{takes, uses, wakes}
use Rattle.solo_laws.specs.Making.{Enters, Happens, HasNoRoom, IsKnown, NextIsFree, Wish, copy_refusal, made_as}
use Rattle.solo_laws.specs.Owner.{Owner}
use Rattle.solo_laws.specs.Road.{HasLife, IsNamed}
use Rattle.solo_laws.specs.Tabled.{Stands, named}
use Rattle.solo_laws.proofs.Frames.{scheduled_of}

-- fewer more tasks may come too
pub fewer : (few many : ℕ) (l : LinesValue) → few ≤ many → HasLife many l → HasLife few l
fewer few many l less life = λ m. (let it = life m in omega (arith, less, it))

-- a value at a key that has none
abbrev put_at : {A : Type 0} → List (Option A) → ℕ → A → List (Option A)
put_at [] zero a = Some a ∷ []
put_at [] (suc k) a = None ∷ put_at [] k a
put_at (x ∷ xs) zero a = Some a ∷ xs
put_at (x ∷ xs) (suc k) a = x ∷ put_at xs k a

module _ {A : Type 0} where
  put_changed : (xs : List (Option A)) (k : ℕ) (a : A) → slice_index_or (put_at xs k a) k None ≡ Some a
  put_changed [] zero a = refl
  put_changed [] (suc k) a = put_changed [] k a
  put_changed (x ∷ xs) zero a = refl
  put_changed (x ∷ xs) (suc k) a = put_changed xs k a

  put_others : (xs : List (Option A)) (k j : ℕ) (a : A) → j ≢ k
      → slice_index_or (put_at xs k a) j None ≡ slice_index_or xs j None
  put_others [] zero zero a apart = absurd (apart refl)
  put_others [] zero (suc j) a apart = refl
  put_others [] (suc k) zero a apart = refl
  put_others [] (suc k) (suc j) a apart = put_others [] k j a (λ same. apart (ap suc same))
  put_others (x ∷ xs) zero zero a apart = absurd (apart refl)
  put_others (x ∷ xs) zero (suc j) a apart = refl
  put_others (x ∷ xs) (suc k) zero a apart = refl
  put_others (x ∷ xs) (suc k) (suc j) a apart = put_others xs k j a (λ same. apart (ap suc same))

module _ {F T X : Type 0} (its : ℕ → Lent) (future : F) (owner : Owner) (s : Solo F T X) (p : Plain T (SoloWaker X))
    (both : Stands its s p) (refusal : Refusal) (first second name : ℕ) where
  abbrev pub wish : Call T (SoloWaker X) → Wish T (SoloWaker X)
  wish call = record { call = call; refusal = refusal; first = first; second = second; name = name }

  -- whoever lay down last is told, and the turn names the mark
  abbrev pub choosing : Refusal → Choice
  choosing given =
      record { first = mark_of_turn s.lines.turn; keeps = []; robs = 0; moves = 0; tells = suc (length p.lying); refusal = given }

  pub one_more : (n : ℕ) → n < suc n
  one_more n = omega arith

  -- so it is made
  pub is_made : (given : Refusal) (call : Call T (SoloWaker X)) (shown : List (Event T (SoloWaker X))) (z : Solo F T X)
      (how : Makes its (choosing given) s p call shown z) → given ≡ made_as its owner (choosing given) s p call shown z refusal how
      → Enters its (choosing given) s p call shown z how → Happens its owner s p (wish call)
  is_made given call shown z how heeds enters = record {
    choice = choosing given;
    shown = shown;
    now = owner;
    after = z;
    acts = makes call shown z how;
    tells = one_more (length p.lying);
    refused = heeds;
    starts = tt;
    named_so = tt;
    room = enters;
  }

  abbrev next : Lent
  next = its (length p.futures)

  -- the next future's task is put where its name says
  module _ (mark : Mark) (free : NextIsFree its owner s p) (below : length s.table.entries < s.table.limit) where
    abbrev held : Bool
    held = solo.counts s.kind

    abbrev table : TableValue F
    table =
        record s.table {
          entries = s.table.entries ++ new_entry next.place future (counted_waker held next.task) ∷ [];
          has_room = false;
        }

    abbrev cell : Cell T X
    cell = record { number = s.accepted; task = cells.new_task next.place held mark }

    abbrev cells_now : Cells T X
    cells_now = record s.cells { slab = record s.cells.slab { slots = put_at s.cells.slab.slots next.task.key cell } }

    abbrev entered : Solo F T X
    entered = record s { table = table; cells = cells_now; accepted = own.one_more s.accepted }

    abbrev accepts : Accepts s.accepted held mark future s.table s.cells next.task table cells_now
    accepts = record {
      below = below;
      place = next.place;
      fresh = free.place;
      entered = refl;
      numbered = free.number ∙ sym both.1.accepted;
      was_free = free.key;
      cell = record {
        changed = put_changed s.cells.slab.slots next.task.key cell;
        others = λ other apart. put_others s.cells.slab.slots next.task.key other cell apart;
      };
    }

    abbrev spawned : Spawned X
    spawned = record { task = next.task; told = turns.schedule_answer next.task entered }

    abbrev spawned_so : solo.Spawns mark future s (Ok spawned) (turns.scheduled next.task entered)
    spawned_so = (entered, (accepts, refl), refl, refl)

  below_limit : (a b : ℕ) → nat_lt a b ≡ true → a < b
  below_limit a b is = grind (arith, nat_tests)

  at_limit : (a b : ℕ) → nat_lt a b ≡ false → b ≤ a
  at_limit a b is = grind (arith, nat_tests)

  pub spawn_happens : (mark : Mark) → NextIsFree its owner s p → length p.futures < most_accepted
      → (is_granted refusal ≡ false → HasNoRoom its owner s p) → HasLife 3 s.lines → Happens its owner s p (wish (plain.Spawn mark))
  spawn_happens mark free few full life = by (nat_lt (length s.table.entries) s.table.limit) refl refusal refl
    where
      no_memory : nat_lt (length s.table.entries) s.table.limit ≡ true → is_granted refusal ≡ false
          → Happens its owner s p (wish (plain.Spawn mark))
      no_memory is refused =
          is_made refusal (plain.Spawn mark) _ s
          (refuses mark future (NoMemory future) s (
            (refl, below_limit (length s.table.entries) s.table.limit is, full refused, record { table = refl; slots = refl; key = refl }),
            refl,
          ) (λ memory. refused)) refl tt

      by : (b : Bool) → nat_lt (length s.table.entries) s.table.limit ≡ b → (r : Refusal) → refusal ≡ r
          → Happens its owner s p (wish (plain.Spawn mark))
      by false is r same =
          is_made refusal (plain.Spawn mark) _ s
          (refuses mark future (Full future) s
          ((refl, at_limit (length s.table.entries) s.table.limit is, record { table = refl; slots = refl; key = refl }), refl)
          (λ memory. absurd cc)) refl tt
      by true is Granted same =
          let under = below_limit (length s.table.entries) s.table.limit is in
          is_made refusal (plain.Spawn mark) _ (turns.scheduled next.task (entered mark free under))
          (spawns mark future (spawned mark free under) (turns.scheduled next.task (entered mark free under)) (spawned_so mark free under)
          refl same life few) refl
          (scheduled_of (λ accepted (table : TableValue F) (going : TableValue F). table.has_room ≡ false) next.task
          (entered mark free under)
          refl)
      by true is AtOnce same = no_memory is (ap (λ r. is_granted r) same)
      by true is Later same = no_memory is (ap (λ r. is_granted r) same)

  pub copy_happens : (f : ℕ) → f < length p.futures → Happens its owner s p (wish (plain.Copy f))
  copy_happens f at =
      is_made (copy_refusal (solo.may_hold (named its f) s)) (plain.Copy f) _ (solo.held (named its f) s) (copies f at refl) refl tt

  poll_granted : (b : Bool) → is_granted (copy_refusal b) ≡ b
  poll_granted true = refl
  poll_granted false = refl

  pub poll_happens : (f : ℕ) (w : SoloWaker X) → f < length p.futures → (task f p).handle ≡ true → IsKnown its owner s p w
      → HasLife 3 s.lines → Happens its owner s p (wish (plain.PollHandle f w))
  poll_happens f (Outside w) at handle known life =
      is_made refusal (plain.PollHandle f (Outside w)) _ _ (polls f (Outside w) at handle (λ t is. absurd cc)
      (fewer 2 3 s.lines (omega arith) life)) refl tt
  poll_happens f (OfTask u) at handle known life =
      is_made (copy_refusal (solo.may_hold u s)) (plain.PollHandle f (OfTask u)) _ _
      (polls f (OfTask u) at handle
      (λ t is. subst (λ t. IsNamed (named its) (length p.futures) t
      × (is_granted (copy_refusal (solo.may_hold u s)) ≡ solo.may_hold t s)) (ap task_in is) (known, poll_granted (solo.may_hold u s)))
      (fewer 2 3 s.lines (omega arith) life)) refl tt
    where
      task_in : SoloWaker X → Task
      task_in (OfTask t) = t
      task_in (Outside w) = u

  pub wake_happens : (f : ℕ) → f < length p.futures → HasLife 3 s.lines → Happens its owner s p (wish (plain.Wake f))
  wake_happens f at life = is_made refusal (plain.Wake f) _ _ (wakes f at (fewer 2 3 s.lines (omega arith) life)) refl tt

  pub use_happens : (f : ℕ) → f < length p.futures → HasLife 3 s.lines → Happens its owner s p (wish (plain.Use f))
  use_happens f at life = is_made refusal (plain.Use f) _ _ (uses f at (fewer 2 3 s.lines (omega arith) life)) refl tt

  pub release_happens : (f : ℕ) → f < length p.futures → HasLife 3 s.lines → Happens its owner s p (wish (plain.Release f))
  release_happens f at life = is_made refusal (plain.Release f) _ _ (releases f at (fewer 2 3 s.lines (omega arith) life)) refl tt

  pub cancel_happens : (f : ℕ) → f < length p.futures → HasLife 6 s.lines → Happens its owner s p (wish (plain.Cancel f))
  cancel_happens f at life = is_made refusal (plain.Cancel f) _ _ (cancels f at (fewer 5 6 s.lines (omega arith) life)) refl tt

  pub detach_happens : (f : ℕ) → f < length p.futures → HasLife 3 s.lines → Happens its owner s p (wish (plain.Detach f))
  detach_happens f at life = is_made refusal (plain.Detach f) _ _ (detaches f at (fewer 2 3 s.lines (omega arith) life)) refl tt

  pub drop_happens : (f : ℕ) → f < length p.futures → HasLife 9 s.lines → Happens its owner s p (wish (plain.DropHandle f))
  drop_happens f at life = is_made refusal (plain.DropHandle f) _ _ (drops_handle f at (fewer 8 9 s.lines (omega arith) life)) refl tt

  pub try_happens : HasLife 3 s.lines → Happens its owner s p (wish plain.TryTick)
  try_happens life = is_made refusal plain.TryTick _ _ (takes refl (fewer 1 3 s.lines (omega arith) life)) refl tt

  pub look_happens : Happens its owner s p (wish plain.IsEmpty)
  look_happens = is_made refusal plain.IsEmpty _ s looks refl tt

  pub leak_happens : p.is_static ≡ false → HasLife (6 * length s.table.entries) s.lines → Happens its owner s p (wish plain.Leak)
  leak_happens static life = is_made refusal plain.Leak _ _ (leaks static life) refl tt
