-- While a task is queued the flag stands: of what each change of an executor of one owner is made of.
use Rattle.std.proofs.Common.{◌≡◌, ℕ, ◌<◌, ◌≤◌, ◌==◌, ◌||◌, nat_lt, Bool, true, false, length, Option, Some, None}
use Rattle.std.proofs.Common.{refl, sym, subst, ◌∙◌, arith}
use Rattle.std.proofs.lemmas.Bool.Decides.{nat_tests}
use Rattle.executor_parts.specs.Sleepers.{flag_of, without_last, last_waker}
use Rattle.executor_parts.specs.declared.places.EntryPlace.{EntryPlace}
use Rattle.task_moves.specs.declared.local_task.answers.Start.{Start}
use Rattle.task_moves.specs.declared.local_task.answers.Start.TheVariants.{Poll, Drop}
use Rattle.solo.specs.declared.names.Task.{Task}
use Rattle.solo.specs.declared.names.SoloWaker.{SoloWaker}
use Rattle.solo.specs.declared.names.SoloWaker.TheVariants.{Task as OfTask, Outside}
use Rattle.solo.specs.declared.solo.Solo.{Solo}
use Rattle.solo.specs.Lines.{LinesValue, searched}
use Rattle.solo.specs.Cells.{choose, asked}
use Rattle.solo.specs.Cells as cells
use Rattle.solo.specs.Turns.{mark_of, lined, takes, turned, lined_if, marked, handed_by, is_full, handed, told, scheduled}
use Rattle.solo.specs.Turns.{scheduled_if, let_go, let_go_if, left_by_parts, without, left, out_of, begun}
use Rattle.solo.specs.Solo.{popped}
use Rattle.solo_laws.specs.Sleeping.{queued_in}
use Rattle.solo_laws.proofs.Lines.{refused_queues, searched_fewer}
use Rattle.solo_laws.proofs.Sleepers.{Fits, last_fits, last_flag}

full_flag : (n count : ℕ) → n ≤ count → (n == count) ≡ false → ((count == 0) || nat_lt n count) ≡ true
full_flag n count within is = grind (arith, nat_tests)

module _ {F T X : Type 0} where
  -- the flag says what the sleepers say
  abbrev pub Sound : Solo F T X → Type 0
  Sound s = Fits s.sleepers × (s.notified ≡ flag_of s.sleepers)

  -- and it stands
  abbrev pub Awake : Solo F T X → Type 0
  Awake s = Sound s × (s.notified ≡ true)

  -- and it stands where a task is queued
  abbrev pub Prompt : Solo F T X → Type 0
  Prompt s = Sound s × (0 < queued_in s.lines → s.notified ≡ true)

  pub awake_prompt : (s : Solo F T X) → Awake s → Prompt s
  awake_prompt s a = (a.0, λ _. a.1)

  pub chosen : (P : Solo F T X → Type 0) (b : Bool) (s t : Solo F T X) → P s → P t → P (choose b s t)
  chosen P true s t p q = p
  chosen P false s t p q = q

  lined_awake : (due : Bool) (task : Task) (s : Solo F T X) → Awake s → Awake (lined_if due task s)
  lined_awake due task s a = chosen Awake due (lined task s) s a a

  handed_by_awake : (w : Option (SoloWaker X)) (s : Solo F T X) → Awake s → Awake (handed_by w s)
  handed_by_awake (Some (OfTask task)) s a =
      let first = lined_awake (asked cells.wake_queues false task s.cells) task (turned cells.woken task s) a in
      lined_awake (asked cells.release_queues false task (marked task s).cells) task (turned cells.released task (marked task s)) first
  handed_by_awake (Some (Outside waker)) s a = a
  handed_by_awake None s a = a

  handed_awake_by : (full : Bool) (s : Solo F T X) → Fits s.sleepers → s.notified ≡ true → is_full s ≡ full
      → Awake (choose full (handed_by (last_waker s.sleepers.wakers) (record s { sleepers = without_last s.sleepers })) s)
  handed_awake_by true s fits on is =
      handed_by_awake (last_waker s.sleepers.wakers) (record s { sleepers = without_last s.sleepers })
      ((last_fits s.sleepers fits, on ∙ sym (last_flag s.sleepers fits)), on)
  handed_awake_by false s fits on is = ((fits, on ∙ sym (full_flag (length s.sleepers.wakers) s.sleepers.count fits is)), on)

  told_by : (b : Bool) (s : Solo F T X) → s.notified ≡ b → Sound s → Awake (choose b s (handed (record s { notified = true })))
  told_by true s is sound = (sound, is)
  told_by false s is sound =
      handed_awake_by (is_full (record s { notified = true })) (record s { notified = true }) sound.0 refl refl

  -- who tells a sleeper leaves the flag standing
  pub told_awake : (s : Solo F T X) → Sound s → Awake (told s)
  told_awake s sound = told_by s.notified s refl sound

  scheduled_by : (b : Bool) (task : Task) (s : Solo F T X) → takes task s ≡ b → Prompt s
      → Prompt (choose b (told (lined task s)) (lined task s))
  scheduled_by true task s is p = awake_prompt (told (lined task s)) (told_awake (lined task s) p.0)
  scheduled_by false task s is p =
      let same = refused_queues (mark_of task s) task s.lines is in
      (p.0, λ some. p.1 (subst (λ (n : ℕ). 0 < n) same some))

  pub scheduled_prompt : (task : Task) (s : Solo F T X) → Prompt s → Prompt (scheduled task s)
  scheduled_prompt task s p = scheduled_by (takes task s) task s refl p

  pub scheduled_if_prompt : (due : Bool) (task : Task) (s : Solo F T X) → Prompt s → Prompt (scheduled_if due task s)
  scheduled_if_prompt due task s p = chosen Prompt due (scheduled task s) s (scheduled_prompt task s p) p

  pub let_go_prompt : (task : Task) (s : Solo F T X) → Prompt s → Prompt (let_go task s)
  let_go_prompt task s p =
      scheduled_if_prompt (asked cells.release_queues false task s.cells) task (turned cells.released task s) p

  pub let_go_if_prompt : (task : Option Task) (s : Solo F T X) → Prompt s → Prompt (let_go_if task s)
  let_go_if_prompt (Some task) s p = let_go_prompt task s p
  let_go_if_prompt None s p = p

  left_by_prompt : (parts : Option (Option F × Option Task)) (s : Solo F T X) → Prompt s → Prompt (left_by_parts parts s)
  left_by_prompt None s p = p
  left_by_prompt (Some parts) s p = let_go_if_prompt parts.1 s p

  pub left_prompt : (place : EntryPlace) (s : Solo F T X) → Prompt s → Prompt (left place s)
  left_prompt place s p = left_by_prompt _ (without place s) p

  out_of_keeps : (P : Solo F T X → Type 0) (start : Option (Start EntryPlace)) (s : Solo F T X)
      → ((t : Solo F T X) → P s → P (record s { table = t.table })) → P s → P (out_of start s)
  out_of_keeps P (Some (Poll place)) s keeps p = keeps (out_of (Some (Poll place)) s) p
  out_of_keeps P (Some (Drop place)) s keeps p = keeps (out_of (Some (Drop place)) s) p
  out_of_keeps P None s keeps p = p

  pub begun_prompt : (task : Task) (s : Solo F T X) → Prompt s → Prompt (begun task s)
  begun_prompt task s p = out_of_keeps Prompt (asked cells.start_answer None task s.cells) (turned cells.started task s) (λ t q. q) p

  -- where no more are queued than were
  pub fewer_prompt : (l : LinesValue) (s : Solo F T X) → queued_in l ≤ queued_in s.lines → Prompt s → Prompt (record s { lines = l })
  fewer_prompt l s fewer p = (p.0, λ some. p.1 (omega (arith, fewer, some)))

  pub popped_prompt : (s : Solo F T X) → Prompt s → Prompt (popped s)
  popped_prompt s p = fewer_prompt (searched s.lines) s (searched_fewer s.lines) p
