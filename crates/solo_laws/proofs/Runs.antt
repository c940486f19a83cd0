-- The same of what runs do.
use Rattle.std.proofs.Common.{◌≡◌, ℕ, zero, suc, ◌%◌, ◌<◌, ◌≤◌, Bool, true, length, Option, Some, None, refl}
use Rattle.executor_parts.specs.declared.mark.Mark.{Mark}
use Rattle.executor_parts.specs.declared.mark.Mark.TheVariants.{Plain, Urgent}
use Rattle.executor_parts.specs.Sleepers.{Sleepers, flag_of}
use Rattle.solo.specs.declared.names.Task.{Task}
use Rattle.solo.specs.declared.names.SoloWaker.{SoloWaker}
use Rattle.solo.specs.declared.runs.Runner.{Runner}
use Rattle.solo.specs.declared.runs.Leaving.{Leaving}
use Rattle.solo.specs.declared.ticks.Ticker.{Ticker}
use Rattle.solo.specs.declared.steals.Source.TheVariants.{Common, Own}
use Rattle.solo.specs.declared.solo.Solo.{Solo}
use Rattle.solo.specs.Lines.{LinesValue, popped_from, search_answer}
use Rattle.solo.specs.OwnQueues as own
use Rattle.solo.specs.Solo.{popped}
use Rattle.solo.specs.Steals.{moved, moved_on, first_of, without_first, kept, stolen}
use Rattle.solo.specs.Steals.{share, length_of, stolen_if, is_own, stolen_at, looked}
use Rattle.solo.specs.Steals.{look_answer, round_on, round, next_place, walked, further_by, sought_by}
use Rattle.solo.specs.Steals.{sought, seek_answer, seek_answer_by, further_answer_by, own_popped}
use Rattle.solo.specs.Runs.{told, found, took_by, took, searched_by, searched, is_steal_due, drained_by, drained, first_left}
use Rattle.solo_laws.specs.Sleeping.{queued_in}
use Rattle.solo_laws.proofs.Lines.{popped_fewer, searched_empty}
use Rattle.solo_laws.proofs.Prompt.{Sound, Prompt, awake_prompt, chosen, begun_prompt, popped_prompt, fewer_prompt, scheduled_prompt}
use Rattle.solo_laws.proofs.Ticks.{woke_awake, asleep_prompt, left_prompt}

module _ {X : Type 0} where
  -- what `Prompt` says of queue, sleepers and flag
  abbrev PromptBy : LinesValue → Sleepers (SoloWaker X) → Bool → Type 0
  PromptBy lines sleepers notified =
      ((length sleepers.wakers ≤ sleepers.count) × (notified ≡ flag_of sleepers)) × (0 < queued_in lines → notified ≡ true)

module _ {F T X : Type 0} where
  -- what a statement of queue, sleepers and flag says of an executor
  abbrev Of : (LinesValue → Sleepers (SoloWaker X) → Bool → Type 0) → Solo F T X → Type 0
  Of P s = P s.lines s.sleepers s.notified

  pub moved_on_keeps : (P : Solo F T X → Type 0) (first : Option Task) (s : Solo F T X) (more : Task → Solo F T X)
      → P s → ((task : Task) → P (more task)) → P (moved_on first s more)
  moved_on_keeps P None s more p q = p
  moved_on_keeps P (Some task) s more p q = q task

  -- what moves between own queues leaves the rest
  own_moved : (P : LinesValue → Sleepers (SoloWaker X) → Bool → Type 0) (n from number : ℕ) (s : Solo F T X)
      → Of P s → Of P (moved n (Own from) number s)
  own_moved P zero from number s p = p
  own_moved P (suc n) from number s p =
      moved_on_keeps (Of P) (first_of (Own from) s) (without_first (Own from) s)
      (λ task. moved n (Own from) number (kept number task (without_first (Own from) s)))
      p (λ task. own_moved P n from number (kept number task (without_first (Own from) s)) p)

  first_gone : (mark : Mark) (s : Solo F T X) → Prompt s → Prompt (without_first (Common mark) s)
  first_gone mark s p = fewer_prompt (popped_from mark s.lines) s (popped_fewer mark s.lines) p

  common_moved : (mark : Mark) (n number : ℕ) (s : Solo F T X) → Prompt s → Prompt (moved n (Common mark) number s)
  common_moved mark zero number s p = p
  common_moved mark (suc n) number s p =
      moved_on_keeps Prompt (first_of (Common mark) s) (without_first (Common mark) s)
      (λ task. moved n (Common mark) number (kept number task (without_first (Common mark) s)))
      (first_gone mark s p)
      (λ task. common_moved mark n number (kept number task (without_first (Common mark) s)) (first_gone mark s p))

  stolen_prompt : (mark : Mark) (number : ℕ) (s : Solo F T X) → Prompt s → Prompt (stolen (Common mark) number s)
  stolen_prompt mark number s p = common_moved mark (share (length_of (Common mark) s) (own.free_of number s.runs)) number s p

  looked_keeps : (P : LinesValue → Sleepers (SoloWaker X) → Bool → Type 0) (number at : ℕ) (s : Solo F T X)
      → Of P s → Of P (looked number at s)
  looked_keeps P number at s p =
      let from : ℕ = own.number_at at s.runs.queues in
      chosen (Of P) (is_own number at s) s (own_popped number (stolen_at number at s)) p
      (own_moved P (share (length_of (Own from) s) (own.free_of number s.runs)) from number s p)

  pub round_on_keeps : (P : Solo F T X → Type 0) (first : Option Task) (s : Solo F T X) (rest : Option Task × Solo F T X)
      → P s → P rest.1 → P (round_on first s rest).1
  round_on_keeps P (Some task) s rest p q = p
  round_on_keeps P None s rest p q = q

  round_keeps : (P : LinesValue → Sleepers (SoloWaker X) → Bool → Type 0) (count number n at : ℕ) (s : Solo F T X)
      → Of P s → Of P (round count number n at s).1
  round_keeps P count number zero at s p = p
  round_keeps P count number (suc n) at s p =
      round_on_keeps (Of P) (look_answer number at s) (looked number at s) (round count number n (next_place at count) (looked number at s))
      (looked_keeps P number at s p)
      (round_keeps P count number n (next_place at count) (looked number at s) (looked_keeps P number at s p))

  walked_keeps : (P : LinesValue → Sleepers (SoloWaker X) → Bool → Type 0) (number start : ℕ) (s : Solo F T X)
      → Of P s → Of P (walked number start s)
  walked_keeps P number start s p = round_keeps P s.runs.listed number s.runs.listed (start % s.runs.listed) s p

  further_prompt : (first : Option Task) (mark : Mark) (number start : ℕ) (s : Solo F T X) → Prompt s
      → Prompt (further_by first mark number start s)
  further_prompt (Some task) mark number start s p = stolen_prompt mark number s p
  further_prompt None mark number start s p = walked_keeps PromptBy number start s p

  sought_by_prompt : (first : Option Task) (number start : ℕ) (s : Solo F T X) → Prompt s → Prompt (sought_by first number start s)
  sought_by_prompt (Some task) number start s p = p
  sought_by_prompt None number start s p =
      further_prompt (search_answer s.lines).task (search_answer s.lines).mark number start (popped s) (popped_prompt s p)

  pub sought_prompt : (number start : ℕ) (s : Solo F T X) → Prompt s → Prompt (sought number start s)
  sought_prompt number start s p = sought_by_prompt (own.first_of number s.runs) number start (own_popped number s) p

  further_empty : (first : Option Task) (mark : Mark) (number start : ℕ) (s : Solo F T X) → (search_answer s.lines).task ≡ first
      → (further_answer_by first number start (popped s)).task ≡ None
      → queued_in (further_by first mark number start (popped s)).lines ≡ 0
  further_empty (Some task) mark number start s is none = absurd cc
  further_empty None mark number start s is none =
      walked_keeps (λ lines sleepers notified. queued_in lines ≡ 0) number start (popped s) (searched_empty s.lines is)

  sought_by_empty : (first : Option Task) (number start : ℕ) (s : Solo F T X) → (seek_answer_by first number start s).task ≡ None
      → queued_in (sought_by first number start s).lines ≡ 0
  sought_by_empty (Some task) number start s none = absurd cc
  sought_by_empty None number start s none =
      further_empty (search_answer s.lines).task (search_answer s.lines).mark number start s refl none

  -- where it finds nothing no task is queued
  sought_empty : (number start : ℕ) (s : Solo F T X) → (seek_answer number start s).task ≡ None
      → queued_in (sought number start s).lines ≡ 0
  sought_empty number start s none = sought_by_empty (own.first_of number s.runs) number start (own_popped number s) none

  found_prompt : (runner : Runner) (ticker : Ticker) (task : Task) (s : Solo F T X) → Sound s → Prompt (found runner ticker task s)
  found_prompt runner ticker task s sound =
      let after : Solo F T X = told ticker s in
      let p : Prompt after = awake_prompt after (woke_awake ticker s sound) in
      begun_prompt task (stolen_if (is_steal_due runner) runner.number after)
      (chosen Prompt (is_steal_due runner) (stolen (Common Plain) runner.number (stolen (Common Urgent) runner.number after)) after
      (stolen_prompt Plain runner.number (stolen (Common Urgent) runner.number after) (stolen_prompt Urgent runner.number after p)) p)

  took_by_prompt : (first : Option Task) (runner : Runner) (ticker : Ticker) (waker : SoloWaker X) (start : ℕ) (s : Solo F T X)
      → (seek_answer runner.number start s).task ≡ first → Prompt s
      → Prompt (took_by first runner ticker waker (sought runner.number start s))
  took_by_prompt (Some task) runner ticker waker start s is p =
      found_prompt runner ticker task (sought runner.number start s) (sought_prompt runner.number start s p).0
  took_by_prompt None runner ticker waker start s is p =
      asleep_prompt ticker waker (sought runner.number start s) (sought_empty runner.number start s is)
      (sought_prompt runner.number start s p).0

  pub took_prompt : (runner : Runner) (ticker : Ticker) (waker : SoloWaker X) (start : ℕ) (s : Solo F T X) → Prompt s
      → Prompt (took runner ticker waker start s)
  took_prompt runner ticker waker start s p =
      took_by_prompt (seek_answer runner.number start s).task runner ticker waker start s refl p

  searched_by_prompt : (first : Option Task) (runner : Runner) (ticker : Ticker) (s : Solo F T X) → Prompt s
      → Prompt (searched_by first runner ticker s)
  searched_by_prompt (Some task) runner ticker s p = found_prompt runner ticker task s p.0
  searched_by_prompt None runner ticker s p = p

  pub searched_prompt : (runner : Runner) (ticker : Ticker) (start : ℕ) (s : Solo F T X) → Prompt s →
      Prompt (searched runner ticker start s)
  searched_prompt runner ticker start s p =
      searched_by_prompt (seek_answer runner.number start s).task runner ticker (sought runner.number start s)
      (sought_prompt runner.number start s p)

  drained_by_prompt : (first : Option Task) (ticker : Ticker) (s : Solo F T X) → Prompt s → Prompt (drained_by first ticker s)
  drained_by_prompt (Some task) ticker s p = scheduled_prompt task s p
  drained_by_prompt None ticker s p = left_prompt ticker s p

  pub drained_prompt : (leaving : Leaving) (s : Solo F T X) → Prompt s → Prompt (drained leaving s)
  drained_prompt leaving s p = drained_by_prompt (first_left leaving.own) leaving.ticker s p
