-- The same of what ticks do.
use Rattle.std.proofs.Common.{◌≡◌, ℕ, ◌+◌, ◌-◌, ◌≤◌, ◌==◌, ◌&&◌, ◌||◌, nat_lt, Bool, true, false, [], ◌∷◌, length, Option, Some, None}
use Rattle.std.proofs.Common.{refl, sym, subst, ◌∙◌, arith, length-append}
use Rattle.std.proofs.lemmas.Bool.Decides.{nat_tests}
use Rattle.std.proofs.lemmas.List.{length-set}
use Rattle.executor_parts.specs.Sleepers.{Sleepers, flag_of, woken_up, waker_of, position_of, put_to_sleep, next_number, listed}
use Rattle.solo.specs.declared.names.Task.{Task}
use Rattle.solo.specs.declared.names.SoloWaker.{SoloWaker}
use Rattle.solo.specs.declared.names.SoloWaker.TheVariants.{Task as OfTask, Outside}
use Rattle.solo.specs.declared.owed.Told.{Told}
use Rattle.solo.specs.declared.ticks.Ticker.{Ticker}
use Rattle.solo.specs.declared.ticks.Ticker.TheVariants.{Awake as AwakeTicker, Asleep}
use Rattle.solo.specs.declared.solo.Solo.{Solo}
use Rattle.solo.specs.Cells.{choose, asked}
use Rattle.solo.specs.Cells as cells
use Rattle.solo.specs.Lines.{is_empty}
use Rattle.solo.specs.Turns.{lined, takes, turned, swept, told, told_waker, scheduled_if}
use Rattle.solo.specs.Turns.{schedule_if_answer}
use Rattle.solo.specs.Solo.{popped, sought}
use Rattle.solo.specs.Ticks.{stored, told_unless, waker_dropped, drop_waker_answer, kept_by, up, woke_up}
use Rattle.solo.specs.Ticks.{wake_up_answer, found, lain_anew, is_short, replaced, lain_again, fallen_asleep, taken_by, taken}
use Rattle.solo.specs.Ticks.{searched_by, searched, slept, gone, left_by, left}
use Rattle.solo_laws.specs.Sleeping.{queued_in}
use Rattle.solo_laws.proofs.Lines.{searched_empty}
use Rattle.solo_laws.proofs.Sleepers.{Fits, woken_fits, woken_flag}
use Rattle.solo_laws.proofs.Prompt.{Sound, Awake, Prompt, awake_prompt, told_awake, let_go_prompt, begun_prompt, popped_prompt}

short_fits : (n count : ℕ) → nat_lt n count ≡ true → n + 1 ≤ count
short_fits n count is = grind (arith, nat_tests)

none_by : (urgent plain : ℕ) → (urgent == 0) ≡ true → (plain == 0) ≡ true → urgent + plain ≡ 0
none_by urgent plain one other = grind (arith, nat_tests)

both_true : (a b : Bool) → (a && b) ≡ true → (a ≡ true) × (b ≡ true)
both_true true true is = (refl, refl)
both_true true false is = absurd cc
both_true false b is = absurd cc

none_queued : (urgent plain : ℕ) → ((urgent == 0) && (plain == 0)) ≡ true → urgent + plain ≡ 0
none_queued urgent plain is =
    let both = both_true (urgent == 0) (plain == 0) is in none_by urgent plain both.0 both.1

module _ {X : Type 0} where
  back_fits : (b : Bool) (s : Sleepers (SoloWaker X)) → Fits s → Fits (choose b (record s { rooms = s.rooms - 1 }) s)
  back_fits true s fits = fits
  back_fits false s fits = fits

  back_flag : (b : Bool) (s : Sleepers (SoloWaker X)) → flag_of s ≡ flag_of (choose b (record s { rooms = s.rooms - 1 }) s)
  back_flag true s = refl
  back_flag false s = refl

module _ {F T X : Type 0} where
  pub told_unless_awake : (w : Option X) (s : Solo F T X) → Awake s → Awake (told_unless w s)
  told_unless_awake (Some w) s a = a
  told_unless_awake None s a = told_awake s a.0

  -- a task's queueing leaves the flag standing, or tells nobody, and then who comes next does
  scheduled_unless_by : (b : Bool) (task task' : Task) (s : Solo F T X) → Sound s
      → Awake (told_unless
      (choose {B = Told X} b (record { sleeper = told_waker (lined task s); returned = None })
      (record { sleeper = None; returned = Some task })).sleeper
      (swept task' (choose b (told (lined task s)) (lined task s))))
  scheduled_unless_by true task task' s sound =
      told_unless_awake (told_waker (lined task s)) (swept task' (told (lined task s))) (told_awake (lined task s) sound)
  scheduled_unless_by false task task' s sound =
      told_awake (swept task' (lined task s)) sound

  let_go_unless_by : (due : Bool) (task task' : Task) (s : Solo F T X) → Sound s
      → Awake (told_unless (schedule_if_answer due task s).sleeper (swept task' (scheduled_if due task s)))
  let_go_unless_by true task task' s sound = scheduled_unless_by (takes task s) task task' s sound
  let_go_unless_by false task task' s sound = told_awake (swept task' s) sound

  pub dropped_unless : (w : Option (SoloWaker X)) (s : Solo F T X) → Sound s
      → Awake (told_unless (drop_waker_answer w s).told.sleeper (waker_dropped w s))
  dropped_unless (Some (OfTask task)) s sound =
      let_go_unless_by (asked cells.release_queues false task s.cells) task task (turned cells.released task s) sound
  dropped_unless (Some (Outside waker)) s sound = told_awake s sound
  dropped_unless None s sound = told_awake s sound

  up_sound : (ticker : Ticker) (s : Solo F T X) → Sound s → Sound (up ticker s)
  up_sound (AwakeTicker _) s sound = sound
  up_sound (Asleep sleeper) s sound = (woken_fits sleeper.number s.sleepers sound.0, refl)

  -- who wakes up with a task leaves the flag standing
  pub woke_awake : (ticker : Ticker) (s : Solo F T X) → Sound s
      → Awake (told_unless (wake_up_answer ticker s).told.sleeper (woke_up ticker s))
  woke_awake ticker s sound = dropped_unless (kept_by ticker s) (up ticker s) (up_sound ticker s sound)

  pub found_prompt : (ticker : Ticker) (task : Task) (s : Solo F T X) → Sound s → Prompt (found ticker task s)
  found_prompt ticker task s sound =
      let told_of : Solo F T X = told_unless (wake_up_answer ticker s).told.sleeper (woke_up ticker s) in
      begun_prompt task told_of (awake_prompt told_of (woke_awake ticker s sound))

  pub waker_dropped_prompt : (w : Option (SoloWaker X)) (s : Solo F T X) → Prompt s → Prompt (waker_dropped w s)
  waker_dropped_prompt (Some (OfTask task)) s p = let_go_prompt task s p
  waker_dropped_prompt (Some (Outside waker)) s p = p
  waker_dropped_prompt None s p = p

  empty_prompt : (s : Solo F T X) → queued_in s.lines ≡ 0 → Sound s → Prompt s
  empty_prompt s none sound = (sound, λ some. absurd (omega (arith, none, some)))

  anew_prompt : (b : Bool) (waker : SoloWaker X) (s : Solo F T X) → queued_in s.lines ≡ 0 → Sound s → Prompt (lain_anew b waker s)
  anew_prompt true waker s none sound =
      let is = length-append s.sleepers.wakers ((next_number s.sleepers, waker) ∷ []) in
      empty_prompt (stored (put_to_sleep waker s.sleepers) s) none ((let f = sound.0 in omega (arith, is, f)), refl)
  anew_prompt false waker s none sound = empty_prompt s none sound

  short_prompt : (b : Bool) (number : ℕ) (waker : SoloWaker X) (s : Solo F T X) → is_short s ≡ b → queued_in s.lines ≡ 0 → Sound s
      → Prompt (choose b (stored (listed number waker s.sleepers) s) s)
  short_prompt true number waker s is none sound =
      let longer = length-append s.sleepers.wakers ((number, waker) ∷ []) in
      let fits = short_fits (length s.sleepers.wakers) s.sleepers.count is in
      empty_prompt (stored (listed number waker s.sleepers) s) none (omega (arith, longer, fits), refl)
  short_prompt false number waker s is none sound = empty_prompt s none sound

  again_prompt : (at : Option ℕ) (number : ℕ) (waker : SoloWaker X) (s : Solo F T X) → queued_in s.lines ≡ 0 → Sound s
      → Prompt (lain_again at number waker s)
  again_prompt (Some at) number waker s none sound =
      let same = length-set s.sleepers.wakers at (number, waker) in
      let flag : s.notified ≡ flag_of (replaced at number waker s).sleepers =
      subst (λ n. s.notified ≡ ((s.sleepers.count == 0) || nat_lt n s.sleepers.count)) (sym same) sound.1 in
      waker_dropped_prompt (waker_of number s.sleepers.wakers) (replaced at number waker s)
      (empty_prompt (replaced at number waker s) none ((let f = sound.0 in omega (arith, same, f)), flag))
  again_prompt None number waker s none sound = short_prompt (is_short s) number waker s refl none sound

  -- it falls asleep where no task is queued
  pub asleep_prompt : (ticker : Ticker) (waker : SoloWaker X) (s : Solo F T X) → queued_in s.lines ≡ 0 → Sound s
      → Prompt (fallen_asleep ticker waker s)
  asleep_prompt (AwakeTicker _) waker s none sound = anew_prompt (nat_lt s.sleepers.count s.sleepers.rooms) waker s none sound
  asleep_prompt (Asleep sleeper) waker s none sound =
      again_prompt (position_of sleeper.number s.sleepers.wakers) sleeper.number waker s none sound

  taken_by_prompt : (first : Option Task) (ticker : Ticker) (waker : SoloWaker X) (s : Solo F T X) → sought s ≡ first
      → Prompt s → Prompt (taken_by first ticker waker (popped s))
  taken_by_prompt (Some task) ticker waker s is p = found_prompt ticker task (popped s) p.0
  taken_by_prompt None ticker waker s is p = asleep_prompt ticker waker (popped s) (searched_empty s.lines is) p.0

  pub taken_prompt : (ticker : Ticker) (waker : SoloWaker X) (s : Solo F T X) → Prompt s → Prompt (taken ticker waker s)
  taken_prompt ticker waker s p = taken_by_prompt (sought s) ticker waker s refl p

  searched_by_prompt : (first : Option Task) (ticker : Ticker) (s : Solo F T X) → Prompt s → Prompt (searched_by first ticker s)
  searched_by_prompt (Some task) ticker s p = found_prompt ticker task s p.0
  searched_by_prompt None ticker s p = p

  pub searched_prompt : (ticker : Ticker) (s : Solo F T X) → Prompt s → Prompt (searched ticker s)
  searched_prompt ticker s p = searched_by_prompt (sought s) ticker (popped s) (popped_prompt s p)

  slept_by_prompt : (b : Bool) (ticker : Ticker) (waker : SoloWaker X) (s : Solo F T X) → is_empty s.lines ≡ b → Prompt s
      → Prompt (choose b (fallen_asleep ticker waker s) s)
  slept_by_prompt true ticker waker s is p =
      asleep_prompt ticker waker s (none_queued (length s.lines.urgent.items) (length s.lines.plain.items) is) p.0
  slept_by_prompt false ticker waker s is p = p

  pub slept_prompt : (ticker : Ticker) (waker : SoloWaker X) (s : Solo F T X) → Prompt s → Prompt (slept ticker waker s)
  slept_prompt ticker waker s p = slept_by_prompt (is_empty s.lines) ticker waker s refl p

  gone_sound : (number : ℕ) (s : Solo F T X) → Sound s → Sound (gone number s)
  gone_sound number s sound =
      let up : Sleepers (SoloWaker X) = woken_up number s.sleepers in
      (back_fits (nat_lt up.count up.rooms) up (woken_fits number s.sleepers sound.0), back_flag (nat_lt up.count up.rooms) up)

  left_by_prompt : (w : Option (SoloWaker X)) (number : ℕ) (s : Solo F T X) → waker_of number s.sleepers.wakers ≡ w → Prompt s
      → Prompt (left_by w (gone number s))
  left_by_prompt None number s is p = awake_prompt (told (gone number s)) (told_awake (gone number s) (gone_sound number s p.0))
  left_by_prompt (Some w) number s is p =
      waker_dropped_prompt (Some w) (gone number s)
      (gone_sound number s p.0, λ some. woken_flag number w s.sleepers is p.0.0 (sym p.0.1 ∙ p.1 some))

  pub left_prompt : (ticker : Ticker) (s : Solo F T X) → Prompt s → Prompt (left ticker s)
  left_prompt (AwakeTicker _) s p =
      let b : Bool = nat_lt s.sleepers.count s.sleepers.rooms in
      ((back_fits b s.sleepers p.0.0, p.0.1 ∙ back_flag b s.sleepers), p.1)
  left_prompt (Asleep sleeper) s p = left_by_prompt (waker_of sleeper.number s.sleepers.wakers) sleeper.number s refl p
