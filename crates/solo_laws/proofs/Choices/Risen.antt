-- Once a run has found a future, gets up and has told, both stand alike, with that one aside.
use Rattle.std.proofs.Common.{◌≡◌, ℕ, ◌≤◌, not, true, false, length, Some, slice_get, ap, ◌∙◌}
use Rattle.solo.specs.declared.names.SoloWaker.{SoloWaker}
use Rattle.solo.specs.declared.owed.Lent.{Lent}
use Rattle.solo.specs.declared.solo.Solo.{Solo}
use Rattle.solo.specs.declared.ticks.Ticker.{Ticker}
use Rattle.solo.specs.Runs as runs
use Rattle.solo.specs.Ticks as ticks
use Rattle.plain_scheduler.specs.State.{ARun, Choice, Due, Plain, Running, Who}
use Rattle.plain_scheduler.specs.Lists.{or}
use Rattle.plain_scheduler.specs.Moves.{tell, up}
use Rattle.solo_laws.specs.Numbered.{IsNumbered, ticker_of}
use Rattle.solo_laws.specs.Road.{FollowsBut, HasLife, wakes}
use Rattle.solo_laws.specs.Tabled.{IsTable, Stands, goes_on, named}
use Rattle.solo_laws.proofs.Following.Frames.{tell_still}
use Rattle.solo_laws.proofs.Following.Rising.{risen}
use Rattle.solo_laws.proofs.Following.Tabling.{tabled}
use Rattle.solo_laws.proofs.Following.TickTaking.{tells}
use Rattle.solo_laws.proofs.Following.Trying as trying

module _ {F T X : Type 0} (its : ℕ → Lent) (number : Who → ℕ) (c : Choice) (r : ℕ) (d : Due) (s : Solo F T X)
    (p : Plain T (SoloWaker X)) (follows : FollowsBut (Some d) (named its) s p) (table : IsTable its s p)
    (n : IsNumbered number s.sleepers p.lying) (many : length p.lying ≤ c.tells) (life : HasLife 5 s.lines)
    (going : goes_on r p ≡ true) where
  abbrev ticker : Ticker
  ticker = ticker_of number (ARun r) p.lying

  pub told_both : Stands its (runs.told ticker s) (tell wakes c (up wakes c (ARun r) p))
  told_both =
      let u = risen its number c (Some d) s p follows n many life (ARun r) in
      let dropped = ticks.wake_up_answer ticker s in
      let y = ticks.woke_up ticker s in
      let a = up wakes c (ARun r) p in
      let told_so = tells (named its) c (Some d) y a u.follows u.few u.life dropped.told.sleeper u.told in
      let z = ticks.told_unless dropped.told.sleeper y in
      let q = tell wakes c a in
      (trying.forget (named its) d z q told_so.so, tabled its c y z a q told_so.base (tell_still c a) (u.tabled table))

  pub told_on : goes_on r (tell wakes c (up wakes c (ARun r) p)) ≡ true
  told_on =
      let u = risen its number c (Some d) s p follows n many life (ARun r) in
      let still = tell_still c (up wakes c (ARun r) p) in
      ap (λ rs. or (slice_get rs r) (λ (run : Running). not run.is_over) false) (still.runs ∙ u.still.runs) ∙ going
