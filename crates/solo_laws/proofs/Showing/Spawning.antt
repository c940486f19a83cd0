-- A spawn shows the sleeper that it hands out.
use Rattle.std.proofs.Common.{◌≡◌, ℕ, ◌<◌, nat_lt, if◌then◌else◌, Bool, true, [], ◌∷◌, ◌++◌, length}
use Rattle.std.proofs.Common.{Some, None, refl, sym, ap, subst, ◌∙◌, arith}
use Rattle.std.proofs.lemmas.Bool.Decides.{nat_tests}
use Rattle.solo.specs.declared.names.Task.{Task}
use Rattle.solo.specs.declared.names.SoloWaker.{SoloWaker}
use Rattle.solo.specs.declared.owed.Lent.{Lent}
use Rattle.solo.specs.declared.owed.Told.{Told}
use Rattle.solo.specs.declared.solo.Solo.{Solo}
use Rattle.solo.specs.Cells.{choose}
use Rattle.solo.specs.Turns as turns
use Rattle.plain_scheduler.specs.State.{Plain, Answers, Made, NoMemory, Full}
use Rattle.plain_scheduler.specs.Moves.{appended, tell, answers}
use Rattle.plain_scheduler.specs.Calls.{living_from, is_granted}
use Rattle.solo_laws.specs.Road.{wakes}
use Rattle.solo_laws.specs.Shown.{rings, SpawnsShown}
use Rattle.solo_laws.specs.Tabled.{Stands, named}
use Rattle.solo_laws.proofs.Following.Lines.{younger}
use Rattle.solo_laws.proofs.Following.Spawning.{accepting, entered, named_new, room, lined_so}
use Rattle.solo_laws.proofs.Showing.Telling.{step, told_shows}

is_below : (n m : ℕ) → n < m → nat_lt n m ≡ true
is_below n m below = grind (arith, nat_tests)

abbrev told_if : {F T X : Type 0} → Solo F T X → Task → Bool → Told X
told_if z t b =
    choose
    b
    (record { sleeper = turns.told_waker (turns.lined t z); returned = None })
    (record { sleeper = None; returned = Some t })

module _ {F T X : Type 0} (its : ℕ → Lent) (s : Solo F T X) (p : Plain T (SoloWaker X)) (both : Stands its s p) where
  pub spawns_shown : SpawnsShown its s p
  spawns_shown c mark future it z spawns is granted many life few =
      let first = spawns.0 in
      let a = spawns.1.0 in
      let after : Solo F T X = accepting its s p both.0 both.1 mark future it.task first.table first.cells a is few in
      let n : ℕ = length p.futures in
      let coming : Plain T (SoloWaker X) = entered its s p both.0 both.1 mark future it.task first.table first.cells a is few in
      let q : Plain T (SoloWaker X) = tell wakes c (appended n coming) in
      let queued = lined_so its s p both.0 both.1 mark future it.task first.table first.cells a is few (younger 2 s.lines life) in
      let told : it.told.sleeper ≡ turns.told_waker (turns.lined (named its n) after) =
      ap (λ (t : Told X). t.sleeper) (spawns.3 ∙ ap (turns.schedule_answer it.task) spawns.1.1)
      ∙ (ap (λ u. (turns.schedule_answer u after).sleeper)
      (sym (named_new its s p both.0 both.1 mark future it.task first.table first.cells a is few))
      ∙ ap (λ b. (told_if after (named its n) b).sleeper) queued.0) in
      let rang : q.events ≡ p.events ++ rings it.told.sleeper =
      told_shows None (named its) c (turns.lined (named its n) after) (appended n coming) many queued.1
      ∙ ap (λ o. p.events ++ rings o) (sym told) in
      subst
      (λ b. (if b then (if is_granted c.refusal then answers Made q else answers NoMemory p) else answers Full p).events
      ≡ p.events ++ (rings it.told.sleeper ++ Answers Made ∷ []))
      (sym (is_below (length (living_from 0 p.futures)) p.limit
      (room its s p both.0 both.1 mark future it.task first.table first.cells a is few)))
      (subst
      (λ g. (if is_granted g then answers Made q else answers NoMemory p).events
      ≡ p.events ++ (rings it.told.sleeper ++ Answers Made ∷ []))
      (sym granted)
      (step p.events (rings it.told.sleeper) (Answers Made ∷ []) rang refl))
