-- A run that finds nothing, and is refused a copy of its waker, is as it was, or lies, where the plain scheduler's does.
use Rattle.std.proofs.Common.{◌≡◌, ℕ, true, find, refl, sym, ap, subst, ◌∙◌}
use Rattle.solo.specs.declared.names.SoloWaker.{SoloWaker}
use Rattle.solo.specs.declared.owed.Lent.{Lent}
use Rattle.solo.specs.declared.solo.Solo.{Solo}
use Rattle.solo.specs.declared.ticks.Ticked.{Ticked}
use Rattle.solo.specs.declared.ticks.Ticker.{Ticker}
use Rattle.solo.specs.declared.ticks.Ticker.TheVariants.{Awake}
use Rattle.solo.specs.Solo as solo
use Rattle.solo.specs.Steals as steals
use Rattle.solo.specs.Ticks as ticks
use Rattle.executor_parts.specs.Sleepers.{next_number}
use Rattle.plain_scheduler.specs.State.{ARun, NoMemory, Plain, Who}
use Rattle.plain_scheduler.specs.Lists.{or}
use Rattle.plain_scheduler.specs.Moves.{answers, lies}
use Rattle.plain_scheduler.specs.Takes as takes
use Rattle.plain_scheduler.specs.Calls as calls
use Rattle.solo_laws.specs.Numbered.{IsNumbered}
use Rattle.solo_laws.specs.Road.{awaiters, drops, lents, wakes}
use Rattle.solo_laws.specs.RunResting.{EachListed, RunsAreRefused, RunsLieRefused, sleep_answer, slept_from}
use Rattle.solo_laws.specs.Tabled.{Stands, named}
use Rattle.solo_laws.specs.Ticking.{IsRefused, LiesRefused, looks_again, numbered_by, slept_answer, slept_once}
use Rattle.solo_laws.proofs.Following.Resting.{slept_under}
use Rattle.solo_laws.proofs.Following.RunPolling.{same_hands}
use Rattle.solo_laws.proofs.Following.RunResting as resting
use Rattle.solo_laws.proofs.Following.TickRefusing as refusing
use Rattle.solo_laws.proofs.Following.Trying as trying

module _ {F T X : Type 0} (its : ℕ → Lent) (number : Who → ℕ) (s : Solo F T X) (p : Plain T (SoloWaker X)) (both : Stands its s p)
    (n : IsNumbered number s.sleepers p.lying) (listed : EachListed s.runs) where
  pub runs_refused : RunsAreRefused its number s p
  runs_refused c r w rest start is going missed turn refused =
      let q : Plain T (SoloWaker X) = record p { inside = rest } in
      let both' : Stands its s q =
      same_hands its s p both c rest (sym (ap (λ cs. lents cs) is)) (sym (ap (λ cs. drops cs) is)) (sym (ap (λ cs. awaiters cs) is)) in
      let stands = resting.so its number s q both' n c r w start start going listed missed turn in
      subst (λ cs. IsRefused its number s q number (steals.sought r start s) (calls.innermost wakes c cs (calls.pends wakes c) p)) (sym is)
      (subst (IsRefused its number s q number (steals.sought r start s))
      (sym (resting.takes_none its number s q both' n c r w start start going listed missed turn
      ∙ ap (λ refusal. takes.rests wakes c refusal (ARun r) w q) refused))
      (subst (λ z. IsRefused its number s q number z (answers NoMemory q))
      (sym (resting.first_same its number s q both' n c r w start start going listed missed turn))
      (refusing.refuses its number s q c number (solo.popped s) q (stands.follows, stands.tabled) stands.numbered refl)))

  pub runs_lie_refused : RunsLieRefused its number s p
  runs_lie_refused c r w rest start later is going missed turn refused room names again many life =
      let q : Plain T (SoloWaker X) = record p { inside = rest } in
      let who = ARun r in
      let both' : Stands its s q =
      same_hands its s p both c rest (sym (ap (λ cs. lents cs) is)) (sym (ap (λ cs. drops cs) is)) (sym (ap (λ cs. awaiters cs) is)) in
      let ticker : Ticker = or (find (lies who) p.lying) (λ l. slept_under (number who)) (Awake ticks.its_room) in
      let stands = resting.so its number s q both' n c r w start later going listed missed turn in
      let out = resting.out_is its number s q both' n c r w start later going listed missed turn ticker in
      let z = resting.z_is its number s q both' n c r w start later going listed missed turn ticker in
      let looks : looks_again (slept_answer ticker w s).look ≡ true = sym (ap (λ (out : Ticked F X). looks_again out.look) out) ∙ again in
      let second : steals.sought r later (slept_from r start ticker w s) ≡ solo.popped (slept_once ticker w s) =
      ap (λ z. steals.sought r later z) z
      ∙ resting.again_same its number s q both' n c r w start later going listed missed turn ticker looks in
      let lives = trying.lives (named its) c s q turn both'.0 2 life in
      let new : Who → ℕ = or (find (lies who) p.lying) (λ l. number) (numbered_by who (next_number s.sleepers) number) in
      let end = steals.sought r later (slept_from r start ticker w s) in
      let answer = sleep_answer r start ticker w s in
      subst (λ cs. LiesRefused its number s q who new answer end (calls.innermost wakes c cs (calls.pends wakes c) p)) (sym is)
      (subst (LiesRefused its number s q who new answer end)
      (sym (resting.takes_none its number s q both' n c r w start later going listed missed turn
      ∙ ap (λ refusal. takes.rests wakes c refusal who w q) refused))
      (subst (λ it. LiesRefused its number s q who new it end (answers NoMemory (takes.lies_down wakes c who w q))) (sym out)
      (subst
      (λ z. LiesRefused its number s q who new (slept_answer ticker w s) z (answers NoMemory (takes.lies_down wakes c who w q)))
      (sym second) (refusing.lies_refused its number s q c who w stands names many lives (find (lies who) q.lying) refl room looks))))
