-- The end of an output's drop shows whom its owner then calls.
use Rattle.std.proofs.Common.{◌≡◌, ℕ, true, [], ◌∷◌, ◌++◌, length, Option, Some, None, refl, sym, subst}
use Rattle.solo.specs.declared.names.SoloWaker.{SoloWaker}
use Rattle.solo.specs.declared.owed.Lent.{Lent}
use Rattle.solo.specs.declared.solo.Solo.{Solo}
use Rattle.plain_scheduler.specs.State.{Plain, Taker, Answers, Done}
use Rattle.plain_scheduler.specs.Lists.{on, or}
use Rattle.plain_scheduler.specs.Moves.{tell, called, answers}
use Rattle.plain_scheduler.specs.Takes as takes
use Rattle.plain_scheduler.specs.Calls as calls
use Rattle.solo_laws.specs.Dropping.{ends_one}
use Rattle.solo_laws.specs.Road.{Follows, wakes}
use Rattle.solo_laws.specs.Shown.{ended_in, rings_of, call_shows, LosesShown}
use Rattle.solo_laws.specs.Tabled.{named}
use Rattle.solo_laws.proofs.Following.Seeing.{seen}
use Rattle.solo_laws.proofs.Following.Losing.{lost}
use Rattle.solo_laws.proofs.Showing.Telling.{step}
use Rattle.solo_laws.proofs.Showing.Calling.{calls_show}
use Rattle.solo_laws.proofs.Showing.Ending.{next_events}

module _ {F T X : Type 0} (its : ℕ → Lent) (s : Solo F T X) (p : Plain T (SoloWaker X)) (r : Follows (named its) s p) where
  pub loses_shown : LosesShown its s p
  loses_shown c awaiter by one rest stands_in many life =
      let two = lost (named its) (length p.futures) s.cells p.inside rest r.inside awaiter by stands_in in
      let q : Plain T (SoloWaker X) = record p { inside = rest } in
      let called_so = on awaiter (called wakes (tell wakes c)) q in
      subst
      (λ cs. (calls.innermost wakes c cs (calls.ends wakes c) p).events ≡ p.events ++ call_shows awaiter by s)
      (sym stands_in)
      (step p.events (rings_of awaiter s) (Answers (ended_in by) ∷ [])
      (calls_show (named its) c s q (seen (named its) s p p.events rest two.0 r) many life awaiter two.1)
      (goes by one called_so))
    where
      goes : (by : Option (Taker (SoloWaker X))) → ends_one by ≡ true → (q : Plain T (SoloWaker X))
          → (or by (λ taker. takes.next wakes c taker q) (answers Done q)).events ≡ q.events ++ Answers (ended_in by) ∷ []
      goes None one q = refl
      goes (Some taker) one q = next_events c taker one q
