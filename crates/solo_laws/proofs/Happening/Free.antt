-- So the next future's name is free wherever a list of calls leads.
use Rattle.std.proofs.Common.{◌≡◌, ℕ, ◌+◌, ◌<◌, ◌≤◌, nat_lt, true, List, [], ◌∷◌, ◌++◌, length, None, slice_index_or, sym, ap, subst, ◌∙◌}
use Rattle.std.proofs.Common.{arith}
use Rattle.std.proofs.lemmas.Bool.Decides.{nat_tests}
use Rattle.solo.specs.declared.names.SoloWaker.{SoloWaker}
use Rattle.solo.specs.declared.owed.Lent.{Lent}
use Rattle.solo.specs.declared.owed.SpawnError.TheVariants.{Full, NoMemory}
use Rattle.solo.specs.declared.runs.Runner.{Runner}
use Rattle.solo.specs.declared.solo.Solo.{Solo}
use Rattle.solo.specs.Solo as solo
use Rattle.plain_scheduler.specs.State.{ARun, ATick, Answers, Choice, Drops, Event, Loses, Plain, Yes}
use Rattle.plain_scheduler.specs.Calls.{Call, does, is_granted}
use Rattle.solo_laws.specs.Alike as alike
use Rattle.solo_laws.specs.Courses.{Acts, Makes, cancels, copies, detaches, drops_handle, ends_closed, ends_given, gives, leaks, looks}
use Rattle.solo_laws.specs.Courses.{loses}
use Rattle.solo_laws.specs.Courses.{makes, makes_no_run, makes_no_tick, makes_run, makes_tick, over_dropped, over_polled, own_ready, pends}
use Rattle.solo_laws.specs.Courses.{polls, refuses, releases, run_dropped, run_drops, run_goes_on, run_leaves, run_looks, run_loses}
use Rattle.solo_laws.specs.Courses.{run_polled, spawns, takes, tick_leaves, tick_lies_refused, tick_refused, tick_rests, tick_takes, uses}
use Rattle.solo_laws.specs.Courses.{wakes as wakes_it}
use Rattle.solo_laws.specs.Making.{by_number}
use Rattle.solo_laws.specs.Numbered.{ticker_of}
use Rattle.solo_laws.specs.Owner.{Owner}
use Rattle.solo_laws.specs.Road.{wakes}
use Rattle.solo_laws.specs.RunGoing.{RunsOn, Searches, gives_way, in_try, is_refused, lies_refused, looks_on, rests, robs_another}
use Rattle.solo_laws.specs.RunGoing.{takes_common}
use Rattle.solo_laws.specs.RunGoing.{takes_own}
use Rattle.solo_laws.specs.RunResting.{slept_from}
use Rattle.solo_laws.specs.Tabled.{Stands, named}
use Rattle.solo_laws.proofs.Following.RunEnding.{tried_both}
use Rattle.solo_laws.proofs.Following.Spawning.{room}
use Rattle.solo_laws.proofs.Happening.Behind.{end_long}
use Rattle.solo_laws.proofs.Happening.Growing.{call_grows, spawn_long}
use Rattle.solo_laws.proofs.Happening.Vacant.{IsVacant, calls_v, cancelled_v, closed_v, detached_v, found_v, given_v, held_v, leaked_v}
use Rattle.solo_laws.proofs.Happening.Vacant.{pends_v}
use Rattle.solo_laws.proofs.Happening.Vacant.{polled_v, released_v, rested_v, run_left_v, run_rested_v, scheduled_v, searched_v}
use Rattle.solo_laws.proofs.Happening.Vacant.{slept_from_v}
use Rattle.solo_laws.proofs.Happening.Vacant.{slept_v, sought_v, taken_v, tick_left_v, used_v, woken_by_v, woken_v}
use Rattle.solo_laws.proofs.Showing.Courses.{Known}

is_below : (n m : ℕ) → n < m → nat_lt n m ≡ true
is_below n m below = grind (arith, nat_tests)

module _ {F T X : Type 0} (c : Choice) (s : Solo F T X) (p : Plain T (SoloWaker X)) (both : Stands by_number s p)
    (vacant : IsVacant (length p.futures) s.cells) where
  abbrev n : ℕ
  n = length p.futures

  -- no other call puts a task anywhere
  later : (call : Call T (SoloWaker X)) (z : Solo F T X) → IsVacant n z.cells
      → IsVacant (length (does wakes c call p).futures) z.cells
  later call z v = λ k above. (let more = (call_grows c call p).futures in v k (omega (arith, more, above)))

  pub makes_vacant : (call : Call T (SoloWaker X)) (shown : List (Event T (SoloWaker X))) (z : Solo F T X)
      → Makes by_number c s p call shown z → IsVacant (length (does wakes c call p).futures) z.cells
  makes_vacant call shown z (spawns mark future spawned z' so is granted life few) =
      let a = so.1.0 in
      let room_so =
      is_below _ p.limit (room by_number s p both.0 both.1 mark future spawned.task so.0.table so.0.cells a is few) in
      let long = spawn_long c mark p room_so (ap (λ r. is_granted r) granted) in
      let key : n ≡ spawned.task.key = ap (λ (l : Lent). l.task.key) is in
      let came : IsVacant (n + 1) so.0.cells =
      λ k above. a.cell.others k (λ same. absurd (omega (arith, same, key, above))) ∙ vacant k (omega (arith, above)) in
      subst (λ m. IsVacant m z'.cells) (sym long)
      (subst (λ (z : Solo F T X). IsVacant (n + 1) z.cells) (sym so.2) (scheduled_v (n + 1) spawned.task so.0 came))
  makes_vacant call shown z (refuses mark future (Full back) z' so fits) =
      later call z' (λ k above. ap (λ slots. slice_index_or slots k None) so.0.2.slots ∙ vacant k above)
  makes_vacant call shown z (refuses mark future (NoMemory back) z' so fits) =
      later call z' (λ k above. ap (λ slots. slice_index_or slots k None) so.0.3.slots ∙ vacant k above)
  makes_vacant call shown z (takes first life) = later call (solo.taken s) (taken_v n s vacant)
  makes_vacant call shown z looks = later call s vacant
  makes_vacant call shown z (wakes_it f at life) = later call (solo.woken (named by_number f) s) (woken_v n (named by_number f) s vacant)
  makes_vacant call shown z (uses f at life) =
      later call (solo.woken_and_released (named by_number f) s) (used_v n (named by_number f) s vacant)
  makes_vacant call shown z (releases f at life) =
      later call (solo.released (named by_number f) s) (released_v n (named by_number f) s vacant)
  makes_vacant call shown z (copies f at says) = later call (solo.held (named by_number f) s) (held_v n (named by_number f) s vacant)
  makes_vacant call shown z (polls f w at handle names life) =
      later call (alike.handle_polled (is_granted c.refusal) (named by_number f) w s)
      (polled_v n (is_granted c.refusal) (named by_number f) w s vacant)
  makes_vacant call shown z (cancels f at life) =
      later call (alike.cancelled (named by_number f) s) (cancelled_v n (named by_number f) s vacant)
  makes_vacant call shown z (detaches f at life) =
      later call (solo.detached (named by_number f) s) (detached_v n (named by_number f) s vacant)
  makes_vacant call shown z (drops_handle f at life) =
      later call (solo.detached (named by_number f) (alike.cancelled (named by_number f) s))
      (detached_v n (named by_number f) (alike.cancelled (named by_number f) s) (cancelled_v n (named by_number f) s vacant))
  makes_vacant call shown z (leaks owned life) = later call z (leaked_v n (length s.table.entries) s vacant)
  makes_vacant call shown z (pends f by rest future one is life) = later call z (pends_v n (by_number f) future s vacant)
  makes_vacant call shown z (gives f by rest v is) = later call s vacant
  makes_vacant call shown z (ends_given f v by rest one is life) = later call z (given_v n (by_number f) v s vacant)
  makes_vacant call shown z (ends_closed f by rest one is life) = later call z (closed_v n (by_number f) s vacant)
  makes_vacant call shown z (loses awaiter by rest one is life) = later call z (calls_v n awaiter s vacant)

module _ {F T X : Type 0} (owner : Owner) (c : Choice) (runner : Runner) (w : SoloWaker X) (s : Solo F T X) (p : Plain T (SoloWaker X))
    (n : ℕ) (v : IsVacant n s.cells) where
  searches_vacant : (shown : List (Event T (SoloWaker X))) (now : Owner) (z : Solo F T X)
      → Searches by_number owner c runner w s p shown now z → IsVacant n z.cells
  searches_vacant shown now z (takes_own start found first keeps life) =
      searched_v n runner (ticker_of owner.number (ARun runner.number) p.lying) start s v
  searches_vacant shown now z (takes_common start found none first turn keeps life) =
      searched_v n runner (ticker_of owner.number (ARun runner.number) p.lying) start s v
  searches_vacant shown now z (robs_another start found none nothing turn walks robs moves keeps life) =
      searched_v n runner (ticker_of owner.number (ARun runner.number) p.lying) start s v
  searches_vacant shown now z (rests one two none turn granted names more life) =
      run_rested_v n runner.number one two (ticker_of owner.number (ARun runner.number) p.lying) w s v
  searches_vacant shown now z (is_refused start none turn refused) = sought_v n runner.number start s v
  searches_vacant shown now z (lies_refused one two none turn refused names again more life) =
      let ticker = ticker_of owner.number (ARun runner.number) p.lying in
      sought_v n runner.number two (slept_from runner.number one ticker w s) (slept_from_v n runner.number one ticker w s v)

  pub runs_on_vacant : (shown : List (Event T (SoloWaker X))) (now : Owner) (z : Solo F T X)
      → RunsOn by_number owner c runner w s p shown now z → IsVacant n z.cells
  runs_on_vacant shown now z (looks_on shown' now' z' less how) = searches_vacant shown' now' z' how
  runs_on_vacant shown now z (gives_way enough names life) = woken_by_v n w s v

module _ {F T X : Type 0} where
  pub acts_vacant : (owner : Owner) (c : Choice) (s : Solo F T X) (p : Plain T (SoloWaker X)) (now : Owner) (z : Solo F T X)
      (call : Call T (SoloWaker X)) (shown : List (Event T (SoloWaker X))) → Known by_number owner s p
      → length p.lying ≤ c.tells → IsVacant (length p.futures) s.cells → Acts by_number owner c s p call shown now z
      → IsVacant (length (does wakes c call p).futures) z.cells
  acts_vacant owner c s p now z call shown known many v (makes call' shown' z' how) =
      makes_vacant c s p known.stands v call' shown' z' how
  acts_vacant owner c s p now z call shown known many v (makes_tick t new granted) = later c s p known.stands v call z v
  acts_vacant owner c s p now z call shown known many v (tick_takes t w task lives found first life) =
      later c s p known.stands v call z
      (found_v (length p.futures) (ticker_of owner.number (ATick t) p.lying) task (solo.popped s) v)
  acts_vacant owner c s p now z call shown known many v (tick_rests t w lives none first granted names more life) =
      later c s p known.stands v call z (rested_v (length p.futures) (ticker_of owner.number (ATick t) p.lying) w s v)
  acts_vacant owner c s p now z call shown known many v (makes_run granted few) = later c s p known.stands v call z v
  acts_vacant owner c s p now z call shown known many v (makes_no_run refused) = later c s p known.stands v call z v
  acts_vacant owner c s p now z call shown known many v (run_polled runner w going free) = later c s p known.stands v call z v
  acts_vacant owner c s p now z call shown known many v (over_polled r w over) = later c s p known.stands v call z v
  acts_vacant owner c s p now z call shown known many v (own_ready r w u rest is) = later c s p known.stands v call z v
  acts_vacant owner c s p now z call shown known many v (run_looks runner w rest shown' now' z' its_runner is how) =
      later c s p known.stands v call z'
      (searches_vacant owner c runner w s (record p { inside = rest }) (length p.futures) v shown' now' z' how)
  acts_vacant owner c s p now z call shown known many v (run_goes_on stage runner w rest call' before others now' y z' its_runner is ends
      made on) =
      let tried = in_try stage rest p in
      let both = tried_both by_number owner c s p known.stands known.numbered many stage runner.number w rest call' is ends in
      let there =
      subst (λ m. IsVacant m y.cells) (end_long c p rest stage call' ends)
      (makes_vacant c s tried both v call' (before ++ Answers Yes ∷ []) y made) in
      later c s p known.stands v call' z'
      (runs_on_vacant owner c runner w y (record (does wakes c call' tried) { events = p.events ++ before }) (length p.futures) there others
      now' z' on)
  acts_vacant owner c s p now z call shown known many v (run_drops stage r w rest call' before f z' is ends made) =
      let tried = in_try stage rest p in
      let both = tried_both by_number owner c s p known.stands known.numbered many stage r w rest call' is ends in
      later c s p known.stands v call' z'
      (subst (λ m. IsVacant m z'.cells) (end_long c p rest stage call' ends)
      (makes_vacant c s tried both v call' (before ++ Drops f ∷ []) z' made))
  acts_vacant owner c s p now z call shown known many v (run_loses stage r w rest call' before u z' is ends made) =
      let tried = in_try stage rest p in
      let both = tried_both by_number owner c s p known.stands known.numbered many stage r w rest call' is ends in
      later c s p known.stands v call' z'
      (subst (λ m. IsVacant m z'.cells) (end_long c p rest stage call' ends)
      (makes_vacant c s tried both v call' (before ++ Loses u ∷ []) z' made))
  acts_vacant owner c s p now z call shown known many v (run_dropped r going free) = later c s p known.stands v call z v
  acts_vacant owner c s p now z call shown known many v (over_dropped r over) = later c s p known.stands v call z v
  acts_vacant owner c s p now z call shown known many v (run_leaves runner answer rest is life) =
      later c s p known.stands v call z
      (run_left_v (length p.futures) (ticker_of owner.number (ARun runner.number) p.lying) runner s v)
  acts_vacant owner c s p now z call shown known many v (makes_no_tick refused) = later c s p known.stands v call z v
  acts_vacant owner c s p now z call shown known many v (tick_refused t w lives none first refused) =
      later c s p known.stands v call z v
  acts_vacant owner c s p now z call shown known many v (tick_lies_refused t w lives none first refused names again more life) =
      later c s p known.stands v call z (slept_v (length p.futures) (ticker_of owner.number (ATick t) p.lying) w s v)
  acts_vacant owner c s p now z call shown known many v (tick_leaves t lives life) =
      later c s p known.stands v call z (tick_left_v (length p.futures) (ticker_of owner.number (ATick t) p.lying) s v)
