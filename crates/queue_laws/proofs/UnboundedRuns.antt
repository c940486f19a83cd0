-- Every list of steps on a chain is an execution of the closable queue.
use Rattle.std.proofs.Common.{◌≡◌, inl, ◌↔◌, ℕ, ◌%◌, ◌<◌, ◌≤◌, List, [], ◌∷◌, length, Bool, true, false, nat_le, IsTrue}
use Rattle.std.proofs.Common.{Option, Some, None, Ok, Err, if◌then◌else◌, sym, refl, subst, arith}
use Rattle.std.proofs.lemmas.Bool.Decides.{nat_tests}
use Rattle.queue_steps.specs.declared.errors.PushError.TheVariants.{Closed as ClosedToPush}
use Rattle.queue_steps.specs.declared.errors.ForcePushError.TheVariants.{Closed as ClosedToForce}
use Rattle.queue_steps.specs.declared.errors.PopError.TheVariants.{Empty as EmptyToPop, Closed as ClosedToPop}
use Rattle.queue_steps.specs.UnboundedTurns.{Turn, Append, Link, Take, Unlink, Spend, End, Close as CloseTurn, push_turn, pop_turn}
use Rattle.queue_steps.specs.declared.steps.unbounded.Ends.{Ends}
use Rattle.queue_steps.specs.ClosableQueue.{ClosableQueue}
use Rattle.queue_steps.specs.Calls.{Call, Push, ForcePush, Pop, Close, Len, IsEmptyCall, IsFullCall, IsClosedCall, Answer, Pushed}
use Rattle.queue_steps.specs.Calls.{ForcePushed, Popped, Acts}
use Rattle.queue_laws.specs.Moments.{Moment, Scene, Sight, Progress, Run, becomes, answers, with_call, MayEnd}
use Rattle.queue_steps.specs.Unbounded.{joined, IsLaid, UnboundedAtRest, chain_queue}
use Rattle.queue_laws.specs.UnboundedSteps.{Place, Away, Calls, Returns, UnboundedWorld, Step, Begin, Go, Section, section, push_section}
use Rattle.queue_laws.specs.UnboundedSteps.{pop_section, take_section, unlink_section, stepped, gone, begun, begin_moments}
use Rattle.queue_laws.specs.UnboundedSteps.{go_moments, moments, run, trace, new_chain, new_scene, IsClosableQueue}
use Rattle.queue_steps.proofs.UnboundedLemmas.{append_is, link_is, blocks_there, rests_appended, rests_linked, queue_appended, queue_linked}

refused_is : (e : Ends) (r : _) → End r ≡ push_turn e → e.closed ≡ true
refused_is e r turn = grind (arith, nat_tests)

unlink_is : (e : Ends) → Unlink ≡ pop_turn e → (e.head < e.tail) × (e.head % 31 ≡ 30)
unlink_is e turn = grind (arith, nat_tests)

nothing_is : (e : Ends) (r : _) → End r ≡ pop_turn e → e.tail ≤ e.head
nothing_is e r turn = grind (arith, nat_tests)

module _ {T : Type 0} where
  -- a section on a chain at rest is the queue's call, and leaves a chain at rest
  abbrev SectionIs : Ends → List (List T) → Call T → Section T → Type 0
  SectionIs e bs call s = Acts (chain_queue e bs) call s.answer (chain_queue s.ends s.blocks) × UnboundedAtRest s.ends s.blocks None

  push_by : (t : Turn) (e : Ends) (bs : List (List T)) (x : T) → UnboundedAtRest e bs None → t ≡ push_turn e
      → SectionIs e bs (Push x) (push_section t e bs x (Pushed (Ok tt)) (Pushed (Err (ClosedToPush x))))
  push_by Append e bs x s is =
      let k = append_is e is in
      (((k.0, tt, k.1), queue_appended e bs x (blocks_there e bs None s k.2)), rests_appended e bs None x s k.1 k.2)
  push_by Link e bs x s is =
      let k = link_is e is in
      (((k.0, tt, k.1), queue_linked e bs x), rests_linked e bs None None x s k.1 k.2 s.spare_is_empty)
  push_by Spend e bs x s is = grind (arith, nat_tests)
  push_by (End r) e bs x s is = grind (arith, nat_tests)
  push_by Take e bs x s is = absurd (grind (arith, nat_tests))
  push_by Unlink e bs x s is = absurd (grind (arith, nat_tests))
  push_by CloseTurn e bs x s is = absurd (grind (arith, nat_tests))

  force_by : (t : Turn) (e : Ends) (bs : List (List T)) (x : T) → UnboundedAtRest e bs None → t ≡ push_turn e
      → SectionIs e bs (ForcePush x) (push_section t e bs x (ForcePushed (Ok None)) (ForcePushed (Err (ClosedToForce x))))
  force_by Append e bs x s is =
      let k = append_is e is in
      (((k.0, tt, k.1), queue_appended e bs x (blocks_there e bs None s k.2)), rests_appended e bs None x s k.1 k.2)
  force_by Link e bs x s is =
      let k = link_is e is in
      (((k.0, tt, k.1), queue_linked e bs x), rests_linked e bs None None x s k.1 k.2 s.spare_is_empty)
  force_by Spend e bs x s is = grind (arith, nat_tests)
  force_by (End r) e bs x s is = ((inl (refused_is e r is, refl), refl), s)
  force_by Take e bs x s is = absurd (grind (arith, nat_tests))
  force_by Unlink e bs x s is = absurd (grind (arith, nat_tests))
  force_by CloseTurn e bs x s is = absurd (grind (arith, nat_tests))

  -- the first block is used up
  laid_unlinked : (y : T) (b : List T) (bs : List (List T)) (to : ℕ) → to ≤ 31 → IsLaid 30 ((y ∷ b) ∷ bs) to
      → (length b ≡ 0) × IsLaid 0 bs to
  laid_unlinked y b bs to near laid = grind (arith, nat_tests)

  nothing : (xs : List T) → length xs ≡ 0 → xs ≡ []
  nothing [] e = refl
  nothing (x ∷ xs) e = absurd (omega arith)

  -- the first block of a chain that holds something has an item
  laid_empty_first : (from : ℕ) (bs : List (List T)) (to : ℕ) → from < 31 → IsLaid from ([] ∷ bs) to → length (joined ([] ∷ bs)) ≡ 0
  laid_empty_first from bs to near laid = grind (arith, nat_tests)

  take_by : (e : Ends) (bs : List (List T)) → UnboundedAtRest e bs None → e.head < e.tail → e.head % 31 < 30
      → SectionIs e bs Pop (take_section e bs)
  take_by e bs s some near = grind (arith, nat_tests)

  unlink_by : (e : Ends) (bs : List (List T)) → UnboundedAtRest e bs None → e.head < e.tail → e.head % 31 ≡ 30
      → SectionIs e bs Pop (unlink_section e bs)
  unlink_by e bs s some last = grind (arith, nat_tests, laid_empty_first, laid_unlinked, nothing)

  empty_by : (e : Ends) (bs : List (List T)) → UnboundedAtRest e bs None → e.tail ≤ e.head → joined bs ≡ []
  empty_by e bs s none = grind (arith, nat_tests, nothing)

  pop_by : (t : Turn) (e : Ends) (bs : List (List T)) → UnboundedAtRest e bs None → t ≡ pop_turn e → SectionIs e bs Pop (pop_section t e bs)
  pop_by Take e bs s is = grind (arith, nat_tests)
  pop_by Unlink e bs s is = let k = unlink_is e is in unlink_by e bs s k.0 k.1
  pop_by (End r) e bs s is = (told e.closed refl (empty_by e bs s (nothing_is e r is)), s)
    where
      told : (b : Bool) → e.closed ≡ b → joined bs ≡ []
          → Acts (chain_queue e bs) Pop (Popped (Err (if e.closed then ClosedToPop else EmptyToPop))) (chain_queue e bs)
      told true closed none = rw closed (none, refl, refl)
      told false closed none = rw closed (none, refl, refl)
  pop_by Append e bs s is = absurd (grind (arith, nat_tests))
  pop_by Link e bs s is = absurd (grind (arith, nat_tests))
  pop_by Spend e bs s is = absurd (grind (arith, nat_tests))
  pop_by CloseTurn e bs s is = absurd (grind (arith, nat_tests))

  close_by : (b : Bool) (e : Ends) (bs : List (List T)) → UnboundedAtRest e bs None → e.closed ≡ b
      → SectionIs e bs Close (section e bs Close)
  close_by b e bs s closed = grind (arith, nat_tests)

  section_by : (e : Ends) (bs : List (List T)) (call : Call T) → UnboundedAtRest e bs None → SectionIs e bs call (section e bs call)
  section_by e bs (Push x) s = push_by (push_turn e) e bs x s refl
  section_by e bs (ForcePush x) s = force_by (push_turn e) e bs x s refl
  section_by e bs Pop s = pop_by (pop_turn e) e bs s refl
  section_by e bs Close s = close_by e.closed e bs s refl
  section_by e bs Len s = grind (arith, nat_tests)
  section_by e bs IsEmptyCall s = ((empty_told (nat_le e.tail e.head) refl, refl), s)
    where
      empty_told : (b : Bool) → nat_le e.tail e.head ≡ b → IsTrue b ↔ (joined bs ≡ [])
      empty_told b told = grind (arith, nat_tests, told, empty_by, nat_tests)
  section_by e bs IsFullCall s = grind (arith, nat_tests)
  section_by e bs IsClosedCall s = ((refl, refl), s)

  -- what ties a party's place to its call
  abbrev TiedCall : Place T → Option (Progress T) → Type 0
  TiedCall Away c = c ≡ None
  TiedCall (Calls call) c = (k : Progress T) × (c ≡ Some k) × (k.call ≡ call) × (k.answer ≡ None)
  TiedCall (Returns a) c = (k : Progress T) × (c ≡ Some k) × (k.answer ≡ Some a)

  record Tied (w : UnboundedWorld T) (s : Scene T) : Type 0 where
    rest : UnboundedAtRest w.ends w.blocks None
    queue : s.sight.queue ≡ chain_queue w.ends w.blocks
    incoming : s.sight.incoming ≡ None
    each : (p : ℕ) → TiedCall (w.places p) (s.calls p)

  abbrev Goes : UnboundedWorld T → Scene T → List (Moment T) → UnboundedWorld T → Type 0
  Goes w s ms w' = (s' : Scene T) × Run s ms s' × Tied w' s'

  begin_by : (w : UnboundedWorld T) (s : Scene T) (p : ℕ) (call : Call T) (place : Place T) → Tied w s → w.places p ≡ place
      → Goes w s (begin_moments p call place) (begun w p call place)
  begin_by w s p call Away tied is =
      let c : Progress T = record { call = call; seen = s.sight ∷ []; answer = None } in
      let new : Scene T = record s { calls = with_call s.calls p (Some c) } in (
        new,
        grind (arith, nat_tests),
        grind (arith, nat_tests),
      )
  begin_by w s p call (Calls other) tied is = (s, refl, tied)
  begin_by w s p call (Returns answer) tied is = (s, refl, tied)

  go_by : (w : UnboundedWorld T) (s : Scene T) (p : ℕ) (place : Place T) → Tied w s → w.places p ≡ place
      → Goes w s (go_moments w p place) (gone w p place)
  go_by w s p Away tied is = (s, refl, tied)
  go_by w s p (Calls call) tied is =
      let k = subst (λ (x : Place T). TiedCall x (s.calls p)) is (tied.each p) in
      let sec = section w.ends w.blocks call in
      let acts = section_by w.ends w.blocks call tied.rest in
      let look : Sight T = record s.sight { queue = chain_queue sec.ends sec.blocks } in
      let new : Scene T = becomes (answers s p k.0 sec.answer) look in (
        new,
        (
          new,
          (
            k.0,
            k.1,
            k.3,
            (
              chain_queue sec.ends sec.blocks,
              subst (λ (q : ClosableQueue T). Acts q k.0.call sec.answer (chain_queue sec.ends sec.blocks)) (sym tied.queue)
                  (subst (λ (x : Call T). Acts (chain_queue w.ends w.blocks) x sec.answer (chain_queue sec.ends sec.blocks)) (sym k.2)
                  acts.0),
              grind (arith, nat_tests),
              refl,
            ),
          ),
          refl,
        ),
        grind (arith, nat_tests),
      )
  go_by w s p (Returns a) tied is =
      let k = subst (λ (x : Place T). TiedCall x (s.calls p)) is (tied.each p) in
      let new : Scene T = record s { calls = with_call s.calls p None } in (
        new,
        (
          new,
          (
            k.0,
            k.1,
            subst (λ (o : Option (Answer T)). MayEnd k.0 o a) (sym k.2) refl,
            grind (arith, nat_tests),
            refl,
          ),
          refl,
        ),
        grind (arith, nat_tests),
      )

  step_by : (w : UnboundedWorld T) (s : Scene T) (step : Step T) → Tied w s → Goes w s (moments w step) (stepped w step)
  step_by w s (Begin p call) tied = grind (arith, nat_tests, begin_by)
  step_by w s (Go p) tied = go_by w s p (w.places p) tied refl

  runs : (steps : List (Step T)) (w : UnboundedWorld T) (s : Scene T) → Tied w s → Goes w s (trace steps w) (run steps w)
  runs [] w s tied = (s, refl, tied)
  runs (step ∷ steps) w s tied =
      let one = step_by w s step tied in
      let rest = runs steps (stepped w step) one.0 one.2 in
      (rest.0, grind (arith, nat_tests), rest.2)

  new_tied : Tied new_chain new_scene
  new_tied = grind (arith, nat_tests)

  pub a_chain_is_a_queue : (steps : List (Step T)) → IsClosableQueue steps
  a_chain_is_a_queue steps = let r = runs steps new_chain new_scene new_tied in
      record { last = r.0; is_run = r.1; queue = r.2.queue; rest = r.2.rest }
