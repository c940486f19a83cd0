-- How many turns of the executor's two queues each call takes in the executor of one owner.
use Rattle.std.proofs.Common.{◌≡◌, ◌≤◌, ◌+◌, ◌^◌, ◌%◌, ℕ, suc, nat_lt, not, if◌then◌else◌, true, false, List, [], ◌∷◌, ◌++◌}
use Rattle.std.proofs.Common.{Option, Some, None, length, slice_get, refl, sym, ap, ◌∙◌}
use Rattle.solo.specs.declared.names.SoloWaker.{SoloWaker}
use Rattle.solo.specs.declared.names.SoloWaker.TheVariants.{Task as OfTask, Outside}
use Rattle.solo.specs.declared.owed.Lent.{Lent}
use Rattle.solo.specs.declared.runs.Runner.{Runner}
use Rattle.solo.specs.declared.solo.Solo.{Solo}
use Rattle.solo.specs.OwnQueues as own
use Rattle.solo.specs.Cells as cells
use Rattle.solo.specs.Closing as closing
use Rattle.solo.specs.Runs as runs
use Rattle.solo.specs.Solo as solo
use Rattle.solo.specs.Turns as turns
use Rattle.plain_scheduler.specs.State.{Answers, ARun, ATick, Choice, Code, Event, Plain, Refusal, Run, Running, Yes}
use Rattle.plain_scheduler.specs.Lists.{or}
use Rattle.plain_scheduler.specs.Calls.{Call, does, is_granted}
use Rattle.plain_scheduler.specs.Searches.{Search, searches, searches_inside}
use Rattle.plain_scheduler.specs.Turns.{tick_turns, turned_in, turns_of}
use Rattle.plain_scheduler.specs.Usual.{run_turns}
use Rattle.solo_laws.specs.Alike.{cancelled}
use Rattle.solo_laws.specs.Choosing.{SearchesAt}
use Rattle.solo_laws.specs.Counting.{CallsTakeTurns}
use Rattle.solo_laws.specs.Courses as courses
use Rattle.solo_laws.specs.Courses.{Acts, Makes}
use Rattle.solo_laws.specs.Numbered.{ticker_of}
use Rattle.solo_laws.specs.Owner.{Owner}
use Rattle.solo_laws.specs.Road.{wakes}
use Rattle.solo_laws.specs.RunGoing.{IsEnding, RunsOn, Stage, code_at, drop_ends, gives_way, in_try, looks_on, loss_ends, poll_ends}
use Rattle.solo_laws.specs.RunGoing.{taken_by}
use Rattle.solo_laws.specs.RunTaking.{woken_by}
use Rattle.solo_laws.specs.Tabled.{named}
use Rattle.solo_laws.proofs.CallTurns.{after_at, calls_at, cancelled_at, detached_at, drains_at, ends_turn, finished_at, handle_at}
use Rattle.solo_laws.proofs.CallTurns.{leaked_at}
use Rattle.solo_laws.proofs.CallTurns.{pending_at, ready_at, taken_by_at, used_at, woken_at}
use Rattle.solo_laws.proofs.Choices.Searched.{Searched, a_search, acts_searched, goes_sought, no_search}
use Rattle.solo_laws.proofs.Choices.Seeking.{silent}
use Rattle.solo_laws.proofs.Following.Keeping.{keeps}
use Rattle.solo_laws.proofs.Choices.RunTurns.{searches_turn}
use Rattle.solo_laws.proofs.Following.TickTurns.{later_turns, refused_turns, rested_turns, taken_turns}
use Rattle.solo_laws.proofs.Showing.Courses.{Known, led_known, tick_room}
use Rattle.solo_laws.proofs.Turning.{let_go_at, scheduled_at, searched_turn, tick_left_at}

-- where no run searches
abbrev pub plain_turns : {T A : Type 0} → Refusal → Plain T A → Call T A → ℕ
plain_turns r p Call.TryTick = 1
plain_turns r p (Call.PollTick t w) = tick_turns r t p
plain_turns r p _ = 0

module _ {T X : Type 0} (c : Choice) (p : Plain T (SoloWaker X)) where
  abbrev Sought : Call T (SoloWaker X) → Type 0
  Sought call = turns_of wakes c call p ≡ or (searches wakes c call p) (run_turns c.refusal) (plain_turns c.refusal p call)

  -- a call takes those of the search, if there is one
  sought : (call : Call T (SoloWaker X)) → Sought call
  sought Call.TryTick = sym (ap (λ o. or o (run_turns c.refusal) 1) (silent c Call.TryTick (λ code q. refl) p))
  sought (Call.PollTick t w) =
      sym (ap (λ o. or o (run_turns c.refusal) (tick_turns c.refusal t p)) (silent c (Call.PollTick t w) (λ code q. refl) p))
  sought (Call.Spawn mark) = refl
  sought Call.IsEmpty = refl
  sought (Call.Wake f) = refl
  sought (Call.Use f) = refl
  sought (Call.Copy f) = refl
  sought (Call.Release f) = refl
  sought (Call.PollHandle f w) = refl
  sought (Call.Cancel f) = refl
  sought (Call.Detach f) = refl
  sought (Call.DropHandle f) = refl
  sought Call.NewTick = refl
  sought (Call.DropTick t) = refl
  sought Call.NewRun = refl
  sought (Call.PollRun r w) = refl
  sought (Call.DropRun r) = refl
  sought Call.Leak = refl
  sought Call.DropExecutor = refl
  sought Call.Pends = refl
  sought (Call.EndsWith v) = refl
  sought Call.Ends = refl

  -- an end is neither a try nor a tick's poll
  ending : (stage : Stage T (SoloWaker X)) (call : Call T (SoloWaker X)) → IsEnding stage call → plain_turns c.refusal p call ≡ 0
  ending stage call (poll_ends f) = refl
  ending stage call (drop_ends f end) = refl
  ending stage call (loss_ends awaiter) = refl

module _ {F T X : Type 0} where
  abbrev PlainTurns : Choice → Plain T (SoloWaker X) → Call T (SoloWaker X) → Solo F T X → Solo F T X → Type 0
  PlainTurns c p call s z = z.lines.turn ≡ turned_in (plain_turns c.refusal p call) s.lines.turn

  makes_turns : (its : ℕ → Lent) (c : Choice) (s z : Solo F T X) (p : Plain T (SoloWaker X)) (call : Call T (SoloWaker X))
      (shown : List (Event T (SoloWaker X))) → Makes its c s p call shown z → PlainTurns c p call s z
  makes_turns its c s z p call shown (courses.spawns mark future spawned y so name granted life few) =
      ap (λ (y : Solo F T X). y.lines.turn) so.2
      ∙ scheduled_at s.lines.turn spawned.task so.0 (ap (λ (y : Solo F T X). y.lines.turn) so.1.1)
  makes_turns its c s z p call shown (courses.refuses mark future refused y so memory) = ap (λ (y : Solo F T X). y.lines.turn) so.1
  makes_turns its c s z p call shown (courses.takes first life) =
      taken_by_at ((s.lines.turn + 1) % 2 ^ 64) (solo.sought s) (solo.popped s) (searched_turn s.lines)
  makes_turns its c s z p call shown courses.looks = refl
  makes_turns its c s z p call shown (courses.wakes f known life) = woken_at s.lines.turn (named its f) s refl
  makes_turns its c s z p call shown (courses.uses f known life) = used_at s.lines.turn (named its f) s refl
  makes_turns its c s z p call shown (courses.releases f known life) = let_go_at s.lines.turn (named its f) s refl
  makes_turns its c s z p call shown (courses.copies f known refusal) = refl
  makes_turns its c s z p call shown (courses.polls f w known handle names life) =
      handle_at s.lines.turn (is_granted c.refusal) (named its f) w s refl
  makes_turns its c s z p call shown (courses.cancels f known life) = cancelled_at s.lines.turn (named its f) s refl
  makes_turns its c s z p call shown (courses.detaches f known life) = detached_at s.lines.turn (named its f) s refl
  makes_turns its c s z p call shown (courses.drops_handle f known life) =
      detached_at s.lines.turn (named its f) (cancelled (named its f) s) (cancelled_at s.lines.turn (named its f) s refl)
  makes_turns its c s z p call shown (courses.leaks owned life) =
      leaked_at s.lines.turn (length s.table.entries) (closing.leaked s) refl
  makes_turns its c s z p call shown (courses.pends f by rest future one is life) =
      pending_at s.lines.turn (solo.after_poll (its f) s) (its f) future
      (turns.turned (cells.ended_pending (its f).place) (its f).task s) refl
  makes_turns its c s z p call shown (courses.gives f by rest v is) = refl
  makes_turns its c s z p call shown (courses.ends_given f v by rest one is life) =
      after_at s.lines.turn (solo.settle_ready_answer (its f) v s) (solo.settled_ready (its f) v s) (ready_at s.lines.turn (its f) v s refl)
  makes_turns its c s z p call shown (courses.ends_closed f by rest one is life) =
      after_at s.lines.turn (solo.finish_answer (its f) s) (solo.finished (its f) s) (finished_at s.lines.turn (its f) s refl)
  makes_turns its c s z p call shown (courses.loses awaiter by rest one is life) = calls_at s.lines.turn awaiter s refl

  -- the end of what a user's code does to a future that a run took
  ending_turns : (c : Choice) (s z : Solo F T X) (p : Plain T (SoloWaker X)) (stage : Stage T (SoloWaker X)) (call : Call T (SoloWaker X))
      → IsEnding stage call → z.lines.turn ≡ s.lines.turn → PlainTurns c p call s z
  ending_turns c s z p stage call ends still = still ∙ ap (λ k. turned_in k s.lines.turn) (sym (ending c p stage call ends))

  way_turn : (w : SoloWaker X) (y : Solo F T X) → (woken_by w y).lines.turn ≡ y.lines.turn
  way_turn (OfTask task) y = woken_at y.lines.turn task y refl
  way_turn (Outside x) y = refl

module _ {F T X : Type 0} (its : ℕ → Lent) (owner : Owner) (c : Choice) (s : Solo F T X) (p : Plain T (SoloWaker X))
    (known : Known its owner s p) (many : length p.lying ≤ c.tells) where
  -- behind one that it took a run searches again, or lets others go first
  sought_on : (stage : Stage T (SoloWaker X)) (runner : Runner) (w : SoloWaker X) (rest : List (Code T (SoloWaker X)))
      (call : Call T (SoloWaker X)) (shown : List (Event T (SoloWaker X))) (y : Solo F T X)
      → p.inside ≡ code_at stage (Run runner.number w) ∷ rest → IsEnding stage call
      → Makes its c s (in_try stage rest p) call (shown ++ Answers Yes ∷ []) y → owner.gives_way runner.number ≡ false
      → searches wakes c call p ≡ None → ⊥
  sought_on stage runner w rest call shown y is ends how less none =
      let mid : Plain T (SoloWaker X) = record (does wakes c call (in_try stage rest p)) { events = p.events ++ shown } in
      let some : Search T (SoloWaker X) = record { run = runner.number; waker = w; at = mid } in
      let way : nat_lt (taken_by runner.number mid) 200 ≡ true =
      ap (λ rs. nat_lt (or (slice_get rs runner.number) (λ (run : Running). run.taken) 0) 200)
      (keeps its c s (in_try stage rest p) call (shown ++ Answers Yes ∷ []) y how).1.runs
      ∙ (known.tallied.gives_way runner.number ∙ ap not less) in
      let no : ◌≡◌ {A = Option (Search T (SoloWaker X))} (Some some) None =
      sym (goes_sought its owner c s p known many stage runner.number w rest call is ends shown y how
      ∙ ap (λ b. if b then Some some else None) way) ∙ none in
      absurd cc

  -- no run searches
  acts_turns : (now : Owner) (z : Solo F T X) (call : Call T (SoloWaker X)) (shown : List (Event T (SoloWaker X)))
      → Acts its owner c s p call shown now z → searches wakes c call p ≡ None → PlainTurns c p call s z
  acts_turns now z call shown (courses.makes call' shown' z' how) alone = makes_turns its c s z' p call' shown' how
  acts_turns now z call shown (courses.makes_tick t new may) alone = refl
  acts_turns now z call shown (courses.tick_takes t w task lives found first life) alone =
      taken_turns its owner.number s p known.stands known.numbered c t w first task found
  acts_turns now z call shown (courses.tick_rests t w lives found first may names more life) alone =
      rested_turns its owner.number s p known.stands known.numbered c t w first found
      (tick_room its owner s p known.stands known.numbered known.housed t lives) (λ u same. ((names u same).0, (names u same).1.0)) more
      life may
  acts_turns now z call shown (courses.makes_run may few) alone = refl
  acts_turns now z call shown (courses.makes_no_run refused) alone = refl
  acts_turns now z call shown (courses.run_polled runner w going free) alone = refl
  acts_turns now z call shown (courses.over_polled r w over) alone = refl
  acts_turns now z call shown (courses.own_ready r w v rest is) alone = refl
  acts_turns now z call shown (courses.run_looks runner w rest shown' now' z' mine is how) alone =
      let some : Search T (SoloWaker X) = record { run = runner.number; waker = w; at = record p { inside = rest } } in
      let no : ◌≡◌ {A = Option (Search T (SoloWaker X))} (Some some) None =
      sym (ap (λ cs. searches_inside wakes c Call.Pends cs p) is) ∙ alone in
      absurd cc
  acts_turns now z call shown (courses.run_goes_on stage runner w rest call' first more now' y z' mine is ends how goes) alone =
      ending_turns c s z' p stage call' ends (on more now' z' goes ∙ ends_turn its c s y _ stage call' _ ends how)
    where
      mid : Plain T (SoloWaker X)
      mid = record (does wakes c call' (in_try stage rest p)) { events = p.events ++ first }

      on : (more : List (Event T (SoloWaker X))) (now : Owner) (z : Solo F T X) → RunsOn its owner c runner w y mid more now z
          → z.lines.turn ≡ y.lines.turn
      on more now z (looks_on more' now' z' less searching) = absurd (sought_on stage runner w rest call' first y is ends how less alone)
      on more now z (gives_way enough names life) = way_turn w y
  acts_turns now z call shown (courses.run_drops stage r w rest call' first f z' is ends how) alone =
      ending_turns c s z' p stage call' ends (ends_turn its c s z' _ stage call' _ ends how)
  acts_turns now z call shown (courses.run_loses stage r w rest call' first v z' is ends how) alone =
      ending_turns c s z' p stage call' ends (ends_turn its c s z' _ stage call' _ ends how)
  acts_turns now z call shown (courses.run_dropped r going free) alone = refl
  acts_turns now z call shown (courses.over_dropped r over) alone = refl
  acts_turns now z call shown (courses.run_leaves runner answer rest is life) alone =
      drains_at s.lines.turn (suc (own.count_of runner.number s.runs))
      (runs.leave_answer runner (ticker_of owner.number (ARun runner.number) p.lying) s) (runs.left runner s) refl
  acts_turns now z call shown (courses.makes_no_tick refused) alone = refl
  acts_turns now z call shown (courses.tick_refused t w lives found first refused) alone =
      refused_turns its owner.number s p known.stands known.numbered c t w first found refused
  acts_turns now z call shown (courses.tick_lies_refused t w lives found first refused names again more life) alone =
      later_turns its owner.number s p known.stands known.numbered c t w first found
      (tick_room its owner s p known.stands known.numbered known.housed t lives) names more life refused again
  acts_turns now z call shown (courses.tick_leaves t lives life) alone =
      tick_left_at s.lines.turn (ticker_of owner.number (ATick t) p.lying) s refl

  -- or one does
  searches_turns : (x : Search T (SoloWaker X)) (now : Owner) (z : Solo F T X) → SearchesAt its owner c s x now z
      → z.lines.turn ≡ turned_in (run_turns c.refusal x) s.lines.turn
  searches_turns x now z at =
      searches_turn its owner c at.runner x.waker at.before x.at at.stands at.numbered at.listed at.few at.going at.room at.shown now z
      at.searches
      ∙ (ap (λ r. turned_in (run_turns c.refusal (record { run = r; waker = x.waker; at = x.at })) at.before.lines.turn) at.number
      ∙ ap (turned_in (run_turns c.refusal x)) at.turn)

  pub call_turns : (now : Owner) (z : Solo F T X) (call : Call T (SoloWaker X)) (shown : List (Event T (SoloWaker X)))
      → Acts its owner c s p call shown now z → z.lines.turn ≡ turned_in (turns_of wakes c call p) s.lines.turn
  call_turns now z call shown acts =
      by (acts_searched its owner c s p known many now z call shown acts) (acts_turns now z call shown acts)
      ∙ ap (λ k. turned_in k s.lines.turn) (sym (sought c p call))
    where
      by : (it : Searched its owner c s p call now z) → (searches wakes c call p ≡ None → PlainTurns c p call s z)
          → z.lines.turn
          ≡ turned_in (or (searches wakes c call p) (run_turns c.refusal) (plain_turns c.refusal p call)) s.lines.turn
      by (no_search none same) plainly =
          plainly none
          ∙ ap (λ o. turned_in (or o (run_turns c.refusal) (plain_turns c.refusal p call)) s.lines.turn) (sym none)
      by (a_search x is at) plainly =
          searches_turns x now z at
          ∙ ap (λ o. turned_in (or o (run_turns c.refusal) (plain_turns c.refusal p call)) s.lines.turn) (sym is)

pub calls_take_turns : {F T X : Type 0} → CallsTakeTurns F T X
calls_take_turns its owner c s p now z call shown led many acts =
    call_turns its owner c s p (led_known its owner s p led) many now z call shown acts
