-- For table_and_queue_agree, no_append_is_refused_full, the_limit_is_exact, drops_come_once, early_drops_have_causes
-- and closing_drops_each_future_once.
-- What tells sleepers, and what a tick does, uses the executor only where it is held.
use Rattle.std.proofs.Common.{◌≡◌, ℕ, List, [], ◌∷◌, refl}
use Rattle.executor_model.proofs.Types.{Look, First, Second, Move, Reply, Op, Sleeping, SleeperOp, TickOp, Hint, TickOrRun}
use Rattle.executor_model.specs.{World.World, World.Ticker, World.Awake, World.Asleep, World.Left, ActsOfSleepers.held_as}
use Rattle.executor_model.specs.{ActsOfSleepers.look_tick_by, Doing.search_by_who, Doing.sleeper_act, Doing.tick_act}
use Rattle.executor_model.proofs.Steps.SleepersNext.{Unseen, sleeper-unseen, Blind, make-blind, copy-blind, sleep-blind}
use Rattle.executor_model.proofs.Table.Borrowing.{uses_of, Tidy, tidy-light}
use Rattle.executor_model.proofs.Table.RunsTidying.{IsHeld, held-after, tidy-held, tidy-search_own}
use Rattle.executor_model.proofs.{Steps.SleepersNext.leave-blind, Steps.SleepersNext.up-blind, Table.Tidying.light-wake}

unseen : Unseen uses_of
unseen = record { hand = refl; call = λ s. refl; outside = λ x. refl; wake = λ p w f. light-wake p w f }

pub tidy-sleeper : (p : ℕ) (o : SleeperOp) (w : World) → Tidy (Op.Sleeper o ∷ []) (sleeper_act p o w).next
tidy-sleeper p o w = tidy-light _ _ (sleeper-unseen uses_of unseen p o w)

blind : Blind uses_of
blind = record {
  tick = no-use;
  exchange = refl;
  returns = refl;
  call = λ s. refl;
  release = λ f. refl;
  end = λ r t. refl;
  made = λ r. refl;
}
  where
    no-use : (o : TickOp) → uses_of (Op.Tick o) ≡ 0
    no-use TickOp.MakeTick = refl
    no-use _ = refl

abbrev ready : TickOrRun → ℕ → List Op
ready who f = Op.Move Move.TakeUp f ∷ Op.End Reply.Ready (held_as who) ∷ []

held-ready : (who : TickOrRun) (f : ℕ) → IsHeld (ready who f)
held-ready (TickOrRun.Tick t) f = refl
held-ready (TickOrRun.Run r) f = refl

tidy-search : (look : Look) (x : Ticker) (w : World) (q : List ℕ) (s : Sleeping) →
    Tidy (Op.Tick (TickOp.Look s look) ∷ []) (look_tick_by x w look q s).next
tidy-search (First mark) x w [] s = tidy-light _ _ refl
tidy-search (Second mark) x w [] s = tidy-light _ _ refl
tidy-search look Awake w (f ∷ rest) s =
    tidy-held _ _ (held-after (Op.Sleeper SleeperOp.ExchangeFlag ∷ []) (ready s.who f) refl (held-ready s.who f))
tidy-search look (Asleep n) w (f ∷ rest) s =
    tidy-held _ _ (held-after (Op.Tick (TickOp.WakeUp s.who) ∷ Op.Sleeper SleeperOp.ExchangeFlag ∷ [])
    (ready s.who f) refl
    (held-ready s.who f))
tidy-search look Left w (f ∷ rest) s =
    tidy-held _ _ (held-after (Op.Sleeper SleeperOp.ExchangeFlag ∷ []) (ready s.who f) refl (held-ready s.who f))

tidy-search_who : (who : TickOrRun) (p : ℕ) (w : World) (s : Sleeping) →
    Tidy (Op.Tick (TickOp.Search s) ∷ []) (search_by_who who p w s).next
tidy-search_who (TickOrRun.Tick t) p w s = tidy-light _ _ refl
tidy-search_who (TickOrRun.Run r) p w s = tidy-search_own _ w (record { run = r; waker = s.waker; poll = s.poll })

pub tidy-tick : (p : ℕ) (h : Hint) (o : TickOp) (w : World) → Tidy (Op.Tick o ∷ []) (tick_act p h o w).next
tidy-tick p h TickOp.MakeTick w = tidy-light _ _ (make-blind uses_of blind _ w)
tidy-tick p h (TickOp.Search s) w = tidy-search_who s.who p w s
tidy-tick p h (TickOp.Look s look) w = tidy-search look _ w _ s
tidy-tick p h (TickOp.CopyWaker s) w = tidy-light _ _ (copy-blind uses_of blind _ w s)
tidy-tick p h (TickOp.FallAsleep s) w = tidy-light _ _ (sleep-blind uses_of blind _ w s)
tidy-tick p h (TickOp.WakeUp t) w = tidy-light _ _ (up-blind uses_of blind _ w t)
tidy-tick p h (TickOp.Leave t) w = tidy-light _ _ (leave-blind uses_of blind _ w t)
