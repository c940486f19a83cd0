-- What a run or tick does in a store with what it has found.
use Rattle.std.proofs.Common.{◌≡◌, ℕ, ◌+◌, ◌==◌, List, [], ◌∷◌, ◌++◌, Bool, true, false, cond, drop, refl, sym, ap, ◌∙◌}
use Rattle.std.specs.Prelude.{Some, reverse, slice_get}
use Rattle.task_moves.specs.declared.moves.owed.Move.TheVariants as move
use Rattle.executor_model.specs.declared.call.Reply.TheVariants as reply
use Rattle.executor_model.specs.declared.op.Op.{Op}
use Rattle.executor_model.specs.declared.op.Op.TheVariants as op
use Rattle.executor_model.specs.declared.op.RunPoll.{RunPoll}
use Rattle.executor_model.specs.declared.op.TickOrRun.{TickOrRun}
use Rattle.executor_model.specs.declared.op.SleeperOp.TheVariants as sleeper_op
use Rattle.executor_model.specs.declared.op.Sleeping.{Sleeping}
use Rattle.executor_model.specs.ActsOfRuns.{counted_by, counted_to, run_by, run_found}
use Rattle.executor_model.specs.ActsOfSleepers.{found_by, held_as, look_tick, look_tick_by}
use Rattle.executor_model.specs.World.{World, Ticker, done, place_of, put_queue, queue_of, run_of}
use Rattle.executor_model.specs.Acts.{mark_in}
use Rattle.executor_model.specs.declared.op.Look.{Look}
use Rattle.queue_steps.specs.ClosableQueue.{taken}
use Rattle.executor_core.specs.Ticks.{is_asleep}
use Rattle.executor_core.specs.Running.{Running, put_in, run_in}
use Rattle.executor_core.specs.declared.store.Store.{Store}
use Rattle.executor_core.specs.WakingUp.{counted, onward, wakes_up}
use Rattle.executor_core.specs.Views.{world_of}
use Rattle.executor_core.proofs.Owing.{reverse_before}
use Rattle.executor_core.proofs.Stealing.{wakes_up-found, with_runs}

-- run r has taken one more task, and counted one more
abbrev pub taken_in : Running → ℕ → Bool → Running
taken_in s r b = put_in s r (record (run_in s r) { taken = cond b 0 ((run_in s r).taken + 1) })

abbrev pub counted_in : Running → ℕ → Bool → Running
counted_in s r b = put_in s r (record (run_in s r) { counted = cond b 0 ((run_in s r).counted + 1) })

module _ (s : Store) (x : RunPoll) (f : ℕ) where
  taken-by : (b : Bool) → world_of (with_runs s (taken_in s.ticks_and_runs.runs x.run b)) ≡ (run_by b (world_of s) x f).world
  taken-by true = refl
  taken-by false = refl

  pub taken-world : (b : Bool) (rs : Running) → b ≡ ((run_of (world_of s) x.run).taken + 1 == 200) →
      rs ≡ taken_in s.ticks_and_runs.runs x.run b → world_of (with_runs s rs) ≡ (run_found (world_of s) x f).world
  taken-world b rs e q = ap (λ (v : Running). world_of (with_runs s v)) q
      ∙ (taken-by b ∙ ap (λ (t : Bool). (run_by t (world_of s) x f).world) e)

  onward-by : (b : Bool) → (run_by b (world_of s) x f).next ≡ op.Move move.TakeUp f ∷ onward b x
  onward-by true = refl
  onward-by false = refl

  pub onward-next : (b : Bool) → b ≡ ((run_of (world_of s) x.run).taken + 1 == 200) →
      (run_found (world_of s) x f).next ≡ op.Move move.TakeUp f ∷ onward b x
  onward-next b e = ap (λ (t : Bool). (run_by t (world_of s) x f).next) (sym e) ∙ onward-by b

  -- the run has counted, and the count was full or not
  pub counted-as : (b t : Bool) → b ≡ ((run_of (world_of s) x.run).counted + 1 == 64) → b ≡ t →
      counted (world_of s) x f ≡ counted_by t (world_of s) x f
  counted-as b t e q = ap (λ (v : Bool). counted_by v (world_of s) x f) (sym e ∙ q)

  pub counted-full : (b : Bool) (rs : Running) → b ≡ true → rs ≡ counted_in s.ticks_and_runs.runs x.run b →
      world_of (with_runs s rs) ≡ counted_to (world_of s) x.run 0
  counted-full b rs t q =
      ap (λ (v : Running). world_of (with_runs s v)) (q ∙ ap (counted_in s.ticks_and_runs.runs x.run) t)

  pub counted-on : (b : Bool) (rs : Running) → b ≡ false → rs ≡ counted_in s.ticks_and_runs.runs x.run b →
      world_of (with_runs s rs) ≡ counted_to (world_of s) x.run ((run_of (world_of s) x.run).counted + 1)
  counted-on b rs t q =
      ap (λ (v : Running). world_of (with_runs s v)) (q ∙ ap (counted_in s.ticks_and_runs.runs x.run) t)

-- who sleeps wakes up before these
pub wakes_up-first : (k : Ticker) (who : TickOrRun) (sleeps : Bool) (more : List Op) → sleeps ≡ is_asleep k →
    found_by k who more ≡ wakes_up sleeps who ++ more
wakes_up-first k who sleeps more e = wakes_up-found k who more ∙ ap (λ (b : Bool). wakes_up b who ++ more) (sym e)

pub found-next : (t n more : List Op) (k : Ticker) (who : TickOrRun) (sleeps : Bool) → sleeps ≡ is_asleep k →
    ((t ++ reverse n) ++ reverse more) ++ reverse (wakes_up sleeps who) ≡ t ++ reverse (found_by k who more ++ n)
found-next t n more k who sleeps e =
    sym (reverse_before (t ++ reverse n) (wakes_up sleeps who) more)
    ∙ (sym (reverse_before t (wakes_up sleeps who ++ more) n)
    ∙ ap (λ (l : List Op). t ++ reverse (l ++ n)) (sym (wakes_up-first k who sleeps more e)))

-- what a tick does once it has found something
abbrev pub ready_ops : Sleeping → ℕ → List Op
ready_ops x f = op.Sleeper sleeper_op.ExchangeFlag ∷ op.Move move.TakeUp f ∷ op.End reply.Ready (held_as x.who) ∷ []

pub first-there : (q : List ℕ) (f : ℕ) → slice_get q 0 ≡ Some f → q ≡ f ∷ drop 1 q
first-there [] f e = absurd (cc)
first-there (x ∷ q) f e = ap (λ (y : ℕ). y ∷ q) (let z : x ≡ f = cc in z)

pub found-tick : (w : World) (x : Sleeping) (look : Look) (f : ℕ) (rest : List ℕ) (sleeps : Bool) →
    (queue_of w (mark_in look)).items ≡ f ∷ rest → sleeps ≡ is_asleep (place_of w x.who) →
    look_tick w x look
    ≡ done (put_queue w (mark_in look) (taken (queue_of w (mark_in look)))) (wakes_up sleeps x.who ++ ready_ops x f)
found-tick w x look f rest sleeps e l =
    ap (λ (q : List ℕ). look_tick_by (place_of w x.who) w look q x) e
    ∙ ap (λ (ops : List Op). done (put_queue w (mark_in look) (taken (queue_of w (mark_in look)))) ops)
    (wakes_up-first (place_of w x.who) x.who sleeps (ready_ops x f) l)
