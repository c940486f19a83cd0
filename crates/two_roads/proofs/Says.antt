-- What an act of the machine, and a call of the executor of one owner, say of what they choose, count and turn.
use Rattle.std.specs.Prelude.{◌≡◌, ℕ, true, Some}
use Rattle.executor_parts.specs.Marks.{first_of}
use Rattle.executor_model.specs.declared.op.Waker.{Waker}
use Rattle.executor_model.specs.Steps.{Machine}
use Rattle.executor_model.specs.World.{World, run_of}
use Rattle.solo.specs.declared.names.SoloWaker.{SoloWaker}
use Rattle.solo.specs.declared.solo.Solo.{Solo}
use Rattle.solo.specs.Lines.{mark_of_turn}
use Rattle.plain_scheduler.specs.State.{Choice, Plain}
use Rattle.plain_scheduler.specs.Calls.{Call}
use Rattle.plain_scheduler.specs.Searches.{Search, finds, searches}
use Rattle.plain_scheduler.specs.Turns.{turned_in, turns_of}
use Rattle.plain_scheduler.specs.Usual.{IsUsual, RobsAsUsual, counted_by, turned}
use Rattle.plain_laws.specs.Searches.{looks_first}
use Rattle.machine_roads.specs.View.{Output, wakes as wakes_in}
use Rattle.machine_roads.specs.Within.{Act, start_in}
use Rattle.solo_laws.specs.Counting.{counts_of}
use Rattle.solo_laws.specs.Owner.{Owner}
use Rattle.solo_laws.specs.Road.{wakes}
use Rattle.two_roads.specs.Refusing.{refused_in}

-- so many futures each run of the machine has counted
abbrev pub has_counted : World → ℕ → ℕ
has_counted w r = (run_of w r).counted

pub record ActSays (s : Machine) (a : Act) (d : Choice) (made : Call Output Waker) (q : Plain Output Waker) : Type 0 where
  pub first : looks_first made ≡ true → d.first ≡ first_of s.world.urgent_turns
  pub usual : IsUsual wakes_in d (first_of s.world.urgent_turns) (has_counted s.world) made q
  -- a run that robs looks for whom in the list of queues, from where the act reads that
  pub robs : (x : Search Output Waker) → searches wakes_in d made q ≡ Some x → finds x ≡ true
      → RobsAsUsual wakes_in d s.world.listed (start_in s a) x
  pub counted : (k : ℕ) → has_counted a.left.world k ≡ counted_by wakes_in d made q (has_counted s.world) k
  pub turned : a.left.world.urgent_turns
      ≡ turned (turns_of wakes_in (record d { refusal = refused_in s a }) made q) s.world.urgent_turns

pub record CallSays {F T X : Type 0} (c : Choice) (before behind : Owner) (s z : Solo F T X) (call : Call T (SoloWaker X))
    (p : Plain T (SoloWaker X)) : Type 0 where
  pub first : looks_first call ≡ true → c.first ≡ mark_of_turn s.lines.turn
  pub usual : IsUsual wakes c (mark_of_turn s.lines.turn) (counts_of before) call p
  pub counted : (k : ℕ) → counts_of behind k ≡ counted_by wakes c call p (counts_of before) k
  pub turned : z.lines.turn ≡ turned_in (turns_of wakes c call p) s.lines.turn
