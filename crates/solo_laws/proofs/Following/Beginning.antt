-- A new executor stands where the new plain scheduler does.
use Rattle.std.proofs.Common.{◌≡◌, ℕ, ◌==◌, if◌then◌else◌, Bool, true, false, not, None, Some, [], map, refl, ap, ◌∙◌, arith}
use Rattle.queue_steps.specs.ClosableQueue.{ClosableQueue}
use Rattle.executor_parts.specs.Sleepers.{Sleepers}
use Rattle.executor_parts.specs.declared.mark.Mark.{Mark}
use Rattle.executor_parts.specs.declared.mark.Mark.TheVariants.{Plain as PlainMark, Urgent}
use Rattle.solo.specs.declared.names.Kind.{Kind}
use Rattle.solo.specs.declared.names.Task.{Task}
use Rattle.solo.specs.declared.names.SoloWaker.{SoloWaker}
use Rattle.solo.specs.declared.owed.Lent.{Lent}
use Rattle.solo.specs.declared.own_queues.Own.{Own}
use Rattle.solo.specs.declared.solo.Solo.{Solo}
use Rattle.solo.specs.OwnQueues.{OwnQueuesValue, queue_of}
use Rattle.solo.specs.Table.{TableValue}
use Rattle.solo.specs.Lines.{line_of, new_lines}
use Rattle.solo.specs.Solo as solo
use Rattle.plain_scheduler.specs.Calls.{new}
use Rattle.solo_laws.specs.Road.{count_of, Follows, apart}
use Rattle.solo_laws.specs.Tabled.{Stands, named, row}

module _ {F T X : Type 0} (name : ℕ → Task) where
  pub begins : (limit : ℕ) (kind : Kind) (is_static : Bool) (s : Solo F T X) → solo.IsNew limit kind s
      → Follows name s (new limit is_static)
  begins limit kind is_static s fresh = record {
    numbered = λ f below. absurd (omega (arith, below));
    tasks = λ f below. absurd (omega (arith, below));
    within = omega arith;
    queued = record {
      lines = λ mark. ap (λ l. (line_of mark l).items) fresh.lines ∙ empty mark;
      unclosed = λ mark. ap (λ l. (line_of mark l).closed) fresh.lines ∙ unclosed mark;
      limit = λ mark. ap (λ l. (line_of mark l).capacity) fresh.lines ∙ long mark;
    };
    once = refl;
    ready = λ f due. absurd cc;
    asleep = record {
      wakers = ap (λ (sleepers : Sleepers (SoloWaker X)). map (λ e. e.1) sleepers.wakers) fresh.sleepers;
      count = ap (λ (sleepers : Sleepers (SoloWaker X)). sleepers.count) fresh.sleepers;
      flag = fresh.notified;
      callers = λ at t is. absurd cc;
    };
    awaiters = λ f t is. absurd cc;
    inside = record {
      lent = λ f has. absurd cc;
      dropping = λ f has. absurd cc;
      lent_once = refl;
      dropping_once = refl;
      callers = λ at t is. absurd cc;
    };
  }
    where
      empty : (mark : Mark) → (line_of mark (new_lines limit)).items ≡ []
      empty PlainMark = refl
      empty Urgent = refl

      unclosed : (mark : Mark) → (line_of mark (new_lines limit)).closed ≡ false
      unclosed PlainMark = refl
      unclosed Urgent = refl

      long : (mark : Mark) → (line_of mark (new_lines limit)).capacity ≡ Some limit
      long PlainMark = refl
      long Urgent = refl

module _ {F T X : Type 0} (its : ℕ → Lent) where
  pub both_begin : (limit : ℕ) (kind : Kind) (is_static : Bool) (s : Solo F T X) → solo.IsNew limit kind s
      → solo.counts kind ≡ not is_static → Stands its s (new limit is_static)
  both_begin limit kind is_static s fresh counted = (
    begins (named its) limit kind is_static s fresh,
    record {
      rows = ap (λ (t : TableValue F). map row t.entries) fresh.table;
      keys_apart = refl;
      limit = ap (λ (t : TableValue F). t.limit) fresh.table;
      accepted = fresh.accepted;
      kind = ap solo.counts fresh.kind_of ∙ counted;
      lent = λ f has. absurd cc;
      dropping = λ f has. absurd cc;
      homes = λ f place below home. absurd (omega (arith, below));
      made = ap (λ (o : OwnQueuesValue). o.made) fresh.runs;
      queues = λ r. ap (λ (o : OwnQueuesValue). queue_of r o.queues) fresh.runs;
      kept = λ r over. refl;
      numbers_apart = ap (λ (o : OwnQueuesValue). apart (map (λ (q : Own). q.number) o.queues)) fresh.runs;
      going = ap (λ (t : TableValue F). t.entries) fresh.going;
      leaving = ap (λ (q : ClosableQueue Task). q.items) fresh.leaving;
      leaving_open = ap (λ (q : ClosableQueue Task). q.closed) fresh.leaving;
      leaving_limit = ap (λ (q : ClosableQueue Task). q.capacity) fresh.leaving;
      few = omega arith;
      unleaked = λ owned. ap (λ (q : ClosableQueue Task). count_of q.accepted) fresh.leaving ∙ none (limit == 1);
    },
  )
    where
      none : (b : Bool) → count_of (if b then None else Some 0) ≡ 0
      none true = refl
      none false = refl
