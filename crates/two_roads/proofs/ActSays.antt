-- What an act of the machine says of what it chooses, counts and turns.
use Rattle.std.proofs.Common.{◌≡◌, nat_lt, Bool, true, false, length, map, refl, sym, ap, subst, ◌∙◌}
use Rattle.executor_model.specs.declared.op.Waker.{Waker}
use Rattle.executor_model.specs.Steps.{Machine}
use Rattle.plain_scheduler.specs.State.{Plain}
use Rattle.plain_scheduler.specs.Turns.{turns_of}
use Rattle.plain_scheduler.specs.Usual.{turned}
use Rattle.machine_roads.specs.Refused.{IsLaterAnew}
use Rattle.machine_roads.specs.Road.{uncalled}
use Rattle.machine_roads.specs.Seeing.{heard_in, shown as shown_alike}
use Rattle.machine_roads.specs.View.{Output, wakes as wakes_in}
use Rattle.machine_roads.specs.Within.{Act, ActsBy, start_in}
use Rattle.two_roads.specs.Refusing.{asks_memory, ends_refused, refused_in, refused_so}
use Rattle.two_roads.proofs.Acted.{first_at, seen_so}
use Rattle.two_roads.proofs.InTurn.{turns_too}
use Rattle.two_roads.proofs.Meant.{takes_begin}
use Rattle.two_roads.proofs.Refusing.{Lie, turns_seen}
use Rattle.two_roads.proofs.Says.{ActSays}

module _ (s : Machine) (q : Plain Output Waker) (a : Act) (r : Plain Output Waker)
    (by : ActsBy s a.party a.first q r a.left.world (start_in s a))
    (lie : Lie s.world q) (seen : heard_in a.left.world.trace ≡ map shown_alike r.events) (lie_then : Lie a.left.world r) where
  -- by what is seen to be refused as by what is
  turns_by : turns_of wakes_in (record by.choice { refusal = refused_in s a }) by.made q ≡ turns_of wakes_in by.choice by.made q
  turns_by = whether (asks_memory wakes_in by.choice q by.made) refl
    where
      whether : (b : Bool) → asks_memory wakes_in by.choice q by.made ≡ b
          → turns_of wakes_in (record by.choice { refusal = refused_in s a }) by.made q ≡ turns_of wakes_in by.choice by.made q
      whether true asks =
          turns_seen by.choice (refused_in s a) by.made q asks
          (subst (λ z. IsLaterAnew by.choice by.made q z) (sym by.so) by.anew)
          (subst
          (λ (z : Plain Output Waker). refused_in s a
          ≡ refused_so (ends_refused z.events) (nat_lt (length (uncalled q.lying)) (length (uncalled z.lying))))
          (sym by.so) (seen_so s a q r lie seen lie_then))
      whether false asks = turns_too wakes_in by.choice (refused_in s a) by.made q asks

  pub act_says : ActSays s a by.choice by.made q
  act_says = record {
    first = λ looks. first_at s.world q by.choice a.first (takes_begin s a.party a.first by.made by.is looks) by.chosen;
    usual = by.chooses.usual;
    robs = by.chooses.robs;
    counted = by.chooses.counted;
    turned = by.chooses.turns ∙ ap (λ n. turned n s.world.urgent_turns) (sym turns_by);
  }
