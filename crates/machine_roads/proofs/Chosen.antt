-- What a call chooses as it searches: from what the search tells of the world at it, which is in this as the one that the call began in.
use Rattle.std.proofs.Common.{◌≡◌, ◌==◌, ◌&&◌, ℕ, nat_lt, Bool, true, false, List, [], ◌∷◌, if◌then◌else◌, Option, Some, None, is_some}
use Rattle.std.proofs.Common.{slice_get, refl, sym, ap, subst, ◌∙◌}
use Rattle.executor_parts.specs.Marks.{first_of}
use Rattle.executor_model.specs.declared.op.Waker.{Waker}
use Rattle.executor_model.specs.World.{World}
use Rattle.plain_scheduler.specs.State.{Choice, Code, Later, Plain, Run, Taker}
use Rattle.plain_scheduler.specs.Lists.{any, or}
use Rattle.plain_scheduler.specs.Moves.{is_due, is_kept}
use Rattle.plain_scheduler.specs.Calls.{Call, PollTick, TryTick}
use Rattle.plain_scheduler.specs.Searches.{Search, finds, searches, searches_in, searches_inside, searches_of}
use Rattle.plain_scheduler.specs.Turns.{turns_of}
use Rattle.plain_scheduler.specs.Usual.{IsKeptByOthers, RobsAsUsual, TakesAsUsual, one_counted, run_turns, turned}
use Rattle.machine_roads.specs.View.{Output, wakes}
use Rattle.machine_roads.specs.Choosing.{Chooses, has_counted}
use Rattle.machine_roads.specs.Refused.{OneMoreLies}
use Rattle.machine_roads.proofs.Lists.{clash}
use Rattle.machine_roads.proofs.RunsOn.{Searched, search_at}
use Rattle.machine_roads.proofs.Still.{Still}

abbrev the : Search Output Waker → Option (Search Output Waker) → Search Output Waker
the x o = or o (λ y. y) x

-- a run that has taken fewer than 200 searches
pub searches_so : (c : Choice) (r : ℕ) (a : Waker) (b : Plain Output Waker) (taker : Taker Waker) → taker ≡ Run r a
    → nat_lt (or (slice_get b.runs r) (λ run. run.taken) 0) 200 ≡ true → searches_of wakes c taker b ≡ Some (search_at r a b)
searches_so c r a b taker is few =
    ap (λ t. searches_of wakes c t b) is ∙ ap (λ b0. if b0 then Some (search_at r a b) else None) few

-- tries and polls of ticks
abbrev pub looks_first : Call Output Waker → Bool
looks_first TryTick = true
looks_first (PollTick t a) = true
looks_first call = false

-- but for the ends of user code
pub inside_none : (d : Choice) (x : Call Output Waker) (q : Plain Output Waker)
    → ((code : Code Output Waker) (q : Plain Output Waker) → searches_in wakes d x code q ≡ None) → (codes : List (Code Output Waker))
    → searches_inside wakes d x codes q ≡ None
inside_none d x q none [] = refl
inside_none d x q none (code ∷ codes) = none code (record q { inside = codes })

-- a call in which a run searches takes the turns of that, and another none
sought_turns : (d : Choice) (q : Plain Output Waker) (call : Call Output Waker) (x : Search Output Waker) → searches wakes d call q ≡ Some x
    → turns_of wakes d call q ≡ run_turns d.refusal x
sought_turns d q TryTick x is = absurd (clash (ap is_some (inside_none d TryTick q (λ code q. refl) q.inside)) (ap is_some is))
sought_turns d q (PollTick t a) x is =
    absurd (clash (ap is_some (inside_none d (PollTick t a) q (λ code q. refl) q.inside)) (ap is_some is))
sought_turns d q call x is = ap (λ o. or o (run_turns d.refusal) 0) is

pub unsought_turns : (d : Choice) (q : Plain Output Waker) (call : Call Output Waker) → looks_first call ≡ false
    → searches wakes d call q ≡ None → turns_of wakes d call q ≡ 0
unsought_turns d q TryTick none is = absurd cc
unsought_turns d q (PollTick t a) none is = absurd cc
unsought_turns d q call none is = ap (λ o. or o (run_turns d.refusal) 0) is

module _ (w v : World) (call : Call Output Waker) (q : Plain Output Waker) (d : Choice) where
  -- from whatever starting word
  abbrev pub ChoosesAnyhow : Type 0
  ChoosesAnyhow = (start : ℕ) → Chooses start w v d call q

  pub found_so : (start : ℕ) (u : World) (r : ℕ) (a : Waker) (b z : Plain Output Waker) → Still w u
      → searches wakes d call q ≡ Some (search_at r a b) → Searched start r a u b d v z → Chooses start w v d call q
  found_so start u r a b z still is so = record {
    usual = λ x its due.
        subst (λ x. TakesAsUsual wakes d (first_of w.urgent_turns) (has_counted w x.run) x) (same x its)
        (subst (λ n. TakesAsUsual wakes d (first_of n) (has_counted w r) (search_at r a b)) still.turn
        (subst (λ n. TakesAsUsual wakes d (first_of u.urgent_turns) n (search_at r a b)) (still.counted r)
        (so.usual (ap finds (same x its) ∙ due))));
    robs = λ x its due.
        subst (λ x. RobsAsUsual wakes d w.listed start x) (same x its)
        (subst (λ ks. RobsAsUsual wakes d ks start (search_at r a b)) still.listed (so.robs (ap finds (same x its) ∙ due)));
    keeper = λ x its due.
        subst (λ (x : Search Output Waker). IsKeptByOthers x.run x.at.due → any (is_kept d.robs) x.at.due ≡ true) (same x its)
        (so.keeper (ap finds (same x its) ∙ due));
    counted = λ k.
        so.counted k
        ∙ (ap (λ n. if (k == r) && any is_due b.due then one_counted n else n) (still.counted k)
        ∙ sym (ap
        (λ (o : Option (Search Output Waker)). or o (λ x. if (k == x.run) && finds x then one_counted (has_counted w k) else has_counted w
        k)
        (has_counted w k)) is));
    turns =
        so.turns
        ∙ (ap (λ n. turned (run_turns d.refusal (search_at r a b)) n) still.turn
        ∙ ap (λ n. turned n w.urgent_turns) (sym (sought_turns d q call (search_at r a b) is)));
  }
    where
      same : (x : Search Output Waker) → searches wakes d call q ≡ Some x → search_at r a b ≡ x
      same x its = ap (the x) (sym is ∙ its)

  -- one more lies behind a search in vain that is refused memory so
  pub later_so : (start : ℕ) (u : World) (r : ℕ) (a : Waker) (b z : Plain Output Waker) → searches wakes d call q ≡ Some (search_at r a b)
      → Searched start r a u b d v z → (y : Search Output Waker) → searches wakes d call q ≡ Some y → finds y ≡ false → d.refusal ≡ Later
      → OneMoreLies y.at z
  later_so start u r a b z is so y its vain later =
      let same : search_at r a b ≡ y = ap (the y) (sym is ∙ its) in
      subst (λ (y : Search Output Waker). OneMoreLies y.at z) same (so.later (ap finds same ∙ vain) later)

  pub none_so : searches wakes d call q ≡ None → ((k : ℕ) → has_counted v k ≡ has_counted w k)
      → v.urgent_turns ≡ turned (turns_of wakes d call q) w.urgent_turns → ChoosesAnyhow
  none_so none stays turns = λ start. record {
    usual = λ x its due. absurd (no_search x its);
    robs = λ x its due. absurd (no_search x its);
    keeper = λ x its due. absurd (no_search x its);
    counted = λ k.
        stays k
        ∙ sym (ap
        (λ (o : Option (Search Output Waker)). or o (λ x. if (k == x.run) && finds x then one_counted (has_counted w k) else has_counted w
        k)
        (has_counted w k)) none);
    turns = turns;
  }
    where
      no_search : (x : Search Output Waker) → searches wakes d call q ≡ Some x → ⊥
      no_search x its = clash (ap is_some none) (ap is_some its)

  -- where none searches in it, and it leaves the turn and the counts
  pub still_so : looks_first call ≡ false → searches wakes d call q ≡ None → ((k : ℕ) → has_counted v k ≡ has_counted w k)
      → v.urgent_turns ≡ w.urgent_turns → ChoosesAnyhow
  still_so other none stays turn =
      none_so none stays (turn ∙ ap (λ n. turned n w.urgent_turns) (sym (unsought_turns d q call other none)))
