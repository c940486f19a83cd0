-- For runs_take_futures_in_order.
-- What a run that is polled does leaves the line of a mark as it is: what the run has in hand, what stands in its own queue, and
-- what stands in the executor's queue of the mark.
use Rattle.std.proofs.Common.{◌≡◌, ◌≢◌, ◌∙◌, ℕ, zero, suc, List, [], ◌∷◌, ◌++◌, length, get_or}
use Rattle.std.proofs.Common.{Bool, true, false, refl, sym, ap, subst, arith, append-nil, append_assoc, get_or-set_same}
use Rattle.std.proofs.lemmas.List.{reverse-append}
use Rattle.std.specs.Prelude.{reverse}
use Rattle.std.proofs.lemmas.List.Elements.{filter-append}
use Rattle.std.proofs.Common.{◌<◌, ltb}
use Rattle.std.specs.Prelude.{cond, drop, filter}
use Rattle.queue_steps.specs.ClosableQueue.{taken}
use Rattle.executor_parts.specs.Marks.{same_mark}
use Rattle.executor_laws.proofs.Types.{Look, Plain, Urgent, Move, Op, RunOp, RunPoll, SleeperOp, Source, Common, Own, Steal, StealOp, Then}
use Rattle.executor_laws.proofs.Types.{TickOp, TickOrRun, Mark}
use Rattle.executor_model.specs.{World.queue_of, ActsOfRuns.asleep, ActsOfRuns.counted_by, ActsOfRuns.counted_to, ActsOfRuns.found}
use Rattle.executor_model.specs.{ActsOfRuns.kept_by, ActsOfRuns.run_by, ActsOfRuns.steal_by, ActsOfRuns.steal_length_by}
use Rattle.executor_model.specs.{ActsOfRuns.steal_put_by, ActsOfRuns.steal_take_by, ActsOfRuns.stolen, ActsOfSleepers.found_by}
use Rattle.executor_model.specs.{Doing.steal_act, Weights.weigh, World.Done, World.World, World.done, World.own_of, World.run_of}
use Rattle.executor_model.specs.{ActsOfRuns.free_places, ActsOfRuns.source_of, Queues.Queues, Queues.queue_in, World.put_queue}
use Rattle.executor_model.proofs.Steps.Lists.{weigh-append, weigh-reverse}
use Rattle.executor_laws.proofs.Fewness.FewSides.{ups}
use Rattle.executor_laws.proofs.RunReach.RunSteps.{Control, NotOwn, side_of, steal_of}
use Rattle.executor_laws.proofs.RunReach.KeptLines.{found-side, hand_of, hand_then, no-ups-back, ups_in, ups_in-append}
use Rattle.executor_laws.proofs.Turns.LineSteps.{with_hand}

-- what is taken from a queue stands behind what was before it

same-moved : (b : ℕ → Bool) (f : ℕ) (rest xs items : List ℕ) → items ≡ f ∷ rest → b f ≡ true →
    filter b (xs ++ f ∷ []) ++ drop 1 items ≡ filter b xs ++ items
same-moved b f rest xs items e i =
    ap (λ (ns : List ℕ). ns ++ drop 1 items) (filter-append b xs (f ∷ []))
    ∙ (ap (λ (c : Bool). (filter b xs ++ cond c (f ∷ []) []) ++ drop 1 items) i
    ∙ (ap (λ (ns : List ℕ). (filter b xs ++ f ∷ []) ++ drop 1 ns) e
    ∙ (append_assoc (filter b xs) (f ∷ []) rest ∙ ap (λ (ns : List ℕ). filter b xs ++ ns) (sym e))))

other-moved : (b : ℕ → Bool) (f : ℕ) (xs items : List ℕ) → b f ≡ false → filter b (xs ++ f ∷ []) ++ items ≡ filter b xs ++ items
other-moved b f xs items i =
    ap (λ (ns : List ℕ). ns ++ items) (filter-append b xs (f ∷ [])
    ∙ (ap (λ (c : Bool). filter b xs ++ cond c (f ∷ []) []) i ∙ append-nil (filter b xs)))

pub moved : (b : ℕ → Bool) (m k : Mark) (w : World) (f : ℕ) (rest xs : List ℕ) → (queue_of w k).items ≡ f ∷ rest →
    b f ≡ same_mark m k →
    filter b (xs ++ f ∷ []) ++ (queue_of (put_queue w k (taken (queue_of w k))) m).items ≡ filter b xs ++ (queue_of w m).items
moved b Plain Plain w f rest xs e i = same-moved b f rest xs (queue_of w Plain).items e i
moved b Urgent Urgent w f rest xs e i = same-moved b f rest xs (queue_of w Urgent).items e i
moved b Plain Urgent w f rest xs e i = other-moved b f xs (queue_of w Plain).items i
moved b Urgent Plain w f rest xs e i = other-moved b f xs (queue_of w Urgent).items i

-- what has passed the test of these, and behind it the executor's queue
abbrev pub ahead : (ℕ → Bool) → Mark → List ℕ → World → List ℕ
ahead b m xs w = filter b xs ++ (queue_of w m).items

-- what run q has in hand, and behind it its own queue
abbrev pub span : ℕ → Op → World → List ℕ
span q c w = hand_of c ++ with_hand c (own_of w q)

-- run q goes on with one thing, below others, and the line is this
pub record Lines (b : ℕ → Bool) (m : Mark) (q : ℕ) (line : List ℕ) (d : Done) : Type 0 where
  pub control : Op
  pub side : List Op
  pub is : reverse d.next ≡ control ∷ side
  pub kind : Control q control
  pub light : weigh side_of side ≡ 0
  pub line_is : ahead b m (ups_in side ++ span q control d.world) d.world ≡ line

-- what holds where run q does this: no other own queue has anything, and in each of the executor's queues stand futures of its
-- mark
pub record Facts (b : ℕ → Bool) (m : Mark) (q : ℕ) (c : Op) (w : World) : Type 0 where
  pub none : (n : ℕ) → n ≢ q → own_of w n ≡ []
  pub marked : (k : Mark) (f : ℕ) (rest : List ℕ) → (queue_of w k).items ≡ f ∷ rest → b f ≡ same_mark m k
  pub empty : (x : RunPoll) (look : Look) → c ≡ Op.Run (RunOp.SearchCommon x look) → own_of w x.run ≡ []
  pub known : (o : StealOp) → c ≡ Op.Steal o → (steal_of o).poll.run < length w.own
  pub free : (s : Steal) (more g : ℕ) → c ≡ Op.Steal (StealOp.Put s more g) → ltb 0 (free_places w s.poll.run) ≡ true

module _ (b : ℕ → Bool) (m : Mark) where
  abbrev pub Line : ℕ → List ℕ → Done → Type 0
  Line q line d = Lines b m q line d

  -- what stays of both
  pub ahead-same : (q : ℕ) (w v : World) → v.own ≡ w.own → v.queues ≡ w.queues →
      ahead b m (own_of v q) v ≡ ahead b m (own_of w q) w
  ahead-same q w v o e =
      ap (λ (qs : List (List ℕ)). filter b (get_or qs q []) ++ (queue_of v m).items) o
      ∙ ap (λ (qs : Queues). filter b (own_of w q) ++ (queue_in m qs).items) e

  pub one : (q : ℕ) (v : World) (c : Op) → Control q c → Line q (ahead b m (span q c v) v) (done v (c ∷ []))
  one q v c k = record { control = c; side = []; is = refl; kind = k; light = refl; line_is = refl }

  pub behind-ops : (q : ℕ) (line : List ℕ) (ops : List Op) (d : Done) → weigh side_of ops ≡ 0 → weigh ups ops ≡ 0 →
      Line q line d → Line q line (done d.world (ops ++ d.next))
  behind-ops q line ops d z u h = record {
    control = h.control;
    side = h.side ++ reverse ops;
    is = reverse-append ops d.next ∙ ap (λ (os : List Op). os ++ reverse ops) h.is;
    kind = h.kind;
    light = omega (arith, z, h.light, weigh-append side_of h.side (reverse ops), weigh-reverse side_of ops);
    line_is = ap (λ (ns : List ℕ). ahead b m (ns ++ span q h.control d.world) d.world)
        (ups_in-append h.side (reverse ops) ∙ ap (λ (ns : List ℕ). ns ++ ups_in h.side) (no-ups-back ops u)) ∙ h.line_is;
  }

  pub lines-as : (q : ℕ) (xs ys : List ℕ) (d : Done) → xs ≡ ys → Line q xs d → Line q ys d
  lines-as q xs ys d e h = subst (λ (ns : List ℕ). Line q ns d) e h

  -- what is found is in hand

  lines-run_by : (c : Bool) (w : World) (x : RunPoll) (f : ℕ) → Line x.run (ahead b m (f ∷ own_of w x.run) w) (run_by c w x f)
  lines-run_by true w x f = record {
    control = Op.Run (RunOp.WakeOwn x);
    side = Op.Move Move.TakeUp f ∷ [];
    is = refl;
    kind = refl;
    light = refl;
    line_is = refl;
  }
  lines-run_by false w x f = record {
    control = Op.Tick (TickOp.Search (asleep x));
    side = Op.Move Move.TakeUp f ∷ [];
    is = refl;
    kind = refl;
    light = refl;
    line_is = refl;
  }

  lines-counted : (c : Bool) (w : World) (x : RunPoll) (f : ℕ) →
      Line x.run (ahead b m (f ∷ own_of w x.run) w) (counted_by c w x f)
  lines-counted true w x f = one x.run (counted_to w x.run 0)
      (Op.Steal (StealOp.Length (record { poll = x; from = Common Urgent; then = Then.StealPlain f }))) (refl, refl)
  lines-counted false w x f = lines-run_by _ (counted_to w x.run _) x f

  pub lines-found : (w : World) (x : RunPoll) (f : ℕ) → Line x.run (ahead b m (f ∷ own_of w x.run) w) (found w x f)
  lines-found w x f =
      let s : _ = found-side (run_of w x.run).place (TickOrRun.Run x.run) in
      behind-ops x.run (ahead b m (f ∷ own_of w x.run) w)
      (found_by _ (TickOrRun.Run x.run) (Op.Sleeper SleeperOp.ExchangeFlag ∷ []))
      (counted_by _ w x f) s.0 s.1 (lines-counted _ w x f)

  pub lines-stolen : (t : Then) (w : World) (x : RunPoll) →
      Line x.run (ahead b m (hand_then t ++ own_of w x.run) w) (stolen t w x)
  lines-stolen (Then.Found f) w x = lines-found w x f
  lines-stolen (Then.StealPlain f) w x =
      one x.run w (Op.Steal (StealOp.Length (record { poll = x; from = Common Plain; then = Then.Run f }))) (refl, refl)
  lines-stolen (Then.Run f) w x = lines-run_by _ w x f
  lines-stolen (Then.Walk at left) w x = one x.run w (Op.Run (RunOp.LookOwn x at left)) refl

  -- a steal

  abbrev front_of : World → Steal → List ℕ
  front_of w s = hand_then s.then ++ own_of w s.poll.run

  lines-length : (n : ℕ) (w : World) (s : Steal) → NotOwn s.poll.run s.from →
      Line s.poll.run (ahead b m (front_of w s) w) (steal_length_by n w s)
  lines-length zero w s k = lines-stolen s.then w s.poll
  lines-length (suc n) w s k = one s.poll.run w (Op.Steal (StealOp.OwnLength s (suc n))) (refl, k)

  lines-steal_by : (n : ℕ) (w : World) (s : Steal) → NotOwn s.poll.run s.from →
      Line s.poll.run (ahead b m (front_of w s) w) (steal_by n w s)
  lines-steal_by zero w s k = lines-stolen s.then w s.poll
  lines-steal_by (suc n) w s k = one s.poll.run w (Op.Steal (StealOp.Take s n)) (refl, k)

  lines-take : (from : Source) (xs : List ℕ) (w : World) (x : RunPoll) (t : Then) (more : ℕ) → source_of w from ≡ xs →
      NotOwn x.run from → ((n : ℕ) → n ≢ x.run → own_of w n ≡ []) →
      ((k : Mark) (f : ℕ) (rest : List ℕ) → (queue_of w k).items ≡ f ∷ rest → b f ≡ same_mark m k) →
      Line x.run (ahead b m (hand_then t ++ own_of w x.run) w)
      (steal_take_by xs w (record { poll = x; from = from; then = t }) more)
  lines-take from [] w x t more e k none marked = lines-stolen t w x
  lines-take (Own n) (f ∷ rest) w x t more e k none marked =
      let no : f ∷ rest ≡ [] = sym e ∙ none n k in absurd (cc)
  lines-take (Common i) (f ∷ rest) w x t more e k none marked =
      let v : World = put_queue w i (taken (queue_of w i)) in
      let s : Steal = record { poll = x; from = Common i; then = t } in
      lines-as x.run (ahead b m (hand_then t ++ (own_of w x.run ++ f ∷ [])) v) (ahead b m (hand_then t ++ own_of w x.run) w)
      (steal_take_by (f ∷ rest) w s more)
      (ap (λ (ns : List ℕ). ahead b m ns v) (sym (append_assoc (hand_then t) (own_of w x.run) (f ∷ [])))
      ∙ moved b m i w f rest (hand_then t ++ own_of w x.run) e (marked i f rest e))
      (one x.run v (Op.Steal (StealOp.Put s more f)) (refl, k))

  lines-put : (c : Bool) (p : ℕ) (w : World) (s : Steal) (more f : ℕ) → c ≡ true → s.poll.run < length w.own →
      NotOwn s.poll.run s.from →
      Line s.poll.run (ahead b m (hand_then s.then ++ (own_of w s.poll.run ++ f ∷ [])) w) (steal_put_by c p w s more f)
  lines-put false p w s more f e l k = absurd (cc)
  lines-put true p w s more f e l k =
      let v : World = kept_by p w s.poll.run f in
      lines-as s.poll.run (ahead b m (front_of v s) v) (ahead b m (hand_then s.then ++ (own_of w s.poll.run ++ f ∷ [])) w)
      (steal_by more v s)
      (ap (λ (ns : List ℕ). ahead b m (hand_then s.then ++ ns) w)
      (get_or-set_same w.own s.poll.run (own_of w s.poll.run ++ f ∷ []) [] l))
      (lines-steal_by more v s k)

  pub lines-steal : (p : ℕ) (o : StealOp) (w : World) → NotOwn (steal_of o).poll.run (steal_of o).from →
      Facts b m (steal_of o).poll.run (Op.Steal o) w →
      Line (steal_of o).poll.run (ahead b m (span (steal_of o).poll.run (Op.Steal o) w) w) (steal_act p o w)
  lines-steal p (StealOp.Length s) w k h = lines-length _ w s k
  lines-steal p (StealOp.OwnLength s n) w k h = lines-steal_by _ w s k
  lines-steal p (StealOp.Take s more) w k h = lines-take s.from _ w s.poll s.then more refl k h.none h.marked
  lines-steal p (StealOp.Put s more f) w k h =
      lines-put _ p w s more f (h.free s more f refl) (h.known (StealOp.Put s more f) refl) k
