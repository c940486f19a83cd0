-- For runs_take_futures_in_order.
-- The line of a mark while a run is polled: how a step of the poll changes it, and how steps of others do.
use Rattle.std.proofs.Common.{◌≡◌, ◌⊎◌, ◌∙◌, inl, inr, ℕ, List, [], ◌∷◌, ◌++◌}
use Rattle.std.proofs.Common.{Bool, refl, sym, ap, subst, append_assoc}
use Rattle.std.specs.Prelude.{Option, Some, None}
use Rattle.std.proofs.lemmas.List.Elements.{filter-append}
use Rattle.std.specs.Prelude.{filter}
use Rattle.executor_laws.proofs.Types.{Reply, Op, Step, Mark, QueueOp}
use Rattle.executor_model.specs.{Steps.Machine, Steps.Part, Steps.end_of, Steps.part, Steps.settled, Steps.settled_by, Weights.weigh}
use Rattle.executor_model.specs.{World.World, World.own_of, World.queue_of, Steps.run}
use Rattle.executor_model.proofs.Table.Spawning.{top-last}
use Rattle.executor_laws.proofs.{Reach.LoneSteps.Last, Reach.LoneSteps.from-end, RunReach.RunKeeps.light-last}
use Rattle.executor_laws.proofs.{RunReach.RunKeeps.side-no-end, RunReach.RunSteps.Control, RunReach.RunSteps.side_of, RunOrder.Spans.ahead}
use Rattle.executor_laws.proofs.{RunOrder.Spans.span, RunReach.KeptLines.hand_of, RunReach.KeptLines.ups_in, Turns.LineSteps.with_hand}
use Rattle.executor_laws.proofs.{RunOrder.SpanSteps.Left}
use Rattle.executor_laws.specs.RunOrder.{joined}

-- what is left of the poll: what is about to be taken up, what it has in hand, its own queue and the executor's are this line
pub data InLine (b : ℕ → Bool) (m : Mark) (q : ℕ) (line : List ℕ) (w : World) (os : List Op) : Type 0 where
  going : (c : Op) (side : List Op) → os ≡ c ∷ side → Control q c → weigh side_of side ≡ 0 →
      ahead b m (ups_in side ++ span q c w) w ≡ line → InLine b m q line w os
  over : os ≡ [] → ahead b m (own_of w q) w ≡ line → InLine b m q line w os

ended-span : (q : ℕ) (c : Op) (a : Reply) (w : World) → end_of (Some c) ≡ Some a → own_of w q ≡ span q c w
ended-span q (Op.End r held) a w e = refl
ended-span q _ a w e = absurd (cc)

module _ (b : ℕ → Bool) (m : Mark) where
  abbrev pub LineIn : ℕ → List ℕ → Part → Type 0
  LineIn q line x = InLine b m q line x.world x.todo

  pub settles : (q : ℕ) (line : List ℕ) (p : ℕ) (w : World) (c : Op) (side : List Op) → Control q c → weigh side_of side ≡ 0 →
      ahead b m (ups_in side ++ span q c w) w ≡ line → LineIn q line (settled p w (c ∷ side))
  settles q line p w c side k z t = go (from-end side)
    where
      by-end : (o : Option Reply) → end_of (Some c) ≡ o → side ≡ [] → LineIn q line (settled_by o p w (c ∷ []))
      by-end None i e = going c [] refl k refl
          (subst (λ (os : List Op). ahead b m (ups_in os ++ span q c w) w ≡ line) e t)
      by-end (Some a) i e = over refl
          (ap (λ (ns : List ℕ). ahead b m ns w) (ended-span q c a w i)
          ∙ subst (λ (os : List Op). ahead b m (ups_in os ++ span q c w) w ≡ line) e t)

      go : (side ≡ []) ⊎ Last side → LineIn q line (settled p w (c ∷ side))
      go (inl e) = subst (λ (os : List Op). LineIn q line (settled p w (c ∷ os))) (sym e) (by-end (end_of (Some c)) refl e)
      go (inr l) =
          let k2 : _ = light-last side l.below l.last l.is z in
          let x : settled p w (c ∷ (l.below ++ l.last ∷ [])) ≡ part w (c ∷ (l.below ++ l.last ∷ [])) =
          ap (λ (v : Option Reply). settled_by v p w (c ∷ (l.below ++ l.last ∷ [])))
          (ap end_of (top-last (c ∷ l.below) l.last) ∙ side-no-end l.last k2.1) in
          subst (λ (os : List Op). LineIn q line (settled p w (c ∷ os))) (sym l.is)
          (subst (LineIn q line) (sym x)
          (going c (l.below ++ l.last ∷ []) refl k (subst (λ (os : List Op). weigh side_of os ≡ 0) l.is z)
          (subst (λ (os : List Op). ahead b m (ups_in os ++ span q c w) w ≡ line) l.is t)))

-- a step that takes these up, and puts those behind
pub next-line : (b : ℕ → Bool) (ns taken now line more ends later : List ℕ) → filter b taken ++ ends ≡ now ++ later →
    filter b ns ++ now ≡ line ++ more → filter b (ns ++ taken) ++ ends ≡ line ++ (more ++ later)
next-line b ns taken now line more ends later e i =
    ap (λ (xs : List ℕ). xs ++ ends) (filter-append b ns taken)
    ∙ (append_assoc (filter b ns) (filter b taken) ends
    ∙ (ap (λ (xs : List ℕ). filter b ns ++ xs) e
    ∙ (sym (append_assoc (filter b ns) now later)
    ∙ (ap (λ (xs : List ℕ). xs ++ later) i ∙ append_assoc line more later))))

-- it takes first what is about to be taken up last
pub side-line : (b : ℕ → Bool) (up rest old added now line : List ℕ) → now ≡ old ++ added → filter b (up ++ rest) ++ old ≡ line →
    filter b up ++ (filter b rest ++ now) ≡ line ++ added
side-line b up rest old added now line e i =
    ap (λ (xs : List ℕ). filter b up ++ (filter b rest ++ xs)) e
    ∙ (sym (append_assoc (filter b up) (filter b rest) (old ++ added))
    ∙ (ap (λ (xs : List ℕ). xs ++ (old ++ added)) (sym (filter-append b up rest))
    ∙ (sym (append_assoc (filter b (up ++ rest)) old added) ∙ ap (λ (xs : List ℕ). xs ++ added) i)))

pub no-append : (q : ℕ) (c : Op) → Control q c → (f : ℕ) → c ≡ Op.Queue (QueueOp.Append f) → ⊥
no-append q c k f e = subst (Control q) e k

-- steps of others make the line longer

pub longer : (b : ℕ → Bool) (m : Mark) (ts : List Step) (s : Machine) (xs line : List ℕ) → Left m ts s →
    ahead b m xs s.world ≡ line → ahead b m xs (run ts s).world ≡ line ++ joined m ts s
longer b m ts s xs line k e =
    ap (λ (ns : List ℕ). filter b xs ++ ns) k.queue
    ∙ (sym (append_assoc (filter b xs) (queue_of s.world m).items (joined m ts s))
    ∙ ap (λ (ns : List ℕ). ns ++ joined m ts s) e)

pub later-line : (b : ℕ → Bool) (m : Mark) (q : ℕ) (line : List ℕ) (ts : List Step) (s : Machine) (os : List Op) → Left m ts s →
    InLine b m q line s.world os → InLine b m q (line ++ joined m ts s) (run ts s).world os
later-line b m q line ts s os k (going c side e z x i) = going c side e z x
    (ap (λ (ns : List ℕ). ahead b m (ups_in side ++ (hand_of c ++ with_hand c ns)) (run ts s).world) (k.own q)
    ∙ longer b m ts s (ups_in side ++ span q c s.world) line k i)
later-line b m q line ts s os k (over e i) = over e
    (ap (λ (ns : List ℕ). ahead b m ns (run ts s).world) (k.own q) ∙ longer b m ts s (own_of s.world q) line k i)
