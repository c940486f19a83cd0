-- For spawns_are_limited.
-- Between two steps nobody has a call still to end whose end is all that is left of it. What holds then, and what holds
-- in the middle of a step of one party, where that is still to come.
use Rattle.std.proofs.Common.{◌≡◌, ℕ, ◌<◌, List, [], ◌∷◌, ◌++◌, length, set, Bool, true, false, ltb, refl, ap, arith}
use Rattle.std.proofs.Common.{append-nil, ◌∙◌, subst, get_or-set_same}
use Rattle.std.specs.Prelude.{Option, Some, None, reverse}
use Rattle.std.{proofs.Math.ListN.length-set, proofs.lemmas.Bool.Decides.nat_tests, proofs.lemmas.List.set-set}
use Rattle.executor_model.proofs.Types.{Reply, Event, Hold, Op, Step, StepError, NoSuch}
use Rattle.executor_model.specs.Steps.{Machine, Part, below_top, end_of, part_after, part_refusal, party_of, refusal, run}
use Rattle.executor_model.specs.Steps.{settled_by, stack, step, step_by, stepped, top, unless, with_part}
use Rattle.executor_model.specs.{Good.Good, World.World, World.Done, World.done, World.log}
use Rattle.executor_model.proofs.Steps.Lift.{good-stepped, topped, unsettled}
use Rattle.executor_model.proofs.Steps.Ways.{Made, Way, made}

module _
    (P : Machine → Type 0)
    (Q : Machine → ℕ → Type 0)
    (moves : (s : Machine) (p : ℕ) (old rest : List Op) (d : Done) → Good s → p < length s.parties →
    stack s p ≡ rest ++ reverse old → Way s p old rest d → P s → Q (unsettled s p rest d) p)
    (ends : (s : Machine) (p : ℕ) (a : Reply) (held : Hold) (below : List Op) → p < length s.parties →
    stack s p ≡ below ++ reverse (Op.End a held ∷ []) → Q s p →
    P (unsettled s p below (done (log s.world (Event.CallEnded p a)) [])))
    (stays : (s : Machine) (p : ℕ) → p < length s.parties → end_of (top (stack s p)) ≡ None → Q s p → P s)
  where
    goes-on : (s : Machine) (p : ℕ) (os : List Op) (w : World) (o : Option Op) → p < length s.parties → top os ≡ o →
        end_of o ≡ None → Q (record { world = w; parties = set s.parties p os }) p →
        P (record { world = w; parties = set s.parties p os })
    goes-on s p os w o h e n k =
        let t : Machine = record { world = w; parties = set s.parties p os } in
        let l : p < length t.parties = omega (arith, h, length-set s.parties p os) in
        let q : end_of (top (stack t p)) ≡ None =
        ap (λ (xs : List Op). end_of (top xs)) (get_or-set_same s.parties p os [] h) ∙ (ap end_of e ∙ n) in
        stays t p l q k

    settles : (s : Machine) (p : ℕ) (os : List Op) (w : World) (o : Option Op) → p < length s.parties → top os ≡ o →
        Q (record { world = w; parties = set s.parties p os }) p → P (with_part s p (settled_by (end_of o) p w os))
    settles s p os w None h e k = goes-on s p os w None h e refl k
    settles s p os w (Some (Op.End a held)) h e k =
        let t : Machine = record { world = w; parties = set s.parties p os } in
        let l : p < length t.parties = omega (arith, h, length-set s.parties p os) in
        let q : stack t p ≡ below_top os ++ reverse (Op.End a held ∷ []) = get_or-set_same s.parties p os [] h
        ∙ topped os (Op.End a held) e in
        let n : P (unsettled t p (below_top os) (done (log w (Event.CallEnded p a)) [])) =
        ends t p a held (below_top os) l q k in
        subst (λ (ss : List (List Op)). P (record { world = log w (Event.CallEnded p a); parties = ss }))
        (ap (set (set s.parties p os) p) (append-nil (below_top os)) ∙ set-set s.parties p os (below_top os)) n
    settles s p os w (Some _) h e k = goes-on s p os w _ h e refl k

    made-settles : (s : Machine) (p : ℕ) (x : Part) → p < length s.parties → Good s → Made s p x → P s →
        P (with_part s p x)
    made-settles s p x l good m k =
        subst (λ (y : Part). P (with_part s p y)) m.now
        (settles s p (m.rest ++ reverse m.d.next) m.d.world _ l refl
        (moves s p m.old m.rest m.d good l m.was m.way k))

    there : (b : Bool) (r : Option StepError) → unless b NoSuch r ≡ None → (b ≡ true) × (r ≡ None)
    there true r e = (refl, e)
    there false r e = absurd (cc)

    kept-by : (s : Machine) (t : Step) (r : Option StepError) → refusal s t ≡ r → Good s → P s →
        P (stepped s (step_by r s t))
    kept-by s t (Some e) q good k = k
    kept-by s t None q good k =
        let x : _ = there (ltb (party_of t) (length s.parties))
        (part_refusal s.world s.parties (stack s (party_of t)) t) q in
        made-settles s (party_of t) (part_after s.world (stack s (party_of t)) t) (grind (arith, nat_tests)) good
        (made s t x.1) k

    kept-stepped : (s : Machine) (t : Step) → Good s → P s → P (stepped s (step s t))
    unfolding step
    kept-stepped s t good k = kept-by s t (refusal s t) refl good k

    pub along-settled : (ts : List Step) (s : Machine) → Good s → P s → P (run ts s)
    along-settled [] s good k = k
    along-settled (t ∷ ts) s good k = along-settled ts (stepped s (step s t)) (good-stepped s t good)
        (kept-stepped s t good k)
