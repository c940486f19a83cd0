-- For own_queues_agree.
-- For what a steal may still bring into a run's own queue there are free places, as a run is in one call at most.
use Rattle.std.proofs.Common.{◌≡◌, ◌≢◌, ◌⊎◌, ◌∙◌, ℕ, zero, suc, ◌+◌, ◌-◌, ◌<◌, ◌≤◌, ◌%◌, List, [], ◌∷◌, ◌++◌, length, get_or, set}
use Rattle.std.proofs.Common.{Bool, true, false, ltb, eqb, cond, refl, sym, ap, subst, ⊎_elim, inl, inr, arith}
use Rattle.std.proofs.lemmas.List.{length-append, length-set}
use Rattle.std.{proofs.lemmas.Bool.Decides.nat_tests, specs.Prelude.reverse}
use Rattle.executor_model.proofs.Types.{Reply, Event, Hold, ListOp, Op, RunPoll, Section, Steal, StealOp, Hint}
use Rattle.executor_model.specs.World.{World, Stage, New, Listed, Ended, Done, done, log, own_of, put_own}
use Rattle.executor_model.specs.{Doing.list_act, OwnQueues.HasOwnRoom, OwnQueues.filling_of, Rows.running_of, Steps.Machine, Steps.begun}
use Rattle.executor_model.specs.{Steps.mine, Steps.react, Steps.stack, Steps.top, Weights.same, Weights.weigh, Weights.weigh_all}
use Rattle.executor_model.proofs.OwnQueues.RunsDone.{to_leave, to_walk, walk_ends, walk_on, Deed, keeps, takes, lacks, shares, grows}
use Rattle.executor_model.proofs.OwnQueues.RunsDone.{wakes, lists, deed-act, is_loud, loud, loud-weigh, walks-by, Stole, More}
use Rattle.executor_model.proofs.OwnQueues.RunsDone.{no_more, one_more, Walks, Missing, misses_there, Leads, finds, stole}
use Rattle.executor_model.proofs.Steps.Lists.{same_cases, weigh_all-push}
use Rattle.executor_model.proofs.OwnQueues.OwnCounts.{counts-begun, counts-filling, counts-react}
use Rattle.executor_model.proofs.OwnQueues.RunsAside.{Hull, coat, hull, hull_of}
use Rattle.executor_model.proofs.Steps.Ways.{Way, acted, reacted, called}
use Rattle.executor_model.proofs.{Steps.Lift.split, Steps.Lift.unsettled, OwnQueues.RunsDone.looks}
use Rattle.executor_model.specs.ActsOfRuns as runs

-- how many places run r's own queue has, and room there for k more
abbrev pub places_in : List (List ℕ) → ℕ → ℕ
places_in qs r = cond (ltb r (length qs)) 512 0

abbrev pub HasRoom : List (List ℕ) → ℕ → ℕ → Type 0
HasRoom qs r k = length (get_or qs r []) + k ≤ places_in qs r

-- there is room still where old is done, beside others who use the run m times, and may fill k places, none where
-- they don't use it
pub record KeepsRoom (w : World) (old : List Op) (d : Done) : Type 0 where
  pub on : (r m k n : ℕ) → weigh (running_of r) old + m ≤ 1 → (m ≡ 0 → k ≡ 0) → n ≡ weigh (filling_of r) d.next + k →
      HasRoom w.own r (weigh (filling_of r) old + k) → HasRoom d.world.own r n

-- the own queues stay, or get shorter, and no more may be filled
pub record Shorter (w v : World) : Type 0 where
  pub own : (r : ℕ) → length (own_of v r) ≤ length (own_of w r)
  pub count : length v.own ≡ length w.own

pub same-own : (w v : World) → w.own ≡ v.own → Shorter w v
same-own w v e = record {
  own = λ r. omega (arith, ap (λ (qs : List (List ℕ)). length (get_or qs r [])) e);
  count = ap (λ (qs : List (List ℕ)). length qs) (sym e);
}

pub of_hull : (w v : World) → hull w ≡ hull v → Shorter w v
of_hull w v e = same-own w v (ap (λ (h : Hull). h.own) e)

pub of_coat : (w v : World) → coat w ≡ coat v → Shorter w v
of_coat w v e = of_hull w v (ap hull_of e)

pub shorter-and : (w v u : World) → Shorter w v → Shorter v u → Shorter w u
shorter-and w v u a b = record { own = λ r. omega (arith, a.own r, b.own r); count = b.count ∙ a.count }

places-same : (w v : World) (r : ℕ) → length v.own ≡ length w.own → places_in w.own r ≡ places_in v.own r
places-same w v r e = ap (λ (n : ℕ). cond (ltb r n) 512 0) (sym e)

stays : (w : World) (old : List Op) (d : Done) → Shorter w d.world →
    ((r : ℕ) → weigh (filling_of r) d.next ≤ weigh (filling_of r) old) → KeepsRoom w old d
stays w old d s f = record {
  on = λ r m k n u z e h. omega (arith, h, e, f r, s.own r, places-same w d.world r s.count);
}

-- the first of an own queue is taken
taken-first : (qs : List (List ℕ)) (q f : ℕ) (rest : List ℕ) → get_or qs q [] ≡ f ∷ rest → (r : ℕ) →
    length (get_or (set qs q rest) r []) ≤ length (get_or qs r [])
taken-first [] q f rest e r = omega arith
taken-first (x ∷ qs) zero f rest e zero = omega (arith, ap (λ (ys : List ℕ). length ys) e)
taken-first (x ∷ qs) zero f rest e (suc r) = omega arith
taken-first (x ∷ qs) (suc q) f rest e zero = omega arith
taken-first (x ∷ qs) (suc q) f rest e (suc r) = taken-first qs q f rest e r

pub shorter-first : (w : World) (q f : ℕ) (rest : List ℕ) → own_of w q ≡ f ∷ rest → Shorter w (put_own w q rest)
shorter-first w q f rest e = record { own = taken-first w.own q f rest e; count = length-set w.own q rest }

pub shorter-taken : (w v : World) (q f : ℕ) (rest : List ℕ) → own_of w q ≡ f ∷ rest → coat (put_own w q rest) ≡ coat v →
    Shorter w v
shorter-taken w v q f rest e k =
    shorter-and w (put_own w q rest) v (shorter-first w q f rest e) (of_coat (put_own w q rest) v k)

quiet-filling : (r : ℕ) (o : Op) → is_loud o ≡ false → filling_of r o ≡ 0
quiet-filling r (Op.Steal o) e = absurd (cc)
quiet-filling r _ e = refl

-- what follows fills no more
stays-of : (w : World) (o : Op) (d : Done) → Shorter w d.world →
    ((r : ℕ) → weigh (filling_of r) (loud d.next) ≤ filling_of r o) → KeepsRoom w (o ∷ []) d
stays-of w o d s f = stays w (o ∷ []) d s
    (λ r. omega (arith, f r, loud-weigh (filling_of r) (quiet-filling r) d.next))

stole-filling : (r : ℕ) (x : RunPoll) (n : ℕ) (os : List Op) → Stole x n os → weigh (filling_of r) os ≡ 0
stole-filling r x n os (to_walk at left) = refl
stole-filling r x n os to_leave = refl
stole-filling r x n os _ = refl

walks-filling : (r : ℕ) (x : RunPoll) (os : List Op) → Walks x os → weigh (filling_of r) os ≡ 0
walks-filling r x os walk_ends = refl
walks-filling r x os (walk_on q at left) = refl

missing-filling : (r q : ℕ) (o : Op) (os : List Op) → Missing q o os → weigh (filling_of r) os ≡ 0
missing-filling r q o os (misses_there x at left z) = walks-filling r x os z
missing-filling r q o os _ = refl

leads-filling : (r : ℕ) (o : Op) (os : List Op) → Leads o os → weigh (filling_of r) os ≤ filling_of r o
leads-filling r o os (finds x z) = omega (arith, stole-filling r x 0 os z)
leads-filling r o os (stole a z) = omega (arith, stole-filling r _ _ os z)
leads-filling r o _ (looks x at left {os = os} z) = omega (arith, stole-filling r x 0 os z)
leads-filling r o os _ = omega arith

-- of the run's own queue, and of another's
filling-mine : (r q n : ℕ) → (cond (eqb r q) n 0 ≡ n) × (r ≡ q) × (same r q ≡ 1) ⊎ (cond (eqb r q) n 0 ≡ 0) × (r ≢ q)
filling-mine r q n = ⊎_elim
    (λ (x : (same r q ≡ 1) × (eqb r q ≡ true) × (r ≡ q)). inl (ap (λ (b : Bool). cond b n 0) x.1, x.2, x.0))
    (λ (x : (same r q ≡ 0) × (eqb r q ≡ false) × (r ≢ q)). inr (ap (λ (b : Bool). cond b n 0) x.1, x.2))
    (same_cases r q)

more-filling : (r : ℕ) (s : Steal) (k : ℕ) (os : List Op) → More s k os →
    weigh (filling_of r) os ≡ cond (eqb r s.poll.run) k 0
more-filling r s k os (no_more z) = stole-filling r _ _ os z ∙ sym (by (eqb r s.poll.run) 0 refl)
  where
    by : (b : Bool) (i : ℕ) → i ≡ 0 → cond b i 0 ≡ 0
    by true i e = e
    by false i e = refl
more-filling r s k os (one_more j) = by (eqb r s.poll.run)
  where
    by : (b : Bool) → cond b (j + 1) 0 + 0 ≡ cond b (suc j) 0
    by true = omega arith
    by false = omega arith

-- a steal may fill as many places as are free
room-shares : (w : World) (s : Steal) (i k : ℕ) (d : Done) → k ≤ runs.free_places w s.poll.run → Shorter w d.world →
    More s k (loud d.next) → KeepsRoom w (Op.Steal (StealOp.OwnLength s i) ∷ []) d
room-shares w s i k d l h y = record {
  on = λ r m j n u z e g.
      let f = loud-weigh (filling_of r) (quiet-filling r) d.next ∙ more-filling r s k (loud d.next) y in
      let places = places-same w d.world r h.count in ⊎_elim
      (λ (x : (cond (eqb r s.poll.run) k 0 ≡ k) × (r ≡ s.poll.run) × (same r s.poll.run ≡ 1)).
      let none : j ≡ 0 = z (omega (arith, u, x.2)) in
      let free : k ≤ runs.free_places w r = subst (λ (q : ℕ). k ≤ runs.free_places w q) (sym x.1) l in
      omega (arith, e, f, g, x.0, none, free, h.own r, places))
      (λ (x : (cond (eqb r s.poll.run) k 0 ≡ 0) × (r ≢ s.poll.run)). omega (arith, e, f, x.0, g, h.own r, places))
      (filling-mine r s.poll.run k);
}

-- a Put fills one of the places that there are for it

pub grown : (qs : List (List ℕ)) (q f : ℕ) (r : ℕ) → r ≢ q →
    length (get_or (set qs q (get_or qs q [] ++ f ∷ [])) r []) ≡ length (get_or qs r [])
grown [] q f r n = refl
grown (x ∷ qs) zero f zero n = absurd (n refl)
grown (x ∷ qs) zero f (suc r) n = refl
grown (x ∷ qs) (suc q) f zero n = refl
grown (x ∷ qs) (suc q) f (suc r) n = grown qs q f r (λ e. n (ap suc e))

grown-own : (qs : List (List ℕ)) (q f : ℕ) →
    length (get_or (set qs q (get_or qs q [] ++ f ∷ [])) q []) ≤ length (get_or qs q []) + 1
grown-own [] q f = omega arith
grown-own (x ∷ qs) zero f = omega (arith, length-append x (f ∷ []))
grown-own (x ∷ qs) (suc q) f = grown-own qs q f

room-grows : (w : World) (s : Steal) (i f : ℕ) (d : Done) →
    Shorter (put_own w s.poll.run (own_of w s.poll.run ++ f ∷ [])) d.world → More s i (loud d.next) →
    KeepsRoom w (Op.Steal (StealOp.Put s i f) ∷ []) d
room-grows w s i f d h y = record {
  on = λ r m k n u z e g.
      let v = put_own w s.poll.run (own_of w s.poll.run ++ f ∷ []) in
      let count = length-set w.own s.poll.run (own_of w s.poll.run ++ f ∷ []) in
      let places : places_in w.own r ≡ places_in d.world.own r = places-same w d.world r (h.count ∙ count) in
      let now = loud-weigh (filling_of r) (quiet-filling r) d.next ∙ more-filling r s i (loud d.next) y in ⊎_elim
      (λ (x : (cond (eqb r s.poll.run) (i + 1) 0 ≡ i + 1) × (r ≡ s.poll.run) × (same r s.poll.run ≡ 1)).
      let long : length (own_of v r) ≤ length (own_of w r) + 1 =
      subst (λ (q : ℕ). length (own_of v q) ≤ length (own_of w q) + 1) (sym x.1) (grown-own w.own s.poll.run f) in
      let filled : cond (eqb r s.poll.run) i 0 ≤ i = most (eqb r s.poll.run) in
      omega (arith, e, g, x.0, now, long, filled, h.own r, places))
      (λ (x : (cond (eqb r s.poll.run) (i + 1) 0 ≡ 0) × (r ≢ s.poll.run)).
      let unfilled : cond (eqb r s.poll.run) i 0 ≡ 0 = none (eqb r s.poll.run) x.0 in
      omega (arith, e, g, x.0, now, unfilled, grown w.own s.poll.run f r x.1, h.own r, places))
      (filling-mine r s.poll.run (i + 1));
}
  where
    most : (b : Bool) → cond b i 0 ≤ i
    most true = omega arith
    most false = omega arith

    none : (b : Bool) → cond b (i + 1) 0 ≡ 0 → cond b i 0 ≡ 0
    none true l = absurd (omega (arith, l))
    none false l = refl

-- the list

-- a run comes with an own queue, which is empty
pub made-length : (ps : List (List ℕ)) (i : ℕ) → length (get_or (ps ++ [] ∷ []) i []) ≡ length (get_or ps i [])
made-length [] zero = refl
made-length [] (suc i) = refl
made-length (x ∷ ps) zero = refl
made-length (x ∷ ps) (suc i) = made-length ps i

made-room : (qs : List (List ℕ)) (r k : ℕ) → HasRoom qs r k → HasRoom (qs ++ [] ∷ []) r k
made-room qs r k h = omega (arith, h, made-length qs r, made-places qs r)
  where
    made-places : (ps : List (List ℕ)) (i : ℕ) → places_in ps i ≤ places_in (ps ++ [] ∷ []) i
    made-places ps i = by (ltb i (length ps)) (ltb i (length (ps ++ [] ∷ []))) refl refl (length-append ps ([] ∷ []))
      where
        by : (a b : Bool) → ltb i (length ps) ≡ a → ltb i (length (ps ++ [] ∷ [])) ≡ b →
            length (ps ++ [] ∷ []) ≡ length ps + 1 → cond a 512 0 ≤ cond b 512 0
        by true true e q l = omega arith
        by true false e q l = absurd (grind (arith, nat_tests))
        by false b e q l = omega arith

room-make : (b : Bool) (w : World) → KeepsRoom w (Op.List (ListOp.Write Section.MakeRun) ∷ []) (runs.make_run_by b w)
room-make true w = stays w _ _ (same-own w w refl) (λ r. omega arith)
room-make false w = record { on = λ r m k n u z e h. made-room w.own r n (omega (arith, e, h)) }

pub registered-own : (t : Stage) (w : World) (q : ℕ) → w.own ≡ (runs.registered t w q).own
registered-own New w q = refl
registered-own Listed w q = refl
registered-own Ended w q = refl

room-list : (h : Hint) (o : ListOp) (w : World) → KeepsRoom w (Op.List o ∷ []) (list_act h o w)
room-list h (ListOp.Write Section.MakeRun) w = room-make h.refused w
room-list h (ListOp.Write (Section.Register x)) w =
    stays w _ _ (same-own w _ (registered-own _ w x.run)) (λ r. omega arith)
room-list h (ListOp.LockRead x) w = stays-of w _ (runs.lock_read h w x) (same-own w _ refl)
    (λ r. omega (arith, walks-filling r x _ (walks-by x w.listed (h.start % length w.listed) (length w.listed))))
room-list h _ w = stays w _ _ (same-own w _ refl) (λ r. omega arith)

-- each thing that is done
room-deed : (w : World) (o : Op) (d : Done) → Deed w o d → KeepsRoom w (o ∷ []) d
room-deed w o d (keeps e l) = stays-of w o d (of_coat w d.world e) (λ r. leads-filling r o _ l)
room-deed w o d (takes q f rest i e l) = stays-of w o d (shorter-taken w d.world q f rest i e)
    (λ r. leads-filling r o _ l)
room-deed w o d (lacks q i e l) = stays-of w o d (of_coat w d.world e)
    (λ r. omega (arith, missing-filling r q o _ l))
room-deed w o d (shares s i k b e m) = room-shares w s i k d b (of_coat w d.world e) m
room-deed w o d (grows s k f e m) = room-grows w s k f d (of_coat _ d.world e) m
room-deed w o d (wakes p x e z) = stays-of w o d (of_coat w d.world e)
    (λ r. omega (arith, ap (weigh (filling_of r)) z))
room-deed w o d (lists h l) = room-list h l w

room-way : (s : Machine) (p : ℕ) (old rest : List Op) (d : Done) → Way s p old rest d → KeepsRoom s.world old d
room-way s p old rest d (acted h o q z) = rw (z, q) (room-deed s.world o _ (deed-act p h o s.world))
room-way s p old rest d (reacted o u a q z) =
    rw (z, q) (stays s.world (o ∷ []) (react p o u s.world) (of_hull s.world _ (counts-react 0 p o u s.world a).hull)
    (λ r. omega (arith, counts-filling r _ (counts-react r p o u s.world a).counts)))
room-way s p old rest d (called c q r n z) =
    let here = mine (top (stack s p)) in
    rw (z, q) (stays s.world [] (begun p (log s.world (Event.CallBegun p c)) here c)
    (of_hull s.world _ (counts-begun 0 p s.world here c).hull)
    (λ k. omega (arith, counts-filling k _ (counts-begun k p s.world here c).counts)))

-- every step

-- what fills places of a run's own queue uses the run
filling-uses : (r : ℕ) (o : Op) → running_of r o ≡ 0 → filling_of r o ≡ 0
filling-uses r (Op.Steal (StealOp.Take s more)) z = unused r s.poll.run (more + 1) z
  where
    unused : (r q n : ℕ) → same r q ≡ 0 → cond (eqb r q) n 0 ≡ 0
    unused r q n e = ⊎_elim
        (λ (x : (same r q ≡ 1) × (eqb r q ≡ true) × (r ≡ q)). absurd (omega (arith, e, x.0)))
        (λ (x : (same r q ≡ 0) × (eqb r q ≡ false) × (r ≢ q)). ap (λ (b : Bool). cond b n 0) x.1)
        (same_cases r q)
filling-uses r (Op.Steal (StealOp.Put s more f)) z = unused r s.poll.run (more + 1) z
  where
    unused : (r q n : ℕ) → same r q ≡ 0 → cond (eqb r q) n 0 ≡ 0
    unused r q n e = ⊎_elim
        (λ (x : (same r q ≡ 1) × (eqb r q ≡ true) × (r ≡ q)). absurd (omega (arith, e, x.0)))
        (λ (x : (same r q ≡ 0) × (eqb r q ≡ false) × (r ≢ q)). ap (λ (b : Bool). cond b n 0) x.1)
        (same_cases r q)
filling-uses r (Op.Steal (StealOp.Length s)) z = refl
filling-uses r (Op.Steal (StealOp.OwnLength s n)) z = refl
filling-uses r _ z = refl

-- a count is nothing over stacks where another is that it needs
pub needed : (u v : Op → ℕ) → ((o : Op) → u o ≡ 0 → v o ≡ 0) → (ss : List (List Op)) → weigh_all u ss ≡ 0 →
    weigh_all v ss ≡ 0
needed u v few [] z = refl
needed u v few (s ∷ ss) z = omega (arith, one s (omega (arith, z)), needed u v few ss (omega (arith, z)))
  where
    one : (os : List Op) → weigh u os ≡ 0 → weigh v os ≡ 0
    one [] e = refl
    one (o ∷ os) e = omega (arith, few o (omega (arith, e)), one os (omega (arith, e)))

abbrev pub Roomy : Machine → Type 0
Roomy s = (r : ℕ) → HasRoom s.world.own r (weigh_all (filling_of r) s.parties)

-- where each run is in one call at most
pub roomy-moves : (s : Machine) (p : ℕ) (old rest : List Op) (d : Done) → p < length s.parties →
    stack s p ≡ rest ++ reverse old → Way s p old rest d → ((r : ℕ) → weigh_all (running_of r) s.parties ≤ 1) →
    Roomy s →
    Roomy (unsettled s p rest d)
roomy-moves s p old rest d l e way once h r =
    let others = set s.parties p rest in
    (room-way s p old rest d way).on r (weigh_all (running_of r) others) (weigh_all (filling_of r) others) _
    (omega (arith, once r, split (running_of r) s.parties p old rest l e))
    (needed (running_of r) (filling_of r) (filling-uses r) others)
    (weigh_all-push (filling_of r) s.parties p rest d.next l)
    (subst (HasRoom s.world.own r) (split (filling_of r) s.parties p old rest l e) (h r))

pub roomy-ends : (s : Machine) (p : ℕ) (a : Reply) (held : Hold) (below : List Op) → p < length s.parties →
    stack s p ≡ below ++ reverse (Op.End a held ∷ []) → Roomy s →
    Roomy (unsettled s p below (done (log s.world (Event.CallEnded p a)) []))
roomy-ends s p a held below l e h r =
    omega (
      arith,
      h r,
      split (filling_of r) s.parties p (Op.End a held ∷ []) below l e,
      weigh_all-push (filling_of r) s.parties p below [] l,
    )

-- a steal that is on its way finds a free place
pub has-free : (s : Machine) (x : Steal) (more f : ℕ) → HasOwnRoom s x.poll.run →
    filling_of x.poll.run (Op.Steal (StealOp.Put x more f)) ≤ weigh_all (filling_of x.poll.run) s.parties →
    ltb 0 (runs.free_places s.world x.poll.run) ≡ true
has-free s x more f h k =
    let q : ℕ = x.poll.run in
    let same_one : eqb q q ≡ true = grind (arith, nat_tests) in
    let fills : filling_of q (Op.Steal (StealOp.Put x more f)) ≡ more + 1 =
    ap (λ (b : Bool). cond b (more + 1) 0) same_one in
    let free : 1 ≤ runs.own_places s.world q - length (own_of s.world q) = omega (arith, h, fills, k) in
    grind (arith, nat_tests)
