-- For table_and_queue_agree, no_append_is_refused_full, the_limit_is_exact, drops_come_once, early_drops_have_causes
-- and closing_drops_each_future_once.
-- A future is only polled, dropped or taken out of the table for good inside of a call that uses the executor.
use Rattle.std.proofs.Common.{◌≡◌, ℕ, zero, suc, ◌+◌, ◌<◌, ◌≤◌, List, [], ◌∷◌, ◌++◌, length, set, get_or, Bool, true, false}
use Rattle.std.proofs.Common.{◌||◌, cond, ltb, refl, ap, ◌∙◌, arith}
use Rattle.std.specs.Prelude.{reverse}
use Rattle.executor_model.proofs.Types.{Op, ClosingOp, HandleOp, WakerOp, QueueOp, Move, SleeperOp, TableOp, TickOp, UserOp}
use Rattle.executor_model.specs.{Weights.weigh, Weights.weigh_all, Rows.Row, Rows.borrowing_of, Rows.drops_of, Rows.leaves_of}
use Rattle.executor_model.proofs.Steps.Lists.{same_is, weigh-reverse}
use Rattle.executor_model.proofs.Steps.RunsPlain.{plain-list, plain-run, plain-steal}

-- what is only done inside of such a call
abbrev pub uses_of : Op → ℕ
uses_of (Op.Move Move.TakeUp f) = 1
uses_of (Op.Table (TableOp.TakeToPoll f)) = 1
uses_of (Op.User (UserOp.Poll f)) = 1
uses_of (Op.Table (TableOp.PutBack f)) = 1
uses_of (Op.Move Move.EndPending f) = 1
uses_of (Op.Table (TableOp.TakeToDrop f)) = 1
uses_of (Op.User (UserOp.BeginDrop f)) = 1
uses_of (Op.Table (TableOp.LeaveTable f)) = 1
uses_of _ = 0

abbrev pub holds : Op → Bool
holds o = ltb 0 (borrowing_of o)

-- uses below which nothing in the stack holds the executor
abbrev pub bare : Bool → List Op → ℕ
bare held [] = 0
bare held (o ∷ os) = cond held 0 (uses_of o) + bare (held || holds o) os

abbrev pub held_by : Bool → List Op → Bool
held_by held [] = held
held_by held (o ∷ os) = held_by (held || holds o) os

abbrev pub bare_all : List (List Op) → ℕ
bare_all [] = 0
bare_all (s ∷ ss) = bare false s + bare_all ss

pub bare-append : (b : Bool) (xs ys : List Op) → bare b (xs ++ ys) ≡ bare b xs + bare (held_by b xs) ys
bare-append b [] ys = omega arith
bare-append b (x ∷ xs) ys = omega (arith, bare-append (b || holds x) xs ys)

bare-held : (os : List Op) → bare true os ≡ 0
bare-held [] = refl
bare-held (o ∷ os) = omega (arith, bare-held os)

pub bare-light : (b : Bool) (os : List Op) → bare b os ≤ weigh uses_of os
bare-light b [] = omega arith
bare-light true (o ∷ os) = omega (arith, bare-light true os)
bare-light false (o ∷ os) = omega (arith, bare-light (holds o) os)

-- what it leads to uses the executor only where it is held
pub record Tidy (old next : List Op) : Type 0 where
  pub keeps : bare false (reverse old) ≡ 0 → bare false (reverse next) ≡ 0

pub tidy-light : (old next : List Op) → weigh uses_of next ≡ 0 → Tidy old next
tidy-light old next z =
    record { keeps = λ h. omega (arith, bare-light false (reverse next), weigh-reverse uses_of next, z) }

tidy-at : (b : Bool) (old next : List Op) → Tidy old next → bare b (reverse old) ≡ 0 → bare b (reverse next) ≡ 0
tidy-at true old next t h = bare-held (reverse next)
tidy-at false old next t h = t.keeps h

bare_all-set : (ss : List (List Op)) (p : ℕ) (y : List Op) → p < length ss →
    bare_all (set ss p y) + bare false (get_or ss p []) ≡ bare_all ss + bare false y
bare_all-set [] p y h = absurd (omega arith)
bare_all-set (s ∷ ss) zero y h = omega arith
bare_all-set (s ∷ ss) (suc p) y h = omega (arith, bare_all-set ss p y (omega arith))

pub bare-moved : (ss : List (List Op)) (p : ℕ) (old rest next : List Op) → p < length ss →
    get_or ss p [] ≡ rest ++ reverse old → Tidy old next → bare_all ss ≡ 0 →
    bare_all (set ss p (rest ++ reverse next)) ≡ 0
bare-moved ss p old rest next l e t z =
    let s : bare_all (set ss p (rest ++ reverse next)) + bare false (get_or ss p []) ≡ bare_all ss
    + bare false (rest ++ reverse next) = bare_all-set ss p (rest ++ reverse next) l in
    let q : bare_all (set ss p []) + bare false (get_or ss p []) ≡ bare_all ss + 0 = bare_all-set ss p [] l in
    let o : bare false (get_or ss p []) ≡ bare false rest + bare (held_by false rest) (reverse old) =
    ap (bare false) e ∙ bare-append false rest (reverse old) in
    let n : bare (held_by false rest) (reverse next) ≡ 0 =
    tidy-at (held_by false rest) old next t (omega (arith, o, q, z)) in
    omega (arith, s, q, o, n, z, bare-append false rest (reverse next))

unheld : (o : Op) → borrowing_of o ≡ 0 → holds o ≡ false
unheld o e = ap (ltb 0) e

unheld-go : (b : Bool) (o : Op) (os : List Op) → b ≡ false → bare false os ≡ weigh uses_of os →
    uses_of o + bare b os ≡ uses_of o + weigh uses_of os
unheld-go true o os e ih = absurd (cc)
unheld-go false o os e ih = omega (arith, ih)

unheld-stack : (os : List Op) → weigh borrowing_of os ≡ 0 → bare false os ≡ weigh uses_of os
unheld-stack [] e = refl
unheld-stack (o ∷ os) e = unheld-go (holds o) o os (unheld o (omega (arith, e))) (unheld-stack os (omega (arith, e)))

-- where nothing holds the executor, nothing uses it
pub none-uses : (ss : List (List Op)) → weigh_all borrowing_of ss ≡ 0 → bare_all ss ≡ 0 → weigh_all uses_of ss ≡ 0
none-uses [] e z = refl
none-uses (s ∷ ss) e z =
    omega (arith, unheld-stack s (omega (arith, e)), none-uses ss (omega (arith, e)) (omega (arith, z)), z)

drop-uses : (g : ℕ) (o : Op) → drops_of g o + leaves_of g o ≤ uses_of o
drop-uses g (Op.Table (TableOp.TakeToDrop f)) = grind (arith, same_is)
drop-uses g (Op.User (UserOp.BeginDrop f)) = grind (arith, same_is)
drop-uses g (Op.Table (TableOp.LeaveTable f)) = grind (arith, same_is)
drop-uses g (Op.Move Move.Wake f) = omega arith
drop-uses g (Op.Queue QueueOp.TakeTurn) = omega arith
drop-uses g (Op.Queue (QueueOp.Take look)) = omega arith
drop-uses g (Op.Waker (WakerOp.CopyWaker f held)) = omega arith
drop-uses g (Op.Handle (HandleOp.LookAgain f)) = omega arith
drop-uses g (Op.Sleeper SleeperOp.HandOut) = omega arith
drop-uses g (Op.Tick TickOp.MakeTick) = omega arith
drop-uses g (Op.List o) =
    omega (arith, ap (λ (x : Row). x.drops g) (plain-list o), ap (λ (x : Row). x.leaves g) (plain-list o))
drop-uses g (Op.Steal o) =
    omega (arith, ap (λ (x : Row). x.drops g) (plain-steal o), ap (λ (x : Row). x.leaves g) (plain-steal o))
drop-uses g (Op.Run o) =
    omega (arith, ap (λ (x : Row). x.drops g) (plain-run o), ap (λ (x : Row). x.leaves g) (plain-run o))
drop-uses g (Op.Closing (ClosingOp.Drain mark)) = omega arith
drop-uses g _ = omega arith

drop-uses-stack : (g : ℕ) (os : List Op) → weigh (drops_of g) os + weigh (leaves_of g) os ≤ weigh uses_of os
drop-uses-stack g [] = omega arith
drop-uses-stack g (o ∷ os) = omega (arith, drop-uses g o, drop-uses-stack g os)

pub drop-uses-all : (g : ℕ) (ss : List (List Op)) →
    weigh_all (drops_of g) ss + weigh_all (leaves_of g) ss ≤ weigh_all uses_of ss
drop-uses-all g [] = omega arith
drop-uses-all g (s ∷ ss) = omega (arith, drop-uses-stack g s, drop-uses-all g ss)

bare-idle : (o : Op) → bare false (o ∷ []) ≡ 0 → uses_of o ≡ 0
bare-idle o e = omega (arith, e)
