-- For all laws.
-- What stands in the executor's two queues together, and what is kept of each, where the queue of one mark changes.
use Rattle.std.proofs.Common.{◌≡◌, ◌≢◌, ◌⊎◌, inl, inr, ℕ, suc, ◌+◌, ◌≤◌, List, [], ◌∷◌, ◌++◌, length, drop, Bool, true}
use Rattle.std.proofs.Common.{false, ◌||◌, refl, arith, length-append}
use Rattle.queue_steps.specs.ClosableQueue.{ClosableQueue, appended, taken, shut}
use Rattle.executor_parts.specs.Marks.{other}
use Rattle.executor_model.proofs.Types.{Mark, Plain, Urgent}
use Rattle.executor_model.specs.Queues.{Queues, queue_in, with_queue, all_in}
use Rattle.executor_model.specs.{Good.pasts, Sound.times, Weights.past, Weights.same}
use Rattle.executor_model.proofs.Steps.Lists.{pasts-drop, times-append, times-drop}

pub pasts-append : (n : ℕ) (xs ys : List ℕ) → pasts n (xs ++ ys) ≡ pasts n xs + pasts n ys
pasts-append n [] ys = omega arith
pasts-append n (x ∷ xs) ys = omega (arith, pasts-append n xs ys)

length-drop : (f : ℕ) (rest xs : List ℕ) → xs ≡ f ∷ rest → suc (length (drop 1 xs)) ≡ length xs
length-drop f rest xs e = rw e refl

-- the queue of mark m has one more
abbrev pub with_last : Mark → ℕ → Queues → Queues
with_last m f qs = with_queue m (appended (queue_in m qs) f) qs

-- the first is taken from the queue of mark m
abbrev pub without_first_of : Mark → Queues → Queues
without_first_of m qs = with_queue m (taken (queue_in m qs)) qs

-- the queue of mark m is closed
abbrev pub with_shut : Mark → Queues → Queues
with_shut m qs = with_queue m (shut (queue_in m qs)) qs

pub times-all : (g : ℕ) (qs : Queues) → times g (all_in qs) ≡ times g qs.urgent.items + times g qs.plain.items
times-all g qs = times-append g qs.urgent.items qs.plain.items

pub times-last : (g f : ℕ) (m : Mark) (qs : Queues) → times g (all_in (with_last m f qs)) ≡ times g (all_in qs) + same g f
times-last g f Urgent qs = omega (
  arith,
  times-append g (qs.urgent.items ++ f ∷ []) qs.plain.items,
  times-append g qs.urgent.items (f ∷ []),
  times-all g qs,
)
times-last g f Plain qs = omega (
  arith,
  times-append g qs.urgent.items (qs.plain.items ++ f ∷ []),
  times-append g qs.plain.items (f ∷ []),
  times-all g qs,
)

pub times-first : (g f : ℕ) (rest : List ℕ) (m : Mark) (qs : Queues) → (queue_in m qs).items ≡ f ∷ rest →
    same g f + times g (all_in (without_first_of m qs)) ≡ times g (all_in qs)
times-first g f rest Urgent qs e = omega (
  arith,
  times-append g (drop 1 qs.urgent.items) qs.plain.items,
  times-drop g f rest qs.urgent.items e,
  times-all g qs,
)
times-first g f rest Plain qs e = omega (
  arith,
  times-append g qs.urgent.items (drop 1 qs.plain.items),
  times-drop g f rest qs.plain.items e,
  times-all g qs,
)

-- as many stand in one queue at most as in both
pub times-one : (g : ℕ) (m : Mark) (qs : Queues) → times g (queue_in m qs).items ≤ times g (all_in qs)
times-one g Urgent qs = omega (arith, times-all g qs)
times-one g Plain qs = omega (arith, times-all g qs)

pub shut-all : (m : Mark) (qs : Queues) → all_in (with_shut m qs) ≡ all_in qs
shut-all Urgent qs = refl
shut-all Plain qs = refl

pub pasts-all : (n : ℕ) (qs : Queues) → pasts n (all_in qs) ≡ pasts n qs.urgent.items + pasts n qs.plain.items
pasts-all n qs = pasts-append n qs.urgent.items qs.plain.items

pub pasts-last : (n f : ℕ) (m : Mark) (qs : Queues) → pasts n (all_in (with_last m f qs)) ≡ pasts n (all_in qs) + past n f
pasts-last n f Urgent qs = omega (
  arith,
  pasts-append n (qs.urgent.items ++ f ∷ []) qs.plain.items,
  pasts-append n qs.urgent.items (f ∷ []),
  pasts-all n qs,
)
pasts-last n f Plain qs = omega (
  arith,
  pasts-append n qs.urgent.items (qs.plain.items ++ f ∷ []),
  pasts-append n qs.plain.items (f ∷ []),
  pasts-all n qs,
)

pub pasts-first : (n f : ℕ) (rest : List ℕ) (m : Mark) (qs : Queues) → (queue_in m qs).items ≡ f ∷ rest →
    past n f + pasts n (all_in (without_first_of m qs)) ≡ pasts n (all_in qs)
pasts-first n f rest Urgent qs e = omega (
  arith,
  pasts-append n (drop 1 qs.urgent.items) qs.plain.items,
  pasts-drop n f rest qs.urgent.items e,
  pasts-all n qs,
)
pasts-first n f rest Plain qs e = omega (
  arith,
  pasts-append n qs.urgent.items (drop 1 qs.plain.items),
  pasts-drop n f rest qs.plain.items e,
  pasts-all n qs,
)

pub length-all : (qs : Queues) → length (all_in qs) ≡ length qs.urgent.items + length qs.plain.items
length-all qs = length-append qs.urgent.items qs.plain.items

pub length-first : (f : ℕ) (rest : List ℕ) (m : Mark) (qs : Queues) → (queue_in m qs).items ≡ f ∷ rest →
    suc (length (all_in (without_first_of m qs))) ≡ length (all_in qs)
length-first f rest Urgent qs e = omega (
  arith,
  length-append (drop 1 qs.urgent.items) qs.plain.items,
  length-drop f rest qs.urgent.items e,
  length-all qs,
)
length-first f rest Plain qs e = omega (
  arith,
  length-append qs.urgent.items (drop 1 qs.plain.items),
  length-drop f rest qs.plain.items e,
  length-all qs,
)

-- one of them is closed
abbrev pub is_any_shut : Queues → Bool
is_any_shut qs = qs.urgent.closed || qs.plain.closed

pub any-shut : (m : Mark) (qs : Queues) → (queue_in m qs).closed ≡ true → is_any_shut qs ≡ true
any-shut Urgent qs e = rw e refl
any-shut Plain qs e = by qs.urgent.closed
  where
    by : (b : Bool) → (b || qs.plain.closed) ≡ true
    by true = refl
    by false = e

pub any-last : (m : Mark) (f : ℕ) (qs : Queues) → is_any_shut (with_last m f qs) ≡ is_any_shut qs
any-last Urgent f qs = refl
any-last Plain f qs = refl

pub any-first : (m : Mark) (qs : Queues) → is_any_shut (without_first_of m qs) ≡ is_any_shut qs
any-first Urgent qs = refl
any-first Plain qs = refl

-- the queue of a mark that was put there, and of the other one

pub queue-put-same : (m : Mark) (q : ClosableQueue ℕ) (qs : Queues) → queue_in m (with_queue m q qs) ≡ q
queue-put-same Urgent q qs = refl
queue-put-same Plain q qs = refl

pub queue-put-other : (m n : Mark) (q : ClosableQueue ℕ) (qs : Queues) → m ≢ n →
    queue_in n (with_queue m q qs) ≡ queue_in n qs
queue-put-other Urgent Urgent q qs d = absurd (d refl)
queue-put-other Urgent Plain q qs d = refl
queue-put-other Plain Urgent q qs d = refl
queue-put-other Plain Plain q qs d = absurd (d refl)

-- a mark is this one or the other one
pub mark-cases : (m n : Mark) → (n ≡ m) ⊎ (n ≡ other m)
mark-cases Urgent Urgent = inl refl
mark-cases Urgent Plain = inr refl
mark-cases Plain Urgent = inr refl
mark-cases Plain Plain = inl refl

pub closed-last : (m n : Mark) (f : ℕ) (qs : Queues) →
    (queue_in n (with_last m f qs)).closed ≡ (queue_in n qs).closed
closed-last Urgent Urgent f qs = refl
closed-last Urgent Plain f qs = refl
closed-last Plain Urgent f qs = refl
closed-last Plain Plain f qs = refl

pub capacity-last : (m n : Mark) (f : ℕ) (qs : Queues) →
    (queue_in n (with_last m f qs)).capacity ≡ (queue_in n qs).capacity
capacity-last Urgent Urgent f qs = refl
capacity-last Urgent Plain f qs = refl
capacity-last Plain Urgent f qs = refl
capacity-last Plain Plain f qs = refl

pub closed-first : (m n : Mark) (qs : Queues) → (queue_in n (without_first_of m qs)).closed ≡ (queue_in n qs).closed
closed-first Urgent Urgent qs = refl
closed-first Urgent Plain qs = refl
closed-first Plain Urgent qs = refl
closed-first Plain Plain qs = refl

pub capacity-first : (m n : Mark) (qs : Queues) →
    (queue_in n (without_first_of m qs)).capacity ≡ (queue_in n qs).capacity
capacity-first Urgent Urgent qs = refl
capacity-first Urgent Plain qs = refl
capacity-first Plain Urgent qs = refl
capacity-first Plain Plain qs = refl

pub capacity-shut : (m n : Mark) (qs : Queues) → (queue_in n (with_shut m qs)).capacity ≡ (queue_in n qs).capacity
capacity-shut Urgent Urgent qs = refl
capacity-shut Urgent Plain qs = refl
capacity-shut Plain Urgent qs = refl
capacity-shut Plain Plain qs = refl

pub items-shut : (m n : Mark) (qs : Queues) → (queue_in n (with_shut m qs)).items ≡ (queue_in n qs).items
items-shut Urgent Urgent qs = refl
items-shut Urgent Plain qs = refl
items-shut Plain Urgent qs = refl
items-shut Plain Plain qs = refl

-- none grows where one is taken
pub fewer-first : (m n : Mark) (f : ℕ) (rest : List ℕ) (qs : Queues) → (queue_in m qs).items ≡ f ∷ rest →
    length (queue_in n (without_first_of m qs)).items ≤ length (queue_in n qs).items
fewer-first Urgent Urgent f rest qs e = omega (arith, length-drop f rest qs.urgent.items e)
fewer-first Urgent Plain f rest qs e = omega arith
fewer-first Plain Urgent f rest qs e = omega arith
fewer-first Plain Plain f rest qs e = omega (arith, length-drop f rest qs.plain.items e)
