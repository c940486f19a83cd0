-- The runs' own queues.
use Rattle.std.specs.Prelude.{ℕ, ◌+◌, ◌-◌, ◌^◌, ◌==◌, min, nat_lt, List, [], ◌∷◌, ◌++◌, length, position, remove}
use Rattle.std.specs.Prelude.{slice_get, slice_set, Option, Some, None}
use Rattle.std.specs.List.{swap}
use Rattle.solo.specs.declared.names.Task.{Task}
use Rattle.solo.specs.declared.own_queues.Own.{Own}
use Rattle.solo.specs.Cells.{choose}

pub record OwnQueuesValue : Type 0 where
  -- first those that other runs look at, in the order in which their runs were first polled
  pub queues : List Own
  -- how many those are
  pub listed : ℕ
  -- how many runs were made
  pub made : ℕ

-- one more; a count stays at its greatest number
abbrev pub one_more : ℕ → ℕ
one_more n = min (n + 1) (2 ^ 64 - 1)

abbrev pub none : OwnQueuesValue
none = record { queues = []; listed = 0; made = 0 }

-- where the queue of a run is
abbrev pub place_of : ℕ → List Own → Option ℕ
place_of number queues = position (λ own. own.number == number) queues

abbrev pub queue_in : Option Own → Option (List Task)
queue_in None = None
queue_in (Some own) = Some own.queue

abbrev pub queue_at : Option ℕ → List Own → Option (List Task)
queue_at None queues = None
queue_at (Some at) queues = queue_in (slice_get queues at)

-- the queue of a run, if it has one
abbrev pub queue_of : ℕ → List Own → Option (List Task)
queue_of number queues = queue_at (place_of number queues) queues

abbrev pub first_in : Option (List Task) → Option Task
first_in None = None
first_in (Some tasks) = slice_get tasks 0

-- the first task of a run's queue
abbrev pub first_of : ℕ → OwnQueuesValue → Option Task
first_of number o = first_in (queue_of number o.queues)

abbrev pub count_in : Option (List Task) → ℕ
count_in None = 0
count_in (Some tasks) = length tasks

abbrev pub count_of : ℕ → OwnQueuesValue → ℕ
count_of number o = count_in (queue_of number o.queues)

abbrev pub free_in : Option (List Task) → ℕ
free_in None = 0
free_in (Some tasks) = 512 - length tasks

-- how many of its 512 places are free
abbrev pub free_of : ℕ → OwnQueuesValue → ℕ
free_of number o = free_in (queue_of number o.queues)

abbrev pub number_in : Option Own → ℕ
number_in None = 0
number_in (Some own) = own.number

abbrev pub number_at : ℕ → List Own → ℕ
number_at at queues = number_in (slice_get queues at)

abbrev pub length_in : Option Own → Option ℕ
length_in None = None
length_in (Some own) = Some (length own.queue)

-- how many tasks the queue at this place has, if others look at it
abbrev pub length_at : ℕ → OwnQueuesValue → Option ℕ
length_at at o = choose (nat_lt at o.listed) (length_in (slice_get o.queues at)) None

-- a task comes last, where there is a place
abbrev pub pushed : Task → List Task → List Task
pushed task tasks = choose (nat_lt (length tasks) 512) (tasks ++ task ∷ []) tasks

abbrev pub changed_in : (List Task → List Task) → Option Own → ℕ → List Own → List Own
changed_in f None at queues = queues
changed_in f (Some own) at queues = slice_set queues at (record own { queue = f own.queue })

abbrev pub changed_at : (List Task → List Task) → Option ℕ → OwnQueuesValue → OwnQueuesValue
changed_at f None o = o
changed_at f (Some at) o = record o { queues = changed_in f (slice_get o.queues at) at o.queues }

-- the queue of a run is changed, if it is there
abbrev pub changed : (List Task → List Task) → ℕ → OwnQueuesValue → OwnQueuesValue
changed f number o = changed_at f (place_of number o.queues) o

-- one more, at which nobody looks
abbrev pub opened : OwnQueuesValue → OwnQueuesValue
opened o = record o { queues = o.queues ++ record { number = o.made; queue = [] } ∷ []; made = one_more o.made }

abbrev pub listed_at : Option ℕ → OwnQueuesValue → OwnQueuesValue
listed_at None o = o
listed_at (Some at) o = choose (nat_lt at o.listed) o (record o { queues = swap o.queues o.listed at; listed = o.listed + 1 })

-- a run's queue comes last among those that others look at
abbrev pub listed : ℕ → OwnQueuesValue → OwnQueuesValue
listed number o = listed_at (place_of number o.queues) o

abbrev pub closed_at : Option ℕ → OwnQueuesValue → OwnQueuesValue
closed_at None o = o
closed_at (Some at) o =
    record o { queues = remove o.queues at; listed = choose (nat_lt at o.listed) (o.listed - 1) o.listed }

-- a run's queue goes, and the rest keep their order
abbrev pub closed : ℕ → OwnQueuesValue → OwnQueuesValue
closed number o = closed_at (place_of number o.queues) o
