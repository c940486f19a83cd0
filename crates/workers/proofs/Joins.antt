-- Outputs that came of the first tasks of a list.
use Rattle.std.proofs.Common.{◌≡◌, ◌==◌, ◌≤◌, ◌<◌, ◌+◌, ◌∷◌, ◌++◌, [], ℕ, List, Result, Ok, Err, false, length, drop}
use Rattle.std.proofs.Common.{arith, ap, refl, subst, sym, ◌∙◌}
use Rattle.std.proofs.lemmas.Bool.{eqb-false}
use Rattle.std.proofs.lemmas.List.{append-nil, append_assoc, drop_more, length-append, length-drop}
use Rattle.async_task.specs.declared.cell.Identity.{Identity}
use Rattle.async_task.specs.declared.poll.Poll.TheVariants.{Ready}
use Rattle.async_task.specs.declared.task.TaskError.{TaskError}
use Rattle.async_task.specs.declared.task.TaskError.TheVariants.{TaskClosed, NoMemory}
use Rattle.workers.specs.Joining.{HasJoined, HasStepped, HaveCome, HaveComeUntil}

-- one more went from the front
left_then :
    {X : Type 0} (n : ℕ) (tasks left then : List X)
    → left ≡ drop n tasks → 0 < length left → then ≡ drop 1 left → (n < length tasks) × (then ≡ drop (n + 1) tasks)
left_then n tasks [] then is some next = absurd (omega (arith, some))
left_then n tasks (x ∷ rest) then is some next =
    let within : n < length tasks = omega (arith, some, ap length is, length-drop n tasks) in
    (within, next ∙ ap (λ l. drop 1 l) (is ∙ drop_more tasks n x within))

-- at first none came
pub none_came : {T : Type 0} (old : List T) (tasks : List Identity) → HaveCome old tasks old tasks
none_came old tasks = ([], sym (append-nil old), omega arith, refl)

-- the first of those that are left gave its output
pub one_came :
    {T : Type 0} (old new more : List T) (tasks left then : List Identity) (answer : Result T TaskError) (output : T)
    → HaveCome old tasks new left → 0 < length left → HasStepped left then (Ready answer) → answer ≡ Ok output → more ≡ new ++ output ∷ []
    → HaveCome old tasks more then
one_came old new more tasks left then answer output came some step is same =
    let next = subst (λ a. HasStepped left then (Ready a)) is step in
    let both = left_then (length came.0) tasks left then came.3 some next in
    let longer = length-append came.0 (output ∷ []) in (
      came.0 ++ output ∷ [],
      same ∙ ap (λ l. l ++ output ∷ []) came.1 ∙ append_assoc old came.0 (output ∷ []),
      omega (arith, both.0, longer),
      both.1 ∙ ap (λ n. drop n tasks) (sym longer),
    )

-- the first of those that are left has no output to give
pub one_has_none :
    {T : Type 0} (old new : List T) (tasks left then : List Identity)
    → HaveCome old tasks new left → 0 < length left → then ≡ drop 1 left → HaveComeUntil old tasks new then
one_has_none old new tasks left then came some next =
    let both = left_then (length came.0) tasks left then came.3 some next in
    (came.0, came.1, both.0, both.1)

-- nothing more came
pub stays :
    {T : Type 0} (old new same : List T) (tasks left then : List Identity)
    → HaveCome old tasks new left → same ≡ new → then ≡ left → HaveCome old tasks same then
stays old new same tasks left then came is stay = (came.0, is ∙ came.1, came.2, stay ∙ came.3)

-- the task that was polled has none to give, and goes; or there was no memory, and it stays
pub error_came :
    {T : Type 0} (old new : List T) (tasks left then : List Identity) (answer : Result T TaskError) (error : TaskError)
    → HaveCome old tasks new left → 0 < length left → HasStepped left then (Ready answer) → answer ≡ Err error
    → HasJoined old tasks new then (Ready (Err error))
error_came old new tasks left then answer TaskClosed came some step is =
    one_has_none old new tasks left then came some (subst (λ a. HasStepped left then (Ready a)) is step)
error_came old new tasks left then answer NoMemory came some step is =
    stays old new new tasks left then came refl (subst (λ a. HasStepped left then (Ready a)) is step)

-- some are left where that is not none
pub some_left : {X : Type 0} (left : List X) → (length left == 0) ≡ false → 0 < length left
some_left left over = omega (arith, eqb-false (length left) 0 over)
