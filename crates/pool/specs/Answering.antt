-- What a future that sends its output does, and what a refusal hands back.
use Rattle.std.specs.Prelude.{◌≡◌, Option, None}
use Rattle.async_task.specs.declared.poll.Poll.{Poll}
use Rattle.async_task.specs.declared.poll.Poll.TheVariants.{Ready, Pending}
use Rattle.pool.specs.declared.sending.Answering.{Answering}

-- it is ready, and sends no more; or pending, and sends where it did
abbrev pub HasAnswered : {S : Type 0} → Option S → Option S → Poll (Unit {0}) → Type 0
HasAnswered old new (Ready _) = new ≡ None
HasAnswered old new Pending = new ≡ old

-- what comes back is made of the future
abbrev pub HandsBack : {A X K R F : Type 0} → (Answering A X K R → F → Type 0) → A → F → Type 0
HandsBack {A} {X} {K} {R} from_gives future back = (made : Answering A X K R) × (made.future ≡ future) × from_gives made back
