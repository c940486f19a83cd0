-- What came back before is so still, where nothing more did or what did is lost.
use Rattle.std.proofs.Common.{◌≡◌, ◌∙◌, ap, Ok, Some, ◌++◌, [], ◌∷◌, List, true, false, is_ok, if◌then◌else◌, subst, sym}
use Rattle.std.proofs.Math.Logic.{∥∥₁_map}
use Rattle.jobs.specs.Bringing.{given_by}
use Rattle.async_task.specs.declared.poll.Poll.TheVariants.{Ready}
use Rattle.jobs.specs.declared.job.Solved.{Solved}
use Rattle.jobs.proofs.brought.Log.bring.Goals as goal

pub invariant_of-self : goal.invariant_of-self
invariant_of-self g c =
    record { theirs = ∥∥₁_map c.args.self.now.theirs (λ had. c.bring.ensures.kept c.args.self.now.solved.items had) }

pub invariant_of-self-in-Ready-Err : goal.invariant_of-self-in-Ready-Err
invariant_of-self-in-Ready-Err g c =
    record { theirs = ∥∥₁_map c.args.self.now.theirs (λ had. c.bring.ensures.kept c.args.self.now.solved.items had) }

pub invariant_of-self-in-Ready-Ok-None : goal.invariant_of-self-in-Ready-Ok-None
invariant_of-self-in-Ready-Ok-None g c =
    record { theirs = ∥∥₁_map c.args.self.now.theirs (λ had. c.bring.ensures.kept c.args.self.now.solved.items had) }

pub invariant_of-self-in-Ready-Ok-Some : goal.invariant_of-self-in-Ready-Ok-Some
invariant_of-self-in-Ready-Ok-Some g c =
    let had = c.args.self.now.solved.items in
    let more = had ++ c.in-Ready-Ok-Some.solved ∷ [] in
    let Came : List Solved → Type 0 = λ solved. ∥ g.D.Desk.has_brought c.bring.new.self solved ∥₁ in
    let is : c.bring.result ≡ Ready (Ok (Some c.in-Ready-Ok-Some.solved)) =
    c.in-Ready-Ok-Some.is ∙ ap Ready (c.in-Ready-Ok-Some.field-0-is ∙ ap Ok c.in-Ready-Ok-Some.field-0-0-is) in
    let one_more : Came more =
    ∥∥₁_map c.args.self.now.theirs (λ came.
    subst (λ gave. g.D.Desk.has_brought c.bring.new.self (had ++ given_by gave)) is (c.bring.ensures.came had came)) in
    let no_more : Came had = ∥∥₁_map c.args.self.now.theirs (λ came. c.bring.ensures.kept had came) in
    let either = elim (is_ok c.push.result) as (λ kept. Came (if kept then more else had)) [ true ↦ one_more | false ↦ no_more ] in
    record { theirs = subst Came (sym c.push.ensures.items) either }
