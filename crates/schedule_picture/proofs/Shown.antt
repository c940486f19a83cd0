-- What the moments up to one show, and that one.
use Rattle.std.proofs.Common.{ℕ, ◌+◌, ◌<◌, List, [], ◌∷◌, ◌++◌, ◌≡◌, length, get_or, take, sym, ap, ◌∙◌}
use Rattle.std.proofs.lemmas.List.{take_more}
use Rattle.executor_model.specs.declared.event.Event.{Event}
use Rattle.simulator.specs.declared.moment.Moment.{Moment}
use Rattle.simulator.specs.ScriptText.{happened}
use Rattle.simulator.proofs.Keeping.{happened-append}

pub happened-more : (moments : List Moment) (i : ℕ) (d : Moment) (before after : List Event) → i < length moments →
    before ≡ happened (take i moments) → after ≡ before ++ happened (get_or moments i d ∷ []) →
    after ≡ happened (take (i + 1) moments)
happened-more moments i d before after within so_far one_more =
    one_more
    ∙ ap (λ (es : List Event). es ++ happened (get_or moments i d ∷ [])) so_far
    ∙ sym (happened-append (take i moments) (get_or moments i d ∷ []))
    ∙ ap happened (sym (take_more moments i d within))
