-- What is so of a machine where both stand alike: the party rests, and where nothing is owed each thing is so that both know.
use Rattle.std.proofs.Common.{◌≡◌, ◌&&◌, ◌||◌, not, ℕ, List, [], ◌∷◌, Bool, true, false, refl, ap, ◌∙◌}
use Rattle.executor_model.specs.declared.op.Op.{Op}
use Rattle.executor_model.specs.declared.op.Op.TheVariants as op
use Rattle.executor_model.specs.declared.op.UserOp.TheVariants as user_op
use Rattle.executor_model.specs.declared.op.Waker.{Waker}
use Rattle.executor_model.specs.World.{Done}
use Rattle.plain_scheduler.specs.State.{Plain}
use Rattle.machine_roads.specs.View.{Output}
use Rattle.machine_roads.specs.Road.{Follows}
use Rattle.machine_roads.specs.Alone.{is_resting}
use Rattle.machine_roads.specs.Dropped.{answered as drop_answered, loses}
use Rattle.machine_roads.specs.Within.{IsLeaving, StandsAlike, alike, dropping, forgetting, forgotten, going, listed, losing, owes}
use Rattle.machine_roads.specs.Within.{unlisted}
use Rattle.machine_roads.specs.Within.{untaken}
use Rattle.machine_roads.proofs.DropPlaces.{loss_rests}
use Rattle.machine_roads.proofs.Inmost.{rests_in}
use Rattle.machine_roads.proofs.Lists.{clash}
use Rattle.machine_roads.proofs.LoneRuns.{WalksBy}

-- nothing is asked of what is done
pub walks : WalksBy (λ w os. Unit {0}) (λ s. Unit {0})
walks = record {
  easy = record { ends = λ w r held os. tt; outside = λ w x os. tt };
  gives = λ s p reached there fine os is. tt;
  back = λ ts s new reached made fine. tt;
}

-- where both stand alike the party rests
pub rests_alike : (e : Done) (q : Plain Output Waker) → StandsAlike e q → is_resting e.next ≡ true
rests_alike e q (alike nested follows) = rests_in e.next q.inside nested
rests_alike e q (losing f fs below codes nested stops) = ap (λ os. is_resting os) stops.left
rests_alike e q (going r fs below codes nested stops) =
    ap (λ os. is_resting os) stops.left ∙ loss_rests fs (op.User (user_op.DropOwn r) ∷ stops.rest ∷ below) refl
rests_alike e q (dropping taker final below f b it nested (drop_answered next inside follows)) =
    ap (λ os. is_resting os) next ∙ rests_in below b.inside nested
rests_alike e q (dropping taker final below f b it nested (loses awaiter next inside ending)) = ap (λ os. is_resting os) next
rests_alike e q (untaken taker final below f awaiter g gs codes it nested stops) = ap (λ os. is_resting os) stops.left
rests_alike e q (forgetting taker final below f b it nested stops) = ap (λ os. is_resting os) stops.left
rests_alike e q (forgotten taker final below f g gs codes it nested stops) = ap (λ os. is_resting os) stops.left

owes_going : (r : ℕ) (rest : Op) → IsLeaving r rest → (below : List Op) → owes (op.User (user_op.DropOwn r) ∷ rest ∷ below) ≡ true
owes_going r rest unlisted below = refl
owes_going r rest listed below = refl

-- where a call on the executor may begin nothing is owed
pub owes_none : (a b : Bool) → (not a || (b && false)) ≡ true → a ≡ false
owes_none false b may = refl
owes_none true true may = absurd cc
owes_none true false may = absurd cc

pub follows_here : (e : Done) (q : Plain Output Waker) → StandsAlike e q → owes e.next ≡ false → Follows e.world q
follows_here e q (alike nested follows) even = follows
follows_here e q (losing f fs below codes nested stops) even = absurd (clash even (ap (λ os. owes os) stops.left))
follows_here e q (going r [] below codes nested stops) even =
    absurd (clash even (ap (λ os. owes os) stops.left ∙ owes_going r stops.rest stops.leaving below))
follows_here e q (going r (f ∷ fs) below codes nested stops) even = absurd (clash even (ap (λ os. owes os) stops.left))
follows_here e q (dropping taker final below f b it nested (drop_answered next inside follows)) even = follows
follows_here e q (dropping taker final below f b it nested (loses awaiter next inside ending)) even =
    absurd (clash even (ap (λ os. owes os) next))
follows_here e q (untaken taker final below f awaiter g gs codes it nested stops) even =
    absurd (clash even (ap (λ os. owes os) stops.left))
follows_here e q (forgetting taker final below f b it nested stops) even = absurd (clash even (ap (λ os. owes os) stops.left))
follows_here e q (forgotten taker final below f g gs codes it nested stops) even =
    absurd (clash even (ap (λ os. owes os) stops.left))
