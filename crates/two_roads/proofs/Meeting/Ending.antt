-- Wherever a party rests: the code that it may end is there, and a run that it may use is in no code.
use Rattle.std.proofs.Common.{◌≡◌, ℕ, ◌+◌, ◌==◌, ◌++◌, cond, Bool, true, false, List, [], ◌∷◌, Option, Some, None, is_some}
use Rattle.std.proofs.Common.{refl, sym, ap, subst, ◌∙◌, arith}
use Rattle.std.proofs.lemmas.Bool.Decides.{nat_tests}
use Rattle.executor_model.specs.declared.op.HandleOp.TheVariants as handle_op
use Rattle.executor_model.specs.declared.op.Op.{Op}
use Rattle.executor_model.specs.declared.op.Op.TheVariants as op
use Rattle.executor_model.specs.declared.op.RunPoll.{RunPoll}
use Rattle.executor_model.specs.declared.op.TableOp.TheVariants as table_op
use Rattle.executor_model.specs.declared.op.UserOp.TheVariants as user_op
use Rattle.executor_model.specs.declared.op.Waker.{Waker}
use Rattle.executor_model.specs.declared.step.UserEnd.{UserEnd}
use Rattle.executor_model.specs.declared.step.UserEnd.TheVariants as end
use Rattle.executor_model.specs.Rows.{running_of}
use Rattle.executor_model.specs.Steps.{accepts}
use Rattle.executor_model.specs.Weights.{same, weigh}
use Rattle.executor_model.specs.World.{Done, task}
use Rattle.executor_model.proofs.Steps.Lists.{same_is}
use Rattle.plain_scheduler.specs.State.{Answer, Closed, Code, Done as IsDone, Drop, DropOwn, End, Lose, Plain, Poll, PollOwn, Ready, Taker}
use Rattle.machine_roads.specs.Dropped.{answered as is_answered, loses, rest_of}
use Rattle.machine_roads.specs.InLoss.{loss_codes, loss_ops}
use Rattle.machine_roads.specs.Stopped.{Stopped, answered, drops, drops_given, drops_polled, polls}
use Rattle.machine_roads.specs.View.{Output}
use Rattle.machine_roads.specs.Within.{GoesOnBy, IsLeaving, Nested, StandsAlike, alike, by_run, by_tick, by_try, dropping, drops_own}
use Rattle.machine_roads.specs.Within.{forgetting, forgotten, going, listed, losing, nowhere, polls_own, takes, unlisted, untaken}
use Rattle.machine_roads.proofs.Inmost.{drop, inmost, none, own_drop, own_poll, poll}
use Rattle.machine_roads.proofs.Inmost as inmost_code
use Rattle.solo_laws.specs.Busy.{busy_in, run_of}
use Rattle.solo_laws.specs.Road.{is_in}

-- code is there that ends so
abbrev pub EndsSo : UserEnd → List (Code Output Waker) → Type 0
EndsSo (end.Polled a) (Poll f by ∷ codes) = Unit {0}
EndsSo (end.Polled a) (PollOwn r w ∷ codes) = Unit {0}
EndsSo end.Done (Drop f why by ∷ codes) = Unit {0}
EndsSo end.Done (Lose awaiter by ∷ codes) = Unit {0}
EndsSo end.Done (DropOwn r answer ∷ codes) = Unit {0}
EndsSo u codes = ⊥

-- what is first to do accepts that end
abbrev pub Accepts : UserEnd → List Op → Type 0
Accepts u [] = ⊥
Accepts u (o ∷ os) = accepts o u ≡ true

poll_ends : (f : ℕ) (taker : Taker Waker) (codes : List (Code Output Waker)) (u : UserEnd) → accepts (op.User (user_op.Poll f)) u ≡ true
    → EndsSo u (Poll f taker ∷ codes)
poll_ends f taker codes (end.Polled a) ok = tt
poll_ends f taker codes end.Done ok = absurd cc

drop_ends : (f : ℕ) (why : End Output) (taker : Taker Waker) (codes : List (Code Output Waker)) (u : UserEnd)
    → accepts (op.User (user_op.Drop f)) u ≡ true → EndsSo u (Drop f why taker ∷ codes)
drop_ends f why taker codes end.Done ok = tt
drop_ends f why taker codes (end.Polled a) ok = absurd cc

own_poll_ends : (x : RunPoll) (codes : List (Code Output Waker)) (u : UserEnd) → accepts (op.User (user_op.PollOwn x)) u ≡ true
    → EndsSo u (PollOwn x.run x.waker ∷ codes)
own_poll_ends x codes (end.Polled a) ok = tt
own_poll_ends x codes end.Done ok = absurd cc

own_drop_ends : (r : ℕ) (answer : Answer Output) (codes : List (Code Output Waker)) (u : UserEnd)
    → accepts (op.User (user_op.DropOwn r)) u ≡ true → EndsSo u (DropOwn r answer ∷ codes)
own_drop_ends r answer codes end.Done ok = tt
own_drop_ends r answer codes (end.Polled a) ok = absurd cc

loss_ends : (f : ℕ) (awaiter : Option Waker) (by : Option (Taker Waker)) (codes : List (Code Output Waker)) (u : UserEnd)
    → accepts (op.User (user_op.DropOutput f)) u ≡ true → EndsSo u (Lose awaiter by ∷ codes)
loss_ends f awaiter by codes end.Done ok = tt
loss_ends f awaiter by codes (end.Polled a) ok = absurd cc

module _ (u : UserEnd) where
  by_code : (os : List Op) (codes : List (Code Output Waker)) → inmost_code.Inmost os codes → Accepts u os → EndsSo u codes
  by_code os codes none ok = absurd ok
  by_code os codes (poll taker final below inside f it nested) ok = poll_ends f taker inside u ok
  by_code os codes (drop taker final below inside f m why it is nested) ok = drop_ends f why taker inside u ok
  by_code os codes (own_poll x below inside nested) ok = own_poll_ends x inside u ok
  by_code os codes (own_drop r below inside nested) ok = own_drop_ends r Ready inside u ok

  at : (os xs : List Op) (codes inside : List (Code Output Waker)) → os ≡ xs → inside ≡ codes → (Accepts u xs → EndsSo u codes)
      → Accepts u os → EndsSo u inside
  at os xs codes inside here there so ok =
      subst (λ codes. EndsSo u codes) (sym there) (so (subst (λ os. Accepts u os) here ok))

  pub ends_so : (e : Done) (q : Plain Output Waker) → StandsAlike e q → Accepts u e.next → EndsSo u q.inside
  ends_so e q (alike nested follows) = by_code e.next q.inside (inmost e.next q.inside nested)
  ends_so e q (losing f fs below codes nested stops) =
      at e.next (loss_ops (f ∷ fs) below) (loss_codes (f ∷ fs) codes) q.inside stops.left stops.inside
      (loss_ends f None None (loss_codes fs codes) u)
  ends_so e q (going r [] below codes nested stops) =
      at e.next (op.User (user_op.DropOwn r) ∷ stops.rest ∷ below) (DropOwn r IsDone ∷ codes) q.inside stops.left stops.inside
      (own_drop_ends r IsDone codes u)
  ends_so e q (going r (f ∷ fs) below codes nested stops) =
      at e.next (loss_ops (f ∷ fs) (op.User (user_op.DropOwn r) ∷ stops.rest ∷ below)) (loss_codes (f ∷ fs) (DropOwn r IsDone ∷ codes))
      q.inside stops.left stops.inside
      (loss_ends f None None (loss_codes fs (DropOwn r IsDone ∷ codes)) u)
  ends_so e q (dropping taker final below f b it nested (is_answered next inside follows)) =
      at e.next below b.inside q.inside next inside (by_code below b.inside (inmost below b.inside nested))
  ends_so e q (dropping taker final below f b it nested (loses awaiter next inside ending)) =
      at e.next (op.User (user_op.DropOutput f) ∷ (rest_of (task e.world f).awaiter f final ++ below))
      (Lose awaiter (Some taker) ∷ b.inside)
      q.inside next inside
      (loss_ends f awaiter (Some taker) b.inside u)
  ends_so e q (untaken taker final below f awaiter g gs codes it nested stops) =
      at e.next (loss_ops (g ∷ gs) (op.User (user_op.DropOutput f) ∷ (rest_of (is_some awaiter) f final ++ below)))
      (loss_codes (g ∷ gs) (Lose awaiter (Some taker) ∷ codes)) q.inside stops.left stops.inside
      (loss_ends g None None (loss_codes gs (Lose awaiter (Some taker) ∷ codes)) u)
  ends_so e q (forgetting taker final below f b it nested stops) =
      at e.next (op.User (user_op.Drop f) ∷ op.Table (table_op.LeaveTable f) ∷ op.Handle (handle_op.LetGo f) ∷ final ∷ below)
      (Drop f Closed taker ∷ b.inside) q.inside stops.left stops.inside (drop_ends f Closed taker b.inside u)
  ends_so e q (forgotten taker final below f g gs codes it nested stops) =
      at e.next
      (loss_ops (g ∷ gs) (op.User (user_op.Drop f) ∷ op.Table (table_op.LeaveTable f) ∷ op.Handle (handle_op.LetGo f) ∷ final ∷ below))
      (loss_codes (g ∷ gs) (Drop f Closed taker ∷ codes)) q.inside stops.left stops.inside
      (loss_ends g None None (loss_codes gs (Drop f Closed taker ∷ codes)) u)

-- a run that isn't used is in no code
module _ (r : ℕ) where
  abbrev Free : List Op → List (Code Output Waker) → Type 0
  Free os codes = weigh (running_of r) os ≡ 0 → is_in r (busy_in codes) ≡ false

  unlike : (k : ℕ) → same r k ≡ 0 → (r == k) ≡ false
  unlike k unused = grind (arith, same_is, nat_tests)

  not_in : (ks ls : List ℕ) → is_in r ks ≡ false → is_in r ls ≡ false → is_in r (ks ++ ls) ≡ false
  not_in [] ls one two = two
  not_in (k ∷ ks) ls one two = by (not_in ks ls) (r == k) refl one
    where
      by : (is_in r ks ≡ false → is_in r ls ≡ false → is_in r (ks ++ ls) ≡ false) → (b : Bool) → (r == k) ≡ b → is_in r (k ∷ ks) ≡ false
          → is_in r ((k ∷ ks) ++ ls) ≡ false
      by rest true here one = absurd (clash (sym one ∙ ap (λ b. cond b true (is_in r ks)) here))
        where
          clash : false ≡ true → ⊥
          clash is = cc
      by rest false apart one =
          ap (λ b. cond b true (is_in r (ks ++ ls))) apart
          ∙ rest (sym (ap (λ b. cond b true (is_in r ks)) apart) ∙ one) two

  free_final : (taker : Taker Waker) (final : Op) → GoesOnBy taker final → running_of r final ≡ 0 → is_in r (run_of taker) ≡ false
  free_final taker final by_try unused = refl
  free_final taker final (by_tick t a) unused = refl
  free_final taker final (by_run x true) unused = ap (λ b. cond b true false) (unlike x.run unused)
  free_final taker final (by_run x false) unused = ap (λ b. cond b true false) (unlike x.run unused)

  by_nested : (os : List Op) (codes : List (Code Output Waker)) → Nested os codes → Free os codes
  by_nested os codes nowhere unused = refl
  by_nested os codes (polls_own x below inside nested) unused =
      not_in (x.run ∷ []) (busy_in inside) (ap (λ b. cond b true false) (unlike x.run (omega (arith, unused))))
      (by_nested below inside nested (omega (arith, unused)))
  by_nested os codes (drops_own k below inside nested) unused =
      not_in (k ∷ []) (busy_in inside) (ap (λ b. cond b true false) (unlike k (omega (arith, unused))))
      (by_nested below inside nested (omega (arith, unused)))
  by_nested os codes (takes taker final below xs inside more it nested stopped) unused =
      go (by_nested below inside nested) os codes stopped unused
    where
      go : Free below inside → (os : List Op) (codes : List (Code Output Waker)) → Stopped taker final below inside os codes → Free os codes
      go so os codes answered unused = so unused
      go so os codes (polls f) unused =
          not_in (run_of taker) (busy_in inside) (free_final taker final it (omega (arith, unused))) (so (omega (arith, unused)))
      go so os codes (drops f) unused =
          not_in (run_of taker) (busy_in inside) (free_final taker final it (omega (arith, unused))) (so (omega (arith, unused)))
      go so os codes (drops_polled f) unused =
          not_in (run_of taker) (busy_in inside) (free_final taker final it (omega (arith, unused))) (so (omega (arith, unused)))
      go so os codes (drops_given f) unused =
          not_in (run_of taker) (busy_in inside) (free_final taker final it (omega (arith, unused))) (so (omega (arith, unused)))

  in_losses : (fs : List ℕ) (os : List Op) (codes : List (Code Output Waker)) → Free os codes → Free (loss_ops fs os) (loss_codes fs codes)
  in_losses [] os codes so unused = so unused
  in_losses (f ∷ fs) os codes so unused = in_losses fs os codes so (omega (arith, unused))

  leaving_uses : (k : ℕ) (o : Op) → IsLeaving k o → running_of r o ≡ same r k
  leaving_uses k o unlisted = refl
  leaving_uses k o listed = refl

  rest_weighs : (b : Bool) (f : ℕ) (final : Op) (below : List Op)
      → weigh (running_of r) (rest_of b f final ++ below) ≡ running_of r final + weigh (running_of r) below
  rest_weighs true f final below = omega arith
  rest_weighs false f final below = omega arith

  at_free : (os xs : List Op) (codes inside : List (Code Output Waker)) → os ≡ xs → inside ≡ codes → Free xs codes → Free os inside
  at_free os xs codes inside here there so unused =
      subst (λ codes. is_in r (busy_in codes) ≡ false) (sym there) (so (subst (λ os. weigh (running_of r) os ≡ 0) here unused))

  untaken_free : (taker : Taker Waker) (final : Op) (below : List Op) (f : ℕ) (awaiter : Option Waker) (b : Bool)
      (codes : List (Code Output Waker)) → GoesOnBy taker final → Nested below codes
      → Free (op.User (user_op.DropOutput f) ∷ (rest_of b f final ++ below)) (Lose awaiter (Some taker) ∷ codes)
  untaken_free taker final below f awaiter b codes it nested unused =
      not_in (run_of taker) (busy_in codes) (free_final taker final it (omega (arith, unused, rest_weighs b f final below)))
      (by_nested below codes nested (omega (arith, unused, rest_weighs b f final below)))

  forgotten_free : (taker : Taker Waker) (final : Op) (below : List Op) (f : ℕ) (codes : List (Code Output Waker)) → GoesOnBy taker final
      → Nested below codes
      → Free (op.User (user_op.Drop f) ∷ op.Table (table_op.LeaveTable f) ∷ op.Handle (handle_op.LetGo f) ∷ final ∷ below)
      (Drop f Closed taker ∷ codes)
  forgotten_free taker final below f codes it nested unused =
      not_in (run_of taker) (busy_in codes) (free_final taker final it (omega (arith, unused)))
      (by_nested below codes nested (omega (arith, unused)))

  going_free : (k : ℕ) (o : Op) (below : List Op) (codes : List (Code Output Waker)) → IsLeaving k o → Nested below codes
      → Free (op.User (user_op.DropOwn k) ∷ o ∷ below) (DropOwn k IsDone ∷ codes)
  going_free k o below codes leaving nested unused =
      not_in (k ∷ []) (busy_in codes)
      (ap (λ b. cond b true false) (unlike k (omega (arith, unused, leaving_uses k o leaving))))
      (by_nested below codes nested (omega (arith, unused)))

  pub free_in : (e : Done) (q : Plain Output Waker) → StandsAlike e q → Free e.next q.inside
  free_in e q (alike nested follows) = by_nested e.next q.inside nested
  free_in e q (losing f fs below codes nested stops) =
      at_free e.next (loss_ops (f ∷ fs) below) (loss_codes (f ∷ fs) codes) q.inside stops.left stops.inside
      (in_losses (f ∷ fs) below codes (by_nested below codes nested))
  free_in e q (going k fs below codes nested stops) =
      at_free e.next (loss_ops fs (op.User (user_op.DropOwn k) ∷ stops.rest ∷ below)) (loss_codes fs (DropOwn k IsDone ∷ codes)) q.inside
      stops.left stops.inside
      (in_losses fs (op.User (user_op.DropOwn k) ∷ stops.rest ∷ below) (DropOwn k IsDone ∷ codes)
      (going_free k stops.rest below codes stops.leaving nested))
  free_in e q (dropping taker final below f b it nested (is_answered next inside follows)) =
      at_free e.next below b.inside q.inside next inside (by_nested below b.inside nested)
  free_in e q (dropping taker final below f b it nested (loses awaiter next inside ending)) =
      at_free e.next (op.User (user_op.DropOutput f) ∷ (rest_of (task e.world f).awaiter f final ++ below))
      (Lose awaiter (Some taker) ∷ b.inside) q.inside next inside
      (untaken_free taker final below f awaiter (task e.world f).awaiter b.inside it nested)
  free_in e q (untaken taker final below f awaiter g gs codes it nested stops) =
      let os = op.User (user_op.DropOutput f) ∷ (rest_of (is_some awaiter) f final ++ below) in
      at_free e.next (loss_ops (g ∷ gs) os) (loss_codes (g ∷ gs) (Lose awaiter (Some taker) ∷ codes)) q.inside stops.left stops.inside
      (in_losses (g ∷ gs) os (Lose awaiter (Some taker) ∷ codes)
      (untaken_free taker final below f awaiter (is_some awaiter) codes it nested))
  free_in e q (forgetting taker final below f b it nested stops) =
      at_free e.next (op.User (user_op.Drop f) ∷ op.Table (table_op.LeaveTable f) ∷ op.Handle (handle_op.LetGo f) ∷ final ∷ below)
      (Drop f Closed taker ∷ b.inside) q.inside stops.left stops.inside (forgotten_free taker final below f b.inside it nested)
  free_in e q (forgotten taker final below f g gs codes it nested stops) =
      let os = op.User (user_op.Drop f) ∷ op.Table (table_op.LeaveTable f) ∷ op.Handle (handle_op.LetGo f) ∷ final ∷ below in
      at_free e.next (loss_ops (g ∷ gs) os) (loss_codes (g ∷ gs) (Drop f Closed taker ∷ codes)) q.inside stops.left stops.inside
      (in_losses (g ∷ gs) os (Drop f Closed taker ∷ codes) (forgotten_free taker final below f codes it nested))
