-- Which changes of the plain scheduler leave users' codes as they are.
use Rattle.std.proofs.Common.{◌≡◌, ℕ, zero, suc, ◌==◌, nat_lt, if◌then◌else◌, Bool, true, false, List, [], ◌∷◌, ◌++◌, length}
use Rattle.std.proofs.Common.{find, count_by, map, Option, Some, None, slice_get, slice_set, refl, ◌∙◌}
use Rattle.executor_parts.specs.declared.mark.Mark.{Mark}
use Rattle.task_moves.specs.AbstractTask as abstract
use Rattle.task_moves.specs.AbstractTask.{AbstractTask, Left}
use Rattle.task_moves.specs.AbstractTask.PendingEnd.{Drops as EndDrops, Queues as EndQueues, Forgets as EndForgets, Rests as EndRests}
use Rattle.solo.specs.declared.names.SoloWaker.{SoloWaker}
use Rattle.plain_scheduler.specs.State.{AtOnce, ARun, ATick, Calls, Choice, Due}
use Rattle.plain_scheduler.specs.State.{Full}
use Rattle.plain_scheduler.specs.State.{Future, Granted, Later, Lying, Made, NoMemory, Plain}
use Rattle.plain_scheduler.specs.State.{Refusal, Run, Running, Taker, Tick, Try, Who}
use Rattle.plain_scheduler.specs.Lists.{each, on, or, repeat, without}
use Rattle.plain_scheduler.specs.Moves.{answers, appended, becomes, called, changed, chosen, copied, enters, given_back, is_called}
use Rattle.plain_scheduler.specs.Moves.{is_common, is_kept, keeps, leaves, let_go, lies, looks, moved, put, see, task, tell, up, wake}
use Rattle.plain_scheduler.specs.Moves as moves
use Rattle.plain_scheduler.specs.Takes as takes
use Rattle.plain_scheduler.specs.Calls as calls
use Rattle.plain_scheduler.specs.Calls.{Call}
use Rattle.solo_laws.specs.Road.{wakes}
use Rattle.solo_laws.proofs.Following.Frames.{becomes_still, called_still, copied_still, let_go_still, tell_still}
use Rattle.solo_laws.proofs.Following.Using.{put_inside}

module _ {T X : Type 0} (c : Choice) where
  abbrev pub Calm : (Plain T (SoloWaker X) → Plain T (SoloWaker X)) → Type 0
  Calm does = (p : Plain T (SoloWaker X)) → (does p).inside ≡ p.inside

  abbrev loud : Plain T (SoloWaker X) → Plain T (SoloWaker X)
  loud p = tell wakes c p

  pub tell_calm : Calm (tell wakes c)
  tell_calm p = (tell_still c p).inside

  pub becomes_calm : (f : ℕ) (new : AbstractTask T (SoloWaker X)) → Calm (becomes wakes loud f new)
  becomes_calm f new p = (becomes_still c loud (tell_still c) f new p).inside

  pub calls_calm : (o : Option (SoloWaker X)) → Calm (on o (called wakes loud))
  calls_calm None p = refl
  calls_calm (Some w) p = (called_still c loud (tell_still c) w p).inside

  pub lets_go_calm : (o : Option (SoloWaker X)) → Calm (on o (let_go wakes loud))
  lets_go_calm None p = refl
  lets_go_calm (Some w) p = (let_go_still c loud (tell_still c) w p).inside

  pub changed_calm : (h : Future T (SoloWaker X) → Future T (SoloWaker X)) (f : ℕ) → Calm (changed h f)
  changed_calm h f p = by (slice_get p.futures f)
    where
      by : (o : Option (Future T (SoloWaker X))) → (on o (λ x p. record p { futures = slice_set p.futures f (h x) }) p).inside ≡ p.inside
      by None = refl
      by (Some x) = refl

  pub runs_calm : (h : Running → Running) (r : ℕ) → Calm (moves.runs h r)
  runs_calm h r p = by (slice_get p.runs r)
    where
      by : (o : Option Running) → (on o (λ run p. record p { runs = slice_set p.runs r (h run) }) p).inside ≡ p.inside
      by None = refl
      by (Some run) = refl

  pub repeat_calm : (n : ℕ) (does : Plain T (SoloWaker X) → Plain T (SoloWaker X)) → Calm does → Calm (repeat n does)
  repeat_calm zero does calm p = refl
  repeat_calm (suc n) does calm p = repeat_calm n does calm (does p) ∙ calm p

  pub each_calm : {B : Type 0} (does : B → Plain T (SoloWaker X) → Plain T (SoloWaker X)) → ((b : B) → Calm (does b)) → (bs : List B)
      → Calm (each bs does)
  each_calm does calm [] p = refl
  each_calm does calm (b ∷ bs) p = each_calm does calm bs (does b p) ∙ calm b p

  pub up_calm : (who : Who) → Calm (up wakes c who)
  up_calm who p = by (find (lies who) p.lying)
    where
      by : (o : Option (Lying (SoloWaker X)))
          → (on o (λ l p. on l.waker (let_go wakes loud) (record p { lying = without (lies who) p.lying })) p).inside ≡ p.inside
      by None = refl
      by (Some l) = lets_go_calm l.waker (record p { lying = without (lies who) p.lying })

  pub leaves_calm : (who : Who) → Calm (leaves wakes c who)
  leaves_calm who p = by (find (lies who) p.lying)
    where
      either : (b : Bool) → (if b then tell wakes c (up wakes c who p) else up wakes c who p).inside ≡ p.inside
      either true = tell_calm (up wakes c who p) ∙ up_calm who p
      either false = up_calm who p

      by : (o : Option (Lying (SoloWaker X)))
          → (on o (λ l p. if is_called l then tell wakes c (up wakes c who p) else up wakes c who p) p).inside ≡ p.inside
      by None = refl
      by (Some l) = either (is_called l)

  pub keeps_calm : (r : ℕ) (test : Due → Bool) → Calm (keeps r test)
  keeps_calm r test p = by (nat_lt (count_by (is_kept r) p.due) 512) (find test p.due)
    where
      by : (b : Bool) (o : Option Due)
          → (if b then on o (λ d p. record p { due = without test p.due ++ record d { keeper = Some r } ∷ [] }) p else p).inside ≡ p.inside
      by true None = refl
      by true (Some d) = refl
      by false o = refl

  pub given_back_calm : (r : ℕ) → Calm (given_back r)
  given_back_calm r p = by (find (is_kept r) p.due)
    where
      by : (o : Option Due) → (on o (λ d p. appended d.future (record p { due = without (is_kept r) p.due })) p).inside ≡ p.inside
      by None = refl
      by (Some d) = refl

  pub robbed_calm : (r : ℕ) (keeper : Option ℕ) → Calm (takes.robbed wakes c r keeper)
  robbed_calm r None p = refl
  robbed_calm r (Some k) p = by (r == k)
    where
      by : (b : Bool) → (if b then p else repeat c.moves (keeps r (is_kept k)) p).inside ≡ p.inside
      by true = refl
      by false = repeat_calm c.moves (keeps r (is_kept k)) (keeps_calm r (is_kept k)) p

  pub kept_calm : (r : ℕ) → Calm (takes.kept wakes c r)
  kept_calm r p = each_calm (λ mark. keeps r (is_common mark)) (λ mark. keeps_calm r (is_common mark)) c.keeps p

  -- who lies down
  pub lies_calm : (who : Who) (w : SoloWaker X) → Calm (takes.lies_down wakes c who w)
  lies_calm who w p = by (find (lies who) p.lying)
    where
      q : Plain T (SoloWaker X)
      q = copied wakes w p

      copy : q.inside ≡ p.inside
      copy = (copied_still c w p).inside

      waker : (o : Option (SoloWaker X))
          → (or o (λ old. takes.lain_again wakes c who w old q) (takes.lain wakes c who w q)).inside ≡ p.inside
      waker None = copy
      waker (Some old) =
          lets_go_calm (Some old) (record q { lying = map (λ l. if lies who l then record l { waker = Some w } else l) q.lying }) ∙ copy

      by : (o : Option (Lying (SoloWaker X)))
          → (or o (λ l. or l.waker (λ old. takes.lain_again wakes c who w old q) (takes.lain wakes c who w q))
          (takes.lain wakes c who w q)).inside ≡ p.inside
      by None = copy
      by (Some l) = waker l.waker

  pub rests_calm : (refusal : Refusal) (who : Who) (w : SoloWaker X) → Calm (takes.rests wakes c refusal who w)
  rests_calm Granted who w p = lies_calm who w p
  rests_calm AtOnce who w p = refl
  rests_calm Later who w p = lies_calm who w p

  pub nothing_calm : (by : Taker (SoloWaker X)) → Calm (takes.nothing wakes c by)
  nothing_calm Try p = refl
  nothing_calm (Tick t w) p = rests_calm c.refusal (ATick t) w p
  nothing_calm (Run r w) p = rests_calm c.refusal (ARun r) w p

  pub gives_way_calm : (r : ℕ) (w : SoloWaker X) → Calm (takes.gives_way wakes c r w)
  gives_way_calm r w p = by (wakes w)
    where
      q : Plain T (SoloWaker X)
      q = moves.runs (λ run. record run { taken = 0 }) r p

      is : q.inside ≡ p.inside
      is = runs_calm (λ run. record run { taken = 0 }) r p

      by : (o : Option ℕ) → (or o (λ f. wake wakes loud f q) (see (Calls w) q)).inside ≡ p.inside
      by None = is
      by (Some f) = becomes_calm f (abstract.wake (task f q)) q ∙ is

  -- a run that goes, or the executor
  pub gone_calm : (r : ℕ) → Calm (calls.gone wakes c r)
  gone_calm r p =
      let over : Running → Running = λ run. record run { is_over = true } in
      let back : Plain T (SoloWaker X) → Plain T (SoloWaker X) = λ p. loud (given_back r p) in
      let q = moves.runs over r p in
      let n = count_by (is_kept r) p.due in
      leaves_calm (ARun r) (repeat n back q)
      ∙ (repeat_calm n back (λ p. tell_calm (given_back r p) ∙ given_back_calm r p) q ∙ runs_calm over r p)

  pub freed_calm : (f : ℕ) → Calm (calls.freed wakes c f)
  freed_calm f p =
      let q = wake wakes loud f p in
      becomes_calm f (abstract.release (task f q)) q ∙ becomes_calm f (abstract.wake (task f p)) p

  pub granted_calm : (does : Plain T (SoloWaker X) → Plain T (SoloWaker X)) → Calm does → (p : Plain T (SoloWaker X)) (b : Bool)
      → (if b then does p else answers NoMemory p).inside ≡ p.inside
  granted_calm does calm p true = calm p
  granted_calm does calm p false = refl

  pub cancel_calm : (f : ℕ) → Calm (calls.cancel wakes c f)
  cancel_calm f p =
      let left = abstract.cancel (task f p) in
      calls_calm left.called (becomes wakes loud f left.task p) ∙ becomes_calm f left.task p

  pub handle_calm : (f : ℕ) (w : SoloWaker X) (e : abstract.Polled T) → Calm (calls.handle_by wakes c f w e)
  handle_calm f w (abstract.Polled.Output v) p = put_inside f (abstract.poll w (task f p)).task p
  handle_calm f w abstract.Polled.Cancelled p = refl
  handle_calm f w abstract.Polled.Waits p =
      granted_calm (λ p. calls.registered wakes c f w (copied wakes w p)) both p (calls.is_granted c.refusal)
    where
      both : Calm (λ p. calls.registered wakes c f w (copied wakes w p))
      both p =
          let q = copied wakes w p in
          let left = abstract.poll w (task f q) in
          lets_go_calm left.let_go (put f left.task q) ∙ (put_inside f left.task q ∙ (copied_still c w p).inside)

  pub spawn_calm : (mark : Mark) → Calm (calls.spawn wakes c mark)
  spawn_calm mark p = by (nat_lt (length (calls.living_from 0 p.futures)) p.limit) (calls.is_granted c.refusal)
    where
      come : Plain T (SoloWaker X)
      come = appended (length p.futures) (calls.entered wakes c mark p)

      by : (room granted : Bool)
          → (if room then (if granted then answers Made (loud come) else answers NoMemory p) else answers Full p).inside ≡ p.inside
      by true true = tell_calm come
      by true false = refl
      by false granted = refl
