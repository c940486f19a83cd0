-- What telling, waking, getting up and lying down leave of the plain scheduler: the code in which calls stand.
use Rattle.std.proofs.Common.{◌≡◌, ℕ, ◌-◌, min, cond, Bool, true, false, List, length, map, Option, Some, None}
use Rattle.std.proofs.Common.{is_some, slice_get, slice_set, if◌then◌else◌, refl, ◌∙◌}
use Rattle.std.specs.Prelude.{find}
use Rattle.task_moves.specs.AbstractTask as abstract
use Rattle.task_moves.specs.AbstractTask.{AbstractTask}
use Rattle.task_moves.specs.LocalTask.{info_of}
use Rattle.executor_model.specs.declared.op.Waker.{Waker}
use Rattle.plain_scheduler.specs.State.{Answers, AtOnce, Calls, Choice, Future, Granted, Later, Lying, NoMemory, Pending, Plain}
use Rattle.plain_scheduler.specs.State.{Event as Sight, Refusal, Who}
use Rattle.plain_scheduler.specs.Lists.{any, on, or, without}
use Rattle.plain_scheduler.specs.Moves.{appended, becomes, called, copied, is_called, let_go, lies, put, release, see, task, tell}
use Rattle.plain_scheduler.specs.Moves.{leaves, told_at, up, used}
use Rattle.plain_scheduler.specs.Takes as plain_takes
use Rattle.machine_roads.specs.View.{Output, wakes}
use Rattle.machine_roads.proofs.Lying.{called_one}
use Rattle.machine_roads.proofs.Puts.{put_by}

-- what is asked of the plain scheduler that futures, who lies, one more that is due and what was seen say nothing of
pub record IsAside {B : Type 0} (ask : Plain Output Waker → B) : Type 0 where
  pub futures : (q : Plain Output Waker) (fs : List (Future Output Waker)) → ask (record q { futures = fs }) ≡ ask q
  pub due : (q : Plain Output Waker) (f : ℕ) → ask (appended f q) ≡ ask q
  pub lying : (q : Plain Output Waker) (ls : List (Lying Waker)) → ask (record q { lying = ls }) ≡ ask q
  pub seen : (q : Plain Output Waker) (e : Sight Output Waker) → ask (see e q) ≡ ask q

pub inside_aside : IsAside (λ (q : Plain Output Waker). q.inside)
inside_aside = record { futures = λ q fs. refl; due = λ q f. refl; lying = λ q ls. refl; seen = λ q e. refl }

module _ {B : Type 0} (ask : Plain Output Waker → B) (aside : IsAside ask) where
  pub put_keeps : (g : ℕ) (new : AbstractTask Output Waker) (q : Plain Output Waker) → ask (put g new q) ≡ ask q
  put_keeps g new q = put_by ask g new q (λ fs. aside.futures q fs)

  -- a task becomes another, and what is done then leaves that
  pub becomes_with : (more : Plain Output Waker → Plain Output Waker) → ((q : Plain Output Waker) → ask (more q) ≡ ask q) → (g : ℕ)
      (new : AbstractTask Output Waker) (q : Plain Output Waker) → ask (becomes wakes more g new q) ≡ ask q
  becomes_with more keeps g new q = by (is_some (info_of (task g q) new))
    where
      by : (b : Bool) → ask (if b then more (appended g (put g new q)) else put g new q) ≡ ask q
      by true = keeps (appended g (put g new q)) ∙ (aside.due (put g new q) g ∙ put_keeps g new q)
      by false = put_keeps g new q

  pub called_with : (more : Plain Output Waker → Plain Output Waker) → ((q : Plain Output Waker) → ask (more q) ≡ ask q)
      → (a : Waker) (q : Plain Output Waker) → ask (called wakes more a q) ≡ ask q
  called_with more keeps a q = by (wakes a)
    where
      by : (o : Option ℕ) → ask (or o (λ g. used wakes more g q) (see (Calls a) q)) ≡ ask q
      by None = aside.seen q (Calls a)
      by (Some g) = becomes_with more keeps g (abstract.release (abstract.wake (task g q))) q

  -- to tell leaves that
  pub tell_keeps : (c : Choice) (q : Plain Output Waker) → ask (tell wakes c q) ≡ ask q
  tell_keeps c q = by (any is_called q.lying)
    where
      waker : (q : Plain Output Waker) (o : Option Waker) → ask (on o (called wakes (λ s. s)) q) ≡ ask q
      waker q None = refl
      waker q (Some a) = called_with (λ s. s) (λ q. refl) a q

      one : (i : ℕ) (o : Option (Lying Waker))
          → ask (on o (λ l q. on l.waker (called wakes (λ s. s)) (record q { lying = slice_set q.lying i (called_one l) })) q)
          ≡ ask q
      one i None = refl
      one i (Some l) =
          waker (record q { lying = slice_set q.lying i (called_one l) }) l.waker ∙ aside.lying q (slice_set q.lying i (called_one l))

      by : (b : Bool) → ask (cond b q (told_at wakes (min c.tells (length q.lying - 1)) q)) ≡ ask q
      by true = refl
      by false = one (min c.tells (length q.lying - 1)) (slice_get q.lying (min c.tells (length q.lying - 1)))

  pub becomes_keeps : (c : Choice) (g : ℕ) (new : AbstractTask Output Waker) (q : Plain Output Waker)
      → ask (becomes wakes (tell wakes c) g new q) ≡ ask q
  becomes_keeps c g new q = becomes_with (tell wakes c) (tell_keeps c) g new q

  pub let_go_keeps : (c : Choice) (a : Waker) (q : Plain Output Waker) → ask (let_go wakes (tell wakes c) a q) ≡ ask q
  let_go_keeps c a q = by (wakes a)
    where
      by : (o : Option ℕ) → ask (on o (release wakes (tell wakes c)) q) ≡ ask q
      by None = refl
      by (Some g) = becomes_keeps c g (abstract.release (task g q)) q

  pub copied_keeps : (a : Waker) (q : Plain Output Waker) → ask (copied wakes a q) ≡ ask q
  copied_keeps a q = by (wakes a)
    where
      by : (o : Option ℕ) → ask (on o (λ g q. put g (abstract.copy (task g q)) q) q) ≡ ask q
      by None = refl
      by (Some g) = put_keeps g (abstract.copy (task g q)) q

  pub goes_keeps : (c : Choice) (o : Option Waker) (q : Plain Output Waker) → ask (on o (let_go wakes (tell wakes c)) q) ≡ ask q
  goes_keeps c None q = refl
  goes_keeps c (Some a) q = let_go_keeps c a q

  pub up_keeps : (c : Choice) (who : Who) (q : Plain Output Waker) → ask (up wakes c who q) ≡ ask q
  up_keeps c who q = by (find (lies who) q.lying)
    where
      by : (o : Option (Lying Waker))
          → ask (on o (λ l p. on l.waker (let_go wakes (tell wakes c)) (record p { lying = without (lies who) p.lying })) q) ≡ ask q
      by None = refl
      by (Some l) =
          goes_keeps c l.waker (record q { lying = without (lies who) q.lying }) ∙ aside.lying q (without (lies who) q.lying)

  pub leaves_keeps : (c : Choice) (who : Who) (q : Plain Output Waker) → ask (leaves wakes c who q) ≡ ask q
  leaves_keeps c who q = by (find (lies who) q.lying)
    where
      whether : (b : Bool) → ask (if b then tell wakes c (up wakes c who q) else up wakes c who q) ≡ ask q
      whether true = tell_keeps c (up wakes c who q) ∙ up_keeps c who q
      whether false = up_keeps c who q

      by : (o : Option (Lying Waker))
          → ask (on o (λ l p. if is_called l then tell wakes c (up wakes c who p) else up wakes c who p) q) ≡ ask q
      by None = refl
      by (Some l) = whether (is_called l)

  lies_keeps : (c : Choice) (who : Who) (a : Waker) (q : Plain Output Waker) → ask (plain_takes.lies_down wakes c who a q) ≡ ask q
  lies_keeps c who a q = by (find (lies who) q.lying)
    where
      q1 : Plain Output Waker
      q1 = copied wakes a q

      lain : ask (plain_takes.lain wakes c who a q1) ≡ ask q
      lain = aside.lying q1 (plain_takes.lain wakes c who a q1).lying ∙ copied_keeps a q

      waker : (o : Option Waker)
          → ask (or o (λ old. plain_takes.lain_again wakes c who a old q1) (plain_takes.lain wakes c who a q1)) ≡ ask q
      waker None = lain
      waker (Some old) =
          let ls = map (λ l. if lies who l then record l { waker = Some a } else l) q1.lying in
          let_go_keeps c old (record q1 { lying = ls }) ∙ (aside.lying q1 ls ∙ copied_keeps a q)

      by : (o : Option (Lying Waker))
          → ask (or o (λ l. or l.waker (λ old. plain_takes.lain_again wakes c who a old q1) (plain_takes.lain wakes c who a q1))
          (plain_takes.lain wakes c who a q1)) ≡ ask q
      by None = lain
      by (Some l) = waker l.waker

  pub rests_keeps : (c : Choice) (r : Refusal) (who : Who) (a : Waker) (q : Plain Output Waker)
      → ask (plain_takes.rests wakes c r who a q) ≡ ask q
  rests_keeps c Granted who a q =
      let z = plain_takes.lies_down wakes c who a q in
      aside.seen z (Answers Pending) ∙ lies_keeps c who a q
  rests_keeps c AtOnce who a q = aside.seen q (Answers NoMemory)
  rests_keeps c Later who a q =
      let z = plain_takes.lies_down wakes c who a q in
      aside.seen z (Answers NoMemory) ∙ lies_keeps c who a q

-- the code in which calls stand
pub tell_inside : (c : Choice) (q : Plain Output Waker) → (tell wakes c q).inside ≡ q.inside
tell_inside c q = tell_keeps (λ q. q.inside) inside_aside c q

pub becomes_inside : (c : Choice) (f : ℕ) (new : AbstractTask Output Waker) (q : Plain Output Waker)
    → (becomes wakes (tell wakes c) f new q).inside ≡ q.inside
becomes_inside c f new q = becomes_keeps (λ q. q.inside) inside_aside c f new q

pub called_inside : (c : Choice) (o : Option Waker) (q : Plain Output Waker) → (on o (called wakes (tell wakes c)) q).inside ≡ q.inside
called_inside c None q = refl
called_inside c (Some a) q = called_with (λ q. q.inside) inside_aside (tell wakes c) (tell_inside c) a q

pub goes_inside : (c : Choice) (o : Option Waker) (q : Plain Output Waker) → (on o (let_go wakes (tell wakes c)) q).inside ≡ q.inside
goes_inside c o q = goes_keeps (λ q. q.inside) inside_aside c o q

pub copied_inside : (a : Waker) (q : Plain Output Waker) → (copied wakes a q).inside ≡ q.inside
copied_inside a q = copied_keeps (λ q. q.inside) inside_aside a q

pub rests_inside : (c : Choice) (r : Refusal) (who : Who) (a : Waker) (q : Plain Output Waker)
    → (plain_takes.rests wakes c r who a q).inside ≡ q.inside
rests_inside c r who a q = rests_keeps (λ q. q.inside) inside_aside c r who a q

pub leaves_inside : (c : Choice) (who : Who) (q : Plain Output Waker) → (leaves wakes c who q).inside ≡ q.inside
leaves_inside c who q = leaves_keeps (λ q. q.inside) inside_aside c who q

pub up_inside : (c : Choice) (who : Who) (q : Plain Output Waker) → (up wakes c who q).inside ≡ q.inside
up_inside c who q = up_keeps (λ q. q.inside) inside_aside c who q
