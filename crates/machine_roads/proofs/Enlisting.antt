-- The list of the runs' own queues stays but where one comes into it or goes from it.
use Rattle.std.proofs.Common.{◌≡◌, ◌++◌, ◌%◌, ℕ, length, List, [], ◌∷◌, Bool, true, false, refl, sym, ap, ◌∙◌, arith}
use Rattle.std.specs.Prelude.{Option, Some, None}
use Rattle.executor_model.specs.declared.call.Call.{Call}
use Rattle.executor_model.specs.declared.event.Answer.{Answer}
use Rattle.executor_model.specs.declared.op.ListOp.{ListOp}
use Rattle.executor_model.specs.declared.op.Op.{Op}
use Rattle.executor_model.specs.declared.op.RunPoll.{RunPoll}
use Rattle.executor_model.specs.declared.op.Section.{Section}
use Rattle.executor_model.specs.declared.op.Steal.{Steal}
use Rattle.executor_model.specs.declared.op.UserOp.{UserOp}
use Rattle.executor_model.specs.declared.op.Waker.{Waker}
use Rattle.executor_model.specs.declared.step.Hint.{Hint}
use Rattle.executor_model.specs.declared.step.UserEnd.{UserEnd}
use Rattle.executor_model.proofs.OwnQueues.RunsAside.{Coat, coat}
use Rattle.executor_model.proofs.OwnQueues.RunsDone.{Deed, Leads, Missing, More, Stole, Walks, deed-act, is_loud, loud-weigh, walks-by}
use Rattle.executor_model.proofs.OwnQueues.RunsDone as deeds
use Rattle.executor_model.specs.ActsOfRuns as runs
use Rattle.executor_model.specs.Doing.{act, list_act}
use Rattle.executor_model.specs.Steps.{begun, future_of, kept, react, with_future}
use Rattle.executor_model.specs.Weights.{weigh}
use Rattle.executor_model.specs.World.{Done, World, done, own_of, put_own}
use Rattle.machine_roads.specs.Alone.{alone}
use Rattle.machine_roads.proofs.AloneKeeps.{alone_kept, due}

abbrev pub ListsSo : World → World → Type 0
ListsSo w v = v.listed ≡ w.listed

abbrev pub section_enlists : Section → ℕ
section_enlists Section.MakeRun = 0
section_enlists (Section.Register x) = 1
section_enlists (Section.Unregister r a) = 1

abbrev pub enlists : Op → ℕ
enlists (Op.List (ListOp.LockWrite s)) = section_enlists s
enlists (Op.List (ListOp.Write s)) = section_enlists s
enlists _ = 0

quiet_enlists : (o : Op) → is_loud o ≡ false → enlists o ≡ 0
quiet_enlists (Op.List o) quiet = absurd cc
quiet_enlists o quiet = refl

coat_lists : (w v : World) → coat w ≡ coat v → ListsSo w v
coat_lists w v same = ap (λ (c : Coat). c.hull.listed) (sym same)

-- nothing that is done leads to it, the making of a call and user code apart

stole_none : (x : RunPoll) (n : ℕ) (os : List Op) → Stole x n os → weigh enlists os ≡ 0
stole_none x n os (deeds.to_steal f) = refl
stole_none x n os (deeds.to_steal_plain f) = refl
stole_none x n os deeds.to_wake = refl
stole_none x n os deeds.to_search = refl
stole_none x n os (deeds.to_walk at left) = refl
stole_none x n os deeds.to_leave = refl

more_none : (s : Steal) (n : ℕ) (os : List Op) → More s n os → weigh enlists os ≡ 0
more_none s n os (deeds.no_more z) = stole_none _ _ os z
more_none s n os (deeds.one_more k) = refl

walks_none : (x : RunPoll) (os : List Op) → Walks x os → weigh enlists os ≡ 0
walks_none x os deeds.walk_ends = refl
walks_none x os (deeds.walk_on r at left) = refl

missing_none : (q : ℕ) (o : Op) (os : List Op) → Missing q o os → weigh enlists os ≡ 0
missing_none q o os (deeds.misses x) = refl
missing_none q o os (deeds.misses_there x at left z) = walks_none x os z
missing_none q o os (deeds.misses_last k a) = refl

leads_none : (o : Op) (os : List Op) → Leads o os → weigh enlists os ≡ 0
leads_none o os (deeds.finds x z) = stole_none x 0 os z
leads_none o os (deeds.stole a z) = stole_none _ _ os z
leads_none o _ (deeds.looks x at left {os = os} z) = omega (arith, stole_none x 0 os z)
leads_none o os _ = refl

list_none : (h : Hint) (o : ListOp) (w : World) → enlists (Op.List o) ≡ 0 → weigh enlists (list_act h o w).next ≡ 0
list_none h (ListOp.LockWrite s) w none = omega (arith, none)
list_none h (ListOp.Write Section.MakeRun) w none = by h.refused
  where
    by : (b : Bool) → weigh enlists (runs.make_run_by b w).next ≡ 0
    by true = refl
    by false = refl
list_none h (ListOp.Write (Section.Register x)) w none = refl
list_none h (ListOp.Write (Section.Unregister r a)) w none = refl
list_none h ListOp.UnlockWrite w none = refl
list_none h (ListOp.LockRead x) w none =
    let os = (runs.lock_read h w x).next in
    loud-weigh enlists quiet_enlists os
    ∙ walks_none x _ (walks-by x w.listed (h.start % length w.listed) (length w.listed))
list_none h ListOp.UnlockRead w none = refl

made_lists : (b : Bool) (w : World) → ListsSo w (runs.make_run_by b w).world
made_lists true w = refl
made_lists false w = refl

list_lists : (h : Hint) (o : ListOp) (w : World) → enlists (Op.List o) ≡ 0 → ListsSo w (list_act h o w).world
list_lists h (ListOp.LockWrite s) w none = refl
list_lists h (ListOp.Write Section.MakeRun) w none = made_lists h.refused w
list_lists h (ListOp.Write (Section.Register x)) w none = absurd (omega (arith, none))
list_lists h (ListOp.Write (Section.Unregister r a)) w none = absurd (omega (arith, none))
list_lists h ListOp.UnlockWrite w none = refl
list_lists h (ListOp.LockRead x) w none = refl
list_lists h ListOp.UnlockRead w none = refl

deed_none : (w : World) (o : Op) (d : Done) → Deed w o d → enlists o ≡ 0 → weigh enlists d.next ≡ 0
deed_none w o d (deeds.keeps e l) none = loud-weigh enlists quiet_enlists d.next ∙ leads_none o _ l
deed_none w o d (deeds.takes q f rest i e l) none = loud-weigh enlists quiet_enlists d.next ∙ leads_none o _ l
deed_none w o d (deeds.lacks q i e l) none = loud-weigh enlists quiet_enlists d.next ∙ missing_none q o _ l
deed_none w o d (deeds.shares s i k b e m) none = loud-weigh enlists quiet_enlists d.next ∙ more_none s k _ m
deed_none w o d (deeds.grows s k f e m) none = loud-weigh enlists quiet_enlists d.next ∙ more_none s k _ m
deed_none w o d (deeds.wakes p x e z) none = loud-weigh enlists quiet_enlists d.next ∙ ap (weigh enlists) z
deed_none w o d (deeds.lists h l) none = list_none h l w none

deed_lists : (w : World) (o : Op) (d : Done) → Deed w o d → enlists o ≡ 0 → ListsSo w d.world
deed_lists w o d (deeds.keeps e l) none = coat_lists w d.world e
deed_lists w o d (deeds.takes q f rest i e l) none = coat_lists (put_own w q rest) d.world e
deed_lists w o d (deeds.lacks q i e l) none = coat_lists w d.world e
deed_lists w o d (deeds.shares s i k b e m) none = coat_lists w d.world e
deed_lists w o d (deeds.grows s k f e m) none =
    coat_lists (put_own w s.poll.run (own_of w s.poll.run ++ f ∷ [])) d.world e
deed_lists w o d (deeds.wakes p x e z) none = coat_lists w d.world e
deed_lists w o d (deeds.lists h l) none = list_lists h l w none

pub enlists_next : (p : ℕ) (h : Hint) (o : Op) (w : World) → enlists o ≡ 0 → weigh enlists (act p h o w).next ≡ 0
enlists_next p h o w none = deed_none w o (act p h o w) (deed-act p h o w) none

pub lists_stay : (p : ℕ) (h : Hint) (o : Op) (w : World) → enlists o ≡ 0 → ListsSo w (act p h o w).world
lists_stay p h o w none = deed_lists w o (act p h o w) (deed-act p h o w) none

-- before user code is called next
pub alone_lists : (p : ℕ) (hints : List Hint) (w : World) (os : List Op) → due enlists os ≡ 0
    → ListsSo w (alone p hints (done w os)).world
alone_lists p hints w os none =
    alone_kept enlists ListsSo (λ p h o w goes none. enlists_next p h o w none) lists_stay (λ p h o w. lists_stay p h (Op.User o) w refl)
    (λ w. refl) (λ u w x one two. two ∙ one) p hints w os none

with_lists : (w : World) (x : Option ℕ) (d : ℕ → Done) → ((f : ℕ) → ListsSo w (d f).world) → ListsSo w (with_future w x d).world
with_lists w (Some f) d same = same f
with_lists w None d same = refl

pub begins_list : (p : ℕ) (w : World) (here : Option Waker) (c : Call) → ListsSo w (begun p w here c).world
begins_list p w here (Call.Wake n) = with_lists w (kept w n) _ (λ f. refl)
begins_list p w here (Call.WakeByRef n) = with_lists w (kept w n) _ (λ f. refl)
begins_list p w here (Call.Copy n) = with_lists w (kept w n) _ (λ f. refl)
begins_list p w here (Call.DropWaker n) = with_lists w (kept w n) _ (λ f. refl)
begins_list p w here Call.Keep = with_lists w (future_of here) _ (λ f. refl)
begins_list p w here Call.WakeSelf = with_lists w (future_of here) _ (λ f. refl)
begins_list p w here c = refl

pub reacts_list : (p : ℕ) (o : Op) (u : UserEnd) (w : World) → ListsSo w (react p o u w).world
reacts_list p (Op.User (UserOp.Poll f)) (UserEnd.Polled Answer.Pending) w = refl
reacts_list p (Op.User (UserOp.Poll f)) (UserEnd.Polled Answer.Ready) w = refl
reacts_list p (Op.User (UserOp.Poll f)) UserEnd.Done w = refl
reacts_list p (Op.User (UserOp.PollOwn x)) (UserEnd.Polled Answer.Pending) w = refl
reacts_list p (Op.User (UserOp.PollOwn x)) (UserEnd.Polled Answer.Ready) w = refl
reacts_list p (Op.User (UserOp.PollOwn x)) UserEnd.Done w = refl
reacts_list p o u w = refl
