-- The last calls of an executor happen.
use Rattle.std.proofs.Common.{◌≡◌, ℕ, suc, ◌<◌, ◌≤◌, Bool, true, false, List, [], ◌∷◌, ◌++◌, length, refl, sym, ap, subst, ◌∙◌}
use Rattle.std.proofs.Common.{arith}
use Rattle.executor_parts.specs.declared.mark.Mark.TheVariants.{Plain as PlainMark}
use Rattle.solo.specs.declared.names.Task.{Task}
use Rattle.solo.specs.declared.names.SoloWaker.{SoloWaker}
use Rattle.solo.specs.declared.names.SoloWaker.TheVariants.{Task as OfTask, Outside}
use Rattle.solo.specs.declared.owed.Lent.{Lent}
use Rattle.solo.specs.declared.solo.Solo.{Solo}
use Rattle.solo.specs.Closing as closing
use Rattle.solo.specs.Solo as solo
use Rattle.plain_scheduler.specs.State.{Answers, Choice, Close, Code, Done, Drop, DropOwn, Drops, Event, Lose, Plain, Poll, PollOwn}
use Rattle.plain_scheduler.specs.State.{Refusal}
use Rattle.plain_scheduler.specs.Calls as plain
use Rattle.plain_scheduler.specs.Calls.{Call, DropExecutor, Ends, does, is_granted, living_from}
use Rattle.solo_laws.specs.Closing.{GoesOn, IsClosing}
use Rattle.solo_laws.specs.Courses.{Makes, cancels, copies, detaches, drops_handle, polls, releases, uses, wakes}
use Rattle.solo_laws.specs.LastCalls.{After, Closes, IsDropped, Meanwhile, and_then, drops_output, first_drop, last_drop}
use Rattle.solo_laws.specs.LastCalls.{meanwhile, next_drop}
use Rattle.solo_laws.specs.LastCalls.{is_on_task, no_drop, on_task, over}
use Rattle.solo_laws.specs.LastMaking.{AllowsMeanwhile, HappensMeanwhile, IsLosing, MayClose, MayDrop, MayGoAfter, MayGoOn}
use Rattle.solo_laws.specs.LastMaking.{HappenLast, MayMeanwhile, calls_meanwhile, drops_last, drops_next, fits}
use Rattle.solo_laws.specs.Making.{AreWished, Wish, copy_refusal}
use Rattle.solo_laws.specs.NoneLost.{NoneIsLost}
use Rattle.solo_laws.specs.Road.{HasLife, IsNamed, wakes as wakes_of}
use Rattle.solo_laws.specs.Tabled.{Stands, named}
use Rattle.solo_laws.proofs.Following.AtHome.{all_there}
use Rattle.solo_laws.proofs.Following.Freeing.{closes_alike, goes_on_alike}
use Rattle.solo_laws.proofs.Happening.Choosing.{fewer}
use Rattle.solo_laws.proofs.Showing.LastCalls.{meanwhile_alike}

abbrev chosen : ℕ → Refusal → Choice
chosen n refusal = record { first = PlainMark; keeps = []; robs = 0; moves = 0; tells = suc n; refusal = refusal }

one_more : (n : ℕ) → n < suc n
one_more n = omega arith

within : (n m : ℕ) → n < m → n ≤ m
within n m less = omega (arith, less)

poll_granted : (b : Bool) → is_granted (copy_refusal b) ≡ b
poll_granted true = refl
poll_granted false = refl

module _ {F T X : Type 0} (its : ℕ → Lent) where
  module _ (s : Solo F T X) (p : Plain T (SoloWaker X)) (refusal : Refusal) (first second name : ℕ) where
    abbrev wish : Call T (SoloWaker X) → Wish T (SoloWaker X)
    wish call = record { call = call; refusal = refusal; first = first; second = second; name = name }

    abbrev base : Choice
    base = chosen (length p.lying) refusal

    is_on : (call : Call T (SoloWaker X)) (shown : List (Event T (SoloWaker X))) (z : Solo F T X)
        → Meanwhile its base s p call shown z → HappensMeanwhile its s p (wish call)
    is_on call shown z how = record {
      choice = base;
      shown = shown;
      after = z;
      how = how;
      tells = one_more (length p.lying);
      refused = refl;
    }

    -- so many more tasks may come
    module _ (life : HasLife 14 s.lines) where
      two : HasLife 2 s.lines
      two = fewer 2 14 s.lines (omega arith) life

      loses : IsLosing its s p p.inside → HappensMeanwhile its s p (wish Ends)
      loses may = by p.inside refl may
        where
          by : (cs : List (Code T (SoloWaker X))) → p.inside ≡ cs → IsLosing its s p cs → HappensMeanwhile its s p (wish Ends)
          by [] is may = absurd may
          by (Poll f taker ∷ rest) is may = absurd may
          by (Drop f end taker ∷ rest) is may = absurd may
          by (Lose awaiter taker ∷ rest) is may = is_on Ends _ _ (drops_output awaiter taker rest may is two)
          by (PollOwn r w ∷ rest) is may = absurd may
          by (DropOwn r answer ∷ rest) is may = absurd may
          by (Close fs ns ∷ rest) is may = absurd may

      called : (call : Call T (SoloWaker X)) (shown : List (Event T (SoloWaker X))) (z : Solo F T X) → is_on_task call ≡ true
          → Makes its base s p call shown z → HappensMeanwhile its s p (wish call)
      called call shown z on how = is_on call shown z (on_task call shown z on how)

      polled : (f : ℕ) (w : SoloWaker X) → AllowsMeanwhile its s p (plain.PollHandle f w)
          → refusal ≡ fits its s p refusal (plain.PollHandle f w) → HappensMeanwhile its s p (wish (plain.PollHandle f w))
      polled f (Outside w) may fit =
          called (plain.PollHandle f (Outside w)) _ _ refl (polls f (Outside w) may.0 may.1 (λ t is. absurd cc) two)
      polled f (OfTask u) may fit =
          called (plain.PollHandle f (OfTask u)) _ _ refl
          (polls f (OfTask u) may.0 may.1
          (λ t is. subst (λ t. IsNamed (named its) (length p.futures) t × (is_granted refusal ≡ solo.may_hold t s)) (ap task_in is)
          (may.2, ap (λ r. is_granted r) fit ∙ poll_granted (solo.may_hold u s))) two)
        where
          task_in : SoloWaker X → Task
          task_in (OfTask t) = t
          task_in (Outside w) = u

      pub meanwhile_happens : (call : Call T (SoloWaker X)) → AllowsMeanwhile its s p call → refusal ≡ fits its s p refusal call
          → HappensMeanwhile its s p (wish call)
      meanwhile_happens (plain.Wake f) may fit = called (plain.Wake f) _ _ refl (wakes f may two)
      meanwhile_happens (plain.Use f) may fit = called (plain.Use f) _ _ refl (uses f may two)
      meanwhile_happens (plain.Copy f) may fit = called (plain.Copy f) _ _ refl (copies f may fit)
      meanwhile_happens (plain.Release f) may fit = called (plain.Release f) _ _ refl (releases f may two)
      meanwhile_happens (plain.PollHandle f w) may fit = polled f w may fit
      meanwhile_happens (plain.Cancel f) may fit =
          called (plain.Cancel f) _ _ refl (cancels f may (fewer 5 14 s.lines (omega arith) life))
      meanwhile_happens (plain.Detach f) may fit = called (plain.Detach f) _ _ refl (detaches f may two)
      meanwhile_happens (plain.DropHandle f) may fit =
          called (plain.DropHandle f) _ _ refl (drops_handle f may (fewer 8 14 s.lines (omega arith) life))
      meanwhile_happens plain.Ends may fit = loses may
      meanwhile_happens call may fit = absurd may

  happens_meanwhile : (s : Solo F T X) (p : Plain T (SoloWaker X)) (x : Wish T (SoloWaker X)) → MayMeanwhile its s p x
      → HappensMeanwhile its s p x
  happens_meanwhile s p x may = meanwhile_happens s p x.refusal x.first x.second x.name may.life x.call may.allowed may.refusal

  -- and so, once the drop has come to its end
  record GoesAfter (xs : List (Wish T (SoloWaker X))) (s : Solo F T X) (p : Plain T (SoloWaker X)) : Type 0 where
    pub calls : List (Choice × Call T (SoloWaker X))
    pub shown : List (Event T (SoloWaker X))
    pub after : Solo F T X
    pub how : After its calls s p shown after
    pub wished : AreWished xs calls

  goes_after : (xs : List (Wish T (SoloWaker X))) (s : Solo F T X) (p : Plain T (SoloWaker X)) → MayGoAfter its xs s p → GoesAfter xs s p
  goes_after [] s p may = record { calls = []; shown = []; after = s; how = over s p; wished = tt }
  goes_after (x ∷ xs) s p may =
      let it = happens_meanwhile s p x may.0 in
      let rest = goes_after xs it.after (does wakes_of it.choice x.call p) (may.1 it) in
      record {
        calls = (it.choice, x.call) ∷ rest.calls;
        shown = it.shown ++ rest.shown;
        after = rest.after;
        how =
            and_then it.choice x.call rest.calls s it.after rest.after p it.shown rest.shown
            (within (length p.lying) it.choice.tells it.tells) it.how rest.how;
        wished = (refl, it.refused, rest.wished);
      }

  record GoesToEnd (all : List ℕ) (xs : List (Wish T (SoloWaker X))) (gone left : List ℕ) (s : Solo F T X) (p : Plain T (SoloWaker X))
      : Type 0 where
    pub calls : List (Choice × Call T (SoloWaker X))
    pub shown : List (Event T (SoloWaker X))
    pub after : Solo F T X
    pub how : Closes its all gone left calls s p shown after
    pub wished : AreWished xs calls

  goes_to_end : (all : List ℕ) (xs : List (Wish T (SoloWaker X))) (gone left : List ℕ) (s : Solo F T X) (p : Plain T (SoloWaker X))
      → IsClosing its all gone left s p → MayClose its all xs left s p → GoesToEnd all xs gone left s p
  goes_to_end all xs gone left s p r (calls_meanwhile x xs' left' s' p' may on) =
      let it = happens_meanwhile s' p' x may in
      let many = within (length p'.lying) it.choice.tells it.tells in
      let next = (meanwhile_alike its all gone left' it.choice s' it.after p' x.call it.shown r many it.how).0 in
      let rest = goes_to_end all xs' gone left' it.after (does wakes_of it.choice x.call p') next (on it) in
      record {
        calls = (it.choice, x.call) ∷ rest.calls;
        shown = it.shown ++ rest.shown;
        after = rest.after;
        how = meanwhile gone left' it.choice x.call rest.calls s' it.after rest.after p' it.shown rest.shown many it.how rest.how;
        wished = (refl, it.refused, rest.wished);
      }
  goes_to_end all xs gone left s p r (drops_next x xs' f left' inside s' p' is_end is life on) =
      let c = chosen (length p'.lying) x.refusal in
      let many = within (length p'.lying) c.tells (one_more (length p'.lying)) in
      let it = goes_on_alike its c s' p' all gone (f ∷ left') inside r is many life in
      let rest =
      goes_to_end all xs' (gone ++ f ∷ []) left' (closing.drained s') (does wakes_of c Ends p') it.stands
      (on c (one_more (length p'.lying))) in
      record {
        calls = (c, Ends) ∷ rest.calls;
        shown = Drops f ∷ rest.shown;
        after = rest.after;
        how = next_drop gone f left' c rest.calls inside s' rest.after p' rest.shown is many life rest.how;
        wished = (sym is_end, refl, rest.wished);
      }
  goes_to_end all xs gone left s p r (drops_last x xs' inside s' p' is_end is life on) =
      let c = chosen (length p'.lying) x.refusal in
      let many = within (length p'.lying) c.tells (one_more (length p'.lying)) in
      let it = goes_on_alike its c s' p' all gone [] inside r is many life in
      let rest = goes_after xs' it.last (does wakes_of c Ends p') (on c it.last it.shown (one_more (length p'.lying)) it.drains) in
      record {
        calls = (c, Ends) ∷ rest.calls;
        shown = (it.shown ++ Answers Done ∷ []) ++ rest.shown;
        after = rest.after;
        how = last_drop gone c rest.calls inside s' it.last rest.after p' it.shown rest.shown is many life it.drains rest.how;
        wished = (sym is_end, refl, rest.wished);
      }

  -- from where both stand alike
  pub last_calls_happen : (s : Solo F T X) (p : Plain T (SoloWaker X)) → Stands its s p → NoneIsLost p → (x : Wish T (SoloWaker X))
      (xs : List (Wish T (SoloWaker X))) → MayDrop its s p x xs → HappenLast its s p (x ∷ xs)
  last_calls_happen s p so all x xs may = by (living_from 0 p.futures) refl may.goes
    where
      c : Choice
      c = chosen (length p.lying) x.refusal

      few : length p.lying < (chosen (length p.lying) x.refusal).tells
      few = one_more (length p.lying)

      many : length p.lying ≤ (chosen (length p.lying) x.refusal).tells
      many = within (length p.lying) (suc (length p.lying)) (one_more (length p.lying))

      ready : IsDropped its s p (chosen (length p.lying) x.refusal)
      ready = record { owned = may.owned; unpolled = may.unpolled; undropped = may.undropped; few = many; life = may.life }

      begins : (fs : List ℕ) → living_from 0 p.futures ≡ fs
          → GoesOn its (closing.closed s) p (does wakes_of (chosen (length p.lying) x.refusal) DropExecutor p) fs [] fs
      begins fs living =
          subst (λ fs. GoesOn its (closing.closed s) p (does wakes_of (chosen (length p.lying) x.refusal) DropExecutor p) fs [] fs) living
          (closes_alike its (chosen (length p.lying) x.refusal) s p so may.owned
          (all_there its s p so all may.unpolled may.undropped) many may.life)

      by : (fs : List ℕ) → living_from 0 p.futures ≡ fs → MayGoOn its s p fs xs → HappenLast its s p (x ∷ xs)
      by [] living on =
          let c = chosen (length p.lying) x.refusal in
          let it = begins [] living in
          let rest = goes_after xs it.last (does wakes_of c DropExecutor p) (on c it.last it.shown few it.drains) in
          record {
            calls = (c, DropExecutor) ∷ rest.calls;
            shown = (it.shown ++ Answers Done ∷ []) ++ rest.shown;
            after = rest.after;
            last = no_drop c rest.calls it.last rest.after it.shown rest.shown living ready it.drains rest.how;
            wished = (sym may.call, refl, rest.wished);
          }
      by (f ∷ left) living on =
          let c = chosen (length p.lying) x.refusal in
          let it = begins (f ∷ left) living in
          let rest =
          goes_to_end (f ∷ left) xs (f ∷ []) left (closing.drained (closing.closed s)) (does wakes_of c DropExecutor p) it.stands
          (on c few) in
          record {
            calls = (c, DropExecutor) ∷ rest.calls;
            shown = Drops f ∷ rest.shown;
            after = rest.after;
            last = first_drop c f left rest.calls rest.after rest.shown living ready rest.how;
            wished = (sym may.call, refl, rest.wished);
          }
