-- From the executor's drop on no call looks for a future: what the machine's steps begin and answer, and what it refuses, says it all.
use Rattle.std.proofs.Common.{◌≡◌, ℕ, ◌≤◌, ◌++◌, true, false, List, [], ◌∷◌, length, map, Option, Some, None, refl, sym, ap, subst, ◌∙◌}
use Rattle.executor_model.specs.declared.op.Waker.{Waker}
use Rattle.executor_model.specs.Quiet.{IsQuiet}
use Rattle.executor_model.specs.Steps.{Machine}
use Rattle.executor_model.proofs.Steps.Reached.{Reached}
use Rattle.solo.specs.declared.names.SoloWaker.{SoloWaker}
use Rattle.solo.specs.declared.owed.Lent.{Lent}
use Rattle.solo.specs.declared.solo.Solo.{Solo}
use Rattle.solo.specs.Closing as closing
use Rattle.plain_scheduler.specs.State.{Choice, Close, Code, Event, Lose, Plain, Run, Taker, Tick, Try}
use Rattle.plain_scheduler.specs.Calls as calls
use Rattle.plain_scheduler.specs.Calls.{Call, course, does}
use Rattle.plain_scheduler.specs.Searches.{searches_inside}
use Rattle.plain_laws.specs.Searches.{looks_first}
use Rattle.machine_roads.specs.DropActs.{AreDropActs, DropActAlike, StandsDropping}
use Rattle.machine_roads.specs.Road.{Follows}
use Rattle.machine_roads.specs.Seeing.{heard_in, shown as shown_alike}
use Rattle.machine_roads.specs.View.{Output, wakes as wakes_in}
use Rattle.machine_roads.specs.Within.{Act, standing}
use Rattle.solo_laws.specs.Dropping.{ends_one}
use Rattle.solo_laws.specs.LastCalls.{After, Closes, LastCalls, Meanwhile, and_then, drops_output, first_drop, is_on_task, last_drop}
use Rattle.solo_laws.specs.LastCalls.{meanwhile, next_drop, no_drop, on_task, over}
use Rattle.solo_laws.specs.Road.{wakes}
use Rattle.two_roads.specs.Acting.{AreEndsOfSteps, EndOfSteps, drop_acts_by, left_of}
use Rattle.two_roads.specs.Renaming.{renamed}
use Rattle.two_roads.specs.Together.{nothing, numbered}
use Rattle.two_roads.proofs.Acted.{IsAside, aside_alike, one_same}
use Rattle.two_roads.proofs.Both.{wakes_so}
use Rattle.two_roads.proofs.Calling.{calls_same}
use Rattle.two_roads.proofs.DropAtRest.{drop_acts_rest}
use Rattle.two_roads.proofs.InDrop.{drop_acts_seen, drop_seen}
use Rattle.two_roads.proofs.Refusing.{Lie, lie_in_drop}

-- each call tells who lay down last, and looks for none
module _ {T X : Type 0} where
  abbrev pub AllAside : List (Choice × Call T (SoloWaker X)) → Plain T (SoloWaker X) → Type 0
  AllAside [] p = Unit {0}
  AllAside (x ∷ xs) p = IsAside wakes x.0 p x.1 × (length p.lying ≤ x.0.tells) × AllAside xs (does wakes x.0 x.1 p)

  -- what is done with tasks
  on_aside : (c : Choice) (p : Plain T (SoloWaker X)) (call : Call T (SoloWaker X)) → is_on_task call ≡ true → IsAside wakes c p call
  on_aside c p call on = record { looks = looks call on; unsought = none call on p.inside }
    where
      looks : (call : Call T (SoloWaker X)) → is_on_task call ≡ true → looks_first call ≡ false
      looks calls.TryTick on = absurd cc
      looks (calls.PollTick t w) on = absurd cc
      looks _ on = refl

      none : (call : Call T (SoloWaker X)) → is_on_task call ≡ true → (codes : List (Code T (SoloWaker X)))
          → searches_inside wakes c call codes p ≡ None
      none call on [] = refl
      none calls.Pends on (code ∷ codes) = absurd cc
      none calls.Ends on (code ∷ codes) = absurd cc
      none call on (code ∷ codes) = refl

  -- the end of the drop of an output, or of a future as the executor is dropped
  loss_aside : (c : Choice) (p : Plain T (SoloWaker X)) (awaiter : Option (SoloWaker X)) (by : Option (Taker (SoloWaker X)))
      (rest : List (Code T (SoloWaker X))) → ends_one by ≡ true → p.inside ≡ Lose awaiter by ∷ rest → IsAside wakes c p calls.Ends
  loss_aside c p awaiter by rest one is = record {
    looks = refl;
    unsought = ap (λ codes. searches_inside wakes c calls.Ends codes p) is ∙ none by one;
  }
    where
      none : (by : Option (Taker (SoloWaker X))) → ends_one by ≡ true → searches_inside wakes c calls.Ends (Lose awaiter by ∷ rest) p ≡ None
      none None one = refl
      none (Some Try) one = refl
      none (Some (Tick t w)) one = refl
      none (Some (Run r w)) one = absurd cc

  close_aside : (c : Choice) (p : Plain T (SoloWaker X)) (fs all : List ℕ) (rest : List (Code T (SoloWaker X)))
      → p.inside ≡ Close fs all ∷ rest → IsAside wakes c p calls.Ends
  close_aside c p fs all rest is =
      record { looks = refl; unsought = ap (λ codes. searches_inside wakes c calls.Ends codes p) is }

  drop_aside : (c : Choice) (p : Plain T (SoloWaker X)) → IsAside wakes c p calls.DropExecutor
  drop_aside c p = record { looks = refl; unsought = none p.inside }
    where
      none : (codes : List (Code T (SoloWaker X))) → searches_inside wakes c calls.DropExecutor codes p ≡ None
      none [] = refl
      none (code ∷ codes) = refl

module _ {F T X : Type 0} (its : ℕ → Lent) where
  meanwhile_aside : (c : Choice) (y : Solo F T X) (p : Plain T (SoloWaker X)) (call : Call T (SoloWaker X))
      (shown : List (Event T (SoloWaker X))) (z : Solo F T X) → Meanwhile its c y p call shown z → IsAside wakes c p call
  meanwhile_aside c y p call shown z (on_task call' shown' z' on made) = on_aside c p call' on
  meanwhile_aside c y p call shown z (drops_output awaiter by rest one is life) = loss_aside c p awaiter by rest one is

  after_aside : (cs : List (Choice × Call T (SoloWaker X))) (s z : Solo F T X) (p : Plain T (SoloWaker X))
      (shown : List (Event T (SoloWaker X))) → After its cs s p shown z → AllAside cs p
  after_aside cs s z p shown (over t q) = tt
  after_aside cs s z p shown (and_then c call rest t y u q shows others tells made on) =
      (meanwhile_aside c t q call shows y made, tells, after_aside rest y u (does wakes c call q) others on)

  closes_aside : (all gone left : List ℕ) (cs : List (Choice × Call T (SoloWaker X))) (s z : Solo F T X) (p : Plain T (SoloWaker X))
      (shown : List (Event T (SoloWaker X))) → Closes its all gone left cs s p shown z → AllAside cs p
  closes_aside all gone left cs s z p shown (meanwhile g l c call rest t y u q shows others tells made on) =
      (meanwhile_aside c t q call shows y made, tells, closes_aside all g l rest y u (does wakes c call q) others on)
  closes_aside all gone left cs s z p shown (next_drop g f l c rest inside t u q others is tells life on) = (
    close_aside c q (f ∷ l) all inside is,
    tells,
    closes_aside all (g ++ f ∷ []) l rest (closing.drained t) u (does wakes c calls.Ends q) others on,
  )
  closes_aside all gone left cs s z p shown (last_drop g c rest inside t y u q shows others is tells life drains on) =
      (close_aside c q [] all inside is, tells, after_aside rest y u (does wakes c calls.Ends q) others on)

  pub last_aside : (s : Solo F T X) (p : Plain T (SoloWaker X)) (cs : List (Choice × Call T (SoloWaker X)))
      (others : List (Event T (SoloWaker X))) (z : Solo F T X) → LastCalls its s p cs others z → AllAside cs p
  last_aside s p cs others z (first_drop c f left rest u shown is dropped on) = (
    drop_aside c p,
    dropped.few,
    closes_aside (f ∷ left) (f ∷ []) left rest (closing.drained (closing.closed s)) u (does wakes c calls.DropExecutor p) shown on,
  )
  last_aside s p cs others z (no_drop c rest y u shows shown is dropped drains on) =
      (drop_aside c p, dropped.few, after_aside rest y u (does wakes c calls.DropExecutor p) shown on)

module _ {T X : Type 0} (number : X → ℕ) where
  drop_acted : (s : Machine) (q : Plain Output Waker) (acts : List Act) (go : DropActAlike s q acts) (p : Plain T (SoloWaker X))
      (cs : List (Choice × Call T (SoloWaker X))) → Lie s.world q → renamed nothing (numbered number) p ≡ q → AreEndsOfSteps number s acts
      p cs
      → AllAside cs p
      → renamed nothing (numbered number) (course wakes cs p) ≡ course wakes_in (drop_acts_by s q acts go) q
  drop_acted s q [] go p [] lie is are tell = is
  drop_acted s q [] go p (x ∷ xs) lie is are tell = absurd are
  drop_acted s q (a ∷ acts) go p [] lie is are tell = absurd are
  drop_acted s q (a ∷ acts) go p (x ∷ xs) lie is are tell =
      let stands = standing a.left a.party in
      let then_lie = lie_in_drop stands go.0 go.2 in
      let one = one_same number s a q go.0 go.1 lie (drop_seen stands go.0 go.2) then_lie p x.0 x.1 is are.0.made are.0.refused
      (aside_alike wakes x.0 go.1.choice p x.1 tell.0) tell.1 in
      drop_acted a.left go.0 acts go.3 (does wakes x.0 x.1 p) xs then_lie one are.1 tell.2
      ∙ ap (course wakes_in (drop_acts_by a.left go.0 acts go.3)) (sym go.1.so)

  -- from the executor's drop on
  module _ (a : Act) (later : List Act) (r : Plain Output Waker) (p : Plain T (SoloWaker X)) (x : Choice × Call T (SoloWaker X))
      (xs : List (Choice × Call T (SoloWaker X))) (is : renamed nothing (numbered number) p ≡ r)
      (are : EndOfSteps number a later p (x ∷ xs))
      (tell : AllAside (x ∷ xs) p)
      (on : StandsDropping (standing a.left a.party) (does wakes_in x.0 calls.DropExecutor r)
      × DropActAlike a.left (does wakes_in x.0 calls.DropExecutor r) later) where
    pub end_same : renamed nothing (numbered number) (course wakes (x ∷ xs) p)
        ≡ course wakes_in (drop_acts_by a.left (does wakes_in x.0 calls.DropExecutor r) later on.1)
        (does wakes_in x.0 calls.DropExecutor r)
    end_same =
        let r1 : Plain Output Waker = does wakes_in x.0 calls.DropExecutor r in
        let one : renamed nothing (numbered number) (does wakes x.0 x.1 p) ≡ r1 =
        ap (λ (call : Call T (SoloWaker X)). renamed nothing (numbered number) (does wakes x.0 call p)) are.0
        ∙ (calls_same nothing (numbered number) wakes wakes_in (wakes_so number) x.0 x.0 calls.DropExecutor p
        (record { refusal = refl; tells = tell.1; tells_so = tell.1; takes = tt })
        ∙ ap (λ (z : Plain Output Waker). does wakes_in x.0 calls.DropExecutor z) is) in
        drop_acted a.left r1 later on.1 (does wakes x.0 x.1 p) xs (lie_in_drop (standing a.left a.party) r1 on.0) one are.1
        tell.2

  pub ends_acted : (a : Act) (later : List Act) (r : Plain Output Waker) (p : Plain T (SoloWaker X))
      (ends : List (Choice × Call T (SoloWaker X))) → renamed nothing (numbered number) p ≡ r → EndOfSteps number a later p ends
      → AllAside ends p
      → ((d : Choice) → StandsDropping (standing a.left a.party) (does wakes_in d calls.DropExecutor r)
      × DropActAlike a.left (does wakes_in d calls.DropExecutor r) later)
      → heard_in (left_of a.left later).world.trace
      ≡ map shown_alike (renamed nothing (numbered number) (course wakes ends p)).events
  ends_acted a later r p [] is are tell on = absurd are
  ends_acted a later r p (x ∷ xs) is are tell on =
      let r1 : Plain Output Waker = does wakes_in x.0 calls.DropExecutor r in
      drop_acts_seen a.left r1 later (on x.0).1 (drop_seen (standing a.left a.party) r1 (on x.0).0)
      ∙ ap (λ (z : Plain Output Waker). map shown_alike z.events) (sym (end_same a later r p x xs is are tell (on x.0)))

  -- and once no call is in progress any more both stand alike
  pub ends_rest : (a : Act) (later : List Act) (r : Plain Output Waker) (p : Plain T (SoloWaker X))
      (ends : List (Choice × Call T (SoloWaker X))) → renamed nothing (numbered number) p ≡ r → EndOfSteps number a later p ends
      → AllAside ends p
      → ((d : Choice) → StandsDropping (standing a.left a.party) (does wakes_in d calls.DropExecutor r)
      × DropActAlike a.left (does wakes_in d calls.DropExecutor r) later)
      → Reached a.left → AreDropActs a.left later → IsQuiet (left_of a.left later).world.trace
      → Follows (left_of a.left later).world (renamed nothing (numbered number) (course wakes ends p))
  ends_rest a later r p [] is are tell on reached they quiet = absurd are
  ends_rest a later r p (x ∷ xs) is are tell on reached they quiet =
      let r1 : Plain Output Waker = does wakes_in x.0 calls.DropExecutor r in
      subst (λ z. Follows (left_of a.left later).world z) (sym (end_same a later r p x xs is are tell (on x.0)))
      (drop_acts_rest later a.left a.party r1 reached (on x.0).0 (on x.0).1 they quiet)
