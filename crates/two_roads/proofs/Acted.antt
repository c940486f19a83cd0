-- A call by what its owner chooses is the machine's act, where both refuse and take alike.
use Rattle.std.proofs.Common.{◌≡◌, ℕ, ◌<◌, ◌≤◌, nat_lt, not, Bool, true, false, length, map, Option, Some, None, refl, sym, ap, subst, ◌∙◌}
use Rattle.std.proofs.Common.{arith}
use Rattle.executor_parts.specs.Marks.{first_of}
use Rattle.executor_model.specs.declared.op.Waker.{Waker}
use Rattle.executor_model.specs.declared.step.Step.{Step}
use Rattle.executor_model.specs.declared.step.Step.TheVariants.{Answer, Begin, Go}
use Rattle.executor_model.specs.Steps.{Machine}
use Rattle.executor_model.specs.World.{World}
use Rattle.solo.specs.declared.names.SoloWaker.{SoloWaker}
use Rattle.plain_scheduler.specs.State.{Answers, Choice, Event, Gives, Plain, Refusal}
use Rattle.plain_scheduler.specs.Calls as calls
use Rattle.plain_scheduler.specs.Calls.{Call, does}
use Rattle.plain_scheduler.specs.Lists.{or}
use Rattle.plain_scheduler.specs.Searches.{Search, finds, searches}
use Rattle.plain_laws.specs.Searches.{looks_first}
use Rattle.plain_laws.proofs.Searching.{tell_it}
use Rattle.machine_roads.specs.Refused.{IsLaterAnew}
use Rattle.machine_roads.specs.Road.{uncalled}
use Rattle.machine_roads.specs.Seeing.{heard_in, shown as shown_alike}
use Rattle.machine_roads.specs.View.{Output, wakes as wakes_in}
use Rattle.machine_roads.specs.Within.{Act, ActsBy, IsChosenAt, IsMade, start_in}
use Rattle.machine_roads.proofs.Lists.{clash}
use Rattle.solo_laws.specs.Road.{wakes}
use Rattle.two_roads.specs.Refusing.{asks_memory, ends_refused, refused_in, refused_so}
use Rattle.two_roads.specs.Renaming.{CallsAlike, call_as, is_refusal, lying_as, renamed}
use Rattle.two_roads.specs.Together.{nothing, numbered}
use Rattle.two_roads.proofs.Both.{wakes_so}
use Rattle.two_roads.proofs.Calling.{calls_same, setting}
use Rattle.two_roads.proofs.Meant.{is_begin, one_made}
use Rattle.two_roads.proofs.Refusing.{Lie, asks_so, map_last, seen_refused, unasked}
use Rattle.two_roads.proofs.Words.{length_map}

refusal_shown : (e : Event Output Waker) → is_refusal (shown_alike e) ≡ is_refusal e
refusal_shown (Answers (Gives v)) = refl
refusal_shown e = refl

-- what the machine's road says of what is chosen
pub first_at : (w : World) (q : Plain Output Waker) (d : Choice) (t : Step) → is_begin t ≡ true → IsChosenAt t w q d
    → d.first ≡ first_of w.urgent_turns
first_at w q d (Begin p c) begins chosen = chosen.first
first_at w q d (Go p h) begins chosen = absurd cc
first_at w q d (Answer p u) begins chosen = absurd cc

pub tells_at : (w : World) (q : Plain Output Waker) (d : Choice) (t : Step) → IsChosenAt t w q d → length q.lying < d.tells
tells_at w q d (Begin p c) chosen = chosen.tells
tells_at w q d (Go p h) chosen = chosen
tells_at w q d (Answer p u) chosen = chosen

-- what is refused in an act is seen in what its call makes
pub seen_so : (s : Machine) (a : Act) (q r : Plain Output Waker) → Lie s.world q
    → heard_in a.left.world.trace ≡ map shown_alike r.events → Lie a.left.world r
    → refused_in s a ≡ refused_so (ends_refused r.events) (nat_lt (length (uncalled q.lying)) (length (uncalled r.lying)))
seen_so s a q r lie seen lie_then =
    ap
    (λ b. refused_so b (nat_lt (length s.world.sleepers.wakers) (length a.left.world.sleepers.wakers)))
    (ap (λ es. ends_refused es) seen ∙ map_last shown_alike refusal_shown r.events)
    ∙ (ap (λ n. refused_so (ends_refused r.events) (nat_lt n (length a.left.world.sleepers.wakers))) lie
    ∙ ap (λ n. refused_so (ends_refused r.events) (nat_lt (length (uncalled q.lying)) n)) lie_then)

-- a call in which none looks for a future: it may choose of takes what it likes
pub record IsAside {T A : Type 0} (wakes : A → Option ℕ) (c : Choice) (p : Plain T A) (call : Call T A) : Type 0 where
  pub looks : looks_first call ≡ false
  pub unsought : searches wakes c call p ≡ None

module _ {T A : Type 0} (wakes : A → Option ℕ) (c d : Choice) (p : Plain T A) where
  pub aside_alike : (call : Call T A) → IsAside wakes c p call → CallsAlike c d wakes p call
  aside_alike calls.TryTick aside = absurd (clash aside.looks refl)
  aside_alike (calls.PollTick t w) aside = absurd (clash aside.looks refl)
  aside_alike calls.Pends aside = λ x is found. absurd (none x (sym aside.unsought ∙ is))
    where
      none : (x : Search T A) → None ≡ Some x → ⊥
      none x is = cc
  aside_alike calls.Ends aside = λ x is found. absurd (none x (sym aside.unsought ∙ is))
    where
      none : (x : Search T A) → None ≡ Some x → ⊥
      none x is = cc
  aside_alike _ aside = tt

  -- what is refused is nothing to takes
  refused_here : (r : Refusal) (call : Call T A) → CallsAlike c d wakes p call → CallsAlike (record c { refusal = r }) d wakes p call
  refused_here r calls.TryTick so = so
  refused_here r (calls.PollTick t w) so = so
  refused_here r calls.Pends so = λ x is found.
      let z = so x (tell_it wakes c (record c { refusal = r }) calls.Pends p refl ∙ is) found in
      record { keeps = z.keeps; first = z.first; robs = z.robs; moves = z.moves }
  refused_here r calls.Ends so = λ x is found.
      let z = so x (tell_it wakes c (record c { refusal = r }) calls.Ends p refl ∙ is) found in
      record { keeps = z.keeps; first = z.first; robs = z.robs; moves = z.moves }
  refused_here r _ so = tt

  refused_there : (r : Refusal) (call : Call T A) → CallsAlike c d wakes p call → CallsAlike c (record d { refusal = r }) wakes p call
  refused_there r calls.TryTick so = so
  refused_there r (calls.PollTick t w) so = so
  refused_there r calls.Pends so = λ x is found.
      let z = so x is found in record { keeps = z.keeps; first = z.first; robs = z.robs; moves = z.moves }
  refused_there r calls.Ends so = λ x is found.
      let z = so x is found in record { keeps = z.keeps; first = z.first; robs = z.robs; moves = z.moves }
  refused_there r _ so = tt

module _ {T X : Type 0} (number : X → ℕ) where
  -- one act
  pub one_same : (s : Machine) (a : Act) (q r : Plain Output Waker) (by : ActsBy s a.party a.first q r a.left.world (start_in s a)) → Lie
      s.world q
      → heard_in a.left.world.trace ≡ map shown_alike r.events → Lie a.left.world r → (p : Plain T (SoloWaker X)) (c : Choice)
      (call : Call T (SoloWaker X)) → renamed nothing (numbered number) p ≡ q
      → IsMade s a.party a.first (call_as nothing (numbered number) call) → (asks_memory wakes c p call ≡ true → c.refusal ≡ refused_in s a)
      → CallsAlike c by.choice wakes p call → length p.lying ≤ c.tells
      → renamed nothing (numbered number) (does wakes c call p) ≡ r
  one_same s a q r by lie seen lie_then p c call is made refused takes tells = whether (asks_memory wakes c p call) refl
    where
      same_call : Call Output Waker
      same_call = call_as nothing (numbered number) call

      call_is : by.made ≡ same_call
      call_is = one_made s a.party a.first by.made same_call by.is made

      so : does wakes_in by.choice same_call q ≡ r
      so = ap (λ (x : Call Output Waker). does wakes_in by.choice x q) (sym call_is) ∙ by.so

      tells_so : length p.lying ≤ by.choice.tells
      tells_so =
          less (length p.lying) (length q.lying) by.choice.tells
          (sym (length_map (lying_as (numbered number)) p.lying) ∙ ap (λ (z : Plain Output Waker). length z.lying) is)
          (tells_at s.world q by.choice a.first by.chosen)
        where
          less : (n m t : ℕ) → n ≡ m → m < t → n ≤ t
          less n m t same below = omega (arith, same, below)

      -- with the machine's choice it asks where it does with this one
      asks_it : asks_memory wakes_in by.choice (renamed nothing (numbered number) p) same_call ≡ asks_memory wakes c p call
      asks_it =
          asks_so (setting nothing (numbered number) wakes wakes_in (wakes_so number) (record c { refusal = by.choice.refusal }) by.choice p
          tells tells_so refl) call p (least (length p.lying))
          ∙ asks_still call
        where
          least : (n : ℕ) → n ≤ n
          least n = omega arith

          asks_still : (call : Call T (SoloWaker X)) → asks_memory wakes (record c { refusal = by.choice.refusal }) p call
              ≡ asks_memory wakes c p call
          asks_still calls.Pends = ap (λ o. or o (λ (x : Search T (SoloWaker X)). not (finds x)) false)
              (tell_it wakes (record c { refusal = by.choice.refusal }) c calls.Pends p refl)
          asks_still calls.Ends = ap (λ o. or o (λ (x : Search T (SoloWaker X)). not (finds x)) false)
              (tell_it wakes (record c { refusal = by.choice.refusal }) c calls.Ends p refl)
          asks_still _ = refl

      whether : (b : Bool) → asks_memory wakes c p call ≡ b → renamed nothing (numbered number) (does wakes c call p) ≡ r
      whether true asks =
          let d : Choice = record by.choice { refusal = c.refusal } in
          let asks_there : asks_memory wakes_in by.choice q same_call ≡ true =
          ap (λ (z : Plain Output Waker). asks_memory wakes_in by.choice z same_call) (sym is) ∙ (asks_it ∙ asks) in
          calls_same nothing (numbered number) wakes wakes_in (wakes_so number) c d call p
          (record {
            refusal = refl;
            tells = tells;
            tells_so = tells_so;
            takes = refused_there wakes c by.choice p c.refusal call takes;
          })
          ∙ (ap (λ (z : Plain Output Waker). does wakes_in d same_call z) is
          ∙ (seen_refused by.choice c.refusal same_call q asks_there
          (subst (λ (z : Plain Output Waker). IsLaterAnew by.choice same_call q z) (sym so)
          (subst (λ (x : Call Output Waker). IsLaterAnew by.choice x q r) call_is by.anew))
          (subst
          (λ (z : Plain Output Waker). c.refusal
          ≡ refused_so (ends_refused z.events) (nat_lt (length (uncalled q.lying)) (length (uncalled z.lying))))
          (sym so) (refused asks ∙ seen_so s a q r lie seen lie_then))
          ∙ so))
      whether false asks =
          let d : Choice = record c { refusal = by.choice.refusal } in
          ap (λ (z : Plain T (SoloWaker X)). renamed nothing (numbered number) z)
          (sym (unasked wakes c by.choice.refusal call p asks))
          ∙ (calls_same nothing (numbered number) wakes wakes_in (wakes_so number) d by.choice call p
          (record {
            refusal = refl;
            tells = tells;
            tells_so = tells_so;
            takes = refused_here wakes c by.choice p by.choice.refusal call takes;
          })
          ∙ (ap (λ (z : Plain Output Waker). does wakes_in by.choice same_call z) is ∙ so))
