-- What a call takes of turns, what runs have counted behind it, and how a run takes in it, is the same in both.
use Rattle.std.proofs.Common.{◌≡◌, ℕ, ◌==◌, ◌&&◌, not, Bool, true, false, cond, List, [], ◌∷◌, map, find, is_some, Option, Some, None}
use Rattle.std.proofs.Common.{refl, sym, ap, subst, ◌∙◌}
use Rattle.std.specs.Option.{option_map}
use Rattle.executor_parts.specs.declared.mark.Mark.{Mark}
use Rattle.executor_parts.specs.declared.mark.Mark.TheVariants.{Plain as PlainMark, Urgent}
use Rattle.plain_scheduler.specs.State.{ARun, ATick, Choice, Code, Lying, Plain, Refusal, Who}
use Rattle.plain_scheduler.specs.Lists.{any, or}
use Rattle.plain_scheduler.specs.Moves.{is_common, is_kept, lies}
use Rattle.plain_scheduler.specs.Calls as calls
use Rattle.plain_scheduler.specs.Calls.{Call}
use Rattle.plain_scheduler.specs.Searches.{Search, finds, searches, searches_inside}
use Rattle.plain_scheduler.specs.Turns.{turns_of}
use Rattle.plain_scheduler.specs.Usual.{IsKeptByOthers, IsUsual, TakesAsUsual, counted_by, lies_uncalled, one_counted, run_turns}
use Rattle.plain_scheduler.specs.Usual.{searches_by, vain_turns}
use Rattle.plain_laws.proofs.Searching.{tell_it}
use Rattle.machine_roads.specs.Refused.{in_vain}
use Rattle.two_roads.specs.Refusing.{asks_memory}
use Rattle.two_roads.specs.Renaming.{SearchesAlike, TakesSo, call_as, lying_as}
use Rattle.two_roads.proofs.AsUsual.{take_alike}
use Rattle.two_roads.proofs.Moving.{Few, Setting, now}
use Rattle.two_roads.proofs.Sought.{Sought, both_search, none_searches, search_as, sought_alike}

-- who lies uncalled, by whatever waker
module _ {A B : Type 0} (waker : A → B) where
  here_as : (o : Option A) → is_some (option_map waker o) ≡ is_some o
  here_as (Some w) = refl
  here_as None = refl

  lies_as : (who : Who) (ls : List (Lying A)) → lies_uncalled who (map (lying_as waker) ls) ≡ lies_uncalled who ls
  lies_as who [] = refl
  lies_as who (l ∷ ls) = by (lies who l) (lies_as who ls)
    where
      by : (b : Bool) → lies_uncalled who (map (lying_as waker) ls) ≡ lies_uncalled who ls
          → or (cond b (Some (lying_as waker l)) (find (lies who) (map (lying_as waker) ls))) (λ l. is_some l.waker) false
          ≡ or (cond b (Some l) (find (lies who) ls)) (λ l. is_some l.waker) false
      by true rest = here_as l.waker
      by false rest = rest

  vain_as : (r : Refusal) (who : Who) (ls : List (Lying A)) → vain_turns r who (map (lying_as waker) ls) ≡ vain_turns r who ls
  vain_as r who ls = ap (λ b. cond b 1 (searches_by r)) (lies_as who ls)

module _ {T U A B : Type 0} (k : Setting T U A B) (call : Call T A) (p : Plain T A) (few : Few k p) where
  abbrev call_there : Call U B
  call_there = call_as k.output k.waker call

  abbrev here : Option (Search T A)
  here = searches k.wakes k.choice call p

  abbrev there : Option (Search U B)
  there = searches k.wakes_as k.other call_there (now k p)

  pub counts_alike : (these those : ℕ → ℕ) → ((j : ℕ) → those j ≡ these j) → (j : ℕ)
      → counted_by k.wakes_as k.other call_there (now k p) those j ≡ counted_by k.wakes k.choice call p these j
  counts_alike these those same j = by here there (sought_alike k call p few)
    where
      by : (o : Option (Search T A)) (o_as : Option (Search U B)) → Sought k o o_as
          → or o_as (λ x. cond ((j == x.run) && finds x) (one_counted (those j)) (those j)) (those j)
          ≡ or o (λ x. cond ((j == x.run) && finds x) (one_counted (these j)) (these j)) (these j)
      by o o_as none_searches = same j
      by o o_as (both_search x few) = ap (λ n. cond ((j == x.run) && finds x) (one_counted n) n) (same j)

  runs_turns : or there (run_turns k.other.refusal) 0 ≡ or here (run_turns k.choice.refusal) 0
  runs_turns = by here there (sought_alike k call p few)
    where
      by : (o : Option (Search T A)) (o_as : Option (Search U B)) → Sought k o o_as
          → or o_as (run_turns k.other.refusal) 0 ≡ or o (run_turns k.choice.refusal) 0
      by o o_as none_searches = refl
      by o o_as (both_search x few) =
          ap (λ n. cond (any (is_kept x.run) x.at.due) 0 (cond (finds x) 1 n))
          (vain_as k.waker k.other.refusal (ARun x.run) x.at.lying ∙ ap (λ r. vain_turns r (ARun x.run) x.at.lying) (sym k.refusal))

  pub searches_alike : (m n : Mark) → m ≡ n → (these those : ℕ → ℕ) → ((j : ℕ) → those j ≡ these j)
      → IsUsual k.wakes k.choice m these call p → IsUsual k.wakes_as k.other n those call_there (now k p)
      → ((x : Search T A) → here ≡ Some x → there ≡ Some (search_as k x) → finds x ≡ true → IsKeptByOthers x.run x.at.due
      → k.choice.robs ≡ k.other.robs)
      → SearchesAlike k.choice k.other k.wakes p call
  searches_alike m n same these those counts one two robs x is found = by here refl there refl (sought_alike k call p few) is
    where
      by : (o : Option (Search T A)) → here ≡ o → (o_as : Option (Search U B)) → there ≡ o_as → Sought k o o_as → o ≡ Some x
          → TakesSo k.choice k.other x.run x.at.due
      by o so o_as so_as none_searches is = absurd cc
      by o so o_as so_as (both_search y few) is =
          let its : y ≡ x = ap (λ o. or o (λ z. z) y) is in
          let few_there : Few k x.at = subst (λ y. Few k y.at) its few in
          let is_there : there ≡ Some (search_as k x) = so_as ∙ ap (λ z. Some (search_as k z)) its in
          take_alike k m (these x.run) x few_there found (one x (so ∙ is) found)
          (subst (λ e. TakesAsUsual k.wakes_as k.other m e (search_as k x)) (counts x.run)
          (subst (λ e. TakesAsUsual k.wakes_as k.other e (those x.run) (search_as k x)) (sym same)
          (two (search_as k x) is_there found)))
          (robs x (so ∙ is) is_there found)

-- and so of turns
pub turns_as : {T U A B : Type 0} (k : Setting T U A B) (call : Call T A) (p : Plain T A) → Few k p
    → turns_of k.wakes_as k.other (call_as k.output k.waker call) (now k p) ≡ turns_of k.wakes k.choice call p
turns_as k calls.TryTick p few = refl
turns_as k (calls.PollTick t w) p few =
    ap (λ n. cond (any (is_common PlainMark) p.due) 1 (cond (any (is_common Urgent) p.due) 1 n))
    (vain_as k.waker k.other.refusal (ATick t) p.lying ∙ ap (λ r. vain_turns r (ATick t) p.lying) (sym k.refusal))
turns_as k call p few = runs_turns k call p few

-- what is refused is nothing to how a run takes, nor to what it counts
module _ {T A : Type 0} (wakes : A → Option ℕ) (c : Choice) (r : Refusal) where
  pub usual_too : (m : Mark) (counted : ℕ → ℕ) (call : Call T A) (p : Plain T A) → IsUsual wakes c m counted call p
      → IsUsual wakes (record c { refusal = r }) m counted call p
  usual_too m counted call p usual x is found =
      let z = usual x (tell_it wakes c (record c { refusal = r }) call p refl ∙ is) found in
      record { first_so = z.first_so; keeps_so = z.keeps_so; moves_so = z.moves_so }

  pub counted_too : (counted : ℕ → ℕ) (call : Call T A) (p : Plain T A) (j : ℕ)
      → counted_by wakes (record c { refusal = r }) call p counted j ≡ counted_by wakes c call p counted j
  counted_too counted call p j =
      ap (λ o. or o (λ (x : Search T A). cond ((j == x.run) && finds x) (one_counted (counted j)) (counted j)) (counted j))
      (tell_it wakes (record c { refusal = r }) c call p refl)

  -- nor, to a call that asks for no memory, to the turns that it takes
  pub turns_too : (call : Call T A) (p : Plain T A) → asks_memory wakes c p call ≡ false
      → turns_of wakes (record c { refusal = r }) call p ≡ turns_of wakes c call p
  turns_too call p asks = by call asks
    where
      of_run : (o : Option (Search T A)) → or o (λ x. not (finds x)) false ≡ false
          → or o (run_turns r) 0 ≡ or o (run_turns c.refusal) 0
      of_run None asks = refl
      of_run (Some x) asks = split (finds x) refl asks
        where
          turns : Refusal → Bool → ℕ
          turns r b = cond (any (is_kept x.run) x.at.due) 0 (cond b 1 (vain_turns r (ARun x.run) x.at.lying))

          split : (b : Bool) → finds x ≡ b → not b ≡ false → turns r (finds x) ≡ turns c.refusal (finds x)
          split true found asks = ap (turns r) found ∙ sym (ap (turns c.refusal) found)
          split false found asks = absurd cc

      ended : (call : Call T A) → in_vain wakes c call p ≡ false
          → or (searches wakes (record c { refusal = r }) call p) (run_turns r) 0 ≡ or (searches wakes c call p) (run_turns c.refusal) 0
      ended call asks =
          ap (λ o. or o (run_turns r) 0) (tell_it wakes (record c { refusal = r }) c call p refl) ∙ of_run (searches wakes c call p) asks

      off : (call : Call T A) → ((code : Code T A) (rest : List (Code T A)) → searches_inside wakes c call (code ∷ rest) p ≡ None)
          → or (searches wakes (record c { refusal = r }) call p) (run_turns r) 0 ≡ or (searches wakes c call p) (run_turns c.refusal) 0
      off call none =
          ap (λ o. or o (run_turns r) 0) (tell_it wakes (record c { refusal = r }) c call p refl ∙ is p.inside)
          ∙ sym (ap (λ o. or o (run_turns c.refusal) 0) (is p.inside))
        where
          is : (codes : List (Code T A)) → searches_inside wakes c call codes p ≡ None
          is [] = refl
          is (code ∷ rest) = none code rest

      by : (call : Call T A) → asks_memory wakes c p call ≡ false
          → turns_of wakes (record c { refusal = r }) call p ≡ turns_of wakes c call p
      by calls.TryTick asks = refl
      by (calls.PollTick t w) asks = absurd cc
      by calls.Pends asks = ended calls.Pends asks
      by calls.Ends asks = ended calls.Ends asks
      by call asks = off call (λ code rest. refl)
