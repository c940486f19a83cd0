-- For sleepers_agree and sleepers_are_told.
-- The sleepers of the machine are sleepers after sections of theirs.
use Rattle.std.proofs.Common.{◌≡◌, ◌≢◌, ◌∙◌, ℕ, ◌+◌, ◌<◌, ◌≤◌, List, [], ◌∷◌, ◌++◌, length, Bool, true, false, ltb, eqb, refl}
use Rattle.std.proofs.Common.{sym, ap, subst, arith}
use Rattle.std.specs.Prelude.{◌-◌, Option, Some, None}
use Rattle.std.{proofs.lemmas.Bool.Decides.nat_tests, proofs.lemmas.List.length-append}
use Rattle.executor_parts.specs.Sleepers.{Sleepers, flag_of, next_number, without_entry, freed, woken_up, put_to_sleep}
use Rattle.executor_parts.specs.Sleeping.{ExchangeFlag, HandOut, FallAsleep, FallAsleepAgain, WakeUp, MakeRoom, GiveBack}
use Rattle.executor_parts.specs.Sleeping.{AllSleepers, handed_by, exchanged_by, again_by}
use Rattle.executor_parts.proofs.Agreeing.{Keeps, keeps}
use Rattle.executor_parts.{specs.Order.IsIn, specs.Order.without, specs.Sleepers.position_of, proofs.Ring.length-without}
use Rattle.executor_model.proofs.Types.{TickOrRun, Sleeping, Outside}
use Rattle.executor_model.specs.ActsOfSleepers.{exchange_by, given_back, hand_out_by, make_tick_by, sleep_anew_by}
use Rattle.executor_model.specs.ActsOfRuns.{make_room_by, make_run_by, return_room}
use Rattle.executor_model.specs.ActsOfSleepers.{sleep_listed_by, sleep_again_by, wake_up_by, leave_sleepers_by}
use Rattle.executor_model.specs.World.{World, Ticker, Awake, Asleep, Left, place_of, put_place, ticks_with}
use Rattle.executor_model.specs.{Sound.times, SleepersAgree.sleeps, SleepersAgree.room}
use Rattle.executor_model.proofs.Sleepers.TickLists.{at_place, asleep_at, sleeps-here, all_asleep, all_asleep-set}
use Rattle.executor_model.proofs.Sleepers.TickLists.{slumbering-push, slumbering-rooms, place-at, places, places-push}
use Rattle.executor_model.proofs.Sleepers.TickLists.{places-with, places_with, rooms_all, rooms_all-set, rooms-push, times-in}
use Rattle.executor_model.proofs.Sleepers.SleepersAway.{SleepersSeen, sleepers_seen}
use Rattle.executor_model.proofs.Sleepers.TickLists.{times-without, up-here, used_all, used_all-by, used_all-set, used-push}

abbrev pub as_sleepers : SleepersSeen → List ℕ → ℕ → AllSleepers Sleeping
as_sleepers b numbers k = record { sleepers = b.sleepers; flag = b.notified; numbers = numbers; tellers = k }

-- they are so where so many have still to hand out, and so much room is owed
pub record Follows (b : SleepersSeen) (k owed : ℕ) : Type 0 where
  pub numbers : List ℕ
  pub kept : Keeps (as_sleepers b numbers k)
  pub same : (n : ℕ) → times n numbers ≡ used_all n b.ticks b.places
  pub fallen_asleep : b.sleepers.count ≡ all_asleep b.ticks b.places
  pub roomed : b.sleepers.rooms ≡ rooms_all b.ticks b.places + owed

pub shift : (b c : SleepersSeen) (i j m n : ℕ) → b ≡ c → i ≡ j → m ≡ n → Follows b i m → Follows c j n
shift b c i j m n e q r f = subst (λ (x : SleepersSeen × ℕ × ℕ). Follows x.0 x.1 x.2) (λ t. (e t, q t, r t)) f

tellers : (b : SleepersSeen) (numbers : List ℕ) (j k : ℕ) → j ≡ k → Keeps (as_sleepers b numbers j) → Keeps (as_sleepers b numbers k)
tellers b numbers j k e = subst (λ n. Keeps (as_sleepers b numbers n)) e

pub follows-won : (w : World) (k m : ℕ) → w.notified ≡ false → Follows (sleepers_seen w) k m →
    Follows (sleepers_seen (exchange_by false w).world) (k + 1) m
follows-won w k m e f =
    record {
      numbers = f.numbers;
      kept = subst (λ (c : Bool). Keeps (exchanged_by c (as_sleepers (sleepers_seen w) f.numbers k))) e
          (keeps ExchangeFlag (as_sleepers (sleepers_seen w) f.numbers k) tt f.kept);
      same = f.same;
      fallen_asleep = f.fallen_asleep;
      roomed = f.roomed;
    }

handed : (b : Bool) (w : World) (k m : ℕ) → eqb (length w.sleepers.wakers) w.sleepers.count ≡ b →
    (f : Follows (sleepers_seen w) (k + 1) m) → Keeps (handed_by b (as_sleepers (sleepers_seen w) f.numbers (k + 1)))
handed b w k m e f = subst (λ (c : Bool). Keeps (handed_by c (as_sleepers (sleepers_seen w) f.numbers (k + 1)))) e
    (keeps HandOut (as_sleepers (sleepers_seen w) f.numbers (k + 1)) (omega arith) f.kept)

pub follows-hand_out : (b : Bool) (o : Option Sleeping) (w : World) (k m : ℕ) →
    eqb (length w.sleepers.wakers) w.sleepers.count ≡ b → Follows (sleepers_seen w) (k + 1) m →
    Follows (sleepers_seen (hand_out_by b o w).world) k m
follows-hand_out false o w k m e f =
    record {
      numbers = f.numbers;
      kept = tellers (sleepers_seen w) f.numbers (k + 1 - 1) k (omega arith) (handed false w k m e f);
      same = f.same;
      fallen_asleep = f.fallen_asleep;
      roomed = f.roomed;
    }
follows-hand_out true o w k m e f =
    record {
      numbers = f.numbers;
      kept = tellers (sleepers_seen (hand_out_by true o w).world) f.numbers (k + 1 - 1) k (omega arith) (handed true w k m e f);
      same = f.same;
      fallen_asleep = f.fallen_asleep;
      roomed = f.roomed;
    }

-- a tick is made

pub follows-make : (w : World) (k m : ℕ) → Follows (sleepers_seen w) k m → Follows (sleepers_seen (make_tick_by false w).world) k m
follows-make w k m f = record {
  numbers = f.numbers;
  kept = keeps MakeRoom (as_sleepers (sleepers_seen w) f.numbers k) tt f.kept;
  same = λ n. omega (arith, f.same n, used-push n w.ticks);
  fallen_asleep = omega (arith, f.fallen_asleep, slumbering-push w.ticks);
  roomed = omega (arith, f.roomed, rooms-push w.ticks);
}

-- room is made for a run, and the run comes into it

pub follows-room : (w : World) (k m : ℕ) → Follows (sleepers_seen w) k m → Follows (sleepers_seen (make_room_by false w).world) k (m + 1)
follows-room w k m f = record {
  numbers = f.numbers;
  kept = keeps MakeRoom (as_sleepers (sleepers_seen w) f.numbers k) tt f.kept;
  same = f.same;
  fallen_asleep = f.fallen_asleep;
  roomed = omega (arith, f.roomed);
}

pub follows-run : (w : World) (k m : ℕ) → Follows (sleepers_seen w) k (m + 1) → Follows (sleepers_seen (make_run_by false w).world) k m
follows-run w k m f =
    let b = sleepers_seen w in
    let pushed : List Ticker = places w.runs ++ Awake ∷ [] in
    let now : Follows (record b { places = pushed }) k m = record {
      numbers = f.numbers;
      kept = f.kept;
      same = λ n. omega (arith, f.same n, used-push n (places w.runs));
      fallen_asleep = omega (arith, f.fallen_asleep, slumbering-push (places w.runs));
      roomed = omega (arith, f.roomed, rooms-push (places w.runs));
    } in
    subst (λ (ps : List Ticker). Follows (record b { places = ps }) k m) (sym (places-push w.runs)) now

-- who falls asleep, wakes up or leaves

-- where one of them is now, with these sleepers and this flag
abbrev pub placed : SleepersSeen → TickOrRun → Ticker → Sleepers Sleeping → Bool → SleepersSeen
placed b who x s flag = record {
  ticks = ticks_with b.ticks who x;
  places = places_with b.places who x;
  sleepers = s;
  notified = flag;
}

sleepers_seen-placed : (w : World) (who : TickOrRun) (x : Ticker) (s : Sleepers Sleeping) (flag : Bool) →
    placed (sleepers_seen w) who x s flag ≡ sleepers_seen (record (put_place w who x) { sleepers = s; notified = flag })
sleepers_seen-placed w who x s flag = λ i. record {
  ticks = ticks_with w.ticks who x;
  places = sym (places-with w.runs who x) i;
  sleepers = s;
  notified = flag;
}

abbrev pub ticker_seen : SleepersSeen → TickOrRun → Ticker
ticker_seen b who = at_place b.ticks b.places who

pub in-flagged : (w : World) (who : TickOrRun) (x : Ticker) → place_of w who ≡ x → ticker_seen (sleepers_seen w) who ≡ x
in-flagged w who x e = sym (place-at w who) ∙ e

below : (a b : ℕ) → ltb a b ≡ true → a < b
below a b e = grind (arith, nat_tests)

above : (a b : ℕ) → ltb a b ≡ false → b ≤ a
above a b e = grind (arith, nat_tests)

fallen_asleep-down : (b : SleepersSeen) (s : Sleeping) (k m : ℕ) → ticker_seen b s.who ≡ Awake →
    ltb b.sleepers.count b.sleepers.rooms ≡ true →
    Follows b k m → (let t : Sleepers Sleeping = put_to_sleep s b.sleepers in
    Follows (placed b s.who (Asleep (next_number b.sleepers)) t (flag_of t)) k m)
fallen_asleep-down b s k m e r f =
    let number : ℕ = next_number b.sleepers in
    let here : ticker_seen b s.who ≢ Left = up-here (ticker_seen b s.who) e in
    record {
      numbers = number ∷ f.numbers;
      kept = keeps (FallAsleep s) (as_sleepers b f.numbers k) (below _ _ r) f.kept;
      same = λ n. omega (arith, f.same n, used_all-set n b.ticks b.places s.who (Asleep number) here, ap (asleep_at n) e);
      fallen_asleep = omega (arith, f.fallen_asleep, all_asleep-set b.ticks b.places s.who (Asleep number) here, ap sleeps e);
      roomed = omega (arith, f.roomed, rooms_all-set b.ticks b.places s.who (Asleep number) here, ap room e);
    }

pub follows-anew : (w : World) (s : Sleeping) (k m : ℕ) → place_of w s.who ≡ Awake →
    ltb w.sleepers.count w.sleepers.rooms ≡ true → Follows (sleepers_seen w) k m →
    Follows (sleepers_seen (sleep_anew_by true w s).world) k m
follows-anew w s k m e r f =
    let t : Sleepers Sleeping = put_to_sleep s w.sleepers in
    shift _ (sleepers_seen (sleep_anew_by true w s).world) k k m m
    (sleepers_seen-placed w s.who (Asleep (next_number w.sleepers)) t (flag_of t)) refl refl
    (fallen_asleep-down (sleepers_seen w) s k m (in-flagged w s.who Awake e) r f)

-- who sleeps has its number
mine : (b : SleepersSeen) (who : TickOrRun) (n k m : ℕ) → ticker_seen b who ≡ Asleep n → (f : Follows b k m) → IsIn n f.numbers
mine b who n k m e f = times-in n f.numbers (omega (arith, f.same n, used_all-by n b.ticks b.places who e))

pub follows-listed : (w : World) (n : ℕ) (s : Sleeping) (k m : ℕ) → place_of w s.who ≡ Asleep n →
    position_of n w.sleepers.wakers ≡ None → Follows (sleepers_seen w) k m → Follows (sleepers_seen (sleep_listed_by true w n s).world) k m
follows-listed w n s k m e q f =
    let x : AllSleepers Sleeping = as_sleepers (sleepers_seen w) f.numbers k in
    let now : Keeps (again_by None n s x) =
    subst (λ (o : Option ℕ). Keeps (again_by o n s x)) q
    (keeps (FallAsleepAgain n s) x (mine (sleepers_seen w) s.who n k m (in-flagged w s.who (Asleep n) e) f) f.kept) in
    record { numbers = f.numbers; kept = now; same = f.same; fallen_asleep = f.fallen_asleep; roomed = f.roomed }

pub follows-again : (w : World) (n at : ℕ) (s : Sleeping) (k m : ℕ) → place_of w s.who ≡ Asleep n →
    position_of n w.sleepers.wakers ≡ Some at → Follows (sleepers_seen w) k m →
    Follows (sleepers_seen (sleep_again_by (Some at) w n s).world) k m
follows-again w n at s k m e q f =
    let x : AllSleepers Sleeping = as_sleepers (sleepers_seen w) f.numbers k in
    let now : Keeps (again_by (Some at) n s x) =
    subst (λ (o : Option ℕ). Keeps (again_by o n s x)) q
    (keeps (FallAsleepAgain n s) x (mine (sleepers_seen w) s.who n k m (in-flagged w s.who (Asleep n) e) f) f.kept) in
    record { numbers = f.numbers; kept = now; same = f.same; fallen_asleep = f.fallen_asleep; roomed = f.roomed }

-- who sleeps and isn't listed may be listed again
pub follows-unlisted : (w : World) (who : TickOrRun) (n k m : ℕ) → place_of w who ≡ Asleep n →
    position_of n w.sleepers.wakers ≡ None → Follows (sleepers_seen w) k m → length w.sleepers.wakers < w.sleepers.count
follows-unlisted w who n k m e q f =
    let s : Sleeping = record { waker = Outside 0; who = who; poll = 0 } in
    let now : Keeps (again_by None n s (as_sleepers (sleepers_seen w) f.numbers k)) =
    subst (λ (o : Option ℕ). Keeps (again_by o n s (as_sleepers (sleepers_seen w) f.numbers k))) q
    (keeps (FallAsleepAgain n s) (as_sleepers (sleepers_seen w) f.numbers k)
    (mine (sleepers_seen w) who n k m (in-flagged w who (Asleep n) e) f)
    f.kept) in
    omega (arith, now.agree.listed, length-append w.sleepers.wakers ((n, s) ∷ []))

-- no room is made or given back as one wakes up
rooms-woken_up : (n : ℕ) (s : Sleepers Sleeping) → (woken_up n s).rooms ≡ s.rooms
rooms-woken_up n s = of_freed (without_entry (position_of n s.wakers) s) ∙ of_entry (position_of n s.wakers)
  where
    of_entry : (o : Option ℕ) → (without_entry o s).rooms ≡ s.rooms
    of_entry None = refl
    of_entry (Some at) = refl

    of_freed : (r : Sleepers Sleeping) → (freed n r).rooms ≡ r.rooms
    of_freed r = by (ltb (length r.wakers) r.count)
      where
        by : (b : Bool) → (let t : Sleepers Sleeping =
            elim b [ true ↦ record r { count = r.count - 1; free = r.free ++ n ∷ [] } | false ↦ r ] in
            t).rooms ≡ r.rooms
        by true = refl
        by false = refl

-- it wakes up, and is awake or left then
woken_up-follows : (b : SleepersSeen) (who : TickOrRun) (n k m : ℕ) (x : Ticker) (spare : ℕ) → sleeps x ≡ 0 →
    ((a : ℕ) → asleep_at a x ≡ 0) → room x + spare ≡ 1 → ticker_seen b who ≡ Asleep n → Follows b k m →
    Follows (placed b who x (woken_up n b.sleepers) (flag_of (woken_up n b.sleepers))) k (spare + m)
woken_up-follows b who n k m x spare z y v e f =
    let here : IsIn n f.numbers = mine b who n k m e f in
    let there : ticker_seen b who ≢ Left = sleeps-here (ticker_seen b who) n e in
    let now : Keeps (as_sleepers (placed b who x (woken_up n b.sleepers) (flag_of (woken_up n b.sleepers)))
    (without n f.numbers) k) = keeps (WakeUp n) (as_sleepers b f.numbers k) here f.kept in
    record {
      numbers = without n f.numbers;
      kept = now;
      same =
          λ a. omega (
            arith,
            f.same a,
            times-without a n f.numbers here,
            used_all-set a b.ticks b.places who x there,
            ap (asleep_at a) e,
            y a,
          );
      fallen_asleep =
          omega (
            arith,
            f.fallen_asleep,
            f.kept.agree.counted,
            now.agree.counted,
            length-without n f.numbers here,
            all_asleep-set b.ticks b.places who x there,
            ap sleeps e,
            z,
          );
      roomed = omega (arith, f.roomed, rooms-woken_up n b.sleepers, rooms_all-set b.ticks b.places who x there, ap room e, v);
    }

pub follows-up : (w : World) (who : TickOrRun) (n k m : ℕ) → place_of w who ≡ Asleep n → Follows (sleepers_seen w) k m →
    Follows (sleepers_seen (wake_up_by (Asleep n) w who).world) k m
follows-up w who n k m e h =
    let t : Sleepers Sleeping = woken_up n w.sleepers in
    shift _ (sleepers_seen (wake_up_by (Asleep n) w who).world) k k (0 + m) m (sleepers_seen-placed w who Awake t (flag_of t)) refl
    (let z : 0 + m ≡ m = omega arith in z)
    (woken_up-follows (sleepers_seen w) who n k m Awake 0 refl (λ a. refl) refl (in-flagged w who (Asleep n) e) h)

-- room that is owed is there
is-spare : (c : SleepersSeen) (k m : ℕ) → Follows c k (1 + m) → ltb c.sleepers.count c.sleepers.rooms ≡ false → ⊥
is-spare c k m f e = let z : c.sleepers.rooms ≤ c.sleepers.count = above _ _ e in
    omega (arith, z, f.roomed, f.fallen_asleep, slumbering-rooms c.ticks, slumbering-rooms c.places)

-- room is given back, and the flag stays
given-follows : (b : Bool) (c : SleepersSeen) (k m : ℕ) → ltb c.sleepers.count c.sleepers.rooms ≡ b → Follows c k (1 + m)
    → let s : Sleepers Sleeping =
    elim b [ true ↦ record c.sleepers { rooms = c.sleepers.rooms - 1 } | false ↦ c.sleepers ] in
    Follows (record c { sleepers = s }) k m
given-follows true c k m e f =
    record {
      numbers = f.numbers;
      kept = keeps GiveBack (as_sleepers c f.numbers k) (below _ _ e) f.kept;
      same = f.same;
      fallen_asleep = f.fallen_asleep;
      roomed = omega (arith, f.roomed);
    }
given-follows false c k m e f = absurd (is-spare c k m f e)

-- who slept owes its room then
pub follows-left : (w : World) (who : TickOrRun) (n k m : ℕ) → place_of w who ≡ Asleep n → Follows (sleepers_seen w) k m →
    Follows (sleepers_seen (leave_sleepers_by (Asleep n) w who).world) k (1 + m)
follows-left w who n k m e h =
    let t : Sleepers Sleeping = woken_up n w.sleepers in
    shift _ (sleepers_seen (leave_sleepers_by (Asleep n) w who).world) k k (1 + m) (1 + m) (sleepers_seen-placed w who Left t (flag_of t))
    refl refl
    (woken_up-follows (sleepers_seen w) who n k m Left 1 refl (λ a. refl) refl (in-flagged w who (Asleep n) e) h)

pub follows-left_awake : (w : World) (who : TickOrRun) (k m : ℕ) → place_of w who ≡ Awake → Follows (sleepers_seen w) k m →
    Follows (sleepers_seen (leave_sleepers_by Awake w who).world) k m
follows-left_awake w who k m e f =
    let b = sleepers_seen w in
    let up : ticker_seen b who ≡ Awake = in-flagged w who Awake e in
    let here : ticker_seen b who ≢ Left = up-here (ticker_seen b who) up in
    let c : SleepersSeen = placed b who Left w.sleepers w.notified in
    let owes : Follows c k (1 + m) = record {
      numbers = f.numbers;
      kept = f.kept;
      same = λ n. omega (arith, f.same n, used_all-set n b.ticks b.places who Left here, ap (asleep_at n) up);
      fallen_asleep = omega (arith, f.fallen_asleep, all_asleep-set b.ticks b.places who Left here, ap sleeps up);
      roomed = omega (arith, f.roomed, rooms_all-set b.ticks b.places who Left here, ap room up);
    } in
    shift _ (sleepers_seen (leave_sleepers_by Awake w who).world) k k m m
    (sleepers_seen-placed w who Left (given_back w.sleepers) w.notified) refl refl (given-follows _ c k m refl owes)

pub follows-returned : (w : World) (k m : ℕ) → Follows (sleepers_seen w) k (1 + m) → Follows (sleepers_seen (return_room w).world) k m
follows-returned w k m f = given-follows _ (sleepers_seen w) k m refl f
