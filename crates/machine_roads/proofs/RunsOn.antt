-- A run goes on behind the poll or the drop of a future that it took: it takes the next one, lets others go first, or lies down where
-- nothing is due.
use Rattle.std.proofs.Common.{◌≡◌, ℕ, suc, ◌≤◌, ◌<◌, ◌==◌, ◌&&◌, nat_lt, not, Bool, true, false, List, [], ◌∷◌, Option, Some, None, length}
use Rattle.std.proofs.Common.{slice_get, if◌then◌else◌, refl, sym, ap, subst, ◌∙◌, arith}
use Rattle.std.proofs.lemmas.Bool.Decides.{nat_tests}
use Rattle.executor_parts.specs.Marks.{first_of, turn_after}
use Rattle.executor_model.specs.declared.op.Op.{Op}
use Rattle.executor_model.specs.declared.op.RunPoll.{RunPoll}
use Rattle.executor_model.specs.declared.op.Waker.{Waker}
use Rattle.executor_model.specs.World.{Done, World}
use Rattle.plain_scheduler.specs.State.{ARun, Choice, Granted, Later, Plain, Refusal, Run, Running, Taker}
use Rattle.plain_scheduler.specs.Lists.{any, or}
use Rattle.plain_scheduler.specs.Moves.{is_due, is_kept}
use Rattle.plain_scheduler.specs.Searches.{Search, searches_of}
use Rattle.plain_scheduler.specs.Takes as plain_takes
use Rattle.plain_scheduler.specs.Usual.{IsKeptByOthers, RobsAsUsual, TakesAsUsual, one_counted, run_turns, turned, vain_turns}
use Rattle.machine_roads.specs.View.{Output, wakes}
use Rattle.machine_roads.specs.Road.{Follows, futures_in}
use Rattle.machine_roads.specs.Alone.{is_resting}
use Rattle.machine_roads.specs.Choosing.{has_counted}
use Rattle.machine_roads.specs.Refused.{OneMoreLies}
use Rattle.machine_roads.specs.Searching.{goes_on_by, turn_behind}
use Rattle.machine_roads.specs.Stopped.{Finally, of_last, taken_by}
use Rattle.machine_roads.proofs.Lists.{clash, same_of}
use Rattle.machine_roads.proofs.Passing.{Passes, passes_end, telling}
use Rattle.machine_roads.proofs.RunLies.{lies_so, none_due}
use Rattle.machine_roads.proofs.RunFinding.{Found, pick}
use Rattle.machine_roads.proofs.RunSearching.{searches}
use Rattle.machine_roads.proofs.RunsStay.{RunsStay}
use Rattle.machine_roads.proofs.Starting.{From, from_way, start_in}
use Rattle.machine_roads.proofs.Standing.{Stands, StandsSo}
use Rattle.machine_roads.proofs.TakenBeside.{counted_more, counted_over, takes_none}

-- between two of its takes: so many it has taken, it isn't over, and no run that is over keeps anything
pub record Between (r : ℕ) (last : Bool) (t : ℕ) (q : Plain Output Waker) : Type 0 where
  pub taken : taken_by r q ≡ t
  pub most : t ≤ 200
  pub early : nat_lt t 200 ≡ not last
  pub going : or (slice_get q.runs r) (λ run. run.is_over) true ≡ false
  pub left : (k : ℕ) → or (slice_get q.runs k) (λ run. run.is_over) true ≡ true → futures_in (is_kept k) q.due ≡ []

pub between_stays : (r : ℕ) (last : Bool) (t : ℕ) (q s : Plain Output Waker) → RunsStay q s → Between r last t q → Between r last t s
between_stays r last t q s stay so = record {
  taken = ap (λ (rs : List Running). or (slice_get rs r) (λ run. run.taken) 0) stay.runs ∙ so.taken;
  most = so.most;
  early = so.early;
  going = ap (λ (rs : List Running). or (slice_get rs r) (λ run. run.is_over) true) stay.runs ∙ so.going;
  left = λ k over.
      stay.kept k ∙ so.left k (ap (λ (rs : List Running). or (slice_get rs k) (λ run. run.is_over) true) (sym stay.runs) ∙ over);
}

few_of : (qs : List Running) (r t : ℕ) → or (slice_get qs r) (λ run. run.taken) 0 ≡ t → nat_lt t 200 ≡ true
    → or (slice_get qs r) (λ run. nat_lt run.taken 200) true ≡ true
few_of qs r t taken few = by (slice_get qs r) taken
  where
    by : (o : Option Running) → or o (λ run. run.taken) 0 ≡ t → or o (λ run. nat_lt run.taken 200) true ≡ true
    by None is = refl
    by (Some run) is = ap (λ n. nat_lt n 200) is ∙ few

all_of : (t : ℕ) → t ≤ 200 → nat_lt t 200 ≡ false → t ≡ 200
all_of t most last = grind (arith, nat_tests)

pub more_of : (t : ℕ) → nat_lt t 200 ≡ true → suc t ≤ 200
more_of t few = grind (arith, nat_tests)

-- where nothing is said of a choice
abbrev pub anyhow : Choice → Type 0
anyhow d = Unit {0}

-- a search by this run, where the plain scheduler stands so
abbrev pub search_at : ℕ → Waker → Plain Output Waker → Search Output Waker
search_at r a b = record { run = r; waker = a; at = b }

-- how it chose that searched there in this world, and what it left of that world
pub record Searched (start r : ℕ) (a : Waker) (w : World) (b : Plain Output Waker) (d : Choice) (v : World)
    (z : Plain Output Waker) : Type 0 where
  pub few : nat_lt (taken_by r b) 200 ≡ true
  pub usual : any is_due b.due ≡ true → TakesAsUsual wakes d (first_of w.urgent_turns) (has_counted w r) (search_at r a b)
  pub robs : any is_due b.due ≡ true → RobsAsUsual wakes d w.listed start (search_at r a b)
  pub keeper : any is_due b.due ≡ true → IsKeptByOthers r b.due → any (is_kept d.robs) b.due ≡ true
  pub counted : (k : ℕ)
      → has_counted v k ≡ (if (k == r) && any is_due b.due then one_counted (has_counted w k) else has_counted w k)
  pub turns : v.urgent_turns ≡ turned (run_turns d.refusal (search_at r a b)) w.urgent_turns
  pub listed : v.listed ≡ w.listed
  pub later : any is_due b.due ≡ false → d.refusal ≡ Later → OneMoreLies b z

module _ (p : ℕ) (x : RunPoll) (below : List Op) (q : Plain Output Waker) (n t : ℕ) (end : Done) (new : Choice → Plain Output Waker)
    (Says : Choice → Type 0) where
  abbrev taker : Taker Waker
  taker = Run x.run x.waker

  pub data After : Type 0 where
    takes : (d : Choice) (last : Bool) → StandsSo taker (goes_on_by x last) below q end (new (telling n d))
        → Between x.run last (suc t) (new (telling n d)) → Says (telling n d) → After
    ends : (d : Choice) → end.next ≡ below → Follows end.world (new (telling n d)) → (new (telling n d)).inside ≡ q.inside
        → Says (telling n d) → After

  -- what is said of the choice by a search from here on
  abbrev pub Tells : ℕ → World → Plain Output Waker → Type 0
  Tells start w b = (d : Choice) → Searched start x.run x.waker w b (telling n d) end.world (new (telling n d)) → Says (telling n d)

  module _ (under : is_resting below ≡ true) (rests : is_resting end.next ≡ true) (c : Choice) where
    -- one more is taken
    takes_more : (start : ℕ) (w : World) (b : Plain Output Waker) → Between x.run false t b → b.inside ≡ q.inside → (first : Choice) →
        first.tells ≡ n
        → first.first ≡ first_of w.urgent_turns → any is_due b.due ≡ true → Found p below under end rests first x start
        (turn_behind x.run b.due w) w b
        → ((d : Choice) → new (telling n d) ≡ plain_takes.next wakes (telling n d) taker b) → Tells start w b → After
    takes_more start w b so inside first told turn some g is tells =
        let d = pick p below under end rests first x g.0 g.1 g.2 in
        let z = plain_takes.take wakes d taker b in
        let same : new (telling n d) ≡ z =
        is (telling n d)
        ∙ (ap (λ k. plain_takes.next wakes (record d { tells = k }) taker b) (sym told)
        ∙ ap (λ b0. if b0 then z else plain_takes.gives_way wakes d x.run x.waker b) (ap (λ k. nat_lt k 200) so.taken ∙ so.early)) in
        let it = g.4 in
        let counted : taken_by x.run z ≡ suc t =
        ap (λ (rs : List Running). or (slice_get rs x.run) (λ run. run.taken) 0) it.runs
        ∙ (counted_more b.runs x.run so.going ∙ ap suc so.taken) in
        takes d g.3
        (subst (StandsSo taker (goes_on_by x g.3) below q end) (sym same)
        (record {
          stands =
              subst (λ codes. Stands taker (goes_on_by x g.3) below codes end.world end.next z.inside) inside it.stood.stands;
          follows = it.stood.follows;
        }))
        (subst (Between x.run g.3 (suc t)) (sym same)
        (record {
          taken = counted;
          most = more_of t so.early;
          early = ap (λ k. nat_lt k 200) (sym counted) ∙ it.early;
          going = ap (λ (rs : List Running). or (slice_get rs x.run) (λ run. run.is_over) true) it.runs
              ∙ (counted_over b.runs x.run x.run ∙ so.going);
          left = λ k over. left_so d k (k == x.run) refl (sym (counted_over b.runs x.run k)
              ∙ (ap (λ (rs : List Running). or (slice_get rs k) (λ run. run.is_over) true) (sym it.runs) ∙ over));
        }))
        (tells d
        (subst (λ m. Searched start x.run x.waker w b (telling m d) end.world (new (telling n d))) told
        (record {
          few = ap (λ k. nat_lt k 200) so.taken ∙ so.early;
          usual = λ due. subst (λ m. TakesAsUsual wakes d m (has_counted w x.run) (search_at x.run x.waker b)) turn it.usual;
          robs = λ due. it.robs;
          keeper = λ due. it.keeper;
          counted = λ k. it.behind.counted k ∙ one_more k (k == x.run) (any is_due b.due) some;
          turns = it.behind.turn ∙ by_turn d.refusal (any (is_kept x.run) b.due) (any is_due b.due) some;
          listed = it.behind.listed;
          later = λ none. absurd (clash none some);
        })))
      where
        one_more : (k : ℕ) (own due : Bool) → due ≡ true
            → (if own then one_counted (has_counted w k) else has_counted w k) ≡
            (if own && due then one_counted (has_counted w k) else has_counted w k)
        one_more k true due some = ap (λ b0. if b0 then one_counted (has_counted w k) else has_counted w k) (sym some)
        one_more k false due some = refl

        by_turn : (refusal : Refusal) (own due : Bool) → due ≡ true
            → (if own then w.urgent_turns else turn_after w.urgent_turns)
            ≡ turned (if own then 0 else (if due then 1 else vain_turns refusal (ARun x.run) b.lying)) w.urgent_turns
        by_turn refusal true due some = refl
        by_turn refusal false due some =
            ap (λ b0. turned (if b0 then 1 else vain_turns refusal (ARun x.run) b.lying) w.urgent_turns) (sym some)

        left_so : (d : Choice) (k : ℕ) (own : Bool) → (k == x.run) ≡ own
            → or (slice_get b.runs k) (λ run. run.is_over) true ≡ true
            → futures_in (is_kept k) (plain_takes.take wakes d taker b).due ≡ []
        left_so d k true here over =
            absurd (clash so.going (ap (λ k. or (slice_get b.runs k) (λ run. run.is_over) true) (sym (same_of k x.run here)) ∙ over))
        left_so d k false apart over = takes_none x.run k apart d x.waker b (so.left k over)

    -- from a search on
    pub goes_from : (start : ℕ) (w : World) (b : Plain Output Waker) → Follows w b → length b.lying < n → Between x.run false t b
        → b.inside ≡ q.inside → From start p end w (goes_on_by x false ∷ below)
        → ((d : Choice) → new (telling n d) ≡ plain_takes.next wakes (telling n d) taker b) → Tells start w b → After
    goes_from start w b follows fit now inside from is tells = by (any is_due b.due) refl
      where
        nowhere : (own due : Bool) → due ≡ false → (own && due) ≡ false
        nowhere true due none = none
        nowhere false due none = refl

        by : (some : Bool) → any is_due b.due ≡ some → After
        by false none =
            let g = lies_so p x below end under rests (telling n c) w b follows fit none from.way in
            let d : Choice = record (telling n c) { refusal = g.0 } in
            let same : new d ≡ plain_takes.take wakes d taker b =
            is d
            ∙ ap (λ b0. if b0 then plain_takes.take wakes d taker b else plain_takes.gives_way wakes d x.run x.waker b)
            (ap (λ k. nat_lt k 200) now.taken ∙ now.early) in
            let quiet = none_due b.due none in
            ends d g.1 (subst (Follows end.world) (sym same) g.2) (ap (λ (q : Plain Output Waker). q.inside) same ∙ (g.3 ∙ inside))
            (tells d
            (record {
              few = ap (λ k. nat_lt k 200) now.taken ∙ now.early;
              usual = λ some. absurd (clash none some);
              robs = λ some. absurd (clash none some);
              keeper = λ some. absurd (clash none some);
              counted = λ k. g.6.counted k
                  ∙ ap (λ b0. if b0 then one_counted (has_counted w k) else has_counted w k)
                  (sym (nowhere (k == x.run) (any is_due b.due) none));
              turns = g.6.turn;
              listed = g.6.listed;
              later = λ vain late. subst (OneMoreLies b) (sym same) (g.5 late);
            }))
        by true some =
            let first : Choice = record (telling n c) { first = first_of w.urgent_turns; refusal = Granted } in
            takes_more start w b now inside first refl refl some
            (searches p below under end rests first x start w b follows (omega (arith, fit))
            (record { going = few_of b.runs x.run t now.taken now.early; left = now.left }) some refl from)
            is tells

    -- behind what it took; with its 200th it searches no more
    pub goes_on : (behind : Choice → Option (Plain Output Waker)) (last : Bool) → length q.lying < n → Between x.run last t q
        → (pass : Passes p taker (goes_on_by x last) below q n end new behind)
        → Tells (start_in p end pass.so.world (goes_on_by x last ∷ below) pass.so.way) pass.so.world pass.before
        → (Finally q taker (goes_on_by x last) → searches_of wakes c taker pass.before ≡ None → Says (telling n c)) → After
    goes_on behind true fit so pass tells unsaid =
        let it : Finally q taker (goes_on_by x true) = of_last x (so.taken ∙ all_of t so.most so.early) in
        let e = passes_end p below under end rests taker (goes_on_by x true) q it (telling n c) new behind pass in
        ends c e.0 e.1 e.2
        (unsaid it
        (ap (λ b. if b then Some (search_at x.run x.waker pass.before) else None)
        (ap (λ k. nat_lt k 200) ((between_stays x.run true t q pass.before pass.stay so).taken) ∙ so.early)))
    goes_on behind false fit so pass tells unsaid =
        goes_from (start_in p end pass.so.world (goes_on_by x false ∷ below) pass.so.way) pass.so.world pass.before pass.so.follows
        (omega (arith, fit, pass.stay.lying))
        (between_stays x.run false t q pass.before pass.stay so) pass.inside
        (from_way p end pass.so.world (goes_on_by x false ∷ below) pass.so.way) pass.is tells
