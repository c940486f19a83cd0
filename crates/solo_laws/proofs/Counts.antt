-- How many futures each call takes away, and how many there are after any list of calls.
use Rattle.std.proofs.Common.{◌≡◌, inl, inr, ℕ, ◌+◌, ◌-◌, ◌^◌, ◌==◌, ◌<◌, ◌≤◌, min, Bool, true, false, List, [], ◌∷◌, ◌++◌, length, map}
use Rattle.std.proofs.Common.{Option, Some, None, Ok, Err}
use Rattle.std.proofs.Common.{slice_get, is_some, refl, sym, ap, subst, ◌∙◌, arith, length-append}
use Rattle.std.proofs.lemmas.List.{length-map}
use Rattle.executor_parts.specs.declared.mark.Mark.{Mark}
use Rattle.executor_parts.specs.declared.places.EntryPlace.{EntryPlace}
use Rattle.executor_parts.specs.Places.{Entry, entry_in, where_there, without_entry, left_by as entry_left, future_of, parts_of, unwoken}
use Rattle.task_moves.specs.declared.local_task.answers.Back.{Back}
use Rattle.task_moves.specs.declared.local_task.answers.Back.TheVariants.{Ready, Pending}
use Rattle.solo.specs.declared.names.Kind.{Kind}
use Rattle.solo.specs.declared.names.Task.{Task}
use Rattle.solo.specs.declared.owed.Lent.{Lent}
use Rattle.solo.specs.declared.owed.Spawned.{Spawned}
use Rattle.solo.specs.declared.owed.SpawnError.{SpawnError}
use Rattle.solo.specs.declared.owed.SpawnError.TheVariants.{Full, NoMemory}
use Rattle.solo.specs.declared.solo.Solo.{Solo}
use Rattle.solo.specs.declared.cells.After.{After}
use Rattle.solo.specs.declared.cells.After.TheVariants.{Queue, Rest, Drop as DropFuture, Unknown}
use Rattle.solo.specs.OwnQueues.{one_more}
use Rattle.solo.specs.Table.{new_entry, counted_waker, rest_of, first_parts}
use Rattle.solo.specs.Cells.{asked}
use Rattle.solo.specs.Cells as cells
use Rattle.solo.specs.Turns as turns
use Rattle.solo.specs.Turns.{turned}
use Rattle.solo.specs.Solo as solo
use Rattle.solo.specs.Closing as closing
use Rattle.solo.specs.Runs as runs
use Rattle.solo.specs.Ticks as ticks
use Rattle.solo_laws.specs.Calls.{Call, Does, Course, Spawn, SpawnRefused, Take, Settle, Finish, Wake, WakeAndRelease, Hold, Release}
use Rattle.solo_laws.specs.Calls.{Cancel, Detach, Poll, Retract, MakeTick, TickTake}
use Rattle.solo_laws.specs.Calls.{TickSearch, TickSleep, TickLeave, MakeRun, RunBegin, RunTake}
use Rattle.solo_laws.specs.Calls.{RunSearch, RunLeave, RunDrain, Leak, LeakNext, Close, Drain}
use Rattle.solo_laws.specs.Futures.{futures, accepted_by, ended_by, ended_by_settle, sum_of, NoneIsLost, IsNumbered, ComesBack}
use Rattle.solo_laws.proofs.Prompt.{chosen}
use Rattle.solo_laws.proofs.Frames.{Of, counting, told_of, scheduled_of, scheduled_if_of, let_go_of, left_by_of, put_of, begun_of}
use Rattle.solo_laws.proofs.Frames.{tick_taken_of}
use Rattle.solo_laws.proofs.Frames.{tick_searched_of, slept_of, tick_left_of, run_taken_of, run_searched_of, run_drained_of}

plus_zero : (n : ℕ) → n + 0 ≡ n
plus_zero n = omega arith

one_more_is : (n : ℕ) → min (min n (2 ^ 64 - 1) + 1) (2 ^ 64 - 1) ≡ min (n + 1) (2 ^ 64 - 1)
one_more_is n = omega arith

module _ {F W : Type 0} where
  -- one entry goes at most
  abbrev OneLess : List (Entry F W) → List (Entry F W) → Type 0
  OneLess less es = (length less ≤ length es) × (length es ≤ length less + 1)

  same_less : (es : List (Entry F W)) → OneLess es es
  same_less es = (omega arith, omega arith)

  without_less : (key : ℕ) (es : List (Entry F W)) → OneLess (without_entry key es) es
  without_less key [] = same_less []
  without_less key (e ∷ es) = by (key == e.key) (without_less key es)
    where
      by : (b : Bool) → OneLess (without_entry key es) es
          → OneLess (elim b [ true ↦ es | false ↦ e ∷ without_entry key es ]) (e ∷ es)
      by true rest = (omega arith, omega arith)
      by false rest = let less = rest.0 in let most = rest.1 in (omega (arith, less), omega (arith, most))

  there_less : (found : Option (Entry F W)) (less es : List (Entry F W)) → OneLess less es → OneLess (where_there found less es) es
  there_less None less es is = same_less es
  there_less (Some e) less es is = is

  left_less : (place : EntryPlace) (es : List (Entry F W)) → OneLess (entry_left place es) es
  left_less place es = there_less (entry_in place es) (without_entry place.key es) es (without_less place.key es)

module _ {F : Type 0} where
  rest_less : (es : List (Entry F (Option Task))) → OneLess (rest_of es) es
  rest_less [] = same_less {F = F} {W = Option Task} []
  rest_less (e ∷ es) = (omega arith, omega arith)

module _ {F T X : Type 0} where
  -- as many are accepted, so many at most are gone, and one limit of both tables stays
  abbrev By : ℕ → Solo F T X → ℕ → ℕ → ℕ → ℕ → Type 0
  By k old a n l m =
      (((a ≡ old.accepted) × (n ≤ futures old)) × (futures old ≤ n + k))
      × ((limit : ℕ) → old.table.limit ≡ limit → old.going.limit ≡ limit → (l ≡ limit) × (m ≡ limit))

  abbrev Keeps : ℕ → Solo F T X → Solo F T X → Type 0
  Keeps k old new = Of (counting (By k old)) new

  itself : (s : Solo F T X) → Keeps 0 s s
  itself s = (((refl, omega arith), omega arith), λ limit one two. (one, two))

  retracted_future : (P : ℕ → ℕ → ℕ → ℕ → Type 0) (future : Option F) (task : Task) (s : Solo F T X) → Of (counting P) s
      → Of (counting P) (closing.retracted_future future task s)
  retracted_future P (Some future) task s p = p
  retracted_future P None task s p = p

  retracted_by : (P : ℕ → ℕ → ℕ → ℕ → Type 0) (place : Option EntryPlace) (task : Task) (s : Solo F T X) → Of (counting P) s
      → Of (counting P) (closing.retracted_by place task s)
  retracted_by P (Some place) task s p =
      retracted_future P (future_of (entry_in place s.table.entries)) task (closing.out place s) (put_of P place None s p)
  retracted_by P None task s p = p

  retracted : (P : ℕ → ℕ → ℕ → ℕ → Type 0) (task : Task) (s : Solo F T X) → Of (counting P) s → Of (counting P) (closing.retracted task s)
  retracted P task s p = retracted_by P (asked cells.retract_answer None task s.cells) task (turned cells.retracted task s) p

  taken_by : (P : ℕ → ℕ → ℕ → ℕ → Type 0) (first : Option Task) (s : Solo F T X) → Of (counting P) s
      → Of (counting P) (solo.taken_by first s)
  taken_by P None s p = p
  taken_by P (Some task) s p = begun_of P task (turns.told s) (told_of (counting P) s p)

  pending_by : (P : ℕ → ℕ → ℕ → ℕ → Type 0) (after : After) (lent : Lent) (future : F) (s : Solo F T X) → Of (counting P) s
      → Of (counting P) (solo.pending_by after lent future s)
  pending_by P DropFuture lent future s p = p
  pending_by P Unknown lent future s p = p
  pending_by P Rest lent future s p = put_of P lent.place (Some future) s p
  pending_by P Queue lent future s p =
      scheduled_of (counting P) lent.task (solo.put_back lent future s) (put_of P lent.place (Some future) s p)

  entry_left_keeps : (place : EntryPlace) (s : Solo F T X) → Keeps 1 s (turns.left place s)
  entry_left_keeps place s =
      let less = left_less place s.table.entries in
      let fewer = less.0 in
      let most = less.1 in
      left_by_of (counting (By 1 s)) (parts_of (entry_in place s.table.entries)) (turns.without place s)
      (((refl, omega (arith, fewer)), omega (arith, most)), λ limit one two. (one, two))

  leaving_of : (P : ℕ → ℕ → ℕ → ℕ → Type 0) (task : Task) (s : Solo F T X) → Of (counting P) s
      → Of (counting P) (closing.leaving_woken task s)
  leaving_of P task s p =
      let woken : Solo F T X = solo.woken task s in
      let q : Of (counting P) woken =
      scheduled_if_of (counting P) (asked cells.wake_queues false task s.cells) task (turned cells.woken task s) p in
      chosen (Of (counting P)) (asked cells.release_queues false task woken.cells)
      (turns.lined task (turned cells.released task woken)) (turned cells.released task woken) q q

  line_drained : (P : ℕ → ℕ → ℕ → ℕ → Type 0) (first : Option Task) (s : Solo F T X) → Of (counting P) s
      → Of (counting P) (closing.line_drained_by first s)
  line_drained P (Some task) s p = retracted P task s p
  line_drained P None s p = p

  waking : (P : ℕ → ℕ → ℕ → ℕ → Type 0) (first : Option Task) (s : Solo F T X) → Of (counting P) s
      → Of (counting P) (closing.drained_waking first s)
  waking P (Some task) s p = leaving_of P task s p
  waking P None s p = line_drained P (closing.first_lined (closing.shut_line s)) (closing.first_out (closing.shut_line s)) p

  drained_by : (P : ℕ → ℕ → ℕ → ℕ → Type 0) (parts : Option (Option F × Option Task)) (s : Solo F T X) → Of (counting P) s
      → Of (counting P) (closing.drained_by parts s)
  drained_by P (Some parts) s p = p
  drained_by P None s p = waking P (slice_get s.leaving.items 0) (closing.first_left s) p

  drained : (s : Solo F T X) → Keeps 1 s (closing.drained s)
  drained s =
      let less = rest_less s.going.entries in
      let fewer = less.0 in
      let most = less.1 in
      drained_by (By 1 s) (first_parts s.going.entries) (closing.first_going s)
      (((refl, omega (arith, fewer)), omega (arith, most)), λ limit one two. (one, two))

  leak_by : (P : ℕ → ℕ → ℕ → ℕ → Type 0) (first : Option Task) (s : Solo F T X) → Of (counting P) s
      → Of (counting P) (closing.leak_woken_by first s)
  leak_by P (Some task) s p = leaving_of P task s p
  leak_by P None s p = p

  leaked : (s : Solo F T X) → Keeps 0 s (closing.leaked s)
  leaked s =
      let same : length (map unwoken s.table.entries) ≡ length s.table.entries = length-map s.table.entries unwoken in
      (((refl, omega (arith, same)), omega (arith, same)), λ limit one two. (one, two))

  settled : (lent : Lent) (back : Back F T) (s : Solo F T X) → Keeps (ended_by_settle back) s (solo.settled lent back s)
  settled lent (Ready output) s = entry_left_keeps lent.place s
  settled lent (Pending future) s =
      pending_by (By 0 s) (solo.after_poll lent s) lent future (turned (cells.ended_pending lent.place) lent.task s) (itself s)

  module _ (limit : ℕ) where
    -- so many were accepted, and so many ended, and the limit is that of the making
    abbrev Counted : ℕ → ℕ → Solo F T X → Type 0
    Counted a e s =
        ((((s.accepted ≡ min a (2 ^ 64 - 1)) × (a ≤ futures s + e)) × (futures s ≤ a)) × (s.table.limit ≡ limit))
        × (s.going.limit ≡ limit)

    kept_by : (a e k : ℕ) (old new : Solo F T X) → Keeps k old new → Counted a e old → Counted (a + 0) (e + k) new
    kept_by a e k old new keeps counted =
        let fewer = keeps.0.0.1 in
        let most = keeps.0.1 in
        let there = counted.0.0.0.1 in
        let no_more = counted.0.0.1 in
        let limits = keeps.1 limit counted.0.1 counted.1 in
        subst (λ n. Counted n (e + k) new) (sym (plus_zero a))
        ((((keeps.0.0.0 ∙ counted.0.0.0.0, omega (arith, most, there)), omega (arith, fewer, no_more)), limits.0), limits.1)

    kept_at : (a e k : ℕ) (old new after : Solo F T X) → new ≡ after → Keeps k old after → Counted a e old → Counted (a + 0) (e + k) new
    kept_at a e k old new after is keeps counted = kept_by a e k old new (subst (Keeps k old) (sym is) keeps) counted

    -- one more is accepted
    abbrev OneMore : Solo F T X → ℕ → ℕ → ℕ → ℕ → Type 0
    OneMore old b n l m = (((b ≡ one_more old.accepted) × (n ≡ futures old + 1)) × (l ≡ limit)) × (m ≡ limit)

    spawned_counts : (a e : ℕ) (mark : Mark) (future : F) (spawned : Spawned X) (old new : Solo F T X)
        → solo.Spawns mark future old (Ok spawned) new
        → Counted a e old → Counted (a + 1) (e + 0) new
    spawned_counts a e mark future spawned old new does counted =
        let accepts = does.1.0 in
        let s : Solo F T X = does.0 in
        let entry = new_entry accepts.place future (counted_waker (solo.counts old.kind) spawned.task) in
        let longer = length-append old.table.entries (entry ∷ []) in
        let table : length s.table.entries ≡ length (old.table.entries ++ entry ∷ []) = ap (λ t. length t.entries) accepts.entered in
        let rest : length s.going.entries ≡ length old.going.entries =
        ap (λ (t : Solo F T X). length t.going.entries) does.1.1 in
        let number : s.accepted ≡ one_more old.accepted = ap (λ (t : Solo F T X). t.accepted) does.1.1 in
        let all : futures s ≡ futures old + 1 = omega (arith, longer, table, rest) in
        let one : s.table.limit ≡ limit = ap (λ t. t.limit) accepts.entered ∙ counted.0.1 in
        let two : s.going.limit ≡ limit = ap (λ (t : Solo F T X). t.going.limit) does.1.1 ∙ counted.1 in
        let after = scheduled_of (counting (OneMore old)) spawned.task s (((number, all), one), two) in
        let new_after : OneMore old new.accepted (futures new) new.table.limit new.going.limit =
        subst (Of (counting (OneMore old))) (sym does.2) after in
        let there = counted.0.0.0.1 in
        let no_more = counted.0.0.1 in
        let now = new_after.0.0.1 in (
          (
            ((new_after.0.0.0 ∙ ap one_more counted.0.0.0.0 ∙ one_more_is a, omega (arith, there, now)), omega (arith, no_more, now)),
            new_after.0.1,
          ),
          new_after.1,
        )

    refused_keeps : (mark : Mark) (future : F) (refused : SpawnError F) (old new : Solo F T X)
        → solo.Spawns mark future old (Err refused) new
        → Keeps 0 old new
    refused_keeps mark future (Full back) old new does =
        let table : length new.table.entries ≡ length old.table.entries = ap (λ t. length t.entries) does.0.2.table in
        let rest : length new.going.entries ≡ length old.going.entries = ap (λ (t : Solo F T X). length t.going.entries) does.1 in (
          ((ap (λ (t : Solo F T X). t.accepted) does.1, omega (arith, table, rest)), omega (arith, table, rest)),
          λ limit one two. (ap (λ t. t.limit) does.0.2.table ∙ one, ap (λ (t : Solo F T X). t.going.limit) does.1 ∙ two),
        )
    refused_keeps mark future (NoMemory back) old new does =
        let table : length new.table.entries ≡ length old.table.entries = ap (λ t. length t.entries) does.0.3.table in
        let rest : length new.going.entries ≡ length old.going.entries = ap (λ (t : Solo F T X). length t.going.entries) does.1 in (
          ((ap (λ (t : Solo F T X). t.accepted) does.1, omega (arith, table, rest)), omega (arith, table, rest)),
          λ limit one two. (ap (λ t. t.limit) does.0.3.table ∙ one, ap (λ (t : Solo F T X). t.going.limit) does.1 ∙ two),
        )

    counted_after : (a e : ℕ) (call : Call F T X) (old new : Solo F T X) → Does call old new → Counted a e old
        → Counted (a + accepted_by call) (e + ended_by call) new
    counted_after a e (Spawn mark future) old new does c = spawned_counts a e mark future does.0 old new does.1 c
    counted_after a e (SpawnRefused mark future) old new does c =
        kept_by a e 0 old new (refused_keeps mark future does.0 old new does.1) c
    counted_after a e Take old new is c =
        kept_at a e 0 old new (solo.taken old) is (taken_by (By 0 old) (solo.sought old) (solo.popped old) (itself old)) c
    counted_after a e (Settle lent back) old new is c =
        kept_at a e (ended_by_settle back) old new (solo.settled lent back old) is (settled lent back old) c
    counted_after a e (Finish lent) old new is c =
        kept_at a e 1 old new (solo.finished lent old) is (entry_left_keeps lent.place old) c
    counted_after a e (Wake task) old new is c =
        kept_at a e 0 old new (solo.woken task old) is
        (scheduled_if_of (counting (By 0 old)) (asked cells.wake_queues false task old.cells) task (turned cells.woken task old)
        (itself old)) c
    counted_after a e (WakeAndRelease task) old new is c =
        kept_at a e 0 old new (solo.woken_and_released task old) is
        (scheduled_if_of (counting (By 0 old)) (solo.wakes_or_closes task old) task
        (turned cells.released task (turned cells.woken task old)) (itself old)) c
    counted_after a e (Hold task) old new is c = kept_at a e 0 old new (solo.held task old) is (itself old) c
    counted_after a e (Release task) old new is c =
        kept_at a e 0 old new (solo.released task old) is (let_go_of (counting (By 0 old)) task old (itself old)) c
    counted_after a e (Cancel task) old new is c =
        kept_at a e 0 old new (solo.cancelled task old) is
        (scheduled_if_of (counting (By 0 old)) (is_some (asked cells.cancel_queues None task old.cells)) task
        (turned cells.cancelled task old)
        (itself old)) c
    counted_after a e (Detach task) old new is c =
        kept_at a e 0 old new (solo.detached task old) is
        (scheduled_if_of (counting (By 0 old)) (is_some (asked cells.detach_queues None task old.cells)) task
        (turned cells.detached task old)
        (itself old)) c
    counted_after a e (Poll task waker) old new is c = kept_at a e 0 old new (solo.polled task waker old) is (itself old) c
    counted_after a e (Retract task) old new is c =
        kept_at a e 0 old new (closing.retracted task old) is (retracted (By 0 old) task old (itself old)) c
    counted_after a e MakeTick old new (inl is) c = kept_at a e 0 old new (ticks.roomy old) is (itself old) c
    counted_after a e MakeTick old new (inr is) c = kept_at a e 0 old new old is (itself old) c
    counted_after a e (TickTake ticker waker) old new is c =
        kept_at a e 0 old new (ticks.taken ticker waker old) is (tick_taken_of (By 0 old) ticker waker old (itself old)) c
    counted_after a e (TickSearch ticker) old new is c =
        kept_at a e 0 old new (ticks.searched ticker old) is (tick_searched_of (By 0 old) ticker old (itself old)) c
    counted_after a e (TickSleep ticker waker) old new is c =
        kept_at a e 0 old new (ticks.slept ticker waker old) is (slept_of (By 0 old) ticker waker old (itself old)) c
    counted_after a e (TickLeave ticker) old new is c =
        kept_at a e 0 old new (ticks.left ticker old) is (tick_left_of (counting (By 0 old)) ticker old (itself old)) c
    counted_after a e MakeRun old new (inl is) c = kept_at a e 0 old new (runs.made old) is (itself old) c
    counted_after a e MakeRun old new (inr is) c = kept_at a e 0 old new old is (itself old) c
    counted_after a e (RunBegin runner) old new is c = kept_at a e 0 old new (runs.begun runner old) is (itself old) c
    counted_after a e (RunTake runner ticker waker start) old new is c =
        kept_at a e 0 old new (runs.took runner ticker waker start old) is
        (run_taken_of (By 0 old) runner ticker waker start old (itself old)) c
    counted_after a e (RunSearch runner ticker start) old new is c =
        kept_at a e 0 old new (runs.searched runner ticker start old) is (run_searched_of (By 0 old) runner ticker start old (itself old)) c
    counted_after a e (RunLeave runner) old new is c = kept_at a e 0 old new (runs.left runner old) is (itself old) c
    counted_after a e (RunDrain leaving) old new is c =
        kept_at a e 0 old new (runs.drained leaving old) is
        (run_drained_of (counting (By 0 old)) (runs.first_left leaving.own) leaving.ticker old (itself old)) c
    counted_after a e Leak old new is c = kept_at a e 0 old new (closing.leaked old) is (leaked old) c
    counted_after a e LeakNext old new is c =
        kept_at a e 0 old new (closing.leak_woken old) is
        (leak_by (By 0 old) (slice_get old.leaving.items 0) (closing.first_left old) (itself old)) c
    counted_after a e Close old new is c =
        kept_at a e 0 old new (closing.closed old) is
        (((refl, omega arith), omega arith), λ limit one two. (two, one)) c
    counted_after a e Drain old new is c = kept_at a e 1 old new (closing.drained old) is (drained old) c

    regrouped : (a b c d e f : ℕ) (s : Solo F T X) → Counted (a + b + c) (d + e + f) s → Counted (a + (b + c)) (d + (e + f)) s
    regrouped a b c d e f s counted =
        let one : a + b + c ≡ a + (b + c) = omega arith in
        let two : d + e + f ≡ d + (e + f) = omega arith in
        subst (λ n. Counted n (d + (e + f)) s) one (subst (λ m. Counted (a + b + c) m s) two counted)

    course : (a e : ℕ) (calls : List (Call F T X)) (first last : Solo F T X) → Course calls first last → Counted a e first
        → Counted (a + sum_of accepted_by calls) (e + sum_of ended_by calls) last
    course a e [] first last is c =
        subst (Counted (a + 0) (e + 0)) (sym is)
        (subst (λ n. Counted n (e + 0) first) (sym (plus_zero a)) (subst (λ m. Counted a m first) (sym (plus_zero e)) c))
    course a e (call ∷ calls) first last does c =
        regrouped a (accepted_by call) (sum_of accepted_by calls) e (ended_by call) (sum_of ended_by calls) last
        (course (a + accepted_by call) (e + ended_by call) calls does.0 last does.2 (counted_after a e call first does.0 does.1 c))

  new_counts : (limit : ℕ) (kind : Kind) (s : Solo F T X) → solo.IsNew limit kind s → Counted limit 0 0 s
  new_counts limit kind s new =
      let none : length s.table.entries ≡ 0 = ap (λ t. length t.entries) new.table in
      let gone : length s.going.entries ≡ 0 = ap (λ t. length t.entries) new.going in (
        (((new.accepted, omega arith), omega (arith, none, gone)), ap (λ t. t.limit) new.table),
        ap (λ t. t.limit) new.going,
      )

  all_counted : (limit : ℕ) (kind : Kind) (calls : List (Call F T X)) (first last : Solo F T X) → solo.IsNew limit kind first
      → Course calls first last → Counted limit (0 + sum_of accepted_by calls) (0 + sum_of ended_by calls) last
  all_counted limit kind calls first last new does = course limit 0 0 calls first last does (new_counts limit kind first new)

  pub none_is_lost : (limit : ℕ) (kind : Kind) (calls : List (Call F T X)) (first last : Solo F T X) → solo.IsNew limit kind first
      → Course calls first last → NoneIsLost calls last
  none_is_lost limit kind calls first last new does =
      let counted = all_counted limit kind calls first last new does in
      let there = counted.0.0.0.1 in
      let no_more = counted.0.0.1 in
      record { kept = omega (arith, there); none_more = omega (arith, no_more) }

  pub is_numbered : (limit : ℕ) (kind : Kind) (calls : List (Call F T X)) (first last : Solo F T X) → solo.IsNew limit kind first
      → Course calls first last → (mark : Mark) (future : F) (spawned : Spawned X) (next : Solo F T X)
      → solo.Spawns mark future last (Ok spawned) next
      → IsNumbered calls spawned
  is_numbered limit kind calls first last new does mark future spawned next accepted =
      let counted = all_counted limit kind calls first last new does in
      let all : 0 + sum_of accepted_by calls ≡ sum_of accepted_by calls = omega arith in
      accepted.1.0.numbered ∙ counted.0.0.0.0 ∙ ap (λ n. min n (2 ^ 64 - 1)) all

  pub comes_back : (limit : ℕ) (kind : Kind) (calls : List (Call F T X)) (first last : Solo F T X) → solo.IsNew limit kind first
      → Course calls first last → (mark : Mark) (future : F) (refused : SpawnError F) (next : Solo F T X)
      → solo.Spawns mark future last (Err refused) next
      → ComesBack limit future refused last next
  comes_back limit kind calls first last new does mark future (Full back) next is =
      let counted = all_counted limit kind calls first last new does in
      let same : last.table.limit ≡ limit = counted.0.1 in
      let full : last.table.limit ≤ length last.table.entries = is.0.1 in
      let reason : limit ≤ length last.table.entries = omega (arith, same, full) in
      record { back = is.0.0; reason = reason; same = is.0.2; others = is.1 }
  comes_back limit kind calls first last new does mark future (NoMemory back) next is =
      let counted = all_counted limit kind calls first last new does in
      let same : last.table.limit ≡ limit = counted.0.1 in
      let below : length last.table.entries < last.table.limit = is.0.1 in
      let reason : length last.table.entries < limit = omega (arith, same, below) in
      record { back = is.0.0; reason = reason; same = is.0.3; others = is.1 }
