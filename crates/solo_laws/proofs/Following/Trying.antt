-- A take of the executor is a try of the plain scheduler: what a search finds leaves its queue, a sleeper is told, and its run
-- begins.
use Rattle.std.proofs.Common.{◌≡◌, ℕ, zero, suc, ◌<◌, ◌≤◌, ◌+◌, ◌==◌, not, cond, if◌then◌else◌, Bool, true, false, List, [], ◌∷◌, ◌++◌}
use Rattle.std.proofs.Common.{length, find, Option, Some, None, slice_get, slice_set, is_some, refl, sym, ap, subst, ◌∙◌}
use Rattle.executor_parts.specs.declared.places.EntryPlace.{EntryPlace}
use Rattle.task_moves.specs.AbstractTask as abstract
use Rattle.task_moves.specs.AbstractTask.{AbstractTask}
use Rattle.task_moves.specs.LocalTask as local
use Rattle.task_moves.specs.LocalTask.{told as told_of, is_home, is_gone, is_lent, is_dropping, is_queued}
use Rattle.task_moves.specs.declared.local_task.answers.FuturePlace.{FuturePlace}
use Rattle.queue_steps.specs.ClosableQueue.{most_accepted}
use Rattle.task_moves.specs.declared.local_task.answers.Start.{Start}
use Rattle.task_moves.specs.declared.local_task.answers.Start.TheVariants.{Poll as StartPoll, Drop as StartDrop}
use Rattle.solo.specs.declared.names.Task.{Task}
use Rattle.solo.specs.declared.names.SoloWaker.{SoloWaker}
use Rattle.solo.specs.declared.solo.Solo.{Solo}
use Rattle.solo.specs.Cells.{Kept, choose, asked}
use Rattle.solo.specs.Cells as cells
use Rattle.solo.specs.Lines.{mark_of_turn, searched}
use Rattle.solo.specs.Solo as solo
use Rattle.solo.specs.Turns as turns
use Rattle.plain_scheduler.specs.State.{Due, Future, Choice, Plain, Taker, Closed, Poll, Drop as DropCode, Polls, Drops}
use Rattle.plain_scheduler.specs.Lists.{without, or}
use Rattle.plain_scheduler.specs.Moves.{put, task, chosen, enters, see}
use Rattle.plain_scheduler.specs.Takes as takes
use Rattle.solo_laws.specs.Road.{IsTaskOf, IsOver, is_in, lents, drops, FollowsBut, Follows, IsQueued, Lined, HasLife, stands, once}
use Rattle.solo_laws.specs.Road.{is_forgotten, count_of, tests, due_task_if, wakes}
use Rattle.solo_laws.proofs.Following.Lists.{get_below}
use Rattle.solo_laws.proofs.Following.Seeing.{seen}
use Rattle.solo_laws.proofs.Following.Cells.{found, of_found, asks_found, changed_found, found_here, same_number}
use Rattle.solo_laws.proofs.Following.Inside.{home_lent, home_dropping, one_lent, one_dropped}
use Rattle.solo_laws.proofs.Following.Due.{clash, both_true, and_true, not_true, not_false, later, equal, stood, once_without, found_stands}
use Rattle.solo_laws.proofs.Following.Due.{found_gone}
use Rattle.solo_laws.proofs.Following.Tasks.{queued_idle}
use Rattle.solo_laws.proofs.Following.Lines.{searched_same}
use Rattle.solo_laws.proofs.Following.Changing.{task_is, put_is, kept, turned}
use Rattle.solo_laws.proofs.Following.Taking.{searched_alike, found_any, without_none}
use Rattle.solo_laws.proofs.Following.Using.{stays, put_long, put_inside}

set_same_one : {B : Type 0} (xs : List B) (i : ℕ) (x : B) → slice_get xs i ≡ Some x → slice_set xs i x ≡ xs
set_same_one [] i x is = refl
set_same_one (y ∷ ys) zero x is = ap (λ z. z ∷ ys) (sym (some y x is))
  where
    some : {B : Type 0} (y x : B) → ◌≡◌ {A = Option B} (Some y) (Some x) → y ≡ x
    some y x is = ap (λ o. or o (λ z. z) y) is
set_same_one (y ∷ ys) (suc i) x is = ap (λ zs. y ∷ zs) (set_same_one ys i x is)

module _ {T A : Type 0} where
  pub untold : (t : AbstractTask T A) → t.infos ≡ [] → t ≡ told_of t
  untold t is = ap (λ (infos : List Bool). record t { infos = infos }) is

  begun_infos : (t : AbstractTask T A) → t.infos ≡ [] → (abstract.begin_run t).infos ≡ []
  begun_infos t is = by t.closed
    where
      by : (b : Bool) → (if b then t else record t { phase = abstract.Phase.Polling }).infos ≡ []
      by true = is
      by false = is

  begun_closed : (t : AbstractTask T A) → t.closed ≡ true → (abstract.begin_run t).closed ≡ true
  begun_closed t is = by t.closed
    where
      by : (b : Bool) → (if b then t else record t { phase = abstract.Phase.Polling }).closed ≡ true
      by true = is
      by false = is

  begun_awaiter : (t : AbstractTask T A) → (abstract.begin_run t).awaiter ≡ t.awaiter
  begun_awaiter t = by t.closed
    where
      by : (b : Bool) → (if b then t else record t { phase = abstract.Phase.Polling }).awaiter ≡ t.awaiter
      by true = refl
      by false = refl

  over_begun : (t : AbstractTask T A) → IsOver t → abstract.begin_run t ≡ t
  over_begun t is = ap (λ b. if b then t else record t { phase = abstract.Phase.Polling }) is.closed

  -- a task that is put where it is
  pub put_same : (f : ℕ) (p : Plain T A) → f < length p.futures → (task f p).infos ≡ [] → put f (task f p) p ≡ p
  put_same f p at is =
      let x = get_below p.futures f at in
      let it : task f p ≡ x.0.task = task_is f p x.0 x.1 in
      let same : record x.0 { task = told_of (task f p) } ≡ x.0 =
      ap (λ t. record x.0 { task = t }) (sym (untold (task f p) is) ∙ it) in
      put_is f (task f p) p x.0 x.1
      ∙ ap (λ fs. record p { futures = fs })
      (ap (slice_set p.futures f) same ∙ set_same_one p.futures f x.0 x.1)

  not_idle : (t : AbstractTask T A) → is_queued t.phase ≡ true → abstract.is_idle (abstract.begin_run t).phase ≡ true → ⊥
  not_idle t queued is = by t.closed is
    where
      by : (b : Bool) → abstract.is_idle (if b then t else record t { phase = abstract.Phase.Polling }).phase ≡ true → ⊥
      by true idle = clash (queued_idle t.phase queued) idle
      by false idle = absurd cc

  still_reached : (t : AbstractTask T A) → is_forgotten t ≡ false → is_forgotten (abstract.begin_run t) ≡ false
  still_reached t is = by t.closed
    where
      by : (b : Bool) → is_forgotten (if b then t else record t { phase = abstract.Phase.Polling }) ≡ false
      by true = is
      by false = refl

not_gone : (P : Type 0) (b : Bool) → is_gone (local.started {F = P} b) ≡ true → ⊥
not_gone P true is = absurd cc
not_gone P false is = absurd cc

not_home : (P : Type 0) (b : Bool) → is_home (local.started {F = P} b) ≡ true → ⊥
not_home P true is = absurd cc
not_home P false is = absurd cc

is_closing : (P : Type 0) (b : Bool) → is_dropping (local.started {F = P} b) ≡ true → b ≡ true
is_closing P true is = refl
is_closing P false is = absurd cc

module _ {T X : Type 0} where
  -- a task that is ready is begun
  started_is : (v : Kept T X) (x : Future T (SoloWaker X)) → IsTaskOf v x → cells.may_start v ≡ true
      → IsTaskOf (cells.started v) (record x { task = told_of (abstract.begin_run x.task) })
  started_is v x of may =
      let queued : is_queued x.task.phase ≡ true =
      ap (λ (t : AbstractTask T (SoloWaker X)). is_queued t.phase) (sym of.task)
      ∙ (both_true (is_home v.future) (is_queued v.task.phase) may).1 in
      let turns_to : cells.started v ≡ record v { task = abstract.begin_run v.task; future = local.started v.task.closed } =
      ap (λ b. choose b (record v { task = abstract.begin_run v.task; future = local.started v.task.closed }) v) may in
      subst (λ w. IsTaskOf w (record x { task = told_of (abstract.begin_run x.task) })) (sym turns_to)
      (record {
        task = ap abstract.begin_run of.task ∙ untold (abstract.begin_run x.task) (begun_infos x.task of.told);
        mark = of.mark;
        told = refl;
        idle = λ idle. absurd (not_idle x.task queued idle);
        done = λ gone. absurd (not_gone EntryPlace v.task.closed gone);
        reached = still_reached x.task of.reached;
        there = λ home. absurd (not_home EntryPlace v.task.closed home);
        closing = λ goes. begun_closed x.task (sym (ap (λ (t : AbstractTask T (SoloWaker X)). t.closed) of.task)
            ∙ is_closing EntryPlace v.task.closed goes);
      })

module _ {F T X : Type 0} (name : ℕ → Task) where
  out : (o : Option (Start EntryPlace)) (s : Solo F T X) (p : Plain T (SoloWaker X)) → Follows name s p
      → Follows name (turns.out_of o s) p
  out None s p r = r
  out (Some (StartPoll place)) s p r = record {
    numbered = r.numbered;
    tasks = r.tasks;
    within = r.within;
    queued = r.queued;
    once = r.once;
    ready = r.ready;
    asleep = r.asleep;
    awaiters = r.awaiters;
    inside = r.inside;
  }
  out (Some (StartDrop place)) s p r = record {
    numbered = r.numbered;
    tasks = r.tasks;
    within = r.within;
    queued = r.queued;
    once = r.once;
    ready = r.ready;
    asleep = r.asleep;
    awaiters = r.awaiters;
    inside = r.inside;
  }

  -- the run of a task that is ready begins in both
  pub begun : (c : Choice) (f : ℕ) (taker : Taker (SoloWaker X)) (s : Solo F T X) (p : Plain T (SoloWaker X)) → f < length p.futures
      → stands f p.due ≡ false → asked cells.may_start false (name f) s.cells ≡ true → Follows name s p
      → Follows name (turns.begun (name f) s) (takes.run wakes c f taker p)
  begun c f taker s p at gone ready r =
      out (asked cells.start_answer None (name f) s.cells) (turns.turned cells.started (name f) s) (takes.run wakes c f taker p)
      (by (task f p).closed refl)
    where
      there : (v : Kept T X) → found (name f) s.cells ≡ Some v → cells.may_start v ≡ true
      there v is = sym (ap (of_found cells.may_start false) is)
          ∙ (sym (asks_found cells.may_start false (name f) s.cells) ∙ ready)

      -- at home it isn't in hand
      away : (v : Kept T X) → found (name f) s.cells ≡ Some v → (q : Kept T X → Bool) → (q v ≡ true → ⊥) → (b : Bool)
          → (b ≡ true → asked q false (name f) s.cells ≡ true) → b ≡ false
      away v here q never false has = refl
      away v here q never true has =
          absurd (never (sym (ap (of_found q false) here) ∙ (sym (asks_found q false (name f) s.cells) ∙ has refl)))

      home : (v : Kept T X) → found (name f) s.cells ≡ Some v → is_home v.future ≡ true
      home v here = (both_true (is_home v.future) (is_queued v.task.phase) (there v here)).0

      not_lent : (v : Kept T X) → found (name f) s.cells ≡ Some v → is_in f (lents p.inside) ≡ false
      not_lent v here =
          away v here cells.is_lent (λ so. clash (home_lent v.future (home v here)) so) (is_in f (lents p.inside))
          (λ has. (r.inside.lent f has).1)

      not_dropped : (v : Kept T X) → found (name f) s.cells ≡ Some v → is_in f (drops p.inside) ≡ false
      not_dropped v here =
          away v here cells.is_dropping (λ so. clash (home_dropping v.future (home v here)) so) (is_in f (drops p.inside))
          (λ has. (r.inside.dropping f has).1)

      next : Follows name (turns.turned cells.started (name f) s) (put f (abstract.begin_run (task f p)) p)
      next =
          turned None name cells.started abstract.begin_run f s p at (λ none. stays abstract.begin_run over_begun (task f p))
          (λ v x here is of.
          record {
            is = started_is v x of (there v here);
            ready = λ due start. absurd (clash gone due);
            lent = λ has so. absurd (clash (not_lent v here) has);
            dropping = λ has so. absurd (clash (not_dropped v here) has);
          })
          (λ t is. r.awaiters f t (sym (begun_awaiter (task f p)) ∙ is))
          r

      -- where its future is then
      placed : (q : FuturePlace EntryPlace → Bool) → q (local.started (task f p).closed) ≡ true
          → asked (λ v. q v.future) false (name f) (cells.changed cells.started (name f) s.cells) ≡ true
      placed q is =
          let k = kept None name cells.may_start f s p r at ready in
          let of : IsTaskOf k.0 k.1 = k.5 in
          let closed : k.0.task.closed ≡ (task f p).closed =
          ap (λ (t : AbstractTask T (SoloWaker X)). t.closed) (of.task ∙ sym (task_is f p k.1 k.3)) in
          let v = record k.0 { task = abstract.begin_run k.0.task; future = local.started k.0.task.closed } in
          asks_found (λ v. q v.future) false (name f) (cells.changed cells.started (name f) s.cells)
          ∙ (ap (of_found (λ v. q v.future) false) (found_here cells.started (name f) s.cells
          ∙ ap (changed_found cells.started) k.2)
          ∙ (ap (λ b. q (choose b v k.0).future) k.4 ∙ (ap (λ b. q (local.started b)) closed ∙ is)))

      spare : (v : Kept T X) × (found (name f) s.cells ≡ Some v)
      spare = let k = kept None name cells.may_start f s p r at ready in (k.0, k.2)

      infos : (task f p).infos ≡ []
      infos =
          let k = kept None name cells.may_start f s p r at ready in
          let of : IsTaskOf k.0 k.1 = k.5 in
          ap (λ (t : AbstractTask T (SoloWaker X)). t.infos) (task_is f p k.1 k.3) ∙ of.told

      by : (b : Bool) → (task f p).closed ≡ b
          → Follows name (turns.turned cells.started (name f) s) (takes.run wakes c f taker p)
      by true is =
          let still : put f (abstract.begin_run (task f p)) p ≡ p =
          ap (λ b. put f (if b then task f p else record (task f p) { phase = abstract.Phase.Polling }) p) is
          ∙ put_same f p at infos in
          subst (λ b. Follows name (turns.turned cells.started (name f) s)
          (if b then takes.dropping wakes c f Closed taker p
          else enters (Poll f taker) (see (Polls f) (put f (abstract.begin_run (task f p)) p)))) (sym is)
          (let it : Follows name (turns.turned cells.started (name f) s) p = subst
          (Follows name (turns.turned cells.started (name f) s)) still next in
          seen name (turns.turned cells.started (name f) s) p (p.events ++ Drops f ∷ []) (DropCode f Closed taker ∷ p.inside)
          (one_dropped name (length p.futures) (cells.changed cells.started (name f) s.cells) p.inside
          (DropCode f Closed taker ∷ p.inside)
          it.inside f at refl refl refl (placed (λ place. is_dropping place)
          (ap (λ b. is_dropping (local.started {F = EntryPlace} b)) is))
          (not_dropped spare.0 spare.1)) it)
      by false is =
          let q : Plain T (SoloWaker X) = put f (abstract.begin_run (task f p)) p in
          subst (λ b. Follows name (turns.turned cells.started (name f) s)
          (if b then takes.dropping wakes c f Closed taker p
          else enters (Poll f taker) (see (Polls f) (put f (abstract.begin_run (task f p)) p)))) (sym is)
          (seen name (turns.turned cells.started (name f) s) q (q.events ++ Polls f ∷ []) (Poll f taker ∷ q.inside)
          (one_lent name (length q.futures) (cells.changed cells.started (name f) s.cells) q.inside
          (Poll f taker ∷ q.inside) next.inside f
          (subst (λ n. f < n) (sym (put_long f (abstract.begin_run (task f p)) p)) at) refl refl refl
          (placed (λ place. is_lent place) (ap (λ b. is_lent (local.started {F = EntryPlace} b)) is))
          (subst (λ cs. is_in f (lents cs) ≡ false) (sym (put_inside f (abstract.begin_run (task f p)) p))
          (not_lent spare.0 spare.1)))
          next)

  -- one that was taken is put aside no more
  pub forget : (d : Due) (s : Solo F T X) (p : Plain T (SoloWaker X)) → FollowsBut (Some d) name s p → Follows name s p
  forget d s p r = record {
    numbered = r.numbered;
    tasks = r.tasks;
    within = r.within;
    queued = r.queued;
    once = (both_true (not (stands d.future p.due)) (once p.due) r.once).1;
    ready = λ j due. r.ready j (later (j == d.future) (stands j p.due) due);
    asleep = r.asleep;
    awaiters = r.awaiters;
    inside = r.inside;
  }

  -- what a search finds, and what it leaves
  module _ (c : Choice) (s : Solo F T X) (p : Plain T (SoloWaker X)) (turn : c.first ≡ mark_of_turn s.lines.turn)
      (r : Follows name s p) where
    abbrev pub test : Due → Bool
    test = chosen (tests c.first) p.due

    abbrev pub left : Plain T (SoloWaker X)
    left = record p { due = without test p.due }

    alike : (solo.sought s ≡ due_task_if name (find test p.due)) × Lined name (searched s.lines) (without test p.due)
    alike =
        subst (λ m. (solo.sought s ≡ due_task_if name (find (chosen (tests m) p.due) p.due))
        × Lined name (searched s.lines) (without (chosen (tests m) p.due) p.due)) (sym turn)
        (searched_alike name s.lines p.due r.queued.lines)

    queued : (due : List Due) → Lined name (searched s.lines) due → IsQueued name p.limit (searched s.lines) due
    queued due lines = record {
      lines = lines;
      unclosed = λ mark. searched_same (λ q. q.closed) (λ q. refl) mark s.lines ∙ r.queued.unclosed mark;
      limit = λ mark. searched_same (λ q. q.capacity) (λ q. refl) mark s.lines ∙ r.queued.limit mark;
    }

    pub lives : (n : ℕ) → HasLife n s.lines → HasLife n (searched s.lines)
    lives n life mark =
        subst (λ m. m + n ≤ most_accepted) (sym (searched_same (λ q. count_of q.accepted) (λ q. refl) mark s.lines)) (life mark)

    pub nothing : find test p.due ≡ None → (solo.sought s ≡ None) × Follows name (solo.popped s) p
    nothing is =
        let none : without test p.due ≡ p.due = without_none test p.due (found_any test p.due ∙ ap is_some is) in (
          alike.0 ∙ ap (due_task_if name) is,
          record {
            numbered = r.numbered;
            tasks = r.tasks;
            within = r.within;
            queued = queued p.due (subst (Lined name (searched s.lines)) none alike.1);
            once = r.once;
            ready = r.ready;
            asleep = r.asleep;
            awaiters = r.awaiters;
            inside = r.inside;
          },
        )

    pub something : (d : Due) → find test p.due ≡ Some d
        → (solo.sought s ≡ Some (name d.future)) × FollowsBut (Some d) name (solo.popped s) left
    something d is = (
      alike.0 ∙ ap (due_task_if name) is,
      record {
        numbered = r.numbered;
        tasks = r.tasks;
        within = r.within;
        queued = queued (without test p.due) alike.1;
        once =
            and_true (not (stands d.future (without test p.due))) (once (without test p.due))
            (not_false (stands d.future (without test p.due)) (found_gone test p.due d is r.once))
            (once_without test p.due r.once);
        ready = λ j due. r.ready j (was (j == d.future) j due refl);
        asleep = r.asleep;
        awaiters = r.awaiters;
        inside = r.inside;
      },
    )
      where
        was : (b : Bool) (j : ℕ) → cond (j == d.future) true (stands j (without test p.due)) ≡ true → (j == d.future) ≡ b
            → stands j p.due ≡ true
        was true j due same =
            let one : j ≡ d.future = same_number j d.future same in
            subst (λ n. stands n p.due ≡ true) (sym one) (found_stands test p.due d is)
        was false j due same =
            stood test j p.due (sym (ap (λ b. cond b true (stands j (without test p.due))) same) ∙ due)

  -- one that was put aside is ready, and due no more
  pub aside_ready : (d : Due) (s : Solo F T X) (q : Plain T (SoloWaker X)) → FollowsBut (Some d) name s q
      → (d.future < length q.futures) × (asked cells.may_start false (name d.future) s.cells ≡ true)
      × (stands d.future q.due ≡ false)
  aside_ready d s q r =
      let can = r.ready d.future (ap (λ b. cond b true (stands d.future q.due)) (equal d.future d.future refl)) in (
        can.0,
        can.1,
        not_true (stands d.future q.due) (both_true (not (stands d.future q.due)) (once q.due) r.once).0,
      )
