-- The end of a poll is that of the plain scheduler.
use Rattle.std.proofs.Common.{◌≡◌, ℕ, ◌<◌, ◌≤◌, ◌==◌, cond, ◌&&◌, not, if◌then◌else◌, Bool, true, false, List, [], ◌∷◌, ◌++◌, length}
use Rattle.std.proofs.Common.{Option, Some, None, slice_get, is_some, refl, sym, ap, subst, ◌∙◌}
use Rattle.executor_parts.specs.declared.places.EntryPlace.{EntryPlace}
use Rattle.task_moves.specs.AbstractTask as abstract
use Rattle.task_moves.specs.AbstractTask.{AbstractTask, Phase, Idle, Queued, Polling, PollingWoken, Finished}
use Rattle.task_moves.specs.AbstractTask.PendingEnd.{Drops as EndDrops, Queues as EndQueues, Forgets as EndForgets, Rests as EndRests}
use Rattle.task_moves.specs.LocalTask as local
use Rattle.task_moves.specs.LocalTask.{told as told_of, info_of, info_from, is_home, is_queued}
use Rattle.solo.specs.declared.names.Task.{Task}
use Rattle.solo.specs.declared.names.SoloWaker.{SoloWaker}
use Rattle.solo.specs.declared.names.SoloWaker.TheVariants.{Task as OfTask}
use Rattle.solo.specs.declared.owed.Lent.{Lent}
use Rattle.solo.specs.declared.cells.After.TheVariants.{Unknown}
use Rattle.solo.specs.declared.solo.Solo.{Solo}
use Rattle.solo.specs.Cells.{Kept, choose, asked}
use Rattle.solo.specs.Cells as cells
use Rattle.solo.specs.Solo as solo
use Rattle.solo.specs.Turns as turns
use Rattle.plain_scheduler.specs.State.{Future, Lying, Choice, Plain, Code, Taker, Poll, Drop as DropCode, Closed, Gave, Drops}
use Rattle.plain_scheduler.specs.Lists.{or}
use Rattle.plain_scheduler.specs.Moves.{task, put, appended, becomes, tell}
use Rattle.plain_scheduler.specs.Calls as calls
use Rattle.solo_laws.specs.Tabled.{is_dropped}
use Rattle.solo_laws.specs.Road.{IsTaskOf, Follows, HasLife, apart, is_forgotten, stands, is_in, lents, drops, awaiters, wakes as wakes_of}
use Rattle.solo_laws.proofs.Following.Seeing.{seen}
use Rattle.solo_laws.proofs.Following.Due.{clash, both_true, not_true, equal}
use Rattle.solo_laws.proofs.Following.Inside.{home_lent, lent_dropping, same_inside, one_dropped, less_lent}
use Rattle.solo_laws.proofs.Following.Cells.{found, of_found, asks_found, changed_found, found_here}
use Rattle.solo_laws.proofs.Following.Tasks.{none_told}
use Rattle.solo_laws.proofs.Following.Changing.{task_is, kept, turned, lined}
use Rattle.solo_laws.proofs.Following.Placing.{places}
use Rattle.solo_laws.proofs.Following.Lines.{younger, life_pushed}
use Rattle.solo_laws.proofs.Following.Using.{put_long, put_due, put_lying, put_inside, marks}
use Rattle.solo_laws.proofs.Following.Telling.{told}
use Rattle.solo_laws.proofs.Following.Trying.{put_same}

module _ {T A : Type 0} where
  -- the future of a closed task is dropped
  drops_closed : (t : AbstractTask T A) → abstract.pending_end t ≡ EndDrops → t.closed ≡ true
  drops_closed t is = by t.closed refl t.handle t.phase t.wakers is
    where
      none : (b : Bool) → (if b then EndForgets else EndRests) ≡ EndDrops → ⊥
      none true is = absurd cc
      none false is = absurd cc

      by : (b : Bool) → t.closed ≡ b → (handle : Bool) (phase : Phase) (n : ℕ)
          → (if b then EndDrops else abstract.pending_end_of_open phase handle n) ≡ EndDrops → b ≡ true
      by true c handle phase n is = refl
      by false c true PollingWoken n is = absurd cc
      by false c false PollingWoken n is = absurd cc
      by false c true Idle n is = absurd cc
      by false c true Queued n is = absurd cc
      by false c true Polling n is = absurd cc
      by false c true Finished n is = absurd cc
      by false c false Idle n is = absurd (none (n == 0) is)
      by false c false Queued n is = absurd (none (n == 0) is)
      by false c false Polling n is = absurd (none (n == 0) is)
      by false c false Finished n is = absurd (none (n == 0) is)

  -- what waits again is in reach
  rests_reached : (t : AbstractTask T A) → abstract.pending_end t ≡ EndRests → is_forgotten (record t { phase = Idle }) ≡ false
  rests_reached t is = by t.closed t.handle t.phase t.wakers is
    where
      none : (b : Bool) → (if b then EndForgets else EndRests) ≡ EndRests → b ≡ false
      none true is = absurd cc
      none false is = refl

      by : (closed handle : Bool) (phase : Phase) (n : ℕ)
          → (if closed then EndDrops else abstract.pending_end_of_open phase handle n) ≡ EndRests
          → (not closed && (not handle && (n == 0))) ≡ false
      by true handle phase n is = refl
      by false true phase n is = refl
      by false false PollingWoken n is = absurd cc
      by false false Idle n is = none (n == 0) is
      by false false Queued n is = none (n == 0) is
      by false false Polling n is = none (n == 0) is
      by false false Finished n is = none (n == 0) is

-- whether its future is put back
abbrev pub is_back : abstract.PendingEnd → Bool
is_back EndDrops = false
is_back EndForgets = false
is_back EndQueues = true
is_back EndRests = true

module _ {T X : Type 0} (place : EntryPlace) where
  -- how the end leaves a task's state, and the task that is kept
  abbrev pub left_so : abstract.PendingEnd → AbstractTask T (SoloWaker X) → AbstractTask T (SoloWaker X)
  left_so e t = (local.settle_pending_by e place t).task

  abbrev pub kept_so : abstract.PendingEnd → Kept T X → Kept T X
  kept_so e v = cells.settled (local.settle_pending_by e place v.task) v

  pub ended_is : (e : abstract.PendingEnd) (v : Kept T X) → cells.is_lent v ≡ true → abstract.pending_end v.task ≡ e
      → cells.ended_pending place v ≡ kept_so e v
  ended_is e v lent is =
      ap (λ b. choose b (cells.settled (local.settle_pending_by (abstract.pending_end v.task) place v.task) v) v) lent
      ∙ ap (λ e. cells.settled (local.settle_pending_by e place v.task) v) is

  -- nobody comes to await it
  left_awaiter : (e : abstract.PendingEnd) (t : AbstractTask T (SoloWaker X)) (w : SoloWaker X)
      → (left_so e t).awaiter ≡ Some w → t.awaiter ≡ Some w
  left_awaiter EndDrops t w is = is
  left_awaiter EndQueues t w is = is
  left_awaiter EndForgets t w is = is
  left_awaiter EndRests t w is = is

  left_is : (e : abstract.PendingEnd) (v : Kept T X) (x : Future T (SoloWaker X)) → cells.is_lent v ≡ true
      → abstract.pending_end x.task ≡ e
      → x.is_dropped ≡ false → IsTaskOf v x → IsTaskOf (kept_so e v) (record x { task = told_of (left_so e x.task) })
  left_is EndDrops v x lent is live of = record {
    task = ap (λ t. told_of t) of.task;
    mark = of.mark;
    told = refl;
    idle = λ idle. absurd (clash (home_lent v.future (of.idle idle)) lent);
    done = λ gone. absurd cc;
    reached = of.reached;
    there = λ home. absurd cc;
    closing = λ goes. drops_closed x.task is;
  }
  left_is EndQueues v x lent is live of = record {
    task = ap (λ t. told_of (abstract.queue true t)) of.task;
    mark = of.mark;
    told = refl;
    idle = λ idle. refl;
    done = λ gone. absurd cc;
    reached = refl;
    there = λ home. live;
    closing = λ goes. absurd cc;
  }
  left_is EndForgets v x lent is live of = record {
    task = ap (λ (t : AbstractTask T (SoloWaker X)). told_of (record t { phase = Finished; closed = true })) of.task;
    mark = of.mark;
    told = refl;
    idle = λ idle. absurd cc;
    done = λ gone. absurd cc;
    reached = refl;
    there = λ home. absurd cc;
    closing = λ goes. refl;
  }
  left_is EndRests v x lent is live of = record {
    task = ap (λ (t : AbstractTask T (SoloWaker X)). told_of (record t { phase = Idle })) of.task;
    mark = of.mark;
    told = refl;
    idle = λ idle. refl;
    done = λ gone. absurd cc;
    reached = rests_reached x.task is;
    there = λ home. live;
    closing = λ goes. absurd cc;
  }

module _ {F T X : Type 0} (name : ℕ → Task) (s : Solo F T X) (p : Plain T (SoloWaker X)) (r : Follows name s p) (c : Choice)
    (f : ℕ)
    (place : EntryPlace) (future : F) (at : f < length p.futures) (has : asked cells.is_lent false (name f) s.cells ≡ true)
    (not_lent : is_in f (lents p.inside) ≡ false) (live : is_dropped f p ≡ false) where
  abbrev pub now : Solo F T X
  now = turns.turned (cells.ended_pending place) (name f) s

  abbrev its : Lent
  its = record { task = name f; place = place }

  abbrev Its : Type 0
  Its = (v : Kept T X) × (x : Future T (SoloWaker X)) × (found (name f) s.cells ≡ Some v) × (slice_get p.futures f ≡ Some x)
      × (cells.is_lent v ≡ true) × IsTaskOf v x

  pub it : Its
  it = kept None name cells.is_lent f s p r at has

  lent_of : (v : Kept T X) → found (name f) s.cells ≡ Some v → cells.is_lent v ≡ true
  lent_of v here = sym (ap (of_found cells.is_lent false) here) ∙ (sym (asks_found cells.is_lent false (name f) s.cells) ∙ has)

  not_so : (q : Kept T X → Bool) → ((v : Kept T X) → cells.is_lent v ≡ true → q v ≡ false) → (b : Bool)
      → (b ≡ true → asked q false (name f) s.cells ≡ true) → b ≡ false
  not_so q never false is = refl
  not_so q never true is =
      absurd (clash (never it.0 (lent_of it.0 it.2))
      (sym (ap (of_found q false) it.2) ∙ (sym (asks_found q false (name f) s.cells) ∙ is refl)))

  not_due : stands f p.due ≡ false
  not_due =
      not_so cells.may_start (λ v lent. by (is_home v.future) (is_queued v.task.phase) (home_lent v.future) lent) (stands f p.due)
      (λ due. (r.ready f due).1)
    where
      by : (home queued : Bool) {lent : Bool} → (home ≡ true → lent ≡ false) → lent ≡ true → (home && queued) ≡ false
      by true queued never is = absurd (clash (never refl) is)
      by false queued never is = refl

  not_dropped : is_in f (drops p.inside) ≡ false
  not_dropped =
      not_so cells.is_dropping (λ v lent. lent_dropping v.future lent) (is_in f (drops p.inside))
      (λ has. (r.inside.dropping f has).1)

  module _ (e : abstract.PendingEnd) (is : abstract.pending_end (task f p) ≡ e) where
    abbrev pub after : Plain T (SoloWaker X)
    after = put f (left_so place e (task f p)) p

    end_of : (v : Kept T X) (x : Future T (SoloWaker X)) → slice_get p.futures f ≡ Some x → IsTaskOf v x
        → abstract.pending_end x.task ≡ e
    end_of v x here of = ap (λ t. abstract.pending_end t) (sym (task_is f p x here)) ∙ is

    next : Follows name now after
    next =
        turned None name (cells.ended_pending place) (left_so place e) f s p at
        (λ none over. absurd (clash refl (sym (ap (of_found cells.is_lent false) none)
        ∙ (sym (asks_found cells.is_lent false (name f) s.cells) ∙ has))))
        (λ v x here is of.
        let end = end_of v x is of in
        record {
          is =
              subst (λ w. IsTaskOf w (record x { task = told_of (left_so place e x.task) }))
              (sym (ended_is place e v (lent_of v here) (ap (λ t. abstract.pending_end t) of.task ∙ end)))
              (left_is place e v x (lent_of v here) end
              (sym (ap (λ (o : Option (Future T (SoloWaker X))). or o (λ future. future.is_dropped) true) is) ∙ live) of);
          ready = λ due start. absurd (clash not_due due);
          lent = λ has so. absurd (clash not_lent has);
          dropping = λ has so. absurd (clash not_dropped has);
        })
        (λ t has. r.awaiters f t (left_awaiter place e (task f p) (OfTask t) has))
        r

    -- what is so of it then
    asks_so : (q : Kept T X → Bool) → q (kept_so place e it.0) ≡ true
        → asked q false (name f) (cells.changed (cells.ended_pending place) (name f) s.cells) ≡ true
    asks_so q so =
        asks_found q false (name f) (cells.changed (cells.ended_pending place) (name f) s.cells)
        ∙ (ap (of_found q false) (found_here (cells.ended_pending place) (name f) s.cells
        ∙ ap (changed_found (cells.ended_pending place)) it.2)
        ∙ (ap q (ended_is place e it.0 it.4 (ap (λ t. abstract.pending_end t) it.5.task ∙ end_of it.0 it.1 it.3 it.5)) ∙ so))

    here : f < length after.futures
    here = subst (λ n. f < n) (sym (put_long f (left_so place e (task f p)) p)) at

    -- the future is to be dropped
    drops_it : (code : Code T (SoloWaker X)) → lents (code ∷ after.inside) ≡ lents after.inside → drops (code ∷ after.inside)
        ≡ f ∷ drops after.inside → awaiters (code ∷ after.inside) ≡ awaiters after.inside
        → cells.is_dropping (kept_so place e it.0) ≡ true
        → Follows name now (record after { events = after.events ++ Drops f ∷ []; inside = code ∷ after.inside })
    drops_it code lent dropped waits so =
        seen name now after (after.events ++ Drops f ∷ []) (code ∷ after.inside)
        (one_dropped name (length after.futures) now.cells after.inside (code ∷ after.inside) next.inside f here lent dropped waits
        (asks_so cells.is_dropping so)
        (subst (λ cs. is_in f (drops cs) ≡ false) (sym (put_inside f (left_so place e (task f p)) p)) not_dropped)) next

    -- the future is back
    back : Follows name (solo.put_back its future now) after
    back = record {
      numbered = next.numbered;
      tasks = next.tasks;
      within = next.within;
      queued = next.queued;
      once = next.once;
      ready = next.ready;
      asleep = next.asleep;
      awaiters = next.awaiters;
      inside = next.inside;
    }

    -- and comes last in its queue
    pub lines_it : HasLife 2 s.lines → cells.may_start (kept_so place e it.0) ≡ true
        → (turns.takes (name f) (solo.put_back its future now) ≡ true)
        × Follows name (turns.lined (name f) (solo.put_back its future now)) (appended f after)
    lines_it life so =
        let none : stands f after.due ≡ false =
        subst (λ due. stands f due ≡ false) (sym (put_due f (left_so place e (task f p)) p)) not_due in
        let ready : asked cells.may_start false (name f) (cells.changed (cells.ended_pending place) (name f) s.cells) ≡ true =
        asks_so cells.may_start so in
        let found_now : found (name f) (cells.changed (cells.ended_pending place) (name f) s.cells)
        ≡ Some (cells.ended_pending place it.0) =
        found_here (cells.ended_pending place) (name f) s.cells ∙ ap (changed_found (cells.ended_pending place)) it.2 in
        let there = solo.put_back its future now in
        let room : turns.takes (name f) there ≡ true =
        places None name there after back f here none ready (younger 1 s.lines life) (turns.mark_of (name f) there) in (
          room,
          lined None name f there after room (marks None name f there after
              (cells.ended_pending place it.0) here back found_now) here none ready back,
        )

    pub few : length p.lying ≤ c.tells → length (appended f after).lying ≤ c.tells
    few many =
        subst (λ (ls : List (Lying (SoloWaker X))). length ls ≤ c.tells)
        (sym (put_lying f (left_so place e (task f p)) p)) many

    queues_it : length p.lying ≤ c.tells → HasLife 2 s.lines → cells.may_start (kept_so place e it.0) ≡ true
        → Follows name (turns.scheduled (name f) (solo.put_back its future now)) (tell wakes_of c (appended f after))
    queues_it many life so =
        let there = solo.put_back its future now in
        let both = lines_it life so in
        subst (λ b. Follows name (choose b (turns.told (turns.lined (name f) there)) (turns.lined (name f) there))
        (tell wakes_of c (appended f after)))
        (sym both.0)
        (told None name c (turns.lined (name f) there) (appended f after) (few many) both.1
        (life_pushed (name f) 1 (turns.mark_of (name f) there) s.lines life))

  pub infos : (task f p).infos ≡ []
  infos =
      ap (λ (t : AbstractTask T (SoloWaker X)). t.infos) (task_is f p it.1 it.3) ∙ told_so it.5
    where
      told_so : {v : Kept T X} {x : Future T (SoloWaker X)} → IsTaskOf v x → x.task.infos ≡ []
      told_so of = of.told

  -- the future is to be dropped
  pub goes : (by : Taker (SoloWaker X)) (e : abstract.PendingEnd) → abstract.pending_end (task f p) ≡ e → is_back e ≡ false
      → Follows name (solo.pending_by (cells.pending_by e) its future now) (calls.pending_by wakes_of c e f by p)
  goes by EndDrops is left =
      subst
      (λ q. Follows name now (record q { events = q.events ++ Drops f ∷ []; inside = DropCode f Closed by ∷ q.inside }))
      (put_same f p at infos)
      (drops_it EndDrops is (DropCode f Closed by) refl refl refl refl)
  goes by EndForgets is left = drops_it EndForgets is (DropCode f Closed by) refl refl refl refl
  goes by EndRests is left = absurd cc
  goes by EndQueues is left = absurd cc

  -- or it is back, and its task queued, if it was woken
  pub rests : length p.lying ≤ c.tells → HasLife 2 s.lines → (e : abstract.PendingEnd) → abstract.pending_end (task f p) ≡ e
      → is_back e ≡ true
      → Follows name (solo.pending_by (cells.pending_by e) its future now)
      (becomes wakes_of (tell wakes_of c) f (abstract.end_pending (task f p)).task p)
  rests many life EndDrops is left = absurd cc
  rests many life EndForgets is left = absurd cc
  rests many life EndRests is left =
      subst
      (λ e. Follows name (solo.put_back its future now)
      (let new = (abstract.end_pending_by e (task f p)).task in
      if is_some (info_of (task f p) new) then tell wakes_of c (appended f (put f new p)) else put f new p))
      (sym is)
      (subst
      (λ b. Follows name (solo.put_back its future now)
      (if b then tell wakes_of c (appended f (after EndRests is)) else after EndRests is))
      (sym (none_told (task f p))) (back EndRests is))
  rests many life EndQueues is left =
      subst
      (λ e. Follows name (turns.scheduled (name f) (solo.put_back its future now))
      (let new = (abstract.end_pending_by e (task f p)).task in
      if is_some (info_of (task f p) new) then tell wakes_of c (appended f (put f new p)) else put f new p))
      (sym is)
      (subst
      (λ b. Follows name (turns.scheduled (name f) (solo.put_back its future now))
      (if b then tell wakes_of c (appended f (after EndQueues is)) else after EndQueues is))
      (sym (ap (λ (infos : List Bool). is_some (info_from (slice_get (infos ++ true ∷ []) (length infos)))) infos))
      (queues_it EndQueues is many life refl))

module _ {F T X : Type 0} (name : ℕ → Task) (s : Solo F T X) (p : Plain T (SoloWaker X)) (r : Follows name s p) (c : Choice)
    (f : ℕ) (by : Taker (SoloWaker X)) (rest : List (Code T (SoloWaker X))) (stands_in : p.inside ≡ Poll f by ∷ rest) where
  -- one that gave an output stays out until its future is dropped
  pub gives : (v : T) → Follows name s (calls.does wakes_of c (calls.Call.EndsWith v) p)
  gives v =
      let now : List (Code T (SoloWaker X)) = DropCode f (Gave v) by ∷ rest in
      subst
      (λ cs. Follows name s (calls.innermost wakes_of c cs (calls.gives wakes_of c v) p))
      (sym stands_in)
      (seen name s p (p.events ++ Drops f ∷ []) now
      (same_inside name (length p.futures) s.cells p.inside now r.inside
      (sym (ap (λ cs. lents cs) stands_in)) (sym (ap (λ cs. drops cs) stands_in)) (sym (ap (λ cs. awaiters cs) stands_in))) r)

  -- and one that gave none is in hand no more
  abbrev pub left : Plain T (SoloWaker X)
  left = record p { inside = rest }

  out : lents p.inside ≡ f ∷ lents rest
  out = ap (λ cs. lents cs) stands_in

  pub mine : is_in f (lents p.inside) ≡ true
  mine = ap (is_in f) out ∙ ap (λ b. cond b true (is_in f (lents rest))) (equal f f refl)

  pub lent_here : (f < length p.futures) × (asked cells.is_lent false (name f) s.cells ≡ true)
  lent_here = r.inside.lent f mine

  pub all : Follows name s left
  all =
      seen name s p p.events rest
      (less_lent name (length p.futures) s.cells p.inside rest r.inside f out (ap (λ cs. drops cs) stands_in)
      (ap (λ cs. awaiters cs) stands_in)) r

  pub not_lent : is_in f (lents rest) ≡ false
  not_lent =
      not_true (is_in f (lents rest))
      (both_true (not (is_in f (lents rest))) (apart (lents rest)) (sym (ap (λ ns. apart ns) out) ∙ r.inside.lent_once)).0

  -- what is said of it
  pub answer : (lent : Lent) → lent.task ≡ name f
      → solo.after_poll lent s ≡ cells.pending_by (abstract.pending_end (task f left))
  answer lent names =
      let k = kept None name cells.is_lent f s left all lent_here.0 lent_here.1 in
      ap (λ t. asked cells.pending_answer Unknown t s.cells) names
      ∙ (asks_found cells.pending_answer Unknown (name f) s.cells
      ∙ (ap (of_found cells.pending_answer Unknown) k.2
      ∙ (ap (λ b. choose b (cells.pending_by (abstract.pending_end k.0.task)) Unknown) k.4
      ∙ ap (λ t. cells.pending_by (abstract.pending_end t)) (k.5.task ∙ sym (task_is f left k.1 k.3)))))
