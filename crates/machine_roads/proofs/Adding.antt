-- What telling and getting up add to what is due: futures without a keeper, at the end, whatever else is due.
use Rattle.std.proofs.Common.{◌≡◌, ℕ, ◌-◌, ◌++◌, min, cond, Bool, true, false, List, [], ◌∷◌, length, Option, Some, None, is_some}
use Rattle.std.proofs.Common.{slice_get, slice_set, if◌then◌else◌, append-nil, append_assoc, refl, sym, ap, ◌∙◌}
use Rattle.std.specs.Prelude.{find}
use Rattle.task_moves.specs.AbstractTask as abstract
use Rattle.task_moves.specs.AbstractTask.{AbstractTask}
use Rattle.task_moves.specs.LocalTask.{info_of}
use Rattle.executor_model.specs.declared.op.Waker.{Waker}
use Rattle.plain_scheduler.specs.State.{Calls, Choice, Due, Future, Lying, Plain, Running, Who}
use Rattle.plain_scheduler.specs.Lists.{any, on, or, without}
use Rattle.plain_scheduler.specs.Moves.{appended, becomes, called, is_called, is_kept, let_go, lies, mark, put, release, see, task, tell}
use Rattle.plain_scheduler.specs.Moves.{told_at, up, used}
use Rattle.machine_roads.specs.View.{Output, wakes}
use Rattle.machine_roads.specs.Road.{futures_in}
use Rattle.machine_roads.proofs.Lying.{called_one}
use Rattle.machine_roads.proofs.Puts.{put_at}

-- these are due, and the runs are these
abbrev pub with_due : List Due → Plain Output Waker → Plain Output Waker
with_due ds q = record q { due = ds }

abbrev pub with_both : List Due → List Running → Plain Output Waker → Plain Output Waker
with_both ds rs q = record q { due = ds; runs = rs }

-- these have no keeper
abbrev pub AreBare : List Due → Type 0
AreBare [] = Unit {0}
AreBare (d ∷ ds) = (d.keeper ≡ None) × AreBare ds

bare_append : (ds es : List Due) → AreBare ds → AreBare es → AreBare (ds ++ es)
bare_append [] es one two = two
bare_append (d ∷ ds) es one two = (one.0, bare_append ds es one.1 two)

pub record Adds (does : Plain Output Waker → Plain Output Waker) (q : Plain Output Waker) : Type 0 where
  pub more : List Due
  pub bare : AreBare more
  pub is : (ds : List Due) (rs : List Running) → does (with_both ds rs q) ≡ with_both (ds ++ more) rs (does q)

-- nothing
abbrev AddsNone : (Plain Output Waker → Plain Output Waker) → Plain Output Waker → Type 0
AddsNone does q = (ds : List Due) (rs : List Running) → does (with_both ds rs q) ≡ with_both ds rs (does q)

none_added : (does : Plain Output Waker → Plain Output Waker) (q : Plain Output Waker) → AddsNone does q → Adds does q
none_added does q is = record {
  more = [];
  bare = tt;
  is = λ ds rs. is ds rs ∙ ap (λ ds. with_both ds rs (does q)) (sym (append-nil ds));
}

-- one thing, and then another
both_added : (one two : Plain Output Waker → Plain Output Waker) (q : Plain Output Waker) → Adds one q → Adds two (one q)
    → Adds (λ q. two (one q)) q
both_added one two q a b = record {
  more = a.more ++ b.more;
  bare = bare_append a.more b.more a.bare b.bare;
  is = λ ds rs.
      ap two (a.is ds rs) ∙ (b.is (ds ++ a.more) rs ∙ ap (λ ds. with_both ds rs (two (one q))) (append_assoc ds a.more b.more));
}

put_none : (g : ℕ) (new : AbstractTask Output Waker) (q : Plain Output Waker) → AddsNone (put g new) q
put_none g new q ds rs = by (slice_get q.futures g)
  where
    by : (o : Option (Future Output Waker))
        → on o (λ x p. put_at g new x p) (with_both ds rs q) ≡ with_both ds rs (on o (λ x p. put_at g new x p) q)
    by None = refl
    by (Some x) = refl

appended_one : (g : ℕ) (q : Plain Output Waker) → Adds (appended g) q
appended_one g q = record { more = record { future = g; mark = mark g q; keeper = None } ∷ []; bare = (refl, tt); is = λ ds rs. refl }

becomes_adds : (more : Plain Output Waker → Plain Output Waker) → ((q : Plain Output Waker) → Adds more q) → (g : ℕ)
    (new : AbstractTask Output Waker) (q : Plain Output Waker) → Adds (λ q. becomes wakes more g new q) q
becomes_adds more adds g new q = by (is_some (info_of (task g q) new)) refl
  where
    put_in : Adds (put g new) q
    put_in = none_added (put g new) q (put_none g new q)

    queued : Adds (λ q. more (appended g (put g new q))) q
    queued =
        both_added (λ q. appended g (put g new q)) more q
        (both_added (put g new) (appended g) q put_in (appended_one g (put g new q)))
        (adds (appended g (put g new q)))

    by : (b : Bool) → is_some (info_of (task g q) new) ≡ b → Adds (λ q. becomes wakes more g new q) q
    by true is = record {
      more = queued.more;
      bare = queued.bare;
      is = λ ds rs.
          ap (λ b. if b then more (appended g (put g new (with_both ds rs q))) else put g new (with_both ds rs q)) is
          ∙ (queued.is ds rs
          ∙ ap (λ z. with_both (ds ++ queued.more) rs z)
          (sym (ap (λ b. if b then more (appended g (put g new q)) else put g new q) is)));
    }
    by false is = record {
      more = put_in.more;
      bare = put_in.bare;
      is = λ ds rs.
          ap (λ b. if b then more (appended g (put g new (with_both ds rs q))) else put g new (with_both ds rs q)) is
          ∙ (put_in.is ds rs
          ∙ ap (λ z. with_both (ds ++ put_in.more) rs z)
          (sym (ap (λ b. if b then more (appended g (put g new q)) else put g new q) is)));
    }

module _ (more : Plain Output Waker → Plain Output Waker) (adds : (q : Plain Output Waker) → Adds more q) where
  release_adds : (g : ℕ) (q : Plain Output Waker) → Adds (release wakes more g) q
  release_adds g q =
      let a = becomes_adds more adds g (abstract.release (task g q)) q in
      record { more = a.more; bare = a.bare; is = a.is }

  used_adds : (g : ℕ) (q : Plain Output Waker) → Adds (used wakes more g) q
  used_adds g q =
      let a = becomes_adds more adds g (abstract.release (abstract.wake (task g q))) q in
      record { more = a.more; bare = a.bare; is = a.is }

  called_adds : (a : Waker) (q : Plain Output Waker) → Adds (called wakes more a) q
  called_adds a q = by (wakes a)
    where
      by : (o : Option ℕ) → Adds (λ q. or o (λ g. used wakes more g q) (see (Calls a) q)) q
      by None = none_added (see (Calls a)) q (λ ds rs. refl)
      by (Some g) = used_adds g q

  let_go_adds : (a : Waker) (q : Plain Output Waker) → Adds (let_go wakes more a) q
  let_go_adds a q = by (wakes a)
    where
      by : (o : Option ℕ) → Adds (λ q. on o (release wakes more) q) q
      by None = none_added (λ q. q) q (λ ds rs. refl)
      by (Some g) = release_adds g q

nothing_adds : (q : Plain Output Waker) → Adds (λ q. q) q
nothing_adds q = none_added (λ q. q) q (λ ds rs. refl)

pub tell_adds : (c : Choice) (q : Plain Output Waker) → Adds (tell wakes c) q
tell_adds c q = by (any is_called q.lying) refl
  where
    calling : Option Waker → ℕ → Lying Waker → Plain Output Waker → Plain Output Waker
    calling o i l q = on o (called wakes (λ s. s)) (record q { lying = slice_set q.lying i (called_one l) })

    telling : Option (Lying Waker) → ℕ → Plain Output Waker → Plain Output Waker
    telling o i q = on o (λ l q. on l.waker (called wakes (λ s. s)) (record q { lying = slice_set q.lying i (called_one l) })) q

    waker : (i : ℕ) (l : Lying Waker) (o : Option Waker) → Adds (calling o i l) q
    waker i l None = none_added (calling None i l) q (λ ds rs. refl)
    waker i l (Some a) =
        both_added (λ q. record q { lying = slice_set q.lying i (called_one l) }) (called wakes (λ s. s) a) q
        (none_added (λ q. record q { lying = slice_set q.lying i (called_one l) }) q (λ ds rs. refl))
        (called_adds (λ s. s) nothing_adds a (record q { lying = slice_set q.lying i (called_one l) }))

    at_one : (i : ℕ) (o : Option (Lying Waker)) → Adds (telling o i) q
    at_one i None = none_added (λ q. q) q (λ ds rs. refl)
    at_one i (Some l) = waker i l l.waker

    one : (i : ℕ) (o : Option (Lying Waker)) → slice_get q.lying i ≡ o → Adds (told_at wakes i) q
    one i o is =
        let w = at_one i o in
        record {
          more = w.more;
          bare = w.bare;
          is = λ ds rs.
              ap (λ o. telling o i (with_both ds rs q)) is
              ∙ (w.is ds rs ∙ ap (λ z. with_both (ds ++ w.more) rs z) (sym (ap (λ o. telling o i q) is)));
        }

    by : (b : Bool) → any is_called q.lying ≡ b → Adds (tell wakes c) q
    by true is = record {
      more = [];
      bare = tt;
      is = λ ds rs.
          ap (λ b. cond b (with_both ds rs q) (told_at wakes (min c.tells (length q.lying - 1)) (with_both ds rs q))) is
          ∙ (ap (λ ds. with_both ds rs q) (sym (append-nil ds))
          ∙ ap (λ z. with_both (ds ++ []) rs z) (sym (ap (λ b. cond b q (told_at wakes (min c.tells (length q.lying - 1)) q)) is)));
    }
    by false is =
        let w = one (min c.tells (length q.lying - 1)) (slice_get q.lying (min c.tells (length q.lying - 1))) refl in
        record {
          more = w.more;
          bare = w.bare;
          is = λ ds rs.
              ap (λ b. cond b (with_both ds rs q) (told_at wakes (min c.tells (length q.lying - 1)) (with_both ds rs q))) is
              ∙ (w.is ds rs
              ∙ ap (λ z. with_both (ds ++ w.more) rs z)
              (sym (ap (λ b. cond b q (told_at wakes (min c.tells (length q.lying - 1)) q)) is)));
        }

up_adds : (c : Choice) (who : Who) (q : Plain Output Waker) → Adds (up wakes c who) q
up_adds c who q = by (find (lies who) q.lying) refl
  where
    rising : Option (Lying Waker) → Plain Output Waker → Plain Output Waker
    rising o q = on o (λ l p. on l.waker (let_go wakes (tell wakes c)) (record p { lying = without (lies who) p.lying })) q

    left : Plain Output Waker → Plain Output Waker
    left q = record q { lying = without (lies who) q.lying }

    waker : (o : Option Waker) → Adds (λ q. on o (let_go wakes (tell wakes c)) (left q)) q
    waker None = none_added left q (λ ds rs. refl)
    waker (Some a) =
        both_added left (let_go wakes (tell wakes c) a) q (none_added left q (λ ds rs. refl))
        (let_go_adds (tell wakes c) (tell_adds c) a (left q))

    one : (o : Option (Lying Waker)) → Adds (rising o) q
    one None = none_added (λ q. q) q (λ ds rs. refl)
    one (Some l) = waker l.waker

    by : (o : Option (Lying Waker)) → find (lies who) q.lying ≡ o → Adds (up wakes c who) q
    by o is =
        let w = one o in
        record {
          more = w.more;
          bare = w.bare;
          is = λ ds rs.
              ap (λ o. rising o (with_both ds rs q)) is
              ∙ (w.is ds rs ∙ ap (λ z. with_both (ds ++ w.more) rs z) (sym (ap (λ o. rising o q) is)));
        }

-- who gets up and tells
pub risen_adds : (c : Choice) (who : Who) (q : Plain Output Waker) → Adds (λ q. tell wakes c (up wakes c who q)) q
risen_adds c who q = both_added (up wakes c who) (tell wakes c) q (up_adds c who q) (tell_adds c (up wakes c who q))

-- nobody keeps any of these
pub bare_none : (r : ℕ) (ds : List Due) → AreBare ds → futures_in (is_kept r) ds ≡ []
bare_none r [] bare = refl
bare_none r (d ∷ ds) bare =
    ap (λ (k : Option ℕ). futures_in (is_kept r) (record d { keeper = k } ∷ ds)) bare.0 ∙ bare_none r ds bare.1
