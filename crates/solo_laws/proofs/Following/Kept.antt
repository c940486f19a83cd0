-- What the plain scheduler's changes leave of each future that isn't dropped: it is due, or waits for a wake, or is in hand.
use Rattle.std.proofs.Common.{◌≡◌, ℕ, ◌-◌, ◌==◌, ◌||◌, cond, min, nat_lt, if◌then◌else◌, Bool, true, false, List, [], ◌∷◌, ◌++◌, length}
use Rattle.std.proofs.Common.{zero, suc, count_by, find, Option, Some, None, is_some, slice_get, slice_set, refl, sym, ap, subst, ◌∙◌}
use Rattle.task_moves.specs.AbstractTask as abstract
use Rattle.task_moves.specs.AbstractTask.{AbstractTask, is_idle}
use Rattle.task_moves.specs.LocalTask.{told as told_of, info_of}
use Rattle.solo.specs.declared.names.SoloWaker.{SoloWaker}
use Rattle.solo.specs.declared.names.SoloWaker.TheVariants.{Task as OfTask, Outside}
use Rattle.plain_scheduler.specs.State.{Choice, Due, Future, Lying, Plain, Running, Who}
use Rattle.plain_scheduler.specs.Lists.{any, each, on, or, repeat, without}
use Rattle.plain_scheduler.specs.Moves.{appended, becomes, called, copied, given_back, is_called, is_common, is_kept, keeps, leaves}
use Rattle.plain_scheduler.specs.Moves.{let_go, lies, mark, moved, no_task, put, task, tell, told_at, up}
use Rattle.plain_scheduler.specs.Moves as moves
use Rattle.plain_scheduler.specs.Takes as takes
use Rattle.solo_laws.specs.NoneLost.{is_in_hand, is_there}
use Rattle.solo_laws.specs.Road.{stands, wakes}
use Rattle.solo_laws.specs.Tabled.{is_dropped}
use Rattle.solo_laws.proofs.Following.Cells.{same_number}
use Rattle.solo_laws.proofs.Following.Due.{clash, equal, later}
use Rattle.solo_laws.proofs.Following.Frames.{put_still}
use Rattle.solo_laws.proofs.Following.Lasting.{waits_on, release_lasts, use_lasts}
use Rattle.solo_laws.proofs.Following.Lists.{set_other, set_same}
use Rattle.solo_laws.proofs.Following.SameDue.{stays}
use Rattle.solo_laws.proofs.Following.Using.{put_due, put_inside}

pub first_or : (a b : Bool) → a ≡ true → (a || b) ≡ true
first_or true b is = refl
first_or false b is = absurd cc

pub second_or : (a b : Bool) → b ≡ true → (a || b) ≡ true
second_or true b is = refl
second_or false b is = is

only : (a b : Bool) → b ≡ false → (a || b) ≡ true → a ≡ true
only true b none is = refl
only false b none is = absurd (clash none is)

of_three : (a b c x y z : Bool) → (a ≡ true → x ≡ true) → (b ≡ true → (x || y) ≡ true) → (c ≡ true → z ≡ true)
    → (a || (b || c)) ≡ true → (x || (y || z)) ≡ true
of_three true b c x y z one two three is = first_or x (y || z) (one refl)
of_three false true c x y z one two three is = both x y (two refl)
  where
    both : (x y : Bool) → (x || y) ≡ true → (x || (y || z)) ≡ true
    both true y is = refl
    both false true is = refl
    both false false is = absurd cc
of_three false false c x y z one two three is = second_or x (y || z) (second_or y z (three is))

-- one comes last
pub more_stand : (f : ℕ) (ds : List Due) (d : Due) → stands f ds ≡ true → stands f (ds ++ d ∷ []) ≡ true
more_stand f [] d is = absurd cc
more_stand f (e ∷ ds) d is = by (f == e.future) (more_stand f ds d) is
  where
    by : (b : Bool) → (stands f ds ≡ true → stands f (ds ++ d ∷ []) ≡ true) → cond b true (stands f ds) ≡ true
        → cond b true (stands f (ds ++ d ∷ [])) ≡ true
    by true rest is = refl
    by false rest is = rest is

pub last_stands : (ds : List Due) (d : Due) → stands d.future (ds ++ d ∷ []) ≡ true
last_stands [] d = ap (λ b. cond b true false) (equal d.future d.future refl)
last_stands (e ∷ ds) d = later (d.future == e.future) (stands d.future (ds ++ d ∷ [])) (last_stands ds d)

-- one changes its place
goes_last : (test : Due → Bool) (ds : List Due) (d e : Due) → find test ds ≡ Some d → e.future ≡ d.future → (f : ℕ) → stands f ds ≡ true
    → stands f (without test ds ++ e ∷ []) ≡ true
goes_last test ds d e is same f has = by (f == e.future) refl
  where
    by : (b : Bool) → (f == e.future) ≡ b → stands f (without test ds ++ e ∷ []) ≡ true
    by true one =
        subst (λ n. stands n (without test ds ++ e ∷ []) ≡ true) (sym (same_number f e.future one)) (last_stands (without test ds) e)
    by false other =
        more_stand f (without test ds) e (stays test f ds d is (subst (λ n. (f == n) ≡ false) same other) has)

-- and this one
abbrev pub more_aside : ℕ → (ℕ → Bool) → ℕ → Bool
more_aside f aside g = (f == g) || aside g

module _ {T X : Type 0} where
  -- but for those that are set aside
  abbrev pub Kept : (ℕ → Bool) → Plain T (SoloWaker X) → Type 0
  Kept aside p = (f : ℕ) → is_dropped f p ≡ false → (aside f || is_there f p) ≡ true

  -- whoever is set aside
  abbrev pub Keeps : Plain T (SoloWaker X) → Plain T (SoloWaker X) → Type 0
  Keeps p q = (aside : ℕ → Bool) → Kept aside p → Kept aside q

  abbrev pub AllKept : (Plain T (SoloWaker X) → Plain T (SoloWaker X)) → Type 0
  AllKept op = (p : Plain T (SoloWaker X)) → Keeps p (op p)

  parts : (p q : Plain T (SoloWaker X)) → ((f : ℕ) → is_dropped f q ≡ false → is_dropped f p ≡ false)
      → ((f : ℕ) → is_dropped f q ≡ false → is_there f p ≡ true → is_there f q ≡ true) → Keeps p q
  parts p q dropped there aside has f live = by (aside f) (has f (dropped f live))
    where
      by : (b : Bool) → (b || is_there f p) ≡ true → (b || is_there f q) ≡ true
      by true is = refl
      by false is = there f live is

  -- this one is there again
  pub comes_back : (f : ℕ) (aside : ℕ → Bool) (p q : Plain T (SoloWaker X)) → (is_dropped f q ≡ false → is_there f q ≡ true)
      → ((g : ℕ) → (f == g) ≡ false → is_dropped g q ≡ false → is_dropped g p ≡ false)
      → ((g : ℕ) → (f == g) ≡ false → is_dropped g q ≡ false → is_there g p ≡ true → is_there g q ≡ true)
      → Kept (more_aside f aside) p → Kept aside q
  comes_back f aside p q here dropped there has g live = by (f == g) refl
    where
      still : (b : Bool) → (b || is_there g p) ≡ true → (is_there g p ≡ true → is_there g q ≡ true) → (b || is_there g q) ≡ true
      still true is goes = refl
      still false is goes = goes is

      by : (b : Bool) → (f == g) ≡ b → (aside g || is_there g q) ≡ true
      by true one =
          let same : f ≡ g = same_number f g one in
          second_or (aside g) (is_there g q)
          (subst (λ n. is_there n q ≡ true) same (here (ap (λ n. is_dropped n q) same ∙ live)))
      by false other =
          still (aside g) (sym (ap (λ b. (b || aside g) || is_there g p) other) ∙ has g (dropped g other live)) (there g other live)

  -- other futures are due
  due_there : (p : Plain T (SoloWaker X)) (due : List Due) → ((f : ℕ) → stands f p.due ≡ true → stands f due ≡ true) → (f : ℕ)
      → is_there f p ≡ true → is_there f (record p { due = due }) ≡ true
  due_there p due all f is =
      of_three (stands f p.due) (is_idle (task f p).phase) (is_in_hand f p.inside) (stands f due) (is_idle (task f p).phase)
      (is_in_hand f p.inside) (all f) (λ idle. second_or (stands f due) (is_idle (task f p).phase) idle) (λ held. held) is

  pub due_kept : (p : Plain T (SoloWaker X)) (due : List Due) → ((f : ℕ) → stands f p.due ≡ true → stands f due ≡ true)
      → Keeps p (record p { due = due })
  due_kept p due all = parts p (record p { due = due }) (λ f live. live) (λ f live is. due_there p due all f is)

  -- a task becomes another
  module _ (c : Choice) (f : ℕ) (new : AbstractTask T (SoloWaker X)) (p : Plain T (SoloWaker X)) where
    abbrev q : Plain T (SoloWaker X)
    q = put f new p

    pub put_dropped : (g : ℕ) → is_dropped g q ≡ is_dropped g p
    put_dropped = (put_still c f new p).dropped

    pub put_other : (g : ℕ) → (f == g) ≡ false → task g q ≡ task g p
    put_other g other = by (slice_get p.futures f)
      where
        by : (o : Option (Future T (SoloWaker X)))
            → task g (on o (λ x p. record p { futures = slice_set p.futures f (record x { task = told_of new }) }) p) ≡ task g p
        by None = refl
        by (Some x) =
            ap (λ (o : Option (Future T (SoloWaker X))). or o (λ future. future.task) no_task)
            (set_other p.futures f g (record x { task = told_of new }) other)

    -- if it is there
    pub put_here : is_dropped f p ≡ false → task f q ≡ told_of new
    put_here live = by (slice_get p.futures f) refl
      where
        by : (o : Option (Future T (SoloWaker X))) → slice_get p.futures f ≡ o
            → task f (on o (λ x p. record p { futures = slice_set p.futures f (record x { task = told_of new }) }) p) ≡ told_of new
        by None is =
            absurd (clash live (ap (λ (o : Option (Future T (SoloWaker X))). or o (λ future. future.is_dropped) true) is))
        by (Some x) is =
            ap (λ (o : Option (Future T (SoloWaker X))). or o (λ future. future.task) no_task)
            (set_same p.futures f (record x { task = told_of new }) x is)

    due_so : (g : ℕ) → stands g p.due ≡ true → stands g q.due ≡ true
    due_so g is = ap (stands g) (put_due f new p) ∙ is

    hand_so : (g : ℕ) → is_in_hand g p.inside ≡ true → is_in_hand g q.inside ≡ true
    hand_so g is = ap (is_in_hand g) (put_inside f new p) ∙ is

    -- the others are there as before
    pub others_so : (g : ℕ) → (f == g) ≡ false → is_there g p ≡ true → is_there g q ≡ true
    others_so g other is =
        of_three (stands g p.due) (is_idle (task g p).phase) (is_in_hand g p.inside) (stands g q.due) (is_idle (task g q).phase)
        (is_in_hand g q.inside) (due_so g)
        (λ idle. second_or (stands g q.due) (is_idle (task g q).phase)
        (ap (λ (t : AbstractTask T (SoloWaker X)). is_idle t.phase) (put_other g other) ∙ idle))
        (hand_so g) is

    -- it waits still, if it did
    pub put_kept : (is_idle (task f p).phase ≡ true → is_idle new.phase ≡ true) → Keeps p q
    put_kept waits = parts p q (λ g live. sym (put_dropped g) ∙ live) (λ g live is. by g (f == g) refl live is)
      where
        by : (g : ℕ) (b : Bool) → (f == g) ≡ b → is_dropped g q ≡ false → is_there g p ≡ true → is_there g q ≡ true
        by g false other live is = others_so g other is
        by g true one live is =
            let same : f ≡ g = same_number f g one in
            let lives : is_dropped f p ≡ false = ap (λ n. is_dropped n p) same ∙ (sym (put_dropped g) ∙ live) in
            of_three (stands g p.due) (is_idle (task g p).phase) (is_in_hand g p.inside) (stands g q.due) (is_idle (task g q).phase)
            (is_in_hand g q.inside) (due_so g)
            (λ idle. second_or (stands g q.due) (is_idle (task g q).phase)
            (subst (λ n. is_idle (task n q).phase ≡ true) same
            (ap (λ (t : AbstractTask T (SoloWaker X)). is_idle t.phase) (put_here lives)
            ∙ waits (ap (λ n. is_idle (task n p).phase) same ∙ idle))))
            (hand_so g) is

    -- one whose future is dropped
    pub put_gone : is_dropped f p ≡ true → Keeps p q
    put_gone gone = parts p q (λ g live. sym (put_dropped g) ∙ live) (λ g live is. by g (f == g) refl live is)
      where
        by : (g : ℕ) (b : Bool) → (f == g) ≡ b → is_dropped g q ≡ false → is_there g p ≡ true → is_there g q ≡ true
        by g false other live is = others_so g other is
        by g true one live is =
            absurd (clash (ap (λ n. is_dropped n p) (same_number f g one) ∙ (sym (put_dropped g) ∙ live)) gone)

    -- and is appended
    queued : Keeps p (appended f q)
    queued = parts p (appended f q) (λ g live. sym (put_dropped g) ∙ live) (λ g live is. by g (f == g) refl is)
      where
        last : Due
        last = record { future = f; mark = mark f q; keeper = None }

        lies_due : stands f (appended f q).due ≡ true
        lies_due = last_stands q.due last

        by : (g : ℕ) (b : Bool) → (f == g) ≡ b → is_there g p ≡ true → is_there g (appended f q) ≡ true
        by g true one is =
            first_or (stands g (appended f q).due) (is_idle (task g q).phase || is_in_hand g q.inside)
            (subst (λ n. stands n (appended f q).due ≡ true) (same_number f g one) lies_due)
        by g false other is =
            due_there q (appended f q).due (λ n has. more_stand n q.due last has) g (others_so g other is)

  -- a task is queued where it no longer waits
  module _ (c : Choice) (more : Plain T (SoloWaker X) → Plain T (SoloWaker X)) (keeps_all : AllKept more) (f : ℕ)
      (new : AbstractTask T (SoloWaker X)) (p : Plain T (SoloWaker X)) where
    pub becomes_kept : (is_idle (task f p).phase ≡ true → waits_on (task f p) new ≡ true) → Keeps p (becomes wakes more f new p)
    becomes_kept waits = by (is_some (info_of (task f p) new)) refl
      where
        by : (b : Bool) → is_some (info_of (task f p) new) ≡ b → Keeps p (if b then more (appended f (put f new p)) else put f new p)
        by true is = λ aside has. keeps_all (appended f (put f new p)) aside (queued c f new p aside has)
        by false is =
            put_kept c f new p (λ idle. only (is_idle new.phase) (is_some (info_of (task f p) new)) is (waits idle))

    -- it is there from now on
    pub becomes_there : waits_on (task f p) new ≡ true → (aside : ℕ → Bool) → Kept (more_aside f aside) p
        → Kept aside (becomes wakes more f new p)
    becomes_there waits aside has = by (is_some (info_of (task f p) new)) refl
      where
        q : Plain T (SoloWaker X)
        q = put f new p

        last : Due
        last = record { future = f; mark = mark f q; keeper = None }

        by : (b : Bool) → is_some (info_of (task f p) new) ≡ b → Kept aside (if b then more (appended f q) else q)
        by true is =
            keeps_all (appended f q) aside
            (comes_back f aside p (appended f q)
            (λ live. first_or (stands f (appended f q).due) (is_idle (task f q).phase || is_in_hand f q.inside) (last_stands q.due last))
            (λ g other live. sym (put_dropped c f new p g) ∙ live)
            (λ g other live is. due_there q (appended f q).due (λ n has. more_stand n q.due last has) g
            (others_so c f new p g other is)) has)
        by false is =
            comes_back f aside p q
            (λ live. second_or (stands f q.due) (is_idle (task f q).phase || is_in_hand f q.inside)
            (first_or (is_idle (task f q).phase) (is_in_hand f q.inside)
            (ap (λ (t : AbstractTask T (SoloWaker X)). is_idle t.phase) (put_here c f new p (sym (put_dropped c f new p f) ∙ live))
            ∙ only (is_idle new.phase) (is_some (info_of (task f p) new)) is waits)))
            (λ g other live. sym (put_dropped c f new p g) ∙ live)
            (λ g other live is. others_so c f new p g other is) has

  module _ (c : Choice) (more : Plain T (SoloWaker X) → Plain T (SoloWaker X)) (keeps_all : AllKept more) where
    pub called_kept : (w : SoloWaker X) → AllKept (called wakes more w)
    called_kept (OfTask t) p =
        becomes_kept c more keeps_all t.number (abstract.release (abstract.wake (task t.number p))) p (use_lasts (task t.number p))
    called_kept (Outside w) p = λ aside has. has

    pub let_go_kept : (w : SoloWaker X) → AllKept (let_go wakes more w)
    let_go_kept (OfTask t) p =
        becomes_kept c more keeps_all t.number (abstract.release (task t.number p)) p (release_lasts (task t.number p))
    let_go_kept (Outside w) p = λ aside has. has

    pub calls_kept : (o : Option (SoloWaker X)) → AllKept (on o (called wakes more))
    calls_kept None p = λ aside has. has
    calls_kept (Some w) p = called_kept w p

    pub lets_go_kept : (o : Option (SoloWaker X)) → AllKept (on o (let_go wakes more))
    lets_go_kept None p = λ aside has. has
    lets_go_kept (Some w) p = let_go_kept w p

  pub copied_kept : (c : Choice) (w : SoloWaker X) → AllKept (copied wakes w)
  copied_kept c (OfTask t) p = put_kept c t.number (abstract.copy (task t.number p)) p (λ idle. idle)
  copied_kept c (Outside w) p = λ aside has. has

  pub tell_kept : (c : Choice) → AllKept (tell wakes c)
  tell_kept c p = by (any is_called p.lying)
    where
      at : ℕ
      at = min c.tells (length p.lying - 1)

      told : (o : Option (Lying (SoloWaker X)))
          → Keeps p (on o (λ l p. on l.waker (called wakes (λ s. s))
          (record p { lying = slice_set p.lying at (record l { waker = None }) })) p)
      told None = λ aside has. has
      told (Some l) =
          calls_kept c (λ s. s) (λ p aside has. has) l.waker (record p { lying = slice_set p.lying at (record l { waker = None }) })

      by : (b : Bool) → Keeps p (if b then p else told_at wakes at p)
      by true = λ aside has. has
      by false = told (slice_get p.lying at)

  pub up_kept : (c : Choice) (who : Who) → AllKept (up wakes c who)
  up_kept c who p = by (find (lies who) p.lying)
    where
      by : (o : Option (Lying (SoloWaker X)))
          → Keeps p (on o (λ l p. on l.waker (let_go wakes (tell wakes c)) (record p { lying = without (lies who) p.lying })) p)
      by None = λ aside has. has
      by (Some l) = lets_go_kept c (tell wakes c) (tell_kept c) l.waker (record p { lying = without (lies who) p.lying })

  pub leaves_kept : (c : Choice) (who : Who) → AllKept (leaves wakes c who)
  leaves_kept c who p = by (find (lies who) p.lying)
    where
      either : (b : Bool) → Keeps p (if b then tell wakes c (up wakes c who p) else up wakes c who p)
      either true = λ aside has. tell_kept c (up wakes c who p) aside (up_kept c who p aside has)
      either false = up_kept c who p

      by : (o : Option (Lying (SoloWaker X)))
          → Keeps p (on o (λ l p. if is_called l then tell wakes c (up wakes c who p) else up wakes c who p) p)
      by None = λ aside has. has
      by (Some l) = either (is_called l)

  -- with another keeper, or with none
  pub moved_kept : (r : ℕ) (test : Due → Bool) → AllKept (moved r test)
  moved_kept r test p = by (find test p.due) refl
    where
      by : (o : Option Due) → find test p.due ≡ o
          → Keeps p (on o (λ d p. record p { due = without test p.due ++ record d { keeper = Some r } ∷ [] }) p)
      by None is = λ aside has. has
      by (Some d) is =
          due_kept p (without test p.due ++ record d { keeper = Some r } ∷ [])
          (goes_last test p.due d (record d { keeper = Some r }) is refl)

  pub keeps_kept : (r : ℕ) (test : Due → Bool) → AllKept (keeps r test)
  keeps_kept r test p = by (nat_lt (count_by (is_kept r) p.due) 512)
    where
      by : (b : Bool) → Keeps p (if b then moved r test p else p)
      by true = moved_kept r test p
      by false = λ aside has. has

  pub given_back_kept : (r : ℕ) → AllKept (given_back r)
  given_back_kept r p = by (find (is_kept r) p.due) refl
    where
      by : (o : Option Due) → find (is_kept r) p.due ≡ o
          → Keeps p (on o (λ d p. appended d.future (record p { due = without (is_kept r) p.due })) p)
      by None is = λ aside has. has
      by (Some d) is =
          let last : Due = record { future = d.future; mark = mark d.future p; keeper = None } in
          due_kept p (without (is_kept r) p.due ++ last ∷ []) (goes_last (is_kept r) p.due d last is refl)

  pub runs_kept : (h : Running → Running) (r : ℕ) → AllKept (moves.runs h r)
  runs_kept h r p = by (slice_get p.runs r)
    where
      by : (o : Option Running) → Keeps p (on o (λ run p. record p { runs = slice_set p.runs r (h run) }) p)
      by None = λ aside has. has
      by (Some run) = λ aside has. has

  pub repeat_kept : (n : ℕ) (op : Plain T (SoloWaker X) → Plain T (SoloWaker X)) → AllKept op → AllKept (repeat n op)
  repeat_kept zero op all p = λ aside has. has
  repeat_kept (suc n) op all p = λ aside has. repeat_kept n op all (op p) aside (all p aside has)

  pub each_kept : {B : Type 0} (op : B → Plain T (SoloWaker X) → Plain T (SoloWaker X)) → ((b : B) → AllKept (op b)) → (bs : List B)
      → AllKept (each bs op)
  each_kept op all [] p = λ aside has. has
  each_kept op all (b ∷ bs) p = λ aside has. each_kept op all bs (op b p) aside (all b p aside has)

  pub robbed_kept : (c : Choice) (r : ℕ) (keeper : Option ℕ) → AllKept (takes.robbed wakes c r keeper)
  robbed_kept c r None p = λ aside has. has
  robbed_kept c r (Some k) p = by (r == k)
    where
      by : (b : Bool) → Keeps p (if b then p else repeat c.moves (keeps r (is_kept k)) p)
      by true = λ aside has. has
      by false = repeat_kept c.moves (keeps r (is_kept k)) (keeps_kept r (is_kept k)) p

  pub marks_kept : (c : Choice) (r : ℕ) → AllKept (takes.kept wakes c r)
  marks_kept c r p = each_kept (λ mark. keeps r (is_common mark)) (λ mark. keeps_kept r (is_common mark)) c.keeps p
