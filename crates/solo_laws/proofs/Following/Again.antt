-- A copy of a waker, and its drop: nothing is changed.
use Rattle.std.proofs.Common.{◌≡◌, ℕ, zero, suc, ◌+◌, ◌-◌, ◌<◌, ◌==◌, ◌&&◌, not, if◌then◌else◌, Bool, false, List, [], ◌∷◌, ◌++◌}
use Rattle.std.proofs.Common.{length}
use Rattle.std.proofs.Common.{Option, Some, None, is_some, slice_get, slice_set, refl, sym, ap, subst, ◌∙◌, arith}
use Rattle.task_moves.specs.AbstractTask as abstract
use Rattle.task_moves.specs.AbstractTask.{AbstractTask}
use Rattle.task_moves.specs.LocalTask.{info_of, told}
use Rattle.solo.specs.declared.names.Task.{Task}
use Rattle.solo.specs.declared.names.SoloWaker.{SoloWaker}
use Rattle.solo.specs.declared.names.SoloWaker.TheVariants.{Task as OfTask, Outside}
use Rattle.solo.specs.declared.solo.Solo.{Solo}
use Rattle.solo.specs.Cells.{Kept}
use Rattle.plain_scheduler.specs.State.{Future, Choice, Plain}
use Rattle.plain_scheduler.specs.Lists.{or}
use Rattle.plain_scheduler.specs.Moves.{appended, copied, let_go, put, task, tell}
use Rattle.solo_laws.specs.Road.{TaskIs, IsNamed, Follows, is_forgotten, wakes}
use Rattle.solo_laws.proofs.Following.Cells.{found}
use Rattle.solo_laws.proofs.Following.Changing.{task_is, put_is}
use Rattle.solo_laws.proofs.Following.Leaving.{tails}
use Rattle.solo_laws.proofs.Following.Lists.{get_below, set_same}
use Rattle.solo_laws.proofs.Following.Tasks.{none_told}

-- what is put twice is put as the last time
set_twice : {B : Type 0} (xs : List B) (i : ℕ) (x y : B) → slice_set (slice_set xs i x) i y ≡ slice_set xs i y
set_twice [] i x y = refl
set_twice (z ∷ zs) zero x y = refl
set_twice (z ∷ zs) (suc i) x y = ap (λ ys. z ∷ ys) (set_twice zs i x y)

set_itself : {B : Type 0} (xs : List B) (i : ℕ) (x : B) → slice_get xs i ≡ Some x → slice_set xs i x ≡ xs
set_itself [] i x is = refl
set_itself (y ∷ ys) zero x is = ap (λ o. or o (λ z. z) x ∷ ys) (sym is)
set_itself (y ∷ ys) (suc i) x is = ap (λ zs. y ∷ zs) (set_itself ys i x is)

-- nothing comes behind
pub nothing_more : {B : Type 0} (xs ys : List B) → xs ≡ xs ++ ys → ys ≡ []
nothing_more [] ys is = sym is
nothing_more (x ∷ xs) ys is = nothing_more xs ys (tails x x xs (xs ++ ys) is)

module _ {T A : Type 0} where
  -- a task that can be reached is as before
  released_copy : (t : AbstractTask T A) → t.infos ≡ [] → is_forgotten t ≡ false → abstract.release (told (abstract.copy t)) ≡ t
  released_copy t none reached =
      ap (λ n. abstract.close_forgotten (record (told (abstract.copy t)) { wakers = n })) (back t.wakers)
      ∙ (ap (λ b. if b then abstract.close (told t) else told t) reached
      ∙ ap (λ (infos : List Bool). record t { infos = infos }) (sym none))
    where
      back : (n : ℕ) → (n + 1) - 1 ≡ n
      back n = omega arith

module _ {F T X : Type 0} (name : ℕ → Task) (c : Choice) (s : Solo F T X) (p : Plain T (SoloWaker X)) (r : Follows name s p) where
  reached : (f : ℕ) → f < length p.futures → ((task f p).infos ≡ []) × (is_forgotten (task f p) ≡ false)
  reached f at =
      let x = get_below p.futures f at in
      let it = by (found (name f) s.cells) x.0 (subst (TaskIs (found (name f) s.cells)) x.1 (r.tasks f at)) in
      let is = task_is f p x.0 x.1 in
      (ap (λ (t : AbstractTask T (SoloWaker X)). t.infos) is ∙ it.0, ap (λ t. is_forgotten t) is ∙ it.1)
    where
      by : (o : Option (Kept T X)) (x : Future T (SoloWaker X)) → TaskIs o (Some x)
          → (x.task.infos ≡ []) × (is_forgotten x.task ≡ false)
      by None x over = (
        over.infos,
        ap (λ phase. abstract.is_idle phase &&
            (not x.task.closed && (not x.task.handle && (x.task.wakers == 0)))) over.phase,
      )
      by (Some v) x of = (of.told, of.reached)

  -- a waker's copy goes
  pub copy_goes : (w : SoloWaker X) → ((t : Task) → w ≡ OfTask t → IsNamed name (length p.futures) t)
      → let_go wakes (tell wakes c) w (copied wakes w p) ≡ p
  copy_goes (Outside x) named = refl
  copy_goes (OfTask u) named =
      let at : u.number < length p.futures = (named u refl).0 in
      let f : ℕ = u.number in
      let x = get_below p.futures f at in
      let t : AbstractTask T (SoloWaker X) = task f p in
      let so = reached f at in
      let y : Future T (SoloWaker X) = record x.0 { task = told (abstract.copy t) } in
      let q : Plain T (SoloWaker X) = record p { futures = slice_set p.futures f y } in
      let there : slice_get q.futures f ≡ Some y = set_same p.futures f y x.0 x.1 in
      let new : abstract.release (task f q) ≡ t =
      ap (λ t. abstract.release t) (task_is f q y there) ∙ released_copy t so.0 so.1 in
      let quiet : is_some (info_of (task f q) t) ≡ false =
      ap (λ (infos : List Bool). is_some (info_of (record t { infos = infos }) t))
      (ap (λ (t : AbstractTask T (SoloWaker X)). t.infos) (task_is f q y there) ∙ sym so.0) ∙ none_told t in
      let put_back : put f t q ≡ p =
      put_is f t q y there
      ∙ (ap (λ fs. record p { futures = fs }) (set_twice p.futures f y (record x.0 { task = told t }))
      ∙ (ap (λ (t : AbstractTask T (SoloWaker X)). record p { futures = slice_set p.futures f (record x.0 { task = t }) })
      (ap (λ (infos : List Bool). record t { infos = infos }) (sym so.0) ∙ task_is f p x.0 x.1)
      ∙ ap (λ fs. record p { futures = fs }) (set_itself p.futures f x.0 x.1))) in
      ap (λ q. let_go wakes (tell wakes c) (OfTask u) q) (put_is f (abstract.copy t) p x.0 x.1)
      ∙ (ap (λ new. if is_some (info_of (task f q) new) then tell wakes c (appended f (put f new q)) else put f new q) new
      ∙ (ap (λ b. if b then tell wakes c (appended f (put f t q)) else put f t q) quiet ∙ put_back))
