-- For copies_are_counted.
-- A copy that is made adds one waker and one reference, and a call that uses a waker up takes it out.
use Rattle.std.proofs.Common.{◌≡◌, ◌∙◌, ℕ, List, [], ◌∷◌, ◌++◌, set, Bool, true, false, ◌&&◌, refl, sym, ap, subst, arith}
use Rattle.std.specs.Prelude.{Option, Some, None, reverse}
use Rattle.std.{proofs.Common.Result, proofs.lemmas.Bool.Decides.nat_tests, proofs.lemmas.List.append_cancel_left}
use Rattle.executor_model.proofs.Types.{Kind, Call, Reply, Event, Hold, Op, WakerOp, Hint, Step, Begin, Go, StepError, NoSuch}
use Rattle.executor_model.specs.declared.step.Step.TheVariants.{Answer}
use Rattle.executor_model.specs.Steps.{Machine, accepts, after, answer_refusal, begin_refusal, begun, go_refusal, gone_on}
use Rattle.executor_model.specs.Steps.{has_all, below_top, end_of, is_free, kept, mine, onto, part_after, part_refusal}
use Rattle.executor_model.specs.CopiesMean.{AddsNone, AddsOne, CopiesAreCounted, IsCopying, begins_use, is_copy, uses_up}
use Rattle.executor_model.specs.Steps.{party_of, react, refusal, run, stack, start, step, step_by, stepped, top, unless}
use Rattle.executor_model.specs.{Acts.copy_by, Acts.is_refused, Calls.Begun, Calls.calls, Doing.act, SpawnWants.Answers}
use Rattle.executor_model.specs.{Trace.Trace, Weights.weigh, World.World, World.log, World.task}
use Rattle.executor_model.proofs.Copies.CopySteps.{act-wakers, adds-none, adds-one, begun-wakers, copy-world, copy_reply}
use Rattle.executor_model.proofs.Copies.CopyFrames.{AllCounting, Any, Copying, Counting, all-counting, counting-later}
use Rattle.executor_model.proofs.Copies.CopySteps.{is_copying, onto-wakers, released-one, uses, with-used}
use Rattle.executor_model.proofs.Copies.Endings.{Own, last-event, whose}
use Rattle.executor_model.proofs.SpawnWants.Tops.{Tops, first, flipped, top-first, tops}
use Rattle.executor_model.proofs.{Types.WrongAnswer, Copies.CopyFrames.Copying.asks, Copies.CopyFrames.Copying.ends}
use Rattle.executor_model.proofs.{Promises.CallAnswers.served, Promises.CallFrames.Tied, Promises.CallServes.copies}
use Rattle.executor_model.proofs.{Promises.CallServes.misfit, Quiet.Calls.calling_of, Steps.Lift.none_refused}
use Rattle.executor_model.proofs.{Steps.Lift.topped, Steps.Placing.Spots, Steps.Placing.same-react, Steps.Stepping.step-made}
use Rattle.executor_model.specs.SpawnWants as wants

-- where a copy is in progress, its party is about to make it

pub record AtCopy (s : Machine) (p : ℕ) : Type 0 where
  pub future : ℕ
  pub held : Hold
  pub is : top (stack s p) ≡ Some (Op.Waker (WakerOp.CopyWaker future held))

first-is : (front below os : List Op) (last o : Op) → front ++ last ∷ [] ≡ o ∷ [] → os ≡ front ++ last ∷ below →
    first os ≡ Some o
first-is [] below os last o e i =
    let j : last ≡ o = cc in ap first i ∙ ap (λ (x : Op). Some x) j
first-is (y ∷ front) below os last o e i =
    let j : y ≡ o = cc in ap first i ∙ ap (λ (x : Op). Some x) j

at-copy : (s : Machine) (p : ℕ) → Tops s → AllCounting s → IsCopying p s.world.trace → AtCopy s p
at-copy s p here f k = by t.0 t.1 t.2 t.3.is (t.3.owes.one k.copies)
  where
    b : Begun
    b = record { call = k.call; own = k.own }

    t : Tied Counting counting-later Any s.world.trace (b ∷ k.outer) (reverse (stack s p))
    t = subst (λ (l : List Begun). Tied Counting counting-later Any s.world.trace l (reverse (stack s p))) k.is (f.tied p)

    by : (front : List Op) (last : Op) (below : List Op) → reverse (stack s p) ≡ front ++ last ∷ below →
        Copying (front ++ last ∷ []) → AtCopy s p
    by front last below i (asks g held e) = record {
      future = g;
      held = held;
      is = top-first (stack s p) ∙ first-is front below (reverse (stack s p)) last _ e i;
    }
    by front last below i (ends a held e) =
        let no : ◌≡◌ {A = Option Reply} (Some a) None = ap end_of (sym (top-first (stack s p)
        ∙ first-is front below (reverse (stack s p)) last _ e i)) ∙ here.none p in absurd (cc)

-- the step by which it is answered makes it

past : (b : Bool) (r : Option StepError) → unless b NoSuch r ≡ None → r ≡ None
past true r e = e
past false r e = absurd (cc)

pub record Makes (s : Machine) (p : ℕ) (t : Step) : Type 0 where
  pub hint : Hint
  pub is : t ≡ Go p hint
  pub future : ℕ
  pub held : Hold
  pub there : top (stack s p) ≡ Some (Op.Waker (WakerOp.CopyWaker future held))

module _ (s : Machine) (p : ℕ) (here : Tops s) (f : AllCounting s) (k : IsCopying p s.world.trace) where
  makes : (t : Step) → Own s p t → Makes s p t
  makes (Go q h) o =
      let c : AtCopy s p = at-copy s p here f k in
      record { hint = h; is = ap (λ (n : ℕ). Go n h) (sym o.own); future = c.future; held = c.held; there = c.is }
  makes (Begin q c) o =
      let a : AtCopy s p = at-copy s p here f k in
      let r : begin_refusal s.world s.parties (top (stack s q)) c ≡ None = past _ _ o.possible in
      let x : _ = none_refused s.world s.parties (top (stack s q)) c r in
      let no : false ≡ true = ap is_free (sym (ap (λ (n : ℕ). top (stack s n)) (sym o.own) ∙ a.is)) ∙ x.0 in absurd (cc)
  makes (Answer q u) o =
      let a : AtCopy s p = at-copy s p here f k in
      let r : answer_refusal (top (stack s q)) u ≡ None = past _ _ o.possible in
      let no : answer_refusal (Some (Op.Waker (WakerOp.CopyWaker a.future a.held))) u ≡ None =
      ap (λ (y : Option Op). answer_refusal y u) (sym (ap (λ (n : ℕ). top (stack s n)) (sym o.own) ∙ a.is)) ∙ r in
      absurd (cc)

-- what that does

told-last : (p : ℕ) (a b : Reply) (es told : Trace) → es ++ Event.CallEnded p b ∷ [] ≡ es ++ (told ++ Event.CallEnded p a ∷ []) →
    b ≡ a
told-last p a b es told e =
    let i : Event.CallEnded p b ∷ [] ≡ told ++ Event.CallEnded p a ∷ [] = append_cancel_left es _ _ e in
    let j : Event.CallEnded p b ≡ Event.CallEnded p a = last-event [] told _ _ i in cc

copied-trace : (b : Bool) (w : World) (f : ℕ) (held : Hold) → (copy_by b w f held).world.trace ≡ w.trace
copied-trace true w f held = refl
copied-trace false w f held = refl

module _ (s : Machine) (p : ℕ) (here : Tops s) (f : AllCounting s) where
  made-so : (t : Step) → IsCopying p s.world.trace → Answers s t p Reply.Made →
      AddsOne s.world (stepped s (step s t)).world
  made-so t k a =
      let m : Makes s p t = makes s p here f k t (whose s p t Reply.Made here a) in
      by m (is_refused m.hint (task s.world m.future)) refl
    where
      by : (m : Makes s p t) (b : Bool) → is_refused m.hint (task s.world m.future) ≡ b →
          AddsOne s.world (stepped s (step s t)).world
      by m b e =
          let w : (stepped s (step s t)).world ≡ log (copy_by b s.world m.future m.held).world (Event.CallEnded p (copy_reply b)) =
          ap (λ (x : Step). (stepped s (step s x)).world) m.is
          ∙ (copy-world s p m.hint m.future m.held m.there
          ∙ ap (λ (c : Bool). log (copy_by c s.world m.future m.held).world (Event.CallEnded p (copy_reply c))) e) in
          let r : copy_reply b ≡ Reply.Made = told-last p Reply.Made (copy_reply b) s.world.trace a.0
          (sym (ap (λ (v : World). v.trace) w
          ∙ ap (λ (es : Trace). es ++ Event.CallEnded p (copy_reply b) ∷ []) (copied-trace b s.world m.future m.held))
          ∙ a.1) in
          pick b e w r
        where
          pick : (c : Bool) → is_refused m.hint (task s.world m.future) ≡ c →
              (stepped s (step s t)).world ≡ log (copy_by c s.world m.future m.held).world (Event.CallEnded p (copy_reply c)) →
              copy_reply c ≡ Reply.Made → AddsOne s.world (stepped s (step s t)).world
          pick true e w r = absurd (cc)
          pick false e w r = subst (AddsOne s.world) (sym w)
              (adds-one s.world m.hint m.future m.held (copy_reply false) p e)

  refused-so : (t : Step) → IsCopying p s.world.trace → Answers s t p Reply.NoMemory →
      AddsNone (wants.is_refused t) s.world (stepped s (step s t)).world
  refused-so t k a =
      let m : Makes s p t = makes s p here f k t (whose s p t Reply.NoMemory here a) in
      by m (is_refused m.hint (task s.world m.future)) refl
    where
      by : (m : Makes s p t) (b : Bool) → is_refused m.hint (task s.world m.future) ≡ b →
          AddsNone (wants.is_refused t) s.world (stepped s (step s t)).world
      by m b e =
          let w : (stepped s (step s t)).world ≡ log (copy_by b s.world m.future m.held).world (Event.CallEnded p (copy_reply b)) =
          ap (λ (x : Step). (stepped s (step s x)).world) m.is
          ∙ (copy-world s p m.hint m.future m.held m.there
          ∙ ap (λ (c : Bool). log (copy_by c s.world m.future m.held).world (Event.CallEnded p (copy_reply c))) e) in
          let r : copy_reply b ≡ Reply.NoMemory = told-last p Reply.NoMemory (copy_reply b) s.world.trace a.0
          (sym (ap (λ (v : World). v.trace) w
          ∙ ap (λ (es : Trace). es ++ Event.CallEnded p (copy_reply b) ∷ []) (copied-trace b s.world m.future m.held))
          ∙ a.1) in
          pick b e w r
        where
          pick : (c : Bool) → is_refused m.hint (task s.world m.future) ≡ c →
              (stepped s (step s t)).world ≡ log (copy_by c s.world m.future m.held).world (Event.CallEnded p (copy_reply c)) →
              copy_reply c ≡ Reply.NoMemory → AddsNone (wants.is_refused t) s.world (stepped s (step s t)).world
          pick false e w r = absurd (cc)
          pick true e w r = subst (AddsNone (wants.is_refused t) s.world) (sym w)
              (subst (λ (x : Step). AddsNone (wants.is_refused x) s.world
              (log (copy_by true s.world m.future m.held).world (Event.CallEnded p (copy_reply true)))) (sym m.is)
              (adds-none s.world m.hint m.future m.held (copy_reply true) p e))

-- a call that uses a waker up begins

left-true : (a b : Bool) → (a && b) ≡ true → a ≡ true
left-true true b e = refl
left-true false b e = absurd (cc)

used-begun : (p k : ℕ) (w : World) (ss : List (List Op)) (o : Option Op) (c : Call) → uses_up k c ≡ true →
    has_all w ss o c ≡ true →
    (begun p (log w (Event.CallBegun p c)) (mine o) c).world.wakers ≡ set w.wakers k None
used-begun p k w ss o (Call.Wake j) u e =
    let i : j ≡ k = (let z : k ≡ j = grind (arith, nat_tests) in sym z) in
    with-used w _ k (kept w j) _ (left-true _ _ e) (λ f. ap (λ (n : ℕ). set w.wakers n None) i)
used-begun p k w ss o (Call.DropWaker j) u e =
    let i : j ≡ k = (let z : k ≡ j = grind (arith, nat_tests) in sym z) in
    with-used w _ k (kept w j) _ (left-true _ _ e) (λ f. ap (λ (n : ℕ). set w.wakers n None) i)
used-begun p k w ss o _ u e = absurd (cc)

stepped-is : (s : Machine) (t : Step) → refusal s t ≡ None → (stepped s (step s t)).world ≡ (after s t).world
stepped-is s t e = ap (λ (r : Result Machine StepError). (stepped s r).world) (step-made s t e)

used-so : (s : Machine) (p k : ℕ) (c : Call) → uses_up k c ≡ true → refusal s (Begin p c) ≡ None →
    (stepped s (step s (Begin p c))).world.wakers ≡ set s.world.wakers k None
used-so s p k c u r =
    let x : _ = none_refused s.world s.parties (top (stack s p)) c (past _ _ r) in
    ap (λ (w : World). w.wakers) (stepped-is s (Begin p c) r)
    ∙ (onto-wakers p (begun p (log s.world (Event.CallBegun p c)) (mine (top (stack s p))) c) (stack s p)
    ∙ used-begun p k s.world s.parties (top (stack s p)) c u x.1)

-- all other steps

-- a copy that is about to be made is one of a call
copying-here : (s : Machine) (q f : ℕ) (held : Hold) (rest : List Op) → AllCounting s →
    reverse (stack s q) ≡ Op.Waker (WakerOp.CopyWaker f held) ∷ rest → IsCopying q s.world.trace
copying-here s q f held rest h e = by (calls q s.world.trace).begun refl (h.tied q)
  where
    in-call : (c : Call) → copies c ≡ true → is_copy c ≡ true
    in-call (Call.Copy k) z = refl
    in-call Call.Keep z = refl
    in-call _ z = absurd (cc)

    fits-copy : (c : Call) (front below : List Op) (last : Op) → reverse (stack s q) ≡ front ++ last ∷ below →
        weigh calling_of front ≡ 0 → weigh (misfit c) (front ++ last ∷ []) ≡ 0 → copies c ≡ true
    fits-copy c [] below last i n z =
        let j : last ≡ Op.Waker (WakerOp.CopyWaker f held) =
        (let y : last ∷ below ≡ Op.Waker (WakerOp.CopyWaker f held) ∷ rest = sym i ∙ e in cc) in
        served (copies c) (omega (arith, z, ap (misfit c) j))
    fits-copy c (y ∷ front) below last i n z =
        let j : y ≡ Op.Waker (WakerOp.CopyWaker f held) =
        (let v : y ∷ (front ++ last ∷ below) ≡ Op.Waker (WakerOp.CopyWaker f held) ∷ rest = sym i ∙ e in cc) in
        absurd (omega (arith, n, ap calling_of j))

    by : (bs : List Begun) → (calls q s.world.trace).begun ≡ bs →
        Tied Counting counting-later Any s.world.trace bs (reverse (stack s q)) → IsCopying q s.world.trace
    by [] i t = let no : Op.Waker (WakerOp.CopyWaker f held) ∷ rest ≡ [] = sym e ∙ t in absurd (cc)
    by (b ∷ bs) i t = record {
      call = b.call;
      copies = in-call b.call (fits-copy b.call t.0 t.2 t.1 t.3.is t.3.none t.3.owes.fits);
      own = b.own;
      outer = bs;
      is = i;
    }

module _ (s : Machine) (here : Tops s) (f : AllCounting s) where
  go-stays : (q : ℕ) (h : Hint) → ((p : ℕ) → IsCopying p s.world.trace → ¬ Answers s (Go q h) p Reply.Made) →
      (o : Op) (b : Bool) → is_copying o ≡ b → top (stack s q) ≡ Some o →
      (onto q (act q h o s.world) (below_top (stack s q))).world.wakers ≡ s.world.wakers
  go-stays q h k o false n e =
      onto-wakers q (act q h o s.world) (below_top (stack s q)) ∙ act-wakers q h o s.world n
  go-stays q h k (Op.Waker (WakerOp.CopyWaker g held)) true n e =
      by (is_refused h (task s.world g)) refl
    where
      turned : reverse (stack s q) ≡ Op.Waker (WakerOp.CopyWaker g held) ∷ reverse (below_top (stack s q))
      turned = ap (λ (os : List Op). reverse os) (topped (stack s q) (Op.Waker (WakerOp.CopyWaker g held)) e)
          ∙ flipped (below_top (stack s q)) (Op.Waker (WakerOp.CopyWaker g held) ∷ [])

      by : (b : Bool) → is_refused h (task s.world g) ≡ b →
          (onto q (copy_by (is_refused h (task s.world g)) s.world g held) (below_top (stack s q))).world.wakers
          ≡ s.world.wakers
      by true z = onto-wakers q (copy_by (is_refused h (task s.world g)) s.world g held) (below_top (stack s q))
          ∙ ap (λ (c : Bool). (copy_by c s.world g held).world.wakers) z
      by false z = absurd (k q (copying-here s q g held (reverse (below_top (stack s q))) f turned) (
        [],
        ap (λ (v : World). v.trace) (copy-world s q h g held e)
            ∙ ap (λ (c : Bool). (copy_by c s.world g held).world.trace ++ Event.CallEnded q (copy_reply c) ∷ []) z,
      ))
  go-stays q h k _ true n e = absurd (cc)

  part-stays : (t : Step) → begins_use t ≡ false → ((p : ℕ) → IsCopying p s.world.trace → ¬ Answers s t p Reply.Made) →
      part_refusal s.world s.parties (stack s (party_of t)) t ≡ None →
      (part_after s.world (stack s (party_of t)) t).world.wakers ≡ s.world.wakers
  part-stays (Begin q c) n k r =
      onto-wakers q (begun q (log s.world (Event.CallBegun q c)) (mine (top (stack s q))) c) (stack s q)
      ∙ begun-wakers q s.world (mine (top (stack s q))) c (no-use c n)
    where
      no-use : (d : Call) → begins_use (Begin q d) ≡ false → uses d ≡ false
      no-use (Call.Wake j) z = absurd (cc)
      no-use (Call.DropWaker j) z = absurd (cc)
      no-use _ z = refl
  part-stays (Go q h) n k r = by (top (stack s q)) refl r
    where
      by : (o : Option Op) → top (stack s q) ≡ o → go_refusal s.world o ≡ None →
          (gone_on q s.world (stack s q) o (λ x. act q h x s.world)).world.wakers ≡ s.world.wakers
      by None e z = absurd (cc)
      by (Some o) e z = go-stays q h k o (is_copying o) refl e
  part-stays (Answer q u) n k r = by (top (stack s q)) refl r
    where
      accepted : (o : Op) (b : Bool) → accepts o u ≡ b → unless b WrongAnswer None ≡ None → accepts o u ≡ true
      accepted o true e z = e
      accepted o false e z = absurd (cc)

      by : (o : Option Op) → top (stack s q) ≡ o → answer_refusal o u ≡ None →
          (gone_on q s.world (stack s q) o (λ x. react q x u s.world)).world.wakers ≡ s.world.wakers
      by None e z = absurd (cc)
      by (Some o) e z = onto-wakers q (react q o u s.world) (below_top (stack s q))
          ∙ sym (ap (λ (x : Spots). x.wakers) (same-react q o u s.world (accepted o (accepts o u) refl z)))

  stays-by : (t : Step) (r : Option StepError) → refusal s t ≡ r → begins_use t ≡ false →
      ((p : ℕ) → IsCopying p s.world.trace → ¬ Answers s t p Reply.Made) →
      (stepped s (step_by r s t)).world.wakers ≡ s.world.wakers
  stays-by t (Some error) q n k = refl
  stays-by t None q n k = part-stays t n k (past _ _ q)

  stays-so : (t : Step) → begins_use t ≡ false → ((p : ℕ) → IsCopying p s.world.trace → ¬ Answers s t p Reply.Made) →
      (stepped s (step s t)).world.wakers ≡ s.world.wakers
  unfolding step
  stays-so t n k = stays-by t (refusal s t) refl n k

  counted-so : CopiesAreCounted s
  counted-so = record {
    made = λ p t k a. made-so s p here f t k a;
    refused = λ p t k a. refused-so s p here f t k a;
    used = λ p k c u r. used-so s p k c u r;
    stays = stays-so;
    released = λ p g n h e k z. released-one s p g n h e k z;
  }

pub copies-counted : (limit : ℕ) (kind : Kind) (parties : ℕ) (steps : List Step) →
    CopiesAreCounted (run steps (start limit kind parties))
copies-counted limit kind parties steps = counted-so (run steps (start limit kind parties))
    (tops limit kind parties steps) (all-counting limit kind parties steps)
