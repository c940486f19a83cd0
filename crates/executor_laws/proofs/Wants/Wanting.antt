-- For requests_are_numbered.
-- Want of memory is answered to a party that was idle before only behind a request of it that was refused.
use Rattle.std.proofs.Common.{◌≡◌, ◌≢◌, ◌⊎◌, ◌∙◌, ⊎_elim, inl, inr, ℕ, ◌<◌, ◌+◌, ◌==◌, List, [], ◌∷◌, ◌++◌, length, Bool, true}
use Rattle.std.proofs.Common.{false, ◌&&◌, ◌||◌, not, eqb, ltb, refl, sym, ap, subst, arith, get_or-set_same, get_or-set_other}
use Rattle.std.proofs.lemmas.Bool.Decides.{nat_tests}
use Rattle.std.specs.Prelude.{Option, Some, None, cond, nat_lt, reverse}
use Rattle.std.{proofs.Common.Result, proofs.lemmas.List.append_assoc, specs.List.list_any}
use Rattle.task_moves.specs.Moves.{most_references}
use Rattle.executor_laws.proofs.Types.{Call, Reply, Event, Op, HandleOp, ListOp, RunOp, Section, TableOp, TickOp, Waker, Task}
use Rattle.executor_laws.proofs.Types.{Outside, WakerOp, Hint, Step, Begin, Go, StepError, NoSuch, UserEnd}
use Rattle.executor_model.specs.declared.step.Step.TheVariants.{Answer}
use Rattle.executor_model.specs.Steps.{Machine, Part, answer_refusal, below_top, begun, end_of, go_refusal, gone_on, mine, onto}
use Rattle.executor_model.specs.Steps.{part_after, part_refusal, party_of, react, refusal, run, settled_by, stack, step}
use Rattle.executor_model.specs.{Steps.step_by, Steps.stepped, Steps.top, Steps.unless, Steps.with_part, Acts.copy_awaiter_by}
use Rattle.executor_model.specs.{Acts.copy_by, Acts.enter_by, Acts.is_copy_refused, ActsOfSleepers.copy_sleeper_by}
use Rattle.executor_model.specs.{ActsOfSleepers.make_tick_by, Refusals.CopiesOneTooMany, Refusals.ends_for_want}
use Rattle.executor_model.specs.{ActsOfRuns.make_room_by, ActsOfRuns.make_run_by, Doing.act, Memory.asks, SpawnWants.Answers}
use Rattle.executor_model.specs.{Trace.Trace, Trace.has, Weights.weigh, World.Done, World.World, World.log, World.task}
use Rattle.executor_laws.specs.Numbered.{IsRefused, OneIsRefused, asks_next, ends_refused}
use Rattle.executor_model.proofs.Steps.Deeds.{ends_one, grows-act, grows-begun, grows-react, is_end}
use Rattle.executor_model.proofs.{Copies.Endings.Own, Copies.Endings.whose, Memory.Refusing.want-is-told-of}
use Rattle.executor_model.proofs.{Memory.UnaskingGroups.needs-no-memory, SpawnWants.Tops.Tops, SpawnWants.Tops.tops}
use Rattle.executor_model.proofs.{Steps.Lift.topped, Steps.Lists.weigh-append, Steps.Lists.weigh-reverse, Steps.Reached.Reached}
use Rattle.executor_model.proofs.{Steps.Stepping.step-made, Steps.Tests.left-false, Steps.Tests.right-false}
use Rattle.executor_laws.proofs.{Placement.OwnReady.reached-on, Promptness.Emptied.said}

-- what ends a call for want of memory

abbrev want : Op → ℕ
want o = cond (ends_for_want o) 1 0

none-wants : (os : List Op) → list_any ends_for_want os ≡ false → weigh want os ≡ 0
none-wants [] e = refl
none-wants (o ∷ os) e =
    let a : want o ≡ 0 = ap (λ (b : Bool). cond b 1 0) (left-false (ends_for_want o) (list_any ends_for_want os) e) in
    omega (arith, a, none-wants os (right-false (ends_for_want o) (list_any ends_for_want os) e))

no-want : (o : Op) → want o ≡ 0 → ends_for_want o ≡ false
no-want o = by (ends_for_want o)
  where
    by : (b : Bool) → ◌≡◌ {A = ℕ} (cond b 1 0) 0 → b ≡ false
    by true e = absurd (omega (arith, e))
    by false e = refl

-- who copies asks
copies-ask : (o : Op) (w : World) → asks o ≡ false → CopiesOneTooMany o w → ⊥
copies-ask (Op.Waker (WakerOp.CopyWaker f held)) w e c = absurd (cc)
copies-ask (Op.Handle (HandleOp.CopyAwaiter f (Task g))) w e c = absurd (cc)
copies-ask (Op.Handle (HandleOp.CopyAwaiter f (Outside x))) w e c = absurd (cc)
copies-ask (Op.Tick (TickOp.CopyWaker s)) w e c = absurd (cc)
copies-ask _ w e c = absurd (cc)

-- one step of party p

-- what it leads to: below is what was, and the next things end a call for want of memory only where it was refused
record Leads (s : Machine) (p : ℕ) (t : Step) (x : Part) : Type 0 where
  pub rest : List Op
  pub d : Done
  pub is : onto p d rest ≡ x
  pub below : weigh want rest ≡ 0
  pub next : (list_any ends_for_want d.next ≡ false) ⊎ IsRefused p s t
  pub more : Trace
  pub tells : d.world.trace ≡ s.world.trace ++ more
  pub ended : has ends_one more ≡ false

module _ (s : Machine) (p : ℕ) (here : Tops s) (clean : weigh want (stack s p) ≡ 0) where
  act-next : (h : Hint) (o : Op) → top (stack s p) ≡ Some o → ends_for_want o ≡ false →
      (list_any ends_for_want (act p h o s.world).next ≡ false) ⊎ IsRefused p s (Go p h)
  act-next h o e n = by (list_any ends_for_want (act p h o s.world).next) refl
    where
      because : list_any ends_for_want (act p h o s.world).next ≡ true → (b : Bool) → asks o ≡ b → IsRefused p s (Go p h)
      because z true a =
          let i : (p == p) ≡ true = grind (arith, nat_tests) in (
            ap (λ (b : Bool). b && asks_next (top (stack s p))) i ∙ (ap asks_next e ∙ a),
            ⊎_elim (λ (r : h.refused ≡ true). inl r) (λ (c : CopiesOneTooMany o s.world). inr (o, e, c))
                ((want-is-told-of s.world p).goes_on h o n z),
          )
      because z false a =
          let other : Hint = record h { refused = false } in
          let q : act p other o s.world ≡ act p h o s.world = (needs-no-memory s.world p).same h false o a in
          ⊎_elim
          (λ (r : false ≡ true). absurd (cc))
          (λ (c : CopiesOneTooMany o s.world). absurd (copies-ask o s.world a c))
          ((want-is-told-of s.world p).goes_on other o n (ap (λ (d : Done). list_any ends_for_want d.next) q ∙ z))

      by : (b : Bool) → list_any ends_for_want (act p h o s.world).next ≡ b →
          (list_any ends_for_want (act p h o s.world).next ≡ false) ⊎ IsRefused p s (Go p h)
      by false z = inl z
      by true z = inr (because z (asks o) refl)

  below-clean : (o : Op) → top (stack s p) ≡ Some o → weigh want (below_top (stack s p)) + want o ≡ 0
  below-clean o e = omega (
    arith,
    clean,
    ap (weigh want) (topped (stack s p) o e),
    weigh-append want (below_top (stack s p)) (o ∷ []),
  )

  unended : (o : Op) → top (stack s p) ≡ Some o → is_end o ≡ false
  unended o e = by o (ap end_of (sym e) ∙ here.none p)
    where
      by : (x : Op) → end_of (Some x) ≡ None → is_end x ≡ false
      by (Op.End a held) z = absurd (cc)
      by _ z = refl

  leads-go : (h : Hint) (o : Option Op) → top (stack s p) ≡ o → go_refusal s.world o ≡ None →
      Leads s p (Go p h) (gone_on p s.world (stack s p) o (λ x. act p h x s.world))
  leads-go h None e k = absurd (cc)
  leads-go h (Some o) e k =
      let g = grows-act p h o s.world (unended o e) in
      record {
        rest = below_top (stack s p);
        d = act p h o s.world;
        is = refl;
        below = omega (arith, below-clean o e);
        next = act-next h o e (no-want o (omega (arith, below-clean o e)));
        more = g.more;
        tells = g.is;
        ended = g.none_ends;
      }

  leads-answer : (u : UserEnd) (o : Option Op) → top (stack s p) ≡ o → answer_refusal o u ≡ None →
      Leads s p (Answer p u) (gone_on p s.world (stack s p) o (λ x. react p x u s.world))
  leads-answer u None e k = absurd (cc)
  leads-answer u (Some o) e k =
      let g = grows-react p o u s.world in
      record {
        rest = below_top (stack s p);
        d = react p o u s.world;
        is = refl;
        below = omega (arith, below-clean o e);
        next = inl ((want-is-told-of s.world p).follows o u);
        more = g.more;
        tells = g.is;
        ended = g.none_ends;
      }

  leads-begin : (c : Call) → Leads s p (Begin p c) (part_after s.world (stack s p) (Begin p c))
  leads-begin c =
      let w : World = log s.world (Event.CallBegun p c) in
      let o : Option Waker = mine (top (stack s p)) in
      let g = grows-begun p w o c in
      record {
        rest = stack s p;
        d = begun p w o c;
        is = refl;
        below = clean;
        next = inl ((want-is-told-of w p).begins o c);
        more = Event.CallBegun p c ∷ g.more;
        tells = g.is ∙ append_assoc s.world.trace (Event.CallBegun p c ∷ []) g.more;
        ended = g.none_ends;
      }

leads : (s : Machine) (t : Step) → Tops s → weigh want (stack s (party_of t)) ≡ 0 →
    part_refusal s.world s.parties (stack s (party_of t)) t ≡ None →
    Leads s (party_of t) t (part_after s.world (stack s (party_of t)) t)
leads s (Begin p c) here clean k = leads-begin s p here clean c
leads s (Go p h) here clean k = leads-go s p here clean h _ refl k
leads s (Answer p u) here clean k = leads-answer s p here clean u _ refl k

-- behind it

settled-clean : (p : ℕ) (w : World) (os : List Op) (o : Option Op) → top os ≡ o → weigh want os ≡ 0 →
    weigh want (settled_by (end_of o) p w os).todo ≡ 0
settled-clean p w os None e z = z
settled-clean p w os (Some (Op.End a held)) e z = omega (
  arith,
  z,
  ap (weigh want) (topped os (Op.End a held) e),
  weigh-append want (below_top os) (Op.End a held ∷ []),
)
settled-clean p w os (Some _) e z = z

put-clean : (rest next : List Op) → weigh want rest ≡ 0 → list_any ends_for_want next ≡ false →
    weigh want (rest ++ reverse next) ≡ 0
put-clean rest next z n = omega (arith, z, weigh-append want rest (reverse next), weigh-reverse want next, none-wants next n)

onto-clean : (p : ℕ) (d : Done) (rest : List Op) → weigh want rest ≡ 0 → list_any ends_for_want d.next ≡ false →
    weigh want (onto p d rest).todo ≡ 0
onto-clean p d rest z n =
    settled-clean p d.world (rest ++ reverse d.next) (top (rest ++ reverse d.next)) refl (put-clean rest d.next z n)

there : (b : Bool) (r : Option StepError) → unless b NoSuch r ≡ None → (b ≡ true) × (r ≡ None)
there true r e = (refl, e)
there false r e = absurd (cc)

abbrev Stays : Machine → ℕ → Step → Machine → Type 0
Stays s p t new = (weigh want (stack new p) ≡ 0) ⊎ IsRefused p s t

module _ (s : Machine) (p : ℕ) (t : Step) (here : Tops s) (clean : weigh want (stack s p) ≡ 0) where
  own-clean : party_of t ≡ p → refusal s t ≡ None →
      Stays s p t (with_part s (party_of t) (part_after s.world (stack s (party_of t)) t))
  own-clean i q =
      let q2 : _ = there (ltb (party_of t) (length s.parties))
      (part_refusal s.world s.parties (stack s (party_of t)) t) q in
      let l : Leads s (party_of t) t (part_after s.world (stack s (party_of t)) t) =
      leads s t here (subst (λ (n : ℕ). weigh want (stack s n) ≡ 0) (sym i) clean) q2.1 in
      let x : Part = part_after s.world (stack s (party_of t)) t in
      let inside : party_of t < length s.parties = grind (arith, nat_tests, q2.0) in
      ⊎_elim
      (λ (z : list_any ends_for_want l.d.next ≡ false). inl
      (subst (λ (n : ℕ). weigh want (stack (with_part s (party_of t) x) n) ≡ 0) i
      (ap (weigh want) (get_or-set_same s.parties (party_of t) x.todo [] inside)
      ∙ (ap (λ (y : Part). weigh want y.todo) (sym l.is) ∙ onto-clean (party_of t) l.d l.rest l.below z))))
      (λ (r : IsRefused (party_of t) s t). inr (subst (λ (n : ℕ). IsRefused n s t) i r))
      l.next

  after-clean : refusal s t ≡ None → Stays s p t (with_part s (party_of t) (part_after s.world (stack s (party_of t)) t))
  after-clean q = by (eqb p (party_of t)) refl
    where
      by : (b : Bool) → eqb p (party_of t) ≡ b →
          Stays s p t (with_part s (party_of t) (part_after s.world (stack s (party_of t)) t))
      by true z = own-clean (grind (arith, nat_tests)) q
      by false z =
          let n : p ≢ party_of t = grind (arith, nat_tests) in
          inl (ap (weigh want)
          (get_or-set_other s.parties (party_of t) p (part_after s.world (stack s (party_of t)) t).todo [] n) ∙ clean)

  clean-by : (r : Option StepError) → refusal s t ≡ r → Stays s p t (stepped s (step_by r s t))
  clean-by (Some e) q = inl clean
  clean-by None q = after-clean q

  step-clean : Stays s p t (stepped s (step s t))
  unfolding step
  step-clean = clean-by (refusal s t) refl

-- the answer

no-end : (os : List Op) (o : Option Op) → top os ≡ o → weigh want os ≡ 0 → end_of o ≡ Some Reply.NoMemory → ⊥
no-end os None e z k = absurd (cc)
no-end os (Some (Op.End a held)) e z k =
    let i : a ≡ Reply.NoMemory = cc in
    absurd (omega (
      arith,
      z,
      ap (weigh want) (topped os (Op.End a held) e),
      weigh-append want (below_top os) (Op.End a held ∷ []),
      ap (λ (b : Reply). want (Op.End b held)) i,
    ))
no-end os (Some _) e z k = absurd (cc)

stepped-is : (s : Machine) (t : Step) → refusal s t ≡ None →
    (stepped s (step s t)).world ≡ (part_after s.world (stack s (party_of t)) t).world
stepped-is s t e = ap (λ (r : Result Machine StepError). (stepped s r).world) (step-made s t e)

own-refused : (s : Machine) (t : Step) → Tops s → weigh want (stack s (party_of t)) ≡ 0 → refusal s t ≡ None →
    Answers s t (party_of t) Reply.NoMemory → IsRefused (party_of t) s t
own-refused s t here clean q a =
    let l : Leads s (party_of t) t (part_after s.world (stack s (party_of t)) t) =
    leads s t here clean (there (ltb (party_of t) (length s.parties)) _ q).1 in
    let os : List Op = l.rest ++ reverse l.d.next in
    ⊎_elim
    (λ (z : list_any ends_for_want l.d.next ≡ false). absurd (no-end os (top os) refl (put-clean l.rest l.d.next l.below z)
    (said (end_of (top os)) (party_of t) Reply.NoMemory l.d.world os s.world.trace l.more a.0 l.tells l.ended
    (ap (λ (x : Part). x.world.trace) l.is
    ∙ (sym (ap (λ (w : World). w.trace) (stepped-is s t q)) ∙ a.1)))))
    (λ (r : IsRefused (party_of t) s t). r)
    l.next

refused-now : (s : Machine) (p : ℕ) (t : Step) → Tops s → weigh want (stack s p) ≡ 0 → Answers s t p Reply.NoMemory →
    IsRefused p s t
refused-now s p t here clean a =
    let o : Own s p t = whose s p t Reply.NoMemory here a in
    subst (λ (n : ℕ). IsRefused n s t) (sym o.own)
    (own-refused s t here (subst (λ (n : ℕ). weigh want (stack s n) ≡ 0) o.own clean) o.possible
    (subst (λ (n : ℕ). Answers s t n Reply.NoMemory) o.own a))

tops-here : (s : Machine) → Reached s → Tops s
tops-here s r = subst Tops (sym r.is) (tops r.limit r.kind r.parties r.steps)

wanted-on : (p : ℕ) (ts : List Step) (t : Step) (s : Machine) → Reached s → weigh want (stack s p) ≡ 0 →
    Answers (run ts s) t p Reply.NoMemory → OneIsRefused p s (ts ++ t ∷ [])
wanted-on p [] t s here clean a = inl (refused-now s p t (tops-here s here) clean a)
wanted-on p (u ∷ ts) t s here clean a = ⊎_elim
    (λ (z : weigh want (stack (stepped s (step s u)) p) ≡ 0).
    inr (wanted-on p ts t (stepped s (step s u)) (reached-on s (u ∷ []) here) z a))
    (λ (r : IsRefused p s u). inl r)
    (step-clean s p u (tops-here s here) clean)

pub wanted-by : (s : Machine) → Reached s → (p : ℕ) (ts : List Step) (t : Step) → stack s p ≡ [] →
    Answers (run ts s) t p Reply.NoMemory → OneIsRefused p s (ts ++ t ∷ [])
wanted-by s here p ts t idle a = wanted-on p ts t s here (ap (weigh want) idle) a

-- what is refused

copy-refused : (h : Hint) (w : World) (a : Waker) → h.refused ≡ true → is_copy_refused h w a ≡ true
copy-refused h w (Task g) e = ap (λ (r : Bool). r || not (nat_lt (task w g).references most_references)) e
copy-refused h w (Outside x) e = e

pub ends-so : (w : World) (p : ℕ) (h : Hint) (o : Op) → asks o ≡ true → h.refused ≡ true →
    list_any ends_refused (act p h o w).next ≡ true
ends-so w p h (Op.Table (TableOp.Enter mark)) a e = by (not (nat_lt (length w.table) w.limit))
  where
    by : (b : Bool) → list_any ends_refused (enter_by b h.refused mark p w).next ≡ true
    by true = refl
    by false = ap (λ (r : Bool). list_any ends_refused (enter_by false r mark p w).next) e
ends-so w p h (Op.Waker (WakerOp.CopyWaker f held)) a e =
    ap (λ (r : Bool). list_any ends_refused (copy_by (r || not (nat_lt (task w f).references most_references)) w f held).next) e
ends-so w p h (Op.Handle (HandleOp.CopyAwaiter f x)) a e =
    ap (λ (r : Bool). list_any ends_refused (copy_awaiter_by r p w f x).next) (copy-refused h w x e)
ends-so w p h (Op.Tick TickOp.MakeTick) a e = ap (λ (r : Bool). list_any ends_refused (make_tick_by r w).next) e
ends-so w p h (Op.Tick (TickOp.CopyWaker s)) a e =
    ap (λ (r : Bool). list_any ends_refused (copy_sleeper_by r w s).next) (copy-refused h w s.waker e)
ends-so w p h (Op.List (ListOp.Write Section.MakeRun)) a e =
    ap (λ (r : Bool). list_any ends_refused (make_run_by r w).next) e
ends-so w p h (Op.Run RunOp.MakeRoom) a e = ap (λ (r : Bool). list_any ends_refused (make_room_by r w).next) e
ends-so w p h _ a e = absurd (cc)
