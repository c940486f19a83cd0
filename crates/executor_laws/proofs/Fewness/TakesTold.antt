-- For futures_are_polled_where_they_are_taken_up.
-- A step that takes a future up begins its poll, or leads to its drop, and no other begins a poll.
use Rattle.std.proofs.Common.{◌≡◌, ◌∙◌, ℕ, ◌<◌, [], ◌∷◌, ◌++◌, length, List, Result, Bool, true, false, not, eqb, ltb, refl}
use Rattle.std.{proofs.Common.sym, proofs.Common.ap, proofs.Common.arith, proofs.Common.append-nil, specs.Prelude.Option}
use Rattle.std.{specs.Prelude.Some, specs.Prelude.None, proofs.lemmas.Bool.Decides.nat_tests, proofs.lemmas.List.append_assoc}
use Rattle.task_moves.specs.Moves.{take_up_by}
use Rattle.executor_laws.proofs.Types.{UserEnd, Move, Call, Reply, Event, Op, StealOp, TableOp, Hint, Step, Begin, Go}
use Rattle.executor_model.specs.declared.step.Step.TheVariants.{Answer}
use Rattle.executor_model.specs.Steps.{Machine, Part, answer_refusal, begun, below_top, end_of, gone_on, mine, onto, part}
use Rattle.executor_model.specs.Steps.{part_after, part_refusal, party_of, react, refusal, settled_by, stack, step, stepped}
use Rattle.executor_model.specs.World.{Done, World, among, done, log, log_if, put, task}
use Rattle.executor_model.specs.{Steps.top, Carried.owed_ops, Doing.act, Trace.Trace}
use Rattle.executor_laws.specs.{RunFew.begins_poll, RunTakes.takes_up, TakesTold.BeginsNone, TakesTold.TakesAreTold}
use Rattle.executor_model.proofs.Steps.TraceGrows.{Allows, AllowsCall, grows-act, grows-begun, grows-react}
use Rattle.executor_model.proofs.{Steps.Stepping.step-refused, Steps.TraceMore.has-append, Table.Spawning.top-last}
use Rattle.executor_laws.proofs.Promptness.Turns.{goes-on, next-is}
use Rattle.executor_laws.proofs.{Types.StepError, Fewness.AnyPoll.set-same, Fewness.FewSides.ordinary-none}
use Rattle.executor_laws.proofs.{Reach.LoneSteps.answers, Reach.LoneTicks.in-range, Seeking.SeekStacks.own_part}

-- a future is taken up, which is closed or not, and lies in the table or not

abbrev taken : Bool → Bool → ℕ → World → ℕ → Done
taken closed there p w f =
    let v : World = log_if (not closed) w (Event.PollBegun p f) in
    done (put v f (take_up_by closed (task w f)).state) (owed_ops there f (take_up_by closed (task w f)).owed)

table-same : (b : Bool) (w : World) (p f : ℕ) → among f (log_if b w (Event.PollBegun p f)).table ≡ among f w.table
table-same true w p f = refl
table-same false w p f = refl

taken-is : (p : ℕ) (h : Hint) (w : World) (f : ℕ) →
    act p h (Op.Move Move.TakeUp f) w ≡ taken (task w f).closed (among f w.table) p w f
taken-is p h w f = ap (λ (b : Bool). taken (task w f).closed b p w f) (table-same (not (task w f).closed) w p f)

module _ (s : Machine) (p f : ℕ) (h : Hint) (n : refusal s (Go p h) ≡ None)
    (o : top (stack s p) ≡ Some (Op.Move Move.TakeUp f)) where
  abbrev below : List Op
  below = below_top (stack s p)

  took : own_part p (stepped s (step s (Go p h))) ≡ onto p (taken (task s.world f).closed (among f s.world.table) p s.world f) below
  took =
      let b : ltb p (length s.parties) ≡ true =
      (in-range (ltb p (length s.parties)) (part_refusal s.world s.parties (stack s p) (Go p h)) n).0 in
      let l : p < length s.parties = grind (arith, nat_tests) in
      let x : Part = part_after s.world (stack s p) (Go p h) in
      ap (own_part p) (next-is s (Go p h) n)
      ∙ (ap (part x.world) (set-same p s x l)
      ∙ (ap (λ (y : Option Op). gone_on p s.world (stack s p) y (λ z. act p h z s.world)) o
      ∙ ap (λ (d : Done). onto p d below) (taken-is p h s.world f)))

  begins-it : (task s.world f).closed ≡ false →
      (stepped s (step s (Go p h))).world.trace ≡ s.world.trace ++ Event.PollBegun p f ∷ []
  begins-it c = ap (λ (x : Part). x.world.trace)
      (took
      ∙ (ap (λ (b : Bool). onto p (taken b (among f s.world.table) p s.world f) below) c
      ∙ goes-on p (taken false (among f s.world.table) p s.world f).world below (Op.Table (TableOp.TakeToPoll f)) refl))

  drops-it : (task s.world f).closed ≡ true → among f s.world.table ≡ true →
      top (stack (stepped s (step s (Go p h))) p) ≡ Some (Op.Table (TableOp.TakeToDrop f))
  drops-it c t =
      let rest : List Op = below ++ Op.Move Move.SettleClosed f ∷ [] in
      let w : World = (taken true true p s.world f).world in
      let last : Op = Op.Table (TableOp.TakeToDrop f) in
      ap (λ (x : Part). top x.todo)
      (took
      ∙ (ap (λ (b : Bool). onto p (taken b (among f s.world.table) p s.world f) below) c
      ∙ (ap (λ (b : Bool). onto p (taken true b p s.world f) below) t
      ∙ (ap (λ (os : List Op). settled_by (end_of (top os)) p w os)
      (sym (append_assoc below (Op.Move Move.SettleClosed f ∷ []) (last ∷ [])))
      ∙ goes-on p w rest last refl))))
      ∙ top-last rest last

-- what begins no poll

same-none : (es now : Trace) → now ≡ es → BeginsNone es now
same-none es now e = ([], e ∙ sym (append-nil es), refl)

settled-none : (o : Option Reply) (es : Trace) (p : ℕ) (w : World) (os : List Op) → BeginsNone es w.trace →
    BeginsNone es (settled_by o p w os).world.trace
settled-none None es p w os k = k
settled-none (Some a) es p w os k = (
  k.0 ++ Event.CallEnded p a ∷ [],
  ap (λ (xs : Trace). xs ++ Event.CallEnded p a ∷ []) k.1 ∙ append_assoc es k.0 (Event.CallEnded p a ∷ []),
  has-append begins_poll k.0 (Event.CallEnded p a ∷ []) k.2 refl,
)

allows-call : (p : ℕ) (c : Call) → AllowsCall begins_poll ordinary-none p c
allows-call p (Call.PollRun r b) = refl
allows-call p (Call.DropRun r) = refl
allows-call p _ = tt

allows : (p : ℕ) (h : Hint) (o : Op) → takes_up None p (Go p h) (Some o) ≡ false → Allows begins_poll ordinary-none p o
allows p h (Op.Move Move.TakeUp f) k = absurd (differs k)
  where
    differs : eqb p p ≡ false → ⊥
    differs q = let y : eqb p p ≡ true = grind (arith, nat_tests) in let no : true ≡ false = sym y ∙ q in cc
allows p h (Op.Steal (StealOp.Put x more f)) k = refl
allows p h (Op.End a held) k = refl
allows p h _ k = tt

begun-none : (w : World) (os : List Op) (p : ℕ) (c : Call) → BeginsNone w.trace (part_after w os (Begin p c)).world.trace
begun-none w os p c =
    let v : World = log w (Event.CallBegun p c) in
    let g = grows-begun begins_poll ordinary-none p v (mine (top os)) c (allows-call p c) in
    settled-none _ w.trace p (begun p v (mine (top os)) c).world _
    (Event.CallBegun p c ∷ g.more, g.is ∙ append_assoc w.trace (Event.CallBegun p c ∷ []) g.more, g.none)

go-none : (w : World) (os : List Op) (p : ℕ) (h : Hint) (o : Option Op) → takes_up None p (Go p h) o ≡ false →
    BeginsNone w.trace (gone_on p w os o (λ x. act p h x w)).world.trace
go-none w os p h None k = same-none w.trace w.trace refl
go-none w os p h (Some o) k =
    let g = grows-act begins_poll ordinary-none p h o w (allows p h o k) in
    settled-none _ w.trace p (act p h o w).world _ (g.more, g.is, g.none)

answer-none : (w : World) (os : List Op) (p : ℕ) (u : UserEnd) (o : Option Op) → answer_refusal o u ≡ None →
    BeginsNone w.trace (gone_on p w os o (λ x. react p x u w)).world.trace
answer-none w os p u None k = absurd (cc)
answer-none w os p u (Some o) k =
    let g = grows-react begins_poll ordinary-none p o u w (answers o u k) in
    settled-none _ w.trace p (react p o u w).world _ (g.more, g.is, g.none)

part-none : (w : World) (ss : List (List Op)) (os : List Op) (t : Step) → part_refusal w ss os t ≡ None →
    takes_up None (party_of t) t (top os) ≡ false → BeginsNone w.trace (part_after w os t).world.trace
part-none w ss os (Begin p c) e k = begun-none w os p c
part-none w ss os (Go p h) e k = go-none w os p h (top os) k
part-none w ss os (Answer p u) e k = answer-none w os p u (top os) e

none-by : (s : Machine) (t : Step) (r : Option StepError) → refusal s t ≡ r →
    takes_up r (party_of t) t (top (stack s (party_of t))) ≡ false → BeginsNone s.world.trace (stepped s (step s t)).world.trace
none-by s t (Some error) e k = same-none s.world.trace (stepped s (step s t)).world.trace
    (ap (λ (r : Result Machine StepError). (stepped s r).world.trace) (step-refused s t error e))
none-by s t None e k =
    let x : BeginsNone s.world.trace (part_after s.world (stack s (party_of t)) t).world.trace =
    part-none s.world s.parties (stack s (party_of t)) t
    (in-range (ltb (party_of t) (length s.parties)) (part_refusal s.world s.parties (stack s (party_of t)) t) e).1 k in
    (x.0, ap (λ (m : Machine). m.world.trace) (next-is s t e) ∙ x.1, x.2)

pub takes-told : (s : Machine) → TakesAreTold s
takes-told s = record {
  polled = λ p f h n o c. begins-it s p f h n o c;
  dropped = λ p f h n o c t. drops-it s p f h n o c t;
  only = λ t k. none-by s t (refusal s t) refl k;
}
