-- For the_table_is_kept.
-- The table has no more entries than the limit.
use Rattle.std.proofs.Common.{◌≡◌, ℕ, ◌<◌, ◌≤◌, List, [], ◌∷◌, length, Bool, true, false, ap, arith}
use Rattle.std.{proofs.lemmas.Bool.Decides.nat_tests, proofs.lemmas.List.length-append}
use Rattle.executor_model.specs.{Acts.is_last_waker, Acts.is_told, Acts.told_as, Steps.Machine, Steps.run, Steps.start}
use Rattle.executor_model.specs.{TableKeeps.IsTableBound, World.World, World.Done, World.done, World.log_if, World.task}
use Rattle.executor_model.proofs.OneFuture.Effects.Effect.{passes, turns, refuses, enters, unlists, drops, takes_out}
use Rattle.executor_model.proofs.OneFuture.Effects.Effect.{drops_next, leaks, leaks_out}
use Rattle.executor_model.proofs.OneFuture.EffectsWays.{Effects, effects-way}
use Rattle.executor_model.proofs.OneFuture.EffectsWays.Effects.{does, pends, readies, closes}
use Rattle.executor_model.proofs.{Types.Kind, Types.Event, Types.Op, Types.Step, OneFuture.Effects.Effect}
use Rattle.executor_model.proofs.{OneFuture.Extras.no_extra, OneFuture.Passes.ShiftsBy, OneFuture.Passes.shifts}
use Rattle.executor_model.proofs.OneFuture.Stories.{length-without}
use Rattle.executor_model.proofs.{OneFuture.Stories.no-longer, OneFuture.Views.none, Steps.Lift.good-start, Steps.Ways.along}

-- the table, and those that the drop of the executor has taken out of it
pub record Bound (w : World) : Type 0 where
  pub table : length w.table ≤ w.limit
  pub leaving : length w.leaving ≤ w.limit

abbrev pub KeepsBound : World → World → Type 0
KeepsBound w v = Bound w → Bound v

-- where each future has as many entries as before
bound-goes : (w v : World) (old next : List Op) → ShiftsBy w old (done v next) → KeepsBound w v
bound-goes w v old next s h =
    let l : v.limit ≡ w.limit = (s 0 none no_extra).stays.limit in
    let t : length v.table ≤ length w.table =
    no-longer v.table w.table (λ g. omega (arith, (s g none no_extra).passes.table)) in
    let k : length v.leaving ≤ length w.leaving =
    no-longer v.leaving w.leaving (λ g. omega (arith, (s g none no_extra).passes.leaving)) in
    record { table = omega (arith, l, t, h.table); leaving = omega (arith, l, k, h.leaving) }

bound-log_if : (b : Bool) (w : World) (e : Event) → KeepsBound w (log_if b w e)
bound-log_if true w e h = record { table = h.table; leaving = h.leaving }
bound-log_if false w e h = h

bound-effect : (w : World) (old : List Op) (d : Done) → Effect w old d → KeepsBound w d.world
bound-effect w old d (passes s c) h = bound-goes w d.world old d.next s h
bound-effect w old _ (turns d m p f v more i j k s a e) h =
    let x : Bound v = bound-goes w v old (Op.Move m f ∷ more) (λ g r y. shifts _ _ (s g r y)) h in
    let t : World = log_if (is_told m (task v f)) v (told_as m p f) in
    let z : Bound t = bound-log_if (is_told m (task v f)) v (told_as m p f) x in
    let u : World = log_if (is_last_waker m (task v f)) t (Event.LastWaker p f) in
    let y : Bound u = bound-log_if (is_last_waker m (task v f)) t (Event.LastWaker p f) z in
    record {
      table = omega (arith, y.table, ap (λ (z : World). length z.table) a, ap (λ (z : World). z.limit) a);
      leaving = omega (arith, y.leaving, ap (λ (z : World). length z.leaving) a, ap (λ (z : World). z.limit) a);
    }
bound-effect w old d (refuses f e) h = record { table = h.table; leaving = h.leaving }
bound-effect w old d (enters mark p e) h =
    let n : length w.table < w.limit = grind (arith, nat_tests, e) in
    record { table = omega (arith, n, length-append w.table (length w.tasks ∷ [])); leaving = h.leaving }
bound-effect w old d (unlists f e) h =
    record { table = omega (arith, h.table, length-without f w.table e); leaving = h.leaving }
bound-effect w old d (drops p f) h = record { table = h.table; leaving = h.leaving }
bound-effect w old d takes_out h = record { table = h.leaving; leaving = h.table }
bound-effect w old d (drops_next p f rest e) h =
    record { table = h.table; leaving = omega (arith, h.leaving, ap length e) }
bound-effect w old d (leaks_out s n) h = record { table = h.table; leaving = h.leaving }
bound-effect w old _ (leaks d p f e a) h = let x : Bound d.world = bound-effect w _ d e h in
    record { table = x.table; leaving = x.leaving }

bound-effects : (w : World) (ss : List (List Op)) (old : List Op) (d : Done) → Effects w ss old d → KeepsBound w d.world
bound-effects w ss old d (does x) h = bound-effect w old d x h
bound-effects w ss old d (pends p f) h = record { table = h.table; leaving = h.leaving }
bound-effects w ss old d (readies p f) h = record { table = h.table; leaving = h.leaving }
bound-effects w ss old d (closes p n u) h = record { table = h.table; leaving = h.leaving }

bound : (limit : ℕ) (kind : Kind) (n : ℕ) (ts : List Step) → Bound (run ts (start limit kind n)).world
bound limit kind n ts = along (λ (s : Machine). Bound s.world)
    (λ s p old rest d fine l e way h.
    bound-effects s.world s.parties old d (effects-way s p old rest d fine l e way) h)
    (λ s p a held below l e h. record { table = h.table; leaving = h.leaving }) ts (start limit kind n) (good-start limit kind n)
    (record { table = omega arith; leaving = omega arith })

pub table-bound : (limit : ℕ) (kind : Kind) (parties : ℕ) (steps : List Step) → IsTableBound (run steps (start limit kind parties))
table-bound limit kind parties steps = (bound limit kind parties steps).table
