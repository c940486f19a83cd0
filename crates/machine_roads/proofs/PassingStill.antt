-- What comes behind the poll or the drop of a future that was taken, with what holds there of the world: as what takes goes on, that is
-- still so which all keep that comes before that.
use Rattle.std.proofs.Common.{◌≡◌, ℕ, ◌+◌, ◌++◌, true, List, [], ◌∷◌, length, Option, None, is_some, refl, sym, ap, subst, ◌∙◌, arith}
use Rattle.executor_model.specs.declared.op.Op.{Op}
use Rattle.executor_model.specs.declared.op.Op.TheVariants as op
use Rattle.executor_model.specs.declared.op.HandleOp.TheVariants as handle_op
use Rattle.executor_model.specs.declared.op.TableOp.TheVariants as table_op
use Rattle.executor_model.specs.declared.op.UserOp.TheVariants as user_op
use Rattle.executor_model.specs.declared.op.Waker.{Waker}
use Rattle.executor_model.specs.declared.step.Hint.{Hint}
use Rattle.executor_model.specs.World.{Done, World, done, task}
use Rattle.plain_scheduler.specs.State.{Choice, Code, Plain, Taker}
use Rattle.machine_roads.specs.View.{Output}
use Rattle.machine_roads.specs.Road.{Follows}
use Rattle.machine_roads.specs.Alone.{Has, HasAll, alone, is_resting}
use Rattle.machine_roads.specs.Dropped.{Drops, answered, loses, rest_of}
use Rattle.machine_roads.specs.Forgotten.{StopsForgetting}
use Rattle.machine_roads.specs.Searching.{start_of}
use Rattle.machine_roads.proofs.AloneKeeps.{due}
use Rattle.machine_roads.proofs.Cut.{Comes, CutHas, cut, inside, through}
use Rattle.machine_roads.proofs.Lists.{clash}
use Rattle.machine_roads.proofs.Passing.{GoesBy, Passes, passed, stood, telling}
use Rattle.machine_roads.proofs.RunsStay.{RunsStay}
use Rattle.machine_roads.proofs.Seeking.{seeks}
use Rattle.machine_roads.proofs.StartsOn.{starts_on}
use Rattle.machine_roads.proofs.Standing.{Answered, InDrop, Stays, StaysSo}
use Rattle.machine_roads.proofs.Trying.{stops_at}

-- user code, which is put for what takes
abbrev pub stop : Op
stop = op.User (user_op.DropOwn 0)

long : (xs ys : List Op) → length (xs ++ ys) ≡ length xs + length ys
long [] ys = omega arith
long (x ∷ xs) ys = let more = long xs ys in omega (arith, more)

-- above others there are more
pub not_above : (o : Op) (above below : List Op) → stop ∷ below ≡ o ∷ (above ++ (stop ∷ below)) → ⊥
not_above o above below is = omega (arith, ap length is, long above (stop ∷ below))

pub not_below : (below : List Op) → stop ∷ below ≡ below → ⊥
not_below below is = omega (arith, ap length is)

-- from this place on the list of queues is read as what takes goes on
module _ (start : ℕ) (P : World → Type 0) (p : ℕ) (taker : Taker Waker) (final : Op) (below : List Op) (q : Plain Output Waker) (n : ℕ)
    (end : Done) (new : Choice → Plain Output Waker) (behind : Choice → Option (Plain Output Waker))
    (So : Plain Output Waker → Type 0) where
  pub data GoesStill : Type 0 where
    passes_still : (pass : Passes p taker final below q n end new behind) → P pass.so.world
        → start_of p pass.so.way.hints (done pass.so.world (final ∷ below)) ≡ start → GoesStill
    stands_still : ((d : Choice) → So (new (telling n d))) → ((d : Choice) → RunsStay q (new (telling n d)))
        → ((d : Choice) → behind (telling n d) ≡ None) → P end.world → GoesStill

module _ (P : World → Type 0) (p : ℕ) (w : World) (os : List Op) (unread : due seeks os ≡ 0)
    (keeps : (hints : List Hint) → P (alone p hints (done w (os ++ []))).world)
    (below : List Op) (under : is_resting below ≡ true) (taker : Taker Waker) (final : Op) (q : Plain Output Waker) (n : ℕ)
    (new : Choice → Plain Output Waker) (behind : Choice → Option (Plain Output Waker)) (So : Op → Done → Plain Output Waker → Type 0)
    (c : Choice) (hints : List Hint) where
  abbrev pub end : Done
  end = alone p hints (done w (os ++ (final ∷ below)))

  abbrev pub Still : Type 0
  Still = GoesStill (start_of p hints (done w (os ++ (final ∷ below)))) P p taker final below q n end new behind (So final end)

  -- what is put for what takes
  abbrev Goes : Op → List Hint → Type 0
  Goes o hints =
      HasAll p hints (done w (os ++ (o ∷ below))) → is_resting (alone p hints (done w (os ++ (o ∷ below)))).next ≡ true
      → GoesBy p taker o below q n (alone p hints (done w (os ++ (o ∷ below)))) new behind
      (So o (alone p hints (done w (os ++ (o ∷ below)))))

  module _ (goes : (o : Op) (hints : List Hint) → Goes o hints)
      (apart : (e : Done) (z : Plain Output Waker) → e.next ≡ stop ∷ below → So stop e z → ⊥) where
    there : (hs : List Hint) (v : World) (left : List Op) → Comes Has p hs w os v left → P v
    there hs v left comes = subst (λ (d : Done). P d.world) (comes.to []) (keeps hs)

    pub goes_still : HasAll p hints (done w (os ++ (final ∷ below))) → is_resting end.next ≡ true → Still
    goes_still all rests = by (cut p hints w os (final ∷ below) all rests)
      where
        by : CutHas p hints w os (final ∷ below) → Still
        by (through first later v comes more is parts) =
            let to : alone p first (done w (os ++ (stop ∷ below))) ≡ done v (stop ∷ below) = comes.to (stop ∷ below) in
            let resting : is_resting (alone p first (done w (os ++ (stop ∷ below)))).next ≡ true =
            ap (λ (d : Done). is_resting d.next) to in
            stops to resting (goes stop first (comes.has (stop ∷ below)) resting)
          where
            stops : alone p first (done w (os ++ (stop ∷ below))) ≡ done v (stop ∷ below)
                → is_resting (alone p first (done w (os ++ (stop ∷ below)))).next ≡ true
                → GoesBy p taker stop below q n (alone p first (done w (os ++ (stop ∷ below)))) new behind
                (So stop (alone p first (done w (os ++ (stop ∷ below)))))
                → Still
            stops to resting (stood so stay none) =
                absurd
                (apart (alone p first (done w (os ++ (stop ∷ below)))) (new (telling n c)) (ap (λ (d : Done). d.next) to) (so c))
            stops to resting (passed pass) =
                let here : pass.so.world ≡ v =
                ap (λ (d : Done). d.world)
                (stops_at p below under (alone p first (done w (os ++ (stop ∷ below)))) resting (stop ∷ below) pass.so.world refl
                pass.so.way ∙ to) in
                passes_still
                (record {
                  before = pass.before;
                  so = record {
                    world = v;
                    follows = subst (λ v. Follows v pass.before) here pass.so.follows;
                    way = record { hints = later; has = more; is = sym is };
                  };
                  fit = pass.fit;
                  inside = pass.inside;
                  stay = pass.stay;
                  is = pass.is;
                  at = pass.at;
                })
                (there first v [] comes)
                (sym (ap (λ hs. start_of p hs (done w (os ++ (final ∷ below)))) parts
                ∙ starts_on p first later w os (final ∷ below) v unread comes.to))
        by (inside v o above user comes) =
            both
            (goes final hints all rests)
            (goes stop hints (comes.has (stop ∷ below))
            (ap (λ (d : Done). is_resting d.next) (comes.to (stop ∷ below)) ∙ user))
          where
            to : alone p hints (done w (os ++ (stop ∷ below))) ≡ done v (o ∷ (above ++ (stop ∷ below)))
            to = comes.to (stop ∷ below)

            both : GoesBy p taker final below q n end new behind (So final end)
                → GoesBy p taker stop below q n (alone p hints (done w (os ++ (stop ∷ below)))) new behind
                (So stop (alone p hints (done w (os ++ (stop ∷ below)))))
                → Still
            both goes (passed pass) =
                absurd
                (not_above o above below
                (ap (λ (d : Done). d.next)
                (stops_at p below under (alone p hints (done w (os ++ (stop ∷ below))))
                (ap (λ (d : Done). is_resting d.next) to ∙ user) (stop ∷ below) pass.so.world refl
                pass.so.way ∙ to)))
            both (stood so stay none) (stood so_stop stay_stop none_stop) =
                stands_still so stay none
                (subst (λ (d : Done). P d.world) (sym (comes.to (final ∷ below))) (there hints v (o ∷ above) comes))
            both (passed pass) (stood so_stop stay_stop none_stop) =
                absurd (clash (ap is_some (none_stop c)) (ap is_some (pass.at c)))

-- user code in which it stands isn't what is put there
pub stays_apart : (taker : Taker Waker) (below : List Op) (q : Plain Output Waker) (e : Done) (z : Plain Output Waker)
    → e.next ≡ stop ∷ below → StaysSo taker stop below q e z → ⊥
stays_apart taker below q e z is so = by e.next z.inside so.stays is
  where
    by : (os : List Op) (codes : List (Code Output Waker)) → Stays taker stop below q.inside e.world os codes → os ≡ stop ∷ below → ⊥
    by os codes Answered is = not_below below (sym is)
    by os codes (InDrop f m why going) is = absurd cc

pub drops_apart : (taker : Taker Waker) (below : List Op) (f : ℕ) (q : Plain Output Waker) (e : Done) (z : Plain Output Waker)
    → e.next ≡ stop ∷ below → Drops taker stop below f q e z → ⊥
drops_apart taker below f q e z is (answered next same follows) = not_below below (sym is ∙ next)
drops_apart taker below f q e z is (loses awaiter next same ending) =
    let no : stop ∷ below ≡ op.User (user_op.DropOutput f) ∷ (rest_of (task e.world f).awaiter f stop ++ below) = sym is ∙ next in absurd cc

pub forgets_apart : (taker : Taker Waker) (below : List Op) (f : ℕ) (q : Plain Output Waker) (e : Done) (z : Plain Output Waker)
    → e.next ≡ stop ∷ below → StopsForgetting taker stop below f q e z → ⊥
forgets_apart taker below f q e z is so =
    let no : stop ∷ below
    ≡ op.User (user_op.Drop f) ∷ op.Table (table_op.LeaveTable f) ∷ op.Handle (handle_op.LetGo f) ∷ stop ∷ below = sym is ∙ so.left in
    absurd cc
