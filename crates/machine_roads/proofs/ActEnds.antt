-- User code that ends where a party stands in code of calls one inside another: where its call rests next, both stand alike.
use Rattle.std.proofs.Common.{◌≡◌, ℕ, ◌<◌, ◌++◌, Bool, true, false, List, [], ◌∷◌, length, None}
use Rattle.std.proofs.Common.{refl, arith}
use Rattle.std.specs.Prelude.{reverse}
use Rattle.task_moves.specs.declared.moves.owed.Move.{Move}
use Rattle.executor_model.specs.declared.call.Reply.TheVariants as reply
use Rattle.executor_model.specs.declared.op.HandleOp.TheVariants as handle_op
use Rattle.executor_model.specs.declared.op.ListOp.TheVariants as list_op
use Rattle.executor_model.specs.declared.op.Op.{Op}
use Rattle.executor_model.specs.declared.op.Op.TheVariants as op
use Rattle.executor_model.specs.declared.op.Section.TheVariants as section
use Rattle.executor_model.specs.declared.op.TableOp.TheVariants as table_op
use Rattle.executor_model.specs.declared.op.UserOp.TheVariants as user_op
use Rattle.executor_model.specs.declared.op.Waker.{Waker}
use Rattle.executor_model.specs.declared.step.Step.TheVariants.{Answer}
use Rattle.executor_model.specs.declared.step.UserEnd.{UserEnd}
use Rattle.executor_model.specs.Steps.{Machine, react, refusal, stack}
use Rattle.executor_model.specs.World.{Done, done, task}
use Rattle.executor_model.proofs.Steps.Reached.{Reached}
use Rattle.executor_laws.proofs.Termination.LoneEnds.{OthersRest}
use Rattle.plain_scheduler.specs.State.{Code, End, Plain}
use Rattle.machine_roads.specs.View.{Output}
use Rattle.machine_roads.specs.Road.{Follows}
use Rattle.machine_roads.specs.Dropped.{answered, loses, rest_of}
use Rattle.machine_roads.specs.InLoss.{loss_ops}
use Rattle.machine_roads.specs.Losing.{left_of}
use Rattle.machine_roads.specs.Within.{going}
use Rattle.machine_roads.specs.Within.{StandsAlike, alike, dropping, forgetting, forgotten, losing, standing, untaken}
use Rattle.machine_roads.proofs.ActCodes.{EndsSo, accepted, from_drop, from_forgotten, from_loss, from_poll, leads_anyhow}
use Rattle.machine_roads.proofs.ActOwns.{from_going, from_own_drop, from_own_poll}
use Rattle.machine_roads.proofs.ActsForgotten.{ends_forgotten}
use Rattle.machine_roads.proofs.ActLosses.{ends_in_going, ends_in_loss}
use Rattle.machine_roads.proofs.Counting.{Counted}
use Rattle.machine_roads.proofs.Inmost.{Inmost, IsDropOf, drop, inmost, none, of_given, of_polled, of_queued, own_drop, own_poll, poll}
use Rattle.machine_roads.proofs.RunHere.{Above}
use Rattle.machine_roads.proofs.Walked.{no_answer}

-- whether it stands so
abbrev pub is_inner : {e : Done} {q : Plain Output Waker} → StandsAlike e q → Bool
is_inner (untaken taker final below f awaiter g gs codes it nested stops) = true
is_inner _ = false

module _ (s : Machine) (reached : Reached s) (p : ℕ) (there : p < length s.parties) (open_still : s.world.gone ≡ false)
    (others : OthersRest p s) (q : Plain Output Waker) (counted : Counted (reverse (stack s p)) q.runs) where
  -- what follows the drop of a future is nothing to runs
  drop_above : (f : ℕ) (m : Move) (why : End Output) → IsDropOf m why → (final : Op) (below : List Op)
      → Above (op.User (user_op.Drop f) ∷ op.Table (table_op.LeaveTable f) ∷ op.Move m f ∷ final ∷ below) (final ∷ below)
  drop_above f m why of_queued final below = record {
    used = λ r. omega arith;
    polled = λ r. omega arith;
    emptied = λ r. omega arith;
    alike = record { last = λ r. refl; left = λ r. refl };
  }
  drop_above f m why of_polled final below = record {
    used = λ r. omega arith;
    polled = λ r. omega arith;
    emptied = λ r. omega arith;
    alike = record { last = λ r. refl; left = λ r. refl };
  }
  drop_above f m why of_given final below = record {
    used = λ r. omega arith;
    polled = λ r. omega arith;
    emptied = λ r. omega arith;
    alike = record { last = λ r. refl; left = λ r. refl };
  }

  from_alike : (os : List Op) (codes : List (Code Output Waker)) → Inmost os codes → reverse (stack s p) ≡ os → q.inside ≡ codes
      → Follows s.world q → (u : UserEnd) → refusal s (Answer p u) ≡ None → EndsSo s reached p there open_still others q counted u
  from_alike os codes none is at follows u may = absurd (no_answer s p there u is may)
  from_alike os codes (own_poll x below inside nested) is at follows u may = record {
    first = op.User (user_op.PollOwn x);
    rest = below;
    is = is;
    leads = from_own_poll s reached p there open_still others q counted below inside nested x is at follows u
        (accepted s reached p there open_still others q counted u (op.User (user_op.PollOwn x)) below may is);
  }
  from_alike os codes (own_drop r below inside nested) is at follows u may =
      let xs = op.List (list_op.LockWrite (section.Unregister r reply.Ready)) ∷ below in
      record {
        first = op.User (user_op.DropOwn r);
        rest = xs;
        is = is;
        leads = from_own_drop s reached p there open_still others q counted below inside nested r is at follows u
            (accepted s reached p there open_still others q counted u (op.User (user_op.DropOwn r)) xs may is);
      }
  from_alike os codes (poll taker final below inside f it nested) is at follows u may =
      let xs = op.User (user_op.Poll f) ∷ final ∷ below in
      record {
        first = op.User (user_op.Poll f);
        rest = final ∷ below;
        is = is;
        leads =
            from_poll s reached p there open_still others q counted below inside nested taker final it xs is
            (record {
              used = λ r. omega arith;
              polled = λ r. omega arith;
              emptied = λ r. omega arith;
              alike = record { last = λ r. refl; left = λ r. refl };
            })
            f refl at follows u (accepted s reached p there open_still others q counted u (op.User (user_op.Poll f)) (final ∷ below) may
            is);
      }
  from_alike os codes (drop taker final below inside f m why it how nested) is at follows u may =
      let xs = op.Table (table_op.LeaveTable f) ∷ op.Move m f ∷ final ∷ below in
      record {
        first = op.User (user_op.Drop f);
        rest = xs;
        is = is;
        leads =
            from_drop s reached p there open_still others q counted below inside nested taker final it (op.User (user_op.Drop f) ∷ xs) is
            (drop_above f m why how final below)
            f m why how refl at follows u (accepted s reached p there open_still others q counted u (op.User (user_op.Drop f)) xs may is);
      }

  -- what is owed behind the drop of an output is nothing to runs
  owed_above : (f : ℕ) (final : Op) (below : List Op) (b : Bool)
      → Above (op.User (user_op.DropOutput f) ∷ (rest_of b f final ++ below)) (final ∷ below)
  owed_above f final below true = record {
    used = λ r. omega arith;
    polled = λ r. omega arith;
    emptied = λ r. omega arith;
    alike = record { last = λ r. refl; left = λ r. refl };
  }
  owed_above f final below false = record {
    used = λ r. omega arith;
    polled = λ r. omega arith;
    emptied = λ r. omega arith;
    alike = record { last = λ r. refl; left = λ r. refl };
  }

  -- but the innermost of drops of outputs inside of that of one that nobody can take
  pub code_ends : (a : StandsAlike (standing s p) q) → is_inner a ≡ false → (u : UserEnd) → refusal s (Answer p u) ≡ None
      → EndsSo s reached p there open_still others q counted u
  code_ends (alike nested follows) plain u may =
      from_alike (reverse (stack s p)) q.inside (inmost (reverse (stack s p)) q.inside nested) refl refl follows u may
  code_ends (losing f fs below codes nested stops) plain u may =
      let xs = left_of f ++ loss_ops fs below in
      record {
        first = op.User (user_op.DropOutput f);
        rest = xs;
        is = stops.left;
        leads =
            leads_anyhow s reached p there open_still others q counted u
            (done (react p (op.User (user_op.DropOutput f)) u s.world).world
            ((react p (op.User (user_op.DropOutput f)) u s.world).next ++ xs))
            (ends_in_loss s p q f fs below codes nested stops counted u
            (accepted s reached p there open_still others q counted u (op.User (user_op.DropOutput f)) xs may stops.left));
      }
  code_ends (going r [] below codes nested stops) plain u may = record {
    first = op.User (user_op.DropOwn r);
    rest = stops.rest ∷ below;
    is = stops.left;
    leads =
        from_going s reached p there open_still others q counted below codes nested r stops.rest stops.leaving stops.left stops.inside
        stops.losing.follows u
        (accepted s reached p there open_still others q counted u (op.User (user_op.DropOwn r)) (stops.rest ∷ below) may stops.left);
  }
  code_ends (going r (f ∷ fs) below codes nested stops) plain u may =
      let xs = left_of f ++ loss_ops fs (op.User (user_op.DropOwn r) ∷ stops.rest ∷ below) in
      record {
        first = op.User (user_op.DropOutput f);
        rest = xs;
        is = stops.left;
        leads =
            leads_anyhow s reached p there open_still others q counted u
            (done (react p (op.User (user_op.DropOutput f)) u s.world).world
            ((react p (op.User (user_op.DropOutput f)) u s.world).next ++ xs))
            (ends_in_going s p q r f fs below codes nested stops counted u
            (accepted s reached p there open_still others q counted u (op.User (user_op.DropOutput f)) xs may stops.left));
      }
  code_ends (dropping taker final below f b it nested (answered next inside follows)) plain u may =
      from_alike below b.inside (inmost below b.inside nested) next inside follows u may
  code_ends (dropping taker final below f b it nested (loses awaiter next inside ending)) plain u may =
      let xs = rest_of (task s.world f).awaiter f final ++ below in
      record {
        first = op.User (user_op.DropOutput f);
        rest = xs;
        is = next;
        leads =
            from_loss s reached p there open_still others q counted below b.inside nested taker final it
            (op.User (user_op.DropOutput f) ∷ xs) next
            (owed_above f final below (task s.world f).awaiter) f awaiter inside ending u
            (accepted s reached p there open_still others q counted u (op.User (user_op.DropOutput f)) xs may next);
      }
  code_ends (forgetting taker final below f b it nested stops) plain u may =
      let xs = op.Table (table_op.LeaveTable f) ∷ op.Handle (handle_op.LetGo f) ∷ final ∷ below in
      record {
        first = op.User (user_op.Drop f);
        rest = xs;
        is = stops.left;
        leads =
            from_forgotten s reached p there open_still others q counted below b.inside nested taker final it
            (op.User (user_op.Drop f) ∷ xs) stops.left
            (record {
              used = λ r. omega arith;
              polled = λ r. omega arith;
              emptied = λ r. omega arith;
              alike = record { last = λ r. refl; left = λ r. refl };
            })
            f stops.inside stops.forgotten u
            (accepted s reached p there open_still others q counted u (op.User (user_op.Drop f)) xs may stops.left);
      }
  code_ends (untaken taker final below f awaiter g gs codes it nested stops) plain u may = absurd cc
  code_ends (forgotten taker final below f g gs codes it nested stops) plain u may =
      let xs =
      left_of g
      ++ loss_ops gs (op.User (user_op.Drop f) ∷ op.Table (table_op.LeaveTable f) ∷ op.Handle (handle_op.LetGo f) ∷ final ∷ below) in
      record {
        first = op.User (user_op.DropOutput g);
        rest = xs;
        is = stops.left;
        leads =
            leads_anyhow s reached p there open_still others q counted u
            (done (react p (op.User (user_op.DropOutput g)) u s.world).world
            ((react p (op.User (user_op.DropOutput g)) u s.world).next ++ xs))
            (ends_forgotten taker final below f codes it nested s p q counted g gs stops u
            (accepted s reached p there open_still others q counted u (op.User (user_op.DropOutput g)) xs may stops.left));
      }
