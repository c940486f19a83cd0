-- How the turns of a running call follow the words that it found, and where a forced push on a single slot ends.
use Rattle.std.proofs.Common.{◌≡◌, ℕ, nat_lt, ◌==◌, if◌then◌else◌, Bool, List, [], ◌∷◌, ◌++◌, sym, refl, ap, ◌∙◌, eq-eqb}
use Rattle.std.specs.Prelude.{Option, Some, None, Ok}
use Rattle.concurrent_queue.specs.Answered.{turns, ForcePushSays}
use Rattle.queue_steps.specs.Single.{marks_of}
use Rattle.queue_steps.specs.SingleTurns.{looked_to_force, force_push_turn, Turn, Look, Exchange, Unlock, End}
use Rattle.queue_steps.specs.Reply.{Reply, Done, Displaced}

pub turns-snoc : {A : Type 0} (step : A → ℕ → A) (t : A) (ws : List ℕ) (w : ℕ) → turns step t (ws ++ w ∷ []) ≡ step (turns step t ws) w
turns-snoc step t [] w = refl
turns-snoc step t (x ∷ xs) w = turns-snoc step (step t x) xs w

same_if : {A : Type 0} (n : ℕ) (a b : A) → (if n == n then a else b) ≡ a
same_if {A} n a b = ap (λ (t : Bool). if t then a else b) (eq-eqb n n refl)

abbrev kind : ℕ → Reply
kind old = if nat_lt old 2 then Done else Displaced

-- a won exchange, and the unlock
ends_so : (ws : List ℕ) (t : Turn) (old new n : ℕ) → t ≡ turns force_push_turn Look ws → t ≡ Exchange old new
    → turns force_push_turn Look ((ws ++ old ∷ []) ++ n ∷ []) ≡ End (kind old)
ends_so ws t old new n at is =
    turns-snoc force_push_turn Look (ws ++ old ∷ []) n
    ∙ ap (λ (v : Turn). force_push_turn v n) (turns-snoc force_push_turn Look ws old
    ∙ ap (λ (v : Turn). force_push_turn v old) (sym at ∙ is) ∙ same_if old (Unlock (kind old)) (looked_to_force old))

pub force_ends : {T : Type 0} (x : T) (held : Option T) (ws ws' : List ℕ) (t : Turn) (old new n : ℕ) → marks_of held ≡ old
    → t ≡ turns force_push_turn Look ws → t ≡ Exchange old new → ws' ≡ (ws ++ old ∷ []) ++ n ∷ []
    → (reply : Reply) × (turns force_push_turn Look ws' ≡ End reply) × ForcePushSays x reply (Ok held)
force_ends x None ws ws' t old new n marks at is more =
    (Done, ap (turns force_push_turn Look) more ∙ ends_so ws t old new n at is ∙ ap (λ (o : ℕ). End (kind o)) (sym marks), refl)
force_ends x (Some y) ws ws' t old new n marks at is more =
    (Displaced, ap (turns force_push_turn Look) more ∙ ends_so ws t old new n at is ∙ ap (λ (o : ℕ). End (kind o)) (sym marks), refl)
