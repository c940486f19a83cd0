-- Every list of steps on a single slot is an execution of the closable queue.
use Rattle.std.proofs.lemmas.Bool.Decides.{nat_tests}
use Rattle.std.proofs.Common.{◌≡◌, ◌≢◌, ℕ, ◌-◌, List, [], ◌∷◌, ◌++◌, Bool, true, false, nat_lt, Option, Some, None, ◌==◌}
use Rattle.std.proofs.Common.{sym, refl, ap, ◌∙◌, subst, arith}
use Rattle.queue_steps.specs.SingleTurns.{Turn, Look, Exchange, Unlock, End, Close as CloseTurn}
use Rattle.queue_steps.specs.Reply.{Reply}
use Rattle.queue_steps.specs.ClosableQueue.{ClosableQueue}
use Rattle.queue_steps.specs.Calls.{Call, Close, Answer, WasClosed, Acts}
use Rattle.queue_laws.specs.Moments.{Moment, Does, Ends, Scene, Sight, Progress, Run, sees, becomes, answers, with_call}
use Rattle.queue_laws.specs.Moments.{MayEnd}
use Rattle.queue_laws.specs.SingleSteps.{Place, Away, Stands, Inside, Leaving, SingleWorld, Step, Begin, Go, turn_of}
use Rattle.queue_laws.specs.SingleSteps.{answer_of, stored, word_after, placed, with_place, begun, moved, gone, stepped, begin_moments}
use Rattle.queue_laws.specs.SingleSteps.{turn_moments, go_moments, moments, run, trace, new_slot, new_scene, IsClosableQueue}
use Rattle.queue_laws.proofs.SingleLooks.{Phase, free, held, is_party, word_of, content, item, sight_of, Exchanges, LooksFirst}
use Rattle.queue_laws.proofs.SingleLooks.{Finds, looks, hits, misses}

module _ {T : Type 0} where
  -- what is known of a call before its next step on the word
  abbrev pub Ready : Call T → Turn → Progress T → Type 0
  Ready call Look k = LooksFirst call × (k.answer ≡ None)
  Ready call (Exchange old new) k = LooksFirst call × Exchanges call old new × (k.answer ≡ None)
  Ready call (Unlock r) k = ⊥
  Ready call CloseTurn k = (call ≡ Close) × (k.answer ≡ None)
  Ready call (End r) k = MayEnd k k.answer (answer_of call r None)

  -- what ties a party's place to its call
  abbrev pub TiedPlace : Phase T → Sight T → ℕ → Place T → Option (Progress T) → Type 0
  TiedPlace ph s p Away c = c ≡ None
  TiedPlace ph s p (Stands call t) c =
      (k : Progress T) × (c ≡ Some k) × (k.call ≡ call) × ((older : List (Sight T)) × (k.seen ≡ s ∷ older)) × Ready call t k
  TiedPlace ph s p (Inside call r) c =
      (k : Progress T) × (c ≡ Some k)
      × ((before : Option T) × (k.answer ≡ Some (answer_of call r before)) × (ph ≡ held p before (stored call before) false))
  TiedPlace ph s p (Leaving call r o) c =
      (k : Progress T) × (c ≡ Some k) × (k.answer ≡ Some (answer_of call r o))
      × ((before : Option T) × (after : Option T) × (ph ≡ held p before after true))

  pub record Tied (w : SingleWorld T) (s : Scene T) : Type 0 where
    pub shut : Bool
    pub phase : Phase T
    pub word : w.word ≡ word_of shut phase
    pub slot : w.slot ≡ content phase
    pub sight : s.sight ≡ sight_of shut phase
    pub each : (p : ℕ) → TiedPlace phase (sight_of shut phase) p (w.places p) (s.calls p)

  -- a party that has the slot still has it
  abbrev Keeps : ℕ → Phase T → Phase T → Type 0
  Keeps q ph ph' = (b a : Option T) (d : Bool) → ph ≡ held q b a d → ph' ≡ ph

  -- another party's place, where the queue has become something else
  tied_sees : (ph ph' : Phase T) (s s' : Sight T) (q : ℕ) (place : Place T) (c : Option (Progress T)) → Keeps q ph ph'
      → TiedPlace ph s q place c → TiedPlace ph' s' q place (sees s' c)
  tied_sees ph ph' s s' q place c keep tied = grind (arith, nat_tests)

  -- the places after one party's step
  each_with : (P : ℕ → Place T → Option (Progress T) → Type 0) (places : ℕ → Place T) (calls : ℕ
      → Option (Progress T)) (p : ℕ) (place : Place T) (c : Option (Progress T))
      → P p place c → ((q : ℕ) → q ≢ p → P q (places q) (calls q)) → (q : ℕ) → P q (with_place places p place q) (with_call calls p c q)
  each_with P places calls p place c here other q = grind (arith, nat_tests)

  free_keeps : (q : ℕ) (o : Option T) (ph ph' : Phase T) → ph ≡ free o → Keeps q ph ph'
  free_keeps q o ph ph' is = grind (arith, nat_tests)

  other_keeps : (q p : ℕ) (b a : Option T) (d : Bool) (ph ph' : Phase T) → q ≢ p → ph ≡ held p b a d → Keeps q ph ph'
  other_keeps q p b a d ph ph' other is = grind (arith, nat_tests)

  abbrev pub Goes : SingleWorld T → Scene T → List (Moment T) → SingleWorld T → Type 0
  Goes w s ms w' = (s' : Scene T) × Run s ms s' × Tied w' s'

  begin_by : (w : SingleWorld T) (s : Scene T) (p : ℕ) (call : Call T) (place : Place T) → Tied w s → w.places p ≡ place
      → Goes w s (begin_moments p call place) (begun w p call place)
  begin_by w s p call Away tied is =
      let c : Progress T = record { call = call; seen = s.sight ∷ []; answer = None } in
      let new : Scene T = record s { calls = with_call s.calls p (Some c) } in
      let look = sight_of tied.shut tied.phase in (
        new,
        grind (arith, nat_tests),
        grind (arith, nat_tests),
      )
  begin_by w s p call (Stands other t) tied is = (s, refl, tied)
  begin_by w s p call (Inside other r) tied is = (s, refl, tied)
  begin_by w s p call (Leaving other r o) tied is = (s, refl, tied)

  -- a step on the word that only looked
  looked_by : (w : SingleWorld T) (s : Scene T) (p : ℕ) (call : Call T) (t next : Turn) → (tied : Tied w s) → w.places p ≡ Stands call t
      → LooksFirst call → (k : Progress T) → s.calls p ≡ Some k → k.call ≡ call
      → ((older : List (Sight T)) × (k.seen ≡ sight_of tied.shut tied.phase ∷ older)) → k.answer ≡ None
      → next ≡ turn_of call Look w.word
      → Goes w s (turn_moments p call w.slot next) (record w { places = with_place w.places p (placed call next) })
  looked_by w s p call t next tied is looking k at of seen none next_is =
      let look = sight_of tied.shut tied.phase in
      let finds : Finds call next look =
      subst (λ (x : Turn). Finds call x look) (grind (arith, nat_tests))
      (looks call tied.shut tied.phase looking) in (
        s,
        grind (arith, nat_tests),
        grind (arith, nat_tests),
      )

  becomes_is : (s : Scene T) (shut : Bool) (ph : Phase T) (q : ClosableQueue T) → s.sight ≡ sight_of shut ph
      → record s.sight { queue = q } ≡ record { queue = q; incoming = None }
  becomes_is s shut ph q is = grind (arith, nat_tests)

  -- a party's call acts, and the slot comes to another phase
  acts_by : (w : SingleWorld T) (s : Scene T) (p : ℕ) (tied : Tied w s) (k : Progress T) (a : Answer T) (word : ℕ) (place : Place T)
      (shut : Bool) (ph : Phase T)
      → s.calls p ≡ Some k → k.answer ≡ None → Acts (sight_of tied.shut tied.phase).queue k.call a (sight_of shut ph).queue
      → word ≡ word_of shut ph → w.slot ≡ content ph → ((q : ℕ) → q ≢ p → Keeps q tied.phase ph)
      → ((look : Sight T) → TiedPlace ph look p place (Some (record k { answer = Some a; seen = look ∷ k.seen })))
      → Goes w s (Does p a ∷ []) (record { word = word; slot = w.slot; places = with_place w.places p place })
  acts_by w s p tied k a word place shut ph at none acts word_is slot_is keep here =
      let look : Sight T = record s.sight { queue = (sight_of shut ph).queue } in
      let look_is : look ≡ sight_of shut ph = becomes_is s tied.shut tied.phase (sight_of shut ph).queue tied.sight in
      let new : Scene T = becomes (answers s p k a) look in (
        new,
        grind (arith, nat_tests),
        record {
          shut = shut;
          phase = ph;
          word = word_is;
          slot = slot_is;
          sight = look_is;
          each = λ q. subst (λ (x : Sight T). TiedPlace ph x q (with_place w.places p place q) (new.calls q)) look_is
              (each_with (λ (q : ℕ) (place : Place T) (c : Option (Progress T)). TiedPlace ph look q place (sees look c)) w.places s.calls
              p place (Some (record k { answer = Some a }))
              (here look)
              (λ q other. tied_sees tied.phase ph (sight_of tied.shut tied.phase) look q (w.places q) (s.calls q) (keep q other)
              (tied.each q)) q);
        },
      )

  hit_by : (w : SingleWorld T) (s : Scene T) (p : ℕ) (call : Call T) (old new : ℕ) (tied : Tied w s) (k : Progress T) → s.calls p ≡ Some k
      → k.call ≡ call → k.answer ≡ None
      → Exchanges call old new → w.word ≡ old
      → Goes w s (turn_moments p call w.slot (turn_of call (Exchange old new) w.word))
      (record { word = new; slot = w.slot; places = with_place w.places p (placed call (turn_of call (Exchange old new) w.word)) })
  hit_by w s p call old new tied k at of none ex is =
      let h = hits call tied.shut tied.phase p old new ex (sym tied.word ∙ is) in
      let before = content tied.phase in
      let ph : Phase T = held p before (stored call before) false in
      let a = answer_of call h.reply before in
      let turn_is : turn_of call (Exchange old new) w.word ≡ Unlock h.reply = ap (turn_of call (Exchange old new)) is ∙ h.turn in
      subst (λ (t : Turn). Goes w s (turn_moments p call w.slot t)
      (record { word = new; slot = w.slot; places = with_place w.places p (placed call t) })) (sym turn_is)
      (subst (λ (o : Option T). Goes w s (Does p (answer_of call h.reply o) ∷ [])
      (record { word = new; slot = w.slot; places = with_place w.places p (Inside call h.reply) })) (sym tied.slot)
      (acts_by w s p tied k a new (Inside call h.reply) tied.shut ph at none
      (grind (arith, nat_tests))
      h.word tied.slot (λ q other. free_keeps q before tied.phase ph h.was_free)
      (λ look. (record k { answer = Some a; seen = look ∷ k.seen }, refl, (before, refl, refl)))))

  same_phase : (q : ℕ) (ph : Phase T) → Keeps q ph ph
  same_phase q ph b a d e = refl

  close_by : (w : SingleWorld T) (s : Scene T) (p : ℕ) (tied : Tied w s) (k : Progress T) → s.calls p ≡ Some k → k.call ≡ Close
      → k.answer ≡ None
      → Goes w s (Does p (WasClosed (nat_lt w.word 4)) ∷ []) (moved w p Close CloseTurn)
  close_by w s p tied k at of none =
      acts_by w s p tied k (WasClosed (nat_lt w.word 4)) (word_after CloseTurn w.word)
      (placed Close (turn_of {T = T} Close CloseTurn w.word)) true tied.phase at none
      (grind (arith, nat_tests))
      (grind (arith, nat_tests)) tied.slot (λ q other. same_phase q tied.phase)
      (λ look. (
        record k { answer = Some (WasClosed (nat_lt w.word 4)); seen = look ∷ k.seen },
        refl,
        of,
        (k.seen, refl),
        grind (arith, nat_tests),
      ))

  -- a call ends, and its party has the slot no more
  ends_by : (w : SingleWorld T) (s : Scene T) (p : ℕ) (tied : Tied w s) (k : Progress T) (a : Answer T) (word : ℕ) (ph : Phase T)
      → s.calls p ≡ Some k → MayEnd k k.answer a
      → word ≡ word_of tied.shut ph → w.slot ≡ content ph → item ph ≡ item tied.phase → ((q : ℕ) → q ≢ p → Keeps q tied.phase ph)
      → Goes w s (Ends p a ∷ []) (record { word = word; slot = w.slot; places = with_place w.places p Away })
  ends_by w s p tied k a word ph at may word_is slot_is item_is keep =
      let new : Scene T = record s { calls = with_call s.calls p None } in
      let same : sight_of tied.shut ph ≡ sight_of tied.shut tied.phase = ap (λ (o : Option T). sight_of tied.shut (free o)) item_is in (
        new,
        grind (arith, nat_tests),
        grind (arith, nat_tests),
      )

  exchange_by : (w : SingleWorld T) (s : Scene T) (p : ℕ) (call : Call T) (old new : ℕ) (tied : Tied w s)
      → w.places p ≡ Stands call (Exchange old new) → (k : Progress T)
      → s.calls p ≡ Some k → k.call ≡ call → ((older : List (Sight T)) × (k.seen ≡ sight_of tied.shut tied.phase ∷ older))
      → LooksFirst call → Exchanges call old new → k.answer ≡ None
      → Goes w s (turn_moments p call w.slot (turn_of call (Exchange old new) w.word)) (moved w p call (Exchange old new))
  exchange_by w s p call old new tied is k at of seen looking ex none = by (w.word == old) refl
    where
      by : (b : Bool) → (w.word == old) ≡ b
          → Goes w s (turn_moments p call w.slot (turn_of call (Exchange old new) w.word)) (moved w p call (Exchange old new))
      by true e = subst
          (λ (n : ℕ). Goes w s (turn_moments p call w.slot (turn_of call (Exchange old new) w.word))
          (record { word = n; slot = w.slot; places = with_place w.places p (placed call (turn_of call (Exchange old new) w.word)) }))
          (grind (arith, nat_tests))
          (hit_by w s p call old new tied k at of none ex (is_party w.word old e))
      by false e =
          subst (λ (n : ℕ). Goes w s (turn_moments p call w.slot (turn_of call (Exchange old new) w.word))
          (record { word = n; slot = w.slot; places = with_place w.places p (placed call (turn_of call (Exchange old new) w.word)) }))
          (grind (arith, nat_tests))
          (looked_by w s p call (Exchange old new) (turn_of call (Exchange old new) w.word) tied is looking k at of seen none
          (misses call old new w.word ex e))

  -- the step in the slot
  inside_by : (w : SingleWorld T) (s : Scene T) (p : ℕ) (call : Call T) (r : Reply) (tied : Tied w s) (k : Progress T) → s.calls p ≡ Some k
      → (before : Option T)
      → k.answer ≡ Some (answer_of call r before) → tied.phase ≡ held p before (stored call before) false
      → Goes w s [] (record { word = w.word; slot = stored call w.slot; places = with_place w.places p (Leaving call r w.slot) })
  inside_by w s p call r tied k at before told is =
      let after = stored call before in
      let ph : Phase T = held p before after true in
      let had : w.slot ≡ before = tied.slot ∙ ap content is in
      let same : sight_of tied.shut tied.phase ≡ sight_of tied.shut ph = ap (sight_of tied.shut) is in (
        s,
        refl,
        record {
          shut = tied.shut;
          phase = ph;
          word = grind (arith, nat_tests);
          slot = ap (stored call) had;
          sight = tied.sight ∙ same;
          each = λ q. grind (arith, nat_tests);
        },
      )

  own_answer : (k : Progress T) (a : Answer T) → k.answer ≡ Some a → MayEnd k k.answer a
  own_answer k a told = grind (arith, nat_tests)

  leaving_by : (w : SingleWorld T) (s : Scene T) (p : ℕ) (call : Call T) (r : Reply) (o : Option T) (tied : Tied w s) (k : Progress T)
      → s.calls p ≡ Some k → (before after : Option T)
      → k.answer ≡ Some (answer_of call r o) → tied.phase ≡ held p before after true
      → Goes w s (Ends p (answer_of call r o) ∷ []) (record { word = w.word - 1; slot = w.slot; places = with_place w.places p Away })
  leaving_by w s p call r o tied k at before after told is =
      ends_by w s p tied k (answer_of call r o) (w.word - 1) (free after) at (own_answer k (answer_of call r o) told)
      (grind (arith, nat_tests))
      (tied.slot ∙ ap content is) (sym (ap item is)) (λ q other. other_keeps q p before after true tied.phase (free after) other is)

  -- a call that stands before a step on the word
  stands_by : (w : SingleWorld T) (s : Scene T) (p : ℕ) (call : Call T) (t : Turn) (tied : Tied w s) → w.places p ≡ Stands call t
      → (k : Progress T) → s.calls p ≡ Some k → k.call ≡ call
      → ((older : List (Sight T)) × (k.seen ≡ sight_of tied.shut tied.phase ∷ older)) → Ready call t k
      → Goes w s (go_moments w p (Stands call t)) (gone w p (Stands call t))
  stands_by w s p call Look tied is k at of seen ready =
      looked_by w s p call Look (turn_of call Look w.word) tied is ready.0 k at of seen ready.1 refl
  stands_by w s p call (Exchange old new) tied is k at of seen ready =
      exchange_by w s p call old new tied is k at of seen ready.0 ready.1 ready.2
  stands_by w s p call (Unlock r) tied is k at of seen ready = absurd ready
  stands_by w s p call (End r) tied is k at of seen ready =
      ends_by w s p tied k (answer_of call r None) w.word tied.phase at ready tied.word tied.slot refl (λ q other. same_phase q tied.phase)
  stands_by w s p call CloseTurn tied is k at of seen ready =
      subst (λ (x : Call T). Goes w s (go_moments w p (Stands x CloseTurn)) (gone w p (Stands x CloseTurn))) (sym ready.0)
      (close_by w s p tied k at (of ∙ ready.0) ready.1)

  go_by : (w : SingleWorld T) (s : Scene T) (p : ℕ) (place : Place T) → Tied w s → w.places p ≡ place
      → Goes w s (go_moments w p place) (gone w p place)
  go_by w s p Away tied is = (s, refl, tied)
  go_by w s p (Stands call t) tied is =
      let k = subst (λ (x : Place T). TiedPlace tied.phase (sight_of tied.shut tied.phase) p x (s.calls p)) is (tied.each p) in
      stands_by w s p call t tied is k.0 k.1 k.2 k.3 k.4
  go_by w s p (Inside call r) tied is =
      let k = subst (λ (x : Place T). TiedPlace tied.phase (sight_of tied.shut tied.phase) p x (s.calls p)) is (tied.each p) in
      inside_by w s p call r tied k.0 k.1 k.2.0 k.2.1 k.2.2
  go_by w s p (Leaving call r o) tied is =
      let k = subst (λ (x : Place T). TiedPlace tied.phase (sight_of tied.shut tied.phase) p x (s.calls p)) is (tied.each p) in
      leaving_by w s p call r o tied k.0 k.1 k.3.0 k.3.1 k.2 k.3.2

  pub step_by : (w : SingleWorld T) (s : Scene T) (step : Step T) → Tied w s → Goes w s (moments w step) (stepped w step)
  step_by w s (Begin p call) tied = grind (arith, nat_tests, begin_by)
  step_by w s (Go p) tied = go_by w s p (w.places p) tied refl

  run_append : (a b c : Scene T) (ms ns : List (Moment T)) → Run a ms b → Run b ns c → Run a (ms ++ ns) c
  run_append a b c [] ns first second = subst (λ (x : Scene T). Run x ns c) first second
  run_append a b c (m ∷ ms) ns first second = (first.0, first.1, run_append first.0 b c ms ns first.2 second)

  pub runs : (steps : List (Step T)) (w : SingleWorld T) (s : Scene T) → Tied w s → Goes w s (trace steps w) (run steps w)
  runs [] w s tied = (s, refl, tied)
  runs (step ∷ steps) w s tied =
      let one = step_by w s step tied in
      let rest = runs steps (stepped w step) one.0 one.2 in
      (rest.0, run_append s one.0 rest.0 (moments w step) (trace steps (stepped w step)) one.1 rest.1, rest.2)

  pub new_tied : Tied new_slot new_scene
  new_tied = record { shut = false; phase = free None; word = refl; slot = refl; sight = refl; each = λ p. refl }

  pub a_slot_is_a_queue : (steps : List (Step T)) → IsClosableQueue steps
  a_slot_is_a_queue steps = let r = runs steps new_slot new_scene new_tied in
      record { last = r.0; is_run = r.1; word = grind (arith, nat_tests) }
