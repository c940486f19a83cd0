-- What changes of a task's state that aren't turns of its own keep: a wake, a release of a waker, both, a cancel, a detach.
use Rattle.std.proofs.Common.{◌≡◌, ℕ, ◌-◌, ◌==◌, ◌&&◌, ◌||◌, not, if◌then◌else◌, Bool, true, false, length, Option, Some, None, slice_get}
use Rattle.std.proofs.Common.{is_some, refl, sym, ap, subst, ◌∙◌, arith}
use Rattle.std.proofs.lemmas.Option.{slice_get_past}
use Rattle.task_moves.specs.AbstractTask as abstract
use Rattle.task_moves.specs.AbstractTask.{AbstractTask, Phase, Idle, Queued, Polling, PollingWoken, Finished}
use Rattle.task_moves.specs.LocalTask.{info_of, info_from, is_queued}
use Rattle.solo_laws.specs.Road.{IsOver, is_forgotten, is_done}
use Rattle.solo_laws.proofs.Following.Due.{clash, both_true}

over_idle : (phase : Phase) → abstract.is_over phase ≡ true → abstract.is_idle phase ≡ false
over_idle Finished is = refl
over_idle Idle is = absurd cc
over_idle Queued is = absurd cc
over_idle Polling is = absurd cc
over_idle PollingWoken is = absurd cc

pub queued_idle : (phase : Phase) → is_queued phase ≡ true → abstract.is_idle phase ≡ false
queued_idle Queued is = refl
queued_idle Finished is = absurd cc
queued_idle Idle is = absurd cc
queued_idle Polling is = absurd cc
queued_idle PollingWoken is = absurd cc

module _ {T A : Type 0} where
  pub none_told : (t : AbstractTask T A) → is_some (info_of t t) ≡ false
  none_told t = ap (λ (o : Option Bool). is_some (info_from o)) (slice_get_past t.infos (length t.infos) (omega arith))

  -- whether a change queues it
  abbrev pub queues : (AbstractTask T A → AbstractTask T A) → AbstractTask T A → Bool
  queues h t = is_some (info_of t (h t))

  -- what is over stays, what is done stays so, and what is queued; one that waits for a wake waited before, and isn't forgotten;
  -- and
  -- one that is queued waited
  pub record IsChange (h : AbstractTask T A → AbstractTask T A) : Type 0 where
    pub over : (t : AbstractTask T A) → IsOver t → h t ≡ t
    pub idle : (t : AbstractTask T A) → abstract.is_idle (h t).phase ≡ true → abstract.is_idle t.phase ≡ true
    pub done : (t : AbstractTask T A) → is_done t ≡ true → is_done (h t) ≡ true
    pub reached : (t : AbstractTask T A) → is_forgotten t ≡ false → is_forgotten (h t) ≡ false
    pub queued : (t : AbstractTask T A) → is_queued t.phase ≡ true → is_queued (h t).phase ≡ true
    pub queues : (t : AbstractTask T A) → queues h t ≡ true
        → (abstract.is_idle t.phase ≡ true) × (is_queued (h t).phase ≡ true)
    -- nobody comes to await it
    pub awaiter : (t : AbstractTask T A) (w : A) → (h t).awaiter ≡ Some w → t.awaiter ≡ Some w
    pub closed : (t : AbstractTask T A) → t.closed ≡ true → (h t).closed ≡ true

  abbrev of : Phase → Bool → AbstractTask T A → AbstractTask T A
  of phase closed t = record t { phase = phase; closed = closed }

  never : {B : Type 0} (t : AbstractTask T A) → is_some (info_of t t) ≡ true → B
  never t is = absurd (clash (none_told t) is)

  pub wakes : IsChange abstract.wake
  wakes = record {
    over = over;
    idle = λ t. idle t.phase t.closed t;
    done = λ t. done t.phase t.closed t;
    reached = λ t. reached t.phase t.closed t;
    queued = λ t. queued t.phase t.closed t;
    queues = λ t. told t.phase t.closed t;
    awaiter = λ t. awaiter t.phase t.closed t;
    closed = λ t. closed t.phase t.closed t;
  }
    where
      over_by : (closed : Bool) (t : AbstractTask T A) → (if closed then t else abstract.wake_open Finished t) ≡ t
      over_by true t = refl
      over_by false t = refl

      over : (t : AbstractTask T A) → IsOver t → abstract.wake t ≡ t
      over t is = ap (λ p. if t.closed then t else abstract.wake_open p t) is.phase ∙ over_by t.closed t

      idle : (phase : Phase) (closed : Bool) (t : AbstractTask T A)
          → abstract.is_idle (abstract.wake (of phase closed t)).phase ≡ true → abstract.is_idle phase ≡ true
      idle phase true t is = is
      idle Idle false t is = refl
      idle Queued false t is = is
      idle Polling false t is = is
      idle PollingWoken false t is = is
      idle Finished false t is = is

      done : (phase : Phase) (closed : Bool) (t : AbstractTask T A) → is_done (of phase closed t) ≡ true
          → is_done (abstract.wake (of phase closed t)) ≡ true
      done phase true t is = is
      done Idle false t is = is
      done Queued false t is = is
      done Polling false t is = is
      done PollingWoken false t is = is
      done Finished false t is = is

      reached : (phase : Phase) (closed : Bool) (t : AbstractTask T A) → is_forgotten (of phase closed t) ≡ false
          → is_forgotten (abstract.wake (of phase closed t)) ≡ false
      reached phase true t is = is
      reached Idle false t is = refl
      reached Queued false t is = is
      reached Polling false t is = is
      reached PollingWoken false t is = is
      reached Finished false t is = is

      queued : (phase : Phase) (closed : Bool) (t : AbstractTask T A) → is_queued phase ≡ true
          → is_queued (abstract.wake (of phase closed t)).phase ≡ true
      queued phase true t is = is
      queued Idle false t is = refl
      queued Queued false t is = is
      queued Polling false t is = is
      queued PollingWoken false t is = is
      queued Finished false t is = is

      closed : (phase : Phase) (closed : Bool) (t : AbstractTask T A) → closed ≡ true
          → (abstract.wake (of phase closed t)).closed ≡ true
      closed phase true t is = refl
      closed phase false t is = absurd cc

      awaiter : (phase : Phase) (closed : Bool) (t : AbstractTask T A) (w : A)
          → (abstract.wake (of phase closed t)).awaiter ≡ Some w → t.awaiter ≡ Some w
      awaiter phase true t w is = is
      awaiter Idle false t w is = is
      awaiter Queued false t w is = is
      awaiter Polling false t w is = is
      awaiter PollingWoken false t w is = is
      awaiter Finished false t w is = is

      told : (phase : Phase) (closed : Bool) (t : AbstractTask T A) → queues abstract.wake (of phase closed t) ≡ true
          → (abstract.is_idle phase ≡ true) × (is_queued (abstract.wake (of phase closed t)).phase ≡ true)
      told phase true t is = never (of phase true t) is
      told Idle false t is = (refl, refl)
      told Queued false t is = never (of Queued false t) is
      told Polling false t is = never (of Polling false t) is
      told PollingWoken false t is = never (of PollingWoken false t) is
      told Finished false t is = never (of Finished false t) is

  -- one that was idle, open and out of reach is closed
  module _ (u : AbstractTask T A) where
    abbrev swept : AbstractTask T A
    swept = abstract.close_forgotten u

    is_idle : is_forgotten u ≡ true → abstract.is_idle u.phase ≡ true
    is_idle is =
        (both_true (abstract.is_idle u.phase) (not u.closed && (not u.handle && (u.wakers == 0))) is).0

    swept_idle : abstract.is_idle swept.phase ≡ true → abstract.is_idle u.phase ≡ true
    swept_idle is = by (is_forgotten u) refl is
      where
        by : (b : Bool) → is_forgotten u ≡ b → abstract.is_idle (if b then abstract.close u else u).phase ≡ true
            → abstract.is_idle u.phase ≡ true
        by true here is = is_idle here
        by false here is = is

    busy : is_forgotten u ≡ false → swept ≡ u
    busy is = ap (λ b. if b then abstract.close u else u) is

    past : abstract.is_idle u.phase ≡ false → is_forgotten u ≡ false
    past is = ap (λ b. b && (not u.closed && (not u.handle && (u.wakers == 0)))) is

    swept_closed : u.closed ≡ true → swept.closed ≡ true
    swept_closed is = by (is_forgotten u)
      where
        by : (b : Bool) → (if b then abstract.close u else u).closed ≡ true
        by true = refl
        by false = is

    pub swept_awaiter : swept.awaiter ≡ u.awaiter
    swept_awaiter = by (is_forgotten u) (abstract.is_idle u.phase)
      where
        by : (b c : Bool) → (if b then record (if c then abstract.queue false u else u) { closed = true } else u).awaiter ≡ u.awaiter
        by true true = refl
        by true false = refl
        by false c = refl

    swept_reached : is_forgotten swept ≡ false
    swept_reached = by (is_forgotten u) refl
      where
        none : (b : Bool) → (b && false) ≡ false
        none true = refl
        none false = refl

        by : (b : Bool) → is_forgotten u ≡ b → is_forgotten (if b then abstract.close u else u) ≡ false
        by true here = none (abstract.is_idle (abstract.close u).phase)
        by false here = here

    swept_queues : (t : AbstractTask T A) → u.infos ≡ t.infos → is_some (info_of t swept) ≡ true
        → (abstract.is_idle u.phase ≡ true) × (is_queued swept.phase ≡ true)
    swept_queues t same is = by (is_forgotten u) refl is
      where
        close_by : (b : Bool) → abstract.is_idle u.phase ≡ b → b ≡ true
            → is_queued (record (if b then abstract.queue false u else u) { closed = true }).phase ≡ true
        close_by true here is = refl
        close_by false here is = absurd cc

        by : (b : Bool) → is_forgotten u ≡ b → is_some (info_of t (if b then abstract.close u else u)) ≡ true
            → (abstract.is_idle u.phase ≡ true) × (is_queued (if b then abstract.close u else u).phase ≡ true)
        by true here is = (is_idle here, close_by (abstract.is_idle u.phase) refl (is_idle here))
        by false here is =
            never t (subst (λ infos. is_some (info_from (slice_get infos (length t.infos))) ≡ true) same is)

  -- a change that closes it where it is out of reach
  sweeps : (g : AbstractTask T A → AbstractTask T A) → ((t : AbstractTask T A) → IsOver t → g t ≡ t)
      → ((t : AbstractTask T A) → (g t).phase ≡ t.phase) → ((t : AbstractTask T A) → (g t).infos ≡ t.infos)
      → ((t : AbstractTask T A) → is_done t ≡ true → is_done (g t) ≡ true) → ((t : AbstractTask T A) → (g t).awaiter ≡ t.awaiter)
      → ((t : AbstractTask T A) → t.closed ≡ true → (g t).closed ≡ true)
      → IsChange (λ t. abstract.close_forgotten (g t))
  sweeps g over phase infos done waits closed = record {
    over = λ t is. ap (λ u. abstract.close_forgotten u) (over t is) ∙ busy t (past t (ap (λ p. abstract.is_idle p) is.phase));
    idle = λ t is. subst (λ p. abstract.is_idle p ≡ true) (phase t) (swept_idle (g t) is);
    done = λ t is.
        subst (λ u. is_done u ≡ true)
        (sym (busy (g t) (past (g t) (ap (λ p. abstract.is_idle p) (phase t)
        ∙ over_idle t.phase (both_true (abstract.is_over t.phase) (t.closed || is_some t.output) is).0))))
        (done t is);
    reached = λ t is. swept_reached (g t);
    queued = λ t is.
        subst (λ u. is_queued u.phase ≡ true)
        (sym (busy (g t) (past (g t) (ap (λ p. abstract.is_idle p) (phase t) ∙ queued_idle t.phase is))))
        (subst (λ p. is_queued p ≡ true) (sym (phase t)) is);
    queues = λ t is.
        let two = swept_queues (g t) t (infos t) is in
        (subst (λ p. abstract.is_idle p ≡ true) (phase t) two.0, two.1);
    awaiter = λ t w is. sym (waits t) ∙ (sym (swept_awaiter (g t)) ∙ is);
    closed = λ t is. swept_closed (g t) (closed t is);
  }

  pub releases : IsChange abstract.release
  releases = sweeps (λ t. record t { wakers = t.wakers - 1 })
      (λ t is. ap (λ n. record t { wakers = n }) (less t.wakers is.wakers))
      (λ t. refl) (λ t. refl) (λ t is. is) (λ t. refl) (λ t is. is)
    where
      less : (n : ℕ) → n ≡ 0 → n - 1 ≡ n
      less n is = omega (arith, is)

  pub detaches : IsChange (λ t. (abstract.detach t).task)
  detaches = sweeps (λ t. record t { handle = false; closed = t.closed || is_some t.output; output = None }) over
      (λ t. refl) (λ t. refl) done (λ t. refl) (λ t is. ap (λ b. b || is_some t.output) is)
    where
      over : (t : AbstractTask T A) → IsOver t
          → record t { handle = false; closed = t.closed || is_some t.output; output = None } ≡ t
      over t is =
          ap (λ b. record t { handle = false; closed = b || is_some t.output; output = None }) is.closed
          ∙ (ap (λ b. record t { handle = b; closed = true; output = None }) (sym is.handle)
          ∙ (ap (λ b. record t { closed = b; output = None }) (sym is.closed)
          ∙ ap (λ o. record t { output = o }) (sym is.output)))

      none : (b : Bool) → (b || false) ≡ b
      none true = refl
      none false = refl

      done : (t : AbstractTask T A) → is_done t ≡ true
          → is_done (record t { handle = false; closed = t.closed || is_some t.output; output = None }) ≡ true
      done t is = ap (λ b. abstract.is_over t.phase && b) (none (t.closed || is_some t.output)) ∙ is

  -- one after the other: where the first queues it the second doesn't
  pub uses : IsChange (λ t. abstract.release (abstract.wake t))
  uses = record {
    over = λ t is. ap (λ u. abstract.release u) (wakes.over t is) ∙ releases.over t is;
    idle = λ t is. wakes.idle t (releases.idle (abstract.wake t) is);
    done = λ t is. releases.done (abstract.wake t) (wakes.done t is);
    reached = λ t is. releases.reached (abstract.wake t) (wakes.reached t is);
    queued = λ t is. releases.queued (abstract.wake t) (wakes.queued t is);
    queues = λ t. told t.phase t.closed t;
    awaiter = λ t w is. wakes.awaiter t w (releases.awaiter (abstract.wake t) w is);
    closed = λ t is. releases.closed (abstract.wake t) (wakes.closed t is);
  }
    where
      told : (phase : Phase) (closed : Bool) (t : AbstractTask T A)
          → queues (λ t. abstract.release (abstract.wake t)) (of phase closed t) ≡ true
          → (abstract.is_idle phase ≡ true) × (is_queued (abstract.release (abstract.wake (of phase closed t))).phase ≡ true)
      told phase true t is = releases.queues (of phase true t) is
      told Idle false t is = (refl, releases.queued (abstract.wake (of Idle false t)) refl)
      told Queued false t is = releases.queues (of Queued false t) is
      told Polling false t is = releases.queues (of PollingWoken false t) is
      told PollingWoken false t is = releases.queues (of PollingWoken false t) is
      told Finished false t is = releases.queues (of Finished false t) is

  abbrev cancelled : AbstractTask T A → AbstractTask T A
  cancelled t = (abstract.cancel t).task

  pub cancels : IsChange (λ t. (abstract.cancel t).task)
  cancels = record {
    over = over;
    idle = λ t. idle t.phase t.closed t;
    done = λ t. done t.phase t.closed t;
    reached = λ t. reached t.phase t.closed t;
    queued = λ t. queued t.phase t.closed t;
    queues = λ t. told t.phase t.closed t;
    awaiter = λ t. awaiter t.phase t.closed t;
    closed = λ t. closed t.phase t.closed t;
  }
    where
      over_by : (closed : Bool) (t : AbstractTask T A) → cancelled (of Finished closed t) ≡ of Finished closed t
      over_by true t = refl
      over_by false t = refl

      over : (t : AbstractTask T A) → IsOver t → cancelled t ≡ t
      over t is =
          let same : t ≡ of Finished t.closed t = ap (λ p. of p t.closed t) is.phase in
          ap cancelled same ∙ (over_by t.closed t ∙ sym same)

      idle : (phase : Phase) (closed : Bool) (t : AbstractTask T A) → abstract.is_idle (cancelled (of phase closed t)).phase
          ≡ true → abstract.is_idle phase ≡ true
      idle phase true t is = is
      idle Idle false t is = refl
      idle Queued false t is = is
      idle Polling false t is = is
      idle PollingWoken false t is = is
      idle Finished false t is = is

      done : (phase : Phase) (closed : Bool) (t : AbstractTask T A) → is_done (of phase closed t) ≡ true
          → is_done (cancelled (of phase closed t)) ≡ true
      done phase true t is = is
      done Idle false t is = is
      done Queued false t is = is
      done Polling false t is = is
      done PollingWoken false t is = is
      done Finished false t is = is

      reached : (phase : Phase) (closed : Bool) (t : AbstractTask T A) → is_forgotten (of phase closed t) ≡ false
          → is_forgotten (cancelled (of phase closed t)) ≡ false
      reached phase true t is = is
      reached Idle false t is = refl
      reached Queued false t is = refl
      reached Polling false t is = refl
      reached PollingWoken false t is = refl
      reached Finished false t is = is

      queued : (phase : Phase) (closed : Bool) (t : AbstractTask T A) → is_queued phase ≡ true
          → is_queued (cancelled (of phase closed t)).phase ≡ true
      queued phase true t is = is
      queued Idle false t is = refl
      queued Queued false t is = is
      queued Polling false t is = is
      queued PollingWoken false t is = is
      queued Finished false t is = is

      closed : (phase : Phase) (closed : Bool) (t : AbstractTask T A) → closed ≡ true
          → (cancelled (of phase closed t)).closed ≡ true
      closed phase true t is = refl
      closed phase false t is = absurd cc

      awaiter : (phase : Phase) (closed : Bool) (t : AbstractTask T A) (w : A)
          → (cancelled (of phase closed t)).awaiter ≡ Some w → t.awaiter ≡ Some w
      awaiter phase true t w is = is
      awaiter Idle false t w is = absurd cc
      awaiter Queued false t w is = absurd cc
      awaiter Polling false t w is = absurd cc
      awaiter PollingWoken false t w is = absurd cc
      awaiter Finished false t w is = is

      told : (phase : Phase) (closed : Bool) (t : AbstractTask T A) → queues cancelled (of phase closed t) ≡ true
          → (abstract.is_idle phase ≡ true) × (is_queued (cancelled (of phase closed t)).phase ≡ true)
      told phase true t is = never (of phase true t) is
      told Idle false t is = (refl, refl)
      told Queued false t is = never (of Queued false t) is
      told Polling false t is = never (of Polling false t) is
      told PollingWoken false t is = never (of PollingWoken false t) is
      told Finished false t is = never (of Finished false t) is
