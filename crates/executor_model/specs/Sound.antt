-- What holds of each future at every moment, and the numbers that it is said by.
use Rattle.std.specs.Prelude.{◌≡◌, ◌≢◌, ◌⊎◌, ℕ, ◌+◌, ◌^◌, ◌≤◌, ◌==◌, true, false}
use Rattle.std.specs.Prelude.{Option, Some, None, List, [], ◌∷◌, length, cond}
use Rattle.executor_model.specs.declared.event.Answer.{Answer}
use Rattle.executor_model.specs.declared.event.Answer.TheVariants.{Pending, Ready}
use Rattle.executor_model.specs.declared.event.Event.{Event}
use Rattle.executor_model.specs.declared.event.Event.TheVariants.{PollBegun, Answered, Dropped}
use Rattle.executor_model.specs.declared.op.Awaiter.{Awaiter}
use Rattle.executor_model.specs.declared.op.Op.{Op}
use Rattle.executor_model.specs.declared.op.Sleeping.{Sleeping}
use Rattle.executor_model.specs.Trace.{Trace}
use Rattle.executor_model.specs.World.{World, queued_in, task}
use Rattle.executor_model.specs.Weights.{same, weigh, weigh_all, weigh_sleepers, wakes}
use Rattle.executor_model.specs.Rows.{waiting_of, polls_of, ending_of, ready_of, closing_of, settling_of, giving_of}
use Rattle.executor_model.specs.Rows.{drops_of, releases_of, copies_of, borrowing_of, ousting_of}

-- how often g stands in the list
abbrev pub times : ℕ → List ℕ → ℕ
times g [] = 0
times g (f ∷ fs) = same g f + times g fs

abbrev pub times_in : ℕ → List (List ℕ) → ℕ
times_in g [] = 0
times_in g (q ∷ qs) = times g q + times_in g qs

-- how many Runnables of g stand in the executor's queues and the runs' own together
abbrev pub queued : World → ℕ → ℕ
queued w g = times g (queued_in w) + times_in g w.own

-- how many of these kept wakers wake g
abbrev pub wakers_of : ℕ → List (Option ℕ) → ℕ
wakers_of g [] = 0
wakers_of g (None ∷ ws) = wakers_of g ws
wakers_of g (Some f ∷ ws) = same g f + wakers_of g ws

-- how many of these stored awaiters are wakers of g's task
abbrev pub awaiters_of : ℕ → List (Option Awaiter) → ℕ
awaiters_of g [] = 0
awaiters_of g (None ∷ rest) = awaiters_of g rest
awaiters_of g (Some a ∷ rest) = wakes g a.waker + awaiters_of g rest

-- how many of the sleepers' wakers are of g's task
abbrev pub sleepers_of : ℕ → List (ℕ × Sleeping) → ℕ
sleepers_of g es = weigh_sleepers (wakes g) es

-- what the parties have still to do with g
pub record Pend : Type 0 where
  pub waiting : ℕ
  pub polls : ℕ
  pub ending : ℕ
  pub ready : ℕ
  pub closing : ℕ
  pub settling : ℕ
  pub giving : ℕ
  pub drops : ℕ
  pub releases : ℕ
  pub copies : ℕ
  pub borrowing : ℕ
  pub ousting : ℕ

abbrev pub with_ops : ℕ → List Op → Pend → Pend
with_ops g os r = record {
  waiting = weigh (waiting_of g) os + r.waiting;
  polls = weigh (polls_of g) os + r.polls;
  ending = weigh (ending_of g) os + r.ending;
  ready = weigh (ready_of g) os + r.ready;
  closing = weigh (closing_of g) os + r.closing;
  settling = weigh (settling_of g) os + r.settling;
  giving = weigh (giving_of g) os + r.giving;
  drops = weigh (drops_of g) os + r.drops;
  releases = weigh (releases_of g) os + r.releases;
  copies = weigh (copies_of g) os + r.copies;
  borrowing = weigh borrowing_of os + r.borrowing;
  ousting = weigh ousting_of os + r.ousting;
}

abbrev pub pend : ℕ → List (List Op) → Pend
pend g ss = record {
  waiting = weigh_all (waiting_of g) ss;
  polls = weigh_all (polls_of g) ss;
  ending = weigh_all (ending_of g) ss;
  ready = weigh_all (ready_of g) ss;
  closing = weigh_all (closing_of g) ss;
  settling = weigh_all (settling_of g) ss;
  giving = weigh_all (giving_of g) ss;
  drops = weigh_all (drops_of g) ss;
  releases = weigh_all (releases_of g) ss;
  copies = weigh_all (copies_of g) ss;
  borrowing = weigh_all borrowing_of ss;
  ousting = weigh_all ousting_of ss;
}

-- where a future stands in its trace
pub data Phase : Type 0 where
  Fresh : Phase
  Polling : Phase
  Over : Phase
  Broken : Phase

abbrev pub after_begun : Phase → Phase
after_begun Fresh = Polling
after_begun Polling = Broken
after_begun Over = Broken
after_begun Broken = Broken

abbrev pub after_answered : Answer → Phase → Phase
after_answered Ready Polling = Over
after_answered Pending Polling = Fresh
after_answered a Fresh = Broken
after_answered a Over = Broken
after_answered a Broken = Broken

abbrev pub after_dropped : Phase → Phase
after_dropped Fresh = Over
after_dropped Polling = Broken
after_dropped Over = Over
after_dropped Broken = Broken

-- what an event does to g's phase
abbrev pub passes : ℕ → Event → Phase → Phase
passes g (PollBegun p f) s = cond (g == f) (after_begun s) s
passes g (Answered p f a) s = cond (g == f) (after_answered a s) s
passes g (Dropped p f) s = cond (g == f) (after_dropped s) s
passes g _ s = s

abbrev pub phase_from : ℕ → Phase → Trace → Phase
phase_from g s [] = s
phase_from g s (e ∷ es) = phase_from g (passes g e s) es

abbrev pub phase : ℕ → Trace → Phase
phase g es = phase_from g Fresh es

-- Runnables, runs and closing calls of g
abbrev pub tokens : World → ℕ → Pend → ℕ
tokens w g p =
    queued w g +
    (p.waiting + (p.polls + (p.ending + (p.ready + (p.closing + (p.settling + p.giving))))))

-- the wakers of g's task in the table
abbrev pub tabled : World → ℕ → ℕ
tabled w g = cond w.is_static 0 (times g w.table)

-- living wakers of g's task
abbrev pub living : World → ℕ → Pend → ℕ
living w g p =
    tabled w g + (times g w.leaving + (times g w.waking +
    (wakers_of g w.wakers + (awaiters_of g w.awaiters + (sleepers_of g w.sleepers.wakers +
    (p.releases + p.copies))))))

-- what holds of future g
pub record Sound (w : World) (g : ℕ) (p : Pend) : Type 0 where
  pub counted : (task w g).references ≡ tokens w g p + living w g p
  pub one : tokens w g p ≤ 1
  pub few : living w g p ≤ 2 ^ 40
  pub busy : 1 ≤ tokens w g p →
      ((task w g).scheduled ≡ true)
      ⊎ (((task w g).running ≡ true) ⊎ (((task w g).closed ≡ true) ⊎ ((task w g).completed ≡ true)))
  pub live : 1 ≤ queued w g + (p.waiting + (p.polls + (p.ending + p.ready))) → (task w g).completed ≡ false
  pub ends : 1 ≤ p.closing + (p.settling + p.giving) → ((task w g).closed ≡ true) ⊎ ((task w g).completed ≡ true)
  pub drop : 1 ≤ p.drops → ((task w g).closed ≡ true) ⊎ (((task w g).completed ≡ true) ⊎ (1 ≤ p.ready))
  pub calm : 1 ≤ p.drops → p.polls ≡ 0
  pub lawful : phase g w.trace ≢ Broken
  pub polling : 1 ≤ p.polls → phase g w.trace ≡ Polling
  pub resting : p.polls ≡ 0 → phase g w.trace ≢ Polling
  pub over : phase g w.trace ≡ Over →
      ((task w g).closed ≡ true) ⊎ (((task w g).completed ≡ true) ⊎ ((1 ≤ p.ready) ⊎ (w.gone ≡ true)))
  pub given : 1 ≤ p.giving → ((task w g).scheduled ≡ false) × ((task w g).running ≡ false)
  pub owed : (task w g).scheduled ≡ true → 1 ≤ tokens w g p
  pub going : (task w g).running ≡ true → 1 ≤ p.polls + (p.ending + (p.ready + p.closing))
  pub carries : 1 ≤ queued w g + p.waiting → (task w g).scheduled ≡ true
  pub rests : (task w g).completed ≡ true → ((task w g).scheduled ≡ false) × ((task w g).running ≡ false)
  pub lent : w.gone ≡ true → p.borrowing ≡ 0
  pub unpolled : w.gone ≡ true → p.polls ≡ 0
  pub ousted : 1 ≤ p.ousting + times g w.leaving → w.gone ≡ true
  pub owned : w.gone ≡ true → w.is_static ≡ false
  pub entered : length w.tasks ≤ g → times g w.table + times g w.leaving ≡ 0
