-- For outputs_are_kept.
-- What holds at every moment of a future whose output is or will be there, and of the awaiter of one that is completed.
use Rattle.std.proofs.Common.{◌≡◌, ◌⊎◌, ◌+◌, ◌<◌, ◌≤◌, true, false, arith}
use Rattle.executor_model.proofs.{OneFuture.Passes.Watched, Counts.SoundViews.Sure, OneFuture.Views.Seen}

-- what is used of that which holds of the future
pub record Footing (x : Seen) : Type 0 where
  pub one : x.pend.waiting + (x.pend.polls + x.pend.ready) ≤ 1
  pub live : 1 ≤ x.pend.waiting + (x.pend.polls + x.pend.ready) → x.state.completed ≡ false
  pub rests : x.state.completed ≡ true → (x.state.scheduled ≡ false) × (x.state.running ≡ false)

pub footing : (x : Seen) → Sure x → Footing x
footing x h = record { one = omega (arith, h.one); live = λ k. h.live (omega (arith, k)); rests = h.rests }

pub record Stored (x : Seen) : Type 0 where
  -- who was ready is completed, or will be
  pub there : 1 ≤ x.readies → (x.state.completed ≡ true) ⊎ (1 ≤ x.pend.ready)
  -- and open, if it wasn't cancelled, given its output away or let its handle go
  pub unclosed : 1 ≤ x.readies + x.pend.polls → x.spent ≡ 0 → x.state.closed ≡ false
  pub held : x.number < x.tasks → x.spent ≡ 0 → x.state.handle ≡ true
  pub taken : 1 ≤ x.extra.detaches → 1 ≤ x.spent
  pub watched : Watched x
