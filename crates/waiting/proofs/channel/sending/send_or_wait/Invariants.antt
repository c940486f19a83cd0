use Rattle.std.proofs.Common.{◌≡◌}
use Rattle.waiting.proofs.channel.sending.send_or_wait.Given as goal

-- the message is the one that was given
abbrev pub invariant-loop : goal.invariant-loop
invariant-loop g l = l.item ≡ l.fn.item
