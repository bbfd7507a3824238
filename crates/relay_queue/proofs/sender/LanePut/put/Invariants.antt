use Rattle.std.proofs.Common.{◌≡◌}
use Rattle.relay_queue.proofs.sender.LanePut.put.Given as goal

abbrev pub invariant-loop-turn : goal.invariant-loop-turn
invariant-loop-turn g l = (l.self ≡ l.initial.self) × (l.body ≡ l.initial.body)
