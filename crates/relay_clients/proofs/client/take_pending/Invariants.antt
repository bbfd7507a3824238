use Rattle.std.proofs.Common.{◌≡◌, length}
use Rattle.http_server.specs.Connection.{history}
use Rattle.relay_clients.proofs.client.take_pending.Given as goal

-- what is left to send
abbrev pub decreases-pieces : goal.decreases-pieces
decreases-pieces l = length (history l.connection).pending

-- no call is made, and nothing is received
abbrev pub invariant-pieces : goal.invariant-pieces
invariant-pieces l = ((history l.connection).calls ≡ (history l.fn.connection).calls) × ((history l.connection).received ≡ (history l.fn.connection).received)
