use Rattle.http_server.specs.Connection.{history}
use Rattle.http_server.specs.Exchange.{Calls}
use Rattle.relay_clients.proofs.client.Client.serve.Given as goal

-- the calls so far
abbrev pub invariant-steps : goal.invariant-steps
invariant-steps g l = Calls g.S.Service.answers l.fn.service l.service (history l.fn.self).calls (history l.self).calls
