use Rattle.std.proofs.Common.{ap, refl}
use Rattle.http_server.specs.Connection.{history}
use Rattle.relay_clients.proofs.Chaining.{calls_on, calls_same}
use Rattle.relay_clients.proofs.client.Client.serve.Goals as goal

pub steps-preserved : goal.steps-preserved
steps-preserved g c = calls_on g.S.Service.answers _ _ _ _ _ _ c.steps.invariant c.go_on.ensures

pub returns-in-Wait : goal.returns-in-Wait
returns-in-Wait g c = let h = calls_on g.S.Service.answers _ _ _ _ _ _ c.steps.invariant c.go_on.ensures in calls_same g.S.Service.answers _ _ _ _ _ _ refl (ap (λ x. (history x).calls) c.wait.ensures) h

pub returns-in-Park : goal.returns-in-Park
returns-in-Park g c = calls_on g.S.Service.answers _ _ _ _ _ _ c.steps.invariant c.go_on.ensures

pub returns-in-End : goal.returns-in-End
returns-in-End g c = calls_on g.S.Service.answers _ _ _ _ _ _ c.steps.invariant c.go_on.ensures
