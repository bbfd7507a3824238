use Rattle.std.proofs.Common.{◌∙◌, ap}
use Rattle.relay_held.specs.Queues.{Holding, first_of}
use Rattle.relay_held.proofs.Holding.{first_here}
use Rattle.relay_held.proofs.held.Held.first.Goals as goal

pub returns-clause-first : goal.returns-clause-first
returns-clause-first c =
    c.first.ensures ∙ first_here c.self.inside.documents.queues c.self.inside.count c.args.key.now c.self.invariant.holding
    ∙ ap (λ (s : Holding). first_of c.args.key.now s.list) c.self.view_is
