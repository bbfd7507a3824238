use Rattle.std.proofs.Common.{◌∙◌, ◌-◌, ap}
use Rattle.std.specs.Prelude.{option_map}
use Rattle.relay_held.specs.Queues.{Holding, first_due_kept, eligible}
use Rattle.relay_held.proofs.Waiting.{due_is}
use Rattle.relay_held.proofs.held.Held.due_in.Goals as goal

pub returns : goal.returns
returns c =
    c.due_in.ensures ∙ ap (option_map (λ due. due - c.self.inside.waiting.clock)) (due_is c.self.inside.documents c.self.inside.count c.self.inside.waiting c.self.invariant)
    ∙ ap (λ (s : Holding). option_map (λ due. due - s.clock) (first_due_kept (eligible s.list))) c.self.view_is
