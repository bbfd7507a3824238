use Rattle.std.proofs.Common.{◌∙◌, sym, ap}
use Rattle.std.specs.Prelude.{slice_get, option_copied}
use Rattle.relay_held.proofs.Shelving.{queue_shown}
use Rattle.relay_held.proofs.documents.Documents.first.Goals as goal

pub returns : goal.returns
returns c =
    c.head_in.ensures ∙ ap (λ q. slice_get q 0) (sym (queue_shown c.self.inside.queues c.self.inside.slots.entries c.args.key.now c.in_ok-slot.slot c.args.self.now c.self.view_is c.in_ok-slot.ensures.found))

pub returns-in_err-slot : goal.returns-in_err-slot
returns-in_err-slot c = ap option_copied c.from_residual.ensures ∙ ap (λ q. slice_get q 0) (sym c.in_err-slot.ensures.none)
