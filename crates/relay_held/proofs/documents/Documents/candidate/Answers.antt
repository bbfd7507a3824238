use Rattle.std.proofs.Common.{◌∙◌, ap, Some}
use Rattle.relay_held.specs.Operations.{candidate_of}
use Rattle.relay_results.proofs.Lists.{some_same, none_some}
use Rattle.relay_held.proofs.Shelving.{head_shown}
use Rattle.relay_held.proofs.documents.Documents.candidate.Goals as goal

pub returns : goal.returns
returns c = λ k h is at.
    ap Some (c.candidate_of.ensures ∙ ap candidate_of (some_same c.in_ok-one.one.now h (c.in_ok-one.ensures ∙ head_shown c.self.inside.queues c.self.inside.slots.entries k h c.args.slot c.args.self.now c.self.view_is is at)))

pub returns-in_err-one : goal.returns-in_err-one
returns-in_err-one c = λ k h is at.
    absurd (none_some h (c.in_err-one.ensures ∙ head_shown c.self.inside.queues c.self.inside.slots.entries k h c.args.slot c.args.self.now c.self.view_is is at))
