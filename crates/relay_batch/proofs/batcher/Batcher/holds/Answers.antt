use Rattle.std.proofs.Common.{◌∙◌, ap}
use Rattle.std.specs.Prelude.{nat_eq}
use Rattle.std.specs.List.{list_any}
use Rattle.relay_batch.specs.Gathering.{Gathering, holds_document}
use Rattle.relay_batch.proofs.Documents.{held_of_set}
use Rattle.relay_batch.proofs.batcher.Batcher.holds.Goals as goal

pub returns : goal.returns
returns c =
    c.contains.ensures ∙ ap (list_any (nat_eq c.args.doc)) c.self.invariant.documents ∙ held_of_set c.args.doc c.self.inside.held.items
    ∙ ap (λ (g : Gathering). holds_document c.args.doc g.items) c.self.view_is
