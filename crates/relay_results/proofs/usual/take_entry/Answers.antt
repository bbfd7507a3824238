use Rattle.std.proofs.Common.{ap, ◌∙◌}
use Rattle.relay_results.specs.Usual.{document_text, applied_text, shards_text}
use Rattle.relay_results.proofs.usual.take_entry.Goals as goal

pub returns-clause-text : goal.returns-clause-text
returns-clause-text c =
    c.in_ok-document.ensures.text ∙ ap (document_text c.in_ok-document.document) (c.in_ok-applied.ensures.text ∙ ap (applied_text c.in_ok-applied.applied) (c.in_ok-shards.ensures.text ∙ ap (shards_text c.in_ok-shards.shards) c.in_ok-place.ensures.text))
