use Rattle.std.proofs.Common.{ap, ◌∙◌}
use Rattle.relay_sift.specs.Texts.{line_text}
use Rattle.relay_ndjson.proofs.Pieces.{nowhere_unbroken}
use Rattle.relay_sift.proofs.Keeping.{first_fed, first_unbroken}
use Rattle.relay_sift.proofs.lines.first_text.Goals as goal

pub returns-in-Some : goal.returns-in-Some
returns-in-Some c = c.line_text.ensures ∙ ap line_text (first_fed c.args.bytes.now c.in-Some.end c.in-Some.ensures)

pub returns-in-None : goal.returns-in-None
returns-in-None c = c.line_text-in-None.ensures ∙ ap line_text (first_unbroken c.args.bytes.now (nowhere_unbroken c.args.bytes.now c.in-None.ensures))
