use Rattle.relay_ndjson.proofs.Parts.{length_of_action_text}
use Rattle.std.proofs.Common.{arith}
use Rattle.relay_ndjson.proofs.length.action_len.Goals as goal

pub returns-clause-value : goal.returns-clause-value
returns-clause-value c = grind (arith, length_of_action_text)
