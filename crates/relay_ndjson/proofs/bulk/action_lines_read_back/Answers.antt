use Rattle.relay_ndjson.proofs.ReadsBack.{read-action_text}
use Rattle.relay_ndjson.proofs.bulk.action_lines_read_back.Goals as goal

pub returns : goal.returns
returns c = read-action_text
