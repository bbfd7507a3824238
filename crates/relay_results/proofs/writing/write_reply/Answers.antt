use Rattle.serde_json.specs.View.{view}
use Rattle.relay_results.proofs.ReadsBack.{text_is, read_is}
use Rattle.relay_results.proofs.writing.write_reply.Goals as goal

pub returns-clause-text : goal.returns-clause-text
returns-clause-text c = text_is (view c.in_ok-value.value) _ c.args.took c.args.items.now c.in_ok-value.ensures c.in_ok-text.ensures.text

pub returns-clause-reads_back : goal.returns-clause-reads_back
returns-clause-reads_back c = read_is (view c.in_ok-value.value) c.in_ok-text.text c.args.took c.args.items.now c.in_ok-value.ensures c.in_ok-text.ensures.reads_back
