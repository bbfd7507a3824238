use Rattle.std.proofs.Common.{rules}
use Rattle.relay_results.proofs.UsualReplies.{first_read}
use Rattle.relay_results.proofs.usual.take_first.Goals as goal

pub returns : goal.returns
returns c =
    first_read c.take_outcome.result c.args.bytes.now c.in_ok-rest.field-0-0 c.args.outcomes.now.items c.take_outcome.new.outcomes.items c.in_ok-rest.rest.now
    (search rules) c.in_ok-rest.ensures c.requires c.take_outcome.ensures.entry
