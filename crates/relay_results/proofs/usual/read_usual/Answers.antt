use Rattle.relay_results.proofs.UsualReplies.{one_more, whole_reply}
use Rattle.relay_results.proofs.usual.read_usual.Goals as goal

pub entries-preserved : goal.entries-preserved
entries-preserved c =
    let entry = c.in_ok-rest-2.ensures.entry in
    one_more c.args.bytes.now c.entries.outcomes.items c.take_outcome.new.outcomes.items c.entries.rest.now c.in-Some.more.now c.in_ok-rest-2.rest.now entry.0
    c.entries.invariant c.in-Some.ensures entry.2 entry.1 entry.3

pub returns-then-is_end : goal.returns-then-is_end
returns-then-is_end c = whole_reply c.args.bytes.now c.entries.outcomes.items c.entries.rest.now c.entries.invariant (c.is_end.ensures c.if-is_end.true)
