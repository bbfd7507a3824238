use Rattle.std.proofs.Common.{refl}
use Rattle.relay_sift.proofs.Keeping.{feeds_end, feeds_next}
use Rattle.relay_sift.proofs.kept.count_feeds.Goals as goal

pub loop-end-preserved : goal.loop-end-preserved
loop-end-preserved c = feeds_next c.args.bytes.now c.loop-end.rest.now _ c.in-Some.end c.loop-end.count c.in-Some.ensures refl c.loop-end.invariant

pub returns : goal.returns
returns c = feeds_end c.args.bytes.now c.loop-end.rest.now c.loop-end.count c.in_default.ensures c.loop-end.invariant.0
