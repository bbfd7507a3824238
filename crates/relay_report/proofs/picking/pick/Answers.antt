use Rattle.std.specs.BTreeSet.{contains}
use Rattle.std.specs.Ordering.{nat_cmp}
use Rattle.relay_ndjson.specs.Metadata.{bytes_given}
use Rattle.relay_report.proofs.Picked.{picks_of, reads_of, writes_of}
use Rattle.relay_report.proofs.picking.pick.Goals as goal

pub returns-clause-picks : goal.returns-clause-picks
returns-clause-picks g c =
    let closed = rw c.as_slice.ensures.value at c.close.ensures in
    picks_of c.args.names.now c.args.producer (contains nat_cmp c.in-Ok.numbers) c.last_of-last.result (bytes_given c.args.default_index) _ _ _ _ _ c.pick_to-result.result c.close.result _ _ c.in-Ok.ensures c.last_of-last.ensures c.pick_to-result.ensures.picks closed

pub returns-clause-reads : goal.returns-clause-reads
returns-clause-reads g c =
    let closed = rw c.as_slice.ensures.value at c.close.ensures in reads_of c.pick_to-result.result c.close.result _ _ _ _ _ _ _ c.pick_to-result.ensures.reads closed

pub returns-clause-writes : goal.returns-clause-writes
returns-clause-writes g c =
    let closed = rw c.as_slice.ensures.value at c.close.ensures in writes_of c.pick_to-result.result c.close.result _ _ _ _ _ _ c.pick_to-result.ensures.writes closed
