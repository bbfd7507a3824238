use Rattle.std.proofs.Common.{◌≡◌}
use Rattle.std.specs.BTreeSet.{contains}
use Rattle.std.specs.Ordering.{nat_cmp}
use Rattle.std.specs.Io.KnownBytes.{prepend_known}
use Rattle.relay_ndjson.specs.Metadata.{bytes_given}
use Rattle.relay_report.proofs.Picked.{Underway}
use Rattle.relay_report.proofs.picking.Picking.pick_to.Given as goal

-- some operations were taken, and of their text some was written and the rest is to be; no call has failed
abbrev pub invariant-operations : goal.invariant-operations
invariant-operations g l =
    let r = g.R.ByteStream in
    let w = g.W.ByteStream in
    record {
      taken : Underway (contains nat_cmp l.fn.numbers) (bytes_given l.fn.default_index) (r.left l.fn.input) (prepend_known l.self.operations.lines.held (r.left l.input)) (w.written l.fn.writer) (w.written l.writer) l.self.text.items l.taken l.self.operations.lines.count;
      reads : r.failed l.input ≡ r.failed l.fn.input;
      writes : w.failed l.writer ≡ w.failed l.fn.writer;
    }
