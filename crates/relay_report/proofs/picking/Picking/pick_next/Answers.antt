use Rattle.std.proofs.Common.{refl}
use Rattle.std.specs.BTreeSet.{contains}
use Rattle.std.specs.Ordering.{nat_cmp}
use Rattle.relay_ndjson.specs.Metadata.{bytes_given}
use Rattle.relay_ndjson.specs.Operations.{position}
use Rattle.relay_report.proofs.Picked.{next_fault}
use Rattle.relay_report.proofs.picking.Picking.pick_next.Goals as goal

pub returns-in-Err-clause-next : goal.returns-in-Err-clause-next
returns-in-Err-clause-next g c =
    let old = position (g.R.ByteStream.left c.args.input.now) c.args.self.now.operations.lines.held c.args.self.now.operations.lines.count in
    let new = position (g.R.ByteStream.left c.next.new.reader) c.next.new.self.lines.held c.next.new.self.lines.count in
    rw c.fault_of.ensures (next_fault (contains nat_cmp c.args.numbers.now) c.args.number (bytes_given c.args.default_index) old new c.args.self.now.text.items c.args.self.now.text.items c.in-Err.fault c.in-Err.fault.kind refl c.in-Err.ensures.lines refl)
