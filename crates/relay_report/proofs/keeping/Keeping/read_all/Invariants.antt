use Rattle.std.specs.Vec.Iter.{into_iter_items}
use Rattle.relay_ndjson.specs.Metadata.{bytes_given}
use Rattle.relay_report.proofs.Inputs.{AllSoFar}
use Rattle.relay_report.proofs.keeping.Keeping.read_all.Given as goal

abbrev pub invariant-inputs : goal.invariant-inputs
invariant-inputs g l =
    let s = g.S.ByteStream in
    AllSoFar s.left s.failed (bytes_given l.fn.default_index) l.fn.names l.fn.inputs.items (into_iter_items l.input-iterator) l.ends.items l.self.marks l.self.found.items
