use Rattle.std.proofs.Common.{rules}
use Rattle.relay_ndjson.specs.Operations.{position}
use Rattle.relay_ndjson.proofs.Stopping.{line_stops}
use Rattle.relay_ndjson.proofs.lines.Lines.take_source.Goals as goal

pub returns-then-not-found-clause-line : goal.returns-then-not-found-clause-line
returns-then-not-found-clause-line g c = search rules

pub returns-then-not-found-clause-stop : goal.returns-then-not-found-clause-stop
returns-then-not-found-clause-stop g c = search rules

pub returns-in-Err-clause-stop : goal.returns-in-Err-clause-stop
returns-in-Err-clause-stop g c =
    let old = position (g.R.ByteStream.left c.args.reader.now) c.args.self.now.piece c.args.self.now.count in
    let new = position (g.R.ByteStream.left c.take_line.new.reader) c.take_line.new.self.piece c.take_line.new.self.count in
    let taken = rw c.if-not-found.false at c.in_ok-found.ensures.line in
    let kinds = rw c.as_slice.ensures.value at c.in-Err.ensures.err in
    line_stops old new c.take_line.new.self.text.items c.in-Err.kind taken kinds
