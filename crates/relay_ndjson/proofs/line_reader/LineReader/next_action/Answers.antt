use Rattle.std.proofs.Common.{subst}
use Rattle.relay_ndjson.specs.Metadata.{bytes_given}
use Rattle.relay_ndjson.specs.Operations.{position}
use Rattle.relay_ndjson.specs.LineReading.{LineReading}
use Rattle.relay_ndjson.specs.OperationLines.{TakesActionLine}
use Rattle.relay_ndjson.proofs.line_reader.LineReader.next_action.Goals as goal

pub returns-clause-line : goal.returns-clause-line
returns-clause-line g c =
    let left = g.R.ByteStream.left c.args.reader.now in
    let new = position (g.R.ByteStream.left c.take_action.new.reader) c.take_action.new.self.piece c.take_action.new.self.count in
    subst (λ (old : LineReading). TakesActionLine (bytes_given c.args.default_index) (position left old.held old.count) new c.take_action.new.self.text.items c.take_action.new.self.end c.take_action.result) c.self.view_is c.take_action.ensures.line
