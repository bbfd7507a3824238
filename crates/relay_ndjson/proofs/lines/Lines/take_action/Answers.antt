use Rattle.std.proofs.lemmas.Result.{err_from_is_err_and}
use Rattle.relay_ndjson.specs.Metadata.{bytes_given}
use Rattle.relay_ndjson.specs.Operations.{position}
use Rattle.relay_ndjson.proofs.Stopping.{action_stops}
use Rattle.relay_ndjson.proofs.Taking.{action_fault}
use Rattle.relay_ndjson.proofs.lines.Lines.take_action.Goals as goal

pub returns-in_err-found-clause-line : goal.returns-in_err-found-clause-line
returns-in_err-found-clause-line g c =
    let p = err_from_is_err_and c.from_residual.result c.from_residual.ensures.1 in
    rw (p.1, p.2) (c.in_err-found.ensures.line (bytes_given c.args.default_index))

pub returns-in-Err-clause-line : goal.returns-in-Err-clause-line
returns-in-Err-clause-line g c =
    let old = position (g.R.ByteStream.left c.args.reader.now) c.args.self.now.piece c.args.self.now.count in
    let new = position (g.R.ByteStream.left c.skip_blank.new.reader) c.skip_blank.new.self.piece c.skip_blank.new.self.count in
    let skipped = rw c.if-not-found.false at c.in_ok-found.ensures.line in
    let kinds = rw c.as_slice-text.ensures.value at c.in-Err.ensures.err in
    action_fault (bytes_given c.args.default_index) old new c.skip_blank.new.self.text.items c.skip_blank.new.self.end c.in-Err.kind skipped kinds

pub returns-in-Err-clause-stop : goal.returns-in-Err-clause-stop
returns-in-Err-clause-stop g c =
    let old = position (g.R.ByteStream.left c.args.reader.now) c.args.self.now.piece c.args.self.now.count in
    let new = position (g.R.ByteStream.left c.skip_blank.new.reader) c.skip_blank.new.self.piece c.skip_blank.new.self.count in
    let skipped = rw c.if-not-found.false at c.in_ok-found.ensures.line in
    let kinds = rw c.as_slice-text.ensures.value at c.in-Err.ensures.err in
    action_stops (bytes_given c.args.default_index) old new c.skip_blank.new.self.text.items c.skip_blank.new.self.end c.in-Err.kind skipped kinds
