use Rattle.std.proofs.lemmas.Result.{err_from_is_err_and}
use Rattle.relay_ndjson.specs.Metadata.{bytes_given}
use Rattle.relay_ndjson.specs.Operations.{position}
use Rattle.relay_ndjson.proofs.Stopping.{source_stops}
use Rattle.relay_ndjson.proofs.Taking.{delete_taken, source_fault, source_taken}
use Rattle.relay_ndjson.proofs.Using.{uses_more}
use Rattle.relay_ndjson.proofs.lines.Lines.take_operation.Goals as goal

pub returns-in_ok-action-in-Index-clause-used : goal.returns-in_ok-action-in-Index-clause-used
returns-in_ok-action-in-Index-clause-used g c = uses_more _ _ _ _ _ _ (rw c.in-Some.is at c.in_ok-kind.ensures.used) c.in_ok-action-in-Index.ensures.used

pub returns-in_err-kind-clause-lines : goal.returns-in_err-kind-clause-lines
returns-in_err-kind-clause-lines g c =
    let p = err_from_is_err_and c.from_residual.result c.from_residual.ensures.1 in
    rw (p.1, p.2) c.in_err-kind.ensures.line

pub returns-in-Delete-clause-lines : goal.returns-in-Delete-clause-lines
returns-in-Delete-clause-lines g c =
    let old = position (g.R.ByteStream.left c.args.reader.now) c.args.self.now.piece c.args.self.now.count in
    let new = position (g.R.ByteStream.left c.take_action.new.reader) c.take_action.new.self.piece c.take_action.new.self.count in
    let asked = rw (c.in-Some.is, c.in-Delete.is) at c.in_ok-kind.ensures.line in
    rw c.delete.ensures (delete_taken (bytes_given c.args.default_index) old new c.take_action.new.self.text.items c.take_action.new.self.end c.in-Some.key asked.0 asked.1)

pub returns-in_ok-action-in-Index-clause-lines : goal.returns-in_ok-action-in-Index-clause-lines
returns-in_ok-action-in-Index-clause-lines g c =
    let old = position (g.R.ByteStream.left c.args.reader.now) c.args.self.now.piece c.args.self.now.count in
    let mid = position (g.R.ByteStream.left c.take_action.new.reader) c.take_action.new.self.piece c.take_action.new.self.count in
    let new = position (g.R.ByteStream.left c.take_source.new.reader) c.take_source.new.self.piece c.take_source.new.self.count in
    let asked = rw (c.in-Some.is, c.in-Index.is) at c.in_ok-kind.ensures.line in
    source_taken (bytes_given c.args.default_index) old mid new c.take_action.new.self.text.items c.take_source.new.self.text.items c.take_action.new.self.end c.take_source.new.self.end c.in-Some.key c.in_ok-action-in-Index.action asked.0 asked.1 c.in_ok-action-in-Index.ensures.line

pub returns-in_err-action-in-Index-clause-lines : goal.returns-in_err-action-in-Index-clause-lines
returns-in_err-action-in-Index-clause-lines g c =
    let p = err_from_is_err_and c.from_residual-in_err-action-in-Index.result c.from_residual-in_err-action-in-Index.ensures.1 in
    let old = position (g.R.ByteStream.left c.args.reader.now) c.args.self.now.piece c.args.self.now.count in
    let mid = position (g.R.ByteStream.left c.take_action.new.reader) c.take_action.new.self.piece c.take_action.new.self.count in
    let new = position (g.R.ByteStream.left c.take_source.new.reader) c.take_source.new.self.piece c.take_source.new.self.count in
    let asked = rw (c.in-Some.is, c.in-Index.is) at c.in_ok-kind.ensures.line in
    rw (p.1, p.2) (source_fault (bytes_given c.args.default_index) old mid new c.take_action.new.self.text.items c.take_source.new.self.text.items c.take_action.new.self.end c.take_source.new.self.end c.in-Some.key c.in_err-action-in-Index.field-0.0 asked.0 asked.1 c.in_err-action-in-Index.ensures.line)

pub returns-in_err-action-in-Index-clause-stop : goal.returns-in_err-action-in-Index-clause-stop
returns-in_err-action-in-Index-clause-stop g c =
    let p = err_from_is_err_and c.from_residual-in_err-action-in-Index.result c.from_residual-in_err-action-in-Index.ensures.1 in
    let old = position (g.R.ByteStream.left c.args.reader.now) c.args.self.now.piece c.args.self.now.count in
    let mid = position (g.R.ByteStream.left c.take_action.new.reader) c.take_action.new.self.piece c.take_action.new.self.count in
    let new = position (g.R.ByteStream.left c.take_source.new.reader) c.take_source.new.self.piece c.take_source.new.self.count in
    let asked = rw (c.in-Some.is, c.in-Index.is) at c.in_ok-kind.ensures.line in
    rw (p.1, p.2) (source_stops (bytes_given c.args.default_index) old mid new c.take_action.new.self.text.items c.take_action.new.self.end c.in-Some.key c.in_err-action-in-Index.field-0.0 asked.0 asked.1 c.in_err-action-in-Index.ensures.stop)
