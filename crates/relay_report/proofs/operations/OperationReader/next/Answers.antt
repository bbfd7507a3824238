use Rattle.std.proofs.lemmas.Result.{err_from_is_err_and}
use Rattle.relay_ndjson.specs.Metadata.{bytes_given}
use Rattle.relay_ndjson.specs.Operations.{position}
use Rattle.relay_ndjson.proofs.Taking.{source_fault}
use Rattle.relay_report.proofs.Taking.{delete_taken, index_taken}
use Rattle.relay_report.proofs.operations.OperationReader.next.Goals as goal

pub returns-in_err-kind-clause-lines : goal.returns-in_err-kind-clause-lines
returns-in_err-kind-clause-lines g c =
    let p = err_from_is_err_and c.from_residual.result c.from_residual.ensures.1 in
    rw (p.1, p.2) c.in_err-kind.ensures.line

pub returns-in-Delete-clause-lines : goal.returns-in-Delete-clause-lines
returns-in-Delete-clause-lines g c =
    let old = position (g.R.ByteStream.left c.args.reader.now) c.args.self.now.lines.held c.args.self.now.lines.count in
    let new = position (g.R.ByteStream.left c.next_action.new.reader) c.next_action.new.self.held c.next_action.new.self.count in
    let asked = rw (c.in-Some.is, c.in-Delete.is) at c.in_ok-kind.ensures.line in
    let kept = rw c.clear.ensures.items at c.in_ok-keep.ensures.ok in
    rw c.in_ok-keep.ensures.lines (delete_taken (bytes_given c.args.default_index) old new c.next_action.new.self.text c.keep.new.self.taken.items c.next_action.new.self.end c.in-Some._key asked.0 asked.1 kept)

pub returns-in_err-_action-in-Index-clause-lines : goal.returns-in_err-_action-in-Index-clause-lines
returns-in_err-_action-in-Index-clause-lines g c =
    let p = err_from_is_err_and c.from_residual-in_err-_action-in-Index.result c.from_residual-in_err-_action-in-Index.ensures.1 in
    let old = position (g.R.ByteStream.left c.args.reader.now) c.args.self.now.lines.held c.args.self.now.lines.count in
    let mid = position (g.R.ByteStream.left c.next_action.new.reader) c.next_action.new.self.held c.next_action.new.self.count in
    let new = position (g.R.ByteStream.left c.next_source.new.reader) c.next_source.new.self.held c.next_source.new.self.count in
    let asked = rw (c.in-Some.is, c.in-Index.is) at c.in_ok-kind.ensures.line in
    let fault = rw c.in_ok-keep.ensures.lines at c.in_err-_action-in-Index.ensures.line in
    rw (p.1, p.2) (source_fault (bytes_given c.args.default_index) old mid new c.next_action.new.self.text c.next_source.new.self.text c.next_action.new.self.end c.next_source.new.self.end c.in-Some._key c.in_err-_action-in-Index.field-0.0 asked.0 asked.1 fault)

pub returns-clause-lines : goal.returns-clause-lines
returns-clause-lines g c =
    let old = position (g.R.ByteStream.left c.args.reader.now) c.args.self.now.lines.held c.args.self.now.lines.count in
    let mid = position (g.R.ByteStream.left c.next_action.new.reader) c.next_action.new.self.held c.next_action.new.self.count in
    let new = position (g.R.ByteStream.left c.next_source.new.reader) c.next_source.new.self.held c.next_source.new.self.count in
    let asked = rw (c.in-Some.is, c.in-Index.is) at c.in_ok-kind.ensures.line in
    let kept = rw c.clear.ensures.items at c.in_ok-keep.ensures.ok in
    let source = rw c.in_ok-keep.ensures.lines at c.in_ok-_action-in-Index.ensures.line in
    rw c.in_ok-keep-in-Index.ensures.lines (index_taken (bytes_given c.args.default_index) old mid new c.next_action.new.self.text c.next_source.new.self.text c.keep.new.self.taken.items c.keep-in-Index.new.self.taken.items c.next_action.new.self.end c.next_source.new.self.end c.in-Some._key c.in_ok-_action-in-Index._action asked.0 asked.1 kept source c.in_ok-keep-in-Index.ensures.ok)
