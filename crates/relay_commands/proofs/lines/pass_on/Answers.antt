use Rattle.std.proofs.Common.{refl, ◌∙◌}
use Rattle.std.proofs.lemmas.Result.{err_from_is_err_and}
use Rattle.relay_commands.proofs.Passing.{underway_none, underway_moved, underway_more, stops_inside, stops_at_end, stops_at_fault}
use Rattle.relay_commands.proofs.lines.pass_on.Goals as goal

pub operations-init : goal.operations-init
operations-init g c = record {
  underway = underway_none c.args.first _ _ _ _ c.requires.first c.requires.open c.requires.held c.requires.text c.requires.sent;
  reads = refl;
  writes = refl;
}

pub returns-in-Err-clause-lines : goal.returns-in-Err-clause-lines
returns-in-Err-clause-lines g c =
    stops_inside c.args.first c.operations.version _ _ _ c.operations.parser _ _ _ _ _ _ _ c.in-Err.sent c.operations.invariant.underway c.in-Err.ensures.err c.operations.invariant.reads

pub operations-preserved : goal.operations-preserved
operations-preserved g c =
    let next = rw c.in-Added.is at c.in_ok-add_next.ensures.next in
    let moved = underway_moved c.args.first c.operations.version _ _ _ _ _ _ _ _ _ c.operations.invariant.underway c.in_default.ensures.ok in record {
      underway = underway_more c.args.first c.operations.version _ _ _ _ _ _ _ _ _ next.0 moved next.1 c.in_ok-add_next.ensures.held next.2 c.in_ok-add_next.ensures.sent;
      reads = c.in_ok-add_next.ensures.failed ∙ c.operations.invariant.reads;
      writes = c.in_default.ensures.succeeded ∙ c.operations.invariant.writes;
    }

pub returns-in-Ended-clause-lines : goal.returns-in-Ended-clause-lines
returns-in-Ended-clause-lines g c =
    let next = rw c.in-Ended.is at c.in_ok-add_next.ensures.next in
    let moved = underway_moved c.args.first c.operations.version _ _ _ _ _ _ _ _ _ c.operations.invariant.underway c.in_default.ensures.ok in
    stops_at_end c.args.first c.operations.version _ _ _ _ c.add_next.new.parser _ _ _ _ _ _ moved next.0 c.in_ok-add_next.ensures.held next.1 c.in_ok-add_next.ensures.sent

pub returns-in_err-add_next-clause-lines : goal.returns-in_err-add_next-clause-lines
returns-in_err-add_next-clause-lines g c =
    let p = err_from_is_err_and c.from_residual.result c.from_residual.ensures.1 in
    let next = c.in_err-add_next.ensures.next in
    let moved = underway_moved c.args.first c.operations.version _ _ _ _ _ _ _ _ _ c.operations.invariant.underway c.in_default.ensures.ok in
    rw (p.1, p.2) (stops_at_fault c.args.first c.operations.version _ _ _ _ c.add_next.new.parser _ _ _ _ _ _ c.in_err-add_next.field-0.0 moved next.0 c.in_err-add_next.ensures.held next.1 c.in_err-add_next.ensures.sent)

pub returns-in-Err-clause-calls : goal.returns-in-Err-clause-calls
returns-in-Err-clause-calls g c = (c.operations.invariant.reads, rw c.operations.invariant.writes at c.in-Err.ensures.failed)
