use Rattle.std.proofs.Common.{◌∙◌}
use Rattle.std.proofs.lemmas.Result.{err_from_is_err_and}
use Rattle.relay_ndjson.specs.Metadata.{bytes_given}
use Rattle.relay_report.proofs.Picked.{stops_at_write, underway_next, underway_moved}
use Rattle.relay_report.proofs.picking.Picking.pick_to.Goals as goal

pub operations-preserved : goal.operations-preserved
operations-preserved g c =
    let next = rw c.if-not-branch.false at c.in_ok-pick_next.ensures.next in
    let u = underway_next _ (bytes_given c.args.default_index) _ _ _ _ _ _ _ _ _ c.operations.taken _ _ c.operations.invariant.taken next in
    record {
      taken = rw c.make_way.ensures.operations (underway_moved _ (bytes_given c.args.default_index) _ _ _ _ _ _ _ _ _ u c.in_ok-make_way.ensures.ok);
      reads = c.in_ok-pick_next.ensures.reads ∙ c.operations.invariant.reads;
      writes = c.in_ok-make_way.ensures.succeeded ∙ c.operations.invariant.writes;
    }

pub returns-in_err-make_way-clause-picks : goal.returns-in_err-make_way-clause-picks
returns-in_err-make_way-clause-picks g c =
    let p = err_from_is_err_and c.from_residual-in_err-make_way.result c.from_residual-in_err-make_way.ensures.1 in
    rw (p.1, p.2) (let next = rw c.if-not-branch.false at c.in_ok-pick_next.ensures.next in
    let u = underway_next _ (bytes_given c.args.default_index) _ _ _ _ _ _ _ _ _ c.operations.taken _ _ c.operations.invariant.taken next in
    rw c.in_err-make_way.ensures.err (stops_at_write _ (bytes_given c.args.default_index) _ _ _ _ _ _ c.make_way.new.self.text.items _ c.args.last _ u c.in_err-make_way.ensures.front))
