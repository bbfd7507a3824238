use Rattle.std.proofs.Common.{◌∷◌, ◌++◌, [], ap, subst, sym, ◌∙◌, arith}
use Rattle.relay_run.specs.ReportFile.{AreNewHandles}
use Rattle.relay_run.proofs.Savers.{new_handles_push}
use Rattle.relay_run.proofs.report_file.handles_of.Goals as goal

pub lanes-preserved : goal.lanes-preserved
lanes-preserved c =
    let i = c.lanes.invariant in
    let p = c.push_reserved.ensures in
    let h = c.new-handle.result in
    let more = p.items ∙ ap (λ l. l ++ h ∷ []) c.in_ok-reserve.ensures.items in
    record {
      count = omega (arith, i.count, p.len, c.in_ok-reserve.ensures.len);
      new = subst AreNewHandles (sym more) (new_handles_push _ h _ i.new c.new-handle.ensures);
    }
