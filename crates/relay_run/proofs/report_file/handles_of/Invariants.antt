use Rattle.std.proofs.Common.{◌≡◌, vec_len}
use Rattle.relay_run.specs.ReportFile.{AreNewHandles}
use Rattle.relay_run.proofs.report_file.handles_of.Given as goal

abbrev pub invariant-lanes : goal.invariant-lanes
invariant-lanes l = record { count : vec_len l.handles ≡ l.lane; new : AreNewHandles l.handles.items }
