use Rattle.std.proofs.Common.{ap, sym}
use Rattle.relay_run.specs.Faults.{file_fault_line}
use Rattle.relay_run.proofs.Texts.{ended_line, begins_on}
use Rattle.relay_run.proofs.faults.append_file_fault.Goals as goal

pub returns-in_ok-extend_from_slice-in-Open : goal.returns-in_ok-extend_from_slice-in-Open
returns-in_ok-extend_from_slice-in-Open c = record {
  ok =
      ended_line _ _ _ _ _ _ _ _ c.extend_from_slice-in-Open.ensures.items c.in_ok-extend_from_slice-in-Open.ensures.items c.as_bytes.ensures.value
      (ap (file_fault_line c.args.file.now) (sym c.in-Open.is));
  front = begins_on _ _ _ _ _ _ c.extend_from_slice-in-Open.ensures.items c.in_ok-extend_from_slice-in-Open.ensures.items;
}
