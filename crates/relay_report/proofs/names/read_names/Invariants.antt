use Rattle.std.proofs.Common.{◌≡◌, ◌-◌, ◌^◌, length, vec_len}
use Rattle.std.specs.Io.KnownBytes.{prepend_known}
use Rattle.relay_ndjson.specs.Operations.{saturating_count}
use Rattle.relay_report.specs.Names.{TakesNames}
use Rattle.relay_report.proofs.names.read_names.Given as goal

-- each line so far names an operation
abbrev pub invariant-lines : goal.invariant-lines
invariant-lines g l =
    let r = g.R.ByteStream in
    record {
      taken : TakesNames (r.left l.fn.report) (prepend_known l.lines.held (r.left l.report)) 0 l.names.items;
      count : l.lines.count ≡ saturating_count (length l.names.items);
      failed : r.failed l.report ≡ r.failed l.fn.report;
    }

abbrev pub decreases-lines : goal.decreases-lines
decreases-lines g l = 2 ^ 64 - vec_len l.names
