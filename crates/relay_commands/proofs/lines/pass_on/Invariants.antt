use Rattle.std.proofs.Common.{◌≡◌, ◌+◌, ◌-◌}
use Rattle.relay_action.specs.Limits.{last_version}
use Rattle.relay_ndjson.specs.Reading.{reading}
use Rattle.relay_commands.proofs.Passing.{Underway}
use Rattle.relay_commands.proofs.lines.pass_on.Given as goal

-- some operations were taken, and of their text some was written and the rest is to be; no call has failed
abbrev pub invariant-operations : goal.invariant-operations
invariant-operations g l =
    let r = g.R.ByteStream in
    let w = g.W.ByteStream in
    record {
      underway : Underway l.fn.first l.version (reading (r.left l.fn.reader) (r.failed l.fn.reader) l.fn.parser) (reading (r.left l.reader) (r.failed l.reader) l.parser) (w.written l.fn.writer) (w.written l.writer) l.outgoing.text.items l.outgoing.sent;
      reads : r.failed l.reader ≡ r.failed l.fn.reader;
      writes : w.failed l.writer ≡ w.failed l.fn.writer;
    }

abbrev pub decreases-operations : goal.decreases-operations
decreases-operations g l = last_version + 1 - l.version
