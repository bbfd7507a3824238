use Rattle.std.proofs.Common.{◌≡◌, ◌+◌, ◌-◌, ◌≤◌, length}
use Rattle.std.specs.Io.KnownBytes.{prepend_known}
use Rattle.relay_ndjson.specs.Lines.{piece_limit}
use Rattle.relay_scenario.specs.Flows.{fresh_sink, sink}
use Rattle.relay_scenario.specs.Scripts.{Underway, line_count}
use Rattle.relay_scenario.proofs.playing.play_events.Given as goal

-- some events were taken and played, and of their answers some were written and the rest are to be; no call has failed
abbrev pub invariant-events : goal.invariant-events
invariant-events g l =
    let r = g.R.ByteStream in
    let w = g.W.ByteStream in
    record {
      underway : Underway (prepend_known l.fn.lines.held (r.left l.fn.reader)) (prepend_known l.lines.held (r.left l.reader)) l.fn.world l.world l.lines.count (fresh_sink (w.written l.fn.writer)) l.outgoing.text.items (sink (w.written l.writer) l.outgoing.sent);
      within : l.lines.count ≤ line_count;
      held : length l.lines.held ≤ piece_limit;
      reads : r.failed l.reader ≡ r.failed l.fn.reader;
      writes : w.failed l.writer ≡ w.failed l.fn.writer;
    }

abbrev pub decreases-events : goal.decreases-events
decreases-events g l = line_count + 1 - l.lines.count
