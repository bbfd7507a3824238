use Rattle.std.proofs.Common.{◌≡◌, ◌+◌, ◌-◌, vec_len}
use Rattle.std.specs.Io.KnownBytes.{prepend_known}
use Rattle.relay_ndjson.specs.Lines.{IsUnbroken, line_limit}
use Rattle.relay_ndjson.specs.Steps.{IsStart}
use Rattle.relay_ndjson.proofs.lines.Lines.read_line.Given as goal

-- the line so far, what the piece holds and what the stream has left are what was at the front
abbrev pub invariant-pieces : goal.invariant-pieces
invariant-pieces g l =
    let left = g.R.ByteStream.left in
    let failed = g.R.ByteStream.failed in
    record {
      taken : prepend_known l.fn.self.piece (left l.fn.reader) ≡ prepend_known l.self.text.items (prepend_known l.self.piece (left l.reader));
      unbroken : IsUnbroken l.self.text.items;
      start : IsStart l.self.text.items;
      failed : failed l.reader ≡ failed l.fn.reader;
      count : l.self.count ≡ l.fn.self.count;
      used : l.self.used ≡ l.fn.self.used;
    }

abbrev pub decreases-pieces : goal.decreases-pieces
decreases-pieces g l = line_limit + 2 - vec_len l.self.text
