use Rattle.std.proofs.Common.{◌≡◌, ◌+◌}
use Rattle.std.specs.Io.KnownBytes.{prepend_known}
use Rattle.relay_ndjson.specs.Lines.{TakesBlank}
use Rattle.relay_ndjson.specs.Operations.{UsesBytes, saturating_count}
use Rattle.relay_ndjson.proofs.lines.Lines.skip_blank.Given as goal

-- this many blank lines were taken
abbrev pub invariant-loop-blank : goal.invariant-loop-blank
invariant-loop-blank g l =
    let left = g.R.ByteStream.left in
    let failed = g.R.ByteStream.failed in
    record {
      blank : TakesBlank l.blank (prepend_known l.fn.self.piece (left l.fn.reader)) (prepend_known l.self.piece (left l.reader));
      count : l.self.count ≡ saturating_count (l.fn.self.count + l.blank);
      used : UsesBytes l.fn.self.used l.self.used (prepend_known l.fn.self.piece (left l.fn.reader)) (prepend_known l.self.piece (left l.reader));
      failed : failed l.reader ≡ failed l.fn.reader;
    }
