use Rattle.std.proofs.Common.{◌≡◌, length, min}
use Rattle.relay_action.specs.Streams.{most}
use Rattle.relay_ndjson.specs.Metadata.{bytes_given}
use Rattle.relay_front.specs.Operations.{HasRead}
use Rattle.relay_front.proofs.lines.read_operations.Given as goal

-- what was read so far, and how many lines that was
abbrev pub invariant-parts : goal.invariant-parts
invariant-parts g l = record {
  read : HasRead (bytes_given l.default) l.body l.rest l.operations.items.items l.operations.writes.items;
  counted : l.lines ≡ min (length read.lines) most;
}

abbrev pub decreases-parts : goal.decreases-parts
decreases-parts g l = length l.rest
