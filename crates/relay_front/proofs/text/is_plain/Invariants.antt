use Rattle.std.proofs.Common.{◌≡◌, take}
use Rattle.std.specs.List.{list_all}
use Rattle.relay_ndjson.specs.Escapes.{needs_no_escape}
use Rattle.relay_front.proofs.text.is_plain.Given as goal

abbrev pub invariant-loop-byte : goal.invariant-loop-byte
invariant-loop-byte l = l.plain ≡ list_all needs_no_escape (take l.byte-index l.bytes)
