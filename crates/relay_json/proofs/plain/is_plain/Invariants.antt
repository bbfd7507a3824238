use Rattle.std.proofs.Common.{◌≡◌, take}
use Rattle.std.specs.List.{list_all}
use Rattle.relay_json.specs.Plain.{is_plain_ascii}
use Rattle.relay_json.proofs.plain.is_plain.Given as goal

abbrev pub invariant-loop-byte : goal.invariant-loop-byte
invariant-loop-byte l = l.plain ≡ list_all is_plain_ascii (take l.byte-index l.bytes)
