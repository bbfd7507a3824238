use Rattle.std.proofs.Common.{◌≡◌, ◌++◌, drop, map}
use Rattle.relay_front.specs.Service.{blank_for}
use Rattle.relay_front.proofs.document.on_one_line.Given as goal

abbrev pub invariant-loop-byte : goal.invariant-loop-byte
invariant-loop-byte l = l.source.items ++ map blank_for (drop l.byte-index l.body) ≡ map blank_for l.body
