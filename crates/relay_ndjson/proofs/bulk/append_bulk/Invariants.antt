use Rattle.std.proofs.Common.{◌≡◌, ◌++◌, take}
use Rattle.relay_ndjson.specs.Bulk.{text_of}
use Rattle.relay_ndjson.proofs.bulk.append_bulk.Given as goal

-- the text before, and the lines of the writes so far
abbrev pub invariant-loop-write : goal.invariant-loop-write
invariant-loop-write l = l.text.items ≡ l.fn.text.items ++ text_of (take l.write-index l.writes)
