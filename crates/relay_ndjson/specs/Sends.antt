-- How much of a text is written, and when there is a write fault.
use Rattle.std.specs.Prelude.{◌≡◌, ℕ, ◌<◌, List, ◌++◌, length, take, Option, Result, Ok, Err}
use Rattle.std.specs.Io.KnownBytes.{append_known}
use Rattle.relay_action.specs.Streams.{FailedSince}
use Rattle.relay_action.specs.declared.write.Write.{Write}
use Rattle.relay_ndjson.specs.Bulk.{text_of}
use Rattle.relay_ndjson.specs.declared.bulk.TextFault.{TextFault}
use Rattle.relay_ndjson.specs.declared.bulk.TextFault.TheVariants as fault

-- Ok: the whole text was written. Write: exactly its first bytes, fewer than all. Memory: nothing.
abbrev pub WritesText : {U : Type 0} → Option (List ℕ) → Option (List ℕ) → List ℕ → Result U TextFault → Type 0
WritesText old new text (Ok _) = new ≡ append_known old text
WritesText old new text (Err (fault.Write sent)) = (sent < length text) × (new ≡ append_known old (take sent text))
WritesText old new text (Err fault.Memory) = new ≡ old

-- the lines of the first writes, fewer than all, were appended to a text
abbrev pub AppendsFirst : List ℕ → List ℕ → List Write → Type 0
AppendsFirst before after ws = (count : ℕ) × (count < length ws) × (after ≡ before ++ text_of (take count ws))

-- a write fault is returned only if a call of the stream failed
abbrev pub FailsOnWrite : {U : Type 0} → ℕ → ℕ → Result U TextFault → Type 0
FailsOnWrite old new (Ok _) = new ≡ old
FailsOnWrite old new (Err (fault.Write sent)) = FailedSince old new
FailsOnWrite old new (Err fault.Memory) = new ≡ old
