-- The operations in a report that no input has.
use Rattle.std.specs.Prelude.{ℕ, ◌&&◌, nat_lt, nat_le, List, [], ◌∷◌, Bool, if◌then◌else◌, Option, None, Some, slice_index}
use Rattle.relay_report.specs.declared.names.Named.{Named}

-- this many operations were read from each input, and this is one of them; a producer without an input has none
abbrev pub is_found : List ℕ → Named → Bool
is_found counts name = nat_lt 0 name.number && nat_le name.number (slice_index counts name.producer)

-- the line of the first name that no input has
abbrev pub first_missing : List ℕ → List Named → Option ℕ
first_missing counts [] = None
first_missing counts (name ∷ more) = if is_found counts name then first_missing counts more else Some name.line
