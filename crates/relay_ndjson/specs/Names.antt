-- The names of an object's members (RFC 8259, section 4).
use Rattle.std.specs.Prelude.{ℕ, Bool, true, ◌&&◌, List, unwrap_or}
use Rattle.serde_json.specs.Data.{Data, Members, member, no_members}
use Rattle.serde_json.specs.Find.{as_object}

abbrev pub all_names : (List ℕ → Bool) → Members → Bool
all_names known no_members = true
all_names known (member name d ms) = known name && all_names known ms

-- each member has such a name; this holds of a value that is not an object
abbrev pub has_only : (List ℕ → Bool) → Data → Bool
has_only known d = all_names known (unwrap_or (as_object d) no_members)
