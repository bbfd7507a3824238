-- What the metadata of an action line says (OpenSearch, bulk API). A member that is null counts as absent, and `_type` is
-- dropped.
use Rattle.std.specs.Prelude.{◌≡◌, ℕ, Bool, true, false, ◌||◌, ◌&&◌, bytes_eq, List, codes, if◌then◌else◌, Option, None, Some}
use denote.Ref.{Bor}
use Rattle.serde_json.specs.Data.{Data, null, boolean, number, string, array, object, Members, member, no_members}
use Rattle.serde_json.specs.Find.{get_member}
use Rattle.relay_ndjson.specs.Fields.{IsLeafOf}
use Rattle.relay_front.specs.declared.metadata.Metadata.{Metadata}

abbrev pub is_null : Data → Bool
is_null null = true
is_null (boolean b) = false
is_null (number n) = false
is_null (string s) = false
is_null (array ds) = false
is_null (object ms) = false

-- a value, unless it is null
abbrev pub unless_null : Option Data → Option Data
unless_null None = None
unless_null (Some d) = if is_null d then None else Some d

-- what a member gives
abbrev pub given : List ℕ → Members → Option Data
given name ms = unless_null (get_member name ms)

-- the members that the relay knows
abbrev pub is_known : List ℕ → Bool
is_known name = bytes_eq name (codes "_index") || bytes_eq name (codes "_id") || bytes_eq name (codes "_type")

-- no other member is given
abbrev pub has_no_other : Members → Bool
has_no_other no_members = true
has_no_other (member name d ms) = (is_known name || is_null d) && has_no_other ms

-- there is a member of this name, which the relay does not know
abbrev pub IsOther : Members → List ℕ → Type 0
IsOther ms name = (is_known name ≡ false) × (d : Data) × (get_member name ms ≡ Some d)

-- ---- for private clauses

-- what is kept of the members that the relay does not know
abbrev pub HoldsOther : Option (Bor (List ℕ)) → Members → Type 0
HoldsOther None ms = has_no_other ms ≡ true
HoldsOther (Some name) ms = IsOther ms name.now

-- what is kept of these members
pub record HoldsMembers (m : Metadata) (ms : Members) : Type 0 where
  pub index : IsLeafOf m.index (get_member (codes "_index") ms)
  pub id : IsLeafOf m.id (get_member (codes "_id") ms)
  pub other : HoldsOther m.other ms
