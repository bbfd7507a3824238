-- The only member of an object (RFC 8259, section 4). A name that is given twice counts once, with its last value.
use Rattle.std.specs.Prelude.{◌≡◌, ℕ, List, if◌then◌else◌, bytes_eq, is_some, Option, None, Some, MatchOption, option_and_then}
use denote.Ref.{Bor}
use Rattle.serde_json.specs.Data.{Data, object, Members, member, no_members}
use Rattle.serde_json.specs.Find.{as_object}
use Rattle.relay_json.specs.Walks.{IsGathered}
use Rattle.relay_json.specs.declared.sole.Found.{Found}
use Rattle.relay_json.specs.declared.sole.Found.TheVariants as found

abbrev pub sole : Members → Option (List ℕ × Data)
sole no_members = None
sole (member name d no_members) = Some (name, d)
sole (member name d (member other e ms)) = None

-- the name and the value of the only member
abbrev pub sole_member : Data → Option (List ℕ × Data)
sole_member d = option_and_then sole (as_object d)

-- the same, if the value is an object
abbrev pub sole_object : Data → Option (List ℕ × Data)
sole_object d = option_and_then (λ m. if is_some (as_object m.1) then Some m else None) (sole_member d)

-- the name of the only member, and what was gathered from its value, if that is an object
abbrev pub IsSoleObject : {F : Type 0} → (F → Members → Type 0) → Data → Option (Bor (List ℕ) × F) → Type 0
IsSoleObject Holds d r = MatchOption r (sole_object d ≡ None) (λ r. (ms : Members) × (sole_object d ≡ Some (r.0.now, object ms)) × Holds r.1 ms)

-- ---- for private clauses

abbrev pub AreSeveral : Members → Type 0
AreSeveral no_members = ⊥
AreSeveral (member k d no_members) = ⊥
AreSeveral (member k d (member l e ms)) = Unit {0}

-- what was found of the members
abbrev pub HoldsSole : {F : Type 0} → (F → Members → Type 0) → Found F → Members → Type 0
HoldsSole Holds found.Nothing ms = ms ≡ no_members
HoldsSole Holds (found.One name f) ms = (d : Data) × (ms ≡ member name.now d no_members) × IsGathered Holds d f
HoldsSole Holds found.Several ms = AreSeveral ms

-- after one more member
abbrev pub and_member : {F : Type 0} → Found F → Bor (List ℕ) → Option F → Found F
and_member found.Nothing name f = found.One name f
and_member (found.One first g) name f = if bytes_eq first.now name.now then found.One name f else found.Several
and_member found.Several name f = found.Several

-- the name of the only member, and what was found of its value
abbrev pub found_object : {F : Type 0} → Found F → Option (Bor (List ℕ) × F)
found_object found.Nothing = None
found_object (found.One name None) = None
found_object (found.One name (Some f)) = Some (name, f)
found_object found.Several = None
