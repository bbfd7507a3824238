-- How many lines an operation has, by its action line alone: the names of the OpenSearch bulk API tell. An action line
-- is an object whose only member is named after the action, and has the metadata, an object, as its value.
use Rattle.std.specs.Prelude.{◌≡◌, ◌≤◌, ◌⊎◌, ℕ, ◌||◌, List, length, codes, bytes_eq, true, false, is_some, Option, None, Some, MatchOption, IsUtf8, if◌then◌else◌}
use Rattle.std.specs.Str.{is_utf8}
use Rattle.serde_json.specs.Data.{Data, Members, object}
use Rattle.serde_json.specs.Find.{get_member}
use Rattle.serde_json.specs.Read.{read}
use Rattle.relay_json.specs.Sole.{sole_object}
use Rattle.relay_json.specs.Plain.{IsPlain}
use Rattle.relay_ndjson.specs.Metadata.{is_field}
use Rattle.relay_ndjson.specs.Names.{all_names}
use Rattle.relay_ndjson.specs.declared.kind.LineKind.{LineKind}
use Rattle.relay_ndjson.specs.declared.kind.LineKind.TheVariants as kind
use Rattle.relay_sift.specs.declared.asking.Extent.{Extent}
use Rattle.relay_sift.specs.declared.asking.Extent.TheVariants as extent
use Rattle.relay_sift.specs.declared.asking.Subject.{Subject}
use Rattle.relay_sift.specs.declared.asking.Subject.TheVariants as subject
use Rattle.relay_sift.specs.declared.asking.Unknown.{Unknown}

-- `delete` has no source; `index`, `create` and `update` are followed by one
abbrev pub extent_named : List ℕ → Extent
extent_named name =
    if bytes_eq name (codes "delete") then extent.One
    else if bytes_eq name (codes "index") || bytes_eq name (codes "create") || bytes_eq name (codes "update") then extent.Two
    else extent.Lost

abbrev pub extent_said : Option (List ℕ × Data) → Extent
extent_said None = extent.Lost
extent_said (Some action) = extent_named action.0

abbrev pub extent_read : Option Data → Extent
extent_read None = extent.Lost
extent_read (Some d) = extent_said (sole_object d)

-- of a line that is not blank
abbrev pub extent_of : List ℕ → Extent
extent_of text = if is_utf8 text then extent_read (read text) else extent.Lost

-- ---- what a fault is about

-- the maximum length of a name that is given, in bytes
abbrev pub name_limit : ℕ
name_limit = 64

-- only a plain name is given, and only if it is not too long
abbrev pub IsGiven : List ℕ → Type 0
IsGiven name = IsPlain name × (length name ≤ name_limit)

-- the line is an object whose only member has this name, and as its value an object with these members
abbrev pub IsAction : List ℕ → List ℕ → Members → Type 0
IsAction line name ms = IsUtf8 line × (d : Data) × (read line ≡ Some d) × (sole_object d ≡ Some (name, object ms))

-- a member that no metadata may have
abbrev pub IsUnknown : List ℕ → Members → Type 0
IsUnknown name ms = (is_field name ≡ false) × (is_some (get_member name ms) ≡ true)

-- one of them was found, or there is none
abbrev pub HoldsUnknown : Unknown → Members → Type 0
HoldsUnknown unknown ms = MatchOption unknown.name (all_names is_field ms ≡ true) (λ name. IsUnknown name.now ms)

-- a fault of this kind, of this line, is about the action of this name
abbrev pub NamesAction : LineKind → List ℕ → List ℕ → Type 0
NamesAction k line name = (k ≡ kind.UnsupportedAction) × (ms : Members) × IsAction line name ms × IsGiven name

-- or about the member of this name
abbrev pub NamesMember : LineKind → List ℕ → List ℕ → Type 0
NamesMember k line name = (k ≡ kind.UnsupportedField) × (action : List ℕ) × (ms : Members) × IsAction line action ms × IsUnknown name ms × IsGiven name

-- the action has no name that is given
abbrev pub LacksAction : LineKind → List ℕ → Type 0
LacksAction k line = k ≡ kind.UnsupportedAction → (name : List ℕ) (ms : Members) → IsAction line name ms → ¬ IsGiven name

-- there is no such member, or one whose name is not given
abbrev pub LacksMember : LineKind → List ℕ → Type 0
LacksMember k line =
    k ≡ kind.UnsupportedField → (action : List ℕ) (ms : Members) → IsAction line action ms
    → (all_names is_field ms ≡ true) ⊎ ((name : List ℕ) × IsUnknown name ms × (¬ IsGiven name))

-- what the fault is about
abbrev pub IsSubject : LineKind → List ℕ → Subject → Type 0
IsSubject k line subject.None = LacksAction k line × LacksMember k line
IsSubject k line (subject.Action name) = NamesAction k line name.now
IsSubject k line (subject.Member name) = NamesMember k line name.now

-- ---- private steps

-- the action of this name, if it is given
abbrev pub GivesAction : List ℕ → Subject → Type 0
GivesAction name subject.None = ¬ IsGiven name
GivesAction name (subject.Action given) = (given.now ≡ name) × IsGiven name
GivesAction name (subject.Member given) = ⊥

-- one of the members that none may have, if it is given
abbrev pub GivesMember : Members → Subject → Type 0
GivesMember ms subject.None = (all_names is_field ms ≡ true) ⊎ ((name : List ℕ) × IsUnknown name ms × (¬ IsGiven name))
GivesMember ms (subject.Action given) = ⊥
GivesMember ms (subject.Member given) = IsUnknown given.now ms × IsGiven given.now
