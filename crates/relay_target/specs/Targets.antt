-- The target of a document in the API of OpenSearch, and the document that a target names.
use Rattle.std.specs.Prelude.{◌≡◌, ◌≢◌, ℕ, ◌<◌, ◌==◌, ◌||◌, not, Bool, List, [], ◌∷◌, ◌++◌, codes, flat_map, if◌then◌else◌, All, None, IsUtf8}
use Rattle.std.specs.Char.{is_ascii_alphanumeric}
use Rattle.relay_action.specs.Faults.{key_fault}
use Rattle.percent_encoding.specs.AsciiSet.{contains}
use Rattle.percent_encoding.specs.Percent.{percent_encode_byte, percent_decode}
use Rattle.percent_encoding.specs.declared.ascii_set.AsciiSet.{AsciiSet}

-- an unreserved character (RFC 3986, section 2.3): a letter or a digit of ASCII, `-`, `.`, `_` or `~`
abbrev pub is_unreserved : ℕ → Bool
is_unreserved b = is_ascii_alphanumeric b || (b == 45 || (b == 46 || (b == 95 || b == 126)))

-- the set has the characters of ASCII that are not unreserved
abbrev pub EscapesReserved : AsciiSet → Type 0
EscapesReserved set = (b : ℕ) → b < 128 → contains set b ≡ not (is_unreserved b)

-- a byte of a part of a path: an unreserved character as it is, any other byte as `%` and its two upper-case
-- hexadecimal digits (RFC 3986, section 2.1)
abbrev pub escaped_byte : ℕ → List ℕ
escaped_byte b = if is_unreserved b then b ∷ [] else percent_encode_byte b

unfoldable pub escaped : List ℕ → List ℕ
escaped bytes = flat_map escaped_byte bytes

-- the target of a document (OpenSearch, index document API)
abbrev pub document_target : List ℕ → List ℕ → List ℕ
document_target index id = ((codes "/" ++ escaped index) ++ codes "/_doc/") ++ escaped id

-- no byte is a `/`
abbrev pub HasNoSlash : List ℕ → Type 0
HasNoSlash bytes = All (λ b. b ≢ 47) bytes

-- the bytes are `INDEX/ID`, and the first part has no `/`
pub record IsName (name index id : List ℕ) : Type 0 where
  pub index_is : HasNoSlash index
  pub name_is : name ≡ index ++ (47 ∷ id)

-- neither a `/` nor a `?`, with which a query begins
abbrev pub IsLastPart : List ℕ → Type 0
IsLastPart bytes = All (λ b. (b ≢ 47) × (b ≢ 63)) bytes

-- the target has these parts, as they are there
pub record HasParts (target index id : List ℕ) : Type 0 where
  pub index_is : HasNoSlash index
  pub id_is : IsLastPart id
  pub target_is : target ≡ codes "/" ++ (index ++ (47 ∷ (codes "_doc/" ++ id)))

abbrev pub HasNoParts : List ℕ → Type 0
HasNoParts target = (index id : List ℕ) → ¬ (HasParts target index id)

-- the target names the document with this index name and this id: its parts stand for them
pub record Names (target index id : List ℕ) : Type 0 where
  pub index_part : List ℕ
  pub id_part : List ℕ
  pub parts : HasParts target index_part id_part
  pub index_is : index ≡ percent_decode index_part
  pub id_is : id ≡ percent_decode id_part

-- there is no document with this index name and this id
abbrev pub IsNoDocument : List ℕ → List ℕ → Type 0
IsNoDocument index id = IsUtf8 index → IsUtf8 id → key_fault index id ≢ None

abbrev pub NamesNone : List ℕ → Type 0
NamesNone target = (index id : List ℕ) → Names target index id → IsNoDocument index id

-- ---- names of a command line

abbrev pub IsNoName : List ℕ → Type 0
IsNoName name = (index id : List ℕ) → IsName name index id → key_fault index id ≢ None
