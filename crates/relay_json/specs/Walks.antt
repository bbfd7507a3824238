-- Values of a text, read where they begin (RFC 8259, section 2).
use Rattle.std.specs.Prelude.{◌≡◌, ℕ, ◌+◌, ◌≤◌, List, ◌∷◌, ◌++◌, length, Option, Some, None, MatchOption, Result, Ok, Err}
use Rattle.json.specs.Token.{Token}
use Rattle.json.specs.Json.{items, members, value}
use Rattle.serde_json.specs.Data.{Data, Num, null, boolean, number, string, array, object, Items, Members, no_members}
use Rattle.serde_json.specs.Find.{as_object, as_array}
use Rattle.serde_json.specs.Read.{of_json, of_items, of_members, number_of, converted}
use Rattle.relay_json.specs.declared.leaf.Leaf.{Leaf}
use Rattle.relay_json.specs.declared.leaf.Leaf.TheVariants as leaf
use Rattle.relay_json.specs.declared.walk.Walk.{Walk}

-- the tokens begin with a value of this data, nested at most `depth` deep, and `rest` follows it
abbrev pub Reads : ℕ → List Token → Data → List Token → Type 0
Reads depth tokens d rest = converted of_json (value depth tokens) ≡ Some (d, rest)

-- the tokens do not begin with a value
abbrev pub Refuses : ℕ → List Token → Type 0
Refuses depth tokens = converted of_json (value depth tokens) ≡ None

-- the walk passed a value of this data
abbrev pub IsRead : Walk → Data → Walk → Type 0
IsRead old d new = (new.depth ≡ old.depth) × Reads old.depth old.reader d new.reader

-- no value begins at the position of the walk
abbrev pub IsRefused : Walk → Type 0
IsRefused walk = Refuses walk.depth walk.reader

-- these tokens are what is left of `tokens` after some of them, or none, were passed
abbrev pub IsRestOf : List Token → List Token → Type 0
IsRestOf rest tokens = (passed : List Token) × (tokens ≡ passed ++ rest)

-- the walk only went forward in its text, and reads nothing deeper than it did
abbrev pub IsPast : Walk → Walk → Type 0
IsPast old new = IsRestOf new.reader old.reader × (new.depth ≤ old.depth)

-- the items of an array, after its opening bracket, and what follows its closing one
abbrev pub items_of : ℕ → List Token → Option (Items × List Token)
items_of depth tokens = converted of_items (items (value depth) (length tokens) tokens)

-- the members of an object in the same way, of members with the same name the last
abbrev pub members_of : ℕ → List Token → Option (Members × List Token)
members_of depth tokens = converted (λ js. of_members js no_members) (members (value depth) (length tokens) tokens)

-- the walk went into the array or the object that this bracket opens
abbrev pub Opens : Token → Walk → Walk → Type 0
Opens bracket old new = (old.reader ≡ bracket ∷ new.reader) × (old.depth ≡ new.depth + 1)

-- what the data is at its top
abbrev pub IsLeaf : Leaf → Data → Type 0
IsLeaf leaf.Null d = d ≡ null
IsLeaf (leaf.Bool b) d = d ≡ boolean b
IsLeaf (leaf.Number s) d = (n : Num) × (number_of s.now ≡ Some n) × (d ≡ number n)
IsLeaf (leaf.String s) d = d ≡ string s.now
IsLeaf leaf.Array d = (ds : Items) × (d ≡ array ds)
IsLeaf leaf.Object d = (ms : Members) × (d ≡ object ms)

-- if the leaf is a number, these tokens begin with it as it is written, and `rest` follows it
abbrev pub NumberStands : List Token → Leaf → List Token → Type 0
NumberStands tokens leaf.Null rest = Unit {0}
NumberStands tokens (leaf.Bool b) rest = Unit {0}
NumberStands tokens (leaf.Number s) rest = tokens ≡ Token.number s.now ∷ rest
NumberStands tokens (leaf.String s) rest = Unit {0}
NumberStands tokens leaf.Array rest = Unit {0}
NumberStands tokens leaf.Object rest = Unit {0}

-- if the leaf is a number, it is the text that the walk passed
abbrev pub IsNumberPassed : Walk → Leaf → Walk → Type 0
IsNumberPassed old leaf new = NumberStands old.reader leaf new.reader

-- what was gathered from the members, if the data is an object
abbrev pub IsGathered : {G : Type 0} → (G → Members → Type 0) → Data → Option G → Type 0
IsGathered Holds d found = MatchOption found (as_object d ≡ None) (λ g. (ms : Members) × (as_object d ≡ Some ms) × Holds g ms)

-- the same, or the top level of the data
abbrev pub IsGatheredOrLeaf : {G : Type 0} → (G → Members → Type 0) → Data → Result G Leaf → Type 0
IsGatheredOrLeaf Holds d (Ok g) = (ms : Members) × (as_object d ≡ Some ms) × Holds g ms
IsGatheredOrLeaf Holds d (Err leaf) = (as_object d ≡ None) × IsLeaf leaf d

-- what was collected from the items, if the data is an array
abbrev pub IsCollected : {C : Type 0} → (C → Items → Type 0) → Data → Option C → Type 0
IsCollected Holds d found = MatchOption found (as_array d ≡ None) (λ c. (ds : Items) × (as_array d ≡ Some ds) × Holds c ds)
