-- The operation that a line of a report names.
use Rattle.std.specs.Prelude.{◌≡◌, ℕ, ◌+◌, ◌^◌, ◌==◌, ◌&&◌, nat_lt, List, Bool, false, if◌then◌else◌, Option, None, Some, is_some, option_map, option_and_then, bytes_eq, codes, IsUtf8}
use Rattle.serde_json.specs.Data.{Data, Members, member, no_members}
use Rattle.serde_json.specs.Find.{as_number, as_object, as_str, as_u64, get}
use Rattle.serde_json.specs.Read.{read}
use Rattle.relay_action.specs.declared.operation.OpName.{OpName}

-- the number and the string of a member
abbrev pub number_at : List ℕ → Data → Option ℕ
number_at name d = option_and_then as_u64 (option_and_then as_number (get name d))

abbrev pub text_at : List ℕ → Data → Option (List ℕ)
text_at name d = option_and_then as_str (get name d)

-- a number, if it is below a limit
abbrev pub below : ℕ → Option ℕ → Option ℕ
below limit o = option_and_then (λ n. if nat_lt n limit then Some n else None) o

-- the status, of 16 bits, and the number of requests that carried the operation, of 32 bits
abbrev pub status_of : Data → Option ℕ
status_of d = below (2 ^ 16) (number_at (codes "status") d)

abbrev pub sends_of : Data → Option ℕ
sends_of d = below (2 ^ 32) (number_at (codes "sends") d)

-- how many members there are for the reason, for what became of the last try, and for the stored version: one, which
-- then has to be a string, a string, or a number; or none
abbrev pub reason_by : Data → Option Data → Option ℕ
reason_by d None = Some 0
reason_by d (Some r) = option_map (λ reason. 1) (text_at (codes "reason") d)

abbrev pub reason_count : Data → Option ℕ
reason_count d = reason_by d (get (codes "reason") d)

abbrev pub last_by : Data → Option Data → Option ℕ
last_by d None = Some 0
last_by d (Some w) = option_map (λ word. 1) (text_at (codes "last") d)

abbrev pub last_count : Data → Option ℕ
last_count d = last_by d (get (codes "last") d)

abbrev pub stored_by : Data → Option Data → Option ℕ
stored_by d None = Some 0
stored_by d (Some s) = option_map (λ stored. 1) (number_at (codes "stored") d)

abbrev pub stored_count : Data → Option ℕ
stored_count d = stored_by d (get (codes "stored") d)

-- how many members describe the cause with this name, if all that have to be there are
abbrev pub details_of : Data → List ℕ → Option ℕ
details_of d cause =
    if bytes_eq cause (codes "Refused")
    then option_and_then (λ kind. option_and_then (λ status. option_map (λ reason. reason + 2) (reason_count d)) (status_of d)) (text_at (codes "kind") d)
    else if bytes_eq cause (codes "Request") then option_and_then (λ status. option_map (λ reason. reason + 1) (reason_count d)) (status_of d)
    else if bytes_eq cause (codes "Conflict") then option_and_then (λ stored. option_map (λ reason. reason + stored) (reason_count d)) (stored_count d)
    else if bytes_eq cause (codes "GaveUp") then option_and_then (λ sends. option_map (λ tried. tried + 1) (last_count d)) (sends_of d)
    else if bytes_eq cause (codes "Spent") then Some 0
    else None

-- the epoch, 0 if it is absent, and how many members there are for it
abbrev pub epoch_by : Data → Option Data → Option ℕ
epoch_by d None = Some 0
epoch_by d (Some e) = below (2 ^ 32) (number_at (codes "epoch") d)

abbrev pub epoch_of : Data → Option ℕ
epoch_of d = epoch_by d (get (codes "epoch") d)

abbrev pub one_if : Option Data → ℕ
one_if None = 0
one_if (Some e) = 1

abbrev pub epoch_count : Data → ℕ
epoch_count d = one_if (get (codes "epoch") d)

-- the number of members
abbrev pub member_count : Members → ℕ
member_count no_members = 0
member_count (member name d ms) = member_count ms + 1

abbrev pub count_by : Option Members → ℕ
count_by None = 0
count_by (Some ms) = member_count ms

abbrev pub count_of : Data → ℕ
count_of d = count_by (as_object d)

-- the document is there, and there are no members other than those of the name, the cause and its details
abbrev pub whole_with : Data → Option ℕ → Bool
whole_with d None = false
whole_with d (Some details) =
    is_some (text_at (codes "id") d) && is_some (text_at (codes "index") d) && (count_of d == details + 5 + epoch_count d)

abbrev pub is_whole : Data → Bool
is_whole d = whole_with d (option_and_then (details_of d) (text_at (codes "cause") d))

-- the name of the operation, if the value is that of a line of a report
abbrev pub name_with : Option ℕ → Option ℕ → Option ℕ → Option OpName
name_with (Some epoch) (Some producer) (Some n) = Some (record { epoch = epoch; producer = producer; number = n })
name_with epoch producer n = None

abbrev pub name_of : Data → Option OpName
name_of d = if is_whole d then name_with (epoch_of d) (below (2 ^ 32) (number_at (codes "producer") d)) (number_at (codes "number") d) else None

-- the name in a line, if it is a line of a report
abbrev pub name_read : Option Data → Option OpName
name_read None = None
name_read (Some d) = name_of d

abbrev pub IsNamedBy : List ℕ → Option OpName → Type 0
IsNamedBy text (Some name) = IsUtf8 text × (name_read (read text) ≡ Some name)
IsNamedBy text None = IsUtf8 text → name_read (read text) ≡ None
