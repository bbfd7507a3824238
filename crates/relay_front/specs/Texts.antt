-- The texts of answers, in the form of OpenSearch's bulk and document APIs. Strings and numbers are those of JSON (RFC
-- 8259).
use Rattle.std.specs.Prelude.{ℕ, Bool, true, false, ◌||◌, List, [], ◌∷◌, ◌++◌, codes, decimal, drop, flat_map, Option, None, Some}
use Rattle.json.specs.Print.{quoted}
use Rattle.relay_action.specs.declared.key.DocKey.{DocKey}
use Rattle.relay_front.specs.declared.ending.End.{End}
use Rattle.relay_front.specs.declared.ending.End.TheVariants as end
use Rattle.relay_front.specs.declared.operation.Item.{Item}
use Rattle.relay_front.specs.declared.operation.Item.TheVariants as item
use Rattle.relay_front.specs.Kinds.{name_of}
use Rattle.relay_front.specs.Reasons.{reason_of}
use Rattle.relay_front.specs.Said.{Words, Written, Failed, said_by}

-- the type of an error for which the client is to blame
abbrev pub illegal_argument : List ℕ
illegal_argument = codes "illegal_argument_exception"

-- the type and the reason of an error
abbrev pub error_members : List ℕ → List ℕ → List ℕ
error_members type_name reason = codes "\"type\":" ++ quoted type_name ++ codes ",\"reason\":" ++ quoted reason

-- a request that is refused as a whole: its error, which is its only root cause, and its status
abbrev pub refusal_body : ℕ → List ℕ → List ℕ → List ℕ
refusal_body status type_name reason =
    codes "{\"error\":{\"root_cause\":[{" ++ error_members type_name reason ++ codes "}]," ++ error_members type_name reason
    ++ codes "},\"status\":" ++ decimal status ++ codes "}"

-- ---- items

-- the document of an item
abbrev pub document_members : List ℕ → List ℕ → List ℕ
document_members index id = codes "\"_index\":" ++ quoted index ++ codes ",\"_id\":" ++ quoted id

-- a write; the index states neither shards nor a sequence number to the relay, so they are as where none is assigned
abbrev pub written_members : List ℕ → ℕ → List ℕ
written_members outcome version =
    codes ",\"_version\":" ++ decimal version ++ codes ",\"result\":\"" ++ outcome
    ++ codes "\",\"_shards\":{\"total\":1,\"successful\":1,\"failed\":0},\"_seq_no\":-2,\"_primary_term\":0"

abbrev pub document_status : Words → ℕ
document_status (Written status outcome version) = status
document_status (Failed status type_name reason) = status

abbrev pub status_member : ℕ → List ℕ
status_member status = codes ",\"status\":" ++ decimal status

abbrev pub failed_members : List ℕ → List ℕ → List ℕ
failed_members type_name reason = codes ",\"error\":{" ++ error_members type_name reason ++ codes "}"

unfoldable pub outcome_members : Words → List ℕ
outcome_members (Written status outcome version) = written_members outcome version
outcome_members (Failed status type_name reason) = failed_members type_name reason

abbrev pub said_members : Words → List ℕ
said_members said = outcome_members said ++ status_member (document_status said)

-- the item of an operation that was put, under the name of its action
abbrev pub asked_item : List ℕ → DocKey → Words → List ℕ
asked_item name key said =
    codes "{\"" ++ name ++ codes "\":{" ++ document_members key.index key.id ++ said_members said ++ codes "}}"

-- a text, or null
abbrev pub optional_string : Option (List ℕ) → List ℕ
optional_string None = codes "null"
optional_string (Some text) = quoted text

-- the item of an operation that is refused
abbrev pub refused_item : List ℕ → Option (List ℕ) → Option (List ℕ) → List ℕ → List ℕ
refused_item name index id reason =
    codes "{\"" ++ name ++ codes "\":{\"_index\":" ++ optional_string index ++ codes ",\"_id\":" ++ optional_string id
    ++ said_members (Failed 400 illegal_argument reason) ++ codes "}}"

-- ---- the answer to a bulk request

abbrev pub is_failed : Words → Bool
is_failed (Written status outcome version) = false
is_failed (Failed status type_name reason) = true

-- the item of an operation, whose write ended so if it was put, and whether it is an error
abbrev pub item_text : Item → End → List ℕ
item_text (item.Asked k key made) e = asked_item (name_of k) key (said_by k made e)
item_text (item.Refused k index id fault) e = refused_item (name_of k) index id (reason_of fault)

abbrev pub is_error : Item → End → Bool
is_error (item.Asked k key made) e = is_failed (said_by k made e)
is_error (item.Refused k index id fault) e = true

-- each operation that is put has the next end; one without an end was not put
abbrev pub first_end : List End → End
first_end [] = end.Unput
first_end (e ∷ ends) = e

abbrev pub ends_after : Item → List End → List End
ends_after (item.Asked k key made) ends = drop 1 ends
ends_after (item.Refused k index id fault) ends = ends

-- an item for each operation, in order
abbrev pub item_texts : List Item → List End → List (List ℕ)
item_texts [] ends = []
item_texts (i ∷ items) ends = item_text i (first_end ends) ∷ item_texts items (ends_after i ends)

abbrev pub have_errors : List Item → List End → Bool
have_errors [] ends = false
have_errors (i ∷ items) ends = is_error i (first_end ends) || have_errors items (ends_after i ends)

-- texts with commas between them
abbrev pub with_commas : List (List ℕ) → List ℕ
with_commas texts = flat_map (λ text. codes "," ++ text) texts

abbrev pub listed : List (List ℕ) → List ℕ
listed texts = drop 1 (with_commas texts)

abbrev pub truth_text : Bool → List ℕ
truth_text true = codes "true"
truth_text false = codes "false"

abbrev pub bulk_body : ℕ → List Item → List End → List ℕ
bulk_body took items ends =
    codes "{\"took\":" ++ decimal took ++ codes ",\"errors\":" ++ truth_text (have_errors items ends) ++ codes ",\"items\":["
    ++ listed (item_texts items ends) ++ codes "]}"

-- ---- the answer to a request for one document

abbrev pub document_body : DocKey → Words → List ℕ
document_body key (Written status outcome version) =
    codes "{" ++ document_members key.index key.id ++ written_members outcome version ++ codes "}"
document_body key (Failed status type_name reason) = refusal_body status type_name reason
