-- The result of an item, and the text of a reply.
use Rattle.std.specs.Prelude.{ℕ, ◌≤◌, ◌<◌, ◌^◌, List, [], ◌∷◌, codes, Option, None, Some, is_some, option_map, Bool}
use Rattle.std.specs.List.{list_any}
use Rattle.serde_json.specs.Data.{Data, boolean, number, string, array, object, unsigned, Items, no_items, item, Members, member, no_members}
use Rattle.serde_json.specs.Written.{compact_text}
use Rattle.relay_action.specs.Actions.{kind_name}
use Rattle.relay_results.specs.declared.outcome.ErrorDetail.{ErrorDetail}
use Rattle.relay_results.specs.declared.outcome.Outcome.{Outcome}
use Rattle.relay_results.specs.declared.done.DoneResult.{DoneResult}
use Rattle.relay_results.specs.declared.done.DoneResult.TheVariants as done
use Rattle.relay_results.specs.declared.done.ItemDone.{ItemDone}
use Rattle.relay_results.specs.declared.done.VersionConflict.{VersionConflict}
use Rattle.relay_results.specs.Replies.{reason_limit}
use Rattle.relay_results.specs.Conflicts.{conflict_reason, front}

-- the type of the error of a result, if nothing was done
abbrev pub failure : DoneResult → Option (List ℕ)
failure done.Created = None
failure done.Updated = None
failure done.Deleted = None
failure done.NotFound = None
failure done.Conflict = Some (codes "version_conflict_engine_exception")
failure done.Refused = Some (codes "scripted_refusal")

-- the name of a result, if the write was applied (OpenSearch, bulk API, response)
abbrev pub result_name : DoneResult → List ℕ
result_name done.Created = codes "created"
result_name done.Updated = codes "updated"
result_name done.Deleted = codes "deleted"
result_name done.NotFound = codes "not_found"
result_name done.Conflict = []
result_name done.Refused = []

-- an error that has a type and nothing else
abbrev pub bare_error : List ℕ → ErrorDetail
bare_error kind = record { kind = kind; reason = None; stored = None }

-- the error of an item of this type; the reason of a conflict is given if the index states its versions
abbrev pub error_by : List ℕ → Option VersionConflict → List ℕ → ErrorDetail
error_by id None kind = bare_error kind
error_by id (Some c) kind = record { kind = kind; reason = Some (front reason_limit (conflict_reason id c)); stored = Some c.stored }

-- what a reply says of an item
abbrev pub outcome_of : ItemDone → Outcome
outcome_of d = record { kind = d.kind; id = d.key.id; status = d.status; error = option_map (error_by d.key.id d.conflict) (failure d.result) }

abbrev pub outcomes_of : List ItemDone → List Outcome
outcomes_of [] = []
outcomes_of (d ∷ ds) = outcome_of d ∷ outcomes_of ds

-- ---- the text of a reply, with its keys in byte order

-- the members of an entry: of an item that was applied, and of any other
abbrev pub applied_fields : ItemDone → Members
applied_fields d =
    member (codes "_id") (string d.key.id)
    (member (codes "_index") (string d.key.index)
    (member (codes "_seq_no") (number (unsigned d.seq))
    (member (codes "_version") (number (unsigned d.version))
    (member (codes "result") (string (result_name d.result))
    (member (codes "status") (number (unsigned d.status)) no_members)))))

abbrev pub error_fields : List ℕ → Option VersionConflict → List ℕ → Members
error_fields id None kind = member (codes "type") (string kind) no_members
error_fields id (Some c) kind =
    member (codes "reason") (string (conflict_reason id c)) (member (codes "type") (string kind) no_members)

abbrev pub failed_fields : ItemDone → List ℕ → Members
failed_fields d error =
    member (codes "_id") (string d.key.id)
    (member (codes "_index") (string d.key.index)
    (member (codes "error") (object (error_fields d.key.id d.conflict error))
    (member (codes "status") (number (unsigned d.status)) no_members)))

abbrev pub fields_by : ItemDone → Option (List ℕ) → Members
fields_by d None = applied_fields d
fields_by d (Some error) = failed_fields d error

-- the entry of an item: one member, named by its action
abbrev pub entry_data : ItemDone → Data
entry_data d = object (member (kind_name d.kind) (object (fields_by d (failure d.result))) no_members)

abbrev pub entries_data : List ItemDone → Items
entries_data [] = no_items
entries_data (d ∷ ds) = item (entry_data d) (entries_data ds)

-- nothing was done for the item
abbrev pub is_failure : ItemDone → Bool
is_failure d = is_some (failure d.result)

abbrev pub reply_data : ℕ → List ItemDone → Data
reply_data took ds =
    object (member (codes "errors") (boolean (list_any is_failure ds))
    (member (codes "items") (array (entries_data ds))
    (member (codes "took") (number (unsigned took)) no_members)))

unfoldable pub reply_text : ℕ → List ItemDone → List ℕ
reply_text took ds = compact_text (reply_data took ds)

-- each version that is stated has 64 bits
abbrev pub IsStatable : Option VersionConflict → Type 0
IsStatable None = Unit {0}
IsStatable (Some c) = (c.stored < 2 ^ 64) × (c.provided < 2 ^ 64)

abbrev pub AreStatable : List ItemDone → Type 0
AreStatable [] = Unit {0}
AreStatable (d ∷ ds) = IsStatable d.conflict × AreStatable ds

-- each status is one that a reply may have
abbrev pub HaveStatuses : List ItemDone → Type 0
HaveStatuses [] = Unit {0}
HaveStatuses (d ∷ ds) = (100 ≤ d.status) × (d.status ≤ 599) × HaveStatuses ds
