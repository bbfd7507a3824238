-- What an index does with a write.
use Rattle.std.specs.Prelude.{◌≡◌, ℕ, Option, None, option_map, [], ◌∷◌, ◌++◌, Bool, true, false, ◌&&◌, if◌then◌else◌}
use Rattle.relay_action.specs.Actions.{kind_of}
use Rattle.relay_action.specs.Streams.{one_more}
use Rattle.relay_action.specs.declared.action.ActionKind.{ActionKind}
use Rattle.relay_action.specs.declared.action.ActionKind.TheVariants as kind
use Rattle.relay_action.specs.declared.write.Write.{Write}
use Rattle.relay_results.specs.declared.done.DoneResult.{DoneResult}
use Rattle.relay_results.specs.declared.done.DoneResult.TheVariants as done
use Rattle.relay_results.specs.declared.done.ItemDone.{ItemDone}
use Rattle.relay_results.specs.Documents.{Document, document_of, same_document}
use Rattle.relay_results.specs.declared.done.VersionConflict.{VersionConflict}
use Rattle.relay_results.specs.Done.{outcome_of}
use Rattle.relay_results.specs.Outside.{RunOutcome, Outside, list_of, is_above}
use Rattle.relay_index.specs.declared.choice.Choice.{Choice}
use Rattle.relay_index.specs.declared.choice.Choice.TheVariants.{Run, Refuse}
use Rattle.relay_index.specs.States.{State, applied_writes, stored_version, is_live}

-- the result of an applied write, by whether its document existed
abbrev pub applied_result : ActionKind → Bool → DoneResult
applied_result kind.Index true = done.Updated
applied_result kind.Index false = done.Created
applied_result kind.Delete true = done.Deleted
applied_result kind.Delete false = done.NotFound

-- the status of an item that was not refused (OpenSearch, bulk API, response)
abbrev pub status_of : DoneResult → ℕ
status_of done.Created = 201
status_of done.Updated = 200
status_of done.Deleted = 200
status_of done.NotFound = 404
status_of done.Conflict = 409
status_of done.Refused = 0

-- no version of the write's document is stored, or one below the write's (OpenSearch, index document API, version_type
-- external)
abbrev pub is_newer : State → Write → Bool
is_newer s w = is_above (stored_version s (document_of w.key)) w.version

-- the index applies the write: it runs it, and the version is new
abbrev pub is_run : State → Write → Choice → Bool
is_run s w Run = is_newer s w
is_run s w (Refuse status) = false

abbrev pub result_of : State → Write → Choice → DoneResult
result_of s w Run =
    if is_newer s w then applied_result (kind_of w.action) (is_live s (document_of w.key)) else done.Conflict
result_of s w (Refuse status) = done.Refused

abbrev pub status_by : State → Write → Choice → ℕ
status_by s w Run = status_of (result_of s w Run)
status_by s w (Refuse status) = status

-- the versions of a conflict with this write, if they are stated
abbrev pub stated : State → Write → Option VersionConflict
stated s w =
    if s.states
    then option_map (λ (stored : ℕ). record { stored = stored; provided = w.version }) (stored_version s (document_of w.key))
    else None

abbrev pub conflict_by : State → Write → Choice → Option VersionConflict
conflict_by s w Run = if is_newer s w then None else stated s w
conflict_by s w (Refuse status) = None

-- What an index returns for a write: its document and kind, the status and the result. For an applied write also its
-- version, and as sequence number how many were applied before it; otherwise 0 for both. For a conflict also the versions,
-- if they are stated.
abbrev pub done_of : State → Write → Choice → ItemDone
done_of s w choice = record {
  key = w.key;
  kind = kind_of w.action;
  status = status_by s w choice;
  result = result_of s w choice;
  version = if is_run s w choice then w.version else 0;
  seq = if is_run s w choice then s.count else 0;
  conflict = conflict_by s w choice;
}

-- The index after a write: if the write was applied, it is at the end of its document's list, and counted. Nothing
-- else changes.
pub record Effect (old : State) (w : Write) (choice : Choice) (new : State) : Type 0 where
  pub lists : (k : Document) → applied_writes new k
      ≡ applied_writes old k ++ (if is_run old w choice && same_document k (document_of w.key) then w ∷ [] else [])
  pub count : new.count ≡ (if is_run old w choice then one_more old.count else old.count)
  pub states : new.states ≡ old.states

-- one write was run
pub record RunsOne (old : State) (w : Write) (choice : Choice) (item : ItemDone) (new : State) : Type 0 where
  pub item_of : item ≡ done_of old w choice
  pub effect : Effect old w choice new

-- ---- as the outside of a lane

-- the answer to a write, as the outcome of a run
abbrev pub outcome_of_run : ItemDone → RunOutcome
outcome_of_run d = record { status = d.status; error = (outcome_of d).error }

-- the outside shows this index: for each document the stored version and the list are the same
pub record Shows (o : Outside) (s : State) : Type 0 where
  pub versions : (k : Document) → o.stored k ≡ stored_version s k
  pub lists : (k : Document) → list_of o k ≡ applied_writes s k
