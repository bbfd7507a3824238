-- Writes of one document with the index's own versions (OpenSearch, index document API, version_type internal).
use Rattle.std.specs.Prelude.{◌≡◌, ◌≢◌, ◌⊎◌, ℕ, List, codes, Option, Some, None, IsUtf8}
use Rattle.serde_json.specs.Data.{Data, number, string, object, unsigned, member, no_members}
use Rattle.serde_json.specs.Written.{compact_text}
use Rattle.relay_action.specs.Actions.{IsIndexOf}
use Rattle.relay_action.specs.Faults.{source_fault}
use Rattle.relay_action.specs.Streams.{one_more}
use Rattle.relay_action.specs.declared.write.Write.{Write}
use Rattle.relay_results.specs.declared.done.DoneResult.{DoneResult}
use Rattle.relay_results.specs.declared.done.DoneResult.TheVariants as done
use Rattle.relay_results.specs.declared.done.ItemDone.{ItemDone}
use Rattle.relay_results.specs.Documents.{Document, document_of}
use Rattle.relay_index.specs.States.{State, stored_version}
use Rattle.relay_index.specs.Runs.{RunsOne}
use Rattle.relay_index.specs.declared.choice.Choice.TheVariants.{Run}

-- the version that the index gives the next write: 1 if none is stored, and otherwise one more than the stored one,
-- whatever kind of write stored it
abbrev pub next_after : Option ℕ → ℕ
next_after None = 1
next_after (Some version) = one_more version

abbrev pub next_version : State → Document → ℕ
next_version s k = next_after (stored_version s k)

-- the body may not be the source of a document
abbrev pub IsNoSource : List ℕ → Type 0
IsNoSource body = IsUtf8 body → source_fault body ≢ None

-- the write stores this body in this document, with the next version
pub record IsPut (k : Document) (body : List ℕ) (s : State) (w : Write) : Type 0 where
  pub document_is : document_of w.key ≡ k
  pub stores : IsIndexOf body w.action
  pub version_is : w.version ≡ next_version s k

-- ---- the answer

-- the text for a stored document, with its keys in byte order
abbrev pub put_data : ItemDone → List ℕ → Data
put_data item name =
    object (member (codes "_id") (string item.key.id)
    (member (codes "_index") (string item.key.index)
    (member (codes "_seq_no") (number (unsigned item.seq))
    (member (codes "_version") (number (unsigned item.version))
    (member (codes "result") (string name) no_members)))))

unfoldable pub stored_text : ItemDone → List ℕ → List ℕ
stored_text item name = compact_text (put_data item name)

-- the text if the version was not above the stored one
abbrev pub conflict_text : List ℕ
conflict_text = codes "{\"error\":{\"type\":\"version_conflict_engine_exception\"},\"status\":409}"

abbrev pub text_by : DoneResult → ItemDone → List ℕ
text_by done.Created item = stored_text item (codes "created")
text_by done.Updated item = stored_text item (codes "updated")
text_by done.Deleted item = conflict_text
text_by done.NotFound item = conflict_text
text_by done.Conflict item = conflict_text
text_by done.Refused item = conflict_text

abbrev pub put_text : ItemDone → List ℕ
put_text item = text_by item.result item

-- ---- what is done

-- the write was run, and this is the answer
pub record RunsTo (w : Write) (old : State) (status : ℕ) (text : List ℕ) (new : State) : Type 0 where
  pub item : ItemDone
  pub runs : RunsOne old w Run item new
  pub status_is : status ≡ item.status
  pub text_is : text ≡ put_text item

-- an allocation failed: before the write was run, or after it
abbrev pub StopsRun : Write → ℕ → State → State → Type 0
StopsRun w ran old new = ((ran ≡ 0) × (new ≡ old)) ⊎ ((ran ≡ 1) × ((item : ItemDone) × RunsOne old w Run item new))

-- the write that stores the body was run, and this is the answer
pub record Puts (k : Document) (body : List ℕ) (old : State) (status : ℕ) (text : List ℕ) (new : State) : Type 0 where
  pub write : Write
  pub is : IsPut k body old write
  pub runs : RunsTo write old status text new

-- the body may not be a source, and nothing was run
pub record StoresNothing (body : List ℕ) (old new : State) : Type 0 where
  pub cause : IsNoSource body
  pub stays : new ≡ old

-- an allocation failed: before the write was run, or after it
abbrev pub StopsPut : Document → List ℕ → ℕ → State → State → Type 0
StopsPut k body ran old new = ((ran ≡ 0) × (new ≡ old)) ⊎ ((w : Write) × IsPut k body old w × StopsRun w ran old new)
