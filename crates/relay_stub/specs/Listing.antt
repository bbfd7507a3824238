-- The writes that an index applied, as lines.
use Rattle.std.specs.Prelude.{◌≡◌, ℕ, List, ◌++◌, codes, flat_map, decimal}
use Rattle.relay_action.specs.Actions.{kind_of, kind_name}
use Rattle.relay_action.specs.declared.key.DocKey.{DocKey}
use Rattle.relay_action.specs.declared.write.Write.{Write}
use Rattle.relay_results.specs.Documents.{document_of}
use Rattle.relay_index.specs.Keys.{AreKeys}
use Rattle.relay_index.specs.States.{State, applied_writes}

-- `applied INDEX/ID VERSION KIND` and a line end
abbrev pub applied_line : Write → List ℕ
applied_line w =
    codes "applied " ++ (document_of w.key).index ++ codes "/" ++ (document_of w.key).id ++ codes " " ++ decimal w.version ++ codes " "
    ++ kind_name (kind_of w.action) ++ codes "\n"

-- the lines of all writes that were applied to these documents, document by document
abbrev pub listing : State → List DocKey → List ℕ
listing s keys = flat_map (λ key. flat_map applied_line (applied_writes s (document_of key))) keys

-- this is the listing of the documents of an index, in order
pub record IsListing (s : State) (text : List ℕ) : Type 0 where
  pub keys : List DocKey
  pub all : AreKeys s keys
  pub text_is : text ≡ listing s keys
