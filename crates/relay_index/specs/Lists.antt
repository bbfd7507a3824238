-- The lists of an index after one more write.
use Rattle.std.specs.Prelude.{List, [], ◌∷◌, ◌++◌, if◌then◌else◌}
use Rattle.relay_action.specs.Streams.{one_more}
use Rattle.relay_action.specs.declared.key.DocKey.{DocKey}
use Rattle.relay_action.specs.declared.write.Write.{Write}
use Rattle.relay_results.specs.Documents.{document_of, same_document}
use Rattle.relay_index.specs.declared.choice.Choice.{Choice}
use Rattle.relay_index.specs.States.{State}
use Rattle.relay_index.specs.Runs.{is_run}

-- the write is at the end of its document's list; a document that had none comes last
abbrev pub with_write : List (DocKey × List Write) → Write → List (DocKey × List Write)
with_write [] w = (w.key, w ∷ []) ∷ []
with_write (e ∷ es) w =
    if same_document (document_of w.key) (document_of e.0) then (e.0, e.1 ++ w ∷ []) ∷ es else e ∷ with_write es w

-- the index after the write was applied
abbrev pub index_after : State → Write → State
index_after s w = record { documents = with_write s.documents w; count = one_more s.count; states = s.states }

-- the index after it ran or refused the write
abbrev pub after_run : State → Write → Choice → State
after_run s w choice = if is_run s w choice then index_after s w else s
