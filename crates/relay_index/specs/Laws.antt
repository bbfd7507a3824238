-- What follows for runs of writes.
use Rattle.std.specs.Prelude.{◌≡◌, Some, None, IsTrue}
use Rattle.relay_action.specs.declared.action.Action.TheVariants.{Delete}
use Rattle.relay_action.specs.declared.write.Write.{Write}
use Rattle.relay_results.specs.declared.done.DoneResult.TheVariants as done
use Rattle.relay_results.specs.declared.done.ItemDone.{ItemDone}
use Rattle.relay_results.specs.Documents.{Document, document_of, source_of}
use Rattle.relay_index.specs.declared.choice.Choice.{Choice}
use Rattle.relay_index.specs.declared.choice.Choice.TheVariants.{Run}
use Rattle.relay_index.specs.States.{State, applied_writes, stored_version, live}
use Rattle.relay_results.specs.Outside.{Outside, Ran, IsOutcomeOf, ran_of}
use Rattle.relay_index.specs.Runs.{is_run, RunsOne, Shows, outcome_of_run}
use Rattle.relay_index.specs.Plans.{Plan, choice_at}
use Rattle.relay_index.specs.Choices.{MayChoose}

-- A run of a write is a run of the outside: its outcome is possible for the stored version, and if an outside shows
-- the index before the run, the outside with the run recorded shows the index after it.
pub record IsRunOfOutside (old : State) (w : Write) (item : ItemDone) (new : State) : Type 0 where
  pub outcome : IsOutcomeOf (stored_version old (document_of w.key)) w (outcome_of_run item)
  pub shows : (o : Outside) (r : Ran) → Shows o old → r.outcome ≡ outcome_of_run item → Shows (ran_of o r (Some w)) new

-- the same for each write of a request that is served
abbrev pub RunIsOfOutside : Type 0
RunIsOfOutside = (old new : State) (w : Write) (choice : Choice) (item : ItemDone)
    → MayChoose choice → RunsOne old w choice item new → IsRunOfOutside old w item new

-- an applied write determines the version and the source of its document
abbrev pub AppliedIsStored : Type 0
AppliedIsStored = (old new : State) (w : Write) (choice : Choice) (item : ItemDone)
    → RunsOne old w choice item new → IsTrue (is_run old w choice)
    → (stored_version new (document_of w.key) ≡ Some w.version) × (live new (document_of w.key) ≡ source_of w.action)

-- a deleted document no longer exists, and keeps its version
abbrev pub DeletedKeepsVersion : Type 0
DeletedKeepsVersion = (old new : State) (w : Write) (choice : Choice) (item : ItemDone)
    → RunsOne old w choice item new → IsTrue (is_run old w choice) → w.action ≡ Delete
    → (stored_version new (document_of w.key) ≡ Some w.version) × (live new (document_of w.key) ≡ None)

-- an applied write that is run again is a conflict, and changes nothing
pub record IsConflictOf (w : Write) (item : ItemDone) (old new : State) : Type 0 where
  pub status : item.status ≡ 409
  pub result : item.result ≡ done.Conflict
  pub lists : (k : Document) → applied_writes new k ≡ applied_writes old k
  pub count : new.count ≡ old.count

abbrev pub RepeatIsConflict : Type 0
RepeatIsConflict = (old mid new : State) (w : Write) (choice : Choice) (item again : ItemDone)
    → RunsOne old w choice item mid → IsTrue (is_run old w choice) → RunsOne mid w Run again new
    → IsConflictOf w again mid new

-- a script chooses only what an index may choose
abbrev pub ScriptsMay : Type 0
ScriptsMay = (plan : Plan) → MayChoose (choice_at plan)
