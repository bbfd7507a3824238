-- The items of a request, run on an index.
use Rattle.std.specs.Prelude.{◌≡◌, ℕ, List, [], ◌∷◌, Some, Result, Ok, Err, slice_get}
use Rattle.std.specs.declared.vec.Vec.{Vec}
use Rattle.relay_action.specs.declared.write.Write.{Write}
use Rattle.relay_index.specs.States.{State}
use Rattle.relay_index.specs.Runs.{Shows}
use Rattle.relay_results.specs.declared.outcome.Outcome.{Outcome}
use Rattle.relay_results.specs.Words.{Mem}
use Rattle.relay_results.specs.Outside.{Unanswered, Ran, Outside, EachWasRun}
use Rattle.relay_lane.specs.Wires.{RunsOn}

-- the request was sent with these writes, and not answered
abbrev pub IsSent : ℕ → List Write → Outside → Type 0
IsSent number ws o = slice_get o.requests number ≡ Some (record { writes = ws; answer = Unanswered })

-- items of a request were run from this place on, and these are their entries: the outside shows the index then, and
-- no run is forgotten
pub record RanSome (number place : ℕ) (s : State) (o : Outside) (found : List Outcome) : Type 0 where
  pub after : Outside
  pub runs : RunsOn o after
  pub shows : Shows after s
  pub same : after.requests ≡ o.requests
  pub keeps : (r : Ran) → Mem r o.runs → Mem r after.runs
  pub each : EachWasRun after.runs number place found

-- the entry, or nothing after a failed allocation
abbrev pub entry_of : {E : Type 0} → Result Outcome E → List Outcome
entry_of (Ok o) = o ∷ []
entry_of (Err e) = []

abbrev pub entries_of : {A E : Type 0} → Result (Vec Outcome A) E → List Outcome
entries_of (Ok os) = os.items
entries_of (Err e) = []
