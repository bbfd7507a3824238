-- What a lane comes to whose calls an outside explains. Nothing is asked of a wire: the lane's requests and the answers
-- that it was given are those of its calls, whatever carried them.
use Rattle.std.specs.Prelude.{◌≡◌, ℕ, ◌<◌, List, [], ◌∷◌, Some}
use Rattle.relay_action.specs.declared.operation.Op.{Op}
use Rattle.relay_results.specs.Documents.{Document}
use Rattle.relay_results.specs.Numbers.{from_zero}
use Rattle.relay_results.specs.Outside.{Ran, Outside, IsOpening, MayRun, MayAnswer, after}
use Rattle.relay_results.specs.Outside as outside
use Rattle.relay_delivery.specs.Delivery.{IsSound, IsComplete, HasDistinctNames, applied_ops}
use Rattle.relay_delivery.specs.Lane.{State, Fits, writes_of_all}
use Rattle.relay_delivery.specs.Reach.{Call, Takes, Ticks, Sends, Answers, Reached}

-- items were run, one after another
abbrev pub after_runs : List Ran → Outside → Outside
after_runs [] o = o
after_runs (r ∷ rs) o = after_runs rs (after (outside.Runs r) o)

abbrev pub AllMayRun : List Ran → Outside → Type 0
AllMayRun [] o = Unit {0}
AllMayRun (r ∷ rs) o = MayRun o r × AllMayRun rs (after (outside.Runs r) o)

-- what a call of the lane is to the outside: a request is sent, or answered, or it is no concern of it
abbrev pub met : Call → Outside → Outside
met (Takes o bytes) s = s
met (Ticks clock) s = s
met (Sends chosen) s = after (outside.Sends (writes_of_all chosen)) s
met (Answers number a) s = after (outside.Answers (from_zero number) a) s

-- only an answer is up to the outside, and it is honest
abbrev pub MayMeet : Call → Outside → Type 0
MayMeet (Takes o bytes) s = Unit {0}
MayMeet (Ticks clock) s = Unit {0}
MayMeet (Sends chosen) s = Unit {0}
MayMeet (Answers number a) s = MayAnswer s (from_zero number) a

-- The outside at the end explains these calls, from the one at the start on: before each call, and after the last,
-- items of requests that were sent were run, any number of them, and each answer is honest.
abbrev pub Explains : List Call → Outside → Outside → Type 0
Explains [] old new = (runs : List Ran) × AllMayRun runs old × (new ≡ after_runs runs old)
Explains (c ∷ cs) old new = (runs : List Ran) × AllMayRun runs old × MayMeet c (after_runs runs old) × Explains cs (met c (after_runs runs old)) new

-- nothing was sent at the start, and each stored version is below the first one assigned
pub record Begins (first : ℕ) (o : Outside) : Type 0 where
  pub opening : IsOpening o
  pub below : (k : Document) (u : ℕ) → o.stored k ≡ Some u → u < first

-- delivery is sound for the outside that explains the calls, and complete if nothing is held
abbrev pub ExplainedFits : Type 0
ExplainedFits = (s : State) (taken : List Op) (r : Reached s taken) (o p : Outside) → Begins s.config.first o → Explains r.calls o p → Fits s taken p

abbrev pub ExplainedIsSound : Type 0
ExplainedIsSound =
    (s : State) (taken : List Op) (r : Reached s taken) (o p : Outside) → Begins s.config.first o → Explains r.calls o p → HasDistinctNames taken →
    IsSound s.config taken s.reports p (applied_ops s.config taken p)

abbrev pub ExplainedIsComplete : Type 0
ExplainedIsComplete =
    (s : State) (taken : List Op) (r : Reached s taken) (o p : Outside) → Begins s.config.first o → Explains r.calls o p → HasDistinctNames taken → s.held ≡ [] →
    IsComplete taken s.reports (applied_ops s.config taken p)
