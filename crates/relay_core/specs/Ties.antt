-- Each call of a lane is a step of delivery, or does not concern it: a lane that fits an outside still fits afterwards.
use Rattle.std.specs.Prelude.{◌≡◌, ℕ, List, [], ◌∷◌, ◌++◌, Some, true, ◌<◌}
use Rattle.relay_action.specs.declared.operation.Op.{Op}
use Rattle.relay_action.specs.declared.mail.Body.{Body}
use Rattle.relay_action.specs.declared.mail.Body.TheVariants as body
use Rattle.relay_batch.specs.declared.item.BatchItem.{BatchItem}
use Rattle.relay_results.specs.Documents.{Document}
use Rattle.relay_results.specs.Numbers.{from_zero}
use Rattle.relay_results.specs.Outside.{Answer, Outside, Ran, Sends, Runs, Answers, IsOpening, MayRun, MayAnswer, after}
use Rattle.relay_delivery.specs.Machine.{first_in}
use Rattle.relay_delivery.specs.Lane as delivery
use Rattle.relay_delivery.specs.Lane.{writes_of_all}
use Rattle.relay_core.specs.declared.config.RelayConfig.{RelayConfig}
use Rattle.relay_core.specs.State.{State, fresh, after_take, is_flying, after_answer_to, next_batch, next_entries, after_request}

-- a lane that took these operations and an outside came about by the same steps
abbrev pub Fits : State → List Op → Outside → Type 0
Fits s taken out = delivery.Fits s.core taken out

-- the operation of a message, if it has one
abbrev pub ops_of : Body → List Op
ops_of (body.Put o) = o ∷ []
ops_of body.Tick = []
ops_of body.Flush = []
ops_of body.Done = []

-- a fresh lane fits an outside in which nothing was sent and every stored version is below the first one assigned
abbrev pub FreshFits : Type 0
FreshFits =
    (c : RelayConfig) (out : Outside) → IsOpening out →
    ((k : Document) (u : ℕ) → out.stored k ≡ Some u → u < first_in c.epoch) →
    Fits (fresh c) [] out

abbrev pub TakeFits : Type 0
TakeFits =
    (s : State) (sender : ℕ) (b : Body) (taken : List Op) (out : Outside) → Fits s taken out →
    Fits (after_take s sender b) (taken ++ ops_of b) out

-- the operations of the next request are sent
abbrev pub RequestFits : Type 0
RequestFits =
    (s : State) (items : List BatchItem) (taken : List Op) (out : Outside) → next_batch s ≡ Some items → Fits s taken out →
    Fits (after_request s (next_batch s)) taken (after (Sends (writes_of_all (next_entries s))) out)

-- an item is run meanwhile, and the lane is unchanged
abbrev pub RunFits : Type 0
RunFits = (s : State) (r : Ran) (taken : List Op) (out : Outside) → MayRun out r → Fits s taken out → Fits s taken (after (Runs r) out)

-- an honest answer to a request in flight
abbrev pub AnswerFits : Type 0
AnswerFits =
    (s : State) (number : ℕ) (a : Answer) (taken : List Op) (out : Outside) → is_flying number s ≡ true →
    MayAnswer out (from_zero number) a → Fits s taken out →
    Fits (after_answer_to s number a) taken (after (Answers (from_zero number) a) out)
