-- The lines that answer events.
use Rattle.std.specs.Prelude.{◌≡◌, ℕ, ◌+◌, List, [], ◌∷◌, ◌++◌, codes, decimal, None}
use Rattle.std.specs.List.{flat_map}
use Rattle.relay_action.specs.declared.key.DocKey.{DocKey}
use Rattle.relay_ndjson.specs.Bulk.{line_end}
use Rattle.relay_core.specs.declared.settled.Settled.{Settled}
use Rattle.relay_words.specs.Texts.{spaced_number, name_text, document_text}
use Rattle.relay_world.specs.declared.event.Refusal.{Refusal}
use Rattle.relay_world.specs.declared.event.Refusal.TheVariants as no
use Rattle.relay_world.specs.declared.event.StepAnswer.{StepAnswer}
use Rattle.relay_world.specs.declared.event.StepAnswer.TheVariants as answer
use Rattle.relay_world.specs.State.{World, write_at}
use Rattle.relay_world.specs.Memory.{IsWriteAt}

abbrev pub refusal_name : Refusal → List ℕ
refusal_name no.Closed = codes "Closed"
refusal_name no.QueueFull = codes "QueueFull"
refusal_name no.NothingQueued = codes "NothingQueued"
refusal_name no.HeldFull = codes "HeldFull"
refusal_name no.NoRequest = codes "NoRequest"
refusal_name no.NotSent = codes "NotSent"
refusal_name no.NotFlying = codes "NotFlying"
refusal_name no.NotRun = codes "NotRun"
refusal_name no.BadStatus = codes "BadStatus"
refusal_name no.NoSuch = codes "NoSuch"
refusal_name no.NumbersSpent = codes "NumbersSpent"
refusal_name no.NotAbove = codes "NotAbove"

-- how the operations of a request ended: applied by it, already applied, reported, to be sent again
abbrev pub counts_text : Settled → List ℕ
counts_text counts = spaced_number counts.applied ++ spaced_number counts.already ++ spaced_number counts.reported ++ spaced_number counts.retried

-- the document and the version of an item, ` INDEX/ID@VERSION`
abbrev pub item_text : DocKey × ℕ → List ℕ
item_text i = codes " " ++ document_text i.0 ++ codes "@" ++ decimal i.1

-- these are the documents and versions of the items of a request from this one on, and there are no others
abbrev pub AreItems : World → ℕ → ℕ → List (DocKey × ℕ) → Type 0
AreItems w request item [] = write_at w request item ≡ None
AreItems w request item (i ∷ is) = IsWriteAt w request item i.0 i.1 × AreItems w request (item + 1) is

-- the answer to an event, given the world after it
abbrev pub IsAnswer : World → StepAnswer → List ℕ → Type 0
IsAnswer w (answer.Refused refusal) text = text ≡ codes "no " ++ refusal_name refusal
IsAnswer w (answer.Put name) text = text ≡ codes "ok " ++ name_text name
IsAnswer w (answer.Sent request) text =
    (items : List (DocKey × ℕ)) × AreItems w request 1 items × (text ≡ codes "ok" ++ spaced_number request ++ flat_map item_text items)
IsAnswer w (answer.Ran status) text = text ≡ codes "ok" ++ spaced_number status
IsAnswer w (answer.Settled counts) text = text ≡ codes "ok" ++ counts_text counts
IsAnswer w answer.Done text = text ≡ codes "ok"

-- the same with the line end
abbrev pub IsAnswerLine : World → StepAnswer → List ℕ → Type 0
IsAnswerLine w x line = (text : List ℕ) × IsAnswer w x text × (line ≡ text ++ line_end)

-- the items of a request were added to a text
abbrev pub AddsItems : World → ℕ → List ℕ → List ℕ → Type 0
AddsItems w request before after = (items : List (DocKey × ℕ)) × AreItems w request 1 items × (after ≡ before ++ flat_map item_text items)
