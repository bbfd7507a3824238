-- How a producer is fed the operations of an input.
use Rattle.std.specs.Prelude.{◌≡◌, ℕ, ◌+◌, ◌<◌, ◌^◌, List, [], ◌∷◌, ◌++◌, Result, Ok, Err}
use Rattle.relay_action.specs.declared.action.Action.{Action}
use Rattle.relay_action.specs.declared.action.Action.TheVariants.{Index, Delete}
use Rattle.relay_action.specs.declared.key.DocKey.{DocKey}
use Rattle.relay_ndjson.specs.Operations.{Operation, failed_after, saturating_count}
use Rattle.relay_ndjson.specs.Reading.{Reading, Takes, Ends, Fails}
use Rattle.relay_words.specs.Taken.{TakesAll}
use Rattle.relay_resume.specs.declared.mark.Mark.{Mark}
use Rattle.relay_resume.specs.declared.mark.Place.{Place}
use Rattle.relay_resume.specs.Places.{place_behind}
use Rattle.relay_producer.specs.declared.fault.PutFaultKind.{PutFaultKind}
use Rattle.relay_producer.specs.declared.fault.PutFaultKind.TheVariants as refusal
use Rattle.relay_producer.specs.States.{ProducerState, after_put, after_gone}
use Rattle.relay_common.specs.Putting.{after_puts}
use Rattle.relay_run.specs.declared.feed.Next.{Next}
use Rattle.relay_run.specs.declared.feed.Next.TheVariants as next
use Rattle.relay_run.specs.declared.feed.FeedFault.{FeedFault}
use Rattle.relay_run.specs.declared.feed.FeedFault.TheVariants as fault
use Rattle.relay_run.specs.Settling.{Tellings}

-- Why no more was put: only blank lines were left; or what follows has a fault, or a read or an allocation for it
-- failed; or there is one more operation, but no number is left for it or its lane is gone; or it was told to stop, and
-- nothing more was read.
abbrev pub Stops : Reading → Reading → ProducerState → ProducerState → Result Unit FeedFault → Type 0
Stops rest new fed after (Ok u) = Ends rest new × (after ≡ fed)
Stops rest new fed after (Err (fault.Input e)) = Fails rest new e × (after ≡ fed)
Stops rest new fed after (Err fault.NumbersSpent) =
    (n : ℕ) × (op : Operation) × Takes rest new n op × (fed.put ≡ 2 ^ 40) × (after ≡ fed)
Stops rest new fed after (Err fault.LaneGone) =
    (n : ℕ) × (op : Operation) × Takes rest new n op × (after ≡ after_gone op.0 fed)
Stops rest new fed after (Err fault.Stopped) = (new ≡ rest) × (after ≡ fed)

-- the fault for the refusal of a put
abbrev pub fault_of : PutFaultKind → FeedFault
fault_of refusal.LaneGone = fault.LaneGone
fault_of refusal.NumbersSpent = fault.NumbersSpent

-- what a put does
abbrev pub Puts : DocKey → Action → ProducerState → ProducerState → Result Unit FeedFault → Type 0
Puts key action old new (Ok u) = (old.put < 2 ^ 40) × (new ≡ after_put key action old)
Puts key action old new (Err (fault.Input e)) = ⊥
Puts key action old new (Err fault.NumbersSpent) = (old.put ≡ 2 ^ 40) × (new ≡ old)
Puts key action old new (Err fault.LaneGone) = new ≡ after_gone key old
Puts key action old new (Err fault.Stopped) = ⊥

-- what one step does
abbrev pub FeedsNext : Reading → Reading → ProducerState → ProducerState → Result Next FeedFault → Type 0
FeedsNext old new before after (Ok next.Put) =
    (n : ℕ) × (op : Operation) × Takes old new n op × (before.put < 2 ^ 40) × (after ≡ after_put op.0 op.1 before)
FeedsNext old new before after (Ok next.Ended) = Ends old new × (after ≡ before)
FeedsNext old new before after (Err e) = Stops old new before after (Err e)

-- Some operations were taken from the front of the input, and the producer put them in that order; the result says why
-- there were no more.
pub record Feeds (old new : Reading) (before after : ProducerState) (result : Result Unit FeedFault) : Type 0 where
  pub ops : List Operation
  pub rest : Reading
  pub taken : TakesAll old rest ops
  pub stops : Stops rest new (after_puts before ops) after result

-- ---- the places that are told

-- the number of the last line of an operation, given that of its action line: a source follows an index action
abbrev pub last_line : ℕ → Action → ℕ
last_line line (Index source) = saturating_count (line + 1)
last_line line Delete = line

-- where an operation ends that was just read of an input from a mark on: behind its last line, and all bytes that were used
abbrev pub end_of : Mark → Reading → Operation → Place
end_of start r op = place_behind start (last_line r.line op.1) r.used

-- where operations end that were taken one after another
abbrev pub ends_of : (start : Mark) (old new : Reading) (ops : List Operation) → TakesAll old new ops → List Place
ends_of start old new [] taken = []
ends_of start old new (op ∷ ops) taken = end_of start taken.1 op ∷ ends_of start taken.1 new ops taken.3

-- where the operation ends that was read, but not put, if there is one
abbrev pub refused_end : (start : Mark) (rest new : Reading) (fed after : ProducerState) (result : Result Unit FeedFault) → Stops rest new fed after result → List Place
refused_end start rest new fed after (Ok u) stops = []
refused_end start rest new fed after (Err (fault.Input e)) stops = []
refused_end start rest new fed after (Err fault.NumbersSpent) stops = end_of start new stops.1 ∷ []
refused_end start rest new fed after (Err fault.LaneGone) stops = end_of start new stops.1 ∷ []
refused_end start rest new fed after (Err fault.Stopped) stops = []

-- where the operation ends that was read in one step, if one was
abbrev pub next_end : (start : Mark) (old new : Reading) (before after : ProducerState) (result : Result Next FeedFault) → FeedsNext old new before after result → List Place
next_end start old new before after (Ok next.Put) feeds = end_of start new feeds.1 ∷ []
next_end start old new before after (Ok next.Ended) feeds = []
next_end start old new before after (Err e) feeds = refused_end start old new before after (Err e) feeds

abbrev pub with_places : Tellings → List Place → Tellings
with_places told places = record told { places = told.places ++ places }

-- One step, in which the operation that was read, if one was, was told by where it ends.
abbrev pub FeedsTelling : Reading → Reading → ProducerState → ProducerState → (told now : Tellings) → Result Next FeedFault → Type 0
FeedsTelling old new before after told now result =
    (feeds : FeedsNext old new before after result) × (now ≡ with_places told (next_end told.start old new before after result feeds))

-- The feeding, in which each operation that was read was told by where it ends, in order.
abbrev pub FeedsAllTelling : Reading → Reading → ProducerState → ProducerState → (told now : Tellings) → Result Unit FeedFault → Type 0
FeedsAllTelling old new before after told now result =
    (feeds : Feeds old new before after result)
    × (now ≡ with_places told (ends_of told.start old feeds.rest feeds.ops feeds.taken ++ refused_end told.start feeds.rest new (after_puts before feeds.ops) after result feeds.stops))

-- the number of failed calls of the reader after this result
abbrev pub failed_by : {T : Type 0} → Result T FeedFault → ℕ → ℕ
failed_by (Err (fault.Input e)) n = failed_after {T = Unit} (Err e) n
failed_by other n = n
