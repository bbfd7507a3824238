-- What the producers of a run were fed, and what they put.
use Rattle.std.specs.Prelude.{◌≡◌, ℕ, ◌+◌, List, [], ◌∷◌, Option, None, Some, Result, Ok, Err}
use Rattle.relay_ndjson.specs.Operations.{Operation}
use Rattle.relay_ndjson.specs.Reading.{Reading, fresh}
use Rattle.relay_queue.specs.Ends.{Queue}
use Rattle.relay_producer.specs.Ends.{ClosesAll}
use Rattle.relay_producer.specs.States.{ProducerState, ClosedProducerState}
use Rattle.relay_threads.specs.Relay.{new_producer}
use Rattle.relay_common.specs.Identities.{identity_of, identity_of_closed}
use Rattle.relay_run.specs.declared.feed.FeedFault.{FeedFault}
use Rattle.relay_run.specs.Feeding.{FeedsAllTelling}
use Rattle.relay_run.specs.Settling.{Tellings}

-- the result of `feed` with this fault, if there is one
abbrev pub answer_of : Option FeedFault → Result Unit FeedFault
answer_of None = Ok tt
answer_of (Some fault) = Err fault

-- the first reader, and the others
abbrev pub first_reader : {S : Type 0} → List (Option S) → Option S
first_reader [] = None
first_reader (r ∷ rs) = r

abbrev pub other_readers : {S : Type 0} → List (Option S) → List (Option S)
other_readers [] = []
other_readers (r ∷ rs) = rs

-- the readers are streams; operations that do not name an index have this one, if one is given
module _ {S : Type 0} (left : S → Option (List ℕ)) (failed : S → ℕ) (index : Option (List ℕ)) where
  -- The producer was fed these operations, from the front of the reader, and put them, and each operation that was read was
  -- told by where it ends; without a reader it was fed none.
  abbrev pub IsFedFrom : Option S → List Operation → ProducerState → ProducerState → (told now : Tellings) → Option FeedFault → Type 0
  IsFedFrom None ops before after told now fault = (ops ≡ []) × (after ≡ before) × (fault ≡ None) × (now ≡ told)
  IsFedFrom (Some reader) ops before after told now fault =
      (new : Reading) × (fed : FeedsAllTelling (fresh (left reader) (failed reader) index) new before after told now (answer_of fault)) × (fed.0.ops ≡ ops)

  -- the producer was fed from its reader, and closed
  pub record IsFed (reader : Option S) (before : ProducerState) (closed : ClosedProducerState) (told now : Tellings) (fault : Option FeedFault) : Type 0 where
    pub ops : List Operation
    pub after : ProducerState
    pub fed : IsFedFrom reader ops before after told now fault
    pub closes : ClosesAll after.ends closed.ends
    pub same : (closed.producer ≡ after.producer) × (closed.put ≡ after.put)
    pub identity : identity_of_closed closed ≡ identity_of before

  -- The producers numbered p, p + 1 and so on, each of which had put nothing, were fed these operations, each from the reader at
  -- its position. This is what each of them had told before, and what it had told at the end, and these are the faults that
  -- ended the feeding.
  abbrev pub AreFedFrom : List Queue → ℕ → (ℕ → List Operation) → ℕ → List (Option S) → (told now : List Tellings) → List (Option FeedFault) → Type 0
  AreFedFrom queues epoch ops p readers [] [] [] = Unit {0}
  AreFedFrom queues epoch ops p readers [] [] (fault ∷ faults) = ⊥
  AreFedFrom queues epoch ops p readers [] (n ∷ now) faults = ⊥
  AreFedFrom queues epoch ops p readers (t ∷ told) [] faults = ⊥
  AreFedFrom queues epoch ops p readers (t ∷ told) (n ∷ now) [] = ⊥
  AreFedFrom queues epoch ops p readers (t ∷ told) (n ∷ now) (fault ∷ faults) =
      ((after : ProducerState) × IsFedFrom (first_reader readers) (ops p) (new_producer queues epoch p) after t n fault)
      × AreFedFrom queues epoch ops (p + 1) (other_readers readers) told now faults
