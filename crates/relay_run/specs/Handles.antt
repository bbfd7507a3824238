-- The threads of producers, and their state at the end.
use Rattle.std.specs.Prelude.{ℕ, List, [], ◌∷◌, Option, option_map, string_bytes}
use Rattle.std.specs.declared.thread.PromisedHandle.{PromisedHandle}
use Rattle.relay_producer.specs.States.{ProducerState, ClosedProducerState}
use Rattle.relay_run.specs.declared.feed.FeedFault.{FeedFault}
use Rattle.relay_run.specs.declared.producing.FedProducer.{FedProducer}
use Rattle.relay_run.specs.declared.producing.FedPromise.{FedPromise}
use Rattle.relay_run.specs.Readers.{IsFed, first_reader, other_readers}
use Rattle.relay_run.specs.Settling.{Tellings}

-- what a producer's thread is given: the producer, its reader, if it has one, and the index of operations that do not
-- name one
abbrev pub Given : Type 0 → Type 0
Given S = ProducerState × Option S × Option (List ℕ)

module _ {S : Type 0} where
  abbrev pub given_to : PromisedHandle FedProducer (FedPromise S) → Given S
  given_to h = (h.promise.producer.value, h.promise.reader.value, option_map string_bytes h.promise.index.value)

  -- what it tells by
  abbrev pub telling_of : PromisedHandle FedProducer (FedPromise S) → Tellings
  telling_of h = h.promise.telling.value

  -- each producer with the reader at its position
  abbrev pub all_given : Option (List ℕ) → List (Option S) → List ProducerState → List (Given S)
  all_given index readers [] = []
  all_given index readers (p ∷ ps) = (p, first_reader readers, index) ∷ all_given index (other_readers readers) ps

  -- what it is given, and what it tells by
  abbrev pub given_telling : PromisedHandle FedProducer (FedPromise S) → Given S × Tellings
  given_telling h = (given_to h, telling_of h)

  -- a thread that was given this has ended with this closed producer, with what it told by, and with this fault
  abbrev pub EndsFed : (S → Option (List ℕ)) → (S → ℕ) → Given S × Tellings → ClosedProducerState → Tellings → Option FeedFault → Type 0
  EndsFed left failed g closed now fault = IsFed left failed g.0.2 g.0.1 g.0.0 closed g.1 now fault

  -- this holds for all threads, in order
  abbrev pub AllEndFed : (S → Option (List ℕ)) → (S → ℕ) → List (Given S × Tellings) → List ClosedProducerState → List Tellings → List (Option FeedFault) → Type 0
  AllEndFed left failed [] [] [] [] = Unit {0}
  AllEndFed left failed [] [] [] (f ∷ fs) = ⊥
  AllEndFed left failed [] [] (n ∷ ns) fs = ⊥
  AllEndFed left failed [] (c ∷ cs) ns fs = ⊥
  AllEndFed left failed (g ∷ gs) [] ns fs = ⊥
  AllEndFed left failed (g ∷ gs) (c ∷ cs) [] fs = ⊥
  AllEndFed left failed (g ∷ gs) (c ∷ cs) (n ∷ ns) [] = ⊥
  AllEndFed left failed (g ∷ gs) (c ∷ cs) (n ∷ ns) (f ∷ fs) = EndsFed left failed g c n f × AllEndFed left failed gs cs ns fs
