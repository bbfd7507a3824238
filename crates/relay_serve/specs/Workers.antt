-- Producers and their ends of channels, as workers are given them.
use Rattle.std.specs.Prelude.{◌≡◌, List, [], ◌∷◌}
use Rattle.std.specs.declared.thread.PromisedHandle.{PromisedHandle}
use Rattle.relay_producer.specs.States.{ProducerState, ClosedProducerState}
use Rattle.relay_receipts.specs.Ends.{Channel, TakeEnd}
use Rattle.relay_receipts.specs.Windows.{WindowState}
use Rattle.relay_telling.specs.declared.ending.Ending.{Ending}
use Rattle.relay_serve.specs.declared.entry.Spoken.{Spoken}
use Rattle.relay_serve.specs.declared.worker.Settings.{Settings}
use Rattle.relay_serve.specs.declared.workers.WorkerPromise.{WorkerPromise}
use Rattle.relay_serve.specs.Answering.{Given, given_by, index_in}

-- as many producers as ends; the producers have put nothing, and nothing was taken from the ends
abbrev pub AreUnused : List ProducerState → List (TakeEnd Ending) → Type 0
AreUnused [] [] = Unit {0}
AreUnused [] (t ∷ ts) = ⊥
AreUnused (p ∷ ps) [] = ⊥
AreUnused (p ∷ ps) (t ∷ ts) = (p.put ≡ 0) × (t.taken ≡ []) × AreUnused ps ts

-- the producer itself
abbrev pub producer_in : WindowState Ending → ProducerState
producer_in w = w.producer

-- its end of the channel of its receipts, and the channel
abbrev pub receipts_in : WindowState Ending → TakeEnd Ending
receipts_in w = w.receipts

abbrev pub channel_in : WindowState Ending → Channel Ending
channel_in w = w.receipts.channel

-- what a worker was given
abbrev pub given_as : Settings → WindowState Ending → Given
given_as settings producer = given_by settings.face (index_in settings.index) producer

-- what a worker's thread was given
abbrev pub given_to : PromisedHandle (ClosedProducerState × TakeEnd Ending × Spoken) WorkerPromise → Given
given_to h = given_as h.promise.settings.value h.promise.producer.value
