-- What settling writes does to a worker's producer, and how the writes end.
use Rattle.std.specs.Prelude.{◌≡◌, ◌⊎◌, ℕ, ◌+◌, ◌^◌, List, [], ◌∷◌, ◌++◌, length, map, unwrap_or}
use Rattle.relay_action.specs.Lanes.{lane_of_document}
use Rattle.relay_producer.specs.Ends.{identities, open_puts}
use Rattle.relay_producer.specs.States.{ProducerState, after_gone}
use Rattle.relay_receipts.specs.Windows.{WindowState, without_ended}
use Rattle.relay_receipts.specs.declared.notice.Notice.{Notice}
use Rattle.relay_common.specs.Putting.{after_puts}
use Rattle.relay_front.specs.declared.ending.End.{End}
use Rattle.relay_front.specs.declared.ending.End.TheVariants as end
use Rattle.relay_front.specs.Operations.{Write}
use Rattle.relay_telling.specs.declared.ending.Ending.{Ending}
use Rattle.relay_serve.specs.Heard.{said_first}

-- It is the same producer, in the same epoch, with the same ends of the lanes' queues; it is told on the same channel, by as many
-- lanes; and its window is the same.
pub record Stays (old new : WindowState Ending) : Type 0 where
  pub epoch : new.producer.epoch ≡ old.producer.epoch
  pub producer : new.producer.producer ≡ old.producer.producer
  pub ends : identities (open_puts new.producer.ends) ≡ identities (open_puts old.producer.ends)
  pub window : new.window ≡ old.window
  pub channel : new.receipts.channel ≡ old.receipts.channel
  pub lanes : new.receipts.lanes ≡ old.receipts.lanes

-- ---- what happened, and how writes ended by it

-- a write was put, or a notice was taken
pub data Event : Type 0 where
  WasPut : (write : Write) → Event
  WasHeard : (notice : Notice Ending) → Event

abbrev pub puts_in : List Event → List Write
puts_in [] = []
puts_in (WasPut w ∷ es) = w ∷ puts_in es
puts_in (WasHeard n ∷ es) = puts_in es

abbrev pub heard_in : List Event → List (Notice Ending)
heard_in [] = []
heard_in (WasPut w ∷ es) = heard_in es
heard_in (WasHeard n ∷ es) = n ∷ heard_in es

-- The ends of the writes that were put, in order, numbered from this one on, each in the lane of its document: what is said first
-- of a write after it was put; late, if nothing was.
abbrev pub ends_in : (lanes number : ℕ) → List Event → List End
ends_in lanes number [] = []
ends_in lanes number (WasPut w ∷ es) = unwrap_or (said_first (lane_of_document w.0 lanes) number (heard_in es)) end.Late ∷ ends_in lanes (number + 1) es
ends_in lanes number (WasHeard n ∷ es) = ends_in lanes number es

-- how many writes are open after these events, of so many before: a put adds one, and a notice that says how one ended takes it away
abbrev pub open_after : ℕ → List Event → ℕ
open_after n [] = n
open_after n (WasPut w ∷ es) = open_after (n + 1) es
open_after n (WasHeard x ∷ es) = open_after (without_ended x.told n) es

-- ---- why some were not put

-- each of these writes ended so
abbrev pub AreAll : End → List End → Type 0
AreAll e [] = Unit {0}
AreAll e (x ∷ xs) = (x ≡ e) × AreAll e xs

-- After the last put the window was full: as many writes were open as it has.
pub record WasFull (old : WindowState Ending) (events : List Event) : Type 0 where
  pub front : List Event
  pub later : List (Notice Ending)
  pub last : events ≡ front ++ map WasHeard later
  pub full : open_after old.pending front ≡ old.window

-- Of these writes none was put, and the producer is this one now: there are none; or the first found the window full, until the
-- time was over; or it found its lane gone; or no number was left.
abbrev pub AreUnput : WindowState Ending → List Event → List Write → List End → ProducerState → Type 0
AreUnput old events [] ends new = (ends ≡ []) × (new ≡ after_puts old.producer (puts_in events))
AreUnput old events (w ∷ ws) ends new =
    (AreAll end.Unput ends × WasFull old events × (new ≡ after_puts old.producer (puts_in events)))
    ⊎ (AreAll end.Gone ends × (new ≡ after_gone w.0 (after_puts old.producer (puts_in events))))
    ⊎ (AreAll end.Gone ends × (new.put ≡ 2 ^ 40) × (new ≡ after_puts old.producer (puts_in events)))

-- The first writes were put, in their order, and no others. Of those that were, the ends are what the lanes said first of each
-- after its put; the others have ends that say why they were not put.
pub record Settles (old : WindowState Ending) (ws : List Write) (ends : List End) (new : WindowState Ending) : Type 0 where
  pub stays : Stays old new
  pub events : List Event
  pub others : List Write
  pub writes : ws ≡ puts_in events ++ others
  pub taken : new.receipts.taken ≡ old.receipts.taken ++ heard_in events
  pub unput : List End
  pub all : ends ≡ ends_in (length old.producer.ends) (old.producer.put + 1) events ++ unput
  pub count : length unput ≡ length others
  pub why : AreUnput old events others unput new.producer
