-- The requests that workers settle, one after another, and what their producers have put and taken by then.
use Rattle.std.specs.Prelude.{◌≡◌, ℕ, ◌+◌, ◌<◌, List, [], ◌∷◌, flat_map}
use Rattle.relay_action.specs.declared.operation.Op.{Op}
use Rattle.relay_queue.specs.Ends.{Queue}
use Rattle.relay_receipts.specs.Ends.{TakeEnd}
use Rattle.relay_receipts.specs.Windows.{WindowState}
use Rattle.relay_receipts.specs.declared.notice.Notice.{Notice}
use Rattle.relay_threads.specs.Relay.{new_producer}
use Rattle.relay_common.specs.Putting.{named_ops}
use Rattle.relay_front.specs.declared.ending.End.{End}
use Rattle.relay_front.specs.Operations.{Write}
use Rattle.relay_telling.specs.declared.ending.Ending.{Ending}
use Rattle.relay_serve.specs.Settling.{Settles, puts_in, heard_in}

-- a request: its writes, those of them that were put, the notices that were taken for it, and how each write ended
pub record Request : Type 0 where
  pub writes : List Write
  pub put : List Write
  pub heard : List (Notice Ending)
  pub ends : List End

-- from the first state of the producer on these requests were settled, one after another
abbrev pub AreSettled : List Request → WindowState Ending → WindowState Ending → Type 0
AreSettled [] old new = new ≡ old
AreSettled (r ∷ rs) old new =
    (mid : WindowState Ending) × (settled : Settles old r.writes r.ends mid) × (puts_in settled.events ≡ r.put) × (heard_in settled.events ≡ r.heard)
    × AreSettled rs mid new

-- all that was put for these requests, in order
abbrev pub all_put : List Request → List Write
all_put rs = flat_map (λ r. r.put) rs

-- the operations that each worker put for these requests, under its producer's names
abbrev pub ops_of : ℕ → (ℕ → List Request) → ℕ → List Op
ops_of epoch requests p = named_ops epoch p 1 (all_put (requests p))

-- the notices that were taken for these requests, in order
abbrev pub taken_by : List Request → List (Notice Ending)
taken_by rs = flat_map (λ r. r.heard) rs

-- The worker with this number settled these requests, one after another, with a producer of its own, which had put nothing; and
-- exactly what was taken for them was taken from this end of its channel.
pub record HasSettled (queues : List Queue) (epoch p : ℕ) (requests : List Request) (receipts : TakeEnd Ending) : Type 0 where
  pub start : WindowState Ending
  pub last : WindowState Ending
  pub new : start.producer ≡ new_producer queues epoch p
  pub settled : AreSettled requests start last
  pub took : receipts.taken ≡ taken_by requests

-- the workers numbered p, p + 1 and so on, each with one of these ends, settled these requests
abbrev pub WorkersSettled : List Queue → ℕ → (ℕ → List Request) → ℕ → List (TakeEnd Ending) → Type 0
WorkersSettled queues epoch requests p [] = Unit {0}
WorkersSettled queues epoch requests p (t ∷ ts) =
    HasSettled queues epoch p (requests p) t × WorkersSettled queues epoch requests (p + 1) ts

-- for the ones and for the others the same was put by each of so many workers
abbrev pub HaveSamePuts : ℕ → (ones others : ℕ → List Request) → Type 0
HaveSamePuts count ones others = (p : ℕ) → p < count → all_put (ones p) ≡ all_put (others p)
