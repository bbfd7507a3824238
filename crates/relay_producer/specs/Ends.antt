-- A sender's ends after a message and after the close.
use Rattle.std.specs.Prelude.{◌≡◌, ℕ, zero, suc, ◌+◌, ◌<◌, Bool, true, false, List, [], ◌∷◌, ◌++◌, length, map, ◌⊎◌, slice_index_or}
use Rattle.std.specs.List.{sum_by, AllZip}
use Rattle.relay_action.specs.declared.mail.Mail.{Mail}
use Rattle.relay_action.specs.declared.mail.Body.{Body}
use Rattle.relay_action.specs.declared.mail.Body.TheVariants.{Done}
use Rattle.relay_queue.specs.Messages.{message}
use Rattle.relay_queue.specs.Ends.{Queue, SenderEnd}
use Rattle.relay_producer.specs.declared.ends.OpenEnd.{OpenEnd}
use Rattle.relay_producer.specs.declared.ends.ClosedEnd.{ClosedEnd}
use Rattle.relay_producer.specs.declared.ends.ClosedEnd.TheVariants.{Closed, Gone}

-- ---- one end

-- an end of a lane that was not found gone
abbrev pub open_end : SenderEnd → OpenEnd
open_end put = record { put = put; gone = false }

-- the end of a lane that was found gone
abbrev pub with_mark : OpenEnd → OpenEnd
with_mark e = record { put = e.put; gone = true }

-- the end after its sender sent one more message
abbrev pub one_more : Body → SenderEnd → SenderEnd
one_more body put = record { queue = put.queue; sender = put.sender; sent = put.sent ++ message put.sender (length put.sent + 1) body ∷ [] }

-- the end of a lane whose queue took a message
abbrev pub with_sent : Body → OpenEnd → OpenEnd
with_sent body e = record { put = one_more body e.put; gone = e.gone }

-- the lane, which was not found gone, took the message
pub record Takes (body : Body) (old new : OpenEnd) : Type 0 where
  pub reached : old.gone ≡ false
  pub sent : new ≡ with_sent body old

-- the lane took the message; or it is found gone, now or before; or nothing was sent, since that would need a wait, or
-- since its queue takes no more from this sender
abbrev pub IsSent : Body → OpenEnd → OpenEnd → Type 0
IsSent body old new = Takes body old new ⊎ ((new ≡ with_mark old) ⊎ (new ≡ old))

-- the end of a closed sender
abbrev pub end_of : ClosedEnd → SenderEnd
end_of (Closed put) = put
end_of (Gone put) = put

-- whether the lane was found gone
abbrev pub is_gone : ClosedEnd → Bool
is_gone (Closed put) = false
is_gone (Gone put) = true

-- a lane that was not found gone was sent Done; the end of one that was, before or now, is unchanged
abbrev pub Closes : OpenEnd → ClosedEnd → Type 0
Closes old (Closed put) = (old.gone ≡ false) × (put ≡ one_more Done old.put)
Closes old (Gone put) = put ≡ old.put

-- the end is this sender's, and if the lane was not found gone, Done is its last message
abbrev pub IsClosedBy : ℕ → ClosedEnd → Type 0
IsClosedBy sender (Closed put) = (put.sender ≡ sender) × ((front : List Mail) × (put.sent ≡ front ++ message sender (length front + 1) Done ∷ []))
IsClosedBy sender (Gone put) = put.sender ≡ sender

-- ---- the ends of all lanes

-- the ends of the queues, by lane
abbrev pub open_puts : List OpenEnd → List SenderEnd
open_puts ends = map (λ e. e.put) ends

abbrev pub closed_puts : List ClosedEnd → List SenderEnd
closed_puts ends = map end_of ends

-- the queue of an end, and the number of its sender
abbrev pub identity : SenderEnd → Queue × ℕ
identity put = (put.queue, put.sender)

abbrev pub identities : List SenderEnd → List (Queue × ℕ)
identities puts = map identity puts

-- the lane is marked
abbrev pub is_gone_at : List OpenEnd → ℕ → Bool
is_gone_at [] lane = false
is_gone_at (e ∷ es) zero = e.gone
is_gone_at (e ∷ es) (suc lane) = is_gone_at es lane

-- the ends, with a change to that of this lane
abbrev pub change_at : ℕ → (OpenEnd → OpenEnd) → List OpenEnd → List OpenEnd
change_at lane change [] = []
change_at zero change (e ∷ es) = change e ∷ es
change_at (suc lane) change (e ∷ es) = e ∷ change_at lane change es

-- the number of queues that took the message
abbrev pub count_sent : List OpenEnd → ℕ
count_sent ends = sum_by (λ e. length e.put.sent) ends

-- the message was sent to each lane
pub record IsSentToAll (body : Body) (old new : List OpenEnd) : Type 0 where
  pub lanes : length new ≡ length old
  pub each : (lane : ℕ) (d : OpenEnd) → lane < length old → IsSent body (slice_index_or old lane d) (slice_index_or new lane d)

-- the end of each lane was closed
abbrev pub ClosesAll : List OpenEnd → List ClosedEnd → Type 0
ClosesAll old new = AllZip Closes old new
