-- The world as it is kept in memory, and what always holds of it.
use Rattle.std.specs.Prelude.{◌≡◌, ℕ, ◌+◌, ◌<◌, List, [], ◌∷◌, Option, Some, None, option_map, slice_get, slice_set, slice_index_or, map, Bool, true, false, length}
use Rattle.relay_results.specs.declared.cause.Loss.TheVariants as loss
use Rattle.relay_action.specs.declared.operation.Op.{Op}
use Rattle.relay_action.specs.declared.operation.OpName.{OpName}
use Rattle.relay_action.specs.declared.write.Write.{Write}
use Rattle.relay_action.specs.declared.mail.Mail.{Mail}
use Rattle.relay_action.specs.declared.mail.Body.{Body}
use Rattle.relay_action.specs.declared.mail.Body.TheVariants as body
use Rattle.relay_batch.specs.declared.item.BatchItem.{BatchItem}
use Rattle.relay_core.specs.declared.config.RelayConfig.{RelayConfig}
use Rattle.relay_results.specs.Documents.{name_of, write_for}
use Rattle.relay_results.specs.Outside.{Answer, Unanswered, Items, Whole, Lost, RunOutcome}
use Rattle.relay_core.specs.Limits.{is_valid}
use Rattle.relay_core.specs.State as lane
use Rattle.relay_core.specs.declared.settled.Settled.{Settled}
use Rattle.relay_action.specs.declared.key.DocKey.{DocKey}
use Rattle.relay_world.specs.declared.request.RunDone.{RunDone}
use Rattle.relay_world.specs.declared.request.Given.{Given}
use Rattle.relay_world.specs.declared.request.Given.TheVariants.{Nothing, Entries, Status, Loss}
use Rattle.relay_world.specs.declared.sender.Sender.{Sender}
use Rattle.relay_world.specs.State.{Desk, Item, Sent, World, desk_at, element_at, request_at, op_with, write_at}
use Rattle.relay_world.specs.Changes.{after_send, matched_by}

-- ---- requests

abbrev pub run_outcome : RunDone → RunOutcome
run_outcome r = record { status = r.status; error = r.error }

abbrev pub answer_of : Given → Answer
answer_of Nothing = Unanswered
answer_of (Entries os) = Items os.items
answer_of (Status status) = Whole status None
answer_of Loss = Lost loss.Closed

-- the name and the write are those of an item of a request
pub record IsItemOf (w : World) (request item : ℕ) (name : OpName) (x : Write) : Type 0 where
  pub sent : Sent
  pub was_sent : request_at w request ≡ Some sent
  pub its_item : Item
  pub stands : element_at sent.items item ≡ Some its_item
  pub op : Op
  pub its_op : op_with w sent.lane its_item.version ≡ Some op
  pub name_is : name ≡ name_of op
  pub write_is : x ≡ write_for op its_item.version

-- the document and the version are those of the write of an item
pub record IsWriteAt (w : World) (request item : ℕ) (key : DocKey) (version : ℕ) : Type 0 where
  pub document : option_map (λ (x : Write). x.key) (write_at w request item) ≡ Some key
  pub dealt : option_map (λ (x : Write). x.version) (write_at w request item) ≡ Some version

-- ---- desks

-- each message is of one of the first n senders
abbrev pub AllKnown : ℕ → List Mail → Type 0
AllKnown n [] = Unit {0}
AllKnown n (m ∷ ms) = (m.sender < n) × AllKnown n ms

-- the numbers of all batches are below this one
abbrev pub AllBelow : ℕ → List (ℕ × List BatchItem) → Type 0
AllBelow n [] = Unit {0}
AllBelow n (b ∷ bs) = (b.0 < n) × AllBelow n bs

-- which senders have closed after a message: a Done closes its sender
abbrev pub closed_by : ℕ → Body → List Bool → List Bool
closed_by sender (body.Put o) cs = cs
closed_by sender body.Tick cs = cs
closed_by sender body.Flush cs = cs
closed_by sender body.Done cs = slice_set cs sender true

-- ... and after messages one after another
abbrev pub closed_after : List Mail → List Bool → List Bool
closed_after [] cs = cs
closed_after (m ∷ ms) cs = closed_after ms (closed_by m.sender m.body cs)

-- the sender of each message has not closed before it
abbrev pub AllOpenYet : List Mail → List Bool → Type 0
AllOpenYet [] cs = Unit {0}
AllOpenYet (m ∷ ms) cs = (slice_index_or cs m.sender false ≡ false) × AllOpenYet ms (closed_by m.sender m.body cs)

-- a sender has closed there once the lane has taken its Done, or will have when it has taken what is queued
pub record IsDesk (d : Desk) : Type 0 where
  pub known : AllKnown (length d.lane.closed) d.queue
  pub senders : length d.senders ≡ length d.lane.closed
  pub open_yet : AllOpenYet d.queue d.lane.closed
  pub closed : map (λ s. s.closed) d.senders ≡ closed_after d.queue d.lane.closed
  pub fresh : AllBelow d.lane.flights.next d.lane.flights.batches

-- the sender is known there, and has not closed there
abbrev pub IsOpenAt : ℕ → Desk → Type 0
IsOpenAt sender d = option_map (λ (s : Sender). s.closed) (slice_get d.senders sender) ≡ Some false

-- ---- the world

-- the desk has the world's config
pub record WorksAs (c : RelayConfig) (d : Desk) : Type 0 where
  pub config : d.lane.config ≡ c
  pub senders : length d.senders ≡ c.producers + 1

pub record ArePartsOf (w : World) : Type 0 where
  pub valid : is_valid w.config ≡ true
  pub lanes : length w.desks ≡ w.config.lanes
  pub producers : length w.accepted ≡ w.config.producers
  pub works : (l : ℕ) (d : Desk) → slice_get w.desks l ≡ Some d → WorksAs w.config d

-- there is a lane with this number
pub record IsThere (w : World) (l : ℕ) : Type 0 where
  pub desk : Desk
  pub there : desk_at w l ≡ Some desk

-- there is a lane with this number, and the sender is known and has not closed there
pub record IsOpenIn (w : World) (sender l : ℕ) : Type 0 where
  pub desk : Desk
  pub there : desk_at w l ≡ Some desk
  pub is_open : IsOpenAt sender desk

pub record IsSent (w : World) (request : ℕ) : Type 0 where
  pub sent : Sent
  pub was_sent : request_at w request ≡ Some sent

-- the counts are those of an answer to a request of a lane
pub record IsSettledAt (w : World) (l number : ℕ) (a : Answer) (c : Settled) : Type 0 where
  pub desk : Desk
  pub there : desk_at w l ≡ Some desk
  pub are : lane.AreCounts desk.lane number a c
  pub matched : c.matched ≡ matched_by a (lane.writes_of number desk.lane)

-- the lane formed a request, or there was none to form
abbrev pub FormsBy : World → ℕ → Option (List BatchItem) → Bool → World → Type 0
FormsBy w l None b new = (b ≡ false) × (new ≡ w)
FormsBy w l (Some is) b new = (b ≡ true) × (new ≡ after_send w l)

abbrev pub batch_at : Option Desk → Option (List BatchItem)
batch_at None = None
batch_at (Some d) = lane.next_batch d.lane

abbrev pub Forms : World → ℕ → Bool → World → Type 0
Forms w l b new = FormsBy w l (batch_at (desk_at w l)) b new
