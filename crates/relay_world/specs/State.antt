-- The world as its callers see it: lanes with their queues over one index, what was accepted, sent, run and answered, and
-- whose writes the index applied.
use Rattle.std.specs.Prelude.{◌≡◌, ◌<◌, ℕ, ◌+◌, ◌-◌, ◌==◌, List, [], ◌∷◌, ◌++◌, Option, Some, None, option_map, option_and_then, option_to_list, unwrap_or, slice_get, Bool, false, ◌&&◌, nat_le, nat_lt, length, drop, replicate, not, map, if◌then◌else◌}
use Rattle.std.specs.List.{list_any, list_all}
use Rattle.std.specs.List.Sorted.{IsStrictlySortedBy}
use Rattle.std.specs.Map.{lookup}
use Rattle.relay_action.specs.declared.key.DocKey.{DocKey}
use Rattle.relay_action.specs.declared.operation.Op.{Op}
use Rattle.relay_action.specs.declared.operation.OpName.{OpName}
use Rattle.relay_action.specs.declared.mail.Mail.{Mail}
use Rattle.relay_action.specs.declared.write.Write.{Write}
use Rattle.relay_results.specs.Documents.{Document, document_of, same_document, write_for}
use Rattle.relay_results.specs.Documents as documents
use Rattle.relay_results.specs.Outside.{Answer, RunOutcome}
use Rattle.relay_index.specs.States as index
use Rattle.relay_index.specs.Keys.{key_order, is_among}
use Rattle.relay_delivery.specs.Machine.{Report, first_in, in_epoch}
use Rattle.relay_delivery.specs.Restarts.{Incarnation}
use Rattle.relay_core.specs.declared.config.RelayConfig.{RelayConfig}
use Rattle.relay_core.specs.State as lane
use Rattle.relay_world.specs.declared.sender.Sender.{Sender}

-- ---- what it has

-- A lane with its queue: the queued messages, the oldest first; what each sender has done there; and the operations that
-- the lane took, in order.
pub record Desk : Type 0 where
  pub queue : List Mail
  pub senders : List Sender
  pub taken : List Op
  pub lane : lane.State

-- an item of a sent request: the version that was assigned to its operation, and the outcomes of its runs, in order
pub record Item : Type 0 where
  pub version : ℕ
  pub runs : List RunOutcome

-- a sent request: the epoch in which it was sent, its lane, its number there in that epoch, from 1, its items, and
-- its answer
pub record Sent : Type 0 where
  pub epoch : ℕ
  pub lane : ℕ
  pub number : ℕ
  pub items : List Item
  pub answer : Answer

-- what is kept of a document: how many writes the index had of it at the start, and the names of the operations whose
-- writes were applied since
pub record Named : Type 0 where
  pub before : ℕ
  pub names : List OpName

-- What is kept of an incarnation: its epoch, what was accepted in it from each producer, what each lane took, and how
-- many requests had been sent by its end, including those of earlier incarnations.
pub record Past : Type 0 where
  pub epoch : ℕ
  pub accepted : List (List Op)
  pub taken : List (List Op)
  pub sent : ℕ

-- The index as it was at the start; the config; each lane with its queue; what was accepted from each producer since the
-- last restart; the incarnations that have ended, the oldest first; all requests ever sent, in order; the index; and what is
-- kept of the documents.
pub record World : Type 0 where
  pub opening : index.State
  pub config : RelayConfig
  pub desks : List Desk
  pub accepted : List (List Op)
  pub ended : List Past
  pub sent : List Sent
  pub index : index.State
  pub kept : List (DocKey × Named)

-- ---- at the start

abbrev pub fresh_desk : RelayConfig → Desk
fresh_desk c = record {
  queue = [];
  senders = replicate (c.producers + 1) (record { count = 0; closed = false });
  taken = [];
  lane = lane.fresh c;
}

abbrev pub fresh : RelayConfig → index.State → World
fresh c i = record {
  opening = i;
  config = c;
  desks = replicate c.lanes (fresh_desk c);
  accepted = replicate c.producers [];
  ended = [];
  sent = [];
  index = i;
  kept = [];
}

-- every version that the index has is below this one
abbrev pub IsBelow : ℕ → index.State → Type 0
IsBelow first i = (k : Document) (u : ℕ) → index.stored_version i k ≡ Some u → u < first

-- the version of a document that the index had at the start
abbrev pub opening_version : World → Document → Option ℕ
opening_version w k = index.stored_version w.opening k

-- ---- what callers ask

-- the lane of a document
abbrev pub lane_of : World → Document → ℕ
lane_of w k = documents.lane_of w.config.lanes k

abbrev pub desk_at : World → ℕ → Option Desk
desk_at w l = slice_get w.desks l

-- the operations that a lane took, in order; none if there is no such lane
abbrev pub taken_of : Option Desk → List Op
taken_of None = []
taken_of (Some d) = d.taken

abbrev pub taken_ops : World → ℕ → List Op
taken_ops w l = taken_of (desk_at w l)

-- what was accepted from a producer
abbrev pub accepted_from : World → ℕ → List Op
accepted_from w p = unwrap_or (slice_get w.accepted p) []

-- what is kept of a document, if anything
abbrev pub kept_among : List (DocKey × Named) → Document → Option Named
kept_among es k = lookup (λ key. same_document k (document_of key)) es

abbrev pub names_of : Option Named → List OpName
names_of None = []
names_of (Some n) = n.names

-- the names of the operations whose writes were applied to a document since the start
abbrev pub names_at : World → Document → List OpName
names_at w k = names_of (kept_among w.kept k)

-- how many writes a document had at the start, given how many it has now
abbrev pub before_of : ℕ → Option Named → ℕ
before_of now None = now
before_of now (Some n) = n.before

abbrev pub before_at : World → Document → ℕ
before_at w k = before_of (length (index.applied_writes w.index k)) (kept_among w.kept k)

-- the writes that were applied to a document since the start
abbrev pub applied_writes : World → Document → List Write
applied_writes w k = drop (before_at w k) (index.applied_writes w.index k)

-- a write was applied to the document since the start
abbrev pub is_written : World → Document → Bool
is_written w k = not (length (applied_writes w k) == 0)

-- The keys are exactly those of the documents to which a write was applied since the start, including deleted ones,
-- in order and without repetition.
pub record AreKeysOf (w : World) (keys : List DocKey) : Type 0 where
  pub rising : IsStrictlySortedBy key_order keys
  pub written : (k : Document) → is_among k keys ≡ is_written w k

-- the reports of a lane
abbrev pub reports_of : Option Desk → List Report
reports_of None = []
reports_of (Some d) = d.lane.core.reports

abbrev pub reports : World → ℕ → List Report
reports w l = reports_of (desk_at w l)

-- the element with a number, from 1
abbrev pub element_at : {A : Type 0} → List A → ℕ → Option A
element_at xs number = if number == 0 then None else slice_get xs (number - 1)

-- a sent request, by number
abbrev pub request_at : World → ℕ → Option Sent
request_at w number = element_at w.sent number

-- an item of a sent request, both by number
abbrev pub item_at : World → ℕ → ℕ → Option Item
item_at w request item = option_and_then (λ (s : Sent). element_at s.items item) (request_at w request)

-- the current incarnation, and all of them, the current one last
abbrev pub running : World → Past
running w = record { epoch = w.config.epoch; accepted = w.accepted; taken = map (λ (d : Desk). d.taken) w.desks; sent = length w.sent }

abbrev pub incarnations : World → List Past
incarnations w = w.ended ++ running w ∷ []

-- one of the versions that a lane may assign in an epoch: `deal` of them, from the first one of the epoch on
abbrev pub is_version_in : ℕ → ℕ → ℕ → Bool
is_version_in deal epoch v = nat_le (first_in epoch) v && nat_lt v (first_in epoch + deal)

-- the place of a version among these, if it is one of them
abbrev pub place_dealt : ℕ → ℕ → ℕ → Option ℕ
place_dealt deal epoch v = if is_version_in deal epoch v then Some (v - first_in epoch) else None

-- the operation to which a lane assigned a version, in the incarnation whose version it is
abbrev pub op_among : ℕ → List Past → ℕ → ℕ → Option Op
op_among deal [] l v = None
op_among deal (p ∷ ps) l v = if is_version_in deal p.epoch v then slice_get (unwrap_or (slice_get p.taken l) []) (v - first_in p.epoch) else op_among deal ps l v

abbrev pub op_with : World → ℕ → ℕ → Option Op
op_with w l version = op_among w.config.deal (incarnations w) l version

-- an incarnation as delivery sees it; the config is the same in each, except for the epoch
abbrev pub incarnation : RelayConfig → Past → Incarnation
incarnation c p = record {
  config = in_epoch p.epoch c.deal c.attempts c.give_up_after c.limits.count;
  accepted = λ q. unwrap_or (slice_get p.accepted q) [];
  taken = λ l. unwrap_or (slice_get p.taken l) [];
  sent = p.sent;
}

abbrev pub ended_of : World → List Incarnation
ended_of w = map (incarnation w.config) w.ended

abbrev pub incarnations_of : World → List Incarnation
incarnations_of w = map (incarnation w.config) (incarnations w)

-- the write of an item: that of its operation, with the version that was assigned to it
abbrev pub write_of : World → Sent → Item → Option Write
write_of w s i = option_map (λ o. write_for o i.version) (op_with w s.lane i.version)

-- the write of an item of a request, both by number
abbrev pub write_at : World → ℕ → ℕ → Option Write
write_at w request item = option_and_then (λ s. option_and_then (write_of w s) (element_at s.items item)) (request_at w request)

-- the writes of a request, in order
abbrev pub writes_from : (Item → Option Write) → List Item → List Write
writes_from f [] = []
writes_from f (i ∷ is) = option_to_list (f i) ++ writes_from f is

abbrev pub writes_of : World → Sent → List Write
writes_of w s = writes_from (write_of w s) s.items

-- whether a sender has closed at a lane; whether it has at any lane; and whether all senders have closed at a lane
abbrev pub has_closed : ℕ → Desk → Bool
has_closed p d = unwrap_or (option_map (λ (s : Sender). s.closed) (slice_get d.senders p)) false

abbrev pub is_closed : World → ℕ → Bool
is_closed w p = list_any (has_closed p) w.desks

abbrev pub all_closed : Desk → Bool
all_closed d = list_all (λ (s : Sender). s.closed) d.senders

-- each sender has closed there, nothing is queued, and the lane holds no operation
abbrev pub is_done : Desk → Bool
is_done d = all_closed d && ((length d.queue == 0) && (length d.lane.core.held == 0))

abbrev pub is_finished : World → Bool
is_finished w = list_all is_done w.desks
