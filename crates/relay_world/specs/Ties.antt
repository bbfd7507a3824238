-- How a world is tied to the machines of its lanes, which share one outside: through this, what `relay_delivery`
-- promises of its machines becomes a promise about the world.
use Rattle.std.specs.Prelude.{◌≡◌, true, ℕ, ◌+◌, ◌^◌, ◌<◌, ◌≤◌, List, [], ◌∷◌, ◌++◌, Option, Some, None, slice_get, take, length, map}
use Rattle.relay_action.specs.declared.operation.Op.{Op}
use Rattle.relay_action.specs.declared.mail.Mail.{Mail}
use Rattle.relay_core.specs.declared.config.RelayConfig.{RelayConfig}
use Rattle.relay_results.specs.Words.{Mem}
use Rattle.relay_results.specs.Numbers.{from_zero}
use Rattle.relay_results.specs.Documents.{Document, name_of}
use Rattle.relay_results.specs.Outside.{is_above}
use Rattle.relay_index.specs.States as index
use Rattle.relay_index.specs.Runs.{Shows}
use Rattle.relay_delivery.specs.Machine.{Config, first_in}
use Rattle.relay_delivery.specs.Lane as delivery
use Rattle.relay_delivery.specs.Together.{Together}
use Rattle.relay_delivery.specs.Restarts.{Incarnation, CameAboutTogether}
use Rattle.relay_delivery.specs.Incarnations.{attributed_together}
use Rattle.relay_delivery.specs.Renumbering.{numbered_on}
use Rattle.relay_delivery.specs.Together as together
use Rattle.relay_core.specs.State.{config_of}
use Rattle.relay_core.specs.Ties.{ops_of}
use Rattle.relay_world.specs.declared.event.Event.{Event}
use Rattle.relay_world.specs.declared.event.StepAnswer.{StepAnswer}
use Rattle.relay_world.specs.State.{Desk, Item, Sent, World, fresh, opening_version, ended_of, desk_at, lane_of, accepted_from, op_with, applied_writes, names_at, before_at, is_closed, taken_of, IsBelow}
use Rattle.relay_world.specs.Headline.{request_of, IsLog, StatesVersions, Delivered}
use Rattle.relay_world.specs.Steps.{Steps}

-- the operations that are queued
abbrev pub puts_of : List Mail → List Op
puts_of [] = []
puts_of (m ∷ ms) = ops_of m.body ++ puts_of ms

abbrev pub queue_of : Option Desk → List Op
queue_of None = []
queue_of (Some d) = puts_of d.queue

-- the lane as delivery sees it; one that does not exist is always fresh
abbrev pub core_of : Config → Option Desk → delivery.State
core_of g None = delivery.fresh_state g
core_of g (Some d) = d.lane.core

-- the versions of the items of a request
abbrev pub versions_of : Sent → List ℕ
versions_of s = map (λ (i : Item). i.version) s.items

-- a lane has the world's config and all of its senders, and numbers its requests from 1, consecutively
pub record IsLaneOf (c : RelayConfig) (d : Desk) : Type 0 where
  pub config : d.lane.core.config ≡ config_of c
  pub senders : length d.senders ≡ c.producers + 1
  pub next : d.lane.flights.next ≡ d.lane.core.requests + 1

-- ---- the ties

-- the lanes, their queues, and what was accepted are those of the machines
pub record AreLanes (w : World) (t : Together) (n : ℕ → ℕ) : Type 0 where
  pub producers : length w.accepted ≡ w.config.producers
  pub accepted : (p : ℕ) → t.lanes.accepted p ≡ accepted_from w p
  pub closed : (p : ℕ) → t.lanes.closed p ≡ is_closed w p
  pub queue : (l : ℕ) → t.lanes.queue l ≡ queue_of (desk_at w l)
  pub taken : (l : ℕ) → (t.lanes.lane l).taken ≡ taken_of (desk_at w l)
  pub lane : (l : ℕ) → delivery.IsOf (numbered_on (n l) (core_of (config_of w.config) (desk_at w l))) (t.lanes.lane l)
  pub works : (l : ℕ) (d : Desk) → desk_at w l ≡ Some d → IsLaneOf w.config d

-- The machines know the lane of a request. If it was sent in the current epoch, they also know its number, counted on from
-- those that the lane had sent before, and it is later than all requests of the incarnations that ended.
pub record IsOriginOf (w : World) (t : Together) (n : ℕ → ℕ) (k : ℕ) (s : Sent) : Type 0 where
  pub number : ℕ
  pub origin : slice_get t.origins k ≡ Some (record { lane = s.lane; number = number })
  pub not_later : s.epoch ≤ w.config.epoch
  pub of_now : s.epoch ≡ w.config.epoch → (number ≡ from_zero (n s.lane + s.number)) × ((p : Incarnation) → Mem p (ended_of w) → p.sent ≤ k)

-- the requests and the runs are those of the machines, in their order; the version of each item was assigned to its
-- operation
pub record AreRequests (w : World) (t : Together) (n : ℕ → ℕ) : Type 0 where
  pub sent : t.sent ≡ map (request_of w) w.sent
  pub origins : (k : ℕ) (s : Sent) → slice_get w.sent k ≡ Some s → IsOriginOf w t n k s
  pub grown : (p : Incarnation) → Mem p (ended_of w) → p.sent ≤ length w.sent
  pub runs : IsLog w t.runs
  pub found : (s : Sent) → Mem s w.sent → (v : ℕ) → Mem v (versions_of s) → (o : Op) × (op_with w s.lane v ≡ Some o)

-- the index is what the machines' outside shows, and the kept names are those of the operations whose writes it applied
pub record IsIndexOf (w : World) (t : Together) : Type 0 where
  pub applied : (k : Document) → (together.outside_of (lane_of w) t).applied k ≡ applied_writes w k
  pub before : (k : Document) → (together.outside_of (lane_of w) t).before k ≡ take (before_at w k) (index.applied_writes w.index k)
  pub within : (k : Document) → before_at w k ≤ length (index.applied_writes w.index k)
  pub shows : Shows (together.outside_of (lane_of w) t) w.index
  pub names : (k : Document) → map name_of (attributed_together (config_of w.config) (lane_of w) (ended_of w) t k) ≡ names_at w k

-- These machines have come about beside one outside, after the incarnations that ended, and what the world has is what they
-- have. The last argument is how many requests each lane had sent when the current incarnation began.
pub record IsTied (w : World) (t : Together) (n : ℕ → ℕ) : Type 0 where
  pub few : w.config.deal < 2 ^ 40
  pub came_about : CameAboutTogether (opening_version w) (config_of w.config) (lane_of w) (ended_of w) t
  pub lanes : AreLanes w t n
  pub requests : AreRequests w t n
  pub index : IsIndexOf w t

pub record HasMachines (w : World) : Type 0 where
  pub machines : Together
  pub before : ℕ → ℕ
  pub tied : IsTied w machines before

-- And the index states versions if it did at the start, as it has done in each run.
pub record IsWorld (w : World) : Type 0 where
  pub has : HasMachines w
  pub states : w.index.states ≡ w.opening.states
  pub stated : w.opening.states ≡ true → StatesVersions w

-- ---- what is promised, and what keeps it

-- a world that is tied to machines delivers
abbrev pub WorldsDeliver : Type 0
WorldsDeliver = (w : World) → IsWorld w → Delivered w

-- a fresh index is below every version, and an index is below a version if its highest one is
abbrev pub FreshIsBelow : Type 0
FreshIsBelow = (first : ℕ) → IsBelow first index.fresh

abbrev pub HighestIsBelow : Type 0
HighestIsBelow = (first : ℕ) (i : index.State) (highest : Option ℕ) → index.IsHighest i highest → is_above highest first ≡ true → IsBelow first i

-- a fresh world is tied, whatever the index has stored
abbrev pub FreshIsWorld : Type 0
FreshIsWorld = (c : RelayConfig) (i : index.State) → c.deal < 2 ^ 40 → IsWorld (fresh c i)

-- each event keeps a world tied, refused or not
abbrev pub StepsKeepTied : Type 0
StepsKeepTied = (w new : World) (e : Event) (x : StepAnswer) → IsWorld w → Steps w e x new → IsWorld new
