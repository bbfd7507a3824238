-- How contracts see the fields of a lane, and what always holds of them.
use Rattle.std.specs.Prelude.{◌≡◌, ◌+◌, ◌-◌, ◌*◌, ◌^◌, ◌≤◌, Bool, true, length, map, min, vec_len, vec_capacity}
use Rattle.std.specs.List.{list_all}
use Rattle.relay_flight.specs.InFlight.{IsInFlight, batches_of}
use Rattle.relay_delivery.specs.Machine.{first_in}
use Rattle.relay_core.specs.declared.lane.Lane.TheInside.{Inside}
use Rattle.relay_core.specs.Limits.{is_valid}
use Rattle.relay_core.specs.State.{State, Seen}
use Rattle.relay_core.specs.Memory.{entries, writes_in, flying_of, IsReadable, AllUnder, tries_left}
use Rattle.relay_core.specs.Walk.{report_of, items_of_kept}
use Rattle.relay_core.specs.Quiet.{is_roomy, IsQuiet}

abbrev pub state_of : Inside → State
state_of a = record {
  config = a.config;
  core = record {
    config = record { epoch = a.config.epoch; first = a.first; deals = a.config.deal; max = a.config.attempts; age = a.config.give_up_after; cap = a.config.limits.count };
    clock = a.held.clock;
    taken = a.taken;
    requests = a.flight.next - 1;
    held = entries a.held.list (writes_in a.flight.requests);
    flying = map flying_of a.flight.requests;
    reports = map report_of a.reports.items;
    applied = a.applied;
    already = a.already;
  };
  mark = a.mark;
  closed = a.closed.items;
  flights = batches_of a.flight;
  successes = a.successes.items;
}

abbrev pub view_of : Inside → Seen
view_of a = record { state = state_of a; looks = a.held.looks }

pub record IsSound (a : Inside) : Type 0 where
  pub readable : IsReadable a.config.attempts a.flight.next a.held.list a.flight.requests
  pub under : AllUnder (a.first + min a.taken a.config.deal) a.held.list
  pub flight : IsInFlight a.flight
  pub most : a.flight.max ≡ a.config.in_flight
  pub room : vec_len a.reports + length a.held.list ≤ vec_capacity a.reports
  pub places : vec_len a.successes + length a.held.list ≤ vec_capacity a.successes
  pub few : length a.held.list ≤ a.config.max_held
  pub limit : a.config.max_held ≤ 65536
  pub tries : (1 ≤ a.config.attempts) × (a.config.attempts ≤ 2097152)
  pub senders : vec_len a.closed ≡ a.config.producers + 1
  pub first : 1 ≤ a.first
  pub versions : a.first + a.config.deal ≤ 9000000000000000001
  pub dealt : a.config.deal ≤ 2 ^ 40
  pub counted : a.taken ≤ a.config.deal + vec_len a.reports
  pub done : a.applied + a.already + length a.held.list ≤ min a.taken a.config.deal
  pub left : (a.flight.next - 1) + tries_left a.config.attempts a.held.list ≤ 2097166 * min a.taken a.config.deal
  pub config : is_valid a.config ≡ true
  pub begins : a.first ≡ first_in a.config.epoch
  pub quiet : is_roomy a.room ≡ true
      → IsQuiet a.held.clock a.mark (list_all (λ (b : Bool). b) a.closed.items) a.config.limits (items_of_kept a.held.list a.held.clock a.held.list) a.room
