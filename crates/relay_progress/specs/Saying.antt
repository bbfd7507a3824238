-- When a line about what goes wrong is written, and which.
use Rattle.std.specs.Prelude.{ℕ, ◌+◌, ◌-◌, Bool, true, false, not, ◌&&◌, ◌||◌, nat_lt, nat_le, Option, None, Some, option_map, if◌then◌else◌}
use Rattle.relay_progress.specs.declared.event.Event.{Event}
use Rattle.relay_progress.specs.declared.event.Event.TheVariants as event
use Rattle.relay_progress.specs.declared.sight.Sight.{Sight}
use Rattle.relay_progress.specs.declared.sight.Said.{Said}
use Rattle.relay_progress.specs.declared.sight.Outage.{Outage}

-- the least time between two lines of a kind, in milliseconds
abbrev pub apart : ℕ
apart = 10000

-- whether a line of a kind may be written now, given when the last one was
abbrev pub may_say : Option ℕ → ℕ → Bool
may_say None now = true
may_say (Some last) now = nat_le (last + apart) now

-- whether something failed that was not seen before, or nothing is answered
abbrev pub fails : Said → Sight → Bool
fails said sight = sight.is_down || nat_lt said.failures sight.failures

-- an outage begins with a failure
abbrev pub outage_begun : Bool → Sight → Option Outage
outage_begun false sight = None
outage_begun true sight = Some (record { since = sight.moment; requests = sight.requests; is_said = false })

-- one of which nothing was said ends without one
abbrev pub outage_kept : Bool → Outage → Option Outage
outage_kept failing outage = if failing || outage.is_said then Some outage else None

abbrev pub outage_now : Option Outage → Bool → Sight → Option Outage
outage_now None failing sight = outage_begun failing sight
outage_now (Some outage) failing sight = outage_kept failing outage

abbrev pub outage_at : Said → Sight → Option Outage
outage_at said sight = outage_now said.outage (fails said sight) sight

abbrev pub noticed : Said → Sight → Said
noticed said sight = record {
  outage = outage_at said sight;
  failures = sight.failures;
  down = said.down;
  up = said.up;
  too_large = said.too_large;
  conflicts = said.conflicts;
  conflict = said.conflict;
}

-- of a request that was too large once, and of conflicts whenever there are more
abbrev pub rest_event : Said → Sight → Option Event
rest_event said sight =
    if not said.too_large && nat_lt 0 sight.too_large then Some event.TooLarge
    else if nat_lt said.conflicts sight.conflicts && may_say said.conflict sight.moment then Some (event.Conflicts sight.conflicts)
    else None

-- that the address is down once there is an outage, and that it is up again once that is over and was said
abbrev pub outage_event : Outage → Said → Sight → Option Event
outage_event outage said sight =
    if not outage.is_said && may_say said.down sight.moment then Some (event.Down sight.reason)
    else if outage.is_said && not sight.is_down && may_say said.up sight.moment then Some (event.Up (sight.moment - outage.since) (sight.requests - outage.requests))
    else rest_event said sight

abbrev pub event_in : Option Outage → Said → Sight → Option Event
event_in None said sight = rest_event said sight
event_in (Some outage) said sight = outage_event outage said sight

abbrev pub next_event : Said → Sight → Option Event
next_event said sight = event_in said.outage said sight

-- an outage about which a line was written
abbrev pub said_of : Outage → Outage
said_of outage = record { since = outage.since; requests = outage.requests; is_said = true }

-- what was said, with this said now
abbrev pub after : Said → Event → ℕ → Said
after said (event.Down reason) now = record {
  outage = option_map said_of said.outage;
  failures = said.failures;
  down = Some now;
  up = said.up;
  too_large = said.too_large;
  conflicts = said.conflicts;
  conflict = said.conflict;
}
after said (event.Up millis sends) now = record {
  outage = None;
  failures = said.failures;
  down = said.down;
  up = Some now;
  too_large = said.too_large;
  conflicts = said.conflicts;
  conflict = said.conflict;
}
after said event.TooLarge now = record {
  outage = said.outage;
  failures = said.failures;
  down = said.down;
  up = said.up;
  too_large = true;
  conflicts = said.conflicts;
  conflict = said.conflict;
}
after said (event.Conflicts count) now = record {
  outage = said.outage;
  failures = said.failures;
  down = said.down;
  up = said.up;
  too_large = said.too_large;
  conflicts = count;
  conflict = Some now;
}
after said (event.Start epoch lanes) now = said
