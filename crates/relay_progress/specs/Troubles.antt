-- What a failed call of a dial shows.
use Rattle.std.specs.Prelude.{Option, None, Some}
use Rattle.std.specs.declared.io.ErrorKind.{ErrorKind}
use Rattle.std.specs.declared.io.ErrorKind.TheVariants as kind
use Rattle.relay_progress.specs.declared.counts.Trouble.{Trouble}
use Rattle.relay_progress.specs.declared.counts.Trouble.TheVariants as trouble
use Rattle.relay_http.specs.declared.dial.DialFault.{DialFault}
use Rattle.relay_http.specs.declared.dial.DialFault.TheVariants as fault
use Rattle.relay_results.specs.declared.cause.Loss.{Loss}
use Rattle.relay_results.specs.declared.cause.Loss.TheVariants as loss

-- the trouble, by the kind of the system's error
abbrev pub trouble_of : Option ErrorKind → Trouble
trouble_of None = trouble.None
trouble_of (Some kind.ConnectionRefused) = trouble.Refused
trouble_of (Some kind.TimedOut) = trouble.TimedOut
trouble_of (Some _) = trouble.Other

-- why a request is lost for which there is no connection
abbrev pub loss_of : DialFault → Loss
loss_of fault.Refused = loss.Refused
loss_of fault.TimedOut = loss.TimedOut
loss_of fault.Unreachable = loss.Unreachable
