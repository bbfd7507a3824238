-- Why a dial failed, by the kind of the system's error.
use Rattle.std.specs.Prelude.{◌≡◌, Option, Some, None, Result, Ok, Err}
use Rattle.std.specs.declared.io.ErrorKind.{ErrorKind}
use Rattle.std.specs.declared.io.ErrorKind.TheVariants as kind
use Rattle.relay_http.specs.declared.dial.DialFault.{DialFault}
use Rattle.relay_http.specs.declared.dial.DialFault.TheVariants as fault

-- the other end refused the connection, it did not respond in time, or anything else
abbrev pub dial_fault : ErrorKind → DialFault
dial_fault kind.ConnectionRefused = fault.Refused
dial_fault kind.TimedOut = fault.TimedOut
dial_fault kind.WouldBlock = fault.TimedOut
dial_fault _ = fault.Unreachable

-- this failed, and this is the fault of it
abbrev pub IsWhy : Option ErrorKind → DialFault → Type 0
IsWhy failure f = (why : ErrorKind) × (failure ≡ Some why) × (f ≡ dial_fault why)

-- a call of a dial returned a connection if nothing failed, and otherwise the fault of what did
abbrev pub Tells : {A : Type 0} → Option ErrorKind → Result A DialFault → Type 0
Tells failure (Ok s) = failure ≡ None
Tells failure (Err f) = IsWhy failure f
