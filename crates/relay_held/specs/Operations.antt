-- What happens to a held operation.
use Rattle.std.specs.Prelude.{ℕ, ◌+◌, ◌-◌, Option, Some, None, Bool, true, false, nat_lt, ◌==◌, if◌then◌else◌}
use Rattle.relay_action.specs.declared.write.Write.{Write}
use Rattle.relay_held.specs.declared.kept.Kept.{Kept}
use Rattle.relay_held.specs.declared.kept.Spot.{Spot}
use Rattle.relay_held.specs.declared.kept.Candidate.{Candidate}

abbrev pub waits_here : Option Spot → Bool
waits_here None = true
waits_here (Some s) = false

abbrev pub more : ℕ → ℕ
more n = if nat_lt n 4294967295 then n + 1 else n

-- the operation is sent; the clock is noted if it was not sent before
abbrev pub launch_one : ℕ → ℕ → ℕ → Kept → Kept
launch_one clock number place h = record h { since = (if h.sends == 0 then clock else h.since); sends = more h.sends; attempts = more h.attempts; flies = Some (record { request = number; place = place }); write = None }

-- the operation waits again, with its write
abbrev pub back_at : ℕ → Write → Kept → Kept
back_at due w h = record h { flies = None; due = due; write = Some w }

-- the operation waits again, with its write, under a cap, and its try is given back
abbrev pub halved_at : ℕ → ℕ → Write → Kept → Kept
halved_at due cap w h = record h { flies = None; attempts = h.attempts - 1; cap = cap; due = due; write = Some w }

-- what a batch needs to know of an operation
abbrev pub candidate_of : Kept → Candidate
candidate_of h = record { name = h.name; version = h.version; bytes = h.bytes; cap = h.cap; taken_at = h.taken_at }
