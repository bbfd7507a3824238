-- The writes of a request that were put.
use Rattle.std.specs.Prelude.{◌≡◌, ℕ, ◌+◌, ◌<◌, ◌==◌, if◌then◌else◌, List, [], ◌∷◌, Option, None, Some, unwrap_or, vec_capacity, vec_len}
use Rattle.std.specs.Option.{option_or}
use Rattle.relay_action.specs.Lanes.{lane_of_document}
use Rattle.relay_front.specs.declared.ending.End.{End}
use Rattle.relay_front.specs.declared.ending.End.TheVariants as end
use Rattle.relay_serve.specs.declared.batch.Batch.{Batch}
use Rattle.relay_serve.specs.declared.batch.Pending.{Pending}
use Rattle.relay_serve.specs.Heard.{said_first}
use Rattle.relay_serve.specs.Settling.{Event, WasPut, WasHeard, heard_in}

-- the same writes, in the same places
pub record KeepsPlaces (old new : Batch) : Type 0 where
  pub first : new.first ≡ old.first
  pub len : vec_len new.items ≡ vec_len old.items
  pub room : vec_capacity new.items ≡ vec_capacity old.items

-- a write, once this is said of it, if anything: what was said before stays
abbrev pub noted : Pending → Option End → Pending
noted p said = record p { end = option_or p.end said }

-- writes numbered from this one on, once this is said of each, by its lane and its number
abbrev pub each_noted : (ℕ → ℕ → Option End) → ℕ → List Pending → List Pending
each_noted said number [] = []
each_noted said number (p ∷ ps) = noted p (said p.lane number) ∷ each_noted said (number + 1) ps

-- this end is said of the write with this number
abbrev pub only_of : ℕ → End → ℕ → ℕ → Option End
only_of number e lane m = if number == m then Some e else None

-- it is said of the writes in this lane that it is gone
abbrev pub all_in : ℕ → ℕ → ℕ → Option End
all_in from lane m = if from == lane then Some end.Gone else None

abbrev pub lost : ℕ → Pending → Pending
lost lane p = noted p (all_in lane p.lane 0)

-- the writes that were put, numbered from this one on, with what was said of each after its put
abbrev pub pending_in : (lanes number : ℕ) → List Event → List Pending
pending_in lanes number [] = []
pending_in lanes number (WasPut w ∷ es) =
    record { lane = lane_of_document w.0 lanes; end = said_first (lane_of_document w.0 lanes) number (heard_in es) } ∷ pending_in lanes (number + 1) es
pending_in lanes number (WasHeard n ∷ es) = pending_in lanes number es

-- the batch has the writes that were put, numbered from this one on, and what was said of them
pub record FitsFrom (lanes number : ℕ) (events : List Event) (b : Batch) : Type 0 where
  pub first : 0 < vec_len b.items → b.first ≡ number
  pub items : b.items.items ≡ pending_in lanes number events

-- the end of a write that was put; one of which nothing was said is late
abbrev pub end_in : Pending → End
end_in p = unwrap_or p.end end.Late
