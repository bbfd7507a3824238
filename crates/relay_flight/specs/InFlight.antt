-- The requests in flight: a map from numbers to requests, and the next number.
use Rattle.std.specs.Prelude.{ℕ, ◌+◌, ◌<◌, ◌≤◌, not, Bool, ◌==◌, List, ◌∷◌, [], ◌++◌, length, map, filter, Option, IsSome}
use Rattle.std.specs.List.{find}
use Rattle.relay_flight.specs.Flying.{Flying, Items}
use Rattle.relay_flight.specs.declared.request.Request.{Request}

-- the maximum number of requests, the next number, and the requests, in the order in which they were added
pub record InFlight : Type 0 where
  pub max : ℕ
  pub next : ℕ
  pub requests : List Request

abbrev pub has_number : ℕ → Request → Bool
has_number number r = r.number == number

-- the request with this number, if it is in flight
abbrev pub request_at : ℕ → InFlight → Option Request
request_at number f = find (has_number number) f.requests

-- the numbers increase, from the lowest on and below the next
abbrev pub AreNumbered : ℕ → ℕ → List Request → Type 0
AreNumbered least next [] = Unit {0}
AreNumbered least next (r ∷ rs) = (least ≤ r.number) × (r.number < next) × AreNumbered (r.number + 1) next rs

-- numbers start at 1 and increase, so none is used twice, and at most the maximum number of
-- requests is in flight
pub record IsInFlight (f : InFlight) : Type 0 where
  pub begun : 1 ≤ f.next
  pub numbered : AreNumbered 1 f.next f.requests
  pub within : length f.requests ≤ f.max

-- after a request was added
abbrev pub with_request : Request → InFlight → InFlight
with_request r f = record { max = f.max; next = f.next + 1; requests = f.requests ++ r ∷ [] }

-- the requests with other numbers
abbrev pub others : ℕ → List Request → List Request
others number rs = filter (λ (r : Request). not (has_number number r)) rs

-- without the request of this number
abbrev pub without_request : ℕ → InFlight → InFlight
without_request number f = record { max = f.max; next = f.next; requests = others number f.requests }

-- the number is in flight, and no lower one is
pub record IsOldest (number : ℕ) (f : InFlight) : Type 0 where
  pub flies : IsSome (request_at number f)
  pub least : (k : ℕ) → IsSome (request_at k f) → number ≤ k

-- the batches alone
abbrev pub numbered_batch : Request → ℕ × Items
numbered_batch r = (r.number, r.batch)

abbrev pub batches_of : InFlight → Flying
batches_of f = record { max = f.max; next = f.next; batches = map numbered_batch f.requests }
