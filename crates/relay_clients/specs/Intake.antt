-- What is counted of the bytes that a connection reads.
use Rattle.std.specs.Prelude.{◌≡◌, ℕ, ◌+◌, ◌<◌, length, take}
use Rattle.http_server.specs.History.{History}

-- Since an earlier time so many bytes were received, after those that had come by then. Then the connection was new, or had an answer to send.
pub record HasTaken (since now : History) (taken : ℕ) : Type 0 where
  pub goes_on : take (length since.received) now.received ≡ since.received
  pub counted : length now.received ≡ length since.received + taken
  pub answered : 0 < length since.received → 0 < length since.pending
