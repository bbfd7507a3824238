-- The count of a stream's failed calls, and the stream in memory.
use Rattle.std.specs.Prelude.{ℕ, ◌+◌, ◌-◌, ◌^◌, ◌≤◌, min, List, ◌++◌, Result, Ok, Err, Bool, false, ◌||◌, nat_lt, ◌==◌, length, drop, []}

-- the value at which a count saturates
abbrev pub most : ℕ
most = 2 ^ 64 - 1

abbrev pub one_more : ℕ → ℕ
one_more count = min (count + 1) most

-- a call failed in between, as far as the count can tell
abbrev pub FailedSince : ℕ → ℕ → Type 0
FailedSince old new = one_more old ≤ new

-- whether a write took any of the bytes that it was given
abbrev pub takes_some : {E : Type 0} → Result ℕ E → List ℕ → Bool
takes_some (Ok n) bytes = nat_lt 0 n || (length bytes == 0)
takes_some (Err e) bytes = false

-- ---- a stream in memory

-- what is left to read, what was written, how many bytes may be written in all, how many may move in a call, which call
-- fails, how many calls were made, and how many failed
pub record Memory : Type 0 where
  pub left : List ℕ
  pub written : List ℕ
  pub room : ℕ
  pub piece : ℕ
  pub fail_at : ℕ
  pub calls : ℕ
  pub failed : ℕ

-- a stream before its first call
abbrev pub fresh : List ℕ → ℕ → ℕ → ℕ → Memory
fresh input room piece fail_at =
    record { left = input; written = []; room = room; piece = piece; fail_at = fail_at; calls = 0; failed = 0 }

-- whether the next call is the one that fails, and whether a write fails at the next call
abbrev pub is_call : Memory → Bool
is_call s = one_more s.calls == s.fail_at

abbrev pub is_full : Memory → Bool
is_full s = is_call s || (length s.written == s.room)

-- one more call was made; a call failed
abbrev pub after_call : Memory → Memory
after_call s = record s { calls = one_more s.calls }

abbrev pub after_failure : Memory → Memory
after_failure s = record s { failed = one_more s.failed }

-- how many bytes a read moves into a buffer of this size; how many bytes a write takes, if it is given this many
abbrev pub given_count : Memory → ℕ → ℕ
given_count s buffer = min buffer (min s.piece (length s.left))

abbrev pub taken_count : Memory → ℕ → ℕ
taken_count s bytes = min bytes (min s.piece (s.room - length s.written))

-- this many bytes were read; these bytes were written
abbrev pub after_read : Memory → ℕ → Memory
after_read s n = record s { left = drop n s.left }

abbrev pub with_written : Memory → List ℕ → Memory
with_written s bytes = record s { written = s.written ++ bytes }
