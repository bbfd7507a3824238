-- What a listener shows: the connections that it provides, and those that it takes back.
use Rattle.std.specs.Prelude.{◌≡◌, ℕ, List, [], ◌∷◌, ◌++◌, Option, None, option_map}
use Rattle.relay_action.specs.Streams.{one_more}

-- what a stream shows: the bytes that reads will return, those that were written to it, and how many of its calls failed
pub record Shown : Type 0 where
  pub left : Option (List ℕ)
  pub written : Option (List ℕ)
  pub failed : ℕ

abbrev pub shown_by : Option (List ℕ) → Option (List ℕ) → ℕ → Shown
shown_by left written failed = record { left = left; written = written; failed = failed }

-- The connections that a listener will provide, and those that it took back, in order; None if it does not show them.
-- Then how many it provided, and how many of its calls failed; these counts saturate at 2^64 - 1.
pub record Listening : Type 0 where
  pub coming : Option (List Shown)
  pub done : Option (List Shown)
  pub accepted : ℕ
  pub failed : ℕ

-- a connection, followed by the known ones
abbrev pub prepend_shown : Shown → Option (List Shown) → Option (List Shown)
prepend_shown s known = option_map (λ rest. s ∷ rest) known

-- the known connections, followed by one more
abbrev pub append_shown : Option (List Shown) → Shown → Option (List Shown)
append_shown known s = option_map (λ before. before ++ s ∷ []) known

-- this connection was provided
pub record HandsOut (old : Listening) (s : Shown) (new : Listening) : Type 0 where
  pub coming : old.coming ≡ prepend_shown s new.coming
  pub done : new.done ≡ old.done
  pub accepted : new.accepted ≡ one_more old.accepted
  pub failed : new.failed ≡ old.failed

-- no connection was provided, since the call failed
abbrev pub after_failure : Listening → Listening
after_failure l = record l { failed = one_more l.failed }

-- this connection was taken back
abbrev pub with_done : Listening → Shown → Listening
with_done l s = record l { done = append_shown l.done s }

-- a listener that shows no connections, with these counts
abbrev pub unseen : ℕ → ℕ → Listening
unseen accepted failed = record { coming = None; done = None; accepted = accepted; failed = failed }
