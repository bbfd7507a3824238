-- The reason that an index gives for a version conflict, if it states the versions, in the words of OpenSearch (index
-- document API, version_type external).
use Rattle.std.specs.Prelude.{ℕ, zero, suc, List, ◌∷◌, ◌++◌, Bool, not, ◌&&◌, ◌||◌, nat_le, nat_lt, length, take, slice_index, codes, decimal, if◌then◌else◌}
use Rattle.relay_results.specs.declared.done.VersionConflict.{VersionConflict}

abbrev pub conflict_reason : List ℕ → VersionConflict → List ℕ
conflict_reason id c =
    codes "[" ++ (id ++ (codes "]: version conflict, current version [" ++ (decimal c.stored ++ (codes "] is higher or equal to the one provided [" ++ (decimal c.provided ++ codes "]")))))

-- ---- what is kept of it

-- the text may be cut after this many bytes: it ends there, or the next byte begins a character
abbrev pub may_cut : List ℕ → ℕ → Bool
may_cut text n = nat_le n (length text) && (not (nat_lt n (length text)) || (nat_lt (slice_index text n) 128 || nat_le 192 (slice_index text n)))

-- the last place up to this one at which it may be cut
abbrev pub last_cut : List ℕ → ℕ → ℕ
last_cut text zero = 0
last_cut text (suc n) = if may_cut text (suc n) then suc n else last_cut text n

-- the longest prefix of at most this many bytes that ends at a character boundary
abbrev pub front : ℕ → List ℕ → List ℕ
front limit text = take (last_cut text limit) text
