-- The query of a request (RFC 3986, section 3.4): parameters between `&`, each a name, and a value after the first `=`.
use Rattle.std.specs.Prelude.{ℕ, Bool, ◌||◌, bytes_eq, List, [], ◌∷◌, codes, if◌then◌else◌, ◌==◌, Option, None, Some}
use lib.Dec.{eqb}
use Rattle.std.specs.List.{starts_with, before_first}
use Rattle.relay_front.specs.Parts.{parts_at}

-- the name of a parameter
abbrev pub name_of : List ℕ → List ℕ
name_of parameter = before_first (λ b. b == 61) parameter

-- the parameters that do not change what a write means
abbrev pub is_ignored : List ℕ → Bool
is_ignored name =
    bytes_eq name [] || bytes_eq name (codes "timeout") || bytes_eq name (codes "refresh")
    || bytes_eq name (codes "pretty") || bytes_eq name (codes "human") || bytes_eq name (codes "error_trace")
    || bytes_eq name (codes "filter_path") || bytes_eq name (codes "wait_for_active_shards")
    || bytes_eq name (codes "master_timeout") || starts_with eqb name (codes "_source")

-- the name of the first parameter that is not ignored
abbrev pub first_other : List (List ℕ) → Option (List ℕ)
first_other [] = None
first_other (p ∷ ps) = if is_ignored (name_of p) then first_other ps else Some (name_of p)

abbrev pub meaning_of : List ℕ → Option (List ℕ)
meaning_of query = first_other (parts_at 38 query)
