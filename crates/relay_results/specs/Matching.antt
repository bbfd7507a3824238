-- When a reply matches a request.
use Rattle.std.specs.Prelude.{◌≡◌, ℕ, List, [], ◌∷◌, Some, Bool, true, false, ◌&&◌, bytes_eq, length, slice_get}
use Rattle.relay_action.specs.Actions.{kind_of}
use Rattle.relay_action.specs.declared.write.Write.{Write}
use Rattle.relay_results.specs.declared.outcome.Outcome.{Outcome}
use Rattle.relay_results.specs.Documents.{same_kind}

-- an entry has the kind of action and the id of a write
abbrev pub is_entry_for : Outcome → Write → Bool
is_entry_for o w = same_kind o.kind (kind_of w.action) && bytes_eq o.id w.key.id

-- the test: one entry for each write, in their order
abbrev pub matches : List Outcome → List Write → Bool
matches [] [] = true
matches [] (w ∷ ws) = false
matches (o ∷ os) [] = false
matches (o ∷ os) (w ∷ ws) = is_entry_for o w && matches os ws

-- A reply matches a request if it has as many entries as the request has writes and, at each position, the kind of
-- action and the id are the same (OpenSearch, bulk API: the items of a reply are in the order of the request).
pub record Matches (os : List Outcome) (ws : List Write) : Type 0 where
  pub as_many : length os ≡ length ws
  pub kinds : (place : ℕ) (o : Outcome) (w : Write) → slice_get os place ≡ Some o → slice_get ws place ≡ Some w
      → o.kind ≡ kind_of w.action
  pub ids : (place : ℕ) (o : Outcome) (w : Write) → slice_get os place ≡ Some o → slice_get ws place ≡ Some w
      → o.id ≡ w.key.id
