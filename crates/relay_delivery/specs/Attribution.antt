-- Whose writes the index applied, and in which order.
use Rattle.std.specs.Prelude.{◌≡◌, ℕ, ◌≤◌, List, [], ◌∷◌, Bool, ◌==◌, map, filter}
use Rattle.relay_action.specs.declared.write.Write.{Write}
use Rattle.relay_action.specs.declared.operation.Op.{Op}
use Rattle.relay_results.specs.Words.{Mem, IsSubsequence, AllDistinct}
use Rattle.relay_results.specs.Documents.{Document, document_of, source_of, name_of}

-- operations and writes, one for one, with the same actions
abbrev pub SameActions : List Op → List Write → Type 0
SameActions [] [] = Unit {0}
SameActions [] (w ∷ ws) = ⊥
SameActions (o ∷ os) [] = ⊥
SameActions (o ∷ os) (w ∷ ws) = (source_of o.action ≡ source_of w.action) × SameActions os ws

-- The operations from which the writes applied to a document came, one for each: at each position the action is that
-- of the write, no operation occurs twice, and each was accepted, for this document. Versions are not compared.
pub record IsAttribution (accepted : ℕ → List Op) (k : Document) (writes : List Write) (ops : List Op) : Type 0 where
  pub actions : SameActions ops writes
  pub distinct : AllDistinct (map name_of ops)
  pub accepted_each : (o : Op) → Mem o ops → (p : ℕ) × Mem o (accepted p)
  pub of_document : (o : Op) → Mem o ops → document_of o.key ≡ k

-- the operation is of this producer
abbrev pub is_from : ℕ → Op → Bool
is_from p o = o.producer == p

-- the operations of each producer are in the order in which it put them
abbrev pub IsInProducerOrder : (ℕ → List Op) → List Op → Type 0
IsInProducerOrder accepted ops = (p : ℕ) → IsSubsequence (filter (is_from p) ops) (accepted p)

-- the operation is of this epoch
abbrev pub is_in : ℕ → Op → Bool
is_in e o = o.epoch == e

-- the operations of an earlier epoch come before those of every later one
abbrev pub AreByEpoch : List Op → Type 0
AreByEpoch [] = Unit {0}
AreByEpoch (o ∷ os) = ((p : Op) → Mem p os → o.epoch ≤ p.epoch) × AreByEpoch os
