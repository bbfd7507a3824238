-- The lane of a document.
use Rattle.std.specs.Prelude.{ℕ, ◌*◌, ◌%◌, ◌^◌, List, ◌∷◌, ◌++◌, fold, bit_xor}
use Rattle.relay_action.specs.declared.key.DocKey.{DocKey}

-- 64-bit FNV-1a: its offset basis and prime, the step for one byte, and the hash of a list of bytes
abbrev pub offset_basis : ℕ
offset_basis = 14695981039346656037

abbrev pub prime : ℕ
prime = 1099511628211

abbrev pub fnv_step : ℕ → ℕ → ℕ
fnv_step hash byte = (bit_xor hash byte * prime) % 2 ^ 64

abbrev pub fnv1a : List ℕ → ℕ
fnv1a bytes = fold fnv_step offset_basis bytes

-- the bytes that are hashed: the index name, the byte 255, which no UTF-8 text contains, and the id
abbrev pub document_bytes : DocKey → List ℕ
document_bytes key = key.index ++ 255 ∷ key.id

-- the lane, given the number of lanes
abbrev pub lane_of_document : DocKey → ℕ → ℕ
lane_of_document key lanes = fnv1a (document_bytes key) % lanes
