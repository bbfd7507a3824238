-- The transfer coding, from the Transfer-Encoding fields.
use Rattle.std.specs.Prelude.{ℕ, List, [], ◌∷◌, if◌then◌else◌, codes}
use Rattle.relay_http.specs.Fields.{same_word}
use Rattle.relay_http.specs.declared.fields.Coding.{Coding}
use Rattle.relay_http.specs.declared.fields.Coding.TheVariants as coding

abbrev pub coding_of : List (List ℕ) → Coding
coding_of [] = coding.Absent
coding_of (value ∷ []) = if same_word value (codes "chunked") then coding.Chunked else coding.Other
coding_of (value ∷ (other ∷ values)) = coding.Other

-- the coding after one more value
abbrev pub next_coding : Coding → List ℕ → Coding
next_coding coding.Absent v = if same_word v (codes "chunked") then coding.Chunked else coding.Other
next_coding coding.Chunked v = coding.Other
next_coding coding.Other v = coding.Other
