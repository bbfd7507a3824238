-- The line at the front of a body.
use Rattle.std.proofs.Common.{ℕ, ◌+◌, ◌-◌, List, ◌∷◌, ◌++◌, length, take, drop, Some, ap, sym, ◌∙◌}
use Rattle.std.proofs.lemmas.List.{take_rest}
use Rattle.memchr.specs.Find.{IsFirstByte, is_byte}
use Rattle.relay_ndjson.specs.Lines.{IsRaw}
use Rattle.relay_ndjson.proofs.Pieces.{first_feed}
use Rattle.relay_front.specs.Bodies.{BeginsWithLine}

pub line_taken : (bytes text : List ℕ) (end : ℕ) → IsFirstByte (is_byte 10) bytes (Some end) → IsRaw text (take end bytes) → BeginsWithLine bytes (take (length bytes - (end + 1)) (drop (end + 1) bytes)) text
line_taken bytes text end f r =
    let s = first_feed bytes end f in
    (take end bytes, s.0, r, s.1 ∙ ap (λ x. take end bytes ++ 10 ∷ x) (sym (take_rest bytes (end + 1))))
