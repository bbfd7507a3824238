-- One more operation.
use Rattle.std.proofs.Common.{◌≡◌, ℕ, ◌+◌, List, [], ◌∷◌, ◌++◌, length, ap, ◌∙◌, sym, arith, append-nil, length-append}
use Rattle.std.proofs.lemmas.Grind.{flat_map-append}
use Rattle.relay_ndjson.specs.Bulk.{write_text, text_of}
use Rattle.relay_ndjson.specs.Operations.{Operation}
use Rattle.relay_commands.specs.Lines.{writes_from, lines_of, write_of}

writes_from-push : (first : ℕ) (ops : List Operation) (op : Operation) → writes_from first (ops ++ op ∷ []) ≡ writes_from first ops ++ write_of op (first + length ops) ∷ []
writes_from-push first [] op = ap (λ v. write_of op v ∷ []) (omega arith)
writes_from-push first (one ∷ ops) op =
    let later : (first + 1) + length ops ≡ first + length (one ∷ ops) = omega arith in
    ap (λ ws. write_of one first ∷ ws) (writes_from-push (first + 1) ops op ∙ ap (λ v. writes_from (first + 1) ops ++ write_of op v ∷ []) later)

pub lines_of-push : (first version : ℕ) (ops : List Operation) (op : Operation) → version ≡ first + length ops → lines_of first (ops ++ op ∷ []) ≡ lines_of first ops ++ write_text (write_of op version)
lines_of-push first version ops op v =
    ap text_of (writes_from-push first ops op)
    ∙ (flat_map-append write_text (writes_from first ops) (write_of op (first + length ops) ∷ [])
    ∙ (ap (λ t. lines_of first ops ++ t) (append-nil (write_text (write_of op (first + length ops))))
    ∙ ap (λ n. lines_of first ops ++ write_text (write_of op n)) (sym v)))

pub version_more : (first version : ℕ) (ops : List Operation) (op : Operation) → version ≡ first + length ops → version + 1 ≡ first + length (ops ++ op ∷ [])
version_more first version ops op v = simp length-append (omega arith)
