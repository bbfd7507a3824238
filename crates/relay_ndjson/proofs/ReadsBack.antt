-- An action line reads as what it says.
use Rattle.std.proofs.Common.{◌≡◌, ℕ, ◌^◌, ◌<◌, ◌≤◌, List, [], Some, refl, ap, sym, ◌∙◌, arith, rules, decimal, lit≤, option_and_then, append-nil}
use Rattle.json.specs.Lex.{tokens}
use Rattle.json.specs.Print.{ArePrintable}
use Rattle.json.specs.Tree.{json_tokens}
use Rattle.json.proofs.Printed.Tokens.{tokens-print}
use Rattle.serde_json.specs.Data.{Data, unsigned, depth}
use Rattle.serde_json.specs.Read.{read, of_json, max_depth}
use Rattle.serde_json.specs.Written.{compact_text, outline, WritesValue}
use Rattle.serde_json.proofs.Texts.{print-outline, unless_float-number_of}
use Rattle.json.specs.Json as json
use Rattle.json.specs.Token.{Token}
use Rattle.json.proofs.Printed.Trees.{value-json_tokens}
use Rattle.json.proofs.Printed.Decimals.{IsNumber-decimal}
use Rattle.serde_json.proofs.Numbers.{number_of-decimal}
use Rattle.relay_action.specs.declared.write.Write.{Write}
use Rattle.relay_ndjson.specs.Bulk.{action_text, action_data}

-- tokens that were written for a value read back as that value
read_back : (d : Data) (ts : List Token) (text : List ℕ) → WritesValue d [] ts → tokens text ≡ ts → depth d ≤ max_depth → read text ≡ Some d
read_back d ts text w same shallow =
    ap (λ o. option_and_then of_json (option_and_then (λ p. json.if_last p.0 p.1) o)) (ap (json.value max_depth) (same ∙ w.1 ∙ sym (append-nil _)) ∙ value-json_tokens w.0 max_depth [] (omega (arith, w.3))) ∙ w.2

printable : (w : Write) → w.version < 2 ^ 64 → ArePrintable (json_tokens (outline (action_data w)))
unfolding ArePrintable
printable w h = let n = IsNumber-decimal w.version h in search (rules, n)

outlined : (w : Write) → w.version < 2 ^ 64 → WritesValue (action_data w) [] (json_tokens (outline (action_data w)))
outlined w h = let n = number_of-decimal w.version h in
    (outline (action_data w), refl, rw n, lit≤ tt, rw (unless_float-number_of (decimal w.version) (unsigned w.version) n))

pub read-action_text : (w : Write) → w.version < 2 ^ 64 → read (action_text w) ≡ Some (action_data w)
unfolding action_text
read-action_text w h =
    let d = action_data w in
    read_back d (json_tokens (outline d)) (compact_text d) (outlined w h)
    (ap tokens (sym (print-outline d)) ∙ tokens-print (json_tokens (outline d)) (printable w h))
    (lit≤ tt)
