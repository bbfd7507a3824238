-- A line in the usual form says what its parts say.
use denote.Ref.{Bor}
use Rattle.std.proofs.Common.{◌≡◌, ℕ, List, [], ◌++◌, Option, Some, None, IsUtf8, refl, sym, ap, ◌∙◌, rules, lit≤, codes, append-nil, option_and_then, unwrap_or}
use Rattle.std.proofs.lemmas.Str.{IsUtf8-append}
use Rattle.std.specs.Option.{option_or}
use Rattle.json.specs.Json as json
use Rattle.json.specs.Lex.{tokens}
use Rattle.json.specs.Print.{ArePrintable, escape_byte, print, print_from, quoted}
use Rattle.json.specs.Tree.{json_tokens}
use Rattle.json.proofs.Printed.Tokens.{tokens-print}
use Rattle.json.proofs.Printed.Trees.{value-json_tokens}
use Rattle.json.proofs.Printed.Utf8.{IsUtf8-are_ascii}
use Rattle.serde_json.specs.Data.{Data, Members, string, object, member, no_members}
use Rattle.serde_json.specs.Read.{read, of_json, max_depth}
use Rattle.relay_json.specs.Plain.{IsPlain}
use Rattle.relay_json.proofs.PlainTexts.{between_quotes, utf8_plain}
use Rattle.relay_action.specs.Actions.{kind_name}
use Rattle.relay_action.specs.declared.action.ActionKind.{ActionKind}
use Rattle.relay_action.specs.declared.action.ActionKind.TheVariants as action
use Rattle.relay_ndjson.specs.Metadata.{Says, bytes_given}
use Rattle.relay_ndjson.specs.Usual.{IsPlainIndex, usual_start, usual_id, usual_line, with_index}

-- ---- the line as a JSON text

abbrev metadata_json : Option (List ℕ) → List ℕ → json.Members
metadata_json None id = json.member (codes "_id") (json.string id) json.no_members
metadata_json (Some index) id = json.member (codes "_index") (json.string index) (json.member (codes "_id") (json.string id) json.no_members)

abbrev line_json : ActionKind → Option (List ℕ) → List ℕ → json.Json
line_json a index id = json.object (json.member (kind_name a) (json.object (metadata_json index id)) json.no_members)

-- its members, in byte order of their names
abbrev metadata : Option (List ℕ) → List ℕ → Members
metadata None id = member (codes "_id") (string id) no_members
metadata (Some index) id = member (codes "_id") (string id) (member (codes "_index") (string index) no_members)

abbrev line_data : ActionKind → Option (List ℕ) → List ℕ → Data
line_data a index id = object (member (kind_name a) (object (metadata index id)) no_members)

-- with its strings whole
abbrev strings : ActionKind → Option (List ℕ) → List ℕ → List ℕ
strings a None id = usual_start a ++ (codes "\"_id\":" ++ (quoted id ++ codes "}}"))
strings a (Some index) id = usual_start a ++ (codes "\"_index\":" ++ (quoted index ++ (codes ",\"_id\":" ++ (quoted id ++ codes "}}"))))

printed : (a : ActionKind) (index : Option (List ℕ)) (id : List ℕ) → print (json_tokens (line_json a index id)) ≡ strings a index id
unfolding print_from escape_byte
printed action.Index None id = refl
printed action.Index (Some index) id = refl
printed action.Delete None id = refl
printed action.Delete (Some index) id = refl

in_pieces : (a : ActionKind) (index : Option (List ℕ)) (id : List ℕ) → IsPlainIndex index → IsPlain id → strings a index id ≡ usual_line a index id
in_pieces a None id h k = ap (λ t. usual_start a ++ (codes "\"_id\":" ++ t)) (between_quotes id (codes "}}") k)
in_pieces a (Some index) id h k =
    ap (λ t. usual_start a ++ (codes "\"_index\":" ++ (quoted index ++ (codes ",\"_id\":" ++ t)))) (between_quotes id (codes "}}") k)
    ∙ ap (λ t. usual_start a ++ (codes "\"_index\":" ++ t)) (between_quotes index (codes "," ++ usual_id id) h)

printable : (a : ActionKind) (index : Option (List ℕ)) (id : List ℕ) → ArePrintable (json_tokens (line_json a index id))
unfolding ArePrintable
printable a None id = search rules
printable a (Some index) id = search rules

reads : (a : ActionKind) (index : Option (List ℕ)) (id : List ℕ) → of_json (line_json a index id) ≡ Some (line_data a index id)
reads a None id = refl
reads a (Some index) id = refl

tokens_of : (a : ActionKind) (index : Option (List ℕ)) (id : List ℕ) → IsPlainIndex index → IsPlain id → tokens (usual_line a index id) ≡ json_tokens (line_json a index id)
tokens_of a index id h k =
    ap tokens (sym (printed a index id ∙ in_pieces a index id h k)) ∙ tokens-print (json_tokens (line_json a index id)) (printable a index id)

value_of : (a : ActionKind) (index : Option (List ℕ)) (id : List ℕ) → json.value max_depth (json_tokens (line_json a index id)) ≡ Some (line_json a index id, [])
value_of a None id = ap (json.value max_depth) (sym (append-nil _)) ∙ value-json_tokens (line_json a None id) max_depth [] (lit≤ tt)
value_of a (Some index) id = ap (json.value max_depth) (sym (append-nil _)) ∙ value-json_tokens (line_json a (Some index) id) max_depth [] (lit≤ tt)

read-usual : (a : ActionKind) (index : Option (List ℕ)) (id : List ℕ) → IsPlainIndex index → IsPlain id → read (usual_line a index id) ≡ Some (line_data a index id)
read-usual a index id h k =
    ap (λ o. option_and_then of_json (option_and_then (λ p. json.if_last p.0 p.1) o)) (ap (json.value max_depth) (tokens_of a index id h k) ∙ value_of a index id)
    ∙ reads a index id

-- ---- what it says

utf8_start : (a : ActionKind) → IsUtf8 (usual_start a)
utf8_start action.Index = IsUtf8-are_ascii (usual_start action.Index) refl
utf8_start action.Delete = IsUtf8-are_ascii (usual_start action.Delete) refl

utf8_index : (index : Option (List ℕ)) (rest : List ℕ) → IsPlainIndex index → IsUtf8 rest → IsUtf8 (with_index index rest)
utf8_index None rest h u = u
utf8_index (Some index) rest h u =
    let name = codes "\"_index\":\"" in
    let last = codes "\"," in
    IsUtf8-append name (index ++ (last ++ rest)) (IsUtf8-are_ascii name refl)
    (IsUtf8-append index (last ++ rest) (utf8_plain index h) (IsUtf8-append last rest (IsUtf8-are_ascii last refl) u))

utf8_id : (id : List ℕ) → IsPlain id → IsUtf8 (usual_id id)
utf8_id id k =
    let name = codes "\"_id\":\"" in
    let last = codes "\"}}" in
    IsUtf8-append name (id ++ last) (IsUtf8-are_ascii name refl) (IsUtf8-append id last (utf8_plain id k) (IsUtf8-are_ascii last refl))

utf8_line : (a : ActionKind) (index : Option (List ℕ)) (id : List ℕ) → IsPlainIndex index → IsPlain id → IsUtf8 (usual_line a index id)
utf8_line a index id h k = IsUtf8-append (usual_start a) (with_index index (usual_id id)) (utf8_start a) (utf8_index index (usual_id id) h (utf8_id id k))

says_given : (default : Option (List ℕ)) (line : List ℕ) (a : ActionKind) (index id : List ℕ) → line ≡ usual_line a (Some index) id → IsPlain index → IsPlain id → Says default line a index id
says_given default line a index id e h k = rw e (
  utf8_line a (Some index) id h k,
  line_data a (Some index) id,
  read-usual a (Some index) id h k,
  (metadata (Some index) id, refl, (refl, refl, refl)),
)

says_default : (default : List ℕ) (line : List ℕ) (a : ActionKind) (id : List ℕ) → line ≡ usual_line a None id → IsPlain id → Says (Some default) line a default id
says_default default line a id e k = rw e (
  utf8_line a None id tt k,
  line_data a None id,
  read-usual a None id tt k,
  (metadata None id, refl, (refl, refl, refl)),
)

pub says_usual : (default given : Option (Bor (List ℕ))) (line : List ℕ) (a : ActionKind) (index : Bor (List ℕ)) (id : List ℕ) → line ≡ usual_line a (bytes_given given) id → IsPlainIndex (bytes_given given) × IsPlain id → option_or given default ≡ Some index → Says (bytes_given default) line a index.now id
says_usual default (Some i) line a index id e h is =
    rw (sym (ap (λ o. (unwrap_or o i).now) is)) (says_given (bytes_given default) line a i.now id e h.0 h.1)
says_usual (Some d) None line a index id e h is =
    rw (sym (ap (λ o. (unwrap_or o d).now) is)) (says_default d.now line a id e h.1)
says_usual None None line a index id e h is = absurd (let k = is in cc)
