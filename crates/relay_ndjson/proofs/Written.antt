-- What is written for a write is its lines.
use Rattle.std.proofs.Common.{◌≡◌, ◌≢◌, ℕ, zero, suc, ◌+◌, ◌-◌, ◌*◌, ◌%◌, ◌^◌, ◌<◌, ◌≤◌, List, [], ◌∷◌, ◌++◌, length, get_or, codes, decimal, refl, sym, subst, arith, inr, append_assoc, length-append, Some, IsUtf8}
use Rattle.std.proofs.lemmas.Grind.{common_steps}
use Rattle.std.proofs.lemmas.Str.{IsUtf8-append, IsUtf8-had}
use Rattle.std.proofs.lemmas.Fmt.{decimal_by_steps, length-decimal-le}
use Rattle.json.specs.Print.{quoted, escape, escape_byte}
use Rattle.json.proofs.Printed.Utf8.{IsUtf8-are_ascii, IsUtf8-quoted}
use Rattle.serde_json.specs.Data.{string, number, unsigned, member, no_members}
use Rattle.serde_json.proofs.OnLiterals.{serde_json_on_literals}
use Rattle.relay_action.specs.Actions.{kind_of, kind_name}
use Rattle.relay_action.specs.Limits.{IsOneLine}
use Rattle.relay_action.specs.declared.action.Action.{Action}
use Rattle.relay_action.specs.declared.action.Action.TheVariants.{Index, Delete}
use Rattle.relay_action.specs.declared.write.Write.{Write}
use Rattle.relay_action.specs.Limits.{last_version}
use Rattle.relay_ndjson.specs.Bulk.{action_text, action_data, source_line, line_end, write_text, text_of}
use Rattle.relay_ndjson.specs.Lines.{IsUnbroken, IsLine, line_limit}
use Rattle.relay_ndjson.specs.VersionedLines.{AsksVersioned, SaysWrite, within_last}
use Rattle.relay_ndjson.specs.Bodies.{IsSourceOf, IsLinesOf, AreDealt}
use Rattle.relay_ndjson.specs.Laws.{BulkTextIsBulk}
use Rattle.relay_ndjson.proofs.Parts.{length-action_text}
use Rattle.relay_ndjson.proofs.ReadsBack.{read-action_text}

-- ---- a text of one line, with a line end after it

one_line_head : (x : ℕ) (xs : List ℕ) → IsOneLine (x ∷ xs) → (x ≢ 10) × (x ≢ 13)
one_line_head x xs h = (λ e. grind (arith, common_steps), λ e. grind (arith, common_steps))

one_line_tail : (x : ℕ) (xs : List ℕ) → IsOneLine (x ∷ xs) → IsOneLine xs
one_line_tail x xs h = grind (arith, common_steps)

one_line_cons : (x : ℕ) (xs : List ℕ) → x ≢ 10 → x ≢ 13 → IsOneLine xs → IsOneLine (x ∷ xs)
one_line_cons x xs h k m = grind (arith, common_steps)

one_line_append : (xs ys : List ℕ) → IsOneLine xs → IsOneLine ys → IsOneLine (xs ++ ys)
one_line_append xs ys h k = grind (arith, common_steps)

unbroken_line : (text : List ℕ) → IsOneLine text → IsUnbroken text
unbroken_line [] h = refl
unbroken_line (x ∷ xs) h =
    let here = one_line_head x xs h in
    let rest = unbroken_line xs (one_line_tail x xs h) in
    let not_feed = here.0 in grind (arith, common_steps)

no_return : (text : List ℕ) (k : ℕ) → IsOneLine text → get_or text k 0 ≢ 13
no_return [] k h e = omega (arith, e)
no_return (x ∷ xs) zero h e = let here = one_line_head x xs h in here.1 e
no_return (x ∷ xs) (suc k) h e = no_return xs k (one_line_tail x xs h) e

line_of : (text : List ℕ) → IsOneLine text → length text ≤ line_limit → IsLine text (text ++ line_end)
line_of text h n = (text, unbroken_line text h, inr (refl, no_return text (length text - 1) h), n, refl)

-- ---- the parts of an action line

one_line_byte : (b : ℕ) → IsOneLine (escape_byte b)
unfolding escape_byte
one_line_byte b = grind (arith, common_steps)

one_line_escape : (text : List ℕ) → IsOneLine (escape text)
one_line_escape [] = refl
one_line_escape (b ∷ bs) = one_line_append (escape_byte b) (escape bs) (one_line_byte b) (one_line_escape bs)

one_line_quoted : (text : List ℕ) → IsOneLine (quoted text)
one_line_quoted text = one_line_cons 34 (escape text ++ 34 ∷ []) (omega arith) (omega arith) (one_line_append (escape text) (34 ∷ []) (one_line_escape text) refl)

one_line_digit : (n : ℕ) → n < 10 → IsOneLine ((48 + n) ∷ [])
one_line_digit n h = one_line_cons (48 + n) [] (omega arith) (omega arith) refl

one_line_decimal : (n : ℕ) → n < 2 ^ 64 → IsOneLine (decimal n)
one_line_decimal n h =
    decimal_by_steps (λ n ds. IsOneLine ds) one_line_digit (λ n ds low rec. one_line_append ds ((48 + n % 10) ∷ []) rec (one_line_digit (n % 10) (omega arith))) n h

utf8_digit : (n : ℕ) → n < 10 → IsUtf8 ((48 + n) ∷ [])
utf8_digit n h = IsUtf8-are_ascii ((48 + n) ∷ []) (grind (arith, common_steps))

utf8_decimal : (n : ℕ) → n < 2 ^ 64 → IsUtf8 (decimal n)
utf8_decimal n h =
    decimal_by_steps (λ n ds. IsUtf8 ds) utf8_digit (λ n ds low rec. IsUtf8-append ds ((48 + n % 10) ∷ []) rec (utf8_digit (n % 10) (omega arith))) n h

length-escape_byte : (b : ℕ) → length (escape_byte b) ≤ 6
unfolding escape_byte
length-escape_byte b = grind (arith, common_steps)

length-escape : (text : List ℕ) → length (escape text) ≤ 6 * length text
length-escape [] = omega arith
length-escape (b ∷ bs) =
    let here = length-escape_byte b in
    let rest = length-escape bs in
    let n : length (escape (b ∷ bs)) ≡ length (escape_byte b) + length (escape bs) = length-append (escape_byte b) (escape bs) in omega (arith, here, rest, n)

-- ---- an action line

-- how it begins, up to the string of the id
abbrev start : Action → List ℕ
start (Index source) = codes "{\"index\":{\"_id\":"
start Delete = codes "{\"delete\":{\"_id\":"

-- the rest, from the version on, from the index name on and from the id on
abbrev version_part : ℕ → List ℕ
version_part version = codes ",\"version\":" ++ (decimal version ++ codes ",\"version_type\":\"external\"}}")

abbrev index_part : List ℕ → ℕ → List ℕ
index_part index version = codes ",\"_index\":" ++ (quoted index ++ version_part version)

abbrev parts : (a : Action) (id index : List ℕ) → ℕ → List ℕ
parts a id index version = start a ++ (quoted id ++ index_part index version)

action_text-strings : (w : Write) → action_text w ≡ parts w.action w.key.id w.key.index w.version
unfolding action_text serde_json_on_literals
action_text-strings w = elim w.action as (λ a. action_text (record w { action = a }) ≡ parts a w.key.id w.key.index w.version) [ Index s ↦ simp append_assoc | Delete ↦ simp append_assoc ]

one_line_version : (version : ℕ) → version < 2 ^ 64 → IsOneLine (version_part version)
one_line_version version h =
    let last = codes ",\"version_type\":\"external\"}}" in
    one_line_append (codes ",\"version\":") (decimal version ++ last) refl (one_line_append (decimal version) last (one_line_decimal version h) refl)

one_line_index : (index : List ℕ) (version : ℕ) → version < 2 ^ 64 → IsOneLine (index_part index version)
one_line_index index version h =
    one_line_append (codes ",\"_index\":") (quoted index ++ version_part version) refl (one_line_append (quoted index) (version_part version) (one_line_quoted index) (one_line_version version h))

one_line_start : (a : Action) → IsOneLine (start a)
one_line_start (Index source) = refl
one_line_start Delete = refl

one_line_parts : (a : Action) (id index : List ℕ) (version : ℕ) → version < 2 ^ 64 → IsOneLine (parts a id index version)
one_line_parts a id index version h =
    one_line_append (start a) (quoted id ++ index_part index version) (one_line_start a) (one_line_append (quoted id) (index_part index version) (one_line_quoted id) (one_line_index index version h))

utf8_version : (version : ℕ) → version < 2 ^ 64 → IsUtf8 (version_part version)
utf8_version version h =
    let last = codes ",\"version_type\":\"external\"}}" in
    IsUtf8-append (codes ",\"version\":") (decimal version ++ last) (IsUtf8-are_ascii (codes ",\"version\":") refl) (IsUtf8-append (decimal version) last (utf8_decimal version h) (IsUtf8-are_ascii last refl))

utf8_index : (index : List ℕ) (version : ℕ) → version < 2 ^ 64 → IsUtf8 index → IsUtf8 (index_part index version)
utf8_index index version h u =
    IsUtf8-append (codes ",\"_index\":") (quoted index ++ version_part version) (IsUtf8-are_ascii (codes ",\"_index\":") refl) (IsUtf8-append (quoted index) (version_part version) (IsUtf8-quoted index u) (utf8_version version h))

utf8_start : (a : Action) → IsUtf8 (start a)
utf8_start (Index source) = IsUtf8-are_ascii (start (Index source)) refl
utf8_start Delete = IsUtf8-are_ascii (start Delete) refl

utf8_parts : (a : Action) (id index : List ℕ) (version : ℕ) → version < 2 ^ 64 → IsUtf8 id → IsUtf8 index → IsUtf8 (parts a id index version)
utf8_parts a id index version h u v =
    IsUtf8-append (start a) (quoted id ++ index_part index version) (utf8_start a) (IsUtf8-append (quoted id) (index_part index version) (IsUtf8-quoted id u) (utf8_index index version h v))

short_name : (a : Action) → length (kind_name (kind_of a)) ≤ 6
short_name (Index source) = omega arith
short_name Delete = omega arith

action_text_short : (w : Write) → w.version < 2 ^ 64 → length (action_text w) ≤ line_limit
action_text_short w h =
    let all = length-action_text w in
    let name = short_name w.action in
    let id = length-escape w.key.id in
    let index = length-escape w.key.index in
    let i = w.key.id_ok.1 in let j = w.key.index_ok.1 in
    let digits = length-decimal-le 20 w.version (omega arith) (omega arith) h in omega (arith, all, name, id, index, i, j, digits)

action_line : (w : Write) → w.version < 2 ^ 64 → IsLine (action_text w) (action_text w ++ line_end)
action_line w h =
    line_of (action_text w) (subst IsOneLine (sym (action_text-strings w)) (one_line_parts w.action w.key.id w.key.index w.version h)) (action_text_short w h)

-- ---- what it says

within : (n : ℕ) → n ≤ last_version → within_last n ≡ Some n
within n h = grind (arith, h)

asks_written : (w : Write) → w.version ≤ last_version → AsksVersioned (action_data w) (kind_of w.action) w.key.index w.key.id w.version
asks_written w h = (
  member (codes "_id") (string w.key.id) (member (codes "_index") (string w.key.index) (member (codes "version") (number (unsigned w.version)) (member (codes "version_type") (string (codes "external")) no_members))),
  refl,
  (refl, within w.version h, refl, refl, refl),
)

says_written : (w : Write) → w.version ≤ last_version → SaysWrite (action_text w) w
says_written w h =
    let small : w.version < 2 ^ 64 = omega (arith, h) in
    let utf8 = utf8_parts w.action w.key.id w.key.index w.version small (IsUtf8-had w.key.id w.key.id_utf8) (IsUtf8-had w.key.index w.key.index_utf8) in
    (subst IsUtf8 (sym (action_text-strings w)) utf8, action_data w, read-action_text w small, asks_written w h)

-- ---- writes

source_written : (a : Action) → IsSourceOf a (source_line a)
source_written (Index source) = line_of source.text source.line_ok (let n = source.length_ok.1 in omega (arith, n))
source_written Delete = refl

lines_written : (w : Write) → w.version ≤ last_version → IsLinesOf (write_text w) w
lines_written w h =
    (action_text w, action_text w ++ line_end, source_line w.action, action_line w (omega (arith, h)), says_written w h, source_written w.action, refl)

dealt_here : (w : Write) (ws : List Write) → AreDealt (w ∷ ws) → w.version ≤ last_version
dealt_here w ws d = d 0 w (omega arith)

dealt_later : (w : Write) (ws : List Write) → AreDealt (w ∷ ws) → AreDealt ws
dealt_later w ws d = λ k e below. d (suc k) e (omega (arith, below))

pub bulk_text_is_bulk : BulkTextIsBulk
bulk_text_is_bulk [] d = refl
bulk_text_is_bulk (w ∷ ws) d = (write_text w, text_of ws, lines_written w (dealt_here w ws d), bulk_text_is_bulk ws (dealt_later w ws d), refl)
