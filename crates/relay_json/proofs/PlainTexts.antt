-- A plain text stands for itself between the quotes of a JSON string, and is UTF-8.
use Rattle.std.proofs.Common.{◌≡◌, ℕ, ◌<◌, ◌≤◌, List, [], ◌∷◌, ◌++◌, length, get_or, take, drop, IsUtf8, IsAscii, refl, sym, ap, ◌∙◌, subst, arith, append_assoc, true, ◌&&◌, ◌==◌, Option, Some, None, IfNone}
use Rattle.std.proofs.Math.Seq.{get_or-append_seam}
use Rattle.std.proofs.lemmas.Grind.{common_steps}
use Rattle.std.proofs.lemmas.List.{length-append, take-append-drop, take-append-le}
use Rattle.std.proofs.lemmas.List.Folds.{list_all-append}
use Rattle.std.proofs.lemmas.Str.{IsUtf8-from_ascii}
use Rattle.std.specs.List.{list_all}
use Rattle.memchr.specs.Find.{Nowhere, Passes, is_byte}
use Rattle.json.specs.Print.{escape, escape_byte, quoted}
use Rattle.relay_json.specs.Plain.{is_plain_ascii, IsPlain}

plain_byte : (b : ℕ) → is_plain_ascii b ≡ true → escape_byte b ≡ b ∷ []
unfolding escape_byte
plain_byte b h = grind (arith, common_steps)

plain_head : (b : ℕ) (bs : List ℕ) → IsPlain (b ∷ bs) → is_plain_ascii b ≡ true
plain_head b bs h = grind (arith, common_steps)

plain_tail : (b : ℕ) (bs : List ℕ) → IsPlain (b ∷ bs) → IsPlain bs
plain_tail b bs h = grind (arith, common_steps)

pub escape_plain : (text : List ℕ) → IsPlain text → escape text ≡ text
escape_plain [] h = refl
escape_plain (b ∷ bs) h = ap (λ c. c ++ escape bs) (plain_byte b (plain_head b bs h)) ∙ ap (λ cs. b ∷ cs) (escape_plain bs (plain_tail b bs h))

pub between_quotes : (text rest : List ℕ) → IsPlain text → quoted text ++ rest ≡ 34 ∷ (text ++ 34 ∷ rest)
between_quotes text rest h = rw (escape_plain text h) (ap (λ t. 34 ∷ t) (append_assoc text (34 ∷ []) rest))

plain_ascii : (text : List ℕ) → IsPlain text → IsAscii text
plain_ascii text h = grind (arith, common_steps)

pub utf8_plain : (text : List ℕ) → IsPlain text → IsUtf8 text
utf8_plain text h = IsUtf8-from_ascii text (plain_ascii text h)

-- ---- when there is no plain text before a quote

-- if there is no quote before an index, a text that a quote follows reaches up to it
reaches : (text rest bytes : List ℕ) (end : ℕ) → Nowhere (Passes (is_byte 34) bytes) 0 end → bytes ≡ text ++ 34 ∷ rest → end ≤ length text
reaches text rest bytes end none same =
    let here : get_or bytes (length text) 0 ≡ 34 = ap (λ bs. get_or bs (length text) 0) same ∙ get_or-append_seam text 34 rest 0 in
    let within : length text < end → ⊥ = λ h. none (length text) (omega arith) h (ap (λ b. b == 34) here) in
    omega (arith, within)

-- without a quote there is no text before one
pub no_quote : (bytes : List ℕ) → Nowhere (Passes (is_byte 34) bytes) 0 (length bytes) → (text rest : List ℕ) → bytes ≡ text ++ 34 ∷ rest → IsPlain text → ⊥
no_quote bytes none text rest same plain =
    let all : length bytes ≡ length (text ++ 34 ∷ rest) = ap length same in
    omega (arith, all, length-append text (34 ∷ rest), reaches text rest bytes (length bytes) none same)

-- a part in front of a plain text is plain
plain_take : (text : List ℕ) (i : ℕ) → IsPlain text → IsPlain (take i text)
plain_take text i plain =
    let cut : list_all is_plain_ascii (take i text ++ drop i text) ≡ true = ap (list_all is_plain_ascii) (take-append-drop i text) ∙ plain in
    let parts : (list_all is_plain_ascii (take i text) && list_all is_plain_ascii (drop i text)) ≡ true = sym (list_all-append is_plain_ascii (take i text) (drop i text)) ∙ cut in
    grind (arith, common_steps)

-- if what precedes the first quote is not plain, no plain text precedes any quote
pub not_plain : (bytes : List ℕ) (end : ℕ) → Nowhere (Passes (is_byte 34) bytes) 0 end → (IsPlain (take end bytes) → ⊥) → (text rest : List ℕ) → bytes ≡ text ++ 34 ∷ rest → IsPlain text → ⊥
not_plain bytes end none front text rest same plain =
    let short : take end bytes ≡ take end text = ap (take end) same ∙ take-append-le end text (34 ∷ rest) (reaches text rest bytes end none same) in
    front (subst IsPlain (sym short) (plain_take text end plain))

-- of no value
pub if_none : {A P : Type 0} → (r : Option A) → P → IfNone r P
if_none None h = h
if_none (Some a) h = tt
