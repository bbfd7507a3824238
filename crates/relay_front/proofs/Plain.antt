-- A text of plain bytes stands for itself in a JSON string.
use Rattle.std.proofs.Common.{◌≡◌, ◌++◌, ℕ, List, [], ◌∷◌, true, refl, sym, ap, ◌∙◌, arith}
use Rattle.std.proofs.lemmas.Grind.{common_steps}
use Rattle.std.specs.List.{list_all}
use Rattle.json.specs.Print.{escape_byte, escape, quoted}
use Rattle.relay_ndjson.specs.Escapes.{needs_no_escape}

plain_byte : (b : ℕ) → needs_no_escape b ≡ true → escape_byte b ≡ b ∷ []
unfolding escape_byte
plain_byte b h = grind (arith, common_steps)

plain_head : (b : ℕ) (bs : List ℕ) → list_all needs_no_escape (b ∷ bs) ≡ true → needs_no_escape b ≡ true
plain_head b bs h = grind (arith, common_steps)

plain_tail : (b : ℕ) (bs : List ℕ) → list_all needs_no_escape (b ∷ bs) ≡ true → list_all needs_no_escape bs ≡ true
plain_tail b bs h = grind (arith, common_steps)

pub escape_plain : (bytes : List ℕ) → list_all needs_no_escape bytes ≡ true → escape bytes ≡ bytes
escape_plain [] h = refl
escape_plain (b ∷ bs) h = ap (λ c. c ++ escape bs) (plain_byte b (plain_head b bs h)) ∙ ap (λ cs. b ∷ cs) (escape_plain bs (plain_tail b bs h))

-- between quotes, behind what stands there
pub quoted_plain : (old text : List ℕ) → list_all needs_no_escape text ≡ true → ((old ++ 34 ∷ []) ++ text) ++ 34 ∷ [] ≡ old ++ quoted text
quoted_plain [] text h = ap (λ e. 34 ∷ (e ++ 34 ∷ [])) (sym (escape_plain text h))
quoted_plain (b ∷ old) text h = ap (λ cs. b ∷ cs) (quoted_plain old text h)
