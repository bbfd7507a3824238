-- Escapes in JSON strings: RFC 8259, section 7, with the short form if there is one.
use Rattle.std.specs.Prelude.{◌≡◌, ℕ, ◌+◌, ◌/◌, ◌%◌, List, [], ◌∷◌, ◌++◌, Bool, not, ◌&&◌, if◌then◌else◌, ◌==◌, nat_lt, nat_le, codes, Option, None, Some, string_bytes}
use Rattle.std.specs.declared.string.String.{String}
use Rattle.std.specs.declared.alloc.Global.{Global}
use Rattle.json.specs.Print.{escape_byte, escape, quoted}

-- a lower case hexadecimal digit
abbrev pub hex_digit : ℕ → ℕ
hex_digit n = if nat_lt n 10 then 48 + n else 87 + n

-- what is written for a byte
abbrev pub escape_by_table : ℕ → List ℕ
escape_by_table b =
    if b == 34 then codes "\\\""
    else if b == 92 then codes "\\\\"
    else if b == 8 then codes "\\b"
    else if b == 9 then codes "\\t"
    else if b == 10 then codes "\\n"
    else if b == 12 then codes "\\f"
    else if b == 13 then codes "\\r"
    else if nat_lt b 32 then codes "\\u00" ++ hex_digit (b / 16) ∷ hex_digit (b % 16) ∷ []
    else b ∷ []

-- texts are escaped by this table
abbrev pub EscapesByTable : Type 0
EscapesByTable = (b : ℕ) → escape_byte b ≡ escape_by_table b

-- a byte that stands for itself
abbrev pub needs_no_escape : ℕ → Bool
needs_no_escape b = nat_le 32 b && not (b == 34) && not (b == 92)

-- the JSON string of a text, or `None` if the text needs no escapes
abbrev pub IsEscapeOf : List ℕ → Option (String Global) → Type 0
IsEscapeOf text None = escape text ≡ text
IsEscapeOf text (Some s) = string_bytes s ≡ quoted text
