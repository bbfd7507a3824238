-- Texts that need no escapes in a JSON string (RFC 8259, section 7).
use Rattle.std.specs.Prelude.{◌≡◌, ℕ, Bool, true, not, ◌&&◌, ◌==◌, nat_le, nat_lt, List}
use Rattle.std.specs.List.{list_all}

-- an ASCII character from the space on, except the quote, the backslash and DEL
abbrev pub is_plain_ascii : ℕ → Bool
is_plain_ascii b = nat_le 32 b && nat_lt b 127 && not (b == 34) && not (b == 92)

abbrev pub IsPlain : List ℕ → Type 0
IsPlain text = list_all is_plain_ascii text ≡ true
