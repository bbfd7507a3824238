-- The address of an index as it is given on a command line.
use Rattle.std.specs.Prelude.{◌≡◌, ◌≢◌, ℕ, ◌<◌, ◌⊎◌, List, [], ◌∷◌, ◌++◌, Option, None, Some, codes}
use Rattle.std.specs.Str.Parse.{IsNumeral, digits_value}
use Rattle.relay_target.specs.declared.address.AddressFault.{AddressFault}
use Rattle.relay_target.specs.declared.address.AddressFault.TheVariants as fault

-- the text begins or ends like this, or it does not
abbrev pub HasFront : List ℕ → List ℕ → Type 0
HasFront text front = (rest : List ℕ) × (text ≡ front ++ rest)

abbrev pub HasEnd : List ℕ → List ℕ → Type 0
HasEnd text end = (rest : List ℕ) × (text ≡ rest ++ end)

abbrev pub Has : List ℕ → List ℕ → Type 0
Has text part = (front : List ℕ) × (rest : List ℕ) × (text ≡ front ++ (part ++ rest))

-- `http://` is dropped, and so is a slash at the end
abbrev pub StripsScheme : List ℕ → List ℕ → Type 0
StripsScheme text rest = (text ≡ codes "http://" ++ rest) ⊎ ((rest ≡ text) × (HasFront text (codes "http://") → ⊥))

abbrev pub StripsSlash : List ℕ → List ℕ → Type 0
StripsSlash text rest = (text ≡ rest ++ codes "/") ⊎ ((rest ≡ text) × (HasEnd text (codes "/") → ⊥))

-- a host and a port, around the last colon
abbrev pub SplitsPort : List ℕ → List ℕ → List ℕ → Type 0
SplitsPort address host port = (address ≡ host ++ 58 ∷ port) × (Has port (codes ":") → ⊥)

-- not empty, without `/` and `@`, and with a colon only in brackets
abbrev pub IsOnePart : List ℕ → Type 0
IsOnePart host = (Has host (codes ":") → ⊥) ⊎ (HasFront host (codes "[") × HasEnd host (codes "]"))

pub record IsHostName (host : List ℕ) : Type 0 where
  pub some : host ≢ []
  pub slash : Has host (codes "/") → ⊥
  pub at : Has host (codes "@") → ⊥
  pub colon : IsOnePart host

-- decimal digits of a number from 1 to 65535
pub record IsPort (port : List ℕ) : Type 0 where
  pub digits : IsNumeral 10 port
  pub some : 0 < digits_value 10 port
  pub within : digits_value 10 port < 65536

-- a host and a port, or why not: an address of version 6 in brackets has no port after it, or one of the two is wrong
abbrev pub JudgesParts : List ℕ → List ℕ → Option AddressFault → Type 0
JudgesParts host port None = IsHostName host × IsPort port
JudgesParts host port (Some fault.NoPort) = HasEnd port (codes "]")
JudgesParts host port (Some fault.Form) = IsHostName host → IsPort port → ⊥
JudgesParts host port (Some fault.Secure) = ⊥

-- the address is a host and a port around its last colon, or why not
abbrev pub ReadsParts : List ℕ → Option AddressFault → Type 0
ReadsParts address reason =
    ((host : List ℕ) × (port : List ℕ) × SplitsPort address host port × JudgesParts host port reason)
    ⊎ ((Has address (codes ":") → ⊥) × (reason ≡ Some fault.NoPort))

-- a text without what is dropped
abbrev pub Strips : List ℕ → List ℕ → Type 0
Strips text address = (rest : List ℕ) × StripsScheme text rest × StripsSlash rest address
