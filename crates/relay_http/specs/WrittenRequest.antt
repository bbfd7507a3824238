-- The request with a bulk body (RFC 9112, section 3), when it is written.
use Rattle.std.specs.Prelude.{◌≡◌, ◌⊎◌, ◌&&◌, ℕ, ◌<◌, nat_le, nat_lt, Bool, List, [], ◌∷◌, ◌++◌, length, take, codes, Option, Result, Ok, Err}
use Rattle.std.specs.Fmt.{decimal}
use Rattle.std.specs.Io.KnownBytes.{append_known}
use Rattle.std.specs.List.{list_all}
use Rattle.httparse.specs.Ascii.{crlf_bytes}
use Rattle.httparse.specs.Grammar.{RequestHead, Field, crlf}
use Rattle.relay_action.specs.declared.write.Write.{Write}
use Rattle.relay_ndjson.specs.Bulk.{text_of}
use Rattle.relay_http.specs.declared.fault.HttpFault.{HttpFault}
use Rattle.relay_http.specs.declared.fault.HttpFault.TheVariants as fault

-- a visible ASCII character
abbrev pub is_visible : ℕ → Bool
is_visible b = nat_le 33 b && nat_le b 126

-- 1 to 255 of them
abbrev pub is_host : List ℕ → Bool
is_host host = nat_lt 0 (length host) && (nat_le (length host) 255 && list_all is_visible host)

-- the head of a request to this host, with a length in these digits
unfoldable pub head_text : List ℕ → List ℕ → List ℕ
head_text host digits =
    codes "POST /_bulk HTTP/1.1" ++ (crlf_bytes
    ++ (codes "Host: " ++ (host ++ (crlf_bytes
    ++ (codes "Content-Type: application/x-ndjson" ++ (crlf_bytes
    ++ (codes "Content-Length: " ++ ((digits ++ crlf_bytes)
    ++ crlf_bytes))))))))

-- the request to this host with this body
abbrev pub request : List ℕ → List ℕ → List ℕ
request host body = head_text host (decimal (length body)) ++ body

-- its head as a parse tree
abbrev pub host_field : List ℕ → Field
host_field host = record { name = codes "Host"; raw = 32 ∷ host; end = crlf }

abbrev pub type_field : Field
type_field = record { name = codes "Content-Type"; raw = codes " application/x-ndjson"; end = crlf }

abbrev pub length_field : List ℕ → Field
length_field digits = record { name = codes "Content-Length"; raw = 32 ∷ digits; end = crlf }

abbrev pub written_head : List ℕ → List ℕ → RequestHead
written_head host digits = record {
  blank = [];
  method = codes "POST";
  target = codes "/_bulk";
  minor = 1;
  line_end = crlf;
  fields = host_field host ∷ type_field ∷ length_field digits ∷ [];
  last = crlf;
}

-- the maximum length of a request's head with a host of this length
abbrev pub head_room : ℕ
head_room = 512

-- a proper prefix of a text was sent
abbrev pub SendsFront : List ℕ → Option (List ℕ) → Option (List ℕ) → Type 0
SendsFront text old new = (sent : ℕ) × (sent < length text) × (new ≡ append_known old (take sent text))

-- the head of the request with these writes was sent, and the lines of the first few, fewer than all
abbrev pub SendsFirst : List ℕ → List Write → Option (List ℕ) → Option (List ℕ) → Type 0
SendsFirst host ws old new =
    (count : ℕ) × (count < length ws)
    × (new ≡ append_known old (head_text host (decimal (length (text_of ws))) ++ text_of (take count ws)))

-- How much of the request with these writes was sent: all of it, or a prefix if a write failed. If an allocation
-- failed, nothing, or the head and the lines of the first writes.
abbrev pub SendsRequest : List ℕ → List Write → Option (List ℕ) → Option (List ℕ) → Result (Unit {0}) HttpFault → Type 0
SendsRequest host ws old new (Ok _) = new ≡ append_known old (request host (text_of ws))
SendsRequest host ws old new (Err fault.Write) = SendsFront (request host (text_of ws)) old new
SendsRequest host ws old new (Err fault.Memory) = (new ≡ old) ⊎ SendsFirst host ws old new
SendsRequest host ws old new (Err f) = ⊥

-- how much of this message was sent: all of it, part of it if a write failed, or nothing
abbrev pub WritesText : List ℕ → Option (List ℕ) → Option (List ℕ) → Result (Unit {0}) HttpFault → Type 0
WritesText text old new (Ok _) = new ≡ append_known old text
WritesText text old new (Err fault.Write) = (sent : ℕ) × (sent < length text) × (new ≡ append_known old (take sent text))
WritesText text old new (Err f) = (f ≡ fault.Memory) × (new ≡ old)
