-- The answer to a request (RFC 9112, section 4), when it is written.
use Rattle.std.specs.Prelude.{◌≢◌, ℕ, ◌≤◌, ◌==◌, Bool, List, [], ◌∷◌, ◌++◌, length, codes, if◌then◌else◌, Some}
use Rattle.std.specs.Fmt.{decimal}
use Rattle.httparse.specs.Ascii.{crlf_bytes}
use Rattle.httparse.specs.Grammar.{ResponseHead, Field, crlf}

-- a status of a final answer that has a body (RFC 9110, section 15)
abbrev pub IsAnswerStatus : ℕ → Type 0
IsAnswerStatus status = (200 ≤ status) × (status ≤ 599) × (status ≢ 204) × (status ≢ 304)

-- the reason phrase of a status, if it has one here
abbrev pub reason_of : ℕ → List ℕ
reason_of status =
    if status == 200 then codes "OK"
    else if status == 400 then codes "Bad Request"
    else if status == 413 then codes "Content Too Large"
    else if status == 429 then codes "Too Many Requests"
    else if status == 502 then codes "Bad Gateway"
    else if status == 503 then codes "Service Unavailable"
    else if status == 504 then codes "Gateway Timeout"
    else []

-- what follows the length
abbrev pub ending : Bool → List ℕ
ending keep = if keep then crlf_bytes ++ crlf_bytes else crlf_bytes ++ (codes "Connection: close" ++ (crlf_bytes ++ crlf_bytes))

-- the head of an answer, with a status and a length in these digits
unfoldable pub answer_text : List ℕ → List ℕ → List ℕ → Bool → List ℕ
answer_text status reason digits keep =
    codes "HTTP/1.1 " ++ (status ++ (32 ∷ (reason ++ (crlf_bytes
    ++ (codes "Content-Type: application/json" ++ (crlf_bytes
    ++ (codes "Content-Length: " ++ (digits ++ ending keep))))))))

-- the answer with this status and this body, with or without `close`
abbrev pub answer : ℕ → List ℕ → Bool → List ℕ
answer status body keep = answer_text (decimal status) (reason_of status) (decimal (length body)) keep ++ body

-- its head as a parse tree
abbrev pub json_field : Field
json_field = record { name = codes "Content-Type"; raw = codes " application/json"; end = crlf }

abbrev pub size_field : List ℕ → Field
size_field digits = record { name = codes "Content-Length"; raw = 32 ∷ digits; end = crlf }

abbrev pub close_fields : Bool → List Field
close_fields keep = if keep then [] else record { name = codes "Connection"; raw = codes " close"; end = crlf } ∷ []

abbrev pub answer_tree : List ℕ → List ℕ → List ℕ → Bool → ResponseHead
answer_tree status reason digits keep = record {
  blank = [];
  minor = 1;
  digits = status;
  reason = Some reason;
  line_end = crlf;
  fields = json_field ∷ size_field digits ∷ close_fields keep;
  last = crlf;
}
