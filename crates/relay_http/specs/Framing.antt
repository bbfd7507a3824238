-- Where the body of a message ends, given its status and its fields (RFC 9112, section 6.3).
use Rattle.std.specs.Prelude.{ℕ, Bool, true, false, not, ◌&&◌, ◌||◌, List, [], ◌∷◌, length, if◌then◌else◌, ◌==◌, nat_lt, nat_le, codes, Result, Ok, Err}
use Rattle.std.specs.List.{list_all, list_any}
use Rattle.relay_http.specs.Fields.{Header, same_word, values_named, elements_named, has_field, number, agrees}
use Rattle.relay_http.specs.declared.fault.HttpFault.{HttpFault}
use Rattle.relay_http.specs.declared.fault.HttpFault.TheVariants.{Malformed, BodyLong, CodedBody, BothLengths, TooManyInterim}
use Rattle.relay_http.specs.declared.framing.Framing.{Framing}
use Rattle.relay_http.specs.declared.framing.Framing.TheVariants.{Absent, Sized, Chunked, ToEnd}

-- the maximum length of a reply's body, in bytes
abbrev pub reply_limit : ℕ
reply_limit = 67108864

-- the maximum length of a request's body, in bytes
abbrev pub request_limit : ℕ
request_limit = 16777216

-- the length on which the elements of the Content-Length fields agree, within a limit; the open framing if there are
-- none
abbrev pub framing_by_length : ℕ → Framing → List (List ℕ) → Result Framing HttpFault
framing_by_length limit open_framing [] = Ok open_framing
framing_by_length limit open_framing (e ∷ es) =
    if list_all (agrees e) (e ∷ es)
    then (if nat_le (number e) limit then Ok (Sized (number e)) else Err BodyLong)
    else Err Malformed

-- whether this Content-Encoding leaves the body as it is (RFC 9110, section 8.4)
abbrev pub is_plain : List ℕ → Bool
is_plain value = (length value == 0) || same_word value (codes "identity")

-- whether there is exactly one Transfer-Encoding field, and it says chunked
abbrev pub is_chunked : List (List ℕ) → Bool
is_chunked [] = false
is_chunked (value ∷ []) = same_word value (codes "chunked")
is_chunked (value ∷ (other ∷ values)) = false

-- the framing of a message that may have a body, of at most `limit` bytes; the open framing if no field gives a
-- length
abbrev pub framing_of_fields : ℕ → Framing → List Header → Result Framing HttpFault
framing_of_fields limit open_framing fields =
    let codings = values_named (codes "transfer-encoding") fields in
    let lengths = elements_named (codes "content-length") fields in
    let coded = has_field (codes "transfer-encoding") fields in
    if coded && has_field (codes "content-length") fields then Err BothLengths
    else (if (coded && not (is_chunked codings)) || not (list_all is_plain (values_named (codes "content-encoding") fields)) then Err CodedBody
    else (if coded then Ok Chunked else framing_by_length limit open_framing lengths))

-- a head with this status precedes the final one, and is dropped (RFC 9110, section 15.2)
abbrev pub is_interim : ℕ → Bool
is_interim status = nat_le 100 status && (nat_lt status 200 && not (status == 101))

-- the framing of a reply whose last head has this status; an interim head is the last one only if there are too many
abbrev pub framing_of : ℕ → List Header → Result Framing HttpFault
framing_of status fields =
    if is_interim status then Err TooManyInterim
    else (if nat_lt status 200 || nat_lt 599 status then Err Malformed
    else (if (status == 204) || (status == 304) then Ok Absent
    else framing_of_fields reply_limit ToEnd fields))

-- the framing of a request
abbrev pub framing_of_request : List Header → Result Framing HttpFault
framing_of_request fields = framing_of_fields request_limit Absent fields

-- whether the head keeps the connection (RFC 9112, section 9.3)
abbrev pub keeps : ℕ → List Header → Bool
keeps minor fields = nat_lt 0 minor && not (list_any (λ e. same_word e (codes "close")) (elements_named (codes "connection") fields))

-- whether the body extends to the end of the stream
abbrev pub is_to_end : Framing → Bool
is_to_end Absent = false
is_to_end (Sized n) = false
is_to_end Chunked = false
is_to_end ToEnd = true
