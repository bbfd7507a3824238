-- The method and the target of a request, found at the front of a stream (RFC 9112, section 3).
use Rattle.std.specs.Prelude.{◌≡◌, ℕ, ◌≤◌, Bool, List, ◌++◌, length, codes, bytes_eq, Option, Some, None, if◌then◌else◌}
use Rattle.httparse.specs.Grammar.{RequestHead, print_request}
use Rattle.httparse.specs.Spans.{span_bytes, IsWithin}
use Rattle.relay_http.specs.Request.{FitsRequest}
use Rattle.relay_http.specs.declared.request_line.RequestLine.{RequestLine}

-- the head of a request is at the front of the stream
pub record HeadAt (stream : List ℕ) : Type 0 where
  pub head : RequestHead
  pub fits : FitsRequest head
  pub rest : List ℕ
  pub split : stream ≡ print_request head ++ rest

-- the bytes are a head, whose method and target are here
pub record IsRequestLine (bytes : List ℕ) (ends : Bool) (line : RequestLine) : Type 0 where
  pub head : RequestHead
  pub fits : FitsRequest head
  pub bytes_are : bytes ≡ print_request head
  pub method_in : IsWithin (length bytes) line.method
  pub target_in : IsWithin (length bytes) line.target
  pub method_is : span_bytes bytes line.method ≡ head.method
  pub target_is : span_bytes bytes line.target ≡ head.target

-- the target, if the method is PUT (RFC 9110, section 9.3.4)
abbrev pub put_by : List ℕ → List ℕ → Option (List ℕ)
put_by method target = if bytes_eq method (codes "PUT") then Some target else None

abbrev pub put_target : RequestHead → Option (List ℕ)
put_target h = put_by h.method h.target
