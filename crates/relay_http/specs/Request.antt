-- A request, when it is read (RFC 9112, section 3): a head, and a body with the framing that it gives.
use Rattle.std.specs.Prelude.{◌&&◌, ◌≡◌, ℕ, ◌≤◌, Option, Some, None, Bool, List, map, length, codes, bytes_eq, Ok, Err}
use Rattle.std.specs.Io.KnownBytes.{IsAtEnd}
use Rattle.httparse.specs.Grammar.{RequestHead, IsRequestHead, print_request}
use Rattle.httparse.specs.Spans.{name_and_value}
use Rattle.relay_http.specs.Fields.{Header}
use Rattle.relay_http.specs.Framing.{request_limit, framing_of_request, keeps}
use Rattle.relay_http.specs.Body.{IsBody, IsLongBody}
use Rattle.relay_http.specs.Forms.{Form, IsHeadThen, Begins, Took}
use Rattle.relay_http.specs.Reply.{head_limit, field_limit}
use Rattle.relay_http.specs.declared.fault.HttpFault.{HttpFault}
use Rattle.relay_http.specs.declared.framing.Framing.{Framing}
use Rattle.relay_http.specs.declared.request_head.RequestInfo.{RequestInfo}
use Rattle.relay_http.specs.declared.request.HttpRequest.{HttpRequest}

-- a head within its limits
pub record FitsRequest (h : RequestHead) : Type 0 where
  pub grammar : IsRequestHead h
  pub size : length (print_request h) ≤ head_limit
  pub count : length h.fields ≤ field_limit

-- the names and values of its fields
abbrev pub request_headers : RequestHead → List Header
request_headers h = map name_and_value h.fields

-- a POST to /_bulk
abbrev pub is_bulk : RequestHead → Bool
is_bulk h = bytes_eq h.method (codes "POST") && bytes_eq h.target (codes "/_bulk")

-- what a head says
abbrev pub request_info : RequestHead → RequestInfo
request_info h = record {
  bulk = is_bulk h;
  framing = framing_of_request (request_headers h);
  lasting = keeps h.minor (request_headers h);
}

-- the bytes are a head that says this
pub record IsRequestInfo (bytes : List ℕ) (ends : Bool) (info : RequestInfo) : Type 0 where
  pub head : RequestHead
  pub fits : FitsRequest head
  pub bytes_are : bytes ≡ print_request head
  pub info_is : info ≡ request_info head

-- what a request says
pub record Request : Type 0 where
  pub bulk : Bool
  pub body : List ℕ
  pub keep : Bool

-- the bytes are the body of a request whose head says this
pub record IsRequestBody (info : RequestInfo) (bytes : List ℕ) (ends : Bool) (request : Request) : Type 0 where
  pub framing : Framing
  pub framed : info.framing ≡ Ok framing
  pub body : IsBody request_limit framing bytes ends request.body
  pub bulk_is : request.bulk ≡ info.bulk
  pub keep_is : request.keep ≡ info.lasting

-- the bytes, with or without the end of the stream after them, are this request
abbrev pub IsRequest : Form Request
IsRequest = IsHeadThen IsRequestInfo IsRequestBody

-- the head at the front of a stream has this fault
pub record RequestStates (stream : List ℕ) (f : HttpFault) : Type 0 where
  pub head : Begins IsRequestInfo stream
  pub fault_is : head.value.framing ≡ Err f

-- the head at the front of a stream announces a body, and what follows it exceeds its limit
pub record RequestPasses (stream : List ℕ) : Type 0 where
  pub head : Begins IsRequestInfo stream
  pub framing : Framing
  pub framed : head.value.framing ≡ Ok framing
  pub long : IsLongBody request_limit framing head.rest

-- the request that a value in memory represents
abbrev pub request_view : HttpRequest → Request
request_view r = record { bulk = r.bulk; body = r.body.items; keep = r.keep }

-- the request that was at the front, or none at the end of the stream
abbrev pub TookRequest : Option (List ℕ) → Option (List ℕ) → Option HttpRequest → Type 0
TookRequest old new None = IsAtEnd old × (new ≡ old)
TookRequest old new (Some r) = Took IsRequest old new (request_view r)

-- the request at the front is returned, and the rest is left
abbrev pub IsFound : {stream : List ℕ} → Begins IsRequest stream → Option (List ℕ) → Option HttpRequest → Type 0
IsFound there new None = ⊥
IsFound there new (Some r) = (request_view r ≡ there.value) × (new ≡ Some there.rest)
