-- The reply to a request (RFC 9112, section 4): at most eight interim heads, a final head, and a body.
use Rattle.std.specs.Prelude.{◌&&◌, not, ◌≡◌, ℕ, ◌≤◌, Bool, true, List, ◌++◌, map, length, flat_map, Ok, Err}
use Rattle.std.specs.List.{AllByRecursion}
use Rattle.httparse.specs.Grammar.{ResponseHead, IsResponseHead, print_response, status_code}
use Rattle.httparse.specs.Spans.{name_and_value}
use Rattle.relay_http.specs.Fields.{Header}
use Rattle.relay_http.specs.Framing.{reply_limit, is_interim, framing_of, keeps, is_to_end}
use Rattle.relay_http.specs.Body.{IsBody, IsLongBody}
use Rattle.relay_http.specs.Forms.{Form, IsHeadThen, Begins}
use Rattle.relay_http.specs.declared.fault.HttpFault.{HttpFault}
use Rattle.relay_http.specs.declared.framing.Framing.{Framing}
use Rattle.relay_http.specs.declared.head.HeadInfo.{HeadInfo}
use Rattle.relay_http.specs.declared.reply.HttpReply.{HttpReply}

-- the maximum length of a head, in bytes, and its maximum number of fields
abbrev pub head_limit : ℕ
head_limit = 16384

abbrev pub field_limit : ℕ
field_limit = 64

-- the maximum number of interim heads
abbrev pub interim_limit : ℕ
interim_limit = 8

-- a head within its limits
pub record FitsHead (h : ResponseHead) : Type 0 where
  pub grammar : IsResponseHead h
  pub size : length (print_response h) ≤ head_limit
  pub count : length h.fields ≤ field_limit

-- the names and values of its fields
abbrev pub headers : ResponseHead → List Header
headers h = map name_and_value h.fields

-- what a head says
abbrev pub info_of : ResponseHead → HeadInfo
info_of h = record {
  status = status_code h;
  framing = framing_of (status_code h) (headers h);
  lasting = keeps h.minor (headers h);
}

-- the bytes are a head that says this
pub record IsHead (bytes : List ℕ) (ends : Bool) (info : HeadInfo) : Type 0 where
  pub head : ResponseHead
  pub fits : FitsHead head
  pub bytes_are : bytes ≡ print_response head
  pub info_is : info ≡ info_of head

-- a head that is dropped
pub record IsInterim (h : ResponseHead) : Type 0 where
  pub fits : FitsHead h
  pub status : is_interim (status_code h) ≡ true

-- the bytes are at most `most` interim heads and one more head, which says this; the last head is interim only if
-- `most` others precede it
pub record IsHeadsWith (most : ℕ) (bytes : List ℕ) (ends : Bool) (info : HeadInfo) : Type 0 where
  pub interim : List ResponseHead
  pub few : length interim ≤ most
  pub dropped : AllByRecursion IsInterim interim
  pub head : ResponseHead
  pub fits : FitsHead head
  pub last : is_interim (status_code head) ≡ true → length interim ≡ most
  pub bytes_are : bytes ≡ flat_map print_response interim ++ print_response head
  pub info_is : info ≡ info_of head

-- the heads of a reply
abbrev pub IsHeads : Form HeadInfo
IsHeads = IsHeadsWith interim_limit

-- what a reply says
pub record Reply : Type 0 where
  pub status : ℕ
  pub body : List ℕ
  pub keep : Bool

-- the bytes are the body of a reply whose heads say this
pub record IsReplyBody (info : HeadInfo) (bytes : List ℕ) (ends : Bool) (reply : Reply) : Type 0 where
  pub framing : Framing
  pub framed : info.framing ≡ Ok framing
  pub body : IsBody reply_limit framing bytes ends reply.body
  pub status_is : reply.status ≡ info.status
  pub keep_is : reply.keep ≡ (info.lasting && not (is_to_end framing))

-- the bytes, with or without the end of the stream after them, are this reply
abbrev pub IsReplyMessage : Form Reply
IsReplyMessage = IsHeadThen IsHeads IsReplyBody

-- the heads at the front of a stream have this fault
pub record ReplyStates (stream : List ℕ) (f : HttpFault) : Type 0 where
  pub heads : Begins IsHeads stream
  pub fault_is : heads.value.framing ≡ Err f

-- the heads at the front of a stream announce a body, and what follows them exceeds its limit
pub record ReplyPasses (stream : List ℕ) : Type 0 where
  pub heads : Begins IsHeads stream
  pub framing : Framing
  pub framed : heads.value.framing ≡ Ok framing
  pub long : IsLongBody reply_limit framing heads.rest

-- the reply that a value in memory represents
abbrev pub reply_view : HttpReply → Reply
reply_view r = record { status = r.status; body = r.body.items; keep = r.keep }
