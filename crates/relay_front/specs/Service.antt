-- The answers to requests (OpenSearch, bulk and document APIs): what is settled for each, and what is said of it.
use Rattle.std.specs.Prelude.{◌≡◌, ◌≢◌, ◌⊎◌, ℕ, Bool, true, false, ◌||◌, ◌&&◌, ◌==◌, nat_lt, List, [], ◌∷◌, ◌++◌, length, map, codes, decimal, if◌then◌else◌, Option, None, Some, option_and_then, Result, Ok, Err}
use Rattle.std.specs.Str.{is_utf8}
use Rattle.percent_encoding.specs.Percent.{percent_decode}
use Rattle.http.specs.declared.request.Request.{Request}
use Rattle.http.specs.declared.request.Parts.{Parts}
use Rattle.http.specs.Request.{head_of, body_of}
use Rattle.http_uri.specs.Uri.{uri_authority, uri_path, uri_query}
use Rattle.http_header.specs.HeaderMap.{get}
use Rattle.http_server.specs.declared.response.Response.{Response}
use Rattle.http_server.specs.Response.{fields_of}
use Rattle.relay_action.specs.Actions.{IsIndexOf}
use Rattle.relay_action.specs.declared.action.Action.{Action}
use Rattle.relay_action.specs.declared.action.Action.TheVariants as action
use Rattle.relay_action.specs.declared.key.DocKey.{DocKey}
use Rattle.relay_front.specs.declared.ending.End.{End}
use Rattle.relay_front.specs.declared.face.Face.{Face}
use Rattle.relay_front.specs.declared.lines.BodyFault.{BodyFault}
use Rattle.relay_front.specs.declared.lines.BodyFaultKind.{BodyFaultKind}
use Rattle.relay_front.specs.declared.lines.BodyFaultKind.TheVariants as body
use Rattle.relay_front.specs.declared.operation.AskedKind.{AskedKind}
use Rattle.relay_front.specs.declared.operation.AskedKind.TheVariants as kind
use Rattle.relay_front.specs.declared.operation.Item.{Item}
use Rattle.relay_front.specs.declared.operation.ItemFault.{ItemFault}
use Rattle.relay_front.specs.declared.replying.Answer.{Answer}
use Rattle.relay_front.specs.declared.replying.Short.{Short}
use Rattle.relay_front.specs.declared.replying.Short.TheVariants as short
use Rattle.relay_front.specs.Faces.{IsAddress, cluster_health, compact_health, down, info_of, is_coded, license, nodes_body, stopping, up}
use Rattle.relay_front.specs.Fields.{HasFields}
use Rattle.relay_front.specs.Operations.{Write, HasRead, BreaksBody, key_by, source_reason}
use Rattle.relay_front.specs.Queries.{meaning_of}
use Rattle.relay_front.specs.Reasons.{reason_of}
use Rattle.relay_front.specs.Routes.{Target, Info, ClusterHealth, CatHealth, Nodes, License, Health, Metrics, Stop, IndexExists, Bulk, Put, Add, Delete, Method, asked_by}
use Rattle.relay_front.specs.Said.{Words, said_by}
use Rattle.relay_front.specs.Texts.{bulk_body, document_body, document_status, first_end, illegal_argument, refusal_body}

-- how a settler has writes end: from the first state these writes ended so, which leaves the second state
abbrev pub Settles : Type 0 → Type 1
Settles S = S → List Write → List End → S → Type 0

-- nothing is settled
abbrev pub nothing : {S : Type 0} → Settles S
nothing old ws ends new = ⊥

-- just these writes are settled, from one state to another, and end so
abbrev pub just : {S : Type 0} → S → List Write → List End → S → Settles S
just first all how last old ws ends new = (old ≡ first) × (ws ≡ all) × (ends ≡ how) × (new ≡ last)

-- what is replied: a status and a body; or that memory ran out, before anything was put or after
pub data Reply : Type 0 where
  Says : (status : ℕ) (text : List ℕ) → Reply
  NoMemory : Reply
  NoAnswer : Reply

-- ---- refusals

-- what is wrong with a body whose lines cannot be told apart
abbrev pub body_reason : BodyFaultKind → List ℕ
body_reason body.NotJson = codes "the action line is not JSON in UTF-8"
body_reason body.NotOneAction = codes "the action line is not an object with one member whose value is an object"
body_reason body.UnknownAction = codes "the action is none of [index, create, update, delete]"
body_reason body.NoFinalNewline = codes "the bulk request must end with a newline [\\n]"
body_reason body.SourceMissing = codes "the source of the last action is missing"
body_reason body.Empty = codes "the bulk request has no operation"

-- with the number of the line
abbrev pub fault_text : BodyFault → List ℕ
fault_text f = codes "line " ++ (decimal f.line ++ (codes ": " ++ body_reason f.kind))

-- the reply is this, unless memory ran out for it
abbrev pub IsReply : ℕ → List ℕ → Reply → Type 0
IsReply status text reply = (reply ≡ Says status text) ⊎ (reply ≡ NoMemory)

-- the client is to blame, for this reason
abbrev pub Refuses : List ℕ → Reply → Type 0
Refuses reason reply = IsReply 400 (refusal_body 400 illegal_argument reason) reply

-- ---- bulk requests

-- the operations of the body were settled, and the reply has an item for each
pub record IsSettled {S : Type 0} (settles : Settles S) (default : Option (List ℕ)) (content : List ℕ) (old : S) (reply : Reply) (new : S) : Type 0 where
  pub items : List Item
  pub writes : List Write
  pub asked : HasRead default content [] items writes
  pub some : items ≢ []
  pub ends : List End
  pub took : ℕ
  pub settled : settles old writes ends new
  pub each : length ends ≡ length writes
  pub said : (reply ≡ Says 200 (bulk_body took items ends)) ⊎ (reply ≡ NoAnswer)

-- the body was settled, or refused as a whole; or memory ran out before anything was put
abbrev pub RepliesToBulk : {S : Type 0} → Settles S → Option (List ℕ) → List ℕ → S → Reply → S → Type 0
RepliesToBulk settles default content old reply new =
    IsSettled settles default content old reply new
    ⊎ ((new ≡ old) × (f : BodyFault) × BreaksBody default content f × Refuses (fault_text f) reply)
    ⊎ ((new ≡ old) × (reply ≡ NoMemory))

-- ---- requests for one document

-- the write was settled, and the reply says how it ended; or memory ran out before it was put
abbrev pub RepliesToWrite : {S : Type 0} → Settles S → AskedKind → Bool → DocKey → Action → S → Reply → S → Type 0
RepliesToWrite settles k made key stored old reply new =
    ((ends : List End) × settles old ((key, stored) ∷ []) ends new × (length ends ≡ 1)
    × ((reply ≡ Says (document_status (said_by k made (first_end ends))) (document_body key (said_by k made (first_end ends)))) ⊎ (reply ≡ NoAnswer)))
    ⊎ ((new ≡ old) × (reply ≡ NoMemory))

-- the document is refused
abbrev pub RefusesKey : {S : Type 0} → List ℕ → List ℕ → Bool → S → Reply → S → Type 0
RefusesKey index id made old reply new = (new ≡ old) × (f : ItemFault) × (key_by index made id ≡ Err f) × Refuses (reason_of f) reply

-- the key has this index name and this id, within their limits
abbrev pub IsKey : List ℕ → List ℕ → Bool → DocKey → Type 0
IsKey index id made key = key_by index made id ≡ Ok (key.index, key.id, made)

-- a document may be on several lines; in JSON a line end means the same as a blank
abbrev pub blank_for : ℕ → ℕ
blank_for b = if b == 10 || b == 13 then 32 else b

abbrev pub on_one_line : List ℕ → List ℕ
on_one_line content = map blank_for content

-- what a part of a path stands for, if that is a text
abbrev pub decoded : List ℕ → Option (List ℕ)
decoded part = if is_utf8 (percent_decode part) then Some (percent_decode part) else None

abbrev pub RepliesToPut : {S : Type 0} → Settles S → Bool → List ℕ → List ℕ → List ℕ → S → Reply → S → Type 0
RepliesToPut settles made index id content old reply new =
    RefusesKey index id made old reply new
    ⊎ ((new ≡ old) × (f : ItemFault) × (source_reason (on_one_line content) ≡ Some f) × Refuses (reason_of f) reply)
    ⊎ ((key : DocKey) × (stored : Action) × IsKey index id made key × (source_reason (on_one_line content) ≡ None) × IsIndexOf (on_one_line content) stored
    × RepliesToWrite settles kind.Index made key stored old reply new)
    ⊎ ((new ≡ old) × (reply ≡ NoMemory))

abbrev pub RepliesToDelete : {S : Type 0} → Settles S → List ℕ → List ℕ → S → Reply → S → Type 0
RepliesToDelete settles index id old reply new =
    RefusesKey index id false old reply new
    ⊎ ((key : DocKey) × IsKey index id false key × RepliesToWrite settles kind.Delete false key action.Delete old reply new)
    ⊎ ((new ≡ old) × (reply ≡ NoMemory))

-- ---- requests

-- a part of the path is no text
abbrev pub RefusesPath : {S : Type 0} → S → Reply → S → Type 0
RefusesPath old reply new = (new ≡ old) × Refuses (codes "the path is not UTF-8") reply

-- memory ran out before anything was put
abbrev pub RunsOut : {S : Type 0} → S → Reply → S → Type 0
RunsOut old reply new = (new ≡ old) × (reply ≡ NoMemory)

-- the index that the path names is that of operations that name none
abbrev pub RepliesToBulkAt : {S : Type 0} → Settles S → List ℕ → List ℕ → S → Reply → S → Type 0
RepliesToBulkAt settles part content old reply new =
    ((index : List ℕ) × (decoded part ≡ Some index) × RepliesToBulk settles (Some index) content old reply new)
    ⊎ ((decoded part ≡ None) × RefusesPath old reply new)
    ⊎ RunsOut old reply new

-- the parts of a path that names a document
abbrev pub RepliesToDocument : {S : Type 0} → (List ℕ → List ℕ → S → Reply → S → Type 0) → List ℕ → List ℕ → S → Reply → S → Type 0
RepliesToDocument replies first second old reply new =
    ((index : List ℕ) × (id : List ℕ) × (decoded first ≡ Some index) × (decoded second ≡ Some id) × replies index id old reply new)
    ⊎ (((decoded first ≡ None) ⊎ (decoded second ≡ None)) × RefusesPath old reply new)
    ⊎ RunsOut old reply new

-- a document whose id the relay makes
abbrev pub RepliesToAdd : {S : Type 0} → Settles S → List ℕ → List ℕ → S → Reply → S → Type 0
RepliesToAdd settles first content old reply new =
    ((index : List ℕ) × (made : List ℕ) × (decoded first ≡ Some index) × RepliesToPut settles true index made content old reply new)
    ⊎ ((decoded first ≡ None) × RefusesPath old reply new)
    ⊎ RunsOut old reply new

-- a request for this target, with this body; only those that write have something settled
abbrev pub RepliesTo : {S : Type 0} → Settles S → Option (List ℕ) → Target → List ℕ → S → Reply → S → Type 0
RepliesTo settles default (Bulk None) content old reply new = RepliesToBulk settles default content old reply new
RepliesTo settles default (Bulk (Some part)) content old reply new = RepliesToBulkAt settles part content old reply new
RepliesTo settles default (Put index id) content old reply new =
    RepliesToDocument (λ i n. RepliesToPut settles false i n content) index id old reply new
RepliesTo settles default (Add index) content old reply new = RepliesToAdd settles index content old reply new
RepliesTo settles default (Delete index id) content old reply new = RepliesToDocument (RepliesToDelete settles) index id old reply new
RepliesTo settles default other content old reply new = new ≡ old

abbrev pub does_write : Target → Bool
does_write (Bulk index) = true
does_write (Put index id) = true
does_write (Add index) = true
does_write (Delete index id) = true
does_write other = false

-- the first parameter of a query that may change what a write means
abbrev pub meaning_in : Option (List ℕ) → Option (List ℕ)
meaning_in query = option_and_then meaning_of query

abbrev pub parameter_reason : List ℕ → List ℕ
parameter_reason name = codes "the relay does not support the parameter [" ++ (name ++ codes "]")

-- the coding of the body is refused
abbrev pub RefusesCoding : {S : Type 0} → S → Reply → S → Type 0
RefusesCoding old reply new =
    (new ≡ old) × IsReply 415 (refusal_body 415 illegal_argument (codes "the relay takes no [content-encoding]; send the body as it is")) reply

-- a body with a coding is refused, and no other body for its coding
abbrev pub RepliesByCoding : {S : Type 0} → Bool → Settles S → Option (List ℕ) → Target → List ℕ → S → Reply → S → Type 0
RepliesByCoding true settles default target content old reply new = RefusesCoding old reply new
RepliesByCoding false settles default target content old reply new = RepliesTo settles default target content old reply new

abbrev pub RepliesToWriter : {S : Type 0} → Settles S → Option (List ℕ) → Target → Option (List ℕ) → Bool → List ℕ → S → Reply → S → Type 0
RepliesToWriter settles default target query coded content old reply new =
    ((name : List ℕ) × (meaning_in query ≡ Some name) × (new ≡ old) × Refuses (parameter_reason name) reply)
    ⊎ ((meaning_in query ≡ None) × RepliesByCoding coded settles default target content old reply new)

-- the client may not stop the relay
abbrev pub RefusesStop : Reply → Type 0
RefusesStop reply =
    IsReply 403 (refusal_body 403 illegal_argument (codes "the relay is stopped only by way of a loopback address that it listens at")) reply

-- a request that writes nothing: what is replied is settled by the request and by what the relay says that it is
abbrev pub RepliesToReader : Face → Target → Parts → Reply → Type 0
RepliesToReader face Info head reply = IsReply 200 (info_of face) reply
RepliesToReader face ClusterHealth head reply = IsReply 200 cluster_health reply
RepliesToReader face CatHealth head reply = IsReply 200 compact_health reply
RepliesToReader face License head reply = IsReply 200 license reply
RepliesToReader face Nodes head reply =
    (address : List ℕ) × IsAddress (uri_authority head.uri) (get head.headers (codes "host")) address × IsReply 200 (nodes_body address) reply
RepliesToReader face Health head reply = IsReply 200 up reply ⊎ ((reason : List ℕ) × IsReply 503 (down reason) reply)
RepliesToReader face Metrics head reply = (text : List ℕ) × IsReply 200 text reply
RepliesToReader face Stop head reply = IsReply 200 stopping reply ⊎ RefusesStop reply
RepliesToReader face IndexExists head reply = IsReply 200 [] reply
RepliesToReader face (Method allow) head reply =
    IsReply 405 (refusal_body 405 illegal_argument (codes "the relay does not take this method for this target")) reply
RepliesToReader face other head reply = Refuses (codes "the relay has no such target: it takes writes by [_bulk] and [_doc]") reply

abbrev pub RepliesBy : {S : Type 0} → Bool → Settles S → Face → Option (List ℕ) → Target → Request (List ℕ) → S → Reply → S → Type 0
RepliesBy true settles face default target request old reply new =
    RepliesToWriter settles default target (uri_query (head_of request).uri) (is_coded (head_of request).headers) (body_of request) old reply new
RepliesBy false settles face default target request old reply new = (new ≡ old) × RepliesToReader face target (head_of request) reply

-- what a request asks for
abbrev pub target_asked : Request (List ℕ) → Target
target_asked request = asked_by (head_of request).method (uri_path (head_of request).uri)

-- what is replied to a request, given what the relay says that it is, and the index of operations that name none
abbrev pub RepliesToRequest : {S : Type 0} → Settles S → Face → Option (List ℕ) → Request (List ℕ) → S → Reply → S → Type 0
RepliesToRequest settles face default request old reply new =
    RepliesBy (does_write (target_asked request)) settles face default (target_asked request) request old reply new

-- a status that is none of HTTP (RFC 9110, section 15) is shown as 502
abbrev pub status_shown : ℕ → ℕ
status_shown status = if nat_lt 99 status && nat_lt status 1000 then status else 502

-- the response has status 503, and no fields
abbrev pub IsShort : Response → Type 0
IsShort r = (r.status ≡ 503) × (fields_of r ≡ [])

-- the response has this status, this body, and the fields of a response to this target; or it says that memory ran out
abbrev pub IsSaid : Face → Target → Reply → Response → Type 0
IsSaid face target (Says status text) r = (r.status ≡ status_shown status) × (r.body.items ≡ text) × HasFields face target r
IsSaid face target NoMemory r = IsShort r
IsSaid face target NoAnswer r = IsShort r

-- the response is the reply, or says that memory ran out for it
abbrev pub Answers : {S : Type 0} → Settles S → Face → Option (List ℕ) → S → Request (List ℕ) → Response → S → Type 0
Answers settles face default old request response new =
    (reply : Reply) × RepliesToRequest settles face default request old reply new
    × (IsSaid face (target_asked request) reply response ⊎ IsShort response)

-- ---- for private clauses

abbrev pub reply_of : Result Answer Short → Reply
reply_of (Ok a) = Says a.status a.text.items
reply_of (Err short.Unput) = NoMemory
reply_of (Err short.Put) = NoAnswer

-- what the write of a document says, unless memory ran out for it
abbrev pub SaysOf : DocKey → Words → Reply → Type 0
SaysOf key words reply = (reply ≡ Says (document_status words) (document_body key words)) ⊎ (reply ≡ NoAnswer)

-- the source is refused, or it is written under this key; or memory ran out before it was put
abbrev pub RepliesToSource : {S : Type 0} → Settles S → Bool → DocKey → List ℕ → S → Reply → S → Type 0
RepliesToSource settles made key content old reply new =
    ((new ≡ old) × (f : ItemFault) × (source_reason (on_one_line content) ≡ Some f) × Refuses (reason_of f) reply)
    ⊎ ((stored : Action) × (source_reason (on_one_line content) ≡ None) × IsIndexOf (on_one_line content) stored
    × RepliesToWrite settles kind.Index made key stored old reply new)
    ⊎ ((new ≡ old) × (reply ≡ NoMemory))
