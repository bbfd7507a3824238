-- What is returned for a request is its result.
use Rattle.std.proofs.Common.{◌≡◌, ◌≢◌, ℕ, ◌≤◌, List, [], ◌++◌, length, Option, Some, None, Bool, true, false, Result, Ok, Err, refl, sym, ap, ◌∙◌, subst, arith, inl, inr, IsTrue}
use Rattle.std.specs.Prelude.{◌⊎◌}
use Rattle.std.specs.Io.KnownBytes.{prepend_known}
use Rattle.relay_action.specs.declared.write.Write.{Write}
use Rattle.relay_ndjson.specs.Bulk.{text_of}
use Rattle.relay_results.specs.declared.outcome.Outcome.{Outcome}
use Rattle.relay_results.specs.Done.{outcomes_of}
use Rattle.relay_results.specs.Replies.{IsBulkReply}
use Rattle.relay_results.proofs.OneReading.{one_reply, no_fault}
use Rattle.relay_index.specs.Serving.{Server}
use Rattle.relay_lane.specs.declared.wire.WireReply.{WireReply}
use Rattle.relay_lane.specs.declared.wire.WireReply.TheVariants as reply
use Rattle.relay_results.specs.declared.cause.Loss.{Loss}
use Rattle.relay_results.specs.declared.cause.Loss.TheVariants as loss
use Rattle.relay_http.specs.Connection.{Connection, ahead}
use Rattle.relay_http.specs.Forms.{Took}
use Rattle.relay_http.specs.Framing.{reply_limit}
use Rattle.relay_http.specs.Reply.{Reply, IsReplyMessage, reply_view}
use Rattle.relay_http.specs.declared.fault.HttpFault.{HttpFault}
use Rattle.relay_http.specs.declared.fault.HttpFault.TheVariants as http
use Rattle.relay_http.specs.declared.reply.HttpReply.{HttpReply}
use Rattle.relay_http.proofs.Empty.{nothing_took}
use Rattle.relay_wires.specs.Meaning.{Tells}
use Rattle.relay_wires.specs.Carriers.{Carrier, Reads, IsTold, loss_by, BringsOn, BringsNone, Brings}
use Rattle.relay_loop.specs.Loops.{Loop, server, is_lost, DoesLoop, Leaves, IsAnswered, IsUnanswered, Serves, IsRefused, IsServed}
use Rattle.relay_loop.specs.Exchanges.{IsLoss, IsExchange, ReceivedIsExchange}
use Rattle.relay_loop.proofs.Hearing.{answer_took, served_stops}
use Rattle.relay_loop.proofs.Running.{stops_after_all, stops_unread}

-- ---- a reply that was read

-- one that says these outcomes
entries_told : (r : Reply) (ws : List Write) (old new : Server) (lost : Bool) (status : ℕ) (text : List ℕ) (result : Result WireReply Loss) → lost ≡ false → length text ≤ reply_limit → r.status ≡ status → r.body ≡ text
    → Serves ws old new status text → Tells r result → IsExchange lost ws old new result
entries_told r ws old new lost status text (Ok (reply.Items outcomes)) kept size is body s t =
    let e = s.replies in
    (e.items, e.runs, one_reply text outcomes.items (outcomes_of e.items) (subst (λ b. IsBulkReply b outcomes.items) body t.1) e.reads_back, kept, subst (λ x. length x ≤ reply_limit) e.text_of size)
entries_told r ws old new lost status text (Ok (reply.Whole other reason)) kept size is body s t = absurd (t.0 (is ∙ s.success))
entries_told r ws old new lost status text (Err loss.Refused) kept size is body s t = absurd t
entries_told r ws old new lost status text (Err loss.Unreachable) kept size is body s t = absurd t
entries_told r ws old new lost status text (Err loss.TimedOut) kept size is body s t = absurd t
entries_told r ws old new lost status text (Err loss.Closed) kept size is body s t = absurd t
entries_told r ws old new lost status text (Err loss.Unreadable) kept size is body s t =
    let e = s.replies in
    absurd (t.1.1 (no_fault r.body (outcomes_of e.items) t.1.0 (subst (λ b. IsBulkReply b (outcomes_of e.items)) (sym body) e.reads_back) t.1.2))
entries_told r ws old new lost status text (Err loss.Memory) kept size is body s t = stops_after_all ws old new text s.replies

-- one that refuses the request as too long
refusal_told : (r : Reply) (ws : List Write) (old new : Server) (lost : Bool) (status : ℕ) (text : List ℕ) (result : Result WireReply Loss) → lost ≡ false → r.status ≡ status
    → IsRefused ws old new status text → Tells r result → IsExchange lost ws old new result
refusal_told r ws old new lost status text result kept is f t = by result t
  where
    failed : r.status ≡ 413
    failed = is ∙ f.failure

    other : r.status ≢ 200
    other s = omega (arith, s, failed)

    by : (x : Result WireReply Loss) → Tells r x → IsExchange lost ws old new x
    by (Ok (reply.Items outcomes)) u = absurd (other u.0)
    by (Ok (reply.Whole whole reason)) u = (u.1 ∙ failed, f.over, f.stays, kept)
    by (Err loss.Refused) u = absurd u
    by (Err loss.Unreachable) u = absurd u
    by (Err loss.TimedOut) u = absurd u
    by (Err loss.Closed) u = absurd u
    by (Err loss.Unreadable) u = absurd (other u.0)
    by (Err loss.Memory) u = stops_unread ws old new f.stays

-- ---- none that was read

served_lost : (ws : List Write) (old new : Server) (status : ℕ) (text : List ℕ) → IsServed ws old new status text → IsLoss ws old new
served_lost ws old new status text (inl s) = inl (s.replies.items, s.replies.runs)
served_lost ws old new status text (inr r) = inr (r.over, r.stays)

fault_told : (late : Bool) (f : HttpFault) (ws : List Write) (old new : Server) (lost : Bool) (status : ℕ) (text : List ℕ) → IsServed ws old new status text → IsExchange lost ws old new (Err (loss_by late f))
fault_told late http.Malformed ws old new lost status text s = served_lost ws old new status text s
fault_told late http.HeadLong ws old new lost status text s = served_lost ws old new status text s
fault_told late http.BodyLong ws old new lost status text s = served_lost ws old new status text s
fault_told late http.CodedBody ws old new lost status text s = served_lost ws old new status text s
fault_told late http.BothLengths ws old new lost status text s = served_lost ws old new status text s
fault_told late http.Ended ws old new lost status text s = served_lost ws old new status text s
fault_told true http.Read ws old new lost status text s = served_lost ws old new status text s
fault_told false http.Read ws old new lost status text s = served_lost ws old new status text s
fault_told true http.Write ws old new lost status text s = served_lost ws old new status text s
fault_told false http.Write ws old new lost status text s = served_lost ws old new status text s
fault_told late http.TooManyInterim ws old new lost status text s = served_lost ws old new status text s
fault_told late http.Memory ws old new lost status text s = served_stops ws old new status text s
fault_told late http.Broken ws old new lost status text s = served_lost ws old new status text s

-- ---- a request

some_same : (c d : Connection) → Some c ≡ Some d → c ≡ d
some_same c d e = cc

nothing_ahead : (held : List ℕ) (left : Option (List ℕ)) → held ≡ [] → prepend_known held left ≡ left
nothing_ahead held None e = refl
nothing_ahead held (Some bytes) e = ap (λ (h : List ℕ). Some (h ++ bytes)) e

read_told : (c d : Connection) (late : Bool) (read : Result HttpReply HttpFault) (result : Result WireReply Loss) (ws : List Write) (old new : Server) (lost : Bool) (left : List ℕ) → c.held ≡ [] → c.left ≡ Some left → Reads c d read → IsTold late read result
    → Leaves lost ws old new left → IsExchange lost ws old new result
read_told c d late (Err f) result ws old new lost left clear is reads told l =
    subst (IsExchange lost ws old new) (sym told) (fault_told late f ws old new lost l.status l.text l.served)
read_told c d late (Ok r) result ws old new lost left clear is reads told l = by l.leaves l.served
  where
    took : Took IsReplyMessage (Some left) (ahead d) (reply_view r)
    took = subst (λ x. Took IsReplyMessage x (ahead d) (reply_view r)) (nothing_ahead c.held c.left clear ∙ is) reads.answer

    by : IsAnswered lost l.status l.text left ⊎ IsUnanswered lost l.text left → IsServed ws old new l.status l.text → IsExchange lost ws old new result
    by (inl a) (inl s) =
        let found = answer_took lost l.status l.text left (ahead d) (reply_view r) a took in
        entries_told (reply_view r) ws old new lost l.status l.text result a.kept a.size found.0 found.1 s told
    by (inl a) (inr f) =
        let found = answer_took lost l.status l.text left (ahead d) (reply_view r) a took in
        refusal_told (reply_view r) ws old new lost l.status l.text result a.kept found.0 f told
    by (inr u) s = absurd (nothing_took (ahead d) (reply_view r) (subst (λ x. Took IsReplyMessage (Some x) (ahead d) (reply_view r)) u.left_is took))

pub received_is_exchange : ReceivedIsExchange
received_is_exchange number ws w v c result (inl b) at clear host may written =
    let same : b.connection ≡ c = some_same b.connection c (sym b.out_on ∙ at) in
    let d = b.done.1 w.host ws host may (ap (λ (x : Connection). x.written) same ∙ written) in
    let held : b.heard.held ≡ [] = b.hears.held ∙ ap (λ (x : Connection). x.held) same ∙ clear in
    read_told b.heard b.left b.late b.read result ws (server w.peer) (server v.peer) (is_lost number w.peer) d.0 held d.1 b.reads b.told d.2
received_is_exchange number ws w v c result (inr b) at clear host may written =
    let same : b.connection ≡ c = some_same b.connection c (sym b.out_on ∙ at) in
    subst (IsExchange (is_lost number w.peer) ws (server w.peer) (server v.peer)) (sym b.memory)
    (b.done.1 w.host ws host may (ap (λ (x : Connection). x.written) same ∙ written))
