-- A request that the index had: what was run, and what is left to read.
use Rattle.std.proofs.Common.{◌≡◌, ◌≢◌, ℕ, List, [], ◌∷◌, ◌++◌, length, Option, Some, Bool, true, false, refl, sym, ap, ◌∙◌, subst, arith, inl, inr, IsTrue}
use Rattle.std.proofs.lemmas.List.{append-nil}
use Rattle.std.specs.Prelude.{◌⊎◌}
use Rattle.relay_action.specs.declared.write.Write.{Write}
use Rattle.relay_ndjson.specs.Bulk.{text_of}
use Rattle.relay_results.specs.declared.outcome.Outcome.{Outcome}
use Rattle.relay_results.specs.Done.{outcomes_of}
use Rattle.relay_results.specs.Numbers.{from_zero}
use Rattle.relay_results.specs.Outside.{Outside, Unanswered, EachWasRun}
use Rattle.relay_results.specs.Replies.{IsBulkReply}
use Rattle.relay_results.proofs.OneReading.{one_reply}
use Rattle.relay_index.specs.Serving.{Server}
use Rattle.relay_lane.specs.Wires.{RunsOn}
use Rattle.relay_http.specs.Forms.{Took}
use Rattle.relay_http.specs.Reply.{Reply, IsReplyMessage}
use Rattle.relay_http.specs.WrittenRequest.{is_host, request}
use Rattle.relay_http.specs.WrittenAnswer.{answer}
use Rattle.relay_http.proofs.Replies.{reply_unique}
use Rattle.relay_http.proofs.Unique.{took_found}
use Rattle.relay_http.proofs.Empty.{nothing_took}
use Rattle.relay_wires.specs.Peers as peers
use Rattle.relay_wires.specs.Peers.{MayGo, IsOpenAt, IsHonestReply, IsHonestLeft, Drops}
use Rattle.relay_index.specs.States.{applied_writes, stored_version}
use Rattle.relay_wires.specs.Carriers.{Carrier, idle}
use Rattle.relay_loop.specs.Loops.{Opens, Loop, server, FitsLoop, Serves, IsRefused, IsServed, IsAnswered, IsUnanswered, Leaves, Stops}
use Rattle.relay_loop.proofs.Messages.{answer_there}
use Rattle.relay_loop.proofs.Running.{RanItems, IsSentWith, ran_request, ran_front, stops_after_all, stops_unread}

-- ---- what is read

-- what is read where an answer is left is that answer
pub answer_took : (lost : Bool) (status : ℕ) (text left : List ℕ) (rest : Option (List ℕ)) (r : Reply) → IsAnswered lost status text left → Took IsReplyMessage (Some left) rest r → (r.status ≡ status) × (r.body ≡ text)
answer_took lost status text left rest r a t =
    let found = took_found IsReplyMessage reply_unique (Some left) rest r t (answer status text true) (answer_there status text a.status_is a.size) (ap Some a.left_is) in
    (ap (λ (x : Reply). x.status) found.0, ap (λ (x : Reply). x.body) found.0)

-- the answer of an index that ran the items is honest
served_honest : (number : ℕ) (ws : List Write) (p : Outside) (lost : Bool) (status : ℕ) (text left : List ℕ) (os : List Outcome) → status ≡ 200 → IsBulkReply text os → EachWasRun p.runs (from_zero number) 0 os
    → IsAnswered lost status text left ⊎ IsUnanswered lost text left → IsHonestLeft number ws p (Some left)
served_honest number ws p lost status text left os success bulk each (inl a) = λ r rest took ok ps read matching.
    let found = answer_took lost status text left rest r a took in
    let same : ps ≡ os = one_reply text ps os (subst (λ b. IsBulkReply b ps) found.1 read) bulk in
    subst (EachWasRun p.runs (from_zero number) 0) (sym same) each
served_honest number ws p lost status text left os success bulk each (inr u) = λ r rest took ok ps read matching.
    absurd (nothing_took rest r (subst (λ l. Took IsReplyMessage (Some l) rest r) u.left_is took))

-- so is one that refused them
refused_honest : (number : ℕ) (ws : List Write) (p : Outside) (lost : Bool) (status : ℕ) (text left : List ℕ) → status ≡ 413 → IsAnswered lost status text left ⊎ IsUnanswered lost text left → IsHonestLeft number ws p (Some left)
refused_honest number ws p lost status text left failure (inl a) = λ r rest took ok ps read matching.
    let found = answer_took lost status text left rest r a took in
    let s = found.0 in
    absurd (omega (arith, s, ok, failure))
refused_honest number ws p lost status text left failure (inr u) = λ r rest took ok ps read matching.
    absurd (nothing_took rest r (subst (λ l. Took IsReplyMessage (Some l) rest r) u.left_is took))

-- ---- what is done

-- a request that was served had its first items run
pub served_stops : (ws : List Write) (old new : Server) (status : ℕ) (text : List ℕ) → IsServed ws old new status text → Stops ws old new
served_stops ws old new status text (inl s) = stops_after_all ws old new text s.replies
served_stops ws old new status text (inr r) = stops_unread ws old new r.stays

sent_with : (number : ℕ) (ws : List Write) (o : Outside) → IsOpenAt number ws o → IsSentWith (from_zero number) ws o
sent_with number ws o sent = (record { writes = ws; answer = Unanswered }, sent, refl)

leaves_runs : (w v : Loop) (number : ℕ) (ws : List Write) (lost : Bool) (left : List ℕ) (o : Outside) → IsOpenAt number ws o → FitsLoop w o → Leaves lost ws (server w) (server v) left
    → (p : Outside) × FitsLoop v p × RunsOn o p × IsHonestLeft number ws p (Some left)
leaves_runs w v number ws lost left o sent x l = by l.served
  where
    by : IsServed ws (server w) (server v) l.status l.text → (p : Outside) × FitsLoop v p × RunsOn o p × IsHonestLeft number ws p (Some left)
    by (inl s) =
        let ran = ran_request (from_zero number) ws (server w) (server v) s.replies.items o (sent_with number ws o sent) x s.replies.runs in
        (ran.after, ran.shows, ran.runs, served_honest number ws ran.after lost l.status l.text left (outcomes_of s.replies.items) s.success s.replies.reads_back ran.each l.leaves)
    by (inr r) =
        let ran = ran_front (from_zero number) ws (server w) (server v) o (sent_with number ws o sent) x (stops_unread ws (server w) (server v) r.stays) in
        (ran.after, ran.shows, ran.runs, refused_honest number ws ran.after lost l.status l.text left r.failure l.leaves)

-- the request was served, and what is left is honest
pub heard_serves : (w v : Loop) (number : ℕ) (lost : Bool) (bytes left : List ℕ)
    → ((host : List ℕ) (ws : List Write) → IsTrue (is_host host) → MayGo ws → bytes ≡ request host (text_of ws) → Leaves lost ws (server w) (server v) left)
    → peers.Serves FitsLoop w v number (Some bytes) (Some left)
heard_serves w v number lost bytes left leaves = λ host ws o x asked.
    leaves_runs w v number ws lost left o asked.sent x (leaves host ws asked.host_is asked.may asked.written_is)

-- an allocation failed after it was served
pub heard_left : (w v : Loop) (number : ℕ) (lost : Bool) (bytes left : List ℕ)
    → ((host : List ℕ) (ws : List Write) → IsTrue (is_host host) → MayGo ws → bytes ≡ request host (text_of ws) → Leaves lost ws (server w) (server v) left)
    → Drops FitsLoop w v number (Some bytes)
heard_left w v number lost bytes left leaves = λ host ws o x asked.
    let r = leaves_runs w v number ws lost left o asked.sent x (leaves host ws asked.host_is asked.may asked.written_is) in
    (r.0, r.1, r.2, tt)

-- an allocation failed, and the first items were run
pub heard_drops : (w v : Loop) (number : ℕ) (bytes : List ℕ)
    → ((host : List ℕ) (ws : List Write) → IsTrue (is_host host) → MayGo ws → bytes ≡ request host (text_of ws) → Stops ws (server w) (server v))
    → Drops FitsLoop w v number (Some bytes)
heard_drops w v number bytes stops = λ host ws o x asked.
    let ran = ran_front (from_zero number) ws (server w) (server v) o (sent_with number ws o asked.sent) x (stops host ws asked.host_is asked.may asked.written_is) in
    (ran.after, ran.shows, ran.runs, tt)

-- ---- at the start

pub opens : (w : Carrier Loop) (host : List ℕ) (most failed dialled : ℕ) (end : Loop) → w ≡ idle host most failed dialled end → Opens w
opens w host most failed dialled end is =
    subst Opens (sym is) (record {
      opening = record { requests = []; runs = []; stored = stored_version end.index; before = applied_writes end.index; applied = λ k. [] };
      opens = record { requests = refl; runs = refl; applied = λ k. refl };
      fits = record { peer = record { versions = λ k. refl; lists = λ k. append-nil (applied_writes end.index k) }; out = tt; free = tt };
      each = λ o opening shows. record { peer = shows; out = tt; free = tt };
    })
