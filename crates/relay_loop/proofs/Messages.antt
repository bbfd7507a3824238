-- Messages that are complete in a stream are read from it.
use Rattle.std.proofs.Common.{◌≡◌, ◌≤◌, ℕ, List, [], length, ◌&&◌, true, false, Option, Some, IsTrue, IsFalse, refl, sym, subst}
use Rattle.std.specs.Io.KnownBytes.{append_known}
use Rattle.std.proofs.lemmas.List.{append-nil}
use Rattle.relay_http.specs.Connection.{Connection, fresh, is_open, is_broken}
use Rattle.relay_http.specs.Forms.{Begins}
use Rattle.relay_http.specs.Framing.{request_limit, reply_limit}
use Rattle.relay_http.specs.Request.{IsRequest}
use Rattle.relay_http.specs.Reply.{IsReplyMessage}
use Rattle.relay_http.specs.WrittenRequest.{is_host, request}
use Rattle.relay_http.specs.WrittenAnswer.{IsAnswerStatus, answer}
use Rattle.relay_http.proofs.WrittenRequests.{request_written}
use Rattle.relay_http.proofs.WrittenAnswers.{answer_written}

abbrev pub request_there : (host body : List ℕ) → IsTrue (is_host host) → length body ≤ request_limit → Begins IsRequest (request host body)
request_there host body good size = record {
  front = request host body;
  ends = false;
  value = record { bulk = true; body = body; keep = true };
  rest = [];
  message = request_written host body good size;
  split = sym (append-nil (request host body));
  last = λ e. refl;
}

abbrev pub answer_there : (status : ℕ) (body : List ℕ) → IsAnswerStatus status → length body ≤ reply_limit → Begins IsReplyMessage (answer status body true)
answer_there status body good size = record {
  front = answer status body true;
  ends = false;
  value = record { status = status; body = body; keep = true };
  rest = [];
  message = answer_written status body true good size;
  split = sym (append-nil (answer status body true));
  last = λ e. refl;
}

-- what was written on a fresh connection is this answer alone
pub answer_alone : (conn : Connection) (status : ℕ) (body : List ℕ) (written : Option (List ℕ)) → conn ≡ fresh (Some []) (Some []) 0
    → (IsFalse (is_broken conn.phase) → written ≡ append_known conn.written (answer status body (true && is_open conn.phase))) → written ≡ Some (answer status body true)
answer_alone conn status body written e sent =
    let P : Connection → Type 0 = λ k. IsFalse (is_broken k.phase) → written ≡ append_known k.written (answer status body (true && is_open k.phase)) in
    subst P e sent refl
