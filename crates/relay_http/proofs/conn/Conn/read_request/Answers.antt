use Rattle.std.proofs.Common.{◌∙◌, ap, rules}
use Rattle.relay_http.specs.Connection.{ahead}
use Rattle.std.proofs.Common.{ℕ, List, Option, subst}
use Rattle.std.specs.Prelude.{MatchResult}
use Rattle.relay_http.specs.Forms.{Fails}
use Rattle.relay_http.specs.Request.{IsRequest, TookRequest}
use Rattle.relay_http.specs.Steps.{pending}
use Rattle.relay_http.proofs.conn.Conn.read_request.Goals as goal

pub returns-clause-found : goal.returns-clause-found
returns-clause-found g c = λ stream there whole stands. c.next_request-result.ensures.found stream there (ap ahead c.self.view_is ∙ stands)

pub returns-clause-stated : goal.returns-clause-stated
returns-clause-stated g c = λ stream f states whole stands. c.next_request-result.ensures.stated stream f states (ap ahead c.self.view_is ∙ stands)

pub returns-clause-long : goal.returns-clause-long
returns-clause-long g c = λ stream passes whole stands. c.next_request-result.ensures.long stream passes (ap ahead c.self.view_is ∙ stands)

pub returns-clause-phase : goal.returns-clause-phase
returns-clause-phase g c = search rules

pub returns-clause-why : goal.returns-clause-why
returns-clause-why g c = λ stream whole stands. c.next_request-result.ensures.why stream (ap ahead c.self.view_is ∙ stands)

pub returns-clause-answer : goal.returns-clause-answer
returns-clause-answer g c = λ whole.
    let left = g.S.ByteStream.left in
    let new = c.next_request-result.new.self in
    subst (λ (o : Option (List ℕ)). MatchResult c.next_request-result.result (TookRequest o (pending left new)) (Fails IsRequest o (left new.stream)))
    (ap ahead c.self.view_is) c.next_request-result.ensures.answer
