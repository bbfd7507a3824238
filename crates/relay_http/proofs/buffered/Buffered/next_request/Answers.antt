use Rattle.relay_http.specs.Steps.{pending}
use Rattle.std.proofs.Common.{rules, Some, ◌≡◌, ◌<◌, ◌∙◌, arith, length}
use Rattle.std.proofs.lemmas.Result.{err_from_is_err_and}
use Rattle.relay_http.proofs.Arrivals.{no_window, nothing_there, request_found}
use Rattle.relay_http.specs.Request.{IsRequest, IsRequestInfo, IsRequestBody}
use Rattle.relay_http.proofs.Messages.{begins_then}
use Rattle.relay_http.proofs.Unique.{fails_found}
use Rattle.relay_http.proofs.buffered.Buffered.next_request.Goals as goal

pub returns-in_err-request-clause-none : goal.returns-in_err-request-clause-none
returns-in_err-request-clause-none g c = λ e.
    let some : 0 < length c.ready.new.self.window = search rules in
    let none = no_window c.ready.new.self.window (g.S.ByteStream.left c.ready.new.self.stream) (c.in_ok-ready.ensures.stands ∙ e) in
    absurd (omega (arith, some, none))

pub returns-clause-none : goal.returns-clause-none
returns-clause-none g c = λ e.
    let some : 0 < length c.ready.new.self.window = search rules in
    let none = no_window c.ready.new.self.window (g.S.ByteStream.left c.ready.new.self.stream) (c.in_ok-ready.ensures.stands ∙ e) in
    absurd (omega (arith, some, none))

pub returns-then-is_empty-clause-stated : goal.returns-then-is_empty-clause-stated
returns-then-is_empty-clause-stated g c = λ stream f states stands.
    let none : length c.ready.new.self.window ≡ 0 = search rules in
    absurd (nothing_there c.ready.new.self.window (g.S.ByteStream.left c.ready.new.self.stream) stream none (c.in_ok-ready.ensures.end none) (c.in_ok-ready.ensures.stands ∙ stands) states.head)

pub returns-in_err-request-clause-stated : goal.returns-in_err-request-clause-stated
returns-in_err-request-clause-stated g c = λ stream f states stands.
    let p = err_from_is_err_and c.from_residual-in_err-request.result c.from_residual-in_err-request.ensures.1 in
    rw (p.1, p.2) (c.in_err-request.ensures.stated stream f states (c.in_ok-ready.ensures.stands ∙ stands))

pub returns-clause-stated : goal.returns-clause-stated
returns-clause-stated g c = λ stream f states stands. c.in_ok-request.ensures.stated stream f states (c.in_ok-ready.ensures.stands ∙ stands)

pub returns-then-is_empty-clause-found : goal.returns-then-is_empty-clause-found
returns-then-is_empty-clause-found g c = λ stream there stands.
    let none : length c.ready.new.self.window ≡ 0 = search rules in
    absurd (nothing_there c.ready.new.self.window (g.S.ByteStream.left c.ready.new.self.stream) stream none (c.in_ok-ready.ensures.end none) (c.in_ok-ready.ensures.stands ∙ stands) (begins_then IsRequestInfo IsRequestBody stream there))

pub returns-in_err-request-clause-found : goal.returns-in_err-request-clause-found
returns-in_err-request-clause-found g c = λ stream there stands.
    let p = err_from_is_err_and c.from_residual-in_err-request.result c.from_residual-in_err-request.ensures.1 in
    rw (p.1, p.2) (fails_found IsRequest _ _ c.in_err-request.field-0.0 c.in_err-request.ensures.answer stream there (c.in_ok-ready.ensures.stands ∙ stands))

pub returns-clause-found : goal.returns-clause-found
returns-clause-found g c = λ stream there stands. request_found (pending g.S.ByteStream.left c.ready.new.self) (pending g.S.ByteStream.left c.read_whole_request.new.self) (Some c.in_ok-request.request) c.in_ok-request.ensures.answer stream there (c.in_ok-ready.ensures.stands ∙ stands)

pub returns-then-is_empty-clause-long : goal.returns-then-is_empty-clause-long
returns-then-is_empty-clause-long g c = λ stream passes stands.
    let none : length c.ready.new.self.window ≡ 0 = search rules in
    absurd (nothing_there c.ready.new.self.window (g.S.ByteStream.left c.ready.new.self.stream) stream none (c.in_ok-ready.ensures.end none) (c.in_ok-ready.ensures.stands ∙ stands) passes.head)

pub returns-in_err-request-clause-long : goal.returns-in_err-request-clause-long
returns-in_err-request-clause-long g c = λ stream passes stands.
    let p = err_from_is_err_and c.from_residual-in_err-request.result c.from_residual-in_err-request.ensures.1 in
    rw (p.1, p.2) (c.in_err-request.ensures.long stream passes (c.in_ok-ready.ensures.stands ∙ stands))

pub returns-clause-long : goal.returns-clause-long
returns-clause-long g c = λ stream passes stands. c.in_ok-request.ensures.long stream passes (c.in_ok-ready.ensures.stands ∙ stands)

pub returns-in_err-request-clause-why : goal.returns-in_err-request-clause-why
returns-in_err-request-clause-why g c = λ stream stands.
    let p = err_from_is_err_and c.from_residual-in_err-request.result c.from_residual-in_err-request.ensures.1 in
    rw (p.1, p.2) (c.in_err-request.ensures.why stream (c.in_ok-ready.ensures.stands ∙ stands))
