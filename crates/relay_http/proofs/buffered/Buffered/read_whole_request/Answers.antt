use Rattle.std.proofs.Common.{refl, [], sym, subst}
use Rattle.std.proofs.lemmas.Result.{err_from_is_err_and}
use Rattle.relay_http.specs.Framing.{request_limit}
use Rattle.relay_http.specs.Body.{IsBody, IsLongBody}
use Rattle.relay_http.specs.Request.{IsRequest, IsRequestBody, IsRequestInfo}
use Rattle.relay_http.proofs.Stands.{prepend_known-nil}
use Rattle.relay_http.proofs.Leading.{fails_behind, fails_stated, took_behind}
use Rattle.relay_http.proofs.Messages.{begins_then, then_leads}
use Rattle.relay_http.proofs.Passing.{refused_here}
use Rattle.relay_http.proofs.Arrivals.{request_head_unique, request_either, request_stated, begins_request_body, request_never}
use Rattle.relay_http.proofs.Unique.{stated_outside, stated_fault, stated_framed, framed_fault, framed_same}
use Rattle.relay_http.proofs.Refusing.{request_body_refused, request_head_refused, request_head_states}
use Rattle.relay_http.specs.declared.request.HttpRequest.{HttpRequest}
use Rattle.relay_http.proofs.Refusing.{none_failed}
use Rattle.relay_http.proofs.buffered.Buffered.read_whole_request.Goals as goal

pub returns-in_err-info-clause-answer : goal.returns-in_err-info-clause-answer
returns-in_err-info-clause-answer g c =
    let p = err_from_is_err_and c.from_residual.result c.from_residual.ensures.1 in
    rw (p.1, p.2) (fails_behind IsRequest IsRequestInfo [] _ _ _ c.in_err-info.field-0.0 (begins_then IsRequestInfo IsRequestBody) (sym (prepend_known-nil _)) c.in_err-info.ensures.answer)

pub returns-in_err-info-clause-stated : goal.returns-in_err-info-clause-stated
returns-in_err-info-clause-stated g c =
    let p = err_from_is_err_and c.from_residual.result c.from_residual.ensures.1 in
    rw (p.1, p.2) (λ stream f states stands. stated_outside IsRequestInfo _ _ c.in_err-info.field-0.0 f c.in_err-info.ensures.answer stream states.head stands)

pub returns-in_err-framing-clause-answer : goal.returns-in_err-framing-clause-answer
returns-in_err-framing-clause-answer g c =
    let p = err_from_is_err_and c.from_residual-in_err-framing.result c.from_residual-in_err-framing.ensures.1 in
    rw (p.1, p.2) (let t = c.in_ok-info.ensures.answer in
    let leads = then_leads IsRequestInfo IsRequestBody request_head_unique t.front c.in_ok-info.info (request_either t.front t.ends c.in_ok-info.info t.message) in
    fails_stated IsRequest _ _ c.in_err-framing.field-0.0 (request_stated t.front t.ends c.in_ok-info.info t.message c.in_err-framing.field-0.0 c.in_err-framing.was)
    (refused_here IsRequest t.front _ c.read_piece.new.self.window (g.S.ByteStream.left c.read_piece.new.self.stream) t.split (λ s b. request_never c.in_ok-info.info c.in_err-framing.field-0.0 c.in_err-framing.was s (leads.peel s b).0)))

pub returns-in_err-framing-clause-stated : goal.returns-in_err-framing-clause-stated
returns-in_err-framing-clause-stated g c =
    let p = err_from_is_err_and c.from_residual-in_err-framing.result c.from_residual-in_err-framing.ensures.1 in
    rw (p.1, p.2) (λ stream f states stands.
    stated_fault IsRequestInfo request_head_unique (λ i. i.framing) _ _ c.in_ok-info.info c.in_ok-info.ensures.answer stream states.head stands f c.in_err-framing.field-0.0 states.fault_is c.in_err-framing.was)

pub returns-in_err-body-clause-answer : goal.returns-in_err-body-clause-answer
returns-in_err-body-clause-answer g c =
    let p = err_from_is_err_and c.from_residual-in_err-body.result c.from_residual-in_err-body.ensures.1 in
    rw (p.1, p.2) (let t = c.in_ok-info.ensures.answer in
    let leads = then_leads IsRequestInfo IsRequestBody request_head_unique t.front c.in_ok-info.info (request_either t.front t.ends c.in_ok-info.info t.message) in
    fails_behind IsRequest (IsBody request_limit c.in_ok-framing.framing) t.front _ _ _ c.in_err-body.field-0.0 (λ s b. begins_request_body c.in_ok-info.info c.in_ok-framing.framing c.in_ok-framing.was s (leads.peel s b).0) t.split c.in_err-body.ensures.answer)

pub returns-in_err-body-clause-stated : goal.returns-in_err-body-clause-stated
returns-in_err-body-clause-stated g c =
    let p = err_from_is_err_and c.from_residual-in_err-body.result c.from_residual-in_err-body.ensures.1 in
    rw (p.1, p.2) (λ stream f states stands.
    absurd (stated_framed IsRequestInfo request_head_unique (λ i. i.framing) _ _ c.in_ok-info.info c.in_ok-info.ensures.answer stream states.head stands f c.in_ok-framing.framing states.fault_is c.in_ok-framing.was))

pub returns-clause-answer : goal.returns-clause-answer
returns-clause-answer g c =
    let t = c.in_ok-info.ensures.answer in
    let leads = then_leads IsRequestInfo IsRequestBody request_head_unique t.front c.in_ok-info.info (request_either t.front t.ends c.in_ok-info.info t.message) in
    let e = c.in_ok-body.ensures.answer in
    took_behind IsRequest (IsRequestBody c.in_ok-info.info) t.front _ _ _ _ leads t.split (record {
      front = e.front;
      ends = e.ends;
      message = record { framing = c.in_ok-framing.framing; framed = c.in_ok-framing.was; body = e.message; bulk_is = refl; keep_is = refl };
      split = e.split;
      last = e.last;
    })

pub returns-clause-stated : goal.returns-clause-stated
returns-clause-stated g c = λ stream f states stands.
    absurd (stated_framed IsRequestInfo request_head_unique (λ i. i.framing) _ _ c.in_ok-info.info c.in_ok-info.ensures.answer stream states.head stands f c.in_ok-framing.framing states.fault_is c.in_ok-framing.was)

pub returns-in_err-info-clause-long : goal.returns-in_err-info-clause-long
returns-in_err-info-clause-long g c =
    let p = err_from_is_err_and c.from_residual.result c.from_residual.ensures.1 in
    rw (p.1, p.2) (λ stream passes stands. stated_outside IsRequestInfo _ _ c.in_err-info.field-0.0 _ c.in_err-info.ensures.answer stream passes.head stands)

pub returns-in_err-framing-clause-long : goal.returns-in_err-framing-clause-long
returns-in_err-framing-clause-long g c =
    let p = err_from_is_err_and c.from_residual-in_err-framing.result c.from_residual-in_err-framing.ensures.1 in
    rw (p.1, p.2) (λ stream passes stands.
    absurd (framed_fault IsRequestInfo request_head_unique (λ i. i.framing) _ _ c.in_ok-info.info c.in_ok-info.ensures.answer stream passes.head stands c.in_err-framing.field-0.0 passes.framing passes.framed c.in_err-framing.was))

pub returns-in_err-body-clause-long : goal.returns-in_err-body-clause-long
returns-in_err-body-clause-long g c =
    let p = err_from_is_err_and c.from_residual-in_err-body.result c.from_residual-in_err-body.ensures.1 in
    rw (p.1, p.2) (λ stream passes stands.
    let same = framed_same IsRequestInfo request_head_unique (λ i. i.framing) _ _ c.in_ok-info.info c.in_ok-info.ensures.answer stream passes.head stands c.in_ok-framing.framing passes.framing passes.framed c.in_ok-framing.was in
    c.in_err-body.ensures.long passes.head.rest (subst (λ f. IsLongBody request_limit f passes.head.rest) same.0 passes.long) same.1)

pub returns-clause-long : goal.returns-clause-long
returns-clause-long g c = λ stream passes stands.
    let same = framed_same IsRequestInfo request_head_unique (λ i. i.framing) _ _ c.in_ok-info.info c.in_ok-info.ensures.answer stream passes.head stands c.in_ok-framing.framing passes.framing passes.framed c.in_ok-framing.was in
    c.in_ok-body.ensures.long passes.head.rest (subst (λ f. IsLongBody request_limit f passes.head.rest) same.0 passes.long) same.1

pub returns-in_err-info-clause-why : goal.returns-in_err-info-clause-why
returns-in_err-info-clause-why g c =
    let p = err_from_is_err_and c.from_residual.result c.from_residual.ensures.1 in
    rw (p.1, p.2) (λ stream stands. request_head_refused stream c.in_err-info.field-0.0 (c.in_err-info.ensures.why stream stands))

pub returns-in_err-framing-clause-why : goal.returns-in_err-framing-clause-why
returns-in_err-framing-clause-why g c =
    let p = err_from_is_err_and c.from_residual-in_err-framing.result c.from_residual-in_err-framing.ensures.1 in
    rw (p.1, p.2) (λ stream stands.
    let t = c.in_ok-info.ensures.answer in
    request_head_states _ _ c.in_ok-info.info c.in_err-framing.field-0.0 t c.in_err-framing.was (request_stated t.front t.ends c.in_ok-info.info t.message c.in_err-framing.field-0.0 c.in_err-framing.was) stream stands)

pub returns-in_err-body-clause-why : goal.returns-in_err-body-clause-why
returns-in_err-body-clause-why g c =
    let p = err_from_is_err_and c.from_residual-in_err-body.result c.from_residual-in_err-body.ensures.1 in
    rw (p.1, p.2) (λ stream stands.
    request_body_refused _ _ c.in_ok-info.info c.in_ok-framing.framing c.in_err-body.field-0.0 c.in_ok-info.ensures.answer c.in_ok-framing.was c.in_err-body.ensures.why stream stands)

pub returns-in_err-framing-clause-count : goal.returns-in_err-framing-clause-count
returns-in_err-framing-clause-count g c =
    let p = err_from_is_err_and c.from_residual-in_err-framing.result c.from_residual-in_err-framing.ensures.1 in
    rw (p.1, p.2) (let t = c.in_ok-info.ensures.answer in
    none_failed HttpRequest c.in_err-framing.field-0.0 _ _ (request_stated t.front t.ends c.in_ok-info.info t.message c.in_err-framing.field-0.0 c.in_err-framing.was) c.in_ok-info.ensures.count)
