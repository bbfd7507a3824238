use Rattle.std.proofs.Common.{refl, [], sym, subst}
use Rattle.std.proofs.lemmas.Result.{err_from_is_err_and}
use Rattle.relay_http.specs.Forms.{Fails}
use Rattle.relay_http.specs.Steps.{pending}
use Rattle.relay_http.specs.Framing.{reply_limit}
use Rattle.relay_http.specs.Body.{IsBody, IsLongBody}
use Rattle.relay_http.specs.Reply.{IsHeads, IsReplyMessage, IsReplyBody}
use Rattle.relay_http.proofs.Stands.{prepend_known-nil}
use Rattle.relay_http.proofs.Leading.{fails_behind, fails_stated, took_behind}
use Rattle.relay_http.proofs.Messages.{begins_then, then_leads}
use Rattle.relay_http.proofs.Replies.{begins_body, reply_unique, stated_never, heads_unique, heads_either, info_stated}
use Rattle.relay_http.proofs.Passing.{refused_here}
use Rattle.relay_http.proofs.Unique.{fails_found, took_found, stated_outside, stated_fault, stated_framed, framed_fault, framed_same}
use Rattle.relay_http.proofs.Refusing.{heads_refused, heads_state, reply_body_refused}
use Rattle.relay_http.specs.declared.reply.HttpReply.{HttpReply}
use Rattle.relay_http.proofs.Refusing.{none_failed}
use Rattle.relay_http.proofs.buffered.Buffered.next_reply.Goals as goal

pub returns-in_err-info-clause-answer : goal.returns-in_err-info-clause-answer
returns-in_err-info-clause-answer g c =
    let p = err_from_is_err_and c.from_residual.result c.from_residual.ensures.1 in
    rw (p.1, p.2) (fails_behind IsReplyMessage IsHeads [] _ _ _ c.in_err-info.field-0.0 (begins_then IsHeads IsReplyBody) (sym (prepend_known-nil _)) c.in_err-info.ensures.answer)

pub returns-in_err-info-clause-stated : goal.returns-in_err-info-clause-stated
returns-in_err-info-clause-stated g c =
    let p = err_from_is_err_and c.from_residual.result c.from_residual.ensures.1 in
    rw (p.1, p.2) (λ stream f states stands. stated_outside IsHeads _ _ c.in_err-info.field-0.0 f c.in_err-info.ensures.answer stream states.heads stands)

pub returns-in_err-framing-clause-answer : goal.returns-in_err-framing-clause-answer
returns-in_err-framing-clause-answer g c =
    let p = err_from_is_err_and c.from_residual-in_err-framing.result c.from_residual-in_err-framing.ensures.1 in
    rw (p.1, p.2) (let t = c.in_ok-info.ensures.answer in
    let leads = then_leads IsHeads IsReplyBody (heads_unique 8) t.front c.in_ok-info.info (heads_either 8 t.front t.ends c.in_ok-info.info t.message) in
    fails_stated IsReplyMessage _ _ c.in_err-framing.field-0.0 (info_stated 8 t.front t.ends c.in_ok-info.info t.message c.in_err-framing.field-0.0 c.in_err-framing.was)
    (refused_here IsReplyMessage t.front _ c.read_heads.new.self.window (g.S.ByteStream.left c.read_heads.new.self.stream) t.split (λ s b. stated_never c.in_ok-info.info c.in_err-framing.field-0.0 c.in_err-framing.was s (leads.peel s b).0)))

pub returns-in_err-framing-clause-stated : goal.returns-in_err-framing-clause-stated
returns-in_err-framing-clause-stated g c =
    let p = err_from_is_err_and c.from_residual-in_err-framing.result c.from_residual-in_err-framing.ensures.1 in
    rw (p.1, p.2) (λ stream f states stands.
    stated_fault IsHeads (heads_unique 8) (λ i. i.framing) _ _ c.in_ok-info.info c.in_ok-info.ensures.answer stream states.heads stands f c.in_err-framing.field-0.0 states.fault_is c.in_err-framing.was)

pub returns-in_err-body-clause-answer : goal.returns-in_err-body-clause-answer
returns-in_err-body-clause-answer g c =
    let p = err_from_is_err_and c.from_residual-in_err-body.result c.from_residual-in_err-body.ensures.1 in
    rw (p.1, p.2) (let t = c.in_ok-info.ensures.answer in
    let leads = then_leads IsHeads IsReplyBody (heads_unique 8) t.front c.in_ok-info.info (heads_either 8 t.front t.ends c.in_ok-info.info t.message) in
    fails_behind IsReplyMessage (IsBody reply_limit c.in_ok-framing.framing) t.front _ _ _ c.in_err-body.field-0.0 (λ s b. begins_body c.in_ok-info.info c.in_ok-framing.framing c.in_ok-framing.was s (leads.peel s b).0) t.split c.in_err-body.ensures.answer)

pub returns-in_err-body-clause-stated : goal.returns-in_err-body-clause-stated
returns-in_err-body-clause-stated g c =
    let p = err_from_is_err_and c.from_residual-in_err-body.result c.from_residual-in_err-body.ensures.1 in
    rw (p.1, p.2) (λ stream f states stands.
    absurd (stated_framed IsHeads (heads_unique 8) (λ i. i.framing) _ _ c.in_ok-info.info c.in_ok-info.ensures.answer stream states.heads stands f c.in_ok-framing.framing states.fault_is c.in_ok-framing.was))

pub returns-clause-answer : goal.returns-clause-answer
returns-clause-answer g c =
    let t = c.in_ok-info.ensures.answer in
    let leads = then_leads IsHeads IsReplyBody (heads_unique 8) t.front c.in_ok-info.info (heads_either 8 t.front t.ends c.in_ok-info.info t.message) in
    let e = c.in_ok-body.ensures.answer in
    took_behind IsReplyMessage (IsReplyBody c.in_ok-info.info) t.front _ _ _ _ leads t.split (record {
      front = e.front;
      ends = e.ends;
      message = record { framing = c.in_ok-framing.framing; framed = c.in_ok-framing.was; body = e.message; status_is = refl; keep_is = c.keeps.ensures };
      split = e.split;
      last = e.last;
    })

pub returns-clause-stated : goal.returns-clause-stated
returns-clause-stated g c = λ stream f states stands.
    absurd (stated_framed IsHeads (heads_unique 8) (λ i. i.framing) _ _ c.in_ok-info.info c.in_ok-info.ensures.answer stream states.heads stands f c.in_ok-framing.framing states.fault_is c.in_ok-framing.was)

pub returns-in_err-info-clause-found : goal.returns-in_err-info-clause-found
returns-in_err-info-clause-found g c =
    let p = err_from_is_err_and c.from_residual.result c.from_residual.ensures.1 in
    let fails : Fails IsReplyMessage (pending g.S.ByteStream.left c.args.self.now) (g.S.ByteStream.left c.read_heads.new.self.stream) c.in_err-info.field-0.0 = (fails_behind IsReplyMessage IsHeads [] _ _ _ c.in_err-info.field-0.0 (begins_then IsHeads IsReplyBody) (sym (prepend_known-nil _)) c.in_err-info.ensures.answer) in
    rw (p.1, p.2) (λ stream there stands. fails_found IsReplyMessage _ _ c.in_err-info.field-0.0 fails stream there stands)

pub returns-in_err-framing-clause-found : goal.returns-in_err-framing-clause-found
returns-in_err-framing-clause-found g c =
    let p = err_from_is_err_and c.from_residual-in_err-framing.result c.from_residual-in_err-framing.ensures.1 in
    let fails : Fails IsReplyMessage (pending g.S.ByteStream.left c.args.self.now) (g.S.ByteStream.left c.read_heads.new.self.stream) c.in_err-framing.field-0.0 = (let t = c.in_ok-info.ensures.answer in
    let leads = then_leads IsHeads IsReplyBody (heads_unique 8) t.front c.in_ok-info.info (heads_either 8 t.front t.ends c.in_ok-info.info t.message) in
    fails_stated IsReplyMessage _ _ c.in_err-framing.field-0.0 (info_stated 8 t.front t.ends c.in_ok-info.info t.message c.in_err-framing.field-0.0 c.in_err-framing.was)
    (refused_here IsReplyMessage t.front _ c.read_heads.new.self.window (g.S.ByteStream.left c.read_heads.new.self.stream) t.split (λ s b. stated_never c.in_ok-info.info c.in_err-framing.field-0.0 c.in_err-framing.was s (leads.peel s b).0))) in
    rw (p.1, p.2) (λ stream there stands. fails_found IsReplyMessage _ _ c.in_err-framing.field-0.0 fails stream there stands)

pub returns-in_err-body-clause-found : goal.returns-in_err-body-clause-found
returns-in_err-body-clause-found g c =
    let p = err_from_is_err_and c.from_residual-in_err-body.result c.from_residual-in_err-body.ensures.1 in
    let fails : Fails IsReplyMessage (pending g.S.ByteStream.left c.args.self.now) (g.S.ByteStream.left c.read_body.new.self.stream) c.in_err-body.field-0.0 = (let t = c.in_ok-info.ensures.answer in
    let leads = then_leads IsHeads IsReplyBody (heads_unique 8) t.front c.in_ok-info.info (heads_either 8 t.front t.ends c.in_ok-info.info t.message) in
    fails_behind IsReplyMessage (IsBody reply_limit c.in_ok-framing.framing) t.front _ _ _ c.in_err-body.field-0.0 (λ s b. begins_body c.in_ok-info.info c.in_ok-framing.framing c.in_ok-framing.was s (leads.peel s b).0) t.split c.in_err-body.ensures.answer) in
    rw (p.1, p.2) (λ stream there stands. fails_found IsReplyMessage _ _ c.in_err-body.field-0.0 fails stream there stands)

pub returns-clause-found : goal.returns-clause-found
returns-clause-found g c = λ stream there stands. took_found IsReplyMessage reply_unique _ _ _ (returns-clause-answer g c) stream there stands

pub returns-in_err-info-clause-long : goal.returns-in_err-info-clause-long
returns-in_err-info-clause-long g c =
    let p = err_from_is_err_and c.from_residual.result c.from_residual.ensures.1 in
    rw (p.1, p.2) (λ stream passes stands. stated_outside IsHeads _ _ c.in_err-info.field-0.0 _ c.in_err-info.ensures.answer stream passes.heads stands)

pub returns-in_err-framing-clause-long : goal.returns-in_err-framing-clause-long
returns-in_err-framing-clause-long g c =
    let p = err_from_is_err_and c.from_residual-in_err-framing.result c.from_residual-in_err-framing.ensures.1 in
    rw (p.1, p.2) (λ stream passes stands.
    absurd (framed_fault IsHeads (heads_unique 8) (λ i. i.framing) _ _ c.in_ok-info.info c.in_ok-info.ensures.answer stream passes.heads stands c.in_err-framing.field-0.0 passes.framing passes.framed c.in_err-framing.was))

pub returns-in_err-body-clause-long : goal.returns-in_err-body-clause-long
returns-in_err-body-clause-long g c =
    let p = err_from_is_err_and c.from_residual-in_err-body.result c.from_residual-in_err-body.ensures.1 in
    rw (p.1, p.2) (λ stream passes stands.
    let same = framed_same IsHeads (heads_unique 8) (λ i. i.framing) _ _ c.in_ok-info.info c.in_ok-info.ensures.answer stream passes.heads stands c.in_ok-framing.framing passes.framing passes.framed c.in_ok-framing.was in
    c.in_err-body.ensures.long passes.heads.rest (subst (λ f. IsLongBody reply_limit f passes.heads.rest) same.0 passes.long) same.1)

pub returns-clause-long : goal.returns-clause-long
returns-clause-long g c = λ stream passes stands.
    let same = framed_same IsHeads (heads_unique 8) (λ i. i.framing) _ _ c.in_ok-info.info c.in_ok-info.ensures.answer stream passes.heads stands c.in_ok-framing.framing passes.framing passes.framed c.in_ok-framing.was in
    c.in_ok-body.ensures.long passes.heads.rest (subst (λ f. IsLongBody reply_limit f passes.heads.rest) same.0 passes.long) same.1

pub returns-in_err-info-clause-why : goal.returns-in_err-info-clause-why
returns-in_err-info-clause-why g c =
    let p = err_from_is_err_and c.from_residual.result c.from_residual.ensures.1 in
    rw (p.1, p.2) (λ stream stands. heads_refused stream c.in_err-info.field-0.0 (c.in_err-info.ensures.why stream stands))

pub returns-in_err-framing-clause-why : goal.returns-in_err-framing-clause-why
returns-in_err-framing-clause-why g c =
    let p = err_from_is_err_and c.from_residual-in_err-framing.result c.from_residual-in_err-framing.ensures.1 in
    rw (p.1, p.2) (λ stream stands.
    let t = c.in_ok-info.ensures.answer in
    heads_state _ _ c.in_ok-info.info c.in_err-framing.field-0.0 t c.in_err-framing.was (info_stated 8 t.front t.ends c.in_ok-info.info t.message c.in_err-framing.field-0.0 c.in_err-framing.was) stream stands)

pub returns-in_err-body-clause-why : goal.returns-in_err-body-clause-why
returns-in_err-body-clause-why g c =
    let p = err_from_is_err_and c.from_residual-in_err-body.result c.from_residual-in_err-body.ensures.1 in
    rw (p.1, p.2) (λ stream stands.
    reply_body_refused _ _ c.in_ok-info.info c.in_ok-framing.framing c.in_err-body.field-0.0 c.in_ok-info.ensures.answer c.in_ok-framing.was c.in_err-body.ensures.why stream stands)

pub returns-in_err-framing-clause-count : goal.returns-in_err-framing-clause-count
returns-in_err-framing-clause-count g c =
    let p = err_from_is_err_and c.from_residual-in_err-framing.result c.from_residual-in_err-framing.ensures.1 in
    rw (p.1, p.2) (let t = c.in_ok-info.ensures.answer in
    none_failed HttpReply c.in_err-framing.field-0.0 _ _ (info_stated 8 t.front t.ends c.in_ok-info.info t.message c.in_err-framing.field-0.0 c.in_err-framing.was) c.in_ok-info.ensures.count)
