use Rattle.std.proofs.Common.{◌≡◌, true, length, inl, inr, ℕ, List, refl, sym, ◌∙◌, subst, string_bytes}
use Rattle.relay_index.specs.Plans.{takes}
use Rattle.std.proofs.lemmas.Result.{IfOk-weaker, err_from_is_err_and}
use Rattle.relay_ndjson.specs.declared.kind.BulkFault.{BulkFault}
use Rattle.relay_ndjson.specs.Bodies.{IsBulkFault}
use Rattle.relay_index.specs.Serving.{Server, Answer, under, answer_of, IsRejection, Answers, Replies, RunsFirst}
use Rattle.relay_index.proofs.index.Index.serve_body.Goals as goal

-- a fault other than a failed allocation breaks the body, and its answer is that of the body
rejected : (body : List ℕ) (server : Server) (fault : BulkFault) (reply : Answer) → takes server.script (length body) ≡ true → IsBulkFault body fault → IsRejection fault reply
    → Answers body server reply server
rejected body server fault reply within is answer = inr (inl (record {
  within = within;
  line = fault.line;
  kind = fault.kind;
  breaks = elim is [ inl memory ↦ absurd (answer.cause memory) | inr breaks ↦ breaks ];
  failure = answer.failure;
  text_of = answer.text_of;
  stays = refl;
}))

pub returns-in-Err-clause-answered : goal.returns-in-Err-clause-answered
returns-in-Err-clause-answered c =
    IfOk-weaker c.reject.result _ _
    (λ answer is. rejected c.args.body.now (under c.args.self.now c.args.script.now) c.in-Err.fault (answer_of answer.0 (string_bytes answer.1)) (sym c.takes.ensures ∙ c.if-not-takes.false) c.in-Err.ensures.err is)
    c.reject.ensures.ok

pub returns-clause-answered : goal.returns-clause-answered
returns-clause-answered c =
    let old = under c.args.self.now c.args.script.now in
    let new = under c.serve_writes.new.self c.serve_writes.new.script in
    inl (record {
      within = sym c.takes.ensures ∙ c.if-not-takes.false;
      writes = c.in-Ok.writes.items;
      reads = c.in-Ok.ensures.ok;
      success = refl;
      replies = subst (λ ws. Replies old ws (string_bytes c.in_ok-text.text) new) c.as_slice.ensures.value c.in_ok-text.ensures.ok;
    })

pub returns-in_err-text-clause-stopped : goal.returns-in_err-text-clause-stopped
returns-in_err-text-clause-stopped c =
    let old = under c.args.self.now c.args.script.now in
    let new = under c.serve_writes.new.self c.serve_writes.new.script in
    let p = err_from_is_err_and c.from_residual.result c.from_residual.ensures.1 in
    rw (p.1, p.2)
    (inr (record {
      writes = c.in-Ok.writes.items;
      reads = c.in-Ok.ensures.ok;
      first = subst (λ ws. RunsFirst c.in_err-text.field-0.0.ran old ws new) c.as_slice.ensures.value c.in_err-text.ensures.err;
    }))
