use Rattle.std.proofs.Common.{codes}
use Rattle.std.proofs.lemmas.Result.{IfOk-weaker}
use Rattle.relay_ndjson.specs.Metadata.{bytes_given}
use Rattle.relay_front.specs.Metadata.{given}
use Rattle.relay_front.proofs.Asking.{allowed_by, asked_from}
use Rattle.relay_front.proofs.lines.asked_of.Goals as goal

pub returns : goal.returns
returns g c ms h =
    let allowed = allowed_by c.is_allowed.result c.is_some.result c.args.kind c.given_id.result (given (codes "_id") ms) c.is_allowed.ensures c.is_some.ensures (c.given_id.ensures ms h) in
    IfOk-weaker c.document_of.result _ _ (λ k by. asked_from (bytes_given c.args.default) c.args.kind ms c.args.metadata.now.other k (rw c.if-not-is_allowed.false at allowed) c.in_default.is h.other by) (c.document_of.ensures ms h)
