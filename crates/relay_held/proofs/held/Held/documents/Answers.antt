use Rattle.std.proofs.Common.{◌∙◌, ap, arith, length}
use Rattle.relay_held.specs.Queues.{Holding, candidates_kept, distinct, documents}
use Rattle.relay_held.proofs.Counting.{keys_counted}
use Rattle.relay_held.proofs.Heads.{few_candidates}
use Rattle.relay_held.proofs.held.Held.documents.Goals as goal

pub returns-clause-documents : goal.returns-clause-documents
returns-clause-documents c =
    c.len.ensures.len ∙ keys_counted c.self.inside.documents.queues _ c.len.ensures.unique c.self.invariant.holding.merge c.len.ensures.filled
    ∙ ap (λ (s : Holding). distinct (documents s.list)) c.self.view_is

pub returns-clause-few : goal.returns-clause-few
returns-clause-few c =
    let few = few_candidates c.self.inside.waiting.clock c.self.inside.documents.queues _ c.self.invariant.holding.merge in
    let view = ap (λ (s : Holding). length (candidates_kept s.list s.clock)) c.self.view_is in
    let is = c.len.ensures.len in
    omega (arith, few, view, is)
