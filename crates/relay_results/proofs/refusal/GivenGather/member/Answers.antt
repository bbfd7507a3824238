use Rattle.std.proofs.Common.{codes, sym, ◌∙◌}
use Rattle.std.proofs.lemmas.Slice.Eq.{bytes_eq-Decides}
use Rattle.relay_results.specs.Replies.{reason_given}
use Rattle.relay_results.proofs.OneMore.{told_here, told_before, differ}
use Rattle.relay_results.proofs.refusal.GivenGather.member.Goals as goal

pub returns-in_ok-self-clause-ok : goal.returns-in_ok-self-clause-ok
returns-in_ok-self-clause-ok c =
    let read = c.in_ok-self.ensures.ok in
    let name = c.args.name.now in
    let same = (bytes_eq-Decides name (codes "error")).0 (sym c.eq.ensures ∙ c.if-eq.true) in
    (read.0, read.1, λ ms h. told_here reason_given (codes "error") name read.0 ms _ same read.2)

pub returns-in_ok-leaf-clause-ok : goal.returns-in_ok-leaf-clause-ok
returns-in_ok-leaf-clause-ok c =
    let read = c.in_ok-leaf.ensures.ok in
    let name = c.args.name.now in
    let apart = differ name (codes "error") (sym c.eq.ensures ∙ c.if-eq.false) in
    (read.0, read.1, λ ms h. told_before reason_given (codes "error") name read.0 ms _ apart h)
