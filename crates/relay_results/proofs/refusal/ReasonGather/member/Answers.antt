use Rattle.std.proofs.Common.{codes, sym, ◌∙◌}
use Rattle.std.proofs.lemmas.Slice.Eq.{bytes_eq-Decides}
use Rattle.serde_json.specs.Find.{as_str}
use Rattle.relay_results.proofs.OneMore.{told_here, told_before, differ}
use Rattle.relay_results.proofs.refusal.ReasonGather.member.Goals as goal

pub returns-in_ok-leaf-clause-ok : goal.returns-in_ok-leaf-clause-ok
returns-in_ok-leaf-clause-ok c =
    let read = c.in_ok-leaf.ensures.ok in
    let name = c.args.name.now in
    let same = (bytes_eq-Decides name (codes "reason")).0 (sym c.eq.ensures ∙ c.if-eq.true) in
    (read.0, read.1, λ ms h. told_here as_str (codes "reason") name read.0 ms _ same (c.as_str-self.ensures.value read.0 read.2))

pub returns-in_ok-leaf-2-clause-ok : goal.returns-in_ok-leaf-2-clause-ok
returns-in_ok-leaf-2-clause-ok c =
    let read = c.in_ok-leaf-2.ensures.ok in
    let name = c.args.name.now in
    let apart = differ name (codes "reason") (sym c.eq.ensures ∙ c.if-eq.false) in
    (read.0, read.1, λ ms h. told_before as_str (codes "reason") name read.0 ms _ apart h)
