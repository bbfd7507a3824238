use Rattle.std.proofs.Common.{codes, refl, sym, subst, ◌∙◌}
use Rattle.std.proofs.lemmas.Slice.Eq.{bytes_eq-Decides}
use Rattle.serde_json.specs.Find.{as_array}
use Rattle.relay_results.specs.Parts.{items_in, HoldsItems}
use Rattle.relay_results.proofs.OneMore.{told_here, told_before, differ}
use Rattle.relay_results.proofs.reading.ReplyGather.member.Goals as goal

pub returns-in_ok-self-clause-ok : goal.returns-in_ok-self-clause-ok
returns-in_ok-self-clause-ok c =
    let read = c.in_ok-self.ensures.ok in
    let name = c.args.name.now in
    let same = (bytes_eq-Decides name (codes "items")).0 (sym c.eq.ensures ∙ c.if-eq.true) in
    (read.0, read.1, λ ms h. subst (HoldsItems c.in_ok-self.field-0) (told_here as_array (codes "items") name read.0 ms (as_array read.0) same refl) read.2)

pub returns-in_ok-leaf-clause-ok : goal.returns-in_ok-leaf-clause-ok
returns-in_ok-leaf-clause-ok c =
    let read = c.in_ok-leaf.ensures.ok in
    let name = c.args.name.now in
    let apart = differ name (codes "items") (sym c.eq.ensures ∙ c.if-eq.false) in
    (read.0, read.1, λ ms h. subst (HoldsItems c.args.self.now.entries) (told_before as_array (codes "items") name read.0 ms (items_in ms) apart refl) h)
