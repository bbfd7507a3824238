use Rattle.std.proofs.Common.{◌∙◌, ap, subst, IsTrue}
use Rattle.std.specs.Io.KnownBytes.{IsAtEnd}
use Rattle.relay_sift.specs.Sifting.{Sifting}
use Rattle.relay_sift.proofs.Sifting.{looks}
use Rattle.relay_sift.proofs.sifted.Sifted.look.Goals as goal

pub returns-in-Ok-clause-front : goal.returns-in-Ok-clause-front
returns-in-Ok-clause-front g c =
    let view = c.self.view_is in
    let over = subst (λ (s : Sifting). IsTrue s.ended → IsAtEnd s.left) view c.self.invariant.0 in
    let held = c.held-held.ensures ∙ ap (λ (s : Sifting). s.held) view in
    (looks c.args.self.now _ _ _ _ c.in-Ok.front c.index-index.ensures held (ap (λ (s : Sifting). s.count) view) (ap (λ (s : Sifting). s.ended) view) over c.in-Ok.ensures).0

pub returns-in-Ok-clause-within : goal.returns-in-Ok-clause-within
returns-in-Ok-clause-within g c =
    let view = c.self.view_is in
    let over = subst (λ (s : Sifting). IsTrue s.ended → IsAtEnd s.left) view c.self.invariant.0 in
    let held = c.held-held.ensures ∙ ap (λ (s : Sifting). s.held) view in
    (looks c.args.self.now _ _ _ _ c.in-Ok.front c.index-index.ensures held (ap (λ (s : Sifting). s.count) view) (ap (λ (s : Sifting). s.ended) view) over c.in-Ok.ensures).1
