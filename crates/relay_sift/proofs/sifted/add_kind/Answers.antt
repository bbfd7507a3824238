use Rattle.std.proofs.Common.{◌∙◌, ◌++◌, ap, List, ℕ, codes}
use Rattle.relay_ndjson.specs.Kinds.{name_of}
use Rattle.relay_sift.proofs.Sifting.{more_of_three}
use Rattle.relay_sift.proofs.sifted.add_kind.Goals as goal

pub returns : goal.returns
returns c =
    let first = c.extend_from_slice.new.self.items in
    let name = c.as_bytes.ensures.value ∙ c.name.ensures in
    let second = c.in_ok-extend_from_slice-2.ensures.items ∙ ap (λ (x : List ℕ). first ++ x) name in
    more_of_three c.extend_from_slice-3.new.self.items c.extend_from_slice-2.new.self.items first c.args.text.now.items (codes "{\"invalid\":{\"kind\":\"") (name_of c.args.fault.kind) (codes "\",\"line\":") c.in_ok-extend_from_slice-3.ensures.items second c.in_ok-extend_from_slice.ensures.items
