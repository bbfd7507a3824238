use Rattle.std.proofs.Common.{◌≡◌, ◌≤◌, ◌+◌, ◌-◌, ◌∙◌, ap, subst, sym, refl, arith, length, take, drop, ℕ}
use Rattle.relay_ndjson.specs.Metadata.{bytes_given, source_line_fault}
use Rattle.relay_sift.specs.Fronts.{IsFront}
use Rattle.relay_sift.specs.Texts.{line_text}
use Rattle.relay_sift.proofs.Portions.{front_pair}
use Rattle.relay_sift.proofs.front.with_whole.Goals as goal

pub returns-in-Ok : goal.returns-in-Ok
returns-in-Ok c =
    let d = bytes_given c.args.default_index in
    let high : c.args.end ≤ length c.args.bytes.now = omega (arith, c.requires.bound) in
    let size : (c.args.end + c.args.source) - c.args.end ≡ c.args.source = omega arith in
    let text = c.line_text.ensures ∙ ap (λ (k : ℕ). line_text (take k (drop c.args.end c.args.bytes.now))) size in
    let other = c.in-Ok.ensures ∙ ap source_line_fault text in
    subst (IsFront d c.args.count c.args.bytes.now c.args.ended) (sym c.pair.ensures)
    (front_pair d c.args.count c.args.bytes.now c.args.ended c.args.end c.args.source c.args.own c.in-Ok.other _ high c.requires.first c.requires.judged c.requires.second other refl)
