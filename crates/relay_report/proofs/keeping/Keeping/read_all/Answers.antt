use Rattle.std.proofs.Common.{◌≡◌, ℕ, ◌∷◌, length, ap, ◌∙◌, rules}
use Rattle.std.specs.BTreeMap.{get}
use Rattle.std.specs.Ordering.{nat_cmp}
use Rattle.std.specs.Vec.Iter.{into_iter_items}
use Rattle.relay_ndjson.specs.Metadata.{bytes_given}
use Rattle.relay_report.specs.Current.{name_at}
use Rattle.relay_report.proofs.Inputs.{all_more}
use Rattle.relay_report.proofs.keeping.Keeping.read_all.Goals as goal

pub inputs-preserved : goal.inputs-preserved
inputs-preserved g c =
    let s = g.S.ByteStream in
    let items : into_iter_items c.inputs.input-iterator ≡ c.in-Some.input ∷ into_iter_items c.next.new.self = search rules in
    let many : c.len.result ≡ length c.inputs.ends.items = search rules in
    let names : (k : ℕ) → get nat_cmp c.in_ok-numbers.numbers k ≡ name_at c.args.names.now (length c.inputs.ends.items) k = λ k. c.in_ok-numbers.ensures k ∙ ap (λ p. name_at c.args.names.now p k) many in
    all_more s.left s.failed (bytes_given c.args.default_index) c.args.names.now c.args.inputs.items _ c.in-Some.input c.inputs.ends.items _ _ _ _ _ (get nat_cmp c.in_ok-numbers.numbers) _ (rw items at c.inputs.invariant) names (rw c.new-input.ensures at c.in_ok-read_input.ensures) c.in_ok-push.ensures.items
