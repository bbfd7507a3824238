use Rattle.std.proofs.Common.{◌≡◌, drop}
use Rattle.serde_json.specs.View.{items_view}
use Rattle.relay_resume.specs.Finding.{inputs_of}
use Rattle.relay_resume.proofs.ReadBack.{with_rest}
use Rattle.relay_resume.proofs.finding.inputs_in.Given as goal

-- the inputs so far and those to come
abbrev pub invariant-items : goal.invariant-items
invariant-items l = with_rest l.inputs.items (inputs_of (items_view (drop l.value-index l.items))) ≡ inputs_of (items_view l.items)
