use Rattle.std.proofs.Common.{◌≡◌, map, string_bytes, ap, sym, ◌∙◌, arith, Some}
use Rattle.std.specs.Prelude.{slice_get}
use Rattle.relay_results.proofs.Lists.{at-map}
use Rattle.relay_run.proofs.Writing.{get_there, opened}
use Rattle.relay_run.proofs.resuming.inputs_of.Goals as goal

pub loop-place-preserved : goal.loop-place-preserved
loop-place-preserved c =
    let files = map string_bytes c.args.paths.now in
    let x = c.index-paths-place.result in
    let k = c.loop-place.place in
    let within = c.loop-place-test.true in
    let least = c.min-place-end.ensures in
    let at = get_there c.args.paths.now k x (omega (arith, within, least)) c.index-paths-place.is in
    let here : slice_get files k ≡ Some c.as_str.result.now = at-map string_bytes c.args.paths.now k x at ∙ ap Some (sym c.as_str.ensures.value) in
    let all = opened k c.add.new.self.starts.len c.as_str.result.now files c.loop-place.inputs.producers.items c.add.new.self.producers.items c.loop-place.inputs.inputs.items c.add.new.self.inputs.items c.loop-place.inputs.starts.items c.add.new.self.starts.items
    c.in_ok-add.ensures c.add.new.self.starts.ok.0 here c.loop-place.invariant.read in
    record { count = all.0; read = all.1 }
