use Rattle.std.proofs.Common.{get_or, ◌∙◌, arith}
use Rattle.std.proofs.lemmas.Option.{slice_get-get_or}
use Rattle.relay_run.proofs.Writing.{gives_trans, moves_gives, set_length, still_moves}
use Rattle.relay_run.proofs.resuming.move_all.Goals as goal

pub loop-place-preserved : goal.loop-place-preserved
loop-place-preserved c =
    let i = c.loop-place.invariant in
    let k = c.loop-place.place in
    let x = c.index_mut.result.now in
    let y = c.move_one-stays.new.input in
    let within = c.loop-place-test.true in
    let least = c.min-place-end.ensures in
    let len = c.len.ensures in
    let ok = c.args.inputs.now.ok.0 in
    let size = i.count in
    let at = slice_get-get_or c.args.producers.now k 0 (omega (arith, within, least)) in
    record {
      marks = gives_trans c.args.marks.now c.loop-place.marks c.move_one-stays.new.marks i.marks (moves_gives (get_or c.args.producers.now k 0) x.mark y.mark c.loop-place.marks c.move_one-stays.new.marks c.move_one-stays.ensures.moves);
      read = still_moves c.args.producers.now k (get_or c.args.producers.now k 0) c.args.marks.now c.loop-place.marks c.move_one-stays.new.marks c.args.inputs.now.items c.loop-place.inputs.items x y (omega (arith, within, least, size, len, ok)) c.index_mut.ensures.value at c.move_one-stays.ensures.moves
          c.move_one-stays.ensures.path i.read;
      count = set_length c.loop-place.inputs.items k y ∙ i.count;
    }
