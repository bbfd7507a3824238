use Rattle.std.proofs.Common.{sym, add-one}
use Rattle.relay_index.proofs.Listed.{take-next_key}
use Rattle.relay_index.proofs.index.copied_keys.Goals as goal

pub loop-place-preserved : goal.loop-place-preserved
loop-place-preserved c =
    let at = rw c.unwrap.ensures at c.get_index.ensures.entry in
    rw (c.in_ok-push.ensures.items, c.loop-place.invariant, c.in_ok-copy.ensures, add-one)
    (sym (take-next_key c.args.documents.now.entries c.loop-place.place (c.unwrap.result.0.now, c.unwrap.result.1.now) (sym at)))
