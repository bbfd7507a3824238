use Rattle.std.specs.Prelude.{map, string_bytes}
use Rattle.relay_run.proofs.Writing.{begun_if}
use Rattle.relay_run.proofs.files.going_of.Goals as goal

pub marked_beside-requires-clause-begun : goal.marked_beside-requires-clause-begun
marked_beside-requires-clause-begun g c κs within =
    begun_if (map string_bytes c.args.options.now.files.items) c.args.resumed c.in_ok-ends.ends.keeper c.args.starts.items c.deref.result.now c.requires.begun c.requires.starts c.deref.ensures.value c.in_ok-ends.ensures.keeper
