use Rattle.std.proofs.Common.{codes, ◌++◌}
use Rattle.std.specs.Prelude.{decimal}
use Rattle.relay_progress.proofs.Texts.{with_count}
use Rattle.relay_progress.proofs.event.add_start.Goals as goal

pub returns : goal.returns
returns c =
    with_count c.add_count-2.result _ _ c.args.text.now.items (codes "start: epoch " ++ decimal c.args.epoch) (codes ", lanes ") (decimal c.args.lanes)
    c.add_count-2.ensures c.in_ok-add_count.ensures
