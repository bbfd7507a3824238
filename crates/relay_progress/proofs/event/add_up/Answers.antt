use Rattle.std.proofs.Common.{codes, ◌++◌}
use Rattle.std.specs.Prelude.{decimal}
use Rattle.relay_progress.specs.Events.{seconds_text}
use Rattle.relay_progress.proofs.Texts.{more, with_count}
use Rattle.relay_progress.proofs.event.add_up.Goals as goal

pub returns : goal.returns
returns c =
    with_count c.add_count.result _ _ c.args.text.now.items (codes "up again after " ++ seconds_text c.args.millis) (codes " s, sends ") (decimal c.args.sends)
    c.add_count.ensures (more _ _ c.args.text.now.items (codes "up again after ") (seconds_text c.args.millis) c.in_ok-add_seconds.ensures c.in_ok-extend_from_slice.ensures.items)
