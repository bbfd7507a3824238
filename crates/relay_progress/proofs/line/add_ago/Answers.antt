use Rattle.std.proofs.Common.{codes}
use Rattle.std.specs.Prelude.{decimal}
use Rattle.relay_progress.proofs.Texts.{more, with_end}
use Rattle.relay_progress.proofs.line.add_ago.Goals as goal

pub returns : goal.returns
returns c =
    let mid = more _ _ c.args.text.now.items (codes "last answer ") (decimal c.args.seconds) c.in_ok-add_number.ensures.ok c.in_ok-extend_from_slice.ensures.items in
    with_end c.extend_from_slice-2.result _ _ c.args.text.now.items _ (codes " s ago") c.extend_from_slice-2.ensures.items mid
