use Rattle.relay_progress.proofs.Texts.{with_last}
use Rattle.relay_progress.proofs.line.add_count.Goals as goal

pub returns : goal.returns
returns c = with_last c.add_number.result _ _ c.args.text.now.items c.args.words.now _ c.add_number.ensures.ok c.in_ok-extend_from_slice.ensures.items
