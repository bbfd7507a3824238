use Rattle.relay_report.proofs.Noted.{notes_named}
use Rattle.relay_report.proofs.keeping.Keeping.add.Goals as goal

pub returns : goal.returns
returns c = λ before n.
    rw (c.in_ok-push.ensures.items, c.give_mark.ensures.found) (notes_named _ _ _ before c.args.name c.args.key c.in_ok-give_mark.ensures.marks n)
