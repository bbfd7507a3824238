use Rattle.std.proofs.Common.{rules, ◌∙◌}
use Rattle.relay_target.proofs.Splitting.{front_there}
use Rattle.relay_target.proofs.reading.after.Goals as goal

pub returns-else-eq : goal.returns-else-eq
returns-else-eq c = λ rest is.
    let there = front_there c.args.bytes.now c.args.front.now rest is in
    let same = c.split_at.ensures.front ∙ there.1 in
    search (rules, same)
