use Rattle.std.proofs.Common.{refl, sym}
use Rattle.relay_delay.proofs.Dues.{none_without, none_before}
use Rattle.relay_delay.proofs.later.Later.pop_due.Goals as goal

pub returns-in_default : goal.returns-in_default
returns-in_default c = (refl, none_without c.args.clock c.args.self.now.entries (let e = c.in_default.ensures in cc))

pub returns-then-clock-due : goal.returns-then-clock-due
returns-then-clock-due c = (refl, none_before c.args.clock c.in-Some.due c.args.self.now.entries (sym c.in-Some.ensures) c.if-clock-due.true)
