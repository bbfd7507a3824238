use Rattle.std.proofs.Common.{◌∙◌, ap}
use Rattle.relay_sift.specs.Sifting.{coming}
use Rattle.relay_sift.proofs.Sifting.{read_gives, pays_after, paid_off}
use Rattle.relay_sift.proofs.sifted.SiftedByteIn.read.Goals as goal

pub returns-in-Ok-clause-bytes : goal.returns-in-Ok-clause-bytes
returns-in-Ok-clause-bytes g c =
    read_gives c.args.self.now c.prepare.new.self c.give.new.self c.give.result c.args.buffer.now c.give.new.buffer c.in-Ok.ensures.ok.same c.give.ensures.count c.give.ensures.bytes c.give.ensures.after

pub returns-in-Ok-clause-pays : goal.returns-in-Ok-clause-pays
returns-in-Ok-clause-pays g c = pays_after c.args.self.now c.prepare.new.self c.give.new.self c.give.result c.in-Ok.ensures.ok.pays c.give.ensures.after

pub returns-in-Err-clause-err : goal.returns-in-Err-clause-err
returns-in-Err-clause-err g c = ap coming c.fail.ensures ∙ c.in-Err.ensures.err.0

pub returns-in-Ok-clause-paid : goal.returns-in-Ok-clause-paid
returns-in-Ok-clause-paid g c = λ zero low.
    paid_off c.prepare.new.self c.give.new.self c.give.result c.args.buffer.now c.give.new.buffer c.in-Ok.ensures.end c.give.ensures.count c.give.ensures.bytes c.give.ensures.after zero low
