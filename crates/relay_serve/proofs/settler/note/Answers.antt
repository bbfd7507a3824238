use Rattle.std.proofs.Common.{◌≡◌, ℕ, subst}
use Rattle.relay_front.specs.declared.ending.End.{End}
use Rattle.relay_serve.specs.Batches.{each_noted, only_of}
use Rattle.relay_serve.proofs.Noting.{fits_heard}
use Rattle.relay_serve.proofs.settler.note.Goals as goal

pub returns-in-Some-clause-noted : goal.returns-in-Some-clause-noted
returns-in-Some-clause-noted c = λ lanes number es fits.
    let old = c.args.batch.now in
    let new = c.note.new.self in
    let noted = subst (λ (x : ℕ × End). new.items.items ≡ each_noted (only_of x.0 x.1) old.first old.items.items) c.end_of-number.ensures c.note.ensures.noted in
    fits_heard lanes number es c.args.notice _ old new c.in-Some.is c.note.ensures.keeps noted fits

pub returns-in-None-clause-noted : goal.returns-in-None-clause-noted
returns-in-None-clause-noted c = λ lanes number es fits.
    fits_heard lanes number es c.args.notice _ c.args.batch.now c.lose.new.self c.in-None.is c.lose.ensures.keeps c.lose.ensures.noted fits
