use Rattle.relay_sift.proofs.asking.subject_of.Goals as goal

pub returns-in-Ok-Some : goal.returns-in-Ok-Some
returns-in-Ok-Some c =
    let found = rw c.in-Ok-Some.field-0-is at c.in-Ok-Some.ensures.ok in
    c.subject_in.ensures c.args.line.now found.3.0 (found.0, found.1, found.2, found.3.1) found.3.2
