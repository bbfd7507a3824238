use Rattle.relay_ndjson.specs.Metadata.{bytes_given}
use Rattle.relay_sift.proofs.Judging.{says_alone, says_pair}
use Rattle.relay_sift.proofs.front.judge.Goals as goal

pub returns-in-Ok-Delete-default : goal.returns-in-Ok-Delete-default
returns-in-Ok-Delete-default c =
    let d = c.in-Ok-Delete-default in
    let s = rw d.field-0-0-is at d.ensures.ok in says_alone (bytes_given c.args.default_index) c.args.text.now d._key s

pub returns-in-Ok-Index-default : goal.returns-in-Ok-Index-default
returns-in-Ok-Index-default c =
    let d = c.in-Ok-Index-default in
    let s = rw d.field-0-0-is at d.ensures.ok in says_pair (bytes_given c.args.default_index) c.args.text.now d._key s
