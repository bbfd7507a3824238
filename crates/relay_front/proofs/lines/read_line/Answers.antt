use Rattle.relay_ndjson.specs.Metadata.{bytes_given}
use Rattle.relay_ndjson.proofs.Deciding.{key_none}
use Rattle.relay_front.proofs.Asking.{usual}
use Rattle.relay_front.proofs.lines.read_line.Goals as goal

pub returns-in-Ok-clause-ok : goal.returns-in-Ok-clause-ok
returns-in-Ok-clause-ok g c =
    let key = c.in-Ok.key in
    rw c.asked_kind.ensures (usual (bytes_given c.args.default) c.args.line.now c.in-Ok.kind key c.in-Ok.ensures.ok (key_none key.index key.id key.index_ok key.id_ok))
