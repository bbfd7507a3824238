use Rattle.std.proofs.Common.{sym}
use Rattle.relay_ndjson.proofs.UsualLines.{says_usual}
use Rattle.relay_ndjson.proofs.usual.read_usual.Goals as goal

pub returns-in-Ok : goal.returns-in-Ok
returns-in-Ok c =
    let usual = c.in_ok-usual.usual in
    let says = says_usual c.args.default_index usual.index c.args.line.now usual.kind c.in_ok-index.index usual.id.now c.in_ok-usual.ensures.line c.in_ok-usual.ensures.texts (sym c.in_ok-index.ensures) in
    rw (c.in-Ok.ensures.ok.0, c.in-Ok.ensures.ok.1) says
