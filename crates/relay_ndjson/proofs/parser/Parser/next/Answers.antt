use Rattle.std.proofs.Common.{ap, refl}
use Rattle.relay_ndjson.specs.Reading.{reading}
use Rattle.relay_ndjson.proofs.Readings.{open_steps}
use Rattle.relay_ndjson.proofs.parser.Parser.next.Goals as goal

pub returns-in-Err-clause-lines : goal.returns-in-Err-clause-lines
returns-in-Err-clause-lines g c =
    let shown = reading (g.R.ByteStream.left c.args.reader.now) (g.R.ByteStream.failed c.args.reader.now) in
    open_steps _ _ _ _ (ap shown c.self.view_is) c.in-Open.is (record { fault = c.in-Err.ensures.lines; stops = c.in-Err.ensures.stop; line = refl; phase = refl })

pub returns-in-Ok-None-clause-lines : goal.returns-in-Ok-None-clause-lines
returns-in-Ok-None-clause-lines g c =
    let shown = reading (g.R.ByteStream.left c.args.reader.now) (g.R.ByteStream.failed c.args.reader.now) in
    let none = rw c.in-Ok-None.field-0-is at c.in-Ok-None.ensures.lines in
    open_steps _ _ _ _ (ap shown c.self.view_is) c.in-Open.is (record { lines = none; line = refl; phase = refl })
