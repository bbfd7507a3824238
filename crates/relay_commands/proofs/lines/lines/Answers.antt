use Rattle.relay_ndjson.specs.Metadata.{bytes_given}
use Rattle.relay_commands.proofs.Streaming.{closes, calls_at_close, reading-start}
use Rattle.relay_commands.proofs.lines.lines.Goals as goal

pub returns-clause-lines : goal.returns-clause-lines
returns-clause-lines g c =
    let r = g.R.ByteStream in
    let start = reading-start (r.left c.args.reader.now) (r.failed c.args.reader.now) (bytes_given c.args.default_index) c.new-parser.result c.new-parser.ensures in
    let passed = rw start at c.pass_on-answer.ensures.lines in
    closes c.args.first _ _ _ _ _ _ _ _ _ _ _ c.pass_on-answer.result c.close.result passed c.pass_on-answer.ensures.calls c.close.ensures

pub returns-clause-calls : goal.returns-clause-calls
returns-clause-calls g c = calls_at_close _ _ _ _ _ _ _ _ _ c.pass_on-answer.result c.close.result c.pass_on-answer.ensures.calls c.close.ensures
