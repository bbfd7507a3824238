use Rattle.relay_scenario.specs.Flows.{sink}
use Rattle.relay_scenario.proofs.Whole.{is_script, plays_at_start, fails_once}
use Rattle.relay_scenario.proofs.script.world_script.Goals as goal

pub returns-clause-script : goal.returns-clause-script
returns-clause-script g c =
    let plays = plays_at_start c.args.index (g.R.ByteStream.left c.args.reader.now) _ _ _ c.new-lines.result.held _ c.play-answer.result c.new-lines.ensures.held c.play-answer.ensures.script in
    is_script c.args.index _ _ _ _ _ c.play-answer.new.lines.held _ _ _ c.play-answer.result c.close.result c.play-answer.ensures.held plays c.close.ensures

pub returns-clause-calls : goal.returns-clause-calls
returns-clause-calls g c =
    let failed_in = g.R.ByteStream.failed in
    let failed_out = g.W.ByteStream.failed in
    let p = c.play-answer.new in
    fails_once (failed_in c.args.reader.now) (failed_in p.reader) (failed_out c.args.writer.now) (failed_out p.writer) (failed_out c.close.new.writer) p.outgoing.text.items (sink (g.W.ByteStream.written p.writer) p.outgoing.sent)
    (g.W.ByteStream.written c.close.new.writer) c.play-answer.result c.close.result c.play-answer.ensures.reads c.play-answer.ensures.writes c.close.ensures
