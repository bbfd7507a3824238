use Rattle.relay_scenario.proofs.Whole.{halts_at_end}
use Rattle.relay_scenario.proofs.script.play_world.Goals as goal

pub returns-clause-halts : goal.returns-clause-halts
returns-clause-halts g c =
    halts_at_end _ _ _ c.play_events.new.world c.play_events.new.lines.count _ _ _ _ _ c.write_ending.result c.in_ok-play_events.ensures.ok c.in_ok-play_events.ensures.ended c.write_ending.ensures.text
