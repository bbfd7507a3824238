use Rattle.std.proofs.Common.{◌∙◌}
use Rattle.std.proofs.lemmas.Result.{err_from_is_err_and}
use Rattle.relay_scenario.specs.Flows.{sink}
use Rattle.relay_scenario.proofs.Underway.{cut_at, halts_at_fault, halts_at_write, halts_counted, flows_of_moves, underway_counted, underway_more, underway_same, underway_written}
use Rattle.relay_scenario.proofs.playing.play_events.Goals as goal

pub returns-in-Err-clause-err : goal.returns-in-Err-clause-err
returns-in-Err-clause-err g c =
    let w = g.W.ByteStream in
    halts_at_write _ _ _ c.events.world c.events.lines.count _ _ _ _ (sink (w.written c.make_way.new.writer) c.make_way.new.self.sent) c.in-Err.sent c.events.invariant.underway (cut_at _ _ _ _ _ c.in-Err.ensures.err)

pub events-preserved : goal.events-preserved
events-preserved g c =
    let next = rw c.in-Played.is at c.in_ok-play_next.ensures.next in
    let moved = underway_written _ _ _ c.events.world c.events.lines.count _ _ _ _ _ c.events.invariant.underway (flows_of_moves _ _ _ _ _ _ c.in_default.ensures.ok) in
    let more = underway_more _ _ _ _ c.events.world c.play_next.new.world c.events.lines.count c.play_next.new.lines.count _ _ c.play_next.new.outgoing.text.items _ next.0 next.1 c.make_way.new.self.in_range moved next.2 next.3 next.4 in
    record {
      underway = underway_counted _ _ _ _ _ _ _ _ _ _ c.in_ok-play_next.ensures.sent more;
      within = next.2.4;
      held = c.in_ok-play_next.ensures.held;
      reads = c.in_ok-play_next.ensures.failed ∙ c.events.invariant.reads;
      writes = c.in_default.ensures.succeeded ∙ c.events.invariant.writes;
    }

pub returns-in-Ended-clause-ok : goal.returns-in-Ended-clause-ok
returns-in-Ended-clause-ok g c =
    let next = rw c.in-Ended.is at c.in_ok-play_next.ensures.next in
    let moved = underway_written _ _ _ c.events.world c.events.lines.count _ _ _ _ _ c.events.invariant.underway (flows_of_moves _ _ _ _ _ _ c.in_default.ensures.ok) in
    let same = underway_same _ _ _ _ c.events.world c.play_next.new.world c.events.lines.count c.play_next.new.lines.count _ _ c.play_next.new.outgoing.text.items _ moved next.0.1 next.1 next.0.2 next.2 in
    underway_counted _ _ _ _ _ _ _ _ _ _ c.in_ok-play_next.ensures.sent same

pub returns-in_err-play_next-clause-err : goal.returns-in_err-play_next-clause-err
returns-in_err-play_next-clause-err g c =
    let p = err_from_is_err_and c.from_residual.result c.from_residual.ensures.1 in
    let next = c.in_err-play_next.ensures.next in
    let moved = underway_written _ _ _ c.events.world c.events.lines.count _ _ _ _ _ c.events.invariant.underway (flows_of_moves _ _ _ _ _ _ c.in_default.ensures.ok) in
    let halts = halts_at_fault _ _ _ _ c.events.world c.events.lines.count _ _ c.play_next.new.outgoing.text.items _ c.in_err-play_next.field-0.0 moved next.0 next.1 c.in_err-play_next.ensures.uses in
    rw (p.1, p.2) (halts_counted _ _ _ _ _ _ _ _ _ c.in_err-play_next.ensures.sent halts)
