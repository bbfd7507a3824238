use Rattle.std.proofs.Common.{rules, ◌≡◌, true, false, subst, sym}
use Rattle.relay_scenario.specs.Flows.{sink}
use Rattle.relay_scenario.specs.Scripts.{Closes, is_failed_write}
use Rattle.relay_scenario.proofs.Underway.{cut_at}
use Rattle.relay_scenario.proofs.Whole.{closes_at_once, closes_cut, closes_written, moves_all}
use Rattle.relay_scenario.proofs.script.close.Goals as goal

pub returns-then-is_failed_write : goal.returns-then-is_failed_write
returns-then-is_failed_write g c =
    let w = g.W.ByteStream in
    let writes : is_failed_write c.args.answer ≡ true = search rules in
    closes_at_once c.args.answer c.args.outgoing.now.text.items (sink (w.written c.args.writer.now) c.args.outgoing.now.sent) (w.failed c.args.writer.now) writes

pub returns-in-Ok : goal.returns-in-Ok
returns-in-Ok g c =
    let w = g.W.ByteStream in
    let other : is_failed_write c.args.answer ≡ false = search rules in
    closes_written c.args.answer c.args.outgoing.now.text.items (sink (w.written c.args.writer.now) c.args.outgoing.now.sent) (w.failed c.args.writer.now) _ _ other
    (moves_all _ _ _ _ _ _ c.in-Ok.ensures.ok c.in-Ok.ensures.empty) c.in-Ok.ensures.succeeded

pub returns-in-Err : goal.returns-in-Err
returns-in-Err g c =
    let w = g.W.ByteStream in
    let other : is_failed_write c.args.answer ≡ false = search rules in
    let old = sink (w.written c.args.writer.now) c.args.outgoing.now.sent in
    subst (Closes c.args.answer c.args.outgoing.now.text.items old (w.failed c.args.writer.now) (w.written c.flush.new.writer) (w.failed c.flush.new.writer)) (sym c.cut_short.ensures)
    (closes_cut c.args.answer c.args.outgoing.now.text.items old (w.failed c.args.writer.now) _ _ c.in-Err.sent other (cut_at _ _ _ _ _ c.in-Err.ensures.err) c.in-Err.ensures.failed)
