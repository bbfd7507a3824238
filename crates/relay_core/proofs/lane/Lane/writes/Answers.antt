use Rattle.std.proofs.Common.{◌≡◌, List, Bor, sym, ap, subst, ◌∙◌, arith}
use Rattle.std.specs.Prelude.{IfSome, is_some}
use Rattle.relay_action.specs.declared.write.Write.{Write}
use Rattle.relay_flight.specs.declared.request.Request.{Request}
use Rattle.relay_flight.specs.InFlight.{request_at}
use Rattle.relay_core.specs.State.{Seen, is_flying, writes_of}
use Rattle.relay_core.proofs.Reading.{is_some_map, some_read, found_in, found_seen, number_seen}
use Rattle.relay_core.proofs.lane.Lane.writes.Goals as goal

pub returns-clause-flies : goal.returns-clause-flies
returns-clause-flies c =
    let i = c.self.inside in
    sym (is_some_map (λ (ws : Bor (List Write)). ws.now) c.writes.result) ∙ ap is_some c.writes.ensures
    ∙ is_some_map (λ (r : Request). r.writes.items) (request_at c.args.number i.flight)
    ∙ found_in i.flight.requests c.args.number
    ∙ number_seen 1 i.flight.next i.flight.requests c.args.number (omega arith) c.self.invariant.flight.numbered
    ∙ ap (λ (v : Seen). is_flying c.args.number v.state) c.self.view_is

pub returns-clause-writes : goal.returns-clause-writes
returns-clause-writes c =
    let i = c.self.inside in
    subst (λ (v : Seen). IfSome c.writes.result (λ (ws : Bor (List Write)). ws.now ≡ writes_of c.args.number v.state)) c.self.view_is
    (some_read c.writes.result (request_at c.args.number i.flight) (λ (ws : Bor (List Write)). ws.now) (λ (r : Request). r.writes.items) _ c.writes.ensures
    (found_seen i.flight.next i.flight.requests c.args.number c.self.invariant.flight.numbered))
