use Rattle.std.proofs.Common.{◌≡◌, List, Some, None, Bor, sym, ap, ◌∙◌}
use Rattle.std.specs.Prelude.{option_map}
use Rattle.relay_action.specs.declared.write.Write.{Write}
use Rattle.relay_flight.specs.declared.request.Request.{Request}
use Rattle.relay_flight.specs.InFlight.{request_at}
use Rattle.relay_flight.proofs.Numbers.{Lacks-position, find-Lacks, find-position}
use Rattle.relay_flight.proofs.flight.Flight.writes.Goals as goal

pub returns-in_err-at : goal.returns-in_err-at
returns-in_err-at c =
    let found : request_at c.args.number c.args.self.now ≡ None = find-Lacks c.args.number _ (Lacks-position c.args.number c.args.self.now.requests (sym c.place.ensures ∙ c.in_err-at.was)) in
    let none : c.from_residual.result ≡ None = cc in
    ap (option_map (λ (ws : Bor (List Write)). ws.now)) none ∙ sym (ap (option_map (λ (r : Request). r.writes.items)) found)

pub returns : goal.returns
returns c =
    let found = find-position c.args.number c.args.self.now.requests c.in_ok-at.at c.index.result.now (sym c.place.ensures ∙ c.in_ok-at.was) in
    let one : Some c.index.result.now ≡ request_at c.args.number c.args.self.now = cc in
    ap Some c.as_slice.ensures.value ∙ ap (option_map (λ (r : Request). r.writes.items)) one
