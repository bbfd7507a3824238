use Rattle.std.proofs.Common.{◌≡◌, refl, sym, ap, subst, Some, IsTrue, arith}
use Rattle.relay_http.specs.Connection.{Connection, ahead, is_open}
use Rattle.relay_http.specs.Request.{Request}
use Rattle.relay_http.specs.WrittenRequest.{request}
use Rattle.relay_wires.proofs.Results.{same_ok}
use Rattle.relay_loop.proofs.Messages.{request_there}
use Rattle.relay_loop.proofs.ends.request_body.Goals as goal

pub returns : goal.returns
returns c host body good size is =
    let was = same_ok _ c.read_request.result c.map_err.result c.in_ok-request.request c.map_err.ensures.cases c.in_ok-request.ensures.variant c.in_ok-request.was in
    let some : c.in_ok-request.request ≡ Some c.in_ok-ok_or.field-0 = grind arith in
    let lasts = subst (λ (k : Connection). IsTrue (is_open k.phase)) (sym c.in_ok-conn.ensures) refl in
    let stands = subst (λ (k : Connection). ahead k ≡ Some (request host body)) (sym c.in_ok-conn.ensures) (ap Some is) in
    let there = rw (was, some) at c.read_request.ensures.found (request host body) (request_there host body good size) lasts stands in
    ap (λ (r : Request). r.body) there.0
