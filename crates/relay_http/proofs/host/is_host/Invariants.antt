use Rattle.std.proofs.Common.{◌≡◌, take}
use Rattle.std.specs.List.{list_all}
use Rattle.relay_http.specs.WrittenRequest.{is_visible}
use Rattle.relay_http.proofs.host.is_host.Given as goal

abbrev pub invariant-loop-b : goal.invariant-loop-b
invariant-loop-b l = l.visible ≡ list_all is_visible (take l.b-index l.host)
