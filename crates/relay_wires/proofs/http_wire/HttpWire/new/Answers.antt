use Rattle.std.proofs.Common.{rules}
use Rattle.relay_wires.proofs.http_wire.HttpWire.new.Goals as goal

pub returns : goal.returns
returns g c = search rules
