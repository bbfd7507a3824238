use Rattle.std.proofs.Common.{◌≡◌}
use Rattle.relay_ndjson.specs.Metadata.{bytes_given}
use Rattle.relay_serve.specs.Answering.{GoesOn}
use Rattle.relay_serve.specs.Remembering.{reached}
use Rattle.relay_serve.proofs.worker.serve_all.Given as goal

-- connections were served so far, and the front keeps its face and its index
abbrev pub invariant-clients : goal.invariant-clients
invariant-clients g l = record {
  face : l.service.front.face ≡ l.fn.service.front.face;
  index : l.service.front.index ≡ l.fn.service.front.index;
  on : GoesOn l.fn.service.front.face (bytes_given l.fn.service.front.index) (reached l.fn.service.front l.fn.service.spoken) (reached l.service.front l.service.spoken);
}
