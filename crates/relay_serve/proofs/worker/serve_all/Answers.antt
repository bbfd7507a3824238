use Rattle.std.proofs.Common.{refl, ap, ◌∙◌}
use Rattle.relay_ndjson.specs.Metadata.{bytes_given}
use Rattle.relay_serve.proofs.Serving.{goes_nowhere, goes_on_as}
use Rattle.relay_serve.proofs.worker.serve_all.Goals as goal

pub clients-init : goal.clients-init
clients-init g c = record { face = refl; index = refl; on = goes_nowhere _ _ _ }

pub clients-preserved : goal.clients-preserved
clients-preserved g c =
    let i = c.clients.invariant in
    record {
      face = c.serve_next.ensures.front.0 ∙ i.face;
      index = c.serve_next.ensures.front.1 ∙ i.index;
      on = goes_on_as _ _ _ _ _ _ _ i.face (ap bytes_given i.index) i.on c.serve_next.ensures.on;
    }

pub returns-then-serve_next : goal.returns-then-serve_next
returns-then-serve_next g c =
    let i = c.clients.invariant in
    goes_on_as _ _ _ _ _ _ _ i.face (ap bytes_given i.index) i.on c.serve_next.ensures.on
