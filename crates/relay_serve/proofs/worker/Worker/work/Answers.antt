use Rattle.std.proofs.Common.{◌∙◌, refl, subst}
use Rattle.relay_serve.specs.Answering.{GoesOn, begun}
use Rattle.relay_serve.specs.Remembering.{reached}
use Rattle.relay_serve.proofs.Serving.{served_begun, served_identity, served_took}
use Rattle.relay_serve.proofs.worker.Worker.work.Goals as goal

pub returns : goal.returns
returns g c =
    let old = c.args.self.settler.producer in
    let first = c.new-service.result in
    let service = c.serve_all.new.service in
    let last = reached service.front service.spoken in
    let face = c.args.self.settings.face in
    let from = served_begun first.front _ first.spoken last c.new-service.ensures.front c.new-service.ensures.given c.new-service.ensures.repeated c.serve_all.ensures in
    let served = subst (λ index. GoesOn face index (begun old) last) c.as_deref.ensures.value from in
    record {
      last = last;
      served = served;
      closes = c.close-producer.ensures.closes;
      same = c.close-producer.ensures.same;
      identity = c.close-producer.ensures.identity ∙ served_identity face _ (begun old) last served;
      took = c.close-producer.ensures.receipts ∙ served_took face _ (begun old) last served;
      says = (refl, refl);
    }
