use Rattle.relay_sift.proofs.Sifting.{stays}
use Rattle.relay_sift.proofs.sifted.Sifted.prepare.Goals as goal

pub steps-init : goal.steps-init
steps-init g c = stays c.args.self.now
