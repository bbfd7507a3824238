use Rattle.relay_serve.proofs.Putting.{hears_on}
use Rattle.relay_serve.proofs.Staying.{stays_on, keeps_on}
use Rattle.relay_serve.proofs.settler.Settler.hear_all.Goals as goal

pub returns-then-not-hear-clause-hears : goal.returns-then-not-hear-clause-hears
returns-then-not-hear-clause-hears g c =
    hears_on c.args.self.now.producer c.notices.self.producer c.hear.new.self.producer c.args.batch.now c.notices.batch c.hear.new.batch c.notices.invariant.hears c.hear.ensures.hears

pub notices-preserved : goal.notices-preserved
notices-preserved g c =
    let i = c.notices.invariant in
    record {
      stays = stays_on _ _ _ i.stays c.hear.ensures.stays;
      keeps = keeps_on _ _ _ i.keeps c.hear.ensures.keeps;
      hears = hears_on c.args.self.now.producer c.notices.self.producer c.hear.new.self.producer c.args.batch.now c.notices.batch c.hear.new.batch i.hears c.hear.ensures.hears;
    }
