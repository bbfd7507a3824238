use Rattle.relay_serve.specs.Batches.{KeepsPlaces}
use Rattle.relay_serve.specs.Putting.{Hears}
use Rattle.relay_serve.specs.Settling.{Stays}
use Rattle.relay_serve.proofs.settler.Settler.hear_all.Given as goal

abbrev pub invariant-notices : goal.invariant-notices
invariant-notices g l = record {
  stays : Stays l.fn.self.producer l.self.producer;
  keeps : KeepsPlaces l.fn.batch l.batch;
  hears : Hears l.fn.self.producer l.self.producer l.fn.batch l.batch;
}
