use Rattle.std.proofs.Common.{◌≡◌, ◌++◌, map}
use Rattle.std.specs.Vec.Iter.{into_iter_items}
use Rattle.relay_serve.specs.Answering.{given_by, index_in}
use Rattle.relay_serve.specs.Workers.{given_to}
use Rattle.relay_serve.proofs.workers.spawn_workers.Given as goal

-- the threads were given the first producers, and the others are left
abbrev pub invariant-producers : goal.invariant-producers
invariant-producers g l =
    let given = given_by l.fn.options.face (index_in l.fn.options.index) in
    map given_to l.threads.items ++ map given (into_iter_items l.producer-iterator) ≡ map given l.fn.producers.items
