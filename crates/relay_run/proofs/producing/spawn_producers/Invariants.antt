use Rattle.std.proofs.Common.{◌≡◌, ◌++◌, map}
use Rattle.std.specs.Vec.Iter.{into_iter_items, into_iter_len}
use Rattle.relay_ndjson.specs.Metadata.{bytes_given}
use Rattle.relay_run.specs.Handles.{given_to, all_given, telling_of}
use Rattle.relay_run.proofs.producing.spawn_producers.Given as goal

-- the threads were given the first producers and their readers, and the others are left
abbrev pub invariant-loop-producer : goal.invariant-loop-producer
invariant-loop-producer g l =
    (map given_to l.threads.items ++ all_given (bytes_given l.fn.index) (into_iter_items l.readers) (into_iter_items l.producer-iterator) ≡ all_given (bytes_given l.fn.index) l.fn.readers.items l.fn.producers.items)
    × (map telling_of l.threads.items ++ into_iter_items l.tellings ≡ l.fn.tellings.items)
    × (into_iter_len l.tellings ≡ into_iter_len l.producer-iterator)
