use Rattle.std.proofs.Common.{◌≡◌, ◌++◌, map}
use Rattle.std.specs.Vec.Iter.{into_iter_items}
use Rattle.relay_run.specs.Handles.{telling_of}
use Rattle.relay_run.specs.Settling.{teller_of}
use Rattle.relay_run.proofs.Ending.{JoinsFed}
use Rattle.relay_run.proofs.producing.join_producers.Given as goal

-- the first threads have ended, and the others are left
abbrev pub invariant-loop-thread : goal.invariant-loop-thread
invariant-loop-thread g l = JoinsFed g.S.ByteStream.left g.S.ByteStream.failed l.fn.threads.items (into_iter_items l.thread-iterator) l.closed.items l.tellings.items l.faults.items
    × (map teller_of l.tellings.items ++ map teller_of (map telling_of (into_iter_items l.thread-iterator)) ≡ map teller_of (map telling_of l.fn.threads.items))
