use Rattle.std.proofs.Common.{vec_len}
use Rattle.relay_threads_tests.proofs.draining.put_and_close.Given as goal

abbrev pub decreases-loop-put : goal.decreases-loop-put
decreases-loop-put g l = vec_len l.puts
