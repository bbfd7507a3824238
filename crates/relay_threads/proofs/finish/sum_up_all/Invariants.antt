use Rattle.std.proofs.Common.{map, vec_len}
use Rattle.relay_threads.proofs.Summing.{SumsOn}
use Rattle.relay_threads.proofs.finish.sum_up_all.Given as goal

abbrev pub invariant-loop-end : goal.invariant-loop-end
invariant-loop-end g l = SumsOn (vec_len l.fn.rows) (map (λ r. r.items) l.fn.rows.items) (map (λ r. r.items) l.rows.items) l.fn.ends.items l.ends.items l.all.items

abbrev pub decreases-loop-end : goal.decreases-loop-end
decreases-loop-end g l = vec_len l.ends
