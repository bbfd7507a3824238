use Rattle.std.proofs.Common.{◌≡◌, map, vec_len}
use Rattle.relay_threads.proofs.Popping.{PopsOn}
use Rattle.relay_threads.proofs.rows.pop_each.Given as goal

abbrev pub invariant-loop-i : goal.invariant-loop-i
invariant-loop-i g l = record {
  len : vec_len l.rows ≡ vec_len l.fn.rows;
  pops : PopsOn (map (λ r. r.items) l.fn.rows.items) (map (λ r. r.items) l.rows.items) l.lasts.items l.i;
}
