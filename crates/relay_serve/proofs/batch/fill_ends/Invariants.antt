use Rattle.std.proofs.Common.{◌≡◌, List, ◌++◌, vec_capacity, vec_len}
use Rattle.relay_front.specs.declared.ending.End.{End}
use Rattle.relay_serve.specs.Settling.{AreAll}
use Rattle.relay_serve.proofs.batch.fill_ends.Given as goal

abbrev pub invariant-places : goal.invariant-places
invariant-places l = record {
  len : vec_len l.ends ≡ l.place;
  filled : (rest : List End) × (l.ends.items ≡ l.fn.ends.items ++ rest) × AreAll l.fn.end rest;
  room : vec_capacity l.ends ≡ vec_capacity l.fn.ends;
}
