use Rattle.std.proofs.Common.{◌≡◌, ℕ, vec_len}
use Rattle.relay_telling.specs.Destinations.{identities}
use Rattle.relay_telling.specs.Shown.{shown_at}
use Rattle.relay_telling.proofs.lane_tells.LaneTellsTell.ended.Given as goal

abbrev pub invariant-loop-producer : goal.invariant-loop-producer
invariant-loop-producer g l = record {
  len : vec_len l.self.ends ≡ vec_len l.fn.self.ends;
  shown : (p : ℕ) → shown_at l.self.ends.items p ≡ shown_at l.fn.self.ends.items p;
  same : identities l.self.ends.items ≡ identities l.fn.self.ends.items;
}
