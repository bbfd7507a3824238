use Rattle.std.proofs.Common.{◌≡◌, ℕ, take}
use Rattle.relay_threads.specs.Told.{AddsApplied}
use Rattle.relay_telling.specs.Destinations.{identities}
use Rattle.relay_telling.specs.Shown.{shown_at}
use Rattle.relay_telling.proofs.lane_tells.LaneTellsTell.applied.Given as goal

abbrev pub invariant-loop-success : goal.invariant-loop-success
invariant-loop-success g l = record {
  told : (p : ℕ) → AddsApplied p (take l.success-index l.successes) (shown_at l.fn.self.ends.items p) (shown_at l.self.ends.items p);
  same : identities l.self.ends.items ≡ identities l.fn.self.ends.items;
}
