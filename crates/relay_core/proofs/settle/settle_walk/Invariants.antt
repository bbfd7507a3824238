use Rattle.std.proofs.Common.{◌≡◌, ◌+◌, ◌≤◌, ◌++◌, ℕ, true, length, vec_capacity, vec_len}
use Rattle.std.specs.Prelude.{map}
use Rattle.std.specs.Vec.Iter.{into_iter_items}
use Rattle.relay_delivery.specs.Machine.{is_applied_fate, is_already_fate}
use Rattle.relay_core.specs.Walk.{allowed_at, report_of, kept_walk, reports_walk, successes_walk, tally_walk}
use Rattle.relay_core.specs.Memory.{Carries}
use Rattle.relay_core.specs.State.{config_of, is_reported_fate, is_retried_fate}
use Rattle.relay_core.proofs.settle.settle_walk.Given as goal

abbrev pub invariant-writes : goal.invariant-writes
invariant-writes l = record {
  clock : l.held.clock ≡ l.fn.held.clock;
  looks : l.held.looks ≡ l.fn.held.looks;
  carries : (p : ℕ) × Carries l.number p l.held.list (into_iter_items l.ahead);
  counted : (l.counts.applied + l.counts.already + l.counts.reported + l.counts.retried) + length (into_iter_items l.ahead) ≤ 65536;
  room : vec_len l.reports + length l.held.list ≤ vec_capacity l.reports;
  places : vec_len l.successes + length l.held.list ≤ vec_capacity l.successes;
  done : l.counts.applied + l.counts.already + length l.held.list ≤ length l.fn.held.list;
  more : vec_len l.fn.reports ≤ vec_len l.reports;
  matched : l.counts.matched ≡ true;
  held : kept_walk l.held.list (allowed_at (config_of l.config) l.clock) l.clock l.number l.whole (into_iter_items l.ahead) (into_iter_items l.left) ≡ kept_walk l.fn.held.list (allowed_at (config_of l.config) l.clock) l.clock l.number l.whole l.fn.writes.items l.fn.outcomes.items;
  reports : map report_of l.reports.items ++ reports_walk l.held.list (allowed_at (config_of l.config) l.clock) l.number l.whole (into_iter_items l.ahead) (into_iter_items l.left) ≡ map report_of l.fn.reports.items ++ reports_walk l.fn.held.list (allowed_at (config_of l.config) l.clock) l.number l.whole l.fn.writes.items l.fn.outcomes.items;
  successes : l.successes.items ++ successes_walk l.held.list (allowed_at (config_of l.config) l.clock) l.number l.whole (into_iter_items l.ahead) (into_iter_items l.left) ≡ l.fn.successes.items ++ successes_walk l.fn.held.list (allowed_at (config_of l.config) l.clock) l.number l.whole l.fn.writes.items l.fn.outcomes.items;
  applied : l.counts.applied + tally_walk is_applied_fate l.held.list (allowed_at (config_of l.config) l.clock) l.number l.whole (into_iter_items l.ahead) (into_iter_items l.left) ≡ tally_walk is_applied_fate l.fn.held.list (allowed_at (config_of l.config) l.clock) l.number l.whole l.fn.writes.items l.fn.outcomes.items;
  already : l.counts.already + tally_walk is_already_fate l.held.list (allowed_at (config_of l.config) l.clock) l.number l.whole (into_iter_items l.ahead) (into_iter_items l.left) ≡ tally_walk is_already_fate l.fn.held.list (allowed_at (config_of l.config) l.clock) l.number l.whole l.fn.writes.items l.fn.outcomes.items;
  reported : l.counts.reported + tally_walk is_reported_fate l.held.list (allowed_at (config_of l.config) l.clock) l.number l.whole (into_iter_items l.ahead) (into_iter_items l.left) ≡ tally_walk is_reported_fate l.fn.held.list (allowed_at (config_of l.config) l.clock) l.number l.whole l.fn.writes.items l.fn.outcomes.items;
  retried : l.counts.retried + tally_walk is_retried_fate l.held.list (allowed_at (config_of l.config) l.clock) l.number l.whole (into_iter_items l.ahead) (into_iter_items l.left) ≡ tally_walk is_retried_fate l.fn.held.list (allowed_at (config_of l.config) l.clock) l.number l.whole l.fn.writes.items l.fn.outcomes.items;
}

abbrev pub decreases-writes : goal.decreases-writes
decreases-writes l = length (into_iter_items l.ahead)
