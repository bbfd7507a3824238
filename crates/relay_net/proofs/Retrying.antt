-- A dial that tries again.
use Rattle.std.proofs.Common.{◌≡◌, ℕ, ◌+◌, ◌*◌, ◌<◌, ◌≤◌, true, false, arith, rules}
use Rattle.std.specs.Prelude.{min}
use Rattle.std.specs.Duration.{max_nanos}
use Rattle.relay_action.specs.Streams.{most, one_more}
use Rattle.relay_clock.specs.Timing.{Timing}
use Rattle.relay_net.specs.Retrying.{second, Retried}

calls_more : (n before now next : ℕ) → now ≡ min (before + (n + 1)) most → next ≡ one_more now → next ≡ min (before + (n + 1 + 1)) most
calls_more n before now next is more = omega (arith, is, more)

slept_more : (n old was new : ℕ) → (old + n * second ≤ max_nanos → was ≡ old + n * second) → new ≡ min (was + second) max_nanos
    → old + (n + 1) * second ≤ max_nanos → new ≡ old + (n + 1) * second
slept_more n old was new before more fits =
    let fitted : old + n * second ≤ max_nanos = omega (arith, fits) in
    let is = before fitted in
    omega (arith, is, more, fits)

pub tried_again : (patience n before now next : ℕ) (old was new : Timing) (start : ℕ) → n < patience
    → now ≡ min (before + (n + 1)) most → next ≡ one_more now
    → (old.slept + n * second ≤ max_nanos → was.slept ≡ old.slept + n * second) → new.slept ≡ min (was.slept + second) max_nanos
    → old.time ≤ start → Retried patience false before next old new
tried_again patience n before now next old was new start allowed calls call slept sleep later = record {
  retries = n + 1;
  allowed = omega (arith, allowed);
  dialled = calls_more n before now next calls call;
  slept = slept_more n old.slept was.slept new.slept slept sleep;
  start = start;
  later = later;
  gave_up = λ no_failure. search rules;
}

pub tries_are_over : (patience n before now : ℕ) (old new : Timing) (start : ℕ) → n ≤ patience → now ≡ min (before + (n + 1)) most
    → (old.slept + n * second ≤ max_nanos → new.slept ≡ old.slept + n * second) → old.time ≤ start
    → (n < patience → start + patience * second ≤ new.time) → Retried patience true before now old new
tries_are_over patience n before now old new start allowed calls slept later over = record {
  retries = n;
  allowed = allowed;
  dialled = calls;
  slept = slept;
  start = start;
  later = later;
  gave_up = λ failed. over;
}
