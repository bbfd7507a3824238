-- What a valid config says of its lanes.
use Rattle.std.proofs.Common.{◌≡◌, ◌≤◌, ℕ, true}
use Rattle.std.specs.Prelude.{nat_le}
use borrow.Author.Tests.{leb-true}
use Rattle.relay_results.proofs.Lists.{and_left, and_right}
use Rattle.relay_core.specs.declared.config.RelayConfig.{RelayConfig}
use Rattle.relay_core.specs.Limits.{is_valid, is_from_to}
use Rattle.relay_serve.specs.Configs.{config_in}

-- there are at most 8
pub lanes_within : (epoch : ℕ) (c : RelayConfig) → is_valid (config_in epoch c) ≡ true → c.lanes ≤ 8
lanes_within epoch c h = leb-true _ _ (and_right (nat_le 1 c.lanes) _ (and_left (is_from_to 1 8 c.lanes) _ h))
