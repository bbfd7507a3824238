-- The config of a server's lanes.
use Rattle.std.specs.Prelude.{ℕ, ◌+◌, ◌*◌, ◌/◌, max, min}
use Rattle.relay_core.specs.declared.config.RelayConfig.{RelayConfig}

-- the number of operations that each of so many workers may have open: 1,024, and at most 65,000 in all, but at least one
abbrev pub window_of : ℕ → ℕ
window_of workers = max (min 1024 (65000 / max workers 1)) 1

-- A queue has room for all open operations and 16 messages more, so that no put waits for a lane, and a lane holds as many
-- operations as it can.
abbrev pub config_in : ℕ → RelayConfig → RelayConfig
config_in epoch c = record c { capacity = min (window_of c.producers * c.producers + 16) 65536; max_held = 65536; epoch = epoch }
