-- The limits of a config.
use Rattle.std.specs.Prelude.{ℕ, Option, Some, None, Bool, true, ◌&&◌, ◌||◌, ◌==◌, nat_le}
use Rattle.relay_batch.specs.declared.item.Limits.{Limits}
use Rattle.relay_core.specs.declared.config.RelayConfig.{RelayConfig}

abbrev pub is_from_to : ℕ → ℕ → ℕ → Bool
is_from_to least most n = nat_le least n && nat_le n most

-- the limits of a batch are valid: the maximum number of items and bytes, and of ticks for which it waits to be filled
abbrev pub are_valid_limits : Limits → Bool
are_valid_limits l = is_from_to 1 10000 l.count && (is_from_to 1024 16777216 l.bytes && nat_le l.linger 65535)

-- a limit of the attempts; 2,097,152 stands for none
abbrev pub are_attempts : ℕ → Bool
are_attempts n = is_from_to 1 32 n || (n == 2097152)

-- the age after which an operation is given up, if there is one: at most a week, in ticks
abbrev pub is_age : Option ℕ → Bool
is_age None = true
is_age (Some ticks) = is_from_to 1 6048000 ticks

-- each number is within its limits
abbrev pub is_valid : RelayConfig → Bool
is_valid c =
    is_from_to 1 8 c.lanes
    && (is_from_to 1 256 c.producers
    && (is_from_to 1 65536 c.capacity
    && (is_from_to 1 65536 c.max_held
    && (are_valid_limits c.limits
    && (are_attempts c.attempts
    && (is_age c.give_up_after
    && (is_from_to 1 8 c.in_flight
    && (nat_le c.epoch 4194303
    && is_from_to 1 1099511627775 c.deal))))))))
