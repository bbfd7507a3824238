use Rattle.std.specs.Prelude.{◌≡◌}
use Rattle.relay_clients.proofs.room.Held.grow.Given as goal

-- nothing is taken yet
abbrev pub invariant-loop : goal.invariant-loop
invariant-loop l = (l.self-inside.counts ≡ l.initial.self-inside.counts) × (l.self-inside.seat.table_id ≡ l.initial.self-inside.seat.table_id) × (l.self-inside.seat.me.0 ≡ l.initial.self-inside.seat.me.0) × (l.self-inside.bytes ≡ l.initial.self-inside.bytes) × (l.self-inside.is_beyond ≡ l.initial.self-inside.is_beyond)
