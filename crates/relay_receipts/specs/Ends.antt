-- The ends of a channel of receipts, as contracts see them.
use Rattle.std.specs.Prelude.{ℕ, zero, suc, Bool, false, List, [], ◌∷◌, ◌++◌}
use Rattle.crossbeam_channel.specs.Claims.{Pass}
use Rattle.crossbeam_channel.specs.declared.flavors.array.Key.{Key}
use Rattle.atomic_table.specs.Seated.{TableId}
use Rattle.atomic_table.specs.declared.badge.Badge.{Badge}
use Rattle.relay_receipts.specs.declared.notice.Notice.{Notice}
use Rattle.relay_receipts.specs.declared.rule.Knowledge.{Knowledge}

-- a channel: its identity
pub record Channel (T : Type 0) : Type 0 where
  pub table : TableId
  pub keys : Badge (Key (Notice T))

-- a lane's end: its channel, the lane, what it told, and whether the channel took its last notice
pub record TellEnd (T : Type 0) : Type 0 where
  pub channel : Channel T
  pub lane : ℕ
  pub told : List T
  pub closed : Bool

-- the producer's end: its channel, the number of lanes, and what was taken
pub record TakeEnd (T : Type 0) : Type 0 where
  pub channel : Channel T
  pub lanes : ℕ
  pub taken : List (Notice T)

module _ {T : Type 0} where
  -- the channel of a pass
  abbrev pub channel_of : Pass (Notice T) (Knowledge T) → Channel T
  channel_of pass = record { table = pass.table_id; keys = pass.me.0.of }

  -- the end of a lane that told nothing
  abbrev pub fresh : Channel T → ℕ → TellEnd T
  fresh channel lane = record { channel = channel; lane = lane; told = []; closed = false }

  -- the ends of the lanes 0 to n - 1, which told nothing
  abbrev pub fresh_tells : Channel T → ℕ → List (TellEnd T)
  fresh_tells channel zero = []
  fresh_tells channel (suc n) = fresh_tells channel n ++ fresh channel n ∷ []
