-- Where a lane tells.
use Rattle.std.specs.Prelude.{◌≡◌, ℕ, ◌+◌, List, [], ◌∷◌, map}
use Rattle.relay_receipts.specs.Ends.{Channel}
use Rattle.relay_telling.specs.declared.ending.Ending.{Ending}
use Rattle.relay_telling.specs.declared.lane_tells.ProducerTell.{ProducerTell}
use Rattle.relay_telling.specs.declared.lane_tells.LaneTells.{LaneTells}

-- the channel of an end, and the lane that it is the end of
abbrev pub identity : ProducerTell → Channel Ending × ℕ
identity end = (end.tell.channel, end.tell.lane)

abbrev pub identities : List ProducerTell → List (Channel Ending × ℕ)
identities ends = map identity ends

-- the ends that a lane has of these channels
abbrev pub ends_of : ℕ → List (Channel Ending) → List (Channel Ending × ℕ)
ends_of lane channels = map (λ c. (c, lane)) channels

-- the lanes from this one on tell by their ends of these channels, in order
abbrev pub TellOn : List (Channel Ending) → ℕ → List LaneTells → Type 0
TellOn channels lane [] = Unit {0}
TellOn channels lane (t ∷ ts) = (identities t.ends.items ≡ ends_of lane channels) × TellOn channels (lane + 1) ts
