-- The channels of receipts of a relay, and their ends, from which nothing was taken and by which nothing was told.
use Rattle.std.specs.Prelude.{◌≡◌, ℕ, zero, suc, ◌+◌, false, List, [], ◌∷◌, ◌++◌, map}
use Rattle.relay_receipts.specs.Ends.{Channel, TakeEnd, fresh}
use Rattle.relay_telling.specs.declared.ending.Ending.{Ending}
use Rattle.relay_telling.specs.declared.lane_tells.ProducerTell.{ProducerTell}
use Rattle.relay_telling.specs.declared.lane_tells.LaneTells.{LaneTells}

-- the channels of the producers' ends
abbrev pub channels_of : List (TakeEnd Ending) → List (Channel Ending)
channels_of takes = map (λ (t : TakeEnd Ending). t.channel) takes

-- a producer's end, from which nothing was taken
abbrev pub new_take : ℕ → Channel Ending → TakeEnd Ending
new_take lanes channel = record { channel = channel; lanes = lanes; taken = [] }

-- a lane's end, by which nothing was told
abbrev pub new_end : ℕ → Channel Ending → ProducerTell
new_end lane channel = record { tell = fresh channel lane; gone = false }

-- the lanes from this one on have an end of each of these channels, in order
abbrev pub AreNewTells : List (Channel Ending) → ℕ → List LaneTells → Type 0
AreNewTells channels lane [] = Unit {0}
AreNewTells channels lane (t ∷ ts) = (t.ends.items ≡ map (new_end lane) channels) × AreNewTells channels (lane + 1) ts

-- of the lanes from this one on, the first have one more end, of this channel, and the others are as they were
abbrev pub FirstHave : Channel Ending → ℕ → ℕ → List LaneTells → List LaneTells → Type 0
FirstHave channel lane n [] [] = Unit {0}
FirstHave channel lane n [] (y ∷ ys) = ⊥
FirstHave channel lane n (x ∷ xs) [] = ⊥
FirstHave channel lane zero (x ∷ xs) (y ∷ ys) = (y.ends.items ≡ x.ends.items) × FirstHave channel (lane + 1) zero xs ys
FirstHave channel lane (suc n) (x ∷ xs) (y ∷ ys) = (y.ends.items ≡ x.ends.items ++ new_end lane channel ∷ []) × FirstHave channel (lane + 1) n xs ys
