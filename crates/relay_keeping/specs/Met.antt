-- For the steps of meeting: what the ends of all producers, and those of all lanes, told.
use Rattle.std.specs.Prelude.{◌≡◌, List, [], ◌∷◌}
use Rattle.relay_keeping.specs.Histories.{names_in}
use Rattle.relay_keeping.specs.Tellers.{InputState, LaneState, TellsOnly, said_at}

-- no producer told operations as settled
abbrev pub AllPutOnly : List InputState → Type 0
AllPutOnly [] = Unit {0}
AllPutOnly (v ∷ vs) = (names_in (said_at v.end) ≡ []) × AllPutOnly vs

-- each lane told only what it was given
abbrev pub AllTellOnly : List LaneState → Type 0
AllTellOnly [] = Unit {0}
AllTellOnly (v ∷ vs) = TellsOnly v × AllTellOnly vs
