-- The places that the thread of a producer told.
use Rattle.std.specs.Prelude.{◌≡◌, true, List, [], ◌∷◌, ◌++◌}
use Rattle.relay_resume.specs.declared.mark.Mark.{Mark}
use Rattle.relay_resume.specs.declared.mark.Place.{Place}
use Rattle.relay_keeping.specs.Tellers.{InputState, places_of, seat}
use Rattle.relay_run.specs.Settling.{Seat, Tellings}

-- these places are the first of all
abbrev pub AreFirst : (first all : List Place) → Type 0
AreFirst first all = (later : List Place) × (all ≡ first ++ later)

-- A producer told the first of the places that it was given, and all of them, unless something failed.
pub record IsTold (v : InputState) (places : List Place) : Type 0 where
  pub first : AreFirst (places_of v) places
  pub all : v.is_whole ≡ true → places ≡ places_of v

-- by which end a producer tells, and of an input that is read from where
abbrev pub input_teller : InputState → Seat × Mark
input_teller v = (seat v.end, v.start)

-- nothing was told by these ends
abbrev pub AreNewTellings : List InputState → Type 0
AreNewTellings [] = Unit {0}
AreNewTellings (v ∷ vs) = (places_of v ≡ []) × AreNewTellings vs

-- nor by these
abbrev pub AllUntold : List Tellings → Type 0
AllUntold [] = Unit {0}
AllUntold (t ∷ ts) = (t.places ≡ []) × AllUntold ts
