-- What a lane says to a producer, and what one lane said among the notices of several.
use Rattle.std.specs.Prelude.{◌≡◌, ℕ, ◌==◌, ◌≤◌, Bool, true, false, if◌then◌else◌, List, [], ◌∷◌, ◌++◌, Option, Some, None, map}
use Rattle.relay_receipts.specs.declared.notice.Notice.{Notice}

module _ {T : Type 0} where
  -- what the notices of one lane say, in order
  abbrev pub said_by : ℕ → List (Notice T) → List (Option T)
  said_by lane [] = []
  said_by lane (n ∷ ns) = if n.lane == lane then n.told ∷ said_by lane ns else said_by lane ns

  -- what a lane says that told these endings: each of them, in order, and if it has closed, that it tells no more
  abbrev pub says : List T → Bool → List (Option T)
  says told false = map Some told
  says told true = map Some told ++ None ∷ []

  -- a lane that has told something, and may have closed, said exactly this
  abbrev pub IsSaid : List (Option T) → Type 0
  IsSaid said = (told : List T) × (closed : Bool) × (said ≡ says told closed)

  -- what may have been taken from this many lanes: from each, what a lane may have said, and nothing from any other
  pub record IsWellTaken (lanes : ℕ) (taken : List (Notice T)) : Type 0 where
    pub each : (lane : ℕ) → IsSaid (said_by lane taken)
    pub no_other : (lane : ℕ) → lanes ≤ lane → said_by lane taken ≡ []

  -- the last notice of this lane is one of these
  abbrev pub HasLast : List (Option T) → Type 0
  HasLast [] = ⊥
  HasLast (None ∷ said) = Unit {0}
  HasLast (Some x ∷ said) = HasLast said
