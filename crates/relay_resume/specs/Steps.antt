-- For the steps of a trail: what it keeps, and how the mark moves.
use Rattle.std.specs.Prelude.{◌≡◌, ℕ, zero, suc, ◌+◌, ◌<◌, ◌^◌, Bool, true, false, List, [], ◌∷◌, length, Option, None, Some}
use Rattle.relay_resume.specs.declared.mark.Mark.{Mark}
use Rattle.relay_resume.specs.declared.mark.Place.{Place}
use Rattle.relay_resume.specs.Trails.{History, Follows, StartsOpen}
pub use Rattle.relay_resume.specs.Trails.{noted_at}

-- whether there is an operation, and the first one is settled
abbrev pub starts_settled : List Place → List Bool → Bool
starts_settled [] noted = false
starts_settled (p ∷ ps) noted = noted_at 0 noted

-- what a trail keeps after the operations that it passed: each later number has 64 bits
pub record IsKept (passed : ℕ) (ends : List Place) (noted : List Bool) : Type 0 where
  pub first : StartsOpen ends noted
  pub within : passed + length noted < 2 ^ 64

-- the same numbers are noted as settled
abbrev pub SameNoted : List Bool → List Bool → Type 0
SameNoted old new = (place : ℕ) → noted_at place new ≡ noted_at place old

-- the number at a place is noted as settled
abbrev pub note_at : ℕ → List Bool → List Bool
note_at place [] = []
note_at zero (b ∷ bs) = true ∷ bs
note_at (suc place) (b ∷ bs) = b ∷ note_at place bs

-- the first operation, a settled one, was taken out; or there is none, or it is not settled
abbrev pub PopsSettled : (old new : List Place) → (noted now : List Bool) → Option Place → Type 0
PopsSettled old new noted now (Some end) = (old ≡ end ∷ new) × (noted ≡ true ∷ now)
PopsSettled old new noted now None = StartsOpen old noted × (new ≡ old) × (now ≡ noted)

-- each history that the parts of a trail followed is followed by the new ones
abbrev pub KeepFollowing : (mark mark' : Mark) (passed passed' : ℕ) (ends ends' : List Place) (noted noted' : List Bool) → Type 0
KeepFollowing mark mark' passed passed' ends ends' noted noted' =
    (h : History) → Follows h (record { mark = mark; passed = passed; ends = ends; noted = noted })
    → Follows h (record { mark = mark'; passed = passed'; ends = ends'; noted = noted' })
