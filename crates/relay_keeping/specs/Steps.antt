-- For the steps of a keeper: the trails of its inputs.
use Rattle.std.specs.Prelude.{◌≡◌, ℕ, ◌==◌, if◌then◌else◌, List, ◌++◌, Some, map, slice_get}
use Rattle.relay_action.specs.declared.operation.OpName.{OpName}
use Rattle.relay_resume.specs.declared.mark.Mark.{Mark}
use Rattle.relay_resume.specs.declared.mark.Place.{Place}
use Rattle.relay_resume.specs.Trails.{History, IsOf}
use Rattle.relay_receipts.specs.declared.notice.Notice.{Notice}
use Rattle.relay_receipts.specs.Notices.{said_by}
use Rattle.relay_keeping.specs.declared.told.Told.{Told}
use Rattle.relay_keeping.specs.declared.trails.Followed.{Followed}
use Rattle.relay_keeping.specs.Histories.{names_in, numbers_of, places_in, said_in}

-- these operations were put besides, in order
abbrev pub and_puts : List Place → History → History
and_puts ends h = record h { puts = h.puts ++ ends }

-- the places by producer, with these besides for one of them
abbrev pub with_puts : (ℕ → List Place) → ℕ → List Place → ℕ → List Place
with_puts puts producer ends p = if p == producer then puts p ++ ends else puts p

-- the trail of each input is that of the history to which these places were put, by producer, and in which the
-- operations with these names are settled
abbrev pub AreTrails : (ℕ → List Place) → List OpName → List Followed → Type 0
AreTrails puts names inputs =
    (p : ℕ) (f : Followed) → slice_get inputs p ≡ Some f
    → IsOf (record { start = f.start; puts = puts p; settled = numbers_of p names }) f.trail

-- the trail of each input is that of the history that these notices make
abbrev pub FollowAll : List (Notice Told) → List Followed → Type 0
FollowAll taken inputs = AreTrails (λ p. places_in (said_by p taken)) (names_in (said_in taken)) inputs

-- where the inputs are read from
abbrev pub starts_of : List Followed → List Mark
starts_of inputs = map (λ (f : Followed). f.start) inputs
