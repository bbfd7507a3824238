-- How many operations ended as applied, and how many as applied by an earlier request, according to the answers.
use Rattle.std.specs.Prelude.{◌≡◌, ℕ, ◌+◌, List, [], ◌∷◌, ◌++◌, is_some, Bool, ◌&&◌, nat_le, if◌then◌else◌}
use Rattle.relay_action.specs.Actions.{kind_of}
use Rattle.relay_action.specs.declared.write.Write.{Write}
use Rattle.relay_action.specs.declared.operation.Op.{Op}
use Rattle.relay_results.specs.declared.outcome.Outcome.{Outcome}
use Rattle.relay_results.specs.Words.{count, one_if}
use Rattle.relay_results.specs.Verdicts.{may_be_own, is_success, is_conflict}
use Rattle.relay_results.specs.Matching.{matches}
use Rattle.relay_results.specs.Outside.{Answer, Unanswered, Items, Whole, Lost, Request, stored_in, Outside}
use Rattle.relay_delivery.specs.Causes.{carries}
use Rattle.relay_delivery.specs.Machine.{Config, Core, CameAbout}
use Rattle.relay_delivery.specs.Lane.{State, Fits}

-- ---- the entry of a place

-- a test of an item: given how many requests carried its write, up to this one, the write, and its entry
abbrev pub PlaceTest : Type 0
PlaceTest = ℕ → Write → Outcome → Bool

-- the write was applied: 2xx, or 404 of a delete, and no error
abbrev pub says_applied : PlaceTest
says_applied sends w o = is_success (kind_of w.action) o.status (is_some o.error)

-- a conflict that may be with the write's own version, and at least two requests carried the write, including this one
abbrev pub says_already : PlaceTest
says_already sends w o = is_conflict o.status && (nat_le 2 sends && may_be_own (stored_in o.error) w.version)

-- ---- counted over the places of an answer, and over all requests

-- the number of items whose entry passes the test; `sent` are the requests up to this one
abbrev pub entries_that : PlaceTest → List Request → List Write → List Outcome → ℕ
entries_that test sent [] os = 0
entries_that test sent (w ∷ ws) [] = 0
entries_that test sent (w ∷ ws) (o ∷ os) = one_if (test (count (carries w) sent) w o) + entries_that test sent ws os

-- the number of such items in one answer; only an answer with matching entries has any
abbrev pub places_that : PlaceTest → List Request → List Write → Answer → ℕ
places_that test sent ws Unanswered = 0
places_that test sent ws (Items os) = if matches os ws then entries_that test sent ws os else 0
places_that test sent ws (Whole status reason) = 0
places_that test sent ws (Lost why) = 0

-- the number over all requests, in the order in which they were sent, given those that were sent before them
abbrev pub places_from : PlaceTest → List Request → List Request → ℕ
places_from test before [] = 0
places_from test before (q ∷ qs) = places_that test (before ++ q ∷ []) q.writes q.answer + places_from test (before ++ q ∷ []) qs

-- the number of items that were answered as applied
abbrev pub applied_answers : List Request → ℕ
applied_answers requests = places_from says_applied [] requests

-- the number of items that were answered with a conflict after at least two requests had carried the write, including
-- the answered one; sends are counted in the order of sending, in whatever order the answers arrived
abbrev pub settled_already : List Request → ℕ
settled_already requests = places_from says_already [] requests

-- ---- the laws

-- in every reachable state, a lane's counts are those of the answers to its requests
abbrev pub CountsAlways : Type 0
CountsAlways =
    (g : Config) (c : Core) → CameAbout g c →
    (c.applied ≡ applied_answers c.outside.requests) × (c.already ≡ settled_already c.outside.requests)

abbrev pub CountsWhereItFits : Type 0
CountsWhereItFits =
    (s : State) (taken : List Op) (out : Outside) → Fits s taken out →
    (s.applied ≡ applied_answers out.requests) × (s.already ≡ settled_already out.requests)
