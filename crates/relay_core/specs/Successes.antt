-- Which operations an answer ends as applied, and what is noted of each.
use Rattle.std.specs.Prelude.{ℕ, List, [], ◌∷◌, ◌++◌, Option, Some, None, option_map, slice_get, if◌then◌else◌}
use Rattle.relay_action.specs.declared.write.Write.{Write}
use Rattle.relay_results.specs.declared.outcome.Outcome.{Outcome}
use Rattle.relay_results.specs.Documents.{name_of}
use Rattle.relay_results.specs.Matching.{matches}
use Rattle.relay_results.specs.Outside.{Answer, Unanswered, Items, Whole, Lost}
use Rattle.relay_results.specs.Fates.{Fate, Flies, Applied, Already, Retried, Halved, Reported}
use Rattle.relay_delivery.specs.Machine.{Place, Held, fate_of}
use Rattle.relay_core.specs.declared.success.Success.{Success}

-- the status of the entry at a place, if the answer has entries that match
abbrev pub status_at : List Write → Answer → ℕ → Option ℕ
status_at ws Unanswered p = None
status_at ws (Items os) p = if matches os ws then option_map (λ (o : Outcome). o.status) (slice_get os p) else None
status_at ws (Whole status reason) p = None
status_at ws (Lost why) p = None

-- the status of the entry of an operation, if it is in flight
abbrev pub status_of : List Write → Answer → Option Place → Option ℕ
status_of ws a None = None
status_of ws a (Some f) = status_at ws a f.place

-- what is noted of an operation with this fate, if it ended as applied; the status of the entry is noted only if the
-- answered request applied it
abbrev pub success_of : Fate → Option ℕ → Held → List Success
success_of Flies status h = []
success_of Applied status h = record { name = name_of h.op; version = h.version; status = status } ∷ []
success_of Already status h = record { name = name_of h.op; version = h.version; status = None } ∷ []
success_of Retried status h = []
success_of (Halved cap) status h = []
success_of (Reported cause) status h = []

abbrev pub successes_from : (ℕ → ℕ) → ℕ → List Write → Answer → List Held → List Success
successes_from allowed number ws a [] = []
successes_from allowed number ws a (h ∷ hs) = success_of (fate_of allowed number ws a h h.flies) (status_of ws a h.flies) h ++ successes_from allowed number ws a hs
