-- The held list in memory, and the walks over it.
pub use Rattle.relay_held.specs.Operations.{waits_here, more, launch_one, back_at, halved_at}
pub use Rattle.relay_held.specs.Queues.{with_first, without_first, first_of, OnlyFirstsFly, is_of, is_later_kept, is_candidate_kept, is_eligible_kept, first_due_kept}
use Rattle.std.specs.Prelude.{ℕ, zero, suc, ◌+◌, List, [], ◌∷◌, ◌++◌, Option, Some, None, option_map, Bool, true, false, ◌&&◌, ◌==◌, drop, filter, map, slice_get, option_to_list, if◌then◌else◌}
use Rattle.relay_action.specs.declared.write.Write.{Write}
use Rattle.relay_batch.specs.declared.item.BatchItem.{BatchItem}
use Rattle.relay_results.specs.declared.outcome.Outcome.{Outcome}
use Rattle.relay_results.specs.Documents.{document_of}
use Rattle.relay_results.specs.Fates.{fate_of_entry}
use Rattle.relay_results.specs.Fates as of
use Rattle.relay_delivery.specs.Machine as machine
use Rattle.relay_delivery.specs.Lane.{backoff, has_age}
use Rattle.relay_results.specs.declared.cause.Cause.{Cause}
use Rattle.relay_results.specs.declared.cause.Cause.TheVariants as cause
use Rattle.relay_results.specs.declared.cause.LastTry.{LastTry}
use Rattle.relay_held.specs.declared.kept.Kept.{Kept}
use Rattle.relay_held.specs.declared.kept.Spot.{Spot}
use Rattle.relay_held.specs.declared.kept.Candidate.{Candidate}
use Rattle.relay_core.specs.declared.fates.Fate.{Fate}
use Rattle.relay_core.specs.declared.fates.Fate.TheVariants as code
use Rattle.relay_core.specs.declared.fates.Way.{Way}
use Rattle.relay_core.specs.declared.fates.Way.TheVariants as way
use Rattle.relay_core.specs.declared.report.Report.{Report}
use Rattle.relay_core.specs.declared.success.Success.{Success}

abbrev pub flies_here : ℕ → Option Spot → Bool
flies_here number None = false
flies_here number (Some s) = s.request == number

abbrev pub item_of_kept : Kept → BatchItem
item_of_kept h = record { name = h.name; doc = h.version; version = h.version; bytes = h.bytes; cap = h.cap; taken_at = h.taken_at }

abbrev pub item_of_candidate : Candidate → BatchItem
item_of_candidate c = record { name = c.name; doc = c.version; version = c.version; bytes = c.bytes; cap = c.cap; taken_at = c.taken_at }

abbrev pub items_of_kept : List Kept → ℕ → List Kept → List BatchItem
items_of_kept hs clock rest = map item_of_kept (filter (is_candidate_kept hs clock) rest)

-- ---- a batch is sent

abbrev pub is_next : List BatchItem → Kept → Bool
is_next [] h = false
is_next (i ∷ is) h = (h.version == i.version) && waits_here h.flies

abbrev pub launched_kept : ℕ → List Kept → ℕ → ℕ → List BatchItem → List Kept
launched_kept clock [] number place is = []
launched_kept clock (h ∷ hs) number place is =
    if is_next is h then launch_one clock number place h ∷ launched_kept clock hs number (place + 1) (drop 1 is) else h ∷ launched_kept clock hs number place is

abbrev pub freight : List Kept → List BatchItem → List Write
freight [] is = []
freight (h ∷ hs) is = if is_next is h then option_to_list h.write ++ freight hs (drop 1 is) else freight hs is

-- ---- an answer arrives

-- the tries that an operation has that was first sent then
abbrev pub tries_since : machine.Config → ℕ → ℕ → ℕ
tries_since g clock since = if has_age g.age clock since then machine.fewest g else g.max

abbrev pub allowed_at : machine.Config → ℕ → Kept → ℕ
allowed_at g clock h = tries_since g clock h.since

-- the fate by the status of the whole request, without its reason, or else by the operation's entry
abbrev pub fate_or : Way → (LastTry → of.Fate) → of.Fate
fate_or (way.ByEntry tried) f = f tried
fate_or (way.Reported status) f = of.Reported (cause.Request status None)
fate_or (way.Halved cap) f = of.Halved cap

-- the fate in the definitions that corresponds to one in the code
abbrev pub said : Fate → of.Fate
said code.Applied = of.Applied
said code.Already = of.Already
said code.Retried = of.Retried
said (code.Halved cap) = of.Halved cap
said (code.Reported c) = of.Reported c

abbrev pub report_of : Report → machine.Report
report_of r = record { name = r.name; document = document_of r.key; cause = r.cause }

-- a cause with this reason, if it is the status of a whole request
abbrev pub with_reason : Option (List ℕ) → Cause → Cause
with_reason given (cause.Refused status kind reason) = cause.Refused status kind reason
with_reason given (cause.Request status reason) = cause.Request status given
with_reason given (cause.Conflict stored reason) = cause.Conflict stored reason
with_reason given (cause.GaveUp sends tried) = cause.GaveUp sends tried
with_reason given cause.Spent = cause.Spent

-- the report at a place has this reason
abbrev pub explained : ℕ → Option (List ℕ) → List machine.Report → List machine.Report
explained place given [] = []
explained zero given (r ∷ rs) = record r { cause = with_reason given r.cause } ∷ rs
explained (suc place) given (r ∷ rs) = r ∷ explained place given rs

abbrev pub fate_met : (Kept → ℕ) → Way → Kept → List Outcome → of.Fate
fate_met allowed whole h os = fate_or whole (fate_of_entry (record { version = h.version; sends = h.sends; attempts = h.attempts; max = allowed h }) h.kind (slice_get os 0))

abbrev pub stays : of.Fate → Bool
stays of.Flies = true
stays of.Applied = false
stays of.Already = false
stays of.Retried = true
stays (of.Halved cap) = true
stays (of.Reported c) = false

abbrev pub back : ℕ → Write → Kept → Kept
back clock w h = record h { flies = None; due = backoff clock h.attempts; write = Some w }

abbrev pub met_one : ℕ → of.Fate → Write → Kept → Kept
met_one clock of.Flies w h = h
met_one clock of.Applied w h = h
met_one clock of.Already w h = h
met_one clock of.Retried w h = back clock w h
met_one clock (of.Halved cap) w h = halved_at clock cap w h
met_one clock (of.Reported c) w h = h

abbrev pub reports_one : of.Fate → Kept → Write → List machine.Report
reports_one of.Flies h w = []
reports_one of.Applied h w = []
reports_one of.Already h w = []
reports_one of.Retried h w = []
reports_one (of.Halved cap) h w = []
reports_one (of.Reported c) h w = record { name = h.name; document = document_of w.key; cause = c } ∷ []

-- the status of an entry
abbrev pub status_in : Option Outcome → Option ℕ
status_in entry = option_map (λ (o : Outcome). o.status) entry

abbrev pub success_one : of.Fate → Option ℕ → Kept → Write → List Success
success_one of.Flies status h w = []
success_one of.Applied status h w = record { name = h.name; version = w.version; status = status } ∷ []
success_one of.Already status h w = record { name = h.name; version = w.version; status = None } ∷ []
success_one of.Retried status h w = []
success_one (of.Halved cap) status h w = []
success_one (of.Reported c) status h w = []

abbrev pub met_list : ℕ → of.Fate → Write → List Kept → List Kept
met_list clock f w [] = []
met_list clock f w (h ∷ hs) = if stays f then met_one clock f w h ∷ [] else []

abbrev pub reports_list : of.Fate → Write → List Kept → List machine.Report
reports_list f w [] = []
reports_list f w (h ∷ hs) = reports_one f h w

abbrev pub success_list : of.Fate → Option ℕ → Write → List Kept → List Success
success_list f status w [] = []
success_list f status w (h ∷ hs) = success_one f status h w

abbrev pub tally : Bool → ℕ
tally true = 1
tally false = 0

-- what is left of an operation in flight, if its write is there
abbrev pub met_maybe : ℕ → of.Fate → Option Write → List Kept → List Kept
met_maybe clock f None hs = []
met_maybe clock f (Some w) hs = met_list clock f w hs

abbrev pub reports_maybe : of.Fate → Option Write → List Kept → List machine.Report
reports_maybe f None hs = []
reports_maybe f (Some w) hs = reports_list f w hs

abbrev pub success_maybe : of.Fate → Option ℕ → Option Write → List Kept → List Success
success_maybe f status None hs = []
success_maybe f status (Some w) hs = success_list f status w hs

abbrev pub tally_maybe : (of.Fate → Bool) → of.Fate → Option Write → ℕ
tally_maybe p f None = 0
tally_maybe p f (Some w) = tally (p f)

-- the operations in flight in a request get its writes and the entries of its reply, one after another
abbrev pub kept_walk : List Kept → (Kept → ℕ) → ℕ → ℕ → Way → List Write → List Outcome → List Kept
kept_walk [] allowed clock number whole ws os = []
kept_walk (h ∷ hs) allowed clock number whole ws os =
    if flies_here number h.flies
    then met_maybe clock (fate_met allowed whole h os) (slice_get ws 0) (h ∷ []) ++ kept_walk hs allowed clock number whole (drop 1 ws) (drop 1 os)
    else h ∷ kept_walk hs allowed clock number whole ws os

abbrev pub reports_walk : List Kept → (Kept → ℕ) → ℕ → Way → List Write → List Outcome → List machine.Report
reports_walk [] allowed number whole ws os = []
reports_walk (h ∷ hs) allowed number whole ws os =
    if flies_here number h.flies
    then reports_maybe (fate_met allowed whole h os) (slice_get ws 0) (h ∷ []) ++ reports_walk hs allowed number whole (drop 1 ws) (drop 1 os)
    else reports_walk hs allowed number whole ws os

abbrev pub successes_walk : List Kept → (Kept → ℕ) → ℕ → Way → List Write → List Outcome → List Success
successes_walk [] allowed number whole ws os = []
successes_walk (h ∷ hs) allowed number whole ws os =
    if flies_here number h.flies
    then success_maybe (fate_met allowed whole h os) (status_in (slice_get os 0)) (slice_get ws 0) (h ∷ []) ++ successes_walk hs allowed number whole (drop 1 ws) (drop 1 os)
    else successes_walk hs allowed number whole ws os

abbrev pub tally_walk : (of.Fate → Bool) → List Kept → (Kept → ℕ) → ℕ → Way → List Write → List Outcome → ℕ
tally_walk p [] allowed number whole ws os = 0
tally_walk p (h ∷ hs) allowed number whole ws os =
    if flies_here number h.flies
    then tally_maybe p (fate_met allowed whole h os) (slice_get ws 0) + tally_walk p hs allowed number whole (drop 1 ws) (drop 1 os)
    else tally_walk p hs allowed number whole ws os

-- ---- one by one

-- what an answer means for the operation that is the first of its document
abbrev pub fate_one : (Kept → ℕ) → Way → Kept → Option Outcome → of.Fate
fate_one allowed whole h entry = fate_or whole (fate_of_entry (record { version = h.version; sends = h.sends; attempts = h.attempts; max = allowed h }) h.kind entry)

abbrev pub after_one : ℕ → Write → List Kept → of.Fate → List Kept
after_one clock w hs of.Flies = hs
after_one clock w hs of.Applied = without_first w.key hs
after_one clock w hs of.Already = without_first w.key hs
after_one clock w hs of.Retried = with_first w.key (back clock w) hs
after_one clock w hs (of.Halved cap) = with_first w.key (halved_at clock cap w) hs
after_one clock w hs (of.Reported c) = without_first w.key hs
