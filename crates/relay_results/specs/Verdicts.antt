-- The meaning of an item's status, and of a request's.
use Rattle.std.specs.Prelude.{◌≡◌, ℕ, List, [], ◌∷◌, Option, Some, None, Bool, true, not, ◌==◌, ◌&&◌, ◌||◌, nat_le, nat_lt, if◌then◌else◌}
use Rattle.relay_action.specs.declared.action.ActionKind.{ActionKind}
use Rattle.relay_results.specs.declared.decide.ItemVerdict.{ItemVerdict}
use Rattle.relay_results.specs.declared.decide.ItemVerdict.TheVariants as verdict
use Rattle.relay_results.specs.Documents.{is_delete}

-- 200 to 299: success (RFC 9110, section 15.3)
abbrev pub is_2xx : ℕ → Bool
is_2xx status = nat_le 200 status && nat_lt status 300

-- a delete that found no document: 404 without an error (OpenSearch, delete document API)
abbrev pub is_absent : ActionKind → ℕ → Bool
is_absent kind status = is_delete kind && (status == 404)

-- the write was applied: one of these, and no error
abbrev pub is_success : ActionKind → ℕ → Bool → Bool
is_success kind status has_error = not has_error && (is_2xx status || is_absent kind status)

-- a version conflict: the version stored is not below the one given (OpenSearch, index document API, external versioning)
abbrev pub is_conflict : ℕ → Bool
is_conflict status = status == 409

-- the index is too busy for this item now (RFC 6585, section 4, and RFC 9110, section 15.6.4)
abbrev pub is_retried_item : ℕ → Bool
is_retried_item status = (status == 429) || (status == 503)

-- the index, or a gateway in front of it, cannot serve the request now (429: RFC 6585, section 4; 502, 503 and 504:
-- RFC 9110, sections 15.6.3 to 15.6.5)
abbrev pub is_retried_whole : ℕ → Bool
is_retried_whole status = ((status == 429) || (status == 502)) || ((status == 503) || (status == 504))

-- the request is too large (RFC 9110, section 15.5.14)
abbrev pub is_too_large : ℕ → Bool
is_too_large status = status == 413

-- a request with this many items is too large, and is halved: it has at least two
abbrev pub is_halved : ℕ → ℕ → Bool
is_halved items status = is_too_large status && nat_le 2 items

-- the operations of a request with this many items are sent again, in halves or as they are
abbrev pub is_sent_again : ℕ → ℕ → Bool
is_sent_again items status = is_halved items status || is_retried_whole status

-- a line of a table: its condition, and its value
pub record Line (A : Type 0) : Type 0 where
  pub holds : Bool
  pub says : A

-- the value of the first line whose condition holds, else the last entry of the table
abbrev pub first_line : {A : Type 0} → List (Line A) → A → A
first_line [] otherwise = otherwise
first_line (line ∷ lines) otherwise = if line.holds then line.says else first_line lines otherwise

abbrev when : Bool → ItemVerdict → Line ItemVerdict
when holds says = record { holds = holds; says = says }

-- a conflict with the operation's own version is possible: the stored version is not stated, or it is its own
abbrev pub may_be_own : Option ℕ → ℕ → Bool
may_be_own None own = true
may_be_own (Some stored) own = stored == own

-- The verdict on an item: a conflict may be with the operation's own version, `sends` requests carried the operation,
-- and `attempts` of them count as tries, of which `max` are allowed.
abbrev pub verdict_of : ActionKind → ℕ → Bool → Bool → ℕ → ℕ → ℕ → ItemVerdict
verdict_of kind status has_error own sends attempts max = first_line
    (when (not has_error && is_2xx status) verdict.Applied
    ∷ when (not has_error && is_absent kind status) verdict.Applied
    ∷ when (is_conflict status && (nat_le 2 sends && own)) verdict.Already
    ∷ when (is_conflict status) verdict.Conflict
    ∷ when (is_retried_item status && nat_lt attempts max) verdict.Retry
    ∷ when (is_retried_item status) verdict.GaveUp
    ∷ [])
    verdict.Refused

-- the verdict is Refused, whatever was sent before
abbrev pub IsRefused : ActionKind → ℕ → Bool → Type 0
IsRefused kind status has_error =
    (own : Bool) (sends attempts max : ℕ) → verdict_of kind status has_error own sends attempts max ≡ verdict.Refused
