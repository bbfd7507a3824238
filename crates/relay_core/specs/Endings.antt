-- How operations end: each once, and what is noted of one that ends as applied is true.
use Rattle.std.specs.Prelude.{◌≡◌, ◌+◌, ℕ, List, Bool, true}
use Rattle.relay_action.specs.declared.operation.Op.{Op}
use Rattle.relay_action.specs.declared.operation.OpName.{OpName}
use Rattle.relay_results.specs.Words.{Mem, count}
use Rattle.relay_results.specs.Numbers.{from_zero}
use Rattle.relay_results.specs.Documents.{document_of, name_of, same_name}
use Rattle.relay_results.specs.Outside.{Answer, Outside, MayAnswer}
use Rattle.relay_delivery.specs.Machine.{Held, Report, write_of, reports_from}
use Rattle.relay_delivery.specs.Lane.{held_of, tries_in}
use Rattle.relay_core.specs.declared.success.Success.{Success}
use Rattle.relay_core.specs.Successes.{successes_from}
use Rattle.relay_core.specs.State.{State, is_flying, writes_of, after_answer_to}
use Rattle.relay_core.specs.Ties.{Fits}

-- the successes and the reports that an answer adds
abbrev pub new_successes : State → ℕ → Answer → List Success
new_successes s number a = successes_from (tries_in s.core) (from_zero number) (writes_of number s) a (held_of s.core.held)

abbrev pub new_reports : State → ℕ → Answer → List Report
new_reports s number a = reports_from (tries_in s.core) (from_zero number) (writes_of number s) a (held_of s.core.held)

-- these have this name
abbrev pub is_held_as : OpName → Held → Bool
is_held_as n h = same_name n (name_of h.op)

abbrev pub is_success_as : OpName → Success → Bool
is_success_as n x = same_name n x.name

abbrev pub is_report_as : OpName → Report → Bool
is_report_as n r = same_name n r.name

-- after an answer, each operation that was held is held, or is one of the new successes, or is one of the new reports,
-- and only one of these
abbrev pub EachEndsOnce : Type 0
EachEndsOnce =
    (s : State) (number : ℕ) (a : Answer) (n : OpName) →
    count (is_held_as n) (held_of s.core.held)
    ≡ count (is_held_as n) (held_of (after_answer_to s number a).core.held) + count (is_success_as n) (new_successes s number a)
    + count (is_report_as n) (new_reports s number a)

-- it is noted of an operation that was held, with its version, and the index has applied its write
pub record IsTrueSuccess (s : State) (out : Outside) (x : Success) : Type 0 where
  pub held : Held
  pub was_held : Mem held (held_of s.core.held)
  pub name : x.name ≡ name_of held.op
  pub version : x.version ≡ held.version
  pub applied : Mem (write_of held) (out.applied (document_of held.op.key))

-- an honest answer adds only true successes
abbrev pub SuccessesAreTrue : Type 0
SuccessesAreTrue =
    (s : State) (number : ℕ) (a : Answer) (taken : List Op) (out : Outside) → is_flying number s ≡ true →
    MayAnswer out (from_zero number) a → Fits s taken out → (x : Success) → Mem x (new_successes s number a) → IsTrueSuccess s out x
