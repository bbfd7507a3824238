-- The object of a report, and its line.
use Rattle.std.proofs.Common.{◌≡◌, ℕ, List, [], ◌∷◌, ◌++◌, Bool, true, false, Some, None, refl, ap, ◌==◌, if◌then◌else◌}
use Rattle.std.specs.Prelude.{codes}
use Rattle.serde_json.specs.Data.{string, number, unsigned, object, Members, member, no_members, put}
use Rattle.serde_json.specs.Written.{compact_text, has_float}
use Rattle.serde_json.proofs.OnLiterals.{serde_json_on_literals}
use Rattle.relay_results.specs.declared.cause.Cause.{Cause}
use Rattle.relay_results.specs.declared.cause.Cause.TheVariants as cause
use Rattle.relay_core.specs.declared.report.Report.{Report}
use Rattle.relay_report.specs.Reports.{cause_name, kind_member, last_member, reason_member, sends_member, status_member, stored_member, report_data, report_line}
use Rattle.relay_report.specs.Members.{and_cause, and_details, and_document, and_name}

-- the members, by whether there is an epoch
abbrev epoch_by : Bool → ℕ → Members → Members
epoch_by zero epoch more = if zero then more else member (codes "epoch") (number (unsigned epoch)) more

abbrev puts_by : Bool → ℕ → Members → Members
puts_by zero epoch ms = if zero then ms else put (codes "epoch") (number (unsigned epoch)) ms

abbrev pub chain : Bool → ℕ → ℕ → ℕ → List ℕ → List ℕ → Cause → Members
chain zero epoch producer n index id c =
    member (codes "cause") (string (cause_name c))
    (epoch_by zero epoch
    (member (codes "id") (string id)
    (member (codes "index") (string index)
    (kind_member c
    (last_member c
    (member (codes "number") (number (unsigned n))
    (member (codes "producer") (number (unsigned producer))
    (reason_member c (sends_member c (status_member c (stored_member c no_members)))))))))))

abbrev puts : Bool → ℕ → ℕ → ℕ → List ℕ → List ℕ → Cause → Members
puts zero epoch producer n index id c =
    and_details c (put (codes "cause") (string (cause_name c))
    (put (codes "index") (string index) (put (codes "id") (string id)
    (puts_by zero epoch (put (codes "producer") (number (unsigned producer)) (put (codes "number") (number (unsigned n)) no_members))))))

puts-chain : (zero : Bool) (epoch producer n : ℕ) (index id : List ℕ) (c : Cause) → puts zero epoch producer n index id c ≡ chain zero epoch producer n index id c
unfolding serde_json_on_literals
puts-chain true epoch producer n index id (cause.Refused status kind None) = refl
puts-chain true epoch producer n index id (cause.Refused status kind (Some reason)) = refl
puts-chain true epoch producer n index id (cause.Request status None) = refl
puts-chain true epoch producer n index id (cause.Request status (Some reason)) = refl
puts-chain true epoch producer n index id (cause.Conflict None None) = refl
puts-chain true epoch producer n index id (cause.Conflict None (Some reason)) = refl
puts-chain true epoch producer n index id (cause.Conflict (Some stored) None) = refl
puts-chain true epoch producer n index id (cause.Conflict (Some stored) (Some reason)) = refl
puts-chain true epoch producer n index id (cause.GaveUp sends tried) = refl
puts-chain true epoch producer n index id cause.Spent = refl
puts-chain false epoch producer n index id (cause.Refused status kind None) = refl
puts-chain false epoch producer n index id (cause.Refused status kind (Some reason)) = refl
puts-chain false epoch producer n index id (cause.Request status None) = refl
puts-chain false epoch producer n index id (cause.Request status (Some reason)) = refl
puts-chain false epoch producer n index id (cause.Conflict None None) = refl
puts-chain false epoch producer n index id (cause.Conflict None (Some reason)) = refl
puts-chain false epoch producer n index id (cause.Conflict (Some stored) None) = refl
puts-chain false epoch producer n index id (cause.Conflict (Some stored) (Some reason)) = refl
puts-chain false epoch producer n index id (cause.GaveUp sends tried) = refl
puts-chain false epoch producer n index id cause.Spent = refl

-- the members that were put are those of the report
pub all_put : (r : Report) → object (and_cause r.cause (and_document r.key (and_name r.name no_members))) ≡ report_data r
all_put r = ap object (puts-chain (r.name.epoch == 0) r.name.epoch r.name.producer r.name.number r.key.index r.key.id r.cause)

chain-no_float : (zero : Bool) (epoch producer n : ℕ) (index id : List ℕ) (c : Cause) → has_float (object (chain zero epoch producer n index id c)) ≡ false
chain-no_float true epoch producer n index id (cause.Refused status kind None) = refl
chain-no_float true epoch producer n index id (cause.Refused status kind (Some reason)) = refl
chain-no_float true epoch producer n index id (cause.Request status None) = refl
chain-no_float true epoch producer n index id (cause.Request status (Some reason)) = refl
chain-no_float true epoch producer n index id (cause.Conflict None None) = refl
chain-no_float true epoch producer n index id (cause.Conflict None (Some reason)) = refl
chain-no_float true epoch producer n index id (cause.Conflict (Some stored) None) = refl
chain-no_float true epoch producer n index id (cause.Conflict (Some stored) (Some reason)) = refl
chain-no_float true epoch producer n index id (cause.GaveUp sends tried) = refl
chain-no_float true epoch producer n index id cause.Spent = refl
chain-no_float false epoch producer n index id (cause.Refused status kind None) = refl
chain-no_float false epoch producer n index id (cause.Refused status kind (Some reason)) = refl
chain-no_float false epoch producer n index id (cause.Request status None) = refl
chain-no_float false epoch producer n index id (cause.Request status (Some reason)) = refl
chain-no_float false epoch producer n index id (cause.Conflict None None) = refl
chain-no_float false epoch producer n index id (cause.Conflict None (Some reason)) = refl
chain-no_float false epoch producer n index id (cause.Conflict (Some stored) None) = refl
chain-no_float false epoch producer n index id (cause.Conflict (Some stored) (Some reason)) = refl
chain-no_float false epoch producer n index id (cause.GaveUp sends tried) = refl
chain-no_float false epoch producer n index id cause.Spent = refl

pub no_float : (r : Report) → has_float (report_data r) ≡ false
no_float r = chain-no_float (r.name.epoch == 0) r.name.epoch r.name.producer r.name.number r.key.index r.key.id r.cause

-- a report's compact text and a line feed are its line
pub report_line-text : (r : Report) → compact_text (report_data r) ++ 10 ∷ [] ≡ report_line r
unfolding report_line
report_line-text r = refl

pub ruleset line_text = (report_line-text, no_float, all_put)
