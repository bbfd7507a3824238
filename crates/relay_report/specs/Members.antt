-- For the steps that make the object of a report: members are added one after another.
use Rattle.std.specs.Prelude.{ℕ, List, Option, Some, None, ◌==◌, if◌then◌else◌, codes}
use Rattle.serde_json.specs.Data.{string, number, unsigned, Members, put}
use Rattle.relay_action.specs.declared.key.DocKey.{DocKey}
use Rattle.relay_action.specs.declared.operation.OpName.{OpName}
use Rattle.relay_results.specs.declared.cause.Cause.{Cause}
use Rattle.relay_results.specs.declared.cause.Cause.TheVariants as cause
use Rattle.relay_report.specs.Reports.{cause_name, last_word}

abbrev pub and_epoch : ℕ → Members → Members
and_epoch epoch ms = if epoch == 0 then ms else put (codes "epoch") (number (unsigned epoch)) ms

abbrev pub and_name : OpName → Members → Members
and_name name ms =
    and_epoch name.epoch (put (codes "producer") (number (unsigned name.producer)) (put (codes "number") (number (unsigned name.number)) ms))

abbrev pub and_document : DocKey → Members → Members
and_document key ms = put (codes "index") (string key.index) (put (codes "id") (string key.id) ms)

abbrev pub and_reason : Option (List ℕ) → Members → Members
and_reason None ms = ms
and_reason (Some reason) ms = put (codes "reason") (string reason) ms

abbrev pub and_stored : Option ℕ → Members → Members
and_stored None ms = ms
and_stored (Some stored) ms = put (codes "stored") (number (unsigned stored)) ms

abbrev pub and_details : Cause → Members → Members
and_details (cause.Refused status kind reason) ms =
    and_reason reason (put (codes "status") (number (unsigned status)) (put (codes "kind") (string kind) ms))
and_details (cause.Request status reason) ms = and_reason reason (put (codes "status") (number (unsigned status)) ms)
and_details (cause.Conflict stored reason) ms = and_reason reason (and_stored stored ms)
and_details (cause.GaveUp sends tried) ms =
    put (codes "last") (string (last_word tried)) (put (codes "sends") (number (unsigned sends)) ms)
and_details other ms = ms

abbrev pub and_cause : Cause → Members → Members
and_cause c ms = and_details c (put (codes "cause") (string (cause_name c)) ms)
