-- Reports as NDJSON: one object per line, with its keys in byte order and without spaces.
use Rattle.std.specs.Prelude.{ℕ, Option, Some, None, List, [], ◌∷◌, ◌++◌, ◌==◌, if◌then◌else◌, codes, decimal}
use Rattle.serde_json.specs.Data.{Data, string, number, unsigned, object, Members, member, no_members}
use Rattle.serde_json.specs.Written.{compact_text}
use Rattle.relay_results.specs.declared.cause.Cause.{Cause}
use Rattle.relay_results.specs.declared.cause.Cause.TheVariants as cause
use Rattle.relay_results.specs.declared.cause.LastTry.{LastTry}
use Rattle.relay_results.specs.declared.cause.LastTry.TheVariants as last
use Rattle.relay_results.specs.declared.cause.Loss.{Loss}
use Rattle.relay_results.specs.declared.cause.Loss.TheVariants as loss
use Rattle.relay_core.specs.declared.report.Report.{Report}

-- the name of a cause
abbrev pub cause_name : Cause → List ℕ
cause_name (cause.Refused status kind reason) = codes "Refused"
cause_name (cause.Request status reason) = codes "Request"
cause_name (cause.Conflict stored reason) = codes "Conflict"
cause_name (cause.GaveUp sends tried) = codes "GaveUp"
cause_name cause.Spent = codes "Spent"

-- `epoch` is omitted in epoch 0
abbrev pub epoch_member : ℕ → Members → Members
epoch_member epoch more = if epoch == 0 then more else member (codes "epoch") (number (unsigned epoch)) more

-- `kind`, the type of the item's error, is present if the item was refused
abbrev pub kind_member : Cause → Members → Members
kind_member (cause.Refused status kind reason) more = member (codes "kind") (string kind) more
kind_member other more = more

-- `reason` is present if the item was refused or met a conflict and its error has one, or if its whole request was
-- refused, the reply gives one and the item was its first
abbrev pub reason_if : Option (List ℕ) → Members → Members
reason_if None more = more
reason_if (Some reason) more = member (codes "reason") (string reason) more

abbrev pub reason_member : Cause → Members → Members
reason_member (cause.Refused status kind reason) more = reason_if reason more
reason_member (cause.Request status reason) more = reason_if reason more
reason_member (cause.Conflict stored reason) more = reason_if reason more
reason_member other more = more

-- a word for a loss
abbrev pub loss_word : Loss → List ℕ
loss_word loss.Refused = codes "refused"
loss_word loss.Unreachable = codes "unreachable"
loss_word loss.TimedOut = codes "timeout"
loss_word loss.Closed = codes "closed"
loss_word loss.Unreadable = codes "unreadable"
loss_word loss.Memory = codes "memory"

-- what became of a try: the word of its loss, or whose status it got
abbrev pub last_word : LastTry → List ℕ
last_word (last.Lost why) = loss_word why
last_word (last.Whole status) = codes "status " ++ decimal status
last_word (last.Item status) = codes "item " ++ decimal status

-- `last`, what became of the last try, is present if the tries were used up
abbrev pub last_member : Cause → Members → Members
last_member (cause.GaveUp sends tried) more = member (codes "last") (string (last_word tried)) more
last_member other more = more

-- `sends` is present if the tries were used up
abbrev pub sends_member : Cause → Members → Members
sends_member (cause.GaveUp sends tried) more = member (codes "sends") (number (unsigned sends)) more
sends_member other more = more

-- `status` is present if an item or a whole request was refused
abbrev pub status_member : Cause → Members → Members
status_member (cause.Refused status kind reason) more = member (codes "status") (number (unsigned status)) more
status_member (cause.Request status reason) more = member (codes "status") (number (unsigned status)) more
status_member other more = more

-- `stored`, the stored version, is present if an item met a conflict that states it
abbrev pub stored_if : Option ℕ → Members → Members
stored_if None more = more
stored_if (Some stored) more = member (codes "stored") (number (unsigned stored)) more

abbrev pub stored_member : Cause → Members → Members
stored_member (cause.Conflict stored reason) more = stored_if stored more
stored_member other more = more

-- the JSON value of a report
abbrev pub report_data : Report → Data
report_data r =
    object (member (codes "cause") (string (cause_name r.cause))
    (epoch_member r.name.epoch
    (member (codes "id") (string r.key.id)
    (member (codes "index") (string r.key.index)
    (kind_member r.cause
    (last_member r.cause
    (member (codes "number") (number (unsigned r.name.number))
    (member (codes "producer") (number (unsigned r.name.producer))
    (reason_member r.cause
    (sends_member r.cause
    (status_member r.cause
    (stored_member r.cause no_members))))))))))))

-- the line of a report
unfoldable pub report_line : Report → List ℕ
report_line r = compact_text (report_data r) ++ 10 ∷ []
