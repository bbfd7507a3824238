-- When a run takes no more input, and what is said of that.
use Rattle.std.specs.Prelude.{ℕ, ◌+◌, Bool, true, false, ◌&&◌, ◌||◌, ◌==◌, if◌then◌else◌, nat_le, nat_lt, List, ◌++◌, Option, None, Some, codes, decimal}
use Rattle.relay_results.specs.declared.cause.Cause.{Cause}
use Rattle.relay_results.specs.declared.cause.Cause.TheVariants as cause
use Rattle.relay_words.specs.declared.exit.Exit.{Exit}
use Rattle.relay_words.specs.declared.exit.Exit.TheVariants as exit
use Rattle.relay_run.specs.declared.stopping.StopReason.{StopReason}
use Rattle.relay_run.specs.declared.stopping.StopReason.TheVariants as reason

-- a status of a whole answer after which more requests are in vain: no credentials, or the wrong ones; nothing there; or
-- it is elsewhere
abbrev pub is_hopeless : ℕ → Bool
is_hopeless status = (status == 401) || (status == 403) || (status == 404) || (nat_le 300 status && nat_lt status 400)

-- The index answered a whole request like this before it applied anything; or as many operations were reported as may
-- be. A limit of 0 is none.
abbrev pub at_limit : ℕ → ℕ → Option StopReason
at_limit limit reported = if nat_lt 0 limit && nat_le limit reported then Some reason.Reports else None

abbrev pub stop_by : Cause → Bool → ℕ → ℕ → Option StopReason
stop_by (cause.Request status why) false limit reported = if is_hopeless status then Some (reason.Hopeless status) else at_limit limit reported
stop_by (cause.Request status why) true limit reported = at_limit limit reported
stop_by (cause.Refused status kind text) applied limit reported = at_limit limit reported
stop_by (cause.Conflict stored text) applied limit reported = at_limit limit reported
stop_by (cause.GaveUp sends tried) applied limit reported = at_limit limit reported
stop_by cause.Spent applied limit reported = at_limit limit reported

-- a reason as a number above 0
abbrev pub code_of : StopReason → ℕ
code_of reason.Reports = 1
code_of (reason.Hopeless status) = status + 2
code_of reason.Until = 65538

-- ---- at the end

-- why a run is said to have stopped, given whether something was left unread, and whether something was applied
abbrev pub reason_said : Option StopReason → Bool → Bool → Option StopReason
reason_said None cut applied = None
reason_said (Some reason.Reports) true applied = Some reason.Reports
reason_said (Some reason.Reports) false applied = None
reason_said (Some reason.Until) true applied = Some reason.Until
reason_said (Some reason.Until) false applied = None
reason_said (Some (reason.Hopeless status)) true applied = Some (reason.Hopeless status)
reason_said (Some (reason.Hopeless status)) false true = None
reason_said (Some (reason.Hopeless status)) false false = Some (reason.Hopeless status)

abbrev pub stop_text : ℕ → StopReason → List ℕ
stop_text limit reason.Reports = codes "stopped after " ++ decimal limit ++ codes " reports: --max-reports\n"
stop_text limit (reason.Hopeless status) = codes "stopped: the index answered a whole request with " ++ decimal status ++ codes " before it had applied anything\n"
stop_text limit reason.Until = codes "stopped: --until\n"

-- an index that nothing can be sent to counts as a device fault; a stop that was asked for is none
abbrev pub exit_of_stop : StopReason → Exit
exit_of_stop reason.Reports = exit.Reported
exit_of_stop (reason.Hopeless status) = exit.Device
exit_of_stop reason.Until = exit.Done
