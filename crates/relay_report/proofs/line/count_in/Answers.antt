use Rattle.std.proofs.Common.{ap, sym, ◌∙◌}
use Rattle.relay_report.specs.Naming.{count_by}
use Rattle.relay_report.proofs.Counting.{member_count-view}
use Rattle.relay_report.proofs.line.count_in.Goals as goal

pub returns-in-Some : goal.returns-in-Some
returns-in-Some c = c.len.ensures.len ∙ (sym (member_count-view c.in-Some.members.now.entries) ∙ ap count_by c.in-Some.ensures)
