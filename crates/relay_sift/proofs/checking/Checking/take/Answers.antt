use Rattle.relay_sift.proofs.Listing.{ends_rest, ends_absent, rest_within}
use Rattle.relay_sift.proofs.checking.Checking.take.Goals as goal

pub take_portion-requires : goal.take_portion-requires
take_portion-requires g c = rw c.in-Portion.is at c.requires.front

pub list_one-requires : goal.list_one-requires
list_one-requires g c = rest_within _ _ _ _ _ _ (rw c.in-Rest.is at c.requires.front)

pub returns-in-Ok-clause-ok : goal.returns-in-Ok-clause-ok
returns-in-Ok-clause-ok g c = λ left over. ends_rest left _ _ c.args.self.now _ c.in-Rest.first c.in-Rest.fault over (rw c.in-Rest.is at c.requires.front) c.in-Ok.ensures.ok.0 c.in-Ok.ensures.ok.1

pub returns-in-Absent-clause-ok : goal.returns-in-Absent-clause-ok
returns-in-Absent-clause-ok g c = λ left over. ends_absent left _ c.args.self.now over (rw c.in-Absent.is at c.requires.front)
