use Rattle.relay_resume.proofs.Holding.{first_ones, hold_once, hold_the_others, hold_together, lines_are_first}
use Rattle.relay_resume.proofs.laws.texts_go_on.Goals as goal

pub returns-clause-once : goal.returns-clause-once
returns-clause-once c = hold_once

pub returns-clause-first : goal.returns-clause-first
returns-clause-first c = first_ones

pub returns-clause-lines : goal.returns-clause-lines
returns-clause-lines c = lines_are_first

pub returns-clause-others : goal.returns-clause-others
returns-clause-others c = hold_the_others

pub returns-clause-together : goal.returns-clause-together
returns-clause-together c = hold_together
