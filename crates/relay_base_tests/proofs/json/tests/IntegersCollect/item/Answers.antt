use Rattle.relay_base_tests.proofs.json.tests.IntegersCollect.item.Goals as goal

pub returns-then-self-lt4-clause-ok : goal.returns-then-self-lt4-clause-ok
returns-then-self-lt4-clause-ok c = let read = c.in_ok-leaf.ensures.ok in (read.0, read.1, λ ms h. tt)

pub returns-else-self-lt4-clause-ok : goal.returns-else-self-lt4-clause-ok
returns-else-self-lt4-clause-ok c = let read = c.in_ok-leaf.ensures.ok in (read.0, read.1, λ ms h. tt)
