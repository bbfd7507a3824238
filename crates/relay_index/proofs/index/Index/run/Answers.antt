use Rattle.relay_index.proofs.Ran.{Effect-after_run, Shows-after_run, IsOutcomeOf-done_of}
use Rattle.relay_index.proofs.index.Index.run.Goals as goal

pub returns-clause-effect : goal.returns-clause-effect
returns-clause-effect c = rw c.in_ok-done.ensures.after (Effect-after_run c.args.self.now c.args.write.now c.args.choice)

pub returns-clause-outside : goal.returns-clause-outside
returns-clause-outside c = λ o r shows is.
    rw c.in_ok-done.ensures.after (Shows-after_run c.args.self.now c.args.write.now c.args.choice o r shows (rw c.in_ok-done.ensures.item at is))

pub returns-clause-versioned : goal.returns-clause-versioned
returns-clause-versioned c = rw c.in_ok-done.ensures.item (IsOutcomeOf-done_of c.args.self.now c.args.write.now c.args.choice c.requires)
