use Rattle.relay_receipts.specs.Notices.{said_by}
use Rattle.relay_keeping.specs.Histories.{names_in, places_in, said_in}
use Rattle.relay_keeping.proofs.Following.{follows_none, follows_told}
use Rattle.relay_keeping.proofs.Messages.{on_ok}
use Rattle.relay_keeping.proofs.trails.follow.Goals as goal

pub returns-in-Some-clause-trails : goal.returns-in-Some-clause-trails
returns-in-Some-clause-trails c =
    on_ok c.follow_told.result
    (λ f taken all. follows_told taken c.args.notice.now c.in-Some.told c.follow_told.new.inputs.items c.in-Some.is (f (λ q. places_in (said_by q taken)) (names_in (said_in taken)) all)) c.follow_told.ensures.trails

pub returns-in-None-clause-trails : goal.returns-in-None-clause-trails
returns-in-None-clause-trails c taken all = follows_none taken c.args.notice.now c.args.inputs.now.items c.in-None.is all
