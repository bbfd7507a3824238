use Rattle.std.proofs.Common.{ap, sym, subst, ◌∙◌, ◌++◌, append-nil}
use Rattle.relay_receipts.specs.Notices.{said_by}
use Rattle.relay_receipts.specs.Steps.{IsTaker}
use Rattle.relay_receipts.proofs.Said.{nothing_after}
use Rattle.relay_receipts.proofs.Keeping.{meets, reads, taker-met, told_by, well_taken-met, parted}
use Rattle.relay_receipts.proofs.take.TakenReceipts.meet.Goals as goal

pub absorb-requires-clause-rule : goal.absorb-requires-clause-rule
absorb-requires-clause-rule g c = meets _ _ _ _ c.self.invariant.1 c.lane.invariant.1

pub learn_as-requires-clause-rule : goal.learn_as-requires-clause-rule
learn_as-requires-clause-rule g c = reads _ _ (subst IsTaker (sym c.absorb.ensures.rule) (taker-met _ _ c.self.invariant.1))

pub returns-clause-well_taken : goal.returns-clause-well_taken
returns-clause-well_taken g c = well_taken-met _ _ _ (c.learn_as.ensures.channel.2 ∙ c.absorb.ensures.rule) c.self.invariant.2

pub returns-clause-lane : goal.returns-clause-lane
returns-clause-lane g c =
    let told = told_by _ _ _ c.self.invariant.1 c.absorb.ensures.rule c.args.self c.args.lane (ap (λ a. a.lanes) c.self.view_is) (ap (λ a. a.taken) c.self.view_is) (ap (λ a. a.lane) c.lane.view_is) (ap (λ a. a.told) c.lane.view_is) (ap (λ a. a.closed) c.lane.view_is) c.learn_as.ensures.rule in
    told.1

pub returns-clause-front : goal.returns-clause-front
returns-clause-front g c =
    let told = told_by _ _ _ c.self.invariant.1 c.absorb.ensures.rule c.args.self c.args.lane (ap (λ a. a.lanes) c.self.view_is) (ap (λ a. a.taken) c.self.view_is) (ap (λ a. a.lane) c.lane.view_is) (ap (λ a. a.told) c.lane.view_is) (ap (λ a. a.closed) c.lane.view_is) c.learn_as.ensures.rule in
    (said_by c.args.lane.lane told.0, parted c.args.lane.lane c.args.self.taken told.0 c.args.lane.told c.args.lane.closed told.2)

pub returns-clause-whole : goal.returns-clause-whole
returns-clause-whole g c h =
    let told = told_by _ _ _ c.self.invariant.1 c.absorb.ensures.rule c.args.self c.args.lane (ap (λ a. a.lanes) c.self.view_is) (ap (λ a. a.taken) c.self.view_is) (ap (λ a. a.lane) c.lane.view_is) (ap (λ a. a.told) c.lane.view_is) (ap (λ a. a.closed) c.lane.view_is) c.learn_as.ensures.rule in
    let all = parted c.args.lane.lane c.args.self.taken told.0 c.args.lane.told c.args.lane.closed told.2 in
    let none = nothing_after (said_by c.args.lane.lane c.args.self.taken) (said_by c.args.lane.lane told.0) c.args.lane.told c.args.lane.closed (sym all) h in
    sym (append-nil (said_by c.args.lane.lane c.args.self.taken)) ∙ ap (λ l. said_by c.args.lane.lane c.args.self.taken ++ l) (sym none) ∙ sym all
