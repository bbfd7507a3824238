use Rattle.std.proofs.Common.{[], Vec, sym, subst}
use Rattle.relay_results.specs.declared.cause.Loss.TheVariants as loss
use Rattle.relay_results.specs.declared.outcome.Outcome.{Outcome}
use Rattle.relay_results.specs.Outside.{Outside, Items}
use Rattle.relay_index.specs.Runs.{Shows}
use Rattle.relay_lane.specs.Wires.{AnswersOn}
use Rattle.relay_lane_tests.proofs.Tellings.{answered_lost, answered_items}
use Rattle.relay_lane_tests.proofs.telling.TellingWire.receive.Goals as goal

pub returns-then-self-eq0-clause-outside : goal.returns-then-self-eq0-clause-outside
returns-then-self-eq0-clause-outside c described o fits =
    answered_lost loss.Closed c.args.self.now.flying c.args._number c.args.self.now.reply.items [] o c.args.self.now.index c.requires fits.0 fits.1

pub returns-clause-outside : goal.returns-clause-outside
returns-clause-outside c described o fits =
    subst (λ (v : Vec Outcome _). (p : Outside) × (Shows p c.args.self.now.index × Unit {0}) × AnswersOn c.args._number (Items v.items) o p) (sym c.replace-entries.ensures.value)
    (answered_items c.args.self.now.flying c.args._number c.args.self.now.reply.items [] o c.args.self.now.index c.requires fits.0 fits.1)
