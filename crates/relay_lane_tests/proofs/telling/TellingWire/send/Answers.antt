use Rattle.std.proofs.Common.{[], sym, ◌∙◌}
use Rattle.relay_results.specs.declared.cause.Loss.TheVariants as loss
use Rattle.relay_lane_tests.proofs.Tellings.{sent_and_run, sent_fits, lost_fits, refused_fits}
use Rattle.relay_lane_tests.proofs.telling.TellingWire.send.Goals as goal

pub returns-then-is_some-clause-outside : goal.returns-then-is_some-clause-outside
returns-then-is_some-clause-outside c described o fits next =
    refused_fits loss.Unreachable c.args.self.now.flying c.args.self.now.reply.items o c.args.number c.args.writes.now c.args.self.now.index next fits.0 fits.1

pub returns-in-Ok-clause-outside : goal.returns-in-Ok-clause-outside
returns-in-Ok-clause-outside c described o fits next =
    sent_fits o c.args.number c.args.writes.now c.run_all.new.index c.in-Ok.entries.items next
    (sent_and_run o c.args.number c.args.writes.now c.args.self.now.index c.run_all.new.index c.in-Ok.entries.items next fits.0 (λ q n x y. c.in-Ok.ensures q n x y))

pub returns-in-Err-clause-outside : goal.returns-in-Err-clause-outside
returns-in-Err-clause-outside c described o fits next =
    lost_fits loss.Memory o c.args.number c.args.writes.now c.run_all.new.index [] c.args.self.now.flying c.args.self.now.reply.items next (sym c.is_some.ensures ∙ c.if-is_some.false)
    (sent_and_run o c.args.number c.args.writes.now c.args.self.now.index c.run_all.new.index [] next fits.0 (λ q n x y. c.in-Err.ensures q n x y))
