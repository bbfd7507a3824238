use Rattle.std.proofs.Common.{◌≡◌, List, Some, true, sym, ap, ◌∙◌, option_map}
use Rattle.relay_results.specs.declared.outcome.Outcome.{Outcome}
use Rattle.relay_world.specs.State.{Sent, World, request_at}
use Rattle.relay_world.specs.Refusals.{entries, is_flying}
use Rattle.relay_world.proofs.Replied.{replied}
use Rattle.relay_world.proofs.parts.Parts.reply.Goals as goal

pub returns-in-Ok-clause-ok : goal.returns-in-Ok-clause-ok
returns-in-Ok-clause-ok c =
    let w = c.args.self.now in
    let s = c.in-Some.sent.now in
    let picks = c.args.picks.now in
    let there : request_at w c.args.request ≡ Some s = sym c.request.ensures ∙ ap (option_map _) c.in-Some.is in
    let flies : is_flying w s ≡ true = sym c.is_flying.ensures ∙ c.if-not-is_flying.false in
    let noted : entries w s picks ≡ Some c.in-Some-2.kept.items = sym c.in_ok-kept.ensures ∙ ap (option_map _) c.in-Some-2.is in
    let told : entries w s picks ≡ Some c.in-Some-3.given.items = sym c.in_ok-given.ensures ∙ ap (option_map _) c.in-Some-3.is in
    replied w c.args.request picks s c.in-Some-2.kept.items c.in-Some-3.given.items there flies noted told c.lane-lane.result c.number-number.result c.in-Ok.counts c.settle.new.self c.note.new.self c.lane-lane.ensures c.number-number.ensures c.in-Ok.ensures.counts c.in-Ok.ensures.ok c.note.ensures
