use Rattle.std.proofs.Common.{rules, ◌≡◌}
use Rattle.std.specs.Map.{lookup}
use Rattle.relay_held.specs.Queues.{same_key}
use Rattle.relay_held.proofs.Shelving.{no_queue}
use Rattle.relay_held.proofs.documents.Documents.slot.Goals as goal

pub returns-clause-none : goal.returns-clause-none
returns-clause-none c =
    let found : c.copied.result ≡ lookup (same_key c.args.key.now) c.args.self.now.slots = search rules in
    no_queue c.self.inside.queues c.self.inside.slots.entries c.args.key.now c.args.self.now c.copied.result c.self.view_is found
