use Rattle.std.proofs.Common.{rules}
use Rattle.relay_stub.proofs.listing.name_of.Goals as goal

pub returns-in-Delete : goal.returns-in-Delete
returns-in-Delete c = search rules
