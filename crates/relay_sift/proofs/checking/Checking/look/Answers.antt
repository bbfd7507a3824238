use Rattle.std.proofs.Common.{refl}
use Rattle.relay_sift.proofs.Listing.{looks_as}
use Rattle.relay_sift.proofs.checking.Checking.look.Goals as goal

pub returns-in-Ok : goal.returns-in-Ok
returns-in-Ok c = looks_as c.args.self.now _ _ _ _ _ c.in-Ok.front c.self.view_is refl refl c.held.ensures refl c.in-Ok.ensures
