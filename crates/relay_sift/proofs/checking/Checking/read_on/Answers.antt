use Rattle.std.proofs.Common.{arith, ◌≡◌, ◌==◌}
use Rattle.relay_sift.proofs.Listing.{reads_from}
use Rattle.relay_sift.proofs.checking.Checking.read_on.Goals as goal

pub returns-in-Ok-clause-ok : goal.returns-in-Ok-clause-ok
returns-in-Ok-clause-ok g c = λ written.
    let f = c.in-Ok.ensures.ok in
    reads_from _ _ written c.args.self.now _ f.0 _ (c.in-Ok.count == 0) c.self.view_is f.1 f.2 (λ t. let n : c.in-Ok.count ≡ 0 = grind (arith, t) in c.in-Ok.ensures.end n)
