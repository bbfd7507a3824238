use Rattle.std.proofs.Common.{refl}
use Rattle.relay_sift.proofs.sifted.Sifted.new.Goals as goal

pub returns : goal.returns
returns g c = let held = c.new.ensures in let out = c.new-2.ensures in rw (held, out) refl
