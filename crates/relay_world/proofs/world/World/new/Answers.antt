use Rattle.std.proofs.Common.{◌≡◌, subst, sym, refl, arith}
use Rattle.std.specs.Prelude.{◌^◌}
use Rattle.relay_core.proofs.Valid.{valid_facts}
use Rattle.relay_world.specs.Ties.{IsWorld}
use Rattle.relay_world.proofs.Beginning.{fresh_is_world}
use Rattle.relay_world.proofs.world.World.new.Goals as goal

pub invariant_of-result : goal.invariant_of-result
invariant_of-result c =
    let most = (valid_facts c.args.config c.requires.valid).deal.1 in
    let all : 2 ^ 40 ≡ 1099511627776 = refl in
    subst IsWorld (sym c.in_ok-new.ensures) (fresh_is_world c.args.config c.args.index (omega (arith, most, all)))
