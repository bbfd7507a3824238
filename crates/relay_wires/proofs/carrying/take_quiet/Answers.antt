use Rattle.std.proofs.Common.{subst, ◌∙◌}
use Rattle.relay_wires.specs.Carriers.{AllFree}
use Rattle.relay_wires.proofs.Connections.{free_before, dropped_before}
use Rattle.relay_wires.proofs.carrying.take_quiet.Goals as goal

pub returns-then-is_quiet-clause-finds : goal.returns-then-is_quiet-clause-finds
returns-then-is_quiet-clause-finds g c =
    let d = c.looking.invariant.dropped in
    let all = free_before c.pop.new.self.items _ c.in-Some.conn (subst AllFree c.in-Some.ensures.items c.looking.invariant.free) in (
      record {
        dropped = d.0;
        free = dropped_before c.args.free.now.items c.looking.free.items c.pop.new.self.items d.0 c.in-Some.conn d.1 c.in-Some.ensures.items;
        quiet = c.is_quiet.ensures c.if-is_quiet.true;
      },
      all.1.lasts,
    )

pub returns-then-is_quiet-clause-free_left : goal.returns-then-is_quiet-clause-free_left
returns-then-is_quiet-clause-free_left g c =
    (free_before c.pop.new.self.items _ c.in-Some.conn (subst AllFree c.in-Some.ensures.items c.looking.invariant.free)).0

pub looking-preserved : goal.looking-preserved
looking-preserved g c =
    let d = c.looking.invariant.dropped in
    record {
      free = (free_before c.pop.new.self.items _ c.in-Some.conn (subst AllFree c.in-Some.ensures.items c.looking.invariant.free)).0;
      dropped = (_, dropped_before c.args.free.now.items c.looking.free.items c.pop.new.self.items d.0 c.in-Some.conn d.1 c.in-Some.ensures.items);
      capacity = c.in-Some.ensures.capacity ∙ c.looking.invariant.capacity;
    }
