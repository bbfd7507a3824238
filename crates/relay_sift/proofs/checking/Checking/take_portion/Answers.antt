use Rattle.std.proofs.Common.{sym, subst, ◌≤◌, length}
use Rattle.relay_sift.specs.Listing.{Survey}
use Rattle.relay_sift.proofs.Listing.{end_within, first_within, moves_on, filled_by}
use Rattle.relay_sift.proofs.checking.Checking.take_portion.Goals as goal

pub first_line-requires : goal.first_line-requires
first_line-requires g c = first_within _ _ _ _ _ _ _ _ c.requires

pub list-requires : goal.list-requires
list-requires g c = first_within _ _ _ _ _ _ _ _ c.requires

pub move_on-requires : goal.move_on-requires
move_on-requires g c = subst (λ (s : Survey). c.args.end ≤ length s.held) (sym c.in-Ok.ensures.ok.1) (end_within _ _ _ _ _ _ _ _ c.requires)

pub returns-in-Ok-clause-ok : goal.returns-in-Ok-clause-ok
returns-in-Ok-clause-ok g c = λ left over.
    let filled = filled_by c.first_line.result.now _ c.is_empty.result c.first_line.ensures c.is_empty.ensures c.if-is_empty.false in
    moves_on left (g.W.ByteStream.written c.args.out.now) (g.W.ByteStream.written c.list.new.out) c.args.self.now c.list.new.self c.move_on.new.self c.args.first c.args.end c.args.count c.args.fault over c.requires filled c.in-Ok.ensures.ok.0 c.in-Ok.ensures.ok.1
    c.move_on.ensures
