use Rattle.std.proofs.Common.{rules}
use Rattle.std.specs.Fmt.{decimal}
use Rattle.relay_epoch.proofs.Joining.{head_joined}
use Rattle.relay_epoch.proofs.message.add_head.Goals as goal

pub returns : goal.returns
returns c =
    head_joined c.extend_from_slice-7.result c.args.host.now c.args.target.now (decimal c.args.size) c.extend_from_slice.new.self.items c.extend_from_slice-2.new.self.items
    c.extend_from_slice-3.new.self.items c.extend_from_slice-4.new.self.items c.extend_from_slice-5.new.self.items c.extend_from_slice-6.new.self.items c.extend_from_slice-7.new.self.items
    (search rules) (search rules) c.in_ok-extend_from_slice-3.ensures.items (search rules) c.in_ok-extend_from_slice-5.ensures.items (search rules) c.extend_from_slice-7.ensures.items
