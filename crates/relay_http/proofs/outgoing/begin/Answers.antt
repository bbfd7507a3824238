use Rattle.std.proofs.Common.{rules, refl}
use Rattle.std.specs.Fmt.{decimal}
use Rattle.relay_http.proofs.Requests.{head_ended}
use Rattle.relay_http.proofs.outgoing.begin.Goals as goal

pub returns : goal.returns
returns c =
    head_ended c.extend_from_slice-5.result c.args.host.now (decimal c.args.size) _ c.extend_from_slice.new.self.items c.extend_from_slice-2.new.self.items
    c.extend_from_slice-3.new.self.items c.extend_from_slice-4.new.self.items c.extend_from_slice-5.new.self.items
    (search rules) (search rules) c.in_ok-extend_from_slice-3.ensures.items (search rules) refl c.extend_from_slice-5.ensures.items
