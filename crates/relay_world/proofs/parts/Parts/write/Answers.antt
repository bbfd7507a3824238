use Rattle.std.proofs.Common.{◌≡◌, Some, sym, ap, ◌∙◌}
use Rattle.relay_world.specs.State.{Sent, request_at, item_at, op_with, element_at}
use Rattle.std.specs.Prelude.{option_and_then}
use Rattle.relay_world.proofs.parts.Parts.write.Goals as goal

pub returns-clause-write : goal.returns-clause-write
returns-clause-write c =
    let w = c.args.self.now in
    let was : request_at w c.args.request ≡ Some c.in-Some.sent.now = sym c.in-Some.ensures in
    let item : item_at w c.args.request c.args.item ≡ Some c.in-Some-item.item.now = sym c.in-Some-item.ensures in
    record {
      sent = c.in-Some.sent.now;
      was_sent = was;
      its_item = c.in-Some-item.item.now;
      stands = sym (ap (option_and_then (λ (s : Sent). element_at s.items c.args.item)) was) ∙ item;
      op = c.in-Some-op_with.op.now;
      its_op = (λ i. op_with w (sym c.lane.ensures i) (sym c.version.ensures i)) ∙ sym c.in-Some-op_with.ensures;
      name_is = c.name.ensures;
      write_is = λ i. record { key = c.in_ok-copy.ensures i; version = c.version-2.ensures i; action = c.in_ok-copy-2.ensures i };
    }
