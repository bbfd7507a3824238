use Rattle.std.proofs.Common.{◌≡◌, ℕ, List, [], Err, refl, subst, sym, ap}
use Rattle.relay_http.specs.Connection.{Connection}
use Rattle.relay_http.specs.declared.dial.DialFault.{DialFault}
use Rattle.relay_http.specs.declared.dial.DialFault.TheVariants as dial
use Rattle.relay_wires.specs.Carriers.{PicksOne, DialsNone, loss_dialled}
use Rattle.relay_wires.proofs.carrying.pick.Goals as goal

-- whatever the fault of the dial
none_picked : (old new : List Connection) (failed later before after : ℕ) (f : DialFault) → DialsNone new failed later before after → PicksOne old new failed later before after (Err (loss_dialled f))
none_picked old new failed later before after dial.Refused d = d
none_picked old new failed later before after dial.TimedOut d = d
none_picked old new failed later before after dial.Unreachable d = d

pub returns-in-Err-clause-picks : goal.returns-in-Err-clause-picks
returns-in-Err-clause-picks g c =
    subst (λ l. PicksOne c.args.free.now.items c.take_quiet.new.free.items (g.D.Dial.failed c.args.dial.now) (g.D.Dial.failed c.dial.new.self) (g.D.Dial.dialled c.args.dial.now) (g.D.Dial.dialled c.dial.new.self) (Err l)) (sym c.loss_dialled.ensures)
    (none_picked c.args.free.now.items c.take_quiet.new.free.items (g.D.Dial.failed c.args.dial.now) (g.D.Dial.failed c.dial.new.self) (g.D.Dial.dialled c.args.dial.now) (g.D.Dial.dialled c.dial.new.self) c.in-Err.fault
    (c.in_default.ensures.finds, c.in-Err.ensures.failed, c.in-Err.ensures.dialled))
