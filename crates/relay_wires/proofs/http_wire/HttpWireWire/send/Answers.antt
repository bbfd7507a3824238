use Rattle.std.proofs.Common.{rules, ◌≡◌, Err, Ok, refl, subst, string_bytes, inl, inr}
use Rattle.std.proofs.lemmas.Result.{err_from_is_err_and}
use Rattle.relay_results.specs.Outside.{Lost}
use Rattle.relay_lane.specs.Wires.{SendsOn, ExchangesOn, ShowsNext}
use Rattle.relay_wires.specs.Peers.{MayGo}
use Rattle.relay_wires.specs.Carriers.{Carrier, Sends, WritesOn}
use Rattle.relay_wires.specs.Telling.{Fits}
use Rattle.relay_results.specs.declared.cause.Loss.TheVariants as loss
use Rattle.relay_wires.proofs.Telling.{picked_none, unwritten_picked, written_on, sent_fits, unsent_fits}
use Rattle.relay_wires.proofs.Connections.{few_after, few_left, open_after, sends_none, sends_on, carried_sent}
use Rattle.relay_wires.proofs.http_wire.HttpWireWire.send.Goals as goal

pub invariant_of-self-in_err-carry : goal.invariant_of-self-in_err-carry
invariant_of-self-in_err-carry g c =
    let ensures = c.in_ok-conn.ensures in
    record {
      host = c.self.invariant.host;
      out = c.self.invariant.out;
      free = ensures.free_left;
      few = few_left c.self.inside.most _ _ c.self.inside.out.items c.self.inside.free.items c.pick.new.free.items c.in_ok-conn.conn ensures.picks.0 c.self.invariant.few;
      places = c.self.invariant.places;
      spare = rw ensures.capacity c.self.invariant.spare;
    }

pub invariant_of-self-2 : goal.invariant_of-self-2
invariant_of-self-2 g c =
    let picks = c.in_ok-conn.ensures.picks in
    let items = c.push_front_reserved.ensures.items in
    record {
      host = c.self.invariant.host;
      out = open_after c.args.number _ _ _ c.args.writes.now c.self.inside.out.items c.push_front_reserved.new.self.items c.self.inside.free.items c.pick.new.free.items c.in_ok-conn.conn c.carry.new.conn picks.0 c.in_ok-carry.ensures items c.self.invariant.out;
      free = c.in_ok-conn.ensures.free_left;
      few = few_after c.args.number c.self.inside.most _ _ c.self.inside.out.items c.push_front_reserved.new.self.items c.self.inside.free.items c.pick.new.free.items c.in_ok-conn.conn c.carry.new.conn picks.0 items c.self.invariant.few (search rules);
      places = rw c.push_front_reserved.ensures.capacity c.self.invariant.places;
      spare = rw c.in_ok-conn.ensures.capacity c.self.invariant.spare;
    }

pub returns-in_err-conn-clause-sends : goal.returns-in_err-conn-clause-sends
returns-in_err-conn-clause-sends g c =
    let p = err_from_is_err_and c.from_residual.result c.from_residual.ensures.1 in
    let now : Carrier g.row.P.Denot = record {
      host = string_bytes c.self.inside.host;
      most = c.self.inside.most;
      out = c.self.inside.out.items;
      free = c.pick.new.free.items;
      failed = g.D.Dial.failed c.pick.new.dial;
      dialled = g.D.Dial.dialled c.pick.new.dial;
      peer = c.self.inside.peer;
    } in
    rw (p.1, p.2)
    (subst (λ (w : Carrier g.row.P.Denot). Sends c.args.number c.args.writes.now w now (Err c.in_err-conn.field-0.0)) c.self.view_is
    (sends_none c.self.inside.peer c.args.number c.args.writes.now (string_bytes c.self.inside.host) c.self.inside.most c.self.inside.out.items c.self.inside.free.items c.pick.new.free.items
    (g.D.Dial.failed c.self.inside.dial) (g.D.Dial.failed c.pick.new.dial) (g.D.Dial.dialled c.self.inside.dial) (g.D.Dial.dialled c.pick.new.dial) c.in_err-conn.field-0.0 c.in_err-conn.ensures.picks))

pub returns-in_err-carry-clause-sends : goal.returns-in_err-carry-clause-sends
returns-in_err-carry-clause-sends g c =
    let p = err_from_is_err_and c.from_residual-in_err-carry.result c.from_residual-in_err-carry.ensures.1 in
    let host : c.deref.result.now ≡ string_bytes c.self.inside.host = c.deref.ensures in
    let now : Carrier g.row.P.Denot = record {
      host = string_bytes c.self.inside.host;
      most = c.self.inside.most;
      out = c.self.inside.out.items;
      free = c.pick.new.free.items;
      failed = g.D.Dial.failed c.pick.new.dial;
      dialled = g.D.Dial.dialled c.pick.new.dial;
      peer = c.self.inside.peer;
    } in
    rw (p.1, p.2)
    (subst (λ (w : Carrier g.row.P.Denot). Sends c.args.number c.args.writes.now w now (Err c.in_err-carry.field-0.0)) c.self.view_is
    (sends_on c.self.inside.peer c.args.number c.args.writes.now (string_bytes c.self.inside.host) c.self.inside.most c.self.inside.out.items c.self.inside.out.items c.self.inside.free.items c.pick.new.free.items
    (g.D.Dial.failed c.self.inside.dial) (g.D.Dial.failed c.pick.new.dial) (g.D.Dial.dialled c.self.inside.dial) (g.D.Dial.dialled c.pick.new.dial) c.in_ok-conn.conn c.carry.new.conn (Err c.in_err-carry.field-0.0)
    c.in_ok-conn.ensures.picks (subst (λ h. WritesOn h c.args.writes.now c.in_ok-conn.conn c.carry.new.conn (Err c.in_err-carry.field-0.0)) host c.in_err-carry.ensures) refl))

pub returns-clause-sends : goal.returns-clause-sends
returns-clause-sends g c =
    let host : c.deref.result.now ≡ string_bytes c.self.inside.host = c.deref.ensures in
    let now : Carrier g.row.P.Denot = record {
      host = string_bytes c.self.inside.host;
      most = c.self.inside.most;
      out = c.push_front_reserved.new.self.items;
      free = c.pick.new.free.items;
      failed = g.D.Dial.failed c.pick.new.dial;
      dialled = g.D.Dial.dialled c.pick.new.dial;
      peer = c.self.inside.peer;
    } in
    subst (λ (w : Carrier g.row.P.Denot). Sends c.args.number c.args.writes.now w now (Ok tt)) c.self.view_is
    (sends_on c.self.inside.peer c.args.number c.args.writes.now (string_bytes c.self.inside.host) c.self.inside.most c.self.inside.out.items c.push_front_reserved.new.self.items c.self.inside.free.items c.pick.new.free.items
    (g.D.Dial.failed c.self.inside.dial) (g.D.Dial.failed c.pick.new.dial) (g.D.Dial.dialled c.self.inside.dial) (g.D.Dial.dialled c.pick.new.dial) c.in_ok-conn.conn c.carry.new.conn (Ok tt)
    c.in_ok-conn.ensures.picks (subst (λ h. WritesOn h c.args.writes.now c.in_ok-conn.conn c.carry.new.conn (Ok tt)) host c.in_ok-carry.ensures) c.push_front_reserved.ensures.items)

pub returns-then-len-self-clause-carries : goal.returns-then-len-self-clause-carries
returns-then-len-self-clause-carries g c = carried_sent g.P.Peer.describes g.P.Peer.does c.args.number c.args.writes.now _ _ (Err loss.Unreachable) (inr (inl (search rules, refl)))

pub returns-in_err-conn-clause-carries : goal.returns-in_err-conn-clause-carries
returns-in_err-conn-clause-carries g c = carried_sent g.P.Peer.describes g.P.Peer.does c.args.number c.args.writes.now _ _ _ (returns-in_err-conn-clause-sends g c)

pub returns-in_err-carry-clause-carries : goal.returns-in_err-carry-clause-carries
returns-in_err-carry-clause-carries g c = carried_sent g.P.Peer.describes g.P.Peer.does c.args.number c.args.writes.now _ _ _ (returns-in_err-carry-clause-sends g c)

pub returns-clause-carries : goal.returns-clause-carries
returns-clause-carries g c = carried_sent g.P.Peer.describes g.P.Peer.does c.args.number c.args.writes.now _ _ (Ok tt) (returns-clause-sends g c)

pub returns-then-len-self-clause-outside : goal.returns-then-len-self-clause-outside
returns-then-len-self-clause-outside g c =
    let w = c.args.self.now in
    λ d o x next.
    unsent_fits g.P.Peer.fits g.met.P.Peer.keeps_sent g.met.P.Peer.keeps_answered loss.Unreachable w w o c.args.number c.args.writes.now next refl refl refl x.free x

pub returns-in_err-conn-clause-outside : goal.returns-in_err-conn-clause-outside
returns-in_err-conn-clause-outside g c =
    let p = err_from_is_err_and c.from_residual.result c.from_residual.ensures.1 in
    let old : Carrier g.row.P.Denot = record {
      host = string_bytes c.self.inside.host;
      most = c.self.inside.most;
      out = c.self.inside.out.items;
      free = c.self.inside.free.items;
      failed = g.D.Dial.failed c.self.inside.dial;
      dialled = g.D.Dial.dialled c.self.inside.dial;
      peer = c.self.inside.peer;
    } in
    let now : Carrier g.row.P.Denot = record old {
      free = c.pick.new.free.items;
      failed = g.D.Dial.failed c.pick.new.dial;
      dialled = g.D.Dial.dialled c.pick.new.dial;
    } in
    let free = picked_none c.in_err-conn.field-0.0 c.self.inside.free.items c.pick.new.free.items (g.D.Dial.failed c.self.inside.dial) (g.D.Dial.failed c.pick.new.dial)
    (g.D.Dial.dialled c.self.inside.dial) (g.D.Dial.dialled c.pick.new.dial) c.in_err-conn.ensures.picks in
    let shows : ShowsNext (g.P.Peer.describes c.args.self.now.peer) (Fits g.P.Peer.fits) c.args.self.now now c.args.number (ExchangesOn c.args.number c.args.writes.now (Lost c.in_err-conn.field-0.0)) =
    subst (λ (w : Carrier g.row.P.Denot). ShowsNext (g.P.Peer.describes w.peer) (Fits g.P.Peer.fits) w now c.args.number (ExchangesOn c.args.number c.args.writes.now (Lost c.in_err-conn.field-0.0))) c.self.view_is
    (λ d o x next. unsent_fits g.P.Peer.fits g.met.P.Peer.keeps_sent g.met.P.Peer.keeps_answered c.in_err-conn.field-0.0 old now o c.args.number c.args.writes.now next refl refl refl free x) in
    rw (p.1, p.2) shows

pub returns-in_err-carry-clause-outside : goal.returns-in_err-carry-clause-outside
returns-in_err-carry-clause-outside g c =
    let p = err_from_is_err_and c.from_residual-in_err-carry.result c.from_residual-in_err-carry.ensures.1 in
    let old : Carrier g.row.P.Denot = record {
      host = string_bytes c.self.inside.host;
      most = c.self.inside.most;
      out = c.self.inside.out.items;
      free = c.self.inside.free.items;
      failed = g.D.Dial.failed c.self.inside.dial;
      dialled = g.D.Dial.dialled c.self.inside.dial;
      peer = c.self.inside.peer;
    } in
    let now : Carrier g.row.P.Denot = record old {
      free = c.pick.new.free.items;
      failed = g.D.Dial.failed c.pick.new.dial;
      dialled = g.D.Dial.dialled c.pick.new.dial;
    } in
    let shows : ShowsNext (g.P.Peer.describes c.args.self.now.peer) (Fits g.P.Peer.fits) c.args.self.now now c.args.number (ExchangesOn c.args.number c.args.writes.now (Lost c.in_err-carry.field-0.0)) =
    subst (λ (w : Carrier g.row.P.Denot). ShowsNext (g.P.Peer.describes w.peer) (Fits g.P.Peer.fits) w now c.args.number (ExchangesOn c.args.number c.args.writes.now (Lost c.in_err-carry.field-0.0))) c.self.view_is
    (λ d o x next.
    let free = unwritten_picked _ _ c.self.inside.free.items c.pick.new.free.items c.in_ok-conn.conn c.in_ok-conn.ensures.picks.0 x.free in
    unsent_fits g.P.Peer.fits g.met.P.Peer.keeps_sent g.met.P.Peer.keeps_answered c.in_err-carry.field-0.0 old now o c.args.number c.args.writes.now next refl refl refl free.0 x) in
    rw (p.1, p.2) shows

pub returns-clause-outside : goal.returns-clause-outside
returns-clause-outside g c =
    let host : c.deref.result.now ≡ string_bytes c.self.inside.host = c.deref.ensures in
    let old : Carrier g.row.P.Denot = record {
      host = string_bytes c.self.inside.host;
      most = c.self.inside.most;
      out = c.self.inside.out.items;
      free = c.self.inside.free.items;
      failed = g.D.Dial.failed c.self.inside.dial;
      dialled = g.D.Dial.dialled c.self.inside.dial;
      peer = c.self.inside.peer;
    } in
    let now : Carrier g.row.P.Denot = record old {
      out = c.push_front_reserved.new.self.items;
      free = c.pick.new.free.items;
      failed = g.D.Dial.failed c.pick.new.dial;
      dialled = g.D.Dial.dialled c.pick.new.dial;
    } in
    let carried : WritesOn (string_bytes c.self.inside.host) c.args.writes.now c.in_ok-conn.conn c.carry.new.conn (Ok tt) =
    subst (λ h. WritesOn h c.args.writes.now c.in_ok-conn.conn c.carry.new.conn (Ok tt)) host c.in_ok-carry.ensures in
    let may : MayGo c.args.writes.now = record { dealt = c.requires.dealt; size = c.requires.bytes } in
    subst (λ (w : Carrier g.row.P.Denot). ShowsNext (g.P.Peer.describes w.peer) (Fits g.P.Peer.fits) w now c.args.number (SendsOn c.args.writes.now)) c.self.view_is
    (λ d o x next.
    let picked = unwritten_picked _ _ c.self.inside.free.items c.pick.new.free.items c.in_ok-conn.conn c.in_ok-conn.ensures.picks.0 x.free in
    let written = written_on (string_bytes c.self.inside.host) c.args.writes.now c.in_ok-conn.conn c.carry.new.conn carried picked.1 in
    sent_fits g.P.Peer.fits g.met.P.Peer.keeps_sent g.met.P.Peer.keeps_answered old now o c.args.number c.args.writes.now c.carry.new.conn next may refl refl c.push_front_reserved.ensures.items picked.0 written x)
