use Rattle.std.proofs.Common.{◌≡◌, length, Err, refl, sym, ap, subst, string_bytes, ◌∙◌, arith, inl, inr, IsTrue}
use Rattle.std.proofs.lemmas.Result.{err_from_is_err_and}
use Rattle.relay_results.specs.Outside.{Lost}
use Rattle.relay_results.specs.Words.{Mem}
use Rattle.relay_http.specs.Connection.{is_open, HasNone}
use Rattle.relay_lane.specs.Wires.{answer_of, AnswersOn, Shows}
use Rattle.relay_wires.specs.Numbers.{numbers, besides}
use Rattle.relay_wires.specs.Carriers.{Carrier, AllOutFree, Brings}
use Rattle.relay_wires.specs.Telling.{AllUnwritten, Fits}
use Rattle.relay_wires.proofs.Telling.{answered_fits, told_honest, unwritten_freed}
use Rattle.relay_wires.proofs.Numbers.{entry_of-Mem, numbers-besides, length-besides}
use Rattle.relay_wires.proofs.Connections.{open_entry, open_besides}
use Rattle.relay_wires.proofs.http_wire.HttpWireWire.receive.Goals as goal

pub bring-requires-clause-lasts : goal.bring-requires-clause-lasts
bring-requires-clause-lasts g c =
    let free = open_entry c.args.number c.self.inside.out.items c.in-Some.conn c.self.invariant.out (sym c.take.ensures.found ∙ c.in-Some.is) in
    subst (λ k. IsTrue (is_open k)) (sym c.in_ok-conn.ensures.heard.phase) free.lasts

pub bring-requires-clause-room : goal.bring-requires-clause-room
bring-requires-clause-room g c =
    let fewer = length-besides c.args.number c.self.inside.out.items c.in-Some.conn (sym c.take.ensures.found ∙ c.in-Some.is) in
    omega arith

pub invariant_of-self : goal.invariant_of-self
invariant_of-self g c =
    let fewer = length-besides c.args.number c.self.inside.out.items c.in-Some.conn (sym c.take.ensures.found ∙ c.in-Some.is) in
    let now : length c.take.new.out.items ≡ length (besides c.args.number c.self.inside.out.items) = ap length c.take.ensures.besides in
    record {
      host = c.self.invariant.host;
      out = subst AllOutFree (sym c.take.ensures.besides) (open_besides c.args.number c.self.inside.out.items c.self.invariant.out);
      free = c.self.invariant.free;
      few = omega (arith, fewer, now, c.self.invariant.few);
      places = rw c.take.ensures.capacity c.self.invariant.places;
      spare = c.self.invariant.spare;
    }

pub invariant_of-self-2 : goal.invariant_of-self-2
invariant_of-self-2 g c =
    let fewer = length-besides c.args.number c.self.inside.out.items c.in-Some.conn (sym c.take.ensures.found ∙ c.in-Some.is) in
    let now : length c.take.new.out.items ≡ length (besides c.args.number c.self.inside.out.items) = ap length c.take.ensures.besides in
    record {
      host = c.self.invariant.host;
      out = subst AllOutFree (sym c.take.ensures.besides) (open_besides c.args.number c.self.inside.out.items c.self.invariant.out);
      free = c.bring.ensures.free_left;
      few = omega (arith, fewer, now, c.bring.ensures.grows, c.self.invariant.few);
      places = rw c.take.ensures.capacity c.self.invariant.places;
      spare = rw c.bring.ensures.capacity c.self.invariant.spare;
    }

pub unreachable-requires : goal.unreachable-requires
unreachable-requires g c =
    let x = entry_of-Mem c.args.number c.args.self.now.out c.requires in
    let out = ap (λ (w : Carrier g.row.P.Denot). w.out) c.self.view_is in
    let there = x.1 in
    let asked = c.take.ensures.found in
    let none = c.in_default.is in cc

pub returns-in_err-conn-clause-out : goal.returns-in_err-conn-clause-out
returns-in_err-conn-clause-out g c = rw (c.take.ensures.besides, ← c.self.view_is) (numbers-besides c.args.number c.self.inside.out.items)

pub returns-in_err-conn-clause-brings : goal.returns-in_err-conn-clause-brings
returns-in_err-conn-clause-brings g c =
    let p = err_from_is_err_and c.from_residual.result c.from_residual.ensures.1 in
    let old : Carrier g.row.P.Denot = record {
      host = string_bytes c.self.inside.host;
      most = c.self.inside.most;
      out = c.self.inside.out.items;
      free = c.self.inside.free.items;
      failed = g.D.Dial.failed c.self.inside.dial;
      dialled = g.D.Dial.dialled c.self.inside.dial;
      peer = c.self.inside.peer;
    } in
    let new : Carrier g.row.P.Denot = record old { out = c.take.new.out.items; peer = c.hear.new.peer } in
    let brings : Brings g.P.Peer.describes g.P.Peer.does c.args.number old new c.from_residual.result = inr (record {
      described = c.in_err-conn.ensures.described;
      connection = c.in-Some.conn;
      out_on = sym c.take.ensures.found ∙ c.in-Some.is;
      done = c.in_err-conn.ensures.does;
      memory = p.1 ∙ ap Err (p.2 ∙ c.in_err-conn.ensures.memory);
      after = rw c.take.ensures.besides refl;
    }) in
    subst (λ (w : Carrier g.row.P.Denot). Brings g.P.Peer.describes g.P.Peer.does c.args.number w new c.from_residual.result) c.self.view_is brings

pub returns-in_err-conn-clause-carries : goal.returns-in_err-conn-clause-carries
returns-in_err-conn-clause-carries g c = (_, refl, returns-in_err-conn-clause-brings g c)

pub returns-in_err-conn-clause-outside : goal.returns-in_err-conn-clause-outside
returns-in_err-conn-clause-outside g c =
    let p = err_from_is_err_and c.from_residual.result c.from_residual.ensures.1 in
    let old : Carrier g.row.P.Denot = record {
      host = string_bytes c.self.inside.host;
      most = c.self.inside.most;
      out = c.self.inside.out.items;
      free = c.self.inside.free.items;
      failed = g.D.Dial.failed c.self.inside.dial;
      dialled = g.D.Dial.dialled c.self.inside.dial;
      peer = c.self.inside.peer;
    } in
    let new : Carrier g.row.P.Denot = record old { out = c.take.new.out.items; peer = c.hear.new.peer } in
    let among : Mem c.args.number (numbers c.self.inside.out.items) = subst (λ (w : Carrier g.row.P.Denot). Mem c.args.number (numbers w.out)) (sym c.self.view_is) c.requires in
    let shows : Shows (g.P.Peer.describes c.args.self.now.peer) (Fits g.P.Peer.fits) c.args.self.now new (AnswersOn c.args.number (Lost c.in_err-conn.field-0.0)) =
    subst (λ (w : Carrier g.row.P.Denot). Shows (g.P.Peer.describes w.peer) (Fits g.P.Peer.fits) w new (AnswersOn c.args.number (Lost c.in_err-conn.field-0.0))) c.self.view_is
    (λ d o x.
    answered_fits g.P.Peer.fits g.met.P.Peer.keeps_sent g.met.P.Peer.keeps_answered old new o c.args.number c.in-Some.conn (Lost c.in_err-conn.field-0.0) _ among c.self.invariant.host refl c.take.ensures.besides x.free
    (sym c.take.ensures.found ∙ c.in-Some.is) (c.in_err-conn.ensures.outside d) (λ ws q h. tt) x) in
    rw (p.1, p.2) shows

pub returns-clause-out : goal.returns-clause-out
returns-clause-out g c = rw (c.take.ensures.besides, ← c.self.view_is) (numbers-besides c.args.number c.self.inside.out.items)

pub returns-clause-brings : goal.returns-clause-brings
returns-clause-brings g c =
    let b = c.bring.ensures.brings in
    let old : Carrier g.row.P.Denot = record {
      host = string_bytes c.self.inside.host;
      most = c.self.inside.most;
      out = c.self.inside.out.items;
      free = c.self.inside.free.items;
      failed = g.D.Dial.failed c.self.inside.dial;
      dialled = g.D.Dial.dialled c.self.inside.dial;
      peer = c.self.inside.peer;
    } in
    let new : Carrier g.row.P.Denot = record old { out = c.take.new.out.items; free = c.bring.new.free.items; peer = c.hear.new.peer } in
    let brings : Brings g.P.Peer.describes g.P.Peer.does c.args.number old new c.bring.result = inl (record {
      connection = c.in-Some.conn;
      out_on = sym c.take.ensures.found ∙ c.in-Some.is;
      heard = c.in_ok-conn.conn;
      hears = c.in_ok-conn.ensures.heard;
      done = c.in_ok-conn.ensures.does;
      left = b.left;
      read = b.read;
      reads = b.reads;
      late = b.late;
      told = b.told;
      after = rw (c.take.ensures.besides, b.free) refl;
    }) in
    subst (λ (w : Carrier g.row.P.Denot). Brings g.P.Peer.describes g.P.Peer.does c.args.number w new c.bring.result) c.self.view_is brings

pub returns-clause-carries : goal.returns-clause-carries
returns-clause-carries g c = (c.bring.result, refl, returns-clause-brings g c)

pub returns-clause-outside : goal.returns-clause-outside
returns-clause-outside g c =
    let b = c.bring.ensures.brings in
    let old : Carrier g.row.P.Denot = record {
      host = string_bytes c.self.inside.host;
      most = c.self.inside.most;
      out = c.self.inside.out.items;
      free = c.self.inside.free.items;
      failed = g.D.Dial.failed c.self.inside.dial;
      dialled = g.D.Dial.dialled c.self.inside.dial;
      peer = c.self.inside.peer;
    } in
    let new : Carrier g.row.P.Denot = record old { out = c.take.new.out.items; free = c.bring.new.free.items; peer = c.hear.new.peer } in
    let there = sym c.take.ensures.found ∙ c.in-Some.is in
    let clear = c.in_ok-conn.ensures.heard.held ∙ (open_entry c.args.number c.self.inside.out.items c.in-Some.conn c.self.invariant.out there).clear in
    let among : Mem c.args.number (numbers c.self.inside.out.items) = subst (λ (w : Carrier g.row.P.Denot). Mem c.args.number (numbers w.out)) (sym c.self.view_is) c.requires in
    subst (λ (w : Carrier g.row.P.Denot). Shows (g.P.Peer.describes w.peer) (Fits g.P.Peer.fits) w new (AnswersOn c.args.number (answer_of c.bring.result))) c.self.view_is
    (λ d o x.
    let unwritten = subst HasNone (sym b.reads.written) (c.in_ok-conn.ensures.took d) in
    let free = subst AllUnwritten (sym b.free) (unwritten_freed b.read b.left c.self.inside.free.items unwritten x.free) in
    answered_fits g.P.Peer.fits g.met.P.Peer.keeps_sent g.met.P.Peer.keeps_answered old new o c.args.number c.in-Some.conn (answer_of c.bring.result) _ among c.self.invariant.host refl c.take.ensures.besides free
    there (c.in_ok-conn.ensures.outside d)
    (λ ws q h. told_honest c.args.number ws q c.in_ok-conn.conn b.left b.late b.read c.bring.result b.reads b.told clear c.bring.ensures.reply h) x)
