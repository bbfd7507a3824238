use Rattle.std.proofs.Common.{◌≡◌, ℕ, List, refl, sym, ap, subst, ◌∙◌, Some, None, IsTrue}
use Rattle.std.proofs.lemmas.Result.{err_from_is_err_and}
use Rattle.relay_action.specs.declared.write.Write.{Write}
use Rattle.relay_ndjson.specs.Bulk.{text_of}
use Rattle.relay_http.specs.WrittenRequest.{is_host, request}
use Rattle.relay_wires.specs.Peers.{MayGo, Serves, Drops}
use Rattle.relay_loop.specs.Loops.{Line, Loop, server, is_lost, FitsLoop, DoesLoop, Leaves}
use Rattle.relay_loop.proofs.Hearing.{heard_serves, heard_drops}
use Rattle.relay_loop.proofs.far_end.LoopEndPeerLoopStream.hear.Goals as goal

pub returns-in_err-left-clause-outside : goal.returns-in_err-left-clause-outside
returns-in_err-left-clause-outside c = λ d.
    let p = err_from_is_err_and c.from_residual.result c.from_residual.ensures.1 in
    let old : Loop = record { index = c.self.inside.index; script = c.self.inside.script; lost = c.self.inside.lost.items } in
    let new : Loop = record { index = c.leave.new.index; script = c.leave.new.script; lost = c.self.inside.lost.items } in
    let drops : Drops FitsLoop old new c.args.number (Some c.args.stream.written) =
    heard_drops old new c.args.number c.args.stream.written (λ host ws good may is. c.in_err-left.ensures host ws good may (c.into_written-bytes.ensures ∙ is)) in
    rw p.1 (subst (λ (w : Loop). Drops FitsLoop w new c.args.number (Some c.args.stream.written)) c.self.view_is drops)

pub returns-clause-outside : goal.returns-clause-outside
returns-clause-outside c = λ d.
    let old : Loop = record { index = c.self.inside.index; script = c.self.inside.script; lost = c.self.inside.lost.items } in
    let new : Loop = record { index = c.leave.new.index; script = c.leave.new.script; lost = c.self.inside.lost.items } in
    let leaves : (host : List ℕ) (ws : List Write) → IsTrue (is_host host) → MayGo ws → c.args.stream.written ≡ request host (text_of ws) → Leaves c.is_lost-lost.result ws (server old) (server new) c.in_ok-left.left.items =
    λ host ws good may is. c.in_ok-left.ensures host ws good may (c.into_written-bytes.ensures ∙ is) in
    let left = ap (λ (m : Line). m.left) c.with_answer.ensures in
    let serves = heard_serves old new c.args.number c.is_lost-lost.result c.args.stream.written c.in_ok-left.left.items leaves in
    subst (λ (w : Loop). Serves FitsLoop w new c.args.number (Some c.args.stream.written) (Some c.with_answer.result.left)) c.self.view_is (rw left serves)

pub returns-in_err-left-clause-does : goal.returns-in_err-left-clause-does
returns-in_err-left-clause-does c =
    let p = err_from_is_err_and c.from_residual.result c.from_residual.ensures.1 in
    let old : Loop = record { index = c.self.inside.index; script = c.self.inside.script; lost = c.self.inside.lost.items } in
    let new : Loop = record { index = c.leave.new.index; script = c.leave.new.script; lost = c.self.inside.lost.items } in
    let does : DoesLoop old new c.args.number (Some c.args.stream.written) None =
    (refl, λ host ws good may is. c.in_err-left.ensures host ws good may (c.into_written-bytes.ensures ∙ cc)) in
    rw p.1 (subst (λ (w : Loop). DoesLoop w new c.args.number (Some c.args.stream.written) None) c.self.view_is does)

pub returns-clause-does : goal.returns-clause-does
returns-clause-does c =
    let old : Loop = record { index = c.self.inside.index; script = c.self.inside.script; lost = c.self.inside.lost.items } in
    let new : Loop = record { index = c.leave.new.index; script = c.leave.new.script; lost = c.self.inside.lost.items } in
    let left = ap (λ (m : Line). Some m.left) c.with_answer.ensures in
    let asked : c.is_lost-lost.result ≡ is_lost c.args.number old = c.is_lost-lost.ensures ∙ ap (is_lost c.args.number) (sym c.self.view_is) in
    let does : DoesLoop old new c.args.number (Some c.args.stream.written) (Some (Some c.with_answer.result.left)) =
    (refl, λ host ws good may is. (c.in_ok-left.left.items, left, subst (λ l. Leaves l ws (server old) (server new) c.in_ok-left.left.items) asked (c.in_ok-left.ensures host ws good may (c.into_written-bytes.ensures ∙ cc)))) in
    subst (λ (w : Loop). DoesLoop w new c.args.number (Some c.args.stream.written) (Some (Some c.with_answer.result.left))) c.self.view_is does
