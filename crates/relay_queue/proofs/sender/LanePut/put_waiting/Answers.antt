use Rattle.std.proofs.Common.{ap, sym, subst, ◌∙◌, ◌+◌, length, false, arith}
use Rattle.crossbeam_channel.specs.Claims.{view}
use Rattle.relay_action.specs.declared.mail.Mail.{Mail}
use Rattle.relay_queue.specs.Steps.{IsSender, capacity_of, sender_of, sent_of}
use Rattle.relay_queue.proofs.Mails.{undone-push}
use Rattle.relay_queue.proofs.Keeping.{sends}
use Rattle.relay_queue.proofs.Sending.{after_send}
use Rattle.relay_queue.proofs.sender.LanePut.put_waiting.Goals as goal

pub send_as-requires-clause-rule : goal.send_as-requires-clause-rule
send_as-requires-clause-rule g c =
    let i = c.self.invariant in
    (sends false _ _ _ _ i.1 i.2 i.3 (ap (λ n. n + 1) (sym i.4)) (λ undone. undone-push _ _ undone c.requires.body), λ queued passes h at. tt)

pub invariant_of-self : goal.invariant_of-self
invariant_of-self g c =
    let i = c.self.invariant in
    let sent = c.in-Ok.ensures.rule.0 in
    let next = after_send _ _ i.1 in (
      c.in-Ok.ensures.channel.0,
      subst (IsSender false) (sym sent) next.0,
      ap capacity_of sent ∙ next.1 ∙ i.2,
      ap sender_of sent ∙ next.2 ∙ i.3,
      ap (λ k. length (sent_of k)) sent ∙ next.3 ∙ ap (λ n. n + 1) i.4,
      omega (arith, i.4, ap (λ v. length v.sent) c.self.view_is, c.requires.limit),
    )

pub returns-in-Ok-clause-limit : goal.returns-in-Ok-clause-limit
returns-in-Ok-clause-limit g c =
    let mail : Mail = record { sender = c.self.inside.sender; number = c.self.inside.count + 1; body = c.args.body } in
    let next = after_send (view c.self.inside.pass) mail c.self.invariant.1 in
    omega (arith, ap (λ k. length (sent_of k)) c.in-Ok.ensures.rule.0, next.3, ap (λ v. length v.sent) c.self.view_is, c.requires.limit)
