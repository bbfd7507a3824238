use Rattle.std.proofs.Common.{ap, sym, subst, ◌∙◌, true, ◌≡◌, ◌<◌, ◌≤◌, List, [], ◌++◌, append-nil, arith, length}
use Rattle.relay_action.specs.declared.mail.Mail.{Mail}
use Rattle.relay_queue.specs.Messages.{mail_of}
use Rattle.relay_queue.specs.Steps.{IsTaker}
use Rattle.relay_queue.specs.Log.{IsAllOf}
use Rattle.relay_queue.specs.Ends.{SenderEnd, TakerEnd}
use Rattle.relay_queue.proofs.Mails.{mail_of-append, length-mail_of, nothing_after}
use Rattle.relay_queue.proofs.Keeping.{meets, reads, taker-met, met_tells}
use Rattle.relay_queue.proofs.taker.Taken.meet.Goals as goal

pub absorb-requires-clause-rule : goal.absorb-requires-clause-rule
absorb-requires-clause-rule c = meets _ _ _ _ c.self.invariant.1 c.closed.invariant.1

pub learn_as-requires-clause-rule : goal.learn_as-requires-clause-rule
learn_as-requires-clause-rule c = reads _ _ (subst IsTaker (sym c.absorb.ensures.rule) (taker-met _ _ c.self.invariant.1))

-- what is queued, and what the reading shows of it and of the closed sender
told : (c : goal.After-drop-channel) → (queued : List Mail) × (length queued ≤ c.args.self.queue.capacity) × (c.args.closed.sender < c.args.self.senders) × IsAllOf (c.args.self.taken ++ queued) c.args.closed.sender c.args.closed.sent true
told c =
    let r = c.learn_as.ensures.rule in
    let t = met_tells _ _ _ r.0 c.self.invariant.1 c.absorb.ensures.rule r.1 in
    let seen = subst (λ (z : TakerEnd × SenderEnd). (length r.0 ≤ z.0.queue.capacity) × (z.1.sender < z.0.senders) × IsAllOf (z.0.taken ++ r.0) z.1.sender z.1.sent true) (λ i. (c.self.view_is i, c.closed.view_is i)) t in
    (r.0, seen.0, seen.1, seen.2)

pub returns-clause-sender : goal.returns-clause-sender
returns-clause-sender c = (told c).2

pub returns-clause-in_order : goal.returns-clause-in_order
returns-clause-in_order c = (told c).3.well_sent

pub returns-clause-done : goal.returns-clause-done
returns-clause-done c = (told c).3.done

pub returns-clause-log : goal.returns-clause-log
returns-clause-log c = let t = told c in (t.0, t.1, t.3.all)

-- the sender's messages that are queued come after those that were taken
parts : (c : goal.After-drop-channel) → c.args.closed.sent ≡ mail_of c.args.closed.sender c.args.self.taken ++ mail_of c.args.closed.sender (told c).0
parts c = (told c).3.all ∙ mail_of-append c.args.closed.sender c.args.self.taken (told c).0

pub returns-clause-front : goal.returns-clause-front
returns-clause-front c = let t = told c in (mail_of c.args.closed.sender t.0, omega (arith, length-mail_of c.args.closed.sender t.0, t.1), parts c)

pub returns-clause-whole : goal.returns-clause-whole
returns-clause-whole c done =
    let t = told c in
    let front = mail_of c.args.closed.sender c.args.self.taken in
    let rest = mail_of c.args.closed.sender t.0 in
    let none_left : rest ≡ [] = nothing_after front rest (rw (← parts c) t.3.well_sent.1) done in
    sym (parts c ∙ ap (λ l. front ++ l) none_left ∙ append-nil front)
