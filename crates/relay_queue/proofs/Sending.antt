-- What a sender's pass knows after one more message.
use Rattle.std.proofs.Common.{◌≡◌, ◌+◌, false, [], ◌∷◌, length, refl}
use Rattle.std.proofs.lemmas.List.{length-append}
use Rattle.relay_action.specs.declared.mail.Mail.{Mail}
use Rattle.relay_queue.specs.declared.rule.Knowledge.{Knowledge}
use Rattle.relay_queue.specs.declared.rule.Knowledge.TheVariants.{Sender, Taker, Met}
use Rattle.relay_queue.specs.Steps.{IsSender, capacity_of, sender_of, sent_of, with_sent}

pub after_send : (k : Knowledge) (m : Mail) → IsSender false k
    → IsSender false (with_sent false k m) × (capacity_of (with_sent false k m) ≡ capacity_of k) × (sender_of (with_sent false k m) ≡ sender_of k)
    × (length (sent_of (with_sent false k m)) ≡ length (sent_of k) + 1)
after_send (Sender capacity sender sent closed) m h = (refl, refl, refl, length-append sent (m ∷ []))
after_send (Taker capacity senders taken met) m h = absurd h
after_send Met m h = absurd h
