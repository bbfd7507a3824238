-- The ends of a queue that was just made.
use Rattle.std.proofs.Common.{◌≡◌, ℕ, zero, suc, refl}
use Rattle.std.specs.List.{All}
use Rattle.std.proofs.lemmas.List.Elements.{All-nil, All-push}
use Rattle.relay_queue.specs.Ends.{Queue, SenderEnd, fresh, fresh_puts}

-- each is of that queue
pub fresh_puts-queue : (queue : Queue) (n : ℕ) → All (λ (p : SenderEnd). p.queue ≡ queue) (fresh_puts queue n)
fresh_puts-queue queue zero = All-nil (λ (p : SenderEnd). p.queue ≡ queue)
fresh_puts-queue queue (suc n) = All-push (λ (p : SenderEnd). p.queue ≡ queue) (fresh_puts queue n) (fresh queue n) (fresh_puts-queue queue n) refl
