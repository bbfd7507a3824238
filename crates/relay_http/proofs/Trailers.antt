-- Trailers at the front of a buffer.
use Rattle.std.proofs.Common.{ℕ, ◌≤◌, List, ◌++◌, length, ap, ◌∙◌}
use Rattle.httparse.specs.Grammar.{HasNoSection}
use Rattle.relay_http.specs.Forms.{Begins}
use Rattle.relay_http.specs.Steps.{IsTrailer}
use Rattle.relay_http.proofs.Stands.{IsShort, full_never}

trailer_short : {A : Type 0} → IsShort {A = A} 16384 IsTrailer
trailer_short = record {
  size = λ x e a m. rw m.bytes_are m.size;
  either = λ x e a m. m;
}

pub trailer_full : {A : Type 0} (buf : List ℕ) → 16384 ≤ length buf → HasNoSection buf → (more : List ℕ) → ¬ (Begins (IsTrailer {A = A}) (buf ++ more))
trailer_full buf full none = full_never IsTrailer 16384 trailer_short buf full (λ b. none b.message.fields b.message.last b.rest (b.message.grammar, b.split ∙ ap (λ w. w ++ b.rest) b.message.bytes_are))
