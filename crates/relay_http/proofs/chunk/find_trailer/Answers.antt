use Rattle.std.proofs.Common.{rules, refl, inr, arith}
use Rattle.relay_http.proofs.Trailers.{trailer_full}
use Rattle.std.proofs.Common.{inl, ap, Err}
use Rattle.httparse.specs.Grammar.{HasNoSection}
use Rattle.relay_http.proofs.Refusing.{full_front, more_section}
use Rattle.relay_http.proofs.chunk.find_trailer.Goals as goal

pub returns-in-Ok-Partial-2-clause-found : goal.returns-in-Ok-Partial-2-clause-found
returns-in-Ok-Partial-2-clause-found c =
    let none = rw c.in-Ok-Partial.field-0-is at c.in-Ok-Partial.ensures.partial in
    (inr refl, trailer_full c.args.buf.now (search rules) none)

pub returns-in-Ok-Partial-2-clause-why : goal.returns-in-Ok-Partial-2-clause-why
returns-in-Ok-Partial-2-clause-why c = λ more.
    let none = rw c.in-Ok-Partial.field-0-is at c.in-Ok-Partial.ensures.partial in
    inl (full_front HasNoSection 16384 c.args.buf.now more (omega (arith, c.requires, c.if-buf-lt-TRAILER_LIMIT.false)) none)

pub returns-in-Err-TooManyHeaders-clause-why : goal.returns-in-Err-TooManyHeaders-clause-why
returns-in-Err-TooManyHeaders-clause-why c = λ more.
    inr (more_section _ 64 c.args.buf.now more (search rules) (c.in-Err-TooManyHeaders.ensures.too_many (ap Err c.in-Err-TooManyHeaders.field-0-is)))
