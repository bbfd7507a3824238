use Rattle.std.proofs.Common.{rules, ◌≡◌, ◌≤◌, arith, inr, refl}
use Rattle.relay_http.proofs.RequestLines.{line_at, line_full}
use Rattle.std.proofs.Common.{inl, ap, Err}
use Rattle.httparse.specs.Grammar.{HasNoRequest}
use Rattle.relay_http.proofs.Refusing.{full_front, more_request}
use Rattle.relay_http.proofs.request_line.find_request_line.Goals as goal

pub returns-in-Ok-Partial-2-clause-found : goal.returns-in-Ok-Partial-2-clause-found
returns-in-Ok-Partial-2-clause-found c =
    let none = rw c.in-Ok-Partial.field-0-is at c.in-Ok-Partial.ensures.partial in
    (inr refl, line_full c.args.buf.now (search rules) none)

pub returns-in-Ok-Complete-clause-found : goal.returns-in-Ok-Complete-clause-found
returns-in-Ok-Complete-clause-found c =
    let found = rw c.in-Ok-Complete.field-0-is at c.in-Ok-Complete.ensures.complete in
    let all = rw c.in-Ok-Complete.field-0-is at c.in-Ok-Complete.ensures.within in
    let within = all.section in
    let short : c.in-Ok-Complete.head.len ≤ 16384 = omega (arith, within.len_fits, c.requires) in
    let few : c.in-Ok-Complete.head.headers ≤ 64 = search (rules, within.count_fits) in
    (within.len_fits, line_at c.args.buf.now c.parse_request.new.headers c.in-Ok-Complete.head found.0 found.1 few short within.len_fits all.method all.path)

pub returns-in-Ok-Partial-2-clause-why : goal.returns-in-Ok-Partial-2-clause-why
returns-in-Ok-Partial-2-clause-why c = λ more.
    let none = rw c.in-Ok-Partial.field-0-is at c.in-Ok-Partial.ensures.partial in
    inl (full_front HasNoRequest 16384 c.args.buf.now more (omega (arith, c.requires, c.if-buf-lt-HEAD_LIMIT.false)) none)

pub returns-in-Err-TooManyHeaders-clause-why : goal.returns-in-Err-TooManyHeaders-clause-why
returns-in-Err-TooManyHeaders-clause-why c = λ more.
    inr (more_request _ 64 c.args.buf.now more (search rules) (c.in-Err-TooManyHeaders.ensures.too_many (ap Err c.in-Err-TooManyHeaders.field-0-is)))
