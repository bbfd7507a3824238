use Rattle.std.proofs.Common.{sym, subst}
use Rattle.relay_json.proofs.PlainTexts.{no_quote, not_plain, if_none}
use Rattle.relay_json.specs.Plain.{IsPlain}
use Rattle.relay_json.proofs.plain.take_plain.Goals as goal

pub returns-in_err-memchr-clause-none : goal.returns-in_err-memchr-clause-none
returns-in_err-memchr-clause-none c = if_none _ (no_quote c.args.bytes.now c.in_err-memchr.ensures)

pub returns-in_err-plain_text-clause-none : goal.returns-in_err-plain_text-clause-none
returns-in_err-plain_text-clause-none c =
    if_none _ (not_plain c.args.bytes.now _ c.in_ok-memchr.ensures.0.before (λ plain. c.in_err-plain_text.ensures.none (subst IsPlain (sym c.split_at.ensures.front) plain)))
