use Rattle.std.proofs.Common.{sym, ◌∙◌}
use Rattle.relay_json.proofs.PlainTexts.{utf8_plain}
use Rattle.relay_json.proofs.plain.plain_text.Goals as goal

pub from_utf8_unchecked-requires : goal.from_utf8_unchecked-requires
from_utf8_unchecked-requires c = utf8_plain c.args.bytes.now (sym c.is_plain.ensures ∙ c.if-not-is_plain.false)
