use Rattle.std.proofs.Common.{sym, take, subst}
use Rattle.std.specs.Str.{IsUtf8}
use Rattle.std.proofs.lemmas.Str.{IsUtf8-had}
use Rattle.relay_action.proofs.short.ShortText.as_str.Goals as goal

pub from_utf8_unchecked-requires : goal.from_utf8_unchecked-requires
from_utf8_unchecked-requires c = subst (λ n. IsUtf8 (take n c.self.inside.bytes)) (sym c.from.ensures)
    (IsUtf8-had (take c.self.inside.len c.self.inside.bytes) c.self.inside.utf8)
