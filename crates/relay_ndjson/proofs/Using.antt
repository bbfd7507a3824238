-- How many bytes were taken from the front.
use Rattle.std.proofs.Common.{ℕ, ◌++◌, Option, List, ap, sym, ◌∙◌, arith, length-append}
use Rattle.std.specs.Io.KnownBytes.{prepend_known}
use Rattle.relay_ndjson.specs.Operations.{UsesBytes}
use Rattle.relay_ndjson.proofs.Pieces.{prepend_known-append}

pub uses_more : (before mid after : ℕ) (old between new : Option (List ℕ)) → UsesBytes before mid old between → UsesBytes mid after between new → UsesBytes before after old new
uses_more before mid after old between new a b =
    let size = length-append a.0 b.0 in
    let x = a.2 in
    let y = b.2 in
    (a.0 ++ b.0, a.1 ∙ (ap (prepend_known a.0) b.1 ∙ sym (prepend_known-append a.0 b.0 new)), omega (arith, size, x, y))
