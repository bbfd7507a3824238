use Rattle.std.proofs.Common.{◌≡◌}
use Rattle.std.specs.List.{list_any}
use Rattle.http.specs.Request.{head_of}
use Rattle.relay_front.specs.Faces.{is_coded, is_coding}
use Rattle.relay_front.proofs.service.is_coded.Given as goal

-- whether any value that is left names a coding is whether any does
abbrev pub invariant-codings : goal.invariant-codings
invariant-codings l =
    (goal.iterator-codings).can_next l.coding-iterator ×
    (goal.iterator-codings).is_finite l.coding-iterator ×
    (is_coded (head_of l.request).headers ≡ list_any is_coding l.coding-iterator)
