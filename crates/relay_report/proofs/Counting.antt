-- How many members an object has.
use Rattle.std.proofs.Common.{◌≡◌, List, [], ◌∷◌, length, refl, arith, String, Global}
use Rattle.serde_json.specs.View.{members_view}
use Rattle.serde_json.specs.declared.value.Value.{Value}
use Rattle.relay_report.specs.Naming.{member_count}

pub member_count-view : (entries : List (String Global × Value)) → member_count (members_view entries) ≡ length entries
member_count-view [] = refl
member_count-view (e ∷ es) = let n = member_count-view es in omega (arith, n)
