-- What follows a minus is not an integer without a sign.
use Rattle.std.proofs.Common.{◌≡◌, ◌^◌, Bool, true, false, Some, None, option_and_then, refl}
use Rattle.std.specs.Prelude.{◌&&◌, nat_lt, nat_le, if◌then◌else◌}
use Rattle.std.specs.Float.{binary64, float_is_finite}
use Rattle.fast_float.specs.Text.{Parts, digits_of, nearest, with_sign}
use Rattle.serde_json.specs.Data.{negative, float}
use Rattle.serde_json.specs.Find.{as_u64}
use Rattle.serde_json.specs.Read.{is_integer, number_from, float_of}

float_no_u64 : (sign : Bool) (p : Parts) → None ≡ option_and_then as_u64 (float_of sign p)
float_no_u64 sign p =
    elim (float_is_finite (nearest binary64 sign p)) as (λ b. None ≡ option_and_then as_u64 (if b then Some (float (nearest binary64 sign p)) else None)) [ true ↦ refl | false ↦ refl ]

pub negative_no_u64 : (p : Parts) → None ≡ option_and_then as_u64 (number_from true p)
negative_no_u64 p =
    elim (is_integer p && nat_lt 0 (digits_of p) && nat_le (digits_of p) (2 ^ 63))
    as (λ b. None ≡ option_and_then as_u64 (if b then Some (negative (with_sign true (digits_of p))) else float_of true p)) [ true ↦ refl | false ↦ float_no_u64 true p ]
