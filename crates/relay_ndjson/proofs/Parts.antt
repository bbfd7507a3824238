-- The action line, part by part, and its length.
use Rattle.std.proofs.Common.{◌≡◌, ℕ, suc, ◌+◌, ◌*◌, ◌^◌, ◌<◌, ◌≤◌, List, ◌++◌, length, codes, decimal, refl, ap, arith, lit<, length-append, append_assoc}
use Rattle.std.proofs.Math.Nat.{pow-le-pow_right}
use Rattle.std.proofs.lemmas.Fmt.{decimal_digit, decimal_is_IsNumeral, length-decimal-le}
use Rattle.std.proofs.lemmas.Int.Digits.{digits_value-lt}
use Rattle.std.specs.Str.Parse.{digits_value}
use Rattle.std.proofs.lemmas.Grind.{common_steps}
use Rattle.json.specs.Print.{quoted, escape}
use Rattle.serde_json.proofs.OnLiterals.{serde_json_on_literals}
use Rattle.relay_action.specs.Actions.{kind_of, kind_name}
use Rattle.relay_action.specs.declared.action.Action.{Action}
use Rattle.relay_action.specs.declared.action.Action.TheVariants.{Index, Delete}
use Rattle.relay_action.specs.declared.write.Write.{Write}
use Rattle.relay_ndjson.specs.Bulk.{action_text, line_end, opening}

-- an action line, byte for byte
pub action_text-parts : (w : Write) → action_text w ≡ opening w.action ++ (escape w.key.id ++ (codes "\",\"_index\":\"" ++ (escape w.key.index ++ (codes "\",\"version\":" ++ (decimal w.version ++ codes ",\"version_type\":\"external\"}}")))))
unfolding action_text serde_json_on_literals
action_text-parts w = elim w.action as (λ a. action_text (record w { action = a }) ≡ opening a ++ (escape w.key.id ++ (codes "\",\"_index\":\"" ++ (escape w.key.index ++ (codes "\",\"version\":" ++ (decimal w.version ++ codes ",\"version_type\":\"external\"}}")))))) [ Index s ↦ simp append_assoc | Delete ↦ simp append_assoc ]

-- an action line and its end, appended part by part
pub line_in_parts : (before : List ℕ) (w : Write) → before ++ opening w.action ++ escape w.key.id ++ codes "\",\"_index\":\"" ++ escape w.key.index ++ codes "\",\"version\":" ++ decimal w.version ++ codes ",\"version_type\":\"external\"}}\n" ≡ before ++ (action_text w ++ line_end)
line_in_parts before w =
    rw (action_text-parts w) (simp append_assoc)

pub length-quoted : (text : List ℕ) → length (quoted text) ≡ length (escape text) + 2
length-quoted text = grind (arith, common_steps)

pub length-opening : (a : Action) → length (opening a) ≡ length (kind_name (kind_of a)) + 12
length-opening (Index s) = refl
length-opening Delete = refl

-- its length: 64 bytes in addition to the name, the texts and the number
pub length-action_text : (w : Write) → length (action_text w) ≡ length (kind_name (kind_of w.action)) + length (escape w.key.id) + length (escape w.key.index) + length (decimal w.version) + 64
length-action_text w =
    let last : length (codes ",\"version_type\":\"external\"}}") ≡ 28 = refl in
    let start : length (opening w.action) ≡ length (kind_name (kind_of w.action)) + 12 = length-opening w.action in
    rw (action_text-parts w) (simp length-append (omega arith))

-- ---- the digits of a number

module _ (n k : ℕ) (low : 10 ^ k ≤ n) (high : n < 10 * 10 ^ k) (fits : n < 2 ^ 64) where
  long_enough : k + 1 ≤ length (decimal n)
  long_enough =
      let numeral = decimal_is_IsNumeral n fits in
      let value : digits_value 10 (decimal n) ≡ n = numeral.1 in
      let below : digits_value 10 (decimal n) < 10 ^ length (decimal n) = digits_value-lt 10 (decimal n) numeral.0.1 in
      let less : length (decimal n) ≤ k → 10 ^ length (decimal n) ≤ 10 ^ k = pow-le-pow_right (lit< tt) in
      let no : length (decimal n) ≤ k → ⊥ = λ h. omega (arith, less h) in
      omega (arith, no)

  -- a number from a power of ten on, and below the next, has one more digit than the power
  pub length-decimal : length (decimal n) ≡ k + 1
  length-decimal = let upper = length-decimal-le (suc k) n (omega arith) (omega (arith, high)) fits in omega (arith, long_enough)

pub length-decimal_zero : length (decimal 0) ≡ 1
length-decimal_zero = ap length (decimal_digit 0 (lit< tt))

-- ---- for the tactics

pub ruleset length_of_action_text = (length-action_text)

pub ruleset length_of_decimal = (length-decimal, length-decimal_zero)
