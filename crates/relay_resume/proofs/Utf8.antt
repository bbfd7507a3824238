-- The text of a state is UTF-8.
use Rattle.std.proofs.Common.{◌≡◌, ℕ, ◌+◌, ◌%◌, ◌<◌, ◌^◌, List, [], ◌∷◌, ◌++◌, Bool, true, false, codes, decimal, refl, arith, IsUtf8}
use Rattle.std.proofs.lemmas.Grind.{common_steps}
use Rattle.std.proofs.lemmas.Bool.{and_parts}
use Rattle.std.specs.Str.{IsAscii}
use Rattle.std.proofs.lemmas.Bool.{ltb-true}
use Rattle.std.proofs.lemmas.Str.{IsUtf8-append, IsUtf8-nil, IsUtf8-from_ascii}
use Rattle.std.proofs.lemmas.Str.Ascii.{IsAscii-nil, IsAscii-cons}
use Rattle.std.proofs.lemmas.Fmt.{decimal_by_steps}
use Rattle.json.specs.Print.{quoted}
use Rattle.json.proofs.Printed.Utf8.{are_ascii, IsUtf8-are_ascii, IsUtf8-quoted}
use Rattle.serde_json.specs.Data.{Data, string, number, unsigned, array, Members, member, no_members}
use Rattle.serde_json.specs.Written.{comma_if, compact_text, items_text, members_text}
use Rattle.hex.specs.Hex.{encode_lower, lower_digits}
use Rattle.hex.proofs.HexLemmas.{IsAscii-encode_with}
use Rattle.relay_resume.specs.declared.state.InputState.{InputState}
use Rattle.relay_resume.specs.declared.state.State.{State}
use Rattle.relay_resume.specs.States.{AreInputs, IsInput, IsState}
use Rattle.relay_resume.specs.Texts.{input_data, inputs_data, state_data}
use Rattle.relay_resume.proofs.Json.{epoch_small}

digit : (n : ℕ) → n < 10 → IsUtf8 ((48 + n) ∷ [])
digit n h = IsUtf8-are_ascii ((48 + n) ∷ []) (grind (arith, common_steps))

digits : (n : ℕ) → n < 2 ^ 64 → IsUtf8 (decimal n)
digits n h = decimal_by_steps (λ n ds. IsUtf8 ds) digit (λ n ds low rec. IsUtf8-append ds ((48 + n % 10) ∷ []) rec (digit (n % 10) (omega arith))) n h

comma : (later : Bool) → IsUtf8 (comma_if later)
comma true = IsUtf8-are_ascii (44 ∷ []) refl
comma false = IsUtf8-nil

ascii : (bs : List ℕ) → are_ascii bs ≡ true → IsAscii bs
ascii [] e = IsAscii-nil
ascii (b ∷ bs) e = let p = and_parts _ _ e in IsAscii-cons b bs (ltb-true _ _ p.0) (ascii bs p.1)

hex_text : (bytes : List ℕ) → IsUtf8 (encode_lower bytes)
hex_text bytes = IsUtf8-from_ascii (encode_lower bytes) (IsAscii-encode_with lower_digits bytes (ascii lower_digits refl))

one : (b : ℕ) (rest : List ℕ) → IsUtf8 (b ∷ []) → IsUtf8 rest → IsUtf8 (b ∷ rest)
one b rest u v = IsUtf8-append (b ∷ []) rest u v

more : (later : Bool) (k : List ℕ) (d : Data) (ms : Members) → IsUtf8 k → IsUtf8 (compact_text d) → IsUtf8 (members_text true ms) → IsUtf8 (members_text later (member k d ms))
more later k d ms key value rest =
    IsUtf8-append (comma_if later) (quoted k ++ 58 ∷ (compact_text d ++ members_text true ms)) (comma later)
    (IsUtf8-append (quoted k) (58 ∷ (compact_text d ++ members_text true ms)) (IsUtf8-quoted k key)
    (one 58 (compact_text d ++ members_text true ms) (IsUtf8-are_ascii (58 ∷ []) refl) (IsUtf8-append (compact_text d) (members_text true ms) value rest)))

input-utf8 : (i : InputState) → IsInput i → IsUtf8 (compact_text (input_data i))
input-utf8 i h =
    let n8 = no_members in
    let n7 = member (codes "count") (number (unsigned i.mark.count)) n8 in
    let n6 = member (codes "line") (number (unsigned i.mark.line)) n7 in
    let n5 = member (codes "offset") (number (unsigned i.mark.offset)) n6 in
    let n4 = member (codes "digest") (string (encode_lower i.digest)) n5 in
    let n3 = member (codes "checked") (number (unsigned i.checked)) n4 in
    let n2 = member (codes "inode") (number (unsigned i.inode)) n3 in
    let n1 = member (codes "device") (number (unsigned i.device)) n2 in
    let u8 : IsUtf8 (members_text true n8) = IsUtf8-are_ascii (125 ∷ []) refl in
    let u7 = more true (codes "count") (number (unsigned i.mark.count)) n8 (IsUtf8-are_ascii (codes "count") refl) (digits i.mark.count h.mark.count) u8 in
    let u6 = more true (codes "line") (number (unsigned i.mark.line)) n7 (IsUtf8-are_ascii (codes "line") refl) (digits i.mark.line h.mark.line) u7 in
    let u5 = more true (codes "offset") (number (unsigned i.mark.offset)) n6 (IsUtf8-are_ascii (codes "offset") refl) (digits i.mark.offset h.mark.offset) u6 in
    let u4 = more true (codes "digest") (string (encode_lower i.digest)) n5 (IsUtf8-are_ascii (codes "digest") refl) (IsUtf8-quoted (encode_lower i.digest) (hex_text i.digest)) u5 in
    let u3 = more true (codes "checked") (number (unsigned i.checked)) n4 (IsUtf8-are_ascii (codes "checked") refl) (digits i.checked h.checked) u4 in
    let u2 = more true (codes "inode") (number (unsigned i.inode)) n3 (IsUtf8-are_ascii (codes "inode") refl) (digits i.inode h.inode) u3 in
    let u1 = more true (codes "device") (number (unsigned i.device)) n2 (IsUtf8-are_ascii (codes "device") refl) (digits i.device h.device) u2 in
    let u0 = more false (codes "path") (string i.path) n1 (IsUtf8-are_ascii (codes "path") refl) (IsUtf8-quoted i.path h.path) u1 in
    one 123 (members_text false (member (codes "path") (string i.path) n1)) (IsUtf8-are_ascii (123 ∷ []) refl) u0

inputs-utf8 : (later : Bool) (is : List InputState) → AreInputs is → IsUtf8 (items_text later (inputs_data is))
inputs-utf8 later [] h = IsUtf8-are_ascii (93 ∷ []) refl
inputs-utf8 later (i ∷ is) h =
    IsUtf8-append (comma_if later) (compact_text (input_data i) ++ items_text true (inputs_data is)) (comma later)
    (IsUtf8-append (compact_text (input_data i)) (items_text true (inputs_data is)) (input-utf8 i h.0) (inputs-utf8 true is h.1))

pub state-utf8 : (s : State) → IsState s → IsUtf8 (compact_text (state_data s))
state-utf8 s h =
    let small = epoch_small s h.fits in
    let ms = member (codes "inputs") (array (inputs_data s.inputs)) no_members in
    let list = one 91 (items_text false (inputs_data s.inputs)) (IsUtf8-are_ascii (91 ∷ []) refl) (inputs-utf8 false s.inputs h.inputs) in
    let u1 = more true (codes "inputs") (array (inputs_data s.inputs)) no_members (IsUtf8-are_ascii (codes "inputs") refl) list (IsUtf8-are_ascii (125 ∷ []) refl) in
    let u0 = more false (codes "epoch") (number (unsigned s.epoch)) ms (IsUtf8-are_ascii (codes "epoch") refl) (digits s.epoch (omega (arith, small))) u1 in
    one 123 (members_text false (member (codes "epoch") (number (unsigned s.epoch)) ms)) (IsUtf8-are_ascii (123 ∷ []) refl) u0
