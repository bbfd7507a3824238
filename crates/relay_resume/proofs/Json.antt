-- The text of a state reads as JSON, and the state is found in it.
use Rattle.std.proofs.Common.{◌≡◌, ℕ, ◌≤◌, ◌^◌, List, [], ◌∷◌, true, Some, codes, length, refl, sym, ap, ap₂, ◌∙◌, arith, option_and_then, append-nil}
use Rattle.std.specs.Prelude.{nat_lt, nat_le, IsTrue, option_map, ◌&&◌}
use Rattle.std.specs.List.{list_all}
use Rattle.std.proofs.lemmas.Bool.{and_parts, leb-true, lt-ltb}
use Rattle.json.specs.Json as json
use Rattle.json.specs.Lex.{tokens}
use Rattle.json.specs.Tree.{json_tokens, HasNumbers, ItemsHaveNumbers, items_depth}
use Rattle.json.proofs.Printed.Tokens.{tokens-print}
use Rattle.json.proofs.Printed.Decimals.{IsNumber-decimal}
use Rattle.json.proofs.Printed.Trees.{value-json_tokens, ArePrintable-json_tokens}
use Rattle.serde_json.specs.Data.{Num, string, number, unsigned, array, object, Items, item, Members, member, no_members, put}
use Rattle.serde_json.specs.Read.{read, of_json, of_items, max_depth}
use Rattle.serde_json.specs.Written.{compact_text, outline, items_outline}
use Rattle.serde_json.proofs.Numbers.{number_of-decimal}
use Rattle.serde_json.proofs.Texts.{print-outline}
use Rattle.serde_json.proofs.OnLiterals.{serde_json_on_literals}
use Rattle.hex.specs.Hex.{encode_lower}
use Rattle.hex.proofs.HexLemmas.{decode_sized-encode_lower}
use Rattle.relay_resume.specs.declared.state.InputState.{InputState}
use Rattle.relay_resume.specs.declared.state.State.{State}
use Rattle.relay_resume.specs.States.{AreInputs, IsInput, IsState, fits, input_fits, input_limit, last_epoch}
use Rattle.relay_resume.specs.Texts.{input_data, inputs_data, state_data}
use Rattle.relay_resume.specs.Values.{in_order, input_value, inputs_value, state_value}
use Rattle.relay_resume.specs.Finding.{and_inputs, input_of, inputs_of, state_of}

-- ---- the members that are put are those of the value, in byte order

abbrev puts : List ℕ → List ℕ → Num → Num → Num → Num → Num → Num → Members
puts path digest device inode checked offset line count =
    put (codes "count") (number count)
    (put (codes "line") (number line)
    (put (codes "offset") (number offset)
    (put (codes "digest") (string digest)
    (put (codes "checked") (number checked)
    (put (codes "inode") (number inode)
    (put (codes "device") (number device)
    (put (codes "path") (string path) no_members)))))))

puts-in_order : (path digest : List ℕ) (device inode checked offset line count : Num) → puts path digest device inode checked offset line count ≡ in_order path digest device inode checked offset line count
unfolding serde_json_on_literals
puts-in_order path digest device inode checked offset line count = refl

-- ---- what the JSON of a state is

input-of_json : (i : InputState) → IsInput i → of_json (outline (input_data i)) ≡ Some (input_value i)
input-of_json i h =
    let d = number_of-decimal i.device h.device in
    let n = number_of-decimal i.inode h.inode in
    let c = number_of-decimal i.checked h.checked in
    let o = number_of-decimal i.mark.offset h.mark.offset in
    let l = number_of-decimal i.mark.line h.mark.line in
    let k = number_of-decimal i.mark.count h.mark.count in
    rw (d, n, c, o, l, k) (ap (λ ms. Some (object ms)) (puts-in_order i.path (encode_lower i.digest) (unsigned i.device) (unsigned i.inode) (unsigned i.checked) (unsigned i.mark.offset) (unsigned i.mark.line) (unsigned i.mark.count)))

inputs-of_items : (is : List InputState) → AreInputs is → of_items (items_outline (inputs_data is)) ≡ Some (inputs_value is)
inputs-of_items [] h = refl
inputs-of_items (i ∷ is) h =
    ap (option_and_then (λ d. option_map (item d) (of_items (items_outline (inputs_data is))))) (input-of_json i h.0)
    ∙ ap (option_map (item (input_value i))) (inputs-of_items is h.1)

pub epoch_small : (s : State) → IsTrue (fits s) → s.epoch ≤ last_epoch
epoch_small s f =
    let few = nat_le s.epoch last_epoch && nat_le (length s.inputs) input_limit in
    leb-true s.epoch last_epoch (and_parts (nat_le s.epoch last_epoch) (nat_le (length s.inputs) input_limit) (and_parts few (list_all input_fits s.inputs) f).0).0

state_puts : (epoch : Num) (is : Items) → put (codes "inputs") (array is) (put (codes "epoch") (number epoch) no_members) ≡ member (codes "epoch") (number epoch) (member (codes "inputs") (array is) no_members)
unfolding serde_json_on_literals
state_puts epoch is = refl

state-of_json : (s : State) → IsState s → of_json (outline (state_data s)) ≡ Some (state_value s)
state-of_json s h =
    let small = epoch_small s h.fits in
    let e = number_of-decimal s.epoch (omega (arith, small)) in
    let w = inputs-of_items s.inputs h.inputs in
    rw (e, w) (ap (λ ms. Some (object ms)) (state_puts (unsigned s.epoch) (inputs_value s.inputs)))

-- ---- its text reads back

input_numbers : (i : InputState) → IsInput i → HasNumbers (outline (input_data i))
input_numbers i h = (
  tt,
  (
    IsNumber-decimal i.device h.device,
    (
      IsNumber-decimal i.inode h.inode,
      (
        IsNumber-decimal i.checked h.checked,
        (
          tt,
          (IsNumber-decimal i.mark.offset h.mark.offset, (IsNumber-decimal i.mark.line h.mark.line, (IsNumber-decimal i.mark.count h.mark.count, tt))),
        ),
      ),
    ),
  ),
)

inputs_numbers : (is : List InputState) → AreInputs is → ItemsHaveNumbers (items_outline (inputs_data is))
inputs_numbers [] h = tt
inputs_numbers (i ∷ is) h = (input_numbers i h.0, inputs_numbers is h.1)

inputs_shallow : (is : List InputState) → items_depth (items_outline (inputs_data is)) ≤ 1
inputs_shallow [] = omega arith
inputs_shallow (i ∷ is) = let rest = inputs_shallow is in omega (arith, rest)

pub read-state : (s : State) → IsState s → read (compact_text (state_data s)) ≡ Some (state_value s)
read-state s h =
    let d = state_data s in
    let small = epoch_small s h.fits in
    let shallow = inputs_shallow s.inputs in
    let j = outline d in
    let numbers : HasNumbers j = (IsNumber-decimal s.epoch (omega (arith, small)), (inputs_numbers s.inputs h.inputs, tt)) in
    let same : tokens (compact_text d) ≡ json_tokens j = ap tokens (sym (print-outline d)) ∙ tokens-print (json_tokens j) (ArePrintable-json_tokens j numbers) in
    ap (λ o. option_and_then of_json (option_and_then (λ p. json.if_last p.0 p.1) o))
    (ap (json.value max_depth) (same ∙ sym (append-nil (json_tokens j))) ∙ value-json_tokens j max_depth [] (omega (arith, shallow)))
    ∙ state-of_json s h

-- ---- the state is found in the value

input-found : (i : InputState) → IsInput i → input_of (input_value i) ≡ Some i
unfolding input_of serde_json_on_literals
input-found i h = let d = decode_sized-encode_lower i.digest 32 h.size h.bytes in rw d refl

inputs-found : (is : List InputState) → AreInputs is → inputs_of (inputs_value is) ≡ Some is
inputs-found [] h = refl
inputs-found (i ∷ is) h = ap₂ and_inputs (input-found i h.0) (inputs-found is h.1)

pub state-found : (s : State) → IsState s → state_of (state_value s) ≡ Some s
unfolding state_of serde_json_on_literals
state-found s h =
    let small = epoch_small s h.fits in
    let e : nat_lt s.epoch (2 ^ 32) ≡ true = lt-ltb s.epoch (2 ^ 32) (omega (arith, small)) in
    let w = inputs-found s.inputs h.inputs in
    rw (e, w) refl
