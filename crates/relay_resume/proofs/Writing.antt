-- The text of a state is what was appended.
use Rattle.std.proofs.Common.{◌≡◌, ℕ, List, [], ◌∷◌, ◌++◌, Bool, true, false, codes, decimal, refl, sym, ap, ◌∙◌, append_assoc, Result, Ok, Err}
use Rattle.std.specs.Prelude.{OnOk, is_ok, if◌then◌else◌}
use Rattle.json.specs.Print.{quoted}
use Rattle.serde_json.specs.Written.{comma_if, items_text}
use Rattle.serde_json.proofs.OnLiterals.{serde_json_on_literals}
use Rattle.hex.specs.Hex.{encode_lower}
use Rattle.relay_resume.specs.declared.state.InputState.{InputState}
use Rattle.relay_resume.specs.declared.state.State.{State}
use Rattle.relay_resume.specs.Texts.{inputs_data, state_text}
use Rattle.relay_resume.specs.Writing.{input_text, inputs_text}

-- ---- an input

regroup : (t a p b d c n e k f g h o l q m r z : List ℕ)
    → ((((((((t ++ (a ++ p)) ++ (b ++ d)) ++ (c ++ n)) ++ (e ++ k)) ++ (f ++ g)) ++ (h ++ o)) ++ (l ++ q)) ++ (m ++ r)) ++ z
    ≡ t ++ (a ++ (p ++ (b ++ (d ++ (c ++ (n ++ (e ++ (k ++ (f ++ (g ++ (h ++ (o ++ (l ++ (q ++ (m ++ (r ++ z))))))))))))))))
regroup t a p b d c n e k f g h o l q m r z = simp append_assoc

input_whole : (i : InputState)
    → codes "{\"path\":" ++ (quoted i.path ++ (codes ",\"device\":" ++ (decimal i.device ++ (codes ",\"inode\":" ++ (decimal i.inode
    ++ (codes ",\"checked\":" ++ (decimal i.checked ++ (codes ",\"digest\":" ++ (quoted (encode_lower i.digest) ++ (codes ",\"offset\":" ++ (decimal i.mark.offset
    ++ (codes ",\"line\":" ++ (decimal i.mark.line ++ (codes ",\"count\":" ++ (decimal i.mark.count ++ codes "}"))))))))))))))) ≡ input_text i
unfolding input_text serde_json_on_literals
input_whole i = refl

pub input_joined : {A E : Type 0} (last : Result A E) (i : InputState) (t t1 t2 t3 t4 t5 t6 t7 t8 t9 : List ℕ)
    → t1 ≡ t ++ (codes "{\"path\":" ++ quoted i.path)
    → t2 ≡ t1 ++ (codes ",\"device\":" ++ decimal i.device)
    → t3 ≡ t2 ++ (codes ",\"inode\":" ++ decimal i.inode)
    → t4 ≡ t3 ++ (codes ",\"checked\":" ++ decimal i.checked)
    → t5 ≡ t4 ++ (codes ",\"digest\":" ++ quoted (encode_lower i.digest))
    → t6 ≡ t5 ++ (codes ",\"offset\":" ++ decimal i.mark.offset)
    → t7 ≡ t6 ++ (codes ",\"line\":" ++ decimal i.mark.line)
    → t8 ≡ t7 ++ (codes ",\"count\":" ++ decimal i.mark.count)
    → t9 ≡ (if is_ok last then t8 ++ codes "}" else t8)
    → OnOk last (t9 ≡ t ++ input_text i)
input_joined (Ok u) i t t1 t2 t3 t4 t5 t6 t7 t8 t9 e1 e2 e3 e4 e5 e6 e7 e8 e9 =
    let s2 = e2 ∙ ap (λ w. w ++ (codes ",\"device\":" ++ decimal i.device)) e1 in
    let s3 = e3 ∙ ap (λ w. w ++ (codes ",\"inode\":" ++ decimal i.inode)) s2 in
    let s4 = e4 ∙ ap (λ w. w ++ (codes ",\"checked\":" ++ decimal i.checked)) s3 in
    let s5 = e5 ∙ ap (λ w. w ++ (codes ",\"digest\":" ++ quoted (encode_lower i.digest))) s4 in
    let s6 = e6 ∙ ap (λ w. w ++ (codes ",\"offset\":" ++ decimal i.mark.offset)) s5 in
    let s7 = e7 ∙ ap (λ w. w ++ (codes ",\"line\":" ++ decimal i.mark.line)) s6 in
    let s8 = e8 ∙ ap (λ w. w ++ (codes ",\"count\":" ++ decimal i.mark.count)) s7 in
    e9 ∙ ap (λ w. w ++ codes "}") s8
    ∙ regroup t (codes "{\"path\":") (quoted i.path) (codes ",\"device\":") (decimal i.device) (codes ",\"inode\":") (decimal i.inode) (codes ",\"checked\":") (decimal i.checked)
    (codes ",\"digest\":") (quoted (encode_lower i.digest)) (codes ",\"offset\":") (decimal i.mark.offset) (codes ",\"line\":") (decimal i.mark.line) (codes ",\"count\":") (decimal i.mark.count) (codes "}")
    ∙ ap (λ w. t ++ w) (input_whole i)
input_joined (Err f) i t t1 t2 t3 t4 t5 t6 t7 t8 t9 e1 e2 e3 e4 e5 e6 e7 e8 e9 = tt

-- ---- the inputs, one after another

-- one more
pub one_more_input : (t t' whole : List ℕ) (later : Bool) (i : InputState) (is rest : List InputState) → is ≡ i ∷ rest → t' ≡ t ++ (comma_if later ++ input_text i) → t ++ inputs_text later is ≡ whole
    → t' ++ inputs_text true rest ≡ whole
one_more_input t t' whole later i is rest e f s =
    ap (λ w. w ++ inputs_text true rest) f
    ∙ append_assoc t (comma_if later ++ input_text i) (inputs_text true rest)
    ∙ ap (λ w. t ++ w) (append_assoc (comma_if later) (input_text i) (inputs_text true rest))
    ∙ ap (λ l. t ++ inputs_text later l) (sym e) ∙ s

items-inputs_text : (later : Bool) (is : List InputState) → items_text later (inputs_data is) ≡ inputs_text later is
unfolding input_text
items-inputs_text later [] = refl
items-inputs_text later (i ∷ is) = ap (λ w. comma_if later ++ (input_text i ++ w)) (items-inputs_text true is)

-- ---- the state

ending : (e m w : List ℕ) → e ++ (m ++ (w ++ 125 ∷ 10 ∷ [])) ≡ (e ++ (m ++ (w ++ 125 ∷ []))) ++ 10 ∷ []
ending e m w = simp append_assoc

state_whole : (s : State) → codes "{\"epoch\":" ++ (decimal s.epoch ++ (codes ",\"inputs\":[" ++ (items_text false (inputs_data s.inputs) ++ codes "}\n"))) ≡ state_text s
unfolding state_text serde_json_on_literals
state_whole s = ap (λ w. codes "{\"epoch\":" ++ w) (ending (decimal s.epoch) (codes ",\"inputs\":[") (items_text false (inputs_data s.inputs)))

pub state_joined : (s : State) (t1 t2 t3 t4 : List ℕ)
    → t1 ≡ codes "{\"epoch\":" ++ decimal s.epoch
    → t2 ≡ t1 ++ codes ",\"inputs\":["
    → t3 ≡ t2 ++ inputs_text false s.inputs
    → t4 ≡ t3 ++ codes "}\n"
    → t4 ≡ state_text s
state_joined s t1 t2 t3 t4 e1 e2 e3 e4 =
    let d = decimal s.epoch in
    let ins = codes ",\"inputs\":[" in
    let w = inputs_text false s.inputs in
    e4 ∙ ap (λ v. v ++ codes "}\n") (e3 ∙ ap (λ v. v ++ w) (e2 ∙ ap (λ v. v ++ ins) e1))
    ∙ append_assoc ((codes "{\"epoch\":" ++ d) ++ ins) w (codes "}\n")
    ∙ append_assoc (codes "{\"epoch\":" ++ d) ins (w ++ codes "}\n")
    ∙ append_assoc (codes "{\"epoch\":") d (ins ++ (w ++ codes "}\n"))
    ∙ ap (λ v. codes "{\"epoch\":" ++ (d ++ (ins ++ (v ++ codes "}\n")))) (sym (items-inputs_text false s.inputs))
    ∙ state_whole s
