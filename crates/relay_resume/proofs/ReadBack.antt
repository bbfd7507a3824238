-- Exactly the texts of states are read.
use Rattle.std.proofs.Common.{◌≡◌, ℕ, ◌+◌, ◌<◌, ◌≤◌, zero, suc, List, [], ◌∷◌, ◌++◌, length, get_or, drop, Option, Some, None, Result, Ok, Err, refl, sym, ap, ◌∙◌, subst, arith, append_assoc, option_map, option_and_then, unwrap_or, IsUtf8}
use Rattle.std.specs.Prelude.{IsTrue}
use Rattle.std.proofs.lemmas.List.{append_cancel_right, drop_more}
use Rattle.serde_json.specs.Data.{Data, Items, item}
use Rattle.serde_json.specs.Written.{compact_text}
use Rattle.relay_resume.specs.declared.state.InputState.{InputState}
use Rattle.relay_resume.specs.declared.state.State.{State}
use Rattle.relay_resume.specs.declared.fault.StateFault.{StateFault}
use Rattle.relay_resume.specs.declared.fault.StateFault.TheVariants as fault
use Rattle.relay_resume.specs.States.{IsState, fits}
use Rattle.relay_resume.specs.Texts.{state_data, state_text, Reads}
use Rattle.relay_resume.specs.Finding.{and_inputs, input_of, inputs_of, state_of, state_read, IsFoundIn}
use Rattle.relay_resume.specs.Reading.{Accepts, IsLineOf}
use Rattle.relay_resume.proofs.Json.{read-state, state-found}
use Rattle.relay_resume.proofs.Utf8.{state-utf8}

-- ---- the line of a state

line_is : (bytes line : List ℕ) (t : State) → bytes ≡ line ++ 10 ∷ [] → bytes ≡ state_text t → line ≡ compact_text (state_data t)
unfolding state_text
line_is bytes line t e f = append_cancel_right line (compact_text (state_data t)) (10 ∷ []) (sym e ∙ f)

read_line : (line : List ℕ) (t : State) → IsState t → line ≡ compact_text (state_data t) → state_read line ≡ Some t
read_line line t h e = ap state_read e ∙ ap (option_and_then state_of) (read-state t h) ∙ state-found t h

-- ---- what is read

pub no_line : (bytes : List ℕ) → IsLineOf bytes None → Reads bytes (Err fault.Form)
unfolding state_text
no_line bytes n t h e = n (compact_text (state_data t)) e

some_none : (t : State) (o : Option State) → o ≡ Some t → o ≡ None → ⊥
some_none t o e f = cc

pub none_found : (bytes line : List ℕ) → bytes ≡ line ++ 10 ∷ [] → IsFoundIn line None → Reads bytes (Err fault.Form)
none_found bytes line e n t h f =
    let l = line_is bytes line t e f in
    some_none t (state_read line) (read_line line t h l) (n (subst IsUtf8 (sym l) (state-utf8 t h)))

same_found : (bytes line : List ℕ) (found t : State) → bytes ≡ line ++ 10 ∷ [] → state_read line ≡ Some found → IsState t → bytes ≡ state_text t → found ≡ t
same_found bytes line found t e g h f = ap (λ o. unwrap_or o found) (sym g ∙ read_line line t h (line_is bytes line t e f))

pub found_reads : (bytes line : List ℕ) (found : State) (r : Result State StateFault) → bytes ≡ line ++ 10 ∷ [] → state_read line ≡ Some found → Accepts found bytes r → Reads bytes r
found_reads bytes line found (Ok s) e g a = (a.1, a.2, λ t h f. a.0 ∙ same_found bytes line found t e g h f)
found_reads bytes line found (Err fault.Form) e g a = λ t h f.
    let same = same_found bytes line found t e g h f in
    a (subst (λ s. IsTrue (fits s)) (sym same) h.fits) (f ∙ ap state_text (sym same))
found_reads bytes line found (Err fault.Memory) e g a = tt

-- ---- the inputs, one after another

pub dropped_all : {A : Type 0} (xs : List A) (i : ℕ) → length xs ≤ i → drop i xs ≡ []
dropped_all [] zero h = refl
dropped_all [] (suc i) h = refl
dropped_all (x ∷ xs) zero h = absurd (omega (arith, h))
dropped_all (x ∷ xs) (suc i) h = dropped_all xs i (omega (arith, h))

pub dropped_one : {A : Type 0} (xs : List A) (i : ℕ) (x : A) → i < length xs → x ≡ get_or xs i x → drop i xs ≡ x ∷ drop (i + 1) xs
dropped_one xs i x h e = drop_more xs i x h ∙ ap (λ y. y ∷ drop (i + 1) xs) (sym e)

-- the inputs so far and those to come
abbrev pub with_rest : List InputState → Option (List InputState) → Option (List InputState)
with_rest so_far rest = option_map (λ (is : List InputState). so_far ++ is) rest

one_more : (so_far : List InputState) (i : InputState) (rest : Option (List InputState)) → with_rest so_far (and_inputs (Some i) rest) ≡ with_rest (so_far ++ i ∷ []) rest
one_more so_far i None = refl
one_more so_far i (Some is) = ap (λ l. Some l) (sym (append_assoc so_far (i ∷ []) is))

pub input_more : (so_far : List InputState) (i : InputState) (d : Data) (all ds : Items) (whole : Option (List InputState)) → all ≡ item d ds → Some i ≡ input_of d → with_rest so_far (inputs_of all) ≡ whole
    → with_rest (so_far ++ i ∷ []) (inputs_of ds) ≡ whole
input_more so_far i d all ds whole e f s =
    sym (one_more so_far i (inputs_of ds)) ∙ ap (λ o. with_rest so_far (and_inputs o (inputs_of ds))) f ∙ ap (λ l. with_rest so_far (inputs_of l)) (sym e) ∙ s

pub input_none : (so_far : List InputState) (d : Data) (all ds : Items) (whole : Option (List InputState)) → all ≡ item d ds → None ≡ input_of d → with_rest so_far (inputs_of all) ≡ whole → None ≡ whole
input_none so_far d all ds whole e f s =
    ap (λ o. with_rest so_far (and_inputs o (inputs_of ds))) f ∙ ap (λ l. with_rest so_far (inputs_of l)) (sym e) ∙ s

pub inputs_end : (so_far : List InputState) (all : Items) (whole : Option (List InputState)) → inputs_of all ≡ Some [] → with_rest so_far (inputs_of all) ≡ whole → Some (so_far ++ []) ≡ whole
inputs_end so_far all whole e s = ap (with_rest so_far) (sym e) ∙ s
