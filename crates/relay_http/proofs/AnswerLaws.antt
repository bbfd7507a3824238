-- The answer that is written is a reply, and no such answer is a proper prefix of another.
use Rattle.std.proofs.Common.{◌≡◌, ℕ, ◌<◌, ◌≤◌, ◌^◌, Bool, true, false, List, [], ◌∷◌, ◌++◌, map, refl, ap, ◌∙◌, sym, arith, Ok, append-nil}
use Rattle.std.specs.Fmt.{decimal}
use Rattle.std.proofs.lemmas.Bool.{false≢true}
use Rattle.httparse.specs.Spans.{name_and_value}
use Rattle.httparse.specs.Grammar.{trim_ows}
use Rattle.relay_http.specs.WrittenAnswer.{json_field, size_field, close_fields}
use Rattle.relay_http.specs.Fields.{same_word, elements}
use Rattle.relay_http.specs.Forms.{Form, Begins, IsUnique}
use Rattle.relay_http.specs.Framing.{framing_of_fields, framing_of_request, framing_by_length}
use Rattle.relay_http.specs.declared.framing.Framing.{Framing}
use Rattle.relay_http.specs.declared.framing.Framing.TheVariants as framing
use Rattle.relay_http.specs.WrittenRequest.{host_field, type_field, length_field}
use Rattle.relay_http.proofs.Written.{elements_digits, digits_written, sized_written}

-- no message is a proper prefix of another of its form
pub no_proper_prefix : {A : Type 0} (M : Form A) → IsUnique M → (x y z : List ℕ) (a b : A) → M x false a → M y false b → x ++ z ≡ y → z ≡ []
no_proper_prefix M unique x y z a b m n e =
    let first : Begins M y = record { front = x; ends = false; value = a; rest = z; message = m; split = sym e; last = λ w. absurd (false≢true w) } in
    let second : Begins M y = record { front = y; ends = false; value = b; rest = []; message = n; split = sym (append-nil y); last = λ w. absurd (false≢true w) } in
    (unique.same y first second).rest_is

-- the fields of an answer frame its body by its length
answer_lengths : (limit : ℕ) (o : Framing) (digits : List ℕ) (keep : Bool) → framing_of_fields limit o (map name_and_value (json_field ∷ size_field digits ∷ close_fields keep)) ≡ framing_by_length limit o (elements (trim_ows (32 ∷ digits)) ++ [])
unfolding same_word
answer_lengths limit o digits true = refl
answer_lengths limit o digits false = refl

pub answer_framed : (limit n : ℕ) (o : Framing) (keep : Bool) → n < 2 ^ 64 → n ≤ limit → framing_of_fields limit o (map name_and_value (json_field ∷ size_field (decimal n) ∷ close_fields keep)) ≡ Ok (framing.Sized n)
answer_framed limit n o keep small fits =
    answer_lengths limit o (decimal n) keep
    ∙ ap (λ w. framing_by_length limit o (w ++ [])) (elements_digits (decimal n) (digits_written n small))
    ∙ sized_written limit n o small fits

-- those of a request too
request_lengths : (host digits : List ℕ) → framing_of_request (map name_and_value (host_field host ∷ type_field ∷ length_field digits ∷ [])) ≡ framing_by_length 16777216 framing.Absent (elements (trim_ows (32 ∷ digits)) ++ [])
unfolding same_word
request_lengths host digits = refl

pub request_framed : (host : List ℕ) (n : ℕ) → n ≤ 16777216 → framing_of_request (map name_and_value (host_field host ∷ type_field ∷ length_field (decimal n) ∷ [])) ≡ Ok (framing.Sized n)
request_framed host n fits =
    request_lengths host (decimal n)
    ∙ ap (λ w. framing_by_length 16777216 framing.Absent (w ++ [])) (elements_digits (decimal n) (digits_written n (omega (arith, fits))))
    ∙ sized_written 16777216 n framing.Absent (omega (arith, fits)) fits
