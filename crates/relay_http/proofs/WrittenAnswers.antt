-- The answer that is written is a reply.
use Rattle.std.proofs.Common.{◌≡◌, ◌≢◌, ℕ, ◌+◌, ◌<◌, ◌≤◌, ◌^◌, ◌/◌, ◌%◌, Bool, true, false, ◌&&◌, ◌||◌, cond, List, [], ◌∷◌, ◌++◌, length, refl, ap, ◌∙◌, sym, arith, codes, Result, Ok, Err}
use Rattle.std.specs.Prelude.{nat_lt, ◌==◌, All}
use Rattle.std.specs.List.{list_all}
use Rattle.std.specs.Fmt.{decimal}
use Rattle.std.specs.Char.{is_ascii_digit}
use Rattle.std.proofs.lemmas.Bool.{and_from, ne_eqb, true≢false}
use Rattle.std.proofs.lemmas.Bool.Decides.{nat_tests}
use Rattle.std.proofs.lemmas.Fmt.{length-decimal-le, decimal_step, decimal_digit, decimal_is_IsNumeral}
use Rattle.std.proofs.lemmas.Grind.{common_steps}
use Rattle.std.proofs.lemmas.List.Elements.{All-cons, All-nil}
use Rattle.httparse.proofs.OnLiterals.{httparse_on_literals}
use Rattle.httparse.specs.Grammar.{is_value_byte, is_token_byte, IsField, crlf, status_code, trim_ows}
use Rattle.relay_http.specs.WrittenAnswer.{IsAnswerStatus, answer, answer_text, answer_tree, reason_of, json_field, size_field, close_fields}
use Rattle.relay_http.specs.Reply.{IsReplyMessage, headers, info_of}
use Rattle.relay_http.specs.Framing.{framing_of, framing_of_fields, is_interim, keeps, reply_limit}
use Rattle.relay_http.specs.Fields.{Header, same_word, elements}
use Rattle.relay_http.specs.declared.fault.HttpFault.{HttpFault}
use Rattle.relay_http.specs.declared.fault.HttpFault.TheVariants as fault
use Rattle.relay_http.specs.declared.framing.Framing.{Framing}
use Rattle.relay_http.specs.declared.framing.Framing.TheVariants as framing
use Rattle.relay_http.proofs.Requests.{all_pass}
use Rattle.relay_http.proofs.Answers.{answered}
use Rattle.relay_http.proofs.Written.{digits_written, value_digits}
use Rattle.relay_http.proofs.AnswerLaws.{answer_framed}

three_digits : (n : ℕ) → 100 ≤ n → n < 1000 → length (decimal n) ≡ 3
three_digits n low high =
    let a = decimal_step n (omega (arith, low)) (omega (arith, high)) in
    let b = decimal_step (n / 10) (omega (arith, low)) (omega (arith, high)) in
    let c = decimal_digit (n / 10 / 10) (omega (arith, high)) in
    ap length (a ∙ ap (λ w. w ++ ((48 + n % 10) ∷ [])) (b ∙ ap (λ w. w ++ ((48 + n / 10 % 10) ∷ [])) c))

reason_ok : (a b c d e f g : Bool) → list_all is_value_byte (cond a (codes "OK") (cond b (codes "Bad Request") (cond c (codes "Content Too Large") (cond d (codes "Too Many Requests") (cond e (codes "Bad Gateway") (cond f (codes "Service Unavailable") (cond g (codes "Gateway Timeout") []))))))) ≡ true
reason_ok true b c d e f g = refl
reason_ok false true c d e f g = refl
reason_ok false false true d e f g = refl
reason_ok false false false true e f g = refl
reason_ok false false false false true f g = refl
reason_ok false false false false false true g = refl
reason_ok false false false false false false true = refl
reason_ok false false false false false false false = refl

reason_short : (a b c d e f g : Bool) → length (cond a (codes "OK") (cond b (codes "Bad Request") (cond c (codes "Content Too Large") (cond d (codes "Too Many Requests") (cond e (codes "Bad Gateway") (cond f (codes "Service Unavailable") (cond g (codes "Gateway Timeout") []))))))) ≤ 100
reason_short true b c d e f g = omega arith
reason_short false true c d e f g = omega arith
reason_short false false true d e f g = omega arith
reason_short false false false true e f g = omega arith
reason_short false false false false true f g = omega arith
reason_short false false false false false true g = omega arith
reason_short false false false false false false true = omega arith
reason_short false false false false false false false = omega arith

reason_value : (n : ℕ) → list_all is_value_byte (reason_of n) ≡ true
reason_value n = reason_ok (n == 200) (n == 400) (n == 413) (n == 429) (n == 502) (n == 503) (n == 504)

reason_size : (n : ℕ) → length (reason_of n) ≤ 100
reason_size n = reason_short (n == 200) (n == 400) (n == 413) (n == 429) (n == 502) (n == 503) (n == 504)

answer_size : (status reason digits : List ℕ) (keep : Bool) → length status ≡ 3 → length reason ≤ 100 → length digits ≤ 20 → length (answer_text status reason digits keep) ≤ 16384
unfolding answer_text
answer_size status reason digits true s r d = grind (arith, common_steps, s, r, d)
answer_size status reason digits false s r d = grind (arith, common_steps, s, r, d)

json_ok : IsField json_field
unfolding httparse_on_literals
json_ok = record { name = (omega arith, all_pass is_token_byte (codes "Content-Type") refl); raw = all_pass is_value_byte (codes " application/json") refl }

size_ok : (digits : List ℕ) → list_all is_value_byte digits ≡ true → IsField (size_field digits)
unfolding httparse_on_literals
size_ok digits v = record { name = (omega arith, all_pass is_token_byte (codes "Content-Length") refl); raw = all_pass is_value_byte (32 ∷ digits) (and_from _ _ refl v) }

fields_ok : (digits : List ℕ) (keep : Bool) → list_all is_value_byte digits ≡ true → All IsField (json_field ∷ size_field digits ∷ close_fields keep)
unfolding httparse_on_literals
fields_ok digits true v = All-cons IsField json_field (size_field digits ∷ []) json_ok (All-cons IsField (size_field digits) [] (size_ok digits v) (All-nil IsField))
fields_ok digits false v = All-cons IsField json_field (size_field digits ∷ close_fields false) json_ok (All-cons IsField (size_field digits) (close_fields false) (size_ok digits v) (All-cons IsField (record { name = codes "Connection"; raw = codes " close"; end = crlf }) [] (record { name = (omega arith, all_pass is_token_byte (codes "Connection") refl); raw = all_pass is_value_byte (codes " close") refl }) (All-nil IsField)))

answer_keeps : (status reason digits : List ℕ) (keep : Bool) → keeps 1 (headers (answer_tree status reason digits keep)) ≡ keep
unfolding same_word elements trim_ows
answer_keeps status reason digits true = refl
answer_keeps status reason digits false = refl

few_fields : (digits : List ℕ) (keep : Bool) → length (json_field ∷ size_field digits ∷ close_fields keep) ≤ 64
few_fields digits true = omega arith
few_fields digits false = omega arith

by_tests : (i a b c d : Bool) (r : Result Framing HttpFault) → i ≡ false → a ≡ false → b ≡ false → c ≡ false → d ≡ false → cond i (Err fault.TooManyInterim) (cond (a || b) (Err fault.Malformed) (cond (c || d) (Ok framing.Absent) r)) ≡ r
by_tests false false false false false r i e f g h = refl
by_tests true a b c d r i e f g h = absurd (true≢false i)
by_tests false true b c d r i e f g h = absurd (true≢false e)
by_tests false false true c d r i e f g h = absurd (true≢false f)
by_tests false false false true d r i e f g h = absurd (true≢false g)
by_tests false false false false true r i e f g h = absurd (true≢false h)

not_interim : (n : ℕ) → 200 ≤ n → is_interim n ≡ false
not_interim n low = grind (arith, nat_tests, low)

status_framed : (n : ℕ) (fields : List Header) → 200 ≤ n → n ≤ 599 → n ≢ 204 → n ≢ 304 → framing_of n fields ≡ framing_of_fields reply_limit framing.ToEnd fields
status_framed n fields low high a b = by_tests (is_interim n) (nat_lt n 200) (nat_lt 599 n) (n == 204) (n == 304) _ (not_interim n low) (grind (arith, nat_tests, low)) (grind (arith, nat_tests, high)) (ne_eqb n 204 a) (ne_eqb n 304 b)

pub answer_written : (n : ℕ) (body : List ℕ) (keep : Bool) → IsAnswerStatus n → length body ≤ 67108864
    → IsReplyMessage (answer n body keep) false (record { status = n; body = body; keep = keep })
answer_written n body keep good fits =
    let low = good.0 in
    let high = good.1 in
    let m = length body in
    let small : m < 2 ^ 64 = omega (arith, fits) in
    let digits = decimal m in
    let tree = answer_tree (decimal n) (reason_of n) digits keep in
    let code : status_code tree ≡ n = (decimal_is_IsNumeral n (omega (arith, high))).1 in
    let three = three_digits n (omega (arith, low)) (omega (arith, high)) in
    let size = length-decimal-le 20 m (omega arith) (omega (arith, fits)) small in
    let bound = answer_size (decimal n) (reason_of n) digits keep three (reason_size n) size in
    let total = ap length (answered (decimal n) (reason_of n) digits keep) in
    let values = value_digits digits (digits_written m small) in
    let final : is_interim (status_code tree) ≡ false = ap is_interim code ∙ not_interim n low in
    record {
      info = info_of tree;
      head = answer_text (decimal n) (reason_of n) digits keep;
      head_is = record {
        interim = [];
        few = omega arith;
        dropped = tt;
        head = tree;
        fits = record {
          grammar = record { minor = omega arith; digits = (three, all_pass is_ascii_digit (decimal n) (digits_written n (omega (arith, high)))); reason = all_pass is_value_byte (reason_of n) (reason_value n); fields = fields_ok digits keep values };
          size = omega (arith, total, bound);
          count = few_fields digits keep;
        };
        last = λ x. absurd (true≢false (sym x ∙ final));
        bytes_are = sym (answered (decimal n) (reason_of n) digits keep);
        info_is = refl;
      };
      text = body;
      text_is = record {
        framing = framing.Sized m;
        framed = ap (λ k. framing_of k (headers tree)) code ∙ status_framed n (headers tree) low high good.2 good.3 ∙ answer_framed reply_limit m framing.ToEnd keep small fits;
        body = record { length_is = refl; same = refl };
        status_is = sym code;
        keep_is = keeps_all keep (keeps 1 (headers tree)) (answer_keeps (decimal n) (reason_of n) digits keep);
      };
      bytes_are = refl;
    }
  where
    keeps_all : (k l : Bool) → l ≡ k → k ≡ (l && true)
    keeps_all true true e = refl
    keeps_all false false e = refl
    keeps_all true false e = sym e
    keeps_all false true e = sym e
