-- The request that is written is one of the grammar.
use Rattle.std.proofs.Common.{◌≡◌, ℕ, ◌<◌, ◌^◌, Bool, true, false, ◌&&◌, List, [], ◌∷◌, ◌++◌, length, IsTrue, rules, refl, ap, ◌∙◌, sym, arith, append_assoc, codes, append-nil, drop, length-append, Result, Ok, Err}
use Rattle.std.proofs.lemmas.Bool.{false≢true}
use Rattle.httparse.specs.Grammar.{crlf, RequestHead, Field, IsRequestHead, print_request, IsField, AllPass, is_value_byte, is_token_byte, is_uri_byte}
use Rattle.std.specs.List.{list_all}
use Rattle.std.proofs.lemmas.Str.{IsUtf8-from_ascii}
use Rattle.std.specs.Prelude.{IsAscii, nat_lt, slice_index, OnOk, is_ok, if◌then◌else◌}
use Rattle.std.proofs.lemmas.Grind.{common_steps}
use Rattle.std.proofs.lemmas.List.Elements.{All-cons, All-nil}
use Rattle.httparse.proofs.OnLiterals.{httparse_on_literals}
use Rattle.httparse.proofs.GrammarLemmas.{request_unique}
use Rattle.std.specs.Fmt.{decimal}
use Rattle.std.proofs.lemmas.Fmt.{decimal_injective}
use Rattle.httparse.specs.Ascii.{crlf_bytes}
use Rattle.relay_http.specs.WrittenRequest.{head_text, written_head, host_field, type_field, length_field}

pub printed : (host digits : List ℕ) → print_request (written_head host digits) ≡ head_text host digits
unfolding httparse_on_literals head_text
printed host digits =
    let tail = codes "Content-Type: application/x-ndjson" ++ (crlf_bytes ++ (codes "Content-Length: " ++ ((digits ++ crlf_bytes) ++ []))) in
    let e : ((digits ++ crlf_bytes) ++ []) ++ crlf_bytes ≡ (digits ++ crlf_bytes) ++ crlf_bytes = ap (λ w. w ++ crlf_bytes) (append-nil (digits ++ crlf_bytes)) in
    ap (λ w. codes "POST /_bulk HTTP/1.1" ++ (crlf_bytes ++ (codes "Host: " ++ w))) (append_assoc (host ++ crlf_bytes) tail crlf_bytes ∙ append_assoc host crlf_bytes (tail ++ crlf_bytes) ∙ ap (λ w. host ++ (crlf_bytes ++ (codes "Content-Type: application/x-ndjson" ++ (crlf_bytes ++ (codes "Content-Length: " ++ w))))) e)

pub all_pass : (test : ℕ → Bool) (bytes : List ℕ) → list_all test bytes ≡ true → AllPass test bytes
all_pass test [] h = All-nil (λ b. IsTrue (test b))
all_pass test (b ∷ bytes) h = All-cons (λ b. IsTrue (test b)) b bytes (both (test b) (list_all test bytes) h).0 (all_pass test bytes (both (test b) (list_all test bytes) h).1)
  where
    both : (p q : Bool) → (p && q) ≡ true → (p ≡ true) × (q ≡ true)
    both true true e = (refl, refl)
    both true false e = absurd (false≢true e)
    both false q e = absurd (false≢true e)

ascii : (bytes : List ℕ) → list_all (λ b. nat_lt b 128) bytes ≡ true → IsAscii bytes
ascii bytes h = λ i. below bytes i h
  where
    below : (bs : List ℕ) (i : ℕ) → list_all (λ b. nat_lt b 128) bs ≡ true → slice_index bs i < 128
    below bs i e = search (rules, common_steps, e)

host_ok : (host : List ℕ) → AllPass is_value_byte (32 ∷ host) → IsField (record { name = codes "Host"; raw = 32 ∷ host; end = crlf })
unfolding httparse_on_literals
host_ok host h = record { name = (omega arith, all_pass is_token_byte (codes "Host") refl); raw = h }

type_ok : IsField (record { name = codes "Content-Type"; raw = codes " application/x-ndjson"; end = crlf })
unfolding httparse_on_literals
type_ok = record { name = (omega arith, all_pass is_token_byte (codes "Content-Type") refl); raw = all_pass is_value_byte (codes " application/x-ndjson") refl }

length_ok : (digits : List ℕ) → AllPass is_value_byte (32 ∷ digits) → IsField (record { name = codes "Content-Length"; raw = 32 ∷ digits; end = crlf })
unfolding httparse_on_literals
length_ok digits h = record { name = (omega arith, all_pass is_token_byte (codes "Content-Length") refl); raw = h }

pub is_written : (host digits : List ℕ) → AllPass is_value_byte (32 ∷ host) → AllPass is_value_byte (32 ∷ digits) → IsRequestHead (written_head host digits)
unfolding httparse_on_literals
is_written host digits h d = record {
  method = (omega arith, all_pass is_token_byte (codes "POST") refl);
  target = (omega arith, all_pass is_uri_byte (codes "/_bulk") refl);
  target_text = IsUtf8-from_ascii (codes "/_bulk") (ascii (codes "/_bulk") refl);
  minor = omega arith;
  fields = All-cons IsField (host_field host) (type_field ∷ length_field digits ∷ []) (host_ok host h)
      (All-cons IsField type_field (length_field digits ∷ []) type_ok
      (All-cons IsField (length_field digits) [] (length_ok digits d) (All-nil IsField)));
}

pub head_joined : (host digits t1 t2 t3 t4 t5 : List ℕ)
    → t1 ≡ codes "POST /_bulk HTTP/1.1" ++ (crlf_bytes ++ codes "Host: ")
    → t2 ≡ t1 ++ host
    → t3 ≡ t2 ++ (crlf_bytes ++ (codes "Content-Type: application/x-ndjson" ++ (crlf_bytes ++ codes "Content-Length: ")))
    → t4 ≡ t3 ++ digits
    → t5 ≡ t4 ++ (crlf_bytes ++ crlf_bytes)
    → t5 ≡ head_text host digits
unfolding head_text
head_joined host digits t1 t2 t3 t4 t5 e1 e2 e3 e4 e5 =
    let a = codes "POST /_bulk HTTP/1.1" ++ (crlf_bytes ++ codes "Host: ") in
    let b = crlf_bytes ++ (codes "Content-Type: application/x-ndjson" ++ (crlf_bytes ++ codes "Content-Length: ")) in
    let z = crlf_bytes ++ crlf_bytes in
    let f4 : t4 ≡ (((a ++ host) ++ b) ++ digits) = rw (e4, e3, e2, e1) refl in
    e5 ∙ ap (λ w. w ++ z) f4 ∙ regroup a host b digits z ∙ ap (λ w. a ++ (host ++ (b ++ w))) (sym (append_assoc digits crlf_bytes crlf_bytes))
  where
    regroup : (a h b d z : List ℕ) → (((a ++ h) ++ b) ++ d) ++ z ≡ a ++ (h ++ (b ++ (d ++ z)))
    regroup a h b d z = simp (append_assoc)

-- so it is if the last part was appended
pub head_ended : {A E : Type 0} (last : Result A E) (host digits e t1 t2 t3 t4 t5 : List ℕ)
    → t1 ≡ codes "POST /_bulk HTTP/1.1" ++ (crlf_bytes ++ codes "Host: ")
    → t2 ≡ t1 ++ host
    → t3 ≡ t2 ++ (crlf_bytes ++ (codes "Content-Type: application/x-ndjson" ++ (crlf_bytes ++ codes "Content-Length: ")))
    → t4 ≡ t3 ++ digits
    → e ≡ crlf_bytes ++ crlf_bytes
    → t5 ≡ (if is_ok last then t4 ++ e else t4)
    → OnOk last (t5 ≡ head_text host digits)
head_ended (Ok u) host digits e t1 t2 t3 t4 t5 e1 e2 e3 e4 e5 e6 = head_joined host digits t1 t2 t3 t4 t5 e1 e2 e3 e4 (e6 ∙ ap (λ w. t4 ++ w) e5)
head_ended (Err f) host digits e t1 t2 t3 t4 t5 e1 e2 e3 e4 e5 e6 = tt

-- no request that is written is a proper prefix of another
pub no_prefix : (h1 h2 b1 b2 x : List ℕ)
    → AllPass is_value_byte (32 ∷ h1) → AllPass is_value_byte (32 ∷ h2) → AllPass is_value_byte (32 ∷ decimal (length b1)) → AllPass is_value_byte (32 ∷ decimal (length b2))
    → length b1 < 2 ^ 64 → length b2 < 2 ^ 64
    → (head_text h1 (decimal (length b1)) ++ b1) ++ x ≡ head_text h2 (decimal (length b2)) ++ b2
    → x ≡ []
no_prefix h1 h2 b1 b2 x v1 v2 d1 d2 s1 s2 e =
    let k1 = written_head h1 (decimal (length b1)) in
    let k2 = written_head h2 (decimal (length b2)) in
    let r1 : head_text h2 (decimal (length b2)) ++ b2 ≡ print_request k1 ++ (b1 ++ x) = sym e ∙ append_assoc (head_text h1 (decimal (length b1))) b1 x ∙ ap (λ w. w ++ (b1 ++ x)) (sym (printed h1 (decimal (length b1)))) in
    let r2 : head_text h2 (decimal (length b2)) ++ b2 ≡ print_request k2 ++ b2 = ap (λ w. w ++ b2) (sym (printed h2 (decimal (length b2)))) in
    let same = request_unique _ k1 k2 (b1 ++ x) b2 (is_written h1 (decimal (length b1)) v1 d1, r1) (is_written h2 (decimal (length b2)) v2 d2, r2) in
    let digits : decimal (length b1) ≡ decimal (length b2) = ap (λ (h : RequestHead). drop 1 (third h.fields)) same.0 in
    let sizes : length b1 ≡ length b2 = decimal_injective (length b1) (length b2) s1 s2 digits in
    let total : length (b1 ++ x) ≡ length b2 = ap length same.1 in
    let parts = length-append b1 x in
    none x (omega (arith, total, parts, sizes))
  where
    third : List Field → List ℕ
    third [] = []
    third (a ∷ []) = []
    third (a ∷ (b ∷ [])) = []
    third (a ∷ (b ∷ (c ∷ fs))) = c.raw

    none : (xs : List ℕ) → length xs ≡ 0 → xs ≡ []
    none [] l = refl
    none (y ∷ xs) l = absurd (omega (arith, l))
