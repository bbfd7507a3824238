-- The request that is written is a request.
use Rattle.std.proofs.Common.{◌≡◌, ℕ, ◌<◌, ◌≤◌, ◌^◌, true, false, List, [], ◌∷◌, length, refl, ap, sym, arith, ◌&&◌, nat_lt, nat_le}
use Rattle.std.specs.List.{list_all}
use Rattle.std.specs.Fmt.{decimal}
use Rattle.std.proofs.lemmas.Bool.{and_from}
use Rattle.std.proofs.lemmas.Bool.Decides.{nat_tests}
use Rattle.std.proofs.lemmas.Fmt.{length-decimal-le}
use Rattle.std.proofs.lemmas.Grind.{common_steps}
use Rattle.httparse.specs.Grammar.{is_value_byte}
use Rattle.relay_http.specs.WrittenRequest.{head_room, head_text, written_head, is_visible, is_host, request}
use Rattle.relay_http.specs.Request.{IsRequest, request_headers, request_info}
use Rattle.relay_http.specs.Framing.{keeps}
use Rattle.relay_http.specs.Fields.{same_word}
use Rattle.relay_http.specs.declared.framing.Framing.TheVariants as framing
use Rattle.relay_http.proofs.Requests.{printed, is_written, all_pass}
use Rattle.relay_http.proofs.Written.{both, digits_written, value_digits}
use Rattle.relay_http.proofs.AnswerLaws.{request_framed}

head_size : (host digits : List ℕ) → length host ≤ 255 → length digits ≤ 20 → length (head_text host digits) ≤ head_room
unfolding head_text
head_size host digits h d = grind (arith, common_steps, h, d)

digits_size : (n : ℕ) → n < 2 ^ 64 → length (decimal n) ≤ 20
digits_size n small = length-decimal-le 20 n (omega arith) (omega (arith, small)) small

-- a host is short
host_size : (host : List ℕ) → is_host host ≡ true → length host ≤ 255
host_size host good =
    let short = (both (nat_le (length host) 255) (list_all is_visible host) (both (nat_lt 0 (length host)) (nat_le (length host) 255 && list_all is_visible host) good).1).0 in
    grind (arith, nat_tests, short)

-- a head has room
pub head_fits : (host : List ℕ) (n : ℕ) → is_host host ≡ true → n < 2 ^ 64 → length (head_text host (decimal n)) ≤ head_room
head_fits host n good small = head_size host (decimal n) (host_size host good) (digits_size n small)

keeps_written : (host digits : List ℕ) → keeps 1 (request_headers (written_head host digits)) ≡ true
unfolding same_word
keeps_written host digits = refl

visible_value : (b : ℕ) → is_visible b ≡ true → is_value_byte b ≡ true
visible_value b v = grind (arith, nat_tests, v)

visible_values : (bytes : List ℕ) → list_all is_visible bytes ≡ true → list_all is_value_byte bytes ≡ true
visible_values [] v = refl
visible_values (b ∷ bytes) v =
    let p = both (is_visible b) (list_all is_visible bytes) v in
    and_from _ _ (visible_value b p.0) (visible_values bytes p.1)

pub request_written : (host body : List ℕ) → is_host host ≡ true → length body ≤ 16777216
    → IsRequest (request host body) false (record { bulk = true; body = body; keep = true })
request_written host body good fits =
    let n = length body in
    let small : n < 2 ^ 64 = omega (arith, fits) in
    let digits = decimal n in
    let parts = both (nat_le (length host) 255) (list_all is_visible host) (both (nat_lt 0 (length host)) (nat_le (length host) 255 && list_all is_visible host) good).1 in
    let visible = visible_values host parts.1 in
    let total = ap length (printed host digits) in
    let bound = head_fits host n good small in
    let values = value_digits digits (digits_written n small) in
    record {
      info = request_info (written_head host digits);
      head = head_text host digits;
      head_is = record {
        head = written_head host digits;
        fits = record { grammar = is_written host digits (all_pass is_value_byte (32 ∷ host) (and_from _ _ refl visible)) (all_pass is_value_byte (32 ∷ digits) (and_from _ _ refl values)); size = omega (arith, total, bound); count = omega arith };
        bytes_are = sym (printed host digits);
        info_is = refl;
      };
      text = body;
      text_is = record {
        framing = framing.Sized n;
        framed = request_framed host n fits;
        body = record { length_is = refl; same = refl };
        bulk_is = refl;
        keep_is = sym (keeps_written host digits);
      };
      bytes_are = refl;
    }
