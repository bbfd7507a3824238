-- A head, and what follows it.
use Rattle.std.proofs.Common.{ℕ, false, List, ◌++◌, refl, ap, ◌∙◌, sym, subst, append_assoc}
use Rattle.std.proofs.lemmas.Bool.{false≢true}
use Rattle.relay_http.specs.Forms.{Form, Begins, IsUnique, IsHeadThen}
use Rattle.relay_http.proofs.Leading.{Leads}
use Rattle.relay_http.proofs.Leading.{moved, joined}

-- the head that a message has at the front of a stream
abbrev pub begins_then : {I A : Type 0} (H : Form I) (T : I → Form A) (s : List ℕ) → Begins (IsHeadThen H T) s → Begins H s
begins_then H T s b = record {
  front = b.message.head;
  ends = false;
  value = b.message.info;
  rest = b.message.text ++ b.rest;
  message = b.message.head_is;
  split = b.split ∙ ap (λ w. w ++ b.rest) b.message.bytes_are ∙ append_assoc b.message.head b.message.text b.rest;
  last = λ e. absurd (false≢true e);
}

-- a head at the front of a stream
abbrev pub head_there : {I : Type 0} (H : Form I) (t : List ℕ) (info : I) → H t false info → (s : List ℕ) → Begins H (t ++ s)
head_there H t info h s = record { front = t; ends = false; value = info; rest = s; message = h; split = refl; last = λ e. absurd (false≢true e) }

-- after a head comes what it leads to
pub then_leads : {I A : Type 0} (H : Form I) (T : I → Form A) → IsUnique H → (t : List ℕ) (info : I) → H t false info → Leads (IsHeadThen H T) (T info) t
then_leads H T unique t info h = record {
  peel = λ s b.
      let same = unique.same (t ++ s) (head_there H t info h s) (begins_then H T (t ++ s) b) in (
        record {
          front = b.message.text;
          ends = b.ends;
          value = b.value;
          rest = b.rest;
          message = subst (λ i. T i b.message.text b.ends b.value) (sym same.value_is) b.message.text_is;
          split = same.rest_is;
          last = b.last;
        },
        record { value_is = refl; rest_is = refl },
      );
  build = λ x ends a r. record { info = info; head = t; head_is = h; text = x; text_is = r; bytes_are = refl };
}

-- if heads and what follows them are unique, so are messages
pub then_unique : {I A : Type 0} (H : Form I) (T : I → Form A) → IsUnique H → ((info : I) → IsUnique (T info)) → IsUnique (IsHeadThen H T)
then_unique H T unique tails = record {
  same = λ s b c.
      let l = then_leads H T unique b.message.head b.message.info b.message.head_is in
      let e = (begins_then H T s b).split in
      let x = l.peel (b.message.text ++ b.rest) (moved e b) in
      let y = l.peel (b.message.text ++ b.rest) (moved e c) in
      joined b c x.0 y.0 x.1 y.1 ((tails b.message.info).same (b.message.text ++ b.rest) x.0 y.0);
}
