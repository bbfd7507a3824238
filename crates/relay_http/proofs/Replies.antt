-- The heads of a reply, and what they state.
use Rattle.std.proofs.Common.{◌≡◌, ℕ, zero, suc, ◌-◌, ◌<◌, ◌≤◌, Bool, true, false, not, ◌&&◌, ◌||◌, List, [], ◌∷◌, ◌++◌, length, flat_map, refl, ap, ◌∙◌, sym, subst, arith, append_assoc, inl, inr, ◌⊎◌, Result, Ok, Err, cond, nat_lt, nat_le, ◌==◌, codes}
use Rattle.std.proofs.lemmas.Bool.{false≢true}
use Rattle.std.specs.List.{AllByRecursion, list_all}
use Rattle.httparse.specs.Grammar.{ResponseHead, print_response, status_code}
use Rattle.httparse.proofs.GrammarLemmas.{response_unique}
use Rattle.relay_http.specs.Fields.{Header, has_field, values_named, elements_named, agrees, number}
use Rattle.relay_http.specs.Framing.{framing_of, framing_of_fields, is_chunked, is_interim, is_plain, framing_by_length, is_to_end, reply_limit}
use Rattle.relay_http.specs.Body.{IsBody}
use Rattle.relay_http.specs.Forms.{Form, Begins, Gives, IsUnique}
use Rattle.relay_http.proofs.Leading.{IsStated, Leads}
use Rattle.relay_http.specs.Reply.{FitsHead, headers, info_of, IsHead, IsInterim, IsHeadsWith, IsHeads, Reply, IsReplyMessage, IsReplyBody}
use Rattle.relay_http.specs.declared.fault.HttpFault.{HttpFault}
use Rattle.relay_http.specs.declared.fault.HttpFault.TheVariants as fault
use Rattle.relay_http.specs.declared.framing.Framing.{Framing}
use Rattle.relay_http.specs.declared.framing.Framing.TheVariants as framing
use Rattle.relay_http.specs.declared.head.HeadInfo.{HeadInfo}
use Rattle.relay_http.proofs.Leading.{moved, joined}
use Rattle.relay_http.proofs.Messages.{then_unique}
use Rattle.relay_http.proofs.Unique.{body_unique, ok_is}

-- ---- one head after another

-- a head at the front of a stream is the first of the heads there
first_head : (t s : List ℕ) (h k : ResponseHead) (rest : List ℕ) → FitsHead h → FitsHead k → t ≡ print_response h → t ++ s ≡ print_response k ++ rest → (h ≡ k) × (s ≡ rest)
first_head t s h k rest fh fk e f = response_unique (t ++ s) h k s rest (fh.grammar, ap (λ w. w ++ s) e) (fk.grammar, f)

-- the heads at the front of a stream, by their parts
record Parts (most : ℕ) (interim : List ResponseHead) (head : ResponseHead) : Type 0 where
  few : length interim ≤ most
  dropped : AllByRecursion IsInterim interim
  fits : FitsHead head
  last : is_interim (status_code head) ≡ true → length interim ≡ most

-- after an interim head
behind_interim : (most : ℕ) (t s : List ℕ) (h : ResponseHead) → 0 < most → IsInterim h → t ≡ print_response h
    → (interim : List ResponseHead) (head : ResponseHead) (info : HeadInfo) (rest : List ℕ) (ends : Bool)
    → Parts most interim head → info ≡ info_of head → (ends ≡ true → rest ≡ []) → t ++ s ≡ (flat_map print_response interim ++ print_response head) ++ rest
    → (b : Begins (IsHeadsWith (most - 1)) s) × Gives info rest b
behind_interim most t s h some i e [] head info rest ends p says end split =
    let same = first_head t s h head rest i.fits p.fits e split in
    let none = p.last (subst (λ k. is_interim (status_code k) ≡ true) same.0 i.status) in
    absurd (omega (arith, some, none))
behind_interim most t s h some i e (k ∷ ks) head info rest ends p says end split =
    let bytes = flat_map print_response ks ++ print_response head in
    let few = p.few in
    let same = first_head t s h k (bytes ++ rest) i.fits p.dropped.0.fits e (split ∙ ap (λ w. w ++ rest) (append_assoc (print_response k) (flat_map print_response ks) (print_response head)) ∙ append_assoc (print_response k) bytes rest) in
    let less : is_interim (status_code head) ≡ true → length ks ≡ most - 1 = λ x. let whole = p.last x in omega (arith, whole) in (
      record {
        front = bytes;
        ends = ends;
        value = info;
        rest = rest;
        message = record { interim = ks; few = omega (arith, few); dropped = p.dropped.1; head = head; fits = p.fits; last = less; bytes_are = refl; info_is = says };
        split = same.1;
        last = end;
      },
      record { value_is = refl; rest_is = refl },
    )

parts_of : (most : ℕ) (bytes : List ℕ) (ends : Bool) (info : HeadInfo) (m : IsHeadsWith most bytes ends info) → Parts most m.interim m.head
parts_of most bytes ends info m = record { few = m.few; dropped = m.dropped; fits = m.fits; last = m.last }

interim_of : (t : List ℕ) (e : Bool) (info : HeadInfo) (m : IsHead t e info) → is_interim info.status ≡ true → IsInterim m.head
interim_of t e info m i = record { fits = m.fits; status = subst (λ (k : HeadInfo). is_interim k.status ≡ true) m.info_is i }

pub interim_leads : (most : ℕ) (t : List ℕ) (e : Bool) (info : HeadInfo) → IsHead t e info → is_interim info.status ≡ true → 0 < most → Leads (IsHeadsWith most) (IsHeadsWith (most - 1)) t
interim_leads most t e info m i some =
    let is = interim_of t e info m i in
    record {
      peel = λ s b. behind_interim most t s m.head some is m.bytes_are b.message.interim b.message.head b.value b.rest b.ends (parts_of most b.front b.ends b.value b.message) b.message.info_is b.last (b.split ∙ ap (λ w. w ++ b.rest) b.message.bytes_are);
      build = λ x ends a r.
          let few = r.few in
          let more : is_interim (status_code r.head) ≡ true → length (m.head ∷ r.interim) ≡ most = λ w. let whole = r.last w in omega (arith, whole, some) in
          record {
            interim = m.head ∷ r.interim;
            few = omega (arith, few, some);
            dropped = (is, r.dropped);
            head = r.head;
            fits = r.fits;
            last = more;
            bytes_are = ap (λ w. w ++ x) m.bytes_are ∙ ap (λ w. print_response m.head ++ w) r.bytes_are ∙ sym (append_assoc (print_response m.head) (flat_map print_response r.interim) (print_response r.head));
            info_is = r.info_is;
          };
    }

-- a head that is the last makes the heads whole
pub last_is : (most : ℕ) (t : List ℕ) (e : Bool) (info : HeadInfo) → IsHead t e info → (is_interim info.status ≡ true → most ≡ 0) → IsHeadsWith most t e info
last_is most t e info m last = record {
  interim = [];
  few = omega arith;
  dropped = tt;
  head = m.head;
  fits = m.fits;
  last = λ x. sym (last (subst (λ (k : HeadInfo). is_interim k.status ≡ true) (sym m.info_is) x));
  bytes_are = m.bytes_are;
  info_is = m.info_is;
}

-- heads begin with a head
pub begins_head : (most : ℕ) (s : List ℕ) → Begins (IsHeadsWith most) s → Begins IsHead s
begins_head most s b = first b.message.interim b.message.dropped (b.split ∙ ap (λ w. w ++ b.rest) b.message.bytes_are)
  where
    head_of : (h : ResponseHead) (rest : List ℕ) → FitsHead h → s ≡ print_response h ++ rest → Begins IsHead s
    head_of h rest fits e = record { front = print_response h; ends = false; value = info_of h; rest = rest; message = record { head = h; fits = fits; bytes_are = refl; info_is = refl }; split = e; last = λ x. absurd (false≢true x) }

    first : (interim : List ResponseHead) → AllByRecursion IsInterim interim → s ≡ (flat_map print_response interim ++ print_response b.message.head) ++ b.rest → Begins IsHead s
    first [] d e = head_of b.message.head b.rest b.message.fits e
    first (k ∷ ks) d e =
        let bytes = flat_map print_response ks ++ print_response b.message.head in
        head_of k (bytes ++ b.rest) d.0.fits (e ∙ ap (λ w. w ++ b.rest) (append_assoc (print_response k) (flat_map print_response ks) (print_response b.message.head)) ∙ append_assoc (print_response k) bytes b.rest)

-- ---- heads are unique

-- if the first head is the last one, it is all
only : (most : ℕ) (s : List ℕ) (b : Begins (IsHeadsWith most) s) (h : Begins IsHead s) → (is_interim h.value.status ≡ true → most ≡ 0) → Gives h.value h.rest b
only most s b h last = alone b.message.interim b.message.few b.message.dropped (b.split ∙ ap (λ w. w ++ b.rest) b.message.bytes_are)
  where
    alone : (interim : List ResponseHead) → length interim ≤ most → AllByRecursion IsInterim interim → s ≡ (flat_map print_response interim ++ print_response b.message.head) ++ b.rest → Gives h.value h.rest b
    alone [] few d e =
        let same = first_head h.front h.rest h.message.head b.message.head b.rest h.message.fits b.message.fits h.message.bytes_are (sym h.split ∙ e) in
        record { value_is = h.message.info_is ∙ ap info_of same.0 ∙ sym b.message.info_is; rest_is = same.1 }
    alone (k ∷ ks) few d e =
        let bytes = flat_map print_response ks ++ print_response b.message.head in
        let same = first_head h.front h.rest h.message.head k (bytes ++ b.rest) h.message.fits d.0.fits h.message.bytes_are (sym h.split ∙ e ∙ ap (λ w. w ++ b.rest) (append_assoc (print_response k) (flat_map print_response ks) (print_response b.message.head)) ∙ append_assoc (print_response k) bytes b.rest) in
        let i : is_interim h.value.status ≡ true = subst (λ (v : HeadInfo). is_interim v.status ≡ true) (sym h.message.info_is) (subst (λ (v : ResponseHead). is_interim (status_code v) ≡ true) (sym same.0) d.0.status) in
        let none = last i in
        absurd (omega (arith, few, none))

either : (b : Bool) → (b ≡ true) ⊎ (b ≡ false)
either true = inl refl
either false = inr refl

twice : {A : Type 0} {M : Form A} {s : List ℕ} (value : A) (rest : List ℕ) (b c : Begins M s) → Gives value rest b → Gives value rest c → Gives b.value b.rest c
twice value rest b c g h = record { value_is = sym g.value_is ∙ h.value_is; rest_is = sym g.rest_is ∙ h.rest_is }

by_status : (most : ℕ) (s : List ℕ) (b c : Begins (IsHeadsWith most) s) (h : Begins IsHead s) → (is_interim h.value.status ≡ true) ⊎ (is_interim h.value.status ≡ false) → Gives b.value b.rest c
by_status zero s b c h i = twice h.value h.rest b c (only zero s b h (λ x. refl)) (only zero s c h (λ x. refl))
by_status (suc most) s b c h (inl i) =
    let l = interim_leads (suc most) h.front h.ends h.value h.message i (omega arith) in
    let x = l.peel h.rest (moved h.split b) in
    let y = l.peel h.rest (moved h.split c) in
    let m : suc most - 1 ≡ most = omega arith in
    let next = subst (λ k. (p q : Begins (IsHeadsWith k) h.rest) → Gives p.value p.rest q) (sym m) (λ p q. by_status most h.rest p q (begins_head most h.rest p) (either (is_interim (begins_head most h.rest p).value.status))) in
    joined b c x.0 y.0 x.1 y.1 (next x.0 y.0)
by_status (suc most) s b c h (inr i) =
    let last : is_interim h.value.status ≡ true → suc most ≡ 0 = λ x. absurd (false≢true (sym i ∙ x)) in
    twice h.value h.rest b c (only (suc most) s b h last) (only (suc most) s c h last)

pub heads_unique : (most : ℕ) → IsUnique (IsHeadsWith most)
heads_unique most = record { same = λ s b c. by_status most s b c (begins_head most s b) (either (is_interim (begins_head most s b).value.status)) }

pub heads_either : (most : ℕ) (t : List ℕ) (e : Bool) (info : HeadInfo) → IsHeadsWith most t e info → IsHeadsWith most t false info
heads_either most t e info m = record { interim = m.interim; few = m.few; dropped = m.dropped; head = m.head; fits = m.fits; last = m.last; bytes_are = m.bytes_are; info_is = m.info_is }

-- ---- the faults that heads state

chosen_stated : (b : Bool) (e : HttpFault) (r : Result Framing HttpFault) → IsStated e → ((f : HttpFault) → r ≡ Err f → IsStated f) → (f : HttpFault) → cond b (Err e) r ≡ Err f → IsStated f
chosen_stated true e r is others f h = subst IsStated (err_is h) is
  where
    err_is : ◌≡◌ {A = Result Framing HttpFault} (Err e) (Err f) → e ≡ f
    err_is h = cc
chosen_stated false e r is others f h = others f h

chosen_ok : (b : Bool) (g : Framing) (r : Result Framing HttpFault) → ((f : HttpFault) → r ≡ Err f → IsStated f) → (f : HttpFault) → cond b (Ok g) r ≡ Err f → IsStated f
chosen_ok true g r others f h = absurd (cc)
chosen_ok false g r others f h = others f h

pub err_is : (e f : HttpFault) → ◌≡◌ {A = Result Framing HttpFault} (Err e) (Err f) → e ≡ f
err_is e f h = cc

chosen_sized : (b c : Bool) (g : Framing) (f : HttpFault) → cond b (cond c (Ok g) (Err fault.BodyLong)) (Err fault.Malformed) ≡ Err f → IsStated f
chosen_sized true true g f h = absurd (cc)
chosen_sized true false g f h = inr (inl (sym (err_is fault.BodyLong f h)))
chosen_sized false c g f h = inl (sym (err_is fault.Malformed f h))

sized_stated : (limit : ℕ) (o : Framing) (es : List (List ℕ)) (f : HttpFault) → framing_by_length limit o es ≡ Err f → IsStated f
sized_stated limit o [] f h = absurd (cc)
sized_stated limit o (e ∷ es) f h = chosen_sized (list_all (agrees e) (e ∷ es)) (nat_le (number e) limit) (framing.Sized (number e)) f h

pub fields_stated : (limit : ℕ) (o : Framing) (fields : List Header) (f : HttpFault) → framing_of_fields limit o fields ≡ Err f → IsStated f
fields_stated limit o fields =
    let codings = values_named (codes "transfer-encoding") fields in
    let lengths = elements_named (codes "content-length") fields in
    let coded = has_field (codes "transfer-encoding") fields in
    let last = chosen_ok (coded) framing.Chunked (framing_by_length limit o lengths) (sized_stated limit o lengths) in
    let refused = (coded && not (is_chunked codings)) || not (list_all is_plain (values_named (codes "content-encoding") fields)) in
    let middle = chosen_stated refused fault.CodedBody (cond (coded) (Ok framing.Chunked) (framing_by_length limit o lengths)) (inr (inr (inl refl))) last in
    chosen_stated (coded && has_field (codes "content-length") fields) fault.BothLengths (cond refused (Err fault.CodedBody) (cond (coded) (Ok framing.Chunked) (framing_by_length limit o lengths))) (inr (inr (inr (inl refl)))) middle

framing_stated : (status : ℕ) (fields : List Header) (f : HttpFault) → framing_of status fields ≡ Err f → IsStated f
framing_stated status fields =
    let bare = (status == 204) || (status == 304) in
    let late = cond bare (Ok framing.Absent) (framing_of_fields reply_limit framing.ToEnd fields) in
    let outer = chosen_stated (nat_lt status 200 || nat_lt 599 status) fault.Malformed late (inl refl) (chosen_ok bare framing.Absent (framing_of_fields reply_limit framing.ToEnd fields) (fields_stated reply_limit framing.ToEnd fields)) in
    chosen_stated (is_interim status) fault.TooManyInterim (cond (nat_lt status 200 || nat_lt 599 status) (Err fault.Malformed) late) (inr (inr (inr (inr refl)))) outer

pub info_stated : (most : ℕ) (t : List ℕ) (e : Bool) (info : HeadInfo) → IsHeadsWith most t e info → (f : HttpFault) → info.framing ≡ Err f → IsStated f
info_stated most t e info m f h = framing_stated (status_code m.head) (headers m.head) f (sym (ap (λ (k : HeadInfo). k.framing) m.info_is) ∙ h)

-- ---- bodies of replies

-- what follows heads that state a framing begins with a body in it
abbrev pub begins_body : (info : HeadInfo) (framing : Framing) → info.framing ≡ Ok framing → (s : List ℕ) → Begins (IsReplyBody info) s → Begins (IsBody reply_limit framing) s
begins_body info framing e s b = record {
  front = b.front;
  ends = b.ends;
  value = b.value.body;
  rest = b.rest;
  message = subst (λ f. IsBody reply_limit f b.front b.ends b.value.body) (ok_is b.message.framing framing (sym b.message.framed ∙ e)) b.message.body;
  split = b.split;
  last = b.last;
}

-- heads that state a fault have no body after them
pub stated_never : (info : HeadInfo) (f : HttpFault) → info.framing ≡ Err f → (s : List ℕ) → ¬ (Begins (IsReplyBody info) s)
stated_never info f e s b = wrong f b.message.framing (sym e ∙ b.message.framed)
  where
    wrong : (f : HttpFault) (g : Framing) → ◌≡◌ {A = Result Framing HttpFault} (Err f) (Ok g) → ⊥
    wrong f g h = cc

reply_is : (a b : Reply) → a.status ≡ b.status → a.body ≡ b.body → a.keep ≡ b.keep → a ≡ b
reply_is a b e f g = λ i. record { status = e i; body = f i; keep = g i }

body_after_unique : (info : HeadInfo) → IsUnique (IsReplyBody info)
body_after_unique info = record {
  same = λ s b c.
      let f : b.message.framing ≡ c.message.framing = ok_is b.message.framing c.message.framing (sym b.message.framed ∙ c.message.framed) in
      let x = begins_body info c.message.framing c.message.framed s b in
      let y = begins_body info c.message.framing c.message.framed s c in
      let same = (body_unique reply_limit c.message.framing).same s x y in
      record { value_is = reply_is b.value c.value (b.message.status_is ∙ sym c.message.status_is) same.value_is (b.message.keep_is ∙ ap (λ k. info.lasting && not (is_to_end k)) f ∙ sym c.message.keep_is); rest_is = same.rest_is };
}

pub reply_unique : IsUnique IsReplyMessage
reply_unique = then_unique IsHeads IsReplyBody (heads_unique 8) body_after_unique
