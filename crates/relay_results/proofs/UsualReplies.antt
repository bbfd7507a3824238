-- A reply in the usual form says what its entries say.
use denote.Ref.{Bor}
use Rattle.std.proofs.Common.{◌≡◌, ℕ, ◌^◌, ◌<◌, ◌≤◌, ◌+◌, ◌%◌, List, [], ◌∷◌, ◌++◌, Option, Some, None, IsUtf8, true, false, refl, sym, ap, ◌∙◌, subst, arith, rules, lit≤, codes, decimal, append_assoc, append-nil, option_and_then, IfSome}
use Rattle.std.specs.Prelude.{map}
use Rattle.std.proofs.lemmas.Grind.{common_steps}
use Rattle.std.proofs.lemmas.Str.{IsUtf8-append}
use Rattle.std.proofs.lemmas.Fmt.{decimal_by_steps}
use Rattle.json.specs.Json as json
use Rattle.json.specs.Lex.{tokens}
use Rattle.json.specs.Print.{ArePrintable, escape_byte, print, print_from, quoted}
use Rattle.json.specs.Token.{Token}
use Rattle.json.specs.Tree.{json_tokens, items_tokens, items_depth, depth}
use Rattle.json.proofs.Printed.Decimals.{IsNumber-decimal}
use Rattle.json.proofs.Printed.Tokens.{tokens-print}
use Rattle.json.proofs.Printed.Trees.{value-json_tokens}
use Rattle.json.proofs.Printed.Utf8.{IsUtf8-are_ascii, are_ascii}
use Rattle.serde_json.specs.Data.{Data, Items, no_items, item, Members, string, number, boolean, unsigned, array, object, member, no_members}
use Rattle.serde_json.specs.Read.{read, of_json, of_items, number_of, max_depth}
use Rattle.serde_json.proofs.Numbers.{number_of-decimal}
use Rattle.relay_action.specs.Actions.{kind_name}
use Rattle.relay_action.specs.declared.action.ActionKind.{ActionKind}
use Rattle.relay_action.specs.declared.action.ActionKind.TheVariants as action
use Rattle.relay_json.specs.Plain.{IsPlain}
use Rattle.relay_json.proofs.PlainTexts.{between_quotes, utf8_plain}
use Rattle.relay_results.specs.declared.outcome.Outcome.{Outcome}
use Rattle.relay_results.specs.declared.usual.Entry.{Entry}
use Rattle.relay_results.specs.Replies.{IsEntry, AreEntries, IsBulkReply}
use Rattle.relay_results.specs.Usual.{start_text, type_text, id_text, applied_text, shards_text, place_text, entry_text, more_text, head_text, outcome_of, IsPlainType, IsUsual, AreUsual, HasRead}

-- ---- entries one after another

more_text-snoc : (es : List Entry) (e : Entry) (rest : List ℕ) → more_text (es ++ e ∷ []) rest ≡ more_text es (codes "," ++ entry_text e rest)
more_text-snoc [] e rest = refl
more_text-snoc (x ∷ xs) e rest = ap (λ t. codes "," ++ entry_text x t) (more_text-snoc xs e rest)

outcomes-snoc : (es : List Entry) (e : Entry) → map outcome_of (es ++ e ∷ []) ≡ map outcome_of es ++ outcome_of e ∷ []
outcomes-snoc [] e = refl
outcomes-snoc (x ∷ xs) e = ap (λ os. outcome_of x ∷ os) (outcomes-snoc xs e)

usual-snoc : (es : List Entry) (e : Entry) → AreUsual es → IsUsual e → AreUsual (es ++ e ∷ [])
usual-snoc [] e h k = (k, tt)
usual-snoc (x ∷ xs) e h k = (h.0, usual-snoc xs e h.1 k)

pub one_more : (bytes : List ℕ) (os new : List Outcome) (rest more later : List ℕ) (e : Entry) → HasRead bytes os rest → rest ≡ codes "," ++ more → more ≡ entry_text e later → IsUsual e → new ≡ os ++ outcome_of e ∷ [] → HasRead bytes new later
one_more bytes os new rest more later e h comma entry usual grown = record {
  took = h.took;
  took_fits = h.took_fits;
  first = h.first;
  more = h.more ++ e ∷ [];
  first_is = h.first_is;
  more_are = usual-snoc h.more e h.more_are usual;
  text = h.text ∙ ap (λ t. head_text h.took (entry_text h.first t)) (ap (more_text h.more) (comma ∙ ap (λ (t : List ℕ). codes "," ++ t) entry) ∙ sym (more_text-snoc h.more e later));
  says = grown ∙ ap (λ xs. xs ++ outcome_of e ∷ []) h.says ∙ ap (λ xs. outcome_of h.first ∷ xs) (sym (outcomes-snoc h.more e));
}

pub first_one : (bytes : List ℕ) (took : ℕ) (new : List Outcome) (rest later : List ℕ) (e : Entry) → took < 2 ^ 64 → bytes ≡ head_text took rest → rest ≡ entry_text e later → IsUsual e → new ≡ outcome_of e ∷ [] → HasRead bytes new later
first_one bytes took new rest later e fits head entry usual grown = record {
  took = took;
  took_fits = fits;
  first = e;
  more = [];
  first_is = usual;
  more_are = tt;
  text = head ∙ ap (head_text took) entry;
  says = grown;
}

-- the same of what was read at the front, if that is a reply so far
pub first_read : (r : Option (Bor (List ℕ))) (bytes : List ℕ) (took : ℕ) (old new : List Outcome) (rest : List ℕ) → took < 2 ^ 64 → bytes ≡ head_text took rest → old ≡ []
    → IfSome r (λ later. (e : Entry) × IsUsual e × (rest ≡ entry_text e later.now) × (new ≡ old ++ outcome_of e ∷ [])) → IfSome r (λ later. HasRead bytes new later.now)
first_read None bytes took old new rest fits head empty h = tt
first_read (Some later) bytes took old new rest fits head empty h =
    first_one bytes took new rest later.now h.0 fits head h.2 h.1 (h.3 ∙ ap (λ os. os ++ outcome_of h.0 ∷ []) empty)

-- ---- an entry as a JSON value

abbrev type_json : Option (Bor (List ℕ)) → json.Members → json.Members
type_json None ms = ms
type_json (Some t) ms = json.member (codes "_type") (json.string t.now) ms

abbrev number_json : List ℕ → ℕ → json.Members → json.Members
number_json name n ms = json.member name (json.number (decimal n)) ms

abbrev shards_json : (a b c : ℕ) → json.Json
shards_json a b c = json.object (number_json (codes "total") a (number_json (codes "successful") b (number_json (codes "failed") c json.no_members)))

abbrev fields_json : (t : Option (Bor (List ℕ))) (index id result : List ℕ) (v a b c n p s : ℕ) → json.Members
fields_json t index id result v a b c n p s =
    json.member (codes "_index") (json.string index)
    (type_json t
    (json.member (codes "_id") (json.string id)
    (number_json (codes "_version") v
    (json.member (codes "result") (json.string result)
    (json.member (codes "_shards") (shards_json a b c)
    (number_json (codes "_seq_no") n (number_json (codes "_primary_term") p (number_json (codes "status") s json.no_members))))))))

abbrev line_json : (k : ActionKind) (t : Option (Bor (List ℕ))) (index id result : List ℕ) (v a b c n p s : ℕ) → json.Json
line_json k t index id result v a b c n p s = json.object (json.member (kind_name k) (json.object (fields_json t index id result v a b c n p s)) json.no_members)

abbrev entry_json : Entry → json.Json
entry_json e =
    line_json e.document.kind e.document.type_name e.document.index.now e.document.id.now e.applied.result.now
    e.applied.version e.shards.total e.shards.successful e.shards.failed e.place.seq_no e.place.primary_term e.place.status

-- its members, in byte order of their names
abbrev number_data : List ℕ → ℕ → Members → Members
number_data name n ms = member name (number (unsigned n)) ms

abbrev shards_data : (a b c : ℕ) → Data
shards_data a b c = object (number_data (codes "failed") c (number_data (codes "successful") b (number_data (codes "total") a no_members)))

abbrev type_data : Option (Bor (List ℕ)) → Members → Members
type_data None ms = ms
type_data (Some t) ms = member (codes "_type") (string t.now) ms

abbrev fields_data : (t : Option (Bor (List ℕ))) (index id result : List ℕ) (v a b c n p s : ℕ) → Members
fields_data t index id result v a b c n p s =
    member (codes "_id") (string id)
    (member (codes "_index") (string index)
    (number_data (codes "_primary_term") p
    (number_data (codes "_seq_no") n
    (member (codes "_shards") (shards_data a b c)
    (type_data t
    (number_data (codes "_version") v
    (member (codes "result") (string result) (number_data (codes "status") s no_members))))))))

abbrev line_data : (k : ActionKind) (t : Option (Bor (List ℕ))) (index id result : List ℕ) (v a b c n p s : ℕ) → Data
line_data k t index id result v a b c n p s = object (member (kind_name k) (object (fields_data t index id result v a b c n p s)) no_members)

abbrev entry_data : Entry → Data
entry_data e =
    line_data e.document.kind e.document.type_name e.document.index.now e.document.id.now e.applied.result.now
    e.applied.version e.shards.total e.shards.successful e.shards.failed e.place.seq_no e.place.primary_term e.place.status

line_reads : (k : ActionKind) (t : Option (Bor (List ℕ))) (index id result : List ℕ) (v a b c n p s : ℕ)
    → number_of (decimal v) ≡ Some (unsigned v) → number_of (decimal a) ≡ Some (unsigned a) → number_of (decimal b) ≡ Some (unsigned b) → number_of (decimal c) ≡ Some (unsigned c)
    → number_of (decimal n) ≡ Some (unsigned n) → number_of (decimal p) ≡ Some (unsigned p) → number_of (decimal s) ≡ Some (unsigned s)
    → of_json (line_json k t index id result v a b c n p s) ≡ Some (line_data k t index id result v a b c n p s)
line_reads k None index id result v a b c n p s hv ha hb hc hn hp hs = rw (hv, ha, hb, hc, hn, hp, hs) refl
line_reads k (Some t) index id result v a b c n p s hv ha hb hc hn hp hs = rw (hv, ha, hb, hc, hn, hp, hs) refl

entry_reads : (e : Entry) → IsUsual e → of_json (entry_json e) ≡ Some (entry_data e)
entry_reads e h =
    line_reads e.document.kind e.document.type_name e.document.index.now e.document.id.now e.applied.result.now
    e.applied.version e.shards.total e.shards.successful e.shards.failed e.place.seq_no e.place.primary_term e.place.status
    (number_of-decimal e.applied.version h.applied.0)
    (number_of-decimal e.shards.total h.shards.0) (number_of-decimal e.shards.successful h.shards.1) (number_of-decimal e.shards.failed h.shards.2)
    (number_of-decimal e.place.seq_no h.place.0) (number_of-decimal e.place.primary_term h.place.1) (number_of-decimal e.place.status h.place.2)

-- ---- its text

-- how it begins, up to the first string
abbrev name_text : ActionKind → List ℕ
name_text action.Index = codes "{\"index\":{\"_index\":"
name_text action.Delete = codes "{\"delete\":{\"_index\":"

abbrev type_strings : Option (Bor (List ℕ)) → List ℕ → List ℕ
type_strings None rest = rest
type_strings (Some t) rest = codes ",\"_type\":" ++ (quoted t.now ++ rest)

-- what follows the result, from the comma on
abbrev after_result : (a b c n p s : ℕ) → List ℕ → List ℕ
after_result a b c n p s rest =
    codes ",\"_shards\":{\"total\":" ++ (decimal a ++ (codes ",\"successful\":" ++ (decimal b ++ (codes ",\"failed\":" ++ (decimal c ++ (codes "}" ++
    (codes ",\"_seq_no\":" ++ (decimal n ++ (codes ",\"_primary_term\":" ++ (decimal p ++ (codes ",\"status\":" ++ (decimal s ++ (codes "}}" ++ rest)))))))))))))

-- with its strings whole
abbrev strings : (k : ActionKind) (t : Option (Bor (List ℕ))) (index id result : List ℕ) (v a b c n p s : ℕ) → List ℕ → List ℕ
strings k t index id result v a b c n p s rest =
    name_text k ++ (quoted index ++ type_strings t (codes ",\"_id\":" ++ (quoted id ++ (codes ",\"_version\":" ++ (decimal v ++ (codes ",\"result\":" ++ (quoted result ++ after_result a b c n p s rest)))))))

printed : (k : ActionKind) (t : Option (Bor (List ℕ))) (index id result : List ℕ) (v a b c n p s : ℕ) (ts : List Token)
    → print_from false (json_tokens (line_json k t index id result v a b c n p s) ++ ts) ≡ strings k t index id result v a b c n p s (print_from true ts)
unfolding print_from escape_byte
printed action.Index None index id result v a b c n p s ts = refl
printed action.Index (Some t) index id result v a b c n p s ts = refl
printed action.Delete None index id result v a b c n p s ts = refl
printed action.Delete (Some t) index id result v a b c n p s ts = refl

-- what follows the strings, without the commas in front of them
abbrev from_shards : (a b c n p s : ℕ) → List ℕ → List ℕ
from_shards a b c n p s rest =
    codes "\"_shards\":{\"total\":" ++ (decimal a ++ (codes ",\"successful\":" ++ (decimal b ++ (codes ",\"failed\":" ++ (decimal c ++ (codes "},\"_seq_no\":" ++ (decimal n ++ (codes ",\"_primary_term\":" ++ (decimal p ++ (codes ",\"status\":" ++ (decimal s ++ (codes "}}" ++ rest))))))))))))

abbrev from_version : (result : List ℕ) (v a b c n p s : ℕ) → List ℕ → List ℕ
from_version result v a b c n p s rest = codes "\"_version\":" ++ (decimal v ++ (codes ",\"result\":\"" ++ (result ++ (codes "\"," ++ from_shards a b c n p s rest))))

abbrev pieces : (k : ActionKind) (t : Option (Bor (List ℕ))) (index id result : List ℕ) (v a b c n p s : ℕ) → List ℕ → List ℕ
pieces k t index id result v a b c n p s rest = start_text k ++ (index ++ (codes "\"," ++ type_text t (id_text id (from_version result v a b c n p s rest))))

-- from the version on
version_pieces : (result : List ℕ) (v a b c n p s : ℕ) (rest : List ℕ) → IsPlain result
    → codes ",\"_version\":" ++ (decimal v ++ (codes ",\"result\":" ++ (quoted result ++ after_result a b c n p s rest))) ≡ codes "," ++ from_version result v a b c n p s rest
version_pieces result v a b c n p s rest h =
    ap (λ (x : List ℕ). codes ",\"_version\":" ++ (decimal v ++ (codes ",\"result\":" ++ x))) (between_quotes result (after_result a b c n p s rest) h)

-- from the id on
id_pieces : (id tail : List ℕ) → IsPlain id → codes ",\"_id\":" ++ (quoted id ++ (codes "," ++ tail)) ≡ codes "," ++ id_text id tail
id_pieces id tail h = ap (λ (x : List ℕ). codes ",\"_id\":" ++ x) (between_quotes id (codes "," ++ tail) h)

-- from the type on
type_pieces : (t : Option (Bor (List ℕ))) (tail : List ℕ) → IsPlainType t → type_strings t (codes "," ++ tail) ≡ codes "," ++ type_text t tail
type_pieces None tail h = refl
type_pieces (Some t) tail h = ap (λ (x : List ℕ). codes ",\"_type\":" ++ x) (between_quotes t.now (codes "," ++ tail) h)

start_pieces : (k : ActionKind) (index tail : List ℕ) → IsPlain index → name_text k ++ (quoted index ++ tail) ≡ start_text k ++ (index ++ 34 ∷ tail)
start_pieces action.Index index tail h = ap (λ (x : List ℕ). name_text action.Index ++ x) (between_quotes index tail h)
start_pieces action.Delete index tail h = ap (λ (x : List ℕ). name_text action.Delete ++ x) (between_quotes index tail h)

in_pieces : (k : ActionKind) (t : Option (Bor (List ℕ))) (index id result : List ℕ) (v a b c n p s : ℕ) (rest : List ℕ) → IsPlain index → IsPlainType t → IsPlain id → IsPlain result
    → strings k t index id result v a b c n p s rest ≡ pieces k t index id result v a b c n p s rest
in_pieces k t index id result v a b c n p s rest hi ht hd hr =
    let version = version_pieces result v a b c n p s rest hr in
    let from_id = ap (λ (x : List ℕ). codes ",\"_id\":" ++ (quoted id ++ x)) version ∙ id_pieces id (from_version result v a b c n p s rest) hd in
    let from_type = ap (type_strings t) from_id ∙ type_pieces t (id_text id (from_version result v a b c n p s rest)) ht in
    ap (λ (x : List ℕ). name_text k ++ (quoted index ++ x)) from_type
    ∙ start_pieces k index (codes "," ++ type_text t (id_text id (from_version result v a b c n p s rest))) hi

entry_printed : (e : Entry) (ts : List Token) → IsUsual e → print_from false (json_tokens (entry_json e) ++ ts) ≡ entry_text e (print_from true ts)
entry_printed e ts h =
    let d = e.document in
    let a = e.applied in
    let s = e.shards in
    let p = e.place in
    printed d.kind d.type_name d.index.now d.id.now a.result.now a.version s.total s.successful s.failed p.seq_no p.primary_term p.status ts
    ∙ in_pieces d.kind d.type_name d.index.now d.id.now a.result.now a.version s.total s.successful s.failed p.seq_no p.primary_term p.status (print_from true ts) h.document.0 h.document.1 h.document.2 h.applied.1

line_printable : (k : ActionKind) (t : Option (Bor (List ℕ))) (index id result : List ℕ) (v a b c n p s : ℕ) (ts : List Token)
    → v < 2 ^ 64 → a < 2 ^ 64 → b < 2 ^ 64 → c < 2 ^ 64 → n < 2 ^ 64 → p < 2 ^ 64 → s < 2 ^ 64 → ArePrintable ts
    → ArePrintable (json_tokens (line_json k t index id result v a b c n p s) ++ ts)
unfolding ArePrintable
line_printable k None index id result v a b c n p s ts hv ha hb hc hn hp hs h =
    let v = IsNumber-decimal v hv in
    let a = IsNumber-decimal a ha in
    let b = IsNumber-decimal b hb in
    let c = IsNumber-decimal c hc in
    let n = IsNumber-decimal n hn in
    let p = IsNumber-decimal p hp in
    let s = IsNumber-decimal s hs in search rules
line_printable k (Some t) index id result v a b c n p s ts hv ha hb hc hn hp hs h =
    let v = IsNumber-decimal v hv in
    let a = IsNumber-decimal a ha in
    let b = IsNumber-decimal b hb in
    let c = IsNumber-decimal c hc in
    let n = IsNumber-decimal n hn in
    let p = IsNumber-decimal p hp in
    let s = IsNumber-decimal s hs in search rules

entry_printable : (e : Entry) (ts : List Token) → IsUsual e → ArePrintable ts → ArePrintable (json_tokens (entry_json e) ++ ts)
entry_printable e ts h k =
    line_printable e.document.kind e.document.type_name e.document.index.now e.document.id.now e.applied.result.now
    e.applied.version e.shards.total e.shards.successful e.shards.failed e.place.seq_no e.place.primary_term e.place.status ts
    h.applied.0 h.shards.0 h.shards.1 h.shards.2 h.place.0 h.place.1 h.place.2 k

-- ---- it says its outcome

line_says : (k : ActionKind) (t : Option (Bor (List ℕ))) (index id result : List ℕ) (v a b c n p s : ℕ) → 100 ≤ s → s ≤ 599 → IsEntry (line_data k t index id result v a b c n p s) (record { kind = k; id = id; status = s; error = None })
line_says k None index id result v a b c n p s low high = record {
  fields = fields_data None index id result v a b c n p s;
  action = refl;
  id = refl;
  status = refl;
  least = low;
  most = high;
  error = refl;
}
line_says k (Some t) index id result v a b c n p s low high = record {
  fields = fields_data (Some t) index id result v a b c n p s;
  action = refl;
  id = refl;
  status = refl;
  least = low;
  most = high;
  error = refl;
}

entry_says : (e : Entry) → IsUsual e → IsEntry (entry_data e) (outcome_of e)
entry_says e h =
    line_says e.document.kind e.document.type_name e.document.index.now e.document.id.now e.applied.result.now
    e.applied.version e.shards.total e.shards.successful e.shards.failed e.place.seq_no e.place.primary_term e.place.status h.least h.most

-- ---- the entries

abbrev items_json : List Entry → json.Items
items_json [] = json.no_items
items_json (e ∷ es) = json.item (entry_json e) (items_json es)

abbrev items_data : List Entry → Items
items_data [] = no_items
items_data (e ∷ es) = item (entry_data e) (items_data es)

items_read : (es : List Entry) → AreUsual es → of_items (items_json es) ≡ Some (items_data es)
items_read [] h = refl
items_read (e ∷ es) h = rw (entry_reads e h.0, items_read es h.1) refl

each_says : (es : List Entry) → AreUsual es → AreEntries (items_data es) (map outcome_of es)
each_says [] h = tt
each_says (e ∷ es) h = (entry_says e h.0, each_says es h.1)

-- ---- it is UTF-8

utf8_digit : (n : ℕ) → n < 10 → IsUtf8 ((48 + n) ∷ [])
utf8_digit n h = IsUtf8-are_ascii ((48 + n) ∷ []) (grind (arith, common_steps))

utf8_decimal : (n : ℕ) → n < 2 ^ 64 → IsUtf8 (decimal n)
utf8_decimal n h =
    decimal_by_steps (λ n ds. IsUtf8 ds) utf8_digit (λ n ds low rec. IsUtf8-append ds ((48 + n % 10) ∷ []) rec (utf8_digit (n % 10) (omega arith))) n h

after_ascii : (front rest : List ℕ) → are_ascii front ≡ true → IsUtf8 rest → IsUtf8 (front ++ rest)
after_ascii front rest h u = IsUtf8-append front rest (IsUtf8-are_ascii front h) u

after_number : (n : ℕ) (rest : List ℕ) → n < 2 ^ 64 → IsUtf8 rest → IsUtf8 (decimal n ++ rest)
after_number n rest h u = IsUtf8-append (decimal n) rest (utf8_decimal n h) u

after_text : (text rest : List ℕ) → IsPlain text → IsUtf8 rest → IsUtf8 (text ++ (codes "\"," ++ rest))
after_text text rest h u = IsUtf8-append text (codes "\"," ++ rest) (utf8_plain text h) (after_ascii (codes "\",") rest refl u)

utf8_start : (k : ActionKind) (rest : List ℕ) → IsUtf8 rest → IsUtf8 (start_text k ++ rest)
utf8_start action.Index rest u = after_ascii (start_text action.Index) rest refl u
utf8_start action.Delete rest u = after_ascii (start_text action.Delete) rest refl u

utf8_type : (t : Option (Bor (List ℕ))) (rest : List ℕ) → IsPlainType t → IsUtf8 rest → IsUtf8 (type_text t rest)
utf8_type None rest h u = u
utf8_type (Some t) rest h u = after_ascii (codes "\"_type\":\"") (t.now ++ (codes "\"," ++ rest)) refl (after_text t.now rest h u)

utf8_place : (n p s : ℕ) (rest : List ℕ) → n < 2 ^ 64 → p < 2 ^ 64 → s < 2 ^ 64 → IsUtf8 rest
    → IsUtf8 (codes "\"_seq_no\":" ++ (decimal n ++ (codes ",\"_primary_term\":" ++ (decimal p ++ (codes ",\"status\":" ++ (decimal s ++ (codes "}}" ++ rest)))))))
utf8_place n p s rest hn hp hs u =
    let status = after_number s (codes "}}" ++ rest) hs (after_ascii (codes "}}") rest refl u) in
    let term = after_number p (codes ",\"status\":" ++ (decimal s ++ (codes "}}" ++ rest))) hp (after_ascii (codes ",\"status\":") _ refl status) in
    after_ascii (codes "\"_seq_no\":") _ refl (after_number n _ hn (after_ascii (codes ",\"_primary_term\":") _ refl term))

utf8_shards : (a b c : ℕ) (rest : List ℕ) → a < 2 ^ 64 → b < 2 ^ 64 → c < 2 ^ 64 → IsUtf8 rest
    → IsUtf8 (codes "\"_shards\":{\"total\":" ++ (decimal a ++ (codes ",\"successful\":" ++ (decimal b ++ (codes ",\"failed\":" ++ (decimal c ++ (codes "}," ++ rest)))))))
utf8_shards a b c rest ha hb hc u =
    let failed = after_number c (codes "}," ++ rest) hc (after_ascii (codes "},") rest refl u) in
    let successful = after_number b (codes ",\"failed\":" ++ (decimal c ++ (codes "}," ++ rest))) hb (after_ascii (codes ",\"failed\":") _ refl failed) in
    after_ascii (codes "\"_shards\":{\"total\":") _ refl (after_number a _ ha (after_ascii (codes ",\"successful\":") _ refl successful))

utf8_entry : (e : Entry) (rest : List ℕ) → IsUsual e → IsUtf8 rest → IsUtf8 (entry_text e rest)
utf8_entry e rest h u =
    let d = e.document in
    let place = utf8_place e.place.seq_no e.place.primary_term e.place.status rest h.place.0 h.place.1 h.place.2 u in
    let shards = utf8_shards e.shards.total e.shards.successful e.shards.failed (place_text e.place rest) h.shards.0 h.shards.1 h.shards.2 place in
    let tail = shards_text e.shards (place_text e.place rest) in
    let applied = after_ascii (codes "\"_version\":") _ refl (after_number e.applied.version _ h.applied.0 (after_ascii (codes ",\"result\":\"") _ refl (after_text e.applied.result.now tail h.applied.1 shards))) in
    let id = after_ascii (codes "\"_id\":\"") _ refl (after_text d.id.now (applied_text e.applied tail) h.document.2 applied) in
    utf8_start d.kind _ (after_text d.index.now _ h.document.0 (utf8_type d.type_name (id_text d.id.now (applied_text e.applied tail)) h.document.1 id))

utf8_more : (es : List Entry) (rest : List ℕ) → AreUsual es → IsUtf8 rest → IsUtf8 (more_text es rest)
utf8_more [] rest h u = u
utf8_more (e ∷ es) rest h u = after_ascii (codes ",") _ refl (utf8_entry e (more_text es rest) h.0 (utf8_more es rest h.1 u))

-- ---- the whole reply

abbrev head_tokens : ℕ → List Token → List Token
head_tokens took ts =
    Token.begin_object ∷ Token.key (codes "took") ∷ Token.number (decimal took) ∷ Token.key (codes "errors") ∷ Token.boolean false ∷ Token.key (codes "items") ∷ Token.begin_array ∷ ts

abbrev reply_json : ℕ → Entry → List Entry → json.Json
reply_json took e es =
    json.object (number_json (codes "took") took (json.member (codes "errors") (json.boolean false) (json.member (codes "items") (json.array (items_json (e ∷ es))) json.no_members)))

abbrev reply_data : ℕ → Entry → List Entry → Data
reply_data took e es =
    object (member (codes "errors") (boolean false) (member (codes "items") (array (items_data (e ∷ es))) (number_data (codes "took") took no_members)))

-- what follows the tokens of items
abbrev last_tokens : List Token
last_tokens = Token.end_object ∷ []

reply_tokens : (took : ℕ) (e : Entry) (es : List Entry) → json_tokens (reply_json took e es) ≡ head_tokens took (json_tokens (entry_json e) ++ (items_tokens (items_json es) ++ last_tokens))
reply_tokens took e es = ap (head_tokens took) (append_assoc (json_tokens (entry_json e)) (items_tokens (items_json es)) last_tokens)

more_printed : (es : List Entry) → AreUsual es → print_from true (items_tokens (items_json es) ++ last_tokens) ≡ more_text es (codes "]}")
unfolding print_from
more_printed [] h = refl
more_printed (e ∷ es) h =
    ap (print_from true) (append_assoc (json_tokens (entry_json e)) (items_tokens (items_json es)) last_tokens)
    ∙ ap (λ (x : List ℕ). codes "," ++ x) (entry_printed e (items_tokens (items_json es) ++ last_tokens) h.0 ∙ ap (entry_text e) (more_printed es h.1))

head_printed : (took : ℕ) (ts : List Token) → print (head_tokens took ts) ≡ head_text took (print_from false ts)
unfolding print_from escape_byte
head_printed took ts = refl

reply_printed : (took : ℕ) (e : Entry) (es : List Entry) → IsUsual e → AreUsual es → print (json_tokens (reply_json took e es)) ≡ head_text took (entry_text e (more_text es (codes "]}")))
reply_printed took e es h k =
    let ts = items_tokens (items_json es) ++ last_tokens in
    ap print (reply_tokens took e es) ∙ head_printed took (json_tokens (entry_json e) ++ ts)
    ∙ ap (head_text took) (entry_printed e ts h ∙ ap (entry_text e) (more_printed es k))

more_printable : (es : List Entry) → AreUsual es → ArePrintable (items_tokens (items_json es) ++ last_tokens)
unfolding ArePrintable
more_printable [] h = search rules
more_printable (e ∷ es) h =
    subst ArePrintable (sym (append_assoc (json_tokens (entry_json e)) (items_tokens (items_json es)) last_tokens))
    (entry_printable e (items_tokens (items_json es) ++ last_tokens) h.0 (more_printable es h.1))

head_printable : (took : ℕ) (ts : List Token) → took < 2 ^ 64 → ArePrintable ts → ArePrintable (head_tokens took ts)
unfolding ArePrintable
head_printable took ts h k = let n = IsNumber-decimal took h in search rules

reply_printable : (took : ℕ) (e : Entry) (es : List Entry) → took < 2 ^ 64 → IsUsual e → AreUsual es → ArePrintable (json_tokens (reply_json took e es))
reply_printable took e es n h k =
    let ts = items_tokens (items_json es) ++ last_tokens in
    subst ArePrintable (sym (reply_tokens took e es)) (head_printable took (json_tokens (entry_json e) ++ ts) n (entry_printable e ts h (more_printable es k)))

line_depth : (k : ActionKind) (t : Option (Bor (List ℕ))) (index id result : List ℕ) (v a b c n p s : ℕ) → depth (line_json k t index id result v a b c n p s) ≤ 3
line_depth k None index id result v a b c n p s = lit≤ tt
line_depth k (Some t) index id result v a b c n p s = lit≤ tt

entry_depth : (e : Entry) → depth (entry_json e) ≤ 3
entry_depth e =
    line_depth e.document.kind e.document.type_name e.document.index.now e.document.id.now e.applied.result.now
    e.applied.version e.shards.total e.shards.successful e.shards.failed e.place.seq_no e.place.primary_term e.place.status

more_depth : (es : List Entry) → items_depth (items_json es) ≤ 3
more_depth [] = omega arith
more_depth (e ∷ es) = let a = entry_depth e in let b = more_depth es in omega (arith, a, b)

reply_depth : (took : ℕ) (e : Entry) (es : List Entry) → depth (reply_json took e es) ≤ max_depth
reply_depth took e es = let b = more_depth (e ∷ es) in omega (arith, b)

reply_reads : (took : ℕ) (e : Entry) (es : List Entry) → took < 2 ^ 64 → AreUsual (e ∷ es) → of_json (reply_json took e es) ≡ Some (reply_data took e es)
reply_reads took e es n h = rw (number_of-decimal took n, items_read (e ∷ es) h) refl

read-reply : (text : List ℕ) (took : ℕ) (e : Entry) (es : List Entry) → text ≡ head_text took (entry_text e (more_text es (codes "]}"))) → took < 2 ^ 64 → IsUsual e → AreUsual es → read text ≡ Some (reply_data took e es)
read-reply text took e es is n h k =
    let j = reply_json took e es in
    let told = ap tokens (is ∙ sym (reply_printed took e es h k)) ∙ tokens-print (json_tokens j) (reply_printable took e es n h k) in
    let value = ap (json.value max_depth) (told ∙ sym (append-nil _)) ∙ value-json_tokens j max_depth [] (reply_depth took e es) in
    ap (λ o. option_and_then of_json (option_and_then (λ p. json.if_last p.0 p.1) o)) value ∙ reply_reads took e es n (h, k)

pub whole_reply : (bytes : List ℕ) (os : List Outcome) (rest : List ℕ) → HasRead bytes os rest → rest ≡ codes "]}" → IsBulkReply bytes os
whole_reply bytes os rest r last =
    let is = r.text ∙ ap (λ t. head_text r.took (entry_text r.first (more_text r.more t))) last in
    let head = after_ascii (codes "{\"took\":") _ refl (after_number r.took _ r.took_fits (after_ascii (codes ",\"errors\":false,\"items\":[") _ refl (utf8_entry r.first (more_text r.more (codes "]}")) r.first_is (utf8_more r.more (codes "]}") r.more_are (IsUtf8-are_ascii (codes "]}") refl))))) in
    record {
      value = reply_data r.took r.first r.more;
      reads = record { utf8 = subst IsUtf8 (sym is) head; value = read-reply bytes r.took r.first r.more is r.took_fits r.first_is r.more_are };
      entries = items_data (r.first ∷ r.more);
      items = refl;
      each = subst (AreEntries (items_data (r.first ∷ r.more))) (sym r.says) (each_says (r.first ∷ r.more) (r.first_is, r.more_are));
    }
