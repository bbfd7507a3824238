-- Each call of a lane is the same call if its requests are numbered on from those sent before.
use Rattle.std.proofs.Common.{◌≡◌, ℕ, suc, ◌+◌, ◌-◌, ◌≤◌, List, [], ◌∷◌, ◌++◌, Option, Some, None, Bool, true, false, ◌==◌, refl, sym, ap, ◌∙◌, subst, ⊎_elim, inl, inr, length, arith}
use Rattle.std.specs.Prelude.{◌&&◌, ◌||◌, nat_lt, nat_le, not, slice_get, option_map, map, filter, if◌then◌else◌}
use Rattle.std.specs.List.{list_any}
use Rattle.std.proofs.lemmas.List.{map-append}
use Rattle.relay_action.specs.declared.operation.Op.{Op}
use Rattle.relay_action.specs.declared.write.Write.{Write}
use Rattle.relay_results.specs.Words.{one_if, Mem, IsSubsequence}
use Rattle.relay_results.specs.Documents.{document_of, same_document}
use Rattle.relay_results.specs.Outside.{Answer, Unanswered}
use Rattle.relay_results.specs.Numbers.{from_one, from_zero}
use Rattle.relay_results.specs.Fates.{Fate, Flies, Applied, Already, Retried, Halved, Reported, fate}
use Rattle.relay_action.specs.Actions.{kind_of}
use Rattle.relay_results.proofs.Lists.{true_or_false, equal, equal_test, any_true, sub-map}
use Rattle.relay_delivery.specs.Machine.{Config, tries_for, Core, Held, Place, Takes, Sends, Answers, step, write_of, KeepsCaps, MaySend, place_of, launched_at, fate_of, reported_one, reports_from, how_many, is_applied_fate, is_already_fate}
use Rattle.relay_delivery.specs.Lane.{tries_in, old_in, has_age, since_sent, Entry, Flying, State, held_of, entry_if, taken_op, waits, is_later, is_candidate, candidates, launched_entry, writes_of_all, after_request_of, kept_entry, kept_entries, is_other, after_settling, writes_at, is_flying, after_answer_to, fresh_state, IsOf}
use Rattle.relay_delivery.specs.Restarts.{restarted_core}
use Rattle.relay_delivery.proofs.Facts.{Past, CoreFacts}
use Rattle.relay_delivery.proofs.Fitting.{take_is_of, may_send, send_is_of, flies_unanswered, answer_is_of}
use Rattle.relay_delivery.specs.Renumbering.{place_on, held_on, entry_on, flying_on, numbered_on, TakesOn, CandidatesOn, SendsOn, WritesOn, SettlesOn, FliesOn, AnswersOn}

-- ---- take

entry_if_on : (n : ℕ) (b : Bool) (s : State) (o : Op) (bytes : ℕ) → entry_if b (numbered_on n s) o bytes ≡ map (entry_on n) (entry_if b s o bytes)
entry_if_on n true s o bytes = refl
entry_if_on n false s o bytes = refl

pub takes_on : TakesOn
takes_on n s o bytes =
    let held : map (entry_on n) s.held ++ entry_if (nat_lt s.taken s.config.deals) (numbered_on n s) o bytes ≡ map (entry_on n) (s.held ++ entry_if (nat_lt s.taken s.config.deals) s o bytes) =
    ap (λ es. map (entry_on n) s.held ++ es) (entry_if_on n (nat_lt s.taken s.config.deals) s o bytes)
    ∙ sym (map-append (entry_on n) s.held (entry_if (nat_lt s.taken s.config.deals) s o bytes)) in
    λ i. record (taken_op (numbered_on n s) o bytes) { held = held i }

-- ---- request

waits_on : (n : ℕ) (p : Option Place) → waits (place_on n p) ≡ waits p
waits_on n None = refl
waits_on n (Some f) = refl

later_on : (n : ℕ) (es : List Entry) (h : Held) → is_later (held_of (map (entry_on n) es)) h ≡ is_later (held_of es) h
later_on n [] h = refl
later_on n (e ∷ es) h = ap (λ b. (same_document (document_of e.held.op.key) (document_of h.op.key) && nat_lt e.held.version h.version) || b) (later_on n es h)

candidate_on : (n : ℕ) (s : State) (e : Entry) → is_candidate (numbered_on n s) (entry_on n e) ≡ is_candidate s e
candidate_on n s e =
    let w = waits_on n e.held.flies in
    let l = later_on n s.held e.held in
    λ i. w i && (nat_le e.due s.clock && not (l i))

filter_on : (n : ℕ) (s : State) (es : List Entry) → filter (is_candidate (numbered_on n s)) (map (entry_on n) es) ≡ map (entry_on n) (filter (is_candidate s) es)
filter_on n s [] = refl
filter_on n s (e ∷ es) =
    let rest = filter_on n s es in
    let c = candidate_on n s e in
    (λ i. if c i then entry_on n e ∷ rest i else rest i) ∙ by (is_candidate s e)
  where
    by : (b : Bool) → (if b then entry_on n e ∷ map (entry_on n) (filter (is_candidate s) es) else map (entry_on n) (filter (is_candidate s) es)) ≡ map (entry_on n) (if b then e ∷ filter (is_candidate s) es else filter (is_candidate s) es)
    by true = refl
    by false = refl

pub candidates_on : CandidatesOn
candidates_on n s = filter_on n s s.held

place_of_on : (n v : ℕ) (es : List Entry) → place_of v (held_of (map (entry_on n) es)) ≡ place_of v (held_of es)
place_of_on n v [] = refl
place_of_on n v (e ∷ es) = ap (λ p. place_of_step e.held.version v p) (place_of_on n v es)
  where
    place_of_step : ℕ → ℕ → Option ℕ → Option ℕ
    place_of_step w v p = if w == v then Some 0 else option_map suc p

launched_on : (n number : ℕ) (h : Held) (p : Option ℕ) → launched_at (n + number) (held_on n h) p ≡ held_on n (launched_at number h p)
launched_on n number h None = refl
launched_on n number h (Some place) = refl

since_on : (n clock : ℕ) (e : Entry) (p : Option ℕ) → since_sent clock (entry_on n e) p ≡ since_sent clock e p
since_on n clock e None = refl
since_on n clock e (Some place) = refl

launched_entries : (n clock number : ℕ) (chosen es : List Entry) → map (launched_entry clock (n + number) (held_of (map (entry_on n) chosen))) (map (entry_on n) es) ≡ map (entry_on n) (map (launched_entry clock number (held_of chosen)) es)
launched_entries n clock number chosen [] = refl
launched_entries n clock number chosen (e ∷ es) =
    let p = place_of_on n e.held.version chosen in
    let h = ap (launched_at (n + number) (held_on n e.held)) p ∙ launched_on n number e.held (place_of e.held.version (held_of chosen)) in
    let since = ap (since_sent clock (entry_on n e)) p ∙ since_on n clock e (place_of e.held.version (held_of chosen)) in
    let rest = launched_entries n clock number chosen es in
    λ i. record { held = h i; bytes = e.bytes; taken_at = e.taken_at; since = since i; due = e.due } ∷ rest i

writes_on_all : (n : ℕ) (es : List Entry) → writes_of_all (map (entry_on n) es) ≡ writes_of_all es
writes_on_all n [] = refl
writes_on_all n (e ∷ es) = let r = writes_on_all n es in λ i. record { key = e.held.op.key; version = e.held.version; action = e.held.op.action } ∷ r i

pub sends_on : SendsOn
sends_on n s chosen =
    let requests : n + s.requests + 1 ≡ n + (s.requests + 1) = omega arith in
    let held = launched_entries n s.clock s.requests chosen s.held in
    let flying : map (flying_on n) s.flying ++ record { request = n + s.requests; writes = writes_of_all (map (entry_on n) chosen) } ∷ [] ≡ map (flying_on n) (s.flying ++ record { request = s.requests; writes = writes_of_all chosen } ∷ []) =
    (λ i. map (flying_on n) s.flying ++ record { request = n + s.requests; writes = writes_on_all n chosen i } ∷ [])
    ∙ sym (map-append (flying_on n) s.flying (record { request = s.requests; writes = writes_of_all chosen } ∷ [])) in
    λ i. record (numbered_on n s) { requests = requests i; held = held i; flying = flying i }

-- ---- an answer

-- a number is this one exactly if both are counted on
same_on : (n a b : ℕ) → (n + a == n + b) ≡ (a == b)
same_on n a b = ⊎_elim {C = (n + a == n + b) ≡ (a == b)}
    (λ t. let e = equal a b t in equal_test (n + a) (n + b) (omega (arith, e)) ∙ sym t)
    (λ f. ⊎_elim {C = (n + a == n + b) ≡ (a == b)}
    (λ t. let e = equal (n + a) (n + b) t in let t' = equal_test a b (omega (arith, e)) in absurd (cc (t', f)))
    (λ g. g ∙ sym f)
    (true_or_false (n + a == n + b)))
    (true_or_false (a == b))

pub writes_on : WritesOn
writes_on n request [] = refl
writes_on n request (f ∷ fs) =
    let t = same_on n f.request request in
    let rest = writes_on n request fs in
    λ i. if t i then f.writes else rest i

fate_on : (allowed : ℕ → ℕ) (n request : ℕ) (ws : List Write) (a : Answer) (h : Held) (p : Option Place) → fate_of allowed (n + request) ws a (held_on n h) (place_on n p) ≡ fate_of allowed request ws a h p
fate_on allowed n request ws a h None = refl
fate_on allowed n request ws a h (Some f) =
    ap (λ t. if t then fate (record { version = h.version; sends = h.sends; attempts = h.attempts; max = allowed h.version }) ws f.place (kind_of h.op.action) a else Flies) (same_on n f.request request)

kept_on : (n clock : ℕ) (x : Fate) (e : Entry) → kept_entry clock x (entry_on n e) ≡ map (entry_on n) (kept_entry clock x e)
kept_on n clock Flies e = refl
kept_on n clock Applied e = refl
kept_on n clock Already e = refl
kept_on n clock Retried e = refl
kept_on n clock (Halved cap) e = refl
kept_on n clock (Reported cause) e = refl

kept_all : (allowed : ℕ → ℕ) (n clock request : ℕ) (ws : List Write) (a : Answer) (es : List Entry) → kept_entries allowed clock (n + request) ws a (map (entry_on n) es) ≡ map (entry_on n) (kept_entries allowed clock request ws a es)
kept_all allowed n clock request ws a [] = refl
kept_all allowed n clock request ws a (e ∷ es) =
    let x = fate_on allowed n request ws a e.held e.held.flies in
    let one = ap (λ z. kept_entry clock z (entry_on n e)) x ∙ kept_on n clock (fate_of allowed request ws a e.held e.held.flies) e in
    let rest = kept_all allowed n clock request ws a es in
    (λ i. one i ++ rest i) ∙ sym (map-append (entry_on n) (kept_entry clock (fate_of allowed request ws a e.held e.held.flies) e) (kept_entries allowed clock request ws a es))

reported_on : (n : ℕ) (x : Fate) (h : Held) → reported_one x (held_on n h) ≡ reported_one x h
reported_on n Flies h = refl
reported_on n Applied h = refl
reported_on n Already h = refl
reported_on n Retried h = refl
reported_on n (Halved cap) h = refl
reported_on n (Reported cause) h = refl

reported_all : (allowed : ℕ → ℕ) (n request : ℕ) (ws : List Write) (a : Answer) (es : List Entry) → reports_from allowed (n + request) ws a (held_of (map (entry_on n) es)) ≡ reports_from allowed request ws a (held_of es)
reported_all allowed n request ws a [] = refl
reported_all allowed n request ws a (e ∷ es) =
    let x = fate_on allowed n request ws a e.held e.held.flies in
    let one = ap (λ z. reported_one z (held_on n e.held)) x ∙ reported_on n (fate_of allowed request ws a e.held e.held.flies) e.held in
    let rest = reported_all allowed n request ws a es in
    λ i. one i ++ rest i

many_on : (test : Fate → Bool) (allowed : ℕ → ℕ) (n request : ℕ) (ws : List Write) (a : Answer) (es : List Entry) → how_many test allowed (n + request) ws a (held_of (map (entry_on n) es)) ≡ how_many test allowed request ws a (held_of es)
many_on test allowed n request ws a [] = refl
many_on test allowed n request ws a (e ∷ es) =
    let x = fate_on allowed n request ws a e.held e.held.flies in
    let rest = many_on test allowed n request ws a es in
    λ i. one_if (test (x i)) + rest i

others_on : (n request : ℕ) (fs : List Flying) → filter (is_other (n + request)) (map (flying_on n) fs) ≡ map (flying_on n) (filter (is_other request) fs)
others_on n request [] = refl
others_on n request (f ∷ fs) =
    let t = same_on n f.request request in
    let rest = others_on n request fs in
    (λ i. if not (t i) then flying_on n f ∷ rest i else rest i) ∙ by (not (f.request == request))
  where
    by : (b : Bool) → (if b then flying_on n f ∷ map (flying_on n) (filter (is_other request) fs) else map (flying_on n) (filter (is_other request) fs)) ≡ map (flying_on n) (if b then f ∷ filter (is_other request) fs else filter (is_other request) fs)
    by true = refl
    by false = refl

old_along : (n version : ℕ) (age : Option ℕ) (clock : ℕ) (es : List Entry)
    → list_any (λ (e : Entry). (e.held.version == version) && has_age age clock e.since) (map (entry_on n) es) ≡ list_any (λ (e : Entry). (e.held.version == version) && has_age age clock e.since) es
old_along n version age clock [] = refl
old_along n version age clock (e ∷ es) = ap (λ b. ((e.held.version == version) && has_age age clock e.since) || b) (old_along n version age clock es)

-- the same operations are old
pub old_on : (n : ℕ) (s : State) → old_in (numbered_on n s) ≡ old_in s
old_on n s = λ i version. old_along n version s.config.age s.clock s.held i

pub settles_on : SettlesOn
settles_on n s request ws a =
    let same = ap (tries_for s.config) (old_on n s) in
    let held = ap (λ m. kept_entries m s.clock (n + request) ws a (map (entry_on n) s.held)) same ∙ kept_all (tries_in s) n s.clock request ws a s.held in
    let flying = others_on n request s.flying in
    let reports = ap (λ m. reports_from m (n + request) ws a (held_of (map (entry_on n) s.held))) same ∙ reported_all (tries_in s) n request ws a s.held in
    let applied = ap (λ m. how_many is_applied_fate m (n + request) ws a (held_of (map (entry_on n) s.held))) same ∙ many_on is_applied_fate (tries_in s) n request ws a s.held in
    let already = ap (λ m. how_many is_already_fate m (n + request) ws a (held_of (map (entry_on n) s.held))) same ∙ many_on is_already_fate (tries_in s) n request ws a s.held in
    λ i. record (numbered_on n s) {
      held = held i;
      flying = flying i;
      reports = s.reports ++ reports i;
      applied = s.applied + applied i;
      already = s.already + already i;
    }

any_flies : (n number : ℕ) (fs : List Flying) → list_any (λ (f : Flying). from_one f.request == n + number) (map (flying_on n) fs) ≡ list_any (λ (f : Flying). from_one f.request == number) fs
any_flies n number [] = refl
any_flies n number (f ∷ fs) =
    let e : n + f.request + 1 ≡ n + (f.request + 1) = omega arith in
    let t = ap (λ m. m == n + number) e ∙ same_on n (f.request + 1) number in
    let rest = any_flies n number fs in
    λ i. t i || rest i

pub flies_on : FliesOn
flies_on n number s = any_flies n number s.flying

-- what flies has a number above 0
flies_above : (number : ℕ) (s : State) → is_flying number s ≡ true → 1 ≤ number
flies_above number s t =
    let f = any_true (λ (f : Flying). from_one f.request == number) s.flying t in
    let e = equal (f.0.request + 1) number f.2 in omega (arith, e)

pub answers_on : AnswersOn
answers_on n s number a t =
    let le = flies_above number s t in
    let e : n + number - 1 ≡ n + (number - 1) = omega (arith, le) in
    ap (λ m. after_settling (numbered_on n s) m (writes_at m (map (flying_on n) s.flying)) a) e
    ∙ ap (λ ws. after_settling (numbered_on n s) (n + (number - 1)) ws a) (writes_on n (number - 1) s.flying)
    ∙ settles_on n s (number - 1) (writes_at (number - 1) s.flying) a

-- ---- the core that a lane represents if its numbers are counted on

-- a lane that starts afresh, after what it had sent
pub fresh_on : (g : Config) (c : Core) → IsOf (numbered_on (length c.outside.requests) (fresh_state g)) (restarted_core c)
fresh_on g c = record {
  taken = refl;
  held = refl;
  reports = refl;
  applied = refl;
  already = refl;
  requests = let z : length c.outside.requests + 0 ≡ length c.outside.requests = omega arith in z;
  flying = λ f m. absurd m;
}

pub take_on : (n : ℕ) (s : State) (c : Core) (o : Op) (bytes : ℕ) → IsOf (numbered_on n s) c → IsOf (numbered_on n (taken_op s o bytes)) (step s.config (Takes o) c)
take_on n s c o bytes is = subst (λ t. IsOf t (step s.config (Takes o) c)) (takes_on n s o bytes) (take_is_of (numbered_on n s) c o bytes is)

-- what is sent, with numbers counted on
abbrev pub chosen_on : ℕ → List Entry → List Held
chosen_on n chosen = held_of (map (entry_on n) chosen)

part_on : (n : ℕ) (s : State) (chosen : List Entry) → IsSubsequence chosen (candidates s) → IsSubsequence (map (entry_on n) chosen) (candidates (numbered_on n s))
part_on n s chosen part = subst (λ es. IsSubsequence (map (entry_on n) chosen) es) (sym (candidates_on n s)) (sub-map (entry_on n) chosen (candidates s) part)

length_on : (n : ℕ) (es : List Entry) → length (chosen_on n es) ≡ length (held_of es)
length_on n [] = refl
length_on n (e ∷ es) = ap suc (length_on n es)

mem_on : (n : ℕ) (es : List Entry) (h : Held) → Mem h (chosen_on n es) → (k : Held) × Mem k (held_of es) × (h.cap ≡ k.cap)
mem_on n [] h m = elim m [ ]
mem_on n (e ∷ es) h (inl same) = (e.held, inl refl, ap (λ (k : Held). k.cap) same)
mem_on n (e ∷ es) h (inr m) = let x = mem_on n es h m in (x.0, inr x.1, x.2)

-- the caps are the same
pub caps_on : (n : ℕ) (chosen : List Entry) → KeepsCaps (held_of chosen) → KeepsCaps (chosen_on n chosen)
caps_on n chosen caps more h m =
    let same = length_on n chosen in
    let x = mem_on n chosen h m in
    let le = caps (omega (arith, more, same)) x.0 x.1 in
    let c = x.2 in omega (arith, le, same, c)

pub may_send_on : (past : Past) (n : ℕ) (s : State) (c : Core) (chosen : List Entry) → IsSubsequence chosen (candidates s) → KeepsCaps (held_of chosen) → IsOf (numbered_on n s) c → CoreFacts s.config past c → MaySend c (chosen_on n chosen)
may_send_on past n s c chosen part caps is facts = may_send past (numbered_on n s) c (map (entry_on n) chosen) (part_on n s chosen part) (caps_on n chosen caps) is facts

pub send_on : (n : ℕ) (s : State) (c : Core) (chosen : List Entry) → IsOf (numbered_on n s) c → IsOf (numbered_on n (after_request_of s chosen)) (step s.config (Sends (chosen_on n chosen)) c)
send_on n s c chosen is = subst (λ t. IsOf t (step s.config (Sends (chosen_on n chosen)) c)) (sends_on n s chosen) (send_is_of (numbered_on n s) c (map (entry_on n) chosen) is)

-- the writes are the same
pub sent_on : (n : ℕ) (chosen : List Entry) → map write_of (chosen_on n chosen) ≡ map write_of (held_of chosen)
sent_on n chosen = writes_on_all n chosen

pub unanswered_on : (n : ℕ) (s : State) (c : Core) (number : ℕ) → is_flying number s ≡ true → IsOf (numbered_on n s) c
    → slice_get c.outside.requests (from_zero (n + number)) ≡ Some (record { writes = writes_at (from_zero number) s.flying; answer = Unanswered })
unanswered_on n s c number t is =
    let le = flies_above number s t in
    let e : n + number - 1 ≡ n + (number - 1) = omega (arith, le) in
    flies_unanswered (numbered_on n s) c (n + number) (flies_on n number s ∙ t) is
    ∙ ap (λ m. Some (record { writes = writes_at m (map (flying_on n) s.flying); answer = Unanswered })) e
    ∙ ap (λ ws. Some (record { writes = ws; answer = Unanswered })) (writes_on n (number - 1) s.flying)

pub answer_on : (n : ℕ) (s : State) (c : Core) (number : ℕ) (a : Answer) → is_flying number s ≡ true → IsOf (numbered_on n s) c
    → IsOf (numbered_on n (after_answer_to s number a)) (step s.config (Answers (from_zero (n + number)) a (old_in (numbered_on n s))) c)
answer_on n s c number a t is =
    subst (λ x. IsOf x (step s.config (Answers (from_zero (n + number)) a (old_in (numbered_on n s))) c)) (answers_on n s number a t)
    (answer_is_of (numbered_on n s) c (n + number) a (flies_on n number s ∙ t) is)
