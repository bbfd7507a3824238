-- What a fault is about.
use Rattle.std.proofs.Common.{◌≡◌, ◌≢◌, ◌⊎◌, ℕ, List, true, false, ◌&&◌, is_some, bytes_eq, true≢false, Option, None, Some, Ordering, Less, Equal, Greater, nat_cmp, is_eq, subst, refl, ap, sym, ◌∙◌, inl, inr, IsUtf8}
use Rattle.std.proofs.lemmas.Map.Text.{is_eq-slice_cmp}
use Rattle.std.proofs.lemmas.Slice.Eq.{bytes_eq-Decides}
use Rattle.std.specs.Cmp.Lexicographic.{slice_cmp}
use Rattle.std.specs.Ordering.{match_ordering}
use denote.Ref.{Bor}
use Rattle.serde_json.specs.Data.{Data, object, Members, member, no_members, put}
use Rattle.serde_json.specs.Find.{get_member}
use Rattle.serde_json.specs.Read.{read}
use Rattle.serde_json.proofs.Views.{get_member-put, get_member-put_other}
use Rattle.relay_json.specs.Sole.{sole_object}
use Rattle.relay_ndjson.specs.Metadata.{is_field}
use Rattle.relay_ndjson.specs.Names.{all_names}
use Rattle.relay_ndjson.proofs.Asking.{decide}
use Rattle.relay_ndjson.specs.declared.kind.LineKind.{LineKind}
use Rattle.relay_ndjson.specs.declared.kind.LineKind.TheVariants as kind
use Rattle.relay_sift.specs.declared.asking.Unknown.{Unknown}
use Rattle.relay_sift.specs.declared.asking.Subject.{Subject}
use Rattle.relay_sift.specs.declared.asking.Subject.TheVariants as subject
use Rattle.relay_sift.specs.Asking.{HoldsUnknown, IsUnknown, IsAction, IsGiven, IsSubject, GivesAction, GivesMember}

-- ---- members

seen_put : (name : List ℕ) (d : Data) (ms : Members) → is_some (get_member name (put name d ms)) ≡ true
seen_put name d ms = let e = get_member-put name d ms in rw e refl

pub seen_now : (name : List ℕ) (d : Data) (ms : Members) → is_field name ≡ false → IsUnknown name (put name d ms)
seen_now name d ms f = (f, seen_put name d ms)

seen_at : (name other : List ℕ) (d : Data) (ms : Members) → is_some (get_member name ms) ≡ true → is_some (get_member name (put other d ms)) ≡ true
seen_at name other d ms h =
    elim (decide (bytes_eq name other)) [
      | inl t ↦ (let same = (bytes_eq-Decides name other).0 t in subst (λ (o : List ℕ). is_some (get_member name (put o d ms)) ≡ true) same (seen_put name d ms))
      | inr f ↦
          (let e = get_member-put_other name other d ms (λ same. let t = (bytes_eq-Decides name other).1 same in true≢false (sym t ∙ f)) in rw e h)
    ]

same_name : (k l : List ℕ) → slice_cmp nat_cmp k l ≡ Equal → k ≡ l
same_name k l e = (bytes_eq-Decides k l).0 (sym (is_eq-slice_cmp k l) ∙ ap is_eq e)

known_at : (o : Ordering) (k l : List ℕ) (d e : Data) (ms : Members) → slice_cmp nat_cmp k l ≡ o → is_field k ≡ true → (all_names is_field ms ≡ true → all_names is_field (put k d ms) ≡ true) → (is_field l && all_names is_field ms) ≡ true
    → all_names is_field (match_ordering o (member k d (member l e ms)) (member l d ms) (member l e (put k d ms))) ≡ true
known_at Less k l d e ms is known later h = rw (known, h) refl
known_at Equal k l d e ms is known later h = h
known_at Greater k l d e ms is known later h = elim (decide (is_field l)) [ inl t ↦ (let r = later (rw t at h) in rw (t, r) refl) | inr f ↦ absurd (let n : false ≡ true = rw f at h in true≢false (sym n)) ]

known_put : (k : List ℕ) (d : Data) (ms : Members) → is_field k ≡ true → all_names is_field ms ≡ true → all_names is_field (put k d ms) ≡ true
known_put k d no_members known h = rw known refl
known_put k d (member l e ms) known h = known_at _ k l d e ms refl known (λ later. known_put k d ms known later) h

-- one more member, which is a field, or of which another was found before
pub seen_before : (u : Unknown) (other : List ℕ) (d : Data) (ms : Members) → (is_some u.name ≡ true) ⊎ (is_field other ≡ true) → HoldsUnknown u ms → HoldsUnknown u (put other d ms)
seen_before u other d ms c h = seen_option u.name other d ms c h where
  seen_option : (o : Option (Bor (List ℕ))) (other : List ℕ) (d : Data) (ms : Members) → (is_some o ≡ true) ⊎ (is_field other ≡ true) → HoldsUnknown (record { name = o }) ms → HoldsUnknown (record { name = o }) (put other d ms)
  seen_option None other d ms (inl c) h = absurd (true≢false (sym c))
  seen_option None other d ms (inr c) h = known_put other d ms c h
  seen_option (Some name) other d ms c h = (h.0, seen_at name.now other d ms h.1)

-- ---- lines

-- a line is that of one action
one_value : (d e : Data) (a b : List ℕ) (ms ns : Members) → d ≡ e → sole_object d ≡ Some (a, object ms) → sole_object e ≡ Some (b, object ns) → (a ≡ b) × (ms ≡ ns)
one_value d e a b ms ns s x y =
    let t : Some (a, object ms) ≡ Some (b, object ns) = sym x ∙ (ap sole_object s ∙ y) in
    let p : (a, object ms) ≡ (b, object ns) = cc in
    let o : object ms ≡ object ns = ap (λ (q : List ℕ × Data). q.1) p in (ap (λ (q : List ℕ × Data). q.0) p, cc)

some_value : (d e : Data) (o : Option Data) → o ≡ Some d → o ≡ Some e → d ≡ e
some_value d e o p q = let s : Some d ≡ Some e = sym p ∙ q in cc

pub one_action : (line a b : List ℕ) (ms ns : Members) → IsAction line a ms → IsAction line b ns → (a ≡ b) × (ms ≡ ns)
one_action line a b ms ns x y = one_value x.1 y.1 a b ms ns (some_value x.1 y.1 (read line) x.2 y.2) x.3 y.3

none_or_some : {A : Type 0} → (o : Option A) (x : A) → o ≡ None → o ≡ Some x → ⊥
none_or_some o x p q = let s : None ≡ Some x = sym p ∙ q in absurd (cc)

pub no_action : (line : List ℕ) (d : Data) → read line ≡ Some d → sole_object d ≡ None → (a : List ℕ) (ms : Members) → ¬ IsAction line a ms
no_action line d r n a ms x =
    let e : x.1 ≡ d = some_value x.1 d (read line) x.2 r in none_or_some (sole_object x.1) (a, object ms) (ap sole_object e ∙ n) x.3

pub no_json : (line : List ℕ) → (IsUtf8 line → read line ≡ None) → (a : List ℕ) (ms : Members) → ¬ IsAction line a ms
no_json line h a ms x = none_or_some (read line) x.1 (h x.0) x.2

-- ---- subjects

pub nothing : (k : LineKind) (line : List ℕ) → ((a : List ℕ) (ms : Members) → ¬ IsAction line a ms) → IsSubject k line subject.None
nothing k line h = (λ is a ms x. absurd (h a ms x), λ is a ms x. absurd (h a ms x))

pub of_other : (k : LineKind) (line : List ℕ) → k ≢ kind.UnsupportedAction → k ≢ kind.UnsupportedField → IsSubject k line subject.None
of_other k line m n = (λ is. absurd (m is), λ is. absurd (n is))

two_kinds : kind.UnsupportedAction ≡ kind.UnsupportedField → ⊥
two_kinds e = absurd (cc)

pub of_action : (line a : List ℕ) (ms : Members) (s : Subject) → IsAction line a ms → GivesAction a s → IsSubject kind.UnsupportedAction line s
of_action line a ms subject.None x g =
    (λ is b ns y. subst (λ (n : List ℕ). ¬ IsGiven n) (one_action line a b ms ns x y).0 g, λ is. absurd (two_kinds is))
of_action line a ms (subject.Action given) x g = (refl, ms, subst (λ (n : List ℕ). IsAction line n ms) (sym g.0) x, subst IsGiven (sym g.0) g.1)
of_action line a ms (subject.Member given) x g = absurd g

pub of_member : (line a : List ℕ) (ms : Members) (s : Subject) → IsAction line a ms → GivesMember ms s → IsSubject kind.UnsupportedField line s
of_member line a ms subject.None x g =
    (λ is. absurd (two_kinds (sym is)), λ is b ns y. subst (λ (m : Members). GivesMember m subject.None) (one_action line a b ms ns x y).1 g)
of_member line a ms (subject.Action given) x g = absurd g
of_member line a ms (subject.Member given) x g = (refl, a, ms, x, g.0, g.1)
