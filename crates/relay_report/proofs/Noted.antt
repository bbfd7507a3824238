-- Which of the operations so far are current, as one more is noted.
use Rattle.std.proofs.Common.{◌≡◌, ◌≤◌, ◌<◌, ℕ, suc, ◌+◌, List, [], ◌∷◌, ◌++◌, length, map, Bool, true, false, not, ◌||◌, if◌then◌else◌, Option, None, Some, refl, sym, ap, ◌∙◌, arith, append_assoc, append-nil, length-append, drop, get_or}
use Rattle.std.specs.Prelude.{◌&&◌, nat_le, is_some, unwrap_or, cond}
use Rattle.std.specs.List.{list_any}
use Rattle.std.proofs.Math.Seq.{drop-cons}
use Rattle.std.proofs.lemmas.Bool.{le-leb, lt-leb}
use Rattle.std.proofs.lemmas.List.Folds.{list_any-append}
use Rattle.indexmap.specs.IndexMap.{IndexMap, get, Updates}
use Rattle.relay_action.specs.declared.key.DocKey.{DocKey}
use Rattle.relay_results.specs.Documents.{Document, document_of, same_document}
use Rattle.relay_results.proofs.Same.{same_document-true, same_document-self}
use Rattle.relay_report.specs.declared.names.Named.{Named}
use Rattle.relay_report.specs.Current.{Seen, current, if_named, is_superseded, named, same_key}
use Rattle.relay_report.specs.Keeping.{GivesMark, Notes, alive, mark_of}

-- ---- the same document

same-false : (a b : DocKey) → same_key a b ≡ false → same_key b a ≡ false
same-false a b h = by (same_key b a) refl
  where
    by : (s : Bool) → same_key b a ≡ s → same_key b a ≡ false
    by false e = e
    by true e =
        let d : document_of b ≡ document_of a = same_document-true (document_of b) (document_of a) e in
        let t : same_key a b ≡ true = ap (λ x. same_document (document_of a) x) d ∙ same_document-self (document_of a) in
        absurd (cc (h, t))

get-same : {S : Type 0} (marks : IndexMap DocKey ℕ S) (a b : DocKey) → same_key a b ≡ true → get same_key marks a ≡ get same_key marks b
get-same marks a b e = ap (λ (d : Document). get (λ x y. same_document d (document_of y)) marks a) (same_document-true (document_of a) (document_of b) e)

-- ---- the operations that are named, and those that are current

named-append : (ops : List Seen) (op : Seen) → named (ops ++ op ∷ []) ≡ named ops ++ if_named op
named-append [] op = append-nil (if_named op)
named-append (x ∷ xs) op = ap (λ t. if_named x ++ t) (named-append xs op) ∙ sym (append_assoc (if_named x) (named xs) (if_named op))

superseded-append : (key : DocKey) (ops : List Seen) (op : Seen) → is_superseded key (ops ++ op ∷ []) ≡ (is_superseded key ops || (same_key op.1 key && not (is_some op.0)))
superseded-append key ops op = list_any-append (λ (o : Seen). same_key o.1 key && not (is_some o.0)) ops (op ∷ []) ∙ ap (λ b. is_superseded key ops || b) (or-false (same_key op.1 key && not (is_some op.0)))
  where
    or-false : (b : Bool) → (b || false) ≡ b
    or-false true = refl
    or-false false = refl

or-and-false : (a b : Bool) → (a || (b && false)) ≡ a
or-and-false true b = refl
or-and-false false true = refl
or-and-false false false = refl

current-named : (ops : List Seen) (name : Named) (key : DocKey) → current (ops ++ (Some name, key) ∷ []) ≡ current ops ++ (key, name) ∷ []
current-named [] name key = refl
current-named (x ∷ xs) name key =
    let s : is_superseded x.1 (xs ++ (Some name, key) ∷ []) ≡ is_superseded x.1 xs = superseded-append x.1 xs (Some name, key) ∙ or-and-false (is_superseded x.1 xs) (same_key key x.1) in
    ap (λ b. (if b then [] else if_named x) ++ current (xs ++ (Some name, key) ∷ [])) s
    ∙ ap (λ t. (if is_superseded x.1 xs then [] else if_named x) ++ t) (current-named xs name key)
    ∙ sym (append_assoc (if is_superseded x.1 xs then [] else if_named x) (current xs) ((key, name) ∷ []))

-- those that are not on a document
abbrev without_if : Bool → DocKey × Named → List (DocKey × Named)
without_if same p = if same then [] else p ∷ []

abbrev without : DocKey → List (DocKey × Named) → List (DocKey × Named)
without key [] = []
without key (p ∷ ps) = without_if (same_key key p.0) p ++ without key ps

without-append : (key : DocKey) (xs ys : List (DocKey × Named)) → without key (xs ++ ys) ≡ without key xs ++ without key ys
without-append key [] ys = refl
without-append key (x ∷ xs) ys =
    ap (λ t. without_if (same_key key x.0) x ++ t) (without-append key xs ys)
    ∙ sym (append_assoc (without_if (same_key key x.0) x) (without key xs) (without key ys))

-- one operation, by whether it was superseded and whether it is on the document
without-one : (key : DocKey) (x : Seen) (sup same : Bool) → same_key key x.1 ≡ same → (if sup || (same && true) then [] else if_named x) ≡ without key (if sup then [] else if_named x)
without-one key x true same e = refl
without-one key (None, k) false true e = refl
without-one key (None, k) false false e = refl
without-one key (Some name, k) false true e = rw e refl
without-one key (Some name, k) false false e = rw e refl

current-unnamed : (ops : List Seen) (key : DocKey) → current (ops ++ (None, key) ∷ []) ≡ without key (current ops)
current-unnamed [] key = refl
current-unnamed (x ∷ xs) key =
    ap (λ b. (if b then [] else if_named x) ++ current (xs ++ (None, key) ∷ [])) (superseded-append x.1 xs (None, key))
    ∙ ap (λ t. (if is_superseded x.1 xs || (same_key key x.1 && true) then [] else if_named x) ++ t) (current-unnamed xs key)
    ∙ ap (λ t. t ++ without key (current xs)) (without-one key x (is_superseded x.1 xs) (same_key key x.1) refl)
    ∙ sym (without-append key (if is_superseded x.1 xs then [] else if_named x) (current xs))

-- ---- what the marks leave

alive-append : (mark : DocKey → ℕ) (i : ℕ) (ps : List (DocKey × Named)) (p : DocKey × Named) → alive mark i (ps ++ p ∷ []) ≡ alive mark i ps ++ (if nat_le (mark p.0) (i + length ps) then p ∷ [] else [])
alive-append mark i [] p =
    let e : i + 0 ≡ i = omega arith in
    append-nil (if nat_le (mark p.0) i then p ∷ [] else []) ∙ ap (λ n. if nat_le (mark p.0) n then p ∷ [] else []) (sym e)
alive-append mark i (x ∷ xs) p =
    let e : suc i + length xs ≡ i + length (x ∷ xs) = omega arith in
    ap (λ t. (if nat_le (mark x.0) i then x ∷ [] else []) ++ t) (alive-append mark (suc i) xs p ∙ ap (λ n. alive mark (suc i) xs ++ (if nat_le (mark p.0) n then p ∷ [] else [])) e)
    ∙ sym (append_assoc (if nat_le (mark x.0) i then x ∷ [] else []) (alive mark (suc i) xs) (if nat_le (mark p.0) (i + length (x ∷ xs)) then p ∷ [] else []))

alive-same : (mark mark' : DocKey → ℕ) (i : ℕ) (ps : List (DocKey × Named)) → ((key : DocKey) → mark' key ≡ mark key) → alive mark' i ps ≡ alive mark i ps
alive-same mark mark' i [] h = refl
alive-same mark mark' i (x ∷ xs) h =
    ap (λ n. (if nat_le n i then x ∷ [] else []) ++ alive mark' (suc i) xs) (h x.0)
    ∙ ap (λ t. (if nat_le (mark x.0) i then x ∷ [] else []) ++ t) (alive-same mark mark' (suc i) xs h)

nat_le-above : (n i : ℕ) → i < n → nat_le n i ≡ false
nat_le-above n i h = lt-leb n i h

-- one operation, by whether it is on the document that was marked, and whether it was alive
marked-one : (key : DocKey) (x : DocKey × Named) (same was : Bool) (i n m m' : ℕ) → same_key key x.0 ≡ same → nat_le m i ≡ was → m' ≡ (if same then n else m) → i < n
    → (if nat_le m' i then x ∷ [] else []) ≡ without key (if nat_le m i then x ∷ [] else [])
marked-one key x true true i n m m' e w is h = rw (is, w, nat_le-above n i h) (rw e refl)
marked-one key x true false i n m m' e w is h = rw (is, w, nat_le-above n i h) refl
marked-one key x false true i n m m' e w is h = rw (is, w) (rw e refl)
marked-one key x false false i n m m' e w is h = rw (is, w) refl

alive-marked : (mark mark' : DocKey → ℕ) (key : DocKey) (n i : ℕ) (ps : List (DocKey × Named)) → ((other : DocKey) → mark' other ≡ (if same_key key other then n else mark other)) → i + length ps ≤ n
    → alive mark' i ps ≡ without key (alive mark i ps)
alive-marked mark mark' key n i [] h few = refl
alive-marked mark mark' key n i (x ∷ xs) h few =
    let below : i < n = omega (arith, few) in
    let rest : suc i + length xs ≤ n = omega (arith, few) in
    ap (λ t. (if nat_le (mark' x.0) i then x ∷ [] else []) ++ t) (alive-marked mark mark' key n (suc i) xs h rest)
    ∙ ap (λ t. t ++ without key (alive mark (suc i) xs)) (marked-one key x (same_key key x.0) (nat_le (mark x.0) i) i n (mark x.0) (mark' x.0) refl refl (h x.0) below)
    ∙ sym (without-append key (if nat_le (mark x.0) i then x ∷ [] else []) (alive mark (suc i) xs))

-- none of them is on the document
absent-one : (key : DocKey) (x : DocKey × Named) (b : Bool) → same_key key x.0 ≡ false → without key (if b then x ∷ [] else []) ≡ (if b then x ∷ [] else [])
absent-one key x true e = rw e refl
absent-one key x false e = refl

alive-absent : (mark : DocKey → ℕ) (key : DocKey) (i : ℕ) (ps : List (DocKey × Named)) → list_any (λ p. same_key key p.0) ps ≡ false → without key (alive mark i ps) ≡ alive mark i ps
alive-absent mark key i [] h = refl
alive-absent mark key i (x ∷ xs) h =
    let two = neither (same_key key x.0) (list_any (λ p. same_key key p.0) xs) h in
    without-append key (if nat_le (mark x.0) i then x ∷ [] else []) (alive mark (suc i) xs)
    ∙ ap (λ t. t ++ without key (alive mark (suc i) xs)) (absent-one key x (nat_le (mark x.0) i) two.0)
    ∙ ap (λ t. (if nat_le (mark x.0) i then x ∷ [] else []) ++ t) (alive-absent mark key (suc i) xs two.1)
  where
    neither : (a b : Bool) → (a || b) ≡ false → (a ≡ false) × (b ≡ false)
    neither true b h = cc
    neither false b h = (refl, h)

-- ---- the notes

module _ {S : Type 0} where
  pub notes_none : (marks : IndexMap DocKey ℕ S) → marks.entries ≡ [] → Notes marks [] []
  notes_none marks e = record {
    found_are = refl;
    alive_are = refl;
    within = λ key. (let m : mark_of marks key ≡ 0 = rw e refl in omega (arith, m));
    marked = λ key h. refl;
  }

  -- one that is named
  pub notes_named : (marks marks' : IndexMap DocKey ℕ S) (found : List (DocKey × Named)) (ops : List Seen) (name : Named) (key : DocKey) → GivesMark marks marks' key
      → Notes marks found ops → Notes marks' (found ++ (key, name) ∷ []) (ops ++ (Some name, key) ∷ [])
  notes_named marks marks' found ops name key g n = record {
    found_are = ap (λ t. t ++ (key, name) ∷ []) n.found_are ∙ sym (named-append ops (Some name, key));
    alive_are =
        let w = n.within key in
        let last : nat_le (mark_of marks key) (0 + length found) ≡ true = le-leb (mark_of marks key) (0 + length found) (omega (arith, w)) in
        alive-same (mark_of marks) (mark_of marks') 0 (found ++ (key, name) ∷ []) g.same
        ∙ alive-append (mark_of marks) 0 found (key, name)
        ∙ ap (λ b. alive (mark_of marks) 0 found ++ (if b then (key, name) ∷ [] else [])) last
        ∙ ap (λ t. t ++ (key, name) ∷ []) n.alive_are
        ∙ sym (current-named ops name key);
    within = λ other.
        let w = n.within other in
        let s = g.same other in
        let l : length (found ++ (key, name) ∷ []) ≡ length found + 1 = length-append found ((key, name) ∷ []) in omega (arith, w, s, l);
    marked = λ other h.
        let two = g.marked other h in
        list_any-append (λ p. same_key other p.0) found ((key, name) ∷ []) ∙ rw (n.marked other two.0, two.1) refl;
  }

  -- one that is not named, on a document that has a mark
  pub notes_unnamed : (marks marks' : IndexMap DocKey ℕ S) (found : List (DocKey × Named)) (ops : List Seen) (key : DocKey) (count : ℕ) → count ≡ length found → Updates same_key marks marks' key (Some count)
      → Notes marks found ops → Notes marks' found (ops ++ (None, key) ∷ [])
  notes_unnamed marks marks' found ops key count c u n =
      let mark : (other : DocKey) → mark_of marks' other ≡ (if same_key key other then count else mark_of marks other) = λ other. ap (λ o. unwrap_or o 0) (u.0 other) ∙ by (same_key key other) (get same_key marks other) in record {
        found_are = n.found_are ∙ sym (append-nil (named ops)) ∙ sym (named-append ops (None, key));
        alive_are =
            alive-marked (mark_of marks) (mark_of marks') key count 0 found mark (omega (arith, c))
            ∙ ap (without key) n.alive_are
            ∙ sym (current-unnamed ops key);
        within = λ other. within-by (same_key key other) (mark_of marks other) (mark_of marks' other) (mark other) (n.within other);
        marked = λ other h. n.marked other (absent-by (same_key key other) (get same_key marks other) (sym (u.0 other) ∙ h));
      }
    where
      by : (same : Bool) (o : Option ℕ) → unwrap_or (cond same (Some count) o) 0 ≡ (if same then count else unwrap_or o 0)
      by true o = refl
      by false o = refl

      within-by : (same : Bool) (m m' : ℕ) → m' ≡ (if same then count else m) → m ≤ length found → m' ≤ length found
      within-by true m m' e w = omega (arith, e, c)
      within-by false m m' e w = omega (arith, e, w)

      absent-by : (same : Bool) (o : Option ℕ) → cond same (Some count) o ≡ None → o ≡ None
      absent-by true o e = cc
      absent-by false o e = e

  -- one that is not named, on a document that has none
  pub notes_absent : (marks : IndexMap DocKey ℕ S) (found : List (DocKey × Named)) (ops : List Seen) (key : DocKey) → get same_key marks key ≡ None
      → Notes marks found ops → Notes marks found (ops ++ (None, key) ∷ [])
  notes_absent marks found ops key h n = record {
    found_are = n.found_are ∙ sym (append-nil (named ops)) ∙ sym (named-append ops (None, key));
    alive_are =
        sym (alive-absent (mark_of marks) key 0 found (n.marked key h))
        ∙ ap (without key) n.alive_are
        ∙ sym (current-unnamed ops key);
    within = n.within;
    marked = n.marked;
  }

  -- the document had a mark
  pub gives_none : (marks : IndexMap DocKey ℕ S) (key : DocKey) → is_some (get same_key marks key) ≡ true → GivesMark marks marks key
  gives_none marks key h = record {
    same = λ other. refl;
    marked = λ other e. (e, by other e (same_key other key) refl);
  }
    where
      by : (other : DocKey) → get same_key marks other ≡ None → (s : Bool) → same_key other key ≡ s → same_key other key ≡ false
      by other e false f = f
      by other e true f = let g : get same_key marks key ≡ None = sym (get-same marks other key f) ∙ e in absurd (let t = rw g at h in cc)

  -- the document was given one
  pub gives_one : (marks marks' : IndexMap DocKey ℕ S) (key : DocKey) → is_some (get same_key marks key) ≡ false → Updates same_key marks marks' key (Some 0) → GivesMark marks marks' key
  gives_one marks marks' key h u = record {
    same = λ other. ap (λ o. unwrap_or o 0) (u.0 other) ∙ same-by other (same_key key other) refl;
    marked = λ other e. let two = marked-by (same_key key other) (get same_key marks other) (sym (u.0 other) ∙ e) in (two.0, same-false key other two.1);
  }
    where
      none-of : (o : Option ℕ) → is_some o ≡ false → unwrap_or o 0 ≡ 0
      none-of None e = refl
      none-of (Some x) e = cc

      same-by : (other : DocKey) (s : Bool) → same_key key other ≡ s → unwrap_or (cond s (Some 0) (get same_key marks other)) 0 ≡ unwrap_or (get same_key marks other) 0
      same-by other true e = sym (ap (λ o. unwrap_or o 0) (sym (get-same marks key other e)) ∙ none-of (get same_key marks key) h)
      same-by other false e = refl

      marked-by : (s : Bool) (o : Option ℕ) → cond s (Some 0) o ≡ None → (o ≡ None) × (s ≡ false)
      marked-by true o e = cc
      marked-by false o e = (e, refl)

-- ---- the names that are left

pub alive_on : (mark : DocKey → ℕ) (found : List (DocKey × Named)) (place : ℕ) (p : DocKey × Named) (names names' whole : List Named) → place < length found → p ≡ get_or found place p
    → names' ≡ names ++ (if nat_le (mark p.0) place then p.1 ∷ [] else []) → names ++ map (λ q. q.1) (alive mark place (drop place found)) ≡ whole → names' ++ map (λ q. q.1) (alive mark (place + 1) (drop (place + 1) found)) ≡ whole
alive_on mark found place p names names' whole within at is so_far =
    let next : place + 1 ≡ suc place = omega arith in
    let front : drop place found ≡ p ∷ drop (suc place) found = drop-cons found place p within ∙ ap (λ q. q ∷ drop (suc place) found) (sym at) in
    ap (λ n. names' ++ map (λ q. q.1) (alive mark n (drop n found))) next
    ∙ ap (λ t. t ++ map (λ q. q.1) (alive mark (suc place) (drop (suc place) found))) is
    ∙ append_assoc names (if nat_le (mark p.0) place then p.1 ∷ [] else []) (map (λ q. q.1) (alive mark (suc place) (drop (suc place) found)))
    ∙ ap (λ t. names ++ t) (by (nat_le (mark p.0) place))
    ∙ ap (λ ps. names ++ map (λ q. q.1) (alive mark place ps)) (sym front)
    ∙ so_far
  where
    by : (b : Bool) → (if b then p.1 ∷ [] else []) ++ map (λ q. q.1) (alive mark (suc place) (drop (suc place) found)) ≡ map (λ q. q.1) ((if b then p ∷ [] else []) ++ alive mark (suc place) (drop (suc place) found))
    by true = refl
    by false = refl
