-- The operations that were taken, and what was written of them.
use Rattle.std.proofs.Common.{◌≡◌, ◌⊎◌, ℕ, suc, ◌+◌, List, [], ◌∷◌, ◌++◌, length, take, drop, Bool, true, false, if◌then◌else◌, Option, None, Some, Result, Ok, Err, refl, sym, ap, ◌∙◌, subst, arith, inl, inr, append_assoc, append-nil, length-append}
use Rattle.std.proofs.lemmas.List.{take-append-drop}
use Rattle.std.specs.Io.KnownBytes.{append_known, prepend_known}
use Rattle.relay_action.specs.Streams.{FailedSince}
use Rattle.relay_action.proofs.Shown.{append_known-append}
use Rattle.relay_ndjson.specs.Operations.{HoldsNoMore, Position, saturating_count, position}
use Rattle.relay_ndjson.specs.declared.kind.InputFault.{InputFault}
use Rattle.relay_ndjson.specs.declared.kind.LineKind.{LineKind}
use Rattle.relay_ndjson.specs.declared.kind.LineKind.TheVariants as kind
use Rattle.relay_ndjson.proofs.Pieces.{prepend_nothing}
use Rattle.relay_report.specs.Operations.{TakesLines}
use Rattle.relay_report.specs.Picks.{NoneAfter, Picks, ReadsFail, Stops, TakesAll, Writes, WritesFail, WritesFront, is_named, picked_lines}
use Rattle.relay_report.specs.Picking.{Closes, ClosesOrFails, Moves, PicksNext, PicksTo, pick_fault_by, is_over}
use Rattle.relay_report.specs.declared.names.Named.{Named}
use Rattle.relay_report.specs.declared.picking.PickFault.{PickFault}
use Rattle.relay_report.specs.declared.picking.PickFault.TheVariants as fault

-- ---- what was written

append_known-nothing : (shown : Option (List ℕ)) → append_known shown [] ≡ shown
append_known-nothing None = refl
append_known-nothing (Some bytes) = ap Some (append-nil bytes)

pub moves_none : (text : List ℕ) (before : Option (List ℕ)) → Moves text text before before
moves_none text before = record { moved = []; whole = refl; written = sym (append_known-nothing before) }

moves_more : (all text more all' text' : List ℕ) (before now : Option (List ℕ)) → Moves all text before now → text' ≡ text ++ more → all' ≡ all ++ more → Moves all' text' before now
moves_more all text more all' text' before now m e f = record {
  moved = m.moved;
  whole = f ∙ (ap (λ t. t ++ more) m.whole ∙ (append_assoc m.moved text more ∙ ap (λ t. m.moved ++ t) (sym e)));
  written = m.written;
}

moves_on : (all text rest : List ℕ) (before mid after : Option (List ℕ)) → Moves all text before mid → Moves text rest mid after → Moves all rest before after
moves_on all text rest before mid after m n = record {
  moved = m.moved ++ n.moved;
  whole = m.whole ∙ (ap (λ t. m.moved ++ t) n.whole ∙ sym (append_assoc m.moved n.moved rest));
  written = n.written ∙ (ap (λ s. append_known s n.moved) m.written ∙ append_known-append before m.moved n.moved);
}

front_of : (all text : List ℕ) (before mid after : Option (List ℕ)) → Moves all text before mid → WritesFront mid after text → WritesFront before after all
front_of all text before mid after m f = (
  m.moved ++ f.0,
  f.1,
  m.whole ∙ (ap (λ t. m.moved ++ t) f.2 ∙ sym (append_assoc m.moved f.0 f.1)),
  f.3 ∙ (ap (λ s. append_known s f.0) m.written ∙ append_known-append before m.moved f.0),
)

front_here : (all text : List ℕ) (before now : Option (List ℕ)) → Moves all text before now → WritesFront before now all
front_here all text before now m = (m.moved, text, m.whole, m.written)

written_all : (all text : List ℕ) (before mid after : Option (List ℕ)) → Moves all text before mid → after ≡ append_known mid text → after ≡ append_known before all
written_all all text before mid after m e =
    e ∙ (ap (λ s. append_known s text) m.written ∙ (append_known-append before m.moved text ∙ ap (append_known before) (sym m.whole)))

-- the first bytes that were written
pub front_sent : (text : List ℕ) (sent : ℕ) (before after : Option (List ℕ)) → after ≡ append_known before (take sent text) → WritesFront before after text
front_sent text sent before after e = (take sent text, drop sent text, sym (take-append-drop sent text), e)

-- ---- the operations

takes_more : (default old mid new : Option (List ℕ)) (count n : ℕ) (items : List (List ℕ)) (lines : List ℕ) → TakesAll default old mid count items → TakesLines default mid new n lines → TakesAll default old new (count + n) (items ++ lines ∷ [])
takes_more default old mid new count n [] lines t s =
    let c = t.1 in
    (new, n, 0, subst (λ (o : Option (List ℕ)). TakesLines default o new n lines) t.0 s, (refl, refl), omega (arith, c))
takes_more default old mid new count n (x ∷ xs) lines t s =
    let c = t.5 in
    (t.0, t.1, t.2 + n, t.3, takes_more default t.0 mid new t.2 n xs lines t.4 s, omega (arith, c))

picked-push : (wanted : ℕ → Bool) (k : ℕ) (items : List (List ℕ)) (lines : List ℕ) → picked_lines wanted k (items ++ lines ∷ []) ≡ picked_lines wanted k items ++ (if wanted (k + length items) then lines else [])
picked-push wanted k [] lines =
    let e : k + 0 ≡ k = omega arith in append-nil (if wanted k then lines else []) ∙ ap (λ n. if wanted n then lines else []) (sym e)
picked-push wanted k (x ∷ xs) lines =
    let e : suc k + length xs ≡ k + length (x ∷ xs) = omega arith in
    ap (λ t. (if wanted k then x else []) ++ t) (picked-push wanted (suc k) xs lines ∙ ap (λ n. picked_lines wanted (suc k) xs ++ (if wanted n then lines else [])) e)
    ∙ sym (append_assoc (if wanted k then x else []) (picked_lines wanted (suc k) xs) (if wanted (k + length (x ∷ xs)) then lines else []))

picked-same : (f g : ℕ → Bool) → ((k : ℕ) → f k ≡ g k) → (n : ℕ) (items : List (List ℕ)) → picked_lines f n items ≡ picked_lines g n items
picked-same f g h n [] = refl
picked-same f g h n (x ∷ xs) = ap (λ b. (if b then x else []) ++ picked_lines f (suc n) xs) (h n) ∙ ap (λ t. (if g n then x else []) ++ t) (picked-same f g h (suc n) xs)

-- ---- under way: this many operations were taken, and of their text this is still to be written

pub record Underway (wanted : ℕ → Bool) (default old now before written : Option (List ℕ)) (text : List ℕ) (taken lines : ℕ) : Type 0 where
  pub items : List (List ℕ)
  pub count : ℕ
  pub all : TakesAll default old now count items
  pub many : taken ≡ length items
  pub lines_are : lines ≡ saturating_count count
  pub moves : Moves (picked_lines wanted 1 items) text before written

pub underway_none : (wanted : ℕ → Bool) (default left before : Option (List ℕ)) (held text : List ℕ) (count : ℕ) → held ≡ [] → count ≡ 0 → text ≡ [] → Underway wanted default left (prepend_known held left) before before text 0 count
underway_none wanted default left before held text count h c t = record {
  items = [];
  count = 0;
  all = (ap (λ x. prepend_known x left) h ∙ prepend_nothing left, refl);
  many = refl;
  lines_are = omega (arith, c);
  moves = subst (λ (x : List ℕ). Moves [] x before before) (sym t) (moves_none [] before);
}

pub underway_next : (wanted : ℕ → Bool) (default old before written left left' : Option (List ℕ)) (held held' text text' : List ℕ) (taken lines lines' : ℕ) → Underway wanted default old (prepend_known held left) before written text taken lines → PicksNext wanted (taken + 1) default (position left held lines) (position left' held' lines') text text' (Ok true) → Underway wanted default old (prepend_known held' left') before written text' (taken + 1) lines'
underway_next wanted default old before written left left' held held' text text' taken lines lines' u p =
    let l = u.lines_are in
    let m = u.many in
    let e : 1 + length u.items ≡ taken + 1 = omega (arith, m) in
    let n : length (u.items ++ p.0 ∷ []) ≡ length u.items + 1 = length-append u.items (p.0 ∷ []) in
    let c = p.3 in
    record {
      items = u.items ++ p.0 ∷ [];
      count = u.count + p.1;
      all = takes_more default old (prepend_known held left) (prepend_known held' left') u.count p.1 u.items p.0 u.all p.2;
      many = omega (arith, m, n);
      lines_are = omega (arith, l, c);
      moves = moves_more (picked_lines wanted 1 u.items) text (if wanted (taken + 1) then p.0 else []) (picked_lines wanted 1 (u.items ++ p.0 ∷ [])) text' before written u.moves p.4 (picked-push wanted 1 u.items p.0 ∙ ap (λ k. picked_lines wanted 1 u.items ++ (if wanted k then p.0 else [])) e);
    }

pub underway_moved : (wanted : ℕ → Bool) (default old now before written written' : Option (List ℕ)) (text text' : List ℕ) (taken lines : ℕ) → Underway wanted default old now before written text taken lines → Moves text text' written written' → Underway wanted default old now before written' text' taken lines
underway_moved wanted default old now before written written' text text' taken lines u m = record {
  items = u.items;
  count = u.count;
  all = u.all;
  many = u.many;
  lines_are = u.lines_are;
  moves = moves_on (picked_lines wanted 1 u.items) text text' before written written' u.moves m;
}

-- ---- how it stops

pub stops_at_last : (wanted : ℕ → Bool) (default old now before written : Option (List ℕ)) (text : List ℕ) (taken last lines : ℕ) → Underway wanted default old now before written text taken lines → taken ≡ last → PicksTo wanted last default old before written text (Ok last)
stops_at_last wanted default old now before written text taken last lines u e = record {
  items = u.items;
  rest = now;
  count = u.count;
  taken = u.all;
  stops = (sym e ∙ u.many, inl refl);
  written = u.moves;
}

pub stops_at_end : (wanted : ℕ → Bool) (default old left left' before written : Option (List ℕ)) (held held' text text' : List ℕ) (taken last lines lines' : ℕ) → Underway wanted default old (prepend_known held left) before written text taken lines → PicksNext wanted (taken + 1) default (position left held lines) (position left' held' lines') text text' (Ok false) → PicksTo wanted last default old before written text' (Ok taken)
stops_at_end wanted default old left left' before written held held' text text' taken last lines lines' u p = record {
  items = u.items;
  rest = prepend_known held left;
  count = u.count;
  taken = u.all;
  stops = (u.many, inr p.0);
  written = subst (λ (t : List ℕ). Moves (picked_lines wanted 1 u.items) t before written) (sym p.1) u.moves;
}

pub stops_at_fault : (wanted : ℕ → Bool) (default old left left' before written : Option (List ℕ)) (held held' text text' : List ℕ) (taken last lines lines' : ℕ) (e : PickFault) → Underway wanted default old (prepend_known held left) before written text taken lines → PicksNext wanted (taken + 1) default (position left held lines) (position left' held' lines') text text' (Err e) → PicksTo wanted last default old before written text' (Err e)
stops_at_fault wanted default old left left' before written held held' text text' taken last lines lines' (fault.Input e) u p = record {
  items = u.items;
  rest = prepend_known held left;
  count = u.count;
  taken = u.all;
  stops = (let l = u.lines_are in rw l at p.0, p.1);
  written = subst (λ (t : List ℕ). Moves (picked_lines wanted 1 u.items) t before written) (sym p.2) u.moves;
}
stops_at_fault wanted default old left left' before written held held' text text' taken last lines lines' fault.Write u p = absurd p
stops_at_fault wanted default old left left' before written held held' text text' taken last lines lines' fault.Memory u p = record {
  items = u.items;
  rest = prepend_known held left;
  count = u.count;
  taken = u.all;
  stops = tt;
  written = front_here (picked_lines wanted 1 u.items) text before written u.moves;
}

pub stops_at_write : (wanted : ℕ → Bool) (default old now before written written' : Option (List ℕ)) (text text' : List ℕ) (taken last lines : ℕ) → Underway wanted default old now before written text taken lines → WritesFront written written' text → PicksTo wanted last default old before written' text' (Err fault.Write)
stops_at_write wanted default old now before written written' text text' taken last lines u f = record {
  items = u.items;
  rest = now;
  count = u.count;
  taken = u.all;
  stops = tt;
  written = front_of (picked_lines wanted 1 u.items) text before written written' u.moves f;
}

-- which calls failed, if the fault is that of an input
pub no_write_fails : (wanted : ℕ → Bool) (k : ℕ) (default : Option (List ℕ)) (old new : Position) (text text' : List ℕ) (e : PickFault) (before after : ℕ) → PicksNext wanted k default old new text text' (Err e) → after ≡ before → WritesFail {U = ℕ} before after (Err e)
no_write_fails wanted k default old new text text' (fault.Input e) before after p s = s
no_write_fails wanted k default old new text text' fault.Write before after p s = absurd p
no_write_fails wanted k default old new text text' fault.Memory before after p s = s

pub reads_fail : (e : PickFault) (old mid new : ℕ) → mid ≡ old → ReadsFail {U = Bool} mid new (Err e) → ReadsFail {U = ℕ} old new (Err e)
reads_fail (fault.Input e) old mid new s r = rw s at r
reads_fail fault.Write old mid new s r = tt
reads_fail fault.Memory old mid new s r = tt

-- why there is no next operation
pub next_fault : (wanted : ℕ → Bool) (k : ℕ) (default : Option (List ℕ)) (old new : Position) (text text' : List ℕ) (e : InputFault) (l : LineKind) → l ≡ e.kind → Rattle.relay_ndjson.specs.Operations.IsFault default old.ahead old.count e → text' ≡ text → PicksNext wanted k default old new text text' (Err (pick_fault_by e l))
next_fault wanted k default old new text text' e kind.Memory s f t = tt
next_fault wanted k default old new text text' e other s f t = (f, (λ m. let bad : other ≡ kind.Memory = s ∙ m in cc), t)

-- ---- the end

pub closes_by : (so_far result : Result ℕ PickFault) (text : List ℕ) (before after : Option (List ℕ)) (failed count : ℕ) → is_over so_far ≡ false → ClosesOrFails so_far text before failed after count result → Closes so_far text before failed after count result
closes_by (Ok n) result text before after failed count o c = c
closes_by (Err (fault.Input e)) result text before after failed count o c = c
closes_by (Err fault.Write) result text before after failed count o c = cc
closes_by (Err fault.Memory) result text before after failed count o c = cc

pub closes_over : (so_far : Result ℕ PickFault) (text : List ℕ) (before : Option (List ℕ)) (failed : ℕ) → is_over so_far ≡ true → Closes so_far text before failed before failed so_far
closes_over (Ok n) text before failed o = cc
closes_over (Err (fault.Input e)) text before failed o = cc
closes_over (Err fault.Write) text before failed o = (refl, refl, refl)
closes_over (Err fault.Memory) text before failed o = (refl, refl, refl)

-- ---- the whole

picks_with : (names : List Named) (producer : ℕ) (wanted : ℕ → Bool) (last : ℕ) (default old before mid after : Option (List ℕ)) (text : List ℕ) (so_far result : Result ℕ PickFault) → (p : PicksTo wanted last default old before mid text so_far) → Stops (is_named names producer) default p.rest p.count p.items result → Writes before after (picked_lines (is_named names producer) 1 p.items) result → Picks names producer default old before after result
picks_with names producer wanted last default old before mid after text so_far result p s w =
    record { items = p.items; rest = p.rest; count = p.count; taken = p.taken; stops = s; written = w }

done_or_failed : (names : List Named) (producer : ℕ) (wanted : ℕ → Bool) (last : ℕ) (default old before mid after : Option (List ℕ)) (text : List ℕ) (so_far result : Result ℕ PickFault) (failed count : ℕ) → (p : PicksTo wanted last default old before mid text so_far) → Stops (is_named names producer) default p.rest p.count p.items so_far → Moves (picked_lines (is_named names producer) 1 p.items) text before mid → (after ≡ append_known before (picked_lines (is_named names producer) 1 p.items) → Writes before after (picked_lines (is_named names producer) 1 p.items) so_far) → ClosesOrFails so_far text mid failed after count result → Picks names producer default old before after result
done_or_failed names producer wanted last default old before mid after text so_far result failed count p s m base (inl c) =
    subst (λ (r : Result ℕ PickFault). Picks names producer default old before after r) (sym c.0)
    (picks_with names producer wanted last default old before mid after text so_far so_far p s (base (written_all (picked_lines (is_named names producer) 1 p.items) text before mid after m c.1)))
done_or_failed names producer wanted last default old before mid after text so_far result failed count p s m base (inr c) =
    subst (λ (r : Result ℕ PickFault). Picks names producer default old before after r) (sym c.0)
    (picks_with names producer wanted last default old before mid after text so_far (Err fault.Write) p tt (front_of (picked_lines (is_named names producer) 1 p.items) text before mid after m c.1))

none_or_end : (named : ℕ → Bool) (n last : ℕ) (rest : Option (List ℕ)) → NoneAfter named last → (n ≡ last) ⊎ HoldsNoMore rest → NoneAfter named n ⊎ HoldsNoMore rest
none_or_end named n last rest none (inl e) = inl (subst (λ (m : ℕ). NoneAfter named m) (sym e) none)
none_or_end named n last rest none (inr h) = inr h

pub picks_of : (names : List Named) (producer : ℕ) (wanted : ℕ → Bool) (last : ℕ) (default old before mid after : Option (List ℕ)) (text : List ℕ) (so_far result : Result ℕ PickFault) (failed count : ℕ) → ((k : ℕ) → wanted k ≡ is_named names producer k) → NoneAfter (is_named names producer) last → PicksTo wanted last default old before mid text so_far → Closes so_far text mid failed after count result → Picks names producer default old before after result
picks_of names producer wanted last default old before mid after text (Ok n) result failed count same none p c =
    let e = picked-same wanted (is_named names producer) same 1 p.items in
    done_or_failed names producer wanted last default old before mid after text (Ok n) result failed count p
    (p.stops.0, none_or_end (is_named names producer) n last p.rest none p.stops.1)
    (subst (λ (t : List ℕ). Moves t text before mid) e p.written) (λ w. w) c
picks_of names producer wanted last default old before mid after text (Err (fault.Input f)) result failed count same none p c =
    let e = picked-same wanted (is_named names producer) same 1 p.items in
    done_or_failed names producer wanted last default old before mid after text (Err (fault.Input f)) result failed count p p.stops
    (subst (λ (t : List ℕ). Moves t text before mid) e p.written) (λ w. w) c
picks_of names producer wanted last default old before mid after text (Err fault.Write) result failed count same none p c =
    let e = picked-same wanted (is_named names producer) same 1 p.items in
    subst (λ (r : Result ℕ PickFault). Picks names producer default old before after r) (sym c.0)
    (picks_with names producer wanted last default old before mid after text (Err fault.Write) (Err fault.Write) p tt
    (subst (λ (a : Option (List ℕ)). WritesFront before a (picked_lines (is_named names producer) 1 p.items)) (sym c.1) (subst (λ (t : List ℕ). WritesFront before mid t) e p.written)))
picks_of names producer wanted last default old before mid after text (Err fault.Memory) result failed count same none p c =
    let e = picked-same wanted (is_named names producer) same 1 p.items in
    subst (λ (r : Result ℕ PickFault). Picks names producer default old before after r) (sym c.0)
    (picks_with names producer wanted last default old before mid after text (Err fault.Memory) (Err fault.Memory) p tt
    (subst (λ (a : Option (List ℕ)). WritesFront before a (picked_lines (is_named names producer) 1 p.items)) (sym c.1) (subst (λ (t : List ℕ). WritesFront before mid t) e p.written)))

pub picks_nothing : (names : List Named) (producer : ℕ) (default old before : Option (List ℕ)) → Picks names producer default old before before (Err fault.Memory)
picks_nothing names producer default old before = record {
  items = [];
  rest = old;
  count = 0;
  taken = (refl, refl);
  stops = tt;
  written = ([], [], refl, sym (append_known-nothing before));
}

-- which calls failed
pub writes_of : (so_far result : Result ℕ PickFault) (text : List ℕ) (mid after : Option (List ℕ)) (old failed count : ℕ) → WritesFail {U = ℕ} old failed so_far → Closes so_far text mid failed after count result → WritesFail {U = ℕ} old count result
writes_of (Ok n) result text mid after old failed count h (inl c) = subst (λ (r : Result ℕ PickFault). WritesFail {U = ℕ} old count r) (sym c.0) (c.2 ∙ h)
writes_of (Ok n) result text mid after old failed count h (inr c) = let f = c.2 in subst (λ (r : Result ℕ PickFault). WritesFail {U = ℕ} old count r) (sym c.0) (rw h at f)
writes_of (Err (fault.Input e)) result text mid after old failed count h (inl c) = subst (λ (r : Result ℕ PickFault). WritesFail {U = ℕ} old count r) (sym c.0) (c.2 ∙ h)
writes_of (Err (fault.Input e)) result text mid after old failed count h (inr c) = let f = c.2 in subst (λ (r : Result ℕ PickFault). WritesFail {U = ℕ} old count r) (sym c.0) (rw h at f)
writes_of (Err fault.Write) result text mid after old failed count h c = subst (λ (r : Result ℕ PickFault). WritesFail {U = ℕ} old count r) (sym c.0) (subst (λ (n : ℕ). FailedSince old n) (sym c.2) h)
writes_of (Err fault.Memory) result text mid after old failed count h c = subst (λ (r : Result ℕ PickFault). WritesFail {U = ℕ} old count r) (sym c.0) (c.2 ∙ h)

pub reads_of : (so_far result : Result ℕ PickFault) (text : List ℕ) (mid after : Option (List ℕ)) (old new failed count : ℕ) → ReadsFail {U = ℕ} old new so_far → Closes so_far text mid failed after count result → ReadsFail {U = ℕ} old new result
reads_of (Ok n) result text mid after old new failed count h (inl c) = subst (λ (r : Result ℕ PickFault). ReadsFail {U = ℕ} old new r) (sym c.0) h
reads_of (Ok n) result text mid after old new failed count h (inr c) = subst (λ (r : Result ℕ PickFault). ReadsFail {U = ℕ} old new r) (sym c.0) tt
reads_of (Err (fault.Input e)) result text mid after old new failed count h (inl c) = subst (λ (r : Result ℕ PickFault). ReadsFail {U = ℕ} old new r) (sym c.0) h
reads_of (Err (fault.Input e)) result text mid after old new failed count h (inr c) = subst (λ (r : Result ℕ PickFault). ReadsFail {U = ℕ} old new r) (sym c.0) tt
reads_of (Err fault.Write) result text mid after old new failed count h c = subst (λ (r : Result ℕ PickFault). ReadsFail {U = ℕ} old new r) (sym c.0) tt
reads_of (Err fault.Memory) result text mid after old new failed count h c = subst (λ (r : Result ℕ PickFault). ReadsFail {U = ℕ} old new r) (sym c.0) tt
