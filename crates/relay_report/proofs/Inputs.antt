-- Inputs that were read, one operation after another and one input after another.
use Rattle.std.proofs.Common.{◌≡◌, ℕ, suc, ◌+◌, List, [], ◌∷◌, ◌++◌, length, Option, Result, Ok, Err, refl, sym, ap, ◌∙◌, subst, arith, append_assoc, append-nil, length-append}
use Rattle.std.specs.Prelude.{IfOk}
use Rattle.indexmap.specs.IndexMap.{IndexMap}
use Rattle.relay_action.specs.declared.key.DocKey.{DocKey}
use Rattle.relay_ndjson.specs.declared.parser.Phase.TheVariants as phase
use Rattle.relay_ndjson.specs.declared.kind.InputFault.{InputFault}
use Rattle.relay_ndjson.specs.Operations.{Operation}
use Rattle.relay_ndjson.specs.Reading.{Reading, Takes, fresh}
use Rattle.relay_words.specs.Taken.{TakesAll}
use Rattle.relay_words.proofs.Taken.{takes_more}
use Rattle.relay_report.specs.declared.names.Named.{Named}
use Rattle.relay_report.specs.declared.keeping.InputEnd.{InputEnd}
use Rattle.relay_report.specs.Current.{AreRead, ReadsOperations, Seen, StopsReading, name_at, seen, seen_in}
use Rattle.relay_report.specs.Keeping.{Notes}

pub on_ok : {X E : Type 0} (r : Result X E) (P Q : X → Type 0) → ((x : X) → P x → Q x) → IfOk r P → IfOk r Q
on_ok (Ok x) P Q f p = f x p
on_ok (Err e) P Q f p = tt

seen-append : (name : ℕ → Option Named) (k : ℕ) (ops : List Operation) (op : Operation) → seen name k (ops ++ op ∷ []) ≡ seen name k ops ++ (name (k + length ops), op.0) ∷ []
seen-append name k [] op = let e : k ≡ k + 0 = omega arith in ap (λ n. (name n, op.0) ∷ []) e
seen-append name k (x ∷ xs) op =
    let e : suc k + length xs ≡ k + length (x ∷ xs) = omega arith in
    ap (λ t. (name k, x.0) ∷ t) (seen-append name (suc k) xs op ∙ ap (λ n. seen name (suc k) xs ++ (name n, op.0) ∷ []) e)

seen-same : (f g : ℕ → Option Named) → ((k : ℕ) → f k ≡ g k) → (k : ℕ) (ops : List Operation) → seen f k ops ≡ seen g k ops
seen-same f g h k [] = refl
seen-same f g h k (x ∷ xs) = ap (λ n. (n, x.0) ∷ seen f (suc k) xs) (h k) ∙ ap (λ t. (g k, x.0) ∷ t) (seen-same f g h (suc k) xs)

module _ {S : Type 0} where
  -- what noting operations does to the notes
  abbrev pub Adds : IndexMap DocKey ℕ S → IndexMap DocKey ℕ S → List (DocKey × Named) → List (DocKey × Named) → List Seen → Type 0
  Adds marks marks' found found' ops = (before : List Seen) → Notes marks found before → Notes marks' found' (before ++ ops)

  -- this many operations of an input were taken and noted
  pub record ReadSoFar (old now : Reading) (marks marks' : IndexMap DocKey ℕ S) (found found' : List (DocKey × Named)) (name : ℕ → Option Named) (many : ℕ) : Type 0 where
    pub ops : List Operation
    pub taken : TakesAll old now ops
    pub count : many ≡ length ops
    pub opens : now.phase ≡ phase.Open
    pub adds : Adds marks marks' found found' (seen name 1 ops)

  pub read_none : (old : Reading) (marks : IndexMap DocKey ℕ S) (found : List (DocKey × Named)) (name : ℕ → Option Named) → old.phase ≡ phase.Open → ReadSoFar old old marks marks found found name 0
  read_none old marks found name o = record {
    ops = [];
    taken = refl;
    count = refl;
    opens = o;
    adds = λ before n. subst (λ (x : List Seen). Notes marks found x) (sym (append-nil before)) n;
  }

  pub read_more : (old now next : Reading) (marks marks' marks'' : IndexMap DocKey ℕ S) (found found' found'' : List (DocKey × Named)) (name : ℕ → Option Named) (many n : ℕ) (op : Operation)
      → ReadSoFar old now marks marks' found found' name many → Takes now next n op → Adds marks' marks'' found' found'' ((name (many + 1), op.0) ∷ []) → ReadSoFar old next marks marks'' found found'' name (many + 1)
  read_more old now next marks marks' marks'' found found' found'' name many n op u t a =
      let c = u.count in
      let e : many + 1 ≡ 1 + length u.ops = omega (arith, c) in
      let l : length (u.ops ++ op ∷ []) ≡ length u.ops + 1 = length-append u.ops (op ∷ []) in
      let more : seen name 1 u.ops ++ (name (many + 1), op.0) ∷ [] ≡ seen name 1 (u.ops ++ op ∷ []) = ap (λ k. seen name 1 u.ops ++ (name k, op.0) ∷ []) e ∙ sym (seen-append name 1 u.ops op) in record {
        ops = u.ops ++ op ∷ [];
        taken = takes_more old now next u.ops n op u.taken t;
        count = omega (arith, c, l);
        opens = t.phase;
        adds = λ before h. subst (λ (x : List Seen). Notes marks'' found'' x) (append_assoc before (seen name 1 u.ops) ((name (many + 1), op.0) ∷ []) ∙ ap (λ x. before ++ x) more) (a (before ++ seen name 1 u.ops) (u.adds before h));
      }

  -- what is returned for an input
  abbrev pub ReadWhole : Reading → IndexMap DocKey ℕ S → IndexMap DocKey ℕ S → List (DocKey × Named) → List (DocKey × Named) → (ℕ → Option Named) → InputEnd → Type 0
  ReadWhole old marks marks' found found' name end = (ops : List Operation) × ReadsOperations old ops end × Adds marks marks' found found' (seen name 1 ops)

  pub read_whole : (old now : Reading) (marks marks' : IndexMap DocKey ℕ S) (found found' : List (DocKey × Named)) (name : ℕ → Option Named) (many : ℕ) (fault : Option InputFault) (end : InputEnd)
      → ReadSoFar old now marks marks' found found' name many → end ≡ record { count = many; fault = fault } → StopsReading now many fault → ReadWhole old marks marks' found found' name end
  read_whole old now marks marks' found found' name many fault end u is s = (
    u.ops,
    record {
      rest = now;
      taken = u.taken;
      count = ap (λ (e : InputEnd). e.count) is ∙ u.count;
      stops = subst (λ (f : Option InputFault). StopsReading now (length u.ops) f) (sym (ap (λ (e : InputEnd). e.fault) is)) (subst (λ (k : ℕ). StopsReading now k fault) u.count s);
    },
    u.adds,
  )

-- ---- all inputs

seen_in-append : (names : List Named) (p : ℕ) (os : List (List Operation)) (o : List Operation) → seen_in names p (os ++ o ∷ []) ≡ seen_in names p os ++ seen (name_at names (p + length os)) 1 o
seen_in-append names p [] o = let e : p ≡ p + 0 = omega arith in append-nil (seen (name_at names p) 1 o) ∙ ap (λ q. seen (name_at names q) 1 o) e
seen_in-append names p (x ∷ xs) o =
    let e : suc p + length xs ≡ p + length (x ∷ xs) = omega arith in
    ap (λ t. seen (name_at names p) 1 x ++ t) (seen_in-append names (suc p) xs o ∙ ap (λ q. seen_in names (suc p) xs ++ seen (name_at names q) 1 o) e)
    ∙ sym (append_assoc (seen (name_at names p) 1 x) (seen_in names (suc p) xs) (seen (name_at names (p + length (x ∷ xs))) 1 o))

module _ {T : Type 0} (left : T → Option (List ℕ)) (failed : T → ℕ) (default : Option (List ℕ)) where
  are_more : (ss : List T) (os : List (List Operation)) (es : List InputEnd) (s : T) (o : List Operation) (e : InputEnd) → AreRead left failed default ss os es → ReadsOperations (fresh (left s) (failed s) default) o e
      → AreRead left failed default (ss ++ s ∷ []) (os ++ o ∷ []) (es ++ e ∷ [])
  are_more [] [] [] s o e a r = (r, tt)
  are_more [] [] (e1 ∷ es) s o e a r = absurd a
  are_more [] (o1 ∷ os) es s o e a r = absurd a
  are_more (s1 ∷ ss) [] es s o e a r = absurd a
  are_more (s1 ∷ ss) (o1 ∷ os) [] s o e a r = absurd a
  are_more (s1 ∷ ss) (o1 ∷ os) (e1 ∷ es) s o e a r = (a.0, are_more ss os es s o e a.1 r)

  as_many : (ss : List T) (os : List (List Operation)) (es : List InputEnd) → AreRead left failed default ss os es → length es ≡ length os
  as_many [] [] [] a = refl
  as_many [] [] (e1 ∷ es) a = absurd a
  as_many [] (o1 ∷ os) es a = absurd a
  as_many (s1 ∷ ss) [] es a = absurd a
  as_many (s1 ∷ ss) (o1 ∷ os) [] a = absurd a
  as_many (s1 ∷ ss) (o1 ∷ os) (e1 ∷ es) a = ap suc (as_many ss os es a.1)

  -- these inputs were read, and those are left
  pub record AllSoFar {S : Type 0} (names : List Named) (inputs rest : List T) (ends : List InputEnd) (marks : IndexMap DocKey ℕ S) (found : List (DocKey × Named)) : Type 0 where
    pub done : List T
    pub ops : List (List Operation)
    pub split : inputs ≡ done ++ rest
    pub read : AreRead left failed default done ops ends
    pub notes : Notes marks found (seen_in names 0 ops)

  pub all_none : {S : Type 0} (names : List Named) (inputs : List T) (marks : IndexMap DocKey ℕ S) (found : List (DocKey × Named)) → Notes marks found [] → AllSoFar names inputs inputs [] marks found
  all_none names inputs marks found n = record { done = []; ops = []; split = refl; read = tt; notes = n }

  pub all_more : {S : Type 0} (names : List Named) (inputs rest : List T) (input : T) (ends ends' : List InputEnd) (marks marks' : IndexMap DocKey ℕ S) (found found' : List (DocKey × Named)) (name : ℕ → Option Named) (end : InputEnd)
      → AllSoFar names inputs (input ∷ rest) ends marks found → ((k : ℕ) → name k ≡ name_at names (length ends) k) → ReadWhole (fresh (left input) (failed input) default) marks marks' found found' name end → ends' ≡ ends ++ end ∷ []
      → AllSoFar names inputs rest ends' marks' found'
  all_more names inputs rest input ends ends' marks marks' found found' name end a same r is =
      let m = as_many a.done a.ops ends a.read in
      let p : length ends ≡ 0 + length a.ops = omega (arith, m) in record {
        done = a.done ++ input ∷ [];
        ops = a.ops ++ r.0 ∷ [];
        split = a.split ∙ sym (append_assoc a.done (input ∷ []) rest);
        read = subst (λ (x : List InputEnd). AreRead left failed default (a.done ++ input ∷ []) (a.ops ++ r.0 ∷ []) x) (sym is) (are_more a.done a.ops ends input r.0 end a.read r.1);
        notes = subst (λ (x : List Seen). Notes marks' found' x)
            (ap (λ x. seen_in names 0 a.ops ++ x) (seen-same name (name_at names (length ends)) same 1 r.0 ∙ ap (λ q. seen (name_at names q) 1 r.0) p) ∙ sym (seen_in-append names 0 a.ops r.0))
            (r.2 (seen_in names 0 a.ops) a.notes);
      }

  pub all_done : {S : Type 0} (names : List Named) (inputs rest : List T) (ends : List InputEnd) (marks : IndexMap DocKey ℕ S) (found : List (DocKey × Named)) → rest ≡ [] → AllSoFar names inputs rest ends marks found
      → (ops : List (List Operation)) × AreRead left failed default inputs ops ends × Notes marks found (seen_in names 0 ops)
  all_done names inputs rest ends marks found e a =
      let whole : a.done ≡ inputs = sym (append-nil a.done) ∙ ap (λ r. a.done ++ r) (sym e) ∙ sym a.split in
      (a.ops, subst (λ (x : List T). AreRead left failed default x a.ops ends) whole a.read, a.notes)
