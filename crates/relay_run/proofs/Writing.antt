-- The states that a run writes: the marks in them, as the keeper gives more and as they are written.
use Rattle.std.proofs.Common.{◌≡◌, ◌≢◌, ℕ, zero, suc, ◌+◌, ◌<◌, ◌≤◌, List, [], ◌∷◌, ◌++◌, length, set, get_or, Option, None, Some, Bool, true, false, refl, sym, ap, subst, ◌∙◌, ⊎_elim, inl, inr, append_assoc, append-nil, arith}
use Rattle.std.specs.Prelude.{Err, IfErr, IfOk, IfSome, Ok, Result, slice_get}
use Rattle.std.proofs.lemmas.List.{length-append}
use Rattle.relay_results.specs.Words.{Mem}
use Rattle.relay_results.proofs.Lists.{Mem-last, Mem-left, Mem-push_cases, at-cases, at-last, at-left, at-within, equal_or_not, some_same}
use Rattle.relay_resume.specs.declared.mark.Mark.{Mark}
use Rattle.relay_resume.specs.declared.state.InputState.{InputState}
use Rattle.relay_resume.specs.declared.state.State.{State}
use Rattle.relay_resume.specs.Texts.{state_text}
use Rattle.relay_receipts.specs.declared.notice.Notice.{Notice}
use Rattle.relay_keeping.specs.declared.told.Told.{Told}
use Rattle.relay_keeping.specs.Keepers.{AllWere, IsMarkAfter, Keeping, TakesOne, WasMark, and_taken}
use Rattle.relay_run.specs.Written.{AllWell, AreBegun, AreRead, BeginsAt, GivesMore, GoesBy, IsBegun, IsMarked, IsPast, IsRead, IsWell, MayWrite, MovesOne, OpensOne, Past, Reads, Resuming, StartsAt, StillRead, Written, and_written, no_past, past_of}

-- ---- lists

set_there : {A : Type 0} (xs : List A) (k : ℕ) (y z : A) → slice_get (set xs k y) k ≡ Some z → z ≡ y
set_there [] k y z e = absurd (cc)
set_there (x ∷ xs) zero y z e = some_same z y (sym e)
set_there (x ∷ xs) (suc k) y z e = set_there xs k y z e

set_other : {A : Type 0} (xs : List A) (k p : ℕ) (y : A) → p ≢ k → slice_get (set xs k y) p ≡ slice_get xs p
set_other [] k p y n = refl
set_other (x ∷ xs) zero zero y n = absurd (n refl)
set_other (x ∷ xs) zero (suc p) y n = refl
set_other (x ∷ xs) (suc k) zero y n = refl
set_other (x ∷ xs) (suc k) (suc p) y n = set_other xs k p y (λ e. n (ap suc e))

pub set_length : {A : Type 0} (xs : List A) (k : ℕ) (y : A) → length (set xs k y) ≡ length xs
set_length [] k y = refl
set_length (x ∷ xs) zero y = refl
set_length (x ∷ xs) (suc k) y = ap suc (set_length xs k y)

pub get_there : {A : Type 0} (xs : List A) (k : ℕ) (x : A) → k < length xs → x ≡ get_or xs k x → slice_get xs k ≡ Some x
get_there [] k x h e = absurd (omega (arith, h))
get_there (f ∷ xs) zero x h e = ap Some (sym e)
get_there (f ∷ xs) (suc k) x h e = get_there xs k x (omega (arith, h)) e

-- ---- more marks are given

pub marked_more : (starts : List Mark) (given more : List (ℕ × Mark)) (p : ℕ) (m : Mark) → IsMarked starts given p m → IsMarked starts (given ++ more) p m
marked_more starts given more p m h = ⊎_elim (λ (s : slice_get starts p ≡ Some m). inl s) (λ (g : Mem (p, m) given). inr (Mem-left (p, m) given more g)) h

pub read_more : (reads : Reads) (starts : List Mark) (given more : List (ℕ × Mark)) (inputs : List InputState) → AreRead reads starts given inputs → AreRead reads starts (given ++ more) inputs
read_more reads starts given more inputs h = record {
  count = h.count;
  each = λ n p i at is. let r = h.each n p i at is in record { path = r.path; mark = marked_more starts given more p i.mark r.mark };
}

pub gives_none : (k : Keeping) → GivesMore k k
gives_none k = record { more = []; is = λ i. record k { given = sym (append-nil k.given) i }; were = λ w. w }

were_given : (starts : List Mark) (taken : List (Notice Told)) (given : List (ℕ × Mark)) (p : ℕ) (m : Mark) → IsMarkAfter starts taken p m → AllWere starts taken given → AllWere starts taken (given ++ (p, m) ∷ [])
were_given starts taken given p m now all g h =
    ⊎_elim (λ before. all g before)
    (λ (is : g ≡ (p, m)). subst (WasMark starts taken) (sym is) (record { before = taken; later = []; parts = sym (append-nil taken); then_mark = now }))
    (Mem-push_cases g given (p, m) h)

pub moves_gives : (p : ℕ) (mark mark' : Mark) (old new : Keeping) → MovesOne p mark mark' old new → GivesMore old new
moves_gives p mark mark' old new h =
    ⊎_elim (λ s. subst (GivesMore old) (sym s.1) (gives_none old))
    (λ g. subst (GivesMore old) (sym g.1) (record { more = (p, mark') ∷ []; is = refl; were = λ w. were_given old.starts old.taken old.given p mark' g.0 w })) h

pub gives_trans : (a b c : Keeping) → GivesMore a b → GivesMore b c → GivesMore a c
gives_trans a b c x y =
    let s : b.given ≡ a.given ++ x.more = ap (λ (k : Keeping). k.given) x.is in
    record {
      more = x.more ++ y.more;
      is = y.is ∙ (ap (λ (k : Keeping). record k { given = b.given ++ y.more }) x.is ∙ (λ i. record a { given = (ap (λ l. l ++ y.more) s ∙ append_assoc a.given x.more y.more) i }));
      were = λ w. y.were (x.were w);
    }

-- ---- one mark moves

moved_mark : (p : ℕ) (mark mark' : Mark) (old new : Keeping) → MovesOne p mark mark' old new → IsMarked old.starts old.given p mark → IsMarked new.starts new.given p mark'
moved_mark p mark mark' old new h was =
    ⊎_elim (λ s. subst (λ (k : Keeping). IsMarked k.starts k.given p mark') (sym s.1) (subst (IsMarked old.starts old.given p) (sym s.0) was))
    (λ g. subst (λ (k : Keeping). IsMarked k.starts k.given p mark') (sym g.1) (inr (Mem-last old.given (p, mark')))) h

pub given_read : (reads : Reads) (old new : Keeping) (inputs : List InputState) → GivesMore old new → AreRead reads old.starts old.given inputs → AreRead reads new.starts new.given inputs
given_read reads old new inputs g h =
    subst (λ (k : Keeping). AreRead reads k.starts k.given inputs) (sym g.is) (read_more reads old.starts old.given g.more inputs h)

pub still_moves : (producers : List ℕ) (n p : ℕ) (start old new : Keeping) (first inputs : List InputState) (x y : InputState) → n < length inputs → x ≡ get_or inputs n x → slice_get producers n ≡ Some p
    → MovesOne p x.mark y.mark old new → y.path ≡ x.path → StillRead producers start old first inputs → StillRead producers start new first (set inputs n y)
still_moves producers n p start old new first inputs x y h is at moves path all files begun =
    let was = all files begun in
    let more = moves_gives p x.mark y.mark old new moves in
    let now = given_read (record { producers = producers; files = files }) old new inputs more was in record {
      count = set_length inputs n y ∙ was.count;
      each = λ m q i at' is'.
          ⊎_elim (λ (e : m ≡ n).
          let is_y : i ≡ y = set_there inputs n y i (subst (λ k. slice_get (set inputs n y) k ≡ Some i) e is') in
          let is_p : q ≡ p = some_same q p (sym at' ∙ (ap (slice_get producers) e ∙ at)) in
          let there = was.each n p x at (get_there inputs n x h is) in
          let one : IsRead files new.starts new.given p y = record { path = there.path ∙ ap Some (sym path); mark = moved_mark p x.mark y.mark old new moves there.mark } in
          subst (λ k. IsRead files new.starts new.given k i) (sym is_p) (subst (IsRead files new.starts new.given p) (sym is_y) one))
          (λ (e : m ≢ n). now.each m q i at' (sym (set_other inputs n m y e) ∙ is'))
          (equal_or_not m n);
    }

-- ---- a run goes on with its keeper

past_more : (now now' past : Past) (later : List (Notice Told)) (more : List (ℕ × Mark)) → now'.taken ≡ now.taken ++ later → now'.given ≡ now.given ++ more → IsPast now past → IsPast now' past
past_more now now' past later more t g h = record {
  later = h.later ++ later;
  more = h.more ++ more;
  taken = t ∙ (ap (λ l. l ++ later) h.taken ∙ append_assoc past.taken h.later later);
  given = g ∙ (ap (λ l. l ++ more) h.given ∙ append_assoc past.given h.more more);
}

pub goes_given : (old new : Keeping) (r : Resuming) → GivesMore old new → GoesBy old r → GoesBy new r
goes_given old new r g h =
    let starts : new.starts ≡ old.starts = ap (λ (k : Keeping). k.starts) g.is in
    let taken : new.taken ≡ old.taken = ap (λ (k : Keeping). k.taken) g.is in
    let given : new.given ≡ old.given ++ g.more = ap (λ (k : Keeping). k.given) g.is in record {
      were = g.were h.were;
      inputs = given_read r.reads old new r.inputs g h.inputs;
      written = subst (λ (s : List Mark). AllWell r.reads s r.written) (sym starts) h.written;
      past = λ w m. past_more (past_of old) (past_of new) w.past [] g.more (taken ∙ sym (append-nil old.taken)) given (h.past w m);
    }

were_taken : (starts : List Mark) (taken : List (Notice Told)) (n : Notice Told) (given : List (ℕ × Mark)) → AllWere starts taken given → AllWere starts (taken ++ n ∷ []) given
were_taken starts taken n given all g m =
    let w = all g m in record { before = w.before; later = w.later ++ n ∷ []; parts = ap (λ l. l ++ n ∷ []) w.parts ∙ append_assoc w.before w.later (n ∷ []); then_mark = w.then_mark }

goes_one : (k : Keeping) (n : Notice Told) (r : Resuming) → GoesBy k r → GoesBy (and_taken n k) r
goes_one k n r h = record {
  were = were_taken k.starts k.taken n k.given h.were;
  inputs = h.inputs;
  written = h.written;
  past = λ w m. past_more (past_of k) (past_of (and_taken n k)) w.past (n ∷ []) [] refl (sym (append-nil k.given)) (h.past w m);
}

pub goes_taken : (took : Bool) (old new : Keeping) (r : Resuming) → TakesOne took old new → GoesBy old r → GoesBy new r
goes_taken true old new r h g = subst (λ (k : Keeping). GoesBy k r) (sym h.1) (goes_one old h.0 r g)
goes_taken false old new r h g = subst (λ (k : Keeping). GoesBy k r) (sym h) g

-- what was told was followed, or nothing
pub goes_followed : {E : Type 0} (result : Result Bool E) (old new : Keeping) (r : Resuming) → IfOk result (λ took. TakesOne took old new) → IfErr result (λ _. new ≡ old) → GoesBy old r → GoesBy new r
goes_followed (Ok took) old new r ok err g = goes_taken took old new r ok g
goes_followed (Err e) old new r ok err g = subst (λ (k : Keeping). GoesBy k r) (sym err) g

pub still_same : (ps qs : List ℕ) (old new : Keeping) (xs ys xs' ys' : List InputState) → ps ≡ qs → xs ≡ ys → xs' ≡ ys' → StillRead ps old new xs xs' → StillRead qs old new ys ys'
still_same ps qs old new xs ys xs' ys' p x y h =
    subst (λ (zs : List InputState). StillRead qs old new ys zs) y (subst (λ (zs : List InputState). StillRead qs old new zs xs') x (subst (λ zs. StillRead zs old new xs xs') p h))

-- the inputs of its state are others
pub goes_moved : (old new : Keeping) (r r' : Resuming) → GivesMore old new → StillRead r.reads.producers old new r.inputs r'.inputs → r' ≡ record r { inputs = r'.inputs } → GoesBy old r → GoesBy new r'
goes_moved old new r r' g still same h =
    let x = goes_given old new r g h in
    subst (GoesBy new) (sym same) (record { were = x.were; inputs = still r.reads.files h.inputs; written = x.written; past = x.past })

-- ---- a state is written

goes_written : (k : Keeping) (r : Resuming) (s : State) → s.inputs ≡ r.inputs → GoesBy k r → GoesBy k (record r { written = and_written (state_text s) (past_of k) r.written })
goes_written k r s is h =
    let last : Written = record { text = state_text s; past = past_of k } in
    let well : IsWell r.reads k.starts last = record { state = s; text = refl; inputs = subst (AreRead r.reads k.starts k.given) (sym is) h.inputs; were = h.were } in
    let past : IsPast (past_of k) (past_of k) = record { later = []; more = []; taken = sym (append-nil k.taken); given = sym (append-nil k.given) } in record {
      were = h.were;
      inputs = h.inputs;
      written = λ w m. ⊎_elim (λ before. h.written w before) (λ (e : w ≡ last). subst (IsWell r.reads k.starts) (sym e) well) (Mem-push_cases w r.written last m);
      past = λ w m. ⊎_elim (λ before. h.past w before) (λ (e : w ≡ last). subst (λ (x : Written). IsPast (past_of k) x.past) (sym e) past) (Mem-push_cases w r.written last m);
    }

pub goes_may : (k : Keeping) (r r' : Resuming) (s : State) → s.inputs ≡ r.inputs → MayWrite (state_text s) (past_of k) r.written r'.written → r' ≡ record r { written = r'.written } → GoesBy k r → GoesBy k r'
goes_may k r r' s is may same h =
    subst (GoesBy k) (sym same)
    (⊎_elim (λ (e : r'.written ≡ r.written). subst (λ ws. GoesBy k (record r { written = ws })) (sym e) h)
    (λ (e : r'.written ≡ and_written (state_text s) (past_of k) r.written). subst (λ ws. GoesBy k (record r { written = ws })) (sym e) (goes_written k r s is h)) may)

-- ---- a run begins

pub read_none : (files : List (List ℕ)) → AreRead (record { producers = []; files = files }) [] [] []
read_none files = record { count = refl; each = λ n p i at is. absurd (cc) }

-- the next input is not one of the state
pub opens_none : (path : List ℕ) (ps : List ℕ) (is : List InputState) (ms : List Mark) (m : Mark) → OpensOne (length ms) path ps ps is is ms (ms ++ m ∷ [])
opens_none path ps is ms m = record {
  count = length-append ms (m ∷ []);
  read = λ files here all. record {
    count = all.count;
    each = λ n p i at is. let r = all.each n p i at is in record {
      path = r.path;
      mark = ⊎_elim (λ (s : slice_get ms p ≡ Some i.mark). inl (at-left ms (m ∷ []) p i.mark s)) (λ (g : Mem {A = ℕ × Mark} (p, i.mark) []). absurd g) r.mark;
    };
  };
}

-- it is one
pub opens_input : (place : ℕ) (ps : List ℕ) (is : List InputState) (ms : List Mark) (i : InputState) → length ms ≡ place → OpensOne place i.path ps (ps ++ place ∷ []) is (is ++ i ∷ []) ms (ms ++ i.mark ∷ [])
opens_input place ps is ms i size = record {
  count = length-append ms (i.mark ∷ []) ∙ ap (λ n. n + 1) size;
  read = λ files here all. record {
    count = length-append is (i ∷ []) ∙ (ap (λ n. n + 1) all.count ∙ sym (length-append ps (place ∷ [])));
    each = λ n p j at on.
        ⊎_elim (λ (old : slice_get is n ≡ Some j).
        let w = at-within is n j old in
        let c = all.count in
        let at_old : slice_get ps n ≡ Some p = ⊎_elim (λ (a : slice_get ps n ≡ Some p). a) (λ (e : (n ≡ length ps) × (p ≡ place)). absurd (let x = e.0 in omega (arith, w, c, x))) (at-cases ps place n p at) in
        let r = all.each n p j at_old old in record {
          path = r.path;
          mark = ⊎_elim (λ (s : slice_get ms p ≡ Some j.mark). inl (at-left ms (i.mark ∷ []) p j.mark s)) (λ (g : Mem {A = ℕ × Mark} (p, j.mark) []). absurd g) r.mark;
        })
        (λ (new : (n ≡ length is) × (j ≡ i)).
        let e = new.0 in
        let c = all.count in
        let is_p : p ≡ place = ⊎_elim (λ (a : slice_get ps n ≡ Some p). absurd (let w = at-within ps n p a in omega (arith, e, c, w))) (λ (x : (n ≡ length ps) × (p ≡ place)). x.1) (at-cases ps place n p at) in
        let last : slice_get (ms ++ i.mark ∷ []) place ≡ Some i.mark = subst (λ k. slice_get (ms ++ i.mark ∷ []) k ≡ Some i.mark) size (at-last ms i.mark) in
        let one : IsRead files (ms ++ i.mark ∷ []) [] place i = record { path = here; mark = inl last } in
        subst (λ k. IsRead files (ms ++ i.mark ∷ []) [] k j) (sym is_p) (subst (IsRead files (ms ++ i.mark ∷ []) [] place) (sym new.1) one))
        (at-cases is i n j on);
  };
}

pub opens_pushed : (place : ℕ) (ps ps' : List ℕ) (is is' : List InputState) (ms ms' : List Mark) (i : InputState) → length ms ≡ place → ps' ≡ ps ++ place ∷ [] → is' ≡ is ++ i ∷ [] → ms' ≡ ms ++ i.mark ∷ [] → OpensOne place i.path ps ps' is is' ms ms'
opens_pushed place ps ps' is is' ms ms' i size p q m =
    subst (λ xs. OpensOne place i.path ps xs is is' ms ms') (sym p)
    (subst (λ (ys : List InputState). OpensOne place i.path ps (ps ++ place ∷ []) is ys ms ms') (sym q)
    (subst (λ (zs : List Mark). OpensOne place i.path ps (ps ++ place ∷ []) is (is ++ i ∷ []) ms zs) (sym m) (opens_input place ps is ms i size)))

pub opens_other : (place : ℕ) (path : List ℕ) (ps : List ℕ) (is : List InputState) (ms ms' : List Mark) (m : Mark) → length ms ≡ place → ms' ≡ ms ++ m ∷ [] → OpensOne place path ps ps is is ms ms'
opens_other place path ps is ms ms' m size e =
    subst (λ n. OpensOne n path ps ps is is ms ms') size (subst (λ (zs : List Mark). OpensOne (length ms) path ps ps is is ms zs) (sym e) (opens_none path ps is ms m))

-- the inputs at the places up to this one were opened
pub opened : (place len : ℕ) (path : List ℕ) (files : List (List ℕ)) (ps ps' : List ℕ) (is is' : List InputState) (ms ms' : List Mark) → OpensOne place path ps ps' is is' ms ms' → len ≡ length ms' → slice_get files place ≡ Some path
    → AreRead (record { producers = ps; files = files }) ms [] is → (len ≡ place + 1) × AreRead (record { producers = ps'; files = files }) ms' [] is'
opened place len path files ps ps' is is' ms ms' h size here all = (size ∙ h.count, h.read files here all)

-- the state of a run that begins is written
pub begins : (r : Resuming) (s : State) → length r.starts ≤ length r.reads.files → AreRead r.reads r.starts [] r.inputs → s.inputs ≡ r.inputs → (old : List Written) → old ≡ [] → MayWrite (state_text s) no_past old r.written → IsBegun r
begins r s count read is old none may =
    let last : Written = record { text = state_text s; past = no_past } in
    let well : IsWell r.reads r.starts last = record { state = s; text = refl; inputs = subst (AreRead r.reads r.starts []) (sym is) read; were = λ g m. absurd m } in
    let is_last : (w : Written) → Mem w r.written → w ≡ last = λ w m.
    ⊎_elim (λ (e : r.written ≡ old). absurd (subst (Mem w) (e ∙ none) m))
    (λ (e : r.written ≡ and_written (state_text s) no_past old).
    ⊎_elim (λ (b : Mem w []). absurd b) (λ (x : w ≡ last). x) (Mem-push_cases w [] last (subst (λ l. Mem w (l ++ last ∷ [])) none (subst (Mem w) e m)))) may in record {
      count = count;
      inputs = read;
      written = λ w m. subst (IsWell r.reads r.starts) (sym (is_last w m)) well;
      past = λ w m. ap (λ (x : Written). x.past) (is_last w m);
    }

-- where it is read from, it is
starts_read : (reads : Reads) (starts now : List Mark) (given : List (ℕ × Mark)) (inputs : List InputState) → StartsAt starts now → AreRead reads starts given inputs → AreRead reads now given inputs
starts_read reads starts now given inputs at h = record {
  count = h.count;
  each = λ n p i x y. let r = h.each n p i x y in record {
    path = r.path;
    mark = ⊎_elim (λ (s : slice_get starts p ≡ Some i.mark). inl (at p i.mark s)) (λ (g : Mem (p, i.mark) given). inr g) r.mark;
  };
}

pub begun_goes : (r : Resuming) (k : Keeping) → IsBegun r → StartsAt r.starts k.starts → k.given ≡ [] → GoesBy k r
begun_goes r k b at none = record {
  were = subst (AllWere k.starts k.taken) (sym none) (λ g m. absurd m);
  inputs = subst (λ gs. AreRead r.reads k.starts gs r.inputs) (sym none) (starts_read r.reads r.starts k.starts [] r.inputs at b.inputs);
  written = λ w m.
      let x = b.written w m in
      let p = b.past w m in record {
        state = x.state;
        text = x.text;
        inputs = starts_read r.reads r.starts k.starts w.past.given x.state.inputs at x.inputs;
        were = subst (λ (q : Past). AllWere k.starts q.taken q.given) (sym p) (λ g n. absurd n);
      };
  past = λ w m.
      let p = b.past w m in
      subst (IsPast (past_of k)) (sym p) (record { later = k.taken; more = k.given; taken = refl; given = refl });
}

pub begun_both : (o : Option Resuming) (p : Option Keeping) (r : Resuming) (k : Keeping) → o ≡ Some r → p ≡ Some k → AreBegun o p → GoesBy k r
begun_both o p r k e f h =
    let x : AreBegun (Some r) (Some k) = subst (λ (q : Option Keeping). AreBegun (Some r) q) f (subst (λ (q : Option Resuming). AreBegun q p) e h) in
    begun_goes r k x.0 x.1 x.2

-- the marks that a run starts with, one after another
starts_push : (starts ms : List Mark) (m : Mark) (n : ℕ) → length ms ≡ n → ((p : ℕ) (x : Mark) → p < n → slice_get starts p ≡ Some x → slice_get ms p ≡ Some x) → ((x : Mark) → slice_get starts n ≡ Some x → m ≡ x)
    → (p : ℕ) (x : Mark) → p < n + 1 → slice_get starts p ≡ Some x → slice_get (ms ++ m ∷ []) p ≡ Some x
starts_push starts ms m n size all here p x within at =
    ⊎_elim (λ (e : p ≡ n).
    let is : m ≡ x = here x (ap (slice_get starts) (sym e) ∙ at) in
    let last : slice_get (ms ++ m ∷ []) p ≡ Some m = subst (λ k. slice_get (ms ++ m ∷ []) k ≡ Some m) (size ∙ sym e) (at-last ms m) in last ∙ ap Some is)
    (λ (e : p ≢ n). at-left ms (m ∷ []) p x (all p x (below p n within e) at))
    (equal_or_not p n)
  where
    below : (p n : ℕ) → p < n + 1 → p ≢ n → p < n
    below p n w e = omega (arith, w, e)

-- ---- where the inputs of a run are read from, at the first places

abbrev pub StartsUpTo : ℕ → Option Resuming → List Mark → Type 0
StartsUpTo n None ms = Unit {0}
StartsUpTo n (Some r) ms = (p : ℕ) (x : Mark) → p < n → slice_get r.starts p ≡ Some x → slice_get ms p ≡ Some x

pub starts_none : (o : Option Resuming) → StartsUpTo 0 o []
starts_none None = tt
starts_none (Some r) = λ p x within at. absurd (omega (arith, within))

same_mark : (o : Option Mark) (m x : Mark) → IfSome o (λ y. m ≡ y) → o ≡ Some x → m ≡ x
same_mark None m x h e = absurd (cc)
same_mark (Some y) m x h e = h ∙ some_same y x e

pub starts_more : (o : Option Resuming) (n : ℕ) (ms : List Mark) (m : Mark) → length ms ≡ n → StartsUpTo n o ms → IfSome o (λ r. IfSome (slice_get r.starts n) (λ x. m ≡ x)) → StartsUpTo (n + 1) o (ms ++ m ∷ [])
starts_more None n ms m size all here = tt
starts_more (Some r) n ms m size all here = starts_push r.starts ms m n size all (λ x at. same_mark (slice_get r.starts n) m x here at)

pub starts_all : (o : Option Resuming) (n files : ℕ) (ms : List Mark) → files ≤ n → StartsUpTo n o ms → IfSome o (λ r. length r.starts ≤ files → StartsAt r.starts ms)
starts_all None n files ms end all = tt
starts_all (Some r) n files ms end all = λ size p x at. all p x (let w = at-within r.starts p x at in omega (arith, w, size, end)) at

-- ---- as a run starts

-- a run that goes on and its keeper, which was told where the inputs are read from
pub begun_if : (files : List (List ℕ)) (o : Option Resuming) (p : Option Keeping) (starts now : List Mark) → BeginsAt files o → IfSome o (λ r. StartsAt r.starts starts) → now ≡ starts → IfSome p (λ k. (k.starts ≡ now) × (k.given ≡ [])) → AreBegun o p
begun_if files None p starts now b s e k = tt
begun_if files (Some r) None starts now b s e k = tt
begun_if files (Some r) (Some m) starts now b s e k = (b.0, subst (StartsAt r.starts) (sym (k.0 ∙ e)) s, k.1)

-- there is a place for each of the marks that it is to be read from
pub starts_if : (files : List (List ℕ)) (o : Option Resuming) (n : ℕ) (starts : List Mark) → BeginsAt files o → length files ≡ n → IfSome o (λ r. length r.starts ≤ n → StartsAt r.starts starts) → IfSome o (λ r. StartsAt r.starts starts)
starts_if files None n starts b size s = tt
starts_if files (Some r) n starts b size s = s (let w = b.0.count in let f : length r.reads.files ≡ length files = ap length b.1 in omega (arith, w, f, size))
