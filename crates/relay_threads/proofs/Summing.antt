-- Lanes are summed up, from the last one to the first.
use Rattle.std.proofs.Common.{◌≡◌, ℕ, suc, ◌+◌, ◌<◌, false, List, [], ◌∷◌, ◌++◌, length, Some, sym, refl, ap, ◌∙◌, subst, arith, append-nil, append_assoc, length-append}
use Rattle.std.specs.Prelude.{slice_get}
use Rattle.relay_action.specs.declared.mail.Mail.{Mail}
use Rattle.relay_queue.specs.Ends.{Queue}
use Rattle.relay_queue.specs.Messages.{mail_of, HasDone}
use Rattle.relay_producer.specs.declared.ends.ClosedEnd.{ClosedEnd}
use Rattle.relay_producer.specs.declared.ends.ClosedEnd.TheVariants.{Closed, Gone}
use Rattle.relay_producer.specs.Ends.{is_gone, end_of, closed_puts, identity, identities}
use Rattle.relay_threads.specs.declared.lane_end.LaneEnd.{LaneEnd}
use Rattle.relay_threads.specs.declared.summary.LaneSummary.{LaneSummary}
use Rattle.relay_threads.specs.Rows.{HaveSome, LoseLast}
use Rattle.relay_threads.specs.Relay.{ends_of, AreRows}
use Rattle.relay_threads.specs.Sums.{IsClosedOn, AreClosedOn, AreMet, IsMetAt, AreMetAt, NoneGoneIn, NoneGone, queues_of_ends, AreDone, SumsUp, AllSumUp}
use Rattle.relay_threads.proofs.Popping.{long_map}
use Rattle.relay_threads.proofs.Dealing.{snoc_same, map_snoc}

-- ---- rows

-- a row has as many ends as there are queues
pub row_long : (qs : List Queue) (p : ℕ) (row : List ClosedEnd) → identities (closed_puts row) ≡ ends_of qs p → length row ≡ length qs
row_long qs p row e =
    sym (long_map end_of row) ∙ sym (long_map identity (closed_puts row)) ∙ ap length e ∙ long_map (λ (q : Queue). (q, p)) qs

-- of each row the first ends are left
abbrev pub Fronts : List (List ClosedEnd) → List (List ClosedEnd) → Type 0
Fronts [] [] = Unit {0}
Fronts [] (r ∷ rs) = ⊥
Fronts (o ∷ os) [] = ⊥
Fronts (o ∷ os) (r ∷ rs) = ((rest : List ClosedEnd) × (o ≡ r ++ rest)) × Fronts os rs

fronts_same : (rows : List (List ClosedEnd)) → Fronts rows rows
fronts_same [] = tt
fronts_same (r ∷ rs) = (([], sym (append-nil r)), fronts_same rs)

fronts_on : (olds rows news : List (List ClosedEnd)) (column : List ClosedEnd) → Fronts olds rows → LoseLast rows news column → Fronts olds news
fronts_on [] [] [] [] f h = tt
fronts_on [] [] [] (x ∷ xs) f h = absurd h
fronts_on [] [] (n ∷ ns) column f h = absurd h
fronts_on [] (r ∷ rs) news column f h = absurd f
fronts_on (o ∷ os) [] news column f h = absurd f
fronts_on (o ∷ os) (r ∷ rs) [] column f h = absurd h
fronts_on (o ∷ os) (r ∷ rs) (n ∷ ns) [] f h = absurd h
fronts_on (o ∷ os) (r ∷ rs) (n ∷ ns) (x ∷ xs) f h = ((x ∷ f.0.0, f.0.1 ∙ ap (λ l. l ++ f.0.0) h.0 ∙ append_assoc n (x ∷ []) f.0.0), fronts_on os rs ns xs f.1 h.1)

closed_here : (q : Queue) (p : ℕ) (x : ClosedEnd) → ◌≡◌ {A = Queue × ℕ} ((end_of x).queue, (end_of x).sender) (q, p) → is_gone x ≡ false → IsClosedOn q p x
closed_here q p (Closed put) e g = (ap (λ (z : Queue × ℕ). z.0) e, ap (λ (z : Queue × ℕ). z.1) e)
closed_here q p (Gone put) e g = absurd (cc)

none_gone_front : (a : List ClosedEnd) (x : ClosedEnd) → NoneGoneIn (a ++ x ∷ []) → NoneGoneIn a × (is_gone x ≡ false)
none_gone_front [] x h = (tt, h.0)
none_gone_front (y ∷ ys) x h = let r = none_gone_front ys x h.1 in ((h.0, r.0), r.1)

-- one row loses its end of the last queue
pub record RowSplits (qs : List Queue) (q : Queue) (p : ℕ) (new : List ClosedEnd) (x : ClosedEnd) : Type 0 where
  pub left : identities (closed_puts new) ≡ ends_of qs p
  pub none_gone : NoneGoneIn new
  pub closed : IsClosedOn q p x

row_splits : (qs : List Queue) (q : Queue) (p : ℕ) (row new : List ClosedEnd) (x : ClosedEnd) → identities (closed_puts row) ≡ ends_of (qs ++ q ∷ []) p → NoneGoneIn row → row ≡ new ++ x ∷ [] → RowSplits qs q p new x
row_splits qs q p row new x own none is =
    let puts : closed_puts row ≡ closed_puts new ++ end_of x ∷ [] = ap closed_puts is ∙ map_snoc end_of new x in
    let ids : identities (closed_puts row) ≡ identities (closed_puts new) ++ identity (end_of x) ∷ [] = ap identities puts ∙ map_snoc identity (closed_puts new) (end_of x) in
    let s = snoc_same (identities (closed_puts new)) (ends_of qs p) (identity (end_of x)) (q, p) (sym ids ∙ own ∙ map_snoc (λ (k : Queue). (k, p)) qs q) in
    let g = none_gone_front new x (subst NoneGoneIn is none) in
    record { left = s.0; none_gone = g.0; closed = closed_here q p x s.1 g.1 }

-- all rows do
pub record RowsSplit (qs : List Queue) (q : Queue) (p : ℕ) (news : List (List ClosedEnd)) (column : List ClosedEnd) : Type 0 where
  pub left : AreRows qs p news
  pub none_gone : NoneGone news
  pub closed : AreClosedOn q p column

rows_split : (qs : List Queue) (q : Queue) (p : ℕ) (rows news : List (List ClosedEnd)) (column : List ClosedEnd) → AreRows (qs ++ q ∷ []) p rows → NoneGone rows → LoseLast rows news column → RowsSplit qs q p news column
rows_split qs q p [] [] [] own none h = record { left = tt; none_gone = tt; closed = tt }
rows_split qs q p [] [] (x ∷ xs) own none h = absurd h
rows_split qs q p [] (n ∷ ns) column own none h = absurd h
rows_split qs q p (r ∷ rs) [] column own none h = absurd h
rows_split qs q p (r ∷ rs) (n ∷ ns) [] own none h = absurd h
rows_split qs q p (r ∷ rs) (n ∷ ns) (x ∷ xs) own none h =
    let one = row_splits qs q p r n x own.0 none.0 h.0 in
    let more = rows_split qs q (p + 1) rs ns xs own.1 none.1 h.1 in
    record { left = (one.left, more.left); none_gone = (one.none_gone, more.none_gone); closed = (one.closed, more.closed) }

lose_long : (rows news : List (List ClosedEnd)) (column : List ClosedEnd) → LoseLast rows news column → (length news ≡ length rows) × (length column ≡ length rows)
lose_long [] [] [] h = (refl, refl)
lose_long [] [] (x ∷ xs) h = absurd h
lose_long [] (n ∷ ns) column h = absurd h
lose_long (r ∷ rs) [] column h = absurd h
lose_long (r ∷ rs) (n ∷ ns) [] h = absurd h
lose_long (r ∷ rs) (n ∷ ns) (x ∷ xs) h = let m = lose_long rs ns xs h.1 in (ap suc m.0, ap suc m.1)

rows_some : (qs : List Queue) (p : ℕ) (rows : List (List ClosedEnd)) → 0 < length qs → AreRows qs p rows → HaveSome rows
rows_some qs p [] lt own = tt
rows_some qs p (r ∷ rs) lt own = (let e = row_long qs p r own.0 in omega (arith, e, lt), rows_some qs (p + 1) rs lt own.1)

get_seam : (a : List ClosedEnd) (x : ClosedEnd) (rest : List ClosedEnd) → slice_get ((a ++ x ∷ []) ++ rest) (length a) ≡ Some x
get_seam [] x rest = refl
get_seam (y ∷ ys) x rest = get_seam ys x rest

-- what was met in the column was met in the rows
met_at : (qs : List Queue) (l k p : ℕ) (taken : List Mail) (olds rows news : List (List ClosedEnd)) (column : List ClosedEnd) → length qs ≡ l → Fronts olds rows → LoseLast rows news column → AreRows qs k news → AreMet p taken column → AreMetAt l p taken olds
met_at qs l k p taken [] [] [] [] n f h own m = tt
met_at qs l k p taken [] [] [] (x ∷ xs) n f h own m = absurd h
met_at qs l k p taken [] [] (y ∷ ys) column n f h own m = absurd h
met_at qs l k p taken [] (r ∷ rs) news column n f h own m = absurd f
met_at qs l k p taken (o ∷ os) [] news column n f h own m = absurd f
met_at qs l k p taken (o ∷ os) (r ∷ rs) [] column n f h own m = absurd h
met_at qs l k p taken (o ∷ os) (r ∷ rs) (y ∷ ys) [] n f h own m = absurd h
met_at qs l k p taken (o ∷ os) (r ∷ rs) (y ∷ ys) (x ∷ xs) n f h own m =
    let whole : o ≡ (y ++ x ∷ []) ++ f.0.0 = f.0.1 ∙ ap (λ z. z ++ f.0.0) h.0 in
    let here : slice_get o l ≡ Some x = (λ i. slice_get (whole i) (sym (row_long qs k y own.0 ∙ n) i)) ∙ get_seam y x f.0.0 in
    (subst (λ z. IsMetAt z p taken) (sym here) m.0, met_at qs l (k + 1) (p + 1) taken os rs ys xs n f.1 h.1 own.1 m.1)

-- ---- lanes

module _ {W : Type 0} where
  done_last : (n : ℕ) (ends : List (LaneEnd W)) (e : LaneEnd W) → AreDone n (ends ++ e ∷ []) → AreDone n ends × ((sender : ℕ) → sender < n → HasDone (mail_of sender e.taken.taken))
  done_last n [] e d = (tt, d.0)
  done_last n (x ∷ xs) e d = let r = done_last n xs e d.1 in ((d.0, r.0), r.1)

  snoc_one : (xs : List (LaneEnd W)) (x : LaneEnd W) (ys : List (LaneEnd W)) → (xs ++ x ∷ []) ++ ys ≡ xs ++ x ∷ ys
  snoc_one [] x ys = refl
  snoc_one (y ∷ xs) x ys = ap (λ l. y ∷ l) (snoc_one xs x ys)

  -- the last lanes are summed up, and the first are left
  pub record SumsOn (n : ℕ) (rows0 rows : List (List ClosedEnd)) (ends0 ends : List (LaneEnd W)) (all : List (LaneSummary W)) : Type 0 where
    pub past : List (LaneEnd W)
    pub ended : ends0 ≡ ends ++ past
    pub summed : AllSumUp rows0 (length ends) past all
    pub fronts : Fronts rows0 rows
    pub owned : AreRows (queues_of_ends ends) 0 rows
    pub none_gone : NoneGone rows
    pub done : AreDone n ends
    pub count : length rows ≡ n

  pub sums_none : (n : ℕ) (rows : List (List ClosedEnd)) (ends : List (LaneEnd W)) (all : List (LaneSummary W)) → all ≡ [] → AreRows (queues_of_ends ends) 0 rows → NoneGone rows → AreDone n ends → length rows ≡ n → SumsOn n rows rows ends ends all
  sums_none n rows ends all e own none done count =
      record { past = []; ended = sym (append-nil ends); summed = subst (AllSumUp rows (length ends) []) (sym e) tt; fronts = fronts_same rows; owned = own; none_gone = none; done = done; count = count }

  -- what precedes the last lane that is left is summed up
  pub record SumsNext (n : ℕ) (rows : List (List ClosedEnd)) (ends' : List (LaneEnd W)) (e : LaneEnd W) : Type 0 where
    pub some : HaveSome rows
    pub done : (sender : ℕ) → sender < n → HasDone (mail_of sender e.taken.taken)
    pub column : (news : List (List ClosedEnd)) (column : List ClosedEnd) → LoseLast rows news column → AreClosedOn e.taken.queue 0 column × (length column ≡ n)

  queues_last : (ends' : List (LaneEnd W)) (e : LaneEnd W) → queues_of_ends (ends' ++ e ∷ []) ≡ queues_of_ends ends' ++ e.taken.queue ∷ []
  queues_last ends' e = map_snoc (λ (x : LaneEnd W). x.taken.queue) ends' e

  pub sums_next : (n : ℕ) (rows0 rows : List (List ClosedEnd)) (ends0 ends ends' : List (LaneEnd W)) (all : List (LaneSummary W)) (e : LaneEnd W) → SumsOn n rows0 rows ends0 ends all → ends ≡ ends' ++ e ∷ [] → SumsNext n rows ends' e
  sums_next n rows0 rows ends0 ends ends' all e s is =
      let own = subst (λ qs. AreRows qs 0 rows) (ap queues_of_ends is ∙ queues_last ends' e) s.owned in
      let long = length-append (queues_of_ends ends') (e.taken.queue ∷ []) in
      record {
        some = rows_some (queues_of_ends ends' ++ e.taken.queue ∷ []) 0 rows (omega (arith, long)) own;
        done = (done_last n ends' e (subst (AreDone n) is s.done)).1;
        column = λ news column h. ((rows_split (queues_of_ends ends') e.taken.queue 0 rows news column own s.none_gone h).closed, (lose_long rows news column h).1 ∙ s.count);
      }

  pub sums_on : (n : ℕ) (rows0 rows news : List (List ClosedEnd)) (column : List ClosedEnd) (ends0 ends ends' : List (LaneEnd W)) (all all' : List (LaneSummary W)) (e : LaneEnd W) (x : LaneSummary W)
      → SumsOn n rows0 rows ends0 ends all → ends ≡ ends' ++ e ∷ [] → LoseLast rows news column → AreMet 0 e.taken.taken column → SumsUp e x → all' ≡ x ∷ all → SumsOn n rows0 news ends0 ends' all'
  sums_on n rows0 rows news column ends0 ends ends' all all' e x s is h met sum more =
      let own = subst (λ qs. AreRows qs 0 rows) (ap queues_of_ends is ∙ queues_last ends' e) s.owned in
      let split = rows_split (queues_of_ends ends') e.taken.queue 0 rows news column own s.none_gone h in
      let long = length-append ends' (e ∷ []) in
      let at : length ends ≡ length ends' + 1 = ap length is ∙ long in
      record {
        past = e ∷ s.past;
        ended = s.ended ∙ ap (λ l. l ++ s.past) is ∙ snoc_one ends' e s.past;
        summed = subst (AllSumUp rows0 (length ends') (e ∷ s.past)) (sym more) ((met_at (queues_of_ends ends') (length ends') 0 0 e.taken.taken rows0 rows news column (long_map (λ (y : LaneEnd W). y.taken.queue) ends') s.fronts h split.left met, sum), subst (λ k. AllSumUp rows0 k s.past all) at s.summed);
        fronts = fronts_on rows0 rows news column s.fronts h;
        owned = split.left;
        none_gone = split.none_gone;
        done = (done_last n ends' e (subst (AreDone n) is s.done)).0;
        count = (lose_long rows news column h).0 ∙ s.count;
      }

  pub sums_all : (n : ℕ) (rows0 rows : List (List ClosedEnd)) (ends0 ends : List (LaneEnd W)) (all : List (LaneSummary W)) → SumsOn n rows0 rows ends0 ends all → length ends ≡ 0 → AllSumUp rows0 0 ends0 all
  sums_all n rows0 rows ends0 [] all s none = subst (λ l. AllSumUp rows0 0 l all) (sym s.ended) s.summed
  sums_all n rows0 rows ends0 (e ∷ es) all s none = absurd (omega (arith, none))
