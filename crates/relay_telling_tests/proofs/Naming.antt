-- The handles that are returned are those that were handed out.
use Rattle.std.proofs.Common.{◌≡◌, ℕ, zero, suc, ◌+◌, ◌<◌, List, [], ◌∷◌, ◌++◌, length, map, set, get_or, sym, refl, ap, ◌∙◌, subst, arith}
use Rattle.relay_queue.specs.Ends.{Queue, fresh}
use Rattle.relay_producer.specs.Ends.{open_end, identities, open_puts, closed_puts}
use Rattle.relay_producer.specs.States.{ProducerState, ClosedProducerState, ControlState, ClosedControlState}
use Rattle.relay_receipts.specs.Ends.{TakeEnd}
use Rattle.relay_receipts.specs.Windows.{WindowState}
use Rattle.relay_telling.specs.declared.ending.Ending.{Ending}
use Rattle.relay_telling.specs.New.{channels_of, new_take}
use Rattle.relay_threads.specs.Relay.{NoneOut, AreNew, new_control, ends_of, AreRows, rows_of}
use Rattle.relay_telling_tests.specs.Handles.{HaveNotPut, HaveNotTaken, new_names, open_names, closed_names, names_from}

-- ---- the start

-- one more wire on which no number is outstanding
none_more : {W : Type 0} (out : W → List ℕ) (ws : List W) (w : W) → NoneOut out ws → out w ≡ [] → NoneOut out (ws ++ w ∷ [])
none_more out [] w all here = (here, tt)
none_more out (x ∷ xs) w all here = (all.0, none_more out xs w all.1 here)

pub none_pushed : {W : Type 0} (out : W → List ℕ) (ws : List W) (w : W) (now : List W) → NoneOut out ws → out w ≡ [] → now ≡ ws ++ w ∷ [] → NoneOut out now
none_pushed out ws w now all here is = subst (λ l. NoneOut out l) (sym is) (none_more out ws w all here)

pub none_put : (qs : List Queue) (epoch p : ℕ) (ps : List ProducerState) → AreNew qs epoch p ps → HaveNotPut ps
none_put qs epoch p [] new = tt
none_put qs epoch p (x ∷ xs) new = (ap (λ (s : ProducerState). s.put) new.0, none_put qs epoch (p + 1) xs new.1)

pub none_taken : (lanes : ℕ) (ts : List (TakeEnd Ending)) → ts ≡ map (new_take lanes) (channels_of ts) → HaveNotTaken ts
none_taken lanes [] e = tt
none_taken lanes (t ∷ ts) e =
    let head : t ≡ new_take lanes t.channel = cc in
    let rest : ts ≡ map (new_take lanes) (channels_of ts) = cc in
    (ap (λ (s : TakeEnd Ending). s.taken) head, none_taken lanes ts rest)

fresh_names : (qs : List Queue) (p : ℕ) → identities (open_puts (map (λ q. open_end (fresh q p)) qs)) ≡ ends_of qs p
fresh_names [] p = refl
fresh_names (q ∷ qs) p = ap (λ l. (q, p) ∷ l) (fresh_names qs p)

pub names_new : (qs : List Queue) (epoch p : ℕ) (ps : List ProducerState) → AreNew qs epoch p ps → new_names ps ≡ names_from qs p (length ps)
names_new qs epoch p [] new = refl
names_new qs epoch p (x ∷ xs) new =
    let here : identities (open_puts x.ends) ≡ ends_of qs p = ap (λ (s : ProducerState). identities (open_puts s.ends)) new.0 ∙ fresh_names qs p in
    let rest : new_names xs ≡ names_from qs (p + 1) (length xs) = names_new qs epoch (p + 1) xs new.1 in
    cc

pub control_new : (qs : List Queue) (n : ℕ) (k : ControlState) → k ≡ new_control qs n → identities (open_puts k.ends) ≡ ends_of qs n
control_new qs n k is = ap (λ (x : ControlState). identities (open_puts x.ends)) is ∙ fresh_names qs n

-- ---- the run

-- one of them has changed, and its ends are of the same queues
pub names_set : (ws : List (WindowState Ending)) (i : ℕ) (y d : WindowState Ending) → i < length ws → d ≡ get_or ws i d → identities (open_puts y.producer.ends) ≡ identities (open_puts d.producer.ends) → open_names (set ws i y) ≡ open_names ws
names_set [] i y d lt at e = refl
names_set (w ∷ ws) zero y d lt at e = let same : identities (open_puts y.producer.ends) ≡ identities (open_puts w.producer.ends) = e ∙ ap (λ (x : WindowState Ending). identities (open_puts x.producer.ends)) at in λ i. same i ∷ open_names ws
names_set (w ∷ ws) (suc i) y d lt at e = ap (λ l. identities (open_puts w.producer.ends) ∷ l) (names_set ws i y d (omega arith) at e)

-- ---- the end

pub count_closed : (qs : List Queue) (p n : ℕ) (cs : List ClosedProducerState) → closed_names cs ≡ names_from qs p n → length cs ≡ n
count_closed qs p zero [] e = refl
count_closed qs p (suc n) [] e = absurd (cc)
count_closed qs p zero (c ∷ cs) e = absurd (cc)
count_closed qs p (suc n) (c ∷ cs) e =
    let rest : closed_names cs ≡ names_from qs (p + 1) n = cc in
    ap suc (count_closed qs (p + 1) n cs rest)

-- the rows of all ends, where the producers' are those of n producers from p on, and the control's are numbered after them
pub rows_fit : (qs : List Queue) (p n : ℕ) (cs : List ClosedProducerState) (k : ClosedControlState) → closed_names cs ≡ names_from qs p n → identities (closed_puts k.ends) ≡ ends_of qs (p + n) → AreRows qs p (rows_of cs k)
rows_fit qs p zero [] k e own = (own ∙ ap (ends_of qs) (let z : p + 0 ≡ p = omega arith in z), tt)
rows_fit qs p (suc n) [] k e own = absurd (cc)
rows_fit qs p zero (c ∷ cs) k e own = absurd (cc)
rows_fit qs p (suc n) (c ∷ cs) k e own =
    let here : identities (closed_puts c.ends) ≡ ends_of qs p = cc in
    let rest : closed_names cs ≡ names_from qs (p + 1) n = cc in
    (here, rows_fit qs (p + 1) n cs k rest (own ∙ ap (ends_of qs) (let z : p + suc n ≡ p + 1 + n = omega arith in z)))
