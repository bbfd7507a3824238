-- The handles that are returned are those that were handed out.
use Rattle.std.proofs.Common.{◌≡◌, ℕ, zero, suc, ◌+◌, ◌<◌, List, [], ◌∷◌, ◌++◌, length, map, set, get_or, sym, refl, ap, ◌∙◌, subst, arith}
use Rattle.relay_queue.specs.Ends.{Queue, fresh}
use Rattle.relay_producer.specs.Ends.{open_end, identities, open_puts, closed_puts}
use Rattle.relay_producer.specs.States.{ProducerState, ClosedProducerState, ControlState, ClosedControlState}
use Rattle.relay_threads.specs.Relay.{NoneOut, AreNew, new_control, ends_of, AreRows, rows_of}
use Rattle.relay_threads_tests.specs.Handles.{open_names, closed_names}

-- one of them has changed, and its ends are of the same queues
pub names_set : (ps : List ProducerState) (i : ℕ) (y d : ProducerState) → i < length ps → d ≡ get_or ps i d → identities (open_puts y.ends) ≡ identities (open_puts d.ends) → open_names (set ps i y) ≡ open_names ps
names_set [] i y d lt at e = refl
names_set (p ∷ ps) zero y d lt at e = let same : identities (open_puts y.ends) ≡ identities (open_puts p.ends) = e ∙ ap (λ (x : ProducerState). identities (open_puts x.ends)) at in λ i. same i ∷ open_names ps
names_set (p ∷ ps) (suc i) y d lt at e = ap (λ l. identities (open_puts p.ends) ∷ l) (names_set ps i y d (omega arith) at e)

fresh_names : (qs : List Queue) (p : ℕ) → identities (open_puts (map (λ q. open_end (fresh q p)) qs)) ≡ ends_of qs p
fresh_names [] p = refl
fresh_names (q ∷ qs) p = ap (λ l. (q, p) ∷ l) (fresh_names qs p)

-- the rows of what closed are those of what was new
pub rows_fit : (qs : List Queue) (epoch p : ℕ) (cs : List ClosedProducerState) (ps : List ProducerState) (k : ClosedControlState) → closed_names cs ≡ open_names ps → AreNew qs epoch p ps → identities (closed_puts k.ends) ≡ ends_of qs (p + length ps) → AreRows qs p (rows_of cs k)
rows_fit qs epoch p [] [] k e new own = (own ∙ ap (ends_of qs) (let z : p + 0 ≡ p = omega arith in z), tt)
rows_fit qs epoch p [] (y ∷ ys) k e new own = absurd (cc)
rows_fit qs epoch p (c ∷ cs) [] k e new own = absurd (cc)
rows_fit qs epoch p (c ∷ cs) (y ∷ ys) k e new own =
    let heads : identities (closed_puts c.ends) ≡ identities (open_puts y.ends) = cc in
    let tails : closed_names cs ≡ open_names ys = cc in
    let first = heads ∙ ap (λ (x : ProducerState). identities (open_puts x.ends)) new.0 ∙ fresh_names qs p in
    (first, rows_fit qs epoch (p + 1) cs ys k tails new.1 (own ∙ ap (ends_of qs) (let z : p + length (y ∷ ys) ≡ p + 1 + length ys = omega arith in z)))

pub same_count : (cs : List ClosedProducerState) (ps : List ProducerState) → closed_names cs ≡ open_names ps → length cs ≡ length ps
same_count [] [] e = refl
same_count [] (y ∷ ys) e = absurd (cc)
same_count (x ∷ xs) [] e = absurd (cc)
same_count (x ∷ xs) (y ∷ ys) e = let tails : closed_names xs ≡ open_names ys = cc in ap suc (same_count xs ys tails)

pub control_fits : (qs : List Queue) (n : ℕ) (k : ControlState) (c : ClosedControlState) → k ≡ new_control qs n → identities (closed_puts c.ends) ≡ identities (open_puts k.ends) → identities (closed_puts c.ends) ≡ ends_of qs n
control_fits qs n k c is e = e ∙ ap (λ (x : ControlState). identities (open_puts x.ends)) is ∙ fresh_names qs n

-- one more wire on which no number is outstanding
none_more : {W : Type 0} (out : W → List ℕ) (ws : List W) (w : W) → NoneOut out ws → out w ≡ [] → NoneOut out (ws ++ w ∷ [])
none_more out [] w all here = (here, tt)
none_more out (x ∷ xs) w all here = (all.0, none_more out xs w all.1 here)

pub none_pushed : {W : Type 0} (out : W → List ℕ) (ws : List W) (w : W) (now : List W) → NoneOut out ws → out w ≡ [] → now ≡ ws ++ w ∷ [] → NoneOut out now
none_pushed out ws w now all here is = subst (λ l. NoneOut out l) (sym is) (none_more out ws w all here)
