-- The handles that are returned are those that were handed out.
use Rattle.std.proofs.Common.{◌≡◌, ℕ, ◌+◌, List, [], ◌∷◌, ◌++◌, map, length, refl, sym, ap, subst, ◌∙◌, arith}
use Rattle.std.proofs.lemmas.List.{length-map}
use Rattle.relay_queue.specs.Ends.{Queue, fresh}
use Rattle.relay_producer.specs.Ends.{open_end, open_puts, closed_puts, identities}
use Rattle.relay_producer.specs.States.{ProducerState, ControlState, ClosedProducerState, ClosedControlState}
use Rattle.relay_threads.specs.Relay.{AreNew, AreRows, NoneOut, new_control, ends_of, rows_of}
use Rattle.relay_common.specs.Identities.{Identity, identity_of, identity_of_closed}

-- the ends of a sender that has sent nothing
pub fresh_ends : (queues : List Queue) (p : ℕ) → identities (open_puts (map (λ q. open_end (fresh q p)) queues)) ≡ ends_of queues p
fresh_ends [] p = refl
fresh_ends (q ∷ qs) p = ap (λ es. (q, p) ∷ es) (fresh_ends qs p)

no_more : (x : Identity) (xs : List Identity) → x ∷ xs ≡ [] → ⊥
no_more x xs e = let n : length (x ∷ xs) ≡ 0 = ap length e in omega (arith, n)

abbrev first : Identity → List Identity → Identity
first d [] = d
first d (x ∷ xs) = x

abbrev rest : List Identity → List Identity
rest [] = []
rest (x ∷ xs) = xs

-- closed producers with the identities of new ones, and the control after them
pub rows_back : (queues : List Queue) (epoch p n : ℕ) (ps : List ProducerState) (cs : List ClosedProducerState) (control : ClosedControlState) → n ≡ p + length ps → AreNew queues epoch p ps → map identity_of_closed cs ≡ map identity_of ps → identities (closed_puts control.ends) ≡ ends_of queues n → AreRows queues p (rows_of cs control)
rows_back queues epoch p n [] [] control count new same last = (subst (λ k. identities (closed_puts control.ends) ≡ ends_of queues k) (omega (arith, count)) last, tt)
rows_back queues epoch p n [] (c ∷ cs) control count new same last = absurd (no_more (identity_of_closed c) (map identity_of_closed cs) same)
rows_back queues epoch p n (x ∷ ps) [] control count new same last = absurd (no_more (identity_of x) (map identity_of ps) (sym same))
rows_back queues epoch p n (x ∷ ps) (c ∷ cs) control count new same last =
    let head : identity_of_closed c ≡ identity_of x = ap (first (identity_of x)) same in
    let is : identity_of x ≡ (p, ends_of queues p) = ap identity_of new.0 ∙ ap (λ (es : List (Queue × ℕ)). (p, es)) (fresh_ends queues p) in
    let back : identities (closed_puts c.ends) ≡ ends_of queues p = ap (λ (i : Identity). i.1) (head ∙ is) in
    (back, rows_back queues epoch (p + 1) n ps cs control (omega (arith, count)) new.1 (ap rest same) last)

-- as many are returned as were handed out
pub count_back : (ps : List ProducerState) (cs : List ClosedProducerState) → map identity_of_closed cs ≡ map identity_of ps → length cs ≡ length ps
count_back ps cs same = sym (length-map cs identity_of_closed) ∙ ap length same ∙ length-map ps identity_of

-- the control that is returned is the one that was handed out
pub control_back : (queues : List Queue) (n : ℕ) (start after : ControlState) (control : ClosedControlState) → start ≡ new_control queues n → identities (open_puts after.ends) ≡ identities (open_puts start.ends) → identities (closed_puts control.ends) ≡ identities (open_puts after.ends) → identities (closed_puts control.ends) ≡ ends_of queues n
control_back queues n start after control is ticked closed =
    closed ∙ ticked ∙ ap (λ (c : ControlState). identities (open_puts c.ends)) is ∙ fresh_ends queues n

-- one more wire on which no number is outstanding
pub none_out_push : {W : Type 0} (out : W → List ℕ) (ws : List W) (w : W) → NoneOut out ws → out w ≡ [] → NoneOut out (ws ++ w ∷ [])
none_out_push out [] w none e = (e, tt)
none_out_push out (x ∷ ws) w none e = (none.0, none_out_push out ws w none.1 e)

-- the same of all producers
pub rows_of_all : (queues : List Queue) (epoch n : ℕ) (ps : List ProducerState) (cs : List ClosedProducerState) (control : ClosedControlState) → n ≡ length ps → AreNew queues epoch 0 ps → map identity_of_closed cs ≡ map identity_of ps → identities (closed_puts control.ends) ≡ ends_of queues n → AreRows queues 0 (rows_of cs control)
rows_of_all queues epoch n ps cs control count new same last = rows_back queues epoch 0 n ps cs control (omega (arith, count)) new same last
