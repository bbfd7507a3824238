-- The handles of one producer and of the control fit the relay that they came from.
use Rattle.std.proofs.Common.{◌≡◌, Option, Some, None, Result, Ok, Err, IfOk, ℕ, ◌+◌, List, [], ◌∷◌, ◌++◌, length, map, refl, ap, sym, ◌∙◌, subst, arith}
use Rattle.std.specs.Result.{result_ok}
use Rattle.relay_queue.specs.Ends.{Queue, fresh}
use Rattle.relay_producer.specs.Ends.{open_end, identities, open_puts, closed_puts}
use Rattle.relay_producer.specs.States.{ProducerState, ControlState, ClosedProducerState, ClosedControlState}
use Rattle.relay_receipts.specs.Ends.{TakeEnd}
use Rattle.relay_telling.specs.declared.ending.Ending.{Ending}
use Rattle.relay_telling.specs.New.{channels_of, new_take}
use Rattle.relay_threads.specs.Relay.{AreNew, new_producer, new_control, ends_of, AreRows, rows_of}

-- what is promised of an Ok holds of the value that was taken out of it
pub known : {A E : Type 0} (P : A → Type 0) (r : Result A E) (x : A) → Some x ≡ result_ok r → IfOk r P → P x
known P (Ok y) x e h = let same : y ≡ x = cc in subst P same h
known P (Err y) x e h = absurd (cc)

-- the last of one is the only one
sole : {A : Type 0} (xs before : List A) (x : A) → xs ≡ before ++ x ∷ [] → length xs ≡ 1 → xs ≡ x ∷ []
sole xs [] x e n = e
sole [] (y ∷ ys) x e n = absurd (cc)
sole (z ∷ []) (y ∷ []) x e n = absurd (cc)
sole (z ∷ []) (y ∷ w ∷ ys) x e n = absurd (cc)
sole (z ∷ v ∷ zs) (y ∷ ys) x e n = absurd (omega (arith, n))

-- the only producer has put nothing
pub is_new : (qs : List Queue) (epoch : ℕ) (ps before : List ProducerState) (p : ProducerState) → AreNew qs epoch 0 ps → ps ≡ before ++ p ∷ [] → length ps ≡ 1 → p ≡ new_producer qs epoch 0
is_new qs epoch ps before p new e n = (subst (AreNew qs epoch 0) (sole ps before p e n) new).0

-- nothing was taken from the only channel
pub none_taken : (lanes : ℕ) (ts before : List (TakeEnd Ending)) (t : TakeEnd Ending) → ts ≡ map (new_take lanes) (channels_of ts) → ts ≡ before ++ t ∷ [] → length ts ≡ 1 → t.taken ≡ []
none_taken lanes ts before t new e n =
    let alone : (t ∷ []) ≡ map (new_take lanes) (channels_of (t ∷ [])) = subst (λ l. l ≡ map (new_take lanes) (channels_of l)) (sole ts before t e n) new in
    let is : t ≡ new_take lanes t.channel = cc in
    ap (λ (s : TakeEnd Ending). s.taken) is

fresh_names : (qs : List Queue) (p : ℕ) → identities (open_puts (map (λ q. open_end (fresh q p)) qs)) ≡ ends_of qs p
fresh_names [] p = refl
fresh_names (q ∷ qs) p = ap (λ l. (q, p) ∷ l) (fresh_names qs p)

pub producer_names : (qs : List Queue) (epoch : ℕ) (p : ProducerState) → p ≡ new_producer qs epoch 0 → identities (open_puts p.ends) ≡ ends_of qs 0
producer_names qs epoch p is = ap (λ (x : ProducerState). identities (open_puts x.ends)) is ∙ fresh_names qs 0

pub control_names : (qs : List Queue) (k : ControlState) → k ≡ new_control qs 1 → identities (open_puts k.ends) ≡ ends_of qs 1
control_names qs k is = ap (λ (x : ControlState). identities (open_puts x.ends)) is ∙ fresh_names qs 1

pub rows_fit : (qs : List Queue) (cs : List ClosedProducerState) (p : ClosedProducerState) (k : ClosedControlState) → cs ≡ p ∷ [] → identities (closed_puts p.ends) ≡ ends_of qs 0 → identities (closed_puts k.ends) ≡ ends_of qs 1 → AreRows qs 0 (rows_of cs k)
rows_fit qs cs p k e own last = subst (λ l. AreRows qs 0 (rows_of l k)) (sym e) (own, (last, tt))
