-- One more channel, end by end.
use Rattle.std.proofs.Common.{◌≡◌, ℕ, zero, suc, ◌+◌, ◌<◌, List, [], ◌∷◌, ◌++◌, length, set, get_or, refl, sym, ap, ◌∙◌, subst, arith}
use Rattle.std.specs.Prelude.{map}
use Rattle.std.proofs.lemmas.List.{map-append}
use Rattle.relay_receipts.specs.Ends.{Channel, TellEnd, TakeEnd, fresh, fresh_tells}
use Rattle.relay_telling.specs.declared.ending.Ending.{Ending}
use Rattle.relay_telling.specs.declared.lane_tells.LaneTells.{LaneTells}
use Rattle.relay_telling.specs.Destinations.{identities, ends_of, TellOn}
use Rattle.relay_telling.specs.New.{channels_of, new_take, new_end, AreNewTells, FirstHave}

pub first_none : (channel : Channel Ending) (lane : ℕ) (ts : List LaneTells) → FirstHave channel lane zero ts ts
first_none channel lane [] = tt
first_none channel lane (t ∷ ts) = (refl, first_none channel (lane + 1) ts)

pub first_more : (channel : Channel Ending) (lane n : ℕ) (olds nows : List LaneTells) (x y : LaneTells) → FirstHave channel lane n olds nows → n < length nows → x ≡ get_or nows n x → y.ends.items ≡ x.ends.items ++ new_end (lane + n) channel ∷ []
    → FirstHave channel lane (suc n) olds (set nows n y)
first_more channel lane n [] [] x y h lt is more = absurd (omega (arith, lt))
first_more channel lane n [] (z ∷ zs) x y h lt is more = absurd h
first_more channel lane n (o ∷ os) [] x y h lt is more = absurd h
first_more channel lane zero (o ∷ os) (z ∷ zs) x y h lt is more =
    (more ∙ ap (λ (t : LaneTells). t.ends.items ++ new_end (lane + 0) channel ∷ []) is ∙ ap (λ l. l ++ new_end (lane + 0) channel ∷ []) h.0 ∙ ap (λ k. o.ends.items ++ new_end k channel ∷ []) (omega arith), h.1)
first_more channel lane (suc n) (o ∷ os) (z ∷ zs) x y h lt is more =
    (h.0, first_more channel (lane + 1) n os zs x y h.1 (omega (arith, lt)) is (more ∙ ap (λ k. x.ends.items ++ new_end k channel ∷ []) (omega arith)))

pub first_next : (channel : Channel Ending) (n m : ℕ) (olds nows : List LaneTells) (x y : LaneTells) → m ≡ n + 1 → FirstHave channel 0 n olds nows → n < length nows → x ≡ get_or nows n x → y.ends.items ≡ x.ends.items ++ new_end n channel ∷ [] → FirstHave channel 0 m olds (set nows n y)
first_next channel n m olds nows x y e h lt is more =
    subst (λ k. FirstHave channel 0 k olds (set nows n y)) (let s : suc n ≡ m = omega (arith, e) in s) (first_more channel 0 n olds nows x y h lt is (more ∙ ap (λ k. x.ends.items ++ new_end k channel ∷ []) (let z : n ≡ 0 + n = omega arith in z)))

pub first_all : (channels : List (Channel Ending)) (channel : Channel Ending) (lane n : ℕ) (olds nows : List LaneTells) → AreNewTells channels lane olds → FirstHave channel lane n olds nows → n ≡ length nows → AreNewTells (channels ++ channel ∷ []) lane nows
first_all channels channel lane n [] [] a h e = tt
first_all channels channel lane n [] (y ∷ ys) a h e = absurd h
first_all channels channel lane n (x ∷ xs) [] a h e = absurd h
first_all channels channel lane zero (x ∷ xs) (y ∷ ys) a h e = absurd (omega (arith, e))
first_all channels channel lane (suc n) (x ∷ xs) (y ∷ ys) a h e =
    (h.0 ∙ ap (λ l. l ++ new_end lane channel ∷ []) a.0 ∙ sym (map-append (new_end lane) channels (channel ∷ [])), first_all channels channel (lane + 1) n xs ys a.1 h.1 (omega (arith, e)))

-- ---- after they told

identities_new : (lane : ℕ) (channels : List (Channel Ending)) → identities (map (new_end lane) channels) ≡ ends_of lane channels
identities_new lane [] = refl
identities_new lane (c ∷ cs) = ap (λ l. (c, lane) ∷ l) (identities_new lane cs)

-- lanes whose ends were new at the start tell by the same ends, whatever they told
pub tell_on : (channels : List (Channel Ending)) (lane : ℕ) (olds nows : List LaneTells) → AreNewTells channels lane olds → map (λ (t : LaneTells). identities t.ends.items) nows ≡ map (λ (t : LaneTells). identities t.ends.items) olds → TellOn channels lane nows
tell_on channels lane [] [] a e = tt
tell_on channels lane [] (y ∷ ys) a e = absurd (cc (e))
tell_on channels lane (x ∷ xs) [] a e = absurd (cc (e))
tell_on channels lane (x ∷ xs) (y ∷ ys) a e =
    let here : identities y.ends.items ≡ identities x.ends.items = cc in
    let there : map (λ (t : LaneTells). identities t.ends.items) ys ≡ map (λ (t : LaneTells). identities t.ends.items) xs = cc in
    (here ∙ ap identities a.0 ∙ identities_new lane channels, tell_on channels (lane + 1) xs ys a.1 there)

-- ---- one after another

-- before there is a producer
pub new_row : (lane : ℕ) (ts : List LaneTells) (t : LaneTells) → AreNewTells [] lane ts → t.ends.items ≡ [] → AreNewTells [] lane (ts ++ t ∷ [])
new_row lane [] t a e = (e, tt)
new_row lane (x ∷ ts) t a e = (a.0, new_row (lane + 1) ts t a.1 e)

-- the ends of a channel from this lane on
abbrev pub tells_from : Channel Ending → ℕ → ℕ → List (TellEnd Ending)
tells_from channel lane zero = []
tells_from channel lane (suc n) = fresh channel lane ∷ tells_from channel (lane + 1) n

from_more : (channel : Channel Ending) (lane n : ℕ) → tells_from channel lane (suc n) ≡ tells_from channel lane n ++ fresh channel (lane + n) ∷ []
from_more channel lane zero = ap (λ k. fresh channel k ∷ []) (let e : lane ≡ lane + 0 = omega arith in e)
from_more channel lane (suc n) = ap (λ l. fresh channel lane ∷ l) (from_more channel (lane + 1) n ∙ ap (λ k. tells_from channel (lane + 1) n ++ fresh channel k ∷ []) (let e : lane + 1 + n ≡ lane + suc n = omega arith in e))

pub fresh_from : (channel : Channel Ending) (n : ℕ) → fresh_tells channel n ≡ tells_from channel 0 n
fresh_from channel zero = refl
fresh_from channel (suc n) = ap (λ l. l ++ fresh channel n ∷ []) (fresh_from channel n) ∙ ap (λ k. tells_from channel 0 n ++ fresh channel k ∷ []) (let e : n ≡ 0 + n = omega arith in e) ∙ sym (from_more channel 0 n)

-- the next of them
pub from_next : (channel : Channel Ending) (lane n m : ℕ) (x : TellEnd Ending) (xs : List (TellEnd Ending)) → x ∷ xs ≡ tells_from channel lane n → n ≡ m + 1 → (x ≡ fresh channel lane) × (xs ≡ tells_from channel (lane + 1) m)
from_next channel lane zero m x xs e at = absurd (omega (arith, at))
from_next channel lane (suc n) m x xs e at =
    let head : x ≡ fresh channel lane = cc in
    let tail : xs ≡ tells_from channel (lane + 1) n = cc in
    let same : n ≡ m = omega (arith, at) in
    (head, tail ∙ ap (tells_from channel (lane + 1)) same)

-- ---- one more producer

pub takes_more : (lanes : ℕ) (xs ys : List (TakeEnd Ending)) (t : TakeEnd Ending) → ys ≡ xs ++ t ∷ [] → t ≡ new_take lanes t.channel → xs ≡ map (new_take lanes) (channels_of xs) → ys ≡ map (new_take lanes) (channels_of ys)
takes_more lanes xs ys t more one all =
    more ∙ (λ i. all i ++ one i ∷ []) ∙ sym (ap (λ l. map (new_take lanes) (channels_of l)) more ∙ ap (map (new_take lanes)) (map-append (λ (x : TakeEnd Ending). x.channel) xs (t ∷ [])) ∙ map-append (new_take lanes) (channels_of xs) (t.channel ∷ []))

pub tells_more : (xs ys : List (TakeEnd Ending)) (t : TakeEnd Ending) (n : ℕ) (olds nows : List LaneTells) → ys ≡ xs ++ t ∷ [] → AreNewTells (channels_of xs) 0 olds → FirstHave t.channel 0 n olds nows → n ≡ length nows → AreNewTells (channels_of ys) 0 nows
tells_more xs ys t n olds nows more all first e =
    subst (λ cs. AreNewTells cs 0 nows) (sym (ap channels_of more ∙ map-append (λ (x : TakeEnd Ending). x.channel) xs (t ∷ []))) (first_all (channels_of xs) t.channel 0 n olds nows all first e)
