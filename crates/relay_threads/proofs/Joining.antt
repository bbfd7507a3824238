-- Lanes that have ended, one after another.
use Rattle.std.proofs.Common.{◌≡◌, ℕ, List, [], ◌∷◌, ◌++◌, map, Bool, Option, sym, refl, ap, ◌∙◌, subst, append-nil, append_assoc}
use Rattle.std.proofs.lemmas.List.{map-append}
use Rattle.relay_lane.specs.Exchanges.{Exchange}
use Rattle.relay_results.specs.Outside.{Outside}
use Rattle.relay_threads.specs.declared.lane_end.LaneEnd.{LaneEnd}
use Rattle.relay_threads.specs.Promises.{KeepsCourse, KeepsTold}
use Rattle.relay_threads.specs.Told.{Told}
use Rattle.relay_threads.specs.Lanes.{LaneHandle, tells_of, EndAsPromised, ToldAsPromised}

module _ {W T : Type 0} (describes : W → Bool) (fits : W → Outside → Type 0) (carries : W → Exchange → W → Type 0) (told : T → ℕ → Option Told) where
  -- the first of these lanes have ended, and the others are left
  pub record JoinsOn (lanes left : List (LaneHandle W T)) (ends : List (LaneEnd W)) (tells : List T) : Type 0 where
    pub joined : List (LaneHandle W T)
    pub all : lanes ≡ joined ++ left
    pub ended : EndAsPromised describes fits carries joined ends
    pub has_told : ToldAsPromised describes fits carries told joined ends tells

  pub joins_none : (lanes : List (LaneHandle W T)) (ends : List (LaneEnd W)) (tells : List T) → ends ≡ [] → tells ≡ [] → JoinsOn lanes lanes ends tells
  joins_none lanes ends tells e t = record { joined = []; all = refl; ended = subst (EndAsPromised {W = W} {T = T} describes fits carries []) (sym e) tt; has_told = subst (λ (z : List (LaneEnd W) × List T). ToldAsPromised describes fits carries told [] z.0 z.1) (λ i. (sym e i, sym t i)) tt }

  ends_more : (hs : List (LaneHandle W T)) (es : List (LaneEnd W)) (h : LaneHandle W T) (e : LaneEnd W) → EndAsPromised describes fits carries hs es → KeepsCourse describes fits carries h.promise.config.value h.promise.take.value h.promise.wire.value e → EndAsPromised describes fits carries (hs ++ h ∷ []) (es ++ e ∷ [])
  ends_more [] [] h e a k = (k, tt)
  ends_more [] (x ∷ es) h e a k = absurd a
  ends_more (x ∷ hs) [] h e a k = absurd a
  ends_more (x ∷ hs) (y ∷ es) h e a k = (a.0, ends_more hs es h e a.1 k)

  told_more : (hs : List (LaneHandle W T)) (es : List (LaneEnd W)) (ts : List T) (h : LaneHandle W T) (e : LaneEnd W) (t : T) → ToldAsPromised describes fits carries told hs es ts → KeepsTold describes fits carries told h.promise.config.value h.promise.wire.value h.promise.tell.value t e → ToldAsPromised describes fits carries told (hs ++ h ∷ []) (es ++ e ∷ []) (ts ++ t ∷ [])
  told_more [] [] [] h e t a k = (k, tt)
  told_more [] [] (y ∷ ts) h e t a k = absurd a
  told_more [] (x ∷ es) ts h e t a k = absurd a
  told_more (x ∷ hs) [] ts h e t a k = absurd a
  told_more (x ∷ hs) (y ∷ es) [] h e t a k = absurd a
  told_more (x ∷ hs) (y ∷ es) (z ∷ ts) h e t a k = (a.0, told_more hs es ts h e t a.1 k)

  pub joins_on : (lanes left left' : List (LaneHandle W T)) (ends : List (LaneEnd W)) (tells : List T) (h : LaneHandle W T) (e : LaneEnd W) (t : T) → JoinsOn lanes left ends tells → left ≡ h ∷ left'
      → KeepsCourse describes fits carries h.promise.config.value h.promise.take.value h.promise.wire.value e → KeepsTold describes fits carries told h.promise.config.value h.promise.wire.value h.promise.tell.value t e → JoinsOn lanes left' (ends ++ e ∷ []) (tells ++ t ∷ [])
  joins_on lanes left left' ends tells h e t j is k l = record {
    joined = j.joined ++ h ∷ [];
    all = j.all ∙ ap (λ l. j.joined ++ l) is ∙ sym (append_assoc j.joined (h ∷ []) left');
    ended = ends_more j.joined ends h e j.ended k;
    has_told = told_more j.joined ends tells h e t j.has_told l;
  }

  joined_all : (lanes left : List (LaneHandle W T)) (ends : List (LaneEnd W)) (tells : List T) → (j : JoinsOn lanes left ends tells) → left ≡ [] → j.joined ≡ lanes
  joined_all lanes left ends tells j none = sym (j.all ∙ ap (λ l. j.joined ++ l) none ∙ append-nil j.joined)

  pub joins_all : (lanes left : List (LaneHandle W T)) (ends : List (LaneEnd W)) (tells : List T) → JoinsOn lanes left ends tells → left ≡ [] → EndAsPromised describes fits carries lanes ends
  joins_all lanes left ends tells j none = subst (λ l. EndAsPromised describes fits carries l ends) (joined_all lanes left ends tells j none) j.ended

  pub joins_told : (lanes left : List (LaneHandle W T)) (ends : List (LaneEnd W)) (tells : List T) → JoinsOn lanes left ends tells → left ≡ [] → ToldAsPromised describes fits carries told lanes ends tells
  joins_told lanes left ends tells j none = subst (λ l. ToldAsPromised describes fits carries told l ends tells) (joined_all lanes left ends tells j none) j.has_told

-- ---- where what they told by tells

module _ {W T D : Type 0} (destination : T → D) where
  pub stays_none : (lanes left : List (LaneHandle W T)) (tells : List T) → tells ≡ [] → left ≡ lanes → map destination tells ++ map destination (tells_of left) ≡ map destination (tells_of lanes)
  stays_none lanes left tells none all = ap (λ l. map destination l ++ map destination (tells_of left)) none ∙ ap (λ (l : List (LaneHandle W T)). map destination (tells_of l)) all

  -- one more lane returned what it told by, which tells where it did
  pub stays_on : (lanes left left' : List (LaneHandle W T)) (tells : List T) (h : LaneHandle W T) (t : T) → map destination tells ++ map destination (tells_of left) ≡ map destination (tells_of lanes) → left ≡ h ∷ left'
      → destination t ≡ destination h.promise.tell.value → map destination (tells ++ t ∷ []) ++ map destination (tells_of left') ≡ map destination (tells_of lanes)
  stays_on lanes left left' tells h t before is same =
      ap (λ l. l ++ map destination (tells_of left')) (map-append destination tells (t ∷ []))
      ∙ append_assoc (map destination tells) (destination t ∷ []) (map destination (tells_of left'))
      ∙ ap (λ d. map destination tells ++ d ∷ map destination (tells_of left')) same
      ∙ ap (λ (l : List (LaneHandle W T)). map destination tells ++ map destination (tells_of l)) (sym is)
      ∙ before

  pub stays_all : (lanes left : List (LaneHandle W T)) (tells : List T) → map destination tells ++ map destination (tells_of left) ≡ map destination (tells_of lanes) → left ≡ [] → map destination tells ≡ map destination (tells_of lanes)
  stays_all lanes left tells all none = sym (append-nil (map destination tells)) ∙ ap (λ (l : List (LaneHandle W T)). map destination tells ++ map destination (tells_of l)) (sym none) ∙ all
