-- Applied writes are those of a subsequence of what was taken.
use Rattle.std.proofs.Common.{◌≡◌, ℕ, zero, suc, ◌+◌, ◌-◌, ◌<◌, List, [], ◌∷◌, ◌++◌, Some, refl, sym, ap, ◌∙◌, subst, ⊎_elim, inl, inr, arith}
use Rattle.std.specs.Prelude.{slice_get, option_to_list}
use Rattle.relay_action.specs.declared.write.Write.{Write}
use Rattle.relay_action.specs.declared.operation.Op.{Op}
use Rattle.relay_results.specs.Words.{Mem, IsSubsequence}
use Rattle.relay_results.specs.Documents.{source_of}
use Rattle.relay_delivery.specs.Attribution.{SameActions}
use Rattle.relay_delivery.specs.Machine.{Config}
use Rattle.relay_delivery.specs.Delivery.{ops_of}
use Rattle.relay_results.proofs.Lists.{Mem-cases, Mem-right, Mem-one}
use Rattle.relay_delivery.proofs.Facts.{IsOfOne, IsRising}

-- the operation of a write is at the place that its version says
record IsPlaced (base : ℕ) (ts : List Op) (w : Write) : Type 0 where
  place : ℕ
  op : Op
  stands : slice_get ts place ≡ Some op
  version : w.version ≡ base + place

placed_later : (base : ℕ) (t : Op) (ts : List Op) (w : Write) (p : IsPlaced base (t ∷ ts) w) → base < w.version → IsPlaced (base + 1) ts w
placed_later base t ts w p lt = by_place p.place p.stands p.version
  where
    by_place : (place : ℕ) → slice_get (t ∷ ts) place ≡ Some p.op → w.version ≡ base + place → IsPlaced (base + 1) ts w
    by_place zero s v = absurd (omega (arith, v, lt))
    by_place (suc n) s v = record { place = n; op = p.op; stands = s; version = omega (arith, v) }

-- writes of higher versions are not of the first operation
ops_later : (base : ℕ) (t : Op) (ts : List Op) (ws : List Write) → ((w : Write) → Mem w ws → base < w.version) → ops_of base (t ∷ ts) ws ≡ ops_of (base + 1) ts ws
ops_later base t ts [] above = refl
ops_later base t ts (w ∷ ws) above =
    let lt = above w (inl refl) in
    let e : w.version - base ≡ suc (w.version - (base + 1)) = omega (arith, lt) in
    let rest = ops_later base t ts ws (λ x m. above x (inr m)) in
    λ i. option_to_list (slice_get (t ∷ ts) (e i)) ++ rest i

first_of : (base : ℕ) (t : Op) (ts : List Op) (w : Write) (ws : List Write) → w.version ≡ base → ops_of base (t ∷ ts) (w ∷ ws) ≡ t ∷ ops_of base (t ∷ ts) ws
first_of base t ts w ws e =
    let z : w.version - base ≡ 0 = omega (arith, e) in
    ap (λ n. option_to_list (slice_get (t ∷ ts) n) ++ ops_of base (t ∷ ts) ws) z

by_first : (base : ℕ) (t : Op) (ts : List Op) (w : Write) (ws : List Write) (place : ℕ) → w.version ≡ base + place → IsRising (w ∷ ws) → ((x : Write) → Mem x (w ∷ ws) → IsPlaced base (t ∷ ts) x)
    → ((vs : List Write) → IsRising vs → ((x : Write) → Mem x vs → IsPlaced (base + 1) ts x) → IsSubsequence (ops_of (base + 1) ts vs) ts)
    → IsSubsequence (ops_of base (t ∷ ts) (w ∷ ws)) (t ∷ ts)
by_first base t ts w ws zero v rising places again =
    let e : w.version ≡ base = omega (arith, v) in
    let above : (x : Write) → Mem x ws → base < x.version = λ x m. let lt = rising.0 x m in omega (arith, lt, e) in
    let rest = again ws rising.1 (λ x m. placed_later base t ts x (places x (inr m)) (above x m)) in
    subst (λ os. IsSubsequence os (t ∷ ts)) (sym (first_of base t ts w ws e ∙ ap (λ os. t ∷ os) (ops_later base t ts ws above))) (inl (refl, rest))
by_first base t ts w ws (suc n) v rising places again =
    let first : base < w.version = omega (arith, v) in
    let above : (x : Write) → Mem x (w ∷ ws) → base < x.version = λ x m. ⊎_elim {C = base < x.version} (λ e. let e' = ap (λ (z : Write). z.version) e in omega (arith, e', first)) (λ r. let lt = rising.0 x r in omega (arith, lt, first)) m in
    let rest = again (w ∷ ws) rising (λ x m. placed_later base t ts x (places x m) (above x m)) in
    subst (λ os. IsSubsequence os (t ∷ ts)) (sym (ops_later base t ts (w ∷ ws) above)) (skip (ops_of (base + 1) ts (w ∷ ws)) rest)
  where
    skip : (os : List Op) → IsSubsequence os ts → IsSubsequence os (t ∷ ts)
    skip [] h = tt
    skip (o ∷ os) h = inr h

in_order : (base : ℕ) (ts : List Op) (ws : List Write) → IsRising ws → ((w : Write) → Mem w ws → IsPlaced base ts w) → IsSubsequence (ops_of base ts ws) ts
in_order base ts [] rising places = tt
in_order base [] (w ∷ ws) rising places = let p = places w (inl refl) in let s = p.stands in absurd (cc)
in_order base (t ∷ ts) (w ∷ ws) rising places = let p = places w (inl refl) in by_first base t ts w ws p.place p.version rising places (λ vs. in_order (base + 1) ts vs)

module _ (g : Config) (taken : List Op) where
  placed : (w : Write) → IsOfOne g taken w → IsPlaced g.first taken w
  placed w a = record { place = a.dealt.place; op = a.op; stands = a.dealt.stands; version = a.dealt.version }

  pub ops-in_order : (ws : List Write) → IsRising ws → ((w : Write) → Mem w ws → IsOfOne g taken w) → IsSubsequence (ops_of g.first taken ws) taken
  ops-in_order ws rising each = in_order g.first taken ws rising (λ w m. placed w (each w m))

  -- the operation of one write
  pub its_op : (w : Write) → (a : IsOfOne g taken w) → option_to_list (slice_get taken (w.version - g.first)) ≡ a.op ∷ []
  its_op w a =
      let d = a.dealt in
      let e : w.version - g.first ≡ d.place = (let v = d.version in omega (arith, v)) in
      ap option_to_list (ap (slice_get taken) e ∙ d.stands)

  pub ops-same : (ws : List Write) → ((w : Write) → Mem w ws → IsOfOne g taken w) → SameActions (ops_of g.first taken ws) ws
  ops-same [] each = tt
  ops-same (w ∷ ws) each =
      let a = each w (inl refl) in
      let rest = ops-same ws (λ x m. each x (inr m)) in
      subst (λ os. SameActions (os ++ ops_of g.first taken ws) (w ∷ ws)) (sym (its_op w a)) (ap (λ (x : Write). source_of x.action) (sym a.write), rest)

  -- each of them is that of a write
  pub op-of : (ws : List Write) → ((w : Write) → Mem w ws → IsOfOne g taken w) → (o : Op) → Mem o (ops_of g.first taken ws) → (w : Write) × Mem w ws × ((a : IsOfOne g taken w) × (o ≡ a.op))
  op-of [] each o m = absurd m
  op-of (w ∷ ws) each o m =
      let a = each w (inl refl) in
      ⊎_elim
      (λ l. (w, inl refl, (a, Mem-one o a.op (subst (λ os. Mem o os) (its_op w a) l))))
      (λ r. let x = op-of ws (λ x y. each x (inr y)) o r in (x.0, inr x.1, x.2))
      (Mem-cases o (option_to_list (slice_get taken (w.version - g.first))) (ops_of g.first taken ws) m)

  pub of-op : (ws : List Write) (w : Write) → Mem w ws → (a : IsOfOne g taken w) → Mem a.op (ops_of g.first taken ws)
  of-op [] w m a = absurd m
  of-op (x ∷ ws) w m a = ⊎_elim
      (λ e. subst (λ z. Mem a.op (option_to_list (slice_get taken (z.version - g.first)) ++ ops_of g.first taken ws)) e
      (subst (λ os. Mem a.op (os ++ ops_of g.first taken ws)) (sym (its_op w a)) (inl refl)))
      (λ r. Mem-right a.op (option_to_list (slice_get taken (x.version - g.first))) (ops_of g.first taken ws) (of-op ws w r a))
      m
