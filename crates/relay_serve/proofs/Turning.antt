-- One term after another.
use Rattle.std.proofs.Common.{◌≡◌, ◌≤◌, ◌+◌, ℕ, List, [], ◌∷◌, ◌++◌, Option, refl, arith, subst, sym}
use Rattle.std.proofs.Math.Logic.{∥∥₁_map}
use Rattle.std.specs.Prelude.{Bool}
use Rattle.relay_results.specs.Outside.{Outside}
use Rattle.relay_core.specs.declared.config.RelayConfig.{RelayConfig}
use Rattle.relay_lane.specs.Exchanges.{Exchange}
use Rattle.relay_common.specs.Counts.{total}
use Rattle.relay_front.specs.declared.face.Face.{Face}
use Rattle.relay_threads.specs.declared.summary.LaneSummary.{LaneSummary}
use Rattle.relay_serve.specs.Configs.{config_in}
use Rattle.relay_serve.specs.Delivered.{IsDelivered}
use Rattle.relay_serve.specs.Terms.{Ended, HaveDelivered, floor_after, total_of}

pub floor_more : {W : Type 0} (floor : ℕ) (ts : List (Ended W)) (t : Ended W) → floor_after floor (ts ++ t ∷ []) ≡ t.epoch + 1
floor_more floor [] t = refl
floor_more floor (x ∷ xs) t = floor_more (x.epoch + 1) xs t

pub total_more : {W : Type 0} (count : LaneSummary W → ℕ) (sum : ℕ) (ts : List (Ended W)) (t : Ended W) → total_of count sum (ts ++ t ∷ []) ≡ total count (total_of count sum ts) t.lanes
total_more count sum [] t = refl
total_more count sum (x ∷ xs) t = total_more count (total count sum x.lanes) xs t

module _ {W : Type 0} (describes : W → Bool) (fits : W → Outside → Type 0) (carries : W → Exchange → W → Type 0) (out : W → List ℕ) (face : Face) (index : Option (List ℕ)) (c : RelayConfig) where
  delivered_more : (floor : ℕ) (ts : List (Ended W)) (t : Ended W) → HaveDelivered describes fits carries out face index c floor ts → floor_after floor ts ≤ t.epoch → IsDelivered describes fits carries out face index (config_in t.epoch c) t.receipts t.lanes
      → HaveDelivered describes fits carries out face index c floor (ts ++ t ∷ [])
  delivered_more floor [] t h le d = (le, d, tt)
  delivered_more floor (x ∷ xs) t h le d = (h.0, h.1, delivered_more (x.epoch + 1) xs t h.2 le d)

  -- no term has ended
  pub none_delivered : (first : ℕ) (ts : List (Ended W)) → ts ≡ [] → ∥ HaveDelivered describes fits carries out face index c first ts ∥₁
  none_delivered first ts none = subst (λ l. ∥ HaveDelivered describes fits carries out face index c first l ∥₁) (sym none) ∣ tt ∣₁

  -- one more has
  pub one_more_delivered : (first floor : ℕ) (ts new : List (Ended W)) (t : Ended W) → ∥ HaveDelivered describes fits carries out face index c first ts ∥₁ → floor_after first ts ≤ floor → floor ≤ t.epoch
      → IsDelivered describes fits carries out face index (config_in t.epoch c) t.receipts t.lanes → new ≡ ts ++ t ∷ [] → ∥ HaveDelivered describes fits carries out face index c first new ∥₁
  one_more_delivered first floor ts new t h below le d is =
      subst (λ l. ∥ HaveDelivered describes fits carries out face index c first l ∥₁) (sym is) (∥∥₁_map h (λ x. delivered_more first ts t x (omega (arith, below, le)) d))
