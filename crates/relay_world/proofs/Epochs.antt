-- What incarnations say of a version and of an epoch, looked up from the first one on.
use Rattle.std.proofs.Common.{◌≡◌, ◌≢◌, ℕ, ◌+◌, ◌-◌, List, [], ◌∷◌, ◌++◌, drop, Option, Some, None, Bool, true, false, refl, ap, ◌∙◌}
use Rattle.std.specs.Prelude.{slice_get, unwrap_or, map, ◌==◌, if◌then◌else◌}
use Rattle.relay_action.specs.declared.operation.Op.{Op}
use Rattle.relay_results.proofs.Lists.{equal_test}
use Rattle.relay_delivery.specs.Machine.{first_in}
use Rattle.relay_delivery.specs.Incarnations.{accepted_in}
use Rattle.relay_core.specs.declared.config.RelayConfig.{RelayConfig}
use Rattle.relay_world.specs.State.{Past, is_version_in, place_dealt, op_among, incarnation}
use Rattle.relay_world.proofs.Places.{not_equal}
use Rattle.relay_world.proofs.Entries.{drop-at}

-- the operations that a lane took in an incarnation
abbrev took : Past → ℕ → List Op
took p l = unwrap_or (slice_get p.taken l) []

module _ (deal l v : ℕ) (ps rest : List Past) (n : ℕ) (p : Past) (at : slice_get ps n ≡ Some p) where
  -- what the others say of the version
  abbrev further : Option Op
  further = op_among deal (drop (n + 1) ps ++ rest) l v

  here : op_among deal (drop n ps ++ rest) l v ≡ op_among deal ((p ∷ drop (n + 1) ps) ++ rest) l v
  here = ap (λ qs. op_among deal (qs ++ rest) l v) (drop-at ps n p at)

  pub not_dealt : place_dealt deal p.epoch v ≡ None → op_among deal (drop n ps ++ rest) l v ≡ op_among deal (drop (n + 1) ps ++ rest) l v
  not_dealt none = here ∙ by (is_version_in deal p.epoch v) none
    where
      by : (b : Bool) → (if b then Some (v - first_in p.epoch) else None) ≡ None → (if b then slice_get (took p l) (v - first_in p.epoch) else further) ≡ further
      by true e = absurd (cc)
      by false e = refl

  pub dealt : (place : ℕ) → place_dealt deal p.epoch v ≡ Some place → op_among deal (drop n ps ++ rest) l v ≡ slice_get (took p l) place
  dealt place some = here ∙ by (is_version_in deal p.epoch v) some
    where
      by : (b : Bool) → (if b then Some (v - first_in p.epoch) else None) ≡ Some place → (if b then slice_get (took p l) (v - first_in p.epoch) else further) ≡ slice_get (took p l) place
      by true e = let same : v - first_in p.epoch ≡ place = cc in ap (slice_get (took p l)) same
      by false e = absurd (cc)

module _ (c : RelayConfig) (e q : ℕ) (ps rest : List Past) (n : ℕ) (p : Past) (at : slice_get ps n ≡ Some p) where
  -- what was accepted in the epoch by the others
  abbrev later : List Op
  later = accepted_in (map (incarnation c) (drop (n + 1) ps ++ rest)) e q

  by_test : (b : Bool) → (p.epoch == e) ≡ b → accepted_in (map (incarnation c) (drop n ps ++ rest)) e q ≡ (if b then unwrap_or (slice_get p.accepted q) [] else later)
  by_test b t = ap (λ qs. accepted_in (map (incarnation c) (qs ++ rest)) e q) (drop-at ps n p at) ∙ ap (λ x. if x then unwrap_or (slice_get p.accepted q) [] else later) t

  pub other_epoch : p.epoch ≢ e → accepted_in (map (incarnation c) (drop n ps ++ rest)) e q ≡ accepted_in (map (incarnation c) (drop (n + 1) ps ++ rest)) e q
  other_epoch ne = by_test false (not_equal p.epoch e ne)

  pub of_epoch : p.epoch ≡ e → accepted_in (map (incarnation c) (drop n ps ++ rest)) e q ≡ unwrap_or (slice_get p.accepted q) []
  of_epoch same = by_test true (equal_test p.epoch e same)
