-- The incarnations of a world are those of its machines, and their epochs increase.
use Rattle.std.proofs.Common.{◌≡◌, ℕ, ◌<◌, List, [], ◌∷◌, ◌++◌, length, refl, sym, ap, ◌∙◌, ⊎_elim, arith}
use Rattle.std.specs.Prelude.{map}
use Rattle.std.proofs.lemmas.List.{map-append, length-map}
use Rattle.relay_core.specs.declared.config.RelayConfig.{RelayConfig}
use Rattle.relay_results.specs.Words.{Mem}
use Rattle.relay_results.proofs.Lists.{Mem-map, map-Mem, Mem-push_cases}
use Rattle.relay_delivery.specs.Machine.{Config}
use Rattle.relay_delivery.specs.Together.{Together}
use Rattle.relay_delivery.specs.Restarts.{incarnation_of, with_running}
use Rattle.relay_delivery.proofs.Lives.{AreAbove, facts_of_life}
use Rattle.relay_core.specs.State.{config_of}
use Rattle.relay_world.specs.State.{Past, World, opening_version, ended_of, running, incarnation, incarnations, incarnations_of, lane_of}
use Rattle.relay_world.specs.Headline.{request_of, AreRising}
use Rattle.relay_world.specs.Ties.{IsTied}
use Rattle.relay_world.proofs.Carried.{taken_at}

pub one_seen : (w : World) (t : Together) (n : ℕ → ℕ) → IsTied w t n → incarnation_of (config_of w.config) t ≡ incarnation w.config (running w)
one_seen w t n i = λ j. record {
  config = config_of w.config;
  accepted = λ p. i.lanes.accepted p j;
  taken = λ l. (i.lanes.taken l ∙ sym (taken_at w.desks l)) j;
  sent = (ap length i.requests.sent ∙ length-map w.sent (request_of w)) j;
}

pub running_seen : (w : World) (t : Together) (n : ℕ → ℕ) → IsTied w t n → with_running (ended_of w) (config_of w.config) t ≡ incarnations_of w
running_seen w t n i = ap (λ p. ended_of w ++ p ∷ []) (one_seen w t n i) ∙ sym (map-append (incarnation w.config) w.ended (running w ∷ []))

-- ---- epochs

abbrev epochs_of : List Past → List ℕ
epochs_of ps = map (λ (p : Past). p.epoch) ps

rise : (c : RelayConfig) (ps : List Past) (last : Past) (top : Config) → top.epoch ≡ last.epoch → AreAbove (map (incarnation c) ps) top → AreRising (epochs_of (ps ++ last ∷ []))
rise c [] last top e a = ((λ m x. absurd x), tt)
rise c (p ∷ ps) last top e a = (above, rise c ps last top e a.2)
  where
    above : (m : ℕ) → Mem m (epochs_of (ps ++ last ∷ [])) → p.epoch < m
    above m x =
        let r = Mem-map (λ (q : Past). q.epoch) m (ps ++ last ∷ []) x in
        ⊎_elim {C = p.epoch < m}
        (λ old. let lt = (a.1 (incarnation c r.0) (map-Mem (incarnation c) r.0 ps old)).epoch in let same = r.2 in omega (arith, lt, same))
        (λ new. let lt = a.0.epoch in let same = r.2 ∙ ap (λ (q : Past). q.epoch) new in omega (arith, lt, same, e))
        (Mem-push_cases r.0 ps last r.1)

pub epochs_rise : (w : World) (t : Together) (n : ℕ → ℕ) → IsTied w t n → AreRising (epochs_of (incarnations w))
epochs_rise w t n i = rise w.config w.ended (running w) (config_of w.config) refl (facts_of_life (opening_version w) (config_of w.config) (lane_of w) (ended_of w) t i.came_about).above
