-- What the outside of the machines shows of the index is unchanged if none of its writes is run.
use Rattle.std.proofs.Common.{◌≡◌, ℕ, List, ◌++◌, ap, ◌∙◌}
use Rattle.std.specs.Prelude.{map}
use Rattle.relay_action.specs.declared.operation.Op.{Op}
use Rattle.relay_results.specs.Documents.{Document, name_of}
use Rattle.relay_results.specs.Outside.{Outside}
use Rattle.relay_delivery.specs.Machine.{Config}
use Rattle.relay_delivery.specs.Together.{Together}
use Rattle.relay_delivery.specs.Restarts.{CameAboutTogether}
use Rattle.relay_delivery.specs.Incarnations.{attributed_together}
use Rattle.relay_delivery.proofs.Lives.{facts_of_life}
use Rattle.relay_delivery.proofs.Naming.{names_kept}
use Rattle.relay_core.specs.State.{config_of}
use Rattle.relay_world.specs.State.{Desk, Sent, World, opening_version, lane_of, ended_of}
use Rattle.relay_world.specs.Ties.{IsIndexOf}

-- the world with other desks, accepted lists and requests, over the index that it has
abbrev pub over_same : World → List Desk → List (List Op) → List Sent → World
over_same w desks accepted sent = record { opening = w.opening; config = w.config; desks = desks; accepted = accepted; ended = w.ended; sent = sent; index = w.index; kept = w.kept }

pub record SameIndex (new old : Outside) : Type 0 where
  pub stored : new.stored ≡ old.stored
  pub before : new.before ≡ old.before
  pub applied : new.applied ≡ old.applied

module _ (w : World) (desks : List Desk) (accepted : List (List Op)) (sent : List Sent) (t u : Together) (i : IsIndexOf w t) (came : CameAboutTogether (opening_version w) (config_of w.config) (lane_of w) (ended_of w) t)
    (same : (l : ℕ) → SameIndex (u.lanes.lane l).outside (t.lanes.lane l).outside)
    (more : (l : ℕ) → (os : List Op) × ((u.lanes.lane l).taken ≡ (t.lanes.lane l).taken ++ os)) where
  abbrev g : Config
  g = config_of w.config

  attributed_kept : (k : Document) → attributed_together g (lane_of w) (ended_of w) u k ≡ attributed_together g (lane_of w) (ended_of w) t k
  attributed_kept k = names_kept (opening_version w) g (lane_of w) (ended_of w) t u (facts_of_life (opening_version w) g (lane_of w) (ended_of w) t came) more (λ l. (same l).applied) k

  pub index_kept : IsIndexOf (over_same w desks accepted sent) u
  index_kept = record {
    applied = λ k. ap (λ f. f k) (same (lane_of w k)).applied ∙ i.applied k;
    before = λ k. ap (λ f. f k) (same (lane_of w k)).before ∙ i.before k;
    within = i.within;
    shows = record {
      versions = λ k. ap (λ f. f k) (same (lane_of w k)).stored ∙ i.shows.versions k;
      lists = λ k. (λ j. (same (lane_of w k)).before j k ++ (same (lane_of w k)).applied j k) ∙ i.shows.lists k;
    };
    names = λ k. ap (map name_of) (attributed_kept k) ∙ i.names k;
  }
