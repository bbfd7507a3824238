-- A restart keeps a world tied: its machines continue their requests, and its lanes number theirs
-- from the start.
use Rattle.std.proofs.Common.{◌≡◌, ℕ, ◌+◌, ◌<◌, ◌≤◌, [], ◌∷◌, length, Option, Some, None, refl, sym, ap, ◌∙◌, subst, ⊎_elim, arith, false}
use Rattle.std.specs.Prelude.{slice_get, map, replicate}
use Rattle.std.proofs.lemmas.List.{map-append}
use Rattle.relay_core.specs.declared.config.RelayConfig.{RelayConfig}
use Rattle.relay_results.specs.Words.{Mem}
use Rattle.relay_results.specs.Documents.{name_of}
use Rattle.relay_results.proofs.Lists.{Mem-cases, Mem-one}
use Rattle.relay_delivery.specs.Machine.{Config}
use Rattle.relay_delivery.specs.Lane as delivery
use Rattle.relay_delivery.specs.Together.{Together}
use Rattle.relay_delivery.specs.Restarts.{Incarnation, CameAboutTogether, restarted_core}
use Rattle.relay_delivery.specs.Restarts as restarts
use Rattle.relay_delivery.specs.Incarnations.{attributed_together}
use Rattle.relay_delivery.specs.Renumbering.{numbered_on}
use Rattle.relay_delivery.proofs.Accounts.{restart_together, epochs_are_above}
use Rattle.relay_delivery.proofs.Naming.{restarts_keep_names}
use Rattle.relay_delivery.proofs.Numbered.{fresh_on}
use Rattle.relay_core.specs.State.{config_of}
use Rattle.relay_world.specs.State.{Desk, World, opening_version, fresh_desk, has_closed, lane_of, ended_of, running, incarnation, incarnations_of, taken_of}
use Rattle.relay_world.specs.Headline.{request_of}
use Rattle.relay_world.specs.Changes.{in_new_epoch, after_restart}
use Rattle.relay_world.specs.Ties.{queue_of, core_of, versions_of, IsLaneOf, IsTied, HasMachines}
use Rattle.relay_world.proofs.Starting.{at-all}
use Rattle.relay_world.proofs.Beginning.{none_at_all, open_at_all, none_passes, at_fresh, length-same}
use Rattle.relay_world.proofs.Carried.{Keeps, keeps_restart, found_kept, request_kept, map-kept}
use Rattle.relay_world.proofs.Past.{running_seen}

module _ (w : World) (t : Together) (b : ℕ → ℕ) (i : IsTied w t b) (epoch : ℕ) (up : w.config.epoch < epoch) where
  abbrev new : World
  new = after_restart w epoch

  abbrev c : RelayConfig
  c = in_new_epoch w.config epoch

  abbrev g : Config
  g = config_of w.config

  abbrev u : Together
  u = restarts.after_restart t

  -- how many requests each lane had sent
  abbrev counts : ℕ → ℕ
  counts l = length (t.lanes.lane l).outside.requests

  at_core : (l : ℕ) (o : Option Desk) → ((d : Desk) → o ≡ Some d → d ≡ fresh_desk c) → delivery.IsOf (numbered_on (counts l) (core_of (config_of c) o)) (restarted_core (t.lanes.lane l))
  at_core l None f = fresh_on (config_of c) (t.lanes.lane l)
  at_core l (Some d) f = subst (λ x. delivery.IsOf (numbered_on (counts l) (core_of (config_of c) (Some x))) (restarted_core (t.lanes.lane l))) (sym (f d refl)) (fresh_on (config_of c) (t.lanes.lane l))

  came : CameAboutTogether (opening_version w) (config_of c) (lane_of w) (incarnations_of w) u
  came = subst (λ is. CameAboutTogether (opening_version w) (config_of c) (lane_of w) is u) (running_seen w t b i)
      (restart_together (opening_version w) g (config_of c) (lane_of w) (ended_of w) t i.came_about
      (epochs_are_above w.config.epoch epoch w.config.deal w.config.deal w.config.attempts w.config.attempts w.config.limits.count w.config.limits.count w.config.give_up_after w.config.give_up_after up i.few))

  kept : Keeps w new
  kept = keeps_restart w epoch

  grown : (p : Incarnation) → Mem p (ended_of new) → p.sent ≤ length w.sent
  grown p m = ⊎_elim {C = p.sent ≤ length w.sent}
      (λ old. i.requests.grown p old)
      (λ one. let e = ap (λ (q : Incarnation). q.sent) (Mem-one p (incarnation w.config (running w)) one) in omega (arith, e))
      (Mem-cases p (ended_of w) (incarnation w.config (running w) ∷ []) (subst (λ ps. Mem p ps) (map-append (incarnation w.config) w.ended (running w ∷ [])) m))

  restart_tied : IsTied new u counts
  restart_tied = record {
    few = i.few;
    came_about = came;
    lanes = record {
      producers = length-same w.config.producers [];
      accepted = λ p. sym (none_at_all w.config.producers p);
      closed = λ p. sym (none_passes (has_closed p) (fresh_desk c) w.config.lanes (open_at_all (w.config.producers + 1) p));
      queue = λ l. sym (at_fresh queue_of [] (fresh_desk c) refl refl w.config.lanes l);
      taken = λ l. sym (at_fresh taken_of [] (fresh_desk c) refl refl w.config.lanes l);
      lane = λ l. at_core l (slice_get (replicate w.config.lanes (fresh_desk c)) l) (at-all w.config.lanes l (fresh_desk c));
      works = λ l d e. subst (IsLaneOf c) (sym (at-all w.config.lanes l (fresh_desk c) d e)) (record { config = refl; senders = length-same (w.config.producers + 1) (record { count = 0; closed = false }); next = refl });
    };
    requests = record {
      sent = i.requests.sent ∙ sym (map-kept (request_of new) (request_of w) w.sent (λ s m. request_kept w new s s s.answer kept (i.requests.found s m) refl refl refl));
      origins = λ k s at.
          let o = i.requests.origins k s at in
          let le = o.not_later in
          record { number = o.number; origin = o.origin; not_later = omega (arith, le, up); of_now = λ e. absurd (omega (arith, le, up, e)) };
      grown = grown;
      runs = i.requests.runs;
      found = λ s m. found_kept w new kept s.lane (versions_of s) (i.requests.found s m);
    };
    index = record {
      applied = i.index.applied;
      before = i.index.before;
      within = i.index.within;
      shows = record { versions = i.index.shows.versions; lists = i.index.shows.lists };
      names = λ k.
          (λ j. map name_of (attributed_together (config_of c) (lane_of w) (sym (running_seen w t b i) j) u k))
          ∙ ap (map name_of) (restarts_keep_names (opening_version w) g (config_of c) (lane_of w) (ended_of w) t k i.came_about)
          ∙ i.index.names k;
    };
  }

pub restart_machines : (w : World) → HasMachines w → (epoch : ℕ) → w.config.epoch < epoch → HasMachines (after_restart w epoch)
restart_machines w k epoch up = record {
  machines = restarts.after_restart k.machines;
  before = λ l. length (k.machines.lanes.lane l).outside.requests;
  tied = restart_tied w k.machines k.before k.tied epoch up;
}
