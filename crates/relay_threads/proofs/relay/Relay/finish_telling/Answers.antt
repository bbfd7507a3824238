use Rattle.std.proofs.Common.{arith, rules, sym, ◌∙◌, ◌≡◌, subst, map, vec_len, List, refl, Some, None}
use Rattle.std.specs.Prelude.{Option}
use Rattle.std.proofs.lemmas.Result.{err_from_is_err_and}
use Rattle.relay_producer.specs.declared.ends.ClosedEnd.{ClosedEnd}
use Rattle.relay_threads.specs.Faults.{FirstOf, TellsFault, ends_as, is_memory, is_gone_lane}
use Rattle.relay_threads.specs.Ending.{AllFinished}
use Rattle.relay_threads.specs.Relay.{AreRows, rows_of}
use Rattle.relay_threads.proofs.Popping.{long_map}
use Rattle.relay_threads.proofs.Delivering.{are_long, all_delivered, all_told_of}
use Rattle.relay_threads.proofs.Together.{delivered_together}
use Rattle.relay_threads.proofs.Results.{same_ok}
use Rattle.relay_threads.specs.ToldAll.{AllTold}
use Rattle.relay_threads.proofs.Finishing.{ready, may_sum, all_finished, all_told_to}
use Rattle.relay_threads.specs.declared.fault.FinishFault.{FinishFault}
use Rattle.relay_threads.specs.declared.fault.FinishFaultKind.TheVariants as kind
use Rattle.relay_threads.specs.declared.lane_end.LaneEnd.{LaneEnd}
use Rattle.relay_threads.proofs.relay.Relay.finish_telling.Goals as goal

-- the rows that were returned are those of the handles
given_fault : {W : Type 0} (ends : List (LaneEnd W)) (rows given : List (List ClosedEnd)) (fault : Option FinishFault) → rows ≡ given → TellsFault ends rows fault → TellsFault ends given fault
given_fault ends rows given fault same told = subst (λ r. TellsFault ends r fault) same told

pub fault_of-requires : goal.fault_of-requires
fault_of-requires g c =
    let r = ready g.W.Wire.describes g.W.Wire.fits g.W.Wire.carries g.T.Tell.told c.args.self c.self.inside.config c.self.inside.lanes.items c.join_all-ends.result.0.items c.join_all-ends.result.1.items _ c.args.producers.items c.args.control (sym c.self.view_is) c.self.invariant.0 c.self.invariant.1 c.self.invariant.2 c.join_all-ends.ensures.ends c.join_all-ends.ensures.told c.give_back-rows.ensures.rows (sym c.args.producers.ok.0 ∙ c.requires.count) in
    omega (arith, r.few_ends, c.join_all-ends.result.0.ok.0)

pub returns-in-Some-clause-fault : goal.returns-in-Some-clause-fault
returns-in-Some-clause-fault g c =
    let r = ready g.W.Wire.describes g.W.Wire.fits g.W.Wire.carries g.T.Tell.told c.args.self c.self.inside.config c.self.inside.lanes.items c.join_all-ends.result.0.items c.join_all-ends.result.1.items _ c.args.producers.items c.args.control (sym c.self.view_is) c.self.invariant.0 c.self.invariant.1 c.self.invariant.2 c.join_all-ends.ensures.ends c.join_all-ends.ensures.told c.give_back-rows.ensures.rows (sym c.args.producers.ok.0 ∙ c.requires.count) in
    let told : TellsFault c.join_all-ends.result.0.items (rows_of c.args.producers.items c.args.control) (Some c.in-Some.fault) = given_fault c.join_all-ends.result.0.items _ _ (Some c.in-Some.fault) c.give_back-rows.ensures.rows (subst (TellsFault c.join_all-ends.result.0.items (map (λ r. r.items) c.give_back-rows.result.items)) c.in-Some.is c.fault_of.ensures) in
    record { ends = c.join_all-ends.result.0.items; ended = r.ended; tells = told.0 }

pub sum_up_all-requires-clause-few : goal.sum_up_all-requires-clause-few
sum_up_all-requires-clause-few g c =
    let r = ready g.W.Wire.describes g.W.Wire.fits g.W.Wire.carries g.T.Tell.told c.args.self c.self.inside.config c.self.inside.lanes.items c.join_all-ends.result.0.items c.join_all-ends.result.1.items _ c.args.producers.items c.args.control (sym c.self.view_is) c.self.invariant.0 c.self.invariant.1 c.self.invariant.2 c.join_all-ends.ensures.ends c.join_all-ends.ensures.told c.give_back-rows.ensures.rows (sym c.args.producers.ok.0 ∙ c.requires.count) in
    let long = long_map (λ r. r.items) c.give_back-rows.result.items in
    omega (arith, r.few_rows, long, c.give_back-rows.result.ok.0)

pub sum_up_all-requires-clause-rows : goal.sum_up_all-requires-clause-rows
sum_up_all-requires-clause-rows g c =
    let r = ready g.W.Wire.describes g.W.Wire.fits g.W.Wire.carries g.T.Tell.told c.args.self c.self.inside.config c.self.inside.lanes.items c.join_all-ends.result.0.items c.join_all-ends.result.1.items _ c.args.producers.items c.args.control (sym c.self.view_is) c.self.invariant.0 c.self.invariant.1 c.self.invariant.2 c.join_all-ends.ensures.ends c.join_all-ends.ensures.told c.give_back-rows.ensures.rows (sym c.args.producers.ok.0 ∙ c.requires.count) in
    (may_sum g.W.Wire.describes g.W.Wire.fits g.W.Wire.carries c.args.self.config (vec_len c.give_back-rows.result) c.args.self.queues c.args.self.wires c.join_all-ends.result.0.items (map (λ r. r.items) c.give_back-rows.result.items) (vec_len c.join_all-ends.result.0) (c.give_back-rows.result.ok.0 ∙ sym (long_map (λ r. r.items) c.give_back-rows.result.items) ∙ r.count) (sym c.join_all-ends.result.0.ok.0) r.ended (subst (AreRows c.args.self.queues 0) (sym c.give_back-rows.ensures.rows) c.requires.rows) (subst (λ n. FirstOf (ends_as is_memory c.join_all-ends.result.0.items) n None) (sym c.join_all-ends.result.0.ok.0) (subst (TellsFault c.join_all-ends.result.0.items (map (λ r. r.items) c.give_back-rows.result.items)) c.in_default.is c.fault_of.ensures).0) (subst (λ n. FirstOf (is_gone_lane c.join_all-ends.result.0.items (map (λ r. r.items) c.give_back-rows.result.items)) n None) (sym c.join_all-ends.result.0.ok.0) (subst (TellsFault c.join_all-ends.result.0.items (map (λ r. r.items) c.give_back-rows.result.items)) c.in_default.is c.fault_of.ensures).1)).rows_own

pub sum_up_all-requires-clause-none_gone : goal.sum_up_all-requires-clause-none_gone
sum_up_all-requires-clause-none_gone g c =
    let r = ready g.W.Wire.describes g.W.Wire.fits g.W.Wire.carries g.T.Tell.told c.args.self c.self.inside.config c.self.inside.lanes.items c.join_all-ends.result.0.items c.join_all-ends.result.1.items _ c.args.producers.items c.args.control (sym c.self.view_is) c.self.invariant.0 c.self.invariant.1 c.self.invariant.2 c.join_all-ends.ensures.ends c.join_all-ends.ensures.told c.give_back-rows.ensures.rows (sym c.args.producers.ok.0 ∙ c.requires.count) in
    (may_sum g.W.Wire.describes g.W.Wire.fits g.W.Wire.carries c.args.self.config (vec_len c.give_back-rows.result) c.args.self.queues c.args.self.wires c.join_all-ends.result.0.items (map (λ r. r.items) c.give_back-rows.result.items) (vec_len c.join_all-ends.result.0) (c.give_back-rows.result.ok.0 ∙ sym (long_map (λ r. r.items) c.give_back-rows.result.items) ∙ r.count) (sym c.join_all-ends.result.0.ok.0) r.ended (subst (AreRows c.args.self.queues 0) (sym c.give_back-rows.ensures.rows) c.requires.rows) (subst (λ n. FirstOf (ends_as is_memory c.join_all-ends.result.0.items) n None) (sym c.join_all-ends.result.0.ok.0) (subst (TellsFault c.join_all-ends.result.0.items (map (λ r. r.items) c.give_back-rows.result.items)) c.in_default.is c.fault_of.ensures).0) (subst (λ n. FirstOf (is_gone_lane c.join_all-ends.result.0.items (map (λ r. r.items) c.give_back-rows.result.items)) n None) (sym c.join_all-ends.result.0.ok.0) (subst (TellsFault c.join_all-ends.result.0.items (map (λ r. r.items) c.give_back-rows.result.items)) c.in_default.is c.fault_of.ensures).1)).none_marked

pub sum_up_all-requires-clause-done : goal.sum_up_all-requires-clause-done
sum_up_all-requires-clause-done g c =
    let r = ready g.W.Wire.describes g.W.Wire.fits g.W.Wire.carries g.T.Tell.told c.args.self c.self.inside.config c.self.inside.lanes.items c.join_all-ends.result.0.items c.join_all-ends.result.1.items _ c.args.producers.items c.args.control (sym c.self.view_is) c.self.invariant.0 c.self.invariant.1 c.self.invariant.2 c.join_all-ends.ensures.ends c.join_all-ends.ensures.told c.give_back-rows.ensures.rows (sym c.args.producers.ok.0 ∙ c.requires.count) in
    (may_sum g.W.Wire.describes g.W.Wire.fits g.W.Wire.carries c.args.self.config (vec_len c.give_back-rows.result) c.args.self.queues c.args.self.wires c.join_all-ends.result.0.items (map (λ r. r.items) c.give_back-rows.result.items) (vec_len c.join_all-ends.result.0) (c.give_back-rows.result.ok.0 ∙ sym (long_map (λ r. r.items) c.give_back-rows.result.items) ∙ r.count) (sym c.join_all-ends.result.0.ok.0) r.ended (subst (AreRows c.args.self.queues 0) (sym c.give_back-rows.ensures.rows) c.requires.rows) (subst (λ n. FirstOf (ends_as is_memory c.join_all-ends.result.0.items) n None) (sym c.join_all-ends.result.0.ok.0) (subst (TellsFault c.join_all-ends.result.0.items (map (λ r. r.items) c.give_back-rows.result.items)) c.in_default.is c.fault_of.ensures).0) (subst (λ n. FirstOf (is_gone_lane c.join_all-ends.result.0.items (map (λ r. r.items) c.give_back-rows.result.items)) n None) (sym c.join_all-ends.result.0.ok.0) (subst (TellsFault c.join_all-ends.result.0.items (map (λ r. r.items) c.give_back-rows.result.items)) c.in_default.is c.fault_of.ensures).1)).each_done

pub returns-clause-finished : goal.returns-clause-finished
returns-clause-finished g c =
    let was = same_ok _ c.sum_up_all.result c.map_err.result c.in_ok-lanes.lanes c.map_err.ensures.cases c.in_ok-lanes.ensures.variant c.in_ok-lanes.was in
    let r = ready g.W.Wire.describes g.W.Wire.fits g.W.Wire.carries g.T.Tell.told c.args.self c.self.inside.config c.self.inside.lanes.items c.join_all-ends.result.0.items c.join_all-ends.result.1.items _ c.args.producers.items c.args.control (sym c.self.view_is) c.self.invariant.0 c.self.invariant.1 c.self.invariant.2 c.join_all-ends.ensures.ends c.join_all-ends.ensures.told c.give_back-rows.ensures.rows (sym c.args.producers.ok.0 ∙ c.requires.count) in
    subst (λ rows. AllFinished g.W.Wire.describes g.W.Wire.fits g.W.Wire.carries c.args.self.config rows 0 c.args.self.wires c.in_ok-lanes.lanes.items) c.give_back-rows.ensures.rows (all_finished g.W.Wire.describes g.W.Wire.fits g.W.Wire.carries c.args.self.config (map (λ r. r.items) c.give_back-rows.result.items) 0 c.args.self.queues c.args.self.wires c.join_all-ends.result.0.items c.in_ok-lanes.lanes.items r.count r.ended (may_sum g.W.Wire.describes g.W.Wire.fits g.W.Wire.carries c.args.self.config (vec_len c.give_back-rows.result) c.args.self.queues c.args.self.wires c.join_all-ends.result.0.items (map (λ r. r.items) c.give_back-rows.result.items) (vec_len c.join_all-ends.result.0) (c.give_back-rows.result.ok.0 ∙ sym (long_map (λ r. r.items) c.give_back-rows.result.items) ∙ r.count) (sym c.join_all-ends.result.0.ok.0) r.ended (subst (AreRows c.args.self.queues 0) (sym c.give_back-rows.ensures.rows) c.requires.rows) (subst (λ n. FirstOf (ends_as is_memory c.join_all-ends.result.0.items) n None) (sym c.join_all-ends.result.0.ok.0) (subst (TellsFault c.join_all-ends.result.0.items (map (λ r. r.items) c.give_back-rows.result.items)) c.in_default.is c.fault_of.ensures).0) (subst (λ n. FirstOf (is_gone_lane c.join_all-ends.result.0.items (map (λ r. r.items) c.give_back-rows.result.items)) n None) (sym c.join_all-ends.result.0.ok.0) (subst (TellsFault c.join_all-ends.result.0.items (map (λ r. r.items) c.give_back-rows.result.items)) c.in_default.is c.fault_of.ensures).1)).kinds (rw was at c.sum_up_all.ensures))

pub returns-clause-told : goal.returns-clause-told
returns-clause-told g c =
    let was = same_ok _ c.sum_up_all.result c.map_err.result c.in_ok-lanes.lanes c.map_err.ensures.cases c.in_ok-lanes.ensures.variant c.in_ok-lanes.was in
    let r = ready g.W.Wire.describes g.W.Wire.fits g.W.Wire.carries g.T.Tell.told c.args.self c.self.inside.config c.self.inside.lanes.items c.join_all-ends.result.0.items c.join_all-ends.result.1.items _ c.args.producers.items c.args.control (sym c.self.view_is) c.self.invariant.0 c.self.invariant.1 c.self.invariant.2 c.join_all-ends.ensures.ends c.join_all-ends.ensures.told c.give_back-rows.ensures.rows (sym c.args.producers.ok.0 ∙ c.requires.count) in
    let rows = map (λ r. r.items) c.give_back-rows.result.items in
    subst (λ rows. AllTold g.W.Wire.describes g.W.Wire.fits g.W.Wire.carries g.T.Tell.told c.args.self.config rows 0 c.args.self.wires c.args.self.tells c.join_all-ends.result.1.items c.in_ok-lanes.lanes.items) c.give_back-rows.ensures.rows
    (all_told_to g.W.Wire.describes g.W.Wire.fits g.W.Wire.carries g.T.Tell.told c.args.self.config rows 0 c.args.self.queues c.args.self.wires c.args.self.tells c.join_all-ends.result.0.items c.join_all-ends.result.1.items c.in_ok-lanes.lanes.items r.count r.ended
    (may_sum g.W.Wire.describes g.W.Wire.fits g.W.Wire.carries c.args.self.config (vec_len c.give_back-rows.result) c.args.self.queues c.args.self.wires c.join_all-ends.result.0.items (map (λ r. r.items) c.give_back-rows.result.items) (vec_len c.join_all-ends.result.0) (c.give_back-rows.result.ok.0 ∙ sym (long_map (λ r. r.items) c.give_back-rows.result.items) ∙ r.count) (sym c.join_all-ends.result.0.ok.0) r.ended (subst (AreRows c.args.self.queues 0) (sym c.give_back-rows.ensures.rows) c.requires.rows) (subst (λ n. FirstOf (ends_as is_memory c.join_all-ends.result.0.items) n None) (sym c.join_all-ends.result.0.ok.0) (subst (TellsFault c.join_all-ends.result.0.items (map (λ r. r.items) c.give_back-rows.result.items)) c.in_default.is c.fault_of.ensures).0) (subst (λ n. FirstOf (is_gone_lane c.join_all-ends.result.0.items (map (λ r. r.items) c.give_back-rows.result.items)) n None) (sym c.join_all-ends.result.0.ok.0) (subst (TellsFault c.join_all-ends.result.0.items (map (λ r. r.items) c.give_back-rows.result.items)) c.in_default.is c.fault_of.ensures).1)).kinds r.has_told (rw was at c.sum_up_all.ensures))

pub returns-in_err-lanes-clause-fault : goal.returns-in_err-lanes-clause-fault
returns-in_err-lanes-clause-fault g c =
    let r = ready g.W.Wire.describes g.W.Wire.fits g.W.Wire.carries g.T.Tell.told c.args.self c.self.inside.config c.self.inside.lanes.items c.join_all-ends.result.0.items c.join_all-ends.result.1.items _ c.args.producers.items c.args.control (sym c.self.view_is) c.self.invariant.0 c.self.invariant.1 c.self.invariant.2 c.join_all-ends.ensures.ends c.join_all-ends.ensures.told c.give_back-rows.ensures.rows (sym c.args.producers.ok.0 ∙ c.requires.count) in
    let told : TellsFault c.join_all-ends.result.0.items (rows_of c.args.producers.items c.args.control) None = given_fault c.join_all-ends.result.0.items _ _ None c.give_back-rows.ensures.rows (subst (TellsFault c.join_all-ends.result.0.items (map (λ r. r.items) c.give_back-rows.result.items)) c.in_default.is c.fault_of.ensures) in
    let p = err_from_is_err_and c.from_residual.result c.from_residual.ensures.1 in
    let fault : c.in_err-lanes.field-0.0 ≡ record { kind = kind.Memory; lane = 0 } = search rules in
    rw (p.1, p.2 ∙ fault) (record { ends = c.join_all-ends.result.0.items; ended = r.ended; tells = (told.0, told.1, refl) })

pub returns-clause-delivered : goal.returns-clause-delivered
returns-clause-delivered g c puts h =
    let r = ready g.W.Wire.describes g.W.Wire.fits g.W.Wire.carries g.T.Tell.told c.args.self c.self.inside.config c.self.inside.lanes.items c.join_all-ends.result.0.items c.join_all-ends.result.1.items _ c.args.producers.items c.args.control (sym c.self.view_is) c.self.invariant.0 c.self.invariant.1 c.self.invariant.2 c.join_all-ends.ensures.ends c.join_all-ends.ensures.told c.give_back-rows.ensures.rows (sym c.args.producers.ok.0 ∙ c.requires.count) in
    all_delivered g.W.Wire.describes g.W.Wire.fits g.W.Wire.carries c.args.self.config puts c.args.producers.items c.args.control 0 c.args.self.wires c.in_ok-lanes.lanes.items (sym c.args.producers.ok.0 ∙ c.requires.count) (are_long c.args.self.queues 0 c.args.self.config.lanes c.args.producers.items c.args.control r.lanes c.requires.rows) h c.give_back-rows.ensures.no_puts (returns-clause-finished g c)

pub returns-clause-together : goal.returns-clause-together
returns-clause-together g c puts h =
    let r = ready g.W.Wire.describes g.W.Wire.fits g.W.Wire.carries g.T.Tell.told c.args.self c.self.inside.config c.self.inside.lanes.items c.join_all-ends.result.0.items c.join_all-ends.result.1.items _ c.args.producers.items c.args.control (sym c.self.view_is) c.self.invariant.0 c.self.invariant.1 c.self.invariant.2 c.join_all-ends.ensures.ends c.join_all-ends.ensures.told c.give_back-rows.ensures.rows (sym c.args.producers.ok.0 ∙ c.requires.count) in
    delivered_together g.W.Wire.describes g.W.Wire.fits g.W.Wire.carries c.args.self.config puts (rows_of c.args.producers.items c.args.control) c.args.self.wires c.in_ok-lanes.lanes.items c.args.producers.items (sym c.args.producers.ok.0 ∙ c.requires.count) h r.some r.wires (returns-clause-delivered g c puts h)

pub returns-clause-told_of_puts : goal.returns-clause-told_of_puts
returns-clause-told_of_puts g c puts h =
    let r = ready g.W.Wire.describes g.W.Wire.fits g.W.Wire.carries g.T.Tell.told c.args.self c.self.inside.config c.self.inside.lanes.items c.join_all-ends.result.0.items c.join_all-ends.result.1.items _ c.args.producers.items c.args.control (sym c.self.view_is) c.self.invariant.0 c.self.invariant.1 c.self.invariant.2 c.join_all-ends.ensures.ends c.join_all-ends.ensures.told c.give_back-rows.ensures.rows (sym c.args.producers.ok.0 ∙ c.requires.count) in
    all_told_of g.W.Wire.describes g.W.Wire.fits g.W.Wire.carries g.T.Tell.told c.args.self.config puts c.args.producers.items c.args.control 0 c.args.self.wires c.args.self.tells c.join_all-ends.result.1.items c.in_ok-lanes.lanes.items (sym c.args.producers.ok.0 ∙ c.requires.count) (are_long c.args.self.queues 0 c.args.self.config.lanes c.args.producers.items c.args.control r.lanes c.requires.rows) h c.give_back-rows.ensures.no_puts (returns-clause-told g c)
