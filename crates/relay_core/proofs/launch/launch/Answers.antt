use Rattle.std.proofs.Common.{◌≡◌, ◌∙◌, ℕ, ◌+◌, ◌-◌, ◌++◌, ◌∷◌, List, [], sym, ap, subst, refl, arith, drop, take, append_assoc, length, Some}
use Rattle.std.specs.Prelude.{map, option_to_list, slice_get}
use Rattle.relay_held.specs.declared.kept.Kept.{Kept}
use Rattle.relay_held.specs.Queues.{Rises, candidates_kept, is_candidate_kept}
use Rattle.relay_held.proofs.Merging.{rises_filter}
use Rattle.relay_held.proofs.Changing.{rises_with}
use Rattle.relay_held.proofs.Holding.{launch_keeps}
use Rattle.relay_core.specs.Walk.{item_of_kept, launch_one, launched_kept, freight}
use Rattle.relay_core.proofs.Going.{Next, next_of, rises_drop, above_taken, launched_step, freight_step, launched_none, freight_none, waits_of, take_less, its_first, candidates_next}
use Rattle.relay_core.proofs.Settling.{drop_more}
use Rattle.relay_core.proofs.launch.launch.Goals as goal

some_left : (cs ds : List Kept) (i : ℕ) (n : Next ds i) → cs ≡ drop i ds → slice_get cs 0 ≡ Some n.one
some_left cs ds i n e = ap (λ xs. slice_get xs 0) (e ∙ n.here)

pub launch-requires : goal.launch-requires
launch-requires c =
    let lt = c.places-test.true in let most = c.requires.count in
    let n = next_of (candidates_kept c.args.held.now.list c.args.held.now.clock) c.places.place (omega (arith, lt, most)) in
    let len = ap length (c.places.invariant.left ∙ n.here) in
    omega (arith, len)

pub places-preserved : goal.places-preserved
places-preserved c =
    let v = c.places.invariant in
    let cs = candidates_kept c.args.held.now.list c.args.held.now.clock in
    let i = c.places.place in
    let lt = c.places-test.true in let most = c.requires.count in
    let n = next_of cs i (omega (arith, lt, most)) in
    let h = n.one in
    let k = h.key in
    let f = launch_one c.places.held.clock c.args.number i in
    let first = some_left (candidates_kept c.places.held.list c.places.held.clock) cs i n v.left in
    let here = its_first c.places.held.list c.places.held.clock h v.rises first in
    let list = c.launch.ensures.list h first in
    let clock = c.launch.ensures.clock in
    let up = rises_drop i cs (rises_filter (is_candidate_kept c.args.held.now.list c.args.held.now.clock) c.args.held.now.list c.requires.rises) in
    let above = (subst Rises n.here up).0 in
    let waits = waits_of c.args.held.now.list c.args.held.now.clock i h (drop (i + 1) cs) n.here in
    let is = map item_of_kept (take (c.args.count - (i + 1)) (drop (i + 1) cs)) in
    let next = above_taken h.version (c.args.count - (i + 1)) (drop (i + 1) cs) above in
    let items = ap (map item_of_kept) (take_less c.args.count i cs h lt n.here) in
    let w : c.launch.result ≡ h.write = c.launch.ensures.write h first in
    let len = c.load.ensures.len in let cap = c.load.ensures.capacity in let room = v.room in
    record {
      rises = subst Rises (sym list) (rises_with k f c.places.held.list (launch_keeps c.places.held.clock c.args.number i) v.rises);
      clock = clock ∙ v.clock;
      looks = c.launch.ensures.looks ∙ v.looks;
      left = (λ j. candidates_kept (list j) (clock j)) ∙ candidates_next c.places.held.list c.places.held.clock c.args.number i h v.rises first ∙ ap (drop 1) v.left ∙ drop_more i cs;
      room = omega (arith, len, cap, room, lt);
      held = (λ j. launched_kept (clock j) (list j) c.args.number (i + 1) is) ∙ sym (launched_step c.places.held.clock c.args.number i k h is waits next c.places.held.list v.rises here)
          ∙ ap (launched_kept c.places.held.clock c.places.held.list c.args.number i) (sym items) ∙ v.held;
      writes = ap (λ zs. zs ++ freight c.launch.new.self.list is) c.load.ensures.items
          ∙ append_assoc c.places.writes.items (option_to_list c.launch.result) (freight c.launch.new.self.list is)
          ∙ (λ j. c.places.writes.items ++ (option_to_list (w j) ++ freight (list j) is))
          ∙ ap (λ ws. c.places.writes.items ++ ws) (sym (freight_step c.places.held.clock c.args.number i k h is waits next c.places.held.list v.rises here))
          ∙ ap (λ js. c.places.writes.items ++ freight c.places.held.list js) (sym items) ∙ v.writes;
    }

none_taken : (m i : ℕ) (cs : List Kept) → m ≡ i → map item_of_kept (take (m - i) cs) ≡ []
none_taken m i cs e = let z : m - i ≡ 0 = omega (arith, e) in ap (λ j. map item_of_kept (take j cs)) z

pub returns-clause-held : goal.returns-clause-held
returns-clause-held c =
    let v = c.places.invariant in
    let ge = c.places-test.false in let le = c.places.auto.place-end in
    let none = none_taken c.args.count c.places.place (drop c.places.place (candidates_kept c.args.held.now.list c.args.held.now.clock)) (omega (arith, ge, le)) in
    sym (launched_none c.places.held.clock c.places.held.list c.args.number c.places.place) ∙ ap (launched_kept c.places.held.clock c.places.held.list c.args.number c.places.place) (sym none) ∙ v.held

nothing_after : {A : Type 0} (xs : List A) → xs ++ [] ≡ xs
nothing_after [] = refl
nothing_after (x ∷ xs) = ap (λ ys. x ∷ ys) (nothing_after xs)

pub returns-clause-writes : goal.returns-clause-writes
returns-clause-writes c =
    let v = c.places.invariant in
    let ge = c.places-test.false in let le = c.places.auto.place-end in
    let none = none_taken c.args.count c.places.place (drop c.places.place (candidates_kept c.args.held.now.list c.args.held.now.clock)) (omega (arith, ge, le)) in
    sym (nothing_after c.places.writes.items) ∙ ap (λ ws. c.places.writes.items ++ ws) (sym (freight_none c.places.held.list) ∙ ap (freight c.places.held.list) (sym none)) ∙ v.writes
