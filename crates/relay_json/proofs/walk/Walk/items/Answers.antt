use Rattle.std.proofs.Common.{◌≡◌, ◌-◌, length, Some, None, ap, ◌∙◌, arith}
use Rattle.json.specs.Json.{parse_map, after_end_array, value}
use Rattle.relay_json.specs.Items.{and_item}
use Rattle.relay_json.specs.Walks.{Reads, Refuses}
use Rattle.relay_json.proofs.Rests.{left_of_rest, left_after_end}
use Rattle.relay_json.proofs.Rows.{before, all-before, one_more_item}
use Rattle.relay_json.proofs.Turns.{item_read, item_refused, items_over, read-shorter}
use Rattle.relay_json.proofs.walk.Walk.items.Goals as goal

pub items-smaller : goal.items-smaller
items-smaller g c =
    let l = c.items in
    let going : (after_end_array l.self.reader ≡ None) × (c.take_end_array.new.self ≡ l.self.reader) = grind arith in
    let read = c.in_ok-item.ensures.ok in
    let less = read-shorter _ _ _ _ read.1.1 in
    omega (arith, ap length going.1)

pub items-preserved : goal.items-preserved
items-preserved g c =
    let l = c.items in
    let n = l.invariant.0 in
    let ds = l.invariant.1 in
    let going : (after_end_array l.self.reader ≡ None) × (c.take_end_array.new.self ≡ l.self.reader) = grind arith in
    let read = c.in_ok-item.ensures.ok in
    let d = read.0 in
    let less = read-shorter _ _ _ _ read.1.1 in
    let value_read : Reads c.args.self.now.depth l.self.reader d c.item.new.walk.reader = rw (← going.1, ← l.invariant.4) read.1.1 in
    let turn = item_read (value c.args.self.now.depth) n l.self.reader _ d (omega (arith, l.invariant.2, ap length going.1)) going.0 value_read in
    (n - 1, and_item ds d, omega (arith, l.invariant.2, ap length going.1), l.invariant.3 ∙ ap (parse_map (before ds)) turn ∙ one_more_item ds d _, read.1.0 ∙ l.invariant.4, read.2 ds l.invariant.5, left_of_rest c.args.self.now.reader l.self.reader _ l.invariant.6 (rw (← going.1) c.item.ensures.past.0))

pub returns-in_err-item-clause-not_json : goal.returns-in_err-item-clause-not_json
returns-in_err-item-clause-not_json g c is =
    let l = c.items in
    let going : (after_end_array l.self.reader ≡ None) × (c.take_end_array.new.self ≡ l.self.reader) = grind arith in
    let none : Refuses c.args.self.now.depth l.self.reader = rw (← going.1, ← l.invariant.4) (c.in_err-item.ensures.not_json (grind arith)) in
    l.invariant.3 ∙ ap (parse_map (before l.invariant.1)) (item_refused (value c.args.self.now.depth) l.invariant.0 l.self.reader going.0 none)

pub returns-clause-ok : goal.returns-clause-ok
returns-clause-ok g c =
    let l = c.items in
    let over = items_over (value c.args.self.now.depth) l.invariant.0 l.self.reader c.take_end_array.new.self l.invariant.2 (grind arith) in
    (l.invariant.1, l.invariant.3 ∙ ap (parse_map (before l.invariant.1)) over ∙ ap (λ ds. Some (ds, c.take_end_array.new.self)) (all-before l.invariant.1), l.invariant.4, l.invariant.5)

pub returns-in_err-item-clause-past : goal.returns-in_err-item-clause-past
returns-in_err-item-clause-past g c =
    let l = c.items in
    let going : (after_end_array l.self.reader ≡ None) × (c.take_end_array.new.self ≡ l.self.reader) = grind arith in
    let past = c.in_err-item.ensures.past in
    (left_of_rest c.args.self.now.reader l.self.reader _ l.invariant.6 (rw (← going.1) past.0), omega (arith, past.1, l.invariant.4))

pub returns-clause-past : goal.returns-clause-past
returns-clause-past g c =
    let l = c.items in
    let r = c.take_end_array.new.self in
    (left_of_rest c.args.self.now.reader l.self.reader r l.invariant.6 (left_after_end l.self.reader r (grind arith)), omega arith)
