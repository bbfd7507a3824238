use Rattle.std.proofs.Common.{◌≡◌, ◌-◌, [], ◌∷◌, length, Some, None, option_map, ap, ap₂, ◌∙◌, refl, arith}
use Rattle.json.specs.Token.{Token}
use Rattle.json.specs.Json.{parse_map, after_end_array, read_key, items, members, value}
use Rattle.json.specs.Reads.{token_of}
use Rattle.json.proofs.Grammar.{value_is, value-begin_array, value-begin_object, read_key-shorter}
use Rattle.serde_json.specs.Data.{null, boolean, number, string, array, object, item, no_items, no_members, put}
use Rattle.serde_json.specs.Read.{of_json, converted}
use Rattle.relay_json.proofs.Turns.{converted-array, converted-object, item_read, item_refused, items_over, member_read, member_refused, key_refused, members_over, read-shorter}
use Rattle.relay_json.proofs.Rests.{all_left, left_of_rest, left_behind, left_after_end, left_after_key, left_at_stop}
use Rattle.relay_json.specs.Walks.{Refuses}
use Rattle.relay_json.proofs.Rows.{mapped_twice, unmapped}
use Rattle.relay_json.proofs.Results.{if_ok-map, on_err-map}
use Rattle.relay_json.proofs.walk.+pass.Goals as goal

pub pass-returns-in_err-token-clause-err : goal.pass-returns-in_err-token-clause-err
pass-returns-in_err-token-clause-err t c =
    let empty : c.args.reader.now ≡ [] = grind arith in
    let none : Refuses c.args.depth c.args.reader.now = ap (converted of_json) (ap (value c.args.depth) empty ∙ value_is c.args.depth []) in
    grind (arith, none)

pub pass_from-returns-then-depth-eq0-clause-err : goal.pass_from-returns-then-depth-eq0-clause-err
unfolding value
pass_from-returns-then-depth-eq0-clause-err t c =
    let none : c.args.depth ≡ 0 = omega arith in
    ap (converted of_json) (ap₂ value none (ap (λ k. token_of k ∷ c.args.reader.now) c.in-BeginArray.is))

pub pass_from-returns-then-depth-eq0-2-clause-err : goal.pass_from-returns-then-depth-eq0-2-clause-err
unfolding value
pass_from-returns-then-depth-eq0-2-clause-err t c =
    let none : c.args.depth ≡ 0 = omega arith in
    ap (converted of_json) (ap₂ value none (ap (λ k. token_of k ∷ c.args.reader.now) c.in-BeginObject.is))

pub pass_from-returns-in_err-pass_items-in-BeginArray-clause-err : goal.pass_from-returns-in_err-pass_items-in-BeginArray-clause-err
pass_from-returns-in_err-pass_items-in-BeginArray-clause-err t c =
    let ts = c.args.reader.now in
    let opened = ap (converted of_json) (ap (value c.args.depth) (ap (λ k. token_of k ∷ ts) c.in-BeginArray.is) ∙ value-begin_array c.args.depth ts (omega arith)) ∙ converted-array (items (value (c.args.depth - 1)) (length ts) ts) in
    let none = opened ∙ ap (parse_map array) c.in_err-pass_items-in-BeginArray.ensures.err in
    grind (arith, none)

pub pass_from-returns-in_err-pass_members-in-BeginObject-clause-err : goal.pass_from-returns-in_err-pass_members-in-BeginObject-clause-err
pass_from-returns-in_err-pass_members-in-BeginObject-clause-err t c =
    let ts = c.args.reader.now in
    let opened = ap (converted of_json) (ap (value c.args.depth) (ap (λ k. token_of k ∷ ts) c.in-BeginObject.is) ∙ value-begin_object c.args.depth ts (omega arith)) ∙ converted-object (members (value (c.args.depth - 1)) (length ts) ts) in
    let none = opened ∙ ap (parse_map object) c.in_err-pass_members-in-BeginObject.ensures.err in
    grind (arith, none)

pub pass_from-returns-in-String-clause-ok : goal.pass_from-returns-in-String-clause-ok
pass_from-returns-in-String-clause-ok t c =
    let ts = c.args.reader.now in
    (string c.in-String.text.now, ap (converted of_json) (ap (λ k. value c.args.depth (token_of k ∷ ts)) c.in-String.is ∙ value_is c.args.depth _), refl)

pub pass_from-returns-in-Bool-clause-ok : goal.pass_from-returns-in-Bool-clause-ok
pass_from-returns-in-Bool-clause-ok t c =
    let ts = c.args.reader.now in
    (boolean c.in-Bool.truth, ap (converted of_json) (ap (λ k. value c.args.depth (token_of k ∷ ts)) c.in-Bool.is ∙ value_is c.args.depth _), refl)

pub pass_from-returns-in-Null-clause-ok : goal.pass_from-returns-in-Null-clause-ok
pass_from-returns-in-Null-clause-ok t c =
    let ts = c.args.reader.now in
    (null, ap (converted of_json) (ap (λ k. value c.args.depth (token_of k ∷ ts)) c.in-Null.is ∙ value_is c.args.depth _), refl)

pub pass_from-returns-in-Number-clause-ok : goal.pass_from-returns-in-Number-clause-ok
pass_from-returns-in-Number-clause-ok t c =
    let ts = c.args.reader.now in
    let s = c.in-Number.text.now in
    let reads = ap (converted of_json) (ap (λ k. value c.args.depth (token_of k ∷ ts)) c.in-Number.is ∙ value_is c.args.depth (Token.number s ∷ ts)) in
    if_ok-map c.number.result (λ leaf n. (number n.0, reads ∙ ap (λ o. option_map (λ d. (d, ts)) (option_map number o)) n.1, n.2)) c.number.ensures.ok

pub pass_from-returns-in-Number-clause-err : goal.pass_from-returns-in-Number-clause-err
pass_from-returns-in-Number-clause-err t c =
    let ts = c.args.reader.now in
    let s = c.in-Number.text.now in
    let reads = ap (converted of_json) (ap (λ k. value c.args.depth (token_of k ∷ ts)) c.in-Number.is ∙ value_is c.args.depth (Token.number s ∷ ts)) in
    on_err-map c.number.result (λ none. reads ∙ ap (λ o. option_map (λ d. (d, ts)) (option_map number o)) none) c.number.ensures.err

pub pass_from-returns-in-EndObject-clause-err : goal.pass_from-returns-in-EndObject-clause-err
pass_from-returns-in-EndObject-clause-err t c =
    let none : value c.args.depth (token_of c.args.token ∷ c.args.reader.now) ≡ None = rw (value_is c.args.depth (token_of c.args.token ∷ c.args.reader.now)) (grind arith) in
    ap (converted of_json) none

pub pass_from-returns-in_ok-pass_items-in-BeginArray-clause-ok : goal.pass_from-returns-in_ok-pass_items-in-BeginArray-clause-ok
pass_from-returns-in_ok-pass_items-in-BeginArray-clause-ok t c =
    let ts = c.args.reader.now in
    let found = c.in_ok-pass_items-in-BeginArray.ensures.ok in
    let opened = ap (converted of_json) (ap (value c.args.depth) (ap (λ k. token_of k ∷ ts) c.in-BeginArray.is) ∙ value-begin_array c.args.depth ts (omega arith)) ∙ converted-array (items (value (c.args.depth - 1)) (length ts) ts) in
    (array found.0, opened ∙ ap (parse_map array) found.1, (found.0, refl))

pub pass_from-returns-in_ok-pass_members-in-BeginObject-clause-ok : goal.pass_from-returns-in_ok-pass_members-in-BeginObject-clause-ok
pass_from-returns-in_ok-pass_members-in-BeginObject-clause-ok t c =
    let ts = c.args.reader.now in
    let found = c.in_ok-pass_members-in-BeginObject.ensures.ok in
    let opened = ap (converted of_json) (ap (value c.args.depth) (ap (λ k. token_of k ∷ ts) c.in-BeginObject.is) ∙ value-begin_object c.args.depth ts (omega arith)) ∙ converted-object (members (value (c.args.depth - 1)) (length ts) ts) in
    (object found.0, opened ∙ ap (parse_map object) found.1, (found.0, refl))

pub pass_items-items-init : goal.pass_items-items-init
pass_items-items-init t c = (length c.args.reader.now, λ ds. ds, omega arith, unmapped _, all_left _)

pub pass_items-items-smaller : goal.pass_items-items-smaller
pass_items-items-smaller t c =
    let l = c.items in
    let going : (after_end_array l.reader ≡ None) × (c.take_end_array.new.self ≡ l.reader) = grind arith in
    let read = c.in_ok-pass.ensures.ok in
    let less = read-shorter c.args.depth _ _ _ read.1 in
    omega (arith, ap length going.1)

pub pass_items-items-preserved : goal.pass_items-items-preserved
pass_items-items-preserved t c =
    let p = value c.args.depth in
    let l = c.items in
    let n = l.invariant.0 in
    let before = l.invariant.1 in
    let going : (after_end_array l.reader ≡ None) × (c.take_end_array.new.self ≡ l.reader) = grind arith in
    let read = c.in_ok-pass.ensures.ok in
    let r = c.pass.new.reader in
    let less = read-shorter c.args.depth _ _ _ read.1 in
    let turn = item_read p n l.reader r read.0 (omega (arith, l.invariant.2, ap length going.1)) going.0 (rw (← going.1) read.1) in
    (n - 1, λ ds. before (item read.0 ds), omega (arith, l.invariant.2, ap length going.1), l.invariant.3 ∙ ap (parse_map before) turn ∙ mapped_twice before (item read.0) _, left_of_rest c.args.reader.now l.reader r l.invariant.4 (rw (← going.1) c.in_ok-pass.ensures.past))

pub pass_items-returns-in_err-pass-clause-err : goal.pass_items-returns-in_err-pass-clause-err
pass_items-returns-in_err-pass-clause-err t c =
    let l = c.items in
    let going : (after_end_array l.reader ≡ None) × (c.take_end_array.new.self ≡ l.reader) = grind arith in
    let none = l.invariant.3 ∙ ap (parse_map l.invariant.1) (item_refused (value c.args.depth) l.invariant.0 l.reader going.0 (rw (← going.1) c.in_err-pass.ensures.err)) in
    grind (arith, none)

pub pass_items-returns-clause-ok : goal.pass_items-returns-clause-ok
pass_items-returns-clause-ok t c =
    let l = c.items in
    let r = c.take_end_array.new.self in
    (l.invariant.1 no_items, l.invariant.3 ∙ ap (parse_map l.invariant.1) (items_over (value c.args.depth) l.invariant.0 l.reader r l.invariant.2 (grind arith)))

pub pass_members-members-init : goal.pass_members-members-init
pass_members-members-init t c = (length c.args.reader.now, no_members, omega arith, refl, all_left _)

pub pass_members-returns-in_err-next_key-clause-err : goal.pass_members-returns-in_err-next_key-clause-err
pass_members-returns-in_err-next_key-clause-err t c =
    let l = c.members in
    let none = l.invariant.3 ∙ key_refused (value c.args.depth) l.invariant.1 l.invariant.0 l.reader c.in_err-next_key.ensures.value in
    grind (arith, none)

pub pass_members-members-smaller : goal.pass_members-members-smaller
pass_members-members-smaller t c =
    let l = c.members in
    let k = c.in-Some.field-0.now in
    let s = c.next_key.new.self in
    let named : read_key l.reader ≡ Some (Some k, s) = grind arith in
    let less = read_key-shorter l.reader (Some k) s named in
    let read = c.in_ok-pass.ensures.ok in
    let lesser = read-shorter c.args.depth _ _ _ read.1 in
    omega arith

pub pass_members-members-preserved : goal.pass_members-members-preserved
pass_members-members-preserved t c =
    let p = value c.args.depth in
    let l = c.members in
    let n = l.invariant.0 in
    let found = l.invariant.1 in
    let k = c.in-Some.field-0.now in
    let s = c.next_key.new.self in
    let named : read_key l.reader ≡ Some (Some k, s) = grind arith in
    let less = read_key-shorter l.reader (Some k) s named in
    let read = c.in_ok-pass.ensures.ok in
    let r = c.pass.new.reader in
    let lesser = read-shorter c.args.depth _ _ _ read.1 in
    (n - 1, put k read.0 found, omega (arith, l.invariant.2), l.invariant.3 ∙ member_read p found n k l.reader s r read.0 (omega (arith, l.invariant.2)) named read.1, left_of_rest c.args.reader.now l.reader r l.invariant.4 (left_of_rest l.reader s r (left_after_key l.reader (Some k) s named) c.in_ok-pass.ensures.past))

pub pass_members-returns-in_err-pass-clause-err : goal.pass_members-returns-in_err-pass-clause-err
pass_members-returns-in_err-pass-clause-err t c =
    let l = c.members in
    let k = c.in-Some.field-0.now in
    let s = c.next_key.new.self in
    let named : read_key l.reader ≡ Some (Some k, s) = grind arith in
    let none = l.invariant.3 ∙ member_refused (value c.args.depth) l.invariant.1 l.invariant.0 k l.reader s named c.in_err-pass.ensures.err in
    grind (arith, none)

pub pass_members-returns-clause-ok : goal.pass_members-returns-clause-ok
pass_members-returns-clause-ok t c =
    let l = c.members in
    (l.invariant.1, l.invariant.3 ∙ members_over (value c.args.depth) l.invariant.1 l.invariant.0 l.reader c.next_key.new.self l.invariant.2 (grind arith))

pub pass-returns-clause-past : goal.pass-returns-clause-past
pass-returns-clause-past t c =
    let ts = c.next.new.self in
    let first : c.args.reader.now ≡ token_of c.in_ok-token.token ∷ ts = grind arith in
    left_behind _ c.args.reader.now ts c.pass_from.new.reader first c.pass_from.ensures.past

pub pass_items-returns-in_err-pass-clause-past : goal.pass_items-returns-in_err-pass-clause-past
pass_items-returns-in_err-pass-clause-past t c =
    let l = c.items in
    let going : (after_end_array l.reader ≡ None) × (c.take_end_array.new.self ≡ l.reader) = grind arith in
    left_of_rest c.args.reader.now l.reader c.pass.new.reader l.invariant.4 (rw (← going.1) c.in_err-pass.ensures.past)

pub pass_items-returns-clause-past : goal.pass_items-returns-clause-past
pass_items-returns-clause-past t c =
    let l = c.items in
    let r = c.take_end_array.new.self in
    left_of_rest c.args.reader.now l.reader r l.invariant.4 (left_after_end l.reader r (grind arith))

pub pass_members-returns-in_err-next_key-clause-past : goal.pass_members-returns-in_err-next_key-clause-past
pass_members-returns-in_err-next_key-clause-past t c = left_at_stop c.args.reader.now c.next_key.new.self c.in_err-next_key.ensures.stops

pub pass_members-returns-in_err-pass-clause-past : goal.pass_members-returns-in_err-pass-clause-past
pass_members-returns-in_err-pass-clause-past t c =
    let l = c.members in
    let k = c.in-Some.field-0.now in
    let s = c.next_key.new.self in
    let named : read_key l.reader ≡ Some (Some k, s) = grind arith in
    left_of_rest c.args.reader.now l.reader c.pass.new.reader l.invariant.4 (left_of_rest l.reader s c.pass.new.reader (left_after_key l.reader (Some k) s named) c.in_err-pass.ensures.past)

pub pass_members-returns-clause-past : goal.pass_members-returns-clause-past
pass_members-returns-clause-past t c =
    let l = c.members in
    let s = c.next_key.new.self in
    left_of_rest c.args.reader.now l.reader s l.invariant.4 (left_after_key l.reader None s (grind arith))
