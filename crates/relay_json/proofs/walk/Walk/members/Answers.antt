use Rattle.std.proofs.Common.{◌≡◌, ◌-◌, Some, None, ◌∙◌, arith}
use Rattle.json.specs.Json.{read_key, value}
use Rattle.json.proofs.Grammar.{read_key-shorter}
use Rattle.serde_json.specs.Data.{put}
use Rattle.relay_json.specs.Walks.{Reads, Refuses}
use Rattle.relay_json.proofs.Rests.{left_of_rest, left_after_key, left_at_stop}
use Rattle.relay_json.proofs.Turns.{member_read, member_refused, key_refused, members_over, read-shorter}
use Rattle.relay_json.proofs.walk.Walk.members.Goals as goal

pub members-smaller : goal.members-smaller
members-smaller g c =
    let l = c.members in
    let k = c.in-Some.name.now in
    let named : read_key l.self.reader ≡ Some (Some k, c.next_key.new.self) = grind arith in
    let less = read_key-shorter l.self.reader (Some k) _ named in
    let read = c.in_ok-member.ensures.ok in
    let lesser = read-shorter _ _ _ _ read.1.1 in
    omega arith

pub members-preserved : goal.members-preserved
members-preserved g c =
    let l = c.members in
    let n = l.invariant.0 in
    let found = l.invariant.1 in
    let k = c.in-Some.name.now in
    let named : read_key l.self.reader ≡ Some (Some k, c.next_key.new.self) = grind arith in
    let less = read_key-shorter l.self.reader (Some k) _ named in
    let read = c.in_ok-member.ensures.ok in
    let d = read.0 in
    let lesser = read-shorter _ _ _ _ read.1.1 in
    let value_read : Reads c.args.self.now.depth c.next_key.new.self d c.member.new.walk.reader = rw (← l.invariant.4) read.1.1 in
    let turn = member_read (value c.args.self.now.depth) found n k l.self.reader c.next_key.new.self _ d (omega (arith, l.invariant.2)) named value_read in
    (n - 1, put k d found, omega (arith, l.invariant.2), l.invariant.3 ∙ turn, read.1.0 ∙ l.invariant.4, read.2 found l.invariant.5, left_of_rest c.args.self.now.reader l.self.reader _ l.invariant.6 (left_of_rest l.self.reader c.next_key.new.self _ (left_after_key l.self.reader (Some k) _ named) c.member.ensures.past.0))

pub returns-in_err-name-clause-not_json : goal.returns-in_err-name-clause-not_json
returns-in_err-name-clause-not_json g c is =
    let l = c.members in
    l.invariant.3 ∙ key_refused (value c.args.self.now.depth) l.invariant.1 l.invariant.0 l.self.reader c.in_err-name.ensures.value

pub returns-in_err-member-clause-not_json : goal.returns-in_err-member-clause-not_json
returns-in_err-member-clause-not_json g c is =
    let l = c.members in
    let k = c.in-Some.name.now in
    let named : read_key l.self.reader ≡ Some (Some k, c.next_key.new.self) = grind arith in
    let none : Refuses c.args.self.now.depth c.next_key.new.self = rw (← l.invariant.4) (c.in_err-member.ensures.not_json (grind arith)) in
    l.invariant.3 ∙ member_refused (value c.args.self.now.depth) l.invariant.1 l.invariant.0 k l.self.reader c.next_key.new.self named none

pub returns-clause-ok : goal.returns-clause-ok
returns-clause-ok g c =
    let l = c.members in
    (l.invariant.1, l.invariant.3 ∙ members_over (value c.args.self.now.depth) l.invariant.1 l.invariant.0 l.self.reader c.next_key.new.self l.invariant.2 (grind arith), l.invariant.4, l.invariant.5)

pub returns-in_err-name-clause-past : goal.returns-in_err-name-clause-past
returns-in_err-name-clause-past g c = (left_at_stop c.args.self.now.reader c.next_key.new.self c.in_err-name.ensures.stops, omega arith)

pub returns-in_err-member-clause-past : goal.returns-in_err-member-clause-past
returns-in_err-member-clause-past g c =
    let l = c.members in
    let k = c.in-Some.name.now in
    let s = c.next_key.new.self in
    let named : read_key l.self.reader ≡ Some (Some k, s) = grind arith in
    let past = c.in_err-member.ensures.past in
    (left_of_rest c.args.self.now.reader l.self.reader _ l.invariant.6 (left_of_rest l.self.reader s _ (left_after_key l.self.reader (Some k) s named) past.0), omega (arith, past.1, l.invariant.4))

pub returns-clause-past : goal.returns-clause-past
returns-clause-past g c =
    let l = c.members in
    let s = c.next_key.new.self in
    (left_of_rest c.args.self.now.reader l.self.reader s l.invariant.6 (left_after_key l.self.reader None s (grind arith)), omega arith)
