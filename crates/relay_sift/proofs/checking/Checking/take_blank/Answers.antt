use Rattle.std.proofs.Common.{ap, sym, subst, ◌≡◌, ◌<◌, ◌≤◌, arith, false, Bool, List, [], ℕ, Option, Some, IsTrue}
use Rattle.std.specs.Io.KnownBytes.{IsAtEnd}
use Rattle.relay_action.specs.Streams.{one_more}
use Rattle.relay_ndjson.specs.Operations.{blank_limit}
use Rattle.relay_ndjson.specs.declared.kind.LineKind.TheVariants as kind
use Rattle.relay_sift.specs.Portions.{fault_at}
use Rattle.relay_sift.specs.Listing.{StepsTo, Writes, findings_of, is_empty, with_faults}
use Rattle.relay_sift.proofs.Keeping.{ok_on}
use Rattle.relay_sift.proofs.Listing.{moves_blank, ends_blank, end_within}
use Rattle.relay_sift.proofs.checking.Checking.take_blank.Goals as goal

pub move_on-requires : goal.move_on-requires
move_on-requires g c = end_within _ _ _ _ _ _ _ _ c.requires.front

pub returns-clause-ok : goal.returns-clause-ok
returns-clause-ok g c = λ left over.
    let few = c.if-blank-ge-BLANK_LIMIT.false in
    let low : c.blank_count-blank.result < blank_limit = grind (arith, few) in
    moves_blank left (g.W.ByteStream.written c.args.out.now) c.args.self.now c.move_on.new.self c.args.first c.args.end c.args.count c.args.fault c.blank_count-blank.result over c.requires.front c.requires.blank c.blank_count-blank.ensures low c.move_on.ensures

pub returns-then-blank-ge-BLANK_LIMIT-clause-ok : goal.returns-then-blank-ge-BLANK_LIMIT-clause-ok
returns-then-blank-ge-BLANK_LIMIT-clause-ok g c =
    let w = g.W.ByteStream.written c.args.out.now in
    let x = g.W.ByteStream.written c.list_blank.new.out in
    let s = c.args.self.now in
    let t = c.list_blank.new.self in
    let many = c.if-blank-ge-BLANK_LIMIT.true in
    let is = c.blank_count-blank.ensures in
    let high : blank_limit ≤ s.blank = grind (arith, many, is) in
    ok_on c.list_blank.result
    (λ more. (more ≡ false) × Writes (findings_of [] (Some (fault_at (one_more s.count) kind.LineLong))) w x × (t ≡ with_faults 1 s))
    (λ more. (left : Option (List ℕ)) → (IsTrue s.ended → IsAtEnd left) → StepsTo more left left w x s t)
    (λ more h left over. subst (λ (b : Bool). StepsTo b left left w x s t) (sym h.0) (ends_blank left w x s t c.args.first c.args.end c.args.count c.args.fault over c.requires.front (ap is_empty c.requires.blank) high h.1 h.2)) c.list_blank.ensures.ok
