use Rattle.std.proofs.Common.{rules, ◌≡◌, inl, inr, false}
use Rattle.relay_ndjson.specs.Metadata.{is_field}
use Rattle.relay_sift.proofs.Subjects.{seen_now, seen_before}
use Rattle.relay_sift.proofs.asking.Unknown.see.Goals as goal

pub returns-then-is_field : goal.returns-then-is_field
returns-then-is_field c = λ d ms h. seen_before c.args.self.now c.args.name.now d ms (inr (search rules)) h

pub returns-then-is_none : goal.returns-then-is_none
returns-then-is_none c = λ d ms h.
    let f : is_field c.args.name.now ≡ false = search rules in seen_now c.args.name.now d ms f

pub returns-else-is_none : goal.returns-else-is_none
returns-else-is_none c = λ d ms h. seen_before c.args.self.now c.args.name.now d ms (inl (search rules)) h
