use Rattle.std.proofs.Common.{◌≡◌, [], ◌∷◌, refl, ap, ap₂, sym, subst, ◌∙◌, arith}
use Rattle.json.specs.Json.{value}
use Rattle.json.specs.Reads.{token_of}
use Rattle.json.proofs.Grammar.{value_is}
use Rattle.serde_json.specs.Read.{of_json, converted}
use Rattle.relay_json.specs.Walks.{IsRefused, NumberStands}
use Rattle.relay_json.proofs.Leaves.{no_object}
use Rattle.relay_json.proofs.Rests.{left_after, left_behind}
use Rattle.relay_json.proofs.walk.Walk.leaf_or_object.Goals as goal

pub returns-in_err-token-clause-err : goal.returns-in_err-token-clause-err
returns-in_err-token-clause-err c =
    let empty : c.args.self.now.reader ≡ [] = grind arith in
    let refused : IsRefused c.args.self.now = ap (converted of_json) (ap (value c.args.self.now.depth) empty ∙ value_is c.args.self.now.depth []) in
    grind (arith, refused)

pub returns-then-self-eq0-clause-err : goal.returns-then-self-eq0-clause-err
unfolding value
returns-then-self-eq0-clause-err c =
    let first : c.args.self.now.reader ≡ token_of c.in_ok-token.token ∷ c.next.new.self = grind arith in
    let none : c.args.self.now.depth ≡ 0 = omega arith in
    (refl, ap (converted of_json) (ap₂ value none (first ∙ ap (λ k. token_of k ∷ c.next.new.self) c.in-BeginObject.is)))

pub returns : goal.returns
returns c =
    let first : c.args.self.now.reader ≡ token_of c.in_ok-token.token ∷ c.next.new.self = grind arith in
    let passed = c.in_ok-pass_from.ensures in
    record { ok = (passed.ok.0, (refl, ap (λ ts. converted of_json (value c.args.self.now.depth ts)) first ∙ passed.ok.1), no_object c.in_ok-pass_from.field-0 passed.ok.0 (λ is. c.in_default.not-BeginObject (passed.opened.1 is)) passed.ok.2, passed.ok.2); number = subst (λ ts. NumberStands ts c.in_ok-pass_from.field-0 c.pass_from.new.reader) (sym first) passed.number; err = tt; past = (left_behind _ _ _ _ first passed.past, omega arith) }

pub returns-then-self-eq0-clause-past : goal.returns-then-self-eq0-clause-past
returns-then-self-eq0-clause-past c = (left_after (token_of c.in_ok-token.token) _ _ (grind arith), omega arith)

pub returns-in-BeginObject-clause-past : goal.returns-in-BeginObject-clause-past
returns-in-BeginObject-clause-past c = (left_after (token_of c.in_ok-token.token) _ _ (grind arith), omega arith)

pub returns-in_err-pass_from-clause-past : goal.returns-in_err-pass_from-clause-past
returns-in_err-pass_from-clause-past c = (left_behind (token_of c.in_ok-token.token) _ c.next.new.self _ (grind arith) c.in_err-pass_from.ensures.past, omega arith)
