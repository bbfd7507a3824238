-- Operations that are taken with their lines.
use Rattle.std.proofs.Common.{◌≡◌, ℕ, ◌+◌, List, ◌++◌, true, Option, Ok, refl, sym, ap, ◌∙◌, subst, arith}
use Rattle.relay_action.specs.declared.action.ActionKind.TheVariants as action
use Rattle.relay_action.specs.declared.action.Action.{Action}
use Rattle.relay_action.specs.declared.action.Action.TheVariants.{Index, Delete}
use Rattle.relay_action.specs.declared.key.DocKey.{DocKey}
use Rattle.relay_ndjson.specs.declared.lines.LineEnd.{LineEnd}
use Rattle.relay_ndjson.specs.LineReading.{TakesBytes}
use Rattle.relay_ndjson.specs.Metadata.{Says}
use Rattle.relay_ndjson.specs.OperationLines.{SkipsTo, TakesSourceLine}
use Rattle.relay_ndjson.specs.Operations.{Position, TakesAction, TakesOperation}
use Rattle.relay_ndjson.proofs.Taking.{text_of}
use Rattle.relay_report.specs.Operations.{HasLines, TakesLines, whole_line}
use Rattle.relay_report.specs.Steps.{Reads}

-- the lines are those of the operation
action_of : (default old new : Option (List ℕ)) (key : DocKey) (a : Action) (lines : List ℕ) → HasLines default old new key a lines → TakesAction default old new key a
action_of default old new key (Index source) lines h =
    (h.0, h.1, text_of old h.1 h.0 h.2 h.4, h.5, text_of h.1 new source.text h.3 h.6)
action_of default old new key Delete lines h = (h.0, text_of old new h.0 h.1 h.2, h.3)

pub operation_of : (default old new : Option (List ℕ)) (count : ℕ) (lines : List ℕ) (t : TakesLines default old new count lines) → TakesOperation default old new t.blank t.op
operation_of default old new count lines t = (t.front, t.few, t.skipped, action_of default t.front new t.op.0 t.op.1 lines t.own)

pub delete_taken : (default : Option (List ℕ)) (old new : Position) (text lines : List ℕ) (end : LineEnd) (key : DocKey) → SkipsTo old new text end → Says default text action.Delete key.index key.id → lines ≡ whole_line text end → Reads default old new lines (Ok true)
delete_taken default old new text lines end key s says e = (
  s.0 + 1,
  record { blank = s.0; front = s.1; op = (key, Delete); few = s.2; skipped = s.3; own = (text, end, s.4, says, e); count_is = refl },
  omega (arith, s.6),
)

pub index_taken : (default : Option (List ℕ)) (old mid new : Position) (text next before lines : List ℕ) (end last : LineEnd) (key : DocKey) (a : Action) → SkipsTo old mid text end → Says default text action.Index key.index key.id → before ≡ whole_line text end → TakesSourceLine mid new next last (Ok a) → lines ≡ before ++ whole_line next last → Reads default old new lines (Ok true)
index_taken default old mid new text next before lines end last key (Index source) s says b t e =
    let line = subst (λ (x : List ℕ). TakesBytes mid.ahead new.ahead x last) (sym t.1) t.0 in
    let both = subst (λ (x : List ℕ). lines ≡ whole_line text end ++ whole_line x last) (sym t.1) (e ∙ ap (λ x. x ++ whole_line next last) b) in (
      s.0 + 2,
      record { blank = s.0; front = s.1; op = (key, Index source); few = s.2; skipped = s.3; own = (text, mid.ahead, end, last, s.4, says, line, both); count_is = refl },
      omega (arith, s.6, t.2),
    )
index_taken default old mid new text next before lines end last key Delete s says b t e = absurd t.1
