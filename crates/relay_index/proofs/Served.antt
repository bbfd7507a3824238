-- Writes that are run one after another.
use Rattle.std.proofs.Common.{◌≡◌, ℕ, ◌≤◌, List, [], ◌∷◌, ◌++◌, Bool, true, false, refl, ap, subst, arith}
use Rattle.relay_action.specs.Actions.{kind_of}
use Rattle.relay_action.specs.declared.action.ActionKind.{ActionKind}
use Rattle.relay_action.specs.declared.action.ActionKind.TheVariants as kind
use Rattle.relay_action.specs.declared.write.Write.{Write}
use Rattle.relay_results.specs.declared.done.ItemDone.{ItemDone}
use Rattle.relay_results.specs.Documents.{document_of}
use Rattle.relay_results.specs.Done.{HaveStatuses, IsStatable, AreStatable}
use Rattle.relay_index.specs.declared.choice.Choice.{Choice}
use Rattle.relay_index.specs.declared.choice.Choice.TheVariants.{Run, Refuse}
use Rattle.relay_index.specs.Choices.{MayChoose}
use Rattle.relay_index.specs.States.{State, is_live}
use Rattle.relay_index.specs.Runs.{is_newer, applied_result, status_of, status_by, RunsOne}
use Rattle.relay_index.specs.Plans.{choice_at, after_item}
use Rattle.relay_index.specs.Serving.{Server, under, RunsAll}
use Rattle.relay_index.proofs.Repeated.{scripts_may}

-- ---- one more write

pub RunsAll-push : (old : Server) (ws : List Write) (items : List ItemDone) (mid : Server) (w : Write) (item : ItemDone) (new : State)
    → RunsAll old ws items mid → RunsOne mid.index w (choice_at mid.script) item new
    → RunsAll old (ws ++ w ∷ []) (items ++ item ∷ []) (under new (after_item mid.script))
RunsAll-push old [] items mid w item new h run =
    (item, [], new, subst (λ (s : Server). RunsOne s.index w (choice_at s.script) item new) h.1 run, (refl, ap (λ (s : Server). under new (after_item s.script)) h.1), ap (λ l. l ++ item ∷ []) h.0)
RunsAll-push old (x ∷ xs) items mid w item new h run =
    (h.0, h.1 ++ item ∷ [], h.2, h.3, RunsAll-push (under h.2 (after_item old.script)) xs h.1 mid w item new h.4 run, ap (λ l. l ++ item ∷ []) h.5)

-- ---- the statuses

-- a status that an entry of a reply may have
abbrev IsStatus : ℕ → Type 0
IsStatus status = (100 ≤ status) × (status ≤ 599)

applied_status : (k : ActionKind) (live : Bool) → IsStatus (status_of (applied_result k live))
applied_status kind.Index true = (omega arith, omega arith)
applied_status kind.Index false = (omega arith, omega arith)
applied_status kind.Delete true = (omega arith, omega arith)
applied_status kind.Delete false = (omega arith, omega arith)

run_status : (s : State) (w : Write) (choice : Choice) → MayChoose choice → IsStatus (status_by s w choice)
run_status s w (Refuse status) may = let least = may.least in (omega arith, may.most)
run_status s w Run may = by (is_newer s w) refl
  where
    by : (b : Bool) → is_newer s w ≡ b → IsStatus (status_by s w Run)
    by true e = rw e (applied_status (kind_of w.action) (is_live s (document_of w.key)))
    by false e = rw e (omega arith, omega arith)

pub HaveStatuses-RunsAll : (old : Server) (ws : List Write) (items : List ItemDone) (new : Server)
    → RunsAll old ws items new → HaveStatuses items
HaveStatuses-RunsAll old [] items new h = rw h.0 tt
HaveStatuses-RunsAll old (w ∷ ws) items new h =
    let status = run_status old.index w (choice_at old.script) (scripts_may old.script) in
    let is : h.0.status ≡ status_by old.index w (choice_at old.script) = ap (λ (d : ItemDone). d.status) h.3.item_of in
    rw h.5 (rw is status.0, rw is status.1, HaveStatuses-RunsAll (under h.2 (after_item old.script)) ws h.1 new h.4)

-- one more item
pub AreStatable-push : (items : List ItemDone) (d : ItemDone) → AreStatable items → IsStatable d.conflict → AreStatable (items ++ d ∷ [])
AreStatable-push [] d h s = (s, tt)
AreStatable-push (x ∷ items) d h s = (h.0, AreStatable-push items d h.1 s)
