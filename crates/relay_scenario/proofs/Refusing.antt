-- What is not a line of a script.
use Rattle.std.proofs.Common.{◌≡◌, ◌≢◌, ℕ, ◌<◌, ◌^◌, List, None, Some, Result, Ok, Err, IfErr, codes, true, false, not, refl, ap, sym, ◌∙◌, subst, arith, inl, inr, ⊎_elim, unwrap_or, bytes_eq}
use Rattle.std.proofs.lemmas.Slice.Eq.{bytes_eq-Decides}
use Rattle.relay_action.specs.Faults.{key_fault, source_fault}
use Rattle.relay_action.specs.declared.fault.ActionFault.{ActionFault}
use Rattle.relay_action.specs.declared.fault.ActionFault.TheVariants as action
use Rattle.relay_action.specs.declared.key.DocKey.{DocKey}
use Rattle.relay_action.specs.declared.action.Source.{Source}
use Rattle.relay_action.specs.declared.action.Action.{Action}
use Rattle.relay_action.specs.declared.action.Action.TheVariants.{Index, Delete}
use Rattle.relay_world.specs.declared.event.Event.{Event}
use Rattle.relay_world.specs.declared.event.Event.TheVariants as event
use Rattle.relay_core.specs.Limits.{is_valid}
use Rattle.relay_core.specs.declared.config.RelayConfig.{RelayConfig}
use Rattle.relay_ndjson.proofs.Deciding.{key_none}
use Rattle.relay_results.proofs.Same.{bytes_eq-self}
use Rattle.relay_results.proofs.Lists.{true_or_false}
use Rattle.relay_scenario.specs.Words.{Begins, IsWord}
use Rattle.relay_words.specs.Numbers.{IsNumber}
use Rattle.relay_scenario.specs.Numbers.{AreNumbers}
use Rattle.relay_scenario.specs.Config.{IsConfigLine, config_of}
use Rattle.relay_scenario.specs.Events.{AsksFor, IsActionFault, IsKey, IsKeyFault, IsLineFault, IsNumberedFault, IsPut, IsPutFault, Puts, event_of, fault_of}
use Rattle.relay_scenario.specs.declared.event_line.LineFault.{LineFault}
use Rattle.relay_scenario.specs.declared.event_line.LineFault.TheVariants as fault
use Rattle.relay_scenario.proofs.Cutting.{same_cut, no_cut}
use Rattle.relay_scenario.proofs.Counting.{same_numbers}

-- two texts that a test distinguishes
pub differ : (a b : List ℕ) → false ≡ bytes_eq a b → a ≢ b
differ a b e s = let h : bytes_eq a b ≡ true = rw s (bytes_eq-self b) in cc

pub differ_not : (a b : List ℕ) → true ≡ not (bytes_eq a b) → a ≢ b
differ_not a b e s = let h : bytes_eq a b ≡ true = rw s (bytes_eq-self b) in let n : true ≡ not true = rw h at e in cc

-- and two that it does not
pub same_not : (a b : List ℕ) → false ≡ not (bytes_eq a b) → a ≡ b
same_not a b e = ⊎_elim {C = a ≡ b} (λ t. (bytes_eq-Decides a b).0 t) (λ f. let n : false ≡ not false = rw f at e in cc) (true_or_false (bytes_eq a b))

no_bad : fault.Bad ≡ fault.Memory → ⊥
no_bad e = cc

-- ---- documents

pub no_id : (text index rest : List ℕ) → Begins text index rest → IsWord rest → (key : DocKey) (more : List ℕ) → IsKey text key more → ⊥
no_id text index rest b w key more h =
    let same = same_cut text index key.index rest h.middle b h.index in
    no_cut h.middle key.id more (subst (λ (t : List ℕ). IsWord t) same.1 w) h.id

-- two words of a document can only fail because of an allocation
memory_alone : (index id : List ℕ) (key : DocKey) (e : ActionFault) → index ≡ key.index → id ≡ key.id → e ≡ unwrap_or (key_fault index id) action.Memory → fault_of e ≡ fault.Memory
memory_alone index id key e i d f =
    let none : key_fault index id ≡ None = rw (i, d) (key_none key.index key.id key.index_ok key.id_ok) in
    ap fault_of (f ∙ ap (λ o. unwrap_or o action.Memory) none)

key_at_fault : (text : List ℕ) (e : LineFault) → ((key : DocKey) (more : List ℕ) → IsKey text key more → e ≡ fault.Memory) → IsKeyFault text e
key_at_fault text fault.Bad h = λ key more k. no_bad (h key more k)
key_at_fault text fault.Memory h = tt

pub no_key : (text index id middle rest : List ℕ) (e : ActionFault) → Begins text index middle → Begins middle id rest → e ≡ unwrap_or (key_fault index id) action.Memory → IsKeyFault text (fault_of e)
no_key text index id middle rest e b d f =
    key_at_fault text (fault_of e)
    (λ key more k.
    let one = same_cut text index key.index middle k.middle b k.index in
    let two = same_cut middle id key.id rest more d (subst (λ (t : List ℕ). Begins t key.id more) (sym one.1) k.id) in
    memory_alone index id key e one.0 two.0 f)

-- ---- actions

pub other_action : (text word source : List ℕ) → Begins text word source → word ≢ codes "index" → (a : Action) → AsksFor text a → ⊥
other_action text word source b ne (Index s) h = ne (same_cut text word (codes "index") source s.text b h).0
other_action text word source b ne Delete h = no_cut text word source (subst (λ (t : List ℕ). IsWord t) (sym h) refl) b

source_none : (s : Source) → source_fault s.text ≡ None
source_none s = let a = s.length_ok in let b = s.line_ok in grind (arith, a.0, a.1, b)

action_at_fault : (text : List ℕ) (e : LineFault) → ((a : Action) → AsksFor text a → e ≡ fault.Memory) → IsActionFault text e
action_at_fault text fault.Bad h = λ a k. no_bad (h a k)
action_at_fault text fault.Memory h = tt

memory_of : (text source : List ℕ) (e : ActionFault) → Begins text (codes "index") source → e ≡ unwrap_or (source_fault source) action.Memory → (a : Action) → AsksFor text a → fault_of e ≡ fault.Memory
memory_of text source e b f (Index s) h =
    let same = same_cut text (codes "index") (codes "index") source s.text b h in
    let none : source_fault source ≡ None = rw same.1 (source_none s) in
    ap fault_of (f ∙ ap (λ o. unwrap_or o action.Memory) none)
memory_of text source e b f Delete h = absurd (no_cut text (codes "index") source (subst (λ (t : List ℕ). IsWord t) (sym h) refl) b)

pub no_source : (text source : List ℕ) (e : ActionFault) → Begins text (codes "index") source → e ≡ unwrap_or (source_fault source) action.Memory → IsActionFault text (fault_of e)
no_source text source e b f = action_at_fault text (fault_of e) (memory_of text source e b f)

-- a word asks only for a deletion
pub word_action : (text : List ℕ) → IsWord text → text ≢ codes "delete" → (a : Action) → AsksFor text a → ⊥
word_action text w ne (Index s) h = no_cut text (codes "index") s.text w h
word_action text w ne Delete h = ne h

-- ---- puts

no_put_by : (text : List ℕ) → ((p : ℕ) (key : DocKey) (a : Action) → IsPut text p key a → ⊥) → (e : Event) → Puts text e → ⊥
no_put_by text f (event.Put p key a) h = f p key a h
no_put_by text f (event.Close p l) h = h
no_put_by text f (event.Tick l) h = h
no_put_by text f (event.Flush l) h = h
no_put_by text f (event.Take l) h = h
no_put_by text f (event.Send l) h = h
no_put_by text f (event.Run r i c) h = h
no_put_by text f (event.Reply r picks) h = h
no_put_by text f (event.Whole r s) h = h
no_put_by text f (event.Lost r) h = h
no_put_by text f (event.Restart e) h = h

pub no_producer : (text word rest : List ℕ) → Begins text word rest → ((n : ℕ) → IsNumber word n → n < 2 ^ 32 → ⊥) → (e : Event) → Puts text e → ⊥
no_producer text word rest b bad =
    no_put_by text
    (λ p key a h.
    let same = same_cut text word h.word rest h.after_word b h.begins in
    bad p (subst (λ (t : List ℕ). IsNumber t p) (sym same.0) h.number) h.small)

pub no_document : (text word rest : List ℕ) (e : LineFault) → Begins text word rest → IsKeyFault rest e → IsPutFault text e
no_document text word rest fault.Bad b bad =
    no_put_by text
    (λ p key a h.
    let same = same_cut text word h.word rest h.after_word b h.begins in
    bad key h.after_key (subst (λ (t : List ℕ). IsKey t key h.after_key) (sym same.1) h.document))
no_document text word rest fault.Memory b bad = tt

pub no_action : (text word rest : List ℕ) (key : DocKey) (left : List ℕ) (e : LineFault) → Begins text word rest → IsKey rest key left → IsActionFault left e → IsPutFault text e
no_action text word rest key left fault.Bad b k bad =
    no_put_by text
    (λ p other a h.
    let same = same_cut text word h.word rest h.after_word b h.begins in
    let d = subst (λ (t : List ℕ). IsKey t other h.after_key) (sym same.1) h.document in
    let one = same_cut rest key.index other.index k.middle d.middle k.index d.index in
    let two = same_cut k.middle key.id other.id left h.after_key k.id (subst (λ (t : List ℕ). Begins t other.id h.after_key) (sym one.1) d.id) in
    bad a (subst (λ (t : List ℕ). AsksFor t a) (sym two.1) h.asks))
no_action text word rest key left fault.Memory b k bad = tt

-- ---- events

pub no_event : (word rest : List ℕ) (found : List ℕ) → AreNumbers rest found → None ≡ event_of word found → (ns : List ℕ) (e : Event) → AreNumbers rest ns → event_of word ns ≡ Some e → ⊥
no_event word rest found h none ns e k s =
    let same = same_numbers rest found ns h k in
    let both : None ≡ Some e = none ∙ ap (event_of word) same ∙ s in cc

puts_no_number : (ns : List ℕ) → event_of (codes "put") ns ≡ None
puts_no_number ns = refl

pub line_at_fault : (line word rest : List ℕ) (e : LineFault) → Begins line word rest → word ≢ codes "put" → IsNumberedFault word rest e → IsLineFault line e
line_at_fault line word rest fault.Bad b ne bad = λ e h.
    let same = same_cut line word h.word rest h.rest b h.begins in
    elim h.follows [
      | inl p ↦ ne (same.0 ∙ p.0)
      | inr n ↦ bad n.0 e (subst (λ (t : List ℕ). AreNumbers t n.0) (sym same.1) n.1) (rw same.0 n.2)
    ]
line_at_fault line word rest fault.Memory b ne bad = tt

pub put_at_fault : (line word rest : List ℕ) (e : LineFault) → Begins line word rest → word ≡ codes "put" → IsPutFault rest e → IsLineFault line e
put_at_fault line word rest fault.Bad b is bad = λ e h.
    let same = same_cut line word h.word rest h.rest b h.begins in
    elim h.follows [
      | inl p ↦ bad e (subst (λ (t : List ℕ). Puts t e) (sym same.1) p.1)
      | inr n ↦ let none : event_of h.word n.0 ≡ None = rw (sym same.0 ∙ is) (puts_no_number n.0) in let both = n.2 in cc
    ]
put_at_fault line word rest fault.Memory b is bad = tt

pub numbered_at_fault : (line word rest : List ℕ) (r : Result Event LineFault) → Begins line word rest → word ≢ codes "put" → IfErr r (IsNumberedFault word rest) → IfErr r (IsLineFault line)
numbered_at_fault line word rest (Ok e) b ne h = tt
numbered_at_fault line word rest (Err e) b ne h = line_at_fault line word rest e b ne h

-- ---- the config

pub no_world : (line word rest : List ℕ) → Begins line word rest → word ≢ codes "world" → (config : RelayConfig) → IsConfigLine line config → ⊥
no_world line word rest b ne config h = ne (same_cut line word (codes "world") rest h.rest b h.begins).0

pub no_config : (line word rest found : List ℕ) → Begins line word rest → AreNumbers rest found → ((c : RelayConfig) → config_of found ≡ Some c → is_valid c ≡ true → ⊥) → (config : RelayConfig) → IsConfigLine line config → ⊥
no_config line word rest found b are bad config h =
    let same = same_cut line word (codes "world") rest h.rest b h.begins in
    let numbers = same_numbers rest found h.numbers are (subst (λ (t : List ℕ). AreNumbers t h.numbers) (sym same.1) h.are) in
    bad config (ap config_of numbers ∙ h.of_numbers) h.valid
