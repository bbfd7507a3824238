-- Versions below the next one stay below it, and the one that is out stays out.
use Rattle.std.proofs.Common.{◌≡◌, ℕ, ◌+◌, ◌<◌, List, [], ◌∷◌, Option, Some, None, Bool, false, refl, sym, subst, ⊎_elim, arith, eqb}
use Rattle.std.specs.Prelude.{filter, not, slice_get, MatchOption}
use Rattle.std.proofs.lemmas.Bool.{cases_Bool, eqb-false}
use Rattle.relay_delay.specs.declared.entry.Entry.{Entry}
use Rattle.relay_delay.specs.Waiting.{Delays, has_version, insert, without, is_due, due_entries}
use Rattle.relay_delay.proofs.Sorting.{by_place, fresh_insert, fresh_cons}
use Rattle.relay_holding_tests.specs.DelayDesk.{AllUnder, IsApart}

pub under_none : (next : ℕ) (d : Delays) (clock room : ℕ) → d ≡ record { clock = clock; room = room; entries = [] } → AllUnder next d.entries
under_none next d clock room e = subst (λ (s : Delays). AllUnder next s.entries) (sym e) tt

pub under_insert : (next : ℕ) (x : Entry) (es : List Entry) → x.version < next → AllUnder next es → AllUnder next (insert x es)
under_insert next x [] lt a = (lt, tt)
under_insert next x (e ∷ es) lt a = by_place (AllUnder next) x e es (λ u. (lt, a)) (λ u. (a.0, under_insert next x es lt a.1))

pub under_more : (next : ℕ) (es : List Entry) → AllUnder next es → AllUnder (next + 1) es
under_more next [] a = tt
under_more next (e ∷ es) a = (let lt = a.0 in omega (arith, lt), under_more next es a.1)

pub under_fresh : (next : ℕ) (es : List Entry) → AllUnder next es → has_version next es ≡ false
under_fresh next [] a = refl
under_fresh next (e ∷ es) a = let lt = a.0 in fresh_cons next e es (λ q. omega (arith, lt, q)) (under_fresh next es a.1)

under_filter : (p : Entry → Bool) (next : ℕ) (es : List Entry) → AllUnder next es → AllUnder next (filter p es)
under_filter p next [] a = tt
under_filter p next (e ∷ es) a = ⊎_elim {C = AllUnder next (filter p (e ∷ es))} (λ t. rw t (a.0, under_filter p next es a.1)) (λ f. rw f (under_filter p next es a.1)) (cases_Bool (p e))

gone : (v : ℕ) (es : List Entry) → has_version v (without v es) ≡ false
gone v [] = refl
gone v (e ∷ es) = ⊎_elim {C = has_version v (without v (e ∷ es)) ≡ false}
    (λ t. rw t (gone v es))
    (λ f. rw f (fresh_cons v e (without v es) (eqb-false e.version v f) (gone v es)))
    (cases_Bool (eqb e.version v))

under_first : (next : ℕ) (es : List Entry) (x : Entry) → AllUnder next es → slice_get es 0 ≡ Some x → x.version < next
under_first next [] x a e = absurd (cc)
under_first next (y ∷ ys) x a e = let is : y ≡ x = cc in subst (λ (z : Entry). z.version < next) is a.0

pub apart_insert : (next : ℕ) (out : Option Entry) (x : Entry) (es : List Entry) → x.version ≡ next → IsApart next out es → IsApart (next + 1) out (insert x es)
apart_insert next None x es e a = tt
apart_insert next (Some y) x es e a = let lt = a.0 in (omega (arith, lt), fresh_insert y.version x es (fresh_cons y.version x es (λ q. omega (arith, lt, e, q)) a.1))

pub under_taken : (next : ℕ) (o : Option Entry) (old new : Delays) → MatchOption o (new ≡ old) (λ e. new ≡ record old { entries = without e.version old.entries }) → AllUnder next old.entries → AllUnder next new.entries
under_taken next None old new m a = subst (λ (s : Delays). AllUnder next s.entries) (sym m) a
under_taken next (Some x) old new m a = subst (λ (s : Delays). AllUnder next s.entries) (sym m) (under_filter (λ (e : Entry). not (eqb e.version x.version)) next old.entries a)

pub apart_taken : (next : ℕ) (o : Option Entry) (old new : Delays) → o ≡ slice_get (due_entries old) 0 → MatchOption o (new ≡ old) (λ e. new ≡ record old { entries = without e.version old.entries }) → AllUnder next old.entries → IsApart next o new.entries
apart_taken next None old new first m a = tt
apart_taken next (Some x) old new first m a = (
  under_first next (due_entries old) x (under_filter (is_due old.clock) next old.entries a) (sym first),
  subst (λ (s : Delays). has_version x.version s.entries ≡ false) (sym m) (gone x.version old.entries),
)

pub apart_out : (next : ℕ) (out : Option Entry) (x : Entry) (es : List Entry) → out ≡ Some x → IsApart next out es → (x.version < next) × (has_version x.version es ≡ false)
apart_out next out x es e a = subst (λ o. IsApart next o es) e a
