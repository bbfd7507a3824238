-- The operations that a report names, line by line.
use Rattle.std.proofs.Common.{◌≡◌, ℕ, ◌+◌, List, [], ◌∷◌, ◌++◌, length, Option, Err, refl, subst, arith, inl, inr}
use Rattle.relay_ndjson.specs.Operations.{saturating_count}
use Rattle.relay_ndjson.specs.LineReading.{TakesNext}
use Rattle.relay_ndjson.specs.declared.kind.InputFault.{InputFault}
use Rattle.relay_report.specs.declared.names.Named.{Named}
use Rattle.relay_report.specs.declared.names.ReportFault.{ReportFault}
use Rattle.relay_report.specs.declared.names.ReportFault.TheVariants as fault
use Rattle.relay_report.specs.Names.{NamesNext, ReadsNames, TakesName, TakesNames, line_fault}

-- one more
pub takes_one : (old mid new : Option (List ℕ)) (line : ℕ) (ns : List Named) (n : Named) → TakesNames old mid line ns → TakesName mid new (saturating_count (line + length ns + 1)) n → TakesNames old new line (ns ++ n ∷ [])
takes_one old mid new line [] n t s =
    (new, subst (λ (o : Option (List ℕ)). TakesName o new (saturating_count (line + 1)) n) t (let e : line + 0 + 1 ≡ line + 1 = omega arith in subst (λ (k : ℕ). TakesName mid new (saturating_count k) n) e s), refl)
takes_one old mid new line (m ∷ ms) n t s =
    let e : line + length (m ∷ ms) + 1 ≡ line + 1 + length ms + 1 = omega arith in
    (t.0, t.1, takes_one t.0 mid new (line + 1) ms n t.2 (subst (λ (k : ℕ). TakesName mid new (saturating_count k) n) e s))

-- why there is no next line
pub no_line : (old new : Option (List ℕ)) (count after : ℕ) (text : List ℕ) (e : InputFault) → TakesNext old new count after text (Err e) → NamesNext old new count after (Err (line_fault e))
no_line old new count after text e (l, inl r) = rw r tt
no_line old new count after text e (l, inr (inl m)) = rw m tt
no_line old new count after text e (l, inr (inr f)) = rw f.0 (inl f.1, l)

-- why there are no more
pub ends_by : (old rest new : Option (List ℕ)) (count after : ℕ) (ns : List Named) (e : ReportFault) → TakesNames old rest 0 ns → count ≡ saturating_count (length ns) → NamesNext rest new count after (Err e) → ReadsNames {U = Unit {0}} old ns (Err e)
ends_by old rest new count after ns (fault.BadLine line) t c n =
    record { rest = rest; taken = t; ends = (n.0, let l = n.1 in omega (arith, l, c)) }
ends_by old rest new count after ns fault.Read t c n = record { rest = rest; taken = t; ends = tt }
ends_by old rest new count after ns fault.Memory t c n = record { rest = rest; taken = t; ends = tt }
