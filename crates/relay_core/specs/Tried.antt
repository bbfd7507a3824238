-- For private clauses: the tries of an operation.
use Rattle.relay_results.specs.Fates as fates
use Rattle.relay_core.specs.declared.fates.Tries.{Tries}

abbrev pub tries_of : Tries → fates.Tries
tries_of t = record { version = t.version; sends = t.sends; attempts = t.attempts; max = t.max }
