-- Which calls of the streams failed. A failed call is not retried, so at most one of each stream did.
use Rattle.std.specs.Prelude.{◌≡◌, ◌⊎◌, ℕ, Result, Ok, Err, if◌then◌else◌}
use Rattle.relay_action.specs.Streams.{one_more}
use Rattle.relay_ndjson.specs.Lines.{is_read}
use Rattle.relay_commands.specs.declared.lines.LinesFault.{LinesFault}
use Rattle.relay_commands.specs.declared.lines.LinesFault.TheVariants as lines
use Rattle.relay_commands.specs.declared.apply.ApplyFault.{ApplyFault}
use Rattle.relay_commands.specs.declared.apply.ApplyFault.TheVariants as apply

-- no call failed, by the counts of a stream before and after
abbrev pub NoneFails : ℕ → ℕ → Type 0
NoneFails old new = new ≡ old

-- one call failed; counts saturate at 2^64 - 1
abbrev pub OneFails : ℕ → ℕ → Type 0
OneFails old new = new ≡ one_more old

abbrev pub OneAtMost : ℕ → ℕ → Type 0
OneAtMost old new = NoneFails old new ⊎ OneFails old new

-- the number of failed calls of the reader and of the writer, by the result of `lines`
abbrev pub FailsOnce : ℕ → ℕ → ℕ → ℕ → Result ℕ LinesFault → Type 0
FailsOnce old new before after (Ok n) = NoneFails old new × NoneFails before after
FailsOnce old new before after (Err (lines.Input e)) = (new ≡ (if is_read e.kind then one_more old else old)) × NoneFails before after
FailsOnce old new before after (Err (lines.VersionsSpent line)) = NoneFails old new × NoneFails before after
FailsOnce old new before after (Err (lines.Write sent)) = OneAtMost old new × OneFails before after
FailsOnce old new before after (Err lines.Memory) = NoneFails old new × OneAtMost before after

-- the same, by the result of `apply`
abbrev pub FailsOnceInApply : {T : Type 0} → ℕ → ℕ → ℕ → ℕ → Result T ApplyFault → Type 0
FailsOnceInApply old new before after (Ok x) = NoneFails old new × NoneFails before after
FailsOnceInApply old new before after (Err apply.Read) = OneFails old new × NoneFails before after
FailsOnceInApply old new before after (Err (apply.Write sent)) = NoneFails old new × OneFails before after
FailsOnceInApply old new before after (Err other) = NoneFails old new × NoneFails before after
