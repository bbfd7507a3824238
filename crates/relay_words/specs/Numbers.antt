-- Words that are numbers.
pub use Rattle.relay_results.specs.Numerals.{IsNumber}
