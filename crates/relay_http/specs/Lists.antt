-- The remaining elements of an iterator over a value.
use Rattle.std.specs.Prelude.{ℕ, List, [], Option, Some, None}
use Rattle.std.specs.Borrow.{Bor}
use Rattle.relay_http.specs.Fields.{elements}
use Rattle.relay_http.specs.declared.elements.Elements.{Elements}

-- the elements of the rest, if there is one
abbrev pub elements_of_rest : Option (Bor (List ℕ)) → List (List ℕ)
elements_of_rest None = []
elements_of_rest (Some rest) = elements rest.now

-- the elements that are still to come
abbrev pub elements_left : Elements → List (List ℕ)
elements_left it = elements_of_rest it.rest
