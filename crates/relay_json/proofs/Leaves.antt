-- What is neither an array nor an object.
use Rattle.std.proofs.Common.{◌≡◌, None, refl, ap}
use Rattle.serde_json.specs.Data.{Data}
use Rattle.serde_json.specs.Find.{as_array, as_object}
use Rattle.relay_json.specs.Walks.{IsLeaf}
use Rattle.relay_json.specs.declared.leaf.Leaf.{Leaf}
use Rattle.relay_json.specs.declared.leaf.Leaf.TheVariants as leaf

pub no_object : (l : Leaf) (d : Data) → (l ≡ leaf.Object → ⊥) → IsLeaf l d → as_object d ≡ None
no_object leaf.Null d other is = ap as_object is
no_object (leaf.Bool b) d other is = ap as_object is
no_object (leaf.Number s) d other is = ap as_object is.2
no_object (leaf.String s) d other is = ap as_object is
no_object leaf.Array d other is = ap as_object is.1
no_object leaf.Object d other is = absurd (other refl)

pub no_array : (l : Leaf) (d : Data) → (l ≡ leaf.Array → ⊥) → IsLeaf l d → as_array d ≡ None
no_array leaf.Null d other is = ap as_array is
no_array (leaf.Bool b) d other is = ap as_array is
no_array (leaf.Number s) d other is = ap as_array is.2
no_array (leaf.String s) d other is = ap as_array is
no_array leaf.Array d other is = absurd (other refl)
no_array leaf.Object d other is = ap as_array is.1
