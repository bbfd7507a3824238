-- Items that are passed one after another.
use Rattle.std.proofs.Common.{◌≡◌, List, Option, Some, None, refl, ap}
use Rattle.json.specs.Token.{Token}
use Rattle.json.specs.Json.{parse_map}
use Rattle.serde_json.specs.Data.{Data, Items, no_items, item}
use Rattle.relay_json.specs.Items.{and_item}

-- items, and those after them
abbrev pub before : Items → Items → Items
before no_items rest = rest
before (item d ds) rest = item d (before ds rest)

before-and_item : (ds : Items) (d : Data) (rest : Items) → before ds (item d rest) ≡ before (and_item ds d) rest
before-and_item no_items d rest = refl
before-and_item (item e ds) d rest = ap (item e) (before-and_item ds d rest)

pub one_more_item : (ds : Items) (d : Data) (r : Option (Items × List Token)) → parse_map (before ds) (parse_map (item d) r) ≡ parse_map (before (and_item ds d)) r
one_more_item ds d None = refl
one_more_item ds d (Some p) = ap (λ xs. Some (xs, p.1)) (before-and_item ds d p.0)

pub all-before : (ds : Items) → before ds no_items ≡ ds
all-before no_items = refl
all-before (item d ds) = ap (item d) (all-before ds)

pub mapped_twice : (f g : Items → Items) (r : Option (Items × List Token)) → parse_map f (parse_map g r) ≡ parse_map (λ ds. f (g ds)) r
mapped_twice f g None = refl
mapped_twice f g (Some p) = refl

pub unmapped : (r : Option (Items × List Token)) → r ≡ parse_map (λ ds. ds) r
unmapped None = refl
unmapped (Some p) = refl
