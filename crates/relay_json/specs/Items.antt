-- Items, one after another (RFC 8259, section 5).
use Rattle.serde_json.specs.Data.{Data, Items, no_items, item}

-- one more item at the end
abbrev pub and_item : Items → Data → Items
and_item no_items d = item d no_items
and_item (item e ds) d = item e (and_item ds d)
