use Rattle.std.proofs.Common.{◌≡◌, ◌++◌, ◌||◌, drop}
use Rattle.relay_front.specs.Texts.{have_errors, item_texts, with_commas}
use Rattle.relay_front.proofs.items.add_items.Given as goal

abbrev pub invariant-loop-item : goal.invariant-loop-item
invariant-loop-item l = record {
  errors_are : (l.errors || have_errors (drop l.item-index l.items) l.rest) ≡ have_errors l.items l.ends;
  text_is : l.text.items ++ with_commas (item_texts (drop l.item-index l.items) l.rest) ≡ l.initial.text.items ++ with_commas (item_texts l.items l.ends);
}
