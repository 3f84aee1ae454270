-- What a document shows, as the program holds it.
use Rattle.std.specs.Prelude.{ℕ, List, map, Option}
use Rattle.std.specs.Borrow.{Bor}
use Rattle.std.specs.Option.{option_map}
use Rattle.lg_audit.specs.Lines.{ShownItem, passes, fails}
use Rattle.lg_audit.specs.declared.shown.ShownItem.{ShownItem as Item}
use Rattle.lg_audit.specs.declared.shown.ShownItem.TheVariants as items

abbrev pub texts : List (Bor (List ℕ)) → List (List ℕ)
texts lines = map (λ (l : Bor (List ℕ)). l.now) lines

abbrev pub item_of : Item → ShownItem
item_of (items.Passes number g unread) = passes number g (texts unread.items)
item_of (items.Fails number v) = fails number v

abbrev pub text_of : Option (Bor (List ℕ)) → Option (List ℕ)
text_of line = option_map (λ (l : Bor (List ℕ)). l.now) line
