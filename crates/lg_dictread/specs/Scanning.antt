-- The same a token at a time: items up to the colon, and then the automaton of expressions.
use Rattle.std.specs.Prelude.{ℕ, List, [], ◌∷◌, ◌++◌}
use Rattle.lg_lex.specs.Tokens.{Token}
use Rattle.lg_gram.specs.declared.entry.Item.{Item}
use Rattle.lg_expr.specs.declared.fault.Fault.TheVariants.{Syntax}
use Rattle.lg_expr.specs.Grammar.{Rules}
use Rattle.lg_expr.specs.Automaton.{Answer, read, stopped, start, run}
use Rattle.lg_dictread.specs.Items.{Head, item, colon, other}
use Rattle.lg_dictread.specs.Entries.{head, part, EntryAnswer, entry, fault}

-- the items and what follows the colon after them, or what is left from a token at fault on
pub data Scanned : Type 0 where
  items_end : List (Item × ℕ) → List Token → Scanned
  items_stop : List Token → Scanned

-- a colon, which one item or more must stand before
abbrev pub at_colon : List (Item × ℕ) → Token → List Token → Scanned
at_colon [] t ts = items_stop (t ∷ ts)
at_colon (i ∷ is) t ts = items_end (i ∷ is) ts

abbrev pub scan_step : Head → (List (Item × ℕ) → Scanned) → List (Item × ℕ) → Token → List Token → Scanned
scan_step (item i) next is t ts = next (is ++ (i, t.1) ∷ [])
scan_step colon next is t ts = at_colon is t ts
scan_step other next is t ts = items_stop (t ∷ ts)

-- after some items
abbrev pub scan : List (Item × ℕ) → List Token → Scanned
scan is [] = items_stop []
scan is (t ∷ ts) = scan_step (head t) (λ more. scan more ts) is t ts

abbrev pub with_expression : List (Item × ℕ) → Answer Token → EntryAnswer
with_expression is (read e level rest) = entry (record { items = is; expr = e; level = level }) rest
with_expression is (stopped f rest) = fault f rest

abbrev pub with_items : Rules → Scanned → EntryAnswer
with_items r (items_end is body) = with_expression is (run Token part r start body)
with_items r (items_stop rest) = fault Syntax rest

-- what stands at the front of the tokens
abbrev pub answer_of : Rules → List Token → EntryAnswer
answer_of r ts = with_items r (scan [] ts)
