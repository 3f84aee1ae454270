use Rattle.std.proofs.Common.{◌≡◌, ℕ, List, filter, take}
use Rattle.lg_dict.specs.Tables.{text_keys, listed, is_under}
use Rattle.lg_dict.proofs.tables.list_table.Given as goal

abbrev pub invariant-loop-number : goal.invariant-loop-number
invariant-loop-number l = (text : List ℕ) → listed (text_keys l.words) l.lists text ≡ filter (λ word. is_under l.by text word) (take l.number (text_keys l.words))
