use Rattle.std.proofs.Common.{◌≡◌, ◌++◌, map, filter, take, is_some}
use Rattle.std.specs.FinMap.{get}
use Rattle.lg_dict.specs.Tables.{text_at, text_keys}
use Rattle.lg_dict.proofs.view.View.add_numbers.Given as goal

abbrev pub invariant-loop-number : goal.invariant-loop-number
invariant-loop-number l = map (λ word. word.now) l.found.items
    ≡ map (λ word. word.now) l.initial.found.items ++ filter (λ word. is_some (get l.self.words word)) (map (λ number. text_at (text_keys l.words) number) (take l.number-index l.numbers))
