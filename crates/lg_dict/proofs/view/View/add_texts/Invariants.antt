use Rattle.std.proofs.Common.{◌≡◌, ◌++◌, map, filter, take, is_some}
use Rattle.std.specs.FinMap.{get}
use Rattle.lg_dict.proofs.view.View.add_texts.Given as goal

abbrev pub invariant-loop-text : goal.invariant-loop-text
invariant-loop-text l = map (λ word. word.now) l.found.items ≡ map (λ word. word.now) l.initial.found.items ++ filter (λ word. is_some (get l.self.words word)) (take l.text-index l.texts)
