use Rattle.std.proofs.Common.{◌≡◌, map, take}
use Rattle.lg_check_dict.proofs.dict.texts.Given as goal

abbrev pub invariant-loop-text : goal.invariant-loop-text
invariant-loop-text l = l.texts.items ≡ map (λ text. text.now) (take l.text-index l.list)
