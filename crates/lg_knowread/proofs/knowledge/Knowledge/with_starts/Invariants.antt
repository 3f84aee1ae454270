use Rattle.std.proofs.Common.{◌≡◌, ◌++◌, map}
use Rattle.std.specs.Vec.Iter.{into_iter_items}
use Rattle.lg_knowread.specs.Statements.{start}
use Rattle.lg_knowread.proofs.knowledge.Knowledge.with_starts.Given as goal

-- with the starts of the patterns that are left, all are there
abbrev pub invariant-loop-pattern : goal.invariant-loop-pattern
invariant-loop-pattern l = l.starts.items ++ map (start l.kind) (into_iter_items l.pattern-iterator) ≡ l.fn.self.starts ++ map (start l.kind) l.fn.patterns
