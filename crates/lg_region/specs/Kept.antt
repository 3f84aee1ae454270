-- How the numbers of lists are kept.
use Rattle.std.specs.Prelude.{List, map}
use Rattle.std.specs.List.{AllZip}
use Rattle.lg_gram.specs.Connectors.{Connector}
use Rattle.lg_gram.specs.Problems.{IsProblem}
use Rattle.lg_region.specs.Fronts.{AreListsOf, Numbering}
use Rattle.lg_region.specs.Numbered.{AreEndsOf, AreFirstsOf, AreSidesOf}
use Rattle.lg_region.specs.Chains.{IsByClass}
use Rattle.lg_region.specs.Matching.{IsMatching}
use Rattle.lg_region.specs.declared.lists.Lists.TheInside.{Inside}
use Rattle.lg_region.specs.declared.chains.Side.TheVariants.{Left, Right}

abbrev pub lists_in : Inside → List (List Connector)
lists_in a = map (λ f. f.now) a.fronts.items

abbrev pub numbering : Inside → Numbering
numbering a = record { positions = a.problem.now; lists = lists_in a }

pub record IsKept (a : Inside) : Type 0 where
  pub problem : IsProblem a.problem.now
  pub lists : AreListsOf a.problem.now (lists_in a)
  pub ends : AreEndsOf (lists_in a) a.matching.kinds.items a.ends.items
  pub matching : IsMatching a.matching
  pub firsts : AreFirstsOf (lists_in a) a.matching.kinds.items a.firsts.items
  pub sides : AreSidesOf (lists_in a) a.problem.now (map (λ v. v.items) a.sides.items)
  pub lefts : AllZip (IsByClass Left) a.problem.now a.lefts.items
  pub rights : AllZip (IsByClass Right) a.problem.now a.rights.items
