-- Lists of connectors, and how they lie in memory.
use Rattle.std.specs.Prelude.{◌≤◌, ◌-◌, List, length, map, take, drop}
use Rattle.std.specs.List.{All}
use Rattle.lg_gram.specs.Connectors.{Connector}
use Rattle.lg_disj.specs.declared.lists.Span.{Span}
use Rattle.lg_disj.specs.declared.lists.Lists.{Lists}

-- the list that stands there
abbrev pub list_in : List Connector → Span → List Connector
list_in cs s = take (s.end - s.from) (drop s.from cs)

-- it stands within
pub record StandsIn (cs : List Connector) (s : Span) : Type 0 where
  pub order : s.from ≤ s.end
  pub within : s.end ≤ length cs

abbrev pub lists_in : Lists → List (List Connector)
lists_in l = map (list_in l.connectors.items) l.spans.items

abbrev pub AreLists : Lists → Type 0
AreLists l = All (StandsIn l.connectors.items) l.spans.items
