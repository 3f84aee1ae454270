-- What is asked for, and which alternatives are live, among some of a key.
use Rattle.std.specs.Prelude.{List}
use Rattle.lg_region.specs.Fronts.{Numbering}
use Rattle.lg_region.specs.Keys.{IsAltOf}
use Rattle.lg_region.specs.Groups.{StandsIn}
use Rattle.lg_region.specs.Openings.{BeginsSo}
use Rattle.lg_region.specs.Ways.{AddsExactly}
use Rattle.lg_region.specs.declared.key.Key.{Key}
use Rattle.lg_region.specs.declared.alternative.Alt.{Alt}
use Rattle.lg_region.specs.declared.group.Gap.{Gap}
use Rattle.lg_region.specs.declared.group.Group.{Group}
use Rattle.lg_region.specs.declared.opening.Beginning.{Beginning}
use Rattle.lg_forest.specs.Forests.{IsLive}
use Rattle.lg_forest.specs.Search.{AsksOf}

-- what the alternatives of a key ask for that have P
abbrev pub AsksAmong : Numbering → Key → (Alt → Type 0) → Key → Type 0
AsksAmong n key P k = (a : Alt) × IsAltOf n.positions n.lists key a × P a × AsksOf n a k

-- the live alternatives of a key that have P are added, each once
abbrev pub AddsLive : Numbering → Key → (Alt → Type 0) → List Alt → List Alt → Type 0
AddsLive n key P old new = AddsExactly old new (λ a. IsAltOf n.positions n.lists key a × P a × IsLive n.positions n.lists a)

-- an alternative stands in a group and begins so
abbrev pub IsEnding : Gap → Group → Beginning → Alt → Type 0
IsEnding gap g b a = StandsIn g.word g.from g.to a × BeginsSo gap g b a
