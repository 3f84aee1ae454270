-- What a walk through an expression tells.
use Rattle.std.specs.Prelude.{ℕ, min, cond, ◌&&◌, List, Option, None, Some}
use Rattle.lg_gram.specs.Connectors.{Connector}
use Rattle.lg_gram.specs.Linkages.{Linkage}
use Rattle.lg_gram.specs.Measures.{Choice}
use Rattle.lg_reach.specs.Climbs.{IsFewer, Leaves, beyond}
use Rattle.lg_reach.specs.Ends.{EndsSo, Keeps, Serves, Suits}
use Rattle.lg_reach.specs.declared.nearest.Stand.{Stand}
use Rattle.lg_reach.specs.declared.site.Sites.{Sites}
use Rattle.lg_reach.specs.declared.walk.Least.{Least}
use Rattle.lg_reach.specs.declared.walk.Next.{Next}

-- the nearer, which is before the first link only if both are
abbrev pub nearer_of : Next → Next → Next
nearer_of a b = record { least = min a.least b.least; first = a.first && b.first }

-- on each side the nearer, where there is one before
abbrev pub nearer_by : Option Least → Least → Least
nearer_by None next = next
nearer_by (Some before) next = record { left = nearer_of before.left next.left; right = nearer_of before.right next.right }

-- behind a link of this connector that is so long
abbrev pub behind_link : Connector → ℕ → Least → Least
behind_link c m s = cond c.right (record { left = s.left; right = beyond m }) (record { left = beyond m; right = s.right })

-- A walk from `start` on leaves these of the choices: no site is forgotten, no choice is new, and each that a linkage may use is there, with its links seen.
pub record Walks (old new : Sites) (stand : Stand) (start : Least) (choices : List Choice) (left : Option (List Choice × Least)) : Type 0 where
  pub keeps : Keeps old new
  pub fewer : IsFewer choices left
  pub leaves : (g : Linkage) → Suits g stand → Leaves (EndsSo g stand.position) (Serves new g stand.position) start choices left
