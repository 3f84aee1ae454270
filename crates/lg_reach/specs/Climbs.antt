-- Links from near to far: each connector of a list ends farther than the one before it.
use Rattle.std.specs.Prelude.{◌≡◌, ℕ, suc, ◌≤◌, Bool, true, false, List, [], ◌∷◌, Option, Some, None}
use Rattle.std.specs.List.{AllZip, Contains}
use Rattle.lg_gram.specs.Connectors.{Connector}
use Rattle.std.specs.Option.{option_map}
use Rattle.lg_gram.specs.Measures.{Choice, choices_of}
use Rattle.lg_gram.specs.Trees.{tree_of}
use Rattle.lg_gram.specs.declared.expr.Expr.{Expr}
use Rattle.lg_reach.specs.declared.walk.Least.{Least}
use Rattle.lg_reach.specs.declared.walk.Left.{Left}
use Rattle.lg_reach.specs.declared.walk.Next.{Next}

-- beyond a link that is so long
abbrev pub beyond : ℕ → Next
beyond n = record { least = suc n; first = false }

-- before the nearest links of both sides
abbrev pub at_first : Least
at_first = record { left = record { least = 1; first = true }; right = record { least = 1; first = true } }

-- No farther, and before the first link of a side only where the other is.
pub record IsNoFarther (a b : Next) : Type 0 where
  pub least : a.least ≤ b.least
  pub first : a.first ≡ true → b.first ≡ true

-- The connectors of a list have links of these lengths, each longer than the one before: from `s` on, and no farther than `e`.
pub data Climbs (Ok : Bool → Connector → ℕ → Type 0) : Next → List Connector → List ℕ → Next → Type 0 where
  at_end : (s e : Next) → IsNoFarther s e → Climbs Ok s [] [] e
  up : (s : Next) (c : Connector) (n : ℕ) (cs : List Connector) (ns : List ℕ) (e : Next) → s.least ≤ n → Ok s.first c n → Climbs Ok (beyond n) cs ns e → Climbs Ok s (c ∷ cs) (n ∷ ns) e

-- the two lists of a choice do, and so its links have these lengths
pub record Fits (Ok : Bool → Connector → ℕ → Type 0) (start end : Least) (choice : Choice) (lefts rights : List ℕ) : Type 0 where
  pub left : Climbs Ok start.left choice.left lefts end.left
  pub right : Climbs Ok start.right choice.right rights end.right

-- no farther on either side
pub record IsWithin (a b : Least) : Type 0 where
  pub left : IsNoFarther a.left b.left
  pub right : IsNoFarther a.right b.right

-- Of these choices some are kept: each that fits from `start` on. What comes behind it then ends no nearer than `after`, and its links are seen.
pub record Holds (Ok : Bool → Connector → ℕ → Type 0) (Seen : Connector → ℕ → Type 0) (start : Least) (choices kept : List Choice) (after : Least) : Type 0 where
  pub stays : (end : Least) (c : Choice) (ls rs : List ℕ) → Contains choices c → Fits Ok start end c ls rs → Contains kept c
  pub within : (end : Least) (c : Choice) (ls rs : List ℕ) → Contains choices c → Fits Ok start end c ls rs → IsWithin after end
  pub lefts : (end : Least) (c : Choice) (ls rs : List ℕ) → Contains choices c → Fits Ok start end c ls rs → AllZip Seen c.left ls
  pub rights : (end : Least) (c : Choice) (ls rs : List ℕ) → Contains choices c → Fits Ok start end c ls rs → AllZip Seen c.right rs

-- no choice fits
abbrev pub FitsNone : (Bool → Connector → ℕ → Type 0) → Least → List Choice → Type 0
FitsNone Ok start choices = (end : Least) (c : Choice) (ls rs : List ℕ) → Contains choices c → Fits Ok start end c ls rs → ⊥

-- what is left of these choices, with where what comes behind them begins, or nothing where none fits
abbrev pub Leaves : (Bool → Connector → ℕ → Type 0) → (Connector → ℕ → Type 0) → Least → List Choice → Option (List Choice × Least) → Type 0
Leaves Ok Seen start choices None = FitsNone Ok start choices
Leaves Ok Seen start choices (Some left) = Holds Ok Seen start choices left.0 left.1

-- no choice that was not there
abbrev pub IsFewer : List Choice → Option (List Choice × Least) → Type 0
IsFewer choices None = Unit {0}
IsFewer choices (Some left) = (c : Choice) → Contains left.0 c → Contains choices c

-- the choices of an expression that is left, with where what comes behind them begins
abbrev pub seen : Option (Left Expr) → Option (List Choice × Least)
seen = option_map (λ left. (choices_of (tree_of left.what), left.least))
