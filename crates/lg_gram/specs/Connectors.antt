-- Connectors, which of them match, and the label of a link.
use Rattle.std.specs.Prelude.{◌≡◌, ℕ, ◌<◌, List, [], ◌∷◌, ◌++◌, length, Bool, ◌==◌, ◌⊎◌, slice_index, IsTrue, IsFalse, if◌then◌else◌}
use Rattle.std.specs.Ordering.{nat_cmp, on, eq_of_both}
use Rattle.std.specs.Bool.{beq}
use Rattle.std.specs.declared.cmp.Ordering.{Ordering}
use Rattle.std.specs.declared.cmp.Ordering.TheVariants.{Equal}
use Rattle.std.specs.Cmp.Lexicographic.{slice_cmp, pointwise}
use Rattle.lg_gram.specs.Names.{Name, IsName, STAR, trimmed}

-- What contracts see of a connector: its name, whether it may take several links (`@`), and whether it joins a word to the right (`+`) or to the left (`-`).
pub record Connector : Type 0 where
  pub caps : List ℕ
  pub subs : List ℕ
  pub multi : Bool
  pub right : Bool

abbrev pub name_of : Connector → Name
name_of c = record { caps = c.caps; subs = c.subs }

-- two letters of one subscript place agree: they are equal, or one is a star
abbrev pub AgreeAt : ℕ → ℕ → Type 0
AgreeAt x y = (x ≡ y) ⊎ ((x ≡ STAR) ⊎ (y ≡ STAR))

-- subscripts agree at each place that both have
abbrev pub Agree : List ℕ → List ℕ → Type 0
Agree xs ys = (k : ℕ) → k < length xs → k < length ys → AgreeAt (slice_index xs k) (slice_index ys k)

-- The connector a at a left word and b at a right word may be linked: a has `+`, b has `-`, and their names match.
-- Capital letters and signs are the Link Grammar report's; subscripts that agree place by place are link-parser's.
pub record Match (a b : Connector) : Type 0 where
  pub to_right : IsTrue a.right
  pub to_left : IsFalse b.right
  pub capitals : a.caps ≡ b.caps
  pub subscripts : Agree a.subs b.subs

-- the letter in either, else a star
abbrev pub either : ℕ → ℕ → ℕ
either x y = if x == STAR then y else x

-- at each place the letter that stands there in either list, else a star
abbrev pub merged : List ℕ → List ℕ → List ℕ
merged [] ys = ys
merged (x ∷ xs) [] = x ∷ xs
merged (x ∷ xs) (y ∷ ys) = either x y ∷ merged xs ys

-- the label of a link of two connectors that match: the capital letters of both, and the subscripts of either
abbrev pub label_of : Connector → Connector → Name
label_of a b = record { caps = a.caps; subs = trimmed (merged a.subs b.subs) }

-- the text without the direction sign
abbrev pub connector_text : Connector → List ℕ
connector_text c = if c.multi then 64 ∷ c.caps ++ c.subs else c.caps ++ c.subs

-- by the bytes of the text without the sign
abbrev pub connector_cmp : Connector → Connector → Ordering
connector_cmp = on connector_text (slice_cmp nat_cmp)

-- connectors of one direction that the order does not tell apart are one
abbrev pub ConnectorsToldApart : Type 0
ConnectorsToldApart = (a b : Connector) → IsName (name_of a) → IsName (name_of b) → a.right ≡ b.right → connector_cmp a b ≡ Equal → a ≡ b

-- what `==` answers of names, and of connectors
abbrev pub name_eq : Name → Name → Bool
name_eq = eq_of_both (on (λ n. n.caps) (pointwise ◌==◌)) (on (λ n. n.subs) (pointwise ◌==◌))

abbrev pub connector_eq : Connector → Connector → Bool
connector_eq = eq_of_both (eq_of_both (on (λ c. c.multi) beq) (on (λ c. c.right) beq)) (on name_of name_eq)
