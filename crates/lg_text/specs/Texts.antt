-- What is printed of a linkage and of a bound.
use Rattle.std.specs.Prelude.{◌≡◌, ℕ, List, [], ◌∷◌, ◌++◌, length, map, codes, Option, Some, None}
use Rattle.std.specs.List.{flat_map, enumerate_from, zip, join_with_byte}
use Rattle.std.specs.Fmt.{decimal}
use Rattle.lg_base.specs.Costs.{cost_text}
use Rattle.lg_gram.specs.Connectors.{Connector, connector_text}
use Rattle.lg_gram.specs.Labels.{label_at}
use Rattle.lg_gram.specs.Names.{Name}
use Rattle.lg_gram.specs.Linkages.{Linkage, unlinked, total_cost, total_length}
use Rattle.lg_gram.specs.Rules.{Good}
use Rattle.lg_gram.specs.declared.disjunct.Disjunct.{Disjunct}
use Rattle.lg_gram.specs.declared.linkage.Link.{Link}
use Rattle.lg_gram.specs.declared.listing.Token.{Token}
use Rattle.lg_gram.specs.declared.listing.Bound.{Bound}
use Rattle.lg_gram.specs.declared.listing.Bound.TheVariants.{TooManyWords, TooWide}

-- pieces with single spaces between them, and a line feed
abbrev pub line_of : List (List ℕ) → List ℕ
line_of pieces = join_with_byte 32 pieces ++ 10 ∷ []

-- the connectors of a side from near to far, joined by commas, without direction signs; a dash where there is none
abbrev pub side_text : List Connector → List ℕ
side_text [] = codes "-"
side_text (c ∷ cs) = join_with_byte 44 (map connector_text (c ∷ cs))

abbrev pub heading_line : ℕ → Linkage → List ℕ
heading_line number g =
    line_of (codes "linkage" ∷ decimal number ∷ codes "unused" ∷ decimal (unlinked g) ∷ codes "cost" ∷ cost_text (total_cost g) ∷ codes "length" ∷ decimal (total_length g) ∷ [])

-- what a position uses: a word with its connectors to the left and to the right and its cost, or null
abbrev pub choice_pieces : Option Disjunct → List (List ℕ)
choice_pieces None = codes "null" ∷ []
choice_pieces (Some d) = d.word ∷ side_text d.left ∷ side_text d.right ∷ cost_text d.cost ∷ []

abbrev pub word_line : ℕ × (Token × Option Disjunct) → List ℕ
word_line w = line_of (codes "word" ∷ decimal w.0 ∷ w.1.0.text ∷ choice_pieces w.1.1)

abbrev pub letters_of : Option Name → List ℕ
letters_of None = []
letters_of (Some n) = n.caps ++ n.subs

-- the label of a link
abbrev pub label_text : Linkage → Link → List ℕ
label_text g l = letters_of (label_at g l)

abbrev pub link_line : Linkage → Link → List ℕ
link_line g l = line_of (codes "link" ∷ decimal l.left ∷ decimal l.right ∷ label_text g l ∷ decimal l.lplace ∷ decimal l.rplace ∷ [])

-- a linkage: a heading, a line for each position, a line for each link
abbrev pub linkage_text : List Token → ℕ → Linkage → List ℕ
linkage_text tokens number g =
    heading_line number g ++ (flat_map word_line (enumerate_from 0 (zip tokens g.chosen)) ++ flat_map (link_line g) g.links)

-- a linkage that can be printed for these tokens: it is a good linkage of some problem, with as many positions
pub record IsPrintable (tokens : List Token) (g : Linkage) : Type 0 where
  pub same_length : length tokens ≡ length g.chosen
  pub positions : List (List Disjunct)
  pub good : Good positions g

-- what is printed for a sentence past a limit
abbrev pub bound_pieces : Bound → List (List ℕ)
bound_pieces (TooManyWords count) = codes "too" ∷ codes "many" ∷ codes "words" ∷ decimal count ∷ []
bound_pieces (TooWide count) = codes "too" ∷ codes "many" ∷ codes "choices" ∷ decimal count ∷ []

-- the line that names a bound
abbrev pub bound_line : Bound → List ℕ
bound_line bound = line_of (bound_pieces bound)
