-- Steps of drawing: lines that are painted over, and heights that are known.
use Rattle.std.specs.Prelude.{◌≡◌, ℕ, ◌<◌, List, length, slice_index_or}
use Rattle.lg_gram.specs.Linkages.{link_length}
use Rattle.lg_gram.specs.declared.linkage.Link.{Link}
use Rattle.lg_text.specs.Diagrams.{Drawn, height}

-- At each column the new line shows what f makes of what stood there.
pub record Paints (f : ℕ → ℕ → ℕ) (old new : List ℕ) : Type 0 where
  pub same : length new ≡ length old
  pub at : (c : ℕ) → c < length old → slice_index_or new c 32 ≡ f c (slice_index_or old c 32)

-- both ends lie within so many columns
pub record IsWithin (columns : ℕ) (d : Drawn) : Type 0 where
  pub from : d.from < columns
  pub to : d.to < columns

-- any link, where a list has none
abbrev pub no_link : Link
no_link = record { left = 0; lplace = 0; right = 0; rplace = 0 }

-- the heights of the links that are shorter than n stand in a list of as many heights as links
pub record AreKnown (links : List Link) (n : ℕ) (heights : List ℕ) : Type 0 where
  pub same : length heights ≡ length links
  pub at : (i : ℕ) → i < length links → link_length (slice_index_or links i no_link) < n → slice_index_or heights i 0 ≡ height links (slice_index_or links i no_link)
