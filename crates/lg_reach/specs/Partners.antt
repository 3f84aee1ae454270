-- Where a link of some length ends, and the known sites that may be its partner there.
use Rattle.std.specs.Prelude.{◌≡◌, ℕ, ◌+◌, ◌-◌, ◌<◌, ◌≤◌, min, Bool, true, ltb, cond, ◌&&◌}
use Rattle.lg_gram.specs.Connectors.{Connector, Match}
use Rattle.lg_member.specs.Cells.{Stands, class_of}
use Rattle.lg_sharpen.specs.Filling.{MaySpan}
use Rattle.lg_reach.specs.declared.known.Known.{Known}
use Rattle.lg_reach.specs.declared.nearest.Stand.{Stand}
use Rattle.lg_reach.specs.declared.site.Site.{Site}
use Rattle.lg_reach.specs.declared.site.Sites.{Sites}

-- a link that is the nearest of one of its ends is too long to be that of the other too
abbrev pub is_long : ℕ → Bool → ℕ → Bool
is_long most first n = first && ltb most n

-- all links to this side are shorter
abbrev pub bound_on : Bool → Stand → ℕ
bound_on right s = cond right (s.words - s.position) (min s.words (s.position + 1))

-- the position at the other end of a link of this length, to the right of a position or to its left
abbrev pub far_end : Bool → ℕ → ℕ → ℕ
far_end right i n = cond right (i + n) (i - n)

-- the two match, the first to the right of its word or to the left
abbrev pub MatchOn : Bool → Connector → Connector → Type 0
MatchOn right c other = cond right (Match c other) (Match other c)

-- the class is that of the connector's capital letters
pub record IsClassOf (c : Connector) (class : ℕ) : Type 0 where
  pub value : class ≡ class_of c.caps
  pub small : class < 64

-- A link of the connector that is this long may end at the site, which reaches back. Where it is too long to be the nearest of both its ends, the site is not alone.
pub record IsPartner (c : Connector) (long : Bool) (n : ℕ) (site : Site) : Type 0 where
  pub near : site.least ≤ n
  pub apart : long ≡ true → site.lone ≡ true → ⊥
  pub matches : MatchOn c.right c site.connector

-- at the other end of a link of this length stands a partner of the connector of position i
pub record HasPartner (sites : Sites) (i : ℕ) (c : Connector) (long : Bool) (n : ℕ) : Type 0 where
  pub site : Site
  pub there : Stands (cond c.right sites.lefts sites.rights) (far_end c.right i n) (class_of c.caps) site
  pub is : IsPartner c long n site

-- A link of the connector of this position may be so long: there is a partner, and where nothing comes before the connector on its side, the gap is open.
pub record MayEnd (s : Stand) (known : Known) (c : Connector) (first : Bool) (n : ℕ) : Type 0 where
  pub spans : first ≡ true → MaySpan c.right known.gaps s.position n
  pub partner : HasPartner known.sites s.position c (is_long s.most first n) n
