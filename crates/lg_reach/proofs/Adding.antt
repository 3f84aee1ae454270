-- A site more in one of the two tables.
use Rattle.std.proofs.Common.{ℕ, Bool, true, false, cond}
use Rattle.lg_member.specs.Cells.{Table, Stands, class_of}
use Rattle.lg_reach.specs.Ends.{Keeps}
use Rattle.lg_reach.specs.declared.site.Site.{Site}
use Rattle.lg_reach.specs.declared.site.Sites.{Sites}

-- what stands in the one table stands in the other
abbrev pub KeepsAll : Table Site → Table Site → Type 0
KeepsAll old new = (i class : ℕ) (x : Site) → Stands old i class x → Stands new i class x

kept_on : (old new : Sites) → KeepsAll old.lefts new.lefts → KeepsAll old.rights new.rights → (right : Bool) → KeepsAll (cond right old.rights old.lefts) (cond right new.rights new.lefts)
kept_on old new l r true = r
kept_on old new l r false = l

kept : (old new : Sites) → KeepsAll old.lefts new.lefts → KeepsAll old.rights new.rights → Keeps old new
kept old new l r i c n lone h = record { site = h.site; here = kept_on old new l r c.right i (class_of c.caps) h.site h.here; connector = h.connector; near = h.near; only_if = h.only_if }

pub kept_right : (old : Sites) (new : Table Site) → KeepsAll old.rights new → Keeps old (record { lefts = old.lefts; rights = new })
kept_right old new r = kept old (record { lefts = old.lefts; rights = new }) (λ i class x h. h) r

pub kept_left : (old : Sites) (new : Table Site) → KeepsAll old.lefts new → Keeps old (record { lefts = new; rights = old.rights })
kept_left old new l = kept old (record { lefts = new; rights = old.rights }) l (λ i class x h. h)
