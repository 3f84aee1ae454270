-- Which disjuncts others support, and what rounds of pruning keep of members.
use Rattle.std.specs.Prelude.{◌↔◌, ℕ, ◌<◌, Bool, true, false, cond, List, length}
use Rattle.std.specs.List.{Contains}
use Rattle.lg_gram.specs.declared.disjunct.Disjunct.{Disjunct}
use Rattle.lg_member.specs.Members.{formed, list_on, AreLeft, Have}
use Rattle.lg_member.specs.declared.member.Member.{Member}
use Rattle.lg_pprune.specs.Alive.{ArePartners}

-- a connector has a partner: one of a list to the right, or to the left
abbrev pub PartnersOn : Bool → ℕ → ℕ → Disjunct → ℕ → ℕ → Disjunct → ℕ → Type 0
PartnersOn right n i a p j b q = cond right (ArePartners n i a p j b q) (ArePartners n j b q i a p)

-- each connector on a side of a disjunct has a partner among the disjuncts that are there
abbrev pub IsSupportedOn : Bool → ℕ → (ℕ → Disjunct → Type 0) → ℕ → Disjunct → Type 0
IsSupportedOn right n There i a = (p : ℕ) → p < length (list_on right a) → (j : ℕ) × (b : Disjunct) × (q : ℕ) × There j b × PartnersOn right n i a p j b q

-- each connector of a disjunct has a partner
abbrev pub IsSupported : ℕ → (ℕ → Disjunct → Type 0) → ℕ → Disjunct → Type 0
IsSupported n There i a = IsSupportedOn true n There i a × IsSupportedOn false n There i a

-- those members are left that others support
pub record KeepsSupported (n : ℕ) (old new : List Member) : Type 0 where
  pub left : AreLeft old new
  pub exactly : (m : Member) → Contains new m ↔ (Contains old m × IsSupported n (Have old) m.position (formed m.form))

-- those members are left that are in some set which supports itself
pub record KeepsAlive (n : ℕ) (old new : List Member) : Type 0 where
  pub left : AreLeft old new
  pub supported : (i : ℕ) (d : Disjunct) → Have new i d → IsSupported n (Have new) i d
  pub kept : (S : List (ℕ × Disjunct)) → ((i : ℕ) (d : Disjunct) → Contains S (i, d) → Have old i d × IsSupported n (λ j b. Contains S (j, b)) i d) → (i : ℕ) (d : Disjunct) → Contains S (i, d) → Have new i d
