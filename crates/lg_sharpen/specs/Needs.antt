-- How far the links on one side of a word go at least, by what stands on the other.
use Rattle.std.specs.Prelude.{◌≡◌, ℕ, ◌≤◌, ◌⊎◌, Bool, not, List, [], Some, slice_get, slice_index_or}
use Rattle.std.specs.List.{Contains}
use Rattle.lg_member.specs.Members.{side_on}
use Rattle.lg_member.specs.declared.member.Member.{Member}
use Rattle.lg_sharpen.specs.declared.site.Site.{Site}

-- 0, or no more than the lengths of the links of some place
abbrev pub IsFar : List Site → ℕ → Type 0
IsFar sites r = (r ≡ 0) ⊎ ((p : ℕ) × (s : Site) × (slice_get sites p ≡ Some s) × (r ≤ s.span.from))

abbrev pub IsFarAt : List (List Site) → ℕ → ℕ → Type 0
IsFarAt lists k r = IsFar (slice_index_or lists k []) r

-- numbers are no greater than they were, and that of an index no greater than this
pub record LowersAt (k x : ℕ) (old new : List ℕ) : Type 0 where
  pub lower : (j : ℕ) → slice_index_or new j 0 ≤ slice_index_or old j 0
  pub noted : slice_index_or new k 0 ≤ x

-- of each list to the right, or to the left, what the other lists of all members that have it need
abbrev pub AreNeeds : Bool → List (List Site) → List Member → List ℕ → Type 0
AreNeeds right others members needs = (m : Member) → Contains members m → IsFarAt others (side_on (not right) m) (slice_index_or needs (side_on right m) 0)
