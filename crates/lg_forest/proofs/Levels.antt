-- Alternatives by how many words they leave unlinked on the left.
use Rattle.std.proofs.Common.{◌≡◌, ◌↔◌, ◌⊎◌, ℕ, ◌+◌, ◌<◌, ◌≤◌, inl, inr, refl, sym, ◌∙◌, List, [], Some, None, arith}
use Rattle.std.proofs.lemmas.Bool.{cases_lt}
use Rattle.lg_region.specs.Alike.{BeginsWith, CutsInside, RegionsBeginAlike}
use Rattle.lg_region.specs.Fronts.{AreListsOf, Numbering}
use Rattle.lg_region.specs.Keys.{IsAltOf}
use Rattle.lg_region.specs.Openings.{BeginsSo, IsGapOf, LeavesLeft}
use Rattle.lg_region.specs.declared.key.Key.{Key}
use Rattle.lg_region.specs.declared.key.Key.TheVariants.{Whole, Region as Between}
use Rattle.lg_region.specs.declared.alternative.Alt.{Alt}
use Rattle.lg_region.specs.declared.alternative.Alt.TheVariants.{AllNull, Split as At}
use Rattle.lg_region.specs.declared.group.Gap.{Gap}
use Rattle.lg_region.specs.declared.group.Group.{Group}
use Rattle.lg_region.specs.declared.opening.Beginning.{Beginning}
use Rattle.lg_region.specs.declared.opening.Origin.{Origin}
use Rattle.lg_forest.specs.Demands.{AsksNext}
use Rattle.lg_forest.specs.Demands.AsksNext.{left as next_left, right as next_right}
use Rattle.lg_forest.specs.Forests.{IsLive, AreLive}
use Rattle.lg_forest.specs.Halves.{AddsLive, AsksAmong}
use Rattle.lg_forest.specs.Search.{Asked, AsksOf}
use Rattle.lg_forest.specs.Search.AsksOf.{left as asks_left, right as asks_right}
use Rattle.lg_forest.proofs.Asked.{asked_as}
use Rattle.lg_forest.proofs.Among.{alt_out, from_none}

abbrev Entries : Type 0
Entries = List (Key × List Alt)

-- what begins so leaves as many as the beginning says
pub leaves : (gap : Gap) (g : Group) (b : Beginning) (a : Alt) → BeginsSo gap g b a → LeavesLeft b.nulls a
leaves gap g b AllNull s = absurd s
leaves gap g b (At w i tl tr None rk) (e, f) = absurd cc
leaves gap g b (At w i tl tr (Some (Whole z)) rk) (e, f) = absurd cc
leaves gap g b (At w i tl tr (Some (Between l r ll rl k)) rk) (e, f) = cc

pub same_level : (i j : ℕ) (a : Alt) → LeavesLeft i a → LeavesLeft j a → i ≡ j
same_level i j AllNull s t = absurd s
same_level i j (At w m tl tr None rk) s t = absurd s
same_level i j (At w m tl tr (Some (Whole z)) rk) s t = absurd s
same_level i j (At w m tl tr (Some (Between l r ll rl k)) rk) s t = sym s ∙ t

-- fewer than so many
abbrev pub LeavesFewer : ℕ → Alt → Type 0
LeavesFewer nulls (At w i tl tr (Some (Between l r ll rl k)) rk) = k < nulls
LeavesFewer nulls _ = ⊥

pub fewer_none : (a : Alt) → LeavesFewer 0 a → ⊥
fewer_none AllNull s = s
fewer_none (At w m tl tr None rk) s = s
fewer_none (At w m tl tr (Some (Whole z)) rk) s = s
fewer_none (At w m tl tr (Some (Between l r ll rl k)) rk) s = let x = s in omega arith

pub fewer_apart : (i : ℕ) (a : Alt) → LeavesFewer i a → LeavesLeft i a → ⊥
fewer_apart i AllNull s t = s
fewer_apart i (At w m tl tr None rk) s t = s
fewer_apart i (At w m tl tr (Some (Whole z)) rk) s t = s
fewer_apart i (At w m tl tr (Some (Between l r ll rl k)) rk) s t = let x = s in let y = t in omega arith

pub fewer_next : (i next : ℕ) → next ≡ i + 1 → (a : Alt) → LeavesFewer next a ↔ (LeavesFewer i a ⊎ LeavesLeft i a)
fewer_next i next e AllNull = (λ s. absurd s, λ h. elim h [ inl s ↦ absurd s | inr s ↦ absurd s ])
fewer_next i next e (At w m tl tr None rk) = (λ s. absurd s, λ h. elim h [ inl s ↦ absurd s | inr s ↦ absurd s ])
fewer_next i next e (At w m tl tr (Some (Whole z)) rk) = (λ s. absurd s, λ h. elim h [ inl s ↦ absurd s | inr s ↦ absurd s ])
fewer_next i next e (At w m tl tr (Some (Between l r ll rl k)) rk) = (
  λ s. let x = s in elim (cases_lt k i) [ inl h ↦ inl h | inr h ↦ inr (omega arith) ],
  λ h. elim h [ inl s ↦ (let x = s in omega arith) | inr s ↦ (let x = s in omega arith) ],
)

-- all levels were looked at
module _ (n : Numbering) (key : Key) (gap : Gap) (is : IsGapOf n key gap) (are : AreListsOf n.positions n.lists) (law : RegionsBeginAlike) (i : ℕ) (end : gap.nulls + 1 ≤ i) where
  abbrev first : Origin
  first = record { left = gap.left; llist = gap.llist; nulls = 0; last = gap.rlist }

  begins : BeginsWith n first gap
  begins = record { left_is = refl; llist_is = refl; last_is = λ z. refl; some = is.some; few = omega arith; lead = is.lead; rlead = is.rlead; known = is.known }

  fewer : (a : Alt) → CutsInside gap a → LeavesFewer i a
  fewer AllNull x = x
  fewer (At w m tl tr None rk) x = x
  fewer (At w m tl tr (Some (Whole z)) rk) x = x
  fewer (At w m tl tr (Some (Between l r ll rl k)) rk) x = let few = x.1 in omega arith

  each_fewer : (a : Alt) → IsAltOf n.positions n.lists key a → LeavesFewer i a
  each_fewer a alt = fewer a (law.inside n first gap a are begins (alt_out n key gap a is.key_is alt))

  pub levels_asked : (old new : Entries) → Asked n (AsksAmong n key (LeavesFewer i)) old new → Asked n (AsksNext n.positions n.lists key) old new
  levels_asked old new x =
      asked_as n (AsksAmong n key (LeavesFewer i)) (AsksNext n.positions n.lists key) old new (λ k (a, alt, m, o). next_of a k alt o) (λ k h. by k h) x
    where
      next_of : (a : Alt) (k : Key) → IsAltOf n.positions n.lists key a → AsksOf n a k → AsksNext n.positions n.lists key k
      next_of a _ alt (asks_left k q) = next_left a k alt q
      next_of a _ alt (asks_right k q l) = next_right a k alt q l

      by : (k : Key) → AsksNext n.positions n.lists key k → AsksAmong n key (LeavesFewer i) k
      by _ (next_left a k alt q) = (a, alt, each_fewer a alt, asks_left k q)
      by _ (next_right a k alt q l) = (a, alt, each_fewer a alt, asks_right k q l)

  pub levels_live : (live : List Alt) → AddsLive n key (LeavesFewer i) [] live → AreLive n.positions n.lists key live
  levels_live live x = let r = from_none [] live (λ a. IsAltOf n.positions n.lists key a × LeavesFewer i a × IsLive n.positions n.lists a) refl x in record {
    exactly = λ a. (λ c. (let t = (r.each a).0 c in (t.0, t.2)), λ (alt, l). (r.each a).1 (alt, each_fewer a alt, l));
    once = r.once;
  }
