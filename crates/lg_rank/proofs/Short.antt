-- What stands in a way has room in few bytes.
use Rattle.std.proofs.Common.{◌≡◌, ℕ, ◌<◌, inl, inr, length, get_or, ap, List, [], Option, None, Some, sym, subst, arith}
use Rattle.std.proofs.lemmas.Bool.{cases_lt}
use Rattle.std.proofs.lemmas.List.{get_or_past}
use Rattle.lg_gram.specs.Connectors.{Connector}
use Rattle.lg_gram.specs.Problems.{IsProblem}
use Rattle.lg_gram.specs.declared.disjunct.Disjunct.{Disjunct}
use Rattle.lg_gram.specs.declared.linkage.Link.{Link}
use Rattle.lg_region.specs.Keys.{IsValidKey}
use Rattle.lg_region.specs.Small.{IsSmall, IsSmallJoint}
use Rattle.lg_region.specs.declared.key.Joint.{Joint}
use Rattle.lg_region.specs.declared.key.Key.{Key}
use Rattle.lg_region.specs.declared.key.Key.TheVariants.{Whole, Region as Between}
use Rattle.lg_region.specs.declared.alternative.Alt.{Alt}
use Rattle.lg_region.specs.declared.alternative.Alt.TheVariants.{Split as At}
use Rattle.lg_rank.specs.Keyed.{near_link, far_link}
use Rattle.lg_rank.specs.Meanings.{joint_link}
use Rattle.lg_rank.specs.Small.{IsShort, HasShortEnds}

joint_short : (o : Option Joint) (l r : ℕ) → l < 256 → r < 256 → IsSmallJoint o → IsShort (joint_link o l r)
joint_short None l r a b j = tt
joint_short (Some j) l r a b (p, q) = (a, p, b, q)

near_short : (key : Key) (word : ℕ) (o : Option Joint) → HasShortEnds key → word < 256 → IsSmallJoint o → IsShort (near_link key word o)
near_short (Whole nulls) word o ends w j = tt
near_short (Between left right llist rlist nulls) word o ends w j = joint_short o left word ends.0 w j

far_short : (key : Key) (word : ℕ) (o : Option Joint) → HasShortEnds key → word < 256 → IsSmallJoint o → IsShort (far_link key word o)
far_short (Whole nulls) word o ends w j = tt
far_short (Between left right llist rlist nulls) word o ends w j = joint_short o word right w ends.1 j

parts_small : (word number : ℕ) (to_left to_right : Option Joint) (lkey rkey : Option Key) → IsSmall (At word number to_left to_right lkey rkey) → (word < 256) × IsSmallJoint to_left × IsSmallJoint to_right
parts_small word number to_left to_right None None is = absurd is
parts_small word number to_left to_right (Some lkey) None is = absurd is
parts_small word number None None None (Some rkey) is = (is.2, tt, tt)
parts_small word number None (Some j) None (Some rkey) is = (let e = is.1 in absurd cc)
parts_small word number (Some j) to_right None (Some rkey) is = (let e = is.0 in absurd cc)
parts_small word number to_left to_right (Some lkey) (Some rkey) is = (is.0, is.1, is.2)

module _ (key : Key) (a : Alt) (word number : ℕ) (to_left to_right : Option Joint) (lkey rkey : Option Key) (is : a ≡ At word number to_left to_right lkey rkey) (small : IsSmall a) (ends : HasShortEnds key) where
  parts : (word < 256) × IsSmallJoint to_left × IsSmallJoint to_right
  parts = parts_small word number to_left to_right lkey rkey (subst (λ z. IsSmall z) is small)

  pub near_is_short : (near : Option Link) → near ≡ near_link key word to_left → IsShort near
  near_is_short near e = subst (λ z. IsShort z) (sym e) (near_short key word to_left ends parts.0 parts.1)

  pub far_is_short : (far : Option Link) → far ≡ far_link key word to_right → IsShort far
  far_is_short far e = subst (λ z. IsShort z) (sym e) (far_short key word to_right ends parts.0 parts.2)

-- a key that may be asked for lies in the sentence
pub ends_short : (positions : List (List Disjunct)) (lists : List (List Connector)) (key : Key) → IsProblem positions → IsValidKey positions lists key → HasShortEnds key
ends_short positions lists (Whole nulls) is valid = tt
ends_short positions lists (Between left right llist rlist nulls) is valid =
    let few = is.few in
    let ends = valid.2.ends in
    let within = valid.2.within in
    (omega arith, omega arith)

-- a word with a disjunct lies in the sentence
pub word_short : (positions : List (List Disjunct)) (word number : ℕ) → IsProblem positions → number < length (get_or positions word []) → word < 256
word_short positions word number is less = elim (cases_lt word (length positions)) [
  | inl within ↦ (let few = is.few in omega arith)
  | inr past ↦ absurd (let none = ap (λ (z : List Disjunct). length z) (get_or_past positions word [] past) in omega arith)
]
