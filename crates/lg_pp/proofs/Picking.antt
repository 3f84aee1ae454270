-- Flags of labels, and what they say of links.
use Rattle.std.proofs.Common.{◌≡◌, ℕ, ◌<◌, Bool, false, List, [], ◌∷◌, length, get_or, take, Some, ◌↔◌, inl, inr, ap, sym, ◌∙◌, subst, All, Contains, arith}
use Rattle.std.specs.Prelude.{IsTrue, slice_get}
use Rattle.std.specs.List.{AllZip}
use Rattle.std.proofs.lemmas.Bool.{cases_lt}
use Rattle.std.proofs.lemmas.List.{get_or_past, get_or-take, length-take}
use Rattle.std.proofs.lemmas.List.Elements.{All-head, All-tail, All-weaker, All-contains_itself}
use Rattle.std.proofs.lemmas.Option.{slice_get-get_or, get_or_from_slice_get, same_Some}
use Rattle.lg_gram.specs.Labels.{label_at}
use Rattle.lg_gram.specs.Linkages.{Linkage}
use Rattle.lg_gram.specs.Names.{Name}
use Rattle.lg_gram.specs.Rules.{HasLink}
use Rattle.lg_gram.specs.declared.linkage.Link.{Link}
use Rattle.lg_pp.specs.Judging.{IsLabelled}
use Rattle.lg_pp.specs.Labels.{AreLabels}
use Rattle.lg_pp.specs.Picked.{ArePicked}
use Rattle.lg_pp.specs.Reach.{AreFlags}
use Rattle.lg_pp.proofs.Good.{no_link}
use Rattle.lg_pp.proofs.Zipped.{zip_at, zip_length}

pub any_name : Name
any_name = record { caps = []; subs = [] }

pub set_within : (flags : List Bool) (n : ℕ) → IsTrue (get_or flags n false) → n < length flags
set_within flags n set = elim (cases_lt n (length flags)) [ inl less ↦ less | inr past ↦ absurd (let e = get_or_past flags n false past in cc) ]

-- a flag is set exactly at a label of which this holds
module _ (P : Name → Type 0) (labels : List Name) (flags : List Bool) (are : ArePicked P labels flags) where
  pub picked_count : length flags ≡ length labels
  picked_count = zip_length (λ label flag. IsTrue flag ↔ P label) labels flags are

  pub picked_read : (n : ℕ) → IsTrue (get_or flags n false) ↔ IsLabelled P labels n
  picked_read n = (
    λ set.
        let at = slice_get-get_or labels n any_name (let less = set_within flags n set in let e = picked_count in omega arith) in
        (get_or labels n any_name, at, (zip_at (λ label flag. IsTrue flag ↔ P label) labels flags n (get_or labels n any_name) false are at).0 set),
    λ h. (zip_at (λ label flag. IsTrue flag ↔ P label) labels flags n h.0 false are h.1).1 h.2,
  )

-- the flag of an equal label before it
pub picked_again : (P : Name → Type 0) (labels : List Name) (n first : ℕ) (flags : List Bool) → n < length labels → ArePicked P (take n labels) flags → first < n → slice_get labels first ≡ slice_get labels n → (flag : Bool) → flag ≡ get_or flags first flag →
    IsTrue flag ↔ P (get_or labels n any_name)
picked_again P labels n first flags less are before equal flag is =
    let one = get_or labels first any_name in
    let other = get_or labels n any_name in
    let at = slice_get-get_or labels first any_name (omega arith) in
    let e : one ≡ other = same_Some one other (sym at ∙ equal ∙ slice_get-get_or labels n any_name less) in
    let long = zip_length (λ label flag. IsTrue flag ↔ P label) (take n labels) flags are in
    let here : slice_get (take n labels) first ≡ Some one = slice_get_take labels n first one before (omega arith) at in
    let h = zip_at (λ label flag. IsTrue flag ↔ P label) (take n labels) flags first one flag are here in
    subst (λ b. IsTrue b ↔ P other) (sym is) (subst (λ z. IsTrue (get_or flags first flag) ↔ P z) e h)
  where
    slice_get_take : (xs : List Name) (n k : ℕ) (x : Name) → k < n → k < length xs → slice_get xs k ≡ Some x → slice_get (take n xs) k ≡ Some x
    slice_get_take xs n k x before less at =
        let e = get_or-take n xs k x before in
        let there = slice_get-get_or (take n xs) k x (let h = length-take n xs in omega arith) in
        there ∙ ap Some (e ∙ get_or_from_slice_get xs k x x at)

-- flags of labels are flags of the links that have them
module _ (P : Name → Type 0) (g : Linkage) where
  abbrev pub Has : Link → Type 0
  Has l = (label : Name) × (label_at g l ≡ Some label) × P label

  pub flags_of_labels : (links : List Link) (labels : List Name) (flags : List Bool) → AllZip (λ l label. label_at g l ≡ Some label) links labels → ArePicked P labels flags → AreFlags Has links flags
  flags_of_labels [] [] [] at are = tt
  flags_of_labels [] (n ∷ ns) flags at are = absurd at
  flags_of_labels (l ∷ ls) [] flags at are = absurd at
  flags_of_labels [] [] (b ∷ bs) at are = absurd are
  flags_of_labels (l ∷ ls) (n ∷ ns) [] at are = absurd are
  flags_of_labels (l ∷ ls) (n ∷ ns) (b ∷ bs) at are = ((λ t. (n, at.0, are.0.0 t), λ h. are.0.1 (let same : h.0 ≡ n = same_Some h.0 n (sym h.1 ∙ at.0) in subst P same h.2)), flags_of_labels ls ns bs at.1 are.1)

-- flags of what is the same of links of the list
pub flags_along : (P Q : Link → Type 0) (links : List Link) (flags : List Bool) → All (λ l. P l ↔ Q l) links → AreFlags P links flags → AreFlags Q links flags
flags_along P Q [] [] same are = tt
flags_along P Q [] (b ∷ bs) same are = absurd are
flags_along P Q (l ∷ ls) [] same are = absurd are
flags_along P Q (l ∷ ls) (b ∷ bs) same are =
    let here = All-head (λ l. P l ↔ Q l) l ls same in
    ((λ t. here.0 (are.0.0 t), λ q. are.0.1 (here.1 q)), flags_along P Q ls bs (All-tail (λ l. P l ↔ Q l) l ls same) are.1)

pub flags_of_links : (P : Name → Type 0) (g : Linkage) (Q : Link → Type 0) (labels : List Name) (flags : List Bool) → ((l : Link) (label : Name) → HasLink g l → label_at g l ≡ Some label → P label ↔ Q l) → AreLabels g labels → ArePicked P labels flags → AreFlags Q g.links flags
flags_of_links P g Q labels flags same at are =
    let by : (l : Link) → HasLink g l → Has P g l ↔ Q l = λ l has.
    let label = link_label g labels at l has in
    (λ h. (same l h.0 has h.1).0 h.2, λ q. (label.0, label.1, (same l label.0 has label.1).1 q)) in
    flags_along (Has P g) Q g.links flags (All-weaker (Contains g.links) (λ l. Has P g l ↔ Q l) by g.links (All-contains_itself g.links)) (flags_of_labels P g g.links labels flags at are)
  where
    link_label : (g : Linkage) (labels : List Name) → AreLabels g labels → (l : Link) → HasLink g l → (label : Name) × (label_at g l ≡ Some label)
    link_label g labels at l has =
        let number : slice_get g.links has.0 ≡ Some l = slice_get-get_or g.links has.0 l has.1 ∙ ap Some has.2 in
        (get_or labels has.0 any_name, zip_at (λ l label. label_at g l ≡ Some label) g.links labels has.0 l any_name at number)

-- the flag of a link
module _ (P : Link → Type 0) (g : Linkage) (flags : List Bool) (links : List Link) (i : ℕ) (are : AreFlags P g.links flags) (e : links ≡ g.links) (less : i < length links) where
  pub flag_here : IsTrue (get_or flags i false) ↔ P (get_or links i no_link)
  flag_here = zip_at (λ l flag. IsTrue flag ↔ P l) g.links flags i (get_or links i no_link) false are (rw (← e) (slice_get-get_or links i no_link less))
