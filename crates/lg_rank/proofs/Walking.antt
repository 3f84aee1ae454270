-- The keys that get nodes, parts before wholes.
use Rattle.std.proofs.Common.{◌≡◌, ℕ, zero, suc, ◌-◌, ◌<◌, ◌≤◌, List, [], ◌∷◌, ◌++◌, length, map, Some, None, slice_get, Contains, ◌⊎◌, inl, inr, refl, sym, ap, subst, arith}
use Rattle.std.proofs.lemmas.Option.{slice_get_within, get_or_from_slice_get}
use Rattle.lg_gram.specs.Connectors.{Connector}
use Rattle.lg_gram.specs.declared.disjunct.Disjunct.{Disjunct}
use Rattle.lg_region.specs.declared.key.Key.{Key}
use Rattle.lg_region.specs.declared.key.Key.TheVariants.{Whole, Region as Between}
use Rattle.lg_region.specs.declared.alternative.Alt.{Alt}
use Rattle.lg_region.specs.declared.alternative.Alt.TheVariants.{AllNull, Split as At}
use Rattle.lg_region.specs.Keys.{IsKeyOf, IsValidKey, IsAltOf, IsAltOfWhole, IsAltOfRegion, region_of_numbers}
use Rattle.lg_region.specs.Laws.{NumbersTellListsApart, HasKey}
use Rattle.lg_region.specs.Parts.{Region}
use Rattle.lg_forest.specs.Demands.{AsksNext}
use Rattle.lg_forest.specs.Demands.AsksNext.{left, right}
use Rattle.lg_forest.specs.Demands.Reaches.{itself, onward}
use Rattle.lg_forest.specs.Drafts.{HasAlt}
use Rattle.lg_forest.specs.Forests.{Forest, IsForest, IsLive}
use Rattle.lg_forest.specs.Search.{key_width, alt_bound}
use Rattle.lg_rank.specs.Fronts.{IsIn, Extends}
use Rattle.lg_rank.specs.Keyed.{subject_of, IsNothing, IsBefore, GetsNodeBy, GetsNode, EachPart, ArePlaced}
use Rattle.lg_rank.specs.Meanings.{IsSubject}

pub has_alt : (forest : Forest) (key : Key) (alts : List Alt) (i : ℕ) (a : Alt) → Contains forest.entries (key, alts) → slice_get alts i ≡ Some a → HasAlt forest key a
has_alt forest key alts i a here at = (alts, here, (i, slice_get_within alts i a at, get_or_from_slice_get alts i a a at))

pub alt_of : (positions : List (List Disjunct)) (from : ℕ) (forest : Forest) (is : IsForest positions from forest) (key : Key) (a : Alt) → HasAlt forest key a → IsAltOf positions is.lists key a × IsLive positions is.lists a
alt_of positions from forest is key a (alts, at, has) = ((is.alts key alts at).exactly a).0 has

-- ---- the keys of an alternative are narrower
wide : (lists : List (List Connector)) (positions : List (List Disjunct)) (m : Key) (k : Region) → IsKeyOf lists m k → key_width positions m ≡ k.right - k.left
wide lists positions (Whole nulls) k is = absurd is
wide lists positions (Between l r ll rl n) k is = sym (ap (λ (z : Region). z.right - z.left) is.2)

narrow_whole : (positions : List (List Disjunct)) (lists : List (List Connector)) (nulls : ℕ) (a : Alt) → IsAltOfWhole positions lists nulls a → alt_bound positions a ≤ suc (length positions)
narrow_whole positions lists nulls AllNull is = omega arith
narrow_whole positions lists nulls (At word number None None None (Some rkey)) (c, is) =
    let e = wide lists positions rkey c.rkey is.behind in
    let f = ap (λ (z : Region). z.right - z.left) is.first.rkey in
    omega arith
narrow_whole positions lists nulls (At word number None None None None) is = absurd is
narrow_whole positions lists nulls (At word number None None (Some lkey) rkey) is = absurd is
narrow_whole positions lists nulls (At word number None (Some j) lkey rkey) is = absurd is
narrow_whole positions lists nulls (At word number (Some j) to_right lkey rkey) is = absurd is

narrow_region : (positions : List (List Disjunct)) (lists : List (List Connector)) (k : Region) (a : Alt) → IsAltOfRegion positions lists k a → alt_bound positions a ≤ k.right - k.left
narrow_region positions lists k AllNull is = omega arith
narrow_region positions lists k (At word number to_left to_right (Some lkey) (Some rkey)) (c, is) =
    let e = wide lists positions lkey c.lkey is.before in
    let f = wide lists positions rkey c.rkey is.behind in
    let l = is.cut.ends_left in
    let r = is.cut.ends_right in
    let x = is.cut.after in
    let y = is.cut.before in
    omega arith
narrow_region positions lists k (At word number to_left to_right (Some lkey) None) is = absurd is
narrow_region positions lists k (At word number to_left to_right None rkey) is = absurd is

pub narrow : (positions : List (List Disjunct)) (lists : List (List Connector)) (key : Key) (a : Alt) → IsAltOf positions lists key a → alt_bound positions a ≤ key_width positions key
narrow positions lists (Whole nulls) a is = narrow_whole positions lists nulls a is
narrow positions lists (Between l r ll rl n) a is = narrow_region positions lists (region_of_numbers lists l r ll rl n) a is

-- ---- the parts of a live alternative get nodes
-- a part is a region
part_region : (positions : List (List Disjunct)) (lists : List (List Connector)) (key : Key) (a : Alt) (nulls : ℕ) → IsAltOf positions lists key a → HasKey a (Whole nulls) → ⊥
part_region positions lists (Whole n) AllNull nulls is has = has
part_region positions lists (Whole n) (At word number None None None (Some rkey)) nulls (c, is) has = elim has [ inl e ↦ cc | inr e ↦ (let f : rkey ≡ Whole nulls = cc in subst (λ z. IsKeyOf lists z c.rkey) f is.behind) ]
part_region positions lists (Whole n) (At word number None None None None) nulls is has = is
part_region positions lists (Whole n) (At word number None None (Some lkey) rkey) nulls is has = is
part_region positions lists (Whole n) (At word number None (Some j) lkey rkey) nulls is has = is
part_region positions lists (Whole n) (At word number (Some j) to_right lkey rkey) nulls is has = is
part_region positions lists (Between l r ll rl n) AllNull nulls is has = has
part_region positions lists (Between l r ll rl n) (At word number to_left to_right (Some lkey) (Some rkey)) nulls (c, is) has = elim has [
  | inl e ↦ (let f : lkey ≡ Whole nulls = cc in subst (λ z. IsKeyOf lists z c.lkey) f is.before)
  | inr e ↦ (let f : rkey ≡ Whole nulls = cc in subst (λ z. IsKeyOf lists z c.rkey) f is.behind)
]
part_region positions lists (Between l r ll rl n) (At word number to_left to_right (Some lkey) None) nulls is has = is
part_region positions lists (Between l r ll rl n) (At word number to_left to_right None rkey) nulls is has = is

-- a region whose numbers are not both 0 has a list that is not empty
links_some : (positions : List (List Disjunct)) (lists : List (List Connector)) → NumbersTellListsApart positions lists → (m : Key) → IsValidKey positions lists m → ((nulls : ℕ) → m ≡ Whole nulls → ⊥) → (IsNothing m → ⊥) → IsSubject positions (subject_of lists m)
links_some positions lists numbers (Whole nulls) valid not_whole some = absurd (not_whole nulls refl)
links_some positions lists numbers (Between l r ll rl n) valid not_whole some =
    (valid.2, λ p q. some (numbers.lists_apart ll 0 valid.0 (omega arith) p, numbers.lists_apart rl 0 valid.1 (omega arith) q))

asked_for : (positions : List (List Disjunct)) (lists : List (List Connector)) (key m : Key) (a : Alt) → IsAltOf positions lists key a → IsLive positions lists a → HasKey a m → AsksNext positions lists key m
asked_for positions lists key m AllNull is live has = absurd has
asked_for positions lists key m (At word number to_left to_right lkey rkey) is live has = elim has [
  | inl e ↦ left (At word number to_left to_right lkey rkey) m is e
  | inr e ↦ right (At word number to_left to_right lkey rkey) m is e live.left
]

pub part_gets : (positions : List (List Disjunct)) (from : ℕ) (forest : Forest) (is : IsForest positions from forest) → NumbersTellListsApart positions is.lists → (key m : Key) (a : Alt) → GetsNodeBy positions is.lists from forest.unused key → HasAlt forest key a → HasKey a m → (IsNothing m → ⊥)
    → GetsNodeBy positions is.lists from forest.unused m
part_gets positions from forest is numbers key m a gets at has some =
    let alt = alt_of positions from forest is key a at in
    let valid = numbers.valid_below key a m gets.valid alt.0 has in
    let d = gets.demanded in record {
      valid = valid;
      links = links_some positions is.lists numbers m valid (λ nulls e. part_region positions is.lists key a nulls alt.0 (subst (λ z. HasKey a z) e has)) some;
      demanded = (d.0, d.1, d.2, onward (Whole d.0) key m d.3 (asked_for positions is.lists key m a alt.0 alt.1 has));
    }

-- so does the whole sentence, where some position is linked
pub root_gets : (positions : List (List Disjunct)) (from : ℕ) (forest : Forest) (is : IsForest positions from forest) (nulls : ℕ) → nulls ≡ forest.unused → nulls < length positions → GetsNodeBy positions is.lists from forest.unused (Whole nulls)
root_gets positions from forest is nulls e less =
    let ends = is.ends in
    record { valid = omega arith; links = less; demanded = (nulls, omega arith, omega arith, itself (Whole nulls)) }

-- ---- a list of keys that grows
pub at_end : {A : Type 0} (xs : List A) (x : A) → slice_get (xs ++ x ∷ []) (length xs) ≡ Some x
at_end [] x = refl
at_end (y ∷ xs) x = at_end xs x

pub at_front : {A : Type 0} (xs ys : List A) (i : ℕ) (x : A) → slice_get xs i ≡ Some x → slice_get (xs ++ ys) i ≡ Some x
at_front [] ys i x e = absurd cc
at_front (y ∷ xs) ys zero x e = e
at_front (y ∷ xs) ys (suc i) x e = at_front xs ys i x e

-- what stands in a list with one more
pub at_cases : {A : Type 0} (xs : List A) (y : A) (i : ℕ) (x : A) → slice_get (xs ++ y ∷ []) i ≡ Some x → (slice_get xs i ≡ Some x) ⊎ ((i ≡ length xs) × (y ≡ x))
at_cases [] y zero x e = inr (refl, cc)
at_cases [] y (suc i) x e = absurd cc
at_cases (z ∷ xs) y zero x e = inl e
at_cases (z ∷ xs) y (suc i) x e = elim (at_cases xs y i x e) [ inl f ↦ inl f | inr f ↦ inr (ap suc f.0, f.1) ]

pub extends_all : {A : Type 0} (xs : List A) → Extends xs xs
extends_all xs i x e = e

pub extends_then : {A : Type 0} (xs ys zs : List A) → Extends xs ys → Extends ys zs → Extends xs zs
extends_then xs ys zs f g i x e = g i x (f i x e)

before_more : (old new : List Key) (k : ℕ) (m : Key) → Extends old new → IsNothing m ⊎ IsBefore old k m → IsNothing m ⊎ IsBefore new k m
before_more old new k m more h = elim h [ inl n ↦ inl n | inr at ↦ inr (at.0, at.1, more at.0 m at.2) ]

before_end : (old new : List Key) (m : Key) → Extends old new → IsNothing m ⊎ IsIn old m → IsNothing m ⊎ IsBefore new (length old) m
before_end old new m more h = elim h [ inl n ↦ inl n | inr at ↦ inr (at.0, slice_get_within old at.0 m at.1, more at.0 m at.1) ]

-- keys with one more at the end, all of whose parts are there
pub placed_pushed : (positions : List (List Disjunct)) (forest : Forest) (old : List Key) (key : Key) → ArePlaced positions forest old → GetsNode positions forest key → EachPart forest key (IsIn old) → ArePlaced positions forest (old ++ key ∷ [])
placed_pushed positions forest old key placed gets parts =
    let more : Extends old (old ++ key ∷ []) = λ i x at. at_front old (key ∷ []) i x at in record {
      each = λ k m at. elim (at_cases old key k m at) [ inl e ↦ placed.each k m e | inr e ↦ subst (λ z. GetsNode positions forest z) e.1 gets ];
      below = λ k m at a part alt has. elim (at_cases old key k m at) [
        | inl e ↦ before_more old (old ++ key ∷ []) k part more (placed.below k m e a part alt has)
        | inr e ↦ (
            let r = before_end old (old ++ key ∷ []) part more (parts a part (subst (λ z. HasAlt forest z a) (sym e.1) alt) has) in
            subst (λ z. IsNothing part ⊎ IsBefore (old ++ key ∷ []) z part) (sym e.0) r)
      ];
    }

-- a key that is not in the forest has no alternative
pub contains_map : {X Y : Type 0} (f : X → Y) (xs : List X) (x : X) → Contains xs x → Contains (map f xs) (f x)
contains_map f [] x (k, l, e) = absurd (omega arith)
contains_map f (y ∷ xs) x (zero, l, e) = (zero, omega arith, ap f e)
contains_map f (y ∷ xs) x (suc k, l, e) = let r = contains_map f xs x (k, omega arith, e) in let lt = r.1 in (suc r.0, omega arith, r.2)
