-- The numbers and names of a page's candidates, one after another.
use Rattle.std.proofs.Common.{◌≡◌, ℕ, ◌+◌, ◌<◌, List, [], ◌∷◌, ◌++◌, length, map, get_or, take, Contains, inl, inr, sym, ap, ◌∙◌, subst, arith}
use Rattle.std.specs.List.{All, AllZip, flat_map, range_with_len}
use Rattle.std.proofs.lemmas.Bool.{cases_lt}
use Rattle.std.proofs.lemmas.Grind.{flat_map-append, same_number_lists}
use Rattle.std.proofs.lemmas.List.{append-nil, get_or-map, length-map, map-append, take_more}
use Rattle.std.proofs.lemmas.List.Elements.{All-map, All-contains, Contains-get_or}
use Rattle.std.proofs.lemmas.List.FromFn.{length-range_with_len, get_or-range_with_len}
use Rattle.lg_base.proofs.Elements.{contains_here, contains_cases, contains_none, map_in, flat_in}
use Rattle.lg_gram.specs.Linkages.{Linkage}
use Rattle.lg_gram.specs.declared.listing.Token.{Token}
use Rattle.lg_dict.specs.Dictionary.{Dictionary}
use Rattle.lg_knowread.specs.declared.knowledge.Knowledge.{Knowledge}
use Rattle.lg_audit.specs.Lines.{ShownLinkage}
use Rattle.lg_audit.specs.Pages.{IsOneOf, AreOnesOf}
use Rattle.lg_audit.specs.Replies.{number_of, linkages_of, IsNamed}
use Rattle.lg_audit.specs.Views.{item_of}
use Rattle.lg_audit.specs.declared.shown.ShownItem.{ShownItem as Item}

-- ---- numbers

abbrev pub numbers : List Item → List ℕ
numbers items = map number_of (map item_of items)

-- each of the first i is as many behind `from` as its place
abbrev pub AreFrom : ℕ → List Item → ℕ → Type 0
AreFrom from items i = (k : ℕ) → k < i → get_or (numbers items) k 0 ≡ from + k

length_numbers : (items : List Item) → length (numbers items) ≡ length items
length_numbers items = length-map (map item_of items) number_of ∙ length-map items item_of

number_at : (items : List Item) (i : ℕ) (x : Item) → i < length items → x ≡ get_or items i x → get_or (numbers items) i 0 ≡ number_of (item_of x)
number_at items i x within read =
    let inner : i < length (map item_of items) = (let same = length-map items item_of in omega arith) in
    get_or-map number_of (map item_of items) i (item_of x) 0 inner ∙ ap number_of (get_or-map item_of items i x (item_of x) within) ∙ sym (ap (λ (y : Item). number_of (item_of y)) read)

pub from_more : (from : ℕ) (items : List Item) (i : ℕ) (x : Item) → i < length items → x ≡ get_or items i x → AreFrom from items i → number_of (item_of x) ≡ from + i → AreFrom from items (i + 1)
from_more from items i x within read before is k less =
    elim (cases_lt k i) [
      | inl earlier ↦ before k earlier
      | inr later ↦ (let same : i ≡ k = omega (arith, less, later) in subst (λ (n : ℕ). get_or (numbers items) n 0 ≡ from + n) same (number_at items i x within read ∙ is))
    ]

pub from_all : (from : ℕ) (items : List Item) (i : ℕ) → length items ≡ i → AreFrom from items i → numbers items ≡ range_with_len from (length items)
from_all from items i end all =
    same_number_lists (numbers items) (range_with_len from (length items)) (length_numbers items ∙ sym (length-range_with_len from (length items)))
    (λ k less. (let within : k < length items = (let same = length_numbers items in omega (arith, less, same)) in
    all k (omega (arith, within, end)) ∙ sym (get_or-range_with_len from (length items) k 0 within)))

pub not_from : (from : ℕ) (items : List Item) (i : ℕ) (x : Item) → i < length items → x ≡ get_or items i x → (number_of (item_of x) ≡ from + i → ⊥) → numbers items ≡ range_with_len from (length items) → ⊥
not_from from items i x within read never same =
    never (sym (number_at items i x within read) ∙ ap (λ (ns : List ℕ). get_or ns i 0) same ∙ get_or-range_with_len from (length items) i 0 within)

-- ---- names

module _ (know : Knowledge) (tokens : List Token) (items : List Item) where
  pub all_named : All (λ (x : Item). IsNamed know tokens (item_of x)) items → All (IsNamed know tokens) (map item_of items)
  all_named all = All-map (IsNamed know tokens) item_of items all

  pub not_named : (i : ℕ) (x : Item) → i < length items → x ≡ get_or items i x → (IsNamed know tokens (item_of x) → ⊥) → All (IsNamed know tokens) (map item_of items) → ⊥
  not_named i x within read never all =
      never (All-contains (IsNamed know tokens) (map item_of items) (item_of x) all (map_in item_of items x (subst (Contains items) (sym read) (Contains-get_or items i x within))))

-- ---- linkages

abbrev pub shown_on : List Item → List ShownLinkage
shown_on items = flat_map linkages_of (map item_of items)

on_more : (items : List Item) (i : ℕ) (x : Item) → i < length items → x ≡ get_or items i x → shown_on (take (i + 1) items) ≡ shown_on (take i items) ++ linkages_of (item_of x)
on_more items i x within read =
    let longer : take (i + 1) items ≡ take i items ++ x ∷ [] = take_more items i x within ∙ ap (λ (y : Item). take i items ++ y ∷ []) (sym read) in
    ap shown_on longer ∙ ap (flat_map linkages_of) (map-append item_of (take i items) (x ∷ [])) ∙ flat_map-append linkages_of (map item_of (take i items)) (item_of x ∷ [])
    ∙ ap (λ (ss : List ShownLinkage). shown_on (take i items) ++ ss) (append-nil (linkages_of (item_of x)))

zip_push : {A B : Type 0} (R : A → B → Type 0) (xs : List A) (ys : List B) (x : A) (y : B) → AllZip R xs ys → R x y → AllZip R (xs ++ x ∷ []) (ys ++ y ∷ [])
zip_push R [] [] x y all r = (r, tt)
zip_push R (v ∷ xs) (w ∷ ys) x y all r = (all.0, zip_push R xs ys x y all.1 r)
zip_push R [] (w ∷ ys) x y all r = absurd all
zip_push R (v ∷ xs) [] x y all r = absurd all

-- the other of a pair
record Partner {A B : Type 0} (R : A → B → Type 0) (x : A) : Type 0 where
  other : B
  joined : R x other

zip_partner : {A B : Type 0} (R : A → B → Type 0) (xs : List A) (ys : List B) (x : A) → AllZip R xs ys → Contains xs x → Partner R x
zip_partner R [] ys x all has = absurd (contains_none x has)
zip_partner R (v ∷ xs) [] x all has = absurd all
zip_partner R (v ∷ xs) (w ∷ ys) x all has =
    elim (contains_cases v xs x has) [
      | inl same ↦ record { other = w; joined = subst (λ z. R z w) same all.0 }
      | inr later ↦ zip_partner R xs ys x all.1 later
    ]

on_contains : (items : List Item) (x : Item) (s : ShownLinkage) → Contains items x → linkages_of (item_of x) ≡ s ∷ [] → Contains (shown_on items) s
on_contains items x s has is = flat_in linkages_of (map item_of items) (item_of x) s (map_in item_of items x has) (subst (λ (ss : List ShownLinkage). Contains ss s) (sym is) (contains_here s []))

module _ (know : Knowledge) (dict : Dictionary) (tokens : List Token) (items : List Item) (i : ℕ) (x : Item) (within : i < length items) (read : x ≡ get_or items i x) where
  pub ones_more : (gs new : List Linkage) (s : ShownLinkage) (g : Linkage) → linkages_of (item_of x) ≡ s ∷ [] → new ≡ gs ++ g ∷ [] → IsOneOf know dict tokens s g
      → AreOnesOf know dict tokens (shown_on (take i items)) gs → AreOnesOf know dict tokens (shown_on (take (i + 1) items)) new
  ones_more gs new s g some grown one ones =
      subst (AreOnesOf know dict tokens (shown_on (take (i + 1) items))) (sym grown)
      (subst (λ (ss : List ShownLinkage). AreOnesOf know dict tokens ss (gs ++ g ∷ []))
      (sym (on_more items i x within read ∙ ap (λ (ss : List ShownLinkage). shown_on (take i items) ++ ss) some))
      (zip_push (IsOneOf know dict tokens) (shown_on (take i items)) gs s g ones one))

  pub ones_never : (s : ShownLinkage) → linkages_of (item_of x) ≡ s ∷ [] → ((g : Linkage) → IsOneOf know dict tokens s g → ⊥) → (gs : List Linkage) → AreOnesOf know dict tokens (shown_on items) gs → ⊥
  ones_never s some never gs ones =
      let p = zip_partner (IsOneOf know dict tokens) (shown_on items) gs s ones (on_contains items x s (subst (Contains items) (sym read) (Contains-get_or items i x within)) some) in
      never p.other p.joined
