-- The keys of a forest, and those of its alternatives.
use Rattle.std.proofs.Common.{◌≡◌, ℕ, suc, ◌≤◌, ◌⊎◌, inl, inr, refl, sym, ap, ◌∙◌, subst, List, [], ◌∷◌, ◌++◌, take, length, Option, Some, None, IfSome, is_none, Contains, slice_get, arith}
use Rattle.std.specs.Map.{keys_of}
use Rattle.std.proofs.lemmas.List.{take_all}
use Rattle.std.proofs.lemmas.List.Sums.{count_by-le-length}
use Rattle.std.proofs.lemmas.List.Elements.{Contains-append_left, Contains-push, Contains-push_cases}
use Rattle.std.proofs.lemmas.Option.{slice_get_within, get_or_from_slice_get}
use Rattle.std.proofs.Math.Seq.{take-suc}
use Rattle.lg_gram.specs.Connectors.{Connector}
use Rattle.lg_gram.specs.Linkages.{Linkage}
use Rattle.lg_gram.specs.declared.disjunct.Disjunct.{Disjunct}
use Rattle.lg_region.specs.Fronts.{Numbering}
use Rattle.lg_region.specs.Parts.{UnderWhole}
use Rattle.lg_region.specs.Keys.{IsValidKey, IsAltOf, IsAltOfWhole}
use Rattle.lg_region.specs.declared.key.Key.{Key}
use Rattle.lg_region.specs.declared.key.Key.TheVariants.{Whole}
use Rattle.lg_region.specs.declared.alternative.Alt.{Alt}
use Rattle.lg_region.specs.declared.alternative.Alt.TheVariants.{AllNull, Split as At}
use Rattle.lg_forest.specs.Demands.{HasLinkageUnder, AsksNext, Reaches, left_key, right_key}
use Rattle.lg_forest.specs.Demands.AsksNext.{left, right}
use Rattle.lg_forest.specs.Demands.Reaches.{itself, onward}
use Rattle.lg_forest.specs.Forests.{Forest, IsForest, IsLive}
use Rattle.lg_forest.specs.Search.{KeysAreDecided}
use Rattle.lg_forest.specs.Drafts.{Draft, UnderKey, AreDraftsOf, IsSpelled, LinkagesAreSpelled, HasAlt}
use Rattle.lg_forest.proofs.Once.{contains_map, contains_none}
use Rattle.lg_forest.proofs.Asked.{next_narrow}
use Rattle.lg_forest.proofs.Drafted.{drafts_then, drafts_as}

abbrev n_of : List (List Disjunct) → List (List Connector) → Numbering
n_of positions lists = record { positions = positions; lists = lists }

-- the whole sentence has alternatives only where it may be asked for
whole_few : (positions : List (List Disjunct)) (lists : List (List Connector)) (nulls : ℕ) (a : Alt) → IsAltOfWhole positions lists nulls a → nulls ≤ length positions
whole_few positions lists nulls AllNull is = omega arith
whole_few positions lists nulls (At word number None None None (Some rkey)) (c, is) = let a = is.first.before in let b = is.first.enough in let d = is.first.few in omega arith
whole_few positions lists nulls (At word number None None None None) is = absurd is
whole_few positions lists nulls (At word number None None (Some lkey) rkey) is = absurd is
whole_few positions lists nulls (At word number None (Some j) lkey rkey) is = absurd is
whole_few positions lists nulls (At word number (Some j) to_right lkey rkey) is = absurd is

asked_few : (positions : List (List Disjunct)) (lists : List (List Connector)) (nulls : ℕ) (m : Key) → AsksNext positions lists (Whole nulls) m → nulls ≤ length positions
asked_few positions lists nulls m (left a next is e) = whole_few positions lists nulls a is
asked_few positions lists nulls m (right a next is e h) = whole_few positions lists nulls a is

reached_valid : (positions : List (List Disjunct)) (lists : List (List Connector)) (nulls : ℕ) (w k : Key) → KeysAreDecided (n_of positions lists) → Reaches positions lists w k → w ≡ Whole nulls → (k ≡ Whole nulls) ⊎ IsValidKey positions lists k
reached_valid positions lists nulls _ _ d (itself k) e = inl e
reached_valid positions lists nulls _ _ d (onward k m p r a) e =
    elim (reached_valid positions lists nulls k m d r e) [
      | inl f ↦ (let few = asked_few positions lists nulls p (subst (λ z. AsksNext positions lists z p) f a) in
          inr (next_narrow (n_of positions lists) (Whole nulls) p d few (subst (λ z. AsksNext positions lists z p) f a)).0)
      | inr v ↦ inr (next_narrow (n_of positions lists) m p d v a).0
    ]

has_few : (positions : List (List Disjunct)) (lists : List (List Connector)) (nulls : ℕ) → HasLinkageUnder positions lists (Whole nulls) → nulls ≤ length positions
has_few positions lists nulls (g, u) = let a = count_by-le-length is_none g.chosen in let b = u.count in let c = u.good.belongs.same_length in omega arith

-- each key of a forest may be asked for
pub forest_valid : (positions : List (List Disjunct)) (from : ℕ) (forest : Forest) (is : IsForest positions from forest) → KeysAreDecided (n_of positions is.lists) → (k : Key) → Contains (keys_of forest.entries) k → IsValidKey positions is.lists k
forest_valid positions from forest is d k has =
    let (demanded, linkage) = (is.nodes k).0 has in
    elim (reached_valid positions is.lists demanded.0 (Whole demanded.0) k d demanded.3 refl) [
      | inl e ↦ subst (λ z. IsValidKey positions is.lists z) (sym e) (has_few positions is.lists demanded.0 (subst (λ z. HasLinkageUnder positions is.lists z) e linkage))
      | inr v ↦ v
    ]

pub alt_in : (forest : Forest) (k : Key) (a : Alt) → HasAlt forest k a → Contains (keys_of forest.entries) k
alt_in forest k a (alts, at, has) = contains_map (λ (p : Key × List Alt). p.0) forest.entries (k, alts) at

pub alt_of : (positions : List (List Disjunct)) (from : ℕ) (forest : Forest) (is : IsForest positions from forest) (k : Key) (a : Alt) → HasAlt forest k a → IsAltOf positions is.lists k a × IsLive positions is.lists a
alt_of positions from forest is k a (alts, at, has) = ((is.alts k alts at).exactly a).0 has

module _ (positions : List (List Disjunct)) (from : ℕ) (forest : Forest) (is : IsForest positions from forest) (k : Key) (a : Alt) (at : HasAlt forest k a) where
  next_in : (m : Key) → AsksNext positions is.lists k m → HasLinkageUnder positions is.lists m → Contains (keys_of forest.entries) m
  next_in m asks has = let d = ((is.nodes k).0 (alt_in forest k a at)).0 in (is.nodes m).1 ((d.0, d.1, d.2, onward (Whole d.0) k m d.3 asks), has)

  left_in : (o : Option Key) → left_key a ≡ o → IfSome o (HasLinkageUnder positions is.lists) → IfSome o (Contains (keys_of forest.entries))
  left_in None e h = tt
  left_in (Some m) e h = next_in m (left a m (alt_of positions from forest is k a at).0 e) h

  right_in : (o : Option Key) → right_key a ≡ o → IfSome o (HasLinkageUnder positions is.lists) → IfSome o (Contains (keys_of forest.entries))
  right_in None e h = tt
  right_in (Some m) e h = let live = alt_of positions from forest is k a at in next_in m (right a m live.0 e live.1.left) h

  -- the keys of a live alternative are in the forest
  pub keys_in : IfSome (left_key a) (Contains (keys_of forest.entries)) × IfSome (right_key a) (Contains (keys_of forest.entries))
  keys_in = let live = (alt_of positions from forest is k a at).1 in (left_in (left_key a) refl live.left, right_in (right_key a) refl live.right)

-- what the alternatives before a place spell
abbrev pub SpelledBy : List (List Disjunct) → List (List Connector) → Key → List Alt → ℕ → Linkage → Type 0
SpelledBy positions lists k alts i g = (a : Alt) × Contains (take i alts) a × IsSpelled positions lists k a g

pub drafts_more : (positions : List (List Disjunct)) (lists : List (List Connector)) (k : Key) (alts : List Alt) (i j : ℕ) (a : Alt) (ps qs : List Draft) → slice_get alts i ≡ Some a → j ≡ suc i
    → AreDraftsOf positions (SpelledBy positions lists k alts i) ps → AreDraftsOf positions (IsSpelled positions lists k a) qs → AreDraftsOf positions (SpelledBy positions lists k alts j) (ps ++ qs)
drafts_more positions lists k alts i j a ps qs at next x y =
    let lt = slice_get_within alts i a at in
    let e : take j alts ≡ take i alts ++ a ∷ [] = ap (λ z. take z alts) next ∙ take-suc alts i a lt ∙ ap (λ z. take i alts ++ z ∷ []) (get_or_from_slice_get alts i a a at) in
    drafts_then positions (SpelledBy positions lists k alts i) (IsSpelled positions lists k a) (SpelledBy positions lists k alts j) ps qs
    (λ g h. (h.0, subst (λ z. Contains z h.0) (sym e) (Contains-append_left (take i alts) (a ∷ []) h.0 h.1), h.2))
    (λ g h. (a, subst (λ z. Contains z a) (sym e) (Contains-push (take i alts) a), h))
    (λ g h. elim (Contains-push_cases (take i alts) a h.0 (subst (λ z. Contains z h.0) e h.1)) [
      | inl b ↦ inl (h.0, b, h.2)
      | inr f ↦ inr (subst (λ z. IsSpelled positions lists k z g) (sym f) h.2)
    ])
    x y

-- what all alternatives of a key spell lies under it
pub drafts_all : (positions : List (List Disjunct)) (from : ℕ) (forest : Forest) (is : IsForest positions from forest) → KeysAreDecided (n_of positions is.lists) → LinkagesAreSpelled positions is.lists
    → (k : Key) (alts : List Alt) (i : ℕ) (ps : List Draft) → Contains forest.entries (k, alts) → length alts ≤ i → AreDraftsOf positions (SpelledBy positions is.lists k alts i) ps → AreDraftsOf positions (UnderKey positions is.lists k) ps
drafts_all positions from forest is d laws k alts i ps at end x =
    let e = take_all i alts end in
    let v = forest_valid positions from forest is d k (contains_map (λ (p : Key × List Alt). p.0) forest.entries (k, alts) at) in
    drafts_as positions (SpelledBy positions is.lists k alts i) (UnderKey positions is.lists k) ps
    (λ g h. let l = ((is.alts k alts at).exactly h.0).0 (subst (λ z. Contains z h.0) e h.1) in (laws.under k g v).1 (h.0, l.0, l.1, h.2))
    (λ g u. let r = (laws.under k g v).0 u in (r.0, subst (λ z. Contains z r.0) (sym e) (((is.alts k alts at).exactly r.0).1 (r.1, r.2)), r.3))
    x

-- where the whole sentence is not in the forest, it has no linkage
pub whole_none : (positions : List (List Disjunct)) (from : ℕ) (forest : Forest) (is : IsForest positions from forest) (k : Key) → k ≡ Whole forest.unused → (Contains (keys_of forest.entries) k → ⊥) → AreDraftsOf positions (UnderWhole positions forest.unused) []
whole_none positions from forest is k e none = record {
  each = λ p h. absurd (contains_none p h);
  all = λ g u. absurd (none (subst (λ z. Contains (keys_of forest.entries) z) (sym e) ((is.nodes (Whole forest.unused)).1 ((forest.unused, is.ends, omega arith, itself (Whole forest.unused)), (g, u)))));
}
