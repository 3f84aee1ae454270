-- Groups of a region, one after another.
use Rattle.std.proofs.Common.{◌≡◌, ℕ, ◌<◌, ◌≤◌, List, [], ◌∷◌, ◌++◌, length, get_or, refl, sym, ◌∙◌, ap, subst, inl, inr, Contains, arith, append_assoc, append-nil}
use Rattle.std.proofs.lemmas.List.Elements.{Contains-append_left, Contains-append_right, Contains-append_cases}
use Rattle.std.proofs.lemmas.Option.{slice_get_within, slice_get-get_or}
use Rattle.lg_region.specs.Fronts.{Numbering}
use Rattle.lg_region.specs.Groups.{region_of_gap, AddsIn, IsGroup, IsNextLed, Leads, StandsIn}
use Rattle.lg_region.specs.Keys.{IsAltOfRegion}
use Rattle.lg_region.specs.Openings.{AreApart, GroupsOfWord, IsIn}
use Rattle.lg_region.specs.Ways.{AddsExactly}
use Rattle.lg_region.specs.declared.alternative.Alt.{Alt}
use Rattle.lg_region.specs.declared.alternative.Alt.TheVariants.{AllNull, Split as At}
use Rattle.lg_region.specs.declared.group.Gap.{Gap}
use Rattle.lg_region.specs.declared.group.Group.{Group}
use Rattle.lg_base.proofs.Elements.{contains_here, contains_none, contains_cases}
use Rattle.lg_region.proofs.Numbers.{get_contains}
use Rattle.lg_region.proofs.Once.{HaveOne, OfPlace, Upto, adds_all, append_cases}
use Rattle.lg_region.proofs.Expanding.{none_led, in_split}

-- what is read where nothing is
abbrev pub no_group : Group
no_group = record { word = 0; left = 0; from = 0; to = 0 }

abbrev In : Group → Alt → Type 0
In g a = StandsIn g.word g.from g.to a

apart_none : AreApart []
apart_none i j g h a e f = absurd cc

apart_one : (g : Group) → AreApart (g ∷ [])
apart_one g i j x y a e f s t = let m = slice_get_within (g ∷ []) i x e in let n = slice_get_within (g ∷ []) j y f in omega arith

apart_append : (xs ys : List Group) → AreApart xs → AreApart ys → ((g h : Group) (a : Alt) → Contains xs g → Contains ys h → In g a → In h a → ⊥) → AreApart (xs ++ ys)
apart_append xs ys ax ay d i j g h a e f s t =
    elim (append_cases xs ys i g e) [
      | inl p ↦ elim (append_cases xs ys j h f) [
        | inl q ↦ ax i j g h a p q s t
        | inr q ↦ absurd (d g h a (get_contains xs i g p) (get_contains ys q.0 h q.2) s t)
      ]
      | inr p ↦ elim (append_cases xs ys j h f) [
        | inl q ↦ absurd (d h g a (get_contains xs j h q) (get_contains ys p.0 g p.2) t s)
        | inr q ↦ (let e' = ay p.0 q.0 g h a p.2 q.2 s t in let u = p.1 in let v = q.1 in omega arith)
      ]
    ]

-- an alternative has one number
one_number : (w from to w' from' to' : ℕ) (a : Alt) → to ≤ from' → StandsIn w from to a → StandsIn w' from' to' a → ⊥
one_number w from to w' from' to' AllNull l s t = absurd s
one_number w from to w' from' to' (At v number tl tr lk rk) l s t = let x = s.2 in let y = t.1 in omega arith

-- up to the first disjunct of the class no alternative stands
pub groups_none : (n : Numbering) (gap : Gap) (word first : ℕ) (old : List Group) → Leads gap.lead n.positions (region_of_gap n.lists gap) → IsNextLed n gap.lead word 0 first → GroupsOfWord n gap word first old old
groups_none n gap word first old led is =
    record {
      more = [];
      added = sym (append-nil old);
      each = λ g c. absurd (contains_none g c);
      some = λ a i s. absurd (none_led n gap word 0 first a led is i s);
      apart = apart_none;
    }

-- one more group
pub groups_more : (n : Numbering) (gap : Gap) (word left from to : ℕ) (old mid new : List Group) → from ≤ to → IsGroup n gap (record { word = word; left = left; from = from; to = to })
    → GroupsOfWord n gap word from old mid → new ≡ mid ++ record { word = word; left = left; from = from; to = to } ∷ [] → GroupsOfWord n gap word to old new
groups_more n gap word left from to old mid new le is p e =
    let g : Group = record { word = word; left = left; from = from; to = to } in
    let last = g ∷ [] in record {
      more = p.more ++ last;
      added = e ∙ ap (λ z. z ++ last) p.added ∙ append_assoc old p.more last;
      each = λ h c. elim (Contains-append_cases p.more last h c) [
        | inl d ↦ (let x = p.each h d in let y = x.2 in (x.0, x.1, omega arith))
        | inr d ↦ elim (contains_cases g [] h d) [
          | inl q ↦ subst (λ z. IsGroup n gap z × (z.word ≡ word) × (z.to ≤ to)) q (is, refl, omega arith)
          | inr d' ↦ absurd (contains_none h d')
        ]
      ];
      some = λ a i s. elim (in_split word from to a s) [
        | inl t ↦ (let x = p.some a i t in (x.0, Contains-append_left p.more last x.0 x.1, x.2))
        | inr t ↦ (g, Contains-append_right p.more last g (contains_here g []), t)
      ];
      apart = apart_append p.more last p.apart (apart_one g)
          (λ x y a c d s t. elim (contains_cases g [] y d) [
            | inl q ↦ one_number x.word x.from x.to word from to a (p.each x c).2 s (subst (λ z. In z a) (sym q) t)
            | inr d' ↦ contains_none y d'
          ]);
    }

pub same_groups : (n : Numbering) (gap : Gap) (word : ℕ) (xs ys : List Group) → xs ≡ ys → GroupsOfWord n gap word (length (get_or n.positions word [])) [] ys → GroupsOfWord n gap word (length (get_or n.positions word [])) [] xs
same_groups n gap word xs ys e of = subst (GroupsOfWord n gap word (length (get_or n.positions word [])) []) (sym e) of

-- all groups of a word
module _ (n : Numbering) (gap : Gap) (word : ℕ) (gs : List Group) (of : GroupsOfWord n gap word (length (get_or n.positions word [])) [] gs) where
  group_there : (g : Group) → Contains gs g → IsGroup n gap g × (g.word ≡ word) × (g.to ≤ length (get_or n.positions word []))
  group_there g c = of.each g (subst (λ z. Contains z g) of.added c)

  pub group_at : (i : ℕ) → i < length gs → IsGroup n gap (get_or gs i no_group)
  group_at i l = let g = get_or gs i no_group in (group_there g (get_contains gs i g (slice_get-get_or gs i no_group l))).0

  pub groups_apart : HaveOne (OfPlace (IsIn n gap) gs)
  groups_apart i j a (g, at, s) (h, at', t) = subst AreApart (sym of.added) of.apart i j g h a at at' s.1 t.1

  wider : (g : Group) → Contains gs g → (a : Alt) → In g a → StandsIn word 0 (length (get_or n.positions word [])) a
  wider g c AllNull s = absurd s
  wider g c (At v number tl tr lk rk) s = let r = group_there g c in let l = r.2 in let k = s.2 in (s.0 ∙ r.1, omega arith, omega arith)

  pub groups_all : (i : ℕ) (old new : List Alt) → length gs ≤ i → AddsExactly old new (Upto (OfPlace (IsIn n gap) gs) i) → AddsIn n gap word 0 (length (get_or n.positions word [])) old new
  groups_all i old new l x =
      adds_all (IsIn n gap) gs i old new (λ a. IsAltOfRegion n.positions n.lists (region_of_gap n.lists gap) a × StandsIn word 0 (length (get_or n.positions word [])) a) l
      (λ a. (
        λ (g, c, (is, s)). (is, wider g c a s),
        λ (is, s). let r = of.some a is s in (r.0, subst (λ z. Contains z r.0) (sym of.added) r.1, (is, r.2)),
      )) x
