-- Drafts of the parts of a linkage make one of the whole.
use Rattle.std.proofs.Common.{◌≡◌, ◌↔◌, ℕ, zero, suc, ◌+◌, ◌<◌, ◌⊎◌, inl, inr, refl, sym, ap, ◌∙◌, subst, true, false, ◌&&◌, nat_lt, List, [], ◌∷◌, ◌++◌, length, get_or, replicate, map, Option, Some, None, IsSome, Contains, arith}
use Rattle.std.specs.List.{flat_map}
use Rattle.std.specs.List.Sorted.{IsStrictlySortedBy}
use Rattle.std.proofs.lemmas.Bool.{cases_lt}
use Rattle.std.proofs.lemmas.Bool.Decides.{nat_tests}
use Rattle.std.proofs.lemmas.List.{length-replicate}
use Rattle.std.proofs.lemmas.List.Elements.{Contains-append_cases, Contains-append_left, Contains-append_right}
use Rattle.lg_gram.specs.Linkages.{Linkage}
use Rattle.lg_gram.specs.Rules.{Belongs, HasLink, IsLinked, chosen_at}
use Rattle.lg_gram.specs.declared.disjunct.Disjunct.{Disjunct}
use Rattle.lg_gram.specs.declared.linkage.Link.{Link}
use Rattle.lg_region.specs.Parts.{IsPart, part_of, choice_within, is_within}
use Rattle.lg_region.specs.Cuts.{IsEmpty}
use Rattle.lg_region.specs.Keys.{IsDisjunctAt}
use Rattle.lg_forest.specs.Drafts.{Draft, IsDraftOf, AreDraftsOf, joined, empty}
use Rattle.lg_forest.specs.declared.draft.Use.{Use}
use Rattle.lg_forest.proofs.Once.{contains_here, contains_none, contains_cases, contains_later, filter_out}

-- what a part chooses
test_in : (L R s : ℕ) → L < s → s < R → (nat_lt L s && nat_lt s R) ≡ true
test_in L R s x y = grind (arith, nat_tests)

test_out : (L R s : ℕ) → (L < s → s < R → ⊥) → (nat_lt L s && nat_lt s R) ≡ false
test_out L R s x = grind (arith, nat_tests)

choice_in : (s L R : ℕ) (os : List (Option Disjunct)) (i : ℕ) → L < s + i → s + i < R → get_or (choice_within s L R os) i None ≡ get_or os i None
choice_in s L R [] i x y = refl
choice_in s L R (o ∷ os) zero x y = rw (test_in L R s (omega arith) (omega arith)) refl
choice_in s L R (o ∷ os) (suc i) x y = choice_in (suc s) L R os i (omega arith) (omega arith)

choice_out : (s L R : ℕ) (os : List (Option Disjunct)) (i : ℕ) → (L < s + i → s + i < R → ⊥) → get_or (choice_within s L R os) i None ≡ None
choice_out s L R [] i x = refl
choice_out s L R (o ∷ os) zero x = rw (test_out L R s (λ a b. x (omega arith) (omega arith))) refl
choice_out s L R (o ∷ os) (suc i) x = choice_out (suc s) L R os i (λ a b. x (omega arith) (omega arith))

none_some : {X : Type 0} (x : X) → ◌≡◌ {A = Option X} None (Some x) → ⊥
none_some x e = cc

some_is : {X : Type 0} (x y : X) → ◌≡◌ {A = Option X} (Some x) (Some y) → x ≡ y
some_is x y e = cc

pub some_part : (L R : ℕ) (g : Linkage) (i : ℕ) (d : Disjunct) → L < i → i < R → chosen_at g i ≡ Some d → chosen_at (part_of L R g) i ≡ Some d
some_part L R g i d x y e = choice_in 0 L R g.chosen i (omega arith) (omega arith) ∙ e

pub part_some : (L R : ℕ) (g : Linkage) (i : ℕ) (d : Disjunct) → chosen_at (part_of L R g) i ≡ Some d → (L < i) × (i < R) × (chosen_at g i ≡ Some d)
part_some L R g i d e =
    elim (cases_lt L i) [
      | inl x ↦ elim (cases_lt i R) [
        | inl y ↦ (x, y, sym (choice_in 0 L R g.chosen i (omega arith) (omega arith)) ∙ e)
        | inr y ↦ absurd (none_some d (sym (choice_out 0 L R g.chosen i (λ p q. absurd (omega arith))) ∙ e))
      ]
      | inr x ↦ absurd (none_some d (sym (choice_out 0 L R g.chosen i (λ p q. absurd (omega arith))) ∙ e))
    ]

pub part_link : (L R : ℕ) (g : Linkage) (l : Link) → HasLink (part_of L R g) l → HasLink g l
part_link L R g l h = (filter_out (is_within L R) g.links l h).0

-- a word uses a disjunct in a draft
abbrev pub UsesAt : List (List Disjunct) → Draft → ℕ → Disjunct → Type 0
UsesAt positions p i d = (u : Use) × Contains p.uses u × (u.word ≡ i) × IsDisjunctAt positions i u.disjunct d

uses_cases : (positions : List (List Disjunct)) (u : Use) (joints : List Link) (p q : Draft) (i : ℕ) (d : Disjunct) → UsesAt positions (joined u joints p q) i d → UsesAt positions p i d ⊎ (UsesAt positions q i d ⊎ ((u.word ≡ i) × IsDisjunctAt positions i u.disjunct d))
uses_cases positions u joints p q i d (v, has, at, is) =
    elim (Contains-append_cases p.uses (q.uses ++ u ∷ []) v has) [
      | inl a ↦ inl (v, a, at, is)
      | inr b ↦ elim (Contains-append_cases q.uses (u ∷ []) v b) [
        | inl c ↦ inr (inl (v, c, at, is))
        | inr c ↦ elim (contains_cases u [] v c) [
          | inl e ↦ inr (inr (ap (λ (z : Use). z.word) e ∙ at, subst (λ z. IsDisjunctAt positions i z d) (sym (ap (λ (z : Use). z.disjunct) e)) is))
          | inr n ↦ absurd (contains_none v n)
        ]
      ]
    ]

uses_left : (positions : List (List Disjunct)) (u : Use) (joints : List Link) (p q : Draft) (i : ℕ) (d : Disjunct) → UsesAt positions p i d → UsesAt positions (joined u joints p q) i d
uses_left positions u joints p q i d (v, has, at, is) = (v, Contains-append_left p.uses (q.uses ++ u ∷ []) v has, at, is)

uses_right : (positions : List (List Disjunct)) (u : Use) (joints : List Link) (p q : Draft) (i : ℕ) (d : Disjunct) → UsesAt positions q i d → UsesAt positions (joined u joints p q) i d
uses_right positions u joints p q i d (v, has, at, is) = (v, Contains-append_right p.uses (q.uses ++ u ∷ []) v (Contains-append_left q.uses (u ∷ []) v has), at, is)

uses_word : (positions : List (List Disjunct)) (u : Use) (joints : List Link) (p q : Draft) (i : ℕ) (d : Disjunct) → u.word ≡ i → IsDisjunctAt positions i u.disjunct d → UsesAt positions (joined u joints p q) i d
uses_word positions u joints p q i d at is = (u, Contains-append_right p.uses (q.uses ++ u ∷ []) u (Contains-append_right q.uses (u ∷ []) u (contains_here u [])), at, is)

-- the drafts of what stands before a word and behind it, with the word and the joints
pub draft_joined : (positions : List (List Disjunct)) (g : Linkage) (W : ℕ) (d0 : Disjunct) (u : Use) (joints : List Link) (p q : Draft)
    → Belongs positions g → chosen_at g W ≡ Some d0 → u.word ≡ W → IsDisjunctAt positions W u.disjunct d0
    → ((i : ℕ) (d : Disjunct) → UsesAt positions p i d ↔ ((i < W) × (chosen_at g i ≡ Some d)))
    → ((i : ℕ) (d : Disjunct) → UsesAt positions q i d ↔ ((W < i) × (chosen_at g i ≡ Some d)))
    → ((l : Link) → HasLink g l ↔ (Contains p.links l ⊎ (Contains q.links l ⊎ Contains joints l)))
    → IsDraftOf positions (joined u joints p q) g
draft_joined positions g W d0 u joints p q belongs word at is before behind links = record {
  belongs = belongs;
  uses = λ i d. (
    (λ e. elim (cases_lt i W) [
      | inl x ↦ uses_left positions u joints p q i d ((before i d).1 (x, e))
      | inr x ↦ elim (cases_lt W i) [
        | inl y ↦ uses_right positions u joints p q i d ((behind i d).1 (y, e))
        | inr y ↦ (let f : W ≡ i = omega arith in
            let s = some_is d0 d (sym word ∙ ap (chosen_at g) f ∙ e) in
            uses_word positions u joints p q i d (at ∙ f) (subst (λ z. IsDisjunctAt positions z u.disjunct d) f (subst (λ z. IsDisjunctAt positions W u.disjunct z) s is)))
      ]
    ]),
    (λ h. elim (uses_cases positions u joints p q i d h) [
      | inl a ↦ ((before i d).0 a).1
      | inr b ↦ elim b [
        | inl a ↦ ((behind i d).0 a).1
        | inr c ↦ (let f = sym at ∙ c.0 in
            let s = some_is d0 d (sym (subst (λ z. IsDisjunctAt positions z u.disjunct d0) f is) ∙ c.1) in
            ap (chosen_at g) (sym f) ∙ word ∙ ap Some s)
      ]
    ]),
  );
  links = λ l. (
    (λ h. elim ((links l).0 h) [
      | inl a ↦ Contains-append_left p.links (q.links ++ joints) l a
      | inr b ↦ Contains-append_right p.links (q.links ++ joints) l (elim b [ inl a ↦ Contains-append_left q.links joints l a | inr a ↦ Contains-append_right q.links joints l a ])
    ]),
    (λ h. (links l).1 (elim (Contains-append_cases p.links (q.links ++ joints) l h) [ inl a ↦ inl a | inr b ↦ inr (Contains-append_cases q.links joints l b) ])),
  );
}

-- the linkage in which no word is linked
abbrev pub nothing_of : List (List Disjunct) → Linkage
nothing_of positions = record { chosen = replicate (length positions) None; links = [] }

nothing_at : (n i : ℕ) → get_or (replicate {A = Option Disjunct} n None) i None ≡ None
nothing_at zero i = refl
nothing_at (suc n) zero = refl
nothing_at (suc n) (suc i) = nothing_at n i

nothing_linked : (positions : List (List Disjunct)) (i : ℕ) → IsLinked (nothing_of positions) i → ⊥
nothing_linked positions i h = let e = subst (λ z. IsSome z) (nothing_at (length positions) i) h in cc

pub nothing_part : (positions : List (List Disjunct)) (L R : ℕ) → IsPart positions L R (nothing_of positions)
unfolding IsStrictlySortedBy
nothing_part positions L R = record {
  belongs = record {
    same_length = length-replicate {A = Option Disjunct} (length positions) None;
    listed = λ i d e. absurd (none_some d (sym (nothing_at (length positions) i) ∙ e));
    set = tt;
  };
  inside = λ i h. absurd (nothing_linked positions i h);
}

pub nothing_empty : (positions : List (List Disjunct)) → IsEmpty (nothing_of positions)
nothing_empty positions = record { unlinked = nothing_linked positions; no_links = λ l h. contains_none l h }

some_linked : (o : Option Disjunct) (d : Disjunct) → o ≡ Some d → IsSome o
some_linked o d e = subst (λ z. IsSome z) (sym e) refl

pub draft_empty : (positions : List (List Disjunct)) (g : Linkage) → Belongs positions g → IsEmpty g → IsDraftOf positions empty g
draft_empty positions g b e = record {
  belongs = b;
  uses = λ i d. ((λ h. absurd (e.unlinked i (some_linked (chosen_at g i) d h))), (λ h. absurd (contains_none h.0 h.1)));
  links = λ l. ((λ h. absurd (e.no_links l h)), (λ h. absurd (contains_none l h)));
}

-- a list of lists
pub contains_flat : {X Y : Type 0} (f : X → List Y) (xs : List X) (y : Y) → Contains (flat_map f xs) y → (x : X) × Contains xs x × Contains (f x) y
contains_flat f [] y h = absurd (contains_none y h)
contains_flat f (x ∷ xs) y h =
    elim (Contains-append_cases (f x) (flat_map f xs) y h) [
      | inl a ↦ (x, contains_here x xs, a)
      | inr b ↦ (let r = contains_flat f xs y b in (r.0, contains_later x xs r.0 r.1, r.2))
    ]

pub flat_contains : {X Y : Type 0} (f : X → List Y) (xs : List X) (x : X) (y : Y) → Contains xs x → Contains (f x) y → Contains (flat_map f xs) y
flat_contains f [] x y h m = absurd (contains_none x h)
flat_contains f (z ∷ xs) x y (zero, l, e) m = Contains-append_left (f z) (flat_map f xs) y (subst (λ w. Contains (f w) y) (sym e) m)
flat_contains f (z ∷ xs) x y (suc k, l, e) m = Contains-append_right (f z) (flat_map f xs) y (flat_contains f xs x y (k, omega arith, e) m)

pub map_contains : {X Y : Type 0} (f : X → Y) (xs : List X) (y : Y) → Contains (map f xs) y → (x : X) × Contains xs x × (f x ≡ y)
map_contains f [] y h = absurd (contains_none y h)
map_contains f (x ∷ xs) y (zero, l, e) = (x, contains_here x xs, e)
map_contains f (x ∷ xs) y (suc k, l, e) = let r = map_contains f xs y (k, omega arith, e) in (r.0, contains_later x xs r.0 r.1, r.2)

-- drafts of two kinds, one after the other
pub drafts_then : (positions : List (List Disjunct)) (P Q R : Linkage → Type 0) (ps qs : List Draft) → ((g : Linkage) → P g → R g) → ((g : Linkage) → Q g → R g) → ((g : Linkage) → R g → P g ⊎ Q g) → AreDraftsOf positions P ps → AreDraftsOf positions Q qs → AreDraftsOf positions R (ps ++ qs)
drafts_then positions P Q R ps qs from_p from_q to x y = record {
  each = λ p h. elim (Contains-append_cases ps qs p h) [
    | inl a ↦ (let r = x.each p a in (r.0, from_p r.0 r.1, r.2))
    | inr b ↦ (let r = y.each p b in (r.0, from_q r.0 r.1, r.2))
  ];
  all = λ g h. elim (to g h) [
    | inl a ↦ (let r = x.all g a in (r.0, Contains-append_left ps qs r.0 r.1, r.2))
    | inr b ↦ (let r = y.all g b in (r.0, Contains-append_right ps qs r.0 r.1, r.2))
  ];
}

pub drafts_as : (positions : List (List Disjunct)) (P Q : Linkage → Type 0) (ps : List Draft) → ((g : Linkage) → P g → Q g) → ((g : Linkage) → Q g → P g) → AreDraftsOf positions P ps → AreDraftsOf positions Q ps
drafts_as positions P Q ps from to x = record {
  each = λ p h. let r = x.each p h in (r.0, from r.0 r.1, r.2);
  all = λ g h. x.all g (to g h);
}
