-- A linkage is known by what each position uses and by its set of links.
use Rattle.std.proofs.Common.{◌≡◌, ◌↔◌, ℕ, suc, ◌+◌, ◌<◌, ◌≤◌, inl, inr, refl, sym, ap, ◌∙◌, subst, List, [], ◌∷◌, ◌++◌, take, length, get_or, Option, Some, None, MatchOption, Contains, slice_get, slice_index_or, Bool, true, is_eq, Ordering, Less, Equal, Greater, arith}
use Rattle.std.specs.Bool.{Decides, one_answer}
use Rattle.std.specs.Cmp.{IsTotalOrder}
use Rattle.std.specs.Ordering.{eq_by_cmp}
use Rattle.std.proofs.lemmas.Option.{get_or_from_slice_get, slice_get-get_or}
use Rattle.std.specs.List.Sorted.{IsStrictlySortedBy}
use Rattle.std.proofs.lemmas.Cmp.{tied_itself}
use Rattle.std.proofs.lemmas.List.Elements.{All-contains, All-from_recursion, Contains-append_left, Contains-push, Contains-push_cases}
use Rattle.std.proofs.lemmas.List.{take_all}
use Rattle.std.proofs.lemmas.Map.Keys.{sorted_head, sorted_tail}
use Rattle.std.proofs.Math.Seq.{take-suc}
use Rattle.lg_gram.specs.Levels.{IsLevel, AreOfOneProblem}
use Rattle.lg_gram.specs.Linkages.{Linkage, link_cmp, linkage_cmp}
use Rattle.lg_gram.specs.Problems.{IsProblem}
use Rattle.lg_gram.specs.Rules.{chosen_at}
use Rattle.lg_gram.specs.declared.disjunct.Disjunct.{Disjunct}
use Rattle.lg_gram.specs.declared.linkage.Link.{Link}
use Rattle.lg_region.specs.Keys.{IsDisjunctAt}
use Rattle.lg_region.specs.Parts.{UnderWhole}
use Rattle.lg_forest.specs.Drafts.{Draft, IsDraftOf, AreDraftsOf, HaveDrafts}
use Rattle.lg_forest.specs.declared.draft.Use.{Use}
use Rattle.lg_forest.proofs.Once.{contains_here, contains_later, contains_none, contains_cases}

module _ (total : IsTotalOrder link_cmp) where
  not_itself : (x : Link) → link_cmp x x ≡ Less → ⊥
  not_itself x h = let e = tied_itself total x in cc

  not_both : (x y : Link) → link_cmp x y ≡ Less → link_cmp y x ≡ Less → ⊥
  not_both x y h i = let e = total.antisymm x y in let f = rw i at e in cc

  after_head : (x : Link) (xs : List Link) (y : Link) → IsStrictlySortedBy link_cmp (x ∷ xs) → Contains xs y → link_cmp x y ≡ Less
  after_head x xs y up i = All-contains (λ y. link_cmp x y ≡ Less) xs y (All-from_recursion (λ y. link_cmp x y ≡ Less) xs (sorted_head link_cmp x xs up)) i

  tail_in : (x : Link) (xs : List Link) (y : Link) (ys : List Link) → IsStrictlySortedBy link_cmp (x ∷ xs) → x ≡ y → ((z : Link) → Contains (x ∷ xs) z → Contains (y ∷ ys) z) → (z : Link) → Contains xs z → Contains ys z
  tail_in x xs y ys up e h z i =
      elim (contains_cases y ys z (h z (contains_later x xs z i))) [
        | inl f ↦ absurd (not_itself x (subst (λ w. link_cmp x w ≡ Less) (sym (e ∙ f)) (after_head x xs z up i)))
        | inr g ↦ g
      ]

  -- two rising lists of the same links are one
  pub same_set : (xs ys : List Link) → IsStrictlySortedBy link_cmp xs → IsStrictlySortedBy link_cmp ys → ((z : Link) → Contains xs z → Contains ys z) → ((z : Link) → Contains ys z → Contains xs z) → xs ≡ ys
  same_set [] [] up vp h i = refl
  same_set [] (y ∷ ys) up vp h i = absurd (contains_none y (i y (contains_here y ys)))
  same_set (x ∷ xs) [] up vp h i = absurd (contains_none x (h x (contains_here x xs)))
  same_set (x ∷ xs) (y ∷ ys) up vp h i =
      let e : x ≡ y = elim (contains_cases y ys x (h x (contains_here x xs))) [
        | inl f ↦ sym f
        | inr m ↦ elim (contains_cases x xs y (i y (contains_here y ys))) [
          | inl f ↦ f
          | inr n ↦ absurd (not_both x y (after_head x xs y up n) (after_head y ys x vp m))
        ]
      ] in
      let t : xs ≡ ys = same_set xs ys (sorted_tail link_cmp x xs up) (sorted_tail link_cmp y ys vp) (tail_in x xs y ys up e h) (tail_in y ys x xs vp (sym e) i) in
      subst (λ w. x ∷ xs ≡ w ∷ ys) e (ap (λ w. x ∷ w) t)

none_some : {X : Type 0} (x : X) → ◌≡◌ {A = Option X} None (Some x) → ⊥
none_some x e = cc

none_only : {X : Type 0} (o : Option X) → ((x : X) → o ≡ Some x → ⊥) → o ≡ None
none_only None h = refl
none_only (Some x) h = absurd (h x refl)

-- the disjunct of a word, found among the uses of a draft
pub choice_is : (positions : List (List Disjunct)) (p : Draft) (g : Linkage) (i : ℕ) (o : Option Disjunct) → IsDraftOf positions p g
    → MatchOption o ((u : Use) → Contains p.uses u → (d : Disjunct) → u.word ≡ i → IsDisjunctAt positions i u.disjunct d → ⊥) (λ d. (u : Use) × Contains p.uses u × (u.word ≡ i) × IsDisjunctAt positions i u.disjunct d) → o ≡ chosen_at g i
choice_is positions p g i None is none = sym (none_only (chosen_at g i) (λ d e. let u = (is.uses i d).0 e in none u.0 u.1 d u.2 u.3))
choice_is positions p g i (Some d) is some = sym ((is.uses i d).1 some)

-- one position more
pub chosen_more : (g : Linkage) (chosen : List (Option Disjunct)) (i j : ℕ) (o : Option Disjunct) → i < length g.chosen → j ≡ suc i → chosen ≡ take i g.chosen → o ≡ chosen_at g i → chosen ++ o ∷ [] ≡ take j g.chosen
chosen_more g chosen i j o lt next e f = (λ k. e k ++ f k ∷ []) ∙ sym (take-suc g.chosen i None lt) ∙ ap (λ z. take z g.chosen) (sym next)

pub chosen_all : (g : Linkage) (chosen : List (Option Disjunct)) (i : ℕ) → length g.chosen ≤ i → chosen ≡ take i g.chosen → chosen ≡ g.chosen
chosen_all g chosen i end e = e ∙ take_all i g.chosen end

-- the linkage of these choices and links is that of the draft
pub same_linkage : (g : Linkage) (chosen : List (Option Disjunct)) (links : List Link) → chosen ≡ g.chosen → links ≡ g.links → ◌≡◌ {A = Linkage} (record { chosen = chosen; links = links }) g
same_linkage g chosen links e f = λ i. record { chosen = e i; links = f i }

-- one draft more
pub have_more : (positions : List (List Disjunct)) (drafts : List Draft) (i : ℕ) (p : Draft) (g : Linkage) (all : List Linkage) → i < length drafts → p ≡ get_or drafts i p → ((h : Linkage) → IsDraftOf positions p h → g ≡ h)
    → HaveDrafts positions (take i drafts) all → HaveDrafts positions (take (i + 1) drafts) (all ++ g ∷ [])
have_more positions drafts i p g all lt at only x =
    let next : i + 1 ≡ suc i = omega arith in
    let e : take (i + 1) drafts ≡ take i drafts ++ p ∷ [] = ap (λ z. take z drafts) next ∙ take-suc drafts i p lt ∙ ap (λ z. take i drafts ++ z ∷ []) (sym at) in
    record {
      each = λ h m. elim (Contains-push_cases all g h m) [
        | inl a ↦ (let r = x.each h a in (r.0, subst (λ z. Contains z r.0) (sym e) (Contains-append_left (take i drafts) (p ∷ []) r.0 r.1), r.2))
        | inr f ↦ (p, subst (λ z. Contains z p) (sym e) (Contains-push (take i drafts) p), λ k d. sym f ∙ only k d)
      ];
      all = λ q h m d. elim (Contains-push_cases (take i drafts) p q (subst (λ z. Contains z q) e m)) [
        | inl a ↦ Contains-append_left all (g ∷ []) h (x.all q h a d)
        | inr f ↦ subst (λ z. Contains (all ++ g ∷ []) z) (only h (subst (λ z. IsDraftOf positions z h) (sym f) d)) (Contains-push all g)
      ];
    }

-- the linkages of drafts of a kind are those of the kind
pub level_exactly : (positions : List (List Disjunct)) (nulls : ℕ) (drafts : List Draft) (all : List Linkage) → AreDraftsOf positions (UnderWhole positions nulls) drafts → HaveDrafts positions drafts all → (g : Linkage) → Contains all g ↔ UnderWhole positions nulls g
level_exactly positions nulls drafts all are have g = (
  (λ h. let r = have.each g h in let d = are.each r.0 r.1 in subst (λ z. UnderWhole positions nulls z) (sym (r.2 d.0 d.2)) d.1),
  (λ u. let d = are.all g u in have.all d.0 g d.1 d.2),
)

pub of_one_problem : (positions : List (List Disjunct)) (nulls : ℕ) (all : List Linkage) → IsProblem positions → ((g : Linkage) → Contains all g ↔ UnderWhole positions nulls g) → AreOfOneProblem all
of_one_problem positions nulls all is exactly = record { positions = positions; is_problem = is; each = λ g h. ((exactly g).0 h).good.belongs }

pub is_level : (positions : List (List Disjunct)) (nulls : ℕ) (all list : List Linkage) → ((g : Linkage) → Contains all g ↔ UnderWhole positions nulls g) → IsStrictlySortedBy linkage_cmp list → ((g : Linkage) → Contains list g ↔ Contains all g) → IsLevel positions nulls list
is_level positions nulls all list exactly rise same = record {
  rise = rise;
  exactly = λ g. (
    (λ h. let u = (exactly g).0 ((same g).0 h) in (u.good, u.count)),
    (λ h. (same g).1 ((exactly g).1 (record { good = h.0; count = h.1 }))),
  );
}

pub linkage_drafted : (positions : List (List Disjunct)) (p : Draft) (g : Linkage) (chosen : List (Option Disjunct)) (links shown : List Link) → IsTotalOrder link_cmp → IsDraftOf positions p g → chosen ≡ g.chosen → IsStrictlySortedBy link_cmp links
    → ((l : Link) → Contains links l ↔ Contains shown l) → shown ≡ p.links → ◌≡◌ {A = Linkage} (record { chosen = chosen; links = links }) g
linkage_drafted positions p g chosen links shown total is e rise same f =
    same_linkage g chosen links e (same_set total links g.links rise is.belongs.set
    (λ z m. (is.links z).1 (subst (λ w. Contains w z) f ((same z).0 m)))
    (λ z m. (same z).1 (subst (λ w. Contains w z) (sym f) ((is.links z).0 m))))

pub choice_shown : (positions : List (List Disjunct)) (p : Draft) (g : Linkage) (i : ℕ) (o : Option Disjunct) (uses : List Use) (items position : List Disjunct) → IsDraftOf positions p g → uses ≡ p.uses → items ≡ position → i < length positions → position ≡ get_or positions i position
    → MatchOption o ((u : Use) → Contains uses u → (d : Disjunct) → u.word ≡ i → slice_get items u.disjunct ≡ Some d → ⊥) (λ d. (u : Use) × Contains uses u × (u.word ≡ i) × (slice_get items u.disjunct ≡ Some d)) → o ≡ chosen_at g i
choice_shown positions p g i o uses items position is e f lt at h =
    let same : items ≡ slice_index_or positions i [] = f ∙ at ∙ sym (get_or_from_slice_get positions i (get_or positions i position) [] (slice_get-get_or positions i position lt)) in
    choice_is positions p g i o is
    (subst (λ xs. MatchOption o ((u : Use) → Contains p.uses u → (d : Disjunct) → u.word ≡ i → slice_get xs u.disjunct ≡ Some d → ⊥) (λ d. (u : Use) × Contains p.uses u × (u.word ≡ i) × (slice_get xs u.disjunct ≡ Some d))) same
    (subst (λ us. MatchOption o ((u : Use) → Contains us u → (d : Disjunct) → u.word ≡ i → slice_get items u.disjunct ≡ Some d → ⊥) (λ d. (u : Use) × Contains us u × (u.word ≡ i) × (slice_get items u.disjunct ≡ Some d))) e h))

equal_if : (o : Ordering) → is_eq o ≡ true → o ≡ Equal
equal_if Less h = cc
equal_if Equal h = refl
equal_if Greater h = cc

-- the order of links ties where they are equal
pub link_ties : IsTotalOrder link_cmp → ((k l : Link) → link_cmp k l ≡ Equal → k ≡ l) → (eq : Link → Link → Bool) → ((k l : Link) → Decides (eq k l) (k ≡ l)) → (k l : Link) → eq k l ≡ eq_by_cmp link_cmp k l
link_ties total exact eq same k l = one_answer (eq k l) (eq_by_cmp link_cmp k l) (same k l) ((λ t. exact k l (equal_if (link_cmp k l) t)), (λ e. subst (λ z. eq_by_cmp link_cmp k z ≡ true) e (ap is_eq (tied_itself total k))))
