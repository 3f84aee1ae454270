-- The disjuncts of a word, from its choices.
use Rattle.std.proofs.Common.{◌≡◌, ℕ, zero, suc, ◌<◌, true, false, List, [], ◌∷◌, map, length, get_or, refl, sym, ap, subst, ◌∙◌, arith, Less}
use Rattle.std.specs.Prelude.{◌↔◌}
use Rattle.std.specs.Ordering.{ordering_then}
use Rattle.std.specs.Cmp.{IsTotalOrder}
use Rattle.std.specs.List.{All, Contains}
use Rattle.std.specs.List.Sorted.{IsStrictlySortedBy}
use Rattle.std.proofs.lemmas.Cmp.{on_total, then_total, lists_total, nat_list_cmp_total, tied_itself}
use Rattle.std.proofs.lemmas.List.{length-map}
use Rattle.std.proofs.lemmas.List.Elements.{All-from_recursion, recursion_from_All, All-map, All-weaker, All-contains, Contains-get_or}
use Rattle.lg_gram.specs.Connectors.{connector_text}
use Rattle.lg_gram.specs.Measures.{Choice, choices_of, node_count, side_count}
use Rattle.lg_gram.specs.Formulas.{IsFormula}
use Rattle.lg_gram.specs.Problems.{FitsProblem}
use Rattle.lg_gram.specs.Trees.{Tree}
use Rattle.lg_gram.specs.Disjuncts.{disjunct_cmp, choice_of, IsDisjunctOf, AreDisjuncts}
use Rattle.lg_gram.specs.declared.disjunct.Disjunct.{Disjunct}
use Rattle.lg_disj.specs.Choices.{lists_cmp, disjunct_of, IsCheapest}
use Rattle.lg_disj.proofs.Bounded.{IsBounded, few_nodes, bounded}

pub disjunct_cmp_total : IsTotalOrder disjunct_cmp
disjunct_cmp_total =
    let sides = lists_total (on_total connector_text nat_list_cmp_total) in
    then_total (on_total (λ d. d.word) nat_list_cmp_total) (then_total (on_total (λ d. d.left) sides) (on_total (λ d. d.right) sides))

-- disjuncts of one word are in the order of their lists
by_lists : (word : List ℕ) (a b : Choice) → disjunct_cmp (disjunct_of word a) (disjunct_of word b) ≡ lists_cmp a b
by_lists word a b = ap (λ o. ordering_then o (lists_cmp a b)) (tied_itself nat_list_cmp_total word)

pub disjuncts_rise : (word : List ℕ) (cs : List Choice) → IsStrictlySortedBy lists_cmp cs → IsStrictlySortedBy disjunct_cmp (map (disjunct_of word) cs)
unfolding IsStrictlySortedBy
disjuncts_rise word [] rise = tt
disjuncts_rise word (c ∷ cs) rise = (
  recursion_from_All (λ d. disjunct_cmp (disjunct_of word c) d ≡ Less) (map (disjunct_of word) cs)
      (All-map (λ d. disjunct_cmp (disjunct_of word c) d ≡ Less) (disjunct_of word) cs
      (All-weaker (λ b. lists_cmp c b ≡ Less) (λ b. disjunct_cmp (disjunct_of word c) (disjunct_of word b) ≡ Less) (λ b h. by_lists word c b ∙ h) cs
      (All-from_recursion (λ b. lists_cmp c b ≡ Less) cs rise.0))),
  disjuncts_rise word cs rise.1,
)

get_or-map : (f : Choice → Disjunct) (cs : List Choice) (k : ℕ) (c : Choice) (d : Disjunct) → k < length cs → get_or (map f cs) k d ≡ f (get_or cs k c)
get_or-map f [] k c d within = absurd (omega arith)
get_or-map f (b ∷ cs) zero c d within = refl
get_or-map f (b ∷ cs) (suc k) c d within = get_or-map f cs k c d (omega arith)

-- a disjunct of the word is its choice with the word
with_word : (word : List ℕ) (d : Disjunct) → d.word ≡ word → disjunct_of word (choice_of d) ≡ d
with_word word d named = λ i. record { word = sym named i; left = d.left; right = d.right; cost = d.cost }

pub listed_is_disjunct : (word : List ℕ) (t : Tree) (cs : List Choice) → ((c : Choice) → Contains cs c → IsCheapest (choices_of t) c) →
    (d : Disjunct) → Contains (map (disjunct_of word) cs) d → IsDisjunctOf word t d
listed_is_disjunct word t cs cheapest d (k, within, at) =
    let inside : k < length cs = omega (arith, length-map cs (disjunct_of word)) in
    let is : disjunct_of word (get_or cs k (choice_of d)) ≡ d = sym (get_or-map (disjunct_of word) cs k (choice_of d) d inside) ∙ at in
    let choice : get_or cs k (choice_of d) ≡ choice_of d = ap choice_of is in
    let best = cheapest (choice_of d) (k, inside, choice) in
    record {
      named = sym (ap (λ e. e.word) is);
      chosen = best.chosen;
      least = best.least;
    }

pub disjunct_is_listed : (word : List ℕ) (t : Tree) (cs : List Choice) → ((c : Choice) → IsCheapest (choices_of t) c → Contains cs c) →
    (d : Disjunct) → IsDisjunctOf word t d → Contains (map (disjunct_of word) cs) d
disjunct_is_listed word t cs listed d h =
    let (k, within, at) = listed (choice_of d) (record { chosen = h.chosen; least = h.least }) in
    (k, omega (arith, length-map cs (disjunct_of word)), get_or-map (disjunct_of word) cs k (choice_of d) d within ∙ ap (disjunct_of word) at ∙ with_word word d h.named)

pub are_disjuncts : (word : List ℕ) (t : Tree) (cs : List Choice) → IsStrictlySortedBy lists_cmp cs → ((c : Choice) → Contains cs c ↔ IsCheapest (choices_of t) c) →
    (ds : List Disjunct) → ds ≡ map (disjunct_of word) cs → AreDisjuncts word t ds
are_disjuncts word t cs rise exactly ds is = subst (AreDisjuncts word t) (sym is) (record {
  rise = disjuncts_rise word cs rise;
  exactly = λ d. (listed_is_disjunct word t cs (λ c. (exactly c).0) d, disjunct_is_listed word t cs (λ c. (exactly c).1) d);
})

fits : (word : List ℕ) (t : Tree) → IsFormula t → (c : Choice) → IsBounded (node_count t) (side_count false t) (side_count true t) c → FitsProblem (disjunct_of word c)
fits word t formula c h = record {
  left = omega (arith, h.left, formula.left_side);
  right = omega (arith, h.right, formula.right_side);
  cost = few_nodes (node_count t) _ _ formula.nodes c h;
}

pub fit_problem : (word : List ℕ) (t : Tree) → IsFormula t → (cs : List Choice) → ((c : Choice) → Contains cs c ↔ IsCheapest (choices_of t) c) →
    (ds : List Disjunct) → ds ≡ map (disjunct_of word) cs → All FitsProblem ds
fit_problem word t formula cs exactly ds is =
    let P : Choice → Type 0 = IsBounded (node_count t) (side_count false t) (side_count true t) in
    subst (All FitsProblem) (sym is)
    (All-map FitsProblem (disjunct_of word) cs
    (λ k d within. fits word t formula (get_or cs k d)
    (All-contains P (choices_of t) (get_or cs k d) (bounded t formula.prices) ((exactly (get_or cs k d)).0 (Contains-get_or cs k d within)).chosen)))
