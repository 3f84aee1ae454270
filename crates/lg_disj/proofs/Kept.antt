-- What is kept of the choices is, for each pair of lists, the cheapest.
use Rattle.std.proofs.Common.{◌≡◌, ℤ, ◌≤ℤ◌, List, sym, subst, ◌∙◌, arith, Equal}
use Rattle.std.specs.List.{All, Contains, dedup}
use Rattle.std.specs.List.Sorted.{IsSorted, IsPermutation}
use Rattle.std.specs.Cmp.{eq_by_cmp_equiv}
use Rattle.std.proofs.lemmas.Int.{ints}
use Rattle.std.proofs.lemmas.Cmp.{tied_itself}
use Rattle.std.proofs.lemmas.List.Elements.{All-contains}
use Rattle.std.proofs.lemmas.List.Kept.{Any-dedup, Contains-from_dedup}
use Rattle.std.proofs.lemmas.List.Sorted.{Contains-permutation, IsPermutation-sym}
use Rattle.lg_gram.specs.Connectors.{ConnectorsToldApart}
use Rattle.lg_gram.specs.Measures.{Choice}
use Rattle.lg_disj.specs.Choices.{lists_cmp, choice_cmp, IsSided, IsCheapest}
use Rattle.lg_disj.proofs.Told_apart.{told_apart}
use Rattle.lg_disj.proofs.Runs.{same, is_tie, lists_cmp_total, Beats, kept_least}

same_cost : (x y : ℤ) → x ≤ℤ y → y ≤ℤ x → x ≡ y
same_cost x y p q = omega (arith, ints)

alike : (a b : Choice) → a.left ≡ b.left → a.right ≡ b.right → lists_cmp a b ≡ Equal
alike a b left right =
    (λ i. lists_cmp (record { left = left i; right = right i; cost = a.cost }) b) ∙ tied_itself lists_cmp_total b

pub kept_is_cheapest : (cs up : List Choice) → IsPermutation cs up → IsSorted choice_cmp up → (c : Choice) → Contains (dedup same up) c → IsCheapest cs c
kept_is_cheapest cs up moved sorted c kept =
    let beats = All-contains (λ d. All (Beats d) up) (dedup same up) c (kept_least up sorted) kept in
    record {
      chosen = Contains-permutation up cs c (IsPermutation-sym cs up moved) (Contains-from_dedup same up c kept);
      least = λ b chosen left right. All-contains (Beats c) up b beats (Contains-permutation cs up b moved chosen) (alike c b (sym left) (sym right));
    }

pub cheapest_is_kept : ConnectorsToldApart → (cs up : List Choice) → All IsSided cs → IsPermutation cs up → IsSorted choice_cmp up → (c : Choice) → IsCheapest cs c → Contains (dedup same up) c
cheapest_is_kept apart cs up sided moved sorted c cheapest =
    let (k, b, within, at, tie) = Any-dedup (eq_by_cmp_equiv lists_cmp_total) up c (Contains-permutation cs up c moved cheapest.chosen) in
    let kept : Contains (dedup same up) b = (k, within, at) in
    let other = kept_is_cheapest cs up moved sorted b kept in
    let lists = told_apart apart c b (All-contains IsSided cs c sided cheapest.chosen) (All-contains IsSided cs b sided other.chosen) (is_tie (lists_cmp c b) tie) in
    let cost = same_cost b.cost c.cost (other.least c cheapest.chosen lists.0 lists.1) (cheapest.least b other.chosen (sym lists.0) (sym lists.1)) in
    let is : b ≡ c = λ i. record { left = sym lists.0 i; right = sym lists.1 i; cost = cost i } in
    subst (Contains (dedup same up)) is kept
