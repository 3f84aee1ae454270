-- How many choices an expression has.
use Rattle.std.proofs.Common.{◌≡◌, ℕ, ◌*◌, List, [], ◌∷◌, length, map, refl, ap, ◌∙◌, arith, length-append}
use Rattle.std.specs.List.{flat_map}
use Rattle.std.proofs.lemmas.List.{length-map}
use Rattle.lg_gram.specs.Trees.{Tree, Trees, empty, leaf, all_of, one_of, priced, no_trees, tree}
use Rattle.lg_gram.specs.Measures.{Choice, joined, dearer, choices_of, picks_of, choices_of_any, choice_count, product_in, choices_in}

flat_product : (f : Choice → List Choice) (n : ℕ) (cs : List Choice) → ((c : Choice) → length (f c) ≡ n) → length (flat_map f cs) ≡ length cs * n
flat_product f n [] h = omega arith
flat_product f n (c ∷ cs) h = omega (arith, length-append (f c) (flat_map f cs), h c, flat_product f n cs h)

mutual
  pub counted : (t : Tree) → length (choices_of t) ≡ choice_count t
  counted empty = refl
  counted (leaf c) = refl
  counted (all_of ts) = counted_picks ts
  counted (one_of ts) = counted_any ts
  counted (priced t price) = length-map (choices_of t) (dearer price) ∙ counted t

  counted_picks : (ts : Trees) → length (picks_of ts) ≡ product_in ts
  counted_picks no_trees = refl
  counted_picks (tree t ts) =
      flat_product (λ a. map (joined a) (picks_of ts)) (product_in ts) (choices_of t) (λ c. length-map (picks_of ts) (joined c) ∙ counted_picks ts)
      ∙ ap (λ n. n * product_in ts) (counted t)

  counted_any : (ts : Trees) → length (choices_of_any ts) ≡ choices_in ts
  counted_any no_trees = refl
  counted_any (tree t ts) = omega (arith, length-append (choices_of t) (choices_of_any ts), counted t, counted_any ts)
