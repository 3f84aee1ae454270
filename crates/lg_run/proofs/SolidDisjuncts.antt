-- A disjunct of a word that can be exported has names without blanks, short lists and a cost within bounds.
use Rattle.std.proofs.Common.{◌≡◌, ℕ, ◌≤◌, ℤ, pos, negsuc, neg_ℤ, ◌≤ℤ◌, int_le, Bool, true, false, eqb, List, [], ◌∷◌, IfSome, refl, sym, subst, ◌∙◌, arith, true≢false, ne_eqb, ◌&&◌}
use lib.Dec.{T}
use Rattle.std.specs.Prelude.{unsigned_abs}
use Rattle.std.specs.List.{list_any, list_all}
use Rattle.std.proofs.lemmas.Bool.{and_parts, or_from}
use Rattle.std.proofs.lemmas.Int.{ints}
use Rattle.std.proofs.lemmas.List.Elements.{All-contains}
use Rattle.lg_gram.specs.Connectors.{Connector, name_of}
use Rattle.lg_gram.specs.Disjuncts.{choice_of}
use Rattle.lg_gram.specs.Formulas.{prices_are_small, prices_in_are_small, is_small_price}
use Rattle.lg_gram.specs.Limits.{PRICE}
use Rattle.lg_gram.specs.Measures.{choices_of, node_count, side_count}
use Rattle.lg_gram.specs.Names.{is_capital, is_subscript}
use Rattle.lg_gram.specs.Problems.{FitsProblem}
use Rattle.lg_gram.specs.Trees.{Tree, Trees, empty, leaf, all_of, one_of, priced, no_trees, tree}
use Rattle.lg_gram.specs.declared.disjunct.Disjunct.{Disjunct}
use Rattle.lg_dict.specs.Dictionary.{Dictionary}
use Rattle.lg_disj.proofs.Bounded.{IsBounded, bounded}
use Rattle.lg_export.specs.Exportable.{IsLettered, IsReadable, AreReadable, IsWordToWrite, IsExportable}
use Rattle.lg_text.specs.Shown.{IsPlainDisjunct}
use Rattle.lg_token.specs.Problems.{IsOfWords}
use Rattle.lg_audit.specs.Pieces.{HasNoBlank}
use Rattle.lg_audit.specs.ShownAnswers.{HasSolidName, IsSolidDisjunct}
use Rattle.lg_run.proofs.LeafChoices.{all_in, OfTree, OfTrees, of_choices}

-- ---- names

all_solid : (test : ℕ → Bool) → test 32 ≡ false → (bs : List ℕ) → list_all test bs ≡ true → HasNoBlank bs
all_solid test none [] h = refl
all_solid test none (b ∷ bs) h =
    let parts = and_parts (test b) (list_all test bs) h in
    or_from (eqb 32 b) (list_any (eqb 32) bs) (ne_eqb 32 b (λ same. true≢false (sym (subst (λ (n : ℕ). test n ≡ true) (sym same) parts.0) ∙ none))) (all_solid test none bs parts.1)

name_solid : (c : Connector) → IsLettered (name_of c) → HasSolidName c
name_solid c is =
    let front = and_parts _ _ is.written in
    let capitals = (and_parts _ _ front.0).1 in
    record { caps = all_solid is_capital refl c.caps capitals; subs = all_solid is_subscript refl c.subs front.1 }

mutual
  leaves_solid : (t : Tree) → IsReadable t → OfTree HasSolidName t
  leaves_solid empty h = tt
  leaves_solid (leaf c) h = name_solid c h
  leaves_solid (all_of ts) h = all_leaves ts h.1
  leaves_solid (one_of ts) h = all_leaves ts h.1
  leaves_solid (priced t price) h = leaves_solid t h.1

  all_leaves : (ts : Trees) → AreReadable ts → OfTrees HasSolidName ts
  all_leaves no_trees h = tt
  all_leaves (tree t ts) h = (leaves_solid t h.0, all_leaves ts h.1)

-- ---- prices

is_so : (b : Bool) → T b → b ≡ true
is_so true h = refl
is_so false h = absurd h

low_price : (z : ℤ) → unsigned_abs z ≤ PRICE → neg_ℤ (pos PRICE) ≤ℤ z
low_price (pos n) h = omega (arith, ints)
low_price (negsuc n) h = omega (arith, ints)

high_price : (z : ℤ) → unsigned_abs z ≤ PRICE → z ≤ℤ pos PRICE
high_price (pos n) h = omega (arith, ints)
high_price (negsuc n) h = omega (arith, ints)

both_so : (a b : Bool) → a ≡ true → b ≡ true → (a && b) ≡ true
both_so true true p q = refl
both_so true false p q = q
both_so false b p q = p

price_small : (z : ℤ) → unsigned_abs z ≤ PRICE → is_small_price z ≡ true
price_small z h = both_so _ _ (is_so (int_le (neg_ℤ (pos PRICE)) z) (low_price z h).le) (is_so (int_le z (pos PRICE)) (high_price z h).le)

mutual
  prices_small : (t : Tree) → IsReadable t → prices_are_small t ≡ true
  prices_small empty h = refl
  prices_small (leaf c) h = refl
  prices_small (all_of ts) h = all_prices ts h.1
  prices_small (one_of ts) h = all_prices ts h.1
  prices_small (priced t price) h = both_so _ _ (price_small price h.0) (prices_small t h.1)

  all_prices : (ts : Trees) → AreReadable ts → prices_in_are_small ts ≡ true
  all_prices no_trees h = refl
  all_prices (tree t ts) h = both_so _ _ (prices_small t h.0) (all_prices ts h.1)

-- ---- disjuncts

pub disjunct_fits : (dict : Dictionary) → IsExportable dict → (words : List (List ℕ)) (d : Disjunct) → IsOfWords dict words d → FitsProblem d
disjunct_fits dict can words d (word, t, one, is, of) =
    let writes : IsWordToWrite word t = subst (λ o. IfSome o (IsWordToWrite word)) is (can.words word) in
    let within : IsBounded (node_count t) (side_count false t) (side_count true t) (choice_of d) = All-contains (IsBounded (node_count t) (side_count false t) (side_count true t)) (choices_of t) (choice_of d) (bounded t (prices_small t writes.formula.readable)) of.chosen in
    let side = writes.formula.small.side in
    let nodes = writes.formula.small.nodes in
    record {
      left = omega (arith, within.left, side);
      right = omega (arith, within.right, side);
      cost = (omega (arith, ints, within.low, nodes), omega (arith, ints, within.high, nodes));
    }

pub disjunct_solid : (dict : Dictionary) → IsExportable dict → (words : List (List ℕ)) (d : Disjunct) → IsOfWords dict words d → IsPlainDisjunct d → IsSolidDisjunct d
disjunct_solid dict can words d (word, t, one, is, of) plain =
    let fits = disjunct_fits dict can words d (word, t, one, is, of) in
    let writes : IsWordToWrite word t = subst (λ o. IfSome o (IsWordToWrite word)) is (can.words word) in
    let sides = all_in _ (choices_of t) (choice_of d) (of_choices HasSolidName t (leaves_solid t writes.formula.readable)) of.chosen in
    record {
      plain = plain;
      left = sides.0;
      right = sides.1;
      cost = (omega (arith, ints, fits.cost.0), omega (arith, ints, fits.cost.1));
      few_left = omega (arith, fits.left);
      few_right = omega (arith, fits.right);
    }
