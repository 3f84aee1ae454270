-- The costs of an expression are within their bounds, and its formula keeps to its level.
use Rattle.std.proofs.Common.{◌≡◌, ℕ, suc, ◌≤◌, List, [], ◌∷◌, ◌++◌, map, true, ◌&&◌, Option, Some, None, IfSome, ℤ, pos, neg_ℤ, zero, ◌^◌, ◌⊎◌, inl, inr, refl, sym, subst, arith}
use Rattle.std.proofs.lemmas.Int.{ints}
use Rattle.std.proofs.lemmas.Bool.Decides.{nat_tests}
use Rattle.std.specs.List.{AllByRecursion}
use Rattle.lg_base.specs.Costs.{IsCostNumber}
use Rattle.lg_base.specs.Costs.IsCostNumber.{Plain, Negated}
use Rattle.lg_gram.specs.Filled.{Formulas, put_in, filled, filled_in, filled_level}
use Rattle.lg_gram.specs.Formulas.{is_small_price, prices_are_small, prices_in_are_small}
use Rattle.lg_gram.specs.Limits.{LEVEL}
use Rattle.lg_gram.specs.RawTrees.{RawTree, raw_trees_of, macros_of}
use Rattle.lg_gram.specs.Trees.{Tree}
use Rattle.lg_lex.specs.Tokens.{Lexeme}
use Rattle.lg_expr.specs.declared.part.Operator.{Operator}
use Rattle.lg_expr.specs.declared.part.Operator.TheVariants.{And, Or}
use Rattle.lg_expr.specs.declared.part.Bracket.TheVariants.{Round, Curly, Square}
use Rattle.lg_expr.specs.Parts.{Part, connects, names, operates, opens, closes, number, no_number, ends, wrong}
use Rattle.lg_expr.specs.Words.{Writes}
use Rattle.lg_expr.specs.Classes.{part_of_lexeme}
use Rattle.lg_expr.specs.Grammar.{Alternatives, alternative, or_else, Factors, factor, and_then, Primary, connector, macro, brackets, bracketed, braced, costly, costing, spelled, factors_spelled, primary_spelled, joined, members, factors, meaning, tree, level}
use Rattle.lg_expr.specs.Reading.{StandFor}
use Rattle.lg_expr.specs.Fits.{rules_of, Fits, AllFit, FilledFits}
use Rattle.lg_expr.proofs.AllOf.{all_append, all_left, all_right}
use Rattle.lg_expr.proofs.Depths.{tree_shallow, reached_shallow, tree_within, tree_level_kept}

-- a cost that a part writes is within its bounds
abbrev pub HasSmallCost : Part → Type 0
HasSmallCost (connects c) = Unit {0}
HasSmallCost (names m) = Unit {0}
HasSmallCost (operates o) = Unit {0}
HasSmallCost (opens b) = Unit {0}
HasSmallCost (closes b) = Unit {0}
HasSmallCost (number cost) = is_small_price cost ≡ true
HasSmallCost no_number = Unit {0}
HasSmallCost ends = Unit {0}
HasSmallCost wrong = Unit {0}

plain_small : (size : ℕ) → size ≤ 10 ^ 7 → is_small_price (pos size) ≡ true
plain_small size low = grind (arith, ints, nat_tests)

negated_small : (size : ℕ) → size ≤ 10 ^ 7 → is_small_price (neg_ℤ (pos size)) ≡ true
negated_small zero low = refl
negated_small (suc n) low = grind (arith, ints, nat_tests)

cost_number_small : (w : List ℕ) (cost : ℤ) → IsCostNumber w cost → is_small_price cost ≡ true
cost_number_small w cost (Plain size is e) = let low = is.1 in subst (λ z. is_small_price z ≡ true) (sym e) (plain_small size low)
cost_number_small w cost (Negated rest size split is e) = let low = is.1 in subst (λ z. is_small_price z ≡ true) (sym e) (negated_small size low)

written_small : (x : Lexeme) (p : Part) → (p ≡ wrong) ⊎ Writes x p → HasSmallCost p
written_small x (connects c) h = tt
written_small x (names m) h = tt
written_small x (operates o) h = tt
written_small x (opens b) h = tt
written_small x (closes b) h = tt
written_small x (number cost) (inl e) = absurd cc
written_small x (number cost) (inr (w, is, h)) = cost_number_small w cost h
written_small x no_number h = tt
written_small x ends h = tt
written_small x wrong h = tt

module _ (written : (x : Lexeme) → (part_of_lexeme x ≡ wrong) ⊎ Writes x (part_of_lexeme x)) where
  tokens_small : (ts : List (Lexeme × ℕ)) → AllByRecursion HasSmallCost (map (λ (t : Lexeme × ℕ). part_of_lexeme t.0) ts)
  tokens_small [] = tt
  tokens_small (t ∷ ts) = (written_small t.0 (part_of_lexeme t.0) (written t.0), tokens_small ts)

module _ (formulas : Formulas) (all_fit : AllFit formulas) where
  abbrev IsSmall : RawTree → Type 0
  IsSmall t = prices_are_small (filled formulas t) ≡ true

  small_in : (ts : List RawTree) → AllByRecursion IsSmall ts → prices_in_are_small (filled_in formulas (raw_trees_of ts)) ≡ true
  small_in [] h = refl
  small_in (t ∷ ts) h = (λ i. h.0 i && small_in ts h.1 i)

  small_joined : (op : Operator) (ts : List RawTree) → AllByRecursion IsSmall ts → IsSmall (joined op ts)
  small_joined And [] h = refl
  small_joined Or [] h = refl
  small_joined op (t ∷ []) h = h.0
  small_joined And (t ∷ u ∷ ts) h = small_in (t ∷ u ∷ ts) h
  small_joined Or (t ∷ u ∷ ts) h = small_in (t ∷ u ∷ ts) h

  put_small : (found : Option (Tree × ℕ)) → IfSome found (λ m. Fits m.1 m.0) → prices_are_small (put_in found) ≡ true
  put_small None h = refl
  put_small (Some m) h = h.prices

  -- what stands between two brackets
  between : (before : Part) (inner after : List Part) → AllByRecursion HasSmallCost (before ∷ (inner ++ after)) → AllByRecursion HasSmallCost inner
  between before inner after h = all_left HasSmallCost inner after h.1

  mutual
    members_small : (a : Alternatives) (depth : ℕ) → AllByRecursion HasSmallCost (spelled a) → AllByRecursion IsSmall (members depth a)
    members_small (alternative f) depth h = (small_joined And (factors depth f) (factors_small f depth h), tt)
    members_small (or_else a f) depth h =
        all_append IsSmall (members depth a) (joined And (factors depth f) ∷ [])
        (members_small a depth (all_left HasSmallCost (spelled a) (operates Or ∷ factors_spelled f) h))
        (small_joined And (factors depth f) (factors_small f depth (all_right HasSmallCost (spelled a) (operates Or ∷ factors_spelled f) h).1), tt)

    factors_small : (f : Factors) (depth : ℕ) → AllByRecursion HasSmallCost (factors_spelled f) → AllByRecursion IsSmall (factors depth f)
    factors_small (factor p) depth h = (primary_small p depth h, tt)
    factors_small (and_then f p) depth h =
        all_append IsSmall (factors depth f) (meaning depth p ∷ [])
        (factors_small f depth (all_left HasSmallCost (factors_spelled f) (operates And ∷ primary_spelled p) h))
        (primary_small p depth (all_right HasSmallCost (factors_spelled f) (operates And ∷ primary_spelled p) h).1, tt)

    primary_small : (p : Primary) (depth : ℕ) → AllByRecursion HasSmallCost (primary_spelled p) → IsSmall (meaning depth p)
    primary_small (connector c) depth h = refl
    primary_small (macro m) depth h = put_small (formulas m) (all_fit m)
    primary_small brackets depth h = refl
    primary_small (bracketed a) depth h = small_joined Or (members (suc depth) a) (members_small a (suc depth) (between (opens Round) (spelled a) (closes Round ∷ []) h))
    primary_small (braced a) depth h =
        let inside = small_joined Or (members (suc depth) a) (members_small a (suc depth) (between (opens Curly) (spelled a) (closes Curly ∷ []) h)) in
        (λ i. inside i && true)
    primary_small (costly a) depth h = small_joined Or (members (suc depth) a) (members_small a (suc depth) (between (opens Square) (spelled a) (closes Square ∷ []) h))
    primary_small (costing a cost) depth h =
        let inside = small_joined Or (members (suc depth) a) (members_small a (suc depth) (between (opens Square) (spelled a) (closes Square ∷ number cost ∷ []) h)) in
        let own = (all_right HasSmallCost (spelled a) (closes Square ∷ number cost ∷ []) h.1).1.0 in
        (λ i. own i && inside i)

  tree_small : (a : Alternatives) → AllByRecursion HasSmallCost (spelled a) → IsSmall (tree a)
  tree_small a h = small_joined Or (members 0 a) (members_small a 0 h)

  module _ (written : (x : Lexeme) → (part_of_lexeme x ≡ wrong) ⊎ Writes x (part_of_lexeme x)) where
    pub derivation_small : (front : List (Lexeme × ℕ)) (a : Alternatives) → map (λ (t : Lexeme × ℕ). part_of_lexeme t.0) front ≡ spelled a ++ ends ∷ [] → IsSmall (tree a)
    derivation_small front a spells = tree_small a (all_left HasSmallCost (spelled a) (ends ∷ []) (subst (AllByRecursion HasSmallCost) spells (tokens_small written front)))

    pub expression_fits : (limit : ℕ) → limit ≤ LEVEL → (ts : List (Lexeme × ℕ)) (e : RawTree) (n : ℕ) (rest : List (Lexeme × ℕ))
        → StandFor (Lexeme × ℕ) (λ t. part_of_lexeme t.0) (rules_of formulas limit) ts e n rest → FilledFits formulas n e
    expression_fits limit low ts e n rest h =
        let a = h.derivation in
        let small = derivation_small h.front a h.spells in
        let within = tree_within formulas limit a h.keeps in
        let kept = tree_level_kept (rules_of formulas limit) a h.keeps in
        let reached = filled_level formulas (level a) (tree a) in
        let deep = tree_shallow formulas reached a (omega arith) (reached_shallow formulas all_fit reached (macros_of (tree a)) (omega arith)) in
        let fits : FilledFits formulas (level a) (tree a) = record { level_fits = record { few = omega arith; depth = deep }; prices = small } in
        subst (λ (t : RawTree). FilledFits formulas n t) h.means (subst (λ (k : ℕ). FilledFits formulas k (tree a)) h.level_is fits)
