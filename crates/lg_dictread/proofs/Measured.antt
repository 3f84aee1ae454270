-- A formula is within the measures, or passes one of them first.
use Rattle.std.proofs.Common.{◌≡◌, ℕ, Bool, true, false, leb, min, ◌⊎◌, inl, inr, refl, arith, leb-true, leb-false, nat_lt, cond, Option, None, Some, refl}
use Rattle.lg_gram.specs.Limits.{FORMULA_NODES, FORMULA_CHOICES, SIDE, COUNTED, SIDE_COUNTED}
use Rattle.lg_gram.specs.Measures.{node_count, choice_count}
use Rattle.lg_gram.specs.Trees.{Tree}
use Rattle.lg_dictread.specs.declared.dict_error.DictError.{DictError}
use Rattle.lg_dictread.specs.declared.dict_error.DictError.TheVariants.{TooManyNodes, TooManyChoices, SideTooLong}
use Rattle.lg_gram.specs.Measured.{excess}
use Rattle.lg_gram.specs.declared.measures.Excess.{Excess}
use Rattle.lg_gram.specs.declared.measures.Excess.TheVariants.{Nodes, Choices, Side}
use Rattle.lg_dictread.specs.Texts.{longest_side, IsSmall, IsLarge, nodes, choices, side}

abbrev pub SmallOrLarge : Tree → ℕ → Type 0
SmallOrLarge t line = IsSmall t ⊎ ((error : DictError) × IsLarge t line error)

by_tests : (t : Tree) (line : ℕ) (few_nodes few_choices short : Bool) → leb (node_count t) FORMULA_NODES ≡ few_nodes → leb (choice_count t) FORMULA_CHOICES ≡ few_choices → leb (longest_side t) SIDE ≡ short → SmallOrLarge t line
by_tests t line false b c n k s = inr (TooManyNodes line (min (node_count t) COUNTED), nodes (leb-false _ _ n))
by_tests t line true false c n k s = inr (TooManyChoices line (min (choice_count t) COUNTED), choices (leb-true _ _ n) (leb-false _ _ k))
by_tests t line true true false n k s = inr (SideTooLong line (min (longest_side t) SIDE_COUNTED), side (leb-true _ _ n) (leb-true _ _ k) (leb-false _ _ s))
by_tests t line true true true n k s = inl (record { nodes = leb-true _ _ n; choices = leb-true _ _ k; side = leb-true _ _ s })

pub small_or_large : (t : Tree) (line : ℕ) → SmallOrLarge t line
small_or_large t line = by_tests t line (leb (node_count t) FORMULA_NODES) (leb (choice_count t) FORMULA_CHOICES) (leb (longest_side t) SIDE) refl refl refl

pub not_large : (t : Tree) (line : ℕ) (error : DictError) → IsSmall t → IsLarge t line error → ⊥
not_large t line error small (nodes n) = let s = small.nodes in absurd (omega arith)
not_large t line error small (choices n k) = let s = small.choices in absurd (omega arith)
not_large t line error small (side n k l) = let s = small.side in absurd (omega arith)

pub one_large : (t : Tree) (line : ℕ) (d e : DictError) → IsLarge t line d → IsLarge t line e → d ≡ e
one_large t line d e (nodes n) (nodes m) = refl
one_large t line d e (nodes n) (choices m k) = absurd (omega arith)
one_large t line d e (nodes n) (side m k l) = absurd (omega arith)
one_large t line d e (choices n k) (nodes m) = absurd (omega arith)
one_large t line d e (choices n k) (choices m l) = refl
one_large t line d e (choices n k) (side m l s) = absurd (omega arith)
one_large t line d e (side n k l) (nodes m) = absurd (omega arith)
one_large t line d e (side n k l) (choices m o) = absurd (omega arith)
one_large t line d e (side n k l) (side m o s) = refl

-- what the first excess tells
abbrev pub IsTold : Tree → ℕ → Option Excess → Type 0
IsTold t line None = IsSmall t
IsTold t line (Some (Nodes count)) = IsLarge t line (TooManyNodes line count)
IsTold t line (Some (Choices count)) = IsLarge t line (TooManyChoices line count)
IsTold t line (Some (Side count)) = IsLarge t line (SideTooLong line count)

told_by_tests : (t : Tree) (line : ℕ) (many wide long : Bool) → nat_lt FORMULA_NODES (node_count t) ≡ many → nat_lt FORMULA_CHOICES (choice_count t) ≡ wide → nat_lt SIDE (longest_side t) ≡ long
    → IsTold t line (cond many (Some (Nodes (min (node_count t) COUNTED))) (cond wide (Some (Choices (min (choice_count t) COUNTED))) (cond long (Some (Side (min (longest_side t) SIDE_COUNTED))) None)))
told_by_tests t line true wide long n k s = nodes (leb-true _ _ n)
told_by_tests t line false true long n k s = choices (omega (arith, leb-false _ _ n)) (leb-true _ _ k)
told_by_tests t line false false true n k s = side (omega (arith, leb-false _ _ n)) (omega (arith, leb-false _ _ k)) (leb-true _ _ s)
told_by_tests t line false false false n k s = record { nodes = omega (arith, leb-false _ _ n); choices = omega (arith, leb-false _ _ k); side = omega (arith, leb-false _ _ s) }

pub excess_told : (t : Tree) (line : ℕ) → IsTold t line (excess t)
excess_told t line = told_by_tests t line (nat_lt FORMULA_NODES (node_count t)) (nat_lt FORMULA_CHOICES (choice_count t)) (nat_lt SIDE (longest_side t)) refl refl refl
