-- An expression that is read keeps to the bounds of entries.
use Rattle.std.proofs.Common.{◌≡◌, ℕ, suc, ◌+◌, ◌*◌, ◌^◌, ◌<◌, ◌≤◌, List, [], ◌∷◌, ◌++◌, length, None, ◌⊎◌, refl, sym, subst, ap, arith, length-append}
use Rattle.std.proofs.lemmas.List.{append-nil, length-map}
use Rattle.std.proofs.lemmas.List.Elements.{All-from_recursion}
use Rattle.std.specs.List.{AllByRecursion}
use Rattle.lg_gram.specs.EntryBounds.{ReferencesLie, ReferencesLieIn, IsEntryInBounds}
use Rattle.lg_gram.specs.EntryViews.{EntryView}
use Rattle.lg_gram.specs.Filled.{Formulas}
use Rattle.lg_gram.specs.Limits.{LEVEL}
use Rattle.lg_gram.specs.RawTrees.{RawTree, raw_trees_of, macros_of, macros_in}
use Rattle.lg_lex.specs.Tokens.{Lexeme}
use Rattle.lg_expr.specs.declared.part.Operator.{Operator}
use Rattle.lg_expr.specs.declared.part.Operator.TheVariants.{And, Or}
use Rattle.lg_expr.specs.declared.part.Bracket.TheVariants.{Round, Curly, Square}
use Rattle.lg_expr.specs.Parts.{Part, operates, opens, closes, number, ends, wrong}
use Rattle.lg_expr.specs.Words.{Writes}
use Rattle.lg_expr.specs.Classes.{part_of_lexeme}
use Rattle.lg_expr.specs.Grammar.{Alternatives, alternative, or_else, Factors, factor, and_then, Primary, connector, macro, brackets, bracketed, braced, costly, costing, spelled, factors_spelled, primary_spelled, joined, members, factors, meaning, tree, level, Rules}
use Rattle.lg_expr.specs.Reading.{StandFor}
use Rattle.lg_expr.proofs.AllOf.{all_append}
use Rattle.lg_expr.proofs.References.{tree_named}
use Rattle.lg_expr.proofs.Depths.{tree_level_kept, tree_shallow, PutShallow}
use Rattle.lg_expr.proofs.Prices.{derivation_small}

-- ---- no more references than parts

abbrev count : List RawTree → ℕ
count ts = length (macros_in (raw_trees_of ts))

count_append : (xs ys : List RawTree) → count (xs ++ ys) ≡ count xs + count ys
count_append [] ys = omega arith
count_append (x ∷ xs) ys =
    omega (arith, count_append xs ys, length-append (macros_of x) (macros_in (raw_trees_of xs)), length-append (macros_of x) (macros_in (raw_trees_of (xs ++ ys))))

count_one : (t : RawTree) → count (t ∷ []) ≡ length (macros_of t)
count_one t = ap length (append-nil (macros_of t))

count_joined : (op : Operator) (ts : List RawTree) → length (macros_of (joined op ts)) ≡ count ts
count_joined And [] = refl
count_joined Or [] = refl
count_joined op (t ∷ []) = sym (count_one t)
count_joined And (t ∷ u ∷ ts) = refl
count_joined Or (t ∷ u ∷ ts) = refl

-- what stands in brackets, and at least one part before it
bracketed_counted : (ts : List RawTree) (before : Part) (inner after : List Part) → count ts ≤ length inner → length (macros_of (joined Or ts)) ≤ length (before ∷ (inner ++ after))
bracketed_counted ts before inner after h = omega (arith, count_joined Or ts, length-append inner after)

-- a member more, with the operator before it
one_more : (ts : List RawTree) (t : RawTree) (xs ys : List Part) (op : Part) → count ts ≤ length xs → length (macros_of t) ≤ length ys → count (ts ++ t ∷ []) ≤ length (xs ++ op ∷ ys)
one_more ts t xs ys op h k = omega (arith, count_append ts (t ∷ []), count_one t, length-append xs (op ∷ ys))

mutual
  members_counted : (a : Alternatives) (depth : ℕ) → count (members depth a) ≤ length (spelled a)
  members_counted (alternative f) depth = omega (arith, count_one (joined And (factors depth f)), count_joined And (factors depth f), factors_counted f depth)
  members_counted (or_else a f) depth =
      one_more (members depth a) (joined And (factors depth f)) (spelled a) (factors_spelled f) (operates Or) (members_counted a depth) (omega (arith, count_joined And (factors depth f), factors_counted f depth))

  factors_counted : (f : Factors) (depth : ℕ) → count (factors depth f) ≤ length (factors_spelled f)
  factors_counted (factor p) depth = omega (arith, count_one (meaning depth p), primary_counted p depth)
  factors_counted (and_then f p) depth = one_more (factors depth f) (meaning depth p) (factors_spelled f) (primary_spelled p) (operates And) (factors_counted f depth) (primary_counted p depth)

  primary_counted : (p : Primary) (depth : ℕ) → length (macros_of (meaning depth p)) ≤ length (primary_spelled p)
  primary_counted (connector c) depth = omega arith
  primary_counted (macro m) depth = omega arith
  primary_counted brackets depth = omega arith
  primary_counted (bracketed a) depth = bracketed_counted (members (suc depth) a) (opens Round) (spelled a) (closes Round ∷ []) (members_counted a (suc depth))
  primary_counted (braced a) depth =
      rw append-nil (bracketed_counted (members (suc depth) a) (opens Curly) (spelled a) (closes Curly ∷ []) (members_counted a (suc depth)))
  primary_counted (costly a) depth = bracketed_counted (members (suc depth) a) (opens Square) (spelled a) (closes Square ∷ []) (members_counted a (suc depth))
  primary_counted (costing a cost) depth = bracketed_counted (members (suc depth) a) (opens Square) (spelled a) (closes Square ∷ number cost ∷ []) (members_counted a (suc depth))

tree_counted : (a : Alternatives) → length (macros_of (tree a)) ≤ length (spelled a)
tree_counted a = omega (arith, count_joined Or (members 0 a), members_counted a 0)

-- ---- where references lie

-- they lie as they should, also where fewer steps stand above the tree
abbrev Lie : ℕ → RawTree → Type 0
Lie most t = (above : ℕ) → above ≤ most → ReferencesLie above t

lie_in : (most : ℕ) (ts : List RawTree) → AllByRecursion (Lie most) ts → (above : ℕ) → above ≤ most → ReferencesLieIn above (raw_trees_of ts)
lie_in most [] h above low = tt
lie_in most (t ∷ ts) h above low = (h.0 above low, lie_in most ts h.1 above low)

joined_lie : (op : Operator) (most : ℕ) (ts : List RawTree) → AllByRecursion (Lie (most + 1)) ts → Lie most (joined op ts)
joined_lie And most [] h above low = tt
joined_lie Or most [] h above low = tt
joined_lie op most (t ∷ []) h above low = h.0 above (omega arith)
joined_lie And most (t ∷ u ∷ ts) h above low = lie_in (most + 1) (t ∷ u ∷ ts) h (above + 1) (omega arith)
joined_lie Or most (t ∷ u ∷ ts) h above low = lie_in (most + 1) (t ∷ u ∷ ts) h (above + 1) (omega arith)

-- a disjunction, where its members lie so
disjunction_lies : (depth : ℕ) (ts : List RawTree) → AllByRecursion (Lie (3 * depth + 1)) ts → Lie (3 * depth) (joined Or ts)
disjunction_lies depth ts h = joined_lie Or (3 * depth) ts h

mutual
  members_lie : (a : Alternatives) (depth : ℕ) → AllByRecursion (Lie (3 * depth + 1)) (members depth a)
  members_lie (alternative f) depth = (joined_lie And (3 * depth + 1) (factors depth f) (factors_lie f depth), tt)
  members_lie (or_else a f) depth =
      all_append (Lie (3 * depth + 1)) (members depth a) (joined And (factors depth f) ∷ []) (members_lie a depth)
      (joined_lie And (3 * depth + 1) (factors depth f) (factors_lie f depth), tt)

  factors_lie : (f : Factors) (depth : ℕ) → AllByRecursion (Lie (3 * depth + 1 + 1)) (factors depth f)
  factors_lie (factor p) depth = (primary_lies p depth, tt)
  factors_lie (and_then f p) depth = all_append (Lie (3 * depth + 1 + 1)) (factors depth f) (meaning depth p ∷ []) (factors_lie f depth) (primary_lies p depth, tt)

  primary_lies : (p : Primary) (depth : ℕ) → Lie (3 * depth + 1 + 1) (meaning depth p)
  primary_lies (connector c) depth above low = tt
  primary_lies (macro m) depth above low = omega arith
  primary_lies brackets depth above low = tt
  primary_lies (bracketed a) depth above low = disjunction_lies (suc depth) (members (suc depth) a) (members_lie a (suc depth)) above (omega arith)
  primary_lies (braced a) depth above low = (tt, (disjunction_lies (suc depth) (members (suc depth) a) (members_lie a (suc depth)) (above + 1) (omega arith), tt))
  primary_lies (costly a) depth above low = disjunction_lies (suc depth) (members (suc depth) a) (members_lie a (suc depth)) (above + 1) (omega arith)
  primary_lies (costing a cost) depth above low = disjunction_lies (suc depth) (members (suc depth) a) (members_lie a (suc depth)) (above + 1) (omega arith)

-- ---- all bounds

abbrev nothing : Formulas
nothing = λ name. None

-- where no more brackets are open at a reference than the level, its `()` lies no deeper
empty_shallow : (bound : ℕ) (ms : List (List ℕ × ℕ)) → AllByRecursion (λ m. m.1 ≤ bound) ms → AllByRecursion (PutShallow nothing bound) ms
empty_shallow bound [] h = tt
empty_shallow bound (m ∷ ms) h = let low = h.0 in (omega arith, empty_shallow bound ms h.1)

pub entry_bounded : ((x : Lexeme) → (part_of_lexeme x ≡ wrong) ⊎ Writes x (part_of_lexeme x)) → (r : Rules) (ts : List (Lexeme × ℕ)) (e : EntryView) (rest : List (Lexeme × ℕ))
    → r.limit ≤ LEVEL → length ts < 2 ^ 32 → StandFor (Lexeme × ℕ) (λ t. part_of_lexeme t.0) r ts e.expr e.level rest → IsEntryInBounds e
entry_bounded written r ts e rest low few h =
    let a = h.derivation in
    let kept = tree_level_kept r a h.keeps in
    let open_at : AllByRecursion (λ m. m.1 ≤ level a) (macros_of (tree a)) = tree_named (λ m. m.1 ≤ level a) r (level a) (λ m depth low k. low) a (omega arith) h.keeps in
    let tokens = ap length h.spells in
    let bounds : IsEntryInBounds (record e { expr = tree a; level = level a }) = record {
      references = omega (arith, tree_counted a, tokens, length-map h.front (λ (t : Lexeme × ℕ). part_of_lexeme t.0), length-append (spelled a) (ends ∷ []), ap length h.split, length-append h.front rest);
      level = omega arith;
      brackets = All-from_recursion (λ m. m.1 ≤ level a) (macros_of (tree a)) open_at;
      prices = derivation_small nothing (λ name. tt) written h.front a h.spells;
      leaves = tree_shallow nothing (level a) a (omega arith) (empty_shallow (level a) (macros_of (tree a)) open_at);
      named = disjunction_lies 0 (members 0 a) (members_lie a 0) 0 (omega arith);
    } in
    subst (λ (t : RawTree). IsEntryInBounds (record e { expr = t })) h.means (subst (λ (n : ℕ). IsEntryInBounds (record e { expr = tree a; level = n })) h.level_is bounds)
