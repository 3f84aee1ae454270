-- No connector of an expression that is read has a line feed, and no macro that it names.
use Rattle.std.proofs.Common.{ℕ, suc, List, [], ◌∷◌, map, subst}
use Rattle.std.specs.List.{AllByRecursion}
use Rattle.lg_gram.specs.Filled.{macro_names}
use Rattle.lg_gram.specs.RawTrees.{RawTree, RawTrees, raw_empty, raw_leaf, named, raw_all, raw_one, raw_priced, no_raw_trees, raw_tree, raw_trees_of, macros_of, macros_in}
use Rattle.lg_lex.specs.Tokens.{Token}
use Rattle.lg_expr.specs.declared.part.Operator.{Operator}
use Rattle.lg_expr.specs.declared.part.Operator.TheVariants.{And, Or}
use Rattle.lg_expr.specs.Grammar.{Alternatives, alternative, or_else, Factors, factor, and_then, Primary, connector, macro, brackets, bracketed, braced, costly, costing, spelled, factors_spelled, primary_spelled, joined, members, factors, meaning, Rules}
use Rattle.lg_expr.specs.Reading.{StandFor}
use Rattle.lg_expr.proofs.AllOf.{all_append, all_left, all_right}
use Rattle.lg_dictread.specs.Entries.{part}
use Rattle.lg_script.specs.SingleLines.{IsSingleLine, connector_texts, texts_in}
use Rattle.lg_script.proofs.PlainParts.{HasPlainText, IsPlainPart, spelled_plain}
use Rattle.lg_script.proofs.PlainTokens.{ArePlainTokens}

-- no connector of it has a line feed, and no name of a macro
abbrev mutual
  pub IsPlainRaw : RawTree → Type 0
  IsPlainRaw raw_empty = Unit {0}
  IsPlainRaw (raw_leaf c) = HasPlainText c
  IsPlainRaw (named name depth) = IsSingleLine name
  IsPlainRaw (raw_all ts) = ArePlainRaw ts
  IsPlainRaw (raw_one ts) = ArePlainRaw ts
  IsPlainRaw (raw_priced t price) = IsPlainRaw t

  pub ArePlainRaw : RawTrees → Type 0
  ArePlainRaw no_raw_trees = Unit {0}
  ArePlainRaw (raw_tree t ts) = IsPlainRaw t × ArePlainRaw ts

together : (ts : List RawTree) → AllByRecursion IsPlainRaw ts → ArePlainRaw (raw_trees_of ts)
together [] h = tt
together (t ∷ ts) h = (h.0, together ts h.1)

joined_plain : (op : Operator) (ts : List RawTree) → AllByRecursion IsPlainRaw ts → IsPlainRaw (joined op ts)
joined_plain And [] h = tt
joined_plain Or [] h = tt
joined_plain op (t ∷ []) h = h.0
joined_plain And (t ∷ u ∷ ts) h = together (t ∷ u ∷ ts) h
joined_plain Or (t ∷ u ∷ ts) h = together (t ∷ u ∷ ts) h

mutual
  members_plain : (a : Alternatives) (depth : ℕ) → AllByRecursion IsPlainPart (spelled a) → AllByRecursion IsPlainRaw (members depth a)
  members_plain (alternative f) depth h = (joined_plain And (factors depth f) (factors_plain f depth h), tt)
  members_plain (or_else a f) depth h =
      all_append IsPlainRaw (members depth a) (joined And (factors depth f) ∷ []) (members_plain a depth (all_left IsPlainPart (spelled a) _ h))
      (joined_plain And (factors depth f) (factors_plain f depth (all_right IsPlainPart (spelled a) _ h).1), tt)

  factors_plain : (f : Factors) (depth : ℕ) → AllByRecursion IsPlainPart (factors_spelled f) → AllByRecursion IsPlainRaw (factors depth f)
  factors_plain (factor p) depth h = (primary_plain p depth h, tt)
  factors_plain (and_then f p) depth h =
      all_append IsPlainRaw (factors depth f) (meaning depth p ∷ []) (factors_plain f depth (all_left IsPlainPart (factors_spelled f) _ h))
      (primary_plain p depth (all_right IsPlainPart (factors_spelled f) _ h).1, tt)

  primary_plain : (p : Primary) (depth : ℕ) → AllByRecursion IsPlainPart (primary_spelled p) → IsPlainRaw (meaning depth p)
  primary_plain (connector c) depth h = h.0
  primary_plain (macro m) depth h = h.0
  primary_plain brackets depth h = tt
  primary_plain (bracketed a) depth h = joined_plain Or (members (suc depth) a) (members_plain a (suc depth) (all_left IsPlainPart (spelled a) _ h.1))
  primary_plain (braced a) depth h = (tt, (joined_plain Or (members (suc depth) a) (members_plain a (suc depth) (all_left IsPlainPart (spelled a) _ h.1)), tt))
  primary_plain (costly a) depth h = joined_plain Or (members (suc depth) a) (members_plain a (suc depth) (all_left IsPlainPart (spelled a) _ h.1))
  primary_plain (costing a cost) depth h = joined_plain Or (members (suc depth) a) (members_plain a (suc depth) (all_left IsPlainPart (spelled a) _ h.1))

-- of an expression that plain tokens stand for
pub expression_plain : (r : Rules) (ts : List Token) (e : RawTree) (written : ℕ) (rest : List Token) → StandFor Token part r ts e written rest → ArePlainTokens ts → IsPlainRaw e
expression_plain r ts e written rest h all =
    subst IsPlainRaw h.means (joined_plain Or (members 0 h.derivation) (members_plain h.derivation 0 (spelled_plain r ts e written rest h all)))

-- ---- the macros that it names

abbrev Names : List (List ℕ × ℕ) → Type 0
Names ms = AllByRecursion (λ (m : List ℕ × ℕ). IsSingleLine m.0) ms

mutual
  named_plain : (t : RawTree) → IsPlainRaw t → Names (macros_of t)
  named_plain raw_empty h = tt
  named_plain (raw_leaf c) h = tt
  named_plain (named name depth) h = (h, tt)
  named_plain (raw_all ts) h = all_named ts h
  named_plain (raw_one ts) h = all_named ts h
  named_plain (raw_priced t price) h = named_plain t h

  all_named : (ts : RawTrees) → ArePlainRaw ts → Names (macros_in ts)
  all_named no_raw_trees h = tt
  all_named (raw_tree t ts) h = all_append (λ (m : List ℕ × ℕ). IsSingleLine m.0) (macros_of t) (macros_in ts) (named_plain t h.0) (all_named ts h.1)

names_single : (ms : List (List ℕ × ℕ)) → Names ms → AllByRecursion IsSingleLine (map (λ (m : List ℕ × ℕ). m.0) ms)
names_single [] all = tt
names_single (m ∷ ms) all = (all.0, names_single ms all.1)

pub macros_single : (t : RawTree) → IsPlainRaw t → AllByRecursion IsSingleLine (macro_names t)
macros_single t h = names_single (macros_of t) (named_plain t h)

-- ---- its connectors

mutual
  pub connectors_single : (t : RawTree) → IsPlainRaw t → AllByRecursion IsSingleLine (connector_texts t)
  connectors_single raw_empty h = tt
  connectors_single (raw_leaf c) h = (h, tt)
  connectors_single (named name depth) h = tt
  connectors_single (raw_all ts) h = all_connectors ts h
  connectors_single (raw_one ts) h = all_connectors ts h
  connectors_single (raw_priced t price) h = connectors_single t h

  all_connectors : (ts : RawTrees) → ArePlainRaw ts → AllByRecursion IsSingleLine (texts_in ts)
  all_connectors no_raw_trees h = tt
  all_connectors (raw_tree t ts) h = all_append IsSingleLine (connector_texts t) (texts_in ts) (connectors_single t h.0) (all_connectors ts h.1)
