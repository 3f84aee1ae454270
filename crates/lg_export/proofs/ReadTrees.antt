-- The formulas of entries that are read have a text: their connectors, lists and costs are such as a reader makes.
use Rattle.std.proofs.Common.{◌≡◌, ◌≢◌, ℕ, zero, suc, ◌-◌, ◌≤◌, ◌^◌, Bool, true, false, nat_eq, List, [], ◌∷◌, ◌++◌, map, length, take, get_or, Option, Some, None, IfSome, ◌⊎◌, inl, inr, refl, sym, ap, subst, ◌∙◌, arith}
use Rattle.std.specs.Prelude.{ℤ, pos, neg_ℤ, unsigned_abs}
use Rattle.std.specs.List.{AllByRecursion, suffix_len}
use Rattle.std.proofs.lemmas.List.{take_all}
use Rattle.std.proofs.lemmas.List.Sums.{suffix_len-take_yes, suffix_len-take_no}
use Rattle.lg_base.specs.Costs.{IsCostNumber}
use Rattle.lg_base.specs.Costs.IsCostNumber.{Plain, Negated}
use Rattle.lg_gram.specs.Connectors.{Connector, name_of}
use Rattle.lg_gram.specs.Filled.{Formulas, filled, filled_in, put_in}
use Rattle.lg_gram.specs.Limits.{PRICE}
use Rattle.lg_gram.specs.Names.{STAR, is_written, trimmed}
use Rattle.lg_gram.specs.RawTrees.{RawTree, raw_trees_of}
use Rattle.lg_gram.specs.Trees.{Tree}
use Rattle.lg_gram.proofs.Names.{trimmed_written}
use Rattle.lg_lex.specs.Tokens.{Lexeme}
use Rattle.lg_expr.specs.declared.part.Operator.{Operator}
use Rattle.lg_expr.specs.declared.part.Operator.TheVariants.{And, Or}
use Rattle.lg_expr.specs.declared.part.Bracket.TheVariants.{Round, Curly, Square}
use Rattle.lg_expr.specs.Parts.{Part, connects, names, operates, opens, closes, number, no_number, ends, wrong}
use Rattle.lg_expr.specs.Words.{Writes, WritesConnector}
use Rattle.lg_expr.specs.Classes.{part_of_lexeme}
use Rattle.lg_expr.specs.Grammar.{Alternatives, alternative, or_else, Factors, factor, and_then, Primary, connector, macro, brackets, bracketed, braced, costly, costing, spelled, factors_spelled, primary_spelled, joined, members, factors, meaning, tree}
use Rattle.lg_expr.proofs.AllOf.{all_append, all_left, all_right}
use Rattle.lg_export.specs.Exportable.{IsLettered, IsReadable, AreReadable}

-- ---- names without stars at the end

abbrev star : ℕ → Bool
star b = nat_eq b STAR

abbrev stars : List ℕ → ℕ
stars subs = suffix_len star subs

no_star_step : (subs : List ℕ) (k : ℕ) (b : Bool) → suc k ≤ length subs → star (get_or subs k 0) ≡ b → stars (take (k - stars (take k subs)) subs) ≡ 0 → stars (take (suc k - stars (take (suc k) subs)) subs) ≡ 0
no_star_step subs k true low is before =
    let at : suc k - 1 ≡ k = omega arith in
    let more = suffix_len-take_yes star subs (suc k) 0 (omega arith) low (ap (λ (n : ℕ). star (get_or subs n 0)) at ∙ is) in
    let less : stars (take (suc k - 1) subs) ≡ stars (take k subs) = ap (λ (n : ℕ). stars (take n subs)) at in
    let same : suc k - stars (take (suc k) subs) ≡ k - stars (take k subs) = omega (arith, more, less) in
    ap (λ (n : ℕ). stars (take n subs)) same ∙ before
no_star_step subs k false low is before =
    let at : suc k - 1 ≡ k = omega arith in
    let none = suffix_len-take_no star subs (suc k) 0 (omega arith) low (ap (λ (n : ℕ). star (get_or subs n 0)) at ∙ is) in
    let same : suc k - stars (take (suc k) subs) ≡ suc k = omega (arith, none) in
    ap (λ (n : ℕ). stars (take n subs)) same ∙ none

no_star_left : (subs : List ℕ) (k : ℕ) → k ≤ length subs → stars (take (k - stars (take k subs)) subs) ≡ 0
no_star_left subs zero low = refl
no_star_left subs (suc k) low = no_star_step subs k (star (get_or subs k 0)) low refl (no_star_left subs k (omega (arith, low)))

trimmed_twice : (subs : List ℕ) → trimmed (trimmed subs) ≡ trimmed subs
trimmed_twice subs =
    let whole : take (length subs) subs ≡ subs = take_all (length subs) subs (omega arith) in
    let none : stars (trimmed subs) ≡ 0 = subst (λ (l : List ℕ). stars (take (length subs - stars l) subs) ≡ 0) whole (no_star_left subs (length subs) (omega arith)) in
    take_all (length (trimmed subs) - stars (trimmed subs)) (trimmed subs) (omega (arith, none))

lettered : (w : List ℕ) (c : Connector) → WritesConnector w c → IsLettered (name_of c)
lettered w c h = record {
  written = (λ i. is_written (h.caps_are i) (h.subs_are i)) ∙ trimmed_written h.caps h.subs h.written;
  short = ap trimmed h.subs_are ∙ trimmed_twice h.subs ∙ sym h.subs_are;
}

-- ---- what parts write

-- a connector or a cost that a part writes is such as a tree may have
abbrev IsFit : Part → Type 0
IsFit (connects c) = IsLettered (name_of c)
IsFit (names m) = Unit {0}
IsFit (operates o) = Unit {0}
IsFit (opens b) = Unit {0}
IsFit (closes b) = Unit {0}
IsFit (number cost) = unsigned_abs cost ≤ PRICE
IsFit no_number = Unit {0}
IsFit ends = Unit {0}
IsFit wrong = Unit {0}

negated_small : (size : ℕ) → size ≤ 10 ^ 7 → unsigned_abs (neg_ℤ (pos size)) ≤ PRICE
negated_small zero low = omega arith
negated_small (suc n) low = omega (arith, low)

cost_small : (w : List ℕ) (cost : ℤ) → IsCostNumber w cost → unsigned_abs cost ≤ PRICE
cost_small w cost (Plain size is e) = let low = is.1 in subst (λ (z : ℤ). unsigned_abs z ≤ PRICE) (sym e) low
cost_small w cost (Negated rest size split is e) = let low = is.1 in subst (λ (z : ℤ). unsigned_abs z ≤ PRICE) (sym e) (negated_small size low)

part_fit : (x : Lexeme) (p : Part) → (p ≡ wrong) ⊎ Writes x p → IsFit p
part_fit x (connects c) (inl e) = absurd cc
part_fit x (connects c) (inr (w, is, h)) = lettered w c h
part_fit x (names m) h = tt
part_fit x (operates o) h = tt
part_fit x (opens b) h = tt
part_fit x (closes b) h = tt
part_fit x (number cost) (inl e) = absurd cc
part_fit x (number cost) (inr (w, is, h)) = cost_small w cost h
part_fit x no_number h = tt
part_fit x ends h = tt
part_fit x wrong h = tt

-- what a token is, by what it writes
abbrev pub AreWritten : Type 0
AreWritten = (x : Lexeme) → (part_of_lexeme x ≡ wrong) ⊎ Writes x (part_of_lexeme x)

tokens_fit : AreWritten → (ts : List (Lexeme × ℕ)) → AllByRecursion IsFit (map (λ (t : Lexeme × ℕ). part_of_lexeme t.0) ts)
tokens_fit written [] = tt
tokens_fit written (t ∷ ts) = (part_fit t.0 (part_of_lexeme t.0) (written t.0), tokens_fit written ts)

-- ---- trees

not_empty : {X : Type 0} (xs : List X) (x : X) → xs ++ x ∷ [] ≢ []
not_empty [] x e = absurd cc
not_empty (y ∷ xs) x e = absurd cc

some_members : (a : Alternatives) (depth : ℕ) → members depth a ≢ []
some_members (alternative f) depth e = absurd cc
some_members (or_else a f) depth e = not_empty (members depth a) (joined And (factors depth f)) e

some_factors : (f : Factors) (depth : ℕ) → factors depth f ≢ []
some_factors (factor p) depth e = absurd cc
some_factors (and_then f p) depth e = not_empty (factors depth f) (meaning depth p) e

module _ (formulas : Formulas) (macros : (name : List ℕ) → IfSome (formulas name) (λ m. IsReadable m.0)) where
  abbrev Readable : RawTree → Type 0
  Readable t = IsReadable (filled formulas t)

  readable_in : (ts : List RawTree) → AllByRecursion Readable ts → AreReadable (filled_in formulas (raw_trees_of ts))
  readable_in [] h = tt
  readable_in (t ∷ ts) h = (h.0, readable_in ts h.1)

  readable_joined : (op : Operator) (ts : List RawTree) → ts ≢ [] → AllByRecursion Readable ts → Readable (joined op ts)
  readable_joined op [] some h = absurd (some refl)
  readable_joined op (t ∷ []) some h = h.0
  readable_joined And (t ∷ u ∷ ts) some h = (tt, readable_in (t ∷ u ∷ ts) h)
  readable_joined Or (t ∷ u ∷ ts) some h = (tt, readable_in (t ∷ u ∷ ts) h)

  put_readable : (found : Option (Tree × ℕ)) → IfSome found (λ m. IsReadable m.0) → IsReadable (put_in found)
  put_readable None h = tt
  put_readable (Some m) h = h

  -- what stands between two brackets
  between : (before : Part) (inner after : List Part) → AllByRecursion IsFit (before ∷ (inner ++ after)) → AllByRecursion IsFit inner
  between before inner after h = all_left IsFit inner after h.1

  any_joined : (a : Alternatives) (depth : ℕ) → AllByRecursion Readable (members depth a) → Readable (joined Or (members depth a))
  any_joined a depth h = readable_joined Or (members depth a) (some_members a depth) h

  all_joined : (f : Factors) (depth : ℕ) → AllByRecursion Readable (factors depth f) → Readable (joined And (factors depth f))
  all_joined f depth h = readable_joined And (factors depth f) (some_factors f depth) h

  mutual
    members_readable : (a : Alternatives) (depth : ℕ) → AllByRecursion IsFit (spelled a) → AllByRecursion Readable (members depth a)
    members_readable (alternative f) depth h = (all_joined f depth (factors_readable f depth h), tt)
    members_readable (or_else a f) depth h =
        all_append Readable (members depth a) (joined And (factors depth f) ∷ [])
        (members_readable a depth (all_left IsFit (spelled a) (operates Or ∷ factors_spelled f) h))
        (all_joined f depth (factors_readable f depth (all_right IsFit (spelled a) (operates Or ∷ factors_spelled f) h).1), tt)

    factors_readable : (f : Factors) (depth : ℕ) → AllByRecursion IsFit (factors_spelled f) → AllByRecursion Readable (factors depth f)
    factors_readable (factor p) depth h = (primary_readable p depth h, tt)
    factors_readable (and_then f p) depth h =
        all_append Readable (factors depth f) (meaning depth p ∷ [])
        (factors_readable f depth (all_left IsFit (factors_spelled f) (operates And ∷ primary_spelled p) h))
        (primary_readable p depth (all_right IsFit (factors_spelled f) (operates And ∷ primary_spelled p) h).1, tt)

    primary_readable : (p : Primary) (depth : ℕ) → AllByRecursion IsFit (primary_spelled p) → Readable (meaning depth p)
    primary_readable (connector c) depth h = h.0
    primary_readable (macro m) depth h = put_readable (formulas m) (macros m)
    primary_readable brackets depth h = tt
    primary_readable (bracketed a) depth h = any_joined a (suc depth) (members_readable a (suc depth) (between (opens Round) (spelled a) (closes Round ∷ []) h))
    primary_readable (braced a) depth h = (tt, (tt, (any_joined a (suc depth) (members_readable a (suc depth) (between (opens Curly) (spelled a) (closes Curly ∷ []) h)), tt)))
    primary_readable (costly a) depth h = (omega arith, any_joined a (suc depth) (members_readable a (suc depth) (between (opens Square) (spelled a) (closes Square ∷ []) h)))
    primary_readable (costing a cost) depth h =
        ((all_right IsFit (spelled a) (closes Square ∷ number cost ∷ []) h.1).1.0, any_joined a (suc depth) (members_readable a (suc depth) (between (opens Square) (spelled a) (closes Square ∷ number cost ∷ []) h)))

  -- the formula of an expression that is read from tokens
  pub tree_readable : AreWritten → (front : List (Lexeme × ℕ)) (a : Alternatives) → map (λ (t : Lexeme × ℕ). part_of_lexeme t.0) front ≡ spelled a ++ ends ∷ [] → Readable (tree a)
  tree_readable written front a spells = any_joined a 0 (members_readable a 0 (all_left IsFit (spelled a) (ends ∷ []) (subst (AllByRecursion IsFit) spells (tokens_fit written front))))
