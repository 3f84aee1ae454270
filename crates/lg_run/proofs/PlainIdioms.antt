-- No disjunct of a sentence's problem has a line feed, with idioms or without, if the dictionary has none.
use Rattle.std.proofs.Common.{◌≡◌, ℕ, zero, suc, ◌-◌, ◌<◌, Bool, true, false, eqb, inl, inr, List, [], ◌∷◌, length, get_or, Some, Contains, refl, sym, ap, subst, arith, true≢false, ◌∙◌}
use Rattle.std.specs.Prelude.{slice_get, slice_index_or, nat_eq, codes, decimal}
use Rattle.std.specs.List.{AllByRecursion, list_any}
use Rattle.std.proofs.lemmas.Bool.{or_parts}
use Rattle.std.proofs.lemmas.Option.{slice_get-get_or}
use Rattle.std.proofs.lemmas.List.Elements.{All-from_recursion, All-contains}
use Rattle.lg_base.proofs.Elements.{map_out}
use Rattle.lg_gram.specs.Connectors.{Connector, connector_text}
use Rattle.lg_gram.specs.Disjuncts.{choice_of, IsDisjunctOf}
use Rattle.lg_gram.specs.Measures.{choices_of}
use Rattle.lg_gram.specs.Names.{joint_text}
use Rattle.lg_gram.specs.Trees.{Tree, leaf}
use Rattle.lg_gram.specs.declared.disjunct.Disjunct.{Disjunct}
use Rattle.lg_gram.specs.declared.listing.Token.{Token}
use Rattle.lg_dict.specs.Dictionary.{Dictionary}
use Rattle.lg_expr.proofs.AllOf.{all_append}
use Rattle.lg_idiom.specs.Idioms.{Chain, joint_of, later_formula, formula_at, AreIdioms}
use Rattle.lg_idiom.specs.Overlays.{IsOfAdded}
use Rattle.lg_idiom.proofs.Chains.{taken_in}
use Rattle.lg_token.specs.Problems.{IsOfWords}
use Rattle.lg_answer.specs.Problems.{IsProblemInUse}
use Rattle.lg_script.specs.SingleLines.{IsSingleLine}
use Rattle.lg_text.specs.Shown.{IsOneLine, IsPlainDisjunct}
use Rattle.lg_text.proofs.PlainTexts.{number_plain}
use Rattle.lg_run.specs.PlainInputs.{IsPlainTree, IsPlainDictionary}
use Rattle.lg_run.proofs.PlainTrees.{ArePlainConnectors, IsPlainChoice, choices_plain}
use Rattle.lg_run.proofs.PlainLines.{NoFeed, one_line}

-- ---- texts of joints

single_line : (text : List ℕ) → IsOneLine text → IsSingleLine text
single_line [] h = tt
single_line (b ∷ bs) h =
    let parts = or_parts (eqb 10 b) (list_any (eqb 10) bs) h in
    (λ e. true≢false (sym (ap (eqb 10) e) ∙ parts.0), single_line bs parts.1)

joint_plain : (rank start joint : ℕ) → IsSingleLine (joint_text rank start joint)
joint_plain rank start joint =
    all_append NoFeed (codes "id") _ (single_line (codes "id") refl)
    (all_append NoFeed (decimal rank) _ (single_line (decimal rank) (number_plain rank))
    (all_append NoFeed (codes ".") _ (single_line (codes ".") refl)
    (all_append NoFeed (decimal start) _ (single_line (decimal start) (number_plain start))
    (all_append NoFeed (codes ".") _ (single_line (codes ".") refl) (single_line (decimal joint) (number_plain joint))))))

-- ---- formulas of chains

leaf_plain : (c : Chain) (number : ℕ) (right : Bool) → IsPlainTree (leaf (joint_of c number right))
leaf_plain c number right = all_append NoFeed (joint_text c.rank c.start number) [] (joint_plain c.rank c.start number) tt

later_plain : (c : Chain) (i : ℕ) (last : Bool) → IsPlainTree c.formula → IsPlainTree (later_formula c i last)
later_plain c i true h = (leaf_plain c (i - 1) false, (h, tt))
later_plain c i false h = (leaf_plain c (i - 1) false, (leaf_plain c i true, tt))

formula_plain : (c : Chain) (i : ℕ) → IsPlainTree c.formula → IsPlainTree (formula_at c i)
formula_plain c zero h = leaf_plain c 0 true
formula_plain c (suc i) h = later_plain c (suc i) (nat_eq (suc (suc i)) c.count) h

-- ---- disjuncts

connectors_plain : (cs : List Connector) → ArePlainConnectors cs → AllByRecursion (λ (c : Connector). IsOneLine (connector_text c)) cs
connectors_plain [] h = tt
connectors_plain (c ∷ cs) h = (one_line (connector_text c) h.0, connectors_plain cs h.1)

of_formula : (word : List ℕ) (t : Tree) (d : Disjunct) → IsSingleLine word → IsPlainTree t → IsDisjunctOf word t d → IsPlainDisjunct d
of_formula word t d single plain is =
    let choice : IsPlainChoice (choice_of d) = All-contains IsPlainChoice (choices_of t) (choice_of d) (All-from_recursion IsPlainChoice (choices_of t) (choices_plain t plain)) is.chosen in
    record {
      word = subst IsOneLine (sym is.named) (one_line word single);
      left = connectors_plain d.left choice.0;
      right = connectors_plain d.right choice.1;
    }

of_words : (dict : Dictionary) (words : List (List ℕ)) (d : Disjunct) → IsPlainDictionary dict → IsOfWords dict words d → IsPlainDisjunct d
of_words dict words d plain (word, t, among, read, is) = let both = plain.words word t read in of_formula word t d both.0 both.1 is

of_added : (dict : Dictionary) (tokens : List Token) (added : List (List (List ℕ × Tree))) (k : ℕ) (d : Disjunct) → IsPlainDictionary dict → AreIdioms dict tokens added
    → k < length added → IsOfAdded (slice_index_or added k []) d → IsPlainDisjunct d
of_added dict tokens added k d plain idioms within (a, among, is) =
    let here = idioms.each k (get_or added k []) (slice_get-get_or added k [] within) in
    let (c, in_here, same) = map_out (λ (c : Chain). (c.word, formula_at c (k - c.start))) here.here a (subst (λ row. Contains row a) here.are among) in
    let chain = (idioms.all.exactly c).0 (taken_in idioms.chains 0 idioms.taken idioms.are_taken c ((here.exactly c).0 in_here).0) in
    let both = plain.words c.word c.formula chain.has in
    of_formula c.word (formula_at c (k - c.start)) d both.0 (formula_plain c (k - c.start) both.1) (subst (λ (b : List ℕ × Tree). IsDisjunctOf b.0 b.1 d) (sym same) is)

-- ---- problems

module _ (dict : Dictionary) (plain : IsPlainDictionary dict) (tokens : List Token) (problem : List (List Disjunct)) where
  pub in_use_long : (idioms : Bool) → IsProblemInUse idioms dict tokens problem → length problem ≡ length tokens
  in_use_long true is = is.same_length
  in_use_long false is = is.same_length

  pub in_use_plain : (idioms : Bool) → IsProblemInUse idioms dict tokens problem → (k : ℕ) (t : Token) → slice_get tokens k ≡ Some t → k < length tokens
      → (d : Disjunct) → Contains (slice_index_or problem k []) d → IsPlainDisjunct d
  in_use_plain false is k t here low d m = of_words dict t.words d plain (((is.each k t here).exactly d).0 m)
  in_use_plain true is k t here low d m =
      elim (((is.each k t here).exactly d).0 m) [
        | inl own ↦ of_words dict t.words d plain own
        | inr added ↦ of_added dict tokens is.added k d plain is.idioms (let same = is.idioms.same_length in omega (arith, low, same)) added
      ]
