-- A problem has no more disjuncts than the formulas of its words have choices, and these are few.
use Rattle.std.proofs.Common.{◌≡◌, ℕ, zero, suc, ◌+◌, ◌≤◌, Bool, true, false, cond, List, [], ◌∷◌, ◌++◌, length, map, Contains, All, Option, Some, None, refl, sym, ap, ◌∙◌, subst, arith, length-append}
use Rattle.std.specs.Prelude.{nat_lt, slice_index_or}
use Rattle.std.specs.Cmp.{eq_by_cmp_equiv}
use Rattle.std.specs.Ordering.{eq_by_cmp}
use Rattle.std.specs.Option.{option_map_or}
use Rattle.std.specs.FinMap.{get}
use Rattle.std.specs.List.{AllZip, flat_map, sum_by}
use Rattle.std.specs.List.Sorted.{IsStrictlySortedBy}
use Rattle.std.proofs.lemmas.Bool.Decides.{nat_tests}
use Rattle.std.proofs.lemmas.List.{length-map}
use Rattle.std.proofs.lemmas.List.Elements.{All-nil, All-cons}
use Rattle.std.proofs.lemmas.List.Folds.{list_any_at, Any-from_list_any}
use Rattle.std.proofs.lemmas.List.Sums.{sum_by-cons, sum_by-append}
use Rattle.std.proofs.lemmas.Map.Keys.{IsDistinct-from_sorted}
use Rattle.std.proofs.lemmas.Map.Made.{length-le_from_is_member}
use Rattle.std.proofs.lemmas.Slice.Zip.{AllZip-long}
use Rattle.lg_base.proofs.Elements.{map_in, flat_in}
use Rattle.lg_gram.specs.Limits.{POSITIONS}
use Rattle.lg_gram.specs.Measures.{Choice, choices_of, choice_count}
use Rattle.lg_gram.specs.Problems.{IsProblem, IsPosition}
use Rattle.lg_gram.specs.Disjuncts.{disjunct_cmp, choice_of}
use Rattle.lg_gram.specs.Trees.{Tree}
use Rattle.lg_gram.specs.declared.disjunct.Disjunct.{Disjunct}
use Rattle.lg_gram.specs.declared.listing.Token.{Token}
use Rattle.lg_gram.proofs.Orders.{disjuncts_total}
use Rattle.lg_dict.specs.Dictionary.{Dictionary}
use Rattle.lg_eprune.specs.Live.{WordTree}
use Rattle.lg_token.specs.Bounds.{LISTED_CHOICES, word_choices, token_choices, all_choices, bound_of}
use Rattle.lg_idiom.specs.Overlays.{AddedAreFew}
use Rattle.lg_answer.proofs.Apart.{pairs}
use Rattle.lg_answer.specs.Steps.{AreOfSentence, of_word, word_trees, AreWordTrees, AreWordTreesFor, AreAddedInUse, AreExprsInUse, IsOfTrees, AreMade}

-- ---- the bounds of a sentence

neither : {A : Type 0} (a b : Bool) (x y : A) → cond a (Some x) (cond b (Some y) None) ≡ None → (a ≡ false) × (b ≡ false)
neither true b x y none = let no : ⊥ = cc in absurd no
neither false true x y none = let no : ⊥ = cc in absurd no
neither false false x y none = (refl, refl)

at_most : (m n : ℕ) → nat_lt m n ≡ false → n ≤ m
at_most m n h = grind (arith, nat_tests)

pub few_words : (dict : Dictionary) (tokens : List Token) → bound_of dict tokens ≡ None → length tokens ≤ POSITIONS
few_words dict tokens none = at_most POSITIONS (length tokens) (neither _ _ _ _ none).0

few_choices : (dict : Dictionary) (tokens : List Token) → bound_of dict tokens ≡ None → all_choices dict tokens ≤ LISTED_CHOICES
few_choices dict tokens none = at_most LISTED_CHOICES (all_choices dict tokens) (neither _ _ _ _ none).1

-- ---- the choices of formulas

abbrev row_choices : List WordTree → ℕ
row_choices ws = sum_by (λ w. choice_count w.tree) ws

of_word_count : (w : List ℕ) (o : Option Tree) → row_choices (of_word w o) ≡ option_map_or choice_count o 0
of_word_count w None = refl
of_word_count w (Some t) = let sum = sum_by-cons (λ (v : WordTree). choice_count v.tree) (record { word = w; tree = t }) [] in omega arith

trees_count : (dict : Dictionary) (words : List (List ℕ)) → row_choices (word_trees dict words) ≡ sum_by (word_choices dict) words
trees_count dict [] = refl
trees_count dict (w ∷ words) =
    let one = of_word_count w (get dict.words w) in
    let rest = trees_count dict words in
    let both = sum_by-append (λ (v : WordTree). choice_count v.tree) (of_word w (get dict.words w)) (word_trees dict words) in
    let sum = sum_by-cons (word_choices dict) w words in
    omega arith

words_count : (dict : Dictionary) (tokens : List Token) (words : List (List WordTree)) → AreWordTreesFor dict tokens words → sum_by row_choices words ≡ all_choices dict tokens
words_count dict [] [] all = refl
words_count dict [] (ws ∷ words) all = absurd all
words_count dict (t ∷ tokens) [] all = absurd all
words_count dict (t ∷ tokens) (ws ∷ words) all =
    let one : row_choices ws ≡ token_choices dict t = ap row_choices all.0.are ∙ trees_count dict t.words in
    let rest = words_count dict tokens words all.1 in
    omega (arith, one, rest, sum_by-cons row_choices ws words, sum_by-cons (token_choices dict) t tokens)

row_pairs : (ws : List WordTree) → sum_by (λ (a : List ℕ × Tree). choice_count a.1) (map (λ (w : WordTree). (w.word, w.tree)) ws) ≡ row_choices ws
row_pairs [] = refl
row_pairs (w ∷ ws) =
    omega (arith, row_pairs ws, sum_by-cons (λ (a : List ℕ × Tree). choice_count a.1) (w.word, w.tree) (map (λ (v : WordTree). (v.word, v.tree)) ws), sum_by-cons (λ (v : WordTree). choice_count v.tree) w ws)

pairs_count : (added : List (List WordTree)) → sum_by (sum_by (λ (a : List ℕ × Tree). choice_count a.1)) (pairs added) ≡ sum_by row_choices added
pairs_count [] = refl
pairs_count (ws ∷ added) =
    omega (arith, row_pairs ws, pairs_count added, sum_by-cons (sum_by (λ (a : List ℕ × Tree). choice_count a.1)) (map (λ (w : WordTree). (w.word, w.tree)) ws) (pairs added), sum_by-cons row_choices ws added)

added_count : AddedAreFew → (dict : Dictionary) (tokens : List Token) (b : Bool) (added : List (List WordTree)) → AreAddedInUse b dict tokens added
    → sum_by row_choices added ≤ LISTED_CHOICES
added_count law dict tokens true added idioms = let bound = law dict tokens (pairs added) idioms in omega (arith, bound, pairs_count added)
added_count law dict tokens false added none = let sum : sum_by row_choices added ≡ 0 = ap (sum_by row_choices) none in omega (arith, sum)

both_count : (exprs words added : List (List WordTree)) → length exprs ≡ length words → ((i : ℕ) → slice_index_or exprs i [] ≡ slice_index_or words i [] ++ slice_index_or added i [])
    → sum_by row_choices exprs ≤ sum_by row_choices words + sum_by row_choices added
both_count [] words added long both = omega arith
both_count (es ∷ exprs) [] added long both = absurd (omega arith)
both_count (es ∷ exprs) (ws ∷ words) [] long both =
    let one : row_choices es ≡ row_choices ws + row_choices [] = ap row_choices (both zero) ∙ sum_by-append (λ (w : WordTree). choice_count w.tree) ws [] in
    let rest = both_count exprs words [] (omega (arith, long)) (λ i. both (suc i)) in
    omega (arith, one, rest, sum_by-cons row_choices es exprs, sum_by-cons row_choices ws words)
both_count (es ∷ exprs) (ws ∷ words) (ms ∷ added) long both =
    let one : row_choices es ≡ row_choices ws + row_choices ms = ap row_choices (both zero) ∙ sum_by-append (λ (w : WordTree). choice_count w.tree) ws ms in
    let rest = both_count exprs words added (omega (arith, long)) (λ i. both (suc i)) in
    omega (arith, one, rest, sum_by-cons row_choices es exprs, sum_by-cons row_choices ws words, sum_by-cons row_choices ms added)

-- ---- the disjuncts of a position

abbrev with_choice : WordTree → Choice → Disjunct
with_choice w c = record { word = w.word; left = c.left; right = c.right; cost = c.cost }

abbrev ways : WordTree → List Disjunct
ways w = map (with_choice w) (choices_of w.tree)

-- a disjunct of one of the words is one of their ways
way_in : (ws : List WordTree) (d : Disjunct) → IsOfTrees ws d → Contains (flat_map ways ws) d
way_in ws d (w, h, is) =
    let same : with_choice w (choice_of d) ≡ d = (λ i. record { word = sym is.named i; left = d.left; right = d.right; cost = d.cost }) in
    flat_in ways ws w d h (subst (Contains (ways w)) same (map_in (with_choice w) (choices_of w.tree) (choice_of d) is.chosen))

no_more : (ds es : List Disjunct) → IsStrictlySortedBy disjunct_cmp ds → ((d : Disjunct) → Contains ds d → Contains es d) → length ds ≤ length es
no_more ds es rise each =
    let laws = eq_by_cmp_equiv disjuncts_total in
    length-le_from_is_member laws ds es (IsDistinct-from_sorted disjunct_cmp ds rise) (λ q h.
    let a = Any-from_list_any (eq_by_cmp disjunct_cmp q) ds h in
    let c = each a.1 (a.0, a.2, a.3) in
    list_any_at (eq_by_cmp disjunct_cmp q) es c.0 a.1 c.1 (ap (eq_by_cmp disjunct_cmp q) c.2 ∙ a.4))

pub made_positions : (pruned : List (List WordTree)) (left : List (List Disjunct)) → AllZip AreMade pruned left → All IsPosition left
made_positions [] [] all = All-nil IsPosition
made_positions [] (ds ∷ left) all = absurd all
made_positions (ws ∷ pruned) [] all = absurd all
made_positions (ws ∷ pruned) (ds ∷ left) all =
    All-cons IsPosition ds left (record { fit = all.0.fit; rise = all.0.expanded.rise }) (made_positions pruned left all.1)

module _ (counted : (t : Tree) → length (choices_of t) ≡ choice_count t) where
  ways_count : (ws : List WordTree) → length (flat_map ways ws) ≡ row_choices ws
  ways_count [] = refl
  ways_count (w ∷ ws) =
      let one : length (ways w) ≡ choice_count w.tree = length-map (choices_of w.tree) (with_choice w) ∙ counted w.tree in
      let rest = ways_count ws in
      let both = length-append (ways w) (flat_map ways ws) in
      let sum = sum_by-cons (λ (v : WordTree). choice_count v.tree) w ws in
      omega arith

  few_made : (exprs pruned : List (List WordTree)) (left : List (List Disjunct)) → length pruned ≡ length exprs
      → ((i : ℕ) (d : Disjunct) → IsOfTrees (slice_index_or pruned i []) d → IsOfTrees (slice_index_or exprs i []) d) → AllZip AreMade pruned left → sum_by length left ≤ sum_by row_choices exprs
  few_made exprs [] [] long of made = omega arith
  few_made exprs [] (ds ∷ left) long of made = absurd made
  few_made exprs (ps ∷ pruned) [] long of made = absurd made
  few_made [] (ps ∷ pruned) (ds ∷ left) long of made = absurd (omega arith)
  few_made (es ∷ exprs) (ps ∷ pruned) (ds ∷ left) long of made =
      let one : length ds ≤ length (flat_map ways es) = no_more ds (flat_map ways es) made.0.expanded.rise (λ d m. way_in es d (of zero d ((made.0.expanded.exactly d).0 m))) in
      let rest = few_made exprs pruned left (omega (arith, long)) (λ i d is. of (suc i) d is) made.1 in
      omega (arith, one, ways_count es, rest, sum_by-cons length ds left, sum_by-cons row_choices es exprs)

  -- what is made of the formulas in use, or of what is left of them, is a problem
  pub made_problem : AddedAreFew → (idioms : Bool) (dict : Dictionary) (tokens : List Token) (exprs pruned : List (List WordTree)) (left : List (List Disjunct)) → AreOfSentence dict tokens
      → AreExprsInUse idioms dict tokens exprs → length pruned ≡ length exprs → ((i : ℕ) (d : Disjunct) → IsOfTrees (slice_index_or pruned i []) d → IsOfTrees (slice_index_or exprs i []) d)
      → AllZip AreMade pruned left → IsProblem left
  made_problem law idioms dict tokens exprs pruned left listed has long of made =
      let few = few_words dict tokens listed.1.unbound in
      let lengths : length left ≡ length tokens =
      AllZip-long AreMade pruned left made ∙ long ∙ has.same_length ∙ AllZip-long (λ (t : Token) ws. AreWordTrees dict t.words ws) tokens has.words has.of_tokens in
      record {
        few = omega (arith, few, lengths);
        few_disjuncts = omega (
          arith,
          few_made exprs pruned left long of made,
          both_count exprs has.words has.added has.same_length has.both,
          words_count dict tokens has.words has.of_tokens,
          added_count law dict tokens idioms has.added has.of_idioms,
          few_choices dict tokens listed.1.unbound,
        );
        each = made_positions pruned left made;
      }
