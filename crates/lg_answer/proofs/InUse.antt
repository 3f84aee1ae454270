-- The problem of the formulas in use is that of the tokens, with idioms or without.
use Rattle.std.proofs.Common.{◌≡◌, ◌⊎◌, ◌↔◌, ℕ, zero, suc, Bool, true, false, List, [], ◌∷◌, ◌++◌, length, map, Contains, All, Some, slice_get, inl, inr, refl, sym, ap, ◌∙◌, subst, arith, append-nil}
use Rattle.std.specs.Prelude.{slice_index_or}
use Rattle.std.specs.List.{AllZip}
use Rattle.std.proofs.lemmas.Bool.{cases_lt}
use Rattle.std.proofs.lemmas.List.{get_or_past, get_or_default, length-map}
use Rattle.std.proofs.lemmas.List.Elements.{All-nil, All-append, Contains-append_left, Contains-append_right, Contains-append_cases}
use Rattle.std.proofs.lemmas.Slice.Zip.{AllZip-long}
use Rattle.lg_base.proofs.Elements.{contains_none, map_in, map_out}
use Rattle.lg_gram.specs.Disjuncts.{IsDisjunctOf}
use Rattle.lg_gram.specs.Measures.{choices_of, choice_count}
use Rattle.lg_gram.specs.Trees.{Tree}
use Rattle.lg_gram.specs.declared.disjunct.Disjunct.{Disjunct}
use Rattle.lg_gram.specs.declared.listing.Token.{Token}
use Rattle.lg_dict.specs.Dictionary.{Dictionary}
use Rattle.lg_disj.specs.Exist.{HasNames, ExpressionsHaveDisjuncts}
use Rattle.lg_eprune.specs.Live.{WordTree, AreNarrowed, LinkagesAreLive}
use Rattle.lg_idiom.specs.Overlays.{AddedAreFew, IsOfAdded}
use Rattle.lg_idiom.specs.Sentences.{AddIdioms}
use Rattle.lg_answer.proofs.Apart.{pairs, pairs_at, exprs_apart}
use Rattle.lg_answer.proofs.Compounds.{have_own}
use Rattle.lg_answer.proofs.AllDisjuncts.{all_length, all_members}
use Rattle.lg_answer.proofs.Few.{few_words, made_problem}
use Rattle.lg_answer.proofs.Lists.{zip_at, zip_each}
use Rattle.lg_answer.proofs.Made.{expanded_none, have_expanded}
use Rattle.lg_answer.proofs.Narrowed.{keeps_linkages, narrowed_apart, narrowed_of}
use Rattle.lg_answer.proofs.Words.{trees_out, trees_in}
use Rattle.lg_token.specs.Problems.{IsOfWords}
use Rattle.lg_answer.specs.Problems.{IsProblemInUse}
use Rattle.lg_answer.specs.Steps.{AreOfSentence, word_trees, AreNamed, AreWordTrees, AreWordTreesFor, AreExprsInUse, behind, IsOfTrees, AreApart, AreExpanded, HaveProblem, IsNarrowed}
use Rattle.lg_answer.specs.Wide.{AreExpandable, all_disjuncts}

-- ---- the formulas in use

none_named : AreNamed []
none_named = All-nil (λ (w : WordTree). HasNames w.tree)

words_named : (dict : Dictionary) (tokens : List Token) (words : List (List WordTree)) → AreWordTreesFor dict tokens words → (i : ℕ) → AreNamed (slice_index_or words i [])
words_named dict tokens [] all i = none_named
words_named dict [] (ws ∷ words) all i = absurd all
words_named dict (t ∷ tokens) (ws ∷ words) all zero = all.0.named
words_named dict (t ∷ tokens) (ws ∷ words) all (suc i) = words_named dict tokens words all.1 i

-- without idioms
pub plain_in_use : (dict : Dictionary) (tokens : List Token) (words : List (List WordTree)) → AreWordTreesFor dict tokens words → AreExprsInUse false dict tokens words
plain_in_use dict tokens words of = record {
  words = words;
  of_tokens = of;
  added = [];
  of_idioms = refl;
  same_length = refl;
  both = λ i. sym (append-nil (slice_index_or words i []));
  named = words_named dict tokens words of;
}

behind_at : (words added : List (List WordTree)) → length words ≡ length added → (i : ℕ) → slice_index_or (behind words added) i [] ≡ slice_index_or words i [] ++ slice_index_or added i []
behind_at [] [] long i = refl
behind_at [] (more ∷ added) long i = absurd (omega (arith, long))
behind_at (ws ∷ words) [] long i = absurd (omega (arith, long))
behind_at (ws ∷ words) (more ∷ added) long zero = refl
behind_at (ws ∷ words) (more ∷ added) long (suc i) = behind_at words added (omega (arith, long)) i

behind_length : (words added : List (List WordTree)) → length words ≡ length added → length (behind words added) ≡ length words
behind_length [] added long = refl
behind_length (ws ∷ words) [] long = absurd (omega (arith, long))
behind_length (ws ∷ words) (more ∷ added) long = let rest = behind_length words added (omega (arith, long)) in omega (arith, rest)

-- where nothing is left of either
pub behind_end : (words added done all : List (List WordTree)) → (length words ≡ 0) ⊎ (length added ≡ 0) → done ++ behind words added ≡ all → done ≡ all
behind_end [] added done all ended is = sym (append-nil done) ∙ is
behind_end (ws ∷ words) [] done all ended is = sym (append-nil done) ∙ is
behind_end (ws ∷ words) (more ∷ added) done all ended is = absurd (elim ended [ inl none ↦ omega (arith, none) | inr none ↦ omega (arith, none) ])

all_at : {X : Type 0} (P : List X → Type 0) → P [] → (xs : List (List X)) → All P xs → (i : ℕ) → P (slice_index_or xs i [])
all_at P none xs all i = elim (cases_lt i (length xs)) [
  | inl low ↦ all i [] low
  | inr past ↦ subst P (sym (get_or_past xs i [] past)) none
]

-- with idioms
pub idioms_in_use : (dict : Dictionary) (tokens : List Token) (words added : List (List WordTree)) → AreWordTreesFor dict tokens words → AddIdioms dict tokens added → All AreNamed added
    → AreExprsInUse true dict tokens (behind words added)
idioms_in_use dict tokens words added of idioms named =
    let count : length (pairs added) ≡ length added = length-map added (map (λ (w : WordTree). (w.word, w.tree))) in
    let tokens_long : length words ≡ length tokens = AllZip-long (λ (t : Token) ws. AreWordTrees dict t.words ws) tokens words of in
    let added_long : length (pairs added) ≡ length tokens = idioms.same_length in
    let long : length words ≡ length added = tokens_long ∙ sym added_long ∙ count in
    record {
      words = words;
      of_tokens = of;
      added = added;
      of_idioms = idioms;
      same_length = behind_length words added long;
      both = behind_at words added long;
      named = λ i. subst AreNamed (sym (behind_at words added long i))
          (All-append (λ (w : WordTree). HasNames w.tree) (slice_index_or words i []) (slice_index_or added i []) (words_named dict tokens words of i) (all_at AreNamed none_named added named i));
    }

-- ---- the problem of the tokens

-- a disjunct of words of a token, or of what stands behind them
of_both : (dict : Dictionary) (words : List (List ℕ)) (more : List WordTree) (d : Disjunct) → IsOfTrees (word_trees dict words ++ more) d ↔ (IsOfWords dict words d ⊎ IsOfTrees more d)
of_both dict words more d = (
  λ of. elim (Contains-append_cases (word_trees dict words) more of.0 of.1) [
    | inl own ↦ (let got = trees_out dict words of.0 own in inl (of.0.word, of.0.tree, got.0, got.1, of.2))
    | inr new ↦ inr (of.0, new, of.2)
  ],
  λ h. elim h [
    | inl own ↦ (record { word = own.0; tree = own.1 }, Contains-append_left (word_trees dict words) more (record { word = own.0; tree = own.1 }) (trees_in dict words own.0 own.1 own.2 own.3), own.4)
    | inr new ↦ (new.0, Contains-append_right (word_trees dict words) more new.0 new.1, new.2)
  ],
)

-- a disjunct of what idioms add to a position
of_pairs : (added : List (List WordTree)) (p : ℕ) (d : Disjunct) → IsOfTrees (slice_index_or added p []) d ↔ IsOfAdded (slice_index_or (pairs added) p []) d
of_pairs added p d =
    let f : WordTree → List ℕ × Tree = λ (w : WordTree). (w.word, w.tree) in
    let ws = slice_index_or added p [] in (
      λ of. (f of.0, subst (λ l. Contains l (f of.0)) (sym (pairs_at added p)) (map_in f ws of.0 of.1), of.2),
      λ of.
          let (w, m, is) = map_out f ws of.0 (subst (λ l. Contains l of.0) (pairs_at added p) of.1) in
          (w, m, subst (λ (x : List ℕ × Tree). IsDisjunctOf x.0 x.1 d) (sym is) of.2),
    )

module _ (dict : Dictionary) (tokens : List Token) where
  -- what stands at the position of a token
  at_token : (idioms : Bool) (exprs : List (List WordTree)) (has : AreExprsInUse idioms dict tokens exprs) (ds : List (List Disjunct)) → AllZip AreExpanded exprs ds
      → (i : ℕ) (t : Token) → slice_get tokens i ≡ Some t → AreExpanded (word_trees dict t.words ++ slice_index_or has.added i []) (slice_index_or ds i [])
  at_token idioms exprs has ds are i t there =
      let own = (zip_at (λ (u : Token) ws. AreWordTrees dict u.words ws) tokens has.words i t [] has.of_tokens there).are in
      subst (λ ws. AreExpanded ws (slice_index_or ds i [])) (has.both i ∙ ap (λ ws. ws ++ slice_index_or has.added i []) own) (zip_each AreExpanded expanded_none exprs ds are i)

  exprs_length : (idioms : Bool) (exprs : List (List WordTree)) → AreExprsInUse idioms dict tokens exprs → length exprs ≡ length tokens
  exprs_length idioms exprs has = has.same_length ∙ AllZip-long (λ (t : Token) ws. AreWordTrees dict t.words ws) tokens has.words has.of_tokens

  problem_length : (idioms : Bool) (exprs : List (List WordTree)) → AreExprsInUse idioms dict tokens exprs → (ds : List (List Disjunct)) → AllZip AreExpanded exprs ds → length ds ≡ length tokens
  problem_length idioms exprs has ds are = AllZip-long AreExpanded exprs ds are ∙ exprs_length idioms exprs has

  problem_in_use : (idioms : Bool) (exprs : List (List WordTree)) → AreExprsInUse idioms dict tokens exprs → (ds : List (List Disjunct)) → AllZip AreExpanded exprs ds → IsProblemInUse idioms dict tokens ds
  problem_in_use true exprs has ds are = record {
    added = pairs has.added;
    idioms = has.of_idioms;
    same_length = problem_length true exprs has ds are;
    each = λ i t there.
        let here = at_token true exprs has ds are i t there in
        record {
          rise = here.rise;
          exactly = λ d. (
            λ m. elim ((of_both dict t.words (slice_index_or has.added i []) d).0 ((here.exactly d).0 m)) [
              | inl own ↦ inl own
              | inr new ↦ inr ((of_pairs has.added i d).0 new)
            ],
            λ h. (here.exactly d).1 ((of_both dict t.words (slice_index_or has.added i []) d).1 (elim h [
              | inl own ↦ inl own
              | inr new ↦ inr ((of_pairs has.added i d).1 new)
            ])),
          );
        };
  }
  problem_in_use false exprs has ds are = record {
    same_length = problem_length false exprs has ds are;
    each = λ i t there.
        let here = at_token false exprs has ds are i t there in
        let none : slice_index_or has.added i [] ≡ [] = ap (λ (l : List (List WordTree)). slice_index_or l i []) has.of_idioms in
        record {
          rise = here.rise;
          exactly = λ d. (
            λ m. elim ((of_both dict t.words (slice_index_or has.added i []) d).0 ((here.exactly d).0 m)) [
              | inl own ↦ own
              | inr new ↦ absurd (contains_none new.0 (subst (λ ws. Contains ws new.0) none new.1))
            ],
            λ own. (here.exactly d).1 ((of_both dict t.words (slice_index_or has.added i []) d).1 (inl own)),
          );
        };
  }

-- each list of positions has disjuncts
have_all : ExpressionsHaveDisjuncts → (exprs : List (List WordTree)) → ((i : ℕ) → AreNamed (slice_index_or exprs i [])) → ((i : ℕ) → AreApart (slice_index_or exprs i []))
    → (ds : List (List Disjunct)) × AllZip AreExpanded exprs ds
have_all exist [] named apart = ([], tt)
have_all exist (ws ∷ exprs) named apart =
    let one = have_expanded exist ws (named zero) (apart zero) in
    let rest = have_all exist exprs (λ i. named (suc i)) (λ i. apart (suc i)) in
    (one.0 ∷ rest.0, (one.1, rest.1))

module _ (exist : ExpressionsHaveDisjuncts) (dict : Dictionary) (tokens : List Token) (listed : AreOfSentence dict tokens) where
  pub in_use_apart : (idioms : Bool) (exprs : List (List WordTree)) → AreExprsInUse idioms dict tokens exprs → (i : ℕ) → AreApart (slice_index_or exprs i [])
  in_use_apart idioms exprs has = exprs_apart exist dict tokens (have_own dict listed.0 tokens listed.1.of_text) (few_words dict tokens listed.1.unbound) idioms exprs has

  pub all_apart : (idioms : Bool) (exprs : List (List WordTree)) → AreExprsInUse idioms dict tokens exprs → All AreApart exprs
  all_apart idioms exprs has k d within = subst AreApart (get_or_default exprs k [] d within) (in_use_apart idioms exprs has k)

  have_whole : (idioms : Bool) (exprs : List (List WordTree)) → AreExprsInUse idioms dict tokens exprs → (ds : List (List Disjunct)) × AllZip AreExpanded exprs ds
  have_whole idioms exprs has = have_all exist exprs has.named (in_use_apart idioms exprs has)

  -- the disjuncts of the formulas in use are the tokens' problem
  pub have_problem : (idioms : Bool) (exprs : List (List WordTree)) → AreExprsInUse idioms dict tokens exprs → (ds : List (List Disjunct)) → AllZip AreExpanded exprs ds
      → HaveProblem idioms dict tokens ds
  have_problem idioms exprs has ds are =
      let plain = plain_in_use dict tokens has.words has.of_tokens in
      let own = have_whole false has.words plain in
      record {
        of_tokens = problem_in_use dict tokens idioms exprs has ds are;
        same_length = problem_length dict tokens idioms exprs has ds are;
        plain = own.0;
        of_plain = problem_in_use dict tokens false has.words plain own.0 own.1;
      }

  -- and what is left of the formulas has their linkages
  pub narrowed_problem : (idioms : Bool) (exprs : List (List WordTree)) → AreExprsInUse idioms dict tokens exprs → LinkagesAreLive → (live : List (List WordTree)) → AreNarrowed exprs live
      → IsNarrowed idioms dict tokens (all_disjuncts live)
  narrowed_problem idioms exprs has law live narrow =
      let whole = have_whole idioms exprs has in
      record {
        problem = whole.0;
        of_tokens = have_problem idioms exprs has whole.0 whole.1;
        keeps = keeps_linkages law exprs live narrow whole.0 (all_disjuncts live) whole.1 (all_members live) (all_length live);
        same_length = all_length live ∙ narrow.same_length ∙ exprs_length dict tokens idioms exprs has;
      }

  -- which may be expanded
  pub narrowed_ready : ((t : Tree) → length (choices_of t) ≡ choice_count t) → AddedAreFew → (idioms : Bool) (exprs : List (List WordTree)) → AreExprsInUse idioms dict tokens exprs
      → (live : List (List WordTree)) → AreNarrowed exprs live → AreExpandable live
  narrowed_ready counted law idioms exprs has live narrow = record {
    few = (let words = few_words dict tokens listed.1.unbound in let long = narrow.same_length ∙ exprs_length dict tokens idioms exprs has in omega (arith, words, long));
    apart = narrowed_apart exprs live narrow (in_use_apart idioms exprs has);
    limits = λ positions made. made_problem counted law idioms dict tokens exprs live positions listed has narrow.same_length (narrowed_of exprs live narrow) made;
  }
