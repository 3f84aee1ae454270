-- At a position no two formulas in use share a disjunct, so that their order tells the disjuncts of a position apart.
use Rattle.std.proofs.Common.{◌≡◌, ◌⊎◌, ℕ, zero, suc, ◌+◌, ◌-◌, ◌≤◌, Bool, true, false, List, [], ◌∷◌, ◌++◌, length, map, Contains, All, Some, slice_get, get_or, inl, inr, refl, sym, ap, ◌∙◌, subst, arith, Equal, append-nil, le-leb}
use Rattle.std.specs.Prelude.{slice_index_or, nat_le, ◌&&◌}
use Rattle.std.specs.FinMap.{get}
use Rattle.std.specs.Ordering.{nat_cmp, ordering_then}
use Rattle.std.specs.Cmp.Lexicographic.{slice_cmp}
use Rattle.std.proofs.lemmas.Bool.{and_from, cases_lt}
use Rattle.std.proofs.lemmas.Cmp.{tied_itself}
use Rattle.std.proofs.lemmas.List.{get_or_past}
use Rattle.std.proofs.lemmas.List.Elements.{All-contains, Contains-append_cases}
use Rattle.std.proofs.lemmas.Map.Lookups.{exact_unsigned}
use Rattle.std.proofs.lemmas.Option.{same_Some, slice_get-get_or}
use Rattle.std.proofs.lemmas.Slice.Zip.{AllZip-long}
use Rattle.lg_base.proofs.Elements.{contains_cases, contains_none, map_in, map_out}
use Rattle.lg_gram.specs.Connectors.{Connector, connector_cmp, connector_text}
use Rattle.lg_gram.specs.Disjuncts.{disjunct_cmp, IsDisjunctOf}
use Rattle.lg_gram.specs.Limits.{POSITIONS, JOINT_RANK, JOINT_PLACE}
use Rattle.lg_gram.specs.Names.{joint_text, joint_fits}
use Rattle.lg_gram.specs.Trees.{Tree}
use Rattle.lg_gram.specs.declared.disjunct.Disjunct.{Disjunct}
use Rattle.lg_gram.specs.declared.listing.Token.{Token}
use Rattle.lg_gram.proofs.Exact.{Less≢Equal, Greater≢Equal, first_equal, second_equal, exact_lists}
use Rattle.lg_dict.specs.Dictionary.{Dictionary}
use Rattle.lg_disj.specs.Exist.{HasNames, ExpressionsHaveDisjuncts}
use Rattle.lg_eprune.specs.Live.{WordTree}
use Rattle.lg_idiom.specs.Idioms.{Chain, joint_of, formula_at, IsUsable, StandsForPart, Covers, AreTaken, no_chain, taken, left_out}
use Rattle.lg_idiom.specs.Sentences.{AddIdioms, AreTakenOf}
use Rattle.lg_idiom.proofs.Chains.{contains_at, taken_in, told_apart, taken_within}
use Rattle.lg_idiom.proofs.JointTexts.{joint_read}
use Rattle.lg_idiom.proofs.Parts.{Part, begins, goes_on, ends, part_of}
use Rattle.lg_idiom.proofs.Sorting.{chains_total}
use Rattle.lg_answer.proofs.Compounds.{HasOwn, no_own_compound}
use Rattle.lg_answer.proofs.Lists.{zip_at}
use Rattle.lg_answer.proofs.Made.{one_in_rising}
use Rattle.lg_answer.proofs.Words.{trees_out}
use Rattle.lg_answer.specs.Steps.{word_trees, AreNamed, AreWordTrees, AreAddedInUse, AreExprsInUse, AreApart}

-- ---- one formula

same_word : (d e : Disjunct) → disjunct_cmp d e ≡ Equal → d.word ≡ e.word
same_word d e alike = exact_lists nat_cmp exact_unsigned d.word e.word (first_equal _ _ alike)

one_formula : ExpressionsHaveDisjuncts → (word : List ℕ) (t : Tree) → HasNames t → (d e : Disjunct) → IsDisjunctOf word t d → IsDisjunctOf word t e → disjunct_cmp d e ≡ Equal → d ≡ e
one_formula exist word t named d e of_d of_e alike =
    let (ds, are) = exist word t named in
    one_in_rising ds are.rise d e ((are.exactly d).1 of_d) ((are.exactly e).1 of_e) alike

-- ---- two chains

-- a disjunct of a chain has no left list at its first position, and else begins its left list with the joint to the position before
first_left : (c : Chain) (d : Disjunct) (i : ℕ) → Part c d i → ((i ≡ 0) × (d.left ≡ [])) ⊎ ((k : ℕ) × (i ≡ suc k) × (rest : List Connector) × (d.left ≡ joint_of c k false ∷ rest))
first_left c d zero (begins l r cost) = inl (refl, l)
first_left c d (suc k) (goes_on _ more l r cost) = inr (k, refl, [], l)
first_left c d (suc k) (ends _ own last l is) = inr (k, refl, own, l)

-- heads of lists that their order does not tell apart
same_heads : (a b : Connector) (xs ys : List Connector) → slice_cmp connector_cmp (a ∷ xs) (b ∷ ys) ≡ Equal → connector_text a ≡ connector_text b
same_heads a b xs ys alike = exact_lists nat_cmp exact_unsigned (connector_text a) (connector_text b) (first_equal _ _ alike)

same_starts : (c e : Chain) (k m : ℕ) → joint_fits e.rank e.start m ≡ true → connector_text (joint_of c k false) ≡ connector_text (joint_of e m false) → c.start ≡ e.start
same_starts c e k m fits same =
    let texts : joint_text c.rank c.start k ≡ joint_text e.rank e.start m = sym (append-nil (joint_text c.rank c.start k)) ∙ same ∙ append-nil (joint_text e.rank e.start m) in
    (joint_read c.rank c.start k e.rank e.start m fits texts).1.0

taken_usable : (cs : List Chain) (n : ℕ) (ts : List Chain) → AreTaken n cs ts → (c : Chain) → Contains ts c → IsUsable c
taken_usable [] n [] (no_chain _) c m = absurd (contains_none c m)
taken_usable [] n (t ∷ ts) h c m = elim h [ ]
taken_usable (b ∷ cs) n (b' ∷ ts) (taken _ _ _ _ usable few rest) c m =
    elim (contains_cases _ ts c m) [
      | inl e ↦ subst IsUsable e usable
      | inr later ↦ taken_usable cs _ ts rest c later
    ]
taken_usable (b ∷ cs) n ts (left_out _ _ _ _ never rest) c m = taken_usable cs _ ts rest c m

module _ (dict : Dictionary) (tokens : List Token) (few : length tokens ≤ POSITIONS) (taken : List Chain) (of : AreTakenOf dict tokens taken) where
  joint_is : (c : Chain) → Contains taken c → (p k : ℕ) → Covers c p → p - c.start ≡ suc k → joint_fits c.rank c.start k ≡ true
  joint_is c m p k covers place =
      let usable = taken_usable of.chains 0 taken of.are_taken c m in
      let within = taken_within dict tokens taken of c m in
      and_from (nat_le c.rank JOINT_RANK) (nat_le c.start JOINT_PLACE && nat_le k JOINT_PLACE) (le-leb _ _ usable.rank)
      (and_from (nat_le c.start JOINT_PLACE) (nat_le k JOINT_PLACE) (le-leb _ _ (omega (arith, within, few, covers))) (le-leb _ _ (omega (arith, within, few, covers, place))))

  -- chains of one word that cover a position and share a disjunct there start together
  starts_alike : (p : ℕ) (c e : Chain) → Contains taken c → Contains taken e → Covers c p → Covers e p → (d f : Disjunct)
      → IsDisjunctOf c.word (formula_at c (p - c.start)) d → IsDisjunctOf e.word (formula_at e (p - e.start)) f → disjunct_cmp d f ≡ Equal → c.start ≡ e.start
  starts_alike p c e m n in_c in_e d f of_d of_f alike =
      let rights = slice_cmp connector_cmp d.right f.right in
      let lefts : slice_cmp connector_cmp d.left f.left ≡ Equal =
      first_equal (slice_cmp connector_cmp d.left f.left) rights (second_equal (slice_cmp nat_cmp d.word f.word) (ordering_then (slice_cmp connector_cmp d.left f.left) rights) alike) in
      elim (first_left c d (p - c.start) (part_of c (p - c.start) d of_d)) [
        | inl one ↦ elim (first_left e f (p - e.start) (part_of e (p - e.start) f of_f)) [
          | inl other ↦ (let a = one.0 in let b = other.0 in omega (arith, a, b, in_c, in_e))
          | inr (k, place, rest, is) ↦ absurd (Less≢Equal (let h : slice_cmp connector_cmp [] (joint_of e k false ∷ rest) ≡ Equal = sym (λ i. slice_cmp connector_cmp (one.1 i) (is i)) ∙ lefts in h))
        ]
        | inr (k, place, rest, is) ↦ elim (first_left e f (p - e.start) (part_of e (p - e.start) f of_f)) [
          | inl other ↦ absurd (Greater≢Equal (let h : slice_cmp connector_cmp (joint_of c k false ∷ rest) [] ≡ Equal = sym (λ i. slice_cmp connector_cmp (is i) (other.1 i)) ∙ lefts in h))
          | inr (j, place_too, others, is_too) ↦
              let heads : slice_cmp connector_cmp (joint_of c k false ∷ rest) (joint_of e j false ∷ others) ≡ Equal = sym (λ i. slice_cmp connector_cmp (is i) (is_too i)) ∙ lefts in
              same_starts c e k j (joint_is e n p j in_e place_too) (same_heads (joint_of c k false) (joint_of e j false) rest others heads)
        ]
      ]

  same_chain : (c e : Chain) → Contains taken c → Contains taken e → c.word ≡ e.word → c.start ≡ e.start → c ≡ e
  same_chain c e m n words starts =
      told_apart dict tokens taken of c e m n
      (subst (λ w. ordering_then (slice_cmp nat_cmp c.word w) (nat_cmp c.start e.start) ≡ Equal) words
      (subst (λ s. ordering_then (slice_cmp nat_cmp c.word c.word) (nat_cmp c.start s) ≡ Equal) starts (tied_itself chains_total c)))

-- ---- what idioms add to a position

abbrev pub pairs : List (List WordTree) → List (List (List ℕ × Tree))
pairs added = map (map (λ (w : WordTree). (w.word, w.tree))) added

pub pairs_at : (added : List (List WordTree)) (p : ℕ) → slice_index_or (pairs added) p [] ≡ map (λ (w : WordTree). (w.word, w.tree)) (slice_index_or added p [])
pairs_at [] p = refl
pairs_at (ws ∷ added) zero = refl
pairs_at (ws ∷ added) (suc p) = pairs_at added p

module _ (dict : Dictionary) (tokens : List Token) (few : length tokens ≤ POSITIONS) (added : List (List WordTree)) (idioms : AddIdioms dict tokens added) where
  taken_of : AreTakenOf dict tokens idioms.taken
  taken_of = record { chains = idioms.chains; all = idioms.all; are_taken = idioms.are_taken }

  -- each formula that is added is that of a chain
  chain_of_added : (p : ℕ) (w : WordTree) → Contains (slice_index_or added p []) w
      → (c : Chain) × Contains idioms.taken c × Covers c p × (c.word ≡ w.word) × (formula_at c (p - c.start) ≡ w.tree)
  chain_of_added p w m =
      let listed : Contains (slice_index_or (pairs added) p []) (w.word, w.tree) =
      subst (λ l. Contains l (w.word, w.tree)) (sym (pairs_at added p)) (map_in (λ (v : WordTree). (v.word, v.tree)) (slice_index_or added p []) w m) in
      elim (cases_lt p (length (pairs added))) [
        | inr past ↦ absurd (contains_none (w.word, w.tree) (subst (λ l. Contains l (w.word, w.tree)) (get_or_past (pairs added) p [] past) listed))
        | inl low ↦
            let adds = idioms.each p (slice_index_or (pairs added) p []) (slice_get-get_or (pairs added) p [] low) in
            let (c, here, is) = map_out (λ (b : Chain). (b.word, formula_at b (p - b.start))) adds.here (w.word, w.tree) (subst (λ l. Contains l (w.word, w.tree)) adds.are listed) in
            let both = (adds.exactly c).0 here in
            (c, both.0, both.1, ap (λ (x : List ℕ × Tree). x.0) is, ap (λ (x : List ℕ × Tree). x.1) is)
      ]

  -- no word of the position itself is added
  not_own : All HasOwn tokens → (p : ℕ) (t : Token) → slice_get tokens p ≡ Some t → (w : WordTree) → Contains (slice_index_or added p []) w → Contains t.words w.word → ⊥
  not_own own p t there w m listed =
      let (c, in_taken, covers, word, formula) = chain_of_added p w m in
      let is = (idioms.all.exactly c).0 (taken_in idioms.chains 0 idioms.taken idioms.are_taken c in_taken) in
      let fit = (is.fitting.exactly c.word).0 (contains_at is.words c.rank c.word is.ranked) in
      no_own_compound tokens own p t there c.word fit.compound (subst (Contains t.words) (sym word) listed) (p - c.start) (let counted = is.counted in omega (arith, covers, counted))
      (λ part at. subst (λ n. StandsForPart tokens n part) (let low = covers.0 in let e : c.start + (p - c.start) ≡ p = omega (arith, low) in e) (fit.parts (p - c.start) part at))

  -- the formulas that are added to a position are told apart
  added_apart : ExpressionsHaveDisjuncts → (p : ℕ) (v w : WordTree) → Contains (slice_index_or added p []) v → Contains (slice_index_or added p []) w → HasNames v.tree
      → (d e : Disjunct) → IsDisjunctOf v.word v.tree d → IsDisjunctOf w.word w.tree e → disjunct_cmp d e ≡ Equal → d ≡ e
  added_apart exist p v w m n named d e of_d of_e alike =
      let (b, in_b, over_b, word_b, formula_b) = chain_of_added p v m in
      let (c, in_c, over_c, word_c, formula_c) = chain_of_added p w n in
      let d_of : IsDisjunctOf b.word (formula_at b (p - b.start)) d = subst (λ x. IsDisjunctOf x (formula_at b (p - b.start)) d) (sym word_b) (subst (λ t. IsDisjunctOf v.word t d) (sym formula_b) of_d) in
      let e_of : IsDisjunctOf c.word (formula_at c (p - c.start)) e = subst (λ x. IsDisjunctOf x (formula_at c (p - c.start)) e) (sym word_c) (subst (λ t. IsDisjunctOf w.word t e) (sym formula_c) of_e) in
      let starts = starts_alike dict tokens few idioms.taken taken_of p b c in_b in_c over_b over_c d e d_of e_of alike in
      let words : b.word ≡ c.word = sym d_of.named ∙ same_word d e alike ∙ e_of.named in
      let one = same_chain dict tokens few idioms.taken taken_of b c in_b in_c words starts in
      one_formula exist b.word (formula_at b (p - b.start)) (subst HasNames (sym formula_b) named) d e d_of
      (subst (λ (x : Chain). IsDisjunctOf x.word (formula_at x (p - x.start)) e) (sym one) e_of) alike

-- ---- what is in use at a position

-- the position's own formulas and what is added are told apart, where what is added is, and has none of the position's words
both_apart : ExpressionsHaveDisjuncts → (dict : Dictionary) (words : List (List ℕ)) (more : List WordTree) → AreNamed (word_trees dict words ++ more)
    → ((w : WordTree) → Contains more w → Contains words w.word → ⊥)
    → ((v w : WordTree) → Contains more v → Contains more w → HasNames v.tree → (d e : Disjunct) → IsDisjunctOf v.word v.tree d → IsDisjunctOf w.word w.tree e → disjunct_cmp d e ≡ Equal → d ≡ e)
    → AreApart (word_trees dict words ++ more)
both_apart exist dict words more named not_own apart d e (v, m, of_d) (w, n, of_e) alike =
    let same : v.word ≡ w.word = sym of_d.named ∙ same_word d e alike ∙ of_e.named in
    let names : HasNames v.tree = All-contains (λ (x : WordTree). HasNames x.tree) (word_trees dict words ++ more) v named m in
    elim (Contains-append_cases (word_trees dict words) more v m) [
      | inl own ↦ (let v_is = trees_out dict words v own in elim (Contains-append_cases (word_trees dict words) more w n) [
        | inl own_too ↦
            let w_is = trees_out dict words w own_too in
            let trees : v.tree ≡ w.tree = same_Some v.tree w.tree (sym v_is.1 ∙ ap (get dict.words) same ∙ w_is.1) in
            one_formula exist v.word v.tree names d e of_d (subst (λ x. IsDisjunctOf x v.tree e) (sym same) (subst (λ t. IsDisjunctOf w.word t e) (sym trees) of_e)) alike
        | inr new ↦ absurd (not_own w new (subst (Contains words) same v_is.0))
      ])
      | inr new ↦ elim (Contains-append_cases (word_trees dict words) more w n) [
        | inl own_too ↦ absurd (not_own v new (subst (Contains words) (sym same) (trees_out dict words w own_too).0))
        | inr new_too ↦ apart v w new new_too names d e of_d of_e alike
      ]
    ]

abbrev pub no_token : Token
no_token = record { from = 0; to = 0; text = []; words = [] }

module _ (exist : ExpressionsHaveDisjuncts) (dict : Dictionary) (tokens : List Token) (own : All HasOwn tokens) (few : length tokens ≤ POSITIONS) where
  added_own : (b : Bool) (added : List (List WordTree)) → AreAddedInUse b dict tokens added → (p : ℕ) (t : Token) → slice_get tokens p ≡ Some t
      → (w : WordTree) → Contains (slice_index_or added p []) w → Contains t.words w.word → ⊥
  added_own true added idioms p t there w m listed = not_own dict tokens few added idioms own p t there w m listed
  added_own false added none p t there w m listed = absurd (contains_none w (subst (λ (l : List (List WordTree)). Contains (slice_index_or l p []) w) none m))

  added_told : (b : Bool) (added : List (List WordTree)) → AreAddedInUse b dict tokens added → (p : ℕ) (v w : WordTree) → Contains (slice_index_or added p []) v → Contains (slice_index_or added p []) w
      → HasNames v.tree → (d e : Disjunct) → IsDisjunctOf v.word v.tree d → IsDisjunctOf w.word w.tree e → disjunct_cmp d e ≡ Equal → d ≡ e
  added_told true added idioms p v w m n names d e of_d of_e alike = added_apart dict tokens few added idioms exist p v w m n names d e of_d of_e alike
  added_told false added none p v w m n names d e of_d of_e alike = absurd (contains_none v (subst (λ (l : List (List WordTree)). Contains (slice_index_or l p []) v) none m))

  pub exprs_apart : (idioms : Bool) (exprs : List (List WordTree)) → AreExprsInUse idioms dict tokens exprs → (p : ℕ) → AreApart (slice_index_or exprs p [])
  exprs_apart idioms exprs has p =
      elim (cases_lt p (length tokens)) [
        | inl low ↦
            let t = get_or tokens p no_token in
            let there = slice_get-get_or tokens p no_token low in
            let is : slice_index_or exprs p [] ≡ word_trees dict t.words ++ slice_index_or has.added p [] =
            has.both p ∙ ap (λ ws. ws ++ slice_index_or has.added p []) (zip_at (λ (u : Token) ws. AreWordTrees dict u.words ws) tokens has.words p t [] has.of_tokens there).are in
            subst AreApart (sym is) (both_apart exist dict t.words (slice_index_or has.added p []) (subst AreNamed is (has.named p)) (added_own idioms has.added has.of_idioms p t there)
            (added_told idioms has.added has.of_idioms p))
        | inr past ↦
            let long = AllZip-long (λ (u : Token) ws. AreWordTrees dict u.words ws) tokens has.words has.of_tokens in
            let none : slice_index_or exprs p [] ≡ [] = get_or_past exprs p [] (let same = has.same_length in omega (arith, long, same, past)) in
            subst AreApart (sym none) (λ d e of_d of_e alike. absurd (contains_none of_d.0 of_d.1))
      ]
