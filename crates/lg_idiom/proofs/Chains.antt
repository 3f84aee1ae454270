-- The chains of one start after another are all chains of a sentence.
use Rattle.std.proofs.Common.{◌≡◌, inl, inr, ℕ, zero, suc, ◌+◌, ◌-◌, ◌<◌, ◌≤◌, List, [], ◌∷◌, ◌++◌, length, take, get_or, slice_get, Option, Some, None, IsSome, Contains, All, refl, sym, ap, subst, ◌∙◌, arith, true, true≢false, Less, Equal}
use Rattle.std.specs.FinMap.{get}
use Rattle.std.specs.Option.{option_map_or}
use Rattle.std.specs.Ordering.{nat_cmp, ordering_then}
use Rattle.std.specs.Cmp.{nat_cmp_is}
use Rattle.std.specs.Cmp.Lexicographic.{slice_cmp, nat_list_cmp_total}
use Rattle.std.specs.List.Sorted.{IsStrictlySortedBy}
use Rattle.std.proofs.lemmas.Bool.{and_parts, cases_lt}
use Rattle.std.proofs.lemmas.List.{take_more, append_assoc, length-take-le}
use Rattle.std.proofs.lemmas.List.Elements.{All-weaker, All-contains_itself, recursion_from_All, Contains-append_left, Contains-append_right, Contains-append_cases}
use Rattle.std.proofs.lemmas.Map.Lookups.{exact_unsigned}
use Rattle.std.proofs.lemmas.Option.{same_Some, none-some, slice_get_within, get_or_from_slice_get, slice_get-get_or}
use Rattle.lg_base.proofs.Elements.{contains_here, contains_later, contains_cases, contains_none}
use Rattle.lg_gram.proofs.Exact.{first_equal, second_equal, exact_lists}
use Rattle.lg_gram.specs.Limits.{POSITIONS}
use Rattle.lg_gram.specs.Trees.{Tree, empty}
use Rattle.lg_gram.specs.declared.listing.Token.{Token}
use Rattle.lg_dict.specs.Compounds.{parts_of, are_several}
use Rattle.lg_dict.specs.Dictionary.{Dictionary}
use Rattle.lg_idiom.specs.Idioms.{Chain, StandsForPart, FitsAt, AreFitting, IsChain, AreTaken, no_chain, taken, left_out, chain_cmp}
use Rattle.lg_idiom.specs.Sentences.{IsPlaced, chain_of, chains_from, AreChainsBefore, HasTakenBefore, AreTakenOf, LiesWithin}
use Rattle.lg_idiom.specs.Takings.{HasTaken, TakesMore, AreToldApart}
use Rattle.lg_idiom.specs.declared.taken.Taken.{Taken}
use Rattle.lg_idiom.proofs.Beginning.{rising_append}
use Rattle.lg_idiom.proofs.Rising.{same_rising, one_place}

pub contains_at : {X : Type 0} (xs : List X) (i : ℕ) (x : X) → slice_get xs i ≡ Some x → Contains xs x
contains_at xs i x at = (i, slice_get_within xs i x at, get_or_from_slice_get xs i x x at)

-- the order of chains
earlier : (c d : Chain) → c.start < d.start → chain_cmp c d ≡ Less
earlier c d less = ap (λ o. ordering_then o (nat_cmp c.rank d.rank)) (sym (nat_cmp_is c.start d.start Less less))

lower : (c d : Chain) → c.start ≡ d.start → c.rank < d.rank → chain_cmp c d ≡ Less
lower c d same less =
    ap (λ o. ordering_then o (nat_cmp c.rank d.rank)) (sym (nat_cmp_is c.start d.start Equal same)) ∙ sym (nat_cmp_is c.rank d.rank Less less)

module _ (dict : Dictionary) where
  -- the chains of compounds, one after another
  pub chains_push : (s r : ℕ) (words : List (List ℕ)) (w : List ℕ) → chains_from dict s r (words ++ w ∷ []) ≡ chains_from dict s r words ++ chain_of dict s (r + length words) w ∷ []
  chains_push s r [] w = ap (λ n. chain_of dict s n w ∷ []) (let e : r ≡ r + 0 = omega arith in e)
  chains_push s r (v ∷ words) w =
      ap (λ cs. chain_of dict s r v ∷ cs)
      (chains_push s (suc r) words w ∙ ap (λ n. chains_from dict s (suc r) words ++ chain_of dict s n w ∷ []) (let e : suc r + length words ≡ r + suc (length words) = omega arith in e))

  made_is : (s r : ℕ) (words : List (List ℕ)) (c : Chain) → Contains (chains_from dict s r words) c → (i : ℕ) × (w : List ℕ) × (slice_get words i ≡ Some w) × (c ≡ chain_of dict s (r + i) w)
  made_is s r [] c h = absurd (contains_none c h)
  made_is s r (w ∷ words) c h =
      elim (contains_cases (chain_of dict s r w) (chains_from dict s (suc r) words) c h) [
        | inl e ↦ (zero, w, refl, sym e ∙ ap (λ n. chain_of dict s n w) (let e : r ≡ r + 0 = omega arith in e))
        | inr m ↦
            let (i, v, at, is) = made_is s (suc r) words c m in
            (suc i, v, at, is ∙ ap (λ n. chain_of dict s n v) (let e : suc r + i ≡ r + suc i = omega arith in e))
      ]

  made : (s r : ℕ) (words : List (List ℕ)) (i : ℕ) (w : List ℕ) → slice_get words i ≡ Some w → Contains (chains_from dict s r words) (chain_of dict s (r + i) w)
  made s r [] i w at = absurd (none-some w at)
  made s r (v ∷ words) zero w at =
      subst (λ c. Contains (chains_from dict s r (v ∷ words)) c)
      (ap (λ x. chain_of dict s r x) (same_Some v w at) ∙ ap (λ n. chain_of dict s n w) (let e : r ≡ r + 0 = omega arith in e))
      (contains_here (chain_of dict s r v) (chains_from dict s (suc r) words))
  made s r (v ∷ words) (suc i) w at =
      contains_later (chain_of dict s r v) (chains_from dict s (suc r) words) (chain_of dict s (r + suc i) w)
      (subst (λ n. Contains (chains_from dict s (suc r) words) (chain_of dict s n w)) (let e : suc r + i ≡ r + suc i = omega arith in e) (made s (suc r) words i w at))

  chains_rise : (s r : ℕ) (words : List (List ℕ)) → IsStrictlySortedBy chain_cmp (chains_from dict s r words)
  unfolding IsStrictlySortedBy
  chains_rise s r [] = tt
  chains_rise s r (w ∷ words) =
      let rest = chains_from dict s (suc r) words in
      let above : (d : Chain) → Contains rest d → chain_cmp (chain_of dict s r w) d ≡ Less =
      λ d m. (let (i, v, at, is) = made_is s (suc r) words d m in subst (λ x. chain_cmp (chain_of dict s r w) x ≡ Less) (sym is) (lower (chain_of dict s r w) (chain_of dict s (suc r + i) v) refl (omega arith))) in
      (recursion_from_All (λ d. chain_cmp (chain_of dict s r w) d ≡ Less) rest (All-weaker (Contains rest) (λ d. chain_cmp (chain_of dict s r w) d ≡ Less) above rest (All-contains_itself rest)), chains_rise s (suc r) words)

  starts_at : (s : ℕ) (words : List (List ℕ)) (c : Chain) → Contains (chains_from dict s 0 words) c → c.start ≡ s
  starts_at s words c m = ap (λ (d : Chain). d.start) (made_is s 0 words c m).3

known_formula : (o : Option Tree) → IsSome o → o ≡ Some (option_map_or (λ t. t) o empty)
known_formula None h = absurd (true≢false (sym h))
known_formula (Some t) h = refl

-- one compound more
pub words_more : (dict : Dictionary) (s i : ℕ) (words : List (List ℕ)) (w d : List ℕ) (old mid new : Taken) → i < length words → w ≡ get_or words i d
    → TakesMore (chains_from dict s 0 (take i words)) old mid → TakesMore (chain_of dict s i w ∷ []) mid new → TakesMore (chains_from dict s 0 (take (i + 1) words)) old new
words_more dict s i words w d old mid new low is first then_one chains h =
    let lists : take (i + 1) words ≡ take i words ++ w ∷ [] = take_more words i d low ∙ ap (λ x. take i words ++ x ∷ []) (sym is) in
    let count : length (take i words) ≡ i = length-take-le i words (omega (arith, low)) in
    let made : chains_from dict s 0 (take (i + 1) words) ≡ chains_from dict s 0 (take i words) ++ chain_of dict s i w ∷ [] =
    ap (chains_from dict s 0) lists ∙ chains_push dict s 0 (take i words) w
    ∙ ap (λ n. chains_from dict s 0 (take i words) ++ chain_of dict s n w ∷ []) (let e : 0 + length (take i words) ≡ i = omega (arith, count) in e) in
    subst (λ more. HasTaken (chains ++ more) new) (sym made)
    (subst (λ all. HasTaken all new) (append_assoc chains (chains_from dict s 0 (take i words)) (chain_of dict s i w ∷ [])) (then_one (chains ++ chains_from dict s 0 (take i words)) (first chains h)))

-- the chain that is made, and its choices
pub chain_seen : (dict : Dictionary) (s r n : ℕ) (word : List ℕ) (t : Tree) → get dict.words word ≡ Some t → n ≡ length (parts_of word)
    → record { start = s; rank = r; count = n; word = word; formula = t } ≡ chain_of dict s r word
chain_seen dict s r n word t has counted =
    let same : t ≡ option_map_or (λ t. t) (get dict.words word) empty = ap (λ o. option_map_or (λ t. t) o empty) (sym has) in
    λ i. record { start = s; rank = r; count = counted i; word = word; formula = same i }

rebuilt : (c : Chain) (s n : ℕ) (f : Tree) → c.start ≡ s → c.count ≡ n → c.formula ≡ f → c ≡ record { start = s; rank = c.rank; count = n; word = c.word; formula = f }
rebuilt c s n f starts counted is = λ i. record { start = starts i; rank = c.rank; count = counted i; word = c.word; formula = is i }

two_parts : (parts : List (List ℕ)) → are_several parts ≡ true → 2 ≤ length parts
two_parts [] h = absurd (true≢false (sym h))
two_parts (x ∷ []) h = absurd (true≢false (sym h))
two_parts (x ∷ y ∷ more) h = omega arith

pub taken_in : (cs : List Chain) (n : ℕ) (ts : List Chain) → AreTaken n cs ts → (c : Chain) → Contains ts c → Contains cs c
taken_in [] n [] (no_chain _) c m = m
taken_in [] n (t ∷ ts) h c m = elim h [ ]
taken_in (b ∷ cs) n (b' ∷ ts) (taken _ _ _ _ use_it few rest) c m =
    elim (contains_cases _ ts c m) [
      | inl e ↦ subst (λ x. Contains (x ∷ cs) c) (sym e) (contains_here c cs)
      | inr later ↦ contains_later _ cs c (taken_in cs _ ts rest c later)
    ]
taken_in (b ∷ cs) n ts (left_out _ _ _ _ never rest) c m = contains_later b cs c (taken_in cs n ts rest c m)

module _ (dict : Dictionary) (tokens : List Token) where
  -- a compound that fits lies within the sentence
  lies_within : (s : ℕ) (parts : List (List ℕ)) → ((i : ℕ) (part : List ℕ) → slice_get parts i ≡ Some part → StandsForPart tokens (s + i) part) → 2 ≤ length parts → s + length parts ≤ length tokens
  lies_within s parts all more =
      let last = all (length parts - 1) (get_or parts (length parts - 1) []) (slice_get-get_or parts (length parts - 1) [] (omega (arith, more))) in
      let low = slice_get_within tokens (s + (length parts - 1)) last.token last.there in
      omega (arith, low, more)

  pub lies : (s : ℕ) (word : List ℕ) → FitsAt dict tokens s word → (2 ≤ length (parts_of word)) × (s + length (parts_of word) ≤ length tokens)
  lies s word fit =
      let several = two_parts (parts_of word) (and_parts _ _ fit.compound).0 in
      (several, lies_within s (parts_of word) fit.parts several)

  pub fitting_placed : length tokens ≤ POSITIONS → (s : ℕ) (words : List (List ℕ)) → AreFitting dict tokens s words → All (IsPlaced dict s) words
  fitting_placed few s words fitting =
      All-weaker (Contains words) (IsPlaced dict s)
      (λ w m. (
      let fit = (fitting.exactly w).0 m in
      let inside = lies s w fit in
      record { known = fit.known; several = inside.0; within = omega (arith, few, inside) }
      ))
      words (All-contains_itself words)

  -- chains of a start, by the compounds that fit there
  chain_made : (s : ℕ) (words : List (List ℕ)) → AreFitting dict tokens s words → (i : ℕ) (w : List ℕ) → slice_get words i ≡ Some w → IsChain dict tokens (chain_of dict s i w)
  chain_made s words fitting i w at =
      let fit = (fitting.exactly w).0 (contains_at words i w at) in
      record { words = words; fitting = fitting; ranked = at; counted = refl; has = known_formula (get dict.words w) fit.known }

  pub chain_is : (s : ℕ) (words : List (List ℕ)) → AreFitting dict tokens s words → (c : Chain) → IsChain dict tokens c → c.start ≡ s → (slice_get words c.rank ≡ Some c.word) × (c ≡ chain_of dict s c.rank c.word)
  chain_is s words fitting c is starts =
      let own = subst (λ n. AreFitting dict tokens n is.words) starts is.fitting in
      let same : is.words ≡ words = same_rising (slice_cmp nat_cmp) nat_list_cmp_total is.words words own.rise fitting.rise
      (λ w. (λ h. (fitting.exactly w).1 ((own.exactly w).0 h), λ h. (own.exactly w).1 ((fitting.exactly w).0 h))) in (
        ap (λ ws. slice_get ws c.rank) (sym same) ∙ is.ranked,
        rebuilt c s (length (parts_of c.word)) (option_map_or (λ t. t) (get dict.words c.word) empty) starts is.counted (ap (λ o. option_map_or (λ t. t) o empty) (sym is.has)),
      )

  chain_within : (c : Chain) → IsChain dict tokens c → c.start < length tokens
  chain_within c is =
      let inside = lies c.start c.word ((is.fitting.exactly c.word).0 (contains_at is.words c.rank c.word is.ranked)) in
      omega (arith, inside)

  -- one start more
  module _ (s : ℕ) (words : List (List ℕ)) (fitting : AreFitting dict tokens s words) (chains : List Chain) (before : AreChainsBefore dict tokens s chains) where
    abbrev here : List Chain
    here = chains_from dict s 0 words

    from_more : (c : Chain) → Contains (chains ++ here) c → IsChain dict tokens c × (c.start < s + 1)
    from_more c h =
        elim (Contains-append_cases chains here c h) [
          | inl m ↦ (let old = (before.exactly c).0 m in (old.0, omega (arith, old)))
          | inr m ↦
              let (i, w, at, is) = made_is dict s 0 words c m in
              let one : c ≡ chain_of dict s i w = is ∙ ap (λ n. chain_of dict s n w) (let e : 0 + i ≡ i = omega arith in e) in
              let starts : c.start ≡ s = ap (λ (d : Chain). d.start) one in
              (subst (IsChain dict tokens) (sym one) (chain_made s words fitting i w at), omega (arith, starts))
        ]

    to_more : (c : Chain) → IsChain dict tokens c → c.start < s + 1 → Contains (chains ++ here) c
    to_more c is low =
        elim (cases_lt c.start s) [
          | inl less ↦ Contains-append_left chains here c ((before.exactly c).1 (is, less))
          | inr more ↦
              let found = chain_is s words fitting c is (omega (arith, low, more)) in
              let one : c ≡ chain_of dict s (0 + c.rank) c.word = found.1 ∙ ap (λ n. chain_of dict s n c.word) (let e : c.rank ≡ 0 + c.rank = omega arith in e) in
              Contains-append_right chains here c (subst (λ d. Contains here d) (sym one) (made dict s 0 words c.rank c.word found.0))
        ]

    more_chains : AreChainsBefore dict tokens (s + 1) (chains ++ here)
    more_chains = record {
      rise = rising_append chain_cmp (λ c. c.start < s) (λ c. c.start ≡ s) (λ c d low is. earlier c d (omega (arith, low, is))) chains here
          (All-weaker (Contains chains) (λ c. c.start < s) (λ c m. ((before.exactly c).0 m).1) chains (All-contains_itself chains))
          (All-weaker (Contains here) (λ c. c.start ≡ s) (λ c m. starts_at dict s words c m) here (All-contains_itself here))
          before.rise (chains_rise dict s 0 words);
      exactly = λ c. (λ h. from_more c h, λ h. to_more c h.0 h.1);
    }

  pub more_taken : (s : ℕ) (words : List (List ℕ)) → AreFitting dict tokens s words → (old new : Taken)
      → ((chains : List Chain) → HasTaken chains old → HasTaken (chains ++ chains_from dict s 0 words) new) → HasTakenBefore dict tokens s old → HasTakenBefore dict tokens (s + 1) new
  more_taken s words fitting old new takes h = record {
    chains = h.chains ++ chains_from dict s 0 words;
    all = more_chains s words fitting h.chains h.all;
    has = takes h.chains h.has;
  }

  none_rise : IsStrictlySortedBy chain_cmp []
  unfolding IsStrictlySortedBy
  none_rise = tt

  pub none_before : (t : Taken) → HasTaken [] t → HasTakenBefore dict tokens 0 t
  none_before t has = record {
    chains = [];
    all = record { rise = none_rise; exactly = λ c. (λ h. absurd (contains_none c h), λ h. absurd (let low = h.1 in omega (arith, low))) };
    has = has;
  }

  -- at the end
  all_taken : (t : Taken) → HasTakenBefore dict tokens (length tokens) t → AreTakenOf dict tokens t.chains.items
  all_taken t h = record {
    chains = h.chains;
    all = record {
      rise = h.all.rise;
      exactly = λ c. (λ m. ((h.all.exactly c).0 m).0, λ is. (h.all.exactly c).1 (is, chain_within c is));
    };
    are_taken = h.has.taken;
  }

  pub at_end : (n : ℕ) (t : Taken) → n ≤ length tokens → length tokens ≤ n → HasTakenBefore dict tokens n t → AreTakenOf dict tokens t.chains.items
  at_end n t low ended h = all_taken t (subst (λ k. HasTakenBefore dict tokens k t) (let e : n ≡ length tokens = omega (arith, low, ended) in e) h)

  -- chains with one word and start are one
  pub told_apart : (some : List Chain) → AreTakenOf dict tokens some → AreToldApart some
  told_apart some of c d in_c in_d alike =
      let one = (of.all.exactly c).0 (taken_in of.chains 0 some of.are_taken c in_c) in
      let two = (of.all.exactly d).0 (taken_in of.chains 0 some of.are_taken d in_d) in
      let words : c.word ≡ d.word = exact_lists nat_cmp exact_unsigned c.word d.word (first_equal _ _ alike) in
      let starts : c.start ≡ d.start = exact_unsigned c.start d.start (second_equal _ _ alike) in
      let first = chain_is d.start two.words two.fitting c one starts in
      let second = chain_is d.start two.words two.fitting d two refl in
      let ranks : c.rank ≡ d.rank = one_place (slice_cmp nat_cmp) nat_list_cmp_total two.words c.rank d.rank d.word two.fitting.rise (first.0 ∙ ap Some words) second.0 in
      first.1 ∙ (λ i. chain_of dict d.start (ranks i) (words i)) ∙ sym second.1

  -- the chains that are taken lie within the sentence
  pub taken_within : (some : List Chain) → AreTakenOf dict tokens some → (c : Chain) → Contains some c → LiesWithin (length tokens) c
  taken_within some of c m =
      let is = (of.all.exactly c).0 (taken_in of.chains 0 some of.are_taken c m) in
      let inside = lies c.start c.word ((is.fitting.exactly c.word).0 (contains_at is.words c.rank c.word is.ranked)) in
      omega (arith, inside, is.counted)
