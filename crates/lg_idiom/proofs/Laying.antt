-- The chains of idioms are laid over the plain problem.
use Rattle.std.proofs.Common.{◌≡◌, ℕ, ◌+◌, ◌-◌, ◌<◌, ◌≤◌, true, inl, inr, List, [], ◌∷◌, length, get_or, slice_get, Contains, ap, sym, ◌∙◌, subst, arith, le-leb}
use Rattle.std.specs.Prelude.{slice_index_or, nat_le, ◌&&◌}
use Rattle.std.proofs.lemmas.Bool.{and_from, cases_lt}
use Rattle.std.proofs.lemmas.List.{get_or_past}
use Rattle.std.proofs.lemmas.Option.{same_Some, slice_get-get_or}
use Rattle.lg_base.proofs.Elements.{contains_cases, contains_none, map_in, map_out}
use Rattle.lg_gram.specs.Disjuncts.{IsDisjunctOf}
use Rattle.lg_gram.specs.Limits.{POSITIONS, JOINT_RANK, JOINT_PLACE}
use Rattle.lg_gram.specs.Names.{joint_fits}
use Rattle.lg_gram.specs.Trees.{Tree}
use Rattle.lg_gram.specs.declared.disjunct.Disjunct.{Disjunct}
use Rattle.lg_gram.specs.declared.listing.Token.{Token}
use Rattle.lg_dict.specs.Dictionary.{Dictionary}
use Rattle.lg_idiom.specs.Idioms.{Chain, IsUsable, IsChain, AreTaken, no_chain, taken, left_out, AreIdioms, formula_at}
use Rattle.lg_idiom.specs.Overlays.{HasNoJoints, IsOfAdded, HasIdioms, TakenAreChains, TakenAreLaidOver}
use Rattle.lg_idiom.specs.Sentences.{chain_of}
use Rattle.lg_idiom.specs.Wholes.{AreChainsOfIdioms, AreLaidOver, IsAddedAt}
use Rattle.lg_idiom.proofs.Chains.{contains_at, taken_in, lies, chain_is}

-- what is taken is usable
taken_usable : (cs : List Chain) (n : ℕ) (ts : List Chain) → AreTaken n cs ts → (c : Chain) → Contains ts c → IsUsable c
taken_usable [] n [] (no_chain _) c m = absurd (contains_none c m)
taken_usable [] n (t ∷ ts) h c m = elim h [ ]
taken_usable (b ∷ cs) n (b' ∷ ts) (taken _ _ _ _ usable few rest) c m =
    elim (contains_cases _ ts c m) [
      | inl e ↦ subst IsUsable e usable
      | inr later ↦ taken_usable cs _ ts rest c later
    ]
taken_usable (b ∷ cs) n ts (left_out _ _ _ _ never rest) c m = taken_usable cs _ ts rest c m

numbers_fit : (rank start i : ℕ) → rank ≤ JOINT_RANK → start ≤ JOINT_PLACE → i ≤ JOINT_PLACE → joint_fits rank start i ≡ true
numbers_fit rank start i r s p = and_from (nat_le rank JOINT_RANK) (nat_le start JOINT_PLACE && nat_le i JOINT_PLACE) (le-leb _ _ r) (and_from (nat_le start JOINT_PLACE) (nat_le i JOINT_PLACE) (le-leb _ _ s) (le-leb _ _ p))

module _ (dict : Dictionary) (tokens : List Token) (added : List (List (List ℕ × Tree))) (idioms : AreIdioms dict tokens added) where
  is_chain : (c : Chain) → Contains idioms.taken c → IsChain dict tokens c
  is_chain c m = (idioms.all.exactly c).0 (taken_in idioms.chains 0 idioms.taken idioms.are_taken c m)

  pub inside : (c : Chain) → Contains idioms.taken c → (2 ≤ c.count) × (c.start + c.count ≤ length tokens)
  inside c m =
      let is = is_chain c m in
      let within = lies dict tokens c.start c.word ((is.fitting.exactly c.word).0 (contains_at is.words c.rank c.word is.ranked)) in
      let counted = is.counted in
      (omega (arith, within, counted), omega (arith, within, counted))

  same_numbers : (c d : Chain) → Contains idioms.taken c → Contains idioms.taken d → c.start ≡ d.start → c.rank ≡ d.rank → c ≡ d
  same_numbers c d m n starts ranks =
      let one = is_chain c m in
      let two = is_chain d n in
      let first = chain_is dict tokens d.start two.words two.fitting c one starts in
      let second = chain_is dict tokens d.start two.words two.fitting d two (λ i. d.start) in
      let words : c.word ≡ d.word = same_Some c.word d.word (sym first.0 ∙ ap (slice_get two.words) ranks ∙ second.0) in
      first.1 ∙ (λ i. chain_of dict d.start (ranks i) (words i)) ∙ sym second.1

  pub are_chains : HasNoJoints dict → length tokens ≤ POSITIONS → AreChainsOfIdioms idioms.taken
  are_chains none few = record {
    apart = same_numbers;
    several = λ c m. (inside c m).0;
    fits = λ c m i less. (
        let within = inside c m in
        let usable = taken_usable idioms.chains 0 idioms.taken idioms.are_taken c m in
        numbers_fit c.rank c.start i usable.rank (omega (arith, within, few, less)) (omega (arith, within, few, less))
        );
    no_joint = λ c m d of. none c.word c.formula (is_chain c m).has d of;
  }

  abbrev formula_of : ℕ → Chain → List ℕ × Tree
  formula_of p c = (c.word, formula_at c (p - c.start))

  to_chain : (p : ℕ) (d : Disjunct) → IsOfAdded (slice_index_or added p []) d → IsAddedAt idioms.taken p d
  to_chain p d (a, listed, of) =
      elim (cases_lt p (length added)) [
        | inr past ↦ absurd (contains_none a (subst (λ l. Contains l a) (get_or_past added p [] past) listed))
        | inl low ↦
            let adds = idioms.each p (get_or added p []) (slice_get-get_or added p [] low) in
            let (c, here, is) = map_out (formula_of p) adds.here a (subst (λ l. Contains l a) adds.are listed) in
            let both = (adds.exactly c).0 here in
            (c, both.0, both.1, subst (λ (x : List ℕ × Tree). IsDisjunctOf x.0 x.1 d) (sym is) of)
      ]

  from_chain : (p : ℕ) (d : Disjunct) → IsAddedAt idioms.taken p d → IsOfAdded (slice_index_or added p []) d
  from_chain p d (c, m, covers, of) =
      let within = inside c m in
      let long = idioms.same_length in
      let low : p < length added = omega (arith, within, long, covers) in
      let adds = idioms.each p (get_or added p []) (slice_get-get_or added p [] low) in
      (formula_of p c, subst (λ l. Contains l (formula_of p c)) (sym adds.are) (map_in (formula_of p) adds.here c ((adds.exactly c).1 (m, covers))), of)

  pub are_laid : (plain positions : List (List Disjunct)) → HasIdioms added plain positions → AreLaidOver idioms.taken plain positions
  are_laid plain positions has = record {
    same_length = has.same_length;
    no_joint = has.no_joint;
    exactly = λ p d. (
      λ m. elim ((has.exactly p d).0 m) [
        | inl in_plain ↦ inl in_plain
        | inr of ↦ inr (to_chain p d of)
      ],
      λ h. elim h [
        | inl in_plain ↦ (has.exactly p d).1 (inl in_plain)
        | inr of ↦ (has.exactly p d).1 (inr (from_chain p d of))
      ],
    );
  }

pub taken_are_chains : TakenAreChains
taken_are_chains dict tokens added none few idioms = are_chains dict tokens added idioms none few

pub taken_are_laid_over : TakenAreLaidOver
taken_are_laid_over dict tokens added plain positions has idioms = are_laid dict tokens added idioms plain positions has
