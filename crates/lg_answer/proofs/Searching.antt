-- A search begins with a sharper problem, and goes on with the problem itself.
use Rattle.std.proofs.Common.{◌≡◌, ◌↔◌, ◌==◌, ℕ, suc, ◌+◌, ◌<◌, ◌≤◌, inl, inr, cond, List, [], ◌∷◌, ◌++◌, length, get_or, Contains, Bool, Option, None, Some, refl, sym, subst, arith}
use Rattle.std.specs.Prelude.{is_none}
use Rattle.std.specs.List.{count_by, flat_map}
use Rattle.std.proofs.lemmas.Bool.{cases_lt, ne_eqb}
use Rattle.std.proofs.lemmas.List.Sums.{sum_by-cons, count_by-le-length}
use Rattle.lg_gram.specs.Linkages.{Linkage, linkage_cmp, unlinked}
use Rattle.lg_gram.specs.Levels.{IsFewest}
use Rattle.lg_gram.specs.Rules.{Good}
use Rattle.lg_gram.specs.declared.disjunct.Disjunct.{Disjunct}
use Rattle.lg_region.specs.Parts.{UnderWhole}
use Rattle.lg_region.specs.declared.key.Key.TheVariants.{Whole}
use Rattle.lg_forest.specs.Demands.{HasLinkageUnder, IsDemanded}
use Rattle.lg_forest.specs.Demands.Reaches.{itself}
use Rattle.lg_forest.specs.Forests.{Forest, IsForest}
use Rattle.lg_rank.specs.Fronts.{IsFront, IsNext}
use Rattle.lg_rank.specs.Rankings.{Ranking, IsThere}
use Rattle.lg_eprune.specs.Live.{WordTree}
use Rattle.lg_sharpen.specs.Sharp.{IsSharpened}
use Rattle.lg_answer.specs.Searches.{wide_of, StandsUpTo, Begins, BeginsSharper, blanks, HasFew}
use Rattle.lg_answer.specs.Wide.{HasNoFewer, KeepsFew, all_disjuncts, disjuncts_in}
use Rattle.lg_answer.specs.declared.wide.Wide.{Wide}
use Rattle.lg_answer.proofs.Kept.{front_of}

-- a position without disjuncts is unlinked
one_blank : (ds : List Disjunct) (o : Option Disjunct) → ((d : Disjunct) → o ≡ Some d → Contains ds d) → cond (length ds == 0) 1 0 ≤ cond (is_none o) 1 0
one_blank [] None listed = omega arith
one_blank [] (Some d) listed = absurd (let n = (listed d refl).1 in omega arith)
one_blank (x ∷ ds) o listed = rw (ne_eqb (length (x ∷ ds)) 0 (λ e. let no : ⊥ = omega arith in absurd no)) (omega arith)

blank_count : (positions : List (List Disjunct)) (os : List (Option Disjunct)) → length os ≡ length positions
    → ((i : ℕ) (d : Disjunct) → get_or os i None ≡ Some d → Contains (get_or positions i []) d) → blanks positions ≤ count_by is_none os
blank_count [] os same listed = omega arith
blank_count (ds ∷ positions) [] same listed = absurd (omega arith)
blank_count (ds ∷ positions) (o ∷ os) same listed =
    let here = one_blank ds o (λ d e. listed 0 d e) in
    let rest = blank_count positions os (omega arith) (λ i d e. listed (suc i) d e) in
    omega (arith, sum_by-cons (λ (xs : List Disjunct). cond (length xs == 0) 1 0) ds positions, sum_by-cons (λ (x : Option Disjunct). cond (is_none x) 1 0) o os)

blanks_least : (positions : List (List Disjunct)) (g : Linkage) → Good positions g → blanks positions ≤ unlinked g
blanks_least positions g good = blank_count positions g.chosen good.belongs.same_length good.belongs.listed

pub few_unlinked : (positions : List (List Disjunct)) (g : Linkage) → Good positions g → unlinked g ≤ length positions
few_unlinked positions g good = let most = count_by-le-length is_none g.chosen in let same = good.belongs.same_length in omega arith

-- a position without words has no disjuncts
one_empty : (ws : List WordTree) → cond (length ws == 0) 1 0 ≤ cond (length (flat_map disjuncts_in ws) == 0) 1 0
one_empty [] = omega arith
one_empty (w ∷ ws) = rw (ne_eqb (length (w ∷ ws)) 0 (λ e. let no : ⊥ = omega arith in absurd no)) (omega arith)

empty_positions : (words : List (List WordTree)) → count_by (λ (ws : List WordTree). length ws == 0) words ≤ blanks (all_disjuncts words)
empty_positions [] = omega arith
empty_positions (ws ∷ words) =
    let here = one_empty ws in
    let rest = empty_positions words in
    omega (
      arith,
      sum_by-cons (λ (vs : List WordTree). cond (length vs == 0) 1 0) ws words,
      sum_by-cons (λ (ds : List Disjunct). cond (length ds == 0) 1 0) (flat_map disjuncts_in ws) (all_disjuncts words),
    )

-- a sharpened problem keeps the linkages with so few unlinked words
pub sharpened_few : (positions : List (List Disjunct)) (nulls : ℕ) (sharp : List (List Disjunct)) → IsSharpened positions nulls sharp → KeepsFew positions nulls sharp
sharpened_few positions nulls sharp is = record { same_length = is.same_length; same = is.same }

module _ (positions sharp : List (List Disjunct)) where
  fewer_nulls : (more less : ℕ) → less ≤ more → KeepsFew positions more sharp → KeepsFew positions less sharp
  fewer_nulls more less at is = record { same_length = is.same_length; same = λ g few. is.same g (omega arith) }

  -- a linkage that leaves no more words unlinked than each has to: none leaves fewer
  pub begins_sharper : (forest : Forest) (n : ℕ) (ranked : Ranking) → HasNoFewer positions n → KeepsFew positions n sharp → (from : ℕ) × IsForest sharp from forest → HasFew n forest
      → ranked ≡ record { positions = sharp; nulls = forest.unused; position = 0 } → BeginsSharper positions ranked
  begins_sharper forest n ranked least is made few at =
      let found : HasLinkageUnder sharp made.1.lists (Whole forest.unused) = ((made.1.nodes (Whole forest.unused)).0 few.1).1 in
      let most = few.0 in
      let unused = found.1.count in
      rw at (record {
        sharper = fewer_nulls n forest.unused (omega arith) is;
        fewest = record {
          some = (found.0, (is.same found.0 (omega arith)).1 found.1.good, unused);
          least = λ h good. let no_fewer = least h good in omega arith;
        };
        first = refl;
      })

  -- the forest of so many unlinked words has no linkage, so each linkage leaves more
  pub none_at : (forest : Forest) (n : ℕ) → HasNoFewer positions n → KeepsFew positions n sharp → IsForest sharp n forest → forest.unused ≡ n → (HasFew n forest → ⊥) → HasNoFewer positions (n + 1)
  none_at forest n least is made unused none g good =
      let no_fewer = least g good in
      elim (cases_lt n (unlinked g)) [
        | inl more ↦ omega arith
        | inr same ↦ (
            let here : unlinked g ≡ forest.unused = omega arith in
            let under : UnderWhole sharp forest.unused g = record { good = (is.same g (omega arith)).0 good; count = here } in
            let demanded : IsDemanded sharp made.lists n forest.unused (Whole forest.unused) = (forest.unused, omega arith, omega arith, itself (Whole forest.unused)) in
            absurd (none (omega arith, (made.nodes (Whole forest.unused)).1 (demanded, (g, under))))
            )
      ]

  -- more positions have no disjunct than so many words may stay unlinked, so each linkage leaves more
  pub none_by_blanks : (n : ℕ) → HasNoFewer positions n → KeepsFew positions n sharp → n < blanks sharp → HasNoFewer positions (n + 1)
  none_by_blanks n least is over g good =
      let no_fewer = least g good in
      elim (cases_lt n (unlinked g)) [
        | inl more ↦ omega arith
        | inr same ↦ (let blank = blanks_least sharp g ((is.same g (omega arith)).0 good) in absurd (omega (arith, blank, over, same)))
      ]

-- each linkage leaves the words unlinked that have no disjunct
pub no_fewer_than_blanks : (positions : List (List Disjunct)) (n : ℕ) → n ≡ blanks positions → HasNoFewer positions n
no_fewer_than_blanks positions n count g good = let least = blanks_least positions g good in omega arith

-- and those of the positions that have no word
pub no_fewer_than_empty : (words : List (List WordTree)) (n : ℕ) → n ≡ count_by (λ (ws : List WordTree). length ws == 0) words → HasNoFewer (all_disjuncts words) n
no_fewer_than_empty words n count g good =
    let least = blanks_least (all_disjuncts words) g good in
    let empty = empty_positions words in
    omega arith

-- the level of the fewest unlinked words alone
pub begins_fewest : (positions : List (List Disjunct)) (nulls unused : ℕ) (ranked : Ranking) → IsFewest positions nulls → unused ≡ nulls → ranked ≡ record { positions = positions; nulls = unused; position = 0 } → Begins positions ranked
begins_fewest positions nulls unused ranked is same at = rw at (record {
  keeps = λ g. (λ h. h, λ h. h);
  same_length = refl;
  fewest = subst (IsFewest positions) (sym same) is;
  first = refl;
})

-- some linkage leaves no more words unlinked than the fewest
pub no_level : (positions : List (List Disjunct)) (nulls : ℕ) → IsFewest positions nulls → HasNoFewer positions (nulls + 1) → ⊥
no_level positions nulls is more = let least = is.some in let over = more least.0 least.1 in let same = least.2 in omega arith

pub begins_wide : (positions : List (List Disjunct)) (ranked : Ranking) → BeginsSharper positions ranked → Begins positions (record { positions = positions; nulls = ranked.nulls; position = ranked.position })
begins_wide positions ranked is = record { keeps = λ g. (λ h. h, λ h. h); same_length = refl; fewest = is.fewest; first = is.first }

next_over : (A B : Linkage → Type 0) → ((g : Linkage) → A g ↔ B g) → (gs : List Linkage) (found : Option Linkage) → IsNext linkage_cmp A gs found → IsNext linkage_cmp B gs found
next_over A B same gs None all = λ g has. all g ((same g).1 has)
next_over A B same gs (Some g) front = front_of linkage_cmp A B (gs ++ g ∷ []) (λ v. (same v).0) (λ v. (same v).1) front

module _ (nulls : ℕ) (ranked : List (List Disjunct)) where
  -- of this level the ranked problem has the linkages of the wide one
  under_ranked : (wide : Option Wide) → StandsUpTo nulls wide ranked → (g : Linkage) → UnderWhole (wide_of wide ranked) nulls g ↔ UnderWhole ranked nulls g
  under_ranked None stands g = (λ h. h, λ h. h)
  under_ranked (Some wide) stands g = (
    λ h. record { good = (stands.0.same g (let c = h.count in omega arith)).0 h.good; count = h.count },
    λ h. record { good = (stands.0.same g (let c = h.count in omega arith)).1 h.good; count = h.count },
  )

  -- so it gives the next of the wide one
  pub next_of_wide : (wide : Option Wide) → StandsUpTo nulls wide ranked → (gs : List Linkage) (found : Option Linkage)
      → (IsFront linkage_cmp (UnderWhole ranked nulls) gs → IsNext linkage_cmp (UnderWhole ranked nulls) gs found)
      → IsFront linkage_cmp (UnderWhole (wide_of wide ranked) nulls) gs → IsNext linkage_cmp (UnderWhole (wide_of wide ranked) nulls) gs found
  next_of_wide wide stands gs found next front =
      let same = under_ranked wide stands in
      let of_wide = UnderWhole (wide_of wide ranked) nulls in
      let of_ranked = UnderWhole ranked nulls in
      next_over of_ranked of_wide (λ g. ((same g).1, (same g).0)) gs found (next (front_of linkage_cmp of_wide of_ranked gs (λ v. (same v).0) (λ v. (same v).1) front))

  -- and passes over the next of the wide one
  pub there_of_wide : (wide : Option Wide) → StandsUpTo nulls wide ranked → (gs : List Linkage) (there : Bool)
      → (IsFront linkage_cmp (UnderWhole ranked nulls) gs → IsThere (IsNext linkage_cmp (UnderWhole ranked nulls) gs) there)
      → IsFront linkage_cmp (UnderWhole (wide_of wide ranked) nulls) gs → IsThere (IsNext linkage_cmp (UnderWhole (wide_of wide ranked) nulls) gs) there
  there_of_wide wide stands gs there next front =
      let same = under_ranked wide stands in
      let of_wide = UnderWhole (wide_of wide ranked) nulls in
      let is = next (front_of linkage_cmp of_wide (UnderWhole ranked nulls) gs (λ v. (same v).0) (λ v. (same v).1) front) in
      (is.0, next_of_wide wide stands gs is.0 (λ here. is.1) front, is.2)
