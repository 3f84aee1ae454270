-- A listing that has come so far has one page, and a sentence one pair of numbers of disjuncts.
use Rattle.std.proofs.Common.{◌≡◌, ◌≢◌, ◌⊎◌, ◌↔◌, ℕ, zero, suc, ◌+◌, ◌-◌, ◌<◌, ◌≤◌, Bool, true, false, List, [], ◌∷◌, length, map, take, drop, get_or, All, Contains, Option, Some, None, slice_get, slice_index_or, inl, inr, refl, sym, ap, subst, ◌∙◌, arith, Less, Equal, Greater}
use Rattle.std.specs.Prelude.{MatchBool}
use Rattle.std.specs.declared.cmp.Ordering.{Ordering}
use Rattle.std.specs.Cmp.{IsTotalOrder}
use Rattle.std.specs.List.{enumerate_from, sum_by}
use Rattle.std.specs.List.Sorted.{IsStrictlySortedBy}
use Rattle.std.specs.Ordering.{nat_cmp, ordering_reverse}
use Rattle.std.proofs.lemmas.Bool.{cases_lt}
use Rattle.std.proofs.lemmas.Cmp.{on_total, then_total, nat_cmp_total}
use Rattle.std.proofs.lemmas.List.{same_lists, length-map, length-take-le, length-drop}
use Rattle.std.proofs.lemmas.List.FromFn.{length-enumerate_from}
use Rattle.std.proofs.lemmas.List.Elements.{All-contains}
use Rattle.std.proofs.lemmas.Map.Keys.{Less-from_sorted}
use Rattle.std.proofs.lemmas.Map.Lookups.{exact_unsigned}
use Rattle.std.proofs.lemmas.Option.{slice_get_within, slice_get-get_or, get_or_from_slice_get}
use Rattle.lg_gram.specs.Disjuncts.{disjunct_cmp}
use Rattle.lg_gram.specs.Linkages.{Linkage, pair_cmp}
use Rattle.lg_gram.specs.Problems.{IsPosition}
use Rattle.lg_gram.specs.Trees.{Tree}
use Rattle.lg_gram.specs.declared.disjunct.Disjunct.{Disjunct}
use Rattle.lg_gram.specs.declared.linkage.Link.{Link}
use Rattle.lg_gram.specs.declared.listing.Page.{Page}
use Rattle.lg_gram.specs.declared.listing.PageItem.{PageItem}
use Rattle.lg_gram.specs.declared.listing.Stats.{Stats}
use Rattle.lg_gram.specs.declared.listing.Token.{Token}
use Rattle.lg_gram.specs.declared.listing.Violation.{Violation}
use Rattle.lg_gram.proofs.Exact.{first_equal, second_equal}
use Rattle.lg_gram.proofs.Orders.{disjuncts_total, linkages_total}
use Rattle.lg_dict.specs.Dictionary.{Dictionary}
use Rattle.lg_idiom.specs.Idioms.{Chain, Covers, AreAdded, AreIdioms, formula_at}
use Rattle.lg_idiom.specs.Overlays.{IsOfAdded, TakenAreOne}
use Rattle.lg_idiom.proofs.Sorting.{chains_total}
use Rattle.lg_knowread.specs.declared.knowledge.Knowledge.{Knowledge}
use Rattle.lg_knowread.specs.declared.knowledge.Rule.{Rule}
use Rattle.lg_pp.specs.Breaks.{FailsAt, Holds, IsBroken, Judges}
use Rattle.lg_pprune.specs.Alive.{IsAlive, IsPruned}
use Rattle.lg_rank.specs.Fronts.{IsFront, IsAll}
use Rattle.lg_rank.proofs.Elements.{less_not}
use Rattle.lg_rank.proofs.Nexts.{fronts_agree}
use Rattle.lg_token.specs.Tokens.{AreTokens}
use Rattle.lg_answer.specs.Candidates.{IsCandidate, AreAll, IsBehind}
use Rattle.lg_answer.specs.Pages.{passed, IsPage, AreStats}
use Rattle.lg_token.specs.Problems.{IsOfWords, IsPositionOf, IsProblemOf}
use Rattle.lg_answer.specs.Problems.{IsIdiomPosition, IsIdiomProblem, IsProblemInUse}
use Rattle.lg_answer.specs.declared.options.Nulls.{Nulls}
use Rattle.lg_answer.specs.declared.options.Options.{Options}
use Rattle.lg_answer.proofs.Places.{place_of, at_place}
use Rattle.lg_session.specs.Engines.{Progress}
use Rattle.lg_run.specs.Documents.{wanted, IsShown, AreCounted}

-- ---- lists, by their places

module _ {V : Type 0} where
  pub some_at : (xs : List V) (k : ℕ) → k < length xs → (v : V) × (slice_get xs k ≡ Some v)
  some_at [] k less = absurd (omega (arith, less))
  some_at (x ∷ xs) zero less = (x, refl)
  some_at (x ∷ xs) (suc k) less = some_at xs k (omega (arith, less))

  same_by_place : (xs ys : List V) → length xs ≡ length ys → ((i : ℕ) (a b : V) → slice_get xs i ≡ Some a → slice_get ys i ≡ Some b → a ≡ b) → xs ≡ ys
  same_by_place xs ys long each =
      same_lists xs ys long (λ k d less. each k (get_or xs k d) (get_or ys k d) (slice_get-get_or xs k d less) (slice_get-get_or ys k d (omega (arith, long, less))))

  taken_at : (k i : ℕ) (xs : List V) (a : V) → slice_get (take k xs) i ≡ Some a → slice_get xs i ≡ Some a
  taken_at zero i xs a e = absurd (cc e)
  taken_at (suc k) i [] a e = e
  taken_at (suc k) zero (x ∷ xs) a e = e
  taken_at (suc k) (suc i) (x ∷ xs) a e = taken_at k i xs a e

  dropped_at : (n i : ℕ) (xs : List V) (a : V) → slice_get (drop n xs) i ≡ Some a → slice_get xs (n + i) ≡ Some a
  dropped_at zero i xs a e = let same : i ≡ 0 + i = omega arith in subst (λ k. slice_get xs k ≡ Some a) same e
  dropped_at (suc n) i [] a e = absurd (cc e)
  dropped_at (suc n) i (x ∷ xs) a e = let same : suc (n + i) ≡ suc n + i = omega arith in subst (λ k. slice_get (x ∷ xs) k ≡ Some a) same (dropped_at n i xs a e)

  pub enumerated_at : (n i : ℕ) (xs : List V) (x : ℕ × V) → slice_get (enumerate_from n xs) i ≡ Some x → (x.0 ≡ n + i) × (slice_get xs i ≡ Some x.1)
  enumerated_at n i [] x e = absurd (cc e)
  enumerated_at n zero (y ∷ xs) x e = let same : (n, y) ≡ x = cc in (sym (ap (λ (z : ℕ × V). z.0) same) ∙ omega arith, ap (λ (z : ℕ × V). Some z.1) same)
  enumerated_at n (suc i) (y ∷ xs) x e = let rest = enumerated_at (n + 1) i xs x e in let place = rest.0 in (omega (arith, place), rest.1)

mapped_at : {V W : Type 0} (f : V → W) (xs : List V) (i : ℕ) (a : V) → slice_get xs i ≡ Some a → slice_get (map f xs) i ≡ Some (f a)
mapped_at f [] i a e = absurd (cc e)
mapped_at f (x ∷ xs) zero a e = let same : x ≡ a = cc in ap (λ z. Some (f z)) same
mapped_at f (x ∷ xs) (suc i) a e = mapped_at f xs i a e

-- ---- fronts

module _ {V : Type 0} {cmp : V → V → Ordering} (total : IsTotalOrder cmp) (Has : V → Type 0) where
  -- no front is longer than one that has all
  pub no_longer : (xs ys : List V) → IsFront cmp Has xs → IsFront cmp Has ys → IsAll Has ys → length xs ≤ length ys
  no_longer xs ys f g all = elim (cases_lt (length ys) (length xs)) [
    | inl more ↦
        let x = some_at xs (length ys) more in
        let y = all x.0 (f.sound (length ys) x.0 x.1) in
        let low = slice_get_within ys y.0 x.0 y.1 in
        let w = some_at xs y.0 (omega (arith, low, more)) in
        absurd (less_not total w.0 x.0 (f.rise y.0 (length ys) w.0 x.0 low w.1 x.1) (fronts_agree total Has xs ys f g y.0 w.0 x.0 w.1 y.1))
    | inr le ↦ omega (arith, le)
  ]

  same_fronts : (xs ys : List V) → IsFront cmp Has xs → IsFront cmp Has ys → length xs ≡ length ys → xs ≡ ys
  same_fronts xs ys f g long = same_by_place xs ys long (fronts_agree total Has xs ys f g)

  sorted_front : (xs : List V) → IsStrictlySortedBy cmp xs → ((v : V) → Contains xs v ↔ Has v) → IsFront cmp Has xs
  sorted_front xs up exactly = record {
    rise = λ i j a b less p q. (λ k. cmp (sym (get_or_from_slice_get xs i a a p) k) (sym (get_or_from_slice_get xs j b a q) k)) ∙ Less-from_sorted cmp xs i j a up less (slice_get_within xs j b q);
    sound = λ i a p. (exactly a).0 (at_place xs a (i, p));
    below = λ v h. inl (place_of xs v ((exactly v).1 h));
  }

  same_sorted : (xs ys : List V) → IsStrictlySortedBy cmp xs → IsStrictlySortedBy cmp ys → ((v : V) → Contains xs v ↔ Has v) → ((v : V) → Contains ys v ↔ Has v) → xs ≡ ys
  same_sorted xs ys up up' p q =
      let f = sorted_front xs up p in
      let g = sorted_front ys up' q in
      let le = no_longer xs ys f g (λ v h. place_of ys v ((q v).1 h)) in
      let ge = no_longer ys xs g f (λ v h. place_of xs v ((p v).1 h)) in
      same_fronts xs ys f g (omega (arith, le, ge))

-- ---- verdicts

pairs_total : IsTotalOrder pair_cmp
pairs_total = then_total (on_total (λ (l : Link). l.left) nat_cmp_total) (on_total (λ (l : Link). l.right) nat_cmp_total)

-- links of which neither is earlier join the same positions
neither : (k l : Link) → pair_cmp k l ≢ Less → pair_cmp l k ≢ Less → (k.left ≡ l.left) × (k.right ≡ l.right)
neither k l p q = by (pair_cmp k l) refl
  where
    by : (o : Ordering) → pair_cmp k l ≡ o → (k.left ≡ l.left) × (k.right ≡ l.right)
    by Less e = absurd (p e)
    by Equal e = (
      exact_unsigned k.left l.left (first_equal (nat_cmp k.left l.left) (nat_cmp k.right l.right) e),
      exact_unsigned k.right l.right (second_equal (nat_cmp k.left l.left) (nat_cmp k.right l.right) e),
    )
    by Greater e = absurd (q (pairs_total.antisymm l k ∙ ap ordering_reverse e))

module _ (know : Knowledge) (g : Linkage) where
  not_earlier : (v w : Violation) → IsBroken know g v → IsBroken know g w → v.rule < w.rule → ⊥
  not_earlier v w b c less = c.first v.rule b.rule less b.number b.link b.fails

  one_broken : (v w : Violation) → IsBroken know g v → IsBroken know g w → v ≡ w
  one_broken v w b c =
      let number : v.rule ≡ w.rule = elim (cases_lt v.rule w.rule) [
        | inl less ↦ absurd (not_earlier v w b c less)
        | inr le ↦ elim (cases_lt w.rule v.rule) [ inl more ↦ absurd (not_earlier w v c b more) | inr ge ↦ omega (arith, le, ge) ]
      ] in
      let rule : b.rule ≡ c.rule = same_some (sym b.number.1 ∙ ap (λ n. slice_get know.rules (n - 1)) number ∙ c.number.1) in
      let pair = neither b.link c.link
      (c.least b.link (subst (λ r. FailsAt know g r b.link) rule b.fails))
      (b.least c.link (subst (λ r. FailsAt know g r c.link) (sym rule) c.fails)) in
      let left : v.left ≡ w.left = sym b.left ∙ pair.0 ∙ c.left in
      let right : v.right ≡ w.right = sym b.right ∙ pair.1 ∙ c.right in
      λ i. record { rule = number i; left = left i; right = right i }
    where
      same_some : {x y : Rule} → Some x ≡ Some y → x ≡ y
      same_some e = cc

  broken_or_not : (v : Violation) → All (Holds know g) know.rules → IsBroken know g v → ⊥
  broken_or_not v all b = All-contains (Holds know g) know.rules b.rule all (at_place know.rules b.rule (v.rule - 1, b.number.1)) b.link b.fails

  one_verdict : (o p : Option Violation) → Judges know g o → Judges know g p → o ≡ p
  one_verdict None None a b = refl
  one_verdict None (Some w) a b = absurd (broken_or_not w a b)
  one_verdict (Some v) None a b = absurd (broken_or_not v b a)
  one_verdict (Some v) (Some w) a b = ap Some (one_broken v w a b)

-- ---- problems

one_position : (dict : Dictionary) (words : List (List ℕ)) (ds es : List Disjunct) → IsPositionOf dict words ds → IsPositionOf dict words es → ds ≡ es
one_position dict words ds es a b = same_sorted disjuncts_total (IsOfWords dict words) ds es a.rise b.rise a.exactly b.exactly

pub one_problem : (dict : Dictionary) (tokens : List Token) (ps qs : List (List Disjunct)) → IsProblemOf dict tokens ps → IsProblemOf dict tokens qs → ps ≡ qs
one_problem dict tokens ps qs a b = same_by_place ps qs (a.same_length ∙ sym b.same_length) (λ i ds es p q.
    let t = some_at tokens i (omega (arith, slice_get_within ps i ds p, a.same_length)) in
    sym (get_or_from_slice_get ps i ds [] p)
    ∙ one_position dict t.0.words (slice_index_or ps i []) (slice_index_or qs i []) (a.each i t.0 t.1) (b.each i t.0 t.1)
    ∙ get_or_from_slice_get qs i es [] q)

-- what idioms add is one list for each position
module _ (one_taken : TakenAreOne) (dict : Dictionary) (tokens : List Token) where
  one_added : (xs ys : List (List (List ℕ × Tree))) → AreIdioms dict tokens xs → AreIdioms dict tokens ys → xs ≡ ys
  one_added xs ys a b =
      let taken : a.taken ≡ b.taken =
      one_taken dict tokens a.taken b.taken (record { chains = a.chains; all = a.all; are_taken = a.are_taken }) (record { chains = b.chains; all = b.all; are_taken = b.are_taken }) in
      same_by_place xs ys (a.same_length ∙ sym b.same_length) (λ i u v p q.
      let first = a.each i u p in
      let second = subst (λ (ts : List Chain). AreAdded ts i v) (sym taken) (b.each i v q) in
      let here : first.here ≡ second.here = same_sorted chains_total (λ (c : Chain). Contains a.taken c × Covers c i) first.here second.here first.rise second.rise first.exactly second.exactly in
      first.are ∙ ap (map (λ (c : Chain). (c.word, formula_at c (i - c.start)))) here ∙ sym second.are)

  one_idiom_problem : (ps qs : List (List Disjunct)) → IsIdiomProblem dict tokens ps → IsIdiomProblem dict tokens qs → ps ≡ qs
  one_idiom_problem ps qs a b = same_by_place ps qs (a.same_length ∙ sym b.same_length) (λ i ds es p q.
      let t = some_at tokens i (omega (arith, slice_get_within ps i ds p, a.same_length)) in
      let first = a.each i t.0 t.1 in
      let second = subst (λ (l : List (List (List ℕ × Tree))). IsIdiomPosition dict t.0.words (slice_index_or l i []) (slice_index_or qs i [])) (one_added b.added a.added b.idioms a.idioms) (b.each i t.0 t.1) in
      sym (get_or_from_slice_get ps i ds [] p)
      ∙ same_sorted disjuncts_total (λ (d : Disjunct). IsOfWords dict t.0.words d ⊎ IsOfAdded (slice_index_or a.added i []) d) (slice_index_or ps i []) (slice_index_or qs i []) first.rise second.rise first.exactly second.exactly
      ∙ get_or_from_slice_get qs i es [] q)

  one_in_use : (idioms : Bool) (ps qs : List (List Disjunct)) → IsProblemInUse idioms dict tokens ps → IsProblemInUse idioms dict tokens qs → ps ≡ qs
  one_in_use true ps qs a b = one_idiom_problem ps qs a b
  one_in_use false ps qs a b = one_problem dict tokens ps qs a b

-- ---- pages

module _ (positions : List (List Disjunct)) (know : Knowledge) (nulls : Nulls) where
  place_least : (n k l : ℕ) → IsBehind positions know nulls n k → IsBehind positions know nulls n l → k ≤ l
  place_least n k l a b = elim b.at [
    | inl is ↦ elim a.at [ inl is' ↦ omega (arith, is, is') | inr short ↦ omega (arith, is, short.0) ]
    | inr short ↦
        let le = no_longer linkages_total (IsCandidate positions know nulls) a.front b.front a.first b.first short.1 in
        omega (arith, le, a.count, b.count)
  ]

  pub one_place : (n k l : ℕ) → IsBehind positions know nulls n k → IsBehind positions know nulls n l → k ≡ l
  one_place n k l a b = omega (arith, place_least n k l a b, place_least n l k b a)

  module _ (from want examine : ℕ) where
    abbrev Is : Page → Type 0
    Is page = IsPage positions know nulls from want examine page

    pub long : (page : Page) (is : Is page) → length page.items ≡ is.looked
    long page is =
        let items = ap (λ l. length l) is.numbered in
        let all : length (drop from is.front) ≡ is.looked = omega (arith, is.within, length-drop from is.front) in
        sym (length-map page.items (λ (item : PageItem). (item.number, item.linkage))) ∙ items ∙ length-enumerate_from (from + 1) (drop from is.front) ∙ all

    -- what stands at a place of a page
    pub item_at : (page : Page) (is : Is page) (i : ℕ) (a : PageItem) → slice_get page.items i ≡ Some a → (a.number ≡ from + 1 + i) × (slice_get is.front (from + i) ≡ Some a.linkage) × Judges know a.linkage a.broken
    item_at page is i a p =
        let row = enumerated_at (from + 1) i (drop from is.front) (a.number, a.linkage)
        (subst (λ (l : List (ℕ × Linkage)). slice_get l i ≡ Some (a.number, a.linkage)) is.numbered (mapped_at (λ (item : PageItem). (item.number, item.linkage)) page.items i a p)) in
        (row.0, dropped_at from i is.front a.linkage row.1, All-contains (λ (item : PageItem). Judges know item.linkage item.broken) page.items a is.judged (at_place page.items a (i, p)))

    same_item : (page other : Page) (is : Is page) (is' : Is other) (i : ℕ) (a b : PageItem) → slice_get page.items i ≡ Some a → slice_get other.items i ≡ Some b → a ≡ b
    same_item page other is is' i a b p q =
        let x = item_at page is i a p in
        let y = item_at other is' i b q in
        let number : a.number ≡ b.number = x.0 ∙ sym y.0 in
        let linkage : a.linkage ≡ b.linkage = fronts_agree linkages_total (IsCandidate positions know nulls) is.front is'.front is.first is'.first (from + i) a.linkage b.linkage x.1 y.1 in
        let broken : a.broken ≡ b.broken = one_verdict know b.linkage a.broken b.broken (subst (λ (g : Linkage). Judges know g a.broken) linkage x.2) y.2 in
        λ k. record { number = number k; linkage = linkage k; broken = broken k }

    -- a page does not stop before another
    looked_most : (page other : Page) (is : Is page) (is' : Is other) → is'.looked ≤ is.looked
    looked_most page other is is' = elim (cases_lt is.looked is'.looked) [
      | inl less ↦
          let goes = is'.goes_on is.looked less in
          let few : length (take is.looked other.items) ≡ length page.items = length-take-le is.looked other.items (omega (arith, less, long other is')) ∙ sym (long page is) in
          let same : take is.looked other.items ≡ page.items = same_by_place (take is.looked other.items) page.items few
          (λ i a b p q. same_item other page is' is i a b (taken_at is.looked i other.items a p) q) in
          let passes : passed page.items < want = subst (λ (l : List PageItem). passed l < want) same goes.0 in
          absurd (elim is.stops [
            | inl all ↦ omega (arith, all, passes)
            | inr more ↦ elim more [
              | inl all ↦ omega (arith, all, goes.1)
              | inr all ↦
                  let le = no_longer linkages_total (IsCandidate positions know nulls) is'.front is.front is'.first is.first all in
                  omega (arith, le, less, is.within, is'.within)
            ]
          ])
      | inr le ↦ omega (arith, le)
    ]

    same_truth : (a b : Bool) → (a ≡ true → b ≡ true) → (b ≡ true → a ≡ true) → a ≡ b
    same_truth true b to from = sym (to refl)
    same_truth false true to from = from refl
    same_truth false false to from = refl

    ends_too : (page other : Page) (is : Is page) (is' : Is other) → page.items ≡ other.items → is.looked ≡ is'.looked → is.front ≡ is'.front → page.end ≡ true → other.end ≡ true
    ends_too page other is is' items looked front end =
        let h = is.ends.0 end in
        is'.ends.1 (subst (λ (l : List PageItem). passed l < want) items h.0, subst (λ n. n < examine) looked h.1, subst (AreAll positions know nulls) front h.2)

    one_page_of : (page other : Page) → Is page → Is other → page ≡ other
    one_page_of page other is is' =
        let looked : is.looked ≡ is'.looked = omega (arith, looked_most page other is is', looked_most other page is' is) in
        let items : page.items ≡ other.items = same_by_place page.items other.items (long page is ∙ looked ∙ sym (long other is')) (same_item page other is is') in
        let front : is.front ≡ is'.front = same_fronts linkages_total (IsCandidate positions know nulls) is.front is'.front is.first is'.first (omega (arith, looked, is.within, is'.within)) in
        let next : page.next ≡ other.next = is.next ∙ ap (λ n. from + n + 1) looked ∙ sym is'.next in
        let end : page.end ≡ other.end = same_truth page.end other.end (ends_too page other is is' items looked front) (ends_too other page is' is (sym items) (sym looked) (sym front)) in
        λ k. record { items = items k; next = next k; end = end k }

-- ---- numbers of disjuncts

pruned_exactly : (positions ps : List (List Disjunct)) (is : IsPruned positions ps) (i : ℕ) (ds : List Disjunct) → slice_get ps i ≡ Some ds → (d : Disjunct) → Contains ds d ↔ IsAlive positions i d
pruned_exactly positions ps is i ds at d =
    let same = get_or_from_slice_get ps i ds [] at in
    (λ h. (is.exactly i d).0 (subst (λ l. Contains l d) (sym same) h), λ h. subst (λ l. Contains l d) same ((is.exactly i d).1 h))

pruned_rise : (positions ps : List (List Disjunct)) (is : IsPruned positions ps) (i : ℕ) (ds : List Disjunct) → slice_get ps i ≡ Some ds → IsStrictlySortedBy disjunct_cmp ds
pruned_rise positions ps is i ds at = let position : IsPosition ds = All-contains IsPosition ps ds is.is_problem.each (at_place ps ds (i, at)) in position.rise

one_pruned : (positions ps qs : List (List Disjunct)) → IsPruned positions ps → IsPruned positions qs → ps ≡ qs
one_pruned positions ps qs a b = same_by_place ps qs (a.same_length ∙ sym b.same_length) (λ i ds es p q.
    same_sorted disjuncts_total (IsAlive positions i) ds es (pruned_rise positions ps a i ds p) (pruned_rise positions qs b i es q) (pruned_exactly positions ps a i ds p) (pruned_exactly positions qs b i es q))

abbrev IsKept : List (List Disjunct) → Bool → Stats → Type 0
IsKept positions prune s = MatchBool prune ((pruned : List (List Disjunct)) × IsPruned positions pruned × (s.kept ≡ sum_by length pruned)) (s.kept ≡ s.disjuncts)

same_kept : (positions : List (List Disjunct)) (prune : Bool) (s t : Stats) → IsKept positions prune s → IsKept positions prune t → s.disjuncts ≡ t.disjuncts → s.kept ≡ t.kept
same_kept positions true s t (ps, p, e) (qs, q, f) same = e ∙ ap (sum_by length) (one_pruned positions ps qs p q) ∙ sym f
same_kept positions false s t e f same = e ∙ same ∙ sym f

one_stats : (positions : List (List Disjunct)) (prune : Bool) (s t : Stats) → AreStats positions prune s → AreStats positions prune t → s ≡ t
one_stats positions prune s t a b =
    let disjuncts : s.disjuncts ≡ t.disjuncts = a.disjuncts ∙ sym b.disjuncts in
    let kept : s.kept ≡ t.kept = same_kept positions prune s t a.kept b.kept disjuncts in
    λ k. record { disjuncts = disjuncts k; kept = kept k }

-- ---- listings

module _ (one_taken : TakenAreOne) (know : Knowledge) (options : Options) (one_tokens : (dict : Dictionary) (text : List ℕ) (ts us : List Token) → AreTokens dict text ts → AreTokens dict text us → ts ≡ us) where
  pub one_page : (dict : Dictionary) (progress : Progress) (page other : Page) → IsShown know options dict progress page → IsShown know options dict progress other → page ≡ other
  one_page dict progress page other a b =
      let problem : b.problem ≡ a.problem = one_in_use one_taken dict progress.tokens options.idioms b.problem a.problem b.sentence.of_tokens a.sentence.of_tokens in
      let behind = subst (λ ps. IsBehind ps know options.nulls progress.position b.place) problem b.behind in
      let shown = subst (λ ps. IsPage ps know options.nulls b.place (wanted options progress.want) options.examine other) problem b.shown in
      let place : b.place ≡ a.place = one_place a.problem know options.nulls progress.position b.place a.place behind a.behind in
      one_page_of a.problem know options.nulls a.place (wanted options progress.want) options.examine page other a.shown
      (subst (λ n. IsPage a.problem know options.nulls n (wanted options progress.want) options.examine other) place shown)

  pub one_count : (dict : Dictionary) (text : List ℕ) (s t : Stats) → options.count ≡ true → AreCounted options dict text s → AreCounted options dict text t → s ≡ t
  one_count dict text s t counted a b =
      let tokens : b.tokens ≡ a.tokens = one_tokens dict text b.tokens a.tokens b.sentence.of_text a.sentence.of_text in
      let problem : b.problem ≡ a.problem = one_in_use one_taken dict a.tokens options.idioms b.problem a.problem (subst (λ ts. IsProblemInUse options.idioms dict ts b.problem) tokens b.sentence.of_tokens) a.sentence.of_tokens in
      one_stats a.problem options.prune s t (a.counted counted) (subst (λ ps. AreStats ps options.prune t) problem (b.counted counted))
