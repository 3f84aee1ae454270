-- A page of a sentence, by its lines: what it shows is determined, and it is one of the sentence's problem.
use Rattle.std.proofs.Common.{◌≡◌, ℕ, List, [], ◌∷◌, ◌++◌, length, map, inl, inr, Some, None, Result, Ok, Err, refl, sym, ap, ◌∙◌, subst, arith}
use Rattle.std.specs.Result.{IfErr}
use Rattle.std.specs.List.{All}
use Rattle.std.specs.List.Sorted.{IsStrictlySortedBy}
use Rattle.std.proofs.lemmas.List.Elements.{All-nil, All-cons, All-head, All-tail}
use Rattle.lg_gram.specs.Connectors.{ConnectorsToldApart}
use Rattle.lg_gram.specs.Linkages.{Linkage, linkage_cmp}
use Rattle.lg_gram.specs.Names.{NamesAreWritten}
use Rattle.lg_gram.specs.Rules.{Good}
use Rattle.lg_gram.specs.declared.disjunct.Disjunct.{Disjunct}
use Rattle.lg_gram.specs.declared.listing.Token.{Token}
use Rattle.lg_dict.specs.Dictionary.{Dictionary}
use Rattle.lg_disj.specs.Exist.{ExpressionsHaveDisjuncts}
use Rattle.lg_gram.specs.declared.listing.Bound.{Bound}
use Rattle.lg_token.specs.Bounds.{AreListed, IsBeyond, bound_of}
use Rattle.lg_token.specs.Tokens.{AreTokens}
use Rattle.lg_knowread.specs.declared.knowledge.Knowledge.{Knowledge}
use Rattle.lg_pp.specs.Breaks.{Judges}
use Rattle.lg_token.specs.Problems.{IsProblemOf}
use Rattle.lg_audit.specs.Lines.{ShownLinkage, ShownPage}
use Rattle.lg_audit.specs.Replies.{Begins, with_some, behind_all, IsPageOf, shown_linkage, linkages_on}
use Rattle.lg_audit.specs.Pages.{HaveNamedWords, AreOnesOf, BeginsWith, IsPageFor}
use Rattle.lg_audit.proofs.Existing.{some_problem}
use Rattle.lg_audit.proofs.Sentences.{one_of_sentence, good_in_sentence}
use Rattle.lg_audit.proofs.ShownLinkages.{one_linkage}

-- ---- where it begins

begins_as : (from : ℕ) (page : ShownPage) → BeginsWith from (length page.items) page.last → Begins from page
begins_as from page (inl h) = with_some page from h.0 h.1
begins_as from page (inr h) = behind_all page from (none page.items h.0) h.1 h.2 h.3
  where
    none : {X : Type 0} (xs : List X) → length xs ≡ 0 → xs ≡ []
    none [] e = refl
    none (x ∷ xs) e = absurd (omega (arith, e))

begins_so : (from : ℕ) (page : ShownPage) → Begins from page → BeginsWith from (length page.items) page.last
begins_so from page (with_some _ _ some next) = inl (some, next)
begins_so from page (behind_all _ _ none two next end) = inr (ap length none, two, next, end)

-- ---- the linkages

module _ (know : Knowledge) (dict : Dictionary) (tokens : List Token) where
  ones_are : (ss : List ShownLinkage) (gs : List Linkage) → AreOnesOf know dict tokens ss gs → ss ≡ map (shown_linkage tokens) gs
  ones_are [] [] h = refl
  ones_are (s ∷ ss) (g ∷ gs) h = let rest = ones_are ss gs h.1 in (λ i. sym h.0.is i ∷ rest i)
  ones_are [] (g ∷ gs) h = absurd h
  ones_are (s ∷ ss) [] h = absurd h

  ones_pass : (ss : List ShownLinkage) (gs : List Linkage) → AreOnesOf know dict tokens ss gs → All (λ g. Judges know g None) gs
  ones_pass [] [] h = All-nil (λ g. Judges know g None)
  ones_pass (s ∷ ss) (g ∷ gs) h = All-cons (λ g. Judges know g None) g gs h.0.passes (ones_pass ss gs h.1)
  ones_pass [] (g ∷ gs) h = absurd h
  ones_pass (s ∷ ss) [] h = absurd h

  module _ (problem : List (List Disjunct)) (of : IsProblemOf dict tokens problem) where
    ones_good : (ss : List ShownLinkage) (gs : List Linkage) → AreOnesOf know dict tokens ss gs → All (Good problem) gs
    ones_good [] [] h = All-nil (Good problem)
    ones_good (s ∷ ss) (g ∷ gs) h = All-cons (Good problem) g gs (good_in_sentence dict know tokens problem of s g h.0) (ones_good ss gs h.1)
    ones_good [] (g ∷ gs) h = absurd h
    ones_good (s ∷ ss) [] h = absurd h

    ones_from : (ss : List ShownLinkage) (gs : List Linkage) → ss ≡ map (shown_linkage tokens) gs → All (Good problem) gs → All (λ g. Judges know g None) gs → AreOnesOf know dict tokens ss gs
    ones_from ss gs are good pass = subst (λ (ts : List ShownLinkage). AreOnesOf know dict tokens ts gs) (sym are) (each gs good pass)
      where
        each : (hs : List Linkage) → All (Good problem) hs → All (λ g. Judges know g None) hs → AreOnesOf know dict tokens (map (shown_linkage tokens) hs) hs
        each [] good pass = tt
        each (h ∷ hs) good pass = (
          one_of_sentence dict know tokens problem of (shown_linkage tokens h) h (All-head (Good problem) h hs good) (All-head (λ g. Judges know g None) h hs pass) refl,
          each hs (All-tail (Good problem) h hs good) (All-tail (λ g. Judges know g None) h hs pass),
        )

  -- what is shown determines the linkages
  pub same_ones : NamesAreWritten → ConnectorsToldApart → HaveNamedWords dict tokens → (ss : List ShownLinkage) (gs hs : List Linkage)
      → AreOnesOf know dict tokens ss gs → AreOnesOf know dict tokens ss hs → gs ≡ hs
  same_ones written apart named [] [] [] a b = refl
  same_ones written apart named (s ∷ ss) (g ∷ gs) (h ∷ hs) a b =
      let first = one_linkage written apart know dict tokens named s g h a.0 b.0 in
      let rest = same_ones written apart named ss gs hs a.1 b.1 in
      (λ i. first i ∷ rest i)
  same_ones written apart named [] (g ∷ gs) hs a b = absurd a
  same_ones written apart named [] [] (h ∷ hs) a b = absurd b
  same_ones written apart named (s ∷ ss) [] hs a b = absurd a
  same_ones written apart named (s ∷ ss) (g ∷ gs) [] a b = absurd b

-- ---- both ways

module _ (exist : ExpressionsHaveDisjuncts) (one : (dict : Dictionary) (text : List ℕ) (tokens others : List Token) → AreTokens dict text tokens → AreTokens dict text others → tokens ≡ others)
    (know : Knowledge) (dict : Dictionary) (text : List ℕ) (tokens : List Token) (listed : AreListed dict text tokens) (named : HaveNamedWords dict tokens) (from : ℕ) (before shown : List Linkage)
    (page : ShownPage) where
  pub page_of : IsPageFor know dict tokens from before shown page → IsPageOf know dict text from before shown page
  page_of is =
      let (problem, of) = some_problem exist dict tokens named in
      record {
        tokens = tokens;
        listed = listed;
        problem = problem;
        of_tokens = of;
        numbered = is.framed.numbered;
        examined = is.framed.examined;
        begins = begins_as from page is.framed.begins;
        counted = is.counted;
        named = is.framed.named;
        are = ones_are know dict tokens (linkages_on page) shown is.ones;
        good = ones_good know dict tokens problem of (linkages_on page) shown is.ones;
        pass = ones_pass know dict tokens (linkages_on page) shown is.ones;
        rise = is.rise;
      }

  framed_own : (is : IsPageOf know dict text from before shown page) → IsPageFor know dict is.tokens from before shown page
  framed_own is = record {
    framed = record { examined = is.examined; begins = begins_so from page is.begins; numbered = is.numbered; named = is.named };
    ones = ones_from know dict is.tokens is.problem is.of_tokens (linkages_on page) shown is.are is.good is.pass;
    counted = is.counted;
    rise = is.rise;
  }

  pub page_for : IsPageOf know dict text from before shown page → IsPageFor know dict tokens from before shown page
  page_for is = subst (λ (ts : List Token). IsPageFor know dict ts from before shown page) (one dict text is.tokens tokens is.listed.of_text listed.of_text) (framed_own is)

-- ---- each way that there is none, and the one

module _ (written : NamesAreWritten) (apart : ConnectorsToldApart) (know : Knowledge) (dict : Dictionary) (tokens : List Token) (named : HaveNamedWords dict tokens) (from : ℕ) (page : ShownPage) where
  pub none_found : ((gs : List Linkage) → AreOnesOf know dict tokens (linkages_on page) gs → ⊥) → (before gs : List Linkage) → IsPageFor know dict tokens from before gs page → ⊥
  none_found never before gs is = never gs is.ones

  module _ (shown : List Linkage) (ones : AreOnesOf know dict tokens (linkages_on page) shown) where
    pub same_shown : (before gs : List Linkage) → IsPageFor know dict tokens from before gs page → gs ≡ shown
    same_shown before gs is = same_ones know dict tokens written apart named (linkages_on page) gs shown is.ones ones

    pub not_counted : (page.last.shown ≡ length shown → ⊥) → (before gs : List Linkage) → IsPageFor know dict tokens from before gs page → ⊥
    not_counted never before gs is = never (is.counted ∙ ap length (same_shown before gs is))

    pub not_rising : (before : List Linkage) → (IsStrictlySortedBy linkage_cmp (before ++ shown) → ⊥) → (gs : List Linkage) → IsPageFor know dict tokens from before gs page → ⊥
    not_rising before never gs is = never (subst (λ (hs : List Linkage). IsStrictlySortedBy linkage_cmp (before ++ hs)) (same_shown before gs is) is.rise)

-- ---- a sentence past a bound

-- it has no page
pub no_page : ((dict : Dictionary) (text : List ℕ) (tokens others : List Token) → AreTokens dict text tokens → AreTokens dict text others → tokens ≡ others)
    → (know : Knowledge) (dict : Dictionary) (text : List ℕ) (from : ℕ) (before gs : List Linkage) (page : ShownPage) → {A : Type 0} (r : Result A Bound) → ((x : A) → r ≡ Ok x → ⊥)
    → IfErr r (IsBeyond dict text) → IsPageOf know dict text from before gs page → ⊥
no_page one know dict text from before gs page (Ok x) never beyond is = never x refl
no_page one know dict text from before gs page (Err bound) never beyond is =
    let same = one dict text beyond.tokens is.tokens beyond.of_text is.listed.of_text in
    let some : bound_of dict is.tokens ≡ Some bound = subst (λ (ts : List Token). bound_of dict ts ≡ Some bound) same beyond.is_bound in
    let none = is.listed.unbound in
    let no : ⊥ = cc in
    absurd no
