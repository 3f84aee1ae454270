-- The numbers and the texts of a page of a run without idioms are in form, if no text of it has a line feed.
use Rattle.std.proofs.Common.{◌≡◌, ℕ, suc, ◌+◌, ◌*◌, ◌^◌, ◌<◌, ◌≤◌, Bool, false, List, [], ◌∷◌, length, Option, Some, None, IfSome, slice_get, refl, ap, subst, arith, pos, neg_ℤ, ◌≤ℤ◌}
use Rattle.std.specs.List.{AllByRecursion}
use Rattle.std.proofs.lemmas.Int.{ints}
use Rattle.std.proofs.lemmas.List.Elements.{All-contains}
use Rattle.std.proofs.lemmas.Option.{get_or_from_slice_get, slice_get_within}
use Rattle.lg_gram.specs.Limits.{DISJUNCT_COST, POSITIONS}
use Rattle.lg_gram.specs.Linkages.{Linkage, cost_of, cost_sum}
use Rattle.lg_gram.specs.Problems.{IsDisjunctCost}
use Rattle.lg_gram.specs.Rules.{Good}
use Rattle.lg_gram.specs.declared.disjunct.Disjunct.{Disjunct}
use Rattle.lg_gram.specs.declared.listing.Page.{Page}
use Rattle.lg_gram.specs.declared.listing.PageItem.{PageItem}
use Rattle.lg_gram.specs.declared.listing.Token.{Token}
use Rattle.lg_gram.specs.declared.listing.Violation.{Violation}
use Rattle.lg_dict.specs.Dictionary.{Dictionary}
use Rattle.lg_knowread.specs.declared.knowledge.Knowledge.{Knowledge}
use Rattle.lg_pp.specs.Breaks.{Judges}
use Rattle.lg_export.specs.Exportable.{IsExportable}
use Rattle.lg_token.specs.Problems.{IsOfWords, IsProblemOf}
use Rattle.lg_answer.specs.Pages.{IsLinkageFor}
use Rattle.lg_answer.specs.Problems.{IsProblemInUse}
use Rattle.lg_answer.specs.declared.options.Options.{Options}
use Rattle.lg_answer.proofs.Few.{few_words}
use Rattle.lg_answer.proofs.Places.{at_place}
use Rattle.lg_session.specs.Engines.{Progress}
use Rattle.lg_text.specs.Shown.{IsOneLine, IsPlainDisjunct, IsPlainPage}
use Rattle.lg_audit.specs.Lines.{IsRun, IsViolationInForm}
use Rattle.lg_audit.specs.Pages.{MayFit}
use Rattle.lg_audit.specs.ShownAnswers.{IsSolidDisjunct, IsSolidLinkage, IsSolidItem, IsSolidPage}
use Rattle.lg_audit.proofs.Alone.{good_linkage}
use Rattle.lg_run.specs.Documents.{wanted, IsShown}
use Rattle.lg_run.proofs.MadeAnswers.{ends_within}
use Rattle.lg_run.proofs.MadeText.{short_linkage}
use Rattle.lg_run.proofs.OnePage.{item_at, long, some_at}
use Rattle.lg_run.proofs.PlainAnswers.{by_places, at_number}
use Rattle.lg_run.proofs.RightPages.{broken_named}
use Rattle.lg_run.proofs.SolidDisjuncts.{disjunct_fits, disjunct_solid}
use Rattle.lg_run.proofs.SolidTokens.{tokens_solid, AreSolidTokens}
use Rattle.lg_run.proofs.Turned.{no_more_than, no_farther}

-- ---- costs

one_cost : (o : Option Disjunct) → MayFit o → IsDisjunctCost (cost_of o)
one_cost None fits = (omega (arith, ints), omega (arith, ints))
one_cost (Some d) fits = fits.cost

-- the sum of few small costs is small
cost_within : (os : List (Option Disjunct)) → AllByRecursion MayFit os → (neg_ℤ (pos (DISJUNCT_COST * length os)) ≤ℤ cost_sum os) × (cost_sum os ≤ℤ pos (DISJUNCT_COST * length os))
cost_within [] fit = (omega (arith, ints), omega (arith, ints))
cost_within (o ∷ os) fit =
    let one = one_cost o fit.0 in
    let rest = cost_within os fit.1 in
    (omega (arith, ints, one.0, rest.0), omega (arith, ints, one.1, rest.1))

-- ---- what positions use

abbrev MayBePlain : Option Disjunct → Type 0
MayBePlain o = IfSome o IsPlainDisjunct

abbrev MayBeSolid : Option Disjunct → Type 0
MayBeSolid o = IfSome o IsSolidDisjunct

module _ (dict : Dictionary) (can : IsExportable dict) where
  abbrev IsOfSome : Disjunct → Type 0
  IsOfSome d = (words : List (List ℕ)) × IsOfWords dict words d

  choice_solid : (o : Option Disjunct) → MayBePlain o → ((d : Disjunct) → o ≡ Some d → IsOfSome d) → MayBeSolid o × MayFit o
  choice_solid None plain of = (tt, tt)
  choice_solid (Some d) plain of =
      let words = of d refl in (disjunct_solid dict can words.0 d words.1 plain, disjunct_fits dict can words.0 d words.1)

  choices_solid : (os : List (Option Disjunct)) → AllByRecursion MayBePlain os → ((k : ℕ) (d : Disjunct) → slice_get os k ≡ Some (Some d) → IsOfSome d)
      → AllByRecursion MayBeSolid os × AllByRecursion MayFit os
  choices_solid [] plain of = (tt, tt)
  choices_solid (o ∷ os) plain of =
      let one = choice_solid o plain.0 (λ d e. of 0 d (ap Some e)) in
      let rest = choices_solid os plain.1 (λ k. of (suc k)) in
      ((one.0, rest.0), (one.1, rest.1))

  module _ (tokens : List Token) (few : length tokens ≤ POSITIONS) (problem : List (List Disjunct)) (of_tokens : IsProblemOf dict tokens problem) where
    used : (g : Linkage) → Good problem g → (k : ℕ) (d : Disjunct) → slice_get g.chosen k ≡ Some (Some d) → IsOfSome d
    used g good k d here =
        let low = slice_get_within g.chosen k (Some d) here in
        let t = some_at tokens k (omega (arith, low, good.belongs.same_length, of_tokens.same_length)) in
        (t.0.words, ((of_tokens.each k t.0 t.1).exactly d).0 (good.belongs.listed k d (get_or_from_slice_get g.chosen k (Some d) None here)))

    linkage_solid : (g : Linkage) → Good problem g → AllByRecursion MayBePlain g.chosen → IsSolidLinkage g
    linkage_solid g good plain =
        let choices = choices_solid g.chosen plain (used g good) in
        let short : length g.chosen ≤ POSITIONS = omega (arith, few, good.belongs.same_length, of_tokens.same_length) in
        let cost = cost_within g.chosen choices.1 in
        let sum = short_linkage g (ends_within problem g good) (good_linkage problem g short choices.1 good) in
        record {
          positions = problem;
          good = good;
          few = omega (arith, short);
          chosen = choices.0;
          cost = (omega (arith, ints, cost.0, short), omega (arith, ints, cost.1, short));
          sum = omega (arith, sum);
        }

-- ---- tokens

runs : (ts : List Token) → AreSolidTokens ts → AllByRecursion (λ (t : Token). IsOneLine t.text) ts → AllByRecursion (λ (t : Token). IsRun t.text) ts
runs [] solid plain = tt
runs (t ∷ ts) solid plain = (record { solid = solid.0; single = plain.0 }, runs ts solid.1 plain.1)

-- ---- pages

plain_problem : (idioms : Bool) (dict : Dictionary) (tokens : List Token) (problem : List (List Disjunct)) → idioms ≡ false → IsProblemInUse idioms dict tokens problem → IsProblemOf dict tokens problem
plain_problem idioms dict tokens problem idle is = subst (λ b. IsProblemInUse b dict tokens problem) idle is

module _ (know : Knowledge) (options : Options) (idle : options.idioms ≡ false) (few_examine : options.examine ≤ 1000000) (few_rules : length know.rules < 2 ^ 32) where
  -- a rule that is broken has its number, and two positions of the sentence
  broken_solid : (tokens : List Token) → length tokens ≤ POSITIONS → (g : Linkage) → IsLinkageFor tokens g → (broken : Option Violation) → Judges know g broken → IfSome broken IsViolationInForm
  broken_solid tokens few g fits None judged = tt
  broken_solid tokens few g fits (Some v) judged =
      let named = broken_named know tokens 0 g v fits judged in
      record {
        rule = omega (arith, named.1, few_rules);
        left = omega (arith, named.2, named.3, few);
        right = omega (arith, named.3, few);
      }

  module _ (dict : Dictionary) (progress : Progress) (page : Page) (can : IsExportable dict) (low : progress.position ≤ 2 ^ 62) (shown : IsShown know options dict progress page) (plain : IsPlainPage progress.tokens page) where
    few_tokens : length progress.tokens ≤ POSITIONS
    few_tokens = few_words dict progress.tokens shown.sentence.unbound

    looked_few : shown.shown.looked ≤ 1000000
    looked_few = omega (arith, few_examine, no_more_than shown.shown.looked options.examine (λ k less. (shown.shown.goes_on k less).1))

    as_many : length page.items ≡ shown.shown.looked
    as_many = long shown.problem know options.nulls shown.place (wanted options progress.want) options.examine page shown.shown

    place_low : shown.place ≤ 2 ^ 62
    place_low = omega (arith, low, no_farther shown.problem know options.nulls progress.position shown.place shown.behind)

    item_solid : (i : ℕ) (item : PageItem) → slice_get page.items i ≡ Some item → IsSolidItem item
    item_solid i item at =
        let is = item_at shown.problem know options.nulls shown.place (wanted options progress.want) options.examine page shown.shown i item at in
        let within = slice_get_within page.items i item at in
        let good = (shown.shown.first.sound (shown.place + i) item.linkage is.1).good in
        let of_tokens = plain_problem options.idioms dict progress.tokens shown.problem idle shown.sentence.of_tokens in
        let fits : IsLinkageFor progress.tokens item.linkage = All-contains (λ (x : PageItem). IsLinkageFor progress.tokens x.linkage) page.items item shown.printable (at_place page.items item (i, at)) in
        record {
          number = omega (arith, is.0, within, as_many, looked_few, place_low);
          broken = broken_solid progress.tokens few_tokens item.linkage fits item.broken is.2;
          linkage = linkage_solid dict can progress.tokens few_tokens shown.problem of_tokens item.linkage good
              (at_number (λ (x : PageItem). AllByRecursion MayBePlain x.linkage.chosen) page.items i item plain.chosen_plain at);
        }

    pub page_solid : IsSolidPage progress.tokens page
    page_solid = record {
      tokens_solid = runs progress.tokens (tokens_solid dict progress.text progress.tokens shown.sentence.of_text).0 plain.tokens_plain;
      items = by_places IsSolidItem page.items item_solid;
      few = omega (arith, as_many, looked_few);
      next = omega (arith, shown.shown.next, looked_few, place_low);
    }
