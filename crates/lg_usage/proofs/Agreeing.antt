-- Totals do not depend on the order and the grouping of the linkages.
use Rattle.std.proofs.Common.{◌≡◌, ℕ, ◌+◌, cond, unwrap_or, List, [], ◌∷◌, ◌++◌, refl, sym, ap, subst, ◌∙◌, append_assoc, append-nil}
use Rattle.std.specs.List.{flat_map, sum_by}
use Rattle.std.specs.List.Sorted.{IsPermutation}
use Rattle.std.specs.Ordering.{nat_cmp}
use Rattle.std.specs.Cmp.Lexicographic.{slice_cmp}
use Rattle.std.specs.Str.{bytes_eq}
use Rattle.std.specs.FinMap.{empty, get-empty}
use Rattle.std.proofs.lemmas.Grind.{flat_map-append}
use Rattle.std.proofs.lemmas.List.Sums.{sum_by-append, sum_by-cons}
use Rattle.std.proofs.lemmas.List.Sorted.{sum_by-IsPermutation}
use Rattle.lg_gram.specs.Linkages.{Linkage}
use Rattle.lg_usage.specs.Totals.{Tally, Totals, no_totals, times, words_used, labels_used, IsTally, AreTotals, AddsTexts, IsSumOfTallies}
use Rattle.lg_usage.specs.Shares.{linkages_of, AddsAll, GivesTotals, TotalsAreEqual, CountsDecide, SharesAgree, TotalsGrow}
use Rattle.lg_usage.specs.Shares.Merging.{share, merged}
use Rattle.lg_usage.proofs.Tallies.{same_tally, no_zero_in_empty}

times_append : (text : List ℕ) (xs ys : List (List ℕ)) → times text (xs ++ ys) ≡ times text xs + times text ys
times_append text xs ys = sum_by-append (λ (x : List ℕ). cond (bytes_eq text x) 1 0) xs ys

module _ (f : Linkage → List (List ℕ)) where
  -- linkage by linkage
  pub times_each : (text : List ℕ) (gs : List Linkage) → times text (flat_map f gs) ≡ sum_by (λ g. times text (f g)) gs
  times_each text [] = refl
  times_each text (g ∷ gs) =
      times_append text (f g) (flat_map f gs) ∙ ap (λ n. times text (f g) + n) (times_each text gs) ∙ sym (sum_by-cons (λ (g : Linkage). times text (f g)) g gs)

  -- in any order
  same_times : (text : List ℕ) (gs hs : List Linkage) → IsPermutation gs hs → times text (flat_map f gs) ≡ times text (flat_map f hs)
  same_times text gs hs moved = times_each text gs ∙ sym (sum_by-IsPermutation (λ (g : Linkage). times text (f g)) gs hs moved) ∙ sym (times_each text hs)

  same_tallies : (gs hs : List Linkage) (a b : Tally) → IsPermutation gs hs → IsTally (flat_map f gs) a → IsTally (flat_map f hs) b → a ≡ b
  same_tallies gs hs a b moved p q = same_tally a b p.only q.only (λ text. p.counts text ∙ same_times text gs hs moved ∙ sym (q.counts text))

  one_more : (gs : List Linkage) (g : Linkage) (a b : Tally) → IsTally (flat_map f gs) a → AddsTexts a (f g) b → IsTally (flat_map f (gs ++ g ∷ [])) b
  one_more gs g a b is adds = record {
    counts = λ text. adds.counts text ∙ ap (λ n. n + times text (f g)) (is.counts text) ∙ sym (times_append text (flat_map f gs) (f g))
        ∙ ap (λ xs. times text (flat_map f gs ++ xs)) (sym (append-nil (f g))) ∙ ap (times text) (sym (flat_map-append f gs (g ∷ [])));
    only = adds.only;
  }

  both_more : (gs hs : List Linkage) (a b sum : Tally) → IsTally (flat_map f gs) a → IsTally (flat_map f hs) b → IsSumOfTallies a b sum → IsTally (flat_map f (gs ++ hs)) sum
  both_more gs hs a b sum p q is = record {
    counts = λ text. is.counts text ∙ (λ i. p.counts text i + q.counts text i) ∙ sym (times_append text (flat_map f gs) (flat_map f hs)) ∙ ap (times text) (sym (flat_map-append f gs hs));
    only = is.only;
  }

pub totals_are_equal : TotalsAreEqual
totals_are_equal gs hs t u moved p q = λ i. record { words = same_tallies words_used gs hs t.words u.words moved p.words q.words i; labels = same_tallies labels_used gs hs t.labels u.labels moved p.labels q.labels i }

pub counts_decide : CountsDecide
counts_decide t u p q words labels = λ i. record { words = same_tally t.words u.words p.words q.words words i; labels = same_tally t.labels u.labels p.labels q.labels labels i }

no_texts : IsTally [] empty
no_texts = record { counts = λ text. ap (λ o. unwrap_or o 0) (get-empty {X = ℕ} (slice_cmp nat_cmp) text); only = no_zero_in_empty }

pub totals_grow : TotalsGrow
totals_grow = record {
  none = record { words = no_texts; labels = no_texts };
  one = λ gs g t u is adds. record { words = one_more words_used gs g t.words u.words is.words adds.words; labels = one_more labels_used gs g t.labels u.labels is.labels adds.labels };
  both = λ gs hs t u sum p q is. record { words = both_more words_used gs hs t.words u.words sum.words p.words q.words is.words; labels = both_more labels_used gs hs t.labels u.labels sum.labels p.labels q.labels is.labels };
}

-- more linkages, one after another
all_added : (done gs : List Linkage) (t u : Totals) → AreTotals done t → AddsAll t gs u → AreTotals (done ++ gs) u
all_added done [] t u is same = subst (λ gs. AreTotals gs u) (sym (append-nil done)) (subst (AreTotals done) (sym same) is)
all_added done (g ∷ gs) t u is (next, adds, rest) =
    subst (λ gs. AreTotals gs u) (append_assoc done (g ∷ []) gs) (all_added (done ++ g ∷ []) gs next u (totals_grow.one done g t next is adds) rest)

pub gives_totals : GivesTotals
gives_totals (share gs) t gives = all_added [] gs no_totals t totals_grow.none gives
gives_totals (merged a b) t (x, y, p, q, sum) = totals_grow.both (linkages_of a) (linkages_of b) x y t (gives_totals a x p) (gives_totals b y q) sum

pub shares_agree : SharesAgree
shares_agree m gs t u moved gives adds = totals_are_equal (linkages_of m) gs t u moved (gives_totals m t gives) (all_added [] gs no_totals u totals_grow.none adds)
