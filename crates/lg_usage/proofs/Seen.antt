-- Stored numbers as the tallies that contracts see.
use Rattle.std.proofs.Common.{◌≡◌, ℕ, ◌+◌, ◌≤◌, List, Vec, Result, Ok, Err, OnErr, subst, sym, ◌∙◌, arith}
use Rattle.std.specs.Ordering.{nat_cmp}
use Rattle.std.specs.Cmp.Lexicographic.{slice_cmp}
use Rattle.lg_gram.specs.Linkages.{Linkage}
use Rattle.std.specs.BTreeMap.{BTreeMap}
use Rattle.std.specs.FinMap.{empty, get-empty}
use Rattle.lg_usage.specs.Totals.{Tally, Totals, no_totals, count_in, AddsTexts, Adds, IsSumOfTallies, IsSum, HasRoomFor, HaveNoZero, MayBeAdded, GREATEST}
use Rattle.lg_usage.specs.Stored.{tally_of, OnlyMakesRoom, RaisesAll, Counts, AreSmall}
use Rattle.lg_usage.proofs.Tallies.{same_tally, counted, none_zero}

module _ {A : Type 0} where
  -- the tally that is stored in a map
  abbrev pub seen : BTreeMap (Vec ℕ A) ℕ → Tally
  seen m = tally_of m.entries

  -- places are not seen
  pub same_seen : (m n : BTreeMap (Vec ℕ A) ℕ) → OnlyMakesRoom m n → seen n ≡ seen m
  same_seen m n room = same_tally (seen n) (seen m) (none_zero n.entries) (none_zero m.entries) (λ text. counted n.entries text ∙ room.same text ∙ sym (counted m.entries text))

  -- what may be added may still be added when there is room
  pub still_small : (m others n : BTreeMap (Vec ℕ A) ℕ) → OnlyMakesRoom m n → ((text : List ℕ) → count_in (seen m) text + count_in (seen others) text ≤ GREATEST) → AreSmall n others
  still_small m others n room small text = grind (arith, small text, counted m.entries text, counted others.entries text, room.same text)

  -- the numbers of both together
  pub summed : (m others room n : BTreeMap (Vec ℕ A) ℕ) → OnlyMakesRoom m room → RaisesAll room others n → IsSumOfTallies (seen m) (seen others) (seen n)
  summed m others room n made raised = record {
    counts = λ text. counted n.entries text ∙ grind (arith, raised text, made.same text, counted m.entries text, counted others.entries text);
    only = none_zero n.entries;
  }

  -- counted texts beside none
  pub counts_alone : (texts : List (List ℕ)) (m : BTreeMap (Vec ℕ A) ℕ) → Counts m texts → AddsTexts empty texts (seen m)
  counts_alone texts m counts = record {
    counts = λ text. grind (arith, counts text, counted m.entries text, get-empty {X = ℕ} (slice_cmp nat_cmp) text);
    only = none_zero m.entries;
  }

abbrev pub totals : Tally → Tally → Totals
totals words labels = record { words = words; labels = labels }

-- what is seen has no zero
pub none_seen : {A : Type 0} (words labels : BTreeMap (Vec ℕ A) ℕ) → HaveNoZero (totals (seen words) (seen labels))
none_seen words labels = record { words = none_zero words.entries; labels = none_zero labels.entries }

pub on_err : {T E P : Type 0} (r : Result T E) → P → OnErr r P
on_err (Ok x) h = tt
on_err (Err e) h = h

-- the same of equal totals
pub may_still : (a b x y : Totals) → x ≡ a → y ≡ b → MayBeAdded a b → MayBeAdded x y
may_still a b x y p q may = subst (λ x. MayBeAdded x y) (sym p) (subst (λ y. MayBeAdded a y) (sym q) may)

-- there is room for the share of one linkage
pub share_fits : (t share : Totals) (g : Linkage) → HasRoomFor t g → Adds no_totals g share → MayBeAdded t share
share_fits t share g room one = record {
  words = λ text. grind (arith, room.words text, one.words.counts text, get-empty {X = ℕ} (slice_cmp nat_cmp) text);
  labels = λ text. grind (arith, room.labels text, one.labels.counts text, get-empty {X = ℕ} (slice_cmp nat_cmp) text);
}

-- to add the share of one linkage adds the linkage
pub share_adds : (t share new : Totals) (g : Linkage) → Adds no_totals g share → IsSum t share new → Adds t g new
share_adds t share new g one sum = record {
  words = record { counts = λ text. grind (arith, sum.words.counts text, one.words.counts text, get-empty {X = ℕ} (slice_cmp nat_cmp) text); only = sum.words.only };
  labels = record { counts = λ text. grind (arith, sum.labels.counts text, one.labels.counts text, get-empty {X = ℕ} (slice_cmp nat_cmp) text); only = sum.labels.only };
}
