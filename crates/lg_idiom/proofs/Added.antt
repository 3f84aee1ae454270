-- What the chains add to a position.
use Rattle.std.proofs.Common.{◌≡◌, ◌↔◌, ℕ, ◌-◌, ◌<◌, List, [], ◌∷◌, All, true, length, map, filter, IfOk, Result, Ok, Err, Contains, refl, sym, ap, subst, ◌∙◌, arith}
use Rattle.std.specs.List.Sorted.{IsStrictlySortedBy}
use Rattle.std.specs.Option.{option_map}
use Rattle.std.proofs.lemmas.Bool.Decides.{nat_tests}
use Rattle.std.proofs.lemmas.List.{length-map}
use Rattle.std.proofs.lemmas.List.Elements.{All-weaker, All-contains_itself}
use Rattle.std.proofs.lemmas.List.Kept.{IsStrictlySortedBy-filter}
use Rattle.std.proofs.lemmas.Option.{same_Some, slice_get_within, slice_get-map}
use Rattle.lg_base.proofs.Elements.{filter_in, filter_out}
use Rattle.lg_gram.specs.Trees.{Tree}
use Rattle.lg_gram.specs.declared.listing.Token.{Token}
use Rattle.lg_dict.specs.Dictionary.{Dictionary}
use Rattle.lg_eprune.specs.Live.{WordTree}
use Rattle.lg_idiom.specs.Idioms.{Chain, Covers, formula_at, word_cmp}
use Rattle.lg_idiom.specs.Sentences.{AddIdioms, AreTakenOf, AreAddedTo, LiesWithin, added_at}
use Rattle.lg_idiom.specs.Steps.{covers, added_by}

pub covers-is : (p : ℕ) (c : Chain) → covers p c ≡ true → Covers c p
covers-is p c h = grind (arith, nat_tests)

pub is-covers : (p : ℕ) (c : Chain) → Covers c p → covers p c ≡ true
is-covers p c h = grind (arith, nat_tests)

abbrev pair : WordTree → List ℕ × Tree
pair w = (w.word, w.tree)

pairs_are : (p : ℕ) (cs : List Chain) → map pair (map (added_by p) cs) ≡ map (λ c. (c.word, formula_at c (p - c.start))) cs
pairs_are p [] = refl
pairs_are p (c ∷ cs) = ap (λ l. (c.word, formula_at c (p - c.start)) ∷ l) (pairs_are p cs)

pub adds : (dict : Dictionary) (tokens : List Token) (some sorted : List Chain) (positions : List (List WordTree)) → AreTakenOf dict tokens some → IsStrictlySortedBy word_cmp sorted
    → ((c : Chain) → Contains sorted c ↔ Contains some c) → AreAddedTo sorted (length tokens) positions → AddIdioms dict tokens positions
adds dict tokens some sorted positions of rise same added = record {
  chains = of.chains;
  taken = some;
  all = of.all;
  are_taken = of.are_taken;
  same_length = length-map positions (map pair) ∙ added.all;
  each = λ p words at. (
      let within = slice_get_within (map (map pair) positions) p words at in
      let low : p < length tokens = omega (arith, within, length-map positions (map pair), added.all) in
      let is : map pair (added_at sorted p) ≡ words = same_Some _ words (sym (slice_get-map (map pair) positions p ∙ ap (option_map (map pair)) (added.each p low)) ∙ at) in
      record {
        here = filter (covers p) sorted;
        rise = IsStrictlySortedBy-filter word_cmp (covers p) sorted rise;
        exactly = λ c. (
          λ m. (let kept = filter_out (covers p) sorted c m in ((same c).0 kept.0, covers-is p c kept.1)),
          λ m. filter_in (covers p) sorted c ((same c).1 m.0) (is-covers p c m.1),
        );
        are = sym is ∙ pairs_are p (filter (covers p) sorted);
      }
      );
}

-- the same of what is read through the calls
pub adds_if : {E : Type 0} (dict : Dictionary) (own tokens : List Token) (some sorted read : List Chain) (count : ℕ) (r : Result (List (List WordTree)) E) → own ≡ tokens → read ≡ sorted
    → count ≡ length tokens → AreTakenOf dict own some → IsStrictlySortedBy word_cmp sorted → ((c : Chain) → Contains sorted c ↔ Contains some c) → IfOk r (AreAddedTo read count) → IfOk r (AddIdioms dict tokens)
adds_if dict own tokens some sorted read count (Err e) tokens_are read_is counted of rise same added = tt
adds_if dict own tokens some sorted read count (Ok positions) tokens_are read_is counted of rise same added =
    adds dict tokens some sorted positions (subst (λ ts. AreTakenOf dict ts some) tokens_are of) rise same
    (subst (λ cs. AreAddedTo cs (length tokens) positions) read_is (subst (λ n. AreAddedTo read n positions) counted added))

pub all_within : (some sorted read : List Chain) (count end : ℕ) → ((c : Chain) → Contains sorted c ↔ Contains some c) → read ≡ sorted → count ≡ end → ((c : Chain) → Contains some c → LiesWithin count c) → All (LiesWithin end) read
all_within some sorted read count end same read_is counted within =
    All-weaker (Contains read) (LiesWithin end) (λ c m. subst (λ n. LiesWithin n c) counted (within c ((same c).0 (subst (λ cs. Contains cs c) read_is m)))) read (All-contains_itself read)
