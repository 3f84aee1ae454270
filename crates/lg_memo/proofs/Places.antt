-- The places of shards, where one of them changes.
use Rattle.std.proofs.Common.{◌≡◌, ◌≢◌, ℕ, ◌<◌, ◌≤◌, ◌^◌, Bool, true, false, cond, eqb, eq-eqb, ne_eqb, List, [], ◌∷◌, ◌++◌, length, set, refl, ap, sym, ◌∙◌, subst, le_trans, true≢false}
use Rattle.std.specs.List.{AllByRecursion}
use Rattle.std.proofs.lemmas.Bool.{cond-true, cond-false}
use Rattle.std.proofs.lemmas.List.{get_or-set_same, get_or-set_other}
use native.Mathlib.Decide.{ℕ_discrete}
use mathlib.Core.Logic.{dite}
use mathlib.Core.Option.{Option}
use lib.ListN.{get_elem?}
use Rattle.atomic_table.specs.Table.{State}
use Rattle.atomic_table.proofs.Lists.{set_else}
use Rattle.lg_memo.specs.declared.view.Count.{Count}
use Rattle.lg_memo.specs.Views.{NoFewer}
use Rattle.lg_memo.specs.Rule.{Place, count_of, word_of, IsSlot, IsShard}
use Rattle.lg_memo.specs.Rule.Place.{home, out}

abbrev is_out : Place → Bool
is_out (home entries) = false
is_out (out seat entries) = true

abbrev seat_of : Place → ℕ
seat_of (home entries) = 0
seat_of (out seat entries) = seat

pub home_is_not_out : (p : Place) (a b seat : ℕ) → p ≡ home a → p ≡ out seat b → ⊥
home_is_not_out p a b seat at_home is_out' = true≢false (ap is_out (sym is_out' ∙ at_home))

pub one_seat : (p : Place) (a b m n : ℕ) → p ≡ out a m → p ≡ out b n → a ≡ b
one_seat p a b m n first second = ap seat_of (sym first ∙ second)

pub one_count : (p : Place) (a b m n : ℕ) → p ≡ out a m → p ≡ out b n → m ≡ n
one_count p a b m n first second = ap count_of (sym first ∙ second)

-- the places, when this shard is there
abbrev pub placed : (ℕ → Place) → ℕ → Place → ℕ → Place
placed place shard p other = cond (eqb other shard) p (place other)

pub placed_here : (place : ℕ → Place) (shard : ℕ) (p : Place) → placed place shard p shard ≡ p
placed_here place shard p = cond-true (eqb shard shard) p (place shard) (eq-eqb shard shard refl)

pub placed_else : (place : ℕ → Place) (shard : ℕ) (p : Place) (other : ℕ) → other ≢ shard → placed place shard p other ≡ place other
placed_else place shard p other apart = cond-false (eqb other shard) p (place other) (ne_eqb other shard apart)

-- a fact of all shards and their places, where one of them changes
pub each_placed : (P : ℕ → Place → Type 0) (place : ℕ → Place) (shard : ℕ) (p : Place) → P shard p → ((other : ℕ) → other ≢ shard → P other (place other)) → (other : ℕ) → P other (placed place shard p other)
each_placed P place shard p here others other = dite (ℕ_discrete other shard)
    (λ (same : other ≡ shard). subst (λ (k : ℕ). P k (placed place shard p k)) (sym same) (subst (λ (q : Place). P shard q) (sym (placed_here place shard p)) here))
    (λ (apart : other ≢ shard). subst (λ (q : Place). P other q) (sym (placed_else place shard p other apart)) (others other apart))

-- what is known of all shards is still so where one has more entries
pub known_more : (place : ℕ → Place) (shard : ℕ) (p : Place) → count_of (place shard) ≤ count_of p → (known : List Count)
    → AllByRecursion (λ (c : Count). c.entries ≤ count_of (place c.shard)) known → AllByRecursion (λ (c : Count). c.entries ≤ count_of (placed place shard p c.shard)) known
known_more place shard p more [] all = tt
known_more place shard p more (c ∷ cs) all = (
  each_placed (λ (k : ℕ) (q : Place). c.shard ≡ k → c.entries ≤ count_of q) place shard p
      (λ its. le_trans (subst (λ (k : ℕ). c.entries ≤ count_of (place k)) its all.0) more)
      (λ other _ its. subst (λ (k : ℕ). c.entries ≤ count_of (place k)) its all.0)
      c.shard refl,
  known_more place shard p more cs all.1,
)

-- what is known of all shards is known of one
pub no_fewer : (place : ℕ → Place) (shard entries : ℕ) → count_of (place shard) ≡ entries → (known : List Count)
    → AllByRecursion (λ (c : Count). c.entries ≤ count_of (place c.shard)) known → NoFewer known shard entries
no_fewer place shard entries is [] all = tt
no_fewer place shard entries is (c ∷ cs) all = (λ its. subst (λ (n : ℕ). c.entries ≤ n) (ap (λ (k : ℕ). count_of (place k)) its ∙ is) all.0, no_fewer place shard entries is cs all.1)

pub known_both : (P : Count → Type 0) (a b : List Count) → AllByRecursion P a → AllByRecursion P b → AllByRecursion P (a ++ b)
known_both P [] b first second = second
known_both P (c ∷ cs) b first second = (first.0, known_both P cs b first.1 second)

-- all shards, where the word, the slot and the place of one are set
pub shards_set : {S V : Type 0} (Good : ℕ → ℕ → S → Type 0) (count : ℕ) (s : State S V) (views : List V) (place : ℕ → Place) (shard : ℕ) (p : Place) (word : ℕ) (slot : Option S)
    → ((k : ℕ) → k < count → IsShard (Good k) s k (place k)) → shard < length s.words
    → word ≡ word_of p → IsSlot (Good shard) p (get_elem? (set s.homes shard slot) shard) → count_of p ≤ 2 ^ 62
    → (k : ℕ) → k < count → IsShard (Good k) (record { words = set s.words shard word; homes = set s.homes shard slot; views = views }) k (placed place shard p k)
shards_set {S} {V} Good count s views place shard p word slot all within is good few =
    each_placed (λ (k : ℕ) (q : Place). k < count → IsShard (Good k) (record { words = set s.words shard word; homes = set s.homes shard slot; views = views }) k q) place shard p
    (λ _. record { word = get_or-set_same s.words shard word 0 within ∙ is; slot = good; few = few })
    (λ other apart less. let r = all other less in record {
      word = get_or-set_other s.words shard other word 0 apart ∙ r.word;
      slot = subst (λ (o : Option (Option S)). IsSlot (Good other) (place other) o) (sym (set_else s.homes shard other slot apart)) r.slot;
      few = r.few;
    })
