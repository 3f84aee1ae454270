-- Each token has a list of words.
use Rattle.std.proofs.Common.{◌≡◌, ◌⊎◌, inl, inr, ◌↔◌, ◌<◌, ℕ, zero, suc, List, [], ◌∷◌, Bool, true, false, ◌&&◌, ◌||◌, map, filter, Contains, refl, sym, ap, subst, ◌∙◌, true≢false, arith}
use mathlib.Core.Logic.{⊎_elim}
use Rattle.std.specs.Prelude.{T, IsSome}
use Rattle.std.specs.declared.cmp.Ordering.{Ordering}
use Rattle.std.specs.declared.cmp.Ordering.TheVariants.{Less, Equal, Greater}
use Rattle.std.specs.Ordering.{nat_cmp, is_lt, eq_by_cmp}
use Rattle.std.specs.Cmp.{eq_by_cmp_equiv}
use Rattle.std.specs.Cmp.Lexicographic.{slice_cmp, nat_list_cmp_total, nat_list_eq_equiv, texts_ties, bytes_decides}
use Rattle.std.specs.List.{AllByRecursion}
use Rattle.std.specs.List.Sorted.{IsStrictlySortedBy}
use Rattle.std.specs.FinMap.{get, keys, entries, entries_sorted, contains_key-keys}
use Rattle.std.specs.FinMap.Entries.{below_all, is_sorted}
use Rattle.std.proofs.lemmas.Bool.{cases_eq}
use Rattle.std.proofs.lemmas.List.Kept.{IsStrictlySortedBy-filter}
use Rattle.std.proofs.lemmas.Map.Views.{list_any-from_Contains, Contains-from_any}
use Rattle.lg_gram.specs.Trees.{Tree}
use Rattle.lg_dict.specs.Dictionary.{Dictionary, TextMap, AreWordsOf}
use Rattle.lg_dict.specs.Subscripts.{stem_of}
use Rattle.lg_dict.specs.Tables.{same_text}
use Rattle.lg_token.proofs.Members.{here, nowhere, Contains-filter}
use Rattle.lg_token.specs.Words.{Has}

-- a fact or its denial
abbrev pub Decided : Type 0 → Type 0
Decided P = P ⊎ (P → ⊥)

-- the words of a dictionary rise

both : (a b : Bool) → T (a && b) → T a × T b
both true b h = (tt, h)
both false b h = absurd h

less : (o : Ordering) → T (is_lt o) → o ≡ Less
less Less h = refl
less Equal h = absurd h
less Greater h = absurd h

module _ {K X : Type 0} (R : K → K → Ordering) where
  above_first : (k : K) (es : List (K × X)) → T (below_all R k es) → AllByRecursion (λ y. R k y ≡ Less) (map (λ e. e.0) es)
  above_first k [] h = tt
  above_first k (e ∷ es) h = let parts = both (is_lt (R k e.0)) (below_all R k es) h in (less (R k e.0) parts.0, above_first k es parts.1)

  keys_rise : (es : List (K × X)) → T (is_sorted R es) → IsStrictlySortedBy R (map (λ e. e.0) es)
  unfolding IsStrictlySortedBy
  keys_rise [] h = tt
  keys_rise (e ∷ es) h = let parts = both (below_all R e.0 es) (is_sorted R es) h in (above_first e.0 es parts.0, keys_rise es parts.1)

tied_texts : (a b : List ℕ) → eq_by_cmp (slice_cmp nat_cmp) a b ≡ true → a ≡ b
tied_texts a b h = (bytes_decides a b).0 (texts_ties a b ∙ h)

Contains-keys : (m : TextMap Tree) (word : List ℕ) → Contains (keys m) word ↔ IsSome (get m word)
Contains-keys m word = (
  λ h. contains_key-keys m word ∙ list_any-from_Contains (eq_by_cmp_equiv nat_list_cmp_total) word (keys m) h,
  λ h. Contains-from_any tied_texts word (keys m) (sym (contains_key-keys m word) ∙ h),
)

-- whether a word equals the text or has it as stem
abbrev is_of : List ℕ → List ℕ → Bool
is_of text word = same_text word text || same_text text (stem_of word)

or_cases : (a b : Bool) → (a || b) ≡ true → (a ≡ true) ⊎ (b ≡ true)
or_cases true b h = inl refl
or_cases false b h = inr h

or_true : (a : Bool) → (a || true) ≡ true
or_true true = refl
or_true false = refl

pub same_itself : (a b : List ℕ) → a ≡ b → same_text a b ≡ true
same_itself a b e = subst (λ t. same_text a t ≡ true) e (nat_list_eq_equiv.refl a)

is_of-fits : (text word : List ℕ) → (is_of text word ≡ true) ↔ ((word ≡ text) ⊎ (stem_of word ≡ text))
is_of-fits text word = (
  λ h. ⊎_elim (λ same. inl ((bytes_decides word text).0 same)) (λ stem. inr (sym ((bytes_decides text (stem_of word)).0 stem))) (or_cases (same_text word text) (same_text text (stem_of word)) h),
  λ h. ⊎_elim (λ same. ap (λ b. b || same_text text (stem_of word)) (same_itself word text same)) (λ stem. ap (λ b. same_text word text || b) (same_itself text (stem_of word) (sym stem)) ∙ or_true (same_text word text)) h,
)

abbrev pub words_of : Dictionary → List ℕ → List (List ℕ)
words_of dict text = filter (is_of text) (keys dict.words)

pub words_of-AreWordsOf : (dict : Dictionary) (text : List ℕ) → AreWordsOf dict text (words_of dict text)
words_of-AreWordsOf dict text = record {
  rise = IsStrictlySortedBy-filter (slice_cmp nat_cmp) (is_of text) (keys dict.words) (keys_rise (slice_cmp nat_cmp) (entries dict.words) (entries_sorted dict.words));
  exactly = λ word. (
    λ h. let both = (Contains-filter (is_of text) (keys dict.words) word).0 h in record { kept = (Contains-keys dict.words word).0 both.0; fits = (is_of-fits text word).0 both.1 },
    λ is. (Contains-filter (is_of text) (keys dict.words) word).1 ((Contains-keys dict.words word).1 is.kept, (is_of-fits text word).1 is.fits),
  );
}

has_among : (dict : Dictionary) (text : List ℕ) (words : List (List ℕ)) → AreWordsOf dict text words → Decided (Has dict text)
has_among dict text [] are = inr (λ h. nowhere h.0 ((are.exactly h.0).1 h.1))
has_among dict text (w ∷ ws) are = inl (w, (are.exactly w).0 (here w ws))

pub has_decided : (dict : Dictionary) (text : List ℕ) → Decided (Has dict text)
has_decided dict text = has_among dict text (words_of dict text) (words_of-AreWordsOf dict text)

-- tests and facts that can be decided

pub test_decided : (b : Bool) → Decided (b ≡ true)
test_decided true = inl refl
test_decided false = inr (λ e. true≢false (sym e))

pub both_decided : {P Q : Type 0} → Decided P → Decided Q → Decided (P × Q)
both_decided (inl p) (inl q) = inl (p, q)
both_decided (inl p) (inr none) = inr (λ h. none h.1)
both_decided (inr none) q = inr (λ h. none h.0)

pub decided_as : {P Q : Type 0} → (P → Q) → (Q → P) → Decided P → Decided Q
decided_as to from (inl p) = inl (to p)
decided_as to from (inr none) = inr (λ q. none (from q))

pub some_below : {P : ℕ → Type 0} → ((k : ℕ) → Decided (P k)) → (n : ℕ) → Decided ((k : ℕ) × (k < n) × P k)
some_below each zero = inr (λ h. let less = h.1 in omega arith)
some_below {P} each (suc n) =
    ⊎_elim (λ earlier. inl (earlier.0, (let less = earlier.1 in omega arith), earlier.2))
    (λ never. ⊎_elim (λ here. inl (n, omega arith, here)) (λ not. inr (not_below never not)) (each n))
    (some_below each n)
  where
    not_below : (((k : ℕ) × (k < n) × P k) → ⊥) → (P n → ⊥) → ((k : ℕ) × (k < suc n) × P k) → ⊥
    not_below never not (k, less, is) = ⊎_elim (λ (same : k ≡ n). not (subst P same is)) (λ (other : k ≡ n → ⊥). never (k, (omega arith), is)) (cases_eq k n)
