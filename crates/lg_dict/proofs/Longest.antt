-- The longest word, and that a text longer than it is none.
use Rattle.std.proofs.Common.{◌≡◌, ◌↔◌, ℕ, ◌<◌, ◌≤◌, List, [], ◌∷◌, ◌++◌, cond, length, max, Contains, IsSome, Option, Some, None, inl, inr, refl, sym, ap, subst, ◌∙◌, arith}
use mathlib.Core.Logic.{⊎_elim}
use Rattle.std.proofs.lemmas.Bool.{cases_lt, cases_order}
use Rattle.std.proofs.lemmas.List.Elements.{Contains-append_left, Contains-append_right, Contains-push_cases}
use Rattle.std.specs.declared.cmp.Ordering.TheVariants.{Less, Equal, Greater}
use Rattle.std.specs.Ordering.{nat_cmp, ord_max, is_lt}
use Rattle.std.specs.Cmp.{nat_cmp_is}
use Rattle.std.specs.FinMap.{get}
use Rattle.lg_gram.specs.Trees.{Tree}
use Rattle.lg_dict.specs.Dictionary.{Dictionary, IsLongest, IsLongestWord, NoWordIsLonger}
use Rattle.lg_dict.specs.Tables.{text_keys}
use Rattle.lg_dict.specs.Layout.{shown, IsKept}
use Rattle.lg_dict.specs.declared.dict.Dict.TheInside.{Inside}
use Rattle.lg_dict.proofs.Words.{known, Contains-among}

-- of one more text

pub ord_max_is : (a b : ℕ) → ord_max nat_cmp a b ≡ max a b
ord_max_is a b = elim (cases_order a b) [
  | inl same ↦ ap (λ o. cond (is_lt o) a b) (sym (nat_cmp_is b a Equal (sym same))) ∙ omega arith
  | inr (inl less) ↦ ap (λ o. cond (is_lt o) a b) (sym (nat_cmp_is b a Greater less)) ∙ omega arith
  | inr (inr more) ↦ ap (λ o. cond (is_lt o) a b) (sym (nat_cmp_is b a Less more)) ∙ omega arith
]

pub longest-more : (xs : List (List ℕ)) (x : List ℕ) (n m : ℕ) → m ≡ max n (length x) → IsLongest (Contains xs) n → IsLongest (Contains (xs ++ x ∷ [])) m
longest-more xs x n m is so_far = record {
  bounds = λ text h. elim (Contains-push_cases xs x text h) [
    | inl here ↦ let low = so_far.bounds text here in omega arith
    | inr same ↦ subst (λ t. length t ≤ m) same (omega arith)
  ];
  reached = ⊎_elim
      (λ less. inr (x, Contains-append_right xs (x ∷ []) x (0, omega arith, refl), omega arith))
      (λ more. elim so_far.reached [
        | inl none ↦ inl (omega arith)
        | inr one ↦ inr (one.0, Contains-append_left xs (x ∷ []) one.0 one.1, let same = one.2 in omega arith)
      ])
      (cases_lt n (length x));
}

-- of the words of a dictionary, which are the keys of its table

longest-same : (P Q : List ℕ → Type 0) (n : ℕ) → ((text : List ℕ) → P text ↔ Q text) → IsLongest P n → IsLongest Q n
longest-same P Q n same is = record {
  bounds = λ text h. is.bounds text ((same text).1 h);
  reached = elim is.reached [
    | inl none ↦ inl none
    | inr one ↦ inr (one.0, (same one.0).0 one.1, one.2)
  ];
}

pub key_is_word : (a : Inside) (word : List ℕ) → Contains (text_keys a.words) word ↔ IsSome (get (shown a).words word)
key_is_word a word = (λ h. known a word ∙ (Contains-among (text_keys a.words) word).0 h, λ h. (Contains-among (text_keys a.words) word).1 (sym (known a word) ∙ h))

pub longest_seen : (a : Inside) (dict : Dictionary) → shown a ≡ dict → IsKept a → IsLongestWord dict a.longest
longest_seen a dict seen kept =
    subst (λ d. IsLongestWord d a.longest) seen
    (longest-same (Contains (text_keys a.words)) (λ word. IsSome (get (shown a).words word)) a.longest (key_is_word a) kept.longest)

-- a text that is longer

module _ (dict : Dictionary) (n : ℕ) (bounds : NoWordIsLonger dict n) (text : List ℕ) (longer : n < length text) where
  no_value : (found : Option Tree) → (IsSome found → ⊥) → None ≡ found
  no_value None none = refl
  no_value (Some t) none = absurd (none refl)

  pub is_missing : None ≡ get dict.words text
  is_missing = no_value (get dict.words text) (λ h. let most : length text ≤ n = bounds text h in omega arith)
