-- The words of a token with their formulas.
use Rattle.std.proofs.Common.{◌≡◌, ℕ, ◌+◌, ◌<◌, List, [], ◌∷◌, ◌++◌, length, get_or, take, Contains, Option, Some, None, inl, inr, refl, sym, ap, ◌∙◌, subst}
use Rattle.std.specs.FinMap.{get}
use Rattle.std.proofs.lemmas.List.{append-nil, append_assoc, take_more}
use Rattle.std.proofs.lemmas.List.Elements.{All-nil, All-cons, All-append, Contains-append_left, Contains-append_right, Contains-append_cases}
use Rattle.lg_base.proofs.Elements.{contains_here, contains_later, contains_cases, contains_none}
use Rattle.lg_gram.specs.Trees.{Tree}
use Rattle.lg_dict.specs.Dictionary.{Dictionary}
use Rattle.lg_disj.specs.Exist.{HasNames}
use Rattle.lg_eprune.specs.Live.{WordTree}
use Rattle.lg_answer.specs.Steps.{of_word, word_trees, AreWordTrees, AddsTree}

of_word_out : (w : List ℕ) (o : Option Tree) (v : WordTree) → Contains (of_word w o) v → (w ≡ v.word) × (o ≡ Some v.tree)
of_word_out w None v h = absurd (contains_none v h)
of_word_out w (Some t) v h =
    elim (contains_cases (record { word = w; tree = t }) [] v h) [
      | inl same ↦ (ap (λ (z : WordTree). z.word) same, ap (λ (z : WordTree). Some z.tree) same)
      | inr others ↦ absurd (contains_none v others)
    ]

module _ (dict : Dictionary) where
  pub trees_out : (words : List (List ℕ)) (v : WordTree) → Contains (word_trees dict words) v → Contains words v.word × (get dict.words v.word ≡ Some v.tree)
  trees_out [] v h = absurd (contains_none v h)
  trees_out (w ∷ words) v h =
      elim (Contains-append_cases (of_word w (get dict.words w)) (word_trees dict words) v h) [
        | inl a ↦ (let o = of_word_out w (get dict.words w) v a in (subst (Contains (w ∷ words)) o.0 (contains_here w words), ap (get dict.words) (sym o.0) ∙ o.1))
        | inr b ↦ (let r = trees_out words v b in (contains_later w words v.word r.0, r.1))
      ]

  pub trees_in : (words : List (List ℕ)) (w : List ℕ) (t : Tree) → Contains words w → get dict.words w ≡ Some t → Contains (word_trees dict words) (record { word = w; tree = t })
  trees_in [] w t h got = absurd (contains_none w h)
  trees_in (u ∷ words) w t h got =
      elim (contains_cases u words w h) [
        | inl same ↦ Contains-append_left (of_word u (get dict.words u)) (word_trees dict words) (record { word = w; tree = t })
            (subst (λ x. Contains (of_word x (get dict.words x)) (record { word = w; tree = t })) (sym same)
            (subst (λ o. Contains (of_word w o) (record { word = w; tree = t })) (sym got) (contains_here (record { word = w; tree = t }) [])))
        | inr others ↦ Contains-append_right (of_word u (get dict.words u)) (word_trees dict words) (record { word = w; tree = t }) (trees_in words w t others got)
      ]

  -- one word more of a token
  pub trees_none : AreWordTrees dict [] []
  trees_none = record { are = refl; named = All-nil (λ (v : WordTree). HasNames v.tree) }

  trees_append : (us vs : List (List ℕ)) → word_trees dict (us ++ vs) ≡ word_trees dict us ++ word_trees dict vs
  trees_append [] vs = refl
  trees_append (u ∷ us) vs =
      ap (λ ws. of_word u (get dict.words u) ++ ws) (trees_append us vs) ∙ sym (append_assoc (of_word u (get dict.words u)) (word_trees dict us) (word_trees dict vs))

  pub trees_step : (words : List (List ℕ)) (i : ℕ) (w : List ℕ) (old new : List WordTree) → i < length words → w ≡ get_or words i w
      → AreWordTrees dict (take i words) old → AddsTree dict w old new → AreWordTrees dict (take (i + 1) words) new
  trees_step words i w old new less here before adds =
      let longer : take (i + 1) words ≡ take i words ++ w ∷ [] = take_more words i w less ∙ ap (λ v. take i words ++ v ∷ []) (sym here) in
      rw (longer, adds.grown) (record {
        are = (λ k. before.are k ++ adds.found.are k) ∙ sym (trees_append (take i words) (w ∷ []));
        named = All-append (λ (v : WordTree). HasNames v.tree) old adds.more before.named adds.found.named;
      })

  pub trees_found : (w : List ℕ) (t : Tree) → get dict.words w ≡ Some t → HasNames t → AreWordTrees dict (w ∷ []) (record { word = w; tree = t } ∷ [])
  trees_found w t got named = record {
    are = sym (append-nil (of_word w (Some t))) ∙ ap (λ o. of_word w o ++ []) (sym got);
    named = All-cons (λ (v : WordTree). HasNames v.tree) (record { word = w; tree = t }) [] named (All-nil (λ (v : WordTree). HasNames v.tree));
  }

  pub trees_absent : (w : List ℕ) → get dict.words w ≡ None → AreWordTrees dict (w ∷ []) []
  trees_absent w none_got = record { are = ap (λ o. of_word w o ++ []) (sym none_got); named = All-nil (λ (v : WordTree). HasNames v.tree) }
