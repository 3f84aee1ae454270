-- A text whose length no word and no stem has.
use Rattle.std.proofs.Common.{◌≡◌, ◌↔◌, ℕ, List, [], true, false, length, inl, inr, true≢false, sym, ap, subst, arith}
use Rattle.std.specs.Cmp.Lexicographic.{slice_cmp}
use Rattle.std.specs.List.Sorted.{IsStrictlySortedBy}
use Rattle.std.specs.Ordering.{nat_cmp}
use Rattle.lg_dict.specs.Changed.{changed, IsLaid}
use Rattle.lg_dict.specs.Dictionary.{Dictionary, IsWordOf, AreWordsOf}
use Rattle.lg_dict.specs.Layout.{shown, IsKept}
use Rattle.lg_dict.specs.Lengths.{has_length, NoWordHas}
use Rattle.lg_dict.specs.declared.changes.Changes.{Changes}
use Rattle.lg_dict.specs.declared.dict.Dict.TheInside.{Inside}
use Rattle.lg_dict.proofs.Changed.{where_kept}
use Rattle.lg_dict.proofs.Lengthened.{no_word}
use Rattle.lg_dict.proofs.Longest.{key_is_word}

pub none_below : (a : Inside) (dict : Dictionary) → shown a ≡ dict → IsKept a → (n : ℕ) → has_length a.lengths n ≡ false → NoWordHas dict n
none_below a dict seen kept n missing =
    subst (λ (d : Dictionary). NoWordHas d n) seen (λ word h. no_word a.lengths word n missing (kept.lengths word ((key_is_word a word).1 h)))

pub none_seen : (base seen : Dictionary) (c : Changes) → IsLaid c → changed base c ≡ seen → (n : ℕ) → NoWordHas base n → has_length c.lengths n ≡ false → NoWordHas seen n
none_seen base seen c laid is n below missing =
    subst (λ (d : Dictionary). NoWordHas d n) is
    (λ word h. elim (where_kept base c laid word h) [
      | inl named ↦ no_word c.lengths word n missing (laid.lengths word named)
      | inr kept ↦ below word kept
    ])

module _ (dict : Dictionary) (text : List ℕ) (none : NoWordHas dict (length text)) where
  pub has_no_word : (word : List ℕ) → IsWordOf dict text word → ⊥
  has_no_word word is = elim is.fits [
    | inl same ↦ (none word is.kept).0 (ap length same)
    | inr stem ↦ (none word is.kept).1 (ap length stem)
  ]

  pub has_none : (false ≡ true) ↔ ((word : List ℕ) × IsWordOf dict text word)
  has_none = (λ h. absurd (true≢false (sym h)), λ w. absurd (has_no_word w.0 w.1))

  none_rise : IsStrictlySortedBy (slice_cmp nat_cmp) []
  unfolding IsStrictlySortedBy
  none_rise = tt

  pub has_no_words : (words : List (List ℕ)) → words ≡ [] → AreWordsOf dict text words
  has_no_words words is =
      subst (AreWordsOf dict text) (sym is)
      (record { rise = none_rise; exactly = λ word. (λ h. absurd (let within = h.1 in omega arith), λ w. absurd (has_no_word word w)) })
