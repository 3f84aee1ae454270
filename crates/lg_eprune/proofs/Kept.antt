-- Words of which some choices went, and no live one.
use Rattle.std.proofs.Common.{◌≡◌, ℕ, inl, inr, refl, sym, subst, Bool, true, Option, Some, None, List, [], ◌∷◌, Contains}
use Rattle.std.specs.List.{filter}
use Rattle.std.specs.Option.{option_map}
use Rattle.lg_gram.specs.Connectors.{Connector}
use Rattle.lg_gram.specs.Trees.{Tree}
use Rattle.lg_gram.specs.Measures.{Choice, choices_of}
use Rattle.lg_eprune.specs.Live.{WordTree, IsLiveChoice, Narrows, nothing, kept, dropped}
use Rattle.lg_eprune.specs.Cuts.{cut, cut_words, with_word}
use Rattle.lg_base.proofs.Elements.{contains_cases, contains_none, contains_here, contains_later, filter_in, filter_out}
use Rattle.lg_eprune.proofs.Choices.{passes, left_choices, cut_choices}

abbrev Chosen : Tree → Choice → Type 0
Chosen t c = Contains (choices_of t) c

-- the new words have choices of the old ones, in order, and each live choice
pub data Kept (Live : Choice → Type 0) : List WordTree → List WordTree → Type 0 where
  no_words : Kept Live [] []
  one_kept : (old new : WordTree) (olds news : List WordTree) → new.word ≡ old.word → ((c : Choice) → Contains (choices_of new.tree) c → Contains (choices_of old.tree) c)
      → ((c : Choice) → Contains (choices_of old.tree) c → Live c → Contains (choices_of new.tree) c) → Kept Live olds news → Kept Live (old ∷ olds) (new ∷ news)
  one_gone : (old : WordTree) (olds news : List WordTree) → ((c : Choice) → Contains (choices_of old.tree) c → Live c → ⊥) → Kept Live olds news → Kept Live (old ∷ olds) news

pub kept_itself : (Live : Choice → Type 0) (ws : List WordTree) → Kept Live ws ws
kept_itself Live [] = no_words
kept_itself Live (w ∷ ws) = one_kept w w ws ws refl (λ c h. h) (λ c h live. h) (kept_itself Live ws)

module _ (Live : Choice → Type 0) (test : Connector → Bool) (all_pass : (c : Choice) → Live c → passes test c ≡ true) where
  cut_one : (old new : WordTree) (olds rest : List WordTree) (o : Option Tree) → left_choices o ≡ filter (passes test) (choices_of new.tree) → new.word ≡ old.word
      → ((c : Choice) → Contains (choices_of new.tree) c → Contains (choices_of old.tree) c) → ((c : Choice) → Contains (choices_of old.tree) c → Live c → Contains (choices_of new.tree) c)
      → Kept Live olds rest → Kept Live (old ∷ olds) (with_word (option_map (λ (t : Tree). record { word = new.word; tree = t }) o) rest)
  cut_one old new olds rest None is named less more others =
      one_gone old olds rest
      (λ c h live. contains_none c (subst (λ cs. Contains cs c) (sym is) (filter_in (passes test) (choices_of new.tree) c (more c h live) (all_pass c live)))) others
  cut_one old new olds rest (Some t) is named less more others =
      one_kept old (record { word = new.word; tree = t }) olds rest named
      (λ c h. less c (filter_out (passes test) (choices_of new.tree) c (subst (λ cs. Contains cs c) is h)).0)
      (λ c h live. subst (λ cs. Contains cs c) (sym is) (filter_in (passes test) (choices_of new.tree) c (more c h live) (all_pass c live))) others

  pub kept_cut : (olds news : List WordTree) → Kept Live olds news → Kept Live olds (cut_words test news)
  kept_cut _ _ no_words = no_words
  kept_cut _ _ (one_kept old new olds news named less more others) =
      cut_one old new olds (cut_words test news) (cut test new.tree) (cut_choices test new.tree) named less more (kept_cut olds news others)
  kept_cut _ _ (one_gone old olds news none others) = one_gone old olds (cut_words test news) none (kept_cut olds news others)

-- where a live choice is now
pub kept_finds : (Live : Choice → Type 0) (olds news : List WordTree) → Kept Live olds news → (w : WordTree) (c : Choice) → Contains olds w → Contains (choices_of w.tree) c → Live c
    → (v : WordTree) × Contains news v × Contains (choices_of v.tree) c
kept_finds Live _ _ no_words w c m h live = absurd (contains_none w m)
kept_finds Live _ _ (one_kept old new olds news named less more others) w c m h live =
    elim (contains_cases old olds w m) [
      | inl same ↦ (new, contains_here new news, more c (subst (λ x. Contains (choices_of x.tree) c) (sym same) h) live)
      | inr later ↦ (let (v, is, has) = kept_finds Live olds news others w c later h live in (v, contains_later new news v is, has))
    ]
kept_finds Live _ _ (one_gone old olds news none others) w c m h live =
    elim (contains_cases old olds w m) [
      | inl same ↦ absurd (none c (subst (λ x. Contains (choices_of x.tree) c) (sym same) h) live)
      | inr later ↦ kept_finds Live olds news others w c later h live
    ]

-- where a choice comes from
pub kept_from : (Live : Choice → Type 0) (olds news : List WordTree) → Kept Live olds news → (w : WordTree) (c : Choice) → Contains news w → Contains (choices_of w.tree) c
    → (v : WordTree) × Contains olds v × Contains (choices_of v.tree) c
kept_from Live _ _ no_words w c m h = absurd (contains_none w m)
kept_from Live _ _ (one_kept old new olds news named less more others) w c m h =
    elim (contains_cases new news w m) [
      | inl same ↦ (old, contains_here old olds, less c (subst (λ x. Contains (choices_of x.tree) c) (sym same) h))
      | inr later ↦ (let (v, is, has) = kept_from Live olds news others w c later h in (v, contains_later old olds v is, has))
    ]
kept_from Live _ _ (one_gone old olds news none others) w c m h =
    let (v, is, has) = kept_from Live olds news others w c m h in (v, contains_later old olds v is, has)

-- at the end each choice is live, and each word has one
pub narrowed : (positions : List (List WordTree)) (i : ℕ) (olds news : List WordTree) → Kept (IsLiveChoice positions i) olds news
    → ((w : WordTree) (c : Choice) → Contains news w → Contains (choices_of w.tree) c → IsLiveChoice positions i c)
    → ((w : WordTree) → Contains news w → (c : Choice) × Contains (choices_of w.tree) c) → Narrows positions i olds news
narrowed positions i _ _ no_words live some = nothing
narrowed positions i _ _ (one_kept old new olds news named less more others) live some =
    let first = contains_here new news in
    let (c, is) = some new first in
    kept old new olds news named (λ x. (λ h. (less x h, live new x first h), λ p. more x p.0 p.1)) c is
    (narrowed positions i olds news others (λ w x m. live w x (contains_later new news w m)) (λ w m. some w (contains_later new news w m)))
narrowed positions i _ _ (one_gone old olds news none others) live some = dropped old olds news none (narrowed positions i olds news others live some)
