-- A loop over the positions.
use Rattle.std.proofs.Common.{◌≡◌, ◌∙◌, refl, sym, ap, Bool, true, false, not, ◌||◌, List, [], ◌∷◌, ◌++◌, append_assoc}
use Rattle.std.specs.Option.{option_map}
use Rattle.lg_gram.specs.Connectors.{Connector}
use Rattle.lg_gram.specs.Trees.{Tree}
use Rattle.lg_eprune.specs.Live.{WordTree}
use Rattle.lg_eprune.specs.Cuts.{cut_words, with_word, do_lose, is_whole, is_met, stays, swept, sweep_loses, word_leaves, IsSeen, Lists}
use Rattle.lg_eprune.proofs.Bounds.{cut_keeps}
use Rattle.lg_eprune.proofs.Listed.{tests_same, more_seen}

or_assoc : (a b c : Bool) → ((a || b) || c) ≡ (a || (b || c))
or_assoc true b c = refl
or_assoc false b c = refl

module _ (test : Connector → Bool) (done rest all : List WordTree) (w : WordTree) where
  -- a word of which nothing goes
  pub word_kept : is_whole test w.tree ≡ true → done ++ cut_words test (w ∷ rest) ≡ all → (done ++ w ∷ []) ++ cut_words test rest ≡ all
  word_kept whole is =
      append_assoc done (w ∷ []) (cut_words test rest)
      ∙ ap (λ o. done ++ with_word (option_map (λ (t : Tree). record { word = w.word; tree = t }) o) (cut_words test rest)) (sym (cut_keeps test w.tree whole)) ∙ is

pub lost_kept : (test : Connector → Bool) (less all : Bool) (w : WordTree) (rest : List WordTree) → is_whole test w.tree ≡ true → (less || do_lose test (w ∷ rest)) ≡ all → (less || do_lose test rest) ≡ all
lost_kept test less all w rest whole is = ap (λ b. less || (not b || do_lose test rest)) (sym whole) ∙ is

-- what is known after some positions
abbrev pub Told : Bool → List (List Connector) → List (List WordTree) → Bool → List (List WordTree) → List (List WordTree) → Type 0
Told right table done less rest all = (known : List Connector) × IsSeen table known × (done ++ swept right known rest ≡ swept right [] all) × ((less || sweep_loses right known rest) ≡ sweep_loses right [] all)

module _ (right : Bool) (old new : List (List Connector)) where
  -- one more position
  pub told_more : (done rest all : List (List WordTree)) (ws kept : List WordTree) (less loses : Bool) → kept ≡ cut_words (is_met right old) ws → loses ≡ do_lose (is_met right old) ws → Lists old (word_leaves right kept) new
      → Told right old done less (ws ∷ rest) all → Told right new (done ++ kept ∷ []) (less || loses) rest all
  told_more done rest all ws kept less loses is lost lists (known, seen, told, loss) =
      let test = tests_same right old known seen in
      let same : kept ≡ cut_words (stays right known) ws = is ∙ ap (λ f. cut_words f ws) test in
      let flag : loses ≡ do_lose (stays right known) ws = lost ∙ ap (λ f. do_lose f ws) test in (
        known ++ word_leaves right kept,
        more_seen old new known (word_leaves right kept) seen lists,
        append_assoc done (kept ∷ []) (swept right (known ++ word_leaves right kept) rest) ∙ ap (λ k. done ++ k ∷ swept right (known ++ word_leaves right k) rest) same ∙ told,
        or_assoc less loses (sweep_loses right (known ++ word_leaves right kept) rest)
            ∙ (λ i. less || (flag i || sweep_loses right (known ++ word_leaves right (same i)) rest)) ∙ loss,
      )
