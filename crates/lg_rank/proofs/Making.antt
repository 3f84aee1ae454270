-- The choices of a part, and what a way makes of those of two.
use Rattle.std.proofs.Common.{◌≡◌, ℕ, suc, List, ◌∷◌, ◌++◌, ◌<◌, ◌≤◌, ◌-◌, length, take, drop, ap, sym, ◌∙◌, subst, arith}
use Rattle.lg_rank.specs.Candidates.{made_by, IsSound}
use Rattle.lg_rank.specs.Sources.{part_in, value_in}
use Rattle.lg_rank.specs.Trees.{choice_at, choices_from, picked, row_from}
use Rattle.lg_rank.specs.declared.candidate.Candidate.{Candidate}
use Rattle.lg_rank.specs.declared.source.Source.{Source}
use Rattle.lg_rank.specs.declared.tree.Tree.{Tree}
use Rattle.lg_rank.proofs.Spelling.{joined, long_from, take_from, drop_from, piece}

-- what a part that waits has spelled
pub spelled_long : (s : Source) (xs : List ℕ) → xs ≡ (value_in s).choices → length xs ≡ (part_in s).positions
spelled_long s xs is = ap (λ (l : List ℕ). length l) is ∙ long_from (choice_at (part_in s).tree.value) 0 (part_in s).positions

pub spelled_piece : (s : Source) (xs : List ℕ) (i j : ℕ) → i ≤ j → j ≤ (part_in s).positions → xs ≡ (value_in s).choices → take (j - i) (drop i xs) ≡ choices_from (part_in s).tree.value i (j - i)
spelled_piece s xs i j rising within is =
    ap (λ (l : List ℕ). take (j - i) (drop i l)) is ∙ piece (choice_at (part_in s).tree.value) i (j - i) (part_in s).positions (omega arith)

module _ (c : Candidate) (sound : IsSound c) where
  long_left : length (row_from (choice_at (part_in c.left).tree.value) 0 (part_in c.left).positions) ≡ (part_in c.left).positions
  long_left = long_from (choice_at (part_in c.left).tree.value) 0 (part_in c.left).positions

  -- both parts have as many positions
  pub same_positions : (part_in c.left).positions ≡ (part_in c.right).positions
  same_positions = sym long_left ∙ sym sound.right.long ∙ long_from (choice_at (part_in c.right).tree.value) 0 (part_in c.right).positions

  pub word_within : c.way.word < (part_in c.left).positions
  word_within = subst (λ (i : ℕ). c.way.word < i) long_left sound.way.word

pub tree_choices : (c : Candidate) (t l r : Tree) → IsSound c → choice_at t ≡ picked c.way.word c.way.choice (choice_at l) (choice_at r) → l ≡ (part_in c.left).tree.value → r ≡ (part_in c.right).tree.value → choices_from t 0 (part_in c.left).positions ≡ (made_by c).choices
tree_choices c t l r sound is e d =
    let f = choice_at (part_in c.left).tree.value in
    let g = choice_at (part_in c.right).tree.value in
    let m = (part_in c.left).positions in
    let n = (part_in c.right).positions in
    let same : m ≡ n = same_positions c sound in
    let within : c.way.word < m = word_within c sound in
    (λ h. row_from (is h) 0 m) ∙ (λ h. row_from (picked c.way.word c.way.choice (choice_at (e h)) (choice_at (d h))) 0 m)
    ∙ joined c.way.word c.way.choice f g m within ∙ (λ h. take c.way.word (row_from f 0 m) ++ c.way.choice ∷ drop (suc c.way.word) (row_from g 0 (same h)))

-- what is spelled: the choices before the word, its own, and those behind it
pub spelled_choices : (c : Candidate) (before start behind : ℕ) → IsSound c → before ≡ c.way.word → start ≡ suc c.way.word → behind ≡ (part_in c.left).positions - suc c.way.word → choices_from (part_in c.left).tree.value 0 before ++ c.way.choice ∷ choices_from (part_in c.right).tree.value start behind ≡ (made_by c).choices
spelled_choices c before start behind sound e s d =
    let f = choice_at (part_in c.left).tree.value in
    let g = choice_at (part_in c.right).tree.value in
    let m = (part_in c.left).positions in
    let n = (part_in c.right).positions in
    let w = c.way.word in
    let same : m ≡ n = same_positions c sound in
    let within : w < m = word_within c sound in
    (λ h. row_from f 0 (e h) ++ c.way.choice ∷ row_from g (s h) (d h))
    ∙ sym (λ h. take_from f 0 w m (omega arith) h ++ c.way.choice ∷ drop_from g 0 (suc w) (suc w) (m - suc w) n (omega arith) (omega arith) h)
