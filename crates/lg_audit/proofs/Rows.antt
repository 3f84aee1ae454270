-- Runs of lines.
use Rattle.std.proofs.Common.{◌≡◌, ℕ, List, [], ◌∷◌, ◌++◌, refl, sym, ◌∙◌, subst, eqb, decimal, Option, Some, None, IfSome, arith}
use Rattle.std.specs.List.{list_any}
use Rattle.std.proofs.lemmas.Bool.{or_from}
use Rattle.std.proofs.lemmas.List.{append_assoc}
use Rattle.std.proofs.lemmas.List.Folds.{list_any-append}
use Rattle.lg_text.specs.Shown.{IsOneLine, closed}
use Rattle.lg_base.specs.Costs.{cost_text}
use Rattle.lg_audit.specs.Lines.{line, ShownChoice, ShownWord, choice_pieces, ShownLink, word_line, link_line, IsChoiceInForm, IsWordInForm, IsLinkInForm}
use Rattle.lg_audit.specs.Pieces.{IsSmallNumber}
use Rattle.lg_audit.proofs.Cuts.{same_cut, decimal_lacks}
use Rattle.lg_audit.proofs.PrintedCosts.{cost_single}
use Rattle.lg_audit.proofs.Choices.{word_parts}

-- a text has one first line
pub same_line : (left a b r s : List ℕ) → IsOneLine a → IsOneLine b → left ≡ closed a ++ r → left ≡ closed b ++ s → (a ≡ b) × (r ≡ s)
same_line left a b r s p q e f = same_cut 10 a b r s p q (sym (append_assoc a (10 ∷ []) r) ∙ sym e ∙ f ∙ append_assoc b (10 ∷ []) s)

-- ---- lines of positions

pub spaced_single : (a b : List ℕ) → IsOneLine a → IsOneLine b → IsOneLine (a ++ 32 ∷ b)
spaced_single a b p q = list_any-append (eqb 10) a (32 ∷ b) ∙ or_from (list_any (eqb 10) a) (list_any (eqb 10) b) p q

choice_single : (o : Option ShownChoice) → IfSome o IsChoiceInForm → IsOneLine (line (choice_pieces o))
choice_single None form = refl
choice_single (Some c) form =
    spaced_single c.word (c.left ++ 32 ∷ (c.right ++ 32 ∷ cost_text c.cost)) form.word
    (spaced_single c.left (c.right ++ 32 ∷ cost_text c.cost) form.left.single (spaced_single c.right (cost_text c.cost) form.right.single (cost_single c.cost form.cost)))

pub word_single : (w : ShownWord) → IsWordInForm w → IsOneLine (word_line w)
word_single w form =
    subst IsOneLine (sym (word_parts w))
    (spaced_single (decimal w.position) (w.text ++ 32 ∷ line (choice_pieces w.choice)) (decimal_lacks 10 w.position form.position (λ range. omega arith))
    (spaced_single w.text (line (choice_pieces w.choice)) form.text.single (choice_single w.choice form.choice)))

-- ---- lines of links

pub small_single : (n : ℕ) → IsSmallNumber n → IsOneLine (decimal n)
small_single n small = decimal_lacks 10 n (omega arith) (λ range. omega arith)

pub link_single : (l : ShownLink) → IsLinkInForm l → IsOneLine (link_line l)
link_single l form =
    let places : List ℕ = decimal l.link.lplace ++ 32 ∷ decimal l.link.rplace in
    spaced_single (decimal l.link.left) (decimal l.link.right ++ 32 ∷ (l.label ++ 32 ∷ places)) (small_single l.link.left form.left)
    (spaced_single (decimal l.link.right) (l.label ++ 32 ∷ places) (small_single l.link.right form.right)
    (spaced_single l.label places form.label.single (spaced_single (decimal l.link.lplace) (decimal l.link.rplace) (small_single l.link.lplace form.lplace) (small_single l.link.rplace form.rplace))))
