-- Lines of positions, taken apart.
use Rattle.std.proofs.Common.{◌≡◌, ◌≢◌, ℕ, ◌<◌, ◌^◌, List, [], ◌∷◌, ◌++◌, decimal, codes, Option, Some, None, IfSome, refl, ap, sym, ◌∙◌, subst}
use Rattle.lg_base.specs.Costs.{cost_text}
use Rattle.lg_text.specs.Shown.{IsOneLine}
use Rattle.lg_audit.specs.Pieces.{HasNoBlank}
use Rattle.lg_audit.specs.Lines.{line, ShownChoice, ShownWord, choice_pieces, choice_text, word_line, IsChoiceInForm, IsWordInForm}
use Rattle.lg_audit.proofs.Cuts.{has_blank, same_last, grouped, parts_are_single}
use Rattle.lg_audit.proofs.PrintedCosts.{cost_solid}

-- ---- what a position uses

module _ (used : List ℕ) (c : ShownChoice) (form : IsChoiceInForm c) (is : used ≡ choice_text c) where
  pub cost_is : (before last : List ℕ) → HasNoBlank last → used ≡ before ++ 32 ∷ last → (before ≡ (c.word ++ 32 ∷ c.left) ++ 32 ∷ c.right) × (last ≡ cost_text c.cost)
  cost_is before last solid cut =
      same_last before ((c.word ++ 32 ∷ c.left) ++ 32 ∷ c.right) last (cost_text c.cost) solid (cost_solid c.cost form.cost) (sym cut ∙ is ∙ grouped c.word c.left c.right (cost_text c.cost))

  pub some_right : (before last : List ℕ) → HasNoBlank last → used ≡ before ++ 32 ∷ last → HasNoBlank before → ⊥
  some_right before last solid cut none = has_blank (c.word ++ 32 ∷ c.left) c.right (subst HasNoBlank (cost_is before last solid cut).0 none)

  pub some_left : (before last front right : List ℕ) → HasNoBlank last → used ≡ before ++ 32 ∷ last → HasNoBlank right → before ≡ front ++ 32 ∷ right → HasNoBlank front → ⊥
  some_left before last front right solid cut solid' cut' none =
      let fronts = same_last front (c.word ++ 32 ∷ c.left) right c.right solid' form.right.solid (sym cut' ∙ (cost_is before last solid cut).0) in
      has_blank c.word c.left (subst HasNoBlank fronts.0 none)

-- ---- a position

-- a line of a position is its number, its text, and what it uses
pub word_parts : (w : ShownWord) → word_line w ≡ codes "word " ++ (decimal w.position ++ 32 ∷ (w.text ++ 32 ∷ line (choice_pieces w.choice)))
word_parts w = by_choice w.position w.text w.choice
  where
    by_choice : (p : ℕ) (text : List ℕ) (o : Option ShownChoice) → line (codes "word" ∷ decimal p ∷ text ∷ choice_pieces o) ≡ codes "word " ++ (decimal p ++ 32 ∷ (text ++ 32 ∷ line (choice_pieces o)))
    by_choice p text None = refl
    by_choice p text (Some c) = refl

-- what is neither null nor a choice
pub no_use : (used : List ℕ) → used ≢ codes "null" → ((c : ShownChoice) → IsChoiceInForm c → used ≡ choice_text c → ⊥)
    → (o : Option ShownChoice) → IfSome o IsChoiceInForm → used ≡ line (choice_pieces o) → ⊥
no_use used not_null none None form is = not_null is
no_use used not_null none (Some c) form is = none c form is

-- a line that says null
pub null_read : (text rest piece used : List ℕ) (p : ℕ) → IsOneLine text → p < 2 ^ 64 → HasNoBlank piece → text ≡ codes "word " ++ (decimal p ++ 32 ∷ rest) → rest ≡ piece ++ 32 ∷ used → used ≡ codes "null"
    → IsWordInForm (record { position = p; text = piece; choice = None }) × (text ≡ word_line (record { position = p; text = piece; choice = None }))
null_read text rest piece used p single small solid is cut null =
    let all : text ≡ codes "word " ++ (decimal p ++ 32 ∷ (piece ++ 32 ∷ used)) = is ∙ ap (λ (l : List ℕ). codes "word " ++ (decimal p ++ 32 ∷ l)) cut in
    let behind = parts_are_single (decimal p) (32 ∷ (piece ++ 32 ∷ used)) (parts_are_single (codes "word ") (decimal p ++ 32 ∷ (piece ++ 32 ∷ used)) (subst IsOneLine all single)).1 in
    let one : IsOneLine piece = (parts_are_single piece (32 ∷ used) (parts_are_single (32 ∷ []) (piece ++ 32 ∷ used) behind.1).1).0 in (
      record { position = small; text = record { solid = solid; single = one }; choice = tt },
      all ∙ ap (λ (l : List ℕ). codes "word " ++ (decimal p ++ 32 ∷ (piece ++ 32 ∷ l))) null,
    )
