-- Causes for which an edit is refused.
use Rattle.std.proofs.Common.{◌≡◌, ℕ, Bool, true, List, [], ◌∷◌, ◌++◌, decimal, codes, Option, Some, None, IfSome, MatchOption, refl, ap, sym, ◌∙◌, subst, arith, eqb}
use Rattle.std.specs.Cmp.Lexicographic.{pointwise}
use Rattle.std.proofs.lemmas.Bool.Decides.{Decides-eqb}
use Rattle.std.proofs.lemmas.List.{append_cancel_left}
use Rattle.std.proofs.lemmas.Slice.Eq.{slice_eq-Decides}
use Rattle.lg_gram.specs.declared.edit.EditRefusal.{EditRefusal}
use Rattle.lg_gram.specs.declared.edit.EditRefusal.TheVariants.{UnknownMacro, TooDeep, TooManyNodes, TooManyChoices, SideTooLong, NoSuchWord}
use Rattle.lg_text.specs.Replies.{cause_pieces}
use Rattle.lg_text.specs.Shown.{IsOneLine}
use Rattle.lg_audit.specs.Pieces.{Lacks, IsNumber, IsSmallNumber}
use Rattle.lg_audit.specs.Lines.{line}
use Rattle.lg_audit.specs.Documents.{IsCause, IsCauseInForm}
use Rattle.lg_audit.proofs.Cuts.{behind_same, same_cut, decimal_lacks, parts_are_single}

-- a number that stands alone behind a word
pub count_read : (Fits : ℕ → Type 0) (text front number : List ℕ) (r : Option ℕ) → text ≡ front ++ number → IfSome r Fits
    → MatchOption r ((n : ℕ) → Fits n → number ≡ decimal n → ⊥) (λ n. number ≡ decimal n)
    → MatchOption r ((n : ℕ) → Fits n → text ≡ front ++ decimal n → ⊥) (λ n. Fits n × (text ≡ front ++ decimal n))
count_read Fits text front number None is fits none = λ n fits' e. none n fits' (append_cancel_left front number (decimal n) (sym is ∙ e))
count_read Fits text front number (Some n) is fits some = (fits, is ∙ ap (λ (l : List ℕ). front ++ l) some)

made : (text name : List ℕ) (cause : EditRefusal) → IsCauseInForm cause → IsOneLine name → text ≡ line (cause_pieces cause name) → IsCause text
made text name cause form single is = record { cause = cause; name = name; form = form; single = single; is = is }

pub unknown_macro : (text name : List ℕ) → IsOneLine text → text ≡ codes "unknown macro " ++ name → IsCause text
unknown_macro text name single is = made text name (UnknownMacro 0) tt (parts_are_single (codes "unknown macro ") name (subst IsOneLine is single)).1 is

pub too_deep : (text : List ℕ) (n : ℕ) → IsSmallNumber n → text ≡ codes "too deep " ++ decimal n → IsCause text
too_deep text n fits is = made text [] (TooDeep n) fits refl is

pub too_many_nodes : (text : List ℕ) (n : ℕ) → IsNumber n → text ≡ codes "too many nodes " ++ decimal n → IsCause text
too_many_nodes text n fits is = made text [] (TooManyNodes n) fits refl is

pub too_many_choices : (text : List ℕ) (n : ℕ) → IsNumber n → text ≡ codes "too many choices " ++ decimal n → IsCause text
too_many_choices text n fits is = made text [] (TooManyChoices n) fits refl is

pub side_too_long : (text : List ℕ) (n : ℕ) → IsSmallNumber n → text ≡ codes "too many connectors on a side " ++ decimal n → IsCause text
side_too_long text n fits is = made text [] (SideTooLong n) fits refl is

-- where it is none of these, only one cause is left
module _ (text : List ℕ) (no_macro : (name : List ℕ) → text ≡ codes "unknown macro " ++ name → ⊥) (no_depth : (n : ℕ) → IsSmallNumber n → text ≡ codes "too deep " ++ decimal n → ⊥)
    (no_nodes : (n : ℕ) → IsNumber n → text ≡ codes "too many nodes " ++ decimal n → ⊥) (no_choices : (n : ℕ) → IsNumber n → text ≡ codes "too many choices " ++ decimal n → ⊥)
    (no_side : (n : ℕ) → IsSmallNumber n → text ≡ codes "too many connectors on a side " ++ decimal n → ⊥) where
  left : (cause : EditRefusal) (name : List ℕ) → IsCauseInForm cause → text ≡ line (cause_pieces cause name) → text ≡ codes "no such word"
  left (UnknownMacro number) name form is = absurd (no_macro name is)
  left (TooDeep level) name form is = absurd (no_depth level form is)
  left (TooManyNodes n) name form is = absurd (no_nodes n form is)
  left (TooManyChoices n) name form is = absurd (no_choices n form is)
  left (SideTooLong n) name form is = absurd (no_side n form is)
  left NoSuchWord name form is = is

  pub only_word : (r : Bool) → r ≡ pointwise eqb text (codes "no such word") → (r ≡ true → IsCause text) × (IsCause text → r ≡ true)
  only_word r is =
      let same = slice_eq-Decides Decides-eqb text (codes "no such word") r is in
      (λ yes. made text [] NoSuchWord tt refl (same.0 yes), λ c. same.1 (left c.cause c.name c.form c.is))

-- what stands before the colon, and behind it
pub refusal_cut : (told after piece last cause : List ℕ) (v : ℕ) → told ≡ codes "refused at " ++ after → Lacks 58 piece → after ≡ piece ++ 58 ∷ last → IsNumber v
    → told ≡ codes "refused at " ++ (decimal v ++ 58 ∷ 32 ∷ cause) → (piece ≡ decimal v) × (last ≡ 32 ∷ cause)
refusal_cut told after piece last cause v is none cut fits e =
    same_cut 58 piece (decimal v) last (32 ∷ cause) none (decimal_lacks 58 v fits (λ range. omega arith)) (sym cut ∙ behind_same (codes "refused at ") told after (decimal v ++ 58 ∷ 32 ∷ cause) is e)
