-- Lines that have no line feed, and texts that begin with lines.
use Rattle.std.proofs.Common.{◌≡◌, ℕ, Bool, true, false, List, [], ◌∷◌, ◌++◌, map, decimal, codes, Option, Some, None, MatchOption, refl, ap, ◌∙◌, sym, subst, arith}
use Rattle.std.specs.List.{flat_map, AllByRecursion}
use Rattle.std.proofs.lemmas.Grind.{flat_map-append}
use Rattle.std.proofs.lemmas.List.{append_assoc, append-nil, map-append}
use Rattle.lg_base.specs.Costs.{cost_text}
use Rattle.lg_gram.specs.declared.listing.Violation.{Violation}
use Rattle.lg_text.specs.Shown.{IsOneLine, closed}
use Rattle.lg_audit.specs.declared.shown.ShownEnd.{ShownEnd}
use Rattle.lg_audit.specs.declared.shown.ShownSums.{ShownSums}
use Rattle.lg_audit.specs.Pieces.{IsNumber}
use Rattle.lg_audit.specs.Lines.{heading_line, AreSumsInForm, fail_line, IsViolationInForm, page_line, end_word, IsEndInForm}
use Rattle.lg_audit.proofs.Cuts.{decimal_lacks, has_one}
use Rattle.lg_audit.proofs.PrintedCosts.{cost_single}
use Rattle.lg_audit.proofs.Rows.{same_line, spaced_single, small_single}

pub number_single : (n : ℕ) → IsNumber n → IsOneLine (decimal n)
number_single n fits = decimal_lacks 10 n fits (λ range. omega arith)

pub heading_single : (n : ℕ) (sums : ShownSums) → IsNumber n → AreSumsInForm sums → IsOneLine (heading_line n sums)
heading_single n sums fits form =
    let costs : List ℕ = cost_text sums.cost ++ 32 ∷ (codes "length " ++ decimal sums.length) in
    spaced_single (decimal n) (codes "unused " ++ (decimal sums.unused ++ 32 ∷ (codes "cost " ++ costs))) (number_single n fits)
    (spaced_single (decimal sums.unused) (codes "cost " ++ costs) (number_single sums.unused form.unused)
    (spaced_single (cost_text sums.cost) (codes "length " ++ decimal sums.length) (cost_single sums.cost form.cost) (number_single sums.length form.length)))

pub fail_single : (n : ℕ) (v : Violation) → IsNumber n → IsViolationInForm v → IsOneLine (fail_line n v)
fail_single n v fits form =
    let ends : List ℕ = decimal v.left ++ 32 ∷ decimal v.right in
    spaced_single (decimal n) (codes "rule " ++ (decimal v.rule ++ 32 ∷ (codes "link " ++ ends))) (number_single n fits)
    (spaced_single (decimal v.rule) (codes "link " ++ ends) (small_single v.rule form.rule)
    (spaced_single (decimal v.left) (decimal v.right) (small_single v.left form.left) (small_single v.right form.right)))

end_single : (end : Bool) → IsOneLine (end_word end)
end_single true = refl
end_single false = refl

pub page_single : (e : ShownEnd) → IsEndInForm e → IsOneLine (page_line e)
page_single e form =
    let nexts : List ℕ = decimal e.next ++ 32 ∷ end_word e.end in
    spaced_single (decimal e.shown) (codes "examined " ++ (decimal e.examined ++ 32 ∷ (codes "next " ++ nexts))) (number_single e.shown form.shown)
    (spaced_single (decimal e.examined) (codes "next " ++ nexts) (number_single e.examined form.examined)
    (spaced_single (decimal e.next) (end_word e.end) (number_single e.next form.next) (end_single e.end)))

-- ---- texts that begin with lines

-- the first line, and what stands behind it
pub cut_front : (text line rest h s : List ℕ) (ls : List (List ℕ)) → IsOneLine line → IsOneLine h → text ≡ closed line ++ rest → text ≡ flat_map closed (h ∷ ls) ++ s
    → (line ≡ h) × (rest ≡ flat_map closed ls ++ s)
cut_front text line rest h s ls p q e f = same_line text line h rest (flat_map closed ls ++ s) p q e (f ∙ append_assoc (closed h) (flat_map closed ls) s)

-- a text without a line feed has no line
pub no_front : (text h s : List ℕ) (ls : List (List ℕ)) → IsOneLine text → text ≡ flat_map closed (h ∷ ls) ++ s → ⊥
no_front text h s ls single is =
    has_one 10 h (flat_map closed ls ++ s) (subst IsOneLine (is ∙ append_assoc (closed h) (flat_map closed ls) s ∙ append_assoc h (10 ∷ []) (flat_map closed ls ++ s)) single)

pub joined : (xs ys : List (List ℕ)) (s : List ℕ) → flat_map closed (xs ++ ys) ++ s ≡ flat_map closed xs ++ (flat_map closed ys ++ s)
joined xs ys s = ap (λ (t : List ℕ). t ++ s) (flat_map-append closed xs ys) ∙ append_assoc (flat_map closed xs) (flat_map closed ys) s

pub one_line : (l s : List ℕ) → closed l ++ s ≡ flat_map closed (l ∷ []) ++ s
one_line l s = ap (λ (t : List ℕ). t ++ s) (sym (append-nil (closed l)))

-- ---- what was found

module _ {A : Type 0} (N : Type 0) (S : A → Type 0) where
  pub when_some : (o : Option A) (x : A) → o ≡ Some x → MatchOption o N S → S x
  when_some o x is m = subst (λ (p : Option A). MatchOption p N S) is m

  pub when_none : (o : Option A) → o ≡ None → MatchOption o N S → N
  when_none o is m = subst (λ (p : Option A). MatchOption p N S) is m

  pub unless_some : (o : Option A) → ((x : A) → o ≡ Some x → ⊥) → MatchOption o N S → N
  unless_some None never m = m
  unless_some (Some x) never m = absurd (never x refl)

-- ---- one more at the end of a list

pub all_push : {X : Type 0} (P : X → Type 0) (xs : List X) (x : X) → AllByRecursion P xs → P x → AllByRecursion P (xs ++ x ∷ [])
all_push P [] x all p = (p, tt)
all_push P (y ∷ xs) x all p = (all.0, all_push P xs x all.1 p)

-- as contracts see the list
pub pushed : {A X : Type 0} (f : A → X) (new old : List A) (x : A) → new ≡ old ++ x ∷ [] → map f new ≡ map f old ++ f x ∷ []
pushed f new old x is = ap (map f) is ∙ map-append f old (x ∷ [])
