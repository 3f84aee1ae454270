-- The words of tokens, one after another, whose formulas have connectors with names.
use Rattle.std.proofs.Common.{◌≡◌, ℕ, ◌+◌, ◌<◌, ◌≤◌, List, [], ◌∷◌, ◌++◌, length, get_or, take, Contains, inl, inr, Some, sym, ap, ◌∙◌, subst}
use Rattle.std.specs.FinMap.{get}
use Rattle.std.specs.List.{All}
use Rattle.std.proofs.lemmas.List.{take_all, take_more}
use Rattle.std.proofs.lemmas.List.Elements.{Contains-push_cases, recursion_from_All}
use Rattle.lg_gram.specs.Trees.{Tree}
use Rattle.lg_gram.specs.declared.listing.Token.{Token}
use Rattle.lg_dict.specs.Dictionary.{Dictionary}
use Rattle.lg_disj.specs.Exist.{HasNames}
use Rattle.lg_audit.specs.Pages.{HasNamedWords, HaveNamedWords}

pub named_more : (dict : Dictionary) (words : List (List ℕ)) (i : ℕ) (w : List ℕ) → i < length words → w ≡ get_or words i w → HasNamedWords dict (take i words)
    → ((t : Tree) → get dict.words w ≡ Some t → HasNames t) → HasNamedWords dict (take (i + 1) words)
named_more dict words i w within read before one word t has got =
    let more : take (i + 1) words ≡ take i words ++ w ∷ [] = take_more words i w within ∙ ap (λ (v : List ℕ). take i words ++ v ∷ []) (sym read) in
    elim (Contains-push_cases (take i words) w word (subst (λ (l : List (List ℕ)). Contains l word) more has)) [
      | inl old ↦ before word t old got
      | inr same ↦ one t (ap (get dict.words) same ∙ got)
    ]

pub named_all : (dict : Dictionary) (tokens : List Token) (i : ℕ) → length tokens ≤ i → All (λ (t : Token). HasNamedWords dict t.words) (take i tokens) → HaveNamedWords dict tokens
named_all dict tokens i end all =
    recursion_from_All (λ (t : Token). HasNamedWords dict t.words) tokens (subst (All (λ (t : Token). HasNamedWords dict t.words)) (take_all i tokens end) all)
